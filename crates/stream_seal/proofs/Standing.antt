-- When a sealer stands for a session after a call.
use Rattle.std.proofs.Common.{◌≡◌, ◌≢◌, ℕ, ◌+◌, ◌-◌, ◌*◌, ◌≤◌, List, [], ◌++◌, length, take, Bool, true, false, ◌==◌, if◌then◌else◌, Option, Some, None, Result, Ok, Err, refl, sym, ap, subst, ◌∙◌, arith}
use Rattle.std.proofs.lemmas.Bool.{true≢false, eqb-true, eqb-false}
use Rattle.std.proofs.lemmas.List.{append-nil, length-append, length-drop, length-take-le, drop-append-le, drop_all}
use Rattle.frame_codec.specs.Unit.{Under}
use Rattle.frame_codec.specs.UnitHead.{final_mark}
use Rattle.frame_codec.specs.Written.{final_frame, regular_frame}
use Rattle.suite_table.specs.declared.suite.Suite.TheVariants.{Committing}
use Rattle.suite_table.specs.Keys.{derived}
use Rattle.stream_seal.specs.declared.declared_length.Declared.{Declared}
use Rattle.stream_seal.specs.declared.errors.SealError.{SealError}
use Rattle.stream_seal.specs.declared.errors.SealError.TheVariants as errors
use Rattle.stream_seal.specs.declared.session.Sealer.{Sealer}
use Rattle.stream_seal.specs.DeclaredLength.{declared_after, spent, declared_within, after}
use Rattle.stream_seal.specs.FrameBuffer.{FrameValue}
use Rattle.stream_seal.specs.Session.{SealingValue, Doing, Gives, Takes, spent_of, within_of, held, doing, answer_of, after_doing, sealing_step_answer, sealing_stepped, sealing_finish_answer, sealing_finished, under_of}
use Rattle.stream_seal.specs.Stands.{Stands}
use Rattle.stream_seal.specs.Start.{most_frames}
use Rattle.stream_seal.proofs.Doing.{GoesOn}

-- ---- the declared length

spent_is : (declared : Option ℕ) (taken : ℕ) → spent (declared_after declared taken) ≡ spent_of declared taken
spent_is None taken = refl
spent_is (Some whole) taken = refl

within_is : (declared : Option ℕ) (taken count : ℕ) → declared_within (declared_after declared taken) count ≡ within_of declared taken count
within_is None taken count = refl
within_is (Some whole) taken count = refl

abbrev declared_with : ℕ → ℕ → Option Declared
declared_with whole left = Some (record { whole = whole; left = left })

after_is : (declared : Option ℕ) (taken count : ℕ) → after (declared_after declared taken) count ≡ declared_after declared (taken + count)
after_is None taken count = refl
after_is (Some whole) taken count = let e : whole - taken - count ≡ whole - (taken + count) = omega arith in ap (λ (n : ℕ). declared_with whole n) e

pub spent_now : (old : Sealer) (v : SealingValue) (o : Option ℕ) → Stands old v → o ≡ spent old.declared → spent_of v.declared (length v.taken) ≡ o
spent_now old v o stands is = sym (spent_is v.declared (length v.taken)) ∙ ap spent (sym stands.declared) ∙ sym is

-- a session that goes on with this piece
pub goes_on : (old : Sealer) (v : SealingValue) (piece : List ℕ) (empty : Bool) (o : Option ℕ) → Stands old v → old.stopped ≡ false → empty ≡ (length piece == 0) → empty ≡ false
    → o ≡ spent old.declared → o ≡ None → GoesOn v piece
goes_on old v piece empty o stands on is_empty some is_spent unspent = record {
  on = sym stands.stopped ∙ on;
  some = eqb-false (length piece) 0 (sym is_empty ∙ some);
  unspent = spent_now old v o stands is_spent ∙ unspent;
}

-- ---- what a call answers, by what it does

pub answers : (v : SealingValue) (piece : List ℕ) (d : Doing) (r : Result ℕ SealError) → doing v piece ≡ d → r ≡ answer_of d → r ≡ sealing_step_answer v piece
answers v piece d r does is = is ∙ ap answer_of (sym does)

pub stands_after : (next : Sealer) (v : SealingValue) (piece : List ℕ) (d : Doing) → doing v piece ≡ d → Stands next (after_doing v piece d) → Stands next (sealing_stepped v piece)
stands_after next v piece d does stands = subst (λ x. Stands next (after_doing v piece x)) (sym does) stands

pub finish_stopped : (v : SealingValue) → v.stopped ≡ true → sealing_finish_answer v ≡ Err errors.Stopped
unfolding sealing_finish_answer
finish_stopped v stopped = rw stopped refl

pub finish_on : (v : SealingValue) → v.stopped ≡ false → sealing_finish_answer v ≡ Ok tt
unfolding sealing_finish_answer
finish_on v on = rw on refl

pub finished_stopped : (v : SealingValue) → v.stopped ≡ true → sealing_finished v ≡ record v { out = [] }
unfolding sealing_finished
finished_stopped v stopped = rw stopped refl

pub finished_on : (v : SealingValue) → v.stopped ≡ false → sealing_finished v ≡ record v { stopped = true; out = final_frame (under_of v) (v.handed + 1) (held v) }
unfolding sealing_finished
finished_on v on = rw on refl

-- ---- what stands after it

-- nothing was taken or given
pub stands_quiet : (old : Sealer) (v : SealingValue) (frame : FrameValue) (b stopped : Bool) → Stands old v → frame ≡ record old.frame { out = [] } → b ≡ stopped
    → (stopped ≡ false → v.stopped ≡ false) → Stands (record old { frame = frame; stopped = b }) (record v { stopped = stopped; out = [] })
stands_quiet old v frame b stopped stands is same on = record {
  header = stands.header;
  key = stands.key;
  id = stands.id;
  size = ap (λ (f : FrameValue). f.size) is ∙ stands.size;
  stopped = same;
  out = ap (λ (f : FrameValue). f.out) is;
  number = stands.number;
  declared = stands.declared;
  full = stands.full;
  text = λ goes. ap (λ (f : FrameValue). f.text) is ∙ stands.text (on goes);
}

-- an error
pub stands_stopped : (old : Sealer) (v : SealingValue) (frame : FrameValue) (b : Bool) → Stands old v → frame ≡ record old.frame { out = [] } → b ≡ true
    → Stands (record old { frame = frame; stopped = b }) (record v { stopped = true; out = [] })
stands_stopped old v frame b stands is stopped = stands_quiet old v frame b true stands is stopped (λ e. absurd (true≢false e))

-- the end of a session that is stopped
pub stands_still : (old : Sealer) (v : SealingValue) (frame : FrameValue) → Stands old v → frame ≡ record old.frame { out = [] } → v.stopped ≡ true
    → Stands (record old { frame = frame }) (sealing_finished v)
stands_still old v frame stands is stopped =
    subst (λ w. Stands (record old { frame = frame }) w) (sym (finished_stopped v stopped)) (stands_quiet old v frame old.stopped v.stopped stands is stands.stopped (λ e. e))

-- an empty piece
pub stands_empty : (old : Sealer) (v : SealingValue) (frame : FrameValue) (piece : List ℕ) → Stands old v → frame ≡ record old.frame { out = [] }
    → Stands (record old { frame = frame }) (after_doing v piece (Takes 0))
stands_empty old v frame piece stands is =
    subst (λ (t : List ℕ). Stands (record old { frame = frame }) (record v { taken = t; out = [] })) (sym (append-nil v.taken))
    (stands_quiet old v frame old.stopped v.stopped stands is stands.stopped (λ e. e))

-- bytes taken
pub stands_takes : (old : Sealer) (v : SealingValue) (opened frame : FrameValue) (declared : Option Declared) (piece : List ℕ) (used : ℕ) → Stands old v → v.stopped ≡ false → used ≤ length piece
    → opened ≡ record old.frame { out = [] } → frame ≡ record opened { text = opened.text ++ take used piece } → declared ≡ after old.declared used
    → Stands (record old { frame = frame; declared = declared }) (after_doing v piece (Takes used))
stands_takes old v opened frame declared piece used stands on within is pushed_is after_now =
    let more : List ℕ = take used piece in
    let long : length v.taken + used ≡ length (v.taken ++ more) = omega (arith, length-append v.taken more, length-take-le used piece within) in
    record {
      header = stands.header;
      key = stands.key;
      id = stands.id;
      size = ap (λ (f : FrameValue). f.size) pushed_is ∙ ap (λ (f : FrameValue). f.size) is ∙ stands.size;
      stopped = stands.stopped;
      out = ap (λ (f : FrameValue). f.out) pushed_is ∙ ap (λ (f : FrameValue). f.out) is;
      number = stands.number;
      declared = after_now ∙ ap (λ (d : Option Declared). after d used) stands.declared ∙ after_is v.declared (length v.taken) used ∙ ap (declared_after v.declared) long;
      full = omega (arith, stands.full);
      text = λ _. ap (λ (f : FrameValue). f.text) pushed_is ∙ ap (λ (f : FrameValue). f.text ++ more) is ∙ ap (λ (l : List ℕ). l ++ more) (stands.text on)
          ∙ sym (drop-append-le (v.handed * v.size) v.taken more stands.full);
    }

abbrev pub under_with : List ℕ → List ℕ → Under
under_with key id = record { key = key; id = id }

under_is : (old : Sealer) (v : SealingValue) → Stands old v → under_with old.key old.message_id ≡ under_of v
under_is old v stands =
    ap (λ (k : List ℕ). under_with k old.message_id) stands.key ∙ ap (λ (i : List ℕ). under_with (derived Committing v.materials.key v.id) i) stands.id

-- a frame that is sealed as these words say is the session's
sealed_is : (old : Sealer) (v : SealingValue) (opened : FrameValue) (seal : Under → ℕ → List ℕ → List ℕ) → Stands old v → v.stopped ≡ false → opened ≡ record old.frame { out = [] }
    → seal (under_with old.key old.message_id) old.number opened.text ≡ seal (under_of v) (v.handed + 1) (held v)
sealed_is old v opened seal stands on is =
    ap (λ (u : Under). seal u old.number opened.text) (under_is old v stands) ∙ ap (λ (n : ℕ). seal (under_of v) n opened.text) stands.number
    ∙ ap (λ (l : List ℕ). seal (under_of v) (v.handed + 1) l) (ap (λ (f : FrameValue). f.text) is ∙ stands.text on)

-- a regular frame given
pub stands_gives : (old : Sealer) (v : SealingValue) (opened frame : FrameValue) (number : ℕ) (piece : List ℕ) → Stands old v → v.stopped ≡ false → length (held v) ≡ v.size
    → opened ≡ record old.frame { out = [] } → frame ≡ record opened { text = []; out = regular_frame (under_with old.key old.message_id) old.number opened.text }
    → number ≡ old.number + 1 → Stands (record old { frame = frame; number = number }) (after_doing v piece Gives)
stands_gives old v opened frame number piece stands on full is sealed_now next =
    let product : (v.handed + 1) * v.size ≡ v.handed * v.size + v.size = omega arith in
    let held_is : length (held v) ≡ length v.taken - v.handed * v.size = length-drop (v.handed * v.size) v.taken in
    record {
      header = stands.header;
      key = stands.key;
      id = stands.id;
      size = ap (λ (f : FrameValue). f.size) sealed_now ∙ ap (λ (f : FrameValue). f.size) is ∙ stands.size;
      stopped = stands.stopped;
      out = ap (λ (f : FrameValue). f.out) sealed_now ∙ sealed_is old v opened regular_frame stands on is;
      number = omega (arith, next, stands.number);
      declared = stands.declared;
      full = omega (arith, full, stands.full);
      text = λ _. ap (λ (f : FrameValue). f.text) sealed_now ∙ sym (drop_all ((v.handed + 1) * v.size) v.taken (omega (arith, full, stands.full)));
    }

-- the final frame given
pub stands_finished : (old : Sealer) (v : SealingValue) (opened frame : FrameValue) → Stands old v → v.stopped ≡ false
    → opened ≡ record old.frame { out = [] } → frame ≡ record opened { text = []; out = final_frame (under_with old.key old.message_id) old.number opened.text }
    → Stands (record old { frame = frame; stopped = true }) (sealing_finished v)
stands_finished old v opened frame stands on is sealed_now = subst (λ w. Stands (record old { frame = frame; stopped = true }) w) (sym (finished_on v on)) (record {
  header = stands.header;
  key = stands.key;
  id = stands.id;
  size = ap (λ (f : FrameValue). f.size) sealed_now ∙ ap (λ (f : FrameValue). f.size) is ∙ stands.size;
  stopped = refl;
  out = ap (λ (f : FrameValue). f.out) sealed_now ∙ sealed_is old v opened final_frame stands on is;
  number = stands.number;
  declared = stands.declared;
  full = stands.full;
  text = λ goes. absurd (true≢false goes);
})

-- ---- room in the frame

pub record HasRoom (v : SealingValue) (room : ℕ) : Type 0 where
  pub is : room ≡ v.size - length (held v)
  pub within : length (held v) ≤ v.size

pub room_is : (old : Sealer) (v : SealingValue) (opened : FrameValue) (room : ℕ) → Stands old v → v.stopped ≡ false → opened ≡ record old.frame { out = [] }
    → room ≡ opened.size - length opened.text → length opened.text ≤ opened.size → HasRoom v room
room_is old v opened room stands on is room_now short =
    let size : opened.size ≡ v.size = ap (λ (f : FrameValue). f.size) is ∙ stands.size in
    let text : opened.text ≡ held v = ap (λ (f : FrameValue). f.text) is ∙ stands.text on in
    record { is = omega (arith, room_now, size, ap length text); within = omega (arith, size, ap length text, short) }

pub used_is : (old : Sealer) (v : SealingValue) (used count : ℕ) → Stands old v → used ≡ declared_within old.declared count → used ≡ within_of v.declared (length v.taken) count
used_is old v used count stands is = is ∙ ap (λ (d : Option Declared). declared_within d count) stands.declared ∙ within_is v.declared (length v.taken) count

-- ---- the number of the next frame

abbrev pub next_of : ℕ → Option ℕ
next_of number = if number == final_mark then None else Some (number + 1)

pub record IsNext (number next : ℕ) : Type 0 where
  pub is : next ≡ number + 1
  pub more : number ≢ most_frames

next_by : (number next : ℕ) (b : Bool) → (number == final_mark) ≡ b → (if b then None else Some (number + 1)) ≡ Some next → IsNext number next
next_by number next true last is = absurd (cc)
next_by number next false more is = record { is = sym (some_same (number + 1) next is); more = eqb-false number most_frames more }
  where
    some_same : (x y : ℕ) → Some x ≡ Some y → x ≡ y
    some_same x y e = cc

pub next_some : (number next : ℕ) → next_of number ≡ Some next → IsNext number next
next_some number next is = next_by number next (number == final_mark) refl is

none_by : (number : ℕ) (b : Bool) → (number == final_mark) ≡ b → (if b then None else Some (number + 1)) ≡ None → number ≡ most_frames
none_by number true last is = eqb-true number most_frames last
none_by number false more is = absurd (cc)

pub next_none : (number : ℕ) → next_of number ≡ None → number ≡ most_frames
next_none number is = none_by number (number == final_mark) refl is
