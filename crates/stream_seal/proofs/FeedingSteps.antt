-- One step of a session that is being fed.
use Rattle.std.proofs.Common.{◌≡◌, ◌≢◌, ℕ, suc, ◌+◌, ◌-◌, ◌*◌, ◌<◌, ◌≤◌, List, [], ◌++◌, length, take, drop, min, Bool, true, false, ◌==◌, Option, Some, None, Result, if◌then◌else◌, is_some, refl, sym, ap, subst, ◌∙◌, arith, inl, inr, nat_le, append_assoc}
use Rattle.std.specs.List.{range_with_len}
use Rattle.std.proofs.Math.Nat.{mul-le-mul_right}
use Rattle.std.proofs.Math.Seq.{take-append-add}
use Rattle.std.proofs.lemmas.Bool.{cases_eq, cases_lt, eq-eqb, ne_eqb, le-leb, lt-leb}
use Rattle.std.proofs.lemmas.List.{append-nil, length-append, length-drop, length-take, length-take-le, take-append-le, take_all, take-append-drop, drop-append-le}
use Rattle.std.proofs.lemmas.List.Concat.{flat_map-cons}
use Rattle.esdk_fields.specs.declared.refusals.Refusal.{Refusal}
use Rattle.esdk_fields.specs.declared.refusals.Refusal.TheVariants as refusals
use Rattle.frame_codec.specs.Unit.{Under}
use Rattle.frame_codec.specs.Written.{regular_frame}
use Rattle.body_format.specs.Written.{piece, regular_frames}
use Rattle.stream_seal.specs.declared.errors.SealError.{SealError}
use Rattle.stream_seal.specs.declared.errors.SealError.TheVariants as errors
use Rattle.stream_seal.specs.Session.{SealingValue, Stops, Gives, Takes, answer_of, after_doing, beginning, doing, held, spent_of, sealing_step_answer, sealing_stepped, under_of, within_of}
use Rattle.stream_seal.specs.Start.{most_frames, most_text}
use Rattle.stream_seal.specs.Feeding.{frames_given, most_taken, over_of, feed_refusal, fed, frames_behind, fed_out, given_so_far, IsFeeding, work_left, SealerStepsOn, StepsNot, StepFeeds}
use Rattle.stream_seal.proofs.Doing.{GoesOn, doing_spent, doing_takes, doing_last, doing_gives, within_most}
use Rattle.stream_seal.proofs.Refusing.{within_some}
use Rattle.stream_seal.proofs.Frames.{frames_front, frames_more}
use Rattle.stream_seal.proofs.GivenFrames.{AreGiven, are_given, given_is, given_few, given_next, IsMost, most_low, most_spent, most_full, most_more, most_within}

-- ---- what feeding comes to, by the text that is to be taken in all

abbrev pub refusal_with : SealingValue → List ℕ → Option Refusal
refusal_with v all = if nat_le (length all) (most_taken v) then None else Some (over_of v.declared (most_text v.size))

abbrev pub fed_with : SealingValue → List ℕ → SealingValue
fed_with v all =
    record v { taken = take (most_taken v) all; handed = frames_given (length (take (most_taken v) all)) v.size; stopped = is_some (refusal_with v all); out = [] }

abbrev pub out_with : SealingValue → List ℕ → List ℕ
out_with v all = frames_behind v.size (under_of v) (fed_with v all).taken v.handed ((fed_with v all).handed - v.handed)

pub refusal_is : (v : SealingValue) (piece : List ℕ) → feed_refusal v piece ≡ refusal_with v (v.taken ++ piece)
unfolding feed_refusal
refusal_is v piece = refl

pub fed_is : (v : SealingValue) (piece : List ℕ) → fed v piece ≡ fed_with v (v.taken ++ piece)
unfolding fed feed_refusal
fed_is v piece = refl

pub out_is : (v : SealingValue) (piece : List ℕ) → fed_out v piece ≡ out_with v (v.taken ++ piece)
unfolding fed_out fed feed_refusal
out_is v piece = refl

-- there is room
pub refusal_none : (v : SealingValue) (all : List ℕ) → length all ≤ most_taken v → refusal_with v all ≡ None
refusal_none v all short = let test : nat_le (length all) (most_taken v) ≡ true = le-leb (length all) (most_taken v) short in rw test refl

pub refusal_some : (v : SealingValue) (all : List ℕ) (refusal : Refusal) → most_taken v < length all → over_of v.declared (most_text v.size) ≡ refusal → refusal_with v all ≡ Some refusal
refusal_some v all refusal long why = let test : nat_le (length all) (most_taken v) ≡ false = lt-leb (length all) (most_taken v) long in rw test (ap (λ (r : Refusal). Some r) why)

-- ---- frames behind others

pub frames_none : (size : ℕ) (u : Under) (text : List ℕ) (m count : ℕ) → count ≡ 0 → frames_behind size u text m count ≡ []
unfolding frames_behind
frames_none size u text m count none = rw none refl

frames_next : (size : ℕ) (u : Under) (text : List ℕ) (m count : ℕ) → frames_behind size u text m (suc count) ≡ regular_frame u (m + 1) (piece size text m) ++ frames_behind size u text (m + 1) count
unfolding frames_behind
frames_next size u text m count = flat_map-cons (λ i. regular_frame u (i + 1) (piece size text i)) m (range_with_len (m + 1) count)

-- the next frame of a text is of the bytes held, where these are a full frame
frame_held : (size : ℕ) (taken more : List ℕ) (m : ℕ) → m * size ≤ length taken → length (drop (m * size) taken) ≡ size → piece size (taken ++ more) m ≡ drop (m * size) taken
frame_held size taken more m low full =
    ap (take size) (drop-append-le (m * size) taken more low)
    ∙ take-append-le size (drop (m * size) taken) more (omega (arith, full))
    ∙ take_all size (drop (m * size) taken) (omega (arith, full))

-- what is taken begins with what was
pub front_taken : (most : ℕ) (taken rest : List ℕ) → length taken ≤ most → take most (taken ++ rest) ≡ taken ++ take (most - length taken) rest
front_taken most taken rest short =
    let e : most ≡ length taken + (most - length taken) = omega arith in
    ap (λ (n : ℕ). take n (taken ++ rest)) e ∙ take-append-add taken rest (most - length taken)

-- ---- a session on the way

-- the frames handed out are full, and the frame held has room for the rest
pub record IsSound (v : SealingValue) : Type 0 where
  pub low : v.handed * v.size ≤ length v.taken
  pub high : length v.taken ≤ v.handed * v.size + v.size
  pub numbered : v.handed < most_frames
  pub holds : length (held v) ≡ length v.taken - v.handed * v.size

pub sound : (v : SealingValue) (rest : List ℕ) → IsFeeding v rest → IsSound v
sound v rest f =
    let room : length v.taken ≤ most_text v.size = omega (arith, f.short, most_low v.declared (most_text v.size)) in
    let holds : length (held v) ≡ length v.taken - v.handed * v.size = length-drop (v.handed * v.size) v.taken in
    elim f.stage [
      | inl given ↦
          (let are : AreGiven (length v.taken) v.size v.handed = subst (λ (m : ℕ). AreGiven (length v.taken) v.size m) (sym given.0) (are_given (length v.taken) v.size f.wide) in
          record { low = are.low; high = are.high; numbered = given_few (length v.taken) v.size v.handed f.wide are room; holds = holds })
      | inr awaits ↦ record {
        low = omega (arith, awaits.none.all);
        high = omega (arith, awaits.none.all);
        numbered = elim (cases_lt v.handed most_frames) [
          | inl fewer ↦ fewer
          | inr many ↦
              (let long : most_frames * v.size ≤ v.handed * v.size = mul-le-mul_right v.size many in
              absurd (omega (arith, awaits.room, awaits.none.all, most_low v.declared (most_text v.size))))
        ];
        holds = holds;
      }
    ]

-- ---- a step that fails

quiet_stop : (v : SealingValue) (rest : List ℕ) (refusal : Refusal) → IsFeeding v rest → 1 ≤ length rest → IsMost v.declared (most_text v.size) (length v.taken) refusal
    → doing v rest ≡ Stops (errors.Refusal refusal) → StepsNot v rest (sealing_stepped v rest) refusal
quiet_stop v rest refusal f some most does =
    let all : List ℕ = v.taken ++ rest in
    let long : length all ≡ length v.taken + length rest = length-append v.taken rest in
    let why : refusal_with v all ≡ Some refusal = refusal_some v all refusal (omega (arith, most.most, some)) most.why in
    let text : take (most_taken v) all ≡ v.taken =
    ap (λ (n : ℕ). take n all) most.most ∙ take-append-le (length v.taken) v.taken rest (omega arith) ∙ take_all (length v.taken) v.taken (omega arith) in
    let given : frames_given (length v.taken) v.size ≡ v.handed = elim f.stage [
      | inl given ↦ sym given.0
      | inr awaits ↦ absurd (omega (arith, awaits.room, most.most))
    ] in
    let handed : frames_given (length (take (most_taken v) all)) v.size ≡ v.handed = ap (λ (t : List ℕ). frames_given (length t) v.size) text ∙ given in
    record {
      why = refusal_is v rest ∙ why;
      end = ap (after_doing v rest) does
          ∙ ap (λ (t : List ℕ). record v { taken = t; handed = v.handed; stopped = true; out = [] }) (sym text)
          ∙ ap (λ (m : ℕ). record v { taken = take (most_taken v) all; handed = m; stopped = true; out = [] }) (sym handed)
          ∙ ap (λ (o : Option Refusal). record v { taken = take (most_taken v) all; handed = frames_given (length (take (most_taken v) all)) v.size; stopped = is_some o; out = [] }) (sym why)
          ∙ sym (fed_is v rest);
      none = out_is v rest ∙ frames_none v.size (under_of v) (take (most_taken v) all) v.handed (frames_given (length (take (most_taken v) all)) v.size - v.handed) (omega (arith, handed));
    }

-- ---- a step that takes bytes

-- this many bytes can be taken
pub record CanTake (v : SealingValue) (rest : List ℕ) (count : ℕ) : Type 0 where
  pub some : 1 ≤ count
  pub within : count ≤ length rest
  pub room : length (held v) + count ≤ v.size
  pub short : length v.taken + count ≤ most_taken v

given_quiet : (v : SealingValue) (more : List ℕ) → v.handed * v.size ≤ length v.taken → given_so_far (record v { taken = v.taken ++ more; out = [] }) ≡ given_so_far v ++ []
unfolding given_so_far
given_quiet v more low =
    ap (λ (l : List ℕ). beginning v ++ l) (frames_front v.size (under_of v) v.taken more v.handed low) ∙ sym (append-nil (beginning v ++ regular_frames v.size (under_of v) v.taken v.handed))

one_at_most : (b : Bool) → (if b then 1 else 0) ≤ 1
one_at_most true = omega arith
one_at_most false = omega arith

work_less : (v now : SealingValue) (count used : ℕ) → used ≤ count → 1 ≤ used → work_left now (count - used) < work_left v count
work_less v now count used within some = omega (arith, one_at_most (length (held now) == now.size))

takes : (v : SealingValue) (rest : List ℕ) (count : ℕ) → IsFeeding v rest → CanTake v rest count → doing v rest ≡ Takes count → SealerStepsOn v rest (sealing_stepped v rest) count
takes v rest count f can does =
    let is = sound v rest f in
    let more : List ℕ = take count rest in
    let now : SealingValue = record v { taken = v.taken ++ more; out = [] } in
    let is_now : sealing_stepped v rest ≡ now = ap (after_doing v rest) does in
    let long : length more ≡ count = length-take-le count rest can.within in
    let sum : length (v.taken ++ more) ≡ length v.taken + count = omega (arith, length-append v.taken more, long) in
    let all : (v.taken ++ more) ++ drop count rest ≡ v.taken ++ rest = append_assoc v.taken more (drop count rest) ∙ ap (λ (l : List ℕ). v.taken ++ l) (take-append-drop count rest) in
    let given : v.handed ≡ frames_given (length (v.taken ++ more)) v.size =
    sym (given_is (length (v.taken ++ more)) v.size v.handed f.wide (record { low = omega (arith, is.low, sum); high = omega (arith, is.holds, can.room, is.low, sum); rest = λ some. omega (arith, is.low, sum, can.some) })) in
    subst (λ (w : SealingValue). SealerStepsOn v rest w count) (sym is_now) (record {
      within = can.within;
      feeding = record { wide = f.wide; on = f.on; short = omega (arith, sum, can.short); stage = inl (given, refl) };
      same = fed_is now (drop count rest) ∙ ap (fed_with v) all ∙ sym (fed_is v rest);
      same_refusal = refusal_is now (drop count rest) ∙ ap (refusal_with v) all ∙ sym (refusal_is v rest);
      out = out_is v rest ∙ ap (out_with v) (sym all) ∙ sym (out_is now (drop count rest));
      given = given_quiet v more is.low;
      less = work_less v now (length rest) count can.within can.some;
    })

-- ---- a step that gives a frame

work_full : (v : SealingValue) (count : ℕ) → length (held v) ≡ v.size → work_left v count ≡ 2 * count + 1
work_full v count full = let test : (length (held v) == v.size) ≡ true = eq-eqb (length (held v)) v.size full in rw test refl

work_open : (v : SealingValue) (count : ℕ) → length (held v) ≢ v.size → work_left v count ≡ 2 * count + 0
work_open v count more = let test : (length (held v) == v.size) ≡ false = ne_eqb (length (held v)) v.size more in rw test refl

given_frame : (v : SealingValue) → length (held v) ≡ v.size
    → given_so_far (record v { handed = v.handed + 1; out = regular_frame (under_of v) (v.handed + 1) (held v) }) ≡ given_so_far v ++ regular_frame (under_of v) (v.handed + 1) (held v)
unfolding given_so_far
given_frame v full =
    ap (λ (l : List ℕ). beginning v ++ l) (frames_more v.size (under_of v) v.taken v.handed full)
    ∙ sym (append_assoc (beginning v) (regular_frames v.size (under_of v) v.taken v.handed) (regular_frame (under_of v) (v.handed + 1) (held v)))

gives : (v : SealingValue) (rest : List ℕ) → IsFeeding v rest → 1 ≤ length rest → length (held v) ≡ v.size → length v.taken < most_taken v → doing v rest ≡ Gives
    → SealerStepsOn v rest (sealing_stepped v rest) 0
gives v rest f some full room does =
    let is = sound v rest f in
    let frame : List ℕ = regular_frame (under_of v) (v.handed + 1) (held v) in
    let now : SealingValue = record v { handed = v.handed + 1; out = frame } in
    let is_now : sealing_stepped v rest ≡ now = ap (after_doing v rest) does in
    let product : (v.handed + 1) * v.size ≡ v.handed * v.size + v.size = omega arith in
    let all : length v.taken ≡ (v.handed + 1) * v.size = omega (arith, is.holds, is.low, full) in
    let text : List ℕ = take (most_taken v) (v.taken ++ rest) in
    let front : text ≡ v.taken ++ take (most_taken v - length v.taken) rest = front_taken (most_taken v) v.taken rest (omega (arith, room)) in
    let longer : length v.taken < length text = omega (arith, ap length front, length-append v.taken (take (most_taken v - length v.taken) rest), length-take (most_taken v - length v.taken) rest, room, some) in
    let later : v.handed + 1 ≤ frames_given (length text) v.size = given_next (length text) v.size v.handed f.wide (omega (arith, all, longer)) in
    let count : frames_given (length text) v.size - v.handed ≡ suc (frames_given (length text) v.size - (v.handed + 1)) = omega (arith, later) in
    let content : piece v.size text v.handed ≡ held v = ap (λ (t : List ℕ). piece v.size t v.handed) front ∙ frame_held v.size v.taken (take (most_taken v - length v.taken) rest) v.handed is.low full in
    subst (λ (w : SealingValue). SealerStepsOn v rest w 0) (sym is_now) (record {
      within = omega arith;
      feeding = record { wide = f.wide; on = f.on; short = f.short; stage = inr (record { none = record { some = omega arith; all = all }; more = some; room = room }) };
      same = fed_is now rest ∙ sym (fed_is v rest);
      same_refusal = refusal_is now rest ∙ sym (refusal_is v rest);
      out = out_is v rest
          ∙ ap (frames_behind v.size (under_of v) text v.handed) count
          ∙ frames_next v.size (under_of v) text v.handed (frames_given (length text) v.size - (v.handed + 1))
          ∙ ap (λ (l : List ℕ). regular_frame (under_of v) (v.handed + 1) l ++ frames_behind v.size (under_of v) text (v.handed + 1) (frames_given (length text) v.size - (v.handed + 1))) content
          ∙ ap (λ (l : List ℕ). frame ++ l) (sym (out_is now rest));
      given = given_frame v full;
      less = omega (
        arith,
        work_full v (length rest) full,
        work_open now (length rest)
            (λ e. omega (arith, e, length-drop ((v.handed + 1) * v.size) v.taken, all, f.wide)),
      );
    })

-- ---- each step

-- the frame isn't full
open_takes : (v : SealingValue) (rest : List ℕ) → IsFeeding v rest → 1 ≤ length rest → spent_of v.declared (length v.taken) ≡ None → length (held v) ≢ v.size
    → StepFeeds v rest (sealing_stepped v rest) (sealing_step_answer v rest)
open_takes v rest f some unspent open_now =
    let is = sound v rest f in
    let room : ℕ = most_text v.size in
    let step : ℕ = min (v.size - length (held v)) (length rest) in
    let count : ℕ = within_of v.declared (length v.taken) step in
    let goes : GoesOn v rest = record { on = f.on; some = λ none. omega (arith, none, some); unspent = unspent } in
    let does : doing v rest ≡ Takes count = doing_takes v rest goes open_now in
    let product : (v.handed + 1) * v.size ≡ v.handed * v.size + v.size = omega arith in
    let last : (v.handed + 1) * v.size ≤ most_frames * v.size = mul-le-mul_right v.size (omega (arith, is.numbered)) in
    let fits : length v.taken + step ≤ room = omega (arith, is.holds, is.low, is.high, last) in
    let few = within_most v.declared (length v.taken) step in
    let can : CanTake v rest count = record {
      some = within_some v.declared (length v.taken) step unspent (omega (arith, is.holds, is.low, is.high, open_now, some));
      within = omega (arith, few);
      room = omega (arith, few, is.holds, is.low, is.high);
      short = most_within v.declared room (length v.taken) step f.short fits;
    } in
    subst (λ (r : Result ℕ SealError). StepFeeds v rest (sealing_stepped v rest) r) (sym (ap answer_of does)) (takes v rest count f can does)

-- a full frame is held
full_goes : (v : SealingValue) (rest : List ℕ) → IsFeeding v rest → 1 ≤ length rest → spent_of v.declared (length v.taken) ≡ None → length (held v) ≡ v.size
    → StepFeeds v rest (sealing_stepped v rest) (sealing_step_answer v rest)
full_goes v rest f some unspent full =
    let is = sound v rest f in
    let goes : GoesOn v rest = record { on = f.on; some = λ none. omega (arith, none, some); unspent = unspent } in
    let product : (v.handed + 1) * v.size ≡ v.handed * v.size + v.size = omega arith in
    let all : length v.taken ≡ (v.handed + 1) * v.size = omega (arith, is.holds, is.low, full) in
    elim (cases_eq (v.handed + 1) most_frames) [
      | inl last ↦
          (let does : doing v rest ≡ Stops (errors.Refusal refusals.TooManyFrames) = doing_last v rest goes full last in
          let room : length v.taken ≡ most_text v.size = all ∙ ap (λ (n : ℕ). n * v.size) last in
          subst (λ (r : Result ℕ SealError). StepFeeds v rest (sealing_stepped v rest) r) (sym (ap answer_of does))
          (quiet_stop v rest refusals.TooManyFrames f some (most_full v.declared (most_text v.size) (length v.taken) f.short unspent room) does))
      | inr more ↦
          (let does : doing v rest ≡ Gives = doing_gives v rest goes full more in
          let next : (v.handed + 1 + 1) * v.size ≤ most_frames * v.size = mul-le-mul_right v.size (omega (arith, is.numbered, more)) in
          let two : (v.handed + 1 + 1) * v.size ≡ (v.handed + 1) * v.size + v.size = omega arith in
          let room : length v.taken < most_taken v = most_more v.declared (most_text v.size) (length v.taken) unspent (omega (arith, all, next, f.wide)) in
          subst (λ (r : Result ℕ SealError). StepFeeds v rest (sealing_stepped v rest) r) (sym (ap answer_of does)) (gives v rest f some full room does))
    ]

step_by : (v : SealingValue) (rest : List ℕ) (spent : Option ℕ) → IsFeeding v rest → 1 ≤ length rest → spent_of v.declared (length v.taken) ≡ spent
    → StepFeeds v rest (sealing_stepped v rest) (sealing_step_answer v rest)
step_by v rest (Some whole) f some spent =
    let does : doing v rest ≡ Stops (errors.Refusal (refusals.OverDeclared whole)) = doing_spent v rest whole f.on (λ none. omega (arith, none, some)) spent in
    subst (λ (r : Result ℕ SealError). StepFeeds v rest (sealing_stepped v rest) r) (sym (ap answer_of does))
    (quiet_stop v rest (refusals.OverDeclared whole) f some (most_spent v.declared (most_text v.size) (length v.taken) whole f.short spent) does)
step_by v rest None f some unspent = elim (cases_eq (length (held v)) v.size) [
  | inl full ↦ full_goes v rest f some unspent full
  | inr open_now ↦ open_takes v rest f some unspent open_now
]

pub step_feeds : (v : SealingValue) (rest : List ℕ) → IsFeeding v rest → 1 ≤ length rest → StepFeeds v rest (sealing_stepped v rest) (sealing_step_answer v rest)
step_feeds v rest f some = step_by v rest (spent_of v.declared (length v.taken)) f some refl
