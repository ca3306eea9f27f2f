-- Any calls of a session, one after another.
use Rattle.std.proofs.Common.{◌≡◌, ℕ, ◌+◌, ◌-◌, ◌*◌, ◌<◌, ◌≤◌, List, [], ◌∷◌, ◌++◌, length, take, drop, Bool, true, false, not, ◌||◌, Option, Some, None, IfSome, refl, sym, ap, subst, ◌∙◌, arith, inl, inr, append_assoc}
use Rattle.std.proofs.lemmas.Bool.{true≢false, false≢true}
use Rattle.std.proofs.lemmas.List.{append-nil, length-append, length-drop, length-take, drop_all}
use Rattle.frame_codec.specs.Written.{regular_frame, final_frame}
use Rattle.keyring_trait.specs.Materials.{EncMaterialsValue}
use Rattle.message_format.specs.Message.{message}
use Rattle.body_format.specs.Written.{framed_body, regular_frames}
use Rattle.stream_seal.specs.Session.{SealingValue, Doing, Stops, Gives, Takes, beginning, held, doing, after_doing, new_sealing_session, sealing_finished, under_of}
use Rattle.stream_seal.specs.Start.{message_of, most_frames, start_of}
use Rattle.stream_seal.specs.Laws.{SealingEvent, Step, Finish, after_sealing_event, after_sealing_events, given_by_sealing, finishes, is_finished_by, HoldsSome, HoldsNone, BeginsMessage, IsSameMessage, IsSealed, SealsAnyCutOf}
use Rattle.stream_seal.proofs.Doing.{DoesSo, does, doing_stopped}
use Rattle.stream_seal.proofs.Standing.{finished_stopped, finished_on}
use Rattle.stream_seal.proofs.Frames.{LeavesOne, frames_front, frames_more, count_of, body_of}

-- ---- no call changes what the message is made of

same_doing : (v : SealingValue) (piece : List ℕ) (d : Doing) → IsSameMessage v (after_doing v piece d)
same_doing v piece (Stops error) = record { materials = refl; declared = refl; size = refl; id = refl }
same_doing v piece Gives = record { materials = refl; declared = refl; size = refl; id = refl }
same_doing v piece (Takes count) = record { materials = refl; declared = refl; size = refl; id = refl }

same_finished : (v : SealingValue) (b : Bool) → v.stopped ≡ b → IsSameMessage v (sealing_finished v)
same_finished v true stopped = subst (λ w. IsSameMessage v w) (sym (finished_stopped v stopped)) (record { materials = refl; declared = refl; size = refl; id = refl })
same_finished v false on = subst (λ w. IsSameMessage v w) (sym (finished_on v on)) (record { materials = refl; declared = refl; size = refl; id = refl })

same_event : (v : SealingValue) (e : SealingEvent) → IsSameMessage v (after_sealing_event v e)
same_event v (Step piece) = same_doing v piece (doing v piece)
same_event v Finish = same_finished v v.stopped refl

same_then : (u v w : SealingValue) → IsSameMessage u v → IsSameMessage v w → IsSameMessage u w
same_then u v w first second = record {
  materials = second.materials ∙ first.materials;
  declared = second.declared ∙ first.declared;
  size = second.size ∙ first.size;
  id = second.id ∙ first.id;
}

pub same_all : (es : List SealingEvent) (v : SealingValue) → IsSameMessage v (after_sealing_events es v)
unfolding after_sealing_events
same_all [] v = record { materials = refl; declared = refl; size = refl; id = refl }
same_all (e ∷ es) v = same_then v (after_sealing_event v e) (after_sealing_events es (after_sealing_event v e)) (same_event v e) (same_all es (after_sealing_event v e))

-- ---- what every call keeps

-- The frames given are the first of the text taken, and the final frame follows them once the session is finished.
pub record IsKept (v : SealingValue) (ended : Bool) (given : List ℕ) : Type 0 where
  pub low : v.handed * v.size ≤ length v.taken
  pub high : length v.taken ≤ v.handed * v.size + v.size
  pub numbered : v.handed < most_frames
  pub within : IfSome v.declared (λ whole. length v.taken ≤ whole)
  pub going : ended ≡ false → given ≡ regular_frames v.size (under_of v) v.taken v.handed
  pub stops : ended ≡ true → v.stopped ≡ true
  pub whole : ended ≡ true → given ≡ regular_frames v.size (under_of v) v.taken v.handed ++ final_frame (under_of v) (v.handed + 1) (held v)

all_within : (declared : Option ℕ) → IfSome declared (λ whole. 0 ≤ whole)
all_within None = tt
all_within (Some whole) = omega arith

pub kept_none : (m : EncMaterialsValue) (declared : Option ℕ) (size : ℕ) (id : List ℕ) → IsKept (new_sealing_session m declared size id) false []
unfolding regular_frames
kept_none m declared size id = record {
  low = omega arith;
  high = omega arith;
  numbered = omega arith;
  within = all_within declared;
  going = λ _. refl;
  stops = λ e. absurd (false≢true e);
  whole = λ e. absurd (false≢true e);
}

more_within : (declared : Option ℕ) (taken count more all : ℕ) → more ≤ count → all ≡ taken + more → IfSome declared (λ whole. taken ≤ whole)
    → IfSome declared (λ whole. count ≤ whole - taken) → IfSome declared (λ whole. all ≤ whole)
more_within None taken count more all few sum before now = tt
more_within (Some whole) taken count more all few sum before now = omega arith

pub kept_doing : (v : SealingValue) (piece given : List ℕ) (d : Doing) → DoesSo v d → IsKept v false given → IsKept (after_doing v piece d) false (given ++ (after_doing v piece d).out)
kept_doing v piece given (Stops error) so kept = record {
  low = kept.low;
  high = kept.high;
  numbered = kept.numbered;
  within = kept.within;
  going = λ e. append-nil given ∙ kept.going e;
  stops = λ e. absurd (false≢true e);
  whole = λ e. absurd (false≢true e);
}
kept_doing v piece given Gives so kept =
    let product : (v.handed + 1) * v.size ≡ v.handed * v.size + v.size = omega arith in
    let held_is : length (held v) ≡ length v.taken - v.handed * v.size = length-drop (v.handed * v.size) v.taken in
    record {
      low = omega (arith, so.full, kept.low);
      high = omega (arith, so.full, kept.high);
      numbered = omega (arith, so.more, kept.numbered);
      within = kept.within;
      going = λ e. ap (λ (l : List ℕ). l ++ regular_frame (under_of v) (v.handed + 1) (held v)) (kept.going e) ∙ sym (frames_more v.size (under_of v) v.taken v.handed so.full);
      stops = λ e. absurd (false≢true e);
      whole = λ e. absurd (false≢true e);
    }
kept_doing v piece given (Takes count) so kept =
    let more : List ℕ = take count piece in
    let few : length more ≤ count = omega (arith, length-take count piece) in
    let sum : length (v.taken ++ more) ≡ length v.taken + length more = length-append v.taken more in
    let held_is : length (held v) ≡ length v.taken - v.handed * v.size = length-drop (v.handed * v.size) v.taken in
    record {
      low = omega (arith, kept.low);
      high = omega (arith, so.room, kept.low, kept.high);
      numbered = kept.numbered;
      within = more_within v.declared (length v.taken) count (length more) (length (v.taken ++ more)) few sum kept.within so.within;
      going = λ e. append-nil given ∙ kept.going e ∙ sym (frames_front v.size (under_of v) v.taken more v.handed kept.low);
      stops = λ e. absurd (false≢true e);
      whole = λ e. absurd (false≢true e);
    }

pub kept_finished : (v : SealingValue) (given : List ℕ) (b : Bool) → v.stopped ≡ b → IsKept v false given → IsKept (sealing_finished v) (not b) (given ++ (sealing_finished v).out)
kept_finished v given true stopped kept = subst (λ w. IsKept w false (given ++ w.out)) (sym (finished_stopped v stopped)) (record {
  low = kept.low;
  high = kept.high;
  numbered = kept.numbered;
  within = kept.within;
  going = λ e. append-nil given ∙ kept.going e;
  stops = λ e. absurd (false≢true e);
  whole = λ e. absurd (false≢true e);
})
kept_finished v given false on kept = subst (λ w. IsKept w true (given ++ w.out)) (sym (finished_on v on)) (record {
  low = kept.low;
  high = kept.high;
  numbered = kept.numbered;
  within = kept.within;
  going = λ e. absurd (true≢false e);
  stops = λ _. refl;
  whole = λ _. ap (λ (l : List ℕ). l ++ final_frame (under_of v) (v.handed + 1) (held v)) (kept.going refl);
})

-- a call of a session that goes on, or was stopped by an error
pub kept_event : (v : SealingValue) (e : SealingEvent) (given : List ℕ) → IsKept v false given → IsKept (after_sealing_event v e) (finishes v e) (given ++ (after_sealing_event v e).out)
kept_event v (Step piece) given kept = kept_doing v piece given (doing v piece) (does v piece) kept
kept_event v Finish given kept = kept_finished v given v.stopped refl kept

-- a call of a session that was finished
kept_silent : (v : SealingValue) (b : Bool) (given : List ℕ) → IsKept v true given → b ≡ true → IsKept (record v { stopped = b; out = [] }) true (given ++ [])
kept_silent v b given kept stopped = record {
  low = kept.low;
  high = kept.high;
  numbered = kept.numbered;
  within = kept.within;
  going = λ e. absurd (true≢false e);
  stops = λ _. stopped;
  whole = λ e. append-nil given ∙ kept.whole e;
}

kept_after : (v : SealingValue) (e : SealingEvent) (given : List ℕ) → IsKept v true given → IsKept (after_sealing_event v e) true (given ++ (after_sealing_event v e).out)
kept_after v (Step piece) given kept =
    subst (λ d. IsKept (after_doing v piece d) true (given ++ (after_doing v piece d).out)) (sym (doing_stopped v piece (kept.stops refl))) (kept_silent v true given kept refl)
kept_after v Finish given kept =
    subst (λ w. IsKept w true (given ++ w.out)) (sym (finished_stopped v (kept.stops refl))) (kept_silent v v.stopped given kept (kept.stops refl))

pub kept_all : (es : List SealingEvent) (v : SealingValue) (ended : Bool) (given : List ℕ) → IsKept v ended given → IsKept (after_sealing_events es v) (ended || is_finished_by es v) (given ++ given_by_sealing es v)
unfolding after_sealing_events given_by_sealing is_finished_by
kept_all [] v true given kept = subst (λ (l : List ℕ). IsKept v true l) (sym (append-nil given)) kept
kept_all [] v false given kept = subst (λ (l : List ℕ). IsKept v false l) (sym (append-nil given)) kept
kept_all (e ∷ es) v true given kept =
    subst (λ (l : List ℕ). IsKept (after_sealing_events es (after_sealing_event v e)) true l) (append_assoc given (after_sealing_event v e).out (given_by_sealing es (after_sealing_event v e)))
    (kept_all es (after_sealing_event v e) true (given ++ (after_sealing_event v e).out) (kept_after v e given kept))
kept_all (e ∷ es) v false given kept =
    subst (λ (l : List ℕ). IsKept (after_sealing_events es (after_sealing_event v e)) (finishes v e || is_finished_by es (after_sealing_event v e)) l)
    (append_assoc given (after_sealing_event v e).out (given_by_sealing es (after_sealing_event v e)))
    (kept_all es (after_sealing_event v e) (finishes v e) (given ++ (after_sealing_event v e).out) (kept_event v e given kept))

-- ---- the message

pub message_is : (v : SealingValue) (text : List ℕ) → message_of v.materials v.size v.id text ≡ beginning v ++ framed_body v.size (under_of v) text
unfolding message start_of
message_is v text = refl

begins : (v : SealingValue) (text given : List ℕ) → 1 ≤ v.size → LeavesOne v.size text v.handed → given ≡ regular_frames v.size (under_of v) text v.handed
    → BeginsMessage v text (beginning v ++ given)
begins v text given wide leaves is =
    let frames : List ℕ = regular_frames v.size (under_of v) text v.handed in
    let last : List ℕ = final_frame (under_of v) (v.handed + 1) (drop (v.handed * v.size) text) in
    record {
      few = omega (arith, count_of v.size text v.handed wide leaves);
      are = ap (λ (l : List ℕ). beginning v ++ l) is;
      more = last;
      front = message_is v text
          ∙ ap (λ (l : List ℕ). beginning v ++ l) (body_of v.size (under_of v) text v.handed wide leaves)
          ∙ sym (append_assoc (beginning v) frames last)
          ∙ ap (λ (l : List ℕ). beginning v ++ l ++ last) (sym is);
    }

-- bytes are held
leaves_some : (v : SealingValue) (ended : Bool) (given : List ℕ) → IsKept v ended given → HoldsSome v → LeavesOne v.size v.taken v.handed
leaves_some v ended given kept some = record {
  low = kept.low;
  high = kept.high;
  rest = λ more. elim some [
    | inl none ↦ (let e : v.handed * v.size ≡ 0 * v.size = ap (λ (n : ℕ). n * v.size) none in omega arith)
    | inr held ↦ held
  ];
}

-- none is held, and one comes
leaves_one : (v : SealingValue) (x : ℕ) → 1 ≤ v.size → HoldsNone v → LeavesOne v.size (v.taken ++ x ∷ []) v.handed
leaves_one v x wide none =
    let sum : length (v.taken ++ x ∷ []) ≡ length v.taken + 1 = length-append v.taken (x ∷ []) in
    record { low = omega (arith, none.all); high = omega (arith, none.all); rest = λ more. omega (arith, none.all) }

even_frames : (v : SealingValue) (x : ℕ) (given : List ℕ) → HoldsNone v → given ≡ regular_frames v.size (under_of v) v.taken v.handed
    → given ≡ regular_frames v.size (under_of v) (v.taken ++ x ∷ []) v.handed
even_frames v x given none is = is ∙ sym (frames_front v.size (under_of v) v.taken (x ∷ []) v.handed (omega (arith, none.all)))

sealed_of : (v : SealingValue) (ended : Bool) (given : List ℕ) → 1 ≤ v.size → IsKept v ended given → IsSealed v ended (beginning v ++ given)
sealed_of v ended given wide kept =
    let product : (v.handed + 1) * v.size ≡ v.handed * v.size + v.size = omega arith in
    let frames : List ℕ = regular_frames v.size (under_of v) v.taken v.handed in
    record {
      low = kept.low;
      high = omega (arith, kept.high);
      numbered = kept.numbered;
      within = kept.within;
      going = λ on some. begins v v.taken given wide (leaves_some v ended given kept some) (kept.going on);
      going_even = λ on none x. begins v (v.taken ++ x ∷ []) given wide (leaves_one v x wide none) (even_frames v x given none (kept.going on));
      whole = λ end some. ap (λ (l : List ℕ). beginning v ++ l) (kept.whole end ∙ sym (body_of v.size (under_of v) v.taken v.handed wide (leaves_some v ended given kept some)))
          ∙ sym (message_is v v.taken);
      whole_even = λ end none.
          let rest : held v ≡ [] = drop_all (v.handed * v.size) v.taken (omega (arith, none.all)) in
          ap (λ (l : List ℕ). beginning v ++ l) (kept.whole end ∙ ap (λ (l : List ℕ). frames ++ final_frame (under_of v) (v.handed + 1) l) rest)
          ∙ sym (append_assoc (beginning v) frames (final_frame (under_of v) (v.handed + 1) []));
    }

same_beginning : (v w : SealingValue) → IsSameMessage v w → beginning w ≡ beginning v
same_beginning v w same =
    ap (λ (m : EncMaterialsValue). start_of m w.size w.id) same.materials ∙ ap (λ (n : ℕ). start_of v.materials n w.id) same.size
    ∙ ap (λ (l : List ℕ). start_of v.materials v.size l) same.id

pub any_cut : (m : EncMaterialsValue) (declared : Option ℕ) (size : ℕ) (id : List ℕ) (events : List SealingEvent) → 1 ≤ size → SealsAnyCutOf (new_sealing_session m declared size id) events
any_cut m declared size id events wide =
    let begun : SealingValue = new_sealing_session m declared size id in
    let v : SealingValue = after_sealing_events events begun in
    let same : IsSameMessage begun v = same_all events begun in
    let kept = kept_all events begun false [] (kept_none m declared size id) in
    record {
      same = same;
      sealed = subst (λ (l : List ℕ). IsSealed v (is_finished_by events begun) (l ++ given_by_sealing events begun)) (same_beginning begun v same)
          (sealed_of v (is_finished_by events begun) (given_by_sealing events begun) (omega (arith, same.size)) kept);
    }
