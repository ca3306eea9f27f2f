-- Whatever the pieces, what was given is the content of the units that are whole.
use Rattle.std.proofs.Common.{◌≡◌, ◌⊎◌, ℕ, List, [], ◌∷◌, ◌++◌, length, take, drop, Bool, true, false, Option, Some, None, Result, Ok, Err, if◌then◌else◌, refl, sym, ap, subst, ◌∙◌, inl, inr, append_assoc}
use Rattle.std.specs.List.{concat}
use Rattle.std.proofs.lemmas.List.{append-nil, take-append-drop}
use Rattle.std.proofs.lemmas.List.Folds.{concat-append}
use Rattle.esdk_fields.specs.Place.{start}
use Rattle.esdk_fields.specs.Reading.{Reading, Read, Refused, Wanting, value_of}
use Rattle.esdk_fields.proofs.Fronts.{value_stays}
use Rattle.context_codec.specs.Context.{KeyValue}
use Rattle.header_codec.specs.declared.settings.Settings.{Settings}
use Rattle.header_codec.specs.Header.{HeaderValue}
use Rattle.header_codec.specs.Table.{HeaderFields, header, opening, head}
use Rattle.header_codec.proofs.Order.{IsSequential-header}
use Rattle.keyring_trait.specs.Unlocking.{Unlocking, Refuses, Unlocks}
use Rattle.body_format.specs.declared.verdicts.Verdict.{Verdict}
use Rattle.body_format.specs.declared.verdicts.Verdict.TheVariants.{Going, Whole, Faulty}
use Rattle.message_format.specs.Judgement.{Judged, judged, judged_header, header_of, content}
use Rattle.message_format.proofs.Judging.{judged_is, judged_wanting}
use Rattle.message_format.proofs.Following.{SameAnswer, follows}
use Rattle.stream_open.specs.declared.errors.OpenError.{OpenError}
use Rattle.stream_open.specs.declared.errors.OpenError.TheVariants as errors
use Rattle.stream_open.specs.Asking.{Heard, Nothing, Found, Named, Failed}
use Rattle.stream_open.specs.Session.{OpeningValue, new_opening_session, answer_kept, judged_now, header_asked, asked_header, keeping, is_faulty, reach, added_content, answer_at, answer_on, opening_step_answer, opening_stepped, opening_finished}
use Rattle.stream_open.specs.Laws.{OpeningEvent, Step, Finish, MayBeHeard, Meets, MeetsAll, after_opening_event, after_opening_events, given_by_opening, IsOpenedSoFar}

-- ---- which answer is looked at

pub same_answer : (r : Reading HeaderFields) (a : Unlocking) → SameAnswer r a a
same_answer (Read parts p) a = refl
same_answer (Refused fault at) a = tt
same_answer Wanting a = tt

-- while no header is whole, none is
unread_answer : (r : Reading HeaderFields) (a later : Unlocking) → value_of r ≡ None → SameAnswer r a later
unread_answer (Read parts p) a later e = absurd cc
unread_answer (Refused fault at) a later e = tt
unread_answer Wanting a later e = tt

same_by : (b : List ℕ) (settings : Settings) (a later : Unlocking) (r : Reading HeaderFields) → header settings (start b) ≡ r → SameAnswer r a later → judged b settings later ≡ judged b settings a
same_by b settings a later (Read parts p) e same =
    judged_is b settings later (Read parts p) e ∙ ap (judged_header settings (header_of b parts) p) same ∙ sym (judged_is b settings a (Read parts p) e)
same_by b settings a later (Refused fault at) e same = judged_is b settings later (Refused fault at) e ∙ sym (judged_is b settings a (Refused fault at) e)
same_by b settings a later Wanting e same = judged_is b settings later Wanting e ∙ sym (judged_is b settings a Wanting e)

pub same_judged : (b : List ℕ) (settings : Settings) (a later : Unlocking) → SameAnswer (header settings (start b)) a later → judged b settings later ≡ judged b settings a
same_judged b settings a later same = same_by b settings a later (header settings (start b)) refl same

-- a header is asked about only where no answer is kept
pub asked_by : (b : Bool) (o : Option Unlocking) (settings : Settings) (bytes : List ℕ) (h : HeaderValue) → (if b then None else header_asked o settings bytes) ≡ Some h → o ≡ None
asked_by true o settings bytes h e = absurd cc
asked_by false None settings bytes h e = refl
asked_by false (Some a) settings bytes h e = absurd cc

-- what is heard changes no judgement of the bytes taken
pub heard_same : (v : OpeningValue) (piece : List ℕ) (short : Type 0) (heard : Heard) → MayBeHeard (asked_header v piece) short heard → (v.answer ≡ None → head v.settings v.taken ≡ None)
    → SameAnswer (header v.settings (start v.taken)) (answer_kept v.answer) (answer_kept (keeping v heard).answer)
heard_same v piece short Nothing may unheard = same_answer (header v.settings (start v.taken)) (answer_kept v.answer)
heard_same v piece short (Found m) (h, is) unheard =
    unread_answer (header v.settings (start v.taken)) (answer_kept v.answer) (Unlocks m.context m.only m.key) (unheard (asked_by v.stopped v.answer v.settings (v.taken ++ piece) h is))
heard_same v piece short (Named fault) (h, is) unheard =
    unread_answer (header v.settings (start v.taken)) (answer_kept v.answer) (Refuses fault) (unheard (asked_by v.stopped v.answer v.settings (v.taken ++ piece) h is))
heard_same v piece short Failed may unheard = same_answer (header v.settings (start v.taken)) (answer_kept v.answer)

-- ---- what more bytes add

pub behind_front : (before more : List (List ℕ)) → drop (length before) (before ++ more) ≡ more
behind_front [] more = refl
behind_front (x ∷ xs) more = behind_front xs more

adding : (before after more : List (List ℕ)) (given : List ℕ) → given ≡ concat before → after ≡ before ++ more → given ++ concat (drop (length before) after) ≡ concat after
adding before after more given is on =
    rw (is, on, behind_front before more) (sym (concat-append before more))

adds : (b more : List ℕ) (settings : Settings) (a later : Unlocking) (given : List ℕ) → SameAnswer (header settings (start b)) a later → given ≡ content (judged b settings a)
    → given ++ added_content (judged b settings a) (judged (b ++ more) settings later) ≡ content (judged (b ++ more) settings later)
adds b more settings a later given same is =
    let units = (follows b more settings a later same).units in
    adding (judged b settings a).units (judged (b ++ more) settings later).units units.0 given is units.1

-- a front of bytes that have no whole header has none
unread_by : (settings : Settings) (b more : List ℕ) (r : Reading HeaderFields) → header settings (start b) ≡ r → head settings (b ++ more) ≡ None → value_of r ≡ None
unread_by settings b more (Read parts p) e none =
    let after = value_stays (header settings) b more parts p (IsSequential-header settings) e in
    absurd (some_none parts (sym (ap value_of after) ∙ none))
  where
    some_none : (x : HeaderFields) → Some x ≡ None → ⊥
    some_none x e = cc
unread_by settings b more (Refused fault at) e none = refl
unread_by settings b more Wanting e none = refl

pub unread_front : (settings : Settings) (taken piece : List ℕ) (n : ℕ) → head settings (taken ++ piece) ≡ None → head settings (taken ++ take n piece) ≡ None
unread_front settings taken piece n none =
    let whole : taken ++ take n piece ++ drop n piece ≡ taken ++ piece = append_assoc taken (take n piece) (drop n piece) ∙ ap (λ (l : List ℕ). taken ++ l) (take-append-drop n piece) in
    unread_by settings (taken ++ take n piece) (drop n piece) (header settings (start (taken ++ take n piece))) refl (ap (head settings) whole ∙ none)

-- ---- one step

pub record OkAt (k n : ℕ) (verdict : Verdict) : Type 0 where
  pub same : k ≡ n
  pub sound : is_faulty verdict ≡ false

pub ok_at : (k n : ℕ) (verdict : Verdict) → answer_at k verdict ≡ Ok n → OkAt k n verdict
ok_at k n Going e = record { same = cc; sound = refl }
ok_at k n Whole e = record { same = cc; sound = refl }
ok_at k n (Faulty fault) e = absurd cc

pub record OnGoing (b : Bool) (r s : Result ℕ OpenError) : Type 0 where
  pub going : b ≡ false
  pub is : r ≡ s

pub on_going : (b : Bool) (r : Result ℕ OpenError) (n : ℕ) → (if b then Err errors.Stopped else r) ≡ Ok n → OnGoing b r (Ok n)
on_going true r n e = absurd cc
on_going false r n e = record { going = refl; is = e }

-- What is kept through all calls: what was given is the content, no fault stands, and no header is whole while there is no answer.
pub record IsKept (v : OpeningValue) (given : List ℕ) : Type 0 where
  pub released : given ≡ content (judged_now v)
  pub sound : is_faulty (judged_now v).verdict ≡ false
  pub unheard : v.answer ≡ None → head v.settings v.taken ≡ None

-- no header is whole with the piece
pub unasked : (b : Bool) (o : Option Unlocking) (settings : Settings) (bytes : List ℕ) → b ≡ false → o ≡ None → (if b then None else header_asked o settings bytes) ≡ None → head settings bytes ≡ None
unasked true o settings bytes going none e = absurd cc
unasked false (Some a) settings bytes going none e = absurd cc
unasked false None settings bytes going none e = unmapped (head settings bytes) e
  where
    unmapped : (o : Option HeaderFields) → Rattle.std.specs.Prelude.option_map (header_of bytes) o ≡ None → o ≡ None
    unmapped None e = refl
    unmapped (Some x) e = absurd cc

-- a session w that keeps what was heard, after n bytes of the piece
kept_on : (v w : OpeningValue) (piece : List ℕ) (n : ℕ) (given : List ℕ) (stopped : Bool) (answer : Option Unlocking) → IsKept v given
    → SameAnswer (header v.settings (start v.taken)) (answer_kept v.answer) (answer_kept answer)
    → answer_at (reach (record v { answer = answer; served = w.served }) piece) (judged (v.taken ++ take (reach (record v { answer = answer; served = w.served }) piece) piece) v.settings (answer_kept answer)).verdict ≡ Ok n
    → (answer ≡ None → head v.settings (v.taken ++ take n piece) ≡ None)
    → IsKept (record v { answer = answer; served = w.served; taken = v.taken ++ take n piece; stopped = stopped; out = added_content (judged_now v) (judged (v.taken ++ take n piece) v.settings (answer_kept answer)) })
    (given ++ added_content (judged_now v) (judged (v.taken ++ take n piece) v.settings (answer_kept answer)))
kept_on v w piece n given stopped answer kept same is unheard =
    let k : ℕ = reach (record v { answer = answer; served = w.served }) piece in
    let at = ok_at k n (judged (v.taken ++ take k piece) v.settings (answer_kept answer)).verdict is in
    record {
      released = adds v.taken (take n piece) v.settings (answer_kept v.answer) (answer_kept answer) given same kept.released;
      sound = subst (λ (m : ℕ). is_faulty (judged (v.taken ++ take m piece) v.settings (answer_kept answer)).verdict ≡ false) at.same at.sound;
      unheard = unheard;
    }

pub ok_kept : (v : OpeningValue) (given piece : List ℕ) (heard : Heard) (n : ℕ) → IsKept v given → MayBeHeard (asked_header v piece) (Ok n ≡ Err errors.Memory) heard → opening_step_answer v piece heard ≡ Ok n
    → IsKept (opening_stepped v piece heard (Ok n)) (given ++ (opening_stepped v piece heard (Ok n)).out)
unfolding opening_step_answer
ok_kept v given piece Nothing n kept may is =
    let on = on_going v.stopped (answer_on v piece Nothing) n is in
    kept_on v v piece n given v.stopped v.answer kept (same_answer (header v.settings (start v.taken)) (answer_kept v.answer)) on.is
    (λ none. unread_front v.settings v.taken piece n (unasked v.stopped v.answer v.settings (v.taken ++ piece) on.going none (nothing_asked may)))
  where
    nothing_asked : (asked_header v piece ≡ None) ⊎ (Ok n ≡ Err errors.Memory) → asked_header v piece ≡ None
    nothing_asked (inl none) = none
    nothing_asked (inr short) = absurd cc
ok_kept v given piece (Found m) n kept may is =
    let on = on_going v.stopped (answer_on v piece (Found m)) n is in
    kept_on v (keeping v (Found m)) piece n given v.stopped (Some (Unlocks m.context m.only m.key)) kept (heard_same v piece (Ok n ≡ Err errors.Memory) (Found m) may kept.unheard) on.is (λ none. absurd cc)
ok_kept v given piece (Named fault) n kept may is =
    let on = on_going v.stopped (answer_on v piece (Named fault)) n is in
    kept_on v (keeping v (Named fault)) piece n given v.stopped (Some (Refuses fault)) kept (heard_same v piece (Ok n ≡ Err errors.Memory) (Named fault) may kept.unheard) on.is (λ none. absurd cc)
ok_kept v given piece Failed n kept may is =
    let on = on_going v.stopped (answer_on v piece Failed) n is in absurd (let no : Err errors.KeyringFault ≡ Ok n = on.is in cc)

-- an error takes nothing and gives nothing
kept_still : (v : OpeningValue) (given : List ℕ) (served : Option _) (stopped : Bool) (answer : Option Unlocking) → IsKept v given
    → SameAnswer (header v.settings (start v.taken)) (answer_kept v.answer) (answer_kept answer) → (answer ≡ None → head v.settings v.taken ≡ None)
    → IsKept (record v { answer = answer; served = served; stopped = stopped; out = [] }) (given ++ [])
kept_still v given served stopped answer kept same unheard =
    let is : judged v.taken v.settings (answer_kept answer) ≡ judged_now v = same_judged v.taken v.settings (answer_kept v.answer) (answer_kept answer) same in
    record {
      released = append-nil given ∙ kept.released ∙ ap content (sym is);
      sound = ap (λ (j : Judged). is_faulty j.verdict) is ∙ kept.sound;
      unheard = unheard;
    }

err_kept : (v : OpeningValue) (given piece : List ℕ) (short : Type 0) (heard : Heard) (error : OpenError) → IsKept v given → MayBeHeard (asked_header v piece) short heard
    → IsKept (opening_stepped v piece heard (Err error)) (given ++ [])
err_kept v given piece short Nothing error kept may = kept_still v given v.served true v.answer kept (heard_same v piece short Nothing may kept.unheard) kept.unheard
err_kept v given piece short (Found m) error kept may = kept_still v given (Some m.served) true (Some (Unlocks m.context m.only m.key)) kept (heard_same v piece short (Found m) may kept.unheard) (λ none. absurd cc)
err_kept v given piece short (Named fault) error kept may = kept_still v given v.served true (Some (Refuses fault)) kept (heard_same v piece short (Named fault) may kept.unheard) (λ none. absurd cc)
err_kept v given piece short Failed error kept may = kept_still v given v.served true v.answer kept (heard_same v piece short Failed may kept.unheard) kept.unheard

-- ---- all calls

kept_event : (v : OpeningValue) (given : List ℕ) (e : OpeningEvent) → IsKept v given → Meets v e → IsKept (after_opening_event v e) (given ++ (after_opening_event v e).out)
unfolding opening_finished
kept_event v given (Step piece heard (Ok n)) kept (may, answers) = ok_kept v given piece heard n kept may answers
kept_event v given (Step piece heard (Err error)) kept (may, answers) = err_kept v given piece (Err error ≡ Err errors.Memory) heard error kept may
kept_event v given Finish kept meets = record { released = append-nil given ∙ kept.released; sound = kept.sound; unheard = kept.unheard }

kept_all : (es : List OpeningEvent) (v : OpeningValue) (given : List ℕ) → IsKept v given → MeetsAll es v → IsKept (after_opening_events es v) (given ++ given_by_opening es v)
unfolding after_opening_events MeetsAll given_by_opening
kept_all [] v given kept meets = subst (λ (l : List ℕ). IsKept v l) (sym (append-nil given)) kept
kept_all (e ∷ es) v given kept meets =
    subst (λ (l : List ℕ). IsKept (after_opening_events es (after_opening_event v e)) l) (append_assoc given (after_opening_event v e).out (given_by_opening es (after_opening_event v e)))
    (kept_all es (after_opening_event v e) (given ++ (after_opening_event v e).out) (kept_event v given e kept meets.0) meets.1)

pub kept_none : (settings : Settings) (given : List KeyValue) → IsKept (new_opening_session settings given) []
unfolding header opening
kept_none settings given =
    let is : judged [] settings (answer_kept None) ≡ _ = judged_wanting [] settings (answer_kept None) refl in
    record { released = sym (ap content is); sound = ap (λ (j : Judged). is_faulty j.verdict) is; unheard = λ _. refl }

pub any_cut : (settings : Settings) (given : List KeyValue) (events : List OpeningEvent) → MeetsAll events (new_opening_session settings given) → IsOpenedSoFar (after_opening_events events (new_opening_session settings given)) (given_by_opening events (new_opening_session settings given))
any_cut settings given events meets =
    let kept = kept_all events (new_opening_session settings given) [] (kept_none settings given) meets in
    record { released = kept.released; sound = kept.sound }
