-- The answer that a session keeps is the manager's to the header that is whole in its bytes.
use Rattle.std.proofs.Common.{◌≡◌, ℕ, true, false, Option, Some, None, Ok, Err, List, [], ◌++◌, length, take, drop, refl, sym, ap, subst, ◌∙◌, arith, inl, inr}
use Rattle.std.specs.Prelude.{option_map}
use Rattle.std.proofs.lemmas.List.{take_all}
use Rattle.esdk_fields.specs.declared.faults.Fault.{Fault}
use Rattle.esdk_fields.specs.Place.{start}
use Rattle.esdk_fields.specs.Reading.{Reading, Read, Refused, Wanting, value_of}
use Rattle.esdk_fields.proofs.Fronts.{value_stays}
use Rattle.context_codec.specs.Context.{KeyValue}
use Rattle.header_codec.specs.declared.settings.Settings.{Settings}
use Rattle.header_codec.specs.Header.{HeaderValue}
use Rattle.header_codec.specs.Table.{HeaderFields, header, head, opening}
use Rattle.header_codec.proofs.Order.{IsSequential-header}
use Rattle.keyring_trait.specs.declared.manager_errors.ManagerError.TheVariants as managers
use Rattle.keyring_trait.specs.Saying.{Saying}
use Rattle.keyring_trait.specs.Unlocking.{Refuses, Unlocks}
use Rattle.message_format.specs.Judgement.{header_of}
use Rattle.message_format.proofs.Following.{header_stays}
use Rattle.stream_open.specs.declared.errors.OpenError.TheVariants as errors
use Rattle.stream_open.specs.Asking.{Heard, Nothing, Found, Named, Failed, IsHeard, request_of}
use Rattle.stream_open.specs.Feeding.{GoesOn, header_in, KeepsAnswer, KeepsItsAnswer, KeepsAnswers}
use Rattle.stream_open.specs.Laws.{FirstStopIsAt}
use Rattle.stream_open.specs.Session.{OpeningValue, new_opening_session, asked_header, keeping, opening_step_answer}
use Rattle.stream_open.proofs.AnyCut.{unasked, unread_front, asked_by}
use Rattle.stream_open.proofs.Ends.{ends_exactly}
use Rattle.stream_open.proofs.Feeding.{asked_now, may_hear}
use Rattle.stream_open.proofs.FoundFaults.{answered_on, nothing_heard}
use Rattle.stream_open.proofs.GoingOn.{Standing, InHeader, Behind, standing}
use Rattle.stream_open.proofs.Headers.{Early, Same, SameFault, front_of, front_whole, no_stop}
use Rattle.stream_open.proofs.Stepping as stepping

-- ---- a header that is whole stays

pub header_on : (settings : Settings) (bytes more : List ℕ) (h : HeaderValue) (r : Reading HeaderFields) → header settings (start bytes) ≡ r → option_map (header_of bytes) (value_of r) ≡ Some h → header_in settings (bytes ++ more) ≡ Some h
header_on settings bytes more h (Read parts p) e is =
    ap (λ (r : Reading HeaderFields). option_map (header_of (bytes ++ more)) (value_of r)) (value_stays (header settings) bytes more parts p (IsSequential-header settings) e)
    ∙ ap (λ (g : HeaderValue). some g) (header_stays settings bytes more parts p e) ∙ is
  where
    some : HeaderValue → Option HeaderValue
    some g = Some g
header_on settings bytes more h (Refused fault at) e is = absurd cc
header_on settings bytes more h Wanting e is = absurd cc

-- ---- where nothing is asked

kept_before : (manager : Saying) (moment : ℕ) (v : OpeningValue) (piece : List ℕ) (n : ℕ) (o : Option HeaderValue) → GoesOn v → asked_header v piece ≡ None → header_in v.settings v.taken ≡ o
    → KeepsAnswer manager moment v.given o v.answer → KeepsItsAnswer manager moment v (v.taken ++ take n piece)
kept_before manager moment v piece n (Some h) goes none is kept =
    subst (λ (o : Option HeaderValue). KeepsAnswer manager moment v.given o v.answer) (sym (header_on v.settings v.taken (take n piece) h (header v.settings (start v.taken)) refl is)) kept
kept_before manager moment v piece n None goes none is kept =
    let whole : head v.settings (v.taken ++ piece) ≡ None = unasked v.stopped v.answer v.settings (v.taken ++ piece) goes.going kept none in
    let front : head v.settings (v.taken ++ take n piece) ≡ None = unread_front v.settings v.taken piece n whole in
    subst (λ (o : Option HeaderValue). KeepsAnswer manager moment v.given o v.answer) (sym (ap (option_map (header_of (v.taken ++ take n piece))) front)) kept

before_by : (manager : Saying) (moment : ℕ) (v : OpeningValue) (piece : List ℕ) (heard : Heard) (n : ℕ) → GoesOn v → heard ≡ Nothing → asked_header v piece ≡ None → KeepsItsAnswer manager moment v v.taken
    → KeepsItsAnswer manager moment (keeping v heard) (v.taken ++ take n piece)
before_by manager moment v piece heard n goes same none kept =
    subst (λ (other : Heard). KeepsItsAnswer manager moment (keeping v other) (v.taken ++ take n piece)) (sym same) (kept_before manager moment v piece n (header_in v.settings v.taken) goes none refl kept)

-- ---- where a header is asked about

-- what was heard about it is kept
keeps_heard : (manager : Saying) (moment : ℕ) (v : OpeningValue) (piece : List ℕ) (h : HeaderValue) (heard : Heard) → asked_header v piece ≡ Some h → IsHeard manager moment v.given (asked_header v piece) ⊥ heard → (heard ≡ Failed → ⊥)
    → KeepsAnswer manager moment v.given (Some h) (keeping v heard).answer
keeps_heard manager moment v piece h Nothing asked (inl none) some = absurd (some_none (sym asked ∙ none))
  where
    some_none : Some h ≡ None → ⊥
    some_none e = cc
keeps_heard manager moment v piece h Nothing asked (inr never) some = absurd never
keeps_heard manager moment v piece h (Found m) asked (g, is, finds) some = (m.served, subst (λ (x : HeaderValue). manager.finds (request_of v.given x) moment m) (same (sym is ∙ asked)) finds)
  where
    same : Some g ≡ Some h → g ≡ h
    same e = cc
keeps_heard manager moment v piece h (Named fault) asked (g, is, finds) some =
    subst (λ (x : HeaderValue). manager.finds_none (request_of v.given x) (managers.Fault fault)) (same (sym is ∙ asked)) finds
  where
    same : Some g ≡ Some h → g ≡ h
    same e = cc
keeps_heard manager moment v piece h Failed asked may some = absurd (some refl)

failed_not_ok : (v : OpeningValue) (piece : List ℕ) (heard : Heard) (n : ℕ) → GoesOn v → opening_step_answer v piece heard ≡ Ok n → heard ≡ Failed → ⊥
failed_not_ok v piece Nothing n goes is e = cc
failed_not_ok v piece (Found m) n goes is e = cc
failed_not_ok v piece (Named fault) n goes is e = cc
failed_not_ok v piece Failed n goes is e = let no : Err errors.KeyringFault ≡ Ok n = sym (answered_on v piece Failed goes.going) ∙ is in cc

failed_not_fault : (v : OpeningValue) (piece : List ℕ) (heard : Heard) (fault : Fault) → GoesOn v → opening_step_answer v piece heard ≡ Err (errors.Fault fault) → heard ≡ Failed → ⊥
failed_not_fault v piece Nothing fault goes is e = cc
failed_not_fault v piece (Found m) fault goes is e = cc
failed_not_fault v piece (Named named) fault goes is e = cc
failed_not_fault v piece Failed fault goes is e = let no : Err errors.KeyringFault ≡ Err (errors.Fault fault) = sym (answered_on v piece Failed goes.going) ∙ is in cc

-- with all of the piece the header is whole
pub asked_whole : (v : OpeningValue) (piece : List ℕ) (h : HeaderValue) → GoesOn v → asked_header v piece ≡ Some h → header_in v.settings (v.taken ++ piece) ≡ Some h
asked_whole v piece h goes asked = sym (asked_now v piece goes (asked_by v.stopped v.answer v.settings (v.taken ++ piece) h asked)) ∙ asked

true_false : true ≡ false → ⊥
true_false e = cc

-- and with the bytes that a step used, which takes the header to its end
used_whole : (w : OpeningValue) (piece : List ℕ) (h : HeaderValue) (n : ℕ) → header w.settings (start w.taken) ≡ Wanting → FirstStopIsAt w piece n → header_in w.settings (w.taken ++ piece) ≡ Some h
    → header_in w.settings (w.taken ++ take n piece) ≡ Some h
used_whole w piece h n now ends is =
    elim (front_of w.settings w.taken piece n) [
      | Early early ↦ elim ends.here [
        | inl all ↦ ap (λ (l : List ℕ). header_in w.settings (w.taken ++ l)) (take_all n piece (omega (arith, all))) ∙ is
        | inr stop ↦ absurd (true_false (sym stop ∙ no_stop w piece n now early))
      ]
      | Same parts p q at_n whole there ↦
          (let same : header_of (w.taken ++ take n piece) parts ≡ header_of (w.taken ++ piece) parts =
          sym (header_stays w.settings (w.taken ++ take n piece) (drop n piece) parts p at_n) ∙ ap (λ (l : List ℕ). header_of l parts) (front_whole w.taken piece n) in
          ap (λ (r : Reading HeaderFields). option_map (header_of (w.taken ++ take n piece)) (value_of r)) at_n ∙ ap (λ (g : HeaderValue). some g) same
          ∙ sym (ap (λ (r : Reading HeaderFields). option_map (header_of (w.taken ++ piece)) (value_of r)) whole) ∙ is)
      | SameFault fault at early whole ↦ absurd (none_some (sym (ap (λ (r : Reading HeaderFields). option_map (header_of (w.taken ++ piece)) (value_of r)) whole) ∙ is))
    ]
  where
    some : HeaderValue → Option HeaderValue
    some g = Some g

    none_some : None ≡ Some h → ⊥
    none_some e = cc

pub used_by : (v : OpeningValue) (piece : List ℕ) (heard : Heard) (h : HeaderValue) (n : ℕ) → header v.settings (start v.taken) ≡ Wanting → FirstStopIsAt (keeping v heard) piece n → header_in v.settings (v.taken ++ piece) ≡ Some h
    → header_in v.settings (v.taken ++ take n piece) ≡ Some h
used_by v piece Nothing h n now ends is = used_whole v piece h n now ends is
used_by v piece (Found m) h n now ends is = used_whole (keeping v (Found m)) piece h n now ends is
used_by v piece (Named fault) h n now ends is = used_whole (keeping v (Named fault)) piece h n now ends is
used_by v piece Failed h n now ends is = used_whole v piece h n now ends is

pub in_header : (v : OpeningValue) (piece : List ℕ) (h : HeaderValue) → asked_header v piece ≡ Some h → Standing v → header v.settings (start v.taken) ≡ Wanting
in_header v piece h asked (InHeader now) = now
in_header v piece h asked (Behind u iu) = absurd (none_some (sym (stepping.unasked u v piece iu) ∙ asked))
  where
    none_some : None ≡ Some h → ⊥
    none_some e = cc

-- a session keeps an answer about this header, in these bytes
keeps_in : (manager : Saying) (moment : ℕ) (v : OpeningValue) (heard : Heard) (bytes : List ℕ) (h : HeaderValue) → header_in v.settings bytes ≡ Some h → KeepsAnswer manager moment v.given (Some h) (keeping v heard).answer
    → KeepsItsAnswer manager moment (keeping v heard) bytes
keeps_in manager moment v Nothing bytes h is kept = subst (λ (o : Option HeaderValue). KeepsAnswer manager moment v.given o v.answer) (sym is) kept
keeps_in manager moment v (Found m) bytes h is kept = subst (λ (o : Option HeaderValue). KeepsAnswer manager moment v.given o (Some (Unlocks m.context m.only m.key))) (sym is) kept
keeps_in manager moment v (Named fault) bytes h is kept = subst (λ (o : Option HeaderValue). KeepsAnswer manager moment v.given o (Some (Refuses fault))) (sym is) kept
keeps_in manager moment v Failed bytes h is kept = subst (λ (o : Option HeaderValue). KeepsAnswer manager moment v.given o v.answer) (sym is) kept

-- ---- the law

pub keeps_answers : (manager : Saying) (moment : ℕ) → KeepsAnswers manager moment
keeps_answers manager moment v piece heard goes hears = record {
  before = λ none kept n. before_by manager moment v piece heard n goes (nothing_heard (asked_header v piece) heard none (may_hear manager moment v.given (asked_header v piece) ⊥ heard hears)) none kept;
  before_all = λ none kept.
      subst (λ (l : List ℕ). KeepsItsAnswer manager moment (keeping v heard) (v.taken ++ l)) (take_all (length piece) piece (omega arith))
      (before_by manager moment v piece heard (length piece) goes (nothing_heard (asked_header v piece) heard none (may_hear manager moment v.given (asked_header v piece) ⊥ heard hears)) none kept);
  used = λ h asked n is.
      keeps_in manager moment v heard (v.taken ++ take n piece) h
      (used_by v piece heard h n (in_header v piece h asked (standing v goes)) ((ends_exactly v piece heard).used n is) (asked_whole v piece h goes asked))
      (keeps_heard manager moment v piece h heard asked hears (failed_not_ok v piece heard n goes is));
  fault = λ h fault asked is.
      keeps_in manager moment v heard (v.taken ++ piece) h (asked_whole v piece h goes asked) (keeps_heard manager moment v piece h heard asked hears (failed_not_fault v piece heard fault goes is));
}

-- a session that took nothing keeps no answer
pub opened_keeps : (manager : Saying) (moment : ℕ) (settings : Settings) (given : List KeyValue) → KeepsItsAnswer manager moment (new_opening_session settings given) []
unfolding header opening
opened_keeps manager moment settings given = refl
