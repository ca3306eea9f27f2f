-- Where no header is whole in the bytes that came, both managers are as they were.
use Rattle.std.proofs.Common.{◌≡◌, ◌∙◌, ℕ, ◌≤◌, List, ◌++◌, length, take, drop, Option, Some, None, Result, Ok, Err, inl, inr, refl, ap, subst, append_assoc}
use Rattle.std.proofs.lemmas.List.{take-append-drop}
use Rattle.esdk_fields.specs.declared.faults.Fault.{Fault}
use Rattle.esdk_fields.specs.declared.faults.Fault.TheVariants.{Truncated}
use Rattle.esdk_fields.specs.Place.{start}
use Rattle.esdk_fields.specs.Reading.{Reading, Read, Refused, Wanting, value_of}
use Rattle.esdk_base.specs.Streams.{SinkState}
use Rattle.context_codec.specs.Context.{KeyValue}
use Rattle.header_codec.specs.declared.settings.Settings.{Settings}
use Rattle.header_codec.specs.Table.{HeaderFields, head, header}
use Rattle.keyring_trait.specs.Manager.{ManagerNow}
use Rattle.keyring_trait.specs.Materials.{EncMaterialsValue}
use Rattle.keyring_trait.specs.Saying.{said_last}
use Rattle.keyring_trait.specs.Unlocking.{Unlocking, Refuses, Unlocks}
use Rattle.stream_open.specs.declared.errors.OpenError.{OpenError}
use Rattle.stream_open.specs.declared.errors.OpenError.TheVariants as opens
use Rattle.stream_open.specs.Session.{asked_header, opening_stepped}
use Rattle.stream_open.specs.Session.{new_opening_session as new_opening}
use Rattle.stream_open.specs.Stands.{OpenerSteps as StepsOpener}
use Rattle.stream_open.proofs.FedPieces.{joins}
use Rattle.esdk_decrypt.specs.Decrypt.{Answering, AnswersReading, AnswersTo, answering_of}
use Rattle.esdk_decrypt.proofs.Breaking.{headless_before, none_asked}
use Rattle.reseal_core.specs.declared.errors.ResealError.{ResealError}
use Rattle.reseal_core.specs.declared.resealer.Resealer.{Resealer}
use Rattle.reseal_core.specs.Session.{ResealingValue, gone_on, new_resealing_session}
use Rattle.reseal_core.specs.Stands.{AsksFor, SealsAfter, ResealerSteps}
use Rattle.reseal_core.specs.Underway.{AreMade, IsMade, Reached}
use Rattle.reseal_core.proofs.Reaching.{answer, answer_kept_is, answers, opens_here}

-- ---- an answer that unlocks is one to a whole header

refuses_not : (whole only : List KeyValue) (key : List ℕ) (fault : Fault) → Unlocks whole only key ≡ Refuses fault → ⊥
refuses_not whole only key fault e = cc

unlocks_by : (manager : Answering) (given : List KeyValue) (b : List ℕ) (whole only : List KeyValue) (key : List ℕ) (r : Reading HeaderFields) → value_of r ≡ None
    → AnswersReading manager given b r (Unlocks whole only key) → ⊥
unlocks_by manager given b whole only key (Read parts p) none answered = absurd (let no : Some parts ≡ None = none in cc)
unlocks_by manager given b whole only key (Refused fault at) none answered = refuses_not whole only key fault answered
unlocks_by manager given b whole only key Wanting none answered = refuses_not whole only key Truncated answered

unlocks_header : (manager : Answering) (settings : Settings) (given : List KeyValue) (b : List ℕ) (whole only : List KeyValue) (key : List ℕ) → head settings b ≡ None
    → AnswersTo manager settings given b (Unlocks whole only key) → ⊥
unlocks_header manager settings given b whole only key none answered = unlocks_by manager given b whole only key (header settings (start b)) none answered

module _ {A B : Type 0} (opened : A → ManagerNow) (sealed : B → ManagerNow) (now : ℕ) (settings : Settings) (given : List KeyValue) (size : ℕ) (random : List ℕ) (bytes : List ℕ) (old new : A) (before after : B)
    (output put : SinkState) (resealer : Resealer) (r : Reached opened sealed now (new_resealing_session settings given size random) bytes old new before after output put resealer) where
  -- there are no materials yet
  none_made : (m : EncMaterialsValue) → head settings bytes ≡ None → r.materials ≡ Some m → ⊥
  none_made m none is =
      let made : AreMade (said_last (sealed before) (sealed after)) now random r.fed.session.answer m =
      subst (λ (x : Option EncMaterialsValue). IsMade (said_last (sealed before) (sealed after)) now random r.fed.session.answer (after ≡ before) x) is r.made in
      let kept : answer opened sealed now settings given size random bytes old new before after output put resealer r ≡ Unlocks made.whole made.only made.key =
      answer_kept_is opened sealed now settings given size random bytes old new before after output put resealer r (Unlocks made.whole made.only made.key) made.answer_is in
      unlocks_header (answering_of (opened old) (opened new) now) settings given bytes made.whole made.only made.key none
      (subst (λ (u : Unlocking). AnswersTo (answering_of (opened old) (opened new) now) settings given bytes u) kept
      (answers opened sealed now settings given size random bytes old new before after output put resealer r))

  unasked_yet : (o : Option EncMaterialsValue) → r.materials ≡ o → head settings bytes ≡ None → after ≡ before
  unasked_yet None is none = subst (λ (x : Option EncMaterialsValue). IsMade (said_last (sealed before) (sealed after)) now random r.fed.session.answer (after ≡ before) x) is r.made
  unasked_yet (Some m) is none = absurd (none_made m none is)

  pub reached_unasked : head settings bytes ≡ None → (new ≡ old) × (after ≡ before)
  reached_unasked none = (r.fed.unasked (none_asked settings given bytes none), unasked_yet r.materials refl none)

  -- ---- a step that fails

  module _ (rest : List ℕ) (last : A) (end : B) (now_put : SinkState) (next : Resealer) (unwritten : Type 0) (some : 1 ≤ length rest) (stays : asked_header r.fed.session rest ≡ None → last ≡ new)
      (none : head settings (bytes ++ rest) ≡ None) where
    abbrev v : ResealingValue
    v = gone_on (new_resealing_session settings given size random) r.fed.session r.materials

    none_first : head settings bytes ≡ None
    none_first = headless_before settings bytes rest (head settings bytes) refl none

    -- the old message isn't unlocked
    opens_none : (used : ℕ) (s : StepsOpener (opened new) (opened last) now r.fed.session rest (Ok used) next.opener) (whole only : List KeyValue) (key : List ℕ)
        → (opening_stepped r.fed.session rest s.heard (Ok used)).answer ≡ Some (Unlocks whole only key) → ⊥
    opens_none used s whole only key e =
        let b : List ℕ = bytes ++ take used rest in
        let all : b ++ drop used rest ≡ bytes ++ rest = append_assoc bytes (take used rest) (drop used rest) ∙ ap (λ (l : List ℕ). bytes ++ l) (take-append-drop used rest) in
        let here = opens_here opened sealed now settings given size random bytes old new before after output put resealer r rest last end now_put used some next s stays whole only key e in
        unlocks_header (answering_of (opened old) (opened last) now) settings given b whole only key
        (headless_before settings b (drop used rest) (head settings b) refl (ap (λ (l : List ℕ). head settings l) all ∙ none)) here.answers

    asks_none : (m : EncMaterialsValue) (o : Option EncMaterialsValue) (used : ℕ) (s : StepsOpener (opened new) (opened last) now r.fed.session rest (Ok used) next.opener) → r.materials ≡ o
        → AsksFor o (said_last (sealed after) (sealed end)) now random (opening_stepped r.fed.session rest s.heard (Ok used)) (end ≡ after) (Some m) → ⊥
    asks_none m (Some n) used s is asks = none_made n none_first is
    asks_none m None used s is asks = opens_none used s asks.whole asks.only asks.opened.key asks.opened.answer

    sealing_by : (error : ResealError) (answer : Result ℕ OpenError) (s : StepsOpener (opened new) (opened last) now r.fed.session rest answer next.opener)
        → SealsAfter (said_last (sealed after) (sealed end)) now v (opening_stepped r.fed.session rest s.heard answer) answer put now_put (end ≡ after) unwritten (Err error) next → end ≡ after
    sealing_by error (Err why) s not = not.manager
    sealing_by error (Ok used) s (stopped, inl b) = absurd (opens_none used s b.whole b.only b.opened.key b.opened.answer)
    sealing_by error (Ok used) s (stopped, inr p) = absurd (asks_none p.materials r.materials used s refl p.asks)

    pub step_unasked : (error : ResealError) → ResealerSteps (opened new) (opened last) (said_last (sealed after) (sealed end)) now v rest put now_put (end ≡ after) unwritten (Err error) next → (last ≡ old) × (end ≡ before)
    step_unasked error s =
        let j = joins opened now (new_opening settings given) bytes rest r.text old new last resealer.opener r.fed (s.answer ≡ Err opens.Memory) s.opens.heard s.opens.hears s.opens.bears stays in
        (j.unasked (none_asked settings given (bytes ++ rest) none), sealing_by error s.answer s.opens s.seals ∙ unasked_yet r.materials refl none_first)
