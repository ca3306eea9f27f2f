-- The manager of the new message is as it was, unless the old one was unlocked.
use Rattle.std.proofs.Common.{◌≡◌, ◌∙◌, ℕ, ◌≤◌, true, List, [], ◌++◌, length, take, Option, Some, None, Result, Ok, Err, inl, inr, refl, sym, subst, arith, append-nil}
use Rattle.esdk_base.specs.Streams.{SinkState, SourceState}
use Rattle.context_codec.specs.Context.{KeyValue}
use Rattle.header_codec.specs.declared.settings.Settings.{Settings}
use Rattle.keyring_trait.specs.Manager.{ManagerNow}
use Rattle.keyring_trait.specs.Materials.{EncMaterialsValue}
use Rattle.keyring_trait.specs.Saying.{said_last}
use Rattle.keyring_trait.specs.Unlocking.{Unlocks}
use Rattle.stream_open.specs.declared.errors.OpenError.{OpenError}
use Rattle.stream_open.specs.Session.{asked_header, judged_now, opening_stepped}
use Rattle.stream_open.specs.Stands.{OpenerSteps as StepsOpener}
use Rattle.whole_input.specs.Pieces.{most_piece}
use Rattle.whole_input.specs.Taken.{Came}
use Rattle.reseal_core.specs.declared.errors.ResealError.{ResealError}
use Rattle.reseal_core.specs.declared.resealer.Resealer.{Resealer}
use Rattle.reseal_core.specs.Reseal.{Resealing, UnaskedUnlessUnlocked, WasUnlocked, resealing_from}
use Rattle.reseal_core.specs.Session.{ResealingValue, gone_on, new_resealing_session}
use Rattle.reseal_core.specs.Stands.{ResealerSteps, SealsAfter}
use Rattle.reseal_core.specs.Underway.{AreMade, IsMade, Reached}
use Rattle.reseal_core.proofs.Reaching.{made_by, open_with, opens_first, writes_reached}

module _ {A B : Type 0} (opened : A → ManagerNow) (sealed : B → ManagerNow) (now : ℕ) (settings : Settings) (given : List KeyValue) (size : ℕ) (random : List ℕ) (bytes : List ℕ) (old new : A) (before after : B)
    (output put : SinkState) (resealer : Resealer) (r : Reached opened sealed now (new_resealing_session settings given size random) bytes old new before after output put resealer) where
  -- more bytes came behind those that were fed, about which the manager isn't asked
  behind : (rest : List ℕ) (last : A) (end : B) → end ≡ after → (asked_header r.fed.session rest ≡ None → last ≡ new) → (input taken : SourceState) → Came input taken (bytes ++ rest) → length rest ≤ most_piece
      → (o : Option EncMaterialsValue) → r.materials ≡ o → UnaskedUnlessUnlocked (resealing_from (opened old) (opened last) (sealed before) (sealed end) now settings given size) input taken (end ≡ before)
  behind rest last end same stays input taken came few None is =
      inl (same ∙ subst (λ (x : Option EncMaterialsValue). IsMade (said_last (sealed before) (sealed after)) now random r.fed.session.answer (after ≡ before) x) is r.made)
  behind rest last end same stays input taken came few (Some m) is =
      let w = writes_reached opened sealed now settings given size random bytes old new before after output put resealer r rest last end same stays input taken came few m is in
      inr (record { first = w.first; whole = w.whole; only = w.only; key = w.key; opens = w.opens })

  -- no more came
  pub reached_locked : (input taken : SourceState) → Came input taken bytes → UnaskedUnlessUnlocked (resealing_from (opened old) (opened new) (sealed before) (sealed after) now settings given size) input taken (after ≡ before)
  reached_locked input taken came =
      behind [] new after refl (λ none. refl) input taken (subst (λ (b : List ℕ). Came input taken b) (sym (append-nil bytes)) came) (omega arith) r.materials refl

  -- ---- a step that fails

  module _ (rest : List ℕ) (last : A) (end : B) (now_put : SinkState) (next : Resealer) (unwritten : Type 0) (some : 1 ≤ length rest) (stays : asked_header r.fed.session rest ≡ None → last ≡ new)
      (input taken : SourceState) (came : Came input taken (bytes ++ rest)) (few : length rest ≤ most_piece) where
    abbrev v : ResealingValue
    v = gone_on (new_resealing_session settings given size random) r.fed.session r.materials

    abbrev asked : Resealing
    asked = resealing_from (opened old) (opened last) (sealed before) (sealed end) now settings given size

    -- the bytes that were used unlock the old message
    unlocked_at : (used : ℕ) (s : StepsOpener (opened new) (opened last) now r.fed.session rest (Ok used) next.opener) (whole only : List KeyValue) (key : List ℕ)
        → (opening_stepped r.fed.session rest s.heard (Ok used)).answer ≡ Some (Unlocks whole only key) → (judged_now (opening_stepped r.fed.session rest s.heard (Ok used))).unlocked ≡ true → WasUnlocked asked input taken
    unlocked_at used s whole only key e is = record {
      first = bytes ++ take used rest;
      whole = whole;
      only = only;
      key = key;
      opens = opens_first opened sealed now settings given size random bytes old new before after output put resealer r rest last end now_put used some next s stays whole only key e is input taken came few;
    }

    locked_by : (error : ResealError) (answer : Result ℕ OpenError) (s : StepsOpener (opened new) (opened last) now r.fed.session rest answer next.opener)
        → SealsAfter (said_last (sealed after) (sealed end)) now v (opening_stepped r.fed.session rest s.heard answer) answer put now_put (end ≡ after) unwritten (Err error) next → UnaskedUnlessUnlocked asked input taken (end ≡ before)
    locked_by error (Err why) s not = behind rest last end not.manager stays input taken came few r.materials refl
    locked_by error (Ok used) s (stopped, inl b) = inr (unlocked_at used s b.whole b.only b.opened.key b.opened.answer b.opened.unlocked)
    locked_by error (Ok used) s (stopped, inr p) =
        let made : AreMade (said_last (sealed before) (sealed end)) now random (opening_stepped r.fed.session rest s.heard (Ok used)).answer p.materials =
        made_by opened sealed now settings given size random bytes old new before after output put resealer r rest last end now_put used some next s stays r.materials refl (Some p.materials) p.asks in
        inr (unlocked_at used s made.whole made.only made.key made.answer_is
        (open_with opened sealed now settings given size random bytes old new before after output put resealer r rest last end now_put used some next s stays p.materials p.asks))

    pub step_locked : (error : ResealError) → ResealerSteps (opened new) (opened last) (said_last (sealed after) (sealed end)) now v rest put now_put (end ≡ after) unwritten (Err error) next → UnaskedUnlessUnlocked asked input taken (end ≡ before)
    step_locked error s = locked_by error s.answer s.opens s.seals
