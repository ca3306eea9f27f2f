-- What a session that opens keeps of the manager's answer once bytes were fed to it, and what these release.
use Rattle.std.proofs.Common.{◌≡◌, ◌∙◌, ℕ, List, ◌++◌, take, Option, Some, None, refl, sym, ap, subst}
use Rattle.std.specs.Prelude.{option_map}
use Rattle.esdk_base.specs.Shelf.{Files}
use Rattle.header_codec.specs.declared.settings.Settings.{Settings}
use Rattle.header_codec.specs.Header.{HeaderValue}
use Rattle.header_codec.specs.Table.{HeaderFields}
use Rattle.context_codec.specs.Context.{KeyValue}
use Rattle.keyring_trait.specs.declared.served.Served.{Served}
use Rattle.keyring_trait.specs.Manager.{ManagerNow}
use Rattle.keyring_trait.specs.Saying.{Admits, Saying, said_last}
use Rattle.keyring_trait.specs.Unlocking.{Unlocking}
use Rattle.message_format.specs.Judgement.{content, header_of, judged}
use Rattle.stream_open.specs.declared.session.Opener.{Opener}
use Rattle.stream_open.specs.Asking.{Heard, Nothing, Found, Named, Failed, IsHeard}
use Rattle.stream_open.specs.Feeding.{GoesOn, KeepsAnswer, header_in}
use Rattle.stream_open.specs.Receiving.{FedTo}
use Rattle.stream_open.specs.Session.{OpeningValue, answer_kept, asked_header, keeping}
use Rattle.stream_open.proofs.FedPieces.{asked_wants, keeps_some}
use Rattle.esdk_batch.specs.Answering.{KeepsServed, serving}
use Rattle.esdk_batch.specs.Ending.{Judges}
use Rattle.esdk_batch.specs.Files.{FileGains}
use Rattle.esdk_batch.proofs.Judging.{IsKept, Releases, answer_for, hears_as, judges_so, kept_with, served_now, served_still}

-- what is heard changes neither the limits nor the pairs
pub same_asked : (v : OpeningValue) (heard : Heard)
    → ((keeping v heard).settings ≡ v.settings) × ((keeping v heard).given ≡ v.given)
same_asked v Nothing = (refl, refl)
same_asked v (Found m) = (refl, refl)
same_asked v (Named fault) = (refl, refl)
same_asked v Failed = (refl, refl)

-- ---- what was heard

module _ (manager : Saying) (moment : ℕ) (v : OpeningValue) (bytes : List ℕ) (heard : Heard) (goes : GoesOn v)
    (hears : IsHeard (serving manager (keeping v heard).served) moment v.given (asked_header v bytes) ⊥ heard) (was : KeepsServed manager v v.taken)
    (wanting : (keeping v heard).answer ≡ None → header_in v.settings (v.taken ++ bytes) ≡ None) where
  keeps_by : (kept : Option Unlocking) → (keeping v heard).answer ≡ kept → v.answer ≡ None
      → KeepsAnswer (serving manager (keeping v heard).served) moment v.given (header_in v.settings (v.taken ++ bytes)) kept
  keeps_by None is wants = subst (λ (o : Option HeaderValue). KeepsAnswer (serving manager (keeping v heard).served) moment v.given o None) (sym (wanting is)) refl
  keeps_by (Some a) is wants = keeps_some (serving manager (keeping v heard).served) moment v bytes ⊥ heard a goes wants hears is

  keeps_asked : (asked : Option HeaderValue) → asked_header v bytes ≡ asked → KeepsServed manager (keeping v heard) (v.taken ++ bytes)
  keeps_asked None e = served_still manager moment v bytes heard goes hears was (v.taken ++ bytes) e (λ on. on.before_all e was.keeps)
  keeps_asked (Some h) e =
      let same = same_asked v heard in
      served_now manager moment v bytes heard goes hears was (v.taken ++ bytes) (λ g is. asked_wants v bytes g is)
      (subst (λ (x : Settings). KeepsAnswer (serving manager (keeping v heard).served) moment (keeping v heard).given (header_in x (v.taken ++ bytes)) (keeping v heard).answer) (sym same.0)
      (subst (λ (x : List KeyValue). KeepsAnswer (serving manager (keeping v heard).served) moment x (header_in v.settings (v.taken ++ bytes)) (keeping v heard).answer) (sym same.1)
      (keeps_by (keeping v heard).answer refl (asked_wants v bytes h e))))

  -- it is the manager's answer to the header that is whole in all bytes, with the session's limits and pairs
  pub kept_then : IsKept manager v.settings v.given (v.taken ++ bytes) (keeping v heard).served (keeping v heard).answer
  kept_then =
      let same = same_asked v heard in
      kept_with manager (keeping v heard) v.settings v.given (v.taken ++ bytes) same.0 same.1 (keeps_asked (asked_header v bytes) refl)

-- ---- bytes that were fed

module _ {M : Type 0} (state : M → ManagerNow) (manager : Saying) (now : ℕ) (v : OpeningValue) (bytes given : List ℕ) (old new : M) (opener : Opener)
    (answers : Admits manager (said_last (state old) (state new))) (fed : FedTo state now v bytes given old new opener) where
  -- what the session keeps that they came to
  pub fed_kept : KeepsServed manager v v.taken → IsKept manager v.settings v.given (v.taken ++ bytes) (keeping v fed.heard).served fed.session.answer
  fed_kept was =
      let w : OpeningValue = fed.session in
      let wanting : (keeping v fed.heard).answer ≡ None → header_in v.settings (v.taken ++ bytes) ≡ None =
      λ none. ap (λ (s : Settings). header_in s (v.taken ++ bytes)) (sym fed.feeds.settings) ∙ ap (λ (l : List ℕ). header_in w.settings l) (sym fed.feeds.taken)
      ∙ ap (λ (o : Option HeaderFields). option_map (header_of w.taken) o) (fed.feeds.goes.unheard (fed.answer ∙ none)) in
      subst (λ (a : Option Unlocking). IsKept manager v.settings v.given (v.taken ++ bytes) (keeping v fed.heard).served a) (sym fed.answer)
      (kept_then manager now v bytes fed.heard fed.on (hears_as (said_last (state old) (state new)) manager now v (asked_header v bytes) ⊥ fed.heard answers fed.hears) was wanting)

  pub fed_keeps : KeepsServed manager v v.taken → KeepsServed manager fed.session fed.session.taken
  fed_keeps was =
      let w : OpeningValue = fed.session in
      let kept : IsKept manager w.settings w.given w.taken w.served w.answer =
      subst (λ (x : Settings). IsKept manager x w.given w.taken w.served w.answer) (sym fed.feeds.settings)
      (subst (λ (x : List KeyValue). IsKept manager v.settings x w.taken w.served w.answer) (sym fed.feeds.pairs)
      (subst (λ (b : List ℕ). IsKept manager v.settings v.given b w.served w.answer) (sym fed.feeds.taken)
      (subst (λ (o : Option Served). IsKept manager v.settings v.given (v.taken ++ bytes) o w.answer) (sym fed.served) (fed_kept was)))) in
      record { moment = kept.moment; keeps = kept.keeps; unserved = kept.unserved }

  -- a front of what they release was put behind the file
  pub fed_judges : (piece to : List ℕ) (files after : Option Files) (used count : ℕ) → take used piece ≡ bytes → FileGains files after to (take count given)
      → Judges manager v piece to files after (keeping v fed.heard).served (answer_for v.settings (v.taken ++ bytes) fed.session.answer) used count
  fed_judges piece to files after used count front gains =
      let w : OpeningValue = fed.session in
      let r : Releases manager v piece to files after (v.taken ++ bytes) (keeping v fed.heard).served w.answer used count given =
      record {
        bytes_are = ap (λ (b : List ℕ). v.taken ++ b) (sym front);
        keeps = fed_kept;
        more = ap (λ (b : List ℕ). content (judged b v.settings (answer_kept w.answer))) (sym fed.feeds.taken)
            ∙ ap (λ (x : Settings). content (judged w.taken x (answer_kept w.answer))) (sym fed.feeds.settings) ∙ fed.feeds.content;
        gains = gains;
      } in
      judges_so manager v piece to files after (v.taken ++ bytes) (keeping v fed.heard).served w.answer used count given r
