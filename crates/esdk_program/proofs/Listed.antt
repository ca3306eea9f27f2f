-- Who stands in an audit's line of a message.
use Rattle.std.proofs.Common.{◌≡◌, ◌∙◌, ℕ, true, false, List, refl, sym, ap}
use Rattle.keyring_trait.specs.Unlocking.{Unlocking, Refuses, Unlocks}
use Rattle.body_format.specs.declared.verdicts.Verdict.TheVariants as verdicts
use Rattle.message_format.specs.Judgement.{Judged, judged}
use Rattle.message_format.proofs.ReadingOn.{read_is}
use Rattle.esdk_decrypt.specs.Told.{Reader, judged_by, unlocked_to}
use Rattle.audit_core.proofs.Unlocked.{openers_unlock}
use Rattle.esdk_program.specs.Laws.{ListsWhoOpens, ListsWhoUnlocks, UnlocksHeader, leaf_reader}
use Rattle.esdk_program.proofs.Opened.{opened_whole}
use Rattle.esdk_program.proofs.Unlocked.{refused_locked, whole_unlocked}

module _ (reader : Reader) (bytes : List ℕ) where
  -- what is judged, by what it is unlocked to
  judged_is : judged_by reader bytes ≡ judged bytes reader.settings (unlocked_to reader bytes)
  judged_is = read_is bytes reader.settings reader.given reader.required reader.keys

  with_answer : (answer : Unlocking) → unlocked_to reader bytes ≡ answer → (judged_by reader bytes).unlocked ≡ true → UnlocksHeader reader bytes
  with_answer (Unlocks context only key) is unlocked = record { context = context; only = only; key = key; answer = is; unlocked = unlocked }
  with_answer (Refuses fault) is unlocked =
      let both : false ≡ true =
      sym (refused_locked bytes reader.settings fault) ∙ ap (λ (a : Unlocking). (judged bytes reader.settings a).unlocked) (sym is)
      ∙ sym (ap (λ (j : Judged). j.unlocked) judged_is) ∙ unlocked in
      absurd (cc both)

  header_unlocked : (judged_by reader bytes).unlocked ≡ true → UnlocksHeader reader bytes
  header_unlocked unlocked = with_answer (unlocked_to reader bytes) refl unlocked

  whole_is_unlocked : (judged_by reader bytes).verdict ≡ verdicts.Whole → (judged_by reader bytes).unlocked ≡ true
  whole_is_unlocked whole =
      ap (λ (j : Judged). j.unlocked) judged_is
      ∙ whole_unlocked bytes reader.settings (unlocked_to reader bytes) (sym (ap (λ (j : Judged). j.verdict) judged_is) ∙ whole)

pub lists_unlocking : ListsWhoUnlocks
lists_unlocking before behind keys m =
    let both = openers_unlock before keys behind m in (
      λ stands. header_unlocked (leaf_reader keys m.given) m.bytes (both.0 stands),
      λ unlocks. both.1 unlocks.unlocked,
    )

pub lists_opening : ListsWhoOpens
lists_opening before behind keys m text line is =
    (openers_unlock before keys behind m).1
    (whole_is_unlocked (leaf_reader keys m.given) m.bytes (opened_whole (leaf_reader keys m.given) m.bytes text line is))
