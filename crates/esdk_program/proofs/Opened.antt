-- A message that a decryption opens.
use Rattle.std.proofs.Common.{◌≡◌, ◌∙◌, ℕ, List, Option, Some, None, refl, sym, ap, arith}
use Rattle.keyring_trait.specs.Unlocking.{Unlocking}
use Rattle.body_format.specs.declared.verdicts.Verdict.{Verdict}
use Rattle.body_format.specs.declared.verdicts.Verdict.TheVariants as verdicts
use Rattle.message_format.specs.Judgement.{content}
use Rattle.armour_core.specs.declared.text_end.TextEnd.TheVariants as ends
use Rattle.esdk_decrypt.specs.Told.{Reader, judged_by, unlocked_to}
use Rattle.esdk_report.specs.declared.failure.Failure.{Failure}
use Rattle.esdk_program.specs.Effect.{Effect, done_with}
use Rattle.esdk_program.specs.Laws.{just}
use Rattle.esdk_program.specs.Program.{failure_at, judged_effect, opened_effect}

-- status 0 is that of a whole message
whole_of_code : (text : List ℕ) (answer : Unlocking) (v : Verdict) → (opened_effect text answer (failure_at v ends.Whole)).code ≡ 0 → v ≡ verdicts.Whole
whole_of_code text answer verdicts.Whole zero = refl
whole_of_code text answer verdicts.Going zero = absurd (let one : 1 ≡ 0 = zero in omega (arith, one))
whole_of_code text answer (verdicts.Faulty fault) zero = absurd (let one : 1 ≡ 0 = zero in omega (arith, one))

output_is : (text : List ℕ) (answer : Unlocking) (failure : Option Failure) → (opened_effect text answer failure).output ≡ text
output_is text answer None = refl
output_is text answer (Some failure) = refl

module _ (reader : Reader) (bytes text line : List ℕ) (is : judged_effect reader (just bytes) ≡ done_with text line) where
  pub opened_whole : (judged_by reader bytes).verdict ≡ verdicts.Whole
  opened_whole = whole_of_code (content (judged_by reader bytes)) (unlocked_to reader bytes) (judged_by reader bytes).verdict (ap (λ (e : Effect). e.code) is)

  -- and its text is what is written
  pub opened_text : content (judged_by reader bytes) ≡ text
  opened_text =
      sym (output_is (content (judged_by reader bytes)) (unlocked_to reader bytes) (failure_at (judged_by reader bytes).verdict ends.Whole))
      ∙ ap (λ (e : Effect). e.output) is
