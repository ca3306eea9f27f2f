-- What was written comes back.
use Rattle.std.proofs.Common.{◌∙◌, ℕ, List, refl, ap}
use Rattle.context_codec.specs.Parts.{only_of}
use Rattle.message_format.specs.Judgement.{Judged, content}
use Rattle.message_format.proofs.WrittenMessages.{text_released}
use Rattle.armour_core.proofs.ReadBack.{takes_armour_text}
use Rattle.esdk_decrypt.specs.Laws.{written_message}
use Rattle.esdk_decrypt.proofs.RoundTrip.{written_judged, written_unlocked}
use Rattle.esdk_report.specs.Report.{context_line}
use Rattle.esdk_program.specs.Effect.{done_with}
use Rattle.esdk_program.specs.Laws.{OpensWhatIsArmoured, OpensWhatIsWritten, just}
use Rattle.esdk_program.specs.Program.{judged_effect}
use Rattle.esdk_program.proofs.Opening.{whole_is}

pub written_opens : OpensWhatIsWritten
written_opens reader writers m written =
    whole_is reader (just (written_message m)) (written_message m) m.context refl refl
    (ap (λ (j : Judged). j.verdict) (written_judged reader writers m written))
    (only_of m.required m.context, m.key, written_unlocked reader writers m written)
    ∙ ap (λ (t : List ℕ). done_with t (context_line m.context))
    (ap content (written_judged reader writers m written) ∙ text_released m.text m.size written.writable.some)

pub armoured_opens : OpensWhatIsArmoured
armoured_opens reader writers m written are few =
    ap (judged_effect reader) (takes_armour_text (written_message m) are few) ∙ written_opens reader writers m written
