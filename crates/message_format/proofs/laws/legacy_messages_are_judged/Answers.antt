use Rattle.message_format.proofs.LegacyMessages.{legacy_is_whole, legacy_is_forbidden}
use Rattle.message_format.proofs.laws.legacy_messages_are_judged.Goals as goal

pub returns : goal.returns
returns c = record {
  whole = λ m text settings answered writable allowed. legacy_is_whole m text settings answered writable allowed;
  forbidden = λ m text settings answer forbidden. legacy_is_forbidden m text settings answer forbidden;
}
