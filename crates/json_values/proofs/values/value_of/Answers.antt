-- The value of the text, or none.
use Rattle.std.proofs.Common.{refl}
use Rattle.std.specs.Prelude.{Some}
use Rattle.serde_json.specs.View.{view}
use Rattle.json_values.proofs.Texts.{text_value, no_value}
use Rattle.json_values.proofs.values.value_of.Goals as goal

pub returns-in-Ok : goal.returns-in-Ok
returns-in-Ok c = text_value c.args.bytes.now (Some (view c.in-Ok.value)) c.in-Ok.ensures.ok.0 c.in-Ok.ensures.ok.1

pub returns-else-is_memory : goal.returns-else-is_memory
returns-else-is_memory c = (refl, no_value c.args.bytes.now (c.in-Err.ensures.err (λ memory. let e = c.if-is_memory.ensures.1 memory in absurd cc)))
