-- The message of `encrypt` on the output: as its bytes or, where the words ask for it, as armour
-- text.
use Rattle.std.specs.Prelude.{Bool, true, false}
use Rattle.esdk_base.specs.Streams.{SinkState}
use Rattle.armour_core.specs.ArmourText.{armour_text}
use Rattle.armour_core.specs.ArmouredOutput.{full_lines_text}
use Rattle.esdk_encrypt.specs.Gaining.{OutputForm, Front, Gaining, Whole, as_bytes, gained_as}

-- A whole message is written as its armour text. Of the front of one that goes on the full lines
-- are: the armour text of its bytes, which are cut to the greatest multiple of 57.
abbrev pub as_armour : OutputForm
as_armour Whole bytes = armour_text bytes
as_armour Front bytes = full_lines_text bytes

-- the form that is asked for
abbrev pub output_form : (armour : Bool) → OutputForm
output_form true = as_armour
output_form false = as_bytes

-- what the output gained of the message in that form
abbrev pub output_gains : (armour : Bool) → SinkState → SinkState → Gaining
output_gains armour output put = gained_as (output_form armour) output put
