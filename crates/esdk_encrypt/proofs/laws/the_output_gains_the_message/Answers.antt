use Rattle.esdk_encrypt.proofs.Gaining.{gains_message}
use Rattle.esdk_encrypt.proofs.laws.the_output_gains_the_message.Goals as goal

pub returns : goal.returns
returns c = gains_message
