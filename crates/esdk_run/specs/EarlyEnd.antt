-- What `encrypt` leaves where it ends early.
use Rattle.std.specs.Prelude.{ℕ, List}
use Rattle.stream_seal.specs.Start.{drawn_id, drawn_rest}
use Rattle.esdk_args.specs.declared.request.EncryptWords.{EncryptWords}
use Rattle.esdk_encrypt.specs.Encrypt.{Drew}
use Rattle.esdk_encrypt.specs.Laws.{GainsMessageFront}
use Rattle.esdk_encrypt.specs.Told.{Writer, drawn_materials, writer_wraps}
use Rattle.esdk_run.specs.ArmouredMessage.{output_form}
use Rattle.esdk_run.specs.Objects.{Objects}

-- Of the message that is made with the bytes drawn, of the bytes taken as far as it has room for
-- them, the output gained a front, in the form that the words ask for.
pub record LeavesMessageFront (asked : EncryptWords) (writer : Writer)
    (before after : Objects) : Type 0 where
  pub drawn : List ℕ
  pub drew : Drew (writer_wraps writer) before.entropy after.entropy drawn
  pub front : GainsMessageFront (output_form asked.armour)
      (drawn_materials writer (drawn_rest drawn))
      writer.size (drawn_id drawn) before.input after.input before.output after.output
