-- What `encrypt` and `decrypt` made of what went through their objects, once they are done. Each
-- object tells what went through it, so that this is said of the real streams, files and generators
-- as of those in memory, whatever becomes of a file or a stream meanwhile.
use Rattle.std.specs.Prelude.{◌≡◌, ℕ, List, [], ◌∷◌, ◌++◌, Some, Ok, true}
use Rattle.std.specs.Io.KnownBytes.{Appends}
use Rattle.esdk_args.specs.declared.request.DecryptWords.{DecryptWords}
use Rattle.esdk_args.specs.declared.request.EncryptWords.{EncryptWords}
use Rattle.esdk_fields.specs.Counts.{Stayed}
use Rattle.esdk_base.specs.Streams.{ShelfState, SinkState}
use Rattle.armour_core.specs.declared.text_end.TextEnd.TheVariants as ends
use Rattle.context_codec.specs.Context.{KeyValue}
use Rattle.keyring_trait.specs.Keyring.{KeyringMeaning}
use Rattle.keyring_trait.specs.Uses.{AskedOnce}
use Rattle.keyring_trait.specs.Wrapping.{WrapKeyValue}
use Rattle.body_format.specs.declared.verdicts.Verdict.TheVariants.{Whole}
use Rattle.message_format.specs.Judgement.{content}
use Rattle.whole_input.specs.FileReads.{ReadsWholeFile}
use Rattle.esdk_encrypt.specs.Laws.{SealsWhatCame}
use Rattle.esdk_decrypt.specs.Told.{Reader, judged_by}
use Rattle.esdk_run.specs.ArmouredMessage.{output_form}
use Rattle.esdk_run.specs.Decrypt.{reader_of}
use Rattle.esdk_run.specs.Encrypt.{run_writer}
use Rattle.esdk_run.specs.Objects.{Objects}
use Rattle.esdk_run.specs.Pairs.{context_in}
use Rattle.esdk_run.specs.Trees.{Trees}
use Rattle.esdk_run.specs.Unarmoured.{outlook_of}

-- The calls of the shelf read the keyring file, once, from its front to its end, and nothing else.
-- The bytes that they gave are read as this tree.
pub record TreeCame (trees : Trees) (name : List ℕ) (old new : ShelfState)
    (tree : KeyringMeaning) : Type 0 where
  pub file : List ℕ
  pub read : ReadsWholeFile name old.calls new.calls file
  pub is : trees.read file ≡ Ok (tree ∷ [])

-- ---- `encrypt`

-- The output gained the message of the bytes that came from the input, whose end was seen, in the
-- form that the words ask for: over the context of the words, under the keys of the tree that came,
-- where that tells them, and with the bytes that were drawn. It is also so under the keys that the
-- leaves of this tree went by in the run, each asked once, where they show them: a raw key, or the
-- key that was read for this call.
pub record SealedWhatCame (trees : Trees) (asked : EncryptWords) (before after : Objects)
    : Type 0 where
  pub context : List KeyValue
  pub pairs : context_in asked.pairs ≡ Ok context
  pub tree : KeyringMeaning
  pub left : KeyringMeaning
  pub kept : trees.kept ≡ Some left
  pub keyring : TreeCame trees asked.keyring before.shelf after.shelf tree
  pub sealed : (keys : List WrapKeyValue) → tree.keys ≡ Some keys
      → SealsWhatCame (output_form asked.armour) (run_writer asked context keys) before.input
      after.input before.output after.output before.entropy after.entropy
  pub by_use : AskedOnce tree.uses left.uses
      (λ keys. SealsWhatCame (output_form asked.armour) (run_writer asked context keys) before.input
      after.input before.output after.output before.entropy after.entropy)

-- ---- `decrypt`

-- These bytes are a whole message to this reader, and the output gained its content.
pub record OpensAllThatCame (reader : Reader) (bytes : List ℕ) (output put : SinkState)
    : Type 0 where
  pub whole : (judged_by reader bytes).verdict ≡ Whole
  pub gained : Appends output.written put.written (content (judged_by reader bytes))

-- The bytes that came from the input, whose end was seen, are a whole message to who has the keys
-- of the tree that came, where that tells them and none of its keyrings failed (none of a steady
-- tree fails); and the output gained its content. So are they, whether one failed or not, to who
-- has the keys that the leaves of this tree went by in the run, each asked once, where they show
-- them. Where the words ask for armour, the bytes that came are a text whose groups are all whole
-- and good, and the bytes that it gives are that message.
pub record OpenedWhatCame (trees : Trees) (asked : DecryptWords) (before after : Objects)
    : Type 0 where
  pub given : List KeyValue
  pub pairs : context_in asked.pairs ≡ Ok given
  pub tree : KeyringMeaning
  pub left : KeyringMeaning
  pub kept : trees.kept ≡ Some left
  pub steady : tree.steady ≡ true → Stayed tree.faults left.faults
  pub keyring : TreeCame trees asked.keyring before.shelf after.shelf tree
  pub bytes : List ℕ
  pub came : after.input.came ≡ before.input.came ++ bytes
  pub end : after.input.ended ≡ true
  pub sound : (outlook_of asked.armour bytes).end ≡ ends.Whole
  pub opened : (keys : List WrapKeyValue) → tree.keys ≡ Some keys → Stayed tree.faults left.faults
      → OpensAllThatCame (reader_of asked given keys) (outlook_of asked.armour bytes).bytes
      before.output after.output
  pub by_use : AskedOnce tree.uses left.uses
      (λ keys. OpensAllThatCame (reader_of asked given keys) (outlook_of asked.armour bytes).bytes
      before.output after.output)
