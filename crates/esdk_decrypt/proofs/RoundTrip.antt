-- A written message is decrypted to its text, with its whole context.
use Rattle.std.proofs.Common.{◌≡◌, ◌∙◌, ℕ, ◌<◌, ◌^◌, List, length, Some, sym, ap, subst}
use Rattle.std.specs.Io.KnownBytes.{Appends}
use Rattle.esdk_base.specs.Streams.{SinkState, SourceState}
use Rattle.context_codec.specs.Context.{KeyValue}
use Rattle.context_codec.specs.Parts.{only_of}
use Rattle.keyring_trait.specs.Unlocking.{Unlocks}
use Rattle.keyring_trait.specs.Wrapping.{WrapKeyValue}
use Rattle.message_format.specs.Judgement.{Judged, content}
use Rattle.message_format.specs.Laws.{whole_of_text}
use Rattle.message_format.specs.Reading.{unlocking}
use Rattle.message_format.proofs.RoundTrip.{reads_written, unlocks_written}
use Rattle.message_format.proofs.WrittenMessages.{text_released}
use Rattle.esdk_decrypt.specs.Decrypt.{Decrypts}
use Rattle.esdk_decrypt.specs.Told.{Reader, decrypting_by, judged_by}
use Rattle.esdk_decrypt.specs.Laws.{IsWholeInput, IsWrittenFor, Written, written_message}
use Rattle.esdk_decrypt.proofs.WholeInputs.{all_decrypted}

-- it is unlocked with its whole context
pub written_unlocked : (reader : Reader) (writers : List WrapKeyValue) (m : Written) → IsWrittenFor reader writers m
    → unlocking (written_message m) reader.settings reader.given reader.required reader.keys ≡ Unlocks m.context (only_of m.required m.context) m.key
written_unlocked reader writers m for =
    unlocks_written m.text m.context m.required m.size m.key m.entries m.id reader.settings writers reader.keys reader.given reader.required
    for.writable for.limits for.wrapped for.unreserved for.enough for.given

-- and judged whole
pub written_judged : (reader : Reader) (writers : List WrapKeyValue) (m : Written) → IsWrittenFor reader writers m → judged_by reader (written_message m) ≡ whole_of_text m.text m.size
written_judged reader writers m for =
    reads_written m.text m.context m.required m.size m.key m.entries m.id reader.settings writers reader.keys reader.given reader.required
    for.writable for.limits for.wrapped for.unreserved for.enough for.given

-- an input of it is whole
pub written_whole : (reader : Reader) (writers : List WrapKeyValue) (m : Written) (input : SourceState) → IsWrittenFor reader writers m → input.left ≡ Some (written_message m)
    → length (written_message m) < 2 ^ 62 → IsWholeInput reader input (written_message m)
written_whole reader writers m input for told few = record {
  told = told;
  few = few;
  whole = ap (λ (j : Judged). j.verdict) (written_judged reader writers m for);
}

same_context : (a b c d : List KeyValue) (k l : List ℕ) → Unlocks a c k ≡ Unlocks b d l → a ≡ b
same_context a b c d k l e = cc

-- what is decrypted of it is the text, with its whole context
pub text_decrypted : (reader : Reader) (writers : List WrapKeyValue) (m : Written) (input taken : SourceState) (output put : SinkState) (context : List KeyValue)
    → IsWrittenFor reader writers m → input.left ≡ Some (written_message m) → Decrypts (decrypting_by reader) input taken output put context
    → Appends output.written put.written m.text × (context ≡ m.context)
text_decrypted reader writers m input taken output put context for told done =
    let all = all_decrypted reader input taken output put context (written_message m) told done in (
      subst (λ b. Appends output.written put.written b) (ap content (written_judged reader writers m for) ∙ text_released m.text m.size for.writable.some) all.gained,
      same_context context m.context all.only (only_of m.required m.context) all.key m.key (sym all.unlocked ∙ written_unlocked reader writers m for),
    )
