-- What an encryption of told bytes to a told output writes.
use Rattle.std.proofs.Common.{◌≡◌, ◌∙◌, ℕ, List, ◌++◌, length, take, Option, Some, None, refl, sym, ap, subst, append-nil, take_at}
use Rattle.std.specs.Io.KnownBytes.{Appends, Consumes, IsAtEnd}
use Rattle.esdk_base.specs.Streams.{EntropyState, OnTold, SinkState, SourceState}
use Rattle.esdk_fields.specs.declared.refusals.Refusal.{Refusal}
use Rattle.stream_seal.specs.Start.{message_of, drawn_id}
use Rattle.esdk_encrypt.specs.Encrypt.{Encrypts}
use Rattle.esdk_encrypt.specs.Gaining.{OutputForm, Whole, gained_as}
use Rattle.esdk_encrypt.specs.Laws.{GainsMessage, SealsWhatCame}
use Rattle.esdk_encrypt.specs.Told.{Writer, encrypting_by, message_by}

-- what was consumed of told bytes is their front
consumed_first : (old new : Option (List ℕ)) (bytes : List ℕ) → Consumes old new bytes → OnTold old (λ coming. bytes ≡ take (length bytes) coming)
consumed_first None new bytes consumed = tt
consumed_first (Some coming) None bytes consumed = absurd consumed
consumed_first (Some coming) (Some rest) bytes consumed = sym (ap (take (length bytes)) consumed ∙ take_at bytes rest (length bytes) refl)

-- at their end, that is all of them
consumed_all : (now : Option (List ℕ)) (bytes text : List ℕ) → Consumes (Some text) now bytes → IsAtEnd now → bytes ≡ text
consumed_all None bytes text consumed end = absurd consumed
consumed_all (Some rest) bytes text consumed end = sym (consumed ∙ ap (λ (more : List ℕ). bytes ++ more) end ∙ append-nil bytes)

-- told bytes that grew are told
appended_told : (now : Option (List ℕ)) (before bytes : List ℕ) → Appends (Some before) now bytes → now ≡ Some (before ++ bytes)
appended_told None before bytes appended = absurd appended
appended_told (Some written) before bytes appended = ap Some appended

pub gains_message : (form : OutputForm) (writer : Writer) (refusal : Option Refusal) (old new : ℕ) (text before : List ℕ) (input taken : SourceState) (output put : SinkState) (entropy spent : EntropyState)
    → input.left ≡ Some text → output.written ≡ Some before → Encrypts (encrypting_by writer refusal old new) input taken (gained_as form output put) entropy spent
    → GainsMessage form writer text before entropy put
gains_message form writer refusal old new text before input taken output put entropy spent left written encrypts =
    let drawn : List ℕ = encrypts.drawn in
    let writes = encrypts.writes in
    let drew = encrypts.started.drew in
    let all : writes.text ≡ text =
    consumed_all taken.left writes.text text (subst (λ bytes. Consumes bytes taken.left writes.text) left writes.came.consumed) writes.end.end in
    let message_is : message_of encrypts.materials writer.size (drawn_id drawn) writes.text ≡ message_by writer drawn text =
    λ i. message_of (encrypts.started.given.1 i) writer.size (drawn_id drawn) (all i) in
    let gained : Appends (Some before) put.written (form Whole (message_by writer drawn text)) =
    subst (λ b. Appends (Some before) put.written (form Whole b)) message_is
    (subst (λ first. Appends first put.written (form Whole (message_of encrypts.materials writer.size (drawn_id drawn) writes.text))) written writes.gained) in
    record {
      drawn = drawn;
      count = drew.count;
      first = subst (λ (n : ℕ). OnTold entropy.to_come (λ coming. drawn ≡ take n coming)) drew.count (consumed_first entropy.to_come spent.to_come drawn drew.consumed);
      gained = appended_told put.written before (form Whole (message_by writer drawn text)) gained;
    }

-- what went through: the text that came is sealed with the bytes drawn
pub seals_what_came : (form : OutputForm) (writer : Writer) (refusal : Option Refusal) (old new : ℕ) (input taken : SourceState) (output put : SinkState) (entropy spent : EntropyState)
    → Encrypts (encrypting_by writer refusal old new) input taken (gained_as form output put) entropy spent
    → SealsWhatCame form writer input taken output put entropy spent
seals_what_came form writer refusal old new input taken output put entropy spent encrypts =
    let drawn : List ℕ = encrypts.drawn in
    let writes = encrypts.writes in
    record {
      text = writes.text;
      came = writes.came.told;
      end = writes.end.seen;
      drawn = drawn;
      count = encrypts.started.drew.count;
      drew = encrypts.started.drew.told;
      gained = subst (λ m. Appends output.written put.written (form Whole (message_of m writer.size (drawn_id drawn) writes.text))) encrypts.started.given.1 writes.gained;
    }
