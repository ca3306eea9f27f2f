-- A message that is written as its text comes.
use Rattle.std.specs.Prelude.{◌≡◌, ℕ, ◌≤◌, List, [], length, false, None, Result, Ok, Err}
use Rattle.std.specs.Prelude.{MatchResult}
use Rattle.esdk_base.specs.declared.receiver.FeedError.{FeedError}
use Rattle.esdk_base.specs.declared.receiver.FeedError.TheVariants as feeds
use Rattle.esdk_base.specs.declared.source.Failed.{Failed}
use Rattle.esdk_base.specs.Streams.{SourceState}
use Rattle.esdk_fields.specs.declared.refusals.Outside.TheVariants as outsides
use Rattle.keyring_trait.specs.Materials.{EncMaterialsValue}
use Rattle.stream_seal.specs.declared.errors.SealError.{SealError}
use Rattle.stream_seal.specs.declared.errors.SealError.TheVariants as seals
use Rattle.stream_seal.specs.Feeding.{fed_out, frames_given}
use Rattle.stream_seal.specs.Receiving.{SealerFedShort, SealerFedWhole}
use Rattle.stream_seal.specs.declared.session.Sealer.{Sealer}
use Rattle.stream_seal.specs.Session.{SealingValue, sealing_finished}
use Rattle.stream_seal.specs.Stands.{Stands}
use Rattle.gathered_output.specs.Gathering.{FailsAtFirst}
use Rattle.whole_input.specs.declared.pieces.End.{End}
use Rattle.whole_input.specs.declared.pieces.End.TheVariants as ends
use Rattle.esdk_encrypt.specs.declared.errors.EncryptError.{EncryptError}
use Rattle.esdk_encrypt.specs.declared.errors.EncryptError.TheVariants as errors
use Rattle.esdk_encrypt.specs.Encrypt.{StopsSo, WritesMessage}
use Rattle.esdk_encrypt.specs.Gaining.{Gaining}

-- the session that was fed this text, of a message with these materials, in frames of this length,
-- under this id
abbrev pub sealing_of_text : EncMaterialsValue → ℕ → List ℕ → List ℕ → SealingValue
sealing_of_text m size id text = record {
  materials = m;
  declared = None;
  size = size;
  id = id;
  taken = text;
  handed = frames_given (length text) size;
  stopped = false;
  out = [];
}

-- what feeding or finishing a sealer into a receiver comes to that can fail with this error
abbrev pub FedInto : Type 0 → Type 0
FedInto E = Result (Unit {0}) (FeedError SealError E)

-- into a sink
abbrev pub Fed : Type 0
Fed = FedInto Failed

-- What feeding a piece comes to, whose frames are gathered and handed on before more is read: the
-- receiver took all that the piece gives, or all that its bytes give before one is refused; or it
-- failed while it was given some of that which comes first.
abbrev pub FeedsPiece : {R E : Type 0} → (R → R → List ℕ → Type 0) → (R → R → List ℕ → E → Type 0)
    → SealingValue → List ℕ → R → R → Sealer → FedInto E → Type 0
FeedsPiece takes fails v piece old new sealer (Ok done) =
    SealerFedWhole takes v piece old new sealer
FeedsPiece takes fails v piece old new sealer (Err (feeds.Receiver error)) =
    FailsAtFirst fails old new (fed_out v piece) error
FeedsPiece takes fails v piece old new sealer (Err (feeds.Machine (seals.Refusal refusal))) =
    SealerFedShort takes v piece refusal old new sealer
FeedsPiece takes fails v piece old new sealer (Err (feeds.Machine error)) = ⊥

-- where the sealer failed, it names a refusal
abbrev pub IsNamed : {E : Type 0} → FedInto E → Type 0
IsNamed (Ok done) = Unit {0}
IsNamed (Err (feeds.Receiver failed)) = Unit {0}
IsNamed (Err (feeds.Machine (seals.Refusal refusal))) = Unit {0}
IsNamed (Err (feeds.Machine error)) = ⊥

-- what a run answers then
abbrev pub WritesAs : {E : Type 0} → FedInto E → Result (Unit {0}) EncryptError → Type 0
WritesAs (Ok done) result = result ≡ Ok tt
WritesAs (Err (feeds.Receiver failed)) result = result ≡ Err (errors.Outside outsides.SinkFault)
WritesAs (Err (feeds.Machine (seals.Refusal refusal))) result =
    result ≡ Err (errors.Refusal refusal)
WritesAs (Err (feeds.Machine error)) result = ⊥

-- ---- the input

-- The sealer stands for a message of which no text was taken.
pub record IsUnfed (sealer : Sealer) : Type 0 where
  pub materials : EncMaterialsValue
  pub size : ℕ
  pub id : List ℕ
  pub wide : 1 ≤ size
  pub stands : Stands sealer (sealing_of_text materials size id [])

-- what writing the message of an input comes to
abbrev pub WritesOrStops : EncMaterialsValue → ℕ → List ℕ → SourceState → SourceState → Gaining
    → Result (Unit {0}) EncryptError → Type 0
WritesOrStops m size id input taken gains result =
    MatchResult result (λ _. WritesMessage m size id input taken gains)
    (StopsSo m size id input taken gains)

-- ---- the end

-- The sealer stands for a session that goes on.
pub record SealerIsGoing (sealer : Sealer) : Type 0 where
  pub session : SealingValue
  pub stands : Stands sealer session
  pub goes : session.stopped ≡ false

-- The receiver failed at the final frame.
pub record FailsLast {R E : Type 0} (fails : R → R → List ℕ → E → Type 0) (v : SealingValue)
    (old new : R) : Type 0 where
  pub error : E
  pub some : 1 ≤ length (sealing_finished v).out
  pub failed : fails old new (sealing_finished v).out error

-- what putting the final frame comes to
abbrev pub PutsLast : {R E : Type 0} → (R → R → List ℕ → Type 0) → (R → R → List ℕ → E → Type 0)
    → SealingValue → R → R → Result (Unit {0}) EncryptError → Type 0
PutsLast takes fails v old new (Ok done) = takes old new (sealing_finished v).out
PutsLast takes fails v old new (Err (errors.Outside outsides.SinkFault)) =
    FailsLast fails v old new
PutsLast takes fails v old new (Err error) = ⊥

-- What ending the message comes to, by why no more came: the final frame is put only once the end
-- was seen.
abbrev pub ConcludesEncryption : {R E : Type 0} → (R → R → List ℕ → Type 0)
    → (R → R → List ℕ → E → Type 0)
    → SealingValue → End → R → R → Result (Unit {0}) EncryptError → Type 0
ConcludesEncryption takes fails v ends.Seen old new result = PutsLast takes fails v old new result
ConcludesEncryption takes fails v ends.Failed old new result =
    (new ≡ old) × (result ≡ Err (errors.Outside outsides.SourceFault))
ConcludesEncryption takes fails v ends.TooLong old new result =
    (new ≡ old) × (result ≡ Err (errors.Outside outsides.InputTooLong))
