-- What resealing an input comes to. Standard: AWS Encryption SDK Specification, "Decrypt" and
-- "Encrypt".
use Rattle.std.specs.Prelude.{◌≡◌, ◌⊎◌, ℕ, ◌<◌, ◌≤◌, List, [], ◌++◌, length, take}
use Rattle.std.specs.Prelude.{Bool, true, false, Some, None}
use Rattle.std.specs.Io.KnownBytes.{Appends}
use Rattle.esdk_fields.specs.Counts.{Rose}
use Rattle.esdk_fields.specs.Place.{start}
use Rattle.esdk_fields.specs.Reading.{Wanting}
use Rattle.esdk_base.specs.Receiver.{SinkTakes}
use Rattle.esdk_base.specs.Streams.{EntropyState, SinkState, SourceState}
use Rattle.esdk_fields.specs.declared.faults.Fault.{Fault}
use Rattle.esdk_fields.specs.declared.refusals.Outside.TheVariants as outsides
use Rattle.esdk_fields.specs.declared.refusals.Refusal.{Refusal}
use Rattle.esdk_fields.specs.declared.refusals.Refusal.TheVariants.{TooManyFrames}
use Rattle.context_codec.specs.Context.{KeyValue}
use Rattle.header_codec.specs.declared.settings.Settings.{Settings}
use Rattle.header_codec.specs.Table.{header}
use Rattle.keyring_trait.specs.declared.manager_errors.ManagerError.{ManagerError}
use Rattle.keyring_trait.specs.declared.manager_errors.ManagerError.TheVariants as managers
use Rattle.keyring_trait.specs.Manager.{ManagerNow}
use Rattle.keyring_trait.specs.Materials.{EncMaterialsValue}
use Rattle.keyring_trait.specs.Requests.{EncRequestValue}
use Rattle.keyring_trait.specs.Saying.{Saying, said_last}
use Rattle.keyring_trait.specs.Unlocking.{Unlocking, Unlocks}
use Rattle.body_format.specs.declared.verdicts.Verdict.TheVariants.{Whole}
use Rattle.message_format.specs.Judgement.{Judged, content, judged}
use Rattle.stream_seal.specs.Start.{message_of, most_text, start_refusal, drawn_id, drawn_rest}
use Rattle.whole_input.specs.Pieces.{APieceBehind, most_piece}
use Rattle.whole_input.specs.Taken.{Came, EndSeen, MostTaken}
use Rattle.whole_input.specs.Written.{WritesBeyond}
use Rattle.esdk_encrypt.specs.Encrypt.{Drew, EntropyFails, written_so_far}
use Rattle.esdk_decrypt.specs.Decrypt.{DecryptAsked, AnswersTo, DecryptManagerFails, asked_from}
use Rattle.esdk_decrypt.specs.Decrypt.{DecryptLacksMemory as LacksMemory, fault_at_end, fault_of}
use Rattle.reseal_core.specs.declared.errors.InputError.{InputError}
use Rattle.reseal_core.specs.declared.errors.InputError.TheVariants as errors
use Rattle.reseal_core.specs.Front.{AreSound, request_for}

-- What a run is about: the opening of the old message; how many wraps the manager of the new one
-- makes, what it gives to a request with these random bytes, and why it gives nothing; and the new
-- frame length.
pub record Resealing : Type 1 where
  pub opening : DecryptAsked
  pub wraps : ℕ
  pub gives : EncRequestValue → List ℕ → EncMaterialsValue → Type 0
  pub gives_none : EncRequestValue → ManagerError → Type 0
  pub size : ℕ

-- the sealing of a manager that may say this at a moment
abbrev pub resealing_of : DecryptAsked → Saying → ℕ → ℕ → Resealing
resealing_of opening saying now size = record {
  opening = opening;
  wraps = saying.wraps;
  gives = λ request random materials. saying.gives request now random materials;
  gives_none = saying.gives_none;
  size = size;
}

-- the run that began when the managers were so, and has come to where they are so now
abbrev pub resealing_from : ManagerNow → ManagerNow → ManagerNow → ManagerNow → ℕ → Settings
    → List KeyValue → ℕ → Resealing
resealing_from opened opening sealed sealing now settings given size = resealing_of
    (asked_from opened opening now settings given) (said_last sealed sealing) now size

-- ---- what is written

-- With the random bytes the manager gave these materials for this whole context, of which these
-- pairs are only authenticated, and a message can begin with them.
pub record HasMaterials (asked : Resealing) (drawn : List ℕ) (whole only : List KeyValue)
    (m : EncMaterialsValue) : Type 0 where
  pub given : asked.gives (request_for whole only) (drawn_rest drawn) m
  pub sound : AreSound m
  pub begins : start_refusal m None (drawn_id drawn) ≡ None

-- The output gained the header of a message with such materials, and all frames of the text but the
-- last.
pub record ResealWritesFront (asked : Resealing) (drawn : List ℕ) (whole only : List KeyValue)
    (text : List ℕ) (output put : SinkState) : Type 0 where
  pub materials : EncMaterialsValue
  pub has : HasMaterials asked drawn whole only materials
  pub room : length text ≤ most_text asked.size
  pub gained : Appends output.written put.written
      (written_so_far materials asked.size (drawn_id drawn) text)

-- What is written with these materials while the old message is judged so: nothing before it is
-- unlocked, then the header and all frames of what it releases but the last.
abbrev pub written_at : EncMaterialsValue → ℕ → List ℕ → List ℕ → Bool → List ℕ
written_at m size drawn text true = written_so_far m size (drawn_id drawn) text
written_at m size drawn text false = []

abbrev pub written_of : EncMaterialsValue → ℕ → List ℕ → Judged → List ℕ
written_of m size drawn j = written_at m size drawn (content j) j.unlocked

-- where the old message is unlocked, that; where it isn't, nothing
abbrev pub WritesBy : Resealing → List ℕ → Unlocking → List ℕ → Bool → SinkState → SinkState
    → Type 0
WritesBy asked drawn (Unlocks whole only key) text true output put =
    ResealWritesFront asked drawn whole
    only text output put
WritesBy asked drawn answer text unlocked output put = Appends output.written put.written []

abbrev pub WritesNewMessage : Resealing → List ℕ → Unlocking → Judged → SinkState → SinkState
    → Type 0
WritesNewMessage asked drawn answer j output put =
    WritesBy asked drawn answer (content j) j.unlocked output
    put

-- These bytes were taken, the manager answered so to their header, and the output gained what is
-- written of what they release.
pub record Passes (asked : Resealing) (drawn : List ℕ) (input taken : SourceState)
    (output put : SinkState) (bytes : List ℕ) (answer : Unlocking) : Type 0 where
  pub came : Came input taken bytes
  pub answered : AnswersTo asked.opening.manager asked.opening.settings asked.opening.given bytes
      answer
  pub written : WritesNewMessage asked drawn answer (judged bytes asked.opening.settings answer)
      output put

-- ---- the whole input

-- The whole input was taken and is a whole message, with this whole context, and the output gained
-- the new message of its content.
pub record Reseals (asked : Resealing) (drawn : List ℕ) (input taken : SourceState)
    (output put : SinkState) (context : List KeyValue) : Type 0 where
  pub bytes : List ℕ
  pub only : List KeyValue
  pub key : List ℕ
  pub came : Came input taken bytes
  pub answered : AnswersTo asked.opening.manager asked.opening.settings asked.opening.given bytes
      (Unlocks context only key)
  pub end : EndSeen input taken bytes
  pub whole : (judged bytes asked.opening.settings (Unlocks context only key)).verdict ≡ Whole
  pub materials : EncMaterialsValue
  pub has : HasMaterials asked drawn context only materials
  pub room : length (content (judged bytes asked.opening.settings (Unlocks context only key))) ≤
      most_text asked.size
  pub gained : Appends output.written put.written
      (message_of materials asked.size (drawn_id drawn)
      (content (judged bytes asked.opening.settings (Unlocks context only key))))

-- ---- why an input isn't resealed

-- The bytes taken have this fault, or the whole input was taken and has it; those before the last
-- piece have none. What they release before it was passed on, and the new message isn't whole. No
-- read failed.
pub record ResealFindsFault (asked : Resealing) (drawn : List ℕ) (input taken : SourceState)
    (output put : SinkState) (fault : Fault) : Type 0 where
  pub bytes : List ℕ
  pub answer : Unlocking
  pub passes : Passes asked drawn input taken output put bytes answer
  pub faults : taken.faults ≡ input.faults
  pub cause : (fault_of (judged bytes asked.opening.settings answer).verdict ≡ Some fault)
      ⊎ (EndSeen input taken bytes
      × (fault_at_end (judged bytes asked.opening.settings answer).verdict ≡ Some fault))
  pub last : APieceBehind
      (λ before. fault_of (judged before asked.opening.settings answer).verdict ≡ None) bytes

-- The bytes taken have no fault, and a read failed.
pub record ResealSourceFails (asked : Resealing) (drawn : List ℕ) (input taken : SourceState)
    (output put : SinkState) : Type 0 where
  pub bytes : List ℕ
  pub answer : Unlocking
  pub passes : Passes asked drawn input taken output put bytes answer
  pub sound : fault_of (judged bytes asked.opening.settings answer).verdict ≡ None
  pub rose : Rose input.faults taken.faults

-- 2^62 bytes were taken, and have no fault.
pub record ResealInputIsTooLong (asked : Resealing) (drawn : List ℕ) (input taken : SourceState)
    (output put : SinkState) : Type 0 where
  pub bytes : List ℕ
  pub answer : Unlocking
  pub passes : Passes asked drawn input taken output put bytes answer
  pub sound : fault_of (judged bytes asked.opening.settings answer).verdict ≡ None
  pub most : MostTaken input taken bytes

-- These bytes came first, and at most a piece behind them. They have no fault, and are unlocked
-- with this whole context.
pub record OpensFirst (asked : Resealing) (input taken : SourceState) (first : List ℕ)
    (whole only : List KeyValue) (key : List ℕ) : Type 0 where
  pub behind : List ℕ
  pub few : length behind ≤ most_piece
  pub came : Came input taken (first ++ behind)
  pub answered : AnswersTo asked.opening.manager asked.opening.settings asked.opening.given first
      (Unlocks whole only key)
  pub sound : fault_of (judged first asked.opening.settings (Unlocks whole only key)).verdict ≡ None
  pub unlocked : (judged first asked.opening.settings (Unlocks whole only key)).unlocked ≡ true

-- The manager gave materials with which the header would be too long.
pub record RefusesHeader (asked : Resealing) (drawn : List ℕ) (whole only : List KeyValue)
    (refusal : Refusal) : Type 0 where
  pub materials : EncMaterialsValue
  pub given : asked.gives (request_for whole only) (drawn_rest drawn) materials
  pub sound : AreSound materials
  pub refused : start_refusal materials None (drawn_id drawn) ≡ Some refusal

-- The old message was unlocked, and the new one is refused, by the manager or for its header:
-- nothing was written. The old header was made whole by the last piece. No read failed.
pub record RefusesMessage (asked : Resealing) (drawn : List ℕ) (input taken : SourceState)
    (output put : SinkState) (refusal : Refusal) : Type 0 where
  pub first : List ℕ
  pub whole : List KeyValue
  pub only : List KeyValue
  pub key : List ℕ
  pub opens : OpensFirst asked input taken first whole only key
  pub faults : taken.faults ≡ input.faults
  pub why : asked.gives_none (request_for whole only) (managers.Refusal refusal)
      ⊎ RefusesHeader asked drawn whole only refusal
  pub nothing : SinkTakes output put []
  pub last : APieceBehind (λ before. header asked.opening.settings (start before) ≡ Wanting)
      (first ++ opens.behind)

-- The text released has a byte beyond those that have room in a message, and it came with the last
-- piece. What is written of those that have was written, all frames but the last. No read failed.
pub record ResealNeedsTooManyFrames (asked : Resealing) (drawn : List ℕ) (input taken : SourceState)
    (output put : SinkState) : Type 0 where
  pub first : List ℕ
  pub whole : List KeyValue
  pub only : List KeyValue
  pub key : List ℕ
  pub opens : OpensFirst asked input taken first whole only key
  pub faults : taken.faults ≡ input.faults
  pub materials : EncMaterialsValue
  pub has : HasMaterials asked drawn whole only materials
  pub many : most_text asked.size < length
      (content (judged first asked.opening.settings (Unlocks whole only key)))
  pub gained : Appends output.written put.written
      (written_so_far materials asked.size (drawn_id drawn)
      (take (most_text asked.size)
      (content (judged first asked.opening.settings (Unlocks whole only key)))))
  pub last : APieceBehind (λ before. length
      (content (judged before asked.opening.settings (Unlocks whole only key)))
      ≤ most_text asked.size) (first ++ opens.behind)

-- The old message was unlocked, and a keyring of the new one's manager failed: nothing was written.
-- The old header was made whole by the last piece. No read failed.
pub record SealingFails (asked : Resealing) (input taken : SourceState) (output put : SinkState)
    : Type 0 where
  pub first : List ℕ
  pub whole : List KeyValue
  pub only : List KeyValue
  pub key : List ℕ
  pub opens : OpensFirst asked input taken first whole only key
  pub faults : taken.faults ≡ input.faults
  pub none : asked.gives_none (request_for whole only) managers.KeyringFault
  pub nothing : SinkTakes output put []
  pub last : APieceBehind (λ before. header asked.opening.settings (start before) ≡ Wanting)
      (first ++ opens.behind)

-- A write failed while the old message went on: all that is written of what the bytes before the
-- last piece release was written, and of what is written of the bytes that have room a front beyond
-- that. No read failed.
pub record FrontFails (asked : Resealing) (drawn : List ℕ) (input taken : SourceState)
    (output put : SinkState) : Type 0 where
  pub first : List ℕ
  pub whole : List KeyValue
  pub only : List KeyValue
  pub key : List ℕ
  pub opens : OpensFirst asked input taken first whole only key
  pub faults : taken.faults ≡ input.faults
  pub materials : EncMaterialsValue
  pub has : HasMaterials asked drawn whole only materials
  pub last : APieceBehind (λ before. WritesBeyond output put
      (written_of materials asked.size drawn
      (judged before asked.opening.settings (Unlocks whole only key)))
      (written_so_far materials asked.size (drawn_id drawn)
      (take (most_text asked.size)
      (content (judged first asked.opening.settings (Unlocks whole only key))))))
      (first ++ opens.behind)

-- The write of the final frame failed: the whole input was taken and is a whole message, whose
-- content has room in the new one; all of this but that frame was written, and a front of it.
pub record ResealFinalFails (asked : Resealing) (drawn : List ℕ) (input taken : SourceState)
    (output put : SinkState) : Type 0 where
  pub bytes : List ℕ
  pub whole : List KeyValue
  pub only : List KeyValue
  pub key : List ℕ
  pub came : Came input taken bytes
  pub answered : AnswersTo asked.opening.manager asked.opening.settings asked.opening.given bytes
      (Unlocks whole only key)
  pub end : EndSeen input taken bytes
  pub verdict : (judged bytes asked.opening.settings (Unlocks whole only key)).verdict ≡ Whole
  pub materials : EncMaterialsValue
  pub has : HasMaterials asked drawn whole only materials
  pub room : length (content (judged bytes asked.opening.settings (Unlocks whole only key))) ≤
      most_text asked.size
  pub front : WritesBeyond output put
      (written_so_far materials asked.size (drawn_id drawn)
      (content (judged bytes asked.opening.settings (Unlocks whole only key))))
      (message_of materials asked.size (drawn_id drawn)
      (content (judged bytes asked.opening.settings (Unlocks whole only key))))

-- The output gained what is written of what bytes release that came first, and unlock the old
-- message.
pub record WritesFirst (asked : Resealing) (drawn : List ℕ) (input taken : SourceState)
    (output put : SinkState) : Type 0 where
  pub first : List ℕ
  pub whole : List KeyValue
  pub only : List KeyValue
  pub key : List ℕ
  pub opens : OpensFirst asked input taken first whole only key
  pub front : ResealWritesFront asked drawn whole only
      (content (judged first asked.opening.settings (Unlocks whole only key))) output put

-- Memory ran out at the last piece, as it may while a message is opened. Nothing was written, or
-- what was passed on before.
pub record ResealLacksMemory (asked : Resealing) (drawn : List ℕ) (input taken : SourceState)
    (output put : SinkState) : Type 0 where
  pub lacks : LacksMemory asked.opening input taken
  pub written : SinkTakes output put [] ⊎ WritesFirst asked drawn input taken output put

-- why a run ended whose random bytes were drawn, and what it left
abbrev pub ResealEndsSo : Resealing → List ℕ → SourceState → SourceState → SinkState → SinkState
    → InputError → Type 0
ResealEndsSo asked drawn input taken output put (errors.Fault fault) =
    ResealFindsFault asked drawn input taken
    output put fault
ResealEndsSo asked drawn input taken output put (errors.Refusal refusal) =
    RefusesMessage asked drawn input taken output put refusal
    ⊎ ((refusal ≡ TooManyFrames) × ResealNeedsTooManyFrames asked drawn input taken output put)
ResealEndsSo asked drawn input taken output put (errors.Outside outsides.SourceFault) =
    ResealSourceFails asked
    drawn input taken output put
ResealEndsSo asked drawn input taken output put (errors.Outside outsides.SinkFault) =
    Rose output.faults put.faults
    × (FrontFails asked drawn input taken output put
    ⊎ ResealFinalFails asked drawn input taken output put)
ResealEndsSo asked drawn input taken output put (errors.Outside outsides.KeyringFault) =
    (DecryptManagerFails asked.opening input taken × SinkTakes output put [])
    ⊎ SealingFails asked input taken output put
ResealEndsSo asked drawn input taken output put (errors.Outside outsides.InputTooLong) =
    ResealInputIsTooLong asked
    drawn input taken output put
ResealEndsSo asked drawn input taken output put (errors.Outside outside) = ⊥
ResealEndsSo asked drawn input taken output put errors.Memory =
    ResealLacksMemory asked drawn input taken output
    put

-- ---- the whole run

-- Just these bytes were drawn, and this is so of them.
pub record DrawsJust (wraps : ℕ) (entropy spent : EntropyState) (so : List ℕ → Type 0)
    : Type 0 where
  pub drawn : List ℕ
  pub drew : Drew wraps entropy spent drawn
  pub is : so drawn

abbrev pub ResealsInput : Resealing → SourceState → SourceState → SinkState → SinkState
    → EntropyState → EntropyState → List KeyValue → Type 0
ResealsInput asked input taken output put entropy spent context =
    DrawsJust asked.wraps entropy spent
    (λ drawn. Reseals asked drawn input taken output put context)

-- why an input wasn't resealed; `untouched` says that the input and the output are as before,
-- `unasked` that both managers are
abbrev pub ResealEnds : Resealing → SourceState → SourceState → SinkState → SinkState → EntropyState
    → EntropyState → Type 0 → Type 0 → InputError → Type 0
ResealEnds asked input taken output put entropy spent untouched unasked
    (errors.Outside outsides.EntropyFault) = EntropyFails entropy spent untouched unasked
ResealEnds asked input taken output put entropy spent untouched unasked error =
    DrawsJust asked.wraps
    entropy spent (λ drawn. ResealEndsSo asked drawn input taken output put error)

-- ---- whether the manager of the new message is asked

-- The old message was unlocked, with what its manager answered, by bytes that have no fault: all
-- that came but at most the last piece.
pub record WasUnlocked (asked : Resealing) (input taken : SourceState) : Type 0 where
  pub first : List ℕ
  pub whole : List KeyValue
  pub only : List KeyValue
  pub key : List ℕ
  pub opens : OpensFirst asked input taken first whole only key

-- this is so, or the old message was unlocked; `unasked` says that the manager of the new one is as
-- before
abbrev pub UnaskedUnlessUnlocked : Resealing → SourceState → SourceState → Type 0 → Type 0
UnaskedUnlessUnlocked asked input taken unasked = unasked ⊎ WasUnlocked asked input taken
