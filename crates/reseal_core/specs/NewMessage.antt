-- The new message while it is written: which one stands for which materials and text, and what each
-- call of it comes to.
use Rattle.std.specs.Prelude.{◌≡◌, ◌⊎◌, ℕ, ◌<◌, ◌≤◌, List, [], length, take, ⊤}
use Rattle.std.specs.Prelude.{Option, Some, None, Result, Ok, Err}
use Rattle.esdk_fields.specs.declared.refusals.Refusal.{Refusal}
use Rattle.esdk_fields.specs.declared.refusals.Refusal.TheVariants.{TooManyFrames}
use Rattle.esdk_base.specs.declared.receiver.FeedError.{FeedError}
use Rattle.esdk_base.specs.declared.receiver.FeedError.TheVariants as feeds
use Rattle.esdk_base.specs.declared.source.Failed.{Failed}
use Rattle.esdk_base.specs.Streams.{SinkState}
use Rattle.context_codec.specs.Context.{KeyValue}
use Rattle.keyring_trait.specs.declared.manager_errors.ManagerError.{ManagerError}
use Rattle.keyring_trait.specs.Materials.{EncMaterialsValue}
use Rattle.keyring_trait.specs.Saying.{Saying}
use Rattle.stream_seal.specs.declared.errors.SealError.{SealError}
use Rattle.stream_seal.specs.declared.errors.SealError.TheVariants as seals
use Rattle.stream_seal.specs.declared.session.Sealer.{Sealer}
use Rattle.stream_seal.specs.Stands.{Stands}
use Rattle.stream_seal.specs.Start.{message_of, most_text, start_refusal, drawn_id, drawn_rest}
use Rattle.esdk_encrypt.specs.Encrypt.{written_so_far}
use Rattle.esdk_encrypt.specs.Writing.{sealing_of_text}
use Rattle.reseal_core.specs.declared.errors.ResealError.{ResealError}
use Rattle.reseal_core.specs.declared.errors.ResealError.TheVariants as errors
use Rattle.reseal_core.specs.declared.new_message.NewMessage.{NewMessage}
use Rattle.reseal_core.specs.Errors.{given_as}
use Rattle.reseal_core.specs.Front.{AreSound, GainsBeyond, GainsNotAll, front_of, request_for}

-- a sealer with these materials was fed this text, for which a message has room; or there is none
-- yet, and no text
abbrev pub IsFedText : Option Sealer → Option EncMaterialsValue → ℕ → List ℕ → List ℕ → Type 0
IsFedText None None size random text = text ≡ []
IsFedText (Some sealer) (Some m) size random text = Stands sealer
    (sealing_of_text m size (drawn_id random) text) × (length text ≤ most_text size)
IsFedText sealer m size random text = ⊥

-- A message in frames of this length, made with these random bytes: of these materials, once it is
-- begun, and of this text so far.
pub record IsWritten (message : NewMessage) (size : ℕ) (random : List ℕ)
    (m : Option EncMaterialsValue) (text : List ℕ) : Type 0 where
  pub length_is : message.frame_length ≡ size
  pub random_is : message.random ≡ random
  pub wide : 1 ≤ size
  pub fed : IsFedText message.sealer m size random text

-- ---- the beginning

-- The manager gave these materials for this context and these pairs of it that are only
-- authenticated, and a message can begin with them.
pub record MaterialsAreGiven (saying : Saying) (now : ℕ) (random : List ℕ)
    (whole only : List KeyValue)
    (m : EncMaterialsValue) : Type 0 where
  pub given : saying.gives (request_for whole only) now (drawn_rest random) m
  pub sound : AreSound m
  pub begins : start_refusal m None (drawn_id random) ≡ None

-- The manager gave no materials.
pub record ManagerGivesNoMaterials (saying : Saying) (whole only : List KeyValue)
    (error : ResealError) : Type 0
  where
    pub why : ManagerError
    pub none : saying.gives_none (request_for whole only) why
    pub named : error ≡ given_as why

-- It gave some, with whose entries a header would be too long.
pub record HeaderRefused (saying : Saying) (now : ℕ) (random : List ℕ) (whole only : List KeyValue)
    (error : ResealError) : Type 0 where
  pub materials : EncMaterialsValue
  pub refusal : Refusal
  pub given : saying.gives (request_for whole only) now (drawn_rest random) materials
  pub sound : AreSound materials
  pub refused : start_refusal materials None (drawn_id random) ≡ Some refusal
  pub named : error ≡ errors.Refusal refusal

-- why a message isn't begun; memory may be wanting
abbrev pub IsNotBegun : Saying → ℕ → List ℕ → List KeyValue → List KeyValue → ResealError → Type 0
IsNotBegun saying now random whole only error =
    ManagerGivesNoMaterials saying whole only error
    ⊎ (HeaderRefused saying now random whole only error ⊎ (error ≡ errors.Memory))

-- what asking for the materials of a message comes to; memory may be wanting
abbrev pub GivesAs : Saying → ℕ → List KeyValue → List KeyValue → List ℕ
    → Result EncMaterialsValue ResealError → Type 0
GivesAs saying now whole only random (Ok m) =
    saying.gives (request_for whole only) now (drawn_rest random) m
GivesAs saying now whole only random (Err error) =
    ManagerGivesNoMaterials saying whole only error ⊎ (error ≡ errors.Memory)

-- a sealer isn't begun for that reason; want of memory is free
abbrev pub IsRefused : Option Refusal → ResealError → Type 0
IsRefused refusal (errors.Refusal r) = refusal ≡ Some r
IsRefused refusal errors.Memory = ⊤
IsRefused refusal error = ⊥

-- A message was begun with materials of the manager, and its header was put.
pub record BeginsNewMessage (saying : Saying) (now : ℕ) (whole only : List KeyValue) (size : ℕ)
    (random : List ℕ) (old new : SinkState) (message : NewMessage) : Type 0 where
  pub materials : EncMaterialsValue
  pub given : MaterialsAreGiven saying now random whole only materials
  pub written : IsWritten message size random (Some materials) []
  pub gained : GainsBeyond old new [] (front_of (Some materials) size random [])

-- The header wasn't put, or not all of it.
pub record NewHeaderFails (saying : Saying) (now : ℕ) (whole only : List KeyValue) (size : ℕ)
    (random : List ℕ) (old new : SinkState) : Type 0 where
  pub materials : EncMaterialsValue
  pub given : MaterialsAreGiven saying now random whole only materials
  pub failed : GainsNotAll old new [] (front_of (Some materials) size random [])

-- what beginning a message comes to; `unwritten` says that the output is as before
abbrev pub NewMessageBeginsAs : Saying → ℕ → List KeyValue → List KeyValue → ℕ → List ℕ → SinkState
    → SinkState → Type 0 → NewMessage → Result (Unit {0}) ResealError → Type 0
NewMessageBeginsAs saying now whole only size random old new unwritten message (Ok done) =
    BeginsNewMessage saying now
    whole only size random old new message
NewMessageBeginsAs saying now whole only size random old new unwritten message (Err error) =
    ((error ≡ errors.SinkFault) × NewHeaderFails saying now whole only size random old new)
    ⊎ (IsNotBegun saying now random whole only error × unwritten)

-- ---- the text

-- The text goes on with more than a message has room for; what is written of the bytes that have
-- room was put, behind what was written before.
pub record NewMessageNeedsTooManyFrames (m : EncMaterialsValue) (size : ℕ)
    (random written text : List ℕ)
    (old new : SinkState) : Type 0 where
  pub many : most_text size < length text
  pub gained : GainsBeyond old new written
      (front_of (Some m) size random (take (most_text size) text))

-- why a message doesn't go on to this text, of which so much was written before
abbrev pub GoesNotOn : EncMaterialsValue → ℕ → List ℕ → List ℕ → List ℕ → SinkState → SinkState
    → ResealError → Type 0
GoesNotOn m size random written text old new (errors.Refusal refusal) = (refusal ≡ TooManyFrames)
    × NewMessageNeedsTooManyFrames m size random written text old new
GoesNotOn m size random written text old new errors.SinkFault = GainsNotAll old new written
    (front_of (Some m) size random (take (most_text size) text))
GoesNotOn m size random written text old new error = ⊥

-- more text was taken, and what is written of it
pub record NewMessageGoesOn (size : ℕ) (random : List ℕ) (m : Option EncMaterialsValue)
    (before text : List ℕ)
    (old new : SinkState) (message : NewMessage) : Type 0 where
  pub written : IsWritten message size random m text
  pub gained : GainsBeyond old new (front_of m size random before) (front_of m size random text)

-- the message wasn't begun, or it was, and didn't go on
abbrev pub NewMessageStopsAt : Option EncMaterialsValue → ℕ → List ℕ → List ℕ → List ℕ → SinkState
    → SinkState
    → ResealError → Type 0
NewMessageStopsAt None size random before text old new error = ⊥
NewMessageStopsAt (Some m) size random before text old new error = GoesNotOn m size random
    (front_of (Some m) size random before) text old new error

-- what passing more text on to a message comes to
abbrev pub NewMessageGoesOnAs : ℕ → List ℕ → Option EncMaterialsValue → List ℕ → List ℕ → SinkState
    → SinkState → NewMessage → Result (Unit {0}) ResealError → Type 0
NewMessageGoesOnAs size random m before text old new message (Ok done) =
    NewMessageGoesOn size random m before text old
    new message
NewMessageGoesOnAs size random m before text old new message (Err error) =
    NewMessageStopsAt m size random before text
    old new error

-- what an error of feeding the sealer is called
abbrev pub put_as : Result (Unit {0}) (FeedError SealError Failed) → Result (Unit {0}) ResealError
put_as (Ok done) = Ok tt
put_as (Err (feeds.Receiver failed)) = Err errors.SinkFault
put_as (Err (feeds.Machine (seals.Refusal refusal))) = Err (errors.Refusal refusal)
put_as (Err (feeds.Machine seals.Stopped)) = Err errors.Stopped
put_as (Err (feeds.Machine seals.Memory)) = Err errors.Memory

-- ---- the end

-- what finishing it comes to: all of the message is put
abbrev pub FinishesAs : EncMaterialsValue → ℕ → List ℕ → List ℕ → SinkState → SinkState
    → Result (Unit {0}) ResealError → Type 0
FinishesAs m size random text old new (Ok done) = GainsBeyond old new
    (written_so_far m size (drawn_id random) text) (message_of m size (drawn_id random) text)
FinishesAs m size random text old new (Err errors.SinkFault) = GainsNotAll old new
    (written_so_far m size (drawn_id random) text) (message_of m size (drawn_id random) text)
FinishesAs m size random text old new (Err error) = ⊥
