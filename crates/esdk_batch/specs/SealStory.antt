-- What an encrypt job comes to. Standard: AWS Encryption SDK Specification, "Encrypt".
use Rattle.std.specs.Prelude.{◌≡◌, ◌⊎◌, ◌≤◌, ◌<◌, ℕ, List, [], length, take, Option, Some, None}
use Rattle.esdk_base.specs.Streams.{most_input}
use Rattle.esdk_fields.specs.declared.refusals.Outside.TheVariants as outsides
use Rattle.esdk_fields.specs.declared.refusals.Refusal.{Refusal}
use Rattle.esdk_fields.specs.declared.refusals.Refusal.TheVariants as refusals
use Rattle.context_codec.specs.Context.{KeyValue}
use Rattle.context_codec.specs.KeySet.{with_keys}
use Rattle.keyring_trait.specs.declared.manager_errors.ManagerError.{ManagerError}
use Rattle.keyring_trait.specs.declared.manager_errors.ManagerError.TheVariants as managers
use Rattle.keyring_trait.specs.declared.served.Served.{Served}
use Rattle.keyring_trait.specs.Materials.{EncMaterialsValue}
use Rattle.keyring_trait.specs.Requests.{EncRequestValue}
use Rattle.keyring_trait.specs.Saying.{Saying}
use Rattle.stream_seal.specs.Feeding.{most_of, over_of}
use Rattle.stream_seal.specs.Start.{message_of, most_text, start_refusal, drawn_id, drawn_rest}
use Rattle.esdk_encrypt.specs.Encrypt.{drawn_count, written_so_far}
use Rattle.batch_report.specs.declared.job_lines.JobEnd.{JobEnd}
use Rattle.batch_report.specs.declared.job_lines.JobEnd.TheVariants as ends

-- What an encrypt job asks for.
pub record SealAsked : Type 0 where
  pub declared : Option ℕ
  pub frame : ℕ
  pub context : List KeyValue
  pub required : List (List ℕ)

-- What is seen of a job: what the file that it reads holds, and the file that it writes, before the
-- batch and after it; the bytes that it drew; and how its materials were served.
pub record Seen : Type 0 where
  pub from : Option (List ℕ)
  pub before : Option (List ℕ)
  pub to : Option (List ℕ)
  pub drawn : List ℕ
  pub served : Option Served

-- the request for its materials
abbrev pub wish_of : SealAsked → EncRequestValue
wish_of asked = record {
  context = asked.context;
  required = with_keys [] asked.required;
  declared = asked.declared;
}

-- what a file holds that may be missing
abbrev pub held_or_none : Option (List ℕ) → List ℕ
held_or_none None = []
held_or_none (Some bytes) = bytes

-- how many bytes it takes at the most: as many as are declared, and as a message has room for
abbrev pub most_sealed : SealAsked → ℕ
most_sealed asked = most_of asked.declared (most_text asked.frame)

-- the text, cut there
abbrev pub sealed_text : SealAsked → Seen → List ℕ
sealed_text asked seen = take (most_sealed asked) (held_or_none seen.from)

-- The job drew its bytes, and the manager gave these materials for them, at some moment, which were
-- served so.
pub record JobIsGiven (manager : Saying) (asked : SealAsked) (seen : Seen)
    (materials : EncMaterialsValue) : Type 0 where
  pub count : length seen.drawn ≡ drawn_count manager.wraps
  pub moment : ℕ
  pub given : manager.gives (wish_of asked) moment (drawn_rest seen.drawn) materials
  pub served : seen.served ≡ Some materials.served

-- Its message could begin, and its file holds a front of the message of what it reads, as far as
-- that is declared and has room.
pub record SealsFront (manager : Saying) (asked : SealAsked) (seen : Seen) : Type 0 where
  pub materials : EncMaterialsValue
  pub given : JobIsGiven manager asked seen materials
  pub begins : start_refusal materials None (drawn_id seen.drawn) ≡ None
  pub count : ℕ
  pub front : seen.to ≡ Some (take count (message_of materials asked.frame (drawn_id seen.drawn)
      (sealed_text asked seen)))

-- Its file holds the message of what it reads.
pub record SealsWhole (manager : Saying) (asked : SealAsked) (seen : Seen) : Type 0 where
  pub materials : EncMaterialsValue
  pub text : List ℕ
  pub given : JobIsGiven manager asked seen materials
  pub begins : start_refusal materials None (drawn_id seen.drawn) ≡ None
  pub from : seen.from ≡ Some text
  pub short : length text ≤ most_sealed asked
  pub to : seen.to ≡ Some (message_of materials asked.frame (drawn_id seen.drawn) text)

-- It reads more than it may, for this reason. Its message could begin, and of what it may its file
-- holds what is written while more may come: the header, and all frames but the last.
pub record SealsTooMuch (manager : Saying) (asked : SealAsked) (seen : Seen)
    (refusal : Refusal) : Type 0 where
  pub materials : EncMaterialsValue
  pub given : JobIsGiven manager asked seen materials
  pub begins : start_refusal materials None (drawn_id seen.drawn) ≡ None
  pub text : List ℕ
  pub from : seen.from ≡ Some text
  pub over : most_sealed asked < length text
  pub cause : over_of asked.declared (most_text asked.frame) ≡ refusal
  pub to : seen.to ≡ Some (written_so_far materials asked.frame (drawn_id seen.drawn)
      (sealed_text asked seen))

-- It drew its bytes, the manager gave nothing, for this reason, and its file is as before.
pub record IsGivenNone (manager : Saying) (asked : SealAsked) (seen : Seen)
    (error : ManagerError) : Type 0 where
  pub count : length seen.drawn ≡ drawn_count manager.wraps
  pub cause : manager.gives_none (wish_of asked) error
  pub unserved : seen.served ≡ None
  pub same : seen.to ≡ seen.before

-- It drew nothing, nobody was asked, and its file is as before.
pub record DrawsNone (seen : Seen) : Type 0 where
  pub drawn : seen.drawn ≡ []
  pub unserved : seen.served ≡ None
  pub same : seen.to ≡ seen.before

-- A call of the shelf failed, or what it reads isn't there: its file wasn't made and is as before,
-- or holds a front of the message.
pub record ShelfFails (manager : Saying) (asked : SealAsked) (seen : Seen) : Type 0 where
  pub materials : EncMaterialsValue
  pub given : JobIsGiven manager asked seen materials
  pub left : (seen.to ≡ seen.before) ⊎ SealsFront manager asked seen

-- It took 2^62 bytes, its end wasn't seen, and its file holds a front of the message.
pub record SealJobIsTooLong (manager : Saying) (asked : SealAsked) (seen : Seen) : Type 0 where
  pub front : SealsFront manager asked seen
  pub long : most_input ≤ length (held_or_none seen.from)

-- What it comes to, by how it ended. It ends neither with Q7 nor with Q8: a job sets no limit on
-- the number of entries; and of what the manager gives a header can always be made, since there are
-- at most 64 entries, none of whose parts is too long.
abbrev pub SealsSo : Saying → SealAsked → Seen → JobEnd → Type 0
SealsSo manager asked seen ends.Done = SealsWhole manager asked seen
SealsSo manager asked seen (ends.Refusal (refusals.OverDeclared n)) =
    SealsTooMuch manager asked seen (refusals.OverDeclared n)
SealsSo manager asked seen (ends.Refusal refusals.TooManyFrames) =
    SealsTooMuch manager asked seen refusals.TooManyFrames
SealsSo manager asked seen (ends.Refusal (refusals.TooManyDataKeys n)) = ⊥
SealsSo manager asked seen (ends.Refusal (refusals.HeaderTooLong n)) = ⊥
SealsSo manager asked seen (ends.Refusal refusal) =
    IsGivenNone manager asked seen (managers.Refusal refusal)
SealsSo manager asked seen (ends.Outside outsides.EntropyFault) = DrawsNone seen
SealsSo manager asked seen (ends.Outside outsides.KeyringFault) =
    IsGivenNone manager asked seen managers.KeyringFault
SealsSo manager asked seen (ends.Outside outsides.ShelfFault) = ShelfFails manager asked seen
SealsSo manager asked seen (ends.Outside outsides.InputTooLong) =
    SealJobIsTooLong manager asked seen
SealsSo manager asked seen (ends.Outside outside) = ⊥
SealsSo manager asked seen (ends.Fault fault) = ⊥
