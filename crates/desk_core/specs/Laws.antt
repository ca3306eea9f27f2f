-- What the laws of this crate say: no session sees another, and each is what its machine is.
use Rattle.std.specs.Prelude.{◌≡◌, ◌≢◌, ℕ, List, Bool, Some, Ok, Err}
use Rattle.esdk_fields.specs.declared.faults.Fault.{Fault}
use Rattle.esdk_fields.specs.declared.refusals.Refusal.{Refusal}
use Rattle.context_codec.specs.Parts.{only_given, whole_of}
use Rattle.header_codec.specs.Header.{HeaderValue}
use Rattle.keyring_trait.specs.Materials.{DecMaterialsValue}
use Rattle.keyring_trait.specs.Saying.{Saying}
use Rattle.keyring_trait.specs.Wrapping.{WrapKeyValue, unwrapped}
use Rattle.stream_seal.specs.declared.errors.SealError.TheVariants as seals
use Rattle.stream_seal.specs.Session as seal
use Rattle.stream_seal.specs.Session.{SealingValue}
use Rattle.stream_open.specs.declared.errors.OpenError.TheVariants as opens
use Rattle.stream_open.specs.Asking.{Heard, Found, IsHeard}
use Rattle.stream_open.specs.Session as open_session
use Rattle.stream_open.specs.Session.{OpeningValue, asked_header}
use Rattle.desk_core.specs.declared.errors.DeskError.TheVariants as errors
use Rattle.desk_core.specs.Session.{Sealing, Opening, Turn, desk_fed}
use Rattle.desk_core.specs.Desk.{DeskValue, empty_desk, DeskEvent, after_desk_event, handed_by}
use Rattle.desk_core.specs.Desk.{handed, own}

-- ---- no session sees another

-- A call leaves every other session as it was. What it hands to its own, and what that is worth
-- then, are the same at any desk at which the session is worth the same.
pub record ActsOn (v : DeskValue) (e : DeskEvent) : Type 0 where
  pub others : (s : ℕ) → s ≢ e.session → (after_desk_event v e).live s ≡ v.live s
  pub handed : (w : DeskValue) → w.live e.session ≡ v.live e.session → handed_by w e ≡ handed_by v e
  pub own : (w : DeskValue) → w.live e.session ≡ v.live e.session
      → (after_desk_event w e).live e.session ≡ (after_desk_event v e).live e.session

abbrev pub ActsAlone : Type 0
ActsAlone = (v : DeskValue) (e : DeskEvent) → ActsOn v e

-- whatever calls come, in whatever order, what a session is handed is what it is handed by its own
-- calls alone
abbrev pub HandsItsOwn : Type 0
HandsItsOwn = (s : ℕ) (events : List DeskEvent)
    → handed s events empty_desk ≡ handed s (own s events) empty_desk

-- ---- what is fed to a session

-- The step of a sealing session is its sealer's, which used so many bytes: the session is live
-- still, and what is given is what the sealer gives.
pub record FeedsSealer (v : SealingValue) (piece : List ℕ) (turn : Turn ℕ) (n : ℕ) : Type 0 where
  pub steps : seal.sealing_step_answer v piece ≡ Ok n
  pub left : turn.left ≡ Some (Sealing (seal.sealing_stepped v piece))
  pub out : turn.out ≡ (seal.sealing_stepped v piece).out

-- The same of an opening session and its opener, which heard this.
pub record FeedsOpener (v : OpeningValue) (piece : List ℕ) (heard : Heard) (turn : Turn ℕ)
    (n : ℕ) : Type 0 where
  pub steps : open_session.opening_step_answer v piece heard ≡ Ok n
  pub left : turn.left ≡ Some (Opening (open_session.opening_stepped v piece heard (Ok n)))
  pub out : turn.out ≡ (open_session.opening_stepped v piece heard (Ok n)).out

-- A session that is fed is fed as its machine is, whose own laws say what comes of a piece that is
-- fed to its end. So does an error name the machine's.
pub record FeedsMachines : Type 0 where
  pub sealed : (v : SealingValue) (piece : List ℕ) (heard : Heard) (short : Bool) (n : ℕ)
      → (desk_fed (Some (Sealing v)) piece heard short).answer ≡ Ok n
      → FeedsSealer v piece (desk_fed (Some (Sealing v)) piece heard short) n
  pub refused : (v : SealingValue) (piece : List ℕ) (heard : Heard) (short : Bool)
      (refusal : Refusal) → (desk_fed (Some (Sealing v)) piece heard short).answer
      ≡ Err (errors.Refusal refusal)
      → seal.sealing_step_answer v piece ≡ Err (seals.Refusal refusal)
  pub opened : (v : OpeningValue) (piece : List ℕ) (heard : Heard) (short : Bool) (n : ℕ)
      → (desk_fed (Some (Opening v)) piece heard short).answer ≡ Ok n
      → FeedsOpener v piece heard (desk_fed (Some (Opening v)) piece heard short) n
  pub faulty : (v : OpeningValue) (piece : List ℕ) (heard : Heard) (short : Bool) (fault : Fault)
      → (desk_fed (Some (Opening v)) piece heard short).answer ≡ Err (errors.Fault fault)
      → open_session.opening_step_answer v piece heard ≡ Err (opens.Fault fault)
  pub failed : (v : OpeningValue) (piece : List ℕ) (heard : Heard) (short : Bool)
      → (desk_fed (Some (Opening v)) piece heard short).answer ≡ Err errors.KeyringFault
      → open_session.opening_step_answer v piece heard ≡ Err opens.KeyringFault

-- ---- with what a message is unlocked

-- The materials are those of the session's own header and given pairs: the whole context, its pairs
-- that are only authenticated, and the key that these keys find.
pub record IsOwn (keys : List WrapKeyValue) (v : OpeningValue) (piece : List ℕ)
    (m : DecMaterialsValue) : Type 0 where
  pub header : HeaderValue
  pub asked : asked_header v piece ≡ Some header
  pub context : m.context ≡ whole_of header.stored v.given
  pub only : m.only ≡ only_given header.stored v.given
  pub key : unwrapped keys header.entries m.context ≡ Some m.key

-- whatever a step hears of such a manager at a moment, whatever other sessions asked it before
abbrev pub FindsItsOwn : Saying → ℕ → List WrapKeyValue → Type 0
FindsItsOwn manager now keys = (v : OpeningValue) (piece : List ℕ) (m : DecMaterialsValue)
    → IsHeard manager now v.given (asked_header v piece) ⊥ (Found m)
    → IsOwn keys v piece m
