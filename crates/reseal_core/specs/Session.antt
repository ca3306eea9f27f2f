-- A message that is resealed piece by piece: what a session is worth.
use Rattle.std.specs.Prelude.{◌≡◌, ℕ, List, Bool, true, false, Option, Some, None, ⊤}
use Rattle.context_codec.specs.Context.{KeyValue}
use Rattle.context_codec.specs.Parts.{keys_of}
use Rattle.header_codec.specs.declared.settings.Settings.{Settings}
use Rattle.keyring_trait.specs.Materials.{EncMaterialsValue}
use Rattle.keyring_trait.specs.Requests.{AllHeld}
use Rattle.keyring_trait.specs.Unlocking.{Unlocking, Refuses, Unlocks}
use Rattle.message_format.specs.Judgement.{content}
use Rattle.stream_open.specs.Session.{OpeningValue, judged_now}
use Rattle.stream_open.specs.Session.{new_opening_session as new_opening}
use Rattle.stream_open.specs.Session.{opening_finished as finished_opening}
use Rattle.reseal_core.specs.Front.{front_of}

-- The session of the old message's opener; the frame length of the new message, the random bytes
-- that it is made with, and its materials, once the old one is unlocked; and whether an error or
-- `finish` stopped the session.
pub record ResealingValue : Type 0 where
  pub opening : OpeningValue
  pub size : ℕ
  pub random : List ℕ
  pub materials : Option EncMaterialsValue
  pub stopped : Bool

-- nothing is taken yet
abbrev pub new_resealing_session : Settings → List KeyValue → ℕ → List ℕ → ResealingValue
new_resealing_session settings given size random =
    record {
      opening = new_opening settings given;
      size = size;
      random = random;
      materials = None;
      stopped = false;
    }

-- the text that was released so far
abbrev pub text_so_far : ResealingValue → List ℕ
text_so_far v = content (judged_now v.opening)

-- what was written so far
abbrev pub front : ResealingValue → List ℕ
front v = front_of v.materials v.size v.random (text_so_far v)

-- it goes on, and the old message isn't unlocked yet
pub record IsStillLocked (v : ResealingValue) : Type 0 where
  pub going : v.stopped ≡ false
  pub none : v.materials ≡ None

-- the session that went on to this point of the old message
abbrev pub gone_on : ResealingValue → OpeningValue → Option EncMaterialsValue → ResealingValue
gone_on v opening materials = record v { opening = opening; materials = materials }

-- the session that an error stopped at this point of the old message
abbrev pub stopped_at : ResealingValue → OpeningValue → ResealingValue
stopped_at v opening = record v { opening = opening; stopped = true }

-- nothing may follow
abbrev pub resealing_finished : ResealingValue → ResealingValue
resealing_finished v = stopped_at v (finished_opening v.opening)

-- the pairs that are only authenticated are pairs of the whole context
abbrev pub HoldsOnly : Option Unlocking → Type 0
HoldsOnly None = ⊤
HoldsOnly (Some (Refuses fault)) = ⊤
HoldsOnly (Some (Unlocks whole only key)) = AllHeld whole (keys_of only)
