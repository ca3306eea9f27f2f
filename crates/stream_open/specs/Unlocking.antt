-- What an opener has of a header that was unlocked with a manager's materials.
use Rattle.std.specs.Prelude.{◌≡◌, ℕ, [], true, false, Option, None}
use Rattle.header_codec.specs.Header.{HeaderValue}
use Rattle.keyring_trait.specs.Materials.{DecMaterialsValue}
use Rattle.message_format.specs.Judgement.{lock_fault}
use Rattle.suite_table.specs.Keys.{derived}
use Rattle.stream_open.specs.declared.unlocked.Unlocked.{Unlocked}
use Rattle.stream_open.specs.Body.{HoldsFrames}
use Rattle.stream_open.specs.Session.{framed}

-- Nothing is wrong with the lock, and no byte of the body came yet.
pub record IsBegun (u : Unlocked) (h : HeaderValue) (max_unit : Option ℕ) (m : DecMaterialsValue)
    : Type 0 where
  pub opens : lock_fault h m.only m.key ≡ None
  pub whole : u.whole ≡ m.context
  pub only : u.only ≡ m.only
  pub key : u.body.key ≡ derived h.suite m.key h.message_id
  pub id : u.body.message_id ≡ h.message_id
  pub content : u.body.content ≡ h.content
  pub limit : u.body.max_unit ≡ max_unit
  pub first : u.body.number ≡ 1
  pub going : u.body.ended ≡ false
  pub held : u.body.unit.held ≡ []
  pub out : u.body.unit.out ≡ []
  pub reserved : framed u.body.content ≡ true → HoldsFrames u.body.content u.body.unit.reserved
