-- How the desk stands while the workload's message is sealed.
use Rattle.std.specs.Prelude.{◌≡◌, ℕ, List, [], take, drop, Some, None}
use Rattle.keyring_trait.specs.Wrapping.{WrapKeyValue}
use Rattle.stream_seal.specs.Session.{SealingValue, new_sealing_session}
use Rattle.stream_seal.specs.Feeding.{SealerIsFed, given_so_far}
use Rattle.stream_seal.specs.Laws.{IsSameMessage}
use Rattle.desk_core.specs.declared.live_sessions.Desk.{Desk}
use Rattle.desk_core.specs.Session.{SessionValue, Sealing}
use Rattle.desk_core.specs.Desk.{DeskValue}
use Rattle.desk_core.specs.Stands.{Stands, manager_of}
use Rattle.desk_core.specs.SealRequest.{SealRequestValue}
use Rattle.esdk_gen.specs.Generator.{gen_context, generator_key, generator_materials}

-- what is asked for
abbrev pub gen_request : SealRequestValue
gen_request = record {
  wish = record { context = gen_context; required = []; declared = None };
  size = 4096;
  max_keys = None;
}

-- The desk is over the wrapping key of these bytes, and this number was drawn last.
pub record IsIdle (desk : Desk WrapKeyValue) (key : List ℕ) (last : ℕ) : Type 0 where
  pub value : DeskValue
  pub stands : Stands desk value
  pub drawn : value.last ≡ last
  pub ring : manager_of desk ≡ generator_key key

-- So it is, and the session of that number is this one.
pub record IsLiveSession (desk : Desk WrapKeyValue) (key : List ℕ) (id : ℕ) (s : SessionValue)
    : Type 0 where
  pub value : DeskValue
  pub stands : Stands desk value
  pub drawn : value.last ≡ id
  pub ring : manager_of desk ≡ generator_key key
  pub live : value.live id ≡ Some s

-- the session that begins with these random bytes
abbrev pub gen_session : List ℕ → List ℕ → SealingValue
gen_session key random = new_sealing_session
    (generator_materials key (take 32 (drop 32 random)) (drop 64 random)) None 4096 (take 32 random)

-- The session of that number began with these random bytes.
abbrev pub IsNewSession : Desk WrapKeyValue → List ℕ → List ℕ → ℕ → Type 0
IsNewSession desk key random id = IsLiveSession desk key id (Sealing (gen_session key random))

-- The session is fed: it seals in frames of 4,096 bytes, and no length is declared. This is what it
-- gave from the start.
pub record GeneratorIsSealing (desk : Desk WrapKeyValue) (key : List ℕ) (id : ℕ) (s : SealingValue)
    (message : List ℕ) : Type 0 where
  pub at : IsLiveSession desk key id (Sealing s)
  pub is_fed : SealerIsFed s
  pub undeclared : s.declared ≡ None
  pub size : s.size ≡ 4096
  pub written : message ≡ given_so_far s

-- The session that this one became took this text, of the same message.
pub record SealsText (desk : Desk WrapKeyValue) (key : List ℕ) (id : ℕ) (s : SealingValue)
    (text message : List ℕ) : Type 0 where
  pub session : SealingValue
  pub sealing : GeneratorIsSealing desk key id session message
  pub same : IsSameMessage s session
  pub taken : session.taken ≡ text
