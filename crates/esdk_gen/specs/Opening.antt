-- How the desk stands while the workload's message is opened.
use Rattle.std.specs.Prelude.{◌≡◌, ℕ, ◌≤◌, List, [], ◌∷◌, ◌++◌, length, Some}
use Rattle.context_codec.specs.Context.{KeyValue}
use Rattle.header_codec.specs.Header.{no_limits}
use Rattle.keyring_trait.specs.Unlocking.{Unlocking, Unlocks}
use Rattle.keyring_trait.specs.Wrapping.{WrapKeyValue}
use Rattle.body_format.specs.declared.verdicts.Verdict.TheVariants.{Whole}
use Rattle.message_format.specs.Judgement.{content, judged}
use Rattle.message_format.specs.Reading.{unlocking}
use Rattle.stream_open.specs.Feeding.{GoesOn}
use Rattle.stream_open.specs.Session.{OpeningValue, judged_now}
use Rattle.desk_core.specs.declared.live_sessions.Desk.{Desk}
use Rattle.desk_core.specs.Session.{Opening}
use Rattle.esdk_gen.specs.Bytes.{seed_part}
use Rattle.esdk_gen.specs.Generator.{gen_message, generator_key}
use Rattle.esdk_gen.specs.Sealing.{IsLiveSession}

-- what the message's header unlocks to under the wrapping key of these bytes, where no pairs are
-- given
abbrev pub unlocked_under : List ℕ → List ℕ → Unlocking
unlocked_under key message = unlocking message no_limits [] [] (generator_key key ∷ [])

-- Under the wrapping key of these bytes the message is unlocked, is whole, and has this text.
pub record IsWholeUnder (key message text : List ℕ) : Type 0 where
  pub context : List KeyValue
  pub only : List KeyValue
  pub data_key : List ℕ
  pub unlocked : unlocked_under key message ≡ Unlocks context only data_key
  pub whole : (judged message no_limits (unlocked_under key message)).verdict ≡ Whole
  pub released : content (judged message no_limits (unlocked_under key message)) ≡ text
  pub few : length text ≤ 67108864

-- The session took a front of the message, of which these bytes are left, and handed out so many
-- bytes of its text. An answer that it keeps is the one to the message's header.
pub record GeneratorIsOpening (desk : Desk WrapKeyValue) (key : List ℕ) (id : ℕ)
    (message text left : List ℕ) (count : ℕ) : Type 0 where
  pub session : OpeningValue
  pub at : IsLiveSession desk key id (Opening session)
  pub settings : session.settings ≡ no_limits
  pub none_given : session.given ≡ []
  pub goes : GoesOn session
  pub front : message ≡ session.taken ++ left
  pub kept : (answer : Unlocking) → session.answer ≡ Some answer
      → answer ≡ unlocked_under key message
  pub counted : count ≡ length (content (judged_now session))
  pub is_whole : IsWholeUnder key message text

-- ---- the law

-- The message of any seed is whole under the seed's wrapping key, and has the seed's text.
abbrev pub OpensWhatIsGenerated : Type 0
OpensWhatIsGenerated = (seed size : ℕ) → size ≤ 67108864
    → IsWholeUnder (seed_part seed 0 32) (gen_message seed size) (seed_part seed 108 size)
