-- What a caller's loop over an opener comes to.
use Rattle.std.specs.Prelude.{◌≡◌, ℕ, List, Option}
use Rattle.std.specs.Io.KnownBytes.{Appends}
use Rattle.context_codec.specs.Context.{KeyValue}
use Rattle.header_codec.specs.declared.settings.Settings.{Settings}
use Rattle.keyring_trait.specs.Unlocking.{Unlocks}
use Rattle.body_format.specs.declared.verdicts.Verdict.TheVariants.{Whole}
use Rattle.message_format.specs.Judgement.{content, judged}

-- The bytes are one whole message, which some data key unlocks with this whole context, and the
-- output gained its text.
pub record OpensWholeBytes (settings : Settings) (bytes : List ℕ) (context : List KeyValue)
    (before now : Option (List ℕ)) : Type 0 where
  pub only : List KeyValue
  pub key : List ℕ
  pub whole : (judged bytes settings (Unlocks context only key)).verdict ≡ Whole
  pub gained : Appends before now (content (judged bytes settings (Unlocks context only key)))
