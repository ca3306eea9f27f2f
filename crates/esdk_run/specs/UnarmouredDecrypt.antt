-- What decrypting an input comes to that may be read as armour text.
use Rattle.std.specs.Prelude.{◌≡◌, ℕ, Bool, true, false, List, None, ⊤, Result, Ok, Err}
use Rattle.context_codec.specs.Context.{KeyValue}
use Rattle.esdk_base.specs.Streams.{SinkState, SourceState}
use Rattle.keyring_trait.specs.Unlocking.{Unlocking}
use Rattle.message_format.specs.Judgement.{judged}
use Rattle.whole_input.specs.Taken.{EndSeen}
use Rattle.esdk_decrypt.specs.declared.errors.DecryptError.{DecryptError}
use Rattle.esdk_decrypt.specs.declared.errors.DecryptError.TheVariants as errors
use Rattle.esdk_decrypt.specs.Decrypt.{DecryptAsked, Decrypts, DecryptEnds, Releases, fault_of}
use Rattle.esdk_run.specs.Failures.{decryption_failure}
use Rattle.esdk_run.specs.Unarmoured.{InputEnds, ReadsAll}
use Rattle.esdk_run.specs.UnarmouredEnd.{is_cut_short}

-- no fault stands in bytes whose decryption ended so
abbrev pub is_open : Result (List KeyValue) DecryptError → Bool
is_open (Ok context) = true
is_open (Err (errors.Fault fault)) = is_cut_short fault
is_open (Err error) = false

-- The bytes taken have no fault, and this is so of them. The output gained what they release.
pub record ReleasesSound (asked : DecryptAsked) (input taken : SourceState) (output put : SinkState)
    (cause : List ℕ → Type 0) : Type 0 where
  pub bytes : List ℕ
  pub answer : Unlocking
  pub releases : Releases asked input taken output put bytes answer
  pub sound : fault_of (judged bytes asked.settings answer).verdict ≡ None
  pub because : cause bytes

-- the whole input is a whole message, the output gained its content, and this is its whole context
abbrev pub DecryptsAs : (armour : Bool) → DecryptAsked → SourceState → SourceState → SinkState
    → SinkState
    → List KeyValue → Type 0
DecryptsAs armour asked input taken output put context =
    ReadsAll armour input taken (λ seen read. Decrypts asked seen read output put context)

-- Why an input wasn't decrypted, and what that left.
abbrev pub DecryptEndsAs : (armour : Bool) → DecryptAsked → SourceState → SourceState → SinkState
    → SinkState → Type 0 → DecryptError → Type 0
DecryptEndsAs armour asked input taken output put unwritten error =
    InputEnds armour (decryption_failure error) input taken
    (λ seen read. DecryptEnds asked seen read output put unwritten error)
    (λ seen read. ReleasesSound asked seen read output put (EndSeen seen read))
    (λ seen read. ReleasesSound asked seen read output put (λ bytes. ⊤))
