-- How a command ends once its encryption or its decryption ended.
use Rattle.std.proofs.Common.{◌≡◌, ℕ, List, Ok, Err, inl, inr}
use Rattle.std.specs.Prelude.{IfErr, IfOk, OnOk}
use Rattle.std.specs.declared.result.Result.{Result}
use Rattle.esdk_args.specs.declared.request.DecryptWords.{DecryptWords}
use Rattle.esdk_args.specs.declared.request.EncryptWords.{EncryptWords}
use Rattle.esdk_fields.specs.declared.refusals.Outside.TheVariants as outsides
use Rattle.context_codec.specs.Context.{KeyValue}
use Rattle.keyring_trait.specs.Keyring.{KeyringMeaning}
use Rattle.esdk_decrypt.specs.declared.errors.DecryptError.{DecryptError}
use Rattle.esdk_decrypt.specs.declared.errors.DecryptError.TheVariants as decrypting
use Rattle.esdk_encrypt.specs.declared.errors.EncryptError.{EncryptError}
use Rattle.esdk_encrypt.specs.declared.errors.EncryptError.TheVariants as encrypting
use Rattle.esdk_encrypt.specs.Encrypt.{Encrypts, EncryptEnds}
use Rattle.esdk_report.specs.Report.{Reports}
use Rattle.esdk_run.specs.ArmouredMessage.{output_gains}
use Rattle.esdk_run.specs.Decrypt.{DecryptFails, DecryptionFails, decrypt_asked}
use Rattle.esdk_run.specs.Encrypt.{EncryptFails, EncryptionFails, encrypt_asked}
use Rattle.esdk_run.specs.Failures.{decryption_failure, encryption_failure}
use Rattle.esdk_run.specs.Objects.{Objects, Unchanged, same_streams}
use Rattle.esdk_run.specs.Run.{DecryptRuns, EncryptRuns, IsDone, TellsOrLacksMemory}
use Rattle.esdk_run.specs.Trees.{HasTree, Trees}
use Rattle.esdk_run.specs.UnarmouredDecrypt.{DecryptsAs, DecryptEndsAs}
use Rattle.esdk_run.proofs.UnarmouredReaders.{never_shelf}

-- ---- `encrypt`

-- the command fails as its encryption does
encryption_fails : (trees : Trees) (asked : EncryptWords) (before after : Objects) (unchanged : Unchanged) (error : EncryptError)
    → EncryptionFails trees asked before after (same_streams unchanged) error
    → EncryptFails trees asked before after unchanged (encryption_failure error)
encryption_fails trees asked before after unchanged (encrypting.Refusal refusal) fails = inr fails
encryption_fails trees asked before after unchanged (encrypting.Outside outsides.ShelfFault) fails = absurd fails.ended.stops
encryption_fails trees asked before after unchanged (encrypting.Outside outside) fails = fails
encryption_fails trees asked before after unchanged encrypting.Memory fails = inr fails

-- the course of a run whose encryption ended so, and that said so
pub encryption_ran : (trees : Trees) (asked : EncryptWords) (before after : Objects) (unchanged : Unchanged) (code : ℕ)
    (context : List KeyValue) (tree left : KeyringMeaning) (r : Result (Unit {0}) EncryptError)
    → HasTree trees asked.pairs asked.keyring before.shelf after.shelf context tree left
    → OnOk r (Encrypts (encrypt_asked asked context tree left) before.input after.input (output_gains asked.armour before.output after.output) before.entropy after.entropy)
    → IfErr r (EncryptEnds (encrypt_asked asked context tree left) before.input after.input (output_gains asked.armour before.output after.output) before.entropy after.entropy (same_streams unchanged) (left ≡ tree))
    → OnOk r (IsDone code before.report after.report) → IfErr r (λ error. Reports (encryption_failure error) code before.report after.report)
    → EncryptRuns trees asked before after unchanged code
encryption_ran trees asked before after unchanged code context tree left (Ok done) has encrypts ends is said =
    inl (is, record { context = context; tree = tree; left = left; has = has; done = encrypts })
encryption_ran trees asked before after unchanged code context tree left (Err error) has encrypts ends is said = inr (record {
  failure = encryption_failure error;
  because = encryption_fails trees asked before after unchanged error (record { context = context; tree = tree; left = left; has = has; ended = ends });
  said = said;
})

-- ---- `decrypt`

decryption_fails : (trees : Trees) (asked : DecryptWords) (before after : Objects) (unchanged : Unchanged) (error : DecryptError)
    → DecryptionFails trees asked before after unchanged.output error
    → DecryptFails trees asked before after unchanged (decryption_failure error)
decryption_fails trees asked before after unchanged (decrypting.Fault fault) fails = fails
decryption_fails trees asked before after unchanged (decrypting.Outside outsides.ShelfFault) fails = absurd (never_shelf asked.armour _ before.input after.input before.output after.output unchanged.output fails.ended)
decryption_fails trees asked before after unchanged (decrypting.Outside outside) fails = fails
decryption_fails trees asked before after unchanged decrypting.Memory fails = inr fails

pub decryption_ran : (trees : Trees) (asked : DecryptWords) (before after : Objects) (unchanged : Unchanged) (code : ℕ)
    (given : List KeyValue) (tree left : KeyringMeaning) (r : Result (List KeyValue) DecryptError)
    → HasTree trees asked.pairs asked.keyring before.shelf after.shelf given tree left
    → IfOk r (DecryptsAs asked.armour (decrypt_asked asked given tree left) before.input after.input before.output after.output)
    → IfErr r (DecryptEndsAs asked.armour (decrypt_asked asked given tree left) before.input after.input before.output after.output unchanged.output)
    → IfOk r (λ context. TellsOrLacksMemory context code before.report after.report)
    → IfErr r (λ error. Reports (decryption_failure error) code before.report after.report)
    → DecryptRuns trees asked before after unchanged code
decryption_ran trees asked before after unchanged code given tree left (Ok context) has decrypts ends told said = inl (record {
  context = context;
  done = record { given = given; tree = tree; left = left; has = has; done = decrypts };
  told = told;
})
decryption_ran trees asked before after unchanged code given tree left (Err error) has decrypts ends told said = inr (record {
  failure = decryption_failure error;
  because = decryption_fails trees asked before after unchanged error (record { given = given; tree = tree; left = left; has = has; ended = ends });
  said = said;
})
