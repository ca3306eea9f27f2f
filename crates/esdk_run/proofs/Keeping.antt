-- What a run keeps beside what follows from its course, command by command.
use Rattle.std.proofs.Common.{◌≡◌, ℕ, List, ◌+◌, ◌≤◌, ◌^◌, Some, None, Ok, Err, true, false, refl, sym, subst, arith}
use Rattle.std.specs.declared.option.Option.{Option}
use Rattle.std.specs.Prelude.{◌⊎◌}
use Rattle.esdk_args.specs.declared.request.DecryptWords.{DecryptWords}
use Rattle.esdk_args.specs.declared.request.EncryptWords.{EncryptWords}
use Rattle.esdk_args.specs.declared.request.ExtractWords.{ExtractWords}
use Rattle.esdk_args.specs.declared.request.ListWords.{ListWords}
use Rattle.esdk_args.specs.declared.request.MigrateWords.{MigrateWords}
use Rattle.esdk_args.specs.declared.request.Request.TheVariants as requests
use Rattle.esdk_args.specs.declared.request.ResealWords.{ResealWords}
use Rattle.esdk_args.specs.declared.request.WordsFault.{WordsFault}
use Rattle.esdk_args.specs.declared.request.WordsFault.TheVariants as unread
use Rattle.esdk_args.specs.Faults.{AnswersWords}
use Rattle.esdk_base.specs.Streams.{OnTold, SinkState}
use Rattle.esdk_fields.specs.declared.faults.Fault.{Fault}
use Rattle.esdk_list.specs.List.{listing_fault}
use Rattle.esdk_report.specs.Report.{Reports}
use Rattle.esdk_report.specs.declared.failure.Failure.TheVariants as failures
use Rattle.esdk_run.specs.Failures.{words_failure}
use Rattle.esdk_run.specs.Objects.{Objects, Unchanged}
use Rattle.esdk_run.specs.Promises.{On, Ticks, Words}
use Rattle.esdk_run.specs.Run.{AgreesWith, draws, reads_input, reads_shelf, is_batch}
use Rattle.esdk_run.specs.Unarmoured.{outlook_of}
use Rattle.esdk_run.proofs.Ages.{no_ages}
use Rattle.esdk_run.proofs.Statuses.{memory_status}
use Rattle.esdk_run.specs.Ages.{ShowsAges}

-- What a run promises that doesn't follow from its course.
pub record Keeps (words : Words) (before after : Objects) (unchanged : Unchanged) (time : Ticks) (code : ℕ) : Type 0 where
  pub files : is_batch words ≡ false → after.shelf.files ≡ before.shelf.files
  pub shelf : reads_shelf words ≡ false → unchanged.shelf
  pub input : reads_input words ≡ false → unchanged.input
  pub entropy : draws words ≡ false → unchanged.entropy
  pub clock : is_batch words ≡ false → time.same
  pub taken : after.input.given ≤ before.input.given + 2 ^ 62
  pub judged : On requests.List words (λ asked. OnTold before.input.left (λ bytes. AgreesWith code (listing_fault asked.uncommitted (outlook_of asked.armour bytes).bytes)))
  pub ages : On requests.Batch words (λ name. (code ≡ 0) ⊎ (code ≡ 7) → ShowsAges name before.shelf after.shelf before.output after.output time.before time.after)

never : true ≡ false → ⊥
never same = cc

-- where nothing more was taken
none_taken : (before after : ℕ) → after ≡ before → after ≤ before + 2 ^ 62
none_taken before after same = omega (arith, same)

pub list_keeps : (words : Words) (asked : ListWords) (before after : Objects) (unchanged : Unchanged) (time : Ticks) (code : ℕ)
    → words ≡ Ok (requests.List asked) → after.shelf.files ≡ before.shelf.files → unchanged.shelf → unchanged.entropy → time.same
    → after.input.given ≤ before.input.given + 2 ^ 62 → OnTold before.input.left (λ bytes. AgreesWith code (listing_fault asked.uncommitted (outlook_of asked.armour bytes).bytes))
    → Keeps words before after unchanged time code
list_keeps words asked before after unchanged time code is files shelf entropy clock taken judged =
    subst (λ (w : Words). Keeps w before after unchanged time code) (sym is) (record {
      files = λ _. files;
      shelf = λ _. shelf;
      input = λ no. absurd (never no);
      entropy = λ _. entropy;
      clock = λ _. clock;
      taken = taken;
      judged = λ other same.
          let both : Ok (requests.List asked) ≡ Ok (requests.List other) = same in
          let one : asked ≡ other = cc in
          subst (λ (a : ListWords). OnTold before.input.left (λ bytes. AgreesWith code (listing_fault a.uncommitted (outlook_of a.armour bytes).bytes))) one judged;
      ages = λ name no. absurd cc;
    })

pub encrypt_keeps : (words : Words) (asked : EncryptWords) (before after : Objects) (unchanged : Unchanged) (time : Ticks) (code : ℕ)
    → words ≡ Ok (requests.Encrypt asked) → after.shelf.files ≡ before.shelf.files → time.same
    → after.input.given ≤ before.input.given + 2 ^ 62 → Keeps words before after unchanged time code
encrypt_keeps words asked before after unchanged time code is files clock taken =
    subst (λ (w : Words). Keeps w before after unchanged time code) (sym is) (record {
      files = λ _. files;
      shelf = λ no. absurd (never no);
      input = λ no. absurd (never no);
      entropy = λ no. absurd (never no);
      clock = λ _. clock;
      taken = taken;
      judged = λ other no. absurd cc;
      ages = λ name no. absurd cc;
    })

pub decrypt_keeps : (words : Words) (asked : DecryptWords) (before after : Objects) (unchanged : Unchanged) (time : Ticks) (code : ℕ)
    → words ≡ Ok (requests.Decrypt asked) → after.shelf.files ≡ before.shelf.files → unchanged.entropy → time.same
    → after.input.given ≤ before.input.given + 2 ^ 62 → Keeps words before after unchanged time code
decrypt_keeps words asked before after unchanged time code is files entropy clock taken =
    subst (λ (w : Words). Keeps w before after unchanged time code) (sym is) (record {
      files = λ _. files;
      shelf = λ no. absurd (never no);
      input = λ no. absurd (never no);
      entropy = λ _. entropy;
      clock = λ _. clock;
      taken = taken;
      judged = λ other no. absurd cc;
      ages = λ name no. absurd cc;
    })

pub migrate_keeps : (words : Words) (asked : MigrateWords) (before after : Objects) (unchanged : Unchanged) (time : Ticks) (code : ℕ)
    → words ≡ Ok (requests.Migrate asked) → after.shelf.files ≡ before.shelf.files → unchanged.input → unchanged.entropy → time.same
    → after.input.given ≡ before.input.given → Keeps words before after unchanged time code
migrate_keeps words asked before after unchanged time code is files input entropy clock taken =
    subst (λ (w : Words). Keeps w before after unchanged time code) (sym is) (record {
      files = λ _. files;
      shelf = λ no. absurd (never no);
      input = λ _. input;
      entropy = λ _. entropy;
      clock = λ _. clock;
      taken = none_taken _ _ taken;
      judged = λ other no. absurd cc;
      ages = λ name no. absurd cc;
    })

pub batch_keeps : (words : Words) (name : List ℕ) (before after : Objects) (unchanged : Unchanged) (time : Ticks) (code : ℕ)
    → words ≡ Ok (requests.Batch name) → unchanged.input → after.input.given ≡ before.input.given
    → ((code ≡ 0) ⊎ (code ≡ 7) → ShowsAges name before.shelf after.shelf before.output after.output time.before time.after) → Keeps words before after unchanged time code
batch_keeps words name before after unchanged time code is input taken ages =
    subst (λ (w : Words). Keeps w before after unchanged time code) (sym is) (record {
      files = λ no. absurd (never no);
      shelf = λ no. absurd (never no);
      input = λ _. input;
      entropy = λ no. absurd (never no);
      clock = λ no. absurd (never no);
      taken = none_taken _ _ taken;
      judged = λ other no. absurd cc;
      ages = λ other same.
          let both : Ok (requests.Batch name) ≡ Ok (requests.Batch other) = same in
          let one : name ≡ other = cc in
          subst (λ (n : List ℕ). (code ≡ 0) ⊎ (code ≡ 7) → ShowsAges n before.shelf after.shelf before.output after.output time.before time.after) one ages;
    })

pub extract_keeps : (words : Words) (asked : ExtractWords) (before after : Objects) (unchanged : Unchanged) (time : Ticks) (code : ℕ)
    → words ≡ Ok (requests.Extract asked) → after.shelf.files ≡ before.shelf.files → unchanged.input → unchanged.entropy → time.same
    → after.input.given ≡ before.input.given → Keeps words before after unchanged time code
extract_keeps words asked before after unchanged time code is files input entropy clock taken =
    subst (λ (w : Words). Keeps w before after unchanged time code) (sym is) (record {
      files = λ _. files;
      shelf = λ no. absurd (never no);
      input = λ _. input;
      entropy = λ _. entropy;
      clock = λ _. clock;
      taken = none_taken _ _ taken;
      judged = λ other no. absurd cc;
      ages = λ name no. absurd cc;
    })

pub gen_keeps : (words : Words) (seed size : ℕ) (before after : Objects) (unchanged : Unchanged) (time : Ticks) (code : ℕ)
    → words ≡ Ok (requests.Gen seed size) → after.shelf.files ≡ before.shelf.files → unchanged.shelf → unchanged.input → unchanged.entropy → time.same
    → after.input.given ≡ before.input.given → Keeps words before after unchanged time code
gen_keeps words seed size before after unchanged time code is files shelf input entropy clock taken =
    subst (λ (w : Words). Keeps w before after unchanged time code) (sym is) (record {
      files = λ _. files;
      shelf = λ _. shelf;
      input = λ _. input;
      entropy = λ _. entropy;
      clock = λ _. clock;
      taken = none_taken _ _ taken;
      judged = λ other no. absurd cc;
      ages = λ name no. absurd cc;
    })

pub audit_keeps : (words : Words) (name : List ℕ) (before after : Objects) (unchanged : Unchanged) (time : Ticks) (code : ℕ)
    → words ≡ Ok (requests.Audit name) → after.shelf.files ≡ before.shelf.files → unchanged.input → unchanged.entropy → time.same
    → after.input.given ≡ before.input.given → Keeps words before after unchanged time code
audit_keeps words name before after unchanged time code is files input entropy clock taken =
    subst (λ (w : Words). Keeps w before after unchanged time code) (sym is) (record {
      files = λ _. files;
      shelf = λ no. absurd (never no);
      input = λ _. input;
      entropy = λ _. entropy;
      clock = λ _. clock;
      taken = none_taken _ _ taken;
      judged = λ other no. absurd cc;
      ages = λ other no. absurd cc;
    })

pub reseal_keeps : (words : Words) (asked : ResealWords) (before after : Objects) (unchanged : Unchanged) (time : Ticks) (code : ℕ)
    → words ≡ Ok (requests.Reseal asked) → after.shelf.files ≡ before.shelf.files → time.same
    → after.input.given ≤ before.input.given + 2 ^ 62 → Keeps words before after unchanged time code
reseal_keeps words asked before after unchanged time code is files clock taken =
    subst (λ (w : Words). Keeps w before after unchanged time code) (sym is) (record {
      files = λ _. files;
      shelf = λ no. absurd (never no);
      input = λ no. absurd (never no);
      entropy = λ no. absurd (never no);
      clock = λ _. clock;
      taken = taken;
      judged = λ other no. absurd cc;
      ages = λ name no. absurd cc;
    })

-- ---- words that are refused, or that memory didn't suffice to read

-- status 5 agrees with any bytes
five_agrees : (code : ℕ) (found : Option Fault) → code ≡ 5 → AgreesWith code found
five_agrees code None five = λ one. absurd (omega (arith, five, one))
five_agrees code (Some fault) five = λ zero. absurd (omega (arith, five, zero))

five_agrees_told : (code : ℕ) (asked : ListWords) (left : Option (List ℕ)) → code ≡ 5
    → OnTold left (λ bytes. AgreesWith code (listing_fault asked.uncommitted (outlook_of asked.armour bytes).bytes))
five_agrees_told code asked None five = tt
five_agrees_told code asked (Some bytes) five = five_agrees code (listing_fault asked.uncommitted (outlook_of asked.armour bytes).bytes) five

refused_judged : (words : Words) (asked : ListWords) (fault : WordsFault) (code : ℕ) (left : Option (List ℕ)) (report reported : SinkState)
    → AnswersWords (Err fault) words → Reports (words_failure fault) code report reported → words ≡ Ok (requests.List asked)
    → OnTold left (λ bytes. AgreesWith code (listing_fault asked.uncommitted (outlook_of asked.armour bytes).bytes))
refused_judged words asked unread.NotRead code left report reported answers said is = absurd cc
refused_judged words asked (unread.BadNumber name) code left report reported answers said is = absurd cc
refused_judged words asked (unread.BadPair number) code left report reported answers said is = absurd cc
refused_judged words asked unread.Memory code left report reported answers said is =
    five_agrees_told code asked left (memory_status failures.Memory code report reported refl said)

pub refused_keeps : (words : Words) (fault : WordsFault) (before after : Objects) (unchanged : Unchanged) (time : Ticks) (code : ℕ)
    → AnswersWords (Err fault) words → Reports (words_failure fault) code before.report after.report
    → after.shelf.files ≡ before.shelf.files → unchanged.shelf → unchanged.input → unchanged.entropy → time.same
    → after.input.given ≡ before.input.given → Keeps words before after unchanged time code
refused_keeps words fault before after unchanged time code answers said files shelf input entropy clock taken = record {
  files = λ _. files;
  shelf = λ _. shelf;
  input = λ _. input;
  entropy = λ _. entropy;
  clock = λ _. clock;
  taken = none_taken _ _ taken;
  judged = λ asked is. refused_judged words asked fault code before.input.left before.report after.report answers said is;
  ages = λ name is. no_ages name before.shelf after.shelf before.output after.output before.report after.report time.before time.after code (words_failure fault) said;
}
