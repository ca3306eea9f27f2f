-- What a run comes to, by its words.
use Rattle.std.proofs.Common.{◌≡◌, ℕ, List, [], ◌∷◌, Some, None, Ok, Err, refl, inl, inr}
use Rattle.esdk_args.specs.declared.request.Request.{Request}
use Rattle.esdk_args.specs.declared.request.Request.TheVariants as requests
use Rattle.esdk_args.specs.declared.request.WordsFault.{WordsFault}
use Rattle.esdk_args.specs.Commands.{command_named}
use Rattle.esdk_args.specs.Words.{HasFrame, read_behind, words_of}
use Rattle.esdk_args.proofs.Bounds.{read_frame}
use Rattle.esdk_fields.specs.declared.refusals.Outside.TheVariants as outsides
use Rattle.esdk_gen.specs.Generator.{gen_line}
use Rattle.esdk_report.specs.Report.{Reports}
use Rattle.esdk_report.specs.declared.failure.Failure.{Failure}
use Rattle.esdk_report.specs.declared.failure.Failure.TheVariants as failures
use Rattle.esdk_run.specs.Failures.{words_failure}
use Rattle.esdk_run.specs.Generate.{GenFails}
use Rattle.esdk_run.specs.Objects.{Objects, Unchanged, without_entropy}
use Rattle.esdk_run.specs.Promises.{Promises, Ticks, Words}
use Rattle.esdk_run.specs.Run.{GenRuns, RefusesWords, RunsAs}
use Rattle.esdk_run.specs.Trees.{Trees}
use Rattle.esdk_program.specs.Effect.{RunComesTo, done_with, refused}
use Rattle.esdk_program.specs.Program.{Does, effect_of}
use Rattle.esdk_program.specs.World.{Run, World, run_of}
use Rattle.esdk_program.proofs.Auditing.{audit_does}
use Rattle.esdk_program.proofs.Decrypting.{decrypt_does}
use Rattle.esdk_program.proofs.Encrypting.{encrypt_does}
use Rattle.esdk_program.proofs.Extracting.{extract_does}
use Rattle.esdk_program.proofs.Listing.{list_does}
use Rattle.esdk_program.proofs.Migrating.{migrate_does}
use Rattle.esdk_program.proofs.Resealed.{reseal_does}
use Rattle.esdk_program.proofs.Ends.{gains_none, refuses, same_front, same_none, stops}

-- ---- `gen`

module _ (r : Run) (world : World) (unchanged : Unchanged) (same : unchanged.output → r.after.output ≡ r.before.output) where
  gen_fails : (seed size : ℕ) (failure : Failure) → GenFails seed size r.before.output r.after.output unchanged.output failure → Reports failure r.code r.before.report r.after.report
      → RunComesTo r world (done_with (gen_line seed size) [])
  gen_fails seed size (failures.Outside outsides.SinkFault) fails said = stops r world (done_with (gen_line seed size) []) (failures.Outside outsides.SinkFault) fails.rose said fails.front
  gen_fails seed size failures.Memory fails said =
      stops r world (done_with (gen_line seed size) []) failures.Memory tt said (same_front r.before.output r.after.output (gen_line seed size) (same fails))
  gen_fails seed size failure fails said = absurd fails

  gen_does : (seed size : ℕ) → GenRuns seed size r.before r.after unchanged r.code → RunComesTo r world (done_with (gen_line seed size) [])
  gen_does seed size (inl (done, line)) = inl (record { code = done.status; output = line; report = gains_none r.before.report r.after.report done.same })
  gen_does seed size (inr fails) = gen_fails seed size fails.failure fails.because fails.said

  -- ---- words that are refused

  words_do : (fault : WordsFault) → r.after.output ≡ r.before.output → RefusesWords fault r.code r.before.report r.after.report → RunComesTo r world (refused [] (words_failure fault))
  words_do fault still (inl said) = refuses r world [] (words_failure fault) (same_none r.before.output r.after.output still) said
  words_do fault still (inr said) =
      stops r world (refused [] (words_failure fault)) failures.Memory tt said (same_front r.before.output r.after.output [] still)

-- ---- all words

pub does : (words : Words) (trees : Trees) (before after : Objects) (unchanged : Unchanged) (time : Ticks) (code : ℕ)
    → (unchanged.output → after.output ≡ before.output) → ((request : Request) → words ≡ Ok request → HasFrame request)
    → RunsAs trees words before after unchanged code → Promises trees words before after unchanged time code → Does (run_of words trees before after code)
unfolding effect_of
does (Ok (requests.List asked)) trees before after unchanged time code same framed runs promises world of =
    list_does (run_of (Ok (requests.List asked)) trees before after code) asked unchanged world of same runs.1
does (Ok (requests.Encrypt asked)) trees before after unchanged time code same framed runs promises world of =
    encrypt_does (run_of (Ok (requests.Encrypt asked)) trees before after code) asked unchanged world of same (framed (requests.Encrypt asked) refl) runs
does (Ok (requests.Decrypt asked)) trees before after unchanged time code same framed runs promises world of =
    decrypt_does (run_of (Ok (requests.Decrypt asked)) trees before after code) asked (without_entropy unchanged) world of same (promises.reads asked refl) runs
does (Ok (requests.Reseal asked)) trees before after unchanged time code same framed runs promises world of =
    reseal_does (run_of (Ok (requests.Reseal asked)) trees before after code) asked unchanged world of same (framed (requests.Reseal asked) refl) runs
does (Ok (requests.Extract asked)) trees before after unchanged time code same framed runs promises world of =
    extract_does (run_of (Ok (requests.Extract asked)) trees before after code) asked unchanged world of same runs
does (Ok (requests.Audit name)) trees before after unchanged time code same framed runs promises world of =
    audit_does (run_of (Ok (requests.Audit name)) trees before after code) name unchanged world of same runs
does (Ok (requests.Migrate asked)) trees before after unchanged time code same framed runs promises world of =
    migrate_does (run_of (Ok (requests.Migrate asked)) trees before after code) asked unchanged world of same runs.1
does (Ok (requests.Gen seed size)) trees before after unchanged time code same framed runs promises world of =
    gen_does (run_of (Ok (requests.Gen seed size)) trees before after code) world unchanged same seed size runs.1
does (Ok request) trees before after unchanged time code same framed runs promises world of = tt
does (Err fault) trees before after unchanged time code same framed runs promises world of =
    words_do (run_of (Err fault) trees before after code) world unchanged same fault (same runs.0.same.1) runs.1

-- ---- a frame length is at least 1

pub words_frame : (words : List (List ℕ)) (request : Request) → words_of words ≡ Ok request → HasFrame request
unfolding words_of
words_frame [] request is = absurd (cc is)
words_frame (word ∷ behind) request is =
    elim (command_named word) as (λ name. read_behind name behind ≡ Ok request → HasFrame request) [
      | None ↦ λ none. absurd (cc none)
      | Some name ↦ λ some. read_frame name behind (Ok request) some
    ] is
