-- What a run promises, by its course and by what it keeps.
use Rattle.std.proofs.Common.{◌≡◌, ℕ, List, [], Bool, true, false, None, Ok, Err, inl, inr, sym, ap, subst, arith}
use Rattle.esdk_args.specs.declared.request.Request.{Request}
use Rattle.esdk_args.specs.declared.request.Request.TheVariants as requests
use Rattle.esdk_args.specs.declared.request.WordsFault.{WordsFault}
use Rattle.esdk_args.specs.declared.request.WordsFault.TheVariants as unread
use Rattle.esdk_args.specs.Faults.{AnswersWords}
use Rattle.esdk_base.specs.Streams.{ShelfState, SinkState, SourceState}
use Rattle.esdk_report.specs.Report.{Reports}
use Rattle.esdk_report.specs.declared.failure.Failure.TheVariants as failures
use Rattle.esdk_run.specs.Failures.{words_failure}
use Rattle.esdk_run.specs.Objects.{Objects, Unchanged, same_streams, without_entropy}
use Rattle.esdk_run.specs.Promises.{Promises, Ticks, Words}
use Rattle.esdk_run.specs.Run.{RunsAs}
use Rattle.esdk_run.specs.Trees.{IsUntouched, Trees}
use Rattle.esdk_list.specs.List.{ListLacksMemory}
use Rattle.whole_input.specs.File.{LacksMemoryForFile}
use Rattle.whole_input.specs.FileReads.{ReadsRow}
use Rattle.whole_input.specs.FileReadsLaws.{row_none}
use Rattle.esdk_run.specs.UnarmouredList.{ListEndsAs}
use Rattle.esdk_run.proofs.Asked.{audit_asked, audited_asked, batch_asked, decrypt_asked, done_asked, encrypt_asked, extract_asked, judgement_asked, judgements_asked, jobs_asked, limits_asked, line_asked, migration_asked, openers_asked, others_asked, reads_asked, reseal_asked, round_trip_asked, whole_asked}
use Rattle.esdk_run.proofs.EarlyEnds.{leaves_a_front}
use Rattle.esdk_run.proofs.Encryption.{encrypt_comes_back, encrypts_what_fits, writes_the_message}
use Rattle.esdk_run.proofs.Extraction.{extract_comes_back, extracts_of_content, extracts_sound_ranges, reads_no_more, says_what_it_extracts}
use Rattle.esdk_run.proofs.Keeping.{Keeps}
use Rattle.esdk_run.proofs.ResealTold.{gives_back_first, reseals_whole_messages, rotates_what_is_written, says_what_it_reseals}
use Rattle.esdk_run.proofs.TreesBack.{decrypt_comes_back}
use Rattle.esdk_run.proofs.UnarmouredListing.{lists_nothing}
use Rattle.esdk_run.proofs.Unarmouring.{unread_text}
use Rattle.esdk_run.proofs.FilesCame.{audits_if_done, batches_if_run, extracts_if_done, names_if_fault}
use Rattle.esdk_run.proofs.WhatCame.{opens_if_done, seals_if_done}

pub promised : (trees : Trees) (words : Words) (before after : Objects) (unchanged : Unchanged) (time : Ticks) (code : ℕ)
    → (unchanged.output → after.output ≡ before.output) → (unchanged.shelf → after.shelf ≡ before.shelf) → RunsAs trees words before after unchanged code → Keeps words before after unchanged time code
    → Promises trees words before after unchanged time code
promised trees words before after unchanged time code same unread runs keeps = record {
  files = keeps.files;
  shelf = keeps.shelf;
  input = keeps.input;
  entropy = keeps.entropy;
  clock = keeps.clock;
  taken = keeps.taken;
  judged = keeps.judged;
  encrypt_tree = λ asked is. encrypt_comes_back trees asked before after unchanged code (encrypt_asked trees words asked before after unchanged code is runs);
  sealed = λ asked is. seals_if_done trees asked before after unchanged code (encrypt_asked trees words asked before after unchanged code is runs);
  message = λ asked is. writes_the_message trees asked before after unchanged code (encrypt_asked trees words asked before after unchanged code is runs);
  fits = λ asked is. encrypts_what_fits trees asked before after unchanged code (encrypt_asked trees words asked before after unchanged code is runs);
  front = λ asked is. leaves_a_front trees asked before after unchanged code (encrypt_asked trees words asked before after unchanged code is runs);
  decrypt_tree = λ asked is. decrypt_comes_back trees asked before after (without_entropy unchanged) code (decrypt_asked trees words asked before after unchanged code is runs);
  opened = λ asked is. opens_if_done trees asked before after (without_entropy unchanged) code same (decrypt_asked trees words asked before after unchanged code is runs);
  reads = λ asked is. reads_asked trees words asked before after unchanged code same is runs;
  judgement = λ asked is. judgement_asked trees words asked before after unchanged code is runs;
  whole = λ asked is. whole_asked trees words asked before after unchanged code is runs;
  round_trip = λ asked is. round_trip_asked trees words asked before after unchanged code is runs;
  migration = λ asked is. migration_asked trees words asked before after unchanged code is runs;
  limits = λ name is. limits_asked trees words name before after unchanged code is runs;
  ages = keeps.ages;
  batched = λ name is. batches_if_run trees name before after unchanged code (batch_asked trees words name before after unchanged code is runs);
  others = λ name is. others_asked trees words name before after unchanged code is runs;
  batch = λ name is. jobs_asked trees words name before after unchanged code is runs;
  judgements = λ name is. judgements_asked trees words name before after unchanged code is runs;
  jobs = λ name is. done_asked trees words name before after unchanged code is runs;
  generator = λ seed size is. line_asked trees words seed size before after unchanged code is runs;
  extract_tree = λ asked is. extract_comes_back trees asked before after unchanged code (extract_asked trees words asked before after unchanged code is runs);
  extracted = λ asked is. extracts_if_done trees asked before after unchanged code (extract_asked trees words asked before after unchanged code is runs);
  extract_fault = λ asked is. names_if_fault trees asked before after unchanged code (extract_asked trees words asked before after unchanged code is runs);
  extraction = λ asked is. says_what_it_extracts trees asked before after unchanged code (extract_asked trees words asked before after unchanged code is runs);
  sound_range = λ asked is. extracts_sound_ranges trees asked before after unchanged code (extract_asked trees words asked before after unchanged code is runs);
  range_of_content = λ asked is. extracts_of_content trees asked before after unchanged code (extract_asked trees words asked before after unchanged code is runs);
  extract_reads = λ asked is. reads_no_more trees asked before after unchanged code unread (extract_asked trees words asked before after unchanged code is runs);
  reseal_tree = λ asked is. gives_back_first trees asked before after unchanged code (reseal_asked trees words asked before after unchanged code is runs);
  resealing = λ asked is. says_what_it_reseals trees asked before after unchanged code (reseal_asked trees words asked before after unchanged code is runs);
  resealed_whole = λ asked is. reseals_whole_messages trees asked before after unchanged code (reseal_asked trees words asked before after unchanged code is runs);
  rotation = λ asked is. rotates_what_is_written trees asked before after unchanged code (reseal_asked trees words asked before after unchanged code is runs);
  audit_came = λ name is. audits_if_done trees name before after unchanged code (audit_asked trees words name before after unchanged code is runs);
  audit = λ name is. openers_asked trees words name before after unchanged code is runs;
  audited = λ name is. audited_asked trees words name before after unchanged code is runs;
}

-- ---- the course of a run, by its command

-- of words that ask for this
pub runs_asked : (trees : Trees) (words : Words) (request : Request) (before after : Objects) (unchanged : Unchanged) (code : ℕ)
    → words ≡ Ok request → RunsAs trees (Ok request) before after unchanged code → RunsAs trees words before after unchanged code
runs_asked trees words request before after unchanged code is runs =
    subst (λ (w : Words). RunsAs trees w before after unchanged code) (sym is) runs

-- of words that are refused
fault_runs : (trees : Trees) (words : Words) (fault : WordsFault) (before after : Objects) (unchanged : Unchanged) (code : ℕ)
    → words ≡ Err fault → IsUntouched trees (same_streams unchanged) → Reports (words_failure fault) code before.report after.report
    → RunsAs trees words before after unchanged code
fault_runs trees words fault before after unchanged code is untouched said =
    subst (λ (w : Words). RunsAs trees w before after unchanged code) (sym is) (untouched, inl said)

-- Nothing is listed of an input that wasn't read.
unlisted : (armour uncommitted : Bool) (before after : SourceState) (output put : SinkState) (unwritten : Type 0) → after ≡ before → unwritten
    → ListEndsAs armour uncommitted before after output put unwritten failures.Memory
unlisted false uncommitted before after output put unwritten is same =
    (subst (λ (taken : SourceState). ListLacksMemory uncommitted before taken) (sym is) (lists_nothing uncommitted before), same)
unlisted true uncommitted before after output put unwritten is same =
    subst (λ (taken : SourceState). ListEndsAs true uncommitted before taken output put unwritten failures.Memory) (sym is)
    (unread_text before _ (λ seen. (lists_nothing uncommitted seen, same)))

-- Memory ran out for a file that wasn't read.
lacks_unread : (old new : ShelfState) (name : List ℕ) → new ≡ old → LacksMemoryForFile old new name
lacks_unread old new name same = record {
  bytes = [];
  read = subst (λ (s : ShelfState). ReadsRow name 0 old.calls s.calls []) (sym same) (row_none name 0 old.calls);
  few = omega arith;
  there = inl same;
  most = omega (arith, ap (λ (s : ShelfState). s.given) same);
  faults = ap (λ (s : ShelfState). s.faults) same;
}

-- of words that memory didn't suffice to read
memory_runs : (trees : Trees) (words : Words) (before after : Objects) (unchanged : Unchanged) (code : ℕ)
    → trees.kept ≡ None → after.input ≡ before.input → unchanged.input → unchanged.output → unchanged.entropy → unchanged.shelf → after.shelf ≡ before.shelf
    → Reports failures.Memory code before.report after.report → RunsAs trees words before after unchanged code
memory_runs trees (Ok (requests.List asked)) before after unchanged code none is input output entropy shelf still said =
    (none, inr (record { failure = failures.Memory; because = unlisted asked.armour asked.uncommitted before.input after.input before.output after.output unchanged.output is output; said = said }))
memory_runs trees (Ok (requests.Encrypt asked)) before after unchanged code none is input output entropy shelf still said =
    inr (record { failure = failures.Memory; because = inl (inl shelf, record { same = ((input, output), entropy); none = none }); said = said })
memory_runs trees (Ok (requests.Decrypt asked)) before after unchanged code none is input output entropy shelf still said =
    inr (record { failure = failures.Memory; because = inl (inl shelf, record { same = (input, output); none = none }); said = said })
memory_runs trees (Ok (requests.Migrate asked)) before after unchanged code none is input output entropy shelf still said =
    (none, inr (record { failure = failures.Memory; because = (inl (lacks_unread before.shelf after.shelf asked.keyring still), output); said = said }))
memory_runs trees (Ok (requests.Batch name)) before after unchanged code none is input output entropy shelf still said =
    inr (record {
      failure = failures.Memory;
      because = (
        inl (inl (record { cause = inl (inl (lacks_unread before.shelf after.shelf name still)); stay = ap (λ (s : ShelfState). s.files) still }, record { same = entropy; none = none })),
        output,
      );
      said = said;
    })
memory_runs trees (Ok (requests.Gen seed size)) before after unchanged code none is input output entropy shelf still said =
    (none, inr (record { failure = failures.Memory; because = output; said = said }))
memory_runs trees (Ok (requests.Extract asked)) before after unchanged code none is input output entropy shelf still said =
    inr (record { failure = failures.Memory; because = inl (inl shelf, record { same = output; none = none }); said = said })
memory_runs trees (Ok (requests.Audit name)) before after unchanged code none is input output entropy shelf still said =
    inr (record { failure = failures.Memory; because = (inl (record { cause = inl (inl (lacks_unread before.shelf after.shelf name still)); none = none }), output); said = said })
memory_runs trees (Ok (requests.Reseal asked)) before after unchanged code none is input output entropy shelf still said =
    inr (record { failure = failures.Memory; because = inl (inl shelf, record { same = ((input, output), entropy); none = none }); said = said })
memory_runs trees (Err fault) before after unchanged code none is input output entropy shelf still said =
    (record { same = (input, output); none = none }, inr said)

pub refused_runs : (trees : Trees) (words : Words) (fault : WordsFault) (before after : Objects) (unchanged : Unchanged) (code : ℕ)
    → AnswersWords (Err fault) words → trees.kept ≡ None → after.input ≡ before.input → unchanged.input → unchanged.output → unchanged.entropy
    → unchanged.shelf → after.shelf ≡ before.shelf → Reports (words_failure fault) code before.report after.report
    → RunsAs trees words before after unchanged code
refused_runs trees words unread.NotRead before after unchanged code answers none is input output entropy shelf still said =
    fault_runs trees words unread.NotRead before after unchanged code answers (record { same = (input, output); none = none }) said
refused_runs trees words (unread.BadNumber name) before after unchanged code answers none is input output entropy shelf still said =
    fault_runs trees words (unread.BadNumber name) before after unchanged code answers (record { same = (input, output); none = none }) said
refused_runs trees words (unread.BadPair number) before after unchanged code answers none is input output entropy shelf still said =
    fault_runs trees words (unread.BadPair number) before after unchanged code answers (record { same = (input, output); none = none }) said
refused_runs trees words unread.Memory before after unchanged code answers none is input output entropy shelf still said =
    memory_runs trees words before after unchanged code none is input output entropy shelf still said
