-- A file is put in its place: what was so of its job is so of the line that it leaves.
use Rattle.std.proofs.Common.{◌≡◌, ◌≤◌, ◌<◌, ◌∙◌, ℕ, Bool, true, false, List, ◌++◌, length, take, refl, sym, ap, subst, inl, inr, arith}
use Rattle.std.specs.Prelude.{Option, Some, if◌then◌else◌}
use Rattle.std.proofs.lemmas.List.{take_all}
use Rattle.header_codec.specs.Header.{no_limits}
use Rattle.esdk_fields.specs.declared.refusals.Outside.TheVariants as outsides
use Rattle.esdk_fields.specs.Counts.{Rose, RoseBy}
use Rattle.esdk_base.specs.Shelf.{Files, is_missing}
use Rattle.esdk_base.specs.Streams.{EntropyState, ShelfState}
use Rattle.context_codec.specs.Context.{KeyValue}
use Rattle.stream_seal.specs.Start.{message_of, drawn_id}
use Rattle.message_format.specs.Judgement.{content}
use Rattle.desk_core.specs.Desk.{DeskValue}
use Rattle.job_file.specs.declared.job.Job.{Job}
use Rattle.job_file.specs.declared.job.Work.{Work}
use Rattle.job_file.specs.declared.job.Work.TheVariants.{Encrypt, Decrypt}
use Rattle.batch_report.specs.declared.job_lines.JobLine.{JobLine}
use Rattle.batch_report.specs.declared.job_lines.JobEnd.{JobEnd}
use Rattle.batch_report.specs.declared.job_lines.JobEnd.TheVariants as ends
use Rattle.esdk_batch.specs.declared.progress.Progress.{Progress}
use Rattle.esdk_batch.specs.declared.progress.Progress.TheVariants as stages
use Rattle.esdk_batch.specs.Batch.{WorksSo, seen_of}
use Rattle.esdk_batch.specs.Failures.{HasFile, Tally, TurnCounts, entropy_fails, fails_by, keyring_fails, shelf_fails_of, tally_of}
use Rattle.esdk_batch.specs.Files.{KeepsOthers}
use Rattle.keyring_trait.specs.Saying.{Saying}
use Rattle.esdk_batch.specs.Answering.{HasAnswer}
use Rattle.esdk_batch.specs.OpenStory.{OpensSo, JobOpensWhole, judged_under}
use Rattle.esdk_batch.specs.Placing.{IsPlaced, PutsInPlace, unplaced_end, unplaced_line}
use Rattle.esdk_batch.specs.Progress.{is_ended, turns_left}
use Rattle.esdk_batch.specs.SealStory.{SealAsked, SealsSo, SealsWhole, Seen, held_or_none, most_sealed, sealed_text}
use Rattle.esdk_batch.specs.Turns.{AddsLines, DrawsNumber, HasKind}
use Rattle.esdk_batch.specs.Underway.{TakesTurn}

-- ---- one job's story

-- a whole message is a front of itself
seals_unplaced : (manager : Saying) (asked : SealAsked) (seen : Seen) → SealsWhole manager asked seen → SealsSo manager asked seen (ends.Outside outsides.ShelfFault)
seals_unplaced manager asked seen whole =
    let text : sealed_text asked seen ≡ whole.text = ap (λ (o : Option (List ℕ)). take (most_sealed asked) (held_or_none o)) whole.from ∙ take_all (most_sealed asked) whole.text whole.short in
    let message : List ℕ = message_of whole.materials asked.frame (drawn_id seen.drawn) whole.text in
    record {
      materials = whole.materials;
      given = whole.given;
      left = inr (record {
        materials = whole.materials;
        given = whole.given;
        begins = whole.begins;
        count = length message;
        front = whole.to ∙ ap (λ (l : List ℕ). Some l) (sym (take_all (length message) message (omega arith))
            ∙ ap (λ (l : List ℕ). take (length message) (message_of whole.materials asked.frame (drawn_id seen.drawn) l)) (sym text));
      });
    }

-- the whole content is a front of itself
opens_unplaced : (manager : Saying) (given : List KeyValue) (seen : Seen) → JobOpensWhole manager given seen → OpensSo manager given seen (ends.Outside outsides.ShelfFault)
opens_unplaced manager given seen whole =
    let from : held_or_none seen.from ≡ whole.bytes = ap held_or_none whole.opens.from in
    let released : List ℕ = content (judged_under whole.answer whole.bytes) in
    inr (inr (record {
      answer = whole.answer;
      answered = subst (λ (l : List ℕ). HasAnswer manager no_limits given l seen.served whole.answer) (sym from) whole.opens.answered;
      count = length released;
      front = whole.opens.to ∙ ap (λ (l : List ℕ). Some l) (sym (take_all (length released) released (omega arith))
          ∙ ap (λ (l : List ℕ). take (length released) (content (judged_under whole.answer l))) (sym from));
    }))

works_unplaced : (manager : Saying) (work : Work) (seen : Seen) (end : JobEnd) → WorksSo manager work seen end → WorksSo manager work seen (unplaced_end end)
works_unplaced manager (Encrypt length frame context required) seen ends.Done works =
    seals_unplaced manager (record { declared = length; frame = frame; context = context; required = required }) seen works
works_unplaced manager (Decrypt given required) seen ends.Done works = (works.0, opens_unplaced manager given seen works.1)
works_unplaced manager work seen (ends.Refusal refusal) works = works
works_unplaced manager work seen (ends.Fault fault) works = works
works_unplaced manager work seen (ends.Outside outside) works = works

-- ---- its turn

-- what is so of the job's progress, if it is so of the line that a failure leaves
placed_by : (P : Progress → Type 0) (next placed : Progress) (before after : ℕ) → IsPlaced next placed before after → P next
    → ((line : JobLine) → P (stages.Ended line) → P (stages.Ended (unplaced_line line))) → P placed
placed_by P stages.Waiting placed before after is so leaves = subst P (sym is) so
placed_by P (stages.Live now) placed before after is so leaves = subst P (sym is) so
placed_by P (stages.Ended line) placed before after is so leaves = elim is [
  | inl same ↦ subst P (sym same.0) so
  | inr failed ↦ subst P (sym failed.0) (leaves line so)
]

unplaced_turn : (manager : Saying) (job : Job) (old : Progress) (v w : DeskValue) (files left : Option Files) (entropy spent : EntropyState) (line : JobLine)
    → TakesTurn manager job old (stages.Ended line) v w files left entropy spent → TakesTurn manager job old (stages.Ended (unplaced_line line)) v w files left entropy spent
unplaced_turn manager job old v w files left entropy spent line turn = record {
  more = turn.more;
  drawn = turn.drawn;
  sessions = turn.sessions;
  rest = turn.rest;
  last = turn.last;
  next = turn.next;
  gained = turn.gained;
  journal = turn.journal;
  others = turn.others;
  has = tt;
  stands = λ before now then_held drawn was is from at.
      let ended = turn.stands before now then_held drawn was is from at in
      (ended.0, works_unplaced manager job.work (seen_of job before then_held (drawn ++ turn.more) line) line.end ended.1);
}

pub turn_placed : (manager : Saying) (job : Job) (old next placed : Progress) (v w : DeskValue) (files left then_left : Option Files) (mid after : ShelfState) (entropy spent : EntropyState)
    → PutsInPlace next placed mid after → then_left ≡ left → TakesTurn manager job old next v w files left entropy spent → TakesTurn manager job old placed v w files then_left entropy spent
turn_placed manager job old next placed v w files left then_left mid after entropy spent puts same turn =
    subst (λ (left : Option Files). TakesTurn manager job old placed v w files left entropy spent) (sym same)
    (placed_by (λ (p : Progress). TakesTurn manager job old p v w files left entropy spent) next placed mid.faults after.faults puts.line turn
    (unplaced_turn manager job old v w files left entropy spent))

unplaced_lines : (job : Job) (old : Progress) (v w : DeskValue) (line : JobLine) → AddsLines job old (stages.Ended line) v w → AddsLines job old (stages.Ended (unplaced_line line)) v w
unplaced_lines job old v w line adds = record { knows = tt; gained = adds.gained; journal = adds.journal; lines = adds.lines; served = adds.served }

pub lines_placed : (job : Job) (old next placed : Progress) (v w : DeskValue) (mid after : ShelfState) → PutsInPlace next placed mid after → AddsLines job old next v w → AddsLines job old placed v w
lines_placed job old next placed v w mid after puts adds =
    placed_by (λ (p : Progress). AddsLines job old p v w) next placed mid.faults after.faults puts.line adds (unplaced_lines job old v w)

unplaced_number : (old : Progress) (last drawn : ℕ) (line : JobLine) → is_ended old ≡ false → DrawsNumber old (stages.Ended line) last drawn → DrawsNumber old (stages.Ended (unplaced_line line)) last drawn
unplaced_number stages.Waiting last drawn line running draws = draws
unplaced_number (stages.Live live) last drawn line running draws = draws
unplaced_number (stages.Ended other) last drawn line running draws = absurd cc

pub number_placed : (old known next placed : Progress) (last drawn : ℕ) (mid after : ShelfState) → old ≡ known → is_ended known ≡ false → PutsInPlace next placed mid after
    → DrawsNumber known next last drawn → DrawsNumber old placed last drawn
number_placed old known next placed last drawn mid after is running puts draws =
    subst (λ (o : Progress). DrawsNumber o placed last drawn) (sym is)
    (placed_by (λ (p : Progress). DrawsNumber known p last drawn) next placed mid.faults after.faults puts.line draws (λ line. unplaced_number known last drawn line running))

pub kind_placed : (work : Work) (next placed : Progress) (mid after : ShelfState) → PutsInPlace next placed mid after → HasKind work next → HasKind work placed
kind_placed work next placed mid after puts kind = placed_by (λ (p : Progress). HasKind work p) next placed mid.faults after.faults puts.line kind (λ line is. is)

pub turns_placed : (next placed : Progress) (mid after : ShelfState) → PutsInPlace next placed mid after → turns_left placed ≡ turns_left next
turns_placed next placed mid after puts = placed_by (λ (p : Progress). turns_left p ≡ turns_left next) next placed mid.faults after.faults puts.line refl (λ line is. is)

-- a first turn leaves fewer
pub turns_first : (next : Progress) (last drawn : ℕ) → DrawsNumber stages.Waiting next last drawn → turns_left next < turns_left stages.Waiting
turns_first stages.Waiting last drawn draws = absurd draws
turns_first (stages.Live live) last drawn draws = omega arith
turns_first (stages.Ended line) last drawn draws = omega arith

pub kept_placed : (files : Option Files) (next placed : Progress) (mid after : ShelfState) (to : List ℕ) → PutsInPlace next placed mid after → KeepsOthers files mid.files to → KeepsOthers files after.files to
kept_placed files next placed mid after to puts kept = subst (λ (left : Option Files). KeepsOthers files left to) (sym puts.files) kept

-- ---- what was counted

entropy_same : (end : JobEnd) → entropy_fails (unplaced_end end) ≡ entropy_fails end
entropy_same ends.Done = refl
entropy_same (ends.Refusal refusal) = refl
entropy_same (ends.Fault fault) = refl
entropy_same (ends.Outside outside) = refl

keyring_same : (end : JobEnd) → keyring_fails (unplaced_end end) ≡ keyring_fails end
keyring_same ends.Done = refl
keyring_same (ends.Refusal refusal) = refl
keyring_same (ends.Fault fault) = refl
keyring_same (ends.Outside outside) = refl

rose_later : (n before mid now : ℕ) → RoseBy n before mid → mid ≤ now → RoseBy n before now
rose_later n before mid now rose later = omega (arith, rose, later)

missing_rose : (missing : Bool) (before mid now : ℕ) → RoseBy (if missing then 0 else 0) before mid → Rose mid now → RoseBy (if missing then 0 else 1) before now
missing_rose true before mid now rose failed = omega (arith, rose, failed)
missing_rose false before mid now rose failed = omega (arith, rose, failed)

shelf_rose : (files : Option Files) (job : Job) (end : JobEnd) (before mid now : ℕ) → RoseBy (shelf_fails_of files job end) before mid → mid ≤ now → Rose mid now
    → RoseBy (shelf_fails_of files job (unplaced_end end)) before now
shelf_rose files job ends.Done before mid now rose later failed = missing_rose (is_missing files job.from) before mid now rose failed
shelf_rose files job (ends.Refusal refusal) before mid now rose later failed = rose_later (shelf_fails_of files job (ends.Refusal refusal)) before mid now rose later
shelf_rose files job (ends.Fault fault) before mid now rose later failed = rose_later (shelf_fails_of files job (ends.Fault fault)) before mid now rose later
shelf_rose files job (ends.Outside outside) before mid now rose later failed = rose_later (shelf_fails_of files job (ends.Outside outside)) before mid now rose later

module _ (job : Job) (before : Tally) (mid after : ShelfState) (entropy keyring : ℕ) where
  same_counts : (next : Progress) → after.files ≡ mid.files → mid.faults ≤ after.faults → TurnCounts job next before (tally_of mid entropy keyring)
      → TurnCounts job next before (tally_of after entropy keyring)
  same_counts next same later counts = record {
    has = subst (λ (files : Option Files). HasFile files job next) (sym same) counts.has;
    entropy = counts.entropy;
    keyring = counts.keyring;
    shelf = rose_later (fails_by (shelf_fails_of before.files job) next) before.shelf mid.faults after.faults counts.shelf later;
  }

  unplaced_counts : (line : JobLine) → mid.faults ≤ after.faults → Rose mid.faults after.faults → TurnCounts job (stages.Ended line) before (tally_of mid entropy keyring)
      → TurnCounts job (stages.Ended (unplaced_line line)) before (tally_of after entropy keyring)
  unplaced_counts line later failed counts = record {
    has = tt;
    entropy = subst (λ (n : ℕ). RoseBy n before.entropy entropy) (sym (entropy_same line.end)) counts.entropy;
    keyring = subst (λ (n : ℕ). RoseBy n before.keyring keyring) (sym (keyring_same line.end)) counts.keyring;
    shelf = shelf_rose before.files job line.end before.shelf mid.faults after.faults counts.shelf later failed;
  }

  -- by what became of the file; the shelf failed once more where its job isn't done for that
  counts_by : (next placed : Progress) → after.files ≡ mid.files → mid.faults ≤ after.faults → IsPlaced next placed mid.faults after.faults
      → TurnCounts job next before (tally_of mid entropy keyring) → TurnCounts job placed before (tally_of after entropy keyring)
  counts_by stages.Waiting placed same later is counts =
      subst (λ (p : Progress). TurnCounts job p before (tally_of after entropy keyring)) (sym is) (same_counts stages.Waiting same later counts)
  counts_by (stages.Live now) placed same later is counts =
      subst (λ (p : Progress). TurnCounts job p before (tally_of after entropy keyring)) (sym is) (same_counts (stages.Live now) same later counts)
  counts_by (stages.Ended line) placed same later is counts = elim is [
    | inl stays ↦ subst (λ (p : Progress). TurnCounts job p before (tally_of after entropy keyring)) (sym stays.0) (same_counts (stages.Ended line) same later counts)
    | inr failed ↦ subst (λ (p : Progress). TurnCounts job p before (tally_of after entropy keyring)) (sym failed.0) (unplaced_counts line later failed.1 counts)
  ]

  pub counts_placed : (next placed : Progress) → PutsInPlace next placed mid after → TurnCounts job next before (tally_of mid entropy keyring) → TurnCounts job placed before (tally_of after entropy keyring)
  counts_placed next placed puts counts = counts_by next placed puts.files puts.later puts.line counts
