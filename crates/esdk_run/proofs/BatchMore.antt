-- What a batch comes to over one manager, it comes to over another that may say as much.
use Rattle.std.proofs.Common.{◌≡◌, ◌⊎◌, ◌∙◌, ℕ, List, [], ◌∷◌, Option, inl, inr, ap}
use Rattle.esdk_base.specs.Shelf.{Files}
use Rattle.esdk_base.specs.Streams.{EntropyState}
use Rattle.esdk_fields.specs.declared.refusals.Outside.TheVariants as outsides
use Rattle.esdk_fields.specs.declared.refusals.Refusal.{Refusal}
use Rattle.esdk_fields.specs.declared.refusals.Refusal.TheVariants as refusals
use Rattle.esdk_fields.specs.Place.{start}
use Rattle.esdk_fields.specs.Reading.{Reading, Read, Refused, Wanting}
use Rattle.context_codec.specs.Context.{KeyValue}
use Rattle.header_codec.specs.Table.{HeaderFields, header}
use Rattle.header_codec.specs.Header.{no_limits}
use Rattle.keyring_trait.specs.declared.journal.JournalLine.{JournalLine}
use Rattle.keyring_trait.specs.declared.manager_errors.ManagerError.{ManagerError}
use Rattle.keyring_trait.specs.declared.manager_errors.ManagerError.TheVariants as managers
use Rattle.keyring_trait.specs.declared.served.Served.{Served}
use Rattle.keyring_trait.specs.Materials.{EncMaterialsValue}
use Rattle.keyring_trait.specs.Requests.{DecRequestValue}
use Rattle.keyring_trait.specs.Saying.{Admits, Saying}
use Rattle.keyring_trait.specs.Unlocking.{Unlocking, Refuses, Unlocks}
use Rattle.esdk_encrypt.specs.Encrypt.{drawn_count}
use Rattle.esdk_decrypt.specs.Decrypt.{Answering, AnswersReading, AnswersRequest, AnswersTo, FailsReading, answers_at}
use Rattle.esdk_decrypt.proofs.Told.{Allows}
use Rattle.job_file.specs.declared.job.Job.{Job}
use Rattle.job_file.specs.declared.job.Work.{Work}
use Rattle.job_file.specs.declared.job.Work.TheVariants as works
use Rattle.job_file.specs.JobFile.{JobFile}
use Rattle.batch_report.specs.declared.job_lines.JobLine.{JobLine}
use Rattle.batch_report.specs.declared.job_lines.JobEnd.{JobEnd}
use Rattle.batch_report.specs.declared.job_lines.JobEnd.TheVariants as ends
use Rattle.esdk_batch.specs.Answering.{HasAnswer, HasFailed, serving}
use Rattle.esdk_batch.specs.SealStory as seals
use Rattle.esdk_batch.specs.SealStory.{Seen, SealAsked, SealsSo, held_or_none}
use Rattle.esdk_batch.specs.OpenStory as opens
use Rattle.esdk_batch.specs.OpenStory.{OpensSo}
use Rattle.esdk_batch.specs.Batch.{AllCome, RunsBatch, WorksSo, seen_of}

-- ---- an answer to a header

request_more : (from to : Answering) (request : DecRequestValue) (answer : Unlocking) → Allows from to → AnswersRequest from request answer → AnswersRequest to request answer
request_more from to request (Unlocks whole only key) allows answers =
    (answers.0, allows.finds request (record { context = whole; only = only; key = key; served = answers.0 }) answers.1)
request_more from to request (Refuses fault) allows answers = allows.finds_none request (managers.Fault fault) answers

reading_more : (from to : Answering) (given : List KeyValue) (b : List ℕ) (r : Reading HeaderFields) (answer : Unlocking) → Allows from to
    → AnswersReading from given b r answer → AnswersReading to given b r answer
reading_more from to given b (Read parts body) answer allows answers = request_more from to _ answer allows answers
reading_more from to given b (Refused fault at) answer allows is = is
reading_more from to given b Wanting answer allows is = is

failing_more : (from to : Answering) (given : List KeyValue) (b : List ℕ) (r : Reading HeaderFields) → Allows from to → FailsReading from given b r → FailsReading to given b r
failing_more from to given b (Read parts body) allows fails = allows.finds_none _ managers.KeyringFault fails
failing_more from to given b (Refused fault at) allows none = none
failing_more from to given b Wanting allows none = none

answered_more : (from to : Answering) (given : List KeyValue) (b : List ℕ) (answer : Unlocking) → Allows from to
    → AnswersTo from no_limits given b answer → AnswersTo to no_limits given b answer
answered_more from to given b answer allows answers = reading_more from to given b (header no_limits (start b)) answer allows answers

-- what the one answers at a moment, with materials that are served so, the other may answer then
serving_allows : (from to : Saying) (served : Option Served) (moment : ℕ) → Admits to from → Allows (answers_at (serving from served) moment) (answers_at (serving to served) moment)
serving_allows from to served moment admits = record {
  finds = λ request m finds. (admits.finds request moment m finds.0, finds.1);
  finds_none = admits.finds_none;
}

has_answer_more : (from to : Saying) (given : List KeyValue) (b : List ℕ) (served : Option Served) (answer : Unlocking) → Admits to from
    → HasAnswer from no_limits given b served answer → HasAnswer to no_limits given b served answer
has_answer_more from to given b served answer admits has = record {
  moment = has.moment;
  answered = answered_more _ _ given b answer (serving_allows from to served has.moment admits) has.answered;
  unserved = has.unserved;
}

answers_allow : (from to : Saying) (moment : ℕ) → Admits to from → Allows (answers_at from moment) (answers_at to moment)
answers_allow from to moment admits = record { finds = λ request m finds. admits.finds request moment m finds; finds_none = admits.finds_none }

has_failed_more : (from to : Saying) (given : List KeyValue) (b : List ℕ) → Admits to from → HasFailed from no_limits given b → HasFailed to no_limits given b
has_failed_more from to given b admits has =
    record { moment = has.moment; failed = failing_more _ _ given b (header no_limits (start b)) (answers_allow from to has.moment admits) has.failed }

-- ---- an encrypt job

module _ (from to : Saying) (admits : Admits to from) (asked : SealAsked) (seen : Seen) where
  given_more : (m : EncMaterialsValue) → seals.JobIsGiven from asked seen m → seals.JobIsGiven to asked seen m
  given_more m is = record { count = is.count ∙ ap drawn_count admits.wraps; moment = is.moment; given = admits.gives _ is.moment _ m is.given; served = is.served }

  sealed_front : seals.SealsFront from asked seen → seals.SealsFront to asked seen
  sealed_front is = record { materials = is.materials; given = given_more is.materials is.given; begins = is.begins; count = is.count; front = is.front }

  sealed_whole : seals.SealsWhole from asked seen → seals.SealsWhole to asked seen
  sealed_whole is =
      record { materials = is.materials; text = is.text; given = given_more is.materials is.given; begins = is.begins; from = is.from; short = is.short; to = is.to }

  too_much : (refusal : Refusal) → seals.SealsTooMuch from asked seen refusal → seals.SealsTooMuch to asked seen refusal
  too_much refusal is = record {
    materials = is.materials;
    given = given_more is.materials is.given;
    begins = is.begins;
    text = is.text;
    from = is.from;
    over = is.over;
    cause = is.cause;
    to = is.to;
  }

  none_given : (error : ManagerError) → seals.IsGivenNone from asked seen error → seals.IsGivenNone to asked seen error
  none_given error is = record { count = is.count ∙ ap drawn_count admits.wraps; cause = admits.gives_none _ error is.cause; unserved = is.unserved; same = is.same }

  left_more : (seen.to ≡ seen.before) ⊎ seals.SealsFront from asked seen → (seen.to ≡ seen.before) ⊎ seals.SealsFront to asked seen
  left_more (inl same) = inl same
  left_more (inr front) = inr (sealed_front front)

  shelf_failed : seals.ShelfFails from asked seen → seals.ShelfFails to asked seen
  shelf_failed is = record { materials = is.materials; given = given_more is.materials is.given; left = left_more is.left }

  seals_more : (end : JobEnd) → SealsSo from asked seen end → SealsSo to asked seen end
  seals_more ends.Done so = sealed_whole so
  seals_more (ends.Refusal (refusals.OverDeclared n)) so = too_much (refusals.OverDeclared n) so
  seals_more (ends.Refusal refusals.TooManyFrames) so = too_much refusals.TooManyFrames so
  seals_more (ends.Refusal (refusals.TooManyDataKeys n)) so = absurd so
  seals_more (ends.Refusal (refusals.HeaderTooLong n)) so = absurd so
  seals_more (ends.Refusal refusal) so = none_given (managers.Refusal refusal) so
  seals_more (ends.Outside outsides.EntropyFault) so = so
  seals_more (ends.Outside outsides.KeyringFault) so = none_given managers.KeyringFault so
  seals_more (ends.Outside outsides.ShelfFault) so = shelf_failed so
  seals_more (ends.Outside outsides.InputTooLong) so = record { front = sealed_front so.front; long = so.long }
  seals_more (ends.Outside outside) so = absurd so
  seals_more (ends.Fault fault) so = absurd so

-- ---- a decrypt job

module _ (from to : Saying) (admits : Admits to from) (given : List KeyValue) (seen : Seen) where
  opened_front : opens.OpensFront from given seen → opens.OpensFront to given seen
  opened_front is = record {
    answer = is.answer;
    answered = has_answer_more from to given (held_or_none seen.from) seen.served is.answer admits is.answered;
    count = is.count;
    front = is.front;
  }

  front_left : opens.OpenJobLeavesFront from given seen → opens.OpenJobLeavesFront to given seen
  front_left (inl nothing) = inl nothing
  front_left (inr front) = inr (opened_front front)

  opened_more : (bytes : List ℕ) (answer : Unlocking) → opens.JobOpens from given seen bytes answer → opens.JobOpens to given seen bytes answer
  opened_more bytes answer is =
      record { from = is.from; answered = has_answer_more from to given bytes seen.served answer admits is.answered; to = is.to }

  opens_more : (end : JobEnd) → OpensSo from given seen end → OpensSo to given seen end
  opens_more ends.Done so = record { bytes = so.bytes; answer = so.answer; opens = opened_more so.bytes so.answer so.opens; whole = so.whole }
  opens_more (ends.Fault fault) so = record { bytes = so.bytes; answer = so.answer; opens = opened_more so.bytes so.answer so.opens; cause = so.cause }
  opens_more (ends.Outside outsides.KeyringFault) so = record {
    bytes = so.bytes;
    from = so.from;
    failed = has_failed_more from to given so.bytes admits so.failed;
    unserved = so.unserved;
    to = so.to;
  }
  opens_more (ends.Outside outsides.ShelfFault) (inl same) = inl same
  opens_more (ends.Outside outsides.ShelfFault) (inr front) = inr (front_left front)
  opens_more (ends.Outside outsides.InputTooLong) so = record { front = front_left so.front; long = so.long }
  opens_more (ends.Outside outside) so = absurd so
  opens_more (ends.Refusal refusal) so = absurd so

-- ---- all jobs

works_more : (from to : Saying) (work : Work) (seen : Seen) (end : JobEnd) → Admits to from → WorksSo from work seen end → WorksSo to work seen end
works_more from to (works.Encrypt length frame context required) seen end admits so =
    seals_more from to admits (record { declared = length; frame = frame; context = context; required = required }) seen end so
works_more from to (works.Decrypt given required) seen end admits so = (so.0, opens_more from to admits given seen end so.1)

all_come_more : (from to : Saying) (before after : Option Files) (jobs : List Job) (drawn : List (List ℕ)) (lines : List JobLine) → Admits to from
    → AllCome from before after jobs drawn lines → AllCome to before after jobs drawn lines
all_come_more from to before after [] [] [] admits all = all
all_come_more from to before after (job ∷ jobs) (drawn ∷ draws) (line ∷ lines) admits all = (
  record {
    kind = all.0.kind;
    works = λ files left is_before is_after.
        works_more from to job.work (seen_of job files left drawn line) line.end admits (all.0.works files left is_before is_after);
  },
  all_come_more from to before after jobs draws lines admits all.1,
)
all_come_more from to before after jobs drawn lines admits all = absurd all

pub runs_more : {from to : Saying} {file : JobFile} {last : ℕ} {old new : Option Files} {entropy spent : EntropyState} {before after : List JournalLine} {lines : List JobLine}
    → Admits to from → RunsBatch from file last old new entropy spent before after lines → RunsBatch to file last old new entropy spent before after lines
runs_more {from} {to} {file} {old = old} {new = new} {lines = lines} admits runs = record {
  draws = runs.draws;
  gained = runs.gained;
  journal = runs.journal;
  jobs = all_come_more from to old new file.jobs runs.draws lines admits runs.jobs;
  others = runs.others;
  drawn = runs.drawn;
  served = runs.served;
  turns = runs.turns;
}
