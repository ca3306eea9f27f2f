-- A turn of a job that opens: what its session and its file come to.
use Rattle.std.proofs.Common.{◌≡◌, ℕ, ◌+◌, List, [], ◌++◌, length, take, drop, refl, sym, ap, subst, ◌∙◌, arith, append_assoc, append-nil, inl, inr}
use Rattle.std.specs.Prelude.{Option, Some, None}
use Rattle.std.proofs.lemmas.List.{take_all, take-append-drop, length-append}
use Rattle.esdk_fields.specs.declared.faults.Fault.{Fault}
use Rattle.esdk_fields.specs.declared.refusals.Outside.TheVariants as outsides
use Rattle.esdk_base.specs.Shelf.{Files, file_of}
use Rattle.esdk_base.specs.Streams.{most_input}
use Rattle.context_codec.specs.Context.{KeyValue}
use Rattle.header_codec.specs.declared.settings.Settings.{Settings}
use Rattle.header_codec.specs.Header.{no_limits}
use Rattle.keyring_trait.specs.declared.served.Served.{Served}
use Rattle.keyring_trait.specs.Unlocking.{Unlocking}
use Rattle.body_format.specs.declared.verdicts.Verdict.TheVariants.{Faulty}
use Rattle.message_format.specs.Judgement.{Judged, content, judged}
use Rattle.stream_open.specs.Session.{OpeningValue, answer_kept, judged_now}
use Rattle.esdk_decrypt.specs.Decrypt.{answers_at, fault_at_end, fault_of}
use Rattle.desk_core.specs.Session.{SessionValue, Opening}
use Rattle.batch_report.specs.declared.job_lines.JobEnd.{JobEnd}
use Rattle.batch_report.specs.declared.job_lines.JobEnd.TheVariants as ends
use Rattle.esdk_batch.specs.declared.progress.Live.{Live}
use Rattle.esdk_batch.specs.Ending as ending
use Rattle.esdk_batch.specs.Ending.{JobFindsFault, FinishesSo, Judges, JobOpensPiece}
use Rattle.keyring_trait.specs.Saying.{Saying}
use Rattle.esdk_batch.specs.Answering.{HasAnswer, HasFailed}
use Rattle.esdk_batch.specs.OpenStory.{OpenJobFindsFault, OpenJobLeavesFront, OpenJobManagerFails, OpensSo, judged_under}
use Rattle.esdk_batch.specs.SealStory.{Seen, held_or_none}
use Rattle.esdk_batch.specs.Underway.{JobIsOpening, Took}
use Rattle.esdk_batch.proofs.Judging.{answer_for, answered_for, judged_for, kept_with}
use Rattle.esdk_batch.proofs.Judgements.{HasOne, GoesOn, Wants, answers_faulty, content_on, fails_on, fault_is, faulty_on, goes_on}
use Rattle.esdk_batch.proofs.SealingJobs.{seen_with}
use Rattle.esdk_batch.proofs.Took.{TookPiece, front_on, gains_behind, same_behind, whole_front}

-- ---- the judgement

-- An answer of the manager's to the header of these bytes, with materials that were served so; with
-- it the bytes are judged so.
pub record Answered (manager : Saying) (given : List KeyValue) (b : List ℕ) (served : Option Served)
    (j : Judged) : Type 0 where
  pub answer : Unlocking
  pub answered : HasAnswer manager no_limits given b served answer
  pub same : judged b no_limits answer ≡ j

-- the bytes taken are judged by an answer of the manager's
judged_so : (manager : Saying) (given : List KeyValue) (from to : Option (List ℕ)) (live : Live)
    (s : OpeningValue) → JobIsOpening manager given from to live s
    → Answered manager given s.taken live.served (judged_now s)
judged_so manager given from to live s at = record {
  answer = answer_for no_limits s.taken s.answer;
  answered = subst (λ (o : Option Served). HasAnswer manager no_limits given s.taken o
      (answer_for no_limits s.taken s.answer)) (sym at.served)
      (answered_for manager no_limits given s.taken s.served s.answer
      (kept_with manager s no_limits given s.taken at.settings at.pairs at.keeps));
  same = judged_for no_limits s.taken s.answer
      ∙ ap (λ (x : Settings). judged s.taken x (answer_kept s.answer)) (sym at.settings);
}

-- The bytes are judged by this answer of the manager's, and release this beside what was released.
pub record JudgedWith (manager : Saying) (given : List KeyValue) (s : OpeningValue) (b : List ℕ)
    (served : Option Served) (answer : Unlocking) (released : List ℕ) : Type 0 where
  pub answered : HasAnswer manager no_limits given b served answer
  pub content : content (judged_under answer b) ≡ content (judged_now s) ++ released

judged_with : (manager : Saying) (given : List KeyValue) (from old : Option (List ℕ)) (live : Live)
    (s : OpeningValue) (piece to : List ℕ) (files after : Option Files) (served : Option Served)
    (answer : Unlocking) (used count : ℕ) → JobIsOpening manager given from old live s
    → (j : Judges manager s piece to files after served answer used count)
    → JudgedWith manager given s (s.taken ++ take used piece) served answer j.released
judged_with manager given from old live s piece to files after served answer used count at j =
    let b : List ℕ = s.taken ++ take used piece in
    record {
      answered = subst (λ (g : List KeyValue). HasAnswer manager no_limits g b served answer) at.pairs
          (subst (λ (l : Settings). HasAnswer manager l s.given b served answer) at.settings
          (j.answered at.keeps));
      content = subst (λ (l : Settings).
          content (judged b l answer) ≡ content (judged_now s) ++ j.released) at.settings j.content;
    }

-- ---- what is left

leaves_by : (manager : Saying) (given : List KeyValue) (seen : Seen) (b more : List ℕ) (answer : Unlocking) (n : ℕ) → held_or_none seen.from ≡ b ++ more
    → GoesOn manager no_limits given b more seen.served answer → seen.to ≡ Some (take n (content (judged_under answer b))) → OpenJobLeavesFront manager given seen
leaves_by manager given seen b more answer n from (HasOne answers) to =
    let on = content_on no_limits b more answer in
    let front = front_on n (content (judged_under answer b)) on.0 in
    let whole : content (judged_under answer b) ++ on.0 ≡ content (judged_under answer (held_or_none seen.from)) = sym on.1 ∙ ap (λ (l : List ℕ). content (judged_under answer l)) (sym from) in
    inr (record {
      answer = answer;
      answered = subst (λ (l : List ℕ). HasAnswer manager no_limits given l seen.served answer) (sym from) answers;
      count = front.0;
      front = to ∙ ap (λ (l : List ℕ). Some l) (front.1 ∙ ap (take front.0) whole);
    })
leaves_by manager given seen b more answer n from (Wants wants) to =
    let none : content (judged_under answer b) ≡ [] = ap content wants in
    inl (to ∙ ap (λ (l : List ℕ). Some (take n l)) none ∙ ap (λ (l : List ℕ). Some l) (take_all n [] (omega arith)))

-- the file holds nothing, or a front of what all bytes release
leaves_front : (manager : Saying) (given : List KeyValue) (seen : Seen) (b more : List ℕ) (answer : Unlocking) (n : ℕ) → held_or_none seen.from ≡ b ++ more
    → HasAnswer manager no_limits given b seen.served answer → seen.to ≡ Some (take n (content (judged_under answer b))) → OpenJobLeavesFront manager given seen
leaves_front manager given seen b more answer n from answers to =
    leaves_by manager given seen b more answer n from (goes_on manager no_limits given b more seen.served answer answers) to

-- the bytes have a fault, whatever follows
faulty_so : (manager : Saying) (given : List KeyValue) (seen : Seen) (b more : List ℕ) (answer : Unlocking) (fault : Fault) → seen.from ≡ Some (b ++ more)
    → HasAnswer manager no_limits given b seen.served answer → (judged_under answer b).verdict ≡ Faulty fault → seen.to ≡ Some (content (judged_under answer b)) → OpenJobFindsFault manager given seen fault
faulty_so manager given seen b more answer fault from answers faulty to =
    let same : judged_under answer (b ++ more) ≡ judged_under answer b = faulty_on no_limits b more answer fault faulty in
    record {
      bytes = b ++ more;
      answer = answer;
      opens = record {
        from = from;
        answered = answers_faulty manager no_limits given b more seen.served answer fault faulty answers;
        to = to ∙ ap (λ (j : Judged). Some (content j)) (sym same);
      };
      cause = ap (λ (j : Judged). fault_at_end j.verdict) same ∙ ap fault_at_end faulty;
    }

-- ---- how it ends early

-- no piece was read
unread : (manager : Saying) (given : List KeyValue) (from before to : Option (List ℕ)) (drawn : List ℕ) (live : Live) (s : OpeningValue)
    → JobIsOpening manager given from to live s → OpenJobLeavesFront manager given (seen_with from before to drawn live.served)
unread manager given from before to drawn live s at =
    let j = judged_so manager given from to live s at in
    let c : List ℕ = content (judged_under j.answer s.taken) in
    let all : take (length c) c ≡ c = take_all (length c) c (omega arith) in
    leaves_front manager given (seen_with from before to drawn live.served) s.taken (drop live.at (held_or_none from)) j.answer (length c) at.took.front j.answered
    (at.holds ∙ ap (λ (l : List ℕ). Some l) (ap content (sym j.same) ∙ sym all))

pub open_unread : (manager : Saying) (given : List KeyValue) (from before to : Option (List ℕ)) (drawn : List ℕ) (live : Live) (s : OpeningValue)
    → JobIsOpening manager given from to live s → OpensSo manager given (seen_with from before to drawn live.served) (ends.Outside outsides.ShelfFault)
open_unread manager given from before to drawn live s at = inr (unread manager given from before to drawn live s at)

-- too many bytes came
pub open_too_long : (manager : Saying) (given : List KeyValue) (from before to : Option (List ℕ)) (drawn : List ℕ) (live : Live) (s : OpeningValue) → live.at ≡ most_input
    → JobIsOpening manager given from to live s → OpensSo manager given (seen_with from before to drawn live.served) (ends.Outside outsides.InputTooLong)
open_too_long manager given from before to drawn live s most at = record {
  front = unread manager given from before to drawn live s at;
  long = omega (arith, ap length at.took.front, length-append s.taken (drop live.at (held_or_none from)), at.took.count, most);
}

-- ---- a piece

-- the session goes on
pub open_goes : (manager : Saying) (given : List KeyValue) (from : Option (List ℕ)) (live next : Live) (s t : OpeningValue) (piece to : List ℕ) (count : ℕ)
    (files after : Option Files) (now left : Files) → next.at ≡ live.at + count → next.served ≡ t.served → JobIsOpening manager given from (file_of (Some now) to) live s
    → TookPiece s.taken piece live.at count from → files ≡ Some now → after ≡ Some left → JobOpensPiece manager s piece t to files after
    → JobIsOpening manager given from (file_of (Some left) to) next t
open_goes manager given from live next s t piece to count files after now left further served at took is later opens = record {
  settings = opens.feeds.settings ∙ at.settings;
  pairs = opens.feeds.pairs ∙ at.pairs;
  goes = opens.feeds.goes;
  keeps = opens.keeps at.keeps;
  served = served;
  took = subst (λ (b : List ℕ). Took b next.at from) (sym opens.feeds.taken) (subst (λ (n : ℕ). Took (s.taken ++ piece) n from) (sym further) took.took);
  holds = gains_behind files after now left to opens.released (content (judged_now s)) is later opens.gains at.holds ∙ ap (λ (l : List ℕ). Some l) (sym opens.feeds.content);
}

-- The file that is read holds the bytes taken with a front of the piece, and more.
pub record HoldsMore (from : Option (List ℕ)) (b : List ℕ) : Type 0 where
  pub more : List ℕ
  pub from_is : from ≡ Some (b ++ more)

holds_more : (from : Option (List ℕ)) (taken piece : List ℕ) (at count used : ℕ) → TookPiece taken piece at count from → HoldsMore from (taken ++ take used piece)
holds_more from taken piece at count used took =
    let rest : List ℕ = drop (at + count) (held_or_none from) in
    let parts : (taken ++ piece) ++ rest ≡ (taken ++ take used piece) ++ (drop used piece ++ rest) =
    ap (λ (p : List ℕ). (taken ++ p) ++ rest) (sym (take-append-drop used piece)) ∙ ap (λ (l : List ℕ). l ++ rest) (sym (append_assoc taken (take used piece) (drop used piece)))
    ∙ append_assoc (taken ++ take used piece) (drop used piece) rest in
    record {
      more = drop used piece ++ rest;
      from_is = took.there ∙ ap (λ (l : List ℕ). Some l) (sym (ap held_or_none took.there) ∙ took.took.front ∙ parts);
    }

-- a front of what was to be appended
cut_on : (n : ℕ) (bytes out : List ℕ) → (m : ℕ) × (bytes ++ take n out ≡ take m (bytes ++ out))
cut_on n bytes out = (
  length (bytes ++ take n out),
  whole_front (bytes ++ take n out) (drop n out)
      ∙ ap (take (length (bytes ++ take n out))) (append_assoc bytes (take n out) (drop n out) ∙ ap (λ (l : List ℕ). bytes ++ l) (take-append-drop n out)),
)

open_faulty : (manager : Saying) (given : List KeyValue) (from before : Option (List ℕ)) (drawn : List ℕ) (served : Option Served) (live : Live) (s : OpeningValue) (piece to : List ℕ) (count : ℕ)
    (files after : Option Files) (now left : Files) (fault : Fault) → JobIsOpening manager given from (file_of (Some now) to) live s
    → TookPiece s.taken piece live.at count from → files ≡ Some now → after ≡ Some left → JobFindsFault manager s piece to files after served fault
    → OpenJobFindsFault manager given (seen_with from before (file_of (Some left) to) drawn served) fault
open_faulty manager given from before drawn served live s piece to count files after now left fault at took is later finds =
    let j = finds.judges in
    let b : List ℕ = s.taken ++ take finds.used piece in
    let more = holds_more from s.taken piece live.at count finds.used took in
    let with = judged_with manager given from (file_of (Some now) to) live s piece to files after served finds.answer finds.used finds.count at j in
    let verdict : (judged_under finds.answer b).verdict ≡ Faulty fault =
    fault_is (judged_under finds.answer b).verdict fault (subst (λ (l : Settings). fault_of (judged b l finds.answer).verdict ≡ Some fault) at.settings finds.verdict) in
    let all : take finds.count j.released ≡ j.released = take_all finds.count j.released finds.all in
    faulty_so manager given (seen_with from before (file_of (Some left) to) drawn served) b more.more finds.answer fault more.from_is with.answered verdict
    (gains_behind files after now left to (take finds.count j.released) (content (judged_now s)) is later j.gains at.holds
    ∙ ap (λ (l : List ℕ). Some l) (ap (λ (l : List ℕ). content (judged_now s) ++ l) all ∙ sym with.content))

open_cut : (manager : Saying) (given : List KeyValue) (from before : Option (List ℕ)) (drawn : List ℕ) (served : Option Served) (live : Live) (s : OpeningValue) (piece to : List ℕ) (count : ℕ)
    (files after : Option Files) (now left : Files) (answer : Unlocking) (used n : ℕ) → JobIsOpening manager given from (file_of (Some now) to) live s
    → TookPiece s.taken piece live.at count from → files ≡ Some now → after ≡ Some left → Judges manager s piece to files after served answer used n
    → OpenJobLeavesFront manager given (seen_with from before (file_of (Some left) to) drawn served)
open_cut manager given from before drawn served live s piece to count files after now left answer used n at took is later j =
    let b : List ℕ = s.taken ++ take used piece in
    let more = holds_more from s.taken piece live.at count used took in
    let with = judged_with manager given from (file_of (Some now) to) live s piece to files after served answer used n at j in
    let cut = cut_on n (content (judged_now s)) j.released in
    leaves_front manager given (seen_with from before (file_of (Some left) to) drawn served) b more.more answer cut.0 (ap held_or_none more.from_is) with.answered
    (gains_behind files after now left to (take n j.released) (content (judged_now s)) is later j.gains at.holds
    ∙ ap (λ (l : List ℕ). Some l) (cut.1 ∙ ap (take cut.0) (sym with.content)))

open_fails : (manager : Saying) (given : List KeyValue) (from before to after : Option (List ℕ)) (drawn : List ℕ) (served : Option Served) (live : Live) (s : OpeningValue) (piece : List ℕ) (count used : ℕ)
    → served ≡ None → JobIsOpening manager given from to live s → TookPiece s.taken piece live.at count from
    → HasFailed manager s.settings s.given (s.taken ++ take used piece) → after ≡ Some [] → OpenJobManagerFails manager given (seen_with from before after drawn served)
open_fails manager given from before to after drawn served live s piece count used unserved at took fails nothing =
    let b : List ℕ = s.taken ++ take used piece in
    let more = holds_more from s.taken piece live.at count used took in
    let failed : HasFailed manager no_limits given b =
    subst (λ (g : List KeyValue). HasFailed manager no_limits g b) at.pairs
    (subst (λ (l : Settings). HasFailed manager l s.given b) at.settings fails) in
    record {
      bytes = b ++ more.more;
      from = more.from_is;
      failed = record {
        moment = failed.moment;
        failed = fails_on (answers_at manager failed.moment) no_limits given b more.more failed.failed;
      };
      unserved = unserved;
      to = nothing;
    }

-- how a job ends whose piece was fed
pub open_ends : (manager : Saying) (given : List KeyValue) (from before : Option (List ℕ)) (drawn : List ℕ) (served : Option Served) (live : Live) (s : OpeningValue) (piece to : List ℕ) (count : ℕ)
    (session : Option SessionValue) (files after : Option Files) (now left : Files) (end : JobEnd) → (end ≡ ends.Outside outsides.KeyringFault → served ≡ None)
    → JobIsOpening manager given from (file_of (Some now) to) live s → TookPiece s.taken piece live.at count from → files ≡ Some now → after ≡ Some left
    → ending.PieceOpensSo manager s piece session to files after served (Some end) → OpensSo manager given (seen_with from before (file_of (Some left) to) drawn served) end
open_ends manager given from before drawn served live s piece to count session files after now left (ends.Fault fault) unserved at took is later opens =
    open_faulty manager given from before drawn served live s piece to count files after now left fault at took is later opens.1
open_ends manager given from before drawn served live s piece to count session files after now left (ends.Outside outsides.KeyringFault) unserved at took is later opens =
    open_fails manager given from before (file_of (Some now) to) (file_of (Some left) to) drawn served live s piece count opens.1.0 (unserved refl) at took opens.1.1
    (same_behind files after now left to (content (judged_now s)) is later opens.3 at.holds ∙ ap (λ (l : List ℕ). Some l) opens.2)
open_ends manager given from before drawn served live s piece to count session files after now left (ends.Outside outsides.ShelfFault) unserved at took is later opens =
    inr (open_cut manager given from before drawn served live s piece to count files after now left opens.1.0 opens.1.1 opens.1.2 at took is later opens.1.3)
open_ends manager given from before drawn served live s piece to count session files after now left end unserved at took is later opens = absurd opens

-- ---- the end

-- how a job ends whose file's end was seen
pub open_finishes : (manager : Saying) (given : List KeyValue) (from before : Option (List ℕ)) (drawn : List ℕ) (live : Live) (s : OpeningValue) (to : List ℕ)
    (files after : Option Files) (now left : Files) (end : JobEnd) → JobIsOpening manager given from (file_of (Some now) to) live s → from ≡ Some s.taken
    → files ≡ Some now → after ≡ Some left → FinishesSo (Opening s) to files after end → OpensSo manager given (seen_with from before (file_of (Some left) to) drawn live.served) end
open_finishes manager given from before drawn live s to files after now left ends.Done at whole is later (verdict, gains) =
    let j = judged_so manager given from (file_of (Some now) to) live s at in
    record {
      bytes = s.taken;
      answer = j.answer;
      opens = record {
        from = whole;
        answered = j.answered;
        to = gains_behind files after now left to [] (content (judged_now s)) is later gains at.holds
            ∙ ap (λ (l : List ℕ). Some l) (append-nil (content (judged_now s)) ∙ ap content (sym j.same));
      };
      whole = ap (λ (k : Judged). k.verdict) j.same ∙ verdict;
    }
open_finishes manager given from before drawn live s to files after now left (ends.Fault fault) at whole is later (cause, same) =
    let j = judged_so manager given from (file_of (Some now) to) live s at in
    record {
      bytes = s.taken;
      answer = j.answer;
      opens = record {
        from = whole;
        answered = j.answered;
        to = same_behind files after now left to (content (judged_now s)) is later same at.holds ∙ ap (λ (l : List ℕ). Some l) (ap content (sym j.same));
      };
      cause = ap (λ (k : Judged). fault_at_end k.verdict) j.same ∙ cause;
    }
open_finishes manager given from before drawn live s to files after now left end at whole is later none = absurd none
