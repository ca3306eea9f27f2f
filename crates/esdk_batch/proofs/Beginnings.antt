-- A batch none of whose jobs had a turn yet.
use Rattle.std.proofs.Common.{◌≡◌, ◌≤◌, ◌+◌, ℕ, zero, suc, List, [], ◌∷◌, length, get_or, replicate, refl, sym, ap, subst, ◌∙◌, inl, arith, append-nil}
use Rattle.std.specs.Prelude.{All, Option, Some, zip, filter_map}
use Rattle.std.specs.List.{concat}
use Rattle.std.specs.List.Sorted.{IsPermutation}
use Rattle.std.proofs.lemmas.List.{get_or-replicate, length-replicate}
use Rattle.std.proofs.lemmas.List.Elements.{All-head, All-nil, All-tail}
use Rattle.std.proofs.lemmas.List.Sorted.{IsPermutation-refl}
use Rattle.std.proofs.lemmas.List.Sums.{sum_by-cons}
use Rattle.esdk_base.specs.Shelf.{Files, file_of}
use Rattle.esdk_base.specs.Streams.{EntropyState}
use Rattle.keyring_trait.specs.declared.journal.JournalLine.{JournalLine}
use Rattle.keyring_trait.specs.declared.journal.Kind.TheVariants.{Seal, Unseal}
use Rattle.desk_core.specs.Session.{SessionValue}
use Rattle.desk_core.specs.Desk.{DeskValue}
use Rattle.job_file.specs.declared.job.Job.{Job}
use Rattle.esdk_batch.specs.declared.progress.Progress.{Progress}
use Rattle.esdk_batch.specs.declared.progress.Progress.TheVariants as stages
use Rattle.keyring_trait.specs.Saying.{Saying}
use Rattle.esdk_batch.specs.Batch.{Draws}
use Rattle.esdk_batch.specs.Underway.{JobHasSession, IsAt}
use Rattle.esdk_batch.specs.Turns.{HasKind, Knows, answered_so_far, waits}
use Rattle.esdk_batch.specs.Rounds.{AreAt, HasOwn, HaveSessions, Stand, all_waits}
use Rattle.esdk_batch.proofs.Beside.{rest_waits}
use Rattle.esdk_batch.proofs.Places.{drew_none}

-- ---- lists of jobs that wait

abbrev AllWait : List Progress → Type 0
AllWait progress = All (λ one. one ≡ stages.Waiting) progress

pub count_waits : (progress : List Progress) → AllWait progress → all_waits progress ≡ length progress
count_waits [] wait = refl
count_waits (one ∷ progress) wait =
    let first : waits one ≡ 1 = ap waits (All-head (λ one. one ≡ stages.Waiting) one progress wait) in
    let rest = count_waits progress (All-tail (λ one. one ≡ stages.Waiting) one progress wait) in
    omega (arith, sum_by-cons waits one progress, first, rest)

none_answered : (jobs : List Job) (progress : List Progress) → AllWait progress → filter_map answered_so_far (zip jobs progress) ≡ []
none_answered [] progress wait = refl
none_answered (job ∷ jobs) [] wait = refl
none_answered (job ∷ jobs) (one ∷ progress) wait =
    let first : one ≡ stages.Waiting = All-head (λ one. one ≡ stages.Waiting) one progress wait in
    subst (λ one. filter_map answered_so_far (zip (job ∷ jobs) (one ∷ progress)) ≡ []) (sym first)
    (none_answered jobs progress (All-tail (λ one. one ≡ stages.Waiting) one progress wait))

none_drawn : (count : ℕ) → concat (replicate count []) ≡ []
none_drawn zero = refl
none_drawn (suc count) = none_drawn count

-- ---- the batch

pub sessions_wait : (jobs : List Job) (progress : List Progress) (live : ℕ → Option SessionValue) → AllWait progress → HaveSessions jobs progress live
sessions_wait jobs progress live wait = record {
  sessions = λ k d below. subst (JobHasSession live) (sym (wait k d below)) tt;
  knows = λ k job d below. subst (λ one. Knows (get_or jobs k job).work one live) (sym (wait k d below)) tt;
  own = λ i j d apart first second. subst (λ one. HasOwn one (get_or progress j d)) (sym (wait i d first)) tt;
  order = λ i j d before below waits. wait j d below;
}

all_at : (manager : Saying) (jobs : List Job) (progress : List Progress) (now : Option Files) (live : ℕ → Option SessionValue) → AllWait progress
    → (files left : Files) → now ≡ Some files → now ≡ Some left → AreAt manager jobs files left (replicate (length progress) []) live progress
all_at manager jobs progress now live wait files left was is = λ k job drawn one below.
    let to = (get_or jobs k job).to in
    let same : file_of (Some left) to ≡ file_of (Some files) to = ap (λ f. file_of f to) (sym is ∙ was) in
    subst (λ one. IsAt manager (get_or jobs k job) files left (get_or (replicate (length progress) []) k drawn) live one) (sym (wait k one below))
    (get_or-replicate (length progress) k [] drawn below, same)

pub stand_begins : (manager : Saying) (jobs : List Job) (width : ℕ) (files : Option Files) (entropy : EntropyState) (v : DeskValue) (progress : List Progress) → AllWait progress
    → Stand manager jobs width (record { live = v.live; files = files; entropy = entropy; journal = v.journal; last = v.last }) files entropy v progress
stand_begins manager jobs width files entropy v progress wait = record {
  sessions = sessions_wait jobs progress v.live wait;
  rest = rest_waits progress v.live wait;
  kinds = λ k job one below. subst (HasKind (get_or jobs k job).work) (sym (wait k one below)) tt;
  draws = replicate (length progress) [];
  drawn = record {
    count = length-replicate (length progress) [];
    taken = subst (Draws entropy entropy) (sym (none_drawn (length progress))) (drew_none entropy);
    none = λ k drawn one below waits. get_or-replicate (length progress) k [] drawn below;
  };
  gained = [];
  journal = sym (append-nil v.journal);
  served = subst (λ l. IsPermutation l []) (sym (none_answered jobs progress wait)) (IsPermutation-refl []);
  others = λ left is name none. refl;
  at = λ was left is now. all_at manager jobs progress files v.live wait was left is now;
  later = omega arith;
  sealed = λ stayed. record {
    numbers = ap (λ n. v.last + n) (count_waits progress wait);
    seals = record {
      first = [];
      later = [];
      parts = refl;
      sealed = All-nil (λ (line : JournalLine). line.kind ≡ Seal);
      opened = All-nil (λ (line : JournalLine). line.session ≤ v.last + width → line.kind ≡ Unseal);
    };
    opened = inl refl;
  };
}
