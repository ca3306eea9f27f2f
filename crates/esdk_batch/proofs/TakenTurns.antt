-- A turn of a job: of one whose session is live, and of one that ended.
use Rattle.std.proofs.Common.{◌≡◌, ℕ, List, [], ◌++◌, refl, sym, subst, arith, append-nil}
use Rattle.std.specs.Prelude.{Option, Some}
use Rattle.esdk_base.specs.Shelf.{Files}
use Rattle.esdk_base.specs.Streams.{EntropyState}
use Rattle.desk_core.specs.Session.{SessionValue}
use Rattle.desk_core.specs.Desk.{DeskValue}
use Rattle.job_file.specs.declared.job.Job.{Job}
use Rattle.esdk_batch.specs.declared.progress.Live.{Live}
use Rattle.esdk_batch.specs.declared.progress.Progress.{Progress}
use Rattle.esdk_batch.specs.declared.progress.Progress.TheVariants as stages
use Rattle.keyring_trait.specs.Saying.{Saying}
use Rattle.esdk_batch.specs.Turns.{AddsLines}
use Rattle.esdk_batch.specs.Underway.{FurtherTurn, JobHasSession, IsAt, TakesTurn}
use Rattle.esdk_batch.proofs.Places.{drew_none}
use Rattle.esdk_batch.proofs.Took.{keeps_all}

-- no byte was drawn
drawn_none : (manager : Saying) (job : Job) (before left : Files) (drawn : List ℕ) (live : ℕ → Option SessionValue) (progress : Progress) → IsAt manager job before left drawn live progress
    → IsAt manager job before left (drawn ++ []) live progress
drawn_none manager job before left drawn live progress at = subst (λ (d : List ℕ). IsAt manager job before left d live progress) (sym (append-nil drawn)) at

-- a further turn is a turn that draws no bytes
pub further_taken : (manager : Saying) (job : Job) (live : Live) (next : Progress) (v w : DeskValue) (files left : Option Files) (entropy : EntropyState)
    → FurtherTurn manager job live next v w files left → TakesTurn manager job (stages.Live live) next v w files left entropy entropy
further_taken manager job live next v w files left entropy turn = record {
  more = [];
  drawn = drew_none entropy;
  sessions = λ session lacks low. turn.sessions session (λ same. lacks (sym same));
  rest = turn.rest;
  last = omega (arith, turn.last);
  next = omega (arith, turn.last);
  gained = turn.gained;
  journal = turn.journal;
  others = turn.others;
  has = turn.has;
  stands = λ before now later drawn is then_is from at. drawn_none manager job before later drawn w.live next (turn.stands before now later drawn is then_is from at);
}

same_files : (files : Option Files) (now left : Files) → files ≡ Some now → files ≡ Some left → now ≡ left
same_files files now left is later = cc

-- no turn
pub none_taken : (manager : Saying) (job : Job) (progress : Progress) (v : DeskValue) (files : Option Files) (entropy : EntropyState) → JobHasSession v.live progress
    → TakesTurn manager job progress progress v v files files entropy entropy
none_taken manager job progress v files entropy has = record {
  more = [];
  drawn = drew_none entropy;
  sessions = λ session lacks low. refl;
  rest = λ session. refl;
  last = omega arith;
  next = omega arith;
  gained = [];
  journal = sym (append-nil v.journal);
  others = λ left is. keeps_all files files job.to refl;
  has = has;
  stands = λ before now later drawn is then_is from at.
      drawn_none manager job before later drawn v.live progress (subst (λ (f : Files). IsAt manager job before f drawn v.live progress) (same_files files now later is then_is) at);
}

-- ---- as the code says it

pub turn_as : (manager : Saying) (job : Job) (old known new : Progress) (v w : DeskValue) (files left : Option Files) (entropy spent : EntropyState) → old ≡ known
    → TakesTurn manager job known new v w files left entropy spent → TakesTurn manager job old new v w files left entropy spent
turn_as manager job old known new v w files left entropy spent is turn = subst (λ (p : Progress). TakesTurn manager job p new v w files left entropy spent) (sym is) turn

pub lines_as : (job : Job) (old known new : Progress) (v w : DeskValue) → old ≡ known → AddsLines job known new v w → AddsLines job old new v w
lines_as job old known new v w is lines = subst (λ (p : Progress). AddsLines job p new v w) (sym is) lines
