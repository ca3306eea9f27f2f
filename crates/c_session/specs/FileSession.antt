-- A session over the tree of a keyring file, and what its calls come to.
use Rattle.std.specs.Prelude.{◌≡◌, ℕ, ◌+◌, ◌*◌, List, [], Option, Some, None, Ok, Err}
use Rattle.std.specs.Prelude.{slice_get}
use Rattle.context_codec.specs.Context.{KeyValue}
use Rattle.c_session.specs.declared.answer.Answer.{Answer}
use Rattle.c_session.specs.declared.answer.Answer.TheVariants as answers
use Rattle.c_session.specs.declared.file_session.Kept.{Kept}
use Rattle.c_session.specs.declared.file_session.Kept.TheVariants as kepts
use Rattle.c_session.specs.declared.reason.Reason.{Reason}
use Rattle.c_session.specs.declared.session.Session.{Session}
use Rattle.c_session.specs.FileTree.{ReadsTree, Tree, file_state}
use Rattle.c_session.specs.Reason.{code_of_reason}
use Rattle.c_session.specs.Session.{HandsOutOf, IsFresh, MachineTellsContext}

-- The bytes mean this tree, and the session over it is set up; or they are refused, and it has
-- ended.
abbrev pub SessionReadsFile : List ℕ → Kept → Type 0
SessionReadsFile bytes (kepts.Read s) = IsFresh s × ReadsTree bytes (Ok s.manager.0)
SessionReadsFile bytes (kepts.Refused reason) = ReadsTree bytes (Err reason)

-- The call came to this, of a session whose file was read; any other has ended, and stays as it is.
abbrev pub KeepsRead : Kept → Kept → Answer → (Session Tree → Session Tree → Type 0) → Type 0
KeepsRead (kepts.Refused reason) new answer call =
    (answer ≡ answers.Ended) × (new ≡ kepts.Refused reason)
KeepsRead (kepts.Read old) new answer call =
    (s : Session Tree) × (new ≡ kepts.Read s) × call old s

-- The session is set up anew over the same tree.
abbrev pub Again : Kept → Kept → Answer → Type 0
Again old new answer = KeepsRead old new answer (λ before after.
    (answer ≡ answers.Done) × IsFresh after × (after.manager.0 ≡ before.manager.0))

-- what waits; where no file was read, nothing
abbrev pub waiting_in : Kept → List ℕ
waiting_in (kepts.Refused reason) = []
waiting_in (kepts.Read s) = s.waiting

-- some of it was handed out
abbrev pub TakesKept : Kept → List ℕ → ℕ → Kept → List ℕ → Type 0
TakesKept (kepts.Refused reason) room count new after =
    (count ≡ 0) × (new ≡ kepts.Refused reason) × (after ≡ room)
TakesKept (kepts.Read old) room count new after =
    (s : Session Tree) × (new ≡ kepts.Read s) × HandsOutOf file_state old room count s after

-- why it ended, where it was an error
abbrev pub reason_kept : Kept → Option Reason
reason_kept (kepts.Refused reason) = Some reason
reason_kept (kepts.Read s) = s.reason

abbrev pub kept_code : Option Reason → ℕ
kept_code (Some reason) = code_of_reason reason
kept_code None = 5000

-- the code of an answer
abbrev pub answer_code : Answer → Option Reason → ℕ
answer_code answers.Done reason = 0
answer_code answers.NotNow reason = 2002
answer_code answers.Ended reason = 2003
answer_code answers.NotText reason = 2004
answer_code answers.BadFrame reason = 2005
answer_code answers.BadRandom reason = 2006
answer_code answers.Failed reason = kept_code reason

-- how many random bytes a message takes; where no file was read, none
abbrev pub drawn_by : Kept → ℕ
drawn_by (kepts.Refused reason) = 0
drawn_by (kepts.Read s) = 64 + 12 * (file_state s.manager.0).meaning.wraps

-- what a new session answers
abbrev pub first_answer : Kept → Answer
first_answer (kepts.Refused reason) = answers.Failed
first_answer (kepts.Read s) = answers.Done

-- ---- the whole context

-- this is the whole context, where a message is opened and its header was unlocked
abbrev pub SessionShowsContext : Kept → Option (List KeyValue) → Type 0
SessionShowsContext (kepts.Refused reason) context = context ≡ None
SessionShowsContext (kepts.Read s) context = MachineTellsContext s.machine context

-- It is told of the whole context.
pub record OfContext (kept : Kept) (tells : Option (List KeyValue) → Type 0) : Type 0 where
  pub context : Option (List KeyValue)
  pub shows : SessionShowsContext kept context
  pub told : tells context

-- the pair of this number, where there is one
abbrev pub pair_at : Option (List KeyValue) → ℕ → Option KeyValue
pair_at None index = None
pair_at (Some pairs) index = slice_get pairs index
