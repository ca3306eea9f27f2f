-- What beginning to reseal comes to, from what the session's call comes to.
use Rattle.std.proofs.Common.{◌≡◌, ℕ, List, None, Ok, inr}
use Rattle.header_codec.specs.declared.settings.Settings.{Settings}
use Rattle.c_session.specs.declared.answer.Answer.{Answer}
use Rattle.c_session.specs.declared.answer.Answer.TheVariants as answers
use Rattle.c_session.specs.declared.session.Session.{Session}
use Rattle.c_session.specs.FileTree.{ReadsTree, Tree, file_state}
use Rattle.c_session.specs.NewKeys.{BeginsResealing}
use Rattle.c_session.specs.Session.{ResealsFrom, setting_answer, with_its_keys}

pub begins_anew : (old new : Session Tree) (file : List ℕ) (tree : Tree) (size : ℕ) (settings : Settings) (random : List ℕ) (answer : Answer) → setting_answer old ≡ None
    → ReadsTree file (Ok tree) → ResealsFrom file_state (with_its_keys old) old.pairs new tree size settings random answer → BeginsResealing old new file size settings random answer
begins_anew old new file tree size settings random answers.Done none reads now = (none, (tree, reads, now))
begins_anew old new file tree size settings random answers.Failed none reads (off, (reason, is, memory)) = (none, (off, (reason, is, inr memory)))
begins_anew old new file tree size settings random answers.NotNow none reads by = absurd by
begins_anew old new file tree size settings random answers.Ended none reads by = absurd by
begins_anew old new file tree size settings random answers.NotText none reads by = absurd by
begins_anew old new file tree size settings random answers.BadFrame none reads by = absurd by
begins_anew old new file tree size settings random answers.BadRandom none reads by = absurd by
