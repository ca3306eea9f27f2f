-- How a message begins that is resealed under the keys of another keyring file.
use Rattle.std.specs.Prelude.{◌≡◌, ◌≢◌, ◌⊎◌, ℕ, ◌+◌, ◌*◌, List, [], length, Some, None, Ok, Err}
use Rattle.header_codec.specs.declared.settings.Settings.{Settings}
use Rattle.c_session.specs.declared.answer.Answer.{Answer}
use Rattle.c_session.specs.declared.answer.Answer.TheVariants as answers
use Rattle.c_session.specs.declared.reason.Reason.TheVariants as reasons
use Rattle.c_session.specs.declared.session.Session.{Session}
use Rattle.c_session.specs.FileTree.{ReadsTree, Tree, file_state}
use Rattle.c_session.specs.Session.{ResealsNow, Stopped, setting_answer, with_its_keys}

-- The file means a tree, of which this is so.
abbrev pub OfTree : List ℕ → (Tree → Type 0) → Type 0
OfTree file so = (tree : Tree) × ReadsTree file (Ok tree) × so tree

-- A message is resealed from now on: opened by the session's manager, with the session's pairs, of
-- which its required keys are required, and sealed under the file's keys.
abbrev pub BeginsResealing : Session Tree → Session Tree → List ℕ → ℕ → Settings → List ℕ → Answer
    → Type 0
BeginsResealing old new file size settings random answers.Done = (setting_answer old ≡ None)
    × OfTree file (λ tree. ResealsNow file_state new (record {
      settings = settings;
      pairs = old.pairs;
      size = size;
      random = random;
    }) (with_its_keys old) tree [] [])
BeginsResealing old new file size settings random answers.Failed = (setting_answer old ≡ None)
    × Stopped new (λ reason. ReadsTree file (Err reason) ⊎ (reason ≡ reasons.Memory))
BeginsResealing old new file size settings random answers.BadFrame = (setting_answer old ≡ None)
    × (size ≡ 0) × (new ≡ old)
BeginsResealing old new file size settings random answers.BadRandom = (setting_answer old ≡ None)
    × OfTree file (λ tree. length random ≢ 64 + 12 * (file_state tree).meaning.wraps) × (new ≡ old)
BeginsResealing old new file size settings random answer =
    (setting_answer old ≡ Some answer) × (new ≡ old)
