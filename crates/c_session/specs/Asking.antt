-- Which leaves of a session's tree open a message: a question, which begins no message and ends no
-- session.
use Rattle.std.specs.Prelude.{◌≡◌, ◌⊎◌, ℕ, false, List, [], Some, None, Result, Ok, Err}
use Rattle.header_codec.specs.Header.{HeaderValue}
use Rattle.keyring_trait.specs.Keyring.{KeyringGoes}
use Rattle.multi_keyring.specs.Tree.{tree_meaning}
use Rattle.raw_aes_keyring.specs.Keyring.{raw_meaning}
use Rattle.esdk_list.specs.List.{BeginsWithHeader, list_settings}
use Rattle.c_session.specs.declared.answer.Answer.TheVariants as answers
use Rattle.c_session.specs.declared.asking.NoAnswer.{NoAnswer}
use Rattle.c_session.specs.declared.asking.NoAnswer.TheVariants as errors
use Rattle.c_session.specs.declared.file_session.Kept.{Kept}
use Rattle.c_session.specs.declared.file_session.Kept.TheVariants as kepts
use Rattle.c_session.specs.declared.reason.Reason.{Reason}
use Rattle.c_session.specs.declared.session.Session.{Session}
use Rattle.c_session.specs.FileSession.{answer_code}
use Rattle.c_session.specs.FileTree.{AsksTree, Tree}
use Rattle.c_session.specs.Front.{ReadsHeaderFront}
use Rattle.c_session.specs.Reason.{code_of_reason}
use Rattle.c_session.specs.Session.{setting_answer}

-- The leaves of the session's tree were asked about this header, with its pairs as those given. The
-- session stays as it is, but for what its keyrings count: it is set up still.
pub record SessionAsksAbout (old new : Session Tree) (h : HeaderValue)
    (came : Result (List ℕ) Reason)
    : Type 0 where
  pub tree : Tree
  pub asks : AsksTree old.manager.0 tree h old.pairs came
  pub goes : KeyringGoes (tree_meaning raw_meaning old.manager.0) (tree_meaning raw_meaning tree)
  pub same : new ≡ record old { manager = (tree, []) }

-- so they were about the header that the bytes begin with
abbrev pub AsksLeaves : Session Tree → Session Tree → List ℕ → Result (List ℕ) Reason → Type 0
AsksLeaves old new message came =
    (h : HeaderValue) × BeginsWithHeader false h message × SessionAsksAbout old new h came

-- The session is set up, and the leaves were asked; or it isn't, or the bytes begin with no header,
-- and none was.
abbrev pub AsksSession : Session Tree → Session Tree → List ℕ → Result (List ℕ) NoAnswer → Type 0
AsksSession old new message (Ok numbers) =
    (setting_answer old ≡ None) × AsksLeaves old new message (Ok numbers)
AsksSession old new message (Err (errors.Call answer)) =
    (setting_answer old ≡ Some answer) × (new ≡ old)
AsksSession old new message (Err (errors.Reason reason)) = (setting_answer old ≡ None)
    × ((ReadsHeaderFront (list_settings false) message (Err reason) × (new ≡ old))
    ⊎ AsksLeaves old new message (Err reason))

-- So it is of a session whose file was read; any other has ended.
abbrev pub AsksOpeners : Kept → Kept → List ℕ → Result (List ℕ) NoAnswer → Type 0
AsksOpeners (kepts.Refused reason) new message came =
    (came ≡ Err (errors.Call answers.Ended)) × (new ≡ kepts.Refused reason)
AsksOpeners (kepts.Read old) new message came =
    (s : Session Tree) × (new ≡ kepts.Read s) × AsksSession old s message came

-- the code of why there is no answer
abbrev pub no_answer_code : NoAnswer → ℕ
no_answer_code (errors.Call answer) = answer_code answer None
no_answer_code (errors.Reason reason) = code_of_reason reason
