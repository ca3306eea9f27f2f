-- What the inner manager answers, where all keys are given; else M13.
use Rattle.std.proofs.Common.{◌≡◌, Some, refl, rules}
use Rattle.std.specs.Prelude.{find, not}
use Rattle.context_codec.specs.Parts.{holds}
use Rattle.cmm_required.proofs.Absent.{all_given}
use Rattle.cmm_required.proofs.Decrypting.{misses, finds_required, finds_none_required}
use Rattle.cmm_required.proofs.Going.{went_required}
use Rattle.cmm_required.proofs.required_cmm.RequiredCmmManager.for_decryption.Goals as goal

pub returns-in-Some-clause-cause : goal.returns-in-Some-clause-cause
returns-in-Some-clause-cause g c =
    misses c.args.self.now.1 (g.M.Manager.state c.args.self.now.0) (g.M.Manager.state c.args.self.now.0) c.args.request.now _ (search rules)

pub returns-clause-went : goal.returns-clause-went
returns-clause-went g c = rw (← c.self.view_is) (went_required _ _ _ c.for_decryption.ensures.went)

pub returns-clause-finds : goal.returns-clause-finds
returns-clause-finds g c = rw (← c.self.view_is) (finds_required _ _ _ _ _ (search rules) c.for_decryption.ensures.finds)

pub returns-clause-cause : goal.returns-clause-cause
returns-clause-cause g c =
    rw (← c.self.view_is)
    (finds_none_required c.self.inside.keys (g.M.Manager.state c.self.inside.inner) (g.M.Manager.state c.for_decryption.new.self) c.args.request.now _ (search rules)
    c.for_decryption.ensures.cause)

pub returns-clause-given : goal.returns-clause-given
returns-clause-given g c = all_given c.args.request.now.given c.args.self.now.1 c.for_decryption.result (search rules)

-- where a key is missing, nothing is found, and nobody was asked
pub returns-in-Some-clause-finds : goal.returns-in-Some-clause-finds
returns-in-Some-clause-finds g c = tt

pub returns-in-Some-clause-found : goal.returns-in-Some-clause-found
returns-in-Some-clause-found g c = tt

pub returns-in-Some-clause-given : goal.returns-in-Some-clause-given
returns-in-Some-clause-given g c = tt

pub returns-in-Some-clause-missing : goal.returns-in-Some-clause-missing
returns-in-Some-clause-missing g c =
    let missing : find (λ key. not (holds c.args.request.now.given key)) c.args.self.now.1 ≡ Some c.in-Some.missing.now = search rules in
    rw missing (search rules)

pub returns-in-Some-clause-unasked : goal.returns-in-Some-clause-unasked
returns-in-Some-clause-unasked g c =
    let missing : find (λ key. not (holds c.args.request.now.given key)) c.args.self.now.1 ≡ Some c.in-Some.missing.now = search rules in
    rw missing refl

pub returns-in-Some-clause-bears : goal.returns-in-Some-clause-bears
returns-in-Some-clause-bears g c = search rules
