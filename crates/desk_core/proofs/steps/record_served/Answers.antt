-- The line says how the materials were served.
use Rattle.std.proofs.Common.{◌≡◌, Some, None, sym, ◌∙◌}
use Rattle.std.proofs.lemmas.List.{append-nil}
use Rattle.desk_core.proofs.steps.record_served.Goals as goal

pub returns-in-Ok : goal.returns-in-Ok
returns-in-Ok c = λ v stands.
    let served : v.served ≡ Some c.in-Some.served = sym (c.served.ensures v stands) ∙ c.in-Some.is in
    rw served c.in-Ok.ensures.items

pub returns-in_default : goal.returns-in_default
returns-in_default c = λ v stands.
    let served : v.served ≡ None = sym (c.served.ensures v stands) ∙ c.in_default.is in
    rw served (sym (append-nil c.args.journal.now.items))
