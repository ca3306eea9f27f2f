use Rattle.std.proofs.Common.{ap, ◌∙◌}
use Rattle.std.specs.Prelude.{codes, if◌then◌else◌, true}
use Rattle.serde_json.specs.Data.{Members, boolean, string, put}
use Rattle.serde_json.specs.View.{members_view}
use Rattle.keyring_file.proofs.RawMembers.{raw_put}
use Rattle.keyring_file.proofs.nodes.raw_members.Goals as goal

pub returns : goal.returns
returns c =
    raw_put c.args.namespace.now c.args.name.now c.args.key.now c.args.retired (members_view c.put_where.new.members.entries)
    (c.in_ok-put_where.ensures
    ∙ ap (λ (m : Members). if c.args.retired then put (codes "retired") (boolean true) m else m)
    (c.in_ok-put_text-3.ensures
    ∙ ap (put (codes "namespace") (string c.args.namespace.now))
    (c.in_ok-put_text-2.ensures ∙ ap (put (codes "name") (string c.args.name.now)) (c.in_ok-put_text.ensures ∙ ap (λ entries. put (codes "key") (string c.args.key.now) (members_view entries)) c.new-members.ensures.empty))))
