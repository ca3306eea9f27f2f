use Rattle.std.proofs.Common.{rules, ◌≡◌, true, List, ℕ, sym, subst}
use Rattle.std.specs.List.{list_all}
use Rattle.context_codec.specs.Parts.{holds}
use Rattle.job_file.proofs.Held.{one_more_passes, required_is_held}
use Rattle.job_file.proofs.contexts.insert_key.Goals as goal

pub returns-clause-held : goal.returns-clause-held
returns-clause-held c = λ all.
    subst (λ (keys : List (List ℕ)). list_all (holds c.args.context.now) keys ≡ true) (sym c.in_ok-insert.ensures.ok)
    (one_more_passes (holds c.args.context.now) c.args.keys.now c.in-Some.key.now all (required_is_held _ _ c.is_required.result c.is_required.ensures (search rules)))
