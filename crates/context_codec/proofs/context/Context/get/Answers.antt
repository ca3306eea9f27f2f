use Rattle.std.proofs.Common.{◌≡◌, rules}
use Rattle.std.specs.Prelude.{option_map}
use Rattle.std.specs.Map.{lookup}
use Rattle.std.specs.Str.{bytes_eq}
use Rattle.context_codec.proofs.Lookups.{absent_iff}
use Rattle.context_codec.proofs.context.Context.get.Goals as goal

pub returns-clause-absent : goal.returns-clause-absent
returns-clause-absent c =
    let value : option_map (λ v. v.now) c.value_of.result ≡ lookup (bytes_eq c.args.key.now) c.args.self.now = search rules in
    absent_iff (λ v. v.now) c.args.key.now c.args.self.now c.value_of.result value
