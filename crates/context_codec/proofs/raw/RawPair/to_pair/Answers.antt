use Rattle.std.proofs.Common.{rules}
use Rattle.context_codec.proofs.Utf8Pairs.{no_key, no_value, both}
use Rattle.context_codec.proofs.raw.RawPair.to_pair.Goals as goal

pub returns-in_default : goal.returns-in_default
returns-in_default c = rw (← c.self.view_is) (no_key c.self.inside.key.now c.self.inside.value.now c.in_default.ensures.cases.0)

pub returns-in_default-from_utf8 : goal.returns-in_default-from_utf8
returns-in_default-from_utf8 c = rw (← c.self.view_is) (no_value c.self.inside.key.now c.self.inside.value.now c.in_default-from_utf8.ensures.cases.0)

pub returns : goal.returns
returns c =
    rw (← c.self.view_is) (both c.self.inside.key.now c.self.inside.value.now c.new-pair.result c.in-Ok.ensures.cases.1 c.in-Ok-from_utf8.ensures.cases.1 (search rules))
