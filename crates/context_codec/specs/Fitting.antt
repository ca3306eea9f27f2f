-- Texts whose length two bytes can say.
use Rattle.std.specs.Prelude.{◌≤◌, List, length, All}
use Rattle.context_codec.specs.Context.{KeyValue}

pub record IsSized (p : KeyValue) : Type 0 where
  pub key : length p.0 ≤ 65535
  pub value : length p.1 ≤ 65535

abbrev pub AreSized : List KeyValue → Type 0
AreSized pairs = All IsSized pairs
