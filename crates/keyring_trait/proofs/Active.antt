-- The keys that wrap, of those that unwrap.
use Rattle.std.proofs.Common.{◌≡◌, List, ◌++◌}
use Rattle.std.specs.Prelude.{Contains}
use Rattle.std.proofs.lemmas.List.Elements.{filter-append}
use Rattle.context_codec.proofs.Members.{Contains-filter_back}
use Rattle.keyring_trait.specs.Wrapping.{WrapKeyValue, is_active, active}
use Rattle.keyring_trait.specs.Laws.{AreApart}

-- those of two lists, one behind the other
pub active-append : (keys others : List WrapKeyValue) → active (keys ++ others) ≡ active keys ++ active others
active-append keys others = filter-append is_active keys others

-- each of them is one of the keys
pub active_listed : (keys : List WrapKeyValue) (w : WrapKeyValue) → Contains (active keys) w → Contains keys w
active_listed keys w listed = (Contains-filter_back is_active keys w listed).0

-- so they are apart from those that the keys are apart from
pub active_apart : (writers readers : List WrapKeyValue) → AreApart writers readers → AreApart (active writers) readers
active_apart writers readers apart v w wrote read = apart v w (active_listed writers v wrote) read
