-- The pairs of a context are few, and each is short.
use denote.Ref.{Bor}
use Rattle.std.proofs.Common.{ℕ, List, Option, Some, None, sym, subst}
use Rattle.std.specs.Prelude.{IfSome}
use Rattle.std.specs.Slice.{IsItemAt}
use Rattle.context_codec.specs.Context.{KeyValue}
use Rattle.context_codec.specs.Fitting.{AreSized, IsSized}

pub sized_at : (pairs : List KeyValue) (index : ℕ) (found : Option (Bor KeyValue)) → AreSized pairs
    → IsItemAt pairs index found → IfSome found (λ pair. IsSized pair.now)
sized_at pairs index None all item = tt
sized_at pairs index (Some pair) all item = subst IsSized (sym item.1) (all index pair.now item.3.0)
