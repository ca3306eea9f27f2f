use Rattle.std.proofs.Common.{◌≡◌, true, [], ap, sym, subst, ◌∙◌}
use Rattle.std.specs.Prelude.{nat_eq}
use Rattle.std.specs.List.{list_all}
use Rattle.std.specs.Str.{is_utf8}
use Rattle.std.specs.Cmp.Lexicographic.{pointwise}
use Rattle.std.proofs.lemmas.List.Filters.{dedup_is}
use Rattle.context_codec.specs.KeySet.{IsKeySet, with_keys}
use Rattle.context_codec.proofs.ManyKeys.{sorted_once, set_of_many}
use Rattle.context_codec.proofs.key_set.KeySet.of.Goals as goal

pub returns : goal.returns
returns c =
    dedup_is (pointwise nat_eq) c.sort_unstable.new.self.items c.dedup.new.self.items c.dedup.ensures.filtered
    ∙ sorted_once c.args.keys.items c.sort_unstable.new.self.items c.sort_unstable.ensures.permutation c.sort_unstable.ensures.sorted

pub invariant_of-result : goal.invariant_of-result
invariant_of-result c =
    let is : c.dedup.new.self.items ≡ with_keys [] c.args.keys.items =
    dedup_is (pointwise nat_eq) c.sort_unstable.new.self.items c.dedup.new.self.items c.dedup.ensures.filtered
    ∙ sorted_once c.args.keys.items c.sort_unstable.new.self.items c.sort_unstable.ensures.permutation c.sort_unstable.ensures.sorted in
    let texts : list_all is_utf8 c.args.keys.items ≡ true = ap (list_all is_utf8) (sym c.deref.ensures.value) ∙ c.are_texts.ensures in
    subst IsKeySet (sym is) (set_of_many c.args.keys.items texts)
