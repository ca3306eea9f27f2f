use Rattle.std.proofs.Common.{rules}
use Rattle.std.proofs.lemmas.Cmp.{nat_list_cmp_total}
use Rattle.std.proofs.lemmas.List.Sorted.{ranks_by, answers_always}
use Rattle.std.proofs.lemmas.Result.{on_ok_weaker}
use Rattle.context_codec.specs.Context.{KeyValue}
use Rattle.context_codec.proofs.read.sort.Goals as goal

pub returns-clause-sorted : goal.returns-clause-sorted
returns-clause-sorted c =
    on_ok_weaker c.sort_by.result (λ s. s _ (ranks_by nat_list_cmp_total (λ (p : KeyValue). p.0)) (answers_always _ _ _ (λ f a r g h. search rules))) c.sort_by.ensures.sorted
