use Rattle.std.proofs.Common.{rules, ◌∙◌, List, sym, subst}
use Rattle.std.proofs.lemmas.Result.{err_from_is_err_and}
use Rattle.std.specs.declared.result.Result.{Result}
use Rattle.esdk_fields.specs.declared.refusals.Refusal.{Refusal}
use Rattle.context_codec.specs.Context.{KeyValue}
use Rattle.esdk_run.specs.Pairs.{RefusesPairs}
use Rattle.esdk_run.proofs.Given.{gives_context, inserted_more, refused_more}
use Rattle.esdk_run.proofs.pair_input.context_of.Goals as goal

pub loop-word-preserved : goal.loop-word-preserved
loop-word-preserved c = c.loop-word.invariant ∙ inserted_more c.args.words.now c.loop-word.word-index c.word-item.result c.loop-word.context c.insert_pair.new.context (search rules) c.word-item.is (search rules)

pub returns-clause-context : goal.returns-clause-context
returns-clause-context c = gives_context c.args.words.now c.loop-word.word-index c.loop-word.context c.loop-word.invariant (search rules) c.pairs-pairs.ensures.context

pub returns-in_err-insert_pair-clause-cause : goal.returns-in_err-insert_pair-clause-cause
returns-in_err-insert_pair-clause-cause c =
    let p = err_from_is_err_and c.from_residual.result c.from_residual.ensures.1 in
    let error = c.in_err-insert_pair.field-0.0 in
    rw (p.1, p.2)
    (subst (λ (made : Result (List KeyValue) Refusal). RefusesPairs made error) (sym c.loop-word.invariant)
    (refused_more c.args.words.now c.loop-word.word-index c.word-item.result c.loop-word.context error (search rules) c.word-item.is c.in_err-insert_pair.ensures.cause))
