use Rattle.std.proofs.Common.{◌∙◌, sym, ap, subst, map}
use Rattle.std.specs.Prelude.{Err}
use Rattle.clap.specs.Faults.{fault_of, is_simple_and_free}
use Rattle.clap.specs.Kinds.{HasKind}
use Rattle.clap.specs.Simple.{is_simple, matches_of}
use Rattle.esdk_args.specs.Found.{Parses, refusal_of_error}
use Rattle.esdk_args.proofs.Rows.{refuses}
use Rattle.esdk_args.proofs.Table.{simple, simple_and_free}
use Rattle.esdk_args.proofs.parse.parse.Goals as goal

pub returns-in-Ok : goal.returns-in-Ok
returns-in-Ok c =
    let words = map (λ w. w.now) c.args.words.now in
    let is = c.in_ok-command.ensures in (
      ap (λ a. fault_of a words) (sym is) ∙ c.in-Ok.ensures.kinds (ap is_simple_and_free is ∙ simple_and_free c.args.name),
      (c.in-Ok.ensures.matches (ap is_simple is ∙ simple c.args.name)).0 ∙ ap (λ a. matches_of a words) is,
    )

pub returns-in-Err : goal.returns-in-Err
returns-in-Err c =
    let words = map (λ w. w.now) c.args.words.now in
    let is = c.in_ok-command.ensures in
    let kinds = c.in-Err.ensures.kinds (ap is_simple_and_free is ∙ simple_and_free c.args.name) in
    let has = subst (λ a. HasKind (fault_of a words) c.in-Err.error) is kinds in
    subst (λ f. Parses c.args.name words (Err f)) (ap refusal_of_error (sym c.kind.ensures) ∙ sym c.refusal.ensures) (refuses c.args.name words _ has)
