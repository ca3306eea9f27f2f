use Rattle.std.proofs.Common.{◌≡◌, ◌∙◌, ◌+◌, ◌<◌, ℕ, List, get_or, length, map, take, sym, ap, ap₂, arith}
use Rattle.std.specs.Prelude.{fold}
use Rattle.std.proofs.lemmas.List.{map_more}
use Rattle.std.proofs.lemmas.List.Sums.{fold_push}
use Rattle.clap.specs.Simple.{App, with_rule}
use Rattle.esdk_args.specs.declared.commands.Argument.{Argument}
use Rattle.esdk_args.specs.declared.commands.Argument.TheVariants.{Required}
use Rattle.esdk_args.specs.declared.options.NameOption.TheVariants.{Keyring}
use Rattle.esdk_args.specs.declared.options.ValueOption.TheVariants.{Name}
use Rattle.esdk_args.specs.Commands.{argument_rule, arguments, bare_app, command_text}
use Rattle.esdk_args.proofs.commands.clap_command.Goals as goal

-- no argument, behind the last
abbrev none : Argument
none = Required (Name Keyring)

-- one more argument
one_more : (app : App) (given : List Argument) (i : ℕ) → i < length given
    → fold with_rule app (map argument_rule (take (i + 1) given)) ≡ with_rule (fold with_rule app (map argument_rule (take i given))) (argument_rule (get_or given i none))
one_more app given i lt = ap (fold with_rule app) (map_more argument_rule given i none lt) ∙ fold_push with_rule app (map argument_rule (take i given)) (argument_rule (get_or given i none))

pub loop-argument-preserved : goal.loop-argument-preserved
loop-argument-preserved c =
    let given = arguments c.args.name in
    let same = c.arguments-argument-items.ensures in
    let i = c.loop-argument.argument-index in
    let lt : i < length given = omega (arith, ap length same, c.loop-argument-test.true) in
    c.in_ok-made.ensures ∙ ap₂ with_rule c.loop-argument.invariant (c.rule.ensures.rule ∙ ap (λ l. argument_rule (get_or l i none)) same)
    ∙ sym (one_more (bare_app (command_text c.args.name)) given i lt)
