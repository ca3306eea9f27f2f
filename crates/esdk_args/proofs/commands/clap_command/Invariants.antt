use Rattle.std.proofs.Common.{◌≡◌, map, take}
use Rattle.std.specs.Prelude.{fold}
use Rattle.clap.specs.Words.{app_of, with_rule}
use Rattle.esdk_args.specs.Commands.{argument_rule, arguments, bare_app, command_text}
use Rattle.esdk_args.proofs.commands.clap_command.Given as goal

abbrev pub invariant-loop-argument : goal.invariant-loop-argument
invariant-loop-argument l = app_of l.made ≡ fold with_rule (bare_app (command_text l.fn.name)) (map argument_rule (take l.argument-index (arguments l.fn.name)))
