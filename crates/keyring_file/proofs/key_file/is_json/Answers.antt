use Rattle.std.proofs.Common.{◌∙◌, sym, ap}
use Rattle.std.proofs.lemmas.List.{drop_all}
use Rattle.keyring_file.specs.KeyFile.{is_json}
use Rattle.keyring_file.proofs.Blanks.{blank_skipped, first_judged}
use Rattle.keyring_file.proofs.key_file.is_json.Goals as goal

pub returns-then-not-is_blank : goal.returns-then-not-is_blank
returns-then-not-is_blank c = sym (first_judged c.args.bytes.now c.loop-byte.byte-index c.loop-byte-test.true (sym c.if-not-is_blank.ensures)) ∙ c.loop-byte.invariant

pub loop-byte-preserved : goal.loop-byte-preserved
loop-byte-preserved c = blank_skipped c.args.bytes.now c.loop-byte.byte-index c.loop-byte-test.true (sym c.if-not-is_blank.ensures) ∙ c.loop-byte.invariant

pub returns : goal.returns
unfolding is_json
returns c = ap is_json (sym (drop_all c.loop-byte.byte-index c.args.bytes.now c.loop-byte-test.false)) ∙ c.loop-byte.invariant
