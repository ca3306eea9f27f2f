use Rattle.std.proofs.Common.{◌≤◌, subst, sym}
use Rattle.armour_core.proofs.Whole.{full_line}
use Rattle.armour_core.proofs.lines.put_line.Goals as goal

pub returns : goal.returns
returns c = full_line c.args.bytes.now c.put_line_symbols.new.text c.requires.full (subst (λ n. 77 ≤ n) (sym c.put_line_symbols.auto.text) c.requires.room) c.put_line_symbols.ensures
