use Rattle.std.proofs.Common.{sym, arith}
use Rattle.armour_core.proofs.Written.{fewer, symbols_nil}
use Rattle.armour_core.proofs.lines.put_line_symbols.Goals as goal

pub put_symbols-requires-clause-front : goal.put_symbols-requires-clause-front
put_symbols-requires-clause-front c = sym symbols_nil

pub put_last_symbols-requires-clause-front : goal.put_last_symbols-requires-clause-front
put_last_symbols-requires-clause-front c = fewer c.args.bytes.now c.put_symbols-4.new.text (omega (arith, c.requires.full)) c.put_symbols-4.ensures
