use Rattle.std.proofs.Common.{◌≡◌, length, subst, ◌∙◌, arith}
use Rattle.armour_core.specs.Sextets.{AreGroups}
use Rattle.armour_core.proofs.Written.{fewer_groups, symbols_nil}
use Rattle.armour_core.proofs.lines.put_line_bytes.Goals as goal

pub put_bytes-first-requires-clause-front : goal.put_bytes-first-requires-clause-front
put_bytes-first-requires-clause-front c = symbols_nil

pub put_twelve-requires-clause-front : goal.put_twelve-requires-clause-front
put_twelve-requires-clause-front c =
    let long : length c.put_bytes-fourth.new.bytes ≡ length c.args.bytes.now = c.put_bytes-fourth.auto.bytes ∙ c.put_bytes-third.auto.bytes ∙ c.put_bytes-second.auto.bytes ∙ c.put_bytes-first.auto.bytes in
    let all : c.put_bytes-fourth.result ≡ 16 = omega (arith, c.if-fourth-lt16.false, c.put_bytes-fourth.ensures.few) in
    fewer_groups 15 1 c.args.characters.now c.put_bytes-fourth.new.bytes (omega (arith, long, c.requires.room))
    (subst (λ n. AreGroups n c.args.characters.now c.put_bytes-fourth.new.bytes) all c.put_bytes-fourth.ensures.groups)
