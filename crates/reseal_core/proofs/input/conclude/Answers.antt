use Rattle.std.proofs.Common.{◌≡◌, sym}
use Rattle.reseal_core.proofs.Sessions.{concludes_ok, no_none}
use Rattle.reseal_core.proofs.input.conclude.Goals as goal

pub returns-in-Err : goal.returns-in-Err
returns-in-Err g c = λ v stands going. c.in-Err.ensures.ends v stands going

pub unreachable-requires : goal.unreachable-requires
unreachable-requires g c =
    let u = c.requires in
    no_none u.session _ _ (c.finish_at.new.output ≡ c.args.output.now) (c.in_default.ensures.ends u.session u.stands u.going).1 (sym (c.in-None.ensures _ (c.in_default.ensures.stands u.session u.stands u.going)))

pub returns : goal.returns
returns g c = λ v stands going.
    let finished = c.in_default.ensures.ends v stands going in
    rw finished.0 (concludes_ok v _ _ (c.finish_at.new.output ≡ c.args.output.now) c.in-Some.context finished.1 (sym (c.in-Some.ensures _ (c.in_default.ensures.stands v stands going))))
