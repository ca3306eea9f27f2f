use Rattle.std.proofs.Common.{◌∙◌, refl, ap, arith}
use Rattle.armour_core.proofs.Sources.{awaits_more, awaits_none, awaits_same, keeps_more, keeps_none, keeps_same, turns_fall}
use Rattle.armour_core.proofs.Taking.{spent_gives}
use Rattle.armour_core.proofs.source.UnarmouredSource.take_some.Goals as goal

pub loop-self-preserved : goal.loop-self-preserved
loop-self-preserved g c =
    let i = c.loop-self.invariant in
    let before = g.S.Source.state c.args.self.now.text.now in
    let here = g.S.Source.state c.loop-self.self.text.now in
    let now = g.S.Source.state c.take_text.new.input in
    let wants = c.wants_text.ensures.wants c.loop-self-test.true in
    record {
      same = i.same;
      outlook = keeps_more before here now c.args.self.now.reader c.wants_text.new.self c.take_text.new.self (keeps_same before here c.args.self.now.reader c.loop-self.self.reader c.wants_text.new.self i.outlook (λ text. c.wants_text.ensures.outlook text)) c.take_text.ensures.outlook;
      awaits =
          awaits_more before here now c.args.self.now.reader c.wants_text.new.self c.take_text.new.self c.args.self.now.faults c.requires.whole
          (awaits_same before here c.args.self.now.reader c.loop-self.self.reader c.wants_text.new.self c.args.self.now.faults c.requires.whole i.awaits (λ text. c.wants_text.ensures.outlook text) c.wants_text.ensures.pieces c.wants_text.ensures.goes c.wants_text.ensures.whole)
          (spent_gives c.wants_text.new.self wants.0) c.take_text.ensures.takes;
      lasts = g.met.S.Source.lasts_more _ _ _ i.lasts c.take_text.ensures.lasts;
      stays = c.in-Ok.ensures.same ∙ i.stays;
      given = i.given;
      faults = i.faults;
      came = i.came;
      ended = i.ended;
    }

pub loop-self-smaller : goal.loop-self-smaller
loop-self-smaller g c =
    let wants = c.wants_text.ensures.wants c.loop-self-test.true in
    turns_fall c.loop-self.self.reader c.wants_text.new.self c.take_text.new.self (c.wants_text.ensures.goes wants.1) c.wants_text.ensures.pieces
    (omega (arith, c.take_text.ensures.takes.reads.taken, ap (λ p. p.taken) c.wants_text.ensures.pieces)) c.in-Ok.ensures.falls

pub returns-in-Err-clause-awaits : goal.returns-in-Err-clause-awaits
returns-in-Err-clause-awaits g c =
    let i = c.loop-self.invariant in
    let before = g.S.Source.state c.args.self.now.text.now in
    let here = g.S.Source.state c.loop-self.self.text.now in
    let now = g.S.Source.state c.take_text.new.input in
    let wants = c.wants_text.ensures.wants c.loop-self-test.true in
    awaits_more before here now c.args.self.now.reader c.wants_text.new.self c.take_text.new.self c.args.self.now.faults c.requires.whole
    (awaits_same before here c.args.self.now.reader c.loop-self.self.reader c.wants_text.new.self c.args.self.now.faults c.requires.whole i.awaits (λ text. c.wants_text.ensures.outlook text) c.wants_text.ensures.pieces c.wants_text.ensures.goes c.wants_text.ensures.whole)
    (spent_gives c.wants_text.new.self wants.0) c.take_text.ensures.takes

pub returns-clause-awaits : goal.returns-clause-awaits
returns-clause-awaits g c =
    awaits_same (g.S.Source.state c.args.self.now.text.now) (g.S.Source.state c.loop-self.self.text.now) c.args.self.now.reader c.loop-self.self.reader c.wants_text.new.self c.args.self.now.faults c.requires.whole c.loop-self.invariant.awaits
    (λ text. c.wants_text.ensures.outlook text) c.wants_text.ensures.pieces c.wants_text.ensures.goes c.wants_text.ensures.whole

pub loop-self-init : goal.loop-self-init
loop-self-init g c =
    let input = g.S.Source.state c.args.self.now.text.now in
    record {
      same = refl;
      outlook = keeps_none input c.args.self.now.reader;
      awaits = awaits_none input c.args.self.now.reader c.args.self.now.faults;
      lasts = g.met.S.Source.lasts_none c.args.self.now.text.now;
      stays = refl;
      given = refl;
      faults = refl;
      came = refl;
      ended = refl;
    }
