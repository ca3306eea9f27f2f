use Rattle.std.proofs.Common.{◌∙◌, arith, refl, rules}
use Rattle.whole_input.specs.FileReadsLaws.{row_none}
use Rattle.keydir_keyring.proofs.Fronts.{front_seen}
use Rattle.keydir_keyring.proofs.KeysRead.{row_ends, row_failed, row_full, row_goes_on, row_starts}
use Rattle.keydir_keyring.proofs.Rows.{fewer_by, front_ends, front_full, row_by}
use Rattle.keydir_keyring.proofs.reading.read_front.Goals as goal

pub returns-then-more-eq0-clause-front : goal.returns-then-more-eq0-clause-front
returns-then-more-eq0-clause-front g c =
    front_seen _ _ c.args.file.now c.loop-count.room c.read_more.new.room c.loop-count.count c.in_ok-more.more c.loop-count.invariant.files c.loop-count.invariant.filled
    c.in_ok-more.ensures.filled c.in_ok-more.ensures.end c.if-more-eq0.true

pub returns-then-more-eq0-clause-read : goal.returns-then-more-eq0-clause-read
returns-then-more-eq0-clause-read g c =
    front_ends _ _ _ c.args.file.now c.loop-count.room c.read_more.new.room c.loop-count.count c.in_ok-more.more c.loop-count.invariant.filled.fits c.loop-count.invariant.read
    c.in_ok-more.ensures.read c.if-more-eq0.true

pub returns-clause-read : goal.returns-clause-read
returns-clause-read g c = front_full _ _ c.args.file.now c.loop-count.room c.loop-count.count c.loop-count-test.false c.loop-count.invariant.read

pub returns-in_err-more-clause-unread : goal.returns-in_err-more-clause-unread
returns-in_err-more-clause-unread g c =
    fewer_by _ _ _ c.args.file.now c.loop-count.room c.loop-count.count _ c.from_residual.result c.loop-count.invariant.filled.fits (omega (arith, c.loop-count-test.true)) c.loop-count.invariant.read
    c.in_err-more.ensures.read

pub returns-then-more-eq0-clause-shown : goal.returns-then-more-eq0-clause-shown
returns-then-more-eq0-clause-shown g c =
    row_ends _ _ _ c.args.file.now c.loop-count.room c.read_more.new.room c.loop-count.count c.in_ok-more.more c.loop-count.invariant.filled.fits c.loop-count.invariant.shown
    c.in_ok-more.ensures.read c.if-more-eq0.true (omega (arith, c.loop-count-test.true, c.read_more.auto.room))

pub returns-clause-shown : goal.returns-clause-shown
returns-clause-shown g c = row_full _ _ c.args.file.now c.loop-count.room c.loop-count.count c.loop-count-test.false c.loop-count.invariant.shown

pub returns-in_err-more-clause-shown : goal.returns-in_err-more-clause-shown
returns-in_err-more-clause-shown g c =
    row_failed _ _ _ c.args.file.now c.loop-count.room _ c.loop-count.count c.from_residual.result c.in_err-more.field-0.0 c.loop-count.invariant.shown c.in_err-more.ensures.read (search rules)

pub loop-count-init : goal.loop-count-init
loop-count-init g c = record {
  filled = record { fits = omega arith; front = λ _ _. refl };
  read = row_none c.args.file.now 0 (g.S.Shelf.state c.args.shelf.now).calls;
  shown = row_starts _ _ _;
  there = λ _. refl;
  given = omega arith;
  most = omega arith;
  files = refl;
  faults = refl;
}

pub loop-count-preserved : goal.loop-count-preserved
loop-count-preserved g c = record {
  filled = search rules;
  read =
      row_by _ _ _ c.args.file.now c.loop-count.room c.read_more.new.room c.loop-count.count c.in_ok-more.more c.loop-count.invariant.filled.fits c.loop-count.invariant.read
      c.in_ok-more.ensures.read;
  shown =
      row_goes_on _ _ _ c.args.file.now c.loop-count.room c.read_more.new.room c.loop-count.count c.in_ok-more.more c.loop-count.invariant.filled.fits c.loop-count.invariant.shown
      c.in_ok-more.ensures.read c.if-more-eq0.false;
  there = search rules;
  given = omega (arith, c.in_ok-more.ensures.given, c.loop-count.invariant.given);
  most = omega (arith, c.in_ok-more.ensures.given, c.loop-count.invariant.most);
  files = c.in_ok-more.ensures.files ∙ c.loop-count.invariant.files;
  faults = c.in_ok-more.ensures.cause.same ∙ c.loop-count.invariant.faults;
}
