use Rattle.std.proofs.Common.{◌∙◌, ℕ, List, ◌++◌, length, take, refl, ap, sym, arith, inl, inr}
use Rattle.std.proofs.lemmas.Bool.{eqb-false}
use Rattle.std.proofs.lemmas.List.{length-take, length-take-le}
use Rattle.armour_core.specs.ReaderLaws.{outlasts_none}
use Rattle.armour_core.specs.ReaderOutlook.{pending}
use Rattle.armour_core.proofs.Sources.{failed_outlasts, nothing, read_consumes, read_ends, read_outlasts}
use Rattle.armour_core.proofs.Taking.{ends_as, some_or_none}
use Rattle.armour_core.proofs.source.UnarmouredSourceSource.read.Goals as goal

pub returns-then-is_empty-clause-given : goal.returns-then-is_empty-clause-given
returns-then-is_empty-clause-given g c = omega (arith, c.args.self.now.few)

pub returns-clause-bytes : goal.returns-clause-bytes
returns-clause-bytes g c = (
  read_consumes (g.S.Source.state c.args.self.now.text.now) (g.S.Source.state c.await_some.new.self.text.now) c.args.self.now.reader c.await_some.new.self.reader c.fill-count.new.self
      (take c.fill-count.result c.fill-count.new.out) c.await_some.ensures.outlook (λ text. c.fill-count.ensures.outlook text),
  λ none some.
      read_ends (g.S.Source.state c.await_some.new.self.text.now) c.await_some.new.self.reader c.fill-count.new.self (take c.fill-count.result c.fill-count.new.out) c.in-Ok.ensures.some
      (nothing (length (pending c.await_some.new.self.reader)) (λ has. let gives = c.fill-count.ensures.some has (omega (arith, some, c.fill-count.auto.out)) in absurd (omega (arith, gives, none)))) (λ text. c.fill-count.ensures.outlook text)
      (omega (arith, none, length-take c.fill-count.result c.fill-count.new.out)),
)

pub returns-then-is_empty-clause-lasts : goal.returns-then-is_empty-clause-lasts
returns-then-is_empty-clause-lasts g c = (
  refl,
  g.met.S.Source.lasts_none c.args.self.now.text.now,
  outlasts_none (g.S.Source.state c.args.self.now.text.now) c.args.self.now.reader c.args.self.now.given c.args.self.now.faults c.args.self.now.came.bytes
      c.args.self.now.ended c.args.self.now.few,
)

pub returns-in-Err-clause-lasts : goal.returns-in-Err-clause-lasts
returns-in-Err-clause-lasts g c = (
  c.await_some.ensures.same,
  c.await_some.ensures.lasts,
  failed_outlasts (g.S.Source.state c.args.self.now.text.now) (g.S.Source.state c.await_some.new.self.text.now) c.args.self.now.reader c.await_some.new.self.reader c.args.self.now.given c.await_some.new.self.given c.args.self.now.faults
      c.await_some.new.self.faults c.args.self.now.came.bytes c.await_some.new.self.came.bytes c.args.self.now.ended c.await_some.new.self.ended c.await_some.ensures.awaits c.await_some.ensures.fails
      c.await_some.ensures.given c.args.self.now.few c.in-Err.ensures.spent c.await_some.ensures.came c.await_some.ensures.ended,
)

pub returns-clause-lasts : goal.returns-clause-lasts
returns-clause-lasts g c =
    let s = c.await_some.new.self.reader in
    let full = eqb-false (length c.args.out.now) 0 (sym c.is_empty.ensures ∙ c.if-is_empty.false) in
    let front = take c.fill-count.result c.fill-count.new.out in
    let size = length-take-le c.fill-count.result c.fill-count.new.out (omega (arith, c.fill-count.ensures.room, c.fill-count.auto.out)) in (
      c.await_some.ensures.same,
      c.await_some.ensures.lasts,
      read_outlasts (g.S.Source.state c.args.self.now.text.now) (g.S.Source.state c.await_some.new.self.text.now) c.args.self.now.reader s c.fill-count.new.self front c.args.self.now.given _ c.args.self.now.faults
          c.await_some.new.self.faults c.args.self.now.came.bytes _ c.args.self.now.ended _ c.await_some.ensures.awaits c.await_some.ensures.fails c.in-Ok.ensures.whole (c.in-Ok.ensures.cause.same ∙ c.in-Ok.ensures.whole)
          (omega (arith, c.saturating_add-self.ensures, c.await_some.ensures.given, size)) (λ text. c.fill-count.ensures.outlook text) c.fill-count.ensures.pieces c.fill-count.ensures.goes c.fill-count.ensures.whole
          (elim (some_or_none s c.in-Ok.ensures.some) [
            | inl has ↦ (let gives = c.fill-count.ensures.some has (omega (arith, full)) in inl (omega (arith, gives, size)))
            | inr over ↦ inr over
          ])
          (c.see.ensures ∙ ap (λ (l : List ℕ). l ++ front) c.await_some.ensures.came)
          (ends_as s c.fill-count.new.self c.fill-count.result (length c.fill-count.new.out) c.args.self.now.ended (omega (arith, full, c.fill-count.auto.out)) c.in-Ok.ensures.some c.fill-count.ensures.goes
          (λ has room. c.fill-count.ensures.some has (omega (arith, room, c.fill-count.auto.out)))),
    )
