-- A file as a source lasts from each moment to the same one, and over reads in a row: laws of its
-- relation, which an `impl` can cite from specs/ alone.
use Rattle.std.proofs.Common.{◌≡◌, ◌∙◌, ℕ, List, Bool, true, false, refl, ap, subst, arith, inl}
use Rattle.std.proofs.Common.{inr}
use Rattle.std.proofs.lemmas.Bool.{cases_lt}
use Rattle.esdk_fields.specs.Counts.{Rose}
use Rattle.esdk_base.specs.Shelf.{is_missing}
use Rattle.esdk_base.specs.Streams.{ShelfState}
use Rattle.whole_input.specs.FileSource.{FileReadsOn}

pub file_reads_none : (s : ShelfState) (name : List ℕ) (at count : ℕ)
    → FileReadsOn s s name at at count count
file_reads_none s name at count = record {
  files = refl;
  on = omega arith;
  given = omega arith;
  later = omega arith;
  failures = omega arith;
  absent = λ missing. (refl, refl);
  failed = λ more few there. absurd (omega (arith, more));
  same = λ is few. refl;
}

-- the file is missing at both moments or at none
missing_same : (r s : ShelfState) (name : List ℕ) (b : Bool) → s.files ≡ r.files
    → is_missing r.files name ≡ b → is_missing s.files name ≡ b
missing_same r s name b same e = ap (λ files. is_missing files name) same ∙ e

pub file_reads_more : (r s t : ShelfState) (name : List ℕ) (at mid end a b c : ℕ)
    → FileReadsOn r s name at mid a b → FileReadsOn s t name mid end b c
    → FileReadsOn r t name at end a c
file_reads_more r s t name at mid end a b c first second = record {
  files = second.files ∙ first.files;
  on = omega (arith, first.on, second.on);
  given = omega (arith, first.given, second.given, first.on, second.on);
  later = omega (arith, first.later, second.later);
  failures = omega (arith, first.failures, second.failures);
  absent = λ missing.
      let before = first.absent missing in
      let after = second.absent (missing_same r s name true first.files missing) in
      (after.0 ∙ before.0, after.1 ∙ before.1);
  failed = λ more few there. elim (cases_lt a b) [
    | inl early ↦
        (let rose : Rose r.faults s.faults = first.failed early (omega (arith, few, second.on))
        there in
        omega (arith, rose, second.later))
    | inr late ↦
        (let rose : Rose s.faults t.faults =
        second.failed (omega (arith, late, more, first.failures)) few
        (missing_same r s name false first.files there) in
        omega (arith, rose, first.later))
  ];
  same = λ is few.
      let kept : b ≡ a = omega (arith, is, first.failures, second.failures) in
      let then_kept : c ≡ b = omega (arith, is, first.failures, second.failures) in
      second.same then_kept few ∙ first.same kept (omega (arith, kept, is, few));
}

-- the same where the second name is known to be the first
pub reads_more_named : (r s t : ShelfState) (name other : List ℕ) (at mid end a b c : ℕ)
    → other ≡ name
    → FileReadsOn r s name at mid a b → FileReadsOn s t other mid end b c
    → FileReadsOn r t name at end a c
reads_more_named r s t name other at mid end a b c is first second =
    file_reads_more r s t name at mid end a b c first
    (subst (λ n. FileReadsOn s t n mid end b c) is second)
