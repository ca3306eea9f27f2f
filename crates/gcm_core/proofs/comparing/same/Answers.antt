use Rattle.std.proofs.Common.{◌≡◌, length, get_or, bit_xor, refl, sym, ap, ◌∙◌, arith, below_more}
use Rattle.std.specs.Int.Bits.{xor_self}
use Rattle.std.proofs.lemmas.Bool.Decides.{same_from_decides, Decides-eqb}
use Rattle.std.proofs.lemmas.Nat.{le_or_l, le_or_r}
use Rattle.std.proofs.lemmas.Slice.Eq.{bytes_eq-Decides}
use Rattle.gcm_core.proofs.EqualBytes.{equal_from_xor, equal_from_bytes}
use Rattle.gcm_core.proofs.comparing.same.Goals as goal

pub each-preserved : goal.each-preserved
each-preserved c =
    let i = c.each.i in
    let a = get_or c.args.first.now i 0 in
    let b = get_or c.args.second.now i 0 in
    record {
      found = λ nothing. let old : c.each.differences ≡ 0 = omega (arith, le_or_l c.each.differences (bit_xor a b)) in let new : bit_xor a b ≡ 0 = omega (arith, le_or_r c.each.differences (bit_xor a b)) in below_more (λ j. get_or c.args.first.now j 0 ≡ get_or c.args.second.now j 0) i (c.each.invariant.found old) (equal_from_xor a b new);
      none = λ same. let old : c.each.differences ≡ 0 = c.each.invariant.none (λ j h. same j (omega arith)) in let new : bit_xor a b ≡ 0 = ap (λ x. bit_xor x b) (same i (omega arith)) ∙ xor_self b in rw (old, new) refl;
    }

pub returns : goal.returns
returns c =
    let a = c.args.first.now in
    let b = c.args.second.now in
    let d = c.each.differences in
    same_from_decides {P = a ≡ b} _ _ (λ zero. equal_from_bytes a b (length a) refl (sym c.requires) (λ j h. c.each.invariant.found ((Decides-eqb d 0).0 zero) j (omega arith)), λ e. (Decides-eqb d 0).1 (c.each.invariant.none (λ j h. ap (λ l. get_or l j 0) e))) (bytes_eq-Decides a b)
