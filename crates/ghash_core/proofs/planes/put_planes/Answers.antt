use Rattle.std.proofs.Common.{◌≡◌, ℕ, ◌+◌, ◌*◌, ◌<◌, List, slice_index, slice_index_or, ap, sym, subst, ◌∙◌, arith, below_more, length-set}
use Rattle.std.proofs.Math.ListN.{set}
use Rattle.std.proofs.lemmas.List.{get_or-set_same, get_or-set_other}
use Rattle.cipher_spec.specs.Ghash.{half}
use Rattle.ghash_core.specs.Tables.{block_byte, chosen, nibble_times, sixteenth, IsPlane}
use Rattle.ghash_core.specs.declared.planes.Plane.{Plane}
use Rattle.ghash_core.proofs.Products.{entry_is}
use Rattle.ghash_core.proofs.planes.put_planes.Goals as goal

-- byte k of a block that is known by another term
byte_is : (bytes : List ℕ) (v w k : ℕ) → slice_index bytes k ≡ block_byte v k → v ≡ w → slice_index bytes k ≡ block_byte w k
byte_is bytes v w k e is = e ∙ ap (λ n. block_byte n k) is

-- an entry for a block and the three after it
entry : (v k n r : ℕ) (y a b c : List ℕ) (va vb vc : ℕ)
    → slice_index y k ≡ block_byte v k → slice_index a k ≡ block_byte va k → slice_index b k ≡ block_byte vb k → slice_index c k ≡ block_byte vc k
    → va ≡ half v → vb ≡ half va → vc ≡ half vb
    → r ≡ chosen (slice_index y k) (slice_index a k) (slice_index b k) (slice_index c k) n → r ≡ block_byte (nibble_times v n) k
entry v k n r y a b c va vb vc ey ea eb ec ha hb hc is =
    let hb2 : vb ≡ half (half v) = hb ∙ ap half ha in
    let hc2 : vc ≡ half (half (half v)) = hc ∙ ap half hb2 in
    is ∙ entry_is v k n (slice_index y k) (slice_index a k) (slice_index b k) (slice_index c k) ey (byte_is a va (half v) k ea ha) (byte_is b vb (half (half v)) k eb hb2) (byte_is c vc (half (half (half v))) k ec hc2)

pub each-preserved : goal.each-preserved
unfolding sixteenth
each-preserved c =
    let k = c.each.k in
    let old = c.each.planes in
    let h = c.args.h in
    let plane : Plane = record { upper = c.both_choices-upper.result; lower = c.both_choices-lower.result } in
    let fourth : c.half-d.result ≡ half (half (half (half h))) =
    c.half-d.ensures ∙ ap half (c.half-c.ensures ∙ ap half (c.half-b.ensures ∙ ap half c.half-a.ensures)) in
    let here : IsPlane plane h k = λ t n side within.
    let m = 8 * t + k in
    let below : m < 16 = omega arith in
    let upper = entry h m n _ c.bytes-h0.result c.bytes-h1.result c.bytes-h2.result c.bytes-h3.result c.half-a.result c.half-b.result c.half-c.result (c.bytes-h0.ensures.lanes m below) (c.bytes-h1.ensures.lanes m below) (c.bytes-h2.ensures.lanes m below) (c.bytes-h3.ensures.lanes m below) c.half-a.ensures c.half-b.ensures c.half-c.ensures (c.both_choices-upper.ensures t n side within) in
    let lower = entry c.half-d.result m n _ c.bytes-h4.result c.bytes-h5.result c.bytes-h6.result c.bytes-h7.result c.half-e.result c.half-f.result c.half-g.result (c.bytes-h4.ensures.lanes m below) (c.bytes-h5.ensures.lanes m below) (c.bytes-h6.ensures.lanes m below) (c.bytes-h7.ensures.lanes m below) c.half-e.ensures c.half-f.ensures c.half-g.ensures (c.both_choices-lower.ensures t n side within) in
    (upper, lower ∙ ap (λ v. block_byte (nibble_times v n) m) fourth) in
    record {
      long = length-set old k plane ∙ c.each.invariant.long;
      made = λ j l other.
          below_more (λ j. IsPlane (slice_index_or (set old k plane) j other) h j) k
          (λ j l. subst (λ (p : Plane). IsPlane p h j) (sym (get_or-set_other old k j plane other (λ e. omega arith))) (c.each.invariant.made j l other))
          (subst (λ (p : Plane). IsPlane p h k) (sym (get_or-set_same old k plane other (omega arith))) here) j l;
    }
