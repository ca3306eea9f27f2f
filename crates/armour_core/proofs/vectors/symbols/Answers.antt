use Rattle.std.proofs.Common.{◌≡◌, ℕ, ◌-◌, ◌<◌, map, get_or, subst, sym, ap, ◌∙◌, arith}
use Rattle.std.proofs.lemmas.Simd.{map-map}
use Rattle.armour_core.specs.declared.vectors.TheConstants.{OFFSETS}
use Rattle.armour_core.proofs.Lanes.{lanes_below}
use Rattle.armour_core.proofs.Symbols.{symbol_lanes, symbols_are}
use Rattle.armour_core.proofs.vectors.symbols.Goals as goal

pub looked_up-offsets-requires-clause-small : goal.looked_up-offsets-requires-clause-small
looked_up-offsets-requires-clause-small c = subst (λ w. (j : ℕ) → get_or w j 0 < 16) (sym c.offset_places.ensures) (lanes_below (λ n. n - 51) 64 16 (omega arith) (λ x within. omega (arith, within)) c.args.numbers c.requires.small)

pub returns : goal.returns
returns c =
    let v = c.args.numbers in
    let offsets : c.looked_up-offsets.result ≡ map (λ n. get_or OFFSETS (n - 51) 0) v =
    c.looked_up-offsets.ensures ∙ ap (map (λ k. get_or OFFSETS k 0)) c.offset_places.ensures ∙ map-map (λ k. get_or OFFSETS k 0) (λ n. n - 51) v in
    ap (λ w. symbol_lanes w v) offsets ∙ symbols_are v c.requires.long c.requires.small
