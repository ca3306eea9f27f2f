use Rattle.std.proofs.Common.{rules, ◌≡◌, ◌⊎◌, ◌∙◌, ◌<◌, ℕ, List, ◌∷◌, ◌++◌, [], Bool, true, ap, arith, drop, length, inl, inr, refl, sym, take}
use Rattle.std.specs.Prelude.{◌==◌}
use Rattle.std.proofs.lemmas.Bool.{cases_lt, eqb-true}
use Rattle.std.proofs.lemmas.List.{take-append-le}
use Rattle.esdk_seen.specs.Calls.{reads}
use Rattle.whole_input.specs.FileReadsLaws.{comes_one}
use Rattle.whole_input.proofs.file_source.FileSourceSource.read.Goals as goal

-- where the end is seen, it was seen before, or nothing was read
sees : (room count : ℕ) (bytes : List ℕ) (before now : Bool) → (0 < room → now ≡ (count == 0)) → (room ≡ 0 → now ≡ before) → now ≡ true
    → (before ≡ true) ⊎ (take count bytes ≡ [])
sees room count bytes before now some none seen = elim (cases_lt 0 room) [
  | inl room_is ↦ inr (ap (λ (n : ℕ). take n bytes) (eqb-true count 0 (sym (some room_is) ∙ seen)))
  | inr no_room ↦ inl (sym (none (omega (arith, no_room))) ∙ seen)
]

pub returns-in-Ok-clause-lasts : goal.returns-in-Ok-clause-lasts
returns-in-Ok-clause-lasts g c =
    let calls = (g.F.Shelf.state c.args.self.now.shelf.now).calls in
    let piece = sym (take-append-le c.in-Ok.count c.read_at.new.out _ c.in-Ok.ensures.bound.0) in (
      refl,
      refl,
      search rules,
      comes_one _ _ _ _ _ _ _ _ _ _ c.see.ensures (search rules)
          (c.in-Ok.ensures.calls ∙ ap (λ bytes. calls ++ reads c.args.self.now.name.now c.args.self.now.at bytes ∷ []) piece)
          (sees (length (c.read_at.new.out ++ drop c.min-room.result c.args.out.now)) c.in-Ok.count (c.read_at.new.out ++ drop c.min-room.result c.args.out.now) c.args.self.now.ended c.sees_end-self.result
          c.sees_end-self.ensures.some c.sees_end-self.ensures.none),
    )
