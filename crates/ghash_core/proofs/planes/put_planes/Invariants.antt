use Rattle.std.proofs.Common.{◌≡◌, ℕ, ◌<◌, length, slice_index_or}
use Rattle.ghash_core.specs.Tables.{IsPlane}
use Rattle.ghash_core.specs.declared.planes.Plane.{Plane}
use Rattle.ghash_core.proofs.planes.put_planes.Given as goal

abbrev pub invariant-each : goal.invariant-each
invariant-each l = record {
  long : length l.planes ≡ 8;
  made : (k : ℕ) → k < l.k → (plane : Plane) → IsPlane (slice_index_or l.planes k plane) l.h k;
}
