-- An input whose pieces are fed one after another.
use Rattle.std.proofs.Common.{◌≡◌, ◌∙◌, ℕ, ◌≤◌, ◌^◌, List, [], ◌++◌, length, Ok, Err, None, refl, sym, ap, subst, arith, length-append}
use Rattle.std.proofs.lemmas.List.{append_cancel_left}
use Rattle.esdk_base.specs.Streams.{SourceState}
use Rattle.header_codec.specs.declared.settings.Settings.{Settings}
use Rattle.header_codec.specs.Table.{head}
use Rattle.whole_input.specs.declared.pieces.End.{End}
use Rattle.whole_input.specs.declared.pieces.End.TheVariants as ends
use Rattle.whole_input.specs.Pieces.{NextPiece, PiecesValue}
use Rattle.whole_input.specs.Taken.{Came}
use Rattle.whole_input.proofs.Coming.{came_more, came_none, came_still}
use Rattle.esdk_decrypt.specs.Underway.{NoMoreCame}

-- These bytes came, so many, and no read failed.
pub record CameWell (first now : SourceState) (count : ℕ) (bytes : List ℕ) : Type 0 where
  pub came : Came first now bytes
  pub faults : now.faults ≡ first.faults
  pub size : length bytes ≡ count
  pub few : count ≤ 2 ^ 62

-- the bytes that came are what they are
pub came_same : (first now : SourceState) (bytes others : List ℕ) → Came first now bytes → Came first now others → bytes ≡ others
came_same first now bytes others came told = append_cancel_left first.came bytes others (sym came.told ∙ told.told)

-- no header is whole in them
pub came_headless : (settings : Settings) (first now : SourceState) (bytes others : List ℕ) → Came first now bytes → Came first now others → head settings others ≡ None → head settings bytes ≡ None
came_headless settings first now bytes others came told none = ap (λ (b : List ℕ). head settings b) (came_same first now bytes others came told) ∙ none

-- none yet
pub well_none : (first : SourceState) (count : ℕ) → count ≡ 0 → CameWell first first count []
well_none first count none = record { came = came_none first; faults = refl; size = sym none; few = omega (arith, none) }

-- one piece more
pub well_more : (first old new : SourceState) (count : ℕ) (bytes : List ℕ) (v : PiecesValue) → CameWell first old count bytes → NextPiece {T = Unit {0}} count old new v (Ok tt)
    → CameWell first new v.taken (bytes ++ v.piece)
well_more first old new count bytes v well next = record {
  came = came_more first old new bytes v.piece well.came next.0.came;
  faults = next.0.faults ∙ well.faults;
  size = omega (arith, length-append bytes v.piece, well.size, next.1);
  few = next.2;
}

-- why no more came
pub well_ends : (first old new : SourceState) (count : ℕ) (bytes : List ℕ) (v : PiecesValue) (end : End) → CameWell first old count bytes → NextPiece {T = Unit {0}} count old new v (Err end)
    → Came first new bytes × NoMoreCame first new bytes end
well_ends first old new count bytes v ends.Seen well next =
    (came_still first old new bytes well.came next.0, record { end = next.1; seen = next.5; faults = next.2 ∙ well.faults; few = omega (arith, well.size, next.3) })
well_ends first old new count bytes v ends.Failed well next =
    (came_still first old new bytes well.came next.0, omega (arith, next.1, well.faults))
well_ends first old new count bytes v ends.TooLong well next = (
  subst (λ (s : SourceState). Came first s bytes) (sym next.0) well.came,
  record { faults = ap (λ (s : SourceState). s.faults) next.0 ∙ well.faults; count = well.size ∙ next.1 },
)
