-- The pieces of an input, stepped through by a resealer.
use Rattle.std.proofs.Common.{◌≡◌, ◌∙◌, ℕ, ◌+◌, ◌-◌, ◌*◌, ◌^◌, ◌<◌, ◌≤◌, List, [], ◌++◌, length, take, drop, None, Ok, Err, inl, inr, refl, sym, ap, subst, arith, append_assoc, append-nil}
use Rattle.std.proofs.lemmas.List.{drop_all, drop-drop, length-drop, take-append-drop, take_all}
use Rattle.context_codec.specs.Context.{KeyValue}
use Rattle.header_codec.specs.declared.settings.Settings.{Settings}
use Rattle.keyring_trait.specs.Manager.{ManagerNow}
use Rattle.stream_open.specs.Session.{OpeningValue}
use Rattle.stream_open.specs.Session.{new_opening_session as new_opening}
use Rattle.stream_open.proofs.Feeding.{opened_goes}
use Rattle.stream_open.proofs.PieceEnds.{whole_none}
use Rattle.esdk_base.specs.Streams.{SinkState, SourceState}
use Rattle.whole_input.specs.declared.pieces.End.{End}
use Rattle.whole_input.specs.Pieces.{PiecesValue}
use Rattle.whole_input.specs.Taken.{Came}
use Rattle.esdk_base.specs.ReceiverLaws.{takes_none}
use Rattle.esdk_base.specs.Receiver.{PutsAll}
use Rattle.esdk_decrypt.specs.Underway.{NoMoreCame}
use Rattle.esdk_decrypt.proofs.Pieces.{CameWell, well_ends, well_more}
use Rattle.reseal_core.specs.declared.resealer.Resealer.{Resealer}
use Rattle.reseal_core.specs.Session.{new_resealing_session}
use Rattle.reseal_core.specs.Stands.{Stands}
use Rattle.reseal_core.specs.Underway.{Reached, UnfedAs}
use Rattle.reseal_core.proofs.Reaching.{untold}
use Rattle.reseal_core.proofs.Stepping.{gains_none}

-- what is left to do: the bytes that may still come, twice, and those of the piece that aren't fed
abbrev pub work : PiecesValue → ℕ → ℕ
work pieces fed = 2 * (2 ^ 62 - pieces.taken) + (length pieces.piece - fed)

-- The bytes that aren't fed yet.
pub record IsUnfed (first : SourceState) (input taken : SourceState) (old new : PiecesValue) (fed from : ℕ) (bytes : List ℕ) : Type 0 where
  pub some : from < length new.piece
  pub few : length new.piece ≤ 65536
  pub well : CameWell first taken new.taken (bytes ++ drop from new.piece)
  pub less : work new from ≤ work old fed
  pub most : new.taken ≤ 2 ^ 62

all_fed : (bytes piece : List ℕ) (fed : ℕ) → fed ≡ length piece → bytes ++ drop fed piece ≡ bytes
all_fed bytes piece fed is = ap (λ (b : List ℕ). bytes ++ b) (drop_all fed piece (omega (arith, is))) ∙ append-nil bytes

pub is_unfed : (first input taken : SourceState) (old new : PiecesValue) (fed from : ℕ) (bytes : List ℕ) → length old.piece ≤ 65536 → CameWell first input old.taken (bytes ++ drop fed old.piece)
    → UnfedAs old fed input taken new (Ok from) → IsUnfed first input taken old new fed from bytes
is_unfed first input taken old new fed from bytes few well (inl (some, from_is, same, still)) =
    rw (from_is, same, still) (record { some = some; few = few; well = well; less = omega arith; most = well.few })
is_unfed first input taken old new fed from bytes few well (inr (all, from_is, next)) =
    let before : CameWell first input old.taken bytes = subst (λ (b : List ℕ). CameWell first input old.taken b) (all_fed bytes old.piece fed all) well in
    let then = well_more first input taken old.taken bytes new before next in
    rw from_is (record {
      some = omega (arith, next.0.some);
      few = next.0.fits;
      well = then;
      less = omega (arith, next.1, next.2, all);
      most = next.2;
    })

-- why no more came
pub input_ends : (first input taken : SourceState) (old new : PiecesValue) (fed : ℕ) (bytes : List ℕ) (end : End) → CameWell first input old.taken (bytes ++ drop fed old.piece) → UnfedAs old fed input taken new (Err end)
    → Came first taken bytes × NoMoreCame first taken bytes end
input_ends first input taken old new fed bytes end well (all, next) =
    well_ends first input taken old.taken bytes new end (subst (λ (b : List ℕ). CameWell first input old.taken b) (all_fed bytes old.piece fed all) well) next

-- ---- the step

-- the slice that a step is given
pub left_is : (all piece : List ℕ) (from : ℕ) → all ≡ piece → take (length all - from) (drop from all) ≡ drop from piece
left_is all piece from is = take_all (length all - from) (drop from all) (omega (arith, length-drop from all)) ∙ ap (drop from) is

-- what was fed, and what is left, once some of it was
pub left_then : (bytes piece : List ℕ) (from n : ℕ) → (bytes ++ take n (drop from piece)) ++ drop (from + n) piece ≡ bytes ++ drop from piece
left_then bytes piece from n =
    append_assoc bytes (take n (drop from piece)) (drop (from + n) piece)
    ∙ ap (λ (b : List ℕ). bytes ++ (take n (drop from piece) ++ b)) (sym (drop-drop n from piece))
    ∙ ap (λ (b : List ℕ). bytes ++ b) (take-append-drop n (drop from piece))

-- ---- the beginning

module _ {A B : Type 0} (opened : A → ManagerNow) (sealed : B → ManagerNow) (now : ℕ) (settings : Settings) (given : List KeyValue) (size : ℕ) (random : List ℕ) where
  abbrev v : OpeningValue
  v = new_opening settings given

  pub reached_none : (opening : A) (sealing : B) (output : SinkState) (resealer : Resealer) → Stands resealer (new_resealing_session settings given size random)
      → Reached opened sealed now (new_resealing_session settings given size random) [] opening opening sealing sealing output output resealer
  reached_none opening sealing output resealer stands = record {
    text = [];
    fed = (whole_none opened (PutsAll (λ (x : SinkState). x)) now v opening untold resealer.opener (opened_goes settings given) stands.opener (λ x. takes_none x)).fed;
    materials = None;
    stands = stands;
    made = refl;
    gained = gains_none output [];
  }
