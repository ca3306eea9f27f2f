-- Where a slot stands in the file.
use Rattle.std.proofs.Common.{◌≡◌, ℕ, ◌+◌, ◌*◌, ◌^◌, ◌<◌, ◌≤◌, Bool, List, drop, Result, Ok, Err, IfOk, IfErr, refl, sym, ap, ◌∙◌, arith}
use Rattle.std.proofs.lemmas.Bool.{le-ltb, lt-ltb}
use Rattle.std.proofs.lemmas.List.{drop-drop}
use Rattle.esdk_fields.specs.declared.contents.Content.{Content}
use Rattle.esdk_fields.specs.declared.contents.Content.TheVariants.{Single, Framed}
use Rattle.esdk_fields.specs.declared.refusals.Outside.TheVariants as outsides
use Rattle.esdk_fields.specs.Place.{start}
use Rattle.esdk_fields.specs.Reading.{Wanting}
use Rattle.esdk_base.specs.Streams.{ShelfState}
use Rattle.frame_codec.specs.Unit.{unit}
use Rattle.extract_core.specs.declared.errors.ExtractError.{ExtractError}
use Rattle.extract_core.specs.declared.errors.ExtractError.TheVariants as errors
use Rattle.extract_core.specs.declared.slots.Slots.{Slots}
use Rattle.extract_core.specs.Extracted.{OpenBody, last_slot, slot_read, slot_width, unit_fault}
use Rattle.extract_core.specs.Slots.{TakesSlot, TakesUnit, UnitFails, slots_body, first_byte, unit_read}

-- no slot has the number
pub slot_behind : (b : OpenBody) (slot : ℕ) → last_slot < slot → slot_read b slot ≡ Wanting
unfolding slot_read
slot_behind b slot h = rw (lt-ltb last_slot slot h) refl

pub slot_alone : (b : OpenBody) (slot : ℕ) → slot ≤ last_slot → slot_read b slot ≡ unit b.content b.max_unit b.key b.id (slot + 1) (start (drop (slot * slot_width b.content) b.bytes))
unfolding slot_read
slot_alone b slot h = rw (le-ltb last_slot slot h) refl

-- a slot is the unit at its offset of the file
slot_there : (s : Slots) (told : List ℕ) (slot width : ℕ) → slot ≤ last_slot → width ≡ slot_width s.content
    → slot_read (slots_body s (drop s.begin told)) slot ≡ unit_read s (slot + 1) (drop (s.begin + slot * width) told)
slot_there s told slot width h is =
    slot_alone (slots_body s (drop s.begin told)) slot h
    ∙ ap (λ (b : List ℕ). unit_read s (slot + 1) b) (drop-drop (slot * slot_width s.content) s.begin told)
    ∙ ap (λ (w : ℕ). unit_read s (slot + 1) (drop (s.begin + slot * w) told)) (sym is)

-- an offset doesn't pass what 64 bits hold
pub within_file : (content : Content) (slot width : ℕ) → slot ≤ last_slot → first_byte content slot ≤ 2 ^ 63 → width ≡ slot_width content → slot * width ≤ 2 ^ 63 + 2 ^ 37
within_file Single slot width h few is = let e : slot * width ≡ slot * 0 = ap (λ (w : ℕ). slot * w) is in omega (arith, e)
within_file (Framed frame) slot width h few is =
    let e : slot * width ≡ slot * (frame + 32) = ap (λ (w : ℕ). slot * w) is in
    let on : slot * (frame + 32) ≡ slot * frame + slot * 32 = omega arith in
    omega (arith, e, on, few, h)

pub takes_slot : (s new : Slots) (before after : ShelfState) (name : List ℕ) (slot width : ℕ) (r : Result Bool ExtractError) → slot ≤ last_slot → width ≡ slot_width s.content
    → IfOk r (TakesUnit s new before after name (s.begin + slot * width) (slot + 1)) → IfOk r (TakesSlot s new before after name slot)
takes_slot s new before after name slot width (Ok last) h is takes = record {
  numbered = h;
  read = λ told holds. let r = takes.read told holds in record { next = r.next; is = slot_there s told slot width h is ∙ r.is };
  empty = takes.empty;
  faults = takes.faults;
  grown = takes.grown;
  sized = takes.sized;
  width = takes.width;
}
takes_slot s new before after name slot width (Err error) h is takes = tt

fails_there : (s : Slots) (before after : ShelfState) (name : List ℕ) (slot width : ℕ) (error : ExtractError) → slot ≤ last_slot → width ≡ slot_width s.content
    → UnitFails (λ told. unit_read s (slot + 1) (drop (s.begin + slot * width) told)) before after name error → UnitFails (λ told. slot_read (slots_body s (drop s.begin told)) slot) before after name error
fails_there s before after name slot width (errors.Fault fault) h is fails = (fails.0, λ told holds. ap unit_fault (slot_there s told slot width h is) ∙ fails.1 told holds)
fails_there s before after name slot width (errors.Outside outsides.SourceFault) h is fails = fails
fails_there s before after name slot width (errors.Outside outsides.SinkFault) h is fails = fails
fails_there s before after name slot width (errors.Outside outsides.ShelfFault) h is fails = fails
fails_there s before after name slot width (errors.Outside outsides.EntropyFault) h is fails = fails
fails_there s before after name slot width (errors.Outside outsides.KeyringFault) h is fails = fails
fails_there s before after name slot width (errors.Outside outsides.InputTooLong) h is fails = fails
fails_there s before after name slot width errors.Memory h is fails = fails

pub fails_slot : (s : Slots) (before after : ShelfState) (name : List ℕ) (slot width : ℕ) (r : Result Bool ExtractError) → slot ≤ last_slot → width ≡ slot_width s.content
    → IfErr r (UnitFails (λ told. unit_read s (slot + 1) (drop (s.begin + slot * width) told)) before after name)
    → IfErr r (UnitFails (λ told. slot_read (slots_body s (drop s.begin told)) slot) before after name)
fails_slot s before after name slot width (Ok last) h is fails = tt
fails_slot s before after name slot width (Err error) h is fails = fails_there s before after name slot width error h is fails
