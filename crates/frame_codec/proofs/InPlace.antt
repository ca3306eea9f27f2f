-- What a unit is read as that is filled and opened in a buffer.
use Rattle.std.proofs.Common.{◌≡◌, ℕ, ◌≤◌, List, length, take, drop, Option, Some, None, refl, ap, ◌∙◌}
use Rattle.std.proofs.lemmas.List.{drop-drop}
use Rattle.esdk_fields.specs.declared.contents.Content.{Content}
use Rattle.esdk_fields.specs.Place.{start}
use Rattle.frame_codec.specs.declared.unit_heads.UnitHead.{UnitHead}
use Rattle.frame_codec.specs.declared.unit_heads.Head.TheVariants as heads
use Rattle.frame_codec.specs.UnitHead.{head_of}
use Rattle.frame_codec.specs.Unit.{unit, opened_unit}
use Rattle.frame_codec.specs.UnitBuffer.{opened_of}
use Rattle.frame_codec.specs.InPlace.{unit_size, whole_reading, IsReadInPlace}
use Rattle.frame_codec.proofs.Heads.{head_reads}
use Rattle.frame_codec.proofs.Units.{opened_there, unit_wants_head, unit_refuses_head, unit_wants, unit_reads, unit_refuses}

opened_same : (key id : List ℕ) (head : UnitHead) (bytes : List ℕ) → opened_there key id head (drop head.size bytes) ≡ opened_of key id head bytes
opened_same key id head bytes = ap (λ (l : List ℕ). opened_unit key id head (take head.length (drop head.size bytes)) (take 16 l)) (drop-drop head.length head.size bytes)

-- a unit that is all there is read as what opens of it
pub whole_is : (content : Content) (max_unit : Option ℕ) (key id : List ℕ) (want : ℕ) (bytes : List ℕ) (head : UnitHead) (o : Option (List ℕ)) → head_of content want max_unit bytes ≡ heads.Unit head → unit_size head ≤ length bytes
    → opened_of key id head bytes ≡ o → unit content max_unit key id want (start bytes) ≡ whole_reading head bytes o
whole_is content max_unit key id want bytes head (Some text) known long opens =
    unit_reads content max_unit key id want bytes text head 0 (head_reads content want max_unit bytes head known) long (opened_same key id head bytes ∙ opens)
whole_is content max_unit key id want bytes head None known long opens =
    unit_refuses content max_unit key id want bytes head 0 (head_reads content want max_unit bytes head known) long (opened_same key id head bytes ∙ opens)

pub read_in_place : (content : Content) (max_unit : Option ℕ) (key id : List ℕ) (want : ℕ) (bytes : List ℕ) → IsReadInPlace content max_unit key id want bytes
read_in_place content max_unit key id want bytes = record {
  needs = λ n e. unit_wants_head content max_unit key id want bytes n 0 e;
  fault = λ fault e. let r = unit_refuses_head content max_unit key id want bytes fault e in (_, r.2 0);
  short = λ head e few. unit_wants content max_unit key id want bytes head 0 (head_reads content want max_unit bytes head e) few;
  whole = λ head e long. whole_is content max_unit key id want bytes head (opened_of key id head bytes) e long refl;
}
