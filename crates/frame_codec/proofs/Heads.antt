-- What the answer about a unit's first bytes says of reading that unit, at any offset.
use Rattle.std.proofs.Common.{◌≡◌, ℕ, ◌+◌, ◌≤◌, List, length, take, drop, Option, sym, ap, subst, ◌∙◌, arith}
use Rattle.esdk_fields.specs.declared.faults.Fault.{Fault}
use Rattle.esdk_fields.specs.declared.faults.Fault.TheVariants.{WrongSequence, FinalTooLong, BlockTooLong, UnitTooLong}
use Rattle.esdk_fields.specs.declared.contents.Content.{Content}
use Rattle.esdk_fields.specs.declared.contents.Content.TheVariants as contents
use Rattle.esdk_fields.specs.Place.{Place}
use Rattle.esdk_fields.specs.Reading.{Reading, Read, Refused, Wanting, FieldReader}
use Rattle.frame_codec.specs.declared.unit_heads.UnitHead.{UnitHead}
use Rattle.frame_codec.specs.declared.unit_heads.Head.TheVariants as heads
use Rattle.frame_codec.specs.UnitHead.{unit_head, needed, head_from, head_of}
use Rattle.frame_codec.proofs.Steps.{made_regular, made_final, made_block}
use Rattle.frame_codec.specs.Rows.{number_at, long_number_at}
use Rattle.frame_codec.proofs.Fields.{place, read_once}
use Rattle.frame_codec.proofs.Ways.{Short, Other, Numbered, Regular, Marked, FinalOther, FinalNumbered, FinalLong, Final, frame_way, BlockShort, BlockLong, BlockOver, Block, block_way}

-- ---- what stands before the content

-- more bytes are wanted, a field is refused, or all of it is there
pub data HeadWay (read : FieldReader UnitHead) (left : List ℕ) : Type 0 where
  Wants : ((at : ℕ) → read (place at left) ≡ Wanting) → HeadWay read left
  Refuses : (fault : Fault) (n : ℕ) → n ≤ length left → ((at : ℕ) → read (place at left) ≡ Refused fault (at + n)) → HeadWay read left
  Reads : (head : UnitHead) → head.size ≤ length left → 16 ≤ head.size → ((at : ℕ) → read (place at left) ≡ Read head (place (at + head.size) (drop head.size left))) → HeadWay read left

pub head_way : (content : Content) (want : ℕ) (max_unit : Option ℕ) (left : List ℕ) → HeadWay (unit_head content want max_unit) left
unfolding unit_head
head_way contents.Single want max_unit left =
    elim (block_way max_unit left) [
      | BlockShort short is ↦ Wants is
      | BlockLong long over is ↦ Refuses (BlockTooLong (long_number_at 12 left)) 20 long is
      | BlockOver long within over is ↦ Refuses (UnitTooLong (long_number_at 12 left)) 20 long is
      | Block long within under is ↦ Reads (made_block (take 12 left) (long_number_at 12 left)) long (omega arith) is
    ]
head_way (contents.Framed size) want max_unit left =
    elim (frame_way want size left) [
      | Short short is ↦ Wants is
      | Other long unmarked other is ↦ Refuses (WrongSequence want (number_at 0 left)) 4 long is
      | Numbered long short unmarked same is ↦ Wants is
      | Regular long unmarked same is ↦ Reads (made_regular want size (take 12 (drop 4 left))) long (omega arith) is
      | Marked long short marked is ↦ Wants is
      | FinalOther long marked other is ↦ Refuses (WrongSequence want (number_at 4 left)) 8 long is
      | FinalNumbered long short marked same is ↦ Wants is
      | FinalLong long marked same over is ↦ Refuses (FinalTooLong (number_at 20 left)) 24 long is
      | Final long marked same within is ↦ Reads (made_final want (take 12 (drop 8 left)) (number_at 20 left)) long (omega arith) is
    ]

-- what was read before the content stands within the bytes
pub head_within : (content : Content) (want : ℕ) (max_unit : Option ℕ) (p : Place) (head : UnitHead) (next : Place) → unit_head content want max_unit p ≡ Read head next → head.size ≤ length p.left
head_within content want max_unit p head next e =
    elim (head_way content want max_unit p.left) [
      | Wants is ↦ absurd (let h = is p.at in cc)
      | Refuses fault k inside is ↦ absurd (let h = is p.at in cc)
      | Reads other inside some is ↦ subst (λ (h : UnitHead). h.size ≤ length p.left) (read_once (unit_head content want max_unit p) other head _ next (is p.at) e).0 inside
    ]

-- ---- the answers of `head_of`

pub head_wants : (content : Content) (want : ℕ) (max_unit : Option ℕ) (left : List ℕ) (n at : ℕ) → head_of content want max_unit left ≡ heads.NeedMore n
    → unit_head content want max_unit (place at left) ≡ Wanting
unfolding head_of
head_wants content want max_unit left n at e =
    elim (head_way content want max_unit left) [
      | Wants is ↦ is at
      | Refuses fault k inside is ↦ absurd (let h : heads.Refused fault ≡ heads.NeedMore n = sym (ap (head_from (needed content left)) (is 0)) ∙ e in cc)
      | Reads head inside some is ↦ absurd (let h : heads.Unit head ≡ heads.NeedMore n = sym (ap (head_from (needed content left)) (is 0)) ∙ e in cc)
    ]

-- a fault of a field that ends within the bytes
pub record RefusesHead (content : Content) (want : ℕ) (max_unit : Option ℕ) (left : List ℕ) (fault : Fault) : Type 0 where
  pub end : ℕ
  pub inside : end ≤ length left
  pub is : (at : ℕ) → unit_head content want max_unit (place at left) ≡ Refused fault (at + end)

pub head_refuses : (content : Content) (want : ℕ) (max_unit : Option ℕ) (left : List ℕ) (fault : Fault) → head_of content want max_unit left ≡ heads.Refused fault
    → RefusesHead content want max_unit left fault
unfolding head_of
head_refuses content want max_unit left fault e =
    elim (head_way content want max_unit left) [
      | Wants is ↦ absurd (let h : heads.NeedMore (needed content left) ≡ heads.Refused fault = sym (ap (head_from (needed content left)) (is 0)) ∙ e in cc)
      | Refuses other k inside is ↦
          let same : other ≡ fault = same_fault other fault (sym (ap (head_from (needed content left)) (is 0)) ∙ e) in
          record { end = k; inside = inside; is = λ at. is at ∙ ap (λ (f : Fault). refusal f (at + k)) same }
      | Reads head inside some is ↦ absurd (let h : heads.Unit head ≡ heads.Refused fault = sym (ap (head_from (needed content left)) (is 0)) ∙ e in cc)
    ]
  where
    same_fault : (f g : Fault) → heads.Refused f ≡ heads.Refused g → f ≡ g
    same_fault f g e = cc

    refusal : Fault → ℕ → Reading UnitHead
    refusal f at = Refused f at

-- all that stands before the content
pub record ReadsHead (content : Content) (want : ℕ) (max_unit : Option ℕ) (left : List ℕ) (head : UnitHead) : Type 0 where
  pub inside : head.size ≤ length left
  pub some : 16 ≤ head.size
  pub is : (at : ℕ) → unit_head content want max_unit (place at left) ≡ Read head (place (at + head.size) (drop head.size left))

pub head_reads : (content : Content) (want : ℕ) (max_unit : Option ℕ) (left : List ℕ) (head : UnitHead) → head_of content want max_unit left ≡ heads.Unit head
    → ReadsHead content want max_unit left head
unfolding head_of
head_reads content want max_unit left head e =
    elim (head_way content want max_unit left) [
      | Wants is ↦ absurd (let h : heads.NeedMore (needed content left) ≡ heads.Unit head = sym (ap (head_from (needed content left)) (is 0)) ∙ e in cc)
      | Refuses fault k inside is ↦ absurd (let h : heads.Refused fault ≡ heads.Unit head = sym (ap (head_from (needed content left)) (is 0)) ∙ e in cc)
      | Reads other inside some is ↦
          let same : other ≡ head = same_head other head (sym (ap (head_from (needed content left)) (is 0)) ∙ e) in
          subst (ReadsHead content want max_unit left) same (record { inside = inside; some = some; is = is })
    ]
  where
    same_head : (h k : UnitHead) → heads.Unit h ≡ heads.Unit k → h ≡ k
    same_head h k e = cc
