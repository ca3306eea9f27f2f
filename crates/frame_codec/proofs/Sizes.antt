-- How many bytes a unit takes.
use Rattle.std.proofs.Common.{◌≡◌, ℕ, ◌+◌, ◌≤◌, List, length, take, drop, Some, None, refl, sym, ap, subst, ◌∙◌, arith}
use Rattle.std.proofs.lemmas.List.{length-take, length-drop}
use Rattle.esdk_fields.specs.declared.contents.Content.TheVariants as contents
use Rattle.esdk_fields.specs.Place.{Place, past}
use Rattle.esdk_fields.specs.Reading.{Read}
use Rattle.cipher_spec.proofs.GcmLemmas.{sealed_from_opened}
use Rattle.frame_codec.specs.declared.kinds.UnitKind.{UnitKind}
use Rattle.frame_codec.specs.declared.kinds.UnitKind.TheVariants as kinds
use Rattle.frame_codec.specs.declared.unit_heads.UnitHead.{UnitHead}
use Rattle.frame_codec.specs.UnitHead.{unit_head, frame_start}
use Rattle.frame_codec.specs.Unit.{More, piece_of, opened_unit, Under, frame}
use Rattle.frame_codec.proofs.Fields.{place, read_once}
use Rattle.frame_codec.specs.UnitAad.{unit_aad}
use Rattle.frame_codec.proofs.Ciphers.{length-sealed_cipher}
use Rattle.frame_codec.proofs.Ways.{Short, Other, Numbered, Regular, Marked, FinalOther, FinalNumbered, FinalLong, Final, frame_way}
use Rattle.frame_codec.specs.InPlace.{unit_size}
use Rattle.frame_codec.proofs.Units.{opened_there, unit_is_read}

-- a regular frame has the frame length, and 16 bytes stand before it
frame_head : (want size : ℕ) (left : List ℕ) (head : UnitHead) (next : Place) → frame_start want size (place 0 left) ≡ Read head next → head.kind ≡ kinds.Regular → (head.size ≡ 16) × (head.length ≡ size)
frame_head want size left head next e regular =
    elim (frame_way want size left) [
      | Short short is ↦ absurd (let h = is 0 in cc)
      | Other long unmarked other is ↦ absurd (let h = is 0 in cc)
      | Numbered long short unmarked same is ↦ absurd (let h = is 0 in cc)
      | Regular long unmarked same is ↦
          let head_is = (read_once (frame_start want size (place 0 left)) head _ next _ e (is 0)).0 in
          (ap (λ (h : UnitHead). h.size) head_is, ap (λ (h : UnitHead). h.length) head_is)
      | Marked long short marked is ↦ absurd (let h = is 0 in cc)
      | FinalOther long marked other is ↦ absurd (let h = is 0 in cc)
      | FinalNumbered long short marked same is ↦ absurd (let h = is 0 in cc)
      | FinalLong long marked same over is ↦ absurd (let h = is 0 in cc)
      | Final long marked same within is ↦
          let head_is = (read_once (frame_start want size (place 0 left)) head _ next _ e (is 0)).0 in
          absurd (not_regular (sym (ap (λ (h : UnitHead). h.kind) head_is) ∙ regular))
    ]
  where
    not_regular : kinds.Final ≡ kinds.Regular → ⊥
    not_regular e = cc

more_kind : (kind : UnitKind) (x text : List ℕ) → More x ≡ piece_of kind text → kind ≡ kinds.Regular
more_kind kinds.Regular x text e = refl
more_kind kinds.Final x text e = absurd cc
more_kind kinds.Single x text e = absurd cc

-- a regular frame that was read has the frame length and 32 bytes
pub frame_sized : (frame_length : ℕ) (u : Under) (k : ℕ) (p : Place) (x : List ℕ) (next : Place) → frame frame_length u k p ≡ Read (More x) next → (frame_length + 32 ≤ length p.left) × (next ≡ past (frame_length + 32) p)
unfolding frame unit_head
frame_sized frame_length u k p x next e =
    let r = unit_is_read (contents.Framed frame_length) None u.key u.id (k + 1) p (More x) next e in
    let sizes = frame_head (k + 1) frame_length p.left r.head _ (r.reads.is 0) (more_kind r.head.kind x r.text r.piece_is) in
    let sum : unit_size r.head ≡ frame_length + 32 = omega (arith, sizes.0, sizes.1) in
    (subst (λ (n : ℕ). n ≤ length p.left) sum r.long, r.after ∙ ap (λ (n : ℕ). past n p) sum)

more_text : (kind : UnitKind) (x text : List ℕ) → More x ≡ piece_of kind text → x ≡ text
more_text kinds.Regular x text e = cc
more_text kinds.Final x text e = absurd cc
more_text kinds.Single x text e = absurd cc

-- what opens is as long as its ciphertext
pub opened_length : (key id : List ℕ) (head : UnitHead) (left text : List ℕ) → head.length ≤ length left → opened_there key id head left ≡ Some text → length text ≡ head.length
unfolding opened_unit
opened_length key id head left text long good =
    let aad = unit_aad id head.kind head.number head.length in
    let sealed_is = sealed_from_opened key head.iv aad text (take head.length left) (take 16 (drop head.length left)) good in
    omega (arith, sym (length-sealed_cipher key head.iv aad text), ap (λ (s : List ℕ × List ℕ). length s.0) sealed_is, length-take head.length left)

-- the content of a regular frame has the frame length
pub frame_content : (frame_length : ℕ) (u : Under) (k : ℕ) (p : Place) (x : List ℕ) (next : Place) → frame frame_length u k p ≡ Read (More x) next → length x ≡ frame_length
unfolding frame unit_head
frame_content frame_length u k p x next e =
    let r = unit_is_read (contents.Framed frame_length) None u.key u.id (k + 1) p (More x) next e in
    let sizes = frame_head (k + 1) frame_length p.left r.head _ (r.reads.is 0) (more_kind r.head.kind x r.text r.piece_is) in
    let len = opened_length u.key u.id r.head (drop r.head.size p.left) r.text (omega (arith, r.long, length-drop r.head.size p.left)) r.good in
    ap length (more_text r.head.kind x r.text r.piece_is) ∙ len ∙ sizes.1
