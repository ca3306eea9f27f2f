-- Reading a whole unit, when it is known what stands before its content.
use Rattle.std.proofs.Common.{◌≡◌, ℕ, ◌+◌, ◌<◌, ◌≤◌, List, length, take, drop, Option, Some, None, refl, ap, ◌∙◌, arith, inl, inr}
use Rattle.std.proofs.lemmas.Bool.{cases_lt}
use Rattle.std.proofs.lemmas.List.{drop-drop, length-drop}
use Rattle.esdk_fields.specs.declared.faults.Fault.{Fault}
use Rattle.esdk_fields.specs.declared.faults.Fault.TheVariants.{UnitTag}
use Rattle.esdk_fields.specs.declared.contents.Content.{Content}
use Rattle.esdk_fields.specs.declared.contents.Content.TheVariants as contents
use Rattle.esdk_fields.specs.Place.{Place, past}
use Rattle.esdk_fields.specs.Reading.{Reading, Read, Refused, Wanting, then_read, ◌>>=◌, done}
use Rattle.frame_codec.specs.declared.kinds.UnitKind.{UnitKind}
use Rattle.frame_codec.specs.declared.unit_heads.UnitHead.{UnitHead}
use Rattle.frame_codec.specs.declared.unit_heads.Head.TheVariants as heads
use Rattle.frame_codec.specs.UnitHead.{unit_head, head_of}
use Rattle.frame_codec.specs.InPlace.{unit_size}
use Rattle.frame_codec.specs.Unit.{Piece, piece_of, opens, opened_unit, unit, Under, frame}
use Rattle.frame_codec.proofs.Steps.{after_head}
use Rattle.frame_codec.proofs.Fields.{place, read_at, bytes_there, bytes_short, first_bytes_there, first_bytes_short, read_once}
use Rattle.frame_codec.proofs.Heads.{Wants, Refuses, Reads, head_way, ReadsHead, head_wants, head_refuses}

-- ---- content and tag

-- what opens is read
pub opened_read : (o : Option (List ℕ)) (text : List ℕ) (n : ℕ) (kind : UnitKind) (p : Place) → o ≡ Some text
    → (opens o (UnitTag n) >>= λ x. done (piece_of kind x)) p ≡ Read (piece_of kind text) p
opened_read (Some x) text n kind p e = ap (λ (y : List ℕ). Read (piece_of kind y) p) (same x text e)
  where
    same : (x y : List ℕ) → Some x ≡ Some y → x ≡ y
    same x y e = cc
opened_read None text n kind p e = absurd cc

opened_refused : (o : Option (List ℕ)) (n : ℕ) (kind : UnitKind) (p : Place) → o ≡ None → (opens o (UnitTag n) >>= λ x. done (piece_of kind x)) p ≡ Refused (UnitTag n) p.at
opened_refused (Some x) n kind p e = absurd cc
opened_refused None n kind p e = refl

-- the content, opened with the tag that stands behind it
abbrev pub opened_there : List ℕ → List ℕ → UnitHead → List ℕ → Option (List ℕ)
opened_there key id head left = opened_unit key id head (take head.length left) (take 16 (drop head.length left))

content_wants : (key id : List ℕ) (head : UnitHead) (left : List ℕ) (at : ℕ) → length left < head.length + 16 → after_head key id head (place at left) ≡ Wanting
content_wants key id head left at h =
    elim (cases_lt (length left) head.length) [
      | inl short ↦ rw (first_bytes_short head.length at left short) refl
      | inr there ↦ rw (first_bytes_there head.length at left there, bytes_short head.length 16 at left (omega arith) h) refl
    ]

content_reads : (key id : List ℕ) (head : UnitHead) (left text : List ℕ) (at : ℕ) → head.length + 16 ≤ length left → opened_there key id head left ≡ Some text
    → after_head key id head (place at left) ≡ Read (piece_of head.kind text) (place (at + (head.length + 16)) (drop (head.length + 16) left))
content_reads key id head left text at h good =
    rw (first_bytes_there head.length at left (omega arith), bytes_there head.length 16 at left h)
    (opened_read (opened_there key id head left) text head.number head.kind (place (at + (head.length + 16)) (drop (head.length + 16) left)) good)

content_refuses : (key id : List ℕ) (head : UnitHead) (left : List ℕ) (at : ℕ) → head.length + 16 ≤ length left → opened_there key id head left ≡ None
    → after_head key id head (place at left) ≡ Refused (UnitTag head.number) (at + (head.length + 16))
content_refuses key id head left at h bad =
    rw (first_bytes_there head.length at left (omega arith), bytes_there head.length 16 at left h)
    (opened_refused (opened_there key id head left) head.number head.kind (place (at + (head.length + 16)) (drop (head.length + 16) left)) bad)

-- ---- the unit

pub unit_wants_head : (content : Content) (max_unit : Option ℕ) (key id : List ℕ) (want : ℕ) (left : List ℕ) (n at : ℕ) → head_of content want max_unit left ≡ heads.NeedMore n
    → unit content max_unit key id want (place at left) ≡ Wanting
unfolding unit
unit_wants_head content max_unit key id want left n at e = ap (λ r. then_read r (after_head key id)) (head_wants content want max_unit left n at e)

pub unit_refuses_head : (content : Content) (max_unit : Option ℕ) (key id : List ℕ) (want : ℕ) (left : List ℕ) (fault : Fault) → head_of content want max_unit left ≡ heads.Refused fault
    → (end : ℕ) × (end ≤ length left) × ((at : ℕ) → unit content max_unit key id want (place at left) ≡ Refused fault (at + end))
unfolding unit
unit_refuses_head content max_unit key id want left fault e =
    let r = head_refuses content want max_unit left fault e in
    (r.end, r.inside, λ at. ap (λ r. then_read r (after_head key id)) (r.is at))

pub unit_wants : (content : Content) (max_unit : Option ℕ) (key id : List ℕ) (want : ℕ) (left : List ℕ) (head : UnitHead) (at : ℕ) → ReadsHead content want max_unit left head
    → length left < unit_size head → unit content max_unit key id want (place at left) ≡ Wanting
unfolding unit
unit_wants content max_unit key id want left head at reads short =
    ap (λ r. then_read r (after_head key id)) (reads.is at) ∙ content_wants key id head (drop head.size left) (at + head.size) (omega (arith, length-drop head.size left, reads.inside))

pub unit_reads : (content : Content) (max_unit : Option ℕ) (key id : List ℕ) (want : ℕ) (left text : List ℕ) (head : UnitHead) (at : ℕ) → ReadsHead content want max_unit left head
    → unit_size head ≤ length left → opened_there key id head (drop head.size left) ≡ Some text
    → unit content max_unit key id want (place at left) ≡ Read (piece_of head.kind text) (place (at + unit_size head) (drop (unit_size head) left))
unfolding unit
unit_reads content max_unit key id want left text head at reads long good =
    let sum : head.size + (head.length + 16) ≡ unit_size head = omega arith in
    ap (λ r. then_read r (after_head key id)) (reads.is at)
    ∙ content_reads key id head (drop head.size left) text (at + head.size) (omega (arith, length-drop head.size left)) good
    ∙ ap (λ (l : List ℕ). Read (piece_of head.kind text) (place (at + head.size + (head.length + 16)) l)) (drop-drop (head.length + 16) head.size left ∙ ap (λ (k : ℕ). drop k left) sum)
    ∙ read_at (piece_of head.kind text) (at + head.size + (head.length + 16)) (at + unit_size head) (drop (unit_size head) left) (omega arith)

pub unit_refuses : (content : Content) (max_unit : Option ℕ) (key id : List ℕ) (want : ℕ) (left : List ℕ) (head : UnitHead) (at : ℕ) → ReadsHead content want max_unit left head
    → unit_size head ≤ length left → opened_there key id head (drop head.size left) ≡ None
    → unit content max_unit key id want (place at left) ≡ Refused (UnitTag head.number) (at + unit_size head)
unfolding unit
unit_refuses content max_unit key id want left head at reads long bad =
    let sum : at + head.size + (head.length + 16) ≡ at + unit_size head = omega arith in
    ap (λ r. then_read r (after_head key id)) (reads.is at)
    ∙ content_refuses key id head (drop head.size left) (at + head.size) (omega (arith, length-drop head.size left)) bad
    ∙ ap (λ (k : ℕ). refusal (UnitTag head.number) k) sum
  where
    refusal : Fault → ℕ → Reading Piece
    refusal f at = Refused f at

-- a framed unit isn't limited by `max_unit`
pub frame_is : (frame_length : ℕ) (u : Under) (k : ℕ) (max_unit : Option ℕ) (p : Place) → unit (contents.Framed frame_length) max_unit u.key u.id (k + 1) p ≡ frame frame_length u k p
unfolding frame unit unit_head
frame_is frame_length u k max_unit p = refl

-- ---- what was read

-- The unit was there, its content opened, and this is what was read.
pub record UnitRead (content : Content) (max_unit : Option ℕ) (key id : List ℕ) (want : ℕ) (p : Place) (piece : Piece) (next : Place) : Type 0 where
  pub head : UnitHead
  pub reads : ReadsHead content want max_unit p.left head
  pub long : unit_size head ≤ length p.left
  pub text : List ℕ
  pub good : opened_there key id head (drop head.size p.left) ≡ Some text
  pub piece_is : piece ≡ piece_of head.kind text
  pub after : next ≡ past (unit_size head) p

read_head : (content : Content) (max_unit : Option ℕ) (key id : List ℕ) (want : ℕ) (p : Place) (piece : Piece) (next : Place) (head : UnitHead) → ReadsHead content want max_unit p.left head
    → (o : Option (List ℕ)) → opened_there key id head (drop head.size p.left) ≡ o → unit content max_unit key id want p ≡ Read piece next → UnitRead content max_unit key id want p piece next
read_head content max_unit key id want p piece next head reads o is e =
    elim (cases_lt (length p.left) (unit_size head)) [
      | inl short ↦ absurd (let h = unit_wants content max_unit key id want p.left head p.at reads short in cc)
      | inr long ↦ read_opened o long is
    ]
  where
    read_opened : (o : Option (List ℕ)) → unit_size head ≤ length p.left → opened_there key id head (drop head.size p.left) ≡ o → UnitRead content max_unit key id want p piece next
    read_opened (Some text) long is =
        let same = read_once (unit content max_unit key id want p) piece (piece_of head.kind text) next (past (unit_size head) p) e (unit_reads content max_unit key id want p.left text head p.at reads long is) in
        record { head = head; reads = reads; long = long; text = text; good = is; piece_is = same.0; after = same.1 }
    read_opened None long is = absurd (let h = unit_refuses content max_unit key id want p.left head p.at reads long is in cc)

pub unit_is_read : (content : Content) (max_unit : Option ℕ) (key id : List ℕ) (want : ℕ) (p : Place) (piece : Piece) (next : Place) → unit content max_unit key id want p ≡ Read piece next
    → UnitRead content max_unit key id want p piece next
unfolding unit
unit_is_read content max_unit key id want p piece next e =
    elim (head_way content want max_unit p.left) [
      | Wants is ↦ absurd (let h = ap (λ r. then_read r (after_head key id)) (is p.at) in cc)
      | Refuses fault k inside is ↦ absurd (let h = ap (λ r. then_read r (after_head key id)) (is p.at) in cc)
      | Reads head inside some is ↦ read_head content max_unit key id want p piece next head (record { inside = inside; some = some; is = is }) (opened_there key id head (drop head.size p.left)) refl e
    ]
