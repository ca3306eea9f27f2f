-- Units that are refused: which fields have a fault, and when the tag is wrong.
use Rattle.std.proofs.Common.{◌≡◌, ◌↔◌, ◌⊎◌, ℕ, ◌+◌, ◌≤◌, List, length, take, drop, Option, Some, None, refl, sym, ap, ◌∙◌, arith, inl, inr}
use Rattle.std.proofs.lemmas.Bool.{cases_lt}
use Rattle.std.proofs.lemmas.List.{drop-drop}
use Rattle.esdk_fields.specs.declared.faults.Fault.{Fault}
use Rattle.esdk_fields.specs.declared.faults.Fault.TheVariants.{WrongSequence, FinalTooLong, BlockTooLong, UnitTooLong, UnitTag}
use Rattle.esdk_fields.specs.declared.contents.Content.{Content}
use Rattle.esdk_fields.specs.declared.contents.Content.TheVariants as contents
use Rattle.esdk_fields.specs.Place.{start}
use Rattle.esdk_fields.specs.Reading.{Reading, Refused, then_read}
use Rattle.esdk_fields.proofs.Inverse.{then_is_refused}
use Rattle.frame_codec.specs.declared.unit_heads.UnitHead.{UnitHead}
use Rattle.frame_codec.specs.declared.unit_heads.Head.TheVariants as heads
use Rattle.frame_codec.specs.UnitHead.{frame_start, block_start, unit_head, head_of}
use Rattle.frame_codec.specs.Unit.{Piece, opened_unit, unit}
use Rattle.frame_codec.specs.Rows.{number_at, long_number_at, UnitHasFault, OtherNumber, OtherFinalNumber, LongFinal, LongBlock, LimitedBlock, HasWrongTag}
use Rattle.esdk_fields.proofs.Limited.{over_limit, limit_over}
use Rattle.frame_codec.proofs.Fields.{place}
use Rattle.frame_codec.proofs.Steps.{after_head}
use Rattle.frame_codec.proofs.Ways.{number_refused, final_number_refused, final_refused, Short, Other, Numbered, Regular, Marked, FinalOther, FinalNumbered, FinalLong, Final, frame_way, block_refused, block_limited, BlockShort, BlockLong, BlockOver, Block, block_way}
use Rattle.frame_codec.proofs.Heads.{Wants, Refuses, Reads, head_way, ReadsHead, head_refuses, head_reads}
use Rattle.frame_codec.specs.InPlace.{unit_size}
use Rattle.frame_codec.proofs.Units.{opened_there, unit_wants, unit_reads, unit_refuses}
use Rattle.frame_codec.proofs.Answering.{refused_answer, unit_answer}

-- ---- fields before the content

names : (content : Content) (want : ℕ) (max_unit : Option ℕ) (bytes : List ℕ) (fault : Fault) (at : ℕ) → UnitHasFault content want max_unit bytes fault at
    → unit_head content want max_unit (start bytes) ≡ Refused fault at
unfolding unit_head
names content want max_unit bytes fault at (OtherNumber size is long unmarked other fault_is end) = rw (is, fault_is, end) (number_refused want size bytes long unmarked other 0)
names content want max_unit bytes fault at (OtherFinalNumber size is long marked other fault_is end) = rw (is, fault_is, end) (final_number_refused want size bytes long marked other 0)
names content want max_unit bytes fault at (LongFinal size is long marked same over fault_is end) = rw (is, fault_is, end) (final_refused want size bytes long marked same over 0)
names content want max_unit bytes fault at (LongBlock is long over fault_is end) = rw (is, fault_is, end) (block_refused max_unit bytes long over 0)
names content want max_unit bytes fault at (LimitedBlock is long within over fault_is end) =
    rw (is, fault_is, end) (block_limited max_unit bytes long within (limit_over max_unit (long_number_at 12 bytes) over) 0)

same_refusal : (r : Reading UnitHead) (f g : Fault) (m n : ℕ) → r ≡ Refused f m → r ≡ Refused g n → (g ≡ f) × (n ≡ m)
same_refusal r f g m n e h = (cc, cc)

named : (content : Content) (want : ℕ) (max_unit : Option ℕ) (bytes : List ℕ) (fault : Fault) (at : ℕ) → unit_head content want max_unit (start bytes) ≡ Refused fault at
    → UnitHasFault content want max_unit bytes fault at
unfolding unit_head
named contents.Single want max_unit bytes fault at e =
    let count = long_number_at 12 bytes in
    elim (block_way max_unit bytes) [
      | BlockShort short is ↦ absurd (let h = is 0 in cc)
      | BlockLong long over is ↦ let s = same_refusal (block_start max_unit (place 0 bytes)) (BlockTooLong count) fault 20 at (is 0) e in LongBlock refl long over s.0 s.1
      | BlockOver long within over is ↦
          let s = same_refusal (block_start max_unit (place 0 bytes)) (UnitTooLong count) fault 20 at (is 0) e in
          LimitedBlock refl long within (over_limit max_unit count over) s.0 s.1
      | Block long within under is ↦ absurd (let h = is 0 in cc)
    ]
named (contents.Framed size) want max_unit bytes fault at e =
    let reading = frame_start want size (place 0 bytes) in
    elim (frame_way want size bytes) [
      | Short short is ↦ absurd (let h = is 0 in cc)
      | Other long unmarked other is ↦ let s = same_refusal reading (WrongSequence want (number_at 0 bytes)) fault 4 at (is 0) e in OtherNumber size refl long unmarked other s.0 s.1
      | Numbered long short unmarked same is ↦ absurd (let h = is 0 in cc)
      | Regular long unmarked same is ↦ absurd (let h = is 0 in cc)
      | Marked long short marked is ↦ absurd (let h = is 0 in cc)
      | FinalOther long marked other is ↦ let s = same_refusal reading (WrongSequence want (number_at 4 bytes)) fault 8 at (is 0) e in OtherFinalNumber size refl long marked other s.0 s.1
      | FinalNumbered long short marked same is ↦ absurd (let h = is 0 in cc)
      | FinalLong long marked same over is ↦ let s = same_refusal reading (FinalTooLong (number_at 20 bytes)) fault 24 at (is 0) e in LongFinal size refl long marked same over s.0 s.1
      | Final long marked same within is ↦ absurd (let h = is 0 in cc)
    ]

pub names_faults : (content : Content) (want : ℕ) (max_unit : Option ℕ) (bytes : List ℕ) (fault : Fault)
    → (head_of content want max_unit bytes ≡ heads.Refused fault) ↔ ((at : ℕ) × UnitHasFault content want max_unit bytes fault at)
names_faults content want max_unit bytes fault = (
  λ e. let r = head_refuses content want max_unit bytes fault e in (0 + r.end, named content want max_unit bytes fault (0 + r.end) (r.is 0)),
  λ f. refused_answer content want max_unit bytes fault f.0 (names content want max_unit bytes fault f.0 f.1),
)

-- ---- units that are refused

refused : (content : Content) (max_unit : Option ℕ) (key id : List ℕ) (want : ℕ) (bytes : List ℕ) (fault : Fault) (at : ℕ)
    → UnitHasFault content want max_unit bytes fault at ⊎ HasWrongTag content want max_unit key id bytes fault at → unit content max_unit key id want (start bytes) ≡ Refused fault at
unfolding unit
refused content max_unit key id want bytes fault at (inl f) = ap (λ r. then_read r (after_head key id)) (names content want max_unit bytes fault at f)
refused content max_unit key id want bytes fault at (inr t) =
    let reads = head_reads content want max_unit bytes t.head t.good in
    let tag : opened_there key id t.head (drop t.head.size bytes) ≡ None =
    ap (λ (b : List ℕ). opened_unit key id t.head (take t.head.length (drop t.head.size bytes)) (take 16 b)) (drop-drop t.head.length t.head.size bytes) ∙ t.closed in
    let end : 0 + unit_size t.head ≡ at = omega (arith, t.end) in
    unit_refuses content max_unit key id want bytes t.head 0 reads t.whole tag ∙ ap (λ (n : ℕ). refusal (UnitTag t.head.number) n) end ∙ ap (λ (f : Fault). refusal f at) (sym t.fault_is)
  where
    refusal : Fault → ℕ → Reading Piece
    refusal f n = Refused f n

-- behind a good head, whether it opens or not
tag_wrong : (content : Content) (max_unit : Option ℕ) (key id : List ℕ) (want : ℕ) (bytes : List ℕ) (fault : Fault) (at : ℕ) (head : UnitHead) → ReadsHead content want max_unit bytes head
    → (o : Option (List ℕ)) → opened_there key id head (drop head.size bytes) ≡ o → unit content max_unit key id want (start bytes) ≡ Refused fault at
    → HasWrongTag content want max_unit key id bytes fault at
tag_wrong content max_unit key id want bytes fault at head reads o is e =
    elim (cases_lt (length bytes) (unit_size head)) [
      | inl short ↦ absurd (let h = unit_wants content max_unit key id want bytes head 0 reads short in cc)
      | inr long ↦ by_tag o long is
    ]
  where
    same : (r : Reading Piece) (f g : Fault) (m n : ℕ) → r ≡ Refused f m → r ≡ Refused g n → (g ≡ f) × (n ≡ m)
    same r f g m n e h = (cc, cc)

    by_tag : (o : Option (List ℕ)) → unit_size head ≤ length bytes → opened_there key id head (drop head.size bytes) ≡ o → HasWrongTag content want max_unit key id bytes fault at
    by_tag (Some text) long is = absurd (let h = unit_reads content max_unit key id want bytes text head 0 reads long is in cc)
    by_tag None long is =
        let s = same (unit content max_unit key id want (start bytes)) (UnitTag head.number) fault (0 + unit_size head) at (unit_refuses content max_unit key id want bytes head 0 reads long is) e in
        record {
          head = head;
          good = unit_answer content want max_unit bytes head _ _ (reads.is 0);
          whole = long;
          closed = ap (λ (b : List ℕ). opened_unit key id head (take head.length (drop head.size bytes)) (take 16 b)) (sym (drop-drop head.length head.size bytes)) ∙ is;
          fault_is = s.0;
          end = omega (arith, s.1);
        }

refuses : (content : Content) (max_unit : Option ℕ) (key id : List ℕ) (want : ℕ) (bytes : List ℕ) (fault : Fault) (at : ℕ) → unit content max_unit key id want (start bytes) ≡ Refused fault at
    → UnitHasFault content want max_unit bytes fault at ⊎ HasWrongTag content want max_unit key id bytes fault at
unfolding unit
refuses content max_unit key id want bytes fault at e =
    elim (then_is_refused (unit_head content want max_unit (start bytes)) (after_head key id) fault at e) [
      | inl first ↦ inl (named content want max_unit bytes fault at first)
      | inr second ↦ elim (head_way content want max_unit bytes) [
        | Wants is ↦ absurd (let h = is 0 in let k = second.first in cc)
        | Refuses other n inside is ↦ absurd (let h = is 0 in let k = second.first in cc)
        | Reads head inside some is ↦
            inr (tag_wrong content max_unit key id want bytes fault at head (record { inside = inside; some = some; is = is }) (opened_there key id head (drop head.size bytes)) refl e)
      ]
    ]

pub refuses_faulty : (content : Content) (max_unit : Option ℕ) (key id : List ℕ) (want : ℕ) (bytes : List ℕ) (fault : Fault) (at : ℕ)
    → (unit content max_unit key id want (start bytes) ≡ Refused fault at) ↔ (UnitHasFault content want max_unit bytes fault at ⊎ HasWrongTag content want max_unit key id bytes fault at)
refuses_faulty content max_unit key id want bytes fault at = (refuses content max_unit key id want bytes fault at, refused content max_unit key id want bytes fault at)
