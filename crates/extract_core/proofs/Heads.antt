-- What is known of a unit once its head is.
use Rattle.std.proofs.Common.{◌≡◌, ℕ, ◌+◌, ◌^◌, ◌<◌, ◌≤◌, List, ◌++◌, length, take, drop, Option, Some, true, false, refl, sym, ap, subst, ◌∙◌, arith}
use Rattle.std.proofs.lemmas.List.{length-take}
use Rattle.esdk_fields.specs.declared.contents.Content.{Content}
use Rattle.esdk_fields.specs.declared.contents.Content.TheVariants.{Single, Framed}
use Rattle.esdk_fields.specs.Place.{start}
use Rattle.esdk_fields.specs.Reading.{Reading, Read, Refused, Wanting}
use Rattle.cipher_spec.specs.Gcm.{opened}
use Rattle.cipher_spec.proofs.GcmLemmas.{sealed_from_opened}
use Rattle.frame_codec.proofs.Ciphers.{length-sealed_cipher}
use Rattle.frame_codec.specs.declared.unit_heads.UnitHead.{UnitHead}
use Rattle.frame_codec.specs.declared.unit_heads.Head.{Head}
use Rattle.frame_codec.specs.declared.unit_heads.Head.TheVariants as heads
use Rattle.frame_codec.specs.InPlace.{unit_size}
use Rattle.frame_codec.specs.UnitAad.{unit_aad}
use Rattle.frame_codec.specs.Rows.{number_at, long_number_at}
use Rattle.frame_codec.specs.Unit.{opened_unit}
use Rattle.frame_codec.specs.UnitBuffer.{opened_of}
use Rattle.frame_codec.specs.UnitHead.{unit_head, head_from, head_of, longest_block, needed}
use Rattle.frame_codec.proofs.Answering.{decides}
use Rattle.frame_codec.proofs.Fields.{place, read_once}
use Rattle.frame_codec.proofs.Heads.{ReadsHead, head_reads}
use Rattle.frame_codec.proofs.Steps.{made_regular, made_final, made_block}
use Rattle.frame_codec.proofs.Units.{unit_wants, unit_wants_head}
use Rattle.frame_codec.proofs.Ways.{Short, Other, Numbered, Regular, Marked, FinalOther, FinalNumbered, FinalLong, Final, frame_way, BlockShort, BlockLong, BlockOver, Block, block_way}
use Rattle.stream_open.proofs.WholeUnits.{good_head, head_stays, needs_few}
use Rattle.extract_core.specs.declared.slots.Slots.{Slots}
use Rattle.extract_core.specs.Extracted.{slot_width}
use Rattle.extract_core.specs.Slots.{NeedsBytes, head_room, is_last, known, least_room}

-- How many bytes stand before the content and are in it, that a single block is the last unit, and that one that others follow has a slot's width.
pub record IsHead (content : Content) (head : UnitHead) : Type 0 where
  pub least : 16 ≤ head.size
  pub most : head.size ≤ 24
  pub frame : (frame : ℕ) → content ≡ Framed frame → head.length ≤ frame
  pub single : content ≡ Single → is_last head.kind ≡ true
  pub width : is_last head.kind ≡ false → unit_size head ≤ slot_width content

same_frame : (m n : ℕ) → Framed m ≡ Framed n → m ≡ n
same_frame m n e = cc

frame_is_head : (size want : ℕ) (max_unit : Option ℕ) (bytes : List ℕ) (head : UnitHead) → ReadsHead (Framed size) want max_unit bytes head → IsHead (Framed size) head
unfolding unit_head
frame_is_head size want max_unit bytes head reads =
    elim (frame_way want size bytes) [
      | Short short is ↦ absurd (let h = reads.is 0 in let w = is 0 in cc)
      | Other long unmarked other is ↦ absurd (let h = reads.is 0 in let w = is 0 in cc)
      | Numbered long short unmarked same is ↦ absurd (let h = reads.is 0 in let w = is 0 in cc)
      | Regular long unmarked same is ↦
          subst (IsHead (Framed size)) (read_once (unit_head (Framed size) want max_unit (place 0 bytes)) (made_regular want size (take 12 (drop 4 bytes))) head _ _ (is 0) (reads.is 0)).0
          (record { least = omega arith; most = omega arith; frame = λ other e. let same : size ≡ other = same_frame size other e in omega arith; single = λ e. absurd cc; width = λ e. omega arith })
      | Marked long short marked is ↦ absurd (let h = reads.is 0 in let w = is 0 in cc)
      | FinalOther long marked other is ↦ absurd (let h = reads.is 0 in let w = is 0 in cc)
      | FinalNumbered long short marked same is ↦ absurd (let h = reads.is 0 in let w = is 0 in cc)
      | FinalLong long marked same over is ↦ absurd (let h = reads.is 0 in let w = is 0 in cc)
      | Final long marked same within is ↦
          subst (IsHead (Framed size)) (read_once (unit_head (Framed size) want max_unit (place 0 bytes)) (made_final want (take 12 (drop 8 bytes)) (number_at 20 bytes)) head _ _ (is 0) (reads.is 0)).0
          (record { least = omega arith; most = omega arith; frame = λ other e. let same : size ≡ other = same_frame size other e in omega arith; single = λ e. absurd cc; width = λ e. absurd cc })
    ]

block_is_head : (want : ℕ) (max_unit : Option ℕ) (bytes : List ℕ) (head : UnitHead) → ReadsHead Single want max_unit bytes head → IsHead Single head
unfolding unit_head
block_is_head want max_unit bytes head reads =
    elim (block_way max_unit bytes) [
      | BlockShort short is ↦ absurd (let h = reads.is 0 in let w = is 0 in cc)
      | BlockLong long over is ↦ absurd (let h = reads.is 0 in let w = is 0 in cc)
      | BlockOver long within over is ↦ absurd (let h = reads.is 0 in let w = is 0 in cc)
      | Block long within under is ↦
          subst (IsHead Single) (read_once (unit_head Single want max_unit (place 0 bytes)) (made_block (take 12 bytes) (long_number_at 12 bytes)) head _ _ (is 0) (reads.is 0)).0
          (record { least = omega arith; most = omega arith; frame = λ size e. absurd cc; single = λ e. refl; width = λ e. absurd cc })
    ]

pub is_head : (content : Content) (want : ℕ) (max_unit : Option ℕ) (bytes : List ℕ) (head : UnitHead) → head_of content want max_unit bytes ≡ heads.Unit head → IsHead content head
is_head Single want max_unit bytes head e = block_is_head want max_unit bytes head (head_reads Single want max_unit bytes head e)
is_head (Framed size) want max_unit bytes head e = frame_is_head size want max_unit bytes head (head_reads (Framed size) want max_unit bytes head e)

-- the number that is wanted plays no part for a single block
pub one_block : (want : ℕ) (max_unit : Option ℕ) (bytes : List ℕ) → head_of Single want max_unit bytes ≡ head_of Single 1 max_unit bytes
unfolding head_of unit_head
one_block want max_unit bytes = refl

-- a slot's width, or a single block's head, is read in any case
pub least_within : (content : Content) (h : Head) → least_room content ≤ head_room content h
least_within content (heads.NeedMore end) = omega arith
least_within content (heads.Refused fault) = omega arith
least_within content (heads.Unit head) = omega arith

needs_same : (m n : ℕ) → heads.NeedMore m ≡ heads.NeedMore n → m ≡ n
needs_same m n e = cc

head_needs : (r : Reading UnitHead) (end : ℕ) → head_from 20 r ≡ heads.NeedMore end → end ≡ 20
head_needs (Read head next) end e = absurd cc
head_needs (Refused fault at) end e = absurd cc
head_needs Wanting end e = sym (needs_same 20 end e)

block_needs : (want end : ℕ) (max_unit : Option ℕ) (bytes : List ℕ) → head_of Single want max_unit bytes ≡ heads.NeedMore end → end ≡ 20
unfolding head_of needed
block_needs want end max_unit bytes e = head_needs (unit_head Single want max_unit (start bytes)) end e

-- what is needed before the content is within what is read in any case
needs_least : (content : Content) (want end : ℕ) (max_unit : Option ℕ) (bytes : List ℕ) → head_of content want max_unit bytes ≡ heads.NeedMore end → end ≤ least_room content
needs_least Single want end max_unit bytes e = omega (arith, block_needs want end max_unit bytes e)
needs_least (Framed frame) want end max_unit bytes e = let few = needs_few (Framed frame) want max_unit bytes end e in omega (arith, few)

-- a frame has at most 40 bytes beside its content
pub frame_room : (frame want : ℕ) (max_unit : Option ℕ) (bytes : List ℕ) (h : Head) → head_of (Framed frame) want max_unit bytes ≡ h → head_room (Framed frame) h ≤ frame + 40
frame_room frame want max_unit bytes (heads.NeedMore end) e = omega arith
frame_room frame want max_unit bytes (heads.Refused fault) e = omega arith
frame_room frame want max_unit bytes (heads.Unit head) e = let most = (good_head (Framed frame) want max_unit bytes head e).room frame refl in omega (arith, most)

-- and where others follow it a slot's width
pub width_room : (content : Content) (head : UnitHead) → IsHead content head → is_last head.kind ≡ false → head_room content (heads.Unit head) ≤ slot_width content
width_room Single head h others = absurd (let no : true ≡ false = sym (h.single refl) ∙ others in cc)
width_room (Framed frame) head h others = let most = h.width others in omega (arith, most)

pub needs_head : (s : Slots) (want end : ℕ) → known s want s.unit.held ≡ heads.NeedMore end → NeedsBytes s want end
needs_head s want end e =
    let few : end ≤ 24 = needs_few s.content want s.max_unit s.unit.held end e in
    record {
      more = (decides s.content want s.max_unit s.unit.held end e).fewer;
      few = omega arith;
      room = λ more. let least = least_within s.content (known s want (s.unit.held ++ more)) in omega (arith, needs_least s.content want end s.max_unit s.unit.held e, least);
      wanting = unit_wants_head s.content s.max_unit s.key s.message_id want s.unit.held end 0 e;
      within = λ bytes short head is. let h = is_head s.content want s.max_unit (s.unit.held ++ bytes) head is in omega (arith, h.least, short, few);
    }

same_head : (s : Slots) (want : ℕ) (bytes : List ℕ) (head other : UnitHead) → known s want s.unit.held ≡ heads.Unit head → known s want (s.unit.held ++ bytes) ≡ heads.Unit other → other ≡ head
same_head s want bytes head other e is = let stays = head_stays s.content want s.max_unit s.unit.held bytes head e in cc

pub needs_unit : (s : Slots) (want : ℕ) (head : UnitHead) → known s want s.unit.held ≡ heads.Unit head → head.length ≤ longest_block → length s.unit.held < unit_size head
    → NeedsBytes s want (unit_size head)
needs_unit s want head e short fewer =
    let h = is_head s.content want s.max_unit s.unit.held head e in
    let few : unit_size head ≤ 2 ^ 37 = omega (arith, h.most, short) in
    record {
      more = fewer;
      few = few;
      room = λ more. let stays = ap (head_room s.content) (head_stays s.content want s.max_unit s.unit.held more head e) in omega (arith, stays);
      wanting = unit_wants s.content s.max_unit s.key s.message_id want s.unit.held head 0 (head_reads s.content want s.max_unit s.unit.held head e) fewer;
      within = λ bytes most other is. let same = ap unit_size (same_head s want bytes head other e is) in omega (arith, most, same);
    }

-- what opens is as long as its ciphertext
pub length_opened : (key iv aad cipher tag text : List ℕ) → opened key iv aad cipher tag ≡ Some text → length text ≡ length cipher
length_opened key iv aad cipher tag text e =
    sym (length-sealed_cipher key iv aad text) ∙ ap (λ (s : List ℕ × List ℕ). length s.0) (sealed_from_opened key iv aad text cipher tag e)

-- what opens of a unit is no longer than its content is said to be
pub opened_short : (key id : List ℕ) (head : UnitHead) (bytes text : List ℕ) → opened_of key id head bytes ≡ Some text → length text ≤ head.length
unfolding opened_unit
opened_short key id head bytes text e =
    let cipher : List ℕ = take head.length (drop head.size bytes) in
    let same = length_opened key head.iv (unit_aad id head.kind head.number head.length) cipher (take 16 (drop (head.size + head.length) bytes)) text e in
    omega (arith, same, length-take head.length (drop head.size bytes))
