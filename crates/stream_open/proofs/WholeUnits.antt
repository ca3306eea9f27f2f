-- A unit whose content's length is known: until its last byte came it wants more, and then it opens or has a fault.
use Rattle.std.proofs.Common.{◌≡◌, ◌≢◌, ℕ, ◌+◌, ◌-◌, ◌<◌, ◌≤◌, Option, Some, None, List, [], ◌++◌, length, take, drop, min, refl, sym, ap, subst, ◌∙◌, arith, inl, inr}
use Rattle.std.proofs.lemmas.Bool.{cases_lt}
use Rattle.std.proofs.lemmas.List.{length-append, length-take}
use Rattle.esdk_fields.specs.declared.contents.Content.{Content}
use Rattle.esdk_fields.specs.declared.contents.Content.TheVariants.{Single, Framed}
use Rattle.esdk_fields.specs.declared.faults.Fault.TheVariants.{UnitTag}
use Rattle.esdk_fields.specs.Place.{start}
use Rattle.esdk_fields.specs.Reading.{Wanting}
use Rattle.esdk_fields.proofs.Fronts.{value_stays, read_after, fault_after_at}
use Rattle.frame_codec.specs.declared.unit_heads.UnitHead.{UnitHead}
use Rattle.frame_codec.specs.declared.unit_heads.Head.TheVariants as heads
use Rattle.frame_codec.specs.Rows.{ForNumber, ForRegular, ForFinalNumber, ForFinal, ForBlock, number_at, long_number_at}
use Rattle.frame_codec.specs.Unit.{piece_of, unit}
use Rattle.frame_codec.specs.UnitHead.{IfRegular, unit_head, head_of}
use Rattle.frame_codec.proofs.Answering.{asks_for_more, unit_answer}
use Rattle.frame_codec.proofs.Fields.{place, read_once}
use Rattle.frame_codec.proofs.Heads.{ReadsHead, head_reads}
use Rattle.frame_codec.proofs.Order.{IsSequential-unit_head, IsSequential-unit}
use Rattle.frame_codec.proofs.Steps.{made_regular, made_final, made_block}
use Rattle.frame_codec.specs.InPlace.{unit_size, whole_reading}
use Rattle.frame_codec.proofs.InPlace.{whole_is as unit_whole}
use Rattle.frame_codec.proofs.Units.{unit_wants}
use Rattle.frame_codec.proofs.Ways.{Short, Other, Numbered, Regular, Marked, FinalOther, FinalNumbered, FinalLong, Final, frame_way, BlockShort, BlockLong, BlockOver, Block, block_way}
use Rattle.stream_open.specs.declared.body.Body.{Body}
use Rattle.frame_codec.specs.UnitBuffer.{UnitValue, opened_of}
use Rattle.stream_open.specs.Body.{IsInUnit, LacksRoom, open_unit}
use Rattle.stream_open.proofs.Filling.{IsFilled, taken_on, held_count, filled_more}

-- ---- what is known of the unit's size

-- what the next decision needs is never more than what stands before the content
pub needs_few : (content : Content) (want : ℕ) (max_unit : Option ℕ) (bytes : List ℕ) (n : ℕ) → head_of content want max_unit bytes ≡ heads.NeedMore n → n ≤ 24
needs_few content want max_unit bytes n e =
    elim ((asks_for_more content want max_unit bytes n).0 e) [
      | ForNumber size is n_is short ↦ omega arith
      | ForRegular size is n_is long short unmarked same ↦ omega arith
      | ForFinalNumber size is n_is long short marked ↦ omega arith
      | ForFinal size is n_is long short marked same ↦ omega arith
      | ForBlock is n_is short ↦ omega arith
    ]

-- A frame has at most forty bytes beside the longest content, and a regular one has the number that is wanted.
pub record GoodHead (content : Content) (want : ℕ) (head : UnitHead) : Type 0 where
  pub numbered : IfRegular head.kind (head.number ≡ want)
  pub room : (size : ℕ) → content ≡ Framed size → unit_size head ≤ size + 40

good_frame : (size want : ℕ) (max_unit : Option ℕ) (bytes : List ℕ) (head : UnitHead) → ReadsHead (Framed size) want max_unit bytes head → GoodHead (Framed size) want head
unfolding unit_head
good_frame size want max_unit bytes head reads =
    elim (frame_way want size bytes) [
      | Short short is ↦ absurd (let h = reads.is 0 in let w = is 0 in cc)
      | Other long unmarked other is ↦ absurd (let h = reads.is 0 in let w = is 0 in cc)
      | Numbered long short unmarked same is ↦ absurd (let h = reads.is 0 in let w = is 0 in cc)
      | Regular long unmarked same is ↦
          subst (GoodHead (Framed size) want) (read_once (unit_head (Framed size) want max_unit (place 0 bytes)) (made_regular want size (take 12 (drop 4 bytes))) head _ _ (is 0) (reads.is 0)).0
          (record { numbered = refl; room = λ other e. roomy size other 16 size e (omega arith) })
      | Marked long short marked is ↦ absurd (let h = reads.is 0 in let w = is 0 in cc)
      | FinalOther long marked other is ↦ absurd (let h = reads.is 0 in let w = is 0 in cc)
      | FinalNumbered long short marked same is ↦ absurd (let h = reads.is 0 in let w = is 0 in cc)
      | FinalLong long marked same over is ↦ absurd (let h = reads.is 0 in let w = is 0 in cc)
      | Final long marked same within is ↦
          subst (GoodHead (Framed size) want) (read_once (unit_head (Framed size) want max_unit (place 0 bytes)) (made_final want (take 12 (drop 8 bytes)) (number_at 20 bytes)) head _ _ (is 0) (reads.is 0)).0
          (record { numbered = tt; room = λ other e. roomy size other 24 (number_at 20 bytes) e (omega arith) })
    ]
  where
    same_size : (m n : ℕ) → Framed m ≡ Framed n → m ≡ n
    same_size m n e = cc

    roomy : (size other front inner : ℕ) → Framed size ≡ Framed other → front + inner + 16 ≤ size + 40 → front + inner + 16 ≤ other + 40
    roomy size other front inner e h = let same : size ≡ other = same_size size other e in omega arith

good_block : (want : ℕ) (max_unit : Option ℕ) (bytes : List ℕ) (head : UnitHead) → ReadsHead Single want max_unit bytes head → GoodHead Single want head
unfolding unit_head
good_block want max_unit bytes head reads =
    elim (block_way max_unit bytes) [
      | BlockShort short is ↦ absurd (let h = reads.is 0 in let w = is 0 in cc)
      | BlockLong long over is ↦ absurd (let h = reads.is 0 in let w = is 0 in cc)
      | BlockOver long within over is ↦ absurd (let h = reads.is 0 in let w = is 0 in cc)
      | Block long within under is ↦
          subst (GoodHead Single want) (read_once (unit_head Single want max_unit (place 0 bytes)) (made_block (take 12 bytes) (long_number_at 12 bytes)) head _ _ (is 0) (reads.is 0)).0
          (record { numbered = tt; room = λ size e. absurd cc })
    ]

pub good_head : (content : Content) (want : ℕ) (max_unit : Option ℕ) (bytes : List ℕ) (head : UnitHead) → head_of content want max_unit bytes ≡ heads.Unit head → GoodHead content want head
good_head Single want max_unit bytes head e = good_block want max_unit bytes head (head_reads Single want max_unit bytes head e)
good_head (Framed size) want max_unit bytes head e = good_frame size want max_unit bytes head (head_reads (Framed size) want max_unit bytes head e)

-- more was needed than is reserved only for a single block
lacks : (content : Content) (reserved end : ℕ) → ((size : ℕ) → content ≡ Framed size → end ≤ size + 40) → reserved < end → Rattle.stream_open.specs.Body.HoldsFrames content reserved → ⊥
lacks Single reserved end room short holds = holds
lacks (Framed size) reserved end room short holds = let most = room size refl in omega arith

pub lacks_room : (body : Body) (end : ℕ) → ((size : ℕ) → body.content ≡ Framed size → end ≤ size + 40) → body.unit.reserved < end → LacksRoom body
lacks_room body end room short = lacks body.content body.unit.reserved end room short

-- ---- when more bytes follow

pub head_stays : (content : Content) (want : ℕ) (max_unit : Option ℕ) (bytes more : List ℕ) (head : UnitHead) → head_of content want max_unit bytes ≡ heads.Unit head
    → head_of content want max_unit (bytes ++ more) ≡ heads.Unit head
head_stays content want max_unit bytes more head e =
    unit_answer content want max_unit (bytes ++ more) head (0 + head.size) (drop head.size bytes ++ more)
    (value_stays (unit_head content want max_unit) bytes more head (place (0 + head.size) (drop head.size bytes)) (IsSequential-unit_head content want max_unit) ((head_reads content want max_unit bytes head e).is 0))

-- as long as not all of the unit is there, it wants more
pub wants_within : (old : Body) (piece : List ℕ) (used k : ℕ) (head : UnitHead) → head_of old.content old.number old.max_unit (old.unit.held ++ take used piece) ≡ heads.Unit head
    → used ≤ k → length (old.unit.held ++ take k piece) < unit_size head → open_unit old (old.unit.held ++ take k piece) ≡ Wanting
wants_within old piece used k head known low short =
    let on = taken_on old.unit.held piece used k low in
    let still = head_stays old.content old.number old.max_unit (old.unit.held ++ take used piece) (take (k - used) (drop used piece)) head known in
    unit_wants old.content old.max_unit old.key old.message_id old.number (old.unit.held ++ take k piece) head 0
    (head_reads old.content old.number old.max_unit (old.unit.held ++ take k piece) head (ap (head_of old.content old.number old.max_unit) on ∙ still)) short

-- ---- when all of it is there

pub whole_is : (old : Body) (bytes : List ℕ) (head : UnitHead) (o : Option (List ℕ)) → head_of old.content old.number old.max_unit bytes ≡ heads.Unit head → unit_size head ≤ length bytes
    → opened_of old.key old.message_id head bytes ≡ o → open_unit old bytes ≡ whole_reading head bytes o
whole_is old bytes head o known long opens = unit_whole old.content old.max_unit old.key old.message_id old.number bytes head o known long opens

-- bytes that want more are fewer than the unit has
short_by : (old : Body) (bytes more : List ℕ) (head : UnitHead) (o : Option (List ℕ)) → open_unit old bytes ≡ Wanting → open_unit old (bytes ++ more) ≡ whole_reading head (bytes ++ more) o
    → length bytes < unit_size head
short_by old bytes more head (Some text) wants is =
    let h = read_after (unit old.content old.max_unit old.key old.message_id old.number) bytes more (piece_of head.kind text) (place (0 + unit_size head) (drop (unit_size head) (bytes ++ more)))
    (IsSequential-unit old.content old.max_unit old.key old.message_id old.number) wants is in
    omega arith
short_by old bytes more head None wants is =
    let h = fault_after_at (unit old.content old.max_unit old.key old.message_id old.number) (start bytes) more (UnitTag head.number) (0 + unit_size head)
    (IsSequential-unit old.content old.max_unit old.key old.message_id old.number) wants is in
    omega arith

pub short_before : (old : Body) (bytes more : List ℕ) (head : UnitHead) → open_unit old bytes ≡ Wanting → head_of old.content old.number old.max_unit (bytes ++ more) ≡ heads.Unit head
    → length bytes < unit_size head
short_before old bytes more head wants known =
    elim (cases_lt (length bytes) (unit_size head)) [
      | inl short ↦ short
      | inr long ↦ short_by old bytes more head (opened_of old.key old.message_id head (bytes ++ more)) wants
          (whole_is old (bytes ++ more) head (opened_of old.key old.message_id head (bytes ++ more)) known (omega (arith, length-append bytes more)) refl)
    ]

-- no byte behind the unit was taken
pub fits_unit : (old now : Body) (piece : List ℕ) (used : ℕ) (head : UnitHead) → IsFilled old piece used now → IsInUnit old → open_unit old old.unit.held ≡ Wanting
    → head_of old.content old.number old.max_unit (old.unit.held ++ take used piece) ≡ heads.Unit head → length (old.unit.held ++ take used piece) ≤ unit_size head
fits_unit old now piece used head filled inside wants known =
    elim (cases_lt 0 used) [
      | inr none ↦
          (let fewer = short_before old old.unit.held (take used piece) head wants known in
          omega (arith, length-append old.unit.held (take used piece), length-take used piece))
      | inl some ↦
          (let on : old.unit.held ++ take used piece ≡ old.unit.held ++ take (used - 1) piece ++ take (used - (used - 1)) (drop (used - 1) piece) = taken_on old.unit.held piece (used - 1) used (omega arith) in
          let fewer = short_before old (old.unit.held ++ take (used - 1) piece) (take (used - (used - 1)) (drop (used - 1) piece)) head (filled.wanting inside (used - 1) (omega arith))
          (sym (ap (head_of old.content old.number old.max_unit) on) ∙ known) in
          omega (arith, length-append old.unit.held (take used piece), length-append old.unit.held (take (used - 1) piece), length-take used piece, length-take (used - 1) piece, filled.within))
    ]

-- up to the unit's last byte, or to the end of the piece
pub filled_within : (old now : Body) (piece : List ℕ) (used count : ℕ) (head : UnitHead) (u : UnitValue) → IsFilled old piece used now
    → head_of old.content old.number old.max_unit (old.unit.held ++ take used piece) ≡ heads.Unit head
    → used + count ≤ length piece → (1 ≤ count → length (old.unit.held ++ take used piece) + count ≤ unit_size head)
    → u ≡ record now.unit { held = now.unit.held ++ take count (drop used piece); out = [] }
    → IsFilled old piece (used + count) (record now { unit = u })
filled_within old now piece used count head u filled known within most is =
    filled_more old now piece used count u filled
    (λ k low high. wants_within old piece used k head known low (let grown = held_count old.unit.held piece used k low filled.within in let end = most (omega arith) in omega arith)) within is

-- The unit's bytes were taken, up to its last or to the end of the piece.
pub record FilledUnit (old now : Body) (piece : List ℕ) (n : ℕ) (head : UnitHead) : Type 0 where
  pub on : IsFilled old piece n now
  pub known : head_of old.content old.number old.max_unit (old.unit.held ++ take n piece) ≡ heads.Unit head
  pub all : IsInUnit old → open_unit old old.unit.held ≡ Wanting → length now.unit.held ≢ unit_size head → (n ≡ length piece) × (length (old.unit.held ++ take n piece) < unit_size head)

pub filled_unit : (old now : Body) (piece : List ℕ) (used count : ℕ) (head : UnitHead) (u : UnitValue) → IsFilled old piece used now
    → head_of old.content old.number old.max_unit (old.unit.held ++ take used piece) ≡ heads.Unit head
    → count ≡ min (unit_size head - length now.unit.held) (length piece - used)
    → u ≡ record now.unit { held = now.unit.held ++ take count (drop used piece); out = [] }
    → FilledUnit old (record now { unit = u }) piece (used + count) head
filled_unit old now piece used count head u filled known count_is is =
    let held : length now.unit.held ≡ length (old.unit.held ++ take used piece) = ap length filled.held in
    let within : used + count ≤ length piece = omega (arith, filled.within, count_is) in
    let on : IsFilled old piece (used + count) (record now { unit = u }) = filled_within old now piece used count head u filled known within (λ some. omega (arith, held, count_is)) is in
    let grown : old.unit.held ++ take (used + count) piece ≡ old.unit.held ++ take used piece ++ take (used + count - used) (drop used piece) = taken_on old.unit.held piece used (used + count) (omega arith) in
    record {
      on = on;
      known = ap (head_of old.content old.number old.max_unit) grown ∙ head_stays old.content old.number old.max_unit (old.unit.held ++ take used piece) (take (used + count - used) (drop used piece)) head known;
      all = λ inside wants other.
          let fits : length (old.unit.held ++ take used piece) ≤ unit_size head = fits_unit old now piece used head filled inside wants known in
          let long : length (old.unit.held ++ take used piece) ≡ length old.unit.held + used = omega (arith, length-append old.unit.held (take used piece), length-take used piece, filled.within) in
          let longer : length (old.unit.held ++ take (used + count) piece) ≡ length old.unit.held + (used + count) =
          omega (arith, length-append old.unit.held (take (used + count) piece), length-take (used + count) piece, within) in
          let here : length u.held ≡ length (old.unit.held ++ take (used + count) piece) = ap length on.held in
          elim (cases_lt (length u.held) (unit_size head)) [
            | inl short ↦ (omega (arith, fits, long, longer, here, held, count_is, filled.within), omega (arith, here))
            | inr full ↦ absurd (other (omega (arith, fits, long, longer, here, held, count_is)))
          ];
    }

-- what opens of the bytes that were taken
pub opened_before : (old now : Body) (piece : List ℕ) (n : ℕ) (head : UnitHead) (o : Option (List ℕ)) → IsFilled old piece n now → opened_of now.key now.message_id head now.unit.held ≡ o
    → opened_of old.key old.message_id head (old.unit.held ++ take n piece) ≡ o
opened_before old now piece n head o filled is =
    let same : opened_of now.key now.message_id head now.unit.held ≡ opened_of old.key old.message_id head (old.unit.held ++ take n piece) = rw (filled.same.key, filled.same.id, filled.held) refl in
    sym same ∙ is

-- the last byte of the unit came
pub whole_unit : (old now : Body) (piece : List ℕ) (n : ℕ) (head : UnitHead) (o : Option (List ℕ)) → FilledUnit old now piece n head → length now.unit.held ≡ unit_size head
    → opened_of now.key now.message_id head now.unit.held ≡ o → open_unit old (old.unit.held ++ take n piece) ≡ whole_reading head (old.unit.held ++ take n piece) o
whole_unit old now piece n head o filled full is =
    whole_is old (old.unit.held ++ take n piece) head o filled.known (omega (arith, ap length filled.on.held)) (opened_before old now piece n head o filled.on is)
