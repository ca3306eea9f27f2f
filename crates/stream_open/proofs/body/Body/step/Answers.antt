use Rattle.std.proofs.Common.{◌≡◌, ◌≢◌, ◌+◌, ◌-◌, ◌<◌, ◌≤◌, ◌++◌, ◌∙◌, ℕ, [], length, take, drop, min, List, Some, None, sym, ap, arith}
use Rattle.esdk_fields.specs.Reading.{Wanting}
use Rattle.frame_codec.specs.declared.unit_heads.UnitHead.{UnitHead}
use Rattle.frame_codec.specs.declared.unit_heads.Head.TheVariants as heads
use Rattle.frame_codec.specs.UnitHead.{head_of}
use Rattle.frame_codec.specs.InPlace.{unit_size}
use Rattle.frame_codec.specs.UnitBuffer.{opened_of}
use Rattle.stream_open.specs.declared.body.Body.{Body}
use Rattle.stream_open.specs.Body.{open_unit}
use Rattle.std.proofs.lemmas.List.{length-drop, take_all}
use Rattle.frame_codec.proofs.Answering.{decides}
use Rattle.stream_open.proofs.Filling.{IsFilled, heads_are, filled_on, wants_before}
use Rattle.stream_open.proofs.UnitAnswers.{refused_answer, wanting_answer, wanting_steps, whole_answer, opened_steps, short_of_memory}
use Rattle.stream_open.proofs.WholeUnits.{needs_few, good_head, lacks_room, wants_within, FilledUnit, filled_unit, whole_unit}
use Rattle.stream_open.proofs.Bodies.{answers_behind}
use Rattle.stream_open.proofs.body.Body.step.Goals as goal

pub returns-then-self-clause-answer : goal.returns-then-self-clause-answer
returns-then-self-clause-answer c = λ inside. answers_behind c.args.self.now c.args.piece.now c.answer_behind.result c.if-self.true c.answer_behind.ensures

pub fields-smaller : goal.fields-smaller
fields-smaller c =
    let fewer : length c.held-held.result.now < c.in-NeedMore.end =
    (decides c.fields.self.content c.fields.self.number c.fields.self.max_unit c.held-held.result.now c.in-NeedMore.end (sym c.in-NeedMore.ensures.answer)).fewer in
    omega (arith, fewer, ap length c.held-held.ensures, ap length c.held.ensures, c.in_ok-used-in-NeedMore.ensures.more, c.in_ok-used-in-NeedMore.ensures.most, c.if-held-end.false, c.fields.invariant.within)

pub fields-preserved : goal.fields-preserved
fields-preserved c =
    let filled = c.fields.invariant in
    let held : c.held-held.result.now ≡ c.args.self.now.unit.held ++ take c.fields.used c.args.piece.now = c.held-held.ensures ∙ filled.held in
    let needs = heads_are c.args.self.now c.fields.self c.held-held.result.now _ _ filled.same filled.number held c.in-NeedMore.ensures.answer in
    let fewer : length c.held-held.result.now < c.in-NeedMore.end =
    (decides c.fields.self.content c.fields.self.number c.fields.self.max_unit c.held-held.result.now c.in-NeedMore.end (sym c.in-NeedMore.ensures.answer)).fewer in
    let piece : List ℕ = c.args.piece.now in
    let count : ℕ = c.in_ok-used-in-NeedMore.field-0 in
    let most : count ≤ length piece - c.fields.used = omega (arith, c.in_ok-used-in-NeedMore.ensures.most) in
    let within : c.fields.used + count ≤ length piece = omega (arith, most, filled.within) in
    let short : length (c.args.self.now.unit.held ++ take c.fields.used piece) + count ≤ c.in-NeedMore.end =
    omega (arith, fewer, ap length held, c.in_ok-used-in-NeedMore.ensures.count, ap length c.held-held.ensures) in
    let taken : c.fill.new.self ≡ record c.fields.self.unit { held = c.fields.self.unit.held ++ take count (drop c.fields.used piece); out = [] } =
    rw (take_all (length piece - c.fields.used) (drop c.fields.used piece) (omega (arith, length-drop c.fields.used piece))) at c.in_ok-used-in-NeedMore.ensures.taken in
    let on : IsFilled c.args.self.now piece (c.fields.used + count) (record c.fields.self { unit = c.fill.new.self }) =
    filled_on c.args.self.now c.fields.self piece c.fields.used count c.in-NeedMore.end c.fill.new.self filled needs within short taken in
    on

pub returns-in-Refused-clause-answer : goal.returns-in-Refused-clause-answer
returns-in-Refused-clause-answer c = λ inside.
    let filled = c.fields.invariant in
    let held : c.held-held.result.now ≡ c.args.self.now.unit.held ++ take c.fields.used c.args.piece.now = c.held-held.ensures ∙ filled.held in
    refused_answer c.args.self.now c.args.piece.now c.fields.used c.in-Refused.fault c.if-self.false (inside c.if-self.false) filled.within (filled.wanting inside)
    (heads_are c.args.self.now c.fields.self c.held-held.result.now _ _ filled.same filled.number held c.in-Refused.ensures.answer)

pub returns-then-held-end-clause-answer : goal.returns-then-held-end-clause-answer
returns-then-held-end-clause-answer c = λ inside.
    let filled = c.fields.invariant in
    let held : c.held-held.result.now ≡ c.args.self.now.unit.held ++ take c.fields.used c.args.piece.now = c.held-held.ensures ∙ filled.held in
    let needs = heads_are c.args.self.now c.fields.self c.held-held.result.now _ _ filled.same filled.number held c.in-NeedMore.ensures.answer in
    let fewer : length c.held-held.result.now < c.in-NeedMore.end =
    (decides c.fields.self.content c.fields.self.number c.fields.self.max_unit c.held-held.result.now c.in-NeedMore.end (sym c.in-NeedMore.ensures.answer)).fewer in
    let piece : List ℕ = c.args.piece.now in
    let count : ℕ = c.in_ok-used-in-NeedMore.field-0 in
    let most : count ≤ length piece - c.fields.used = omega (arith, c.in_ok-used-in-NeedMore.ensures.most) in
    let within : c.fields.used + count ≤ length piece = omega (arith, most, filled.within) in
    let grown : length c.fill.new.self.held ≡ length c.fields.self.unit.held + count = c.in_ok-used-in-NeedMore.ensures.more in
    let less : length c.fill.new.self.held < c.in-NeedMore.end = omega (arith, ap length c.held.ensures, c.if-held-end.true) in
    let short : length (c.args.self.now.unit.held ++ take c.fields.used piece) + count ≤ c.in-NeedMore.end = omega (arith, less, grown, ap length filled.held) in
    let taken : c.fill.new.self ≡ record c.fields.self.unit { held = c.fields.self.unit.held ++ take count (drop c.fields.used piece); out = [] } =
    rw (take_all (length piece - c.fields.used) (drop c.fields.used piece) (omega (arith, length-drop c.fields.used piece))) at c.in_ok-used-in-NeedMore.ensures.taken in
    let on : IsFilled c.args.self.now piece (c.fields.used + count) (record c.fields.self { unit = c.fill.new.self }) =
    filled_on c.args.self.now c.fields.self piece c.fields.used count c.in-NeedMore.end c.fill.new.self filled needs within short taken in
    let is : open_unit c.args.self.now (c.args.self.now.unit.held ++ take (c.fields.used + count) piece) ≡ Wanting =
    wants_before c.args.self.now piece c.fields.used c.in-NeedMore.end (c.fields.used + count) needs (omega arith) (omega (arith, less, ap length on.held)) in
    let rest : length (take (length piece - c.fields.used) (drop c.fields.used piece)) ≡ length piece - c.fields.used =
    ap length (take_all (length piece - c.fields.used) (drop c.fields.used piece) (omega (arith, length-drop c.fields.used piece))) ∙ length-drop c.fields.used piece in
    let all : c.fields.used + count ≡ length piece = omega (arith, rest, less, grown, c.in_ok-used-in-NeedMore.ensures.count, filled.within) in
    wanting_answer c.args.self.now piece (c.fields.used + count) c.if-self.false all (on.wanting inside) is

pub returns-then-held-end-clause-steps : goal.returns-then-held-end-clause-steps
returns-then-held-end-clause-steps c = λ inside.
    let filled = c.fields.invariant in
    let held : c.held-held.result.now ≡ c.args.self.now.unit.held ++ take c.fields.used c.args.piece.now = c.held-held.ensures ∙ filled.held in
    let needs = heads_are c.args.self.now c.fields.self c.held-held.result.now _ _ filled.same filled.number held c.in-NeedMore.ensures.answer in
    let fewer : length c.held-held.result.now < c.in-NeedMore.end =
    (decides c.fields.self.content c.fields.self.number c.fields.self.max_unit c.held-held.result.now c.in-NeedMore.end (sym c.in-NeedMore.ensures.answer)).fewer in
    let piece : List ℕ = c.args.piece.now in
    let count : ℕ = c.in_ok-used-in-NeedMore.field-0 in
    let most : count ≤ length piece - c.fields.used = omega (arith, c.in_ok-used-in-NeedMore.ensures.most) in
    let within : c.fields.used + count ≤ length piece = omega (arith, most, filled.within) in
    let grown : length c.fill.new.self.held ≡ length c.fields.self.unit.held + count = c.in_ok-used-in-NeedMore.ensures.more in
    let less : length c.fill.new.self.held < c.in-NeedMore.end = omega (arith, ap length c.held.ensures, c.if-held-end.true) in
    let short : length (c.args.self.now.unit.held ++ take c.fields.used piece) + count ≤ c.in-NeedMore.end = omega (arith, less, grown, ap length filled.held) in
    let taken : c.fill.new.self ≡ record c.fields.self.unit { held = c.fields.self.unit.held ++ take count (drop c.fields.used piece); out = [] } =
    rw (take_all (length piece - c.fields.used) (drop c.fields.used piece) (omega (arith, length-drop c.fields.used piece))) at c.in_ok-used-in-NeedMore.ensures.taken in
    let on : IsFilled c.args.self.now piece (c.fields.used + count) (record c.fields.self { unit = c.fill.new.self }) =
    filled_on c.args.self.now c.fields.self piece c.fields.used count c.in-NeedMore.end c.fill.new.self filled needs within short taken in
    let is : open_unit c.args.self.now (c.args.self.now.unit.held ++ take (c.fields.used + count) piece) ≡ Wanting =
    wants_before c.args.self.now piece c.fields.used c.in-NeedMore.end (c.fields.used + count) needs (omega arith) (omega (arith, less, ap length on.held)) in
    wanting_steps c.args.self.now (record c.fields.self { unit = c.fill.new.self }) piece (c.fields.used + count) c.if-self.false is on

pub returns-in_err-used-in-NeedMore-clause-answer : goal.returns-in_err-used-in-NeedMore-clause-answer
returns-in_err-used-in-NeedMore-clause-answer c = λ inside.
    let filled = c.fields.invariant in
    let held : c.held-held.result.now ≡ c.args.self.now.unit.held ++ take c.fields.used c.args.piece.now = c.held-held.ensures ∙ filled.held in
    let needs = heads_are c.args.self.now c.fields.self c.held-held.result.now _ _ filled.same filled.number held c.in-NeedMore.ensures.answer in
    let few : c.in-NeedMore.end ≤ 24 = needs_few c.args.self.now.content c.args.self.now.number c.args.self.now.max_unit (c.args.self.now.unit.held ++ take c.fields.used c.args.piece.now) c.in-NeedMore.end needs in
    let short : c.args.self.now.unit.reserved < c.in-NeedMore.end = omega (arith, filled.same.reserved, c.in_err-used-in-NeedMore.ensures.short) in
    short_of_memory c.args.self.now c.args.piece.now c.from_residual.result c.from_residual.ensures.1 c.if-self.false (lacks_room c.args.self.now c.in-NeedMore.end (λ size is. omega (arith, few)) short)

pub returns-in_err-used-in-Unit-clause-answer : goal.returns-in_err-used-in-Unit-clause-answer
returns-in_err-used-in-Unit-clause-answer c = λ inside.
    let filled = c.fields.invariant in
    let held : c.held-held.result.now ≡ c.args.self.now.unit.held ++ take c.fields.used c.args.piece.now = c.held-held.ensures ∙ filled.held in
    let head : UnitHead = c.in-Unit.head in
    let known : head_of c.args.self.now.content c.args.self.now.number c.args.self.now.max_unit (c.args.self.now.unit.held ++ take c.fields.used c.args.piece.now) ≡ heads.Unit head =
    heads_are c.args.self.now c.fields.self c.held-held.result.now _ _ filled.same filled.number held c.in-Unit.ensures.answer in
    let good = good_head c.args.self.now.content c.args.self.now.number c.args.self.now.max_unit (c.args.self.now.unit.held ++ take c.fields.used c.args.piece.now) head known in
    let over : c.fields.self.unit.reserved < unit_size head = c.in_err-used-in-Unit.ensures.short in
    let short : c.args.self.now.unit.reserved < unit_size head = omega (arith, filled.same.reserved, over) in
    short_of_memory c.args.self.now c.args.piece.now c.from_residual-in_err-used-in-Unit.result c.from_residual-in_err-used-in-Unit.ensures.1 c.if-self.false
    (lacks_room c.args.self.now (unit_size head) good.room short)

pub returns-then-held-end-2-clause-answer : goal.returns-then-held-end-2-clause-answer
returns-then-held-end-2-clause-answer c = λ inside.
    let filled = c.fields.invariant in
    let held : c.held-held.result.now ≡ c.args.self.now.unit.held ++ take c.fields.used c.args.piece.now = c.held-held.ensures ∙ filled.held in
    let head : UnitHead = c.in-Unit.head in
    let known : head_of c.args.self.now.content c.args.self.now.number c.args.self.now.max_unit (c.args.self.now.unit.held ++ take c.fields.used c.args.piece.now) ≡ heads.Unit head =
    heads_are c.args.self.now c.fields.self c.held-held.result.now _ _ filled.same filled.number held c.in-Unit.ensures.answer in
    let piece : List ℕ = c.args.piece.now in
    let n : ℕ = c.fields.used + c.in_ok-used-in-Unit.field-0 in
    let rest : take (length piece - c.fields.used) (drop c.fields.used piece) ≡ drop c.fields.used piece = take_all (length piece - c.fields.used) (drop c.fields.used piece) (omega (arith, length-drop c.fields.used piece)) in
    let taken : c.fill-in-Unit.new.self ≡ record c.fields.self.unit { held = c.fields.self.unit.held ++ take c.in_ok-used-in-Unit.field-0 (drop c.fields.used piece); out = [] } =
    rw rest at c.in_ok-used-in-Unit.ensures.taken in
    let count : c.in_ok-used-in-Unit.field-0 ≡ min (unit_size head - length c.fields.self.unit.held) (length piece - c.fields.used) =
    c.in_ok-used-in-Unit.ensures.count ∙ ap (λ (k : ℕ). min (unit_size head - length c.fields.self.unit.held) k) (ap length rest ∙ length-drop c.fields.used piece) in
    let now : Body = record c.fields.self { unit = c.fill-in-Unit.new.self } in
    let unit : FilledUnit c.args.self.now now piece n head = filled_unit c.args.self.now c.fields.self piece c.fields.used c.in_ok-used-in-Unit.field-0 head c.fill-in-Unit.new.self filled known count taken in
    let other : length c.fill-in-Unit.new.self.held ≢ unit_size head = λ e. c.if-held-end-2.true (ap length c.held-in-Unit.ensures ∙ e) in
    let all = unit.all inside (inside c.if-self.false) other in
    let is : open_unit c.args.self.now (c.args.self.now.unit.held ++ take n piece) ≡ Wanting = wants_within c.args.self.now piece n n head unit.known (omega arith) all.1 in
    wanting_answer c.args.self.now piece n c.if-self.false all.0 (unit.on.wanting inside) is

pub returns-then-held-end-2-clause-steps : goal.returns-then-held-end-2-clause-steps
returns-then-held-end-2-clause-steps c = λ inside.
    let filled = c.fields.invariant in
    let held : c.held-held.result.now ≡ c.args.self.now.unit.held ++ take c.fields.used c.args.piece.now = c.held-held.ensures ∙ filled.held in
    let head : UnitHead = c.in-Unit.head in
    let known : head_of c.args.self.now.content c.args.self.now.number c.args.self.now.max_unit (c.args.self.now.unit.held ++ take c.fields.used c.args.piece.now) ≡ heads.Unit head =
    heads_are c.args.self.now c.fields.self c.held-held.result.now _ _ filled.same filled.number held c.in-Unit.ensures.answer in
    let piece : List ℕ = c.args.piece.now in
    let n : ℕ = c.fields.used + c.in_ok-used-in-Unit.field-0 in
    let rest : take (length piece - c.fields.used) (drop c.fields.used piece) ≡ drop c.fields.used piece = take_all (length piece - c.fields.used) (drop c.fields.used piece) (omega (arith, length-drop c.fields.used piece)) in
    let taken : c.fill-in-Unit.new.self ≡ record c.fields.self.unit { held = c.fields.self.unit.held ++ take c.in_ok-used-in-Unit.field-0 (drop c.fields.used piece); out = [] } =
    rw rest at c.in_ok-used-in-Unit.ensures.taken in
    let count : c.in_ok-used-in-Unit.field-0 ≡ min (unit_size head - length c.fields.self.unit.held) (length piece - c.fields.used) =
    c.in_ok-used-in-Unit.ensures.count ∙ ap (λ (k : ℕ). min (unit_size head - length c.fields.self.unit.held) k) (ap length rest ∙ length-drop c.fields.used piece) in
    let now : Body = record c.fields.self { unit = c.fill-in-Unit.new.self } in
    let unit : FilledUnit c.args.self.now now piece n head = filled_unit c.args.self.now c.fields.self piece c.fields.used c.in_ok-used-in-Unit.field-0 head c.fill-in-Unit.new.self filled known count taken in
    let other : length c.fill-in-Unit.new.self.held ≢ unit_size head = λ e. c.if-held-end-2.true (ap length c.held-in-Unit.ensures ∙ e) in
    let all = unit.all inside (inside c.if-self.false) other in
    let is : open_unit c.args.self.now (c.args.self.now.unit.held ++ take n piece) ≡ Wanting = wants_within c.args.self.now piece n n head unit.known (omega arith) all.1 in
    wanting_steps c.args.self.now now piece n c.if-self.false is unit.on

pub returns-then-not-open-clause-answer : goal.returns-then-not-open-clause-answer
returns-then-not-open-clause-answer c = λ inside.
    let filled = c.fields.invariant in
    let held : c.held-held.result.now ≡ c.args.self.now.unit.held ++ take c.fields.used c.args.piece.now = c.held-held.ensures ∙ filled.held in
    let head : UnitHead = c.in-Unit.head in
    let known : head_of c.args.self.now.content c.args.self.now.number c.args.self.now.max_unit (c.args.self.now.unit.held ++ take c.fields.used c.args.piece.now) ≡ heads.Unit head =
    heads_are c.args.self.now c.fields.self c.held-held.result.now _ _ filled.same filled.number held c.in-Unit.ensures.answer in
    let piece : List ℕ = c.args.piece.now in
    let n : ℕ = c.fields.used + c.in_ok-used-in-Unit.field-0 in
    let rest : take (length piece - c.fields.used) (drop c.fields.used piece) ≡ drop c.fields.used piece = take_all (length piece - c.fields.used) (drop c.fields.used piece) (omega (arith, length-drop c.fields.used piece)) in
    let taken : c.fill-in-Unit.new.self ≡ record c.fields.self.unit { held = c.fields.self.unit.held ++ take c.in_ok-used-in-Unit.field-0 (drop c.fields.used piece); out = [] } =
    rw rest at c.in_ok-used-in-Unit.ensures.taken in
    let count : c.in_ok-used-in-Unit.field-0 ≡ min (unit_size head - length c.fields.self.unit.held) (length piece - c.fields.used) =
    c.in_ok-used-in-Unit.ensures.count ∙ ap (λ (k : ℕ). min (unit_size head - length c.fields.self.unit.held) k) (ap length rest ∙ length-drop c.fields.used piece) in
    let now : Body = record c.fields.self { unit = c.fill-in-Unit.new.self } in
    let unit : FilledUnit c.args.self.now now piece n head = filled_unit c.args.self.now c.fields.self piece c.fields.used c.in_ok-used-in-Unit.field-0 head c.fill-in-Unit.new.self filled known count taken in
    let full : length c.fill-in-Unit.new.self.held ≡ unit_size head = ap length (sym c.held-in-Unit.ensures) ∙ c.if-held-end-2.false in
    let opens : opened_of now.key now.message_id head now.unit.held ≡ None = rw (c.bytes.ensures.value, c.if-not-open.true) at c.open.ensures.answer in
    let whole = whole_unit c.args.self.now now piece n head None unit full opens in
    whole_answer c.args.self.now piece n head None c.if-self.false (inside c.if-self.false) unit.on.within (unit.on.wanting inside) whole

pub returns-in-Unit-clause-answer : goal.returns-in-Unit-clause-answer
returns-in-Unit-clause-answer c = λ inside.
    let filled = c.fields.invariant in
    let held : c.held-held.result.now ≡ c.args.self.now.unit.held ++ take c.fields.used c.args.piece.now = c.held-held.ensures ∙ filled.held in
    let head : UnitHead = c.in-Unit.head in
    let known : head_of c.args.self.now.content c.args.self.now.number c.args.self.now.max_unit (c.args.self.now.unit.held ++ take c.fields.used c.args.piece.now) ≡ heads.Unit head =
    heads_are c.args.self.now c.fields.self c.held-held.result.now _ _ filled.same filled.number held c.in-Unit.ensures.answer in
    let piece : List ℕ = c.args.piece.now in
    let n : ℕ = c.fields.used + c.in_ok-used-in-Unit.field-0 in
    let rest : take (length piece - c.fields.used) (drop c.fields.used piece) ≡ drop c.fields.used piece = take_all (length piece - c.fields.used) (drop c.fields.used piece) (omega (arith, length-drop c.fields.used piece)) in
    let taken : c.fill-in-Unit.new.self ≡ record c.fields.self.unit { held = c.fields.self.unit.held ++ take c.in_ok-used-in-Unit.field-0 (drop c.fields.used piece); out = [] } =
    rw rest at c.in_ok-used-in-Unit.ensures.taken in
    let count : c.in_ok-used-in-Unit.field-0 ≡ min (unit_size head - length c.fields.self.unit.held) (length piece - c.fields.used) =
    c.in_ok-used-in-Unit.ensures.count ∙ ap (λ (k : ℕ). min (unit_size head - length c.fields.self.unit.held) k) (ap length rest ∙ length-drop c.fields.used piece) in
    let now : Body = record c.fields.self { unit = c.fill-in-Unit.new.self } in
    let unit : FilledUnit c.args.self.now now piece n head = filled_unit c.args.self.now c.fields.self piece c.fields.used c.in_ok-used-in-Unit.field-0 head c.fill-in-Unit.new.self filled known count taken in
    let full : length c.fill-in-Unit.new.self.held ≡ unit_size head = ap length (sym c.held-in-Unit.ensures) ∙ c.if-held-end-2.false in
    let opens : opened_of now.key now.message_id head now.unit.held ≡ Some c.open.new.self.out = rw (c.bytes.ensures.value, c.if-not-open.false) at c.open.ensures.answer in
    let whole = whole_unit c.args.self.now now piece n head (Some c.open.new.self.out) unit full opens in
    whole_answer c.args.self.now piece n head (Some c.open.new.self.out) c.if-self.false (inside c.if-self.false) unit.on.within (unit.on.wanting inside) whole

pub returns-in-Unit-clause-steps : goal.returns-in-Unit-clause-steps
returns-in-Unit-clause-steps c = λ inside.
    let filled = c.fields.invariant in
    let held : c.held-held.result.now ≡ c.args.self.now.unit.held ++ take c.fields.used c.args.piece.now = c.held-held.ensures ∙ filled.held in
    let head : UnitHead = c.in-Unit.head in
    let known : head_of c.args.self.now.content c.args.self.now.number c.args.self.now.max_unit (c.args.self.now.unit.held ++ take c.fields.used c.args.piece.now) ≡ heads.Unit head =
    heads_are c.args.self.now c.fields.self c.held-held.result.now _ _ filled.same filled.number held c.in-Unit.ensures.answer in
    let piece : List ℕ = c.args.piece.now in
    let n : ℕ = c.fields.used + c.in_ok-used-in-Unit.field-0 in
    let rest : take (length piece - c.fields.used) (drop c.fields.used piece) ≡ drop c.fields.used piece = take_all (length piece - c.fields.used) (drop c.fields.used piece) (omega (arith, length-drop c.fields.used piece)) in
    let taken : c.fill-in-Unit.new.self ≡ record c.fields.self.unit { held = c.fields.self.unit.held ++ take c.in_ok-used-in-Unit.field-0 (drop c.fields.used piece); out = [] } =
    rw rest at c.in_ok-used-in-Unit.ensures.taken in
    let count : c.in_ok-used-in-Unit.field-0 ≡ min (unit_size head - length c.fields.self.unit.held) (length piece - c.fields.used) =
    c.in_ok-used-in-Unit.ensures.count ∙ ap (λ (k : ℕ). min (unit_size head - length c.fields.self.unit.held) k) (ap length rest ∙ length-drop c.fields.used piece) in
    let now : Body = record c.fields.self { unit = c.fill-in-Unit.new.self } in
    let unit : FilledUnit c.args.self.now now piece n head = filled_unit c.args.self.now c.fields.self piece c.fields.used c.in_ok-used-in-Unit.field-0 head c.fill-in-Unit.new.self filled known count taken in
    let full : length c.fill-in-Unit.new.self.held ≡ unit_size head = ap length (sym c.held-in-Unit.ensures) ∙ c.if-held-end-2.false in
    let opens : opened_of now.key now.message_id head now.unit.held ≡ Some c.open.new.self.out = rw (c.bytes.ensures.value, c.if-not-open.false) at c.open.ensures.answer in
    let whole = whole_unit c.args.self.now now piece n head (Some c.open.new.self.out) unit full opens in
    let good = good_head c.args.self.now.content c.args.self.now.number c.args.self.now.max_unit (c.args.self.now.unit.held ++ take c.fields.used piece) head known in
    opened_steps c.args.self.now c.go_on_behind.new.self piece n head c.if-self.false good.numbered c.go_on_behind.ensures.on (rw (sym c.go_on_behind.ensures.unit) at whole)
