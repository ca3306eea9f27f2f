-- Filling the buffer of a unit up to the next decision.
use Rattle.std.proofs.Common.{◌≡◌, ℕ, ◌+◌, ◌-◌, ◌<◌, ◌≤◌, List, [], ◌++◌, length, take, drop, refl, sym, ap, subst, ◌∙◌, arith, inl, inr, append_assoc}
use Rattle.std.proofs.Math.Seq.{take-add}
use Rattle.std.proofs.lemmas.Bool.{cases_lt}
use Rattle.std.proofs.lemmas.List.{length-append, length-take}
use Rattle.esdk_fields.specs.Reading.{Wanting}
use Rattle.frame_codec.specs.declared.unit_heads.Head.TheVariants as heads
use Rattle.frame_codec.specs.declared.unit_heads.Head.{Head}
use Rattle.frame_codec.specs.UnitHead.{head_of}
use Rattle.frame_codec.proofs.Answering.{decides}
use Rattle.frame_codec.proofs.Units.{unit_wants_head}
use Rattle.stream_open.specs.declared.body.Body.{Body}
use Rattle.frame_codec.specs.UnitBuffer.{UnitValue}
use Rattle.stream_open.specs.Body.{IsInUnit, SameBody, open_unit}

-- So many bytes of the piece were taken into the open unit, and with none fewer it was whole or had a fault.
pub record IsFilled (old : Body) (piece : List ℕ) (used : ℕ) (now : Body) : Type 0 where
  pub within : used ≤ length piece
  pub same : SameBody old now
  pub ended : now.ended ≡ old.ended
  pub number : now.number ≡ old.number
  pub held : now.unit.held ≡ old.unit.held ++ take used piece
  pub out : now.unit.out ≡ []
  pub wanting : IsInUnit old → (k : ℕ) → k < used → open_unit old (old.unit.held ++ take k piece) ≡ Wanting

-- what is held, when more of the piece comes
pub taken_on : (held piece : List ℕ) (used k : ℕ) → used ≤ k → held ++ take k piece ≡ held ++ take used piece ++ take (k - used) (drop used piece)
taken_on held piece used k low =
    let sum : used + (k - used) ≡ k = omega arith in
    ap (λ (n : ℕ). held ++ take n piece) (sym sum) ∙ ap (λ (l : List ℕ). held ++ l) (take-add used (k - used) piece)
    ∙ sym (append_assoc held (take used piece) (take (k - used) (drop used piece)))

-- as long as fewer bytes are there than the next decision needs, the unit wants more
pub wants_before : (old : Body) (piece : List ℕ) (used end k : ℕ) → head_of old.content old.number old.max_unit (old.unit.held ++ take used piece) ≡ heads.NeedMore end
    → used ≤ k → length (old.unit.held ++ take k piece) < end → open_unit old (old.unit.held ++ take k piece) ≡ Wanting
wants_before old piece used end k needs low short =
    let on = taken_on old.unit.held piece used k low in
    let still = (decides old.content old.number old.max_unit (old.unit.held ++ take used piece) end needs).no_earlier (take (k - used) (drop used piece)) (subst (λ (l : List ℕ). length l < end) on short) in
    unit_wants_head old.content old.max_unit old.key old.message_id old.number (old.unit.held ++ take k piece) end 0 (ap (head_of old.content old.number old.max_unit) on ∙ still)

-- so many bytes more, with each of which the unit still wants more
pub filled_more : (old now : Body) (piece : List ℕ) (used count : ℕ) (u : UnitValue) → IsFilled old piece used now
    → ((k : ℕ) → used ≤ k → k < used + count → open_unit old (old.unit.held ++ take k piece) ≡ Wanting)
    → used + count ≤ length piece
    → u ≡ record now.unit { held = now.unit.held ++ take count (drop used piece); out = [] }
    → IsFilled old piece (used + count) (record now { unit = u })
filled_more old now piece used count u filled wants within is =
    let diff : used + count - used ≡ count = omega arith in
    let grown : old.unit.held ++ take (used + count) piece ≡ old.unit.held ++ take used piece ++ take count (drop used piece) =
    taken_on old.unit.held piece used (used + count) (omega arith) ∙ ap (λ (n : ℕ). old.unit.held ++ take used piece ++ take n (drop used piece)) diff in
    record {
      within = within;
      same = record {
        key = filled.same.key;
        id = filled.same.id;
        content = filled.same.content;
        max_unit = filled.same.max_unit;
        reserved = ap (λ (x : UnitValue). x.reserved) is ∙ filled.same.reserved;
      };
      ended = filled.ended;
      number = filled.number;
      held = ap (λ (x : UnitValue). x.held) is ∙ ap (λ (l : List ℕ). l ++ take count (drop used piece)) filled.held ∙ sym grown;
      out = ap (λ (x : UnitValue). x.out) is;
      wanting = λ inside k before. elim (cases_lt k used) [
        | inl early ↦ filled.wanting inside k early
        | inr late ↦ wants k late before
      ];
    }

-- how many bytes are held, when so many of the piece are taken
pub held_count : (held piece : List ℕ) (used k : ℕ) → used ≤ k → used ≤ length piece → length (held ++ take k piece) + used ≤ length (held ++ take used piece) + k
held_count held piece used k low within =
    omega (arith, length-append held (take k piece), length-append held (take used piece), length-take k piece, length-take used piece)

-- one decision further
pub filled_on : (old now : Body) (piece : List ℕ) (used count end : ℕ) (u : UnitValue) → IsFilled old piece used now
    → head_of old.content old.number old.max_unit (old.unit.held ++ take used piece) ≡ heads.NeedMore end
    → used + count ≤ length piece → length (old.unit.held ++ take used piece) + count ≤ end
    → u ≡ record now.unit { held = now.unit.held ++ take count (drop used piece); out = [] }
    → IsFilled old piece (used + count) (record now { unit = u })
filled_on old now piece used count end u filled needs within short is =
    filled_more old now piece used count u filled
    (λ k low high. wants_before old piece used end k needs low (let most = held_count old.unit.held piece used k low filled.within in omega arith)) within is

-- what is known of the bytes that are held, by the body as it was
pub heads_are : (old now : Body) (bytes held : List ℕ) (head : Head) → SameBody old now → now.number ≡ old.number → bytes ≡ held → head ≡ head_of now.content now.number now.max_unit bytes
    → head_of old.content old.number old.max_unit held ≡ head
heads_are old now bytes held head same number is e = sym (e ∙ rw (same.content, number, same.max_unit, is) refl)
