-- An armoured output that takes bytes line by line.
use borrow.Rule.Slice.PartMut.{put_mid}
use Rattle.std.proofs.Common.{◌≡◌, ℕ, ◌+◌, ◌-◌, ◌<◌, ◌≤◌, ◌==◌, Bool, true, false, List, [], ◌++◌, length, take, drop, refl, sym, subst, ap, ◌∙◌, arith, inl, inr, eq-eqb, if◌then◌else◌}
use Rattle.std.proofs.lemmas.Bool.{cases_Bool, eqb-true}
use Rattle.std.proofs.lemmas.List.{append-nil, append_assoc, drop_all, length-append, length-drop, length-take, length-take-le, take-append-drop, take_all}
use Rattle.std.proofs.Math.Seq.{take-add}
use Rattle.armour_core.specs.declared.armour.Armour.{Armour}
use Rattle.armour_core.specs.ArmourText.{armour_text}
use Rattle.armour_core.specs.ArmouredLaws.{armoured_behind, armoured_more, few_held, lines_go_on, short_line}
use Rattle.armour_core.specs.ArmouredOutput.{FailsAtLine, TakesLines, full_lines_text}
pub use Rattle.armour_core.specs.ArmouredOutput.{held_of}
use Rattle.armour_core.specs.Armouring.{ArmouringValue, full_line_text, in_full_lines, line_ended, line_stepped, open_line, taken_of}
use Rattle.armour_core.specs.LineLaws.{armour_nil}
use Rattle.armour_core.proofs.Readers.{filled_more}
use Rattle.armour_core.specs.Stands.{ArmourIsOpen, Stands}

-- a session at which an armour stands
abbrev pub session_of : Armour → ArmouringValue
session_of armour = record { taken = held_of armour; finished = armour.finished; out = take armour.given armour.text }

open_held : (armour : Armour) → open_line (held_of armour) ≡ held_of armour
open_held armour = let few = few_held armour in let none : in_full_lines (length (held_of armour)) ≡ 0 = omega (arith, few) in ap (λ (n : ℕ). drop n (held_of armour)) none

pub stands_there : (armour : Armour) → Stands armour (session_of armour)
stands_there armour =
    let len : length (held_of armour) ≡ armour.held = length-take-le armour.held armour.line (omega (arith, armour.whole, armour.open)) in record {
      finished = refl;
      held = omega (arith, len, armour.open);
      line = sym (open_held armour);
      out = refl;
    }

-- ---- the end

ended_open : (v : ArmouringValue) → v.finished ≡ false → (line_ended v).out ≡ armour_text (open_line v.taken)
ended_open v goes = ap (λ (b : Bool). let w : ArmouringValue = if b then record v { out = [] } else record v { finished = true; out = armour_text (open_line v.taken) } in w.out) goes

pub end_text : (old new : Armour) (out : List ℕ) → ArmourIsOpen old → ((v : ArmouringValue) → Stands old v → Stands new (line_ended v))
    → ((v : ArmouringValue) → Stands new v → out ≡ v.out) → out ≡ armour_text (held_of old)
end_text old new out goes ends gives =
    gives (line_ended (session_of old)) (ends (session_of old) (stands_there old)) ∙ ended_open (session_of old) goes ∙ ap armour_text (open_held old)

-- ---- a step

-- What a step of an armour gives and keeps.
pub record StepsLine (old new : Armour) (piece : List ℕ) (used : ℕ) (out : List ℕ) : Type 0 where
  pub gives : out ≡ full_lines_text (held_of old ++ take used piece)
  pub keeps : held_of new ≡ open_line (held_of old ++ take used piece)

-- up to a line, its text is the text of its full lines
up_to_line : (line : List ℕ) → length line ≤ 57 → full_line_text line ≡ full_lines_text line
up_to_line line few = elim (cases_Bool (length line == 57)) [
  | inl full ↦
      let is : length line ≡ 57 = eqb-true (length line) 57 full in
      let all : in_full_lines (length line) ≡ length line = omega (arith, is) in
      ap (λ (b : Bool). if b then armour_text line else []) full ∙ ap armour_text (sym (take_all (length line) line (omega arith))) ∙ ap (λ (n : ℕ). armour_text (take n line)) (sym all)
  | inr short ↦
      let not_full : length line ≡ 57 → ⊥ = λ is. let e = sym (eq-eqb (length line) 57 is) ∙ short in cc e in
      let none : in_full_lines (length line) ≡ 0 = omega (arith, not_full, few) in
      ap (λ (b : Bool). if b then armour_text line else []) short ∙ sym armour_nil ∙ ap (λ (n : ℕ). armour_text (take n line)) (sym none)
]

pub step_line : (old new : Armour) (piece out : List ℕ) (used : ℕ) → ((v : ArmouringValue) → Stands old v → used ≡ taken_of v piece)
    → ((v : ArmouringValue) → Stands old v → Stands new (line_stepped v piece)) → ((v : ArmouringValue) → Stands new v → out ≡ v.out) → StepsLine old new piece used out
step_line old new piece out used answer stands gives =
    let v : ArmouringValue = session_of old in
    let at = stands_there old in
    let is = answer v at in
    let s = stands v at in
    let few = few_held old in
    let line : List ℕ = held_of old ++ take used piece in
    let stepped : held_of old ++ take (taken_of v piece) piece ≡ line = ap (λ (n : ℕ). held_of old ++ take n piece) (sym is) in
    let short : length line ≤ 57 = omega (arith, few, is, length-append (held_of old) (take used piece), length-take-le used piece (omega (arith, is))) in record {
      gives = gives (line_stepped v piece) s ∙ ap (λ (x : List ℕ). full_line_text (x ++ take (taken_of v piece) piece)) (open_held old) ∙ ap full_line_text stepped ∙ up_to_line line short;
      keeps = s.line ∙ ap open_line stepped;
    }

-- what an armour gave is no more than a line's text
pub out_few : (armour : Armour) (out : List ℕ) → ((v : ArmouringValue) → Stands armour v → out ≡ v.out) → length out ≤ 77
out_few armour out gives = omega (arith, ap length (gives (session_of armour) (stands_there armour)), length-take armour.given armour.text, armour.room)

-- a full line of bytes, where none is held
pub line_taken : (held bytes : List ℕ) → held ≡ [] → 57 ≤ length bytes
    → (armour_text (take 57 bytes) ≡ full_lines_text (held ++ take 57 bytes)) × (held ≡ open_line (held ++ take 57 bytes))
line_taken held bytes none some =
    let line : List ℕ = take 57 bytes in
    let size : length line ≡ 57 = length-take-le 57 bytes some in
    let all : in_full_lines (length line) ≡ 57 = omega (arith, size) in
    let text : full_lines_text line ≡ armour_text line = ap (λ (n : ℕ). armour_text (take n line)) all ∙ ap armour_text (take_all 57 line (omega (arith, size))) in
    let rest : open_line line ≡ [] = ap (λ (n : ℕ). drop n line) all ∙ drop_all 57 line (omega (arith, size)) in (
      sym text ∙ ap (λ (x : List ℕ). full_lines_text (x ++ line)) (sym none),
      none ∙ sym rest ∙ ap (λ (x : List ℕ). open_line (x ++ line)) (sym none),
    )

-- ---- the loop

-- what is left of the bytes, as a slice
abbrev pub rest_of : List ℕ → ℕ → List ℕ
rest_of bytes used = take (length bytes - used) (drop used bytes)

rest_is : (bytes : List ℕ) (used : ℕ) → rest_of bytes used ≡ drop used bytes
rest_is bytes used = take_all (length bytes - used) (drop used bytes) (omega (arith, length-drop used bytes))

-- the lines that what is left of the bytes fills
pub filled_step : (old new : Armour) (bytes text : List ℕ) (used more : ℕ) → text ≡ full_lines_text (held_of old ++ take more (rest_of bytes used))
    → held_of new ≡ open_line (held_of old ++ take more (rest_of bytes used)) → StepsLine old new (drop used bytes) more text
filled_step old new bytes text used more gives keeps = record {
  gives = gives ∙ ap (λ (p : List ℕ). full_lines_text (held_of old ++ take more p)) (rest_is bytes used);
  keeps = keeps ∙ ap (λ (p : List ℕ). open_line (held_of old ++ take more p)) (rest_is bytes used);
}

fails_longer : {R E : Type 0} (fails : R → R → List ℕ → E → Type 0) (r t : R) (a first rest : List ℕ) (error : E) → FailsAtLine fails r t a first error → FailsAtLine fails r t a (first ++ rest) error
fails_longer fails r t a first rest error one =
    let more : List ℕ = full_lines_text (open_line (a ++ first) ++ rest) in record {
      text = one.text;
      more = one.more ++ more;
      some = one.some;
      is = (lines_go_on a first rest).0 ∙ ap (λ (x : List ℕ). x ++ more) one.is ∙ append_assoc one.text one.more more;
      failed = one.failed;
    }

module _ {R : Type 0} (takes : R → R → List ℕ → Type 0) where
  -- so many of the bytes were taken
  pub record Handing (old new : R) (before after bytes : List ℕ) (used : ℕ) : Type 0 where
    pub within : used ≤ length bytes
    pub lines : TakesLines takes old new before after (take used bytes)

  pub handing_begins : (r : R) (before bytes : List ℕ) → takes r r [] → length before < 57 → Handing r r before before bytes 0
  handing_begins r before bytes none few = let line = short_line before few in record {
    within = omega arith;
    lines = record { took = subst (takes r r) (sym line.0) none; left = sym line.1 };
  }

  pub handing_ends : (r s : R) (before after bytes : List ℕ) (used : ℕ) → Handing r s before after bytes used → length bytes ≤ used → TakesLines takes r s before after bytes
  handing_ends r s before after bytes used h all = subst (TakesLines takes r s before after) (take_all used bytes all) h.lines

  -- a step and what it gave
  step_taken : (r s t : R) (before : List ℕ) (old new : Armour) (bytes out : List ℕ) (used more : ℕ) → StepsLine old new (drop used bytes) more out → takes s t out → TakesLines takes s t (held_of old) (held_of new) (take more (drop used bytes))
  step_taken r s t before old new bytes out used more step took = record { took = subst (takes s t) step.gives took; left = step.keeps }

  pub handing_more : ((r s t : R) (first second : List ℕ) → takes r s first → takes s t second → takes r t (first ++ second))
      → (r s t : R) (before : List ℕ) (old new : Armour) (bytes out : List ℕ) (used more : ℕ) → Handing r s before (held_of old) bytes used → more ≤ length (rest_of bytes used)
      → StepsLine old new (drop used bytes) more out → takes s t out → Handing r t before (held_of new) bytes (used + more)
  handing_more joins r s t before old new bytes out used more h within step took = record {
    within = omega (arith, h.within, within, ap length (rest_is bytes used), length-drop used bytes);
    lines = subst (TakesLines takes r t before (held_of new)) (sym (take-add used more bytes))
        (armoured_more takes joins r s t before (held_of old) (held_of new) (take used bytes) (take more (drop used bytes)) h.lines (step_taken r s t before old new bytes out used more step took));
  }

  pub handing_fails : {E : Type 0} (fails : R → R → List ℕ → E → Type 0)
      → ((r s t : R) (first second : List ℕ) (error : E) → takes r s first → fails s t second error → fails r t (first ++ second) error)
      → (r s t : R) (before : List ℕ) (old new : Armour) (bytes out : List ℕ) (used more : ℕ) (error : E) → Handing r s before (held_of old) bytes used
      → StepsLine old new (drop used bytes) more out → 1 ≤ length out → fails s t out error → FailsAtLine fails r t before bytes error
  handing_fails fails behind r s t before old new bytes out used more error h step some failed =
      let piece : List ℕ = take more (drop used bytes) in
      let here : FailsAtLine fails s t (held_of old) piece error = record { text = out; more = []; some = some; is = sym step.gives ∙ sym (append-nil out); failed = failed } in
      let front = armoured_behind takes fails behind r s t before (held_of old) (take used bytes) piece error h.lines here in
      let joined : FailsAtLine fails r t before (take (used + more) bytes) error = subst (λ (x : List ℕ). FailsAtLine fails r t before x error) (sym (take-add used more bytes)) front in
      subst (λ (x : List ℕ). FailsAtLine fails r t before x error) (take-append-drop (used + more) bytes) (fails_longer fails r t before (take (used + more) bytes) (drop (used + more) bytes) error joined)

-- ---- a buffer of lines

-- It goes on with these bytes.
abbrev pub Extends : List ℕ → List ℕ → List ℕ → Type 0
Extends old new bytes = new ≡ old ++ bytes

pub extends_more : (r s t first second : List ℕ) → Extends r s first → Extends s t second → Extends r t (first ++ second)
extends_more r s t first second one two = two ∙ ap (λ (x : List ℕ). x ++ second) one ∙ append_assoc r first second

-- What was written of the text so far.
pub record FillingLines (old now : Armour) (bytes text : List ℕ) (used filled : ℕ) : Type 0 where
  pub goes : ArmourIsOpen now
  pub size : length text ≡ 9856
  pub room : filled ≤ 9856
  pub none : used ≡ 0 → filled ≡ 0
  pub lines : Handing Extends [] (take filled text) (held_of old) (held_of now) bytes used

pub filling_lines_begin : (armour : Armour) (bytes text : List ℕ) → ArmourIsOpen armour → length text ≡ 9856 → FillingLines armour armour bytes text 0 0
filling_lines_begin armour bytes text goes size = record {
  goes = goes;
  size = size;
  room = omega arith;
  none = λ zero. zero;
  lines = handing_begins Extends [] (held_of armour) bytes refl (few_held armour);
}

pub filling_lines_more : (old now new : Armour) (bytes text part : List ℕ) (used filled more count k : ℕ) → FillingLines old now bytes text used filled → used < length bytes → filled ≤ 9779
    → ArmourIsOpen new → more ≤ length (rest_of bytes used) → (1 ≤ length (rest_of bytes used) → 1 ≤ more) → count ≤ 77 → k ≡ length text - filled → length part ≡ k
    → take count part ≡ full_lines_text (held_of now ++ take more (rest_of bytes used)) → held_of new ≡ open_line (held_of now ++ take more (rest_of bytes used))
    → FillingLines old new bytes (put_mid filled k text part) (used + more) (filled + count)
filling_lines_more old now new bytes text part used filled more count k f within room goes few some short is size gives keeps =
    let left : length (rest_of bytes used) ≡ length bytes - used = ap length (rest_is bytes used) ∙ length-drop used bytes in
    let one : 1 ≤ more = some (omega (arith, left, within)) in
    let fits : filled ≤ length text = omega (arith, f.size, room) in
    let long : length (put_mid filled k text part) ≡ length text =
    omega (arith, length-append (take filled text) (part ++ drop k (drop filled text)), length-append part (drop k (drop filled text)), length-take-le filled text fits, size, is, length-drop k (drop filled text), length-drop filled text, fits) in
    let front : take (filled + count) (put_mid filled k text part) ≡ take filled text ++ take count part = filled_more filled k count text part fits (omega (arith, size, is, f.size, room, short)) in record {
      goes = goes;
      size = long ∙ f.size;
      room = omega (arith, room, short);
      none = λ zero. absurd (omega (arith, zero, one));
      lines = handing_more Extends extends_more [] (take filled text) (take (filled + count) (put_mid filled k text part)) (held_of old) now new bytes (take count part) used more f.lines few
          (filled_step now new bytes (take count part) used more gives keeps) front;
    }
