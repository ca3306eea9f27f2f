-- What is left of bytes that were handed over agrees with each message that has them.
use denote.Ref.{Bor}
use Rattle.std.proofs.Common.{◌≡◌, ◌∙◌, ℕ, ◌+◌, ◌-◌, ◌<◌, ◌≤◌, Bool, true, false, if◌then◌else◌, List, [], ◌∷◌, ◌++◌, length, take, drop, Option, Some, None, refl, sym, ap, subst, arith}
use Rattle.std.specs.Prelude.{IfSome}
use Rattle.std.specs.List.{All}
use Rattle.std.proofs.lemmas.List.{drop-append-le, drop-drop, drop_all, length-drop, take_all}
use Rattle.std.proofs.lemmas.List.Elements.{All-head, All-tail}
use Rattle.esdk_seen.specs.Calls.{ShelfCall, announces, reads}
use Rattle.whole_input.specs.FileReads.{AgreesWithCall, AgreesWithRead}
use Rattle.session_parts.specs.Handed.{HandedPart, HasHanded, end_note, part_end, the_message}

-- ---- what a message has that has the bytes

module _ (h : HandedPart) (message : List ℕ) (has : HasHanded h message) where
  abbrev part_note : ShelfCall
  part_note = reads the_message h.offset h.part

  abbrev behind : All (AgreesWithCall the_message message) (part_note ∷ end_note h ∷ [])
  behind = All-tail (AgreesWithCall the_message message) (reads the_message 0 h.front) (part_note ∷ end_note h ∷ []) has

  has_front : AgreesWithRead message 0 h.front
  has_front = All-head (AgreesWithCall the_message message) (reads the_message 0 h.front) (part_note ∷ end_note h ∷ []) has refl

  has_part : AgreesWithRead message h.offset h.part
  has_part = All-head (AgreesWithCall the_message message) part_note (end_note h ∷ []) behind refl

  ends_by : (ends : Bool) → ends ≡ true → AgreesWithCall the_message message (if ends then reads the_message (part_end h) [] else announces the_message)
      → drop (part_end h) message ≡ []
  ends_by true is agrees = (agrees refl).1 refl
  ends_by false is agrees = absurd (let no : false ≡ true = is in cc)

  has_end : h.ends ≡ true → drop (part_end h) message ≡ []
  has_end ends =
      ends_by h.ends ends (All-head (AgreesWithCall the_message message) (end_note h) [] (All-tail (AgreesWithCall the_message message) part_note (end_note h ∷ []) behind))

-- ---- what is left from an offset on

-- of bytes that agree with a message, those behind the first
within_agrees : (message base : List ℕ) (at from to : ℕ) → to ≡ at + from → from < length base → AgreesWithRead message at base → AgreesWithRead message to (drop from base)
within_agrees message base at from to is some agrees = (
  ap (λ (n : ℕ). drop n message) is ∙ sym (drop-drop from at message) ∙ ap (drop from) agrees.0
      ∙ drop-append-le from base (drop (at + length base) message) (omega (arith, some))
      ∙ ap (λ (n : ℕ). drop from base ++ drop n message) (omega (arith, is, some, length-drop from base)),
  λ none. absurd (omega (arith, ap (length {A = ℕ}) none, length-drop from base, some)),
)

-- what a slice from there on is
pub rest_is : (base : List ℕ) (from : ℕ) → take (length base - from) (drop from base) ≡ drop from base
rest_is base from = take_all (length base - from) (drop from base) (omega (arith, length-drop from base))

-- the end
behind_agrees : (message : List ℕ) (end to : ℕ) → end ≤ to → drop end message ≡ [] → AgreesWithRead message to []
behind_agrees message end to far none =
    let all : drop to message ≡ [] = drop_all to message (omega (arith, far, ap (length {A = ℕ}) none, length-drop end message)) in
    (all ∙ sym (ap (λ (n : ℕ). drop n message) (let same : to + 0 ≡ to = omega arith in same) ∙ all), λ none. all)

pub front_left : (h : HandedPart) (at : ℕ) (left : List ℕ) → at < length h.front → left ≡ drop at h.front → (message : List ℕ) → HasHanded h message → AgreesWithRead message at left
front_left h at left some is message has =
    subst (AgreesWithRead message at) (sym is) (within_agrees message h.front 0 at at (omega arith) some (has_front h message has))

pub part_left : (h : HandedPart) (at from : ℕ) (left : List ℕ) → at ≡ h.offset + from → from < length h.part → left ≡ drop from h.part → (message : List ℕ) → HasHanded h message
    → AgreesWithRead message at left
part_left h at from left at_is some is message has =
    subst (AgreesWithRead message at) (sym is) (within_agrees message h.part h.offset from at at_is some (has_part h message has))

none_left : (h : HandedPart) (at from : ℕ) (left : List ℕ) → at ≡ h.offset + from → length h.part ≤ from → h.ends ≡ true → left ≡ [] → (message : List ℕ) → HasHanded h message
    → AgreesWithRead message at left
none_left h at from left at_is far ends is message has =
    subst (AgreesWithRead message at) (sym is) (behind_agrees message (part_end h) at (omega (arith, at_is, far)) (has_end h message has ends))

-- so where it is said only then that something is left
pub left_behind : (h : HandedPart) (at from : ℕ) (left : Option (Bor (List ℕ))) → at ≡ h.offset + from → length h.part ≤ from → IfSome left (λ l. l.now ≡ []) → IfSome left (λ _. h.ends ≡ true)
    → IfSome left (λ l. (message : List ℕ) → HasHanded h message → AgreesWithRead message at l.now)
left_behind h at from None at_is far nothing ends = tt
left_behind h at from (Some l) at_is far nothing ends = none_left h at from l.now at_is far ends nothing
