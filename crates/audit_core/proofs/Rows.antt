-- Lines and numbers, one after the other.
use Rattle.std.proofs.Common.{◌≡◌, ◌<◌, ◌≤◌, ◌+◌, ℕ, suc, Bool, true, false, List, [], ◌∷◌, ◌++◌, length, drop, get_or, refl, sym, ap, subst, ◌∙◌, add-one, append_assoc, append-nil}
use Rattle.std.proofs.lemmas.List.{drop_all, drop_more}
use Rattle.std.specs.Prelude.{if◌then◌else◌}
use Rattle.audit_core.specs.declared.audited.Audited.{Audited}
use Rattle.audit_core.specs.Lines.{leaf_line, leaf_lines, message_line, message_lines}

-- the element at the index, and those behind it
left_from : {A : Type 0} (xs : List A) (i : ℕ) (x : A) → i < length xs → x ≡ get_or xs i x → drop i xs ≡ x ∷ drop (i + 1) xs
left_from xs i x lt is = drop_more xs i x lt ∙ ap (λ y. y ∷ drop (i + 1) xs) (sym is)

pub message_more : (messages : List Audited) (i number : ℕ) (message : Audited) (text : List ℕ) → i < length messages → message ≡ get_or messages i message
    → text ++ message_lines number (drop i messages) ≡ (text ++ message_line number message) ++ message_lines (number + 1) (drop (i + 1) messages)
unfolding message_lines
message_more messages i number message text lt is =
    ap (λ (left : List Audited). text ++ message_lines number left) (left_from messages i message lt is)
    ∙ sym (append_assoc text (message_line number message) (message_lines (number + 1) (drop (i + 1) messages)))

pub messages_done : (messages : List Audited) (i number : ℕ) (text : List ℕ) → length messages ≤ i → text ++ message_lines number (drop i messages) ≡ text
unfolding message_lines
messages_done messages i number text past = ap (λ (left : List Audited). text ++ message_lines number left) (drop_all i messages past) ∙ append-nil text

-- one leaf more
leaf_next : (count : ℕ) (messages : List Audited) (text : List ℕ) → (text ++ leaf_lines count messages) ++ leaf_line (suc count) messages ≡ text ++ leaf_lines (suc count) messages
unfolding leaf_lines
leaf_next count messages text = append_assoc text (leaf_lines count messages) (leaf_line (suc count) messages)

pub leaf_more : (count : ℕ) (messages : List Audited) (text : List ℕ) → (text ++ leaf_lines count messages) ++ leaf_line (count + 1) messages ≡ text ++ leaf_lines (count + 1) messages
leaf_more count messages text = subst (λ (n : ℕ). (text ++ leaf_lines count messages) ++ leaf_line n messages ≡ text ++ leaf_lines n messages) (sym (add-one count)) (leaf_next count messages text)

pub no_leaf : (messages : List Audited) (text : List ℕ) → text ++ leaf_lines 0 messages ≡ text
unfolding leaf_lines
no_leaf messages text = append-nil text

chosen : (b : Bool) (front : List ℕ) (n : ℕ) (rest : List ℕ) → b ≡ true → front ++ (if b then n ∷ rest else rest) ≡ (front ++ n ∷ []) ++ rest
chosen true front n rest is = sym (append_assoc front (n ∷ []) rest)
chosen false front n rest is = absurd cc

passed : (b : Bool) (front : List ℕ) (n : ℕ) (rest : List ℕ) → b ≡ false → front ++ (if b then n ∷ rest else rest) ≡ front ++ rest
passed true front n rest is = absurd cc
passed false front n rest is = refl
