-- The lines of an audit: one for each message, and then one for each leaf. They are this library's.
use Rattle.std.specs.Prelude.{ℕ, zero, suc, ◌+◌, List, [], ◌∷◌, ◌++◌, codes}
use Rattle.esdk_report.specs.Lines.{fault_line, number_word}
use Rattle.audit_core.specs.declared.audited.Audited.{Audited}
use Rattle.audit_core.specs.declared.audited.Audited.TheVariants.{OpenedBy, Fault}
use Rattle.audit_core.specs.Openers.{needed_for}

-- a space and a number, for each
abbrev pub number_words : List ℕ → List ℕ
number_words [] = []
number_words (n ∷ ns) = number_word n ++ number_words ns

-- the same, or ` none`
abbrev pub words_or_none : List ℕ → List ℕ
words_or_none [] = codes " none"
words_or_none (n ∷ ns) = number_words (n ∷ ns)

-- which leaves open the message, or its fault
abbrev pub end_words : Audited → List ℕ
end_words (OpenedBy numbers) = codes " opened-by" ++ words_or_none numbers
end_words (Fault fault) = codes " " ++ fault_line fault

-- message N opened-by N N.. or message N opened-by none, or message N and a fault
unfoldable pub message_line : (number : ℕ) → Audited → List ℕ
message_line number message = codes "message" ++ number_word number ++ end_words message ++ 10 ∷ []

-- the lines of these messages, the first of which has this number
unfoldable pub message_lines : (number : ℕ) → List Audited → List ℕ
message_lines number [] = []
message_lines number (message ∷ messages) =
    message_line number message ++ message_lines (number + 1) messages

-- which messages the leaf is needed for
abbrev pub needed_words : (leaf : ℕ) → List Audited → List ℕ
needed_words leaf messages = codes " needed-for" ++ words_or_none (needed_for leaf messages)

-- leaf N needed-for N N.. or leaf N needed-for none
unfoldable pub leaf_line : (leaf : ℕ) → List Audited → List ℕ
leaf_line leaf messages = codes "leaf" ++ number_word leaf ++ needed_words leaf messages ++ 10 ∷ []

-- the lines of so many leaves
unfoldable pub leaf_lines : (count : ℕ) → List Audited → List ℕ
leaf_lines zero messages = []
leaf_lines (suc count) messages = leaf_lines count messages ++ leaf_line (suc count) messages

-- the lines of these messages and of so many leaves
abbrev pub audit_lines : (leaves : ℕ) → List Audited → List ℕ
audit_lines leaves messages = message_lines 1 messages ++ leaf_lines leaves messages
