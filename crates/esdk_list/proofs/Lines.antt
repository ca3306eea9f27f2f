-- The lines of entries, one after another.
use Rattle.std.proofs.Common.{◌≡◌, ◌<◌, ◌∙◌, ℕ, suc, ◌+◌, List, ◌∷◌, ◌++◌, length, get_or, drop, sym, ap, append_assoc, drop-cons, add-one}
use Rattle.edk_codec.specs.Entry.{Entry}
use Rattle.esdk_list.specs.Listing.{entry_line, entry_lines}

-- What is to be written is what was written and the lines of the entries from this one on.
abbrev pub EntriesGo : List ℕ → List ℕ → List Entry → ℕ → Type 0
EntriesGo whole out entries i = whole ≡ out ++ entry_lines (i + 1) (drop i entries)

pub entries_go_on : (whole out new : List ℕ) (entries : List Entry) (i : ℕ) (entry : Entry) → i < length entries → entry ≡ get_or entries i entry
    → EntriesGo whole out entries i → new ≡ out ++ entry_line (i + 1) entry → EntriesGo whole new entries (i + 1)
entries_go_on whole out new entries i entry low is so_far gained =
    let rest = drop (i + 1) entries in
    let split : drop i entries ≡ entry ∷ rest =
    drop-cons entries i entry low ∙ ap (λ (e : Entry). e ∷ drop (suc i) entries) (sym is) ∙ ap (λ (k : ℕ). entry ∷ drop k entries) (sym (add-one i)) in
    so_far ∙ ap (λ (left : List Entry). out ++ entry_lines (i + 1) left) split
    ∙ sym (append_assoc out (entry_line (i + 1) entry) (entry_lines (i + 1 + 1) rest))
    ∙ ap (λ (front : List ℕ). front ++ entry_lines (i + 1 + 1) rest) (sym gained)
