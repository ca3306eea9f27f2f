-- The members of a JSON object, one after another.
use Rattle.std.proofs.Common.{◌≡◌, ◌<◌, ◌∙◌, ℕ, suc, ◌+◌, Bool, true, List, ◌∷◌, ◌++◌, length, get_or, drop, sym, ap, append_assoc, drop-cons, add-one, arith, eqb, not}
use Rattle.std.proofs.lemmas.Bool.{ne_eqb}
use Rattle.serde_json.specs.Written.{members_text}
use Rattle.context_codec.specs.Context.{KeyValue}
use Rattle.esdk_report.specs.ContextLine.{member_text, members_of}

-- What is to be written is what was written and the members from this one on.
abbrev pub MembersGo : List ℕ → List ℕ → List KeyValue → ℕ → Type 0
MembersGo whole out pairs i = whole ≡ out ++ members_text (not (eqb i 0)) (members_of (drop i pairs))

-- a member stands before each but the first
later_after : (i : ℕ) → not (eqb (i + 1) 0) ≡ true
later_after i = ap not (ne_eqb (i + 1) 0 (λ (same : i + 1 ≡ 0). omega arith))

-- the members' text begins with the first one's
member_first : (later : Bool) (pair : KeyValue) (pairs : List KeyValue)
    → members_text later (members_of (pair ∷ pairs)) ≡ member_text later pair ++ members_text true (members_of pairs)
unfolding member_text
member_first later pair pairs = simp append_assoc

pub members_go_on : (whole out new : List ℕ) (pairs : List KeyValue) (i : ℕ) (pair : KeyValue) → i < length pairs → pair ≡ get_or pairs i pair
    → MembersGo whole out pairs i → new ≡ out ++ member_text (not (eqb i 0)) pair → MembersGo whole new pairs (i + 1)
members_go_on whole out new pairs i pair low is so_far gained =
    let rest = drop (i + 1) pairs in
    let split : drop i pairs ≡ pair ∷ rest =
    drop-cons pairs i pair low ∙ ap (λ (p : KeyValue). p ∷ drop (suc i) pairs) (sym is) ∙ ap (λ (k : ℕ). pair ∷ drop k pairs) (sym (add-one i)) in
    so_far ∙ ap (λ (left : List KeyValue). out ++ members_text (not (eqb i 0)) (members_of left)) split
    ∙ ap (λ (text : List ℕ). out ++ text) (member_first (not (eqb i 0)) pair rest)
    ∙ sym (append_assoc out (member_text (not (eqb i 0)) pair) (members_text true (members_of rest)))
    ∙ ap (λ (front : List ℕ). front ++ members_text true (members_of rest)) (sym gained)
    ∙ ap (λ (later : Bool). new ++ members_text later (members_of rest)) (sym (later_after i))
