-- Taking the first plug of a name.
use Rattle.std.proofs.Common.{◌≡◌, ◌+◌, ◌<◌, ℕ, suc, true, false, List, [], ◌∷◌, ◌++◌, length, take, drop, get_or, refl, sym, ap, subst, ◌∙◌, arith, append_assoc}
use Rattle.std.specs.Prelude.{Option, Some, None, option_map}
use Rattle.std.specs.List.{remove}
use Rattle.std.specs.Str.{bytes_eq}
use Rattle.std.proofs.lemmas.List.{drop_all, drop_more, get_or_default, take_more}
use Rattle.keyring_file.specs.declared.plugs.Plug.{Plug}
use Rattle.keyring_file.specs.Plugs.{taken}

-- what is taken of the plugs behind these
abbrev pub behind : {P : Type 0} → List (Plug P) → Option (P × List (Plug P)) → Option (P × List (Plug P))
behind front found = option_map (λ x. (x.0, front ++ x.1)) found

pub behind_none : {P : Type 0} (found : Option (P × List (Plug P))) → found ≡ behind [] found
behind_none (Some x) = refl
behind_none None = refl

behind_more : {P : Type 0} (front : List (Plug P)) (plug : Plug P) (found : Option (P × List (Plug P)))
    → behind front (option_map (λ x. (x.0, plug ∷ x.1)) found) ≡ behind (front ++ plug ∷ []) found
behind_more front plug (Some x) = ap (λ plugs. Some (x.0, plugs)) (sym (append_assoc front (plug ∷ []) x.1))
behind_more front plug None = refl

other_first : {P : Type 0} (name : List ℕ) (plug : Plug P) (plugs : List (Plug P)) → bytes_eq plug.name name ≡ false
    → taken name (plug ∷ plugs) ≡ option_map (λ x. (x.0, plug ∷ x.1)) (taken name plugs)
unfolding taken
other_first name plug plugs other = rw other refl

this_first : {P : Type 0} (name : List ℕ) (plug : Plug P) (plugs : List (Plug P)) → bytes_eq plug.name name ≡ true
    → taken name (plug ∷ plugs) ≡ Some (plug.keyring, plugs)
unfolding taken
this_first name plug plugs this = rw this refl

-- the plug at the index, and those behind it
left_from : {P : Type 0} (plugs : List (Plug P)) (i : ℕ) (plug : Plug P) → i < length plugs → plug ≡ get_or plugs i plug → drop i plugs ≡ plug ∷ drop (i + 1) plugs
left_from plugs i plug lt is = drop_more plugs i plug lt ∙ ap (λ x. x ∷ drop (i + 1) plugs) (sym is)

-- the plug at the index has another name
pub passed : {P : Type 0} (name : List ℕ) (plugs : List (Plug P)) (i : ℕ) (plug : Plug P) → i < length plugs → plug ≡ get_or plugs i plug → bytes_eq plug.name name ≡ false
    → taken name plugs ≡ behind (take i plugs) (taken name (drop i plugs))
    → taken name plugs ≡ behind (take (i + 1) plugs) (taken name (drop (i + 1) plugs))
passed name plugs i plug lt is other so =
    so ∙ ap (λ left. behind (take i plugs) (taken name left)) (left_from plugs i plug lt is)
    ∙ ap (behind (take i plugs)) (other_first name plug (drop (i + 1) plugs) other)
    ∙ behind_more (take i plugs) plug (taken name (drop (i + 1) plugs))
    ∙ ap (λ front. behind front (taken name (drop (i + 1) plugs))) (ap (λ x. take i plugs ++ x ∷ []) is ∙ sym (take_more plugs i plug lt))

-- the plug at the index has the name
pub found : {P : Type 0} (name : List ℕ) (plugs : List (Plug P)) (i : ℕ) (plug : Plug P) → i < length plugs → plug ≡ get_or plugs i plug → bytes_eq plug.name name ≡ true
    → taken name plugs ≡ behind (take i plugs) (taken name (drop i plugs))
    → taken name plugs ≡ Some (plug.keyring, take i plugs ++ drop (i + 1) plugs)
found name plugs i plug lt is this so =
    so ∙ ap (λ left. behind (take i plugs) (taken name left)) (left_from plugs i plug lt is)
    ∙ ap (behind (take i plugs)) (this_first name plug (drop (i + 1) plugs) this)

-- no plug is left
pub none_left : {P : Type 0} (name : List ℕ) (plugs : List (Plug P)) (i : ℕ) → i ≡ length plugs
    → taken name plugs ≡ behind (take i plugs) (taken name (drop i plugs)) → taken name plugs ≡ None
unfolding taken
none_left name plugs i is so = so ∙ ap (λ left. behind (take i plugs) (taken name left)) (drop_all i plugs (omega (arith, is)))

-- whichever way the plug at the index is read
pub found_at : {P : Type 0} (name : List ℕ) (plugs : List (Plug P)) (i : ℕ) (read plug : Plug P) → i < length plugs → read ≡ get_or plugs i read → bytes_eq read.name name ≡ true
    → taken name plugs ≡ behind (take i plugs) (taken name (drop i plugs))
    → get_or plugs i plug ≡ plug → taken name plugs ≡ Some (plug.keyring, remove plugs i)
found_at name plugs i read plug lt is this so at =
    let same : read ≡ plug = is ∙ get_or_default plugs i read plug lt ∙ at in
    let next : i + 1 ≡ suc i = omega arith in
    found name plugs i plug lt (sym at) (subst (λ p. bytes_eq p.name name ≡ true) same this) so ∙ ap (λ n. Some (plug.keyring, take i plugs ++ drop n plugs)) next
