-- What is named of leaves that tell their wrapping keys and didn't fail.
use Rattle.std.proofs.Common.{◌≡◌, ℕ, ◌+◌, ◌≤◌, Bool, List, [], ◌∷◌, map, Option, Some, None, refl, sym, ap, subst, ◌∙◌, arith}
use Rattle.std.specs.Prelude.{All, IfSome, if◌then◌else◌}
use Rattle.std.proofs.lemmas.List.Elements.{All-head, All-tail}
use Rattle.esdk_fields.specs.Counts.{Stayed}
use Rattle.context_codec.specs.Context.{KeyValue}
use Rattle.context_codec.specs.Parts.{only_given, whole_of}
use Rattle.edk_codec.specs.Entry.{Entry}
use Rattle.header_codec.specs.Header.{HeaderValue}
use Rattle.keyring_trait.specs.Keyring.{KeyringMeaning, OpensWith}
use Rattle.keyring_trait.specs.Wrapping.{WrapKeyValue, unwrapped}
use Rattle.multi_keyring.specs.Tree.{all_faults}
use Rattle.audit_core.specs.Asking.{LeafAnswer, IsAnswer, NamesOpeners}
use Rattle.audit_core.specs.Laws.{both_told, told_by}
use Rattle.audit_core.specs.Openers.{is_opener, numbers_of, openers, unlocks}

abbrev pub before_of : LeafAnswer → KeyringMeaning
before_of a = a.before

abbrev pub after_of : LeafAnswer → KeyringMeaning
after_of a = a.after

-- the first leaf's keys, and the others'
pub record FirstTold (first : Option (List WrapKeyValue)) (others : Option (List (List WrapKeyValue))) (leaves : List (List WrapKeyValue)) : Type 0 where
  pub keys : List WrapKeyValue
  pub rest : List (List WrapKeyValue)
  pub told : first ≡ Some keys
  pub told_rest : others ≡ Some rest
  pub are : leaves ≡ keys ∷ rest

first_told : (first : Option (List WrapKeyValue)) (others : Option (List (List WrapKeyValue))) (leaves : List (List WrapKeyValue)) → both_told first others ≡ Some leaves → FirstTold first others leaves
first_told None others leaves is = absurd cc
first_told (Some keys) None leaves is = absurd cc
first_told (Some keys) (Some rest) leaves is = record { keys = keys; rest = rest; told = refl; told_rest = refl; are = cc }

-- what it found is what its keys find
found_as_told : (told : Option (List WrapKeyValue)) (keys : List WrapKeyValue) (entries : List Entry) (c : List KeyValue) (stayed : Type 0) (found : Option (List ℕ)) → told ≡ Some keys
    → IfSome told (λ ks. OpensWith ks entries c stayed found) → stayed → found ≡ unwrapped keys entries c
found_as_told None keys entries c stayed found is opens none_failed = absurd cc
found_as_told (Some ks) keys entries c stayed found is opens none_failed =
    let same : ks ≡ keys = cc in
    opens.first none_failed ∙ ap (λ (l : List WrapKeyValue). unwrapped l entries c) same

pub later_all : (c : List KeyValue) (entries : List Entry) (answers : List LeafAnswer) → All (IsAnswer c entries) answers → all_faults (map before_of answers) ≤ all_faults (map after_of answers)
later_all c entries [] are = omega arith
later_all c entries (a ∷ answers) are =
    omega (arith, (All-head (IsAnswer c entries) a answers are).goes.later, later_all c entries answers (All-tail (IsAnswer c entries) a answers are))

chosen_same : (b d : Bool) (n : ℕ) (xs ys : List ℕ) → b ≡ d → xs ≡ ys → (if b then n ∷ xs else xs) ≡ (if d then n ∷ ys else ys)
chosen_same b d n xs ys same others = cc

named_as_told : (h : HeaderValue) (given : List KeyValue) (n : ℕ) (answers : List LeafAnswer) (leaves : List (List WrapKeyValue)) → All (IsAnswer (whole_of h.stored given) h.entries) answers
    → told_by (map before_of answers) ≡ Some leaves → Stayed (all_faults (map before_of answers)) (all_faults (map after_of answers))
    → numbers_of (λ (a : LeafAnswer). unlocks h (only_given h.stored given) a.found) n answers ≡ numbers_of (is_opener h given) n leaves
named_as_told h given n [] leaves are told stayed =
    let none : [] ≡ leaves = cc in
    ap (λ (l : List (List WrapKeyValue)). numbers_of (is_opener h given) n l) none
named_as_told h given n (a ∷ answers) leaves are told stayed =
    let whole = whole_of h.stored given in
    let first = first_told a.before.keys (told_by (map before_of answers)) leaves told in
    let answer = All-head (IsAnswer whole h.entries) a answers are in
    let others = All-tail (IsAnswer whole h.entries) a answers are in
    let later = later_all whole h.entries answers others in
    let own : Stayed a.before.faults a.after.faults = omega (arith, answer.goes.later, later, stayed) in
    let rest : Stayed (all_faults (map before_of answers)) (all_faults (map after_of answers)) = omega (arith, answer.goes.later, later, stayed) in
    let found = found_as_told a.before.keys first.keys h.entries whole (Stayed a.before.faults a.after.faults) a.found first.told answer.opens own in
    chosen_same (unlocks h (only_given h.stored given) a.found) (is_opener h given first.keys) n (numbers_of (λ (x : LeafAnswer). unlocks h (only_given h.stored given) x.found) (n + 1) answers)
    (numbers_of (is_opener h given) (n + 1) first.rest) (ap (unlocks h (only_given h.stored given)) found) (named_as_told h given (n + 1) answers first.rest others first.told_rest rest)
    ∙ ap (λ (l : List (List WrapKeyValue)). numbers_of (is_opener h given) n l) (sym first.are)

pub names_what_opens : (old now : List KeyringMeaning) (h : HeaderValue) (given : List KeyValue) (named : List ℕ) (leaves : List (List WrapKeyValue)) → NamesOpeners old now h given named
    → told_by old ≡ Some leaves → Stayed (all_faults old) (all_faults now) → named ≡ openers leaves h given
names_what_opens old now h given named leaves names told stayed =
    names.openers_are
    ∙ named_as_told h given 1 names.answers leaves names.are (subst (λ (l : List KeyringMeaning). told_by l ≡ Some leaves) names.old_is told)
    (subst (λ (l : List KeyringMeaning). Stayed (all_faults (map before_of names.answers)) (all_faults l)) names.now_is
    (subst (λ (l : List KeyringMeaning). Stayed (all_faults l) (all_faults now)) names.old_is stayed))
