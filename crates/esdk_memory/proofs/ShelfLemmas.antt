-- What the calls of a shelf do to its files, for those who call them.
use Rattle.std.proofs.Common.{◌≡◌, ◌∙◌, ℕ, List, [], ◌++◌, false, cond, refl, sym, ap, append-nil, append_assoc}
use Rattle.std.specs.Prelude.{bytes_eq, is_none}
use Rattle.std.specs.declared.option.Option.{Option}
use Rattle.std.specs.declared.option.Option.TheVariants.{None, Some}
use Rattle.std.specs.Option.{option_map, option_map_or}
use Rattle.std.specs.FinMap.{get, insert}
use Rattle.esdk_memory.specs.MemFiles.{with_value}
use Rattle.esdk_base.specs.Shelf.{Files, Holds, appended, created, is_missing}
use Rattle.esdk_memory.proofs.Named.{get-with_value, get-with_value_same, with_value_again, with_value_same}

-- nothing is appended to a name that isn't there
pub appended_missing : (files : Files) (name bytes : List ℕ) → get files name ≡ None → appended files name bytes ≡ files
unfolding appended
appended_missing files name bytes missing = ap (λ o. option_map_or (λ before. insert files name (before ++ bytes)) o files) missing

-- bytes are appended to what the name holds
pub appended_held : (files : Files) (name before bytes : List ℕ) → get files name ≡ Some before → appended files name bytes ≡ insert files name (before ++ bytes)
unfolding appended
appended_held files name before bytes held = ap (λ o. option_map_or (λ b. insert files name (b ++ bytes)) o files) held

-- both, by what the name has
pub appended_is : (files : Files) (name bytes : List ℕ) (held : Option (List ℕ)) → get files name ≡ held → with_value files name (option_map (λ before. before ++ bytes) held) ≡ appended files name bytes
appended_is files name bytes None has = with_value_same files name None has ∙ sym (appended_missing files name bytes has)
appended_is files name bytes (Some before) has = sym (appended_held files name before bytes has)

nothing_more : (files : Files) (name : List ℕ) (held : Option (List ℕ)) → get files name ≡ held → appended files name [] ≡ files
nothing_more files name None has = appended_missing files name [] has
nothing_more files name (Some before) has =
    appended_held files name before [] has ∙ ap (insert files name) (append-nil before) ∙ with_value_same files name (Some before) has

-- to append nothing changes nothing
pub appended_nothing : (files : Files) (name : List ℕ) → appended files name [] ≡ files
appended_nothing files name = nothing_more files name (get files name) refl

-- what each name holds once one of them was created
pub get-created : (files : Files) (name q : List ℕ) → get (created files name) q ≡ cond (bytes_eq q name) (Some []) (get files q)
get-created files name q = get-with_value files name (Some []) q

-- what each name holds once bytes were appended to one that is there
pub get-appended : (files : Files) (name before bytes q : List ℕ) → get files name ≡ Some before → get (appended files name bytes) q ≡ cond (bytes_eq q name) (Some (before ++ bytes)) (get files q)
get-appended files name before bytes q held =
    ap (λ m. get m q) (appended_held files name before bytes held) ∙ get-with_value files name (Some (before ++ bytes)) q

-- what was appended to a name that was created is all that it holds
pub appended_created : (files : Files) (name bytes : List ℕ) → appended (created files name) name bytes ≡ insert files name bytes
appended_created files name bytes =
    appended_held (created files name) name [] bytes (get-with_value_same files name (Some [])) ∙ with_value_again files name (Some []) (Some bytes)

appended_twice : (files : Files) (name first second : List ℕ) (held : Option (List ℕ)) → get files name ≡ held → appended (appended files name first) name second ≡ appended files name (first ++ second)
appended_twice files name first second None has =
    ap (λ m. appended m name second) (appended_missing files name first has)
    ∙ appended_missing files name second has
    ∙ sym (appended_missing files name (first ++ second) has)
appended_twice files name first second (Some before) has =
    ap (λ m. appended m name second) (appended_held files name before first has)
    ∙ appended_held (insert files name (before ++ first)) name (before ++ first) second (get-with_value_same files name (Some (before ++ first)))
    ∙ with_value_again files name (Some (before ++ first)) (Some ((before ++ first) ++ second))
    ∙ ap (insert files name) (append_assoc before first second)
    ∙ sym (appended_held files name before (first ++ second) has)

-- two appends are one of both
pub appended_again : (files : Files) (name first second : List ℕ) → appended (appended files name first) name second ≡ appended files name (first ++ second)
appended_again files name first second = appended_twice files name first second (get files name) refl

-- a name that holds bytes isn't missing
pub held_not_missing : (told : Option Files) (name bytes : List ℕ) → Holds told name bytes → is_missing told name ≡ false
held_not_missing None name bytes held = refl
held_not_missing (Some files) name bytes held = ap is_none held
