-- Files by their names: what one changed name leaves.
use Rattle.std.proofs.Common.{◌≡◌, ◌≢◌, ◌∙◌, ℕ, Bool, true, false, cond, List, [], ◌∷◌, ◌++◌, length, take, refl, sym, ap, subst, inl, inr, arith}
use Rattle.std.specs.Prelude.{bytes_eq, Result, Ok, Err}
use Rattle.std.specs.declared.option.Option.{Option}
use Rattle.std.specs.declared.option.Option.TheVariants.{None, Some}
use Rattle.std.specs.Option.{option_map, option_map_or}
use Rattle.std.specs.Cmp.Lexicographic.{nat_list_cmp_total, texts_ties, bytes_decides}
use Rattle.std.specs.FinMap.{get, insert, get-insert}
use Rattle.esdk_base.specs.Shelf.{AppendsTo, Creates, Files, appended, created}
use Rattle.esdk_batch.specs.FileEndLaws.{gained_nothing}
use Rattle.esdk_batch.specs.Files.{Empties, FileGains, KeepsOthers, Makes, Puts}

-- what a name holds once one was changed
get_changed : (files : Files) (name v q : List ℕ) → get (insert files name v) q ≡ cond (bytes_eq q name) (Some v) (get files q)
get_changed files name v q = get-insert nat_list_cmp_total files name v q ∙ ap (λ b. cond b (Some v) (get files q)) (sym (texts_ties q name))

same_name : (name : List ℕ) → bytes_eq name name ≡ true
same_name name = (bytes_decides name name).1 refl

other_by : (b : Bool) (q name : List ℕ) → bytes_eq q name ≡ b → q ≢ name → b ≡ false
other_by true q name e apart = absurd (apart ((bytes_decides q name).0 e))
other_by false q name e apart = refl

get_this : (files : Files) (name v : List ℕ) → get (insert files name v) name ≡ Some v
get_this files name v = get_changed files name v name ∙ ap (λ b. cond b (Some v) (get files name)) (same_name name)

get_other : (files : Files) (name v q : List ℕ) → q ≢ name → get (insert files name v) q ≡ get files q
get_other files name v q apart = get_changed files name v q ∙ ap (λ b. cond b (Some v) (get files q)) (other_by (bytes_eq q name) q name refl apart)

-- ---- a name that is made to hold nothing

pub emptied : (told : Option Files) (name : List ℕ) → Empties told (option_map (λ files. created files name) told) name
emptied None name = record { keeps = record { tells = refl; others = λ other apart. refl }; this = λ some. absurd cc }
emptied (Some files) name = record {
  keeps = record { tells = refl; others = λ other apart. get_other files name [] other apart };
  this = λ some. get_this files name [];
}

-- ---- bytes behind a name

appended_by : (held : Option (List ℕ)) (files : Files) (name bytes : List ℕ) → get files name ≡ held → FileGains (Some files) (Some (option_map_or (λ before. insert files name (before ++ bytes)) held files)) name bytes
appended_by None files name bytes has = record {
  keeps = record { tells = refl; others = λ other apart. refl };
  this = has ∙ sym (ap (option_map (λ held. held ++ bytes)) has);
}
appended_by (Some before) files name bytes has = record {
  keeps = record { tells = refl; others = λ other apart. get_other files name (before ++ bytes) other apart };
  this = get_this files name (before ++ bytes) ∙ sym (ap (option_map (λ held. held ++ bytes)) has);
}

pub gained : (told : Option Files) (name bytes : List ℕ) → FileGains told (option_map (λ files. appended files name bytes) told) name bytes
unfolding appended
gained None name bytes = record { keeps = record { tells = refl; others = λ other apart. refl }; this = refl }
gained (Some files) name bytes = appended_by (get files name) files name bytes refl

-- ---- the calls

pub makes : {T E : Type 0} (old new : Option Files) (name : List ℕ) (result : Result T E) → Creates old new result name → Makes old new name result
makes old new name (Ok done) is = subst (λ files. Empties old files name) (sym is) (emptied old name)
makes old new name (Err failed) is = elim is [ inl same ↦ inl same | inr made ↦ inr (subst (λ files. Empties old files name) (sym made) (emptied old name)) ]

pub puts : {T E : Type 0} (old new : Option Files) (name bytes : List ℕ) (result : Result T E) → AppendsTo old new result name bytes → Puts old new name bytes result
puts old new name bytes (Ok done) is = subst (λ files. FileGains old files name bytes) (sym is) (gained old name bytes)
puts old new name bytes (Err failed) is = (is.0, subst (λ files. FileGains old files name (take is.0 bytes)) (sym is.1) (gained old name (take is.0 bytes)))

-- whatever they answer, every other name holds what it held
pub makes_keep : {T E : Type 0} (old new : Option Files) (name : List ℕ) (result : Result T E) → Creates old new result name → KeepsOthers old new name
makes_keep old new name (Ok done) is = subst (λ files. KeepsOthers old files name) (sym is) (emptied old name).keeps
makes_keep old new name (Err failed) is = elim is [
  | inl same ↦ subst (λ files. KeepsOthers old files name) (sym same) (record { tells = refl; others = λ other apart. refl })
  | inr made ↦ subst (λ files. KeepsOthers old files name) (sym made) (emptied old name).keeps
]

pub puts_keep : {T E : Type 0} (old new : Option Files) (name bytes : List ℕ) (result : Result T E) → AppendsTo old new result name bytes → KeepsOthers old new name
puts_keep old new name bytes (Ok done) is = subst (λ files. KeepsOthers old files name) (sym is) (gained old name bytes).keeps
puts_keep old new name bytes (Err failed) is = subst (λ files. KeepsOthers old files name) (sym is.1) (gained old name (take is.0 bytes)).keeps

no_bytes : (bytes : List ℕ) → length bytes ≡ 0 → bytes ≡ []
no_bytes [] e = refl
no_bytes (b ∷ bytes) e = absurd (omega (arith, e))

pub puts_none : (told : Option Files) (name bytes : List ℕ) → length bytes ≡ 0 → FileGains told told name bytes
puts_none told name bytes none = subst (λ bytes. FileGains told told name bytes) (sym (no_bytes bytes none)) (gained_nothing told name)
