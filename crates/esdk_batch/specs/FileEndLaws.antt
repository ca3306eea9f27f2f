-- What appending bytes to a file keeps, one append after another; and the laws of receivers, which
-- an `impl` can cite from specs/ alone.
use Rattle.std.proofs.Common.{◌≡◌, ◌∙◌, ℕ, ◌+◌, false, List, [], ◌++◌, length, take, refl, sym, ap}
use Rattle.std.proofs.Common.{subst, arith, append_assoc, append-nil}
use Rattle.std.proofs.Math.Seq.{take-append-add}
use Rattle.std.specs.Prelude.{is_none, is_some}
use Rattle.std.proofs.lemmas.List.{length-append}
use Rattle.std.proofs.lemmas.List.Elements.{All-append, All-nil}
use Rattle.std.specs.declared.option.Option.{Option}
use Rattle.std.specs.declared.option.Option.TheVariants.{None, Some}
use Rattle.std.specs.Option.{option_map}
use Rattle.esdk_seen.specs.Calls.{ShelfCall}
use Rattle.esdk_base.specs.Shelf.{Files, file_of, is_missing}
use Rattle.esdk_base.specs.Streams.{ShelfState}
use Rattle.esdk_batch.specs.FileEnd.{AppendFails, FileTakes}
use Rattle.esdk_batch.specs.Files.{FileGains, KeepsOthers}
use Rattle.esdk_batch.specs.ShelfCalls.{HasCalls, IsWrite}
use Rattle.esdk_batch.specs.Watching.{IsFrom, Watch, as_shown, as_told, files_by}

-- ---- bytes behind bytes

behind_twice : (held : Option (List ℕ)) (x y : List ℕ)
    → option_map (λ h. h ++ y) (option_map (λ h. h ++ x) held)
    ≡ option_map (λ h. h ++ (x ++ y)) held
behind_twice None x y = refl
behind_twice (Some held) x y = ap (λ (h : List ℕ). Some h) (append_assoc held x y)

others_more : (first mid last : Option Files) (name : List ℕ) → KeepsOthers first mid name
    → KeepsOthers mid last name → KeepsOthers first last name
others_more first mid last name one two = record {
  tells = two.tells ∙ one.tells;
  others = λ other apart. two.others other apart ∙ one.others other apart;
}

gains_more : (first mid last : Option Files) (name x y : List ℕ) → FileGains first mid name x
    → FileGains mid last name y → FileGains first last name (x ++ y)
gains_more first mid last name x y one two = record {
  keeps = others_more first mid last name one.keeps two.keeps;
  this = two.this ∙ ap (option_map (λ held. held ++ y)) one.this
      ∙ behind_twice (file_of first name) x y;
}

nothing_behind : (held : Option (List ℕ)) → held ≡ option_map (λ bytes. bytes ++ []) held
nothing_behind None = refl
nothing_behind (Some bytes) = ap (λ b. Some b) (sym (append-nil bytes))

-- nothing was appended
pub gained_nothing : (told : Option Files) (name : List ℕ) → FileGains told told name []
gained_nothing told name = record {
  keeps = record { tells = refl; others = λ other apart. refl };
  this = nothing_behind (file_of told name);
}

-- ---- a name that is there

mapped_there : (held : Option (List ℕ)) (bytes : List ℕ)
    → is_none (option_map (λ held. held ++ bytes) held) ≡ is_none held
mapped_there None bytes = refl
mapped_there (Some held) bytes = refl

gained_missing : (old new : Option Files) (name bytes : List ℕ) → is_some new ≡ is_some old
    → file_of new name ≡ option_map (λ held. held ++ bytes) (file_of old name)
    → is_missing new name ≡ is_missing old name
gained_missing None None name bytes told this = refl
gained_missing None (Some files) name bytes told this = absurd cc
gained_missing (Some files) None name bytes told this = absurd cc
gained_missing (Some files) (Some left) name bytes told this =
    ap is_none this ∙ mapped_there (file_of (Some files) name) bytes

-- what was there before an append is there behind it
pub gained_there : (old new : Option Files) (name bytes : List ℕ) → FileGains old new name bytes
    → is_missing old name ≡ false → is_missing new name ≡ false
gained_there old new name bytes gains there =
    gained_missing old new name bytes gains.keeps.tells gains.this ∙ there

-- ---- calls

-- there was none
abbrev pub calls_none : (P : ShelfCall → Type 0) (shelf : ShelfState) → HasCalls P shelf shelf
calls_none P shelf = record {
  made = [];
  calls = sym (append-nil shelf.calls);
  all = All-nil P;
  later = omega arith;
}

-- some behind others
abbrev pub calls_more : (P : ShelfCall → Type 0) (a b c : ShelfState) → HasCalls P a b
    → HasCalls P b c
    → HasCalls P a c
calls_more P a b c one two = record {
  made = one.made ++ two.made;
  calls = two.calls ∙ ap (λ (calls : List ShelfCall). calls ++ two.made) one.calls
      ∙ append_assoc a.calls one.made two.made;
  all = All-append P one.made two.made one.all two.all;
  later = omega (arith, one.later, two.later);
}

-- the files are known still
pub from_later : (P : ShelfCall → Type 0) (by : Watch) (old new : ShelfState) → HasCalls P old new
    → IsFrom by old → IsFrom by new
from_later P as_told old new has from = tt
from_later P (as_shown since before) old new has from =
    omega (arith, from, ap length has.calls, length-append old.calls has.made)

-- ---- the laws

pub file_takes_none : (lent : ℕ) (name : List ℕ) (shelf : ShelfState)
    → FileTakes lent lent name name shelf shelf []
file_takes_none lent name shelf = record {
  shelf = refl;
  file = refl;
  gains = λ by from. gained_nothing (files_by by shelf) name;
  calls = calls_none (IsWrite name) shelf;
}

pub file_takes_more : (l m n : ℕ) (x y z : List ℕ) (a b c : ShelfState) (first second : List ℕ)
    → FileTakes l m x y a b first → FileTakes m n y z b c second
    → FileTakes l n x z a c (first ++ second)
file_takes_more l m n x y z a b c first second one two = record {
  shelf = two.shelf ∙ one.shelf;
  file = two.file ∙ one.file;
  gains = λ by from.
      gains_more (files_by by a) (files_by by b) (files_by by c) x first second
      (one.gains by from)
      (subst (λ (name : List ℕ). FileGains (files_by by b) (files_by by c) name second) one.file
      (two.gains by (from_later (IsWrite x) by a b one.calls from)));
  calls = calls_more (IsWrite x) a b c one.calls
      (subst (λ (name : List ℕ). HasCalls (IsWrite name) b c) one.file two.calls);
}

pub file_fails_behind : (l m n : ℕ) (x y z : List ℕ) (a b c : ShelfState) (first second : List ℕ)
    → FileTakes l m x y a b first → AppendFails m n y z b c second
    → AppendFails l n x z a c (first ++ second)
file_fails_behind l m n x y z a b c first second one two = record {
  shelf = two.shelf ∙ one.shelf;
  file = two.file ∙ one.file;
  gains = λ by from.
      (let more = two.gains by (from_later (IsWrite x) by a b one.calls from) in
      let front : List ℕ = take more.0 second in (
        length first + more.0,
        subst (λ (bytes : List ℕ). FileGains (files_by by a) (files_by by c) x bytes)
            (sym (take-append-add first second more.0))
            (gains_more (files_by by a) (files_by by b) (files_by by c) x first front
            (one.gains by from)
            (subst (λ (name : List ℕ). FileGains (files_by by b) (files_by by c) name front)
            one.file more.1)),
      ));
  calls = calls_more (IsWrite x) a b c one.calls
      (subst (λ (name : List ℕ). HasCalls (IsWrite name) b c) one.file two.calls);
  rose = λ there.
      (let still = gained_there a.files b.files x first (one.gains as_told tt) there in
      let rose = two.rose (subst (λ (name : List ℕ). is_missing b.files name ≡ false)
      (sym one.file) still) in
      omega (arith, rose, one.calls.later));
}
