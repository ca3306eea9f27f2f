-- What went through an object, as its calls tell it: the bytes that a source gave and whether its
-- end was seen, the bytes that an entropy gave, and the calls of a shelf. Every object tells that,
-- whether it tells what it holds or not.
use Rattle.std.specs.Prelude.{◌≡◌, ◌⊎◌, ℕ, ◌<◌, ◌==◌, List, [], ◌∷◌, ◌++◌, length, take, Bool}
use Rattle.std.specs.Prelude.{Result, MatchResult}
use Rattle.esdk_seen.specs.Calls.{ForWhom, ShelfCall, anyone, appends, its_owner, reads}
use Rattle.esdk_base.specs.declared.shelf.Readers.{Readers}
use Rattle.esdk_base.specs.declared.shelf.Readers.TheVariants as readers

-- Ok(n) put the first n bytes of out behind those that came, and an error none.
abbrev pub ReadComes : {E : Type 0} → List ℕ → List ℕ → Result ℕ E → List ℕ → Type 0
ReadComes old new result out = MatchResult result (λ n. new ≡ old ++ take n out) (λ _. new ≡ old)

-- A read into some room saw the end where it gave nothing, and not where it gave some. One into no
-- room, and one that failed, saw nothing new.
abbrev pub ReadSeesEnd : {E : Type 0} → Bool → Bool → Result ℕ E → List ℕ → Type 0
ReadSeesEnd old new result out = MatchResult result
    (λ n. (0 < length out → new ≡ (n == 0)) × (length out ≡ 0 → new ≡ old)) (λ _. new ≡ old)

-- Ok put all of out behind the bytes drawn, and an error nothing.
abbrev pub FillDraws : {T E : Type 0} → List ℕ → List ℕ → Result T E → List ℕ → Type 0
FillDraws old new result out = MatchResult result (λ _. new ≡ old ++ out) (λ _. new ≡ old)

-- ---- the calls of a shelf

-- Ok(n) is told as a read from this offset that gave the first n bytes of out, and an error isn't
-- told.
abbrev pub TellsRead : {E : Type 0} → List ShelfCall → List ShelfCall → Result ℕ E → List ℕ → ℕ
    → List ℕ → Type 0
TellsRead old new result name at out =
    MatchResult result (λ n. new ≡ old ++ reads name at (take n out) ∷ []) (λ _. new ≡ old)

-- Ok is told as this call. So may an error be, which may have done it.
abbrev pub TellsCall : {T E : Type 0} → List ShelfCall → List ShelfCall → Result T E → ShelfCall
    → Type 0
TellsCall old new result call =
    MatchResult result (λ _. new ≡ old ++ call ∷ [])
    (λ _. (new ≡ old) ⊎ (new ≡ old ++ call ∷ []))

-- Ok is told as an append of all the bytes. An error may be told as one of a front of them.
abbrev pub TellsAppend : {T E : Type 0} → List ShelfCall → List ShelfCall → Result T E → List ℕ
    → List ℕ → Type 0
TellsAppend old new result name bytes =
    MatchResult result (λ _. new ≡ old ++ appends name bytes ∷ [])
    (λ _. (new ≡ old) ⊎ ((n : ℕ) × (new ≡ old ++ appends name (take n bytes) ∷ [])))

-- for whom a file is finished, as a call tells it
abbrev pub whom : Readers → ForWhom
whom readers.Owner = its_owner
whom readers.Anyone = anyone
