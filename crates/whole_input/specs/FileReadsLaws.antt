-- Reads of a file in a row: none, and some behind others. Laws that an `impl` can cite from specs/
-- alone.
use Rattle.std.proofs.Common.{◌≡◌, ◌⊎◌, ◌∙◌, ℕ, ◌+◌, ◌≤◌, List, [], ◌∷◌, ◌++◌, length, Bool, true}
use Rattle.std.proofs.Common.{refl, sym, ap, subst, arith, inl, inr, append_assoc, append-nil}
use Rattle.std.proofs.Common.{length-append}
use Rattle.std.proofs.lemmas.List.Elements.{Contains-append_left, Contains-append_right}
use Rattle.std.proofs.lemmas.List.Folds.{concat-append}
use Rattle.std.specs.List.{concat}
use Rattle.esdk_seen.specs.Calls.{ShelfCall, reads}
use Rattle.whole_input.specs.FileReads.{ComesFrom, ReadsRow, ReadsWholeFile, SeesEnd, reads_in_row}

-- pieces behind others are read behind them
pub row_behind : (name : List ℕ) (at : ℕ) (first second : List (List ℕ))
    → reads_in_row name at (first ++ second)
    ≡ reads_in_row name at first ++ reads_in_row name (at + length (concat first)) second
unfolding reads_in_row
row_behind name at [] second = ap (λ (n : ℕ). reads_in_row name n second) (omega arith)
row_behind name at (piece ∷ more) second =
    let next : ℕ = at + length piece in
    let far : next + length (concat more) ≡ at + length (concat (piece ∷ more)) =
    omega (arith, length-append piece (concat more)) in
    ap (λ (calls : List ShelfCall). reads name at piece ∷ calls)
    (row_behind name next more second
    ∙ ap (λ (n : ℕ). reads_in_row name next more ++ reads_in_row name n second) far)

pub row_none : (name : List ℕ) (at : ℕ) (calls : List ShelfCall) → ReadsRow name at calls calls []
unfolding reads_in_row
row_none name at calls =
    record { pieces = []; calls = sym (append-nil calls); all = refl }

pub row_more : (name : List ℕ) (at mid : ℕ) (old made new : List ShelfCall) (bytes more : List ℕ)
    → mid ≡ at + length bytes → ReadsRow name at old made bytes → ReadsRow name mid made new more
    → ReadsRow name at old new (bytes ++ more)
row_more name at mid old made new bytes more is first second =
    let so : mid ≡ at + length (concat first.pieces) = is
    ∙ ap (λ (b : List ℕ). at + length b) first.all in
    record {
      pieces = first.pieces ++ second.pieces;
      calls = second.calls
          ∙ ap (λ (c : List ShelfCall). c ++ reads_in_row name mid second.pieces) first.calls
          ∙ append_assoc old (reads_in_row name at first.pieces)
          (reads_in_row name mid second.pieces)
          ∙ ap (λ (c : List ShelfCall). old ++ c)
          (ap (λ (n : ℕ). reads_in_row name at first.pieces ++ reads_in_row name n second.pieces) so
          ∙ sym (row_behind name at first.pieces second.pieces));
      all = ap (λ (b : List ℕ). b ++ more) first.all
          ∙ ap (λ (b : List ℕ). concat first.pieces ++ b) second.all
          ∙ sym (concat-append first.pieces second.pieces);
    }

-- one read
pub row_one : (name : List ℕ) (at : ℕ) (old new : List ShelfCall) (piece : List ℕ)
    → new ≡ old ++ reads name at piece ∷ [] → ReadsRow name at old new piece
unfolding reads_in_row
row_one name at old new piece is =
    record { pieces = piece ∷ []; calls = is; all = sym (append-nil piece) }

-- the end, seen behind a row from the front
pub row_ends : (name : List ℕ) (old made new : List ShelfCall) (bytes : List ℕ)
    → ReadsRow name 0 old made bytes → new ≡ made ++ reads name (length bytes) [] ∷ []
    → ReadsWholeFile name old new bytes
unfolding reads_in_row
row_ends name old made new bytes row last = record {
  pieces = row.pieces;
  calls =
      let so : length bytes ≡ 0 + length (concat row.pieces) = omega (arith, ap length row.all) in
      last ∙ ap (λ (c : List ShelfCall). c ++ reads name (length bytes) [] ∷ []) row.calls
      ∙ append_assoc old (reads_in_row name 0 row.pieces) (reads name (length bytes) [] ∷ [])
      ∙ ap (λ (c : List ShelfCall). old ++ c)
      (ap (λ (n : ℕ). reads_in_row name 0 row.pieces ++ reads name n [] ∷ []) so
      ∙ sym (row_behind name 0 row.pieces ([] ∷ [])));
  all = row.all;
}

-- ---- as a source

pub comes_none : (name : List ℕ) (at : ℕ) (calls : List ShelfCall) (came : List ℕ) (ended : Bool)
    → ComesFrom name at at calls calls came came ended ended
comes_none name at calls came ended = record {
  bytes = [];
  more = sym (append-nil came);
  on = omega arith;
  row = row_none name at calls;
  end = λ seen. inl seen;
}

-- an end that was seen stays seen, once more is read
end_before : (name : List ℕ) (mid end : ℕ) (a b c : List ShelfCall) (bytes : List ℕ)
    → ReadsRow name mid b c bytes → mid ≤ end → SeesEnd name mid a b → SeesEnd name end a c
end_before name mid end a b c bytes row on first =
    let more : List ShelfCall = reads_in_row name mid row.pieces in
    record {
      made = first.made ++ more;
      calls = row.calls ∙ ap (λ (l : List ShelfCall). l ++ more) first.calls
          ∙ append_assoc a first.made more;
      end = first.end;
      within = omega (arith, first.within, on);
      read = Contains-append_left first.made more (reads name first.end []) first.read;
    }

-- and one that is seen later is seen from the first moment on
end_behind : (name : List ℕ) (at end : ℕ) (a b c : List ShelfCall) (bytes : List ℕ)
    → ReadsRow name at a b bytes → SeesEnd name end b c → SeesEnd name end a c
end_behind name at end a b c bytes row second =
    let before : List ShelfCall = reads_in_row name at row.pieces in
    record {
      made = before ++ second.made;
      calls = second.calls ∙ ap (λ (l : List ShelfCall). l ++ second.made) row.calls
          ∙ append_assoc a before second.made;
      end = second.end;
      within = second.within;
      read = Contains-append_right before second.made (reads name second.end []) second.read;
    }

pub comes_more : (name other : List ℕ) (at mid end : ℕ) (a b c : List ShelfCall)
    (x y z : List ℕ) (first_ended mid_ended now_ended : Bool) → other ≡ name
    → ComesFrom name at mid a b x y first_ended mid_ended
    → ComesFrom other mid end b c y z mid_ended now_ended
    → ComesFrom name at end a c x z first_ended now_ended
comes_more name other at mid end a b c x y z first_ended mid_ended now_ended is first second =
    let row : ReadsRow name mid b c second.bytes =
    subst (λ (n : List ℕ). ReadsRow n mid b c second.bytes) is second.row in
    record {
      bytes = first.bytes ++ second.bytes;
      more = second.more ∙ ap (λ (l : List ℕ). l ++ second.bytes) first.more
          ∙ append_assoc x first.bytes second.bytes;
      on = omega (arith, first.on, second.on, length-append first.bytes second.bytes);
      row = row_more name at mid a b c first.bytes second.bytes first.on first.row row;
      end = λ seen. elim (second.end seen) [
        | inl before ↦ (elim (first.end before) [
          | inl was ↦ inl was
          | inr sees ↦ inr (end_before name mid end a b c second.bytes row
              (omega (arith, second.on)) sees)
        ])
        | inr sees ↦ inr (end_behind name at end a b c first.bytes first.row
            (subst (λ (n : List ℕ). SeesEnd n end b c) is sees))
      ];
    }

-- A read is told as one that gave these bytes; where it sees the end, it gave none.
pub comes_one : (name : List ℕ) (at now_at : ℕ) (old new : List ShelfCall)
    (came now_came piece : List ℕ) (ended now_ended : Bool) → now_came ≡ came ++ piece
    → now_at ≡ at + length piece → new ≡ old ++ reads name at piece ∷ []
    → (now_ended ≡ true → (ended ≡ true) ⊎ (piece ≡ []))
    → ComesFrom name at now_at old new came now_came ended now_ended
comes_one name at now_at old new came now_came piece ended now_ended more on is sees = record {
  bytes = piece;
  more = more;
  on = on;
  row = row_one name at old new piece is;
  end = λ seen. elim (sees seen) [
    | inl was ↦ inl was
    | inr none ↦ inr (record {
      made = reads name at [] ∷ [];
      calls = is ∙ ap (λ (b : List ℕ). old ++ reads name at b ∷ []) none;
      end = at;
      within = omega (arith, on);
      read = (0, omega arith, refl);
    })
  ];
}
