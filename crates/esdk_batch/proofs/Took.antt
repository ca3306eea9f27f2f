-- What was taken of a job's file, and one piece more; and what the file holds that it writes.
use Rattle.std.proofs.Common.{◌≡◌, ℕ, ◌+◌, ◌≤◌, false, List, [], ◌++◌, length, take, drop, refl, sym, ap, subst, ◌∙◌, arith, append_assoc, append-nil, length-append}
use Rattle.std.specs.Prelude.{is_none, is_some}
use Rattle.std.specs.declared.option.Option.{Option}
use Rattle.std.specs.declared.option.Option.TheVariants.{None, Some}
use Rattle.std.specs.Option.{option_map}
use Rattle.std.specs.FinMap.{get}
use Rattle.std.proofs.lemmas.List.{length-take-le, take-append-le, take_min, length-take, take_all}
use Rattle.esdk_base.specs.Shelf.{Files, Holds, file_of, is_missing}
use Rattle.esdk_batch.specs.Files.{FileGains, KeepsOthers, ReadsPiece}
use Rattle.esdk_batch.specs.SealStory.{held_or_none}
use Rattle.esdk_batch.specs.Underway.{Took}

-- ---- what is read

there_by : (o : Option (List ℕ)) → is_none o ≡ false → (text : List ℕ) × (o ≡ Some text)
there_by None e = absurd cc
there_by (Some text) e = (text, refl)

-- a name that isn't missing holds something
is_there : (files : Option Files) (now : Files) (name : List ℕ) → files ≡ Some now → is_missing files name ≡ false → (text : List ℕ) × (file_of (Some now) name ≡ Some text)
is_there files now name is there = there_by (get now name) (subst (λ (o : Option Files). is_missing o name ≡ false) is there)

-- A piece more was taken of a file that is there.
pub record TookPiece (taken piece : List ℕ) (at count : ℕ) (from : Option (List ℕ)) : Type 0 where
  pub text : List ℕ
  pub there : from ≡ Some text
  pub took : Took (taken ++ piece) (at + count) from

pub piece_long : (count : ℕ) (buffer : List ℕ) → count ≤ length buffer → length (take count buffer) ≡ count
piece_long count buffer fits = length-take-le count buffer fits

pub took_piece : (files : Option Files) (now : Files) (name buffer taken : List ℕ) (at count : ℕ) (from : Option (List ℕ)) → files ≡ Some now → file_of (Some now) name ≡ from
    → ReadsPiece files name at count buffer → Took taken at from → TookPiece taken (take count buffer) at count from
took_piece files now name buffer taken at count from is same reads took =
    let there = is_there files now name is reads.there in
    let from_is : from ≡ Some there.0 = sym same ∙ there.1 in
    let holds : Holds files name there.0 = ap (λ (o : Option Files). file_of o name) is ∙ there.1 in
    let next : drop at (held_or_none from) ≡ take count buffer ++ drop (at + count) (held_or_none from) =
    subst (λ (t : List ℕ). drop at t ≡ take count buffer ++ drop (at + count) t) (sym (ap held_or_none from_is)) (reads.bytes there.0 holds) in
    record {
      text = there.0;
      there = from_is;
      took = record {
        count = omega (arith, length-append taken (take count buffer), piece_long count buffer reads.fits, took.count);
        most = reads.most;
        front = took.front ∙ ap (λ (l : List ℕ). taken ++ l) next ∙ sym (append_assoc taken (take count buffer) (drop (at + count) (held_or_none from)));
      };
    }

-- where the end is seen, all was taken
pub took_all : (files : Option Files) (now : Files) (name buffer taken : List ℕ) (at count : ℕ) (from : Option (List ℕ)) → files ≡ Some now → file_of (Some now) name ≡ from
    → ReadsPiece files name at count buffer → count ≡ 0 → Took taken at from → from ≡ Some taken
took_all files now name buffer taken at count from is same reads none took =
    let there = is_there files now name is reads.there in
    let from_is : from ≡ Some there.0 = sym same ∙ there.1 in
    let holds : Holds files name there.0 = ap (λ (o : Option Files). file_of o name) is ∙ there.1 in
    let end : drop at (held_or_none from) ≡ [] = subst (λ (t : List ℕ). drop at t ≡ []) (sym (ap held_or_none from_is)) (reads.end there.0 holds none) in
    from_is ∙ ap (λ (t : List ℕ). Some t) (sym (ap held_or_none from_is) ∙ took.front ∙ ap (λ (l : List ℕ). taken ++ l) end ∙ append-nil taken)

-- ---- what is written

-- behind what the file held stands what was appended
pub gains_behind : (files after : Option Files) (now left : Files) (to bytes before : List ℕ) → files ≡ Some now → after ≡ Some left → FileGains files after to bytes
    → file_of (Some now) to ≡ Some before → file_of (Some left) to ≡ Some (before ++ bytes)
gains_behind files after now left to bytes before is later gains holds =
    sym (ap (λ (o : Option Files). file_of o to) later) ∙ gains.this ∙ ap (λ (o : Option Files). option_map (λ (h : List ℕ). h ++ bytes) (file_of o to)) is
    ∙ ap (option_map (λ (h : List ℕ). h ++ bytes)) holds

-- where nothing was, it holds the same
pub same_behind : (files after : Option Files) (now left : Files) (to before : List ℕ) → files ≡ Some now → after ≡ Some left → after ≡ files → file_of (Some now) to ≡ Some before
    → file_of (Some left) to ≡ Some before
same_behind files after now left to before is later same holds =
    sym (ap (λ (o : Option Files). file_of o to) later) ∙ ap (λ (o : Option Files). file_of o to) same ∙ ap (λ (o : Option Files). file_of o to) is ∙ holds

-- no name changed
pub keeps_all : (files after : Option Files) (name : List ℕ) → after ≡ files → KeepsOthers files after name
keeps_all files after name same = record {
  tells = ap is_some same;
  others = λ other apart. ap (λ (o : Option Files). file_of o other) same;
}

-- ---- fronts

-- a front of some bytes is one of more bytes
pub front_on : (n : ℕ) (bytes more : List ℕ) → (m : ℕ) × (take n bytes ≡ take m (bytes ++ more))
front_on n bytes more = (length (take n bytes), sym (take-append-le (length (take n bytes)) bytes more (omega (arith, length-take n bytes)) ∙ front_again))
  where
    front_again : take (length (take n bytes)) bytes ≡ take n bytes
    front_again = ap (λ (k : ℕ). take k bytes) (length-take n bytes) ∙ take_min n bytes

-- and so are all of them
pub whole_front : (bytes more : List ℕ) → bytes ≡ take (length bytes) (bytes ++ more)
whole_front bytes more = sym (take-append-le (length bytes) bytes more (omega arith) ∙ take_all (length bytes) bytes (omega arith))
