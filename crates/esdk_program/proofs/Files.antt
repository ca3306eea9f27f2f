-- What a file holds that a run read from its front to its end, and what a file is that it didn't read.
use Rattle.std.proofs.Common.{◌≡◌, ◌∙◌, ℕ, ◌+◌, ◌<◌, ◌≤◌, List, [], ◌∷◌, ◌++◌, length, drop, Bool, Option, Some, None, Result, Ok, Err, refl, sym, ap, subst, append_assoc, arith, le-leb, length-append}
use Rattle.std.specs.List.{All, Contains, concat}
use Rattle.std.proofs.lemmas.Bool.{lt-leb}
use Rattle.std.proofs.lemmas.List.{append_cancel_left}
use Rattle.std.proofs.lemmas.List.Elements.{All-cons, All-contains, All-head, All-nil, All-tail, All-weaker, Contains-append_left, Contains-push}
use Rattle.esdk_args.specs.declared.pair_words.PairWord.{PairWord}
use Rattle.esdk_fields.specs.declared.refusals.FileRefusal.{FileRefusal}
use Rattle.esdk_fields.specs.declared.refusals.FileRefusal.TheVariants.{FileTooLong}
use Rattle.esdk_fields.specs.declared.refusals.Refusal.{Refusal}
use Rattle.esdk_seen.specs.Calls.{ShelfCall, announces, appends, creates, finishes, reads}
use Rattle.esdk_base.specs.Streams.{ShelfState}
use Rattle.context_codec.specs.Context.{KeyValue}
use Rattle.keyring_trait.specs.Keyring.{KeyringMeaning}
use Rattle.whole_input.specs.File.{most_file}
use Rattle.whole_input.specs.FileReads.{AgreesWithCall, AgreesWithRead, Grows, IsReadAs, ReadsRow, ReadsWholeFile, reads_in_row}
use Rattle.whole_input.proofs.Agreeing.{grows_more, grows_none, row_read}
use Rattle.esdk_report.specs.declared.failure.Failure.TheVariants as failures
use Rattle.esdk_run.specs.Pairs.{context_in}
use Rattle.esdk_run.specs.Trees.{TreeReading, Trees}
use Rattle.esdk_program.specs.Effect.{Effect, refused}
use Rattle.esdk_program.specs.Program.{prepared, with_context, with_file, with_length, with_read, with_tree}
use Rattle.esdk_program.specs.World.{FilesAre, IsIn, IsOfFiles, World}

-- ---- what was read

is_in : (files : List ℕ → Option (List ℕ)) (name other f : List ℕ) (at : ℕ) (piece : List ℕ) → files name ≡ Some f → IsIn (files other) at piece → other ≡ name → AgreesWithRead f at piece
is_in files name other f at piece is here same = subst (λ (o : Option (List ℕ)). IsIn o at piece) (ap files same ∙ is) here

-- each read of a file agrees with what it holds
call_of : (files : List ℕ → Option (List ℕ)) (name f : List ℕ) → files name ≡ Some f → (call : ShelfCall) → IsOfFiles files call → AgreesWithCall name f call
call_of files name f is (reads other at piece) here = λ same. is_in files name other f at piece is here same
call_of files name f is (creates other) here = tt
call_of files name f is (appends other piece) here = tt
call_of files name f is (announces other) here = tt
call_of files name f is (finishes other whom) here = tt

-- what agrees with reads in a row, of which the last gave nothing, is what they gave
row_end : (name f : List ℕ) (at : ℕ) (pieces : List (List ℕ)) → All (AgreesWithCall name f) (reads_in_row name at (pieces ++ [] ∷ [])) → drop at f ≡ concat pieces
unfolding reads_in_row
row_end name f at [] all = (All-head (AgreesWithCall name f) (reads name at []) [] all refl).1 refl
row_end name f at (piece ∷ more) all =
    let next : ℕ = at + length piece in
    let later : List ShelfCall = reads_in_row name next (more ++ [] ∷ []) in
    let here : AgreesWithRead f at piece = All-head (AgreesWithCall name f) (reads name at piece) later all refl in
    let there : drop next f ≡ concat more = row_end name f next more (All-tail (AgreesWithCall name f) (reads name at piece) later all) in
    here.0 ∙ ap (λ (b : List ℕ). piece ++ b) there

-- and the file is there
first_read : (files : List ℕ → Option (List ℕ)) (name : List ℕ) (at : ℕ) (pieces : List (List ℕ)) → All (IsOfFiles files) (reads_in_row name at (pieces ++ [] ∷ []))
    → (piece : List ℕ) × IsIn (files name) at piece
unfolding reads_in_row
first_read files name at [] all = ([], All-head (IsOfFiles files) (reads name at []) [] all)
first_read files name at (piece ∷ more) all =
    (piece, All-head (IsOfFiles files) (reads name at piece) (reads_in_row name (at + length piece) (more ++ [] ∷ [])) all)

is_there : (o : Option (List ℕ)) (at : ℕ) (piece : List ℕ) → IsIn o at piece → (f : List ℕ) × (o ≡ Some f)
is_there None at piece none = absurd none
is_there (Some f) at piece is = (f, refl)

-- the bytes that each name holds agree with its reads
pub read_as : (files : List ℕ → Option (List ℕ)) (name f : List ℕ) (old new : ShelfState) → FilesAre old new files → files name ≡ Some f → IsReadAs old.calls new.calls name f
read_as files name f old new are is =
    record { made = are.made; calls = are.calls; agree = All-weaker (IsOfFiles files) (AgreesWithCall name f) (call_of files name f is) are.made are.agree }

all_first : (P : ShelfCall → Type 0) (xs ys : List ShelfCall) → All P (xs ++ ys) → All P xs
all_first P [] ys all = All-nil P
all_first P (x ∷ xs) ys all = All-cons P x xs (All-head P x (xs ++ ys) all) (all_first P xs ys (All-tail P x (xs ++ ys) all))

all_second : (P : ShelfCall → Type 0) (xs ys : List ShelfCall) → All P (xs ++ ys) → All P ys
all_second P [] ys all = all
all_second P (x ∷ xs) ys all = all_second P xs ys (All-tail P x (xs ++ ys) all)

-- ---- a part of the run

-- The calls between two moments of the run, each of which is of these files.
pub record IsPart (files : List ℕ → Option (List ℕ)) (a b : List ShelfCall) : Type 0 where
  pub made : List ShelfCall
  pub calls : b ≡ a ++ made
  pub agree : All (IsOfFiles files) made

pub part_all : (files : List ℕ → Option (List ℕ)) (old new : ShelfState) → FilesAre old new files → IsPart files old.calls new.calls
part_all files old new are = record { made = are.made; calls = are.calls; agree = are.agree }

-- the calls of two parts in a row
both : (files : List ℕ → Option (List ℕ)) (a b c : List ShelfCall) (part : IsPart files a c) (first : Grows a b) (second : Grows b c) → All (IsOfFiles files) (first.0 ++ second.0)
both files a b c part first second =
    let calls : c ≡ a ++ (first.0 ++ second.0) = second.1 ∙ ap (λ (l : List ShelfCall). l ++ second.0) first.1 ∙ append_assoc a first.0 second.0 in
    let made : part.made ≡ first.0 ++ second.0 = append_cancel_left a part.made (first.0 ++ second.0) (sym part.calls ∙ calls) in
    subst (λ (l : List ShelfCall). All (IsOfFiles files) l) made part.agree

pub part_first : (files : List ℕ → Option (List ℕ)) (a b c : List ShelfCall) → IsPart files a c → Grows a b → Grows b c → IsPart files a b
part_first files a b c part first second =
    record { made = first.0; calls = first.1; agree = all_first (IsOfFiles files) first.0 second.0 (both files a b c part first second) }

pub part_second : (files : List ℕ → Option (List ℕ)) (a b c : List ShelfCall) → IsPart files a c → Grows a b → Grows b c → IsPart files b c
part_second files a b c part first second =
    record { made = second.0; calls = second.1; agree = all_second (IsOfFiles files) first.0 second.0 (both files a b c part first second) }

-- what a name holds agrees with its reads
pub part_read : (files : List ℕ → Option (List ℕ)) (name f : List ℕ) (a b : List ShelfCall) → IsPart files a b → files name ≡ Some f → IsReadAs a b name f
part_read files name f a b part is =
    record { made = part.made; calls = part.calls; agree = All-weaker (IsOfFiles files) (AgreesWithCall name f) (call_of files name f is) part.made part.agree }

-- a name that was read is a file's
pub part_there : (files : List ℕ → Option (List ℕ)) (name : List ℕ) (a b : List ShelfCall) (at : ℕ) (piece : List ℕ) → IsPart files a b → (made : List ShelfCall) → b ≡ a ++ made
    → Contains made (reads name at piece) → (f : List ℕ) × (files name ≡ Some f)
part_there files name a b at piece part made calls read =
    let same : part.made ≡ made = append_cancel_left a part.made made (sym part.calls ∙ calls) in
    is_there (files name) at piece (All-contains (IsOfFiles files) made (reads name at piece) (subst (λ (l : List ShelfCall). All (IsOfFiles files) l) same part.agree) read)

-- a file that was read whole
part_file : (files : List ℕ → Option (List ℕ)) (name bytes : List ℕ) (a b : List ShelfCall) → IsPart files a b → ReadsWholeFile name a b bytes → files name ≡ Some bytes
part_file files name bytes a b part read =
    let row : List ShelfCall = reads_in_row name 0 (read.pieces ++ [] ∷ []) in
    let made : part.made ≡ row = append_cancel_left a part.made row (sym part.calls ∙ read.calls) in
    let agree : All (IsOfFiles files) row = subst (λ (l : List ShelfCall). All (IsOfFiles files) l) made part.agree in
    let first = first_read files name 0 read.pieces agree in
    let there = is_there (files name) 0 first.0 first.1 in
    let is : there.0 ≡ concat read.pieces =
    row_end name there.0 0 read.pieces (All-weaker (IsOfFiles files) (AgreesWithCall name there.0) (call_of files name there.0 there.1) row agree) in
    there.1 ∙ ap (λ (b : List ℕ). Some b) (is ∙ sym read.all)

-- between two moments of the run
pub file_between : (files : List ℕ → Option (List ℕ)) (name bytes : List ℕ) (old new : ShelfState) (a b : List ShelfCall) → FilesAre old new files → Grows old.calls a → Grows b new.calls
    → ReadsWholeFile name a b bytes → files name ≡ Some bytes
file_between files name bytes old new a b are before behind read =
    let row : Grows a b = (reads_in_row name 0 (read.pieces ++ [] ∷ []), read.calls) in
    let last : IsPart files a new.calls = part_second files old.calls a new.calls (part_all files old new are) before (grows_more a b new.calls row behind) in
    part_file files name bytes a b (part_first files a b new.calls last row behind) read

-- in all of the run
pub whole_file : (files : List ℕ → Option (List ℕ)) (name bytes : List ℕ) (old new : ShelfState) → FilesAre old new files → ReadsWholeFile name old.calls new.calls bytes → files name ≡ Some bytes
whole_file files name bytes old new are read = file_between files name bytes old new old.calls new.calls are (grows_none old.calls) (grows_none new.calls) read

pub read_first : (call : ShelfCall) (calls : List ShelfCall) → Contains (call ∷ calls) call
read_first call calls = Contains-append_left (call ∷ []) calls call (Contains-push [] call)

-- a file that gave something, and as much as this
pub gave_more : (files : List ℕ → Option (List ℕ)) (name bytes : List ℕ) (a b : List ShelfCall) → IsPart files a b → (row : ReadsRow name 0 a b bytes) → 0 < length bytes
    → (f : List ℕ) × (files name ≡ Some f) × (length bytes ≤ length f)
unfolding reads_in_row
gave_more files name bytes a b part row some = by_pieces row.pieces row.calls row.all
  where
    as_long : (f : List ℕ) → files name ≡ Some f → length bytes ≤ length f
    as_long f is = subst (λ (x : List ℕ). length bytes ≤ length x) (sym (row_read name 0 a b bytes f row (part_read files name f a b part is))) (omega (arith, length-append bytes (drop (0 + length bytes) f)))

    by_pieces : (pieces : List (List ℕ)) → b ≡ a ++ reads_in_row name 0 pieces → bytes ≡ concat pieces → (f : List ℕ) × (files name ≡ Some f) × (length bytes ≤ length f)
    by_pieces [] calls all = absurd (let none : 0 < length {A = ℕ} [] = subst (λ (x : List ℕ). 0 < length x) all some in omega (arith, none))
    by_pieces (piece ∷ more) calls all =
        let there = part_there files name a b 0 piece part (reads_in_row name 0 (piece ∷ more)) calls (read_first (reads name 0 piece) (reads_in_row name (0 + length piece) more)) in
        (there.0, there.1, as_long there.0 there.1)

-- ---- what the program does with it

-- a file that isn't too long
pub file_taken : (o : Option (List ℕ)) (bytes : List ℕ) (go : List ℕ → Option Effect) → o ≡ Some bytes → length bytes ≤ most_file → with_file o go ≡ go bytes
file_taken o bytes go is few =
    ap (λ (x : Option (List ℕ)). with_file x go) is ∙ ap (λ (b : Bool). with_length b (go bytes)) (le-leb (length bytes) most_file few)

-- one that is
pub file_long : (o : Option (List ℕ)) (bytes : List ℕ) (go : List ℕ → Option Effect) → o ≡ Some bytes → most_file < length bytes → with_file o go ≡ Some (refused [] (failures.File FileTooLong))
file_long o bytes go is many =
    ap (λ (x : Option (List ℕ)). with_file x go) is ∙ ap (λ (b : Bool). with_length b (go bytes)) (lt-leb (length bytes) most_file many)

-- a tree
pub tree_taken : (read : TreeReading) (world : World) (name bytes : List ℕ) (tree : KeyringMeaning) (go : KeyringMeaning → Option Effect)
    → world.files name ≡ Some bytes → length bytes ≤ most_file → read bytes ≡ Ok (tree ∷ []) → with_tree read world name go ≡ go tree
tree_taken read world name bytes tree go holds few is =
    file_taken (world.files name) bytes (λ b. with_read (read b) go) holds few
    ∙ ap (λ (x : Result (List KeyringMeaning) FileRefusal). with_read x go) is

-- the words' pairs
pub context_taken : (words : List PairWord) (context : List KeyValue) (trees : Trees) (world : World) (name : List ℕ) (go : List KeyValue → KeyringMeaning → Option Effect)
    → context_in words ≡ Ok context → prepared words trees world name go ≡ with_tree trees.read world name (go context)
context_taken words context trees world name go made =
    ap (λ (x : Result (List KeyValue) Refusal). with_context x (λ c. with_tree trees.read world name (go c))) made

pub context_refused : (words : List PairWord) (refusal : Refusal) (trees : Trees) (world : World) (name : List ℕ) (go : List KeyValue → KeyringMeaning → Option Effect)
    → context_in words ≡ Err refusal → prepared words trees world name go ≡ Some (refused [] (failures.Refusal refusal))
context_refused words refusal trees world name go made =
    ap (λ (x : Result (List KeyValue) Refusal). with_context x (λ c. with_tree trees.read world name (go c))) made

-- both
pub prepared_taken : (words : List PairWord) (context : List KeyValue) (trees : Trees) (world : World) (name bytes : List ℕ) (tree : KeyringMeaning)
    (go : List KeyValue → KeyringMeaning → Option Effect) → context_in words ≡ Ok context → world.files name ≡ Some bytes → length bytes ≤ most_file → trees.read bytes ≡ Ok (tree ∷ [])
    → prepared words trees world name go ≡ go context tree
prepared_taken words context trees world name bytes tree go made holds few is =
    context_taken words context trees world name go made ∙ tree_taken trees.read world name bytes tree (go context) holds few is
