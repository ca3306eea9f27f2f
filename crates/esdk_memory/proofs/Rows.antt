-- Looking for a name's row, and taking room for a name.
use Rattle.std.proofs.Common.{◌≡◌, ◌∙◌, ℕ, ◌+◌, ◌<◌, ◌≤◌, List, [], ◌∷◌, ◌++◌, true, false, cond, length, get_or, set, refl, sym, ap, subst, arith, below_more, length-append, length-set, get_or-set_same}
use Rattle.std.specs.Prelude.{Bool, IsSomeAnd, MatchOption, is_some, max, unwrap_or, nat_eq, bytes_eq}
use Rattle.std.specs.declared.option.Option.{Option}
use Rattle.std.specs.declared.option.Option.TheVariants.{None, Some}
use Rattle.std.specs.Cmp.Lexicographic.{bytes_decides}
use Rattle.std.specs.FinMap.{get, insert}
use Rattle.std.proofs.lemmas.List.{get_or_default, get_or_push}
use Rattle.std.proofs.lemmas.List.Folds.{position_or_len-set, position_or_len_push}
use Rattle.std.proofs.lemmas.List.Sums.{position_or_len_is}
use Rattle.esdk_memory.specs.MemFile.{MemFileState}
use Rattle.esdk_memory.specs.MemFiles.{IsRowOf, MemFilesState, RoomTaken, files_of, is_named, place_of, room_of, rooms_of, with_value}
use Rattle.esdk_memory.proofs.Named.{get-values_of_at, get-values_of_none, named_there, values_of-set, values_of_push, with_value_same}

-- no row before the index has the name
abbrev pub Passed : List ℕ → List MemFileState → ℕ → Type 0
Passed name rows i = (k : ℕ) → k < i → (d : MemFileState) → is_named name (get_or rows k d) ≡ false

pub passed_more : (name : List ℕ) (rows : List MemFileState) (i : ℕ) (row : MemFileState) → i < length rows → row ≡ get_or rows i row → is_named name row ≡ false → Passed name rows i → Passed name rows (i + 1)
passed_more name rows i row inside at other passed =
    below_more (λ k. (d : MemFileState) → is_named name (get_or rows k d) ≡ false) i passed (λ d. ap (is_named name) (get_or_default rows i d row inside ∙ sym at) ∙ other)

pub stands_there : (name : List ℕ) (rows : List MemFileState) (i : ℕ) (row : MemFileState) → i < length rows → row ≡ get_or rows i row → is_named name row ≡ true → Passed name rows i → IsRowOf name rows i
stands_there name rows i row inside at named passed = record {
  first = sym (position_or_len_is (is_named name) rows i row (omega arith) (λ k lt. passed k lt row) (λ _. ap (is_named name) (sym at) ∙ named));
  inside = inside;
}

no_row : MemFileState
no_row = record { name = []; held = None; room = 0 }

pub stands_nowhere : (name : List ℕ) (rows : List MemFileState) (i : ℕ) → i ≡ length rows → Passed name rows i → place_of name rows ≡ length rows
stands_nowhere name rows i end passed =
    position_or_len_is (is_named name) rows i no_row (omega arith) (λ k lt. passed k lt no_row) (λ inside. absurd (omega arith)) ∙ end

-- a row whose room grew
pub room_grown : (rows : List MemFileState) (name : List ℕ) (i size : ℕ) (row grown : MemFileState) → IsRowOf name rows i → row ≡ get_or rows i row → grown ≡ record row { room = max row.room size } → RoomTaken rows (set rows i grown) name size i
room_grown rows name i size row grown stands at is =
    let there : (get_or rows i row).name ≡ name = named_there name rows i row stands.first stands.inside in
    let kept : grown.name ≡ name = ap (λ r. r.name) is ∙ ap (λ r. r.name) at ∙ there in
    let alike : is_named name grown ≡ is_named name (get_or rows i row) = ap (bytes_eq name) (kept ∙ sym there) in
    let held : get (files_of rows) name ≡ grown.held = get-values_of_at (λ r. r.held) rows name i row stands.first stands.inside ∙ ap (λ r. r.held) (sym at) ∙ sym (ap (λ r. r.held) is) in
    let room : room_of (rooms_of rows) name ≡ row.room = ap (λ o. unwrap_or o 0) (get-values_of_at (λ r. Some r.room) rows name i row stands.first stands.inside) ∙ ap (λ r. r.room) (sym at) in
    let grew : grown.room ≡ max row.room size = ap (λ r. r.room) is in
    record {
      row = record {
        first = stands.first ∙ sym (position_or_len-set (is_named name) rows i grown row alike);
        inside = subst (λ n. i < n) (sym (length-set rows i grown)) stands.inside;
      };
      fits = λ d. subst (λ r. size ≤ r.room) (sym (get_or-set_same rows i grown d stands.inside)) (omega (arith, grew));
      files = values_of-set (λ r. r.held) rows name i grown stands.first stands.inside kept ∙ with_value_same (files_of rows) name grown.held held;
      rooms = values_of-set (λ r. Some r.room) rows name i grown stands.first stands.inside kept ∙ ap (insert (rooms_of rows) name) (grew ∙ ap (λ n. max n size) (sym room));
    }

pushed_first : (b : Bool) (l : ℕ) → cond b (l + 0) l ≡ l
pushed_first true l = omega arith
pushed_first false l = refl

pushed_row : (rows : List MemFileState) (name : List ℕ) (row : MemFileState) → row.name ≡ name → place_of name rows ≡ length rows → IsRowOf name (rows ++ row ∷ []) (length rows)
pushed_row rows name row named new =
    let passes : is_named name row ≡ true = (bytes_decides name row.name).1 (sym named) in
    record {
      first = sym (position_or_len_push (is_named name) rows row
          ∙ ap (λ n. cond (nat_eq n (length rows)) (length rows + cond (is_named name row) 0 1) n) new
          ∙ ap (λ b. cond (nat_eq (length rows) (length rows)) (length rows + cond b 0 1) (length rows)) passes
          ∙ pushed_first (nat_eq (length rows) (length rows)) (length rows));
      inside = omega (arith, length-append rows (row ∷ []));
    }

pushed_here : (rows : List MemFileState) (name : List ℕ) (size : ℕ) (row : MemFileState) → place_of name rows ≡ length rows → row ≡ record { name = name; held = None; room = size } → RoomTaken rows (rows ++ row ∷ []) name size (length rows)
pushed_here rows name size row new is =
    let named : row.name ≡ name = ap (λ r. r.name) is in
    let place : place_of row.name rows ≡ length rows = subst (λ n. place_of n rows ≡ length rows) (sym named) new in
    let empty_held : with_value (files_of rows) row.name row.held ≡ with_value (files_of rows) name None = ap (λ r. with_value (files_of rows) r.name r.held) is in
    let empty_room : max (room_of (rooms_of rows) name) size ≡ size = ap (λ o. max (unwrap_or o 0) size) (get-values_of_none (λ r. Some r.room) rows name new) ∙ omega arith in
    record {
      row = pushed_row rows name row named new;
      fits = λ d. subst (λ r. size ≤ r.room) (sym (get_or_push rows row d (length rows) refl)) (omega (arith, ap (λ r. r.room) is));
      files = values_of_push (λ r. r.held) rows row place ∙ empty_held ∙ with_value_same (files_of rows) name None (get-values_of_none (λ r. r.held) rows name new);
      rooms = values_of_push (λ r. Some r.room) rows row place ∙ ap (λ r. insert (rooms_of rows) r.name r.room) is ∙ ap (insert (rooms_of rows) name) (sym empty_room);
    }

-- a row that is pushed
pub room_pushed : (rows more : List MemFileState) (name : List ℕ) (size : ℕ) (row : MemFileState) → place_of name rows ≡ length rows → row ≡ record { name = name; held = None; room = size } → more ≡ rows ++ row ∷ [] → RoomTaken rows more name size (length rows)
room_pushed rows more name size row new is grown = subst (λ m. RoomTaken rows m name size (length rows)) (sym grown) (pushed_here rows name size row new is)

-- the files and rooms of rows
abbrev pub state_of : List MemFileState → MemFilesState
state_of rows = record { files = files_of rows; rooms = rooms_of rows }

-- what the files and rooms have at the name of a row
pub held_there : (rows : List MemFileState) (held : MemFilesState) (name : List ℕ) (i : ℕ) (row : MemFileState) → state_of rows ≡ held → IsRowOf name rows i → row ≡ get_or rows i row → get held.files name ≡ row.held
held_there rows held name i row view stands at =
    ap (λ s. get s.files name) (sym view) ∙ get-values_of_at (λ r. r.held) rows name i row stands.first stands.inside ∙ ap (λ r. r.held) (sym at)

pub room_there : (rows : List MemFileState) (held : MemFilesState) (name : List ℕ) (i : ℕ) (row : MemFileState) → state_of rows ≡ held → IsRowOf name rows i → row ≡ get_or rows i row → get held.rooms name ≡ Some row.room
room_there rows held name i row view stands at =
    ap (λ s. get s.rooms name) (sym view) ∙ get-values_of_at (λ r. Some r.room) rows name i row stands.first stands.inside ∙ ap (λ r. Some r.room) (sym at)

-- and at a name of no row
pub held_nowhere : (rows : List MemFileState) (held : MemFilesState) (name : List ℕ) → state_of rows ≡ held → place_of name rows ≡ length rows → get held.files name ≡ None
held_nowhere rows held name view absent = ap (λ s. get s.files name) (sym view) ∙ get-values_of_none (λ r. r.held) rows name absent

pub room_nowhere : (rows : List MemFileState) (held : MemFilesState) (name : List ℕ) → state_of rows ≡ held → place_of name rows ≡ length rows → get held.rooms name ≡ None
room_nowhere rows held name view absent = ap (λ s. get s.rooms name) (sym view) ∙ get-values_of_none (λ r. Some r.room) rows name absent

-- a row that holds other bytes
pub row_set : (rows : List MemFileState) (held : MemFilesState) (name : List ℕ) (i : ℕ) (row : MemFileState) (now : Option (List ℕ)) → state_of rows ≡ held → IsRowOf name rows i → row ≡ get_or rows i row → (changed : MemFileState) → changed ≡ record row { held = now } → state_of (set rows i changed) ≡ record held { files = with_value held.files name now }
row_set rows held name i row now view stands at changed is =
    let kept : changed.name ≡ name = ap (λ r. r.name) is ∙ ap (λ r. r.name) at ∙ named_there name rows i row stands.first stands.inside in
    let files : files_of (set rows i changed) ≡ with_value held.files name now =
    values_of-set (λ r. r.held) rows name i changed stands.first stands.inside kept ∙ ap (λ r. with_value (files_of rows) name r.held) is ∙ ap (λ s. with_value s.files name now) view in
    let room : get (rooms_of rows) name ≡ Some changed.room = room_there rows (state_of rows) name i row refl stands at ∙ ap (λ r. Some r.room) (sym is) in
    let rooms : rooms_of (set rows i changed) ≡ held.rooms =
    values_of-set (λ r. Some r.room) rows name i changed stands.first stands.inside kept ∙ with_value_same (rooms_of rows) name (Some changed.room) room ∙ ap (λ s. s.rooms) view in
    λ k. record { files = files k; rooms = rooms k }

-- room that was taken suffices
pub room_fits : (old new : List MemFileState) (name : List ℕ) (size i : ℕ) → RoomTaken old new name size i → IsSomeAnd (get (rooms_of new) name) (λ room. size ≤ room)
room_fits old new name size i taken =
    subst (λ o. IsSomeAnd o (λ room. size ≤ room)) (sym (get-values_of_at (λ r. Some r.room) new name i no_row taken.row.first taken.row.inside)) (taken.fits no_row)

-- a name has room exactly where it has a row
pub has_room : (rows : List MemFileState) (held : MemFilesState) (name : List ℕ) (found : Option ℕ) → state_of rows ≡ held → MatchOption found (place_of name rows ≡ length rows) (IsRowOf name rows) → is_some found ≡ is_some (get held.rooms name)
has_room rows held name None view absent = ap is_some (sym (room_nowhere rows held name view absent))
has_room rows held name (Some i) view stands = ap is_some (sym (room_there rows held name i (get_or rows i no_row) view stands (get_or_default rows i no_row _ stands.inside)))
