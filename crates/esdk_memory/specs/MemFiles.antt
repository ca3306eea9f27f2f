-- The files of a memory shelf, and their rows as maps from their names. The first row of a name
-- counts.
use Rattle.std.specs.Prelude.{◌≡◌, ◌<◌, ◌≤◌, ℕ, List, [], ◌∷◌, Bool, length, max, unwrap_or}
use Rattle.std.specs.Prelude.{bytes_eq, nat_lt, ◌+◌, slice_index_or as get_or}
use Rattle.std.specs.declared.option.Option.{Option}
use Rattle.std.specs.declared.option.Option.TheVariants.{None, Some}
use Rattle.std.specs.Cmp.Lexicographic.{slice_cmp}
use Rattle.std.specs.List.{position_or_len}
use Rattle.std.specs.Ordering.{nat_cmp}
use Rattle.std.specs.Coded.{Coded, coded_ℕ, coded_list}
use Rattle.std.specs.FinMap.{FinMap, code, empty, get, insert, remove}
use Rattle.esdk_memory.specs.MemFile.{MemFileState}
use Rattle.esdk_base.specs.Shelf.{Files}

-- Values by their names, as bytes of text.
abbrev pub ByName : Type 0 → Type 0
ByName V = FinMap (slice_cmp nat_cmp) V

-- The files, and how many bytes each name may hold where room was taken for it.
pub record MemFilesState : Type 0 where
  pub files : Files
  pub rooms : ByName ℕ

-- how proofs tell files apart, and rooms
abbrev pub files_code : Coded Files
files_code = code (coded_list coded_ℕ) (coded_list coded_ℕ)

abbrev pub rooms_code : Coded (ByName ℕ)
rooms_code = code (coded_list coded_ℕ) coded_ℕ

-- how many bytes the name may hold
abbrev pub room_of : ByName ℕ → List ℕ → ℕ
room_of rooms name = unwrap_or (get rooms name) 0

-- the rooms once room for so many bytes was taken for the name; a room never shrinks
abbrev pub with_room : ByName ℕ → List ℕ → ℕ → ByName ℕ
with_room rooms name size = insert rooms name (max (room_of rooms name) size)

-- the name would hold more than its room with so many bytes more
abbrev pub is_too_long : MemFilesState → List ℕ → ℕ → Bool
is_too_long held name more = nat_lt (room_of held.rooms name)
    (length (unwrap_or (get held.files name) []) + more)

-- the row has the name
abbrev pub is_named : List ℕ → MemFileState → Bool
is_named name row = bytes_eq name row.name

-- the place of the first row of the name, or the number of rows
abbrev pub place_of : List ℕ → List MemFileState → ℕ
place_of name rows = position_or_len (is_named name) rows

-- the name's row stands there
pub record IsRowOf (name : List ℕ) (rows : List MemFileState) (i : ℕ) : Type 0 where
  pub first : i ≡ place_of name rows
  pub inside : i < length rows

-- the map once the name has this value or none
abbrev pub with_value : {V : Type 0} → ByName V → List ℕ → Option V → ByName V
with_value values name None = remove values name
with_value values name (Some value) = insert values name value

-- the map of what f reads in the rows
unfoldable pub map_of_rows : {V : Type 0} → (MemFileState → Option V) → List MemFileState → ByName V
map_of_rows f [] = empty
map_of_rows f (row ∷ rows) = with_value (map_of_rows f rows) row.name (f row)

-- the files of the rows
abbrev pub files_of : List MemFileState → Files
files_of rows = map_of_rows (λ row. row.held) rows

-- the rooms of the rows
abbrev pub rooms_of : List MemFileState → ByName ℕ
rooms_of rows = map_of_rows (λ row. Some row.room) rows

-- Room for so many bytes was taken for the name, whose row stands there.
pub record RoomTaken (old new : List MemFileState) (name : List ℕ) (size i : ℕ) : Type 0 where
  pub row : IsRowOf name new i
  pub fits : (d : MemFileState) → size ≤ (get_or new i d).room
  pub files : files_of new ≡ files_of old
  pub rooms : rooms_of new ≡ with_room (rooms_of old) name size
