-- A shelf in memory.
use Rattle.std.specs.Prelude.{ℕ, List, [], Bool, ◌&&◌, ◌||◌, not, ◌-◌, length, min, is_none}
use Rattle.std.specs.Prelude.{unwrap_or, if◌then◌else◌}
use Rattle.std.specs.FinMap.{get, insert}
use Rattle.esdk_fields.specs.Counts.{counted}
use Rattle.esdk_seen.specs.Calls.{ShelfCall}
use Rattle.esdk_memory.specs.CallPlan.{Plan, fails_next, plan_after_call}
use Rattle.esdk_memory.specs.MemFiles.{ByName, is_too_long, with_room}
use Rattle.esdk_base.specs.Shelf.{Files, appended, created}

-- The files, how many bytes each name may hold where room was taken for it, how many bytes were
-- given, and which calls are to fail; the calls that didn't fail so far, in their order.
pub record MemShelfState : Type 0 where
  pub files : Files
  pub rooms : ByName ℕ
  pub given : ℕ
  pub plan : Plan
  pub calls : List ShelfCall

-- the name isn't on the shelf
abbrev pub is_absent : MemShelfState → List ℕ → Bool
is_absent shelf name = is_none (get shelf.files name)

-- the shelf once a name was set
abbrev pub placed : MemShelfState → List ℕ → List ℕ → MemShelfState
placed shelf name bytes = record shelf {
  files = insert shelf.files name bytes;
  rooms = with_room shelf.rooms name (length bytes);
}

-- how many bytes a read that doesn't fail gives from the offset on into so much room
abbrev pub shelf_read_count : MemShelfState → List ℕ → ℕ → ℕ → ℕ
shelf_read_count shelf name at count = min count (length (unwrap_or (get shelf.files name) []) - at)

-- the next read of the name fails: it is to, or the name isn't there
abbrev pub read_fails : MemShelfState → List ℕ → Bool
read_fails shelf name = is_absent shelf name || fails_next shelf.plan

-- the next read of the name counts as a fault: it is to fail, and the name is there
abbrev pub read_faults : MemShelfState → List ℕ → Bool
read_faults shelf name = not (is_absent shelf name) && fails_next shelf.plan

-- the shelf after a read from the offset on into so much room, but for its calls
abbrev pub shelf_after_read : MemShelfState → List ℕ → ℕ → ℕ → MemShelfState
shelf_after_read shelf name at count = record shelf {
  given = if read_fails shelf name then shelf.given
      else counted shelf.given (shelf_read_count shelf name at count);
  plan = plan_after_call (read_faults shelf name) shelf.plan;
}

-- the next create fails: it is to, or no room was taken for the name
abbrev pub create_fails : MemShelfState → List ℕ → Bool
create_fails shelf name = fails_next shelf.plan || is_none (get shelf.rooms name)

-- the shelf after a create, but for its calls
abbrev pub after_create : MemShelfState → List ℕ → MemShelfState
after_create shelf name = record shelf {
  files = if create_fails shelf name then shelf.files else created shelf.files name;
  plan = plan_after_call (create_fails shelf name) shelf.plan;
}

-- the next append counts as a fault: it is to fail, or there is too little room, and the name is
-- there
abbrev pub append_faults : MemShelfState → List ℕ → List ℕ → Bool
append_faults shelf name bytes =
    not (is_absent shelf name)
    && (fails_next shelf.plan || is_too_long (record {
      files = shelf.files;
      rooms = shelf.rooms;
    }) name (length bytes))

-- the shelf after an append, but for its calls
abbrev pub after_append : MemShelfState → List ℕ → List ℕ → MemShelfState
after_append shelf name bytes = record shelf {
  files = if append_faults shelf name bytes then shelf.files else appended shelf.files name bytes;
  plan = plan_after_call (append_faults shelf name bytes) shelf.plan;
}
