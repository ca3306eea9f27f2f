-- The members of an object.
use Rattle.std.proofs.Common.{◌≡◌, List, length}
use Rattle.serde_json.specs.Events.{members_len}
use Rattle.serde_json.specs.View.{members_view}
use Rattle.serde_json.proofs.Views.{Entry, members_len-members_view}

-- they are counted one by one
pub members_counted : (entries : List Entry) → members_len (members_view entries) ≡ length entries
members_counted entries = members_len-members_view entries
