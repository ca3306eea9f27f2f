-- What is handed out of the bytes that wait.
use Rattle.std.proofs.Common.{◌≡◌, ◌∙◌, ℕ, ◌+◌, ◌-◌, List, ◌++◌, length, take, drop, sym, ap}
use Rattle.std.specs.Prelude.{min}
use Rattle.std.proofs.lemmas.List.{drop-drop}
use Rattle.session_parts.specs.Waiting.{HandsOut}
use Rattle.session_parts.proofs.Handing.{rest_is}

-- as many as the room has room for, of those behind the ones that are gone
pub hands_out : (bytes room front : List ℕ) (gone count : ℕ)
    → count ≡ min (length (take (length bytes - gone) (drop gone bytes))) (length room)
    → front ≡ take count (take (length bytes - gone) (drop gone bytes))
    → HandsOut (drop gone bytes) room count (drop (gone + count) bytes) (front ++ drop count room)
hands_out bytes room front gone count many is =
    let left : take (length bytes - gone) (drop gone bytes) ≡ drop gone bytes = rest_is bytes gone in
    record {
      many = many ∙ ap (λ (b : List ℕ). min (length b) (length room)) left;
      written = ap (λ (b : List ℕ). b ++ drop count room) (is ∙ ap (take count) left);
      left = sym (drop-drop count gone bytes);
    }
