-- Keyrings that are handed over under names.
use Rattle.std.specs.Prelude.{ℕ, List, [], ◌∷◌, Option, Some, None, option_map, if◌then◌else◌}
use Rattle.std.specs.Str.{bytes_eq}
use Rattle.keyring_file.specs.declared.plugs.Plug.{Plug}

-- the first keyring of this name, and the plugs that are left
unfoldable pub taken : {P : Type 0} → List ℕ → List (Plug P) → Option (P × List (Plug P))
taken name [] = None
taken name (plug ∷ plugs) =
    if bytes_eq plug.name name then Some (plug.keyring, plugs)
    else option_map (λ found. (found.0, plug ∷ found.1)) (taken name plugs)
