-- Blanks at the front of a file.
use Rattle.std.proofs.Common.{◌≡◌, ◌<◌, ◌+◌, ℕ, true, false, List, length, drop, get_or, refl}
use Rattle.std.specs.Prelude.{◌==◌}
use Rattle.std.proofs.lemmas.List.{drop_more}
use Rattle.keyring_file.specs.KeyFile.{is_blank, is_json}

-- one blank more
pub blank_skipped : (bytes : List ℕ) (i : ℕ) → i < length bytes → is_blank (get_or bytes i 0) ≡ true → is_json (drop (i + 1) bytes) ≡ is_json (drop i bytes)
unfolding is_json
blank_skipped bytes i lt blank = rw (drop_more bytes i 0 lt, blank) refl

-- the first byte that is no blank
pub first_judged : (bytes : List ℕ) (i : ℕ) → i < length bytes → is_blank (get_or bytes i 0) ≡ false → is_json (drop i bytes) ≡ (get_or bytes i 0 == 123)
unfolding is_json
first_judged bytes i lt other = rw (drop_more bytes i 0 lt, other) refl
