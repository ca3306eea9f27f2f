-- The tree of a key line.
use Rattle.std.proofs.Common.{◌≡◌, ℕ, false, List, refl}
use Rattle.std.specs.Prelude.{Result, Ok, Err}
use Rattle.esdk_fields.specs.declared.refusals.FileRefusal.{FileRefusal}
use Rattle.keyring_trait.specs.Wrapping.{WrapKeyValue}
use Rattle.multi_keyring.specs.Forest.{Nil, RawThen}
use Rattle.keyring_file.specs.declared.plugs.Plug.{Plug}
use Rattle.keyring_file.specs.KeyLine.{key_line}
use Rattle.keyring_file.specs.KeyFile.{is_json, line_tree, tree_of}

pub line_read : {P : Type 0} (wraps : P → ℕ) (bytes : List ℕ) (plugs : List (Plug P)) (w : WrapKeyValue) → is_json bytes ≡ false → key_line bytes ≡ Ok w
    → tree_of wraps bytes plugs ≡ Ok (RawThen w Nil)
unfolding tree_of
line_read wraps bytes plugs w plain is = rw (plain, is) refl

key_of_tree : {P : Type 0} (key : Result WrapKeyValue FileRefusal) (w : WrapKeyValue) → line_tree {P = P} key ≡ Ok (RawThen w Nil) → key ≡ Ok w
key_of_tree (Ok v) w e = cc
key_of_tree (Err refusal) w e = absurd cc

pub read_line : {P : Type 0} (wraps : P → ℕ) (bytes : List ℕ) (plugs : List (Plug P)) (w : WrapKeyValue) → is_json bytes ≡ false → tree_of wraps bytes plugs ≡ Ok (RawThen w Nil)
    → key_line bytes ≡ Ok w
unfolding tree_of
read_line {P = P} wraps bytes plugs w plain is = key_of_tree {P = P} (key_line bytes) w (rw plain at is)
