-- The tree of a whole file that is written anew.
use Rattle.std.proofs.Common.{◌≡◌, ◌≢◌, ℕ, Bool, true, false, List, [], length, refl, sym, ap, subst, ◌∙◌, arith}
use Rattle.std.specs.Prelude.{codes, Option, Some, None, Result, Ok, Err, if◌then◌else◌}
use Rattle.std.specs.Str.{bytes_eq}
use Rattle.std.proofs.lemmas.Bool.{false_from_ne_true}
use Rattle.std.proofs.lemmas.Slice.Eq.{bytes_eq-Decides}
use Rattle.hex.specs.Hex.{decode_sized}
use Rattle.hex.proofs.HexLemmas.{decode_of-ok, decode_sized-ok, decode_sized-twice}
use Rattle.base64.specs.GeneralPurpose.{encode_of}
use Rattle.base64.specs.Engines.{standard}
use Rattle.base64.proofs.EngineFacts.{decode_of-encode_of}
use Rattle.serde_json.specs.Data.{Data}
use Rattle.esdk_fields.specs.declared.refusals.FileRefusal.{FileRefusal}
use Rattle.keyring_trait.specs.Wrapping.{WrapKeyValue}
use Rattle.raw_aes_keyring.specs.RawKey.{reserved_namespace}
use Rattle.multi_keyring.specs.Forest.{Forest, Nil, RawThen}
use Rattle.json_values.specs.Values.{json_value, member_count}
use Rattle.keyring_file.specs.declared.plugs.Plug.{Plug}
use Rattle.keyring_file.specs.declared.form.Version.{Version}
use Rattle.keyring_file.specs.declared.form.Version.TheVariants.{Two}
use Rattle.keyring_file.specs.Base64Key.{base64_key}
use Rattle.keyring_file.specs.KeyLine.{key_line}
use Rattle.keyring_file.specs.KeyFile.{is_json, line_tree, only_tree, nothing_met, node_tree, json_tree, tree_of}
use Rattle.json_values.specs.Values.{member_number}
use Rattle.keyring_file.specs.Form.{ring_of, RawForm}
use Rattle.keyring_file.specs.Walk.{Met, count_leaves, kept}
use Rattle.keyring_file.specs.Leaves.{wrap_key, raw_key}
use Rattle.keyring_file.specs.Tree.{tree}
use Rattle.keyring_file.specs.Spelling.{IsKeyLine}
use Rattle.keyring_file.specs.Migrate.{raw_node, version_2_file, is_at, migrated, file_with, file_walked, ring_migration, json_migration, line_migration, migration, IsFileOf}
use Rattle.keyring_file.specs.Retired.{retired_if, retired_from, retired_in}
use Rattle.keyring_file.proofs.Forms.{raw_again}
use Rattle.keyring_file.proofs.Lines.{line_is_spelled}
use Rattle.keyring_file.proofs.Steps.{with_key, with_leaves, with_node}
use Rattle.keyring_file.proofs.Renewed.{renewed, raw_is, tree_kept, tree_shaped}

ring_again : (node : Data) → ring_of (version_2_file node) ≡ Some (Two, node)
unfolding ring_of member_count
ring_again node = refl

file_is : (retire : Option ℕ) (node : Data) (found : Bool) (d : Data) → file_with retire node found ≡ Ok d → version_2_file node ≡ d
file_is None node found d e = cc
file_is (Some n) node true d e = cc
file_is (Some n) node false d e = absurd cc

-- ---- the tree of the new file

module _ {P : Type 0} (wraps : P → ℕ) (plugs : List (Plug P)) (retire : Option ℕ) (new : List ℕ) where
  -- a file of version 2 that has this node and is read as its tree
  abbrev IsNew : Data → Result (Forest P) FileRefusal → Type 0
  IsNew d trees = (member_number (codes "version") d ≡ Some 2) × (tree_of wraps new plugs ≡ trees)

  new_tree : (node : Data) → IsFileOf new (version_2_file node) → IsNew (version_2_file node) (only_tree (tree wraps Two 8 node (nothing_met plugs)))
  unfolding tree_of
  new_tree node f = (refl, rw (f.json, f.value, ring_again node) refl)

  only_renewed : (read : Result (Forest P × Met P) FileRefusal) → only_tree (renewed retire 1 read) ≡ retired_in retire (only_tree read)
  only_renewed (Ok x) = refl
  only_renewed (Err refusal) = refl

  -- ---- a JSON file

  walked : (version : Version) (node d : Data) (r : Result ((Data × Bool) × Met (Unit {0})) FileRefusal) → migrated retire version 8 node (nothing_met {P = Unit {0}} []) ≡ r
      → file_walked retire r ≡ Ok d → IsFileOf new d → IsNew d (retired_in retire (only_tree (tree wraps version 8 node (nothing_met plugs))))
  walked version node d (Ok x) is e f =
      let same = file_is retire x.0.0 x.0.1 d e in
      let whole = new_tree x.0.0 (subst (IsFileOf new) (sym same) f) in
      let kept = tree_kept retire wraps version 8 node (nothing_met {P = Unit {0}} []) x (nothing_met plugs) is refl in
      subst (λ d. IsNew d (retired_in retire (only_tree (tree wraps version 8 node (nothing_met plugs))))) same
      (whole.0, whole.1 ∙ ap only_tree kept.trees ∙ only_renewed (tree wraps version 8 node (nothing_met plugs)))
  walked version node d (Err refusal) is e f = absurd cc

  of_ring : (ring : Option (Version × Data)) (d : Data) → ring_migration retire ring ≡ Ok d → IsFileOf new d → IsNew d (retired_in retire (node_tree wraps plugs ring))
  of_ring (Some (version, node)) d e f = walked version node d (migrated retire version 8 node (nothing_met {P = Unit {0}} [])) refl e f
  of_ring None d e f = absurd cc

  of_json : (file : Option Data) (d : Data) → json_migration retire file ≡ Ok d → IsFileOf new d → IsNew d (retired_in retire (json_tree wraps plugs file))
  of_json (Some file) d e f = of_ring (ring_of file) d e f
  of_json None d e f = absurd cc

  -- ---- a key line

  key_again : (key : List ℕ) (digits : List ℕ) → decode_sized digits 32 ≡ Ok key → base64_key (encode_of standard key) ≡ Some key
  unfolding base64_key
  key_again key digits spelled =
      let long = decode_sized-ok digits 32 key spelled in
      let ok = decode_of-ok digits key (sym (decode_sized-twice digits 32 long) ∙ spelled) in
      let length_is : length key ≡ 32 = omega (arith, ok.2, long) in
      rw (decode_of-encode_of standard key refl ok.3, length_is) refl

  line_key_read : (w : WrapKeyValue) (text : List ℕ) (old : Met P) → old.leaves ≡ 0 → old.keys ≡ [] → w.namespace ≢ reserved_namespace → base64_key text ≡ Some w.key
      → raw_key 1 w.namespace w.name text old ≡ Ok (w.key, with_leaves 1 (with_key (wrap_key w.namespace w.name w.key false) old))
  unfolding raw_key count_leaves kept
  line_key_read w text old leaves keys other is =
      let free = false_from_ne_true (bytes_eq w.namespace reserved_namespace) (λ e. other ((bytes_eq-Decides w.namespace reserved_namespace).0 e)) in
      rw (free, is, keys, leaves) refl

  line_again : (w : WrapKeyValue) (bytes : List ℕ) → IsKeyLine bytes w → (r : Result (Forest P) FileRefusal)
      → only_tree (tree wraps Two 8 (raw_node w.namespace w.name (encode_of standard w.key) (is_at 1 retire)) (nothing_met plugs)) ≡ Ok (retired_from retire 1 (RawThen w Nil))
  line_again w bytes line r =
      let text = encode_of standard w.key in
      let at = is_at 1 retire in
      let form = raw_again w.namespace w.name text at line.key.namespace.short line.key.name.short in
      let key = line_key_read w text (with_node (nothing_met plugs)) refl refl line.key.unreserved (key_again w.key line.digits line.spelled) in
      ap only_tree (tree_shaped wraps Two 7 (raw_node w.namespace w.name text at) (nothing_met plugs) (RawForm w.namespace w.name text at) form)
      ∙ ap only_tree (raw_is {P = P} w.namespace w.name text 1 at (with_node (nothing_met plugs)))
      ∙ rw key (ap (λ v. Ok (RawThen v Nil)) (named w at line.key.active))
    where
      named : (w : WrapKeyValue) (at : Bool) → w.retired ≡ false → wrap_key w.namespace w.name w.key at ≡ retired_if at w
      named w true active = refl
      named w false active = ap (λ retired. record w { retired = retired }) (sym active)

  of_line : (bytes : List ℕ) (key : Result WrapKeyValue FileRefusal) (d : Data) → key_line bytes ≡ key → line_migration retire key ≡ Ok d → IsFileOf new d → IsNew d (retired_in retire (line_tree key))
  of_line bytes (Ok w) d is e f =
      let node = raw_node w.namespace w.name (encode_of standard w.key) (is_at 1 retire) in
      let same = file_is retire node (is_at 1 retire) d e in
      let whole = new_tree node (subst (IsFileOf new) (sym same) f) in
      subst (λ d. IsNew d (retired_in retire (Ok (RawThen w Nil)))) same (whole.0, whole.1 ∙ line_again w bytes (line_is_spelled bytes w is) (Ok (RawThen w Nil)))
  of_line bytes (Err refusal) d is e f = absurd cc

  of_either : (bytes : List ℕ) (json : Bool) (d : Data) → (if json then json_migration retire (json_value bytes) else line_migration retire (key_line bytes)) ≡ Ok d → IsFileOf new d
      → IsNew d (retired_in retire (if json then json_tree wraps plugs (json_value bytes) else line_tree (key_line bytes)))
  of_either bytes true d e f = of_json (json_value bytes) d e f
  of_either bytes false d e f = of_line bytes (key_line bytes) d refl e f

  pub file_kept : (bytes : List ℕ) (d : Data) → migration retire bytes ≡ Ok d → IsFileOf new d
      → (member_number (codes "version") d ≡ Some 2) × (tree_of wraps new plugs ≡ retired_in retire (tree_of wraps bytes plugs))
  unfolding migration tree_of
  file_kept bytes d e f = of_either bytes (is_json bytes) d e f
