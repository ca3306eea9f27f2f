-- What a raw key that is read keeps.
use Rattle.std.proofs.Common.{◌≡◌, ◌≤◌, ◌+◌, ℕ, false, List, refl, subst}
use Rattle.std.specs.Prelude.{Result, Ok}
use Rattle.std.specs.List.{list_any}
use Rattle.std.specs.Str.{bytes_eq}
use Rattle.esdk_fields.specs.declared.refusals.FileRefusal.{FileRefusal}
use Rattle.esdk_fields.specs.declared.refusals.FileRefusal.TheVariants.{BadKey, ReservedNamespace}
use Rattle.raw_aes_keyring.specs.RawKey.{reserved_namespace}
use Rattle.keyring_file.specs.Base64Key.{base64_key}
use Rattle.keyring_file.specs.Walk.{Met, is_another_key}
use Rattle.keyring_file.specs.Leaves.{wrap_key, raw_key}
use Rattle.keyring_file.proofs.Steps.{got, passed, counted_on, kept_on, with_key, with_leaves}

abbrev read_as : {A : Type 0} → A → Result A FileRefusal
read_as x = Ok x

pub result_is : {A : Type 0} (x y : A) → read_as x ≡ Ok y → x ≡ y
result_is x y e = cc

-- the key is kept, and one leaf more is met
pub record KeyIsRead {P : Type 0} (namespace name : List ℕ) (old : Met P) (x : List ℕ × Met P) : Type 0 where
  pub apart : list_any (is_another_key (wrap_key namespace name x.0 false)) old.keys ≡ false
  pub most : old.leaves + 1 ≤ 64
  pub new : with_leaves 1 (with_key (wrap_key namespace name x.0 false) old) ≡ x.1

pub key_read : {P : Type 0} (place : ℕ) (namespace name text : List ℕ) (old : Met P) (x : List ℕ × Met P) → raw_key place namespace name text old ≡ Ok x → KeyIsRead namespace name old x
unfolding raw_key
key_read place namespace name text old x e =
    let a = passed (bytes_eq namespace reserved_namespace) ReservedNamespace _ old x e in
    let b = got (BadKey place) (base64_key text) _ old x a in
    let w = wrap_key namespace name b.value false in
    let c = kept_on w _ old x b.rest in
    let d = counted_on 1 _ (with_key w old) x c.rest in
    subst (KeyIsRead namespace name old) (result_is (b.value, with_leaves 1 (with_key w old)) x d.rest) (record { apart = c.apart; most = d.most; new = refl })
