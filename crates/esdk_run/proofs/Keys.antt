-- A tree that tells its keys: what it gives and finds is what these keys give and find.
use Rattle.std.proofs.Common.{◌≡◌, ◌∙◌, ◌≤◌, List, ℕ, length, None, Some, refl, sym, ap, subst, arith, take, drop}
use Rattle.std.specs.Prelude.{IfSome}
use Rattle.std.specs.declared.option.Option.{Option}
use Rattle.esdk_fields.specs.Counts.{Stayed}
use Rattle.esdk_fields.specs.declared.faults.Fault.TheVariants as faults
use Rattle.esdk_fields.specs.declared.refusals.Refusal.{Refusal}
use Rattle.esdk_args.specs.declared.request.DecryptWords.{DecryptWords}
use Rattle.esdk_args.specs.declared.request.EncryptWords.{EncryptWords}
use Rattle.context_codec.specs.Context.{IsContext, KeyValue}
use Rattle.context_codec.specs.Parts.{whole_of}
use Rattle.header_codec.specs.declared.settings.Settings.{Settings}
use Rattle.keyring_trait.specs.declared.manager_errors.ManagerError.{ManagerError}
use Rattle.keyring_trait.specs.declared.manager_errors.ManagerError.TheVariants as managers
use Rattle.keyring_trait.specs.Keyring.{KeyringMeaning, OpensWith}
use Rattle.keyring_trait.specs.Materials.{DecMaterialsValue, EncMaterialsValue}
use Rattle.keyring_trait.specs.Requests.{DecRequestValue, EncRequestValue}
use Rattle.keyring_trait.specs.Unlocking.{Unlocks, unlock}
use Rattle.keyring_trait.specs.Wrapping.{WrapKeyValue, active, ivs_of, made, unwrapped}
use Rattle.esdk_encrypt.specs.Told.{NoneForRequest, encrypting_by, drawn_materials}
use Rattle.esdk_encrypt.proofs.Fitting.{IsGranted, unrefused_memory}
use Rattle.esdk_encrypt.proofs.Telling.{SaysMore}
use Rattle.esdk_decrypt.specs.Told.{answering_by}
use Rattle.esdk_decrypt.specs.Told.{NoneForAnswer as NoneRead}
use Rattle.esdk_decrypt.proofs.Told.{Allows, offence_unlocks, sound_unlocks}
use Rattle.esdk_run.specs.Decrypt.{TreeFinds, TreeFindsNone, decrypt_settings, reader_of, tree_answering}
use Rattle.esdk_run.specs.Encrypt.{encrypt_asked, refusal_asked, request_asked, run_writer}
use Rattle.esdk_run.specs.Giving.{TreeGives}
use Rattle.esdk_run.specs.Pairs.{required_in}
use Rattle.esdk_run.specs.Trees.{IsLawful}

-- ---- to encrypt with

pub keys_wrap : (tree : KeyringMeaning) (keys : List WrapKeyValue) → IsLawful tree → tree.keys ≡ Some keys → tree.wraps ≡ length (active keys)
keys_wrap tree keys lawful told = sym (subst (λ (o : Option (List WrapKeyValue)). IfSome o (λ ws. length (active ws) ≡ tree.wraps)) told lawful.told)

-- its materials are those of the keys
pub materials_told : (refusal : Option Refusal) (tree : KeyringMeaning) (keys : List WrapKeyValue) (request : EncRequestValue) (size : ℕ) (most : Option ℕ) (random : List ℕ) (m : EncMaterialsValue)
    → IsLawful tree → tree.keys ≡ Some keys → TreeGives refusal tree request random m
    → m ≡ drawn_materials (record { keys = keys; context = request.context; required = request.required; size = size; max_keys = most }) random
materials_told refusal tree keys request size most random m lawful told given =
    let key : List ℕ = take 32 random in
    let ivs : List ℕ = drop 32 random in
    let wrapped : m.entries ≡ made keys request.context key (ivs_of tree.wraps ivs) =
    subst (λ (o : Option (List WrapKeyValue)). IfSome o (λ ws. m.entries ≡ made ws request.context key (ivs_of tree.wraps ivs))) told given.wrapped in
    let entries : m.entries ≡ made keys request.context key (ivs_of (length (active keys)) ivs) =
    wrapped ∙ ap (λ (n : ℕ). made keys request.context key (ivs_of n ivs)) (keys_wrap tree keys lawful told) in
    λ i. record { context = given.whole i; required = given.required i; key = given.key i; entries = entries i; served = given.served i }

pub told_says_more : (asked : EncryptWords) (context : List KeyValue) (tree left : KeyringMeaning) (keys : List WrapKeyValue) → IsLawful tree → tree.keys ≡ Some keys
    → SaysMore (encrypt_asked asked context tree left) (encrypting_by (run_writer asked context keys) (refusal_asked asked context tree) tree.faults left.faults)
told_says_more asked context tree left keys lawful told = record {
  wraps = keys_wrap tree keys lawful told;
  gives = λ random m given. (given.0.unrefused, materials_told (refusal_asked asked context tree) tree keys (request_asked asked context) asked.frame asked.max_keys random m lawful told given.0);
  gives_none = λ error cause. cause;
  size = refl;
  max_keys = refl;
}

-- What is asked for is granted, where it isn't refused, no keyring failed and the limit allows it; the tree needn't tell its keys.
pub tree_grants : (asked : EncryptWords) (context : List KeyValue) (tree left : KeyringMeaning) → IsContext context → IsLawful tree → refusal_asked asked context tree ≡ None
    → IfSome asked.max_keys (λ most. tree.wraps ≤ most) → Stayed tree.faults left.faults → IsGranted (encrypt_asked asked context tree left)
tree_grants asked context tree left is_context lawful unrefused allowed stayed = record {
  none = λ error cause. unrefused_memory tree.faults left.faults error stayed (subst (λ (r : Option Refusal). NoneForRequest r tree.faults left.faults error) unrefused cause);
  context = λ random m given. subst IsContext (sym given.0.whole) is_context;
  count = λ random m given. given.0.count;
  few = lawful.few;
  allowed = allowed;
}

-- ---- to decrypt with

keys_find : (required : List (List ℕ)) (tree left : KeyringMeaning) (keys : List WrapKeyValue) (request : DecRequestValue) (m : DecMaterialsValue)
    → tree.keys ≡ Some keys → Stayed tree.faults left.faults → TreeFinds required tree left request m
    → unlock request.stored request.entries request.given required keys ≡ Unlocks m.context m.only m.key
keys_find required tree left keys request m told stayed finds =
    let whole : List KeyValue = whole_of request.stored request.given in
    let opens : OpensWith keys request.entries whole (Stayed tree.faults left.faults) (Some m.key) =
    subst (λ (o : Option (List WrapKeyValue)). IfSome o (λ ws. OpensWith ws request.entries whole (Stayed tree.faults left.faults) (Some m.key))) told finds.opens in
    rw (finds.context, finds.only) (sound_unlocks request.stored request.given request.entries required keys (Some m.key) finds.sound (sym (opens.first stayed)))

keys_find_none : (required : List (List ℕ)) (tree left : KeyringMeaning) (keys : List WrapKeyValue) (request : DecRequestValue) (error : ManagerError)
    → tree.keys ≡ Some keys → Stayed tree.faults left.faults → TreeFindsNone required tree left request error
    → NoneRead (unlock request.stored request.entries request.given required keys) error
keys_find_none required tree left keys request (managers.Fault faults.NoKeyOpens) told stayed finds =
    let whole : List KeyValue = whole_of request.stored request.given in
    sound_unlocks request.stored request.given request.entries required keys None finds.sound
    (subst (λ (o : Option (List WrapKeyValue)). IfSome o (λ ws. unwrapped ws request.entries whole ≡ None)) told finds.none)
keys_find_none required tree left keys request (managers.Fault fault) told stayed finds =
    offence_unlocks request.stored request.given request.entries required keys fault finds
keys_find_none required tree left keys request (managers.Refusal refusal) told stayed none = none
keys_find_none required tree left keys request managers.KeyringFault told stayed failed = absurd (omega (arith, stayed, failed.1))
keys_find_none required tree left keys request managers.Memory told stayed free = tt

-- what the tree may answer, a reader with its keys answers, where no keyring failed
pub keys_allow : (settings : Settings) (given : List KeyValue) (required : List (List ℕ)) (tree left : KeyringMeaning) (keys : List WrapKeyValue)
    → tree.keys ≡ Some keys → Stayed tree.faults left.faults
    → Allows (record { finds = TreeFinds required tree left; finds_none = TreeFindsNone required tree left })
    (answering_by (record { keys = keys; settings = settings; given = given; required = required }))
keys_allow settings given required tree left keys told stayed = record {
  finds = λ request m finds. keys_find required tree left keys request m told stayed finds;
  finds_none = λ request error finds. keys_find_none required tree left keys request error told stayed finds;
}

-- the same where it is said by which keys
pub tree_allows : (settings : Settings) (given : List KeyValue) (required : List (List ℕ)) (tree left : KeyringMeaning) (keys : List WrapKeyValue)
    → tree.keys ≡ Some keys → Stayed tree.faults left.faults
    → Allows (tree_answering required tree left) (answering_by (record { keys = keys; settings = settings; given = given; required = required }))
tree_allows settings given required tree left keys told stayed = record {
  finds = λ request m finds. keys_find required tree left keys request m told stayed finds.0;
  finds_none = λ request error finds. keys_find_none required tree left keys request error told stayed finds;
}

-- so does the reader of a decryption
pub reader_allows : (asked : DecryptWords) (given : List KeyValue) (tree left : KeyringMeaning) (keys : List WrapKeyValue) → tree.keys ≡ Some keys → Stayed tree.faults left.faults
    → Allows (tree_answering (required_in asked.pairs) tree left) (answering_by (reader_of asked given keys))
reader_allows asked given tree left keys told stayed = tree_allows (decrypt_settings asked) given (required_in asked.pairs) tree left keys told stayed
