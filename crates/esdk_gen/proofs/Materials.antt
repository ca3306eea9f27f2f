-- What the manager of the workload's desk gives, and that no message of it is refused.
use Rattle.std.proofs.Common.{◌≡◌, ◌∙◌, ℕ, ◌+◌, ◌≤◌, Bool, true, false, List, [], ◌∷◌, length, take, drop, Option, Some, None, Ok, Err, refl, sym, ap, subst, arith, rules, le-ltb}
use Rattle.std.proofs.lemmas.List.{append-nil, drop-drop, length-drop, length-take, take_all}
use Rattle.std.specs.Prelude.{codes, nat_eq}
use Rattle.std.specs.Map.{update}
use Rattle.std.proofs.lemmas.Map.{update_here}
use Rattle.std.specs.Str.{IsAscii}
use Rattle.std.proofs.lemmas.Str.{IsUtf8-from_ascii, is_utf8-from_IsUtf8}
use Rattle.std.proofs.lemmas.Str.Ascii.{IsAscii-cons, IsAscii-from_all, IsAscii-nil}
use Rattle.esdk_fields.specs.declared.refusals.Refusal.{Refusal}
use Rattle.esdk_fields.specs.Numbers.{to_big_endian}
use Rattle.esdk_fields.specs.Sized.{sized}
use Rattle.context_codec.specs.Context.{IsContext, pair_text, pairs_text}
use Rattle.context_codec.specs.Insert.{grown, refusal_of}
use Rattle.edk_codec.specs.Entry.{Entry, IsEntry, edk_text}
use Rattle.header_codec.specs.Header.{latest_end}
use Rattle.header_codec.specs.Written.{committing, keys_end}
use Rattle.header_codec.proofs.Spelled.{version_short}
use Rattle.header_codec.proofs.WrittenHeaders.{entry_text_len, keys_end_is}
use Rattle.suite_table.specs.declared.suite.Suite.TheVariants.{Committing}
use Rattle.keyring_trait.specs.declared.served.Served.{Served}
use Rattle.keyring_trait.specs.declared.served.Served.TheVariants.{Direct}
use Rattle.keyring_trait.specs.Manager.{ManagerNow, AreDrawn, GivesMaterials, IsNew, TellsOn, request_refusal}
use Rattle.keyring_trait.specs.Materials.{EncMaterialsValue}
use Rattle.keyring_trait.specs.Saying.{Saying, said_last}
use Rattle.keyring_trait.specs.Wrapping.{WrapKeyValue, made, wrap}
use Rattle.keyring_trait.proofs.Made.{wrap_is_entry}
use Rattle.cmm_default.specs.DefaultCmm.{default_now}
use Rattle.raw_aes_keyring.specs.Keyring.{raw_meaning}
use Rattle.stream_seal.specs.Session.{new_sealing_session}
use Rattle.stream_seal.specs.Start.{start_refusal, drawn_rest}
use Rattle.desk_core.specs.declared.errors.DeskError.{DeskError}
use Rattle.desk_core.specs.declared.errors.DeskError.TheVariants as errors
use Rattle.desk_core.specs.declared.live_sessions.Desk.{Desk}
use Rattle.desk_core.specs.Calls.{IsReply, OpensSeal}
use Rattle.desk_core.specs.Desk.{DeskValue, OpenSeal, after_desk_call}
use Rattle.desk_core.specs.Stands.{manager_of}
use Rattle.desk_core.specs.Session.{Fails, Gives, NoReply, Refuses, Reply, Sealing, begun_turn, seal_opened}
use Rattle.esdk_gen.specs.Generator.{gen_context, generator_key, generator_materials}
use Rattle.esdk_gen.specs.Sealing.{IsIdle, IsNewSession, gen_request, gen_session}

-- ---- the context

ascii_gen : IsAscii (codes "gen")
ascii_gen = IsAscii-cons 103 (101 ∷ 110 ∷ []) (omega arith) (IsAscii-cons 101 (110 ∷ []) (omega arith) (IsAscii-cons 110 [] (omega arith) IsAscii-nil))

ascii_purpose : IsAscii (codes "purpose")
ascii_purpose = IsAscii-from_all (codes "purpose") (search rules)

pub gen_is_context : IsContext gen_context
unfolding pair_text pairs_text sized to_big_endian
gen_is_context = record {
  ascending = search rules;
  texts = rw (is_utf8-from_IsUtf8 (codes "purpose") (IsUtf8-from_ascii (codes "purpose") ascii_purpose), is_utf8-from_IsUtf8 (codes "gen") (IsUtf8-from_ascii (codes "gen") ascii_gen)) refl;
  short = omega arith;
}

-- its one pair is no refused one
pub never_refused_pair : refusal_of [] (codes "purpose", codes "gen") ≡ None
unfolding grown pair_text pairs_text sized to_big_endian
never_refused_pair = refl

-- ---- one entry

pub gen_is_entry : (key data_key iv : List ℕ) → length data_key ≡ 32 → length iv ≡ 12 → IsEntry (wrap (generator_key key) gen_context iv data_key)
gen_is_entry key data_key iv long twelve = wrap_is_entry (generator_key key) gen_context iv data_key (omega arith) (omega arith) twelve long

-- the header of it is short
pub gen_short : (key data_key iv id : List ℕ) → length data_key ≡ 32 → length iv ≡ 12 → length id ≡ 32
    → keys_end (committing id) gen_context (wrap (generator_key key) gen_context iv data_key ∷ []) ≤ latest_end
gen_short key data_key iv id long twelve id_long =
    let e : Entry = wrap (generator_key key) gen_context iv data_key in
    let is : IsEntry e = gen_is_entry key data_key iv long twelve in
    omega (
      arith,
      keys_end_is (committing id) gen_context (e ∷ []),
      version_short Committing,
      id_long,
      gen_is_context.short,
      ap length (append-nil (edk_text e)),
      entry_text_len e,
      is.provider,
      is.info,
      is.cipher,
    )

pub starts : (key data_key iv id : List ℕ) → length data_key ≡ 32 → length iv ≡ 12 → length id ≡ 32 → start_refusal (generator_materials key data_key iv) None id ≡ None
starts key data_key iv id long twelve id_long =
    rw (le-ltb latest_end (keys_end (committing id) gen_context (wrap (generator_key key) gen_context iv data_key ∷ [])) (gen_short key data_key iv id long twelve id_long)) refl

-- ---- the manager

-- what the manager over this wrapping key is
abbrev pub manager_now : WrapKeyValue → ManagerNow
manager_now w = default_now (raw_meaning w)

-- what the manager may say, that was over this wrapping key and is over that one
abbrev pub saying : WrapKeyValue → WrapKeyValue → Saying
saying old new = said_last (manager_now old) (manager_now new)

-- this is its reply to the workload's request, with these random bytes
abbrev pub Replies : WrapKeyValue → WrapKeyValue → List ℕ → Bool → Reply → Type 0
Replies old new random short reply = IsReply (saying old new) gen_request 0 random short reply

-- nothing is refused
unrefused : (key : List ℕ) → request_refusal (manager_now (generator_key key)).meaning gen_context ≡ None
unfolding request_refusal
unrefused key = refl

-- its materials are those of the random bytes
gives : (key random : List ℕ) (m : EncMaterialsValue) → length random ≡ 76
    → GivesMaterials (manager_now (generator_key key)) gen_request.wish (drawn_rest random) m
    → m ≡ generator_materials key (take 32 (drop 32 random)) (drop 64 random)
gives key random m long given =
    let direct : m.served ≡ Direct = given.plain refl in
    let drawn : AreDrawn 1 (manager_now (generator_key key)).tells (drawn_rest random) m =
    given.fresh refl (subst (λ (s : Served). IsNew s) (sym direct) tt) in
    let iv : take 12 (drop 32 (drawn_rest random)) ≡ drop 64 random =
    ap (take 12) (drop-drop 32 32 random)
    ∙ take_all 12 (drop 64 random) (omega (arith, length-drop 64 random, long)) in
    let entries : m.entries ≡ made (generator_key key ∷ []) gen_context (take 32 (drawn_rest random))
    (drop 64 random ∷ []) =
    drawn.entries (generator_key key ∷ []) refl
    ∙ (λ i. made (generator_key key ∷ []) (given.context i) (drawn.key i) (iv i ∷ [])) in
    λ i. record {
      context = given.context i;
      required = given.demanded tt i;
      key = drawn.key i;
      entries = entries i;
      served = direct i;
    }

-- ---- the session that begins

-- The call answered the number that was drawn, and left the session of the random bytes.
pub record Begins (key random : List ℕ) (id : ℕ) (reply : Reply) (short : Bool) (number : ℕ) : Type 0 where
  pub same : id ≡ number
  pub left : (seal_opened gen_request random reply short number).left ≡ Some (Sealing (gen_session key random))

module _ (key random : List ℕ) (new : WrapKeyValue) (long : length random ≡ 76) where
  id_long : length (take 32 random) ≡ 32
  id_long = omega (arith, length-take 32 random, long)

  key_long : length (take 32 (drop 32 random)) ≡ 32
  key_long = omega (arith, length-take 32 (drop 32 random), length-drop 32 random, long)

  iv_long : length (drop 64 random) ≡ 12
  iv_long = omega (arith, length-drop 64 random, long)

  -- no message of its materials is refused
  never_refused : (m : EncMaterialsValue) → Replies (generator_key key) new random false (Gives m)
      → start_refusal m None (take 32 random) ≡ None
  never_refused m given =
      ap (λ (x : EncMaterialsValue). start_refusal x None (take 32 random))
      (gives key random m long given.0.0)
      ∙ starts key (take 32 (drop 32 random)) (drop 64 random) (take 32 random) key_long iv_long
      id_long

  begun_so : (m : EncMaterialsValue) (id number : ℕ)
      → Replies (generator_key key) new random false (Gives m) → (refusal : Option Refusal)
      → refusal ≡ None
      → Ok id ≡ (begun_turn gen_request random m number refusal).answer
      → (id ≡ number)
      × ((begun_turn gen_request random m number refusal).left ≡ Some (Sealing (gen_session key random)))
  begun_so m id number given (Some refusal) none is = absurd cc
  begun_so m id number given None none is = (
    cc,
    ap (λ (x : EncMaterialsValue). Some (Sealing (new_sealing_session x None 4096 (take 32 random))))
        (gives key random m long given.0.0),
  )

  pub begins : (id number : ℕ) (reply : Reply) (short : Bool)
      → Replies (generator_key key) new random short reply
      → Ok id ≡ (seal_opened gen_request random reply short number).answer
      → Begins key random id reply short number
  begins id number NoReply short replies is = absurd cc
  begins id number (Gives m) true replies is = absurd cc
  begins id number (Gives m) false replies is =
      let so = begun_so m id number replies (start_refusal m None (take 32 random))
      (never_refused m replies) is in
      record { same = so.0; left = so.1 }
  begins id number (Refuses refusal) short replies is = absurd cc
  begins id number Fails short replies is = absurd cc

  begun_not : (m : EncMaterialsValue) (number : ℕ) (error : DeskError) (refusal : Option Refusal) → refusal ≡ None → Err error ≡ (begun_turn gen_request random m number refusal).answer → error ≡ errors.Memory
  begun_not m number error (Some refusal) none is = absurd cc
  begun_not m number error None none is = absurd cc

  -- only memory can be wanting
  pub begins_not : (number : ℕ) (error : DeskError) (reply : Reply) (short : Bool)
      → Replies (generator_key key) new random short reply
      → Err error ≡ (seal_opened gen_request random reply short number).answer
      → error ≡ errors.Memory
  begins_not number error NoReply short replies is = cc
  begins_not number error (Gives m) true replies is = cc
  begins_not number error (Gives m) false replies is =
      begun_not m number error (start_refusal m None (take 32 random)) (never_refused m replies) is
  begins_not number error (Refuses refusal) short replies is =
      absurd (let no : None ≡ Some refusal = sym (unrefused key) ∙ replies.0.1 tt in cc)
  begins_not number error Fails short replies is =
      absurd (let rose : 1 ≤ 0 = replies.0.0 in omega arith)

-- ---- the desk after it

-- a manager that tells this one key is over it
pub same_ring : (old new : WrapKeyValue) (key : List ℕ) → old ≡ generator_key key
    → TellsOn (manager_now old).tells (manager_now new).tells → new ≡ generator_key key
same_ring old new key ring tells =
    let told : Some (new ∷ []) ≡ Some (generator_key key ∷ []) =
    tells (generator_key key ∷ []) (ap (λ (w : WrapKeyValue). Some (w ∷ [])) ring) in cc

module _ (desk next : Desk WrapKeyValue) (key random : List ℕ) (last : ℕ)
    (idle : IsIdle desk key last) (long : length random ≡ 76) where
  pub session_begins : (id : ℕ)
      → OpensSeal (saying (manager_of desk) (manager_of next)) idle.value gen_request 0 random
      (Ok id) next
      → TellsOn (manager_now (manager_of desk)).tells (manager_now (manager_of next)).tells
      → IsNewSession next key random id
  session_begins id o tells =
      let v : DeskValue = idle.value in
      let number : ℕ = v.last + 1 in
      let replies =
      subst (λ (w : WrapKeyValue). Replies w (manager_of next) random o.short o.reply) idle.ring
      o.replies in
      let is : Begins key random id o.reply o.short number =
      begins key random (manager_of next) long id number o.reply o.short replies o.answer in
      record {
        value = after_desk_call v number o.short (OpenSeal gen_request 0 random o.reply);
        stands = o.stands;
        drawn = sym is.same;
        ring = same_ring (manager_of desk) (manager_of next) key idle.ring tells;
        live = ap (update nat_eq v.live number
            (seal_opened gen_request random o.reply o.short number).left) is.same
            ∙ update_here v.live number
            (seal_opened gen_request random o.reply o.short number).left
            ∙ is.left;
      }

  pub number_begins : (id : ℕ)
      → OpensSeal (saying (manager_of desk) (manager_of next)) idle.value gen_request 0 random
      (Ok id) next → id ≡ last + 1
  number_begins id o =
      let replies =
      subst (λ (w : WrapKeyValue). Replies w (manager_of next) random o.short o.reply) idle.ring
      o.replies in
      let is : Begins key random id o.reply o.short (idle.value.last + 1) =
      begins key random (manager_of next) long id (idle.value.last + 1) o.reply o.short replies
      o.answer in
      is.same ∙ ap (λ (n : ℕ). n + 1) idle.drawn

  pub session_not : (error : DeskError)
      → OpensSeal (saying (manager_of desk) (manager_of next)) idle.value gen_request 0 random
      (Err error) next → error ≡ errors.Memory
  session_not error o =
      let replies =
      subst (λ (w : WrapKeyValue). Replies w (manager_of next) random o.short o.reply) idle.ring
      o.replies in
      begins_not key random (manager_of next) long (idle.value.last + 1) error o.reply o.short
      replies o.answer
