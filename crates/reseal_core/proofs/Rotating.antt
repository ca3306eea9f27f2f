-- What a message is resealed to is read by whoever has one of the new keys.
use Rattle.std.proofs.Common.{◌≡◌, ◌⊎◌, ◌∙◌, ℕ, ◌^◌, ◌<◌, ◌≤◌, Bool, true, false, ◌||◌, List, [], ◌∷◌, length, drop, Some, None, refl, sym, ap, subst, arith, inl, inr}
use Rattle.std.specs.Prelude.{Contains}
use Rattle.std.specs.List.{list_any}
use Rattle.std.specs.Str.{bytes_eq}
use Rattle.std.specs.Cmp.Lexicographic.{bytes_decides}
use Rattle.std.specs.Io.KnownBytes.{Appends}
use Rattle.esdk_base.specs.Streams.{EntropyState, SinkState, SourceState}
use Rattle.context_codec.specs.Context.{IsAscending, KeyValue, has_key}
use Rattle.context_codec.specs.KeySet.{has, with_keys}
use Rattle.context_codec.specs.Parts.{holds, is_among, keys_of, only_of}
use Rattle.context_codec.proofs.KeySets.{Contains-from_has, has-with_keys}
use Rattle.context_codec.proofs.Members.{Contains-filter, Contains-filter_back, passes_from}
use Rattle.keyring_trait.specs.Laws.{IsEnough}
use Rattle.keyring_trait.specs.Manager.{ManagerMeaning}
use Rattle.keyring_trait.specs.Materials.{EncMaterialsValue}
use Rattle.keyring_trait.specs.Unlocking.{Unlocks}
use Rattle.keyring_trait.specs.Wrapping.{WrapKeyValue, active, ivs_of}
use Rattle.keyring_trait.proofs.Made.{made_is_wrapped}
use Rattle.keyring_trait.proofs.Unlocking.{given_is}
use Rattle.message_format.specs.Judgement.{content, judged}
use Rattle.message_format.proofs.WrittenMessages.{text_released}
use Rattle.stream_seal.specs.Start.{message_of, start_refusal, drawn_id, drawn_rest}
use Rattle.esdk_encrypt.specs.Told.{drawn_materials}
use Rattle.esdk_decrypt.specs.Laws.{IsWrittenFor, Written, written_message}
use Rattle.esdk_decrypt.specs.Told.{Reader}
use Rattle.esdk_decrypt.proofs.RoundTrip.{written_judged, written_unlocked}
use Rattle.reseal_core.specs.Front.{AreSound}
use Rattle.reseal_core.specs.Laws.{IsRotated, ReadsAs, ReadsNew, new_writer}
use Rattle.reseal_core.specs.Reseal.{Reseals, ResealsInput}
use Rattle.reseal_core.specs.Told.{resealing_told}
use Rattle.reseal_core.proofs.NewMaterials.{CanSeal, have_ivs, key_long, limits_of_count, materials, writable}
use Rattle.reseal_core.proofs.WholeInputs.{all_resealed}

-- ---- the pairs that are to be given

-- a key is among those of the pairs exactly where they hold it
has_keys : (ps : List KeyValue) (key : List ℕ) → has (keys_of ps) key ≡ holds ps key
has_keys [] key = refl
has_keys (p ∷ ps) key = ap (λ (b : Bool). bytes_eq key p.0 || b) (has_keys ps key)

one_of : (a b : Bool) → (a || b) ≡ true → (a ≡ true) ⊎ (b ≡ true)
one_of true b e = inl refl
one_of false b e = inr e

-- Who is given what the old message's readers have to be given, and what the new manager demands, is given enough for the new message.
enough_still : (c : List KeyValue) (required demands : List (List ℕ)) (given : List KeyValue) → IsAscending c → IsEnough c required given
    → ((key : List ℕ) → Contains demands key → holds given key ≡ true) → IsEnough c (with_keys (keys_of (only_of required c)) demands) given
enough_still c required demands given up enough demanded = record { ascending = enough.ascending; required_given = by_key; others = enough.others }
  where
    given_held : (p : KeyValue) → Contains c p → holds given p.0 ≡ true → Contains given p
    given_held p listed held =
        subst (λ (ps : List KeyValue). Contains ps p) (sym (given_is c given required up enough)) (Contains-filter (λ q. holds given q.0) c p listed held)

    by_key : (p : KeyValue) → Contains c p → is_among (with_keys (keys_of (only_of required c)) demands) p ≡ true → Contains given p
    by_key p listed among = elim (one_of (has (keys_of (only_of required c)) p.0) (has demands p.0) (sym (has-with_keys (keys_of (only_of required c)) demands p.0) ∙ among)) [
      | inl own ↦
          (let found = passes_from (has_key p.0) (only_of required c) (sym (has_keys (only_of required c) p.0) ∙ own) in
          let parts = Contains-filter_back (is_among required) c found.at found.listed in
          let same : p.0 ≡ found.at.0 = (bytes_decides p.0 found.at.0).0 found.passing in
          enough.required_given p listed (ap (λ (k : List ℕ). list_any (bytes_eq k) required) same ∙ parts.1))
      | inr more ↦ given_held p listed (demanded p.0 (Contains-from_has demands p.0 more))
    ]

-- ---- the new message

module _ (m : Written) (keys : List WrapKeyValue) (old : ManagerMeaning) (size : ℕ) (drawn : List ℕ) where
  abbrev pub new_materials : EncMaterialsValue
  new_materials = materials keys old size drawn m.context (only_of m.required m.context)

  abbrev pub renewed : Written
  renewed = record {
    text = m.text;
    context = m.context;
    required = new_materials.required;
    size = size;
    key = new_materials.key;
    entries = new_materials.entries;
    id = drawn_id drawn;
  }

  module _ (can : CanSeal keys old size drawn m.context (only_of m.required m.context) m.text) where
    -- it is written for each reader who has one of the new keys
    pub for_new : (writers : List WrapKeyValue) (before : Reader) → IsWrittenFor before writers m → (reader : Reader) → ReadsNew m keys old.demands size reader → IsWrittenFor reader (active keys) renewed
    for_new writers before was reader reads = record {
      writable = writable keys old size drawn m.context (only_of m.required m.context) m.text can;
      unreserved = was.unreserved;
      limits = limits_of_count keys old size drawn m.context (only_of m.required m.context) m.text can reader.settings reads.allowed;
      wrapped = (made_is_wrapped keys reader.keys m.context new_materials.key (ivs_of (length (active keys)) (drop 32 (drawn_rest drawn))) reads.writer reads.own
          (have_ivs keys old size drawn m.context (only_of m.required m.context) m.text can) (key_long keys old size drawn m.context (only_of m.required m.context) m.text can)
          reads.apart reads.written reads.held reads.shared).0;
      enough = enough_still m.context m.required old.demands reader.given was.writable.context.ascending reads.enough reads.demanded;
      given = reads.given;
    }

    reads_new : (writers : List WrapKeyValue) (reader : Reader) → IsWrittenFor reader writers renewed → ReadsAs reader (written_message renewed) m.text m.context size
    reads_new writers reader for = record {
      unlocked = (only_of new_materials.required m.context, new_materials.key, written_unlocked reader writers renewed for);
      whole = written_judged reader writers renewed for;
      text_is = ap content (written_judged reader writers renewed for) ∙ text_released m.text size can.wide;
    }

-- ---- what a written message is resealed to

same_parts : (a b c d : List KeyValue) (k l : List ℕ) → Unlocks a c k ≡ Unlocks b d l → (a ≡ b) × (c ≡ d)
same_parts a b c d k l e = (cc, cc)

module _ (reader : Reader) (writers keys : List WrapKeyValue) (m : Written) (old new : ManagerMeaning) (size : ℕ) (input taken : SourceState) (output put : SinkState) (entropy spent : EntropyState) (context : List KeyValue)
    (for : IsWrittenFor reader writers m) (wide : 1 ≤ size) (narrow : size < 2 ^ 32) (told : input.left ≡ Some (written_message m)) where
  pub rotated : ResealsInput (resealing_told reader keys old new size) input taken output put entropy spent context → (context ≡ m.context) × IsRotated m keys old.demands size output put
  rotated d =
      let r : Reseals (resealing_told reader keys old new size) d.drawn input taken output put context = d.is in
      let all = all_resealed reader keys old new size (written_message m) d.drawn input taken output put context told r in
      let whole_is = same_parts context m.context r.only (only_of m.required m.context) r.key m.key (sym all.unlocked ∙ written_unlocked reader writers m for) in
      let text_is : content (judged r.bytes reader.settings (Unlocks context r.only r.key)) ≡ m.text =
      ap content (sym all.same) ∙ ap content (written_judged reader writers m for) ∙ text_released m.text m.size for.writable.some in
      let given : r.materials ≡ new_materials m keys old size d.drawn =
      r.has.given.1 ∙ (λ i. drawn_materials (new_writer keys old size (whole_is.0 i) (whole_is.1 i)) (drawn_rest d.drawn)) in
      let can : CanSeal keys old size d.drawn m.context (only_of m.required m.context) m.text = record {
        wide = wide;
        narrow = narrow;
        count = d.drew.count;
        sound = subst AreSound given r.has.sound;
        begins = subst (λ (x : EncMaterialsValue). start_refusal x None (drawn_id d.drawn) ≡ None) given r.has.begins;
        room = omega (arith, r.room, ap length text_is);
      } in (
        whole_is.0,
        record {
          new = renewed m keys old size d.drawn;
          gained = subst (λ (t : List ℕ). Appends output.written put.written (message_of (new_materials m keys old size d.drawn) size (drawn_id d.drawn) t)) text_is
              (subst (λ (x : EncMaterialsValue). Appends output.written put.written (message_of x size (drawn_id d.drawn) (content (judged r.bytes reader.settings (Unlocks context r.only r.key))))) given r.gained);
          written = for_new m keys old size d.drawn can writers reader for;
          reads = λ other reads. reads_new m keys old size d.drawn can (active keys) other (for_new m keys old size d.drawn can writers reader for other reads);
        },
      )
