-- The materials of a new message, of keys that are told and of the bytes drawn: what can be written with them.
use Rattle.std.proofs.Common.{◌≡◌, ℕ, ◌+◌, ◌-◌, ◌*◌, ◌^◌, ◌<◌, ◌≤◌, List, length, drop, None, refl, sym, subst, arith}
use Rattle.std.specs.Prelude.{IfSome}
use Rattle.std.proofs.lemmas.List.{length-drop, length-take-le}
use Rattle.context_codec.specs.Context.{KeyValue}
use Rattle.context_codec.specs.Parts.{stored_of}
use Rattle.header_codec.specs.declared.settings.Settings.{Settings}
use Rattle.header_codec.proofs.CommittingHeaders.{limits_kept}
use Rattle.keyring_trait.specs.Manager.{ManagerMeaning}
use Rattle.keyring_trait.specs.Materials.{EncMaterialsValue}
use Rattle.keyring_trait.specs.Wrapping.{AreIvs, WrapKeyValue, active, ivs_of}
use Rattle.keyring_trait.proofs.Back.{ivs_are}
use Rattle.keyring_trait.proofs.Made.{length-made}
use Rattle.message_format.specs.Message.{IsWritable}
use Rattle.message_format.specs.Laws.{IsWithinLimits}
use Rattle.stream_seal.specs.Start.{start_refusal, drawn_id, drawn_rest}
use Rattle.esdk_encrypt.specs.Told.{drawn_materials}
use Rattle.reseal_core.specs.Front.{AreSound}
use Rattle.reseal_core.specs.Laws.{NewMessageIsAllowed, new_writer}

module _ (keys : List WrapKeyValue) (sealing : ManagerMeaning) (size : ℕ) (drawn : List ℕ) (whole only : List KeyValue) where
  abbrev pub materials : EncMaterialsValue
  materials = drawn_materials (new_writer keys sealing size whole only) (drawn_rest drawn)

  -- What is known of them, and of a text that a message has room for.
  pub record CanSeal (text : List ℕ) : Type 0 where
    pub wide : 1 ≤ size
    pub narrow : size < 2 ^ 32
    pub count : length drawn ≡ 64 + 12 * length (active keys)
    pub sound : AreSound materials
    pub begins : start_refusal materials None (drawn_id drawn) ≡ None
    pub room : length text ≤ (2 ^ 32 - 1) * size

  module _ (text : List ℕ) (can : CanSeal text) where
    pub key_long : length materials.key ≡ 32
    key_long = length-take-le 32 (drop 32 drawn) (omega (arith, length-drop 32 drawn, can.count))

    ivs_long : length (drop 32 (drawn_rest drawn)) ≡ 12 * length (active keys)
    ivs_long = omega (arith, length-drop 32 (drop 32 drawn), length-drop 32 drawn, can.count)

    pub have_ivs : AreIvs keys (ivs_of (length (active keys)) (drop 32 (drawn_rest drawn)))
    have_ivs = ivs_are keys (length (active keys)) (drop 32 (drawn_rest drawn)) refl ivs_long

    pub writable : IsWritable text whole materials.required size materials.key materials.entries (drawn_id drawn)
    writable = record {
      some = can.wide;
      narrow = can.narrow;
      short = can.room;
      context = can.sound.context;
      held = can.sound.parts.held;
      entries_some = can.sound.parts.some;
      entries_few = omega (arith, can.sound.parts.few);
      entries_are = can.sound.parts.each;
      entries_end = (limits_kept (drawn_id drawn) (stored_of materials.required whole) materials.entries None can.begins).end;
      key_long = key_long;
      id_long = length-take-le 32 drawn (omega (arith, can.count));
    }

    -- a reader's limits that so many entries keep, this message keeps
    pub limits_of_count : (settings : Settings) → NewMessageIsAllowed settings size (length (active keys)) → IsWithinLimits settings size materials.entries
    limits_of_count settings allowed = record {
      max_keys = subst (λ (n : ℕ). IfSome settings.max_keys (λ most. n ≤ most)) (sym (length-made keys whole materials.key (ivs_of (length (active keys)) (drop 32 (drawn_rest drawn))) have_ivs.enough)) allowed.max_keys;
      max_unit = allowed.max_unit;
    }
