-- The message that is sealed is whole under its wrapping key, and has its text.
use Rattle.std.proofs.Common.{◌≡◌, ◌∙◌, ℕ, ◌≤◌, List, [], ◌∷◌, length, take, drop, refl, sym, ap, arith, rules, inl, inr}
use Rattle.std.specs.Prelude.{Contains}
use Rattle.std.proofs.lemmas.List.{length-drop, length-take}
use Rattle.std.proofs.lemmas.List.Elements.{All-cons, All-nil}
use Rattle.header_codec.specs.Header.{no_limits}
use Rattle.context_codec.proofs.Members.{Contains-head, Contains-cases, Contains-nil}
use Rattle.edk_codec.specs.Entry.{IsEntry}
use Rattle.keyring_trait.specs.Laws.{AreApart, AreWrapped, IsEnough, IsSameKey}
use Rattle.keyring_trait.specs.Unlocking.{Unlocks}
use Rattle.keyring_trait.specs.Wrapping.{WrapKeyValue, made, wrap}
use Rattle.keyring_trait.proofs.Made.{made_is_wrapped}
use Rattle.message_format.specs.Message.{IsWritable}
use Rattle.message_format.specs.Judgement.{Judged, content, judged}
use Rattle.message_format.specs.Laws.{IsWithinLimits, whole_of_text}
use Rattle.message_format.proofs.RoundTrip.{unlocks_written}
use Rattle.message_format.proofs.WrittenMessages.{message_is, text_released}
use Rattle.stream_seal.specs.Start.{message_of}
use Rattle.esdk_gen.specs.Generator.{gen_context, generator_key, generator_materials, message_with}
use Rattle.esdk_gen.specs.Opening.{IsWholeUnder, unlocked_under}
use Rattle.esdk_gen.proofs.Materials.{gen_is_context, gen_is_entry, gen_short}

-- one wrapping key is apart from none but others
one_apart : (w : WrapKeyValue) → AreApart (w ∷ []) (w ∷ [])
one_apart w u v wrote read names spaces = same (is w u wrote) (is w v read)
  where
    is : (x y : WrapKeyValue) → Contains (x ∷ []) y → x ≡ y
    is x y listed = elim (Contains-cases x [] y listed) [ inl e ↦ e | inr later ↦ absurd (Contains-nil y later) ]

    same : w ≡ u → w ≡ v → IsSameKey u v
    same e f = let g : u ≡ v = sym e ∙ f in record { namespace = ap (λ (x : WrapKeyValue). x.namespace) g; name = ap (λ (x : WrapKeyValue). x.name) g; key = ap (λ (x : WrapKeyValue). x.key) g }

module _ (key data_key iv id text : List ℕ) (long : length data_key ≡ 32) (twelve : length iv ≡ 12) (id_long : length id ≡ 32) (few : length text ≤ 67108864) where
  writable : IsWritable text gen_context [] 4096 data_key (made (generator_key key ∷ []) gen_context data_key (iv ∷ [])) id
  writable = record {
    some = omega arith;
    narrow = omega arith;
    short = omega (arith, few);
    context = gen_is_context;
    held = search rules;
    entries_some = omega arith;
    entries_few = omega arith;
    entries_are = All-cons IsEntry (wrap (generator_key key) gen_context iv data_key) [] (gen_is_entry key data_key iv long twelve) (All-nil IsEntry);
    entries_end = gen_short key data_key iv id long twelve id_long;
    key_long = long;
    id_long = id_long;
  }

  wrapped : AreWrapped (generator_key key ∷ []) (generator_key key ∷ []) gen_context data_key (made (generator_key key ∷ []) gen_context data_key (iv ∷ []))
  wrapped =
      (made_is_wrapped (generator_key key ∷ []) (generator_key key ∷ []) gen_context data_key (iv ∷ []) (generator_key key) (generator_key key)
      (record { enough = refl; long = All-cons (λ (i : List ℕ). length i ≡ 12) iv [] twelve (All-nil (λ (i : List ℕ). length i ≡ 12)) }) long (one_apart (generator_key key)) (Contains-head (generator_key key) []) (Contains-head (generator_key key) [])
      (record { namespace = refl; name = refl; key = refl })).0

  limits : IsWithinLimits no_limits 4096 (made (generator_key key ∷ []) gen_context data_key (iv ∷ []))
  limits = record { max_keys = tt; max_unit = tt }

  enough : IsEnough gen_context [] []
  enough = record { ascending = search rules; required_given = λ p listed among. absurd cc; others = λ p listed. absurd (Contains-nil p listed) }

  unlocks : unlocked_under key (message_of (generator_materials key data_key iv) 4096 id text) ≡ Unlocks gen_context [] data_key
  unlocks =
      unlocks_written text gen_context [] 4096 data_key (made (generator_key key ∷ []) gen_context data_key (iv ∷ [])) id no_limits (generator_key key ∷ []) (generator_key key ∷ []) [] []
      writable limits wrapped refl enough (λ k listed. absurd (Contains-nil k listed))

  judges : judged (message_of (generator_materials key data_key iv) 4096 id text) no_limits (unlocked_under key (message_of (generator_materials key data_key iv) 4096 id text)) ≡ whole_of_text text 4096
  judges =
      ap (judged (message_of (generator_materials key data_key iv) 4096 id text) no_limits) unlocks
      ∙ message_is no_limits text gen_context [] 4096 data_key (made (generator_key key ∷ []) gen_context data_key (iv ∷ [])) id gen_context writable limits

  pub is_whole : IsWholeUnder key (message_of (generator_materials key data_key iv) 4096 id text) text
  is_whole = record {
    context = gen_context;
    only = [];
    data_key = data_key;
    unlocked = unlocks;
    whole = ap (λ (j : Judged). j.verdict) judges;
    released = ap content judges ∙ text_released text 4096 (omega arith);
    few = few;
  }

-- the message of these random bytes
pub with_is_whole : (key random text : List ℕ) → length random ≡ 76 → length text ≤ 67108864 → IsWholeUnder key (message_with key random text) text
unfolding message_with
with_is_whole key random text long few =
    is_whole key (take 32 (drop 32 random)) (drop 64 random) (take 32 random) text
    (omega (arith, length-take 32 (drop 32 random), length-drop 32 random, long))
    (omega (arith, length-drop 64 random, long))
    (omega (arith, length-take 32 random, long)) few
