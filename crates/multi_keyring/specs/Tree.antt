-- What a tree is to its callers, as a keyring.
-- AWS Encryption SDK Specification, "Multi-Keyring", OnEncrypt and OnDecrypt.
use Rattle.std.specs.Prelude.{ℕ, ◌+◌, ◌-◌, ◌^◌, min, nat_lt, Bool, true, ◌&&◌, List, [], ◌∷◌, ◌++◌}
use Rattle.std.specs.Prelude.{Option, Some, None, if◌then◌else◌}
use Rattle.std.specs.Option.{option_or}
use Rattle.keyring_trait.specs.Wrapping.{WrapKeyValue}
use Rattle.keyring_trait.specs.Keyring.{KeyringMeaning}
use Rattle.keyring_trait.specs.Uses.{KeyUse}
use Rattle.keyring_trait.specs.declared.ring_refusals.RingRefusal.{RingRefusal}
use Rattle.keyring_trait.specs.declared.ring_refusals.RingRefusal.TheVariants.{NoGenerator}
use Rattle.keyring_trait.specs.declared.ring_refusals.RingRefusal.TheVariants.{GeneratorHasKey}
use Rattle.raw_aes_keyring.specs.Keyring.{raw_meaning}
use Rattle.multi_keyring.specs.Forest.{Forest, Nil, RawThen, HandedThen, MultiThen}
use Rattle.multi_keyring.specs.declared.tree.Node.{Node}
use Rattle.multi_keyring.specs.declared.tree.Node.TheVariants.{Raw, Handed, Multi}

-- ---- keyrings in a row

-- the keys of the first, and then those of the others, where both are told
abbrev pub both_keys : Option (List WrapKeyValue) → Option (List WrapKeyValue)
    → Option (List WrapKeyValue)
both_keys None others = None
both_keys (Some keys) None = None
both_keys (Some keys) (Some others) = Some (keys ++ others)

-- the keys of all of them in order, where all tell theirs
abbrev pub all_keys : List KeyringMeaning → Option (List WrapKeyValue)
all_keys [] = Some []
all_keys (m ∷ ms) = both_keys m.keys (all_keys ms)

-- the uses of keys that the first shows, and then those that the others show, where both do
abbrev pub both_uses : Option (List KeyUse) → Option (List KeyUse) → Option (List KeyUse)
both_uses None others = None
both_uses (Some uses) None = None
both_uses (Some uses) (Some others) = Some (uses ++ others)

-- those that all of them show, in order, where all do
abbrev pub all_uses : List KeyringMeaning → Option (List KeyUse)
all_uses [] = Some []
all_uses (m ∷ ms) = both_uses m.uses (all_uses ms)

-- how many entries they make together
abbrev pub all_wraps : List KeyringMeaning → ℕ
all_wraps [] = 0
all_wraps (m ∷ ms) = m.wraps + all_wraps ms

-- how often they failed together
abbrev pub all_faults : List KeyringMeaning → ℕ
all_faults [] = 0
all_faults (m ∷ ms) = m.faults + all_faults ms

-- whether all of them are steady
abbrev pub all_steady : List KeyringMeaning → Bool
all_steady [] = true
all_steady (m ∷ ms) = m.steady && all_steady ms

-- what the first that refuses a data key handed to it refuses
abbrev pub first_refusal : List KeyringMeaning → Option RingRefusal
first_refusal [] = None
first_refusal (m ∷ ms) = option_or m.refuses_key (first_refusal ms)

-- what is refused where the first is to generate the data key, and the others are handed it
abbrev pub generator_refusal : List KeyringMeaning → Option RingRefusal
generator_refusal [] = Some NoGenerator
generator_refusal (generator ∷ children) = option_or generator.refuses_none (first_refusal children)

-- ---- a multi-keyring

-- A multi-keyring of these members, the first of which is its generator where it has one. It tells
-- their keys, where all tell theirs, and shows by which of them its calls went, where all show it;
-- makes their entries; and its faults are theirs. With a data
-- key handed to it a generator refuses, or else the first child that does. Without one it refuses
-- where it has no generator. No multi-keyring is made whose members make more than 64 entries, and
-- no keyring's number of entries changes. A contract that says what the members mean now says of
-- more than 64 that no keys are told and 64 entries are made.
abbrev pub joined_members : Bool → List KeyringMeaning → KeyringMeaning
joined_members has_generator members = record {
  keys = if nat_lt 64 (all_wraps members) then None else all_keys members;
  wraps = min (all_wraps members) 64;
  refuses_key = if has_generator then Some GeneratorHasKey else first_refusal members;
  refuses_none = if has_generator then generator_refusal members else Some NoGenerator;
  faults = all_faults members;
  steady = all_steady members && nat_lt (all_faults members) (2 ^ 64 - 1);
  uses = all_uses members;
}

-- ---- a tree

-- what the trees of a row mean, where it is known what the keyrings mean that were handed in
abbrev pub meanings : {P : Type 0} → (P → KeyringMeaning) → Forest P → List KeyringMeaning
meanings leaf Nil = []
meanings leaf (RawThen key f) = raw_meaning key ∷ meanings leaf f
meanings leaf (HandedThen keyring f) = leaf keyring ∷ meanings leaf f
meanings leaf (MultiThen has_generator members f) =
    joined_members has_generator (meanings leaf members) ∷ meanings leaf f

-- what a tree means
abbrev pub tree_meaning : {P : Type 0} → (P → KeyringMeaning) → Node P → KeyringMeaning
tree_meaning leaf (Raw key) = raw_meaning key
tree_meaning leaf (Handed keyring) = leaf keyring
tree_meaning leaf (Multi multi) = joined_members multi.value.0 (meanings leaf multi.value.1)

-- ---- leaves

-- what the leaves of the trees of a row mean, which are the raw keys and the keyrings that were
-- handed in, in order
abbrev pub leaves : {P : Type 0} → (P → KeyringMeaning) → Forest P → List KeyringMeaning
leaves leaf Nil = []
leaves leaf (RawThen key f) = raw_meaning key ∷ leaves leaf f
leaves leaf (HandedThen keyring f) = leaf keyring ∷ leaves leaf f
leaves leaf (MultiThen has_generator members f) = leaves leaf members ++ leaves leaf f

-- what the leaves of a tree mean
abbrev pub node_leaves : {P : Type 0} → (P → KeyringMeaning) → Node P → List KeyringMeaning
node_leaves leaf (Raw key) = raw_meaning key ∷ []
node_leaves leaf (Handed keyring) = leaf keyring ∷ []
node_leaves leaf (Multi multi) = leaves leaf multi.value.1
