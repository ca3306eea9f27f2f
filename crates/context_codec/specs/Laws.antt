-- What the laws of this crate say of contexts and the bytes that spell them.
use Rattle.std.specs.Prelude.{◌≡◌, ◌↔◌, ◌⊎◌, ℕ, ◌≤◌, Bool, true, false, List, [], length, Some}
use Rattle.std.specs.Prelude.{None, Contains, find, option_map}
use Rattle.std.specs.Ordering.{nat_cmp}
use Rattle.std.specs.declared.cmp.Ordering.TheVariants.{Less}
use Rattle.std.specs.Cmp.Lexicographic.{slice_cmp}
use Rattle.esdk_fields.specs.declared.faults.ContextFault.TheVariants.{Length, Utf8, Duplicate}
use Rattle.esdk_fields.specs.Bytes.{AreBytes}
use Rattle.context_codec.specs.Context.{KeyValue, ctx_text, IsAscending, IsContext}
use Rattle.context_codec.specs.Split.{split, context_fault, SpellsContext}
use Rattle.context_codec.specs.KeySet.{AreAscendingKeys, with_key, with_keys}
use Rattle.context_codec.specs.Parts.{holds, whole_of}
use Rattle.context_codec.specs.Spelling.{IsSpelling, AreTexts, AreDistinct, IsSpelledContext}

-- bytes that a length field of two bytes can stand before
pub record IsField (bytes : List ℕ) : Type 0 where
  pub fits : AreBytes bytes
  pub short : length bytes ≤ 65535

-- The reader splits the bytes into these pairs exactly where the bytes are their spelling, in any
-- order of the keys.
abbrev pub SplitsSpellings : Type 0
SplitsSpellings = (bytes : List ℕ) → IsField bytes → (pairs : List KeyValue)
    → (split bytes ≡ Some pairs) ↔ IsSpelling bytes pairs

-- A context is read exactly where the bytes are a spelling of its pairs, in some order.
abbrev pub ReadsSpelledContexts : Type 0
ReadsSpelledContexts = (bytes : List ℕ) → IsField bytes → (context : List KeyValue)
    → SpellsContext bytes context ↔ IsSpelledContext bytes context

-- Where nothing is wrong with the bytes they spell a context, and only there.
abbrev pub SpellsSomeContext : Type 0
SpellsSomeContext = (bytes : List ℕ)
    → (context_fault bytes ≡ None) ↔ ((context : List KeyValue) × SpellsContext bytes context)

-- The same bytes spell no two contexts.
abbrev pub SpellsOneContext : Type 0
SpellsOneContext = (bytes : List ℕ) (c d : List KeyValue) → SpellsContext bytes c
    → SpellsContext bytes d → c ≡ d

-- Nothing is wrong exactly where the bytes spell texts with distinct keys.
abbrev pub TakesTexts : Type 0
TakesTexts = (bytes : List ℕ) → IsField bytes
    → (context_fault bytes ≡ None) ↔ ((pairs : List KeyValue) × IsSpelling bytes pairs
    × AreTexts pairs × AreDistinct pairs)

-- Length: the bytes are the spelling of no pairs at all.
abbrev pub RefusesOtherBytes : Type 0
RefusesOtherBytes = (bytes : List ℕ) → IsField bytes
    → (context_fault bytes ≡ Some Length) ↔ ((pairs : List KeyValue) → ¬ (IsSpelling bytes pairs))

-- Utf8: they spell pairs, and some key or value is not UTF-8.
abbrev pub RefusesOtherTexts : Type 0
RefusesOtherTexts = (bytes : List ℕ) → IsField bytes
    → (context_fault bytes ≡ Some Utf8)
    ↔ ((pairs : List KeyValue) × IsSpelling bytes pairs × (¬ (AreTexts pairs)))

-- Duplicate: they spell texts, and some key stands twice.
abbrev pub RefusesDuplicates : Type 0
RefusesDuplicates = (bytes : List ℕ) → IsField bytes
    → (context_fault bytes ≡ Some Duplicate)
    ↔ ((pairs : List KeyValue) × IsSpelling bytes pairs × AreTexts pairs
    × (¬ (AreDistinct pairs)))

-- The text of a context spells it.
abbrev pub ContextReadsBack : Type 0
ContextReadsBack =
    (context : List KeyValue) → IsContext context → SpellsContext (ctx_text context) context

-- A set with one more key holds that key and the others, and no more.
abbrev pub HoldsOneMoreKey : Type 0
HoldsOneMoreKey = (keys : List (List ℕ)) (key other : List ℕ)
    → Contains (with_key keys key) other ↔ ((other ≡ key) ⊎ Contains keys other)

-- With one more key the keys of a set still ascend.
abbrev pub AscendsWithOneMoreKey : Type 0
AscendsWithOneMoreKey = (keys : List (List ℕ)) (key : List ℕ) → AreAscendingKeys keys
    → AreAscendingKeys (with_key keys key)

-- Keys that ascend, put one by one into the empty set, are the set of just these keys.
abbrev pub KeepsAscendingKeys : Type 0
KeepsAscendingKeys = (keys : List (List ℕ)) → AreAscendingKeys keys → with_keys [] keys ≡ keys

-- The keys ascend, and the pairs are the stored ones and those of the given ones whose keys are not
-- stored.
pub record IsWholeContext (stored given whole : List KeyValue) : Type 0 where
  pub ascending : IsAscending whole
  pub pairs : (p : KeyValue) → Contains whole p
      ↔ (Contains stored p ⊎ (Contains given p × (holds stored p.0 ≡ false)))

-- Stored and given pairs are joined to just that.
abbrev pub JoinsPairs : Type 0
JoinsPairs = (stored given : List KeyValue) → IsAscending stored → IsAscending given
    → IsWholeContext stored given (whole_of stored given)

-- The key fits, and no key below it does.
pub record IsLeastKey (Fits : List ℕ → Type 0) (key : List ℕ) : Type 0 where
  pub fits : Fits key
  pub least : (other : List ℕ) → Fits other → ¬ (slice_cmp nat_cmp other key ≡ Less)

-- The first key of a set that passes a test is the least that does.
abbrev pub FindsTheLeastKey : Type 0
FindsTheLeastKey = (test : List ℕ → Bool) (keys : List (List ℕ)) → AreAscendingKeys keys
    → (key : List ℕ)
    → (find test keys ≡ Some key) ↔ IsLeastKey (λ k. Contains keys k × (test k ≡ true)) key

-- So is the key of the first pair of a context whose key passes it.
abbrev pub FindsThePairOfTheLeastKey : Type 0
FindsThePairOfTheLeastKey = (test : List ℕ → Bool) (pairs : List KeyValue) → IsAscending pairs
    → (key : List ℕ)
    → (option_map (λ p. p.0) (find (λ p. test p.0) pairs) ≡ Some key)
    ↔ IsLeastKey (λ k. (holds pairs k ≡ true) × (test k ≡ true)) key
