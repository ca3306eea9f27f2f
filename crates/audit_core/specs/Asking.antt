-- What the leaves of a tree answer when each is asked about a header, whether they tell their keys
-- or not.
use Rattle.std.specs.Prelude.{◌≡◌, ◌⊎◌, ℕ, ◌++◌, Bool, List, [], map, All, length, ⊤}
use Rattle.std.specs.Prelude.{Option, Some, None, Ok}
use Rattle.esdk_fields.specs.Counts.{Rose}
use Rattle.context_codec.specs.Context.{KeyValue}
use Rattle.context_codec.specs.Parts.{only_given, whole_of}
use Rattle.edk_codec.specs.Entry.{Entry}
use Rattle.context_codec.specs.declared.joining.Joined.{Joined}
use Rattle.header_codec.specs.Header.{HeaderValue}
use Rattle.keyring_trait.specs.Keyring.{KeyringMeaning, KeyringGoes, Opens, FindsBy}
use Rattle.keyring_trait.specs.Uses.{AskedOnce}
use Rattle.keyring_trait.specs.Unlocking.{pair_offence}
use Rattle.multi_keyring.specs.LeafUnwrapping.{AnswersAt}
use Rattle.audit_core.specs.declared.errors.AuditError.{AuditError}
use Rattle.audit_core.specs.declared.errors.AuditError.TheVariants as errors
use Rattle.audit_core.specs.Openers.{numbers_of, unlocks}

-- What a leaf meant before it was asked and after, and the data key that it found.
pub record LeafAnswer : Type 0 where
  pub before : KeyringMeaning
  pub after : KeyringMeaning
  pub found : Option (List ℕ)

-- It answered as a keyring does that is asked once for the data key of these entries.
pub record IsAnswer (c : List KeyValue) (entries : List Entry) (a : LeafAnswer) : Type 0 where
  pub goes : KeyringGoes a.before a.after
  pub opens : Opens a.before a.after c entries a.found
  pub used : AskedOnce a.before.uses a.after.uses (FindsBy c entries (Ok a.found))

-- Nothing is wrong with the pairs. Each leaf was asked, in order, and answered; the openers are
-- those whose data key unlocks the header.
pub record NamesOpeners (old now : List KeyringMeaning) (h : HeaderValue) (given : List KeyValue)
    (openers : List ℕ) : Type 0 where
  pub sound : pair_offence h.stored given [] ≡ None
  pub answers : List LeafAnswer
  pub old_is : old ≡ map (λ a. a.before) answers
  pub now_is : now ≡ map (λ a. a.after) answers
  pub are : All (IsAnswer (whole_of h.stored given) h.entries) answers
  pub openers_are :
      openers ≡ numbers_of (λ a. unlocks h (only_given h.stored given) a.found) 1 answers

-- The pairs that the header stores and those that are given have nothing wrong, and are these.
pub record JoinsGivenPairs (h : HeaderValue) (given : List KeyValue) (pairs : Joined) : Type 0 where
  pub sound : pair_offence h.stored given [] ≡ None
  pub whole : pairs.whole ≡ whole_of h.stored given
  pub only : pairs.only ≡ only_given h.stored given

-- why they aren't joined: what is wrong with them, or want of memory
abbrev pub JoinsNone : HeaderValue → (given : List KeyValue) → AuditError → Type 0
JoinsNone h given (errors.Fault fault) = pair_offence h.stored given [] ≡ Some fault
JoinsNone h given errors.KeyringFault = ⊥
JoinsNone h given errors.Memory = ⊤

-- So far the first leaves were asked, so many, and these of them are openers.
pub record NamesFirst (old now : List KeyringMeaning) (h : HeaderValue) (whole only : List KeyValue)
    (count : ℕ) (openers : List ℕ) : Type 0 where
  pub answers : List LeafAnswer
  pub behind : List KeyringMeaning
  pub old_is : old ≡ map (λ a. a.before) answers ++ behind
  pub now_is : now ≡ map (λ a. a.after) answers ++ behind
  pub count_is : count ≡ length answers
  pub are : All (IsAnswer whole h.entries) answers
  pub openers_are : openers ≡ numbers_of (λ a. unlocks h only a.found) 1 answers

-- The leaf of this number answered, and its data key unlocks the header or it doesn't.
pub record TriesLeaf (number : ℕ) (old now : List KeyringMeaning) (h : HeaderValue)
    (whole only : List KeyValue) (is_opener : Bool) : Type 0 where
  pub found : Option (List ℕ)
  pub answers : AnswersAt number old now whole h.entries (Ok found)
  pub is : is_opener ≡ unlocks h only found

-- why one leaf has no answer: it failed, or memory ran out
abbrev pub TriesNot : KeyringMeaning → KeyringMeaning → AuditError → Type 0
TriesNot old new (errors.Fault fault) = ⊥
TriesNot old new errors.KeyringFault = Rose old.faults new.faults
TriesNot old new errors.Memory = ⊤

-- Why it isn't known who opens the message: what is wrong with the pairs, and then the tree is as
-- it was, which `unasked` says; or else a leaf failed; or memory ran out, with the tree as it was,
-- or with nothing wrong with the pairs.
abbrev pub NamesNone : KeyringMeaning → KeyringMeaning → HeaderValue → (given : List KeyValue)
    → (unasked : Type 0) → AuditError → Type 0
NamesNone old new h given unasked (errors.Fault fault) =
    (pair_offence h.stored given [] ≡ Some fault) × unasked
NamesNone old new h given unasked errors.KeyringFault =
    (pair_offence h.stored given [] ≡ None) × Rose old.faults new.faults
NamesNone old new h given unasked errors.Memory =
    unasked ⊎ (pair_offence h.stored given [] ≡ None)
