-- What comes of asking a manager for the materials of a message; and what it bears, once a run is
-- over, of what it served: one line more at the most.
use Rattle.std.specs.Prelude.{◌≡◌, ℕ, List, ◌∷◌, [], ◌++◌, length, true, ⊤, ◌⊎◌, Option, Result}
use Rattle.std.specs.Prelude.{MatchResult}
use Rattle.stream_seal.specs.Start.{drawn_rest}
use Rattle.esdk_fields.specs.declared.refusals.Outside.TheVariants as outsides
use Rattle.esdk_base.specs.Streams.{EntropyState}
use Rattle.keyring_trait.specs.declared.journal.JournalLine.{JournalLine}
use Rattle.keyring_trait.specs.declared.journal.Kind.TheVariants.{Seal}
use Rattle.keyring_trait.specs.declared.manager_errors.ManagerError.TheVariants as managers
use Rattle.keyring_trait.specs.declared.served.Served.{Served}
use Rattle.keyring_trait.specs.Manager.{ManagerNow}
use Rattle.keyring_trait.specs.Materials.{EncMaterialsValue}
use Rattle.keyring_trait.specs.Wrapping.{WrapKeyValue, active}
use Rattle.esdk_encrypt.specs.declared.errors.EncryptError.{EncryptError}
use Rattle.esdk_encrypt.specs.declared.errors.EncryptError.TheVariants as errors
use Rattle.esdk_encrypt.specs.Encrypt.{EncryptAsked, Drew, EntropyFails, ManagerGivesNothing}
use Rattle.esdk_encrypt.specs.Encrypt.{EncryptLacksMemory}

-- ---- the materials

-- What a manager's `wraps` says of it: as many of the keys that it tells wrap, and where it is
-- plain it is fresh.
pub record CountsWraps (n : ManagerNow) : Type 0 where
  pub told : (keys : List WrapKeyValue) → n.tells keys → length (active keys) ≡ n.meaning.wraps
  pub plain : n.meaning.plain ≡ true → n.meaning.fresh ≡ true

-- Bytes were drawn, and the manager gave materials for them.
pub record MaterialsWereGiven (asked : EncryptAsked) (entropy spent : EntropyState) (drawn : List ℕ)
    (materials : EncMaterialsValue) : Type 0 where
  pub drew : Drew asked.wraps entropy spent drawn
  pub given : asked.gives (drawn_rest drawn) materials

-- Why there are none: a fill failed, and the manager wasn't asked; or it gave nothing for the bytes
-- drawn. `unasked` says that the manager is as before. Nothing is said here of input and output.
abbrev pub IsNotGiven : EncryptAsked → EntropyState → EntropyState → Type 0 → EncryptError → Type 0
IsNotGiven asked entropy spent unasked (errors.Outside outsides.EntropyFault) =
    EntropyFails entropy spent ⊤ unasked
IsNotGiven asked entropy spent unasked (errors.Outside outsides.KeyringFault) =
    ManagerGivesNothing asked entropy spent managers.KeyringFault ⊤
IsNotGiven asked entropy spent unasked (errors.Outside outside) = ⊥
IsNotGiven asked entropy spent unasked (errors.Refusal refusal) =
    ManagerGivesNothing asked entropy spent (managers.Refusal refusal) ⊤
IsNotGiven asked entropy spent unasked errors.Memory = EncryptLacksMemory asked entropy spent ⊤

-- ---- what it bears

-- the lines that it bore
abbrev pub BearsAsMany : ManagerNow → ManagerNow → Type 0
BearsAsMany old new = (lines : List JournalLine) → old.bears lines → new.bears lines

-- a line of materials served to encrypt, at this moment, a text that has this length where it is
-- declared
abbrev pub seal_line : ℕ → Served → ℕ → Option ℕ → JournalLine
seal_line session served now size = record {
  session = session;
  kind = Seal;
  served = served;
  now = now;
  length = size;
}

-- and such a line more
pub record BearsOneMore (old new : ManagerNow) (now : ℕ) (size : Option ℕ) : Type 0 where
  pub served : Served
  pub bears : (lines : List JournalLine) (session : ℕ) → old.bears lines
      → new.bears (lines ++ seal_line session served now size ∷ [])

-- It served materials once for a message that was written, and once at the most for one that
-- wasn't.
abbrev pub BearsAtMostOne : {T E : Type 0} → ManagerNow → ManagerNow → ℕ → Option ℕ → Result T E
    → Type 0
BearsAtMostOne old new now size result =
    MatchResult result
    (λ _. BearsOneMore old new now size)
    (λ _. BearsAsMany old new ⊎ BearsOneMore old new now size)
