-- A manager that is asked for materials, and serves them once.
use Rattle.std.proofs.Common.{◌≡◌, ℕ, List, Option, Result, Ok, Err, inr, subst, sym}
use Rattle.esdk_base.specs.Streams.{EntropyState}
use Rattle.keyring_trait.specs.declared.journal.Kind.TheVariants.{Seal}
use Rattle.keyring_trait.specs.declared.manager_errors.ManagerError.{ManagerError}
use Rattle.keyring_trait.specs.declared.manager_errors.ManagerError.TheVariants as managers
use Rattle.keyring_trait.specs.Manager.{ManagerNow, BearsOn, enc_served}
use Rattle.keyring_trait.specs.Materials.{EncMaterialsValue}
use Rattle.esdk_encrypt.specs.declared.errors.EncryptError.{EncryptError}
use Rattle.esdk_encrypt.specs.Asking.{BearsAtMostOne, BearsOneMore, IsNotGiven}
use Rattle.esdk_encrypt.specs.Encrypt.{EncryptAsked, Drew, ManagerGivesNot}

-- it gave none for the bytes drawn, and the run says so
pub not_given : (asked : EncryptAsked) (entropy spent : EntropyState) (drawn : List ℕ) (unasked : Type 0) (error : ManagerError) (named : EncryptError) → Drew asked.wraps entropy spent drawn
    → asked.gives_none error → ManagerGivesNot error named → IsNotGiven asked entropy spent unasked named
not_given asked entropy spent drawn unasked (managers.Refusal refusal) named drew none is =
    subst (λ (e : EncryptError). IsNotGiven asked entropy spent unasked e) (sym is) (record { drawn = drawn; drew = drew; cause = none; same = tt })
not_given asked entropy spent drawn unasked managers.KeyringFault named drew none is =
    subst (λ (e : EncryptError). IsNotGiven asked entropy spent unasked e) (sym is) (record { drawn = drawn; drew = drew; cause = none; same = tt })
not_given asked entropy spent drawn unasked (managers.Fault fault) named drew none is = absurd is
not_given asked entropy spent drawn unasked managers.Memory named drew none is =
    subst (λ (e : EncryptError). IsNotGiven asked entropy spent unasked e) (sym is) (record { drawn = drawn; drew = drew; same = tt })

module _ (old new : ManagerNow) (now : ℕ) (size : Option ℕ) where
  -- it gave these materials
  pub bears_given : (r : Result EncMaterialsValue ManagerError) (m : EncMaterialsValue) → r ≡ Ok m → BearsOn old new Seal now size enc_served r → BearsOneMore old new now size
  bears_given r m is bears = record {
    served = m.served;
    bears = subst (λ (s : Result EncMaterialsValue ManagerError). BearsOn old new Seal now size enc_served s) is bears;
  }

  pub bears_done : {T E : Type 0} (r : Result T E) → BearsOneMore old new now size → BearsAtMostOne old new now size r
  bears_done (Ok done) bears = bears
  bears_done (Err error) bears = inr bears
