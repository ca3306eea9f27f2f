-- A header's lock is unlocked as the header is.
use Rattle.std.proofs.Common.{◌≡◌, ℕ, Option, subst}
use Rattle.header_codec.specs.Header.{HeaderValue, lock_of}
use Rattle.keyring_trait.specs.Materials.{DecMaterialsValue}
use Rattle.message_format.specs.Judgement.{lock_fault}
use Rattle.message_format.specs.declared.unlock_errors.UnlockError.{UnlockError}
use Rattle.message_format.specs.declared.unlock_errors.UnlockError.TheVariants as locks
use Rattle.message_format.specs.Unlocking.{KeepsLock}
use Rattle.stream_open.specs.declared.unlocked.Unlocked.{Unlocked}
use Rattle.stream_open.specs.Unlocking.{IsBegun}

begun : (u : Unlocked) (h : HeaderValue) (max_unit : Option ℕ) (m : DecMaterialsValue) → IsBegun u (lock_of h) max_unit m → IsBegun u h max_unit m
unfolding lock_fault
begun u h max_unit m b = record {
  opens = b.opens;
  whole = b.whole;
  only = b.only;
  key = b.key;
  id = b.id;
  content = b.content;
  limit = b.limit;
  first = b.first;
  going = b.going;
  held = b.held;
  out = b.out;
  reserved = b.reserved;
}

kept : (h : HeaderValue) (m : DecMaterialsValue) (error : UnlockError) → KeepsLock (lock_of h) m error → KeepsLock h m error
unfolding lock_fault
kept h m (locks.Fault fault) cause = cause
kept h m locks.KeyringFault cause = cause
kept h m locks.Memory cause = cause

pub begun_lock : (u : Unlocked) (h lock : HeaderValue) (max_unit : Option ℕ) (m : DecMaterialsValue) → lock ≡ lock_of h → IsBegun u lock max_unit m → IsBegun u h max_unit m
begun_lock u h lock max_unit m is b = begun u h max_unit m (subst (λ (l : HeaderValue). IsBegun u l max_unit m) is b)

pub kept_lock : (h lock : HeaderValue) (m : DecMaterialsValue) (error : UnlockError) → lock ≡ lock_of h → KeepsLock lock m error → KeepsLock h m error
kept_lock h lock m error is cause = kept h m error (subst (λ (l : HeaderValue). KeepsLock l m error) is cause)
