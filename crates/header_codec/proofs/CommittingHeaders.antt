-- A written header that commits to its data key: its length, its limits, and that it is read back.
use Rattle.std.proofs.Common.{◌≡◌, ℕ, ◌+◌, ◌≤◌, Bool, true, false, List, ◌++◌, length, replicate, Option, Some, None, refl, subst}
use Rattle.std.specs.Prelude.{IfSome, if◌then◌else◌}
use Rattle.esdk_fields.specs.declared.refusals.Refusal.{Refusal}
use Rattle.esdk_fields.specs.declared.refusals.Refusal.TheVariants.{TooManyDataKeys}
use Rattle.context_codec.specs.Context.{KeyValue}
use Rattle.edk_codec.specs.Entry.{Entry}
use Rattle.header_codec.specs.declared.settings.Settings.{Settings}
use Rattle.header_codec.specs.Header.{latest_end, authentication_text}
use Rattle.esdk_fields.specs.Limits.{is_over}
use Rattle.header_codec.specs.Table.{BeginsWith}
use Rattle.header_codec.specs.Written.{AreHeaderParts, parts_with, committing, written_header, written_value, end_refusal, header_refusal, keys_end}
use Rattle.esdk_fields.proofs.Limited.{within_limit}
use Rattle.header_codec.proofs.WrittenHeaders.{ends_in_time, length-written, written_is_read}

-- the body ends 37 bytes behind the data keys
pub length-committing : (id : List ℕ) (stored : List KeyValue) (entries : List Entry) (frame : ℕ) (commitment : List ℕ) → length commitment ≡ 32
    → length (written_header id stored entries frame commitment) ≡ keys_end (committing id) stored entries + 37
length-committing id stored entries frame commitment len = length-written (parts_with id stored entries frame commitment) len

-- where nothing is refused, the number of the entries and their end keep the limits
pub record KeepsLimits (id : List ℕ) (stored : List KeyValue) (entries : List Entry) (max_keys : Option ℕ) : Type 0 where
  pub few : IfSome max_keys (λ most. length entries ≤ most)
  pub end : keys_end (committing id) stored entries ≤ latest_end
  pub untaken : end_refusal (committing id) stored entries ≡ None

both_fail : (over : Bool) (first : Refusal) (second : Option Refusal) → (if over then Some first else second) ≡ None → (over ≡ false) × (second ≡ None)
both_fail true first second e = absurd cc
both_fail false first second e = (refl, e)

pub limits_kept : (id : List ℕ) (stored : List KeyValue) (entries : List Entry) (max_keys : Option ℕ) → header_refusal id stored entries max_keys ≡ None → KeepsLimits id stored entries max_keys
limits_kept id stored entries max_keys e =
    let t = both_fail (is_over max_keys (length entries)) (TooManyDataKeys (length entries)) (end_refusal (committing id) stored entries) e in
    record { few = within_limit max_keys (length entries) t.0; end = ends_in_time (committing id) stored entries t.1; untaken = t.1 }

pub committing_is_read : (settings : Settings) (id : List ℕ) (stored : List KeyValue) (entries : List Entry) (frame : ℕ) (commitment tag more : List ℕ)
    → AreHeaderParts id stored entries frame commitment → length tag ≡ 16
    → header_refusal id stored entries settings.max_keys ≡ None → IfSome settings.max_unit (λ most. frame ≤ most)
    → BeginsWith settings (written_header id stored entries frame commitment ++ tag ++ more) (written_value id stored entries frame commitment tag)
    (record { at = length (written_header id stored entries frame commitment) + 16; left = more })
unfolding authentication_text
committing_is_read settings id stored entries frame commitment tag more parts len taken unit =
    let limits = limits_kept id stored entries settings.max_keys taken in
    let body = written_header id stored entries frame commitment in
    subst (λ (n : ℕ). BeginsWith settings (body ++ tag ++ more) (written_value id stored entries frame commitment tag) (record { at = length body + n; left = more })) len
    (written_is_read settings (parts_with id stored entries frame commitment) (replicate 12 0) tag more parts refl len tt limits.untaken limits.few unit)
