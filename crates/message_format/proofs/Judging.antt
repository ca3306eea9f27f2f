-- The judgement, case by case.
use Rattle.std.proofs.Common.{◌≡◌, ℕ, List, Some, None, ap}
use Rattle.esdk_fields.specs.declared.faults.Fault.{Fault}
use Rattle.esdk_fields.specs.Place.{Place, start}
use Rattle.esdk_fields.specs.Reading.{Reading, Read, Refused, Wanting}
use Rattle.context_codec.specs.Context.{KeyValue}
use Rattle.header_codec.specs.declared.settings.Settings.{Settings}
use Rattle.header_codec.specs.Header.{HeaderValue}
use Rattle.header_codec.specs.Table.{HeaderFields, header}
use Rattle.suite_table.specs.Keys.{derived}
use Rattle.keyring_trait.specs.Unlocking.{Unlocking, Unlocks}
use Rattle.body_format.specs.declared.verdicts.Verdict.TheVariants.{Going, Faulty}
use Rattle.body_format.specs.Body.{judged_body}
use Rattle.message_format.specs.Judgement.{Judged, locked, opened_as, lock_fault, header_of, judged_lock, judged_header, judged_reading, judged}

pub judged_is : (b : List ℕ) (settings : Settings) (a : Unlocking) (r : Reading HeaderFields) → header settings (start b) ≡ r → judged b settings a ≡ judged_reading b settings a r
unfolding judged
judged_is b settings a r e = ap (judged_reading b settings a) e

pub judged_refused : (b : List ℕ) (settings : Settings) (a : Unlocking) (fault : Fault) (at : ℕ) → header settings (start b) ≡ Refused fault at → judged b settings a ≡ locked (Faulty fault)
judged_refused b settings a fault at e = judged_is b settings a (Refused fault at) e

pub judged_wanting : (b : List ℕ) (settings : Settings) (a : Unlocking) → header settings (start b) ≡ Wanting → judged b settings a ≡ locked Going
judged_wanting b settings a e = judged_is b settings a Wanting e

pub judged_read : (b : List ℕ) (settings : Settings) (a : Unlocking) (parts : HeaderFields) (body : Place) → header settings (start b) ≡ Read parts body → judged b settings a ≡ judged_header settings (header_of b parts) body a
judged_read b settings a parts body e = judged_is b settings a (Read parts body) e

-- the body of this header, as it is judged under this data key
abbrev pub body_of : Settings → HeaderValue → List ℕ → Place → Judged
body_of settings h key body = opened_as (judged_body h.content settings.max_unit (derived h.suite key h.message_id) h.message_id body)

pub judged_opened : (settings : Settings) (h : HeaderValue) (body : Place) (whole only : List KeyValue) (key : List ℕ) → lock_fault h only key ≡ None
    → judged_header settings h body (Unlocks whole only key) ≡ body_of settings h key body
judged_opened settings h body whole only key e = ap (judged_lock settings h key body) e

pub judged_locked : (settings : Settings) (h : HeaderValue) (body : Place) (whole only : List KeyValue) (key : List ℕ) (fault : Fault) → lock_fault h only key ≡ Some fault
    → judged_header settings h body (Unlocks whole only key) ≡ locked (Faulty fault)
judged_locked settings h body whole only key fault e = ap (judged_lock settings h key body) e
