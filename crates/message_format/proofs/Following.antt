-- What is said of bytes, and of the same bytes when more follow.
use Rattle.std.proofs.Common.{◌≡◌, ℕ, ◌≤◌, true, List, [], ◌++◌, length, Option, Some, None, refl, sym, ap, ◌∙◌}
use Rattle.std.proofs.lemmas.List.{take-append-le}
use Rattle.esdk_fields.specs.declared.faults.Fault.{Fault}
use Rattle.esdk_fields.specs.declared.faults.Fault.TheVariants.{TrailingBytes}
use Rattle.esdk_fields.specs.Place.{Place, start, followed}
use Rattle.esdk_fields.specs.Reading.{Reading, Read, Refused, Wanting}
use Rattle.esdk_fields.proofs.Fronts.{fault_stays, value_stays}
use Rattle.header_codec.specs.declared.settings.Settings.{Settings}
use Rattle.header_codec.specs.Header.{HeaderValue}
use Rattle.header_codec.specs.Table.{HeaderFields, header}
use Rattle.header_codec.proofs.Order.{IsSequential-header}
use Rattle.header_codec.proofs.Whole.{size_within}
use Rattle.suite_table.specs.Keys.{derived}
use Rattle.context_codec.specs.Parts.{stored_in}
use Rattle.keyring_trait.specs.Unlocking.{Unlocking, Refuses, Unlocks}
use Rattle.body_format.specs.declared.verdicts.Verdict.{Verdict}
use Rattle.body_format.specs.declared.verdicts.Verdict.TheVariants.{Going, Whole, Faulty}
use Rattle.message_format.specs.Judgement.{Judged, locked, opened_as, lock_fault, header_of, judged_lock, judged_header, judged_reading, judged}
use Rattle.message_format.specs.Laws.{FaultsStay, UnitsStay, UnlockingStays, RefusesTrailingBytes, FrontsGoOn}
use Rattle.message_format.proofs.Judging.{judged_is}
use Rattle.message_format.proofs.Bodies.{body_fault_stays, body_units_stay, body_trailing}

-- ---- two judgements

-- What is said of some bytes, and what is said when more have come.
pub record Follows (more : List ℕ) (before after : Judged) : Type 0 where
  pub fault : (fault : Fault) → before.verdict ≡ Faulty fault → after ≡ before
  pub units : (added : List (List ℕ)) × (after.units ≡ before.units ++ added)
  pub unlocked : before.unlocked ≡ true → after.unlocked ≡ true
  pub trailing : before.verdict ≡ Whole → 1 ≤ length more → after ≡ record { unlocked = true; units = before.units; verdict = Faulty TrailingBytes }

refused_follows : (more : List ℕ) (fault : Fault) → Follows more (locked (Faulty fault)) (locked (Faulty fault))
refused_follows more fault = record {
  fault = λ f e. refl;
  units = ([], refl);
  unlocked = λ e. absurd cc;
  trailing = λ e some. absurd cc;
}

going_follows : (more : List ℕ) (after : Judged) → Follows more (locked Going) after
going_follows more after = record {
  fault = λ f e. absurd cc;
  units = (after.units, refl);
  unlocked = λ e. absurd cc;
  trailing = λ e some. absurd cc;
}

-- ---- a body

body_follows : (settings : Settings) (h : HeaderValue) (key more : List ℕ) (p : Place)
    → Follows more (judged_lock settings h key p None) (judged_lock settings h key (followed p more) None)
body_follows settings h key more p = record {
  fault = λ f e. ap opened_as (body_fault_stays h.content settings.max_unit (derived h.suite key h.message_id) h.message_id p more f e);
  units = body_units_stay h.content settings.max_unit (derived h.suite key h.message_id) h.message_id p more;
  unlocked = λ e. refl;
  trailing = λ e some. ap opened_as (body_trailing h.content settings.max_unit (derived h.suite key h.message_id) h.message_id p more e some);
}

lock_follows : (settings : Settings) (h : HeaderValue) (key more : List ℕ) (p : Place) (lock : Option Fault)
    → Follows more (judged_lock settings h key p lock) (judged_lock settings h key (followed p more) lock)
lock_follows settings h key more p (Some fault) = refused_follows more fault
lock_follows settings h key more p None = body_follows settings h key more p

header_follows : (settings : Settings) (h : HeaderValue) (more : List ℕ) (p : Place) (a : Unlocking) → Follows more (judged_header settings h p a) (judged_header settings h (followed p more) a)
header_follows settings h more p (Refuses fault) = refused_follows more fault
header_follows settings h more p (Unlocks whole only key) = lock_follows settings h key more p (lock_fault h only key)

-- ---- all the bytes

-- the header stays what it is
pub header_stays : (settings : Settings) (b more : List ℕ) (parts : HeaderFields) (p : Place) → header settings (start b) ≡ Read parts p → header_of (b ++ more) parts ≡ header_of b parts
header_stays settings b more parts p e =
    ap (λ (r : List ℕ). value (record { suite = parts.opening.suite; message_id = parts.opening.id; stored = stored_in parts.context; entries = parts.entries; content = parts.content; commitment = parts.commitment; raw = r; iv = parts.iv; tag = parts.tag }))
    (take-append-le parts.size b more (size_within settings b parts p e))
  where
    value : HeaderValue → HeaderValue
    value h = h

-- where a header was read, the answer is the same
abbrev pub SameAnswer : Reading HeaderFields → Unlocking → Unlocking → Type 0
SameAnswer (Read parts p) a later = later ≡ a
SameAnswer (Refused fault at) a later = Unit {0}
SameAnswer Wanting a later = Unit {0}

follows_by : (b more : List ℕ) (settings : Settings) (a later : Unlocking) (r : Reading HeaderFields) → header settings (start b) ≡ r → SameAnswer r a later
    → Follows more (judged_reading b settings a r) (judged (b ++ more) settings later)
follows_by b more settings a later (Read parts p) e same =
    let after : judged (b ++ more) settings later ≡ judged_header settings (header_of (b ++ more) parts) (followed p more) later =
    judged_is (b ++ more) settings later (Read parts (followed p more)) (value_stays (header settings) b more parts p (IsSequential-header settings) e) in
    let is : judged (b ++ more) settings later ≡ judged_header settings (header_of b parts) (followed p more) a =
    after ∙ ap (λ (h : HeaderValue). judged_header settings h (followed p more) later) (header_stays settings b more parts p e) ∙ ap (judged_header settings (header_of b parts) (followed p more)) same in
    rw is (header_follows settings (header_of b parts) more p a)
follows_by b more settings a later (Refused fault at) e same =
    let is : judged (b ++ more) settings later ≡ locked (Faulty fault) = judged_is (b ++ more) settings later (Refused fault at) (fault_stays (header settings) b more fault at (IsSequential-header settings) e) in
    rw is (refused_follows more fault)
follows_by b more settings a later Wanting e same = going_follows more (judged (b ++ more) settings later)

pub follows : (b more : List ℕ) (settings : Settings) (a later : Unlocking) → SameAnswer (header settings (start b)) a later → Follows more (judged b settings a) (judged (b ++ more) settings later)
follows b more settings a later same =
    rw (judged_is b settings a (header settings (start b)) refl) (follows_by b more settings a later (header settings (start b)) refl same)

-- ---- the laws

-- what is said of each front follows
abbrev pub GoesOn : (List ℕ → Judged) → Type 0
GoesOn judgement = (b more : List ℕ) → Follows more (judgement b) (judgement (b ++ more))

pub faults_stay : (judgement : List ℕ → Judged) → GoesOn judgement → FaultsStay judgement
faults_stay judgement on = λ b more fault e. (on b more).fault fault e

pub units_stay : (judgement : List ℕ → Judged) → GoesOn judgement → UnitsStay judgement
units_stay judgement on = λ b more. (on b more).units

pub unlocking_stays : (judgement : List ℕ → Judged) → GoesOn judgement → UnlockingStays judgement
unlocking_stays judgement on = λ b more e. (on b more).unlocked e

pub trailing_refused : (judgement : List ℕ → Judged) → GoesOn judgement → RefusesTrailingBytes judgement
trailing_refused judgement on = λ b more e some. (on b more).trailing e some

going_before : (more : List ℕ) (before after : Judged) (v : Verdict) → Follows more before after → after.verdict ≡ Whole → 1 ≤ length more → before.verdict ≡ v → before.verdict ≡ Going
going_before more before after Going follows whole some e = e
going_before more before after Whole follows whole some e =
    let no : Faulty TrailingBytes ≡ Whole = sym (ap (λ (j : Judged). j.verdict) (follows.trailing e some)) ∙ whole in absurd cc
going_before more before after (Faulty fault) follows whole some e =
    let no : Faulty fault ≡ Whole = sym e ∙ sym (ap (λ (j : Judged). j.verdict) (follows.fault fault e)) ∙ whole in absurd cc

pub fronts_go_on : (judgement : List ℕ → Judged) → GoesOn judgement → FrontsGoOn judgement
fronts_go_on judgement on = λ b more whole some. going_before more (judgement b) (judgement (b ++ more)) (judgement b).verdict (on b more) whole some refl

pub judged_goes_on : (settings : Settings) (a : Unlocking) → GoesOn (λ b. judged b settings a)
judged_goes_on settings a = λ b more. follows b more settings a a (same (header settings (start b)))
  where
    same : (r : Reading HeaderFields) → SameAnswer r a a
    same (Read parts p) = refl
    same (Refused fault at) = tt
    same Wanting = tt
