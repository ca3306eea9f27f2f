-- Where a message is unlocked, and with what.
use Rattle.std.proofs.Common.{◌≡◌, ◌∙◌, ℕ, true, false, List, ◌++◌, Option, Some, None, refl, sym, ap}
use Rattle.esdk_fields.specs.declared.faults.Fault.{Fault}
use Rattle.esdk_fields.specs.Place.{Place, followed, start}
use Rattle.esdk_fields.specs.Reading.{Reading, Read, Refused, Wanting}
use Rattle.esdk_fields.proofs.Fronts.{value_stays}
use Rattle.header_codec.specs.declared.settings.Settings.{Settings}
use Rattle.header_codec.specs.Header.{HeaderValue}
use Rattle.header_codec.specs.Table.{HeaderFields, header}
use Rattle.header_codec.proofs.Order.{IsSequential-header}
use Rattle.keyring_trait.specs.Unlocking.{Unlocking, Refuses, Unlocks}
use Rattle.body_format.specs.declared.verdicts.Verdict.{Verdict}
use Rattle.body_format.specs.declared.verdicts.Verdict.TheVariants as verdicts
use Rattle.message_format.specs.Judgement.{Judged, header_of, judged, judged_lock, judged_reading, lock_fault, locked}
use Rattle.message_format.specs.Reading.{unlock_header}
use Rattle.message_format.proofs.Following.{header_stays, unlocking_stays}
use Rattle.message_format.proofs.Judging.{judged_is, judged_refused, judged_wanting}
use Rattle.message_format.proofs.ReadingOn.{read_goes_on, read_is, unlocking_is}
use Rattle.esdk_decrypt.specs.Told.{Reader, judged_by, unlocked_to}

-- a refused message isn't unlocked
refused_reading : (b : List ℕ) (settings : Settings) (fault : Fault) (h : Reading HeaderFields) → (judged_reading b settings (Refuses fault) h).unlocked ≡ false
refused_reading b settings fault (Read parts p) = refl
refused_reading b settings fault (Refused other at) = refl
refused_reading b settings fault Wanting = refl

pub refused_locked : (b : List ℕ) (settings : Settings) (fault : Fault) → (judged b settings (Refuses fault)).unlocked ≡ false
refused_locked b settings fault =
    ap (λ (j : Judged). j.unlocked) (judged_is b settings (Refuses fault) (header settings (start b)) refl) ∙ refused_reading b settings fault (header settings (start b))

-- a whole one is
whole_lock : (settings : Settings) (h : HeaderValue) (key : List ℕ) (p : Place) (fault : Option Fault) → (judged_lock settings h key p fault).verdict ≡ verdicts.Whole
    → (judged_lock settings h key p fault).unlocked ≡ true
whole_lock settings h key p None whole = refl
whole_lock settings h key p (Some fault) whole = absurd (cc whole)

whole_reading : (b : List ℕ) (settings : Settings) (answer : Unlocking) (h : Reading HeaderFields) → (judged_reading b settings answer h).verdict ≡ verdicts.Whole
    → (judged_reading b settings answer h).unlocked ≡ true
whole_reading b settings (Refuses fault) (Read parts p) whole = absurd (cc whole)
whole_reading b settings (Unlocks context only key) (Read parts p) whole = whole_lock settings (header_of b parts) key p (lock_fault (header_of b parts) only key) whole
whole_reading b settings answer (Refused fault at) whole = absurd (cc whole)
whole_reading b settings answer Wanting whole = absurd (cc whole)

pub whole_unlocked : (b : List ℕ) (settings : Settings) (answer : Unlocking) → (judged b settings answer).verdict ≡ verdicts.Whole → (judged b settings answer).unlocked ≡ true
whole_unlocked b settings answer whole =
    let is = judged_is b settings answer (header settings (start b)) refl in
    ap (λ (j : Judged). j.unlocked) is ∙ whole_reading b settings answer (header settings (start b)) (sym (ap (λ (j : Judged). j.verdict) is) ∙ whole)

-- ---- when more bytes follow

locked_reads : (reader : Reader) (b : List ℕ) (answer : Unlocking) (v : Verdict) → judged b reader.settings answer ≡ locked v → (judged b reader.settings answer).unlocked ≡ true → ⊥
locked_reads reader b answer v is e = let both : false ≡ true = sym (ap (λ (j : Judged). j.unlocked) is) ∙ e in cc both

unlocked_by : (reader : Reader) (b more : List ℕ) (h : Reading HeaderFields) → header reader.settings (start b) ≡ h → (judged b reader.settings (unlocked_to reader b)).unlocked ≡ true
    → unlocked_to reader (b ++ more) ≡ unlocked_to reader b
unlocked_by reader b more (Read parts p) is e =
    unlocking_is (b ++ more) reader.settings reader.given reader.required reader.keys (Read parts (followed p more))
    (value_stays (header reader.settings) b more parts p (IsSequential-header reader.settings) is)
    ∙ ap (λ (h : HeaderValue). unlock_header h reader.given reader.required reader.keys) (header_stays reader.settings b more parts p is)
    ∙ sym (unlocking_is b reader.settings reader.given reader.required reader.keys (Read parts p) is)
unlocked_by reader b more (Refused fault at) is e =
    absurd (locked_reads reader b (unlocked_to reader b) (verdicts.Faulty fault) (judged_refused b reader.settings (unlocked_to reader b) fault at is) e)
unlocked_by reader b more Wanting is e = absurd (locked_reads reader b (unlocked_to reader b) verdicts.Going (judged_wanting b reader.settings (unlocked_to reader b) is) e)

pub unlocked_on : (reader : Reader) (b more : List ℕ) → (judged_by reader b).unlocked ≡ true → unlocked_to reader (b ++ more) ≡ unlocked_to reader b
unlocked_on reader b more e = unlocked_by reader b more (header reader.settings (start b)) refl
    (sym (ap (λ (j : Judged). j.unlocked) (read_is b reader.settings reader.given reader.required reader.keys)) ∙ e)

pub stays_unlocked : (reader : Reader) (b more : List ℕ) → (judged_by reader b).unlocked ≡ true → (judged_by reader (b ++ more)).unlocked ≡ true
stays_unlocked reader b more e = unlocking_stays (judged_by reader) (read_goes_on reader.settings reader.given reader.required reader.keys) b more e
