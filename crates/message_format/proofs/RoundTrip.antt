-- Who holds a key that the writer wrapped under, and is given what it needs, reads what was written.
use Rattle.std.proofs.Common.{◌≡◌, ℕ, ◌<◌, ◌≤◌, false, List, length, take, sym, ap, ◌∙◌, inl, inr}
use Rattle.std.proofs.lemmas.Bool.{cases_lt}
use Rattle.esdk_fields.specs.Place.{start, cut}
use Rattle.esdk_fields.specs.Reading.{Read}
use Rattle.esdk_fields.proofs.Fronts.{value_from, wanting_before_value}
use Rattle.context_codec.specs.Context.{KeyValue}
use Rattle.edk_codec.specs.Entry.{Entry}
use Rattle.header_codec.specs.declared.settings.Settings.{Settings}
use Rattle.header_codec.specs.Header.{HeaderValue}
use Rattle.header_codec.specs.Table.{header}
use Rattle.header_codec.proofs.Order.{IsSequential-header}
use Rattle.context_codec.specs.Parts.{holds, only_of}
use Rattle.keyring_trait.specs.Wrapping.{WrapKeyValue}
use Rattle.keyring_trait.specs.Unlocking.{Unlocking, Unlocks, reserved_key}
use Rattle.keyring_trait.specs.Laws.{AreWrapped, IsEnough, AreGiven}
use Rattle.keyring_trait.proofs.Unlocking.{unlocks_stored}
use Rattle.message_format.specs.Message.{message, IsWritable}
use Rattle.message_format.specs.Judgement.{judged}
use Rattle.message_format.specs.Reading.{unlock_header, unlocking, read}
use Rattle.message_format.specs.Laws.{IsWithinLimits, whole_of_text, front_of_text, body_start}
use Rattle.message_format.proofs.Judging.{judged_wanting}
use Rattle.message_format.proofs.ReadingOn.{unlocking_is}
use Rattle.message_format.proofs.WrittenHeads.{written, body_place, begins_written, header_found}
use Rattle.message_format.proofs.WrittenMessages.{message_is, header_same, front_is}

pub unlocks_written : (text : List ℕ) (c : List KeyValue) (required : List (List ℕ)) (size : ℕ) (key : List ℕ) (entries : List Entry) (id : List ℕ) (settings : Settings)
    (writers readers : List WrapKeyValue) (given : List KeyValue) (asked : List (List ℕ)) → IsWritable text c required size key entries id → IsWithinLimits settings size entries
    → AreWrapped writers readers c key entries → holds c reserved_key ≡ false → IsEnough c required given → AreGiven asked given
    → unlocking (message text c required size key entries id) settings given asked readers ≡ Unlocks c (only_of required c) key
unlocks_written text c required size key entries id settings writers readers given asked w limits wrapped unreserved enough asked_given =
    let b = message text c required size key entries id in
    let h = written c required size key entries id in
    let body = body_place text c required size key entries id in
    let begins = begins_written settings text c required size key entries id w limits in
    unlocking_is b settings given asked readers (Read begins.parts body) begins.read
    ∙ ap (λ (h : HeaderValue). unlock_header h given asked readers) (header_found settings b h body begins)
    ∙ unlocks_stored writers readers c given required asked key entries w.context unreserved wrapped enough asked_given

pub reads_written : (text : List ℕ) (c : List KeyValue) (required : List (List ℕ)) (size : ℕ) (key : List ℕ) (entries : List Entry) (id : List ℕ) (settings : Settings)
    (writers readers : List WrapKeyValue) (given : List KeyValue) (asked : List (List ℕ)) → IsWritable text c required size key entries id → IsWithinLimits settings size entries
    → AreWrapped writers readers c key entries → holds c reserved_key ≡ false → IsEnough c required given → AreGiven asked given
    → read (message text c required size key entries id) settings given asked readers ≡ whole_of_text text size
unfolding read
reads_written text c required size key entries id settings writers readers given asked w limits wrapped unreserved enough asked_given =
    ap (judged (message text c required size key entries id) settings)
    (unlocks_written text c required size key entries id settings writers readers given asked w limits wrapped unreserved enough asked_given)
    ∙ message_is settings text c required size key entries id c w limits

-- ---- a front of it

-- the header isn't whole, and no answer is looked at
early_read : (text : List ℕ) (c : List KeyValue) (required : List (List ℕ)) (size : ℕ) (key : List ℕ) (entries : List Entry) (id : List ℕ) (settings : Settings) (n : ℕ) (a : Unlocking)
    → IsWritable text c required size key entries id → IsWithinLimits settings size entries → n < body_start c required size key entries id
    → judged (take n (message text c required size key entries id)) settings a ≡ judged (take n (message text c required size key entries id)) settings (Unlocks c (only_of required c) key)
early_read text c required size key entries id settings n a w limits h =
    let b = message text c required size key entries id in
    let begins = begins_written settings text c required size key entries id w limits in
    let wants = wanting_before_value (header settings) b begins.parts (body_place text c required size key entries id) n (IsSequential-header settings) begins.read h in
    judged_wanting (take n b) settings a wants ∙ sym (judged_wanting (take n b) settings (Unlocks c (only_of required c) key) wants)

-- the header is whole, and unlocks to the same
late_read : (text : List ℕ) (c : List KeyValue) (required : List (List ℕ)) (size : ℕ) (key : List ℕ) (entries : List Entry) (id : List ℕ) (settings : Settings)
    (writers readers : List WrapKeyValue) (given : List KeyValue) (asked : List (List ℕ)) (n : ℕ) → IsWritable text c required size key entries id → IsWithinLimits settings size entries
    → AreWrapped writers readers c key entries → holds c reserved_key ≡ false → IsEnough c required given → AreGiven asked given → body_start c required size key entries id ≤ n
    → unlocking (take n (message text c required size key entries id)) settings given asked readers ≡ Unlocks c (only_of required c) key
late_read text c required size key entries id settings writers readers given asked n w limits wrapped unreserved enough asked_given low =
    let b = message text c required size key entries id in
    let h = written c required size key entries id in
    let body = body_place text c required size key entries id in
    let begins = begins_written settings text c required size key entries id w limits in
    let read : header settings (start (take n b)) ≡ Read begins.parts (cut n body) = value_from (header settings) b begins.parts body n (IsSequential-header settings) begins.read low in
    unlocking_is (take n b) settings given asked readers (Read begins.parts (cut n body)) read
    ∙ ap (λ (h : HeaderValue). unlock_header h given asked readers) (header_same settings b n begins.parts (cut n body) read ∙ header_found settings b h body begins)
    ∙ unlocks_stored writers readers c given required asked key entries w.context unreserved wrapped enough asked_given

pub reads_front : (text : List ℕ) (c : List KeyValue) (required : List (List ℕ)) (size : ℕ) (key : List ℕ) (entries : List Entry) (id : List ℕ) (settings : Settings)
    (writers readers : List WrapKeyValue) (given : List KeyValue) (asked : List (List ℕ)) (n : ℕ) → IsWritable text c required size key entries id → IsWithinLimits settings size entries
    → AreWrapped writers readers c key entries → holds c reserved_key ≡ false → IsEnough c required given → AreGiven asked given → n < length (message text c required size key entries id)
    → read (take n (message text c required size key entries id)) settings given asked readers ≡ front_of_text text c required size key entries id n
unfolding read
reads_front text c required size key entries id settings writers readers given asked n w limits wrapped unreserved enough asked_given within =
    let b = message text c required size key entries id in
    let same : judged (take n b) settings (unlocking (take n b) settings given asked readers) ≡ judged (take n b) settings (Unlocks c (only_of required c) key) =
    elim (cases_lt n (body_start c required size key entries id)) [
      | inl early ↦ early_read text c required size key entries id settings n (unlocking (take n b) settings given asked readers) w limits early
      | inr late ↦ ap (judged (take n b) settings) (late_read text c required size key entries id settings writers readers given asked n w limits wrapped unreserved enough asked_given late)
    ] in
    same ∙ front_is settings text c required size key entries id c n w limits within
