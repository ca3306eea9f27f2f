-- A written message is judged whole, and has its text; its fronts release the frames that are whole.
use Rattle.std.proofs.Common.{◌≡◌, ℕ, ◌+◌, ◌-◌, ◌*◌, ◌<◌, ◌≤◌, Bool, true, false, List, [], length, take, min, sym, ap, ◌∙◌, arith, inl, inr}
use Rattle.std.specs.Prelude.{nat_le}
use Rattle.std.proofs.Math.Dec.{leb}
use Rattle.std.proofs.lemmas.List.Concat.{concat_is}
use Rattle.std.proofs.lemmas.Bool.{cases_lt, le-leb, lt-leb}
use Rattle.std.proofs.Math.Nat.{zero-div}
use Rattle.std.proofs.lemmas.List.{length-take, take-take}
use Rattle.esdk_fields.specs.Place.{Place, start, cut}
use Rattle.esdk_fields.specs.Reading.{Read}
use Rattle.esdk_fields.proofs.Fronts.{value_from, wanting_before_value}
use Rattle.context_codec.specs.Context.{KeyValue}
use Rattle.edk_codec.specs.Entry.{Entry}
use Rattle.header_codec.specs.declared.settings.Settings.{Settings}
use Rattle.header_codec.proofs.Whole.{size_within}
use Rattle.header_codec.specs.Header.{HeaderValue}
use Rattle.header_codec.specs.Table.{HeaderFields, header}
use Rattle.header_codec.proofs.Order.{IsSequential-header}
use Rattle.context_codec.specs.Parts.{only_of, stored_in}
use Rattle.keyring_trait.specs.Unlocking.{Unlocks}
use Rattle.body_format.specs.declared.verdicts.Verdict.TheVariants.{Going}
use Rattle.body_format.specs.Body.{beside_content}
use Rattle.body_format.specs.Written.{IsFramed, frame_count, pieces}
use Rattle.body_format.proofs.BodyLaws.{framed_whole}
use Rattle.body_format.proofs.WrittenBodies.{joined_all, joined_pieces}
use Rattle.message_format.specs.Message.{header_body, under, message, IsWritable}
use Rattle.message_format.specs.Judgement.{Judged, opened_as, judged, judged_header, header_of, content}
use Rattle.message_format.specs.Laws.{IsWithinLimits, whole_of_text, frames_in, body_start}
use Rattle.message_format.proofs.Bodies.{body_front}
use Rattle.message_format.proofs.Judging.{judged_read, judged_wanting, judged_opened}
use Rattle.message_format.proofs.WrittenHeads.{written, body_place, length-message, begins_written, header_found, written_opens}

is_framed : (text : List ℕ) (c : List KeyValue) (required : List (List ℕ)) (size : ℕ) (key : List ℕ) (entries : List Entry) (id : List ℕ) → IsWritable text c required size key entries id → IsFramed size text
is_framed text c required size key entries id w = record { some = w.some; narrow = w.narrow; few = w.short }

-- ---- all of it

pub message_is : (settings : Settings) (text : List ℕ) (c : List KeyValue) (required : List (List ℕ)) (size : ℕ) (key : List ℕ) (entries : List Entry) (id : List ℕ) (whole : List KeyValue)
    → IsWritable text c required size key entries id → IsWithinLimits settings size entries
    → judged (message text c required size key entries id) settings (Unlocks whole (only_of required c) key) ≡ whole_of_text text size
message_is settings text c required size key entries id whole w limits =
    let b = message text c required size key entries id in
    let h = written c required size key entries id in
    let body = body_place text c required size key entries id in
    let begins = begins_written settings text c required size key entries id w limits in
    judged_read b settings (Unlocks whole (only_of required c) key) begins.parts body begins.read
    ∙ ap (λ (h : HeaderValue). judged_header settings h body (Unlocks whole (only_of required c) key)) (header_found settings b h body begins)
    ∙ judged_opened settings h body whole (only_of required c) key (written_opens c required size key entries id)
    ∙ ap opened_as (framed_whole size (under key id) text settings.max_unit (length (header_body c required size key entries id) + 16) (is_framed text c required size key entries id w))

-- ---- a front of it

-- nothing is whole yet where the body hasn't begun
none_before : (text : List ℕ) (size count start n : ℕ) → n < start → pieces size text (frames_in size count (n - start)) ≡ []
none_before text size count start n h =
    let none : n - start ≡ 0 = omega arith in
    let no_frames : min (count - 1) 0 ≡ 0 = omega arith in
    ap (λ (k : ℕ). pieces size text (frames_in size count k)) none ∙ ap (λ (k : ℕ). pieces size text (min (count - 1) k)) (zero-div (size + beside_content)) ∙ ap (pieces size text) no_frames

-- the header that was read is the same, once its tag has come
pub header_same : (settings : Settings) (b : List ℕ) (n : ℕ) (parts : HeaderFields) (end : Place) → header settings (start (take n b)) ≡ Read parts end → header_of (take n b) parts ≡ header_of b parts
header_same settings b n parts end e =
    let within : parts.size ≤ n = omega (arith, size_within settings (take n b) parts end e, length-take n b) in
    ap (λ (r : List ℕ). value (record { suite = parts.opening.suite; message_id = parts.opening.id; stored = stored_in parts.context; entries = parts.entries; content = parts.content; commitment = parts.commitment; raw = r; iv = parts.iv; tag = parts.tag }))
    (take-take parts.size n b within)
  where
    value : HeaderValue → HeaderValue
    value h = h

early_front : (settings : Settings) (text : List ℕ) (c : List KeyValue) (required : List (List ℕ)) (size : ℕ) (key : List ℕ) (entries : List Entry) (id : List ℕ) (whole : List KeyValue) (n : ℕ)
    → IsWritable text c required size key entries id → IsWithinLimits settings size entries → n < body_start c required size key entries id
    → judged (take n (message text c required size key entries id)) settings (Unlocks whole (only_of required c) key)
    ≡ record { unlocked = false; units = pieces size text (frames_in size (frame_count (length text) size) (n - body_start c required size key entries id)); verdict = Going }
early_front settings text c required size key entries id whole n w limits h =
    let b = message text c required size key entries id in
    let body = body_place text c required size key entries id in
    let begins = begins_written settings text c required size key entries id w limits in
    judged_wanting (take n b) settings (Unlocks whole (only_of required c) key) (wanting_before_value (header settings) b begins.parts body n (IsSequential-header settings) begins.read h)
    ∙ ap (λ (units : List (List ℕ)). record { unlocked = false; units = units; verdict = Going }) (sym (none_before text size (frame_count (length text) size) (body_start c required size key entries id) n h))

late_front : (settings : Settings) (text : List ℕ) (c : List KeyValue) (required : List (List ℕ)) (size : ℕ) (key : List ℕ) (entries : List Entry) (id : List ℕ) (whole : List KeyValue) (n : ℕ)
    → IsWritable text c required size key entries id → IsWithinLimits settings size entries → body_start c required size key entries id ≤ n → n < length (message text c required size key entries id)
    → judged (take n (message text c required size key entries id)) settings (Unlocks whole (only_of required c) key)
    ≡ record { unlocked = true; units = pieces size text (frames_in size (frame_count (length text) size) (n - body_start c required size key entries id)); verdict = Going }
late_front settings text c required size key entries id whole n w limits low high =
    let b = message text c required size key entries id in
    let h = written c required size key entries id in
    let body = body_place text c required size key entries id in
    let begins = begins_written settings text c required size key entries id w limits in
    let read : header settings (start (take n b)) ≡ Read begins.parts (cut n body) = value_from (header settings) b begins.parts body n (IsSequential-header settings) begins.read low in
    let inside : n < body.at + length body.left = omega (arith, length-message text c required size key entries id) in
    judged_read (take n b) settings (Unlocks whole (only_of required c) key) begins.parts (cut n body) read
    ∙ ap (λ (h : HeaderValue). judged_header settings h (cut n body) (Unlocks whole (only_of required c) key)) (header_same settings b n begins.parts (cut n body) read ∙ header_found settings b h body begins)
    ∙ judged_opened settings h (cut n body) whole (only_of required c) key (written_opens c required size key entries id)
    ∙ ap opened_as (body_front settings.max_unit size (under key id) text (length (header_body c required size key entries id) + 16) n (is_framed text c required size key entries id w) low inside)

pub front_is : (settings : Settings) (text : List ℕ) (c : List KeyValue) (required : List (List ℕ)) (size : ℕ) (key : List ℕ) (entries : List Entry) (id : List ℕ) (whole : List KeyValue) (n : ℕ)
    → IsWritable text c required size key entries id → IsWithinLimits settings size entries → n < length (message text c required size key entries id)
    → judged (take n (message text c required size key entries id)) settings (Unlocks whole (only_of required c) key)
    ≡ record { unlocked = nat_le (body_start c required size key entries id) n; units = pieces size text (frames_in size (frame_count (length text) size) (n - body_start c required size key entries id)); verdict = Going }
front_is settings text c required size key entries id whole n w limits high =
    let begin = body_start c required size key entries id in
    elim (cases_lt n begin) [
      | inl early ↦ early_front settings text c required size key entries id whole n w limits early ∙ ap unlocked (sym (lt-leb begin n early))
      | inr late ↦ late_front settings text c required size key entries id whole n w limits late high ∙ ap unlocked (sym (le-leb begin n late))
    ]
  where
    unlocked : Bool → Judged
    unlocked b = record { unlocked = b; units = pieces size text (frames_in size (frame_count (length text) size) (n - body_start c required size key entries id)); verdict = Going }

-- ---- what is released

pub text_released : (text : List ℕ) (size : ℕ) → 1 ≤ size → content (whole_of_text text size) ≡ text
text_released text size some = concat_is (pieces size text (frame_count (length text) size)) ∙ joined_all size text some

pub front_released : (text : List ℕ) (size m : ℕ) (unlocked : Bool) → content (record { unlocked = unlocked; units = pieces size text m; verdict = Going }) ≡ take (m * size) text
front_released text size m unlocked = concat_is (pieces size text m) ∙ joined_pieces size text m
