-- The header of a written message, its tag, and that it is read back.
use Rattle.std.proofs.Common.{◌≡◌, ℕ, ◌+◌, Bool, true, false, not, List, [], ◌++◌, length, replicate, Some, None, refl, sym, ap, ◌∙◌, arith}
use Rattle.std.specs.Prelude.{nat_lt, if◌then◌else◌}
use Rattle.std.specs.Str.{bytes_eq}
use Rattle.std.proofs.lemmas.Bool.{le-ltb}
use Rattle.std.proofs.lemmas.List.{length-append}
use Rattle.std.proofs.lemmas.Slice.Eq.{bytes_eq-Decides}
use Rattle.esdk_fields.specs.declared.refusals.Refusal.{Refusal}
use Rattle.esdk_fields.specs.declared.refusals.Refusal.TheVariants.{TooManyDataKeys, HeaderTooLong}
use Rattle.esdk_fields.specs.Place.{Place}
use Rattle.cipher_spec.specs.Gcm.{sealed, cipher_of}
use Rattle.cipher_spec.proofs.GcmLemmas.{length-tag_of}
use Rattle.context_codec.specs.Context.{KeyValue, ctx_text}
use Rattle.edk_codec.specs.Entry.{Entry}
use Rattle.header_codec.specs.declared.settings.Settings.{Settings}
use Rattle.header_codec.specs.Header.{HeaderValue, latest_end}
use Rattle.esdk_fields.specs.Limits.{is_over}
use Rattle.header_codec.specs.Table.{made_of, BeginsWith}
use Rattle.header_codec.specs.Written.{AreHeaderParts, committing, header_refusal, keys_end, written_value}
use Rattle.esdk_fields.proofs.Limited.{limit_within}
use Rattle.header_codec.proofs.CommittingHeaders.{committing_is_read}
use Rattle.suite_table.specs.declared.suite.Suite.{Suite}
use Rattle.suite_table.specs.declared.suite.Suite.TheVariants.{Committing}
use Rattle.suite_table.specs.Keys.{derived, commitment}
use Rattle.suite_table.proofs.KeyLemmas.{length-commitment}
use Rattle.context_codec.specs.Parts.{stored_of, only_of}
use Rattle.context_codec.proofs.Parts.{IsContext-stored_of}
use Rattle.context_codec.proofs.Stored.{stored_is}
use Rattle.body_format.specs.Written.{framed_body}
use Rattle.message_format.specs.Message.{header_tag, header_body, under, message, IsWritable}
use Rattle.message_format.specs.Judgement.{lock_fault, header_of}
use Rattle.message_format.specs.Laws.{IsWithinLimits}

-- ---- the tag

pub length-header_tag : (suite : Suite) (iv raw : List ℕ) (only : List KeyValue) (key id : List ℕ) → length (header_tag suite iv raw only key id) ≡ 16
unfolding header_tag sealed
length-header_tag suite iv raw only key id = length-tag_of (derived suite key id) iv (raw ++ ctx_text only) (cipher_of (derived suite key id) iv [])

-- ---- the header

-- the tag of the message
abbrev pub tag_in : List KeyValue → List (List ℕ) → ℕ → List ℕ → List Entry → List ℕ → List ℕ
tag_in c required size key entries id = header_tag Committing (replicate 12 0) (header_body c required size key entries id) (only_of required c) key id

-- the header as a value
abbrev pub written : List KeyValue → List (List ℕ) → ℕ → List ℕ → List Entry → List ℕ → HeaderValue
written c required size key entries id = written_value id (stored_of required c) entries size (commitment key id) (tag_in c required size key entries id)

parts_are : (text : List ℕ) (c : List KeyValue) (required : List (List ℕ)) (size : ℕ) (key : List ℕ) (entries : List Entry) (id : List ℕ) → IsWritable text c required size key entries id
    → AreHeaderParts id (stored_of required c) entries size (commitment key id)
parts_are text c required size key entries id w = record {
  id_len = w.id_long;
  is_context = IsContext-stored_of required c w.context;
  some = w.entries_some;
  few = w.entries_few;
  each = w.entries_are;
  content = (w.some, w.narrow);
  commitment_len = length-commitment key id;
}

none_refused : (a b : Bool) (first second : Refusal) → a ≡ false → b ≡ false → (if a then Some first else if b then Some second else None) ≡ None
none_refused true b first second e f = absurd cc
none_refused false true first second e f = absurd cc
none_refused false false first second e f = refl

taken : (settings : Settings) (text : List ℕ) (c : List KeyValue) (required : List (List ℕ)) (size : ℕ) (key : List ℕ) (entries : List Entry) (id : List ℕ) → IsWritable text c required size key entries id
    → IsWithinLimits settings size entries → header_refusal id (stored_of required c) entries settings.max_keys ≡ None
taken settings text c required size key entries id w limits =
    none_refused (is_over settings.max_keys (length entries)) (nat_lt latest_end (keys_end (committing id) (stored_of required c) entries)) (TooManyDataKeys (length entries)) (HeaderTooLong (keys_end (committing id) (stored_of required c) entries))
    (limit_within settings.max_keys (length entries) limits.max_keys) (le-ltb latest_end (keys_end (committing id) (stored_of required c) entries) w.entries_end)

-- ---- it is read back

pub length-message : (text : List ℕ) (c : List KeyValue) (required : List (List ℕ)) (size : ℕ) (key : List ℕ) (entries : List Entry) (id : List ℕ)
    → length (message text c required size key entries id) ≡ length (header_body c required size key entries id) + 16 + length (framed_body size (under key id) text)
unfolding message
length-message text c required size key entries id =
    let raw = header_body c required size key entries id in
    let tag = tag_in c required size key entries id in
    omega (arith, length-append (raw ++ tag) (framed_body size (under key id) text), length-append raw tag, length-header_tag Committing (replicate 12 0) raw (only_of required c) key id)

-- where the body of a message begins, and what stands there
abbrev pub body_place : List ℕ → List KeyValue → List (List ℕ) → ℕ → List ℕ → List Entry → List ℕ → Place
body_place text c required size key entries id = record { at = length (header_body c required size key entries id) + 16; left = framed_body size (under key id) text }

pub begins_written : (settings : Settings) (text : List ℕ) (c : List KeyValue) (required : List (List ℕ)) (size : ℕ) (key : List ℕ) (entries : List Entry) (id : List ℕ) → IsWritable text c required size key entries id
    → IsWithinLimits settings size entries → BeginsWith settings (message text c required size key entries id) (written c required size key entries id) (body_place text c required size key entries id)
unfolding message header_body
begins_written settings text c required size key entries id w limits =
    committing_is_read settings id (stored_of required c) entries size (commitment key id) (tag_in c required size key entries id) (framed_body size (under key id) text)
    (parts_are text c required size key entries id w) (length-header_tag Committing (replicate 12 0) (header_body c required size key entries id) (only_of required c) key id)
    (taken settings text c required size key entries id w limits) limits.max_unit

-- the header that begins the bytes is the one that is found in them
pub header_found : (settings : Settings) (b : List ℕ) (h : HeaderValue) (end : Place) (begins : BeginsWith settings b h end) → header_of b begins.parts ≡ h
header_found settings b h end begins = ap (made_of b begins.parts) (stored_is begins.parts.context h.stored begins.stored) ∙ sym begins.is

-- ---- it is unlocked

not_other : (a b : List ℕ) → a ≡ b → not (bytes_eq a b) ≡ false
not_other a b e = rw ((bytes_eq-Decides a b).1 e) refl

pub written_opens : (c : List KeyValue) (required : List (List ℕ)) (size : ℕ) (key : List ℕ) (entries : List Entry) (id : List ℕ) → lock_fault (written c required size key entries id) (only_of required c) key ≡ None
unfolding lock_fault header_body
written_opens c required size key entries id =
    rw (not_other (commitment key id) (commitment key id) refl, not_other (tag_in c required size key entries id) (tag_in c required size key entries id) refl) refl
