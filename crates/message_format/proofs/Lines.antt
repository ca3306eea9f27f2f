-- The judgement of any bytes, line by line.
use Rattle.std.proofs.Common.{◌≡◌, ◌≢◌, ℕ, ◌+◌, ◌-◌, Bool, true, false, not, List, length, drop, replicate, Some, None, refl, sym, ap, ◌∙◌, arith}
use Rattle.std.specs.Str.{bytes_eq}
use Rattle.std.proofs.lemmas.List.{length-take}
use Rattle.std.proofs.lemmas.Slice.Eq.{bytes_eq-Decides}
use Rattle.esdk_fields.specs.declared.contents.Content.{Content}
use Rattle.esdk_fields.specs.declared.faults.Fault.{Fault}
use Rattle.esdk_fields.specs.declared.faults.Fault.TheVariants.{Commitment, HeaderTag}
use Rattle.esdk_fields.specs.Place.{Place, start}
use Rattle.esdk_fields.specs.Reading.{Reading, Read, Refused, Wanting, reading_fault, value_of, bytes}
use Rattle.esdk_fields.proofs.Fronts.{left_is}
use Rattle.esdk_fields.proofs.Inverse.{field_is_read, read_same}
use Rattle.context_codec.specs.Context.{KeyValue}
use Rattle.header_codec.specs.declared.settings.Settings.{Settings}
use Rattle.header_codec.specs.Header.{HeaderValue, iv_text}
use Rattle.header_codec.specs.Table.{HeaderFields, header, header_iv}
use Rattle.header_codec.proofs.Order.{IsSequential-header}
use Rattle.header_codec.proofs.Steps.{header_is_read}
use Rattle.suite_table.specs.declared.suite.Suite.{Suite}
use Rattle.suite_table.specs.declared.suite.Suite.TheVariants.{Committing, Uncommitted}
use Rattle.suite_table.specs.Keys.{commitment}
use Rattle.keyring_trait.specs.Unlocking.{Unlocking, Refuses, Unlocks}
use Rattle.body_format.specs.Body.{judged_body}
use Rattle.body_format.specs.Table.{tabled_frames, tabled_block}
use Rattle.message_format.specs.Message.{header_tag}
use Rattle.message_format.specs.Judgement.{opened_as, is_committed, lock_fault, header_of, judged_header, judged}
use Rattle.message_format.specs.Laws.{Commits, body_start_of, body_key_of, tag_due, IsLineByLine}
use Rattle.message_format.proofs.Bodies.{frames_tabled, block_tabled}
use Rattle.message_format.proofs.Judging.{judged_refused, judged_wanting, judged_read, judged_opened, judged_locked}

-- ---- what is known of a reading

faulty_reading : {A : Type 0} (r : Reading A) (fault : Fault) → reading_fault r ≡ Some fault → (at : ℕ) × (r ≡ Refused fault at)
faulty_reading (Read x p) fault e = absurd cc
faulty_reading (Refused other at) fault e = (at, cc)
faulty_reading Wanting fault e = absurd cc

wanting_reading : {A : Type 0} (r : Reading A) → reading_fault r ≡ None → value_of r ≡ None → r ≡ Wanting
wanting_reading (Read x p) e f = absurd cc
wanting_reading (Refused fault at) e f = absurd cc
wanting_reading Wanting e f = refl

read_reading : {A : Type 0} (r : Reading A) (x : A) → value_of r ≡ Some x → (p : Place) × (r ≡ Read x p)
read_reading (Read y p) x e = (p, cc)
read_reading (Refused fault at) x e = absurd cc
read_reading Wanting x e = absurd cc

-- a field ends behind its bytes
field_end : (n : ℕ) (p : Place) (x : List ℕ) (next : Place) → bytes n p ≡ Read x next → (next.at ≡ p.at + n) × (length x ≡ n)
field_end n p x next e =
    let f = field_is_read (λ b. b) n p x next e in
    (sym (ap (λ (p : Place). p.at) f.after), ap length (sym f.value) ∙ omega (arith, f.long, length-take n p.left))

-- the initialization vector takes the bytes that it has in the header
iv_end : (suite : Suite) (p : Place) (iv : List ℕ) (next : Place) → header_iv suite p ≡ Read iv next → next.at ≡ p.at + length (iv_text suite iv)
unfolding header_iv
iv_end Committing p iv next e = let place : p.at ≡ next.at = ap (λ (p : Place). p.at) (read_same (replicate 12 0) iv p next e).1 in omega (arith, place)
iv_end Uncommitted p iv next e = let ends = field_end 12 p iv next e in omega (arith, ends.0, ends.1)

-- the body stands behind the tag
body_left : (settings : Settings) (b : List ℕ) (parts : HeaderFields) (body : Place) → header settings (start b) ≡ Read parts body → body.left ≡ drop (body_start_of parts) b
body_left settings b parts body e =
    let h = header_is_read settings (start b) parts body e in
    let size : body.at - 0 ≡ body_start_of parts = omega (arith, (field_end 16 h.iv_end parts.tag body h.tag).0, iv_end parts.opening.suite h.body_end parts.iv h.iv_end h.iv, h.size) in
    left_is (header settings) (start b) parts body (IsSequential-header settings) e ∙ ap (λ (n : ℕ). drop n b) size

-- ---- the lock

same_bytes : (a b : List ℕ) → a ≡ b → not (bytes_eq a b) ≡ false
same_bytes a b e = rw ((bytes_eq-Decides a b).1 e) refl

other_bytes : (a b : List ℕ) → a ≢ b → not (bytes_eq a b) ≡ true
other_bytes a b h = by_test (bytes_eq a b) refl
  where
    by_test : (t : Bool) → bytes_eq a b ≡ t → not t ≡ true
    by_test true e = absurd (h ((bytes_eq-Decides a b).0 e))
    by_test false e = refl

-- under the committing suite another commitment doesn't commit to the key
not_committed : (suite : Suite) (committed key id : List ℕ) → suite ≡ Committing → committed ≢ commitment key id → not (is_committed suite committed key id) ≡ true
not_committed Committing committed key id is other = other_bytes committed (commitment key id) other
not_committed Uncommitted committed key id is other = absurd cc

-- the commitment is asked for under the committing suite alone
all_committed : (suite : Suite) (committed key id : List ℕ) → (suite ≡ Committing → committed ≡ commitment key id) → not (is_committed suite committed key id) ≡ false
all_committed Committing committed key id same = same_bytes committed (commitment key id) (same refl)
all_committed Uncommitted committed key id same = refl

-- the header commits to the data key, where its suite has commitments
abbrev CommitsTo : HeaderValue → List ℕ → Type 0
CommitsTo h key = h.suite ≡ Committing → h.commitment ≡ commitment key h.message_id

abbrev tag_under : HeaderValue → List KeyValue → List ℕ → List ℕ
tag_under h only key = header_tag h.suite h.iv h.raw only key h.message_id

pub lock_other_key : (h : HeaderValue) (only : List KeyValue) (key : List ℕ) → h.suite ≡ Committing → h.commitment ≢ commitment key h.message_id → lock_fault h only key ≡ Some Commitment
unfolding lock_fault
lock_other_key h only key is e = rw (not_committed h.suite h.commitment key h.message_id is e) refl

pub lock_other_tag : (h : HeaderValue) (only : List KeyValue) (key : List ℕ) → CommitsTo h key → h.tag ≢ tag_under h only key → lock_fault h only key ≡ Some HeaderTag
unfolding lock_fault
lock_other_tag h only key e f = rw (all_committed h.suite h.commitment key h.message_id e, other_bytes h.tag (tag_under h only key) f) refl

pub lock_opens : (h : HeaderValue) (only : List KeyValue) (key : List ℕ) → CommitsTo h key → h.tag ≡ tag_under h only key → lock_fault h only key ≡ None
unfolding lock_fault
lock_opens h only key e f = rw (all_committed h.suite h.commitment key h.message_id e, same_bytes h.tag (tag_under h only key) f) refl

-- ---- the lines

answered : (bytes : List ℕ) (settings : Settings) (answer : Unlocking) (parts : HeaderFields) (body : Place) (other : Unlocking) → header settings (start bytes) ≡ Read parts body → answer ≡ other
    → judged bytes settings answer ≡ judged_header settings (header_of bytes parts) body other
answered bytes settings answer parts body other e is = judged_read bytes settings answer parts body e ∙ ap (judged_header settings (header_of bytes parts) body) is

-- the body of an unlocked message
unlocked : (bytes : List ℕ) (settings : Settings) (answer : Unlocking) (parts : HeaderFields) (body : Place) (whole only : List KeyValue) (key : List ℕ) → header settings (start bytes) ≡ Read parts body
    → answer ≡ Unlocks whole only key → Commits parts key → parts.tag ≡ tag_due bytes parts only key
    → judged bytes settings answer ≡ opened_as (judged_body parts.content settings.max_unit (body_key_of parts key) parts.opening.id body)
unlocked bytes settings answer parts body whole only key e is commits tagged =
    answered bytes settings answer parts body (Unlocks whole only key) e is
    ∙ judged_opened settings (header_of bytes parts) body whole only key (lock_opens (header_of bytes parts) only key commits tagged)

pub line_by_line : (bytes : List ℕ) (settings : Settings) (answer : Unlocking) → IsLineByLine bytes settings answer
line_by_line bytes settings answer = record {
  header_is_faulty = λ fault e. let r = faulty_reading (header settings (start bytes)) fault e in judged_refused bytes settings answer fault r.0 r.1;
  header_goes_on = λ e f. judged_wanting bytes settings answer (wanting_reading (header settings (start bytes)) e f);
  refused = λ parts fault e is. let r = read_reading (header settings (start bytes)) parts e in answered bytes settings answer parts r.0 (Refuses fault) r.1 is;
  other_key = λ parts whole only key e is suite other.
      let r = read_reading (header settings (start bytes)) parts e in
      answered bytes settings answer parts r.0 (Unlocks whole only key) r.1 is
      ∙ judged_locked settings (header_of bytes parts) r.0 whole only key Commitment (lock_other_key (header_of bytes parts) only key suite other);
  other_tag = λ parts whole only key e is commits tagged.
      let r = read_reading (header settings (start bytes)) parts e in
      answered bytes settings answer parts r.0 (Unlocks whole only key) r.1 is
      ∙ judged_locked settings (header_of bytes parts) r.0 whole only key HeaderTag (lock_other_tag (header_of bytes parts) only key commits tagged);
  frames = λ parts whole only key size e is commits tagged content.
      let r = read_reading (header settings (start bytes)) parts e in
      unlocked bytes settings answer parts r.0 whole only key r.1 is commits tagged
      ∙ ap (λ (c : Content). opened_as (judged_body c settings.max_unit (body_key_of parts key) parts.opening.id r.0)) content
      ∙ ap opened_as (frames_tabled settings.max_unit size (record { key = body_key_of parts key; id = parts.opening.id }) r.0)
      ∙ ap (λ (left : List ℕ). opened_as (tabled_frames size (record { key = body_key_of parts key; id = parts.opening.id }) left)) (body_left settings bytes parts r.0 r.1);
  block = λ parts whole only key e is commits tagged content.
      let r = read_reading (header settings (start bytes)) parts e in
      unlocked bytes settings answer parts r.0 whole only key r.1 is commits tagged
      ∙ ap (λ (c : Content). opened_as (judged_body c settings.max_unit (body_key_of parts key) parts.opening.id r.0)) content
      ∙ ap opened_as (block_tabled settings.max_unit (body_key_of parts key) parts.opening.id r.0)
      ∙ ap (λ (left : List ℕ). opened_as (tabled_block settings.max_unit (body_key_of parts key) parts.opening.id left)) (body_left settings bytes parts r.0 r.1);
}
