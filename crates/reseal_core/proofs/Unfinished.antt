-- Regular frames alone are no whole body, to no key; and so a header with regular frames is no whole message.
use Rattle.std.proofs.Common.{◌≡◌, ◌∙◌, ℕ, ◌+◌, ◌-◌, ◌*◌, ◌<◌, ◌≤◌, Bool, true, false, not, ◌&&◌, ◌==◌, List, [], ◌++◌, length, take, drop, Option, Some, None, if◌then◌else◌, refl, sym, ap, arith, append-nil, length-append, take_at, inl, inr}
use Rattle.std.specs.Prelude.{is_some, nat_lt}
use Rattle.std.proofs.Math.Nat.{mul-le-mul_right}
use Rattle.std.proofs.lemmas.Bool.{cases_lt, lt-ltb}
use Rattle.std.proofs.lemmas.List.{length-drop}
use Rattle.esdk_fields.specs.Place.{Place, start, cut}
use Rattle.esdk_fields.specs.Reading.{Read}
use Rattle.esdk_fields.specs.declared.faults.Fault.{Fault}
use Rattle.esdk_fields.specs.declared.faults.Fault.TheVariants.{UnitTag, WrongSequence}
use Rattle.esdk_fields.proofs.Fronts.{value_from}
use Rattle.frame_codec.specs.UnitHead.{is_final}
use Rattle.frame_codec.specs.Rows.{number_at}
use Rattle.frame_codec.specs.Unit.{Under}
use Rattle.frame_codec.specs.Written.{final_frame}
use Rattle.header_codec.specs.declared.settings.Settings.{Settings}
use Rattle.header_codec.specs.Header.{HeaderValue}
use Rattle.header_codec.specs.Table.{header}
use Rattle.header_codec.proofs.Order.{IsSequential-header}
use Rattle.context_codec.specs.Context.{KeyValue}
use Rattle.context_codec.specs.Parts.{only_of}
use Rattle.suite_table.specs.declared.suite.Suite.TheVariants.{Committing}
use Rattle.suite_table.specs.Keys.{derived}
use Rattle.suite_table.specs.Suites.{zero_iv}
use Rattle.keyring_trait.specs.Materials.{EncMaterialsValue}
use Rattle.keyring_trait.specs.Unlocking.{Unlocking, Refuses, Unlocks}
use Rattle.body_format.specs.declared.verdicts.Verdict.{Verdict}
use Rattle.body_format.specs.declared.verdicts.Verdict.TheVariants.{Going, Whole, Faulty}
use Rattle.body_format.specs.Rows.{JudgedBody}
use Rattle.body_format.specs.Body.{beside_content, judged_body, judged_frames}
use Rattle.body_format.specs.Table.{first_not_regular, framed_verdict, good_regular, slot_bytes, tabled_frames}
use Rattle.body_format.specs.Written.{AreFull, frame_count, framed_body, regular_frames}
use Rattle.body_format.proofs.TableLaws.{frames_tabled, some_is}
use Rattle.body_format.proofs.WrittenBodies.{all_full}
use Rattle.body_format.proofs.WrittenRows.{behind_frames, length-regular_frames, regular_is_more}
use Rattle.message_format.specs.Message.{IsWritable, header_body, header_tag, under}
use Rattle.message_format.specs.Judgement.{Judged, judged, judged_header, judged_lock, lock_fault}
use Rattle.message_format.specs.Laws.{IsWithinLimits}
use Rattle.message_format.proofs.Judging.{judged_read}
use Rattle.message_format.proofs.WrittenHeads.{begins_written, body_place, header_found, length-header_tag, written}
use Rattle.message_format.proofs.WrittenMessages.{header_same}
use Rattle.stream_seal.specs.Feeding.{frames_given}
use Rattle.stream_seal.specs.Start.{message_of, start_of, drawn_id}
use Rattle.esdk_encrypt.specs.Encrypt.{written_so_far}
use Rattle.reseal_core.specs.Front.{front_of}
use Rattle.reseal_core.proofs.FrontsLeft.{followed, last}

-- ---- a slot that doesn't begin with the mark of a final frame

good_is_plain : (a f n : Bool) (o : Option (List ℕ)) → is_some (if a && not f && n then o else None) ≡ true → f ≡ false
good_is_plain a false n o e = refl
good_is_plain true true n o e = absurd (let no : false ≡ true = e in cc)
good_is_plain false true n o e = absurd (let no : false ≡ true = e in cc)

-- a good regular slot doesn't
good_plain : (size : ℕ) (u : Under) (k : ℕ) (b : List ℕ) → is_some (good_regular size u k b) ≡ true → is_final b ≡ false
unfolding good_regular
good_plain size u k b some = good_is_plain (not (nat_lt (length b) (size + beside_content))) (is_final b) (number_at 0 b == k + 1) _ some

no_verdict : (a f n s : Bool) (wrong tag : Fault) (rest : Verdict) → f ≡ false
    → (if a then Going else if not f && not n then Faulty wrong else if not f && s then Going else if not f then Faulty tag else rest) ≡ Whole → ⊥
no_verdict true f n s wrong tag rest plain e = let no : Going ≡ Whole = e in absurd cc
no_verdict false true n s wrong tag rest plain e = let no : true ≡ false = plain in absurd cc
no_verdict false false false s wrong tag rest plain e = let no : Faulty wrong ≡ Whole = e in absurd cc
no_verdict false false true true wrong tag rest plain e = let no : Going ≡ Whole = e in absurd cc
no_verdict false false true false wrong tag rest plain e = let no : Faulty tag ≡ Whole = e in absurd cc

-- and of one that doesn't, and decides, no body is whole
plain_verdict : (size : ℕ) (u : Under) (k : ℕ) (b : List ℕ) → is_final b ≡ false → framed_verdict size u k b ≡ Whole → ⊥
unfolding framed_verdict
plain_verdict size u k b plain e =
    no_verdict (nat_lt (length b) 4) (is_final b) (number_at 0 b == k + 1) (nat_lt (length b) (size + beside_content)) (WrongSequence (k + 1) (number_at 0 b)) (UnitTag (k + 1)) _ plain e

short_verdict : (size : ℕ) (u : Under) (k : ℕ) (b : List ℕ) → length b < 4 → framed_verdict size u k b ≡ Whole → ⊥
unfolding framed_verdict
short_verdict size u k b short e = let no : Going ≡ Whole = rw (lt-ltb (length b) 4 short) at e in absurd cc

-- ---- regular frames, judged under any key

module _ (size : ℕ) (u u0 : Under) (text : List ℕ) (m : ℕ) (full : AreFull size text m) where
  abbrev body : List ℕ
  body = regular_frames size u0 text m

  plain_at : (k : ℕ) → k < m → is_final (slot_bytes size body k) ≡ false
  plain_at k lt =
      let some : is_some (good_regular size u0 k (slot_bytes size (body ++ []) k)) ≡ true = sym (some_is size u0 (behind_frames size u0 text m [] 0) k) ∙ regular_is_more size u0 text m k [] 0 full lt in
      good_plain size u0 k (slot_bytes size body k) (ap (λ (b : List ℕ). is_some (good_regular size u0 k (slot_bytes size b k))) (sym (append-nil body)) ∙ some)

  none_at : (k : ℕ) → m ≤ k → length (slot_bytes size body k) < 4
  none_at k low =
      omega (
        arith,
        length-drop (k * (size + beside_content)) body,
        length-regular_frames size u0 text m full,
        mul-le-mul_right (size + beside_content) low,
      )

  never : (k : ℕ) → framed_verdict size u k (slot_bytes size body k) ≡ Whole → ⊥
  never k e = elim (cases_lt k m) [
    | inl lt ↦ plain_verdict size u k (slot_bytes size body k) (plain_at k lt) e
    | inr low ↦ short_verdict size u k (slot_bytes size body k) (none_at k low) e
  ]

  tabled_unfinished : (tabled_frames size u body).verdict ≡ Whole → ⊥
  unfolding tabled_frames
  tabled_unfinished e = never (first_not_regular size u body) e

  pub frames_unfinished : (p : Place) → p.left ≡ body → (judged_frames size u p).verdict ≡ Whole → ⊥
  frames_unfinished p left e =
      tabled_unfinished (sym (ap (λ (j : JudgedBody). j.verdict) (frames_tabled size u p ∙ ap (tabled_frames size u) left)) ∙ e)

-- ---- behind a header

module _ (m : EncMaterialsValue) (size : ℕ) (random text : List ℕ) (w : IsWritable text m.context m.required size m.key m.entries (drawn_id random)) (settings : Settings) (limits : IsWithinLimits settings size m.entries) where
  abbrev id : List ℕ
  id = drawn_id random

  abbrev u0 : Under
  u0 = under m.key id

  abbrev count : ℕ
  count = frames_given (length text) size

  abbrev frames : List ℕ
  frames = regular_frames size u0 text count

  abbrev front : List ℕ
  front = written_so_far m size id text

  abbrev place : Place
  place = body_place text m.context m.required size m.key m.entries id

  abbrev head : HeaderValue
  head = written m.context m.required size m.key m.entries id

  full : AreFull size text count
  full = all_full size text (record { some = w.some; narrow = w.narrow; few = w.short })

  length-start : length (start_of m size id) ≡ place.at
  unfolding start_of
  length-start =
      let raw : List ℕ = header_body m.context m.required size m.key m.entries id in
      omega (arith, length-append raw (header_tag_of raw), length-header_tag Committing zero_iv raw (only_of m.required m.context) m.key id)
    where
      header_tag_of : List ℕ → List ℕ
      header_tag_of raw = header_tag Committing zero_iv raw (only_of m.required m.context) m.key id

  length-front : length front ≡ place.at + length frames
  length-front = omega (arith, length-append (start_of m size id) frames, length-start)

  front_is : take (length front) (message_of m size id text) ≡ front
  front_is = ap (take (length front)) (followed m size random text w.some) ∙ take_at front (last m size random text w.some) (length front) refl

  -- where the body of the front begins, its frames stand
  left_is : (cut (length front) place).left ≡ frames
  unfolding framed_body
  left_is =
      let long : length front - place.at ≡ length frames = omega (arith, length-front) in
      ap (λ (n : ℕ). take n place.left) long ∙ take_at frames (final_frame u0 (frame_count (length text) size) (drop ((frame_count (length text) size - 1) * size) text)) (length frames) refl

  body_unfinished : (only : List KeyValue) (k : List ℕ) (o : Option Fault) → (judged_lock settings head k (cut (length front) place) o).verdict ≡ Whole → ⊥
  unfolding judged_body
  body_unfinished only k (Some fault) e = let no : Faulty fault ≡ Whole = e in absurd cc
  body_unfinished only k None e =
      frames_unfinished size (record { key = derived head.suite k head.message_id; id = head.message_id }) u0 text count full (cut (length front) place) left_is e

  header_unfinished : (answer : Unlocking) → (judged_header settings head (cut (length front) place) answer).verdict ≡ Whole → ⊥
  header_unfinished (Refuses fault) e = let no : Faulty fault ≡ Whole = e in absurd cc
  header_unfinished (Unlocks whole only k) e = body_unfinished only k (lock_fault head only k) e

  pub whole_to_nobody : (answer : Unlocking) → (judged (front_of (Some m) size random text) settings answer).verdict ≡ Whole → ⊥
  whole_to_nobody answer e =
      let b : List ℕ = message_of m size id text in
      let n : ℕ = length front in
      let begins = begins_written settings text m.context m.required size m.key m.entries id w limits in
      let read : header settings (start (take n b)) ≡ Read begins.parts (cut n place) =
      value_from (header settings) b begins.parts place n (IsSequential-header settings) begins.read (omega (arith, length-front)) in
      let is : judged (take n b) settings answer ≡ judged_header settings head (cut n place) answer =
      judged_read (take n b) settings answer begins.parts (cut n place) read
      ∙ ap (λ (h : HeaderValue). judged_header settings h (cut n place) answer) (header_same settings b n begins.parts (cut n place) read ∙ header_found settings b head place begins) in
      header_unfinished answer (sym (ap (λ (j : Judged). j.verdict) (ap (λ (x : List ℕ). judged x settings answer) (sym front_is) ∙ is)) ∙ e)
