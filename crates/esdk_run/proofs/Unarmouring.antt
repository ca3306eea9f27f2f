-- An input that is read as armour text, by what its source keeps.
use Rattle.std.proofs.Common.{◌≡◌, ◌⊎◌, ◌∙◌, ℕ, ◌+◌, ◌^◌, ◌<◌, ◌≤◌, Bool, true, false, List, [], ◌∷◌, ◌++◌, length, Option, Some, None, Ok, Err, refl, sym, ap, subst, arith, inl, inr}
use Rattle.std.specs.Prelude.{IfSome}
use Rattle.std.specs.declared.result.Result.{Result}
use Rattle.std.specs.Option.{option_map}
use Rattle.std.proofs.lemmas.Bool.{cases_lt}
use Rattle.std.proofs.lemmas.List.{append-nil, length-append, take_all}
use Rattle.whole_input.proofs.Coming.{came_more, came_none}
use Rattle.esdk_fields.specs.Counts.{Rose, Stayed}
use Rattle.esdk_fields.specs.declared.faults.Fault.TheVariants.{BadArmour, Truncated}
use Rattle.esdk_fields.specs.declared.refusals.Outside.TheVariants.{InputTooLong, SourceFault}
use Rattle.esdk_base.specs.Streams.{OnTold, SourceState, most_input}
use Rattle.whole_input.specs.Pieces.{APieceBehind}
use Rattle.whole_input.specs.Taken.{Came, EndSeen, MostTaken}
use Rattle.armour_core.specs.declared.reader.ArmourReader.{ArmourReader}
use Rattle.armour_core.specs.declared.source.UnarmouredSource.{UnarmouredSource}
use Rattle.armour_core.specs.declared.text_end.TextEnd.{TextEnd}
use Rattle.armour_core.specs.declared.text_end.TextEnd.TheVariants.{Bad, TooLong, Whole}
use Rattle.armour_core.specs.Outlook.{Outlook, text_outlook, with_front}
use Rattle.armour_core.specs.Unarmoured.{groups_read, unarmoured}
use Rattle.armour_core.specs.ReaderLaws.{ends_so, fails_more, fails_none, good_before, reads_more, reads_none, seen_more, wanted_before}
use Rattle.armour_core.specs.ReaderOutlook.{FailsAs, GroupsAreGood, IsReadSoFar, TextIsOver, IsWanted, KeepsOutlook, Outlasts, ArmourReadsOn, coming, gives, pending, reader_outlook, told_end}
use Rattle.armour_core.proofs.Outlooks.{good_text}
use Rattle.armour_core.proofs.Sizes.{outlook_few}
use Rattle.esdk_decrypt.specs.declared.errors.DecryptError.{DecryptError}
use Rattle.esdk_decrypt.specs.declared.errors.DecryptError.TheVariants as errors
use Rattle.esdk_report.specs.declared.failure.Failure.{Failure}
use Rattle.esdk_report.specs.declared.failure.Failure.TheVariants as failures
use Rattle.esdk_run.specs.Failures.{decryption_failure}
use Rattle.esdk_run.specs.Unarmoured.{AllGood, AllRead, TextEndsSo, EndsText, IsLongText, NoMoreTaken, ReadsText, TextEnds, given_by_text}
use Rattle.esdk_run.specs.UnarmouredEnd.{TextIsBehind, IsReadOut, LooksOn, SeesAs, SeesTextEnd, left_of}

-- ---- what is told

-- what is so of each list that is told is so where one is
pub on_told : (left : Option (List ℕ)) (P : List ℕ → Type 0) → ((bytes : List ℕ) → left ≡ Some bytes → P bytes) → OnTold left P
on_told None P each = tt
on_told (Some bytes) P each = each bytes refl

pub of_told : (left : Option (List ℕ)) (P : List ℕ → Type 0) (bytes : List ℕ) → left ≡ Some bytes → OnTold left P → P bytes
of_told left P bytes is holds = subst (λ (l : Option (List ℕ)). OnTold l P) is holds

-- ---- a source over the text

-- A source was made over an input's text, and was read; then the text was judged to its end where what was read of it is `sound`, and given back. `seen` and `read` are what the
-- source told first and last.
pub record ReadsOver (input taken seen read : SourceState) (sound : Bool) (judged : Result (Unit {0}) DecryptError) : Type 0 where
  pub mid : SourceState
  pub r : ArmourReader
  pub s : ArmourReader
  pub t : ArmourReader
  pub f : ℕ
  pub m : ℕ
  pub n : ℕ
  pub outlook : (text : List ℕ) → reader_outlook r text ≡ text_outlook text
  pub none : r.pieces.taken ≡ 0
  pub unread : seen.given ≡ 0
  pub zero : f ≡ 0
  pub goes : r.ending ≡ None
  pub none_came : seen.came ≡ []
  pub unseen : seen.ended ≡ false
  pub first : Outlasts input mid r s seen.given read.given f m seen.came read.came seen.ended read.ended
  pub later : LooksOn mid taken s t m n sound
  pub seen_left : seen.left ≡ left_of input r
  pub seen_faults : seen.faults ≡ f
  pub read_left : read.left ≡ left_of mid s
  pub read_faults : read.faults ≡ m
  pub sees : sound ≡ true → m ≡ 0 → SeesAs mid taken s t judged
  pub passes : sound ≡ false → judged ≡ Ok tt

-- what such a source tells and counts
abbrev pub source_of : {S : Type 0} → (S → SourceState) → UnarmouredSource S → SourceState
source_of state s = record { left = left_of (state s.text.now) s.reader; given = s.given; faults = s.faults; came = s.came.bytes; ended = s.ended }

pub reads_over : {S : Type 0} (state : S → SourceState) (input back : S) (made read now : UnarmouredSource S) (called sound : Bool) (judged : Result (Unit {0}) DecryptError)
    → made.text.now ≡ input → ((text : List ℕ) → reader_outlook made.reader text ≡ text_outlook text) → made.reader.pieces.taken ≡ 0 → made.given ≡ 0 → made.faults ≡ 0
    → made.reader.ending ≡ None → made.came.bytes ≡ [] → made.ended ≡ false
    → Outlasts (state made.text.now) (state read.text.now) made.reader read.reader made.given read.given made.faults read.faults made.came.bytes read.came.bytes made.ended read.ended
    → LooksOn (state read.text.now) (state now.text.now) read.reader now.reader read.faults now.faults called
    → called ≡ sound → (called ≡ true → read.faults ≡ 0 → SeesAs (state read.text.now) (state now.text.now) read.reader now.reader judged)
    → (called ≡ false → judged ≡ Ok tt) → back ≡ now.text.now
    → ReadsOver (state input) (state back) (source_of state made) (source_of state read) sound judged
reads_over {S} state input back made read now called sound judged text outlook none unread zero goes none_came unseen first later is sees passes is_back =
    let all : ReadsOver (state made.text.now) (state now.text.now) (source_of state made) (source_of state read) sound judged = record {
      mid = state read.text.now;
      r = made.reader;
      s = read.reader;
      t = now.reader;
      f = made.faults;
      m = read.faults;
      n = now.faults;
      outlook = outlook;
      none = none;
      unread = unread;
      zero = zero;
      goes = goes;
      none_came = none_came;
      unseen = unseen;
      first = first;
      later = subst (λ (b : Bool). LooksOn (state read.text.now) (state now.text.now) read.reader now.reader read.faults now.faults b) is later;
      seen_left = refl;
      seen_faults = refl;
      read_left = refl;
      read_faults = refl;
      sees = λ yes. sees (is ∙ yes);
      passes = λ no. passes (is ∙ no);
    } in
    subst (λ (i : S). ReadsOver (state i) (state back) (source_of state made) (source_of state read) sound judged) text
    (subst (λ (b : S). ReadsOver (state made.text.now) (state b) (source_of state made) (source_of state read) sound judged) (sym is_back) all)

-- ---- helpers of the next section

gives_left : (r : ArmourReader) (left : Option (List ℕ)) → ((text : List ℕ) → reader_outlook r text ≡ text_outlook text)
    → option_map (λ text. (reader_outlook r text).bytes) left ≡ given_by_text left
gives_left r None outlook = refl
gives_left r (Some text) outlook = ap (λ (o : Outlook). Some o.bytes) (outlook text)

nothing_left : (xs : List ℕ) → length xs ≡ 0 → xs ≡ []
nothing_left [] none = refl
nothing_left (x ∷ xs) none = absurd (omega (arith, none))

always_sound : (sound : Bool) (judged : Result (Unit {0}) DecryptError) (error : DecryptError) → judged ≡ Err error → (sound ≡ false → judged ≡ Ok tt) → sound ≡ true
always_sound true judged error is passes = refl
always_sound false judged error is passes = let none : judged ≡ Ok tt = passes refl in absurd (cc none)

-- text of which no more than 2^62 bytes are taken
pub bytes_are : (text : List ℕ) → length text ≤ 2 ^ 62 → (text_outlook text).bytes ≡ (unarmoured text).bytes
unfolding text_outlook
bytes_are text few = ap (λ (t : List ℕ). (unarmoured t).bytes) (take_all most_input text few)

-- what is to come behind text that was read on and then looked at
both_all : (a b c : SourceState) (r s t : ArmourReader) (h : List ℕ) (one : ArmourReadsOn a b r s h) (two : ArmourReadsOn b c s t []) (more : List ℕ) → (TextIsOver t → c.ended ≡ true → more ≡ [])
    → reader_outlook r ((one.text ++ two.text) ++ more) ≡ with_front h (reader_outlook t more)
unfolding reads_more
both_all a b c r s t h one two more may = (reads_more a b c r s t h [] one two).all more may ∙ ap (λ (l : List ℕ). with_front l (reader_outlook t more)) (append-nil h)

none_given : (unarmoured []).bytes ≡ []
unfolding unarmoured groups_read
none_given = refl

none_bad : (unarmoured []).bad ≡ None
unfolding unarmoured groups_read
none_bad = refl

-- the groups of text that was read on and then looked at
good_both : (a b c : SourceState) (r s t : ArmourReader) (h : List ℕ) (one : ArmourReadsOn a b r s h) (two : ArmourReadsOn b c s t [])
    → (one.text ++ two.text ≡ []) ⊎ APieceBehind (GroupsAreGood r) (one.text ++ two.text)
unfolding reads_more
good_both a b c r s t h one two = (reads_more a b c r s t h [] one two).good

good_all : (a b c : SourceState) (r s t : ArmourReader) (h : List ℕ) (one : ArmourReadsOn a b r s h) (two : ArmourReadsOn b c s t []) → GroupsAreGood t [] → GroupsAreGood r (one.text ++ two.text)
unfolding reads_more
good_all a b c r s t h one two good = good_before a c r t (h ++ []) (reads_more a b c r s t h [] one two) good

-- ---- what is so of the text

-- All bytes came that there are.
pub record AllCame (seen read : SourceState) : Type 0 where
  pub bytes : List ℕ
  pub came : Came seen read bytes
  pub end : EndSeen seen read bytes

-- So many came that no more are taken.
pub record MostCame (seen read : SourceState) : Type 0 where
  pub bytes : List ℕ
  pub came : Came seen read bytes
  pub most : MostTaken seen read bytes

-- What has to be so of the bytes for a command to end by this failure that read them: M27 isn't theirs, M10 is behind all of them, which are sound, and where it isn't X1 or X6 they aren't.
abbrev pub IsOfBytes : Failure → (seen read : SourceState) → (sound : Bool) → (Sound : Type 0) → Type 0
IsOfBytes (failures.Fault (BadArmour number)) seen read sound Sound = ⊥
IsOfBytes (failures.Fault Truncated) seen read sound Sound = (sound ≡ true) × AllCame seen read
IsOfBytes (failures.Outside SourceFault) seen read sound Sound = Rose seen.faults read.faults × Sound
IsOfBytes (failures.Outside InputTooLong) seen read sound Sound = MostCame seen read × Sound
IsOfBytes failure seen read sound Sound = sound ≡ false

-- all of the text that was taken
abbrev pub whole_text : {input taken seen read : SourceState} {sound : Bool} {judged : Result (Unit {0}) DecryptError} → ReadsOver input taken seen read sound judged → List ℕ
whole_text x = x.first.reads.text ++ x.later.awaits.reads.text

module _ {input taken seen read : SourceState} {sound : Bool} {judged : Result (Unit {0}) DecryptError} (x : ReadsOver input taken seen read sound judged) where
  -- what is seen at first is what the text gives
  seen_gives : seen.left ≡ given_by_text input.left
  seen_gives = x.seen_left ∙ gives_left x.r input.left x.outlook

  -- ---- how far the text was taken

  taken_whole : x.t.pieces.taken ≡ length (whole_text x)
  taken_whole = omega (arith, x.first.reads.taken, x.later.awaits.reads.taken, x.none, length-append x.first.reads.text x.later.awaits.reads.text)

  came_whole : Came input taken (whole_text x)
  came_whole = came_more input x.mid taken x.first.reads.text x.later.awaits.reads.text x.first.reads.came x.later.awaits.reads.came

  few_whole : length (whole_text x) ≤ 2 ^ 62
  few_whole = omega (arith, taken_whole, x.t.most)

  -- so many bytes a front of it gives
  gives_count : (text : List ℕ) → length text ≤ 2 ^ 62 → gives x.r text ≡ length (unarmoured text).bytes
  gives_count text few = ap (λ (o : Outlook). length o.bytes) (x.outlook text) ∙ ap length (bytes_are text few)

  -- what it gives and how it ends, whatever follows it
  whole_outlook : (more : List ℕ) → (TextIsOver x.t → taken.ended ≡ true → more ≡ []) → text_outlook (whole_text x ++ more) ≡ with_front x.first.handed (reader_outlook x.t more)
  whole_outlook more may = sym (x.outlook (whole_text x ++ more)) ∙ both_all input x.mid taken x.r x.s x.t x.first.handed x.first.reads x.later.awaits.reads more may

  -- the bytes that weren't read
  abbrev rest_there : List ℕ
  rest_there = (reader_outlook x.t []).bytes

  whole_bytes : (unarmoured (whole_text x)).bytes ≡ x.first.handed ++ rest_there
  whole_bytes =
      sym (bytes_are (whole_text x) few_whole) ∙ ap (λ (t : List ℕ). (text_outlook t).bytes) (sym (append-nil (whole_text x)))
      ∙ ap (λ (o : Outlook). o.bytes) (whole_outlook [] (λ _ _. refl))

  gives_whole : length (unarmoured (whole_text x)).bytes ≡ length x.first.handed + gives x.t []
  gives_whole = ap length whole_bytes ∙ length-append x.first.handed rest_there

  -- those that were
  came_is : read.came ≡ x.first.handed
  came_is = x.first.came ∙ ap (λ (l : List ℕ). l ++ x.first.handed) x.none_came

  read_count : read.given ≡ length x.first.handed
  read_count =
      let few = ap length (bytes_are (whole_text x) few_whole) in
      omega (arith, x.first.given, x.unread, gives_whole, few, outlook_few (whole_text x))

  all_read : IsReadOut x.t → AllRead (whole_text x) read.came
  all_read out = whole_bytes ∙ ap (λ (l : List ℕ). x.first.handed ++ l) (nothing_left rest_there out) ∙ append-nil x.first.handed ∙ sym came_is

  wanted_reach : IsWanted x.r (whole_text x) (length (x.first.handed ++ [])) → NoMoreTaken (whole_text x) read.came
  wanted_reach (inl all) =
      let count = gives_count (whole_text x) few_whole in
      let size = length-append x.first.handed [] in inl (all_read (omega (arith, count, all, gives_whole, size)))
  wanted_reach (inr last) =
      let size = ap length last.all in
      let count = gives_count last.before (omega (arith, size, length-append last.before last.piece, few_whole)) in
      let was : length (unarmoured last.before).bytes < length read.came = omega (arith, count, last.was, length-append x.first.handed [], ap length came_is) in
      inr (record { before = last.before; piece = last.piece; all = last.all; few = last.few; was = was })

  -- which of its groups are good
  good_front : (text : List ℕ) → length text ≤ 2 ^ 62 → GroupsAreGood x.r text → (unarmoured text).bad ≡ None
  good_front text few good = good_text text good.0 few (ap (λ (o : Outlook). o.end) (sym (x.outlook (text ++ good.0))) ∙ good.1)

  good_reach : (whole_text x ≡ []) ⊎ APieceBehind (GroupsAreGood x.r) (whole_text x) → APieceBehind (λ front. (unarmoured front).bad ≡ None) (whole_text x)
  good_reach (inl empty) = record { before = []; piece = []; all = empty; few = omega arith; was = none_bad }
  good_reach (inr last) = record {
    before = last.before;
    piece = last.piece;
    all = last.all;
    few = last.few;
    was = let size = ap length last.all in good_front last.before (omega (arith, size, length-append last.before last.piece, few_whole)) last.was;
  }

  all_good : IsReadSoFar x.t → AllGood (whole_text x) read.came
  all_good out = (all_read out.0, good_front (whole_text x) few_whole (good_all input x.mid taken x.r x.s x.t x.first.handed x.first.reads x.later.awaits.reads out.1))

  -- where it isn't looked for the end
  reach_still : sound ≡ false → NoMoreTaken (whole_text x) read.came
  reach_still unsound = by_first x.first.wanted
    where
      none : x.later.awaits.reads.text ≡ []
      none = x.later.still unsound

      by_first : (x.first.reads.text ≡ []) ⊎ IsWanted x.r x.first.reads.text (length x.first.handed) → NoMoreTaken (whole_text x) read.came
      by_first (inl empty) =
          let both : whole_text x ≡ [] = ap (λ (t : List ℕ). t ++ x.later.awaits.reads.text) empty ∙ none in
          let nothing : (unarmoured (whole_text x)).bytes ≡ [] = ap (λ (t : List ℕ). (unarmoured t).bytes) both ∙ none_given in
          inl (all_read (omega (arith, ap length nothing, gives_whole)))
      by_first (inr wanted) = wanted_reach (wanted_before input x.mid taken x.r x.s x.t x.first.handed [] x.first.reads x.later.awaits.reads none wanted)

  -- where a read failed, all bytes were read
  failed_out : Rose seen.faults read.faults → IsReadSoFar x.t
  failed_out rose =
      let some : 1 ≤ x.m = omega (arith, rose, x.zero, x.seen_faults, x.read_faults) in
      subst IsReadSoFar (sym (x.later.awaits.stuck some).0) (x.first.spent x.zero some)

  -- ---- failures

  all_fails : FailsAs input taken x.f x.n
  all_fails = fails_more input x.mid taken x.f x.m x.n x.first.faults x.later.fails

  still_stayed : Stayed input.faults taken.faults → Stayed seen.faults read.faults
  still_stayed still = elim (cases_lt 0 x.n) [
    | inl some ↦ let rose = all_fails.failed x.zero (omega (arith, some)) in absurd (omega (arith, rose, still))
    | inr none ↦ omega (arith, none, x.zero, x.seen_faults, x.read_faults, x.later.fails.later)
  ]

  -- where a read of the source failed, one of the text did
  rose_text : Rose seen.faults read.faults → Rose input.faults taken.faults
  rose_text rose = all_fails.failed x.zero (omega (arith, rose, x.zero, x.seen_faults, x.read_faults, x.later.fails.later))

  -- where no read failed, none of the text did
  none_failed : read.faults ≡ seen.faults → x.mid.faults ≡ input.faults
  none_failed same =
      let kept : x.m ≡ x.f = sym x.read_faults ∙ same ∙ x.seen_faults in
      x.first.faults.same kept (omega (arith, kept, x.zero))

  -- ---- what was read

  pub text_reads : (Reach : List ℕ → List ℕ → Type 0) (So : SourceState → SourceState → Type 0) → So seen read → Reach (whole_text x) read.came → ReadsText Reach input taken So
  text_reads Reach So so reach = record {
    text = whole_text x;
    came = came_whole;
    few = few_whole;
    seen = seen;
    read = read;
    gives = seen_gives;
    begins = x.unread;
    none = x.none_came;
    rest = rest_there;
    bytes = whole_bytes ∙ ap (λ (l : List ℕ). l ++ rest_there) (sym came_is);
    count = read_count ∙ ap length (sym came_is);
    reach = reach;
    good = good_reach (good_both input x.mid taken x.r x.s x.t x.first.handed x.first.reads x.later.awaits.reads);
    stayed = still_stayed;
    so = so;
  }

  pub still_reads : (So : SourceState → SourceState → Type 0) → sound ≡ false → So seen read → ReadsText NoMoreTaken input taken So
  still_reads So unsound so = text_reads NoMoreTaken So so (reach_still unsound)

  out_reads : (So : SourceState → SourceState → Type 0) → IsReadOut x.t → So seen read → ReadsText AllRead input taken So
  out_reads So out so = text_reads AllRead So so (all_read out)

  good_reads : (So : SourceState → SourceState → Type 0) → IsReadSoFar x.t → So seen read → ReadsText AllGood input taken So
  good_reads So out so = text_reads AllGood So so (all_good out)

  -- ---- how the text ends

  -- the end was judged as it is seen
  sees_end : sound ≡ true → read.faults ≡ seen.faults → SeesAs x.mid taken x.s x.t judged
  sees_end is same = x.sees is (omega (arith, x.read_faults, same, x.seen_faults, x.zero))

  -- the end that is told
  told_mid : (text : List ℕ) → input.left ≡ Some text → told_end x.mid x.s ≡ Some (text_outlook text).end
  told_mid text is =
      x.first.reads.end (text_outlook text).end
      (ap (λ (l : Option (List ℕ)). option_map (λ t. (reader_outlook x.r t).end) l) is ∙ ap (λ (o : Outlook). Some o.end) (x.outlook text))

  -- the end of what came
  ends_so_there : (end : TextEnd) → x.t.ending ≡ Some end → TextEndsSo taken (whole_text x) end
  ends_so_there end is more may = ap (λ (o : Outlook). o.end) (whole_outlook more (λ over ended. may ended)) ∙ ends_so x.t end more is

  -- it was seen, where the text is whole
  seen_there : (end : TextEnd) → x.t.ending ≡ Some end → end ≡ Whole → taken.ended ≡ true
  seen_there end is whole =
      seen_more input x.mid taken x.r x.s x.t x.first.handed [] x.first.reads x.later.awaits.reads x.goes (is ∙ ap (λ (e : TextEnd). Some e) whole)

  ends_text : (end : TextEnd) → read.faults ≡ seen.faults → SeesTextEnd x.mid taken x.s x.t end → EndsText input taken end
  ends_text end same sees = record {
    text = whole_text x;
    came = came_whole;
    ends = ends_so_there end sees.ending;
    seen = seen_there end sees.ending;
    told = on_told input.left (λ text. (text_outlook text).end ≡ end) (λ text is. sees.told (text_outlook text).end (told_mid text is));
    faults = sees.faults ∙ none_failed same;
  }

  is_long : read.faults ≡ seen.faults → SeesTextEnd x.mid taken x.s x.t TooLong → x.t.pieces.taken ≡ most_input → IsLongText input taken
  is_long same sees taken_is =
      let ends = ends_text TooLong same sees in
      record {
        text = whole_text x;
        came = came_whole;
        most = record { faults = ends.faults; count = omega (arith, taken_whole, taken_is) };
        ends = ends_so_there TooLong sees.ending;
        told = ends.told;
      }

  -- no text gives so many bytes
  never_most : MostCame seen read → ⊥
  never_most long =
      let few = ap length (bytes_are (whole_text x) few_whole) in
      omega (arith, long.came.given, long.most.count, x.unread, read_count, gives_whole, few, outlook_few (whole_text x))

module _ {input taken seen read : SourceState} {sound : Bool} (x : ReadsOver input taken seen read sound (Ok tt)) where
  -- behind the end of the bytes it was seen how the text ends
  over_there : read.ended ≡ true → TextIsOver x.s
  over_there ended = elim (x.first.ended ended) [
    | inl before ↦ let e = sym x.unseen ∙ before in cc e
    | inr over ↦ over.0
  ]

  sees_whole : sound ≡ true → AllCame seen read → SeesTextEnd x.mid taken x.s x.t Whole × IsReadOut x.t
  sees_whole is all = (sees_end x is all.end.faults).1 (inr (over_there all.end.seen))

  pub whole_reads : (So : SourceState → SourceState → Type 0) → sound ≡ true → AllCame seen read → So seen read → EndsText input taken Whole × ReadsText AllRead input taken So
  whole_reads So is all so = let sees = sees_whole is all in (ends_text x Whole all.end.faults sees.0, out_reads x So sees.1 so)

  -- a command ends by what it read
  pub text_ends : (So All Sound : SourceState → SourceState → Type 0) (failure : Failure) → So seen read → IsOfBytes failure seen read sound (Sound seen read)
      → TextEnds failure input taken So All Sound
  text_ends So All Sound (failures.Fault (BadArmour number)) so known = absurd known
  text_ends So All Sound (failures.Fault Truncated) so known = whole_reads So known.0 known.1 so
  text_ends So All Sound (failures.Outside SourceFault) so known = (rose_text x known.0, good_reads x Sound (failed_out x known.0) known.1)
  text_ends So All Sound (failures.Outside InputTooLong) so known = absurd (never_most x known.0)
  text_ends So All Sound failure so known = still_reads x So known so

-- only behind sound bytes the text's end is an error
pub judged_sound : {input taken seen read : SourceState} {sound : Bool} (error : DecryptError) → ReadsOver input taken seen read sound (Err error) → sound ≡ true
judged_sound {sound = sound} error x = always_sound sound (Err error) error refl x.passes

-- which decides then how a command ends
pub text_decides : {input taken seen read : SourceState} {sound : Bool} (So All Sound : SourceState → SourceState → Type 0) (error : DecryptError)
    → ReadsOver input taken seen read sound (Err error) → read.faults ≡ seen.faults → All seen read → Sound seen read
    → TextEnds (decryption_failure error) input taken So All Sound
text_decides So All Sound (errors.Fault (BadArmour number)) x same all front =
    let sees = sees_end x (judged_sound _ x) same in (ends_text x (Bad number) same sees.0, out_reads x All sees.1 all)
text_decides So All Sound (errors.Outside SourceFault) x same all front =
    let sees = sees_end x (judged_sound _ x) same in let kept = none_failed x same in (omega (arith, sees.0, kept), good_reads x Sound sees.1 front)
text_decides So All Sound (errors.Outside InputTooLong) x same all front =
    let sees = sees_end x (judged_sound _ x) same in (is_long x same sees.0 sees.1, out_reads x Sound sees.2 front)
text_decides So All Sound (errors.Fault fault) x same all front = absurd (sees_end x (judged_sound _ x) same)
text_decides So All Sound (errors.Outside outside) x same all front = absurd (sees_end x (judged_sound _ x) same)
text_decides So All Sound errors.Memory x same all front = absurd (sees_end x (judged_sound _ x) same)

-- ---- memory ran out for the source

pub unread_text : (input : SourceState) (So : SourceState → SourceState → Type 0) → ((seen : SourceState) → So seen seen) → ReadsText NoMoreTaken input input So
unread_text input So so =
    let seen : SourceState = record { left = given_by_text input.left; given = 0; faults = 0; came = []; ended = false } in
    record {
      text = [];
      came = came_none input;
      few = omega arith;
      seen = seen;
      read = seen;
      gives = refl;
      begins = refl;
      none = refl;
      rest = (unarmoured []).bytes;
      bytes = refl;
      count = refl;
      reach = inl none_given;
      good = record { before = []; piece = []; all = refl; few = omega arith; was = none_bad };
      stayed = λ _. omega arith;
      so = so seen;
    }

-- ---- the judge

-- nothing is taken
pub looks_none : (input : SourceState) (r : ArmourReader) (faults : ℕ) (sound : Bool) → LooksOn input input r r faults faults sound
unfolding reads_none
looks_none input r faults sound = record { awaits = record { reads = reads_none input r; last = inl refl; stuck = λ some. (refl, refl) }; fails = fails_none input faults; still = λ unsound. refl }

-- what is so of an end that was seen
pub of_end : (ending : Option TextEnd) (end : TextEnd) (P : Type 0) → ending ≡ Some end → IfSome ending (λ e. P) → P
of_end ending end P is holds = subst (λ (o : Option TextEnd). IfSome o (λ e. P)) is holds

-- the end that was seen is the one that is told
pub end_seen : (before now : SourceState) (old new : ArmourReader) (ending : Option TextEnd) (end : TextEnd) → ArmourReadsOn before now old new [] → ending ≡ new.ending
    → ((told : TextEnd) → told_end now new ≡ Some told → IfSome ending (λ e. e ≡ told)) → ending ≡ Some end → now.faults ≡ before.faults
    → SeesTextEnd before now old new end
end_seen before now old new ending end reads from seen is same = record {
  ending = sym from ∙ is;
  told = λ told tells.
      let other : IfSome ending (λ e. e ≡ told) = seen told (reads.end told tells) in
      let one : end ≡ told = subst (λ (o : Option TextEnd). IfSome o (λ e. e ≡ told)) is other in
      sym one;
  faults = same;
}

-- behind all bytes it was seen
none_unseen : (before now : SourceState) (old new : ArmourReader) → KeepsOutlook before now old new → (new.ending ≡ None → 1 ≤ length (pending new)) → left_of before old ≡ Some []
    → new.ending ≡ None → ⊥
unfolding reader_outlook
none_unseen before now old new keeps some left unseen = by_left before.left refl
  where
    by_left : (l : Option (List ℕ)) → before.left ≡ l → ⊥
    by_left None is =
        let none : option_map (λ text. (reader_outlook old text).bytes) None ≡ Some [] = sym (ap (λ (l : Option (List ℕ)). option_map (λ text. (reader_outlook old text).bytes) l) is) ∙ left in
        cc none
    by_left (Some text) is =
        let all : Some (reader_outlook old text).bytes ≡ Some [] = sym (ap (λ (l : Option (List ℕ)). option_map (λ t. (reader_outlook old t).bytes) l) is) ∙ left in
        let k = keeps text is in
        let none : (reader_outlook new k.0).bytes ≡ [] = ap (λ (o : Outlook). o.bytes) k.2 ∙ cc all in
        let some_pending : 1 ≤ length (pending new) = some unseen in
        omega (arith, some_pending, ap length none, length-append (pending new) (coming new.ending new k.0).bytes)

pub none_behind : (before now : SourceState) (old new : ArmourReader) → ArmourReadsOn before now old new [] → KeepsOutlook before now old new → (new.ending ≡ None → 1 ≤ length (pending new)) → TextIsBehind before old
    → new.ending ≡ None → ⊥
none_behind before now old new reads keeps some (inl left) unseen = none_unseen before now old new keeps some left unseen
none_behind before now old new reads keeps some (inr over) unseen = (reads.over over).1 unseen
