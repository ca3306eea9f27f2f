-- A reader of a source's text keeps the laws of sources, which an `impl` can cite from specs/
-- alone.
use Rattle.std.proofs.Common.{◌≡◌, ◌⊎◌, ℕ, ◌+◌, ◌-◌, ◌^◌, ◌≤◌, Bool, true, List, [], ◌∷◌, ◌++◌}
use Rattle.std.proofs.Common.{length, Option, Some, None, refl, sym, subst, ap, ◌∙◌, arith, inl}
use Rattle.std.proofs.Common.{inr, append_assoc}
use Rattle.std.proofs.lemmas.List.{append-nil, length-append}
use Rattle.std.proofs.lemmas.Bool.{cases_lt}
use Rattle.whole_input.proofs.Coming.{came_more, came_none}
use Rattle.whole_input.specs.Pieces.{APieceBehind}
use Rattle.esdk_base.specs.Streams.{SourceState}
use Rattle.armour_core.specs.declared.reader.ArmourReader.{ArmourReader}
use Rattle.armour_core.specs.declared.text_end.TextEnd.{TextEnd}
use Rattle.armour_core.specs.declared.text_end.TextEnd.TheVariants.{Whole}
use Rattle.armour_core.specs.Outlook.{Outlook, with_front}
use Rattle.armour_core.specs.ReaderOutlook.{EndsAs, FailsAs, TextIsOver, IsWanted, Outlasts}
use Rattle.armour_core.specs.ReaderOutlook.{ArmourReadsOn, GroupsAreGood, IsReadSoFar, coming}
use Rattle.armour_core.specs.ReaderOutlook.{gives, reader_outlook}

-- ---- text that is read on

-- a reader that saw how the text ends says so
pub ends_so : (r : ArmourReader) (end : TextEnd) (text : List ℕ) → r.ending ≡ Some end
    → (reader_outlook r text).end ≡ end
unfolding reader_outlook
ends_so r end text is = ap (λ (e : Option TextEnd). (coming e r text).end) is

pub with_both : (a b : List ℕ) (l : Outlook) → with_front a (with_front b l) ≡ with_front (a ++ b) l
with_both a b l =
    ap (λ (x : List ℕ). let o : Outlook = record { bytes = x; end = l.end } in o)
    (sym (append_assoc a b l.bytes))

unfoldable pub reads_none : (input : SourceState) (r : ArmourReader)
    → ArmourReadsOn input input r r []
reads_none input r = record {
  text = [];
  came = came_none input;
  taken = omega arith;
  end = λ end is. is;
  over = λ over. (refl, over, refl);
  seen = λ goes whole. let e = sym goes ∙ whole in cc e;
  good = inl refl;
  all = λ more may. refl;
}

-- a text that is called whole behind an end that was seen before was whole there
pub seen_more : (a b c : SourceState) (r s t : ArmourReader) (h k : List ℕ)
    → ArmourReadsOn a b r s h
    → ArmourReadsOn b c s t k → r.ending ≡ None → t.ending ≡ Some Whole → c.ended ≡ true
seen_more a b c r s t h k one two goes whole = by_end s.ending refl
  where
    by_end : (e : Option TextEnd) → s.ending ≡ e → c.ended ≡ true
    by_end None is = two.seen is whole
    by_end (Some end) is =
        let over = two.over (λ none. let e = sym is ∙ none in cc e) in
        let same : end ≡ Whole =
        sym (ends_so s end (two.text ++ []) is)
        ∙ ap (λ (o : Outlook). o.end) (two.all [] (λ _ _. refl)) ∙ ends_so t Whole [] whole in
        ap (λ (i : SourceState). i.ended) over.2
        ∙ one.seen goes (is ∙ ap (λ (e : TextEnd). Some e) same)

-- good groups behind those that were read
pub good_behind : (a b : SourceState) (r s : ArmourReader) (h : List ℕ)
    (reads : ArmourReadsOn a b r s h)
    → s.ending ≡ None → (text : List ℕ) → GroupsAreGood s text
    → GroupsAreGood r (reads.text ++ text)
good_behind a b r s h reads goes text good = (
  good.0,
  ap (λ (x : List ℕ). (reader_outlook r x).end) (append_assoc reads.text text good.0)
      ∙ ap (λ (o : Outlook). o.end) (reads.all (text ++ good.0) (λ over _. absurd (over goes)))
      ∙ good.1,
)

-- no group is bad before, where none is behind
pub good_before : (a b : SourceState) (r s : ArmourReader) (h : List ℕ)
    (reads : ArmourReadsOn a b r s h) → GroupsAreGood s [] → GroupsAreGood r reads.text
good_before a b r s h reads good = by_end s.ending refl
  where
    by_end : (e : Option TextEnd) → s.ending ≡ e → GroupsAreGood r reads.text
    by_end None is = (
      good.0,
      ap (λ (o : Outlook). o.end) (reads.all good.0 (λ over _. absurd (over is))) ∙ good.1,
    )
    by_end (Some end) is = (
      [],
      ap (λ (o : Outlook). o.end) (reads.all [] (λ _ _. refl)) ∙ ends_so s end [] is
          ∙ sym (ends_so s end good.0 is) ∙ good.1,
    )

pub good_more : (a b c : SourceState) (r s t : ArmourReader) (h k : List ℕ)
    (one : ArmourReadsOn a b r s h) (two : ArmourReadsOn b c s t k)
    → (one.text ++ two.text ≡ []) ⊎ APieceBehind (GroupsAreGood r) (one.text ++ two.text)
good_more a b c r s t h k one two = by_end s.ending refl two.good
  where
    before : two.text ≡ [] → (one.text ≡ []) ⊎ APieceBehind (GroupsAreGood r) one.text
        → (one.text ++ two.text ≡ []) ⊎ APieceBehind (GroupsAreGood r) (one.text ++ two.text)
    before none (inl empty) =
        inl (ap (λ (x : List ℕ). one.text ++ x) none ∙ append-nil one.text ∙ empty)
    before none (inr last) = inr (record {
      before = last.before;
      piece = last.piece;
      all = ap (λ (x : List ℕ). one.text ++ x) none ∙ append-nil one.text ∙ last.all;
      few = last.few;
      was = last.was;
    })

    by_end : (e : Option TextEnd) → s.ending ≡ e
        → (two.text ≡ []) ⊎ APieceBehind (GroupsAreGood s) two.text
        → (one.text ++ two.text ≡ []) ⊎ APieceBehind (GroupsAreGood r) (one.text ++ two.text)
    by_end e is (inl none) = before none one.good
    by_end (Some end) is (inr last) =
        before (two.over (λ none. let e = sym is ∙ none in cc e)).0 one.good
    by_end None is (inr last) = inr (record {
      before = one.text ++ last.before;
      piece = last.piece;
      all = ap (λ (x : List ℕ). one.text ++ x) last.all
          ∙ sym (append_assoc one.text last.before last.piece);
      few = last.few;
      was = good_behind a b r s h one is last.before last.was;
    })

unfoldable pub reads_more : (a b c : SourceState) (r s t : ArmourReader) (h k : List ℕ)
    → ArmourReadsOn a b r s h → ArmourReadsOn b c s t k → ArmourReadsOn a c r t (h ++ k)
reads_more a b c r s t h k one two = record {
  text = one.text ++ two.text;
  came = came_more a b c one.text two.text one.came two.came;
  taken = omega (arith, one.taken, two.taken, length-append one.text two.text);
  end = λ end is. two.end end (one.end end is);
  over = λ over.
      let first = one.over over in
      let second = two.over first.1 in
      (ap (λ (x : List ℕ). x ++ two.text) first.0 ∙ second.0, second.1, second.2 ∙ first.2);
  seen = seen_more a b c r s t h k one two;
  good = good_more a b c r s t h k one two;
  all = λ more may.
      let first = one.all (two.text ++ more) (λ over ended.
      let none = two.over over in
      ap (λ (x : List ℕ). x ++ more) none.0
      ∙ may none.1 (ap (λ (i : SourceState). i.ended) none.2 ∙ ended)) in
      ap (reader_outlook r) (append_assoc one.text two.text more) ∙ first
      ∙ ap (with_front h) (two.all more may) ∙ with_both h k (reader_outlook t more);
}

-- so many bytes are to come before and behind
pub gives_all : (a b : SourceState) (r s : ArmourReader) (h : List ℕ)
    (reads : ArmourReadsOn a b r s h)
    → (more : List ℕ) → (TextIsOver s → b.ended ≡ true → more ≡ [])
    → gives r (reads.text ++ more) ≡ length h + gives s more
gives_all a b r s h reads more may =
    ap (λ (o : Outlook). length o.bytes) (reads.all more may)
    ∙ length-append h (reader_outlook s more).bytes

-- what is to come behind the text that was read
pub outlook_behind : (a b : SourceState) (r s : ArmourReader) (h : List ℕ)
    (reads : ArmourReadsOn a b r s h)
    → reader_outlook r reads.text ≡ with_front h (reader_outlook s [])
outlook_behind a b r s h reads =
    ap (reader_outlook r) (sym (append-nil reads.text)) ∙ reads.all [] (λ _ _. refl)

pub gives_behind : (a b : SourceState) (r s : ArmourReader) (h : List ℕ)
    (reads : ArmourReadsOn a b r s h) → gives r reads.text ≡ length h + gives s []
gives_behind a b r s h reads =
    ap (λ (o : Outlook). length o.bytes) (outlook_behind a b r s h reads)
    ∙ length-append h (reader_outlook s []).bytes

-- ---- no more than was wanted

front_nil : (front piece : List ℕ) → front ++ piece ≡ [] → front ≡ []
front_nil [] piece none = refl
front_nil (x ∷ front) piece none = cc none

-- text that is read on behind a front
wanted_later : (a b c : SourceState) (r s t : ArmourReader) (h k : List ℕ)
    (one : ArmourReadsOn a b r s h) (two : ArmourReadsOn b c s t k) → IsWanted s two.text (length k)
    → IsWanted r (one.text ++ two.text) (length (h ++ k))
wanted_later a b c r s t h k one two (inl all) =
    let whole = gives_all a b r s h one two.text (λ over _. (two.over over).0) in
    inl (omega (arith, whole, all, length-append h k))
wanted_later a b c r s t h k one two (inr last) =
    let front = gives_all a b r s h one last.before (λ over _.
    front_nil last.before last.piece (sym last.all ∙ (two.over over).0)) in
    inr (record {
      before = one.text ++ last.before;
      piece = last.piece;
      all = ap (λ (x : List ℕ). one.text ++ x) last.all
          ∙ sym (append_assoc one.text last.before last.piece);
      few = last.few;
      was = omega (arith, front, last.was, length-append h k);
    })

-- no text is read on
pub wanted_before : (a b c : SourceState) (r s t : ArmourReader) (h k : List ℕ)
    (one : ArmourReadsOn a b r s h) (two : ArmourReadsOn b c s t k) → two.text ≡ []
    → IsWanted r one.text (length h) → IsWanted r (one.text ++ two.text) (length (h ++ k))
wanted_before a b c r s t h k one two none (inl all) =
    let same : one.text ++ two.text ≡ one.text =
    ap (λ (x : List ℕ). one.text ++ x) none ∙ append-nil one.text in
    let first = gives_behind a b r s h one in
    let second = gives_behind b c s t k two in
    inl (omega (
      arith,
      ap (gives r) same,
      all,
      first,
      second,
      ap (gives s) none,
      length-append h k,
    ))
wanted_before a b c r s t h k one two none (inr last) = inr (record {
  before = last.before;
  piece = last.piece;
  all = ap (λ (x : List ℕ). one.text ++ x) none ∙ append-nil one.text ∙ last.all;
  few = last.few;
  was = omega (arith, last.was, length-append h k);
})

wanted_more : (a b c : SourceState) (r s t : ArmourReader) (h k : List ℕ)
    (one : ArmourReadsOn a b r s h) (two : ArmourReadsOn b c s t k)
    → (one.text ≡ []) ⊎ IsWanted r one.text (length h)
    → (two.text ≡ []) ⊎ IsWanted s two.text (length k)
    → (one.text ++ two.text ≡ []) ⊎ IsWanted r (one.text ++ two.text) (length (h ++ k))
wanted_more a b c r s t h k one two first (inr wanted) =
    inr (wanted_later a b c r s t h k one two wanted)
wanted_more a b c r s t h k one two (inl before) (inl none) =
    inl (ap (λ (x : List ℕ). x ++ two.text) before ∙ none)
wanted_more a b c r s t h k one two (inr wanted) (inl none) =
    inr (wanted_before a b c r s t h k one two none wanted)

-- ---- failures

pub fails_none : (input : SourceState) (faults : ℕ) → FailsAs input input faults faults
fails_none input faults = record {
  later = omega arith;
  kept = omega arith;
  failed = λ none some. absurd (omega (arith, none, some));
  same = λ is few. refl;
}

pub fails_more : (a b c : SourceState) (k m n : ℕ) → FailsAs a b k m → FailsAs b c m n
    → FailsAs a c k n
fails_more a b c k m n one two = record {
  later = omega (arith, one.later, two.later);
  kept = omega (arith, one.kept, two.kept);
  failed = λ none some. elim (cases_lt 0 m) [
    | inl first ↦
        let rose = one.failed none (omega (arith, first)) in omega (arith, rose, two.kept)
    | inr later ↦
        let rose = two.failed (omega (arith, later)) some in omega (arith, rose, one.kept)
  ];
  same = λ is few.
      let kept : m ≡ k = omega (arith, is, one.later, two.later) in
      let then_kept : n ≡ m = omega (arith, is, one.later, two.later) in
      two.same then_kept few ∙ one.same kept (omega (arith, kept, is, few));
}

-- ---- the end of the source over it

ends_more : (b c : SourceState) (s t : ArmourReader) (k : List ℕ) (u v w : Bool)
    → ArmourReadsOn b c s t k → EndsAs s u v → EndsAs t v w → EndsAs t u w
ends_more b c s t k u v w two first second ended = by_last (second ended)
  where
    by_first : (u ≡ true) ⊎ (TextIsOver s × (gives s [] ≡ 0))
        → (u ≡ true) ⊎ (TextIsOver t × (gives t [] ≡ 0))
    by_first (inl before) = inl before
    by_first (inr seen) =
        let over = two.over seen.0 in
        let rest = gives_behind b c s t k two in
        inr (over.1, omega (arith, ap (gives s) over.0, rest, seen.1))

    by_last : (v ≡ true) ⊎ (TextIsOver t × (gives t [] ≡ 0))
        → (u ≡ true) ⊎ (TextIsOver t × (gives t [] ≡ 0))
    by_last (inl before) = by_first (first before)
    by_last (inr seen) = inr seen

-- ---- all of it

pub outlasts_none : (input : SourceState) (r : ArmourReader) (given faults : ℕ) (came : List ℕ)
    (ended : Bool) → given ≤ 2 ^ 64 - 1
    → Outlasts input input r r given given faults faults came came ended ended
unfolding reads_none
outlasts_none input r given faults came ended few = record {
  handed = [];
  given = omega (arith, few);
  came = sym (append-nil came);
  ended = λ is. inl is;
  reads = reads_none input r;
  wanted = inl refl;
  faults = fails_none input faults;
  stuck = λ some. refl;
  spent = λ none some. absurd (omega (arith, none, some));
}

pub outlasts_more : (a b c : SourceState) (r s t : ArmourReader) (f g h k m n : ℕ)
    (x y z : List ℕ) (u v w : Bool) → Outlasts a b r s f g k m x y u v
    → Outlasts b c s t g h m n y z v w → Outlasts a c r t f h k n x z u w
unfolding reads_more
outlasts_more a b c r s t f g h k m n x y z u v w one two = record {
  handed = one.handed ++ two.handed;
  given = omega (arith, one.given, two.given, length-append one.handed two.handed);
  came = two.came ∙ ap (λ (l : List ℕ). l ++ two.handed) one.came
      ∙ append_assoc x one.handed two.handed;
  ended = ends_more b c s t two.handed u v w two.reads one.ended two.ended;
  reads = reads_more a b c r s t one.handed two.handed one.reads two.reads;
  wanted =
      wanted_more a b c r s t one.handed two.handed one.reads two.reads one.wanted two.wanted;
  faults = fails_more a b c k m n one.faults two.faults;
  stuck = λ some.
      two.stuck (omega (arith, some, one.faults.later)) ∙ one.stuck some;
  spent = λ none some. elim (cases_lt 0 m) [
    | inl first ↦
        subst IsReadSoFar (sym (two.stuck (omega (arith, first))))
        (one.spent none (omega (arith, first)))
    | inr later ↦ two.spent (omega (arith, later)) some
  ];
}
