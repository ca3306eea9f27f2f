-- A source of armour text that is read.
use Rattle.std.proofs.Common.{◌≡◌, ◌⊎◌, ℕ, ◌+◌, ◌-◌, ◌*◌, ◌^◌, ◌<◌, ◌≤◌, min, Bool, List, [], ◌∷◌, ◌++◌, length, Option, Some, None, refl, sym, subst, ap, ◌∙◌, arith, inl, inr, if◌then◌else◌}
use Rattle.std.specs.Prelude.{IfSome}
use Rattle.std.specs.Option.{is_none, option_map}
use Rattle.std.specs.Io.KnownBytes.{Consumes, IsAtEnd, Keeps}
use Rattle.std.proofs.lemmas.Bool.{cases_lt}
use Rattle.std.proofs.lemmas.List.{append-nil, length-append}
use Rattle.whole_input.specs.Pieces.{APieceBehind}
use Rattle.whole_input.proofs.Coming.{came_none}
use Rattle.esdk_fields.specs.Counts.{Rose, counted}
use Rattle.esdk_base.specs.Streams.{SourceState}
use Rattle.armour_core.specs.declared.reader.ArmourReader.{ArmourReader}
use Rattle.armour_core.specs.declared.text_end.TextEnd.{TextEnd}
use Rattle.armour_core.specs.declared.text_end.TextEnd.TheVariants.{Whole}
use Rattle.armour_core.specs.Outlook.{Outlook, with_front}
use Rattle.armour_core.specs.ReaderLaws.{gives_behind, reads_more, reads_none}
use Rattle.armour_core.specs.ReaderOutlook.{Awaits, EndsAs, FailsAs, IsReadSoFar, IsWanted, KeepsOutlook, Outlasts, ArmourReadsOn, TakesPiece, coming, gives, pending, reader_outlook, text_room, told_end, text_turns_left}

-- ---- what is kept

pub keeps_none : (input : SourceState) (r : ArmourReader) → KeepsOutlook input input r r
keeps_none input r text told = (text, told, refl)

pub keeps_same : (before now : SourceState) (r s t : ArmourReader) → KeepsOutlook before now r s → ((text : List ℕ) → reader_outlook t text ≡ reader_outlook s text) → KeepsOutlook before now r t
keeps_same before now r s t keeps same text told = let k = keeps text told in (k.0, k.1, same k.0 ∙ k.2)

pub keeps_more : (a b c : SourceState) (r s t : ArmourReader) → KeepsOutlook a b r s → KeepsOutlook b c s t → KeepsOutlook a c r t
keeps_more a b c r s t one two text told = let k = one text told in let m = two k.0 k.1 in (m.0, m.1, m.2 ∙ k.2)

-- the end is the same where the outlook is, but for bytes in front
same_end : (left : Option (List ℕ)) (s t : ArmourReader) → ((text : List ℕ) → (reader_outlook s text).end ≡ (reader_outlook t text).end) → option_map (λ text. (reader_outlook t text).end) left ≡ option_map (λ text. (reader_outlook s text).end) left
same_end None s t same = refl
same_end (Some text) s t same = ap (λ (e : TextEnd). Some e) (sym (same text))

-- bytes that are handed on of the last piece
pub hands_on : (input : SourceState) (s t : ArmourReader) (front : List ℕ) → ((text : List ℕ) → reader_outlook s text ≡ with_front front (reader_outlook t text)) → t.pieces ≡ s.pieces → (t.ending ≡ None → s.ending ≡ None)
    → (t.ending ≡ Some Whole → s.ending ≡ Some Whole) → ArmourReadsOn input input s t front
hands_on input s t front handed pieces goes whole = record {
  text = [];
  came = came_none input;
  taken = omega (arith, ap (λ p. p.taken) pieces);
  end = λ end is. same_end input.left s t (λ text. ap (λ (o : Outlook). o.end) (handed text)) ∙ is;
  over = λ over. (refl, λ none. over (goes none), refl);
  seen = λ on is. let e = sym on ∙ whole is in cc e;
  good = inl refl;
  all = λ more may. handed more;
}

-- text of the last piece that is read
pub awaits_same : (before now : SourceState) (r s t : ArmourReader) (k : ℕ) → k ≡ 0 → Awaits before now r s k → ((text : List ℕ) → reader_outlook t text ≡ reader_outlook s text) → t.pieces ≡ s.pieces → (t.ending ≡ None → s.ending ≡ None)
    → (t.ending ≡ Some Whole → s.ending ≡ Some Whole) → Awaits before now r t k
awaits_same before now r s t k zero awaits same pieces goes whole = record {
  reads = record {
    text = awaits.reads.text;
    came = awaits.reads.came;
    taken = ap (λ p. p.taken) pieces ∙ awaits.reads.taken;
    end = λ end is. same_end now.left s t (λ text. ap (λ (o : Outlook). o.end) (sym (same text))) ∙ awaits.reads.end end is;
    over = λ over. let o = awaits.reads.over over in (o.0, λ none. o.1 (goes none), o.2);
    seen = λ on is. awaits.reads.seen on (whole is);
    good = awaits.reads.good;
    all = λ more may. awaits.reads.all more (λ over. may (λ none. over (goes none))) ∙ sym (same more);
  };
  last = awaits.last;
  stuck = λ some. absurd (omega (arith, zero, some));
}

pub awaits_none : (input : SourceState) (r : ArmourReader) (k : ℕ) → Awaits input input r r k
unfolding reads_none
awaits_none input r k = record { reads = reads_none input r; last = inl refl; stuck = λ some. (refl, refl) }

-- a piece more, where none of the text before gave a byte
pub awaits_more : (a b c : SourceState) (r s t : ArmourReader) (k : ℕ) → k ≡ 0 → Awaits a b r s k → gives s [] ≡ 0 → TakesPiece b c s t → Awaits a c r t k
unfolding reads_more
awaits_more a b c r s t k zero awaits none takes = record {
  reads = reads_more a b c r s t [] [] awaits.reads takes.reads;
  last = inr (record {
    before = awaits.reads.text;
    piece = takes.reads.text;
    all = refl;
    few = takes.few;
    was = let front = gives_behind a b r s [] awaits.reads in omega (arith, front, none);
  });
  stuck = λ some. absurd (omega (arith, zero, some));
}

-- ---- failures

pub fails_ok : (before now : SourceState) (k n : ℕ) → n ≡ k → now.faults ≡ before.faults → FailsAs before now k n
fails_ok before now k n same stays = record { later = omega (arith, same); kept = omega (arith, stays); failed = λ none some. absurd (omega (arith, same, none, some)); same = λ _ _. stays }

pub fails_err : (before now : SourceState) (k n : ℕ) → k < n → Rose before.faults now.faults → FailsAs before now k n
fails_err before now k n more rose = record { later = omega (arith, more); kept = omega (arith, rose); failed = λ none some. rose; same = λ is few. absurd (omega (arith, is, more)) }

pub fails_again : (input : SourceState) (k n : ℕ) → 1 ≤ k → k ≤ 2 ^ 64 - 1 → n ≡ min (k + 1) (2 ^ 64 - 1) → FailsAs input input k n
fails_again input k n some few is = record { later = omega (arith, few, is); kept = omega arith; failed = λ none _. absurd (omega (arith, none, some)); same = λ _ _. refl }

-- ---- a read

-- one that gave so many bytes
pub read_outlasts : (before now : SourceState) (r s t : ArmourReader) (front : List ℕ) (given gave k n : ℕ) (came comes : List ℕ) (ended ends : Bool) → Awaits before now r s k → FailsAs before now k n → k ≡ 0 → n ≡ 0 → gave ≡ counted given (length front)
    → ((text : List ℕ) → reader_outlook s text ≡ with_front front (reader_outlook t text)) → t.pieces ≡ s.pieces → (t.ending ≡ None → s.ending ≡ None) → (t.ending ≡ Some Whole → s.ending ≡ Some Whole)
    → (1 ≤ length front) ⊎ (gives s [] ≡ 0) → comes ≡ came ++ front → EndsAs t ended ends → Outlasts before now r t given gave k n came comes ended ends
unfolding reads_more hands_on
read_outlasts before now r s t front given gave k n came comes ended ends awaits fails zero none counts handed pieces goes is_whole some more_came at_end =
    let on = hands_on now s t front handed pieces goes is_whole in
    let whole = reads_more before now now r s t [] front awaits.reads on in
    record {
      handed = front;
      given = counts;
      came = more_came;
      ended = at_end;
      reads = whole;
      wanted = by_some awaits.last some;
      faults = fails;
      stuck = λ more. absurd (omega (arith, zero, more));
      spent = λ _ more. absurd (omega (arith, none, more));
    }
  where
    text : List ℕ
    text = awaits.reads.text ++ []

    same : text ≡ awaits.reads.text
    same = append-nil awaits.reads.text

    by_some : (awaits.reads.text ≡ []) ⊎ APieceBehind (λ b. gives r b ≡ 0) awaits.reads.text → (1 ≤ length front) ⊎ (gives s [] ≡ 0) → (text ≡ []) ⊎ IsWanted r text (length front)
    by_some (inl empty) some = inl (same ∙ empty)
    by_some (inr last) (inl some) = inr (inr (record { before = last.before; piece = last.piece; all = same ∙ last.all; few = last.few; was = omega (arith, last.was, some) }))
    by_some (inr last) (inr over) =
        let front_is = gives_behind before now r s [] awaits.reads in
        let rest = ap (λ (o : Outlook). length o.bytes) (handed []) ∙ length-append front (reader_outlook t []).bytes in
        inr (inl (omega (arith, ap (gives r) same, front_is, over, rest)))

-- one that failed
pub failed_outlasts : (before now : SourceState) (r s : ArmourReader) (given gave k n : ℕ) (came comes : List ℕ) (ended ends : Bool) → Awaits before now r s k → FailsAs before now k n → gave ≡ given → given ≤ 2 ^ 64 - 1
    → (k ≡ 0 → IsReadSoFar s) → comes ≡ came → ends ≡ ended → Outlasts before now r s given gave k n came comes ended ends
failed_outlasts before now r s given gave k n came comes ended ends awaits fails same few spent none_came none_seen = record {
  handed = [];
  given = omega (arith, same, few);
  came = none_came ∙ sym (append-nil came);
  ended = λ is. inl (sym none_seen ∙ is);
  reads = awaits.reads;
  wanted = elim (cases_lt 0 k) [
    | inl stuck ↦ inl (awaits.stuck (omega (arith, stuck))).1
    | inr first ↦ (let front = gives_behind before now r s [] awaits.reads in let none = (spent (omega (arith, first))).0 in inr (inl (omega (arith, front, none))))
  ];
  faults = fails;
  stuck = λ some. (awaits.stuck some).0;
  spent = λ none _. spent none;
}

-- ---- the turns of the loop

pub turns_fall : (s next t : ArmourReader) → s.ending ≡ None → next.pieces ≡ s.pieces → s.pieces.taken ≤ t.pieces.taken → (t.ending ≡ None → next.pieces.taken < t.pieces.taken) → text_turns_left t < text_turns_left s
turns_fall s next t goes pieces later falls =
    let one : text_turns_left s ≡ 2 * text_room s + 1 = ap (λ (e : Option TextEnd). 2 * text_room s + (if is_none e then 1 else 0)) goes in
    by_end t.ending refl one
  where
    by_end : (e : Option TextEnd) → t.ending ≡ e → text_turns_left s ≡ 2 * text_room s + 1 → text_turns_left t < text_turns_left s
    by_end None is one =
        let two : text_turns_left t ≡ 2 * text_room t + 1 = ap (λ (e : Option TextEnd). 2 * text_room t + (if is_none e then 1 else 0)) is in
        omega (arith, one, two, falls is, ap (λ p. p.taken) pieces, t.most)
    by_end (Some end) is one =
        let two : text_turns_left t ≡ 2 * text_room t + 0 = ap (λ (e : Option TextEnd). 2 * text_room t + (if is_none e then 1 else 0)) is in
        omega (arith, one, two, later)

-- ---- what a read leaves

-- the bytes that are left
abbrev pub left_of : SourceState → ArmourReader → Option (List ℕ)
left_of input r = option_map (λ text. (reader_outlook r text).bytes) input.left

pub read_consumes : (before now : SourceState) (r s t : ArmourReader) (front : List ℕ) → KeepsOutlook before now r s → ((text : List ℕ) → reader_outlook s text ≡ with_front front (reader_outlook t text))
    → Consumes (left_of before r) (left_of now t) front
read_consumes before now r s t front keeps handed = by_left before.left refl
  where
    by_left : (left : Option (List ℕ)) → before.left ≡ left → Consumes (option_map (λ text. (reader_outlook r text).bytes) left) (left_of now t) front
    by_left None is = tt
    by_left (Some text) is =
        let k = keeps text is in
        subst (λ (l : Option (List ℕ)). Consumes (Some (reader_outlook r text).bytes) (option_map (λ x. (reader_outlook t x).bytes) l) front) (sym k.1)
        (ap (λ (o : Outlook). o.bytes) (sym k.2 ∙ handed k.0))

pub read_keeps : (before now : SourceState) (r s : ArmourReader) → KeepsOutlook before now r s → Keeps (left_of before r) (left_of now s)
read_keeps before now r s keeps = by_left before.left refl
  where
    by_left : (left : Option (List ℕ)) → before.left ≡ left → Keeps (option_map (λ text. (reader_outlook r text).bytes) left) (left_of now s)
    by_left None is = tt
    by_left (Some text) is =
        let k = keeps text is in
        subst (λ (l : Option (List ℕ)). Keeps (Some (reader_outlook r text).bytes) (option_map (λ x. (reader_outlook s x).bytes) l)) (sym k.1) (ap (λ (o : Outlook). o.bytes) k.2)

-- where no byte is pending and it was seen how the text ends, none comes
none_comes : (s : ArmourReader) (end : Option TextEnd) (text : List ℕ) → s.ending ≡ end → (end ≡ None → 1 ≤ length (pending s)) → length (pending s) ≤ 0 → (reader_outlook s text).bytes ≡ []
unfolding reader_outlook
none_comes s None text is some none = let x = some refl in absurd (omega (arith, x, none))
none_comes s (Some end) text is some none =
    ap (λ (e : Option TextEnd). (with_front (pending s) (coming e s text)).bytes) is ∙ ap (λ (b : List ℕ). b ++ []) (empty (pending s) none)
  where
    empty : (xs : List ℕ) → length xs ≤ 0 → xs ≡ []
    empty [] none = refl
    empty (x ∷ xs) none = absurd (omega (arith, none))

front_none : (xs front : List ℕ) (ys : List ℕ) → xs ≡ [] → xs ≡ front ++ ys → length front ≤ 0 → ys ≡ []
front_none xs [] ys none is few = sym is ∙ none
front_none xs (x ∷ front) ys none is few = absurd (omega (arith, few))

pub read_ends : (now : SourceState) (s t : ArmourReader) (front : List ℕ) → (s.ending ≡ None → 1 ≤ length (pending s)) → length (pending s) ≤ 0 → ((text : List ℕ) → reader_outlook s text ≡ with_front front (reader_outlook t text)) → length front ≤ 0
    → IsAtEnd (left_of now t)
read_ends now s t front some none handed few = by_left now.left
  where
    by_left : (left : Option (List ℕ)) → IsAtEnd (option_map (λ text. (reader_outlook t text).bytes) left)
    by_left None = tt
    by_left (Some text) = front_none (reader_outlook s text).bytes front (reader_outlook t text).bytes (none_comes s s.ending text refl some none) (ap (λ (o : Outlook). o.bytes) (handed text)) few

pub nothing : (n : ℕ) → (1 ≤ n → ⊥) → n ≤ 0
nothing n none = elim (cases_lt 0 n) [
  | inl some ↦ absurd (none (omega (arith, some)))
  | inr few ↦ few
]

-- the end that was seen is the one that was told
pub seen_told : (input : SourceState) (r : ArmourReader) (told : TextEnd) → told_end input r ≡ Some told → IfSome r.ending (λ end. end ≡ told)
unfolding reader_outlook
seen_told input r told is = by_end r.ending refl
  where
    by_left : (left : Option (List ℕ)) (end : TextEnd) → r.ending ≡ Some end → option_map (λ text. (reader_outlook r text).end) left ≡ Some told → end ≡ told
    by_left None end ended is = cc is
    by_left (Some text) end ended is =
        let same : (coming r.ending r text).end ≡ told = cc is in
        sym (ap (λ (e : Option TextEnd). (coming e r text).end) ended) ∙ same

    by_end : (end : Option TextEnd) → r.ending ≡ end → IfSome end (λ e. e ≡ told)
    by_end None ended = tt
    by_end (Some end) ended = by_left input.left end ended is
