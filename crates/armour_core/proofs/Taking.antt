-- A reader that takes a piece more of its text.
use Rattle.std.proofs.Common.{◌≡◌, ◌⊎◌, ℕ, zero, suc, ◌+◌, ◌<◌, ◌≤◌, ◌==◌, nat_le, Bool, true, false, List, [], ◌∷◌, ◌++◌, length, take, drop, Option, Some, None, Err, refl, sym, subst, ap, ◌∙◌, arith, inl, inr}
use Rattle.std.specs.Option.{option_map}
use Rattle.std.specs.Io.KnownBytes.{Consumes, IsAtEnd}
use Rattle.std.proofs.lemmas.Bool.{cases_lt, eqb-true, le-leb, lt-leb}
use Rattle.std.specs.Prelude.{IfSome}
use Rattle.std.proofs.lemmas.List.{drop_all, length-append, take_all}
use Rattle.std.proofs.Math.Seq.{drop-nil, take-append-add, take-nil}
use Rattle.esdk_base.specs.Streams.{SourceState, most_input}
use Rattle.whole_input.specs.Pieces.{NextPiece, PiecesValue, most_piece}
use Rattle.whole_input.specs.declared.pieces.End.{End}
use Rattle.whole_input.specs.declared.pieces.End.TheVariants as ends
use Rattle.whole_input.specs.Taken.{Came}
use Rattle.whole_input.proofs.Coming.{came_none}
use Rattle.armour_core.specs.declared.reader.ArmourReader.{ArmourReader}
use Rattle.armour_core.specs.declared.text_end.TextEnd.{TextEnd}
use Rattle.armour_core.specs.declared.text_end.TextEnd.TheVariants.{TooLong, Whole}
use Rattle.armour_core.specs.declared.unarmour.Unarmour.{Unarmour}
use Rattle.armour_core.specs.Outlook.{Outlook, end_of, holds_some, open_of, open_on, read_on, read_out, with_front}
use Rattle.armour_core.specs.Stands.{OpenGroup}
use Rattle.armour_core.specs.Unarmoured.{characters}
use Rattle.armour_core.specs.ReaderOutlook.{EndsAs, GroupsAreGood, IsReadSoFar, TextIsOver, TextIsSpent, KeepsOutlook, TakesPiece, coming, gives, pending, reader_outlook, text_room, told_end, unread}
use Rattle.armour_core.proofs.Readers.{no_more}

-- ---- what a source tells

consumed : (a b : Option (List ℕ)) (bytes text : List ℕ) → Consumes a b bytes → a ≡ Some text → (rest : List ℕ) × (b ≡ Some rest) × (text ≡ bytes ++ rest)
consumed None b bytes text c is = cc is
consumed (Some x) None bytes text c is = absurd c
consumed (Some x) (Some y) bytes text c is = let same : x ≡ text = cc is in (y, refl, sym same ∙ c)

at_end : (a : Option (List ℕ)) (text : List ℕ) → IsAtEnd a → a ≡ Some text → text ≡ []
at_end None text end is = cc is
at_end (Some x) text end is = let same : x ≡ text = cc is in sym same ∙ end

-- what is kept of the outlook is kept of the end
end_kept : (a : Option (List ℕ)) (before now : SourceState) (r new : ArmourReader) → before.left ≡ a → KeepsOutlook before now r new → (end : TextEnd) → option_map (λ text. (reader_outlook r text).end) a ≡ Some end → told_end now new ≡ Some end
end_kept None before now r new is keeps end told = cc told
end_kept (Some text) before now r new is keeps end told =
    let k = keeps text is in
    ap (λ (x : Option (List ℕ)). option_map (λ t. (reader_outlook new t).end) x) k.1 ∙ ap (λ (l : Outlook). Some l.end) k.2 ∙ told

-- what a reader takes by one read that goes on, where the same is to come behind it
pub takes_as : (before now : SourceState) (r new : ArmourReader) (text : List ℕ) → Came before now text → length text ≤ most_piece → new.pieces.taken ≡ r.pieces.taken + length text → KeepsOutlook before now r new
    → r.ending ≡ None → (new.ending ≡ Some Whole → now.ended ≡ true) → ((more : List ℕ) → (TextIsOver new → now.ended ≡ true → more ≡ []) → reader_outlook r (text ++ more) ≡ reader_outlook new more)
    → GroupsAreGood r [] → TakesPiece before now r new
takes_as before now r new text came few taken keeps goes seen all good = record {
  reads = record {
    text = text;
    came = came;
    taken = taken;
    end = end_kept before.left before now r new refl keeps;
    over = λ over. absurd (over goes);
    seen = λ _ whole. seen whole;
    good = inr (record { before = []; piece = text; all = refl; few = few; was = good });
    all = all;
  };
  few = few;
}

-- ---- a piece

same_le : (k a b : ℕ) → nat_le (k + a) (k + b) ≡ nat_le a b
same_le k a b = elim (cases_lt b a) [
  | inl gt ↦ lt-leb (k + a) (k + b) (omega (arith, gt)) ∙ sym (lt-leb a b gt)
  | inr le ↦ le-leb (k + a) (k + b) (omega (arith, le)) ∙ sym (le-leb a b le)
]

spent_outlook : (r : ArmourReader) (text : List ℕ) → TextIsSpent r → r.ending ≡ None → reader_outlook r text ≡ read_out (open_of r.unarmour) (take (text_room r) text) (nat_le (text_room r) (length text))
unfolding reader_outlook
spent_outlook r text spent goes =
    ap (λ (b : List ℕ). with_front b (coming r.ending r text)) spent.handed ∙ ap (λ (e : Option TextEnd). coming e r text) goes
    ∙ ap (λ (x : List ℕ). read_out (open_of r.unarmour) (x ++ take (text_room r) text) (nat_le (text_room r) (length text))) (spent.read goes)

-- line feeds
feeds : ℕ → List ℕ
feeds zero = []
feeds (suc n) = 10 ∷ feeds n

feeds_long : (n : ℕ) → length (feeds n) ≡ n
unfolding feeds
feeds_long zero = refl
feeds_long (suc n) = let one = feeds_long n in omega (arith, one)

feeds_empty : (n : ℕ) → characters (feeds n) ≡ []
unfolding feeds
feeds_empty zero = refl
feeds_empty (suc n) = feeds_empty n

-- no group is bad of what was read
pub spent_good : (r : ArmourReader) → TextIsSpent r → r.ending ≡ None → GroupsAreGood r []
unfolding read_out
spent_good r spent goes =
    let room : ℕ = text_room r in
    let o : OpenGroup = open_of r.unarmour in
    let ends_long : (text : List ℕ) → TextEnd = λ text. (read_out o text true).end in
    let size = feeds_long room in
    let long : nat_le room (length (feeds room)) ≡ true = le-leb room (length (feeds room)) (omega (arith, size)) in (
      feeds room,
      ap (λ (l : Outlook). l.end) (spent_outlook r (feeds room) spent goes) ∙ ap (λ (b : Bool). (read_out o (take room (feeds room)) b).end) long
          ∙ ap ends_long (take_all room (feeds room) (omega (arith, size)))
          ∙ ap (λ (cs : List ℕ). end_of (read_on o cs).bad true (holds_some (open_on o cs)) (open_on o cs).number) (feeds_empty room) ∙ ap (λ (l : Outlook). l.end) (no_more r.unarmour true),
    )

-- nothing is to come of no more text
pub spent_gives : (r : ArmourReader) → TextIsSpent r → gives r [] ≡ 0
unfolding reader_outlook
spent_gives r spent = by_end r.ending refl
  where
    by_end : (e : Option TextEnd) → r.ending ≡ e → gives r [] ≡ 0
    by_end None goes =
        ap (λ (o : Outlook). length o.bytes)
        (spent_outlook r [] spent goes ∙ ap (λ (x : List ℕ). read_out (open_of r.unarmour) x (nat_le (text_room r) 0)) (take-nil (text_room r)) ∙ no_more r.unarmour (nat_le (text_room r) 0))
    by_end (Some end) is = ap (λ (b : List ℕ). length (b ++ (coming r.ending r []).bytes)) spent.handed ∙ ap (λ (e : Option TextEnd). length (coming e r []).bytes) is

-- or of any text behind the end that was seen
over_gives : (r : ArmourReader) (end : TextEnd) (text : List ℕ) → pending r ≡ [] → r.ending ≡ Some end → gives r text ≡ 0
unfolding reader_outlook
over_gives r end text none is = ap (λ (b : List ℕ). length (b ++ (coming r.ending r text).bytes)) none ∙ ap (λ (e : Option TextEnd). length (coming e r text).bytes) is

pub ended_gives : (r : ArmourReader) (end : TextEnd) → r.ending ≡ Some end → gives r [] ≡ 0
ended_gives r end is = over_gives r end [] (drop_all r.handed (take r.unarmour.given r.unarmour.bytes) (r.none (λ none. let e = sym is ∙ none in cc e))) is

-- some bytes are to be handed on, or none are to come
pub some_or_none : (r : ArmourReader) → (r.ending ≡ None → 1 ≤ length (pending r)) → (1 ≤ length (pending r)) ⊎ (gives r [] ≡ 0)
some_or_none r some = by_end r.ending refl
  where
    by_end : (e : Option TextEnd) → r.ending ≡ e → (1 ≤ length (pending r)) ⊎ (gives r [] ≡ 0)
    by_end None is = inl (some is)
    by_end (Some end) is = inr (ended_gives r end is)

-- a reader that saw how the text ends has handed all bytes on
over_spent : (r : ArmourReader) → TextIsOver r → gives r [] ≡ 0
over_spent r over = by_end r.ending refl
  where
    by_end : (e : Option TextEnd) → r.ending ≡ e → gives r [] ≡ 0
    by_end None is = absurd (over is)
    by_end (Some end) is = ended_gives r end is

-- a read into some room that gave nothing saw how the text ends
pub ends_as : (s t : ArmourReader) (count room : ℕ) (ended : Bool) → 1 ≤ room → (s.ending ≡ None → 1 ≤ length (pending s)) → (t.ending ≡ None → s.ending ≡ None)
    → (1 ≤ length (pending s) → 1 ≤ room → 1 ≤ count) → EndsAs t ended (count == 0)
ends_as s t count room ended some has goes gives nothing =
    let over : TextIsOver t = λ none. let one : 1 ≤ count = gives (has (goes none)) some in absurd (omega (arith, one, eqb-true count 0 nothing)) in
    inr (over, over_spent t over)

pub when_ended : (r : ArmourReader) (e : Option TextEnd) → r.ending ≡ e → IfSome e (λ end. gives r [] ≡ 0)
when_ended r None is = tt
when_ended r (Some end) is = ended_gives r end is

-- the same group is open, and the same bytes are handed on
pub record SameReading (r new : ArmourReader) : Type 0 where
  pub unarmour : new.unarmour ≡ r.unarmour
  pub handed : new.handed ≡ r.handed

none_pending : (r new : ArmourReader) → SameReading r new → pending r ≡ [] → pending new ≡ []
none_pending r new same none = ap (λ (n : ℕ). drop n (take new.unarmour.given new.unarmour.bytes)) same.handed ∙ ap (λ (u : Unarmour). drop r.handed (take u.given u.bytes)) same.unarmour ∙ none

pub piece_taken : (r new : ArmourReader) (piece text rest : List ℕ) → TextIsSpent r → r.ending ≡ None → SameReading r new → new.ending ≡ None → unread new ≡ piece → new.pieces.taken ≡ r.pieces.taken + length piece
    → text ≡ piece ++ rest → reader_outlook new rest ≡ reader_outlook r text
unfolding reader_outlook
piece_taken r new piece text rest spent goes same on is taken cut =
    let room : text_room r ≡ length piece + text_room new = omega (arith, taken, new.most) in
    let front : take (text_room r) text ≡ piece ++ take (text_room new) rest = ap (λ (n : ℕ). take n text) room ∙ ap (take (length piece + text_room new)) cut ∙ take-append-add piece rest (text_room new) in
    let size : length text ≡ length piece + length rest = ap length cut ∙ length-append piece rest in
    let long : nat_le (text_room r) (length text) ≡ nat_le (text_room new) (length rest) = ap (λ (n : ℕ). nat_le n (length text)) room ∙ ap (nat_le (length piece + text_room new)) size ∙ same_le (length piece) (text_room new) (length rest) in
    sym (spent_outlook r text spent goes ∙ ap (λ (x : List ℕ). read_out (open_of r.unarmour) x (nat_le (text_room r) (length text))) front ∙ ap (read_out (open_of r.unarmour) (piece ++ take (text_room new) rest)) long
    ∙ ap (λ (u : Unarmour). read_out (open_of u) (piece ++ take (text_room new) rest) (nat_le (text_room new) (length rest))) (sym same.unarmour)
    ∙ ap (λ (x : List ℕ). read_out (open_of new.unarmour) (x ++ take (text_room new) rest) (nat_le (text_room new) (length rest))) (sym is)
    ∙ ap (λ (e : Option TextEnd). coming e new rest) (sym on) ∙ ap (λ (b : List ℕ). with_front b (coming new.ending new rest)) (sym (none_pending r new same spent.handed)))

pub piece_keeps : (before now : SourceState) (r new : ArmourReader) (piece : List ℕ) → TextIsSpent r → r.ending ≡ None → SameReading r new → new.ending ≡ None → unread new ≡ piece → new.pieces.taken ≡ r.pieces.taken + length piece
    → Came before now piece → KeepsOutlook before now r new
piece_keeps before now r new piece spent goes same on is taken came text told =
    let c = consumed before.left now.left piece text came.consumed told in (c.0, c.1, piece_taken r new piece text c.0 spent goes same on is taken c.2)

-- ---- too much of it

too_long_outlook : (r new : ArmourReader) → TextIsSpent r → r.ending ≡ None → SameReading r new → new.ending ≡ Some TooLong → r.pieces.taken ≡ most_input → (text : List ℕ) → reader_outlook new text ≡ reader_outlook r text
unfolding reader_outlook
too_long_outlook r new spent goes same ending taken text =
    let room : text_room r ≡ 0 = omega (arith, taken) in
    sym (spent_outlook r text spent goes ∙ ap (λ (n : ℕ). read_out (open_of r.unarmour) (take n text) (nat_le n (length text))) room ∙ ap (read_out (open_of r.unarmour) []) (le-leb 0 (length text) (omega arith))
    ∙ no_more r.unarmour true ∙ ap (λ (e : Option TextEnd). coming e new text) (sym ending) ∙ ap (λ (b : List ℕ). with_front b (coming new.ending new text)) (sym (none_pending r new same spent.handed)))

pub too_long_keeps : (before now : SourceState) (r new : ArmourReader) → TextIsSpent r → r.ending ≡ None → SameReading r new → new.ending ≡ Some TooLong → now ≡ before → r.pieces.taken ≡ most_input → KeepsOutlook before now r new
too_long_keeps before now r new spent goes same ending still taken text told = (text, ap (λ (s : SourceState). s.left) still ∙ told, too_long_outlook r new spent goes same ending taken text)

-- ---- its end

end_outlook : (r new : ArmourReader) → TextIsSpent r → r.ending ≡ None → ((text : List ℕ) → reader_outlook new text ≡ read_out (open_of r.unarmour) [] false) → r.pieces.taken < most_input
    → (rest text : List ℕ) → text ≡ [] → reader_outlook new rest ≡ reader_outlook r text
end_outlook r new spent goes ends few rest text none =
    let short : nat_le (text_room r) 0 ≡ false = lt-leb (text_room r) 0 (omega (arith, few)) in
    ends rest ∙ sym (spent_outlook r text spent goes ∙ ap (λ (t : List ℕ). read_out (open_of r.unarmour) (take (text_room r) t) (nat_le (text_room r) (length t))) none
    ∙ ap (λ (t : List ℕ). read_out (open_of r.unarmour) t (nat_le (text_room r) 0)) (take-nil (text_room r)) ∙ ap (read_out (open_of r.unarmour) []) short)

pub end_keeps : (before now : SourceState) (r new : ArmourReader) → TextIsSpent r → r.ending ≡ None → ((text : List ℕ) → reader_outlook new text ≡ read_out (open_of r.unarmour) [] false) → r.pieces.taken < most_input
    → Came before now [] → IsAtEnd now.left → KeepsOutlook before now r new
end_keeps before now r new spent goes ends few came end text told =
    let c = consumed before.left now.left [] text came.consumed told in
    let none : text ≡ [] = c.2 ∙ at_end now.left c.0 end c.1 in
    (c.0, c.1, end_outlook r new spent goes ends few c.0 text none)

-- nothing came
pub came_still : (before now : SourceState) → now ≡ before → Came before now []
came_still before now same = subst (λ (s : SourceState). Came before s []) (sym same) (came_none before)

pub piece_takes : (before now : SourceState) (r new : ArmourReader) (piece : List ℕ) → TextIsSpent r → r.ending ≡ None → SameReading r new → new.ending ≡ None → unread new ≡ piece → new.pieces.taken ≡ r.pieces.taken + length piece
    → length piece ≤ most_piece → Came before now piece → TakesPiece before now r new
piece_takes before now r new piece spent goes same on is taken few came =
    takes_as before now r new piece came few taken (piece_keeps before now r new piece spent goes same on is taken came) goes
    (λ whole. let e = sym on ∙ whole in cc e) (λ more _. sym (piece_taken r new piece (piece ++ more) more spent goes same on is taken refl)) (spent_good r spent goes)

-- ---- by how a call for the next piece ended

module _ (before now : SourceState) (r new : ArmourReader) (end : End) where
  pub failed_next : (v : PiecesValue) → end ≡ ends.Failed → NextPiece {T = Unit {0}} r.pieces.taken before now v (Err end) → NextPiece {T = Unit {0}} r.pieces.taken before now v (Err ends.Failed)
  failed_next v is next = subst (λ (e : End). NextPiece {T = Unit {0}} r.pieces.taken before now v (Err e)) is next

  pub failed_keeps : end ≡ ends.Failed → NextPiece {T = Unit {0}} r.pieces.taken before now new.pieces (Err end) → new.pieces.piece ≡ [] → TextIsSpent r → r.ending ≡ None → SameReading r new → new.ending ≡ None → KeepsOutlook before now r new
  failed_keeps is next none spent goes same on =
      let n = failed_next new.pieces is next in
      piece_keeps before now r new [] spent goes same on (ap (drop new.at) none ∙ drop-nil new.at) (omega (arith, n.3)) n.0

  pub failed_takes : end ≡ ends.Failed → NextPiece {T = Unit {0}} r.pieces.taken before now new.pieces (Err end) → new.pieces.piece ≡ [] → TextIsSpent r → r.ending ≡ None → SameReading r new → new.ending ≡ None → TakesPiece before now r new
  failed_takes is next none spent goes same on =
      let n = failed_next new.pieces is next in
      piece_takes before now r new [] spent goes same on (ap (drop new.at) none ∙ drop-nil new.at) (omega (arith, n.3)) (omega arith) n.0

  pub failed_spent : new.pieces.piece ≡ [] → TextIsSpent r → SameReading r new → new.ending ≡ None → IsReadSoFar new
  failed_spent none spent same on =
      let here : TextIsSpent new = record { handed = none_pending r new same spent.handed; read = λ _. ap (drop new.at) none ∙ drop-nil new.at } in (spent_gives new here, spent_good new here on)

  long_next : (v : PiecesValue) → end ≡ ends.TooLong → NextPiece {T = Unit {0}} r.pieces.taken before now v (Err end) → NextPiece {T = Unit {0}} r.pieces.taken before now v (Err ends.TooLong)
  long_next v is next = subst (λ (e : End). NextPiece {T = Unit {0}} r.pieces.taken before now v (Err e)) is next

  pub long_keeps : end ≡ ends.TooLong → NextPiece {T = Unit {0}} r.pieces.taken before now new.pieces (Err end) → TextIsSpent r → r.ending ≡ None → SameReading r new → new.ending ≡ Some TooLong → KeepsOutlook before now r new
  long_keeps is next spent goes same ending = let n = long_next new.pieces is next in too_long_keeps before now r new spent goes same ending n.0 n.1

  pub long_takes : end ≡ ends.TooLong → NextPiece {T = Unit {0}} r.pieces.taken before now new.pieces (Err end) → TextIsSpent r → r.ending ≡ None → SameReading r new → new.ending ≡ Some TooLong → TakesPiece before now r new
  long_takes is next spent goes same ending =
      let n = long_next new.pieces is next in
      takes_as before now r new [] (came_still before now n.0) (omega arith) (omega (arith, n.2)) (long_keeps is next spent goes same ending) goes
      (λ whole. let e = sym ending ∙ whole in cc e) (λ more _. sym (too_long_outlook r new spent goes same ending n.1 more)) (spent_good r spent goes)

  seen_next : (v : PiecesValue) → end ≡ ends.Seen → NextPiece {T = Unit {0}} r.pieces.taken before now v (Err end) → NextPiece {T = Unit {0}} r.pieces.taken before now v (Err ends.Seen)
  seen_next v is next = subst (λ (e : End). NextPiece {T = Unit {0}} r.pieces.taken before now v (Err e)) is next

  pub seen_keeps : (v : PiecesValue) → end ≡ ends.Seen → NextPiece {T = Unit {0}} r.pieces.taken before now v (Err end) → TextIsSpent r → r.ending ≡ None → ((text : List ℕ) → reader_outlook new text ≡ read_out (open_of r.unarmour) [] false) → KeepsOutlook before now r new
  seen_keeps v is next spent goes ended = let n = seen_next v is next in end_keeps before now r new spent goes ended n.3 n.0 n.1

  pub seen_takes : (v : PiecesValue) → end ≡ ends.Seen → NextPiece {T = Unit {0}} r.pieces.taken before now v (Err end) → new.pieces ≡ v → TextIsSpent r → r.ending ≡ None → ((text : List ℕ) → reader_outlook new text ≡ read_out (open_of r.unarmour) [] false) → TextIsOver new
      → TakesPiece before now r new
  seen_takes v is next same spent goes ended over =
      let n = seen_next v is next in
      let taken : new.pieces.taken ≡ r.pieces.taken = ap (λ (p : PiecesValue). p.taken) same ∙ n.4 in
      takes_as before now r new [] n.0 (omega arith) (omega (arith, taken)) (seen_keeps v is next spent goes ended) goes
      (λ _. n.5) (λ more may. sym (end_outlook r new spent goes ended n.3 more more (may over n.5))) (spent_good r spent goes)
