-- A reader that takes the text of a source piece by piece.
use borrow.Rule.Slice.PartMut.{put_mid}
use Rattle.std.proofs.Math.Seq.{take-append-add}
use Rattle.std.proofs.Common.{◌≡◌, ◌⊎◌, ℕ, ◌+◌, ◌-◌, ◌^◌, ◌%◌, ◌<◌, ◌≤◌, ◌==◌, nat_le, min, Bool, true, false, not, List, [], ◌∷◌, ◌++◌, length, take, drop, get_or, Fits, w8, Option, Some, None, Ok, Err, refl, sym, ap, ◌∙◌, arith, inl, inr, eq-eqb, if◌then◌else◌}
use Rattle.std.specs.Option.{is_some}
use Rattle.std.proofs.lemmas.Bool.{cases_lt, ne_eqb}
use Rattle.std.proofs.lemmas.List.{append-nil, append_assoc, drop-drop, drop_all, length-append, length-drop, length-take-le, take-append-drop, take-append-le, take_all, take_at}
use Rattle.esdk_base.specs.Streams.{most_input}
use Rattle.base64.specs.GeneralPurpose.{IsBytes}
use Rattle.armour_core.specs.declared.errors.ArmourError.{ArmourError}
use Rattle.armour_core.specs.declared.reader.ArmourReader.{ArmourReader}
use Rattle.armour_core.specs.declared.text_end.TextEnd.{TextEnd}
use Rattle.armour_core.specs.declared.text_end.TextEnd.TheVariants.{Bad, Whole}
use Rattle.armour_core.specs.declared.unarmour.Unarmour.{Unarmour}
use Rattle.armour_core.specs.Outlook.{Outlook, end_of, holds_some, open_of, read_out, taken_front, text_outlook, with_front}
use Rattle.armour_core.specs.ReaderLaws.{with_both}
use Rattle.armour_core.specs.ReaderOutlook.{coming, pending, reader_outlook, text_room, unread}
use Rattle.armour_core.specs.Unarmoured.{GroupsRead, characters, group_count, groups_read, none_read, unarmoured}
use Rattle.armour_core.specs.Unarmouring.{IsBadGroup, UnarmouringValue, bad_armour, end_answer, group_answer, group_stepped, new_unarmouring, text_ended}
use Rattle.armour_core.specs.Stands.{OpenGroup, StandsReading, open_from}
use Rattle.armour_core.proofs.Groups.{open_length, open_number}
use Rattle.armour_core.proofs.Outlooks.{SameGroup, answer_err, same_outlook, step_bad, step_outlook}
use Rattle.armour_core.proofs.Reachable.{reads_there, session_at}
use Rattle.armour_core.proofs.Reading.{end_even, end_short, end_stopped, even_where, short_fault, short_where}
use Rattle.armour_core.proofs.Stepping.{refuses_as}

-- what the last call of a reader of armour gave
pub out_there : (u : Unarmour) (out : List ℕ) → ((v : UnarmouringValue) → StandsReading u v → out ≡ v.out) → out ≡ take u.given u.bytes
unfolding session_at
out_there u out is = is (session_at u) (reads_there u)

-- an error of a step names a bad group
pub bad_there : (u : Unarmour) (piece : List ℕ) (error : ArmourError) → u.stopped ≡ false → ((v : UnarmouringValue) → StandsReading u v → Err error ≡ group_answer v piece) → (number : ℕ) × IsBadGroup error number
unfolding session_at
bad_there u piece error goes answer = let bad = answer_err (session_at u) piece error goes (answer (session_at u) (reads_there u)) in (min bad.number (2 ^ 64 - 1), bad.is)

-- and leaves nothing
pub nothing_there : (u new : Unarmour) (piece : List ℕ) (error : ArmourError) → u.stopped ≡ false → ((v : UnarmouringValue) → StandsReading u v → Err error ≡ group_answer v piece)
    → ((v : UnarmouringValue) → StandsReading u v → StandsReading new (group_stepped v piece)) → take new.given new.bytes ≡ []
unfolding session_at
nothing_there u new piece error goes answer reads =
    let v : UnarmouringValue = session_at u in
    let bad = answer_err v piece error goes (answer v (reads_there u)) in
    (reads v (reads_there u)).out ∙ ap (λ (w : UnarmouringValue). w.out) (refuses_as v piece bad.number goes bad.bad).1

-- ---- a group of the last piece

-- the slice from here on
abbrev pub slice_of : List ℕ → ℕ → List ℕ
slice_of xs at = take (length xs - at) (drop at xs)

outlook_goes : (r : ArmourReader) (text : List ℕ) → pending r ≡ [] → r.ending ≡ None → reader_outlook r text ≡ coming None r text
unfolding reader_outlook
outlook_goes r text handed goes = ap (λ (b : List ℕ). with_front b (coming r.ending r text)) handed ∙ ap (λ (e : Option TextEnd). coming e r text) goes

pub slice_is : (r : ArmourReader) (xs : List ℕ) → xs ≡ r.pieces.piece → slice_of xs r.at ≡ unread r
slice_is r xs is = ap (λ (x : List ℕ). slice_of x r.at) is ∙ take_all (length r.pieces.piece - r.at) (unread r) (omega (arith, length-drop r.at r.pieces.piece))

-- a group that is read
pub group_read : (r new : ArmourReader) (used : ℕ) (slice : List ℕ) → pending r ≡ [] → r.ending ≡ None → slice ≡ unread r → ((v : UnarmouringValue) → StandsReading r.unarmour v → Ok used ≡ group_answer v slice)
    → ((v : UnarmouringValue) → StandsReading r.unarmour v → StandsReading new.unarmour (group_stepped v slice)) → new.pieces ≡ r.pieces → new.at ≡ r.at + used → new.handed ≡ 0 → new.ending ≡ r.ending
    → (text : List ℕ) → reader_outlook new text ≡ reader_outlook r text
unfolding reader_outlook
group_read r new used slice handed goes is answer reads pieces at none ending text =
    let T : List ℕ = take (text_room r) text in
    let long : Bool = nat_le (text_room r) (length text) in
    let rest : List ℕ = drop used slice in
    let step = step_outlook r.unarmour new.unarmour slice (rest ++ T) used long (r.goes goes) answer reads in
    let left : unread new ≡ rest = ap (λ (p : List ℕ). drop new.at p) (ap (λ p. p.piece) pieces) ∙ ap (λ (n : ℕ). drop n r.pieces.piece) at ∙ sym (drop-drop used r.at r.pieces.piece) ∙ ap (drop used) (sym is) in
    let room : text_room new ≡ text_room r = ap (λ p. most_input - p.taken) pieces in
    let cut : take used slice ++ (rest ++ T) ≡ unread r ++ T = sym (append_assoc (take used slice) rest T) ∙ ap (λ (x : List ℕ). x ++ T) (take-append-drop used slice ∙ is) in
    sym (outlook_goes r text handed goes ∙ ap (λ (x : List ℕ). read_out (open_of r.unarmour) x long) (sym cut) ∙ step.0
    ∙ ap (λ (x : List ℕ). with_front (take new.unarmour.given new.unarmour.bytes) (read_out (open_of new.unarmour) (x ++ T) long)) (sym left)
    ∙ ap (λ (n : ℕ). with_front (take new.unarmour.given new.unarmour.bytes) (read_out (open_of new.unarmour) (unread new ++ take n text) (nat_le n (length text)))) (sym room)
    ∙ ap (λ (e : Option TextEnd). with_front (take new.unarmour.given new.unarmour.bytes) (coming e new text)) (sym (ending ∙ goes))
    ∙ ap (λ (n : ℕ). with_front (drop n (take new.unarmour.given new.unarmour.bytes)) (coming new.ending new text)) (sym none))

-- a bad one
pub group_bad : (r new : ArmourReader) (slice : List ℕ) (error : ArmourError) (number : ℕ) → pending r ≡ [] → r.ending ≡ None → slice ≡ unread r
    → ((v : UnarmouringValue) → StandsReading r.unarmour v → Err error ≡ group_answer v slice) → IsBadGroup error number → take new.unarmour.given new.unarmour.bytes ≡ [] → new.handed ≡ 0 → new.ending ≡ Some (Bad number)
    → (text : List ℕ) → reader_outlook new text ≡ reader_outlook r text
unfolding reader_outlook
group_bad r new slice error number handed goes is answer bad nothing none ending text =
    let T : List ℕ = take (text_room r) text in
    let long : Bool = nat_le (text_room r) (length text) in
    let empty : pending new ≡ [] = ap (λ (n : ℕ). drop n (take new.unarmour.given new.unarmour.bytes)) none ∙ nothing in
    sym (outlook_goes r text handed goes ∙ ap (λ (x : List ℕ). read_out (open_of r.unarmour) (x ++ T) long) (sym is) ∙ step_bad r.unarmour slice T long error number (r.goes goes) answer bad
    ∙ ap (λ (e : Option TextEnd). coming e new text) (sym ending) ∙ ap (λ (b : List ℕ). with_front b (coming new.ending new text)) (sym empty))

-- ---- what is handed on

pub is_none : {A : Type 0} (x : Option A) → is_some x ≡ false → x ≡ None
is_none None not_some = refl
is_none (Some a) not_some = cc not_some

pub pending_some : (r : ArmourReader) (out : List ℕ) → out ≡ take r.unarmour.given r.unarmour.bytes → r.handed < length out → 1 ≤ length (pending r)
pending_some r out is some = omega (arith, some, ap length is, length-drop r.handed (take r.unarmour.given r.unarmour.bytes))

pub pending_none : (r : ArmourReader) (out : List ℕ) → out ≡ take r.unarmour.given r.unarmour.bytes → length out ≤ r.handed → pending r ≡ []
pending_none r out is all = drop_all r.handed (take r.unarmour.given r.unarmour.bytes) (omega (arith, all, ap length is))

pub none_pending : (xs : List ℕ) → xs ≡ [] → 1 ≤ length xs → ⊥
none_pending xs none some = absurd (omega (arith, some, ap length none))

-- the error names one group
pub same_number : (error : ArmourError) (a b : ℕ) → IsBadGroup error a → IsBadGroup error b → a ≡ b
same_number error a b first second = let e = sym first ∙ second in cc e

-- bytes that are handed on
pub handed_outlook : (r new : ArmourReader) (out : List ℕ) (count : ℕ) → out ≡ take r.unarmour.given r.unarmour.bytes → new.pieces ≡ r.pieces → new.at ≡ r.at → new.unarmour ≡ r.unarmour → new.ending ≡ r.ending
    → new.handed ≡ r.handed + count → (text : List ℕ) → reader_outlook r text ≡ with_front (take count (drop r.handed out)) (reader_outlook new text)
unfolding reader_outlook
handed_outlook r new out count is pieces at unarmour ending handed text =
    let all : List ℕ = take r.unarmour.given r.unarmour.bytes in
    let front : List ℕ = take count (drop r.handed out) in
    let given : take new.unarmour.given new.unarmour.bytes ≡ all = ap (λ (u : Unarmour). take u.given u.bytes) unarmour in
    let rest : pending new ≡ drop count (drop r.handed all) = ap (λ (n : ℕ). drop n (take new.unarmour.given new.unarmour.bytes)) handed ∙ ap (drop (r.handed + count)) given ∙ sym (drop-drop count r.handed all) in
    let same : coming new.ending new text ≡ coming r.ending r text =
    ap (λ (e : Option TextEnd). coming e new text) ending ∙ same_coming r new text pieces at unarmour r.ending in
    let whole : pending r ≡ front ++ pending new = sym (take-append-drop count (drop r.handed all)) ∙ ap (λ (x : List ℕ). take count (drop r.handed x) ++ drop count (drop r.handed all)) (sym is) ∙ ap (λ (x : List ℕ). front ++ x) (sym rest) in
    ap (λ (x : List ℕ). with_front x (coming r.ending r text)) whole ∙ ap (λ (l : Outlook). with_front (front ++ pending new) l) (sym same)
    ∙ ap (λ (b : List ℕ). let l : Outlook = record { bytes = b; end = (coming new.ending new text).end } in l) (append_assoc front (pending new) (coming new.ending new text).bytes)
  where
    same_coming : (r new : ArmourReader) (text : List ℕ) → new.pieces ≡ r.pieces → new.at ≡ r.at → new.unarmour ≡ r.unarmour → (e : Option TextEnd) → coming e new text ≡ coming e r text
    same_coming r new text pieces at unarmour (Some end) = refl
    same_coming r new text pieces at unarmour None =
        ap (λ (u : Unarmour). read_out (open_of u) (unread new ++ take (text_room new) text) (nat_le (text_room new) (length text))) unarmour
        ∙ ap (λ (n : ℕ). read_out (open_of r.unarmour) (drop n new.pieces.piece ++ take (text_room new) text) (nat_le (text_room new) (length text))) at
        ∙ ap (λ p. read_out (open_of r.unarmour) (drop r.at p.piece ++ take (most_input - p.taken) text) (nat_le (most_input - p.taken) (length text))) pieces

-- ---- the end of a text

few_kept : (n : ℕ) (p : Bool) (held : List ℕ) → length held < 4 → (p ≡ true → held ≡ []) → (groups_read n p held ≡ none_read) × (open_from n p held ≡ record { number = n; padded = p; held = held })
unfolding groups_read open_from
few_kept n true [] few even = (refl, refl)
few_kept n true (a ∷ held) few even = let e = even refl in cc e
few_kept n false [] few even = (refl, refl)
few_kept n false (a ∷ []) few even = (refl, refl)
few_kept n false (a ∷ b ∷ []) few even = (refl, refl)
few_kept n false (a ∷ b ∷ c ∷ []) few even = (refl, refl)
few_kept n false (a ∷ b ∷ c ∷ d ∷ held) few even = absurd (omega (arith, few))

-- no more text behind an open group
pub no_more : (u : Unarmour) (long : Bool) → read_out (open_of u) [] long ≡ record { bytes = []; end = end_of None long (holds_some (open_of u)) u.number }
unfolding read_out
no_more u long =
    let o : OpenGroup = open_of u in
    let same : o.held ++ [] ≡ o.held = append-nil o.held in
    let size : length o.held ≡ u.held = length-take-le u.held u.group (omega (arith, u.state.few, u.state.size)) in
    let kept = few_kept o.number o.padded o.held (omega (arith, size, u.state.few)) (λ padded. ap (λ (n : ℕ). take n u.group) (u.state.even padded)) in
    ap (λ (h : List ℕ). let l : Outlook = record { bytes = (groups_read o.number o.padded h).bytes; end = end_of (groups_read o.number o.padded h).bad long (holds_some (open_from o.number o.padded h)) (open_from o.number o.padded h).number } in l) same
    ∙ ap (λ (r : GroupsRead). let l : Outlook = record { bytes = r.bytes; end = end_of r.bad long (holds_some (open_from o.number o.padded o.held)) (open_from o.number o.padded o.held).number } in l) kept.0
    ∙ ap (λ (g : OpenGroup). let l : Outlook = record { bytes = []; end = end_of None long (holds_some g) g.number } in l) kept.1

held_size : (u : Unarmour) → length (open_of u).held ≡ u.held
held_size u = length-take-le u.held u.group (omega (arith, u.state.few, u.state.size))

pub ends_whole : (u : Unarmour) → u.stopped ≡ false → ((v : UnarmouringValue) → StandsReading u v → Ok tt ≡ end_answer v) → read_out (open_of u) [] false ≡ record { bytes = []; end = Whole }
unfolding session_at
ends_whole u goes answer =
    let v : UnarmouringValue = session_at u in
    let at = reads_there u in
    elim (cases_lt 0 u.held) [
      | inl some ↦ let e = answer v at ∙ (end_short v goes (short_where u v.taken u.state.size u.open (at.group goes) some)).0 in cc e
      | inr none ↦
          let empty : holds_some (open_of u) ≡ false = ap (λ (b : Bool). if b then false else true) (eq-eqb (length (open_of u).held) 0 (omega (arith, none, held_size u))) in
          no_more u false ∙ ap (λ (b : Bool). let l : Outlook = record { bytes = []; end = end_of None false b u.number } in l) empty
    ]

-- The last group is short.
pub record ShortThere (u : Unarmour) (error : ArmourError) : Type 0 where
  pub is : IsBadGroup error u.number
  pub ends : read_out (open_of u) [] false ≡ record { bytes = []; end = Bad u.number }

pub ends_short : (u : Unarmour) (error : ArmourError) → u.stopped ≡ false → ((v : UnarmouringValue) → StandsReading u v → Err error ≡ end_answer v) → ShortThere u error
unfolding session_at
ends_short u error goes answer =
    let v : UnarmouringValue = session_at u in
    let at = reads_there u in
    elim (cases_lt 0 u.held) [
      | inl some ↦
          let short = end_short v goes (short_where u v.taken u.state.size u.open (at.group goes) some) in
          let full : holds_some (open_of u) ≡ true = ap (λ (b : Bool). if b then false else true) (ne_eqb (length (open_of u).held) 0 (λ none. absurd (omega (arith, none, some, held_size u)))) in
          let number : min u.number (2 ^ 64 - 1) ≡ u.number = omega (arith, u.state.fits) in
          let e = answer v at ∙ short.0 in
          let same : error ≡ bad_armour (group_count v.taken) = cc e in record {
            is = same ∙ sym (short_fault u v.taken u.state.size u.open (at.group goes) some);
            ends = no_more u false ∙ ap (λ (b : Bool). let l : Outlook = record { bytes = []; end = end_of None false b u.number } in l) full
                ∙ ap (λ (n : ℕ). let l : Outlook = record { bytes = []; end = Bad n } in l) number;
          }
      | inr none ↦ let e = answer v at ∙ (end_even v goes (even_where u v.taken u.state.size u.open (at.group goes) none)).0 in cc e
    ]

ended_out : (v : UnarmouringValue) (stopped short : Bool) → v.stopped ≡ stopped → (unarmoured v.taken).short ≡ short → (text_ended v).out ≡ []
ended_out v true short is even = ap (λ (w : UnarmouringValue). w.out) (end_stopped v is).1
ended_out v false true is short = ap (λ (w : UnarmouringValue). w.out) (end_short v is short).1
ended_out v false false is even = ap (λ (w : UnarmouringValue). w.out) (end_even v is even).1

-- after the end nothing is left of what was given
pub end_empties : (u new : Unarmour) → ((v : UnarmouringValue) → StandsReading u v → StandsReading new (text_ended v)) → take new.given new.bytes ≡ []
end_empties u new reads = (reads (session_at u) (reads_there u)).out ∙ ended_out (session_at u) (session_at u).stopped (unarmoured (session_at u).taken).short refl refl

-- where the text ended so
pub ended_outlook : (new : ArmourReader) (end : TextEnd) → take new.unarmour.given new.unarmour.bytes ≡ [] → new.handed ≡ 0 → new.ending ≡ Some end → (text : List ℕ) → reader_outlook new text ≡ record { bytes = []; end = end }
unfolding reader_outlook
ended_outlook new end nothing none ending text =
    ap (λ (n : ℕ). with_front (drop n (take new.unarmour.given new.unarmour.bytes)) (coming new.ending new text)) none ∙ ap (λ (b : List ℕ). with_front b (coming new.ending new text)) nothing
    ∙ ap (λ (e : Option TextEnd). with_front [] (coming e new text)) ending

-- ---- the start

ends_alike : (bad : Option ℕ) (long s t : Bool) (m n : ℕ) → s ≡ t → (s ≡ true → m ≡ n) → end_of bad long s m ≡ end_of bad long t n
ends_alike (Some k) long s t m n same number = refl
ends_alike None true s t m n same number = refl
ends_alike None false true true m n same number = ap (λ (k : ℕ). let e : TextEnd = Bad (min k (2 ^ 64 - 1)) in e) (number refl)
ends_alike None false true false m n same number = cc same
ends_alike None false false true m n same number = cc same
ends_alike None false false false m n same number = refl

if_not : (b : Bool) → (if b then false else true) ≡ not b
if_not true = refl
if_not false = refl

first_outlook : (text : List ℕ) (long : Bool) → read_out (record { number = 1; padded = false; held = [] }) text long
    ≡ record { bytes = (unarmoured text).bytes; end = end_of (unarmoured text).bad long (unarmoured text).short (group_count text) }
unfolding read_out unarmoured
first_outlook text long =
    let cs : List ℕ = characters text in
    let o : OpenGroup = open_from 1 false cs in
    let size = open_length 1 false cs in
    let count = open_number 1 false cs in
    let short : holds_some o ≡ not (length cs % 4 == 0) = if_not (length o.held == 0) ∙ ap (λ (n : ℕ). not (n == 0)) size in
    let end = ends_alike (groups_read 1 false cs).bad long (holds_some o) (not (length cs % 4 == 0)) o.number (group_count text) short
    (λ some. let full : length o.held ≡ 0 → ⊥ = λ none. let e = sym some ∙ ap (λ (b : Bool). if b then false else true) (eq-eqb (length o.held) 0 none) in cc e in omega (arith, full, size, count)) in
    ap (λ (e : TextEnd). let l : Outlook = record { bytes = (groups_read 1 false cs).bytes; end = e } in l) end

pub begins : (r : ArmourReader) → r.pieces.taken ≡ 0 → unread r ≡ [] → r.handed ≡ 0 → r.ending ≡ None → StandsReading r.unarmour new_unarmouring → (text : List ℕ) → reader_outlook r text ≡ text_outlook text
unfolding text_outlook open_from reader_outlook
begins r taken none handed goes reads text =
    let holds = reads.group refl in
    let first : OpenGroup = record { number = 1; padded = false; held = [] } in
    let same : SameGroup (open_of r.unarmour) first = record { number = omega (arith, holds.number); padded = holds.padded; held = holds.held } in
    let room : text_room r ≡ most_input = ap (λ (n : ℕ). most_input - n) taken in
    let front : List ℕ = taken_front text in
    let long : Bool = nat_le most_input (length text) in
    ap (λ (n : ℕ). with_front (drop n (take r.unarmour.given r.unarmour.bytes)) (coming r.ending r text)) handed
    ∙ ap (λ (b : List ℕ). with_front b (coming r.ending r text)) reads.out
    ∙ ap (λ (e : Option TextEnd). coming e r text) goes
    ∙ ap (λ (x : List ℕ). read_out (open_of r.unarmour) (x ++ take (text_room r) text) (nat_le (text_room r) (length text))) none
    ∙ ap (λ (n : ℕ). read_out (open_of r.unarmour) (take n text) (nat_le n (length text))) room
    ∙ same_outlook (open_of r.unarmour) first front long same
    ∙ first_outlook front long

-- ---- the buffer that bytes are handed on into

-- what a slice holds is bytes
pub fits_bytes : (xs : List ℕ) → ((i : ℕ) → Fits w8 (get_or xs i 0)) → IsBytes xs
fits_bytes xs fit i = (fit i).fits

pub copied_is : (copied rest old : List ℕ) (count : ℕ) → copied ≡ take count rest → count ≤ length rest → take count (copied ++ drop count old) ≡ take count rest
copied_is copied rest old count is within = take_at copied (drop count old) count (ap length is ∙ length-take-le count rest within) ∙ is

pub handed_over : (r new : ArmourReader) (out rest copied old : List ℕ) (count : ℕ) → out ≡ take r.unarmour.given r.unarmour.bytes → rest ≡ drop r.handed out → copied ≡ take count rest → count ≤ length rest
    → new.pieces ≡ r.pieces → new.at ≡ r.at → new.unarmour ≡ r.unarmour → new.ending ≡ r.ending → new.handed ≡ r.handed + count
    → (text : List ℕ) → reader_outlook r text ≡ with_front (take count (copied ++ drop count old)) (reader_outlook new text)
handed_over r new out rest copied old count is from copy within pieces at unarmour ending handed text =
    handed_outlook r new out count is pieces at unarmour ending handed text
    ∙ ap (λ (x : List ℕ). with_front x (reader_outlook new text)) (ap (take count) (sym from) ∙ sym (copied_is copied rest old count copy within))

pub goes_on : (u new : Unarmour) (piece : List ℕ) (used : ℕ) → u.stopped ≡ false → ((v : UnarmouringValue) → StandsReading u v → Ok used ≡ group_answer v piece)
    → ((v : UnarmouringValue) → StandsReading u v → StandsReading new (group_stepped v piece)) → new.stopped ≡ false
goes_on u new piece used goes answer reads = (step_outlook u new piece [] used false goes answer reads).1

-- bytes behind those that stand there
pub filled_more : (a k n : ℕ) (out new : List ℕ) → a ≤ length out → n ≤ length new → take (a + n) (put_mid a k out new) ≡ take a out ++ take n new
filled_more a k n out new within few =
    let front : List ℕ = take a out in
    let size : length front ≡ a = length-take-le a out within in
    ap (λ (m : ℕ). take (m + n) (put_mid a k out new)) (sym size) ∙ take-append-add front (new ++ drop k (drop a out)) n ∙ ap (λ (x : List ℕ). front ++ x) (take-append-le n new (drop k (drop a out)) few)

-- the part of a buffer from here on
pub part_length : (out : List ℕ) (filled : ℕ) → length (take (length out - filled) (drop filled out)) ≡ length out - filled
part_length out filled = length-take-le (length out - filled) (drop filled out) (omega (arith, length-drop filled out))

-- What was filled so far.
pub record Filling (old : ArmourReader) (first : List ℕ) (now : ArmourReader) (out : List ℕ) (filled : ℕ) : Type 0 where
  pub outlook : (text : List ℕ) → reader_outlook old text ≡ with_front (take filled out) (reader_outlook now text)
  pub pieces : now.pieces ≡ old.pieces
  pub goes : now.ending ≡ None → old.ending ≡ None
  pub whole : now.ending ≡ Some Whole → old.ending ≡ Some Whole
  pub size : length out ≡ length first
  pub room : filled ≤ length out
  pub some : 1 ≤ length (pending old) → (1 ≤ filled) ⊎ (1 ≤ length (pending now))

pub filling_begins : (r : ArmourReader) (out : List ℕ) → Filling r out r out 0
filling_begins r out = record { outlook = λ text. refl; pieces = refl; goes = λ on. on; whole = λ is. is; size = refl; room = omega arith; some = λ some. inr some }

pub filling_more : (old now new : ArmourReader) (first out part : List ℕ) (filled count k : ℕ) → Filling old first now out filled → filled + k ≤ length out → length part ≡ k
    → ((text : List ℕ) → reader_outlook now text ≡ with_front (take count part) (reader_outlook new text)) → new.pieces ≡ now.pieces → (new.ending ≡ None → now.ending ≡ None)
    → (new.ending ≡ Some Whole → now.ending ≡ Some Whole) → count ≤ k → 1 ≤ count
    → Filling old first new (put_mid filled k out part) (filled + count)
filling_more old now new first out part filled count k f within size handed pieces goes whole few some =
    let all : List ℕ = put_mid filled k out part in
    let rest : List ℕ = drop k (drop filled out) in
    let long : length all ≡ length out = omega (arith, length-append (take filled out) (part ++ rest), length-append part rest, length-take-le filled out f.room, size, f.room, within, length-drop k (drop filled out), length-drop filled out) in record {
      outlook = λ text.
          f.outlook text ∙ ap (with_front (take filled out)) (handed text) ∙ with_both (take filled out) (take count part) (reader_outlook new text)
          ∙ ap (λ (x : List ℕ). with_front x (reader_outlook new text)) (sym (filled_more filled k count out part f.room (omega (arith, few, size))));
      pieces = pieces ∙ f.pieces;
      goes = λ on. f.goes (goes on);
      whole = λ is. f.whole (whole is);
      size = long ∙ f.size;
      room = omega (arith, long, few, within);
      some = λ _. inl (omega (arith, some));
    }
