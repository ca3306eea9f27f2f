-- A reader of armour that takes the bytes of a text one by one.
use Rattle.std.proofs.Common.{◌≡◌, ℕ, ◌+◌, ◌-◌, ◌^◌, ◌%◌, ◌<◌, ◌≤◌, ◌==◌, min, Bool, true, false, not, ◌&&◌, List, [], ◌∷◌, ◌++◌, length, take, drop, slice_set, Option, Some, None, Ok, Err, refl, sym, ap, ◌∙◌, arith, if◌then◌else◌}
use Rattle.std.proofs.lemmas.List.{append-nil, length-take-le, drop_all, drop_at}
use Rattle.std.proofs.lemmas.List.Elements.{filter-append}
use Rattle.std.proofs.lemmas.Grind.{take-set_at}
use Rattle.base64.specs.GeneralPurpose.{decoded_of}
use Rattle.base64.specs.Engines.{standard}
use Rattle.std.proofs.Common.{eq-eqb}
use Rattle.std.proofs.lemmas.Bool.{ne_eqb}
use Rattle.esdk_fields.specs.declared.faults.Fault.TheVariants.{BadArmour}
use Rattle.armour_core.specs.declared.errors.ArmourError.{ArmourError}
use Rattle.armour_core.specs.declared.errors.ArmourError.TheVariants.{Fault, Stopped}
use Rattle.armour_core.specs.declared.unarmour.Unarmour.{Unarmour}
use Rattle.armour_core.specs.Unarmoured.{GroupsRead, Unarmoured, bad_at, groups_behind, characters, group_count, group_then, groups_read, is_character, none_read, padding, unarmoured}
use Rattle.armour_core.specs.Unarmouring.{UnarmouringValue, bad_armour, end_answer, gained, new_unarmouring, unarmouring_stopped, text_ended}
use Rattle.armour_core.specs.Stands.{HoldsGroup, OpenGroup, StandsReading, RefusesByte, TakesByte, open_fault, open_from, open_group}
use Rattle.armour_core.proofs.Groups.{full_open, full_read, open_append, open_length, open_number, open_on, padded_last, read_append, read_nil, read_on, short_open, short_read}

-- what the groups of a text are read as
abbrev pub read : List ℕ → GroupsRead
read text = groups_read 1 false (characters text)

pub bytes_read : (text : List ℕ) → (unarmoured text).bytes ≡ (read text).bytes
unfolding unarmoured
bytes_read text = refl

pub bad_read : (text : List ℕ) → (unarmoured text).bad ≡ (read text).bad
unfolding unarmoured
bad_read text = refl

pub short_of : (text : List ℕ) → (unarmoured text).short ≡ not (length (characters text) % 4 == 0)
unfolding unarmoured
short_of text = refl

pub same_characters : (a b : List ℕ) → characters a ≡ characters b → unarmoured a ≡ unarmoured b
unfolding unarmoured
same_characters a b same = ap (λ (cs : List ℕ). let r : Unarmoured = record { bytes = (groups_read 1 false cs).bytes; bad = (groups_read 1 false cs).bad; short = not (length cs % 4 == 0) } in r) same

-- ---- one byte more

pub with_break : (text : List ℕ) (byte : ℕ) → is_character byte ≡ false → characters (text ++ byte ∷ []) ≡ characters text
with_break text byte passed = filter-append is_character text (byte ∷ []) ∙ ap (λ (b : Bool). characters text ++ (if b then byte ∷ [] else [])) passed ∙ append-nil (characters text)

pub with_character : (text : List ℕ) (byte : ℕ) → is_character byte ≡ true → characters (text ++ byte ∷ []) ≡ characters text ++ byte ∷ []
with_character text byte taken = filter-append is_character text (byte ∷ []) ∙ ap (λ (b : Bool). characters text ++ (if b then byte ∷ [] else [])) taken

-- a character behind an open group
open_with : (text : List ℕ) (byte : ℕ) → is_character byte ≡ true → open_group (text ++ byte ∷ []) ≡ open_on (open_group text) (byte ∷ [])
open_with text byte taken = ap (open_from 1 false) (with_character text byte taken) ∙ open_append 1 false (characters text) (byte ∷ [])

read_with : (text : List ℕ) (byte : ℕ) → is_character byte ≡ true → (unarmoured text).bad ≡ None
    → read (text ++ byte ∷ []) ≡ groups_behind (read text).bytes (read_on (open_group text) (byte ∷ []))
read_with text byte taken sound = ap (groups_read 1 false) (with_character text byte taken) ∙ read_append 1 false (characters text) (byte ∷ []) (sym (bad_read text) ∙ sound)

-- what is given beyond a front that gives so much
pub gained_beyond : (front text more : List ℕ) → (read text).bytes ≡ (read front).bytes ++ more → gained front text ≡ more
gained_beyond front text more is =
    ap (λ (n : ℕ). drop n (unarmoured text).bytes) (ap length (bytes_read front)) ∙ ap (drop (length (read front).bytes)) (bytes_read text ∙ is)
    ∙ drop_at (read front).bytes more (length (read front).bytes) refl

pub gained_none : (text : List ℕ) → gained text text ≡ []
gained_none text = drop_all (length (unarmoured text).bytes) (unarmoured text).bytes (omega arith)

-- ---- what a byte comes to

pub break_taken : (u : Unarmour) (text : List ℕ) (byte : ℕ) → u.stopped ≡ false → u.given ≡ 0 → is_character byte ≡ false → HoldsGroup u text → TakesByte text byte false u
break_taken u text byte goes none passed holds =
    let same = with_break text byte passed in
    let all = same_characters (text ++ byte ∷ []) text same in
    let is = ap (open_from 1 false) same in record {
      ends = sym (ap (λ (b : Bool). b && (length (characters text) % 4 == 3)) passed);
      holds = record {
        number = holds.number ∙ ap (λ (o : OpenGroup). min o.number (2 ^ 64 - 1)) (sym is);
        padded = holds.padded ∙ ap (λ (o : OpenGroup). o.padded) (sym is);
        held = holds.held ∙ ap (λ (o : OpenGroup). o.held) (sym is);
        sound = ap (λ (r : Unarmoured). r.bad) all ∙ holds.sound;
      };
      goes = goes;
      nothing = λ _. none;
      out = ap (λ (n : ℕ). take n u.bytes) none ∙ sym (gained_none text) ∙ ap (λ (r : Unarmoured). drop (length (unarmoured text).bytes) r.bytes) (sym all);
    }

-- a character whose group is bad
refused_where : (u new : Unarmour) (text : List ℕ) (byte : ℕ) (error : ArmourError) → HoldsGroup u text → error ≡ open_fault u → new.stopped ≡ true → new.given ≡ 0
    → is_character byte ≡ true → read_on (open_group text) (byte ∷ []) ≡ bad_at (open_group text).number → RefusesByte text byte error new
refused_where u new text byte error holds error_is stops none taken bad = record {
  number = (open_group text).number;
  bad = bad_read (text ++ byte ∷ []) ∙ ap (λ (r : GroupsRead). r.bad) (read_with text byte taken holds.sound) ∙ ap (λ (r : GroupsRead). r.bad) bad;
  error_is = error_is ∙ ap (λ (n : ℕ). let e : ArmourError = Fault (BadArmour n) in e) holds.number;
  stops = stops;
  given = none;
}

pub padded_refused : (u new : Unarmour) (text : List ℕ) (byte : ℕ) (error : ArmourError) → HoldsGroup u text → error ≡ open_fault u → new.stopped ≡ true → new.given ≡ 0
    → is_character byte ≡ true → u.padded ≡ true → RefusesByte text byte error new
unfolding groups_read
padded_refused u new text byte error holds error_is stops none taken padded =
    let o : OpenGroup = open_group text in
    let on : o.padded ≡ true = sym holds.padded ∙ padded in
    let empty : o.held ≡ [] = padded_last 1 false (characters text) (sym (bad_read text) ∙ holds.sound) on in
    refused_where u new text byte error holds error_is stops none taken
    (ap (λ (p : Bool). groups_read o.number p (o.held ++ byte ∷ [])) on ∙ ap (λ (h : List ℕ). groups_read o.number true (h ++ byte ∷ [])) empty)

-- ---- the group as it is held

pub held_length : (u : Unarmour) (text : List ℕ) → length u.group ≡ 4 → u.held < 4 → HoldsGroup u text → u.held ≡ length (open_group text).held
held_length u text size few holds = sym (length-take-le u.held u.group (omega (arith, size, few))) ∙ ap length holds.held

put_behind : (group : List ℕ) (held byte : ℕ) → held < length group → take (held + 1) (slice_set group held byte) ≡ take held group ++ byte ∷ []
put_behind group held byte within = take-set_at group held (held + 1) byte refl within

pub character_held : (u new : Unarmour) (text : List ℕ) (byte : ℕ) → length u.group ≡ 4 → u.held < 3 → u.given ≡ 0 → u.stopped ≡ false → HoldsGroup u text
    → is_character byte ≡ true → u.padded ≡ false → new.group ≡ slice_set u.group u.held byte → new.held ≡ u.held + 1 → new.number ≡ u.number → new.padded ≡ u.padded → new.given ≡ u.given → new.stopped ≡ u.stopped
    → TakesByte text byte false new
character_held u new text byte size few none goes holds taken unpadded group_is held_is number_is padded_is given_is stopped_is =
    let o : OpenGroup = open_group text in
    let off : o.padded ≡ false = sym holds.padded ∙ unpadded in
    let len = held_length u text size (omega (arith, few)) holds in
    let count = open_length 1 false (characters text) in
    let is = open_with text byte taken ∙ short_open o.number o.padded o.held byte (omega (arith, few, len)) in
    let nothing = ap (λ (p : Bool). groups_read o.number p (o.held ++ byte ∷ [])) off ∙ short_read o.number o.held byte (omega (arith, few, len)) in
    let all = read_with text byte taken holds.sound ∙ ap (groups_behind (read text).bytes) nothing in record {
      ends = sym (ap (λ (b : Bool). b && (length (characters text) % 4 == 3)) taken ∙ ne_eqb (length (characters text) % 4) 3 (λ full. absurd (omega (arith, full, few, len, count))));
      holds = record {
        number = number_is ∙ holds.number ∙ ap (λ (g : OpenGroup). min g.number (2 ^ 64 - 1)) (sym is);
        padded = padded_is ∙ holds.padded ∙ ap (λ (g : OpenGroup). g.padded) (sym is);
        held = ap (λ (n : ℕ). take n new.group) held_is ∙ ap (take (u.held + 1)) group_is ∙ put_behind u.group u.held byte (omega (arith, few, size))
            ∙ ap (λ (h : List ℕ). h ++ byte ∷ []) holds.held ∙ ap (λ (g : OpenGroup). g.held) (sym is);
        sound = bad_read (text ++ byte ∷ []) ∙ ap (λ (r : GroupsRead). r.bad) all;
      };
      goes = stopped_is ∙ goes;
      nothing = λ _. given_is ∙ none;
      out = ap (λ (n : ℕ). take n new.bytes) (given_is ∙ none) ∙ sym (gained_beyond text (text ++ byte ∷ []) [] (ap (λ (r : GroupsRead). r.bytes) all));
    }

full_group : (group : List ℕ) (byte : ℕ) → length group ≡ 4 → slice_set group 3 byte ≡ take 3 group ++ byte ∷ []
full_group [] byte size = absurd (omega (arith, size))
full_group (a ∷ []) byte size = absurd (omega (arith, size))
full_group (a ∷ b ∷ []) byte size = absurd (omega (arith, size))
full_group (a ∷ b ∷ c ∷ []) byte size = absurd (omega (arith, size))
full_group (a ∷ b ∷ c ∷ d ∷ []) byte size = refl
full_group (a ∷ b ∷ c ∷ d ∷ e ∷ group) byte size = absurd (omega (arith, size))

-- the group once its fourth character came
group_is : (u : Unarmour) (text : List ℕ) (byte : ℕ) → length u.group ≡ 4 → u.held ≡ 3 → HoldsGroup u text → slice_set u.group u.held byte ≡ (open_group text).held ++ byte ∷ []
group_is u text byte size full holds =
    ap (λ (n : ℕ). slice_set u.group n byte) full ∙ full_group u.group byte size ∙ ap (λ (n : ℕ). take n u.group ++ byte ∷ []) (sym full) ∙ ap (λ (h : List ℕ). h ++ byte ∷ []) holds.held

-- what is read with it
read_full : (u : Unarmour) (text : List ℕ) (byte : ℕ) → length u.group ≡ 4 → u.held ≡ 3 → u.padded ≡ false → HoldsGroup u text
    → read_on (open_group text) (byte ∷ []) ≡ group_then (open_group text).number (decoded_of standard (slice_set u.group u.held byte)) none_read
read_full u text byte size full unpadded holds =
    let o : OpenGroup = open_group text in
    let off : o.padded ≡ false = sym holds.padded ∙ unpadded in
    let len = held_length u text size (omega (arith, full)) holds in
    ap (λ (p : Bool). groups_read o.number p (o.held ++ byte ∷ [])) off ∙ full_read o.number o.held byte (omega (arith, full, len))
    ∙ ap (λ (g : List ℕ). group_then o.number (decoded_of standard g) (groups_read (o.number + 1) (byte == padding) [])) (sym (group_is u text byte size full holds))
    ∙ ap (group_then o.number (decoded_of standard (slice_set u.group u.held byte))) (read_nil (o.number + 1) (byte == padding))

pub full_refused : (u new : Unarmour) (text : List ℕ) (byte : ℕ) (error : ArmourError) → length u.group ≡ 4 → u.held ≡ 3 → HoldsGroup u text → is_character byte ≡ true → u.padded ≡ false
    → decoded_of standard (slice_set u.group u.held byte) ≡ None → error ≡ open_fault u → new.stopped ≡ true → new.given ≡ 0 → RefusesByte text byte error new
full_refused u new text byte error size full holds taken unpadded bad error_is stops none =
    refused_where u new text byte error holds error_is stops none taken
    (read_full u text byte size full unpadded holds ∙ ap (λ (x : Option (List ℕ)). group_then (open_group text).number x none_read) bad)

pub group_taken : (u new : Unarmour) (text : List ℕ) (byte count : ℕ) → length u.group ≡ 4 → u.held ≡ 3 → u.stopped ≡ false → HoldsGroup u text → is_character byte ≡ true → u.padded ≡ false
    → decoded_of standard (slice_set u.group u.held byte) ≡ Some (take count new.bytes) → new.given ≡ count → new.held ≡ 0 → new.number ≡ min (u.number + 1) (2 ^ 64 - 1) → new.padded ≡ (byte == padding) → new.stopped ≡ u.stopped
    → TakesByte text byte true new
group_taken u new text byte count size full goes holds taken unpadded decoded given_is held_is number_is padded_is stopped_is =
    let o : OpenGroup = open_group text in
    let len = held_length u text size (omega (arith, full)) holds in
    let chars = open_length 1 false (characters text) in
    let is = open_with text byte taken ∙ full_open o.number o.padded o.held byte (omega (arith, full, len)) in
    let good = read_full u text byte size full unpadded holds ∙ ap (λ (x : Option (List ℕ)). group_then o.number x none_read) decoded in
    let all = read_with text byte taken holds.sound ∙ ap (groups_behind (read text).bytes) good in record {
      ends = sym (ap (λ (b : Bool). b && (length (characters text) % 4 == 3)) taken ∙ eq-eqb (length (characters text) % 4) 3 (omega (arith, full, len, chars)));
      holds = record {
        number = number_is ∙ omega (arith, holds.number) ∙ ap (λ (g : OpenGroup). min g.number (2 ^ 64 - 1)) (sym is);
        padded = padded_is ∙ ap (λ (g : OpenGroup). g.padded) (sym is);
        held = ap (λ (n : ℕ). take n new.group) held_is ∙ ap (λ (g : OpenGroup). g.held) (sym is);
        sound = bad_read (text ++ byte ∷ []) ∙ ap (λ (r : GroupsRead). r.bad) all;
      };
      goes = stopped_is ∙ goes;
      nothing = λ no. cc no;
      out = ap (λ (n : ℕ). take n new.bytes) given_is
          ∙ sym (gained_beyond text (text ++ byte ∷ []) (take count new.bytes) (ap (λ (r : GroupsRead). r.bytes) all ∙ ap (λ (b : List ℕ). (read text).bytes ++ b) (append-nil (take count new.bytes))));
    }

-- ---- the end

pub new_reads : (u : Unarmour) → u.stopped ≡ false → u.number ≡ 1 → u.padded ≡ false → u.held ≡ 0 → u.given ≡ 0 → StandsReading u new_unarmouring
unfolding unarmoured groups_read open_from
new_reads u goes number padded held given = record {
  stopped = goes;
  group = λ _. record { number = number; padded = padded; held = ap (λ (n : ℕ). take n u.group) held; sound = refl };
  out = ap (λ (n : ℕ). take n u.bytes) given;
}

-- the same group, whatever was given
pub same_group : (u new : Unarmour) (text : List ℕ) → new.group ≡ u.group → new.held ≡ u.held → new.number ≡ u.number → new.padded ≡ u.padded → HoldsGroup u text → HoldsGroup new text
same_group u new text group held number padded holds = record {
  number = number ∙ holds.number;
  padded = padded ∙ holds.padded;
  held = ap (λ (n : ℕ). take n new.group) held ∙ ap (take u.held) group ∙ holds.held;
  sound = holds.sound;
}

-- a session that has stopped
pub stays_stopped : (u : Unarmour) (v : UnarmouringValue) → u.stopped ≡ true → u.given ≡ 0 → StandsReading u (unarmouring_stopped v)
stays_stopped u v stopped given = record { stopped = stopped; group = λ goes. cc goes; out = ap (λ (n : ℕ). take n u.bytes) given }

-- the text is short where some characters are held
pub short_where : (u : Unarmour) (text : List ℕ) → length u.group ≡ 4 → u.held < 4 → HoldsGroup u text → 0 < u.held → (unarmoured text).short ≡ true
short_where u text size few holds some =
    let len = held_length u text size few holds in
    let chars = open_length 1 false (characters text) in
    short_of text ∙ ap not (ne_eqb (length (characters text) % 4) 0 (λ none. absurd (omega (arith, none, some, len, chars))))

pub even_where : (u : Unarmour) (text : List ℕ) → length u.group ≡ 4 → u.held < 4 → HoldsGroup u text → u.held ≤ 0 → (unarmoured text).short ≡ false
even_where u text size few holds none =
    let len = held_length u text size few holds in
    let chars = open_length 1 false (characters text) in
    short_of text ∙ ap not (eq-eqb (length (characters text) % 4) 0 (omega (arith, none, len, chars)))

-- and then its number is that of the last group
pub short_fault : (u : Unarmour) (text : List ℕ) → length u.group ≡ 4 → u.held < 4 → HoldsGroup u text → 0 < u.held → open_fault u ≡ bad_armour (group_count text)
short_fault u text size few holds some =
    let len = held_length u text size few holds in
    let chars = open_length 1 false (characters text) in
    let number = open_number 1 false (characters text) in
    let is : u.number ≡ min (group_count text) (2 ^ 64 - 1) = omega (arith, holds.number, number, some, len, chars) in
    ap (λ (n : ℕ). let e : ArmourError = Fault (BadArmour n) in e) is

-- ---- what the end answers

pub end_stopped : (v : UnarmouringValue) → v.stopped ≡ true → (end_answer v ≡ Err Stopped) × (text_ended v ≡ unarmouring_stopped v)
unfolding end_answer text_ended
end_stopped v stopped = (rw stopped refl, rw stopped refl)

pub end_short : (v : UnarmouringValue) → v.stopped ≡ false → (unarmoured v.taken).short ≡ true → (end_answer v ≡ Err (bad_armour (group_count v.taken))) × (text_ended v ≡ unarmouring_stopped v)
unfolding end_answer text_ended
end_short v goes short = (rw (goes, short) refl, rw (goes, short) refl)

pub end_even : (v : UnarmouringValue) → v.stopped ≡ false → (unarmoured v.taken).short ≡ false → (end_answer v ≡ Ok tt) × (text_ended v ≡ record v { out = [] })
unfolding end_answer text_ended
end_even v goes even = (rw (goes, even) refl, rw (goes, even) refl)
