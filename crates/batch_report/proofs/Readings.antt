-- What a line of a report says is read back from it.
use Rattle.std.proofs.Common.{◌≡◌, ◌<◌, ◌^◌, ◌+◌, ◌*◌, ◌-◌, ◌/◌, ◌%◌, ◌==◌, ◌∙◌, ℕ, true, false, cond, nat_lt, List, [], ◌∷◌, ◌++◌, drop, get_or, Option, None, Some, refl, sym, ap, arith, append_assoc}
use Rattle.std.proofs.lemmas.List.{append_cancel_left}
use Rattle.std.proofs.lemmas.List.Elements.{All-head, All-tail}
use Rattle.std.specs.Prelude.{All, codes}
use Rattle.std.proofs.lemmas.Fmt.{decimal_is_IsNumeral_wide}
use Rattle.std.specs.Option.{unwrap_or}
use Rattle.std.specs.Fmt.{decimal}
use Rattle.std.specs.Char.{digit_char, digit_value}
use Rattle.std.specs.Str.Parse.{AllDigits, digits_value}
use Rattle.json.specs.Print.{escape}
use Rattle.json.specs.Text.{content, plain}
use Rattle.json.proofs.Printed.Strings.{content-escape}
use Rattle.esdk_fields.specs.Names.{kind_name, fault_name, refusal_name, outside_name}
use Rattle.esdk_fields.specs.declared.faults.ContextFault.{ContextFault}
use Rattle.esdk_fields.specs.declared.faults.ContextFault.TheVariants as kinds
use Rattle.esdk_fields.specs.declared.faults.Fault.TheVariants as faults
use Rattle.esdk_fields.specs.declared.refusals.Refusal.TheVariants as refusals
use Rattle.esdk_fields.specs.declared.refusals.Outside.TheVariants as outsides
use Rattle.esdk_report.specs.Lines.{number_word, text_word, hex_word, fault_kind_word as context_kind_word, fault_values, fault_line, refusal_values, refusal_line, outside_line}
use Rattle.batch_report.specs.declared.job_lines.JobEnd.{JobEnd}
use Rattle.batch_report.specs.declared.job_lines.JobEnd.TheVariants as ends
use Rattle.batch_report.specs.declared.job_lines.JobLine.{JobLine}
use Rattle.keyring_trait.specs.declared.journal.Kind.{Kind}
use Rattle.keyring_trait.specs.declared.journal.Kind.TheVariants.{Seal, Unseal}
use Rattle.keyring_trait.specs.declared.served.Served.{Served}
use Rattle.keyring_trait.specs.declared.served.Served.TheVariants.{Direct, New, Hit}
use Rattle.batch_report.specs.BatchReport.{end_word, job_line, job_word, lines_from, served_word}
use Rattle.batch_report.specs.Laws.{EndIsShort, IsShort, LineIsShort, ServedIsShort}

-- ---- values

-- the bytes before the first that is a space or less, and the rest
word_of : List ℕ → List ℕ
word_of [] = []
word_of (x ∷ xs) = cond (nat_lt x 33) [] (x ∷ word_of xs)

behind_word : List ℕ → List ℕ
behind_word [] = []
behind_word (x ∷ xs) = cond (nat_lt x 33) (x ∷ xs) (behind_word xs)

digit_high : (c : ℕ) → digit_value c < 10 → nat_lt c 33 ≡ false
digit_high c lt = grind arith

word_digits : (digits rest : List ℕ) (stop : ℕ) → nat_lt stop 33 ≡ true → AllDigits 10 digits
    → word_of (digits ++ stop ∷ rest) ≡ digits
unfolding word_of
word_digits [] rest stop low all = rw low refl
word_digits (c ∷ digits) rest stop low all =
    rw (digit_high c all.0) (ap (λ (l : List ℕ). c ∷ l) (word_digits digits rest stop low all.1))

behind_digits : (digits rest : List ℕ) (stop : ℕ) → nat_lt stop 33 ≡ true → AllDigits 10 digits
    → behind_word (digits ++ stop ∷ rest) ≡ stop ∷ rest
unfolding behind_word
behind_digits [] rest stop low all = rw low refl
behind_digits (c ∷ digits) rest stop low all =
    rw (digit_high c all.0) (behind_digits digits rest stop low all.1)

number_at : List ℕ → ℕ
number_at text = digits_value 10 (word_of (drop 1 text))

short_fits : (n : ℕ) → IsShort n → n < 10 ^ 64
short_fits n short = omega (arith, short)

read_number : (n stop : ℕ) (rest : List ℕ) → nat_lt stop 33 ≡ true → IsShort n
    → number_at (number_word n ++ stop ∷ rest) ≡ n
unfolding number_at number_word
read_number n stop rest low short =
    let numeral = decimal_is_IsNumeral_wide n (short_fits n short) in
    ap (digits_value 10) (word_digits (decimal n) rest stop low numeral.0.1) ∙ numeral.1

text_at : List ℕ → List ℕ
text_at text = unwrap_or (content plain (drop 2 text)) []

read_text : (key rest : List ℕ) → text_at (text_word key ++ 32 ∷ rest) ≡ key
unfolding text_at text_word
read_text key rest =
    ap (λ (l : List ℕ). unwrap_or (content plain l) []) (append_assoc (escape key) (34 ∷ []) (32 ∷ rest))
    ∙ ap (λ (o : Option (List ℕ)). unwrap_or o []) (content-escape key (32 ∷ rest))

digit_of : ℕ → ℕ
digit_of c = cond (nat_lt c 58) (c - 48) (c - 87)

read_digit : (d : ℕ) → digit_of (digit_char d) ≡ d
unfolding digit_of
read_digit d = grind arith

hex_at : List ℕ → ℕ
hex_at text = ((digit_of (get_or text 1 0) * 16 + digit_of (get_or text 2 0)) * 16
    + digit_of (get_or text 3 0)) * 16 + digit_of (get_or text 4 0)

read_hex : (n : ℕ) (rest : List ℕ) → hex_at (hex_word n ++ 32 ∷ rest) ≡ n
unfolding hex_at hex_word
read_hex n rest =
    rw (read_digit (n / 4096), read_digit (n / 256 % 16), read_digit (n / 16 % 16), read_digit (n % 16))
    (omega arith)

kind_at : List ℕ → ContextFault
kind_at text =
    cond (get_or text 1 0 == 76) kinds.Length (cond (get_or text 1 0 == 85) kinds.Utf8 kinds.Duplicate)

read_kind : (kind : ContextFault) (rest : List ℕ) → kind_at (context_kind_word kind ++ 32 ∷ rest) ≡ kind
unfolding kind_at context_kind_word kind_name
read_kind kinds.Length rest = refl
read_kind kinds.Utf8 rest = refl
read_kind kinds.Duplicate rest = refl

-- ---- why a job isn't done

mark : List ℕ → ℕ
mark text = (get_or text 0 0 * 256 + get_or text 1 0) * 256 + get_or text 2 0

end_at : List ℕ → JobEnd
end_at text =
    cond (mark text == 6582126) ends.Done (
    cond (mark text == 5058848) (ends.Fault (faults.BadVersion (number_at (drop 13 text)))) (
    cond (mark text == 5059104) (ends.Fault (faults.UnsupportedSuite (hex_at (drop 19 text)))) (
    cond (mark text == 5059360) (ends.Fault (faults.BadContext (kind_at (drop 13 text)))) (
    cond (mark text == 5059616) (ends.Fault faults.NoDataKeys) (
    cond (mark text == 5059872) (ends.Fault (faults.TooManyDataKeys (number_at (drop 18 text)))) (
    cond (mark text == 5060128) (ends.Fault (faults.BadContentType (number_at (drop 17 text)))) (
    cond (mark text == 5060384) (ends.Fault (faults.BadFrameLength (number_at (drop 17 text)))) (
    cond (mark text == 5060640) (ends.Fault (faults.HeaderTooLong (number_at (drop 16 text)))) (
    cond (mark text == 5060896) (ends.Fault (faults.UnitTooLong (number_at (drop 14 text)))) (
    cond (mark text == 5058864) (ends.Fault faults.Truncated) (
    cond (mark text == 5058865) (ends.Fault faults.ReservedKey) (
    cond (mark text == 5058866) (ends.Fault (faults.ContextMismatch (text_at (drop 19 text)))) (
    cond (mark text == 5058867) (ends.Fault (faults.MissingRequired (text_at (drop 19 text)))) (
    cond (mark text == 5058868) (ends.Fault (faults.ContextTooLong (number_at (drop 18 text)))) (
    cond (mark text == 5058869) (ends.Fault faults.NoKeyOpens) (
    cond (mark text == 5058870) (ends.Fault faults.Commitment) (
    cond (mark text == 5058871) (ends.Fault faults.HeaderTag) (
    cond (mark text == 5058872) (ends.Fault (faults.WrongSequence (number_at (drop 17 text)) (number_at (behind_word (drop 18 text))))) (
    cond (mark text == 5058873) (ends.Fault (faults.FinalTooLong (number_at (drop 16 text)))) (
    cond (mark text == 5059120) (ends.Fault (faults.UnitTag (number_at (drop 11 text)))) (
    cond (mark text == 5059121) (ends.Fault (faults.BlockTooLong (number_at (drop 16 text)))) (
    cond (mark text == 5059122) (ends.Fault faults.TrailingBytes) (
    cond (mark text == 5059123) (ends.Fault (faults.Uncommitted (hex_at (drop 15 text)))) (
    cond (mark text == 5059124) (ends.Fault (faults.BadType (number_at (drop 11 text)))) (
    cond (mark text == 5059125) (ends.Fault (faults.BadReserved (number_at (drop 15 text)))) (
    cond (mark text == 5059126) (ends.Fault (faults.BadIvLength (number_at (drop 15 text)))) (
    cond (mark text == 5059127) (ends.Fault (faults.BadArmour (number_at (drop 13 text)))) (
    cond (mark text == 5320992) (ends.Refusal (refusals.ReservedPrefix (text_at (drop 17 text)))) (
    cond (mark text == 5321248) (ends.Refusal (refusals.ContextTooLong (number_at (drop 17 text)))) (
    cond (mark text == 5321504) (ends.Refusal (refusals.DuplicateKey (text_at (drop 15 text)))) (
    cond (mark text == 5321760) (ends.Refusal (refusals.RequiredAbsent (text_at (drop 17 text)))) (
    cond (mark text == 5322016) (ends.Refusal refusals.NoGenerator) (
    cond (mark text == 5322272) (ends.Refusal refusals.GeneratorHasKey) (
    cond (mark text == 5322528) (ends.Refusal (refusals.TooManyDataKeys (number_at (drop 18 text)))) (
    cond (mark text == 5322784) (ends.Refusal (refusals.HeaderTooLong (number_at (drop 16 text)))) (
    cond (mark text == 5323040) (ends.Refusal refusals.TooManyFrames) (
    cond (mark text == 5321008) (ends.Refusal (refusals.OverDeclared (number_at (drop 16 text)))) (
    cond (mark text == 5779744) (ends.Outside outsides.SourceFault) (
    cond (mark text == 5780000) (ends.Outside outsides.SinkFault) (
    cond (mark text == 5780256) (ends.Outside outsides.ShelfFault) (
    cond (mark text == 5780512) (ends.Outside outsides.EntropyFault) (
    cond (mark text == 5780768) (ends.Outside outsides.KeyringFault) (
    (ends.Outside outsides.InputTooLong))))))))))))))))))))))))))))))))))))))))))))

read_two : (want got : ℕ) (rest : List ℕ) → IsShort want → IsShort got
    → (number_at ((number_word want ++ number_word got) ++ 32 ∷ rest) ≡ want)
    × (number_at (behind_word (drop 1 ((number_word want ++ number_word got) ++ 32 ∷ rest))) ≡ got)
unfolding number_word
read_two want got rest first second =
    let numeral = decimal_is_IsNumeral_wide want (short_fits want first) in
    let same = append_assoc (decimal want) (32 ∷ decimal got) (32 ∷ rest) in (
      ap (λ (l : List ℕ). number_at (32 ∷ l)) same ∙ read_number want 32 (decimal got ++ 32 ∷ rest) refl first,
      ap (λ (l : List ℕ). number_at (behind_word l)) same
          ∙ ap number_at (behind_digits (decimal want) (decimal got ++ 32 ∷ rest) 32 refl numeral.0.1)
          ∙ read_number got 32 rest refl second,
    )

read_end : (end : JobEnd) (rest : List ℕ) → EndIsShort end → end_at (end_word end ++ 32 ∷ rest) ≡ end
unfolding end_at mark fault_line fault_name fault_values refusal_line refusal_name refusal_values outside_line outside_name
read_end ends.Done rest short = refl
read_end (ends.Fault (faults.BadVersion version)) rest short = ap (λ (n : ℕ). ends.Fault (faults.BadVersion n)) (read_number version 32 rest refl short)
read_end (ends.Fault (faults.UnsupportedSuite suite)) rest short = ap (λ (n : ℕ). ends.Fault (faults.UnsupportedSuite n)) (read_hex suite rest)
read_end (ends.Fault (faults.BadContext kind)) rest short = ap (λ (k : ContextFault). ends.Fault (faults.BadContext k)) (read_kind kind rest)
read_end (ends.Fault faults.NoDataKeys) rest short = refl
read_end (ends.Fault (faults.TooManyDataKeys count)) rest short = ap (λ (n : ℕ). ends.Fault (faults.TooManyDataKeys n)) (read_number count 32 rest refl short)
read_end (ends.Fault (faults.BadContentType kind)) rest short = ap (λ (n : ℕ). ends.Fault (faults.BadContentType n)) (read_number kind 32 rest refl short)
read_end (ends.Fault (faults.BadFrameLength frame)) rest short = ap (λ (n : ℕ). ends.Fault (faults.BadFrameLength n)) (read_number frame 32 rest refl short)
read_end (ends.Fault (faults.HeaderTooLong end)) rest short = ap (λ (n : ℕ). ends.Fault (faults.HeaderTooLong n)) (read_number end 32 rest refl short)
read_end (ends.Fault (faults.UnitTooLong unit)) rest short = ap (λ (n : ℕ). ends.Fault (faults.UnitTooLong n)) (read_number unit 32 rest refl short)
read_end (ends.Fault faults.Truncated) rest short = refl
read_end (ends.Fault faults.ReservedKey) rest short = refl
read_end (ends.Fault (faults.ContextMismatch key)) rest short = ap (λ (t : List ℕ). ends.Fault (faults.ContextMismatch t)) (read_text key rest)
read_end (ends.Fault (faults.MissingRequired key)) rest short = ap (λ (t : List ℕ). ends.Fault (faults.MissingRequired t)) (read_text key rest)
read_end (ends.Fault (faults.ContextTooLong total)) rest short = ap (λ (n : ℕ). ends.Fault (faults.ContextTooLong n)) (read_number total 32 rest refl short)
read_end (ends.Fault faults.NoKeyOpens) rest short = refl
read_end (ends.Fault faults.Commitment) rest short = refl
read_end (ends.Fault faults.HeaderTag) rest short = refl
read_end (ends.Fault (faults.WrongSequence want got)) rest short =
    let both = read_two want got rest short.0 short.1 in rw (both.0, both.1) refl
read_end (ends.Fault (faults.FinalTooLong final)) rest short = ap (λ (n : ℕ). ends.Fault (faults.FinalTooLong n)) (read_number final 32 rest refl short)
read_end (ends.Fault (faults.UnitTag sequence)) rest short = ap (λ (n : ℕ). ends.Fault (faults.UnitTag n)) (read_number sequence 32 rest refl short)
read_end (ends.Fault (faults.BlockTooLong block)) rest short = ap (λ (n : ℕ). ends.Fault (faults.BlockTooLong n)) (read_number block 32 rest refl short)
read_end (ends.Fault faults.TrailingBytes) rest short = refl
read_end (ends.Fault (faults.Uncommitted suite)) rest short = ap (λ (n : ℕ). ends.Fault (faults.Uncommitted n)) (read_hex suite rest)
read_end (ends.Fault (faults.BadType kind)) rest short = ap (λ (n : ℕ). ends.Fault (faults.BadType n)) (read_number kind 32 rest refl short)
read_end (ends.Fault (faults.BadReserved reserved)) rest short = ap (λ (n : ℕ). ends.Fault (faults.BadReserved n)) (read_number reserved 32 rest refl short)
read_end (ends.Fault (faults.BadIvLength length)) rest short = ap (λ (n : ℕ). ends.Fault (faults.BadIvLength n)) (read_number length 32 rest refl short)
read_end (ends.Fault (faults.BadArmour group)) rest short = ap (λ (n : ℕ). ends.Fault (faults.BadArmour n)) (read_number group 32 rest refl short)
read_end (ends.Refusal (refusals.ReservedPrefix key)) rest short = ap (λ (t : List ℕ). ends.Refusal (refusals.ReservedPrefix t)) (read_text key rest)
read_end (ends.Refusal (refusals.ContextTooLong total)) rest short = ap (λ (n : ℕ). ends.Refusal (refusals.ContextTooLong n)) (read_number total 32 rest refl short)
read_end (ends.Refusal (refusals.DuplicateKey key)) rest short = ap (λ (t : List ℕ). ends.Refusal (refusals.DuplicateKey t)) (read_text key rest)
read_end (ends.Refusal (refusals.RequiredAbsent key)) rest short = ap (λ (t : List ℕ). ends.Refusal (refusals.RequiredAbsent t)) (read_text key rest)
read_end (ends.Refusal refusals.NoGenerator) rest short = refl
read_end (ends.Refusal refusals.GeneratorHasKey) rest short = refl
read_end (ends.Refusal (refusals.TooManyDataKeys count)) rest short = ap (λ (n : ℕ). ends.Refusal (refusals.TooManyDataKeys n)) (read_number count 32 rest refl short)
read_end (ends.Refusal (refusals.HeaderTooLong end)) rest short = ap (λ (n : ℕ). ends.Refusal (refusals.HeaderTooLong n)) (read_number end 32 rest refl short)
read_end (ends.Refusal refusals.TooManyFrames) rest short = refl
read_end (ends.Refusal (refusals.OverDeclared declared)) rest short = ap (λ (n : ℕ). ends.Refusal (refusals.OverDeclared n)) (read_number declared 32 rest refl short)
read_end (ends.Outside outsides.SourceFault) rest short = refl
read_end (ends.Outside outsides.SinkFault) rest short = refl
read_end (ends.Outside outsides.ShelfFault) rest short = refl
read_end (ends.Outside outsides.EntropyFault) rest short = refl
read_end (ends.Outside outsides.KeyringFault) rest short = refl
read_end (ends.Outside outsides.InputTooLong) rest short = refl

-- ---- how materials were served

served_at : List ℕ → Option Served
served_at text =
    cond (get_or text 2 0 == 111) None (cond (get_or text 1 0 == 100) (Some Direct)
    (cond (get_or text 1 0 == 110) (Some (New (number_at (drop 4 text)))) (Some (Hit (number_at (drop 4 text))))))

read_served : (served : Option Served) (rest : List ℕ) → ServedIsShort served
    → served_at (served_word served ++ 10 ∷ rest) ≡ served
unfolding served_at
read_served None rest short = refl
read_served (Some Direct) rest short = refl
read_served (Some (New number)) rest short = ap (λ (n : ℕ). Some (New n)) (read_number number 10 rest refl short)
read_served (Some (Hit number)) rest short = ap (λ (n : ℕ). Some (Hit n)) (read_number number 10 rest refl short)

-- it begins with a space
served_begins : (served : Option Served) (rest : List ℕ) → (text : List ℕ) × (served_word served ++ rest ≡ 32 ∷ text)
served_begins None rest = (codes "none" ++ rest, refl)
served_begins (Some Direct) rest = (codes "direct" ++ rest, refl)
served_begins (Some (New number)) rest = ((codes "new" ++ number_word number) ++ rest, refl)
served_begins (Some (Hit number)) rest = ((codes "hit" ++ number_word number) ++ rest, refl)

-- ---- lines

kind_first : (kind other : Kind) (rest more : List ℕ) → job_word kind ++ rest ≡ job_word other ++ more
    → (kind ≡ other) × (rest ≡ more)
kind_first Seal Seal rest more is = (refl, append_cancel_left (codes " encrypt ") rest more is)
kind_first Unseal Unseal rest more is = (refl, append_cancel_left (codes " decrypt ") rest more is)
kind_first Seal Unseal rest more is =
    absurd (let h : 101 ≡ 100 = ap (λ (l : List ℕ). get_or l 1 0) is in omega (arith, h))
kind_first Unseal Seal rest more is =
    absurd (let h : 100 ≡ 101 = ap (λ (l : List ℕ). get_or l 1 0) is in omega (arith, h))

end_first : (end other : JobEnd) (rest more : List ℕ) (text texts : List ℕ) → EndIsShort end → EndIsShort other
    → rest ≡ 32 ∷ text → more ≡ 32 ∷ texts → end_word end ++ rest ≡ end_word other ++ more → (end ≡ other) × (rest ≡ more)
end_first end other rest more text texts short others begins begin is =
    let same : end ≡ other =
    sym (read_end end text short) ∙ ap (λ (l : List ℕ). end_at (end_word end ++ l)) (sym begins) ∙ ap end_at is
    ∙ ap (λ (l : List ℕ). end_at (end_word other ++ l)) begin ∙ read_end other texts others in (
      same,
      append_cancel_left (end_word end) rest more (is ∙ ap (λ (e : JobEnd). end_word e ++ more) (sym same)),
    )

served_first : (served other : Option Served) (rest more : List ℕ) → ServedIsShort served → ServedIsShort other
    → served_word served ++ 10 ∷ rest ≡ served_word other ++ 10 ∷ more → served ≡ other
served_first served other rest more short others is =
    sym (read_served served rest short) ∙ ap served_at is ∙ read_served other more others

-- a line, and what stands behind it
line_text : (number : ℕ) (line : JobLine) (rest : List ℕ) → job_line number line ++ rest
    ≡ codes "job" ++ (number_word number ++ (job_word line.kind ++ (end_word line.end ++ (served_word line.served ++ 10 ∷ rest))))
unfolding job_line
line_text number line rest = simp append_assoc

same_parts : (line other : JobLine) → line.kind ≡ other.kind → line.end ≡ other.end → line.served ≡ other.served → line ≡ other
same_parts line other kind end served =
    let of : Kind → JobEnd → Option Served → JobLine = λ k e s. record { kind = k; end = e; served = s } in
    ap (λ (k : Kind). of k line.end line.served) kind ∙ ap (λ (e : JobEnd). of other.kind e line.served) end
    ∙ ap (λ (s : Option Served). of other.kind other.end s) served

line_first : (number : ℕ) (line other : JobLine) (rest more : List ℕ) → LineIsShort line → LineIsShort other
    → job_line number line ++ rest ≡ job_line number other ++ more → line ≡ other
line_first number line other rest more short others is =
    let a = served_begins line.served (10 ∷ rest) in
    let b = served_begins other.served (10 ∷ more) in
    let whole = sym (line_text number line rest) ∙ is ∙ line_text number other more in
    let behind = append_cancel_left (number_word number) _ _ (append_cancel_left (codes "job") _ _ whole) in
    let kind = kind_first line.kind other.kind _ _ behind in
    let end = end_first line.end other.end _ _ a.0 b.0 short.0 others.0 a.1 b.1 kind.1 in
    let served = served_first line.served other.served rest more short.1 others.1 end.1 in
    same_parts line other kind.0 end.0 served

pub lines_first : (number : ℕ) (lines others : List JobLine) → All LineIsShort lines → All LineIsShort others
    → lines_from number lines ≡ lines_from number others → lines ≡ others
unfolding lines_from
lines_first number [] [] short shorts is = refl
lines_first number [] (other ∷ others) short shorts is =
    absurd (let h = is ∙ line_text number other (lines_from (number + 1) others) in cc)
lines_first number (line ∷ lines) [] short shorts is =
    absurd (let h = sym is ∙ line_text number line (lines_from (number + 1) lines) in cc)
lines_first number (line ∷ lines) (other ∷ others) short shorts is =
    let one : line ≡ other = line_first number line other _ _ (All-head LineIsShort line lines short) (All-head LineIsShort other others shorts) is in
    let behind = append_cancel_left (job_line number line) _ _
    (is ∙ ap (λ (l : JobLine). job_line number l ++ lines_from (number + 1) others) (sym one)) in
    let rest : lines ≡ others = lines_first (number + 1) lines others (All-tail LineIsShort line lines short) (All-tail LineIsShort other others shorts) behind in
    cc
