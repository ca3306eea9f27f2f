-- The bytes that came from an input, and the world's input.
use Rattle.std.proofs.Common.{◌≡◌, ◌∙◌, ℕ, ◌-◌, ◌^◌, ◌<◌, ◌≤◌, nat_le, Bool, true, false, List, [], ◌++◌, length, replicate, zero, suc, Option, Some, None, refl, sym, ap, arith, append_assoc, append-nil, length-append, le-leb}
use Rattle.std.proofs.lemmas.List.{append_cancel_left, length-replicate, take_all}
use Rattle.std.proofs.lemmas.List.Elements.{filter-append}
use Rattle.esdk_base.specs.Streams.{SourceState, most_input}
use Rattle.armour_core.specs.Outlook.{end_of, taken_front, text_outlook}
use Rattle.armour_core.specs.Unarmoured.{Unarmoured, characters, group_count, groups_read, is_character, unarmoured}
use Rattle.armour_core.specs.declared.text_end.TextEnd.{TextEnd}
use Rattle.armour_core.specs.declared.text_end.TextEnd.TheVariants as ends
use Rattle.armour_core.proofs.Reading.{bad_read}
use Rattle.armour_core.proofs.Stepping.{grows, stays_bad}
use Rattle.whole_input.specs.Taken.{Came}
use Rattle.esdk_run.specs.Unarmoured.{AllRead, TextEndsSo, ReadsText}
use Rattle.esdk_run.proofs.Unarmouring.{bytes_are}
use Rattle.esdk_program.specs.World.{InputIs}

-- ---- what came is the front of the input

pub record BeginsInput (after : SourceState) (input bytes : List ℕ) : Type 0 where
  pub rest : List ℕ
  pub all : input ≡ bytes ++ rest
  pub whole : after.ended ≡ true → rest ≡ []

pub begins_input : (before after : SourceState) (input bytes : List ℕ) → InputIs before after input → Came before after bytes → BeginsInput after input bytes
begins_input before after input bytes is came =
    let same : is.came ≡ bytes = append_cancel_left before.came is.came bytes (sym is.told ∙ came.told) in
    record { rest = is.rest; all = is.all ∙ ap (λ (b : List ℕ). b ++ is.rest) same; whole = is.whole }

pub is_all : (after : SourceState) (input bytes : List ℕ) → BeginsInput after input bytes → after.ended ≡ true → input ≡ bytes
is_all after input bytes begins ended = begins.all ∙ ap (λ (b : List ℕ). bytes ++ b) (begins.whole ended) ∙ append-nil bytes

pub is_few : (after : SourceState) (input bytes : List ℕ) → BeginsInput after input bytes → length input < 2 ^ 62 → length bytes ≡ 2 ^ 62 → ⊥
is_few after input bytes begins few most = omega (arith, few, most, ap length begins.all, length-append bytes begins.rest)

-- ---- armour

-- what a text gives stands in front of what it gives with more
unarmoured_more : (text rest : List ℕ) (o : Option ℕ) → (unarmoured text).bad ≡ o → (more : List ℕ) × ((unarmoured (text ++ rest)).bytes ≡ (unarmoured text).bytes ++ more)
unarmoured_more text rest None sound = (_, grows text rest sound)
unarmoured_more text rest (Some number) bad = ([], ap (λ (u : Unarmoured). u.bytes) (stays_bad text rest number bad) ∙ sym (append-nil (unarmoured text).bytes))

pub outlook_more : (text rest input : List ℕ) → input ≡ text ++ rest → length input < 2 ^ 62 → (more : List ℕ) × ((text_outlook input).bytes ≡ (unarmoured text).bytes ++ more)
outlook_more text rest input is few =
    let more = unarmoured_more text rest (unarmoured text).bad refl in
    (more.0, bytes_are input (omega (arith, few)) ∙ ap (λ (t : List ℕ). (unarmoured t).bytes) is ∙ more.1)

-- ---- a text that ends with a bad group

-- line feeds are no characters
no_characters : (n : ℕ) → characters (replicate n 10) ≡ []
no_characters zero = refl
no_characters (suc n) = no_characters n

breaks_bad : (text : List ℕ) (n : ℕ) → (unarmoured (text ++ replicate n 10)).bad ≡ (unarmoured text).bad
breaks_bad text n =
    bad_read (text ++ replicate n 10)
    ∙ ap (λ (cs : List ℕ). (groups_read 1 false cs).bad)
    (filter-append is_character text (replicate n 10) ∙ ap (λ (cs : List ℕ). characters text ++ cs) (no_characters n) ∙ append-nil (characters text))
    ∙ sym (bad_read text)

-- of so long a text no more is taken
long_ends : (text : List ℕ) → length text ≡ most_input → (unarmoured text).bad ≡ None → (text_outlook text).end ≡ ends.TooLong
unfolding text_outlook
long_ends text full sound =
    (λ i. end_of (unarmoured (take_all most_input text (omega (arith, full)) i)).bad (nat_le most_input (length text)) (unarmoured (taken_front text)).short (group_count (taken_front text)))
    ∙ ap (λ (o : Option ℕ). end_of o (nat_le most_input (length text)) (unarmoured (taken_front text)).short (group_count (taken_front text))) sound
    ∙ ap (λ (b : Bool). end_of None b (unarmoured (taken_front text)).short (group_count (taken_front text))) (le-leb most_input (length text) (omega (arith, full)))

-- so a text whose end wasn't seen, and that has no bad group, may end otherwise
not_bad : (taken : SourceState) (text : List ℕ) (number : ℕ) → length text ≤ 2 ^ 62 → TextEndsSo taken text (ends.Bad number) → taken.ended ≡ false → (unarmoured text).bad ≡ None → ⊥
not_bad taken text number few so going sound =
    let breaks : List ℕ = replicate (most_input - length text) 10 in
    let unseen : taken.ended ≡ true → breaks ≡ [] = λ seen. (let both : true ≡ false = sym seen ∙ going in absurd (cc both)) in
    let full : length (text ++ breaks) ≡ most_input = omega (arith, length-append text breaks, length-replicate {A = ℕ} (most_input - length text) 10, few) in
    let both : ends.Bad number ≡ ends.TooLong = sym (so breaks unseen) ∙ long_ends (text ++ breaks) full (breaks_bad text (most_input - length text) ∙ sound) in
    cc both

-- what such a text gives is what the input gives
pub bad_same : (taken : SourceState) (text input : List ℕ) (number : ℕ) → BeginsInput taken input text → length input < 2 ^ 62 → length text ≤ 2 ^ 62 → TextEndsSo taken text (ends.Bad number)
    → (text_outlook input).bytes ≡ (unarmoured text).bytes
bad_same taken text input number begins few short so =
    bytes_are input (omega (arith, few)) ∙ ap (λ (t : List ℕ). (unarmoured t).bytes) begins.all ∙ by_bad (unarmoured text).bad refl
  where
    by_end : (b : Bool) → taken.ended ≡ b → (unarmoured text).bad ≡ None → (unarmoured (text ++ begins.rest)).bytes ≡ (unarmoured text).bytes
    by_end true seen sound = ap (λ (t : List ℕ). (unarmoured (text ++ t)).bytes) (begins.whole seen) ∙ ap (λ (t : List ℕ). (unarmoured t).bytes) (append-nil text)
    by_end false going sound = absurd (not_bad taken text number short so going sound)

    by_bad : (o : Option ℕ) → (unarmoured text).bad ≡ o → (unarmoured (text ++ begins.rest)).bytes ≡ (unarmoured text).bytes
    by_bad (Some other) bad = ap (λ (u : Unarmoured). u.bytes) (stays_bad text begins.rest other bad)
    by_bad None sound = by_end taken.ended refl sound

-- ---- the end of the input's text

pub end_same : (taken : SourceState) (text input : List ℕ) (end : TextEnd) → BeginsInput taken input text → TextEndsSo taken text end → (text_outlook input).end ≡ end
end_same taken text input end begins so = ap (λ (t : List ℕ). (text_outlook t).end) begins.all ∙ so begins.rest begins.whole

-- ---- the bytes that a text gives

pub one_text : (before after : SourceState) (a b : List ℕ) → Came before after a → Came before after b → a ≡ b
one_text before after a b one two = append_cancel_left before.came a b (sym one.told ∙ two.told)

module _ {Reach : List ℕ → List ℕ → Type 0} (before after : SourceState) (input : List ℕ) (is : InputIs before after input) (few : length input < 2 ^ 62)
    (So : SourceState → SourceState → Type 0) (x : ReadsText Reach before after So) where
  text_begins : BeginsInput after input x.text
  text_begins = begins_input before after input x.text is x.came

  pub read_is : (bytes : List ℕ) → Came x.seen x.read bytes → x.read.came ≡ bytes
  read_is bytes came = came.told ∙ ap (λ (l : List ℕ). l ++ bytes) x.none

  -- those that were read are the front of those that the input gives
  pub read_begins : (bytes : List ℕ) → Came x.seen x.read bytes → (more : List ℕ) × ((text_outlook input).bytes ≡ bytes ++ more)
  read_begins bytes came =
      let on = outlook_more x.text text_begins.rest input text_begins.all few in (
        x.rest ++ on.0,
        on.1 ∙ ap (λ (b : List ℕ). b ++ on.0) (x.bytes ∙ ap (λ (b : List ℕ). b ++ x.rest) (read_is bytes came)) ∙ append_assoc bytes x.rest on.0,
      )

  -- and all of them, where the text's end was seen
  pub read_all : (bytes : List ℕ) → Came x.seen x.read bytes → AllRead x.text x.read.came → after.ended ≡ true → (text_outlook input).bytes ≡ bytes
  read_all bytes came all seen =
      bytes_are input (omega (arith, few)) ∙ ap (λ (t : List ℕ). (unarmoured t).bytes) (is_all after input x.text text_begins seen) ∙ all ∙ read_is bytes came
