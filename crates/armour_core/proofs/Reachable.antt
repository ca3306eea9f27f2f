-- Each reader of armour that goes on has taken some text: one of groups of zeros and what it holds.
use Rattle.std.proofs.Common.{◌≡◌, ℕ, zero, suc, ◌+◌, ◌-◌, ◌<◌, ◌≤◌, Bool, true, false, List, [], ◌∷◌, length, take, slice_index, None, refl, sym, ap, ◌∙◌, arith}
use Rattle.std.proofs.lemmas.List.{length-take-le}
use Rattle.base64.specs.GeneralPurpose.{IsBytes, encode_of}
use Rattle.base64.specs.Rfc4648.{encode_symbols}
use Rattle.base64.specs.Engines.{standard}
use Rattle.armour_core.specs.declared.unarmour.Unarmour.{Unarmour}
use Rattle.armour_core.specs.GroupState.{IsGroupState}
use Rattle.armour_core.specs.Outlook.{open_of}
use Rattle.armour_core.specs.Unarmoured.{GroupsRead, characters, groups_read, is_character, unarmoured}
use Rattle.armour_core.specs.Unarmouring.{UnarmouringValue}
use Rattle.armour_core.specs.Stands.{OpenGroup, StandsReading, open_from, open_group}
use Rattle.armour_core.proofs.Groups.{read_nil}
use Rattle.armour_core.proofs.ReadBack.{group_again, keep}
use Rattle.armour_core.proofs.Reading.{bad_read}

-- so many groups of zeros, and these characters
zeros_then : ℕ → List ℕ → List ℕ
zeros_then zero rest = rest
zeros_then (suc n) rest = 65 ∷ 65 ∷ 65 ∷ 65 ∷ zeros_then n rest

keep_zeros : (n : ℕ) (rest : List ℕ) → characters rest ≡ rest → characters (zeros_then n rest) ≡ zeros_then n rest
unfolding zeros_then
keep_zeros zero rest kept = kept
keep_zeros (suc n) rest kept =
    let more : List ℕ = zeros_then n rest in
    keep 65 (65 ∷ 65 ∷ 65 ∷ more) refl (keep 65 (65 ∷ 65 ∷ more) refl (keep 65 (65 ∷ more) refl (keep 65 more refl (keep_zeros n rest kept))))

open_zeros : (k n : ℕ) (rest : List ℕ) → open_from k false (zeros_then n rest) ≡ open_from (k + n) false rest
unfolding zeros_then open_from
open_zeros k zero rest = let same : k ≡ k + 0 = omega arith in ap (λ (m : ℕ). open_from m false rest) same
open_zeros k (suc n) rest = let same : k + 1 + n ≡ k + suc n = omega arith in open_zeros (k + 1) n rest ∙ ap (λ (m : ℕ). open_from m false rest) same

bytes_zero : (n : ℕ) → IsBytes (0 ∷ 0 ∷ 0 ∷ [])
bytes_zero n zero = omega arith
bytes_zero n (suc zero) = omega arith
bytes_zero n (suc (suc zero)) = omega arith
bytes_zero n (suc (suc (suc i))) = omega arith

byte_zero : (n : ℕ) → IsBytes (0 ∷ [])
byte_zero n zero = omega arith
byte_zero n (suc i) = omega arith

zeros_encoded : encode_of standard (0 ∷ 0 ∷ 0 ∷ []) ≡ 65 ∷ 65 ∷ 65 ∷ 65 ∷ []
unfolding encode_symbols
zeros_encoded = refl

zero_encoded : encode_of standard (0 ∷ []) ≡ 65 ∷ 65 ∷ 61 ∷ 61 ∷ []
unfolding encode_symbols
zero_encoded = refl

sound_zeros : (k n : ℕ) (rest : List ℕ) → (groups_read k false (zeros_then n rest)).bad ≡ (groups_read (k + n) false rest).bad
unfolding zeros_then
sound_zeros k zero rest = let same : k ≡ k + 0 = omega arith in ap (λ (m : ℕ). (groups_read m false rest).bad) same
sound_zeros k (suc n) rest =
    let same : k + 1 + n ≡ k + suc n = omega arith in
    ap (λ (r : GroupsRead). r.bad) (group_again k 65 65 65 65 (0 ∷ 0 ∷ 0 ∷ []) (zeros_then n rest) (bytes_zero 0) zeros_encoded) ∙ sound_zeros (k + 1) n rest ∙ ap (λ (m : ℕ). (groups_read m false rest).bad) same

-- ---- what is held

keep_held : (held : ℕ) (group : List ℕ) → ((k : ℕ) → k < held → is_character (slice_index group k) ≡ true) → held ≤ length group → characters (take held group) ≡ take held group
keep_held zero group kept within = refl
keep_held (suc n) [] kept within = refl
keep_held (suc n) (x ∷ group) kept within = keep x (take n group) (kept 0 (omega arith)) (keep_held n group (λ k lt. kept (suc k) (omega (arith, lt))) (omega (arith, within)))

few_open : (n : ℕ) (held : List ℕ) → length held < 4 → open_from n false held ≡ record { number = n; padded = false; held = held }
unfolding open_from
few_open n [] few = refl
few_open n (a ∷ []) few = refl
few_open n (a ∷ b ∷ []) few = refl
few_open n (a ∷ b ∷ c ∷ []) few = refl
few_open n (a ∷ b ∷ c ∷ d ∷ held) few = absurd (omega (arith, few))

few_sound : (n : ℕ) (held : List ℕ) → length held < 4 → (groups_read n false held).bad ≡ None
unfolding groups_read
few_sound n [] few = refl
few_sound n (a ∷ []) few = refl
few_sound n (a ∷ b ∷ []) few = refl
few_sound n (a ∷ b ∷ c ∷ []) few = refl
few_sound n (a ∷ b ∷ c ∷ d ∷ held) few = absurd (omega (arith, few))

-- ---- the text

-- A text behind which this group is open.
pub record Reached (o : OpenGroup) : Type 0 where
  pub text : List ℕ
  pub opens : open_group text ≡ o
  pub sound : (unarmoured text).bad ≡ None

padded_group : List ℕ
padded_group = 65 ∷ 65 ∷ 61 ∷ 61 ∷ []

padded_read : (n : ℕ) → (groups_read n false padded_group).bad ≡ None
unfolding padded_group
padded_read n = ap (λ (r : GroupsRead). r.bad) (group_again n 65 65 61 61 (0 ∷ []) [] (byte_zero 0) zero_encoded) ∙ ap (λ (r : GroupsRead). r.bad) (read_nil (n + 1) true)

padded_open : (n : ℕ) → open_from n false padded_group ≡ record { number = n + 1; padded = true; held = [] }
unfolding padded_group open_from
padded_open n = refl

padded_kept : characters padded_group ≡ padded_group
unfolding padded_group
padded_kept = refl

reached_by : (o : OpenGroup) (n : ℕ) (rest : List ℕ) → characters rest ≡ rest → open_from (1 + n) false rest ≡ o → (groups_read (1 + n) false rest).bad ≡ None → Reached o
reached_by o n rest kept opens sound =
    let text : List ℕ = zeros_then n rest in
    let all = keep_zeros n rest kept in record {
      text = text;
      opens = ap (open_from 1 false) all ∙ open_zeros 1 n rest ∙ opens;
      sound = bad_read text ∙ ap (λ (cs : List ℕ). (groups_read 1 false cs).bad) all ∙ sound_zeros 1 n rest ∙ sound;
    }

reached_where : (group : List ℕ) (held number : ℕ) (padded : Bool) → IsGroupState group held number padded → Reached (record { number = number; padded = padded; held = take held group })
reached_where group held number true state =
    let back : 1 + (number - 2) + 1 ≡ number = omega (arith, state.later refl) in
    reached_by (record { number = number; padded = true; held = take held group }) (number - 2) padded_group padded_kept
    (padded_open (1 + (number - 2)) ∙ ap (λ (n : ℕ). let o : OpenGroup = record { number = n; padded = true; held = [] } in o) back
    ∙ ap (λ (n : ℕ). let o : OpenGroup = record { number = number; padded = true; held = take n group } in o) (sym (state.even refl)))
    (padded_read (1 + (number - 2)))
reached_where group held number false state =
    let back : 1 + (number - 1) ≡ number = omega (arith, state.numbered) in
    let size : length (take held group) ≡ held = length-take-le held group (omega (arith, state.few, state.size)) in
    reached_by (record { number = number; padded = false; held = take held group }) (number - 1) (take held group) (keep_held held group state.kept (omega (arith, state.few, state.size)))
    (few_open (1 + (number - 1)) (take held group) (omega (arith, size, state.few)) ∙ ap (λ (n : ℕ). let o : OpenGroup = record { number = n; padded = false; held = take held group } in o) back)
    (few_sound (1 + (number - 1)) (take held group) (omega (arith, size, state.few)))

pub reached : (u : Unarmour) → Reached (open_of u)
reached u = reached_where u.group u.held u.number u.padded u.state

-- a session of it
unfoldable pub session_at : (u : Unarmour) → UnarmouringValue
session_at u = record { taken = (reached u).text; stopped = u.stopped; out = take u.given u.bytes }

pub reads_there : (u : Unarmour) → StandsReading u (session_at u)
unfolding session_at
reads_there u =
    let r = reached u in record {
      stopped = refl;
      group = λ goes. record {
        number = omega (arith, ap (λ (o : OpenGroup). o.number) r.opens, u.state.fits);
        padded = sym (ap (λ (o : OpenGroup). o.padded) r.opens);
        held = sym (ap (λ (o : OpenGroup). o.held) r.opens);
        sound = r.sound;
      };
      out = refl;
    }
