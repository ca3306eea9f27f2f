-- Groups of characters behind which more come.
use Rattle.std.proofs.Common.{◌≡◌, ℕ, ◌+◌, ◌%◌, ◌/◌, ◌<◌, ◌==◌, Bool, true, false, List, [], ◌∷◌, ◌++◌, length, Option, Some, None, refl, sym, ap, ◌∙◌, arith}
use Rattle.std.proofs.lemmas.List.{append_assoc}
use Rattle.base64.specs.GeneralPurpose.{decoded_of}
use Rattle.base64.specs.Engines.{standard}
use Rattle.armour_core.specs.Unarmoured.{GroupsRead, groups_behind, group_then, groups_read, none_read, padding}
use Rattle.armour_core.specs.Stands.{open_from}
pub use Rattle.armour_core.specs.Outlook.{open_on, read_on}

-- ---- the open group

pub open_append : (n : ℕ) (p : Bool) (cs more : List ℕ) → open_from n p (cs ++ more) ≡ open_on (open_from n p cs) more
unfolding open_from
open_append n p (a ∷ b ∷ c ∷ d ∷ cs) more = open_append (n + 1) (d == padding) cs more
open_append n p [] more = refl
open_append n p (a ∷ []) more = refl
open_append n p (a ∷ b ∷ []) more = refl
open_append n p (a ∷ b ∷ c ∷ []) more = refl

pub open_number : (n : ℕ) (p : Bool) (cs : List ℕ) → (open_from n p cs).number ≡ n + length cs / 4
unfolding open_from
open_number n p (a ∷ b ∷ c ∷ d ∷ cs) = let h = open_number (n + 1) (d == padding) cs in omega (arith, h)
open_number n p [] = omega arith
open_number n p (a ∷ []) = omega arith
open_number n p (a ∷ b ∷ []) = omega arith
open_number n p (a ∷ b ∷ c ∷ []) = omega arith

pub open_length : (n : ℕ) (p : Bool) (cs : List ℕ) → length (open_from n p cs).held ≡ length cs % 4
unfolding open_from
open_length n p (a ∷ b ∷ c ∷ d ∷ cs) = let h = open_length (n + 1) (d == padding) cs in omega (arith, h)
open_length n p [] = refl
open_length n p (a ∷ []) = refl
open_length n p (a ∷ b ∷ []) = refl
open_length n p (a ∷ b ∷ c ∷ []) = refl

-- ---- what is read

group_good : (n : ℕ) (x : Option (List ℕ)) (r more s : GroupsRead) → (group_then n x r).bad ≡ None → (r.bad ≡ None → more ≡ groups_behind r.bytes s)
    → group_then n x more ≡ groups_behind (group_then n x r).bytes s
group_good n None r more s sound rest = cc sound
group_good n (Some bytes) r more s sound rest = ap (λ (g : GroupsRead). groups_behind bytes g) (rest sound) ∙ ap (λ (b : List ℕ). record { bytes = b; bad = s.bad }) (sym (append_assoc bytes r.bytes s.bytes))

-- behind sound groups the reading goes on with the open one
pub read_append : (n : ℕ) (p : Bool) (cs more : List ℕ) → (groups_read n p cs).bad ≡ None
    → groups_read n p (cs ++ more) ≡ groups_behind (groups_read n p cs).bytes (read_on (open_from n p cs) more)
unfolding groups_read open_from
read_append n true [] more sound = refl
read_append n true (a ∷ cs) more sound = cc sound
read_append n false [] more sound = refl
read_append n false (a ∷ []) more sound = refl
read_append n false (a ∷ b ∷ []) more sound = refl
read_append n false (a ∷ b ∷ c ∷ []) more sound = refl
read_append n false (a ∷ b ∷ c ∷ d ∷ cs) more sound =
    group_good n (decoded_of standard (a ∷ b ∷ c ∷ d ∷ [])) (groups_read (n + 1) (d == padding) cs) (groups_read (n + 1) (d == padding) (cs ++ more)) _ sound
    (read_append (n + 1) (d == padding) cs more)

group_bad : (n k : ℕ) (x : Option (List ℕ)) (r more : GroupsRead) → (group_then n x r).bad ≡ Some k → (r.bad ≡ Some k → more ≡ r)
    → group_then n x more ≡ group_then n x r
group_bad n k None r more bad rest = refl
group_bad n k (Some bytes) r more bad rest = ap (λ (g : GroupsRead). groups_behind bytes g) (rest bad)

-- behind a bad group nothing is read
pub read_no_more : (n k : ℕ) (p : Bool) (cs more : List ℕ) → (groups_read n p cs).bad ≡ Some k → groups_read n p (cs ++ more) ≡ groups_read n p cs
unfolding groups_read
read_no_more n k true [] more bad = cc bad
read_no_more n k true (a ∷ cs) more bad = refl
read_no_more n k false [] more bad = cc bad
read_no_more n k false (a ∷ []) more bad = cc bad
read_no_more n k false (a ∷ b ∷ []) more bad = cc bad
read_no_more n k false (a ∷ b ∷ c ∷ []) more bad = cc bad
read_no_more n k false (a ∷ b ∷ c ∷ d ∷ cs) more bad =
    group_bad n k (decoded_of standard (a ∷ b ∷ c ∷ d ∷ [])) (groups_read (n + 1) (d == padding) cs) (groups_read (n + 1) (d == padding) (cs ++ more)) bad
    (read_no_more (n + 1) k (d == padding) cs more)

-- behind padding no group is open, where none is bad
pub padded_last : (n : ℕ) (p : Bool) (cs : List ℕ) → (groups_read n p cs).bad ≡ None → (open_from n p cs).padded ≡ true → (open_from n p cs).held ≡ []
unfolding groups_read open_from
padded_last n true [] sound padded = refl
padded_last n true (a ∷ cs) sound padded = cc sound
padded_last n false [] sound padded = refl
padded_last n false (a ∷ []) sound padded = cc padded
padded_last n false (a ∷ b ∷ []) sound padded = cc padded
padded_last n false (a ∷ b ∷ c ∷ []) sound padded = cc padded
padded_last n false (a ∷ b ∷ c ∷ d ∷ cs) sound padded = padded_last (n + 1) (d == padding) cs (good_rest n (decoded_of standard (a ∷ b ∷ c ∷ d ∷ [])) _ sound) padded
  where
    good_rest : (n : ℕ) (x : Option (List ℕ)) (r : GroupsRead) → (group_then n x r).bad ≡ None → r.bad ≡ None
    good_rest n None r sound = cc sound
    good_rest n (Some bytes) r sound = sound

-- ---- one character more

-- behind fewer than three characters
pub short_read : (n : ℕ) (held : List ℕ) (x : ℕ) → length held < 3 → groups_read n false (held ++ x ∷ []) ≡ none_read
unfolding groups_read
short_read n [] x few = refl
short_read n (a ∷ []) x few = refl
short_read n (a ∷ b ∷ []) x few = refl
short_read n (a ∷ b ∷ c ∷ held) x few = absurd (omega (arith, few))

pub short_open : (n : ℕ) (p : Bool) (held : List ℕ) (x : ℕ) → length held < 3 → open_from n p (held ++ x ∷ []) ≡ record { number = n; padded = p; held = held ++ x ∷ [] }
unfolding open_from
short_open n p [] x few = refl
short_open n p (a ∷ []) x few = refl
short_open n p (a ∷ b ∷ []) x few = refl
short_open n p (a ∷ b ∷ c ∷ held) x few = absurd (omega (arith, few))

-- behind three
pub full_read : (n : ℕ) (held : List ℕ) (x : ℕ) → length held ≡ 3 → groups_read n false (held ++ x ∷ []) ≡ group_then n (decoded_of standard (held ++ x ∷ [])) (groups_read (n + 1) (x == padding) [])
unfolding groups_read
full_read n [] x few = absurd (omega (arith, few))
full_read n (a ∷ []) x few = absurd (omega (arith, few))
full_read n (a ∷ b ∷ []) x few = absurd (omega (arith, few))
full_read n (a ∷ b ∷ c ∷ []) x few = refl
full_read n (a ∷ b ∷ c ∷ d ∷ held) x few = absurd (omega (arith, few))

pub full_open : (n : ℕ) (p : Bool) (held : List ℕ) (x : ℕ) → length held ≡ 3 → open_from n p (held ++ x ∷ []) ≡ record { number = n + 1; padded = x == padding; held = [] }
unfolding open_from
full_open n p [] x few = absurd (omega (arith, few))
full_open n p (a ∷ []) x few = absurd (omega (arith, few))
full_open n p (a ∷ b ∷ []) x few = absurd (omega (arith, few))
full_open n p (a ∷ b ∷ c ∷ []) x few = refl
full_open n p (a ∷ b ∷ c ∷ d ∷ held) x few = absurd (omega (arith, few))

pub read_nil : (n : ℕ) (p : Bool) → groups_read n p [] ≡ none_read
unfolding groups_read
read_nil n true = refl
read_nil n false = refl
