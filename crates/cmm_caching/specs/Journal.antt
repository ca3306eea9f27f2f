-- What a journal of answers shows of a cache's limits.
use Rattle.std.specs.Prelude.{◌≡◌, ℕ, ◌+◌, ◌<◌, ◌≤◌, Bool, true, false, ◌&&◌, ◌==◌, List}
use Rattle.std.specs.Prelude.{Contains, sum_by, Option, Some, None, if◌then◌else◌}
use Rattle.std.specs.List.{AllByRecursion}
use Rattle.keyring_trait.specs.declared.journal.JournalLine.{JournalLine}
use Rattle.keyring_trait.specs.declared.journal.Kind.{Kind}
use Rattle.keyring_trait.specs.declared.journal.Kind.TheVariants.{Seal, Unseal}
use Rattle.keyring_trait.specs.declared.served.Served.{Served}
use Rattle.keyring_trait.specs.declared.served.Served.TheVariants.{Direct, New, Hit}
use Rattle.keyring_trait.specs.Manager.{AllDirect}
use Rattle.cmm_caching.specs.declared.kept.Kept.{Kept}
use Rattle.cmm_caching.specs.Limits.{LimitsValue}
use Rattle.cmm_caching.specs.Store.{Store, use_bytes}

-- the materials were served from the entry of that number, or became it
abbrev pub names : ℕ → Served → Bool
names n Direct = false
names n (New number) = number == n
names n (Hit number) = number == n

abbrev pub is_sealing : Kind → Bool
is_sealing Seal = true
is_sealing Unseal = false

-- the line is of an encryption with the entry of that number
abbrev pub seals_with : ℕ → JournalLine → Bool
seals_with n line = is_sealing line.kind && names n line.served

-- how many encryptions an entry gave, and of how many bytes
abbrev pub seals : ℕ → List JournalLine → ℕ
seals n lines = sum_by (λ line. if seals_with n line then 1 else 0) lines

abbrev pub seal_bytes : ℕ → List JournalLine → ℕ
seal_bytes n lines = sum_by (λ line. if seals_with n line then use_bytes line.length else 0) lines

-- Of two lines of one entry: they are less than its age apart, and where the first says that it is
-- new, it isn't the later one.
pub record AreClose (age n : ℕ) (a b : JournalLine) : Type 0 where
  pub near : a.now < b.now + age
  pub from : a.served ≡ New n → a.now ≤ b.now

-- No entry is used beyond its age, nor for more encryptions or bytes than the limits say.
pub record Within (l : LimitsValue) (lines : List JournalLine) : Type 0 where
  pub close : (n : ℕ) (a b : JournalLine) → Contains lines a → Contains lines b
      → names n a.served ≡ true → names n b.served ≡ true → AreClose l.age n a b
  pub messages : (n : ℕ) → seals n lines ≤ l.messages
  pub bytes : (n : ℕ) → seal_bytes n lines ≤ l.bytes

-- The journal is within the limits; where there are none, everything was served directly.
abbrev pub KeepsWithin : Option LimitsValue → List JournalLine → Type 0
KeepsWithin None lines = AllDirect lines
KeepsWithin (Some l) lines = Within l lines

-- ---- what a manager with a cache bears

-- a line of an entry is of a moment from its making on, and before the age is over; a line that
-- says that it is new is of that moment
pub record InTime (age made n : ℕ) (line : JournalLine) : Type 0 where
  pub from : made ≤ line.now
  pub until : line.now < made + age
  pub new : line.served ≡ New n → line.now ≡ made

-- The lines of an entry's number: its encryptions are counted in its uses, and all are in time.
pub record Told (age : ℕ) (lines : List JournalLine) (k : Kept) : Type 0 where
  pub count : seals k.number lines ≤ k.count
  pub bytes : seal_bytes k.number lines ≤ k.bytes
  pub young : (line : JournalLine) → Contains lines line → names k.number line.served ≡ true
      → InTime age k.made k.number line

-- The lines are within the limits, their numbers are those of entries that were made, and of the
-- entries that are there they are told.
pub record Bears (s : Store) (lines : List JournalLine) : Type 0 where
  pub within : Within s.limits lines
  pub below : (n : ℕ) (line : JournalLine) → Contains lines line → names n line.served ≡ true
      → n < s.next
  pub told : AllByRecursion (λ p. Told s.limits.age lines p.1) s.entries

abbrev pub BearsWith : Option Store → List JournalLine → Type 0
BearsWith None lines = AllDirect lines
BearsWith (Some s) lines = Bears s lines
