-- The moments of a batch: what the clock answered, and the lines that the journal gained with it.
use Rattle.std.specs.Prelude.{◌≡◌, ◌≤◌, ℕ, List, [], ◌∷◌, ◌++◌, length, map, All, Option}
use Rattle.std.specs.Prelude.{option_map, IfSome}
use Rattle.std.specs.List.{flat_map}
use Rattle.esdk_base.specs.Clock.{Moments, after_now, next_moment}
use Rattle.esdk_base.specs.Streams.{ClockState}
use Rattle.keyring_trait.specs.declared.journal.JournalLine.{JournalLine}

-- Asked once for each of them, a clock that tells such moments answers these, and then it tells
-- those.
abbrev pub AnswersTold : Option Moments → List ℕ → Option Moments → Type 0
AnswersTold before [] after = after ≡ before
AnswersTold before (moment ∷ moments) after =
    IfSome before (λ told. moment ≡ next_moment told)
    × AnswersTold (option_map after_now before) moments after

-- Asked so often, a clock gave these moments, in their order, which every clock tells; and they are
-- what it told, where it told its moments.
pub record ClockAnswers (before : ClockState) (moments : List ℕ) (after : ClockState)
    : Type 0 where
  pub given : after.given ≡ before.given ++ moments
  pub told : AnswersTold before.moments moments after.moments

-- The moment that the clock answered, and the lines that the journal gained with it.
pub record TurnMoment : Type 0 where
  pub moment : ℕ
  pub lines : List JournalLine

-- they bear the moment
abbrev pub BearsMoment : TurnMoment → Type 0
BearsMoment turn = All (λ line. line.now ≡ turn.moment) turn.lines

-- The journal gained a line at this moment, or none.
pub record GainsAt (moment : ℕ) (before after : List JournalLine) : Type 0 where
  pub gained : List JournalLine
  pub journal : after ≡ before ++ gained
  pub bears : BearsMoment (record { moment = moment; lines = gained })
  pub few : length gained ≤ 1

-- In one turn the clock was asked once, and the journal gained a line at the moment that it
-- answered, or none.
pub record TakesMoment (before after : ClockState)
    (lines_before lines_after : List JournalLine) : Type 0 where
  pub moment : ℕ
  pub answers : ClockAnswers before (moment ∷ []) after
  pub gains : GainsAt moment lines_before lines_after

-- The clock was asked so often, and the journal gained the lines of what it answered, in their
-- order: for each answer one line at the most.
pub record ReadsClock (before after : ClockState)
    (lines_before lines_after : List JournalLine) : Type 0 where
  pub turns : List TurnMoment
  pub answers : ClockAnswers before (map (λ turn. turn.moment) turns) after
  pub journal : lines_after ≡ lines_before ++ flat_map (λ turn. turn.lines) turns
  pub bear : All BearsMoment turns
  pub few : All (λ turn. length turn.lines ≤ 1) turns
