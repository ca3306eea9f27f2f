-- The lines that the journal gains in a call bear the call's moment, and the turns follow one another.
use Rattle.std.proofs.Common.{◌≡◌, ◌≤◌, ◌∙◌, ◌+◌, ℕ, List, [], ◌∷◌, ◌++◌, length, map, refl, sym, ap, subst, arith, append_assoc, append-nil}
use Rattle.std.specs.Prelude.{All, Option, None, Some, Result, option_map}
use Rattle.std.specs.List.{flat_map}
use Rattle.std.proofs.lemmas.Grind.{flat_map-append}
use Rattle.std.proofs.lemmas.List.{map-append}
use Rattle.std.proofs.lemmas.List.Elements.{All-append, All-cons, All-nil}
use Rattle.esdk_base.specs.Clock.{Moments, after_now}
use Rattle.esdk_base.specs.Streams.{ClockState}
use Rattle.keyring_trait.specs.declared.journal.JournalLine.{JournalLine}
use Rattle.keyring_trait.specs.declared.journal.Kind.{Kind}
use Rattle.keyring_trait.specs.declared.journal.Kind.TheVariants.{Seal}
use Rattle.keyring_trait.specs.declared.served.Served.{Served}
use Rattle.keyring_trait.specs.Saying.{Saying}
use Rattle.desk_core.specs.declared.errors.DeskError.{DeskError}
use Rattle.desk_core.specs.declared.live_sessions.Desk.{Desk}
use Rattle.desk_core.specs.Calls.{OpensSeal}
use Rattle.desk_core.specs.Desk.{DeskValue, lines_of, served_by}
use Rattle.desk_core.specs.SealRequest.{SealRequestValue}
use Rattle.desk_core.specs.Stands.{Stands, journal_of}
use Rattle.esdk_batch.specs.Moments.{AnswersTold, ClockAnswers, BearsMoment, GainsAt, ReadsClock, TakesMoment, TurnMoment}

-- ---- lines at one moment

pub gains_none : (moment : ℕ) (before after : List JournalLine) → after ≡ before → GainsAt moment before after
gains_none moment before after same = record {
  gained = [];
  journal = same ∙ sym (append-nil before);
  bears = All-nil (λ (line : JournalLine). line.now ≡ moment);
  few = omega arith;
}

lines_few : (id : ℕ) (kind : Kind) (moment : ℕ) (size : Option ℕ) (served : Option Served) → length (lines_of id kind moment size served) ≤ 1
lines_few id kind moment size None = omega arith
lines_few id kind moment size (Some served) = omega arith

lines_bear : (id : ℕ) (kind : Kind) (moment : ℕ) (size : Option ℕ) (served : Option Served) → All (λ (line : JournalLine). line.now ≡ moment) (lines_of id kind moment size served)
lines_bear id kind moment size None = All-nil (λ (line : JournalLine). line.now ≡ moment)
lines_bear id kind moment size (Some served) = All-cons (λ (line : JournalLine). line.now ≡ moment) _ [] refl (All-nil (λ (line : JournalLine). line.now ≡ moment))

-- the journal stayed behind it
pub gains_same : (moment : ℕ) (before mid after : List JournalLine) → GainsAt moment before mid → after ≡ mid → GainsAt moment before after
gains_same moment before mid after first same = subst (λ (l : List JournalLine). GainsAt moment before l) (sym same) first

-- ---- the calls of the desk

pub sealed_gains : {M : Type 0} (manager : Saying) (old new : Desk M) (v : DeskValue) (request : SealRequestValue) (now : ℕ) (random : List ℕ) (result : Result ℕ DeskError) → Stands old v
    → OpensSeal manager v request now random result new → GainsAt now (journal_of old) (journal_of new)
sealed_gains manager old new v request now random result stands opens = record {
  gained = lines_of (v.last + 1) Seal now request.wish.declared (served_by opens.reply);
  journal = opens.stands.journal ∙ ap (λ (l : List JournalLine). l ++ lines_of (v.last + 1) Seal now request.wish.declared (served_by opens.reply)) (sym stands.journal);
  bears = lines_bear (v.last + 1) Seal now request.wish.declared (served_by opens.reply);
  few = lines_few (v.last + 1) Seal now request.wish.declared (served_by opens.reply);
}

-- ---- turns

told_more : (before mid after : Option Moments) (first later : List ℕ) → AnswersTold before first mid → AnswersTold mid later after → AnswersTold before (first ++ later) after
told_more before mid after [] later one two = subst (λ (told : Option Moments). AnswersTold told later after) one two
told_more before mid after (moment ∷ first) later one two = (one.0, told_more (option_map after_now before) mid after first later one.1 two)

answers_more : (before mid after : ClockState) (first later : List ℕ) → ClockAnswers before first mid → ClockAnswers mid later after → ClockAnswers before (first ++ later) after
answers_more before mid after first later one two = record {
  given = two.given ∙ ap (λ (l : List ℕ). l ++ later) one.given ∙ append_assoc before.given first later;
  told = told_more before.moments mid.moments after.moments first later one.told two.told;
}

answers_none : (before after : ClockState) → after ≡ before → ClockAnswers before [] after
answers_none before after same = record { given = ap (λ (c : ClockState). c.given) same ∙ sym (append-nil before.given); told = ap (λ (c : ClockState). c.moments) same }

-- no turn
pub reads_none : (before after : ClockState) (lines lines_after : List JournalLine) → after ≡ before → lines_after ≡ lines → ReadsClock before after lines lines_after
reads_none before after lines lines_after same still = record { turns = []; answers = answers_none before after same; journal = still ∙ sym (append-nil lines); bear = All-nil BearsMoment; few = All-nil (λ turn. length turn.lines ≤ 1) }

pub reads_more : (before mid after : ClockState) (lines lines_mid lines_after : List JournalLine) → ReadsClock before mid lines lines_mid → ReadsClock mid after lines_mid lines_after
    → ReadsClock before after lines lines_after
reads_more before mid after lines lines_mid lines_after first later =
    let one : List JournalLine = flat_map (λ (turn : TurnMoment). turn.lines) first.turns in
    let two : List JournalLine = flat_map (λ (turn : TurnMoment). turn.lines) later.turns in
    record {
      turns = first.turns ++ later.turns;
      answers = subst (λ (moments : List ℕ). ClockAnswers before moments after) (sym (map-append (λ (turn : TurnMoment). turn.moment) first.turns later.turns))
          (answers_more before mid after (map (λ (turn : TurnMoment). turn.moment) first.turns) (map (λ (turn : TurnMoment). turn.moment) later.turns) first.answers later.answers);
      journal = later.journal ∙ ap (λ (l : List JournalLine). l ++ two) first.journal ∙ append_assoc lines one two
          ∙ ap (λ (l : List JournalLine). lines ++ l) (sym (flat_map-append (λ (turn : TurnMoment). turn.lines) first.turns later.turns));
      bear = All-append BearsMoment first.turns later.turns first.bear later.bear;
      few = All-append (λ turn. length turn.lines ≤ 1) first.turns later.turns first.few later.few;
    }

reads_once : (before after : ClockState) (lines lines_after : List JournalLine) → TakesMoment before after lines lines_after → ReadsClock before after lines lines_after
reads_once before after lines lines_after takes = record {
  turns = record { moment = takes.moment; lines = takes.gains.gained } ∷ [];
  answers = takes.answers;
  journal = takes.gains.journal ∙ ap (λ (l : List JournalLine). lines ++ l) (sym (append-nil takes.gains.gained));
  bear = All-cons BearsMoment (record { moment = takes.moment; lines = takes.gains.gained }) [] takes.gains.bears (All-nil BearsMoment);
  few = All-cons (λ turn. length turn.lines ≤ 1) (record { moment = takes.moment; lines = takes.gains.gained }) [] takes.gains.few (All-nil (λ turn. length turn.lines ≤ 1));
}

-- a turn more
pub reads_turn : (before mid after : ClockState) (lines lines_mid lines_after : List JournalLine) → ReadsClock before mid lines lines_mid → TakesMoment mid after lines_mid lines_after
    → ReadsClock before after lines lines_after
reads_turn before mid after lines lines_mid lines_after first takes = reads_more before mid after lines lines_mid lines_after first (reads_once mid after lines_mid lines_after takes)
