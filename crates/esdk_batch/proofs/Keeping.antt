-- The sessions that were drawn before those of the jobs are as they were, whatever a call answers.
use Rattle.std.proofs.Common.{◌≡◌, ◌∙◌, ◌≤◌, ◌<◌, ◌+◌, ℕ, false, List, [], length, get_or, set, refl, sym, ap, subst, arith}
use Rattle.std.specs.Prelude.{All, Option}
use Rattle.std.proofs.lemmas.List.Elements.{All-set}
use Rattle.std.proofs.lemmas.List.Sums.{get_or-le-sum_by}
use Rattle.std.proofs.lemmas.Map.{update_apart}
use Rattle.keyring_trait.specs.declared.journal.JournalLine.{JournalLine}
use Rattle.desk_core.specs.declared.live_sessions.Desk.{Desk}
use Rattle.desk_core.specs.Session.{SessionValue, dropped}
use Rattle.desk_core.specs.Desk.{DeskValue, DropSession, after_desk_call}
use Rattle.desk_core.specs.Receiving.{handed_over}
use Rattle.desk_core.specs.Stands.{IsWorth, Stands, last_of}
use Rattle.esdk_batch.specs.declared.progress.Progress.{Progress}
use Rattle.esdk_batch.specs.declared.progress.Progress.TheVariants as stages
use Rattle.esdk_batch.specs.Ending.{KeepsDesk}
use Rattle.esdk_batch.specs.Keeping.{IsBeyond, KeepsSessions}
use Rattle.esdk_batch.specs.Rounds.{all_waits}
use Rattle.esdk_batch.specs.Turns.{DrawsNumber, waits}
use Rattle.esdk_batch.proofs.FirstTurns.{DrawsAtMost, dropped_desk}

-- ---- one call

-- nothing was done
pub keeps_same : {M : Type 0} (last most : ℕ) (desk : Desk M) → KeepsSessions last most desk desk
keeps_same last most desk = record {
  live = λ v stands. (v, stands, λ session under. refl);
  later = omega arith;
  few = omega arith;
}

-- one session was touched, whose number is greater
pub keeps_touched : {M : Type 0} (last session : ℕ) (old new : Desk M) → IsWorth old → last < session
    → ((v : DeskValue) → Stands old v → (w : DeskValue) × Stands new w × ((gained : List JournalLine) × KeepsDesk session v w gained)) → KeepsSessions last 0 old new
keeps_touched last session old new worth beyond touched =
    let first = touched worth.0 worth.1 in
    record {
      live = λ v stands.
          let t = touched v stands in
          (t.0, t.1, λ other under. t.2.1.others other (λ same. omega (arith, same, under, beyond)));
      later = omega (arith, worth.1.last, first.1.last, first.2.1.last);
      few = omega (arith, worth.1.last, first.1.last, first.2.1.last);
    }

handed_desk : (v : DeskValue) (session : ℕ) (lines : List JournalLine) (left : Option SessionValue) → KeepsDesk session v (handed_over v session lines left) lines
handed_desk v session lines left = record { others = λ other apart. update_apart v.live session left other apart; last = refl; journal = refl }

-- it was fed, or ended
pub keeps_handed : {M : Type 0} (last session : ℕ) (old new : Desk M) → IsWorth old
    → ((v : DeskValue) → Stands old v → (lines : List JournalLine) × ((left : Option SessionValue) × Stands new (handed_over v session lines left)))
    → last < session → KeepsSessions last 0 old new
keeps_handed last session old new worth handed beyond =
    keeps_touched last session old new worth beyond (λ v stands.
    let h = handed v stands in
    (handed_over v session h.0 h.1.0, h.1.1, (h.0, handed_desk v session h.0 h.1.0)))

-- it was dropped
pub keeps_dropped : {M : Type 0} (last session : ℕ) (old new : Desk M) → IsWorth old → ((v : DeskValue) → Stands old v → Stands new (after_desk_call v session false DropSession))
    → last < session → KeepsSessions last 0 old new
keeps_dropped last session old new worth dropped beyond =
    keeps_touched last session old new worth beyond (λ v stands. (after_desk_call v session false DropSession, dropped v stands, ([], dropped_desk v session)))

-- the next number was drawn
pub keeps_drawn : {M : Type 0} (last : ℕ) (old new : Desk M) → IsWorth old → last ≤ last_of old
    → ((v : DeskValue) → Stands old v → (w : DeskValue) × Stands new w × ((lines : List JournalLine) × DrawsAtMost v w lines)) → KeepsSessions last 1 old new
keeps_drawn last old new worth under drawn =
    let first = drawn worth.0 worth.1 in
    record {
      live = λ v stands.
          let d = drawn v stands in
          (d.0, d.1, λ session below. d.2.1.sessions session (λ same. omega (arith, same, below, under, stands.last)));
      later = omega (arith, worth.1.last, first.1.last, first.2.1.last);
      few = omega (arith, worth.1.last, first.1.last, first.2.1.next);
    }

-- ---- one call behind another

pub keeps_on : {M : Type 0} (last one more most : ℕ) (old mid new : Desk M) → KeepsSessions last one old mid → KeepsSessions last more mid new → last_of mid + more ≤ last_of old + most
    → KeepsSessions last most old new
keeps_on last one more most old mid new first then room = record {
  live = λ v stands.
      let a = first.live v stands in
      let b = then.live a.0 a.1 in
      (b.0, b.1, λ session under. b.2 session under ∙ a.2 session under);
  later = omega (arith, first.later, then.later);
  few = omega (arith, then.few, room);
}

-- ---- one job

pub beyond_after : (last before after : ℕ) (old new : Progress) → last ≤ before → DrawsNumber old new before after → IsBeyond last old → IsBeyond last new
beyond_after last before after stages.Waiting stages.Waiting under draws beyond = tt
beyond_after last before after stages.Waiting (stages.Live now) under draws beyond = omega (arith, under, draws.0)
beyond_after last before after stages.Waiting (stages.Ended line) under draws beyond = tt
beyond_after last before after (stages.Live live) stages.Waiting under draws beyond = tt
beyond_after last before after (stages.Live live) (stages.Live now) under draws beyond = omega (arith, draws.0, beyond)
beyond_after last before after (stages.Live live) (stages.Ended line) under draws beyond = tt
beyond_after last before after (stages.Ended line) new under draws beyond = subst (IsBeyond last) (sym draws.0) tt

-- ---- the jobs of a round

module _ {M : Type 0} (last : ℕ) (before mid desk : Desk M) (old progress : List Progress) (at : ℕ) (one : Progress) (within : at < length progress) (was : one ≡ get_or progress at one)
    (room : last_of mid + all_waits progress ≤ last_of before + all_waits old) where
  waits_one : waits one ≤ all_waits progress
  waits_one = omega (arith, ap waits was, get_or-le-sum_by waits progress at one within)

  pub keeps_turn : KeepsSessions last (all_waits old) before mid → KeepsSessions last (waits one) mid desk → KeepsSessions last (all_waits old) before desk
  keeps_turn first then = keeps_on last (all_waits old) (waits one) (all_waits old) before mid desk first then (omega (arith, room, waits_one))

-- a job that waits has no session
pub beyond_waiting : (last : ℕ) (progress : List Progress) → All (λ one. one ≡ stages.Waiting) progress → All (IsBeyond last) progress
beyond_waiting last progress wait k d below = subst (IsBeyond last) (sym (wait k d below)) tt

pub beyond_set : (last before after : ℕ) (progress : List Progress) (at : ℕ) (one new : Progress) → at < length progress → one ≡ get_or progress at one → last ≤ before → DrawsNumber one new before after
    → All (IsBeyond last) progress → All (IsBeyond last) (set progress at new)
beyond_set last before after progress at one new within was under draws all =
    All-set (IsBeyond last) progress at new (beyond_after last before after one new under draws (subst (IsBeyond last) (sym was) (all at one within))) all

-- a turn of a job that stands so
pub keeps_as : {M : Type 0} (last : ℕ) (one was : Progress) (old new : Desk M) → one ≡ was → KeepsSessions last (waits was) old new → KeepsSessions last (waits one) old new
keeps_as last one was old new is kept = subst (λ (p : Progress). KeepsSessions last (waits p) old new) (sym is) kept

-- ---- the batch

-- no session that was live before has a number that wasn't drawn then
pub keeps_drawn_before : {M : Type 0} (most : ℕ) (old new : Desk M) → KeepsSessions (last_of old) most old new
    → (v : DeskValue) → Stands old v → (w : DeskValue) × Stands new w × ((session : ℕ) → session ≤ v.last → w.live session ≡ v.live session)
keeps_drawn_before most old new kept v stands =
    let k = kept.live v stands in (k.0, k.1, λ session under. k.2 session (omega (arith, under, stands.last)))
