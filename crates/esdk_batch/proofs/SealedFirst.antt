-- What the first round sealed stands before what is opened later.
use Rattle.std.proofs.Common.{◌≡◌, ◌<◌, ◌≤◌, ◌+◌, ℕ, zero, suc, true, false, List, [], ◌∷◌, ◌++◌, length, take, get_or, set, refl, sym, ap, subst, ◌∙◌, inl, inr, arith, append_assoc, append-nil, length-set}
use Rattle.std.specs.Prelude.{◌⊎◌, All}
use Rattle.std.proofs.lemmas.Bool.{cases_lt}
use Rattle.std.proofs.lemmas.List.Elements.{All-append, All-nil, All-head, All-tail, All-weaker}
use Rattle.std.proofs.lemmas.List.Sums.{sum_by-cons, sum_by-le, sum_by-set}
use Rattle.esdk_fields.specs.Counts.{Stayed}
use Rattle.esdk_base.specs.Streams.{EntropyState}
use Rattle.keyring_trait.specs.declared.journal.JournalLine.{JournalLine}
use Rattle.keyring_trait.specs.declared.journal.Kind.TheVariants.{Seal, Unseal}
use Rattle.esdk_batch.specs.declared.progress.Progress.{Progress}
use Rattle.esdk_batch.specs.declared.progress.Progress.TheVariants as stages
use Rattle.esdk_batch.specs.Batch.{SealsFirst}
use Rattle.esdk_batch.specs.Turns.{DrawsBytes, DrawsNumber, LinesOf, waits}
use Rattle.esdk_batch.specs.Rounds.{HaveBegun, HaveSealed, all_waits, has_begun}
use Rattle.esdk_batch.proofs.Places.{front_at, front_set}
use Rattle.esdk_batch.proofs.Turning.{begun_by}

-- ---- how many wait

waits_begun : (one : Progress) → has_begun one ≡ true → waits one ≡ 0
waits_begun stages.Waiting begun = absurd cc
waits_begun (stages.Live now) begun = refl
waits_begun (stages.Ended line) begun = refl

waits_one : (one : Progress) → waits one ≤ 1
waits_one stages.Waiting = omega arith
waits_one (stages.Live now) = omega arith
waits_one (stages.Ended line) = omega arith

waits_few : (progress : List Progress) → all_waits progress ≤ length progress
waits_few progress = omega (arith, sum_by-le waits 1 progress (λ k d below. waits_one (get_or progress k d)))

-- all but those that began
waits_behind : (progress : List Progress) (count : ℕ) → HaveBegun count progress → count ≤ length progress → all_waits progress + count ≤ length progress
waits_behind progress zero begun few = omega (arith, waits_few progress)
waits_behind [] (suc count) begun few = absurd (omega (arith, few))
waits_behind (one ∷ progress) (suc count) begun few =
    let first = waits_begun one (All-head (λ one. has_begun one ≡ true) one (take count progress) begun) in
    let rest = waits_behind progress count (All-tail (λ one. has_begun one ≡ true) one (take count progress) begun) (omega (arith, few)) in
    omega (arith, sum_by-cons waits one progress, first, rest)

-- ---- the number that was drawn last

module _ (old new : Progress) (progress : List Progress) (i last next : ℕ) (entropy spent : EntropyState) (within : i < length progress) (was : old ≡ get_or progress i old)
    (numbers : DrawsNumber old new last next) where
  -- one waits less, or as many as before
  waits_after : all_waits (set progress i new) + waits old ≡ all_waits progress
  waits_after =
      let here : waits (get_or progress i old) ≡ waits old = ap waits (sym was) in
      omega (arith, sum_by-set waits progress i new old within, here, waits_begun new (begun_by old new last next numbers))

  pub room_after : next + all_waits (set progress i new) ≤ last + all_waits progress
  room_after = omega (arith, waits_after, drawn_one old new numbers)
    where
      drawn_one : (old new : Progress) → DrawsNumber old new last next → next ≤ last + waits old
      drawn_one stages.Waiting stages.Waiting draws = absurd draws
      drawn_one stages.Waiting (stages.Live now) draws = omega (arith, draws.1)
      drawn_one stages.Waiting (stages.Ended line) draws = omega (arith, draws.1)
      drawn_one (stages.Live live) stages.Waiting draws = absurd draws
      drawn_one (stages.Live live) (stages.Live now) draws = omega (arith, draws.1)
      drawn_one (stages.Live live) (stages.Ended line) draws = omega (arith, draws)
      drawn_one (stages.Ended line) new draws = omega (arith, draws.1)

  pub numbers_after : (first : ℕ) → DrawsBytes old last next entropy spent → Stayed entropy.faults spent.faults → last + all_waits progress ≡ first + length progress
      → next + all_waits (set progress i new) ≡ first + length (set progress i new)
  numbers_after first bytes stayed counted = omega (arith, waits_after, drawn_all old new numbers bytes, counted, length-set progress i new)
    where
      drawn_all : (old new : Progress) → DrawsNumber old new last next → DrawsBytes old last next entropy spent → next ≡ last + waits old
      drawn_all stages.Waiting new draws bytes = bytes.1 stayed
      drawn_all (stages.Live live) stages.Waiting draws bytes = absurd draws
      drawn_all (stages.Live live) (stages.Live now) draws bytes = omega (arith, draws.1)
      drawn_all (stages.Live live) (stages.Ended line) draws bytes = omega (arith, draws)
      drawn_all (stages.Ended line) new draws bytes = omega (arith, draws.1)

-- ---- the lines

-- more is sealed before anything was opened
seals_more : (width last : ℕ) (gained more : List JournalLine) (s : SealsFirst width last gained) → s.later ≡ [] → All (λ line. line.kind ≡ Seal) more
    → (t : SealsFirst width last (gained ++ more)) × (t.later ≡ [])
seals_more width last gained more s none sealed = (
  record {
    first = s.first ++ more;
    later = [];
    parts = ap (λ l. l ++ more) (s.parts ∙ ap (λ l. s.first ++ l) none ∙ append-nil s.first) ∙ sym (append-nil (s.first ++ more));
    sealed = All-append (λ line. line.kind ≡ Seal) s.first more s.sealed sealed;
    opened = All-nil (λ (line : JournalLine). line.session ≤ last + width → line.kind ≡ Unseal);
  },
  refl,
)

-- more is opened, or sealed of later sessions
opens_more : (width last : ℕ) (gained more : List JournalLine) → SealsFirst width last gained → All (λ line. line.session ≤ last + width → line.kind ≡ Unseal) more
    → SealsFirst width last (gained ++ more)
opens_more width last gained more s opened = record {
  first = s.first;
  later = s.later ++ more;
  parts = ap (λ l. l ++ more) s.parts ∙ append_assoc s.first s.later more;
  sealed = s.sealed;
  opened = All-append (λ line. line.session ≤ last + width → line.kind ≡ Unseal) s.later more s.opened opened;
}

seals_of : (last : ℕ) (more : List JournalLine) → LinesOf stages.Waiting last more → All (λ line. line.kind ≡ Seal) more
seals_of last more lines = All-weaker (λ line. (line.kind ≡ Seal) × (line.session ≡ last + 1)) (λ line. line.kind ≡ Seal) (λ line is. is.0) more lines

-- the session of a job behind the first ones
late_of : (width first last : ℕ) (more : List JournalLine) → first + width ≤ last → LinesOf stages.Waiting last more → All (λ line. line.session ≤ first + width → line.kind ≡ Unseal) more
late_of width first last more past lines =
    All-weaker (λ line. (line.kind ≡ Seal) × (line.session ≡ last + 1)) (λ line. line.session ≤ first + width → line.kind ≡ Unseal)
    (λ line is few. absurd (omega (arith, is.1, few, past))) more lines

unseals_of : (width first last : ℕ) (old : Progress) (more : List JournalLine) → has_begun old ≡ true → LinesOf old last more → All (λ line. line.session ≤ first + width → line.kind ≡ Unseal) more
unseals_of width first last stages.Waiting more begun lines = absurd cc
unseals_of width first last (stages.Live live) more begun lines =
    All-weaker (λ line. line.kind ≡ Unseal) (λ line. line.session ≤ first + width → line.kind ≡ Unseal) (λ line is few. is) more lines
unseals_of width first last (stages.Ended line) more begun lines =
    All-weaker (λ line. line.kind ≡ Unseal) (λ line. line.session ≤ first + width → line.kind ≡ Unseal) (λ line is few. is) more lines

-- ---- a turn

module _ (width first last next : ℕ) (progress : List Progress) (i : ℕ) (old new : Progress) (gained more : List JournalLine) (entropy spent : EntropyState)
    (within : i < length progress) (was : old ≡ get_or progress i old) (numbers : DrawsNumber old new last next) (bytes : DrawsBytes old last next entropy spent)
    (stayed : Stayed entropy.faults spent.faults) (lines : LinesOf old last more) (sealed : HaveSealed width first last progress gained) where
  counted : next + all_waits (set progress i new) ≡ first + length (set progress i new)
  counted = numbers_after old new progress i last next entropy spent within was numbers first bytes stayed sealed.numbers

  begun_after : HaveBegun width progress → HaveBegun width (set progress i new)
  begun_after begun = front_set (λ one. has_begun one ≡ true) progress i new width within (begun_by old new last next numbers) begun

  -- a job that waits behind the first ones
  past_first : old ≡ stages.Waiting → HaveBegun width progress → first + width ≤ last
  past_first waits begun = elim (cases_lt i width) [
    | inl early ↦ absurd (let no : false ≡ true = ap has_begun (sym waits) ∙ ap has_begun was ∙ front_at (λ one. has_begun one ≡ true) progress width i old begun early within in cc)
    | inr late ↦ omega (arith, waits_behind progress width begun (omega (arith, late, within)), sealed.numbers)
  ]

  sealed_waiting : old ≡ stages.Waiting → (sealed.seals.later ≡ []) ⊎ HaveBegun width progress → HaveSealed width first next (set progress i new) (gained ++ more)
  sealed_waiting waits (inl none) =
      let (seals, still) = seals_more width first gained more sealed.seals none (seals_of last more (subst (λ one. LinesOf one last more) waits lines)) in
      record { numbers = counted; seals = seals; opened = inl still }
  sealed_waiting waits (inr begun) = record {
    numbers = counted;
    seals = opens_more width first gained more sealed.seals (late_of width first last more (past_first waits begun) (subst (λ one. LinesOf one last more) waits lines));
    opened = inr (begun_after begun);
  }

  pub sealed_after : ((old ≡ stages.Waiting) ⊎ (has_begun old ≡ true)) → (old ≡ stages.Waiting) ⊎ HaveBegun width progress → HaveSealed width first next (set progress i new) (gained ++ more)
  sealed_after (inl waits) window = sealed_waiting waits sealed.opened
  sealed_after (inr had) (inl waits) = absurd (let no : false ≡ true = ap has_begun (sym waits) ∙ had in cc)
  sealed_after (inr had) (inr begun) = record {
    numbers = counted;
    seals = opens_more width first gained more sealed.seals (unseals_of width first last old more had lines);
    opened = inr (begun_after begun);
  }
