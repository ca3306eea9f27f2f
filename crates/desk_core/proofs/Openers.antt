-- What a step of an opener comes to at the desk.
use Rattle.std.proofs.Common.{◌≡◌, ℕ, ◌-◌, ◌<◌, ◌≤◌, List, ◌++◌, length, Bool, true, false, Option, Some, None, Result, Ok, Err, IfOk, inl, inr, if◌then◌else◌, refl, sym, ap, subst, ◌∙◌, arith}
use Rattle.std.proofs.lemmas.List.{append-nil}
use Rattle.context_codec.specs.Context.{KeyValue}
use Rattle.header_codec.specs.Header.{HeaderValue}
use Rattle.keyring_trait.specs.declared.journal.JournalLine.{JournalLine}
use Rattle.keyring_trait.specs.declared.journal.Kind.TheVariants.{Unseal}
use Rattle.keyring_trait.specs.declared.served.Served.{Served}
use Rattle.keyring_trait.specs.Manager.{ManagerNow}
use Rattle.keyring_trait.specs.Saying.{Saying, said_last}
use Rattle.keyring_trait.specs.Unlocking.{Unlocking}
use Rattle.stream_open.specs.declared.errors.OpenError.{OpenError}
use Rattle.stream_open.specs.declared.errors.OpenError.TheVariants as opens
use Rattle.stream_open.specs.declared.session.Opener.{Opener}
use Rattle.stream_open.specs.declared.unlocked.Unlocked.{Unlocked}
use Rattle.stream_open.specs.Asking.{BearsHeard, Heard, Nothing, Found, Named, Failed, IsHeard, served_in}
use Rattle.stream_open.specs.Session as open_session
use Rattle.stream_open.specs.Session.{OpeningValue, asked_header, header_asked, answer_kept, judged_now, whole_in, Answers, MayRunOut, whole_context}
use Rattle.stream_open.specs.Stands as open_stands
use Rattle.stream_open.proofs.Ends.{ends_exactly}
use Rattle.stream_open.proofs.Headers.{runs_out_locked}
use Rattle.stream_open.proofs.Standing.{context_told, stands_as}
use Rattle.desk_core.specs.declared.errors.DeskError.{DeskError}
use Rattle.desk_core.specs.declared.errors.DeskError.TheVariants as errors
use Rattle.desk_core.specs.declared.session.Session.{Session}
use Rattle.desk_core.specs.declared.session.Session.TheVariants as machines
use Rattle.desk_core.specs.Session.{SessionValue, Opening, open_answer, opener_answer}
use Rattle.desk_core.specs.Desk.{lines_of, open_lines}
use Rattle.desk_core.specs.Stands.{IsLive, work_in}
use Rattle.desk_core.specs.Steps.{DeskSteps, StepsOpener}

-- ---- while the header isn't unlocked

-- Memory may run out, and no answer is kept.
pub record IsLockedStill (v : OpeningValue) : Type 0 where
  pub runs_out : MayRunOut v
  pub unheard : v.answer ≡ None

pub locked_still : (opener : Opener) (v : OpeningValue) → open_stands.Stands opener v → v.stopped ≡ false → whole_context v ≡ None → IsLockedStill v
locked_still opener v stands going none = by opener.unlocked refl
  where
    by : (o : Option Unlocked) → opener.unlocked ≡ o → IsLockedStill v
    by None e = let lock = stands_as opener v None e stands in record { runs_out = runs_out_locked v going lock.wanting; unheard = lock.unheard going }
    by (Some u) e = let told = context_told opener v (Some u) e stands in absurd (cc)

unheard_context : (v : OpeningValue) → v.answer ≡ None → whole_context v ≡ None
unfolding open_session.whole_context
unheard_context v e =
    ap (λ (o : Option Unlocking). if (judged_now v).unlocked then whole_in (answer_kept o) else None) e
    ∙ elim (judged_now v).unlocked as (λ b. (if b then whole_in (answer_kept None) else None) ≡ None) [ true ↦ refl | false ↦ refl ]

-- once it is unlocked, no header is asked about
pub unlocked_asks : (v : OpeningValue) (piece : List ℕ) (context : List KeyValue) → whole_context v ≡ Some context → asked_header v piece ≡ None
unlocked_asks v piece context some = by v.answer refl
  where
    by : (o : Option Unlocking) → v.answer ≡ o → asked_header v piece ≡ None
    by None e = let n = unheard_context v e in absurd (cc)
    by (Some a) e =
        ap (λ (o : Option Unlocking). if v.stopped then None else header_asked o v.settings (v.taken ++ piece)) e
        ∙ elim v.stopped as (λ b. (if b then None else header_asked (Some a) v.settings (v.taken ++ piece)) ≡ None) [ true ↦ refl | false ↦ refl ]

-- ---- the answer

-- it answered that memory ran out
abbrev is_memory : Result ℕ OpenError → Bool
is_memory (Ok n) = false
is_memory (Err (opens.Fault fault)) = false
is_memory (Err opens.KeyringFault) = false
is_memory (Err opens.Stopped) = false
is_memory (Err opens.Memory) = true

own_answer : (v : OpeningValue) (piece : List ℕ) (heard : Heard) (r : Result ℕ OpenError) → Answers v piece heard r → opener_answer v piece heard (is_memory r) ≡ r
own_answer v piece heard (Ok n) h = h
own_answer v piece heard (Err (opens.Fault fault)) h = h
own_answer v piece heard (Err opens.KeyringFault) h = h
own_answer v piece heard (Err opens.Stopped) h = h
own_answer v piece heard (Err opens.Memory) h = refl

may_run_out : (v : OpeningValue) (piece : List ℕ) (heard : Heard) (r : Result ℕ OpenError) → Answers v piece heard r → is_memory r ≡ true → MayRunOut v
may_run_out v piece heard (Ok n) h short = absurd (cc)
may_run_out v piece heard (Err (opens.Fault fault)) h short = absurd (cc)
may_run_out v piece heard (Err opens.KeyringFault) h short = absurd (cc)
may_run_out v piece heard (Err opens.Stopped) h short = absurd (cc)
may_run_out v piece heard (Err opens.Memory) h short = h

heard_so : (manager : Saying) (now : ℕ) (given : List KeyValue) (asked : Option HeaderValue) (r : Result ℕ OpenError) (heard : Heard) → IsHeard manager now given asked (r ≡ Err opens.Memory) heard
    → IsHeard manager now given asked (is_memory r ≡ true) heard
heard_so manager now given asked r Nothing h = elim h [ inl e ↦ inl e | inr e ↦ inr (ap is_memory e) ]
heard_so manager now given asked r (Found materials) h = h
heard_so manager now given asked r (Named fault) h = h
heard_so manager now given asked r Failed h = h

-- ---- what is left

pub still_live : (v : OpeningValue) (piece : List ℕ) (heard : Heard) (n : ℕ) → IsLive (Opening v) → IsLive (Opening (open_session.opening_stepped v piece heard (Ok n)))
still_live v piece Nothing n live = live
still_live v piece (Found materials) n live = (live.0, λ e. absurd (cc))
still_live v piece (Named fault) n live = (live.0, λ e. absurd (cc))
still_live v piece Failed n live = live

live_left : (v : OpeningValue) (piece : List ℕ) (heard : Heard) (r : Result ℕ OpenError) → IsLive (Opening v) → IfOk (open_answer r) (λ _. IsLive (Opening (open_session.opening_stepped v piece heard r)))
live_left v piece heard (Ok n) live = still_live v piece heard n live
live_left v piece heard (Err error) live = tt

ok_if : {A E : Type 0} (P : Type 0) (r : Result A E) → P → IfOk r (λ _. P)
ok_if P (Ok value) h = h
ok_if P (Err error) h = tt

-- ---- the journal

pub served_then : (v : OpeningValue) (piece : List ℕ) (heard : Heard) (r : Result ℕ OpenError) → v.served ≡ None → (open_session.opening_stepped v piece heard r).served ≡ served_in heard
served_then v piece Nothing (Ok n) none = none
served_then v piece Nothing (Err error) none = none
served_then v piece (Found materials) (Ok n) none = refl
served_then v piece (Found materials) (Err error) none = refl
served_then v piece (Named fault) (Ok n) none = none
served_then v piece (Named fault) (Err error) none = none
served_then v piece Failed (Ok n) none = none
served_then v piece Failed (Err error) none = none

-- where no header is asked about, no materials are heard
pub unserved : (manager : Saying) (now : ℕ) (given : List KeyValue) (asked : Option HeaderValue) (short : Type 0) (heard : Heard) → asked ≡ None → IsHeard manager now given asked short heard → served_in heard ≡ None
unserved manager now given asked short Nothing none h = refl
unserved manager now given asked short (Found materials) none h = let some = h.1 in absurd (cc)
unserved manager now given asked short (Named fault) none h = refl
unserved manager now given asked short Failed none h = refl

-- ---- the step

pub steps_of : (m n : ManagerNow) (v : OpeningValue) (id now : ℕ) (piece : List ℕ) (result : Result ℕ DeskError) (opener : Opener) (before after : List JournalLine) → IsLive (Opening v)
    → (step : StepsOpener m n now v piece result opener) → after ≡ before ++ open_lines id now step.steps.heard → DeskSteps m n (Opening v) id now piece result (machines.Opening opener) before after
steps_of m n v id now piece result opener before after live step journal =
    let own = own_answer v piece step.steps.heard step.own step.steps.answers in
    record {
      heard = step.steps.heard;
      short = is_memory step.own;
      hears = (heard_so (said_last m n) now v.given (asked_header v piece) step.own step.steps.heard step.steps.hears, may_run_out v piece step.steps.heard step.own step.steps.answers);
      bears = step.steps.bears;
      journal = journal;
      answer = step.answer ∙ ap open_answer (sym own);
      stands = ok_if _ result (subst (λ (r : Result ℕ OpenError). open_stands.Stands opener (open_session.opening_stepped v piece step.steps.heard r)) (sym own) step.steps.stands);
      live = subst (λ (r : Result ℕ DeskError). IfOk r (λ _. IsLive (Opening (open_session.opening_stepped v piece step.steps.heard (opener_answer v piece step.steps.heard (is_memory step.own)))))) (sym step.answer)
          (subst (λ (r : Result ℕ OpenError). IfOk (open_answer step.own) (λ _. IsLive (Opening (open_session.opening_stepped v piece step.steps.heard r)))) (sym own) (live_left v piece step.steps.heard step.own live));
    }

-- what is heard is recorded, by how the materials were served that the opener keeps
pub steps_locked : (m n : ManagerNow) (v : OpeningValue) (id now : ℕ) (piece : List ℕ) (result : Result ℕ DeskError) (opener : Opener) (before after : List JournalLine) → IsLive (Opening v)
    → v.served ≡ None → StepsOpener m n now v piece result opener
    → ((w : OpeningValue) → open_stands.Stands opener w → after ≡ before ++ lines_of id Unseal now None w.served) → DeskSteps m n (Opening v) id now piece result (machines.Opening opener) before after
steps_locked m n v id now piece result opener before after live none step recorded =
    let heard = step.steps.heard in
    steps_of m n v id now piece result opener before after live step
    (subst (λ (o : Option Served). after ≡ before ++ lines_of id Unseal now None o) (served_then v piece heard step.own none) (recorded (open_session.opening_stepped v piece heard step.own) step.steps.stands))

-- once the header is unlocked, nothing is
pub steps_unlocked : (m n : ManagerNow) (v : OpeningValue) (id now : ℕ) (piece : List ℕ) (result : Result ℕ DeskError) (opener : Opener) (lines : List JournalLine) (context : List KeyValue)
    → IsLive (Opening v) → whole_context v ≡ Some context → StepsOpener m n now v piece result opener → DeskSteps m n (Opening v) id now piece result (machines.Opening opener) lines lines
steps_unlocked m n v id now piece result opener lines context live unlocked step =
    let heard = step.steps.heard in
    let none = unserved (said_last m n) now v.given (asked_header v piece) (step.own ≡ Err opens.Memory) heard (unlocked_asks v piece context unlocked) step.steps.hears in
    steps_of m n v id now piece result opener lines lines live step
    (subst (λ (o : Option Served). lines ≡ lines ++ lines_of id Unseal now None o) (sym none) (sym (append-nil lines)))

-- there is no memory for the line
pub steps_short : (m n : ManagerNow) (v : OpeningValue) (id now : ℕ) (piece : List ℕ) (opener : Opener) (before after : List JournalLine) → IsLockedStill v → BearsHeard m n now None → after ≡ before
    → DeskSteps m n (Opening v) id now piece (Err errors.Memory) (machines.Opening opener) before after
steps_short m n v id now piece opener before after still bears same = record {
  heard = Nothing;
  short = true;
  hears = (inr refl, λ short. still.runs_out);
  bears = bears;
  journal = same ∙ sym (append-nil before);
  answer = refl;
  stands = tt;
  live = tt;
}

-- a piece that isn't empty is used
pub uses_some : (m n : ManagerNow) (now : ℕ) (v : OpeningValue) (piece : List ℕ) (own : Result ℕ OpenError) (opener : Opener) (used : ℕ) → open_stands.OpenerSteps m n now v piece own opener → own ≡ Ok used
    → 1 ≤ length piece → 1 ≤ used
uses_some m n now v piece own opener used step is some =
    ((ends_exactly v piece step.heard).used used (subst (λ (r : Result ℕ OpenError). Answers v piece step.heard r) is step.answers)).some some

pub falls_opening : (machine : Session) (opener : Opener) (result : Result ℕ DeskError) (piece : List ℕ) → machine ≡ machines.Opening opener → IfOk result (λ used. used ≤ length piece)
    → IfOk result (λ used. 1 ≤ length piece → 1 ≤ used) → IfOk result (λ used. 1 ≤ length piece → length piece - used < work_in (Some machine) (length piece))
falls_opening machine opener (Ok used) piece is within some = λ any. let least : 1 ≤ used = some any in rw is (omega arith)
falls_opening machine opener (Err error) piece is within some = tt

-- the same step, of a journal that has the same lines
pub steps_from : (m n : ManagerNow) (s : SessionValue) (id now : ℕ) (piece : List ℕ) (result : Result ℕ DeskError) (machine : Session) (before old after : List JournalLine) → before ≡ old
    → DeskSteps m n s id now piece result machine before after → DeskSteps m n s id now piece result machine old after
steps_from m n s id now piece result machine before old after e step = subst (λ (l : List JournalLine). DeskSteps m n s id now piece result machine l after) e step
