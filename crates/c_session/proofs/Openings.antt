-- A message that is opened piece by piece: what was given and what waits is what it releases.
use Rattle.std.proofs.Common.{◌≡◌, ◌∙◌, ℕ, List, [], ◌++◌, take, true, false, Ok, Err, refl, sym, ap, subst, arith, append-nil}
use Rattle.std.specs.declared.alloc.AllocError.{AllocError}
use Rattle.esdk_fields.specs.declared.faults.Fault.{Fault}
use Rattle.esdk_fields.specs.declared.faults.Fault.TheVariants.{Truncated}
use Rattle.esdk_base.specs.declared.receiver.FeedError.{FeedError}
use Rattle.esdk_base.specs.declared.receiver.FeedError.TheVariants as feeding
use Rattle.esdk_base.specs.Receiver.{Gathers}
use Rattle.context_codec.specs.Context.{KeyValue}
use Rattle.header_codec.specs.declared.settings.Settings.{Settings}
use Rattle.keyring_trait.specs.Manager.{ManagerNow, Went}
use Rattle.keyring_trait.specs.Saying.{said_last}
use Rattle.keyring_trait.proofs.Going.{went_on}
use Rattle.body_format.specs.declared.verdicts.Verdict.{Verdict}
use Rattle.body_format.specs.declared.verdicts.Verdict.TheVariants.{Going, Whole, Faulty}
use Rattle.message_format.specs.Judgement.{Judged, content, judged}
use Rattle.stream_open.specs.declared.errors.OpenError.{OpenError}
use Rattle.stream_open.specs.declared.errors.OpenError.TheVariants as errors
use Rattle.stream_open.specs.declared.session.Opener.{Opener}
use Rattle.stream_open.specs.Asking.{Heard}
use Rattle.stream_open.specs.Feeding.{judged_all}
use Rattle.stream_open.specs.Receiving.{FedTo, FeedsOpenerPiece}
use Rattle.stream_open.specs.Session.{OpeningValue, answer_kept, asked_header, end_of_verdict, opening_finish_answer, is_faulty, judged_now, keeping, new_opening_session}
use Rattle.stream_open.specs.Stands.{Stands}
use Rattle.stream_open.proofs.AnyCut.{kept_none}
use Rattle.stream_open.proofs.FedPieces.{fed_as_one, heard_as, joins}
use Rattle.stream_open.proofs.Feeding.{ends_so, opened_goes}
use Rattle.stream_open.proofs.PieceEnds.{whole_none}
use Rattle.c_session.specs.declared.reason.Reason.TheVariants as reasons
use Rattle.c_session.specs.Opening.{BreaksOff, SessionOpens, OpensEnd, SessionOpensPiece, SessionReleases, unopened_as}
use Rattle.c_session.specs.Sealing.{IsFrontOf}
use Rattle.session_parts.specs.Waiting.{GathersFront}
use Rattle.c_session.proofs.Sealings.{behind, front_behind}

pub opens_first : {M : Type 0} (state : M → ManagerNow) (manager : M) (opener : Opener) (settings : Settings) (pairs : List KeyValue)
    → Stands opener (new_opening_session settings pairs) → Went (state manager) (state manager)
    → SessionOpens state manager manager opener [] settings pairs [] []
opens_first state manager opener settings pairs stands stays =
    let first = whole_none state (λ (a b : Unit {0}) (bytes : List ℕ). Unit {0}) 0 (new_opening_session settings pairs) manager tt opener
    (opened_goes settings pairs) stands (λ r. tt) in
    record { fed = first.fed; all = (kept_none settings pairs).released; went = stays }

module _ {M : Type 0} (state : M → ManagerNow) (begun old : M) (opener : Opener) (before waiting : List ℕ)
    (settings : Settings) (pairs : List KeyValue) (taken given : List ℕ)
    (opens : SessionOpens state begun old opener before settings pairs taken given) where
  abbrev first : OpeningValue
  first = new_opening_session settings pairs

  abbrev session : OpeningValue
  session = opens.fed.session

  -- a piece was fed
  pub piece_opened : (piece : List ℕ) (new : M) (next : Opener) → Went (state old) (state new)
      → FeedsOpenerPiece {E = AllocError} {T = Unit {0}} state Gathers (λ a b bytes error. GathersFront a b bytes) 0
      session piece old new before waiting next (Ok tt)
      → SessionOpensPiece {T = Unit {0}} state begun new next waiting settings pairs taken piece given (Ok tt)
  piece_opened piece new next went whole =
      let more : List ℕ = whole.given in
      let put : given ++ waiting ≡ (given ++ before) ++ more =
      behind given before waiting (given ++ before) more refl whole.taken in
      let both = subst
      (λ (b : List ℕ). (fed : FedTo state 0 first (taken ++ piece) b begun new next) × (b ≡ content (judged_now fed.session)))
      (sym put) (
        (fed_as_one state begun old new 0 first taken piece (given ++ before) more opener next opens.fed whole.fed),
        (ap (λ (b : List ℕ). b ++ more) opens.all ∙ sym whole.fed.feeds.content),
      ) in
      record {
        fed = both.0;
        all = both.1;
        went = went_on (state begun) (state old) (state new) opens.went went;
      }

  -- what the session comes to behind this piece is what the bytes come to from the beginning
  judged_same : (piece : List ℕ) (later heard : Heard) → (keeping session later).answer ≡ (keeping first heard).answer
      → judged_all session piece later ≡ judged_all first (taken ++ piece) heard
  judged_same piece later heard answer =
      let bytes : session.taken ++ piece ≡ taken ++ piece =
      ap (λ (b : List ℕ). b ++ piece) opens.fed.feeds.taken in
      λ i. judged (bytes i) (opens.fed.feeds.settings i) (answer_kept (answer i))

  -- it has a fault
  fault_found : (piece : List ℕ) (new : M) (next : Opener) (fault : Fault)
      → FeedsOpenerPiece {E = AllocError} {T = Unit {0}} state Gathers (λ a b bytes error. GathersFront a b bytes) 0
      session piece old new before waiting next (Err (feeding.Machine (errors.Fault fault)))
      → SessionOpensPiece {T = Unit {0}} state begun new next waiting settings pairs taken piece given (Err (reasons.Fault fault))
  fault_found piece new next fault short =
      let given_pairs : session.given ≡ pairs = opens.fed.feeds.pairs in
      let j = joins state 0 first taken piece (given ++ before) begun old new opener opens.fed
      (errors.Fault fault ≡ errors.Memory) short.heard short.hears short.bears short.unasked in
      let same = judged_same piece short.heard j.heard j.answer in
      record {
        heard = j.heard;
        hears = heard_as (said_last (state begun) (state new)) 0 pairs (asked_header first (taken ++ piece)) _ ⊥ j.heard (λ e. absurd (never e)) j.hears;
        judged = sym (ap (λ (g : Judged). g.verdict) same) ∙ short.why.verdict;
        all =
            behind given before waiting (content (judged_now session)) short.given opens.all short.taken
            ∙ sym short.why.released ∙ ap content same;
      }
    where
      never : errors.Fault fault ≡ errors.Memory → ⊥
      never e = cc

  -- nothing of it was given
  untaken : (piece more : List ℕ) → more ≡ [] → (more ≡ [] → waiting ≡ before) → BreaksOff settings pairs taken piece given waiting
  untaken piece more none same = record {
    count = 0;
    within = omega arith;
    session = session;
    limits = opens.fed.feeds.settings;
    told = opens.fed.feeds.pairs;
    bytes = opens.fed.feeds.taken ∙ sym (append-nil taken);
    front = record {
      rest = [];
      front = append-nil (given ++ waiting) ∙ ap (λ (b : List ℕ). given ++ b) (same none) ∙ opens.all;
    };
  }

  -- it wasn't, for this reason
  pub piece_not : (piece : List ℕ) (new : M) (next : Opener) (error : FeedError OpenError AllocError)
      → FeedsOpenerPiece {T = Unit {0}} state Gathers (λ a b bytes (error : AllocError). GathersFront a b bytes) 0
      session piece old new before waiting next (Err error)
      → SessionOpensPiece {T = Unit {0}} state begun new next waiting settings pairs taken piece given (Err (unopened_as error))
  piece_not piece new next (feeding.Machine (errors.Fault fault)) short = fault_found piece new next fault short
  piece_not piece new next (feeding.Machine errors.KeyringFault) short = untaken piece short.given short.why.1 short.nothing
  piece_not piece new next (feeding.Machine errors.Memory) short = untaken piece short.given short.why.1 short.nothing
  piece_not piece new next (feeding.Machine errors.Stopped) stays =
      absurd (let off : true ≡ false = sym stays.off ∙ opens.fed.feeds.goes.going in cc)
  piece_not piece new next (feeding.Receiver error) until =
      let w = until.fed.session in
      record {
        count = until.count;
        within = until.within;
        session = w;
        limits = until.fed.feeds.settings ∙ opens.fed.feeds.settings;
        told = until.fed.feeds.pairs ∙ opens.fed.feeds.pairs;
        bytes = until.fed.feeds.taken ∙ ap (λ (b : List ℕ). b ++ take until.count piece) opens.fed.feeds.taken;
        front =
            let released : content (judged_now session) ++ (until.given ++ []) ≡ content (judged_now w) =
            ap (λ (b : List ℕ). content (judged_now session) ++ b) (append-nil until.given)
            ∙ sym until.fed.feeds.content in
            subst (λ (b : List ℕ). IsFrontOf b given waiting) released
            (front_behind given before waiting (content (judged_now session)) until.given [] opens.all until.failed);
      }

  -- ---- the end

  whole_at : (verdict : Verdict) → end_of_verdict verdict ≡ Ok tt → verdict ≡ Whole
  whole_at Going e = absurd (let wrong : Err (errors.Fault Truncated) ≡ Ok tt = e in cc)
  whole_at Whole e = refl
  whole_at (Faulty fault) e = absurd (let wrong : Err (errors.Fault fault) ≡ Ok tt = e in cc)

  -- the bytes taken, judged from the beginning
  releases : (verdict : Verdict) → (judged_now session).verdict ≡ verdict
      → SessionReleases state begun old before settings pairs taken given verdict
  releases verdict is =
      let same : judged_now session ≡ judged_all first taken opens.fed.heard =
      λ i. judged (opens.fed.feeds.taken i) (opens.fed.feeds.settings i) (answer_kept (opens.fed.answer i)) in
      record {
        heard = opens.fed.heard;
        hears = opens.fed.hears;
        judged = sym (ap (λ (g : Judged). g.verdict) same) ∙ is;
        all = opens.all ∙ ap content same;
      }

  pub end_whole : Ok tt ≡ opening_finish_answer session
      → OpensEnd {T = Unit {0}} state begun old before settings pairs taken given (Ok tt)
  end_whole is =
      releases Whole (whole_at (judged_now session).verdict (sym (ends_so session opens.fed.feeds.goes) ∙ sym is))

  not_whole : (verdict : Verdict) (error : OpenError) → is_faulty verdict ≡ false → (judged_now session).verdict ≡ verdict
      → Err error ≡ end_of_verdict verdict
      → OpensEnd {T = Unit {0}} state begun old before settings pairs taken given (Err (unopened_as {E = AllocError} (feeding.Machine error)))
  not_whole Going error sound is e =
      let same : error ≡ errors.Fault Truncated = cc in
      subst
      (λ (o : OpenError). OpensEnd {T = Unit {0}} state begun old before settings pairs taken given (Err (unopened_as {E = AllocError} (feeding.Machine o))))
      (sym same) (releases Going is)
  not_whole Whole error sound is e = absurd (let wrong : Err error ≡ Ok tt = e in cc)
  not_whole (Faulty fault) error sound is e = absurd (let wrong : true ≡ false = sound in cc)

  pub end_not_whole : (error : OpenError) → Err error ≡ opening_finish_answer session
      → OpensEnd {T = Unit {0}} state begun old before settings pairs taken given (Err (unopened_as {E = AllocError} (feeding.Machine error)))
  end_not_whole error is =
      not_whole (judged_now session).verdict error opens.fed.feeds.goes.sound refl (is ∙ ends_so session opens.fed.feeds.goes)
