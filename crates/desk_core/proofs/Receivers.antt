-- A piece that is fed to a machine of a desk, or its end, and a receiver: what that comes to at the desk.
use Rattle.std.proofs.Common.{◌≡◌, ℕ, ◌<◌, List, [], ◌++◌, take, true, false, cond, nat_eq, Option, Some, None, Result, Ok, Err, inr, refl, sym, ap, subst, ◌∙◌, arith}
use Rattle.std.proofs.lemmas.List.{append-nil}
use Rattle.std.specs.Prelude.{option_map, box_value}
use Rattle.std.specs.BTreeMap.{BTreeMap, get, is_at}
use Rattle.std.specs.Global.{Box}
use Rattle.std.specs.Map.{update}
use Rattle.std.specs.Ordering.{nat_cmp}
use Rattle.context_codec.specs.Context.{KeyValue}
use Rattle.esdk_base.specs.declared.receiver.FeedError.{FeedError}
use Rattle.esdk_base.specs.declared.receiver.FeedError.TheVariants as feeds
use Rattle.keyring_trait.specs.declared.journal.JournalLine.{JournalLine}
use Rattle.keyring_trait.specs.declared.journal.Kind.TheVariants.{Unseal}
use Rattle.keyring_trait.specs.declared.served.Served.{Served}
use Rattle.keyring_trait.specs.Manager.{ManagerNow}
use Rattle.keyring_trait.specs.Saying.{said_last}
use Rattle.stream_seal.specs.declared.errors.SealError.{SealError}
use Rattle.stream_seal.specs.declared.errors.SealError.TheVariants as seals
use Rattle.stream_seal.specs.declared.session.Sealer.{Sealer}
use Rattle.stream_seal.specs.Feeding.{IsFeeding}
use Rattle.stream_seal.specs.Receiving as seal
use Rattle.stream_seal.specs.Session.{SealingValue}
use Rattle.stream_open.specs.declared.errors.OpenError.{OpenError}
use Rattle.stream_open.specs.declared.errors.OpenError.TheVariants as opens
use Rattle.stream_open.specs.declared.session.Opener.{Opener}
use Rattle.stream_open.specs.Asking.{BearsHeard, Heard, Nothing, served_in}
use Rattle.stream_open.specs.Receiving as opening
use Rattle.stream_open.specs.Session.{OpeningValue, asked_header, keeping, whole_context}
use Rattle.stream_open.specs.Stands as open_stands
use Rattle.stream_open.proofs.Feeding.{feeds_nothing}
use Rattle.stream_open.proofs.GoingOn.{stands_goes}
use Rattle.stream_open.proofs.Standing.{stands_quiet}
use Rattle.desk_core.specs.declared.errors.DeskError.{DeskError}
use Rattle.desk_core.specs.declared.errors.DeskError.TheVariants as errors
use Rattle.desk_core.specs.declared.session.Session.{Session}
use Rattle.desk_core.specs.declared.session.Session.TheVariants as machines
use Rattle.desk_core.specs.declared.live_sessions.Desk.{Desk}
use Rattle.desk_core.specs.declared.live_sessions.Lent.{Lent}
use Rattle.desk_core.specs.declared.live_sessions.Lent.TheVariants as lents
use Rattle.desk_core.specs.Session.{SessionValue, Sealing, Opening, Turn, open_error}
use Rattle.desk_core.specs.Desk.{DeskValue, lines_of, open_lines}
use Rattle.desk_core.specs.Stands.{StandsFor, IsLive, StandsAtNumber, AreLive, Lends, Stands, machine_at, manager_of}
use Rattle.desk_core.specs.Receiving.{FeedsAt, FeedsInto, FeedsMachine, FeedsOpening, FeedsSealing, FeedsSession, SealsOn, handed_over, machine_by, open_failure, seal_failure}
use Rattle.desk_core.proofs.Desks.{NoneAbove, stands_turn}
use Rattle.desk_core.proofs.Live.{are_live_after}
use Rattle.desk_core.proofs.Openers.{IsLockedStill, served_then, still_live, unlocked_asks, unserved}

-- a machine's error, as the desk gives it
abbrev pub failed : {E : Type 0} → DeskError → Result (Unit {0}) (FeedError DeskError E)
failed error = Err (feeds.Machine error)

module _ {M R E : Type 0} (state : M → ManagerNow) (takes : R → R → List ℕ → Type 0) (fails : R → R → List ℕ → E → Type 0) where
  -- ---- a session that opens

  -- What feeding an opener comes to at the desk, what was heard in it, and the session that it stands for then.
  pub record OpenerFed (now : ℕ) (v : OpeningValue) (piece : List ℕ) (old new : M) (before after : R) (result : Result (Unit {0}) (FeedError DeskError E)) (opener : Opener) : Type 0 where
    pub heard : Heard
    pub left : Option SessionValue
    pub feeding : FeedsOpening state takes fails now v piece old new before after heard left result
    pub bears : BearsHeard (state old) (state new) now (served_in heard)
    pub stands : StandsAtNumber (machine_by result (machines.Opening opener)) left
    pub session : OpeningValue
    pub worth : open_stands.Stands opener session
    pub served : session.served ≡ (keeping v heard).served
    pub live : result ≡ Err (feeds.Machine errors.NotLive) → ⊥
    pub unserved_where : ((bytes : List ℕ) → asked_header v bytes ≡ None) → served_in heard ≡ None

  pub opener_ok : (now : ℕ) (v : OpeningValue) (piece : List ℕ) (old new : M) (before after : R) (opener : Opener) → IsLive (Opening v)
      → opening.FedWhole state takes now v piece old new before after opener → OpenerFed now v piece old new before after (Ok tt) opener
  opener_ok now v piece old new before after opener live whole =
      let fed = whole.fed in
      record {
        heard = fed.heard;
        left = Some (Opening fed.session);
        feeding = (opener, whole, refl, refl);
        bears = fed.bears;
        stands = (fed.stands, (fed.feeds.goes.going, λ none. fed.served ∙ (still_live v piece fed.heard 0 live).1 (sym fed.answer ∙ none)));
        session = fed.session;
        worth = fed.stands;
        served = fed.served;
        live = λ e. cc;
        unserved_where = λ unasked. unserved (said_last (state old) (state new)) now v.given (asked_header v piece) ⊥ fed.heard (unasked piece) fed.hears;
      }

  -- an error that breaks it off isn't that it had stopped
  named_short : (v : OpeningValue) (piece : List ℕ) (heard : Heard) (given : List ℕ) (reached : OpeningValue) (own : OpenError) → opening.Breaks v piece heard given reached own
      → failed {E = E} (open_error own) ≡ failed errors.NotLive → ⊥
  named_short v piece heard given reached (opens.Fault fault) why e = cc
  named_short v piece heard given reached opens.KeyringFault why e = cc
  named_short v piece heard given reached opens.Memory why e = cc
  named_short v piece heard given reached opens.Stopped why e = why

  opener_short : (now : ℕ) (v : OpeningValue) (piece : List ℕ) (old new : M) (before after : R) (opener : Opener) (own : OpenError)
      → opening.FedShort state takes now v piece own old new before after opener → OpenerFed now v piece old new before after (Err (feeds.Machine (open_error own))) opener
  opener_short now v piece old new before after opener own short = record {
    heard = short.heard;
    left = None;
    feeding = (opener, own, short, refl, refl, refl);
    bears = short.bears;
    stands = tt;
    session = opening.broken_off v (take short.count piece) short.heard;
    worth = short.stands;
    served = refl;
    live = named_short v piece short.heard short.given short.reached own short.why;
    unserved_where = λ unasked. unserved (said_last (state old) (state new)) now v.given (asked_header v piece) (own ≡ opens.Memory) short.heard (unasked piece) short.hears;
  }

  opener_named : (now : ℕ) (v : OpeningValue) (piece : List ℕ) (old new : M) (before after : R) (opener : Opener) (error : FeedError OpenError E) → IsLive (Opening v)
      → opening.FeedsOpenerPiece {T = Unit {0}} state takes fails now v piece old new before after opener (Err error) → OpenerFed now v piece old new before after (Err (open_failure error)) opener
  opener_named now v piece old new before after opener (feeds.Receiver error) live until =
      let fed = until.fed in
      let front : List ℕ = take until.count piece in
      record {
        heard = fed.heard;
        left = None;
        feeding = (opener, until, refl, refl);
        bears = fed.bears;
        stands = tt;
        session = fed.session;
        worth = fed.stands;
        served = fed.served;
        live = λ e. cc;
        unserved_where = λ unasked. unserved (said_last (state old) (state new)) now v.given (asked_header v front) ⊥ fed.heard (unasked front) fed.hears;
      }
  opener_named now v piece old new before after opener (feeds.Machine (opens.Fault fault)) live short = opener_short now v piece old new before after opener (opens.Fault fault) short
  opener_named now v piece old new before after opener (feeds.Machine opens.KeyringFault) live short = opener_short now v piece old new before after opener opens.KeyringFault short
  opener_named now v piece old new before after opener (feeds.Machine opens.Memory) live short = opener_short now v piece old new before after opener opens.Memory short
  opener_named now v piece old new before after opener (feeds.Machine opens.Stopped) live stays = absurd (let no : true ≡ false = sym stays.off ∙ live.0 in cc)

  pub opener_err : (now : ℕ) (v : OpeningValue) (piece : List ℕ) (old new : M) (before after : R) (opener : Opener) (error : FeedError OpenError E) (named : FeedError DeskError E) → named ≡ open_failure error
      → IsLive (Opening v) → opening.FeedsOpenerPiece {T = Unit {0}} state takes fails now v piece old new before after opener (Err error) → OpenerFed now v piece old new before after (Err named) opener
  opener_err now v piece old new before after opener error named is live fed =
      subst (λ (e : FeedError DeskError E). OpenerFed now v piece old new before after (Err e) opener) (sym is) (opener_named now v piece old new before after opener error live fed)

  module _ (id now : ℕ) (v : OpeningValue) (piece : List ℕ) (old new : M) (before after : R) (result : Result (Unit {0}) (FeedError DeskError E)) (opener : Opener)
      (fed : OpenerFed now v piece old new before after result opener) where
    -- what is heard is recorded, by how the materials were served that the opener keeps
    pub machine_locked : (lines more : List JournalLine) → v.served ≡ None → ((w : OpeningValue) → open_stands.Stands opener w → more ≡ lines ++ lines_of id Unseal now None w.served)
        → FeedsMachine state takes fails (Opening v) id now piece old new before after result (machines.Opening opener) lines more
    machine_locked lines more none recorded = record {
      heard = fed.heard;
      left = fed.left;
      feeds = fed.feeding;
      bears = fed.bears;
      journal = subst (λ (o : Option Served). more ≡ lines ++ lines_of id Unseal now None o) (fed.served ∙ served_then v piece fed.heard (Ok 0) none) (recorded fed.session fed.worth);
      stands = fed.stands;
      live = fed.live;
    }

    -- once the header is unlocked, nothing is
    pub machine_unlocked : (lines : List JournalLine) (context : List KeyValue) → whole_context v ≡ Some context
        → FeedsMachine state takes fails (Opening v) id now piece old new before after result (machines.Opening opener) lines lines
    machine_unlocked lines context unlocked = record {
      heard = fed.heard;
      left = fed.left;
      feeds = fed.feeding;
      bears = fed.bears;
      journal = subst (λ (o : Option Served). lines ≡ lines ++ lines_of id Unseal now None o) (sym (fed.unserved_where (λ bytes. unlocked_asks v bytes context unlocked))) (sym (append-nil lines));
      stands = fed.stands;
      live = fed.live;
    }

  -- there is no memory for the line
  pub machine_short : (id now : ℕ) (v : OpeningValue) (piece : List ℕ) (manager : M) (output : R) (opener next : Opener) (lines more : List JournalLine) → ((r : R) → takes r r [])
      → open_stands.Stands opener v → IsLive (Opening v) → IsLockedStill v → more ≡ lines
      → FeedsMachine {T = Unit {0}} state takes fails (Opening v) id now piece manager manager output output (Err (feeds.Machine errors.Memory)) (machines.Opening next) lines more
  machine_short id now v piece manager output opener next lines more nothing stands live still same =
      let stopped : Opener = record opener { stopped = true; unlocked = open_stands.quiet opener.unlocked } in
      let off : open_stands.Stands stopped (record v { stopped = true; out = [] }) = stands_quiet opener stopped v true stands (λ e. absurd cc) refl refl refl refl refl refl in
      let short : opening.FedShort state takes now v piece opens.Memory manager manager output output stopped = record {
        on = stands_goes opener v stands live.0;
        count = 0;
        within = omega arith;
        reached = v;
        given = [];
        feeds = feeds_nothing v (stands_goes opener v stands live.0);
        heard = Nothing;
        hears = inr refl;
        bears = λ lines bore. bore;
        unasked = λ none. refl;
        kept = λ answer is. is;
        why = (still.runs_out, refl);
        stands = subst (λ (b : List ℕ). open_stands.Stands stopped (record v { taken = b; stopped = true; out = [] })) (sym (append-nil v.taken)) off;
        taken = nothing output;
        nothing = λ none. refl;
      } in
      record {
        heard = Nothing;
        left = None;
        feeds = (stopped, opens.Memory, short, refl, refl, refl);
        bears = λ lines bore. bore;
        journal = same ∙ sym (append-nil lines);
        stands = tt;
        live = λ e. cc;
      }

  -- ---- a session that seals

  pub sealer_ok : (id now : ℕ) (v : SealingValue) (piece : List ℕ) (manager : M) (before after : R) (sealer : Sealer) (lines : List JournalLine) → seal.FeedsOn {T = Unit {0}} takes fails v piece before after sealer (Ok tt)
      → (IsFeeding v piece → seal.SealerFedWhole takes v piece before after sealer)
      → FeedsMachine state takes fails (Sealing v) id now piece manager manager before after (Ok (tt {0})) (machines.Sealing sealer) lines lines
  sealer_ok id now v piece manager before after sealer lines on whole = record {
    heard = Nothing;
    left = Some (Sealing on.2.session);
    feeds = (refl, refl, (on.0, on.1, (on.2.session, refl)), λ fed. (sealer, whole fed, ap (λ (w : SealingValue). Some (Sealing w)) (on.2.feeds fed)));
    bears = λ lines bore. bore;
    journal = sym (append-nil lines);
    stands = (on.2.stands, on.2.on);
    live = λ e. cc;
  }

  sealing_not : (v : SealingValue) (piece : List ℕ) (before after : R) (sealer : Sealer) (error : FeedError SealError E) → seal.FeedsSealerPiece {T = Unit {0}} takes fails v piece before after sealer (Err error)
      → FeedsSealing {T = Unit {0}} takes fails v piece before after None (Err (seal_failure error))
  sealing_not v piece before after sealer (feeds.Receiver error) until = (sealer, until, refl)
  sealing_not v piece before after sealer (feeds.Machine (seals.Refusal refusal)) short = (sealer, short, refl)
  sealing_not v piece before after sealer (feeds.Machine seals.Stopped) never = absurd never
  sealing_not v piece before after sealer (feeds.Machine seals.Memory) never = absurd never

  abbrev failure : FeedError DeskError E → Result (Unit {0}) (FeedError DeskError E)
  failure error = Err error

  sealing_named : (v : SealingValue) (piece : List ℕ) (before after : R) (sealer : Sealer) (error : FeedError SealError E) → seal.FeedsOn {T = Unit {0}} takes fails v piece before after sealer (Err error)
      → failure (seal_failure error) ≡ failed {E = E} errors.NotLive → ⊥
  sealing_named v piece before after sealer (feeds.Receiver error) on e = cc
  sealing_named v piece before after sealer (feeds.Machine (seals.Refusal refusal)) on e = cc
  sealing_named v piece before after sealer (feeds.Machine seals.Memory) on e = on
  sealing_named v piece before after sealer (feeds.Machine seals.Stopped) on e = on

  seals_not : (v : SealingValue) (piece : List ℕ) (before after : R) (sealer : Sealer) (error : FeedError SealError E) → seal.FeedsOn {T = Unit {0}} takes fails v piece before after sealer (Err error)
      → SealsOn {T = Unit {0}} takes fails before after None (Err (seal_failure error))
  seals_not v piece before after sealer (feeds.Receiver error) on = (on.0, on.1, refl)
  seals_not v piece before after sealer (feeds.Machine (seals.Refusal refusal)) on = (on.0, on.1, refl)
  seals_not v piece before after sealer (feeds.Machine seals.Stopped) on = absurd on
  seals_not v piece before after sealer (feeds.Machine seals.Memory) on = absurd on

  pub sealer_err : (id now : ℕ) (v : SealingValue) (piece : List ℕ) (manager : M) (before after : R) (sealer : Sealer) (lines : List JournalLine) (error : FeedError SealError E) (named : FeedError DeskError E)
      → named ≡ seal_failure error → seal.FeedsOn {T = Unit {0}} takes fails v piece before after sealer (Err error) → (IsFeeding v piece → seal.FeedsSealerPiece {T = Unit {0}} takes fails v piece before after sealer (Err error))
      → FeedsMachine {T = Unit {0}} state takes fails (Sealing v) id now piece manager manager before after (Err named) (machines.Sealing sealer) lines lines
  sealer_err id now v piece manager before after sealer lines error named is on fed = record {
    heard = Nothing;
    left = None;
    feeds = (
      refl,
      refl,
      subst (λ (e : FeedError DeskError E). SealsOn {T = Unit {0}} takes fails before after None (Err e)) (sym is) (seals_not v piece before after sealer error on),
      λ was. subst (λ (e : FeedError DeskError E). FeedsSealing {T = Unit {0}} takes fails v piece before after None (Err e)) (sym is) (sealing_not v piece before after sealer error (fed was)),
    );
    bears = λ lines bore. bore;
    journal = sym (append-nil lines);
    stands = tt;
    live = λ e. sealing_named v piece before after sealer error on (ap failure (sym is) ∙ e);
  }

  -- ---- a machine of either kind

  -- the same, of a journal that has the same lines
  pub machine_from : (s : SessionValue) (id now : ℕ) (piece : List ℕ) (old new : M) (before after : R) (result : Result (Unit {0}) (FeedError DeskError E)) (machine : Session) (lines same more : List JournalLine)
      → lines ≡ same → FeedsMachine state takes fails s id now piece old new before after result machine lines more
      → FeedsMachine state takes fails s id now piece old new before after result machine same more
  machine_from s id now piece old new before after result machine lines same more e fed =
      subst (λ (l : List JournalLine). FeedsMachine state takes fails s id now piece old new before after result machine l more) e fed

  boxed_by : (result : Result (Unit {0}) (FeedError DeskError E)) (machine : Box Session) (left : Option SessionValue) → StandsAtNumber (machine_by result machine.value) left
      → StandsAtNumber (option_map box_value (machine_by result machine)) left
  boxed_by (Ok done) machine left stands = stands
  boxed_by (Err error) machine left stands = stands

  -- ---- the sessions that are live

  pub feeds_at : (live : ℕ → Option SessionValue) (id now : ℕ) (piece : List ℕ) (m n : M) (before after : R) (result : Result (Unit {0}) (FeedError DeskError E)) (old new : BTreeMap ℕ (Box Session))
      (machine next : Box Session) (lines more : List JournalLine) → AreLive old live → Some machine ≡ get nat_cmp old id
      → ((s : SessionValue) → StandsFor machine.value s → IsLive s → FeedsMachine state takes fails s id now piece m n before after result next.value lines more)
      → ((q : ℕ) → get nat_cmp new q ≡ cond (is_at (nat_cmp id) q) (machine_by result next) (get nat_cmp old q))
      → FeedsAt state takes fails live id now piece m n before after result new lines more
  feeds_at live id now piece m n before after result old new machine next lines more alive there feeding updates = by (live id) refl
    where
      some_none : (s : SessionValue) → Some s ≡ None → ⊥
      some_none s e = cc

      at : (o : Option SessionValue) → live id ≡ o → StandsAtNumber (Some machine.value) o
      at o e = subst (λ (p : Option (Box Session)). StandsAtNumber (option_map box_value p) o) (sym there) (subst (λ (p : Option SessionValue). StandsAtNumber (machine_at old id) p) e (alive id))

      by : (o : Option SessionValue) → live id ≡ o → FeedsAt state takes fails live id now piece m n before after result new lines more
      by None e = absurd (at None e)
      by (Some s) e =
          let fed = feeding s (at (Some s) e).0 (at (Some s) e).1 in
          record {
            heard = fed.heard;
            left = fed.left;
            feeds = subst (λ (o : Option SessionValue). FeedsSession state takes fails now o piece m n before after fed.heard fed.left result) (sym e) fed.feeds;
            bears = fed.bears;
            journal = fed.journal;
            stands = are_live_after old new live id (machine_by result next) fed.left alive updates (boxed_by result next fed.left fed.stands);
            not_live = (λ is. absurd (fed.live is), λ none. absurd (some_none s (sym e ∙ none)));
          }

-- ---- the desk

-- the desk after such a call
pub stands_over : {M : Type 0} (next : Desk M) (v : DeskValue) (id : ℕ) (lines : List JournalLine) (left : Option SessionValue) → NoneAbove v.live v.last → (v.last < id → left ≡ None)
    → AreLive next.sessions (update nat_eq v.live id left) → next.last_id ≡ v.last → next.journal.items ≡ v.journal ++ lines → next.lent ≡ lents.Nothing → Stands next (handed_over v id lines left)
stands_over next v id lines left above dead alive last journal lent =
    let turn : Turn (Unit {0}) = record { answer = Ok tt; out = []; left = left } in
    stands_turn next v id lines turn left [] refl refl above dead alive last journal (subst (λ (l : Lent). Lends l (update nat_eq v.live id left) []) (sym lent) refl)

pub feeds_into : {M R E : Type 0} (state : M → ManagerNow) (takes : R → R → List ℕ → Type 0) (fails : R → R → List ℕ → E → Type 0) (old next : Desk M) (v : DeskValue) (id now : ℕ) (piece : List ℕ)
    (before after : R) (result : Result (Unit {0}) (FeedError DeskError E)) → Stands old v
    → FeedsAt state takes fails v.live id now piece (manager_of old) (manager_of next) before after result next.sessions old.journal.items next.journal.items
    → next.last_id ≡ old.last_id → next.lent ≡ lents.Nothing → FeedsInto state takes fails v id now piece old next before after result
feeds_into state takes fails old next v id now piece before after result stands fed last lent =
    let lines : List JournalLine = open_lines id now fed.heard in
    record {
      heard = fed.heard;
      left = fed.left;
      feeds = fed.feeds;
      bears = fed.bears;
      stands = stands_over next v id lines fed.left stands.undrawn
          (λ h. (subst (λ (o : Option SessionValue). FeedsSession state takes fails now o piece (manager_of old) (manager_of next) before after fed.heard fed.left result) (stands.undrawn id h) fed.feeds).4)
          fed.stands (last ∙ stands.last) (fed.journal ∙ ap (λ (l : List JournalLine). l ++ lines) stands.journal) lent;
    }
