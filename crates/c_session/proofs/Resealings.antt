-- A message that is resealed piece by piece: what was given and what waits is what `reseal` of an input with these bytes puts.
use Rattle.std.proofs.Common.{◌≡◌, ◌∙◌, ℕ, ◌+◌, ◌-◌, ◌*◌, ◌<◌, ◌≤◌, Bool, true, false, List, [], ◌++◌, length, take, drop, Option, Some, None, Result, Ok, Err, refl, sym, ap, subst, arith, append_assoc, append-nil}
use Rattle.std.specs.Prelude.{IfErr, OnOk}
use Rattle.std.proofs.lemmas.List.{length-drop, length-take-le, take-append-drop, take-append-le}
use Rattle.std.proofs.Math.Seq.{take-add}
use Rattle.esdk_fields.specs.declared.faults.Fault.{Fault}
use Rattle.esdk_fields.specs.declared.faults.Fault.TheVariants.{Truncated}
use Rattle.esdk_fields.specs.declared.refusals.Outside.TheVariants as outsides
use Rattle.esdk_base.specs.Streams.{SinkState}
use Rattle.context_codec.specs.Context.{KeyValue}
use Rattle.header_codec.specs.declared.settings.Settings.{Settings}
use Rattle.keyring_trait.specs.Manager.{ManagerNow, Went}
use Rattle.keyring_trait.specs.Materials.{EncMaterialsValue}
use Rattle.keyring_trait.specs.Saying.{Saying, said_last}
use Rattle.keyring_trait.proofs.Going.{went_on}
use Rattle.keyring_trait.specs.Unlocking.{Unlocking, Unlocks}
use Rattle.body_format.specs.declared.verdicts.Verdict.{Verdict}
use Rattle.body_format.specs.declared.verdicts.Verdict.TheVariants.{Faulty, Going, Whole}
use Rattle.message_format.specs.Judgement.{Judged, content, judged}
use Rattle.stream_seal.specs.Start.{drawn_id, message_of}
use Rattle.stream_open.specs.declared.errors.OpenError.{OpenError}
use Rattle.stream_open.specs.declared.errors.OpenError.TheVariants as opens
use Rattle.stream_open.specs.Receiving.{FedTo}
use Rattle.stream_open.specs.Session.{OpeningValue, asked_header, end_of_verdict, is_faulty, judged_now, opening_stepped}
use Rattle.stream_open.specs.Stands.{OpenerSteps}
use Rattle.stream_open.proofs.Feeding.{ends_so}
use Rattle.stream_open.proofs.GoingOn.{stands_goes}
use Rattle.stream_open.proofs.PieceEnds.{step_fed, whole_none}
use Rattle.whole_input.specs.Taken.{Came}
use Rattle.esdk_decrypt.specs.Decrypt.{AnswersTo, answering_of}
use Rattle.reseal_core.specs.declared.errors.InputError.{InputError}
use Rattle.reseal_core.specs.declared.errors.InputError.TheVariants as inputs
use Rattle.reseal_core.specs.declared.errors.ResealError.{ResealError}
use Rattle.reseal_core.specs.declared.errors.ResealError.TheVariants as errors
use Rattle.reseal_core.specs.declared.resealer.Resealer.{Resealer}
use Rattle.reseal_core.specs.Front.{front_of}
use Rattle.reseal_core.specs.Reseal.{Resealing}
use Rattle.reseal_core.specs.Session.{ResealingValue, gone_on, new_resealing_session, stopped_at}
use Rattle.reseal_core.specs.Stands.{ResealerFinishes, ResealerHasSession, ResealerSteps, SealsAfter, Stands}
use Rattle.reseal_core.specs.Underway.{AreMade, IsMade, Reached, ResealErrorIsCalled}
use Rattle.reseal_core.proofs.Feeding.{reached_none}
use Rattle.reseal_core.proofs.RandomBytes.{one_random}
use Rattle.reseal_core.proofs.Reaching.{answer, answer_kept_is, answers, has_gained, has_room, passes, same}
use Rattle.reseal_core.proofs.StepEnds.{step_ends, steps_fed, unstopped}
use Rattle.c_session.specs.declared.reason.Reason.{Reason}
use Rattle.c_session.specs.declared.reason.Reason.TheVariants as reasons
use Rattle.c_session.specs.declared.tray.Tray.{Tray}
use Rattle.c_session.specs.Resealing.{HowResealed, ResealEndsFor, ResealWantsMore, ResealerIsReady, ResealsEnd, ResealsNoMore, ResealsSoFar, ResealsWhole, SessionReseals, SessionResealsPiece, came_so_far, how_asked, put_so_far, reseal_reason, unresealed_as}
use Rattle.c_session.proofs.Trays.{steps_behind, steps_well}

-- ---- a resealer that is ready

-- one that goes on with the same random bytes
pub ready_on : (old next : Resealer) (v w : ResealingValue) (wraps : ℕ) → length v.random ≡ 64 + 12 * wraps
    → Stands next w → w.stopped ≡ false → w.random ≡ v.random → ResealerIsReady next wraps
ready_on old next v w wraps drawn stands going same = record {
  session = record { session = w; stands = stands };
  drawn = λ x other on. ap (length {A = ℕ}) ((one_random next w x stands other going).0 ∙ same) ∙ drawn;
}

-- one that stopped
pub ready_off : (next : Resealer) (w : ResealingValue) (wraps : ℕ) → Stands next w → w.stopped ≡ true → ResealerIsReady next wraps
ready_off next w wraps stands off = record {
  session = record { session = w; stands = stands };
  drawn = λ x other on. absurd (let no : true ≡ false = sym off ∙ sym stands.stopped ∙ other.stopped ∙ on in cc);
}

module _ (opened opening : ManagerNow) (old next : Resealer) (v : ResealingValue) (stands : Stands old v) (going : v.stopped ≡ false)
    (piece : List ℕ) (before after : SinkState) (unasked unwritten : Type 0) (saying : Saying) where
  after_step : (wraps : ℕ) → length v.random ≡ 64 + 12 * wraps → (result : Result ℕ ResealError) (z : OpeningValue) (answer : Result ℕ OpenError)
      → SealsAfter saying 0 v z answer before after unasked unwritten result next → ResealerIsReady next wraps
  after_step wraps drawn (Ok n) z (Ok used) (used_is, on) =
      ready_on old next v (gone_on v z on.materials) wraps drawn on.stands going refl
  after_step wraps drawn (Err error) z (Ok used) (off, why) = ready_off next (stopped_at v z) wraps off refl
  after_step wraps drawn result z (Err why) not = ready_off next (stopped_at v z) wraps not.stands refl

  pub ready_then : (wraps : ℕ) → length v.random ≡ 64 + 12 * wraps → (result : Result ℕ ResealError)
      → ResealerSteps opened opening saying 0 v piece before after unasked unwritten result next → ResealerIsReady next wraps
  ready_then wraps drawn result s = after_step wraps drawn result (opening_stepped v.opening piece s.opens.heard s.answer) s.answer s.seals

-- one that made a step
pub ready_step : (opened opening : ManagerNow) (saying : Saying) (old next : Resealer) (piece : List ℕ) (before after : SinkState) (unasked unwritten : Type 0) (wraps more : ℕ)
    → more ≡ wraps → ResealerIsReady old wraps → (result : Result ℕ ResealError)
    → ((v : ResealingValue) → Stands old v → v.stopped ≡ false → ResealerSteps opened opening saying 0 v piece before after unasked unwritten result next)
    → ((v : ResealingValue) → Stands old v → v.stopped ≡ true → next ≡ old) → ResealerIsReady next more
ready_step opened opening saying old next piece before after unasked unwritten wraps more same_wraps ready result steps stays =
    subst (λ (n : ℕ). ResealerIsReady next n) (sym same_wraps) (ready_at ready.session.session.stopped refl)
  where
    ready_at : (b : Bool) → ready.session.session.stopped ≡ b → ResealerIsReady next wraps
    ready_at true off = subst (λ (r : Resealer). ResealerIsReady r wraps) (sym (stays ready.session.session ready.session.stands off)) ready
    ready_at false on =
        ready_then opened opening old next ready.session.session ready.session.stands on piece before after unasked unwritten saying wraps
        (ready.drawn ready.session.session ready.session.stands on) result (steps ready.session.session ready.session.stands on)

-- ---- a step

module _ {A : Type 0} (opened : A → ManagerNow) (before after : A) (old next : Resealer) (v : ResealingValue) (stands : Stands old v) (going : v.stopped ≡ false)
    (rest : List ℕ) (some : 1 ≤ length rest) (put more : SinkState) (unasked unwritten : Type 0) (saying : Saying) (n : ℕ) where
  fed_none : FedTo opened 0 v.opening [] [] before before old.opener
  fed_none =
      (whole_none opened (λ (a b : Unit {0}) (bytes : List ℕ). Unit {0}) 0 v.opening before tt old.opener
      (stands_goes old.opener v.opening stands.opener (stands.going going).on) stands.opener (λ r. tt)).fed

  some_by : (answer : Result ℕ OpenError) (s : OpenerSteps (opened before) (opened after) 0 v.opening rest answer next.opener)
      → SealsAfter saying 0 v (opening_stepped v.opening rest s.heard answer) answer put more unasked unwritten (Ok n) next → 1 ≤ n
  unfolding fed_none
  some_by (Ok used) s (used_is, on) =
      let is = step_fed opened 0 v.opening [] [] before before after old.opener next.opener rest fed_none used s some in
      omega (arith, used_is, is.some)
  some_by (Err why) s not = absurd (let no = not.named in cc)

  -- some bytes were used
  pub used_some : ResealerSteps (opened before) (opened after) saying 0 v rest put more unasked unwritten (Ok n) next → 1 ≤ n
  used_some s = some_by s.answer s.opens s.seals

-- so of any that has a session
pub step_used : {A : Type 0} (opened : A → ManagerNow) (before after : A) (old next : Resealer) (has : ResealerHasSession old) (rest : List ℕ) (some : 1 ≤ length rest)
    (put more : SinkState) (unasked unwritten : Type 0) (saying : Saying) (n : ℕ)
    → ((v : ResealingValue) → Stands old v → v.stopped ≡ false → ResealerSteps (opened before) (opened after) saying 0 v rest put more unasked unwritten (Ok n) next)
    → ((v : ResealingValue) → Stands old v → v.stopped ≡ true → (⊥)) → 1 ≤ n
step_used opened before after old next has rest some put more unasked unwritten saying n steps never = used_at has.session.stopped refl
  where
    used_at : (b : Bool) → has.session.stopped ≡ b → 1 ≤ n
    used_at true off = absurd (never has.session has.stands off)
    used_at false on = used_some opened before after old next has.session has.stands on rest some put more unasked unwritten saying n (steps has.session has.stands on)

-- an answer isn't that it stopped
pub not_stopped : (n : ℕ) → Ok n ≡ Err errors.Stopped → ⊥
not_stopped n e = cc

-- these bytes came, of an input that tells no others
pub all_came : (bytes : List ℕ) → Came (came_so_far []) (came_so_far bytes) bytes
all_came bytes = record { told = refl; consumed = tt; given = omega arith; most = omega arith }

-- What an error is called, by `reseal` and here.
record IsNamed (error : ResealError) : Type 0 where
  named : InputError
  called : ResealErrorIsCalled error named
  is : unresealed_as error ≡ reseal_reason named

named_as : (error : ResealError) → (error ≡ errors.Stopped → ⊥) → IsNamed error
named_as (errors.Fault fault) on = record { named = inputs.Fault fault; called = refl; is = refl }
named_as (errors.Refusal refusal) on = record { named = inputs.Refusal refusal; called = refl; is = refl }
named_as errors.KeyringFault on = record { named = inputs.Outside outsides.KeyringFault; called = refl; is = refl }
named_as errors.SinkFault on = record { named = inputs.Outside outsides.SinkFault; called = refl; is = refl }
named_as errors.Memory on = record { named = inputs.Memory; called = refl; is = refl }
named_as errors.Stopped on = absurd (on refl)

module _ {A B : Type 0} (opened : A → ManagerNow) (sealed : B → ManagerNow) (how : HowResealed) (begun old new : A) (first before after : B)
    (taken given : List ℕ) (tray filled : Tray) (resealer next : Resealer)
    (so : ResealsSoFar opened sealed how begun old first before resealer taken (given ++ tray.waiting)) (none : tray.faults ≡ 0)
    (left : List ℕ) (some : 1 ≤ length left) (stays : asked_header so.fed.session left ≡ None → new ≡ old) where
  abbrev v : ResealingValue
  v = gone_on (new_resealing_session how.settings how.pairs how.size how.random) so.fed.session so.materials

  abbrev Steps : SinkState → SinkState → Result ℕ ResealError → Type 0
  Steps put more result =
      ResealerSteps (opened old) (opened new) (said_last (sealed before) (sealed after)) 0 v left put more (after ≡ before) (filled ≡ tray) result next

  abbrev all : SinkState
  all = put_so_far 0 (given ++ tray.waiting)

  abbrev more : SinkState
  more = put_so_far filled.faults (given ++ filled.waiting)

  all_steps : (result : Result ℕ ResealError) → Steps (put_so_far tray.faults tray.waiting) (put_so_far filled.faults filled.waiting) result → Steps all more result
  all_steps result s =
      subst (λ (f : ℕ). Steps (put_so_far f (given ++ tray.waiting)) more result) none
      (steps_behind given tray.waiting filled.waiting tray.faults filled.faults (opened old) (opened new) (said_last (sealed before) (sealed after)) 0 v left
      (after ≡ before) (filled ≡ tray) result next s)

  -- the bytes that were used were fed too
  pub step_on : (n : ℕ) → Steps (put_so_far tray.faults tray.waiting) (put_so_far filled.faults filled.waiting) (Ok n)
      → ResealsSoFar opened sealed how begun new first after next (taken ++ take n left) (given ++ filled.waiting)
  step_on n s =
      let well : filled.faults ≡ 0 =
      steps_well given tray.waiting filled.waiting tray.faults filled.faults (opened old) (opened new) (said_last (sealed before) (sealed after)) 0 v left
      (after ≡ before) (filled ≡ tray) n next s ∙ none in
      subst (λ (f : ℕ). Reached opened sealed 0 (new_resealing_session how.settings how.pairs how.size how.random) (taken ++ take n left) begun new first after
      (put_so_far 0 []) (put_so_far f (given ++ filled.waiting)) next) well
      (steps_fed opened sealed 0 how.settings how.pairs how.size how.random taken begun old first before (put_so_far 0 []) all resealer so left new after more next
      (filled ≡ tray) some stays n (all_steps (Ok n) s)).reached

  -- or the message ends, for this reason
  pub step_not : length left ≤ 65536 → (error : ResealError)
      → Steps (put_so_far tray.faults tray.waiting) (put_so_far filled.faults filled.waiting) (Err error)
      → ResealEndsFor (how_asked how (opened begun) (opened new) (sealed first) (sealed after)) how.random (taken ++ left) (given ++ filled.waiting) (unresealed_as error)
  step_not few error s =
      let on : error ≡ errors.Stopped → ⊥ = λ is.
      unstopped opened sealed 0 how.settings how.pairs how.size how.random taken begun old first before (put_so_far 0 []) all resealer so left new after more next
      (filled ≡ tray) some stays (subst (λ (e : ResealError). Steps all more (Err e)) is (all_steps (Err error) s)) in
      let kept : filled ≡ tray → more ≡ all = λ same.
      ap (λ (t : Tray). put_so_far t.faults (given ++ t.waiting)) same ∙ ap (λ (f : ℕ). put_so_far f (given ++ tray.waiting)) none in
      let called = named_as error on in
      record {
        error = called.named;
        named = called.is;
        failed = filled.faults;
        ends = step_ends opened sealed 0 how.settings how.pairs how.size how.random taken begun old first before (put_so_far 0 []) all resealer so left new after more next
            (filled ≡ tray) some stays kept (came_so_far []) (came_so_far (taken ++ left)) (all_came (taken ++ left)) refl few error called.named
            (all_steps (Err error) s) called.called;
      }

-- ---- the end

module _ {A B : Type 0} (opened : A → ManagerNow) (sealed : B → ManagerNow) (how : HowResealed) (begun opening : A) (first sealing : B)
    (taken given waiting waits : List ℕ) (f g : ℕ) (resealer : Resealer)
    (so : ResealsSoFar opened sealed how begun opening first sealing resealer taken (given ++ waiting)) where
  abbrev w : OpeningValue
  w = so.fed.session

  abbrev last : ResealingValue
  last = gone_on (new_resealing_session how.settings how.pairs how.size how.random) w so.materials

  abbrev asked : Resealing
  asked = how_asked how (opened begun) (opened opening) (sealed first) (sealed sealing)

  abbrev text : List ℕ
  text = content (judged_now w)

  made : (m : EncMaterialsValue) → so.materials ≡ Some m → AreMade (said_last (sealed first) (sealed sealing)) 0 how.random w.answer m
  made m e = subst (λ (x : Option EncMaterialsValue). IsMade (said_last (sealed first) (sealed sealing)) 0 how.random w.answer (sealing ≡ first) x) e so.made

  same_now : judged taken how.settings (answer opened sealed 0 how.settings how.pairs how.size how.random taken begun opening first sealing (put_so_far 0 []) (put_so_far 0 (given ++ waiting)) resealer so) ≡ judged_now w
  same_now = same opened sealed 0 how.settings how.pairs how.size how.random taken begun opening first sealing (put_so_far 0 []) (put_so_far 0 (given ++ waiting)) resealer so

  -- the old message is whole, and these bytes are the new one
  whole_with : (m : EncMaterialsValue) → so.materials ≡ Some m → (judged_now w).verdict ≡ Whole → (put : List ℕ)
      → put ≡ message_of m how.size (drawn_id how.random) text → ResealsWhole asked how.random taken put
  whole_with m e whole put is =
      let mine = made m e in
      let kept : Unlocking = Unlocks mine.whole mine.only mine.key in
      let answer_is =
      answer_kept_is opened sealed 0 how.settings how.pairs how.size how.random taken begun opening first sealing (put_so_far 0 []) (put_so_far 0 (given ++ waiting)) resealer so kept mine.answer_is in
      let judged_is : judged taken how.settings kept ≡ judged_now w = ap (judged taken how.settings) (sym answer_is) ∙ same_now in
      record {
        whole = mine.whole;
        only = mine.only;
        key = mine.key;
        answered = subst (λ (x : Unlocking). AnswersTo (answering_of (opened begun) (opened opening) 0) how.settings how.pairs taken x) answer_is
            (answers opened sealed 0 how.settings how.pairs how.size how.random taken begun opening first sealing (put_so_far 0 []) (put_so_far 0 (given ++ waiting)) resealer so);
        verdict = ap (λ (j : Judged). j.verdict) judged_is ∙ whole;
        materials = m;
        has = record { given = mine.given.given; sound = mine.given.sound; begins = mine.given.begins };
        room = rw (ap content judged_is)
            (has_room opened sealed 0 how.settings how.pairs how.size how.random taken begun opening first sealing (put_so_far 0 []) (put_so_far 0 (given ++ waiting)) resealer so m e);
        all = is ∙ ap (λ (j : Judged). message_of m how.size (drawn_id how.random) (content j)) (sym judged_is);
      }

  -- what was put is all of the new message but the final frame
  put_is : (m : EncMaterialsValue) → so.materials ≡ Some m → given ++ waiting ≡ front_of (Some m) how.size how.random text
  put_is m e =
      (has_gained opened sealed 0 how.settings how.pairs how.size how.random taken begun opening first sealing (put_so_far 0 []) (put_so_far 0 (given ++ waiting)) resealer so m e).gained

  -- a front of the final frame behind it, and the rest
  cut_there : (front back final written message : List ℕ) → waits ≡ waiting ++ front → front ++ back ≡ final → given ++ waiting ≡ written → message ≡ written ++ final
      → (given ++ waits) ++ back ≡ message
  cut_there front back final written message put cut before all =
      ap (λ (b : List ℕ). (given ++ b) ++ back) put
      ∙ ap (λ (b : List ℕ). b ++ back) (sym (append_assoc given waiting front))
      ∙ append_assoc (given ++ waiting) front back
      ∙ (λ i. before i ++ cut i)
      ∙ sym all

  pub finish_whole : (unwritten : Type 0) → ResealerFinishes last (put_so_far f waiting) (put_so_far g waits) unwritten (Ok tt)
      → ResealsEnd {T = Unit {0}} asked how.random taken (given ++ waits) (Ok tt)
  finish_whole unwritten (whole, (m, e, gains)) =
      whole_with m e whole (given ++ waits)
      (sym (append-nil (given ++ waits)) ∙ cut_there gains.given [] gains.given _ _ gains.taken.gained (append-nil gains.given) (put_is m e) gains.between)

  wants_more : (verdict : Verdict) (fault : Fault) → is_faulty verdict ≡ false → (judged_now w).verdict ≡ verdict → end_of_verdict verdict ≡ Err (opens.Fault fault)
      → waits ≡ waiting → ResealsEnd {T = Unit {0}} asked how.random taken (given ++ waits) (Err (reasons.Fault fault))
  wants_more Going fault sound is e kept =
      let same_fault : fault ≡ Truncated = cc in
      subst (λ (x : Fault). ResealsEnd {T = Unit {0}} asked how.random taken (given ++ waits) (Err (reasons.Fault x))) (sym same_fault)
      (subst (λ (b : List ℕ). ResealWantsMore asked how.random taken (given ++ b)) (sym kept) (record {
        answer = answer opened sealed 0 how.settings how.pairs how.size how.random taken begun opening first sealing (put_so_far 0 []) (put_so_far 0 (given ++ waiting)) resealer so;
        passes = passes opened sealed 0 how.settings how.pairs how.size how.random taken begun opening first sealing (put_so_far 0 []) (put_so_far 0 (given ++ waiting)) resealer so
            (came_so_far []) (came_so_far taken) (all_came taken);
        going = ap (λ (j : Judged). j.verdict) same_now ∙ is;
      }))
  wants_more Whole fault sound is e kept = absurd (let wrong : Ok tt ≡ Err (opens.Fault fault) = e in cc)
  wants_more (Faulty other) fault sound is e kept = absurd (let wrong : true ≡ false = sound in cc)

  pub finish_not : (unwritten : Type 0) → (unwritten → waits ≡ waiting) → (error : ResealError) → ResealerFinishes last (put_so_far f waiting) (put_so_far g waits) unwritten (Err error)
      → ResealsEnd {T = Unit {0}} asked how.random taken (given ++ waits) (Err (unresealed_as error))
  finish_not unwritten kept (errors.Fault fault) (answered, un) =
      wants_more (judged_now w).verdict fault so.fed.feeds.goes.sound refl (sym (ends_so w so.fed.feeds.goes) ∙ answered) (kept un)
  finish_not unwritten kept errors.SinkFault (whole, (m, e, failed)) =
      let n = failed.failed.front.0 in (
        drop n failed.given,
        whole_with m e whole ((given ++ waits) ++ drop n failed.given)
            (cut_there (take n failed.given) (drop n failed.given) failed.given _ _ failed.failed.front.1 (take-append-drop n failed.given) (put_is m e) failed.between),
      )
  finish_not unwritten kept (errors.Refusal refusal) (whole, (m, e, never)) = absurd never
  finish_not unwritten kept errors.KeyringFault (whole, (m, e, never)) = absurd never
  finish_not unwritten kept errors.Stopped (whole, (m, e, never)) = absurd never
  finish_not unwritten kept errors.Memory (whole, (m, e, never)) = absurd never

-- ---- the beginning

pub reseals_none : {A B : Type 0} (opened : A → ManagerNow) (sealed : B → ManagerNow) (settings : Settings) (pairs : List KeyValue) (size : ℕ) (random : List ℕ) (opening : A) (sealing : B)
    (resealer : Resealer) (wraps : ℕ) → Stands resealer (new_resealing_session settings pairs size random) → wraps ≡ (sealed sealing).meaning.wraps
    → Went (opened opening) (opened opening) → Went (sealed sealing) (sealed sealing)
    → SessionReseals opened sealed (record { settings = settings; pairs = pairs; size = size; random = random }) opening opening sealing sealing (resealer, wraps) [] []
reseals_none opened sealed settings pairs size random opening sealing resealer wraps stands wraps_is opened_stays sealed_stays = record {
  so_far = reached_none opened sealed 0 settings pairs size random opening sealing (put_so_far 0 []) resealer stands;
  wraps = wraps_is;
  opened_went = opened_stays;
  sealed_went = sealed_stays;
}

-- ---- what is stepped through of a piece

module _ (piece : List ℕ) (fed room : ℕ) (some : fed < length piece) (most : room ≤ length piece - fed) where
  pub rest_long : length (take room (drop fed piece)) ≡ room
  rest_long = length-take-le room (drop fed piece) (omega (arith, most, length-drop fed piece))

  -- so many bytes more
  pub more_taken : (bytes : List ℕ) (n : ℕ) → n ≤ room → (bytes ++ take fed piece) ++ take n (take room (drop fed piece)) ≡ bytes ++ take (fed + n) piece
  more_taken bytes n le =
      append_assoc bytes (take fed piece) (take n (take room (drop fed piece)))
      ∙ ap (λ (b : List ℕ). bytes ++ (take fed piece ++ b))
      (sym (take-append-le n (take room (drop fed piece)) (drop room (drop fed piece)) (omega (arith, le, rest_long))) ∙ ap (take n) (take-append-drop room (drop fed piece)))
      ∙ ap (λ (b : List ℕ). bytes ++ b) (sym (take-add fed n piece))

  pub all_taken : (bytes : List ℕ) → (bytes ++ take fed piece) ++ take room (drop fed piece) ≡ bytes ++ take (fed + room) piece
  all_taken bytes =
      append_assoc bytes (take fed piece) (take room (drop fed piece)) ∙ ap (λ (b : List ℕ). bytes ++ b) (sym (take-add fed room piece))

-- ---- what taking a piece comes to

pub piece_as : {A B : Type 0} (opened : A → ManagerNow) (sealed : B → ManagerNow) (how : HowResealed) (begun old new : A) (first before after : B) (taken piece given waiting waits : List ℕ)
    (resealer next : Resealer) (wraps : ℕ) → SessionReseals opened sealed how begun old first before (resealer, wraps) taken (given ++ waiting)
    → Went (opened old) (opened new) → Went (sealed before) (sealed after) → (r : Result (Unit {0}) Reason)
    → OnOk r (ResealsSoFar opened sealed how begun new first after next (taken ++ piece) (given ++ waits))
    → IfErr r (ResealsNoMore (how_asked how (opened begun) (opened new) (sealed first) (sealed after)) how.random taken piece (given ++ waits))
    → SessionResealsPiece opened sealed how begun new first after (next, wraps) taken piece (given ++ waits) r
piece_as opened sealed how begun old new first before after taken piece given waiting waits resealer next wraps so opened_goes sealed_goes (Ok done) on not = record {
  so_far = on;
  wraps = so.wraps ∙ sym sealed_goes.goes.wraps;
  opened_went = went_on (opened begun) (opened old) (opened new) so.opened_went opened_goes;
  sealed_went = went_on (sealed first) (sealed before) (sealed after) so.sealed_went sealed_goes;
}
piece_as opened sealed how begun old new first before after taken piece given waiting waits resealer next wraps so opened_goes sealed_goes (Err reason) on not = not

pub same_some : {B : Type 0} (x y : B) → Some x ≡ Some y → x ≡ y
same_some x y e = cc
