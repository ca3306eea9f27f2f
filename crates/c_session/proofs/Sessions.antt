-- What the calls of a session come to, from what its machine does.
use Rattle.std.proofs.Common.{◌≡◌, ◌∙◌, ℕ, List, ◌++◌, take, drop, true, false, Option, Some, None, Result, Ok, Err, refl, sym, ap, subst, append_assoc}
use Rattle.std.proofs.lemmas.List.{take-append-drop}
use Rattle.context_codec.specs.Context.{KeyValue}
use Rattle.header_codec.specs.declared.settings.Settings.{Settings}
use Rattle.keyring_trait.specs.Manager.{ManagerNow}
use Rattle.stream_open.specs.Receiving.{FedTo}
use Rattle.stream_open.specs.Session.{judged_now, new_opening_session}
use Rattle.message_format.specs.Judgement.{content}
use Rattle.stream_seal.specs.Feeding.{given_so_far}
use Rattle.stream_seal.specs.Session.{SealingValue}
use Rattle.c_session.specs.declared.answer.Answer.{Answer}
use Rattle.c_session.specs.declared.answer.Answer.TheVariants as answers
use Rattle.c_session.specs.declared.machine.Machine.{Machine}
use Rattle.c_session.specs.declared.reason.Reason.{Reason}
use Rattle.c_session.specs.declared.session.Session.{Session}
use Rattle.c_session.specs.Machine.{EndsMachine, SessionFeedsMachine, SessionFeedsOpening, SessionFeedsResealing, SessionFeedsSealing}
use Rattle.c_session.specs.Opening.{OpensEnd}
use Rattle.c_session.specs.Resealing.{HowResealed, ResealsEnd, SessionReseals, how_asked}
use Rattle.c_session.specs.Sealing.{SealsEnd}
use Rattle.c_session.specs.Session.{BeginsSealing, SessionEnds, SessionFeeds, HandsOutOf, OpensLast, OpensMore, OpensNow, ResealsLast, ResealsMore, ResealsNow, SealsBy, SealsLast, SealsMore, SealsNow, asked, going_answer, session_request, setting_answer, settled_session, settled_answer, with_its_keys}
use Rattle.session_parts.specs.Waiting.{HandsOut}

pub none_of : (o : Option Answer) → ((a : Answer) → o ≡ Some a → ⊥) → o ≡ None
none_of None no_answer = refl
none_of (Some a) no_answer = absurd (no_answer a refl)

-- ---- a piece

module _ {M : Type 0} (state : M → ManagerNow) (base : Session M) (on : base.ended ≡ false) where
  seals_more : (v : SealingValue) (piece given : List ℕ) (result : Result (Unit {0}) Reason)
      → SessionFeedsSealing base.machine v piece given base.waiting result
      → SealsMore (settled_session base result) v piece given (settled_answer result)
  seals_more v piece given (Ok done) fed = record {
    same = fed.seals.same;
    taken = fed.seals.taken;
    seals = record { on = on; sealer = fed.sealer; machine = fed.machine; seals = fed.seals.seals };
  }
  seals_more v piece given (Err reason) fed = (refl, (reason, refl, (fed.sealer, fed.seals)))

  opens_more : (begun : M × List (List ℕ)) (settings : Settings) (pairs : List KeyValue)
      (taken piece given : List ℕ) (result : Result (Unit {0}) Reason)
      → SessionFeedsOpening (asked state) begun base.manager base.machine base.waiting settings pairs taken piece given result
      → OpensMore state (settled_session base result) begun settings pairs taken piece given (settled_answer result)
  opens_more begun settings pairs taken piece given (Ok done) fed =
      record { on = on; opener = fed.opener; machine = fed.machine; opens = fed.opens }
  opens_more begun settings pairs taken piece given (Err reason) fed =
      (refl, (reason, refl, (fed.opener, fed.opens)))

  reseals_more : (how : HowResealed) (begun : M × List (List ℕ)) (first : M) (taken piece given : List ℕ) (result : Result (Unit {0}) Reason)
      → SessionFeedsResealing (asked state) state how begun base.manager first base.sealing base.machine taken piece (given ++ base.waiting) result
      → ResealsMore state (settled_session base result) how begun first taken piece given (settled_answer result)
  reseals_more how begun first taken piece given (Ok done) fed = record {
    on = on;
    resealer = fed.resealer;
    machine = fed.machine;
    sealing = fed.reseals.sealing;
    is_there = fed.reseals.is_there;
    reseals = fed.reseals.comes;
  }
  reseals_more how begun first taken piece given (Err reason) fed =
      (refl, (reason, refl, (fed.reseals.sealing, fed.reseals.is_there, fed.reseals.comes)))

-- the machine of a session was fed
pub fed_so : {M : Type 0} (state : M → ManagerNow) (old base : Session M) (piece : List ℕ)
    (result : Result (Unit {0}) Reason) → base.ended ≡ old.ended
    → SessionFeedsMachine (asked state) state old.machine base.machine old.manager base.manager old.sealing base.sealing old.waiting base.waiting piece result
    → ((a : Answer) → going_answer old ≡ Some a → ⊥)
    → SessionFeeds state old (settled_session base result) piece (settled_answer result)
fed_so {M} state old base piece result same fed goes = record {
  seals = λ v given now.
      seals_more state base (same ∙ now.on) v piece given result
      (subst
      (λ (m : Machine). SessionFeedsMachine (asked state) state m base.machine old.manager base.manager old.sealing base.sealing old.waiting base.waiting piece result)
      now.machine fed v given now.seals);
  opens = λ begun settings pairs taken given now.
      opens_more state base (same ∙ now.on) begun settings pairs taken piece given result
      (subst
      (λ (m : Machine). SessionFeedsMachine (asked state) state m base.machine old.manager base.manager old.sealing base.sealing old.waiting base.waiting piece result)
      now.machine fed begun settings pairs taken given now.opens);
  reseals = λ how begun first taken given now.
      reseals_more state base (same ∙ now.on) how begun first taken piece given result
      (subst
      (λ (m : Machine). SessionFeedsMachine (asked state) state m base.machine old.manager base.manager old.sealing base.sealing old.waiting base.waiting piece result)
      now.machine fed how begun first now.sealing taken given now.is_there now.reseals);
  refused = λ a is. absurd (goes a is);
}

-- ---- the end

module _ {M : Type 0} (state : M → ManagerNow) (base : Session M) (off : base.ended ≡ true) where
  seals_last : (v : SealingValue) (given : List ℕ) (result : Result (Unit {0}) Reason)
      → SealsEnd v given base.waiting result
      → SealsLast (settled_session base result) v given (settled_answer result)
  seals_last v given (Ok done) ends = (off, ends)
  seals_last v given (Err reason) ends = (refl, (reason, refl, ends))

  opens_last : (begun : M × List (List ℕ)) (settings : Settings) (pairs : List KeyValue)
      (taken given : List ℕ) (result : Result (Unit {0}) Reason)
      → OpensEnd (asked state) begun base.manager base.waiting settings pairs taken given result
      → OpensLast state (settled_session base result) begun settings pairs taken given (settled_answer result)
  opens_last begun settings pairs taken given (Ok done) ends = (off, ends)
  opens_last begun settings pairs taken given (Err reason) ends = (refl, (reason, refl, ends))

  reseals_last : (how : HowResealed) (begun : M × List (List ℕ)) (first sealing : M) (taken given : List ℕ) (result : Result (Unit {0}) Reason) → base.sealing ≡ Some sealing
      → ResealsEnd (how_asked how (asked state begun) (asked state base.manager) (state first) (state sealing)) how.random taken (given ++ base.waiting) result
      → ResealsLast state (settled_session base result) how begun first taken given (settled_answer result)
  reseals_last how begun first sealing taken given (Ok done) there ends = (off, (sealing, there, ends))
  reseals_last how begun first sealing taken given (Err reason) there ends = (refl, (reason, refl, (sealing, there, ends)))

-- the machine of a session was ended
pub ended_so : {M : Type 0} (state : M → ManagerNow) (old base : Session M)
    (result : Result (Unit {0}) Reason) → base.ended ≡ true → base.manager ≡ old.manager → base.sealing ≡ old.sealing
    → EndsMachine (asked state) state old.machine base.machine old.manager old.sealing old.waiting base.waiting result
    → ((a : Answer) → going_answer old ≡ Some a → ⊥)
    → SessionEnds state old (settled_session base result) (settled_answer result)
ended_so {M} state old base result off same there ends goes = record {
  seals = λ v given now.
      seals_last state base off v given result
      (subst
      (λ (m : Machine). EndsMachine (asked state) state m base.machine old.manager old.sealing old.waiting base.waiting result)
      now.machine ends v given now.seals);
  opens = λ begun settings pairs taken given now.
      opens_last state base off begun settings pairs taken given result
      (subst
      (λ (m : M × List (List ℕ)). OpensEnd (asked state) begun m base.waiting settings pairs taken given result)
      (sym same)
      (subst
      (λ (m : Machine). EndsMachine (asked state) state m base.machine old.manager old.sealing old.waiting base.waiting result)
      now.machine ends begun settings pairs taken given now.opens));
  reseals = λ how begun first taken given now.
      reseals_last state base off how begun first now.sealing taken given result (there ∙ now.is_there)
      (subst
      (λ (m : M × List (List ℕ)). ResealsEnd (how_asked how (asked state begun) (asked state m) (state first) (state now.sealing)) how.random taken (given ++ base.waiting) result)
      (sym same)
      (subst
      (λ (m : Machine). EndsMachine (asked state) state m base.machine old.manager old.sealing old.waiting base.waiting result)
      now.machine ends how begun first now.sealing taken given now.is_there now.reseals));
  refused = λ a is. absurd (goes a is);
}

-- ---- the beginning

pub begins_from : {M : Type 0} (state : M → ManagerNow) (old new : Session M) (size : ℕ)
    (declared max_keys : Option ℕ) (random : List ℕ) (answer : Answer) → setting_answer old ≡ None
    → SealsBy state (with_its_keys old) (session_request old declared) new size max_keys random answer
    → BeginsSealing state old new size declared max_keys random answer
begins_from state old new size declared max_keys random answers.Done none by = (none, by)
begins_from state old new size declared max_keys random answers.Failed none by = (none, by)
begins_from state old new size declared max_keys random answers.NotNow none by = absurd by
begins_from state old new size declared max_keys random answers.Ended none by = absurd by
begins_from state old new size declared max_keys random answers.NotText none by = absurd by
begins_from state old new size declared max_keys random answers.BadFrame none by = absurd by
begins_from state old new size declared max_keys random answers.BadRandom none by = absurd by

-- ---- what waits

-- a front of what waits is given, and the rest waits
moved : (given old new total : List ℕ) (count : ℕ) → new ≡ drop count old → given ++ old ≡ total
    → (given ++ take count old) ++ new ≡ total
moved given old new total count left all =
    ap (λ (b : List ℕ). (given ++ take count old) ++ b) left
    ∙ append_assoc given (take count old) (drop count old)
    ∙ ap (λ (b : List ℕ). given ++ b) (take-append-drop count old) ∙ all

module _ {M : Type 0} (state : M → ManagerNow) (old : Session M) (waiting : List ℕ) (count : ℕ)
    (left : waiting ≡ drop count old.waiting) where
  abbrev after : Session M
  after = record old { waiting = waiting }

  seals_still : (v : SealingValue) (given : List ℕ) → SealsNow old v given
      → SealsNow after v (given ++ take count old.waiting)
  seals_still v given now = record {
    on = now.on;
    sealer = now.sealer;
    machine = now.machine;
    seals = record {
      stands = now.seals.stands;
      fed = now.seals.fed;
      all = moved given old.waiting waiting (given_so_far v) count left now.seals.all;
    };
  }

  opens_still : (begun : M × List (List ℕ)) (settings : Settings) (pairs : List KeyValue)
      (taken given : List ℕ) → OpensNow state old begun settings pairs taken given
      → OpensNow state after begun settings pairs taken (given ++ take count old.waiting)
  opens_still begun settings pairs taken given now =
      let same : given ++ old.waiting ≡ (given ++ take count old.waiting) ++ waiting =
      sym (moved given old.waiting waiting (given ++ old.waiting) count left refl) in
      let both = subst
      (λ (b : List ℕ). (fed : FedTo (asked state) 0 (new_opening_session settings pairs) taken b begun old.manager now.opener)
      × (b ≡ content (judged_now fed.session)))
      same (now.opens.fed, now.opens.all) in
      record {
        on = now.on;
        opener = now.opener;
        machine = now.machine;
        opens = record { fed = both.0; all = both.1; went = now.opens.went };
      }

  reseals_still : (how : HowResealed) (begun : M × List (List ℕ)) (first : M) (taken given : List ℕ) → ResealsNow state old how begun first taken given
      → ResealsNow state after how begun first taken (given ++ take count old.waiting)
  reseals_still how begun first taken given now = record {
    on = now.on;
    resealer = now.resealer;
    machine = now.machine;
    sealing = now.sealing;
    is_there = now.is_there;
    reseals = subst (λ (b : List ℕ). SessionReseals (asked state) state how begun old.manager first now.sealing now.resealer taken b)
        (sym (moved given old.waiting waiting (given ++ old.waiting) count left refl)) now.reseals;
  }

  pub handed_out : (room : List ℕ) (written : List ℕ) → HandsOut old.waiting room count waiting written
      → HandsOutOf state old room count after written
  handed_out room written out = record {
    out = out;
    same = ap (λ (w : List ℕ). record old { waiting = w }) left;
    kept = λ given total all. moved given old.waiting waiting total count left all;
    seals = seals_still;
    opens = opens_still;
    reseals = reseals_still;
  }
