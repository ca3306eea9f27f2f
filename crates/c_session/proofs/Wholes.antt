-- The rest of a message at once: a piece, and then the end.
use Rattle.std.proofs.Common.{◌≡◌, ◌∙◌, ℕ, List, ◌++◌, true, false, Some, refl}
use Rattle.std.specs.Prelude.{Bool}
use mathlib.Core.Logic.{inl, inr}
use Rattle.context_codec.specs.Context.{KeyValue}
use Rattle.header_codec.specs.declared.settings.Settings.{Settings}
use Rattle.keyring_trait.specs.Manager.{ManagerNow}
use Rattle.stream_seal.specs.Feeding.{fed}
use Rattle.stream_seal.specs.Laws.{IsSameMessage}
use Rattle.stream_seal.specs.Session.{SealingValue}
use Rattle.stream_seal.specs.Start.{message_of}
use Rattle.c_session.specs.declared.answer.Answer.{Answer}
use Rattle.c_session.specs.declared.answer.Answer.TheVariants as answers
use Rattle.c_session.specs.declared.machine.Machine.{Machine}
use Rattle.c_session.specs.declared.machine.Machine.TheVariants as machines
use Rattle.c_session.specs.declared.session.Session.{Session}
use Rattle.c_session.specs.Resealing.{HowResealed}
use Rattle.c_session.specs.Session.{SessionEnds, EndsWith, SessionFeeds, OpensLast, OpensMore, OpensRest, ResealsLast, ResealsMore, ResealsRest, SealsLast, SealsMore, SealsRest, going_by}

-- ---- the piece wasn't taken

seals_not : {M : Type 0} (new : Session M) (v : SealingValue) (rest given : List ℕ) (answer : Answer)
    → (answer ≡ answers.Done → ⊥) → SealsMore new v rest given answer → SealsRest new v rest given answer
seals_not new v rest given answers.Done undone more = absurd (undone refl)
seals_not new v rest given answers.Failed undone more = (more.0, (more.1.0, more.1.1, inl more.1.2))
seals_not new v rest given answers.NotNow undone more = absurd more
seals_not new v rest given answers.Ended undone more = absurd more
seals_not new v rest given answers.NotText undone more = absurd more
seals_not new v rest given answers.BadFrame undone more = absurd more
seals_not new v rest given answers.BadRandom undone more = absurd more

opens_not : {M : Type 0} (state : M → ManagerNow) (new : Session M) (begun : M × List (List ℕ)) (settings : Settings)
    (pairs : List KeyValue) (taken rest given : List ℕ) (answer : Answer)
    → (answer ≡ answers.Done → ⊥) → OpensMore state new begun settings pairs taken rest given answer
    → OpensRest state new begun settings pairs taken rest given answer
opens_not state new begun settings pairs taken rest given answers.Done undone more = absurd (undone refl)
opens_not state new begun settings pairs taken rest given answers.Failed undone more = (more.0, (more.1.0, more.1.1, inl more.1.2))
opens_not state new begun settings pairs taken rest given answers.NotNow undone more = absurd more
opens_not state new begun settings pairs taken rest given answers.Ended undone more = absurd more
opens_not state new begun settings pairs taken rest given answers.NotText undone more = absurd more
opens_not state new begun settings pairs taken rest given answers.BadFrame undone more = absurd more
opens_not state new begun settings pairs taken rest given answers.BadRandom undone more = absurd more

reseals_not : {M : Type 0} (state : M → ManagerNow) (new : Session M) (how : HowResealed) (begun : M × List (List ℕ)) (first : M) (taken rest given : List ℕ) (answer : Answer)
    → (answer ≡ answers.Done → ⊥) → ResealsMore state new how begun first taken rest given answer → ResealsRest state new how begun first taken rest given answer
reseals_not state new how begun first taken rest given answers.Done undone more = absurd (undone refl)
reseals_not state new how begun first taken rest given answers.Failed undone more = (more.0, (more.1.0, more.1.1, (more.1.2.0, more.1.2.1, inl more.1.2.2)))
reseals_not state new how begun first taken rest given answers.NotNow undone more = absurd more
reseals_not state new how begun first taken rest given answers.Ended undone more = absurd more
reseals_not state new how begun first taken rest given answers.NotText undone more = absurd more
reseals_not state new how begun first taken rest given answers.BadFrame undone more = absurd more
reseals_not state new how begun first taken rest given answers.BadRandom undone more = absurd more

pub not_fed : {M : Type 0} (state : M → ManagerNow) (old new : Session M) (rest : List ℕ) (answer : Answer)
    → (answer ≡ answers.Done → ⊥) → SessionFeeds state old new rest answer → EndsWith state old new rest answer
not_fed state old new rest answer undone fed_so = record {
  seals = λ v given now. seals_not new v rest given answer undone (fed_so.seals v given now);
  opens = λ begun settings pairs taken given now.
      opens_not state new begun settings pairs taken rest given answer undone (fed_so.opens begun settings pairs taken given now);
  reseals = λ how begun first taken given now.
      reseals_not state new how begun first taken rest given answer undone (fed_so.reseals how begun first taken given now);
  refused = fed_so.refused;
}

-- ---- it was, and then the message was ended

seals_rest : {M : Type 0} (new : Session M) (v : SealingValue) (rest given : List ℕ) (answer : Answer)
    → IsSameMessage v (fed v rest) → (fed v rest).taken ≡ v.taken ++ rest
    → SealsLast new (fed v rest) given answer → SealsRest new v rest given answer
seals_rest new v rest given answers.Done same taken last =
    (last.0, last.1 ∙ (λ i. message_of (same.materials i) (same.size i) (same.id i) (taken i)))
seals_rest new v rest given answers.Failed same taken last = (last.0, (last.1.0, last.1.1, inr last.1.2))
seals_rest new v rest given answers.NotNow same taken last = absurd last
seals_rest new v rest given answers.Ended same taken last = absurd last
seals_rest new v rest given answers.NotText same taken last = absurd last
seals_rest new v rest given answers.BadFrame same taken last = absurd last
seals_rest new v rest given answers.BadRandom same taken last = absurd last

opens_rest : {M : Type 0} (state : M → ManagerNow) (new : Session M) (begun : M × List (List ℕ)) (settings : Settings)
    (pairs : List KeyValue) (taken rest given : List ℕ) (answer : Answer)
    → OpensLast state new begun settings pairs (taken ++ rest) given answer
    → OpensRest state new begun settings pairs taken rest given answer
opens_rest state new begun settings pairs taken rest given answers.Done last = last
opens_rest state new begun settings pairs taken rest given answers.Failed last = (last.0, (last.1.0, last.1.1, inr last.1.2))
opens_rest state new begun settings pairs taken rest given answers.NotNow last = absurd last
opens_rest state new begun settings pairs taken rest given answers.Ended last = absurd last
opens_rest state new begun settings pairs taken rest given answers.NotText last = absurd last
opens_rest state new begun settings pairs taken rest given answers.BadFrame last = absurd last
opens_rest state new begun settings pairs taken rest given answers.BadRandom last = absurd last

reseals_rest : {M : Type 0} (state : M → ManagerNow) (new : Session M) (how : HowResealed) (begun : M × List (List ℕ)) (first : M) (taken rest given : List ℕ) (answer : Answer)
    → ResealsLast state new how begun first (taken ++ rest) given answer → ResealsRest state new how begun first taken rest given answer
reseals_rest state new how begun first taken rest given answers.Done last = last
reseals_rest state new how begun first taken rest given answers.Failed last = (last.0, (last.1.0, last.1.1, (last.1.2.0, last.1.2.1, inr last.1.2.2)))
reseals_rest state new how begun first taken rest given answers.NotNow last = absurd last
reseals_rest state new how begun first taken rest given answers.Ended last = absurd last
reseals_rest state new how begun first taken rest given answers.NotText last = absurd last
reseals_rest state new how begun first taken rest given answers.BadFrame last = absurd last
reseals_rest state new how begun first taken rest given answers.BadRandom last = absurd last

-- no call is done that doesn't fit
never_done : (ended : Bool) (machine : Machine) (a : Answer) → going_by ended machine ≡ Some a → answers.Done ≡ a → ⊥
never_done true machine a is done = cc
never_done false machines.SetUp a is done = cc
never_done false (machines.Sealing sealer) a is done = cc
never_done false (machines.Opening opener) a is done = cc
never_done false (machines.Resealing resealer) a is done = cc

pub ends_with : {M : Type 0} (state : M → ManagerNow) (old middle new : Session M) (rest : List ℕ) (answer : Answer)
    → SessionFeeds state old middle rest answers.Done → SessionEnds state middle new answer → EndsWith state old new rest answer
ends_with state old middle new rest answer fed_so ends = record {
  seals = λ v given now.
      let more = fed_so.seals v given now in
      seals_rest new v rest given answer more.same more.taken (ends.seals (fed v rest) given more.seals);
  opens = λ begun settings pairs taken given now.
      opens_rest state new begun settings pairs taken rest given answer
      (ends.opens begun settings pairs (taken ++ rest) given (fed_so.opens begun settings pairs taken given now));
  reseals = λ how begun first taken given now.
      reseals_rest state new how begun first taken rest given answer
      (ends.reseals how begun first (taken ++ rest) given (fed_so.reseals how begun first taken given now));
  refused = λ a is. absurd (never_done old.ended old.machine a is (fed_so.refused a is).0);
}
