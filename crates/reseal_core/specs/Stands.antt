-- When a resealer stands for a session, and what each call comes to.
use Rattle.std.specs.Prelude.{◌≡◌, ◌⊎◌, ℕ, List, Bool, true, false, is_some}
use Rattle.std.specs.Prelude.{Option, Some, None, Result, Ok, Err, MatchResult}
use Rattle.esdk_base.specs.Streams.{SinkState}
use Rattle.context_codec.specs.Context.{KeyValue}
use Rattle.keyring_trait.specs.Manager.{ManagerNow}
use Rattle.keyring_trait.specs.Materials.{EncMaterialsValue}
use Rattle.keyring_trait.specs.Saying.{Saying}
use Rattle.keyring_trait.specs.Unlocking.{Unlocks}
use Rattle.body_format.specs.declared.verdicts.Verdict.TheVariants.{Whole}
use Rattle.message_format.specs.Judgement.{content}
use Rattle.stream_open.specs.declared.errors.OpenError.{OpenError}
use Rattle.stream_open.specs.declared.errors.OpenError.TheVariants as opens
use Rattle.stream_open.specs.Session.{OpeningValue, opening_finish_answer, judged_now}
use Rattle.stream_open.specs.Session.{opening_stepped}
use Rattle.stream_open.specs.Stands.{Stands as Opens, OpenerSteps as StepsOpener}
use Rattle.esdk_encrypt.specs.Asking.{BearsAsMany, BearsOneMore}
use Rattle.reseal_core.specs.declared.errors.ResealError.{ResealError}
use Rattle.reseal_core.specs.declared.errors.ResealError.TheVariants as errors
use Rattle.reseal_core.specs.declared.new_message.NewMessage.{NewMessage}
use Rattle.reseal_core.specs.declared.resealer.Resealer.{Resealer}
use Rattle.reseal_core.specs.Errors.{open_error_as}
use Rattle.reseal_core.specs.Front.{GainsBeyond, front_of}
use Rattle.reseal_core.specs.NewMessage.{MaterialsAreGiven, FinishesAs, GoesNotOn, NewHeaderFails}
use Rattle.reseal_core.specs.NewMessage.{IsNotBegun, IsWritten}
use Rattle.reseal_core.specs.Session.{HoldsOnly, ResealingValue, front, gone_on}
use Rattle.reseal_core.specs.Session.{stopped_at, text_so_far}

-- The session goes on: so does the opener's, and the new message is begun exactly where the old one
-- is unlocked, and has the text that was released.
pub record ResealerIsGoing (resealer : Resealer) (v : ResealingValue) : Type 0 where
  pub on : v.opening.stopped ≡ false
  pub written : IsWritten resealer.message v.size v.random v.materials (text_so_far v)
  pub unlocked : is_some v.materials ≡ (judged_now v.opening).unlocked
  pub held : HoldsOnly v.opening.answer

-- Its opener stands for the opener's session, and it says as the session whether it is stopped.
pub record Stands (resealer : Resealer) (v : ResealingValue) : Type 0 where
  pub opener : Opens resealer.opener v.opening
  pub stopped : resealer.stopped ≡ v.stopped
  pub going : v.stopped ≡ false → ResealerIsGoing resealer v

-- It stands for a session, as every resealer does.
pub record ResealerHasSession (resealer : Resealer) : Type 0 where
  pub session : ResealingValue
  pub stands : Stands resealer session

-- ---- the new message's materials

-- The old message is unlocked at this point, with this whole context and these pairs that are only
-- authenticated.
pub record OldMessageIsOpen (opening : OpeningValue) (whole only : List KeyValue) : Type 0 where
  pub key : List ℕ
  pub answer : opening.answer ≡ Some (Unlocks whole only key)
  pub unlocked : (judged_now opening).unlocked ≡ true

-- The manager gave these materials for them.
pub record AreGivenAt (saying : Saying) (now : ℕ) (random : List ℕ) (opening : OpeningValue)
    (m : EncMaterialsValue) : Type 0 where
  pub whole : List KeyValue
  pub only : List KeyValue
  pub opened : OldMessageIsOpen opening whole only
  pub given : MaterialsAreGiven saying now random whole only m

-- The materials at this point of the old message: those that were there before, else those that the
-- manager gave, once it is unlocked. `unasked` says that the manager is as before.
abbrev pub AsksFor : Option EncMaterialsValue → Saying → ℕ → List ℕ → OpeningValue → Type 0
    → Option EncMaterialsValue → Type 0
AsksFor (Some m) saying now random opening unasked materials = (materials ≡ Some m) × unasked
AsksFor None saying now random opening unasked None = ((judged_now opening).unlocked ≡ false)
    × unasked
AsksFor None saying now random opening unasked (Some m) = AreGivenAt saying now random opening m

-- what beginning the new message where it is due comes to, at this point of the old one
pub record BeginsWhereDue (m : Option EncMaterialsValue) (saying : Saying) (now size : ℕ)
    (random text : List ℕ) (opening : OpeningValue) (old new : SinkState) (unasked : Type 0)
    (message : NewMessage) : Type 0 where
  pub materials : Option EncMaterialsValue
  pub asks : AsksFor m saying now random opening unasked materials
  pub written : IsWritten message size random materials text
  pub gained : GainsBeyond old new (front_of m size random text)
      (front_of materials size random text)

-- The old message was unlocked, and the new one isn't begun, or its header wasn't put whole.
pub record NewMessageBeginsNot (m : Option EncMaterialsValue) (saying : Saying) (now size : ℕ)
    (random : List ℕ) (opening : OpeningValue) (old new : SinkState) (unwritten : Type 0)
    (error : ResealError) : Type 0 where
  pub none : m ≡ None
  pub whole : List KeyValue
  pub only : List KeyValue
  pub opened : OldMessageIsOpen opening whole only
  pub why : ((error ≡ errors.SinkFault) × NewHeaderFails saying now whole only size random old new)
      ⊎ (IsNotBegun saying now random whole only error × unwritten)

-- ---- what the manager of the new message bears

-- where there were no materials before, one line more at the most, of a text with no declared
-- length; where there were, no line more
abbrev pub BearsUpTo : ManagerNow → ManagerNow → ℕ → Bool → Type 0
BearsUpTo old new now false = BearsAsMany old new ⊎ BearsOneMore old new now None
BearsUpTo old new now true = BearsAsMany old new

-- one line more just where there are materials now and there were none before; what there is stays
abbrev pub BearsMade : ManagerNow → ManagerNow → ℕ → Bool → Bool → Type 0
BearsMade old new now false true = BearsOneMore old new now None
BearsMade old new now true false = ⊥
BearsMade old new now before after = BearsAsMany old new

-- that after a call, and after an error one line more at the most
abbrev pub BearsAfter : {T E : Type 0} → ManagerNow → ManagerNow → ℕ → Bool → Bool → Result T E
    → Type 0
BearsAfter old new now before after result =
    MatchResult result
    (λ _. BearsMade old new now before after)
    (λ _. BearsUpTo old new now before)

-- ---- a step

-- The opener has come to this point, and what it released was passed on.
pub record ResealerStepsOn (saying : Saying) (now : ℕ) (v : ResealingValue) (opening : OpeningValue)
    (old new : SinkState) (unasked : Type 0) (resealer : Resealer) : Type 0 where
  pub materials : Option EncMaterialsValue
  pub asks : AsksFor v.materials saying now v.random opening unasked materials
  pub stands : Stands resealer (gone_on v opening materials)
  pub gained : GainsBeyond old new (front v) (front (gone_on v opening materials))

-- What was released wasn't passed on, or not all of it.
pub record PassesNot (saying : Saying) (now : ℕ) (v : ResealingValue) (opening : OpeningValue)
    (old new : SinkState) (unasked : Type 0) (error : ResealError) : Type 0 where
  pub materials : EncMaterialsValue
  pub asks : AsksFor v.materials saying now v.random opening unasked (Some materials)
  pub why : GoesNotOn materials v.size v.random (front v) (content (judged_now opening)) old new
      error

-- the opener has come to this point, and the resealer answered so
abbrev pub SealsAt : Saying → ℕ → ResealingValue → OpeningValue → ℕ → SinkState → SinkState → Type 0
    → Type 0 → Resealer → Result ℕ ResealError → Type 0
SealsAt saying now v opening used old new unasked unwritten resealer (Ok n) = (n ≡ used)
    × ResealerStepsOn saying now v opening old new unasked resealer
SealsAt saying now v opening used old new unasked unwritten resealer (Err error) =
    Stands resealer (stopped_at v opening)
    × (NewMessageBeginsNot v.materials saying now v.size v.random opening old new unwritten error
    ⊎ PassesNot saying now v opening old new unasked error)

-- The opener failed: nothing was passed on.
pub record OpenerOpensNot (v : ResealingValue) (opening : OpeningValue) (why : OpenError)
    (unasked unwritten : Type 0) (result : Result ℕ ResealError) (resealer : Resealer) : Type 0
  where
    pub named : result ≡ Err (open_error_as why)
    pub manager : unasked
    pub output : unwritten
    pub stands : Stands resealer (stopped_at v opening)

abbrev pub SealsAfter : Saying → ℕ → ResealingValue → OpeningValue → Result ℕ OpenError → SinkState
    → SinkState → Type 0 → Type 0 → Result ℕ ResealError → Resealer → Type 0
SealsAfter saying now v opening (Ok used) old new unasked unwritten result resealer = SealsAt saying
    now v opening used old new unasked unwritten resealer result
SealsAfter saying now v opening (Err why) old new unasked unwritten result resealer =
    OpenerOpensNot v
    opening why unasked unwritten result resealer

-- A step of a session that goes on: the opener makes one, and what it released is passed on.
-- `opened` and `opening` are what the manager of the old message was and is, `saying` what that of
-- the new one may have said.
pub record ResealerSteps (opened opening : ManagerNow) (saying : Saying) (now : ℕ)
    (v : ResealingValue)
    (piece : List ℕ) (old new : SinkState) (unasked unwritten : Type 0)
    (result : Result ℕ ResealError) (resealer : Resealer) : Type 0 where
  pub answer : Result ℕ OpenError
  pub opens : StepsOpener opened opening now v.opening piece answer resealer.opener
  pub seals : SealsAfter saying now v (opening_stepped v.opening piece opens.heard answer) answer
      old new
      unasked unwritten result resealer

-- ---- the end

-- what finishing a session that goes on comes to: of a whole message the new one is put to its end;
-- nothing is put behind any other
abbrev pub ResealerFinishes : ResealingValue → SinkState → SinkState → Type 0
    → Result (Unit {0}) ResealError → Type 0
ResealerFinishes v old new unwritten (Err (errors.Fault fault)) =
    (opening_finish_answer v.opening ≡ Err (opens.Fault fault)) × unwritten
ResealerFinishes v old new unwritten result =
    ((judged_now v.opening).verdict ≡ Whole)
    × ((m : EncMaterialsValue) × (v.materials ≡ Some m)
    × FinishesAs m v.size v.random (text_so_far v) old new result)
