-- What the manager of the new message bears: one line more where its materials were made, once.
use Rattle.std.proofs.Common.{◌≡◌, ◌∙◌, ℕ, Bool, true, false, is_some, List, ◌++◌, [], ◌∷◌, Option, Some, None, Result, Ok, Err, inl, inr, refl, sym, ap, subst}
use Rattle.esdk_base.specs.Streams.{SinkState}
use Rattle.context_codec.specs.Context.{KeyValue}
use Rattle.header_codec.specs.declared.settings.Settings.{Settings}
use Rattle.keyring_trait.specs.declared.journal.Kind.TheVariants.{Seal}
use Rattle.keyring_trait.specs.declared.manager_errors.ManagerError.{ManagerError}
use Rattle.keyring_trait.specs.Manager.{BearsOn, ManagerNow, enc_served}
use Rattle.keyring_trait.specs.Materials.{EncMaterialsValue}
use Rattle.stream_seal.specs.declared.session.Sealer.{Sealer}
use Rattle.whole_input.specs.declared.pieces.End.{End}
use Rattle.whole_input.specs.declared.pieces.End.TheVariants as ends
use Rattle.esdk_encrypt.specs.Asking.{BearsAsMany, BearsAtMostOne, BearsOneMore, seal_line}
use Rattle.esdk_encrypt.proofs.Asking.{bears_given}
use Rattle.reseal_core.specs.declared.errors.InputError.{InputError}
use Rattle.reseal_core.specs.declared.resealer.Resealer.{Resealer}
use Rattle.reseal_core.specs.NewMessage.{IsFedText}
use Rattle.reseal_core.specs.Session.{ResealingValue, gone_on, new_resealing_session, text_so_far}
use Rattle.reseal_core.specs.Stands.{BearsMade, BearsUpTo, Stands}
use Rattle.reseal_core.specs.Underway.{ConcludesResealing, Reached}

-- ---- one call

-- a manager that isn't asked
pub bears_same : (manager : ManagerNow) (now : ℕ) (before : Bool) → BearsUpTo manager manager now before
bears_same manager now false = inl (λ lines bore. bore)
bears_same manager now true = λ lines bore. bore

module _ (old new : ManagerNow) (now : ℕ) where
  -- one that gave these materials for a text with no declared length
  pub bears_asked : (size : Option ℕ) (r : Result EncMaterialsValue ManagerError) (m : EncMaterialsValue) → size ≡ None → r ≡ Ok m → BearsOn old new Seal now size enc_served r → BearsOneMore old new now None
  bears_asked size r m none is bears = bears_given old new now None r m is (subst (λ (s : Option ℕ). BearsOn old new Seal now s enc_served r) none bears)

  -- one line more at the most
  pub up_to_made : (before after : Bool) → BearsMade old new now before after → BearsUpTo old new now before
  up_to_made false true one = inr one
  up_to_made false false many = inl many
  up_to_made true true many = many
  up_to_made true false none = absurd none

-- ---- calls in a row

module _ (first mid new : ManagerNow) (now : ℕ) where
  behind_many : BearsAsMany first mid → BearsOneMore mid new now None → BearsOneMore first new now None
  behind_many many one = record { served = one.served; bears = λ lines session bore. one.bears lines session (many lines bore) }

  behind_one : BearsOneMore first mid now None → BearsAsMany mid new → BearsOneMore first new now None
  behind_one one many = record { served = one.served; bears = λ lines session bore. many (lines ++ seal_line session one.served now None ∷ []) (one.bears lines session bore) }

  made_more : (before after : Bool) → BearsMade first mid now false before → BearsMade mid new now before after → BearsMade first new now false after
  made_more false false one two = λ lines bore. two lines (one lines bore)
  made_more false true one two = behind_many one two
  made_more true true one two = behind_one one two
  made_more true false one two = absurd two

  up_to_more : (before : Bool) → BearsMade first mid now false before → BearsUpTo mid new now before → BearsUpTo first new now false
  up_to_more false one (inl two) = inl (λ lines bore. two lines (one lines bore))
  up_to_more false one (inr two) = inr (behind_many one two)
  up_to_more true one two = inr (behind_one one two)

-- ---- a resealer

begun_by : (sealer : Option Sealer) (m : Option EncMaterialsValue) (size : ℕ) (random text : List ℕ) → IsFedText sealer m size random text → is_some sealer ≡ is_some m
begun_by None None size random text fed = refl
begun_by (Some sealer) (Some m) size random text fed = refl
begun_by None (Some m) size random text fed = absurd fed
begun_by (Some sealer) None size random text fed = absurd fed

-- it has a sealer just where its session has materials
begun_is : (resealer : Resealer) (v : ResealingValue) → Stands resealer v → v.stopped ≡ false → is_some resealer.message.sealer ≡ is_some v.materials
begun_is resealer v stands going = begun_by resealer.message.sealer v.materials v.size v.random (text_so_far v) (stands.going going).written.fed

module _ (old new : ManagerNow) (now : ℕ) (resealer : Resealer) (v : ResealingValue) (stands : Stands resealer v) (going : v.stopped ≡ false) where
  -- what is so by the sealer is so by the materials
  pub up_to_is : BearsUpTo old new now (is_some resealer.message.sealer) → BearsUpTo old new now (is_some v.materials)
  up_to_is bears = subst (λ (b : Bool). BearsUpTo old new now b) (begun_is resealer v stands going) bears

  module _ (next : Resealer) (w : ResealingValue) (then : Stands next w) (still : next.stopped ≡ false) where
    pub made_is : BearsMade old new now (is_some resealer.message.sealer) (is_some next.message.sealer) → BearsMade old new now (is_some v.materials) (is_some w.materials)
    made_is made =
        subst (λ (b : Bool). BearsMade old new now (is_some v.materials) b) (begun_is next w then (sym then.stopped ∙ still))
        (subst (λ (b : Bool). BearsMade old new now b (is_some next.message.sealer)) (begun_is resealer v stands going) made)

-- before the first step
pub made_none : (manager : ManagerNow) (now : ℕ) (resealer : Resealer) (v : ResealingValue) → Stands resealer v → v.stopped ≡ false → v.materials ≡ None → BearsMade manager manager now false (is_some resealer.message.sealer)
made_none manager now resealer v stands going none =
    subst (λ (b : Bool). BearsMade manager manager now false b) (sym (begun_is resealer v stands going ∙ ap is_some none)) (λ lines bore. bore)

-- a step behind others
module _ (first mid new : ManagerNow) (now : ℕ) (resealer : Resealer) (v : ResealingValue) (stands : Stands resealer v) (going : v.stopped ≡ false) (made : BearsMade first mid now false (is_some resealer.message.sealer)) where
  made_here : BearsMade first mid now false (is_some v.materials)
  made_here = subst (λ (b : Bool). BearsMade first mid now false b) (begun_is resealer v stands going) made

  made_on : (next : Resealer) (w : ResealingValue) → Stands next w → w.stopped ≡ false → BearsMade mid new now (is_some v.materials) (is_some w.materials) → BearsMade first new now false (is_some next.message.sealer)
  made_on next w then still more =
      subst (λ (b : Bool). BearsMade first new now false b) (sym (begun_is next w then still)) (made_more first mid new now (is_some v.materials) (is_some w.materials) made_here more)

  pub made_short : BearsUpTo mid new now (is_some v.materials) → BearsUpTo first new now false
  made_short more = up_to_more first mid new now (is_some v.materials) made_here more

-- what a step bears that fed more bytes
pub made_fed : {A B : Type 0} (opened : A → ManagerNow) (sealed : B → ManagerNow) (now : ℕ) (settings : Settings) (given : List KeyValue) (size : ℕ) (random bytes more : List ℕ) (old new last : A) (before after end : B)
    (output put now_put : SinkState) (resealer next : Resealer) → Reached opened sealed now (new_resealing_session settings given size random) bytes old new before after output put resealer
    → Reached opened sealed now (new_resealing_session settings given size random) more old last before end output now_put next
    → BearsMade (sealed before) (sealed after) now false (is_some resealer.message.sealer)
    → ((v w : ResealingValue) → Stands resealer v → v.stopped ≡ false → Stands next w → BearsMade (sealed after) (sealed end) now (is_some v.materials) (is_some w.materials))
    → BearsMade (sealed before) (sealed end) now false (is_some next.message.sealer)
made_fed opened sealed now settings given size random bytes more old new last before after end output put now_put resealer next r s made bears =
    let v : ResealingValue = gone_on (new_resealing_session settings given size random) r.fed.session r.materials in
    let w : ResealingValue = gone_on (new_resealing_session settings given size random) s.fed.session s.materials in
    made_on (sealed before) (sealed after) (sealed end) now resealer v r.stands refl made next w s.stands refl (bears v w r.stands refl s.stands)

-- ---- the run

module _ (old new : ManagerNow) (now : ℕ) (resealer : Resealer) (v : ResealingValue) (stands : Stands resealer v) (going : v.stopped ≡ false) (made : BearsMade old new now false (is_some resealer.message.sealer)) (put last : SinkState) where
  -- a message that was written has materials
  written_bears : (m : EncMaterialsValue) → v.materials ≡ Some m → BearsOneMore old new now None
  written_bears m is =
      subst (λ (o : Option EncMaterialsValue). BearsMade old new now false (is_some o)) is (subst (λ (b : Bool). BearsMade old new now false b) (begun_is resealer v stands going) made)

  pub concludes_bears : (end : End) (r : Result (List KeyValue) InputError) → ConcludesResealing v put last end r → BearsAtMostOne old new now None r
  concludes_bears ends.Seen (Ok context) ((whole, (m, is, written)), has) = written_bears m is
  concludes_bears ends.Failed (Ok context) none = absurd none
  concludes_bears ends.TooLong (Ok context) none = absurd none
  concludes_bears end (Err error) so = up_to_made old new now false (is_some resealer.message.sealer) made
