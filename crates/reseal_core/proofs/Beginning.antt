-- The new message is begun where it is due.
use Rattle.std.proofs.Common.{◌≡◌, ℕ, Bool, true, false, is_some, List, [], Option, Some, None, Result, Ok, Err, IfOk, refl, sym, subst, ◌∙◌}
use Rattle.std.specs.Prelude.{IfErr}
use Rattle.esdk_base.specs.Streams.{SinkState}
use Rattle.context_codec.specs.Context.{KeyValue}
use Rattle.context_codec.specs.Parts.{keys_of}
use Rattle.keyring_trait.specs.Materials.{EncMaterialsValue}
use Rattle.keyring_trait.specs.Requests.{AllHeld}
use Rattle.keyring_trait.specs.Saying.{Saying}
use Rattle.stream_open.specs.Session.{OpeningValue, judged_now, only_authenticated, whole_context}
use Rattle.stream_seal.specs.declared.session.Sealer.{Sealer}
use Rattle.reseal_core.specs.declared.errors.ResealError.{ResealError}
use Rattle.reseal_core.specs.declared.new_message.NewMessage.{NewMessage}
use Rattle.reseal_core.specs.Front.{front_of}
use Rattle.reseal_core.specs.NewMessage.{NewMessageBeginsAs, IsFedText, IsWritten}
use Rattle.reseal_core.specs.Session.{HoldsOnly}
use Rattle.reseal_core.specs.Stands.{NewMessageBeginsNot, BeginsWhereDue, OldMessageIsOpen}
use Rattle.reseal_core.proofs.Stepping.{gains_none}
use Rattle.reseal_core.proofs.Unlocked.{OpenWith, open_with}

-- the pairs with which a message is open
pub open_held : (opening : OpeningValue) (whole only : List KeyValue) → OldMessageIsOpen opening whole only → HoldsOnly opening.answer → AllHeld whole (keys_of only)
open_held opening whole only is held = subst HoldsOnly is.answer held

module _ (saying : Saying) (now size : ℕ) (random text : List ℕ) (opening : OpeningValue) (unasked : Type 0) (message : NewMessage) where
  begun_fed : (m : Option EncMaterialsValue) (sealer : Option Sealer) → is_some sealer ≡ true → IsFedText sealer m size random text → (x : EncMaterialsValue) × (m ≡ Some x)
  begun_fed (Some m) (Some sealer) e fed = (m, refl)
  begun_fed (Some m) None e fed = absurd fed
  begun_fed None (Some sealer) e fed = absurd fed
  begun_fed None None e fed = absurd (let no : false ≡ true = e in cc)

  -- it was begun before
  pub begun_before : (m : Option EncMaterialsValue) (output : SinkState) → is_some message.sealer ≡ true → IsWritten message size random m text → unasked
      → BeginsWhereDue m saying now size random text opening output output unasked message
  begun_before m output some written un =
      let (x, is) = begun_fed m message.sealer some written.fed in
      subst (λ (y : Option EncMaterialsValue). BeginsWhereDue y saying now size random text opening output output unasked message) (sym is) (record {
        materials = Some x;
        asks = (refl, un);
        written = subst (λ (y : Option EncMaterialsValue). IsWritten message size random y text) is written;
        gained = gains_none output (front_of (Some x) size random text);
      })

  none_fed : (m : Option EncMaterialsValue) (sealer : Option Sealer) → is_some sealer ≡ false → IsFedText sealer m size random text → m ≡ None
  none_fed None None e fed = refl
  none_fed None (Some sealer) e fed = absurd fed
  none_fed (Some m) (Some sealer) e fed = absurd (let no : true ≡ false = e in cc)
  none_fed (Some m) None e fed = absurd fed

  none_text : (sealer : Option Sealer) → IsFedText sealer None size random text → text ≡ []
  none_text None fed = fed
  none_text (Some sealer) fed = absurd fed

  -- it isn't due yet
  pub not_due : (m : Option EncMaterialsValue) (output : SinkState) → is_some message.sealer ≡ false → IsWritten message size random m text → (judged_now opening).unlocked ≡ false → unasked
      → BeginsWhereDue m saying now size random text opening output output unasked message
  not_due m output none written locked un =
      let is = none_fed m message.sealer none written.fed in
      subst (λ (y : Option EncMaterialsValue). BeginsWhereDue y saying now size random text opening output output unasked message) (sym is) (record {
        materials = None;
        asks = (locked, un);
        written = subst (λ (y : Option EncMaterialsValue). IsWritten message size random y text) is written;
        gained = gains_none output [];
      })

  module _ (m : Option EncMaterialsValue) (whole only : List KeyValue) (old new : SinkState) (unwritten : Type 0) (next : NewMessage) (none : is_some message.sealer ≡ false) (written : IsWritten message size random m text)
      (open_is : OldMessageIsOpen opening whole only) where
    is_none : m ≡ None
    is_none = none_fed m message.sealer none written.fed

    written_none : IsWritten message size random None text
    written_none = subst (λ (y : Option EncMaterialsValue). IsWritten message size random y text) is_none written

    -- it is due, and was begun
    begun_now : NewMessageBeginsAs saying now whole only size random old new unwritten next (Ok tt) → BeginsWhereDue m saying now size random text opening old new unasked next
    begun_now b =
        let nothing : text ≡ [] = none_text message.sealer written_none.fed in
        subst (λ (y : Option EncMaterialsValue). BeginsWhereDue y saying now size random text opening old new unasked next) (sym is_none)
        (subst (λ (t : List ℕ). BeginsWhereDue None saying now size random t opening old new unasked next) (sym nothing) (record {
          materials = Some b.materials;
          asks = record { whole = whole; only = only; opened = open_is; given = b.given };
          written = b.written;
          gained = b.gained;
        }))

    -- or wasn't
    not_begun : (error : ResealError) → NewMessageBeginsAs saying now whole only size random old new unwritten next (Err error) → NewMessageBeginsNot m saying now size random opening old new unwritten error
    not_begun error why = record { none = is_none; whole = whole; only = only; opened = open_is; why = why }

    pub begun_as : (r : Result (Unit {0}) ResealError) → (IsWritten message size random None text → NewMessageBeginsAs saying now whole only size random old new unwritten next r)
        → IfOk r (λ done. BeginsWhereDue m saying now size random text opening old new unasked next)
    begun_as (Ok done) begins = begun_now (begins written_none)
    begun_as (Err error) begins = tt

    pub not_begun_as : (r : Result (Unit {0}) ResealError) → (IsWritten message size random None text → NewMessageBeginsAs saying now whole only size random old new unwritten next r)
        → IfErr r (NewMessageBeginsNot m saying now size random opening old new unwritten)
    not_begun_as (Ok done) begins = tt
    not_begun_as (Err error) begins = not_begun error (begins written_none)

-- ---- a message of which nothing is told is locked

not_told : {A : Type 0} (v : OpeningValue) (o : Option A) (told : OpenWith v → A) → ((w : OpenWith v) → o ≡ Some (told w)) → o ≡ None → (b : Bool) → (judged_now v).unlocked ≡ b → (judged_now v).unlocked ≡ false
not_told v o told is none false e = e
not_told v o told is none true e = let w = open_with v e in absurd (let no : Some (told w) ≡ None = sym (is w) ∙ none in cc)

pub no_context : (v : OpeningValue) → whole_context v ≡ None → (judged_now v).unlocked ≡ false
no_context v none = not_told v (whole_context v) (λ w. w.whole) (λ w. w.whole_is) none (judged_now v).unlocked refl

pub no_only : (v : OpeningValue) → only_authenticated v ≡ None → (judged_now v).unlocked ≡ false
no_only v none = not_told v (only_authenticated v) (λ w. w.only) (λ w. w.only_is) none (judged_now v).unlocked refl
