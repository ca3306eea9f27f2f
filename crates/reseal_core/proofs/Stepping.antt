-- A step of a resealer: what its opener and its new message come to is what it comes to.
use Rattle.std.proofs.Common.{◌≡◌, ◌∙◌, ℕ, ◌≤◌, Bool, true, false, is_some, List, [], ◌∷◌, ◌++◌, length, take, Option, Some, None, Result, Ok, Err, inl, inr, refl, sym, ap, subst, arith, append_assoc, append-nil, length-append}
use Rattle.esdk_base.specs.Receiver.{SinkTakes}
use Rattle.esdk_base.specs.ReceiverLaws.{fails_behind, takes_more, takes_none}
use Rattle.esdk_base.specs.Streams.{SinkState}
use Rattle.whole_input.specs.Written.{WritesBeyond}
use Rattle.whole_input.proofs.Fronts.{beyond_after}
use Rattle.keyring_trait.specs.Manager.{ManagerNow}
use Rattle.keyring_trait.specs.Materials.{EncMaterialsValue}
use Rattle.keyring_trait.specs.Saying.{Saying, said_last}
use Rattle.message_format.specs.Judgement.{content, judged}
use Rattle.stream_open.specs.declared.errors.OpenError.{OpenError}
use Rattle.stream_open.specs.declared.errors.OpenError.TheVariants as opens
use Rattle.stream_open.specs.declared.session.Opener.{Opener}
use Rattle.stream_open.specs.Asking.{Heard, Nothing, Found, Named, Failed, IsHeard}
use Rattle.stream_open.specs.Feeding.{FeedsToOpener, GoesOn}
use Rattle.stream_open.specs.Session.{OpeningValue, answer_kept, asked_header, judged_now, keeping, opening_stepped}
use Rattle.stream_open.specs.Stands.{Stands as Opens, OpenerSteps as StepsOpener}
use Rattle.stream_open.proofs.Feeding.{feeds_ok, may_hear, sure}
use Rattle.stream_open.proofs.GoingOn.{stands_goes}
use Rattle.reseal_core.specs.declared.errors.ResealError.{ResealError}
use Rattle.reseal_core.specs.declared.errors.ResealError.TheVariants as errors
use Rattle.reseal_core.specs.declared.new_message.NewMessage.{NewMessage}
use Rattle.reseal_core.specs.declared.resealer.Resealer.{Resealer}
use Rattle.reseal_core.specs.Errors.{open_error_as}
use Rattle.reseal_core.specs.Front.{GainsBeyond, GainsNotAll, front_of}
use Rattle.reseal_core.specs.NewMessage.{GoesNotOn, NewMessageGoesOnAs, IsWritten}
use Rattle.reseal_core.specs.Session.{HoldsOnly, ResealingValue, front, stopped_at, text_so_far}
use Rattle.reseal_core.specs.Stands.{AsksFor, NewMessageBeginsNot, BeginsWhereDue, Stands, ResealerSteps}
use Rattle.reseal_core.proofs.Requiring.{whole_held}
use Rattle.reseal_core.proofs.Unlocked.{locked_content, stays_unlocked}

-- ---- what a sink gained

pub gains_none : (now : SinkState) (text : List ℕ) → GainsBeyond now now text text
gains_none now text = record { given = []; between = sym (append-nil text); taken = takes_none now }

pub gains_more : (old mid new : SinkState) (a b c : List ℕ) → GainsBeyond old mid a b → GainsBeyond mid new b c → GainsBeyond old new a c
gains_more old mid new a b c one two = record {
  given = one.given ++ two.given;
  between = two.between ∙ ap (λ (x : List ℕ). x ++ two.given) one.between ∙ append_assoc a one.given two.given;
  taken = takes_more old mid new one.given two.given one.taken two.taken;
}

pub gains_not : (old mid new : SinkState) (a b c : List ℕ) → GainsBeyond old mid a b → GainsNotAll mid new b c → GainsNotAll old new a c
gains_not old mid new a b c one two = record {
  given = one.given ++ two.given;
  some = omega (arith, two.some, length-append one.given two.given);
  between = two.between ∙ ap (λ (x : List ℕ). x ++ two.given) one.between ∙ append_assoc a one.given two.given;
  failed = fails_behind old mid new one.given two.given one.taken two.failed;
}

-- all that is written
pub gains_all : (old new : SinkState) (all : List ℕ) → GainsBeyond old new [] all → SinkTakes old new all
gains_all old new all g = subst (λ (x : List ℕ). SinkTakes old new x) (sym g.between) g.taken

pub longer_some : (xs more : List ℕ) → 1 ≤ length xs → 1 ≤ length (xs ++ more)
longer_some xs more some = omega (arith, some, length-append xs more)

-- all of the first was written, and a front beyond it
pub writes_beyond : (old mid new : SinkState) (before after : List ℕ) → SinkTakes old mid before → GainsNotAll mid new before after → WritesBeyond old new before after
writes_beyond old mid new before after taken not =
    subst (λ (all : List ℕ). WritesBeyond old new before all) (sym not.between) (beyond_after old mid new before not.given not.some taken.gained not.failed.front)

not_on : (m : EncMaterialsValue) (size : ℕ) (random written before text : List ℕ) (old mid new : SinkState) (error : ResealError) → GainsBeyond old mid written before → GoesNotOn m size random before text mid new error
    → GoesNotOn m size random written text old new error
not_on m size random written before text old mid new (errors.Refusal refusal) gained (is, many) =
    (is, record { many = many.many; gained = gains_more old mid new written before _ gained many.gained })
not_on m size random written before text old mid new errors.SinkFault gained failed = gains_not old mid new written before _ gained failed
not_on m size random written before text old mid new (errors.Fault fault) gained none = none
not_on m size random written before text old mid new errors.KeyringFault gained none = none
not_on m size random written before text old mid new errors.Stopped gained none = none
not_on m size random written before text old mid new errors.Memory gained none = none

-- ---- the new message's materials

pub unlocked_with : (m : Option EncMaterialsValue) (saying : Saying) (now : ℕ) (random : List ℕ) (w : OpeningValue) (unasked : Type 0) (materials : Option EncMaterialsValue) → AsksFor m saying now random w unasked materials
    → (is_some m ≡ true → (judged_now w).unlocked ≡ true) → is_some materials ≡ (judged_now w).unlocked
unlocked_with (Some m) saying now random w unasked materials (same, un) before = ap is_some same ∙ sym (before refl)
unlocked_with None saying now random w unasked None (locked, un) before = sym locked
unlocked_with None saying now random w unasked (Some m) given before = sym given.opened.unlocked

locked_without : (m : Option EncMaterialsValue) (saying : Saying) (now : ℕ) (random : List ℕ) (w : OpeningValue) (unasked : Type 0) (materials : Option EncMaterialsValue) → AsksFor m saying now random w unasked materials
    → (is_some m ≡ true → (judged_now w).unlocked ≡ true) → materials ≡ None → (judged_now w).unlocked ≡ false
locked_without m saying now random w unasked materials asks before none = sym (unlocked_with m saying now random w unasked materials asks before) ∙ ap is_some none

behind : (xs ys : List ℕ) → xs ++ ys ≡ [] → ys ≡ []
behind [] ys e = e
behind (x ∷ xs) ys e = absurd cc

-- ---- a step

module _ (first last : ManagerNow) (now : ℕ) (resealer : Resealer) (v : ResealingValue) (piece : List ℕ) (opener : Opener) (stands : Stands resealer v) (going : v.stopped ≡ false) where
  abbrev o : OpeningValue
  o = v.opening

  goes : GoesOn o
  goes = stands_goes resealer.opener o stands.opener (stands.going going).on

  -- ---- the opener failed

  pub opens_not : (saying : Saying) (old : SinkState) (unasked unwritten : Type 0) (error : OpenError) → StepsOpener first last now o piece (Err error) opener → unasked → unwritten
      → (next : Resealer) → next.opener ≡ opener → next.stopped ≡ true
      → ResealerSteps first last saying now v piece old old unasked unwritten (Err (open_error_as error)) next
  opens_not saying old unasked unwritten error s un uw next opener_is off = record {
    answer = Err error;
    opens = subst (λ (p : Opener). StepsOpener first last now o piece (Err error) p) (sym opener_is) s;
    seals = record {
      named = refl;
      manager = un;
      output = uw;
      stands = record {
        opener = subst (λ (p : Opener). Opens p (opening_stepped o piece s.heard (Err error))) (sym opener_is) s.stands;
        stopped = off;
        going = λ on. absurd (let no : true ≡ false = on in cc);
      };
    };
  }

  -- ---- it went on

  module _ (used : ℕ) (s : StepsOpener first last now o piece (Ok used) opener) where
    abbrev w : OpeningValue
    w = opening_stepped o piece s.heard (Ok used)

    used_memory : Ok used ≡ Err opens.Memory → ⊥
    used_memory e = let no : is_ok_used (Ok used) ≡ false = ap is_ok_used e in absurd (let bad : true ≡ false = no in cc)
      where
        is_ok_used : Result ℕ OpenError → Bool
        is_ok_used (Ok n) = true
        is_ok_used (Err e) = false

    feeds : FeedsToOpener o (take used piece) w w.out
    feeds =
        feeds_ok o piece s.heard used goes
        (may_hear (said_last first last) now o.given (asked_header o piece) ⊥ s.heard (sure (said_last first last) now o.given (asked_header o piece) (Ok used ≡ Err opens.Memory) s.heard used_memory s.hears)) s.answers

    -- what is released since goes behind what was
    pub text_on : text_so_far v ++ w.out ≡ content (judged_now w)
    text_on = sym feeds.content

    pub held : HoldsOnly w.answer
    held = held_at s.heard s.hears
      where
        held_at : (heard : Heard) → IsHeard (said_last first last) now o.given (asked_header o piece) (Ok used ≡ Err opens.Memory) heard → HoldsOnly (opening_stepped o piece heard (Ok used)).answer
        held_at Nothing hears = (stands.going going).held
        held_at (Found m) (h, asks, (finds, rest)) = whole_held h.stored o.given m.context m.only finds.context finds.only
        held_at (Named fault) hears = tt
        held_at Failed hears = (stands.going going).held

    pub was_unlocked : is_some v.materials ≡ true → (judged_now w).unlocked ≡ true
    was_unlocked some =
        let before : (judged_now o).unlocked ≡ true = sym (stands.going going).unlocked ∙ some in
        let may = may_hear (said_last first last) now o.given (asked_header o piece) (Ok used ≡ Err opens.Memory) s.heard s.hears in
        let on = stays_unlocked o piece (take used piece) (Ok used ≡ Err opens.Memory) s.heard goes may before in
        unlocked_at s.heard on
      where
        unlocked_at : (heard : Heard) → (judged (o.taken ++ take used piece) o.settings (answer_kept (keeping o heard).answer)).unlocked ≡ true → (judged_now (opening_stepped o piece heard (Ok used))).unlocked ≡ true
        unlocked_at Nothing e = e
        unlocked_at (Found m) e = e
        unlocked_at (Named fault) e = e
        unlocked_at Failed e = e

    module _ (saying : Saying) (old mid : SinkState) (unasked unwritten : Type 0) where
      -- the new message isn't begun
      pub begins_not : (error : ResealError) → NewMessageBeginsNot v.materials saying now v.size v.random w old mid unwritten error → (next : Resealer) → next.opener ≡ opener → next.stopped ≡ true
          → ResealerSteps first last saying now v piece old mid unasked unwritten (Err error) next
      begins_not error why next opener_is off = record {
        answer = Ok used;
        opens = subst (λ (p : Opener). StepsOpener first last now o piece (Ok used) p) (sym opener_is) s;
        seals = (stopped_there next opener_is off, inl why);
      }
        where
          stopped_there : (next : Resealer) → next.opener ≡ opener → next.stopped ≡ true → Stands next (stopped_at v w)
          stopped_there next opener_is off = record {
            opener = subst (λ (p : Opener). Opens p w) (sym opener_is) s.stands;
            stopped = off;
            going = λ on. absurd (let no : true ≡ false = on in cc);
          }

      module _ (message : NewMessage) (b : BeginsWhereDue v.materials saying now v.size v.random (text_so_far v) w old mid unasked message) where
        -- nothing was released before the message is begun
        pub nothing_yet : b.materials ≡ None → w.out ≡ []
        nothing_yet none =
            behind (text_so_far v) w.out (text_on ∙ locked_content w (locked_without v.materials saying now v.random w unasked b.materials b.asks was_unlocked none))

        -- the text was passed on
        pub steps_on : (new : SinkState) (next : Resealer) → NewMessageGoesOnAs v.size v.random b.materials (text_so_far v) (text_so_far v ++ w.out) mid new next.message (Ok tt) → next.opener ≡ opener → next.stopped ≡ false
            → ResealerSteps first last saying now v piece old new unasked unwritten (Ok used) next
        steps_on new next on opener_is off = record {
          answer = Ok used;
          opens = subst (λ (p : Opener). StepsOpener first last now o piece (Ok used) p) (sym opener_is) s;
          seals = (
            refl,
            record {
              materials = b.materials;
              asks = b.asks;
              stands = record {
                opener = subst (λ (p : Opener). Opens p w) (sym opener_is) s.stands;
                stopped = off ∙ sym going;
                going = λ still. record {
                  on = feeds.goes.going;
                  written = subst (λ (t : List ℕ). IsWritten next.message v.size v.random b.materials t) text_on on.written;
                  unlocked = unlocked_with v.materials saying now v.random w unasked b.materials b.asks was_unlocked;
                  held = held;
                };
              };
              gained = gains_more old mid new (front v) (front_of b.materials v.size v.random (text_so_far v)) (front_of b.materials v.size v.random (content (judged_now w))) b.gained
                  (subst (λ (t : List ℕ). GainsBeyond mid new (front_of b.materials v.size v.random (text_so_far v)) (front_of b.materials v.size v.random t)) text_on on.gained);
            },
          );
        }

        -- or not, or not all of it
        stops_with : (m : Option EncMaterialsValue) → b.materials ≡ m → (error : ResealError) (new : SinkState) (next : Resealer)
            → NewMessageGoesOnAs v.size v.random m (text_so_far v) (text_so_far v ++ w.out) mid new next.message (Err error) → next.opener ≡ opener → next.stopped ≡ true
            → ResealerSteps first last saying now v piece old new unasked unwritten (Err error) next
        stops_with None is error new next why opener_is off = absurd why
        stops_with (Some m) is error new next why opener_is off = record {
          answer = Ok used;
          opens = subst (λ (p : Opener). StepsOpener first last now o piece (Ok used) p) (sym opener_is) s;
          seals = (
            record {
              opener = subst (λ (p : Opener). Opens p w) (sym opener_is) s.stands;
              stopped = off;
              going = λ on. absurd (let no : true ≡ false = on in cc);
            },
            inr (record {
              materials = m;
              asks = subst (λ (x : Option EncMaterialsValue). AsksFor v.materials saying now v.random w unasked x) is b.asks;
              why = not_on m v.size v.random (front v) (front_of (Some m) v.size v.random (text_so_far v)) (content (judged_now w)) old mid new error
                  (subst (λ (x : Option EncMaterialsValue). GainsBeyond old mid (front v) (front_of x v.size v.random (text_so_far v))) is b.gained)
                  (subst (λ (t : List ℕ). GoesNotOn m v.size v.random (front_of (Some m) v.size v.random (text_so_far v)) t mid new error) text_on why);
            }),
          );
        }

        pub stops_so : (error : ResealError) (new : SinkState) (next : Resealer)
            → NewMessageGoesOnAs v.size v.random b.materials (text_so_far v) (text_so_far v ++ w.out) mid new next.message (Err error) → next.opener ≡ opener → next.stopped ≡ true
            → ResealerSteps first last saying now v piece old new unasked unwritten (Err error) next
        stops_so error new next why opener_is off = stops_with b.materials refl error new next why opener_is off
