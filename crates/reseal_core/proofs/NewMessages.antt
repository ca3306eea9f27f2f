-- The new message: how it begins, goes on and ends.
use Rattle.std.proofs.Common.{◌≡◌, ◌∙◌, ◌⊎◌, ℕ, ◌≤◌, List, [], ◌++◌, length, take, false, true, Option, Some, None, Ok, Err, inl, inr, refl, sym, ap, subst, arith, length-append, length-take}
use Rattle.std.specs.Io.KnownBytes.{Appends}
use Rattle.esdk_base.specs.ReceiverLaws.{front_longer}
use Rattle.esdk_base.specs.Sink.{AppendsFront}
use Rattle.esdk_base.specs.Streams.{SinkState}
use Rattle.esdk_base.specs.declared.receiver.FeedError.TheVariants as feeds
use Rattle.esdk_base.specs.Receiver.{PutsAll}
use Rattle.esdk_fields.specs.Counts.{Rose}
use Rattle.context_codec.specs.Context.{KeyValue}
use Rattle.context_codec.specs.Parts.{only_of}
use Rattle.keyring_trait.specs.Materials.{EncMaterialsValue}
use Rattle.keyring_trait.specs.Requests.{EncRequestValue}
use Rattle.keyring_trait.specs.Saying.{Saying}
use Rattle.suite_table.specs.declared.suite.Suite.TheVariants.{Committing}
use Rattle.suite_table.specs.Suites.{zero_iv}
use Rattle.message_format.specs.Message.{header_body, header_tag}
use Rattle.message_format.proofs.WrittenHeads.{length-header_tag}
use Rattle.stream_seal.specs.declared.errors.SealError.TheVariants as seals
use Rattle.stream_seal.specs.declared.session.Sealer.{Sealer}
use Rattle.stream_seal.specs.Feeding.{IsFeeding, fed_out}
use Rattle.stream_seal.specs.Receiving.{FeedsSealerPiece, SealerFinishes}
use Rattle.stream_seal.specs.Session.{SealingValue, sealing_finished}
use Rattle.stream_seal.specs.Stands.{Stands}
use Rattle.stream_seal.specs.Start.{message_of, most_text, start_of, start_refusal, drawn_id, drawn_rest}
use Rattle.stream_seal.proofs.Feeding.{finishes, is_feeding, refuses_piece}
use Rattle.esdk_encrypt.specs.Encrypt.{written_so_far}
use Rattle.esdk_encrypt.specs.Writing.{Fed, sealing_of_text}
use Rattle.esdk_encrypt.proofs.Input.{sink_fails}
use Rattle.esdk_encrypt.proofs.Sessions.{given_is, is_fed, names_frames, room_then, session_then, written_none, written_then}
use Rattle.reseal_core.specs.declared.errors.ResealError.{ResealError}
use Rattle.reseal_core.specs.declared.errors.ResealError.TheVariants as errors
use Rattle.reseal_core.specs.declared.new_message.NewMessage.{NewMessage}
use Rattle.reseal_core.specs.Front.{AreSound, front_of, request_for}
use Rattle.reseal_core.specs.NewMessage.{MaterialsAreGiven, BeginsNewMessage, FinishesAs, ManagerGivesNoMaterials, NewMessageGoesOnAs, NewHeaderFails, IsFedText, IsNotBegun, IsRefused, IsWritten, put_as}

-- ---- the beginning

-- the header's tag alone is something
start_some : (m : EncMaterialsValue) (size : ℕ) (id : List ℕ) → 1 ≤ length (start_of m size id)
unfolding start_of
start_some m size id =
    let raw : List ℕ = header_body m.context m.required size m.key m.entries id in
    let tag : List ℕ = header_tag Committing zero_iv raw (only_of m.required m.context) m.key id in
    omega (arith, length-append raw tag, length-header_tag Committing zero_iv raw (only_of m.required m.context) m.key id)

-- what a manager gave for a request and bytes that are those of the message
pub gives_so : (saying : Saying) (now : ℕ) (request : EncRequestValue) (rest random : List ℕ) (whole only : List KeyValue) (m : EncMaterialsValue) → request ≡ request_for whole only → rest ≡ drawn_rest random
    → saying.gives request now rest m → saying.gives (request_for whole only) now (drawn_rest random) m
gives_so saying now request rest random whole only m asked rest_is gives =
    subst (λ (r : List ℕ). saying.gives (request_for whole only) now r m) rest_is (subst (λ (r : EncRequestValue). saying.gives r now rest m) asked gives)

-- none were given
pub not_given : (saying : Saying) (now : ℕ) (random : List ℕ) (whole only : List KeyValue) (error : ResealError) → ManagerGivesNoMaterials saying whole only error ⊎ (error ≡ errors.Memory)
    → IsNotBegun saying now random whole only error
not_given saying now random whole only error (inl gives) = inl gives
not_given saying now random whole only error (inr memory) = inr (inr memory)

-- or no message can begin with them
pub not_started : (saying : Saying) (now : ℕ) (random : List ℕ) (whole only : List KeyValue) (m : EncMaterialsValue) (error : ResealError) → saying.gives (request_for whole only) now (drawn_rest random) m → AreSound m
    → IsRefused (start_refusal m None (drawn_id random)) error → IsNotBegun saying now random whole only error
not_started saying now random whole only m (errors.Refusal refusal) gives sound is =
    inr (inl (record { materials = m; refusal = refusal; given = gives; sound = sound; refused = is; named = refl }))
not_started saying now random whole only m errors.Memory gives sound free = inr (inr refl)
not_started saying now random whole only m (errors.Fault fault) gives sound none = absurd none
not_started saying now random whole only m errors.KeyringFault gives sound none = absurd none
not_started saying now random whole only m errors.SinkFault gives sound none = absurd none
not_started saying now random whole only m errors.Stopped gives sound none = absurd none

module _ (saying : Saying) (now : ℕ) (whole only : List KeyValue) (message : NewMessage) (size : ℕ) (random text : List ℕ) (m : EncMaterialsValue) (written : IsWritten message size random None text) (given : MaterialsAreGiven saying now message.random whole only m)
    (header : List ℕ) (header_is : header ≡ start_of m message.frame_length (drawn_id message.random)) where
  given_so : MaterialsAreGiven saying now random whole only m
  given_so = subst (λ (r : List ℕ). MaterialsAreGiven saying now r whole only m) written.random_is given

  -- the header is all that is written before any text
  first : front_of (Some m) size random [] ≡ [] ++ header
  first =
      written_none m size (drawn_id random)
      ∙ sym (header_is ∙ ap (start_of m message.frame_length) (ap drawn_id written.random_is) ∙ ap (λ (n : ℕ). start_of m n (drawn_id random)) written.length_is)

  pub header_fails : (old new : SinkState) → AppendsFront old.written new.written header → Rose old.faults new.faults → NewHeaderFails saying now whole only size random old new
  header_fails old new front rose = record {
    materials = m;
    given = given_so;
    failed = record {
      given = header;
      some = omega (arith, ap length header_is, start_some m message.frame_length (drawn_id message.random));
      between = first;
      failed = record { front = front; rose = rose };
    };
  }

  pub begins : (old new : SinkState) (sealer : Sealer) → Stands sealer (sealing_of_text m message.frame_length (drawn_id message.random) []) → Appends old.written new.written header → new.faults ≡ old.faults
      → BeginsNewMessage saying now whole only size random old new (record message { sealer = Some sealer })
  begins old new sealer stands gained kept = record {
    materials = m;
    given = given_so;
    written = record {
      length_is = written.length_is;
      random_is = written.random_is;
      wide = written.wide;
      fed = (
        subst (λ (n : ℕ). Stands sealer (sealing_of_text m n (drawn_id random) [])) written.length_is
            (subst (λ (i : List ℕ). Stands sealer (sealing_of_text m message.frame_length i [])) (ap drawn_id written.random_is) stands),
        omega arith,
      );
    };
    gained = record { given = header; between = first; taken = record { gained = gained; faults = kept } };
  }

-- ---- more text

module _ {R : Type 0} (state : R → SinkState) (message : NewMessage) (old new : Sealer) (before after : R) (is : message.sealer ≡ Some old) where
  abbrev next : NewMessage
  next = record { frame_length = message.frame_length; random = message.random; sealer = Some new }

  stands_old : (size : ℕ) (random text : List ℕ) (m : EncMaterialsValue) → IsWritten message size random (Some m) text → IsFedText (Some old) (Some m) size random text
  stands_old size random text m written = subst (λ (s : Option Sealer). IsFedText s (Some m) size random text) is written.fed

  not_begun : (size : ℕ) (random text : List ℕ) → IsWritten message size random None text → ⊥
  not_begun size random text written = subst (λ (s : Option Sealer). IsFedText s None size random text) is written.fed

  module _ (content : List ℕ) (size : ℕ) (random text : List ℕ) (m : EncMaterialsValue) (written : IsWritten message size random (Some m) text) (short : length text ≤ most_text size) where
    abbrev v : SealingValue
    v = sealing_of_text m size (drawn_id random) text

    between : written_so_far m size (drawn_id random) (take (most_text size) (text ++ content)) ≡ written_so_far m size (drawn_id random) text ++ fed_out v content
    between = sym (written_then m size (drawn_id random) text content written.wide short)

    passes : (fed : Fed) → FeedsSealerPiece (PutsAll state) (sink_fails state) v content before after new fed → NewMessageGoesOnAs size random (Some m) text (text ++ content) (state before) (state after) next (put_as fed)
    passes (Ok done) f =
        let room = room_then m size (drawn_id random) text content written.wide short f.none in
        record {
          written = record {
            length_is = written.length_is;
            random_is = written.random_is;
            wide = written.wide;
            fed = (
              subst (λ (z : SealingValue). Stands new z) (session_then m size (drawn_id random) text content written.wide short f.none) f.stands,
              omega (arith, ap length room, length-take (most_text size) (text ++ content)),
            );
          };
          gained = record {
            given = fed_out v content;
            between = ap (written_so_far m size (drawn_id random)) (sym room) ∙ between;
            taken = f.taken;
          };
        }
    passes (Err (feeds.Receiver failed)) f =
        let behind : List ℕ = fed_out f.still.now f.rest in
        record {
          given = fed_out v content;
          some = omega (arith, f.some, ap length f.still.way.out, length-append f.given behind);
          between = between;
          failed = record {
            front = subst (λ (g : List ℕ). AppendsFront (state before).written (state after).written g) (sym f.still.way.out)
                (front_longer (state before).written (state after).written f.given behind f.failed.front);
            rose = f.failed.rose;
          };
        }
    passes (Err (feeds.Machine (seals.Refusal refusal))) f =
        let named = names_frames m size (drawn_id random) text content refusal f.why in (
          named,
          record {
            many = ((refuses_piece v content).many.0 (f.why ∙ ap Some named)).1;
            gained = record { given = fed_out v content; between = between; taken = f.taken };
          },
        )
    passes (Err (feeds.Machine seals.Stopped)) f = absurd f
    passes (Err (feeds.Machine seals.Memory)) f = absurd f

  pub passes_as : (content : List ℕ) (fed : Fed) → ((v : SealingValue) → Stands old v → IsFeeding v content → FeedsSealerPiece (PutsAll state) (sink_fails state) v content before after new fed)
      → (size : ℕ) (random text : List ℕ) (m : Option EncMaterialsValue) → IsWritten message size random m text
      → NewMessageGoesOnAs size random m text (text ++ content) (state before) (state after) next (put_as fed)
  passes_as content fed feeds size random text None written = absurd (not_begun size random text written)
  passes_as content fed feeds size random text (Some m) written =
      let at = stands_old size random text m written in
      passes content size random text m written at.1 fed
      (feeds (sealing_of_text m size (drawn_id random) text) at.0
      (is_feeding (sealing_of_text m size (drawn_id random) text) content (is_fed m size (drawn_id random) text written.wide at.1)))

  -- ---- the end

  module _ (size : ℕ) (random text : List ℕ) (m : EncMaterialsValue) (written : IsWritten message size random (Some m) text) (short : length text ≤ most_text size) where
    abbrev w : SealingValue
    w = sealing_of_text m size (drawn_id random) text

    whole : message_of m size (drawn_id random) text ≡ written_so_far m size (drawn_id random) text ++ (sealing_finished w).out
    whole =
        sym (ap (λ (g : List ℕ). g ++ (sealing_finished w).out) (sym (given_is m size (drawn_id random) text)) ∙ finishes w (is_fed m size (drawn_id random) text written.wide short))

    ends : (fed : Fed) → SealerFinishes (PutsAll state) (sink_fails state) w before after fed → FinishesAs m size random text (state before) (state after) (put_as fed)
    ends (Ok done) f = record { given = (sealing_finished w).out; between = whole; taken = f.1 }
    ends (Err (feeds.Receiver failed)) f = record { given = (sealing_finished w).out; some = f.1; between = whole; failed = f.2 }
    ends (Err (feeds.Machine seals.Stopped)) f = absurd (let no : false ≡ true = f.0 in cc)
    ends (Err (feeds.Machine (seals.Refusal refusal))) f = absurd f
    ends (Err (feeds.Machine seals.Memory)) f = absurd f

  pub ends_as : (fed : Fed) → ((v : SealingValue) → Stands old v → SealerFinishes (PutsAll state) (sink_fails state) v before after fed)
      → (size : ℕ) (random text : List ℕ) (m : EncMaterialsValue) → IsWritten message size random (Some m) text
      → FinishesAs m size random text (state before) (state after) (put_as fed)
  ends_as fed finishing size random text m written =
      let at = stands_old size random text m written in
      ends size random text m written at.1 fed (finishing (sealing_of_text m size (drawn_id random) text) at.0)
