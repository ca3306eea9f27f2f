-- A sealer that is fed pieces, and what it gives, which is put into an output.
use Rattle.std.proofs.Common.{◌≡◌, ◌∙◌, ℕ, ◌≤◌, List, [], ◌++◌, Option, None, Result, Ok, Err, OnOk, refl, sym, ap, subst}
use Rattle.std.specs.Io.KnownBytes.{Appends}
use Rattle.std.proofs.KnownBytes.{Appends-trans}
use Rattle.esdk_base.specs.declared.receiver.FeedError.{FeedError}
use Rattle.esdk_base.specs.declared.source.Failed.{Failed}
use Rattle.esdk_base.specs.Receiver.{SinkFails, SinkTakes}
use Rattle.esdk_base.specs.Streams.{SinkState}
use Rattle.keyring_trait.specs.Materials.{EncMaterialsValue}
use Rattle.stream_seal.specs.declared.errors.SealError.{SealError}
use Rattle.stream_seal.specs.declared.session.Sealer.{Sealer}
use Rattle.stream_seal.specs.Feeding.{SealerIsFed, IsFeeding, fed, fed_out, given_so_far}
use Rattle.stream_seal.specs.Receiving.{FeedsSealerPiece, SealerFinishes}
use Rattle.stream_seal.specs.Session.{SealingValue, beginning, sealing_finished, new_sealing_session}
use Rattle.stream_seal.specs.Stands.{Stands}
use Rattle.stream_seal.specs.Start.{message_of}
use Rattle.stream_seal.proofs.Feeding.{begin_fed, feeds, finishes, is_feeding}

-- This text was taken, and what the message begins with, up to its last frame, was put.
pub record Sealing (m : EncMaterialsValue) (frame : ℕ) (message_id text : List ℕ) (before now : Option (List ℕ)) (sealer : Sealer) : Type 0 where
  pub session : SealingValue
  pub stands : Stands sealer session
  pub is_fed : SealerIsFed session
  pub materials : session.materials ≡ m
  pub size : session.size ≡ frame
  pub id : session.id ≡ message_id
  pub taken : session.taken ≡ text
  pub gained : Appends before now (given_so_far session)

pub sealing_first : (m : EncMaterialsValue) (size : ℕ) (id : List ℕ) (before now : Option (List ℕ)) (sealer : Sealer) (header : List ℕ) → 1 ≤ size → Stands sealer (new_sealing_session m None size id)
    → header ≡ beginning (new_sealing_session m None size id) → Appends before now header → Sealing m size id [] before now sealer
sealing_first m size id before now sealer header wide stands is put =
    let begun = begin_fed m None size id wide in
    record {
      session = new_sealing_session m None size id;
      stands = stands;
      is_fed = begun.is_fed;
      materials = refl;
      size = refl;
      id = refl;
      taken = refl;
      gained = subst (λ (h : List ℕ). Appends before now h) (is ∙ sym begun.given) put;
    }

module _ {R : Type 0} (state : R → SinkState) (m : EncMaterialsValue) (size : ℕ) (id text : List ℕ) (before : Option (List ℕ)) (mid after : R) (old : Sealer)
    (sealing : Sealing m size id text before (state mid).written old) where
  -- a piece was fed
  pub sealing_more : (piece : List ℕ) (new : Sealer) → ((v : SealingValue) → Stands old v → IsFeeding v piece → FeedsSealerPiece {T = Unit {0}} (λ a b bytes. SinkTakes (state a) (state b) bytes)
      (λ a b bytes (error : Failed). SinkFails (state a) (state b) bytes) v piece mid after new (Ok tt)) → Sealing m size id (text ++ piece) before (state after).written new
  sealing_more piece new fed_so =
      let v : SealingValue = sealing.session in
      let taken = fed_so v sealing.stands (is_feeding v piece sealing.is_fed) in
      let all = feeds v piece sealing.is_fed in
      let whole = all.whole taken.none in
      record {
        session = fed v piece;
        stands = taken.stands;
        is_fed = whole.1;
        materials = all.same.materials ∙ sealing.materials;
        size = all.same.size ∙ sealing.size;
        id = all.same.id ∙ sealing.id;
        taken = whole.0 ∙ ap (λ (t : List ℕ). t ++ piece) sealing.taken;
        gained = subst (λ (g : List ℕ). Appends before (state after).written g) (sym all.given)
            (Appends-trans before (state mid).written (state after).written (given_so_far v) (fed_out v piece) sealing.gained taken.taken.gained);
      }

  -- the message was finished
  pub sealing_ends : (result : Result (Unit {0}) (FeedError SealError Failed)) → ((v : SealingValue) → Stands old v → SealerFinishes (λ a b bytes. SinkTakes (state a) (state b) bytes)
      (λ a b bytes (error : Failed). SinkFails (state a) (state b) bytes) v mid after result) → OnOk result (Appends before (state after).written (message_of m size id text))
  sealing_ends (Err error) ends = tt
  sealing_ends (Ok done) ends =
      let v : SealingValue = sealing.session in
      let whole : given_so_far v ++ (sealing_finished v).out ≡ message_of m size id text =
      finishes v sealing.is_fed ∙ (λ i. message_of (sealing.materials i) (sealing.size i) (sealing.id i) (sealing.taken i)) in
      subst (λ (b : List ℕ). Appends before (state after).written b) whole
      (Appends-trans before (state mid).written (state after).written (given_so_far v) (sealing_finished v).out sealing.gained (ends v sealing.stands).1.gained)
