-- The session of a message whose text comes piece by piece, and what is written of it.
use Rattle.std.proofs.Common.{◌≡◌, ◌∙◌, ℕ, ◌≤◌, List, [], ◌++◌, length, take, Bool, true, false, nat_le, if◌then◌else◌, is_some, Some, None, refl, sym, ap, subst, append-nil}
use Rattle.esdk_fields.specs.declared.refusals.Refusal.{Refusal}
use Rattle.esdk_fields.specs.declared.refusals.Refusal.TheVariants as refusals
use Rattle.body_format.specs.Written.{frame_count, regular_frames}
use Rattle.keyring_trait.specs.Materials.{EncMaterialsValue}
use Rattle.stream_seal.specs.Feeding.{SealerIsFed, fed, fed_out, feed_refusal, frames_given, given_so_far}
use Rattle.stream_seal.specs.Session.{SealingValue, new_sealing_session}
use Rattle.stream_seal.specs.Start.{message_of, most_text, start_of}
use Rattle.stream_seal.proofs.Feeding.{feeds, last_held}
use Rattle.esdk_encrypt.specs.Encrypt.{written_so_far}
use Rattle.esdk_encrypt.specs.Gaining.{FailsBeyond}
use Rattle.esdk_encrypt.specs.Writing.{sealing_of_text}

-- before the first frame the header is all
pub written_none : (m : EncMaterialsValue) (size : ℕ) (id : List ℕ) → written_so_far m size id [] ≡ start_of m size id
unfolding frame_count regular_frames
written_none m size id = append-nil (start_of m size id)

-- nothing was taken yet
pub opened_is : (m : EncMaterialsValue) (size : ℕ) (id : List ℕ) → new_sealing_session m None size id ≡ sealing_of_text m size id []
unfolding frame_count
opened_is m size id = refl

module _ (m : EncMaterialsValue) (size : ℕ) (id text : List ℕ) where
  pub is_fed : 1 ≤ size → length text ≤ most_text size → SealerIsFed (sealing_of_text m size id text)
  is_fed wide short = record { wide = wide; on = refl; short = short; handed = refl; quiet = refl }

  -- what was given so far is what is written
  pub given_is : given_so_far (sealing_of_text m size id text) ≡ written_so_far m size id text
  unfolding given_so_far
  given_is = refl

  -- the final frame follows what is written while the input goes on
  pub more_follows : 1 ≤ size → (more : List ℕ) × (message_of m size id text ≡ written_so_far m size id text ++ more)
  unfolding given_so_far
  more_follows wide = (_, last_held (sealing_of_text m size id text) wide refl)

  module _ (piece : List ℕ) where
    -- what was given then is what is written of that text
    given_then : given_so_far (fed (sealing_of_text m size id text) piece) ≡ written_so_far m size id (take (most_text size) (text ++ piece))
    unfolding given_so_far fed
    given_then = refl

    -- what the piece gives stands behind what was written before
    pub written_then : 1 ≤ size → length text ≤ most_text size
        → written_so_far m size id text ++ fed_out (sealing_of_text m size id text) piece ≡ written_so_far m size id (take (most_text size) (text ++ piece))
    written_then wide short =
        ap (λ (g : List ℕ). g ++ fed_out (sealing_of_text m size id text) piece) (sym given_is)
        ∙ sym (feeds (sealing_of_text m size id text) piece (is_fed wide short)).given ∙ given_then

    -- the frames of a piece were taken behind what was written before
    pub gains_more : {R : Type 0} (takes : R → R → List ℕ → Type 0) → ((r s t : R) (xs ys : List ℕ) → takes r s xs → takes s t ys → takes r t (xs ++ ys))
        → (old mid new : R) → 1 ≤ size → length text ≤ most_text size → takes old mid (written_so_far m size id text) → takes mid new (fed_out (sealing_of_text m size id text) piece)
        → takes old new (written_so_far m size id (take (most_text size) (text ++ piece)))
    gains_more takes takes_more old mid new wide short before more =
        subst (λ (g : List ℕ). takes old new g) (written_then wide short)
        (takes_more old mid new (written_so_far m size id text) (fed_out (sealing_of_text m size id text) piece) before more)

    -- or the receiver failed at some of them
    pub frames_beyond : {R E : Type 0} (takes : R → R → List ℕ → Type 0) (fails : R → R → List ℕ → E → Type 0) (old mid new : R) (given rest : List ℕ) (error : E)
        → 1 ≤ size → length text ≤ most_text size → 1 ≤ length given → fed_out (sealing_of_text m size id text) piece ≡ given ++ rest
        → takes old mid (written_so_far m size id text) → fails mid new given error
        → FailsBeyond takes fails old new (written_so_far m size id text) (written_so_far m size id (take (most_text size) (text ++ piece)))
    frames_beyond takes fails old mid new given rest error wide short some out before failed = record {
      between = mid;
      given = given;
      rest = rest;
      error = error;
      some = some;
      is = sym (written_then wide short) ∙ ap (λ (g : List ℕ). written_so_far m size id text ++ g) out;
      taken = before;
      failed = failed;
    }

    -- where no step failed, a message has room for the piece, and the session took it
    pub room_then : 1 ≤ size → length text ≤ most_text size → feed_refusal (sealing_of_text m size id text) piece ≡ None → take (most_text size) (text ++ piece) ≡ text ++ piece
    unfolding fed
    room_then wide short none = ((feeds (sealing_of_text m size id text) piece (is_fed wide short)).whole none).0

    pub session_then : 1 ≤ size → length text ≤ most_text size → feed_refusal (sealing_of_text m size id text) piece ≡ None
        → fed (sealing_of_text m size id text) piece ≡ sealing_of_text m size id (text ++ piece)
    unfolding fed
    session_then wide short none =
        let after : List ℕ → Bool → SealingValue = λ t b. record {
          materials = m;
          declared = None;
          size = size;
          id = id;
          taken = t;
          handed = frames_given (length t) size;
          stopped = b;
          out = [];
        } in
        λ i. after (room_then wide short none i) (is_some (none i))

    -- where one did, it has no room
    no_room : (b : Bool) (refusal : Refusal) → (if b then None else Some refusals.TooManyFrames) ≡ Some refusal → refusal ≡ refusals.TooManyFrames
    no_room true refusal is = absurd cc
    no_room false refusal is = cc

    pub names_frames : (refusal : Refusal) → feed_refusal (sealing_of_text m size id text) piece ≡ Some refusal → refusal ≡ refusals.TooManyFrames
    unfolding feed_refusal
    names_frames refusal is = no_room (nat_le (length (text ++ piece)) (most_text size)) refusal is
