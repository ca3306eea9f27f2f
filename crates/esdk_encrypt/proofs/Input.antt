-- An input that is fed to a sealer piece by piece, whose frames a receiver takes.
use Rattle.std.proofs.Common.{◌≡◌, ◌∙◌, ℕ, ◌+◌, ◌-◌, ◌<◌, ◌≤◌, ◌^◌, List, [], ◌++◌, length, take, true, OnOk, Some, Ok, Err, inr, inl, refl, sym, ap, subst, arith, length-append, length-take}
use Rattle.std.specs.Io.KnownBytes.{IsAtEnd}
use Rattle.esdk_base.specs.declared.receiver.FeedError.TheVariants as fed_errors
use Rattle.esdk_base.specs.Streams.{SourceState}
use Rattle.esdk_fields.specs.Counts.{Rose}
use Rattle.esdk_fields.specs.declared.refusals.Outside.TheVariants as outsides
use Rattle.esdk_fields.specs.declared.refusals.Refusal.{Refusal}
use Rattle.esdk_fields.specs.declared.refusals.Refusal.TheVariants as refusals
use Rattle.keyring_trait.specs.Materials.{EncMaterialsValue}
use Rattle.stream_seal.specs.declared.errors.SealError.TheVariants as seals
use Rattle.stream_seal.specs.declared.session.Sealer.{Sealer}
use Rattle.stream_seal.specs.Feeding.{IsFeeding, fed_out, feed_refusal, frames_given}
use Rattle.stream_seal.specs.Session.{SealingValue}
use Rattle.stream_seal.specs.Stands.{Stands}
use Rattle.stream_seal.specs.Start.{most_frames, most_text, start_of}
use Rattle.stream_seal.proofs.Feeding.{is_feeding, refuses_piece}
use Rattle.stream_seal.proofs.GivenFrames.{frames_of_most}
use Rattle.gathered_output.specs.Gathering.{FailsAtFirst}
use Rattle.whole_input.specs.Taken.{Came, EndSeen, PieceCame}
use Rattle.whole_input.specs.declared.pieces.End.{End}
use Rattle.whole_input.specs.declared.pieces.End.TheVariants as ends
use Rattle.whole_input.specs.Pieces.{NextPiece, PiecesValue, most_piece}
use Rattle.whole_input.proofs.Coming.{came_more, came_none, came_still}
use Rattle.esdk_encrypt.specs.declared.errors.EncryptError.{EncryptError}
use Rattle.esdk_encrypt.specs.declared.errors.EncryptError.TheVariants as errors
use Rattle.esdk_encrypt.specs.Encrypt.{EncryptNeedsTooManyFrames, EncryptInputIsTooLong, EncryptSourceFails, StopsSo, header_and_frames, written_so_far}
use Rattle.esdk_encrypt.specs.Gaining.{gaining}
pub use Rattle.esdk_encrypt.specs.Gaining.{sink_fails}
use Rattle.esdk_encrypt.specs.Writing.{FedInto, FeedsPiece, IsNamed, WritesAs, sealing_of_text}
use Rattle.esdk_encrypt.proofs.Sessions.{frames_beyond, gains_more, is_fed, names_frames, room_then, session_then, written_none}

-- ---- the input so far

-- So many bytes came and were fed, no read failed, and the receiver took what is written while the input goes on.
pub record FeedingInput {R : Type 0} (takes : R → R → List ℕ → Type 0) (m : EncMaterialsValue) (size : ℕ) (id : List ℕ) (input now : SourceState) (output put : R) (sealer : Sealer) (count : ℕ) : Type 0 where
  pub text : List ℕ
  pub came : Came input now text
  pub faults : now.faults ≡ input.faults
  pub count_is : count ≡ length text
  pub short : length text ≤ most_text size
  pub stands : Stands sealer (sealing_of_text m size id text)
  pub gained : takes output put (written_so_far m size id text)

-- The whole input was fed, and the receiver took what is written while it goes on.
pub record IsFedInput {R : Type 0} (takes : R → R → List ℕ → Type 0) (m : EncMaterialsValue) (size : ℕ) (id : List ℕ) (input taken : SourceState) (output put : R) (sealer : Sealer) : Type 0 where
  pub text : List ℕ
  pub came : Came input taken text
  pub end : EndSeen input taken text
  pub short : length text ≤ most_text size
  pub stands : Stands sealer (sealing_of_text m size id text)
  pub gained : takes output put (written_so_far m size id text)

-- where no piece came, no more was given
pub ended_most : (count : ℕ) (now next : SourceState) (v : PiecesValue) (end : End) → NextPiece {T = Unit {0}} count now next v (Err end) → next.given ≤ now.given
ended_most count now next v ends.Seen came = omega (arith, came.0.most)
ended_most count now next v ends.Failed came = omega (arith, came.0.most)
ended_most count now next v ends.TooLong came = omega (arith, ap (λ (s : SourceState). s.given) came.0)

module _ {R : Type 0} (takes : R → R → List ℕ → Type 0) (m : EncMaterialsValue) (size : ℕ) (id : List ℕ) (wide : 1 ≤ size) where
  -- the header was put
  pub feeding_none : (input : SourceState) (output put : R) (sealer : Sealer) (count : ℕ) (header : List ℕ) → header ≡ start_of m size id → Stands sealer (sealing_of_text m size id [])
      → takes output put header → count ≡ 0 → FeedingInput takes m size id input input output put sealer count
  feeding_none input output put sealer count header is stands gained none = record {
    text = [];
    came = came_none input;
    faults = refl;
    count_is = none;
    short = omega arith;
    stands = stands;
    gained = subst (λ (g : List ℕ). takes output put g) (is ∙ sym (written_none m size id)) gained;
  }

  module _ {E : Type 0} (fails : R → R → List ℕ → E → Type 0) (input now : SourceState) (output mid : R) (old : Sealer) (count : ℕ)
      (feeding : FeedingInput takes m size id input now output mid old count) where
    -- ---- no piece came

    unfoldable pub input_ends : (next : SourceState) → Came now next [] → IsAtEnd next.left → next.ended ≡ true → next.faults ≡ now.faults → count < 2 ^ 62 → IsFedInput takes m size id input next output mid old
    input_ends next none end seen faults few = record {
      text = feeding.text;
      came = came_still input now next feeding.text feeding.came none;
      end = record { end = end; seen = seen; faults = faults ∙ feeding.faults; few = omega (arith, few, feeding.count_is) };
      short = feeding.short;
      stands = feeding.stands;
      gained = feeding.gained;
    }

    pub input_fails : (next : SourceState) → Came now next [] → Rose now.faults next.faults → EncryptSourceFails m size id input next (gaining takes fails output mid)
    input_fails next none rose = record {
      text = feeding.text;
      came = came_still input now next feeding.text feeding.came none;
      rose = omega (arith, rose, feeding.faults);
      short = feeding.short;
      gained = feeding.gained;
    }

    pub input_long : (next : SourceState) → next ≡ now → count ≡ 2 ^ 62 → EncryptInputIsTooLong m size id input next (gaining takes fails output mid)
    input_long next same many = subst (λ (s : SourceState). EncryptInputIsTooLong m size id input s (gaining takes fails output mid)) (sym same) (record {
      text = feeding.text;
      came = feeding.came;
      most = record { faults = feeding.faults; count = omega (arith, many, feeding.count_is) };
      short = feeding.short;
      gained = feeding.gained;
    })

    -- ---- a piece came

    fed_ok : (P : Type 0) (r : FedInto E) → WritesAs r (Ok tt) → OnOk r P → P
    fed_ok P (Ok done) writes so = so
    fed_ok P (Err (fed_errors.Receiver failed)) writes so = absurd cc
    fed_ok P (Err (fed_errors.Machine (seals.Refusal refusal))) writes so = absurd cc
    fed_ok P (Err (fed_errors.Machine error)) writes so = absurd writes

    -- where it was fed to its end, what is so then
    pub feeding_ok : (piece : List ℕ) (P : Type 0) (r : FedInto E) → WritesAs r (Ok tt) → ((v : SealingValue) → Stands old v → IsFeeding v piece → OnOk r P) → P
    feeding_ok piece P r writes so = fed_ok P r writes (so (sealing_of_text m size id feeding.text) feeding.stands
        (is_feeding (sealing_of_text m size id feeding.text) piece (is_fed m size id feeding.text wide feeding.short)))

    module _ (piece : List ℕ) (put : R) (new : Sealer) where
      fed_then : (r : FedInto E) → ((v : SealingValue) → Stands old v → IsFeeding v piece → FeedsPiece takes fails v piece mid put new r)
          → FeedsPiece takes fails (sealing_of_text m size id feeding.text) piece mid put new r
      fed_then r feeds = feeds (sealing_of_text m size id feeding.text) feeding.stands
          (is_feeding (sealing_of_text m size id feeding.text) piece (is_fed m size id feeding.text wide feeding.short))

      names : (v : SealingValue) (r : FedInto E) → FeedsPiece takes fails v piece mid put new r → IsNamed r
      names v (Ok done) feeds = tt
      names v (Err (fed_errors.Receiver failed)) feeds = tt
      names v (Err (fed_errors.Machine (seals.Refusal refusal))) feeds = tt
      names v (Err (fed_errors.Machine error)) feeds = absurd feeds

      -- its sealer fails only with a refusal
      pub feeding_names : (r : FedInto E) → ((v : SealingValue) → Stands old v → IsFeeding v piece → FeedsPiece takes fails v piece mid put new r) → IsNamed r
      feeding_names r feeds = names (sealing_of_text m size id feeding.text) r (fed_then r feeds)

      module _ (takes_more : (r s t : R) (xs ys : List ℕ) → takes r s xs → takes s t ys → takes r t (xs ++ ys)) (next : SourceState) (came : PieceCame most_piece now next piece) where
        came_then : Came input next (feeding.text ++ piece)
        came_then = came_more input now next feeding.text piece feeding.came came.came

        pub feeding_more : (r : FedInto E) (sum : ℕ) → sum ≡ count + length piece → WritesAs r (Ok tt)
            → ((v : SealingValue) → Stands old v → IsFeeding v piece → FeedsPiece takes fails v piece mid put new r)
            → FeedingInput takes m size id input next output put new sum
        feeding_more (Ok done) sum sum_is writes feeds =
            let fed = fed_then (Ok done) feeds in
            let room = room_then m size id feeding.text piece wide feeding.short fed.none in
            record {
              text = feeding.text ++ piece;
              came = came_then;
              faults = came.faults ∙ feeding.faults;
              count_is = omega (arith, sum_is, feeding.count_is, length-append feeding.text piece);
              short = omega (arith, ap length room, length-take (most_text size) (feeding.text ++ piece));
              stands = subst (λ (v : SealingValue). Stands new v) (session_then m size id feeding.text piece wide feeding.short fed.none) fed.stands;
              gained = subst (λ (t : List ℕ). takes output put (written_so_far m size id t)) room
                  (gains_more m size id feeding.text piece takes takes_more output mid put wide feeding.short feeding.gained fed.taken);
            }
        feeding_more (Err (fed_errors.Receiver failed)) sum sum_is writes feeds = absurd cc
        feeding_more (Err (fed_errors.Machine (seals.Refusal refusal))) sum sum_is writes feeds = absurd cc
        feeding_more (Err (fed_errors.Machine error)) sum sum_is writes feeds = absurd writes

        -- a byte came for which there is no room
        too_many : (refusal : Refusal) → feed_refusal (sealing_of_text m size id feeding.text) piece ≡ Some refusal → refusal ≡ refusals.TooManyFrames
            → takes mid put (fed_out (sealing_of_text m size id feeding.text) piece) → EncryptNeedsTooManyFrames m size id input next (gaining takes fails output put)
        too_many refusal why named gained =
            let all : List ℕ = feeding.text ++ piece in
            let most : ℕ = most_text size in
            let many : most < length all = ((refuses_piece (sealing_of_text m size id feeding.text) piece).many.0 (why ∙ ap Some named)).1 in
            let long : length (take most all) ≡ most = omega (arith, length-take most all, many) in
            let frames : frames_given (length (take most all)) size ≡ most_frames - 1 = ap (λ (n : ℕ). frames_given n size) long ∙ frames_of_most size wide in
            record {
              text = all;
              came = came_then;
              faults = came.faults ∙ feeding.faults;
              many = many;
              last = record { before = feeding.text; piece = piece; all = refl; few = came.fits; was = feeding.short };
              gained = subst (λ (n : ℕ). takes output put (header_and_frames m size id (take most all) n)) frames
                  (gains_more m size id feeding.text piece takes takes_more output mid put wide feeding.short feeding.gained gained);
            }

        -- the receiver failed at some of what the piece gives
        put_fails : (failed : E) → FailsAtFirst fails mid put (fed_out (sealing_of_text m size id feeding.text) piece) failed
            → StopsSo m size id input next (gaining takes fails output put) (errors.Outside outsides.SinkFault)
        put_fails failed fed = record {
          text = feeding.text ++ piece;
          came = came_then;
          faults = came.faults ∙ feeding.faults;
          at = inr (inl (record {
            before = feeding.text;
            piece = piece;
            all = refl;
            few = came.fits;
            was = record {
              short = feeding.short;
              stopped = frames_beyond m size id feeding.text piece takes fails output mid put fed.given fed.rest failed wide feeding.short fed.some fed.is
                  feeding.gained fed.failed;
            };
          }));
        }

        pub feeding_fails : (r : FedInto E) (error : EncryptError) → WritesAs r (Err error)
            → ((v : SealingValue) → Stands old v → IsFeeding v piece → FeedsPiece takes fails v piece mid put new r)
            → StopsSo m size id input next (gaining takes fails output put) error
        feeding_fails (Ok done) error writes feeds = absurd cc
        feeding_fails (Err (fed_errors.Receiver failed)) error writes feeds =
            let is : errors.Outside outsides.SinkFault ≡ error = cc in
            subst (λ (e : EncryptError). StopsSo m size id input next (gaining takes fails output put) e) is (put_fails failed (fed_then (Err (fed_errors.Receiver failed)) feeds))
        feeding_fails (Err (fed_errors.Machine (seals.Refusal refusal))) error writes feeds =
            let fed = fed_then (Err (fed_errors.Machine (seals.Refusal refusal))) feeds in
            let named = names_frames m size id feeding.text piece refusal fed.why in
            let is : errors.Refusal refusal ≡ error = cc in
            subst (λ (e : EncryptError). StopsSo m size id input next (gaining takes fails output put) e) (ap errors.Refusal (sym named) ∙ is)
            (too_many refusal fed.why named fed.taken)
        feeding_fails (Err (fed_errors.Machine error)) named writes feeds = absurd writes
