-- A piece is fed to a sealer whose frames are gathered before a receiver.
use Rattle.std.proofs.Common.{◌≡◌, ℕ, ◌≤◌, List, [], ◌++◌, length, Ok, Err, subst, sym}
use Rattle.esdk_base.specs.declared.receiver.FeedError.TheVariants as fed_errors
use Rattle.stream_seal.specs.declared.errors.SealError.{SealError}
use Rattle.stream_seal.specs.declared.errors.SealError.TheVariants as seals
use Rattle.stream_seal.specs.declared.session.Sealer.{Sealer}
use Rattle.stream_seal.specs.Feeding.{fed_out}
use Rattle.stream_seal.specs.Receiving.{FeedsSealerPiece, SealerFedShort, SealerFedWhole}
use Rattle.stream_seal.specs.Session.{SealingValue}
use Rattle.gathered_output.specs.declared.gathering.Gathering.{Gathering}
use Rattle.gathered_output.specs.Gathering.{FailsAtFirst, GatheringFails, GatheringTakes}
use Rattle.gathered_output.proofs.Handing.{all_taken, first_fail, front_fails, last_fail}
use Rattle.esdk_encrypt.specs.Writing.{FedInto, FeedsPiece}

-- between a receiver that is the first, and one that is the last
moved : {R : Type 0} (so : R → R → Type 0) (first before last after : R) → first ≡ before → after ≡ last → so first last → so before after
moved so first before last after from is is_so = subst (λ r. so r after) from (subst (λ s. so first s) (sym is) is_so)

module _ {R E : Type 0} (takes : R → R → List ℕ → Type 0) (fails : R → R → List ℕ → E → Type 0) (v : SealingValue) (piece : List ℕ) (old mid : Gathering R) (sealer : Sealer) where
  -- what feeding the piece into the gathering receiver comes to
  abbrev Gathered : FedInto E → Type 0
  Gathered fed = FeedsSealerPiece (GatheringTakes takes) (GatheringFails fails) v piece old mid sealer fed

  -- it took what those bytes give that weren't refused
  pub short_taken : (error : SealError) → Gathered (Err (fed_errors.Machine error)) → GatheringTakes takes old mid (fed_out v piece)
  short_taken (seals.Refusal refusal) feeds = feeds.taken
  short_taken error feeds = absurd feeds

  module _ (none : old.gathered.now ≡ []) (before after : R) (from : old.output.now ≡ before) where
    -- the receiver failed before the piece was fed to its end
    pub fails_early : (error : E) → Gathered (Err (fed_errors.Receiver error)) → after ≡ mid.output.now → FailsAtFirst fails before after (fed_out v piece) error
    fails_early error feeds is =
        moved (λ r s. FailsAtFirst fails r s (fed_out v piece) error) old.output.now before mid.output.now after from is
        (front_fails takes fails old.output.now mid.output.now (fed_out v piece) feeds.given (fed_out feeds.still.now feeds.rest) error feeds.still.way.out
        (first_fail takes fails old mid none feeds.given error feeds.failed))

    module _ (takes_more : (r s t : R) (first second : List ℕ) → takes r s first → takes s t second → takes r t (first ++ second))
        (behind : (r s t : R) (first second : List ℕ) (error : E) → takes r s first → fails s t second error → fails r t (first ++ second) error)
        (new : R) (is : after ≡ new) where
      -- all was handed on
      pub fed_whole : Gathered (Ok tt) → takes mid.output.now new mid.gathered.now → SealerFedWhole takes v piece before after sealer
      fed_whole feeds took = moved (λ r s. SealerFedWhole takes v piece r s sealer) old.output.now before new after from is (record {
        stands = feeds.stands;
        none = feeds.none;
        taken = all_taken takes fails takes_more behind old mid new none (fed_out v piece) feeds.taken took;
      })

      pub fed_short : (error : SealError) → Gathered (Err (fed_errors.Machine error)) → takes mid.output.now new mid.gathered.now
          → FeedsPiece takes fails v piece before after sealer (Err (fed_errors.Machine error))
      fed_short (seals.Refusal refusal) feeds took = moved (λ r s. SealerFedShort takes v piece refusal r s sealer) old.output.now before new after from is (record {
        stands = feeds.stands;
        why = feeds.why;
        taken = all_taken takes fails takes_more behind old mid new none (fed_out v piece) feeds.taken took;
      })
      fed_short error feeds took = absurd feeds

      -- or the receiver failed at what was held
      pub fails_late : (error : E) → GatheringTakes takes old mid (fed_out v piece) → (1 ≤ length mid.gathered.now) × fails mid.output.now new mid.gathered.now error
          → FailsAtFirst fails before after (fed_out v piece) error
      fails_late error took failed = moved (λ r s. FailsAtFirst fails r s (fed_out v piece) error) old.output.now before new after from is
          (last_fail takes fails takes_more behind old mid new none (fed_out v piece) error took failed)
