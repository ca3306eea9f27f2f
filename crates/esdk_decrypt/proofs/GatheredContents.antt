-- A piece is fed to an opener whose contents are gathered before a sink.
use Rattle.std.proofs.Common.{◌≡◌, ℕ, ◌≤◌, List, [], length, Ok, Err, sym, subst, ap, ◌∙◌, inl, inr, arith, length-append}
use Rattle.std.proofs.lemmas.List.{take_all}
use Rattle.esdk_base.specs.declared.receiver.FeedError.TheVariants as feeds
use Rattle.esdk_base.specs.declared.source.Failed.{Failed}
use Rattle.esdk_base.specs.Receiver.{PutsAll, SinkFails}
use Rattle.esdk_base.specs.ReceiverLaws.{fails_behind, takes_more}
use Rattle.esdk_base.specs.Sink.{AppendsFront}
use Rattle.esdk_base.specs.Streams.{SinkState}
use Rattle.keyring_trait.specs.Manager.{ManagerNow}
use Rattle.stream_open.specs.declared.errors.OpenError.{OpenError}
use Rattle.stream_open.specs.declared.errors.OpenError.TheVariants as opens
use Rattle.stream_open.specs.declared.session.Opener.{Opener}
use Rattle.stream_open.specs.Receiving.{FedShort, FedTo, FedWhole, FeedsOpenerPiece}
use Rattle.stream_open.specs.Session.{OpeningValue}
use Rattle.whole_input.proofs.Fronts.{front_longer}
use Rattle.gathered_output.specs.declared.gathering.Gathering.{Gathering}
use Rattle.gathered_output.specs.Gathering.{FailsAtFirst, GatheringFails, GatheringTakes, IsSameGathering}
use Rattle.gathered_output.proofs.Handing.{all_taken, first_fail, last_fail}
use Rattle.esdk_decrypt.specs.Underway.{FailsAtSome, FedInto, FeedsPiece, PutsFront}

-- between a sink that is the first, and one that is the last
moved : {O : Type 0} (so : O → O → Type 0) (first before last after : O) → first ≡ before → after ≡ last → so first last → so before after
moved so first before last after from is is_so = subst (λ r. so r after) from (subst (λ s. so first s) (sym is) is_so)

-- a sink that failed at what comes first of some bytes failed at them
fails_longer : {O : Type 0} (sink : O → SinkState) (r s : O) (bytes : List ℕ) (error : Failed) → FailsAtFirst (PutsFront sink) r s bytes error → FailsAtSome sink r s bytes
fails_longer sink r s bytes error failed = (
  omega (arith, failed.some, ap length failed.is, length-append failed.given failed.rest),
  record {
    front = subst (λ (x : List ℕ). AppendsFront (sink r).written (sink s).written x) (sym failed.is) (front_longer (sink r).written (sink s).written failed.given failed.rest failed.failed.front);
    rose = failed.failed.rose;
  },
)

module _ {M O : Type 0} (state : M → ManagerNow) (sink : O → SinkState) (now : ℕ) (v : OpeningValue) (piece : List ℕ) (first next : M) (old mid : Gathering O) (opener : Opener) where
  -- what feeding the piece into the gathering receiver comes to
  abbrev Gathered : FedInto → Type 0
  Gathered fed = FeedsOpenerPiece state (GatheringTakes (PutsAll sink)) (GatheringFails (PutsFront {E = Failed} sink)) now v piece first next old mid opener fed

  same_when : mid ≡ old → IsSameGathering old mid
  same_when is = record { output = ap (λ (g : Gathering O). g.output.ghost_name) is; gathered = ap (λ (g : Gathering O). g.gathered.ghost_name) is }

  -- it has the same sink before it still
  pub same_then : (fed : FedInto) → Gathered fed → IsSameGathering old mid
  same_then (Ok done) fed = fed.taken.0
  same_then (Err (feeds.Receiver error)) fed = fed.failed.0
  same_then (Err (feeds.Machine opens.Stopped)) fed = same_when fed.untaken
  same_then (Err (feeds.Machine (opens.Fault fault))) fed = fed.taken.0
  same_then (Err (feeds.Machine opens.KeyringFault)) fed = fed.taken.0
  same_then (Err (feeds.Machine opens.Memory)) fed = fed.taken.0

  module _ (none : old.gathered.now ≡ []) where
    -- where nothing was given nothing is held
    held_none : mid ≡ old → mid.gathered.now ≡ []
    held_none is = ap (λ (g : Gathering O). g.gathered.now) is ∙ none

    -- the sink failed before the piece was fed to its end
    early : (error : Failed) → Gathered (Err (feeds.Receiver error)) → FeedsPiece state sink now v piece first next old.output.now mid.output.now opener (Err (feeds.Receiver error))
    early error fed = inl (record {
      count = fed.count;
      within = fed.within;
      given = fed.given;
      some = fed.some;
      fed = fed.fed;
      failed = (fails_longer sink old.output.now mid.output.now fed.given error (first_fail (PutsAll sink) (PutsFront sink) old mid none fed.given error fed.failed)).1;
    })

    module _ (new : O) where
      abbrev AllTaken : List ℕ → Type 0
      AllTaken given = GatheringTakes (PutsAll sink) old mid given → PutsAll sink mid.output.now new mid.gathered.now → PutsAll sink old.output.now new given

      taken_then : (given : List ℕ) → AllTaken given
      taken_then given took handed =
          all_taken (PutsAll sink) (PutsFront {E = Failed} sink) (λ r s t xs ys. takes_more (sink r) (sink s) (sink t) xs ys) (λ r s t xs ys e. fails_behind (sink r) (sink s) (sink t) xs ys) old mid new none given took handed

      failed_then : (given : List ℕ) (error : Failed) → GatheringTakes (PutsAll sink) old mid given → (1 ≤ length mid.gathered.now) × SinkFails (sink mid.output.now) (sink new) mid.gathered.now
          → FailsAtSome sink old.output.now new given
      failed_then given error took failed =
          fails_longer sink old.output.now new given error
          (last_fail (PutsAll sink) (PutsFront {E = Failed} sink) (λ r s t xs ys. takes_more (sink r) (sink s) (sink t) xs ys) (λ r s t xs ys e. fails_behind (sink r) (sink s) (sink t) xs ys) old mid new none given error took failed)

      untouched : (mid.gathered.now ≡ [] → new ≡ mid.output.now) → mid ≡ old → new ≡ old.output.now
      untouched same is = same (held_none is) ∙ ap (λ (g : Gathering O). g.output.now) is

      -- all was handed on
      whole_fed : Gathered (Ok tt) → PutsAll sink mid.output.now new mid.gathered.now → (mid.gathered.now ≡ [] → new ≡ mid.output.now)
          → FedWhole state (PutsAll sink) now v piece first next old.output.now new opener
      whole_fed fed handed same =
          record { given = fed.given; fed = fed.fed; taken = taken_then fed.given fed.taken handed; nothing = λ e. untouched same (fed.nothing e) }

      short_with : (takes : O → O → List ℕ → Type 0) (error : OpenError) (fed : FedShort state (GatheringTakes (PutsAll sink)) now v piece error first next old mid opener)
          → takes old.output.now new fed.given → (fed.given ≡ [] → new ≡ old.output.now) → FedShort state takes now v piece error first next old.output.now new opener
      short_with takes error fed took nothing = record {
        on = fed.on;
        count = fed.count;
        within = fed.within;
        reached = fed.reached;
        given = fed.given;
        feeds = fed.feeds;
        heard = fed.heard;
        hears = fed.hears;
        bears = fed.bears;
        unasked = fed.unasked;
        kept = fed.kept;
        why = fed.why;
        stands = fed.stands;
        taken = took;
        nothing = nothing;
      }

      short_handed : (error : OpenError) → FedShort state (GatheringTakes (PutsAll sink)) now v piece error first next old mid opener → PutsAll sink mid.output.now new mid.gathered.now
          → (mid.gathered.now ≡ [] → new ≡ mid.output.now) → FedShort state (PutsAll sink) now v piece error first next old.output.now new opener
      short_handed error fed handed same = short_with (PutsAll sink) error fed (taken_then fed.given fed.taken handed) (λ e. untouched same (fed.nothing e))

      short_fed : (error : OpenError) → Gathered (Err (feeds.Machine error)) → PutsAll sink mid.output.now new mid.gathered.now → (mid.gathered.now ≡ [] → new ≡ mid.output.now)
          → FeedsPiece state sink now v piece first next old.output.now new opener (Err (feeds.Machine error))
      short_fed opens.Stopped fed handed same = record { off = fed.off; stands = fed.stands; unasked = fed.unasked; untaken = untouched same fed.untaken }
      short_fed (opens.Fault fault) fed handed same = short_handed (opens.Fault fault) fed handed same
      short_fed opens.KeyringFault fed handed same = short_handed opens.KeyringFault fed handed same
      short_fed opens.Memory fed handed same = short_handed opens.Memory fed handed same

      -- or the sink failed at what was held: behind the whole piece
      behind_piece : (error : Failed) → Gathered (Ok tt) → (1 ≤ length mid.gathered.now) × SinkFails (sink mid.output.now) (sink new) mid.gathered.now
          → FeedsPiece state sink now v piece first next old.output.now new opener (Err (feeds.Receiver error))
      behind_piece error fed failed =
          let both = failed_then fed.given error fed.taken failed in
          inl (record {
            count = length piece;
            within = omega arith;
            given = fed.given;
            some = both.0;
            fed = subst (λ (p : List ℕ). FedTo state now v p fed.given first next opener) (sym (take_all (length piece) piece (omega arith))) fed.fed;
            failed = both.1;
          })

      late_short : (error : OpenError) → FedShort state (GatheringTakes (PutsAll sink)) now v piece error first next old mid opener → Failed
          → (1 ≤ length mid.gathered.now) × SinkFails (sink mid.output.now) (sink new) mid.gathered.now → FedShort state (FailsAtSome sink) now v piece error first next old.output.now new opener
      late_short error fed put failed =
          let both = failed_then fed.given put fed.taken failed in
          short_with (FailsAtSome sink) error fed both (λ e. absurd (omega (arith, both.0, ap length e)))

      -- or where the opener had failed
      behind_error : (stop : OpenError) (error : Failed) → Gathered (Err (feeds.Machine stop)) → (1 ≤ length mid.gathered.now) × SinkFails (sink mid.output.now) (sink new) mid.gathered.now
          → FeedsPiece state sink now v piece first next old.output.now new opener (Err (feeds.Receiver error))
      behind_error opens.Stopped error fed failed = absurd (omega (arith, failed.0, ap length (held_none fed.untaken)))
      behind_error (opens.Fault fault) error fed failed = inr (opens.Fault fault, late_short (opens.Fault fault) fed error failed)
      behind_error opens.KeyringFault error fed failed = inr (opens.KeyringFault, late_short opens.KeyringFault fed error failed)
      behind_error opens.Memory error fed failed = inr (opens.Memory, late_short opens.Memory fed error failed)

    -- ---- between the sink that was lent and what came back

    module _ (before after : O) (from : old.output.now ≡ before) where
      pub fails_early : (error : Failed) → Gathered (Err (feeds.Receiver error)) → after ≡ mid.output.now → FeedsPiece state sink now v piece first next before after opener (Err (feeds.Receiver error))
      fails_early error fed is =
          moved (λ r s. FeedsPiece state sink now v piece first next r s opener (Err (feeds.Receiver error))) old.output.now before mid.output.now after from is (early error fed)

      module _ (new : O) (is : after ≡ new) where
        pub fed_whole : Gathered (Ok tt) → PutsAll sink mid.output.now new mid.gathered.now → (mid.gathered.now ≡ [] → new ≡ mid.output.now)
            → FedWhole state (PutsAll sink) now v piece first next before after opener
        fed_whole fed handed same =
            moved (λ r s. FedWhole state (PutsAll sink) now v piece first next r s opener) old.output.now before new after from is (whole_fed new fed handed same)

        pub fed_short : (error : OpenError) → Gathered (Err (feeds.Machine error)) → PutsAll sink mid.output.now new mid.gathered.now → (mid.gathered.now ≡ [] → new ≡ mid.output.now)
            → FeedsPiece state sink now v piece first next before after opener (Err (feeds.Machine error))
        fed_short error fed handed same =
            moved (λ r s. FeedsPiece state sink now v piece first next r s opener (Err (feeds.Machine error))) old.output.now before new after from is (short_fed new error fed handed same)

        pub fails_behind_piece : (error : Failed) → Gathered (Ok tt) → (1 ≤ length mid.gathered.now) × SinkFails (sink mid.output.now) (sink new) mid.gathered.now
            → FeedsPiece state sink now v piece first next before after opener (Err (feeds.Receiver error))
        fails_behind_piece error fed failed =
            moved (λ r s. FeedsPiece state sink now v piece first next r s opener (Err (feeds.Receiver error))) old.output.now before new after from is (behind_piece new error fed failed)

        pub fails_behind_error : (stop : OpenError) (error : Failed) → Gathered (Err (feeds.Machine stop)) → (1 ≤ length mid.gathered.now) × SinkFails (sink mid.output.now) (sink new) mid.gathered.now
            → FeedsPiece state sink now v piece first next before after opener (Err (feeds.Receiver error))
        fails_behind_error stop error fed failed =
            moved (λ r s. FeedsPiece state sink now v piece first next r s opener (Err (feeds.Receiver error))) old.output.now before new after from is (behind_error new stop error fed failed)
