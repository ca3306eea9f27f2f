-- What an output gained by one account, and what follows by another that says less.
use Rattle.std.proofs.Common.{◌≡◌, ◌≤◌, ℕ, List, ◌++◌, inl, inr}
use Rattle.stream_seal.specs.Start.{drawn_id}
use Rattle.esdk_base.specs.Streams.{EntropyState, SourceState}
use Rattle.esdk_fields.specs.declared.refusals.Outside.TheVariants as outsides
use Rattle.esdk_fields.specs.declared.refusals.Refusal.TheVariants as refusals
use Rattle.keyring_trait.specs.Materials.{EncMaterialsValue}
use Rattle.esdk_encrypt.specs.declared.errors.EncryptError.{EncryptError}
use Rattle.esdk_encrypt.specs.declared.errors.EncryptError.TheVariants as errors
use Rattle.esdk_encrypt.specs.Encrypt.{EncryptAsked, Encrypts, EncryptEnds, EndsAfter, EncryptSinkFails, StopsSo}
use Rattle.esdk_encrypt.specs.Gaining.{Extent, Front, Gaining, Whole}
use Rattle.esdk_encrypt.proofs.Sessions.{more_follows}

-- ---- a message that was taken whole

module _ (from to : Gaining) (asked : EncryptAsked) (input taken : SourceState) (entropy spent : EntropyState) (encrypts : Encrypts asked input taken from entropy spent) where
  pub encrypts_as : ((bytes : List ℕ) → from.took Whole bytes → to.took Whole bytes) → Encrypts asked input taken to entropy spent
  encrypts_as more = record {
    drawn = encrypts.drawn;
    materials = encrypts.materials;
    started = encrypts.started;
    writes = record {
      text = encrypts.writes.text;
      came = encrypts.writes.came;
      end = encrypts.writes.end;
      short = encrypts.writes.short;
      gained = more _ encrypts.writes.gained;
    };
  }

  -- and the output failed at its end
  pub encrypts_not : (untouched unasked : Type 0) → 1 ≤ asked.size → ((first all more : List ℕ) → all ≡ first ++ more → from.took Whole all → to.stopped Whole first all)
      → EncryptEnds asked input taken to entropy spent untouched unasked (errors.Outside outsides.SinkFault)
  encrypts_not untouched unasked wide not =
      let writes = encrypts.writes in
      let follows = more_follows encrypts.materials asked.size (drawn_id encrypts.drawn) writes.text wide in
      record {
        drawn = encrypts.drawn;
        materials = encrypts.materials;
        started = encrypts.started;
        stops = record {
          text = writes.text;
          came = writes.came;
          faults = writes.end.faults;
          at = inr (inr (record { end = writes.end; short = writes.short; stopped = not _ _ follows.0 follows.1 writes.gained }));
        };
      }

-- ---- one that wasn't

module _ (from to : Gaining) (took : (bytes : List ℕ) → from.took Front bytes → to.took Front bytes)
    (stopped : (extent : Extent) (first all : List ℕ) → from.stopped extent first all → to.stopped extent first all) (input taken : SourceState) where
  module _ (m : EncMaterialsValue) (size : ℕ) (id : List ℕ) where
    sink_as : EncryptSinkFails m size id input taken from → EncryptSinkFails m size id input taken to
    sink_as fails = record {
      text = fails.text;
      came = fails.came;
      faults = fails.faults;
      at = elim fails.at [
        | inl header ↦ inl (record { none = header.none; stopped = stopped Front _ _ header.stopped })
        | inr (inl frame) ↦ inr (inl (record {
          before = frame.before;
          piece = frame.piece;
          all = frame.all;
          few = frame.few;
          was = record { short = frame.was.short; stopped = stopped Front _ _ frame.was.stopped };
        }))
        | inr (inr final) ↦ inr (inr (record { end = final.end; short = final.short; stopped = stopped Whole _ _ final.stopped }))
      ];
    }

    stops_as : (error : EncryptError) → StopsSo m size id input taken from error → StopsSo m size id input taken to error
    stops_as (errors.Outside outsides.SourceFault) stops =
        record { text = stops.text; came = stops.came; rose = stops.rose; short = stops.short; gained = took _ stops.gained }
    stops_as (errors.Outside outsides.SinkFault) stops = sink_as stops
    stops_as (errors.Outside outsides.InputTooLong) stops =
        record { text = stops.text; came = stops.came; most = stops.most; short = stops.short; gained = took _ stops.gained }
    stops_as (errors.Refusal refusals.TooManyFrames) stops =
        record { text = stops.text; came = stops.came; faults = stops.faults; many = stops.many; last = stops.last; gained = took _ stops.gained }
    stops_as error stops = absurd stops

  after_as : (asked : EncryptAsked) (entropy spent : EntropyState) (error : EncryptError) → EndsAfter asked input taken from entropy spent error → EndsAfter asked input taken to entropy spent error
  after_as asked entropy spent error ends =
      record { drawn = ends.drawn; materials = ends.materials; started = ends.started; stops = stops_as ends.materials asked.size (drawn_id ends.drawn) error ends.stops }

  pub ends_as : (asked : EncryptAsked) (entropy spent : EntropyState) (untouched unasked : Type 0) (error : EncryptError) → EncryptEnds asked input taken from entropy spent untouched unasked error
      → EncryptEnds asked input taken to entropy spent untouched unasked error
  ends_as asked entropy spent untouched unasked (errors.Outside outsides.EntropyFault) ends = ends
  ends_as asked entropy spent untouched unasked (errors.Outside outsides.KeyringFault) ends = ends
  ends_as asked entropy spent untouched unasked (errors.Outside outside) ends = after_as asked entropy spent (errors.Outside outside) ends
  ends_as asked entropy spent untouched unasked (errors.Refusal refusals.TooManyFrames) ends = after_as asked entropy spent (errors.Refusal refusals.TooManyFrames) ends
  ends_as asked entropy spent untouched unasked (errors.Refusal (refusals.TooManyDataKeys n)) ends = ends
  ends_as asked entropy spent untouched unasked (errors.Refusal (refusals.HeaderTooLong n)) ends = ends
  ends_as asked entropy spent untouched unasked (errors.Refusal refusal) ends = ends
  ends_as asked entropy spent untouched unasked errors.Memory ends = ends

-- ---- what is so however it ended

module _ (gains : Gaining) (So : Type 0) (took : (extent : Extent) (bytes : List ℕ) → gains.took extent bytes → So)
    (stopped : (extent : Extent) (first all : List ℕ) → gains.stopped extent first all → So) (input taken : SourceState) where
  stops_so : (m : EncMaterialsValue) (size : ℕ) (id : List ℕ) (error : EncryptError) → StopsSo m size id input taken gains error → So
  stops_so m size id (errors.Outside outsides.SourceFault) stops = took Front _ stops.gained
  stops_so m size id (errors.Outside outsides.SinkFault) stops = elim stops.at [
    | inl header ↦ stopped Front _ _ header.stopped
    | inr (inl frame) ↦ stopped Front _ _ frame.was.stopped
    | inr (inr final) ↦ stopped Whole _ _ final.stopped
  ]
  stops_so m size id (errors.Outside outsides.InputTooLong) stops = took Front _ stops.gained
  stops_so m size id (errors.Refusal refusals.TooManyFrames) stops = took Front _ stops.gained
  stops_so m size id error stops = absurd stops

  pub ends_so : (asked : EncryptAsked) (entropy spent : EntropyState) (untouched unasked : Type 0) (error : EncryptError) → (untouched → So)
      → EncryptEnds asked input taken gains entropy spent untouched unasked error → So
  ends_so asked entropy spent untouched unasked (errors.Outside outsides.EntropyFault) same ends = same ends.same
  ends_so asked entropy spent untouched unasked (errors.Outside outsides.KeyringFault) same ends = same ends.same
  ends_so asked entropy spent untouched unasked (errors.Outside outside) same ends = stops_so ends.materials asked.size (drawn_id ends.drawn) (errors.Outside outside) ends.stops
  ends_so asked entropy spent untouched unasked (errors.Refusal refusals.TooManyFrames) same ends = stops_so ends.materials asked.size (drawn_id ends.drawn) (errors.Refusal refusals.TooManyFrames) ends.stops
  ends_so asked entropy spent untouched unasked (errors.Refusal (refusals.TooManyDataKeys n)) same ends = same ends.same
  ends_so asked entropy spent untouched unasked (errors.Refusal (refusals.HeaderTooLong n)) same ends = same ends.same
  ends_so asked entropy spent untouched unasked (errors.Refusal refusal) same ends = same ends.same
  ends_so asked entropy spent untouched unasked errors.Memory same ends = same ends.same
