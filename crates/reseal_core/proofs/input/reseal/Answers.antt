use Rattle.std.proofs.Common.{◌≡◌, None, false, inl, refl}
use Rattle.std.proofs.lemmas.Result.{err_from_is_err_and}
use Rattle.esdk_decrypt.proofs.Concluding.{passed_on}
use Rattle.reseal_core.specs.declared.errors.InputError.TheVariants.{Memory}
use Rattle.reseal_core.specs.Reseal.{Resealing, resealing_from}
use Rattle.reseal_core.proofs.Bearing.{bears_same, concludes_bears}
use Rattle.reseal_core.proofs.Concluding.{done_as, ended_as, ends_drawn, memory_first}
use Rattle.reseal_core.proofs.Telling.{reads_told, stops_told}
use Rattle.reseal_core.proofs.input.reseal.Goals as goal

pub returns-in_err-resealer-clause-ends : goal.returns-in_err-resealer-clause-ends
returns-in_err-resealer-clause-ends g c =
    let asked : Resealing = resealing_from (g.A.Manager.state c.args.opening.now) (g.A.Manager.state c.args.opening.now) (g.B.Manager.state c.args.sealing.now) (g.B.Manager.state c.args.sealing.now) c.args.options.now c.args.options.settings c.args.given.now
    c.args.options.frame_length in
    passed_on _ c.from_residual.result c.in_err-resealer.field-0.0 c.from_residual.ensures.1
    (rw c.in_err-resealer.ensures.cause (ends_drawn asked _ _ _ _ _ _ ((c.args.input.now ≡ c.args.input.now) × (c.args.output.now ≡ c.args.output.now)) ((c.args.opening.now ≡ c.args.opening.now) × (c.args.sealing.now ≡ c.args.sealing.now))
    c.in-Ok.draws (rw c.wraps-wraps.ensures.value at c.in-Ok.ensures.drew) Memory
    (memory_first (g.A.Manager.state c.args.opening.now) (g.A.Manager.state c.args.opening.now) (g.B.Manager.state c.args.sealing.now) (g.B.Manager.state c.args.sealing.now) c.args.options.now c.args.options.settings
    c.args.given.now c.args.options.frame_length c.in-Ok.draws (g.S.Source.state c.args.input.now) (g.O.Sink.state c.args.output.now))))

pub returns-in_err-end-clause-ends : goal.returns-in_err-end-clause-ends
returns-in_err-end-clause-ends g c =
    let asked : Resealing = resealing_from (g.A.Manager.state c.args.opening.now) (g.A.Manager.state c.feed_input.new.opening) (g.B.Manager.state c.args.sealing.now) (g.B.Manager.state c.feed_input.new.sealing) c.args.options.now c.args.options.settings
    c.args.given.now c.args.options.frame_length in
    let stands = rw c.bytes.ensures.bytes at c.in_ok-resealer.ensures.stands in
    passed_on _ c.from_residual-in_err-end.result c.in_err-end.field-0.0 c.from_residual-in_err-end.ensures.1
    (ends_drawn asked _ _ _ _ _ _ ((c.feed_input.new.input ≡ c.args.input.now) × (c.feed_input.new.output ≡ c.args.output.now)) ((c.feed_input.new.opening ≡ c.args.opening.now) × (c.feed_input.new.sealing ≡ c.args.sealing.now)) c.in-Ok.draws
    (rw c.wraps-wraps.ensures.value at c.in-Ok.ensures.drew) c.in_err-end.field-0.0
    (c.in_err-end.ensures.ends c.args.options.settings c.args.given.now c.args.options.frame_length c.in-Ok.draws stands))

pub returns-clause-done : goal.returns-clause-done
returns-clause-done g c =
    let stands = rw c.bytes.ensures.bytes at c.in_ok-resealer.ensures.stands in
    let fed = c.in_ok-end.ensures.fed c.args.options.settings c.args.given.now c.args.options.frame_length c.in-Ok.draws stands in
    done_as g.A.Manager.state g.B.Manager.state c.args.options.now c.args.options.settings c.args.given.now c.args.options.frame_length c.in-Ok.draws (g.S.Source.state c.args.input.now) (g.S.Source.state c.feed_input.new.input)
    c.args.opening.now c.feed_input.new.opening c.args.sealing.now c.feed_input.new.sealing (g.O.Sink.state c.args.output.now) (g.O.Sink.state c.feed_input.new.output) (g.W.Entropy.state c.args.entropy.now) (g.W.Entropy.state c.draw.new.entropy)
    c.feed_input.new.resealer c.in_ok-end.end fed (g.O.Sink.state c.conclude.new.output) (rw c.wraps-wraps.ensures.value at c.in-Ok.ensures.drew) c.conclude.result
    (c.conclude.ensures _ fed.reached.stands refl)

pub returns-clause-ends : goal.returns-clause-ends
returns-clause-ends g c =
    let stands = rw c.bytes.ensures.bytes at c.in_ok-resealer.ensures.stands in
    let fed = c.in_ok-end.ensures.fed c.args.options.settings c.args.given.now c.args.options.frame_length c.in-Ok.draws stands in
    ended_as g.A.Manager.state g.B.Manager.state c.args.options.now c.args.options.settings c.args.given.now c.args.options.frame_length c.in-Ok.draws (g.S.Source.state c.args.input.now) (g.S.Source.state c.feed_input.new.input)
    c.args.opening.now c.feed_input.new.opening c.args.sealing.now c.feed_input.new.sealing (g.O.Sink.state c.args.output.now) (g.O.Sink.state c.feed_input.new.output) (g.W.Entropy.state c.args.entropy.now) (g.W.Entropy.state c.draw.new.entropy)
    c.feed_input.new.resealer c.in_ok-end.end fed (g.O.Sink.state c.conclude.new.output) (rw c.wraps-wraps.ensures.value at c.in-Ok.ensures.drew)
    ((c.feed_input.new.input ≡ c.args.input.now) × (c.conclude.new.output ≡ c.args.output.now)) ((c.feed_input.new.opening ≡ c.args.opening.now) × (c.feed_input.new.sealing ≡ c.args.sealing.now)) c.conclude.result
    (c.conclude.ensures _ fed.reached.stands refl)

pub returns-in_err-resealer-clause-stops : goal.returns-in_err-resealer-clause-stops
returns-in_err-resealer-clause-stops g c =
    stops_told (g.A.Manager.state c.args.opening.now) (g.A.Manager.state c.args.opening.now) (g.B.Manager.state c.args.sealing.now) (g.B.Manager.state c.args.sealing.now) c.args.options.now c.args.options.settings c.args.given.now
    c.args.options.frame_length (record { told = c.wraps-wraps.ensures.told; plain = c.wraps-wraps.ensures.plain }) (g.S.Source.state c.args.input.now) (g.S.Source.state c.args.input.now) (g.O.Sink.state c.args.output.now) (g.O.Sink.state c.args.output.now)
    (g.W.Entropy.state c.args.entropy.now) (g.W.Entropy.state c.draw.new.entropy) ((c.args.input.now ≡ c.args.input.now) × (c.args.output.now ≡ c.args.output.now)) ((c.args.opening.now ≡ c.args.opening.now) × (c.args.sealing.now ≡ c.args.sealing.now)) c.from_residual.result (returns-in_err-resealer-clause-ends g c)

pub returns-in_err-end-clause-stops : goal.returns-in_err-end-clause-stops
returns-in_err-end-clause-stops g c =
    stops_told (g.A.Manager.state c.args.opening.now) (g.A.Manager.state c.feed_input.new.opening) (g.B.Manager.state c.args.sealing.now) (g.B.Manager.state c.feed_input.new.sealing) c.args.options.now c.args.options.settings c.args.given.now
    c.args.options.frame_length (record { told = c.wraps-wraps.ensures.told; plain = c.wraps-wraps.ensures.plain }) (g.S.Source.state c.args.input.now) (g.S.Source.state c.feed_input.new.input) (g.O.Sink.state c.args.output.now) (g.O.Sink.state c.feed_input.new.output)
    (g.W.Entropy.state c.args.entropy.now) (g.W.Entropy.state c.draw.new.entropy) ((c.feed_input.new.input ≡ c.args.input.now) × (c.feed_input.new.output ≡ c.args.output.now)) ((c.feed_input.new.opening ≡ c.args.opening.now) × (c.feed_input.new.sealing ≡ c.args.sealing.now)) c.from_residual-in_err-end.result (returns-in_err-end-clause-ends g c)

pub returns-clause-stops : goal.returns-clause-stops
returns-clause-stops g c =
    stops_told (g.A.Manager.state c.args.opening.now) (g.A.Manager.state c.feed_input.new.opening) (g.B.Manager.state c.args.sealing.now) (g.B.Manager.state c.feed_input.new.sealing) c.args.options.now c.args.options.settings c.args.given.now
    c.args.options.frame_length (record { told = c.wraps-wraps.ensures.told; plain = c.wraps-wraps.ensures.plain }) (g.S.Source.state c.args.input.now) (g.S.Source.state c.feed_input.new.input) (g.O.Sink.state c.args.output.now) (g.O.Sink.state c.conclude.new.output)
    (g.W.Entropy.state c.args.entropy.now) (g.W.Entropy.state c.draw.new.entropy) ((c.feed_input.new.input ≡ c.args.input.now) × (c.conclude.new.output ≡ c.args.output.now)) ((c.feed_input.new.opening ≡ c.args.opening.now) × (c.feed_input.new.sealing ≡ c.args.sealing.now)) c.conclude.result (returns-clause-ends g c)

pub returns-clause-reads : goal.returns-clause-reads
returns-clause-reads g c =
    reads_told (g.A.Manager.state c.args.opening.now) (g.A.Manager.state c.feed_input.new.opening) (g.B.Manager.state c.args.sealing.now) (g.B.Manager.state c.feed_input.new.sealing) c.args.options.now c.args.options.settings c.args.given.now
    c.args.options.frame_length (record { told = c.wraps-wraps.ensures.told; plain = c.wraps-wraps.ensures.plain }) (g.S.Source.state c.args.input.now) (g.S.Source.state c.feed_input.new.input) (g.O.Sink.state c.args.output.now)
    (g.O.Sink.state c.conclude.new.output) (g.W.Entropy.state c.args.entropy.now) (g.W.Entropy.state c.draw.new.entropy) c.conclude.result (returns-clause-done g c)

-- ---- what the managers bear, and the input

pub returns-in_default-clause-unseals : goal.returns-in_default-clause-unseals
returns-in_default-clause-unseals g c = (None, λ lines bore. bore)

pub returns-in_err-resealer-clause-unseals : goal.returns-in_err-resealer-clause-unseals
returns-in_err-resealer-clause-unseals g c = (None, λ lines bore. bore)

pub returns-in_default-clause-seals : goal.returns-in_default-clause-seals
returns-in_default-clause-seals g c = inl (λ lines bore. bore)

pub returns-in_err-resealer-clause-seals : goal.returns-in_err-resealer-clause-seals
returns-in_err-resealer-clause-seals g c =
    let p = err_from_is_err_and c.from_residual.result c.from_residual.ensures.1 in rw p.1 (bears_same (g.B.Manager.state c.args.sealing.now) c.args.options.now false)

pub returns-in_err-end-clause-seals : goal.returns-in_err-end-clause-seals
returns-in_err-end-clause-seals g c =
    let p = err_from_is_err_and c.from_residual-in_err-end.result c.from_residual-in_err-end.ensures.1 in rw p.1 c.in_err-end.ensures.seals

pub returns-clause-seals : goal.returns-clause-seals
returns-clause-seals g c =
    let stands = rw c.bytes.ensures.bytes at c.in_ok-resealer.ensures.stands in
    let fed = c.in_ok-end.ensures.fed c.args.options.settings c.args.given.now c.args.options.frame_length c.in-Ok.draws stands in
    concludes_bears (g.B.Manager.state c.args.sealing.now) (g.B.Manager.state c.feed_input.new.sealing) c.args.options.now c.feed_input.new.resealer _ fed.reached.stands refl c.in_ok-end.ensures.seals
    (g.O.Sink.state c.feed_input.new.output) (g.O.Sink.state c.conclude.new.output) c.in_ok-end.end c.conclude.result (c.conclude.ensures _ fed.reached.stands refl)

pub returns-in_default-clause-lasts : goal.returns-in_default-clause-lasts
returns-in_default-clause-lasts g c = g.met.S.Source.lasts_none _

pub returns-in_err-resealer-clause-lasts : goal.returns-in_err-resealer-clause-lasts
returns-in_err-resealer-clause-lasts g c = g.met.S.Source.lasts_none _

-- ---- no header is whole in what came

pub returns-in_default-clause-unasked : goal.returns-in_default-clause-unasked
returns-in_default-clause-unasked g c = λ bytes came none. (refl, refl)

pub returns-in_err-resealer-clause-unasked : goal.returns-in_err-resealer-clause-unasked
returns-in_err-resealer-clause-unasked g c = λ bytes came none. (refl, refl)

pub returns-in_err-end-clause-unasked : goal.returns-in_err-end-clause-unasked
returns-in_err-end-clause-unasked g c =
    c.feed_input.ensures.unasked c.args.options.settings c.args.given.now c.args.options.frame_length c.in-Ok.draws (rw c.bytes.ensures.bytes at c.in_ok-resealer.ensures.stands)

pub returns-clause-unasked : goal.returns-clause-unasked
returns-clause-unasked g c =
    c.feed_input.ensures.unasked c.args.options.settings c.args.given.now c.args.options.frame_length c.in-Ok.draws (rw c.bytes.ensures.bytes at c.in_ok-resealer.ensures.stands)

-- ---- the old message isn't unlocked

pub returns-in_default-clause-locked : goal.returns-in_default-clause-locked
returns-in_default-clause-locked g c = inl refl

pub returns-in_err-resealer-clause-locked : goal.returns-in_err-resealer-clause-locked
returns-in_err-resealer-clause-locked g c = inl refl

pub returns-in_err-end-clause-locked : goal.returns-in_err-end-clause-locked
returns-in_err-end-clause-locked g c =
    c.feed_input.ensures.locked c.args.options.settings c.args.given.now c.args.options.frame_length c.in-Ok.draws (rw c.bytes.ensures.bytes at c.in_ok-resealer.ensures.stands)

pub returns-clause-locked : goal.returns-clause-locked
returns-clause-locked g c =
    c.feed_input.ensures.locked c.args.options.settings c.args.given.now c.args.options.frame_length c.in-Ok.draws (rw c.bytes.ensures.bytes at c.in_ok-resealer.ensures.stands)
