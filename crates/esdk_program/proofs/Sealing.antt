-- What an encryption comes to, under a writer's keys.
use Rattle.std.proofs.Common.{◌≡◌, ◌∙◌, ℕ, ◌-◌, ◌<◌, ◌≤◌, nat_le, Bool, true, false, List, [], ◌++◌, length, take, drop, Option, Some, None, refl, sym, ap, subst, arith, append_assoc, length-append, length-take, take_at, take-append-drop, le-leb, leb-true, inl, inr}
use Rattle.std.proofs.lemmas.Bool.{lt-leb}
use Rattle.std.proofs.lemmas.List.{append_cancel_left, take-append-le, take_all}
use Rattle.std.specs.Io.KnownBytes.{Appends}
use Rattle.esdk_fields.specs.Counts.{Rose}
use Rattle.esdk_fields.specs.declared.refusals.Outside.TheVariants as outsides
use Rattle.esdk_fields.specs.declared.refusals.Refusal.{Refusal}
use Rattle.esdk_fields.specs.declared.refusals.Refusal.TheVariants as refusals
use Rattle.esdk_base.specs.Sink.{AppendsFront}
use Rattle.keyring_trait.specs.Materials.{EncMaterialsValue}
use Rattle.stream_seal.specs.Feeding.{fed_out, frames_given}
use Rattle.stream_seal.specs.Start.{message_of, most_frames, most_text, start_of, start_refusal, drawn_id, drawn_rest}
use Rattle.stream_seal.proofs.GivenFrames.{frames_of_most}
use Rattle.whole_input.proofs.Fronts.{front_beyond}
use Rattle.esdk_encrypt.specs.declared.errors.EncryptError.{EncryptError}
use Rattle.esdk_encrypt.specs.declared.errors.EncryptError.TheVariants as errors
use Rattle.esdk_encrypt.specs.Encrypt.{Drew, Encrypts, EncryptEnds, EndsAfter, EncryptFinalFails, EncryptNeedsTooManyFrames, EncryptHeaderFails, RefusesStart, EncryptSinkFails, EncryptSourceFails, WritesFrames, drawn_count, header_and_frames, written_so_far}
use Rattle.esdk_encrypt.specs.Gaining.{OutputForm, Front, Gaining, KeepsFronts, Whole, gained_as}
use Rattle.esdk_encrypt.specs.Told.{Writer, encrypting_by, drawn_materials, message_by, writer_wraps}
use Rattle.esdk_encrypt.specs.Writing.{sealing_of_text}
use Rattle.esdk_encrypt.proofs.Sessions.{more_follows, written_none, written_then}
use Rattle.esdk_report.specs.Report.{IsReported, Reports}
use Rattle.esdk_report.specs.declared.failure.Failure.{Failure}
use Rattle.esdk_report.specs.declared.failure.Failure.TheVariants as failures
use Rattle.esdk_run.specs.Failures.{encryption_failure}
use Rattle.esdk_run.specs.Run.{IsDone}
use Rattle.esdk_program.specs.Effect.{RunComesTo, Effect, RunFailed, KeyringFailed, done_with}
use Rattle.esdk_program.specs.Program.{sealed_effect, sealed_with, effect_unless}
use Rattle.esdk_program.specs.World.{IsOf, Run, World}
use Rattle.esdk_program.proofs.Came.{BeginsInput, begins_input, is_all, is_few}
use Rattle.esdk_program.proofs.Ends.{front_all, front_of, gains_none, refuses, same_front, same_none, stops}

-- ---- fronts of a message

module _ (form : OutputForm) (fronts : KeepsFronts form) (m : EncMaterialsValue) (size : ℕ) (id : List ℕ) (wide : 1 ≤ size) (a b : Option (List ℕ)) where
  -- what is written of a text while the input goes on is a front of what is, of more of it
  pub front_on : (text more : List ℕ) → length text ≤ most_text size → AppendsFront a b (form Front (written_so_far m size id text))
      → AppendsFront a b (form Front (written_so_far m size id (take (most_text size) (text ++ more))))
  front_on text more short front =
      let rest = fronts.goes_on (written_so_far m size id text) (fed_out (sealing_of_text m size id text) more) in
      front_of a b (form Front (written_so_far m size id text)) rest.0 (form Front (written_so_far m size id (take (most_text size) (text ++ more))))
      (ap (form Front) (sym (written_then m size id text more wide short)) ∙ rest.1) front

  -- and of the message
  pub front_whole : (text : List ℕ) → AppendsFront a b (form Front (written_so_far m size id text)) → AppendsFront a b (form Whole (message_of m size id text))
  front_whole text front =
      let follows = more_follows m size id text wide in
      let rest = fronts.ends (written_so_far m size id text) follows.0 in
      front_of a b (form Front (written_so_far m size id text)) rest.0 (form Whole (message_of m size id text)) (ap (form Whole) follows.1 ∙ rest.1) front

-- where a message has no room for a text, all regular frames are written of what has room
all_frames : (m : EncMaterialsValue) (size : ℕ) (id text : List ℕ) → 1 ≤ size → most_text size < length text
    → header_and_frames m size id (take (most_text size) text) (most_frames - 1) ≡ written_so_far m size id (take (most_text size) text)
all_frames m size id text wide many =
    let long : length (take (most_text size) text) ≡ most_text size = omega (arith, length-take (most_text size) text, many) in
    ap (header_and_frames m size id (take (most_text size) text)) (sym (ap (λ (n : ℕ). frames_given n size) long ∙ frames_of_most size wide))

-- ---- what the run came to

module _ (r : Run) (world : World) (of : IsOf r world) (form : OutputForm) (fronts : KeepsFronts form) (writer : Writer) (wide : 1 ≤ writer.size) where
  abbrev gains : Gaining
  gains = gained_as form r.before.output r.after.output

  abbrev drawn_of : List ℕ
  drawn_of = take (drawn_count (writer_wraps writer)) world.random

  abbrev size_fits : Bool
  size_fits = nat_le (length world.input) (most_text writer.size)

  -- the bytes that were drawn are the first of the world's
  drawn_is : (drawn : List ℕ) → Drew (writer_wraps writer) r.before.entropy r.after.entropy drawn → drawn_of ≡ drawn
  drawn_is drawn drew =
      let same : of.random.drawn ≡ drawn = append_cancel_left r.before.entropy.drawn of.random.drawn drawn (sym of.random.told ∙ drew.told) in
      ap (λ (n : ℕ). take n world.random) (sym drew.count)
      ∙ ap (take (length drawn)) (of.random.all ∙ ap (λ (d : List ℕ). d ++ of.random.rest) same)
      ∙ take_at drawn of.random.rest (length drawn) refl

  -- a message was begun
  begun_is : (drawn : List ℕ) → drawn_of ≡ drawn → start_refusal (drawn_materials writer (drawn_rest drawn)) writer.max_keys (drawn_id drawn) ≡ None
      → sealed_with form writer drawn_of world.input ≡ sealed_effect form writer drawn world.input size_fits
  begun_is drawn is begins =
      ap (λ (d : List ℕ). sealed_with form writer d world.input) is
      ∙ ap (λ (o : Option Refusal). effect_unless o (sealed_effect form writer drawn world.input size_fits)) begins

  abbrev made : List ℕ → EncMaterialsValue
  made drawn = drawn_materials writer (drawn_rest drawn)

  -- of a text that came first, a front is left
  front_by : (drawn : List ℕ) (fits : Bool) → size_fits ≡ fits
      → AppendsFront r.before.output.written r.after.output.written (form Front (written_so_far (made drawn) writer.size (drawn_id drawn) (take (most_text writer.size) world.input)))
      → AppendsFront r.before.output.written r.after.output.written (sealed_effect form writer drawn world.input fits).output
  front_by drawn false over front = front
  front_by drawn true fits front =
      front_whole form fronts (made drawn) writer.size (drawn_id drawn) wide r.before.output.written r.after.output.written world.input
      (subst (λ (t : List ℕ). AppendsFront r.before.output.written r.after.output.written (form Front (written_so_far (made drawn) writer.size (drawn_id drawn) t)))
      (take_all (most_text writer.size) world.input (leb-true (length world.input) (most_text writer.size) fits)) front)

  front_left : (drawn text rest : List ℕ) → world.input ≡ text ++ rest → length text ≤ most_text writer.size
      → AppendsFront r.before.output.written r.after.output.written (form Front (written_so_far (made drawn) writer.size (drawn_id drawn) text))
      → AppendsFront r.before.output.written r.after.output.written (sealed_effect form writer drawn world.input size_fits).output
  front_left drawn text rest is short front = front_by drawn size_fits refl
      (subst (λ (t : List ℕ). AppendsFront r.before.output.written r.after.output.written
      (form Front (written_so_far (made drawn) writer.size (drawn_id drawn) (take (most_text writer.size) t)))) (sym is)
      (front_on form fronts (made drawn) writer.size (drawn_id drawn) wide r.before.output.written r.after.output.written text rest short front))

  -- all of the input was sealed
  whole_is : (drawn : List ℕ) → length world.input ≤ most_text writer.size
      → sealed_effect form writer drawn world.input size_fits ≡ done_with (form Whole (message_by writer drawn world.input)) []
  whole_is drawn short = ap (sealed_effect form writer drawn world.input) (le-leb (length world.input) (most_text writer.size) short)

  -- a message was begun, and a failure left a front of it
  begun_stops : (drawn : List ℕ) (failure : Failure) → drawn_of ≡ drawn → start_refusal (made drawn) writer.max_keys (drawn_id drawn) ≡ None
      → RunFailed r world failure → IsReported failure r.code r.before.report r.after.report
      → AppendsFront r.before.output.written r.after.output.written (sealed_effect form writer drawn world.input size_fits).output
      → RunComesTo r world (sealed_with form writer drawn_of world.input)
  begun_stops drawn failure is begins why said front =
      subst (λ (e : Effect). RunComesTo r world e) (sym (begun_is drawn is begins)) (stops r world (sealed_effect form writer drawn world.input size_fits) failure why said front)

  -- ---- why the output failed

  abbrev Left : List ℕ → Type 0
  Left drawn = AppendsFront r.before.output.written r.after.output.written (sealed_effect form writer drawn world.input size_fits).output

  -- at the header
  header_front : (drawn text : List ℕ) → EncryptHeaderFails (made drawn) writer.size (drawn_id drawn) gains text → Left drawn
  header_front drawn text fails = front_left drawn [] world.input refl (omega arith)
      (subst (λ (t : List ℕ). AppendsFront r.before.output.written r.after.output.written (form Front t)) (sym (written_none (made drawn) writer.size (drawn_id drawn)))
      (front_beyond r.before.output r.after.output (form Front []) (form Front (start_of (made drawn) writer.size (drawn_id drawn))) fails.stopped.0))

  -- at a frame
  frame_front : (drawn text first : List ℕ) → BeginsInput r.after.input world.input text → WritesFrames (made drawn) writer.size (drawn_id drawn) gains text first → Left drawn
  frame_front drawn text first begins fails =
      front_left drawn (take (most_text writer.size) text) (drop (most_text writer.size) text ++ begins.rest)
      (begins.all ∙ ap (λ (t : List ℕ). t ++ begins.rest) (sym (take-append-drop (most_text writer.size) text))
      ∙ append_assoc (take (most_text writer.size) text) (drop (most_text writer.size) text) begins.rest)
      (omega (arith, length-take (most_text writer.size) text))
      (front_beyond r.before.output r.after.output (form Front (written_so_far (made drawn) writer.size (drawn_id drawn) first))
      (form Front (written_so_far (made drawn) writer.size (drawn_id drawn) (take (most_text writer.size) text))) fails.stopped.0)

  -- at the final frame
  final_front : (drawn text : List ℕ) → BeginsInput r.after.input world.input text → EncryptFinalFails (made drawn) writer.size (drawn_id drawn) r.before.input r.after.input gains text → Left drawn
  final_front drawn text begins fails =
      let same : world.input ≡ text = is_all r.after.input world.input text begins fails.end.seen in
      let short : length world.input ≤ most_text writer.size = omega (arith, fails.short, ap length same) in
      subst (λ (e : Effect). AppendsFront r.before.output.written r.after.output.written e.output) (sym (whole_is drawn short))
      (subst (λ (t : List ℕ). AppendsFront r.before.output.written r.after.output.written (form Whole (message_by writer drawn t))) (sym same)
      (front_beyond r.before.output r.after.output (form Front (written_so_far (made drawn) writer.size (drawn_id drawn) text))
      (form Whole (message_of (made drawn) writer.size (drawn_id drawn) text)) fails.stopped.0))

  sink_front : (drawn : List ℕ) → EncryptSinkFails (made drawn) writer.size (drawn_id drawn) r.before.input r.after.input gains
      → Rose r.before.output.faults r.after.output.faults × Left drawn
  sink_front drawn fails =
      let begins = begins_input r.before.input r.after.input world.input fails.text of.input fails.came in
      elim fails.at [
        | inl header ↦ (header.stopped.1, header_front drawn fails.text header)
        | inr (inl frame) ↦ (frame.was.stopped.1, frame_front drawn fails.text frame.before begins frame.was)
        | inr (inr final) ↦ (final.stopped.1, final_front drawn fails.text begins final)
      ]

  -- ---- the end

  module _ (refusal : Option Refusal) (old new : ℕ) (keyring : Rose old new → KeyringFailed r world) where
    abbrev Sealed : Type 0
    Sealed = RunComesTo r world (effect_unless refusal (sealed_with form writer drawn_of world.input))

    abbrev After : EncryptError → Type 0
    After error = EndsAfter (encrypting_by writer refusal old new) r.before.input r.after.input gains r.before.entropy r.after.entropy error

    unrefused : refusal ≡ None → RunComesTo r world (sealed_with form writer drawn_of world.input) → Sealed
    unrefused is so = subst (λ (o : Option Refusal). RunComesTo r world (effect_unless o (sealed_with form writer drawn_of world.input))) (sym is) so

    pub seals_done : IsDone r.code r.before.report r.after.report
        → Encrypts (encrypting_by writer refusal old new) r.before.input r.after.input gains r.before.entropy r.after.entropy → Sealed
    seals_done is encrypts =
        let drawn : List ℕ = encrypts.drawn in
        let writes = encrypts.writes in
        let begins : start_refusal (made drawn) writer.max_keys (drawn_id drawn) ≡ None =
        subst (λ (m : EncMaterialsValue). start_refusal m writer.max_keys (drawn_id drawn) ≡ None) encrypts.started.given.1 encrypts.started.begins in
        let same : world.input ≡ writes.text =
        is_all r.after.input world.input writes.text (begins_input r.before.input r.after.input world.input writes.text of.input writes.came) writes.end.seen in
        let short : length world.input ≤ most_text writer.size = omega (arith, writes.short, ap length same) in
        let gained : Appends r.before.output.written r.after.output.written (form Whole (message_by writer drawn world.input)) =
        subst (λ (t : List ℕ). Appends r.before.output.written r.after.output.written (form Whole (message_by writer drawn t))) (sym same)
        (subst (λ (m : EncMaterialsValue). Appends r.before.output.written r.after.output.written (form Whole (message_of m writer.size (drawn_id drawn) writes.text)))
        encrypts.started.given.1 writes.gained) in
        unrefused encrypts.started.given.0
        (subst (λ (e : Effect). RunComesTo r world e) (sym (begun_is drawn (drawn_is drawn encrypts.started.drew) begins ∙ whole_is drawn short))
        (inl (record { code = is.status; output = gained; report = gains_none r.before.report r.after.report is.same })))

    -- a message was begun with these bytes
    begun : (error : EncryptError) (ends : After error) (failure : Failure) → RunFailed r world failure → IsReported failure r.code r.before.report r.after.report → Left ends.drawn → Sealed
    begun error ends failure why said front =
        unrefused ends.started.given.0
        (begun_stops ends.drawn failure (drawn_is ends.drawn ends.started.drew)
        (subst (λ (m : EncMaterialsValue). start_refusal m writer.max_keys (drawn_id ends.drawn) ≡ None) ends.started.given.1 ends.started.begins) why said front)

    source_ends : (ends : After (errors.Outside outsides.SourceFault)) → IsReported (failures.Outside outsides.SourceFault) r.code r.before.report r.after.report → Sealed
    source_ends ends said =
        let fails : EncryptSourceFails (made ends.drawn) writer.size (drawn_id ends.drawn) r.before.input r.after.input gains =
        subst (λ (m : EncMaterialsValue). EncryptSourceFails m writer.size (drawn_id ends.drawn) r.before.input r.after.input gains) ends.started.given.1 ends.stops in
        let begins = begins_input r.before.input r.after.input world.input fails.text of.input fails.came in
        begun (errors.Outside outsides.SourceFault) ends (failures.Outside outsides.SourceFault) fails.rose said
        (front_left ends.drawn fails.text begins.rest begins.all fails.short
        (front_all r.before.output.written r.after.output.written (form Front (written_so_far (made ends.drawn) writer.size (drawn_id ends.drawn) fails.text)) fails.gained))

    sink_ends : (ends : After (errors.Outside outsides.SinkFault)) → IsReported (failures.Outside outsides.SinkFault) r.code r.before.report r.after.report → Sealed
    sink_ends ends said =
        let fails = sink_front ends.drawn
        (subst (λ (m : EncMaterialsValue). EncryptSinkFails m writer.size (drawn_id ends.drawn) r.before.input r.after.input gains) ends.started.given.1 ends.stops) in
        begun (errors.Outside outsides.SinkFault) ends (failures.Outside outsides.SinkFault) fails.0 said fails.1

    -- Q9
    many_ends : (ends : After (errors.Refusal refusals.TooManyFrames)) → Reports (failures.Refusal refusals.TooManyFrames) r.code r.before.report r.after.report → Sealed
    many_ends ends said =
        let drawn : List ℕ = ends.drawn in
        let fails : EncryptNeedsTooManyFrames (made drawn) writer.size (drawn_id drawn) r.before.input r.after.input gains =
        subst (λ (m : EncMaterialsValue). EncryptNeedsTooManyFrames m writer.size (drawn_id drawn) r.before.input r.after.input gains) ends.started.given.1 ends.stops in
        let begins = begins_input r.before.input r.after.input world.input fails.text of.input fails.came in
        let over : most_text writer.size < length world.input = omega (arith, fails.many, ap length begins.all, length-append fails.text begins.rest) in
        let room : take (most_text writer.size) fails.text ≡ take (most_text writer.size) world.input =
        sym (ap (take (most_text writer.size)) begins.all ∙ take-append-le (most_text writer.size) fails.text begins.rest (omega (arith, fails.many))) in
        let gained : Appends r.before.output.written r.after.output.written (form Front (written_so_far (made drawn) writer.size (drawn_id drawn) (take (most_text writer.size) world.input))) =
        subst (λ (t : List ℕ). Appends r.before.output.written r.after.output.written (form Front t))
        (all_frames (made drawn) writer.size (drawn_id drawn) fails.text wide fails.many ∙ ap (written_so_far (made drawn) writer.size (drawn_id drawn)) room) fails.gained in
        unrefused ends.started.given.0
        (subst (λ (e : Effect). RunComesTo r world e)
        (sym (begun_is drawn (drawn_is drawn ends.started.drew)
        (subst (λ (m : EncMaterialsValue). start_refusal m writer.max_keys (drawn_id drawn) ≡ None) ends.started.given.1 ends.started.begins)
        ∙ ap (sealed_effect form writer drawn world.input) (lt-leb (length world.input) (most_text writer.size) over)))
        (refuses r world (form Front (written_so_far (made drawn) writer.size (drawn_id drawn) (take (most_text writer.size) world.input))) (failures.Refusal refusals.TooManyFrames) gained said))

    -- Q7 and Q8
    start_ends : (named : Refusal) (untouched : Type 0) → (untouched → r.after.output ≡ r.before.output) → RefusesStart (encrypting_by writer refusal old new) r.before.entropy r.after.entropy named untouched
        → Reports (failures.Refusal named) r.code r.before.report r.after.report → Sealed
    start_ends named untouched same ends said =
        let cause : start_refusal (made ends.drawn) writer.max_keys (drawn_id ends.drawn) ≡ Some named =
        subst (λ (m : EncMaterialsValue). start_refusal m writer.max_keys (drawn_id ends.drawn) ≡ Some named) ends.given.1 ends.cause in
        unrefused ends.given.0
        (subst (λ (e : Effect). RunComesTo r world e)
        (sym (ap (λ (d : List ℕ). sealed_with form writer d world.input) (drawn_is ends.drawn ends.drew)
        ∙ ap (λ (o : Option Refusal). effect_unless o (sealed_effect form writer ends.drawn world.input size_fits)) cause))
        (refuses r world [] (failures.Refusal named) (same_none r.before.output r.after.output (same ends.same)) said))

    -- nothing was written
    unwritten : (failure : Failure) → RunFailed r world failure → IsReported failure r.code r.before.report r.after.report → r.after.output ≡ r.before.output → Sealed
    unwritten failure why said same =
        let e : Effect = effect_unless refusal (sealed_with form writer drawn_of world.input) in
        stops r world e failure why said (same_front r.before.output r.after.output e.output same)

    pub seals_ends : (untouched unasked : Type 0) → (untouched → r.after.output ≡ r.before.output) → (error : EncryptError)
        → EncryptEnds (encrypting_by writer refusal old new) r.before.input r.after.input gains r.before.entropy r.after.entropy untouched unasked error
        → Reports (encryption_failure error) r.code r.before.report r.after.report → Sealed
    seals_ends untouched unasked same (errors.Outside outsides.EntropyFault) ends said = unwritten (failures.Outside outsides.EntropyFault) ends.rose said (same ends.same)
    seals_ends untouched unasked same (errors.Outside outsides.KeyringFault) ends said =
        unwritten (failures.Outside outsides.KeyringFault) (keyring ends.cause.1) said (same ends.same)
    seals_ends untouched unasked same (errors.Outside outsides.SourceFault) ends said = source_ends ends said
    seals_ends untouched unasked same (errors.Outside outsides.SinkFault) ends said = sink_ends ends said
    seals_ends untouched unasked same (errors.Outside outsides.InputTooLong) ends said =
        absurd (is_few r.after.input world.input ends.stops.text (begins_input r.before.input r.after.input world.input ends.stops.text of.input ends.stops.came) of.few ends.stops.most.count)
    seals_ends untouched unasked same (errors.Outside outside) ends said = absurd ends.stops
    seals_ends untouched unasked same (errors.Refusal refusals.TooManyFrames) ends said = many_ends ends said
    seals_ends untouched unasked same (errors.Refusal (refusals.TooManyDataKeys n)) ends said = start_ends (refusals.TooManyDataKeys n) untouched same ends said
    seals_ends untouched unasked same (errors.Refusal (refusals.HeaderTooLong n)) ends said = start_ends (refusals.HeaderTooLong n) untouched same ends said
    seals_ends untouched unasked same (errors.Refusal named) ends said =
        subst (λ (o : Option Refusal). RunComesTo r world (effect_unless o (sealed_with form writer drawn_of world.input))) (sym ends.cause)
        (refuses r world [] (failures.Refusal named) (same_none r.before.output r.after.output (same ends.same)) said)
    seals_ends untouched unasked same errors.Memory ends said = unwritten failures.Memory tt said (same ends.same)
