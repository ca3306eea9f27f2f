-- What a resealing comes to, under the keys of both trees.
use Rattle.std.proofs.Common.{◌≡◌, ◌∙◌, ℕ, ◌<◌, ◌≤◌, nat_le, Bool, true, false, List, [], ◌++◌, length, take, drop, Option, Some, None, refl, sym, ap, subst, arith, append_assoc, length-append, length-take, take-append-drop, le-leb, leb-true, inl, inr}
use Rattle.std.proofs.lemmas.Bool.{lt-leb}
use Rattle.std.proofs.lemmas.List.{take-append-le, take_all}
use Rattle.std.specs.Io.KnownBytes.{Appends}
use Rattle.esdk_args.specs.declared.request.ResealWords.{ResealWords}
use Rattle.esdk_fields.specs.Counts.{Rose}
use Rattle.esdk_fields.specs.declared.faults.Fault.{Fault}
use Rattle.esdk_fields.specs.declared.refusals.Outside.TheVariants as outsides
use Rattle.esdk_fields.specs.declared.refusals.Refusal.{Refusal}
use Rattle.esdk_fields.specs.declared.refusals.Refusal.TheVariants.{TooManyFrames}
use Rattle.esdk_base.specs.Sink.{AppendsFront}
use Rattle.context_codec.specs.Context.{KeyValue}
use Rattle.keyring_trait.specs.Keyring.{KeyringMeaning}
use Rattle.keyring_trait.specs.Materials.{EncMaterialsValue}
use Rattle.keyring_trait.specs.Unlocking.{Unlocking, Refuses, Unlocks}
use Rattle.keyring_trait.specs.Wrapping.{WrapKeyValue, active}
use Rattle.body_format.specs.declared.verdicts.Verdict.{Verdict}
use Rattle.message_format.specs.Judgement.{Judged, content, judged}
use Rattle.stream_seal.specs.Start.{message_of, most_text, start_refusal, drawn_id, drawn_rest}
use Rattle.armour_core.specs.declared.text_end.TextEnd.TheVariants as ends
use Rattle.whole_input.proofs.Fronts.{front_beyond}
use Rattle.esdk_encrypt.specs.Encrypt.{written_so_far}
use Rattle.esdk_encrypt.specs.Gaining.{as_bytes}
use Rattle.esdk_encrypt.specs.Told.{Writer, drawn_materials, message_by}
use Rattle.esdk_decrypt.specs.Decrypt.{AnswersTo, fault_of}
use Rattle.esdk_decrypt.specs.Told.{Reader, answering_by, decrypting_by, judged_by, unlocked_to}
use Rattle.esdk_decrypt.proofs.Readers.{answers_unlocking, judged_reader, never_fails}
use Rattle.reseal_core.specs.declared.errors.InputError.{InputError}
use Rattle.reseal_core.specs.declared.errors.InputError.TheVariants as errors
use Rattle.reseal_core.specs.Reseal.{ResealEndsSo, ResealFinalFails, FrontFails, ResealFindsFault, HasMaterials, RefusesMessage, Resealing, Reseals, WritesBy, ResealWritesFront}
use Rattle.esdk_report.specs.Report.{IsReported, Reports}
use Rattle.esdk_report.specs.declared.failure.Failure.{Failure}
use Rattle.esdk_report.specs.declared.failure.Failure.TheVariants as failures
use Rattle.esdk_run.specs.Failures.{resealing_failure}
use Rattle.esdk_run.specs.Giving.{refusal_over}
use Rattle.esdk_run.specs.Reseal.{TreeSealsNone}
use Rattle.esdk_run.specs.ResealTold.{reseal_writer}
use Rattle.esdk_run.specs.Run.{TellsOrLacksMemory}
use Rattle.esdk_run.proofs.ArmouredMessage.{forms_keep_fronts}
use Rattle.esdk_program.specs.Effect.{RunComesTo, Effect, RunFailed}
use Rattle.esdk_program.specs.Program.{begun_by, failure_at, opened_effect, resealed_effect, resealed_by, resealed_end, resealed_text, resealed_with, effect_unless}
use Rattle.esdk_program.specs.World.{IsOf, Run, World}
use Rattle.esdk_program.proofs.Came.{begins_input, is_all, is_few}
use Rattle.esdk_program.proofs.Ends.{front_all, refuses, stops, tells}
use Rattle.esdk_program.proofs.Opening.{content_more, early_named, fault_same, late_named}
use Rattle.esdk_program.proofs.Sealing.{front_on, front_whole}
use Rattle.esdk_program.proofs.Unlocked.{refused_locked, stays_unlocked, unlocked_on, whole_unlocked}

-- what the second tree's keys give, of a request that it doesn't refuse
abbrev pub over_keys : Reader → KeyringMeaning → List WrapKeyValue → ℕ → Resealing
over_keys reader second others size = record {
  opening = decrypting_by reader;
  wraps = length (active others);
  gives = λ request random m. (refusal_over request.context second ≡ None)
      × (m ≡ drawn_materials (record { keys = others; context = request.context; required = request.required; size = size; max_keys = None }) random);
  gives_none = TreeSealsNone second;
  size = size;
}

module _ (r : Run) (world : World) (of : IsOf r world) (reader : Reader) (second : KeyringMeaning) (others : List WrapKeyValue) (asked : ResealWords)
    (wide : 1 ≤ asked.frame) (drawn : List ℕ) where
  abbrev run : Resealing
  run = over_keys reader second others asked.frame

  abbrev writer : List KeyValue → List KeyValue → Writer
  writer whole only = reseal_writer asked others whole only

  abbrev made : List KeyValue → List KeyValue → EncMaterialsValue
  made whole only = drawn_materials (writer whole only) (drawn_rest drawn)

  abbrev j : Judged
  j = judged_by reader world.input

  abbrev end : Option Failure
  end = failure_at j.verdict ends.Whole

  abbrev fits : Bool
  fits = nat_le (length (content j)) (most_text asked.frame)

  abbrev effect : Effect
  effect = resealed_by reader second writer drawn world.input

  abbrev So : Type 0
  So = RunComesTo r world effect

  abbrev Front : List ℕ → Type 0
  Front text = AppendsFront r.before.output.written r.after.output.written text

  -- ---- the effect

  -- The input is unlocked, with this whole context and these pairs that are only authenticated.
  record IsOpen (whole only : List KeyValue) (key : List ℕ) : Type 0 where
    unlocked : j.unlocked ≡ true
    answer : unlocked_to reader world.input ≡ Unlocks whole only key

  open_is : (whole only : List KeyValue) (key : List ℕ) → IsOpen whole only key
      → effect ≡ effect_unless (refusal_over whole second) (resealed_with (writer whole only) drawn (content j) whole end)
  open_is whole only key is = λ i. resealed_effect second writer drawn j (is.unlocked i) (is.answer i)

  begun_is : (whole only : List KeyValue) (key : List ℕ) (m : EncMaterialsValue) → IsOpen whole only key → HasMaterials run drawn whole only m
      → effect ≡ resealed_text (writer whole only) drawn (content j) whole end fits
  begun_is whole only key m is has =
      let begins : start_refusal (made whole only) None (drawn_id drawn) ≡ None =
      subst (λ (x : EncMaterialsValue). start_refusal x None (drawn_id drawn) ≡ None) has.given.1 has.begins in
      open_is whole only key is
      ∙ ap (λ (o : Option Refusal). effect_unless o (resealed_with (writer whole only) drawn (content j) whole end)) has.given.0
      ∙ ap (λ (o : Option Refusal). effect_unless o (resealed_text (writer whole only) drawn (content j) whole end fits)) begins

  locked_is : j.unlocked ≡ false → effect ≡ opened_effect [] (unlocked_to reader world.input) end
  locked_is is = ap (λ (b : Bool). resealed_effect second writer drawn j b (unlocked_to reader world.input)) is

  -- ---- bytes that come first

  module _ (first rest : List ℕ) (all : world.input ≡ first ++ rest) where
    judged_same : (answer : Unlocking) → AnswersTo (answering_by reader) reader.settings reader.given first answer → judged first reader.settings answer ≡ judged_by reader first
    judged_same answer answered = judged_reader reader first answer answered

    -- where they are unlocked so, the input is
    opens : (whole only : List KeyValue) (key : List ℕ) → AnswersTo (answering_by reader) reader.settings reader.given first (Unlocks whole only key)
        → (judged first reader.settings (Unlocks whole only key)).unlocked ≡ true → IsOpen whole only key
    opens whole only key answered is =
        let here : (judged_by reader first).unlocked ≡ true = sym (ap (λ (x : Judged). x.unlocked) (judged_same (Unlocks whole only key) answered)) ∙ is in
        record {
          unlocked = ap (λ (b : List ℕ). (judged_by reader b).unlocked) all ∙ stays_unlocked reader first rest here;
          answer = ap (unlocked_to reader) all ∙ unlocked_on reader first rest here ∙ sym (answers_unlocking reader first (Unlocks whole only key) answered);
        }

    -- and it releases no less
    releases : (answer : Unlocking) → AnswersTo (answering_by reader) reader.settings reader.given first answer
        → (added : List ℕ) × (content j ≡ content (judged first reader.settings answer) ++ added)
    releases answer answered =
        let more = content_more reader world.input first rest all in
        (more.0, more.1 ∙ ap (λ (x : Judged). content x ++ more.0) (sym (judged_same answer answered)))

  -- ---- a front is left

  end_front : (w : Writer) (text : List ℕ) (context : List KeyValue) (e : Option Failure) → 1 ≤ w.size
      → Front (begun_by w drawn text) → Front (resealed_end w drawn text context e).output
  end_front w text context (Some failure) some front = front
  end_front w text context None some front =
      front_whole as_bytes (forms_keep_fronts false) (drawn_materials w (drawn_rest drawn)) w.size (drawn_id drawn) some r.before.output.written r.after.output.written text front

  fits_front : (whole only : List KeyValue) (failure : Failure) → RunFailed r world failure → IsReported failure r.code r.before.report r.after.report
      → (b : Bool) → fits ≡ b → Front (begun_by (writer whole only) drawn (take (most_text asked.frame) (content j)))
      → RunComesTo r world (resealed_text (writer whole only) drawn (content j) whole end b)
  fits_front whole only failure why said false is front = stops r world (resealed_text (writer whole only) drawn (content j) whole end false) failure why said front
  fits_front whole only failure why said true is front =
      stops r world (resealed_end (writer whole only) drawn (content j) whole end) failure why said
      (end_front (writer whole only) (content j) whole end wide
      (subst (λ (t : List ℕ). Front (begun_by (writer whole only) drawn t)) (take_all (most_text asked.frame) (content j) (leb-true (length (content j)) (most_text asked.frame) is)) front))

  left : (whole only : List KeyValue) (key : List ℕ) (m : EncMaterialsValue) → IsOpen whole only key → HasMaterials run drawn whole only m
      → (failure : Failure) → RunFailed r world failure → IsReported failure r.code r.before.report r.after.report → (text more : List ℕ) → content j ≡ text ++ more
      → length text ≤ most_text asked.frame → Front (written_so_far m asked.frame (drawn_id drawn) text) → So
  left whole only key m is has failure why said text more all short front =
      subst (λ (x : Effect). RunComesTo r world x) (sym (begun_is whole only key m is has))
      (fits_front whole only failure why said fits refl
      (subst (λ (t : List ℕ). Front (begun_by (writer whole only) drawn (take (most_text asked.frame) t))) (sym all)
      (front_on as_bytes (forms_keep_fronts false) (made whole only) asked.frame (drawn_id drawn) wide r.before.output.written r.after.output.written text more short
      (subst (λ (x : EncMaterialsValue). Front (written_so_far x asked.frame (drawn_id drawn) text)) has.given.1 front))))

  -- nothing was written
  none_left : (failure : Failure) → RunFailed r world failure → IsReported failure r.code r.before.report r.after.report → Appends r.before.output.written r.after.output.written [] → So
  none_left failure why said none = stops r world effect failure why said (0, none)

  -- ---- the whole message

  pub reseals_done : (context : List KeyValue) → Reseals run drawn r.before.input r.after.input r.before.output r.after.output context
      → TellsOrLacksMemory context r.code r.before.report r.after.report → So
  reseals_done context done told =
      let answer : Unlocking = Unlocks context done.only done.key in
      let all : world.input ≡ done.bytes = is_all r.after.input world.input done.bytes (begins_input r.before.input r.after.input world.input done.bytes of.input done.came) done.end.seen in
      let same : judged done.bytes reader.settings answer ≡ j = judged_reader reader done.bytes answer done.answered ∙ ap (judged_by reader) (sym all) in
      let is : IsOpen context done.only done.key = record {
        unlocked = sym (ap (λ (x : Judged). x.unlocked) same) ∙ whole_unlocked done.bytes reader.settings answer done.whole;
        answer = ap (unlocked_to reader) all ∙ sym (answers_unlocking reader done.bytes answer done.answered);
      } in
      let room : length (content j) ≤ most_text asked.frame = subst (λ (x : Judged). length (content x) ≤ most_text asked.frame) same done.room in
      let whole : end ≡ None = ap (λ (v : Verdict). failure_at v ends.Whole) (sym (ap (λ (x : Judged). x.verdict) same) ∙ done.whole) in
      let gained : Appends r.before.output.written r.after.output.written (message_by (writer context done.only) drawn (content j)) =
      subst (λ (x : Judged). Appends r.before.output.written r.after.output.written (message_by (writer context done.only) drawn (content x))) same
      (subst (λ (x : EncMaterialsValue). Appends r.before.output.written r.after.output.written (message_of x asked.frame (drawn_id drawn) (content (judged done.bytes reader.settings answer))))
      done.has.given.1 done.gained) in
      subst (λ (x : Effect). RunComesTo r world x)
      (sym (begun_is context done.only done.key done.materials is done.has
      ∙ ap (resealed_text (writer context done.only) drawn (content j) context end) (le-leb (length (content j)) (most_text asked.frame) room)
      ∙ ap (λ (e : Option Failure). resealed_end (writer context done.only) drawn (content j) context e) whole))
      (tells r world (message_by (writer context done.only) drawn (content j)) context gained told)

  -- ---- a fault

  -- nothing is unlocked
  locked_fault : (fault : Fault) → j.unlocked ≡ false → end ≡ Some (failures.Fault fault) → Appends r.before.output.written r.after.output.written []
      → Reports (failures.Fault fault) r.code r.before.report r.after.report → So
  locked_fault fault is named none said =
      subst (λ (x : Effect). RunComesTo r world x)
      (sym (locked_is is ∙ ap (λ (e : Option Failure). opened_effect [] (unlocked_to reader world.input) e) named)) (refuses r world [] (failures.Fault fault) none said)

  -- it stands behind what was released
  open_fault : (fault : Fault) (whole only : List KeyValue) (key : List ℕ) → IsOpen whole only key → end ≡ Some (failures.Fault fault)
      → ResealWritesFront run drawn whole only (content j) r.before.output r.after.output → Reports (failures.Fault fault) r.code r.before.report r.after.report → So
  open_fault fault whole only key is named front said =
      subst (λ (x : Effect). RunComesTo r world x)
      (sym (begun_is whole only key front.materials is front.has
      ∙ ap (resealed_text (writer whole only) drawn (content j) whole end) (le-leb (length (content j)) (most_text asked.frame) front.room)
      ∙ ap (λ (e : Option Failure). resealed_end (writer whole only) drawn (content j) whole e) named))
      (refuses r world (begun_by (writer whole only) drawn (content j)) (failures.Fault fault)
      (subst (λ (x : EncMaterialsValue). Appends r.before.output.written r.after.output.written (written_so_far x asked.frame (drawn_id drawn) (content j))) front.has.given.1 front.gained) said)

  -- by what the bytes that came are answered
  fault_by : (fault : Fault) (bytes rest : List ℕ) → world.input ≡ bytes ++ rest → (answer : Unlocking) → AnswersTo (answering_by reader) reader.settings reader.given bytes answer
      → (same : judged bytes reader.settings answer ≡ j) → end ≡ Some (failures.Fault fault) → (b : Bool) → (judged bytes reader.settings answer).unlocked ≡ b
      → WritesBy run drawn answer (content (judged bytes reader.settings answer)) b r.before.output r.after.output → Reports (failures.Fault fault) r.code r.before.report r.after.report → So
  fault_by fault bytes rest all (Unlocks whole only key) answered same named true is front said =
      open_fault fault whole only key (opens bytes rest all whole only key answered is) named
      (subst (λ (x : Judged). ResealWritesFront run drawn whole only (content x) r.before.output r.after.output) same front) said
  fault_by fault bytes rest all (Unlocks whole only key) answered same named false is none said =
      locked_fault fault (sym (ap (λ (x : Judged). x.unlocked) same) ∙ is) named none said
  fault_by fault bytes rest all (Refuses other) answered same named b is none said =
      locked_fault fault (sym (ap (λ (x : Judged). x.unlocked) same) ∙ refused_locked bytes reader.settings other) named none said

  faulty : (fault : Fault) → ResealFindsFault run drawn r.before.input r.after.input r.before.output r.after.output fault → Reports (failures.Fault fault) r.code r.before.report r.after.report → So
  faulty fault has said =
      let begins = begins_input r.before.input r.after.input world.input has.bytes of.input has.passes.came in
      let here : judged has.bytes reader.settings has.answer ≡ judged_by reader has.bytes = judged_reader reader has.bytes has.answer has.passes.answered in
      elim has.cause [
        | inl early ↦
            (let same : judged has.bytes reader.settings has.answer ≡ j =
            here ∙ sym (fault_same reader world.input has.bytes begins.rest fault begins.all (sym (ap (λ (x : Judged). fault_of x.verdict) here) ∙ early)) in
            fault_by fault has.bytes begins.rest begins.all has.answer has.passes.answered same
            (sym (ap (λ (x : Judged). failure_at x.verdict ends.Whole) same) ∙ early_named (judged has.bytes reader.settings has.answer).verdict ends.Whole fault early)
            (judged has.bytes reader.settings has.answer).unlocked refl has.passes.written said)
        | inr late ↦
            (let same : judged has.bytes reader.settings has.answer ≡ j = here ∙ ap (judged_by reader) (sym (is_all r.after.input world.input has.bytes begins late.0.seen)) in
            fault_by fault has.bytes begins.rest begins.all has.answer has.passes.answered same
            (sym (ap (λ (x : Judged). failure_at x.verdict ends.Whole) same) ∙ late_named (judged has.bytes reader.settings has.answer).verdict fault late.1)
            (judged has.bytes reader.settings has.answer).unlocked refl has.passes.written said)
      ]

  -- ---- a read failed

  passed_by : (failure : Failure) → RunFailed r world failure → IsReported failure r.code r.before.report r.after.report → (bytes rest : List ℕ) → world.input ≡ bytes ++ rest
      → (answer : Unlocking) → AnswersTo (answering_by reader) reader.settings reader.given bytes answer → (b : Bool) → (judged bytes reader.settings answer).unlocked ≡ b
      → WritesBy run drawn answer (content (judged bytes reader.settings answer)) b r.before.output r.after.output → So
  passed_by failure why said bytes rest all (Unlocks whole only key) answered true is front =
      let more = releases bytes rest all (Unlocks whole only key) answered in
      left whole only key front.materials (opens bytes rest all whole only key answered is) front.has failure why said (content (judged bytes reader.settings (Unlocks whole only key))) more.0 more.1
      front.room (front_all r.before.output.written r.after.output.written (written_so_far front.materials asked.frame (drawn_id drawn) (content (judged bytes reader.settings (Unlocks whole only key)))) front.gained)
  passed_by failure why said bytes rest all (Unlocks whole only key) answered false is none = none_left failure why said none
  passed_by failure why said bytes rest all (Refuses fault) answered b is none = none_left failure why said none

  -- ---- a write failed

  -- the input, from bytes that come first of those that came
  first_all : (first behind rest : List ℕ) → world.input ≡ (first ++ behind) ++ rest → world.input ≡ first ++ (behind ++ rest)
  first_all first behind rest all = all ∙ append_assoc first behind rest

  front_fails : Rose r.before.output.faults r.after.output.faults → FrontFails run drawn r.before.input r.after.input r.before.output r.after.output
      → IsReported (failures.Outside outsides.SinkFault) r.code r.before.report r.after.report → So
  front_fails rose f said =
      let begins = begins_input r.before.input r.after.input world.input (f.first ++ f.opens.behind) of.input f.opens.came in
      let all = first_all f.first f.opens.behind begins.rest begins.all in
      let rest : List ℕ = f.opens.behind ++ begins.rest in
      let answer : Unlocking = Unlocks f.whole f.only f.key in
      let text : List ℕ = content (judged f.first reader.settings answer) in
      let more = releases f.first rest all answer f.opens.answered in
      left f.whole f.only f.key f.materials (opens f.first rest all f.whole f.only f.key f.opens.answered f.opens.unlocked) f.has (failures.Outside outsides.SinkFault) rose said
      (take (most_text asked.frame) text) (drop (most_text asked.frame) text ++ more.0)
      (more.1 ∙ ap (λ (t : List ℕ). t ++ more.0) (sym (take-append-drop (most_text asked.frame) text)) ∙ append_assoc (take (most_text asked.frame) text) (drop (most_text asked.frame) text) more.0)
      (omega (arith, length-take (most_text asked.frame) text)) (front_beyond r.before.output r.after.output _ _ f.last.was)

  final_fails : Rose r.before.output.faults r.after.output.faults → ResealFinalFails run drawn r.before.input r.after.input r.before.output r.after.output
      → IsReported (failures.Outside outsides.SinkFault) r.code r.before.report r.after.report → So
  final_fails rose f said =
      let answer : Unlocking = Unlocks f.whole f.only f.key in
      let all : world.input ≡ f.bytes = is_all r.after.input world.input f.bytes (begins_input r.before.input r.after.input world.input f.bytes of.input f.came) f.end.seen in
      let same : judged f.bytes reader.settings answer ≡ j = judged_reader reader f.bytes answer f.answered ∙ ap (judged_by reader) (sym all) in
      let is : IsOpen f.whole f.only f.key = record {
        unlocked = sym (ap (λ (x : Judged). x.unlocked) same) ∙ whole_unlocked f.bytes reader.settings answer f.verdict;
        answer = ap (unlocked_to reader) all ∙ sym (answers_unlocking reader f.bytes answer f.answered);
      } in
      let room : length (content j) ≤ most_text asked.frame = subst (λ (x : Judged). length (content x) ≤ most_text asked.frame) same f.room in
      let whole : end ≡ None = ap (λ (v : Verdict). failure_at v ends.Whole) (sym (ap (λ (x : Judged). x.verdict) same) ∙ f.verdict) in
      subst (λ (x : Effect). RunComesTo r world x)
      (sym (begun_is f.whole f.only f.key f.materials is f.has
      ∙ ap (resealed_text (writer f.whole f.only) drawn (content j) f.whole end) (le-leb (length (content j)) (most_text asked.frame) room)
      ∙ ap (λ (e : Option Failure). resealed_end (writer f.whole f.only) drawn (content j) f.whole e) whole))
      (stops r world (resealed_end (writer f.whole f.only) drawn (content j) f.whole None) (failures.Outside outsides.SinkFault) rose said
      (subst (λ (x : Judged). Front (message_by (writer f.whole f.only) drawn (content x))) same
      (subst (λ (x : EncMaterialsValue). Front (message_of x asked.frame (drawn_id drawn) (content (judged f.bytes reader.settings answer)))) f.has.given.1
      (front_beyond r.before.output r.after.output _ _ f.front))))

  -- ---- the new message is refused

  refuses_new : (refusal : Refusal) → RefusesMessage run drawn r.before.input r.after.input r.before.output r.after.output refusal
      → Reports (failures.Refusal refusal) r.code r.before.report r.after.report → So
  refuses_new refusal f said =
      let begins = begins_input r.before.input r.after.input world.input (f.first ++ f.opens.behind) of.input f.opens.came in
      let all = first_all f.first f.opens.behind begins.rest begins.all in
      let is = opens f.first (f.opens.behind ++ begins.rest) all f.whole f.only f.key f.opens.answered f.opens.unlocked in
      subst (λ (x : Effect). RunComesTo r world x)
      (sym (open_is f.whole f.only f.key is ∙ elim f.why [
        | inl named ↦ ap (λ (o : Option Refusal). effect_unless o (resealed_with (writer f.whole f.only) drawn (content j) f.whole end)) named
        | inr starts ↦
            ap (λ (o : Option Refusal). effect_unless o (resealed_with (writer f.whole f.only) drawn (content j) f.whole end)) starts.given.0
            ∙ ap (λ (o : Option Refusal). effect_unless o (resealed_text (writer f.whole f.only) drawn (content j) f.whole end fits))
            (subst (λ (x : EncMaterialsValue). start_refusal x None (drawn_id drawn) ≡ Some refusal) starts.given.1 starts.refused)
      ]))
      (refuses r world [] (failures.Refusal refusal) f.nothing.gained said)

  -- ---- the end

  pub reseals_ends : (error : InputError) → ResealEndsSo run drawn r.before.input r.after.input r.before.output r.after.output error
      → Reports (resealing_failure error) r.code r.before.report r.after.report → So
  reseals_ends (errors.Fault fault) has said = faulty fault has said
  reseals_ends (errors.Refusal refusal) (inl refuses_so) said = refuses_new refusal refuses_so said
  reseals_ends (errors.Refusal refusal) (inr (is, f)) said =
      let begins = begins_input r.before.input r.after.input world.input (f.first ++ f.opens.behind) of.input f.opens.came in
      let all = first_all f.first f.opens.behind begins.rest begins.all in
      let rest : List ℕ = f.opens.behind ++ begins.rest in
      let answer : Unlocking = Unlocks f.whole f.only f.key in
      let text : List ℕ = content (judged f.first reader.settings answer) in
      let more = releases f.first rest all answer f.opens.answered in
      let room : take (most_text asked.frame) text ≡ take (most_text asked.frame) (content j) =
      sym (ap (take (most_text asked.frame)) more.1 ∙ take-append-le (most_text asked.frame) text more.0 (omega (arith, f.many))) in
      let over : most_text asked.frame < length (content j) = omega (arith, f.many, ap length more.1, length-append text more.0) in
      subst (λ (x : Effect). RunComesTo r world x)
      (sym (begun_is f.whole f.only f.key f.materials (opens f.first rest all f.whole f.only f.key f.opens.answered f.opens.unlocked) f.has
      ∙ ap (resealed_text (writer f.whole f.only) drawn (content j) f.whole end) (lt-leb (length (content j)) (most_text asked.frame) over)))
      (refuses r world (begun_by (writer f.whole f.only) drawn (take (most_text asked.frame) (content j))) (failures.Refusal TooManyFrames)
      (subst (λ (t : List ℕ). Appends r.before.output.written r.after.output.written (begun_by (writer f.whole f.only) drawn t)) room
      (subst (λ (x : EncMaterialsValue). Appends r.before.output.written r.after.output.written (written_so_far x asked.frame (drawn_id drawn) (take (most_text asked.frame) text)))
      f.has.given.1 f.gained))
      (subst (λ (f : Refusal). Reports (failures.Refusal f) r.code r.before.report r.after.report) is said))
  reseals_ends (errors.Outside outsides.SourceFault) f said =
      let begins = begins_input r.before.input r.after.input world.input f.bytes of.input f.passes.came in
      passed_by (failures.Outside outsides.SourceFault) f.rose said f.bytes begins.rest begins.all f.answer f.passes.answered (judged f.bytes reader.settings f.answer).unlocked refl f.passes.written
  reseals_ends (errors.Outside outsides.SinkFault) (rose, inl f) said = front_fails rose f said
  reseals_ends (errors.Outside outsides.SinkFault) (rose, inr f) said = final_fails rose f said
  reseals_ends (errors.Outside outsides.KeyringFault) (inl (f, none)) said = absurd (never_fails reader f.bytes f.failed)
  reseals_ends (errors.Outside outsides.KeyringFault) (inr f) said = absurd f.none
  reseals_ends (errors.Outside outsides.InputTooLong) f said =
      absurd (is_few r.after.input world.input f.bytes (begins_input r.before.input r.after.input world.input f.bytes of.input f.passes.came) of.few f.most.count)
  reseals_ends (errors.Outside outside) f said = absurd f
  reseals_ends errors.Memory f said = elim f.written [
    | inl none ↦ none_left failures.Memory tt said none.gained
    | inr w ↦
        (let begins = begins_input r.before.input r.after.input world.input (w.first ++ w.opens.behind) of.input w.opens.came in
        let all = first_all w.first w.opens.behind begins.rest begins.all in
        passed_by failures.Memory tt said w.first (w.opens.behind ++ begins.rest) all (Unlocks w.whole w.only w.key) w.opens.answered true w.opens.unlocked w.front)
  ]
