-- What is resealed comes back.
use Rattle.std.proofs.Common.{◌≡◌, ◌∙◌, ℕ, ◌*◌, nat_le, Bool, true, false, List, [], ◌∷◌, length, drop, Option, Some, None, refl, sym, ap, arith, le-leb, leb-true}
use Rattle.std.specs.Prelude.{All, Contains}
use Rattle.std.proofs.lemmas.List.{length-drop, length-take-le}
use Rattle.std.proofs.lemmas.List.Elements.{All-cons, All-head, All-nil, All-tail}
use Rattle.esdk_fields.specs.declared.refusals.Refusal.{Refusal}
use Rattle.context_codec.specs.Context.{KeyValue}
use Rattle.context_codec.specs.Parts.{holds, is_among, keys_of, only_of}
use Rattle.context_codec.proofs.Members.{Contains-filter_back, Contains-head, Contains-tail}
use Rattle.context_codec.proofs.Parts.{holds_own}
use Rattle.edk_codec.specs.Entry.{IsEntry}
use Rattle.keyring_trait.specs.Manager.{ManagerMeaning}
use Rattle.keyring_trait.specs.Materials.{EncMaterialsValue}
use Rattle.keyring_trait.specs.Requests.{AllHeld}
use Rattle.keyring_trait.specs.Unlocking.{Unlocks}
use Rattle.keyring_trait.specs.Wrapping.{AreIvs, WrapKeyValue, active, ivs_of, made_under, wrap}
use Rattle.keyring_trait.proofs.Back.{ivs_are}
use Rattle.keyring_trait.proofs.Made.{length-made, wrap_is_entry}
use Rattle.message_format.specs.Laws.{whole_of_text}
use Rattle.message_format.proofs.WrittenMessages.{text_released}
use Rattle.stream_seal.specs.Start.{drawn_id, most_text, start_refusal}
use Rattle.esdk_encrypt.specs.Told.{Writer, message_by}
use Rattle.esdk_encrypt.proofs.Fitting.{few_begin}
use Rattle.esdk_decrypt.specs.Laws.{written_message}
use Rattle.esdk_decrypt.specs.Told.{Reader, judged_by, unlocked_to}
use Rattle.esdk_decrypt.proofs.RoundTrip.{written_judged, written_unlocked}
use Rattle.reseal_core.specs.Front.{AreSound}
use Rattle.reseal_core.specs.Laws.{HasRoom, ReadsNew}
use Rattle.reseal_core.proofs.NewMaterials.{CanSeal, materials}
use Rattle.reseal_core.proofs.Rotating.{for_new, renewed}
use Rattle.esdk_report.specs.Report.{context_line}
use Rattle.esdk_run.specs.Giving.{refusal_over}
use Rattle.esdk_run.specs.ResealTold.{reseal_writer}
use Rattle.esdk_program.specs.Effect.{Effect, done_with}
use Rattle.esdk_program.specs.Laws.{CanRotate, HasShortNames, IsRewritten, OpensWhatIsResealed, ResealsWhatIsWritten, RewritesForNewReaders, Rotation, just, rotation_effect}
use Rattle.esdk_program.specs.Program.{effect_unless, judged_effect, resealed_effect, resealed_text, resealed_with}
use Rattle.esdk_program.proofs.RoundTrip.{written_opens}

-- what keys make that have short names are entries
entries_made : (ws : List WrapKeyValue) (c : List KeyValue) (key : List ℕ) (ivs : List (List ℕ)) → All HasShortNames ws → All (λ iv. length iv ≡ 12) ivs → length key ≡ 32
    → All IsEntry (made_under ws c key ivs)
entries_made [] c key ivs named twelve long = All-nil IsEntry
entries_made (w ∷ ws) c key [] named twelve long = All-nil IsEntry
entries_made (w ∷ ws) c key (iv ∷ ivs) named twelve long =
    let names : HasShortNames w = All-head HasShortNames w ws named in
    All-cons IsEntry (wrap w c iv key) (made_under ws c key ivs)
    (wrap_is_entry w c iv key (omega (arith, names.0)) names.1 (All-head (λ i. length i ≡ 12) iv ivs twelve) long)
    (entries_made ws c key ivs (All-tail HasShortNames w ws named) (All-tail (λ i. length i ≡ 12) iv ivs twelve) long)

-- the keys of pairs that a context has are held
keys_held : (c ps : List KeyValue) → ((p : KeyValue) → Contains ps p → Contains c p) → AllHeld c (keys_of ps)
keys_held c [] listed = All-nil (λ key. holds c key ≡ true)
keys_held c (p ∷ ps) listed =
    All-cons (λ key. holds c key ≡ true) p.0 (keys_of ps) (holds_own c p (listed p (Contains-head p ps)))
    (keys_held c ps (λ q is. listed q (Contains-tail p ps q is)))

-- what isn't refused is done
none_of_code : (refusal : Option Refusal) (e : Effect) → (effect_unless refusal e).code ≡ 0 → (refusal ≡ None) × (e.code ≡ 0)
none_of_code None e zero = (refl, zero)
none_of_code (Some refusal) e zero = absurd (let six : 6 ≡ 0 = zero in omega (arith, six))

module _ (r : Rotation) (can : CanRotate r) where
  abbrev only : List KeyValue
  only = only_of r.old.required r.old.context

  -- ---- what the second tree's keys give

  -- a manager of these keys that demands nothing
  abbrev manager : ManagerMeaning
  manager = record { wraps = length (active r.others); refuses = None; faults = 0; steady = true; fresh = true; plain = true; demands = [] }

  abbrev given : EncMaterialsValue
  given = materials r.others manager r.asked.frame r.drawn r.old.context only

  abbrev ivs : List (List ℕ)
  ivs = ivs_of (length (active r.others)) (drop 32 (drop 32 r.drawn))

  have_ivs : AreIvs r.others ivs
  have_ivs =
      let long : length (drop 32 (drop 32 r.drawn)) ≡ 12 * length (active r.others) =
      omega (arith, length-drop 32 (drop 32 r.drawn), length-drop 32 r.drawn, can.wraps.count) in
      ivs_are r.others (length (active r.others)) (drop 32 (drop 32 r.drawn)) refl long

  key_long : length given.key ≡ 32
  key_long = length-take-le 32 (drop 32 r.drawn) (omega (arith, length-drop 32 r.drawn, can.wraps.count))

  count : length given.entries ≡ length (active r.others)
  count = length-made r.others r.old.context given.key ivs have_ivs.enough

  sound : AreSound given
  sound = record {
    context = can.written.writable.context;
    parts = record {
      some = omega (arith, count, can.wraps.some);
      few = omega (arith, count, can.wraps.few);
      each = entries_made (active r.others) r.old.context given.key ivs can.wraps.named have_ivs.long key_long;
      held = keys_held r.old.context only (λ p listed. (Contains-filter_back (is_among r.old.required) r.old.context p listed).0);
    };
  }

  begins : start_refusal given None (drawn_id r.drawn) ≡ None
  begins = few_begin given (drawn_id r.drawn) None (length-take-le 32 r.drawn (omega (arith, can.wraps.count))) sound.context sound.parts.each sound.parts.few tt

  -- ---- the effect

  abbrev writer : Writer
  writer = reseal_writer r.asked r.others r.old.context only

  abbrev refusal : Option Refusal
  refusal = refusal_over r.old.context r.second

  -- what is written of the text, where it fits or not
  abbrev made : Bool → Effect
  made fits = resealed_text writer r.drawn r.old.text r.old.context None fits

  abbrev fits : Bool
  fits = nat_le (length r.old.text) (most_text r.asked.frame)

  effect_is : rotation_effect r ≡ effect_unless refusal (made fits)
  effect_is =
      let judged_is : judged_by r.reader (written_message r.old) ≡ whole_of_text r.old.text r.old.size = written_judged r.reader r.writers r.old can.written in
      let answer_is : unlocked_to r.reader (written_message r.old) ≡ Unlocks r.old.context only r.old.key = written_unlocked r.reader r.writers r.old can.written in
      (λ i. resealed_effect r.second (reseal_writer r.asked r.others) r.drawn (judged_is i) (judged_is i).unlocked (answer_is i))
      ∙ ap (λ (t : List ℕ). effect_unless refusal (resealed_with writer r.drawn t r.old.context None)) (text_released r.old.text r.old.size can.written.writable.some)
      ∙ ap (λ (o : Option Refusal). effect_unless refusal (effect_unless o (made fits))) begins

  resealed_so : refusal ≡ None → HasRoom r.asked.frame r.old.text → rotation_effect r ≡ done_with (message_by writer r.drawn r.old.text) (context_line r.old.context)
  resealed_so none room =
      effect_is ∙ ap (λ (o : Option Refusal). effect_unless o (made fits)) none ∙ ap made (le-leb (length r.old.text) (most_text r.asked.frame) room)

  -- ---- the new message

  fits_of_code : (b : Bool) → (made b).code ≡ 0 → b ≡ true
  fits_of_code true zero = refl
  fits_of_code false zero = absurd (let six : 6 ≡ 0 = zero in omega (arith, six))

  -- Status 0 says that nothing was refused, and that there was room.
  record IsDone : Type 0 where
    unrefused : refusal ≡ None
    room : HasRoom r.asked.frame r.old.text

  done_so : (rotation_effect r).code ≡ 0 → IsDone
  done_so zero =
      let done = none_of_code refusal (made fits) (sym (ap (λ (e : Effect). e.code) effect_is) ∙ zero) in
      record { unrefused = done.0; room = leb-true (length r.old.text) (most_text r.asked.frame) (fits_of_code fits done.1) }

  rewritten_so : (rotation_effect r).code ≡ 0 → IsRewritten r (rotation_effect r).output
  rewritten_so zero =
      let done = done_so zero in
      let seal : CanSeal r.others manager r.asked.frame r.drawn r.old.context only r.old.text =
      record { wide = can.wide; narrow = can.narrow; count = can.wraps.count; sound = sound; begins = begins; room = omega (arith, done.room) } in
      record {
        new = renewed r.old r.others manager r.asked.frame r.drawn;
        is = ap (λ (e : Effect). e.output) (resealed_so done.unrefused done.room);
        text = refl;
        context = refl;
        written = λ reader reads. for_new r.old r.others manager r.asked.frame r.drawn seal r.writers r.reader can.written reader reads;
      }

  opened_so : (rotation_effect r).code ≡ 0 → (reader : Reader) → ReadsNew r.old r.others [] r.asked.frame reader
      → judged_effect reader (just (rotation_effect r).output) ≡ done_with r.old.text (context_line r.old.context)
  opened_so zero reader reads =
      let new = rewritten_so zero in
      ap (λ (b : List ℕ). judged_effect reader (just b)) new.is ∙ written_opens reader (active r.others) new.new (new.written reader reads)
      ∙ (λ i. done_with (new.text i) (context_line (new.context i)))

pub reseals_written : ResealsWhatIsWritten
reseals_written r can none room = resealed_so r can none room

pub resealed_opens : OpensWhatIsResealed
resealed_opens r reader can zero reads = opened_so r can zero reader reads

pub rewrites_for_new : RewritesForNewReaders
rewrites_for_new r can zero = rewritten_so r can zero
