-- How a run ends whose resealer took all bytes that came.
use Rattle.std.proofs.Common.{◌≡◌, ◌∙◌, ℕ, List, [], Option, Some, None, Result, Ok, Err, IfOk, inl, inr, refl, sym, ap, subst, arith, append-nil}
use Rattle.std.specs.Prelude.{IfErr}
use Rattle.std.specs.Io.KnownBytes.{Appends}
use Rattle.std.proofs.KnownBytes.{Appends-trans}
use Rattle.esdk_base.specs.ReceiverLaws.{takes_none}
use Rattle.esdk_base.specs.Streams.{EntropyState, SinkState, SourceState}
use Rattle.esdk_fields.specs.declared.refusals.Outside.TheVariants as outsides
use Rattle.context_codec.specs.Context.{KeyValue}
use Rattle.header_codec.specs.declared.settings.Settings.{Settings}
use Rattle.keyring_trait.specs.Manager.{ManagerNow}
use Rattle.keyring_trait.specs.Materials.{EncMaterialsValue}
use Rattle.keyring_trait.specs.Saying.{said_last}
use Rattle.keyring_trait.specs.Unlocking.{Unlocking, Unlocks}
use Rattle.message_format.specs.Judgement.{Judged, content, judged}
use Rattle.stream_open.specs.Session.{OpeningValue, answer_kept, judged_now}
use Rattle.stream_seal.specs.Start.{message_of, drawn_id}
use Rattle.whole_input.specs.declared.pieces.End.{End}
use Rattle.whole_input.specs.declared.pieces.End.TheVariants as ends
use Rattle.whole_input.specs.Written.{WritesBeyond}
use Rattle.esdk_encrypt.specs.Encrypt.{Drew, written_so_far}
use Rattle.esdk_decrypt.specs.Decrypt.{AnswersTo, HasContext, answering_of, fault_at_end, fault_of}
use Rattle.esdk_decrypt.proofs.Concluding.{memory_first as lacks_first}
use Rattle.reseal_core.specs.declared.errors.InputError.{InputError}
use Rattle.reseal_core.specs.declared.errors.InputError.TheVariants as errors
use Rattle.reseal_core.specs.declared.errors.ResealError.TheVariants as reseals
use Rattle.reseal_core.specs.declared.resealer.Resealer.{Resealer}
use Rattle.reseal_core.specs.Reseal.{ResealEndsSo, Passes, Reseals, ResealEnds, Resealing, ResealsInput, resealing_from}
use Rattle.reseal_core.specs.Session.{ResealingValue, gone_on, new_resealing_session}
use Rattle.reseal_core.specs.Underway.{AreMade, ConcludesResealing, ConcludesSo, IsFedInput, IsMade}
use Rattle.reseal_core.proofs.Stepping.{writes_beyond}
use Rattle.reseal_core.proofs.Reaching.{answer, answer_kept_is, answers, has_gained, has_room, passes, same, sound}

module _ {A B : Type 0} (opened : A → ManagerNow) (sealed : B → ManagerNow) (now : ℕ) (settings : Settings) (given : List KeyValue) (size : ℕ) (random : List ℕ) (input taken : SourceState) (old new : A) (before after : B)
    (output put : SinkState) (resealer : Resealer) where
  abbrev v0 : ResealingValue
  v0 = new_resealing_session settings given size random

  abbrev asked : Resealing
  asked = resealing_from (opened old) (opened new) (sealed before) (sealed after) now settings given size

  module _ (end : End) (fed : IsFedInput opened sealed now v0 input taken old new before after output put end resealer) (last : SinkState) where
    abbrev w : OpeningValue
    w = fed.reached.fed.session

    abbrev v : ResealingValue
    v = gone_on v0 w fed.reached.materials

    abbrev is : Unlocking
    is = answer opened sealed now settings given size random fed.bytes old new before after output put resealer fed.reached

    same_now : judged fed.bytes settings is ≡ judged_now w
    same_now = same opened sealed now settings given size random fed.bytes old new before after output put resealer fed.reached

    made : (m : EncMaterialsValue) → fed.reached.materials ≡ Some m → AreMade (said_last (sealed before) (sealed after)) now random w.answer m
    made m e = subst (λ (x : Option EncMaterialsValue). IsMade (said_last (sealed before) (sealed after)) now random w.answer (after ≡ before) x) e fed.reached.made

    -- What unlocked the old message, where the new one has materials.
    record Unlocked (m : EncMaterialsValue) (made : AreMade (said_last (sealed before) (sealed after)) now random w.answer m) : Type 0 where
      answered : AnswersTo (answering_of (opened old) (opened new) now) settings given fed.bytes (Unlocks made.whole made.only made.key)
      judged_is : judged fed.bytes settings (Unlocks made.whole made.only made.key) ≡ judged_now w

    unlocked : (m : EncMaterialsValue) (made : AreMade (said_last (sealed before) (sealed after)) now random w.answer m) → Unlocked m made
    unlocked m made =
        let answer_is : is ≡ Unlocks made.whole made.only made.key =
        answer_kept_is opened sealed now settings given size random fed.bytes old new before after output put resealer fed.reached (Unlocks made.whole made.only made.key) made.answer_is in
        record {
          answered = subst (λ (x : Unlocking). AnswersTo (answering_of (opened old) (opened new) now) settings given fed.bytes x) answer_is
              (answers opened sealed now settings given size random fed.bytes old new before after output put resealer fed.reached);
          judged_is = ap (judged fed.bytes settings) (sym answer_is) ∙ same_now;
        }

    passes_now : Passes asked random input taken output put fed.bytes is
    passes_now = passes opened sealed now settings given size random fed.bytes old new before after output put resealer fed.reached input taken fed.came

    sound_now : fault_of (judged fed.bytes settings is).verdict ≡ None
    sound_now = sound opened sealed now settings given size random fed.bytes old new before after output put resealer fed.reached

    same_context : (whole only : List KeyValue) (key : List ℕ) (context : List KeyValue) (kept : Option Unlocking) → kept ≡ Some (Unlocks whole only key) → HasContext (answer_kept kept) context → whole ≡ context
    same_context whole only key context kept e (o, k, is) = let same_answer : Unlocks whole only key ≡ Unlocks context o k = sym (ap answer_kept e) ∙ is in cc

    -- ---- the input's end

    module _ (seen : end ≡ ends.Seen) where
      pub whole_resealed : (context : List KeyValue) → ConcludesSo v put last (Ok tt) → HasContext (answer_kept w.answer) context → Reseals asked random input taken output last context
      whole_resealed context (whole, (m, e, finishes)) has =
          let mine = made m e in
          let here = unlocked m mine in
          let gained = has_gained opened sealed now settings given size random fed.bytes old new before after output put resealer fed.reached m e in
          let context_is : mine.whole ≡ context = same_context mine.whole mine.only mine.key context w.answer mine.answer_is has in
          subst (λ (c : List KeyValue). Reseals asked random input taken output last c) context_is (record {
            bytes = fed.bytes;
            only = mine.only;
            key = mine.key;
            came = fed.came;
            answered = here.answered;
            end = rw seen at fed.ends;
            whole = ap (λ (j : Judged). j.verdict) here.judged_is ∙ whole;
            materials = m;
            has = record { given = mine.given.given; sound = mine.given.sound; begins = mine.given.begins };
            room = rw (ap content here.judged_is) (has_room opened sealed now settings given size random fed.bytes old new before after output put resealer fed.reached m e);
            gained = subst (λ (t : List ℕ). Appends output.written last.written (message_of m size (drawn_id random) t)) (sym (ap content here.judged_is))
                (subst (λ (x : List ℕ). Appends output.written last.written x) (sym finishes.between)
                (Appends-trans output.written put.written last.written _ finishes.given gained.gained finishes.taken.gained));
          })

      pub final_fails : ConcludesSo v put last (Err reseals.SinkFault) → ResealEndsSo asked random input taken output last (errors.Outside outsides.SinkFault)
      final_fails (whole, (m, e, failed)) =
          let mine = made m e in
          let here = unlocked m mine in
          let gained = has_gained opened sealed now settings given size random fed.bytes old new before after output put resealer fed.reached m e in (
            omega (arith, failed.failed.rose, gained.faults),
            inr (record {
              bytes = fed.bytes;
              whole = mine.whole;
              only = mine.only;
              key = mine.key;
              came = fed.came;
              answered = here.answered;
              end = rw seen at fed.ends;
              verdict = ap (λ (j : Judged). j.verdict) here.judged_is ∙ whole;
              materials = m;
              has = record { given = mine.given.given; sound = mine.given.sound; begins = mine.given.begins };
              room = rw (ap content here.judged_is) (has_room opened sealed now settings given size random fed.bytes old new before after output put resealer fed.reached m e);
              front = subst (λ (t : List ℕ). WritesBeyond output last (written_so_far m size (drawn_id random) t) (message_of m size (drawn_id random) t)) (sym (ap content here.judged_is))
                  (writes_beyond output put last (written_so_far m size (drawn_id random) (content (judged_now w))) _ gained failed);
            }),
          )

      pub ends_faulty : (fault : _) → fault_at_end (judged_now w).verdict ≡ Some fault → ResealEndsSo asked random input taken output put (errors.Fault fault)
      ends_faulty fault at = record {
        bytes = fed.bytes;
        answer = is;
        passes = passes_now;
        faults = (let seen_end = rw seen at fed.ends in seen_end.faults);
        cause = inr (rw seen at fed.ends, ap (λ (j : Judged). fault_at_end j.verdict) same_now ∙ at);
        last = record { before = fed.bytes; piece = []; all = sym (append-nil fed.bytes); few = omega arith; was = sound_now };
      }

  -- ---- whatever ended it

  pub concludes_ok : (end : End) (fed : IsFedInput opened sealed now v0 input taken old new before after output put end resealer) (last : SinkState) (context : List KeyValue)
      → ConcludesResealing (gone_on v0 fed.reached.fed.session fed.reached.materials) put last end (Ok context) → Reseals asked random input taken output last context
  concludes_ok ends.Seen fed last context (so, has) = whole_resealed ends.Seen fed last refl context so has
  concludes_ok ends.Failed fed last context none = absurd none
  concludes_ok ends.TooLong fed last context none = absurd none

  at_last : (last : SinkState) (error : InputError) → last ≡ put → ResealEndsSo asked random input taken output put error → ResealEndsSo asked random input taken output last error
  at_last last error same ends = subst (λ (x : SinkState). ResealEndsSo asked random input taken output x error) (sym same) ends

  pub concludes_err : (end : End) (fed : IsFedInput opened sealed now v0 input taken old new before after output put end resealer) (last : SinkState) (error : InputError)
      → ConcludesResealing (gone_on v0 fed.reached.fed.session fed.reached.materials) put last end (Err error) → ResealEndsSo asked random input taken output last error
  concludes_err ends.Seen fed last (errors.Fault fault) (at, same) = at_last last (errors.Fault fault) same (ends_faulty ends.Seen fed last refl fault at)
  concludes_err ends.Seen fed last (errors.Outside outsides.SinkFault) so = final_fails ends.Seen fed last refl so
  concludes_err ends.Seen fed last (errors.Outside outside) none = absurd none
  concludes_err ends.Seen fed last (errors.Refusal refusal) none = absurd none
  concludes_err ends.Seen fed last errors.Memory none = absurd none
  concludes_err ends.Failed fed last (errors.Outside outsides.SourceFault) same =
      at_last last (errors.Outside outsides.SourceFault) same
      (record { bytes = fed.bytes; answer = is ends.Failed fed last; passes = passes_now ends.Failed fed last; sound = sound_now ends.Failed fed last; rose = fed.ends })
  concludes_err ends.Failed fed last (errors.Outside outside) none = absurd none
  concludes_err ends.Failed fed last (errors.Fault fault) none = absurd none
  concludes_err ends.Failed fed last (errors.Refusal refusal) none = absurd none
  concludes_err ends.Failed fed last errors.Memory none = absurd none
  concludes_err ends.TooLong fed last (errors.Outside outsides.InputTooLong) same =
      at_last last (errors.Outside outsides.InputTooLong) same
      (record { bytes = fed.bytes; answer = is ends.TooLong fed last; passes = passes_now ends.TooLong fed last; sound = sound_now ends.TooLong fed last; most = fed.ends })
  concludes_err ends.TooLong fed last (errors.Outside outside) none = absurd none
  concludes_err ends.TooLong fed last (errors.Fault fault) none = absurd none
  concludes_err ends.TooLong fed last (errors.Refusal refusal) none = absurd none
  concludes_err ends.TooLong fed last errors.Memory none = absurd none

-- ---- the run

module _ (asked : Resealing) (input taken : SourceState) (output put : SinkState) (entropy spent : EntropyState) (untouched unasked : Type 0) where
  -- bytes were drawn, and then the run ended so
  pub ends_drawn : (drawn : List ℕ) → Drew asked.wraps entropy spent drawn → (error : InputError) → ResealEndsSo asked drawn input taken output put error → ResealEnds asked input taken output put entropy spent untouched unasked error
  ends_drawn drawn drew (errors.Fault fault) ends = record { drawn = drawn; drew = drew; is = ends }
  ends_drawn drawn drew (errors.Refusal refusal) ends = record { drawn = drawn; drew = drew; is = ends }
  ends_drawn drawn drew (errors.Outside outsides.EntropyFault) ends = absurd ends
  ends_drawn drawn drew (errors.Outside outside) ends = record { drawn = drawn; drew = drew; is = ends }
  ends_drawn drawn drew errors.Memory ends = record { drawn = drawn; drew = drew; is = ends }

  pub ends_with : {T : Type 0} (drawn : List ℕ) → Drew asked.wraps entropy spent drawn → (r : Result T InputError) → IfErr r (ResealEndsSo asked drawn input taken output put)
      → IfErr r (ResealEnds asked input taken output put entropy spent untouched unasked)
  ends_with drawn drew (Ok done) ends = tt
  ends_with drawn drew (Err error) ends = ends_drawn drawn drew error ends

-- memory may run out before anything is read
pub memory_first : (opened opening sealed sealing : ManagerNow) (now : ℕ) (settings : Settings) (given : List KeyValue) (size : ℕ) (drawn : List ℕ) (input : SourceState) (output : SinkState)
    → ResealEndsSo (resealing_from opened opening sealed sealing now settings given size) drawn input input output output errors.Memory
memory_first opened opening sealed sealing now settings given size drawn input output =
    record { lacks = lacks_first (said_last opened opening) now settings given input; written = inl (takes_none output) }

-- ---- results

module _ {A B : Type 0} (opened : A → ManagerNow) (sealed : B → ManagerNow) (now : ℕ) (settings : Settings) (given : List KeyValue) (size : ℕ) (random : List ℕ) (input taken : SourceState) (old new : A) (before after : B)
    (output put : SinkState) (entropy spent : EntropyState) (resealer : Resealer) (end : End) (fed : IsFedInput opened sealed now (new_resealing_session settings given size random) input taken old new before after output put end resealer)
    (last : SinkState) (drew : Drew (sealed before).meaning.wraps entropy spent random) where
  pub done_as : (r : Result (List KeyValue) InputError) → ConcludesResealing (gone_on (new_resealing_session settings given size random) fed.reached.fed.session fed.reached.materials) put last end r
      → IfOk r (ResealsInput (resealing_from (opened old) (opened new) (sealed before) (sealed after) now settings given size) input taken output last entropy spent)
  done_as (Ok context) so = record { drawn = random; drew = drew; is = concludes_ok opened sealed now settings given size random input taken old new before after output put resealer end fed last context so }
  done_as (Err error) so = tt

  pub ended_as : (untouched unasked : Type 0) (r : Result (List KeyValue) InputError) → ConcludesResealing (gone_on (new_resealing_session settings given size random) fed.reached.fed.session fed.reached.materials) put last end r
      → IfErr r (ResealEnds (resealing_from (opened old) (opened new) (sealed before) (sealed after) now settings given size) input taken output last entropy spent untouched unasked)
  ended_as untouched unasked (Ok context) so = tt
  ended_as untouched unasked (Err error) so =
      ends_drawn (resealing_from (opened old) (opened new) (sealed before) (sealed after) now settings given size) input taken output last entropy spent untouched unasked random drew error
      (concludes_err opened sealed now settings given size random input taken old new before after output put resealer end fed last error so)
