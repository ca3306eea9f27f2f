-- A resealer that is fed pieces: what it has come to, and what it ends with.
use Rattle.std.proofs.Common.{◌≡◌, ◌∙◌, ℕ, ◌+◌, ◌-◌, ◌*◌, ◌<◌, ◌≤◌, List, [], ◌++◌, length, take, drop, map, get_or, Bor, append_assoc, true, false, Option, Some, None, Result, Ok, Err, IfOk, IfErr, inl, inr, refl, sym, ap, subst, arith, append-nil}
use Rattle.std.specs.Io.KnownBytes.{Appends}
use Rattle.std.proofs.KnownBytes.{Appends-trans}
use Rattle.std.specs.List.{concat}
use Rattle.std.proofs.lemmas.List.{length-drop, length-take-le, map-append, take-append-drop, take-append-le, take_more}
use Rattle.std.proofs.lemmas.List.Folds.{concat-append}
use Rattle.std.proofs.Math.Seq.{take-add}
use Rattle.esdk_fields.specs.declared.faults.Fault.{Fault}
use Rattle.esdk_fields.specs.declared.faults.Fault.TheVariants.{Truncated}
use Rattle.esdk_fields.specs.declared.refusals.Outside.TheVariants as outsides
use Rattle.esdk_base.specs.ReceiverLaws.{front_after}
use Rattle.esdk_base.specs.Sink.{AppendsFront}
use Rattle.esdk_base.specs.Streams.{SinkState}
use Rattle.context_codec.specs.Context.{KeyValue}
use Rattle.header_codec.specs.declared.settings.Settings.{Settings}
use Rattle.keyring_trait.specs.Manager.{ManagerNow}
use Rattle.keyring_trait.specs.Materials.{EncMaterialsValue}
use Rattle.keyring_trait.specs.Saying.{said_last}
use Rattle.keyring_trait.specs.Unlocking.{Unlocking, Unlocks}
use Rattle.body_format.specs.declared.verdicts.Verdict.{Verdict}
use Rattle.body_format.specs.declared.verdicts.Verdict.TheVariants.{Going, Whole, Faulty}
use Rattle.message_format.specs.Judgement.{Judged, content, judged}
use Rattle.stream_open.specs.Session.{OpeningValue, answer_kept, asked_header, opening_finished, is_faulty, judged_now, whole_context}
use Rattle.stream_seal.specs.Start.{message_of, most_text, drawn_id}
use Rattle.esdk_decrypt.specs.Decrypt.{AnswersTo, HasContext, answering_of, fault_at_end}
use Rattle.esdk_decrypt.proofs.Concluding.{has_context, some_context}
use Rattle.reseal_core.specs.declared.errors.InputError.TheVariants as errors
use Rattle.reseal_core.specs.declared.errors.ResealError.{ResealError}
use Rattle.reseal_core.specs.declared.errors.ResealError.TheVariants as reseals
use Rattle.reseal_core.specs.declared.resealer.Resealer.{Resealer}
use Rattle.reseal_core.specs.Front.{GainsBeyond, front_of}
use Rattle.reseal_core.specs.Reseal.{Resealing, ResealWritesFront, resealing_from}
use Rattle.reseal_core.specs.Session.{ResealingValue, gone_on, new_resealing_session}
use Rattle.reseal_core.specs.Stands.{ResealerFinishes, Stands, ResealerSteps}
use Rattle.reseal_core.specs.Underway.{AreMade, ConcludesSo, IsMade, Reached}
use Rattle.reseal_core.proofs.Reaching.{answer, answer_kept_is, answers, has_gained, has_room, same, writes_reached, written}
use Rattle.reseal_core.proofs.Stepping.{gains_all}
use Rattle.reseal_core.proofs.RandomBytes.{one_random}
use Rattle.reseal_core.proofs.Sessions.{concludes_err}
use Rattle.reseal_core.proofs.StepEnds.{step_ends, unstopped}
use Rattle.callers.specs.Resealing.{EndsResealing, ResealsNot, ResealedBytesHaveFault, IsWholeAnd, OpensAnd, ResealsBytes}
use Rattle.callers.proofs.Resealed.{came_so, ends_so, first_so, left, told}

-- ---- a step's part of a piece, of which so many bytes were taken

module _ (piece : List ℕ) (taken : ℕ) where
  -- What is given to a step is so many bytes of what is left.
  pub record IsPart (rest : List ℕ) : Type 0 where
    pub some : 1 ≤ length rest
    pub few : length rest ≤ 65536
    pub within : length rest ≤ length piece - taken
    pub ahead : (bytes : List ℕ) (n : ℕ) → n ≤ length rest → (bytes ++ take taken piece) ++ take n rest ≡ bytes ++ take (taken + n) piece
    pub behind : List ℕ
    pub all : (bytes more : List ℕ) → ((bytes ++ take taken piece) ++ rest) ++ (behind ++ more) ≡ (bytes ++ piece) ++ more

  pub part : (room : ℕ) → taken < length piece → 1 ≤ room → room ≤ 65536 → room ≤ length piece - taken → IsPart (take room (drop taken piece))
  part room some most few within =
      let rest : List ℕ = take room (drop taken piece) in
      let is : length rest ≡ room = length-take-le room (drop taken piece) (omega (arith, within, length-drop taken piece)) in
      record {
        some = omega (arith, is, most);
        few = omega (arith, is, few);
        within = omega (arith, is, within);
        ahead = λ bytes n le.
            (append_assoc bytes (take taken piece) (take n rest)
            ∙ ap (λ (b : List ℕ). bytes ++ (take taken piece ++ b)) (sym (take-append-le n rest (drop room (drop taken piece)) le) ∙ ap (take n) (take-append-drop room (drop taken piece)))
            ∙ ap (λ (b : List ℕ). bytes ++ b) (sym (take-add taken n piece)));
        behind = drop room (drop taken piece);
        all = λ bytes more.
            (sym (append_assoc ((bytes ++ take taken piece) ++ rest) (drop room (drop taken piece)) more)
            ∙ ap (λ (b : List ℕ). b ++ more)
            (append_assoc (bytes ++ take taken piece) rest (drop room (drop taken piece))
            ∙ ap (λ (b : List ℕ). (bytes ++ take taken piece) ++ b) (take-append-drop room (drop taken piece))
            ∙ append_assoc bytes (take taken piece) (drop taken piece)
            ∙ ap (λ (b : List ℕ). bytes ++ b) (take-append-drop taken piece)));
      }

-- ---- pieces, one behind the other

abbrev now_of : Bor (List ℕ) → List ℕ
now_of piece = piece.now

abbrev none : Bor (List ℕ)
none = record { ref_ptr = (0, 0); now = [] }

module _ (xs : List (Bor (List ℕ))) (i : ℕ) (more : i < length xs) where
  pub pieces_on : concat (map now_of (take i xs)) ++ (get_or xs i none).now ≡ concat (map now_of (take (i + 1) xs))
  pieces_on = rw (take_more xs i none more, map-append, concat-append, append-nil) refl

  pub pieces_all : (concat (map now_of (take i xs)) ++ (get_or xs i none).now) ++ concat (map now_of (drop (i + 1) xs)) ≡ concat (map now_of xs)
  pieces_all =
      ap (λ (b : List ℕ). b ++ concat (map now_of (drop (i + 1) xs))) pieces_on
      ∙ sym (concat-append (map now_of (take (i + 1) xs)) (map now_of (drop (i + 1) xs)))
      ∙ ap concat (sym (map-append now_of (take (i + 1) xs) (drop (i + 1) xs)))
      ∙ ap (λ (l : List (Bor (List ℕ))). concat (map now_of l)) (take-append-drop (i + 1) xs)

-- ---- the whole context

context_same : (v : OpeningValue) → whole_context (opening_finished v) ≡ whole_context v
unfolding opening_finished whole_context
context_same v = refl

module _ {A B : Type 0} (opened : A → ManagerNow) (sealed : B → ManagerNow) (now : ℕ) (settings : Settings) (given : List KeyValue) (size : ℕ) (random bytes : List ℕ) (old new : A) (before after : B)
    (output put : SinkState) (resealer : Resealer) (r : Reached opened sealed now (new_resealing_session settings given size random) bytes old new before after output put resealer) where
  abbrev v : ResealingValue
  v = gone_on (new_resealing_session settings given size random) r.fed.session r.materials

  abbrev w : OpeningValue
  w = r.fed.session

  abbrev asked : Resealing
  asked = resealing_from (opened old) (opened new) (sealed before) (sealed after) now settings given size

  -- ---- a step

  -- a step failed, and these bytes follow behind those that it was given
  pub step_fails : (rest more all : List ℕ) (last : A) (end : B) (now_put : SinkState) (next : Resealer) (unwritten : Type 0) → 1 ≤ length rest → length rest ≤ 65536 → (asked_header w rest ≡ None → last ≡ new) → (unwritten → now_put ≡ put)
      → (error : ResealError) → ResealerSteps (opened new) (opened last) (said_last (sealed after) (sealed end)) now v rest put now_put (end ≡ after) unwritten (Err error) next → (bytes ++ rest) ++ more ≡ all
      → ResealsNot (resealing_from (opened old) (opened last) (sealed before) (sealed end) now settings given size) random all output now_put error
  step_fails rest more all last end now_put next unwritten some few stays kept error s all_is =
      subst (λ (b : List ℕ). ResealsNot (resealing_from (opened old) (opened last) (sealed before) (sealed end) now settings given size) random b output now_put error) all_is
      (ends_so (resealing_from (opened old) (opened last) (sealed before) (sealed end) now settings given size) random (bytes ++ rest) more output now_put error
      (λ stop. unstopped opened sealed now settings given size random bytes old new before after output put resealer r rest last end now_put next unwritten some stays
      (subst (λ (e : ResealError). ResealerSteps (opened new) (opened last) (said_last (sealed after) (sealed end)) now v rest put now_put (end ≡ after) unwritten (Err e) next) stop s))
      (λ named called. step_ends opened sealed now settings given size random bytes old new before after output put resealer r rest last end now_put next unwritten some stays kept (told ((bytes ++ rest) ++ more)) (left (bytes ++ rest) more)
      (came_so (bytes ++ rest) more) refl few error named s called))

  -- the random bytes are those that it began with
  pub random_enough : (wraps : ℕ) → length random ≡ 64 + 12 * wraps → (other : ResealingValue) → Stands resealer other → length other.random ≡ 64 + 12 * wraps
  random_enough wraps count other stands = ap (length {A = ℕ}) (one_random resealer v other r.stands stands refl).0 ∙ count

  -- ---- the bytes have a fault at their end

  fault_here : (fault : Fault) → fault_at_end (judged_now w).verdict ≡ Some fault → ResealedBytesHaveFault asked random bytes output put fault
  fault_here fault at = record {
    answer = answer opened sealed now settings given size random bytes old new before after output put resealer r;
    answered = answers opened sealed now settings given size random bytes old new before after output put resealer r;
    cause = ap (λ (j : Judged). fault_at_end j.verdict) (same opened sealed now settings given size random bytes old new before after output put resealer r) ∙ at;
    written = written opened sealed now settings given size random bytes old new before after output put resealer r;
  }

  wanting_by : (verdict : Verdict) → (judged_now w).verdict ≡ verdict → whole_context w ≡ None → is_faulty verdict ≡ false → ResealedBytesHaveFault asked random bytes output put Truncated
  wanting_by Going is none sound = fault_here Truncated (ap fault_at_end is)
  wanting_by Whole is none sound = absurd (some_context w is (context_same w ∙ none))
  wanting_by (Faulty fault) is none sound = absurd (let no : true ≡ false = sound in cc)

  -- the message isn't unlocked: more bytes are wanted
  wants_more : whole_context w ≡ None → ResealsNot asked random bytes output put (reseals.Fault Truncated)
  wants_more none = wanting_by (judged_now w).verdict refl none r.fed.feeds.goes.sound

  -- ---- memory runs out

  memory_by : (m : Option EncMaterialsValue) → r.materials ≡ m → ResealsNot asked random bytes output put reseals.Memory
  memory_by None is = inl (gains_all output put [] (subst (λ (x : Option EncMaterialsValue). GainsBeyond output put [] (front_of x size random (content (judged_now w)))) is r.gained))
  memory_by (Some m) is =
      let first = writes_reached opened sealed now settings given size random bytes old new before after output put resealer r [] new after refl (λ none. refl) (told ((bytes ++ []) ++ [])) (left (bytes ++ []) [])
      (came_so (bytes ++ []) []) (omega arith) m is in
      inr (subst (λ (b : List ℕ). OpensAnd asked b (λ whole only text. ResealWritesFront asked random whole only text output put)) (append-nil (bytes ++ []) ∙ append-nil bytes)
      (first_so asked random (bytes ++ []) [] output put first))

  lacks_memory : ResealsNot asked random bytes output put reseals.Memory
  lacks_memory = memory_by r.materials refl

  -- ---- the bytes are a whole message

  made : (m : EncMaterialsValue) → r.materials ≡ Some m → AreMade (said_last (sealed before) (sealed after)) now random w.answer m
  made m is = subst (λ (x : Option EncMaterialsValue). IsMade (said_last (sealed before) (sealed after)) now random w.answer (after ≡ before) x) is r.made

  -- this is so of the text and of the new message
  whole_and : (m : EncMaterialsValue) (is : r.materials ≡ Some m) (so : List ℕ → List ℕ → Type 0) → (judged_now w).verdict ≡ Whole → so (content (judged_now w)) (message_of m size (drawn_id random) (content (judged_now w)))
      → IsWholeAnd asked random bytes so (made m is).whole
  whole_and m is so whole here =
      let mine = made m is in
      let answer_is : answer opened sealed now settings given size random bytes old new before after output put resealer r ≡ Unlocks mine.whole mine.only mine.key =
      answer_kept_is opened sealed now settings given size random bytes old new before after output put resealer r (Unlocks mine.whole mine.only mine.key) mine.answer_is in
      let judged_is : judged bytes settings (Unlocks mine.whole mine.only mine.key) ≡ judged_now w =
      ap (judged bytes settings) (sym answer_is) ∙ same opened sealed now settings given size random bytes old new before after output put resealer r in
      record {
        only = mine.only;
        key = mine.key;
        answered = subst (λ (x : Unlocking). AnswersTo (answering_of (opened old) (opened new) now) settings given bytes x) answer_is
            (answers opened sealed now settings given size random bytes old new before after output put resealer r);
        whole = ap (λ (j : Judged). j.verdict) judged_is ∙ whole;
        materials = m;
        has = record { given = mine.given.given; sound = mine.given.sound; begins = mine.given.begins };
        is = subst (λ (t : List ℕ). so t (message_of m size (drawn_id random) t)) (sym (ap content judged_is)) here;
      }

  same_context : (whole only : List KeyValue) (key : List ℕ) (context : List KeyValue) (kept : Option Unlocking) → kept ≡ Some (Unlocks whole only key) → HasContext (answer_kept kept) context → whole ≡ context
  same_context whole only key context kept e (o, k, is) = let same_answer : Unlocks whole only key ≡ Unlocks context o k = sym (ap answer_kept e) ∙ is in cc

  module _ (last : SinkState) (unwritten : Type 0) where
    -- the new message was finished
    finishes_so : (context : List KeyValue) → whole_context w ≡ Some context → ResealerFinishes v put last unwritten (Ok tt) → ResealsBytes asked random bytes output last context
    finishes_so context is (whole, (m, e, finishes)) =
        let gained = has_gained opened sealed now settings given size random bytes old new before after output put resealer r m e in
        subst (λ (c : List KeyValue). ResealsBytes asked random bytes output last c)
        (same_context (made m e).whole (made m e).only (made m e).key context w.answer (made m e).answer_is (has_context w context (context_same w ∙ is)))
        (whole_and m e (λ text message. (length text ≤ most_text size) × Appends output.written last.written message) whole (
          has_room opened sealed now settings given size random bytes old new before after output put resealer r m e,
          subst (λ (x : List ℕ). Appends output.written last.written x) (sym finishes.between) (Appends-trans output.written put.written last.written _ finishes.given gained.gained finishes.taken.gained),
        ))

    sink_fails : ConcludesSo v put last (Err reseals.SinkFault) → ResealsNot asked random bytes output last reseals.SinkFault
    sink_fails (whole, (m, e, failed)) =
        let gained = has_gained opened sealed now settings given size random bytes old new before after output put resealer r m e in (
          omega (arith, failed.failed.rose, gained.faults),
          inr (
            (made m e).whole,
            whole_and m e (λ text message. AppendsFront output.written last.written message) whole
                (subst (λ (x : List ℕ). AppendsFront output.written last.written x) (sym failed.between) (front_after output.written put.written last.written _ failed.given gained.gained failed.failed.front)),
          ),
        )

    -- or it wasn't
    finishes_not : (error : ResealError) → (unwritten → last ≡ put) → ResealerFinishes v put last unwritten (Err error) → ResealsNot asked random bytes output last error
    finishes_not (reseals.Fault fault) kept ends =
        let so = concludes_err v put last unwritten (reseals.Fault fault) (errors.Fault fault) r.fed.feeds.goes kept ends refl in
        subst (λ (s : SinkState). ResealedBytesHaveFault asked random bytes output s fault) (sym so.1) (fault_here fault so.0)
    finishes_not reseals.SinkFault kept ends =
        sink_fails (concludes_err v put last unwritten reseals.SinkFault (errors.Outside outsides.SinkFault) r.fed.feeds.goes kept ends refl)
    finishes_not (reseals.Refusal refusal) kept (whole, (m, is, none)) = absurd none
    finishes_not reseals.KeyringFault kept (whole, (m, is, none)) = absurd none
    finishes_not reseals.Stopped kept (whole, (m, is, none)) = absurd none
    finishes_not reseals.Memory kept (whole, (m, is, none)) = absurd none

    -- the resealer was ended
    pub ends_whole : (result : Result (List KeyValue) ResealError) → EndsResealing v put last unwritten result → IfOk result (ResealsBytes asked random bytes output last)
    ends_whole (Ok context) (is, ends) = finishes_so context is ends
    ends_whole (Err error) ends = tt

    pub ends_not : (unwritten → last ≡ put) → (result : Result (List KeyValue) ResealError) → EndsResealing v put last unwritten result → IfErr result (ResealsNot asked random bytes output last)
    ends_not kept (Ok context) ends = tt
    ends_not kept (Err error) (inl (inl (is, none), same)) =
        subst (λ (s : SinkState). ResealsNot asked random bytes output s error) (sym (kept same)) (subst (λ (e : ResealError). ResealsNot asked random bytes output put e) (sym is) (wants_more none))
    ends_not kept (Err error) (inl (inr is, same)) =
        subst (λ (s : SinkState). ResealsNot asked random bytes output s error) (sym (kept same)) (subst (λ (e : ResealError). ResealsNot asked random bytes output put e) (sym is) lacks_memory)
    ends_not kept (Err error) (inr ends) = finishes_not error kept ends
