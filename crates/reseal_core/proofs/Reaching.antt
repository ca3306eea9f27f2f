-- An input that is resealed: what is so of the bytes that were fed, and of those that are stepped through next.
use Rattle.std.proofs.Common.{◌≡◌, ◌∙◌, ◌⊎◌, ℕ, ◌<◌, ◌≤◌, Bool, true, false, is_some, List, [], ◌++◌, length, take, drop, Option, Some, None, Ok, inl, inr, refl, sym, ap, subst, arith, append_assoc}
use Rattle.std.specs.Prelude.{IfSome}
use Rattle.std.specs.Io.KnownBytes.{Appends}
use Rattle.std.proofs.lemmas.List.{length-drop, take-append-drop}
use Rattle.esdk_fields.specs.declared.refusals.Outside.TheVariants as outsides
use Rattle.esdk_fields.specs.Place.{start}
use Rattle.esdk_fields.specs.Reading.{Wanting}
use Rattle.esdk_base.specs.Receiver.{SinkTakes, PutsAll}
use Rattle.esdk_base.specs.ReceiverLaws.{front_longer}
use Rattle.esdk_base.specs.Sink.{AppendsFront}
use Rattle.esdk_base.specs.Streams.{SinkState, SourceState}
use Rattle.context_codec.specs.Context.{KeyValue}
use Rattle.header_codec.specs.declared.settings.Settings.{Settings}
use Rattle.header_codec.specs.Table.{header}
use Rattle.keyring_trait.specs.declared.manager_errors.ManagerError.{ManagerError}
use Rattle.keyring_trait.specs.declared.manager_errors.ManagerError.TheVariants as managers
use Rattle.keyring_trait.specs.Manager.{ManagerNow}
use Rattle.keyring_trait.specs.Materials.{EncMaterialsValue}
use Rattle.keyring_trait.specs.Saying.{said_last}
use Rattle.keyring_trait.specs.Unlocking.{Unlocking, Refuses, Unlocks}
use Rattle.message_format.specs.Judgement.{Judged, content, judged}
use Rattle.stream_open.specs.declared.session.Opener.{Opener}
use Rattle.stream_open.specs.Receiving.{FedTo, FedWhole}
use Rattle.stream_open.specs.Session.{OpeningValue, asked_header, is_faulty, judged_now, opening_stepped}
use Rattle.stream_open.specs.Session.{new_opening_session as new_opening}
use Rattle.stream_open.specs.Stands.{OpenerSteps as StepsOpener}
use Rattle.stream_open.proofs.FedPieces.{asked_kept}
use Rattle.stream_open.proofs.PieceEnds.{session_on, step_fed, step_on}
use Rattle.stream_seal.specs.Start.{most_text, start_of, drawn_id, drawn_rest}
use Rattle.whole_input.specs.Pieces.{APieceBehind, most_piece}
use Rattle.whole_input.specs.Taken.{Came}
use Rattle.whole_input.specs.Written.{WritesBeyond}
use Rattle.whole_input.proofs.Fronts.{beyond_after}
use Rattle.esdk_encrypt.specs.Encrypt.{written_so_far}
use Rattle.esdk_encrypt.proofs.Sessions.{written_none}
use Rattle.esdk_decrypt.specs.Decrypt.{AnswersTo, DecryptLacksMemory, answering_of, fault_of}
use Rattle.esdk_decrypt.proofs.Answering.{Answered, judged_before, sound_none}
use Rattle.esdk_decrypt.proofs.Concluding.{come_to}
use Rattle.reseal_core.specs.declared.errors.InputError.{InputError}
use Rattle.reseal_core.specs.declared.errors.InputError.TheVariants as errors
use Rattle.reseal_core.specs.declared.errors.ResealError.{ResealError}
use Rattle.reseal_core.specs.declared.errors.ResealError.TheVariants as reseals
use Rattle.stream_seal.specs.declared.session.Sealer.{Sealer}
use Rattle.reseal_core.specs.declared.resealer.Resealer.{Resealer}
use Rattle.reseal_core.specs.Front.{GainsBeyond, front_of, request_for}
use Rattle.reseal_core.specs.Errors.{given_as}
use Rattle.reseal_core.specs.NewMessage.{MaterialsAreGiven, GoesNotOn, NewHeaderFails, IsFedText, IsNotBegun}
use Rattle.reseal_core.specs.Reseal.{ResealEndsSo, OpensFirst, Passes, Resealing, WritesNewMessage, WritesBy, WritesFirst, ResealWritesFront, resealing_from, written_at, written_of}
use Rattle.reseal_core.specs.Session.{ResealingValue, front, gone_on, new_resealing_session}
use Rattle.reseal_core.specs.Stands.{AsksFor, NewMessageBeginsNot, OldMessageIsOpen, PassesNot, Stands, ResealerStepsOn}
use Rattle.reseal_core.specs.Underway.{AreMade, ResealErrorIsCalled, IsMade, IsUnstopped, Reached}
use Rattle.reseal_core.proofs.Stepping.{gains_all, gains_more, longer_some, unlocked_with, was_unlocked, writes_beyond}
use Rattle.reseal_core.proofs.Unlocked.{lacks_wanting, locked_content, still_in_header}

-- ---- an opener that was fed, as if into a sink of which nothing is told

abbrev pub untold : SinkState
untold = record { written = None; faults = 0 }

abbrev pub into_untold : {A : Type 0} (opened : A → ManagerNow) (now : ℕ) (v : OpeningValue) (bytes text : List ℕ) (old new : A) (opener : Opener) → FedTo opened now v bytes text old new opener
    → FedWhole opened (PutsAll (λ (s : SinkState). s)) now v bytes old new untold untold opener
into_untold opened now v bytes text old new opener fed = record {
  given = text;
  fed = fed;
  taken = record { gained = tt; faults = refl };
  nothing = λ none. refl;
}

-- ---- the manager's answer

keeps_kept : (kept : Option Unlocking) (answer is : Unlocking) → kept ≡ Some is → IfSome kept (λ k. answer ≡ k) → answer ≡ is
keeps_kept None answer is e keeps = absurd cc
keeps_kept (Some k) answer is e keeps = let same : k ≡ is = cc in keeps ∙ same

module _ {A B : Type 0} (opened : A → ManagerNow) (sealed : B → ManagerNow) (now : ℕ) (settings : Settings) (given : List KeyValue) (size : ℕ) (random : List ℕ) where
  abbrev v0 : ResealingValue
  v0 = new_resealing_session settings given size random

  abbrev asked : A → A → B → B → Resealing
  asked old new before after = resealing_from (opened old) (opened new) (sealed before) (sealed after) now settings given size

  module _ (bytes : List ℕ) (old new : A) (before after : B) (output put : SinkState) (resealer : Resealer) (r : Reached opened sealed now v0 bytes old new before after output put resealer) where
    abbrev w : OpeningValue
    w = r.fed.session

    -- it goes on, with the random bytes that it began with
    pub still_going : IsUnstopped resealer
    still_going = record { session = gone_on v0 w r.materials; stands = r.stands; going = refl }

    pub random_kept : resealer.message.random ≡ random
    random_kept = (r.stands.going refl).written.random_is

    answered : Answered (answering_of (opened old) (opened new) now) settings given bytes (judged_now w) w.answer
    answered = come_to opened (λ (s : SinkState). s) now settings given bytes old new untold untold resealer.opener (into_untold opened now (new_opening settings given) bytes r.text old new resealer.opener r.fed)

    pub answer : Unlocking
    answer = answered.answer

    pub answers : AnswersTo (answering_of (opened old) (opened new) now) settings given bytes answer
    unfolding answer
    answers = answered.answered

    pub same : judged bytes settings answer ≡ judged_now w
    unfolding answer
    same = answered.same

    pub answer_kept_is : (is : Unlocking) → w.answer ≡ Some is → answer ≡ is
    unfolding answer
    answer_kept_is is e = keeps_kept w.answer answered.answer is e answered.keeps

    pub sound : fault_of (judged bytes settings answer).verdict ≡ None
    sound = ap (λ (j : Judged). fault_of j.verdict) same ∙ sound_none (judged_now w).verdict r.fed.feeds.goes.sound

    -- what a message with these materials has room for, and what was put of it
    room_by : (m : EncMaterialsValue) (s : Option Sealer) → IsFedText s (Some m) size random (content (judged_now w)) → length (content (judged_now w)) ≤ most_text size
    room_by m (Some sealer) fed = fed.1
    room_by m None fed = absurd fed

    pub has_room : (m : EncMaterialsValue) → r.materials ≡ Some m → length (content (judged_now w)) ≤ most_text size
    has_room m is =
        room_by m resealer.message.sealer (subst (λ (x : Option EncMaterialsValue). IsFedText resealer.message.sealer x size random (content (judged_now w))) is (r.stands.going refl).written.fed)

    pub has_gained : (m : EncMaterialsValue) → r.materials ≡ Some m → SinkTakes output put (written_so_far m size (drawn_id random) (content (judged_now w)))
    has_gained m is =
        gains_all output put (front_of (Some m) size random (content (judged_now w))) (subst (λ (x : Option EncMaterialsValue). GainsBeyond output put [] (front_of x size random (content (judged_now w)))) is r.gained)

    -- while there are no materials the old message is locked, and wants bytes of its header
    locked_yet : r.materials ≡ None → (judged_now w).unlocked ≡ false
    locked_yet none = sym (r.stands.going refl).unlocked ∙ ap is_some none

    pub wants_yet : r.materials ≡ None → header settings (start bytes) ≡ Wanting
    wants_yet none =
        ap (λ (b : List ℕ). header settings (start b)) (sym r.fed.feeds.taken) ∙ ap (λ (x : Settings). header x (start w.taken)) (sym r.fed.feeds.settings)
        ∙ still_in_header w r.fed.feeds.goes (locked_yet none)

    -- what was released has room
    room_for : (m : Option EncMaterialsValue) → r.materials ≡ m → length (content (judged_now w)) ≤ most_text size
    room_for None is = omega (arith, ap (length {A = ℕ}) (locked_content w (locked_yet is)))
    room_for (Some m) is = has_room m is

    room_yet : length (content (judged_now w)) ≤ most_text size
    room_yet = room_for r.materials refl

    -- what is written is what was put
    written_by : (m : Option EncMaterialsValue) → r.materials ≡ m → WritesNewMessage (asked old new before after) random answer (judged_now w) output put
    written_by None is =
        let locked : (judged_now w).unlocked ≡ false = sym (r.stands.going refl).unlocked ∙ ap is_some is in
        let gained : Appends output.written put.written [] =
        (gains_all output put (front_of None size random (content (judged_now w))) (subst (λ (m : Option EncMaterialsValue). GainsBeyond output put [] (front_of m size random (content (judged_now w)))) is r.gained)).gained in
        subst (λ (b : Bool). WritesBy (asked old new before after) random answer (content (judged_now w)) b output put) (sym locked) (nothing answer gained)
      where
        nothing : (a : Unlocking) → Appends output.written put.written [] → WritesBy (asked old new before after) random a (content (judged_now w)) false output put
        nothing (Refuses fault) gained = gained
        nothing (Unlocks whole only key) gained = gained
    written_by (Some m) is =
        let unlocked : (judged_now w).unlocked ≡ true = sym (r.stands.going refl).unlocked ∙ ap is_some is in
        let made : AreMade (said_last (sealed before) (sealed after)) now random w.answer m =
        subst (λ (x : Option EncMaterialsValue). IsMade (said_last (sealed before) (sealed after)) now random w.answer (after ≡ before) x) is r.made in
        let front_is : ResealWritesFront (asked old new before after) random made.whole made.only (content (judged_now w)) output put =
        record { materials = m; has = record { given = made.given.given; sound = made.given.sound; begins = made.given.begins }; room = has_room m is; gained = (has_gained m is).gained } in
        subst (λ (b : Bool). WritesBy (asked old new before after) random answer (content (judged_now w)) b output put) (sym unlocked)
        (subst (λ (a : Unlocking). WritesBy (asked old new before after) random a (content (judged_now w)) true output put) (sym (answer_kept_is (Unlocks made.whole made.only made.key) made.answer_is)) front_is)

    pub written : WritesNewMessage (asked old new before after) random answer (judged bytes settings answer) output put
    written = subst (λ (j : Judged). WritesNewMessage (asked old new before after) random answer j output put) (sym same) (written_by r.materials refl)

    pub passes : (input taken : SourceState) → Came input taken bytes → Passes (asked old new before after) random input taken output put bytes answer
    passes input taken came = record { came = came; answered = answers; written = written }

    -- With the manager's answer the bytes unlock the old message; more came behind them, about which it isn't asked.
    pub writes_reached : (rest : List ℕ) (last : A) (end : B) → end ≡ after → (asked_header w rest ≡ None → last ≡ new) → (input taken : SourceState) → Came input taken (bytes ++ rest) → length rest ≤ most_piece
        → (m : EncMaterialsValue) → r.materials ≡ Some m → WritesFirst (asked old last before end) random input taken output put
    writes_reached rest last end unasked stays input taken came few m is =
        let made : AreMade (said_last (sealed before) (sealed after)) now random w.answer m =
        subst (λ (x : Option EncMaterialsValue). IsMade (said_last (sealed before) (sealed after)) now random w.answer (after ≡ before) x) is r.made in
        let same_last : last ≡ new = stays (asked_kept w rest (Unlocks made.whole made.only made.key) made.answer_is) in
        let answer_is : answer ≡ Unlocks made.whole made.only made.key = answer_kept_is (Unlocks made.whole made.only made.key) made.answer_is in
        let same_is : judged bytes settings (Unlocks made.whole made.only made.key) ≡ judged_now w = ap (judged bytes settings) (sym answer_is) ∙ same in
        let unlocked : (judged_now w).unlocked ≡ true = sym (r.stands.going refl).unlocked ∙ ap is_some is in
        subst (λ (x : A). WritesFirst (asked old x before end) random input taken output put) (sym same_last)
        (subst (λ (x : B). WritesFirst (asked old new before x) random input taken output put) (sym unasked) (record {
          first = bytes;
          whole = made.whole;
          only = made.only;
          key = made.key;
          opens = record {
            behind = rest;
            few = few;
            came = came;
            answered = subst (λ (x : Unlocking). AnswersTo (answering_of (opened old) (opened new) now) settings given bytes x) answer_is answers;
            sound = ap (λ (x : Unlocking). fault_of (judged bytes settings x).verdict) (sym answer_is) ∙ sound;
            unlocked = ap (λ (j : Judged). j.unlocked) same_is ∙ unlocked;
          };
          front = subst (λ (t : List ℕ). ResealWritesFront (asked old new before after) random made.whole made.only t output put) (sym (ap content same_is))
              (record { materials = m; has = record { given = made.given.given; sound = made.given.sound; begins = made.given.begins }; room = has_room m is; gained = (has_gained m is).gained });
        }))

    -- ---- the step

    module _ (rest : List ℕ) (last : A) (end : B) (now_put : SinkState) (used : ℕ) (some : 1 ≤ length rest) (next : Resealer) (s : StepsOpener (opened new) (opened last) now w rest (Ok used) next.opener)
        (stays : asked_header w rest ≡ None → last ≡ new) where
      abbrev z : OpeningValue
      z = opening_stepped w rest s.heard (Ok used)

      abbrev on : FedTo opened now v0.opening (bytes ++ take used rest) (r.text ++ z.out) old last next.opener
      on = step_on opened now v0.opening bytes r.text old new last resealer.opener next.opener rest r.fed used s stays some

      is_z : on.session ≡ z
      is_z = session_on opened now v0.opening bytes r.text old new last resealer.opener next.opener rest r.fed used s stays some

      -- some bytes were used, and no more than there were
      pub used_some : 1 ≤ used
      used_some = (step_fed opened now v0.opening bytes r.text old new last resealer.opener next.opener rest r.fed used s some).some

      pub used_within : used ≤ length rest
      used_within = (step_fed opened now v0.opening bytes r.text old new last resealer.opener next.opener rest r.fed used s some).within

      keeps_on : (a : Unlocking) → w.answer ≡ Some a → z.answer ≡ Some a
      keeps_on = (step_fed opened now v0.opening bytes r.text old new last resealer.opener next.opener rest r.fed used s some).feeds.kept

      pub made_by : (m : Option EncMaterialsValue) → r.materials ≡ m → (materials : Option EncMaterialsValue) → AsksFor m (said_last (sealed after) (sealed end)) now random z (end ≡ after) materials
          → IsMade (said_last (sealed before) (sealed end)) now random z.answer (end ≡ before) materials
      made_by (Some m) is materials (same_is, un) =
          let made : AreMade (said_last (sealed before) (sealed after)) now random w.answer m =
          subst (λ (x : Option EncMaterialsValue). IsMade (said_last (sealed before) (sealed after)) now random w.answer (after ≡ before) x) is r.made in
          subst (λ (x : Option EncMaterialsValue). IsMade (said_last (sealed before) (sealed end)) now random z.answer (end ≡ before) x) (sym same_is) (record {
            whole = made.whole;
            only = made.only;
            key = made.key;
            answer_is = keeps_on (Unlocks made.whole made.only made.key) made.answer_is;
            given = subst (λ (b : B). MaterialsAreGiven (said_last (sealed before) (sealed b)) now random made.whole made.only m) (sym un) made.given;
          })
      made_by None is None (locked, un) = un ∙ subst (λ (x : Option EncMaterialsValue). IsMade (said_last (sealed before) (sealed after)) now random w.answer (after ≡ before) x) is r.made
      made_by None is (Some m) asks =
          let first : after ≡ before = subst (λ (x : Option EncMaterialsValue). IsMade (said_last (sealed before) (sealed after)) now random w.answer (after ≡ before) x) is r.made in
          record {
            whole = asks.whole;
            only = asks.only;
            key = asks.opened.key;
            answer_is = asks.opened.answer;
            given = subst (λ (b : B). MaterialsAreGiven (said_last (sealed b) (sealed end)) now random asks.whole asks.only m) first asks.given;
          }

      -- the bytes that were used were fed too
      pub reached_on : ResealerStepsOn (said_last (sealed after) (sealed end)) now (gone_on v0 w r.materials) z put now_put (end ≡ after) next
          → Reached opened sealed now v0 (bytes ++ take used rest) old last before end output now_put next
      reached_on steps = record {
        text = r.text ++ z.out;
        fed = on;
        materials = steps.materials;
        stands = subst (λ (o : OpeningValue). Stands next (gone_on v0 o steps.materials)) (sym is_z) steps.stands;
        made = subst (λ (o : OpeningValue). IsMade (said_last (sealed before) (sealed end)) now random o.answer (end ≡ before) steps.materials) (sym is_z) (made_by r.materials refl steps.materials steps.asks);
        gained = subst (λ (o : OpeningValue). GainsBeyond output now_put [] (front_of steps.materials size random (content (judged_now o)))) (sym is_z)
            (gains_more output put now_put [] (front (gone_on v0 w r.materials)) (front (gone_on v0 z steps.materials)) r.gained steps.gained);
      }

      -- ---- what the bytes that were used unlock

      first : List ℕ
      first = bytes ++ take used rest

      answered_on : Answered (answering_of (opened old) (opened last) now) settings given first (judged_now z) z.answer
      unfolding first
      answered_on =
          subst (λ (o : OpeningValue). Answered (answering_of (opened old) (opened last) now) settings given (bytes ++ take used rest) (judged_now o) o.answer) is_z
          (come_to opened (λ (x : SinkState). x) now settings given (bytes ++ take used rest) old last untold untold next.opener (into_untold opened now (new_opening settings given) (bytes ++ take used rest) (r.text ++ z.out) old last next.opener on))

      -- With this answer they are judged as the session says.
      pub record OpensHere (whole only : List KeyValue) (key : List ℕ) : Type 0 where
        pub answers : AnswersTo (answering_of (opened old) (opened last) now) settings given (bytes ++ take used rest) (Unlocks whole only key)
        pub same : judged (bytes ++ take used rest) settings (Unlocks whole only key) ≡ judged_now z

      pub opens_here : (whole only : List KeyValue) (key : List ℕ) → z.answer ≡ Some (Unlocks whole only key) → OpensHere whole only key
      unfolding first
      opens_here whole only key e =
          let a = answered_on in
          let is : a.answer ≡ Unlocks whole only key = keeps_kept z.answer a.answer (Unlocks whole only key) e a.keeps in
          record {
            answers = subst (λ (x : Unlocking). AnswersTo (answering_of (opened old) (opened last) now) settings given (bytes ++ take used rest) x) is a.answered;
            same = ap (judged (bytes ++ take used rest) settings) (sym is) ∙ a.same;
          }

      -- with an answer that is kept then, the bytes before were judged as they were
      judged_yet : (a : Unlocking) → z.answer ≡ Some a → judged bytes settings a ≡ judged_now w
      judged_yet a e =
          ap (λ (b : List ℕ). judged b settings a) (sym r.fed.feeds.taken) ∙ ap (λ (x : Settings). judged w.taken x a) (sym r.fed.feeds.settings)
          ∙ judged_before w a z.answer r.fed.feeds.goes keeps_on (subst (λ (o : Option Unlocking). IfSome o (λ k. a ≡ k)) (sym e) refl)

      -- and what was put is what is written of them
      front_none : (m : EncMaterialsValue) → r.materials ≡ None → written_of m size random (judged_now w) ≡ []
      front_none m none = ap (λ (b : Bool). written_at m size random (content (judged_now w)) b) (locked_yet none)

      front_by : (m : EncMaterialsValue) (o : Option EncMaterialsValue) → r.materials ≡ o → AsksFor o (said_last (sealed after) (sealed end)) now random z (end ≡ after) (Some m)
          → front_of o size random (content (judged_now w)) ≡ written_of m size random (judged_now w)
      front_by m None is asks = sym (front_none m is)
      front_by m (Some n) is (same_is, un) =
          let unlocked : (judged_now w).unlocked ≡ true = sym (r.stands.going refl).unlocked ∙ ap is_some is in
          let one : n ≡ m = cc in
          ap (λ (x : EncMaterialsValue). front_of (Some x) size random (content (judged_now w))) one ∙ ap (λ (b : Bool). written_at m size random (content (judged_now w)) b) (sym unlocked)

      -- the bytes that were used and those behind them
      pub split : (bytes ++ take used rest) ++ drop used rest ≡ bytes ++ rest
      split = append_assoc bytes (take used rest) (drop used rest) ∙ ap (λ (b : List ℕ). bytes ++ b) (take-append-drop used rest)

      -- the last piece stands behind the bytes before
      pub last_piece : (so : List ℕ → Type 0) → length rest ≤ most_piece → so bytes → APieceBehind so ((bytes ++ take used rest) ++ drop used rest)
      last_piece so few was = record { before = bytes; piece = rest; all = split; few = few; was = was }

      pub z_sound : is_faulty (judged_now z).verdict ≡ false
      z_sound = (step_fed opened now v0.opening bytes r.text old new last resealer.opener next.opener rest r.fed used s some).feeds.goes.sound

      abbrev pub opens_first : (whole only : List KeyValue) (key : List ℕ) → z.answer ≡ Some (Unlocks whole only key) → (judged_now z).unlocked ≡ true → (input taken : SourceState) → Came input taken (bytes ++ rest) → length rest ≤ most_piece
          → OpensFirst (asked old last before end) input taken (bytes ++ take used rest) whole only key
      opens_first whole only key e open_z input taken came few =
          let here = opens_here whole only key e in
          record {
            behind = drop used rest;
            few = omega (arith, few, length-drop used rest);
            came = subst (λ (b : List ℕ). Came input taken b) (sym split) came;
            answered = here.answers;
            sound = ap (λ (j : Judged). fault_of j.verdict) here.same ∙ sound_none (judged_now z).verdict z_sound;
            unlocked = ap (λ (j : Judged). j.unlocked) here.same ∙ open_z;
          }

      -- the new message has materials
      pub open_with : (m : EncMaterialsValue) → AsksFor r.materials (said_last (sealed after) (sealed end)) now random z (end ≡ after) (Some m) → (judged_now z).unlocked ≡ true
      open_with m asks =
          sym (unlocked_with r.materials (said_last (sealed after) (sealed end)) now random z (end ≡ after) (Some m) asks
          (was_unlocked (opened new) (opened last) now resealer (gone_on v0 w r.materials) rest next.opener r.stands refl used s))

      -- ---- why the step failed

      module _ (input taken : SourceState) (came : Came input taken (bytes ++ rest)) (faults : taken.faults ≡ input.faults) (few : length rest ≤ most_piece) where
        abbrev a : Resealing
        a = asked old last before end

        -- what was written beyond what the bytes before release
        beyond_here : (m : EncMaterialsValue) (whole only : List KeyValue) (key : List ℕ) → z.answer ≡ Some (Unlocks whole only key)
            → WritesBeyond output now_put (written_of m size random (judged_now w))
            (written_so_far m size (drawn_id random) (take (most_text size) (content (judged (bytes ++ take used rest) settings (Unlocks whole only key)))))
            → WritesBeyond output now_put (written_of m size random (judged bytes settings (Unlocks whole only key)))
            (written_so_far m size (drawn_id random) (take (most_text size) (content (judged (bytes ++ take used rest) settings (Unlocks whole only key)))))
        beyond_here m whole only key e beyond =
            subst (λ (j : Judged). WritesBeyond output now_put (written_of m size random j)
            (written_so_far m size (drawn_id random) (take (most_text size) (content (judged (bytes ++ take used rest) settings (Unlocks whole only key))))))
            (sym (judged_yet (Unlocks whole only key) e)) beyond

        passes_by : (m : EncMaterialsValue) (error : ResealError) (named : InputError) (made : AreMade (said_last (sealed before) (sealed end)) now random z.answer m) → (judged_now z).unlocked ≡ true
            → front (gone_on v0 w r.materials) ≡ written_of m size random (judged_now w)
            → GoesNotOn m size random (front (gone_on v0 w r.materials)) (content (judged_now z)) put now_put error → ResealErrorIsCalled error named → ResealEndsSo a random input taken output now_put named
        passes_by m (reseals.Refusal refusal) named made open_z put_is (is, many) called =
            let here = opens_here made.whole made.only made.key made.answer_is in
            let text : content (judged_now z) ≡ content (judged (bytes ++ take used rest) settings (Unlocks made.whole made.only made.key)) = sym (ap content here.same) in
            subst (λ (e : InputError). ResealEndsSo a random input taken output now_put e) (sym called) (inr (
              is,
              record {
                first = bytes ++ take used rest;
                whole = made.whole;
                only = made.only;
                key = made.key;
                opens = opens_first made.whole made.only made.key made.answer_is open_z input taken came few;
                faults = faults;
                materials = m;
                has = record { given = made.given.given; sound = made.given.sound; begins = made.given.begins };
                many = subst (λ (t : List ℕ). most_text size < length t) text many.many;
                gained = subst (λ (t : List ℕ). Appends output.written now_put.written (written_so_far m size (drawn_id random) (take (most_text size) t))) text
                    (gains_all output now_put _ (gains_more output put now_put [] (front (gone_on v0 w r.materials)) _ r.gained many.gained)).gained;
                last = last_piece _ few
                    (subst (λ (j : Judged). length (content j) ≤ most_text size) (sym (judged_yet (Unlocks made.whole made.only made.key) made.answer_is)) room_yet);
              },
            ))
        passes_by m reseals.SinkFault named made open_z put_is failed called =
            let here = opens_here made.whole made.only made.key made.answer_is in
            let text : content (judged_now z) ≡ content (judged (bytes ++ take used rest) settings (Unlocks made.whole made.only made.key)) = sym (ap content here.same) in
            let before_it = gains_all output put (front (gone_on v0 w r.materials)) r.gained in
            subst (λ (e : InputError). ResealEndsSo a random input taken output now_put e) (sym called) (
              omega (arith, failed.failed.rose, before_it.faults),
              inl (record {
                first = bytes ++ take used rest;
                whole = made.whole;
                only = made.only;
                key = made.key;
                opens = opens_first made.whole made.only made.key made.answer_is open_z input taken came few;
                faults = faults;
                materials = m;
                has = record { given = made.given.given; sound = made.given.sound; begins = made.given.begins };
                last = last_piece _ few (beyond_here m made.whole made.only made.key made.answer_is
                    (subst (λ (t : List ℕ). WritesBeyond output now_put (written_of m size random (judged_now w)) (written_so_far m size (drawn_id random) (take (most_text size) t))) text
                    (subst (λ (x : List ℕ). WritesBeyond output now_put x (front_of (Some m) size random (take (most_text size) (content (judged_now z))))) put_is
                    (writes_beyond output put now_put (front (gone_on v0 w r.materials)) _ before_it failed))));
              }),
            )
        passes_by m (reseals.Fault fault) named made open_z put_is none called = absurd none
        passes_by m reseals.KeyringFault named made open_z put_is none called = absurd none
        passes_by m reseals.Stopped named made open_z put_is none called = absurd none
        passes_by m reseals.Memory named made open_z put_is none called = absurd none

        pub passes_ends : (error : ResealError) (named : InputError) → PassesNot (said_last (sealed after) (sealed end)) now (gone_on v0 w r.materials) z put now_put (end ≡ after) error → ResealErrorIsCalled error named
            → ResealEndsSo a random input taken output now_put named
        passes_ends error named p called =
            passes_by p.materials error named (made_by r.materials refl (Some p.materials) p.asks) (open_with p.materials p.asks) (front_by p.materials r.materials refl p.asks) p.why called

        -- ---- the new message wasn't begun

        module _ (none : r.materials ≡ None) (whole only : List KeyValue) (open_is : OldMessageIsOpen z whole only) where
          first_asked : after ≡ before
          first_asked = subst (λ (x : Option EncMaterialsValue). IsMade (said_last (sealed before) (sealed after)) now random w.answer (after ≡ before) x) none r.made

          nothing_put : SinkTakes output put []
          nothing_put =
              gains_all output put [] (subst (λ (x : Option EncMaterialsValue). GainsBeyond output put [] (front_of x size random (content (judged_now w)))) none r.gained)

          wants : header settings (start bytes) ≡ Wanting
          wants = wants_yet none

          abbrev opens_z : OpensFirst a input taken (bytes ++ take used rest) whole only open_is.key
          opens_z = opens_first whole only open_is.key open_is.answer open_is.unlocked input taken came few

          header_ends : NewHeaderFails (said_last (sealed after) (sealed end)) now whole only size random put now_put → ResealEndsSo a random input taken output now_put (errors.Outside outsides.SinkFault)
          header_ends h =
              let m : EncMaterialsValue = h.materials in
              let given_then : MaterialsAreGiven (said_last (sealed before) (sealed end)) now random whole only m =
              subst (λ (b : B). MaterialsAreGiven (said_last (sealed b) (sealed end)) now random whole only m) first_asked h.given in
              let header : h.failed.given ≡ start_of m size (drawn_id random) = sym h.failed.between ∙ written_none m size (drawn_id random) in
              let text : List ℕ = take (most_text size) (content (judged (bytes ++ take used rest) settings (Unlocks whole only open_is.key))) in (
                omega (arith, h.failed.failed.rose, nothing_put.faults),
                inl (record {
                  first = bytes ++ take used rest;
                  whole = whole;
                  only = only;
                  key = open_is.key;
                  opens = opens_z;
                  faults = faults;
                  materials = m;
                  has = record { given = given_then.given; sound = given_then.sound; begins = given_then.begins };
                  last = last_piece _ few (beyond_here m whole only open_is.key open_is.answer
                      (subst (λ (x : List ℕ). WritesBeyond output now_put x (written_so_far m size (drawn_id random) text)) (sym (front_none m none))
                      (beyond_after output put now_put [] (written_so_far m size (drawn_id random) text)
                      (longer_some (start_of m size (drawn_id random)) _ (omega (arith, h.failed.some, ap length header))) nothing_put.gained
                      (front_longer put.written now_put.written (start_of m size (drawn_id random)) _ (subst (λ (x : List ℕ). AppendsFront put.written now_put.written x) header h.failed.failed.front)))));
                }),
              )

          lacks : DecryptLacksMemory a.opening input taken
          lacks = record { before = bytes; last = rest; came = came; few = few; lacks = lacks_wanting a.opening bytes wants }

          module _ (same_put : now_put ≡ put) where
            nothing_now : SinkTakes output now_put []
            nothing_now = subst (λ (x : SinkState). SinkTakes output x []) (sym same_put) nothing_put

            refused_ends : (why : ManagerError) (named : InputError) → (said_last (sealed before) (sealed end)).gives_none (request_for whole only) why → ResealErrorIsCalled (given_as why) named
                → ResealEndsSo a random input taken output now_put named
            refused_ends (managers.Refusal refusal) named gives called = subst (λ (e : InputError). ResealEndsSo a random input taken output now_put e) (sym called)
                (inl (record { first = bytes ++ take used rest; whole = whole; only = only; key = open_is.key; opens = opens_z; faults = faults; why = inl gives; nothing = nothing_now; last = last_piece _ few wants }))
            refused_ends managers.KeyringFault named gives called = subst (λ (e : InputError). ResealEndsSo a random input taken output now_put e) (sym called)
                (inr (record { first = bytes ++ take used rest; whole = whole; only = only; key = open_is.key; opens = opens_z; faults = faults; none = gives; nothing = nothing_now; last = last_piece _ few wants }))
            refused_ends managers.Memory named gives called = subst (λ (e : InputError). ResealEndsSo a random input taken output now_put e) (sym called)
                (record { lacks = lacks; written = inl nothing_now })
            refused_ends (managers.Fault fault) named gives called = absurd gives

            pub unbegun_ends : (error : ResealError) (named : InputError) → IsNotBegun (said_last (sealed after) (sealed end)) now random whole only error → ResealErrorIsCalled error named
                → ResealEndsSo a random input taken output now_put named
            unbegun_ends error named (inl gives) called =
                refused_ends gives.why named (subst (λ (b : B). (said_last (sealed b) (sealed end)).gives_none (request_for whole only) gives.why) first_asked gives.none)
                (subst (λ (e : ResealError). ResealErrorIsCalled e named) gives.named called)
            unbegun_ends error named (inr (inl starts)) called =
                let is : named ≡ errors.Refusal starts.refusal = subst (λ (e : ResealError). ResealErrorIsCalled e named) starts.named called in
                subst (λ (e : InputError). ResealEndsSo a random input taken output now_put e) (sym is) (inl (record {
                  first = bytes ++ take used rest;
                  whole = whole;
                  only = only;
                  key = open_is.key;
                  opens = opens_z;
                  faults = faults;
                  why = inr (record {
                    materials = starts.materials;
                    given = subst (λ (b : B). (said_last (sealed b) (sealed end)).gives (request_for whole only) now (drawn_rest random) starts.materials) first_asked starts.given;
                    sound = starts.sound;
                    refused = starts.refused;
                  });
                  nothing = nothing_now;
                  last = last_piece _ few wants;
                }))
            unbegun_ends error named (inr (inr memory)) called =
                let is : named ≡ errors.Memory = subst (λ (e : ResealError). ResealErrorIsCalled e named) memory called in
                subst (λ (e : InputError). ResealEndsSo a random input taken output now_put e) (sym is) (record { lacks = lacks; written = inl nothing_now })

        pub begins_ends : (error : ResealError) (named : InputError) (unwritten : Type 0) → (unwritten → now_put ≡ put)
            → NewMessageBeginsNot r.materials (said_last (sealed after) (sealed end)) now size random z put now_put unwritten error → ResealErrorIsCalled error named → ResealEndsSo a random input taken output now_put named
        begins_ends error named unwritten kept b called =
            begins_by b.why
          where
            begins_by : ((error ≡ reseals.SinkFault) × NewHeaderFails (said_last (sealed after) (sealed end)) now b.whole b.only size random put now_put)
                ⊎ (IsNotBegun (said_last (sealed after) (sealed end)) now random b.whole b.only error × unwritten) → ResealEndsSo a random input taken output now_put named
            begins_by (inl (is, header)) =
                let called_so : named ≡ errors.Outside outsides.SinkFault = subst (λ (e : ResealError). ResealErrorIsCalled e named) is called in
                subst (λ (e : InputError). ResealEndsSo a random input taken output now_put e) (sym called_so) (header_ends b.none b.whole b.only b.opened header)
            begins_by (inr (why, un)) = unbegun_ends b.none b.whole b.only b.opened (kept un) error named why called
