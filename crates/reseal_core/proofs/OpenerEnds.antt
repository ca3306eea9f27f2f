-- Why an input isn't resealed whose opener failed at a step.
use Rattle.std.proofs.Common.{◌≡◌, ◌∙◌, ◌⊎◌, ℕ, ◌≤◌, Bool, true, false, is_some, List, [], ◌++◌, length, Option, Some, None, Result, Err, inl, inr, refl, sym, ap, subst, arith}
use Rattle.std.specs.Prelude.{IfSome}
use Rattle.std.specs.Io.KnownBytes.{Appends}
use Rattle.esdk_fields.specs.declared.faults.Fault.{Fault}
use Rattle.esdk_fields.specs.declared.refusals.Outside.TheVariants as outsides
use Rattle.esdk_base.specs.Receiver.{SinkTakes, PutsAll}
use Rattle.esdk_base.specs.ReceiverLaws.{takes_none}
use Rattle.esdk_base.specs.Streams.{SinkState, SourceState}
use Rattle.context_codec.specs.Context.{KeyValue}
use Rattle.header_codec.specs.declared.settings.Settings.{Settings}
use Rattle.header_codec.specs.Header.{HeaderValue}
use Rattle.header_codec.specs.Table.{header_fault}
use Rattle.keyring_trait.specs.Manager.{ManagerNow}
use Rattle.keyring_trait.specs.Materials.{EncMaterialsValue}
use Rattle.keyring_trait.specs.Saying.{said_last}
use Rattle.keyring_trait.specs.Unlocking.{Unlocking, Refuses, Unlocks}
use Rattle.message_format.specs.Judgement.{Judged, content, judged}
use Rattle.stream_open.specs.declared.errors.OpenError.{OpenError}
use Rattle.stream_open.specs.declared.errors.OpenError.TheVariants as opens
use Rattle.stream_open.specs.declared.session.Opener.{Opener}
use Rattle.stream_open.specs.Feeding.{FindsFault, GoesOn, IsFedExactly, KeepsAnswer, header_in, judged_all}
use Rattle.stream_open.specs.Laws.{MayBeHeard}
use Rattle.stream_open.specs.Receiving.{FedWhole}
use Rattle.stream_open.specs.Session.{OpeningValue, answer_kept, asked_header, judged_now, keeping}
use Rattle.stream_open.specs.Session.{new_opening_session as new_opening}
use Rattle.stream_open.specs.Stands.{OpenerSteps as StepsOpener}
use Rattle.stream_open.proofs.FedPieces.{Joins, joins, keeps_some}
use Rattle.stream_open.proofs.Feeding.{asks_about, feeds_exactly, kept_answer, may_hear, opened_goes, sure}
use Rattle.stream_open.proofs.FoundFaults.{faulty_locked}
use Rattle.stream_open.proofs.PieceEnds.{ends_at, same_piece, whole_none}
use Rattle.whole_input.specs.Pieces.{most_piece}
use Rattle.whole_input.specs.Taken.{Came}
use Rattle.esdk_decrypt.specs.Decrypt.{answering_of, fault_of}
use Rattle.esdk_decrypt.specs.Underway.{PutsFront}
use Rattle.esdk_decrypt.specs.declared.errors.DecryptError.TheVariants as decrypts
use Rattle.esdk_decrypt.proofs.Answering.{Answered, answered_kept, judged_before, sound_before}
use Rattle.esdk_decrypt.proofs.Breaking.{short_ends, unread}
use Rattle.reseal_core.specs.declared.errors.InputError.{InputError}
use Rattle.reseal_core.specs.declared.errors.InputError.TheVariants as errors
use Rattle.reseal_core.specs.declared.resealer.Resealer.{Resealer}
use Rattle.reseal_core.specs.Errors.{open_error_as}
use Rattle.reseal_core.specs.Front.{GainsBeyond, front_of}
use Rattle.reseal_core.specs.Reseal.{ResealEndsSo, Resealing, WritesBy, WritesFirst, ResealWritesFront, resealing_from}
use Rattle.reseal_core.specs.Session.{new_resealing_session}
use Rattle.reseal_core.specs.Underway.{AreMade, ResealErrorIsCalled, IsMade, Reached}
use Rattle.reseal_core.proofs.Stepping.{gains_all}
use Rattle.reseal_core.proofs.Reaching.{has_gained, has_room, into_untold, untold, writes_reached}
use Rattle.reseal_core.proofs.Sessions.{wants_header}
use Rattle.reseal_core.proofs.Unlocked.{stays_unlocked, still_in_header}

abbrev failed : OpenError → Result ℕ OpenError
failed error = Err error

failed_memory : (error : OpenError) → (error ≡ opens.Memory → ⊥) → failed error ≡ Err opens.Memory → ⊥
failed_memory error other e = other (same e)
  where
    same : failed error ≡ Err opens.Memory → error ≡ opens.Memory
    same e = cc

fault_not : (fault : Fault) → opens.Fault fault ≡ opens.Memory → ⊥
fault_not fault e = cc

keyring_not : opens.KeyringFault ≡ opens.Memory → ⊥
keyring_not e = cc

stopped_not : opens.Stopped ≡ opens.Memory → ⊥
stopped_not e = cc

module _ {A B : Type 0} (opened : A → ManagerNow) (sealed : B → ManagerNow) (now : ℕ) (settings : Settings) (given : List KeyValue) (size : ℕ) (random : List ℕ) (bytes : List ℕ) (old new : A) (before after : B)
    (output put : SinkState) (resealer : Resealer) (r : Reached opened sealed now (new_resealing_session settings given size random) bytes old new before after output put resealer)
    (rest : List ℕ) (last : A) (end : B) (next : Opener) (stays : asked_header r.fed.session rest ≡ None → last ≡ new) where
  abbrev v : OpeningValue
  v = new_opening settings given

  abbrev w : OpeningValue
  w = r.fed.session

  abbrev asked : Resealing
  asked = resealing_from (opened old) (opened last) (sealed before) (sealed end) now settings given size

  goes : GoesOn w
  goes = r.fed.feeds.goes

  exactly : (error : OpenError) (s : StepsOpener (opened new) (opened last) now w rest (Err error) next) → (error ≡ opens.Memory → ⊥) → IsFedExactly w rest s.heard
  exactly error s known =
      feeds_exactly w rest s.heard goes
      (may_hear (said_last (opened new) (opened last)) now w.given (asked_header w rest) ⊥ s.heard
      (sure (said_last (opened new) (opened last)) now w.given (asked_header w rest) (failed error ≡ Err opens.Memory) s.heard (failed_memory error known) s.hears))

  pub never_stopped : StepsOpener (opened new) (opened last) now w rest (Err opens.Stopped) next → ⊥
  never_stopped s = (exactly opens.Stopped s stopped_not).unstopped s.answers

  module _ (unasked : end ≡ after) (input taken : SourceState) (came : Came input taken (bytes ++ rest)) (faults : taken.faults ≡ input.faults) (few : length rest ≤ most_piece) where
    -- nothing was put while there are no materials
    nothing_put : r.materials ≡ None → SinkTakes output put []
    nothing_put none = gains_all output put [] (subst (λ (x : Option EncMaterialsValue). GainsBeyond output put [] (front_of x size random (content (judged_now w)))) none r.gained)

    none_by : (m : Option EncMaterialsValue) → is_some m ≡ false → m ≡ None
    none_by None e = refl
    none_by (Some m) e = absurd (let no : true ≡ false = e in cc)

    none_locked : (judged_now w).unlocked ≡ false → r.materials ≡ None
    none_locked locked = none_by r.materials ((r.stands.going refl).unlocked ∙ locked)

    -- ---- memory ran out, or the manager failed

    -- nothing of the piece was fed yet
    abbrev none_fed : FedWhole opened (PutsAll (λ (x : SinkState). x)) now w [] new new untold untold resealer.opener
    none_fed = whole_none opened (PutsAll (λ (x : SinkState). x)) now w new untold resealer.opener goes r.fed.stands (λ x. takes_none x)

    -- its manager failed
    pub keyring_ends : StepsOpener (opened new) (opened last) now w rest (Err opens.KeyringFault) next → ResealEndsSo asked random input taken output put (errors.Outside outsides.KeyringFault)
    keyring_ends s =
        let (heard_is, (h, asks)) = (exactly opens.KeyringFault s keyring_not).failed s.answers in
        let locked = wants_header w goes (asks_about w rest h goes asks).unheard in
        let short = ends_at {E = Unit {0}} opened (PutsAll (λ (x : SinkState). x)) (PutsFront (λ (x : SinkState). x)) now w rest 0 new new last untold untold untold resealer.opener next rest (omega arith) refl none_fed opens.KeyringFault s stays in
        let ended = short_ends opened (λ (x : SinkState). x) now settings given bytes rest old new last untold untold untold resealer.opener next input taken
        (into_untold opened now v bytes r.text old new resealer.opener r.fed) came faults few opens.KeyringFault (decrypts.Outside outsides.KeyringFault) short refl in
        inl (ended.0, nothing_put (none_locked locked))

    -- memory ran out
    memory_by : (m : Option EncMaterialsValue) → r.materials ≡ m → SinkTakes output put [] ⊎ WritesFirst asked random input taken output put
    memory_by None is = inl (nothing_put is)
    memory_by (Some m) is = inr (writes_reached opened sealed now settings given size random bytes old new before after output put resealer r rest last end unasked stays input taken came few m is)

    pub memory_ends : StepsOpener (opened new) (opened last) now w rest (Err opens.Memory) next → ResealEndsSo asked random input taken output put errors.Memory
    memory_ends s =
        let short = ends_at {E = Unit {0}} opened (PutsAll (λ (x : SinkState). x)) (PutsFront (λ (x : SinkState). x)) now w rest 0 new new last untold untold untold resealer.opener next rest (omega arith) refl none_fed opens.Memory s stays in
        let ended = short_ends opened (λ (x : SinkState). x) now settings given bytes rest old new last untold untold untold resealer.opener next input taken
        (into_untold opened now v bytes r.text old new resealer.opener r.fed) came faults few opens.Memory decrypts.Memory short refl in
        record { lacks = ended.0; written = memory_by r.materials refl }

    -- ---- a fault

    module _ (fault : Fault) (s : StepsOpener (opened new) (opened last) now w rest (Err (opens.Fault fault)) next) where
      finds : FindsFault w rest s.heard fault
      finds = (exactly (opens.Fault fault) s (fault_not fault)).fault fault s.answers

      abbrev short : Type 0
      short = failed (opens.Fault fault) ≡ Err opens.Memory

      j : Joins opened now v (bytes ++ rest) short old last w s.heard (asked_header w rest)
      j = joins opened now v bytes rest r.text old new last resealer.opener r.fed short s.heard s.hears s.bears stays

      kept : Option Unlocking
      kept = (keeping v j.heard).answer

      keeps : (o : Option Unlocking) → (keeping v j.heard).answer ≡ o → KeepsAnswer (said_last (opened old) (opened last)) now given (header_in settings (bytes ++ rest)) o
      keeps (Some a) is = keeps_some (said_last (opened old) (opened last)) now v (bytes ++ rest) short j.heard a (opened_goes settings given) refl j.hears is
      keeps None is =
          let found : header_fault w.settings (w.taken ++ rest) ≡ Some fault = finds.unheard (j.answer ∙ is) in
          let here : header_fault settings (bytes ++ rest) ≡ Some fault =
          ap (λ (b : List ℕ). header_fault settings (b ++ rest)) (sym r.fed.feeds.taken) ∙ ap (λ (x : Settings). header_fault x (w.taken ++ rest)) (sym r.fed.feeds.settings) ∙ found in
          subst (λ (o : Option HeaderValue). KeepsAnswer (said_last (opened old) (opened last)) now given o None) (sym (unread settings (bytes ++ rest) fault here)) refl

      a : Answered (answering_of (opened old) (opened last) now) settings given (bytes ++ rest) (judged (bytes ++ rest) settings (answer_kept (keeping v j.heard).answer)) (keeping v j.heard).answer
      a = answered_kept (said_last (opened old) (opened last)) now settings given (bytes ++ rest) (keeping v j.heard).answer (keeps (keeping v j.heard).answer refl)

      same : judged (bytes ++ rest) settings a.answer ≡ judged_all w rest s.heard
      same = a.same ∙ sym (same_piece opened now v bytes r.text old new last resealer.opener next rest r.fed s.heard short j)

      may : MayBeHeard (asked_header w rest) short s.heard
      may = may_hear (said_last (opened new) (opened last)) now w.given (asked_header w rest) short s.heard s.hears

      kept_on : (x : Unlocking) → w.answer ≡ Some x → (keeping v j.heard).answer ≡ Some x
      kept_on x is = sym j.answer ∙ kept_answer w rest short s.heard x may is

      before_is : judged bytes settings a.answer ≡ judged_now w
      before_is =
          ap (λ (b : List ℕ). judged b settings a.answer) (sym r.fed.feeds.taken) ∙ ap (λ (x : Settings). judged w.taken x a.answer) (sym r.fed.feeds.settings)
          ∙ judged_before w a.answer (keeping v j.heard).answer goes kept_on a.keeps

      -- what was put is what is written of the faulty bytes
      written_fault : (m : Option EncMaterialsValue) → r.materials ≡ m → WritesBy asked random a.answer (content (judged_all w rest s.heard)) (judged_all w rest s.heard).unlocked output put
      written_fault None is =
          let locked : (judged_now w).unlocked ≡ false = sym (r.stands.going refl).unlocked ∙ ap is_some is in
          let still : (judged_all w rest s.heard).unlocked ≡ false = faulty_locked w rest s.heard fault goes (still_in_header w goes locked) s.answers in
          subst (λ (b : Bool). WritesBy asked random a.answer (content (judged_all w rest s.heard)) b output put) (sym still) (nothing a.answer (nothing_put is).gained)
        where
          nothing : (x : Unlocking) → Appends output.written put.written [] → WritesBy asked random x (content (judged_all w rest s.heard)) false output put
          nothing (Refuses other) gained = gained
          nothing (Unlocks whole only key) gained = gained
      written_fault (Some m) is =
          let unlocked : (judged_now w).unlocked ≡ true = sym (r.stands.going refl).unlocked ∙ ap is_some is in
          let still : (judged_all w rest s.heard).unlocked ≡ true = stays_unlocked w rest rest short s.heard goes may unlocked in
          let made : AreMade (said_last (sealed before) (sealed after)) now random w.answer m =
          subst (λ (x : Option EncMaterialsValue). IsMade (said_last (sealed before) (sealed after)) now random w.answer (after ≡ before) x) is r.made in
          let made_then : AreMade (said_last (sealed before) (sealed end)) now random w.answer m =
          subst (λ (b : B). AreMade (said_last (sealed before) (sealed b)) now random w.answer m) (sym unasked) made in
          let answer_is : a.answer ≡ Unlocks made_then.whole made_then.only made_then.key =
          kept_same (keeping v j.heard).answer (kept_on (Unlocks made_then.whole made_then.only made_then.key) made_then.answer_is) a.keeps in
          let front_is = front_written m is made_then in
          subst (λ (b : Bool). WritesBy asked random a.answer (content (judged_all w rest s.heard)) b output put) (sym still)
          (subst (λ (x : Unlocking). WritesBy asked random x (content (judged_all w rest s.heard)) true output put) (sym answer_is)
          (subst (λ (t : List ℕ). ResealWritesFront asked random made_then.whole made_then.only t output put) (sym finds.released) front_is))
        where
          kept_same : (o : Option Unlocking) {x : Unlocking} → o ≡ Some x → IfSome o (λ k. a.answer ≡ k) → a.answer ≡ x
          kept_same None e keeps_it = absurd cc
          kept_same (Some k) {x} e keeps_it = let is_x : k ≡ x = cc in keeps_it ∙ is_x

          front_written : (m : EncMaterialsValue) → r.materials ≡ Some m → (made : AreMade (said_last (sealed before) (sealed end)) now random w.answer m) → ResealWritesFront asked random made.whole made.only (content (judged_now w)) output put
          front_written m is made = record {
            materials = m;
            has = record { given = made.given.given; sound = made.given.sound; begins = made.given.begins };
            room = has_room opened sealed now settings given size random bytes old new before after output put resealer r m is;
            gained = (has_gained opened sealed now settings given size random bytes old new before after output put resealer r m is).gained;
          }

      pub fault_ends : ResealEndsSo asked random input taken output put (errors.Fault fault)
      fault_ends = record {
        bytes = bytes ++ rest;
        answer = a.answer;
        passes = record {
          came = came;
          answered = a.answered;
          written = subst (λ (x : Judged). WritesBy asked random a.answer (content x) x.unlocked output put) (sym same) (written_fault r.materials refl);
        };
        faults = faults;
        cause = inl (ap (λ (x : Judged). fault_of x.verdict) same ∙ ap fault_of finds.verdict);
        last = record { before = bytes; piece = rest; all = refl; few = few; was = sound_before w (judged bytes settings a.answer) goes before_is };
      }

    -- ---- whatever ended it

    pub opener_ends : (why : OpenError) (named : InputError) → StepsOpener (opened new) (opened last) now w rest (Err why) next → ResealErrorIsCalled (open_error_as why) named → ResealEndsSo asked random input taken output put named
    opener_ends (opens.Fault fault) named s called = subst (λ (e : InputError). ResealEndsSo asked random input taken output put e) (sym called) (fault_ends fault s)
    opener_ends opens.KeyringFault named s called = subst (λ (e : InputError). ResealEndsSo asked random input taken output put e) (sym called) (keyring_ends s)
    opener_ends opens.Memory named s called = subst (λ (e : InputError). ResealEndsSo asked random input taken output put e) (sym called) (memory_ends s)
    opener_ends opens.Stopped named s called = absurd called
