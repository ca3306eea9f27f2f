-- How a decryption begins, and how it ends when all bytes that came were fed.
use Rattle.std.proofs.Common.{◌≡◌, ◌∙◌, ℕ, List, [], Bool, true, false, Option, Some, None, Result, Ok, Err, IfOk, if◌then◌else◌, refl, sym, ap, subst, inr, arith, append-nil}
use Rattle.std.specs.Prelude.{IfErr, IfSome, IsErrAnd, ◌++◌}
use Rattle.std.specs.Io.KnownBytes.{Appends}
use Rattle.esdk_fields.specs.Place.{start}
use Rattle.esdk_fields.specs.Reading.{Reading, Read, Refused, Wanting}
use Rattle.esdk_fields.specs.declared.faults.Fault.{Fault}
use Rattle.esdk_fields.specs.declared.refusals.Outside.TheVariants as outsides
use Rattle.esdk_base.specs.Streams.{SinkState, SourceState}
use Rattle.esdk_base.specs.Receiver.{PutsAll}
use Rattle.context_codec.specs.Context.{KeyValue}
use Rattle.header_codec.specs.declared.settings.Settings.{Settings}
use Rattle.header_codec.specs.Table.{HeaderFields, header}
use Rattle.keyring_trait.specs.Manager.{ManagerNow}
use Rattle.keyring_trait.specs.Saying.{Saying, said_last}
use Rattle.keyring_trait.specs.Unlocking.{Unlocking, Refuses, Unlocks}
use Rattle.body_format.specs.declared.verdicts.Verdict.{Verdict}
use Rattle.body_format.specs.declared.verdicts.Verdict.TheVariants.{Going, Whole, Faulty}
use Rattle.message_format.specs.Judgement.{Judged, content, header_of, judged, judged_lock, judged_reading, lock_fault}
use Rattle.message_format.proofs.Judging.{judged_is, judged_wanting}
use Rattle.stream_open.specs.declared.errors.OpenError.{OpenError}
use Rattle.stream_open.specs.declared.errors.OpenError.TheVariants as opens
use Rattle.stream_open.specs.declared.session.Opener.{Opener}
use Rattle.stream_open.specs.Feeding.{GoesOn}
use Rattle.stream_open.specs.Receiving.{FedWhole}
use Rattle.stream_open.specs.Session.{OpeningValue, answer_kept, end_of_verdict, opening_finish_answer, opening_finished, is_framed, judged_now, new_opening_session, whole_context, whole_in}
use Rattle.stream_open.proofs.FedPieces.{keeps_fed}
use Rattle.stream_open.proofs.Feeding.{ends_so, opened_goes}
use Rattle.stream_open.proofs.Keeping.{opened_keeps}
use Rattle.whole_input.specs.declared.pieces.End.{End}
use Rattle.whole_input.specs.declared.pieces.End.TheVariants as ends
use Rattle.whole_input.specs.Taken.{Came}
use Rattle.whole_input.proofs.Coming.{came_none}
use Rattle.esdk_decrypt.specs.Decrypt.{DecryptAsked, Decrypts, DecryptEnds, HasContext, DecryptLacksMemory, Releases, answering_of, answers_at, asked_from, fault_at_end, fault_of}
use Rattle.esdk_decrypt.specs.Underway.{ConcludesDecryption, ConcludesWhole, OpenErrorIsCalled, IsFedWhole}
use Rattle.esdk_decrypt.specs.declared.errors.DecryptError.{DecryptError}
use Rattle.esdk_decrypt.specs.declared.errors.DecryptError.TheVariants as errors
use Rattle.esdk_decrypt.proofs.Answering.{Answered, answered_kept, nothing_unread, sound_none, still_wanting}

-- ---- the beginning

-- memory may run out before anything is read
pub memory_first : (manager : Saying) (now : ℕ) (settings : Settings) (given : List KeyValue) (input : SourceState) → DecryptLacksMemory (record { manager = answers_at manager now; settings = settings; given = given }) input input
memory_first manager now settings given input =
    let a = answered_kept manager now settings given [] None (opened_keeps manager now settings given) in
    record {
      before = [];
      last = [];
      came = came_none input;
      few = omega arith;
      lacks = record {
        answer = a.answer;
        answered = a.answered;
        going = ap (λ (j : Judged). j.verdict) (judged_wanting [] settings a.answer (still_wanting (new_opening_session settings given) (opened_goes settings given) refl));
        unreserved = λ unlocked. ap is_framed ((opened_goes settings given).unheard refl);
      };
    }

pub lacks_first : {T : Type 0} (manager : ManagerNow) (now : ℕ) (settings : Settings) (given : List KeyValue) (input : SourceState) (output : SinkState) (unwritten : Type 0) → unwritten
    → (r : Result T DecryptError) → IsErrAnd r (λ other. other ≡ errors.Memory) → IfErr r (DecryptEnds (asked_from manager manager now settings given) input input output output unwritten)
lacks_first manager now settings given input output unwritten same (Ok done) is = tt
lacks_first manager now settings given input output unwritten same (Err error) is =
    subst (λ (e : DecryptError). DecryptEnds (asked_from manager manager now settings given) input input output output unwritten e) (sym is)
    (memory_first (said_last manager manager) now settings given input, same)

-- ---- the whole context

-- what is whole was unlocked
opens_lock : (settings : Settings) (b : List ℕ) (parts : HeaderFields) (body : _) (whole only : List KeyValue) (key : List ℕ) (lock : Option Fault)
    → (judged_lock settings (header_of b parts) key body lock).verdict ≡ Whole → (if (judged_lock settings (header_of b parts) key body lock).unlocked then whole_in (Unlocks whole only key) else None) ≡ Some whole
opens_lock settings b parts body whole only key (Some fault) e = absurd (let no : Faulty fault ≡ Whole = e in cc)
opens_lock settings b parts body whole only key None e = refl

opens_reading : (settings : Settings) (b : List ℕ) (answer : Unlocking) (r : Reading HeaderFields) → (judged_reading b settings answer r).verdict ≡ Whole
    → (if (judged_reading b settings answer r).unlocked then whole_in answer else None) ≡ None → ⊥
opens_reading settings b (Unlocks whole only key) (Read parts body) e none =
    let no : Some whole ≡ None = sym (opens_lock settings b parts body whole only key (lock_fault (header_of b parts) only key) e) ∙ none in cc
opens_reading settings b (Refuses fault) (Read parts body) e none = let no : Faulty fault ≡ Whole = e in cc
opens_reading settings b answer (Refused fault at) e none = let no : Faulty fault ≡ Whole = e in cc
opens_reading settings b answer Wanting e none = let no : Going ≡ Whole = e in cc

opens_judged : (settings : Settings) (b : List ℕ) (answer : Unlocking) (j : Judged) → judged b settings answer ≡ j → j.verdict ≡ Whole → (if j.unlocked then whole_in answer else None) ≡ None → ⊥
opens_judged settings b answer j is whole none =
    let same : judged_reading b settings answer (header settings (start b)) ≡ j = sym (judged_is b settings answer (header settings (start b)) refl) ∙ is in
    opens_reading settings b answer (header settings (start b)) (ap (λ (k : Judged). k.verdict) same ∙ whole) (ap (λ (k : Judged). if k.unlocked then whole_in answer else None) same ∙ none)

-- a whole message has a whole context
pub some_context : (v : OpeningValue) → (judged_now v).verdict ≡ Whole → whole_context (opening_finished v) ≡ None → ⊥
unfolding opening_finished whole_context
some_context v whole none = opens_judged v.settings v.taken (answer_kept v.answer) (judged_now v) refl whole none

context_in : (b : Bool) (answer : Unlocking) (context : List KeyValue) → (if b then whole_in answer else None) ≡ Some context → HasContext answer context
context_in true (Unlocks whole only key) context e = (only, key, ap (λ (c : List KeyValue). unlocks c only key) (same e))
  where
    unlocks : List KeyValue → List KeyValue → List ℕ → Unlocking
    unlocks c only key = Unlocks c only key

    same : Some whole ≡ Some context → whole ≡ context
    same e = cc
context_in true (Refuses fault) context e = absurd (let no : None ≡ Some context = e in cc)
context_in false answer context e = absurd (let no : None ≡ Some context = e in cc)

pub has_context : (v : OpeningValue) (context : List KeyValue) → whole_context (opening_finished v) ≡ Some context → HasContext (answer_kept v.answer) context
unfolding opening_finished whole_context
has_context v context e = context_in (judged_now v).unlocked (answer_kept v.answer) context e

-- ---- the input's end

whole_at : (verdict : Verdict) → end_of_verdict verdict ≡ Ok tt → verdict ≡ Whole
whole_at Going e = absurd cc
whole_at Whole e = refl
whole_at (Faulty fault) e = absurd cc

pub is_whole : (v : OpeningValue) → GoesOn v → opening_finish_answer v ≡ Ok tt → (judged_now v).verdict ≡ Whole
is_whole v goes e = whole_at (judged_now v).verdict (sym (ends_so v goes) ∙ e)

fault_called : (verdict : Verdict) (error : OpenError) (named : DecryptError) → end_of_verdict verdict ≡ Err error → OpenErrorIsCalled error named → (fault : Fault) × (named ≡ errors.Fault fault) × (fault_at_end verdict ≡ Some fault)
fault_called Going (opens.Fault fault) named e is = (fault, is, fault_is e)
  where
    fault_is : end_of_verdict Going ≡ Err (opens.Fault fault) → fault_at_end Going ≡ Some fault
    fault_is e = cc
fault_called Going opens.KeyringFault named e is = absurd cc
fault_called Going opens.Stopped named e is = absurd is
fault_called Going opens.Memory named e is = absurd cc
fault_called Whole error named e is = absurd cc
fault_called (Faulty other) (opens.Fault fault) named e is = (fault, is, fault_is e)
  where
    fault_is : end_of_verdict (Faulty other) ≡ Err (opens.Fault fault) → fault_at_end (Faulty other) ≡ Some fault
    fault_is e = cc
fault_called (Faulty other) opens.KeyringFault named e is = absurd cc
fault_called (Faulty other) opens.Stopped named e is = absurd is
fault_called (Faulty other) opens.Memory named e is = absurd cc

-- it has this fault, if no more bytes follow
pub ends_named : (v : OpeningValue) (error : OpenError) (named : DecryptError) → GoesOn v → opening_finish_answer v ≡ Err error → OpenErrorIsCalled error named → ConcludesWhole v (Err named)
ends_named v error named goes e is =
    let (fault, same, at) = fault_called (judged_now v).verdict error named (sym (ends_so v goes) ∙ e) is in
    subst (λ (x : DecryptError). ConcludesWhole v (Err x)) (sym same) at

unstopped_end : (verdict : Verdict) → end_of_verdict verdict ≡ Err opens.Stopped → ⊥
unstopped_end Going e = cc
unstopped_end Whole e = cc
unstopped_end (Faulty fault) e = cc

pub unstopped_finish : (v : OpeningValue) → GoesOn v → opening_finish_answer v ≡ Err opens.Stopped → ⊥
unstopped_finish v goes e = unstopped_end (judged_now v).verdict (sym (ends_so v goes) ∙ e)

-- ---- the end of the decryption

-- the manager's answer to the bytes that were fed
pub come_to : {M O : Type 0} (state : M → ManagerNow) (sink : O → SinkState) (now : ℕ) (settings : Settings) (given : List KeyValue) (bytes : List ℕ) (old new : M) (output put : O) (opener : Opener)
    → (u : FedWhole state (PutsAll sink) now (new_opening_session settings given) bytes old new output put opener)
    → Answered (answering_of (state old) (state new) now) settings given bytes (judged_now u.fed.session) u.fed.session.answer
come_to state sink now settings given bytes old new output put opener u =
    let v : OpeningValue = u.fed.session in
    let a = answered_kept (said_last (state old) (state new)) now settings given bytes v.answer (keeps_fed state now (new_opening_session settings given) bytes u.given old new opener u.fed refl) in
    subst (λ (j : Judged). Answered (answering_of (state old) (state new) now) settings given bytes j v.answer)
    (ap (λ (b : List ℕ). judged b settings (answer_kept v.answer)) (sym u.fed.feeds.taken) ∙ ap (λ (s : Settings). judged v.taken s (answer_kept v.answer)) (sym u.fed.feeds.settings)) a

releases_by : (asked : DecryptAsked) (input taken : SourceState) (output put : SinkState) (bytes : List ℕ) (j : Judged) (kept : Option Unlocking) → (a : Answered asked.manager asked.settings asked.given bytes j kept)
    → Came input taken bytes → Appends output.written put.written (content j) → Releases asked input taken output put bytes a.answer
releases_by asked input taken output put bytes j kept a came gained = record {
  came = came;
  answered = a.answered;
  gained = subst (λ (k : Judged). Appends output.written put.written (content k)) (sym a.same) gained;
}

kept_is : (kept : Option Unlocking) (answer : Unlocking) (context only : List KeyValue) (key : List ℕ) → IfSome kept (λ k. answer ≡ k) → answer_kept kept ≡ Unlocks context only key → answer ≡ Unlocks context only key
kept_is None answer context only key kept is = absurd cc
kept_is (Some k) answer context only key kept is = kept ∙ is

module _ {M O : Type 0} (state : M → ManagerNow) (sink : O → SinkState) (now : ℕ) (settings : Settings) (given : List KeyValue) (old new : M) (output put : O) (input taken : SourceState) (opener : Opener) where
  abbrev asked : DecryptAsked
  asked = asked_from (state old) (state new) now settings given

  gained_in : (bytes : List ℕ) (u : FedWhole state (PutsAll sink) now (new_opening_session settings given) bytes old new output put opener)
      → Appends (sink output).written (sink put).written (content (judged_now u.fed.session))
  gained_in bytes u =
      subst (λ (c : List ℕ). Appends (sink output).written (sink put).written c)
      (sym (u.fed.feeds.content ∙ ap (λ (c : List ℕ). c ++ u.given) (nothing_unread settings [] (answer_kept None) ((opened_goes settings given).unheard refl)))) u.taken.gained

  concluded_ok : (end : End) (context : List KeyValue)
      → (w : IsFedWhole state sink now (new_opening_session settings given) input taken old new output put end opener) → ConcludesDecryption w.fed.fed.session end (Ok context) → Decrypts asked input taken (sink output) (sink put) context
  concluded_ok ends.Seen context w (whole, context_is) =
      let (only, key, is) = context_is in
      let a = come_to state sink now settings given w.bytes old new output put opener w.fed in
      let answer : a.answer ≡ Unlocks context only key = kept_is w.fed.fed.session.answer a.answer context only key a.keeps is in
      record {
        bytes = w.bytes;
        only = only;
        key = key;
        releases = subst (λ (x : Unlocking). Releases asked input taken (sink output) (sink put) w.bytes x) answer
            (releases_by asked input taken (sink output) (sink put) w.bytes (judged_now w.fed.fed.session) w.fed.fed.session.answer a w.came (gained_in w.bytes w.fed));
        end = w.ends;
        whole = ap (λ (x : Unlocking). (judged w.bytes asked.settings x).verdict) (sym answer) ∙ ap (λ (j : Judged). j.verdict) a.same ∙ whole;
      }
  concluded_ok ends.Failed context w none = absurd none
  concluded_ok ends.TooLong context w none = absurd none

  concluded_err : (end : End) (error : DecryptError)
      → (w : IsFedWhole state sink now (new_opening_session settings given) input taken old new output put end opener) → ConcludesDecryption w.fed.fed.session end (Err error) → DecryptEnds asked input taken (sink output) (sink put) (put ≡ output) error
  concluded_err ends.Seen (errors.Fault fault) w is =
      let a = come_to state sink now settings given w.bytes old new output put opener w.fed in
      record {
        bytes = w.bytes;
        answer = a.answer;
        releases = releases_by asked input taken (sink output) (sink put) w.bytes (judged_now w.fed.fed.session) w.fed.fed.session.answer a w.came (gained_in w.bytes w.fed);
        faults = w.ends.faults;
        cause = inr (w.ends, ap (λ (j : Judged). fault_at_end j.verdict) a.same ∙ is);
        last = record {
          before = w.bytes;
          piece = [];
          all = sym (append-nil w.bytes);
          few = omega arith;
          was = ap (λ (j : Judged). fault_of j.verdict) a.same ∙ sound_none (judged_now w.fed.fed.session).verdict w.fed.fed.feeds.goes.sound;
        };
      }
  concluded_err ends.Seen (errors.Outside outside) w none = absurd none
  concluded_err ends.Seen errors.Memory w none = absurd none
  concluded_err ends.Failed (errors.Outside outsides.SourceFault) w is =
      let a = come_to state sink now settings given w.bytes old new output put opener w.fed in
      record {
        bytes = w.bytes;
        answer = a.answer;
        releases = releases_by asked input taken (sink output) (sink put) w.bytes (judged_now w.fed.fed.session) w.fed.fed.session.answer a w.came (gained_in w.bytes w.fed);
        sound = ap (λ (j : Judged). fault_of j.verdict) a.same ∙ sound_none (judged_now w.fed.fed.session).verdict w.fed.fed.feeds.goes.sound;
        rose = w.ends;
      }
  concluded_err ends.Failed (errors.Outside other) w none = absurd none
  concluded_err ends.Failed (errors.Fault fault) w none = absurd none
  concluded_err ends.Failed errors.Memory w none = absurd none
  concluded_err ends.TooLong (errors.Outside outsides.InputTooLong) w is =
      let a = come_to state sink now settings given w.bytes old new output put opener w.fed in
      record {
        bytes = w.bytes;
        answer = a.answer;
        releases = releases_by asked input taken (sink output) (sink put) w.bytes (judged_now w.fed.fed.session) w.fed.fed.session.answer a w.came (gained_in w.bytes w.fed);
        sound = ap (λ (j : Judged). fault_of j.verdict) a.same ∙ sound_none (judged_now w.fed.fed.session).verdict w.fed.fed.feeds.goes.sound;
        most = w.ends;
      }
  concluded_err ends.TooLong (errors.Outside other) w none = absurd none
  concluded_err ends.TooLong (errors.Fault fault) w none = absurd none
  concluded_err ends.TooLong errors.Memory w none = absurd none

  pub concludes_done : (end : End) (r : Result (List KeyValue) DecryptError)
      → (w : IsFedWhole state sink now (new_opening_session settings given) input taken old new output put end opener) → ConcludesDecryption w.fed.fed.session end r → IfOk r (Decrypts asked input taken (sink output) (sink put))
  concludes_done end (Ok context) w concludes = concluded_ok end context w concludes
  concludes_done end (Err error) w concludes = tt

  pub concludes_ends : (end : End) (r : Result (List KeyValue) DecryptError)
      → (w : IsFedWhole state sink now (new_opening_session settings given) input taken old new output put end opener) → ConcludesDecryption w.fed.fed.session end r → IfErr r (DecryptEnds asked input taken (sink output) (sink put) (put ≡ output))
  concludes_ends end (Ok context) w concludes = tt
  concludes_ends end (Err error) w concludes = concluded_err end error w concludes

-- an error that was passed on
pub passed_on : {T E : Type 0} (P : E → Type 0) (r : Result T E) (error : E) → IsErrAnd r (λ other. other ≡ error) → P error → IfErr r P
passed_on P (Ok x) error is so = tt
passed_on P (Err other) error is so = subst P (sym is) so
