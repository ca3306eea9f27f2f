-- Why a decryption ends while a piece is fed.
use Rattle.std.proofs.Common.{◌≡◌, ℕ, true, false, ◌≤◌, List, [], ◌++◌, length, take, drop, Option, Some, None, Err, refl, sym, ap, subst, ◌∙◌, inl, inr, arith, append_assoc}
use Rattle.std.specs.Prelude.{IfSome, option_map}
use Rattle.std.specs.Io.KnownBytes.{Appends}
use Rattle.std.proofs.KnownBytes.{Appends-trans}
use Rattle.std.proofs.lemmas.List.{length-drop, take-append-drop}
use Rattle.esdk_fields.specs.declared.faults.Fault.{Fault}
use Rattle.esdk_fields.specs.declared.refusals.Outside.TheVariants as outsides
use Rattle.esdk_fields.specs.Place.{start}
use Rattle.esdk_fields.specs.Reading.{Reading, Read, Refused, Wanting, reading_fault as fault_in, value_of}
use Rattle.esdk_base.specs.declared.receiver.FeedError.{FeedError}
use Rattle.esdk_base.specs.declared.receiver.FeedError.TheVariants as feeds
use Rattle.esdk_base.specs.declared.source.Failed.{Failed as PutFailed}
use Rattle.esdk_base.specs.Streams.{SinkState, SourceState}
use Rattle.esdk_base.specs.Receiver.{PutsAll}
use Rattle.context_codec.specs.Context.{KeyValue}
use Rattle.header_codec.specs.declared.settings.Settings.{Settings}
use Rattle.header_codec.specs.Header.{HeaderValue}
use Rattle.header_codec.specs.Table.{HeaderFields, head, header, header_fault}
use Rattle.keyring_trait.specs.Manager.{ManagerNow}
use Rattle.keyring_trait.specs.Saying.{said_last}
use Rattle.keyring_trait.specs.Unlocking.{Unlocking}
use Rattle.message_format.specs.Judgement.{Judged, content, header_of, judged}
use Rattle.stream_open.specs.declared.errors.OpenError.{OpenError}
use Rattle.stream_open.specs.declared.errors.OpenError.TheVariants as opens
use Rattle.stream_open.specs.declared.session.Opener.{Opener}
use Rattle.stream_open.specs.Asking.{Heard, Failed, IsHeard, served_in}
use Rattle.stream_open.specs.Feeding.{GoesOn, KeepsAnswer, header_in, judged_all}
use Rattle.stream_open.specs.Receiving.{FedShort, FedTo, FedUntil, FedWhole}
use Rattle.stream_open.specs.Session.{MayRunOut, OpeningValue, answer_kept, asked_header, is_framed, judged_now, keeping, new_opening_session}
use Rattle.stream_open.proofs.FedPieces.{Joins, joins, keeps_some}
use Rattle.stream_open.proofs.Feeding.{asks_about, kept_answer, may_hear, opened_goes, runs_out_before}
use Rattle.stream_open.proofs.Keeping.{header_on}
use Rattle.stream_open.proofs.PieceEnds.{no_content, same_piece}
use Rattle.whole_input.specs.Pieces.{most_piece}
use Rattle.whole_input.specs.Taken.{Came}
use Rattle.whole_input.specs.Written.{WritesBeyond}
use Rattle.whole_input.proofs.Fronts.{beyond_after}
use Rattle.esdk_decrypt.specs.declared.errors.DecryptError.{DecryptError}
use Rattle.esdk_decrypt.specs.declared.errors.DecryptError.TheVariants as errors
use Rattle.esdk_decrypt.specs.Decrypt.{AnswersTo, DecryptAsked, DecryptEnds, answering_of, asked_from, fault_of}
use Rattle.esdk_decrypt.specs.Underway.{BearsOnce, FailsAtSome, FeedsPiece, OpenErrorIsCalled, IsFeedCalled, PutsFront}
use Rattle.esdk_decrypt.proofs.Answering.{Answered, answered_kept, any_unread, fails_whole, front_released, judged_before, nothing_unread, sound_before, still_wanting}

-- ---- the header of faulty bytes

-- where the header has the fault, there is none
unread_by : (settings : Settings) (b : List ℕ) (fault : Fault) (r : Reading HeaderFields) → header settings (start b) ≡ r → header_fault settings b ≡ Some fault → header_in settings b ≡ None
unread_by settings b fault (Read parts p) e is = absurd (let no : None ≡ Some fault = sym (ap (λ (r : Reading HeaderFields). fault_in r) e) ∙ is in cc)
unread_by settings b fault (Refused other at) e is = ap (λ (r : Reading HeaderFields). option_map (header_of b) (value_of r)) e
unread_by settings b fault Wanting e is = absurd (let no : None ≡ Some fault = sym (ap (λ (r : Reading HeaderFields). fault_in r) e) ∙ is in cc)

pub unread : (settings : Settings) (b : List ℕ) (fault : Fault) → header_fault settings b ≡ Some fault → header_in settings b ≡ None
unread settings b fault is = unread_by settings b fault (header settings (start b)) refl is

head_none : (b : List ℕ) (o : Option HeaderFields) → option_map (header_of b) o ≡ None → o ≡ None
head_none b None e = refl
head_none b (Some parts) e = absurd cc

-- nothing is released yet
nothing_first : (settings : Settings) (given : List KeyValue) → content (judged_now (new_opening_session settings given)) ≡ []
nothing_first settings given = nothing_unread settings [] (answer_kept None) ((opened_goes settings given).unheard refl)

-- no header is asked about where none is whole
pub none_asked : (settings : Settings) (given : List KeyValue) (b : List ℕ) → head settings b ≡ None → asked_header (new_opening_session settings given) b ≡ None
none_asked settings given b none = ap (λ (o : Option HeaderFields). option_map (header_of b) o) none

some_none : {A : Type 0} (a : A) → Some a ≡ None → ⊥
some_none a e = cc

-- where none is whole, none is in what came first
pub headless_before : (settings : Settings) (b more : List ℕ) (o : Option HeaderFields) → head settings b ≡ o → head settings (b ++ more) ≡ None → head settings b ≡ None
headless_before settings b more None e none = e
headless_before settings b more (Some parts) e none =
    let h : HeaderValue = header_of b parts in
    let here : header_in settings b ≡ Some h = ap (λ (o : Option HeaderFields). option_map (header_of b) o) e in
    absurd (some_none h (sym (header_on settings b more h (header settings (start b)) refl here) ∙ ap (λ (o : Option HeaderFields). option_map (header_of (b ++ more)) o) none))

module _ {M O : Type 0} (state : M → ManagerNow) (sink : O → SinkState) (now : ℕ) (settings : Settings) (given : List KeyValue) (bytes piece : List ℕ) (first mid new : M) (begun during after : O) (opener next : Opener)
    (input taken : SourceState) (whole : FedWhole state (PutsAll sink) now (new_opening_session settings given) bytes first mid begun during opener) (came : Came input taken (bytes ++ piece)) (faults : taken.faults ≡ input.faults)
    (few : length piece ≤ most_piece) where
  abbrev asked : DecryptAsked
  asked = asked_from (state first) (state new) now settings given

  abbrev v : OpeningValue
  v = new_opening_session settings given

  abbrev w : OpeningValue
  w = whole.fed.session

  -- ---- what was fed before the piece

  judged_w : (answer : Unlocking) → judged bytes settings answer ≡ judged w.taken w.settings answer
  judged_w answer =
      ap (λ (b : List ℕ). judged b settings answer) (sym whole.fed.feeds.taken) ∙ ap (λ (s : Settings). judged w.taken s answer) (sym whole.fed.feeds.settings)

  content_w : content (judged_now w) ≡ whole.given
  content_w = whole.fed.feeds.content ∙ ap (λ (c : List ℕ). c ++ whole.given) (nothing_first settings given)

  none_given : content (judged_now w) ≡ [] → during ≡ begun
  none_given none = whole.nothing (sym content_w ∙ none)

  -- it has no fault, with an answer that is kept later
  judged_first : (answer : Unlocking) (later : Option Unlocking) → ((a : Unlocking) → w.answer ≡ Some a → later ≡ Some a) → IfSome later (λ a. answer ≡ a) → judged bytes settings answer ≡ judged_now w
  judged_first answer later on is = judged_w answer ∙ judged_before w answer later whole.fed.feeds.goes on is

  sound_first : (answer : Unlocking) (later : Option Unlocking) → ((a : Unlocking) → w.answer ≡ Some a → later ≡ Some a) → IfSome later (λ a. answer ≡ a) → fault_of (judged bytes settings answer).verdict ≡ None
  sound_first answer later on is = sound_before w (judged bytes settings answer) whole.fed.feeds.goes (judged_first answer later on is)

  kept_on : (later : Heard) (short : Type 0) → IsHeard (said_last (state mid) (state new)) now w.given (asked_header w piece) short later
      → (a : Unlocking) → w.answer ≡ Some a → (keeping w later).answer ≡ Some a
  kept_on later short hears a is = kept_answer w piece short later a (may_hear (said_last (state mid) (state new)) now w.given (asked_header w piece) short later hears) is

  -- ---- the session ended in the piece

  joined : (takes : O → O → List ℕ → Type 0) (error : OpenError) (short : FedShort state takes now w piece error mid new during after next)
      → Joins state now v (bytes ++ piece) (error ≡ opens.Memory) first new w short.heard (asked_header w piece)
  joined takes error short = joins state now v bytes piece whole.given first mid new opener whole.fed (error ≡ opens.Memory) short.heard short.hears short.bears short.unasked

  gained_all : (more : List ℕ) (c : List ℕ) → Appends (sink during).written (sink after).written more → c ≡ whole.given ++ more → Appends (sink begun).written (sink after).written c
  gained_all more c gained is =
      subst (λ (x : List ℕ). Appends (sink begun).written (sink after).written x) (sym is)
      (Appends-trans (sink begun).written (sink during).written (sink after).written whole.given more whole.taken.gained gained)

  keeps_fault : (takes : O → O → List ℕ → Type 0) (fault : Fault) (short : FedShort state takes now w piece (opens.Fault fault) mid new during after next)
      (j : Joins state now v (bytes ++ piece) (opens.Fault fault ≡ opens.Memory) first new w short.heard (asked_header w piece))
      (kept : Option Unlocking) → (keeping v j.heard).answer ≡ kept
      → KeepsAnswer (said_last (state first) (state new)) now given (header_in settings (bytes ++ piece)) kept
  keeps_fault takes fault short j (Some a) is =
      keeps_some (said_last (state first) (state new)) now v (bytes ++ piece) (opens.Fault fault ≡ opens.Memory) j.heard a (opened_goes settings given) refl j.hears is
  keeps_fault takes fault short j None is =
      let found : header_fault w.settings (w.taken ++ piece) ≡ Some fault = short.why.unheard (j.answer ∙ is) in
      let here : header_fault settings (bytes ++ piece) ≡ Some fault =
      ap (λ (b : List ℕ). header_fault settings (b ++ piece)) (sym whole.fed.feeds.taken) ∙ ap (λ (s : Settings). header_fault s (w.taken ++ piece)) (sym whole.fed.feeds.settings) ∙ found in
      subst (λ (o : Option HeaderValue). KeepsAnswer (said_last (state first) (state new)) now given o None) (sym (unread settings (bytes ++ piece) fault here)) refl

  faulty_ends : (fault : Fault) → FedShort state (PutsAll sink) now w piece (opens.Fault fault) mid new during after next
      → DecryptEnds asked input taken (sink begun) (sink after) (after ≡ begun) (errors.Fault fault)
  faulty_ends fault short =
      let all : List ℕ = bytes ++ piece in
      let j = joined (PutsAll sink) (opens.Fault fault) short in
      let kept : Option Unlocking = (keeping v j.heard).answer in
      let a : Answered (answering_of (state first) (state new) now) settings given all (judged all settings (answer_kept kept)) kept =
      answered_kept (said_last (state first) (state new)) now settings given all kept (keeps_fault (PutsAll sink) fault short j kept refl) in
      let same : judged_all w piece short.heard ≡ judged all settings (answer_kept kept) =
      same_piece state now v bytes whole.given first mid new opener next piece whole.fed short.heard (opens.Fault fault ≡ opens.Memory) j in
      record {
        bytes = all;
        answer = a.answer;
        releases = record {
          came = came;
          answered = a.answered;
          gained = gained_all short.given (content (judged all settings a.answer)) short.taken.gained
              (ap content (a.same ∙ sym same) ∙ short.why.released ∙ ap (λ (c : List ℕ). c ++ short.given) content_w);
        };
        faults = faults;
        cause = inl (ap (λ (x : Judged). fault_of x.verdict) (a.same ∙ sym same) ∙ ap fault_of short.why.verdict);
        last = record {
          before = bytes;
          piece = piece;
          all = refl;
          few = few;
          was = sound_first a.answer kept (λ x is. sym j.answer ∙ kept_on short.heard (opens.Fault fault ≡ opens.Memory) short.hears x is) a.keeps;
        };
      }

  at_failed : (short : Type 0) (x : Heard) (old is : M) (u : OpeningValue) (b : List ℕ) → x ≡ Failed → IsHeard (said_last (state old) (state is)) now u.given (asked_header u b) short x
      → IsHeard (said_last (state old) (state is)) now u.given (asked_header u b) short Failed
  at_failed short x old is u b e hears = subst (λ (y : Heard). IsHeard (said_last (state old) (state is)) now u.given (asked_header u b) short y) e hears

  failed_ends : FedShort state (PutsAll sink) now w piece opens.KeyringFault mid new during after next
      → DecryptEnds asked input taken (sink begun) (sink after) (after ≡ begun) (errors.Outside outsides.KeyringFault)
  failed_ends short =
      let j = joined (PutsAll sink) opens.KeyringFault short in
      let (h, asks, none) = at_failed (opens.KeyringFault ≡ opens.Memory) short.heard mid new w piece short.why.0 short.hears in
      let (g, asked_all, failed) = at_failed (opens.KeyringFault ≡ opens.Memory) j.heard first new v (bytes ++ piece) (j.late h asks ∙ short.why.0) j.hears in
      let here = asks_about w piece h whole.fed.feeds.goes asks in
      let about = asks_about v (bytes ++ piece) g (opened_goes settings given) asked_all in (
        record {
          bytes = bytes ++ piece;
          came = came;
          faults = faults;
          failed = fails_whole (answering_of (state first) (state new) now) settings given (bytes ++ piece) g about.parts about.whole about.is failed;
          last = record {
            before = bytes;
            piece = piece;
            all = refl;
            few = few;
            was = ap (λ (b : List ℕ). header settings (start b)) (sym whole.fed.feeds.taken) ∙ ap (λ (s : Settings). header s (start w.taken)) (sym whole.fed.feeds.settings)
                ∙ still_wanting w whole.fed.feeds.goes here.unheard;
          };
        },
        short.nothing short.why.1 ∙ none_given here.nothing,
      )

  -- want of memory, in a session where it may be
  lacks_some : (short : FedShort state (PutsAll sink) now w piece opens.Memory mid new during after next) (b : List ℕ) (h : HeaderValue) (kept : Option Unlocking) → b ++ drop short.count piece ≡ bytes ++ piece
      → short.reached.answer ≡ kept → (kept ≡ None → head settings b ≡ None) → header_in settings b ≡ Some h
      → KeepsAnswer (said_last (state first) (state new)) now given (Some h) kept
  lacks_some short b h None all is unheard e =
      absurd (some_none h (sym e ∙ ap (λ (o : Option HeaderFields). option_map (header_of b) o) (unheard refl)))
  lacks_some short b h (Some a) all is unheard e =
      let j = joined (PutsAll sink) opens.Memory short in
      let later : header_in settings (bytes ++ piece) ≡ Some h =
      ap (λ (l : List ℕ). header_in settings l) (sym all) ∙ header_on settings b (drop short.count piece) h (header settings (start b)) refl e in
      subst (λ (o : Option HeaderValue). KeepsAnswer (said_last (state first) (state new)) now given o (Some a)) later
      (keeps_some (said_last (state first) (state new)) now v (bytes ++ piece) (opens.Memory ≡ opens.Memory) j.heard a (opened_goes settings given) refl j.hears (sym j.answer ∙ short.kept a is))

  lacks_at : (short : FedShort state (PutsAll sink) now w piece opens.Memory mid new during after next) (b : List ℕ) (o : Option HeaderValue) → b ++ drop short.count piece ≡ bytes ++ piece
      → (short.reached.answer ≡ None → head settings b ≡ None) → header_in settings b ≡ o
      → (answer : Unlocking) × AnswersTo (answering_of (state first) (state new) now) settings given b answer × (judged b settings answer ≡ judged b settings (answer_kept short.reached.answer))
  lacks_at short b None all unheard e =
      let a : Answered (answering_of (state first) (state new) now) settings given b (judged b settings (answer_kept None)) None =
      answered_kept (said_last (state first) (state new)) now settings given b None
      (subst (λ (x : Option HeaderValue). KeepsAnswer (said_last (state first) (state new)) now given x None) (sym e) refl) in
      (a.answer, a.answered, a.same ∙ any_unread settings b (answer_kept None) (answer_kept short.reached.answer) (head_none b (head settings b) e))
  lacks_at short b (Some h) all unheard e =
      let a : Answered (answering_of (state first) (state new) now) settings given b (judged b settings (answer_kept short.reached.answer)) short.reached.answer =
      answered_kept (said_last (state first) (state new)) now settings given b short.reached.answer
      (subst (λ (x : Option HeaderValue). KeepsAnswer (said_last (state first) (state new)) now given x short.reached.answer) (sym e)
      (lacks_some short b h short.reached.answer all refl unheard e)) in
      (a.answer, a.answered, a.same)

  memory_ends : FedShort state (PutsAll sink) now w piece opens.Memory mid new during after next
      → DecryptEnds asked input taken (sink begun) (sink after) (after ≡ begun) errors.Memory
  memory_ends short =
      let r : OpeningValue = short.reached in
      let may : MayRunOut r = short.why.0 in
      let front : List ℕ = take short.count piece in
      let b : List ℕ = bytes ++ front in
      let limits : r.settings ≡ settings = short.feeds.settings ∙ whole.fed.feeds.settings in
      let took : r.taken ≡ b = short.feeds.taken ∙ ap (λ (l : List ℕ). l ++ front) whole.fed.feeds.taken in
      let all : b ++ drop short.count piece ≡ bytes ++ piece = append_assoc bytes front (drop short.count piece) ∙ ap (λ (l : List ℕ). bytes ++ l) (take-append-drop short.count piece) in
      let heads : head settings b ≡ head r.settings r.taken = ap (λ (l : List ℕ). head settings l) (sym took) ∙ ap (λ (x : Settings). head x r.taken) (sym limits) in
      let here : judged b settings (answer_kept r.answer) ≡ judged_now r =
      ap (λ (l : List ℕ). judged l settings (answer_kept r.answer)) (sym took) ∙ ap (λ (x : Settings). judged r.taken x (answer_kept r.answer)) (sym limits) in
      let lacks = lacks_at short b (header_in settings b) all (λ none. heads ∙ short.feeds.goes.unheard none) refl in
      let same = lacks.2 ∙ here in
      let none = no_content (content (judged_now w)) short.given (sym short.feeds.content ∙ runs_out_before r may) in (
        record {
          before = b;
          last = drop short.count piece;
          came = subst (λ (l : List ℕ). Came input taken l) (sym all) came;
          few = omega (arith, few, length-drop short.count piece);
          lacks = record {
            answer = lacks.0;
            answered = lacks.1;
            going = ap (λ (j : Judged). j.verdict) same ∙ may.unended;
            unreserved = λ unlocked. ap is_framed heads ∙ may.unreserved (ap (λ (j : Judged). j.unlocked) (sym same) ∙ unlocked);
          };
        },
        short.nothing none.1 ∙ none_given none.0,
      )

  pub short_ends : (error : OpenError) (named : DecryptError) → FedShort state (PutsAll sink) now w piece error mid new during after next → OpenErrorIsCalled error named
      → DecryptEnds asked input taken (sink begun) (sink after) (after ≡ begun) named
  short_ends (opens.Fault fault) named short is = subst (λ (e : DecryptError). DecryptEnds asked input taken (sink begun) (sink after) (after ≡ begun) e) (sym is) (faulty_ends fault short)
  short_ends opens.KeyringFault named short is = subst (λ (e : DecryptError). DecryptEnds asked input taken (sink begun) (sink after) (after ≡ begun) e) (sym is) (failed_ends short)
  short_ends opens.Memory named short is = subst (λ (e : DecryptError). DecryptEnds asked input taken (sink begun) (sink after) (after ≡ begun) e) (sym is) (memory_ends short)
  short_ends opens.Stopped named short is = absurd is

  -- ---- the output failed

  kept_fed : (c : ℕ) (more : List ℕ) (fed : FedTo state now w (take c piece) more mid new next) (kept : Option Unlocking) → fed.session.answer ≡ kept
      → (j : Joins state now v (bytes ++ take c piece) ⊥ first new w fed.heard (asked_header w (take c piece)))
      → KeepsAnswer (said_last (state first) (state new)) now given (header_in settings (bytes ++ take c piece)) kept
  kept_fed c more fed (Some a) is j =
      keeps_some (said_last (state first) (state new)) now v (bytes ++ take c piece) ⊥ j.heard a (opened_goes settings given) refl j.hears (sym j.answer ∙ sym fed.answer ∙ is)
  kept_fed c more fed None is j =
      let z : OpeningValue = fed.session in
      let b : List ℕ = bytes ++ take c piece in
      let heads : head settings b ≡ head z.settings z.taken =
      ap (λ (l : List ℕ). head settings l) (sym (fed.feeds.taken ∙ ap (λ (l : List ℕ). l ++ take c piece) whole.fed.feeds.taken))
      ∙ ap (λ (x : Settings). head x z.taken) (sym (fed.feeds.settings ∙ whole.fed.feeds.settings)) in
      subst (λ (o : Option HeaderValue). KeepsAnswer (said_last (state first) (state new)) now given o None)
      (sym (ap (λ (o : Option HeaderFields). option_map (header_of b) o) (heads ∙ fed.feeds.goes.unheard is))) refl

  pub until_ends : {E : Type 0} (error : E) → FedUntil state (PutsFront sink) now w piece error mid new during after next
      → DecryptEnds asked input taken (sink begun) (sink after) (after ≡ begun) (errors.Outside outsides.SinkFault)
  until_ends error until =
      let front : List ℕ = take until.count piece in
      let b : List ℕ = bytes ++ front in
      let z : OpeningValue = until.fed.session in
      let j = joins state now v bytes front whole.given first mid new opener whole.fed ⊥ until.fed.heard until.fed.hears until.fed.bears until.fed.unasked in
      let a : Answered (answering_of (state first) (state new) now) settings given b (judged b settings (answer_kept z.answer)) z.answer =
      answered_kept (said_last (state first) (state new)) now settings given b z.answer (kept_fed until.count until.given until.fed z.answer refl j) in
      let limits : z.settings ≡ settings = until.fed.feeds.settings ∙ whole.fed.feeds.settings in
      let took : z.taken ≡ b = until.fed.feeds.taken ∙ ap (λ (l : List ℕ). l ++ front) whole.fed.feeds.taken in
      let here : judged b settings (answer_kept z.answer) ≡ judged_now z =
      ap (λ (l : List ℕ). judged l settings (answer_kept z.answer)) (sym took) ∙ ap (λ (x : Settings). judged z.taken x (answer_kept z.answer)) (sym limits) in
      let released : content (judged b settings a.answer) ≡ content (judged_now w) ++ until.given = ap content (a.same ∙ here) ∙ until.fed.feeds.content in
      let before : judged bytes settings a.answer ≡ judged_now w = judged_first a.answer z.answer until.fed.feeds.kept a.keeps in
      let all : b ++ drop until.count piece ≡ bytes ++ piece = append_assoc bytes front (drop until.count piece) ∙ ap (λ (l : List ℕ). bytes ++ l) (take-append-drop until.count piece) in
      let gained : Appends (sink begun).written (sink during).written (content (judged_now w)) =
      subst (λ (c : List ℕ). Appends (sink begun).written (sink during).written c) (sym content_w) whole.taken.gained in
      let beyond : WritesBeyond (sink begun) (sink after) (content (judged bytes settings a.answer)) (content (judged b settings a.answer)) =
      subst (λ (c : List ℕ). WritesBeyond (sink begun) (sink after) (content (judged bytes settings a.answer)) c) (sym released)
      (subst (λ (c : List ℕ). WritesBeyond (sink begun) (sink after) c (content (judged_now w) ++ until.given)) (sym (ap content before))
      (beyond_after (sink begun) (sink during) (sink after) (content (judged_now w)) until.given until.some gained until.failed.front)) in (
        front_released asked input taken (sink begun) (sink after) bytes piece b (drop until.count piece) a.answer a.answered
            (subst (λ (l : List ℕ). Came input taken l) (sym all) came) faults all few
            (record { sound = sound_first a.answer z.answer until.fed.feeds.kept a.keeps; written = beyond }),
        omega (arith, until.failed.rose, whole.taken.faults),
      )

  -- the opener had found a fault before, and the output failed at what that left to be handed on
  late_fault : (fault : Fault) → FedShort state (FailsAtSome sink) now w piece (opens.Fault fault) mid new during after next
      → DecryptEnds asked input taken (sink begun) (sink after) (after ≡ begun) (errors.Outside outsides.SinkFault)
  late_fault fault short =
      let all : List ℕ = bytes ++ piece in
      let j = joined (FailsAtSome sink) (opens.Fault fault) short in
      let kept : Option Unlocking = (keeping v j.heard).answer in
      let a : Answered (answering_of (state first) (state new) now) settings given all (judged all settings (answer_kept kept)) kept =
      answered_kept (said_last (state first) (state new)) now settings given all kept (keeps_fault (FailsAtSome sink) fault short j kept refl) in
      let same : judged_all w piece short.heard ≡ judged all settings (answer_kept kept) =
      same_piece state now v bytes whole.given first mid new opener next piece whole.fed short.heard (opens.Fault fault ≡ opens.Memory) j in
      let on : (x : Unlocking) → w.answer ≡ Some x → kept ≡ Some x = λ x is. sym j.answer ∙ kept_on short.heard (opens.Fault fault ≡ opens.Memory) short.hears x is in
      let released : content (judged all settings a.answer) ≡ content (judged_now w) ++ short.given = ap content (a.same ∙ sym same) ∙ short.why.released in
      let before : judged bytes settings a.answer ≡ judged_now w = judged_first a.answer kept on a.keeps in
      let gained : Appends (sink begun).written (sink during).written (content (judged_now w)) =
      subst (λ (c : List ℕ). Appends (sink begun).written (sink during).written c) (sym content_w) whole.taken.gained in
      let beyond : WritesBeyond (sink begun) (sink after) (content (judged bytes settings a.answer)) (content (judged all settings a.answer)) =
      subst (λ (c : List ℕ). WritesBeyond (sink begun) (sink after) (content (judged bytes settings a.answer)) c) (sym released)
      (subst (λ (c : List ℕ). WritesBeyond (sink begun) (sink after) c (content (judged_now w) ++ short.given)) (sym (ap content before))
      (beyond_after (sink begun) (sink during) (sink after) (content (judged_now w)) short.given short.taken.0 gained short.taken.1.front)) in (
        record {
          bytes = all;
          answer = a.answer;
          came = came;
          faults = faults;
          answered = a.answered;
          last = record {
            before = bytes;
            piece = piece;
            all = refl;
            few = few;
            was = record { sound = sound_first a.answer kept on a.keeps; written = beyond };
          };
        },
        omega (arith, short.taken.1.rose, whole.taken.faults),
      )

  -- with any other error nothing was left to be handed on
  late_ends : (stop : OpenError) → FedShort state (FailsAtSome sink) now w piece stop mid new during after next
      → DecryptEnds asked input taken (sink begun) (sink after) (after ≡ begun) (errors.Outside outsides.SinkFault)
  late_ends (opens.Fault fault) short = late_fault fault short
  late_ends opens.KeyringFault short = absurd (omega (arith, short.taken.0, ap length short.why.1))
  late_ends opens.Memory short = absurd (omega (arith, short.taken.0, ap length short.why.1))
  late_ends opens.Stopped short = absurd short.why

  -- ---- whatever ended it

  pub feed_ends : (error : FeedError OpenError PutFailed) (named : DecryptError) → FeedsPiece state sink now w piece mid new during after next (Err error) → IsFeedCalled error named
      → DecryptEnds asked input taken (sink begun) (sink after) (after ≡ begun) named
  feed_ends (feeds.Receiver error) named stop is =
      subst (λ (e : DecryptError). DecryptEnds asked input taken (sink begun) (sink after) (after ≡ begun) e) (sym is)
      (elim stop [ inl until ↦ until_ends error until | inr late ↦ late_ends late.0 late.1 ])
  feed_ends (feeds.Machine opens.Stopped) named off is = absurd is
  feed_ends (feeds.Machine (opens.Fault fault)) named short is = short_ends (opens.Fault fault) named short is
  feed_ends (feeds.Machine opens.KeyringFault) named short is = short_ends opens.KeyringFault named short is
  feed_ends (feeds.Machine opens.Memory) named short is = short_ends opens.Memory named short is

  short_bears : (takes : O → O → List ℕ → Type 0) (error : OpenError) → FedShort state takes now w piece error mid new during after next → BearsOnce (state first) (state new) now
  short_bears takes error short = let j = joined takes error short in (served_in j.heard, j.bears)

  until_bears : (error : PutFailed) → FedUntil state (PutsFront sink) now w piece error mid new during after next → BearsOnce (state first) (state new) now
  until_bears error until =
      let j = joins state now v bytes (take until.count piece) whole.given first mid new opener whole.fed ⊥ until.fed.heard until.fed.hears until.fed.bears until.fed.unasked in
      (served_in j.heard, j.bears)

  pub feed_bears : (error : FeedError OpenError PutFailed) → FeedsPiece state sink now w piece mid new during after next (Err error) → BearsOnce (state first) (state new) now
  feed_bears (feeds.Receiver error) stop = elim stop [ inl until ↦ until_bears error until | inr late ↦ short_bears (FailsAtSome sink) late.0 late.1 ]
  feed_bears (feeds.Machine opens.Stopped) off = absurd (let no : true ≡ false = sym off.off ∙ whole.fed.feeds.goes.going in cc)
  feed_bears (feeds.Machine (opens.Fault fault)) short = short_bears (PutsAll sink) (opens.Fault fault) short
  feed_bears (feeds.Machine opens.KeyringFault) short = short_bears (PutsAll sink) opens.KeyringFault short
  feed_bears (feeds.Machine opens.Memory) short = short_bears (PutsAll sink) opens.Memory short

  -- ---- no header is whole in what came

  short_unasked : (takes : O → O → List ℕ → Type 0) (error : OpenError) → FedShort state takes now w piece error mid new during after next → head settings (bytes ++ piece) ≡ None → new ≡ first
  short_unasked takes error short none = (joined takes error short).unasked (none_asked settings given (bytes ++ piece) none)

  until_unasked : (error : PutFailed) → FedUntil state (PutsFront sink) now w piece error mid new during after next → head settings (bytes ++ piece) ≡ None → new ≡ first
  until_unasked error until none =
      let j = joins state now v bytes (take until.count piece) whole.given first mid new opener whole.fed ⊥ until.fed.heard until.fed.hears until.fed.bears until.fed.unasked in
      let b : List ℕ = bytes ++ take until.count piece in
      let all : b ++ drop until.count piece ≡ bytes ++ piece =
      append_assoc bytes (take until.count piece) (drop until.count piece) ∙ ap (λ (l : List ℕ). bytes ++ l) (take-append-drop until.count piece) in
      j.unasked (none_asked settings given b (headless_before settings b (drop until.count piece) (head settings b) refl (ap (λ (l : List ℕ). head settings l) all ∙ none)))

  pub feed_unasked : (error : FeedError OpenError PutFailed) → FeedsPiece state sink now w piece mid new during after next (Err error) → head settings (bytes ++ piece) ≡ None → new ≡ first
  feed_unasked (feeds.Receiver error) stop none = elim stop [ inl until ↦ until_unasked error until none | inr late ↦ short_unasked (FailsAtSome sink) late.0 late.1 none ]
  feed_unasked (feeds.Machine opens.Stopped) off none = absurd (let no : true ≡ false = sym off.off ∙ whole.fed.feeds.goes.going in cc)
  feed_unasked (feeds.Machine (opens.Fault fault)) short none = short_unasked (PutsAll sink) (opens.Fault fault) short none
  feed_unasked (feeds.Machine opens.KeyringFault) short none = short_unasked (PutsAll sink) opens.KeyringFault short none
  feed_unasked (feeds.Machine opens.Memory) short none = short_unasked (PutsAll sink) opens.Memory short none

-- a session that is fed isn't stopped
pub never_off : {M O : Type 0} (state : M → ManagerNow) (sink : O → SinkState) (now : ℕ) (w : OpeningValue) (piece : List ℕ) (mid new : M) (during after : O) (next : Opener)
    (error : FeedError OpenError PutFailed) → GoesOn w → FeedsPiece state sink now w piece mid new during after next (Err error) → error ≡ feeds.Machine opens.Stopped → ⊥
never_off state sink now w piece mid new during after next (feeds.Machine opens.Stopped) goes off is = let no : true ≡ false = sym off.off ∙ goes.going in cc
never_off state sink now w piece mid new during after next (feeds.Machine (opens.Fault fault)) goes off is = cc
never_off state sink now w piece mid new during after next (feeds.Machine opens.KeyringFault) goes off is = cc
never_off state sink now w piece mid new during after next (feeds.Machine opens.Memory) goes off is = cc
never_off state sink now w piece mid new during after next (feeds.Receiver error) goes off is = cc
