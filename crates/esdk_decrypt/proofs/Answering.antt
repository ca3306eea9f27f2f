-- The answer that a session keeps is the manager's to the header at the front of its bytes.
use Rattle.std.proofs.Common.{◌≡◌, ◌∙◌, ℕ, ◌≤◌, List, [], ◌++◌, length, min, true, false, Option, Some, None, refl, sym, ap, subst, arith, append_assoc, length-append}
use Rattle.std.proofs.lemmas.List.{take_min, take-append-le}
use Rattle.std.specs.Io.KnownBytes.{Appends}
use Rattle.std.specs.List.{concat}
use Rattle.std.specs.Prelude.{IfSome, option_map}
use Rattle.std.proofs.lemmas.List.Folds.{concat-append}
use Rattle.esdk_fields.specs.declared.faults.Fault.TheVariants.{Truncated}
use Rattle.esdk_fields.specs.Place.{Place, start, followed}
use Rattle.esdk_fields.specs.Reading.{Reading, Read, Refused, Wanting, value_of}
use Rattle.esdk_fields.proofs.Fronts.{value_stays}
use Rattle.esdk_base.specs.Streams.{SinkState, SourceState}
use Rattle.context_codec.specs.Context.{KeyValue}
use Rattle.header_codec.specs.declared.settings.Settings.{Settings}
use Rattle.header_codec.specs.Header.{HeaderValue}
use Rattle.header_codec.specs.Table.{HeaderFields, head, header}
use Rattle.header_codec.proofs.Order.{IsSequential-header}
use Rattle.keyring_trait.specs.declared.manager_errors.ManagerError.TheVariants.{KeyringFault}
use Rattle.keyring_trait.specs.Saying.{Saying}
use Rattle.keyring_trait.specs.Unlocking.{Unlocking, Refuses, Unlocks}
use Rattle.message_format.specs.Judgement.{Judged, content, header_of, judged}
use Rattle.message_format.proofs.Following.{header_stays, judged_goes_on, units_stay}
use Rattle.message_format.proofs.Judging.{judged_refused, judged_wanting}
use Rattle.stream_open.specs.Asking.{request_of}
use Rattle.body_format.specs.declared.verdicts.Verdict.{Verdict}
use Rattle.body_format.specs.declared.verdicts.Verdict.TheVariants.{Going, Whole, Faulty}
use Rattle.stream_open.specs.Feeding.{GoesOn, KeepsAnswer, header_in}
use Rattle.stream_open.specs.Session.{OpeningValue, answer_kept, is_faulty, judged_now}
use Rattle.whole_input.specs.Pieces.{most_piece}
use Rattle.whole_input.specs.Taken.{Came}
use Rattle.whole_input.specs.Written.{WritesBeyond}
use Rattle.esdk_decrypt.specs.Decrypt.{Answering, AnswersReading, AnswersRequest, AnswersTo, DecryptAsked, FailsReading, FailsTo, ReleasesBeyond, ReleasesFront, answers_at, fault_of}

-- ---- what is kept

-- An answer of the manager's to the header of these bytes, which is the one that is kept, where one is; with it the bytes are judged so.
pub record Answered (manager : Answering) (settings : Settings) (given : List KeyValue) (b : List ℕ) (j : Judged) (kept : Option Unlocking) : Type 0 where
  pub answer : Unlocking
  pub answered : AnswersTo manager settings given b answer
  pub same : judged b settings answer ≡ j
  pub keeps : IfSome kept (λ a. answer ≡ a)

answered_read : (manager : Answering) (settings : Settings) (given : List KeyValue) (b : List ℕ) (answer : Unlocking) (parts : HeaderFields) (p : Place) → header settings (start b) ≡ Read parts p
    → AnswersRequest manager (request_of given (header_of b parts)) answer → Answered manager settings given b (judged b settings answer) (Some answer)
answered_read manager settings given b answer parts p e answers = record {
  answer = answer;
  answered = subst (λ (r : Reading HeaderFields). AnswersReading manager given b r answer) (sym e) answers;
  same = refl;
  keeps = refl;
}

none_kept : (a : Unlocking) (kept : Option Unlocking) → kept ≡ None → IfSome kept (λ k. a ≡ k)
none_kept a kept none = subst (λ (o : Option Unlocking). IfSome o (λ k. a ≡ k)) (sym none) tt

answered_by : (manager : Saying) (now : ℕ) (settings : Settings) (given : List KeyValue) (b : List ℕ) (kept : Option Unlocking) (r : Reading HeaderFields) → header settings (start b) ≡ r
    → KeepsAnswer manager now given (option_map (header_of b) (value_of r)) kept → Answered (answers_at manager now) settings given b (judged b settings (answer_kept kept)) kept
answered_by manager now settings given b None (Read parts p) e keeps = absurd keeps
answered_by manager now settings given b (Some (Unlocks whole only key)) (Read parts p) e keeps = answered_read (answers_at manager now) settings given b (Unlocks whole only key) parts p e keeps
answered_by manager now settings given b (Some (Refuses fault)) (Read parts p) e keeps = answered_read (answers_at manager now) settings given b (Refuses fault) parts p e keeps
answered_by manager now settings given b kept (Refused fault at) e keeps = record {
  answer = Refuses fault;
  answered = subst (λ (r : Reading HeaderFields). AnswersReading (answers_at manager now) given b r (Refuses fault)) (sym e) refl;
  same = judged_refused b settings (Refuses fault) fault at e ∙ sym (judged_refused b settings (answer_kept kept) fault at e);
  keeps = none_kept (Refuses fault) kept keeps;
}
answered_by manager now settings given b kept Wanting e keeps = record {
  answer = Refuses Truncated;
  answered = subst (λ (r : Reading HeaderFields). AnswersReading (answers_at manager now) given b r (Refuses Truncated)) (sym e) refl;
  same = judged_wanting b settings (Refuses Truncated) e ∙ sym (judged_wanting b settings (answer_kept kept) e);
  keeps = none_kept (Refuses Truncated) kept keeps;
}

pub answered_kept : (manager : Saying) (now : ℕ) (settings : Settings) (given : List KeyValue) (b : List ℕ) (kept : Option Unlocking) → KeepsAnswer manager now given (header_in settings b) kept
    → Answered (answers_at manager now) settings given b (judged b settings (answer_kept kept)) kept
answered_kept manager now settings given b kept keeps = answered_by manager now settings given b kept (header settings (start b)) refl keeps

-- ---- a failure

fails_at : (manager : Answering) (given : List KeyValue) (b : List ℕ) (r : Reading HeaderFields) (parts : HeaderFields) → value_of r ≡ Some parts
    → manager.finds_none (request_of given (header_of b parts)) KeyringFault → FailsReading manager given b r
fails_at manager given b (Read other p) parts e failed = subst (λ (h : HeaderFields). manager.finds_none (request_of given (header_of b h)) KeyringFault) (sym (same e)) failed
  where
    same : Some other ≡ Some parts → other ≡ parts
    same e = cc
fails_at manager given b (Refused fault at) parts e failed = absurd (let no : None ≡ Some parts = e in cc)
fails_at manager given b Wanting parts e failed = absurd (let no : None ≡ Some parts = e in cc)

-- the manager failed about the header that is whole in these bytes
pub fails_whole : (manager : Answering) (settings : Settings) (given : List KeyValue) (b : List ℕ) (h : HeaderValue) (parts : HeaderFields) → value_of (header settings (start b)) ≡ Some parts → h ≡ header_of b parts
    → manager.finds_none (request_of given h) KeyringFault → FailsTo manager settings given b
fails_whole manager settings given b h parts whole is failed =
    fails_at manager given b (header settings (start b)) parts whole (subst (λ (g : HeaderValue). manager.finds_none (request_of given g) KeyringFault) is failed)

-- ---- no whole header

nothing_by : (settings : Settings) (b : List ℕ) (answer : Unlocking) (r : Reading HeaderFields) → header settings (start b) ≡ r → value_of r ≡ None → content (judged b settings answer) ≡ []
nothing_by settings b answer (Read parts p) e none = absurd (let no : Some parts ≡ None = none in cc)
nothing_by settings b answer (Refused fault at) e none = ap content (judged_refused b settings answer fault at e)
nothing_by settings b answer Wanting e none = ap content (judged_wanting b settings answer e)

-- nothing is released before a header is whole
pub nothing_unread : (settings : Settings) (b : List ℕ) (answer : Unlocking) → head settings b ≡ None → content (judged b settings answer) ≡ []
nothing_unread settings b answer none = nothing_by settings b answer (header settings (start b)) refl none

-- and no answer plays a part in how the bytes are judged
any_by : (settings : Settings) (b : List ℕ) (one other : Unlocking) (r : Reading HeaderFields) → header settings (start b) ≡ r → value_of r ≡ None → judged b settings one ≡ judged b settings other
any_by settings b one other (Read parts p) e none = absurd (let no : Some parts ≡ None = none in cc)
any_by settings b one other (Refused fault at) e none = judged_refused b settings one fault at e ∙ sym (judged_refused b settings other fault at e)
any_by settings b one other Wanting e none = judged_wanting b settings one e ∙ sym (judged_wanting b settings other e)

pub any_unread : (settings : Settings) (b : List ℕ) (one other : Unlocking) → head settings b ≡ None → judged b settings one ≡ judged b settings other
any_unread settings b one other none = any_by settings b one other (header settings (start b)) refl none

-- ---- no fault

pub sound_none : (verdict : Verdict) → is_faulty verdict ≡ false → fault_of verdict ≡ None
sound_none Going e = refl
sound_none Whole e = refl
sound_none (Faulty fault) e = absurd cc

-- a session that goes on and keeps no answer wants bytes of the header
wanting_by : (v : OpeningValue) (r : Reading HeaderFields) → header v.settings (start v.taken) ≡ r → GoesOn v → v.answer ≡ None → header v.settings (start v.taken) ≡ Wanting
wanting_by v (Read parts p) e goes none = absurd (let no : Some parts ≡ None = sym (ap value_of e) ∙ goes.unheard none in cc)
wanting_by v (Refused fault at) e goes none =
    absurd (let no : true ≡ false = sym (ap (λ (j : Judged). is_faulty j.verdict) (judged_refused v.taken v.settings (answer_kept v.answer) fault at e)) ∙ goes.sound in cc)
wanting_by v Wanting e goes none = e

pub still_wanting : (v : OpeningValue) → GoesOn v → v.answer ≡ None → header v.settings (start v.taken) ≡ Wanting
still_wanting v goes none = wanting_by v (header v.settings (start v.taken)) refl goes none

-- an answer that is the kept one, where one is kept, judges the bytes taken as they were judged
judged_by : (v : OpeningValue) (answer : Unlocking) (kept : Option Unlocking) → v.answer ≡ kept → GoesOn v → IfSome kept (λ a. answer ≡ a) → judged v.taken v.settings answer ≡ judged_now v
judged_by v answer None e goes is = any_unread v.settings v.taken answer (answer_kept v.answer) (goes.unheard e)
judged_by v answer (Some a) e goes is = ap (judged v.taken v.settings) (is ∙ sym (ap answer_kept e))

-- and so does one that is kept later
kept_then : (before after : Option Unlocking) (answer : Unlocking) → ((a : Unlocking) → before ≡ Some a → after ≡ Some a) → IfSome after (λ a. answer ≡ a) → IfSome before (λ a. answer ≡ a)
kept_then None after answer on is = tt
kept_then (Some a) after answer on is = subst (λ (o : Option Unlocking). IfSome o (λ k. answer ≡ k)) (on a refl) is

pub judged_before : (v : OpeningValue) (answer : Unlocking) (later : Option Unlocking) → GoesOn v → ((a : Unlocking) → v.answer ≡ Some a → later ≡ Some a) → IfSome later (λ a. answer ≡ a)
    → judged v.taken v.settings answer ≡ judged_now v
judged_before v answer later goes on is = judged_by v answer v.answer refl goes (kept_then v.answer later answer on is)

pub sound_before : (v : OpeningValue) (j : Judged) → GoesOn v → j ≡ judged_now v → fault_of j.verdict ≡ None
sound_before v j goes same = ap (λ (k : Judged). fault_of k.verdict) same ∙ sound_none (judged_now v).verdict goes.sound

-- ---- when more bytes follow

-- the answer to a header stays the answer
answers_on : (manager : Answering) (settings : Settings) (given : List KeyValue) (b more : List ℕ) (answer : Unlocking) (parts : HeaderFields) (p : Place) → header settings (start b) ≡ Read parts p
    → AnswersTo manager settings given b answer → AnswersTo manager settings given (b ++ more) answer
answers_on manager settings given b more answer parts p e answers =
    let on : header settings (start (b ++ more)) ≡ Read parts (followed p more) = value_stays (header settings) b more parts p (IsSequential-header settings) e in
    subst (λ (r : Reading HeaderFields). AnswersReading manager given (b ++ more) r answer) (sym on)
    (subst (λ (h : HeaderValue). AnswersRequest manager (request_of given h) answer) (sym (header_stays settings b more parts p e))
    (subst (λ (r : Reading HeaderFields). AnswersReading manager given b r answer) e answers))

-- and was it before
pub answers_before : (manager : Answering) (settings : Settings) (given : List KeyValue) (b more : List ℕ) (answer : Unlocking) (parts : HeaderFields) (p : Place) → header settings (start b) ≡ Read parts p
    → AnswersTo manager settings given (b ++ more) answer → AnswersTo manager settings given b answer
answers_before manager settings given b more answer parts p e answers =
    let on : header settings (start (b ++ more)) ≡ Read parts (followed p more) = value_stays (header settings) b more parts p (IsSequential-header settings) e in
    subst (λ (r : Reading HeaderFields). AnswersReading manager given b r answer) (sym e)
    (subst (λ (h : HeaderValue). AnswersRequest manager (request_of given h) answer) (header_stays settings b more parts p e)
    (subst (λ (r : Reading HeaderFields). AnswersReading manager given (b ++ more) r answer) on answers))

-- and what is released goes on
content_on : (settings : Settings) (b more : List ℕ) (answer : Unlocking) → (added : List ℕ) × (content (judged (b ++ more) settings answer) ≡ content (judged b settings answer) ++ added)
content_on settings b more answer =
    let on = units_stay (λ c. judged c settings answer) (judged_goes_on settings answer) b more in
    (concat on.0, ap concat on.1 ∙ concat-append (judged b settings answer).units on.0)

-- what was written beyond some bytes' content, while more were judged, when yet more follow
beyond_more : (output put : SinkState) (first all added : List ℕ) → WritesBeyond output put first all → WritesBeyond output put first (all ++ added)
beyond_more output put first all added writes = record {
  more = writes.more ++ added;
  some = omega (arith, writes.some, length-append writes.more added);
  is = ap (λ (b : List ℕ). b ++ added) writes.is ∙ append_assoc first writes.more added;
  count = min writes.count (length writes.more);
  gained = subst (λ (b : List ℕ). Appends output.written put.written (first ++ b))
      (sym (take_min writes.count writes.more) ∙ sym (take-append-le (min writes.count (length writes.more)) writes.more added (omega arith))) writes.gained;
}

-- what was written beyond what some bytes release, while others behind them were judged, when more follow
front_read : (asked : DecryptAsked) (input taken : SourceState) (output put : SinkState) (first piece b more : List ℕ) (answer : Unlocking) (parts : HeaderFields) (p : Place) → header asked.settings (start b) ≡ Read parts p
    → AnswersTo asked.manager asked.settings asked.given b answer → Came input taken (b ++ more) → taken.faults ≡ input.faults → b ++ more ≡ first ++ piece → length piece ≤ most_piece
    → ReleasesBeyond asked.settings answer output put b first → ReleasesFront asked input taken output put
front_read asked input taken output put first piece b more answer parts p e answered came faults all few beyond =
    let on = content_on asked.settings b more answer in
    record {
      bytes = b ++ more;
      answer = answer;
      came = came;
      faults = faults;
      answered = answers_on asked.manager asked.settings asked.given b more answer parts p e answered;
      last = record {
        before = first;
        piece = piece;
        all = all;
        few = few;
        was = record {
          sound = beyond.sound;
          written = subst (λ (c : List ℕ). WritesBeyond output put (content (judged first asked.settings answer)) c) (sym on.1)
              (beyond_more output put (content (judged first asked.settings answer)) (content (judged b asked.settings answer)) on.0 beyond.written);
        };
      };
    }

-- of bytes that release nothing nothing was written
none_beyond : (settings : Settings) (answer : Unlocking) (output put : SinkState) (b first : List ℕ) → ReleasesBeyond settings answer output put b first → content (judged b settings answer) ≡ [] → ⊥
none_beyond settings answer output put b first beyond none =
    let first_content : List ℕ = content (judged first settings answer) in
    omega (arith, beyond.written.some, ap length (sym none ∙ beyond.written.is), length-append first_content beyond.written.more)

front_by : (asked : DecryptAsked) (input taken : SourceState) (output put : SinkState) (first piece b more : List ℕ) (answer : Unlocking) (r : Reading HeaderFields) → header asked.settings (start b) ≡ r
    → AnswersTo asked.manager asked.settings asked.given b answer → Came input taken (b ++ more) → taken.faults ≡ input.faults → b ++ more ≡ first ++ piece → length piece ≤ most_piece
    → ReleasesBeyond asked.settings answer output put b first → ReleasesFront asked input taken output put
front_by asked input taken output put first piece b more answer (Read parts p) e answered came faults all few beyond =
    front_read asked input taken output put first piece b more answer parts p e answered came faults all few beyond
front_by asked input taken output put first piece b more answer (Refused fault at) e answered came faults all few beyond =
    absurd (none_beyond asked.settings answer output put b first beyond (nothing_by asked.settings b answer (Refused fault at) e refl))
front_by asked input taken output put first piece b more answer Wanting e answered came faults all few beyond =
    absurd (none_beyond asked.settings answer output put b first beyond (nothing_by asked.settings b answer Wanting e refl))

pub front_released : (asked : DecryptAsked) (input taken : SourceState) (output put : SinkState) (first piece b more : List ℕ) (answer : Unlocking)
    → AnswersTo asked.manager asked.settings asked.given b answer → Came input taken (b ++ more) → taken.faults ≡ input.faults → b ++ more ≡ first ++ piece → length piece ≤ most_piece
    → ReleasesBeyond asked.settings answer output put b first → ReleasesFront asked input taken output put
front_released asked input taken output put first piece b more answer answered came faults all few beyond =
    front_by asked input taken output put first piece b more answer (header asked.settings (start b)) refl answered came faults all few beyond
