-- What an extraction comes to, once the file's header is known and the manager was asked about it.
use Rattle.std.proofs.Common.{◌≡◌, ℕ, ◌+◌, ◌-◌, ◌≤◌, Bool, true, false, List, length, drop, Option, Some, None, Result, Ok, Err, IfOk, IfErr, refl, sym, ap, subst, ◌∙◌, arith, inl, inr, mul-le-mul_right}
use Rattle.std.specs.Prelude.{◌==◌, if◌then◌else◌}
use Rattle.esdk_base.specs.Sink.{AppendsFront}
use Rattle.std.specs.Io.KnownBytes.{Appends}
use Rattle.std.proofs.KnownBytes.{Appends-nil}
use Rattle.esdk_fields.specs.declared.faults.Fault.{Fault}
use Rattle.esdk_fields.specs.declared.faults.Fault.TheVariants.{Truncated}
use Rattle.esdk_fields.specs.declared.refusals.Outside.TheVariants as outsides
use Rattle.esdk_fields.specs.Place.{start}
use Rattle.esdk_fields.specs.Reading.{Reading, Read, Refused, Wanting}
use Rattle.esdk_fields.proofs.Fronts.{left_is}
use Rattle.esdk_base.specs.Shelf.{is_missing}
use Rattle.esdk_base.specs.Streams.{ShelfState, SinkState}
use Rattle.context_codec.specs.Context.{KeyValue}
use Rattle.header_codec.specs.declared.settings.Settings.{Settings}
use Rattle.header_codec.specs.Header.{HeaderValue}
use Rattle.header_codec.specs.Table.{HeaderFields, header}
use Rattle.header_codec.proofs.Order.{IsSequential-header}
use Rattle.suite_table.specs.Keys.{derived}
use Rattle.keyring_trait.specs.Manager.{ManagerNow}
use Rattle.keyring_trait.specs.Unlocking.{Unlocking, Refuses, Unlocks}
use Rattle.message_format.specs.declared.unlock_errors.UnlockError.{UnlockError}
use Rattle.message_format.specs.declared.unlock_errors.UnlockError.TheVariants as locks
use Rattle.message_format.specs.declared.unlocking.Unlocked.{Unlocked}
use Rattle.message_format.specs.Judgement.{header_of, lock_fault}
use Rattle.message_format.specs.Unlocking.{IsUnlocked, StaysLocked, request_of}
use Rattle.message_format.proofs.WrittenHeads.{header_found}
use Rattle.esdk_decrypt.specs.Decrypt.{Answering, AnswersReading, AnswersRequest, AnswersTo, DecryptAsked, asked_from}
use Rattle.esdk_decrypt.specs.Underway.{BearsOnce}
use Rattle.extract_core.specs.declared.errors.ExtractError.{ExtractError}
use Rattle.extract_core.specs.declared.errors.ExtractError.TheVariants as errors
use Rattle.extract_core.specs.declared.slots.Slots.{Slots}
use Rattle.extract_core.specs.Extracted.{ByteRange, Extraction, OpenBody, body_behind, extracted, extracted_body, extracted_header, extracted_lock, extracted_reading, nothing, slot_count, slot_width, slots_taken}
use Rattle.extract_core.specs.Extract.{ExtractEnds, Extracts, HasHeader, HasNoHeader, IsHeaderOf, OnFile, WritesBefore, ExtractWritesFront, WritesLess, answer_reach, body_begin, header_fault_at_end, header_reach, lock_reach, extract_locked_as, most_header, most_read, most_bytes_read, named_reach, taken_reach}
use Rattle.extract_core.specs.Slots.{AreSlotsOf, OnBody, RangeFails, WritesRange, body_in, range_reach, slots_reach}
use Rattle.extract_core.proofs.Definition.{taken_most}
use Rattle.extract_core.proofs.Taking.{fails_from}
use Rattle.whole_input.specs.FileReads.{Grows, IsSeenAs}
use Rattle.whole_input.specs.Pieces.{most_piece}
use Rattle.whole_input.proofs.Agreeing.{seen_first, seen_second}

-- ---- the header that stands at the front

pub head_is : (settings : Settings) (h : HeaderValue) (b : List ℕ) (is : IsHeaderOf settings h b) → header_of b is.begins.parts ≡ h
head_is settings h b is = header_found settings b h is.end is.begins

-- where the manager's answer to the header is known
pub answers_of : (manager : Answering) (settings : Settings) (given : List KeyValue) (b : List ℕ) (h : HeaderValue) (answer : Unlocking) → IsHeaderOf settings h b → AnswersRequest manager (request_of given h) answer
    → AnswersTo manager settings given b answer
answers_of manager settings given b h answer is answers =
    subst (λ (r : Reading HeaderFields). AnswersReading manager given b r answer) (sym is.begins.read)
    (subst (λ (x : HeaderValue). AnswersRequest manager (request_of given x) answer) (sym (head_is settings h b is)) answers)

-- ---- what is extracted

extracted_is : (b : List ℕ) (settings : Settings) (answer : Unlocking) (range : ByteRange) (r : Reading HeaderFields) → header settings (start b) ≡ r → extracted b settings answer range ≡ extracted_reading b settings answer range r
unfolding extracted
extracted_is b settings answer range r e = ap (extracted_reading b settings answer range) e

of_header : (b : List ℕ) (settings : Settings) (answer : Unlocking) (range : ByteRange) (h : HeaderValue) (is : IsHeaderOf settings h b) → extracted b settings answer range ≡ extracted_header settings range h is.end answer
of_header b settings answer range h is =
    extracted_is b settings answer range (Read is.begins.parts is.end) is.begins.read ∙ ap (λ (x : HeaderValue). extracted_header settings range x is.end answer) (head_is settings h b is)

pub body_left : (b : List ℕ) (settings : Settings) (h : HeaderValue) (is : IsHeaderOf settings h b) → is.end.left ≡ drop (body_begin h) b
body_left b settings h is =
    left_is (header settings) (start b) is.begins.parts is.end (IsSequential-header settings) is.begins.read ∙ ap (λ (n : ℕ). drop n b) (omega (arith, is.begin))

pub extracted_open : (b : List ℕ) (settings : Settings) (whole only : List KeyValue) (key : List ℕ) (range : ByteRange) (h : HeaderValue) → IsHeaderOf settings h b → lock_fault h only key ≡ None
    → extracted b settings (Unlocks whole only key) range ≡ extracted_body (body_behind settings h key (drop (body_begin h) b)) range
extracted_open b settings whole only key range h is sound =
    of_header b settings (Unlocks whole only key) range h is
    ∙ ap (extracted_lock range (body_behind settings h key is.end.left)) sound
    ∙ ap (λ (l : List ℕ). extracted_body (body_behind settings h key l) range) (body_left b settings h is)

pub extracted_closed : (b : List ℕ) (settings : Settings) (whole only : List KeyValue) (key : List ℕ) (range : ByteRange) (h : HeaderValue) (fault : Fault) → IsHeaderOf settings h b → lock_fault h only key ≡ Some fault
    → extracted b settings (Unlocks whole only key) range ≡ nothing (Some fault)
extracted_closed b settings whole only key range h fault is closed =
    of_header b settings (Unlocks whole only key) range h is ∙ ap (extracted_lock range (body_behind settings h key is.end.left)) closed

pub extracted_refused : (b : List ℕ) (settings : Settings) (fault : Fault) (range : ByteRange) (h : HeaderValue) → IsHeaderOf settings h b → extracted b settings (Refuses fault) range ≡ nothing (Some fault)
extracted_refused b settings fault range h is = of_header b settings (Refuses fault) range h is

-- of bytes without a header
headless : (b : List ℕ) (settings : Settings) (range : ByteRange) (fault : Fault) (r : Reading HeaderFields) → header_fault_at_end r ≡ Some fault → extracted_reading b settings (Refuses fault) range r ≡ nothing (Some fault)
headless b settings range fault (Read parts end) e = absurd cc
headless b settings range fault (Refused other at) e = ap nothing e
headless b settings range fault Wanting e = ap nothing e

headless_answer : (manager : Answering) (given : List KeyValue) (b : List ℕ) (fault : Fault) (r : Reading HeaderFields) → header_fault_at_end r ≡ Some fault → AnswersReading manager given b r (Refuses fault)
headless_answer manager given b fault (Read parts end) e = absurd cc
headless_answer manager given b fault (Refused other at) e = let same : other ≡ fault = cc in ap Refuses (sym same)
headless_answer manager given b fault Wanting e = let same : Truncated ≡ fault = cc in ap Refuses (sym same)

-- ---- how much is read

-- what is read for the header is within what is read of the slots that are taken, and of those that the range names
header_within : (settings : Settings) (range : ByteRange) (b : List ℕ) (answer : Unlocking) → most_header settings b ≤ most_bytes_read b settings answer range
unfolding most_bytes_read
header_within settings range b answer = omega arith

-- where a header is read, up to a piece behind it is
header_read : (settings : Settings) (old mid : ShelfState) (name : List ℕ) (h : HeaderValue) → HasHeader settings old mid name h → OnFile old mid name (λ b. mid.given ≤ old.given + most_header settings b)
header_read settings old mid name h has = λ b held.
    let is = has.is b held in
    omega (arith, has.given, is.begin, ap (header_reach b) is.begins.read)

taken_is : (b : List ℕ) (settings : Settings) (answer : Unlocking) (range : ByteRange) (r : Reading HeaderFields) → header settings (start b) ≡ r → most_bytes_read b settings answer range ≡ header_reach b r + taken_reach b settings answer range r
unfolding most_bytes_read
taken_is b settings answer range r e = ap (λ (r : Reading HeaderFields). header_reach b r + taken_reach b settings answer range r) e

-- where it is unlocked, the slots that are taken are read behind it
taken_open : (b : List ℕ) (settings : Settings) (whole only : List KeyValue) (key : List ℕ) (range : ByteRange) (h : HeaderValue) → IsHeaderOf settings h b → lock_fault h only key ≡ None
    → most_bytes_read b settings (Unlocks whole only key) range ≡ body_begin h + most_piece + range_reach (body_behind settings h key (drop (body_begin h) b)) range
taken_open b settings whole only key range h is sound =
    taken_is b settings (Unlocks whole only key) range (Read is.begins.parts is.end) is.begins.read
    ∙ ap (λ (x : HeaderValue). is.end.at + most_piece + answer_reach settings range x is.end (Unlocks whole only key)) (head_is settings h b is)
    ∙ ap (λ (f : Option Fault). is.end.at + most_piece + lock_reach range (body_behind settings h key is.end.left) f) sound
    ∙ ap (λ (l : List ℕ). is.end.at + most_piece + range_reach (body_behind settings h key l) range) (body_left b settings h is)
    ∙ ap (λ (n : ℕ). n + most_piece + range_reach (body_behind settings h key (drop (body_begin h) b)) range) is.begin

-- nothing is written, and this fault ends it
ends_empty : (asked : DecryptAsked) (range : ByteRange) (old new : ShelfState) (output : SinkState) (fault : Fault) (b : List ℕ) (answer : Unlocking) → AnswersTo asked.manager asked.settings asked.given b answer
    → extracted b asked.settings answer range ≡ nothing (Some fault) → new.given ≤ old.given + most_header asked.settings b → WritesBefore asked range old new output output fault b
ends_empty asked range old new output fault b answer answers is read = record {
  answer = answer;
  answered = answers;
  fault_is = ap (λ (x : Extraction). x.fault) is;
  gained = subst (Appends output.written output.written) (sym (ap (λ (x : Extraction). x.part) is)) (Appends-nil output.written);
  read = omega (arith, read, header_within asked.settings range b answer);
}

-- nothing is written
pub writes_none : (asked : DecryptAsked) (range : ByteRange) (old new : ShelfState) (name : List ℕ) (output put : SinkState) (unwritten : Type 0) → unwritten → WritesLess asked range old new name output put unwritten
writes_none asked range old new name output put unwritten same = record { front = inl same; missing = λ missing. same }

-- ---- no header came

pub without_header : (asked : DecryptAsked) (range : ByteRange) (old new : ShelfState) (name : List ℕ) (output : SinkState) (unwritten : Type 0) (error : ExtractError) → unwritten
    → HasNoHeader asked.settings old new name error → OnFile old new name (λ b. new.given ≤ old.given + most_header asked.settings b) → ExtractEnds asked range old new name output output unwritten error
without_header asked range old new name output unwritten (errors.Fault fault) same none given = record {
  there = none.0;
  faults = none.1;
  writes = λ b h. ends_empty asked range old new output fault b (Refuses fault)
      (headless_answer asked.manager asked.given b fault (header asked.settings (start b)) (none.2 b h))
      (extracted_is b asked.settings (Refuses fault) range (header asked.settings (start b)) refl ∙ headless b asked.settings range fault (header asked.settings (start b)) (none.2 b h)) (given b h);
}
without_header asked range old new name output unwritten (errors.Outside outsides.SourceFault) same none given = absurd none
without_header asked range old new name output unwritten (errors.Outside outsides.SinkFault) same none given = absurd none
without_header asked range old new name output unwritten (errors.Outside outsides.ShelfFault) same none given = (none, writes_none asked range old new name output output unwritten same)
without_header asked range old new name output unwritten (errors.Outside outsides.EntropyFault) same none given = absurd none
without_header asked range old new name output unwritten (errors.Outside outsides.KeyringFault) same none given = absurd none
without_header asked range old new name output unwritten (errors.Outside outsides.InputTooLong) same none given = absurd none
without_header asked range old new name output unwritten errors.Memory same none given = (none, writes_none asked range old new name output output unwritten same)

-- what is read for the header is within what is read at the most
pub given_less : (settings : Settings) (range : ByteRange) (old new : ShelfState) (name : List ℕ)
    → OnFile old new name (λ b. new.given ≤ old.given + most_header settings b) → OnFile old new name (λ b. new.given ≤ old.given + most_read settings range b)
given_less settings range old new name given = λ b h. omega (arith, given b h)

-- ---- the header stays locked

pub stays_locked : (old_m new_m : ManagerNow) (now : ℕ) (settings : Settings) (given : List KeyValue) (range : ByteRange) (old mid : ShelfState) (name : List ℕ) (output : SinkState) (unwritten : Type 0) (h : HeaderValue) (error : UnlockError)
    → unwritten → HasHeader settings old mid name h → StaysLocked old_m new_m now given h error → ExtractEnds (asked_from old_m new_m now settings given) range old mid name output output unwritten (extract_locked_as error)
stays_locked old_m new_m now settings given range old mid name output unwritten h (locks.Fault fault) same has (inl named) = record {
  there = has.there;
  faults = has.faults;
  writes = λ b held. ends_empty (asked_from old_m new_m now settings given) range old mid output fault b (Refuses fault)
      (answers_of (asked_from old_m new_m now settings given).manager settings given b h (Refuses fault) (has.is b held) named.0)
      (extracted_refused b settings fault range h (has.is b held)) (header_read settings old mid name h has b held);
}
stays_locked old_m new_m now settings given range old mid name output unwritten h (locks.Fault fault) same has (inr closed) = record {
  there = has.there;
  faults = has.faults;
  writes = λ b held.
      let m = closed.materials in
      ends_empty (asked_from old_m new_m now settings given) range old mid output fault b (Unlocks m.context m.only m.key)
      (answers_of (asked_from old_m new_m now settings given).manager settings given b h (Unlocks m.context m.only m.key) (has.is b held) (m.served, closed.answered.found))
      (extracted_closed b settings m.context m.only m.key range h fault (has.is b held) closed.closed) (header_read settings old mid name h has b held);
}
stays_locked old_m new_m now settings given range old mid name output unwritten h locks.KeyringFault same has failed = record {
  header = h;
  has = has;
  failed = failed.0;
  same = same;
}
stays_locked old_m new_m now settings given range old mid name output unwritten h locks.Memory same has memory = (has.faults, writes_none (asked_from old_m new_m now settings given) range old mid name output output unwritten same)

pub bears_locked : (old_m new_m : ManagerNow) (now : ℕ) (given : List KeyValue) (h : HeaderValue) (error : UnlockError) → StaysLocked old_m new_m now given h error → BearsOnce old_m new_m now
bears_locked old_m new_m now given h (locks.Fault fault) (inl named) = (None, named.1)
bears_locked old_m new_m now given h (locks.Fault fault) (inr closed) = (Some closed.materials.served, closed.answered.bears)
bears_locked old_m new_m now given h locks.KeyringFault failed = (None, failed.1)
bears_locked old_m new_m now given h locks.Memory memory = memory

-- how much is read where no slot is
pub header_given : (settings : Settings) (range : ByteRange) (old mid : ShelfState) (name : List ℕ) (h : HeaderValue) → HasHeader settings old mid name h
    → OnFile old mid name (λ b. mid.given ≤ old.given + most_read settings range b)
header_given settings range old mid name h has = λ b held. omega (arith, header_read settings old mid name h has b held)

-- ---- the header is unlocked

-- the slots are those of the body that is judged
body_same : (old_m new_m : ManagerNow) (now : ℕ) (settings : Settings) (given : List KeyValue) (h : HeaderValue) (opened : Unlocked) (begin : ℕ) (s : Slots) (b : List ℕ) (u : IsUnlocked old_m new_m now given h opened)
    → AreSlotsOf opened begin settings.max_unit s → begin ≡ body_begin h → body_in s b ≡ body_behind settings h u.materials.key (drop (body_begin h) b)
body_same old_m new_m now settings given h opened begin s b u slots at =
    let content : s.content ≡ h.content = slots.content ∙ ap (λ (l : HeaderValue). l.content) u.opens.lock_is in
    let id : s.message_id ≡ h.message_id = slots.id ∙ ap (λ (l : HeaderValue). l.message_id) u.opens.lock_is in
    let key : s.key ≡ derived h.suite u.materials.key h.message_id = slots.key ∙ u.opens.key in
    let first : s.begin ≡ body_begin h = slots.first ∙ at in
    rw (content, slots.limit, key, id, first) refl

-- What the run has, once the header is unlocked.
pub record IsOpen (old_m new_m : ManagerNow) (now : ℕ) (settings : Settings) (given : List KeyValue) (old mid after : ShelfState) (name : List ℕ) (s : Slots) : Type 0 where
  pub h : HeaderValue
  pub opened : Unlocked
  pub begin : ℕ
  pub has : HasHeader settings old mid name h
  pub files : mid.files ≡ old.files
  pub grown : Grows old.calls mid.calls
  pub later : Grows mid.calls after.calls
  pub unlocked : IsUnlocked old_m new_m now given h opened
  pub slots : AreSlotsOf opened begin settings.max_unit s
  pub at : begin ≡ body_begin h

answer_in : (old_m new_m : ManagerNow) (now : ℕ) (settings : Settings) (given : List KeyValue) (old mid after : ShelfState) (name : List ℕ) (s : Slots) → IsOpen old_m new_m now settings given old mid after name s → Unlocking
answer_in old_m new_m now settings given old mid after name s o = Unlocks o.unlocked.materials.context o.unlocked.materials.only o.unlocked.materials.key

open_answers : (old_m new_m : ManagerNow) (now : ℕ) (settings : Settings) (given : List KeyValue) (old mid after : ShelfState) (name : List ℕ) (s : Slots) (o : IsOpen old_m new_m now settings given old mid after name s) (b : List ℕ)
    → IsSeenAs old mid name b
    → AnswersTo (asked_from old_m new_m now settings given).manager settings given b (Unlocks o.unlocked.materials.context o.unlocked.materials.only o.unlocked.materials.key)
open_answers old_m new_m now settings given old mid after name s o b held =
    let m = o.unlocked.materials in
    answers_of (asked_from old_m new_m now settings given).manager settings given b o.h (Unlocks m.context m.only m.key) (o.has.is b held) (m.served, o.unlocked.answered.found)

open_extracts : (old_m new_m : ManagerNow) (now : ℕ) (settings : Settings) (given : List KeyValue) (old mid after : ShelfState) (name : List ℕ) (s : Slots) (range : ByteRange) (o : IsOpen old_m new_m now settings given old mid after name s) (b : List ℕ)
    → IsSeenAs old mid name b
    → extracted b settings (Unlocks o.unlocked.materials.context o.unlocked.materials.only o.unlocked.materials.key) range ≡ extracted_body (body_in s b) range
open_extracts old_m new_m now settings given old mid after name s range o b held =
    let m = o.unlocked.materials in
    extracted_open b settings m.context m.only m.key range o.h (o.has.is b held) o.unlocked.sound
    ∙ ap (λ (x : OpenBody). extracted_body x range) (sym (body_same old_m new_m now settings given o.h o.opened o.begin s b o.unlocked o.slots o.at))

-- how much is read, by what is read of the body
open_reads : (old_m new_m : ManagerNow) (now : ℕ) (settings : Settings) (given : List KeyValue) (old mid after : ShelfState) (name : List ℕ) (s : Slots) (range : ByteRange) (o : IsOpen old_m new_m now settings given old mid after name s)
    → OnBody s mid after name (λ b. after.given ≤ mid.given + range_reach b range)
    → OnFile old after name (λ b. after.given ≤ old.given + most_bytes_read b settings (Unlocks o.unlocked.materials.context o.unlocked.materials.only o.unlocked.materials.key) range)
open_reads old_m new_m now settings given old mid after name s range o read = λ b held.
    let m = o.unlocked.materials in
    let all = taken_open b settings m.context m.only m.key range o.h (o.has.is b (seen_first old mid after name b o.grown o.later held)) o.unlocked.sound in
    let same = ap (λ (x : OpenBody). range_reach x range) (body_same old_m new_m now settings given o.h o.opened o.begin s b o.unlocked o.slots o.at) in
    omega (arith, read b (seen_second old mid after name b o.files o.grown o.later held), o.has.given, all, same)

pub extracts_all : (old_m new_m : ManagerNow) (now : ℕ) (settings : Settings) (given : List KeyValue) (old mid after : ShelfState) (name : List ℕ) (s : Slots) (range : ByteRange) (output put : SinkState) (r : Result ℕ ExtractError)
    → IsOpen old_m new_m now settings given old mid after name s → IfOk r (λ written. OnBody s mid after name (λ b. WritesRange b range output put written)) → OnBody s mid after name (λ b. after.given ≤ mid.given + range_reach b range)
    → IfOk r (Extracts (asked_from old_m new_m now settings given) range old after name output put)
extracts_all old_m new_m now settings given old mid after name s range output put (Ok written) o wrote read = record {
  there = o.has.there;
  writes = λ b held.
      let w = wrote b (seen_second old mid after name b o.files o.grown o.later held) in
      let is = open_extracts old_m new_m now settings given old mid after name s range o b (seen_first old mid after name b o.grown o.later held) in
      record {
        answer = Unlocks o.unlocked.materials.context o.unlocked.materials.only o.unlocked.materials.key;
        answered = open_answers old_m new_m now settings given old mid after name s o b (seen_first old mid after name b o.grown o.later held);
        sound = ap (λ (x : Extraction). x.fault) is ∙ w.fault;
        gained = subst (Appends output.written put.written) (sym (ap (λ (x : Extraction). x.part) is)) w.gained;
        count = w.count ∙ sym (ap (λ (x : Extraction). length x.part) is);
        read = open_reads old_m new_m now settings given old mid after name s range o read b held;
      };
}
extracts_all old_m new_m now settings given old mid after name s range output put (Err error) o wrote read = tt

-- a front of the range was written
writes_front : (old_m new_m : ManagerNow) (now : ℕ) (settings : Settings) (given : List KeyValue) (old mid after : ShelfState) (name : List ℕ) (s : Slots) (range : ByteRange) (output put : SinkState)
    → IsOpen old_m new_m now settings given old mid after name s → OnBody s mid after name (λ b. AppendsFront output.written put.written (extracted_body b range).part) → OnBody s mid after name (λ b. after.given ≤ mid.given + range_reach b range)
    → OnFile old after name (ExtractWritesFront (asked_from old_m new_m now settings given) range old after output put)
writes_front old_m new_m now settings given old mid after name s range output put o front read = λ b held. record {
  answer = Unlocks o.unlocked.materials.context o.unlocked.materials.only o.unlocked.materials.key;
  answered = open_answers old_m new_m now settings given old mid after name s o b (seen_first old mid after name b o.grown o.later held);
  gained = subst (AppendsFront output.written put.written) (sym (ap (λ (x : Extraction). x.part) (open_extracts old_m new_m now settings given old mid after name s range o b (seen_first old mid after name b o.grown o.later held))))
      (front b (seen_second old mid after name b o.files o.grown o.later held));
  read = open_reads old_m new_m now settings given old mid after name s range o read b held;
}

is_there : (b : Bool) (so : Type 0) → b ≡ false → b ≡ true → so
is_there true so here lost = absurd cc
is_there false so here lost = absurd cc

-- the file is there, and a front of the range was written
writes_some : (old_m new_m : ManagerNow) (now : ℕ) (settings : Settings) (given : List KeyValue) (old mid after : ShelfState) (name : List ℕ) (s : Slots) (range : ByteRange) (output put : SinkState) (unwritten : Type 0)
    → IsOpen old_m new_m now settings given old mid after name s → OnBody s mid after name (λ b. AppendsFront output.written put.written (extracted_body b range).part) → OnBody s mid after name (λ b. after.given ≤ mid.given + range_reach b range)
    → WritesLess (asked_from old_m new_m now settings given) range old after name output put unwritten
writes_some old_m new_m now settings given old mid after name s range output put unwritten o front read = record {
  front = inr (writes_front old_m new_m now settings given old mid after name s range output put o front read);
  missing = is_there (is_missing old.files name) unwritten o.has.there;
}

range_ends : (old_m new_m : ManagerNow) (now : ℕ) (settings : Settings) (given : List KeyValue) (old mid after : ShelfState) (name : List ℕ) (s : Slots) (range : ByteRange) (output put : SinkState) (unwritten : Type 0) (error : ExtractError)
    → IsOpen old_m new_m now settings given old mid after name s → RangeFails s range mid after name output put error → OnBody s mid after name (λ b. after.given ≤ mid.given + range_reach b range)
    → ExtractEnds (asked_from old_m new_m now settings given) range old after name output put unwritten error
range_ends old_m new_m now settings given old mid after name s range output put unwritten (errors.Fault fault) o fails read = record {
  there = o.has.there;
  faults = fails.0 ∙ o.has.faults;
  writes = λ b held.
      let w = fails.1 b (seen_second old mid after name b o.files o.grown o.later held) in
      let is = open_extracts old_m new_m now settings given old mid after name s range o b (seen_first old mid after name b o.grown o.later held) in
      record {
        answer = Unlocks o.unlocked.materials.context o.unlocked.materials.only o.unlocked.materials.key;
        answered = open_answers old_m new_m now settings given old mid after name s o b (seen_first old mid after name b o.grown o.later held);
        fault_is = ap (λ (x : Extraction). x.fault) is ∙ w.fault_is;
        gained = subst (Appends output.written put.written) (sym (ap (λ (x : Extraction). x.part) is)) w.gained;
        read = open_reads old_m new_m now settings given old mid after name s range o read b held;
      };
}
range_ends old_m new_m now settings given old mid after name s range output put unwritten (errors.Outside outsides.SourceFault) o fails read = absurd fails
range_ends old_m new_m now settings given old mid after name s range output put unwritten (errors.Outside outsides.SinkFault) o fails read =
    record { there = o.has.there; faults = fails.0 ∙ o.has.faults; rose = fails.1; writes = writes_front old_m new_m now settings given old mid after name s range output put o fails.2 read }
range_ends old_m new_m now settings given old mid after name s range output put unwritten (errors.Outside outsides.ShelfFault) o fails read =
    (fails_from old mid after name o.files o.has.faults fails.0, writes_some old_m new_m now settings given old mid after name s range output put unwritten o fails.1 read)
range_ends old_m new_m now settings given old mid after name s range output put unwritten (errors.Outside outsides.EntropyFault) o fails read = absurd fails
range_ends old_m new_m now settings given old mid after name s range output put unwritten (errors.Outside outsides.KeyringFault) o fails read = absurd fails
range_ends old_m new_m now settings given old mid after name s range output put unwritten (errors.Outside outsides.InputTooLong) o fails read = absurd fails
range_ends old_m new_m now settings given old mid after name s range output put unwritten errors.Memory o fails read =
    (fails.0 ∙ o.has.faults, writes_some old_m new_m now settings given old mid after name s range output put unwritten o fails.1 read)

pub extract_ends : (old_m new_m : ManagerNow) (now : ℕ) (settings : Settings) (given : List KeyValue) (old mid after : ShelfState) (name : List ℕ) (s : Slots) (range : ByteRange) (output put : SinkState) (unwritten : Type 0) (r : Result ℕ ExtractError)
    → IsOpen old_m new_m now settings given old mid after name s → IfErr r (RangeFails s range mid after name output put) → OnBody s mid after name (λ b. after.given ≤ mid.given + range_reach b range)
    → IfErr r (ExtractEnds (asked_from old_m new_m now settings given) range old after name output put unwritten)
extract_ends old_m new_m now settings given old mid after name s range output put unwritten (Ok written) o fails read = tt
extract_ends old_m new_m now settings given old mid after name s range output put unwritten (Err error) o fails read =
    range_ends old_m new_m now settings given old mid after name s range output put unwritten error o fails read

-- ---- how much is read

-- the slots that are taken are among those that the range names
reach_named : (b : OpenBody) (range : ByteRange) → range_reach b range ≤ slots_reach b.content b.max_unit range b.bytes (slot_count b.content range)
reach_named b range =
    let most = taken_most b range in
    let fewer : slots_taken b range - 1 ≤ slot_count b.content range - 1 = omega (arith, most) in
    less (range.count == 0) (omega (arith, mul-le-mul_right (slot_width b.content) fewer))
  where
    less : {m n : ℕ} (empty : Bool) → m ≤ n → (if empty then 0 else m) ≤ (if empty then 0 else n)
    less true few = omega arith
    less false few = few

pub extract_given : (old_m new_m : ManagerNow) (now : ℕ) (settings : Settings) (given : List KeyValue) (old mid after : ShelfState) (name : List ℕ) (s : Slots) (range : ByteRange)
    → IsOpen old_m new_m now settings given old mid after name s → OnBody s mid after name (λ b. after.given ≤ mid.given + range_reach b range)
    → OnFile old after name (λ b. after.given ≤ old.given + most_read settings range b)
extract_given old_m new_m now settings given old mid after name s range o read = λ b held.
    let is = o.has.is b (seen_first old mid after name b o.grown o.later held) in
    let more = read b (seen_second old mid after name b o.files o.grown o.later held) in
    let content : s.content ≡ is.begins.parts.content = o.slots.content ∙ ap (λ (l : HeaderValue). l.content) o.unlocked.opens.lock_is ∙ ap (λ (x : HeaderValue). x.content) (sym (head_is settings o.h b is)) in
    let left : drop s.begin b ≡ is.end.left = ap (λ (n : ℕ). drop n b) (o.slots.first ∙ o.at) ∙ sym (body_left b settings o.h is) in
    let reach : slots_reach s.content s.max_unit range (drop s.begin b) (slot_count s.content range) ≡ named_reach settings range (Read is.begins.parts is.end) = rw (content, left, o.slots.limit) refl in
    let named = ap (named_reach settings range) is.begins.read in
    omega (arith, more, header_read settings old mid name o.h o.has b (seen_first old mid after name b o.grown o.later held), reach, named, reach_named (body_in s b) range)
