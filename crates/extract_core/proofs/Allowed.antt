-- An extraction about what one manager may answer is one about what another may that answers all of it.
use Rattle.std.proofs.Common.{ℕ, List, Result, Ok, Err, IfOk, IfErr, inl, inr}
use Rattle.esdk_fields.specs.declared.refusals.Outside.TheVariants as outsides
use Rattle.esdk_fields.specs.Place.{start}
use Rattle.esdk_fields.specs.Reading.{Reading, Read, Refused, Wanting}
use Rattle.esdk_base.specs.Streams.{ShelfState, SinkState}
use Rattle.context_codec.specs.Context.{KeyValue}
use Rattle.header_codec.specs.declared.settings.Settings.{Settings}
use Rattle.header_codec.specs.Table.{HeaderFields, header}
use Rattle.keyring_trait.specs.declared.manager_errors.ManagerError.TheVariants as managers
use Rattle.keyring_trait.specs.Requests.{DecRequestValue}
use Rattle.keyring_trait.specs.Unlocking.{Unlocking, Refuses, Unlocks}
use Rattle.esdk_decrypt.specs.Decrypt.{Answering, AnswersReading, AnswersRequest, AnswersTo}
use Rattle.esdk_decrypt.proofs.Told.{Allows, asked_of}
use Rattle.extract_core.specs.declared.errors.ExtractError.{ExtractError}
use Rattle.extract_core.specs.declared.errors.ExtractError.TheVariants as errors
use Rattle.extract_core.specs.Extracted.{ByteRange}
use Rattle.extract_core.specs.Extract.{ExtractEnds, Extracts, ExtractWritesFront, WritesLess}

request_allowed : (from to : Answering) (request : DecRequestValue) (answer : Unlocking) → Allows from to → AnswersRequest from request answer → AnswersRequest to request answer
request_allowed from to request (Unlocks whole only key) allows answers =
    (answers.0, allows.finds request (record { context = whole; only = only; key = key; served = answers.0 }) answers.1)
request_allowed from to request (Refuses fault) allows answers = allows.finds_none request (managers.Fault fault) answers

reading_allowed : (from to : Answering) (given : List KeyValue) (b : List ℕ) (r : Reading HeaderFields) (answer : Unlocking) → Allows from to → AnswersReading from given b r answer → AnswersReading to given b r answer
reading_allowed from to given b (Read parts body) answer allows answers = request_allowed from to _ answer allows answers
reading_allowed from to given b (Refused fault at) answer allows is = is
reading_allowed from to given b Wanting answer allows is = is

answers_allowed : (from to : Answering) (settings : Settings) (given : List KeyValue) (b : List ℕ) (answer : Unlocking) → Allows from to → AnswersTo from settings given b answer → AnswersTo to settings given b answer
answers_allowed from to settings given b answer allows answers = reading_allowed from to given b (header settings (start b)) answer allows answers

pub extracts_allowed : (from to : Answering) (settings : Settings) (given : List KeyValue) (range : ByteRange) (old new : ShelfState) (name : List ℕ) (output put : SinkState) (written : ℕ) → Allows from to
    → Extracts (asked_of from settings given) range old new name output put written → Extracts (asked_of to settings given) range old new name output put written
extracts_allowed from to settings given range old new name output put written allows done = record {
  there = done.there;
  writes = λ b held.
      let w = done.writes b held in
      record { answer = w.answer; answered = answers_allowed from to settings given b w.answer allows w.answered; sound = w.sound; gained = w.gained; count = w.count; read = w.read };
}

front_allowed : (from to : Answering) (settings : Settings) (given : List KeyValue) (range : ByteRange) (old new : ShelfState) (output put : SinkState) (b : List ℕ) → Allows from to
    → ExtractWritesFront (asked_of from settings given) range old new output put b → ExtractWritesFront (asked_of to settings given) range old new output put b
front_allowed from to settings given range old new output put b allows w =
    record { answer = w.answer; answered = answers_allowed from to settings given b w.answer allows w.answered; gained = w.gained; read = w.read }

less_allowed : (from to : Answering) (settings : Settings) (given : List KeyValue) (range : ByteRange) (old new : ShelfState) (name : List ℕ) (output put : SinkState) (unwritten : Type 0) → Allows from to
    → WritesLess (asked_of from settings given) range old new name output put unwritten → WritesLess (asked_of to settings given) range old new name output put unwritten
less_allowed from to settings given range old new name output put unwritten allows less = record {
  front = elim less.front [
    | inl same ↦ inl same
    | inr front ↦ inr (λ b held. front_allowed from to settings given range old new output put b allows (front b held))
  ];
  missing = less.missing;
}

pub extract_ends_allowed : (from to : Answering) (settings : Settings) (given : List KeyValue) (range : ByteRange) (old new : ShelfState) (name : List ℕ) (output put : SinkState) (unwritten : Type 0) (error : ExtractError) → Allows from to
    → ExtractEnds (asked_of from settings given) range old new name output put unwritten error → ExtractEnds (asked_of to settings given) range old new name output put unwritten error
extract_ends_allowed from to settings given range old new name output put unwritten (errors.Fault fault) allows ends = record {
  there = ends.there;
  faults = ends.faults;
  writes = λ b held.
      let w = ends.writes b held in
      record { answer = w.answer; answered = answers_allowed from to settings given b w.answer allows w.answered; fault_is = w.fault_is; gained = w.gained; read = w.read };
}
extract_ends_allowed from to settings given range old new name output put unwritten (errors.Outside outsides.SourceFault) allows ends = absurd ends
extract_ends_allowed from to settings given range old new name output put unwritten (errors.Outside outsides.SinkFault) allows ends =
    record { there = ends.there; faults = ends.faults; rose = ends.rose; writes = λ b held. front_allowed from to settings given range old new output put b allows (ends.writes b held) }
extract_ends_allowed from to settings given range old new name output put unwritten (errors.Outside outsides.ShelfFault) allows ends =
    (ends.0, less_allowed from to settings given range old new name output put unwritten allows ends.1)
extract_ends_allowed from to settings given range old new name output put unwritten (errors.Outside outsides.EntropyFault) allows ends = absurd ends
extract_ends_allowed from to settings given range old new name output put unwritten (errors.Outside outsides.KeyringFault) allows ends =
    record { header = ends.header; has = ends.has; failed = allows.finds_none _ managers.KeyringFault ends.failed; same = ends.same }
extract_ends_allowed from to settings given range old new name output put unwritten (errors.Outside outsides.InputTooLong) allows ends = absurd ends
extract_ends_allowed from to settings given range old new name output put unwritten errors.Memory allows ends =
    (ends.0, less_allowed from to settings given range old new name output put unwritten allows ends.1)

-- the same of a result
pub extracts_more : (from to : Answering) (settings : Settings) (given : List KeyValue) (range : ByteRange) (old new : ShelfState) (name : List ℕ) (output put : SinkState) (r : Result ℕ ExtractError) → Allows from to
    → IfOk r (Extracts (asked_of from settings given) range old new name output put) → IfOk r (Extracts (asked_of to settings given) range old new name output put)
extracts_more from to settings given range old new name output put (Ok written) allows done = extracts_allowed from to settings given range old new name output put written allows done
extracts_more from to settings given range old new name output put (Err error) allows done = tt

pub extract_stops_more : (from to : Answering) (settings : Settings) (given : List KeyValue) (range : ByteRange) (old new : ShelfState) (name : List ℕ) (output put : SinkState) (unwritten : Type 0) (r : Result ℕ ExtractError) → Allows from to
    → IfErr r (ExtractEnds (asked_of from settings given) range old new name output put unwritten) → IfErr r (ExtractEnds (asked_of to settings given) range old new name output put unwritten)
extract_stops_more from to settings given range old new name output put unwritten (Ok written) allows ends = tt
extract_stops_more from to settings given range old new name output put unwritten (Err error) allows ends = extract_ends_allowed from to settings given range old new name output put unwritten error allows ends
