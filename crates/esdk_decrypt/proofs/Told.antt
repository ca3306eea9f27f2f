-- What a manager answers that is exact, tells its wrapping keys and doesn't fail is what a reader with these keys answers.
use Rattle.std.proofs.Common.{◌≡◌, ℕ, List, Option, Some, None, Result, Ok, Err, IfOk, ap, ◌∙◌, arith}
use Rattle.std.specs.Prelude.{IfErr}
use Rattle.esdk_fields.specs.Counts.{Stayed}
use Rattle.esdk_fields.specs.declared.faults.Fault.{Fault}
use Rattle.esdk_fields.specs.declared.faults.Fault.TheVariants as faults
use Rattle.esdk_fields.specs.declared.refusals.Outside.TheVariants as outsides
use Rattle.esdk_fields.specs.Place.{start}
use Rattle.esdk_fields.specs.Reading.{Reading, Read, Refused, Wanting}
use Rattle.esdk_base.specs.Streams.{SinkState, SourceState}
use Rattle.context_codec.specs.Context.{KeyValue}
use Rattle.header_codec.specs.declared.settings.Settings.{Settings}
use Rattle.header_codec.specs.Table.{HeaderFields, header}
use Rattle.edk_codec.specs.Entry.{Entry}
use Rattle.context_codec.specs.Parts.{only_given, whole_of}
use Rattle.keyring_trait.specs.declared.manager_errors.ManagerError.{ManagerError}
use Rattle.keyring_trait.specs.declared.manager_errors.ManagerError.TheVariants as managers
use Rattle.keyring_trait.specs.Manager.{ManagerNow, FindsMaterials, FindsNone}
use Rattle.keyring_trait.specs.Materials.{DecMaterialsValue}
use Rattle.keyring_trait.specs.Requests.{DecRequestValue}
use Rattle.keyring_trait.specs.Unlocking.{Unlocking, Refuses, Unlocks, opens_with, pair_offence, unless, unlock}
use Rattle.keyring_trait.specs.Wrapping.{WrapKeyValue, unwrapped}
use Rattle.esdk_decrypt.specs.Decrypt.{Answering, AnswersReading, AnswersRequest, AnswersTo, DecryptAsked, FailsReading, Decrypts, DecryptEnds, Releases, ReleasesFront, answering_of}
use Rattle.esdk_decrypt.specs.Told.{NoneForAnswer, answering_by, decrypting_by}
use Rattle.esdk_decrypt.specs.declared.errors.DecryptError.{DecryptError}
use Rattle.esdk_decrypt.specs.declared.errors.DecryptError.TheVariants as errors

-- ---- a reader's answers

-- something is wrong with the pairs
pub offence_unlocks : (stored given : List KeyValue) (entries : List Entry) (required : List (List ℕ)) (keys : List WrapKeyValue) (fault : Fault)
    → pair_offence stored given required ≡ Some fault → unlock stored entries given required keys ≡ Refuses fault
unfolding unlock
offence_unlocks stored given entries required keys fault e =
    ap (λ (o : Option Fault). unless o (opens_with (whole_of stored given) (only_given stored given) (unwrapped keys entries (whole_of stored given)))) e

-- nothing is wrong with them
pub sound_unlocks : (stored given : List KeyValue) (entries : List Entry) (required : List (List ℕ)) (keys : List WrapKeyValue) (found : Option (List ℕ))
    → pair_offence stored given required ≡ None → unwrapped keys entries (whole_of stored given) ≡ found
    → unlock stored entries given required keys ≡ opens_with (whole_of stored given) (only_given stored given) found
unfolding unlock
sound_unlocks stored given entries required keys found e is =
    ap (λ (o : Option Fault). unless o (opens_with (whole_of stored given) (only_given stored given) (unwrapped keys entries (whole_of stored given)))) e
    ∙ ap (opens_with (whole_of stored given) (only_given stored given)) is

materials_unlock : (old new : ManagerNow) (keys : List WrapKeyValue) (request : DecRequestValue) (m : DecMaterialsValue)
    → old.tells keys → old.exact → Stayed old.meaning.faults new.meaning.faults → FindsMaterials old new request m
    → unlock request.stored request.entries request.given old.meaning.demands keys ≡ Unlocks m.context m.only m.key
materials_unlock old new keys request m told is stayed finds =
    let first = rw finds.context at finds.first keys told stayed in
    rw (finds.context, finds.only) (sound_unlocks request.stored request.given request.entries old.meaning.demands keys (Some m.key) (finds.unfaulted is) first)

fault_unlocks : (old new : ManagerNow) (keys : List WrapKeyValue) (request : DecRequestValue) (fault : Fault)
    → old.tells keys → old.exact → FindsNone old new request (managers.Fault fault)
    → unlock request.stored request.entries request.given old.meaning.demands keys ≡ Refuses fault
fault_unlocks old new keys request faults.ReservedKey told is finds = offence_unlocks request.stored request.given request.entries old.meaning.demands keys faults.ReservedKey (finds.1 is)
fault_unlocks old new keys request (faults.ContextMismatch key) told is finds =
    offence_unlocks request.stored request.given request.entries old.meaning.demands keys (faults.ContextMismatch key) (finds.1 is)
fault_unlocks old new keys request (faults.MissingRequired key) told is finds =
    offence_unlocks request.stored request.given request.entries old.meaning.demands keys (faults.MissingRequired key) (finds.1 is)
fault_unlocks old new keys request (faults.ContextTooLong n) told is finds =
    offence_unlocks request.stored request.given request.entries old.meaning.demands keys (faults.ContextTooLong n) (finds.1 is)
fault_unlocks old new keys request faults.NoKeyOpens told is finds =
    sound_unlocks request.stored request.given request.entries old.meaning.demands keys None (finds.1 is) (finds.0 keys told)
fault_unlocks old new keys request fault told is finds = absurd finds.0

none_unlocks : (old new : ManagerNow) (keys : List WrapKeyValue) (request : DecRequestValue) (error : ManagerError)
    → old.tells keys → old.exact → Stayed old.meaning.faults new.meaning.faults → FindsNone old new request error
    → NoneForAnswer (unlock request.stored request.entries request.given old.meaning.demands keys) error
none_unlocks old new keys request (managers.Fault fault) told is stayed finds = fault_unlocks old new keys request fault told is finds
none_unlocks old new keys request (managers.Refusal refusal) told is stayed none = none
none_unlocks old new keys request managers.KeyringFault told is stayed failed = absurd (omega (arith, stayed, failed.0))
none_unlocks old new keys request managers.Memory told is stayed free = tt

-- ---- what is so of fewer answers is so of more

-- What the one may answer, the other may too.
pub record Allows (from to : Answering) : Type 0 where
  pub finds : (request : DecRequestValue) (m : DecMaterialsValue) → from.finds request m → to.finds request m
  pub finds_none : (request : DecRequestValue) (error : ManagerError) → from.finds_none request error → to.finds_none request error

pub reader_allows : (old new : ManagerNow) (now : ℕ) (keys : List WrapKeyValue) (settings : Settings) (given : List KeyValue)
    → old.tells keys → old.exact → Stayed old.meaning.faults new.meaning.faults
    → Allows (answering_of old new now) (answering_by (record { keys = keys; settings = settings; given = given; required = old.meaning.demands }))
reader_allows old new now keys settings given told is stayed = record {
  finds = λ request m finds. materials_unlock old new keys request m told is stayed finds.0;
  finds_none = λ request error finds. none_unlocks old new keys request error told is stayed finds;
}

request_allowed : (from to : Answering) (request : DecRequestValue) (answer : Unlocking) → Allows from to → AnswersRequest from request answer → AnswersRequest to request answer
request_allowed from to request (Unlocks whole only key) allows answers =
    (answers.0, allows.finds request (record { context = whole; only = only; key = key; served = answers.0 }) answers.1)
request_allowed from to request (Refuses fault) allows answers = allows.finds_none request (managers.Fault fault) answers

reading_allowed : (from to : Answering) (given : List KeyValue) (b : List ℕ) (r : Reading HeaderFields) (answer : Unlocking) → Allows from to
    → AnswersReading from given b r answer → AnswersReading to given b r answer
reading_allowed from to given b (Read parts body) answer allows answers = request_allowed from to _ answer allows answers
reading_allowed from to given b (Refused fault at) answer allows is = is
reading_allowed from to given b Wanting answer allows is = is

pub failing_allowed : (from to : Answering) (given : List KeyValue) (b : List ℕ) (r : Reading HeaderFields) → Allows from to → FailsReading from given b r → FailsReading to given b r
failing_allowed from to given b (Read parts body) allows fails = allows.finds_none _ managers.KeyringFault fails
failing_allowed from to given b (Refused fault at) allows none = none
failing_allowed from to given b Wanting allows none = none

-- a run about this manager's answers
abbrev pub asked_of : Answering → Settings → List KeyValue → DecryptAsked
asked_of manager settings given = record { manager = manager; settings = settings; given = given }

pub answered_allowed : (from to : Answering) (settings : Settings) (given : List KeyValue) (b : List ℕ) (answer : Unlocking) → Allows from to
    → AnswersTo from settings given b answer → AnswersTo to settings given b answer
answered_allowed from to settings given b answer allows answers = reading_allowed from to given b (header settings (start b)) answer allows answers

releases_allowed : {from to : Answering} {settings : Settings} {given : List KeyValue} {input taken : SourceState} {output put : SinkState} {b : List ℕ} {answer : Unlocking} → Allows from to
    → Releases (asked_of from settings given) input taken output put b answer → Releases (asked_of to settings given) input taken output put b answer
releases_allowed {from} {to} {settings} {given} {b = b} {answer = answer} allows r = record {
  came = r.came;
  answered = answered_allowed from to settings given b answer allows r.answered;
  gained = r.gained;
}

front_allowed : {from to : Answering} {settings : Settings} {given : List KeyValue} {input taken : SourceState} {output put : SinkState} → Allows from to
    → ReleasesFront (asked_of from settings given) input taken output put → ReleasesFront (asked_of to settings given) input taken output put
front_allowed {from} {to} {settings} {given} allows r = record {
  bytes = r.bytes;
  answer = r.answer;
  came = r.came;
  faults = r.faults;
  answered = answered_allowed from to settings given r.bytes r.answer allows r.answered;
  last = r.last;
}

pub decrypts_allowed : {from to : Answering} {settings : Settings} {given : List KeyValue} {input taken : SourceState} {output put : SinkState} {context : List KeyValue} → Allows from to
    → Decrypts (asked_of from settings given) input taken output put context → Decrypts (asked_of to settings given) input taken output put context
decrypts_allowed allows done = record {
  bytes = done.bytes;
  only = done.only;
  key = done.key;
  releases = releases_allowed allows done.releases;
  end = done.end;
  whole = done.whole;
}

pub ends_allowed : (from to : Answering) (settings : Settings) (given : List KeyValue) (input taken : SourceState) (output put : SinkState) (unwritten : Type 0) (error : DecryptError) → Allows from to
    → DecryptEnds (asked_of from settings given) input taken output put unwritten error → DecryptEnds (asked_of to settings given) input taken output put unwritten error
ends_allowed from to settings given input taken output put unwritten (errors.Fault fault) allows has =
    record { bytes = has.bytes; answer = has.answer; releases = releases_allowed allows has.releases; faults = has.faults; cause = has.cause; last = has.last }
ends_allowed from to settings given input taken output put unwritten (errors.Outside outsides.SourceFault) allows fails =
    record { bytes = fails.bytes; answer = fails.answer; releases = releases_allowed allows fails.releases; sound = fails.sound; rose = fails.rose }
ends_allowed from to settings given input taken output put unwritten (errors.Outside outsides.SinkFault) allows fails = (front_allowed allows fails.0, fails.1)
ends_allowed from to settings given input taken output put unwritten (errors.Outside outsides.KeyringFault) allows fails = (
  record {
    bytes = fails.0.bytes;
    came = fails.0.came;
    faults = fails.0.faults;
    failed = failing_allowed from to given fails.0.bytes (header settings (start fails.0.bytes)) allows fails.0.failed;
    last = fails.0.last;
  },
  fails.1,
)
ends_allowed from to settings given input taken output put unwritten (errors.Outside outsides.InputTooLong) allows long =
    record { bytes = long.bytes; answer = long.answer; releases = releases_allowed allows long.releases; sound = long.sound; most = long.most }
ends_allowed from to settings given input taken output put unwritten (errors.Outside other) allows none = none
ends_allowed from to settings given input taken output put unwritten errors.Memory allows (none, same) = (
  record {
    before = none.before;
    last = none.last;
    came = none.came;
    few = none.few;
    lacks = record {
      answer = none.lacks.answer;
      answered = answered_allowed from to settings given none.before none.lacks.answer allows none.lacks.answered;
      going = none.lacks.going;
      unreserved = none.lacks.unreserved;
    };
  },
  same,
)

-- ---- results

-- what is decrypted with the answers of such a manager is decrypted by the reader
pub decrypts_read : {E : Type 0} (old new : ManagerNow) (now : ℕ) (keys : List WrapKeyValue) (settings : Settings) (given : List KeyValue)
    (input taken : SourceState) (output put : SinkState) → old.tells keys → old.exact → Stayed old.meaning.faults new.meaning.faults
    → (r : Result (List KeyValue) E) → IfOk r (λ context. Decrypts (asked_of (answering_of old new now) settings given) input taken output put context)
    → IfOk r (λ context. Decrypts (decrypting_by (record { keys = keys; settings = settings; given = given; required = old.meaning.demands })) input taken output put context)
decrypts_read old new now keys settings given input taken output put told is stayed (Err error) done = tt
decrypts_read old new now keys settings given input taken output put told is stayed (Ok context) done =
    decrypts_allowed (reader_allows old new now keys settings given told is stayed) done

-- and what ends such a run ends the reader's
pub ends_read : {T : Type 0} (old new : ManagerNow) (now : ℕ) (keys : List WrapKeyValue) (settings : Settings) (given : List KeyValue)
    (input taken : SourceState) (output put : SinkState) (unwritten : Type 0) → old.tells keys → old.exact → Stayed old.meaning.faults new.meaning.faults
    → (r : Result T DecryptError) → IfErr r (λ error. DecryptEnds (asked_of (answering_of old new now) settings given) input taken output put unwritten error)
    → IfErr r (DecryptEnds (decrypting_by (record { keys = keys; settings = settings; given = given; required = old.meaning.demands })) input taken output put unwritten)
ends_read old new now keys settings given input taken output put unwritten told is stayed (Ok done) ends = tt
ends_read old new now keys settings given input taken output put unwritten told is stayed (Err error) ends =
    ends_allowed _ _ settings given input taken output put unwritten error (reader_allows old new now keys settings given told is stayed) ends
