-- What is decrypted of an input that may be read as armour, over a manager that may answer more.
use Rattle.std.proofs.Common.{ℕ, Bool, true, false, List, Ok, Err}
use Rattle.std.specs.Prelude.{IfErr, IfOk, ⊤}
use Rattle.std.specs.declared.result.Result.{Result}
use Rattle.esdk_fields.specs.declared.refusals.Outside.TheVariants.{ShelfFault}
use Rattle.esdk_base.specs.Streams.{SinkState, SourceState}
use Rattle.whole_input.specs.Taken.{EndSeen}
use Rattle.context_codec.specs.Context.{KeyValue}
use Rattle.header_codec.specs.declared.settings.Settings.{Settings}
use Rattle.esdk_decrypt.specs.declared.errors.DecryptError.{DecryptError}
use Rattle.esdk_decrypt.specs.declared.errors.DecryptError.TheVariants as errors
use Rattle.esdk_decrypt.specs.Decrypt.{Answering, DecryptAsked}
use Rattle.esdk_decrypt.proofs.Told.{Allows, answered_allowed, asked_of, decrypts_allowed, ends_allowed}
use Rattle.esdk_run.specs.Failures.{decryption_failure}
use Rattle.esdk_run.specs.UnarmouredDecrypt.{DecryptsAs, DecryptEndsAs, ReleasesSound}
use Rattle.esdk_run.proofs.UnarmouredMaps.{all_then, ends_then}

sound_allowed : (from to : Answering) (settings : Settings) (given : List KeyValue) (seen read : SourceState) (output put : SinkState) (cause : List ℕ → Type 0) → Allows from to
    → ReleasesSound (asked_of from settings given) seen read output put cause → ReleasesSound (asked_of to settings given) seen read output put cause
sound_allowed from to settings given seen read output put cause allows x = record {
  bytes = x.bytes;
  answer = x.answer;
  releases = record {
    came = x.releases.came;
    answered = answered_allowed from to settings given x.bytes x.answer allows x.releases.answered;
    gained = x.releases.gained;
  };
  sound = x.sound;
  because = x.because;
}

pub decrypts_as_allowed : (armour : Bool) (from to : Answering) (settings : Settings) (given : List KeyValue) (input taken : SourceState) (output put : SinkState) (context : List KeyValue) → Allows from to
    → DecryptsAs armour (asked_of from settings given) input taken output put context → DecryptsAs armour (asked_of to settings given) input taken output put context
decrypts_as_allowed armour from to settings given input taken output put context allows done =
    all_then armour input taken _ _ (λ seen read so. decrypts_allowed allows so) done

pub ends_as_allowed : (armour : Bool) (from to : Answering) (settings : Settings) (given : List KeyValue) (input taken : SourceState) (output put : SinkState) (unwritten : Type 0)
    (error : DecryptError) → Allows from to → DecryptEndsAs armour (asked_of from settings given) input taken output put unwritten error
    → DecryptEndsAs armour (asked_of to settings given) input taken output put unwritten error
ends_as_allowed armour from to settings given input taken output put unwritten error allows ends =
    ends_then armour (decryption_failure error) input taken _ _ _ _ _ _
    (λ seen read so. ends_allowed from to settings given seen read output put unwritten error allows so)
    (λ seen read all. sound_allowed from to settings given seen read output put (EndSeen seen read) allows all)
    (λ seen read sound. sound_allowed from to settings given seen read output put (λ bytes. ⊤) allows sound) ends

-- ---- results

pub decrypts_as_more : (armour : Bool) (from to : Answering) (settings : Settings) (given : List KeyValue) (input taken : SourceState) (output put : SinkState)
    (r : Result (List KeyValue) DecryptError) → Allows from to → IfOk r (DecryptsAs armour (asked_of from settings given) input taken output put)
    → IfOk r (DecryptsAs armour (asked_of to settings given) input taken output put)
decrypts_as_more armour from to settings given input taken output put (Ok context) allows done =
    decrypts_as_allowed armour from to settings given input taken output put context allows done
decrypts_as_more armour from to settings given input taken output put (Err error) allows done = tt

pub stops_as_more : (armour : Bool) (from to : Answering) (settings : Settings) (given : List KeyValue) (input taken : SourceState) (output put : SinkState) (unwritten : Type 0)
    (r : Result (List KeyValue) DecryptError) → Allows from to → IfErr r (DecryptEndsAs armour (asked_of from settings given) input taken output put unwritten)
    → IfErr r (DecryptEndsAs armour (asked_of to settings given) input taken output put unwritten)
stops_as_more armour from to settings given input taken output put unwritten (Ok context) allows ends = tt
stops_as_more armour from to settings given input taken output put unwritten (Err error) allows ends =
    ends_as_allowed armour from to settings given input taken output put unwritten error allows ends

-- ---- a decryption doesn't end by the shelf

pub never_shelf : (armour : Bool) (asked : DecryptAsked) (input taken : SourceState) (output put : SinkState) (unwritten : Type 0)
    → DecryptEndsAs armour asked input taken output put unwritten (errors.Outside ShelfFault) → ⊥
never_shelf true asked input taken output put unwritten ends = ends.so
never_shelf false asked input taken output put unwritten ends = ends
