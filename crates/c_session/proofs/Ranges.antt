-- A range that is extracted of bytes that were handed over.
use Rattle.std.proofs.Common.{◌≡◌, ℕ, List, [], Option, Some, Ok, Err, inr, subst, None, Result}
use Rattle.std.specs.Io.KnownBytes.{Appends}
use Rattle.esdk_fields.specs.declared.refusals.Outside.TheVariants as outsides
use Rattle.esdk_base.specs.Streams.{ShelfState, SinkState}
use Rattle.whole_input.specs.FileReads.{Grows, IsSeenAs}
use Rattle.esdk_decrypt.specs.Decrypt.{DecryptAsked}
use Rattle.extract_core.specs.declared.errors.ExtractError.{ExtractError}
use Rattle.extract_core.specs.declared.errors.ExtractError.TheVariants as extracts
use Rattle.extract_core.specs.Extract.{ExtractEnds, Extracts}
use Rattle.extract_core.specs.Extracted.{ByteRange}
use Rattle.session_parts.specs.Handed.{HandedPart, HasHanded, notes_of, the_message}
use Rattle.c_session.specs.MessageShelf.{AgreesSoFar}
use Rattle.c_session.specs.declared.no_range.NoRange.{NoRange}
use Rattle.c_session.specs.declared.no_range.NoRange.TheVariants as errors
use Rattle.c_session.specs.declared.reason.Reason.TheVariants as reasons
use Rattle.c_session.specs.declared.session.Session.{Session}
use Rattle.c_session.specs.FileTree.{Tree}
use Rattle.c_session.specs.Ranging.{RangeComes, RangesSession, TakesRange, unextracted_as}
use Rattle.c_session.specs.Session.{setting_answer, with_its_keys}
use Rattle.header_codec.specs.declared.settings.Settings.{Settings}
use Rattle.c_session.proofs.Handing.{read_as}

module _ (question : DecryptAsked) (h g : HandedPart) (range : ByteRange) (old new : ShelfState) (output put : SinkState) (noted : old.calls ≡ notes_of h)
    (grows : Grows old.calls new.calls) (so : AgreesSoFar g new.calls) where
  seen : (message : List ℕ) → HasHanded h message → IsSeenAs old new the_message message
  seen message has = inr (read_as h g old.calls new.calls noted grows so message has)

  gained : (before after : Option (List ℕ)) (text part : List ℕ) → before ≡ Some [] → after ≡ Some text → Appends before after part → text ≡ part
  gained before after text part none all appends =
      let filled : Appends (Some []) after part = subst (λ (b : Option (List ℕ)). Appends b after part) none appends in
      let both : Appends (Some []) (Some text) part = subst (λ (b : Option (List ℕ)). Appends (Some []) b part) all filled in
      both

  pub range_comes : (text : List ℕ) (written : ℕ) → output.written ≡ Some [] → put.written ≡ Some text → Extracts question range old new the_message output put written
      → RangeComes question h range (Ok text)
  range_comes text written none all done = λ message has.
      let w = done.writes message (seen message has) in
      record {
        answer = w.answer;
        answered = w.answered;
        sound = w.sound;
        all = gained output.written put.written text _ none all w.gained;
      }

  pub range_fails : (unwritten : Type 0) (error : ExtractError) → ExtractEnds question range old new the_message output put unwritten error
      → RangeComes question h range (Err (unextracted_as error))
  range_fails unwritten (extracts.Fault fault) ends = λ message has.
      let w = ends.writes message (seen message has) in
      record { answer = w.answer; answered = w.answered; fault_is = w.fault_is }
  range_fails unwritten (extracts.Outside outsides.ShelfFault) ends = tt
  range_fails unwritten (extracts.Outside outsides.KeyringFault) ends = record {
    header = ends.header;
    is = λ message has. ends.has.is message (seen message has);
    failed = ends.failed;
  }
  range_fails unwritten (extracts.Outside outsides.SinkFault) ends = tt
  range_fails unwritten (extracts.Outside outsides.SourceFault) ends = tt
  range_fails unwritten (extracts.Outside outsides.EntropyFault) ends = tt
  range_fails unwritten (extracts.Outside outsides.InputTooLong) ends = tt
  range_fails unwritten extracts.Memory ends = tt

-- ---- of a session that is set up

own_range : (old new : Session Tree) (h : HandedPart) (settings : Settings) (range : ByteRange) (came : Result (List ℕ) NoRange) → setting_answer old ≡ None
    → TakesRange old new (with_its_keys old) h settings range came → RangesSession old new h settings range came
own_range old new h settings range (Ok text) none takes = (none, takes)
own_range old new h settings range (Err (errors.Call answer)) none takes = absurd takes.comes
own_range old new h settings range (Err errors.TooFar) none takes = absurd takes.comes
own_range old new h settings range (Err errors.Missing) none takes = (none, takes)
own_range old new h settings range (Err (errors.Reason reasons.Memory)) none takes = (none, inr takes)
own_range old new h settings range (Err (errors.Reason (reasons.File refusal))) none takes = (none, takes)
own_range old new h settings range (Err (errors.Reason (reasons.Fault fault))) none takes = (none, takes)
own_range old new h settings range (Err (errors.Reason (reasons.Refusal refusal))) none takes = (none, takes)
own_range old new h settings range (Err (errors.Reason reasons.Keyring)) none takes = (none, takes)

pub range_of_session : (old new : Session Tree) (h : HandedPart) (settings : Settings) (range : ByteRange) (keys : List (List ℕ)) (came : Result (List ℕ) NoRange)
    → setting_answer old ≡ None → keys ≡ old.required → TakesRange old new (old.manager.0, keys) h settings range came → RangesSession old new h settings range came
range_of_session old new h settings range keys came none own takes =
    own_range old new h settings range came none
    (subst (λ (k : List (List ℕ)). TakesRange old new (old.manager.0, k) h settings range came) own takes)
