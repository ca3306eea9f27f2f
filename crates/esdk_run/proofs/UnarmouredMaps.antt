-- What is so of the bytes that an input gives, and then something else.
use Rattle.std.proofs.Common.{ℕ, Bool, true, false, List}
use Rattle.esdk_fields.specs.declared.faults.Fault.TheVariants.{BadArmour, Truncated}
use Rattle.esdk_fields.specs.declared.refusals.Outside.TheVariants.{InputTooLong, SourceFault}
use Rattle.esdk_base.specs.Streams.{SourceState}
use Rattle.esdk_report.specs.declared.failure.Failure.{Failure}
use Rattle.esdk_report.specs.declared.failure.Failure.TheVariants as failures
use Rattle.esdk_run.specs.Unarmoured.{InputEnds, ReadsAll, ReadsText, TextEnds}

-- then this is so of it
abbrev pub Implies : (So To : SourceState → SourceState → Type 0) → Type 0
Implies So To = (seen read : SourceState) → So seen read → To seen read

pub reads_then : (Reach : List ℕ → List ℕ → Type 0) (input taken : SourceState) (So To : SourceState → SourceState → Type 0) → Implies So To → ReadsText Reach input taken So → ReadsText Reach input taken To
reads_then Reach input taken So To then x = record {
  text = x.text;
  came = x.came;
  few = x.few;
  seen = x.seen;
  read = x.read;
  gives = x.gives;
  begins = x.begins;
  none = x.none;
  rest = x.rest;
  bytes = x.bytes;
  count = x.count;
  reach = x.reach;
  good = x.good;
  stayed = x.stayed;
  so = then x.seen x.read x.so;
}

pub all_then : (armour : Bool) (input taken : SourceState) (So To : SourceState → SourceState → Type 0) → Implies So To → ReadsAll armour input taken So → ReadsAll armour input taken To
all_then true input taken So To then x = (x.0, reads_then _ input taken So To then x.1)
all_then false input taken So To then x = then input taken x

text_then : (failure : Failure) (input taken : SourceState) (So All Sound To AllTo SoundTo : SourceState → SourceState → Type 0) → Implies So To → Implies All AllTo
    → Implies Sound SoundTo → TextEnds failure input taken So All Sound → TextEnds failure input taken To AllTo SoundTo
text_then (failures.Fault (BadArmour number)) input taken So All Sound To AllTo SoundTo so all sound x = (x.0, reads_then _ input taken All AllTo all x.1)
text_then (failures.Fault Truncated) input taken So All Sound To AllTo SoundTo so all sound x = (x.0, reads_then _ input taken So To so x.1)
text_then (failures.Outside SourceFault) input taken So All Sound To AllTo SoundTo so all sound x = (x.0, reads_then _ input taken Sound SoundTo sound x.1)
text_then (failures.Outside InputTooLong) input taken So All Sound To AllTo SoundTo so all sound x = (x.0, reads_then _ input taken Sound SoundTo sound x.1)
text_then failure input taken So All Sound To AllTo SoundTo so all sound x = reads_then _ input taken So To so x

pub ends_then : (armour : Bool) (failure : Failure) (input taken : SourceState) (So All Sound To AllTo SoundTo : SourceState → SourceState → Type 0) → Implies So To → Implies All AllTo
    → Implies Sound SoundTo → InputEnds armour failure input taken So All Sound → InputEnds armour failure input taken To AllTo SoundTo
ends_then true failure input taken So All Sound To AllTo SoundTo so all sound x = text_then failure input taken So All Sound To AllTo SoundTo so all sound x
ends_then false failure input taken So All Sound To AllTo SoundTo so all sound x = so input taken x
