-- What `list` comes to.
use Rattle.std.proofs.Common.{◌≡◌, ◌∙◌, ℕ, ◌^◌, ◌≤◌, Bool, true, false, List, [], ◌++◌, length, refl, sym, ap, subst, inl, inr}
use Rattle.std.specs.Io.KnownBytes.{Appends}
use Rattle.esdk_args.specs.declared.request.ListWords.{ListWords}
use Rattle.esdk_fields.specs.Counts.{Rose}
use Rattle.esdk_fields.specs.Place.{Place, followed, start}
use Rattle.esdk_fields.specs.Reading.{Read, Refused, Wanting}
use Rattle.esdk_fields.specs.declared.faults.Fault.{Fault}
use Rattle.esdk_fields.specs.declared.faults.Fault.TheVariants.{BadArmour, Truncated}
use Rattle.esdk_fields.specs.declared.refusals.Outside.TheVariants as outsides
use Rattle.esdk_fields.proofs.Fronts.{fault_stays, value_stays}
use Rattle.esdk_base.specs.Sink.{AppendsFront}
use Rattle.esdk_base.specs.Streams.{SourceState}
use Rattle.context_codec.proofs.Stored.{stored_is}
use Rattle.header_codec.specs.Header.{HeaderValue}
use Rattle.header_codec.specs.Table.{BeginsWith, header, made_of}
use Rattle.header_codec.proofs.Order.{IsSequential-header}
use Rattle.header_input.specs.Taking.{EndCame, FaultCame}
use Rattle.message_format.specs.Judgement.{header_of}
use Rattle.message_format.proofs.Following.{header_stays}
use Rattle.armour_core.specs.Outlook.{Outlook}
use Rattle.armour_core.specs.Unarmoured.{unarmoured}
use Rattle.armour_core.specs.declared.text_end.TextEnd.{TextEnd}
use Rattle.armour_core.specs.declared.text_end.TextEnd.TheVariants as ends
use Rattle.esdk_list.specs.List.{ListFindsFault, IsListCause, LeavesOutput, Lists, list_settings}
use Rattle.esdk_list.specs.Listing.{list_of}
use Rattle.esdk_report.specs.Report.{IsReported, Reports}
use Rattle.esdk_report.specs.declared.failure.Failure.{Failure}
use Rattle.esdk_report.specs.declared.failure.Failure.TheVariants as failures
use Rattle.esdk_run.specs.Objects.{Unchanged}
use Rattle.esdk_run.specs.Run.{ListRuns}
use Rattle.esdk_run.specs.Unarmoured.{AllRead, EndsText, NoMoreTaken, ReadsText, outlook_of}
use Rattle.esdk_run.specs.UnarmouredList.{ListEndsAs, ListsAs}
use Rattle.esdk_run.proofs.FormatFaults.{header_names, is_format}
use Rattle.esdk_program.specs.Effect.{RunComesTo, Effect, RunFailed, done_with, refused}
use Rattle.esdk_program.specs.Program.{cut_short, list_effect, listing_effect, listed_of}
use Rattle.esdk_program.specs.World.{IsOf, Run, World}
use Rattle.esdk_program.proofs.Came.{bad_same, begins_input, end_same, is_all, is_few, one_text, read_all, read_begins, read_is}
use Rattle.esdk_program.proofs.Ends.{gains_none, refuses, same_front, same_none, stops}

-- ---- faults that a header hasn't

never_format : (fault : Fault) → is_format fault ≡ false → is_format fault ≡ true → ⊥
never_format fault kind is = let both : false ≡ true = sym kind ∙ is in cc both

-- M10 is that the input ended
cut_came : (uncommitted : Bool) (seen read : SourceState) → ListFindsFault uncommitted Truncated seen read → EndCame (list_settings uncommitted) seen read
cut_came uncommitted seen read has = elim has.came [
  | inl came ↦ absurd (never_format Truncated refl (header_names (list_settings uncommitted) (start came.bytes) Truncated came.at came.refused))
  | inr end ↦ end.1
]

-- any other stands in the bytes
fault_came : (uncommitted : Bool) (fault : Fault) (seen read : SourceState) → (fault ≡ Truncated → ⊥) → ListFindsFault uncommitted fault seen read → FaultCame (list_settings uncommitted) fault seen read
fault_came uncommitted fault seen read other has = elim has.came [ inl came ↦ came | inr end ↦ absurd (other end.0) ]

-- ---- the effect

-- a header of the bytes that came
header_is : (uncommitted : Bool) (o : Outlook) (bytes more : List ℕ) (h : HeaderValue) (end : Place) → o.bytes ≡ bytes ++ more → BeginsWith (list_settings uncommitted) bytes h end
    → listed_of uncommitted o ≡ done_with (list_of h) []
header_is uncommitted o bytes more h end is begins =
    let read : header (list_settings uncommitted) (start (bytes ++ more)) ≡ Read begins.parts (followed end more) =
    value_stays (header (list_settings uncommitted)) bytes more begins.parts end (IsSequential-header (list_settings uncommitted)) begins.read in
    let same : header_of (bytes ++ more) begins.parts ≡ h =
    header_stays (list_settings uncommitted) bytes more begins.parts end begins.read
    ∙ ap (made_of bytes begins.parts) (stored_is begins.parts.context h.stored begins.stored) ∙ sym begins.is in
    ap (listing_effect o) (ap (λ (b : List ℕ). header (list_settings uncommitted) (start b)) is ∙ read)
    ∙ ap (λ (b : List ℕ). done_with (list_of (header_of b begins.parts)) []) is ∙ ap (λ (x : HeaderValue). done_with (list_of x) []) same

-- a fault of them
fault_is : (uncommitted : Bool) (o : Outlook) (bytes more : List ℕ) (fault : Fault) (at : ℕ) → o.bytes ≡ bytes ++ more → header (list_settings uncommitted) (start bytes) ≡ Refused fault at
    → listed_of uncommitted o ≡ refused [] (failures.Fault fault)
fault_is uncommitted o bytes more fault at is refuses =
    ap (listing_effect o)
    (ap (λ (b : List ℕ). header (list_settings uncommitted) (start b)) is ∙ fault_stays (header (list_settings uncommitted)) bytes more fault at (IsSequential-header (list_settings uncommitted)) refuses)

-- no whole header
cut_is : (uncommitted : Bool) (o : Outlook) (bytes : List ℕ) (end : TextEnd) → o.bytes ≡ bytes → o.end ≡ end → header (list_settings uncommitted) (start bytes) ≡ Wanting
    → listed_of uncommitted o ≡ refused [] (cut_short end)
cut_is uncommitted o bytes end all ends_so wanting =
    ap (listing_effect o) (ap (λ (b : List ℕ). header (list_settings uncommitted) (start b)) all ∙ wanting) ∙ ap (λ (e : TextEnd). refused [] (cut_short e)) ends_so

-- ---- what the run came to

module _ (r : Run) (world : World) (of : IsOf r world) (uncommitted : Bool) (unwritten : Type 0) (same : unwritten → r.after.output ≡ r.before.output) where
  module _ (o : Outlook) where
    abbrev Listed : Type 0
    Listed = RunComesTo r world (listed_of uncommitted o)

    lists_all : (bytes more : List ℕ) (h : HeaderValue) (end : Place) → o.bytes ≡ bytes ++ more → BeginsWith (list_settings uncommitted) bytes h end → r.code ≡ 0
        → r.after.report ≡ r.before.report → Appends r.before.output.written r.after.output.written (list_of h) → Listed
    lists_all bytes more h end is begins zero quiet gained =
        subst (λ (e : Effect). RunComesTo r world e) (sym (header_is uncommitted o bytes more h end is begins))
        (inl (record { code = zero; output = gained; report = gains_none r.before.report r.after.report quiet }))

    lists_front : (bytes more : List ℕ) (h : HeaderValue) (end : Place) → o.bytes ≡ bytes ++ more → BeginsWith (list_settings uncommitted) bytes h end
        → Rose r.before.output.faults r.after.output.faults → Reports (failures.Outside outsides.SinkFault) r.code r.before.report r.after.report
        → AppendsFront r.before.output.written r.after.output.written (list_of h) → Listed
    lists_front bytes more h end is begins rose said front =
        subst (λ (e : Effect). RunComesTo r world e) (sym (header_is uncommitted o bytes more h end is begins))
        (stops r world (done_with (list_of h) []) (failures.Outside outsides.SinkFault) rose said front)

    lists_fault : (fault : Fault) (bytes more : List ℕ) (at : ℕ) → o.bytes ≡ bytes ++ more → header (list_settings uncommitted) (start bytes) ≡ Refused fault at
        → Reports (failures.Fault fault) r.code r.before.report r.after.report → unwritten → Listed
    lists_fault fault bytes more at is refuses_so said none =
        subst (λ (e : Effect). RunComesTo r world e) (sym (fault_is uncommitted o bytes more fault at is refuses_so))
        (refuses r world [] (failures.Fault fault) (same_none r.before.output r.after.output (same none)) said)

    lists_cut : (bytes : List ℕ) (end : TextEnd) → o.bytes ≡ bytes → o.end ≡ end → header (list_settings uncommitted) (start bytes) ≡ Wanting
        → Reports (cut_short end) r.code r.before.report r.after.report → unwritten → Listed
    lists_cut bytes end all ends_so wanting said none =
        subst (λ (e : Effect). RunComesTo r world e) (sym (cut_is uncommitted o bytes end all ends_so wanting))
        (refuses r world [] (cut_short end) (same_none r.before.output r.after.output (same none)) said)

    lists_none : (failure : Failure) → RunFailed r world failure → IsReported failure r.code r.before.report r.after.report → unwritten → Listed
    lists_none failure why said none =
        stops r world (listed_of uncommitted o) failure why said (same_front r.before.output r.after.output (listed_of uncommitted o).output (same none))

  -- ---- an input as it is

  abbrev plain : Outlook
  plain = outlook_of false world.input

  plain_fault : (fault : Fault) → ListFindsFault uncommitted fault r.before.input r.after.input → Reports (failures.Fault fault) r.code r.before.report r.after.report → unwritten → Listed plain
  plain_fault fault has said none = elim has.came [
    | inl came ↦
        (let begins = begins_input r.before.input r.after.input world.input came.bytes of.input came.came in
        lists_fault plain fault came.bytes begins.rest came.at begins.all came.refused said none)
    | inr end ↦
        (let begins = begins_input r.before.input r.after.input world.input end.1.bytes of.input end.1.came in
        lists_cut plain end.1.bytes ends.Whole (is_all r.after.input world.input end.1.bytes begins end.1.end.seen) refl end.1.wanting
        (subst (λ (f : Fault). Reports (failures.Fault f) r.code r.before.report r.after.report) end.0 said) none)
  ]

  abbrev Ended : Failure → SourceState → SourceState → Type 0
  Ended failure seen read = IsListCause uncommitted failure seen read r.before.output r.after.output
      × LeavesOutput uncommitted failure seen read r.before.output r.after.output unwritten

  plain_ends : (failure : Failure) → Ended failure r.before.input r.after.input → Reports failure r.code r.before.report r.after.report → Listed plain
  plain_ends (failures.Fault fault) ended said = plain_fault fault ended.0 said ended.1
  plain_ends (failures.Outside outsides.SinkFault) ended said =
      let begins = begins_input r.before.input r.after.input world.input ended.1.came.bytes of.input ended.1.came.came in
      lists_front plain ended.1.came.bytes begins.rest ended.1.header ended.1.came.end begins.all ended.1.came.begins ended.0 said ended.1.gained
  plain_ends (failures.Outside outsides.SourceFault) ended said = lists_none plain (failures.Outside outsides.SourceFault) ended.0.rose said ended.1
  plain_ends (failures.Outside outsides.InputTooLong) ended said =
      absurd (is_few r.after.input world.input ended.0.bytes (begins_input r.before.input r.after.input world.input ended.0.bytes of.input ended.0.came) of.few ended.0.most.count)
  plain_ends failures.Memory ended said = lists_none plain failures.Memory tt said ended.1
  plain_ends failure ended said = absurd ended.0

  plain_lists : Lists uncommitted r.before.input r.after.input r.before.output.written r.after.output.written → r.code ≡ 0 → r.after.report ≡ r.before.report → Listed plain
  plain_lists lists zero quiet =
      let begins = begins_input r.before.input r.after.input world.input lists.came.bytes of.input lists.came.came in
      lists_all plain lists.came.bytes begins.rest lists.header lists.came.end begins.all lists.came.begins zero quiet lists.gained

  -- ---- an armour text

  abbrev armoured : Outlook
  armoured = outlook_of true world.input

  text_lists : (x : ReadsText NoMoreTaken r.before.input r.after.input (λ seen read. Lists uncommitted seen read r.before.output.written r.after.output.written)) → r.code ≡ 0
      → r.after.report ≡ r.before.report → Listed armoured
  text_lists x zero quiet =
      let begins = read_begins r.before.input r.after.input world.input of.input of.few _ x x.so.came.bytes x.so.came.came in
      lists_all armoured x.so.came.bytes begins.0 x.so.header x.so.came.end begins.1 x.so.came.begins zero quiet x.so.gained

  -- M27
  text_bad : (number : ℕ) → EndsText r.before.input r.after.input (ends.Bad number)
      → (x : ReadsText AllRead r.before.input r.after.input (λ seen read. ListFindsFault uncommitted Truncated seen read × unwritten))
      → Reports (failures.Fault (BadArmour number)) r.code r.before.report r.after.report → Listed armoured
  text_bad number end x said =
      let cut = cut_came uncommitted x.seen x.read x.so.0 in
      let begins = begins_input r.before.input r.after.input world.input end.text of.input end.came in
      let one : end.text ≡ x.text = one_text r.before.input r.after.input end.text x.text end.came x.came in
      let bytes : armoured.bytes ≡ cut.bytes =
      bad_same r.after.input end.text world.input number begins of.few (subst (λ (t : List ℕ). length t ≤ 2 ^ 62) (sym one) x.few) end.ends
      ∙ ap (λ (t : List ℕ). (unarmoured t).bytes) one ∙ x.reach ∙ read_is r.before.input r.after.input world.input of.input of.few _ x cut.bytes cut.came in
      lists_cut armoured cut.bytes (ends.Bad number) bytes (end_same r.after.input end.text world.input (ends.Bad number) begins end.ends) cut.wanting said x.so.1

  -- M10
  text_cut : EndsText r.before.input r.after.input ends.Whole → (x : ReadsText AllRead r.before.input r.after.input (Ended (failures.Fault Truncated)))
      → Reports (failures.Fault Truncated) r.code r.before.report r.after.report → Listed armoured
  text_cut end x said =
      let cut = cut_came uncommitted x.seen x.read x.so.0 in
      lists_cut armoured cut.bytes ends.Whole (read_all r.before.input r.after.input world.input of.input of.few _ x cut.bytes cut.came x.reach (end.seen refl))
      (end_same r.after.input end.text world.input ends.Whole (begins_input r.before.input r.after.input world.input end.text of.input end.came) end.ends) cut.wanting said x.so.1

  text_fault : (fault : Fault) → (fault ≡ Truncated → ⊥) → (x : ReadsText NoMoreTaken r.before.input r.after.input (λ seen read. ListFindsFault uncommitted fault seen read × unwritten))
      → Reports (failures.Fault fault) r.code r.before.report r.after.report → Listed armoured
  text_fault fault other x said =
      let came = fault_came uncommitted fault x.seen x.read other x.so.0 in
      let begins = read_begins r.before.input r.after.input world.input of.input of.few _ x came.bytes came.came in
      lists_fault armoured fault came.bytes begins.0 came.at begins.1 came.refused said x.so.1

  text_ends : (failure : Failure) → ListEndsAs true uncommitted r.before.input r.after.input r.before.output r.after.output unwritten failure
      → Reports failure r.code r.before.report r.after.report → Listed armoured
  text_ends (failures.Fault (BadArmour number)) (end, x) said = text_bad number end x said
  text_ends (failures.Fault Truncated) (end, x) said = text_cut end x said
  text_ends (failures.Fault fault) x said = text_fault fault (λ is. cc is) x said
  text_ends (failures.Outside outsides.SourceFault) (rose, x) said = lists_none armoured (failures.Outside outsides.SourceFault) rose said x.so.1
  text_ends (failures.Outside outsides.InputTooLong) (long, x) said =
      absurd (is_few r.after.input world.input long.text (begins_input r.before.input r.after.input world.input long.text of.input long.came) of.few long.most.count)
  text_ends (failures.Outside outsides.SinkFault) x said =
      let begins = read_begins r.before.input r.after.input world.input of.input of.few _ x x.so.1.came.bytes x.so.1.came.came in
      lists_front armoured x.so.1.came.bytes begins.0 x.so.1.header x.so.1.came.end begins.1 x.so.1.came.begins x.so.0 said x.so.1.gained
  text_ends failures.Memory x said = lists_none armoured failures.Memory tt said x.so.1
  text_ends failure x said = absurd x.so.0

-- ---- the run

lists_as : (r : Run) (world : World) (of : IsOf r world) (armour uncommitted : Bool) (unwritten : Type 0) (same : unwritten → r.after.output ≡ r.before.output)
    → ListsAs armour uncommitted r.before.input r.after.input r.before.output.written r.after.output.written → r.code ≡ 0 → r.after.report ≡ r.before.report
    → RunComesTo r world (listed_of uncommitted (outlook_of armour world.input))
lists_as r world of false uncommitted unwritten same lists zero quiet = plain_lists r world of uncommitted unwritten same lists zero quiet
lists_as r world of true uncommitted unwritten same lists zero quiet = text_lists r world of uncommitted unwritten same lists zero quiet

ends_as : (r : Run) (world : World) (of : IsOf r world) (armour uncommitted : Bool) (unwritten : Type 0) (same : unwritten → r.after.output ≡ r.before.output) (failure : Failure)
    → ListEndsAs armour uncommitted r.before.input r.after.input r.before.output r.after.output unwritten failure → Reports failure r.code r.before.report r.after.report
    → RunComesTo r world (listed_of uncommitted (outlook_of armour world.input))
ends_as r world of false uncommitted unwritten same failure ended said = plain_ends r world of uncommitted unwritten same failure ended said
ends_as r world of true uncommitted unwritten same failure ended said = text_ends r world of uncommitted unwritten same failure ended said

pub list_does : (r : Run) (asked : ListWords) (unchanged : Unchanged) (world : World) (of : IsOf r world) (same : unchanged.output → r.after.output ≡ r.before.output)
    → ListRuns asked r.before r.after unchanged r.code → RunComesTo r world (list_effect asked world)
unfolding list_effect
list_does r asked unchanged world of same (inl (done, lists)) = lists_as r world of asked.armour asked.uncommitted unchanged.output same lists done.status done.same
list_does r asked unchanged world of same (inr fails) = ends_as r world of asked.armour asked.uncommitted unchanged.output same fails.failure fails.because fails.said
