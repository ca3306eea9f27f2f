-- What `list` comes to of an input that is read as armour text, by how the listing of what the text
-- gives ended, and by the text's end.
use Rattle.std.proofs.Common.{◌≡◌, ◌∙◌, ℕ, Bool, true, false, List, [], Option, Some, None, Ok, Err, refl, sym, ap, subst, arith, inl, inr}
use Rattle.std.specs.Prelude.{IfErr, OnOk, ◌≢◌}
use Rattle.std.specs.declared.result.Result.{Result}
use Rattle.esdk_fields.specs.declared.faults.Fault.{Fault}
use Rattle.esdk_fields.specs.declared.faults.Fault.TheVariants.{BadArmour, Truncated}
use Rattle.esdk_fields.specs.declared.refusals.Outside.TheVariants.{InputTooLong, SourceFault}
use Rattle.esdk_fields.specs.Place.{start}
use Rattle.esdk_fields.specs.Reading.{Wanting}
use Rattle.esdk_base.specs.Streams.{OnTold, SinkState, SourceState}
use Rattle.header_codec.specs.Header.{HeaderValue}
use Rattle.header_codec.specs.Table.{header, opening}
use Rattle.header_input.specs.Taking.{EndCame}
use Rattle.esdk_decrypt.specs.declared.errors.DecryptError.{DecryptError}
use Rattle.whole_input.proofs.Coming.{came_none}
use Rattle.esdk_list.specs.List.{BeginsWithHeader, ListFindsFault, ListLacksMemory, IsListCause, LeavesOutput, Lists, reading_fault_at_end, listing_fault, list_settings}
use Rattle.esdk_report.specs.declared.failure.Failure.{Failure}
use Rattle.esdk_report.specs.declared.failure.Failure.TheVariants as failures
use Rattle.esdk_run.specs.Failures.{decryption_failure}
use Rattle.esdk_run.specs.Run.{AgreesWith, EndsBy}
use Rattle.esdk_run.specs.Unarmoured.{given_by_text, outlook_of}
use Rattle.esdk_run.specs.UnarmouredList.{ListEndsAs, ListsAs, WantsHeader, wants_header}
use Rattle.esdk_run.proofs.FormatFaults.{header_names, is_format}
use Rattle.esdk_run.proofs.Statuses.{IsFault, fault_status, not_done}
use Rattle.esdk_run.proofs.Unarmouring.{IsOfBytes, ReadsOver, judged_sound, of_told, on_told, still_reads, text_decides, text_ends}

-- ---- bytes that end within a header

never_format : (fault : Fault) (f : Fault) → is_format fault ≡ false → f ≡ fault → is_format f ≡ true → ⊥
never_format fault f kind same is = let both : false ≡ true = sym kind ∙ subst (λ (g : Fault). is_format g ≡ true) same is in cc both

-- before the first byte, bytes are wanted
wanting_first : (uncommitted : Bool) → header (list_settings uncommitted) (start []) ≡ Wanting
unfolding header opening
wanting_first uncommitted = refl

-- Nothing came, and memory ran out.
pub lists_nothing : (uncommitted : Bool) (input : SourceState) → ListLacksMemory uncommitted input input
lists_nothing uncommitted input = inl (record {
  bytes = [];
  came = came_none input;
  last = record { before = []; piece = []; all = refl; few = omega arith; was = wanting_first uncommitted };
  faults = refl;
})

-- M10 is that the input ended
cut_came : (uncommitted : Bool) (seen read : SourceState) → ListFindsFault uncommitted Truncated seen read → EndCame (list_settings uncommitted) seen read
cut_came uncommitted seen read has = elim has.came [
  | inl came ↦ absurd (never_format Truncated Truncated refl refl (header_names (list_settings uncommitted) (start came.bytes) Truncated came.at came.refused))
  | inr end ↦ end.1
]

-- M27 is no fault of a header
never_m27 : (uncommitted : Bool) (number : ℕ) (seen read : SourceState) → ListFindsFault uncommitted (BadArmour number) seen read → ⊥
never_m27 uncommitted number seen read has = elim has.came [
  | inl came ↦ never_format (BadArmour number) (BadArmour number) refl refl (header_names (list_settings uncommitted) (start came.bytes) (BadArmour number) came.at came.refused)
  | inr end ↦ (let same : BadArmour number ≡ Truncated = end.0 in cc same)
]

-- ---- how a listing ended

-- why a listing ended, and what it left
abbrev Ended : Bool → Failure → SinkState → SinkState → Type 0 → SourceState → SourceState → Type 0
Ended uncommitted failure output put unwritten seen read =
    IsListCause uncommitted failure seen read output put × LeavesOutput uncommitted failure seen read output put unwritten

-- what is so of the bytes then
ends_known : (uncommitted : Bool) (seen read : SourceState) (output put : SinkState) (unwritten : Type 0) (failure : Failure) → Ended uncommitted failure output put unwritten seen read
    → IsOfBytes failure seen read (wants_header (Err failure)) (WantsHeader uncommitted seen read × unwritten)
ends_known uncommitted seen read output put unwritten (failures.Fault (BadArmour number)) ended = never_m27 uncommitted number seen read ended.0
ends_known uncommitted seen read output put unwritten (failures.Fault Truncated) ended =
    let came = cut_came uncommitted seen read ended.0 in (refl, record { bytes = came.bytes; came = came.came; end = came.end })
ends_known uncommitted seen read output put unwritten (failures.Outside SourceFault) ended =
    (ended.0.rose, (record { bytes = ended.0.bytes; came = ended.0.came; wanting = ended.0.wanting }, ended.1))
ends_known uncommitted seen read output put unwritten (failures.Outside InputTooLong) ended = (
  record { bytes = ended.0.bytes; came = ended.0.came; most = ended.0.most },
  (record { bytes = ended.0.bytes; came = ended.0.came; wanting = ended.0.wanting }, ended.1),
)
ends_known uncommitted seen read output put unwritten failure ended = refl

-- it ended within a header
is_cut : (uncommitted : Bool) (seen read : SourceState) (output put : SinkState) (unwritten : Type 0) (result : Result (Unit {0}) Failure) → wants_header result ≡ true
    → IfErr result (λ failure. IsListCause uncommitted failure seen read output put)
    → IfErr result (λ failure. LeavesOutput uncommitted failure seen read output put unwritten)
    → ListFindsFault uncommitted Truncated seen read × unwritten
is_cut uncommitted seen read output put unwritten (Ok done) undecided cause leaves = absurd (cc undecided)
is_cut uncommitted seen read output put unwritten (Err (failures.Fault Truncated)) undecided cause leaves = (cause, leaves)
is_cut uncommitted seen read output put unwritten (Err (failures.Fault fault)) undecided cause leaves = absurd (cc undecided)
is_cut uncommitted seen read output put unwritten (Err failure) undecided cause leaves = absurd (cc undecided)

-- ---- the text that gives the bytes

module _ (uncommitted : Bool) (input taken seen read : SourceState) where
  pub listed_text : (old new : Option (List ℕ)) (result : Result (Unit {0}) Failure) → ReadsOver input taken seen read (wants_header result) (Ok tt)
      → OnOk result (Lists uncommitted seen read old new) → OnOk result (ListsAs true uncommitted input taken old new)
  listed_text old new (Ok done) over lists = still_reads over _ refl lists
  listed_text old new (Err failure) over lists = tt

  module _ (output put : SinkState) (unwritten : Type 0) where
    pub text_undone : (result : Result (Unit {0}) Failure) → ReadsOver input taken seen read (wants_header result) (Ok tt)
        → IfErr result (λ failure. IsListCause uncommitted failure seen read output put)
        → IfErr result (λ failure. LeavesOutput uncommitted failure seen read output put unwritten)
        → IfErr result (ListEndsAs true uncommitted input taken output put unwritten)
    text_undone (Ok done) over cause leaves = tt
    text_undone (Err failure) over cause leaves =
        text_ends over _ _ _ failure (cause, leaves) (ends_known uncommitted seen read output put unwritten failure (cause, leaves))

    -- the text's end decides
    pub text_refused : (result : Result (Unit {0}) Failure) (error : DecryptError) → ReadsOver input taken seen read (wants_header result) (Err error)
        → IfErr result (λ failure. IsListCause uncommitted failure seen read output put)
        → IfErr result (λ failure. LeavesOutput uncommitted failure seen read output put unwritten)
        → ListEndsAs true uncommitted input taken output put unwritten (decryption_failure error)
    text_refused result error over cause leaves =
        let cut = is_cut uncommitted seen read output put unwritten result (judged_sound error over) cause leaves in
        let came = cut_came uncommitted seen read cut.0 in
        text_decides _ _ _ error over came.end.faults cut
        (record { bytes = came.bytes; came = came.came; wanting = came.wanting }, cut.1)

-- ---- the status agrees with the header of the input

agrees : (code : ℕ) (o : Option Fault) → code ≢ 0 → (o ≡ None → code ≢ 1) → AgreesWith code o
agrees code None undone sound = sound refl
agrees code (Some fault) undone sound = undone

-- a header that was listed has no fault
begins_sound : (uncommitted : Bool) (left : Option (List ℕ)) (h : HeaderValue) → OnTold left (BeginsWithHeader uncommitted h) → OnTold left (λ bytes. listing_fault uncommitted bytes ≡ None)
begins_sound uncommitted None h begins = tt
begins_sound uncommitted (Some bytes) h begins = ap reading_fault_at_end begins.1.read

-- a failure that is called a fault is one of the bytes that are read
fault_told : (armour uncommitted : Bool) (input taken : SourceState) (output put : SinkState) (unwritten : Type 0) (fault : Fault) (bytes : List ℕ) → input.left ≡ Some bytes
    → ListEndsAs armour uncommitted input taken output put unwritten (failures.Fault fault) → (f : Fault) × (listing_fault uncommitted (outlook_of armour bytes).bytes ≡ Some f)
fault_told false uncommitted input taken output put unwritten fault bytes is ended = (fault, of_told input.left _ bytes is ended.0.told)
fault_told true uncommitted input taken output put unwritten (BadArmour number) bytes is ended =
    let x = ended.1 in (Truncated, of_told x.seen.left _ _ (x.gives ∙ ap (λ (l : Option (List ℕ)). given_by_text l) is) x.so.0.told)
fault_told true uncommitted input taken output put unwritten Truncated bytes is ended =
    let x = ended.1 in (Truncated, of_told x.seen.left _ _ (x.gives ∙ ap (λ (l : Option (List ℕ)). given_by_text l) is) x.so.0.told)
fault_told true uncommitted input taken output put unwritten fault bytes is ended =
    (fault, of_told ended.seen.left _ _ (ended.gives ∙ ap (λ (l : Option (List ℕ)). given_by_text l) is) ended.so.0.told)

lists_told : (armour uncommitted : Bool) (input taken : SourceState) (old new : Option (List ℕ)) (bytes : List ℕ) → input.left ≡ Some bytes
    → ListsAs armour uncommitted input taken old new → listing_fault uncommitted (outlook_of armour bytes).bytes ≡ None
lists_told false uncommitted input taken old new bytes is lists = of_told input.left _ bytes is (begins_sound uncommitted input.left lists.header lists.begins)
lists_told true uncommitted input taken old new bytes is x =
    of_told x.seen.left _ _ (x.gives ∙ ap (λ (l : Option (List ℕ)). given_by_text l) is) (begins_sound uncommitted x.seen.left x.so.header x.so.begins)

pub status_agrees : (armour uncommitted : Bool) (input taken : SourceState) (output put : SinkState) (unwritten : Type 0) (code : ℕ) (report reported : SinkState)
    → EndsBy (ListsAs armour uncommitted input taken output.written put.written) (ListEndsAs armour uncommitted input taken output put unwritten) code report reported
    → OnTold input.left (λ bytes. AgreesWith code (listing_fault uncommitted (outlook_of armour bytes).bytes))
status_agrees armour uncommitted input taken output put unwritten code report reported (inl done) =
    on_told input.left _ (λ bytes is.
    let none = lists_told armour uncommitted input taken output.written put.written bytes is done.1 in
    subst (λ (o : Option Fault). AgreesWith code o) (sym none) (λ one. absurd (omega (arith, done.0.status, one))))
status_agrees armour uncommitted input taken output put unwritten code report reported (inr fails) =
    on_told input.left _ (λ bytes is.
    agrees code (listing_fault uncommitted (outlook_of armour bytes).bytes) (λ zero. not_done fails.failure code report reported fails.said zero)
    (λ none one.
    let named : IsFault fails.failure report reported = fault_status fails.failure code report reported fails.said one in
    let told = fault_told armour uncommitted input taken output put unwritten named.fault bytes is
    (subst (λ (f : Failure). ListEndsAs armour uncommitted input taken output put unwritten f) named.is fails.because) in
    let both : Some told.0 ≡ None = sym told.1 ∙ none in cc both))
