-- What `decrypt` says over the tree that it gives back.
use Rattle.std.proofs.Common.{◌≡◌, ◌∙◌, ℕ, Bool, true, false, List, Some, inl, inr, refl, ap, subst, arith}
use Rattle.std.specs.Prelude.{⊤}
use Rattle.std.specs.Io.KnownBytes.{Appends}
use Rattle.esdk_args.specs.declared.request.DecryptWords.{DecryptWords}
use Rattle.esdk_fields.specs.Counts.{Stayed}
use Rattle.esdk_base.specs.Streams.{SinkState}
use Rattle.esdk_fields.specs.declared.faults.Fault.{Fault}
use Rattle.context_codec.specs.Context.{KeyValue}
use Rattle.keyring_trait.specs.Keyring.{KeyringMeaning}
use Rattle.keyring_trait.specs.Wrapping.{WrapKeyValue}
use Rattle.esdk_decrypt.specs.declared.errors.DecryptError.{DecryptError}
use Rattle.esdk_decrypt.specs.declared.errors.DecryptError.TheVariants as errors
use Rattle.esdk_decrypt.specs.Decrypt.{DecryptEnds, DecryptFindsFault}
use Rattle.esdk_decrypt.specs.Laws.{IsWrittenFor, Written, written_message}
use Rattle.esdk_decrypt.specs.Told.{Reader, decrypting_by}
use Rattle.esdk_decrypt.proofs.RoundTrip.{text_decrypted, written_whole}
use Rattle.esdk_decrypt.proofs.WholeInputs.{all_decrypted, first_fault, memory_alone}
use Rattle.esdk_report.specs.declared.failure.Failure.{Failure}
use Rattle.esdk_report.specs.declared.failure.Failure.TheVariants as failures
use Rattle.esdk_run.specs.Decrypt.{decrypt_asked, decrypt_settings, reader_of}
use Rattle.esdk_run.specs.Failures.{decryption_failure}
use Rattle.esdk_run.specs.Objects.{Objects, Unchanged}
use Rattle.esdk_report.specs.Report.{ShowsContext}
use Rattle.esdk_run.specs.Run.{DecryptRuns, TellsOrLacksMemory}
use Rattle.esdk_run.specs.Told.{GivesBack, TreeWasReadAnd, IsDoneOrMemory, NamesFault, StreamsDontFail, HasPairsAndKeys, ShowsWhole}
use Rattle.esdk_run.specs.Trees.{Trees}
use Rattle.esdk_run.specs.Unarmoured.{TextEnds, outlook_of}
use Rattle.esdk_run.specs.UnarmouredDecrypt.{DecryptEndsAs, ReleasesSound}
use Rattle.esdk_run.specs.UnarmouredTold.{IsWholeAs, TellsAs}
use Rattle.armour_core.specs.ArmourText.{armour_text}
use Rattle.armour_core.specs.Outlook.{text_outlook}
use Rattle.armour_core.specs.declared.text_end.TextEnd.TheVariants.{Whole}
use Rattle.whole_input.specs.Taken.{EndSeen}
use Rattle.esdk_run.proofs.Promised.{SaysWhatItReads, SaysTheJudgement, DecryptsWholeMessages, ReadsBack}
use Rattle.esdk_run.proofs.Given.{one_context}
use Rattle.esdk_run.proofs.Keys.{reader_allows}
use Rattle.esdk_run.proofs.Reading.{Ending, says_what_is_read}
use Rattle.esdk_run.proofs.Statuses.{fault_status, memory_status, not_done}
use Rattle.esdk_run.proofs.TreesBack.{HadTree, had_tree, if_none_failed, told_then}
use Rattle.esdk_run.proofs.Unarmouring.{of_told}
use Rattle.esdk_run.proofs.UnarmouredReaders.{decrypts_as_allowed, ends_as_allowed}
use Rattle.esdk_run.proofs.UnarmouredTelling.{armoured_bytes, text_fault, text_memory, text_seen, written_text}

-- ---- who reads is determined by the words and the tree

-- a decryption with the tree ended as the reader's with the tree's keys does, where no keyring failed
pub reader_ends : (asked : DecryptWords) (before after : Objects) (unwritten : Type 0) (code : ℕ) (pairs given : List KeyValue) (tree left : KeyringMeaning)
    (keys : List WrapKeyValue) → pairs ≡ given → tree.keys ≡ Some keys → Stayed tree.faults left.faults
    → Ending asked.armour (decrypt_asked asked pairs tree left) before after unwritten code → Ending asked.armour (decrypting_by (reader_of asked given keys)) before after unwritten code
reader_ends asked before after unwritten code pairs given tree left keys is told stayed (inl (context, done, shown)) =
    subst (λ (g : List KeyValue). Ending asked.armour (decrypting_by (reader_of asked g keys)) before after unwritten code) is
    (inl (context, decrypts_as_allowed asked.armour _ _ (decrypt_settings asked) pairs before.input after.input before.output after.output context (reader_allows asked pairs tree left keys told stayed) done, shown))
reader_ends asked before after unwritten code pairs given tree left keys is told stayed (inr (error, ends, said)) =
    subst (λ (g : List KeyValue). Ending asked.armour (decrypting_by (reader_of asked g keys)) before after unwritten code) is
    (inr (error, ends_as_allowed asked.armour _ _ (decrypt_settings asked) pairs before.input after.input before.output after.output unwritten error (reader_allows asked pairs tree left keys told stayed) ends, said))

-- so what is so of each such end is so of the run
over_reader : (So : Type 0) (trees : Trees) (asked : DecryptWords) (before after : Objects) (unchanged : Unchanged) (code : ℕ) (given : List KeyValue)
    (keys : List WrapKeyValue) → DecryptRuns trees asked before after unchanged code → HasPairsAndKeys trees asked given keys
    → (Ending asked.armour (decrypting_by (reader_of asked given keys)) before after unchanged.output code → So) → TreeWasReadAnd trees asked.keyring before.shelf after.shelf So
over_reader So trees asked before after unchanged code given keys runs reads so =
    let had : HadTree trees asked before after unchanged.output code =
    had_tree trees asked before after unchanged code reads.left reads.kept runs in
    if_none_failed trees _ _ _ _ _ had.tree had.left So had.has
    (λ stayed. so (reader_ends asked before after unchanged.output code had.given given had.tree had.left keys (one_context asked.pairs had.given given had.has.given.made reads.pairs)
    (told_then trees had.tree had.left reads.left keys had.has.goes had.has.kept reads.kept reads.told) stayed had.ended))

-- ---- what is read of the bytes that were taken

pub says_what_it_reads : (trees : Trees) (asked : DecryptWords) (before after : Objects) (unchanged : Unchanged) (code : ℕ)
    → (unchanged.output → after.output ≡ before.output) → DecryptRuns trees asked before after unchanged code
    → SaysWhatItReads trees asked before after code
says_what_it_reads trees asked before after unchanged code same runs given keys reads =
    over_reader _ trees asked before after unchanged code given keys runs reads
    (λ ended. says_what_is_read asked.armour (reader_of asked given keys) before after unchanged.output code same ended)

-- ---- only want of memory keeps a whole message from being decrypted

-- a report that doesn't fail shows the context, unless memory is wanting for its line
pub context_shown : (pairs : List KeyValue) (code : ℕ) (before after : Objects) → StreamsDontFail before after
    → TellsOrLacksMemory pairs code before.report after.report → IsDoneOrMemory code
context_shown pairs code before after nothing (inl (inl shown)) = inl shown.status
context_shown pairs code before after nothing (inl (inr lost)) = absurd (omega (arith, nothing.reporting, lost.rose))
context_shown pairs code before after nothing (inr lacking) = inr (memory_status failures.Memory code before.report after.report refl lacking)

only_memory : (armour : Bool) (reader : Reader) (before after : Objects) (unwritten : Type 0) (bytes : List ℕ) (error : DecryptError) → IsWholeAs armour reader before.input bytes
    → StreamsDontFail before after → DecryptEndsAs armour (decrypting_by reader) before.input after.input before.output after.output unwritten error → error ≡ errors.Memory
only_memory true reader before after unwritten bytes error whole nothing ends = text_memory reader before after unwritten bytes error whole nothing ends
only_memory false reader before after unwritten bytes error whole nothing ends =
    memory_alone reader before.input after.input before.output after.output unwritten bytes error whole nothing.reading nothing.writing ends

whole_decrypted : (armour : Bool) (reader : Reader) (before after : Objects) (unwritten : Type 0) (code : ℕ) (bytes : List ℕ) → IsWholeAs armour reader before.input bytes
    → StreamsDontFail before after → Ending armour (decrypting_by reader) before after unwritten code → IsDoneOrMemory code
whole_decrypted armour reader before after unwritten code bytes whole nothing (inl (context, done, told)) = context_shown context code before after nothing told
whole_decrypted armour reader before after unwritten code bytes whole nothing (inr (error, ends, said)) =
    let memory : error ≡ errors.Memory = only_memory armour reader before after unwritten bytes error whole nothing ends in
    inr (memory_status (decryption_failure error) code before.report after.report (ap decryption_failure memory) said)

pub decrypts_whole_messages : (trees : Trees) (asked : DecryptWords) (before after : Objects) (unchanged : Unchanged) (code : ℕ)
    → DecryptRuns trees asked before after unchanged code → DecryptsWholeMessages trees asked before after code
decrypts_whole_messages trees asked before after unchanged code runs given keys bytes reads whole nothing =
    over_reader _ trees asked before after unchanged code given keys runs reads
    (λ ended. whole_decrypted asked.armour (reader_of asked given keys) before after unchanged.output code bytes whole nothing ended)

-- ---- what is said is the judgement of all bytes

-- status 0 shows the context
pub zero_shows : (pairs : List KeyValue) (code : ℕ) (report reported : SinkState) → TellsOrLacksMemory pairs code report reported → code ≡ 0 → ShowsContext pairs code report reported
zero_shows pairs code report reported (inl (inl shown)) zero = shown
zero_shows pairs code report reported (inl (inr lost)) zero = absurd (omega (arith, lost.status, zero))
zero_shows pairs code report reported (inr lacking) zero = absurd (not_done failures.Memory code report reported lacking zero)

-- status 1 doesn't come with a context
pub one_shows_none : (pairs : List KeyValue) (code : ℕ) (report reported : SinkState) → TellsOrLacksMemory pairs code report reported → code ≡ 1 → ⊥
one_shows_none pairs code report reported (inl (inl shown)) one = omega (arith, shown.status, one)
one_shows_none pairs code report reported (inl (inr lost)) one = omega (arith, lost.status, one)
one_shows_none pairs code report reported (inr lacking) one =
    let five : code ≡ 5 = memory_status failures.Memory code report reported refl lacking in omega (arith, five, one)

-- an end that is called a fault is that fault
fault_ended : (reader : Reader) (before after : Objects) (unwritten : Type 0) (fault : Fault) (error : DecryptError) → decryption_failure error ≡ failures.Fault fault
    → DecryptEnds (decrypting_by reader) before.input after.input before.output after.output unwritten error → DecryptFindsFault (decrypting_by reader) before.input after.input before.output after.output fault
fault_ended reader before after unwritten fault (errors.Fault other) is ends =
    let same : other ≡ fault = cc in subst (λ (f : Fault). DecryptFindsFault (decrypting_by reader) before.input after.input before.output after.output f) same ends
fault_ended reader before after unwritten fault (errors.Outside outside) is ends = absurd cc
fault_ended reader before after unwritten fault errors.Memory is ends = absurd cc

whole_said : (armour : Bool) (asked : DecryptWords) (before after : Objects) (unwritten : Type 0) (code : ℕ) (given : List KeyValue) (keys : List WrapKeyValue) (bytes : List ℕ)
    → before.input.left ≡ Some bytes → code ≡ 0 → Ending armour (decrypting_by (reader_of asked given keys)) before after unwritten code
    → ShowsWhole asked given keys (outlook_of armour bytes) before after code
whole_said false asked before after unwritten code given keys bytes told zero (inl (context, done, shown)) = record {
  context = context;
  end = refl;
  message = all_decrypted (reader_of asked given keys) before.input after.input before.output after.output context bytes told done;
  shown = zero_shows context code before.report after.report shown zero;
}
whole_said true asked before after unwritten code given keys text told zero (inl (context, (ends, x), shown)) = record {
  context = context;
  end = of_told before.input.left (λ t. (text_outlook t).end ≡ Whole) text told ends.told;
  message = all_decrypted (reader_of asked given keys) x.seen x.read before.output after.output context (text_outlook text).bytes (text_seen before.input after.input _ text x told) x.so;
  shown = zero_shows context code before.report after.report shown zero;
}
whole_said armour asked before after unwritten code given keys bytes told zero (inr (error, ends, said)) = absurd (not_done (decryption_failure error) code before.report after.report said zero)

fault_said : (armour : Bool) (asked : DecryptWords) (before after : Objects) (unwritten : Type 0) (code : ℕ) (given : List KeyValue) (keys : List WrapKeyValue) (bytes : List ℕ)
    → before.input.left ≡ Some bytes → code ≡ 1 → Ending armour (decrypting_by (reader_of asked given keys)) before after unwritten code
    → NamesFault asked given keys (outlook_of armour bytes) before after
fault_said armour asked before after unwritten code given keys bytes told one (inl (context, done, shown)) = absurd (one_shows_none context code before.report after.report shown one)
fault_said false asked before after unwritten code given keys bytes told one (inr (error, ends, said)) =
    let named = fault_status (decryption_failure error) code before.report after.report said one in
    let first = first_fault (reader_of asked given keys) before.input after.input before.output after.output bytes named.fault told
    (fault_ended (reader_of asked given keys) before after unwritten named.fault error named.is ends) in
    record { fault = named.fault; cause = first.0; gained = first.1; line = named.line }
fault_said true asked before after unwritten code given keys text told one (inr (error, ends, said)) =
    let named = fault_status (decryption_failure error) code before.report after.report said one in
    let first = text_fault (reader_of asked given keys) before after unwritten text named.fault error told named.is
    (subst (λ (f : Failure). TextEnds f before.input after.input
    (λ seen read. DecryptEnds (decrypting_by (reader_of asked given keys)) seen read before.output after.output unwritten error)
    (λ seen read. ReleasesSound (decrypting_by (reader_of asked given keys)) seen read before.output after.output (EndSeen seen read))
    (λ seen read. ReleasesSound (decrypting_by (reader_of asked given keys)) seen read before.output after.output (λ bytes. ⊤))) named.is ends) in
    record { fault = named.fault; cause = first.cause; gained = first.gained; line = named.line }

pub says_the_judgement : (trees : Trees) (asked : DecryptWords) (before after : Objects) (unchanged : Unchanged) (code : ℕ)
    → DecryptRuns trees asked before after unchanged code → SaysTheJudgement trees asked before after code
says_the_judgement trees asked before after unchanged code runs given keys bytes reads told =
    over_reader _ trees asked before after unchanged code given keys runs reads
    (λ ended. (
      λ zero. whole_said asked.armour asked before after unchanged.output code given keys bytes told zero ended,
      λ one. fault_said asked.armour asked before after unchanged.output code given keys bytes told one ended,
    ))

-- ---- round trip

gives_back : (m : Written) (context : List KeyValue) (before after : Objects) (code : ℕ) → Appends before.output.written after.output.written m.text → context ≡ m.context
    → ShowsContext context code before.report after.report → GivesBack m.text m.context before after code
gives_back m context before after code gained is shown =
    record { gained = gained; shown = subst (λ (c : List KeyValue). ShowsContext c code before.report after.report) is shown }

text_given : (armour : Bool) (reader : Reader) (before after : Objects) (unwritten : Type 0) (code : ℕ) (writers : List WrapKeyValue) (m : Written)
    → IsWrittenFor reader writers m → TellsAs armour before.input (written_message m) → code ≡ 0 → Ending armour (decrypting_by reader) before after unwritten code
    → GivesBack m.text m.context before after code
text_given false reader before after unwritten code writers m written tells zero (inl (context, done, shown)) =
    let given_back = text_decrypted reader writers m before.input after.input before.output after.output context written tells.0 done in
    gives_back m context before after code given_back.0 given_back.1 (zero_shows context code before.report after.report shown zero)
text_given true reader before after unwritten code writers m written tells zero (inl (context, (ends, x), shown)) =
    let bytes : List ℕ = written_message m in
    let seen_is : x.seen.left ≡ Some bytes = text_seen before.input after.input _ (armour_text bytes) x tells.1 ∙ ap (λ (b : List ℕ). Some b) (armoured_bytes bytes tells.0 tells.2) in
    let given_back = text_decrypted reader writers m x.seen x.read before.output after.output context written seen_is x.so in
    gives_back m context before after code given_back.0 given_back.1 (zero_shows context code before.report after.report shown zero)
text_given armour reader before after unwritten code writers m written tells zero (inr (error, ends, said)) = absurd (not_done (decryption_failure error) code before.report after.report said zero)

written_done : (armour : Bool) (reader : Reader) (before after : Objects) (unwritten : Type 0) (code : ℕ) (writers : List WrapKeyValue) (m : Written)
    → IsWrittenFor reader writers m → TellsAs armour before.input (written_message m) → StreamsDontFail before after → Ending armour (decrypting_by reader) before after unwritten code
    → IsDoneOrMemory code
written_done false reader before after unwritten code writers m written tells nothing ended =
    whole_decrypted false reader before after unwritten code (written_message m) (written_whole reader writers m before.input written tells.0 tells.1) nothing ended
written_done true reader before after unwritten code writers m written tells nothing ended =
    whole_decrypted true reader before after unwritten code (armour_text (written_message m)) (written_text reader writers m before.input written tells.0 tells.1 tells.2) nothing ended

pub reads_back : (trees : Trees) (asked : DecryptWords) (before after : Objects) (unchanged : Unchanged) (code : ℕ)
    → DecryptRuns trees asked before after unchanged code → ReadsBack trees asked before after code
reads_back trees asked before after unchanged code runs given keys writers m reads written tells =
    over_reader _ trees asked before after unchanged code given keys runs reads
    (λ ended. (
      λ zero. text_given asked.armour (reader_of asked given keys) before after unchanged.output code writers m written tells zero ended,
      λ nothing. written_done asked.armour (reader_of asked given keys) before after unchanged.output code writers m written tells nothing ended,
    ))
