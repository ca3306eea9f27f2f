-- What the program does: a function of its words and of the world. Each command is one function,
-- in the words of docs/FORMAT.md, "The commands".
use Rattle.std.specs.Prelude.{ℕ, List, [], ◌∷◌, ◌++◌, length, map, take, nat_le, Bool, true, false}
use Rattle.std.specs.Prelude.{Option, Some, None, Result, Ok, Err, IfSome}
use Rattle.esdk_args.specs.declared.pair_words.PairWord.{PairWord}
use Rattle.esdk_args.specs.declared.request.DecryptWords.{DecryptWords}
use Rattle.esdk_args.specs.declared.request.EncryptWords.{EncryptWords}
use Rattle.esdk_args.specs.declared.request.ExtractWords.{ExtractWords}
use Rattle.esdk_args.specs.declared.request.ListWords.{ListWords}
use Rattle.esdk_args.specs.declared.request.MigrateWords.{MigrateWords}
use Rattle.esdk_args.specs.declared.request.Request.TheVariants as requests
use Rattle.esdk_args.specs.declared.request.ResealWords.{ResealWords}
use Rattle.serde_json.specs.Written.{compact_text}
use Rattle.esdk_fields.specs.Place.{start}
use Rattle.esdk_fields.specs.Reading.{Reading, Read, Refused, Wanting}
use Rattle.esdk_fields.specs.declared.faults.Fault.{Fault}
use Rattle.esdk_fields.specs.declared.faults.Fault.TheVariants.{BadArmour, Truncated}
use Rattle.esdk_fields.specs.declared.refusals.FileRefusal.{FileRefusal}
use Rattle.esdk_fields.specs.declared.refusals.FileRefusal.TheVariants.{FileTooLong}
use Rattle.esdk_fields.specs.declared.refusals.Outside.TheVariants as outsides
use Rattle.esdk_fields.specs.declared.refusals.Refusal.{Refusal}
use Rattle.esdk_fields.specs.declared.refusals.Refusal.TheVariants.{TooManyFrames}
use Rattle.context_codec.specs.Context.{KeyValue}
use Rattle.keyring_trait.specs.Keyring.{KeyringMeaning}
use Rattle.keyring_trait.specs.Unlocking.{Unlocking, Refuses, Unlocks}
use Rattle.keyring_trait.specs.Wrapping.{WrapKeyValue, active}
use Rattle.header_codec.specs.Table.{HeaderFields, header}
use Rattle.body_format.specs.declared.verdicts.Verdict.{Verdict}
use Rattle.body_format.specs.declared.verdicts.Verdict.TheVariants as verdicts
use Rattle.message_format.specs.Judgement.{Judged, content, header_of}
use Rattle.message_format.specs.Reading.{unlocking}
use Rattle.stream_seal.specs.Start.{most_text, start_refusal, drawn_id, drawn_rest}
use Rattle.job_file.specs.declared.audit.AuditMessage.{AuditMessage}
use Rattle.job_file.specs.Audit.{audit_of}
use Rattle.audit_core.specs.declared.audited.Audited.{Audited}
use Rattle.audit_core.specs.Laws.{told_by}
use Rattle.audit_core.specs.Lines.{audit_lines}
use Rattle.audit_core.specs.Messages.{Message, audited}
use Rattle.armour_core.specs.Outlook.{Outlook}
use Rattle.armour_core.specs.declared.text_end.TextEnd.{TextEnd}
use Rattle.armour_core.specs.declared.text_end.TextEnd.TheVariants as ends
use Rattle.whole_input.specs.File.{most_file}
use Rattle.esdk_encrypt.specs.Encrypt.{drawn_count, written_so_far}
use Rattle.esdk_encrypt.specs.Gaining.{OutputForm, Front, Whole}
use Rattle.esdk_encrypt.specs.Told.{Writer, drawn_materials, message_by, writer_wraps}
use Rattle.esdk_decrypt.specs.Told.{Reader, judged_by, unlocked_to}
use Rattle.esdk_gen.specs.Generator.{gen_line}
use Rattle.extract_core.specs.Extracted.{ByteRange}
use Rattle.esdk_report.specs.Report.{context_line}
use Rattle.esdk_list.specs.List.{list_settings}
use Rattle.esdk_list.specs.Listing.{list_of}
use Rattle.esdk_report.specs.declared.failure.Failure.{Failure}
use Rattle.esdk_report.specs.declared.failure.Failure.TheVariants as failures
use Rattle.esdk_run.specs.ArmouredMessage.{output_form}
use Rattle.esdk_run.specs.Audit.{audit_status}
use Rattle.esdk_run.specs.Decrypt.{reader_of}
use Rattle.esdk_run.specs.Encrypt.{refusal_asked, run_writer}
use Rattle.esdk_run.specs.Extract.{extract_reader, range_asked}
use Rattle.esdk_run.specs.ExtractTold.{extracted_by}
use Rattle.esdk_run.specs.Failures.{words_failure}
use Rattle.esdk_run.specs.Giving.{refusal_over}
use Rattle.esdk_run.specs.Migrate.{value_asked}
use Rattle.esdk_run.specs.Pairs.{context_in}
use Rattle.esdk_run.specs.Promises.{Words}
use Rattle.esdk_run.specs.ResealTold.{reseal_reader, reseal_writer}
use Rattle.esdk_run.specs.Trees.{TreeReading, Trees}
use Rattle.esdk_run.specs.Unarmoured.{outlook_of}
use Rattle.esdk_program.specs.Effect.{RunComesTo, Effect, done_with, refused}
use Rattle.esdk_program.specs.World.{IsOf, Run, World}

-- ---- before a command begins

-- Q3 or Q2, where the pairs of the words aren't a context
abbrev pub with_context : Result (List KeyValue) Refusal → (List KeyValue → Option Effect)
    → Option Effect
with_context (Ok context) go = go context
with_context (Err refusal) go = Some (refused [] (failures.Refusal refusal))

-- K1 to K8, where the bytes of a keyring file are no tree
abbrev pub with_read : Result (List KeyringMeaning) FileRefusal → (KeyringMeaning → Option Effect)
    → Option Effect
with_read (Ok (tree ∷ [])) go = go tree
with_read (Ok trees) go = None
with_read (Err refusal) go = Some (refused [] (failures.File refusal))

-- K1 and so on, where the bytes of a file aren't read as a value
abbrev pub with_value_read : {A : Type 0} → Result A FileRefusal → (A → Option Effect)
    → Option Effect
with_value_read (Ok value) go = go value
with_value_read (Err refusal) go = Some (refused [] (failures.File refusal))

-- K10, where a file is too long
abbrev pub with_length : (few : Bool) → Option Effect → Option Effect
with_length true effect = effect
with_length false effect = Some (refused [] (failures.File FileTooLong))

-- X3, where there is no file
abbrev pub with_file : Option (List ℕ) → (List ℕ → Option Effect) → Option Effect
with_file (Some bytes) go = with_length (nat_le (length bytes) most_file) (go bytes)
with_file None go = Some (refused [] (failures.Outside outsides.ShelfFault))

-- the tree that the keyring file of this name is read as
abbrev pub with_tree : TreeReading → World → (name : List ℕ) → (KeyringMeaning → Option Effect)
    → Option Effect
with_tree read world name go = with_file (world.files name) (λ bytes. with_read (read bytes) go)

-- the context of the words, and then the tree
abbrev pub prepared : List PairWord → Trees → World → (name : List ℕ)
    → (List KeyValue → KeyringMeaning → Option Effect) → Option Effect
prepared words trees world name go =
    with_context (context_in words) (λ context. with_tree trees.read world name (go context))

-- the keys that a tree tells; of one that tells none nothing is said
abbrev pub with_told : {A : Type 0} → Option A → (A → Effect) → Option Effect
with_told (Some keys) go = Some (go keys)
with_told None go = None

-- the keys of two
abbrev pub with_both_keys : Option (List WrapKeyValue) → Option (List WrapKeyValue)
    → (List WrapKeyValue → List WrapKeyValue → Effect) → Option Effect
with_both_keys (Some keys) (Some others) go = Some (go keys others)
with_both_keys keys others go = None

-- ---- `encrypt`

-- a refusal, before anything is written
abbrev pub effect_unless : Option Refusal → Effect → Effect
effect_unless None effect = effect
effect_unless (Some refusal) effect = refused [] (failures.Refusal refusal)

-- the header and all frames but the last, as they are written while a text goes on
abbrev pub begun_by : Writer → (drawn text : List ℕ) → List ℕ
begun_by writer drawn text =
    written_so_far (drawn_materials writer (drawn_rest drawn)) writer.size (drawn_id drawn) text

-- the message of the text; or Q9, where a message has no room for it, behind all frames but the
-- last of what has room
abbrev pub sealed_effect : OutputForm → Writer → (drawn text : List ℕ) → (fits : Bool) → Effect
sealed_effect form writer drawn text true = done_with (form Whole (message_by writer drawn text)) []
sealed_effect form writer drawn text false =
    refused (form Front (begun_by writer drawn (take (most_text writer.size) text)))
    (failures.Refusal TooManyFrames)

-- Q7 or Q8, where no header can be written
abbrev pub sealed_with : OutputForm → Writer → (drawn text : List ℕ) → Effect
sealed_with form writer drawn text = effect_unless
    (start_refusal (drawn_materials writer (drawn_rest drawn)) writer.max_keys (drawn_id drawn))
    (sealed_effect form writer drawn text (nat_le (length text) (most_text writer.size)))

-- Q4, Q1, Q5 or Q6, where the request is refused; else the message of the whole input, made with
-- the first random bytes
unfoldable pub encrypt_effect : EncryptWords → Trees → World → Option Effect
encrypt_effect asked trees world = prepared asked.pairs trees world asked.keyring
    (λ context tree. with_told tree.keys
    (λ keys. let writer : Writer = run_writer asked context keys in
    effect_unless (refusal_asked asked context tree) (sealed_with (output_form asked.armour) writer
    (take (drawn_count (writer_wraps writer)) world.random) world.input)))

-- ---- `list`

-- what ends an input that goes on: M10, M27 or X6
abbrev pub cut_short : TextEnd → Failure
cut_short ends.Whole = failures.Fault Truncated
cut_short (ends.Bad number) = failures.Fault (BadArmour number)
cut_short ends.TooLong = failures.Outside outsides.InputTooLong

-- the listing, or the header's fault, or that no header is whole
abbrev pub listing_effect : Outlook → Reading HeaderFields → Effect
listing_effect o (Read parts body) = done_with (list_of (header_of o.bytes parts)) []
listing_effect o (Refused fault at) = refused [] (failures.Fault fault)
listing_effect o Wanting = refused [] (cut_short o.end)

-- of an input that gives these bytes and ends so
abbrev pub listed_of : (uncommitted : Bool) → Outlook → Effect
listed_of uncommitted o = listing_effect o (header (list_settings uncommitted) (start o.bytes))

-- the header at the front of the input, or of the bytes that its armour gives
unfoldable pub list_effect : ListWords → World → Effect
list_effect asked world = listed_of asked.uncommitted (outlook_of asked.armour world.input)

-- ---- `decrypt`

-- a fault of the bytes; else nothing, where they are a message; else what ends them
abbrev pub failure_at : Verdict → TextEnd → Option Failure
failure_at (verdicts.Faulty fault) end = Some (failures.Fault fault)
failure_at verdicts.Whole ends.Whole = None
failure_at verdict end = Some (cut_short end)

-- the whole context, where the header is unlocked
abbrev pub context_found : Unlocking → List KeyValue
context_found (Unlocks whole only key) = whole
context_found (Refuses fault) = []

-- what is released, and behind it the line of the whole context, or the failure
abbrev pub opened_effect : (text : List ℕ) → Unlocking → Option Failure → Effect
opened_effect text answer None = done_with text (context_line (context_found answer))
opened_effect text answer (Some failure) = refused text failure

-- the judgement of an input that gives these bytes and ends so
abbrev pub judged_effect : Reader → Outlook → Effect
judged_effect reader o = opened_effect (content (judged_by reader o.bytes))
    (unlocking o.bytes reader.settings reader.given reader.required reader.keys)
    (failure_at (judged_by reader o.bytes).verdict o.end)

-- the judgement of the whole input, or of the bytes that its armour gives
unfoldable pub decrypt_effect : DecryptWords → Trees → World → Option Effect
decrypt_effect asked trees world = prepared asked.pairs trees world asked.keyring
    (λ given tree. with_told tree.keys
    (λ keys. judged_effect (reader_of asked given keys) (outlook_of asked.armour world.input)))

-- ---- `reseal`

-- the new message of what is released, and the line of its whole context; or what ends the old one,
-- behind all frames of the new one but the last
abbrev pub resealed_end : Writer → (drawn text : List ℕ) → List KeyValue → Option Failure → Effect
resealed_end writer drawn text context None =
    done_with (message_by writer drawn text) (context_line context)
resealed_end writer drawn text context (Some failure) = refused (begun_by writer drawn text) failure

-- so it is where a message has room for it; else Q9, behind all frames but the last of what has
-- room
abbrev pub resealed_text : Writer → (drawn text : List ℕ) → List KeyValue → Option Failure
    → (fits : Bool) → Effect
resealed_text writer drawn text context end true = resealed_end writer drawn text context end
resealed_text writer drawn text context end false = refused
    (begun_by writer drawn (take (most_text writer.size) text)) (failures.Refusal TooManyFrames)

-- Q8, where no new header can be written
abbrev pub resealed_with : Writer → (drawn text : List ℕ) → List KeyValue → Option Failure → Effect
resealed_with writer drawn text context end = effect_unless
    (start_refusal (drawn_materials writer (drawn_rest drawn)) None (drawn_id drawn))
    (resealed_text writer drawn text context end (nat_le (length text) (most_text writer.size)))

-- Where the old message is unlocked: Q1, Q5 or Q6, where the second tree refuses its whole context;
-- else the new one. Where it isn't, what ends it.
abbrev pub resealed_effect : KeyringMeaning → (List KeyValue → List KeyValue → Writer)
    → (drawn : List ℕ)
    → Judged → (unlocked : Bool) → Unlocking → Effect
resealed_effect second writer drawn j true (Unlocks whole only key) = effect_unless
    (refusal_over whole second)
    (resealed_with (writer whole only) drawn (content j) whole (failure_at j.verdict ends.Whole))
resealed_effect second writer drawn j unlocked answer =
    opened_effect [] answer (failure_at j.verdict ends.Whole)

-- of a whole input
abbrev pub resealed_by : Reader → KeyringMeaning → (List KeyValue → List KeyValue → Writer)
    → (drawn bytes : List ℕ) → Effect
resealed_by reader second writer drawn bytes = resealed_effect second writer drawn
    (judged_by reader bytes) (judged_by reader bytes).unlocked (unlocked_to reader bytes)

-- both keyring files, and then the judgement of the whole input under the keys of the first, and
-- the new message under those of the second
unfoldable pub reseal_effect : ResealWords → Trees → World → Option Effect
reseal_effect asked trees world = prepared asked.pairs trees world asked.keyring
    (λ given tree. with_tree trees.plain world asked.to_keyring
    (λ second. with_both_keys tree.keys second.keys
    (λ keys others. resealed_by (reseal_reader asked given keys) second (reseal_writer asked others)
    (take (drawn_count (length (active others))) world.random) world.input)))

-- ---- `extract`

-- what is extracted, and the fault that ends it
abbrev pub part_with : (part : List ℕ) → Option Fault → Effect
part_with part None = done_with part []
part_with part (Some fault) = refused part (failures.Fault fault)

-- of the message in a file; or X3, where there is none
abbrev pub range_of_file : Reader → ByteRange → Option (List ℕ) → Effect
range_of_file reader range (Some bytes) = part_with (extracted_by reader bytes range).part
    (extracted_by reader bytes range).fault
range_of_file reader range None = refused [] (failures.Outside outsides.ShelfFault)

-- the range of the message in the file
unfoldable pub extract_effect : ExtractWords → Trees → World → Option Effect
extract_effect asked trees world = prepared asked.pairs trees world asked.keyring
    (λ given tree. with_told tree.keys (λ keys. range_of_file (extract_reader asked given keys)
    (range_asked asked) (world.files asked.from)))

-- ---- `audit`

-- each message, by what its file holds, where all are there
abbrev pub with_message : List KeyValue → Option (List ℕ) → Option (List Message)
    → Option (List Message)
with_message given (Some bytes) (Some others) =
    Some (record { bytes = bytes; given = given } ∷ others)
with_message given bytes others = None

abbrev pub messages_in : (List ℕ → Option (List ℕ)) → List AuditMessage → Option (List Message)
messages_in files [] = Some []
messages_in files (m ∷ ms) = with_message m.given (files m.from) (messages_in files ms)

-- the lines of what was found, with so many leaves
abbrev pub audit_lines_effect : (count : ℕ) → List Audited → Effect
audit_lines_effect count found =
    record { code = audit_status found; output = audit_lines count found; report = [] }

-- X3, where a message isn't there; else what is found of each, by the keys of each leaf
abbrev pub audited_all : List (List WrapKeyValue) → Option (List Message) → Effect
audited_all leaves None = refused [] (failures.Outside outsides.ShelfFault)
audited_all leaves (Some messages) =
    audit_lines_effect (length leaves) (map (audited leaves) messages)

-- the file of the audit, the keyring file that it names, and the messages
unfoldable pub audit_effect : (name : List ℕ) → Trees → World → Option Effect
audit_effect name trees world =
    with_file (world.files name) (λ bytes. with_value_read (audit_of bytes)
    (λ file. with_file (world.files file.keyring) (λ ring. with_read (trees.read ring)
    (λ tree. with_value_read (trees.leaves ring)
    (λ leaves. with_told (told_by leaves)
    (λ keys. audited_all keys (messages_in world.files file.messages)))))))

-- ---- `migrate`

-- the keyring file written anew, in version 2
unfoldable pub migrate_effect : MigrateWords → World → Option Effect
migrate_effect asked world = with_file (world.files asked.keyring)
    (λ bytes. with_value_read (value_asked asked bytes)
    (λ value. Some (done_with (compact_text value ++ 10 ∷ []) [])))

-- ---- all commands

-- What the words ask for comes to. Of `batch` nothing is said.
unfoldable pub effect_of : Words → Trees → World → Option Effect
effect_of (Ok (requests.List asked)) trees world = Some (list_effect asked world)
effect_of (Ok (requests.Encrypt asked)) trees world = encrypt_effect asked trees world
effect_of (Ok (requests.Decrypt asked)) trees world = decrypt_effect asked trees world
effect_of (Ok (requests.Reseal asked)) trees world = reseal_effect asked trees world
effect_of (Ok (requests.Extract asked)) trees world = extract_effect asked trees world
effect_of (Ok (requests.Audit name)) trees world = audit_effect name trees world
effect_of (Ok (requests.Migrate asked)) trees world = migrate_effect asked world
effect_of (Ok (requests.Gen seed size)) trees world = Some (done_with (gen_line seed size) [])
effect_of (Ok request) trees world = None
effect_of (Err fault) trees world = Some (refused [] (words_failure fault))

-- Over each world that what came is of, the run did what the program does there, or was disturbed.
abbrev pub Does : Run → Type 0
Does r =
    (world : World) → IsOf r world → IfSome (effect_of r.words r.trees world) (RunComesTo r world)
