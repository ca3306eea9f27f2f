-- What is found of messages by what came of their files is what their files say.
use Rattle.std.proofs.Common.{◌≡◌, ◌∙◌, ℕ, ◌+◌, ◌≤◌, List, [], ◌∷◌, ◌++◌, length, map, drop, Option, Some, None, refl, sym, ap, arith, append-nil}
use Rattle.std.specs.List.{concat}
use Rattle.std.proofs.lemmas.List.{drop_all}
use Rattle.esdk_fields.specs.Place.{followed, start}
use Rattle.esdk_fields.specs.Reading.{Reading, Read, Refused, Wanting}
use Rattle.esdk_fields.proofs.Fronts.{fault_stays, value_stays}
use Rattle.esdk_seen.specs.Calls.{ShelfCall, reads}
use Rattle.context_codec.specs.Context.{KeyValue}
use Rattle.header_codec.specs.Header.{HeaderValue, no_limits}
use Rattle.header_codec.specs.Table.{HeaderFields, header, opening}
use Rattle.header_codec.proofs.Order.{IsSequential-header}
use Rattle.keyring_trait.specs.Wrapping.{WrapKeyValue}
use Rattle.job_file.specs.declared.audit.AuditMessage.{AuditMessage}
use Rattle.message_format.proofs.Following.{header_stays}
use Rattle.whole_input.specs.FileReads.{Grows, ReadsRow, SeesEnd, reads_in_row}
use Rattle.whole_input.proofs.Agreeing.{end_read, grows_more, row_read}
use Rattle.audit_core.specs.MessageFiles.{HaveCome}
use Rattle.audit_core.specs.Messages.{Message, audited, audited_header, audited_reading}
use Rattle.esdk_program.specs.Program.{messages_in, with_message}
use Rattle.esdk_program.proofs.Files.{IsPart, part_first, part_read, part_second, part_there, read_first}

-- ---- a message

audited_is : (leaves : List (List WrapKeyValue)) (m : Message) (h : Reading HeaderFields) → header no_limits (start m.bytes) ≡ h → audited leaves m ≡ audited_reading leaves m h
unfolding audited
audited_is leaves m h is = ap (audited_reading leaves m) is

abbrev message : List ℕ → List KeyValue → Message
message bytes given = record { bytes = bytes; given = given }

-- bytes that go on behind a header, or behind its fault
audited_on : (leaves : List (List WrapKeyValue)) (bytes more : List ℕ) (given : List KeyValue) (h : Reading HeaderFields) → header no_limits (start bytes) ≡ h → (h ≡ Wanting → bytes ++ more ≡ bytes)
    → audited leaves (message bytes given) ≡ audited leaves (message (bytes ++ more) given)
audited_on leaves bytes more given (Read parts p) is all =
    audited_is leaves (message bytes given) (Read parts p) is
    ∙ ap (λ (h : HeaderValue). audited_header leaves h given) (sym (header_stays no_limits bytes more parts p is))
    ∙ sym (audited_is leaves (message (bytes ++ more) given) (Read parts (followed p more))
    (value_stays (header no_limits) bytes more parts p (IsSequential-header no_limits) is))
audited_on leaves bytes more given (Refused fault at) is all =
    audited_is leaves (message bytes given) (Refused fault at) is
    ∙ sym (audited_is leaves (message (bytes ++ more) given) (Refused fault at) (fault_stays (header no_limits) bytes more fault at (IsSequential-header no_limits) is))
audited_on leaves bytes more given Wanting is all = ap (λ (b : List ℕ). audited leaves (message b given)) (sym (all refl))

-- ---- its file

wanting_first : header no_limits (start []) ≡ Wanting
unfolding header opening
wanting_first = refl

-- a read of it gave something, or nothing at its end
row_there : (files : List ℕ → Option (List ℕ)) (name bytes : List ℕ) (a b : List ShelfCall) (part : IsPart files a b) (row : ReadsRow name 0 a b bytes)
    → (header no_limits (start bytes) ≡ Wanting → SeesEnd name (length bytes) a b) → (f : List ℕ) × (files name ≡ Some f)
unfolding reads_in_row
row_there files name bytes a b part row end = by_pieces row.pieces row.calls row.all
  where
    by_pieces : (pieces : List (List ℕ)) → b ≡ a ++ reads_in_row name 0 pieces → bytes ≡ concat pieces → (f : List ℕ) × (files name ≡ Some f)
    by_pieces [] calls all =
        let sees = end (ap (λ (x : List ℕ). header no_limits (start x)) all ∙ wanting_first) in
        part_there files name a b sees.end [] part sees.made sees.calls sees.read
    by_pieces (piece ∷ more) calls all = part_there files name a b 0 piece part (reads_in_row name 0 (piece ∷ more)) calls (read_first (reads name 0 piece) (reads_in_row name (0 + length piece) more))

-- what was read of it is its front, and all of it where a header is wanting
file_same : (leaves : List (List WrapKeyValue)) (files : List ℕ → Option (List ℕ)) (name bytes f : List ℕ) (given : List KeyValue) (a b : List ShelfCall) → IsPart files a b
    → ReadsRow name 0 a b bytes → (header no_limits (start bytes) ≡ Wanting → SeesEnd name (length bytes) a b) → files name ≡ Some f
    → audited leaves (message bytes given) ≡ audited leaves (message f given)
file_same leaves files name bytes f given a b part row end is =
    let read = part_read files name f a b part is in
    let all : f ≡ bytes ++ drop (0 + length bytes) f = row_read name 0 a b bytes f row read in
    audited_on leaves bytes (drop (0 + length bytes) f) given (header no_limits (start bytes)) refl
    (λ wanting. (let few : length f ≤ length bytes = end_read name (length bytes) a b f (end wanting) read in
    ap (λ (m : List ℕ). bytes ++ m) (drop_all (0 + length bytes) f (omega (arith, few))) ∙ append-nil bytes))
    ∙ ap (λ (x : List ℕ). audited leaves (message x given)) (sym all)

-- ---- each message

have_grown : (ms : List AuditMessage) (came : List Message) (a b : List ShelfCall) → HaveCome a b ms came → Grows a b
have_grown [] [] a b same = ([], same ∙ sym (append-nil a))
have_grown [] (h ∷ hs) a b none = absurd none
have_grown (m ∷ ms) [] a b none = absurd none
have_grown (m ∷ ms) (h ∷ hs) a b first =
    grows_more a first.between b (reads_in_row m.from 0 first.row.pieces, first.row.calls) (have_grown ms hs first.between b first.others)

pub messages_came : (leaves : List (List WrapKeyValue)) (files : List ℕ → Option (List ℕ)) (ms : List AuditMessage) (came : List Message) (a b : List ShelfCall) → IsPart files a b
    → HaveCome a b ms came → (held : List Message) × (messages_in files ms ≡ Some held) × (map (audited leaves) came ≡ map (audited leaves) held)
messages_came leaves files [] [] a b part same = ([], refl, refl)
messages_came leaves files [] (h ∷ hs) a b part none = absurd none
messages_came leaves files (m ∷ ms) [] a b part none = absurd none
messages_came leaves files (m ∷ ms) (h ∷ hs) a b part first =
    let own : Grows a first.between = (reads_in_row m.from 0 first.row.pieces, first.row.calls) in
    let later : Grows first.between b = have_grown ms hs first.between b first.others in
    let here : IsPart files a first.between = part_first files a first.between b part own later in
    let there = row_there files m.from h.bytes a first.between here first.row first.end in
    let others = messages_came leaves files ms hs first.between b (part_second files a first.between b part own later) first.others in
    let same : audited leaves h ≡ audited leaves (message there.0 m.given) =
    file_same leaves files m.from h.bytes there.0 h.given a first.between here first.row first.end there.1
    ∙ ap (λ (g : List KeyValue). audited leaves (message there.0 g)) first.given in (
      message there.0 m.given ∷ others.0,
      (λ i. with_message m.given (there.1 i) (others.1 i)),
      (λ i. same i ∷ others.2 i),
    )

-- one isn't there
pub message_lacks : (files : List ℕ → Option (List ℕ)) (done behind : List AuditMessage) (m : AuditMessage) → files m.from ≡ None → messages_in files (done ++ m ∷ behind) ≡ None
message_lacks files [] behind m none = ap (λ (o : Option (List ℕ)). with_message m.given o (messages_in files behind)) none
message_lacks files (d ∷ done) behind m none = ap (λ (o : Option (List Message)). with_message d.given (files d.from) o) (message_lacks files done behind m none) ∙ lacks_rest d.given (files d.from)
  where
    lacks_rest : (given : List KeyValue) (o : Option (List ℕ)) → with_message given o None ≡ None
    lacks_rest given (Some bytes) = refl
    lacks_rest given None = refl
