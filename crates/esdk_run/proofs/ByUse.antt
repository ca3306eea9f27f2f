-- What a run made of what went through its objects is what the keys make of it that the leaves of its tree went by.
use Rattle.std.proofs.Common.{◌≡◌, ◌∙◌, Bool, false, true, List, ℕ, length, drop, take, Option, None, Some, sym, subst}
use Rattle.esdk_fields.specs.Place.{start}
use Rattle.esdk_fields.specs.Reading.{Reading, Read, Refused, Wanting}
use Rattle.esdk_fields.specs.declared.faults.Fault.TheVariants.{Truncated}
use Rattle.esdk_args.specs.declared.request.DecryptWords.{DecryptWords}
use Rattle.esdk_args.specs.declared.request.EncryptWords.{EncryptWords}
use Rattle.esdk_base.specs.Streams.{EntropyState, SinkState, SourceState}
use Rattle.context_codec.specs.Context.{KeyValue}
use Rattle.context_codec.specs.Parts.{whole_of}
use Rattle.header_codec.specs.declared.settings.Settings.{Settings}
use Rattle.header_codec.specs.Table.{HeaderFields, header}
use Rattle.keyring_trait.specs.Keyring.{AreMadeBy, KeyringMeaning}
use Rattle.keyring_trait.specs.Materials.{DecMaterialsValue}
use Rattle.keyring_trait.specs.Requests.{DecRequestValue}
use Rattle.keyring_trait.specs.Unlocking.{Refuses, Unlocking, Unlocks, unlock}
use Rattle.keyring_trait.specs.Uses.{AskedOnce, KeyUse}
use Rattle.keyring_trait.specs.Wrapping.{WrapKeyValue, active, ivs_of, made, unwrapped}
use Rattle.keyring_trait.proofs.Using.{once-weaker}
use Rattle.stream_seal.specs.Start.{drawn_rest}
use Rattle.esdk_encrypt.specs.Encrypt.{Drew, Encrypts}
use Rattle.esdk_encrypt.specs.Gaining.{Gaining}
use Rattle.esdk_encrypt.specs.Told.{drawn_materials, encrypting_by}
use Rattle.esdk_decrypt.specs.Decrypt.{AnswersReading, AnswersTo, Decrypts}
use Rattle.esdk_decrypt.specs.Told.{Reader, answering_by, decrypting_by}
use Rattle.esdk_decrypt.proofs.Told.{asked_of, sound_unlocks}
use Rattle.extract_core.specs.Extracted.{ByteRange, extracted, extracted_reading}
use Rattle.esdk_run.specs.Decrypt.{TreeFinds, decrypt_asked, decrypt_settings, reader_of, tree_answering}
use Rattle.esdk_run.specs.Encrypt.{encrypt_asked, refusal_asked, request_asked, run_writer}
use Rattle.esdk_run.specs.Giving.{TreeGives}
use Rattle.esdk_run.specs.Pairs.{required_in}
use Rattle.esdk_run.specs.Unarmoured.{ReadsAll}
use Rattle.esdk_run.specs.UnarmouredDecrypt.{DecryptsAs}

-- ---- to encrypt with

-- Where these keys made the entries, the message is the one of who writes with them.
pub made_encrypts : (asked : EncryptWords) (context : List KeyValue) (tree left : KeyringMeaning) (keys : List WrapKeyValue) (input taken : SourceState) (gains : Gaining) (entropy spent : EntropyState)
    → left.wraps ≡ tree.wraps → (done : Encrypts (encrypt_asked asked context tree left) input taken gains entropy spent)
    → AreMadeBy left.wraps context (drop 32 (drawn_rest done.drawn)) (record { key = done.materials.key; entries = done.materials.entries }) keys
    → Encrypts (encrypting_by (run_writer asked context keys) (refusal_asked asked context tree) tree.faults left.faults) input taken gains entropy spent
made_encrypts asked context tree left keys input taken gains entropy spent same done made_by =
    let random : List ℕ = drawn_rest done.drawn in
    let gave : TreeGives (refusal_asked asked context tree) tree (request_asked asked context) random done.materials = done.started.given.0 in
    let wraps : tree.wraps ≡ length (active keys) = sym (made_by.each ∙ same) in
    let each : left.wraps ≡ length (active keys) = sym made_by.each in
    let entries : done.materials.entries ≡ made keys context (take 32 random) (ivs_of (length (active keys)) (drop 32 random)) =
    made_by.entries ∙ (λ i. made keys context (gave.key i) (ivs_of (each i) (drop 32 random))) in
    let are : done.materials ≡ drawn_materials (run_writer asked context keys) random =
    λ i. record { context = gave.whole i; required = gave.required i; key = gave.key i; entries = entries i; served = gave.served i } in
    record {
      drawn = done.drawn;
      materials = done.materials;
      started = record {
        drew = subst (λ (n : ℕ). Drew n entropy spent done.drawn) wraps done.started.drew;
        given = (gave.unrefused, are);
        begins = done.started.begins;
      };
      writes = done.writes;
    }

-- ---- to decrypt with

-- who reads with these keys
abbrev reader_with : Settings → List KeyValue → List (List ℕ) → List WrapKeyValue → Reader
reader_with settings given required keys = record { keys = keys; settings = settings; given = given; required = required }

-- where the first of these keys that opens an entry gives this data key, it unlocks so
found_unlocks : (required : List (List ℕ)) (tree left : KeyringMeaning) (keys : List WrapKeyValue) (request : DecRequestValue) (m : DecMaterialsValue) → TreeFinds required tree left request m
    → Some m.key ≡ unwrapped keys request.entries (whole_of request.stored request.given)
    → unlock request.stored request.entries request.given required keys ≡ Unlocks m.context m.only m.key
found_unlocks required tree left keys request m finds found =
    rw (finds.context, finds.only) (sound_unlocks request.stored request.given request.entries required keys (Some m.key) finds.sound (sym found))

-- what the tree answers to a header that it unlocks, who has these keys answers
once_answers : (required : List (List ℕ)) (tree left : KeyringMeaning) (settings : Settings) (given : List KeyValue) (b : List ℕ) (r : Reading HeaderFields) (whole only : List KeyValue) (key : List ℕ)
    → AnswersReading (tree_answering required tree left) given b r (Unlocks whole only key)
    → AskedOnce tree.uses left.uses (λ keys. AnswersReading (answering_by (reader_with settings given required keys)) given b r (Unlocks whole only key))
once_answers required tree left settings given b (Read parts body) whole only key answers =
    once-weaker tree.uses left.uses _ (λ keys. AnswersReading (answering_by (reader_with settings given required keys)) given b (Read parts body) (Unlocks whole only key))
    (λ keys found. (answers.0, found_unlocks required tree left keys _ (record { context = whole; only = only; key = key; served = answers.0 }) answers.1.0 found)) answers.1.1
once_answers required tree left settings given b (Refused fault at) whole only key is = absurd (let other : Unlocks whole only key ≡ Refuses fault = is in cc)
once_answers required tree left settings given b Wanting whole only key is = absurd (let other : Unlocks whole only key ≡ Refuses Truncated = is in cc)

once_decrypts : (required : List (List ℕ)) (tree left : KeyringMeaning) (settings : Settings) (given : List KeyValue) (input taken : SourceState) (output put : SinkState) (context : List KeyValue)
    → Decrypts (asked_of (tree_answering required tree left) settings given) input taken output put context
    → AskedOnce tree.uses left.uses (λ keys. Decrypts (decrypting_by (reader_with settings given required keys)) input taken output put context)
once_decrypts required tree left settings given input taken output put context done =
    once-weaker tree.uses left.uses _ (λ keys. Decrypts (decrypting_by (reader_with settings given required keys)) input taken output put context)
    (λ keys answered. record {
      bytes = done.bytes;
      only = done.only;
      key = done.key;
      releases = record { came = done.releases.came; answered = answered; gained = done.releases.gained };
      end = done.end;
      whole = done.whole;
    })
    (once_answers required tree left settings given done.bytes (header settings (start done.bytes)) context done.only done.key done.releases.answered)

-- What is so of the bytes that a whole input gives, by keys that were each asked for once, is so of that input by these keys.
all_once : (armour : Bool) (input taken : SourceState) (o n : Option (List KeyUse)) (So : SourceState → SourceState → Type 0) (By : List WrapKeyValue → SourceState → SourceState → Type 0)
    → ((seen read : SourceState) → So seen read → AskedOnce o n (λ keys. By keys seen read)) → ReadsAll armour input taken So → AskedOnce o n (λ keys. ReadsAll armour input taken (By keys))
all_once false input taken o n So By once x = once input taken x
all_once true input taken o n So By once x =
    once-weaker o n (λ keys. By keys x.1.seen x.1.read) (λ keys. ReadsAll true input taken (By keys))
    (λ keys so. (
      x.0,
      record {
        text = x.1.text;
        came = x.1.came;
        few = x.1.few;
        seen = x.1.seen;
        read = x.1.read;
        gives = x.1.gives;
        begins = x.1.begins;
        none = x.1.none;
        rest = x.1.rest;
        bytes = x.1.bytes;
        count = x.1.count;
        reach = x.1.reach;
        good = x.1.good;
        stayed = x.1.stayed;
        so = so;
      },
    )) (once x.1.seen x.1.read x.1.so)

-- A decryption that is done is that of the reader who has these keys.
pub used_decrypts : (asked : DecryptWords) (given : List KeyValue) (tree left : KeyringMeaning) (input taken : SourceState) (output put : SinkState) (context : List KeyValue)
    → DecryptsAs asked.armour (decrypt_asked asked given tree left) input taken output put context
    → AskedOnce tree.uses left.uses (λ keys. DecryptsAs asked.armour (decrypting_by (reader_of asked given keys)) input taken output put context)
used_decrypts asked given tree left input taken output put context done =
    all_once asked.armour input taken tree.uses left.uses (λ seen read. Decrypts (decrypt_asked asked given tree left) seen read output put context)
    (λ keys seen read. Decrypts (decrypting_by (reader_of asked given keys)) seen read output put context)
    (λ seen read so. once_decrypts (required_in asked.pairs) tree left (decrypt_settings asked) given seen read output put context so) done

-- ---- to extract with

-- an answer with which a range has no fault unlocks the header
unlocks_sound : (required : List (List ℕ)) (tree left : KeyringMeaning) (settings : Settings) (given : List KeyValue) (range : ByteRange) (b : List ℕ) (r : Reading HeaderFields) (answer : Unlocking)
    → AnswersReading (tree_answering required tree left) given b r answer → (extracted_reading b settings answer range r).fault ≡ None
    → AskedOnce tree.uses left.uses (λ keys. AnswersReading (answering_by (reader_with settings given required keys)) given b r answer)
unlocks_sound required tree left settings given range b (Read parts body) (Unlocks whole only key) answers sound = once_answers required tree left settings given b (Read parts body) whole only key answers
unlocks_sound required tree left settings given range b (Read parts body) (Refuses fault) answers sound = absurd (let none : Some fault ≡ None = sound in cc)
unlocks_sound required tree left settings given range b (Refused fault at) answer answers sound = absurd (let none : Some fault ≡ None = sound in cc)
unlocks_sound required tree left settings given range b Wanting answer answers sound = absurd (let none : Some Truncated ≡ None = sound in cc)

pub used_extracts : (asked : DecryptWords) (given : List KeyValue) (tree left : KeyringMeaning) (range : ByteRange) (b : List ℕ) (answer : Unlocking)
    → AnswersTo (decrypt_asked asked given tree left).manager (decrypt_settings asked) given b answer → (extracted b (decrypt_settings asked) answer range).fault ≡ None
    → AskedOnce tree.uses left.uses (λ keys. AnswersTo (answering_by (reader_of asked given keys)) (decrypt_settings asked) given b answer)
unfolding extracted
used_extracts asked given tree left range b answer answered sound =
    unlocks_sound (required_in asked.pairs) tree left (decrypt_settings asked) given range b (header (decrypt_settings asked) (start b)) answer answered sound
