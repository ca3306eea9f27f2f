-- An input that fits into a message is encrypted, unless memory runs out or a count of faults rises.
use Rattle.std.proofs.Common.{◌≡◌, ◌∙◌, ◌≤◌, ◌*◌, ℕ, zero, suc, List, [], ◌∷◌, false, length, take, drop, Option, Some, None, inl, inr, refl, sym, ap, subst, arith, length-append, length-take, le-ltb}
use Rattle.std.specs.Prelude.{All, IfSome}
use Rattle.std.specs.List.{flat_map}
use Rattle.std.specs.Io.KnownBytes.{Consumes}
use Rattle.std.proofs.lemmas.List.Elements.{All-head, All-tail}
use Rattle.esdk_fields.specs.Counts.{Rose, Stayed}
use Rattle.esdk_base.specs.Streams.{EntropyState, SinkState, SourceState}
use Rattle.esdk_fields.specs.declared.refusals.Outside.TheVariants as outsides
use Rattle.esdk_fields.specs.declared.refusals.Refusal.{Refusal}
use Rattle.esdk_fields.specs.declared.refusals.Refusal.TheVariants as refusals
use Rattle.context_codec.specs.Context.{IsContext}
use Rattle.context_codec.specs.Parts.{stored_of}
use Rattle.context_codec.proofs.Parts.{IsContext-stored_of}
use Rattle.edk_codec.specs.Entry.{Entry, IsEntry, edk_text}
use Rattle.header_codec.specs.Header.{Opening, latest_end}
use Rattle.esdk_fields.specs.Limits.{is_over}
use Rattle.header_codec.specs.Written.{committing, keys_end, longest_entry}
use Rattle.header_codec.proofs.Spelled.{version_short}
use Rattle.header_codec.proofs.WrittenHeaders.{entry_text_len, keys_end_is}
use Rattle.keyring_trait.specs.declared.manager_errors.ManagerError.{ManagerError}
use Rattle.keyring_trait.specs.declared.manager_errors.ManagerError.TheVariants as managers
use Rattle.keyring_trait.specs.Materials.{EncMaterialsValue}
use Rattle.keyring_trait.specs.Wrapping.{ivs_of}
use Rattle.keyring_trait.proofs.Made.{length-made}
use Rattle.whole_input.specs.Taken.{Came}
use Rattle.esdk_encrypt.specs.declared.errors.EncryptError.{EncryptError}
use Rattle.esdk_encrypt.specs.declared.errors.EncryptError.TheVariants as errors
use Rattle.stream_seal.specs.Start.{start_refusal, drawn_id, drawn_rest}
use Rattle.esdk_encrypt.specs.Encrypt.{EncryptAsked, EncryptEnds, RefusesStart, EncryptSinkFails}
use Rattle.esdk_encrypt.specs.Gaining.{OutputForm, gained_as}
use Rattle.esdk_encrypt.specs.Laws.{FitsMessage, WriterIsWithin, NoObjectFails}
use Rattle.esdk_encrypt.specs.Told.{NoneForRequest, Writer, encrypting_by, drawn_materials, writer_wraps}

-- ---- a header of at most 64 entries is short

-- so many entries are within each limit that allows them
few_allowed : (max_keys : Option ℕ) (count : ℕ) → IfSome max_keys (λ most. count ≤ most) → is_over max_keys count ≡ false
few_allowed None count allowed = refl
few_allowed (Some most) count allowed = le-ltb most count allowed

-- an entry's text is no longer than three parts of the greatest length
short_entries : (es : List Entry) → All IsEntry es → length (flat_map edk_text es) ≤ longest_entry * length es
short_entries [] each = omega arith
short_entries (e ∷ es) each =
    let is : IsEntry e = All-head IsEntry e es each in
    omega (arith, length-append (edk_text e) (flat_map edk_text es), entry_text_len e, is.provider, is.info, is.cipher, short_entries es (All-tail IsEntry e es each))

-- so a message can begin with them
pub few_begin : (m : EncMaterialsValue) (id : List ℕ) (max_keys : Option ℕ) → length id ≡ 32 → IsContext m.context → All IsEntry m.entries → length m.entries ≤ 64
    → IfSome max_keys (λ most. length m.entries ≤ most) → start_refusal m max_keys id ≡ None
few_begin m id max_keys long is_context each few allowed =
    let stored = stored_of m.required m.context in
    let stored_is : IsContext stored = IsContext-stored_of m.required m.context is_context in
    let opening : Opening = committing id in
    let end : ℕ = keys_end opening stored m.entries in
    let short : end ≤ latest_end = omega (arith, keys_end_is opening stored m.entries, version_short opening.suite, long, stored_is.short, short_entries m.entries each, few) in
    rw (few_allowed max_keys (length m.entries) allowed, le-ltb latest_end end short) refl

-- ---- bytes that came are no more than those that were left

consumed_few : (now : Option (List ℕ)) (bytes text : List ℕ) → Consumes (Some text) now bytes → length bytes ≤ length text
consumed_few None bytes text consumed = absurd consumed
consumed_few (Some rest) bytes text consumed = omega (arith, ap length consumed, length-append bytes rest)

few_came : (input taken : SourceState) (bytes text : List ℕ) → input.left ≡ Some text → Came input taken bytes → length bytes ≤ length text
few_came input taken bytes text told came = consumed_few taken.left bytes text (subst (λ left. Consumes left taken.left bytes) told came.consumed)

-- ---- why a run ended

-- What is asked for is granted: only want of memory keeps the manager from giving materials; these have a context and an entry for each wrap; and so many are allowed.
pub record IsGranted (asked : EncryptAsked) : Type 0 where
  pub none : (error : ManagerError) → asked.gives_none error → error ≡ managers.Memory
  pub context : (random : List ℕ) (m : EncMaterialsValue) → asked.gives random m → IsContext m.context
  pub count : (random : List ℕ) (m : EncMaterialsValue) → asked.gives random m → length m.entries ≡ asked.wraps
  pub few : asked.wraps ≤ 64
  pub allowed : IfSome asked.max_keys (λ most. asked.wraps ≤ most)

-- no start is refused
start_not_refused : (asked : EncryptAsked) (entropy spent : EntropyState) (refusal : Refusal) (untouched : Type 0) → IsGranted asked → RefusesStart asked entropy spent refusal untouched → ⊥
start_not_refused asked entropy spent refusal untouched granted refuses =
    let m : EncMaterialsValue = refuses.materials in
    let random : List ℕ = drawn_rest refuses.drawn in
    let count : length m.entries ≡ asked.wraps = granted.count random m refuses.given in
    let long : length (drawn_id refuses.drawn) ≡ 32 = omega (arith, length-take 32 refuses.drawn, refuses.drew.count) in
    let begins : start_refusal m asked.max_keys (drawn_id refuses.drawn) ≡ None =
    few_begin m (drawn_id refuses.drawn) asked.max_keys long (granted.context random m refuses.given) refuses.each (omega (arith, count, granted.few))
    (subst (λ (n : ℕ). IfSome asked.max_keys (λ most. n ≤ most)) (sym count) granted.allowed) in
    let refused : Some refusal ≡ None = sym refuses.cause ∙ begins in cc

-- a count of faults rose, wherever a sink failed
sink_rose : (form : OutputForm) (m : EncMaterialsValue) (size : ℕ) (id : List ℕ) (input taken : SourceState) (output put : SinkState) → EncryptSinkFails m size id input taken (gained_as form output put)
    → Rose output.faults put.faults
sink_rose form m size id input taken output put fails = elim fails.at [
  | inl header ↦ header.stopped.1
  | inr (inl frame) ↦ frame.was.stopped.1
  | inr (inr final) ↦ final.stopped.1
]

-- where the input fits and nothing fails, only want of memory ends an encryption
pub only_memory_ends : (form : OutputForm) (asked : EncryptAsked) (text : List ℕ) (input taken : SourceState) (output put : SinkState) (entropy spent : EntropyState) (untouched unasked : Type 0) (error : EncryptError)
    → IsGranted asked → FitsMessage asked.size input text → NoObjectFails input taken output put entropy spent
    → EncryptEnds asked input taken (gained_as form output put) entropy spent untouched unasked error → error ≡ errors.Memory
only_memory_ends form asked text input taken output put entropy spent untouched unasked (errors.Outside outsides.EntropyFault) granted fits nothing ends =
    absurd (omega (arith, nothing.drawing, ends.rose))
only_memory_ends form asked text input taken output put entropy spent untouched unasked (errors.Outside outsides.KeyringFault) granted fits nothing ends =
    absurd (let is : managers.KeyringFault ≡ managers.Memory = granted.none managers.KeyringFault ends.cause in cc)
only_memory_ends form asked text input taken output put entropy spent untouched unasked (errors.Outside outsides.SourceFault) granted fits nothing ends =
    absurd (omega (arith, nothing.source, ends.stops.rose))
only_memory_ends form asked text input taken output put entropy spent untouched unasked (errors.Outside outsides.SinkFault) granted fits nothing ends =
    absurd (omega (arith, nothing.sink, sink_rose form ends.materials asked.size (drawn_id ends.drawn) input taken output put ends.stops))
only_memory_ends form asked text input taken output put entropy spent untouched unasked (errors.Outside outsides.InputTooLong) granted fits nothing ends =
    let stops = ends.stops in
    absurd (omega (arith, stops.most.count, few_came input taken stops.text text fits.told stops.came, fits.few))
only_memory_ends form asked text input taken output put entropy spent untouched unasked (errors.Outside outside) granted fits nothing ends = absurd ends.stops
only_memory_ends form asked text input taken output put entropy spent untouched unasked (errors.Refusal refusals.TooManyFrames) granted fits nothing ends =
    let stops = ends.stops in
    absurd (omega (arith, stops.many, few_came input taken stops.text text fits.told stops.came, fits.room))
only_memory_ends form asked text input taken output put entropy spent untouched unasked (errors.Refusal (refusals.TooManyDataKeys n)) granted fits nothing ends =
    absurd (start_not_refused asked entropy spent (refusals.TooManyDataKeys n) untouched granted ends)
only_memory_ends form asked text input taken output put entropy spent untouched unasked (errors.Refusal (refusals.HeaderTooLong n)) granted fits nothing ends =
    absurd (start_not_refused asked entropy spent (refusals.HeaderTooLong n) untouched granted ends)
only_memory_ends form asked text input taken output put entropy spent untouched unasked (errors.Refusal refusal) granted fits nothing ends =
    absurd (let is : managers.Refusal refusal ≡ managers.Memory = granted.none (managers.Refusal refusal) ends.cause in cc)
only_memory_ends form asked text input taken output put entropy spent untouched unasked errors.Memory granted fits nothing ends = refl

-- ---- keys that are told

-- of a request that isn't refused, where no keyring failed
pub unrefused_memory : (old new : ℕ) (error : ManagerError) → Stayed old new → NoneForRequest None old new error → error ≡ managers.Memory
unrefused_memory old new (managers.Fault fault) stayed cause = absurd cause
unrefused_memory old new (managers.Refusal refusal) stayed cause = absurd (let refused : None ≡ Some refusal = cause in cc)
unrefused_memory old new managers.KeyringFault stayed cause = absurd (omega (arith, stayed, cause.1))
unrefused_memory old new managers.Memory stayed cause = refl

length-ivs_of : (n : ℕ) (bytes : List ℕ) → length (ivs_of n bytes) ≡ n
length-ivs_of zero bytes = refl
length-ivs_of (suc n) bytes = ap suc (length-ivs_of n (drop 12 bytes))

pub told_granted : (writer : Writer) (old new : ℕ) → WriterIsWithin writer → Stayed old new → IsGranted (encrypting_by writer None old new)
told_granted writer old new within stayed =
    let count : (random : List ℕ) → length (drawn_materials writer random).entries ≡ writer_wraps writer =
    λ random. length-made writer.keys writer.context (take 32 random) (ivs_of (writer_wraps writer) (drop 32 random)) (length-ivs_of (writer_wraps writer) (drop 32 random)) in
    record {
      none = λ error cause. unrefused_memory old new error stayed cause;
      context = λ random m given. subst (λ (v : EncMaterialsValue). IsContext v.context) (sym given.1) within.context;
      count = λ random m given. ap (λ (v : EncMaterialsValue). length v.entries) given.1 ∙ count random;
      few = within.few;
      allowed = within.allowed;
    }
