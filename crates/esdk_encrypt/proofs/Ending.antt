-- How a run ends, by what was drawn and given before its input was taken.
use Rattle.std.proofs.Common.{◌≡◌, ℕ, List, Bool, true, false, Option, Some, None, Result, Ok, Err, IfErr, OnOk, if◌then◌else◌, nat_lt, length, subst}
use Rattle.std.specs.Prelude.{All, ⊤}
use Rattle.esdk_base.specs.Streams.{EntropyState, SourceState}
use Rattle.esdk_fields.specs.declared.refusals.Outside.TheVariants as outsides
use Rattle.esdk_fields.specs.declared.refusals.Refusal.{Refusal}
use Rattle.esdk_fields.specs.declared.refusals.Refusal.TheVariants as refusals
use Rattle.context_codec.specs.Parts.{stored_of}
use Rattle.edk_codec.specs.Entry.{IsEntry}
use Rattle.header_codec.specs.Header.{latest_end}
use Rattle.esdk_fields.specs.Limits.{is_over}
use Rattle.header_codec.specs.Written.{committing, keys_end}
use Rattle.keyring_trait.specs.Manager.{ManagerNow}
use Rattle.keyring_trait.specs.Materials.{EncMaterialsValue}
use Rattle.keyring_trait.specs.Requests.{EncRequestValue}
use Rattle.keyring_trait.specs.Saying.{said_last}
use Rattle.stream_seal.specs.Start.{start_refusal, drawn_id, drawn_rest}
use Rattle.esdk_encrypt.specs.declared.errors.EncryptError.{EncryptError}
use Rattle.esdk_encrypt.specs.declared.errors.EncryptError.TheVariants as errors
use Rattle.esdk_encrypt.specs.Asking.{MaterialsWereGiven, IsNotGiven}
use Rattle.esdk_encrypt.specs.Encrypt.{EncryptAsked, CanBegin, Drew, Encrypts, EncryptEnds, BeginsNoMessage, StopsSo, encrypting_from}
use Rattle.esdk_encrypt.specs.Gaining.{Gaining}
use Rattle.esdk_encrypt.specs.Writing.{WritesOrStops}

-- ---- the message was begun

-- the bytes were drawn, the manager gave these materials, and a message can begin with them
begins_with : (asked : EncryptAsked) (entropy spent : EntropyState) (drawn : List ℕ) (m : EncMaterialsValue) (id : List ℕ) → MaterialsWereGiven asked entropy spent drawn m → id ≡ drawn_id drawn
    → start_refusal m asked.max_keys id ≡ None → CanBegin asked entropy spent drawn m
begins_with asked entropy spent drawn m id given is begins =
    record { drew = given.drew; given = given.given; begins = subst (λ (i : List ℕ). start_refusal m asked.max_keys i ≡ None) is begins }

-- the whole input was written, under the id that was drawn
pub ends_done : (asked : EncryptAsked) (input taken : SourceState) (gains : Gaining) (entropy spent : EntropyState) (drawn : List ℕ) (m : EncMaterialsValue) (id : List ℕ) (r : Result (Unit {0}) EncryptError)
    → MaterialsWereGiven asked entropy spent drawn m → id ≡ drawn_id drawn → start_refusal m asked.max_keys id ≡ None → WritesOrStops m asked.size id input taken gains r
    → OnOk r (Encrypts asked input taken gains entropy spent)
ends_done asked input taken gains entropy spent drawn m id (Ok done) given is begins writes = record {
  drawn = drawn;
  materials = m;
  started = begins_with asked entropy spent drawn m id given is begins;
  writes = subst (λ (i : List ℕ). WritesOrStops m asked.size i input taken gains (Ok done)) is writes;
}
ends_done asked input taken gains entropy spent drawn m id (Err error) given is begins writes = tt

-- it was not, or not whole
ends_after : (asked : EncryptAsked) (input taken : SourceState) (gains : Gaining) (entropy spent : EntropyState) (drawn : List ℕ) (m : EncMaterialsValue) (untouched unasked : Type 0)
    (error : EncryptError) → CanBegin asked entropy spent drawn m → StopsSo m asked.size (drawn_id drawn) input taken gains error
    → EncryptEnds asked input taken gains entropy spent untouched unasked error
ends_after asked input taken gains entropy spent drawn m untouched unasked (errors.Outside outsides.EntropyFault) started stops = absurd stops
ends_after asked input taken gains entropy spent drawn m untouched unasked (errors.Outside outsides.KeyringFault) started stops = absurd stops
ends_after asked input taken gains entropy spent drawn m untouched unasked (errors.Outside outside) started stops =
    record { drawn = drawn; materials = m; started = started; stops = stops }
ends_after asked input taken gains entropy spent drawn m untouched unasked (errors.Refusal refusals.TooManyFrames) started stops =
    record { drawn = drawn; materials = m; started = started; stops = stops }
ends_after asked input taken gains entropy spent drawn m untouched unasked (errors.Refusal refusal) started stops = absurd stops
ends_after asked input taken gains entropy spent drawn m untouched unasked errors.Memory started stops = absurd stops

pub ends_stopped : (asked : EncryptAsked) (input taken : SourceState) (gains : Gaining) (entropy spent : EntropyState) (drawn : List ℕ) (m : EncMaterialsValue) (id : List ℕ)
    (untouched unasked : Type 0) (r : Result (Unit {0}) EncryptError) → MaterialsWereGiven asked entropy spent drawn m → id ≡ drawn_id drawn → start_refusal m asked.max_keys id ≡ None
    → WritesOrStops m asked.size id input taken gains r → IfErr r (EncryptEnds asked input taken gains entropy spent untouched unasked)
ends_stopped asked input taken gains entropy spent drawn m id untouched unasked (Ok done) given is begins stops = tt
ends_stopped asked input taken gains entropy spent drawn m id untouched unasked (Err error) given is begins stops =
    ends_after asked input taken gains entropy spent drawn m untouched unasked error (begins_with asked entropy spent drawn m id given is begins)
    (subst (λ (i : List ℕ). StopsSo m asked.size i input taken gains error) is stops)

-- ---- no message was begun

-- the refusals that come of a header's parts
abbrev IsOfHeader : Refusal → Type 0
IsOfHeader (refusals.TooManyDataKeys n) = ⊤
IsOfHeader (refusals.HeaderTooLong n) = ⊤
IsOfHeader refusal = ⊥

of_header : (over long : Bool) (count end : ℕ) (r : Refusal)
    → (if over then Some (refusals.TooManyDataKeys count) else if long then Some (refusals.HeaderTooLong end) else None) ≡ Some r → IsOfHeader r
of_header true long count end r is = let same : refusals.TooManyDataKeys count ≡ r = cc in subst IsOfHeader same tt
of_header false true count end r is = let same : refusals.HeaderTooLong end ≡ r = cc in subst IsOfHeader same tt
of_header false false count end r is = absurd cc

-- a refusal of the header's parts
ends_refused : (asked : EncryptAsked) (input : SourceState) (gains : Gaining) (entropy spent : EntropyState) (drawn : List ℕ) (m : EncMaterialsValue) (untouched unasked : Type 0)
    (refusal : Refusal) → Drew asked.wraps entropy spent drawn → asked.gives (drawn_rest drawn) m → All IsEntry m.entries → start_refusal m asked.max_keys (drawn_id drawn) ≡ Some refusal → untouched
    → IsOfHeader refusal → EncryptEnds asked input input gains entropy spent untouched unasked (errors.Refusal refusal)
ends_refused asked input gains entropy spent drawn m untouched unasked (refusals.TooManyDataKeys n) drew given each cause same of =
    record { drawn = drawn; materials = m; drew = drew; given = given; each = each; cause = cause; same = same }
ends_refused asked input gains entropy spent drawn m untouched unasked (refusals.HeaderTooLong n) drew given each cause same of =
    record { drawn = drawn; materials = m; drew = drew; given = given; each = each; cause = cause; same = same }
ends_refused asked input gains entropy spent drawn m untouched unasked refusal drew given each cause same of = absurd of

-- the same of the error that says so
ends_with : (asked : EncryptAsked) (input : SourceState) (gains : Gaining) (entropy spent : EntropyState) (drawn : List ℕ) (m : EncMaterialsValue) (untouched unasked : Type 0)
    (error : EncryptError) → Drew asked.wraps entropy spent drawn → asked.gives (drawn_rest drawn) m → All IsEntry m.entries → untouched
    → BeginsNoMessage (start_refusal m asked.max_keys (drawn_id drawn)) error → EncryptEnds asked input input gains entropy spent untouched unasked error
ends_with asked input gains entropy spent drawn m untouched unasked (errors.Refusal refusal) drew given each same cause =
    let count : ℕ = length m.entries in
    let end : ℕ = keys_end (committing (drawn_id drawn)) (stored_of m.required m.context) m.entries in
    let of : IsOfHeader refusal = of_header (is_over asked.max_keys count) (nat_lt latest_end end) count end refusal cause in
    ends_refused asked input gains entropy spent drawn m untouched unasked refusal drew given each cause same of
ends_with asked input gains entropy spent drawn m untouched unasked (errors.Outside outside) drew given each same cause = absurd cause
ends_with asked input gains entropy spent drawn m untouched unasked errors.Memory drew given each same cause = record { drawn = drawn; drew = drew; same = same }

pub ends_unstarted : (asked : EncryptAsked) (input : SourceState) (gains : Gaining) (entropy spent : EntropyState) (drawn : List ℕ) (m : EncMaterialsValue) (id : List ℕ) (untouched unasked : Type 0)
    (error : EncryptError) → MaterialsWereGiven asked entropy spent drawn m → All IsEntry m.entries → untouched → id ≡ drawn_id drawn
    → BeginsNoMessage (start_refusal m asked.max_keys id) error → EncryptEnds asked input input gains entropy spent untouched unasked error
ends_unstarted asked input gains entropy spent drawn m id untouched unasked error given each same is cause =
    ends_with asked input gains entropy spent drawn m untouched unasked error given.drew given.given each same
    (subst (λ (i : List ℕ). BeginsNoMessage (start_refusal m asked.max_keys i) error) is cause)

-- ---- there were no materials

-- A manager refuses with none of those that come of a message.
pub ends_ungiven : (old new : ManagerNow) (request : EncRequestValue) (now size : ℕ) (max_keys : Option ℕ) (input : SourceState) (gains : Gaining) (entropy spent : EntropyState)
    (untouched unasked : Type 0) (error : EncryptError) → untouched → IsNotGiven (encrypting_from (said_last old new) request now size max_keys) entropy spent unasked error
    → EncryptEnds (encrypting_from (said_last old new) request now size max_keys) input input gains entropy spent untouched unasked error
ends_ungiven old new request now size max_keys input gains entropy spent untouched unasked (errors.Outside outsides.EntropyFault) same none =
    record { rose = none.rose; kept = none.kept; none = none.none; same = same; manager = none.manager }
ends_ungiven old new request now size max_keys input gains entropy spent untouched unasked (errors.Outside outsides.KeyringFault) same none =
    record { drawn = none.drawn; drew = none.drew; cause = none.cause; same = same }
ends_ungiven old new request now size max_keys input gains entropy spent untouched unasked (errors.Outside outside) same none = absurd none
ends_ungiven old new request now size max_keys input gains entropy spent untouched unasked (errors.Refusal refusals.TooManyFrames) same none = absurd none.cause.0
ends_ungiven old new request now size max_keys input gains entropy spent untouched unasked (errors.Refusal (refusals.TooManyDataKeys n)) same none = absurd none.cause.0
ends_ungiven old new request now size max_keys input gains entropy spent untouched unasked (errors.Refusal (refusals.HeaderTooLong n)) same none = absurd none.cause.0
ends_ungiven old new request now size max_keys input gains entropy spent untouched unasked (errors.Refusal refusal) same none =
    record { drawn = none.drawn; drew = none.drew; cause = none.cause; same = same }
ends_ungiven old new request now size max_keys input gains entropy spent untouched unasked errors.Memory same none = record { drawn = none.drawn; drew = none.drew; same = same }
