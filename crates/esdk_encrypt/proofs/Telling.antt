-- A run over an exact and plain manager that tells its keys: what is so over any manager, and what these keys make of it.
use Rattle.std.proofs.Common.{◌≡◌, ◌∙◌, ℕ, true, List, length, take, drop, Option, Result, OnOk, IfErr, refl, sym, subst}
use Rattle.std.proofs.lemmas.Result.{on_ok_weaker, IfErr-weaker}
use Rattle.stream_seal.specs.Start.{drawn_id, drawn_rest}
use Rattle.esdk_base.specs.Streams.{EntropyState, SourceState}
use Rattle.esdk_fields.specs.declared.refusals.Outside.TheVariants as outsides
use Rattle.esdk_fields.specs.declared.refusals.Refusal.{Refusal}
use Rattle.esdk_fields.specs.declared.refusals.Refusal.TheVariants as refusals
use Rattle.keyring_trait.specs.declared.manager_errors.ManagerError.{ManagerError}
use Rattle.keyring_trait.specs.declared.manager_errors.ManagerError.TheVariants as managers
use Rattle.keyring_trait.specs.declared.served.Served.{Served}
use Rattle.keyring_trait.specs.declared.served.Served.TheVariants.{Direct}
use Rattle.keyring_trait.specs.Manager.{ManagerNow, AreDrawn, GivesMaterials, GivesNone, IsNew}
use Rattle.keyring_trait.specs.Requests.{EncRequestValue}
use Rattle.keyring_trait.specs.Saying.{said_last}
use Rattle.keyring_trait.specs.Materials.{EncMaterialsValue}
use Rattle.keyring_trait.specs.Wrapping.{WrapKeyValue, active, ivs_of, made}
use Rattle.esdk_encrypt.specs.declared.errors.EncryptError.{EncryptError}
use Rattle.esdk_encrypt.specs.declared.errors.EncryptError.TheVariants as errors
pub use Rattle.esdk_encrypt.specs.Asking.{CountsWraps}
use Rattle.esdk_encrypt.specs.Encrypt.{EncryptAsked, CanBegin, Drew, Encrypts, EndsAfter, EncryptEnds, ManagerGivesNothing, EncryptLacksMemory, RefusesStart, StopsSo, WritesMessage, encrypting_from}
use Rattle.esdk_encrypt.specs.Gaining.{Gaining}
use Rattle.esdk_encrypt.specs.Told.{asked_told, drawn_materials, writer_of}

-- ---- runs about the same, of which one says more

-- What is given as the first says is given as the second says, and the rest is the same.
pub record SaysMore (a b : EncryptAsked) : Type 0 where
  pub wraps : a.wraps ≡ b.wraps
  pub gives : (random : List ℕ) (m : EncMaterialsValue) → a.gives random m → b.gives random m
  pub gives_none : (error : ManagerError) → a.gives_none error → b.gives_none error
  pub size : a.size ≡ b.size
  pub max_keys : a.max_keys ≡ b.max_keys

drew_more : (a b : EncryptAsked) (entropy spent : EntropyState) (drawn : List ℕ) → SaysMore a b → Drew a.wraps entropy spent drawn → Drew b.wraps entropy spent drawn
drew_more a b entropy spent drawn more drew = subst (λ (n : ℕ). Drew n entropy spent drawn) more.wraps drew

begins_more : (a b : EncryptAsked) (entropy spent : EntropyState) (drawn : List ℕ) (m : EncMaterialsValue) → SaysMore a b → CanBegin a entropy spent drawn m → CanBegin b entropy spent drawn m
begins_more a b entropy spent drawn m more started = record {
  drew = drew_more a b entropy spent drawn more started.drew;
  given = more.gives (drawn_rest drawn) m started.given;
  begins = rw more.max_keys at started.begins;
}

-- the whole input was encrypted
pub encrypts_more : (a b : EncryptAsked) (input taken : SourceState) (gains : Gaining) (entropy spent : EntropyState) → SaysMore a b
    → Encrypts a input taken gains entropy spent → Encrypts b input taken gains entropy spent
encrypts_more a b input taken gains entropy spent more encrypts = record {
  drawn = encrypts.drawn;
  materials = encrypts.materials;
  started = begins_more a b entropy spent encrypts.drawn encrypts.materials more encrypts.started;
  writes = subst (λ (n : ℕ). WritesMessage encrypts.materials n (drawn_id encrypts.drawn) input taken gains) more.size encrypts.writes;
}

-- it was not, or not whole
after_more : (a b : EncryptAsked) (input taken : SourceState) (gains : Gaining) (entropy spent : EntropyState) (error : EncryptError) → SaysMore a b
    → EndsAfter a input taken gains entropy spent error → EndsAfter b input taken gains entropy spent error
after_more a b input taken gains entropy spent error more ends = record {
  drawn = ends.drawn;
  materials = ends.materials;
  started = begins_more a b entropy spent ends.drawn ends.materials more ends.started;
  stops = subst (λ (n : ℕ). StopsSo ends.materials n (drawn_id ends.drawn) input taken gains error) more.size ends.stops;
}

nothing_more : (a b : EncryptAsked) (entropy spent : EntropyState) (error : ManagerError) (untouched : Type 0) → SaysMore a b
    → ManagerGivesNothing a entropy spent error untouched → ManagerGivesNothing b entropy spent error untouched
nothing_more a b entropy spent error untouched more ends = record {
  drawn = ends.drawn;
  drew = drew_more a b entropy spent ends.drawn more ends.drew;
  cause = more.gives_none error ends.cause;
  same = ends.same;
}

start_more : (a b : EncryptAsked) (entropy spent : EntropyState) (refusal : Refusal) (untouched : Type 0) → SaysMore a b
    → RefusesStart a entropy spent refusal untouched → RefusesStart b entropy spent refusal untouched
start_more a b entropy spent refusal untouched more ends = record {
  drawn = ends.drawn;
  materials = ends.materials;
  drew = drew_more a b entropy spent ends.drawn more ends.drew;
  given = more.gives (drawn_rest ends.drawn) ends.materials ends.given;
  each = ends.each;
  cause = rw more.max_keys at ends.cause;
  same = ends.same;
}

memory_more : (a b : EncryptAsked) (entropy spent : EntropyState) (untouched : Type 0) → SaysMore a b → EncryptLacksMemory a entropy spent untouched → EncryptLacksMemory b entropy spent untouched
memory_more a b entropy spent untouched more ends =
    record { drawn = ends.drawn; drew = drew_more a b entropy spent ends.drawn more ends.drew; same = ends.same }

pub ends_more : (a b : EncryptAsked) (input taken : SourceState) (gains : Gaining) (entropy spent : EntropyState) (untouched unasked : Type 0) (error : EncryptError) → SaysMore a b
    → EncryptEnds a input taken gains entropy spent untouched unasked error → EncryptEnds b input taken gains entropy spent untouched unasked error
ends_more a b input taken gains entropy spent untouched unasked (errors.Outside outsides.EntropyFault) more ends = ends
ends_more a b input taken gains entropy spent untouched unasked (errors.Outside outsides.KeyringFault) more ends =
    nothing_more a b entropy spent managers.KeyringFault untouched more ends
ends_more a b input taken gains entropy spent untouched unasked (errors.Outside outside) more ends =
    after_more a b input taken gains entropy spent (errors.Outside outside) more ends
ends_more a b input taken gains entropy spent untouched unasked (errors.Refusal refusals.TooManyFrames) more ends =
    after_more a b input taken gains entropy spent (errors.Refusal refusals.TooManyFrames) more ends
ends_more a b input taken gains entropy spent untouched unasked (errors.Refusal (refusals.TooManyDataKeys n)) more ends =
    start_more a b entropy spent (refusals.TooManyDataKeys n) untouched more ends
ends_more a b input taken gains entropy spent untouched unasked (errors.Refusal (refusals.HeaderTooLong n)) more ends =
    start_more a b entropy spent (refusals.HeaderTooLong n) untouched more ends
ends_more a b input taken gains entropy spent untouched unasked (errors.Refusal refusal) more ends = nothing_more a b entropy spent (managers.Refusal refusal) untouched more ends
ends_more a b input taken gains entropy spent untouched unasked errors.Memory more ends = memory_more a b entropy spent untouched more ends

-- ---- keys that are told

-- The manager tells these keys, and is exact and plain.
pub record IsTold (keys : List WrapKeyValue) (n : ManagerNow) : Type 0 where
  told : n.tells keys
  is_exact : n.exact
  plain : n.meaning.plain ≡ true
  fresh : n.meaning.fresh ≡ true
  count : length (active keys) ≡ n.meaning.wraps

-- its materials are those of the keys
materials_told : (keys : List WrapKeyValue) (old : ManagerNow) (request : EncRequestValue) (size : ℕ) (max_keys : Option ℕ)
    (random : List ℕ) (m : EncMaterialsValue) → IsTold keys old → GivesMaterials old request random m
    → m ≡ drawn_materials (writer_of keys old.meaning request size max_keys) random
materials_told keys old request size max_keys random m is given =
    let direct : m.served ≡ Direct = given.plain is.plain in
    let drawn : AreDrawn old.meaning.wraps old.tells random m = given.fresh is.fresh (subst (λ (s : Served). IsNew s) (sym direct) tt) in
    let wraps : old.meaning.wraps ≡ length (active keys) = sym is.count in
    let entries : m.entries ≡ made keys request.context (take 32 random) (ivs_of (length (active keys)) (drop 32 random)) =
    drawn.entries keys is.told ∙ (λ i. made keys (given.context i) (drawn.key i) (ivs_of (wraps i) (drop 32 random))) in
    λ i. record { context = given.context i; required = given.demanded is.is_exact i; key = drawn.key i; entries = entries i; served = direct i }

-- and it gives none for the first refusal, or since a keyring failed
none_told : (keys : List WrapKeyValue) (old new : ManagerNow) (request : EncRequestValue) (size : ℕ) (max_keys : Option ℕ) (error : ManagerError) → old.exact
    → GivesNone old new request error → (asked_told keys old.meaning new.meaning request size max_keys).gives_none error
none_told keys old new request size max_keys (managers.Fault fault) is_exact cause = cause
none_told keys old new request size max_keys (managers.Refusal refusal) is_exact cause = cause.1 is_exact
none_told keys old new request size max_keys managers.KeyringFault is_exact cause = (cause.1 is_exact, cause.0)
none_told keys old new request size max_keys managers.Memory is_exact cause = tt

-- what a manager is asked between these moments, and what over the keys that it tells
abbrev asked_between : ManagerNow → ManagerNow → EncRequestValue → ℕ → ℕ → Option ℕ → EncryptAsked
asked_between old new request now size max_keys = encrypting_from (said_last old new) request now size max_keys

pub told_more : (keys : List WrapKeyValue) (old new : ManagerNow) (request : EncRequestValue) (now size : ℕ) (max_keys : Option ℕ)
    → IsTold keys old → SaysMore (asked_between old new request now size max_keys) (asked_told keys old.meaning new.meaning request size max_keys)
told_more keys old new request now size max_keys is = record {
  wraps = sym is.count;
  gives = λ random m given. (given.0.unrefused is.is_exact, materials_told keys old request size max_keys random m is given.0);
  gives_none = λ error cause. none_told keys old new request size max_keys error is.is_exact cause;
  size = refl;
  max_keys = refl;
}

pub is_told : (keys : List WrapKeyValue) (n : ManagerNow) → CountsWraps n → n.tells keys → n.exact → n.meaning.plain ≡ true → IsTold keys n
is_told keys n counts told is_exact plain =
    record { told = told; is_exact = is_exact; plain = plain; fresh = counts.plain plain; count = counts.told keys told }

module _ (old new : ManagerNow) (request : EncRequestValue) (now size : ℕ) (max_keys : Option ℕ) (input taken : SourceState) (gains : Gaining) (entropy spent : EntropyState) where
  pub writes_told : (r : Result (Unit {0}) EncryptError) → CountsWraps old
      → OnOk r (Encrypts (asked_between old new request now size max_keys) input taken gains entropy spent)
      → (keys : List WrapKeyValue) → old.tells keys → old.exact → old.meaning.plain ≡ true
      → OnOk r (Encrypts (asked_told keys old.meaning new.meaning request size max_keys) input taken gains entropy spent)
  writes_told r counts done keys told is_exact plain =
      let a : EncryptAsked = asked_between old new request now size max_keys in
      let b : EncryptAsked = asked_told keys old.meaning new.meaning request size max_keys in
      let more : SaysMore a b = told_more keys old new request now size max_keys (is_told keys old counts told is_exact plain) in
      on_ok_weaker r (encrypts_more a b input taken gains entropy spent more) done

  pub stops_told : (untouched unasked : Type 0) (r : Result (Unit {0}) EncryptError) → CountsWraps old
      → IfErr r (EncryptEnds (asked_between old new request now size max_keys) input taken gains entropy spent untouched unasked)
      → (keys : List WrapKeyValue) → old.tells keys → old.exact → old.meaning.plain ≡ true
      → IfErr r (EncryptEnds (asked_told keys old.meaning new.meaning request size max_keys) input taken gains entropy spent untouched unasked)
  stops_told untouched unasked r counts ends keys told is_exact plain =
      let a : EncryptAsked = asked_between old new request now size max_keys in
      let b : EncryptAsked = asked_told keys old.meaning new.meaning request size max_keys in
      let more : SaysMore a b = told_more keys old new request now size max_keys (is_told keys old counts told is_exact plain) in
      IfErr-weaker r (EncryptEnds a input taken gains entropy spent untouched unasked) (EncryptEnds b input taken gains entropy spent untouched unasked)
      (λ error why. ends_more a b input taken gains entropy spent untouched unasked error more why) ends
