-- What a manager keeps from one moment to a later one, and what it may say in between.
use Rattle.std.proofs.Common.{◌≡◌, ℕ, List, refl, sym, ap, subst, ◌∙◌, arith}
use Rattle.std.specs.Prelude.{drop}
use Rattle.esdk_fields.specs.Counts.{Rose, Stayed}
use Rattle.context_codec.specs.Context.{KeyValue}
use Rattle.context_codec.specs.KeySet.{with_keys}
use Rattle.keyring_trait.specs.declared.journal.JournalLine.{JournalLine}
use Rattle.keyring_trait.specs.declared.manager_errors.ManagerError.{ManagerError}
use Rattle.keyring_trait.specs.declared.manager_errors.ManagerError.TheVariants as errors
use Rattle.esdk_fields.specs.declared.refusals.Refusal.{Refusal}
use Rattle.esdk_fields.specs.declared.refusals.Refusal.TheVariants as refusals
use Rattle.esdk_fields.specs.declared.faults.Fault.{Fault}
use Rattle.esdk_fields.specs.declared.faults.Fault.TheVariants as faults
use Rattle.keyring_trait.specs.Manager.{FaultStands, FindsMaterials, FindsNone, GivesMaterials, GivesNone, ManagerGoes, ManagerMeaning, ManagerNow, RefusalStands, Went, request_refusal}
use Rattle.keyring_trait.specs.Materials.{DecMaterialsValue, EncMaterialsValue}
use Rattle.keyring_trait.specs.Requests.{DecRequestValue, EncRequestValue}
use Rattle.keyring_trait.specs.Saying.{Admits, Saying, said_between, said_last}
use Rattle.keyring_trait.specs.Unlocking.{pair_offence}
use Rattle.keyring_trait.specs.Wrapping.{WrapKeyValue, ivs_of, made}
use Rattle.keyring_trait.proofs.Going.{went_on}
use Rattle.desk_core.specs.declared.live_sessions.Desk.{Desk}
use Rattle.desk_core.specs.Stands.{journal_of, manager_of}
use Rattle.esdk_batch.specs.Managing.{ManagerWent, SaysWithin}

-- ---- what it keeps

-- it goes on from where it came to
pub went_again : (old new : ManagerNow) → Went old new → Went new new
went_again old new went = record {
  goes = record {
    wraps = refl;
    refuses = refl;
    steady = refl;
    fresh = refl;
    plain = refl;
    demands = refl;
    later = omega arith;
    still = λ steady.
        (let was = went.goes.still (sym went.goes.steady ∙ steady) in
        omega (arith, was, went.goes.later));
  };
  tells = λ keys told. told;
  same = λ plain keys told. told;
  exact = λ is. is;
  limits = λ lines within. within;
}

-- ---- the manager of a desk

module _ {M : Type 0} (state : M → ManagerNow) where
  -- no call yet
  pub desk_none : (desk : Desk M) → Went (state (manager_of desk)) (state (manager_of desk))
      → ManagerWent state desk desk
  desk_none desk still = record { went = still; bears = λ bears. bears }

  pub desk_on : (first old new : Desk M) → ManagerWent state first old → ManagerWent state old new
      → ManagerWent state first new
  desk_on first old new before then = record {
    went = went_on (state (manager_of first)) (state (manager_of old)) (state (manager_of new))
        before.went then.went;
    bears = λ bears. then.bears (before.bears bears);
  }

  -- the same manager with the same journal keeps all
  pub desk_same : (first old new : Desk M) → ManagerWent state first old
      → manager_of new ≡ manager_of old → journal_of new ≡ journal_of old
      → ManagerWent state first new
  desk_same first old new went same lines = record {
    went = subst (λ (m : M). Went (state (manager_of first)) (state m)) (sym same) went.went;
    bears = λ bears. subst (λ (m : M). (state m).bears (journal_of new)) (sym same)
        (subst (λ (l : List JournalLine). (state (manager_of old)).bears l) (sym lines)
        (went.bears bears));
  }

-- ---- what it may say

refusal_same : (old new : ManagerMeaning) (context : List KeyValue) → ManagerGoes old new
    → request_refusal new context ≡ request_refusal old context
unfolding request_refusal
refusal_same old new context goes = rw (goes.demands, goes.refuses)

gives_before : (first old : ManagerNow) (wish : EncRequestValue) (random : List ℕ)
    (m : EncMaterialsValue) → Went first old → GivesMaterials old wish random m
    → GivesMaterials first wish random m
gives_before first old wish random m went gives = record {
  context = gives.context;
  required = gives.required;
  count = gives.count ∙ went.goes.wraps;
  wrapped = λ keys told. gives.wrapped keys (went.tells keys told);
  fresh = λ fresh new. (let drawn = gives.fresh (went.goes.fresh ∙ fresh) new in record {
    key = drawn.key;
    entries = λ keys told. drawn.entries keys (went.tells keys told)
        ∙ ap (λ n. made keys m.context m.key (ivs_of n (drop 32 random))) went.goes.wraps;
  });
  plain = λ plain. gives.plain (went.goes.plain ∙ plain);
  demanded = λ exact. gives.demanded (went.exact exact)
      ∙ ap (λ d. with_keys wish.required d) went.goes.demands;
  unrefused = λ exact. sym (refusal_same first.meaning old.meaning wish.context went.goes)
      ∙ gives.unrefused (went.exact exact);
}

stands_before : (first old : ManagerMeaning) (context : List KeyValue) (refusal : Refusal)
    → ManagerGoes first old → RefusalStands old context refusal
    → RefusalStands first context refusal
stands_before first old context (refusals.ReservedPrefix key) goes stands = stands
stands_before first old context (refusals.RequiredAbsent key) goes stands = stands
stands_before first old context refusals.NoGenerator goes stands = sym goes.refuses ∙ stands
stands_before first old context refusals.GeneratorHasKey goes stands = sym goes.refuses ∙ stands
stands_before first old context (refusals.ContextTooLong n) goes stands = absurd stands
stands_before first old context (refusals.DuplicateKey key) goes stands = absurd stands
stands_before first old context (refusals.TooManyDataKeys n) goes stands = absurd stands
stands_before first old context (refusals.HeaderTooLong n) goes stands = absurd stands
stands_before first old context refusals.TooManyFrames goes stands = absurd stands
stands_before first old context (refusals.OverDeclared n) goes stands = absurd stands

-- a fault that stands where more keys are told stands where fewer are
fault_before : (old first : List WrapKeyValue → Type 0) (request : DecRequestValue) (fault : Fault)
    → ((keys : List WrapKeyValue) → first keys → old keys) → FaultStands old request fault
    → FaultStands first request fault
fault_before old first request faults.NoKeyOpens tells stands =
    λ keys told. stands keys (tells keys told)
fault_before old first request fault tells stands = stands

module _ (first old new last : ManagerNow) (before : Went first old) (behind : Went new last) where
  rose_around : Rose old.meaning.faults new.meaning.faults
      → Rose first.meaning.faults last.meaning.faults
  rose_around rose = omega (arith, before.goes.later, behind.goes.later, rose)

  stayed_within : Stayed first.meaning.faults last.meaning.faults
      → Stayed old.meaning.faults new.meaning.faults
  stayed_within stayed = omega (arith, before.goes.later, behind.goes.later, stayed)

  gives_none_around : (wish : EncRequestValue) (error : ManagerError) → GivesNone old new wish error
      → GivesNone first last wish error
  gives_none_around wish (errors.Refusal refusal) (stands, exactly) = (
    stands_before first.meaning old.meaning wish.context refusal before.goes stands,
    λ exact. sym (refusal_same first.meaning old.meaning wish.context before.goes)
        ∙ exactly (before.exact exact),
  )
  gives_none_around wish errors.KeyringFault (rose, exactly) = (
    rose_around rose,
    λ exact. sym (refusal_same first.meaning old.meaning wish.context before.goes)
        ∙ exactly (before.exact exact),
  )
  gives_none_around wish (errors.Fault fault) none = absurd none
  gives_none_around wish errors.Memory none = tt

  finds_around : (request : DecRequestValue) (m : DecMaterialsValue)
      → FindsMaterials old new request m → FindsMaterials first last request m
  finds_around request m finds = record {
    context = finds.context;
    only = finds.only;
    opened = λ keys told. finds.opened keys (before.tells keys told);
    first = λ keys told stayed.
        finds.first keys (before.tells keys told) (stayed_within stayed);
    plain = λ plain. finds.plain (before.goes.plain ∙ plain);
    unfaulted = λ exact.
        ap (λ d. pair_offence request.stored request.given d) (sym before.goes.demands)
        ∙ finds.unfaulted (before.exact exact);
  }

  finds_none_around : (request : DecRequestValue) (error : ManagerError)
      → FindsNone old new request error → FindsNone first last request error
  finds_none_around request (errors.Fault fault) (stands, exactly) = (
    fault_before old.tells first.tells request fault before.tells stands,
    λ exact. ap (λ d. pair_offence request.stored request.given d) (sym before.goes.demands)
        ∙ exactly (before.exact exact),
  )
  finds_none_around request errors.KeyringFault (rose, exactly) = (
    rose_around rose,
    λ exact. ap (λ d. pair_offence request.stored request.given d) (sym before.goes.demands)
        ∙ exactly (before.exact exact),
  )
  finds_none_around request (errors.Refusal refusal) none = absurd none
  finds_none_around request errors.Memory none = tt

  -- What it says between two moments it says between two that lie around them.
  pub admits_within : (manager : Saying) → Admits manager (said_between first last)
      → Admits manager (said_between old new)
  admits_within manager admits = record {
    wraps = before.goes.wraps ∙ admits.wraps;
    gives = λ wish now random m gives.
        admits.gives wish now random m (gives_before first old wish random m before gives);
    gives_none = λ wish error none.
        admits.gives_none wish error (gives_none_around wish error none);
    finds = λ request now m finds. admits.finds request now m (finds_around request m finds);
    finds_none = λ request error none.
        admits.finds_none request error (finds_none_around request error none);
  }

-- what it said last it says in between
pub admits_last : (manager : Saying) (old new : ManagerNow) → Admits manager (said_between old new)
    → Admits manager (said_last old new)
admits_last manager old new admits = record {
  wraps = admits.wraps;
  gives = λ wish now random m gives. admits.gives wish now random m gives.0;
  gives_none = admits.gives_none;
  finds = λ request now m finds. admits.finds request now m finds.0;
  finds_none = admits.finds_none;
}

-- and what it says between two moments is just that
pub admits_between : (old new : ManagerNow) → Admits (said_between old new) (said_between old new)
admits_between old new = record {
  wraps = refl;
  gives = λ wish now random m gives. gives;
  gives_none = λ wish error none. none;
  finds = λ request now m finds. finds;
  finds_none = λ request error none. none;
}

-- what a manager may say that was `first` and is `last`
abbrev pub said : {M : Type 0} → (M → ManagerNow) → M → M → Saying
said state first last = said_between (state first) (state last)

-- what a desk's manager says until later it says until before, and from then on
module _ {M : Type 0} (state : M → ManagerNow) (first last : M) (before mid desk : Desk M) where
  pub says_earlier : Went (state (manager_of before)) (state (manager_of before))
      → ManagerWent state mid desk → SaysWithin state first last before desk
      → SaysWithin state first last before mid
  says_earlier still went =
      admits_within (state (manager_of before)) (state (manager_of before)) (state (manager_of mid))
      (state (manager_of desk)) still went.went (said state first last)

  pub says_later : ManagerWent state before mid → ManagerWent state mid desk
      → SaysWithin state first last before desk → SaysWithin state first last mid desk
  says_later went then =
      admits_within (state (manager_of before)) (state (manager_of mid)) (state (manager_of desk))
      (state (manager_of desk)) went.went
      (went_again (state (manager_of mid)) (state (manager_of desk)) then.went)
      (said state first last)

  -- the manager of a desk that is the same one
  pub says_same : manager_of desk ≡ manager_of mid → SaysWithin state first last before desk
      → SaysWithin state first last before mid
  says_same same admits =
      subst (λ (m : M). Admits (said state first last) (said_between (state (manager_of before)) (state m)))
      same admits
