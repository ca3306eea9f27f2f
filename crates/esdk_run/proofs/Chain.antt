-- The chain of managers over a tree: what it gives and what it finds is what the tree does.
use Rattle.std.proofs.Common.{◌≡◌, ◌∙◌, List, ℕ, [], length, None, Some, Ok, Err, refl, sym, ap, subst, arith, take, drop}
use Rattle.std.specs.Prelude.{filter, map, IfErr, IfSome}
use Rattle.std.specs.declared.option.Option.{Option}
use Rattle.std.specs.declared.result.Result.{Result}
use Rattle.esdk_fields.specs.declared.faults.Fault.{Fault}
use Rattle.esdk_fields.specs.declared.faults.Fault.TheVariants as faults
use Rattle.esdk_fields.specs.declared.refusals.Outside.TheVariants as outsides
use Rattle.esdk_fields.specs.declared.refusals.Refusal.{Refusal}
use Rattle.esdk_fields.specs.declared.refusals.Refusal.TheVariants as refusals
use Rattle.esdk_args.specs.declared.pair_words.PairWord.{PairWord}
use Rattle.esdk_args.specs.declared.request.EncryptWords.{EncryptWords}
use Rattle.esdk_base.specs.Streams.{EntropyState, SourceState}
use Rattle.context_codec.specs.Context.{KeyValue}
use Rattle.context_codec.specs.KeySet.{AreAscendingKeys, with_keys}
use Rattle.context_codec.proofs.KeySets.{AreAscendingKeys-with_keys, with_keys-from_nil}
use Rattle.keyring_trait.specs.declared.manager_errors.ManagerError.{ManagerError}
use Rattle.keyring_trait.specs.declared.manager_errors.ManagerError.TheVariants as managers
use Rattle.keyring_trait.specs.declared.served.Served.{Served}
use Rattle.keyring_trait.specs.declared.served.Served.TheVariants.{Direct}
use Rattle.keyring_trait.specs.Keyring.{KeyringMeaning}
use Rattle.keyring_trait.specs.Manager.{AreDrawn, FindsMaterials, FindsNone, GivesMaterials, GivesNone, IsNew, ManagerNow, Went, request_refusal}
use Rattle.keyring_trait.specs.Materials.{DecMaterialsValue, EncMaterialsValue}
use Rattle.keyring_trait.specs.Requests.{DecRequestValue, EncRequestValue}
use Rattle.keyring_trait.specs.Saying.{said_last}
use Rattle.keyring_trait.specs.Wrapping.{WrapKeyValue, ivs_of, made}
use Rattle.cmm_default.specs.DefaultCmm.{default_now, default_tells}
use Rattle.cmm_required.specs.RequiredCmm.{required_now}
use Rattle.esdk_encrypt.specs.declared.errors.EncryptError.{EncryptError}
use Rattle.esdk_encrypt.specs.declared.errors.EncryptError.TheVariants as errors
use Rattle.esdk_encrypt.specs.Encrypt.{EncryptAsked, EncryptEnds, encrypting_from}
use Rattle.esdk_encrypt.specs.Gaining.{Gaining}
use Rattle.esdk_encrypt.specs.Told.{NoneForRequest}
use Rattle.esdk_encrypt.proofs.Telling.{SaysMore, ends_more}
use Rattle.esdk_decrypt.specs.Decrypt.{answering_of}
use Rattle.esdk_decrypt.proofs.Told.{Allows}
use Rattle.esdk_run.specs.Decrypt.{TreeFinds, TreeFindsNone, tree_answering}
use Rattle.esdk_run.specs.Encrypt.{encrypt_asked, refusal_asked, request_asked}
use Rattle.esdk_run.specs.Giving.{TreeGives, refusal_over}
use Rattle.esdk_run.specs.Pairs.{required_in}
use Rattle.esdk_run.specs.Trees.{TreeGoes}

no_keys_ascend : AreAscendingKeys []
no_keys_ascend k d lt = absurd (omega arith)

-- the keys that the words require, put into no keys
required_alone : (words : List PairWord) → with_keys [] (required_in words) ≡ required_in words
required_alone words =
    with_keys-from_nil (required_in words) (AreAscendingKeys-with_keys [] (map (λ word. word.key) (filter (λ word. word.required) words)) no_keys_ascend)

-- what is so of each value that may be there is so of it where it is
pub where_some : {A : Type 0} (o : Option A) (Q : A → Type 0) → ((a : A) → o ≡ Some a → Q a) → IfSome o Q
where_some None Q each = tt
where_some (Some a) Q each = each a refl

-- where just what was told is told
pub same_keys : (old new : Option (List WrapKeyValue)) → ((ws : List WrapKeyValue) → old ≡ Some ws → new ≡ Some ws) → ((ws : List WrapKeyValue) → new ≡ Some ws → old ≡ Some ws) → new ≡ old
same_keys (Some ws) new on back = on ws refl
same_keys None (Some ws) on back = sym (back ws refl)
same_keys None None on back = refl

-- ---- the chain

-- the chain over a tree, with these keys required
abbrev pub chain : KeyringMeaning → List (List ℕ) → ManagerNow
chain tree keys = required_now keys (default_now tree)

-- it is exact
chain_is_exact : (tree : KeyringMeaning) (keys : List (List ℕ)) → (chain tree keys).exact
chain_is_exact tree keys = (tt, refl)

-- a request of these pairs, which requires no key by itself
abbrev pub request_of : List KeyValue → EncRequestValue
request_of context = record { context = context; required = []; declared = None }

-- it refuses what the words are refused for
chain_refusal : (asked : EncryptWords) (context : List KeyValue) (tree : KeyringMeaning)
    → request_refusal (chain tree (required_in asked.pairs)).meaning context ≡ refusal_asked asked context tree
unfolding request_refusal refusal_asked refusal_over
chain_refusal asked context tree = refl

-- ---- materials to encrypt with

-- what a manager gives that draws for the tree is what the tree gives
pub gives_drawn : (refusal : Option Refusal) (tree : KeyringMeaning) (request : EncRequestValue) (random : List ℕ) (m : EncMaterialsValue)
    → refusal ≡ None → m.context ≡ request.context → m.required ≡ request.required → length m.entries ≡ tree.wraps → m.served ≡ Direct
    → (IsNew m.served → AreDrawn tree.wraps (default_tells tree) random m) → TreeGives refusal tree request random m
gives_drawn refusal tree request random m unrefused whole required count direct fresh =
    let drawn : AreDrawn tree.wraps (default_tells tree) random m = fresh (subst (λ (s : Served). IsNew s) (sym direct) tt) in
    record {
      unrefused = unrefused;
      whole = whole;
      required = required;
      key = drawn.key;
      count = count;
      wrapped = where_some tree.keys (λ keys. m.entries ≡ made keys request.context (take 32 random) (ivs_of tree.wraps (drop 32 random)))
          (λ keys told. drawn.entries keys told ∙ (λ i. made keys (whole i) (drawn.key i) (ivs_of tree.wraps (drop 32 random))));
      served = direct;
    }

chain_gives : (asked : EncryptWords) (context : List KeyValue) (tree : KeyringMeaning) (random : List ℕ) (m : EncMaterialsValue)
    → GivesMaterials (chain tree (required_in asked.pairs)) (request_of context) random m
    → TreeGives (refusal_asked asked context tree) tree (request_asked asked context) random m
chain_gives asked context tree random m given =
    let is : (chain tree (required_in asked.pairs)).exact = chain_is_exact tree (required_in asked.pairs) in
    gives_drawn (refusal_asked asked context tree) tree (request_asked asked context) random m (sym (chain_refusal asked context tree) ∙ given.unrefused is)
    given.context (given.demanded is ∙ required_alone asked.pairs) given.count (given.plain refl) (given.fresh refl)

chain_gives_none : (asked : EncryptWords) (context : List KeyValue) (tree left : KeyringMeaning) (keys : List (List ℕ)) (error : ManagerError)
    → GivesNone (chain tree (required_in asked.pairs)) (chain left keys) (request_of context) error → NoneForRequest (refusal_asked asked context tree) tree.faults left.faults error
chain_gives_none asked context tree left keys (managers.Fault fault) cause = cause
chain_gives_none asked context tree left keys (managers.Refusal refusal) cause =
    sym (chain_refusal asked context tree) ∙ cause.1 (chain_is_exact tree (required_in asked.pairs))
chain_gives_none asked context tree left keys managers.KeyringFault cause =
    (sym (chain_refusal asked context tree) ∙ cause.1 (chain_is_exact tree (required_in asked.pairs)), cause.0)
chain_gives_none asked context tree left keys managers.Memory cause = tt

-- what a chain that held the tree `node`, and then `left`, may have said last to this request
abbrev asked_of_chain : EncryptWords → ManagerNow → ManagerNow → EncRequestValue → ℕ → EncryptAsked
asked_of_chain asked old new r now = encrypting_from (said_last old new) r now asked.frame asked.max_keys

-- What is asked of the chain is what the words ask for, whose keys it requires. It held a tree and then `left`, of which `meaning` says what they mean.
pub chain_says_more : {N : Type 0} (meaning : N → KeyringMeaning) (p q : N × List (List ℕ)) (r : EncRequestValue) (now : ℕ) (asked : EncryptWords)
    (context : List KeyValue) (left : N) → p.1 ≡ required_in asked.pairs → r ≡ request_of context → left ≡ q.0
    → SaysMore (encrypting_from (said_last (chain (meaning p.0) p.1) (chain (meaning q.0) q.1)) r now asked.frame asked.max_keys)
    (encrypt_asked asked context (meaning p.0) (meaning left))
chain_says_more {N} meaning p q r now asked context left is_keys is_r is_left =
    let tree : KeyringMeaning = meaning p.0 in
    let later : ManagerNow = chain (meaning q.0) q.1 in
    let more : SaysMore (asked_of_chain asked (chain tree (required_in asked.pairs)) later (request_of context) now) (encrypt_asked asked context tree (meaning q.0)) =
    record {
      wraps = refl;
      gives = λ random m given. (chain_gives asked context tree random m given.0, given.1);
      gives_none = λ error cause. chain_gives_none asked context tree (meaning q.0) q.1 error cause;
      size = refl;
      max_keys = refl;
    } in
    subst (λ (l : N). SaysMore (asked_of_chain asked (chain tree p.1) later r now) (encrypt_asked asked context tree (meaning l))) (sym is_left)
    (subst (λ (keys : List (List ℕ)). SaysMore (asked_of_chain asked (chain tree keys) later r now) (encrypt_asked asked context tree (meaning q.0))) (sym is_keys)
    (subst (λ (s : EncRequestValue). SaysMore (asked_of_chain asked (chain tree (required_in asked.pairs)) later s now) (encrypt_asked asked context tree (meaning q.0))) (sym is_r) more))

-- what the chain leaves of its tree
pub chain_goes : {N : Type 0} (meaning : N → KeyringMeaning) (p q : N × List (List ℕ)) (left : N) → left ≡ q.0
    → Went (chain (meaning p.0) p.1) (chain (meaning q.0) q.1) → TreeGoes (meaning p.0) (meaning left)
chain_goes {N} meaning p q left is_left went =
    let on : TreeGoes (meaning p.0) (meaning q.0) = record {
      keys = same_keys (meaning p.0).keys (meaning q.0).keys went.tells (went.same refl);
      wraps = went.goes.wraps;
      refuses = went.goes.refuses;
      steady = went.goes.steady;
      later = went.goes.later;
      still = went.goes.still;
    } in
    subst (λ (l : N). TreeGoes (meaning p.0) (meaning l)) (sym is_left) on

-- what follows of a manager that wasn't asked
pub ends_unasked : (asked : EncryptAsked) (input taken : SourceState) (gains : Gaining) (entropy spent : EntropyState) (untouched unasked still : Type 0) (error : EncryptError) → (unasked → still)
    → EncryptEnds asked input taken gains entropy spent untouched unasked error → EncryptEnds asked input taken gains entropy spent untouched still error
ends_unasked asked input taken gains entropy spent untouched unasked still (errors.Outside outsides.EntropyFault) so ends =
    record { rose = ends.rose; kept = ends.kept; none = ends.none; same = ends.same; manager = so ends.manager }
ends_unasked asked input taken gains entropy spent untouched unasked still (errors.Outside outsides.KeyringFault) so ends = ends
ends_unasked asked input taken gains entropy spent untouched unasked still (errors.Outside outside) so ends = ends
ends_unasked asked input taken gains entropy spent untouched unasked still (errors.Refusal refusals.TooManyFrames) so ends = ends
ends_unasked asked input taken gains entropy spent untouched unasked still (errors.Refusal (refusals.TooManyDataKeys n)) so ends = ends
ends_unasked asked input taken gains entropy spent untouched unasked still (errors.Refusal (refusals.HeaderTooLong n)) so ends = ends
ends_unasked asked input taken gains entropy spent untouched unasked still (errors.Refusal refusal) so ends = ends
ends_unasked asked input taken gains entropy spent untouched unasked still errors.Memory so ends = ends

pub errs_more : (a b : EncryptAsked) (input taken : SourceState) (gains : Gaining) (entropy spent : EntropyState) (untouched unasked still : Type 0) (r : Result (Unit {0}) EncryptError) → SaysMore a b → (unasked → still)
    → IfErr r (λ error. EncryptEnds a input taken gains entropy spent untouched unasked error) → IfErr r (EncryptEnds b input taken gains entropy spent untouched still)
errs_more a b input taken gains entropy spent untouched unasked still (Ok done) more so ends = tt
errs_more a b input taken gains entropy spent untouched unasked still (Err error) more so ends =
    ends_unasked b input taken gains entropy spent untouched unasked still error so (ends_more a b input taken gains entropy spent untouched unasked error more ends)

-- of a tree whose manager is as it was, this is left as it was read
pub left_as_read : {N : Type 0} (meaning : N → KeyringMeaning) (p q : N × List (List ℕ)) (left : N) → left ≡ q.0 → q ≡ p → meaning left ≡ meaning p.0
left_as_read {N} meaning p q left is same = ap meaning (is ∙ (λ i. (same i).0))

-- ---- materials to decrypt with

chain_finds : (required keys : List (List ℕ)) (tree left : KeyringMeaning) (request : DecRequestValue) (m : DecMaterialsValue)
    → FindsMaterials (chain tree required) (chain left keys) request m → TreeFinds required tree left request m
chain_finds required keys tree left request m finds = record {
  sound = finds.unfaulted (chain_is_exact tree required);
  context = finds.context;
  only = finds.only;
  opens = where_some tree.keys _ (λ ws told. record {
    opened = rw finds.context at finds.opened ws told;
    none = λ none. absurd (let no_key : Some m.key ≡ None = none in cc);
    first = λ stayed. sym (rw finds.context at finds.first ws told stayed);
  });
}

chain_fault : (required keys : List (List ℕ)) (tree left : KeyringMeaning) (request : DecRequestValue) (fault : Fault)
    → FindsNone (chain tree required) (chain left keys) request (managers.Fault fault) → TreeFindsNone required tree left request (managers.Fault fault)
chain_fault required keys tree left request faults.ReservedKey finds = finds.1 (chain_is_exact tree required)
chain_fault required keys tree left request (faults.ContextMismatch key) finds = finds.1 (chain_is_exact tree required)
chain_fault required keys tree left request (faults.MissingRequired key) finds = finds.1 (chain_is_exact tree required)
chain_fault required keys tree left request (faults.ContextTooLong n) finds = finds.1 (chain_is_exact tree required)
chain_fault required keys tree left request faults.NoKeyOpens finds =
    record { sound = finds.1 (chain_is_exact tree required); none = where_some tree.keys _ (λ ws told. finds.0 ws told) }
chain_fault required keys tree left request fault finds = absurd finds.0

chain_finds_none : (required keys : List (List ℕ)) (tree left : KeyringMeaning) (request : DecRequestValue) (error : ManagerError)
    → FindsNone (chain tree required) (chain left keys) request error → TreeFindsNone required tree left request error
chain_finds_none required keys tree left request (managers.Fault fault) finds = chain_fault required keys tree left request fault finds
chain_finds_none required keys tree left request (managers.Refusal refusal) none = none
chain_finds_none required keys tree left request managers.KeyringFault failed = (failed.1 (chain_is_exact tree required), failed.0)
chain_finds_none required keys tree left request managers.Memory free = tt

-- what the chain may answer, the tree may
pub chain_allows : {N : Type 0} (now : ℕ) (meaning : N → KeyringMeaning) (p q : N × List (List ℕ)) (required : List (List ℕ)) (left : N)
    → p.1 ≡ required → left ≡ q.0
    → Allows (answering_of (chain (meaning p.0) p.1) (chain (meaning q.0) q.1) now)
    (tree_answering required (meaning p.0) (meaning left))
chain_allows {N} now meaning p q required left is_keys is_left =
    let tree : KeyringMeaning = meaning p.0 in
    let allows : Allows (answering_of (chain tree required) (chain (meaning q.0) q.1) now) (tree_answering required tree (meaning q.0)) =
    record {
      finds = λ request m finds. (chain_finds required q.1 tree (meaning q.0) request m finds.0, finds.1);
      finds_none = λ request error finds. chain_finds_none required q.1 tree (meaning q.0) request error finds;
    } in
    subst (λ (l : N). Allows (answering_of (chain tree p.1) (chain (meaning q.0) q.1) now) (tree_answering required tree (meaning l))) (sym is_left)
    (subst (λ (keys : List (List ℕ)). Allows (answering_of (chain tree keys) (chain (meaning q.0) q.1) now) (tree_answering required tree (meaning q.0))) (sym is_keys) allows)
