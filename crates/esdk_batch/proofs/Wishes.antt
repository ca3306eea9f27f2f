-- What an encrypt job asks for: the keys that it requires are keys of its context.
use Rattle.std.proofs.Common.{◌≡◌, ℕ, Bool, true, cond, List, [], ◌∷◌, refl, ap, ◌∙◌}
use Rattle.std.specs.Prelude.{not, Some, None, option_map, find}
use Rattle.std.specs.List.{list_all}
use Rattle.std.proofs.lemmas.Bool.{and_parts}
use Rattle.esdk_fields.specs.declared.refusals.Refusal.TheVariants.{RequiredAbsent}
use Rattle.context_codec.specs.Context.{KeyValue}
use Rattle.context_codec.specs.Parts.{holds}
use Rattle.keyring_trait.specs.Requests.{EncRequestValue, required_absent}
use Rattle.desk_core.specs.SealRequest.{SealRequestValue}
use Rattle.esdk_batch.specs.Opening.{job_request}
use Rattle.esdk_batch.specs.SealStory.{SealAsked, wish_of}

-- where all pass a test, none is found that doesn't
find_none : {X : Type 0} (test : X → Bool) (xs : List X) → list_all test xs ≡ true → find (λ x. not (test x)) xs ≡ None
find_none test [] all = refl
find_none test (x ∷ xs) all =
    let parts = and_parts (test x) (list_all test xs) all in
    ap (λ b. cond (not b) (Some x) (find (λ x. not (test x)) xs)) parts.0 ∙ find_none test xs parts.1

pub none_absent : (context : List KeyValue) (keys : List (List ℕ)) → list_all (holds context) keys ≡ true → required_absent context keys ≡ None
none_absent context keys all = ap (option_map RequiredAbsent) (find_none (holds context) keys all)

-- what is asked of the desk is what the job asks
pub asks_as : (asked : SealAsked) (wish : EncRequestValue) (request : SealRequestValue) → request ≡ record { wish = wish; size = asked.frame; max_keys = None } → wish ≡ wish_of asked
    → request ≡ job_request asked
asks_as asked wish request is same = is ∙ ap (λ (w : EncRequestValue). record { wish = w; size = asked.frame; max_keys = None }) same
