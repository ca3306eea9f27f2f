-- Worked rows of the cache, computed on its definition.
use Rattle.std.specs.Prelude.{◌≡◌, ℕ, List, [], ◌∷◌, map, codes, Option, Some, None, refl}
use Rattle.keyring_trait.specs.declared.served.Served.{Served}
use Rattle.keyring_trait.specs.declared.served.Served.TheVariants.{Direct, New, Hit}
use Rattle.cmm_caching.specs.Limits.{LimitsValue}
use Rattle.cmm_caching.specs.Names.{NameValue, name_eq}
use Rattle.cmm_caching.specs.Ask.{GivenValue, CacheCall, empty, ask, replay}

-- what the inner manager gives plays no part
abbrev given : GivenValue
given = record { context = []; only = []; required = []; key = []; entries = [] }

-- a request to encrypt over one pair, with these keys required
abbrev sealing : List ℕ → List (List ℕ) → NameValue
sealing key required = record { suite = None; pairs = (key, codes "value") ∷ []; given = []; required = required; entries = [] }

-- a request to decrypt, where one pair is given
abbrev opening : List ℕ → NameValue
opening key = record { suite = Some 1144; pairs = []; given = (key, codes "value") ∷ []; required = []; entries = [] }

abbrev call : NameValue → Option ℕ → ℕ → CacheCall
call name declared now = record { wish = record { name = name; declared = declared }; now = now; got = given }

abbrev limits : ℕ → ℕ → ℕ → ℕ → LimitsValue
limits capacity age messages bytes = record { capacity = capacity; age = age; messages = messages; bytes = bytes }

abbrev served : LimitsValue → List CacheCall → List Served
served l calls = map (λ h. h.served) (replay l empty calls)

-- one entry only: each of two requests in turn is a new one
one_entry : served (limits 1 60 10 1000) (call (sealing (codes "a") []) (Some 1) 5 ∷ call (sealing (codes "b") []) (Some 1) 5 ∷ call (sealing (codes "a") []) (Some 1) 5 ∷ [])
    ≡ New 1 ∷ New 2 ∷ New 3 ∷ []
unfolding ask name_eq
one_entry = refl

-- two entries
two_entries : served (limits 2 60 10 1000) (call (sealing (codes "a") []) (Some 1) 5 ∷ call (sealing (codes "b") []) (Some 1) 5 ∷ call (sealing (codes "a") []) (Some 1) 5 ∷ [])
    ≡ New 1 ∷ New 2 ∷ Hit 1 ∷ []
unfolding ask name_eq
two_entries = refl

-- a length that isn't declared
undeclared : served (limits 2 60 10 1000) (call (sealing (codes "a") []) (Some 1) 5 ∷ call (sealing (codes "a") []) None 5 ∷ call (sealing (codes "a") []) (Some 1) 5 ∷ [])
    ≡ New 1 ∷ Direct ∷ Hit 1 ∷ []
unfolding ask name_eq
undeclared = refl

-- the age, and a moment before an entry was made
by_age : served (limits 5 10 10 1000)
    (call (sealing (codes "a") []) (Some 1) 0 ∷ call (sealing (codes "a") []) (Some 1) 9 ∷ call (sealing (codes "a") []) (Some 1) 10 ∷ call (sealing (codes "a") []) (Some 1) 9 ∷ [])
    ≡ New 1 ∷ Hit 1 ∷ New 2 ∷ New 3 ∷ []
unfolding ask name_eq
by_age = refl

-- a required key more is another name
by_required_keys : served (limits 5 10 10 1000)
    (call (sealing (codes "a") (codes "a" ∷ [])) (Some 1) 0 ∷ call (sealing (codes "a") []) (Some 1) 0 ∷ call (sealing (codes "a") (codes "a" ∷ [])) (Some 1) 0 ∷ [])
    ≡ New 1 ∷ New 2 ∷ Hit 1 ∷ []
unfolding ask name_eq
by_required_keys = refl

-- other given pairs are another name; a decryption needs no declared length and is no use
by_given_pairs : served (limits 5 10 1 0) (call (opening (codes "a")) None 0 ∷ call (opening (codes "b")) None 0 ∷ call (opening (codes "a")) None 0 ∷ call (opening (codes "a")) None 0 ∷ [])
    ≡ New 1 ∷ New 2 ∷ Hit 1 ∷ Hit 1 ∷ []
unfolding ask name_eq
by_given_pairs = refl

-- two encryptions, of three bytes together
by_use : served (limits 5 10 2 3)
    (call (sealing (codes "a") []) (Some 1) 0 ∷ call (sealing (codes "a") []) (Some 1) 0 ∷ call (sealing (codes "a") []) (Some 1) 0 ∷ call (sealing (codes "a") []) (Some 3) 0
    ∷ call (sealing (codes "a") []) (Some 4) 0 ∷ [])
    ≡ New 1 ∷ Hit 1 ∷ New 2 ∷ New 3 ∷ Direct ∷ []
unfolding ask name_eq
by_use = refl

-- a hit makes an entry the last used, so that the other one drops
by_last_use : served (limits 2 60 10 1000)
    (call (sealing (codes "a") []) (Some 1) 5 ∷ call (sealing (codes "b") []) (Some 1) 5 ∷ call (sealing (codes "a") []) (Some 1) 5 ∷ call (sealing (codes "c") []) (Some 1) 5
    ∷ call (sealing (codes "a") []) (Some 1) 5 ∷ call (sealing (codes "b") []) (Some 1) 5 ∷ [])
    ≡ New 1 ∷ New 2 ∷ Hit 1 ∷ New 3 ∷ Hit 1 ∷ New 4 ∷ []
unfolding ask name_eq
by_last_use = refl
