-- Which wrapping keys the calls of a keyring go by.
use Rattle.std.specs.Prelude.{◌≡◌, ◌≤◌, List, [], ◌∷◌, ◌++◌, length, ⊤, Option, Some, None}
use Rattle.keyring_trait.specs.Wrapping.{WrapKeyValue}

-- What a keyring shows of one of its wrapping keys: it is the same in every call; or it is read
-- anew in each, and these are the keys that were read for it so far, in their order.
pub data KeyUse : Type 0 where
  Fixed : WrapKeyValue → KeyUse
  ReadAnew : List WrapKeyValue → KeyUse

-- What one call went by of such a key: the fixed one; or what was read for it, which is one key at
-- the most, and none where it wasn't asked for or couldn't be read.
abbrev pub GoesBy : KeyUse → KeyUse → List WrapKeyValue → Type 0
GoesBy (Fixed key) now here = (now ≡ Fixed key) × (here ≡ key ∷ [])
GoesBy (ReadAnew before) now here = (now ≡ ReadAnew (before ++ here)) × (length here ≤ 1)

-- Keys that are such, and behind them such ones.
pub record AreInOrder (First Others : List WrapKeyValue → Type 0) (keys : List WrapKeyValue)
    : Type 0 where
  pub here : List WrapKeyValue
  pub behind : List WrapKeyValue
  pub are : keys ≡ here ++ behind
  pub first : First here
  pub others : Others behind

-- what one call went by of all of them, in their order
abbrev pub AllGoBy : List KeyUse → List KeyUse → List WrapKeyValue → Type 0
AllGoBy [] [] keys = keys ≡ []
AllGoBy [] (n ∷ ns) keys = ⊥
AllGoBy (o ∷ os) [] keys = ⊥
AllGoBy (o ∷ os) (n ∷ ns) keys = AreInOrder (GoesBy o n) (λ behind. AllGoBy os ns behind) keys

-- Between two moments of a keyring, of which it shows this, none of its keys was asked for more
-- than once; and this is so of the keys that it went by. Of a keyring that shows nothing it says
-- nothing.
abbrev pub AskedOnce : Option (List KeyUse) → Option (List KeyUse) → (List WrapKeyValue → Type 0)
    → Type 0
AskedOnce None now So = ⊤
AskedOnce (Some before) None So = ⊥
AskedOnce (Some before) (Some now) So =
    (keys : List WrapKeyValue) × AllGoBy before now keys × So keys
