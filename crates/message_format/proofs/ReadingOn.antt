-- A reader's judgement of bytes, and of the same bytes when more follow.
use Rattle.std.proofs.Common.{◌≡◌, ℕ, List, ◌++◌, refl, ap, ◌∙◌}
use Rattle.esdk_fields.specs.Place.{start, followed}
use Rattle.esdk_fields.specs.Reading.{Reading, Read, Refused, Wanting}
use Rattle.esdk_fields.proofs.Fronts.{value_stays}
use Rattle.context_codec.specs.Context.{KeyValue}
use Rattle.header_codec.specs.declared.settings.Settings.{Settings}
use Rattle.header_codec.specs.Header.{HeaderValue}
use Rattle.header_codec.specs.Table.{HeaderFields, header}
use Rattle.header_codec.proofs.Order.{IsSequential-header}
use Rattle.keyring_trait.specs.Wrapping.{WrapKeyValue}
use Rattle.message_format.specs.Judgement.{judged}
use Rattle.message_format.specs.Reading.{unlock_header, unlock_reading, unlocking, read}
use Rattle.message_format.proofs.Following.{SameAnswer, GoesOn, header_stays, follows}

pub unlocking_is : (b : List ℕ) (settings : Settings) (given : List KeyValue) (required : List (List ℕ)) (keys : List WrapKeyValue) (r : Reading HeaderFields) → header settings (start b) ≡ r
    → unlocking b settings given required keys ≡ unlock_reading b given required keys r
unfolding unlocking
unlocking_is b settings given required keys r e = ap (unlock_reading b given required keys) e

pub read_is : (b : List ℕ) (settings : Settings) (given : List KeyValue) (required : List (List ℕ)) (keys : List WrapKeyValue)
    → read b settings given required keys ≡ judged b settings (unlocking b settings given required keys)
unfolding read
read_is b settings given required keys = refl

same_answer : (b more : List ℕ) (settings : Settings) (given : List KeyValue) (required : List (List ℕ)) (keys : List WrapKeyValue) (r : Reading HeaderFields) → header settings (start b) ≡ r
    → SameAnswer r (unlock_reading b given required keys r) (unlocking (b ++ more) settings given required keys)
same_answer b more settings given required keys (Read parts p) e =
    unlocking_is (b ++ more) settings given required keys (Read parts (followed p more)) (value_stays (header settings) b more parts p (IsSequential-header settings) e)
    ∙ ap (λ (h : HeaderValue). unlock_header h given required keys) (header_stays settings b more parts p e)
same_answer b more settings given required keys (Refused fault at) e = tt
same_answer b more settings given required keys Wanting e = tt

pub read_goes_on : (settings : Settings) (given : List KeyValue) (required : List (List ℕ)) (keys : List WrapKeyValue) → GoesOn (λ b. read b settings given required keys)
unfolding read
read_goes_on settings given required keys = λ b more.
    follows b more settings (unlocking b settings given required keys) (unlocking (b ++ more) settings given required keys)
    (rw (unlocking_is b settings given required keys (header settings (start b)) refl) (same_answer b more settings given required keys (header settings (start b)) refl))
