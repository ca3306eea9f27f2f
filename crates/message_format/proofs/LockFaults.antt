-- What a header's lock comes to, by what it commits to and by its tag.
use Rattle.std.proofs.Common.{◌≡◌, ℕ, List, true, false, refl, ap, ◌∙◌}
use Rattle.std.specs.Prelude.{None, Some}
use Rattle.std.specs.Str.{bytes_eq}
use Rattle.esdk_fields.specs.declared.faults.Fault.TheVariants.{Commitment, HeaderTag}
use Rattle.context_codec.specs.Context.{KeyValue}
use Rattle.header_codec.specs.Header.{HeaderValue}
use Rattle.suite_table.specs.Keys.{derived}
use Rattle.message_format.specs.Message.{tag_under, header_tag}
use Rattle.message_format.specs.Judgement.{commits, lock_fault}

pub fault-commitment : (h : HeaderValue) (only : List KeyValue) (key : List ℕ) → commits h key ≡ false → lock_fault h only key ≡ Some Commitment
unfolding lock_fault
fault-commitment h only key uncommitted = rw uncommitted refl

-- the tag that is due
tag_is : (h : HeaderValue) (only : List KeyValue) (key derived_key tag : List ℕ) → derived_key ≡ derived h.suite key h.message_id → tag ≡ tag_under derived_key h.iv h.raw only
    → tag ≡ header_tag h.suite h.iv h.raw only key h.message_id
unfolding header_tag
tag_is h only key derived_key tag key_is is = is ∙ ap (λ k. tag_under k h.iv h.raw only) key_is

pub fault-tag : (h : HeaderValue) (only : List KeyValue) (key derived_key tag : List ℕ) → commits h key ≡ true → derived_key ≡ derived h.suite key h.message_id
    → tag ≡ tag_under derived_key h.iv h.raw only → bytes_eq h.tag tag ≡ false → lock_fault h only key ≡ Some HeaderTag
unfolding lock_fault
fault-tag h only key derived_key tag committed key_is is differs =
    rw (committed, ← tag_is h only key derived_key tag key_is is, differs) refl

pub fault-none : (h : HeaderValue) (only : List KeyValue) (key derived_key tag : List ℕ) → commits h key ≡ true → derived_key ≡ derived h.suite key h.message_id
    → tag ≡ tag_under derived_key h.iv h.raw only → bytes_eq h.tag tag ≡ true → lock_fault h only key ≡ None
unfolding lock_fault
fault-none h only key derived_key tag committed key_is is same = rw (committed, ← tag_is h only key derived_key tag key_is is, same) refl
