-- Content types and frame lengths, as tests and as facts.
use Rattle.std.proofs.Common.{◌≡◌, ◌≢◌, ℕ, ◌<◌, ◌≤◌, ◌^◌, Bool, true, false, not, ◌&&◌, ◌||◌, cond, eqb, Option, Some, None, refl, arith}
use Rattle.std.specs.Prelude.{IfSome}
use Rattle.std.proofs.lemmas.Bool.{eqb-true, eqb-false, ne_eqb}
use Rattle.esdk_fields.specs.declared.contents.Content.{Content}
use Rattle.esdk_fields.specs.declared.contents.Content.TheVariants.{Single, Framed}
use Rattle.header_codec.specs.Header.{content_type, frame_length, IsContent}
use Rattle.esdk_fields.specs.Limits.{is_over}
use Rattle.esdk_fields.proofs.Limited.{within_limit, limit_within}
use Rattle.header_codec.specs.Table.{is_content_type, is_frame_length, is_unit_over, content_of}

-- ---- content

-- what the three tests say of a content's bytes
pub record IsMade (max : Option ℕ) (kind frame : ℕ) (made : Content) : Type 0 where
  pub kind_is : kind ≡ content_type made
  pub frame_is : frame ≡ frame_length made
  pub content : IsContent made
  pub limit : IfSome max (λ most. frame_length made ≤ most)

zero_within : (max : Option ℕ) → IfSome max (λ most. 0 ≤ most)
zero_within None = tt
zero_within (Some most) = omega arith

not_true : (b : Bool) → not b ≡ true → b ≡ false
not_true true e = absurd cc
not_true false e = refl

made_by : (single frames : Bool) (max : Option ℕ) (kind frame : ℕ) → eqb kind 1 ≡ single → eqb kind 2 ≡ frames → (single || frames) ≡ true
    → cond single (eqb frame 0) (not (eqb frame 0)) ≡ true → (frames && is_over max frame) ≡ false → frame < 2 ^ 32 → IsMade max kind frame (cond single Single (Framed frame))
made_by true frames max kind frame one two type length over fits = record {
  kind_is = eqb-true kind 1 one;
  frame_is = eqb-true frame 0 length;
  content = tt;
  limit = zero_within max;
}
made_by false true max kind frame one two type length over fits =
    let some : frame ≢ 0 = eqb-false frame 0 (not_true (eqb frame 0) length) in
    record {
      kind_is = eqb-true kind 2 two;
      frame_is = refl;
      content = (omega arith, fits);
      limit = within_limit max frame over;
    }
made_by false false max kind frame one two type length over fits = absurd cc

pub is_made : (max : Option ℕ) (kind frame : ℕ) → is_content_type kind ≡ true → is_frame_length kind frame ≡ true → is_unit_over max kind frame ≡ false → frame < 2 ^ 32
    → IsMade max kind frame (content_of kind frame)
is_made max kind frame type length over fits = made_by (eqb kind 1) (eqb kind 2) max kind frame refl refl type length over fits

-- and back
pub record Passes (max : Option ℕ) (content : Content) : Type 0 where
  pub type : is_content_type (content_type content) ≡ true
  pub length : is_frame_length (content_type content) (frame_length content) ≡ true
  pub over : is_unit_over max (content_type content) (frame_length content) ≡ false
  pub made : content_of (content_type content) (frame_length content) ≡ content
  pub small_type : content_type content < 2 ^ 8
  pub small_length : frame_length content < 2 ^ 32

pub passes : (max : Option ℕ) (content : Content) → IsContent content → IfSome max (λ most. frame_length content ≤ most) → Passes max content
passes max Single is limit = record { type = refl; length = refl; over = refl; made = refl; small_type = omega arith; small_length = omega arith }
passes max (Framed n) is limit = record {
  type = refl;
  length = nonzero n is.0;
  over = limit_within max n limit;
  made = refl;
  small_type = omega arith;
  small_length = is.1;
}
  where
    not_false : (b : Bool) → b ≡ false → not b ≡ true
    not_false true e = absurd cc
    not_false false e = refl

    ne-zero : (n : ℕ) → 1 ≤ n → eqb n 0 ≡ false
    ne-zero n h = ne_eqb n 0 (λ e. omega arith)

    nonzero : (n : ℕ) → 1 ≤ n → not (eqb n 0) ≡ true
    nonzero n h = not_false (eqb n 0) (ne-zero n h)
