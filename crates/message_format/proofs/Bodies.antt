-- What is said of a body, and of the same body when more bytes follow.
use Rattle.std.proofs.Common.{◌≡◌, ℕ, ◌+◌, ◌-◌, ◌*◌, ◌/◌, ◌<◌, ◌≤◌, List, ◌++◌, length, take, Option, refl, sym, ap, ◌∙◌, arith, inl, inr}
use Rattle.std.proofs.lemmas.List.{length-append, take_at}
use Rattle.std.proofs.Math.Nat.{min-eq_left, min-eq_right, div-lt_iff_lt-mul}
use Rattle.std.proofs.lemmas.Nat.{le-div}
use Rattle.esdk_fields.specs.declared.contents.Content.{Content}
use Rattle.esdk_fields.specs.declared.contents.Content.TheVariants.{Single, Framed}
use Rattle.esdk_fields.specs.declared.faults.Fault.{Fault}
use Rattle.esdk_fields.specs.declared.faults.Fault.TheVariants.{TrailingBytes}
use Rattle.esdk_fields.specs.Place.{Place, followed, cut}
use Rattle.esdk_fields.proofs.Fronts.{end_of}
use Rattle.frame_codec.specs.Unit.{Under}
use Rattle.body_format.specs.declared.verdicts.Verdict.{Verdict}
use Rattle.body_format.specs.declared.verdicts.Verdict.TheVariants.{Going, Whole, Faulty}
use Rattle.body_format.specs.Rows.{JudgedBody}
use Rattle.body_format.specs.Body.{judged_body, beside_content}
use Rattle.body_format.specs.Laws.{FramesHaveCome}
use Rattle.body_format.specs.Written.{IsFramed, frame_count, pieces, framed_body}
use Rattle.body_format.specs.Table.{tabled_frames, tabled_block}
use Rattle.body_format.proofs.BodyLaws.{fault_stays, units_front, too_many, front_releases}
use Rattle.body_format.proofs.TableLaws as tables
use Rattle.body_format.proofs.BlockTable as blocks
use Rattle.message_format.specs.Laws.{frames_in}
use Rattle.message_format.proofs.TrailingUnits.{trailing_units}

-- ---- when more bytes follow

-- the place, before they came
before_more : (p : Place) (more : List ℕ) → cut (end_of p) (followed p more) ≡ p
before_more p more =
    let e : (p.at + length p.left) - p.at ≡ length p.left = omega arith in
    ap (λ (left : List ℕ). record { at = p.at; left = left }) (ap (λ (k : ℕ). take k (p.left ++ more)) e ∙ take_at p.left more (length p.left) refl)

pub body_fault_stays : (content : Content) (max : Option ℕ) (key id : List ℕ) (p : Place) (more : List ℕ) (fault : Fault) → (judged_body content max key id p).verdict ≡ Faulty fault
    → judged_body content max key id (followed p more) ≡ judged_body content max key id p
body_fault_stays content max key id p more fault e =
    let front : judged_body content max key id (cut (end_of p) (followed p more)) ≡ judged_body content max key id p = ap (judged_body content max key id) (before_more p more) in
    fault_stays content max key id (followed p more) (end_of p) fault (omega arith) (ap (λ (j : JudgedBody). j.verdict) front ∙ e) ∙ front

pub body_units_stay : (content : Content) (max : Option ℕ) (key id : List ℕ) (p : Place) (more : List ℕ)
    → (added : List (List ℕ)) × ((judged_body content max key id (followed p more)).units ≡ (judged_body content max key id p).units ++ added)
body_units_stay content max key id p more =
    let begins = units_front content max key id (followed p more) (end_of p) (omega arith) in (
      begins.more,
      begins.is ∙ ap (λ (q : Place). (judged_body content max key id q).units ++ begins.more) (before_more p more),
    )

pub body_trailing_units : (content : Content) (max : Option ℕ) (key id : List ℕ) (p : Place) (more : List ℕ) → (judged_body content max key id p).verdict ≡ Whole
    → (judged_body content max key id (followed p more)).units ≡ (judged_body content max key id p).units
body_trailing_units content max key id p more e =
    let front : judged_body content max key id (cut (end_of p) (followed p more)) ≡ judged_body content max key id p = ap (judged_body content max key id) (before_more p more) in
    trailing_units content max key id (followed p more) (end_of p) (omega arith) (ap (λ (j : JudgedBody). j.verdict) front ∙ e) ∙ ap (λ (j : JudgedBody). j.units) front

same_body : (j : JudgedBody) (units : List (List ℕ)) (verdict : Verdict) → j.units ≡ units → j.verdict ≡ verdict → j ≡ record { units = units; verdict = verdict }
same_body j units verdict e f = ap (λ (u : List (List ℕ)). record { units = u; verdict = j.verdict }) e ∙ ap (λ (v : Verdict). record { units = units; verdict = v }) f

pub body_trailing : (content : Content) (max : Option ℕ) (key id : List ℕ) (p : Place) (more : List ℕ) → (judged_body content max key id p).verdict ≡ Whole → 1 ≤ length more
    → judged_body content max key id (followed p more) ≡ record { units = (judged_body content max key id p).units; verdict = Faulty TrailingBytes }
body_trailing content max key id p more e some =
    let whole : (judged_body content max key id (cut (end_of p) (followed p more))).verdict ≡ Whole = ap (λ (q : Place). (judged_body content max key id q).verdict) (before_more p more) ∙ e in
    same_body (judged_body content max key id (followed p more)) (judged_body content max key id p).units (Faulty TrailingBytes) (body_trailing_units content max key id p more e)
    (too_many content max key id (followed p more) (end_of p) (omega arith) whole (omega (arith, length-append p.left more)))

-- ---- a front of what was written

-- the whole frames of a front, as a number
frames_are : (frame_length size at n count : ℕ) → FramesHaveCome frame_length size at n count → count ≡ frames_in frame_length (frame_count size frame_length) (n - at)
frames_are frame_length size at n count r =
    let width : ℕ = frame_length + beside_content in
    let few : count ≤ frame_count size frame_length - 1 = omega (arith, r.few) in
    let come : count * width ≤ n - at = omega (arith, r.come) in
    let low : count ≤ (n - at) / width = le-div count (n - at) width (omega arith) come in
    elim r.no_more [
      | inl all ↦ (let last : frame_count size frame_length - 1 ≡ count = omega (arith, all) in sym (min-eq_left (omega (arith, low, last)) ∙ last))
      | inr early ↦
          (let next : (n - at) < (count + 1) * width = omega (arith, early, r.come) in
          let wide : 0 < width = omega arith in
          let high : (n - at) / width < count + 1 = (div-lt_iff_lt-mul {k = width} {x = n - at} {y = count + 1} wide).1 next in
          let is : (n - at) / width ≡ count = omega (arith, low, high) in
          sym (min-eq_right (omega (arith, is, few)) ∙ is))
    ]

pub body_front : (max : Option ℕ) (frame_length : ℕ) (u : Under) (text : List ℕ) (at n : ℕ) → IsFramed frame_length text → at ≤ n → n < at + length (framed_body frame_length u text)
    → judged_body (Framed frame_length) max u.key u.id (cut n (record { at = at; left = framed_body frame_length u text }))
    ≡ record { units = pieces frame_length text (frames_in frame_length (frame_count (length text) frame_length) (n - at)); verdict = Going }
body_front max frame_length u text at n framed low high =
    let found = front_releases frame_length u text max at n framed low high in
    found.1.1 ∙ ap (λ (count : ℕ). record { units = pieces frame_length text count; verdict = Going }) (frames_are frame_length (length text) at n found.0 found.1.0)

-- ---- line by line

pub frames_tabled : (max : Option ℕ) (frame_length : ℕ) (u : Under) (p : Place) → judged_body (Framed frame_length) max u.key u.id p ≡ tabled_frames frame_length u p.left
unfolding judged_body
frames_tabled max frame_length u p = tables.frames_tabled frame_length u p

pub block_tabled : (max : Option ℕ) (key id : List ℕ) (p : Place) → judged_body Single max key id p ≡ tabled_block max key id p.left
unfolding judged_body
block_tabled max key id p = blocks.block_tabled max key id p
