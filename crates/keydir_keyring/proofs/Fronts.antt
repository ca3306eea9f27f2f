-- A room that fills with the front of a file, read by read.
use Rattle.std.proofs.Common.{◌≡◌, ℕ, ◌+◌, ◌≤◌, List, [], ◌++◌, length, take, drop, Option, sym, ap, subst, ◌∙◌, arith, length-append, length-drop}
use Rattle.std.proofs.lemmas.List.{length-take-le, length-take, take_all, take-append-le}
use Rattle.std.proofs.Math.Seq.{take-add, take-append-add}
use Rattle.std.specs.Prelude.{IfOk, Result, Ok, Err}
use Rattle.std.specs.Io.{ReadsAtMost}
use Rattle.esdk_base.specs.Shelf.{Files, Holds, ReadsFrom}
use Rattle.keydir_keyring.specs.Reading.{IsFilled, IsKeyFront}

-- the first of some bytes, and the first of what stands behind them
front_more : (before out bytes : List ℕ) (count more : ℕ) → count ≤ length before → more ≤ length out → take count before ≡ take count bytes
    → drop count bytes ≡ take more out ++ drop (count + more) bytes → take (count + more) (take count before ++ out) ≡ take (count + more) bytes
front_more before out bytes count more inside fits front part =
    let long : length (take count before) ≡ count = length-take-le count before inside in
    let came : length (take more out) ≡ more = length-take-le more out fits in
    let left : take (count + more) (take count before ++ out) ≡ take count before ++ take more out =
    subst (λ n. take (n + more) (take count before ++ out) ≡ take count before ++ take more out) long (take-append-add (take count before) out more) in
    let right : take more (drop count bytes) ≡ take more out =
    ap (take more) part ∙ take-append-le more (take more out) (drop (count + more) bytes) (omega (arith, came)) ∙ take_all more (take more out) (omega (arith, came)) in
    left ∙ ap (λ b. b ++ take more out) front ∙ ap (λ b. take count bytes ++ b) (sym right) ∙ sym (take-add count more bytes)

-- what one read put behind the first bytes of the room; what stands behind that doesn't matter
filled_more : (told : Option Files) (file before out rest : List ℕ) (count more : ℕ) → more ≤ length out
    → ((bytes : List ℕ) → Holds told file bytes → drop count bytes ≡ take more out ++ drop (count + more) bytes)
    → IsFilled told file before count → IsFilled told file (take count before ++ (out ++ rest)) (count + more)
filled_more told file before out rest count more fits part filled =
    let longer : more ≤ length (out ++ rest) = omega (arith, fits, length-append out rest) in
    record {
      fits = omega (arith, filled.fits, longer, length-append (take count before) (out ++ rest), length-take-le count before filled.fits);
      front = λ bytes holds.
          front_more before (out ++ rest) bytes count more filled.fits longer (filled.front bytes holds)
          (part bytes holds ∙ ap (λ b. b ++ drop (count + more) bytes) (sym (take-append-le more out rest fits)));
    }

-- one read more
pub filled_by : {E : Type 0} (told : Option Files) (file before out rest : List ℕ) (count : ℕ) (result : Result ℕ E) → ReadsAtMost result out → ReadsFrom told result file count out
    → IfOk result (λ more. IsFilled told file before count → IsFilled told file (take count before ++ (out ++ rest)) (count + more))
filled_by told file before out rest count (Ok more) fits part = filled_more told file before out rest count more fits.0 part
filled_by told file before out rest count (Err e) fits part = tt

-- the end of the file was seen
pub front_ended : (told : Option Files) (file room : List ℕ) (n : ℕ) → IsFilled told file room n → ((bytes : List ℕ) → Holds told file bytes → drop n bytes ≡ [])
    → IsKeyFront told file room n
front_ended told file room n filled ended = record {
  filled = filled;
  whole = λ _ bytes holds.
      let few : length bytes ≤ n = omega (arith, ap length (ended bytes holds), length-drop n bytes) in
      let many : n ≤ length bytes = omega (arith, ap length (filled.front bytes holds), length-take-le n room filled.fits, length-take n bytes) in
      omega (arith, few, many);
}

-- a read that gave nothing has seen the end
pub front_seen : (first now : Option Files) (file before after : List ℕ) (count more : ℕ) → now ≡ first → IsFilled first file before count
    → (IsFilled now file before count → IsFilled now file after (count + more)) → ((bytes : List ℕ) → Holds now file bytes → more ≡ 0 → drop count bytes ≡ []) → more ≡ 0
    → IsKeyFront first file after count
front_seen first now file before after count more same filled step ended none =
    let grows : IsFilled first file before count → IsFilled first file after (count + more) =
    subst (λ (f : Option Files). IsFilled f file before count → IsFilled f file after (count + more)) same step in
    let as_before : count + more ≡ count = omega (arith, none) in
    let kept : IsFilled first file after count = subst (λ (n : ℕ). IsFilled first file after n) as_before (grows filled) in
    front_ended first file after count kept
    (λ bytes holds. subst (λ (f : Option Files). Holds f file bytes → more ≡ 0 → drop count bytes ≡ []) same (ended bytes) holds none)
