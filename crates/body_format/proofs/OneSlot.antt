-- One slot of a body, and what it says of the whole.
use Rattle.std.proofs.Common.{◌≡◌, ℕ, ◌+◌, ◌*◌, ◌≤◌, Bool, true, false, cond, ltb, List, length, drop, Option, Some, None, refl, sym, ap, ◌∙◌, arith, inl, inr, length-take, length-drop}
use Rattle.std.specs.Prelude.{◌&&◌, is_some, not, nat_lt, ◌==◌}
use Rattle.std.proofs.lemmas.Bool.{cases_lt, lt-ltb}
use Rattle.esdk_fields.specs.Place.{Place}
use Rattle.cipher_spec.specs.Gcm.{opened}
use Rattle.cipher_spec.proofs.GcmLemmas.{sealed_from_opened}
use Rattle.frame_codec.proofs.Ciphers.{length-sealed_cipher}
use Rattle.frame_codec.specs.declared.kinds.UnitKind.TheVariants as kinds
use Rattle.frame_codec.specs.UnitAad.{unit_aad}
use Rattle.frame_codec.specs.UnitHead.{is_final}
use Rattle.frame_codec.specs.Rows.{number_at}
use Rattle.frame_codec.specs.Unit.{Under, frame}
use Rattle.body_format.specs.Body.{beside_content, judged_frames}
use Rattle.body_format.specs.Table.{slice_at, slot_bytes, good_regular, good_final, first_not_regular, decided_at, tabled_frames}
use Rattle.body_format.specs.Laws.{IsFirst}
use Rattle.body_format.specs.OneSlot.{AreReadAlone}
use Rattle.body_format.proofs.BodyRows.{frames_row}
use Rattle.body_format.proofs.FrameTable.{regular_content, final_content, frame_tabled}
use Rattle.body_format.proofs.Slots.{first_is}
use Rattle.body_format.proofs.TableLaws.{some_is, first_same, frames_tabled}

pub read_alone : (frame_length : ℕ) (u : Under) (p : Place) (k : ℕ) → AreReadAlone frame_length u p k
read_alone frame_length u p k = record {
  frame_is = frame_tabled frame_length u k p.at p.left;
  slot_is = frame_tabled frame_length u k (p.at + k * (frame_length + beside_content)) (slot_bytes frame_length p.left k);
}

-- there is one first slot that isn't a good regular one
first_unique : (frame_length : ℕ) (u : Under) (p : Place) (n : ℕ) → IsFirst frame_length u p.left n → first_not_regular frame_length u p.left ≡ n
first_unique frame_length u p n first =
    sym (first_same frame_length u p)
    ∙ first_is (frame_length + beside_content) (frame frame_length u) p n (frames_row frame_length u)
    (λ k h. some_is frame_length u p k ∙ ap is_some (first.before k h).1)
    (some_is frame_length u p n ∙ ap is_some first.here)

pub decides : (frame_length : ℕ) (u : Under) (p : Place) (n : ℕ) → IsFirst frame_length u p.left n → judged_frames frame_length u p ≡ decided_at frame_length u p.left n
unfolding tabled_frames
decides frame_length u p n first = frames_tabled frame_length u p ∙ ap (decided_at frame_length u p.left) (first_unique frame_length u p n first)

-- ---- how long a content is

-- what opens is as long as its ciphertext
length_opened : (key iv aad cipher tag text : List ℕ) → opened key iv aad cipher tag ≡ Some text → length text ≡ length cipher
length_opened key iv aad cipher tag text e =
    sym (length-sealed_cipher key iv aad text) ∙ ap (λ (s : List ℕ × List ℕ). length s.0) (sealed_from_opened key iv aad text cipher tag e)

-- a test that gives a value holds
test_holds : (b : Bool) (o : Option (List ℕ)) (text : List ℕ) → cond b o None ≡ Some text → (b ≡ true) × (o ≡ Some text)
test_holds true o text e = (refl, e)
test_holds false o text e = absurd cc

both : (a b : Bool) → (a && b) ≡ true → (a ≡ true) × (b ≡ true)
both true b e = (refl, e)
both false b e = absurd cc

not_less : (m n : ℕ) (b : Bool) → ltb m n ≡ b → not b ≡ true → n ≤ m
not_less m n true e h = absurd cc
not_less m n false e h = elim (cases_lt m n) [
  | inl less ↦ absurd (let no : true ≡ false = sym (lt-ltb m n less) ∙ e in cc)
  | inr within ↦ within
]

pub regular_full : (frame_length : ℕ) (u : Under) (k : ℕ) (bytes text : List ℕ) → good_regular frame_length u k bytes ≡ Some text → length text ≡ frame_length
unfolding good_regular
regular_full frame_length u k bytes text e =
    let there : Bool = not (nat_lt (length bytes) (frame_length + beside_content)) in
    let plain : Bool = not (is_final bytes) in
    let numbered : Bool = number_at 0 bytes == k + 1 in
    let held = test_holds (there && plain && numbered) (regular_content frame_length u k bytes) text e in
    let long : frame_length + 32 ≤ length bytes = not_less (length bytes) (frame_length + 32) _ refl (both there plain (both (there && plain) numbered held.0).0).0 in
    let same = length_opened u.key (slice_at 4 12 bytes) (unit_aad u.id kinds.Regular (k + 1) frame_length) (slice_at 16 frame_length bytes) (slice_at (16 + frame_length) 16 bytes) text held.1 in
    omega (arith, same, long, length-take frame_length (drop 16 bytes), length-drop 16 bytes)

pub final_short : (frame_length : ℕ) (u : Under) (k : ℕ) (bytes text : List ℕ) → good_final frame_length u k bytes ≡ Some text → length text ≤ frame_length
unfolding good_final
final_short frame_length u k bytes text e =
    let size : ℕ = number_at 20 bytes in
    let there : Bool = not (nat_lt (length bytes) 24) in
    let marked : Bool = is_final bytes in
    let numbered : Bool = number_at 4 bytes == k + 1 in
    let narrow : Bool = not (nat_lt frame_length size) in
    let whole : Bool = not (nat_lt (length bytes) (size + 40)) in
    let first : Bool = there && marked && numbered in
    let held = test_holds (first && narrow && whole) (final_content frame_length u k bytes) text e in
    let fourth : narrow ≡ true = (both first narrow (both (first && narrow) whole held.0).0).1 in
    let within : size ≤ frame_length = not_less frame_length size _ refl fourth in
    let same = length_opened u.key (slice_at 8 12 bytes) (unit_aad u.id kinds.Final (k + 1) size) (slice_at 24 size bytes) (slice_at (24 + size) 16 bytes) text held.1 in
    omega (arith, within, same, length-take size (drop 24 bytes))
