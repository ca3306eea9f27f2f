-- What is said of a body, and of its front.
use Rattle.std.proofs.Common.{◌≡◌, ℕ, ◌+◌, ◌*◌, ◌<◌, ◌≤◌, List, [], ◌∷◌, ◌++◌, length, false, Option, sym, ap, ◌∙◌}
use Rattle.std.proofs.lemmas.List.{append-nil}
use Rattle.esdk_fields.specs.declared.contents.Content.{Content}
use Rattle.esdk_fields.specs.declared.contents.Content.TheVariants.{Single, Framed}
use Rattle.esdk_fields.specs.declared.faults.Fault.{Fault}
use Rattle.esdk_fields.specs.declared.faults.Fault.TheVariants.{TrailingBytes}
use Rattle.esdk_fields.specs.Place.{Place, cut}
use Rattle.esdk_fields.specs.Reading.{Reading, Wanting}
use Rattle.esdk_fields.specs.Limits.{is_over}
use Rattle.frame_codec.specs.UnitHead.{longest_block}
use Rattle.frame_codec.specs.Unit.{Piece, Under, frame, block_unit}
use Rattle.frame_codec.specs.Written.{single_block}
use Rattle.body_format.specs.declared.verdicts.Verdict.TheVariants.{Going, Whole, Faulty}
use Rattle.body_format.specs.Rows.{JudgedBody, is_more, released, behind_last, verdict_of}
use Rattle.body_format.specs.Body.{beside_content, judged_frames, judged_block, judged_body}
use Rattle.body_format.specs.Written.{frame_count, pieces, regular_frames, framed_body, IsFramed, AreFull}
use Rattle.body_format.proofs.BodyRows.{frames_row, block_row, no_frame}
use Rattle.body_format.proofs.RowLaws.{Begins}
use Rattle.body_format.proofs.RowLaws as rows
use Rattle.body_format.specs.Laws.{FramesHaveCome}
use Rattle.body_format.proofs.Released.{front_released}
use Rattle.body_format.proofs.WrittenRows.{behind_frames, judged_behind}
use Rattle.body_format.proofs.WrittenBodies.{framed_then, block_then}

abbrev under : List ℕ → List ℕ → Under
under key id = record { key = key; id = id }

-- ---- fronts

-- A fault stays when bytes follow, and so does what was handed out before it.
pub fault_stays : (content : Content) (max_unit : Option ℕ) (key id : List ℕ) (p : Place) (n : ℕ) (fault : Fault) → p.at ≤ n
    → (judged_body content max_unit key id (cut n p)).verdict ≡ Faulty fault → judged_body content max_unit key id p ≡ judged_body content max_unit key id (cut n p)
unfolding judged_body judged_frames judged_block
fault_stays Single max_unit key id p n fault within h = rows.fault_stays 1 (λ k. block_unit max_unit key id) p n fault (block_row max_unit key id) within h
fault_stays (Framed size) max_unit key id p n fault within h = rows.fault_stays (size + beside_content) (frame size (under key id)) p n fault (frames_row size (under key id)) within h

-- What was handed out of a front is what is handed out first of all bytes.
pub units_front : (content : Content) (max_unit : Option ℕ) (key id : List ℕ) (p : Place) (n : ℕ) → p.at ≤ n
    → Begins (judged_body content max_unit key id (cut n p)).units (judged_body content max_unit key id p).units
unfolding judged_body judged_frames judged_block
units_front Single max_unit key id p n within = rows.units_front 1 (λ k. block_unit max_unit key id) p n (block_row max_unit key id) within
units_front (Framed size) max_unit key id p n within = rows.units_front (size + beside_content) (frame size (under key id)) p n (frames_row size (under key id)) within

-- A byte behind what was whole is a fault.
pub too_many : (content : Content) (max_unit : Option ℕ) (key id : List ℕ) (p : Place) (n : ℕ) → p.at ≤ n
    → (judged_body content max_unit key id (cut n p)).verdict ≡ Whole → n < p.at + length p.left → (judged_body content max_unit key id p).verdict ≡ Faulty TrailingBytes
unfolding judged_body judged_frames judged_block
too_many Single max_unit key id p n within whole more = rows.too_many 1 (λ k. block_unit max_unit key id) p n (block_row max_unit key id) within whole more
too_many (Framed size) max_unit key id p n within whole more = rows.too_many (size + beside_content) (frame size (under key id)) p n (frames_row size (under key id)) within whole more

-- A front of what is whole is going.
pub front_going : (content : Content) (max_unit : Option ℕ) (key id : List ℕ) (p : Place) (n : ℕ) → p.at ≤ n
    → (judged_body content max_unit key id p).verdict ≡ Whole → n < p.at + length p.left → (judged_body content max_unit key id (cut n p)).verdict ≡ Going
unfolding judged_body judged_frames judged_block
front_going Single max_unit key id p n within whole more = rows.front_going 1 (λ k. block_unit max_unit key id) p n (block_row max_unit key id) within whole more
front_going (Framed size) max_unit key id p n within whole more = rows.front_going (size + beside_content) (frame size (under key id)) p n (frames_row size (under key id)) within whole more

-- ---- written bodies

-- A text in frames is read back, whatever follows.
pub framed_is : (frame_length : ℕ) (u : Under) (text more : List ℕ) (max_unit : Option ℕ) (at : ℕ) → IsFramed frame_length text
    → judged_body (Framed frame_length) max_unit u.key u.id (record { at = at; left = framed_body frame_length u text ++ more }) ≡ record { units = pieces frame_length text (frame_count (length text) frame_length); verdict = behind_last more }
unfolding judged_body judged_frames
framed_is frame_length u text more max_unit at framed = framed_then frame_length u text more at (frames_row frame_length u) framed

pub framed_whole : (frame_length : ℕ) (u : Under) (text : List ℕ) (max_unit : Option ℕ) (at : ℕ) → IsFramed frame_length text
    → judged_body (Framed frame_length) max_unit u.key u.id (record { at = at; left = framed_body frame_length u text }) ≡ record { units = pieces frame_length text (frame_count (length text) frame_length); verdict = Whole }
framed_whole frame_length u text max_unit at framed =
    ap (λ (l : List ℕ). judged_body (Framed frame_length) max_unit u.key u.id (record { at = at; left = l })) (sym (append-nil (framed_body frame_length u text))) ∙ framed_is frame_length u text [] max_unit at framed

-- A single block is read back, whatever follows.
pub block_is : (max_unit : Option ℕ) (key id iv text more : List ℕ) (at : ℕ) → length iv ≡ 12 → length text ≤ longest_block → is_over max_unit (length text) ≡ false
    → judged_body Single max_unit key id (record { at = at; left = single_block key id iv text ++ more }) ≡ record { units = text ∷ []; verdict = behind_last more }
unfolding judged_body judged_block
block_is max_unit key id iv text more at len within limit = block_then max_unit key id iv text more at (block_row max_unit key id) len within limit

pub block_whole : (max_unit : Option ℕ) (key id iv text : List ℕ) (at : ℕ) → length iv ≡ 12 → length text ≤ longest_block → is_over max_unit (length text) ≡ false
    → judged_body Single max_unit key id (record { at = at; left = single_block key id iv text }) ≡ record { units = text ∷ []; verdict = Whole }
block_whole max_unit key id iv text at len within limit =
    ap (λ (l : List ℕ). judged_body Single max_unit key id (record { at = at; left = l })) (sym (append-nil (single_block key id iv text))) ∙ block_is max_unit key id iv text [] at len within limit

-- ---- fronts of written bodies

-- Of a front of a written body the whole frames so far are handed out.
pub front_releases : (frame_length : ℕ) (u : Under) (text : List ℕ) (max_unit : Option ℕ) (at n : ℕ) → IsFramed frame_length text → at ≤ n → n < at + length (framed_body frame_length u text)
    → (count : ℕ) × (FramesHaveCome frame_length (length text) at n count
    × (judged_body (Framed frame_length) max_unit u.key u.id (cut n (record { at = at; left = framed_body frame_length u text })) ≡ record { units = pieces frame_length text count; verdict = Going }))
unfolding judged_body judged_frames
front_releases frame_length u text max_unit at n framed within early =
    let p : Place = record { at = at; left = framed_body frame_length u text } in
    let whole = ap (λ (j : JudgedBody). j.verdict) (framed_whole frame_length u text max_unit at framed) in
    let going = rows.front_going (frame_length + beside_content) (frame frame_length u) p n (frames_row frame_length u) within whole early in
    let found = front_released frame_length u text at n framed within going in
    (found.0, (found.1.0, rows.same_judged (judged_frames frame_length u (cut n p)) (record { units = pieces frame_length text found.0; verdict = Going }) found.1.1 going))

-- Regular frames alone are handed out, and the body is going.
pub frames_going : (frame_length : ℕ) (u : Under) (text : List ℕ) (m : ℕ) (max_unit : Option ℕ) (at : ℕ) → AreFull frame_length text m
    → judged_body (Framed frame_length) max_unit u.key u.id (record { at = at; left = regular_frames frame_length u text m }) ≡ record { units = pieces frame_length text m; verdict = Going }
unfolding judged_body judged_frames
frames_going frame_length u text m max_unit at full =
    let wants : frame frame_length u m (record { at = at + m * (frame_length + beside_content); left = [] }) ≡ Wanting = no_frame frame_length u m (at + m * (frame_length + beside_content)) in
    let judged = judged_behind frame_length u text m [] at (frames_row frame_length u) full (ap is_more wants) in
    ap (λ (l : List ℕ). judged_frames frame_length u (record { at = at; left = l })) (sym (append-nil (regular_frames frame_length u text m)))
    ∙ rows.same_judged (judged_frames frame_length u (behind_frames frame_length u text m [] at)) (record { units = pieces frame_length text m; verdict = Going })
    (judged.units ∙ ap (λ (r : Reading Piece). pieces frame_length text m ++ released r) wants ∙ append-nil (pieces frame_length text m))
    (judged.verdict ∙ ap verdict_of wants)
