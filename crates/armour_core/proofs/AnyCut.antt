-- Sessions whose bytes or text come in any pieces.
use Rattle.std.proofs.Common.{◌≡◌, ℕ, ◌+◌, ◌%◌, ◌==◌, Bool, true, false, List, [], ◌∷◌, ◌++◌, length, take, drop, Option, Some, None, refl, sym, ap, ◌∙◌, arith, if◌then◌else◌, inl, inr, eq-eqb}
use Rattle.std.proofs.lemmas.Bool.{cases_Bool, eqb-true}
use Rattle.std.proofs.lemmas.List.{append-nil, append_assoc, length-append, length-drop, length-take-le, take-append-drop, take-append-le, take_all}
use Rattle.armour_core.specs.ArmourText.{armour_text}
use Rattle.armour_core.specs.Armouring.{ArmouringValue, in_full_lines, line_ended, line_stepped, new_armouring, open_line, taken_of}
use Rattle.armour_core.specs.Unarmoured.{groups_read, unarmoured}
use Rattle.armour_core.specs.Unarmouring.{UnarmouringValue, group_stepped, new_unarmouring, unarmouring_stopped, stepped_where, text_ended, used_in_piece}
use Rattle.armour_core.specs.Laws.{ArmoursAnyCut, ArmourCall, Finish, Step, UnarmoursAnyCut, after_armour_call, after_calls, after_steps, given_by_calls, given_by_steps}
use Rattle.armour_core.specs.LineLaws.{armour_append, armour_nil}
use Rattle.armour_core.proofs.Stepping.{grows}

-- ---- armouring

-- the full lines of what was taken
abbrev pub full_lines : List ℕ → List ℕ
full_lines taken = armour_text (take (in_full_lines (length taken)) taken)

open_length : (taken : List ℕ) → length (open_line taken) ≡ length taken % 57
open_length taken = length-drop (in_full_lines (length taken)) taken ∙ omega arith

-- the full lines, and the text of the open one
pub lines_and_rest : (taken : List ℕ) → full_lines taken ++ armour_text (open_line taken) ≡ armour_text taken
lines_and_rest taken =
    let n : ℕ = in_full_lines (length taken) in
    let size : length (take n taken) ≡ n = length-take-le n taken (omega arith) in
    sym (armour_append (take n taken) (drop n taken) (omega (arith, size))) ∙ ap armour_text (take-append-drop n taken)

-- a step adds the line that it gives
line_added : (v : ArmouringValue) (piece : List ℕ) → full_lines (line_stepped v piece).taken ≡ full_lines v.taken ++ (line_stepped v piece).out
line_added v piece =
    let t : List ℕ = v.taken in
    let used : ℕ = taken_of v piece in
    let more : List ℕ = take used piece in
    let n : ℕ = in_full_lines (length t) in
    let size : length more ≡ used = length-take-le used piece (omega arith) in
    let all : length (t ++ more) ≡ length t + used = length-append t more ∙ ap (λ (k : ℕ). length t + k) size in
    let line : List ℕ = open_line t ++ more in
    let long : length line ≡ length t % 57 + used = length-append (open_line t) more ∙ ap (λ (k : ℕ). k + length more) (open_length t) ∙ ap (λ (k : ℕ). length t % 57 + k) size in
    elim (cases_Bool (length line == 57)) [
      | inl full ↦
          let is : length line ≡ 57 = eqb-true (length line) 57 full in
          let whole : in_full_lines (length (t ++ more)) ≡ length (t ++ more) = omega (arith, all, is, long) in
          let front : length (take n t) ≡ n = length-take-le n t (omega arith) in
          ap (λ (k : ℕ). armour_text (take k (t ++ more))) whole ∙ ap armour_text (take_all (length (t ++ more)) (t ++ more) (omega arith))
          ∙ ap (λ (x : List ℕ). armour_text (x ++ more)) (sym (take-append-drop n t)) ∙ ap armour_text (append_assoc (take n t) (drop n t) more)
          ∙ armour_append (take n t) line (omega (arith, front))
          ∙ ap (λ (x : List ℕ). armour_text (take n t) ++ x) (sym (ap (λ (b : Bool). if b then armour_text line else []) full))
      | inr short ↦
          let not_full : length line ≡ 57 → ⊥ = λ full. let e = sym (eq-eqb (length line) 57 full) ∙ short in cc e in
          let same : in_full_lines (length (t ++ more)) ≡ n = omega (arith, all, not_full, long) in
          ap (λ (k : ℕ). armour_text (take k (t ++ more))) same ∙ ap armour_text (take-append-le n t more (omega arith))
          ∙ sym (append-nil (full_lines t)) ∙ ap (λ (x : List ℕ). full_lines t ++ x) (sym (ap (λ (b : Bool). if b then armour_text line else []) short))
    ]

-- steps in a row add the lines that they give
lines_added : (pieces : List (List ℕ)) (v : ArmouringValue) → full_lines v.taken ++ given_by_steps pieces v ≡ full_lines (after_steps pieces v).taken
unfolding given_by_steps after_steps
lines_added [] v = append-nil (full_lines v.taken)
lines_added (piece ∷ pieces) v =
    sym (append_assoc (full_lines v.taken) (line_stepped v piece).out (given_by_steps pieces (line_stepped v piece)))
    ∙ ap (λ (x : List ℕ). x ++ given_by_steps pieces (line_stepped v piece)) (sym (line_added v piece))
    ∙ lines_added pieces (line_stepped v piece)

still_open : (pieces : List (List ℕ)) (v : ArmouringValue) → (after_steps pieces v).finished ≡ v.finished
unfolding after_steps
still_open [] v = refl
still_open (piece ∷ pieces) v = still_open pieces (line_stepped v piece)

ended_open : (v : ArmouringValue) → v.finished ≡ false → line_ended v ≡ record v { finished = true; out = armour_text (open_line v.taken) }
ended_open v goes = rw goes refl

ended_once : (v : ArmouringValue) → v.finished ≡ true → (line_ended v).out ≡ []
ended_once v finished = rw finished refl

pub armours_any_cut : ArmoursAnyCut
armours_any_cut pieces =
    let v : ArmouringValue = after_steps pieces new_armouring in
    let lines : given_by_steps pieces new_armouring ≡ full_lines v.taken =
    ap (λ (x : List ℕ). x ++ given_by_steps pieces new_armouring) (sym armour_nil) ∙ lines_added pieces new_armouring in
    let ended = ended_open v (still_open pieces new_armouring) in record {
      lines = lines;
      whole = ap (λ (x : List ℕ). x ++ (line_ended v).out) lines ∙ ap (λ (w : ArmouringValue). full_lines v.taken ++ w.out) ended ∙ lines_and_rest v.taken;
      once = ended_once (line_ended v) (ap (λ (w : ArmouringValue). w.finished) ended);
    }

-- ---- reading armour

-- a call gives what the text gives that it took
pub record Gives (v w : UnarmouringValue) : Type 0 where
  pub all : (unarmoured w.taken).bytes ≡ (unarmoured v.taken).bytes ++ w.out
  pub sound : (unarmoured w.taken).bad ≡ None

gives_none : (v : UnarmouringValue) (stopped : Bool) → (unarmoured v.taken).bad ≡ None → Gives v (record v { stopped = stopped; out = [] })
gives_none v stopped sound = record { all = sym (append-nil (unarmoured v.taken).bytes); sound = sound }

stepped_gives : (v : UnarmouringValue) (more : List ℕ) (bad : Option ℕ) → (unarmoured v.taken).bad ≡ None → (unarmoured (v.taken ++ more)).bad ≡ bad
    → Gives v (stepped_where bad v (v.taken ++ more))
stepped_gives v more None sound good = record { all = grows v.taken more sound; sound = good }
stepped_gives v more (Some number) sound bad = gives_none v true sound

step_case : (v : UnarmouringValue) (more : List ℕ) (stopped : Bool) → (unarmoured v.taken).bad ≡ None
    → Gives v (if stopped then unarmouring_stopped v else stepped_where (unarmoured (v.taken ++ more)).bad v (v.taken ++ more))
step_case v more true sound = gives_none v true sound
step_case v more false sound = stepped_gives v more (unarmoured (v.taken ++ more)).bad sound refl

step_gives : (v : UnarmouringValue) (piece : List ℕ) → (unarmoured v.taken).bad ≡ None → Gives v (group_stepped v piece)
unfolding group_stepped
step_gives v piece sound = step_case v (take (used_in_piece v piece) piece) v.stopped sound

end_case : (v : UnarmouringValue) (stopped short : Bool) → (unarmoured v.taken).bad ≡ None
    → Gives v (if stopped then unarmouring_stopped v else if short then unarmouring_stopped v else record v { out = [] })
end_case v true short sound = gives_none v true sound
end_case v false true sound = gives_none v true sound
end_case v false false sound = gives_none v v.stopped sound

end_gives : (v : UnarmouringValue) → (unarmoured v.taken).bad ≡ None → Gives v (text_ended v)
unfolding text_ended
end_gives v sound = end_case v v.stopped (unarmoured v.taken).short sound

call_gives : (v : UnarmouringValue) (call : ArmourCall) → (unarmoured v.taken).bad ≡ None → Gives v (after_armour_call v call)
call_gives v (Step piece) sound = step_gives v piece sound
call_gives v Finish sound = end_gives v sound

calls_give : (calls : List ArmourCall) (v : UnarmouringValue) → (unarmoured v.taken).bad ≡ None
    → ((unarmoured v.taken).bytes ++ given_by_calls calls v ≡ (unarmoured (after_calls calls v).taken).bytes) × ((unarmoured (after_calls calls v).taken).bad ≡ None)
unfolding given_by_calls after_calls
calls_give [] v sound = (append-nil (unarmoured v.taken).bytes, sound)
calls_give (call ∷ calls) v sound =
    let g = call_gives v call sound in
    let w : UnarmouringValue = after_armour_call v call in
    let rest = calls_give calls w g.sound in (
      sym (append_assoc (unarmoured v.taken).bytes w.out (given_by_calls calls w)) ∙ ap (λ (x : List ℕ). x ++ given_by_calls calls w) (sym g.all) ∙ rest.0,
      rest.1,
    )

pub unarmours_any_cut : UnarmoursAnyCut
unfolding unarmoured groups_read
unarmours_any_cut calls = let all = calls_give calls new_unarmouring refl in record { given = all.0; sound = all.1 }
