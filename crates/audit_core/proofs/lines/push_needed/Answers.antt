-- The numbers stand behind the words.
use Rattle.std.proofs.Common.{◌≡◌, ◌++◌, List, ℕ, ap, subst, ◌∙◌, append_assoc}
use Rattle.std.specs.Prelude.{OnOk, codes}
use Rattle.audit_core.specs.Lines.{words_or_none}
use Rattle.audit_core.proofs.lines.push_needed.Goals as goal

pub returns : goal.returns
returns c =
    let text = c.args.text.now in
    let numbers = c.as_slice.result.now in
    let are = c.as_slice.ensures.value ∙ c.in_ok-needed.ensures in
    subst (λ (t : List ℕ). OnOk c.push_numbers.result (c.push_numbers.new.text ≡ t))
    (ap (λ (front : List ℕ). front ++ words_or_none numbers) c.in_ok-push_all.ensures.ok
    ∙ (append_assoc text (codes " needed-for") (words_or_none numbers)
    ∙ ap (λ (ns : List ℕ). text ++ (codes " needed-for" ++ words_or_none ns)) are)) c.push_numbers.ensures
