use Rattle.std.proofs.Common.{◌∙◌, Some, inl, inr, refl, sym, ap}
use Rattle.std.proofs.lemmas.Result.{err_from_is_err_and}
use Rattle.callers.proofs.resealing.finished.Goals as goal

pub returns-in_default : goal.returns-in_default
returns-in_default g c = λ v stands going. inl (inl (refl, sym (c.in_default.ensures v stands)), refl)

pub returns-in_default-copy : goal.returns-in_default-copy
returns-in_default-copy g c = λ v stands going. inl (inr refl, refl)

pub returns-in_err-finish : goal.returns-in_err-finish
returns-in_err-finish g c = λ v stands going.
    let p = err_from_is_err_and c.from_residual.result c.from_residual.ensures.1 in
    rw (p.1, p.2) (inr (c.in_err-finish.ensures.finishes v stands going))

pub returns : goal.returns
returns g c = λ v stands going.
    (sym (c.in-Some.ensures v stands) ∙ ap (λ x. Some x) (sym c.in-Ok.ensures), c.in_ok-finish.ensures.finishes v stands going)
