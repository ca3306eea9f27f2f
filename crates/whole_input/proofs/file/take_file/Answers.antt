use Rattle.std.proofs.lemmas.Result.{err_from_is_err_and}
use Rattle.whole_input.proofs.Adding.{adding_lacks}
use Rattle.whole_input.proofs.file.take_file.Goals as goal

pub returns-in_err-buffer-clause-cause : goal.returns-in_err-buffer-clause-cause
returns-in_err-buffer-clause-cause g c =
    let p = err_from_is_err_and c.from_residual.result c.from_residual.ensures.1 in
    rw (p.1, p.2) (adding_lacks _ c.args.name.now)
