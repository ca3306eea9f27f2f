use Rattle.std.proofs.Common.{◌∙◌, ℕ, List, ◌++◌, length, take, sym, ap}
use Rattle.std.proofs.Math.Seq.{take-append_seam}
use Rattle.c_session.proofs.tray.TraySink.put.Goals as goal

pub returns-in-Err-clause-bytes : goal.returns-in-Err-clause-bytes
returns-in-Err-clause-bytes c =
    let f = c.in-Err.ensures in
    (length f.front, f.gathered ∙ ap (λ (b : List ℕ). c.args.self.now.waiting ++ b) (sym (ap (take (length f.front)) f.cut ∙ take-append_seam f.front f.rest)))
