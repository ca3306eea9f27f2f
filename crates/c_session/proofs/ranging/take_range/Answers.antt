use Rattle.std.proofs.Common.{◌≡◌, ◌∙◌, ℕ, List, [], ap}
use Rattle.c_session.specs.FileTree.{Tree}
use Rattle.c_session.proofs.ranging.take_range.Goals as goal

pub returns : goal.returns
returns c =
    let left = c.extract_handed-came.new.manager in
    let manager : c.requiring.result ≡ (left.0, []) = c.requiring.ensures ∙ (λ i. (left.0, c.new.ensures i)) in
    record {
      left = left;
      comes = rw c.requiring-manager.ensures at c.extract_handed-came.ensures.comes;
      went = rw c.requiring-manager.ensures at c.extract_handed-came.ensures.went;
      same = ap (λ (m : Tree × List (List ℕ)). record c.args.session { manager = m }) manager;
    }
