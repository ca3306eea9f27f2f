use Rattle.std.proofs.Common.{◌∙◌, sym, ap}
use Rattle.std.specs.Prelude.{Some}
use Rattle.esdk_memory.proofs.ShelfLemmas.{appended_nothing}
use Rattle.esdk_memory.proofs.mem_shelf.MemShelfShelf.append.Goals as goal

pub returns-in_default-begin-clause-bytes : goal.returns-in_default-begin-clause-bytes
returns-in_default-begin-clause-bytes c =
    (0, ap (λ s. Some s.files) c.self.view_is ∙ ap Some (sym (appended_nothing c.args.self.now.files c.args.name.now)))
