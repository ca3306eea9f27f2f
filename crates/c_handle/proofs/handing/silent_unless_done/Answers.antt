use Rattle.c_handle.proofs.handing.silent_unless_done.Goals as goal

pub returns : goal.returns
returns c = cc
