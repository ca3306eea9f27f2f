-- What was put is the lines of what was found.
use Rattle.esdk_run.proofs.audit.write_lines.Goals as goal

pub returns-clause-done : goal.returns-clause-done
returns-clause-done g c = record {
  gained = rw (c.in_ok-text.ensures, c.as_slice.ensures.value) at c.in_ok-put_text.ensures.done.gained;
  status = rw c.as_slice-2.ensures.value at c.status_of.ensures;
}
