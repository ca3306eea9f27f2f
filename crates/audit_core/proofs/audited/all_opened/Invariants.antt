-- Every message before this one has an opener.
use Rattle.std.proofs.Common.{◌≡◌, drop}
use Rattle.std.specs.List.{list_all}
use Rattle.audit_core.specs.Openers.{has_opener}
use Rattle.audit_core.proofs.audited.all_opened.Given as goal

abbrev pub invariant-loop-message : goal.invariant-loop-message
invariant-loop-message l = list_all has_opener l.messages ≡ list_all has_opener (drop l.message-index l.messages)
