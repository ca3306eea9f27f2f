-- What `audit` comes to, and what it says of files that the shelf tells.
use Rattle.std.proofs.Common.{◌≡◌, ◌∙◌, ℕ, true, List, [], ◌∷◌, length, map, Option, Some, None, Err, inl, inr, refl, sym, ap, subst, arith, append-nil}
use Rattle.std.proofs.lemmas.Result.{IfErr-weaker}
use Rattle.std.specs.Prelude.{IfErr}
use Rattle.std.specs.declared.result.Result.{Result}
use Rattle.std.specs.List.{list_all}
use Rattle.std.specs.Io.KnownBytes.{Appends}
use Rattle.esdk_fields.specs.Counts.{Stayed}
use Rattle.esdk_fields.specs.declared.refusals.Outside.TheVariants as outsides
use Rattle.esdk_base.specs.Shelf.{Files, Holds}
use Rattle.esdk_base.specs.Streams.{ShelfState, SinkState}
use Rattle.keyring_trait.specs.Keyring.{KeyringGoes, KeyringMeaning}
use Rattle.keyring_trait.specs.Wrapping.{WrapKeyValue}
use Rattle.multi_keyring.specs.Nodes.{forest}
use Rattle.multi_keyring.specs.Tree.{all_faults, leaves, node_leaves, tree_meaning}
use Rattle.multi_keyring.proofs.Leaves.{counts_its_leaves, shows_its_leaves}
use Rattle.multi_keyring.specs.declared.tree.Node.{Node}
use Rattle.multi_keyring.specs.declared.tree.Node.TheVariants.{Handed, Multi, Raw}
use Rattle.job_file.specs.declared.audit.AuditMessage.{AuditMessage}
use Rattle.job_file.specs.AuditFile.{AuditFile}
use Rattle.job_file.specs.Audit.{audit_of}
use Rattle.job_file.specs.Found.{MeansThis}
use Rattle.json_values.specs.declared.errors.ReadError.{ReadError}
use Rattle.json_values.specs.declared.errors.ReadError.TheVariants as trees
use Rattle.keyring_file.specs.declared.plugs.Plug.{Plug}
use Rattle.whole_input.specs.File.{IsFile}
use Rattle.audit_core.specs.declared.audited.Audited.{Audited}
use Rattle.audit_core.specs.Laws.{both_told, told_by}
use Rattle.audit_core.specs.Lines.{audit_lines}
use Rattle.audit_core.specs.MessageFiles.{AreHeld, FindsEach, FindsNotEach}
use Rattle.audit_core.specs.Messages.{Message, audited}
use Rattle.audit_core.specs.Openers.{has_opener}
use Rattle.audit_core.proofs.Held.{finds_what_is_held}
use Rattle.esdk_report.specs.Report.{Reports}
use Rattle.esdk_report.specs.declared.failure.Failure.{Failure}
use Rattle.esdk_report.specs.declared.failure.Failure.TheVariants as failures
use Rattle.esdk_run.specs.Audit.{AuditEnds, AuditFails, AuditIs, Audits, FindsAll, FindsNotAll, HasAudit, HasNoAudit, WritesAudit, audit_status}
use Rattle.esdk_run.specs.AuditTold.{HoldsAudit, ShowsOpeners}
use Rattle.esdk_run.specs.Failures.{tree_failure}
use Rattle.esdk_run.specs.FileReading.{FileFails, ReadCause}
use Rattle.esdk_run.specs.Objects.{Objects, Unchanged}
use Rattle.esdk_run.specs.Run.{AuditRuns, AuditsBy, is_status}
use Rattle.esdk_run.specs.TextPut.{TextFails}
use Rattle.esdk_run.specs.Trees.{TreeGoes, TreeHas, Trees, trees_of}
use Rattle.esdk_run.proofs.Promised.{SaysTheOpeners}
use Rattle.esdk_run.proofs.Files.{file_is_held}
use Rattle.esdk_run.proofs.Statuses.{jobs_status, not_done, not_seven}
use Rattle.esdk_run.proofs.Preparing.{by_file}

-- ---- the file

-- a file of an audit that is refused
pub audit_refused : (bytes : List ℕ) (error : ReadError) (failure : Failure) → failure ≡ tree_failure error
    → MeansThis {A = AuditFile} (λ audit. audit) (Err error) (audit_of bytes) → ReadCause audit_of bytes failure
audit_refused bytes (trees.File refusal) failure is reads = subst (λ (f : Failure). ReadCause audit_of bytes f) (sym is) reads
audit_refused bytes trees.Memory failure is reads = subst (λ (f : Failure). ReadCause audit_of bytes f) (sym is) tt

-- the leaves of a row of one tree are the tree's
pub leaves_of_one : {P : Type 0} (leaf : P → KeyringMeaning) (node : Node P) → leaves leaf (forest (node ∷ [])) ≡ node_leaves leaf node
leaves_of_one leaf (Raw key) = refl
leaves_of_one leaf (Handed keyring) = refl
leaves_of_one leaf (Multi multi) = append-nil (leaves leaf multi.value.1)

-- what a call keeps of a tree, a run keeps of it
pub tree_goes : (old new : KeyringMeaning) → KeyringGoes old new → TreeGoes old new
tree_goes old new goes = record {
  keys = goes.keys;
  wraps = goes.wraps;
  refuses = goes.refuses_none;
  steady = goes.steady;
  later = goes.later;
  still = goes.still;
}

-- something is found of each message
pub each_counted : (old new : ShelfState) (before after : List KeyringMeaning) (ms : List AuditMessage) (xs : List Audited) → FindsEach old new before after ms xs → length xs ≡ length ms
each_counted old new before after [] [] each = refl
each_counted old new before after [] (x ∷ xs) each = absurd each
each_counted old new before after (m ∷ ms) [] each = absurd each
each_counted old new before after (m ∷ ms) (x ∷ xs) each = omega (arith, each_counted each.between new each.leaves after ms xs each.others)

-- ---- the status

pub audit_status_known : (trees : Trees) (name : List ℕ) (old new : ShelfState) (before after : SinkState) (code : ℕ) → WritesAudit trees name old new before after code → is_status code ≡ true
audit_status_known trees name old new before after code done = jobs_status (list_all has_opener done.found) code done.writes.status

-- ---- a run of `audit`, as its command ends it

pub audit_written : (trees : Trees) (name other : List ℕ) (old new : ShelfState) (before after : SinkState) (unwritten : Type 0) (code : ℕ) (report : SinkState) → other ≡ name
    → WritesAudit trees other old new before after code → AuditsBy trees name old new before after unwritten code report report
audit_written trees name other old new before after unwritten code report same done = inl (subst (λ (n : List ℕ). WritesAudit trees n old new before after code) same done, refl)

pub audit_failed : (trees : Trees) (name other : List ℕ) (old new : ShelfState) (before after : SinkState) (unwritten : Type 0) (code : ℕ) (report reported : SinkState) (failure : Failure) → other ≡ name
    → AuditEnds trees other old new before after unwritten failure → Reports failure code report reported → AuditsBy trees name old new before after unwritten code report reported
audit_failed trees name other old new before after unwritten code report reported failure same because said =
    inr (record { failure = failure; because = subst (λ (n : List ℕ). AuditEnds trees n old new before after unwritten failure) same because; said = said })

-- ---- what is found of the messages

-- What was read, and what is left of the tree.
pub audits_of : {P : Type 0} (meaning : P → KeyringMeaning) (plugs : List (Plug P)) (node left : Node P) (name keyring : List ℕ) (old mid read : ShelfState) (file : AuditFile) → AuditIs old mid name file
    → keyring ≡ file.keyring → TreeHas (trees_of meaning plugs None) mid read keyring (tree_meaning meaning node) (node_leaves meaning node) → read.files ≡ mid.files
    → KeyringGoes (tree_meaning meaning node) (tree_meaning meaning left)
    → Audits (trees_of meaning plugs (Some left)) name old read file (tree_meaning meaning left) (node_leaves meaning node)
audits_of meaning plugs node left name keyring old mid read file audit named has stay goes = record {
  tree = tree_meaning meaning node;
  has = record {
    between = mid;
    audit = audit;
    keyring = record { bytes = has.bytes; file = subst (λ (n : List ℕ). IsFile mid read n has.bytes) named has.file; is = has.is; leaves_are = has.leaves_are };
    faults = counts_its_leaves meaning node;
    stay = stay ∙ audit.stay;
  };
  kept = refl;
  goes = tree_goes (tree_meaning meaning node) (tree_meaning meaning left) goes;
}

pub found_all : {P : Type 0} (meaning : P → KeyringMeaning) (trees : Trees) (name : List ℕ) (old read new : ShelfState) (file : AuditFile) (node left : Node P) (count : ℕ) (messages : List AuditMessage)
    (found : List Audited) → Audits trees name old read file (tree_meaning meaning left) (node_leaves meaning node) → messages ≡ file.messages
    → FindsEach read new (node_leaves meaning node) (node_leaves meaning left) messages found → count ≡ length (node_leaves meaning node) → FindsAll trees name old new count found
found_all meaning trees name old read new file node left count messages found audits are each count_is = record {
  file = file;
  read = read;
  left = tree_meaning meaning left;
  leaves = node_leaves meaning node;
  leaves_left = node_leaves meaning left;
  audits = audits;
  each = subst (λ (ms : List AuditMessage). FindsEach read new (node_leaves meaning node) (node_leaves meaning left) ms found) are each;
  count_is = count_is;
  faults_left = counts_its_leaves meaning left;
  uses_left = shows_its_leaves meaning left;
}

-- or of the first that it isn't found of
not_all : (trees : Trees) (name : List ℕ) (old read new : ShelfState) (file : AuditFile) (left : KeyringMeaning) (leaves : List KeyringMeaning) (failure : Failure)
    → Audits trees name old read file left leaves → FindsNotEach read new leaves left.faults file.messages failure → FindsNotAll trees name old new failure
not_all trees name old read new file left leaves failure audits fails = record { file = file; read = read; left = left; leaves = leaves; audits = audits; fails = fails }

pub audit_fails : (trees : Trees) (name : List ℕ) (old read new : ShelfState) (file : AuditFile) (left : KeyringMeaning) (leaves : List KeyringMeaning) (messages : List AuditMessage) (failure : Failure)
    → Audits trees name old read file left leaves → messages ≡ file.messages → FindsNotEach read new leaves left.faults messages failure → AuditFails trees name old new failure
audit_fails trees name old read new file left leaves messages failure audits are fails =
    by_failure failure (subst (λ (ms : List AuditMessage). FindsNotEach read new leaves left.faults ms failure) are fails)
  where
    by_failure : (failure : Failure) → FindsNotEach read new leaves left.faults file.messages failure → AuditFails trees name old new failure
    by_failure (failures.Outside outsides.ShelfFault) fails = inr (not_all trees name old read new file left leaves (failures.Outside outsides.ShelfFault) audits fails)
    by_failure (failures.Outside outsides.KeyringFault) fails = not_all trees name old read new file left leaves (failures.Outside outsides.KeyringFault) audits fails
    by_failure (failures.Outside outsides.InputTooLong) fails = not_all trees name old read new file left leaves (failures.Outside outsides.InputTooLong) audits fails
    by_failure (failures.Outside outsides.SourceFault) fails = absurd fails.fails
    by_failure (failures.Outside outsides.SinkFault) fails = absurd fails.fails
    by_failure (failures.Outside outsides.EntropyFault) fails = absurd fails.fails
    by_failure failures.Memory fails = inr (inl (not_all trees name old read new file left leaves failures.Memory audits fails))
    by_failure failures.NotRead fails = absurd fails.fails
    by_failure (failures.BadNumber option) fails = absurd fails.fails
    by_failure (failures.BadPair place) fails = absurd fails.fails
    by_failure (failures.Fault fault) fails = absurd fails.fails
    by_failure (failures.File refusal) fails = absurd fails.fails
    by_failure (failures.Refusal refusal) fails = absurd fails.fails

-- there is nothing to audit
no_audit : (trees : Trees) (name : List ℕ) (old new : ShelfState) (failure : Failure) → HasNoAudit trees name old new failure → AuditFails trees name old new failure
no_audit trees name old new failure none =
    elim none.cause [
      | inl fails ↦ by_file audit_of old new name (λ (f : Failure). HasNoAudit trees name old new f → AuditFails trees name old new f) (λ refusal unread. unread) (λ unread. inl unread) (λ lacks. inl lacks) failure fails none
      | inr has ↦
          by_file trees.read has.between new has.file.keyring (λ (f : Failure). HasNoAudit trees name old new f → AuditFails trees name old new f) (λ refusal unread. unread) (λ unread. inl unread) (λ lacks. inl lacks) failure
          has.cause none
    ]

-- its file gives none
pub no_audit_file : (trees : Trees) (name : List ℕ) (old new : ShelfState) (failure : Failure) → trees.kept ≡ None → FileFails audit_of old new name failure → AuditFails trees name old new failure
no_audit_file trees name old new failure kept fails = no_audit trees name old new failure (record { cause = inl fails; none = kept })

-- or its keyring file gives no tree
pub no_audit_tree : (trees : Trees) (name keyring : List ℕ) (old mid new : ShelfState) (file : AuditFile) (failure : Failure) → trees.kept ≡ None → AuditIs old mid name file → keyring ≡ file.keyring
    → FileFails trees.read mid new keyring failure → AuditFails trees name old new failure
no_audit_tree trees name keyring old mid new file failure kept audit named fails =
    no_audit trees name old new failure
    (record { cause = inr (record { file = file; between = mid; audit = audit; cause = subst (λ (n : List ℕ). FileFails trees.read mid new n failure) named fails }); none = kept })

-- ---- the lines

-- nothing was written where it wasn't found of each
pub audit_unwritten : (trees : Trees) (name : List ℕ) (old new : ShelfState) (before after : SinkState) (unwritten : Type 0) (failure : Failure) → unwritten → AuditFails trees name old new failure
    → AuditEnds trees name old new before after unwritten failure
audit_unwritten trees name old new before after unwritten (failures.Outside outsides.SinkFault) same fails = absurd fails
audit_unwritten trees name old new before after unwritten failure same fails = (fails, same)

-- else the output failed, or memory ran out for the lines
lines_lost : (trees : Trees) (name : List ℕ) (old new : ShelfState) (before after : SinkState) (unwritten : Type 0) (count : ℕ) (found : List Audited) → FindsAll trees name old new count found → (failure : Failure)
    → TextFails (audit_lines count found) before after unwritten failure → AuditEnds trees name old new before after unwritten failure
lines_lost trees name old new before after unwritten count found all (failures.Outside outsides.SinkFault) fails = record { count = count; found = found; all = all; front = fails }
lines_lost trees name old new before after unwritten count found all failures.Memory fails = (inr (inr (count, found, all)), fails)
lines_lost trees name old new before after unwritten count found all failure fails = absurd fails

pub lines_unwritten : {T : Type 0} (trees : Trees) (name : List ℕ) (old new : ShelfState) (before after : SinkState) (unwritten : Type 0) (count : ℕ) (found : List Audited) (r : Result T Failure)
    → FindsAll trees name old new count found → IfErr r (TextFails (audit_lines count found) before after unwritten) → IfErr r (AuditEnds trees name old new before after unwritten)
lines_unwritten trees name old new before after unwritten count found r all fails =
    IfErr-weaker r (TextFails (audit_lines count found) before after unwritten) (AuditEnds trees name old new before after unwritten) (lines_lost trees name old new before after unwritten count found all) fails

-- ---- what it says of files that the shelf tells

-- as many leaves tell their keys as there are
pub told_many : (meanings : List KeyringMeaning) (told : List (List WrapKeyValue)) → told_by meanings ≡ Some told → length told ≡ length meanings
told_many [] told is = let none : [] ≡ told = cc in ap length (sym none)
told_many (m ∷ ms) told is = both_many m.keys (told_by ms) told is (told_many ms)
  where
    both_many : (first : Option (List WrapKeyValue)) (others : Option (List (List WrapKeyValue))) (told : List (List WrapKeyValue)) → both_told first others ≡ Some told
        → ((rest : List (List WrapKeyValue)) → others ≡ Some rest → length rest ≡ length ms) → length told ≡ length (m ∷ ms)
    both_many None others told is many = absurd cc
    both_many (Some keys) None told is many = absurd cc
    both_many (Some keys) (Some rest) told is many =
        let all : keys ∷ rest ≡ told = cc in
        omega (arith, ap length all, many rest refl)

-- What was read is what the shelf tells.
pub record ReadAsHeld (trees : Trees) (tree other : KeyringMeaning) (meanings held : List KeyringMeaning) (file told : AuditFile) : Type 0 where
  pub tree_is : other ≡ tree
  pub meanings_are : held ≡ meanings
  pub file_is : told ≡ file

pub read_as_held : (trees : Trees) (name : List ℕ) (old read : ShelfState) (file : AuditFile) (tree held_tree : KeyringMeaning) (meanings : List KeyringMeaning) (told : List (List WrapKeyValue)) (messages : List Message)
    (has : HasAudit trees name old read file tree meanings) (held : HoldsAudit trees old.files name held_tree told messages)
    → ReadAsHeld trees tree held_tree meanings held.meanings file held.file
read_as_held trees name old read file tree held_tree meanings told messages has held =
    let audit = has.audit in
    let same_file : held.file ≡ file = sym (file_is_held audit_of _ _ _ held.bytes file held.file held.holds held.is audit.read) in
    let holds_keyring : Holds has.between.files file.keyring held.keyring =
    subst (λ (f : Option Files). Holds f file.keyring held.keyring) (sym audit.stay) (subst (λ (n : AuditFile). Holds old.files n.keyring held.keyring) same_file held.holds_keyring) in
    let keyring = has.keyring in
    let one : tree ∷ [] ≡ held_tree ∷ [] = file_is_held trees.read _ _ _ held.keyring (tree ∷ []) (held_tree ∷ []) holds_keyring held.tree_is
    (record { bytes = keyring.bytes; file = keyring.file; is = keyring.is }) in
    record {
      tree_is = (cc);
      meanings_are = sym (file_is_held trees.leaves _ _ _ held.keyring meanings held.meanings holds_keyring held.leaves_are
          (record { bytes = keyring.bytes; file = keyring.file; is = keyring.leaves_are }));
      file_is = same_file;
    }

shows : (trees : Trees) (name : List ℕ) (before after : Objects) (code : ℕ) (tree : KeyringMeaning) (told : List (List WrapKeyValue)) (messages : List Message)
    → HoldsAudit trees before.shelf.files name tree told messages → (done : WritesAudit trees name before.shelf after.shelf before.output after.output code)
    → TreeGoes tree done.all.left × (Stayed tree.faults done.all.left.faults → ShowsOpeners told messages before after code)
shows trees name before after code tree told messages held done =
    let all = done.all in
    let audits = all.audits in
    let same = read_as_held trees name before.shelf all.read all.file audits.tree tree all.leaves told messages audits.has held in
    let tells : told_by all.leaves ≡ Some told = ap told_by (sym same.meanings_are) ∙ held.told in
    let holds : AreHeld all.read.files all.file.messages messages =
    subst (λ (f : Option Files). AreHeld f all.file.messages messages) (sym audits.has.stay) (subst (λ (f : AuditFile). AreHeld before.shelf.files f.messages messages) same.file_is held.holds_messages) in (
      subst (λ (t : KeyringMeaning). TreeGoes t all.left) (sym same.tree_is) audits.goes,
      λ stayed.
          (let still : Stayed (all_faults all.leaves) (all_faults all.leaves_left) =
          omega (arith, stayed, ap (λ (t : KeyringMeaning). t.faults) same.tree_is, audits.has.faults, all.faults_left) in
          let found = finds_what_is_held all.read after.shelf all.leaves all.leaves_left all.file.messages done.found messages told all.each holds tells still in
          let count : done.count ≡ length told = all.count_is ∙ sym (told_many all.leaves told tells) in
          let lines : audit_lines done.count done.found ≡ audit_lines (length told) (map (audited told) messages) =
          ap (λ (n : ℕ). audit_lines n done.found) count ∙ ap (audit_lines (length told)) found in
          record {
            gained = subst (λ (t : List ℕ). Appends before.output.written after.output.written t) lines done.writes.gained;
            status = done.writes.status ∙ ap audit_status found;
          }),
    )

pub says_the_openers : (trees : Trees) (name : List ℕ) (before after : Objects) (unchanged : Unchanged) (code : ℕ) → AuditRuns trees name before after unchanged code
    → SaysTheOpeners trees name before after code
says_the_openers trees name before after unchanged code (inl done) tree told messages held ended =
    let both = shows trees name before after code tree told messages held done.0 in
    record { left = done.0.all.left; kept = done.0.all.audits.kept; goes = both.0; so = both.1 }
says_the_openers trees name before after unchanged code (inr fails) tree told messages held (inl zero) = absurd (not_done fails.failure code before.report after.report fails.said zero)
says_the_openers trees name before after unchanged code (inr fails) tree told messages held (inr seven) = absurd (not_seven fails.failure code before.report after.report fails.said seven)
