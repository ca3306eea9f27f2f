-- What `encrypt` comes to over the tree that it gives back.
use Rattle.std.proofs.Common.{◌≡◌, ◌⊎◌, ◌≤◌, ◌∙◌, ℕ, List, [], ◌∷◌, None, Some, Ok, inl, inr, refl, sym, ap, subst}
use Rattle.std.specs.Prelude.{IfSome, option_map, ⊤}
use Rattle.std.specs.declared.option.Option.{Option}
use Rattle.esdk_args.specs.declared.request.EncryptWords.{EncryptWords}
use Rattle.esdk_fields.specs.Counts.{Stayed}
use Rattle.esdk_fields.specs.declared.refusals.Outside.TheVariants as outsides
use Rattle.context_codec.specs.Context.{KeyValue}
use Rattle.keyring_trait.specs.declared.ring_refusals.RingRefusal.{RingRefusal}
use Rattle.keyring_trait.specs.Keyring.{KeyringMeaning}
use Rattle.keyring_trait.specs.Manager.{refusal_named, reserved_used}
use Rattle.keyring_trait.specs.Requests.{required_absent}
use Rattle.keyring_trait.specs.Wrapping.{WrapKeyValue, first_some}
use Rattle.esdk_encrypt.specs.declared.errors.EncryptError.{EncryptError}
use Rattle.esdk_encrypt.specs.declared.errors.EncryptError.TheVariants as errors
use Rattle.esdk_encrypt.specs.Encrypt.{EncryptAsked, Encrypts, EncryptEnds}
use Rattle.esdk_encrypt.specs.Gaining.{Gaining}
use Rattle.esdk_encrypt.specs.Laws.{FitsMessage, GainsMessage}
use Rattle.esdk_encrypt.specs.Told.{encrypting_by}
use Rattle.esdk_encrypt.proofs.Fitting.{only_memory_ends}
use Rattle.esdk_encrypt.proofs.Gaining.{gains_message}
use Rattle.esdk_encrypt.proofs.Telling.{encrypts_more}
use Rattle.esdk_report.specs.declared.failure.Failure.{Failure}
use Rattle.esdk_report.specs.declared.failure.Failure.TheVariants as failures
use Rattle.esdk_run.specs.ArmouredMessage.{output_form, output_gains}
use Rattle.esdk_run.specs.Encrypt.{EncryptFails, EncryptionFails, encrypt_asked, refusal_asked, run_writer}
use Rattle.esdk_run.specs.Failures.{encryption_failure}
use Rattle.esdk_run.specs.Giving.{refusal_over}
use Rattle.esdk_run.specs.Objects.{Objects, Unchanged, same_streams}
use Rattle.esdk_run.specs.Pairs.{context_in, required_in}
use Rattle.esdk_report.specs.Report.{Reports}
use Rattle.esdk_run.specs.Run.{EncryptRuns, IsDone}
use Rattle.esdk_run.specs.Told.{ComesBack, GivesTree, HoldsTree, IsDoneOrMemory, StreamsDontFail}
use Rattle.esdk_run.specs.Trees.{HasTree, Trees}
use Rattle.esdk_run.proofs.Promised.{WritesTheMessage, EncryptsWhatFits}
use Rattle.esdk_run.proofs.Chain.{ends_unasked}
use Rattle.esdk_run.proofs.Files.{held_is_read, held_is_taken}
use Rattle.esdk_run.proofs.Given.{one_context, pairs_not_refused}
use Rattle.esdk_run.proofs.Keys.{told_says_more, tree_grants}
use Rattle.esdk_run.proofs.Statuses.{memory_status, not_done}
use Rattle.esdk_run.proofs.TreesBack.{gives_held, if_none_failed, left_is, none_is_some, one_left, told_then}

-- ---- how the encryption ended, where a tree is given back

-- how an encryption ended, and what was said of it
abbrev pub Ending : EncryptAsked → Gaining → Objects → Objects → Type 0 → ℕ → Type 0
Ending asked gains before after untouched code =
    (IsDone code before.report after.report × Encrypts asked before.input after.input gains before.entropy after.entropy)
    ⊎ ((error : EncryptError) × EncryptEnds asked before.input after.input gains before.entropy after.entropy untouched ⊤ error × Reports (encryption_failure error) code before.report after.report)

-- The run read a tree, and the encryption under it ended so.
pub record HadTree (trees : Trees) (asked : EncryptWords) (before after : Objects) (untouched : Type 0) (code : ℕ) : Type 0 where
  pub context : List KeyValue
  pub tree : KeyringMeaning
  pub left : KeyringMeaning
  pub has : HasTree trees asked.pairs asked.keyring before.shelf after.shelf context tree left
  pub ended : Ending (encrypt_asked asked context tree left) (output_gains asked.armour before.output after.output) before after untouched code

-- its encryption under that tree ended so
ended_with : (trees : Trees) (asked : EncryptWords) (before after : Objects) (untouched : Type 0) (code : ℕ) (error : EncryptError)
    → EncryptionFails trees asked before after untouched error → Reports (encryption_failure error) code before.report after.report → HadTree trees asked before after untouched code
ended_with trees asked before after untouched code error fails said = record {
  context = fails.context;
  tree = fails.tree;
  left = fails.left;
  has = fails.has;
  ended = inr (
    error,
    ends_unasked (encrypt_asked asked fails.context fails.tree fails.left) before.input after.input (output_gains asked.armour before.output after.output) before.entropy after.entropy untouched
        (fails.left ≡ fails.tree) ⊤ error (λ _. tt) fails.ended,
    said,
  );
}

failed_with : (trees : Trees) (asked : EncryptWords) (before after : Objects) (unchanged : Unchanged) (code : ℕ)
    (left : KeyringMeaning) (failure : Failure) → trees.kept ≡ Some left → EncryptFails trees asked before after unchanged failure
    → Reports failure code before.report after.report → HadTree trees asked before after (same_streams unchanged) code
failed_with trees asked before after unchanged code left failures.NotRead kept fails said = absurd fails
failed_with trees asked before after unchanged code left (failures.BadNumber option) kept fails said = absurd fails
failed_with trees asked before after unchanged code left (failures.BadPair number) kept fails said = absurd fails
failed_with trees asked before after unchanged code left (failures.Fault fault) kept fails said = absurd fails
failed_with trees asked before after unchanged code left (failures.File refusal) kept fails said = absurd (none_is_some trees left kept fails.1.none)
failed_with trees asked before after unchanged code left (failures.Outside outsides.ShelfFault) kept fails said =
    absurd (none_is_some trees left kept fails.1.none)
failed_with trees asked before after unchanged code left (failures.Outside outside) kept fails said =
    ended_with trees asked before after (same_streams unchanged) code (errors.Outside outside) fails said
failed_with trees asked before after unchanged code left (failures.Refusal refusal) kept (inl none) said =
    absurd (none_is_some trees left kept none.1.none)
failed_with trees asked before after unchanged code left (failures.Refusal refusal) kept (inr fails) said =
    ended_with trees asked before after (same_streams unchanged) code (errors.Refusal refusal) fails said
failed_with trees asked before after unchanged code left failures.Memory kept (inl none) said = absurd (none_is_some trees left kept none.1.none)
failed_with trees asked before after unchanged code left failures.Memory kept (inr fails) said =
    ended_with trees asked before after (same_streams unchanged) code errors.Memory fails said

pub had_tree : (trees : Trees) (asked : EncryptWords) (before after : Objects) (unchanged : Unchanged) (code : ℕ)
    (left : KeyringMeaning) → trees.kept ≡ Some left → EncryptRuns trees asked before after unchanged code
    → HadTree trees asked before after (same_streams unchanged) code
had_tree trees asked before after unchanged code left kept (inl done) = record {
  context = done.1.context;
  tree = done.1.tree;
  left = done.1.left;
  has = done.1.has;
  ended = inl (done.0, done.1.done);
}
had_tree trees asked before after unchanged code left kept (inr fails) =
    failed_with trees asked before after unchanged code left fails.failure kept fails.because fails.said

-- ---- the tree comes back

fails_back : (trees : Trees) (asked : EncryptWords) (before after : Objects) (unchanged : Unchanged) (code : ℕ)
    (failure : Failure) (context : List KeyValue) (tree : KeyringMeaning) → context_in asked.pairs ≡ Ok context → HoldsTree trees before.shelf.files asked.keyring tree
    → Stayed before.shelf.faults after.shelf.faults → EncryptFails trees asked before after unchanged failure → Reports failure code before.report after.report
    → (code ≡ 5) ⊎ GivesTree trees tree
fails_back trees asked before after unchanged code failures.NotRead context tree is holds stayed fails said = absurd fails
fails_back trees asked before after unchanged code (failures.BadNumber option) context tree is holds stayed fails said = absurd fails
fails_back trees asked before after unchanged code (failures.BadPair number) context tree is holds stayed fails said = absurd fails
fails_back trees asked before after unchanged code (failures.Fault fault) context tree is holds stayed fails said = absurd fails
fails_back trees asked before after unchanged code (failures.File refusal) context tree is holds stayed fails said =
    absurd (held_is_taken trees before.shelf after.shelf asked.keyring tree refusal holds fails.0.cause)
fails_back trees asked before after unchanged code (failures.Outside outsides.ShelfFault) context tree is holds stayed fails said =
    absurd (held_is_read trees before.shelf after.shelf asked.keyring tree holds stayed fails.0.cause)
fails_back trees asked before after unchanged code (failures.Outside outside) context tree is holds stayed fails said =
    inr (gives_held trees _ _ _ _ _ fails.tree fails.left tree holds fails.has)
fails_back trees asked before after unchanged code (failures.Refusal refusal) context tree is holds stayed (inl refused) said =
    absurd (pairs_not_refused asked.pairs context refusal is refused.0.refused)
fails_back trees asked before after unchanged code (failures.Refusal refusal) context tree is holds stayed (inr fails) said =
    inr (gives_held trees _ _ _ _ _ fails.tree fails.left tree holds fails.has)
fails_back trees asked before after unchanged code failures.Memory context tree is holds stayed fails said =
    inl (memory_status failures.Memory code before.report after.report refl said)

pub encrypt_comes_back : (trees : Trees) (asked : EncryptWords) (before after : Objects) (unchanged : Unchanged) (code : ℕ)
    → EncryptRuns trees asked before after unchanged code → ComesBack trees asked.pairs asked.keyring before.shelf after.shelf code
encrypt_comes_back trees asked before after unchanged code runs = record {
  read = λ left kept.
      let had = had_tree trees asked before after unchanged code left kept runs in
      left_is trees _ _ _ _ _ had.tree had.left left had.has kept;
  held = λ context tree is holds stayed. elim runs [
    | inl done ↦ inr (gives_held trees _ _ _ _ _ done.1.tree done.1.left tree holds done.1.has)
    | inr fails ↦ fails_back trees asked before after unchanged code fails.failure context tree is holds stayed fails.because fails.said
  ];
}

-- ---- only want of memory keeps an input that fits from being encrypted

-- what is left of a tree refuses what it refused
same_refusal : (asked : EncryptWords) (context : List KeyValue) (tree left : KeyringMeaning) → left.refuses_none ≡ tree.refuses_none
    → refusal_asked asked context tree ≡ refusal_asked asked context left
unfolding refusal_asked refusal_over
same_refusal asked context tree left same =
    ap (λ (r : Option RingRefusal). first_some (λ o. o) (required_absent context (required_in asked.pairs) ∷ reserved_used context ∷ option_map refusal_named r ∷ [])) (sym same)

-- What is known of a run that must be done; `left` is what it gives back.
record MustEncrypt (asked : EncryptWords) (before after : Objects) (context : List KeyValue) (left : KeyringMeaning) (text : List ℕ) : Type 0 where
  given : context_in asked.pairs ≡ Ok context
  unrefused : refusal_asked asked context left ≡ None
  allowed : IfSome asked.max_keys (λ most. left.wraps ≤ most)
  fits : FitsMessage asked.frame before.input text
  nothing : StreamsDontFail before after
  drawing : Stayed before.entropy.faults after.entropy.faults

must_of_left : {asked : EncryptWords} {before after : Objects} {context : List KeyValue} {left : KeyringMeaning} {text : List ℕ}
    (other : KeyringMeaning) → left ≡ other → MustEncrypt asked before after context left text
    → MustEncrypt asked before after context other text
must_of_left {asked} {before} {after} {context} {left} {text} other is must =
    subst (λ (l : KeyringMeaning). MustEncrypt asked before after context l text) is must

memory_ends : (trees : Trees) (asked : EncryptWords) (before after : Objects) (untouched : Type 0) (code : ℕ)
    (context : List KeyValue) (tree left : KeyringMeaning) (text : List ℕ) → HasTree trees asked.pairs asked.keyring before.shelf after.shelf context tree left
    → MustEncrypt asked before after context left text → Stayed tree.faults left.faults
    → Ending (encrypt_asked asked context tree left) (output_gains asked.armour before.output after.output) before after untouched code → IsDoneOrMemory code
memory_ends trees asked before after untouched code context tree left text has must stayed (inl done) = inl done.0.status
memory_ends trees asked before after untouched code context tree left text has must stayed (inr (error, ends, said)) =
    let unrefused : refusal_asked asked context tree ≡ None = same_refusal asked context tree left has.goes.refuses ∙ must.unrefused in
    let allowed : IfSome asked.max_keys (λ most. tree.wraps ≤ most) = subst (λ (w : ℕ). IfSome asked.max_keys (λ most. w ≤ most)) has.goes.wraps must.allowed in
    let memory : error ≡ errors.Memory =
    only_memory_ends (output_form asked.armour) (encrypt_asked asked context tree left) text before.input after.input before.output after.output before.entropy after.entropy untouched ⊤ error
    (tree_grants asked context tree left has.given.is has.lawful unrefused allowed stayed) must.fits
    (record { source = must.nothing.reading; sink = must.nothing.writing; drawing = must.drawing }) ends in
    inr (memory_status (encryption_failure error) code before.report after.report (ap encryption_failure memory) said)

pub encrypts_what_fits : (trees : Trees) (asked : EncryptWords) (before after : Objects) (unchanged : Unchanged) (code : ℕ)
    → EncryptRuns trees asked before after unchanged code
    → EncryptsWhatFits trees asked before after code
encrypts_what_fits trees asked before after unchanged code runs context left text given kept unrefused allowed fits nothing drawing =
    let had = had_tree trees asked before after unchanged code left kept runs in
    let is : context ≡ had.context = sym (one_context asked.pairs had.context context had.has.given.made given) in
    let must : MustEncrypt asked before after had.context had.left text =
    subst (λ (c : List KeyValue). MustEncrypt asked before after c had.left text) is
    (must_of_left had.left (one_left trees left had.left kept had.has.kept)
    (record { given = given; unrefused = unrefused; allowed = allowed; fits = fits; nothing = nothing; drawing = drawing })) in
    if_none_failed trees _ _ _ _ _ had.tree had.left (IsDoneOrMemory code) had.has
    (λ stayed. memory_ends trees asked before after (same_streams unchanged) code had.context had.tree had.left text had.has must stayed had.ended)

-- ---- once it is done, the message was written

message_gained : (trees : Trees) (asked : EncryptWords) (before after : Objects) (untouched : Type 0) (code : ℕ)
    (context : List KeyValue) (tree left : KeyringMeaning) (keys : List WrapKeyValue) (text written : List ℕ) → HasTree trees asked.pairs asked.keyring before.shelf after.shelf context tree left
    → tree.keys ≡ Some keys → before.input.left ≡ Some text → before.output.written ≡ Some written → code ≡ 0
    → Ending (encrypt_asked asked context tree left) (output_gains asked.armour before.output after.output) before after untouched code
    → GainsMessage (output_form asked.armour) (run_writer asked context keys) text written before.entropy after.output
message_gained trees asked before after untouched code context tree left keys text written has told is had zero (inl done) =
    let encrypts : Encrypts (encrypting_by (run_writer asked context keys) (refusal_asked asked context tree) tree.faults left.faults)
    before.input after.input (output_gains asked.armour before.output after.output) before.entropy after.entropy =
    encrypts_more (encrypt_asked asked context tree left) _ before.input after.input (output_gains asked.armour before.output after.output) before.entropy after.entropy
    (told_says_more asked context tree left keys has.lawful told) done.1 in
    gains_message (output_form asked.armour) (run_writer asked context keys) (refusal_asked asked context tree) tree.faults left.faults text written
    before.input after.input before.output after.output before.entropy after.entropy is had encrypts
message_gained trees asked before after untouched code context tree left keys text written has told is had zero (inr (error, ends, said)) =
    absurd (not_done (encryption_failure error) code before.report after.report said zero)

pub writes_the_message : (trees : Trees) (asked : EncryptWords) (before after : Objects) (unchanged : Unchanged) (code : ℕ)
    → EncryptRuns trees asked before after unchanged code → WritesTheMessage trees asked before after code
writes_the_message trees asked before after unchanged code runs context left keys text written given kept told is had_written zero =
    let had = had_tree trees asked before after unchanged code left kept runs in
    subst (λ (c : List KeyValue). GainsMessage (output_form asked.armour) (run_writer asked c keys) text written before.entropy after.output) (one_context asked.pairs had.context context had.has.given.made given)
    (message_gained trees asked before after (same_streams unchanged) code had.context had.tree had.left keys text written had.has
    (told_then trees had.tree had.left left keys had.has.goes had.has.kept kept told) is had_written zero had.ended)
