-- What `encrypt` and `decrypt` made of what went through their objects.
use Rattle.std.proofs.Common.{◌≡◌, ◌∙◌, ℕ, List, [], ◌++◌, Bool, false, true, inl, inr, refl, sym, ap, subst}
use Rattle.std.proofs.lemmas.List.{append-nil, append_cancel_left}
use Rattle.esdk_args.specs.declared.request.DecryptWords.{DecryptWords}
use Rattle.esdk_args.specs.declared.request.EncryptWords.{EncryptWords}
use Rattle.esdk_base.specs.Streams.{ShelfState, SinkState, SourceState}
use Rattle.armour_core.specs.Outlook.{text_outlook}
use Rattle.armour_core.specs.declared.text_end.TextEnd.TheVariants as ends
use Rattle.context_codec.specs.Context.{KeyValue}
use Rattle.keyring_trait.specs.Keyring.{KeyringMeaning}
use Rattle.keyring_trait.proofs.Using.{once-weaker}
use Rattle.esdk_encrypt.specs.Laws.{SealsWhatCame}
use Rattle.esdk_encrypt.proofs.Gaining.{seals_what_came}
use Rattle.esdk_encrypt.proofs.Telling.{encrypts_more}
use Rattle.esdk_decrypt.specs.Decrypt.{DecryptAsked}
use Rattle.esdk_decrypt.specs.Told.{Reader, decrypting_by}
use Rattle.esdk_run.specs.ArmouredMessage.{output_form, output_gains}
use Rattle.esdk_run.specs.Decrypt.{DecryptsInput, decrypt_asked, reader_of}
use Rattle.esdk_run.specs.Encrypt.{EncryptsInput, encrypt_asked, refusal_asked, run_writer}
use Rattle.esdk_run.specs.Objects.{Objects, Unchanged, with_input}
use Rattle.esdk_run.specs.Read.{DecryptReadsWhole, SaysWhatIsReadAs}
use Rattle.esdk_run.specs.Run.{DecryptRuns, EncryptRuns, TellsOrLacksMemory}
use Rattle.esdk_run.specs.Trees.{TreeIs, Trees}
use Rattle.esdk_run.specs.Unarmoured.{ReadsAll, outlook_of}
use Rattle.esdk_run.specs.UnarmouredDecrypt.{DecryptsAs}
use Rattle.esdk_run.specs.WhatCame.{OpenedWhatCame, OpensAllThatCame, SealedWhatCame, TreeCame}
use Rattle.esdk_run.proofs.ByUse.{made_encrypts, used_decrypts}
use Rattle.esdk_run.proofs.Decryption.{reader_ends}
use Rattle.esdk_run.proofs.Keys.{told_says_more}
use Rattle.esdk_run.proofs.Reading.{Ending, says_what_is_read}
use Rattle.esdk_run.proofs.Statuses.{not_done}
use Rattle.esdk_run.proofs.Unarmouring.{bytes_are}

pub tree_came : (trees : Trees) (name : List ℕ) (old new : ShelfState) (tree : KeyringMeaning)
    → TreeIs trees.read old new name tree → TreeCame trees name old new tree
tree_came trees name old new tree file = record { file = file.bytes; read = file.file.read; is = file.is }

-- ---- `encrypt`

sealed_input : (trees : Trees) (asked : EncryptWords) (before after : Objects) → EncryptsInput trees asked before after
    → SealedWhatCame trees asked before after
sealed_input trees asked before after done = record {
  context = done.context;
  pairs = done.has.given.made;
  tree = done.tree;
  left = done.left;
  kept = done.has.kept;
  keyring = tree_came trees asked.keyring before.shelf after.shelf done.tree done.has.file;
  sealed = λ keys told.
      seals_what_came (output_form asked.armour) (run_writer asked done.context keys) (refusal_asked asked done.context done.tree) done.tree.faults done.left.faults
      before.input after.input before.output after.output before.entropy after.entropy
      (encrypts_more (encrypt_asked asked done.context done.tree done.left) _ before.input after.input (output_gains asked.armour before.output after.output) before.entropy after.entropy
      (told_says_more asked done.context done.tree done.left keys done.has.lawful told) done.done);
  by_use = once-weaker done.tree.uses done.left.uses _
      (λ keys. SealsWhatCame (output_form asked.armour) (run_writer asked done.context keys) before.input after.input before.output after.output before.entropy after.entropy)
      (λ keys made_by.
      seals_what_came (output_form asked.armour) (run_writer asked done.context keys) (refusal_asked asked done.context done.tree) done.tree.faults done.left.faults
      before.input after.input before.output after.output before.entropy after.entropy
      (made_encrypts asked done.context done.tree done.left keys before.input after.input (output_gains asked.armour before.output after.output) before.entropy after.entropy
      done.has.goes.wraps done.done made_by)) done.done.started.given.1;
}

pub seals_if_done : (trees : Trees) (asked : EncryptWords) (before after : Objects) (unchanged : Unchanged) (code : ℕ)
    → EncryptRuns trees asked before after unchanged code → code ≡ 0 → SealedWhatCame trees asked before after
seals_if_done trees asked before after unchanged code (inl done) zero = sealed_input trees asked before after done.1
seals_if_done trees asked before after unchanged code (inr fails) zero =
    absurd (not_done fails.failure code before.report after.report fails.said zero)

-- ---- `decrypt`

-- The bytes that came from an input, whose end was seen, and which are a whole text, where it's read as armour.
record AllOf (armour : Bool) (input taken : SourceState) : Type 0 where
  bytes : List ℕ
  came : taken.came ≡ input.came ++ bytes
  end : taken.ended ≡ true
  sound : (outlook_of armour bytes).end ≡ ends.Whole

came_all : (armour : Bool) (asked : DecryptAsked) (input taken : SourceState) (output put : SinkState) (context : List KeyValue) → DecryptsAs armour asked input taken output put context → AllOf armour input taken
came_all false asked input taken output put context done = record { bytes = done.bytes; came = done.releases.came.told; end = done.end.seen; sound = refl }
came_all true asked input taken output put context (ended, x) = record {
  bytes = ended.text;
  came = ended.came.told;
  end = ended.seen refl;
  sound = ap (λ (t : List ℕ). (text_outlook t).end) (sym (append-nil ended.text)) ∙ ended.ends [] (λ _. refl);
}

-- what is read of an input, where the run is done
abbrev AllIsRead : Bool → Reader → Objects → Objects → ℕ → Type 0
AllIsRead armour reader before after code = ReadsAll armour before.input after.input (λ seen read. DecryptReadsWhole reader (with_input before seen) (with_input after read) code)

read_done : (reader : Reader) (armour : Bool) (before after : Objects) (code : ℕ) → code ≡ 0 → SaysWhatIsReadAs armour reader before after code → AllIsRead armour reader before after code
read_done reader armour before after code zero (inl all) = all
read_done reader armour before after code zero (inr fails) = absurd (not_done fails.failure code before.report after.report fails.said zero)

same_bytes : (first now x y : List ℕ) → now ≡ first ++ x → now ≡ first ++ y → x ≡ y
same_bytes first now x y one two = append_cancel_left first x y (sym one ∙ two)

-- a whole message that was read is the one that came
opens_read : (reader : Reader) (bytes : List ℕ) (old new : Objects) (code : ℕ) (read : DecryptReadsWhole reader old new code) → read.bytes ≡ bytes → OpensAllThatCame reader bytes old.output new.output
opens_read reader bytes old new code read same = subst (λ (b : List ℕ). OpensAllThatCame reader b old.output new.output) same (record { whole = read.whole; gained = read.gains.gained })

opens_whole : (reader : Reader) (armour : Bool) (before after : Objects) (code : ℕ) (bytes : List ℕ) → after.input.came ≡ before.input.came ++ bytes → AllIsRead armour reader before after code
    → OpensAllThatCame reader (outlook_of armour bytes).bytes before.output after.output
opens_whole reader false before after code bytes came read =
    opens_read reader bytes before after code read (same_bytes before.input.came after.input.came read.bytes bytes read.gains.came.told came)
opens_whole reader true before after code bytes came (ended, x) =
    let text : x.text ≡ bytes = same_bytes before.input.came after.input.came x.text bytes x.came.told came in
    let all : x.read.came ≡ x.so.bytes = x.so.gains.came.told ∙ ap (λ (l : List ℕ). l ++ x.so.bytes) x.none in
    opens_read reader (text_outlook bytes).bytes (with_input before x.seen) (with_input after x.read) code x.so
    (sym all ∙ sym x.reach ∙ sym (bytes_are x.text x.few) ∙ ap (λ (t : List ℕ). (text_outlook t).bytes) text)

-- a decryption that ended well over this reader's answers opened what came
opens_ended : (reader : Reader) (armour : Bool) (before after : Objects) (unchanged : Unchanged) (code : ℕ) (bytes : List ℕ)
    → (unchanged.output → after.output ≡ before.output) → code ≡ 0 → after.input.came ≡ before.input.came ++ bytes
    → Ending armour (decrypting_by reader) before after unchanged.output code → OpensAllThatCame reader (outlook_of armour bytes).bytes before.output after.output
opens_ended reader armour before after unchanged code bytes same zero came ended =
    opens_whole reader armour before after code bytes came (read_done reader armour before after code zero (says_what_is_read armour reader before after unchanged.output code same ended))

opened_input : (trees : Trees) (asked : DecryptWords) (before after : Objects) (unchanged : Unchanged) (code : ℕ) (context : List KeyValue)
    → (unchanged.output → after.output ≡ before.output) → code ≡ 0
    → DecryptsInput trees asked before after context → TellsOrLacksMemory context code before.report after.report
    → OpenedWhatCame trees asked before after
opened_input trees asked before after unchanged code context same zero done told =
    let all = came_all asked.armour (decrypt_asked asked done.given done.tree done.left) before.input after.input before.output after.output context done.done in
    record {
      given = done.given;
      pairs = done.has.given.made;
      tree = done.tree;
      left = done.left;
      kept = done.has.kept;
      steady = done.has.goes.still;
      keyring = tree_came trees asked.keyring before.shelf after.shelf done.tree done.has.file;
      bytes = all.bytes;
      came = all.came;
      end = all.end;
      sound = all.sound;
      opened = λ keys keys_told stayed.
          let ended : Ending asked.armour (decrypt_asked asked done.given done.tree done.left) before after unchanged.output code = inl (context, done.done, told) in
          opens_ended (reader_of asked done.given keys) asked.armour before after unchanged code all.bytes same zero all.came
          (reader_ends asked before after unchanged.output code done.given done.given done.tree done.left keys refl keys_told stayed ended);
      by_use = once-weaker done.tree.uses done.left.uses _ (λ keys. OpensAllThatCame (reader_of asked done.given keys) (outlook_of asked.armour all.bytes).bytes before.output after.output)
          (λ keys opens. opens_ended (reader_of asked done.given keys) asked.armour before after unchanged code all.bytes same zero all.came (inl (context, opens, told)))
          (used_decrypts asked done.given done.tree done.left before.input after.input before.output after.output context done.done);
    }

pub opens_if_done : (trees : Trees) (asked : DecryptWords) (before after : Objects) (unchanged : Unchanged) (code : ℕ)
    → (unchanged.output → after.output ≡ before.output) → DecryptRuns trees asked before after unchanged code
    → code ≡ 0 → OpenedWhatCame trees asked before after
opens_if_done trees asked before after unchanged code same (inl done) zero =
    opened_input trees asked before after unchanged code done.context same zero done.done done.told
opens_if_done trees asked before after unchanged code same (inr fails) zero =
    absurd (not_done fails.failure code before.report after.report fails.said zero)
