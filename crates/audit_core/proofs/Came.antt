-- Of messages whose files were read, that is found which the bytes say that came.
use Rattle.std.proofs.Common.{◌≡◌, ◌∙◌, ℕ, List, [], ◌∷◌, length, Option, Some, inl, inr, refl, sym, ap, arith}
use Rattle.esdk_fields.specs.Counts.{Stayed}
use Rattle.esdk_fields.specs.declared.faults.Fault as faults
use Rattle.esdk_fields.specs.Place.{Place, start}
use Rattle.esdk_fields.specs.Reading.{Reading, Read, Refused, Wanting}
use Rattle.esdk_base.specs.Streams.{ShelfState}
use Rattle.header_codec.specs.Table.{HeaderFields, header}
use Rattle.header_codec.specs.Header.{no_limits}
use Rattle.keyring_trait.specs.Keyring.{KeyringMeaning}
use Rattle.keyring_trait.specs.Wrapping.{WrapKeyValue}
use Rattle.multi_keyring.specs.Tree.{all_faults}
use Rattle.job_file.specs.declared.audit.AuditMessage.{AuditMessage}
use Rattle.whole_input.specs.FileReads.{ReadsRow, SeesEnd}
use Rattle.audit_core.specs.declared.audited.Audited.{Audited}
use Rattle.audit_core.specs.declared.audited.Audited.TheVariants.{OpenedBy, Fault}
use Rattle.audit_core.specs.Laws.{FindsOfWhatCame, told_by}
use Rattle.audit_core.specs.MessageFiles.{FindsEach, FindsOf}
use Rattle.audit_core.specs.Messages.{Message, audited, unless_offence}
use Rattle.audit_core.specs.Openers.{openers}
use Rattle.audit_core.proofs.Held.{audited_begins, audited_refused, audited_wanting, each_later, found_keep, held_message}
use Rattle.audit_core.proofs.Told.{names_what_opens}

-- These bytes of the file came, its end was seen where they are the beginning of a header, and that was found which they say.
record IsOfWhatCame (leaves : List (List WrapKeyValue)) (old new : ShelfState) (m : AuditMessage) (x : Audited) : Type 0 where
  pub bytes : List ℕ
  pub row : ReadsRow m.from 0 old.calls new.calls bytes
  pub end : header no_limits (start bytes) ≡ Wanting → SeesEnd m.from (length bytes) old.calls new.calls
  pub is : x ≡ audited leaves (held_message bytes m.given)

read_not_wanting : (r : Reading HeaderFields) (parts : HeaderFields) (end : Place) (so : Type 0) → r ≡ Read parts end → r ≡ Wanting → so
read_not_wanting r parts end so is wanting = absurd cc

refused_not_wanting : (r : Reading HeaderFields) (fault : faults.Fault) (at : ℕ) (so : Type 0) → r ≡ Refused fault at → r ≡ Wanting → so
refused_not_wanting r fault at so is wanting = absurd cc

found_came : (leaves : List (List WrapKeyValue)) (old new : ShelfState) (before after : List KeyringMeaning) (m : AuditMessage) (x : Audited) → FindsOf old new before after m x
    → told_by before ≡ Some leaves → Stayed (all_faults before) (all_faults after) → IsOfWhatCame leaves old new m x
found_came leaves old new before after m (OpenedBy numbers) found tells stayed =
    let h = found.header in
    let has = found.has in
    record {
      bytes = has.bytes;
      row = has.reads.read.came;
      end = read_not_wanting (header no_limits (start has.bytes)) has.begins.parts has.end _ has.begins.read;
      is = ap OpenedBy (names_what_opens before after h m.given numbers leaves found.names tells stayed)
          ∙ (sym (ap (λ (o : Option faults.Fault). unless_offence o (openers leaves h m.given)) found.names.sound) ∙ sym (audited_begins leaves has.bytes m.given h has.end has.begins));
    }
found_came leaves old new before after m (Fault fault) (inl (inl has), same) tells stayed = record {
  bytes = has.bytes;
  row = has.reads.read.came;
  end = refused_not_wanting (header no_limits (start has.bytes)) fault has.at _ has.refused;
  is = sym (audited_refused leaves has.bytes m.given fault has.at has.refused);
}
found_came leaves old new before after m (Fault fault) (inl (inr cut), same) tells stayed = record {
  bytes = cut.1.bytes;
  row = cut.1.reads.read.came;
  end = λ wanting. cut.1.end;
  is = ap Fault cut.0 ∙ sym (audited_wanting leaves cut.1.bytes m.given cut.1.wanting);
}
found_came leaves old new before after m (Fault fault) (inr offence, same) tells stayed =
    let h = offence.header in
    let has = offence.has in
    record {
      bytes = has.bytes;
      row = has.reads.read.came;
      end = read_not_wanting (header no_limits (start has.bytes)) has.begins.parts has.end _ has.begins.read;
      is = sym (ap (λ (o : Option faults.Fault). unless_offence o (openers leaves h m.given)) offence.offence) ∙ sym (audited_begins leaves has.bytes m.given h has.end has.begins);
    }

-- of each message
pub finds_what_came : (old new : ShelfState) (before after : List KeyringMeaning) (ms : List AuditMessage) (xs : List Audited) (leaves : List (List WrapKeyValue))
    → FindsEach old new before after ms xs → told_by before ≡ Some leaves → Stayed (all_faults before) (all_faults after) → FindsOfWhatCame old new ms xs leaves
finds_what_came old new before after [] [] leaves each tells stayed = record { came = []; have = ap (λ (s : ShelfState). s.calls) each.0; are = refl }
finds_what_came old new before after [] (x ∷ xs) leaves each tells stayed = absurd each
finds_what_came old new before after (m ∷ ms) [] leaves each tells stayed = absurd each
finds_what_came old new before after (m ∷ ms) (x ∷ xs) leaves each tells stayed =
    let keep = found_keep old each.between before each.leaves m x each.first in
    let rest_later = each_later each.between new each.leaves after ms xs each.others in
    let own : Stayed (all_faults before) (all_faults each.leaves) = omega (arith, keep.later, rest_later, stayed) in
    let rest : Stayed (all_faults each.leaves) (all_faults after) = omega (arith, keep.later, rest_later, stayed) in
    let first = found_came leaves old each.between before each.leaves m x each.first tells own in
    let others = finds_what_came each.between new each.leaves after ms xs leaves each.others (keep.told ∙ tells) rest in
    let h : Message = held_message first.bytes m.given in
    record {
      came = h ∷ others.came;
      have = record { between = each.between.calls; row = first.row; end = first.end; given = refl; others = others.have };
      are = ap (λ (y : Audited). y ∷ xs) first.is ∙ ap (λ (ys : List Audited). audited leaves h ∷ ys) others.are;
    }
