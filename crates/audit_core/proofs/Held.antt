-- Of messages whose files a shelf tells, that is found which their bytes say.
use Rattle.std.proofs.Common.{◌≡◌, ◌∙◌, ℕ, ◌≤◌, List, [], ◌∷◌, length, map, drop, Option, Some, inl, inr, refl, sym, ap, subst, arith}
use Rattle.std.specs.Prelude.{All}
use Rattle.std.proofs.lemmas.List.Elements.{All-head, All-tail}
use Rattle.esdk_fields.specs.Counts.{Stayed}
use Rattle.esdk_fields.specs.declared.faults.Fault as faults
use Rattle.esdk_fields.specs.declared.faults.Fault.TheVariants.{Truncated}
use Rattle.esdk_fields.specs.Place.{Place, followed, start}
use Rattle.esdk_fields.specs.Reading.{Refused, Wanting}
use Rattle.esdk_fields.proofs.Fronts.{fault_stays}
use Rattle.esdk_base.specs.Shelf.{Files, Holds}
use Rattle.esdk_base.specs.Streams.{ShelfState}
use Rattle.context_codec.specs.Context.{KeyValue}
use Rattle.context_codec.proofs.Stored.{stored_is}
use Rattle.header_codec.specs.Header.{HeaderValue, no_limits}
use Rattle.header_codec.specs.Table.{BeginsWith, header, made_of}
use Rattle.header_codec.proofs.Followed.{BeginsWith-append}
use Rattle.header_codec.proofs.Order.{IsSequential-header}
use Rattle.keyring_trait.specs.Keyring.{KeyringMeaning}
use Rattle.keyring_trait.specs.Wrapping.{WrapKeyValue}
use Rattle.multi_keyring.specs.Tree.{all_faults}
use Rattle.job_file.specs.declared.audit.AuditMessage.{AuditMessage}
use Rattle.audit_core.specs.declared.audited.Audited.{Audited}
use Rattle.audit_core.specs.declared.audited.Audited.TheVariants.{OpenedBy, Fault}
use Rattle.audit_core.specs.Asking.{LeafAnswer, IsAnswer, NamesOpeners}
use Rattle.audit_core.specs.Laws.{told_by}
use Rattle.audit_core.specs.MessageFiles.{AreHeld, FindsEach, FindsOf, HasHeaderFault, HasMessageHeader, IsCut}
use Rattle.audit_core.specs.Messages.{Message, audited, audited_header, audited_reading, unless_offence}
use Rattle.audit_core.specs.Openers.{openers}
use Rattle.audit_core.proofs.Told.{before_of, after_of, later_all, names_what_opens}

-- ---- one message

abbrev pub held_message : List ℕ → List KeyValue → Message
held_message bytes given = record { bytes = bytes; given = given }

-- its bytes begin with this header
pub audited_begins : (leaves : List (List WrapKeyValue)) (told : List ℕ) (given : List KeyValue) (h : HeaderValue) (end : Place) → BeginsWith no_limits told h end
    → audited leaves (held_message told given) ≡ audited_header leaves h given
unfolding audited
audited_begins leaves told given h end begins =
    ap (audited_reading leaves (held_message told given)) begins.read
    ∙ ap (λ (x : HeaderValue). audited_header leaves x given)
    (ap (made_of told begins.parts) (stored_is begins.parts.context h.stored begins.stored) ∙ sym begins.is)

held_header : (leaves : List (List WrapKeyValue)) (old new : ShelfState) (name told : List ℕ) (given : List KeyValue) (h : HeaderValue) → HasMessageHeader old new name h → Holds old.files name told
    → audited leaves (held_message told given) ≡ audited_header leaves h given
held_header leaves old new name told given h has holds =
    let rest = drop (length has.bytes) told in
    audited_begins leaves told given h (followed has.end rest)
    (subst (λ (b : List ℕ). BeginsWith no_limits b h (followed has.end rest)) (sym (has.reads.read.front told holds)) (BeginsWith-append no_limits has.bytes rest h has.end has.begins))

pub audited_refused : (leaves : List (List WrapKeyValue)) (told : List ℕ) (given : List KeyValue) (fault : faults.Fault) (at : ℕ) → header no_limits (start told) ≡ Refused fault at
    → audited leaves (held_message told given) ≡ Fault fault
unfolding audited
audited_refused leaves told given fault at refused = ap (audited_reading leaves (held_message told given)) refused

pub audited_wanting : (leaves : List (List WrapKeyValue)) (told : List ℕ) (given : List KeyValue) → header no_limits (start told) ≡ Wanting → audited leaves (held_message told given) ≡ Fault Truncated
unfolding audited
audited_wanting leaves told given wanting = ap (audited_reading leaves (held_message told given)) wanting

held_fault : (leaves : List (List WrapKeyValue)) (old new : ShelfState) (name told : List ℕ) (given : List KeyValue) (fault : faults.Fault) → HasHeaderFault old new name fault → Holds old.files name told
    → audited leaves (held_message told given) ≡ Fault fault
held_fault leaves old new name told given fault has holds =
    let rest = drop (length has.bytes) told in
    audited_refused leaves told given fault has.at
    (ap (λ (b : List ℕ). header no_limits (start b)) (has.reads.read.front told holds) ∙ fault_stays (header no_limits) has.bytes rest fault has.at (IsSequential-header no_limits) has.refused)

held_cut : (leaves : List (List WrapKeyValue)) (old new : ShelfState) (name told : List ℕ) (given : List KeyValue) → IsCut old new name → Holds old.files name told
    → audited leaves (held_message told given) ≡ Fault Truncated
held_cut leaves old new name told given cut holds = audited_wanting leaves told given (ap (λ (b : List ℕ). header no_limits (start b)) (cut.whole told holds) ∙ cut.wanting)

-- what is found of it is what its bytes say
found_held : (leaves : List (List WrapKeyValue)) (old new : ShelfState) (before after : List KeyringMeaning) (m : AuditMessage) (x : Audited) (told : List ℕ) → FindsOf old new before after m x
    → Holds old.files m.from told → told_by before ≡ Some leaves → Stayed (all_faults before) (all_faults after) → x ≡ audited leaves (held_message told m.given)
found_held leaves old new before after m (OpenedBy numbers) told found holds tells stayed =
    let h = found.header in
    ap OpenedBy (names_what_opens before after h m.given numbers leaves found.names tells stayed)
    ∙ (sym (ap (λ (o : Option faults.Fault). unless_offence o (openers leaves h m.given)) found.names.sound)
    ∙ sym (held_header leaves old new m.from told m.given h found.has holds))
found_held leaves old new before after m (Fault fault) told (inl (inl has), same) holds tells stayed = sym (held_fault leaves old new m.from told m.given fault has holds)
found_held leaves old new before after m (Fault fault) told (inl (inr cut), same) holds tells stayed = ap Fault cut.0 ∙ sym (held_cut leaves old new m.from told m.given cut.1 holds)
found_held leaves old new before after m (Fault fault) told (inr has, same) holds tells stayed =
    let h = has.header in
    sym (ap (λ (o : Option faults.Fault). unless_offence o (openers leaves h m.given)) has.offence) ∙ sym (held_header leaves old new m.from told m.given h has.has holds)

-- ---- what it leaves

same_told : (c : List KeyValue) (h : HeaderValue) (answers : List LeafAnswer) → All (IsAnswer c h.entries) answers → told_by (map after_of answers) ≡ told_by (map before_of answers)
same_told c h [] are = refl
same_told c h (a ∷ answers) are =
    let keys = (All-head (IsAnswer c h.entries) a answers are).goes.keys in
    let others = same_told c h answers (All-tail (IsAnswer c h.entries) a answers are) in
    cc

-- What a message's leaves keep: what they tell, and counts of faults that don't fall.
pub record LeavesKeep (before after : List KeyringMeaning) : Type 0 where
  pub told : told_by after ≡ told_by before
  pub later : all_faults before ≤ all_faults after

named_keep : (before after : List KeyringMeaning) (h : HeaderValue) (given : List KeyValue) (numbers : List ℕ) → NamesOpeners before after h given numbers → LeavesKeep before after
named_keep before after h given numbers names = record {
  told = ap told_by names.now_is ∙ (same_told _ h names.answers names.are ∙ sym (ap told_by names.old_is));
  later = omega (arith, later_all _ h.entries names.answers names.are, ap all_faults names.old_is, ap all_faults names.now_is);
}

same_keep : (before after : List KeyringMeaning) → after ≡ before → LeavesKeep before after
same_keep before after same = record { told = ap told_by same; later = omega (arith, ap all_faults same) }

pub found_keep : (old new : ShelfState) (before after : List KeyringMeaning) (m : AuditMessage) (x : Audited) → FindsOf old new before after m x → LeavesKeep before after
found_keep old new before after m (OpenedBy numbers) found = named_keep before after found.header m.given numbers found.names
found_keep old new before after m (Fault fault) found = same_keep before after found.1

found_files : (old new : ShelfState) (before after : List KeyringMeaning) (m : AuditMessage) (x : Audited) → FindsOf old new before after m x → new.files ≡ old.files
found_files old new before after m (OpenedBy numbers) found = found.has.reads.read.files
found_files old new before after m (Fault fault) (inl (inl has), same) = has.reads.read.files
found_files old new before after m (Fault fault) (inl (inr cut), same) = cut.1.reads.read.files
found_files old new before after m (Fault fault) (inr has, same) = has.has.reads.read.files

pub each_later : (old new : ShelfState) (before after : List KeyringMeaning) (ms : List AuditMessage) (xs : List Audited) → FindsEach old new before after ms xs → all_faults before ≤ all_faults after
each_later old new before after [] [] each = omega (arith, ap all_faults each.1)
each_later old new before after [] (x ∷ xs) each = absurd each
each_later old new before after (m ∷ ms) [] each = absurd each
each_later old new before after (m ∷ ms) (x ∷ xs) each =
    omega (arith, (found_keep old each.between before each.leaves m x each.first).later, each_later each.between new each.leaves after ms xs each.others)

pub each_files : (old new : ShelfState) (before after : List KeyringMeaning) (ms : List AuditMessage) (xs : List Audited) → FindsEach old new before after ms xs → new.files ≡ old.files
each_files old new before after [] [] each = ap (λ (s : ShelfState). s.files) each.0
each_files old new before after [] (x ∷ xs) each = absurd each
each_files old new before after (m ∷ ms) [] each = absurd each
each_files old new before after (m ∷ ms) (x ∷ xs) each =
    each_files each.between new each.leaves after ms xs each.others ∙ found_files old each.between before each.leaves m x each.first

-- ---- each message

pub finds_what_is_held : (old new : ShelfState) (before after : List KeyringMeaning) (ms : List AuditMessage) (xs : List Audited) (hs : List Message) (leaves : List (List WrapKeyValue))
    → FindsEach old new before after ms xs → AreHeld old.files ms hs → told_by before ≡ Some leaves → Stayed (all_faults before) (all_faults after) → xs ≡ map (audited leaves) hs
finds_what_is_held old new before after [] [] [] leaves each held tells stayed = refl
finds_what_is_held old new before after [] [] (h ∷ hs) leaves each held tells stayed = absurd held
finds_what_is_held old new before after [] (x ∷ xs) hs leaves each held tells stayed = absurd each
finds_what_is_held old new before after (m ∷ ms) [] hs leaves each held tells stayed = absurd each
finds_what_is_held old new before after (m ∷ ms) (x ∷ xs) [] leaves each held tells stayed = absurd held
finds_what_is_held old new before after (m ∷ ms) (x ∷ xs) (h ∷ hs) leaves each held tells stayed =
    let keep = found_keep old each.between before each.leaves m x each.first in
    let rest_later = each_later each.between new each.leaves after ms xs each.others in
    let own : Stayed (all_faults before) (all_faults each.leaves) = omega (arith, keep.later, rest_later, stayed) in
    let rest : Stayed (all_faults each.leaves) (all_faults after) = omega (arith, keep.later, rest_later, stayed) in
    let files = found_files old each.between before each.leaves m x each.first in
    let first : x ≡ audited leaves h =
    found_held leaves old each.between before each.leaves m x h.bytes each.first held.0 tells own ∙ ap (λ (g : List KeyValue). audited leaves (held_message h.bytes g)) (sym held.1) in
    let others = finds_what_is_held each.between new each.leaves after ms xs hs leaves each.others (subst (λ (f : Option Files). AreHeld f ms hs) (sym files) held.2) (keep.told ∙ tells) rest in
    cc
