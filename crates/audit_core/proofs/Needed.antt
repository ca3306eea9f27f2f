-- Where a leaf is needed for no message, another stands beside it.
use Rattle.std.proofs.Common.{◌≡◌, ℕ, ◌+◌, ◌≤◌, Bool, true, false, List, [], ◌∷◌, map, Option, Some, None, refl, arith}
use Rattle.std.specs.Prelude.{All, Contains, ◌==◌}
use Rattle.std.proofs.lemmas.List.Elements.{All-contains_itself, All-weaker}
use Rattle.std.proofs.lemmas.Bool.Decides.{nat_tests}
use Rattle.context_codec.proofs.Members.{Contains-head, Contains-tail, Contains-nil}
use Rattle.esdk_fields.specs.declared.faults.Fault as faults
use Rattle.esdk_fields.specs.Place.{start}
use Rattle.esdk_fields.specs.Reading.{Reading, Read, Refused, Wanting}
use Rattle.context_codec.specs.Context.{KeyValue}
use Rattle.header_codec.specs.Header.{HeaderValue, no_limits}
use Rattle.header_codec.specs.Table.{HeaderFields, header}
use Rattle.keyring_trait.specs.Unlocking.{pair_offence}
use Rattle.keyring_trait.specs.Wrapping.{WrapKeyValue}
use Rattle.message_format.specs.Judgement.{header_of}
use Rattle.audit_core.specs.declared.audited.Audited.{Audited}
use Rattle.audit_core.specs.declared.audited.Audited.TheVariants.{OpenedBy, Fault}
use Rattle.audit_core.specs.Laws.{AnotherStands, StandsIn}
use Rattle.audit_core.specs.Messages.{Message, audited, audited_reading, unless_offence}
use Rattle.audit_core.specs.Openers.{is_needed_for, is_opener, needed_for, openers}
use Rattle.audit_core.proofs.Numbered.{Contains-map, first_two, none_passes}

-- no leaf stands in the line twice
abbrev Apart : Audited → Type 0
Apart (OpenedBy numbers) = (one two : ℕ) (more : List ℕ) → numbers ≡ one ∷ two ∷ more → one + 1 ≤ two
Apart (Fault fault) = Unit {0}

unless_apart : (offence : Option faults.Fault) (leaves : List (List WrapKeyValue)) (h : HeaderValue) (given : List KeyValue) → Apart (unless_offence offence (openers leaves h given))
unless_apart None leaves h given = λ one two more is. first_two (is_opener h given) 1 leaves one two more is
unless_apart (Some fault) leaves h given = tt

reading_apart : (leaves : List (List WrapKeyValue)) (m : Message) (reading : Reading HeaderFields) → Apart (audited_reading leaves m reading)
reading_apart leaves m (Refused fault at) = tt
reading_apart leaves m Wanting = tt
reading_apart leaves m (Read parts body) =
    unless_apart (pair_offence (header_of m.bytes parts).stored m.given []) leaves (header_of m.bytes parts) m.given

audited_apart : (leaves : List (List WrapKeyValue)) (m : Message) → Apart (audited leaves m)
unfolding audited
audited_apart leaves m = reading_apart leaves m (header no_limits (start m.bytes))

-- of the first two, one is another
of_two : (leaf one two : ℕ) (more : List ℕ) (first : Bool) → (one == leaf) ≡ first → one + 1 ≤ two → AnotherStands leaf (OpenedBy (one ∷ two ∷ more))
of_two leaf one two more true is apart = record {
  other = two;
  stands = Contains-tail one (two ∷ more) two (Contains-head two more);
  apart = λ same. grind (arith, nat_tests, is, apart, same);
}
of_two leaf one two more false is apart =
    record { other = one; stands = Contains-head one (two ∷ more); apart = λ same. grind (arith, nat_tests, is, same) }

another : (leaf : ℕ) (message : Audited) → Apart message → is_needed_for leaf message ≡ false → (opener : ℕ) → StandsIn message opener → AnotherStands leaf message
another leaf (OpenedBy []) apart unneeded opener stands = absurd (Contains-nil opener stands)
another leaf (OpenedBy (only ∷ [])) apart unneeded opener stands =
    record { other = only; stands = Contains-head only []; apart = λ same. grind (arith, nat_tests, unneeded, same) }
another leaf (OpenedBy (one ∷ two ∷ more)) apart unneeded opener stands = of_two leaf one two more (one == leaf) refl (apart one two more refl)
another leaf (Fault fault) apart unneeded opener stands = absurd stands

pub leaves_another : (leaves : List (List WrapKeyValue)) (messages : List Message) (leaf : ℕ) (m : Message) → needed_for leaf (map (audited leaves) messages) ≡ [] → Contains messages m
    → (opener : ℕ) → StandsIn (audited leaves m) opener → AnotherStands leaf (audited leaves m)
leaves_another leaves messages leaf m none listed opener stands =
    another leaf (audited leaves m) (audited_apart leaves m)
    (none_passes (is_needed_for leaf) 1 (map (audited leaves) messages) (audited leaves m) none (Contains-map (audited leaves) messages m listed)) opener stands

pub leaves_openers : (leaves : List (List WrapKeyValue)) (messages : List Message) (leaf : ℕ) → needed_for leaf (map (audited leaves) messages) ≡ []
    → All (λ m. (opener : ℕ) → StandsIn (audited leaves m) opener → AnotherStands leaf (audited leaves m)) messages
leaves_openers leaves messages leaf none =
    All-weaker (Contains messages) (λ m. (opener : ℕ) → StandsIn (audited leaves m) opener → AnotherStands leaf (audited leaves m))
    (λ m listed opener stands. leaves_another leaves messages leaf m none listed opener stands) messages (All-contains_itself messages)
