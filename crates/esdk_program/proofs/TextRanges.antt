-- A range that is extracted is one of the text.
use Rattle.std.proofs.Common.{◌≡◌, ◌⊎◌, ◌∙◌, ℕ, ◌<◌, List, [], length, Option, Some, None, refl, sym, ap, subst, arith, inl, inr}
use Rattle.esdk_fields.specs.Bytes.{AreBytes}
use Rattle.esdk_fields.specs.declared.contents.Content.{Content}
use Rattle.esdk_fields.specs.declared.faults.Fault.{Fault}
use Rattle.body_format.specs.declared.verdicts.Verdict.TheVariants as verdicts
use Rattle.message_format.specs.Judgement.{Judged, content, judged}
use Rattle.message_format.proofs.ReadingOn.{read_is}
use Rattle.esdk_decrypt.specs.Told.{Reader, judged_by, unlocked_to}
use Rattle.extract_core.specs.Extracted.{ByteRange, first_slot, in_range}
use Rattle.extract_core.specs.Laws.{EndsAsItBegins, ExtractsOfWhole}
use Rattle.extract_core.proofs.Judged.{extracts_whole}
use Rattle.esdk_run.specs.ExtractTold.{extracted_by}
use Rattle.esdk_program.specs.Effect.{done_with}
use Rattle.esdk_program.specs.Laws.{ExtractsAsItBegins, ExtractsOfTheText, ExtractsWithinTheText, RangeOfText, just}
use Rattle.esdk_program.specs.Program.{judged_effect, part_with, range_of_file}
use Rattle.esdk_program.proofs.Opened.{opened_text, opened_whole}
use Rattle.esdk_program.proofs.SlotsOfText.{begins_within}

part_is : (part : List ℕ) (fault : Option Fault) → (part_with part fault).output ≡ part
part_is part None = refl
part_is part (Some fault) = refl

-- no fault ends a range that is empty or begins within the units
done_within : (c : Content) (range : ByteRange) (units : List (List ℕ)) (part : List ℕ) (fault : Option Fault) → EndsAsItBegins c range units fault
    → (range.count ≡ 0) ⊎ (first_slot c range < length units) → part_with part fault ≡ done_with part []
done_within c range units part None ends begins = refl
done_within c range units part (Some fault) ends (inl empty) = absurd (omega (arith, empty, ends.0.0))
done_within c range units part (Some fault) ends (inr within) = absurd (omega (arith, within, ends.0.1))

module _ (reader : Reader) (range : ByteRange) (bytes text line : List ℕ) (are : AreBytes bytes) (is : judged_effect reader (just bytes) ≡ done_with text line) where
  abbrev j : Judged
  j = judged bytes reader.settings (unlocked_to reader bytes)

  same : judged_by reader bytes ≡ j
  same = read_is bytes reader.settings reader.given reader.required reader.keys

  whole : j.verdict ≡ verdicts.Whole
  whole = sym (ap (λ (x : Judged). x.verdict) same) ∙ opened_whole reader bytes text line is

  text_is : content j ≡ text
  text_is = ap content (sym same) ∙ opened_text reader bytes text line is

  extraction : ExtractsOfWhole bytes reader.settings (unlocked_to reader bytes) range
  extraction = extracts_whole bytes reader.settings (unlocked_to reader bytes) range are whole

  range_is : (extracted_by reader bytes range).part ≡ in_range range 0 text
  range_is = extraction.part ∙ ap (in_range range 0) text_is

  part_of_text : (range_of_file reader range (Some bytes)).output ≡ in_range range 0 text
  part_of_text = part_is (extracted_by reader bytes range).part (extracted_by reader bytes range).fault ∙ range_is

  begins : (range.count ≡ 0) ⊎ (range.at < length text) → (range.count ≡ 0) ⊎ (first_slot extraction.header.content range < length j.units)
  begins (inl empty) = inl empty
  begins (inr within) = inr (begins_within bytes reader.settings (unlocked_to reader bytes) extraction.header range extraction.stands are whole
      (omega (arith, within, ap (length {A = ℕ}) text_is)))

  done_of_text : (range.count ≡ 0) ⊎ (range.at < length text) → range_of_file reader range (Some bytes) ≡ done_with (in_range range 0 text) []
  done_of_text within =
      done_within extraction.header.content range j.units (extracted_by reader bytes range).part (extracted_by reader bytes range).fault extraction.ends (begins within)
      ∙ ap (λ (t : List ℕ). done_with t []) range_is

  range_of_text : RangeOfText reader range bytes text
  range_of_text = record {
    header = extraction.header;
    stands = extraction.stands;
    fault = (extracted_by reader bytes range).fault;
    ends = subst (λ (x : Judged). EndsAsItBegins extraction.header.content range x.units (extracted_by reader bytes range).fault) (sym same) extraction.ends;
    does = ap (λ (t : List ℕ). part_with t (extracted_by reader bytes range).fault) range_is;
  }

pub extracts_of_text : ExtractsOfTheText
extracts_of_text reader range bytes text line are is = part_of_text reader range bytes text line are is

pub extracts_within : ExtractsWithinTheText
extracts_within reader range bytes text line are is within = done_of_text reader range bytes text line are is within

pub extracts_as_it_begins : ExtractsAsItBegins
extracts_as_it_begins reader range bytes text line are is = range_of_text reader range bytes text line are is
