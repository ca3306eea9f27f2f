-- A front of the message is left where its writing ends early.
use Rattle.std.proofs.Common.{◌≡◌, ℕ, ◌-◌, ◌<◌, ◌≤◌, List, [], length, take, Option, inl, inr, sym, ap, subst, ◌∙◌, arith, length-take}
use Rattle.std.proofs.lemmas.List.{take_all}
use Rattle.std.specs.Io.KnownBytes.{Appends}
use Rattle.esdk_fields.specs.declared.refusals.Outside.TheVariants as outsides
use Rattle.esdk_fields.specs.declared.refusals.Refusal.TheVariants as refusals
use Rattle.esdk_base.specs.Sink.{AppendsFront}
use Rattle.esdk_base.specs.Streams.{SinkState, SourceState}
use Rattle.keyring_trait.specs.Materials.{EncMaterialsValue}
use Rattle.stream_seal.specs.Feeding.{frames_given}
use Rattle.stream_seal.specs.Start.{message_of, most_frames, most_text, start_of}
use Rattle.stream_seal.proofs.GivenFrames.{frames_of_most}
use Rattle.whole_input.proofs.Fronts.{front_beyond, front_longer}
use Rattle.esdk_encrypt.specs.declared.errors.EncryptError.{EncryptError}
use Rattle.esdk_encrypt.specs.declared.errors.EncryptError.TheVariants as errors
use Rattle.esdk_encrypt.specs.Encrypt.{EncryptHeaderFails, StopsSo, header_and_frames, written_so_far}
use Rattle.esdk_encrypt.specs.Gaining.{OutputForm, Front, KeepsFronts, Whole, gained_as}
use Rattle.esdk_encrypt.specs.Laws.{GainsMessageFront}
use Rattle.esdk_encrypt.proofs.Sessions.{more_follows, written_none}

-- all of some bytes is a front of them
front_all : (a b : Option (List ℕ)) (xs : List ℕ) → Appends a b xs → AppendsFront a b xs
front_all a b xs gained = (length xs, subst (λ (ys : List ℕ). Appends a b ys) (sym (take_all (length xs) xs (omega arith))) gained)

module _ (form : OutputForm) (fronts : KeepsFronts form) (m : EncMaterialsValue) (size : ℕ) (id : List ℕ) (wide : 1 ≤ size) where
  -- what is written while the input goes on is a front of the message
  begins : (text : List ℕ) (a b : Option (List ℕ)) → AppendsFront a b (form Front (written_so_far m size id text)) → AppendsFront a b (form Whole (message_of m size id text))
  begins text a b front =
      let follows = more_follows m size id text wide in
      let rest = fronts.ends (written_so_far m size id text) follows.0 in
      subst (λ (g : List ℕ). AppendsFront a b g) (sym (ap (form Whole) follows.1 ∙ rest.1)) (front_longer a b (form Front (written_so_far m size id text)) rest.0 front)

  -- where a message has room for all of the text
  all_fits : (text : List ℕ) (a b : Option (List ℕ)) → length text ≤ most_text size → AppendsFront a b (form Whole (message_of m size id text))
      → AppendsFront a b (form Whole (message_of m size id (take (most_text size) text)))
  all_fits text a b short front = subst (λ (t : List ℕ). AppendsFront a b (form Whole (message_of m size id t))) (sym (take_all (most_text size) text short)) front

  -- where it hasn't, all regular frames are what is written
  all_frames : (text : List ℕ) → most_text size < length text → header_and_frames m size id (take (most_text size) text) (most_frames - 1) ≡ written_so_far m size id (take (most_text size) text)
  all_frames text many =
      let long : length (take (most_text size) text) ≡ most_text size = omega (arith, length-take (most_text size) text, many) in
      ap (header_and_frames m size id (take (most_text size) text)) (sym (ap (λ (n : ℕ). frames_given n size) long ∙ frames_of_most size wide))

  module _ (input taken : SourceState) (output put : SinkState) where
    -- all that is written of these bytes while the input goes on
    goes_on : (text : List ℕ) → Appends output.written put.written (form Front (written_so_far m size id text)) → AppendsFront output.written put.written (form Whole (message_of m size id text))
    goes_on text gained = begins text output.written put.written (front_all output.written put.written (form Front (written_so_far m size id text)) gained)

    -- nothing was taken
    header_leaves : (text : List ℕ) → EncryptHeaderFails m size id (gained_as form output put) text → AppendsFront output.written put.written (form Whole (message_of m size id (take (most_text size) text)))
    header_leaves text fails =
        subst (λ (t : List ℕ). AppendsFront output.written put.written (form Whole (message_of m size id t))) (sym (take_all (most_text size) [] (omega arith)) ∙ ap (take (most_text size)) (sym fails.none))
        (begins [] output.written put.written (subst (λ (g : List ℕ). AppendsFront output.written put.written (form Front g)) (sym (written_none m size id))
        (front_beyond output put (form Front []) (form Front (start_of m size id)) fails.stopped.0)))

    pub leaves_front : (error : EncryptError) → StopsSo m size id input taken (gained_as form output put) error → GainsMessageFront form m size id input taken output put
    leaves_front (errors.Outside outsides.SourceFault) stops = record {
      text = stops.text;
      came = stops.came;
      front = all_fits stops.text output.written put.written stops.short (goes_on stops.text stops.gained);
    }
    leaves_front (errors.Outside outsides.InputTooLong) stops = record {
      text = stops.text;
      came = stops.came;
      front = all_fits stops.text output.written put.written stops.short (goes_on stops.text stops.gained);
    }
    leaves_front (errors.Refusal refusals.TooManyFrames) stops = record {
      text = stops.text;
      came = stops.came;
      front = goes_on (take (most_text size) stops.text)
          (subst (λ (g : List ℕ). Appends output.written put.written (form Front g)) (all_frames stops.text stops.many) stops.gained);
    }
    leaves_front (errors.Outside outsides.SinkFault) stops = record {
      text = stops.text;
      came = stops.came;
      front = elim stops.at [
        | inl header ↦ header_leaves stops.text header
        | inr (inl frame) ↦ begins (take (most_text size) stops.text) output.written put.written (front_beyond output put _ _ frame.was.stopped.0)
        | inr (inr final) ↦ all_fits stops.text output.written put.written final.short (front_beyond output put _ _ final.stopped.0)
      ];
    }
    leaves_front error stops = absurd stops
