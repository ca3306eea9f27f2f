-- A message that goes into an armoured output over a sink.
use Rattle.std.proofs.Common.{◌≡◌, ◌∙◌, ℕ, ◌+◌, ◌≤◌, Bool, true, false, List, [], ◌++◌, length, take, Result, IfErr, OnOk, sym, ap, subst, arith}
use Rattle.std.proofs.lemmas.List.{append_assoc, length-append}
use Rattle.std.proofs.lemmas.Result.{on_ok_weaker, IfErr-weaker}
use Rattle.std.proofs.Math.Seq.{take-append-add}
use Rattle.std.specs.Io.KnownBytes.{Appends}
use Rattle.esdk_base.specs.Receiver.{SinkFails, SinkTakes, PutsAll}
use Rattle.esdk_base.specs.ReceiverLaws.{takes_more}
use Rattle.esdk_base.specs.Streams.{EntropyState, SinkState, SourceState}
use Rattle.esdk_fields.specs.declared.refusals.Outside.TheVariants as outsides
use Rattle.esdk_fields.specs.declared.refusals.Refusal.TheVariants as refusals
use Rattle.armour_core.specs.declared.output.ArmouredOutput.{ArmouredOutput}
use Rattle.armour_core.specs.ArmourText.{armour_text}
use Rattle.armour_core.specs.Armouring.{open_line}
use Rattle.armour_core.specs.ArmouredLaws.{lines_go_on}
use Rattle.armour_core.specs.ArmouredOutput.{FailsAtLine, TakesLines, full_lines_text, held_of}
use Rattle.armour_core.proofs.AnyCut.{lines_and_rest}
use Rattle.whole_input.specs.Written.{WritesBeyond}
use Rattle.whole_input.proofs.Fronts.{beyond_after}
use Rattle.esdk_encrypt.specs.declared.errors.EncryptError.{EncryptError}
use Rattle.esdk_encrypt.specs.declared.errors.EncryptError.TheVariants as errors
use Rattle.esdk_encrypt.specs.Encrypt.{EncryptAsked, Encrypts, EncryptEnds}
use Rattle.esdk_encrypt.specs.Gaining.{Extent, FailsBeyond, Front, Gaining, KeepsFronts, Whole, as_bytes, gained_as, gaining, sink_fails}
use Rattle.esdk_encrypt.proofs.GainsMore.{encrypts_as, encrypts_not, ends_as, ends_so}
use Rattle.esdk_encrypt.proofs.SinkGains.{bytes_keep_fronts, sink_gains}
use Rattle.esdk_run.specs.ArmouredMessage.{as_armour, output_form}

-- ---- the form

-- the full lines of a front are a front of those of all
lines_of_front : (front more : List ℕ) → full_lines_text (front ++ more) ≡ full_lines_text front ++ full_lines_text (open_line front ++ more)
lines_of_front front more = (lines_go_on [] front more).0

-- and of the whole text
text_of_front : (front more : List ℕ) → armour_text (front ++ more) ≡ full_lines_text front ++ (full_lines_text (open_line front ++ more) ++ armour_text (open_line (front ++ more)))
text_of_front front more =
    sym (lines_and_rest (front ++ more)) ∙ ap (λ (x : List ℕ). x ++ armour_text (open_line (front ++ more))) (lines_of_front front more)
    ∙ append_assoc (full_lines_text front) (full_lines_text (open_line front ++ more)) (armour_text (open_line (front ++ more)))

pub forms_keep_fronts : (armour : Bool) → KeepsFronts (output_form armour)
forms_keep_fronts true = record { goes_on = λ front more. (_, lines_of_front front more); ends = λ front more. (_, text_of_front front more) }
forms_keep_fronts false = bytes_keep_fronts

-- ---- an armoured output over a receiver

abbrev pub armoured_takes : {R : Type 0} → (R → R → List ℕ → Type 0) → ArmouredOutput R → ArmouredOutput R → List ℕ → Type 0
armoured_takes takes old new bytes =
    (new.output.ghost_name ≡ old.output.ghost_name) × TakesLines takes old.output.now new.output.now (held_of old.armour) (held_of new.armour) bytes

abbrev pub armoured_fails : {R E : Type 0} → (R → R → List ℕ → E → Type 0) → ArmouredOutput R → ArmouredOutput R → List ℕ → E → Type 0
armoured_fails fails old new bytes error =
    (new.output.ghost_name ≡ old.output.ghost_name) × FailsAtLine fails old.output.now new.output.now (held_of old.armour) bytes error

module _ {R : Type 0} (takes : R → R → List ℕ → Type 0) (old new : ArmouredOutput R) (empty : held_of old.armour ≡ []) (bytes : List ℕ) (took : armoured_takes takes old new bytes) where
  -- of what it took from the start, the receiver took the full lines
  lines_taken : takes old.output.now new.output.now (full_lines_text bytes)
  lines_taken = subst (λ (before : List ℕ). takes old.output.now new.output.now (full_lines_text (before ++ bytes))) empty took.1.took

  -- and it has the open line
  line_held : held_of new.armour ≡ open_line bytes
  line_held = took.1.left ∙ ap (λ (before : List ℕ). open_line (before ++ bytes)) empty

-- the text at which it fails comes behind the lines that it handed on
lines_beyond : (first given rest text more : List ℕ) → full_lines_text (open_line first ++ given) ≡ text ++ more
    → full_lines_text (first ++ (given ++ rest)) ≡ full_lines_text first ++ (text ++ (more ++ full_lines_text (open_line (open_line first ++ given) ++ rest)))
lines_beyond first given rest text more is =
    let after : List ℕ = full_lines_text (open_line (open_line first ++ given) ++ rest) in
    lines_of_front first (given ++ rest)
    ∙ ap (λ (x : List ℕ). full_lines_text first ++ x)
    ((lines_go_on (open_line first) given rest).0 ∙ ap (λ (x : List ℕ). x ++ after) is ∙ append_assoc text more after)

module _ {R E : Type 0} (takes : R → R → List ℕ → Type 0) (fails : R → R → List ℕ → E → Type 0) (old new : ArmouredOutput R) (empty : held_of old.armour ≡ []) (first all : List ℕ)
    (beyond : FailsBeyond (armoured_takes takes) (armoured_fails fails) old new first all) where
  lines_fail : FailsBeyond takes fails old.output.now new.output.now (full_lines_text first) (full_lines_text all)
  lines_fail =
      let between : ArmouredOutput R = beyond.between in
      let line = beyond.failed.1 in
      let is : full_lines_text (open_line first ++ beyond.given) ≡ line.text ++ line.more =
      ap (λ (before : List ℕ). full_lines_text (before ++ beyond.given)) (sym (line_held takes old between empty first beyond.taken)) ∙ line.is in
      record {
        between = between.output.now;
        given = line.text;
        rest = line.more ++ full_lines_text (open_line (open_line first ++ beyond.given) ++ beyond.rest);
        error = beyond.error;
        some = line.some;
        is = ap full_lines_text beyond.is ∙ lines_beyond first beyond.given beyond.rest line.text line.more is;
        taken = lines_taken takes old between empty first beyond.taken;
        failed = line.failed;
      }

  -- the last line would come behind that
  text_fails : FailsBeyond takes fails old.output.now new.output.now (full_lines_text first) (armour_text all)
  text_fails =
      let last : List ℕ = armour_text (open_line all) in
      let lines = lines_fail in
      record {
        between = lines.between;
        given = lines.given;
        rest = lines.rest ++ last;
        error = lines.error;
        some = lines.some;
        is = sym (lines_and_rest all) ∙ ap (λ (x : List ℕ). x ++ last) lines.is
            ∙ append_assoc (full_lines_text first) (lines.given ++ lines.rest) last
            ∙ ap (λ (x : List ℕ). full_lines_text first ++ x) (append_assoc lines.given lines.rest last);
        taken = lines.taken;
        failed = lines.failed;
      }

  pub armour_fails : (extent : Extent) → FailsBeyond takes fails old.output.now new.output.now (as_armour Front first) (as_armour extent all)
  armour_fails Front = lines_fail
  armour_fails Whole = text_fails

-- ---- over a sink

-- where all of a front was written, all of a shorter one was
beyond_sooner : (output put : SinkState) (first more all : List ℕ) → WritesBeyond output put (first ++ more) all → WritesBeyond output put first all
beyond_sooner output put first more all writes = record {
  more = more ++ writes.more;
  some = omega (arith, writes.some, length-append more writes.more);
  is = writes.is ∙ append_assoc first more writes.more;
  count = length more + writes.count;
  gained = subst (λ (bytes : List ℕ). Appends output.written put.written bytes)
      (append_assoc first more (take writes.count writes.more) ∙ ap (λ (x : List ℕ). first ++ x) (sym (take-append-add more writes.more writes.count))) writes.gained;
}

-- what an armoured output gained over a sink
abbrev pub armour_gaining : {R : Type 0} → (R → SinkState) → ArmouredOutput R → ArmouredOutput R → Gaining
armour_gaining state old new = gaining (armoured_takes (PutsAll state)) (armoured_fails (sink_fails state)) old new

module _ {R : Type 0} (state : R → SinkState) (old mid : ArmouredOutput R) (empty : held_of old.armour ≡ []) where
  -- while the message goes on, the sink gained its full lines
  pub front_gained : (bytes : List ℕ) → (armour_gaining state old mid).took Front bytes → (gained_as as_armour (state old.output.now) (state mid.output.now)).took Front bytes
  front_gained bytes took = (lines_taken (PutsAll state) old mid empty bytes took).gained

  pub stop_gained : (extent : Extent) (first all : List ℕ) → (armour_gaining state old mid).stopped extent first all
      → (gained_as as_armour (state old.output.now) (state mid.output.now)).stopped extent first all
  stop_gained extent first all beyond =
      (sink_gains state old.output.now mid.output.now).stopped extent (as_armour Front first) (as_armour extent all) (armour_fails (PutsAll state) (sink_fails state) old mid empty first all beyond extent)

  module _ (new : SinkState) where
    -- with the open line it gained all of the text
    pub whole_gained : (bytes : List ℕ) → SinkTakes (state mid.output.now) new (armour_text (held_of mid.armour)) → (armour_gaining state old mid).took Whole bytes
        → (gained_as as_armour (state old.output.now) new).took Whole bytes
    whole_gained bytes line took =
        let is : held_of mid.armour ≡ open_line bytes = line_held (PutsAll state) old mid empty bytes took in
        let all = takes_more (state old.output.now) (state mid.output.now) new (full_lines_text bytes) (armour_text (held_of mid.armour)) (lines_taken (PutsAll state) old mid empty bytes took) line in
        subst (λ (text : List ℕ). Appends (state old.output.now).written new.written text)
        (ap (λ (x : List ℕ). full_lines_text bytes ++ armour_text x) is ∙ lines_and_rest bytes) all.gained

    -- or it failed at that
    pub end_fails : 1 ≤ length (armour_text (held_of mid.armour)) → SinkFails (state mid.output.now) new (armour_text (held_of mid.armour))
        → (first all more : List ℕ) → all ≡ first ++ more → (armour_gaining state old mid).took Whole all
        → (gained_as as_armour (state old.output.now) new).stopped Whole first all
    end_fails some line first all more are took =
        let output : SinkState = state old.output.now in
        let lines = lines_taken (PutsAll state) old mid empty all took in
        let whole : full_lines_text all ++ armour_text (held_of mid.armour) ≡ armour_text all =
        ap (λ (x : List ℕ). full_lines_text all ++ armour_text x) (line_held (PutsAll state) old mid empty all took) ∙ lines_and_rest all in
        let front : full_lines_text all ≡ full_lines_text first ++ full_lines_text (open_line first ++ more) = ap full_lines_text are ∙ lines_of_front first more in
        let last : WritesBeyond output new (full_lines_text all) (armour_text all) =
        subst (λ (text : List ℕ). WritesBeyond output new (full_lines_text all) text) whole
        (beyond_after output (state mid.output.now) new (full_lines_text all) (armour_text (held_of mid.armour)) some lines.gained line.front) in (
          beyond_sooner output new (full_lines_text first) (full_lines_text (open_line first ++ more)) (armour_text all)
              (subst (λ (text : List ℕ). WritesBeyond output new text (armour_text all)) front last),
          omega (arith, line.rose, lines.faults),
        )

-- a sink that takes the message itself gains its bytes
module _ {R : Type 0} (state : R → SinkState) (old new : R) (asked : EncryptAsked) (input taken : SourceState) (entropy spent : EntropyState) where
  pub sink_done : (r : Result (Unit {0}) EncryptError) → OnOk r (Encrypts asked input taken (gaining (PutsAll state) (sink_fails state) old new) entropy spent)
      → OnOk r (Encrypts asked input taken (gained_as as_bytes (state old) (state new)) entropy spent)
  sink_done r done =
      on_ok_weaker r (λ (encrypts : Encrypts asked input taken (gaining (PutsAll state) (sink_fails state) old new) entropy spent).
      encrypts_as (gaining (PutsAll state) (sink_fails state) old new) (gained_as as_bytes (state old) (state new)) asked input taken entropy spent encrypts
      (λ bytes took. (sink_gains state old new).took Whole bytes took)) done

  pub sink_ended : (untouched unasked : Type 0) (r : Result (Unit {0}) EncryptError)
      → IfErr r (λ error. EncryptEnds asked input taken (gaining (PutsAll state) (sink_fails state) old new) entropy spent untouched unasked error)
      → IfErr r (λ error. EncryptEnds asked input taken (gained_as as_bytes (state old) (state new)) entropy spent untouched unasked error)
  sink_ended untouched unasked r ends =
      IfErr-weaker r (EncryptEnds asked input taken (gaining (PutsAll state) (sink_fails state) old new) entropy spent untouched unasked)
      (EncryptEnds asked input taken (gained_as as_bytes (state old) (state new)) entropy spent untouched unasked)
      (λ error why. ends_as (gaining (PutsAll state) (sink_fails state) old new) (gained_as as_bytes (state old) (state new)) (λ bytes took. (sink_gains state old new).took Front bytes took)
      (λ extent first all stops. (sink_gains state old new).stopped extent first all stops) input taken asked entropy spent untouched unasked error why) ends

-- ---- what was left untouched

-- where nothing was taken or written, what that says of one output it says of another
pub ends_untouched : (asked : EncryptAsked) (input taken : SourceState) (gains : Gaining) (entropy spent : EntropyState) (from to unasked : Type 0) (error : EncryptError) → (from → to)
    → EncryptEnds asked input taken gains entropy spent from unasked error → EncryptEnds asked input taken gains entropy spent to unasked error
ends_untouched asked input taken gains entropy spent from to unasked (errors.Outside outsides.EntropyFault) so ends =
    record { rose = ends.rose; kept = ends.kept; none = ends.none; same = so ends.same; manager = ends.manager }
ends_untouched asked input taken gains entropy spent from to unasked (errors.Outside outsides.KeyringFault) so ends =
    record { drawn = ends.drawn; drew = ends.drew; cause = ends.cause; same = so ends.same }
ends_untouched asked input taken gains entropy spent from to unasked (errors.Outside outside) so ends = ends
ends_untouched asked input taken gains entropy spent from to unasked (errors.Refusal refusals.TooManyFrames) so ends = ends
ends_untouched asked input taken gains entropy spent from to unasked (errors.Refusal (refusals.TooManyDataKeys n)) so ends = record {
  drawn = ends.drawn;
  materials = ends.materials;
  drew = ends.drew;
  given = ends.given;
  each = ends.each;
  cause = ends.cause;
  same = so ends.same;
}
ends_untouched asked input taken gains entropy spent from to unasked (errors.Refusal (refusals.HeaderTooLong n)) so ends = record {
  drawn = ends.drawn;
  materials = ends.materials;
  drew = ends.drew;
  given = ends.given;
  each = ends.each;
  cause = ends.cause;
  same = so ends.same;
}
ends_untouched asked input taken gains entropy spent from to unasked (errors.Refusal refusal) so ends =
    record { drawn = ends.drawn; drew = ends.drew; cause = ends.cause; same = so ends.same }
ends_untouched asked input taken gains entropy spent from to unasked errors.Memory so ends = record { drawn = ends.drawn; drew = ends.drew; same = so ends.same }

-- ---- how the writing of an armoured message ended

module _ {R : Type 0} (state : R → SinkState) (before : R) (old mid : ArmouredOutput R) (asked : EncryptAsked) (input taken : SourceState) (entropy spent : EntropyState) where
  -- the receiver is lent by the same name still
  pub lent_done : Encrypts asked input taken (armour_gaining state old mid) entropy spent → mid.output.ghost_name ≡ old.output.ghost_name
  lent_done encrypts = encrypts.writes.gained.0

  pub lent_ended : (same unasked : Type 0) (error : EncryptError) → EncryptEnds asked input taken (armour_gaining state old mid) entropy spent (same × (mid ≡ old)) unasked error
      → mid.output.ghost_name ≡ old.output.ghost_name
  lent_ended same unasked error ends =
      ends_so (armour_gaining state old mid) (mid.output.ghost_name ≡ old.output.ghost_name) (λ extent bytes took. took.0) (λ extent first all beyond. beyond.failed.0 ∙ beyond.taken.0)
      input taken asked entropy spent (same × (mid ≡ old)) unasked error (λ both. ap (λ (a : ArmouredOutput R). a.output.ghost_name) both.1) ends

  -- `back` is the receiver that came back
  module _ (empty : held_of old.armour ≡ []) (is : old.output.now ≡ before) (back : R) where
    -- it ended early
    pub armour_ends : (same unasked : Type 0) (error : EncryptError) → EncryptEnds asked input taken (armour_gaining state old mid) entropy spent (same × (mid ≡ old)) unasked error
        → back ≡ mid.output.now → EncryptEnds asked input taken (gained_as as_armour (state before) (state back)) entropy spent (same × (back ≡ before)) unasked error
    armour_ends same unasked error ends is_back =
        let gains : Gaining = gained_as as_armour (state old.output.now) (state mid.output.now) in
        subst (λ (o : R). EncryptEnds asked input taken (gained_as as_armour (state before) (state o)) entropy spent (same × (o ≡ before)) unasked error) (sym is_back)
        (subst (λ (b : R). EncryptEnds asked input taken (gained_as as_armour (state b) (state mid.output.now)) entropy spent (same × (mid.output.now ≡ b)) unasked error) is
        (ends_untouched asked input taken gains entropy spent (same × (mid ≡ old)) (same × (mid.output.now ≡ old.output.now)) unasked error
        (λ both. (both.0, ap (λ (a : ArmouredOutput R). a.output.now) both.1))
        (ends_as (armour_gaining state old mid) gains (front_gained state old mid empty) (stop_gained state old mid empty) input taken asked entropy spent (same × (mid ≡ old)) unasked error ends)))

    -- the whole message was handed on, and then the last line, or not all of it
    module _ (encrypts : Encrypts asked input taken (armour_gaining state old mid) entropy spent) (new : R) (is_back : back ≡ new) where
      pub armour_done : SinkTakes (state mid.output.now) (state new) (armour_text (held_of mid.armour))
          → Encrypts asked input taken (gained_as as_armour (state before) (state back)) entropy spent
      armour_done line =
          subst (λ (o : R). Encrypts asked input taken (gained_as as_armour (state before) (state o)) entropy spent) (sym is_back)
          (subst (λ (b : R). Encrypts asked input taken (gained_as as_armour (state b) (state new)) entropy spent) is
          (encrypts_as (armour_gaining state old mid) (gained_as as_armour (state old.output.now) (state new)) asked input taken entropy spent encrypts
          (λ bytes took. whole_gained state old mid empty (state new) bytes line took)))

      pub armour_undone : (untouched unasked : Type 0) → 1 ≤ asked.size → 1 ≤ length (armour_text (held_of mid.armour))
          → SinkFails (state mid.output.now) (state new) (armour_text (held_of mid.armour))
          → EncryptEnds asked input taken (gained_as as_armour (state before) (state back)) entropy spent untouched unasked (errors.Outside outsides.SinkFault)
      armour_undone untouched unasked wide some line =
          subst (λ (o : R). EncryptEnds asked input taken (gained_as as_armour (state before) (state o)) entropy spent untouched unasked (errors.Outside outsides.SinkFault)) (sym is_back)
          (subst (λ (b : R). EncryptEnds asked input taken (gained_as as_armour (state b) (state new)) entropy spent untouched unasked (errors.Outside outsides.SinkFault)) is
          (encrypts_not (armour_gaining state old mid) (gained_as as_armour (state old.output.now) (state new)) asked input taken entropy spent encrypts untouched unasked wide
          (λ first all more are took. end_fails state old mid empty (state new) some line first all more are took)))
