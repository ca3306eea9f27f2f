-- A message that is written: the header, the input's frames, and the final frame.
use Rattle.std.proofs.Common.{◌≡◌, ◌∙◌, ℕ, ◌≤◌, List, [], ◌++◌, length, false, Result, Ok, Err, inl, inr, refl, sym, ap, subst, arith, append-nil, length-append}
use Rattle.esdk_fields.specs.declared.refusals.Outside.TheVariants as outsides
use Rattle.esdk_base.specs.declared.receiver.FeedError.TheVariants as fed_errors
use Rattle.esdk_base.specs.Streams.{SourceState}
use Rattle.context_codec.specs.Parts.{only_of}
use Rattle.keyring_trait.specs.Materials.{EncMaterialsValue}
use Rattle.message_format.specs.Message.{header_body, header_tag}
use Rattle.message_format.proofs.WrittenHeads.{length-header_tag}
use Rattle.suite_table.specs.declared.suite.Suite.TheVariants.{Committing}
use Rattle.suite_table.specs.Suites.{zero_iv}
use Rattle.stream_seal.specs.declared.errors.SealError.TheVariants as seals
use Rattle.stream_seal.specs.declared.session.Sealer.{Sealer}
use Rattle.stream_seal.specs.Receiving.{SealerFinishes}
use Rattle.stream_seal.specs.Session.{SealingValue, sealing_finished}
use Rattle.stream_seal.specs.Start.{message_of, start_of}
use Rattle.stream_seal.proofs.Feeding.{finishes}
use Rattle.whole_input.specs.declared.pieces.End.{End}
use Rattle.whole_input.specs.declared.pieces.End.TheVariants as ends
use Rattle.whole_input.specs.Pieces.{NextPiece, PiecesValue}
use Rattle.whole_input.proofs.Coming.{came_none}
use Rattle.esdk_encrypt.specs.declared.errors.EncryptError.{EncryptError}
use Rattle.esdk_encrypt.specs.declared.errors.EncryptError.TheVariants as errors
use Rattle.esdk_encrypt.specs.Encrypt.{StopsSo, WritesMessage, written_so_far}
use Rattle.esdk_encrypt.specs.Gaining.{gaining}
use Rattle.esdk_encrypt.specs.Writing.{ConcludesEncryption, FailsLast, FedInto, IsNamed, PutsLast, WritesAs, WritesOrStops, sealing_of_text}
use Rattle.esdk_encrypt.proofs.Input.{FeedingInput, IsFedInput, input_ends, input_fails, input_long}
use Rattle.esdk_encrypt.proofs.Sessions.{given_is, is_fed}

-- the header's tag alone is something
header_some : (m : EncMaterialsValue) (size : ℕ) (id : List ℕ) → 1 ≤ length (start_of m size id)
unfolding start_of
header_some m size id =
    let raw : List ℕ = header_body m.context m.required size m.key m.entries id in
    let tag : List ℕ = header_tag Committing zero_iv raw (only_of m.required m.context) m.key id in
    omega (arith, length-append raw tag, length-header_tag Committing zero_iv raw (only_of m.required m.context) m.key id)

module _ {R E : Type 0} (takes : R → R → List ℕ → Type 0) (fails : R → R → List ℕ → E → Type 0) (v : SealingValue) (mid put : R) where
  -- a session that goes on is finished
  pub finish_names : (r : FedInto E) → v.stopped ≡ false → SealerFinishes takes fails v mid put r → IsNamed r
  finish_names (Ok done) on ends = tt
  finish_names (Err (fed_errors.Receiver failed)) on ends = tt
  finish_names (Err (fed_errors.Machine seals.Stopped)) on ends = absurd (let both = sym on ∙ ends.0 in cc)
  finish_names (Err (fed_errors.Machine (seals.Refusal refusal))) on ends = absurd ends
  finish_names (Err (fed_errors.Machine seals.Memory)) on ends = absurd ends

  -- the receiver took the final frame, or failed at it
  pub puts_last : (r : FedInto E) (result : Result (Unit {0}) EncryptError) → WritesAs r result → SealerFinishes takes fails v mid put r → PutsLast takes fails v mid put result
  puts_last (Ok done) result writes ends = subst (λ (a : Result (Unit {0}) EncryptError). PutsLast takes fails v mid put a) (sym writes) ends.1
  puts_last (Err (fed_errors.Receiver failed)) result writes ends =
      subst (λ (a : Result (Unit {0}) EncryptError). PutsLast takes fails v mid put a) (sym writes) (record { error = failed; some = ends.1; failed = ends.2 })
  puts_last (Err (fed_errors.Machine (seals.Refusal refusal))) result writes ends = absurd ends
  puts_last (Err (fed_errors.Machine failed)) result writes ends = absurd writes

module _ {R E : Type 0} (takes : R → R → List ℕ → Type 0) (fails : R → R → List ℕ → E → Type 0) (m : EncMaterialsValue) (size : ℕ) (id : List ℕ) where
  -- the receiver failed at the header
  pub header_fails : ((r : R) → takes r r []) → (input : SourceState) (output put : R) (header : List ℕ) (error : E) → header ≡ start_of m size id → fails output put header error
      → StopsSo m size id input input (gaining takes fails output put) (errors.Outside outsides.SinkFault)
  header_fails takes_none input output put header error is failed = record {
    text = [];
    came = came_none input;
    faults = refl;
    at = inl (record {
      none = refl;
      stopped = record {
        between = output;
        given = start_of m size id;
        rest = [];
        error = error;
        some = header_some m size id;
        is = sym (append-nil (start_of m size id));
        taken = takes_none output;
        failed = subst (λ (g : List ℕ). fails output put g error) is failed;
      };
    });
  }

  -- ---- the end

  module _ (takes_more : (r s t : R) (xs ys : List ℕ) → takes r s xs → takes s t ys → takes r t (xs ++ ys)) (input taken : SourceState) (output mid put : R) (old : Sealer) (wide : 1 ≤ size)
      (fed : IsFedInput takes m size id input taken output mid old) where
    -- the final frame behind what was written makes the message
    whole : written_so_far m size id fed.text ++ (sealing_finished (sealing_of_text m size id fed.text)).out ≡ message_of m size id fed.text
    whole =
        ap (λ (g : List ℕ). g ++ (sealing_finished (sealing_of_text m size id fed.text)).out) (sym (given_is m size id fed.text))
        ∙ finishes (sealing_of_text m size id fed.text) (is_fed m size id fed.text wide fed.short)

    message_put : takes mid put (sealing_finished (sealing_of_text m size id fed.text)).out → WritesMessage m size id input taken (gaining takes fails output put)
    message_put gained = record {
      text = fed.text;
      came = fed.came;
      end = fed.end;
      short = fed.short;
      gained = subst (λ (g : List ℕ). takes output put g) whole
          (takes_more output mid put (written_so_far m size id fed.text) (sealing_finished (sealing_of_text m size id fed.text)).out fed.gained gained);
    }

    message_fails : FailsLast fails (sealing_of_text m size id fed.text) mid put → StopsSo m size id input taken (gaining takes fails output put) (errors.Outside outsides.SinkFault)
    message_fails last = record {
      text = fed.text;
      came = fed.came;
      faults = fed.end.faults;
      at = inr (inr (record {
        end = fed.end;
        short = fed.short;
        stopped = record {
          between = mid;
          given = (sealing_finished (sealing_of_text m size id fed.text)).out;
          rest = [];
          error = last.error;
          some = last.some;
          is = sym whole ∙ ap (λ (g : List ℕ). written_so_far m size id fed.text ++ g) (sym (append-nil (sealing_finished (sealing_of_text m size id fed.text)).out));
          taken = fed.gained;
          failed = last.failed;
        };
      }));
    }

    -- the end was seen
    ends_seen : (result : Result (Unit {0}) EncryptError) → PutsLast takes fails (sealing_of_text m size id fed.text) mid put result → WritesOrStops m size id input taken (gaining takes fails output put) result
    ends_seen (Ok done) last = message_put last
    ends_seen (Err (errors.Outside outsides.SinkFault)) last = message_fails last
    ends_seen (Err error) last = absurd last

  -- no more came behind what was fed
  module _ (takes_more : (r s t : R) (xs ys : List ℕ) → takes r s xs → takes s t ys → takes r t (xs ++ ys)) (wide : 1 ≤ size) (input now next : SourceState) (output mid put : R) (old : Sealer)
      (count : ℕ) (feeding : FeedingInput takes m size id input now output mid old count) (v : PiecesValue) where
    pub concludes : (end : End) (result : Result (Unit {0}) EncryptError) → NextPiece {T = Unit {0}} count now next v (Err end)
        → ConcludesEncryption takes fails (sealing_of_text m size id feeding.text) end mid put result → WritesOrStops m size id input next (gaining takes fails output put) result
    unfolding input_ends
    concludes ends.Seen result came last =
        ends_seen takes_more input next output mid put old wide
        (input_ends takes m size id wide fails input now output mid old count feeding next came.0 came.1 came.5 came.2 came.3) result last
    concludes ends.Failed result came last =
        rw (last.0, last.1) (input_fails takes m size id wide fails input now output mid old count feeding next came.0 came.1)
    concludes ends.TooLong result came last =
        rw (last.0, last.1) (input_long takes m size id wide fails input now output mid old count feeding next came.0 came.1)
