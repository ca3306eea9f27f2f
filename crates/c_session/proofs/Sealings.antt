-- A text that is sealed piece by piece: what was given and what waits is what the message gives.
use Rattle.std.proofs.Common.{◌≡◌, ◌∙◌, ◌≤◌, ℕ, List, [], ◌++◌, true, false, Option, Ok, Err, sym, ap, subst, append_assoc, append-nil}
use Rattle.esdk_base.specs.declared.receiver.FeedError.{FeedError}
use Rattle.esdk_base.specs.declared.receiver.FeedError.TheVariants as feeding
use Rattle.esdk_base.specs.Receiver.{Gathers}
use Rattle.keyring_trait.specs.Materials.{EncMaterialsValue}
use Rattle.stream_seal.specs.declared.errors.SealError.{SealError}
use Rattle.stream_seal.specs.declared.errors.SealError.TheVariants as errors
use Rattle.stream_seal.specs.declared.session.Sealer.{Sealer}
use Rattle.stream_seal.specs.Feeding.{fed, fed_out, given_so_far}
use Rattle.stream_seal.specs.Receiving.{FeedsSealerPiece, SealerFinishes}
use Rattle.stream_seal.specs.Session.{SealingValue, beginning, sealing_finished, new_sealing_session}
use Rattle.stream_seal.specs.Stands.{Stands}
use Rattle.stream_seal.proofs.Feeding.{begin_fed, feeds, finishes}
use Rattle.c_session.specs.Sealing.{IsFrontOf, Seals, SealsEnd, SessionSealsPiece, whole_message, unsealed_as}
use Rattle.session_parts.specs.Waiting.{GathersFront}

-- a message begins: its header waits
pub seals_first : (m : EncMaterialsValue) (declared : Option ℕ) (size : ℕ) (id : List ℕ)
    (sealer : Sealer) (before header waiting : List ℕ) → 1 ≤ size
    → Stands sealer (new_sealing_session m declared size id) → header ≡ beginning (new_sealing_session m declared size id)
    → before ≡ [] → waiting ≡ before ++ header
    → Seals sealer waiting (new_sealing_session m declared size id) []
seals_first m declared size id sealer before header waiting wide stands is none put =
    let begun = begin_fed m declared size id wide in
    record {
      stands = stands;
      fed = begun.is_fed;
      all = put ∙ ap (λ (b : List ℕ). b ++ header) none ∙ is ∙ sym begun.given;
    }

-- bytes behind those that were given and those that wait
pub behind : (given old new total bytes : List ℕ) → given ++ old ≡ total → new ≡ old ++ bytes
    → given ++ new ≡ total ++ bytes
behind given old new total bytes all put =
    ap (λ (b : List ℕ). given ++ b) put ∙ sym (append_assoc given old bytes)
    ∙ ap (λ (b : List ℕ). b ++ bytes) all

-- a front of more bytes behind those that were given and those that wait
pub front_behind : (given old new total bytes more : List ℕ) → given ++ old ≡ total
    → GathersFront old new bytes → IsFrontOf (total ++ (bytes ++ more)) given new
front_behind given old new total bytes more all front = record {
  rest = front.rest ++ more;
  front =
      ap (λ (b : List ℕ). b ++ (front.rest ++ more))
      (behind given old new total front.front all front.gathered)
      ∙ append_assoc total front.front (front.rest ++ more)
      ∙ ap (λ (b : List ℕ). total ++ b) (sym (append_assoc front.front front.rest more)
      ∙ ap (λ (b : List ℕ). b ++ more) (sym front.cut));
}

module _ (E : Type 0) (old : Sealer) (before waiting : List ℕ) (v : SealingValue)
    (given : List ℕ) (seals : Seals old before v given) where
  -- a piece was fed
  pub piece_taken : (piece : List ℕ) (new : Sealer)
      → FeedsSealerPiece {T = Unit {0}} Gathers (λ a b bytes (error : E). GathersFront a b bytes) v piece
      before waiting new (Ok tt)
      → SessionSealsPiece {T = Unit {0}} v piece given new waiting (Ok tt)
  piece_taken piece new whole =
      let all = feeds v piece seals.fed in
      let on = all.whole whole.none in
      record {
        same = all.same;
        taken = on.0;
        seals = record {
          stands = whole.stands;
          fed = on.1;
          all = behind given before waiting (given_so_far v) (fed_out v piece) seals.all whole.taken
              ∙ sym all.given;
        };
      }

  -- it wasn't, for this reason
  pub piece_not : (piece : List ℕ) (new : Sealer) (error : FeedError SealError E)
      → FeedsSealerPiece {T = Unit {0}} Gathers (λ a b bytes (error : E). GathersFront a b bytes) v piece
      before waiting new (Err error)
      → SessionSealsPiece {T = Unit {0}} v piece given new waiting (Err (unsealed_as error))
  piece_not piece new (feeding.Machine (errors.Refusal refusal)) short = record {
    why = short.why;
    all = behind given before waiting (given_so_far v) (fed_out v piece) seals.all short.taken
        ∙ sym ((feeds v piece seals.fed).given);
  }
  piece_not piece new (feeding.Machine errors.Stopped) never = absurd never
  piece_not piece new (feeding.Machine errors.Memory) never = absurd never
  piece_not piece new (feeding.Receiver error) until =
      let whole : given_so_far v ++ (until.given ++ fed_out until.still.now until.rest)
      ≡ given_so_far (fed v piece) =
      ap (λ (b : List ℕ). given_so_far v ++ b) (sym until.still.way.out)
      ∙ sym ((feeds v piece seals.fed).given) in
      subst (λ (b : List ℕ). IsFrontOf b given waiting) whole
      (front_behind given before waiting (given_so_far v) until.given
      (fed_out until.still.now until.rest) seals.all until.failed)

  -- the message was finished
  pub end_given : SealerFinishes {T = Unit {0}} Gathers (λ a b bytes (error : E). GathersFront a b bytes)
      v before waiting (Ok tt)
      → SealsEnd {T = Unit {0}} v given waiting (Ok tt)
  end_given ends =
      behind given before waiting (given_so_far v) (sealing_finished v).out seals.all ends.1
      ∙ finishes v seals.fed

  pub end_not : (error : FeedError SealError E)
      → SealerFinishes {T = Unit {0}} Gathers (λ a b bytes (error : E). GathersFront a b bytes) v before
      waiting (Err error)
      → SealsEnd {T = Unit {0}} v given waiting (Err (unsealed_as error))
  end_not (feeding.Machine (errors.Refusal refusal)) never = absurd never
  end_not (feeding.Machine errors.Memory) never = absurd never
  end_not (feeding.Machine errors.Stopped) is =
      absurd (let no : true ≡ false = sym is.0 ∙ seals.fed.on in cc)
  end_not (feeding.Receiver error) ends =
      let whole : given_so_far v ++ ((sealing_finished v).out ++ []) ≡ whole_message v =
      ap (λ (b : List ℕ). given_so_far v ++ b) (append-nil (sealing_finished v).out)
      ∙ finishes v seals.fed in
      subst (λ (b : List ℕ). IsFrontOf b given waiting) whole
      (front_behind given before waiting (given_so_far v) (sealing_finished v).out [] seals.all ends.2)
