-- The session that seals: how it begins, what a step makes of it, and its end.
use Rattle.std.proofs.Common.{◌≡◌, ◌∙◌, ℕ, ◌+◌, ◌≤◌, List, [], ◌++◌, length, Option, Some, None, Result, Ok, Err, refl, sym, ap, subst, arith, length-append}
use Rattle.std.specs.Prelude.{option_map}
use Rattle.std.proofs.lemmas.Map.{update_here}
use Rattle.esdk_base.specs.declared.receiver.FeedError.{FeedError}
use Rattle.esdk_base.specs.declared.receiver.FeedError.TheVariants as feeding
use Rattle.esdk_base.specs.Receiver.{Gathers}
use Rattle.keyring_trait.specs.Manager.{ManagerNow}
use Rattle.keyring_trait.specs.Wrapping.{WrapKeyValue}
use Rattle.stream_seal.specs.Session as seal
use Rattle.stream_seal.specs.Session.{SealingValue, beginning}
use Rattle.stream_seal.specs.Start.{message_of, most_text}
use Rattle.stream_seal.specs.Feeding.{fed, fed_out, feed_refusal, most_of, most_taken}
use Rattle.stream_seal.specs.Laws.{IsSameMessage}
use Rattle.stream_seal.proofs.Feeding.{begin_fed, feeds, finishes, is_feeding, refuses_piece}
use Rattle.desk_core.specs.declared.errors.DeskError.{DeskError}
use Rattle.desk_core.specs.declared.errors.DeskError.TheVariants as errors
use Rattle.desk_core.specs.declared.live_sessions.Desk.{Desk}
use Rattle.desk_core.specs.Desk.{open_lines}
use Rattle.desk_core.specs.Receiving.{FeedsInto, FeedsSealing, FeedsSession, FinishesSealing, FinishesSession, handed_over}
use Rattle.desk_core.specs.Session.{SessionValue, Sealing, sealed_header}
use Rattle.desk_core.specs.Stands.{Stands, manager_of}
use Rattle.esdk_gen.specs.Generator.{message_with}
use Rattle.esdk_gen.specs.Sealing.{IsIdle, IsNewSession, GeneratorIsSealing, SealsText, gen_session}

-- ---- a session that begins

begins_with : (s : SealingValue) (live : Option SessionValue) (header : List ℕ) → live ≡ Some (Sealing s) → option_map sealed_header live ≡ Some header → header ≡ beginning s
begins_with s live header is header_is = let here : Some (beginning s) ≡ Some header = sym (ap (option_map sealed_header) is) ∙ header_is in cc

pub seals_first : (desk : Desk WrapKeyValue) (key random : List ℕ) (id : ℕ) (header : List ℕ) → (new : IsNewSession desk key random id) → option_map sealed_header (new.value.live id) ≡ Some header
    → GeneratorIsSealing desk key id (gen_session key random) header
seals_first desk key random id header new is =
    let s : SealingValue = gen_session key random in
    let begun = begin_fed s.materials None 4096 s.id (omega arith) in
    record {
      at = new;
      is_fed = begun.is_fed;
      undeclared = refl;
      size = refl;
      written = begins_with s (new.value.live id) header new.live is ∙ sym begun.given;
    }

-- ---- a piece

room_of : (s : SealingValue) (count : ℕ) → s.declared ≡ None → s.size ≡ 4096 → count ≤ 67108864 → count ≤ most_taken s
room_of s count undeclared size few =
    let most : most_taken s ≡ most_text 4096 = ap (λ (o : Option ℕ). most_of o (most_text s.size)) undeclared ∙ ap most_text size in
    omega (arith, most, few)

module _ {E : Type 0} (state : WrapKeyValue → ManagerNow) (fails : List ℕ → List ℕ → List ℕ → E → Type 0) (desk next : Desk WrapKeyValue) (key : List ℕ) (id : ℕ) (s : SealingValue)
    (piece message after : List ℕ) (sealing : GeneratorIsSealing desk key id s message) (few : length s.taken + length piece ≤ 67108864) where
  -- the piece was fed to this session
  fed_as : (result : Result (Unit {0}) (FeedError DeskError E)) → (f : FeedsInto state Gathers fails sealing.at.value id 0 piece desk next message after result)
      → FeedsSession state Gathers fails 0 (Some (Sealing s)) piece (manager_of desk) (manager_of next) message after f.heard f.left result
  fed_as result f =
      subst (λ (o : Option SessionValue). FeedsSession state Gathers fails 0 o piece (manager_of desk) (manager_of next) message after f.heard f.left result) sealing.at.live f.feeds

  room : feed_refusal s piece ≡ None
  room = (refuses_piece s piece).none.1 (room_of s (length (s.taken ++ piece)) sealing.undeclared sealing.size (omega (arith, length-append s.taken piece, few)))

  pub piece_fed : FeedsInto {T = Unit {0}} state Gathers fails sealing.at.value id 0 piece desk next message after (Ok tt) → SealsText next key id s (s.taken ++ piece) after
  piece_fed f =
      let session = fed_as (Ok tt) f in
      let whole = session.3 (is_feeding s piece sealing.is_fed) in
      let law = feeds s piece sealing.is_fed in
      let all = law.whole room in
      record {
        session = fed s piece;
        sealing = record {
          at = record {
            value = handed_over sealing.at.value id (open_lines id 0 f.heard) f.left;
            stands = f.stands;
            drawn = sealing.at.drawn;
            ring = session.0 ∙ sealing.at.ring;
            live = update_here sealing.at.value.live id f.left ∙ whole.2;
          };
          is_fed = all.1;
          undeclared = law.same.declared ∙ sealing.undeclared;
          size = law.same.size ∙ sealing.size;
          written = whole.1.taken ∙ ap (λ (b : List ℕ). b ++ fed_out s piece) sealing.written ∙ sym law.given;
        };
        same = law.same;
        taken = all.0;
      }

  refused_never : (error : DeskError) (left : Option SessionValue) → FeedsSealing {T = Unit {0}} Gathers fails s piece message after left (Err (feeding.Machine error)) → ⊥
  refused_never (errors.Refusal refusal) left fed = let no : None ≡ Some refusal = sym room ∙ fed.1.why in cc
  refused_never errors.NotLive left fed = fed
  refused_never (errors.Fault fault) left fed = fed
  refused_never errors.KeyringFault left fed = fed
  refused_never errors.Memory left fed = fed

  -- there is room for it
  pub never_refused : (error : FeedError DeskError E) → FeedsInto {T = Unit {0}} state Gathers fails sealing.at.value id 0 piece desk next message after (Err error) → (machine : DeskError)
      → error ≡ feeding.Machine machine → ⊥
  never_refused error fed machine is =
      let f = subst (λ (e : FeedError DeskError E). FeedsInto {T = Unit {0}} state Gathers fails sealing.at.value id 0 piece desk next message after (Err e)) is fed in
      let session = fed_as (Err (feeding.Machine machine)) f in refused_never machine f.left (session.3 (is_feeding s piece sealing.is_fed))

-- ---- one piece behind another

same_twice : (s t u : SealingValue) → IsSameMessage s t → IsSameMessage t u → IsSameMessage s u
same_twice s t u a b = record { materials = b.materials ∙ a.materials; declared = b.declared ∙ a.declared; size = b.size ∙ a.size; id = b.id ∙ a.id }

pub text_none : (desk : Desk WrapKeyValue) (key : List ℕ) (id : ℕ) (s : SealingValue) (text message : List ℕ) → GeneratorIsSealing desk key id s message → s.taken ≡ text → SealsText desk key id s text message
text_none desk key id s text message sealing none = record {
  session = s;
  sealing = sealing;
  same = record { materials = refl; declared = refl; size = refl; id = refl };
  taken = none;
}

pub text_more : (next : Desk WrapKeyValue) (key : List ℕ) (id : ℕ) (s : SealingValue) (text piece after : List ℕ) (t : SealingValue) → IsSameMessage s t → t.taken ≡ text
    → SealsText next key id t (t.taken ++ piece) after → SealsText next key id s (text ++ piece) after
text_more next key id s text piece after t same taken more = record {
  session = more.session;
  sealing = more.sealing;
  same = same_twice s t more.session same more.same;
  taken = more.taken ∙ ap (λ (b : List ℕ). b ++ piece) taken;
}

-- ---- the end

module _ {E : Type 0} (fails : List ℕ → List ℕ → List ℕ → E → Type 0) (desk : Desk WrapKeyValue) (key : List ℕ) (id : ℕ) (s : SealingValue) (message after : List ℕ) (sealing : GeneratorIsSealing desk key id s message) where
  ended_as : (result : Result (Unit {0}) (FeedError DeskError E)) → FinishesSession Gathers fails (sealing.at.value.live id) message after result
      → FinishesSealing Gathers fails s message after result
  ended_as result ends = subst (λ (o : Option SessionValue). FinishesSession Gathers fails o message after result) sealing.at.live ends

  pub end_gives : FinishesSession {T = Unit {0}} Gathers fails (sealing.at.value.live id) message after (Ok tt) → after ≡ message_of s.materials s.size s.id s.taken
  end_gives ends = ended_as (Ok tt) ends ∙ ap (λ (b : List ℕ). b ++ (seal.sealing_finished s).out) sealing.written ∙ finishes s sealing.is_fed

  pub end_never : (error : FeedError DeskError E) → FinishesSession {T = Unit {0}} Gathers fails (sealing.at.value.live id) message after (Err error) → (machine : DeskError)
      → error ≡ feeding.Machine machine → ⊥
  end_never error ends machine is =
      subst (λ (e : FeedError DeskError E). FinishesSealing {T = Unit {0}} Gathers fails s message after (Err e)) is (ended_as (Err error) ends)

pub end_idle : (desk next : Desk WrapKeyValue) (key : List ℕ) (id : ℕ) (s : SealingValue) (message : List ℕ) → (sealing : GeneratorIsSealing desk key id s message)
    → Stands next (handed_over sealing.at.value id [] None) → manager_of next ≡ manager_of desk → IsIdle next key id
end_idle desk next key id s message sealing stands same = record {
  value = handed_over sealing.at.value id [] None;
  stands = stands;
  drawn = sealing.at.drawn;
  ring = same ∙ sealing.at.ring;
}

-- what is given of the session that began with these random bytes, and took this text
pub message_then : (key random text : List ℕ) (t : SealingValue) → IsSameMessage (gen_session key random) t → t.taken ≡ text → message_of t.materials t.size t.id t.taken ≡ message_with key random text
unfolding message_with
message_then key random text t same taken = λ i. message_of (same.materials i) (same.size i) (same.id i) (taken i)
