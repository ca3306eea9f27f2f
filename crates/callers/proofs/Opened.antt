-- An opener that is fed pieces, and what it releases, which is put into an output.
use Rattle.std.proofs.Common.{◌≡◌, ◌∙◌, ℕ, List, [], ◌++◌, Bool, true, false, Option, Some, None, Ok, Err, if◌then◌else◌, refl, sym, ap, subst}
use Rattle.std.specs.Io.KnownBytes.{Appends}
use Rattle.std.proofs.KnownBytes.{Appends-nil, Appends-trans}
use Rattle.esdk_base.specs.declared.source.Failed.{Failed}
use Rattle.esdk_base.specs.Receiver.{SinkFails, SinkTakes}
use Rattle.esdk_base.specs.Streams.{SinkState}
use Rattle.context_codec.specs.Context.{KeyValue}
use Rattle.header_codec.specs.declared.settings.Settings.{Settings}
use Rattle.keyring_trait.specs.Manager.{ManagerNow}
use Rattle.keyring_trait.specs.Unlocking.{Unlocking, Refuses, Unlocks}
use Rattle.body_format.specs.declared.verdicts.Verdict.{Verdict}
use Rattle.body_format.specs.declared.verdicts.Verdict.TheVariants.{Going, Whole, Faulty}
use Rattle.message_format.specs.Judgement.{Judged, content, judged}
use Rattle.esdk_fields.specs.declared.faults.Fault.TheVariants.{Truncated}
use Rattle.stream_open.specs.declared.errors.OpenError.TheVariants as opens
use Rattle.stream_open.specs.declared.session.Opener.{Opener}
use Rattle.stream_open.specs.Feeding.{GoesOn}
use Rattle.stream_open.specs.Receiving.{FeedsOpenerPiece}
use Rattle.stream_open.specs.Session.{OpeningValue, answer_kept, end_of_verdict, opening_finish_answer, opening_finished, judged_now, new_opening_session, whole_context, whole_in}
use Rattle.stream_open.specs.Stands.{Stands}
use Rattle.stream_open.proofs.AnyCut.{kept_none}
use Rattle.stream_open.proofs.Feeding.{ends_so, opened_goes}
use Rattle.callers.specs.Opening.{OpensWholeBytes}

-- These bytes were taken under these limits, no fault stands in them, and the content that they release was put.
pub record Opening (limits : Settings) (bytes : List ℕ) (before now : Option (List ℕ)) (opener : Opener) : Type 0 where
  pub session : OpeningValue
  pub stands : Stands opener session
  pub goes : GoesOn session
  pub settings : session.settings ≡ limits
  pub taken : session.taken ≡ bytes
  pub gained : Appends before now (content (judged_now session))

pub opening_first : (limits : Settings) (given : List KeyValue) (before : Option (List ℕ)) (opener : Opener) → Stands opener (new_opening_session limits given) → Opening limits [] before before opener
opening_first limits given before opener stands = record {
  session = new_opening_session limits given;
  stands = stands;
  goes = opened_goes limits given;
  settings = refl;
  taken = refl;
  gained = subst (λ (c : List ℕ). Appends before before c) ((kept_none limits given).released) (Appends-nil before);
}

-- a piece was fed
pub opening_more : {M R : Type 0} (now_at : M → ManagerNow) (state : R → SinkState) (now : ℕ) (limits : Settings) (bytes : List ℕ) (before : Option (List ℕ))
    (first last : M) (mid after : R) (old new : Opener) (piece : List ℕ) → (t : Opening limits bytes before (state mid).written old)
    → ((v : OpeningValue) → Stands old v → FeedsOpenerPiece {T = Unit {0}} now_at (λ a b bytes. SinkTakes (state a) (state b) bytes)
    (λ a b bytes (error : Failed). SinkFails (state a) (state b) bytes) now v piece first last mid after new (Ok tt)) → Opening limits (bytes ++ piece) before (state after).written new
opening_more now_at state now limits bytes before first last mid after old new piece t feeds =
    let whole = feeds t.session t.stands in
    let fed = whole.fed.feeds in
    record {
      session = whole.fed.session;
      stands = whole.fed.stands;
      goes = fed.goes;
      settings = fed.settings ∙ t.settings;
      taken = fed.taken ∙ ap (λ (b : List ℕ). b ++ piece) t.taken;
      gained = subst (λ (c : List ℕ). Appends before (state after).written c) (sym fed.content)
          (Appends-trans before (state mid).written (state after).written (content (judged_now t.session)) whole.given t.gained whole.taken.gained);
    }

-- ---- the end

whole_at : (verdict : Verdict) → end_of_verdict verdict ≡ Ok tt → verdict ≡ Whole
whole_at Going e = absurd (let no : Err (opens.Fault Truncated) ≡ Ok tt = e in cc)
whole_at Whole e = refl
whole_at (Faulty fault) e = absurd (let no : Err (opens.Fault fault) ≡ Ok tt = e in cc)

context_in : (b : Bool) (answer : Unlocking) (context : List KeyValue) → (if b then whole_in answer else None) ≡ Some context
    → (only : List KeyValue) × (key : List ℕ) × (answer ≡ Unlocks context only key)
context_in true (Unlocks whole only key) context e = (only, key, ap (λ (c : List KeyValue). unlocks c only key) (same e))
  where
    unlocks : List KeyValue → List KeyValue → List ℕ → Unlocking
    unlocks c only key = Unlocks c only key

    same : Some whole ≡ Some context → whole ≡ context
    same e = cc
context_in true (Refuses fault) context e = absurd (let no : None ≡ Some context = e in cc)
context_in false answer context e = absurd (let no : None ≡ Some context = e in cc)

has_context : (v : OpeningValue) (context : List KeyValue) → whole_context (opening_finished v) ≡ Some context
    → (only : List KeyValue) × (key : List ℕ) × (answer_kept v.answer ≡ Unlocks context only key)
unfolding opening_finished whole_context
has_context v context is = context_in (judged_now v).unlocked (answer_kept v.answer) context is

pub opens_whole : (settings : Settings) (bytes : List ℕ) (before now : Option (List ℕ)) (opener : Opener) (context : List KeyValue) → (t : Opening settings bytes before now opener)
    → opening_finish_answer t.session ≡ Ok tt → whole_context (opening_finished t.session) ≡ Some context → OpensWholeBytes settings bytes context before now
opens_whole settings bytes before now opener context t done is =
    let (only, key, answer) = has_context t.session context is in
    let same : judged_now t.session ≡ judged bytes settings (Unlocks context only key) = λ i. judged (t.taken i) (t.settings i) (answer i) in
    record {
      only = only;
      key = key;
      whole = sym (ap (λ (j : Judged). j.verdict) same) ∙ whole_at (judged_now t.session).verdict (sym (ends_so t.session t.goes) ∙ done);
      gained = subst (λ (c : List ℕ). Appends before now c) (ap content same) t.gained;
    }
