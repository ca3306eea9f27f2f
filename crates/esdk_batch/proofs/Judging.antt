-- By which answer bytes are judged, of which a session keeps the manager's.
use Rattle.std.proofs.Common.{◌≡◌, ◌∙◌, ℕ, List, ◌++◌, Option, Some, None, take, inl, refl, sym, ap, subst}
use Rattle.std.specs.Prelude.{option_map}
use Rattle.esdk_fields.specs.declared.faults.Fault.TheVariants.{Truncated}
use Rattle.esdk_fields.specs.Place.{start}
use Rattle.esdk_fields.specs.Reading.{Reading, Read, Refused, Wanting, value_of}
use Rattle.context_codec.specs.Context.{KeyValue}
use Rattle.header_codec.specs.declared.settings.Settings.{Settings}
use Rattle.header_codec.specs.Header.{HeaderValue}
use Rattle.header_codec.specs.Table.{HeaderFields, header}
use Rattle.keyring_trait.specs.declared.manager_errors.ManagerError.TheVariants.{KeyringFault}
use Rattle.keyring_trait.specs.declared.served.Served.{Served}
use Rattle.keyring_trait.specs.Saying.{Admits, Saying}
use Rattle.keyring_trait.specs.Unlocking.{Unlocking, Refuses, Unlocks}
use Rattle.message_format.specs.Judgement.{content, header_of, judged}
use Rattle.message_format.proofs.Judging.{judged_refused, judged_wanting}
use Rattle.stream_open.specs.Asking.{Heard, Nothing, Found, Named, Failed, IsHeard, request_of}
use Rattle.stream_open.specs.Feeding.{KeepsAnswer, KeepsOn, GoesOn, header_in}
use Rattle.stream_open.specs.Session.{OpeningValue, answer_kept, asked_header, judged_now, keeping}
use Rattle.stream_open.proofs.FoundFaults.{nothing_heard}
use Rattle.stream_open.proofs.Feeding.{may_hear}
use Rattle.stream_open.proofs.Keeping.{keeps_answers}
use Rattle.esdk_base.specs.Shelf.{Files}
use Rattle.esdk_decrypt.specs.Decrypt.{Answering, AnswersReading, FailsReading, FailsTo, answers_at}
use Rattle.esdk_batch.specs.Answering.{HasAnswer, IsUnserved, KeepsServed, serving}
use Rattle.esdk_batch.specs.Ending.{Judges}
use Rattle.esdk_batch.specs.Files.{FileGains}

-- ---- what is heard

-- what is heard of the manager in a step is what it may say, with materials that are served as the
-- session keeps
pub hears_as : (asking manager : Saying) (moment : ℕ) (v : OpeningValue) (asked : Option HeaderValue)
    (short : Type 0) (heard : Heard) → Admits manager asking
    → IsHeard asking moment v.given asked short heard
    → IsHeard (serving manager (keeping v heard).served) moment v.given asked short heard
hears_as asking manager moment v asked short Nothing admits is = is
hears_as asking manager moment v asked short (Found m) admits (h, same, finds) =
    (h, same, (admits.finds (request_of v.given h) moment m finds, refl))
hears_as asking manager moment v asked short (Named fault) admits (h, same, none) =
    (h, same, admits.finds_none (request_of v.given h) _ none)
hears_as asking manager moment v asked short Failed admits (h, same, none) =
    (h, same, admits.finds_none (request_of v.given h) _ none)

-- ---- the answer that is kept

-- the answer with which bytes are judged, by the one that is kept: where no header is whole, it is the header's fault, or that bytes are missing
answer_by : Option Unlocking → Reading HeaderFields → Unlocking
answer_by kept (Read parts p) = answer_kept kept
answer_by kept (Refused fault at) = Refuses fault
answer_by kept Wanting = Refuses Truncated

pub answer_for : Settings → List ℕ → Option Unlocking → Unlocking
answer_for settings bytes kept = answer_by kept (header settings (start bytes))

judged_by : (settings : Settings) (b : List ℕ) (kept : Option Unlocking) (r : Reading HeaderFields) → header settings (start b) ≡ r → judged b settings (answer_by kept r) ≡ judged b settings (answer_kept kept)
unfolding answer_by
judged_by settings b kept (Read parts p) e = refl
judged_by settings b kept (Refused fault at) e = judged_refused b settings (Refuses fault) fault at e ∙ sym (judged_refused b settings (answer_kept kept) fault at e)
judged_by settings b kept Wanting e = judged_wanting b settings (Refuses Truncated) e ∙ sym (judged_wanting b settings (answer_kept kept) e)

-- with it the bytes are judged as with the one that is kept
pub judged_for : (settings : Settings) (b : List ℕ) (kept : Option Unlocking) → judged b settings (answer_for settings b kept) ≡ judged b settings (answer_kept kept)
unfolding answer_for
judged_for settings b kept = judged_by settings b kept (header settings (start b)) refl

answered_by : (manager : Saying) (moment : ℕ) (given : List KeyValue) (b : List ℕ)
    (kept : Option Unlocking) (r : Reading HeaderFields)
    → KeepsAnswer manager moment given (option_map (header_of b) (value_of r)) kept
    → AnswersReading (answers_at manager moment) given b r (answer_by kept r)
unfolding answer_by
answered_by manager moment given b None (Read parts p) keeps = absurd keeps
answered_by manager moment given b (Some (Unlocks whole only key)) (Read parts p) keeps = keeps
answered_by manager moment given b (Some (Refuses fault)) (Read parts p) keeps = keeps
answered_by manager moment given b kept (Refused fault at) keeps = refl
answered_by manager moment given b kept Wanting keeps = refl

unserved_by : (manager : Saying) (moment : ℕ) (given : List KeyValue) (b : List ℕ)
    (kept : Option Unlocking) (served : Option Served) (r : Reading HeaderFields)
    → KeepsAnswer manager moment given (option_map (header_of b) (value_of r)) kept
    → IsUnserved (answer_kept kept) served → IsUnserved (answer_by kept r) served
unfolding answer_by
unserved_by manager moment given b kept served (Read parts p) keeps unserved = unserved
unserved_by manager moment given b kept served (Refused fault at) keeps unserved =
    subst (λ (o : Option Unlocking). IsUnserved (answer_kept o) served) keeps unserved
unserved_by manager moment given b kept served Wanting keeps unserved =
    subst (λ (o : Option Unlocking). IsUnserved (answer_kept o) served) keeps unserved

-- This answer is kept to the header that is whole in these bytes, with materials that were served so.
pub record IsKept (manager : Saying) (settings : Settings) (given : List KeyValue) (b : List ℕ)
    (served : Option Served) (kept : Option Unlocking) : Type 0 where
  pub moment : ℕ
  pub keeps : KeepsAnswer (serving manager served) moment given (header_in settings b) kept
  pub unserved : IsUnserved (answer_kept kept) served

-- and it is the manager's, where that one is
pub answered_for : (manager : Saying) (settings : Settings) (given : List KeyValue) (b : List ℕ)
    (served : Option Served) (kept : Option Unlocking) → IsKept manager settings given b served kept
    → HasAnswer manager settings given b served (answer_for settings b kept)
unfolding answer_for
answered_for manager settings given b served kept is = record {
  moment = is.moment;
  answered = answered_by (serving manager served) is.moment given b kept
      (header settings (start b)) is.keeps;
  unserved = unserved_by (serving manager served) is.moment given b kept served
      (header settings (start b)) is.keeps is.unserved;
}

-- what a session keeps of these bytes is kept with these limits and pairs
pub kept_with : (manager : Saying) (v : OpeningValue) (limits : Settings) (pairs : List KeyValue)
    (b : List ℕ) → v.settings ≡ limits → v.given ≡ pairs → KeepsServed manager v b
    → IsKept manager limits pairs b v.served v.answer
kept_with manager v limits pairs b same_limits same_pairs kept =
    subst (λ (x : Settings). IsKept manager x pairs b v.served v.answer) same_limits
    (subst (λ (x : List KeyValue). IsKept manager v.settings x b v.served v.answer) same_pairs
    (record { moment = kept.moment; keeps = kept.keeps; unserved = kept.unserved }))

-- ---- a step

-- where an answer that refuses is heard, none was kept, and nothing was served
unserved_on : (asking : Saying) (moment : ℕ) (v : OpeningValue) (piece : List ℕ) (heard : Heard)
    → ((h : HeaderValue) → asked_header v piece ≡ Some h → v.answer ≡ None)
    → IsHeard asking moment v.given (asked_header v piece) ⊥ heard
    → IsUnserved (answer_kept v.answer) v.served
    → IsUnserved (answer_kept (keeping v heard).answer) (keeping v heard).served
unserved_on asking moment v piece Nothing unheard hears was = was
unserved_on asking moment v piece (Found m) unheard hears was = tt
unserved_on asking moment v piece (Named fault) unheard (h, asked, none) was =
    subst (λ (o : Option Unlocking). IsUnserved (answer_kept o) v.served) (unheard h asked) was
unserved_on asking moment v piece Failed unheard hears was = was

module _ (manager : Saying) (moment : ℕ) (v : OpeningValue) (piece : List ℕ) (heard : Heard)
    (goes : GoesOn v)
    (hears : IsHeard (serving manager (keeping v heard).served) moment v.given (asked_header v piece) ⊥
    heard) (was : KeepsServed manager v v.taken) where
  -- where nothing is asked about, what was kept is kept of more bytes
  pub served_still : (b : List ℕ) → asked_header v piece ≡ None
      → (KeepsOn (serving manager v.served) was.moment v piece Nothing
      → KeepsAnswer (serving manager v.served) was.moment v.given (header_in v.settings b) v.answer)
      → KeepsServed manager (keeping v heard) b
  served_still b none keeps =
      let still : KeepsServed manager v b = record {
        moment = was.moment;
        keeps = keeps (keeps_answers (serving manager v.served) was.moment v piece Nothing goes
            (inl none));
        unserved = was.unserved;
      } in
      let nothing : heard ≡ Nothing = nothing_heard (asked_header v piece) heard none
      (may_hear (serving manager (keeping v heard).served) moment v.given (asked_header v piece) ⊥ heard
      hears) in
      subst (λ (o : Heard). KeepsServed manager (keeping v o) b) (sym nothing) still

  -- where a header is, what was heard of it is kept
  pub served_now : (b : List ℕ) → ((h : HeaderValue) → asked_header v piece ≡ Some h → v.answer ≡ None)
      → KeepsAnswer (serving manager (keeping v heard).served) moment (keeping v heard).given
      (header_in (keeping v heard).settings b) (keeping v heard).answer
      → KeepsServed manager (keeping v heard) b
  served_now b unheard keeps = record {
    moment = moment;
    keeps = keeps;
    unserved = unserved_on (serving manager (keeping v heard).served) moment v piece heard unheard
        hears was.unserved;
  }

-- ---- a failure

fails_at : (manager : Answering) (given : List KeyValue) (b : List ℕ) (r : Reading HeaderFields) (parts : HeaderFields) → value_of r ≡ Some parts
    → manager.finds_none (request_of given (header_of b parts)) KeyringFault → FailsReading manager given b r
fails_at manager given b (Read other p) parts e failed = subst (λ (h : HeaderFields). manager.finds_none (request_of given (header_of b h)) KeyringFault) (sym (same e)) failed
  where
    same : Some other ≡ Some parts → other ≡ parts
    same e = cc
fails_at manager given b (Refused fault at) parts e failed = absurd (let no : None ≡ Some parts = e in cc)
fails_at manager given b Wanting parts e failed = absurd (let no : None ≡ Some parts = e in cc)

-- the manager failed about the header that is whole in these bytes
pub fails_for : (manager : Answering) (settings : Settings) (given : List KeyValue) (b : List ℕ) (h : HeaderValue) (parts : HeaderFields) → value_of (header settings (start b)) ≡ Some parts → h ≡ header_of b parts
    → manager.finds_none (request_of given h) KeyringFault → FailsTo manager settings given b
fails_for manager settings given b h parts whole is failed =
    fails_at manager given b (header settings (start b)) parts whole (subst (λ (g : HeaderValue). manager.finds_none (request_of given g) KeyringFault) is failed)

-- ---- what is released

-- These bytes were taken with a front of the piece, and this answer to them is kept, with materials
-- that were served so. They release so much more than was before, of which the file gained so many
-- bytes.
pub record Releases (manager : Saying) (s : OpeningValue) (piece to : List ℕ)
    (files after : Option Files) (bytes : List ℕ) (served : Option Served) (kept : Option Unlocking)
    (used count : ℕ) (released : List ℕ) : Type 0 where
  pub bytes_are : bytes ≡ s.taken ++ take used piece
  pub keeps : KeepsServed manager s s.taken → IsKept manager s.settings s.given bytes served kept
  pub more : content (judged bytes s.settings (answer_kept kept)) ≡ content (judged_now s) ++ released
  pub gains : FileGains files after to (take count released)

-- how the bytes are judged then
pub same_judged : (s : OpeningValue) (piece bytes : List ℕ) (kept : Option Unlocking) (used : ℕ) → bytes ≡ s.taken ++ take used piece
    → judged (s.taken ++ take used piece) s.settings (answer_for s.settings bytes kept) ≡ judged bytes s.settings (answer_kept kept)
same_judged s piece bytes kept used is = ap (λ (b : List ℕ). judged b s.settings (answer_for s.settings bytes kept)) (sym is) ∙ judged_for s.settings bytes kept

abbrev pub judges_so : (manager : Saying) (s : OpeningValue) (piece to : List ℕ)
    (files after : Option Files) (bytes : List ℕ) (served : Option Served) (kept : Option Unlocking)
    (used count : ℕ) (released : List ℕ)
    → Releases manager s piece to files after bytes served kept used count released
    → Judges manager s piece to files after served (answer_for s.settings bytes kept) used count
judges_so manager s piece to files after bytes served kept used count released r = record {
  released = released;
  answered = λ keeps.
      subst (λ (b : List ℕ). HasAnswer manager s.settings s.given b served
      (answer_for s.settings bytes kept)) r.bytes_are
      (answered_for manager s.settings s.given bytes served kept (r.keeps keeps));
  content = ap content (same_judged s piece bytes kept used r.bytes_are) ∙ r.more;
  gains = r.gains;
}
