-- Feeding a session: what one step comes to, and what all of them do.
use Rattle.std.proofs.Common.{◌≡◌, ℕ, ◌*◌, ◌≤◌, Bool, true, false, Option, Some, None, Ok, Err, List, [], ◌++◌, length, take, if◌then◌else◌, refl, sym, ap, ◌∙◌, arith, inl, inr, append_assoc}
use Rattle.std.specs.Prelude.{option_map}
use Rattle.std.specs.List.{concat}
use Rattle.std.proofs.lemmas.List.{append-nil}
use Rattle.esdk_fields.specs.declared.contents.Content.{Content}
use Rattle.esdk_fields.specs.declared.contents.Content.TheVariants.{Single, Framed}
use Rattle.esdk_fields.specs.declared.faults.Fault.{Fault}
use Rattle.esdk_fields.specs.Place.{Place, start, past}
use Rattle.esdk_fields.specs.Reading.{Reading, FieldReader, Read, Refused, Wanting, value_of}
use Rattle.context_codec.specs.Context.{KeyValue}
use Rattle.header_codec.specs.declared.settings.Settings.{Settings}
use Rattle.header_codec.specs.Header.{HeaderValue}
use Rattle.header_codec.specs.Table.{HeaderFields, header, head}
use Rattle.keyring_trait.specs.Saying.{Saying}
use Rattle.keyring_trait.specs.Unlocking.{Unlocking, Refuses, Unlocks}
use Rattle.frame_codec.specs.Unit.{Piece, More, Last, block_unit}
use Rattle.body_format.specs.declared.verdicts.Verdict.{Verdict}
use Rattle.body_format.specs.declared.verdicts.Verdict.TheVariants.{Going, Whole, Faulty}
use Rattle.body_format.specs.Rows.{JudgedBody, is_more, verdict_of, first_other}
use Rattle.body_format.specs.Body.{judged_body, judged_block}
use Rattle.body_format.proofs.BodyRows.{block_last, block_row}
use Rattle.body_format.proofs.Loop.{passed_none, wanting_end}
use Rattle.body_format.proofs.Places.{past_none}
use Rattle.body_format.proofs.RowLaws.{verdict_is}
use Rattle.body_format.proofs.Slots.{first_is}
use Rattle.message_format.specs.Judgement.{Judged, judged_header, opened_as, header_of, lock_fault, content}
use Rattle.message_format.proofs.Judging.{body_of, judged_read, judged_refused, judged_opened, judged_locked}
use Rattle.stream_open.specs.declared.errors.OpenError.TheVariants as errors
use Rattle.stream_open.specs.Asking.{Heard, Nothing, Found, Named, Failed, IsHeard}
use Rattle.stream_open.specs.Feeding.{GoesOn, FeedsToOpener, OpenerIsFed, AsksAbout, FeedsExactly, FeedsCompose, FeedsNothing, RunsOutBeforeContent}
use Rattle.stream_open.specs.Laws.{MayBeHeard, FirstStopIsAt}
use Rattle.stream_open.specs.Session.{OpeningValue, new_opening_session, answer_kept, judged_now, judged_with, header_asked, asked_header, keeping, reach, answer_at, opening_step_answer, opening_stepped, end_of_verdict, opening_finish_answer, is_framed, framed, MayRunOut}
use Rattle.stream_open.proofs.AnyCut.{IsKept, asked_by, kept_none, ok_kept}
use Rattle.stream_open.proofs.Ends.{ends_exactly}
use Rattle.stream_open.proofs.FoundFaults.{answered_on, finds_fault, nothing_yet}
use Rattle.stream_open.proofs.GoingOn.{Standing, InHeader, Behind, derived_key, standing, wanting_slot}
use Rattle.stream_open.proofs.Stepping.{unasked}
use Rattle.stream_open.proofs.Stopping.{unstopped_on}

-- ---- what is heard

-- memory didn't run out
pub sure : (manager : Saying) (moment : ℕ) (given : List KeyValue) (asked : Option HeaderValue) (short : Type 0) (heard : Heard) → (short → ⊥) → IsHeard manager moment given asked short heard → IsHeard manager moment given asked ⊥ heard
sure manager moment given asked short Nothing never (inl none) = inl none
sure manager moment given asked short Nothing never (inr is) = inr (never is)
sure manager moment given asked short (Found m) never is = is
sure manager moment given asked short (Named fault) never is = is
sure manager moment given asked short Failed never is = is

pub may_hear : (manager : Saying) (moment : ℕ) (given : List KeyValue) (asked : Option HeaderValue) (short : Type 0) (heard : Heard) → IsHeard manager moment given asked short heard → MayBeHeard asked short heard
may_hear manager moment given asked short Nothing is = is
may_hear manager moment given asked short (Found m) (h, same, finds) = (h, same)
may_hear manager moment given asked short (Named fault) (h, same, finds) = (h, same)
may_hear manager moment given asked short Failed (h, same, finds) = (h, same)

-- what may be heard where memory didn't run out may be heard
surely : (asked : Option HeaderValue) (short : Type 0) (heard : Heard) → MayBeHeard asked ⊥ heard → MayBeHeard asked short heard
surely asked short Nothing (inl none) = inl none
surely asked short Nothing (inr never) = absurd never
surely asked short (Found m) is = is
surely asked short (Named fault) is = is
surely asked short Failed is = is

-- ---- a step that uses bytes

same_settings : (v : OpeningValue) (heard : Heard) → (keeping v heard).settings ≡ v.settings
same_settings v Nothing = refl
same_settings v (Found m) = refl
same_settings v (Named fault) = refl
same_settings v Failed = refl

same_pairs : (v : OpeningValue) (heard : Heard) → (keeping v heard).given ≡ v.given
same_pairs v Nothing = refl
same_pairs v (Found m) = refl
same_pairs v (Named fault) = refl
same_pairs v Failed = refl

same_stopped : (v : OpeningValue) (heard : Heard) → (keeping v heard).stopped ≡ v.stopped
same_stopped v Nothing = refl
same_stopped v (Found m) = refl
same_stopped v (Named fault) = refl
same_stopped v Failed = refl

abbrev answer_in : Unlocking → Option Unlocking
answer_in a = Some a

some_none : (a : Unlocking) → answer_in a ≡ None → ⊥
some_none a e = cc

-- an answer that is kept stays
pub kept_answer : (v : OpeningValue) (piece : List ℕ) (short : Type 0) (heard : Heard) (a : Unlocking) → MayBeHeard (asked_header v piece) short heard → v.answer ≡ Some a → (keeping v heard).answer ≡ Some a
kept_answer v piece short Nothing a may is = is
kept_answer v piece short (Found m) a (h, asked) is = absurd (some_none a (sym is ∙ asked_by v.stopped v.answer v.settings (v.taken ++ piece) h asked))
kept_answer v piece short (Named fault) a (h, asked) is = absurd (some_none a (sym is ∙ asked_by v.stopped v.answer v.settings (v.taken ++ piece) h asked))
kept_answer v piece short Failed a may is = is

pub feeds_ok : (v : OpeningValue) (piece : List ℕ) (heard : Heard) (n : ℕ) → GoesOn v → MayBeHeard (asked_header v piece) ⊥ heard → opening_step_answer v piece heard ≡ Ok n
    → FeedsToOpener v (take n piece) (opening_stepped v piece heard (Ok n)) (opening_stepped v piece heard (Ok n)).out
feeds_ok v piece heard n goes may is =
    let before : IsKept v (content (judged_now v)) = record { released = refl; sound = goes.sound; unheard = goes.unheard } in
    let kept = ok_kept v (content (judged_now v)) piece heard n before (surely (asked_header v piece) (Ok n ≡ Err errors.Memory) heard may) is in
    record {
      settings = same_settings v heard;
      pairs = same_pairs v heard;
      taken = refl;
      content = sym kept.released;
      kept = λ a e. kept_answer v piece ⊥ heard a may e;
      goes = record { going = same_stopped v heard ∙ goes.going; sound = kept.sound; unheard = kept.unheard };
    }

is_fed : (v : OpeningValue) (piece : List ℕ) (heard : Heard) (n : ℕ) → GoesOn v → MayBeHeard (asked_header v piece) ⊥ heard → 1 ≤ length piece → opening_step_answer v piece heard ≡ Ok n → OpenerIsFed v piece heard n
is_fed v piece heard n goes may some is =
    let ends : FirstStopIsAt (keeping v heard) piece n = (ends_exactly v piece heard).used n is in
    record { some = ends.some some; within = ends.within; feeds = feeds_ok v piece heard n goes may is }

-- ---- a header that is asked about

asked_head : (bytes : List ℕ) (o : Option HeaderFields) (h : HeaderValue) → option_map (header_of bytes) o ≡ Some h → (parts : HeaderFields) × ((o ≡ Some parts) × (h ≡ header_of bytes parts))
asked_head bytes None h e = absurd cc
asked_head bytes (Some parts) h e = (parts, (refl, sym (same (header_of bytes parts) e)))
  where
    same : (g : HeaderValue) → Some g ≡ Some h → g ≡ h
    same g e = cc

-- what is asked of a session that goes on and keeps no answer
pub asked_now : (v : OpeningValue) (piece : List ℕ) → GoesOn v → v.answer ≡ None → asked_header v piece ≡ option_map (header_of (v.taken ++ piece)) (head v.settings (v.taken ++ piece))
asked_now v piece goes none =
    ap (λ (b : Bool). if b then None else header_asked v.answer v.settings (v.taken ++ piece)) goes.going
    ∙ ap (λ (o : Option Unlocking). header_asked o v.settings (v.taken ++ piece)) none

asks_by : (v : OpeningValue) (piece : List ℕ) (h : HeaderValue) → GoesOn v → asked_header v piece ≡ Some h → Standing v → AsksAbout v piece h
asks_by v piece h goes is (InHeader now) =
    let none = asked_by v.stopped v.answer v.settings (v.taken ++ piece) h is in
    let found = asked_head (v.taken ++ piece) (head v.settings (v.taken ++ piece)) h (sym (asked_now v piece goes none) ∙ is) in
    record { parts = found.0; whole = found.1.0; is = found.1.1; unheard = none; nothing = nothing_yet v now }
asks_by v piece h goes is (Behind u iu) = absurd (none_some (sym (unasked u v piece iu) ∙ is))
  where
    none_some : None ≡ Some h → ⊥
    none_some e = cc

pub asks_about : (v : OpeningValue) (piece : List ℕ) (h : HeaderValue) → GoesOn v → asked_header v piece ≡ Some h → AsksAbout v piece h
asks_about v piece h goes is = asks_by v piece h goes is (standing v goes)

-- ---- a keyring's fault

fault_not_keyring : (n : ℕ) (verdict : Verdict) → answer_at n verdict ≡ Err errors.KeyringFault → ⊥
fault_not_keyring n Going e = cc
fault_not_keyring n Whole e = cc
fault_not_keyring n (Faulty fault) e = cc

keyring_failed : (v : OpeningValue) (piece : List ℕ) (heard : Heard) → GoesOn v → MayBeHeard (asked_header v piece) ⊥ heard → opening_step_answer v piece heard ≡ Err errors.KeyringFault
    → (heard ≡ Failed) × ((h : HeaderValue) × (asked_header v piece ≡ Some h))
keyring_failed v piece Nothing goes may is = absurd (fault_not_keyring (reach v piece) (judged_with v piece (reach v piece)).verdict (sym (answered_on v piece Nothing goes.going) ∙ is))
keyring_failed v piece (Found m) goes may is =
    let w : OpeningValue = keeping v (Found m) in
    absurd (fault_not_keyring (reach w piece) (judged_with w piece (reach w piece)).verdict (sym (answered_on v piece (Found m) goes.going) ∙ is))
keyring_failed v piece (Named fault) goes may is =
    let w : OpeningValue = keeping v (Named fault) in
    absurd (fault_not_keyring (reach w piece) (judged_with w piece (reach w piece)).verdict (sym (answered_on v piece (Named fault) goes.going) ∙ is))
keyring_failed v piece Failed goes may is = (refl, may)

-- ---- the laws

pub feeds_exactly : FeedsExactly
feeds_exactly v piece heard goes may = record {
  used = λ n some is. is_fed v piece heard n goes may some is;
  fault = λ fault is. finds_fault v piece heard fault goes may is;
  failed = λ is. keyring_failed v piece heard goes may is;
  asked = λ h is. asks_about v piece h goes is;
  unstopped = λ is. unstopped_on v piece heard (sym (answered_on v piece heard goes.going) ∙ is);
}

pub feeds_compose : FeedsCompose
feeds_compose v w z first second given more one two = record {
  settings = two.settings ∙ one.settings;
  pairs = two.pairs ∙ one.pairs;
  taken = two.taken ∙ ap (λ (l : List ℕ). l ++ second) one.taken ∙ append_assoc v.taken first second;
  content = two.content ∙ ap (λ (l : List ℕ). l ++ more) one.content ∙ append_assoc (content (judged_now v)) given more;
  kept = λ a e. two.kept a (one.kept a e);
  goes = two.goes;
}

pub feeds_nothing : FeedsNothing
feeds_nothing v goes = record {
  settings = refl;
  pairs = refl;
  taken = sym (append-nil v.taken);
  content = sym (append-nil (content (judged_now v)));
  kept = λ a e. e;
  goes = goes;
}

-- a session begins so
pub opened_goes : (settings : Settings) (given : List KeyValue) → GoesOn (new_opening_session settings given)
opened_goes settings given = let kept = kept_none settings given in record { going = refl; sound = kept.sound; unheard = kept.unheard }

-- at its end it answers what is judged
pub ends_so : (v : OpeningValue) → GoesOn v → opening_finish_answer v ≡ end_of_verdict (judged_now v).verdict
unfolding opening_finish_answer
ends_so v goes = ap (λ (b : Bool). if b then Err errors.Stopped else end_of_verdict (judged_now v).verdict) goes.going

-- ---- want of memory

no_more : (max_unit : Option ℕ) (key id : List ℕ) (p : Place) (r : Reading Piece) → block_unit max_unit key id p ≡ r → is_more r ≡ false
no_more max_unit key id p (Read (More text) next) e = absurd (block_last max_unit key id p next text e)
no_more max_unit key id p (Read (Last text) next) e = refl
no_more max_unit key id p (Refused fault at) e = refl
no_more max_unit key id p Wanting e = refl

-- a single block that isn't whole releases nothing
block_holds : (max_unit : Option ℕ) (key id : List ℕ) (p : Place) → (judged_body Single max_unit key id p).verdict ≡ Going → (judged_body Single max_unit key id p).units ≡ []
unfolding judged_body judged_block
block_holds max_unit key id p going =
    let row : ℕ → FieldReader Piece = λ k. block_unit max_unit key id in
    let is_row = block_row max_unit key id in
    let other : is_more (row 0 p) ≡ false = no_more max_unit key id p (block_unit max_unit key id p) refl in
    let there : past (0 * 1) p ≡ p = past_none p in
    let first : first_other 1 row p ≡ 0 = first_is 1 row p 0 is_row (λ k h. absurd (omega arith)) (ap (λ (q : Place). is_more (row 0 q)) there ∙ other) in
    let said : verdict_of (row 0 p) ≡ Going =
    sym (ap (λ (q : Place). verdict_of (row 0 q)) there) ∙ sym (ap (λ (k : ℕ). verdict_of (row k (past (k * 1) p))) first) ∙ sym (verdict_is 1 row p) ∙ going in
    ap (λ (j : JudgedBody). j.units) (wanting_end 1 row p 0 [] p is_row (passed_none 1 row p) (wanting_slot (row 0 p) other said))

runs_out_body : (v : OpeningValue) (parts : HeaderFields) (p : Place) (key : List ℕ) (kind : Content) → MayRunOut v → header v.settings (start v.taken) ≡ Read parts p → judged_now v ≡ body_of v.settings (header_of v.taken parts) key p
    → parts.content ≡ kind → content (judged_now v) ≡ []
runs_out_body v parts p key (Framed size) may reads now is =
    let unframed : is_framed (head v.settings v.taken) ≡ false = may.unreserved (ap (λ (j : Judged). j.unlocked) now) in
    absurd (true_false (sym (ap (λ (r : Reading HeaderFields). is_framed (value_of r)) reads ∙ ap framed is) ∙ unframed))
  where
    true_false : true ≡ false → ⊥
    true_false e = cc
runs_out_body v parts p key Single may reads now is =
    let h : HeaderValue = header_of v.taken parts in
    let block_now : judged_now v ≡ opened_as (judged_body Single v.settings.max_unit (derived_key h key) h.message_id p) = now ∙ ap (λ (kind : Content). opened_as (judged_body kind v.settings.max_unit (derived_key h key) h.message_id p)) is in
    ap content block_now ∙ ap (λ (units : List (List ℕ)). concat units) (block_holds v.settings.max_unit (derived_key h key) h.message_id p (sym (ap (λ (j : Judged). j.verdict) block_now) ∙ may.unended))

runs_out_lock : (v : OpeningValue) (parts : HeaderFields) (p : Place) (whole only : List KeyValue) (key : List ℕ) (lock : Option Fault) → MayRunOut v → header v.settings (start v.taken) ≡ Read parts p
    → answer_kept v.answer ≡ Unlocks whole only key → lock_fault (header_of v.taken parts) only key ≡ lock → content (judged_now v) ≡ []
runs_out_lock v parts p whole only key (Some fault) may reads answer is =
    ap content
    (judged_read v.taken v.settings (answer_kept v.answer) parts p reads ∙ ap (judged_header v.settings (header_of v.taken parts) p) answer
    ∙ judged_locked v.settings (header_of v.taken parts) p whole only key fault is)
runs_out_lock v parts p whole only key None may reads answer is =
    runs_out_body v parts p key parts.content may reads
    (judged_read v.taken v.settings (answer_kept v.answer) parts p reads ∙ ap (judged_header v.settings (header_of v.taken parts) p) answer
    ∙ judged_opened v.settings (header_of v.taken parts) p whole only key is) refl

runs_out_answer : (v : OpeningValue) (parts : HeaderFields) (p : Place) (a : Unlocking) → MayRunOut v → header v.settings (start v.taken) ≡ Read parts p → answer_kept v.answer ≡ a → content (judged_now v) ≡ []
runs_out_answer v parts p (Refuses fault) may reads answer =
    ap content (judged_read v.taken v.settings (answer_kept v.answer) parts p reads ∙ ap (judged_header v.settings (header_of v.taken parts) p) answer)
runs_out_answer v parts p (Unlocks whole only key) may reads answer = runs_out_lock v parts p whole only key (lock_fault (header_of v.taken parts) only key) may reads answer refl

runs_out_reading : (v : OpeningValue) (r : Reading HeaderFields) → MayRunOut v → header v.settings (start v.taken) ≡ r → content (judged_now v) ≡ []
runs_out_reading v (Read parts p) may reads = runs_out_answer v parts p (answer_kept v.answer) may reads refl
runs_out_reading v (Refused fault at) may reads = ap content (judged_refused v.taken v.settings (answer_kept v.answer) fault at reads)
runs_out_reading v Wanting may reads = nothing_yet v reads

pub runs_out_before : RunsOutBeforeContent
runs_out_before v may = runs_out_reading v (header v.settings (start v.taken)) may refl
