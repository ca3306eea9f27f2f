-- What an opener says of the session that it stands for.
use Rattle.std.proofs.Common.{◌≡◌, ℕ, List, [], Bool, true, false, not, ◌||◌, Option, Some, None, Ok, Err, if◌then◌else◌, refl, sym, ap, subst, ◌∙◌}
use Rattle.std.specs.Prelude.{option_map}
use Rattle.esdk_fields.specs.Place.{Place}
use Rattle.esdk_fields.specs.declared.faults.Fault.TheVariants.{Truncated}
use Rattle.header_codec.specs.Header.{HeaderValue}
use Rattle.keyring_trait.specs.Unlocking.{Unlocks}
use Rattle.suite_table.specs.Keys.{derived}
use Rattle.body_format.specs.declared.verdicts.Verdict.{Verdict}
use Rattle.body_format.specs.declared.verdicts.Verdict.TheVariants.{Going, Whole, Faulty}
use Rattle.body_format.specs.Body.{judged_body}
use Rattle.message_format.specs.Judgement.{Judged, judged, locked, opened_as, header_of}
use Rattle.message_format.proofs.Judging.{judged_wanting, judged_read, judged_opened}
use Rattle.stream_open.specs.declared.body.Body.{Body}
use Rattle.stream_open.specs.declared.unlocked.Unlocked.{Unlocked}
use Rattle.stream_open.specs.declared.session.Opener.{Opener}
use Rattle.stream_open.specs.declared.errors.OpenError.TheVariants as errors
use Rattle.stream_open.specs.Session.{OpeningValue, answer_kept, judged_now, is_end, end_of_verdict, opening_finish_answer, opening_finished, whole_in, only_in, whole_context, only_authenticated}
use Rattle.stream_open.specs.Stands.{quiet, IsBodyOf, OpenerIsUnlocked, OpenerIsLocked, StandsAt, Stands, opener_out}

-- ---- how the bytes taken are judged

pub body_same : (body : Body) (v : OpeningValue) (h : HeaderValue) (key : List ℕ) (p : Place) → IsBodyOf body v h key
    → judged_body h.content v.settings.max_unit (derived h.suite key h.message_id) h.message_id p ≡ judged_body body.content body.max_unit body.key body.message_id p
body_same body v h key p is = rw (is.content, is.max_unit, is.derives, is.id) refl

-- before the header is unlocked
pub judged_locked : (opener : Opener) (v : OpeningValue) → OpenerIsLocked opener v → judged_now v ≡ locked Going
judged_locked opener v at = judged_wanting v.taken v.settings (answer_kept v.answer) at.wanting

-- and then
pub judged_unlocked : (u : Unlocked) (v : OpeningValue) → (at : OpenerIsUnlocked u v) → judged_now v ≡ opened_as (judged_body u.body.content u.body.max_unit u.body.key u.body.message_id at.place)
judged_unlocked u v at =
    ap (λ (o : Option _). judged v.taken v.settings (answer_kept o)) at.answer
    ∙ judged_read v.taken v.settings (Unlocks u.whole u.only at.key) at.parts at.place at.reads
    ∙ judged_opened v.settings (header_of v.taken at.parts) at.place u.whole u.only at.key at.opens
    ∙ ap opened_as (body_same u.body v (header_of v.taken at.parts) at.key at.place at.body)

-- ---- what is told

-- whether a body is ended
abbrev pub ended_of : Option Unlocked → Bool
ended_of None = false
ended_of (Some u) = u.body.ended

end_if : (b : Bool) → is_end (if b then Whole else Going) ≡ b
end_if true = refl
end_if false = refl

whole_at : (opener : Opener) (v : OpeningValue) (o : Option Unlocked) → StandsAt opener v o → is_end (judged_now v).verdict ≡ ended_of o
whole_at opener v None at = ap (λ (j : Judged). is_end j.verdict) (judged_locked opener v at)
whole_at opener v (Some u) at = ap (λ (j : Judged). is_end j.verdict) (judged_unlocked u v at) ∙ ap is_end at.behind.verdict ∙ end_if u.body.ended

pub stands_as : (opener : Opener) (v : OpeningValue) (o : Option Unlocked) → opener.unlocked ≡ o → Stands opener v → StandsAt opener v o
stands_as opener v o e stands = subst (λ (o : Option Unlocked). StandsAt opener v o) e stands.at

pub whole_told : (opener : Opener) (v : OpeningValue) (o : Option Unlocked) → opener.unlocked ≡ o → Stands opener v → ended_of o ≡ is_end (judged_now v).verdict
whole_told opener v o e stands = sym (whole_at opener v o (stands_as opener v o e stands))

context_at : (opener : Opener) (v : OpeningValue) (o : Option Unlocked) → StandsAt opener v o → whole_context v ≡ option_map (λ u. u.whole) o
unfolding whole_context
context_at opener v None at = ap (λ (j : Judged). if j.unlocked then whole_in (answer_kept v.answer) else None) (judged_locked opener v at)
context_at opener v (Some u) at =
    ap (λ (j : Judged). if j.unlocked then whole_in (answer_kept v.answer) else None) (judged_unlocked u v at) ∙ ap (λ (o : Option _). whole_in (answer_kept o)) at.answer

pub context_told : (opener : Opener) (v : OpeningValue) (o : Option Unlocked) → opener.unlocked ≡ o → Stands opener v → option_map (λ u. u.whole) o ≡ whole_context v
context_told opener v o e stands = sym (context_at opener v o (stands_as opener v o e stands))

only_at : (opener : Opener) (v : OpeningValue) (o : Option Unlocked) → StandsAt opener v o → only_authenticated v ≡ option_map (λ u. u.only) o
unfolding only_authenticated
only_at opener v None at = ap (λ (j : Judged). if j.unlocked then only_in (answer_kept v.answer) else None) (judged_locked opener v at)
only_at opener v (Some u) at =
    ap (λ (j : Judged). if j.unlocked then only_in (answer_kept v.answer) else None) (judged_unlocked u v at) ∙ ap (λ (o : Option _). only_in (answer_kept o)) at.answer

pub only_told : (opener : Opener) (v : OpeningValue) (o : Option Unlocked) → opener.unlocked ≡ o → Stands opener v → option_map (λ u. u.only) o ≡ only_authenticated v
only_told opener v o e stands = sym (only_at opener v o (stands_as opener v o e stands))

-- ---- nothing is given any more

quiet_out : (o : Option Unlocked) → opener_out (quiet o) ≡ []
quiet_out None = refl
quiet_out (Some u) = refl

-- a session that gives nothing any more, and is stopped or goes on
quiet_at : (opener next : Opener) (v : OpeningValue) (o : Option Unlocked) (stopped : Bool) → next.reader ≡ opener.reader → (stopped ≡ false → v.stopped ≡ false) → StandsAt opener v o
    → StandsAt next (record v { stopped = stopped; out = [] }) (quiet o)
quiet_at opener next v None stopped same on at = record {
  reads = λ e. subst (λ r. Rattle.header_codec.specs.Stands.Stands r (record { settings = v.settings; taken = v.taken; stopped = false })) (sym same) (at.reads (on e));
  unheard = λ e. at.unheard (on e);
  wanting = at.wanting;
}
quiet_at opener next v (Some u) stopped same on at = record {
  parts = at.parts;
  place = at.place;
  key = at.key;
  reads = at.reads;
  answer = at.answer;
  opens = at.opens;
  body = record { derives = at.body.derives; id = at.body.id; content = at.body.content; max_unit = at.body.max_unit; reserved = at.body.reserved };
  behind = record {
    verdict = at.behind.verdict;
    going = λ s e. let g = at.behind.going (on s) e in record { some = g.some; before = g.before; held = g.held; wanting = g.wanting };
  };
}

pub stands_quiet : (opener next : Opener) (v : OpeningValue) (stopped : Bool) → Stands opener v → (stopped ≡ false → v.stopped ≡ false)
    → next.settings ≡ opener.settings → next.given ≡ opener.given → next.reader ≡ opener.reader → next.served ≡ opener.served → next.stopped ≡ stopped → next.unlocked ≡ quiet opener.unlocked
    → Stands next (record v { stopped = stopped; out = [] })
stands_quiet opener next v stopped stands on settings given reader served is unlocked = record {
  settings = settings ∙ stands.settings;
  given = given ∙ stands.given;
  served = served ∙ stands.served;
  stopped = is;
  out = ap opener_out unlocked ∙ quiet_out opener.unlocked;
  at = subst (λ (o : Option Unlocked). StandsAt next (record v { stopped = stopped; out = [] }) o) (sym unlocked) (quiet_at opener next v opener.unlocked stopped reader on stands.at);
}

-- ---- the end

pub finish_stopped : (v : OpeningValue) → v.stopped ≡ true → opening_finish_answer v ≡ Err errors.Stopped
unfolding opening_finish_answer
finish_stopped v e = rw e refl

pub finished_as : (v : OpeningValue) (b e : Bool) → v.stopped ≡ b → is_end (judged_now v).verdict ≡ e → opening_finished v ≡ record v { stopped = b || not e; out = [] }
unfolding opening_finished
finished_as v b e stopped end = ap (λ (x : Bool). value (record v { stopped = x || not (is_end (judged_now v).verdict); out = [] })) stopped ∙ ap (λ (x : Bool). value (record v { stopped = b || not x; out = [] })) end
  where
    value : OpeningValue → OpeningValue
    value w = w

ends_ok : (verdict : Verdict) → is_end verdict ≡ true → end_of_verdict verdict ≡ Ok tt
ends_ok Going e = absurd cc
ends_ok Whole e = refl
ends_ok (Faulty fault) e = absurd cc

pub finish_whole : (v : OpeningValue) → v.stopped ≡ false → is_end (judged_now v).verdict ≡ true → opening_finish_answer v ≡ Ok tt
unfolding opening_finish_answer
finish_whole v on whole = ap (λ (b : Bool). if b then Err errors.Stopped else end_of_verdict (judged_now v).verdict) on ∙ ends_ok (judged_now v).verdict whole

going_at : (opener : Opener) (v : OpeningValue) (o : Option Unlocked) → StandsAt opener v o → ended_of o ≡ false → end_of_verdict (judged_now v).verdict ≡ Err (errors.Fault Truncated)
going_at opener v None at e = ap (λ (j : Judged). end_of_verdict j.verdict) (judged_locked opener v at)
going_at opener v (Some u) at e =
    ap (λ (j : Judged). end_of_verdict j.verdict) (judged_unlocked u v at) ∙ ap end_of_verdict at.behind.verdict ∙ ap (λ (b : Bool). end_of_verdict (if b then Whole else Going)) e

pub finish_going : (opener : Opener) (v : OpeningValue) → Stands opener v → v.stopped ≡ false → is_end (judged_now v).verdict ≡ false → opening_finish_answer v ≡ Err (errors.Fault Truncated)
unfolding opening_finish_answer
finish_going opener v stands on going =
    ap (λ (b : Bool). if b then Err errors.Stopped else end_of_verdict (judged_now v).verdict) on
    ∙ going_at opener v opener.unlocked stands.at (whole_told opener v opener.unlocked refl stands ∙ going)
