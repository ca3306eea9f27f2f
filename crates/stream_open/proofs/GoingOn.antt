-- A session that goes on stands in the header, or behind a header that is unlocked.
use Rattle.std.proofs.Common.{◌≡◌, ℕ, ◌+◌, ◌-◌, ◌*◌, Bool, true, false, Option, Some, None, List, [], length, if◌then◌else◌, refl, sym, ap, ◌∙◌, arith}
use Rattle.std.specs.Prelude.{◌==◌}
use Rattle.esdk_fields.specs.declared.contents.Content.{Content}
use Rattle.esdk_fields.specs.declared.contents.Content.TheVariants.{Single, Framed}
use Rattle.esdk_fields.specs.declared.faults.Fault.{Fault}
use Rattle.esdk_fields.specs.declared.faults.Fault.TheVariants.{TrailingBytes}
use Rattle.esdk_fields.specs.Place.{Place, start, past}
use Rattle.esdk_fields.specs.Reading.{Reading, Read, Refused, Wanting, value_of}
use Rattle.context_codec.specs.Context.{KeyValue}
use Rattle.header_codec.specs.Header.{HeaderValue}
use Rattle.header_codec.specs.Table.{HeaderFields, header}
use Rattle.keyring_trait.specs.Unlocking.{Unlocking, Refuses, Unlocks}
use Rattle.suite_table.specs.Keys.{derived}
use Rattle.frame_codec.specs.Unit.{Piece, More, Last, unit}
use Rattle.body_format.specs.declared.verdicts.Verdict.{Verdict}
use Rattle.body_format.specs.declared.verdicts.Verdict.TheVariants.{Going, Whole, Faulty}
use Rattle.body_format.specs.Rows.{JudgedBody, is_more, behind_last, verdict_of, first_other}
use Rattle.body_format.specs.Body.{judged_body}
use Rattle.body_format.proofs.RowLaws.{verdict_is}
use Rattle.body_format.proofs.Slots.{good_before, other_at}
use Rattle.message_format.specs.Judgement.{Judged, judged, header_of, lock_fault, locked}
use Rattle.message_format.proofs.Judging.{body_of, judged_read, judged_refused, judged_opened, judged_locked}
use Rattle.stream_open.specs.declared.body.Body.{Body}
use Rattle.stream_open.specs.declared.unlocked.Unlocked.{Unlocked}
use Rattle.stream_open.specs.declared.session.Opener.{Opener}
use Rattle.stream_open.specs.Body.{HoldsFrames, IsBehind, unit_width}
use Rattle.stream_open.specs.Feeding.{GoesOn}
use Rattle.stream_open.specs.Session.{OpeningValue, answer_kept, judged_now, is_faulty, framed}
use Rattle.stream_open.specs.Stands.{OpenerIsUnlocked, StandsAt, Stands}
use Rattle.stream_open.proofs.Behind.{row_of, unit_says}
use Rattle.stream_open.proofs.Standing.{judged_locked as judged_waiting, judged_unlocked}

-- ---- a body behind these bytes

-- memory for one unit
abbrev room : Content → ℕ
room Single = 0
room (Framed size) = size + 40

room_holds : (content : Content) → framed content ≡ true → HoldsFrames content (room content)
room_holds Single e = absurd cc
room_holds (Framed size) e = omega arith

-- a body with these fields
abbrev body_with : Content → Option ℕ → List ℕ → List ℕ → ℕ → Bool → List ℕ → Body
body_with content max_unit key id number ended held = record {
  key = key;
  message_id = id;
  content = content;
  max_unit = max_unit;
  number = number;
  ended = ended;
  unit = record { reserved = room content; held = held; out = [] };
}

pub behind_last_going : (left : List ℕ) → behind_last left ≡ Going → ⊥
behind_last_going left e = either (length left == 0) e
  where
    either : (b : Bool) → (if b then Whole else Faulty TrailingBytes) ≡ Going → ⊥
    either true e = cc
    either false e = cc

-- a unit that isn't whole
pub wanting_slot : (r : Reading Piece) → is_more r ≡ false → verdict_of r ≡ Going → r ≡ Wanting
wanting_slot (Read (More content) next) other going = absurd cc
wanting_slot (Read (Last content) next) other going = absurd (behind_last_going next.left going)
wanting_slot (Refused fault at) other going = absurd cc
wanting_slot Wanting other going = refl

-- the body that stands behind bytes which want more
abbrev standing_body : Content → Option ℕ → List ℕ → List ℕ → Place → Bool → Body
standing_body content max_unit key id p ended =
    let k : ℕ = first_other (unit_width content) (row_of content max_unit key id).row p in
    body_with content max_unit key id (k + 1) ended (past (k * unit_width content) p).left

stands_behind : (content : Content) (max_unit : Option ℕ) (key id : List ℕ) (p : Place) (ended : Bool) → (judged_body content max_unit key id p).verdict ≡ Going → IsBehind (standing_body content max_unit key id p ended) p
stands_behind content max_unit key id p ended going =
    let r = row_of content max_unit key id in
    let width : ℕ = unit_width content in
    let k : ℕ = first_other width r.row p in
    let here : Place = past (k * width) p in
    let number : k + 1 - 1 ≡ k = omega arith in
    let said : verdict_of (r.row k here) ≡ Going = sym (verdict_is width r.row p) ∙ sym (ap (λ (j : JudgedBody). j.verdict) (r.judges p)) ∙ going in
    let there : r.row k here ≡ Wanting = wanting_slot (r.row k here) (other_at width r.row p r.is_row) said in
    let waits : unit content max_unit key id (k + 1) here ≡ Wanting = r.reads k here ∙ there in
    let same = unit_says content max_unit key id (k + 1) here.left 0 here.at in
    record {
      some = omega arith;
      before = λ j h. ap is_more (r.reads j (past (j * width) p)) ∙ good_before width r.row p j (omega (arith, number));
      held = ap (λ (n : ℕ). (past (n * width) p).left) (sym number);
      wanting = wanting_slot (unit content max_unit key id (k + 1) (start here.left)) (same.more ∙ ap is_more waits) (same.verdict ∙ ap verdict_of waits);
    }

-- ---- where a session stands

pub data Standing (v : OpeningValue) : Type 0 where
  InHeader : header v.settings (start v.taken) ≡ Wanting → Standing v
  Behind : (u : Unlocked) → OpenerIsUnlocked u v → Standing v

faulty_not : (fault : Fault) → is_faulty (Faulty fault) ≡ false → ⊥
faulty_not fault e = cc

-- no fault is judged
unfaulted : (v : OpeningValue) (fault : Fault) → GoesOn v → judged_now v ≡ locked (Faulty fault) → ⊥
unfaulted v fault goes e = faulty_not fault (sym (ap (λ (j : Judged). is_faulty j.verdict) e) ∙ goes.sound)

-- the key of the body behind this header
abbrev pub derived_key : HeaderValue → List ℕ → List ℕ
derived_key h key = derived h.suite key h.message_id

-- the body that stands behind the header
abbrev body_behind : OpeningValue → HeaderValue → List ℕ → Place → Bool → Body
body_behind v h key p ended = standing_body h.content v.settings.max_unit (derived_key h key) h.message_id p ended

stands_by : (v : OpeningValue) (parts : HeaderFields) (p : Place) (whole only : List KeyValue) (key : List ℕ) (verdict : Verdict) → GoesOn v → header v.settings (start v.taken) ≡ Read parts p
    → v.answer ≡ Some (Unlocks whole only key) → lock_fault (header_of v.taken parts) only key ≡ None
    → (judged_body (header_of v.taken parts).content v.settings.max_unit (derived_key (header_of v.taken parts) key) (header_of v.taken parts).message_id p).verdict ≡ verdict → verdict ≡ (judged_now v).verdict → Standing v
stands_by v parts p whole only key (Faulty fault) goes reads answer opens is same = absurd (faulty_not fault (ap is_faulty same ∙ goes.sound))
stands_by v parts p whole only key Going goes reads answer opens is same =
    let h : HeaderValue = header_of v.taken parts in
    Behind (record { whole = whole; only = only; body = body_behind v h key p false })
    (record {
      parts = parts;
      place = p;
      key = key;
      reads = reads;
      answer = answer;
      opens = opens;
      body = record { derives = refl; id = refl; content = refl; max_unit = refl; reserved = λ e. room_holds h.content e };
      behind = record { verdict = is; going = λ s e. stands_behind h.content v.settings.max_unit (derived_key h key) h.message_id p false is };
    })
stands_by v parts p whole only key Whole goes reads answer opens is same =
    let h : HeaderValue = header_of v.taken parts in
    Behind (record { whole = whole; only = only; body = body_behind v h key p true })
    (record {
      parts = parts;
      place = p;
      key = key;
      reads = reads;
      answer = answer;
      opens = opens;
      body = record { derives = refl; id = refl; content = refl; max_unit = refl; reserved = λ e. room_holds h.content e };
      behind = record { verdict = is; going = λ s e. absurd (true_false e) };
    })
  where
    true_false : true ≡ false → ⊥
    true_false e = cc

stands_lock : (v : OpeningValue) (parts : HeaderFields) (p : Place) (whole only : List KeyValue) (key : List ℕ) (lock : Option Fault) → GoesOn v → header v.settings (start v.taken) ≡ Read parts p
    → v.answer ≡ Some (Unlocks whole only key) → lock_fault (header_of v.taken parts) only key ≡ lock → Standing v
stands_lock v parts p whole only key (Some fault) goes reads answer is =
    absurd (unfaulted v fault goes
    (ap (λ (o : Option Unlocking). judged v.taken v.settings (answer_kept o)) answer
    ∙ judged_read v.taken v.settings (Unlocks whole only key) parts p reads
    ∙ judged_locked v.settings (header_of v.taken parts) p whole only key fault is))
stands_lock v parts p whole only key None goes reads answer is =
    let h : HeaderValue = header_of v.taken parts in
    let now : judged_now v ≡ body_of v.settings h key p =
    ap (λ (o : Option Unlocking). judged v.taken v.settings (answer_kept o)) answer
    ∙ judged_read v.taken v.settings (Unlocks whole only key) parts p reads
    ∙ judged_opened v.settings h p whole only key is in
    stands_by v parts p whole only key (judged_body h.content v.settings.max_unit (derived_key h key) h.message_id p).verdict goes reads answer is refl (sym (ap (λ (j : Judged). j.verdict) now))

stands_answer : (v : OpeningValue) (parts : HeaderFields) (p : Place) (o : Option Unlocking) → GoesOn v → header v.settings (start v.taken) ≡ Read parts p → v.answer ≡ o → Standing v
stands_answer v parts p None goes reads answer = absurd (none_some (sym (goes.unheard answer) ∙ ap (λ (r : Reading HeaderFields). value_of r) reads))
  where
    none_some : None ≡ Some parts → ⊥
    none_some e = cc
stands_answer v parts p (Some (Refuses fault)) goes reads answer =
    absurd (unfaulted v fault goes (ap (λ (o : Option Unlocking). judged v.taken v.settings (answer_kept o)) answer ∙ judged_read v.taken v.settings (Refuses fault) parts p reads))
stands_answer v parts p (Some (Unlocks whole only key)) goes reads answer = stands_lock v parts p whole only key (lock_fault (header_of v.taken parts) only key) goes reads answer refl

stands_reading : (v : OpeningValue) (r : Reading HeaderFields) → GoesOn v → header v.settings (start v.taken) ≡ r → Standing v
stands_reading v (Read parts p) goes reads = stands_answer v parts p v.answer goes reads refl
stands_reading v (Refused fault at) goes reads = absurd (unfaulted v fault goes (judged_refused v.taken v.settings (answer_kept v.answer) fault at reads))
stands_reading v Wanting goes reads = InHeader reads

pub standing : (v : OpeningValue) → GoesOn v → Standing v
standing v goes = stands_reading v (header v.settings (start v.taken)) goes refl

-- ---- an opener that stands for a session shows that it goes on

ended_sound : (b : Bool) → is_faulty (if b then Whole else Going) ≡ false
ended_sound true = refl
ended_sound false = refl

goes_at : (opener : Opener) (v : OpeningValue) (o : Option Unlocked) → v.stopped ≡ false → StandsAt opener v o → GoesOn v
goes_at opener v None going at = record {
  going = going;
  sound = ap (λ (j : Judged). is_faulty j.verdict) (judged_waiting opener v at);
  unheard = λ e. ap (λ (r : Reading HeaderFields). value_of r) at.wanting;
}
goes_at opener v (Some u) going at = record {
  going = going;
  sound = ap (λ (j : Judged). is_faulty j.verdict) (judged_unlocked u v at) ∙ ap is_faulty at.behind.verdict ∙ ended_sound u.body.ended;
  unheard = λ e. absurd (some_none (sym at.answer ∙ e));
}
  where
    some_none : Some (Unlocks u.whole u.only at.key) ≡ None → ⊥
    some_none e = cc

pub stands_goes : (opener : Opener) (v : OpeningValue) → Stands opener v → v.stopped ≡ false → GoesOn v
stands_goes opener v stands going = goes_at opener v opener.unlocked going stands.at
