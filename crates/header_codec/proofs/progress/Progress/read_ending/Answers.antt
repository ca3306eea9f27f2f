use Rattle.std.proofs.Common.{◌≡◌, ℕ, ◌≤◌, List, length, take, ◌∙◌, sym, ap, subst, refl}
use Rattle.std.proofs.lemmas.Result.{err_from_is_err_and}
use Rattle.esdk_fields.specs.Bytes.{AreBytes}
use Rattle.esdk_fields.specs.Gives.{StopsAt}
use Rattle.esdk_fields.specs.Place.{Place}
use Rattle.header_codec.specs.declared.progress.Front.{Front}
use Rattle.header_codec.specs.Header.{HeaderValue, IsKept}
use Rattle.header_codec.specs.Parts.{ending_fields}
use Rattle.header_codec.specs.Rest.{ending, place_past}
use Rattle.header_codec.specs.Table.{BeginsWith}
use Rattle.header_codec.proofs.Whole.{kept, lock_kept}
use Rattle.header_codec.proofs.Progressing.{ending_stops, ending_read, found_whole, some_same}
use Rattle.header_codec.proofs.progress.Progress.read_ending.Goals as goal

pub cursor_at-cursor-requires : goal.cursor_at-cursor-requires
cursor_at-cursor-requires c = subst (λ (b : List ℕ). c.args.self.now.at ≤ length b) (sym c.deref.ensures.value) c.requires.holds.resumes.inside

pub returns-in_err-ending-clause-finds : goal.returns-in_err-ending-clause-finds
returns-in_err-ending-clause-finds c =
    let p = err_from_is_err_and c.from_residual.result c.from_residual.ensures.1 in
    let place : c.cursor_at-cursor.result ≡ place_past c.args.self.now.at c.args.bytes.now.items = c.cursor_at-cursor.ensures.place ∙ ap (place_past c.args.self.now.at) c.deref.ensures.value in
    rw (p.1, p.2) (ending_stops c.args.bytes.now.items c.args.self.now c.in-Some.front c.in_err-ending.field-0.0 c.in-Some.is c.requires.left c.requires.holds
    (subst (λ (q : Place). StopsAt c.in_err-ending.field-0.0 (ending c.in-Some.front.suite c.args.self.now.settings.max_unit q)) place c.in_err-ending.ensures))

-- the header that is made
abbrev header_made : goal.After-replace → HeaderValue
header_made c = record {
  suite = c.in-Some-take.front.suite;
  message_id = c.in-Some-take.front.id.items;
  stored = c.in-Some-take.front.stored;
  entries = c.replace.result.items;
  content = c.in_ok-ending.ending.content;
  commitment = c.in_ok-ending.ending.commitment.items;
  raw = c.truncate.new.self.items;
  iv = c.in_ok-ending.ending.iv;
  tag = c.in_ok-ending.ending.tag;
}

-- the bytes begin with it
begins : (c : goal.After-replace) → (left : List ℕ) × BeginsWith c.args.self.now.settings c.args.bytes.now.items (header_made c) (record { at = c.offset-end.result; left = left })
begins c =
    let is = sym c.take.ensures.value ∙ c.in-Some-take.is in
    let same : c.in-Some.front ≡ c.in-Some-take.front = some_same c.in-Some.front c.in-Some-take.front (sym c.in-Some.is ∙ is) in
    let place : c.cursor_at-cursor.result ≡ place_past c.args.self.now.at c.args.bytes.now.items = c.cursor_at-cursor.ensures.place ∙ ap (place_past c.args.self.now.at) c.deref.ensures.value in
    let r = ending_read c.args.bytes.now.items c.args.self.now c.in-Some-take.front (ending_fields c.in_ok-ending.ending) c.ending_of.new.cursor is c.requires.left c.requires.holds
    (ap (λ (f : Front). ending f.suite c.args.self.now.settings.max_unit (place_past c.args.self.now.at c.args.bytes.now.items)) (sym same) ∙ ap (ending c.in-Some.front.suite c.args.self.now.settings.max_unit) (sym place) ∙ c.in_ok-ending.ensures) in
    found_whole c.args.bytes.now.items c.args.self.now c.in-Some-take.front (ending_fields c.in_ok-ending.ending) c.ending_of.new.cursor c.offset-end.result _ _ _ _ r c.offset-end.ensures
    (ap (λ v. v.items) c.replace.ensures.value) refl (c.truncate.ensures.items ∙ ap (λ v. take c.in_ok-ending.ending.size v.items) c.replace-text.ensures.value) refl

keeps : (c : goal.After-replace) → IsKept (header_made c)
keeps c =
    kept c.args.self.now.settings c.args.bytes.now.items (header_made c) _ (subst AreBytes c.deref.ensures.value c.cursor_at-cursor.ensures.bytes) (begins c).1

pub invariant_of-lock : goal.invariant_of-lock
invariant_of-lock c = lock_kept (header_made c) (keeps c)

pub invariant_of-header : goal.invariant_of-header
invariant_of-header c = record { kept = keeps c; bare = refl }

pub returns-clause-finds : goal.returns-clause-finds
returns-clause-finds c = begins c
