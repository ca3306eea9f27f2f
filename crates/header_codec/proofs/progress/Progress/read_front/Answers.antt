use Rattle.std.proofs.Common.{◌≡◌, ℕ, List, ◌∙◌, sym, ap, subst, refl, arith}
use Rattle.std.proofs.lemmas.Result.{err_from_is_err_and}
use Rattle.esdk_fields.specs.Place.{Place}
use Rattle.esdk_fields.specs.Gives.{StopsAt}
use Rattle.header_codec.specs.Header.{Opening}
use Rattle.header_codec.specs.Parts.{raw_opening}
use Rattle.header_codec.specs.Progress.{front_opening}
use Rattle.header_codec.specs.Table.{opening}
use Rattle.header_codec.proofs.Sessions.{none_found}
use Rattle.header_codec.proofs.Progressing.{opening_stops, context_stops, front_read, first_within}
use Rattle.header_codec.proofs.progress.Progress.read_front.Goals as goal

pub cursor_at-cursor-requires : goal.cursor_at-cursor-requires
cursor_at-cursor-requires c = c.requires.resumes.inside

pub returns-in_err-opening-clause-stops : goal.returns-in_err-opening-clause-stops
returns-in_err-opening-clause-stops c =
    let p = err_from_is_err_and c.from_residual.result c.from_residual.ensures.1 in
    let none = none_found c.args.self.now.front c.if-is_some.ensures in
    rw (p.1, p.2) (opening_stops c.args.bytes.now c.args.self.now c.in_err-opening.field-0.0 none c.requires
    (subst (λ (q : Place). StopsAt c.in_err-opening.field-0.0 (opening c.args.self.now.settings.uncommitted q)) c.cursor_at-cursor.ensures.place c.in_err-opening.ensures.reads))

pub returns-in_err-field-clause-stops : goal.returns-in_err-field-clause-stops
returns-in_err-field-clause-stops c =
    let p = err_from_is_err_and c.from_residual-in_err-field.result c.from_residual-in_err-field.ensures.1 in
    let none = none_found c.args.self.now.front c.if-is_some.ensures in
    rw (p.1, p.2) (context_stops c.args.bytes.now c.args.self.now (raw_opening c.in_ok-opening.opening) c.opening_of.new.cursor c.in_err-field.field-0.0 none c.requires
    (ap (opening c.args.self.now.settings.uncommitted) (sym c.cursor_at-cursor.ensures.place) ∙ c.in_ok-opening.ensures.reads) c.in_err-field.ensures.reads)

pub returns-clause-holds : goal.returns-clause-holds
returns-clause-holds c =
    let none = none_found c.args.self.now.front c.if-is_some.ensures in
    let same : front_opening (record { suite = c.in_ok-opening.opening.suite; id = c.in_ok-from_slice.field-0; stored = c.in_ok-field.field.stored }) ≡ raw_opening c.in_ok-opening.opening =
    ap (λ (id : List ℕ). opening_with (record { suite = c.in_ok-opening.opening.suite; id = id })) c.in_ok-from_slice.ensures.items in
    front_read c.args.bytes.now c.args.self.now _ _ (raw_opening c.in_ok-opening.opening) c.opening_of.new.cursor c.context_field_of.new.cursor c.in_ok-field.field.bytes.now none c.requires
    (ap (opening c.args.self.now.settings.uncommitted) (sym c.cursor_at-cursor.ensures.place) ∙ c.in_ok-opening.ensures.reads) c.in_ok-field.ensures.reads c.in_ok-field.ensures.spells
    same (omega (arith, first_within c.args.bytes.now c.args.self.now none c.requires, c.in_ok-opening.ensures.end, c.in_ok-field.ensures.end, ap (λ (q : Place). q.at) c.cursor_at-cursor.ensures.place))
    refl refl refl c.offset-self.ensures
  where
    opening_with : Opening → Opening
    opening_with o = o
