use Rattle.std.proofs.Common.{◌∙◌, sym, ap, subst, refl, arith}
use Rattle.std.proofs.lemmas.Result.{err_from_is_err_and}
use Rattle.esdk_fields.specs.Place.{Place}
use Rattle.esdk_fields.specs.Gives.{StopsAt}
use Rattle.header_codec.specs.Rest.{keys_count}
use Rattle.header_codec.proofs.Sessions.{none_found}
use Rattle.header_codec.proofs.Progressing.{count_stops, count_read}
use Rattle.header_codec.proofs.progress.Progress.read_count.Goals as goal

pub cursor_at-cursor-requires : goal.cursor_at-cursor-requires
cursor_at-cursor-requires c = c.requires.holds.resumes.inside

pub returns-in_err-count-clause-stops : goal.returns-in_err-count-clause-stops
returns-in_err-count-clause-stops c =
    let p = err_from_is_err_and c.from_residual.result c.from_residual.ensures.1 in
    let none = none_found c.args.self.now.left c.if-is_some.ensures in
    rw (p.1, p.2) (count_stops c.args.bytes.now c.args.self.now c.in_err-count.field-0.0 c.requires.front none c.requires.holds
    (subst (λ (q : Place). StopsAt c.in_err-count.field-0.0 (keys_count c.args.self.now.settings.max_keys q)) c.cursor_at-cursor.ensures.place c.in_err-count.ensures.reads))

pub returns-clause-holds : goal.returns-clause-holds
returns-clause-holds c =
    let none = none_found c.args.self.now.left c.if-is_some.ensures in
    count_read c.args.bytes.now c.args.self.now _ c.in_ok-count.count c.keys_count_of.new.cursor c.requires.front none c.requires.holds
    (ap (keys_count c.args.self.now.settings.max_keys) (sym c.cursor_at-cursor.ensures.place) ∙ c.in_ok-count.ensures.reads) (omega (arith, c.in_ok-count.ensures.end, ap (λ (q : Place). q.at) c.cursor_at-cursor.ensures.place))
    refl refl refl c.new.ensures.items c.offset-self.ensures
