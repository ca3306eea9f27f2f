use Rattle.std.proofs.Common.{◌∙◌, sym, ap, subst, refl, arith}
use Rattle.std.proofs.lemmas.Result.{err_from_is_err_and}
use Rattle.esdk_fields.specs.Place.{Place}
use Rattle.esdk_fields.specs.Gives.{StopsAt}
use Rattle.esdk_fields.specs.Reading.{Read}
use Rattle.edk_codec.specs.Entry.{Entry}
use Rattle.header_codec.specs.Table.{entry}
use Rattle.header_codec.proofs.Progressing.{entry_stops, entry_read, entry_within}
use Rattle.header_codec.proofs.progress.Progress.read_entry.Goals as goal

pub cursor_at-cursor-requires : goal.cursor_at-cursor-requires
cursor_at-cursor-requires c = c.requires.holds.resumes.inside

pub entry_of-requires : goal.entry_of-requires
entry_of-requires c =
    omega (arith, entry_within c.args.bytes.now c.args.self.now c.args.left c.requires.front c.requires.left c.requires.holds, ap (λ (q : Place). q.at) c.cursor_at-cursor.ensures.place)

pub returns-in_err-entry-clause-stops : goal.returns-in_err-entry-clause-stops
returns-in_err-entry-clause-stops c =
    let p = err_from_is_err_and c.from_residual.result c.from_residual.ensures.1 in
    rw (p.1, p.2) (entry_stops c.args.bytes.now c.args.self.now c.args.left c.in_err-entry.field-0.0 c.requires.front c.requires.left c.requires.some c.requires.holds
    (subst (λ (q : Place). StopsAt c.in_err-entry.field-0.0 (entry q)) c.cursor_at-cursor.ensures.place c.in_err-entry.ensures.reads))

pub returns-clause-holds : goal.returns-clause-holds
returns-clause-holds c =
    entry_read c.args.bytes.now c.args.self.now _ c.args.left c.in_ok-owned.owned c.entry_of.new.cursor c.requires.front c.requires.left c.requires.some c.requires.holds
    (ap entry (sym c.cursor_at-cursor.ensures.place) ∙ c.in_ok-entry.ensures.reads ∙ ap (λ (x : Entry). Read x c.entry_of.new.cursor) (sym c.in_ok-owned.ensures.parts)) c.in_ok-entry.ensures.within
    refl refl refl c.in_ok-push.ensures.items c.offset-self.ensures
