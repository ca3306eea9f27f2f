use mir.Syntax.{w32}
use mir.Val.{SFits}
use Rattle.std.proofs.Common.{◌∙◌, length, refl, ap, rules}
use Rattle.std.proofs.lemmas.Int.{to_z-of_z}
use Rattle.c_session.specs.declared.file_session.FileSession.{FileSession}
use Rattle.c_session.specs.FileSession.{waiting_in}
use Rattle.c_handle.proofs.handing.hand_out.Goals as goal
use Rattle.c_handle.proofs.handing.hand_out.Goals.{then-not-silent, else-not-silent}

pub returns : goal.returns
returns c =
    let fits : SFits w32 c.give_back.result = search rules in
    record {
      answer = c.args.answer;
      after = c.if-not-silent.session.value;
      holds = c.give_back.ensures.holds;
      told = to_z-of_z w32 c.give_back.result fits ∙ c.give_back.ensures.code;
      called = (
        refl,
        record {
          out = elim c.if-not-silent.branch [
            | then-not-silent w ↦
                rw (w.if-not-silent.true, w.session-is, w.room-is, w.written-is)
                (rw w.deref_mut.ensures.value at w.take.ensures)
            | else-not-silent w ↦
                rw (w.if-not-silent.false, w.session-is, w.room-is, w.written-is) (refl, refl, refl)
          ];
          left = c.waits.ensures ∙ ap (λ (s : FileSession). length (waiting_in s.kept)) c.deref.ensures;
        },
      );
    }
