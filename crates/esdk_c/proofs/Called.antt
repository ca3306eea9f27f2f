-- What an export comes to, from what the call of its session comes to.
use Rattle.std.proofs.Common.{◌≡◌, ◌∙◌, ℕ, true, false, List, Some, sym, ap, subst}
use Rattle.std.specs.Prelude.{Bool, ℤ}
use Rattle.c_session.specs.declared.answer.Answer.{Answer}
use Rattle.c_session.specs.declared.file_session.FileSession.{FileSession}
use Rattle.c_session.specs.declared.file_session.Kept.{Kept}
use Rattle.c_handle.specs.declared.handle.Handle.{Handle}
use Rattle.c_handle.specs.Calls.{CalledSo, CallsSession, CallGoesOn, HandsOutBy}
use Rattle.c_handle.specs.Handle.{HoldsSession}

-- it held this session
pub called_so : (old new : Handle) (code : ℤ) (call : Answer → Kept → Kept → Type 0) (taken : FileSession)
    → HoldsSession old taken → CalledSo new code call taken → CallsSession old new code call
called_so old new code call taken holds so = record {
  closed = λ off. absurd (let no : true ≡ false = sym holds.0 ∙ off in cc);
  called = λ session same.
      let is : Some taken ≡ Some session = sym holds.1 ∙ same.1 in
      let one : taken ≡ session = cc in
      subst (CalledSo new code call) one so;
}

-- a call, and then so much of what waits was handed out
pub goes_on : (new : Handle) (code : ℤ) (first : Answer → Kept → Kept → Type 0) (quiet : Answer → Bool)
    (room : List ℕ) (written waits : ℕ) (after : List ℕ) (answer : Answer) (silent : Bool)
    (taken between : FileSession) → first answer taken.kept between.kept
    → CalledSo new code (λ given s t. (given ≡ answer) × HandsOutBy silent s t room written waits after) between
    → silent ≡ quiet answer
    → CalledSo new code (λ given s t. CallGoesOn (λ b. first given s b) (quiet given) t room written waits after) taken
goes_on new code first quiet room written waits after answer silent taken between did so same = record {
  answer = so.answer;
  after = so.after;
  holds = so.holds;
  told = so.told;
  called = record {
    between = between.kept;
    called = subst (λ (a : Answer). first a taken.kept between.kept) (sym so.called.0) did;
    hands = subst (λ (b : Bool). HandsOutBy b between.kept so.after.kept room written waits after)
        (same ∙ ap quiet (sym so.called.0)) so.called.1;
  };
}
