-- What a handle is that was asked.
use Rattle.std.proofs.Common.{◌≡◌, ◌∙◌, ℕ, true, false, List, Some, Result, sym, subst}
use Rattle.std.specs.Prelude.{ℤ}
use Rattle.c_session.specs.declared.file_session.FileSession.{FileSession}
use Rattle.c_session.specs.declared.file_session.Kept.{Kept}
use Rattle.c_handle.specs.declared.handle.Handle.{Handle}
use Rattle.c_handle.specs.Handle.{HoldsSession}
use Rattle.esdk_c.specs.Asking.{AskedSo, AsksHandle, ShowsAll}

module _ {E : Type 0} (old new : Handle) (code_of : E → ℕ) (asks : Kept → Kept → Result (List ℕ) E → Type 0) (room : List ℕ) (code : ℤ) (whole : ℕ)
    (after : List ℕ) where
  -- the session that it held
  pub asked_so : (taken left : FileSession) (came : Result (List ℕ) E) → HoldsSession old taken → HoldsSession new left → asks taken.kept left.kept came
      → ShowsAll code_of came room code whole after → AsksHandle old new code_of asks room code whole after
  asked_so taken left came holds kept asked shows = record {
    closed = λ off. absurd (let no : true ≡ false = sym holds.0 ∙ off in cc);
    asked = λ session same.
        let is : Some taken ≡ Some session = sym holds.1 ∙ same.1 in
        let one : taken ≡ session = cc in
        subst (λ (s : FileSession). AskedSo new code_of asks room code whole after s) one
        (record { left = left; holds = kept; came = came; asked = asked; shows = shows });
  }
