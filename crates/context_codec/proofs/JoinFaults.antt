-- What is wrong with stored and given pairs, from what joining them found.
use Rattle.std.proofs.Common.{◌≡◌, ℕ, ◌<◌, ◌≤◌, true, false, List, length, None, Some, sym, ap, ◌∙◌, ltb}
use Rattle.std.specs.Prelude.{find}
use Rattle.std.proofs.lemmas.Bool.{lt-ltb, le-ltb}
use Rattle.esdk_fields.specs.declared.faults.Fault.TheVariants.{ContextMismatch, ContextTooLong}
use Rattle.context_codec.specs.Context.{KeyValue, ctx_text}
use Rattle.context_codec.specs.Parts.{whole_of}
use Rattle.context_codec.specs.Join.{clashes, join_fault}

-- a stored pair clashes
pub fault_of_clash : (stored given : List KeyValue) (p : KeyValue) → Some p ≡ find (clashes given) stored → join_fault stored given ≡ Some (ContextMismatch p.0)
unfolding join_fault
fault_of_clash stored given p e = rw (← e)

-- none clashes, and the whole is too long
pub fault_of_length : (stored given whole : List KeyValue) (n : ℕ) → None ≡ find (clashes given) stored → whole ≡ whole_of stored given → n ≡ length (ctx_text whole) → 65535 < n
    → join_fault stored given ≡ Some (ContextTooLong n)
unfolding join_fault
fault_of_length stored given whole n e is len long =
    let size : length (ctx_text (whole_of stored given)) ≡ n = ap (λ (ps : List KeyValue). length (ctx_text ps)) (sym is) ∙ sym len in
    let test : ltb 65535 n ≡ true = lt-ltb 65535 n long in
    rw (← e, size, test)

-- none clashes, and the whole fits
pub no_join_fault : (stored given whole : List KeyValue) (n : ℕ) → None ≡ find (clashes given) stored → whole ≡ whole_of stored given → n ≡ length (ctx_text whole) → n ≤ 65535
    → join_fault stored given ≡ None
unfolding join_fault
no_join_fault stored given whole n e is len short =
    let size : length (ctx_text (whole_of stored given)) ≡ n = ap (λ (ps : List KeyValue). length (ctx_text ps)) (sym is) ∙ sym len in
    let test : ltb 65535 n ≡ false = le-ltb 65535 n short in
    rw (← e, size, test)
