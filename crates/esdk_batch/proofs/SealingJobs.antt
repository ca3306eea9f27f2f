-- A turn of a job that seals: what its session and its file come to.
use Rattle.std.proofs.Common.{◌≡◌, ◌<◌, ℕ, ◌+◌, Bool, true, false, List, [], ◌++◌, length, take, drop, refl, sym, ap, subst, ◌∙◌, arith, append_assoc, append-nil, inl, inr}
use Rattle.std.specs.Prelude.{Option, Some, None, nat_le, if◌then◌else◌}
use Rattle.std.proofs.lemmas.Bool.{cases_lt}
use Rattle.std.proofs.lemmas.List.{take-append-le, take_all, take-append-drop, length-append}
use Rattle.esdk_fields.specs.declared.refusals.Refusal.{Refusal}
use Rattle.esdk_fields.specs.declared.refusals.Refusal.TheVariants as refusals
use Rattle.esdk_fields.specs.declared.refusals.Outside.TheVariants as outsides
use Rattle.keyring_trait.specs.declared.served.Served.{Served}
use Rattle.keyring_trait.specs.Materials.{EncMaterialsValue}
use Rattle.stream_seal.specs.Feeding.{FeedsToSealer, SealerIsFed, fed, fed_out, feed_refusal, given_so_far, most_of, most_taken, over_of}
use Rattle.stream_seal.specs.Session.{SealingValue, sealing_finished}
use Rattle.stream_seal.specs.Start.{message_of, most_text}
use Rattle.stream_seal.proofs.Feeding.{feeds, finishes, refuses_piece}
use Rattle.stream_seal.specs.Start.{start_refusal, drawn_id, drawn_rest}
use Rattle.esdk_encrypt.specs.Encrypt.{written_so_far}
use Rattle.batch_report.specs.declared.job_lines.JobEnd.{JobEnd}
use Rattle.batch_report.specs.declared.job_lines.JobEnd.TheVariants as ends
use Rattle.esdk_batch.specs.declared.progress.Live.{Live}
use Rattle.desk_core.specs.Session.{SessionValue, Sealing}
use Rattle.esdk_batch.specs.Ending.{FinishesSo, JobSealsPiece}
use Rattle.esdk_base.specs.Shelf.{Files, file_of}
use Rattle.esdk_base.specs.Streams.{most_input}
use Rattle.keyring_trait.specs.Saying.{Saying}
use Rattle.esdk_batch.specs.SealStory as story
use Rattle.esdk_batch.specs.SealStory.{JobIsGiven, SealAsked, SealsFront, SealsSo, SealsTooMuch, Seen, most_sealed, wish_of}
use Rattle.esdk_batch.specs.Underway.{JobIsSealing, Took}
use Rattle.esdk_batch.proofs.Took.{TookPiece, gains_behind, whole_front}

-- ---- what is given is a front of the message

same_message : (m n : EncMaterialsValue) (size other : ℕ) (id name text bytes : List ℕ) → m ≡ n → size ≡ other → id ≡ name → text ≡ bytes → message_of m size id text ≡ message_of n other name bytes
same_message m n size other id name text bytes a b c d = cc

-- The message of a text begins with these bytes.
pub record Begins (bytes message : List ℕ) : Type 0 where
  pub more : List ℕ
  pub is : message ≡ bytes ++ more

-- the message of the text that a session takes at the most, of these bytes
abbrev pub message_in : SealingValue → List ℕ → List ℕ
message_in v bytes = message_of v.materials v.size v.id (take (most_taken v) bytes)

has_more : (bytes message more : List ℕ) → message ≡ bytes ++ more → Begins bytes message
has_more bytes message more is = record { more = more; is = is }

-- a front of what it begins with
begins_less : (bytes out message : List ℕ) → Begins (bytes ++ out) message → Begins bytes message
begins_less bytes out message begins = record { more = out ++ begins.more; is = begins.is ∙ append_assoc bytes out begins.more }

-- what was given with a piece, of the session that was fed it
given_with : (v : SealingValue) (piece : List ℕ) → FeedsToSealer v piece → Begins (given_so_far v ++ fed_out v piece) (message_of v.materials v.size v.id (fed v piece).taken)
given_with v piece one =
    let w : SealingValue = fed v piece in
    let last : Begins (given_so_far w) (message_of w.materials w.size w.id w.taken) = has_more (given_so_far w) (message_of w.materials w.size w.id w.taken) _ one.last in
    let message : message_of w.materials w.size w.id w.taken ≡ message_of v.materials v.size v.id w.taken =
    same_message w.materials v.materials w.size v.size w.id v.id w.taken w.taken one.same.materials one.same.size one.same.id refl in
    subst (λ (l : List ℕ). Begins l (message_of v.materials v.size v.id w.taken)) one.given (subst (λ (m : List ℕ). Begins (given_so_far w) m) message last)

-- the same, where its text is that of these bytes
begins_as : (v : SealingValue) (piece bytes : List ℕ) → FeedsToSealer v piece → (fed v piece).taken ≡ take (most_taken v) bytes → Begins (given_so_far v ++ fed_out v piece) (message_in v bytes)
begins_as v piece bytes one text =
    subst (λ (t : List ℕ). Begins (given_so_far v ++ fed_out v piece) (message_of v.materials v.size v.id t)) text (given_with v piece one)

-- what was given before it too
pub begins_before : (v : SealingValue) (bytes rest : List ℕ) → SealerIsFed v → bytes ≡ v.taken ++ rest → Begins (given_so_far v) (message_in v bytes)
begins_before v bytes rest is e =
    let one : FeedsToSealer v rest = feeds v rest is in
    begins_less (given_so_far v) (fed_out v rest) (message_in v bytes) (begins_as v rest bytes one (one.taken ∙ ap (take (most_taken v)) (sym e)))

same_most_taken : (v w : SealingValue) → w.declared ≡ v.declared → w.size ≡ v.size → most_taken w ≡ most_taken v
same_most_taken v w d s = ap (λ (o : Option ℕ). most_of o (most_text w.size)) d ∙ ap (λ (n : ℕ). most_of v.declared (most_text n)) s

-- so much was taken of a piece, and more bytes follow
begins_on : (v : SealingValue) (piece rest : List ℕ) → SealerIsFed v → feed_refusal v piece ≡ None → Begins (given_so_far v ++ fed_out v piece) (message_in v ((v.taken ++ piece) ++ rest))
begins_on v piece rest is none =
    let one : FeedsToSealer v piece = feeds v piece is in
    let w : SealingValue = fed v piece in
    let whole = one.whole none in
    let bytes : List ℕ = (v.taken ++ piece) ++ rest in
    let message : message_in w bytes ≡ message_in v bytes =
    same_message w.materials v.materials w.size v.size w.id v.id (take (most_taken w) bytes) (take (most_taken v) bytes) one.same.materials one.same.size one.same.id
    (ap (λ (n : ℕ). take n bytes) (same_most_taken v w one.same.declared one.same.size)) in
    subst (λ (l : List ℕ). Begins l (message_in v bytes)) one.given
    (subst (λ (m : List ℕ). Begins (given_so_far w) m) message (begins_before w bytes rest whole.1 (ap (λ (l : List ℕ). l ++ rest) (sym whole.0))))

-- no more can be taken
begins_over : (v : SealingValue) (piece rest : List ℕ) → SealerIsFed v → most_taken v < length (v.taken ++ piece)
    → Begins (given_so_far v ++ fed_out v piece) (message_in v ((v.taken ++ piece) ++ rest))
begins_over v piece rest is over =
    let one : FeedsToSealer v piece = feeds v piece is in
    begins_as v piece ((v.taken ++ piece) ++ rest) one (one.taken ∙ sym (take-append-le (most_taken v) (v.taken ++ piece) rest (omega (arith, over))))

pub begins : (v : SealingValue) (piece rest : List ℕ) → SealerIsFed v → Begins (given_so_far v ++ fed_out v piece) (message_in v ((v.taken ++ piece) ++ rest))
begins v piece rest is = elim (cases_lt (most_taken v) (length (v.taken ++ piece))) [
  | inl over ↦ begins_over v piece rest is over
  | inr few ↦ begins_on v piece rest is ((refuses_piece v piece).none.1 few)
]

-- and what was given with the final frame, where all bytes were taken
pub begins_finished : (v : SealingValue) (bytes : List ℕ) → SealerIsFed v → bytes ≡ v.taken → message_in v bytes ≡ given_so_far v ++ (sealing_finished v).out
begins_finished v bytes is e = ap (λ (t : List ℕ). message_of v.materials v.size v.id t) (ap (take (most_taken v)) e ∙ take_all (most_taken v) v.taken is.short) ∙ sym (finishes v is)

-- ---- what is seen of the job

-- what is seen of a job
abbrev pub seen_with : Option (List ℕ) → Option (List ℕ) → Option (List ℕ) → List ℕ → Option Served → Seen
seen_with from before to drawn served = record { from = from; before = before; to = to; drawn = drawn; served = served }

is_given : (manager : Saying) (asked : SealAsked) (from before to after : Option (List ℕ)) (drawn : List ℕ) (live : Live) (s : SealingValue) → JobIsSealing manager asked from to drawn live s
    → JobIsGiven manager asked (seen_with from before after drawn live.served) s.materials
is_given manager asked from before to after drawn live s at = record { count = at.count; moment = at.moment; given = at.given; served = at.served }

-- the job's message is that of its session
asked_message : (asked : SealAsked) (v : SealingValue) (id bytes : List ℕ) → v.declared ≡ asked.declared → v.size ≡ asked.frame → v.id ≡ id
    → message_in v bytes ≡ message_of v.materials asked.frame id (take (most_sealed asked) bytes)
asked_message asked v id bytes d s i = by_parts v.declared asked.declared v.size asked.frame v.id id d s i
  where
    by_parts : (a b : Option ℕ) (m n : ℕ) (x y : List ℕ) → a ≡ b → m ≡ n → x ≡ y
        → message_of v.materials m x (take (most_of a (most_text m)) bytes) ≡ message_of v.materials n y (take (most_of b (most_text n)) bytes)
    by_parts a b m n x y e f g = cc

-- the file holds bytes with which the message begins
pub seals_front : (manager : Saying) (asked : SealAsked) (from before to after : Option (List ℕ)) (drawn : List ℕ) (live : Live) (s : SealingValue) (bytes : List ℕ)
    → JobIsSealing manager asked from to drawn live s → after ≡ Some bytes → Begins bytes (message_in s (story.held_or_none from)) → SealsFront manager asked (seen_with from before after drawn live.served)
seals_front manager asked from before to after drawn live s bytes at holds begins =
    let message : message_in s (story.held_or_none from) ≡ message_of s.materials asked.frame (drawn_id drawn) (take (most_sealed asked) (story.held_or_none from)) =
    asked_message asked s (drawn_id drawn) (story.held_or_none from) at.declared at.size at.id in
    record {
      materials = s.materials;
      given = is_given manager asked from before to after drawn live s at;
      begins = at.begins;
      count = length bytes;
      front = holds ∙ ap (λ (l : List ℕ). Some l) (whole_front bytes begins.more ∙ ap (take (length bytes)) (sym begins.is ∙ message));
    }

-- all that was given before
pub unfed : (manager : Saying) (asked : SealAsked) (from before to : Option (List ℕ)) (drawn : List ℕ) (live : Live) (s : SealingValue)
    → JobIsSealing manager asked from to drawn live s → SealsFront manager asked (seen_with from before to drawn live.served)
unfed manager asked from before to drawn live s at =
    seals_front manager asked from before to to drawn live s (given_so_far s) at at.holds
    (begins_before s (story.held_or_none from) (drop live.at (story.held_or_none from)) at.is_fed at.took.front)

-- a front of what is appended
begins_cut : (n : ℕ) (bytes out message : List ℕ) → Begins (bytes ++ out) message → Begins (bytes ++ take n out) message
begins_cut n bytes out message begins = record {
  more = drop n out ++ begins.more;
  is = begins.is ∙ ap (λ (l : List ℕ). l ++ begins.more) (ap (λ (o : List ℕ). bytes ++ o) (sym (take-append-drop n out)) ∙ sym (append_assoc bytes (take n out) (drop n out)))
      ∙ append_assoc (bytes ++ take n out) (drop n out) begins.more;
}

shelf_fails : (manager : Saying) (asked : SealAsked) (from before to after : Option (List ℕ)) (drawn : List ℕ) (live : Live) (s : SealingValue) (bytes : List ℕ)
    → JobIsSealing manager asked from to drawn live s → after ≡ Some bytes → Begins bytes (message_in s (story.held_or_none from))
    → SealsSo manager asked (seen_with from before after drawn live.served) (ends.Outside outsides.ShelfFault)
shelf_fails manager asked from before to after drawn live s bytes at holds begins = record {
  materials = s.materials;
  given = is_given manager asked from before to after drawn live s at;
  left = inr (seals_front manager asked from before to after drawn live s bytes at holds begins);
}

-- ---- how it ends early

-- no piece was read
pub seal_unread : (manager : Saying) (asked : SealAsked) (from before to : Option (List ℕ)) (drawn : List ℕ) (live : Live) (s : SealingValue)
    → JobIsSealing manager asked from to drawn live s → SealsSo manager asked (seen_with from before to drawn live.served) (ends.Outside outsides.ShelfFault)
seal_unread manager asked from before to drawn live s at =
    record { materials = s.materials; given = is_given manager asked from before to to drawn live s at; left = inr (unfed manager asked from before to drawn live s at) }

-- too many bytes came
pub seal_too_long : (manager : Saying) (asked : SealAsked) (from before to : Option (List ℕ)) (drawn : List ℕ) (live : Live) (s : SealingValue) → live.at ≡ most_input
    → JobIsSealing manager asked from to drawn live s → SealsSo manager asked (seen_with from before to drawn live.served) (ends.Outside outsides.InputTooLong)
seal_too_long manager asked from before to drawn live s most at = record {
  front = unfed manager asked from before to drawn live s at;
  long = omega (arith, ap length at.took.front, length-append s.taken (drop live.at (story.held_or_none from)), at.took.count, most);
}

-- ---- a piece

-- the session goes on
pub seal_goes : (manager : Saying) (asked : SealAsked) (from to after : Option (List ℕ)) (drawn : List ℕ) (live next : Live) (s : SealingValue) (piece : List ℕ) (count : ℕ)
    → next.at ≡ live.at + count → next.served ≡ live.served → JobIsSealing manager asked from to drawn live s → TookPiece s.taken piece live.at count from
    → feed_refusal s piece ≡ None → after ≡ Some (given_so_far s ++ fed_out s piece) → JobIsSealing manager asked from after drawn next (fed s piece)
seal_goes manager asked from to after drawn live next s piece count further served at took none holds =
    let one : FeedsToSealer s piece = feeds s piece at.is_fed in
    let whole = one.whole none in
    record {
      count = at.count;
      moment = at.moment;
      given = subst (λ (m : EncMaterialsValue). manager.gives (wish_of asked) at.moment (drawn_rest drawn) m) (sym one.same.materials) at.given;
      served = served ∙ at.served ∙ ap (λ (m : EncMaterialsValue). Some m.served) (sym one.same.materials);
      begins = ap (λ (m : EncMaterialsValue). start_refusal m None (drawn_id drawn)) one.same.materials ∙ at.begins;
      declared = one.same.declared ∙ at.declared;
      size = one.same.size ∙ at.size;
      id = one.same.id ∙ at.id;
      is_fed = whole.1;
      took = subst (λ (t : List ℕ). Took t next.at from) (sym whole.0) (subst (λ (n : ℕ). Took (s.taken ++ piece) n from) (sym further) took.took);
      holds = holds ∙ ap (λ (l : List ℕ). Some l) (sym one.given);
    }

is_too_long : (v : SealingValue) (piece : List ℕ) (refusal : Refusal) → feed_refusal v piece ≡ Some refusal → most_taken v < length (v.taken ++ piece)
is_too_long v piece refusal why = elim (cases_lt (most_taken v) (length (v.taken ++ piece))) [
  | inl over ↦ over
  | inr few ↦ absurd (let no : None ≡ Some refusal = sym ((refuses_piece v piece).none.1 few) ∙ why in cc)
]

cause_is : (v : SealingValue) (piece : List ℕ) (refusal : Refusal) → feed_refusal v piece ≡ Some refusal → over_of v.declared (most_text v.size) ≡ refusal
unfolding feed_refusal
cause_is v piece refusal why = by_test (nat_le (length (v.taken ++ piece)) (most_taken v)) (over_of v.declared (most_text v.size)) why
  where
    by_test : (b : Bool) (cause : Refusal) → (if b then None else Some cause) ≡ Some refusal → cause ≡ refusal
    by_test true cause e = absurd (let no : None ≡ Some refusal = e in cc)
    by_test false cause e = cc

-- the two refusals of a session that is fed
too_much_at : (manager : Saying) (asked : SealAsked) (seen : Seen) (declared : Option ℕ) (room : ℕ) → SealsTooMuch manager asked seen (over_of declared room)
    → SealsSo manager asked seen (ends.Refusal (over_of declared room))
too_much_at manager asked seen None room over = over
too_much_at manager asked seen (Some whole) room over = by_test (nat_le whole room) over
  where
    by_test : (b : Bool) → SealsTooMuch manager asked seen (if b then refusals.OverDeclared whole else refusals.TooManyFrames)
        → SealsSo manager asked seen (ends.Refusal (if b then refusals.OverDeclared whole else refusals.TooManyFrames))
    by_test true over = over
    by_test false over = over

too_much : (manager : Saying) (asked : SealAsked) (seen : Seen) (declared : Option ℕ) (room : ℕ) (refusal : Refusal) → over_of declared room ≡ refusal
    → SealsTooMuch manager asked seen refusal → SealsSo manager asked seen (ends.Refusal refusal)
too_much manager asked seen declared room refusal cause over =
    subst (λ (r : Refusal). SealsTooMuch manager asked seen r → SealsSo manager asked seen (ends.Refusal r)) cause (too_much_at manager asked seen declared room) over

-- as many bytes as the job takes at the most
same_most : (asked : SealAsked) (v : SealingValue) → v.declared ≡ asked.declared → v.size ≡ asked.frame → most_taken v ≡ most_sealed asked
same_most asked v d s = ap (λ (o : Option ℕ). most_of o (most_text v.size)) d ∙ ap (λ (n : ℕ). most_of asked.declared (most_text n)) s

same_over : (asked : SealAsked) (v : SealingValue) → v.declared ≡ asked.declared → v.size ≡ asked.frame → over_of v.declared (most_text v.size) ≡ over_of asked.declared (most_text asked.frame)
same_over asked v d s = ap (λ (o : Option ℕ). over_of o (most_text v.size)) d ∙ ap (λ (n : ℕ). over_of asked.declared (most_text n)) s

-- what was given with a piece is what is written so far of the text that was taken
given_is : (v : SealingValue) (piece : List ℕ) → given_so_far (fed v piece) ≡ written_so_far v.materials v.size v.id (take (most_taken v) (v.taken ++ piece))
unfolding given_so_far fed
given_is v piece = refl

same_written : (m : EncMaterialsValue) (size other : ℕ) (id name text bytes : List ℕ) → size ≡ other → id ≡ name → text ≡ bytes → written_so_far m size id text ≡ written_so_far m other name bytes
same_written m size other id name text bytes a b c = cc

-- where no more can be taken, that is the text which the job may take
written_over : (asked : SealAsked) (s : SealingValue) (id piece rest bytes : List ℕ) → SealerIsFed s → s.declared ≡ asked.declared → s.size ≡ asked.frame → s.id ≡ id
    → bytes ≡ (s.taken ++ piece) ++ rest → most_taken s < length (s.taken ++ piece)
    → given_so_far s ++ fed_out s piece ≡ written_so_far s.materials asked.frame id (take (most_sealed asked) bytes)
written_over asked s id piece rest bytes is declared size same front over =
    let text : take (most_taken s) (s.taken ++ piece) ≡ take (most_sealed asked) bytes =
    sym (take-append-le (most_taken s) (s.taken ++ piece) rest (omega (arith, over))) ∙ ap (take (most_taken s)) (sym front) ∙ ap (λ (n : ℕ). take n bytes) (same_most asked s declared size) in
    sym (feeds s piece is).given ∙ given_is s piece ∙ same_written s.materials s.size asked.frame s.id id (take (most_taken s) (s.taken ++ piece)) (take (most_sealed asked) bytes) size same text

-- with what a piece gave the message begins
begins_piece : (from : Option (List ℕ)) (s : SealingValue) (piece : List ℕ) (at count : ℕ) → SealerIsFed s → TookPiece s.taken piece at count from
    → Begins (given_so_far s ++ fed_out s piece) (message_in s (story.held_or_none from))
begins_piece from s piece at count is took =
    subst (λ (l : List ℕ). Begins (given_so_far s ++ fed_out s piece) (message_in s l)) (sym took.took.front) (begins s piece (drop (at + count) (story.held_or_none from)) is)

seal_refused : (manager : Saying) (asked : SealAsked) (from before to after : Option (List ℕ)) (drawn : List ℕ) (live : Live) (s : SealingValue) (piece : List ℕ) (count : ℕ) (refusal : Refusal)
    → JobIsSealing manager asked from to drawn live s → TookPiece s.taken piece live.at count from → feed_refusal s piece ≡ Some refusal
    → after ≡ Some (given_so_far s ++ fed_out s piece) → SealsSo manager asked (seen_with from before after drawn live.served) (ends.Refusal refusal)
seal_refused manager asked from before to after drawn live s piece count refusal at took why holds =
    let over : most_taken s < length (s.taken ++ piece) = is_too_long s piece refusal why in
    let most : most_taken s ≡ most_sealed asked = same_most asked s at.declared at.size in
    let text : length (story.held_or_none from) ≡ length took.text = ap (λ (o : Option (List ℕ)). length (story.held_or_none o)) took.there in
    let long : length (story.held_or_none from) ≡ length ((s.taken ++ piece) ++ drop (live.at + count) (story.held_or_none from)) = ap length took.took.front in
    let parts = length-append (s.taken ++ piece) (drop (live.at + count) (story.held_or_none from)) in
    let cause : over_of s.declared (most_text s.size) ≡ refusal = cause_is s piece refusal why in
    too_much manager asked (seen_with from before after drawn live.served) s.declared (most_text s.size) refusal cause (record {
      materials = s.materials;
      given = is_given manager asked from before to after drawn live s at;
      begins = at.begins;
      text = took.text;
      from = took.there;
      over = omega (arith, over, most, text, long, parts);
      cause = sym (same_over asked s at.declared at.size) ∙ cause;
      to = holds ∙ ap (λ (l : List ℕ). Some l)
          (written_over asked s (drawn_id drawn) piece (drop (live.at + count) (story.held_or_none from)) (story.held_or_none from) at.is_fed at.declared at.size at.id took.took.front over);
    })

-- how a job ends whose piece was fed
pub seal_ends : (manager : Saying) (asked : SealAsked) (from before : Option (List ℕ)) (drawn : List ℕ) (live : Live) (s : SealingValue) (piece to : List ℕ) (count : ℕ)
    (session : Option SessionValue) (files after : Option Files) (now left : Files) (end : JobEnd) → JobIsSealing manager asked from (file_of (Some now) to) drawn live s
    → TookPiece s.taken piece live.at count from → files ≡ Some now → after ≡ Some left → JobSealsPiece s piece session to files after (Some end)
    → SealsSo manager asked (seen_with from before (file_of (Some left) to) drawn live.served) end
seal_ends manager asked from before drawn live s piece to count session files after now left (ends.Refusal refusal) at took is later seals =
    seal_refused manager asked from before (file_of (Some now) to) (file_of (Some left) to) drawn live s piece count refusal at took seals.1
    (gains_behind files after now left to (fed_out s piece) (given_so_far s) is later seals.2 at.holds)
seal_ends manager asked from before drawn live s piece to count session files after now left (ends.Outside outsides.ShelfFault) at took is later seals =
    shelf_fails manager asked from before (file_of (Some now) to) (file_of (Some left) to) drawn live s (given_so_far s ++ take seals.1.0 (fed_out s piece)) at
    (gains_behind files after now left to (take seals.1.0 (fed_out s piece)) (given_so_far s) is later seals.1.1 at.holds)
    (begins_cut seals.1.0 (given_so_far s) (fed_out s piece) (message_in s (story.held_or_none from)) (begins_piece from s piece live.at count at.is_fed took))
seal_ends manager asked from before drawn live s piece to count session files after now left end at took is later seals = absurd seals

-- ---- the end

seal_done : (manager : Saying) (asked : SealAsked) (from before to after : Option (List ℕ)) (drawn : List ℕ) (live : Live) (s : SealingValue)
    → JobIsSealing manager asked from to drawn live s → from ≡ Some s.taken → after ≡ Some (given_so_far s ++ (sealing_finished s).out)
    → SealsSo manager asked (seen_with from before after drawn live.served) ends.Done
seal_done manager asked from before to after drawn live s at whole holds = record {
  materials = s.materials;
  text = s.taken;
  given = is_given manager asked from before to after drawn live s at;
  begins = at.begins;
  from = whole;
  short = omega (arith, at.is_fed.short, same_most asked s at.declared at.size);
  to = holds ∙ ap (λ (l : List ℕ). Some l) (finishes s at.is_fed
      ∙ same_message s.materials s.materials s.size asked.frame s.id (drawn_id drawn) s.taken s.taken refl at.size at.id refl);
}

-- how a job ends whose file's end was seen
pub seal_finishes : (manager : Saying) (asked : SealAsked) (from before : Option (List ℕ)) (drawn : List ℕ) (live : Live) (s : SealingValue) (to : List ℕ)
    (files after : Option Files) (now left : Files) (end : JobEnd) → JobIsSealing manager asked from (file_of (Some now) to) drawn live s
    → from ≡ Some s.taken → files ≡ Some now → after ≡ Some left → FinishesSo (Sealing s) to files after end
    → SealsSo manager asked (seen_with from before (file_of (Some left) to) drawn live.served) end
seal_finishes manager asked from before drawn live s to files after now left ends.Done at whole is later gains =
    seal_done manager asked from before (file_of (Some now) to) (file_of (Some left) to) drawn live s at whole
    (gains_behind files after now left to (sealing_finished s).out (given_so_far s) is later gains at.holds)
seal_finishes manager asked from before drawn live s to files after now left (ends.Outside outsides.ShelfFault) at whole is later gains =
    shelf_fails manager asked from before (file_of (Some now) to) (file_of (Some left) to) drawn live s (given_so_far s ++ take gains.0 (sealing_finished s).out) at
    (gains_behind files after now left to (take gains.0 (sealing_finished s).out) (given_so_far s) is later gains.1 at.holds)
    (begins_cut gains.0 (given_so_far s) (sealing_finished s).out (message_in s (story.held_or_none from)) (record {
      more = [];
      is = begins_finished s (story.held_or_none from) at.is_fed (ap story.held_or_none whole) ∙ sym (append-nil (given_so_far s ++ (sealing_finished s).out));
    }))
seal_finishes manager asked from before drawn live s to files after now left end at whole is later none = absurd none
