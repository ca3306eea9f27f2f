-- Feeding a piece to its end.
use Rattle.std.proofs.Common.{◌≡◌, ◌↔◌, ℕ, ◌+◌, ◌-◌, ◌*◌, ◌<◌, ◌≤◌, List, [], ◌++◌, length, take, drop, min, Bool, true, false, Option, Some, None, IfSome, Result, Ok, Err, if◌then◌else◌, is_some, refl, sym, ap, subst, ◌∙◌, arith, inl, inr, nat_le, append_assoc}
use Rattle.std.proofs.lemmas.Bool.{cases_lt, leb-true, leb-false}
use Rattle.std.proofs.lemmas.List.{append-nil, length-append, length-take, take_all}
use Rattle.esdk_fields.specs.declared.refusals.Refusal.{Refusal}
use Rattle.esdk_fields.specs.declared.refusals.Refusal.TheVariants as refusals
use Rattle.frame_codec.specs.Unit.{Under}
use Rattle.frame_codec.specs.Written.{final_frame, regular_frame}
use Rattle.body_format.specs.Written.{piece, regular_frames}
use Rattle.body_format.proofs.Ranges.{flat_map_add}
use Rattle.keyring_trait.specs.Materials.{EncMaterialsValue}
use Rattle.stream_seal.specs.declared.errors.SealError.{SealError}
use Rattle.stream_seal.specs.declared.errors.SealError.TheVariants as errors
use Rattle.stream_seal.specs.Session.{SealingValue, beginning, sealing_finished, held, new_sealing_session, sealing_step_answer, sealing_stepped, under_of}
use Rattle.stream_seal.specs.Start.{message_of, most_text}
use Rattle.stream_seal.specs.Laws.{HoldsSome, IsSameMessage}
use Rattle.stream_seal.specs.Feeding.{frames_given, most_of, most_taken, over_of, feed_refusal, frames_behind, fed_out, given_so_far, SealerIsFed, IsFeeding, SealerStepsOn, StepsNot, StepFeeds, HasFed, IsOnTheWay, HasEnded, FillsMessage, HoldsTheLast, IsLeastCount, FeedsToSealer, RefusesPiece, BeginsFed}
use Rattle.stream_seal.proofs.AnyCut.{message_is}
use Rattle.stream_seal.proofs.FeedingSteps.{fed_with, out_with, refusal_with, fed_is, refusal_is, out_is, refusal_none, frames_none, front_taken, step_feeds}
use Rattle.stream_seal.proofs.Frames.{LeavesOne, body_of, frames_front}
use Rattle.stream_seal.proofs.GivenFrames.{AreGiven, are_given, frames_of_most, given_is, given_more, least_is}
use Rattle.stream_seal.proofs.Standing.{finished_on}

-- ---- the end of a piece

pub is_feeding : (v : SealingValue) (rest : List ℕ) → SealerIsFed v → IsFeeding v rest
is_feeding v rest is = record { wide = is.wide; on = is.on; short = is.short; stage = inl (is.handed, is.quiet) }

nothing_left : (v : SealingValue) → IsFeeding v [] → SealerIsFed v
nothing_left v f = elim f.stage [
  | inl given ↦ record { wide = f.wide; on = f.on; short = f.short; handed = given.0; quiet = given.1 }
  | inr awaits ↦ absurd (omega (arith, awaits.more))
]

pub feeding_ends : (v : SealingValue) → IsFeeding v [] → HasFed v
feeding_ends v f =
    let is : SealerIsFed v = nothing_left v f in
    let all : List ℕ = v.taken ++ [] in
    let same : all ≡ v.taken = append-nil v.taken in
    let text : take (most_taken v) all ≡ v.taken = ap (take (most_taken v)) same ∙ take_all (most_taken v) v.taken is.short in
    let why : refusal_with v all ≡ None = refusal_none v all (omega (arith, ap length same, is.short)) in
    let handed : frames_given (length (take (most_taken v) all)) v.size ≡ v.handed = ap (λ (t : List ℕ). frames_given (length t) v.size) text ∙ sym is.handed in
    record {
      is_fed = is;
      why = refusal_is v [] ∙ why;
      end = ap (λ (t : List ℕ). record v { taken = t }) (sym text)
          ∙ ap (λ (m : ℕ). record v { taken = take (most_taken v) all; handed = m }) (sym handed)
          ∙ ap (λ (b : Bool). record v { taken = take (most_taken v) all; handed = frames_given (length (take (most_taken v) all)) v.size; stopped = b }) (is.on ∙ sym (ap is_some why))
          ∙ ap (λ (o : List ℕ). record v { taken = take (most_taken v) all; handed = frames_given (length (take (most_taken v) all)) v.size; stopped = is_some (refusal_with v all); out = o }) is.quiet
          ∙ sym (fed_is v []);
      none = out_is v [] ∙ frames_none v.size (under_of v) (take (most_taken v) all) v.handed (frames_given (length (take (most_taken v) all)) v.size - v.handed) (omega (arith, handed));
    }

-- ---- on the way

pub goes_on : (v : SealingValue) (piece : List ℕ) (now : SealingValue) (rest given : List ℕ) (used : ℕ) → IsOnTheWay v piece now rest given → 1 ≤ length rest → sealing_step_answer now rest ≡ Ok used
    → IsOnTheWay v piece (sealing_stepped now rest) (drop used rest) (given ++ (sealing_stepped now rest).out)
goes_on v piece now rest given used way some is =
    let on : SealerStepsOn now rest (sealing_stepped now rest) used = subst (λ (r : Result ℕ SealError). StepFeeds now rest (sealing_stepped now rest) r) is (step_feeds now rest way.feeding some) in
    record {
      feeding = on.feeding;
      same = on.same ∙ way.same;
      same_refusal = on.same_refusal ∙ way.same_refusal;
      out = way.out ∙ ap (λ (l : List ℕ). given ++ l) on.out ∙ sym (append_assoc given (sealing_stepped now rest).out (fed_out (sealing_stepped now rest) (drop used rest)));
    }

pub fails : (v : SealingValue) (piece : List ℕ) (now : SealingValue) (rest given : List ℕ) (refusal : Refusal) → IsOnTheWay v piece now rest given → 1 ≤ length rest
    → sealing_step_answer now rest ≡ Err (errors.Refusal refusal) → HasEnded v piece (sealing_stepped now rest) given (Some refusal)
fails v piece now rest given refusal way some is =
    let not_on : StepsNot now rest (sealing_stepped now rest) refusal = subst (λ (r : Result ℕ SealError). StepFeeds now rest (sealing_stepped now rest) r) is (step_feeds now rest way.feeding some) in
    record {
      why = sym way.same_refusal ∙ not_on.why;
      end = not_on.end ∙ way.same;
      out = sym (way.out ∙ ap (λ (l : List ℕ). given ++ l) not_on.none ∙ append-nil given);
    }

pub arrives : (v : SealingValue) (piece : List ℕ) (now : SealingValue) (given : List ℕ) → IsOnTheWay v piece now [] given → HasEnded v piece now given None
arrives v piece now given way =
    let end = feeding_ends now way.feeding in
    record {
      why = sym way.same_refusal ∙ end.why;
      end = end.end ∙ way.same;
      out = sym (way.out ∙ ap (λ (l : List ℕ). given ++ l) end.none ∙ append-nil given);
    }

-- ---- why a piece isn't taken whole

abbrev refusal_by : Option ℕ → ℕ → ℕ → Option Refusal
refusal_by declared room count = if nat_le count (most_of declared room) then None else Some (over_of declared room)

none_by : (declared : Option ℕ) (room count : ℕ) → (refusal_by declared room count ≡ None) ↔ (count ≤ most_of declared room)
none_by declared room count = by_test (nat_le count (most_of declared room)) refl
  where
    by_test : (b : Bool) → nat_le count (most_of declared room) ≡ b → ((if b then None else Some (over_of declared room)) ≡ None) ↔ (count ≤ most_of declared room)
    by_test true few = ((λ _. leb-true count (most_of declared room) few), (λ _. refl))
    by_test false many = ((λ is. absurd (cc)), (λ few. absurd (omega (arith, few, leb-false count (most_of declared room) many))))

over_by : (declared : Option ℕ) (room count whole : ℕ) → (refusal_by declared room count ≡ Some (refusals.OverDeclared whole)) ↔ ((declared ≡ Some whole) × (whole ≤ room) × (whole < count))
over_by None room count whole = by_test (nat_le count room)
  where
    by_test : (b : Bool) → ((if b then None else Some refusals.TooManyFrames) ≡ Some (refusals.OverDeclared whole)) ↔ ((None ≡ Some whole) × (whole ≤ room) × (whole < count))
    by_test true = ((λ is. absurd (cc)), (λ is. let e = is.0 in absurd (cc)))
    by_test false = ((λ is. absurd (cc)), (λ is. let e = is.0 in absurd (cc)))
over_by (Some most) room count whole = by_tests (nat_le count (min most room)) (nat_le most room) refl refl
  where
    by_tests : (b c : Bool) → nat_le count (min most room) ≡ b → nat_le most room ≡ c
        → ((if b then None else Some (if c then refusals.OverDeclared most else refusals.TooManyFrames)) ≡ Some (refusals.OverDeclared whole)) ↔ ((Some most ≡ Some whole) × (whole ≤ room) × (whole < count))
    by_tests true c few least = (
      (λ is. absurd (cc)),
      (λ is. let e = is.0 in let same : most ≡ whole = cc in absurd (omega (arith, same, is.1, leb-true count (min most room) few))),
    )
    by_tests false true many least = (
      (λ is. let same : most ≡ whole = cc in (ap (λ (n : ℕ). Some n) same, omega (arith, same, leb-true most room least), omega (arith, same, leb-true most room least, leb-false count (min most room) many))),
      (λ is. let e = is.0 in let same : most ≡ whole = cc in ap (λ (n : ℕ). Some (refusals.OverDeclared n)) same),
    )
    by_tests false false many more = (
      (λ is. absurd (cc)),
      (λ is. let e = is.0 in let same : most ≡ whole = cc in absurd (omega (arith, same, is.1, leb-false most room more))),
    )

many_by : (declared : Option ℕ) (room count : ℕ) → (refusal_by declared room count ≡ Some refusals.TooManyFrames) ↔ (IfSome declared (λ whole. room < whole) × (room < count))
many_by None room count = by_test (nat_le count room) refl
  where
    by_test : (b : Bool) → nat_le count room ≡ b → ((if b then None else Some refusals.TooManyFrames) ≡ Some refusals.TooManyFrames) ↔ (IfSome None (λ whole. room < whole) × (room < count))
    by_test true few = ((λ is. absurd (cc)), (λ is. absurd (omega (arith, is.1, leb-true count room few))))
    by_test false many = ((λ is. (tt, leb-false count room many)), (λ is. refl))
many_by (Some most) room count = by_tests (nat_le count (min most room)) (nat_le most room) refl refl
  where
    by_tests : (b c : Bool) → nat_le count (min most room) ≡ b → nat_le most room ≡ c
        → ((if b then None else Some (if c then refusals.OverDeclared most else refusals.TooManyFrames)) ≡ Some refusals.TooManyFrames) ↔ ((room < most) × (room < count))
    by_tests true c few least = ((λ is. absurd (cc)), (λ is. absurd (omega (arith, is.0, is.1, leb-true count (min most room) few))))
    by_tests false true many least = ((λ is. absurd (cc)), (λ is. absurd (omega (arith, is.0, leb-true most room least))))
    by_tests false false many more = (
      (λ is. (leb-false most room more, omega (arith, leb-false most room more, leb-false count (min most room) many))),
      (λ is. refl),
    )

most_room : (declared : Option ℕ) (room : ℕ) → IfSome declared (λ whole. room < whole) → most_of declared room ≡ room
most_room None room more = refl
most_room (Some whole) room more = omega arith

pub refuses_piece : (v : SealingValue) (piece : List ℕ) → RefusesPiece v piece
unfolding feed_refusal
refuses_piece v piece = record {
  none = none_by v.declared (most_text v.size) (length (v.taken ++ piece));
  over = over_by v.declared (most_text v.size) (length (v.taken ++ piece));
  many = many_by v.declared (most_text v.size) (length (v.taken ++ piece));
}

-- ---- what was given

pub last_held : (v : SealingValue) → 1 ≤ v.size → v.handed ≡ frames_given (length v.taken) v.size → HoldsTheLast v
unfolding given_so_far
last_held v wide handed =
    let are : AreGiven (length v.taken) v.size v.handed = subst (λ (m : ℕ). AreGiven (length v.taken) v.size m) (sym handed) (are_given (length v.taken) v.size wide) in
    let leaves : LeavesOne v.size v.taken v.handed = record { low = are.low; high = are.high; rest = are.rest } in
    message_is v v.taken
    ∙ ap (λ (l : List ℕ). beginning v ++ l) (body_of v.size (under_of v) v.taken v.handed wide leaves)
    ∙ sym (append_assoc (beginning v) (regular_frames v.size (under_of v) v.taken v.handed) (final_frame (under_of v) (v.handed + 1) (held v)))

pub finishes : (v : SealingValue) → SealerIsFed v → given_so_far v ++ (sealing_finished v).out ≡ message_of v.materials v.size v.id v.taken
finishes v is = ap (λ (w : SealingValue). given_so_far v ++ w.out) (finished_on v is.on) ∙ sym (last_held v is.wide is.handed)

none_given : (size : ℕ) → 1 ≤ size → 0 ≡ frames_given 0 size
none_given size wide = sym (given_is 0 size 0 wide (record { low = omega arith; high = omega arith; rest = λ some. absurd (omega arith) }))

pub begin_fed : (m : EncMaterialsValue) (declared : Option ℕ) (size : ℕ) (id : List ℕ) → 1 ≤ size → BeginsFed (new_sealing_session m declared size id)
unfolding given_so_far regular_frames
begin_fed m declared size id wide = record {
  is_fed = record { wide = wide; on = refl; short = omega arith; handed = none_given size wide; quiet = refl };
  given = append-nil (beginning (new_sealing_session m declared size id));
}

-- more frames of a text
frames_add : (size : ℕ) (u : Under) (text : List ℕ) (m count : ℕ) → regular_frames size u text (m + count) ≡ regular_frames size u text m ++ frames_behind size u text m count
unfolding regular_frames frames_behind
frames_add size u text m count = flat_map_add (λ i. regular_frame u (i + 1) (piece size text i)) m count

frames_since : (size : ℕ) (u : Under) (text taken more : List ℕ) (m n : ℕ) → text ≡ taken ++ more → m * size ≤ length taken → m ≤ n
    → regular_frames size u text n ≡ regular_frames size u taken m ++ frames_behind size u text m (n - m)
frames_since size u text taken more m n is low few =
    let e : n ≡ m + (n - m) = omega arith in
    ap (regular_frames size u text) e ∙ frames_add size u text m (n - m)
    ∙ ap (λ (l : List ℕ). l ++ frames_behind size u text m (n - m)) (ap (λ (t : List ℕ). regular_frames size u t m) is ∙ frames_front size u taken more m low)

given_with : (v : SealingValue) (all : List ℕ) → SealerIsFed v → (more : List ℕ) → take (most_taken v) all ≡ v.taken ++ more
    → given_so_far (fed_with v all) ≡ given_so_far v ++ out_with v all
unfolding given_so_far
given_with v all is more front =
    let text : List ℕ = take (most_taken v) all in
    let are : AreGiven (length v.taken) v.size v.handed = subst (λ (m : ℕ). AreGiven (length v.taken) v.size m) (sym is.handed) (are_given (length v.taken) v.size is.wide) in
    let longer : length v.taken ≤ length text = omega (arith, ap length front, length-append v.taken more) in
    ap (λ (l : List ℕ). beginning v ++ l)
    (frames_since v.size (under_of v) text v.taken more v.handed (frames_given (length text) v.size) front are.low (given_more (length v.taken) v.size v.handed (length text) is.wide are longer))
    ∙ sym (append_assoc (beginning v) (regular_frames v.size (under_of v) v.taken v.handed) (out_with v all))

whole_with : (v : SealingValue) (all : List ℕ) → SealerIsFed v → refusal_with v all ≡ None → (take (most_taken v) all ≡ all) × SealerIsFed (fed_with v all)
whole_with v all is why =
    let few : length all ≤ most_taken v = (none_by v.declared (most_text v.size) (length all)).0 why in
    let text : take (most_taken v) all ≡ all = take_all (most_taken v) all few in
    (text, record { wide = is.wide; on = ap is_some why; short = omega (arith, ap length text, few); handed = refl; quiet = refl })

some_held : (v : SealingValue) → 1 ≤ v.size → v.handed ≡ frames_given (length v.taken) v.size → HoldsSome v
some_held v wide handed =
    let are : AreGiven (length v.taken) v.size v.handed = subst (λ (m : ℕ). AreGiven (length v.taken) v.size m) (sym handed) (are_given (length v.taken) v.size wide) in
    elim (cases_lt 0 (length v.taken)) [
      | inl more ↦ inr (are.rest more)
      | inr none ↦ inl (omega (arith, handed, ap (λ (n : ℕ). frames_given n v.size) (no_more (length v.taken) none), none_given v.size wide))
    ]
  where
    no_more : (n : ℕ) → n ≤ 0 → n ≡ 0
    no_more n none = omega arith

-- where Q9 comes, no fewer bytes are declared than have room
full_with : (v : SealingValue) (all : List ℕ) → 1 ≤ v.size → refusal_with v all ≡ Some refusals.TooManyFrames → FillsMessage (fed_with v all)
full_with v all wide why =
    let many = (many_by v.declared (most_text v.size) (length all)).0 why in
    let most : most_taken v ≡ most_text v.size = most_room v.declared (most_text v.size) many.0 in
    let long : length (take (most_taken v) all) ≡ most_text v.size = omega (arith, length-take (most_taken v) all, most, many.1) in
    record { taken = long; handed = ap (λ (n : ℕ). frames_given n v.size) long ∙ frames_of_most v.size wide }

pub begins : (v : SealingValue) (piece : List ℕ) → IsFeeding v piece → IsOnTheWay v piece v piece []
begins v piece is = record { feeding = is; same = refl; same_refusal = refl; out = refl }

pub feeds : (v : SealingValue) (piece : List ℕ) → SealerIsFed v → FeedsToSealer v piece
feeds v piece is =
    let all : List ℕ = v.taken ++ piece in
    let now : SealingValue = fed_with v all in
    let more : List ℕ = take (most_taken v - length v.taken) piece in
    record {
      begins = begins v piece (is_feeding v piece is);
      same = subst (λ (w : SealingValue). IsSameMessage v w) (sym (fed_is v piece)) (record { materials = refl; declared = refl; size = refl; id = refl });
      taken = ap (λ (w : SealingValue). w.taken) (fed_is v piece);
      given = ap given_so_far (fed_is v piece) ∙ given_with v all is more (front_taken (most_taken v) v.taken piece is.short) ∙ ap (λ (l : List ℕ). given_so_far v ++ l) (sym (out_is v piece));
      least = subst (λ (w : SealingValue). IsLeastCount (length w.taken) v.size w.handed) (sym (fed_is v piece)) (least_is (length now.taken) v.size now.handed is.wide (are_given (length now.taken) v.size is.wide));
      some = subst (λ (w : SealingValue). HoldsSome w) (sym (fed_is v piece)) (some_held now is.wide refl);
      full = λ why. subst (λ (w : SealingValue). FillsMessage w) (sym (fed_is v piece)) (full_with v all is.wide (sym (refusal_is v piece) ∙ why));
      last = subst (λ (w : SealingValue). HoldsTheLast w) (sym (fed_is v piece)) (last_held now is.wide refl);
      whole = λ why.
          let fits = whole_with v all is (sym (refusal_is v piece) ∙ why) in
          (ap (λ (w : SealingValue). w.taken) (fed_is v piece) ∙ fits.0, subst (λ (w : SealingValue). SealerIsFed w) (sym (fed_is v piece)) fits.1);
    }

-- where no length is declared
pub undeclared : (v : SealingValue) → v.declared ≡ None → most_taken v ≡ most_text v.size
undeclared v none = ap (λ (o : Option ℕ). most_of o (most_text v.size)) none
