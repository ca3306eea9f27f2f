-- The sessions that are live at a map of machines, after one of them changed.
use Rattle.std.proofs.Common.{◌≡◌, ℕ, ◌<◌, List, Bool, true, false, cond, nat_eq, nat_lt, Option, Some, None, Result, Ok, Err, IfOk, refl, sym, ap, subst, ◌∙◌, arith}
use Rattle.std.proofs.lemmas.Bool.{eqb-true, ltb-true, ne_eqb}
use Rattle.std.specs.declared.cmp.Ordering.TheVariants.{Less, Equal, Greater}
use Rattle.std.specs.Prelude.{option_map, box_value}
use Rattle.std.specs.BTreeMap.{BTreeMap, get, is_at}
use Rattle.std.specs.Global.{Box}
use Rattle.std.specs.Map.{update}
use Rattle.std.specs.Ordering.{is_eq, nat_cmp}
use Rattle.keyring_trait.specs.declared.journal.JournalLine.{JournalLine}
use Rattle.keyring_trait.specs.Manager.{ManagerNow}
use Rattle.keyring_trait.specs.Saying.{said_last}
use Rattle.desk_core.specs.declared.errors.DeskError.{DeskError}
use Rattle.desk_core.specs.declared.session.Session.{Session}
use Rattle.desk_core.specs.Session.{SessionValue, Turn, answered, desk_fed, desk_step_answer, desk_stepped}
use Rattle.desk_core.specs.Calls.{MayHear}
use Rattle.desk_core.specs.Stands.{StandsFor, IsLive, StandsAtNumber, AreLive, machine_at}
use Rattle.desk_core.specs.Steps.{DeskSteps, StepsAt}

-- a number is at a key exactly where they are equal
pub is_number : (k q : ℕ) → is_at (nat_cmp k) q ≡ nat_eq k q
is_number k q =
    (elim (nat_lt k q) as (λ b. nat_lt k q ≡ b → is_eq (cond b Less (cond (nat_eq k q) Equal Greater)) ≡ nat_eq k q) [
      | true ↦ λ e. let less : k < q = ltb-true k q e in sym (ne_eqb k q (λ (h : k ≡ q). omega arith))
      | false ↦ λ e. elim (nat_eq k q) as (λ b. is_eq (cond b Equal Greater) ≡ b) [ true ↦ refl | false ↦ refl ]
    ]) refl

-- at this number stands a machine for a session, or none for none; the others are as before
pub are_live_after : (old new : BTreeMap ℕ (Box Session)) (live : ℕ → Option SessionValue) (id : ℕ) (machine : Option (Box Session)) (s : Option SessionValue) → AreLive old live
    → ((q : ℕ) → get nat_cmp new q ≡ cond (is_at (nat_cmp id) q) machine (get nat_cmp old q)) → StandsAtNumber (option_map box_value machine) s → AreLive new (update nat_eq live id s)
are_live_after old new live id machine s before updates at q =
    subst (λ (o : Option (Box Session)). StandsAtNumber (option_map box_value o) (update nat_eq live id s q))
    (sym (updates q ∙ ap (λ (b : Bool). cond b machine (get nat_cmp old q)) (is_number id q)))
    (elim (nat_eq id q) as (λ b. StandsAtNumber (option_map box_value (cond b machine (get nat_cmp old q))) (cond b s (live q))) [ true ↦ at | false ↦ before q ])

-- what isn't live can be said not to be
pub update_none : (live : ℕ → Option SessionValue) (id : ℕ) → live id ≡ None → (q : ℕ) → update nat_eq live id None q ≡ live q
update_none live id none q =
    (elim (nat_eq id q) as (λ b. nat_eq id q ≡ b → cond b None (live q) ≡ live q)
    [ true ↦ λ e. sym (ap live (sym (eqb-true id q e)) ∙ none) | false ↦ λ e. refl ]) refl

pub are_live_same : (sessions : BTreeMap ℕ (Box Session)) (live : ℕ → Option SessionValue) (id : ℕ) → AreLive sessions live → live id ≡ None → AreLive sessions (update nat_eq live id None)
are_live_same sessions live id before none q = subst (λ (s : Option SessionValue). StandsAtNumber (machine_at sessions q) s) (sym (update_none live id none q)) (before q)

-- ---- a step

-- the machine that is left after a step that answered so
abbrev pub machine_left : Result ℕ DeskError → Box Session → Option (Box Session)
machine_left (Ok used) machine = Some machine
machine_left (Err error) machine = None

pub answered_is : {A : Type 0} (r : Result A DeskError) (s : SessionValue) (left : Option SessionValue) → (answered r s left).answer ≡ r
answered_is (Ok value) s left = refl
answered_is (Err error) s left = refl

stands_left : (r : Result ℕ DeskError) (machine : Box Session) (s : SessionValue) → IfOk r (λ _. StandsFor machine.value s) → IfOk r (λ _. IsLive s)
    → StandsAtNumber (option_map box_value (machine_left r machine)) (answered r s (Some s)).left
stands_left (Ok used) machine s stands live = (stands, live)
stands_left (Err error) machine s stands live = tt

-- the value is written at the key, and then the key is taken out
pub taken_out : {X : Type 0} (b : Bool) (first then last written : Option X) → then ≡ cond b written first → last ≡ cond b None then → last ≡ cond b None first
taken_out true first then last written e f = f
taken_out false first then last written e f = f ∙ e

pub steps_at : (m n : ManagerNow) (live : ℕ → Option SessionValue) (id now : ℕ) (piece : List ℕ) (result : Result ℕ DeskError) (old new : BTreeMap ℕ (Box Session)) (machine next : Box Session)
    (before after : List JournalLine) → AreLive old live → Some machine ≡ get nat_cmp old id
    → ((s : SessionValue) → StandsFor machine.value s → IsLive s → DeskSteps m n s id now piece result next.value before after)
    → ((q : ℕ) → get nat_cmp new q ≡ cond (is_at (nat_cmp id) q) (machine_left result next) (get nat_cmp old q)) → StepsAt m n live id now piece result new before after
steps_at m n live id now piece result old new machine next before after alive there steps updates = by (live id) refl
  where
    at : (o : Option SessionValue) → live id ≡ o → StandsAtNumber (Some machine.value) o
    at o e = subst (λ (p : Option (Box Session)). StandsAtNumber (option_map box_value p) o) (sym there) (subst (λ (p : Option SessionValue). StandsAtNumber (machine_at old id) p) e (alive id))

    by : (o : Option SessionValue) → live id ≡ o → StepsAt m n live id now piece result new before after
    by None e = absurd (at None e)
    by (Some s) e =
        let step = steps s (at (Some s) e).0 (at (Some s) e).1 in
        let then : SessionValue = desk_stepped s piece step.heard step.short in
        let turn : Turn ℕ = desk_fed (Some s) piece step.heard step.short in
        let left : StandsAtNumber (option_map box_value (machine_left result next)) turn.left =
        subst (λ (r : Result ℕ DeskError). StandsAtNumber (option_map box_value (machine_left result next)) (answered r then (Some then)).left) step.answer (stands_left result next then step.stands step.live) in
        record {
          heard = step.heard;
          short = step.short;
          hears = subst (λ (o : Option SessionValue). MayHear (said_last m n) now o piece step.heard step.short) (sym e) step.hears;
          bears = step.bears;
          journal = step.journal;
          answer = subst (λ (o : Option SessionValue). result ≡ (desk_fed o piece step.heard step.short).answer) (sym e)
              (step.answer ∙ sym (answered_is (desk_step_answer s piece step.heard step.short) then (Some then)));
          left = subst (λ (o : Option SessionValue). AreLive new (update nat_eq live id (desk_fed o piece step.heard step.short).left)) (sym e)
              (are_live_after old new live id (machine_left result next) turn.left alive updates left);
        }
