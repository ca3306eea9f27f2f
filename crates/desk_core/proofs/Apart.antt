-- No session sees another: one call, and calls in a row.
use Rattle.std.proofs.Common.{◌≡◌, ◌≢◌, ℕ, List, [], ◌∷◌, ◌++◌, Bool, true, false, cond, if◌then◌else◌, nat_eq, Option, refl, sym, ap, subst, ◌∙◌}
use Rattle.std.proofs.lemmas.Bool.{eqb-true, eqb-false}
use Rattle.std.proofs.lemmas.Map.{update_apart, update_here}
use Rattle.desk_core.specs.Session.{SessionValue, dropped, ended, desk_fed, open_opened, seal_opened}
use Rattle.desk_core.specs.Desk.{DeskValue, DeskCall, OpenSeal, OpenOpen, Feed, End, DropSession, DeskEvent, Handed, after_desk_call, after_desk_event, empty_desk, handed, handed_by, handed_in, own}
use Rattle.desk_core.specs.Laws.{ActsAlone, HandsItsOwn}

-- ---- one call

others_after : (v : DeskValue) (id : ℕ) (short : Bool) (call : DeskCall) (s : ℕ) → s ≢ id → (after_desk_call v id short call).live s ≡ v.live s
others_after v id short (OpenSeal request now random reply) s apart = update_apart v.live id (seal_opened request random reply short id).left s apart
others_after v id short (OpenOpen settings given) s apart = update_apart v.live id (open_opened settings given short id).left s apart
others_after v id short (Feed now piece heard) s apart = update_apart v.live id (desk_fed (v.live id) piece heard short).left s apart
others_after v id short End s apart = update_apart v.live id (ended (v.live id)).left s apart
others_after v id short DropSession s apart = update_apart v.live id (dropped (v.live id)).left s apart

-- what its own session is worth after a call
left_by : ℕ → Bool → Option SessionValue → DeskCall → Option SessionValue
left_by id short live (OpenSeal request now random reply) = (seal_opened request random reply short id).left
left_by id short live (OpenOpen settings given) = (open_opened settings given short id).left
left_by id short live (Feed now piece heard) = (desk_fed live piece heard short).left
left_by id short live End = (ended live).left
left_by id short live DropSession = (dropped live).left

own_after : (v : DeskValue) (id : ℕ) (short : Bool) (call : DeskCall) → (after_desk_call v id short call).live id ≡ left_by id short (v.live id) call
unfolding left_by
own_after v id short (OpenSeal request now random reply) = update_here v.live id (seal_opened request random reply short id).left
own_after v id short (OpenOpen settings given) = update_here v.live id (open_opened settings given short id).left
own_after v id short (Feed now piece heard) = update_here v.live id (desk_fed (v.live id) piece heard short).left
own_after v id short End = update_here v.live id (ended (v.live id)).left
own_after v id short DropSession = update_here v.live id (dropped (v.live id)).left

same_after : (v w : DeskValue) (e : DeskEvent) → w.live e.session ≡ v.live e.session → (after_desk_event w e).live e.session ≡ (after_desk_event v e).live e.session
same_after v w e same =
    own_after w e.session e.short e.call ∙ ap (λ (o : Option SessionValue). left_by e.session e.short o e.call) same ∙ sym (own_after v e.session e.short e.call)

same_handed : (v w : DeskValue) (e : DeskEvent) → w.live e.session ≡ v.live e.session → handed_by w e ≡ handed_by v e
same_handed v w e same = ap (λ (o : Option SessionValue). handed_in e.session e.short o e.call) same

pub acts_alone : ActsAlone
acts_alone = λ v e. record {
  others = λ s apart. others_after v e.session e.short e.call s apart;
  handed = λ w same. same_handed v w e same;
  own = λ w same. same_after v w e same;
}

-- ---- calls in a row

handed_own : (s : ℕ) (e : DeskEvent) (es : List DeskEvent) (v : DeskValue) → nat_eq e.session s ≡ true → handed s (e ∷ es) v ≡ handed_by v e ∷ handed s es (after_desk_event v e)
unfolding handed
handed_own s e es v t = ap (λ (b : Bool). (if b then handed_by v e ∷ [] else []) ++ handed s es (after_desk_event v e)) t

handed_other : (s : ℕ) (e : DeskEvent) (es : List DeskEvent) (v : DeskValue) → nat_eq e.session s ≡ false → handed s (e ∷ es) v ≡ handed s es (after_desk_event v e)
unfolding handed
handed_other s e es v t = ap (λ (b : Bool). (if b then handed_by v e ∷ [] else []) ++ handed s es (after_desk_event v e)) t

own_own : (s : ℕ) (e : DeskEvent) (es : List DeskEvent) → nat_eq e.session s ≡ true → own s (e ∷ es) ≡ e ∷ own s es
own_own s e es t = ap (λ (b : Bool). cond b (e ∷ own s es) (own s es)) t

own_other : (s : ℕ) (e : DeskEvent) (es : List DeskEvent) → nat_eq e.session s ≡ false → own s (e ∷ es) ≡ own s es
own_other s e es t = ap (λ (b : Bool). cond b (e ∷ own s es) (own s es)) t

handed_none : (s : ℕ) (v w : DeskValue) → handed s [] v ≡ handed s [] w
unfolding handed
handed_none s v w = refl

-- what a session is handed rests on what it is worth alone
abbrev HandsAlike : ℕ → List DeskEvent → Type 0
HandsAlike s es = (v w : DeskValue) → v.live s ≡ w.live s → handed s es v ≡ handed s (own s es) w

hands_more : (s : ℕ) (e : DeskEvent) (es : List DeskEvent) → HandsAlike s es → HandsAlike s (e ∷ es)
hands_more s e es rest v w same = by (nat_eq e.session s) refl
  where
    by : (b : Bool) → nat_eq e.session s ≡ b → handed s (e ∷ es) v ≡ handed s (own s (e ∷ es)) w
    by true t =
        let is : e.session ≡ s = eqb-true e.session s t in
        let here : w.live e.session ≡ v.live e.session = ap w.live is ∙ sym same ∙ sym (ap v.live is) in
        let after : (after_desk_event w e).live s ≡ (after_desk_event v e).live s =
        subst (λ (id : ℕ). (after_desk_event w e).live id ≡ (after_desk_event v e).live id) is (same_after v w e here) in
        handed_own s e es v t
        ∙ ap (λ (h : Handed). h ∷ handed s es (after_desk_event v e)) (sym (same_handed v w e here))
        ∙ ap (λ (hs : List Handed). handed_by w e ∷ hs) (rest (after_desk_event v e) (after_desk_event w e) (sym after))
        ∙ sym (handed_own s e (own s es) w t)
        ∙ sym (ap (λ (l : List DeskEvent). handed s l w) (own_own s e es t))
    by false t =
        let apart : s ≢ e.session = λ is. eqb-false e.session s t (sym is) in
        handed_other s e es v t
        ∙ rest (after_desk_event v e) w (others_after v e.session e.short e.call s apart ∙ same)
        ∙ sym (ap (λ (l : List DeskEvent). handed s l w) (own_other s e es t))

hands : (s : ℕ) (es : List DeskEvent) → HandsAlike s es
hands s [] = λ v w same. handed_none s v w
hands s (e ∷ es) = hands_more s e es (hands s es)

pub hands_its_own : HandsItsOwn
hands_its_own = λ s events. hands s events empty_desk empty_desk refl
