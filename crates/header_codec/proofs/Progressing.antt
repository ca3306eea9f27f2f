-- A header that is read field by field: what each step leaves to be read, and where it stops.
use Rattle.std.proofs.Common.{◌≡◌, ℕ, ◌+◌, ◌-◌, ◌≤◌, true, List, [], ◌∷◌, ◌++◌, take, Option, Some, None, refl, sym, subst, ◌∙◌, arith}
use Rattle.std.specs.Prelude.{is_some, IfSome}
use Rattle.esdk_fields.specs.declared.stops.Stop.{Stop}
use Rattle.esdk_fields.specs.Place.{Place, start}
use Rattle.esdk_fields.specs.Reading.{Read, ◌>>=◌, done}
use Rattle.esdk_fields.specs.Gives.{StopsAt}
use Rattle.context_codec.specs.Split.{SpellsContext}
use Rattle.edk_codec.specs.Entry.{Entry}
use Rattle.header_codec.specs.declared.settings.Settings.{Settings}
use Rattle.header_codec.specs.declared.progress.Front.{Front}
use Rattle.header_codec.specs.declared.progress.Progress.{Progress}
use Rattle.header_codec.specs.Header.{Opening, latest_end}
use Rattle.header_codec.specs.Table.{opening, context_field, entry, header, BeginsWith}
use Rattle.header_codec.specs.Rest.{Ending, ending, keys_count, fields_with, after_all_keys, after_some_keys, after_front, place_past, Resumes}
use Rattle.header_codec.specs.Progress.{front_opening, rest, latest_rest, HasReadSoFar}
use Rattle.header_codec.proofs.Steps.{after_context, after_opening}
use Rattle.header_codec.proofs.Order.{IsSequential-opening, IsSequential-context_field, IsSequential-entry}
use Rattle.header_codec.proofs.Whole.{begins_with}
use Rattle.header_codec.proofs.Resuming.{resumes_first, resumes_more, resumes_opening, resumes_front, after_entry, resumes_entry, resumes_ending, reads_now, stops_now, place_behind, passes, IsSequential-keys_count}

-- ---- where reading stands

-- `HasReadSoFar` of a progress whose parts are these
record HoldsAs (bytes : List ℕ) (settings : Settings) (front : Option Front) (left : Option ℕ) (entries : List Entry) (at : ℕ) : Type 0 where
  context : List ℕ
  spells : IfSome front (λ f. SpellsContext context f.stored)
  resumes : Resumes settings bytes at (rest settings context front left entries)
  within : at ≤ latest_rest front left

made : (bytes : List ℕ) (p : Progress) → HoldsAs bytes p.settings p.front p.left p.keys.items p.at → HasReadSoFar bytes p
made bytes p h = record { context = h.context; spells = h.spells; resumes = h.resumes; within = h.within }

-- a progress with these parts
made_of : (bytes : List ℕ) (p : Progress) (settings : Settings) (front : Option Front) (left : Option ℕ) (entries : List Entry) (at : ℕ)
    → p.settings ≡ settings → p.front ≡ front → p.left ≡ left → p.keys.items ≡ entries → p.at ≡ at → HoldsAs bytes settings front left entries at → HasReadSoFar bytes p
made_of bytes p settings front left entries at e1 e2 e3 e4 e5 h =
    made bytes p
    (subst (λ (s : Settings). HoldsAs bytes s p.front p.left p.keys.items p.at) (sym e1)
    (subst (λ (f : Option Front). HoldsAs bytes settings f p.left p.keys.items p.at) (sym e2)
    (subst (λ (l : Option ℕ). HoldsAs bytes settings front l p.keys.items p.at) (sym e3)
    (subst (λ (k : List Entry). HoldsAs bytes settings front left k p.at) (sym e4)
    (subst (λ (n : ℕ). HoldsAs bytes settings front left entries n) (sym e5) h)))))

seen : (bytes : List ℕ) (p : Progress) (front : Option Front) (left : Option ℕ) → p.front ≡ front → p.left ≡ left → HasReadSoFar bytes p → HoldsAs bytes p.settings front left p.keys.items p.at
seen bytes p front left e f h =
    subst (λ (o : Option Front). HoldsAs bytes p.settings o left p.keys.items p.at) e
    (subst (λ (l : Option ℕ). HoldsAs bytes p.settings p.front l p.keys.items p.at) f
    (record { context = h.context; spells = h.spells; resumes = h.resumes; within = h.within }))

pub some_is : {A : Type 0} (o : Option A) → is_some o ≡ true → (x : A) × (o ≡ Some x)
some_is None e = absurd cc
some_is (Some x) e = (x, refl)

pub some_same : {A : Type 0} (x y : A) → Some x ≡ Some y → x ≡ y
some_same x y e = cc

-- nothing was read
pub holds_first : (bytes : List ℕ) (p : Progress) → p.front ≡ None → p.at ≡ 0 → HasReadSoFar bytes p
holds_first bytes p none zero =
    made_of bytes p p.settings None p.left p.keys.items 0 refl none refl refl zero (record { context = []; spells = tt; resumes = resumes_first p.settings bytes; within = omega arith })

-- more bytes came
pub holds_more : (bytes piece : List ℕ) (p : Progress) → HasReadSoFar bytes p → HasReadSoFar (bytes ++ piece) p
holds_more bytes piece p h = record {
  context = h.context;
  spells = h.spells;
  resumes = resumes_more p.settings bytes piece p.at (rest p.settings h.context p.front p.left p.keys.items) h.resumes;
  within = h.within;
}

-- ---- opening and context

first : (bytes : List ℕ) (p : Progress) → p.front ≡ None → HasReadSoFar bytes p → Resumes p.settings bytes p.at (opening p.settings.uncommitted >>= after_opening p.settings)
first bytes p none h = resumes_opening p.settings bytes p.at (seen bytes p None p.left none refl h).resumes

pub first_within : (bytes : List ℕ) (p : Progress) → p.front ≡ None → HasReadSoFar bytes p → p.at ≤ 0
first_within bytes p none h = (seen bytes p None p.left none refl h).within

pub opening_stops : (bytes : List ℕ) (p : Progress) (stop : Stop) → p.front ≡ None → HasReadSoFar bytes p → StopsAt stop (opening p.settings.uncommitted (place_past p.at bytes))
    → StopsAt stop (header p.settings (start bytes))
opening_stops bytes p stop none h e = stops_now p.settings bytes p.at (opening p.settings.uncommitted) (after_opening p.settings) stop (first bytes p none h) e

pub context_stops : (bytes : List ℕ) (p : Progress) (o : Opening) (mid : Place) (stop : Stop) → p.front ≡ None → HasReadSoFar bytes p
    → opening p.settings.uncommitted (place_past p.at bytes) ≡ Read o mid → StopsAt stop (context_field mid) → StopsAt stop (header p.settings (start bytes))
context_stops bytes p o mid stop none h opened e =
    let s = IsSequential-opening p.settings.uncommitted in
    let at_mid = place_behind bytes p.at (opening p.settings.uncommitted) o mid s opened in
    stops_now p.settings bytes mid.at context_field (after_context p.settings o) stop
    (passes p.settings bytes p.at (opening p.settings.uncommitted) (after_opening p.settings) o mid s (first bytes p none h) opened)
    (subst (λ (q : Place). StopsAt stop (context_field q)) at_mid e)

pub front_read : (bytes : List ℕ) (p next : Progress) (f : Front) (o : Opening) (mid end : Place) (context : List ℕ) → p.front ≡ None → HasReadSoFar bytes p
    → opening p.settings.uncommitted (place_past p.at bytes) ≡ Read o mid → context_field mid ≡ Read context end → SpellsContext context f.stored → front_opening f ≡ o → end.at ≤ 65573
    → next.settings ≡ p.settings → next.front ≡ Some f → next.left ≡ None → next.at ≡ end.at → HasReadSoFar bytes next
front_read bytes p next f o mid end context none h opened read spells same within e1 e2 e3 e5 =
    let s = IsSequential-opening p.settings.uncommitted in
    let at_mid = place_behind bytes p.at (opening p.settings.uncommitted) o mid s opened in
    let middle : Resumes p.settings bytes mid.at (context_field >>= after_context p.settings o) =
    passes p.settings bytes p.at (opening p.settings.uncommitted) (after_opening p.settings) o mid s (first bytes p none h) opened in
    let behind_context : Resumes p.settings bytes end.at (after_context p.settings o context) =
    passes p.settings bytes mid.at context_field (after_context p.settings o) context end IsSequential-context_field middle
    (subst (λ (q : Place). context_field q ≡ Read context end) at_mid read) in
    made_of bytes next p.settings (Some f) None next.keys.items end.at e1 e2 e3 refl e5 (record {
      context = context;
      spells = spells;
      resumes = subst (λ (x : Opening). Resumes p.settings bytes end.at (after_front p.settings x context)) (sym same) (resumes_front p.settings bytes end.at o context behind_context);
      within = within;
    })

-- ---- the count of the encrypted data keys

pub count_stops : (bytes : List ℕ) (p : Progress) (stop : Stop) → is_some p.front ≡ true → p.left ≡ None → HasReadSoFar bytes p
    → StopsAt stop (keys_count p.settings.max_keys (place_past p.at bytes)) → StopsAt stop (header p.settings (start bytes))
count_stops bytes p stop some none h e =
    let f = some_is p.front some in
    let s = seen bytes p (Some f.0) None f.1 none h in
    stops_now p.settings bytes p.at (keys_count p.settings.max_keys) (after_some_keys p.settings (front_opening f.0) s.context []) stop s.resumes e

pub count_within : (bytes : List ℕ) (p : Progress) → is_some p.front ≡ true → p.left ≡ None → HasReadSoFar bytes p → p.at ≤ 65573
count_within bytes p some none h =
    let f = some_is p.front some in
    (seen bytes p (Some f.0) None f.1 none h).within

pub count_read : (bytes : List ℕ) (p next : Progress) (n : ℕ) (end : Place) → is_some p.front ≡ true → p.left ≡ None → HasReadSoFar bytes p
    → keys_count p.settings.max_keys (place_past p.at bytes) ≡ Read n end → end.at ≡ p.at + 2
    → next.settings ≡ p.settings → next.front ≡ p.front → next.left ≡ Some n → next.keys.items ≡ [] → next.at ≡ end.at → HasReadSoFar bytes next
count_read bytes p next n end some none h read further e1 e2 e3 e4 e5 =
    let f = some_is p.front some in
    let s = seen bytes p (Some f.0) None f.1 none h in
    made_of bytes next p.settings (Some f.0) (Some n) [] end.at e1 (e2 ∙ f.1) e3 e4 e5 (record {
      context = s.context;
      spells = s.spells;
      resumes = passes p.settings bytes p.at (keys_count p.settings.max_keys) (after_some_keys p.settings (front_opening f.0) s.context []) n end (IsSequential-keys_count p.settings.max_keys) s.resumes read;
      within = omega (arith, s.within, further);
    })

-- ---- the entries

pub entry_within : (bytes : List ℕ) (p : Progress) (left : ℕ) → is_some p.front ≡ true → p.left ≡ Some left → HasReadSoFar bytes p → p.at ≤ latest_end
entry_within bytes p left some is h =
    let f = some_is p.front some in
    (seen bytes p (Some f.0) (Some left) f.1 is h).within

pub entry_stops : (bytes : List ℕ) (p : Progress) (left : ℕ) (stop : Stop) → is_some p.front ≡ true → p.left ≡ Some left → 1 ≤ left → HasReadSoFar bytes p
    → StopsAt stop (entry (place_past p.at bytes)) → StopsAt stop (header p.settings (start bytes))
entry_stops bytes p left stop some is one h e =
    let f = some_is p.front some in
    let s = seen bytes p (Some f.0) (Some left) f.1 is h in
    stops_now p.settings bytes p.at entry (after_entry p.settings (front_opening f.0) s.context p.keys.items (left - 1)) stop
    (resumes_entry p.settings bytes p.at (front_opening f.0) s.context p.keys.items left one s.resumes) e

pub entry_read : (bytes : List ℕ) (p next : Progress) (left : ℕ) (x : Entry) (end : Place) → is_some p.front ≡ true → p.left ≡ Some left → 1 ≤ left → HasReadSoFar bytes p
    → entry (place_past p.at bytes) ≡ Read x end → end.at ≤ latest_end
    → next.settings ≡ p.settings → next.front ≡ p.front → next.left ≡ Some (left - 1) → next.keys.items ≡ p.keys.items ++ x ∷ [] → next.at ≡ end.at → HasReadSoFar bytes next
entry_read bytes p next left x end some is one h read within e1 e2 e3 e4 e5 =
    let f = some_is p.front some in
    let s = seen bytes p (Some f.0) (Some left) f.1 is h in
    made_of bytes next p.settings (Some f.0) (Some (left - 1)) (p.keys.items ++ x ∷ []) end.at e1 (e2 ∙ f.1) e3 e4 e5 (record {
      context = s.context;
      spells = s.spells;
      resumes = passes p.settings bytes p.at entry (after_entry p.settings (front_opening f.0) s.context p.keys.items (left - 1)) x end IsSequential-entry
          (resumes_entry p.settings bytes p.at (front_opening f.0) s.context p.keys.items left one s.resumes) read;
      within = within;
    })

-- ---- what follows them

pub ending_stops : (bytes : List ℕ) (p : Progress) (f : Front) (stop : Stop) → p.front ≡ Some f → p.left ≡ Some 0 → HasReadSoFar bytes p
    → StopsAt stop (ending f.suite p.settings.max_unit (place_past p.at bytes)) → StopsAt stop (header p.settings (start bytes))
ending_stops bytes p f stop some is h e =
    let s = seen bytes p (Some f) (Some 0) some is h in
    stops_now p.settings bytes p.at (ending f.suite p.settings.max_unit) (λ e. done (fields_with (front_opening f) s.context p.keys.items e)) stop
    (resumes_ending p.settings bytes p.at (front_opening f) s.context p.keys.items s.resumes) e

-- the header was read, and its context spells the stored pairs
pub record IsRead (bytes : List ℕ) (p : Progress) (f : Front) (e : Ending) (end : Place) : Type 0 where
  pub context : List ℕ
  pub spells : SpellsContext context f.stored
  pub read : header p.settings (start bytes) ≡ Read (fields_with (front_opening f) context p.keys.items e) end

pub ending_read : (bytes : List ℕ) (p : Progress) (f : Front) (e : Ending) (end : Place) → p.front ≡ Some f → p.left ≡ Some 0 → HasReadSoFar bytes p
    → ending f.suite p.settings.max_unit (place_past p.at bytes) ≡ Read e end → IsRead bytes p f e end
ending_read bytes p f e end some is h read =
    let s = seen bytes p (Some f) (Some 0) some is h in
    record {
      context = s.context;
      spells = s.spells;
      read = reads_now p.settings bytes p.at (after_all_keys p.settings (front_opening f) s.context p.keys.items)
          (resumes_ending p.settings bytes p.at (front_opening f) s.context p.keys.items s.resumes)
          ∙ rw read refl;
    }

-- the header that it is, made of the parts that were kept
pub found_whole : (bytes : List ℕ) (p : Progress) (f : Front) (e : Ending) (end : Place) (at : ℕ) (entries : List Entry) (commitment raw tag : List ℕ) → IsRead bytes p f e end
    → at ≡ end.at → entries ≡ p.keys.items → commitment ≡ e.commitment → raw ≡ take e.size bytes → tag ≡ e.tag
    → (left : List ℕ) × BeginsWith p.settings bytes (record { suite = f.suite; message_id = f.id.items; stored = f.stored; entries = entries; content = e.content; commitment = commitment; raw = raw; iv = e.iv; tag = tag }) (record { at = at; left = left })
found_whole bytes p f e end at entries commitment raw tag r at_end is-entries is-commitment is-raw is-tag =
    begins_with p.settings bytes (fields_with (front_opening f) r.context p.keys.items e) end f.stored at f.id.items entries commitment raw tag r.read r.spells at_end refl is-entries is-commitment is-raw is-tag
