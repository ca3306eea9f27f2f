-- A piece that is fed step after step: one step more, and why no more is fed.
use Rattle.std.proofs.Common.{◌≡◌, ℕ, ◌+◌, ◌-◌, ◌<◌, ◌≤◌, true, Option, Some, None, Result, Ok, Err, List, [], ◌∷◌, ◌++◌, length, take, drop, refl, sym, ap, subst, ◌∙◌, arith, inl, append_assoc, length-append}
use Rattle.std.proofs.Math.Seq.{take-add}
use Rattle.std.proofs.lemmas.List.{append-nil, length-drop, take-append-drop, take_all}
use Rattle.std.specs.Prelude.{option_map}
use Rattle.esdk_fields.specs.declared.faults.Fault.{Fault}
use Rattle.esdk_base.specs.declared.receiver.FeedError.TheVariants as feeds
use Rattle.context_codec.specs.Context.{KeyValue}
use Rattle.header_codec.specs.declared.settings.Settings.{Settings}
use Rattle.header_codec.specs.Header.{HeaderValue}
use Rattle.header_codec.specs.Table.{HeaderFields, head, header_fault}
use Rattle.keyring_trait.specs.declared.served.Served.{Served}
use Rattle.keyring_trait.specs.Manager.{ManagerNow}
use Rattle.keyring_trait.specs.Saying.{said_last}
use Rattle.keyring_trait.specs.Unlocking.{Unlocking}
use Rattle.message_format.specs.Judgement.{Judged, content, header_of, judged}
use Rattle.stream_open.specs.declared.errors.OpenError.{OpenError}
use Rattle.stream_open.specs.declared.errors.OpenError.TheVariants as errors
use Rattle.stream_open.specs.declared.session.Opener.{Opener}
use Rattle.stream_open.specs.Asking.{Heard, Nothing, Found, Named, Failed, IsHeard}
use Rattle.stream_open.specs.Feeding.{FindsFault, GoesOn, OpenerIsFed, IsFedExactly, judged_all}
use Rattle.stream_open.specs.Receiving.{Breaks, FedShort, FedTo, FeedsOpenerPiece, FedUntil, FedWhole, PieceHasFault, StaysStopped, broken_off}
use Rattle.stream_open.specs.Session.{OpeningValue, answer_kept, asked_header, judged_now, keeping, opening_step_answer, opening_stepped}
use Rattle.stream_open.specs.Stands.{Stands, OpenerSteps, quiet}
use Rattle.stream_open.proofs.AnyCut.{unasked, unread_front}
use Rattle.stream_open.proofs.Ends.{ends_exactly}
use Rattle.stream_open.proofs.FedPieces.{Joins, asked_head, asked_kept, asked_wants, fed_as_one, heard_as, joined, joins}
use Rattle.stream_open.proofs.Feeding.{asks_about, feeds_compose, feeds_exactly, feeds_nothing, kept_answer, may_hear, runs_out_before, sure}
use Rattle.stream_open.proofs.GoingOn.{standing}
use Rattle.stream_open.proofs.Keeping.{asked_whole, in_header, used_by}
use Rattle.stream_open.proofs.Standing.{stands_quiet}

-- ---- what is left of a piece

rest_is : (piece : List ℕ) (fed : ℕ) → take (length piece - fed) (drop fed piece) ≡ drop fed piece
rest_is piece fed = take_all (length piece - fed) (drop fed piece) (omega (arith, length-drop fed piece))

-- it stands behind what was fed of it
pub left_behind : (piece : List ℕ) (fed : ℕ) → take fed piece ++ take (length piece - fed) (drop fed piece) ≡ piece
left_behind piece fed = ap (λ (b : List ℕ). take fed piece ++ b) (rest_is piece fed) ∙ take-append-drop fed piece

-- and some of it was used
pub used_behind : (piece : List ℕ) (fed used : ℕ) → take fed piece ++ take used (take (length piece - fed) (drop fed piece)) ≡ take (fed + used) piece
used_behind piece fed used = ap (λ (b : List ℕ). take fed piece ++ take used b) (rest_is piece fed) ∙ sym (take-add fed used piece)

pub left_some : (piece : List ℕ) (fed : ℕ) → fed < length piece → 1 ≤ length (take (length piece - fed) (drop fed piece))
left_some piece fed some = omega (arith, some, ap length (rest_is piece fed), length-drop fed piece)

pub left_few : (piece : List ℕ) (fed n : ℕ) → fed ≤ length piece → n ≤ length (take (length piece - fed) (drop fed piece)) → fed + n ≤ length piece
left_few piece fed n within few = omega (arith, within, few, ap length (rest_is piece fed), length-drop fed piece)

-- ---- the answer isn't want of memory

abbrev used : ℕ → Result ℕ OpenError
used n = Ok n

abbrev failed : OpenError → Result ℕ OpenError
failed error = Err error

used_memory : (n : ℕ) → used n ≡ Err errors.Memory → ⊥
used_memory n e = cc

error_memory : (error : OpenError) → failed error ≡ Err errors.Memory → error ≡ errors.Memory
error_memory error e = cc

fault_memory : (fault : Fault) → failed (errors.Fault fault) ≡ Err errors.Memory → ⊥
fault_memory fault e = cc

keyring_memory : failed errors.KeyringFault ≡ Err errors.Memory → ⊥
keyring_memory e = cc

stopped_memory : failed errors.Stopped ≡ Err errors.Memory → ⊥
stopped_memory e = cc

-- ---- a step that used bytes

-- a header that is asked about is whole with the bytes used
asked_by : (w : OpeningValue) (rest : List ℕ) (n : ℕ) (later : Heard) (o : Option HeaderValue) (a : Option Unlocking) → GoesOn w → opening_step_answer w rest later ≡ Ok n
    → asked_header w rest ≡ o → w.answer ≡ a → asked_header w (take n rest) ≡ o
asked_by w rest n later (Some h) a goes answers e is =
    asked_head w (take n rest) goes (asked_wants w rest h e)
    ∙ used_by w rest later h n (in_header w rest h e (standing w goes)) ((ends_exactly w rest later).used n answers) (asked_whole w rest h goes e)
asked_by w rest n later None (Some a) goes answers e is = asked_kept w (take n rest) a is
asked_by w rest n later None None goes answers e is =
    asked_head w (take n rest) goes is
    ∙ ap (λ (o : Option HeaderFields). option_map (header_of (w.taken ++ take n rest)) o)
    (unread_front w.settings w.taken rest n (unasked w.stopped w.answer w.settings (w.taken ++ rest) goes.going is e))

module _ {M : Type 0} (state : M → ManagerNow) (now : ℕ) (v : OpeningValue) (first given : List ℕ) (old mid new : M) (opener next : Opener) (rest : List ℕ)
    (fed : FedTo state now v first given old mid opener) where
  exactly : (answer : Result ℕ OpenError) (s : OpenerSteps (state mid) (state new) now fed.session rest answer next) → (answer ≡ Err errors.Memory → ⊥) → IsFedExactly fed.session rest s.heard
  exactly answer s known =
      let w = fed.session in
      feeds_exactly w rest s.heard fed.feeds.goes
      (may_hear (said_last (state mid) (state new)) now w.given (asked_header w rest) ⊥ s.heard
      (sure (said_last (state mid) (state new)) now w.given (asked_header w rest) (answer ≡ Err errors.Memory) s.heard known s.hears))

  pub step_fed : (n : ℕ) (s : OpenerSteps (state mid) (state new) now fed.session rest (Ok n) next) → 1 ≤ length rest → OpenerIsFed fed.session rest s.heard n
  step_fed n s some = (exactly (Ok n) s (used_memory n)).used n some s.answers

  pub step_on : (n : ℕ) (s : OpenerSteps (state mid) (state new) now fed.session rest (Ok n) next) → (asked_header fed.session rest ≡ None → new ≡ mid) → 1 ≤ length rest
      → FedTo state now v (first ++ take n rest) (given ++ (opening_stepped fed.session rest s.heard (Ok n)).out) old new next
  step_on n s stays some =
      let w = fed.session in
      let z : OpeningValue = opening_stepped w rest s.heard (Ok n) in
      let is = step_fed n s some in
      let front : asked_header w (take n rest) ≡ asked_header w rest = asked_by w rest n s.heard (asked_header w rest) w.answer fed.feeds.goes s.answers refl refl in
      let hears : IsHeard (said_last (state mid) (state new)) now w.given (asked_header w rest) ⊥ s.heard =
      sure (said_last (state mid) (state new)) now w.given (asked_header w rest) (used n ≡ Err errors.Memory) s.heard (used_memory n) s.hears in
      let j : Joins state now v (first ++ take n rest) ⊥ old new w s.heard (asked_header w (take n rest)) =
      joins state now v first (take n rest) given old mid new opener fed ⊥ s.heard
      (subst (λ (o : Option HeaderValue). IsHeard (said_last (state mid) (state new)) now w.given o ⊥ s.heard) (sym front) hears) s.bears (λ none. stays (sym front ∙ none)) in
      record {
        on = fed.on;
        session = z;
        stands = s.stands;
        feeds = feeds_compose v w z first (take n rest) given z.out fed.feeds is.feeds;
        heard = j.heard;
        hears = j.hears;
        bears = j.bears;
        answer = j.answer;
        served = j.served;
        unasked = j.unasked;
      }

  -- the session is the one that the step left
  pub session_on : (n : ℕ) (s : OpenerSteps (state mid) (state new) now fed.session rest (Ok n) next) (stays : asked_header fed.session rest ≡ None → new ≡ mid) (some : 1 ≤ length rest)
      → (step_on n s stays some).session ≡ opening_stepped fed.session rest s.heard (Ok n)
  unfolding step_on
  session_on n s stays some = refl

  -- ---- a step that failed

  -- all of the piece is judged as one
  same_all : (later : Heard) (more : List ℕ) (short : Type 0) (j : Joins state now v (first ++ rest) short old new fed.session later (asked_header fed.session rest))
      → judged_all fed.session (rest ++ more) later ≡ judged_all v ((first ++ rest) ++ more) j.heard
  same_all later more short j =
      let w = fed.session in
      ap (λ (b : List ℕ). judged b w.settings (answer_kept (keeping w later).answer)) (joined v w first (rest ++ more) fed.feeds.taken ∙ ap (λ (b : List ℕ). v.taken ++ b) (sym (append_assoc first rest more)))
      ∙ ap (λ (s : Settings). judged (v.taken ++ ((first ++ rest) ++ more)) s (answer_kept (keeping w later).answer)) fed.feeds.settings
      ∙ ap (λ (o : Option Unlocking). judged (v.taken ++ ((first ++ rest) ++ more)) v.settings (answer_kept o)) j.answer

  pub same_piece : (later : Heard) (short : Type 0) (j : Joins state now v (first ++ rest) short old new fed.session later (asked_header fed.session rest))
      → judged_all fed.session rest later ≡ judged_all v (first ++ rest) j.heard
  same_piece later short j =
      ap (λ (b : List ℕ). judged_all fed.session b later) (sym (append-nil rest)) ∙ same_all later [] short j
      ∙ ap (λ (b : List ℕ). judged_all v b j.heard) (append-nil (first ++ rest))

  faulty : (later : Heard) (short : Type 0) (fault : Fault) (j : Joins state now v (first ++ rest) short old new fed.session later (asked_header fed.session rest))
      → FindsFault fed.session rest later fault → PieceHasFault v (first ++ rest) j.heard given fault
  faulty later short fault j finds =
      let w = fed.session in
      let same = same_piece later short j in
      record {
        verdict = ap (λ (x : Judged). x.verdict) (sym same) ∙ finds.verdict;
        stays = λ more. sym (same_all later more short j) ∙ finds.stays more ∙ same;
        released = ap content (sym same) ∙ finds.released ∙ fed.feeds.content;
        unheard = λ none. ap (λ (s : Settings). header_fault s (v.taken ++ (first ++ rest))) (sym fed.feeds.settings)
            ∙ ap (λ (b : List ℕ). header_fault w.settings b) (sym (joined v w first rest fed.feeds.taken)) ∙ finds.unheard (j.answer ∙ none);
      }

  -- nothing was released, so nothing was given
  gave_none : content (judged_now fed.session) ≡ [] → given ≡ []
  gave_none none = behind (content (judged_now v)) given (sym fed.feeds.content ∙ none)
    where
      behind : (xs ys : List ℕ) → xs ++ ys ≡ [] → ys ≡ []
      behind [] ys e = e
      behind (x ∷ xs) ys e = absurd cc

  breaks : (error : OpenError) (s : OpenerSteps (state mid) (state new) now fed.session rest (Err error) next)
      (j : Joins state now v (first ++ rest) (error ≡ errors.Memory) old new fed.session s.heard (asked_header fed.session rest))
      → Breaks v (first ++ rest) j.heard given fed.session error
  breaks (errors.Fault fault) s j =
      faulty s.heard (errors.Fault fault ≡ errors.Memory) fault j ((exactly (Err (errors.Fault fault)) s (fault_memory fault)).fault fault s.answers)
  breaks errors.KeyringFault s j =
      let (is, (h, asked)) = (exactly (Err errors.KeyringFault) s keyring_memory).failed s.answers in
      (j.late h asked ∙ is, gave_none (asks_about fed.session rest h fed.feeds.goes asked).nothing)
  breaks errors.Memory s j = (s.answers, gave_none (runs_out_before fed.session s.answers))
  breaks errors.Stopped s j = (exactly (Err errors.Stopped) s stopped_memory).unstopped s.answers

-- ---- the session after an error

-- a session that is stopped, by what it keeps
abbrev off_value : Settings → List KeyValue → List ℕ → Option Unlocking → Option Served → OpeningValue
off_value settings given taken answer served =
    record { settings = settings; given = given; taken = taken; answer = answer; served = served; stopped = true; out = [] }

off_kept : (w : OpeningValue) (taken : List ℕ) (x : Heard)
    → record (keeping w x) { taken = taken; stopped = true; out = [] } ≡ off_value w.settings w.given taken (keeping w x).answer (keeping w x).served
off_kept w taken Nothing = refl
off_kept w taken (Found m) = refl
off_kept w taken (Named fault) = refl
off_kept w taken Failed = refl

off_stepped : (w : OpeningValue) (x : Heard)
    → record (keeping w x) { stopped = true; out = [] } ≡ off_value w.settings w.given w.taken (keeping w x).answer (keeping w x).served
off_stepped w Nothing = refl
off_stepped w (Found m) = refl
off_stepped w (Named fault) = refl
off_stepped w Failed = refl

broken_is : (v w : OpeningValue) (first : List ℕ) (heard later : Heard) → w.settings ≡ v.settings → w.given ≡ v.given → w.taken ≡ v.taken ++ first
    → (keeping w later).answer ≡ (keeping v heard).answer → (keeping w later).served ≡ (keeping v heard).served
    → record (keeping w later) { stopped = true; out = [] } ≡ broken_off v first heard
broken_is v w first heard later settings given taken answer served =
    off_stepped w later
    ∙ ap (λ (s : Settings). off_value s w.given w.taken (keeping w later).answer (keeping w later).served) settings
    ∙ ap (λ (g : List KeyValue). off_value v.settings g w.taken (keeping w later).answer (keeping w later).served) given
    ∙ ap (λ (b : List ℕ). off_value v.settings v.given b (keeping w later).answer (keeping w later).served) taken
    ∙ ap (λ (o : Option Unlocking). off_value v.settings v.given (v.taken ++ first) o (keeping w later).served) answer
    ∙ ap (λ (o : Option Served). off_value v.settings v.given (v.taken ++ first) (keeping v heard).answer o) served
    ∙ sym (off_kept v (v.taken ++ first) heard)

-- ---- the receiver

pub no_content : (before out : List ℕ) → before ++ out ≡ [] → (before ≡ []) × (out ≡ [])
no_content [] [] e = (refl, refl)
no_content [] (x ∷ out) e = absurd (let no : x ∷ out ≡ [] = e in cc)
no_content (x ∷ before) out e = absurd (let no : x ∷ (before ++ out) ≡ [] = e in cc)

module _ {M R E : Type 0} (state : M → ManagerNow) (takes : R → R → List ℕ → Type 0) (fails : R → R → List ℕ → E → Type 0) (now : ℕ) (v : OpeningValue) (piece : List ℕ) (count : ℕ) (old mid new : M) (before during after : R)
    (opener next : Opener) (rest : List ℕ) (within : count ≤ length piece) (behind : take count piece ++ rest ≡ piece)
    (whole : FedWhole state takes now v (take count piece) old mid before during opener) where
  -- one step more
  pub whole_on : (n : ℕ) (s : OpenerSteps (state mid) (state new) now whole.fed.session rest (Ok n) next) → (asked_header whole.fed.session rest ≡ None → new ≡ mid) → 1 ≤ length rest
      → (out : List ℕ) → out ≡ (opening_stepped whole.fed.session rest s.heard (Ok n)).out → take count piece ++ take n rest ≡ take (count + n) piece
      → takes during after out × (out ≡ [] → after ≡ during)
      → ((r s t : R) (xs ys : List ℕ) → takes r s xs → takes s t ys → takes r t (xs ++ ys))
      → FedWhole state takes now v (take (count + n) piece) old new before after next
  whole_on n s stays some out is all (takes_out, none) takes_more =
      let on = step_on state now v (take count piece) whole.given old mid new opener next rest whole.fed n s stays some in
      record {
        given = whole.given ++ out;
        fed = subst (λ (o : List ℕ). FedTo state now v (take (count + n) piece) (whole.given ++ o) old new next) (sym is)
            (subst (λ (b : List ℕ). FedTo state now v b (whole.given ++ (opening_stepped whole.fed.session rest s.heard (Ok n)).out) old new next) all on);
        taken = takes_more before during after whole.given out whole.taken takes_out;
        nothing = λ e. (let both = no_content whole.given out e in none both.1 ∙ whole.nothing both.0);
      }

  -- the receiver failed at what a step gave
  pub until_on : (n : ℕ) (s : OpenerSteps (state mid) (state new) now whole.fed.session rest (Ok n) next) → (asked_header whole.fed.session rest ≡ None → new ≡ mid) → 1 ≤ length rest
      → (out : List ℕ) (error : E) → out ≡ (opening_stepped whole.fed.session rest s.heard (Ok n)).out → take count piece ++ take n rest ≡ take (count + n) piece → count + n ≤ length piece
      → (1 ≤ length out) × fails during after out error
      → ((r s t : R) (xs ys : List ℕ) (error : E) → takes r s xs → fails s t ys error → fails r t (xs ++ ys) error)
      → FedUntil state fails now v piece error old new before after next
  until_on n s stays some out error is all fits (gave, fails_out) fails_behind =
      let on = step_on state now v (take count piece) whole.given old mid new opener next rest whole.fed n s stays some in
      record {
        count = count + n;
        within = fits;
        given = whole.given ++ out;
        some = omega (arith, gave, length-append whole.given out);
        fed = subst (λ (o : List ℕ). FedTo state now v (take (count + n) piece) (whole.given ++ o) old new next) (sym is)
            (subst (λ (b : List ℕ). FedTo state now v b (whole.given ++ (opening_stepped whole.fed.session rest s.heard (Ok n)).out) old new next) all on);
        failed = fails_behind before during after whole.given out error whole.taken fails_out;
      }

  -- the session ended with an error
  short_at : (error : OpenError) (s : OpenerSteps (state mid) (state new) now whole.fed.session rest (Err error) next) → (asked_header whole.fed.session rest ≡ None → new ≡ mid)
      → FedShort state takes now v piece error old new before during next
  short_at error s stays =
      let w = whole.fed.session in
      let hears : IsHeard (said_last (state mid) (state new)) now w.given (asked_header w rest) (error ≡ errors.Memory) s.heard =
      heard_as (said_last (state mid) (state new)) now w.given (asked_header w rest) (failed error ≡ Err errors.Memory) (error ≡ errors.Memory) s.heard (error_memory error) s.hears in
      let j : Joins state now v (take count piece ++ rest) (error ≡ errors.Memory) old new w s.heard (asked_header w rest) =
      joins state now v (take count piece) rest whole.given old mid new opener whole.fed (error ≡ errors.Memory) s.heard hears s.bears stays in
      record {
        on = whole.fed.on;
        count = count;
        within = within;
        reached = w;
        given = whole.given;
        feeds = whole.fed.feeds;
        heard = j.heard;
        hears = subst (λ (b : List ℕ). IsHeard (said_last (state old) (state new)) now v.given (asked_header v b) (error ≡ errors.Memory) j.heard) behind j.hears;
        bears = j.bears;
        unasked = λ none. j.unasked (ap (λ (b : List ℕ). asked_header v b) behind ∙ none);
        kept = λ a is.
            sym j.answer
            ∙ kept_answer w rest (failed error ≡ Err errors.Memory) s.heard a
            (may_hear (said_last (state mid) (state new)) now w.given (asked_header w rest) (failed error ≡ Err errors.Memory) s.heard s.hears) is;
        why = subst (λ (b : List ℕ). Breaks v b j.heard whole.given w error) behind (breaks state now v (take count piece) whole.given old mid new opener next rest whole.fed error s j);
        stands = subst (λ (z : OpeningValue). Stands next z)
            (broken_is v w (take count piece) j.heard s.heard whole.fed.feeds.settings whole.fed.feeds.pairs whole.fed.feeds.taken j.answer j.served) s.stands;
        taken = whole.taken;
        nothing = whole.nothing;
      }

  pub ends_at : (error : OpenError) (s : OpenerSteps (state mid) (state new) now whole.fed.session rest (Err error) next) → (asked_header whole.fed.session rest ≡ None → new ≡ mid)
      → FeedsOpenerPiece {T = Unit {0}} state takes fails now v piece old new before during next (Err (feeds.Machine error))
  ends_at (errors.Fault fault) s stays = short_at (errors.Fault fault) s stays
  ends_at errors.KeyringFault s stays = short_at errors.KeyringFault s stays
  ends_at errors.Memory s stays = short_at errors.Memory s stays
  ends_at errors.Stopped s stays = absurd (short_at errors.Stopped s stays).why

none_asked_by : (v : OpeningValue) → GoesOn v → (a : Option Unlocking) → v.answer ≡ a → asked_header v [] ≡ None
none_asked_by v goes (Some a) is = asked_kept v [] a is
none_asked_by v goes None is =
    asked_head v [] goes is
    ∙ ap (λ (b : List ℕ). option_map (header_of b) (head v.settings b)) (append-nil v.taken)
    ∙ ap (λ (o : Option HeaderFields). option_map (header_of v.taken) o) (goes.unheard is)

-- about no bytes more no header is asked
pub none_asked : (v : OpeningValue) → GoesOn v → asked_header v [] ≡ None
none_asked v goes = none_asked_by v goes v.answer refl

-- nothing was fed yet
abbrev pub whole_none : {M R : Type 0} (state : M → ManagerNow) (takes : R → R → List ℕ → Type 0) (now : ℕ) (v : OpeningValue) (manager : M) (output : R) (opener : Opener)
    → GoesOn v → Stands opener v → ((r : R) → takes r r []) → FedWhole state takes now v [] manager manager output output opener
whole_none state takes now v manager output opener goes stands takes_none = record {
  given = [];
  fed = record {
    on = goes;
    session = v;
    stands = stands;
    feeds = feeds_nothing v goes;
    heard = Nothing;
    hears = inl (none_asked v goes);
    bears = λ lines bears. bears;
    answer = refl;
    served = refl;
    unasked = λ none. refl;
  };
  taken = takes_none output;
  nothing = λ none. refl;
}

-- an earlier call answered an error
pub stays_stopped : {M R : Type 0} (opener next : Opener) (v : OpeningValue) (manager : M) (output : R) → Stands opener v → opener.stopped ≡ true
    → next.settings ≡ opener.settings → next.given ≡ opener.given → next.reader ≡ opener.reader → next.served ≡ opener.served → next.stopped ≡ opener.stopped → next.unlocked ≡ quiet opener.unlocked
    → StaysStopped v manager manager output output next
stays_stopped opener next v manager output stands off settings given reader served stopped unlocked = record {
  off = sym stands.stopped ∙ off;
  stands = stands_quiet opener next v v.stopped stands (λ e. e) settings given reader served (stopped ∙ stands.stopped) unlocked;
  unasked = refl;
  untaken = refl;
}

-- two pieces that were fed to their ends are one
pub whole_as_one : {M R : Type 0} (state : M → ManagerNow) (takes : R → R → List ℕ → Type 0) (now : ℕ) (v : OpeningValue) (first second : List ℕ) (old mid new : M) (before during after : R) (opener next : Opener)
    (one : FedWhole state takes now v first old mid before during opener) → FedWhole state takes now one.fed.session second mid new during after next
    → ((r s t : R) (xs ys : List ℕ) → takes r s xs → takes s t ys → takes r t (xs ++ ys))
    → FedWhole state takes now v (first ++ second) old new before after next
whole_as_one state takes now v first second old mid new before during after opener next one other takes_more = record {
  given = one.given ++ other.given;
  fed = fed_as_one state old mid new now v first second one.given other.given opener next one.fed other.fed;
  taken = takes_more before during after one.given other.given one.taken other.taken;
  nothing = λ e. (let both = no_content one.given other.given e in other.nothing both.1 ∙ one.nothing both.0);
}
