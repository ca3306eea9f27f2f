-- A session that is fed one piece after another asks its manager once at the most.
use Rattle.std.proofs.Common.{◌≡◌, ℕ, Bool, true, false, Option, Some, None, List, ◌++◌, if◌then◌else◌, refl, sym, ap, subst, ◌∙◌, inl, inr, append_assoc}
use Rattle.std.specs.Prelude.{option_map}
use Rattle.esdk_fields.specs.Place.{start}
use Rattle.context_codec.specs.Context.{KeyValue}
use Rattle.header_codec.specs.declared.settings.Settings.{Settings}
use Rattle.header_codec.specs.Header.{HeaderValue}
use Rattle.header_codec.specs.Table.{HeaderFields, header}
use Rattle.keyring_trait.specs.Manager.{ManagerNow}
use Rattle.keyring_trait.specs.Saying.{Saying, said_last}
use Rattle.keyring_trait.specs.Unlocking.{Unlocking}
use Rattle.message_format.specs.Judgement.{header_of}
use Rattle.stream_open.specs.declared.session.Opener.{Opener}
use Rattle.stream_open.specs.Asking.{Heard, Nothing, Found, Named, Failed, served_in, IsHeard, BearsHeard}
use Rattle.stream_open.specs.Feeding.{GoesOn, KeepsAnswer, header_in}
use Rattle.stream_open.specs.Receiving.{FedAsOne, FedTo}
use Rattle.stream_open.specs.Session.{OpeningValue, header_asked, asked_header, keeping}
use Rattle.stream_open.proofs.AnyCut.{asked_by}
use Rattle.stream_open.proofs.Feeding.{asked_now, feeds_compose, sure}
use Rattle.stream_open.proofs.Keeping.{header_on}

-- ---- about which header is asked

abbrev none : Option HeaderValue
none = None

some_none : {A : Type 0} (a : A) → Some a ≡ None → ⊥
some_none a e = cc

-- none, where an answer is kept
kept_by : (b : Bool) (o : Option Unlocking) (settings : Settings) (bytes : List ℕ) (a : Unlocking) → o ≡ Some a
    → (if b then None else header_asked o settings bytes) ≡ none
kept_by true o settings bytes a e = refl
kept_by false (Some x) settings bytes a e = refl
kept_by false None settings bytes a e = absurd cc

pub asked_kept : (v : OpeningValue) (bytes : List ℕ) (a : Unlocking) → v.answer ≡ Some a → asked_header v bytes ≡ None
asked_kept v bytes a e = kept_by v.stopped v.answer v.settings (v.taken ++ bytes) a e

pub asked_wants : (v : OpeningValue) (bytes : List ℕ) (h : HeaderValue) → asked_header v bytes ≡ Some h → v.answer ≡ None
asked_wants v bytes h e = asked_by v.stopped v.answer v.settings (v.taken ++ bytes) h e

-- else the one that is whole
pub asked_head : (v : OpeningValue) (bytes : List ℕ) → GoesOn v → v.answer ≡ None → asked_header v bytes ≡ header_in v.settings (v.taken ++ bytes)
asked_head v bytes goes e = asked_now v bytes goes e

-- an answer that isn't kept later wasn't kept before
none_before : (before after : Option Unlocking) → ((a : Unlocking) → before ≡ Some a → after ≡ Some a) → after ≡ None → before ≡ None
none_before None after kept e = refl
none_before (Some a) after kept e = absurd (some_none a (sym (kept a refl) ∙ e))

-- ---- what is heard, by whom

pub heard_as : (manager : Saying) (moment : ℕ) (given : List KeyValue) (asked : Option HeaderValue) (short other : Type 0) (heard : Heard)
    → (short → other) → IsHeard manager moment given asked short heard → IsHeard manager moment given asked other heard
heard_as manager moment given asked short other Nothing sure (inl is) = inl is
heard_as manager moment given asked short other Nothing sure (inr is) = inr (sure is)
heard_as manager moment given asked short other (Found m) sure is = is
heard_as manager moment given asked short other (Named fault) sure is = is
heard_as manager moment given asked short other Failed sure is = is

-- where none is asked about, nothing is heard
unheard : (manager : Saying) (moment : ℕ) (given : List KeyValue) (asked : Option HeaderValue) (short : Type 0) (heard : Heard)
    → asked ≡ None → IsHeard manager moment given asked short heard → heard ≡ Nothing
unheard manager moment given asked short Nothing e is = refl
unheard manager moment given asked short (Found m) e (h, asks, finds) = absurd (some_none h (sym asks ∙ e))
unheard manager moment given asked short (Named fault) e (h, asks, finds) = absurd (some_none h (sym asks ∙ e))
unheard manager moment given asked short Failed e (h, asks, finds) = absurd (some_none h (sym asks ∙ e))

-- ---- bytes behind those that were fed

-- the bytes that came and others behind them
pub joined : (v w : OpeningValue) (first second : List ℕ) → w.taken ≡ v.taken ++ first → w.taken ++ second ≡ v.taken ++ (first ++ second)
joined v w first second taken = ap (λ (l : List ℕ). l ++ second) taken ∙ append_assoc v.taken first second

heads_same : (v w : OpeningValue) (first second : List ℕ) → w.settings ≡ v.settings → w.taken ≡ v.taken ++ first
    → header_in w.settings (w.taken ++ second) ≡ header_in v.settings (v.taken ++ (first ++ second))
heads_same v w first second settings taken =
    ap (λ (s : Settings). header_in s (w.taken ++ second)) settings ∙ ap (λ (l : List ℕ). header_in v.settings l) (joined v w first second taken)

-- no header is whole in the bytes fed while no answer is kept
none_whole : (v w : OpeningValue) (first : List ℕ) → GoesOn w → w.settings ≡ v.settings → w.taken ≡ v.taken ++ first → w.answer ≡ None → header_in v.settings (v.taken ++ first) ≡ None
none_whole v w first goes settings taken e =
    ap (λ (s : Settings). header_in s (v.taken ++ first)) (sym settings) ∙ ap (λ (l : List ℕ). header_in w.settings l) (sym taken)
    ∙ ap (λ (o : Option HeaderFields). option_map (header_of w.taken) o) (goes.unheard e)

-- where nothing is asked behind them, it is as if all came at once
unasked_first : (v : OpeningValue) (first second : List ℕ) (o : Option HeaderValue) → GoesOn v → v.answer ≡ None → header_in v.settings (v.taken ++ first) ≡ o
    → (header_in v.settings (v.taken ++ first) ≡ None → header_in v.settings (v.taken ++ (first ++ second)) ≡ None)
    → header_in v.settings (v.taken ++ (first ++ second)) ≡ header_in v.settings (v.taken ++ first)
unasked_first v first second (Some h) goes e is on =
    ap (λ (l : List ℕ). header_in v.settings l) (sym (append_assoc v.taken first second))
    ∙ header_on v.settings (v.taken ++ first) second h (header v.settings (start (v.taken ++ first))) refl is ∙ sym is
unasked_first v first second None goes e is on = on is ∙ sym is

-- What is kept when these bytes were fed: this was heard, once at the most.
pub record Joins {M : Type 0} (state : M → ManagerNow) (now : ℕ) (v : OpeningValue) (bytes : List ℕ) (short : Type 0) (old new : M)
    (w : OpeningValue) (later : Heard) (behind : Option HeaderValue) : Type 0 where
  pub heard : Heard
  pub hears : IsHeard (said_last (state old) (state new)) now v.given (asked_header v bytes) short heard
  pub bears : BearsHeard (state old) (state new) now (served_in heard)
  pub answer : (keeping w later).answer ≡ (keeping v heard).answer
  pub served : (keeping w later).served ≡ (keeping v heard).served
  pub unasked : asked_header v bytes ≡ None → new ≡ old
  pub late : (h : HeaderValue) → behind ≡ Some h → heard ≡ later

module _ {M : Type 0} (state : M → ManagerNow) (now : ℕ) (v : OpeningValue) (first second given : List ℕ) (old mid new : M) (opener : Opener)
    (fed : FedTo state now v first given old mid opener) where
  -- nothing was heard yet, where none is asked about in the bytes fed
  nothing_yet : asked_header v first ≡ None → fed.heard ≡ Nothing
  nothing_yet e = unheard (said_last (state old) (state mid)) now v.given (asked_header v first) ⊥ fed.heard e fed.hears

  still_none : asked_header v first ≡ None → v.answer ≡ None → fed.session.answer ≡ None
  still_none e wants = fed.answer ∙ ap (λ (x : Heard). (keeping v x).answer) (nothing_yet e) ∙ wants

  asked_behind : v.answer ≡ None → asked_header fed.session second ≡ None → header_in v.settings (v.taken ++ first) ≡ None → header_in v.settings (v.taken ++ (first ++ second)) ≡ None
  asked_behind wants e is =
      let w = fed.session in
      sym (heads_same v w first second fed.feeds.settings fed.feeds.taken)
      ∙ sym (asked_head w second fed.feeds.goes (still_none (asked_head v first fed.on wants ∙ is) wants)) ∙ e

  same_by : (o : Option Unlocking) → v.answer ≡ o → asked_header fed.session second ≡ None → asked_header v (first ++ second) ≡ asked_header v first
  same_by (Some a) is e = asked_kept v (first ++ second) a is ∙ sym (asked_kept v first a is)
  same_by None is e =
      asked_head v (first ++ second) fed.on is
      ∙ unasked_first v first second (header_in v.settings (v.taken ++ first)) fed.on is refl (asked_behind is e)
      ∙ sym (asked_head v first fed.on is)

  -- the manager isn't asked behind them
  joins_none : (short : Type 0) (later : Heard) → asked_header fed.session second ≡ None
      → IsHeard (said_last (state mid) (state new)) now fed.session.given (asked_header fed.session second) short later → new ≡ mid
      → Joins state now v (first ++ second) short old new fed.session later (asked_header fed.session second)
  joins_none short later e hears same =
      let quiet : later ≡ Nothing = unheard (said_last (state mid) (state new)) now fed.session.given (asked_header fed.session second) short later e hears in
      let asked : asked_header v (first ++ second) ≡ asked_header v first = same_by v.answer refl e in
      record {
        heard = fed.heard;
        hears = heard_as (said_last (state old) (state new)) now v.given (asked_header v (first ++ second)) ⊥ short fed.heard (λ never. absurd never)
            (subst (λ (o : Option HeaderValue). IsHeard (said_last (state old) (state new)) now v.given o ⊥ fed.heard) (sym asked)
            (subst (λ (m : M). IsHeard (said_last (state old) (state m)) now v.given (asked_header v first) ⊥ fed.heard) (sym same) fed.hears));
        bears = subst (λ (m : M). BearsHeard (state old) (state m) now (served_in fed.heard)) (sym same) fed.bears;
        answer = ap (λ (x : Heard). (keeping fed.session x).answer) quiet ∙ fed.answer;
        served = ap (λ (x : Heard). (keeping fed.session x).served) quiet ∙ fed.served;
        unasked = λ is. same ∙ fed.unasked (sym asked ∙ is);
        late = λ h is. absurd (some_none h (sym is ∙ e));
      }

  -- it is asked behind them
  joins_some : (short : Type 0) (later : Heard) (h : HeaderValue) → asked_header fed.session second ≡ Some h
      → IsHeard (said_last (state mid) (state new)) now fed.session.given (asked_header fed.session second) short later
      → BearsHeard (state mid) (state new) now (served_in later)
      → Joins state now v (first ++ second) short old new fed.session later (asked_header fed.session second)
  joins_some short later h e hears bears =
      let w = fed.session in
      let wants : w.answer ≡ None = asked_wants w second h e in
      let wanted : v.answer ≡ None = none_before v.answer w.answer fed.feeds.kept wants in
      let before : asked_header v first ≡ None = asked_head v first fed.on wanted ∙ none_whole v w first fed.feeds.goes fed.feeds.settings fed.feeds.taken wants in
      let quiet : fed.heard ≡ Nothing = nothing_yet before in
      let same : mid ≡ old = fed.unasked before in
      let asked : asked_header w second ≡ asked_header v (first ++ second) =
      asked_head w second fed.feeds.goes wants ∙ heads_same v w first second fed.feeds.settings fed.feeds.taken ∙ sym (asked_head v (first ++ second) fed.on wanted) in
      record {
        heard = later;
        hears = subst (λ (o : Option HeaderValue). IsHeard (said_last (state old) (state new)) now v.given o short later) asked
            (subst (λ (g : List KeyValue). IsHeard (said_last (state old) (state new)) now g (asked_header w second) short later) fed.feeds.pairs
            (subst (λ (m : M). IsHeard (said_last (state m) (state new)) now w.given (asked_header w second) short later) same hears));
        bears = subst (λ (m : M). BearsHeard (state m) (state new) now (served_in later)) same bears;
        answer = kept_same v w later (wants ∙ sym wanted);
        served = served_same v w later (fed.served ∙ ap (λ (x : Heard). (keeping v x).served) quiet);
        unasked = λ is. absurd (some_none h (sym e ∙ asked ∙ is));
        late = λ g is. refl;
      }
    where
      kept_same : (v w : OpeningValue) (x : Heard) → w.answer ≡ v.answer → (keeping w x).answer ≡ (keeping v x).answer
      kept_same v w Nothing is = is
      kept_same v w (Found m) is = refl
      kept_same v w (Named fault) is = refl
      kept_same v w Failed is = is

      served_same : (v w : OpeningValue) (x : Heard) → w.served ≡ v.served → (keeping w x).served ≡ (keeping v x).served
      served_same v w Nothing is = is
      served_same v w (Found m) is = refl
      served_same v w (Named fault) is = is
      served_same v w Failed is = is

  joins_by : (short : Type 0) (later : Heard) (o : Option HeaderValue) → asked_header fed.session second ≡ o
      → IsHeard (said_last (state mid) (state new)) now fed.session.given (asked_header fed.session second) short later
      → BearsHeard (state mid) (state new) now (served_in later) → (asked_header fed.session second ≡ None → new ≡ mid)
      → Joins state now v (first ++ second) short old new fed.session later (asked_header fed.session second)
  joins_by short later None e hears bears stays = joins_none short later e hears (stays e)
  joins_by short later (Some h) e hears bears stays = joins_some short later h e hears bears

  pub joins : (short : Type 0) (later : Heard)
      → IsHeard (said_last (state mid) (state new)) now fed.session.given (asked_header fed.session second) short later
      → BearsHeard (state mid) (state new) now (served_in later) → (asked_header fed.session second ≡ None → new ≡ mid)
      → Joins state now v (first ++ second) short old new fed.session later (asked_header fed.session second)
  joins short later hears bears stays = joins_by short later (asked_header fed.session second) refl hears bears stays

-- ---- the answer that is kept

-- it is the manager's to the header that is whole in all bytes
pub keeps_some : (manager : Saying) (moment : ℕ) (v : OpeningValue) (bytes : List ℕ) (short : Type 0) (heard : Heard) (a : Unlocking) → GoesOn v → v.answer ≡ None
    → IsHeard manager moment v.given (asked_header v bytes) short heard → (keeping v heard).answer ≡ Some a
    → KeepsAnswer manager moment v.given (header_in v.settings (v.taken ++ bytes)) (Some a)
keeps_some manager moment v bytes short Nothing a goes wants hears is = absurd (some_none a (sym is ∙ wants))
keeps_some manager moment v bytes short (Found m) a goes wants (h, asked, finds) is =
    subst (λ (o : Option HeaderValue). KeepsAnswer manager moment v.given o (Some a)) (sym asked ∙ asked_head v bytes goes wants)
    (subst (λ (o : Option Unlocking). KeepsAnswer manager moment v.given (Some h) o) is (m.served, finds))
keeps_some manager moment v bytes short (Named fault) a goes wants (h, asked, finds) is =
    subst (λ (o : Option HeaderValue). KeepsAnswer manager moment v.given o (Some a)) (sym asked ∙ asked_head v bytes goes wants)
    (subst (λ (o : Option Unlocking). KeepsAnswer manager moment v.given (Some h) o) is finds)
keeps_some manager moment v bytes short Failed a goes wants hears is = absurd (some_none a (sym is ∙ wants))

keeps_by : {M : Type 0} (state : M → ManagerNow) (now : ℕ) (v : OpeningValue) (bytes given : List ℕ) (old new : M) (opener : Opener) (fed : FedTo state now v bytes given old new opener) (kept : Option Unlocking)
    → v.answer ≡ None → fed.session.answer ≡ kept → KeepsAnswer (said_last (state old) (state new)) now v.given (header_in v.settings (v.taken ++ bytes)) kept
keeps_by state now v bytes given old new opener fed None wants is =
    subst (λ (o : Option HeaderValue). KeepsAnswer (said_last (state old) (state new)) now v.given o None)
    (sym (none_whole v fed.session bytes fed.feeds.goes fed.feeds.settings fed.feeds.taken is)) refl
keeps_by state now v bytes given old new opener fed (Some a) wants is =
    keeps_some (said_last (state old) (state new)) now v bytes ⊥ fed.heard a fed.on wants fed.hears (sym fed.answer ∙ is)

pub keeps_fed : {M : Type 0} (state : M → ManagerNow) (now : ℕ) (v : OpeningValue) (bytes given : List ℕ) (old new : M) (opener : Opener) (fed : FedTo state now v bytes given old new opener)
    → v.answer ≡ None → KeepsAnswer (said_last (state old) (state new)) now v.given (header_in v.settings (v.taken ++ bytes)) fed.session.answer
keeps_fed state now v bytes given old new opener fed wants = keeps_by state now v bytes given old new opener fed fed.session.answer wants refl

-- what is fed behind other bytes was fed with them
abbrev pub fed_as_one : {M : Type 0} (state : M → ManagerNow) (old mid new : M) → FedAsOne state old mid new
fed_as_one state old mid new now v first second given more opener next fed behind =
    let j = joins state now v first second given old mid new opener fed ⊥ behind.heard behind.hears behind.bears behind.unasked in
    record {
      on = fed.on;
      session = behind.session;
      stands = behind.stands;
      feeds = feeds_compose v fed.session behind.session first second given more fed.feeds behind.feeds;
      heard = j.heard;
      hears = j.hears;
      bears = j.bears;
      answer = behind.answer ∙ j.answer;
      served = behind.served ∙ j.served;
      unasked = j.unasked;
    }
