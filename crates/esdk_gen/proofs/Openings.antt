-- The session that opens: how it begins, what a step makes of it, and its end.
use Rattle.std.proofs.Common.{◌≡◌, ◌∙◌, ℕ, ◌+◌, ◌≤◌, Bool, true, false, List, [], ◌∷◌, ◌++◌, length, take, drop, Option, Some, None, Result, Ok, Err, refl, sym, ap, subst, arith, append_assoc, append-nil, length-append}
use Rattle.std.specs.Prelude.{nat_eq}
use Rattle.std.specs.List.{concat}
use Rattle.std.specs.Map.{update}
use Rattle.std.proofs.lemmas.List.{take-append-drop}
use Rattle.std.proofs.lemmas.List.Folds.{concat-append}
use Rattle.std.proofs.lemmas.Map.{update_here}
use Rattle.esdk_base.specs.declared.receiver.FeedError.{FeedError}
use Rattle.esdk_base.specs.declared.receiver.FeedError.TheVariants as feeding
use Rattle.esdk_fields.specs.declared.faults.Fault.{Fault}
use Rattle.esdk_fields.specs.Place.{start, followed}
use Rattle.esdk_fields.specs.Reading.{Reading, Read, Refused, Wanting, value_of}
use Rattle.esdk_fields.proofs.Fronts.{value_stays}
use Rattle.header_codec.specs.declared.settings.Settings.{Settings}
use Rattle.header_codec.specs.Header.{HeaderValue, no_limits}
use Rattle.header_codec.specs.Table.{HeaderFields, head, header, header_fault}
use Rattle.header_codec.proofs.Order.{IsSequential-header}
use Rattle.keyring_trait.specs.declared.manager_errors.ManagerError.TheVariants as managers
use Rattle.keyring_trait.specs.Manager.{TellsOn}
use Rattle.keyring_trait.specs.Unlocking.{Unlocking, Refuses, Unlocks}
use Rattle.keyring_trait.specs.Wrapping.{WrapKeyValue}
use Rattle.body_format.specs.declared.verdicts.Verdict.TheVariants.{Going, Whole, Faulty}
use Rattle.message_format.specs.Judgement.{Judged, content, header_of, judged}
use Rattle.message_format.specs.Reading.{unlock_header}
use Rattle.message_format.proofs.Following.{faults_stay, header_stays, judged_goes_on, units_stay}
use Rattle.message_format.proofs.Judging.{judged_refused, judged_wanting}
use Rattle.message_format.proofs.Lines.{line_by_line}
use Rattle.message_format.proofs.ReadingOn.{unlocking_is}
use Rattle.stream_open.specs.declared.errors.OpenError.{OpenError}
use Rattle.stream_open.specs.declared.errors.OpenError.TheVariants as opens
use Rattle.stream_open.specs.declared.session.Opener.{Opener}
use Rattle.stream_open.specs.Asking.{Heard, Nothing, Found, Named, Failed, IsHeard, request_of}
use Rattle.stream_open.specs.Feeding.{GoesOn}
use Rattle.stream_open.specs.Receiving.{Breaks, FedTo, PieceHasFault}
use Rattle.stream_open.specs.Session.{OpeningValue, answer_kept, asked_header, end_of_verdict, opening_finish_answer, opening_finished, judged_now, keeping, new_opening_session}
use Rattle.stream_open.proofs.Feeding.{asks_about, ends_so, opened_goes, sure}
use Rattle.desk_core.specs.declared.errors.DeskError.{DeskError}
use Rattle.desk_core.specs.declared.errors.DeskError.TheVariants as errors
use Rattle.desk_core.specs.declared.live_sessions.Desk.{Desk}
use Rattle.desk_core.specs.Calls.{OpensOpen}
use Rattle.desk_core.specs.Desk.{OpenOpen, after_desk_call, open_lines}
use Rattle.desk_core.specs.Receiving.{FeedsInto, FeedsOpening, FeedsSession, handed_over}
use Rattle.desk_core.specs.Session.{SessionValue, Opening, answered, ended, open_answer, open_error, open_opened}
use Rattle.desk_core.specs.Stands.{manager_of}
use Rattle.esdk_decrypt.specs.Decrypt.{answering_of}
use Rattle.esdk_decrypt.specs.Told.{Reader, answering_by}
use Rattle.esdk_decrypt.proofs.Told.{Allows, reader_allows}
use Rattle.esdk_gen.specs.Generator.{generator_key}
use Rattle.esdk_gen.specs.Receivers.{Counts, CountsOver}
use Rattle.esdk_gen.specs.Opening.{GeneratorIsOpening, IsWholeUnder, unlocked_under}
use Rattle.esdk_gen.specs.Sealing.{IsIdle}
use Rattle.esdk_gen.proofs.Materials.{manager_now, same_ring, saying}

-- ---- judgements

nothing_by : (settings : Settings) (b : List ℕ) (answer : Unlocking) (r : Reading HeaderFields) → header settings (start b) ≡ r → value_of r ≡ None → content (judged b settings answer) ≡ []
nothing_by settings b answer (Read parts p) e none = absurd (let no : Some parts ≡ None = none in cc)
nothing_by settings b answer (Refused fault at) e none = ap content (judged_refused b settings answer fault at e)
nothing_by settings b answer Wanting e none = ap content (judged_wanting b settings answer e)

-- nothing is released before a header is whole
nothing_unread : (settings : Settings) (b : List ℕ) (answer : Unlocking) → head settings b ≡ None → content (judged b settings answer) ≡ []
nothing_unread settings b answer none = nothing_by settings b answer (header settings (start b)) refl none

unread_by : (settings : Settings) (b : List ℕ) (answer : Unlocking) (r : Reading HeaderFields) → header settings (start b) ≡ r → value_of r ≡ None → (judged b settings answer).verdict ≡ Whole → ⊥
unread_by settings b answer (Read parts p) e none whole = absurd (let no : Some parts ≡ None = none in cc)
unread_by settings b answer (Refused fault at) e none whole = let no : Faulty fault ≡ Whole = ap (λ (j : Judged). j.verdict) (sym (judged_refused b settings answer fault at e)) ∙ whole in cc
unread_by settings b answer Wanting e none whole = let no : Going ≡ Whole = ap (λ (j : Judged). j.verdict) (sym (judged_wanting b settings answer e)) ∙ whole in cc

-- nor is the message whole
unread_whole : (settings : Settings) (b : List ℕ) (answer : Unlocking) → head settings b ≡ None → (judged b settings answer).verdict ≡ Whole → ⊥
unread_whole settings b answer none whole = unread_by settings b answer (header settings (start b)) refl none whole

-- a front of a whole message has no fault
front_sound : (settings : Settings) (b more : List ℕ) (answer : Unlocking) (fault : Fault) → (judged (b ++ more) settings answer).verdict ≡ Whole → (judged b settings answer).verdict ≡ Faulty fault → ⊥
front_sound settings b more answer fault whole faulty =
    let same = faults_stay (λ c. judged c settings answer) (judged_goes_on settings answer) b more fault faulty in
    let no : Faulty fault ≡ Whole = sym faulty ∙ sym (ap (λ (j : Judged). j.verdict) same) ∙ whole in cc

-- and releases no more than all of it
front_few : (settings : Settings) (b more : List ℕ) (answer : Unlocking) → length (content (judged b settings answer)) ≤ length (content (judged (b ++ more) settings answer))
front_few settings b more answer =
    let on = units_stay (λ c. judged c settings answer) (judged_goes_on settings answer) b more in
    let whole : content (judged (b ++ more) settings answer) ≡ content (judged b settings answer) ++ concat on.0 = ap concat on.1 ∙ concat-append (judged b settings answer).units on.0 in
    omega (arith, ap length whole, length-append (content (judged b settings answer)) (concat on.0))

-- the header that is whole in a front unlocks as that of the message does
head_read : (key b more : List ℕ) (parts : HeaderFields) (r : Reading HeaderFields) → header no_limits (start b) ≡ r → value_of r ≡ Some parts → unlock_header (header_of b parts) [] [] (generator_key key ∷ []) ≡ unlocked_under key (b ++ more)
head_read key b more parts (Read other p) e is =
    let same : other ≡ parts = cc in
    let read : header no_limits (start b) ≡ Read parts p = e ∙ ap (λ (h : HeaderFields). Read h p) same in
    sym (
    unlocking_is (b ++ more) no_limits [] [] (generator_key key ∷ []) (Read parts (followed p more)) (value_stays (header no_limits) b more parts p (IsSequential-header no_limits) read)
    ∙ ap (λ (h : HeaderValue). unlock_header h [] [] (generator_key key ∷ [])) (header_stays no_limits b more parts p read)
    )
head_read key b more parts (Refused fault at) e is = absurd (let no : None ≡ Some parts = is in cc)
head_read key b more parts Wanting e is = absurd (let no : None ≡ Some parts = is in cc)

-- ---- the manager

-- in a step over this piece, the manager that was over this wrapping key and is over that one may
-- answer so
abbrev pub HeardBy : WrapKeyValue → WrapKeyValue → OpeningValue → List ℕ → Type 0 → Heard → Type 0
HeardBy old new o left short heard =
    IsHeard (saying old new) 0 o.given (asked_header o left) short heard

abbrev reader_of : List ℕ → Reader
reader_of key = record { keys = generator_key key ∷ []; settings = no_limits; given = []; required = [] }

answers : (key : List ℕ) (new : WrapKeyValue)
    → Allows (answering_of (manager_now (generator_key key)) (manager_now new) 0)
    (answering_by (reader_of key))
answers key new =
    reader_allows (manager_now (generator_key key)) (manager_now new) 0 (generator_key key ∷ []) no_limits []
    refl tt (omega arith)

-- ---- a session that goes on

module _ (key : List ℕ) (new : WrapKeyValue) (message more left : List ℕ) (o : OpeningValue)
    (goes : GoesOn o) (settings : o.settings ≡ no_limits) (given : o.given ≡ [])
    (front : message ≡ (o.taken ++ left) ++ more)
    (kept : (a : Unlocking) → o.answer ≡ Some a → a ≡ unlocked_under key message) where
  -- the header that is asked about unlocks as the message's
  asked_unlocks : (h : HeaderValue) → asked_header o left ≡ Some h
      → unlock_header h [] [] (generator_key key ∷ []) ≡ unlocked_under key message
  asked_unlocks h asked =
      let about = asks_about o left h goes asked in
      let whole : head no_limits (o.taken ++ left) ≡ Some about.parts =
      ap (λ (s : Settings). head s (o.taken ++ left)) (sym settings) ∙ about.whole in
      ap (λ (g : HeaderValue). unlock_header g [] [] (generator_key key ∷ [])) about.is
      ∙ head_read key (o.taken ++ left) more about.parts
      (header no_limits (start (o.taken ++ left))) refl whole
      ∙ ap (unlocked_under key) (sym front)

  -- what is kept is the answer to the message's header
  pub kept_on : (heard : Heard) → HeardBy (generator_key key) new o left ⊥ heard → (a : Unlocking)
      → (keeping o heard).answer ≡ Some a → a ≡ unlocked_under key message
  kept_on Nothing hears a is = kept a is
  kept_on (Found m) (h, asked, finds) a is =
      let finds_here = rw given at finds in
      let unlocks = (answers key new).finds (request_of [] h) m finds_here in
      let same : a ≡ Unlocks m.context m.only m.key = cc in
      same ∙ sym unlocks ∙ asked_unlocks h asked
  kept_on (Named fault) (h, asked, none) a is =
      let none_here = rw given at none in
      let refuses =
      (answers key new).finds_none (request_of [] h) (managers.Fault fault) none_here in
      let same : a ≡ Refuses fault = cc in
      same ∙ sym refuses ∙ asked_unlocks h asked
  kept_on Failed hears a is = kept a is

  never_failed : HeardBy (generator_key key) new o left ⊥ Failed → ⊥
  never_failed (h, asked, none) =
      let none_here = rw given at none in
      (answers key new).finds_none (request_of [] h) managers.KeyringFault none_here

  -- no fault is found in a whole message
  faulty_by : (heard : Heard) (given : List ℕ) (fault : Fault) (kept_now : Option Unlocking) → (keeping o heard).answer ≡ kept_now → ((a : Unlocking) → kept_now ≡ Some a → a ≡ unlocked_under key message)
      → (judged message no_limits (unlocked_under key message)).verdict ≡ Whole → PieceHasFault o left heard given fault → ⊥
  faulty_by heard given fault (Some a) e is whole finds =
      let same : a ≡ unlocked_under key message = is a refl in
      let faulty : (judged (o.taken ++ left) no_limits (unlocked_under key message)).verdict ≡ Faulty fault =
      ap (λ (x : Unlocking). (judged (o.taken ++ left) no_limits x).verdict) (sym same)
      ∙ ap (λ (k : Option Unlocking). (judged (o.taken ++ left) no_limits (answer_kept k)).verdict) (sym e)
      ∙ ap (λ (s : Settings). (judged (o.taken ++ left) s (answer_kept (keeping o heard).answer)).verdict) (sym settings) ∙ finds.verdict in
      front_sound no_limits (o.taken ++ left) more (unlocked_under key message) fault (ap (λ (b : List ℕ). (judged b no_limits (unlocked_under key message)).verdict) (sym front) ∙ whole) faulty
  faulty_by heard given fault None e is whole finds =
      let refused : header_fault no_limits (o.taken ++ left) ≡ Some fault = ap (λ (s : Settings). header_fault s (o.taken ++ left)) (sym settings) ∙ finds.unheard e in
      let faulty : (judged (o.taken ++ left) no_limits (unlocked_under key message)).verdict ≡ Faulty fault =
      ap (λ (j : Judged). j.verdict) ((line_by_line (o.taken ++ left) no_limits (unlocked_under key message)).header_is_faulty fault refused) in
      front_sound no_limits (o.taken ++ left) more (unlocked_under key message) fault (ap (λ (b : List ℕ). (judged b no_limits (unlocked_under key message)).verdict) (sym front) ∙ whole) faulty

  never_faulty : (heard : Heard) (given : List ℕ) (fault : Fault) → HeardBy (generator_key key) new o left ⊥ heard
      → (judged message no_limits (unlocked_under key message)).verdict ≡ Whole
      → PieceHasFault o left heard given fault → ⊥
  never_faulty heard given fault hears whole finds =
      faulty_by heard given fault (keeping o heard).answer refl (kept_on heard hears) whole finds

  heard_failed : (heard : Heard) → heard ≡ Failed → HeardBy (generator_key key) new o left ⊥ heard → ⊥
  heard_failed heard is hears = never_failed (subst (HeardBy (generator_key key) new o left ⊥) is hears)

  surely : (own : OpenError) (heard : Heard) → (own ≡ opens.Memory → ⊥) → HeardBy (generator_key key) new o left (own ≡ opens.Memory) heard → HeardBy (generator_key key) new o left ⊥ heard
  surely own heard known hears = sure (saying (generator_key key) new) 0 o.given (asked_header o left) (own ≡ opens.Memory) heard known hears

  -- only memory can be wanting while it is fed
  breaks_so : (own : OpenError) (heard : Heard) (given : List ℕ) (reached : OpeningValue) → HeardBy (generator_key key) new o left (own ≡ opens.Memory) heard
      → (judged message no_limits (unlocked_under key message)).verdict ≡ Whole → Breaks o left heard given reached own → open_error own ≡ errors.Memory
  breaks_so (opens.Fault fault) heard given reached hears whole why = absurd (never_faulty heard given fault (surely (opens.Fault fault) heard (λ e. cc) hears) whole why)
  breaks_so opens.KeyringFault heard given reached hears whole why = absurd (heard_failed heard why.0 (surely opens.KeyringFault heard (λ e. cc) hears))
  breaks_so opens.Stopped heard given reached hears whole why = absurd why
  breaks_so opens.Memory heard given reached hears whole why = refl

-- ---- bounds

few_by : (key message text rest : List ℕ) (o : OpeningValue) (kept : Option Unlocking) → IsWholeUnder key message text → GoesOn o → o.settings ≡ no_limits → message ≡ o.taken ++ rest
    → o.answer ≡ kept → ((a : Unlocking) → kept ≡ Some a → a ≡ unlocked_under key message) → length (content (judged_now o)) ≤ length text
few_by key message text rest o None is goes settings front e kept =
    let none : content (judged_now o) ≡ [] = nothing_unread o.settings o.taken (answer_kept o.answer) (goes.unheard e) in
    omega (arith, ap length none)
few_by key message text rest o (Some a) is goes settings front e kept =
    let same : judged_now o ≡ judged o.taken no_limits (unlocked_under key message) =
    ap (λ (s : Settings). judged o.taken s (answer_kept o.answer)) settings ∙ ap (λ (k : Option Unlocking). judged o.taken no_limits (answer_kept k)) e ∙ ap (judged o.taken no_limits) (kept a refl) in
    let whole : content (judged (o.taken ++ rest) no_limits (unlocked_under key message)) ≡ text = ap (λ (b : List ℕ). content (judged b no_limits (unlocked_under key message))) (sym front) ∙ is.released in
    omega (arith, ap (λ (j : Judged). length (content j)) same, front_few no_limits o.taken rest (unlocked_under key message), ap length whole)

-- ---- the session begins

-- the call answers the number that was drawn
pub opens_so : (short : Bool) (id number : ℕ) → Ok id ≡ (open_opened no_limits [] short number).answer
    → (id ≡ number) × ((open_opened no_limits [] short number).left ≡ Some (Opening (new_opening_session no_limits [])))
opens_so true id number is = absurd cc
opens_so false id number is = (cc, refl)

pub opens_not : (short : Bool) (error : DeskError) (number : ℕ) → Err error ≡ (open_opened no_limits [] short number).answer → error ≡ errors.Memory
opens_not true error number is = cc
opens_not false error number is = absurd cc

pub opening_first : (desk next : Desk WrapKeyValue) (key : List ℕ) (id last : ℕ) (message text : List ℕ) → (idle : IsIdle desk key last) → IsWholeUnder key message text
    → OpensOpen idle.value no_limits [] (Ok id) next → manager_of next ≡ manager_of desk → GeneratorIsOpening next key id message text message 0
opening_first desk next key id last message text idle whole begun same =
    let so = opens_so begun.short id (idle.value.last + 1) begun.answer in
    let goes = opened_goes no_limits [] in
    let number : idle.value.last + 1 ≡ id = sym so.0 in
    record {
      session = new_opening_session no_limits [];
      at = record {
        value = after_desk_call idle.value (idle.value.last + 1) begun.short (OpenOpen no_limits []);
        stands = begun.stands;
        drawn = number;
        ring = same ∙ idle.ring;
        live = ap (update nat_eq idle.value.live (idle.value.last + 1) (open_opened no_limits [] begun.short (idle.value.last + 1)).left) so.0
            ∙ update_here idle.value.live (idle.value.last + 1) (open_opened no_limits [] begun.short (idle.value.last + 1)).left ∙ so.1;
      };
      settings = refl;
      none_given = refl;
      goes = goes;
      front = refl;
      kept = λ a is. absurd (let no : None ≡ Some a = is in cc);
      counted = sym (ap length (nothing_unread no_limits [] (answer_kept None) (goes.unheard refl)));
      is_whole = whole;
    }

-- ---- a piece

-- The session took a front of the message, of which this is left, and gave this since.
record TookFront (key message rest : List ℕ) (o w : OpeningValue) (given : List ℕ) : Type 0 where
  settings : w.settings ≡ no_limits
  none_given : w.given ≡ []
  goes : GoesOn w
  front : message ≡ w.taken ++ rest
  kept : (answer : Unlocking) → w.answer ≡ Some answer → answer ≡ unlocked_under key message
  released : content (judged_now w) ≡ content (judged_now o) ++ given

module _ {E : Type 0} (fails : ℕ → ℕ → List ℕ → E → Type 0) (desk next : Desk WrapKeyValue) (key : List ℕ) (id : ℕ) (message text piece more : List ℕ) (count after : ℕ)
    (is : GeneratorIsOpening desk key id message text (piece ++ more) count) where
  -- the piece was fed to this session
  fed_as : (result : Result (Unit {0}) (FeedError DeskError E)) → (f : FeedsInto manager_now Counts fails is.at.value id 0 piece desk next count after result)
      → FeedsOpening manager_now Counts fails 0 is.session piece (manager_of desk) (manager_of next) count after f.heard f.left result
  fed_as result f =
      subst (λ (o : Option SessionValue). FeedsSession manager_now Counts fails 0 o piece (manager_of desk) (manager_of next) count after f.heard f.left result) is.at.live f.feeds

  -- the manager was over the wrapping key of these bytes
  heard_here : (bytes : List ℕ) (short : Type 0) (heard : Heard) → HeardBy (manager_of desk) (manager_of next) is.session bytes short heard
      → HeardBy (generator_key key) (manager_of next) is.session bytes short heard
  heard_here bytes short heard hears = subst (λ (w : WrapKeyValue). HeardBy w (manager_of next) is.session bytes short heard) is.at.ring hears

  took : (bytes rest given : List ℕ) (opener : Opener) → message ≡ (is.session.taken ++ bytes) ++ rest
      → (fed : FedTo manager_now 0 is.session bytes given (manager_of desk) (manager_of next) opener) → TookFront key message rest is.session fed.session given
  took bytes rest given opener front fed = record {
    settings = fed.feeds.settings ∙ is.settings;
    none_given = fed.feeds.pairs ∙ is.none_given;
    goes = fed.feeds.goes;
    front = front ∙ ap (λ (b : List ℕ). b ++ rest) (sym fed.feeds.taken);
    kept = λ answer kept.
        kept_on key (manager_of next) message rest bytes is.session is.goes is.settings is.none_given front is.kept fed.heard (heard_here bytes ⊥ fed.heard fed.hears) answer (sym fed.answer ∙ kept);
    released = fed.feeds.content;
  }

  ring_of : TellsOn (manager_now (manager_of desk)).tells (manager_now (manager_of next)).tells
      → manager_of next ≡ generator_key key
  ring_of tells = same_ring (manager_of desk) (manager_of next) key is.at.ring tells

  whole_front : message ≡ (is.session.taken ++ piece) ++ more
  whole_front = is.front ∙ sym (append_assoc is.session.taken piece more)

  -- all of it was fed
  pub piece_opened : FeedsInto {T = Unit {0}} manager_now Counts fails is.at.value id 0 piece desk next count after (Ok tt)
      → TellsOn (manager_now (manager_of desk)).tells (manager_now (manager_of next)).tells → GeneratorIsOpening next key id message text more after
  piece_opened f tells =
      let fed = fed_as (Ok tt) f in
      let whole = fed.1 in
      let on = took piece more whole.given fed.0 whole_front whole.fed in
      record {
        session = whole.fed.session;
        at = record {
          value = handed_over is.at.value id (open_lines id 0 f.heard) f.left;
          stands = f.stands;
          drawn = is.at.drawn;
          ring = ring_of tells;
          live = update_here is.at.value.live id f.left ∙ fed.3;
        };
        settings = on.settings;
        none_given = on.none_given;
        goes = on.goes;
        front = on.front;
        kept = on.kept;
        counted = omega (arith, is.counted, whole.taken, ap length on.released, length-append (content (judged_now is.session)) whole.given);
        is_whole = is.is_whole;
      }

  -- or memory was wanting
  only_memory : (error : DeskError) → FeedsInto {T = Unit {0}} manager_now Counts fails is.at.value id 0 piece desk next count after (Err (feeding.Machine error)) → error ≡ errors.Memory
  only_memory error f =
      let fed = fed_as (Err (feeding.Machine error)) f in
      let short = fed.2 in
      fed.5
      ∙ breaks_so key (manager_of next) message more piece is.session is.goes is.settings is.none_given whole_front is.kept fed.1 short.heard short.given short.reached
      (heard_here piece (fed.1 ≡ opens.Memory) short.heard short.hears) is.is_whole.whole short.why

  -- no more is handed out than the text has
  never_over : (error : E) → ((old new : ℕ) (bytes : List ℕ) (e : E) → fails old new bytes e → CountsOver old bytes)
      → FeedsInto {T = Unit {0}} manager_now Counts fails is.at.value id 0 piece desk next count after (Err (feeding.Receiver error)) → ⊥
  never_over error over f =
      let fed = fed_as (Err (feeding.Receiver error)) f in
      let until = fed.1 in
      let front : message ≡ (is.session.taken ++ take until.count piece) ++ (drop until.count piece ++ more) =
      is.front ∙ ap (λ (b : List ℕ). is.session.taken ++ (b ++ more)) (sym (take-append-drop until.count piece))
      ∙ ap (λ (b : List ℕ). is.session.taken ++ b) (append_assoc (take until.count piece) (drop until.count piece) more)
      ∙ sym (append_assoc is.session.taken (take until.count piece) (drop until.count piece ++ more)) in
      let on = took (take until.count piece) (drop until.count piece ++ more) until.given fed.0 front until.fed in
      let w : OpeningValue = until.fed.session in
      omega (
        arith,
        over count after until.given error until.failed,
        is.counted,
        ap length on.released,
        length-append (content (judged_now is.session)) until.given,
        few_by key message text (drop until.count piece ++ more) w w.answer is.is_whole on.goes on.settings on.front refl on.kept,
        is.is_whole.few,
      )

  pub opening_not : (error : FeedError DeskError E) → ((old new : ℕ) (bytes : List ℕ) (e : E) → fails old new bytes e → CountsOver old bytes)
      → FeedsInto {T = Unit {0}} manager_now Counts fails is.at.value id 0 piece desk next count after (Err error) → error ≡ feeding.Machine errors.Memory
  opening_not (feeding.Machine error) over f = ap (λ (e : DeskError). feeding.Machine e) (only_memory error f)
  opening_not (feeding.Receiver error) over f = absurd (never_over error over f)

-- ---- the end

-- What all of the message is judged.
record IsRead (message text : List ℕ) (o : OpeningValue) : Type 0 where
  whole : (judged_now o).verdict ≡ Whole
  released : content (judged_now o) ≡ text

read_by : (key message text : List ℕ) (o : OpeningValue) (kept : Option Unlocking) → IsWholeUnder key message text → GoesOn o → o.settings ≡ no_limits → o.taken ≡ message
    → o.answer ≡ kept → ((a : Unlocking) → kept ≡ Some a → a ≡ unlocked_under key message) → IsRead message text o
read_by key message text o None is goes settings all e kept =
    let none : head no_limits message ≡ None = (λ i. head (sym settings i) (sym all i)) ∙ goes.unheard e in
    absurd (unread_whole no_limits message (unlocked_under key message) none is.whole)
read_by key message text o (Some a) is goes settings all e kept =
    let same : judged_now o ≡ judged message no_limits (unlocked_under key message) =
    (λ i. judged (all i) (settings i) (answer_kept (e i))) ∙ ap (judged message no_limits) (kept a refl) in
    record { whole = ap (λ (j : Judged). j.verdict) same ∙ is.whole; released = ap content same ∙ is.released }

read_all : (desk : Desk WrapKeyValue) (key : List ℕ) (id : ℕ) (message text : List ℕ) (count : ℕ) → (is : GeneratorIsOpening desk key id message text [] count) → IsRead message text is.session
read_all desk key id message text count is =
    let o : OpeningValue = is.session in read_by key message text o o.answer is.is_whole is.goes is.settings (sym (is.front ∙ append-nil o.taken)) refl is.kept

-- all of the text was handed out
pub all_opened : (desk : Desk WrapKeyValue) (key : List ℕ) (id : ℕ) (message text : List ℕ) (count : ℕ) → GeneratorIsOpening desk key id message text [] count → count ≡ length text
all_opened desk key id message text count is = is.counted ∙ ap length (read_all desk key id message text count is).released

-- and nothing is wrong with the end
pub opening_ends : (desk : Desk WrapKeyValue) (key : List ℕ) (id : ℕ) (message text : List ℕ) (count : ℕ) → (is : GeneratorIsOpening desk key id message text [] count) → (ended (is.at.value.live id)).answer ≡ Ok tt
opening_ends desk key id message text count is =
    let o : OpeningValue = is.session in
    let ends : opening_finish_answer o ≡ Ok tt = ends_so o is.goes ∙ ap end_of_verdict (read_all desk key id message text count is).whole in
    ap (λ (s : Option SessionValue). (ended s).answer) is.at.live ∙ ap (λ (r : Result (Unit {0}) OpenError). (answered (open_answer r) (Opening (opening_finished o)) None).answer) ends
