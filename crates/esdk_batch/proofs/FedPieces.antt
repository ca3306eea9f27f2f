-- A piece that is fed to a job's session, into the end of the job's file, and how the job ends if it does.
use Rattle.std.proofs.Common.{◌≡◌, ◌≤◌, ◌∙◌, ℕ, Bool, true, false, List, ◌++◌, length, take, Option, Some, None, Result, Ok, Err, refl, sym, ap, subst, arith}
use Rattle.std.specs.Prelude.{is_some, option_map}
use Rattle.std.proofs.lemmas.List.{take_all}
use Rattle.std.proofs.lemmas.Map.{update_apart, update_here}
use Rattle.esdk_fields.specs.Reading as readings
use Rattle.esdk_fields.specs.Reading.{Reading, Read, Refused, Wanting, value_of}
use Rattle.esdk_fields.specs.Place.{start}
use Rattle.esdk_fields.specs.declared.faults.Fault.{Fault}
use Rattle.esdk_fields.specs.declared.refusals.Outside.TheVariants as outsides
use Rattle.esdk_base.specs.Shelf.{is_missing}
use Rattle.esdk_base.specs.Streams.{ShelfState}
use Rattle.esdk_base.specs.declared.receiver.FeedError.{FeedError}
use Rattle.esdk_base.specs.declared.receiver.FeedError.TheVariants as failures
use Rattle.header_codec.specs.Table.{HeaderFields, header}
use Rattle.message_format.specs.Judgement.{Judged, header_of}
use Rattle.keyring_trait.specs.declared.journal.JournalLine.{JournalLine}
use Rattle.keyring_trait.specs.declared.served.Served.{Served}
use Rattle.keyring_trait.specs.Manager.{ManagerNow}
use Rattle.keyring_trait.specs.Saying.{Admits, Saying, said_last}
use Rattle.keyring_trait.specs.declared.manager_errors.ManagerError.TheVariants as managers
use Rattle.stream_seal.specs.Feeding as seals
use Rattle.stream_seal.specs.Session.{SealingValue}
use Rattle.stream_seal.proofs.Feeding.{is_feeding}
use Rattle.stream_open.specs.declared.errors.OpenError.{OpenError}
use Rattle.stream_open.specs.declared.errors.OpenError.TheVariants as opens
use Rattle.stream_open.specs.declared.session.Opener.{Opener}
use Rattle.stream_open.specs.Asking.{Heard, IsHeard, request_of}
use Rattle.stream_open.specs.Receiving.{FedShort, FedUntil}
use Rattle.stream_open.specs.Session.{OpeningValue, asked_header, keeping}
use Rattle.stream_open.proofs.Feeding.{asks_about, sure}
use Rattle.desk_core.specs.declared.errors.DeskError.{DeskError}
use Rattle.desk_core.specs.declared.errors.DeskError.TheVariants as errors
use Rattle.desk_core.specs.declared.live_sessions.Desk.{Desk}
use Rattle.desk_core.specs.declared.session.Session.{Session}
use Rattle.desk_core.specs.Desk.{DeskValue, open_lines}
use Rattle.desk_core.specs.Receiving.{FeedsInto, FeedsOpening, FeedsSession, SealsOn, handed_over}
use Rattle.desk_core.specs.Session.{SessionValue, Sealing, Opening, open_error}
use Rattle.desk_core.specs.Stands.{IsLive, Stands, StandsAtNumber, machine_at, manager_of}
use Rattle.batch_report.specs.declared.job_lines.JobEnd.{JobEnd}
use Rattle.batch_report.specs.declared.job_lines.JobEnd.TheVariants as ends
use Rattle.esdk_decrypt.specs.Decrypt.{answers_at, fault_of}
use Rattle.esdk_batch.specs.Answering.{HasFailed}
use Rattle.esdk_batch.specs.Ending.{JobEndsBy, EndsFor, FeedsJobPiece, FeedsSo, JobGoesOnAs, ServesSo}
use Rattle.esdk_batch.specs.Failures.{PieceCounts}
use Rattle.esdk_batch.specs.Files.{FileGains, KeepsOthers}
use Rattle.esdk_batch.specs.ShelfCalls.{HasCalls, IsWrite}
use Rattle.esdk_batch.proofs.Ends.{named_ok}
use Rattle.esdk_batch.proofs.Faulting.{done_counted, not_memory}
use Rattle.esdk_batch.proofs.Judging.{Releases, answer_for, fails_for, hears_as, judges_so, same_judged}
use Rattle.esdk_batch.proofs.KeptAnswers.{fed_judges, fed_keeps, kept_then}
use Rattle.esdk_batch.proofs.Serving.{failed_unserved, heard_once}
use Rattle.esdk_batch.proofs.Took.{front_on}
use Rattle.esdk_batch.proofs.Writing.{Put, Writes, put_calls, put_keeps, put_same}

-- ---- what a piece comes to

-- By what was heard, what is left of the session and how the job ended, if it did.
pub record Comes (manager : Saying) (session now : ℕ) (s : SessionValue) (piece to : List ℕ) (old new : ShelfState) (heard : Heard) (left : Option SessionValue) (end : Option JobEnd) : Type 0 where
  pub served : Option Served
  pub lives : end ≡ None → JobGoesOnAs s left
  pub over : is_some end ≡ true → left ≡ None
  pub serves : ServesSo session s (open_lines session now heard) left served end
  pub feeds : FeedsSo manager s piece left to old.files new.files served end

some_end : (end : JobEnd) → Some end ≡ None → ⊥
some_end end e = cc

same_opening : (t u : OpeningValue) → Some (Opening t) ≡ Some (Opening u) → t ≡ u
same_opening t u e = cc

none_opening : (t : OpeningValue) → (let o : Option SessionValue = None in o ≡ Some (Opening t)) → ⊥
none_opening t e = cc

not_failed : Some (ends.Outside outsides.ShelfFault) ≡ Some (ends.Outside outsides.KeyringFault) → ⊥
not_failed e = cc

fault_not_failed : (fault : Fault) → Some (ends.Fault fault) ≡ Some (ends.Outside outsides.KeyringFault) → ⊥
fault_not_failed fault e = cc

-- where a header is refused none is whole
unread_by : (b : List ℕ) (fault : Fault) (r : Reading HeaderFields) → readings.reading_fault r ≡ Some fault → option_map (header_of b) (value_of r) ≡ None
unread_by b fault (Read parts next) e = absurd (let no : None ≡ Some fault = e in cc)
unread_by b fault (Refused other at) e = refl
unread_by b fault Wanting e = refl

module _ {M R E : Type 0} (state : M → ManagerNow) (takes : R → R → List ℕ → Type 0) (fails : R → R → List ℕ → E → Type 0) (manager : Saying) (session now : ℕ) (piece to : List ℕ) (m n : M) (before after : R)
    (lent still : ℕ) (missing : Bool) (old new : ShelfState) (writes : Writes takes fails before after to lent still missing old new) where
  -- ---- the file

  put_sealing : (left : Option SessionValue) (result : Result (Unit {0}) (FeedError DeskError E)) → SealsOn takes fails before after left result → Put lent still missing old new to result
  put_sealing left (Ok done) on = let took = writes.took on.0 on.1 in (on.0, took.0, took.1, took.2, took.3)
  put_sealing left (Err (failures.Receiver error)) on = let front = writes.failed on.0 error on.1 in (take front.0 on.0, front.1, front.2, front.3, front.4, front.5)
  put_sealing left (Err (failures.Machine (errors.Refusal refusal))) on = let took = writes.took on.0 on.1 in (on.0, took.0, took.1, took.2, took.3)
  put_sealing left (Err (failures.Machine (errors.Fault fault))) on = absurd on
  put_sealing left (Err (failures.Machine errors.KeyringFault)) on = absurd on
  put_sealing left (Err (failures.Machine errors.NotLive)) on = absurd on
  put_sealing left (Err (failures.Machine errors.Memory)) on = absurd on

  put_opening : (s : OpeningValue) (heard : Heard) (left : Option SessionValue) (result : Result (Unit {0}) (FeedError DeskError E))
      → FeedsOpening state takes fails now s piece m n before after heard left result → Put lent still missing old new to result
  put_opening s heard left (Ok done) fed = let took = writes.took fed.1.given fed.1.taken in (fed.1.given, took.0, took.1, took.2, took.3)
  put_opening s heard left (Err (failures.Receiver error)) fed = let front = writes.failed fed.1.given error fed.1.failed in (take front.0 fed.1.given, front.1, front.2, front.3, front.4, front.5)
  put_opening s heard left (Err (failures.Machine error)) fed = let took = writes.took fed.2.given fed.2.taken in (fed.2.given, took.0, took.1, took.2, took.3)

  pub put_so : (s : SessionValue) (heard : Heard) (left : Option SessionValue) (result : Result (Unit {0}) (FeedError DeskError E))
      → FeedsSession state takes fails now (Some s) piece m n before after heard left result → Put lent still missing old new to result
  put_so (Sealing s) heard left result fed = put_sealing left result fed.2
  put_so (Opening s) heard left result fed = put_opening s heard left result fed

  -- ---- a session that seals

  seals_whole : (s : SealingValue) (heard : Heard) (left : Option SessionValue) → FeedsSession {T = Unit {0}} state takes fails now (Some (Sealing s)) piece m n before after heard left (Ok tt)
      → Comes manager session now (Sealing s) piece to old new heard left None
  seals_whole s heard left fed = record {
    served = None;
    lives = λ going. fed.2.2;
    over = λ ended. absurd cc;
    serves = ap (open_lines session now) fed.1;
    feeds = λ was. (let whole = fed.3 (is_feeding s piece was) in (whole.2, whole.1.none, (writes.took _ whole.1.taken).0));
  }

  seals_ended : (s : SealingValue) (heard : Heard) (left : Option SessionValue) (error : FeedError DeskError E) (end : JobEnd) → JobEndsBy error (Ok end)
      → FeedsSession {T = Unit {0}} state takes fails now (Some (Sealing s)) piece m n before after heard left (Err error) → Comes manager session now (Sealing s) piece to old new heard left (Some end)
  seals_ended s heard left (failures.Receiver error) end is fed =
      subst (λ (e : JobEnd). Comes manager session now (Sealing s) piece to old new heard left (Some e)) (sym (named_ok (ends.Outside outsides.ShelfFault) end is))
      (record {
        served = None;
        lives = λ no. absurd (some_end (ends.Outside outsides.ShelfFault) no);
        over = λ ended. fed.2.2;
        serves = ap (open_lines session now) fed.1;
        feeds = λ was.
            (let until = fed.3 (is_feeding s piece was) in
            let front = writes.failed until.1.given error until.1.failed in
            let all = front_on front.0 until.1.given (seals.fed_out until.1.still.now until.1.rest) in
            (until.2, (all.0, subst (λ (b : List ℕ). FileGains old.files new.files to b) (all.1 ∙ ap (take all.0) (sym until.1.still.way.out)) front.1)));
      })
  seals_ended s heard left (failures.Machine (errors.Refusal refusal)) end is fed =
      subst (λ (e : JobEnd). Comes manager session now (Sealing s) piece to old new heard left (Some e)) (sym (named_ok (ends.Refusal refusal) end is))
      (record {
        served = None;
        lives = λ no. absurd (some_end (ends.Refusal refusal) no);
        over = λ ended. fed.2.2;
        serves = ap (open_lines session now) fed.1;
        feeds = λ was. (let short = fed.3 (is_feeding s piece was) in (short.2, short.1.why, (writes.took _ short.1.taken).0));
      })
  seals_ended s heard left (failures.Machine (errors.Fault fault)) end is fed = absurd fed.2
  seals_ended s heard left (failures.Machine errors.KeyringFault) end is fed = absurd fed.2
  seals_ended s heard left (failures.Machine errors.NotLive) end is fed = absurd fed.2
  seals_ended s heard left (failures.Machine errors.Memory) end is fed = absurd fed.2

  -- ---- a session that opens

  module _ (answers : Admits manager (said_last (state m) (state n))) (s : OpeningValue) (live : IsLive (Opening s)) where
    opens_whole : (heard : Heard) (left : Option SessionValue) → FeedsOpening {T = Unit {0}} state takes fails now s piece m n before after heard left (Ok tt)
        → Comes manager session now (Opening s) piece to old new heard left None
    opens_whole heard left (opener, whole, is, there) =
        let fed = whole.fed in
        subst (λ (h : Heard). Comes manager session now (Opening s) piece to old new h left None) (sym is)
        (subst (λ (o : Option SessionValue). Comes manager session now (Opening s) piece to old new fed.heard o None) (sym there)
        (record {
          served = (keeping s fed.heard).served;
          lives = λ going. (fed.session, refl);
          over = λ ended. absurd cc;
          serves = record {
            once = heard_once (said_last (state m) (state n)) now session now s piece ⊥ fed.heard live fed.hears;
            kept = λ t e. ap (λ (o : OpeningValue). o.served) (sym (same_opening fed.session t e)) ∙ fed.served;
            failed = λ no. absurd cc;
          };
          feeds = λ goes. (
            fed.session,
            refl,
            record { released = whole.given; feeds = fed.feeds; keeps = fed_keeps state manager now s piece whole.given m n opener answers fed; gains = (writes.took whole.given whole.taken).0 },
          );
        }))

    opens_until : (error : E) (opener : Opener) (until : FedUntil state fails now s piece error m n before after opener)
        → Comes manager session now (Opening s) piece to old new until.fed.heard None (Some (ends.Outside outsides.ShelfFault))
    opens_until error opener until =
        let fed = until.fed in
        let front : List ℕ = take until.count piece in
        let put = writes.failed until.given error until.failed in
        record {
          served = (keeping s fed.heard).served;
          lives = λ no. absurd (some_end (ends.Outside outsides.ShelfFault) no);
          over = λ ended. refl;
          serves = record {
            once = heard_once (said_last (state m) (state n)) now session now s front ⊥ fed.heard live fed.hears;
            kept = λ t e. absurd (none_opening t e);
            failed = λ no. absurd (not_failed no);
          };
          feeds = λ goes. (
            refl,
            (
              answer_for s.settings (s.taken ++ front) fed.session.answer,
              until.count,
              put.0,
              fed_judges state manager now s front until.given m n opener answers fed piece to old.files new.files until.count put.0 refl put.1,
            ),
          );
        }

    opens_faulty : (fault : Fault) (opener : Opener) (short : FedShort state takes now s piece (opens.Fault fault) m n before after opener)
        → Comes manager session now (Opening s) piece to old new short.heard None (Some (ends.Fault fault))
    opens_faulty fault opener short =
        let heard : Heard = short.heard in
        let given : List ℕ = short.given in
        let bytes : List ℕ = s.taken ++ piece in
        let asking : Saying = said_last (state m) (state n) in
        let hears : IsHeard asking now s.given (asked_header s piece) ⊥ heard = sure asking now s.given (asked_header s piece) (opens.Fault fault ≡ opens.Memory) heard (λ e. cc) short.hears in
        let whole : bytes ≡ s.taken ++ take (length piece) piece = ap (λ (b : List ℕ). s.taken ++ b) (sym (take_all (length piece) piece (omega arith))) in
        let r : Releases manager s piece to old.files new.files bytes (keeping s heard).served (keeping s heard).answer (length piece) (length given) given =
        record {
          bytes_are = whole;
          keeps = λ was.
              kept_then manager now s piece heard short.on (hears_as asking manager now s (asked_header s piece) ⊥ heard answers hears) was
              (λ none. unread_by bytes fault (header s.settings (start bytes)) (short.why.unheard none));
          more = short.why.released;
          gains = subst (λ (b : List ℕ). FileGains old.files new.files to b) (sym (take_all (length given) given (omega arith))) (writes.took given short.taken).0;
        } in
        record {
          served = (keeping s heard).served;
          lives = λ no. absurd (some_end (ends.Fault fault) no);
          over = λ ended. refl;
          serves = record {
            once = heard_once asking now session now s piece ⊥ heard live hears;
            kept = λ t e. absurd (none_opening t e);
            failed = λ no. absurd (fault_not_failed fault no);
          };
          feeds = λ goes. (
            refl,
            record {
              answer = answer_for s.settings bytes (keeping s heard).answer;
              used = length piece;
              count = length given;
              judges = judges_so manager s piece to old.files new.files bytes (keeping s heard).served (keeping s heard).answer (length piece) (length given) given r;
              all = omega arith;
              verdict = ap (λ (j : Judged). fault_of j.verdict) (same_judged s piece bytes (keeping s heard).answer (length piece) whole) ∙ ap fault_of short.why.verdict;
            },
          );
        }

    opens_failed : (opener : Opener) (short : FedShort state takes now s piece opens.KeyringFault m n before after opener)
        → Comes manager session now (Opening s) piece to old new short.heard None (Some (ends.Outside outsides.KeyringFault))
    opens_failed opener short =
        let asking : Saying = said_last (state m) (state n) in
        let why = short.why in
        let failed = subst (λ (h : Heard). IsHeard asking now s.given (asked_header s piece) (opens.KeyringFault ≡ opens.Memory) h) why.0 short.hears in
        let about = asks_about s piece failed.0 short.on failed.1 in
        let has : HasFailed manager s.settings s.given (s.taken ++ piece) = record {
          moment = now;
          failed = fails_for (answers_at manager now) s.settings s.given (s.taken ++ piece) failed.0 about.parts about.whole about.is
              (answers.finds_none (request_of s.given failed.0) managers.KeyringFault failed.2);
        } in
        record {
          served = (keeping s short.heard).served;
          lives = λ no. absurd (some_end (ends.Outside outsides.KeyringFault) no);
          over = λ ended. refl;
          serves = record {
            once = heard_once asking now session now s piece (opens.KeyringFault ≡ opens.Memory) short.heard live short.hears;
            kept = λ t e. absurd (none_opening t e);
            failed = λ no. failed_unserved asking now s piece (opens.KeyringFault ≡ opens.Memory) short.heard why.0 live short.hears;
          };
          feeds = λ goes. (
            refl,
            (length piece, subst (λ (b : List ℕ). HasFailed manager s.settings s.given (s.taken ++ b)) (sym (take_all (length piece) piece (omega arith))) has),
            about.nothing,
            ap (λ (f : ShelfState). f.files) (writes.same (short.nothing why.1)).0,
          );
        }

    opens_short : (own : OpenError) (opener : Opener) (end : JobEnd) → EndsFor (open_error own) (Ok end) → (short : FedShort state takes now s piece own m n before after opener)
        → Comes manager session now (Opening s) piece to old new short.heard None (Some end)
    opens_short (opens.Fault fault) opener end is short =
        subst (λ (e : JobEnd). Comes manager session now (Opening s) piece to old new short.heard None (Some e)) (sym (named_ok (ends.Fault fault) end is)) (opens_faulty fault opener short)
    opens_short opens.KeyringFault opener end is short =
        subst (λ (e : JobEnd). Comes manager session now (Opening s) piece to old new short.heard None (Some e)) (sym (named_ok (ends.Outside outsides.KeyringFault) end is)) (opens_failed opener short)
    opens_short opens.Memory opener end is short = absurd (not_memory end is)
    opens_short opens.Stopped opener end is short = absurd short.why

    opens_ended : (heard : Heard) (left : Option SessionValue) (error : FeedError DeskError E) (end : JobEnd) → JobEndsBy error (Ok end)
        → FeedsOpening {T = Unit {0}} state takes fails now s piece m n before after heard left (Err error) → Comes manager session now (Opening s) piece to old new heard left (Some end)
    opens_ended heard left (failures.Receiver error) end is (opener, until, same, none) =
        subst (λ (e : JobEnd). Comes manager session now (Opening s) piece to old new heard left (Some e)) (sym (named_ok (ends.Outside outsides.ShelfFault) end is))
        (subst (λ (h : Heard). Comes manager session now (Opening s) piece to old new h left (Some (ends.Outside outsides.ShelfFault))) (sym same)
        (subst (λ (o : Option SessionValue). Comes manager session now (Opening s) piece to old new until.fed.heard o (Some (ends.Outside outsides.ShelfFault))) (sym none) (opens_until error opener until)))
    opens_ended heard left (failures.Machine error) end is (opener, own, short, same, none, named) =
        subst (λ (h : Heard). Comes manager session now (Opening s) piece to old new h left (Some end)) (sym same)
        (subst (λ (o : Option SessionValue). Comes manager session now (Opening s) piece to old new short.heard o (Some end)) (sym none)
        (opens_short own opener end (subst (λ (e : DeskError). EndsFor e (Ok end)) named is) short))

-- ---- the desk

lives_at : (machine : Option Session) (s : SessionValue) → StandsAtNumber machine (Some s) → IsLive s
lives_at None s at = absurd at
lives_at (Some m) s at = at.1

is_live : {M : Type 0} (desk : Desk M) (v : DeskValue) (session : ℕ) (s : SessionValue) → Stands desk v → v.live session ≡ Some s → IsLive s
is_live desk v session s stands live =
    lives_at (machine_at desk.sessions session) s (subst (λ (o : Option SessionValue). StandsAtNumber (machine_at desk.sessions session) o) live (stands.sessions session))

module _ {M R E : Type 0} (state : M → ManagerNow) (takes : R → R → List ℕ → Type 0) (fails : R → R → List ℕ → E → Type 0) (manager : Saying) (session now : ℕ) (s : SessionValue) (piece to : List ℕ) (v : DeskValue)
    (desk next : Desk M) (before after : R) (lent still : ℕ) (missing : Bool) (old new : ShelfState) (writes : Writes takes fails before after to lent still missing old new) (stands : Stands desk v) (live : v.live session ≡ Some s) where
  fed_as : (result : Result (Unit {0}) (FeedError DeskError E)) → (f : FeedsInto state takes fails v session now piece desk next before after result)
      → FeedsSession state takes fails now (Some s) piece (manager_of desk) (manager_of next) before after f.heard f.left result
  fed_as result f =
      subst (λ (o : Option SessionValue). FeedsSession state takes fails now o piece (manager_of desk) (manager_of next) before after f.heard f.left result) live f.feeds

  -- what was put behind the file
  pub piece_put : (result : Result (Unit {0}) (FeedError DeskError E)) → FeedsInto state takes fails v session now piece desk next before after result → Put lent still missing old new to result
  piece_put result f = put_so state takes fails manager session now piece to (manager_of desk) (manager_of next) before after lent still missing old new writes s f.heard f.left result (fed_as result f)

  pub piece_same : (result : Result (Unit {0}) (FeedError DeskError E)) → FeedsInto state takes fails v session now piece desk next before after result → still ≡ lent
  piece_same result f = put_same lent still missing old new to result (piece_put result f)

  pub piece_calls : (result : Result (Unit {0}) (FeedError DeskError E)) → FeedsInto state takes fails v session now piece desk next before after result → HasCalls (IsWrite to) old new
  piece_calls result f = put_calls lent still missing old new to result (piece_put result f)

  pub piece_keeps : (result : Result (Unit {0}) (FeedError DeskError E)) → FeedsInto state takes fails v session now piece desk next before after result → KeepsOthers old.files new.files to
  piece_keeps result f = put_keeps lent still missing old new to result (piece_put result f)

  pub piece_counted : (asked failed : ℕ) → FeedsInto {T = Unit {0}} state takes fails v session now piece desk next before after (Ok tt) → is_missing old.files to ≡ false → asked ≤ failed → PieceCounts to None old new asked failed
  piece_counted asked failed f there later = let put = piece_put (Ok tt) f in done_counted None to put.0 old new asked failed refl refl refl put.1 put.2 there later

  comes_whole : (o : SessionValue) (heard : Heard) (left : Option SessionValue) → IsLive o → Admits manager (said_last (state (manager_of desk)) (state (manager_of next)))
      → FeedsSession {T = Unit {0}} state takes fails now (Some o) piece (manager_of desk) (manager_of next) before after heard left (Ok tt)
      → Comes manager session now o piece to old new heard left None
  comes_whole (Sealing o) heard left goes answers fed =
      seals_whole state takes fails manager session now piece to (manager_of desk) (manager_of next) before after lent still missing old new writes o heard left fed
  comes_whole (Opening o) heard left goes answers fed =
      opens_whole state takes fails manager session now piece to (manager_of desk) (manager_of next) before after lent still missing old new writes answers o goes heard left fed

  comes_ended : (o : SessionValue) (heard : Heard) (left : Option SessionValue) (error : FeedError DeskError E) (end : JobEnd) → JobEndsBy error (Ok end) → IsLive o
      → Admits manager (said_last (state (manager_of desk)) (state (manager_of next)))
      → FeedsSession {T = Unit {0}} state takes fails now (Some o) piece (manager_of desk) (manager_of next) before after heard left (Err error)
      → Comes manager session now o piece to old new heard left (Some end)
  comes_ended (Sealing o) heard left error end is goes answers fed =
      seals_ended state takes fails manager session now piece to (manager_of desk) (manager_of next) before after lent still missing old new writes o heard left error end is fed
  comes_ended (Opening o) heard left error end is goes answers fed =
      opens_ended state takes fails manager session now piece to (manager_of desk) (manager_of next) before after lent still missing old new writes answers o goes heard left error end is fed

  fed_desk : (heard : Heard) (left : Option SessionValue) (end : Option JobEnd) → KeepsOthers old.files new.files to → Comes manager session now s piece to old new heard left end
      → FeedsJobPiece manager session s piece v (handed_over v session (open_lines session now heard) left) to old.files new.files end
  fed_desk heard left end kept comes =
      let gained : List JournalLine = open_lines session now heard in
      let w : DeskValue = handed_over v session gained left in
      let here : w.live session ≡ left = update_here v.live session left in
      record {
        gained = gained;
        served = comes.served;
        desk = record { others = λ other apart. update_apart v.live session left other apart; last = refl; journal = refl };
        others = kept;
        lives = λ going. subst (λ (o : Option SessionValue). JobGoesOnAs s o) (sym here) (comes.lives going);
        over = λ ended. here ∙ comes.over ended;
        serves = subst (λ (o : Option SessionValue). ServesSo session s gained o comes.served end) (sym here) comes.serves;
        feeds = subst (λ (o : Option SessionValue). FeedsSo manager s piece o to old.files new.files comes.served end) (sym here) comes.feeds;
      }

  -- it was fed to its end
  pub piece_whole : Admits manager (said_last (state (manager_of desk)) (state (manager_of next))) → FeedsInto {T = Unit {0}} state takes fails v session now piece desk next before after (Ok tt)
      → (w : DeskValue) × Stands next w × FeedsJobPiece manager session s piece v w to old.files new.files None
  piece_whole answers f =
      let put = piece_put (Ok tt) f in (
        handed_over v session (open_lines session now f.heard) f.left,
        f.stands,
        fed_desk f.heard f.left None (put_keeps {T = Unit {0}} {E = E} lent still missing old new to (Ok tt) put) (comes_whole s f.heard f.left (is_live desk v session s stands live) answers (fed_as (Ok tt) f)),
      )

  -- or the job ended so
  pub piece_ended : (error : FeedError DeskError E) (end : JobEnd) → JobEndsBy error (Ok end) → Admits manager (said_last (state (manager_of desk)) (state (manager_of next))) → FeedsInto {T = Unit {0}} state takes fails v session now piece desk next before after (Err error)
      → (w : DeskValue) × Stands next w × FeedsJobPiece manager session s piece v w to old.files new.files (Some end)
  piece_ended error end is answers f = (
    handed_over v session (open_lines session now f.heard) f.left,
    f.stands,
    fed_desk f.heard f.left (Some end) (put_keeps {T = Unit {0}} lent still missing old new to (Err error) (piece_put (Err error) f)) (comes_ended s f.heard f.left error end is (is_live desk v session s stands live) answers (fed_as (Err error) f)),
  )
