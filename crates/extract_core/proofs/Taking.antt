-- What is so while the bytes of one unit are taken from a file.
use Rattle.std.proofs.Common.{◌≡◌, ℕ, ◌+◌, ◌≤◌, List, [], ◌++◌, length, drop, Bool, Option, Some, None, Result, Ok, Err, IfOk, IfErr, refl, sym, ap, subst, ◌∙◌, arith, inl, inr, append_assoc}
use Rattle.std.proofs.lemmas.List.{length-append}
use Rattle.esdk_fields.specs.declared.contents.Content.{Content}
use Rattle.esdk_fields.specs.declared.contents.Content.TheVariants.{Single, Framed}
use Rattle.esdk_fields.specs.declared.faults.Fault.{Fault}
use Rattle.esdk_fields.specs.declared.faults.Fault.TheVariants.{UnitTag}
use Rattle.esdk_fields.specs.declared.refusals.Outside.TheVariants as outsides
use Rattle.esdk_fields.specs.Place.{start, past, followed}
use Rattle.esdk_fields.specs.Reading.{Read, Refused}
use Rattle.esdk_fields.proofs.Fronts.{fault_stays, value_stays}
use Rattle.esdk_base.specs.Shelf.{Files, is_missing}
use Rattle.esdk_base.specs.Streams.{FailsToRead, ShelfState}
use Rattle.frame_codec.specs.declared.kinds.UnitKind.{UnitKind}
use Rattle.frame_codec.specs.declared.kinds.UnitKind.TheVariants as kinds
use Rattle.frame_codec.specs.declared.unit_heads.Head.TheVariants as heads
use Rattle.frame_codec.specs.declared.unit_heads.UnitHead.{UnitHead}
use Rattle.frame_codec.specs.InPlace.{unit_size, whole_reading}
use Rattle.frame_codec.specs.Unit.{Piece, piece_of, unit}
use Rattle.frame_codec.specs.UnitBuffer.{opened_of}
use Rattle.frame_codec.specs.UnitHead.{head_of}
use Rattle.frame_codec.proofs.InPlace.{whole_is}
use Rattle.frame_codec.proofs.Order.{IsSequential-unit}
use Rattle.frame_codec.proofs.Units.{unit_refuses_head}
use Rattle.whole_input.specs.FileReads.{Grows, IsSeenAs}
use Rattle.whole_input.proofs.Agreeing.{grows_more, grows_none, seen_first, seen_second}
use Rattle.extract_core.specs.declared.errors.ExtractError.{ExtractError}
use Rattle.extract_core.specs.declared.errors.ExtractError.TheVariants as errors
use Rattle.extract_core.specs.declared.slots.Slots.{Slots}
use Rattle.extract_core.specs.Extracted.{slot_width, unit_fault}
use Rattle.extract_core.specs.Slots.{IsUnitRead, IsThere, HoldsNoMore, NeedsBytes, ReadsUnit, ReadsWidth, SlotsKeepBody, SlotsStandAt, TakesMore, TakesNoSlot, TakesOn, TakesUnit, UnitFails, head_room, is_last, known, least_room, piece_at, slots_read_count, unit_reach, unit_read}
use Rattle.stream_open.proofs.WholeUnits.{head_stays}
use Rattle.extract_core.proofs.Heads.{IsHead, frame_room, is_head, least_within, one_block, opened_short, width_room}

-- The bytes of the unit that came so far are held, and what is read ahead stands behind them.
pub record IsTaking (old now : Slots) (before after : ShelfState) (name : List ℕ) (at want : ℕ) : Type 0 where
  pub same : SlotsKeepBody old now
  pub files : after.files ≡ before.files
  pub grown : Grows before.calls after.calls
  pub faults : after.faults ≡ before.faults
  pub given : after.given ≤ before.given + slots_read_count now
  pub room : (told : List ℕ) → IsSeenAs before after name told → slots_read_count now ≤ head_room old.content (known old want (drop at told))
  pub stands : (told : List ℕ) → IsSeenAs before after name told → SlotsStandAt now told at
  pub within : HoldsNoMore now want now.unit.held

-- nothing is held, and nothing is read ahead
pub begins : (old now : Slots) (s : ShelfState) (name : List ℕ) (at want : ℕ) → SlotsKeepBody old now → now.unit.held ≡ [] → now.ahead ≡ [] → IsTaking old now s s name at want
begins old now s name at want same held ahead =
    let none : slots_read_count now ≡ 0 = omega (arith, ap length held, ap length ahead) in
    let here : at + 0 ≡ at = omega arith in
    record {
      same = same;
      files = refl;
      grown = grows_none s.calls;
      faults = refl;
      given = omega arith;
      room = λ told h. omega (arith, none);
      stands = λ told h. record { front = rw (held, ahead) (ap (λ (n : ℕ). drop n told) (sym here)) };
      within = λ head is. omega (arith, ap length held);
    }

pub same_same : (a b c : Slots) → SlotsKeepBody a b → SlotsKeepBody b c → SlotsKeepBody a c
same_same a b c first second = record {
  key = second.key ∙ first.key;
  id = second.id ∙ first.id;
  content = second.content ∙ first.content;
  max_unit = second.max_unit ∙ first.max_unit;
  begin = second.begin ∙ first.begin;
}

-- what is known and read of bytes is the same of the same body
same_known : (a b : Slots) (want : ℕ) (bytes : List ℕ) → SlotsKeepBody a b → known b want bytes ≡ known a want bytes
same_known a b want bytes same = rw (same.content, same.max_unit) refl

pub same_read : (a b : Slots) (want : ℕ) (bytes : List ℕ) → SlotsKeepBody a b → unit_read b want bytes ≡ unit_read a want bytes
same_read a b want bytes same = rw (same.content, same.max_unit, same.key, same.id) refl

within_same : (a b : Slots) (want : ℕ) (held grown : List ℕ) → SlotsKeepBody a b → grown ≡ held → HoldsNoMore a want held → HoldsNoMore b want grown
within_same a b want held grown same is within = λ head e.
    let inside = within head (sym (same_known a b want held same) ∙ ap (λ (l : List ℕ). known b want l) (sym is) ∙ e) in omega (arith, inside, ap length is)

-- a slot's width is read in any case
width_least : (content : Content) → slot_width content ≤ least_room content
width_least Single = omega arith
width_least (Framed frame) = omega arith

-- a read that failed later failed from the first moment on
pub fails_from : (before mid after : ShelfState) (name : List ℕ) → mid.files ≡ before.files → mid.faults ≡ before.faults → FailsToRead mid after name → FailsToRead before after name
fails_from before mid after name files faults (inl rose) = inl (omega (arith, rose, faults))
fails_from before mid after name files faults (inr missing) = inr (ap (λ (f : Option Files). is_missing f name) (sym files) ∙ missing.0, missing.1 ∙ faults)

-- the file has what is held, and more
held_front : (s : Slots) (told : List ℕ) (at : ℕ) → SlotsStandAt s told at → drop at told ≡ s.unit.held ++ (s.ahead ++ drop (at + slots_read_count s) told)
held_front s told at stands = stands.front ∙ append_assoc s.unit.held s.ahead (drop (at + slots_read_count s) told)

-- how much is read of the unit, more of the file being read
read_room : (old l new : Slots) (before mid after : ShelfState) (name : List ℕ) (at want end : ℕ) → IsTaking old l before mid name at want → TakesOn l new mid after name at end → NeedsBytes l want end
    → (told : List ℕ) → IsSeenAs before after name told → slots_read_count new ≤ head_room old.content (known old want (drop at told))
read_room old l new before mid after name at want end taking on needs told h =
    let early : IsSeenAs before mid name told = seen_first before mid after name told taking.grown on.grown h in
    let more : List ℕ = l.ahead ++ drop (at + slots_read_count l) told in
    let there : drop at told ≡ l.unit.held ++ more = held_front l told at (taking.stands told early) in
    let same : head_room l.content (known l want (l.unit.held ++ more)) ≡ head_room old.content (known old want (drop at told)) =
    ap (λ (b : List ℕ). head_room l.content (known l want b)) (sym there) ∙ ap (head_room l.content) (same_known old l want (drop at told) taking.same)
    ∙ ap (λ (c : Content). head_room c (known old want (drop at told))) taking.same.content in
    omega (arith, taking.room told early, on.reach, needs.room more, same, width_least l.content, least_within l.content (known l want (l.unit.held ++ more)))

read_stands : (old l new : Slots) (before mid after : ShelfState) (name : List ℕ) (at want end : ℕ) → IsTaking old l before mid name at want → TakesOn l new mid after name at end
    → (told : List ℕ) → IsSeenAs before after name told → SlotsStandAt new told at
read_stands old l new before mid after name at want end taking on told h = on.stands told (seen_second before mid after name told taking.files taking.grown on.grown h) (taking.stands told (seen_first before mid after name told taking.grown on.grown h))

-- more bytes of the unit are held
pub goes_on : (old l new : Slots) (before mid after : ShelfState) (name : List ℕ) (at want end : ℕ) → IsTaking old l before mid name at want → TakesOn l new mid after name at end
    → TakesMore l new mid after end → NeedsBytes l want end → IsTaking old new before after name at want
goes_on old l new before mid after name at want end taking on more needs = record {
  same = same_same old l new taking.same on.same;
  files = on.files ∙ taking.files;
  grown = grows_more before.calls mid.calls after.calls taking.grown on.grown;
  faults = more.faults ∙ taking.faults;
  given = omega (arith, taking.given, on.given, on.on);
  room = read_room old l new before mid after name at want end taking on needs;
  stands = read_stands old l new before mid after name at want end taking on;
  within = within_same l new want (l.unit.held ++ more.bytes) new.unit.held on.same more.grown (needs.within more.bytes (omega (arith, ap length more.grown, more.most)));
}

-- ---- what is read

fault_of_reading : (s : Slots) (want : ℕ) (held more bytes : List ℕ) (fault : Fault) (at : ℕ) → unit_read s want held ≡ Refused fault at → bytes ≡ held ++ more → unit_fault (unit_read s want bytes) ≡ Some fault
fault_of_reading s want held more bytes fault at e is =
    ap (λ (b : List ℕ). unit_fault (unit_read s want b)) is
    ∙ ap unit_fault (fault_stays (unit s.content s.max_unit s.key s.message_id want) held more fault at (IsSequential-unit s.content s.max_unit s.key s.message_id want) e)

-- a fault of what is held is the fault of what stands in the file
pub refused_there : (old now : Slots) (before after : ShelfState) (name : List ℕ) (at want : ℕ) (fault : Fault) (end : ℕ) → IsTaking old now before after name at want
    → unit_read now want now.unit.held ≡ Refused fault end → UnitFails (λ told. unit_read old want (drop at told)) before after name (errors.Fault fault)
refused_there old now before after name at want fault end taking e = (
  taking.faults,
  λ told h.
      ap unit_fault (sym (same_read old now want (drop at told) taking.same))
      ∙ fault_of_reading now want now.unit.held _ (drop at told) fault end e (held_front now told at (taking.stands told h)),
)

pub refused_head : (old now : Slots) (before after : ShelfState) (name : List ℕ) (at want : ℕ) (fault : Fault) → IsTaking old now before after name at want
    → known now want now.unit.held ≡ heads.Refused fault → UnitFails (λ told. unit_read old want (drop at told)) before after name (errors.Fault fault)
refused_head old now before after name at want fault taking e =
    let r = unit_refuses_head now.content now.max_unit now.key now.message_id want now.unit.held fault e in
    refused_there old now before after name at want fault (0 + r.0) taking (r.2 0)

-- the file ends, or a read fails
pub none_taken : (old l new : Slots) (before mid after : ShelfState) (name : List ℕ) (at want end : ℕ) (error : ExtractError) → IsTaking old l before mid name at want → NeedsBytes l want end
    → TakesOn l new mid after name at end → TakesNoSlot l mid after name at error → UnitFails (λ told. unit_read old want (drop at told)) before after name error
none_taken old l new before mid after name at want end (errors.Fault fault) taking needs on none = (
  none.1 ∙ taking.faults,
  λ told h.
      ap unit_fault (sym (same_read old l want (drop at told) taking.same))
      ∙ ap (λ (b : List ℕ). unit_fault (unit_read l want b)) (none.2 told (seen_second before mid after name told taking.files taking.grown on.grown h) (taking.stands told (seen_first before mid after name told taking.grown on.grown h)))
      ∙ ap unit_fault needs.wanting ∙ ap Some (sym none.0),
)
none_taken old l new before mid after name at want end (errors.Outside outsides.SourceFault) taking needs on none = none
none_taken old l new before mid after name at want end (errors.Outside outsides.SinkFault) taking needs on none = none
none_taken old l new before mid after name at want end (errors.Outside outsides.ShelfFault) taking needs on none = fails_from before mid after name taking.files taking.faults none
none_taken old l new before mid after name at want end (errors.Outside outsides.EntropyFault) taking needs on none = none
none_taken old l new before mid after name at want end (errors.Outside outsides.KeyringFault) taking needs on none = none
none_taken old l new before mid after name at want end (errors.Outside outsides.InputTooLong) taking needs on none = none
none_taken old l new before mid after name at want end errors.Memory taking needs on none = none ∙ taking.faults

-- the unit is whole
unit_is : (s : Slots) (want : ℕ) (head : UnitHead) (o : Option (List ℕ)) → IsThere s want head → opened_of s.key s.message_id head s.unit.held ≡ o → unit_read s want s.unit.held ≡ whole_reading head s.unit.held o
unit_is s want head o there opens = whole_is s.content s.max_unit s.key s.message_id want s.unit.held head o there.known (omega (arith, there.whole)) opens

piece_is : (kind : UnitKind) (content : List ℕ) (last : Bool) → last ≡ is_last kind → piece_of kind content ≡ piece_at last content
piece_is kinds.Regular content last e = rw e refl
piece_is kinds.Final content last e = rw e refl
piece_is kinds.Single content last e = rw e refl

pub closed_there : (old now : Slots) (before after : ShelfState) (name : List ℕ) (at want : ℕ) (head : UnitHead) → IsTaking old now before after name at want → IsThere now want head
    → opened_of now.key now.message_id head now.unit.held ≡ None → UnitFails (λ told. unit_read old want (drop at told)) before after name (errors.Fault (UnitTag head.number))
closed_there old now before after name at want head taking there closed =
    refused_there old now before after name at want (UnitTag head.number) _ taking (unit_is now want head None there closed)

opened_read : (s : Slots) (want : ℕ) (held more bytes text : List ℕ) (head : UnitHead) (last : Bool) → unit_read s want held ≡ whole_reading head held (Some text) → last ≡ is_last head.kind
    → bytes ≡ held ++ more → IsUnitRead (unit_read s want bytes) last text
opened_read s want held more bytes text head last e last_is is = record {
  next = followed (past (unit_size head) (start held)) more;
  is = ap (λ (b : List ℕ). unit_read s want b) is
      ∙ value_stays (unit s.content s.max_unit s.key s.message_id want) held more (piece_of head.kind text) (past (unit_size head) (start held)) (IsSequential-unit s.content s.max_unit s.key s.message_id want) e
      ∙ ap (λ (p : Piece). Read p (followed (past (unit_size head) (start held)) more)) (piece_is head.kind text last last_is);
}

read_of_same : (old now : Slots) (want : ℕ) (bytes text : List ℕ) (last : Bool) → SlotsKeepBody old now → IsUnitRead (unit_read now want bytes) last text → IsUnitRead (unit_read old want bytes) last text
read_of_same old now want bytes text last same read = record { next = read.next; is = sym (same_read old now want bytes same) ∙ read.is }

-- where others follow the unit, no more than a slot's width was read for it
width_read : (old now : Slots) (before after : ShelfState) (name : List ℕ) (at want : ℕ) (head : UnitHead) (last : Bool) → IsTaking old now before after name at want → IsThere now want head
    → last ≡ is_last head.kind → ReadsWidth old.content before after name last
width_read old now before after name at want head last taking there last_is others told h =
    let more : List ℕ = now.ahead ++ drop (at + slots_read_count now) told in
    let known_is : known old want (drop at told) ≡ heads.Unit head =
    sym (same_known old now want (drop at told) taking.same) ∙ ap (λ (b : List ℕ). known now want b) (held_front now told at (taking.stands told h))
    ∙ head_stays now.content want now.max_unit now.unit.held more head there.known in
    let is : IsHead old.content head = is_head old.content want old.max_unit (drop at told) head known_is in
    omega (arith, taking.given, taking.room told h, ap (head_room old.content) known_is, width_room old.content head is (sym last_is ∙ others))

pub opened_there : (old now new : Slots) (before after : ShelfState) (name : List ℕ) (at want : ℕ) (head : UnitHead) (last : Bool) → IsTaking old now before after name at want → IsThere now want head
    → opened_of now.key now.message_id head now.unit.held ≡ Some new.unit.out → last ≡ is_last head.kind → new.unit.held ≡ [] → TakesUnit old new before after name at want last
opened_there old now new before after name at want head last taking there opens last_is empty =
    let h : IsHead now.content head = is_head now.content want now.max_unit now.unit.held head there.known in
    let short = opened_short now.key now.message_id head now.unit.held new.unit.out opens in
    record {
      read = λ told holds. read_of_same old now want (drop at told) new.unit.out last taking.same
          (opened_read now want now.unit.held _ (drop at told) new.unit.out head last (unit_is now want head (Some new.unit.out) there opens) last_is (held_front now told at (taking.stands told holds)));
      empty = empty;
      faults = taking.faults;
      grown = taking.grown;
      sized = record {
        few = omega (arith, short, there.short);
        frame = λ frame is. let most = h.frame frame (taking.same.content ∙ is) in omega (arith, short, most);
        single = λ is. last_is ∙ h.single (taking.same.content ∙ is);
      };
      width = width_read old now before after name at want head last taking there last_is;
    }

-- ---- how much is read

reach_is : (content : Content) (want : ℕ) (max_unit : Option ℕ) (s : Slots) (told : List ℕ) (at : ℕ) → slots_read_count s ≤ head_room content (head_of content want max_unit (drop at told)) → SlotsStandAt s told at
    → slots_read_count s ≤ unit_reach content max_unit (drop at told)
reach_is Single want max_unit s told at room stands =
    let one = ap (head_room Single) (one_block want max_unit (drop at told)) in
    omega (arith, room, one, ap length stands.front, length-append (s.unit.held ++ s.ahead) (drop (at + slots_read_count s) told), length-append s.unit.held s.ahead)
reach_is (Framed frame) want max_unit s told at room stands =
    let most = frame_room frame want max_unit (drop at told) (head_of (Framed frame) want max_unit (drop at told)) refl in omega (arith, room, most)

-- where nothing more was read than what is taken
pub reads_so_far : (old now new : Slots) (before after : ShelfState) (name : List ℕ) (at want : ℕ) → IsTaking old now before after name at want → SlotsKeepBody now new → ReadsUnit old new before after name at
reads_so_far old now new before after name at want taking same = record {
  same = same_same old now new taking.same same;
  files = taking.files;
  grown = taking.grown;
  later = omega (arith, taking.faults);
  given = λ told h. let most = reach_is old.content want old.max_unit now told at (taking.room told h) (taking.stands told h) in omega (arith, taking.given, most);
}

-- where more was read
pub reads_on : (old l new : Slots) (before mid after : ShelfState) (name : List ℕ) (at want end : ℕ) → IsTaking old l before mid name at want → TakesOn l new mid after name at end
    → NeedsBytes l want end → ReadsUnit old new before after name at
reads_on old l new before mid after name at want end taking on needs = record {
  same = same_same old l new taking.same on.same;
  files = on.files ∙ taking.files;
  grown = grows_more before.calls mid.calls after.calls taking.grown on.grown;
  later = omega (arith, taking.faults, on.later);
  given = λ told h.
      let most = reach_is old.content want old.max_unit new told at (read_room old l new before mid after name at want end taking on needs told h) (read_stands old l new before mid after name at want end taking on told h) in
      omega (arith, taking.given, on.given, on.on, most);
}

pub same_as_is : (s : Slots) → SlotsKeepBody s s
same_as_is s = record { key = refl; id = refl; content = refl; max_unit = refl; begin = refl }

-- ---- what opening answers

pub opened_answer : (old now new : Slots) (before after : ShelfState) (name : List ℕ) (at want : ℕ) (head : UnitHead) (r : Result Bool ExtractError) → IsTaking old now before after name at want
    → IsThere now want head → IfOk r (λ last. opened_of now.key now.message_id head now.unit.held ≡ Some new.unit.out) → IfOk r (λ last. last ≡ is_last head.kind)
    → IfOk r (λ last. new.unit.held ≡ []) → IfOk r (TakesUnit old new before after name at want)
opened_answer old now new before after name at want head (Ok last) taking there opens last_is empty =
    opened_there old now new before after name at want head last taking there opens last_is empty
opened_answer old now new before after name at want head (Err error) taking there opens last_is empty = tt

pub closed_answer : (old now : Slots) (before after : ShelfState) (name : List ℕ) (at want : ℕ) (head : UnitHead) (r : Result Bool ExtractError) → IsTaking old now before after name at want
    → IsThere now want head → IfErr r (λ e. (e ≡ errors.Fault (UnitTag head.number)) × (opened_of now.key now.message_id head now.unit.held ≡ None))
    → IfErr r (UnitFails (λ told. unit_read old want (drop at told)) before after name)
closed_answer old now before after name at want head (Ok last) taking there closed = tt
closed_answer old now before after name at want head (Err error) taking there closed =
    subst (UnitFails (λ told. unit_read old want (drop at told)) before after name) (sym closed.0) (closed_there old now before after name at want head taking there closed.1)
