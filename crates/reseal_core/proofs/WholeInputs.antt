-- What a run says of all the bytes of an input that tells them.
use Rattle.std.proofs.Common.{◌≡◌, ◌∙◌, ℕ, ◌≤◌, List, [], ◌++◌, length, Bool, true, false, Option, Some, None, refl, sym, ap, subst, arith, append-nil, append_assoc, length-append, length-take, inl, inr}
use Rattle.std.specs.List.{concat}
use Rattle.std.specs.Io.KnownBytes.{Appends, Consumes, IsAtEnd}
use Rattle.std.proofs.lemmas.List.Folds.{concat-append}
use Rattle.esdk_fields.specs.Counts.{Stayed}
use Rattle.esdk_fields.specs.Place.{start, followed}
use Rattle.esdk_fields.specs.Reading.{Reading, Read, Refused, Wanting}
use Rattle.esdk_fields.proofs.Fronts.{value_stays}
use Rattle.esdk_base.specs.Streams.{EntropyState, SinkState, SourceState}
use Rattle.esdk_fields.specs.declared.faults.Fault.{Fault}
use Rattle.esdk_fields.specs.declared.refusals.Outside.TheVariants as outsides
use Rattle.esdk_fields.specs.declared.refusals.Refusal.{Refusal}
use Rattle.context_codec.specs.Context.{KeyValue}
use Rattle.header_codec.specs.Header.{HeaderValue}
use Rattle.header_codec.specs.Table.{HeaderFields, header, opening}
use Rattle.header_codec.specs.declared.settings.Settings.{Settings}
use Rattle.header_codec.proofs.Order.{IsSequential-header}
use Rattle.keyring_trait.specs.Manager.{ManagerMeaning, request_refusal}
use Rattle.keyring_trait.specs.Materials.{EncMaterialsValue}
use Rattle.keyring_trait.specs.Unlocking.{Unlocking, Refuses, Unlocks}
use Rattle.keyring_trait.specs.Wrapping.{WrapKeyValue, active}
use Rattle.body_format.specs.declared.verdicts.Verdict.{Verdict}
use Rattle.body_format.specs.declared.verdicts.Verdict.TheVariants.{Going, Whole, Faulty}
use Rattle.message_format.specs.Judgement.{Judged, content, judged, locked}
use Rattle.message_format.specs.Reading.{unlock_header}
use Rattle.message_format.proofs.Following.{faults_stay, header_stays, units_stay}
use Rattle.message_format.proofs.Judging.{judged_refused, judged_wanting}
use Rattle.message_format.proofs.ReadingOn.{read_goes_on, read_is, unlocking_is}
use Rattle.stream_seal.specs.Start.{message_of, start_refusal, drawn_id}
use Rattle.whole_input.specs.Taken.{Came, EndSeen}
use Rattle.esdk_encrypt.specs.Encrypt.{Drew, written_so_far}
use Rattle.esdk_encrypt.specs.Laws.{NoObjectFails}
use Rattle.esdk_encrypt.specs.Told.{message_by}
use Rattle.esdk_encrypt.proofs.Fitting.{few_begin}
use Rattle.esdk_decrypt.specs.Decrypt.{fault_at_end, fault_of}
use Rattle.esdk_decrypt.specs.Told.{Reader, judged_by, unlocked_to}
use Rattle.esdk_decrypt.proofs.Readers.{answers_unlocking, judged_reader, never_fails}
use Rattle.reseal_core.specs.declared.errors.InputError.{InputError}
use Rattle.reseal_core.specs.declared.errors.InputError.TheVariants as errors
use Rattle.reseal_core.specs.Front.{AreSound}
use Rattle.reseal_core.specs.Laws.{HasFaultAndFront, IsNoMessage, IsResealable, IsResealed, front_by, new_writer}
use Rattle.reseal_core.specs.Reseal.{ResealFindsFault, OpensFirst, RefusesMessage, Reseals, ResealEnds, Resealing, ResealsInput, RefusesHeader, WritesBy}
use Rattle.reseal_core.specs.Told.{resealing_told}
use Rattle.reseal_core.proofs.NewMaterials.{CanSeal, limits_of_count, materials, writable}
use Rattle.reseal_core.proofs.Unfinished.{whole_to_nobody}

-- ---- the bytes that came

front_left : (left : Option (List ℕ)) (told bytes : List ℕ) → Consumes (Some told) left bytes → (more : List ℕ) × (told ≡ bytes ++ more)
front_left None told bytes none = absurd none
front_left (Some more) told bytes is = (more, is)

all_left : (left : Option (List ℕ)) (told bytes : List ℕ) → Consumes (Some told) left bytes → IsAtEnd left → told ≡ bytes
all_left None told bytes none end = absurd none
all_left (Some more) told bytes is end = is ∙ ap (λ rest. bytes ++ rest) end ∙ append-nil bytes

module _ (input taken : SourceState) (told bytes : List ℕ) (is : input.left ≡ Some told) (came : Came input taken bytes) where
  consumed : Consumes (Some told) taken.left bytes
  consumed = subst (λ left. Consumes left taken.left bytes) is came.consumed

  -- they are a front of those that are told
  came_front : (more : List ℕ) × (told ≡ bytes ++ more)
  came_front = front_left taken.left told bytes consumed

  -- and all of them, where the end was seen
  came_all : EndSeen input taken bytes → told ≡ bytes
  came_all seen = all_left taken.left told bytes consumed seen.end

  came_few : length bytes ≤ length told
  came_few = omega (arith, ap length came_front.1, length-append bytes came_front.0)

-- ---- what they unlock to and release

faulty : (v : Verdict) (fault : Fault) → fault_of v ≡ Some fault → v ≡ Faulty fault
faulty Going fault e = absurd cc
faulty Whole fault e = absurd cc
faulty (Faulty other) fault e = cc

fault_ends : (v : Verdict) (fault : Fault) → fault_of v ≡ Some fault → fault_at_end v ≡ Some fault
fault_ends Going fault e = absurd cc
fault_ends Whole fault e = absurd cc
fault_ends (Faulty other) fault e = e

-- no bytes are no message
none_whole : (settings : Settings) (a : Unlocking) → (judged [] settings a).verdict ≡ Whole → ⊥
unfolding header opening
none_whole settings a e = let no : Going ≡ Whole = sym (ap (λ (j : Judged). j.verdict) (judged_wanting [] settings a refl)) ∙ e in absurd cc

module _ (reader : Reader) where
  locked_reads : (b : List ℕ) (a : Unlocking) (v : Verdict) → judged b reader.settings a ≡ locked v → (judged b reader.settings a).unlocked ≡ true → ⊥
  locked_reads b a v is e = let no : false ≡ true = sym (ap (λ (j : Judged). j.unlocked) is) ∙ e in absurd cc

  -- what some bytes are unlocked to, they are unlocked to when more follow
  unlocked_on : (b more : List ℕ) → (judged_by reader b).unlocked ≡ true → unlocked_to reader (b ++ more) ≡ unlocked_to reader b
  unlocked_on b more e = by (header reader.settings (start b)) refl
    where
      at_answer : (judged b reader.settings (unlocked_to reader b)).unlocked ≡ true
      at_answer = sym (ap (λ (j : Judged). j.unlocked) (read_is b reader.settings reader.given reader.required reader.keys)) ∙ e

      by : (r : Reading HeaderFields) → header reader.settings (start b) ≡ r → unlocked_to reader (b ++ more) ≡ unlocked_to reader b
      by (Read parts p) is =
          unlocking_is (b ++ more) reader.settings reader.given reader.required reader.keys (Read parts (followed p more))
          (value_stays (header reader.settings) b more parts p (IsSequential-header reader.settings) is)
          ∙ ap (λ (h : HeaderValue). unlock_header h reader.given reader.required reader.keys) (header_stays reader.settings b more parts p is)
          ∙ sym (unlocking_is b reader.settings reader.given reader.required reader.keys (Read parts p) is)
      by (Refused fault at) is = absurd (locked_reads b (unlocked_to reader b) (Faulty fault) (judged_refused b reader.settings (unlocked_to reader b) fault at is) at_answer)
      by Wanting is = absurd (locked_reads b (unlocked_to reader b) Going (judged_wanting b reader.settings (unlocked_to reader b) is) at_answer)

  -- a fault of a front is the fault of the whole, with what was released before it
  front_judged : (told bytes more : List ℕ) (fault : Fault) → told ≡ bytes ++ more → fault_of (judged_by reader bytes).verdict ≡ Some fault → judged_by reader told ≡ judged_by reader bytes
  front_judged told bytes more fault is e =
      ap (judged_by reader) is
      ∙ faults_stay (judged_by reader) (read_goes_on reader.settings reader.given reader.required reader.keys) bytes more fault (faulty (judged_by reader bytes).verdict fault e)

  -- Bytes that come first and are unlocked: all are unlocked so, and release no less.
  record ComesFirst (told first : List ℕ) (whole only : List KeyValue) (key : List ℕ) : Type 0 where
    unlocked : unlocked_to reader told ≡ Unlocks whole only key
    added : List ℕ
    more : content (judged_by reader told) ≡ content (judged first reader.settings (Unlocks whole only key)) ++ added

  module _ (keys : List WrapKeyValue) (old new : ManagerMeaning) (size : ℕ) where
    abbrev run : Resealing
    run = resealing_told reader keys old new size

    comes_first : (input taken : SourceState) (told first : List ℕ) (whole only : List KeyValue) (key : List ℕ) → input.left ≡ Some told → OpensFirst run input taken first whole only key → ComesFirst told first whole only key
    comes_first input taken told first whole only key is o =
        let front = came_front input taken told (first ++ o.behind) is o.came in
        let rest : List ℕ = o.behind ++ front.0 in
        let told_is : told ≡ first ++ rest = front.1 ∙ append_assoc first o.behind front.0 in
        let same : judged first reader.settings (Unlocks whole only key) ≡ judged_by reader first = judged_reader reader first (Unlocks whole only key) o.answered in
        let on = units_stay (judged_by reader) (read_goes_on reader.settings reader.given reader.required reader.keys) first rest in
        record {
          unlocked = ap (unlocked_to reader) told_is ∙ unlocked_on first rest (sym (ap (λ (j : Judged). j.unlocked) same) ∙ o.unlocked)
              ∙ sym (answers_unlocking reader first (Unlocks whole only key) o.answered);
          added = concat on.0;
          more = ap (λ (b : List ℕ). content (judged_by reader b)) told_is ∙ ap concat on.1 ∙ concat-append (judged_by reader first).units on.0
              ∙ ap (λ (j : Judged). content j ++ concat on.0) (sym same);
        }

    -- ---- all of the input

    -- What was resealed are all bytes.
    pub record IsAll (bytes : List ℕ) (drawn : List ℕ) (input taken : SourceState) (output put : SinkState) (context : List KeyValue) (r : Reseals run drawn input taken output put context) : Type 0 where
      pub unlocked : unlocked_to reader bytes ≡ Unlocks context r.only r.key
      pub same : judged_by reader bytes ≡ judged r.bytes reader.settings (Unlocks context r.only r.key)

    pub all_resealed : (bytes drawn : List ℕ) (input taken : SourceState) (output put : SinkState) (context : List KeyValue) → input.left ≡ Some bytes → (r : Reseals run drawn input taken output put context)
        → IsAll bytes drawn input taken output put context r
    all_resealed bytes drawn input taken output put context told r =
        let all : bytes ≡ r.bytes = came_all input taken bytes r.bytes told r.came r.end in
        record {
          unlocked = ap (unlocked_to reader) all ∙ sym (answers_unlocking reader r.bytes (Unlocks context r.only r.key) r.answered);
          same = ap (judged_by reader) all ∙ sym (judged_reader reader r.bytes (Unlocks context r.only r.key) r.answered);
        }

    pub whole_resealed : (bytes : List ℕ) (input taken : SourceState) (output put : SinkState) (entropy spent : EntropyState) (context : List KeyValue)
        → input.left ≡ Some bytes → ResealsInput run input taken output put entropy spent context → IsResealed reader keys old size bytes output put entropy spent context
    whole_resealed bytes input taken output put entropy spent context told d =
        let r : Reseals run d.drawn input taken output put context = d.is in
        let all = all_resealed bytes d.drawn input taken output put context told r in
        record {
          only = r.only;
          key = r.key;
          unlocked = all.unlocked;
          whole = ap (λ (j : Judged). j.verdict) all.same ∙ r.whole;
          drawn = d.drawn;
          drew = d.drew;
          gained = subst (λ (j : Judged). Appends output.written put.written (message_by (new_writer keys old size context r.only) d.drawn (content j))) (sym all.same)
              (subst (λ (m : EncMaterialsValue). Appends output.written put.written (message_of m size (drawn_id d.drawn) (content (judged r.bytes reader.settings (Unlocks context r.only r.key))))) r.has.given.1 r.gained);
        }

    -- ---- its first fault

    module _ (bytes : List ℕ) (input taken : SourceState) (output put : SinkState) (entropy spent : EntropyState) (fault : Fault) (drawn : List ℕ) (told : input.left ≡ Some bytes) (has : ResealFindsFault run drawn input taken output put fault) where
      here : judged has.bytes reader.settings has.answer ≡ judged_by reader has.bytes
      here = judged_reader reader has.bytes has.answer has.passes.answered

      -- What is said of the bytes that came is said of all.
      record IsSaid : Type 0 where
        same : judged_by reader bytes ≡ judged has.bytes reader.settings has.answer
        cause : fault_at_end (judged has.bytes reader.settings has.answer).verdict ≡ Some fault
        more : List ℕ
        all : bytes ≡ has.bytes ++ more

      said : IsSaid
      said = elim has.cause [
        | inl early ↦
            (let front = came_front input taken bytes has.bytes told has.passes.came in
            record {
              same = front_judged bytes has.bytes front.0 fault front.1 (rw here at early) ∙ sym here;
              cause = fault_ends (judged has.bytes reader.settings has.answer).verdict fault early;
              more = front.0;
              all = front.1;
            })
        | inr late ↦
            (let front = came_front input taken bytes has.bytes told has.passes.came in
            record {
              same = ap (judged_by reader) (came_all input taken bytes has.bytes told has.passes.came late.0) ∙ sym here;
              cause = late.1;
              more = front.0;
              all = front.1;
            })
      ]

      -- the front, by what the bytes that came unlock to
      written_by : (answer : Unlocking) (text : List ℕ) (unlocked : Bool) → WritesBy run drawn answer text unlocked output put → Appends output.written put.written (front_by (new_writer keys old size) drawn answer unlocked text)
      written_by (Unlocks whole only key) text true w =
          subst (λ (m : EncMaterialsValue). Appends output.written put.written (written_so_far m size (drawn_id drawn) text)) w.has.given.1 w.gained
      written_by (Unlocks whole only key) text false w = w
      written_by (Refuses why) text unlocked w = w

      -- and it is no message
      unfinished_by : (answer : Unlocking) (text : List ℕ) (unlocked : Bool) → Drew run.wraps entropy spent drawn → WritesBy run drawn answer text unlocked output put
          → IsNoMessage (front_by (new_writer keys old size) drawn answer unlocked text) size (length (active keys))
      unfinished_by (Unlocks whole only key) text true drew w = λ wide narrow settings other allowed e.
          let can : CanSeal keys old size drawn whole only text = record {
            wide = wide;
            narrow = narrow;
            count = drew.count;
            sound = subst AreSound w.has.given.1 w.has.sound;
            begins = subst (λ (m : EncMaterialsValue). start_refusal m None (drawn_id drawn) ≡ None) w.has.given.1 w.has.begins;
            room = w.room;
          } in
          whole_to_nobody (materials keys old size drawn whole only) size drawn text (writable keys old size drawn whole only text can) settings (limits_of_count keys old size drawn whole only text can settings allowed) other e
      unfinished_by (Unlocks whole only key) text false drew w = λ wide narrow settings other allowed e. none_whole settings other e
      unfinished_by (Refuses why) text unlocked drew w = λ wide narrow settings other allowed e. none_whole settings other e

      -- and by what all bytes do
      same_front : (unlocked : Bool) (text : List ℕ) → (unlocked ≡ true → unlocked_to reader bytes ≡ has.answer) → front_by (new_writer keys old size) drawn has.answer unlocked text ≡ front_by (new_writer keys old size) drawn (unlocked_to reader bytes) unlocked text
      same_front true text same = ap (λ (a : Unlocking). front_by (new_writer keys old size) drawn a true text) (sym (same refl))
      same_front false text same = none_front has.answer ∙ sym (none_front (unlocked_to reader bytes))
        where
          none_front : (a : Unlocking) → front_by (new_writer keys old size) drawn a false text ≡ []
          none_front (Unlocks whole only key) = refl
          none_front (Refuses why) = refl

      same_answer : (judged has.bytes reader.settings has.answer).unlocked ≡ true → unlocked_to reader bytes ≡ has.answer
      same_answer e =
          ap (unlocked_to reader) said.all ∙ unlocked_on has.bytes said.more (sym (ap (λ (j : Judged). j.unlocked) here) ∙ e) ∙ sym (answers_unlocking reader has.bytes has.answer has.passes.answered)

      pub fault_front : Drew run.wraps entropy spent drawn → HasFaultAndFront reader keys old size bytes output put entropy spent fault
      fault_front drew =
          let j : Judged = judged has.bytes reader.settings has.answer in
          record {
            cause = ap (λ (x : Judged). fault_at_end x.verdict) said.same ∙ said.cause;
            drawn = drawn;
            drew = drew;
            gained = subst (λ (x : Judged). Appends output.written put.written (front_by (new_writer keys old size) drawn (unlocked_to reader bytes) x.unlocked (content x))) (sym said.same)
                (subst (λ (g : List ℕ). Appends output.written put.written g) (same_front j.unlocked (content j) same_answer) (written_by has.answer (content j) j.unlocked has.passes.written));
            unfinished = subst (λ (x : Judged). IsNoMessage (front_by (new_writer keys old size) drawn (unlocked_to reader bytes) x.unlocked (content x)) size (length (active keys))) (sym said.same)
                (subst (λ (g : List ℕ). IsNoMessage g size (length (active keys))) (same_front j.unlocked (content j) same_answer) (unfinished_by has.answer (content j) j.unlocked drew has.passes.written));
          }

    -- ---- only want of memory

    module _ (bytes : List ℕ) (input taken : SourceState) (output put : SinkState) (entropy spent : EntropyState) (is : IsResealable reader old size input bytes) (stayed : Stayed old.faults new.faults)
        (nothing : NoObjectFails input taken output put entropy spent) where
      same_whole : (first : List ℕ) (whole only : List KeyValue) (key : List ℕ) → ComesFirst bytes first whole only key → is.whole ≡ whole
      same_whole first whole only key comes = let e : Unlocks is.whole is.only is.key ≡ Unlocks whole only key = sym is.unlocked ∙ comes.unlocked in cc

      -- no header is too long
      start_taken : (drawn : List ℕ) (whole only : List KeyValue) (refusal : Refusal) → Drew run.wraps entropy spent drawn → RefusesHeader run drawn whole only refusal → ⊥
      start_taken drawn whole only refusal drew starts =
          let long : length (drawn_id drawn) ≡ 32 = omega (arith, length-take 32 drawn, drew.count) in
          let begins : start_refusal starts.materials None (drawn_id drawn) ≡ None =
          few_begin starts.materials (drawn_id drawn) None long starts.sound.context starts.sound.parts.each starts.sound.parts.few tt in
          let refused : Some refusal ≡ None = sym starts.refused ∙ begins in cc

      -- the new message isn't refused
      message_taken : (drawn : List ℕ) (refusal : Refusal) → Drew run.wraps entropy spent drawn → RefusesMessage run drawn input taken output put refusal → ⊥
      message_taken drawn refusal drew refuses =
          let same : is.whole ≡ refuses.whole =
          same_whole refuses.first refuses.whole refuses.only refuses.key (comes_first input taken bytes refuses.first refuses.whole refuses.only refuses.key is.input_whole.told refuses.opens) in
          elim refuses.why [
            | inl none ↦ (let refused : None ≡ Some refusal = sym is.unrefused ∙ ap (request_refusal old) same ∙ none in cc)
            | inr starts ↦ start_taken drawn refuses.whole refuses.only refusal drew starts
          ]

      pub memory_alone : (untouched unasked : Type 0) (error : InputError) → ResealEnds run input taken output put entropy spent untouched unasked error → error ≡ errors.Memory
      memory_alone untouched unasked (errors.Outside outsides.EntropyFault) ends = absurd (omega (arith, nothing.drawing, ends.rose))
      memory_alone untouched unasked (errors.Fault fault) ends =
          let named = fault_front bytes input taken output put entropy spent fault ends.drawn is.input_whole.told ends.is ends.drew in
          let none : None ≡ Some fault = sym (ap fault_at_end is.input_whole.whole) ∙ named.cause in absurd cc
      memory_alone untouched unasked (errors.Refusal refusal) ends = absurd (elim ends.is [
        | inl refuses ↦ message_taken ends.drawn refusal ends.drew refuses
        | inr many ↦
            (let m = many.1 in
            let comes = comes_first input taken bytes m.first m.whole m.only m.key is.input_whole.told m.opens in
            omega (arith, m.many, is.room, ap length comes.more, length-append (content (judged m.first reader.settings (Unlocks m.whole m.only m.key))) comes.added))
      ])
      memory_alone untouched unasked (errors.Outside outsides.SourceFault) ends = absurd (omega (arith, nothing.source, ends.is.rose))
      memory_alone untouched unasked (errors.Outside outsides.SinkFault) ends = absurd (omega (arith, nothing.sink, ends.is.0))
      memory_alone untouched unasked (errors.Outside outsides.KeyringFault) ends = absurd (elim ends.is [
        | inl fails ↦ never_fails reader fails.0.bytes fails.0.failed
        | inr fails ↦ omega (arith, stayed, fails.none.1)
      ])
      memory_alone untouched unasked (errors.Outside outsides.InputTooLong) ends =
          absurd (omega (arith, came_few input taken bytes ends.is.bytes is.input_whole.told ends.is.passes.came, ends.is.most.count, is.input_whole.few))
      memory_alone untouched unasked (errors.Outside other) ends = absurd ends.is
      memory_alone untouched unasked errors.Memory ends = refl
