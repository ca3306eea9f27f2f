-- A run over managers that tell their keys: what is so over any managers, and what these keys make of it.
use Rattle.std.proofs.Common.{◌≡◌, ◌⊎◌, ℕ, true, false, Bool, List, [], None, Result, Ok, Err, IfOk, inl, inr, sym}
use Rattle.std.specs.Prelude.{IfErr}
use Rattle.stream_seal.specs.Start.{drawn_rest}
use Rattle.esdk_fields.specs.Counts.{Stayed}
use Rattle.esdk_fields.specs.Place.{start}
use Rattle.esdk_fields.specs.declared.refusals.Outside.TheVariants as outsides
use Rattle.esdk_fields.specs.declared.refusals.Refusal.{Refusal}
use Rattle.esdk_base.specs.Receiver.{SinkTakes}
use Rattle.esdk_base.specs.Streams.{EntropyState, SinkState, SourceState}
use Rattle.context_codec.specs.Context.{KeyValue}
use Rattle.header_codec.specs.declared.settings.Settings.{Settings}
use Rattle.header_codec.specs.Table.{header}
use Rattle.keyring_trait.specs.declared.manager_errors.ManagerError.{ManagerError}
use Rattle.keyring_trait.specs.declared.manager_errors.ManagerError.TheVariants as managers
use Rattle.keyring_trait.specs.Manager.{ManagerNow}
use Rattle.keyring_trait.specs.Materials.{EncMaterialsValue}
use Rattle.keyring_trait.specs.Requests.{EncRequestValue}
use Rattle.keyring_trait.specs.Unlocking.{Unlocking, Refuses, Unlocks}
use Rattle.keyring_trait.specs.Wrapping.{WrapKeyValue}
use Rattle.message_format.specs.Judgement.{content, judged}
use Rattle.esdk_encrypt.proofs.Telling.{CountsWraps, is_told, told_more}
use Rattle.esdk_decrypt.specs.Decrypt.{Answering, DecryptLacksMemory, DecryptManagerFails, answering_of}
use Rattle.esdk_decrypt.specs.Told.{Reader, answering_by}
use Rattle.esdk_decrypt.proofs.Told.{Allows, answered_allowed, asked_of, failing_allowed, reader_allows}
use Rattle.reseal_core.specs.declared.errors.InputError.{InputError}
use Rattle.reseal_core.specs.declared.errors.InputError.TheVariants as errors
use Rattle.reseal_core.specs.Front.{request_for}
use Rattle.reseal_core.specs.Reseal.{ResealEndsSo, HasMaterials, OpensFirst, Passes, RefusesMessage, Reseals, ResealEnds, Resealing, ResealsInput, RefusesHeader, WritesBy, WritesFirst, ResealWritesFront, resealing_from}
use Rattle.reseal_core.specs.Told.{resealing_told}

-- What a manager gives, and why it gives nothing.
pub record Giving : Type 1 where
  pub wraps : ℕ
  pub gives : EncRequestValue → List ℕ → EncMaterialsValue → Type 0
  pub gives_none : EncRequestValue → ManagerError → Type 0

-- What the one may give, the other may too.
pub record GivesMore (a b : Giving) : Type 0 where
  pub wraps : a.wraps ≡ b.wraps
  pub gives : (request : EncRequestValue) (random : List ℕ) (m : EncMaterialsValue) → a.gives request random m → b.gives request random m
  pub gives_none : (request : EncRequestValue) (error : ManagerError) → a.gives_none request error → b.gives_none request error

abbrev pub run_of : Answering → Settings → List KeyValue → Giving → ℕ → Resealing
run_of manager settings given giving size =
    record { opening = asked_of manager settings given; wraps = giving.wraps; gives = giving.gives; gives_none = giving.gives_none; size = size }

module _ (from to : Answering) (settings : Settings) (given : List KeyValue) (first second : Giving) (size : ℕ) (allows : Allows from to) (more : GivesMore first second) where
  abbrev a : Resealing
  a = run_of from settings given first size

  abbrev b : Resealing
  b = run_of to settings given second size

  has_more : (drawn : List ℕ) (whole only : List KeyValue) (m : EncMaterialsValue) → HasMaterials a drawn whole only m → HasMaterials b drawn whole only m
  has_more drawn whole only m has = record { given = more.gives (request_for whole only) (drawn_rest drawn) m has.given; sound = has.sound; begins = has.begins }

  front_more : (drawn : List ℕ) (whole only : List KeyValue) (text : List ℕ) (output put : SinkState) → ResealWritesFront a drawn whole only text output put → ResealWritesFront b drawn whole only text output put
  front_more drawn whole only text output put front = record { materials = front.materials; has = has_more drawn whole only front.materials front.has; room = front.room; gained = front.gained }

  writes_more : (drawn : List ℕ) (answer : Unlocking) (text : List ℕ) (unlocked : Bool) (output put : SinkState) → WritesBy a drawn answer text unlocked output put → WritesBy b drawn answer text unlocked output put
  writes_more drawn (Unlocks whole only key) text true output put front = front_more drawn whole only text output put front
  writes_more drawn (Unlocks whole only key) text false output put nothing = nothing
  writes_more drawn (Refuses fault) text unlocked output put nothing = nothing

  passes_more : (drawn : List ℕ) (input taken : SourceState) (output put : SinkState) (bytes : List ℕ) (answer : Unlocking) → Passes a drawn input taken output put bytes answer → Passes b drawn input taken output put bytes answer
  passes_more drawn input taken output put bytes answer p = record {
    came = p.came;
    answered = answered_allowed from to settings given bytes answer allows p.answered;
    written = writes_more drawn answer (content (judged bytes settings answer)) (judged bytes settings answer).unlocked output put p.written;
  }

  abbrev opens_more : (input taken : SourceState) (bytes : List ℕ) (whole only : List KeyValue) (key : List ℕ) → OpensFirst a input taken bytes whole only key → OpensFirst b input taken bytes whole only key
  opens_more input taken bytes whole only key o = record {
    behind = o.behind;
    few = o.few;
    came = o.came;
    answered = answered_allowed from to settings given bytes (Unlocks whole only key) allows o.answered;
    sound = o.sound;
    unlocked = o.unlocked;
  }

  pub reseals_more : (drawn : List ℕ) (input taken : SourceState) (output put : SinkState) (context : List KeyValue) → Reseals a drawn input taken output put context → Reseals b drawn input taken output put context
  reseals_more drawn input taken output put context r = record {
    bytes = r.bytes;
    only = r.only;
    key = r.key;
    came = r.came;
    answered = answered_allowed from to settings given r.bytes (Unlocks context r.only r.key) allows r.answered;
    end = r.end;
    whole = r.whole;
    materials = r.materials;
    has = has_more drawn context r.only r.materials r.has;
    room = r.room;
    gained = r.gained;
  }

  fails_more : (input taken : SourceState) → DecryptManagerFails a.opening input taken → DecryptManagerFails b.opening input taken
  fails_more input taken f = record { bytes = f.bytes; came = f.came; faults = f.faults; failed = failing_allowed from to given f.bytes (header settings (start f.bytes)) allows f.failed; last = f.last }

  lacks_more : (input taken : SourceState) → DecryptLacksMemory a.opening input taken → DecryptLacksMemory b.opening input taken
  lacks_more input taken l = record {
    before = l.before;
    last = l.last;
    came = l.came;
    few = l.few;
    lacks = record {
      answer = l.lacks.answer;
      answered = answered_allowed from to settings given l.before l.lacks.answer allows l.lacks.answered;
      going = l.lacks.going;
      unreserved = l.lacks.unreserved;
    };
  }

  starts_more : (drawn : List ℕ) (whole only : List KeyValue) (refusal : Refusal) → RefusesHeader a drawn whole only refusal → RefusesHeader b drawn whole only refusal
  starts_more drawn whole only refusal s = record { materials = s.materials; given = more.gives (request_for whole only) (drawn_rest drawn) s.materials s.given; sound = s.sound; refused = s.refused }

  pub ends_more : (drawn : List ℕ) (input taken : SourceState) (output put : SinkState) (error : InputError) → ResealEndsSo a drawn input taken output put error → ResealEndsSo b drawn input taken output put error
  ends_more drawn input taken output put (errors.Fault fault) e =
      record { bytes = e.bytes; answer = e.answer; passes = passes_more drawn input taken output put e.bytes e.answer e.passes; faults = e.faults; cause = e.cause; last = e.last }
  ends_more drawn input taken output put (errors.Refusal refusal) (inl e) = inl (refuses_more e.why)
    where
      refuses_more : (a.gives_none (request_for e.whole e.only) (managers.Refusal refusal) ⊎ RefusesHeader a drawn e.whole e.only refusal) → RefusesMessage b drawn input taken output put refusal
      refuses_more (inl none) = record {
        first = e.first;
        whole = e.whole;
        only = e.only;
        key = e.key;
        opens = opens_more input taken e.first e.whole e.only e.key e.opens;
        faults = e.faults;
        why = inl (more.gives_none (request_for e.whole e.only) (managers.Refusal refusal) none);
        nothing = e.nothing;
        last = e.last;
      }
      refuses_more (inr starts) = record {
        first = e.first;
        whole = e.whole;
        only = e.only;
        key = e.key;
        opens = opens_more input taken e.first e.whole e.only e.key e.opens;
        faults = e.faults;
        why = inr (starts_more drawn e.whole e.only refusal starts);
        nothing = e.nothing;
        last = e.last;
      }
  ends_more drawn input taken output put (errors.Refusal refusal) (inr (is, e)) = inr (
    is,
    record {
      first = e.first;
      whole = e.whole;
      only = e.only;
      key = e.key;
      opens = opens_more input taken e.first e.whole e.only e.key e.opens;
      faults = e.faults;
      materials = e.materials;
      has = has_more drawn e.whole e.only e.materials e.has;
      many = e.many;
      gained = e.gained;
      last = e.last;
    },
  )
  ends_more drawn input taken output put (errors.Outside outsides.SourceFault) e =
      record { bytes = e.bytes; answer = e.answer; passes = passes_more drawn input taken output put e.bytes e.answer e.passes; sound = e.sound; rose = e.rose }
  ends_more drawn input taken output put (errors.Outside outsides.SinkFault) (rose, inl e) = (
    rose,
    inl (record {
      first = e.first;
      whole = e.whole;
      only = e.only;
      key = e.key;
      opens = opens_more input taken e.first e.whole e.only e.key e.opens;
      faults = e.faults;
      materials = e.materials;
      has = has_more drawn e.whole e.only e.materials e.has;
      last = e.last;
    }),
  )
  ends_more drawn input taken output put (errors.Outside outsides.SinkFault) (rose, inr e) = (
    rose,
    inr (record {
      bytes = e.bytes;
      whole = e.whole;
      only = e.only;
      key = e.key;
      came = e.came;
      answered = answered_allowed from to settings given e.bytes (Unlocks e.whole e.only e.key) allows e.answered;
      end = e.end;
      verdict = e.verdict;
      materials = e.materials;
      has = has_more drawn e.whole e.only e.materials e.has;
      room = e.room;
      front = e.front;
    }),
  )
  ends_more drawn input taken output put (errors.Outside outsides.KeyringFault) (inl (fails, nothing)) = inl (fails_more input taken fails, nothing)
  ends_more drawn input taken output put (errors.Outside outsides.KeyringFault) (inr e) = inr (record {
    first = e.first;
    whole = e.whole;
    only = e.only;
    key = e.key;
    opens = opens_more input taken e.first e.whole e.only e.key e.opens;
    faults = e.faults;
    none = more.gives_none (request_for e.whole e.only) managers.KeyringFault e.none;
    nothing = e.nothing;
    last = e.last;
  })
  ends_more drawn input taken output put (errors.Outside outsides.InputTooLong) e =
      record { bytes = e.bytes; answer = e.answer; passes = passes_more drawn input taken output put e.bytes e.answer e.passes; sound = e.sound; most = e.most }
  ends_more drawn input taken output put (errors.Outside other) none = none
  ends_more drawn input taken output put errors.Memory e = record { lacks = lacks_more input taken e.lacks; written = written_more e.written }
    where
      written_more : (SinkTakes output put [] ⊎ WritesFirst a drawn input taken output put) → SinkTakes output put [] ⊎ WritesFirst b drawn input taken output put
      written_more (inl nothing) = inl nothing
      written_more (inr w) = inr (record {
        first = w.first;
        whole = w.whole;
        only = w.only;
        key = w.key;
        opens = opens_more input taken w.first w.whole w.only w.key w.opens;
        front = front_more drawn w.whole w.only (content (judged w.first settings (Unlocks w.whole w.only w.key))) output put w.front;
      })

  pub input_more : (input taken : SourceState) (output put : SinkState) (entropy spent : EntropyState) (context : List KeyValue) → ResealsInput a input taken output put entropy spent context → ResealsInput b input taken output put entropy spent context
  input_more input taken output put entropy spent context d = record {
    drawn = d.drawn;
    drew = rw more.wraps at d.drew;
    is = reseals_more d.drawn input taken output put context d.is;
  }

  pub stops_more : (input taken : SourceState) (output put : SinkState) (entropy spent : EntropyState) (untouched unasked : Type 0) (error : InputError) → ResealEnds a input taken output put entropy spent untouched unasked error
      → ResealEnds b input taken output put entropy spent untouched unasked error
  stops_more input taken output put entropy spent untouched unasked (errors.Outside outsides.EntropyFault) d = d
  stops_more input taken output put entropy spent untouched unasked (errors.Outside outside) d =
      record { drawn = d.drawn; drew = rw more.wraps at d.drew; is = ends_more d.drawn input taken output put (errors.Outside outside) d.is }
  stops_more input taken output put entropy spent untouched unasked (errors.Fault fault) d =
      record { drawn = d.drawn; drew = rw more.wraps at d.drew; is = ends_more d.drawn input taken output put (errors.Fault fault) d.is }
  stops_more input taken output put entropy spent untouched unasked (errors.Refusal refusal) d =
      record { drawn = d.drawn; drew = rw more.wraps at d.drew; is = ends_more d.drawn input taken output put (errors.Refusal refusal) d.is }
  stops_more input taken output put entropy spent untouched unasked errors.Memory d =
      record { drawn = d.drawn; drew = rw more.wraps at d.drew; is = ends_more d.drawn input taken output put errors.Memory d.is }

-- ---- what keys make of it

module _ (opened opening sealed sealing : ManagerNow) (now : ℕ) (settings : Settings) (given : List KeyValue) (size : ℕ) (counts : CountsWraps sealed) where
  abbrev reader : List WrapKeyValue → Reader
  reader keys = record { keys = keys; settings = settings; given = given; required = opened.meaning.demands }

  abbrev between : Giving
  between = let r : Resealing = resealing_from opened opening sealed sealing now settings given size in record { wraps = r.wraps; gives = r.gives; gives_none = r.gives_none }

  abbrev told : List WrapKeyValue → List WrapKeyValue → Giving
  told keys others = let r : Resealing = resealing_told (reader keys) others sealed.meaning sealing.meaning size in record { wraps = r.wraps; gives = r.gives; gives_none = r.gives_none }

  gives_told : (keys others : List WrapKeyValue) → sealed.tells others → sealed.exact → sealed.meaning.plain ≡ true → GivesMore between (told keys others)
  gives_told keys others tells is_exact plain =
      let is = is_told others sealed counts tells is_exact plain in
      record {
        wraps = sym (counts.told others tells);
        gives = λ request random m gives. (told_more others sealed sealing request now size None is).gives random m gives;
        gives_none = λ request error none. (told_more others sealed sealing request now size None is).gives_none error none;
      }

  pub reads_told : (input taken : SourceState) (output put : SinkState) (entropy spent : EntropyState) (r : Result (List KeyValue) InputError)
      → IfOk r (ResealsInput (resealing_from opened opening sealed sealing now settings given size) input taken output put entropy spent)
      → (keys others : List WrapKeyValue) → opened.tells keys → opened.exact → Stayed opened.meaning.faults opening.meaning.faults → sealed.tells others → sealed.exact → sealed.meaning.plain ≡ true
      → IfOk r (ResealsInput (resealing_told (reader keys) others sealed.meaning sealing.meaning size) input taken output put entropy spent)
  reads_told input taken output put entropy spent (Err error) done keys others tells is_exact stayed tells_others others_exact plain = tt
  reads_told input taken output put entropy spent (Ok context) done keys others tells is_exact stayed tells_others others_exact plain =
      input_more (answering_of opened opening now) (answering_by (reader keys)) settings given between (told keys others) size (reader_allows opened opening now keys settings given tells is_exact stayed)
      (gives_told keys others tells_others others_exact plain) input taken output put entropy spent context done

  pub stops_told : (input taken : SourceState) (output put : SinkState) (entropy spent : EntropyState) (untouched unasked : Type 0) (r : Result (List KeyValue) InputError)
      → IfErr r (ResealEnds (resealing_from opened opening sealed sealing now settings given size) input taken output put entropy spent untouched unasked)
      → (keys others : List WrapKeyValue) → opened.tells keys → opened.exact → Stayed opened.meaning.faults opening.meaning.faults → sealed.tells others → sealed.exact → sealed.meaning.plain ≡ true
      → IfErr r (ResealEnds (resealing_told (reader keys) others sealed.meaning sealing.meaning size) input taken output put entropy spent untouched unasked)
  stops_told input taken output put entropy spent untouched unasked (Ok context) ends keys others tells is_exact stayed tells_others others_exact plain = tt
  stops_told input taken output put entropy spent untouched unasked (Err error) ends keys others tells is_exact stayed tells_others others_exact plain =
      stops_more (answering_of opened opening now) (answering_by (reader keys)) settings given between (told keys others) size (reader_allows opened opening now keys settings given tells is_exact stayed)
      (gives_told keys others tells_others others_exact plain) input taken output put entropy spent untouched unasked error ends
