-- A message that is opened piece by piece: what a session is worth, and what each call makes of it.
-- All of it follows from how the bytes taken are judged.
-- Standard: AWS Encryption SDK Specification, "Decrypt".
use Rattle.std.specs.Prelude.{◌≡◌, ℕ, ◌+◌, List, [], ◌++◌, length, take, drop, min, Bool, true}
use Rattle.std.specs.Prelude.{false, not, ◌||◌, nat_lt, Option, Some, None, Result, Ok, Err}
use Rattle.std.specs.Prelude.{option_map, if◌then◌else◌}
use Rattle.std.specs.List.{concat, prefix_len, range_with_len}
use Rattle.esdk_fields.specs.declared.contents.Content.{Content}
use Rattle.esdk_fields.specs.declared.contents.Content.TheVariants.{Single, Framed}
use Rattle.esdk_fields.specs.declared.faults.Fault.TheVariants.{Truncated}
use Rattle.context_codec.specs.Context.{KeyValue}
use Rattle.header_codec.specs.declared.settings.Settings.{Settings}
use Rattle.header_codec.specs.Header.{HeaderValue}
use Rattle.header_codec.specs.Table.{HeaderFields, head}
use Rattle.keyring_trait.specs.declared.served.Served.{Served}
use Rattle.keyring_trait.specs.Unlocking.{Unlocking, Refuses, Unlocks}
use Rattle.body_format.specs.declared.verdicts.Verdict.{Verdict}
use Rattle.body_format.specs.declared.verdicts.Verdict.TheVariants.{Going, Whole, Faulty}
use Rattle.message_format.specs.Judgement.{Judged, judged, header_of, marks}
use Rattle.stream_open.specs.declared.errors.OpenError.{OpenError}
use Rattle.stream_open.specs.declared.errors.OpenError.TheVariants as errors
use Rattle.stream_open.specs.Asking.{Heard, Nothing, Found, Named, Failed}

-- What a session is worth: the limits, the pairs that are given, and the bytes that were taken; the
-- manager's answer, and how it served its materials, where there was an answer; whether an error
-- stopped the session; and what the last call gave.
pub record OpeningValue : Type 0 where
  pub settings : Settings
  pub given : List KeyValue
  pub taken : List ℕ
  pub answer : Option Unlocking
  pub served : Option Served
  pub stopped : Bool
  pub out : List ℕ

-- nothing is taken yet
abbrev pub new_opening_session : Settings → List KeyValue → OpeningValue
new_opening_session settings given = record {
  settings = settings;
  given = given;
  taken = [];
  answer = None;
  served = None;
  stopped = false;
  out = [];
}

-- ---- how the bytes are judged

-- the answer that is kept; while there is none, no header is whole, and no judgement looks at this
-- one
abbrev pub answer_kept : Option Unlocking → Unlocking
answer_kept None = Refuses Truncated
answer_kept (Some answer) = answer

-- the judgement of the bytes taken
abbrev pub judged_now : OpeningValue → Judged
judged_now v = judged v.taken v.settings (answer_kept v.answer)

-- the judgement of the bytes taken and of n bytes of the piece
abbrev pub judged_with : OpeningValue → List ℕ → ℕ → Judged
judged_with v piece n = judged (v.taken ++ take n piece) v.settings (answer_kept v.answer)

-- ---- what is asked and heard

abbrev pub header_asked : Option Unlocking → Settings → List ℕ → Option HeaderValue
header_asked None settings bytes = option_map (header_of bytes) (head settings bytes)
header_asked (Some answer) settings bytes = None

-- the header about which a step asks the manager: the one that is whole with the piece, where the
-- manager hasn't answered yet
abbrev pub asked_header : OpeningValue → List ℕ → Option HeaderValue
asked_header v piece =
    if v.stopped then None else header_asked v.answer v.settings (v.taken ++ piece)

-- the session that has kept what was heard
abbrev pub keeping : OpeningValue → Heard → OpeningValue
keeping v Nothing = v
keeping v (Found m) =
    record v { answer = Some (Unlocks m.context m.only m.key); served = Some m.served }
keeping v (Named fault) = record v { answer = Some (Refuses fault) }
keeping v Failed = v

-- ---- where a step ends

abbrev pub is_faulty : Verdict → Bool
is_faulty Going = false
is_faulty Whole = false
is_faulty (Faulty fault) = true

-- with n bytes of the piece there is a fault, or the header was unlocked, or a unit was released
abbrev pub is_stop : OpeningValue → List ℕ → ℕ → Bool
is_stop v piece n = is_faulty (judged_with v piece n).verdict
    || nat_lt (marks (judged_now v)) (marks (judged_with v piece n))

-- the least number of bytes of the piece, at least one, that is a stop; else all of them
unfoldable pub reach : OpeningValue → List ℕ → ℕ
reach v piece = min (1 + prefix_len (λ n. not (is_stop v piece n))
    (range_with_len 1 (length piece))) (length piece)

-- the content of the units that are added
abbrev pub added_content : Judged → Judged → List ℕ
added_content before after = concat (drop (length before.units) after.units)

-- ---- a step

abbrev pub answer_at : ℕ → Verdict → Result ℕ OpenError
answer_at n Going = Ok n
answer_at n Whole = Ok n
answer_at n (Faulty fault) = Err (errors.Fault fault)

abbrev pub answer_on : OpeningValue → List ℕ → Heard → Result ℕ OpenError
answer_on v piece Nothing = answer_at (reach v piece) (judged_with v piece (reach v piece)).verdict
answer_on v piece (Found m) = let w = keeping v (Found m) in answer_at (reach w piece)
    (judged_with w piece (reach w piece)).verdict
answer_on v piece (Named fault) = let w = keeping v (Named fault) in answer_at (reach w piece)
    (judged_with w piece (reach w piece)).verdict
answer_on v piece Failed = Err errors.KeyringFault

-- The answer, once this was heard: how many bytes were used, or the error.
unfoldable pub opening_step_answer : OpeningValue → List ℕ → Heard → Result ℕ OpenError
opening_step_answer v piece heard =
    if v.stopped then Err errors.Stopped else answer_on v piece heard

-- whether a body is cut into frames
abbrev pub framed : Content → Bool
framed Single = false
framed (Framed size) = true

-- the same of the body behind a header that was read
abbrev pub is_framed : Option HeaderFields → Bool
is_framed None = false
is_framed (Some parts) = framed parts.content

-- Memory may run out: the session goes on, more bytes are wanted, and it isn't within the frames of
-- a message that is unlocked.
pub record MayRunOut (v : OpeningValue) : Type 0 where
  pub going : v.stopped ≡ false
  pub unended : (judged_now v).verdict ≡ Going
  pub unreserved : (judged_now v).unlocked ≡ true → is_framed (head v.settings v.taken) ≡ false

-- that answer, or want of memory where that may be
abbrev pub Answers : OpeningValue → List ℕ → Heard → Result ℕ OpenError → Type 0
Answers v piece heard (Ok n) = opening_step_answer v piece heard ≡ Ok n
Answers v piece heard (Err errors.Memory) = MayRunOut v
Answers v piece heard (Err (errors.Fault fault)) =
    opening_step_answer v piece heard ≡ Err (errors.Fault fault)
Answers v piece heard (Err errors.KeyringFault) =
    opening_step_answer v piece heard ≡ Err errors.KeyringFault
Answers v piece heard (Err errors.Stopped) = opening_step_answer v piece heard ≡ Err errors.Stopped

-- The session after a step that answered so: it took the bytes that were used, and gave the unit
-- that was added; an error stops it.
abbrev pub opening_stepped : OpeningValue → List ℕ → Heard → Result ℕ OpenError → OpeningValue
opening_stepped v piece heard (Ok n) =
    record (keeping v heard) {
      taken = v.taken ++ take n piece;
      out = added_content (judged_now v)
          (judged_with (keeping v heard) piece n);
    }
opening_stepped v piece heard (Err error) = record (keeping v heard) { stopped = true; out = [] }

-- ---- the end

abbrev pub end_of_verdict : Verdict → Result (Unit {0}) OpenError
end_of_verdict Going = Err (errors.Fault Truncated)
end_of_verdict Whole = Ok tt
end_of_verdict (Faulty fault) = Err (errors.Fault fault)

-- the message is whole, or bytes are missing
unfoldable pub opening_finish_answer : OpeningValue → Result (Unit {0}) OpenError
opening_finish_answer v =
    if v.stopped then Err errors.Stopped else end_of_verdict (judged_now v).verdict

abbrev pub is_end : Verdict → Bool
is_end Going = false
is_end Whole = true
is_end (Faulty fault) = false

-- an error stops the session, and nothing is given
unfoldable pub opening_finished : OpeningValue → OpeningValue
opening_finished v =
    record v { stopped = v.stopped || not (is_end (judged_now v).verdict); out = [] }

-- ---- what is told of the message

abbrev pub whole_in : Unlocking → Option (List KeyValue)
whole_in (Refuses fault) = None
whole_in (Unlocks whole only key) = Some whole

abbrev pub only_in : Unlocking → Option (List KeyValue)
only_in (Refuses fault) = None
only_in (Unlocks whole only key) = Some only

-- the whole context, once the header is unlocked
unfoldable pub whole_context : OpeningValue → Option (List KeyValue)
whole_context v = if (judged_now v).unlocked then whole_in (answer_kept v.answer) else None

-- its pairs that are only authenticated, once the header is unlocked
unfoldable pub only_authenticated : OpeningValue → Option (List KeyValue)
only_authenticated v = if (judged_now v).unlocked then only_in (answer_kept v.answer) else None
