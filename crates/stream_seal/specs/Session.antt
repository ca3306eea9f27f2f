-- A message that is sealed piece by piece: what a session is worth, and what each call makes of it.
-- Standard: AWS Encryption SDK Specification, "Encrypt"; the refusals Q9 and Q10 are this
-- library's.
use Rattle.std.specs.Prelude.{ℕ, ◌+◌, ◌-◌, ◌*◌, List, [], ◌++◌, length, take, drop, min, Bool, true}
use Rattle.std.specs.Prelude.{false, ◌==◌, Option, Some, None, Result, Ok, Err, ⊤, if◌then◌else◌}
use Rattle.esdk_fields.specs.declared.refusals.Refusal.TheVariants as refusals
use Rattle.frame_codec.specs.Unit.{Under}
use Rattle.frame_codec.specs.Written.{final_frame, regular_frame}
use Rattle.keyring_trait.specs.Materials.{EncMaterialsValue}
use Rattle.message_format.specs.Message.{under}
use Rattle.stream_seal.specs.declared.errors.SealError.{SealError}
use Rattle.stream_seal.specs.declared.errors.SealError.TheVariants as errors
use Rattle.stream_seal.specs.Start.{most_frames, start_of}

-- What a session is worth: the materials, the declared length, the frame length and the message id;
-- the bytes of the text that were taken, how many regular frames were handed out, and whether it
-- stopped; and what the last call gave.
pub record SealingValue : Type 0 where
  pub materials : EncMaterialsValue
  pub declared : Option ℕ
  pub size : ℕ
  pub id : List ℕ
  pub taken : List ℕ
  pub handed : ℕ
  pub stopped : Bool
  pub out : List ℕ

-- nothing is taken yet
abbrev pub new_sealing_session : EncMaterialsValue → Option ℕ → ℕ → List ℕ → SealingValue
new_sealing_session materials declared size id =
    record {
      materials = materials;
      declared = declared;
      size = size;
      id = id;
      taken = [];
      handed = 0;
      stopped = false;
      out = [];
    }

-- what the message begins with: the header and the header's tag
abbrev pub beginning : SealingValue → List ℕ
beginning v = start_of v.materials v.size v.id

-- what the frames stand under
abbrev pub under_of : SealingValue → Under
under_of v = under v.materials.key v.id

-- the bytes that are held: those taken that aren't in a frame handed out
abbrev pub held : SealingValue → List ℕ
held v = drop (v.handed * v.size) v.taken

-- ---- a step

-- What a step does: it stops with an error, gives the full frame that is held, or takes so many
-- bytes and gives nothing.
pub data Doing : Type 0 where
  Stops : (error : SealError) → Doing
  Gives : Doing
  Takes : (count : ℕ) → Doing

-- the declared length, where all declared bytes were taken
abbrev pub spent_of : Option ℕ → ℕ → Option ℕ
spent_of None taken = None
spent_of (Some whole) taken = if whole - taken == 0 then Some whole else None

-- so many bytes, or as many as are still to come of those declared
abbrev pub within_of : Option ℕ → ℕ → ℕ → ℕ
within_of None taken count = count
within_of (Some whole) taken count = min (whole - taken) count

-- where a full frame is held: it is given, but that no frame can come behind the one that has the
-- last number
abbrev pub doing_full : SealingValue → Doing
doing_full v =
    if v.handed + 1 == most_frames then Stops (errors.Refusal refusals.TooManyFrames) else Gives

-- while not all declared bytes were taken, else there is the declared length
abbrev pub doing_on : Option ℕ → SealingValue → List ℕ → Doing
doing_on (Some whole) v piece = Stops (errors.Refusal (refusals.OverDeclared whole))
doing_on None v piece =
    if length (held v) == v.size then doing_full v
    else Takes (within_of v.declared (length v.taken)
    (min (v.size - length (held v)) (length piece)))

-- what a step does with a piece: the first line that applies
unfoldable pub doing : SealingValue → List ℕ → Doing
doing v piece =
    if v.stopped then Stops errors.Stopped
    else if length piece == 0 then Takes 0
    else doing_on (spent_of v.declared (length v.taken)) v piece

-- the answer: how many bytes were used, or the error
abbrev pub answer_of : Doing → Result ℕ SealError
answer_of (Stops error) = Err error
answer_of Gives = Ok 0
answer_of (Takes count) = Ok count

-- the session after it
abbrev pub after_doing : SealingValue → List ℕ → Doing → SealingValue
after_doing v piece (Stops error) = record v { stopped = true; out = [] }
after_doing v piece Gives =
    record v { handed = v.handed + 1; out = regular_frame (under_of v) (v.handed + 1) (held v) }
after_doing v piece (Takes count) = record v { taken = v.taken ++ take count piece; out = [] }

abbrev pub sealing_step_answer : SealingValue → List ℕ → Result ℕ SealError
sealing_step_answer v piece = answer_of (doing v piece)

abbrev pub sealing_stepped : SealingValue → List ℕ → SealingValue
sealing_stepped v piece = after_doing v piece (doing v piece)

-- ---- the end

-- a session is finished once, and not after an error
unfoldable pub sealing_finish_answer : SealingValue → Result (Unit {0}) SealError
sealing_finish_answer v = if v.stopped then Err errors.Stopped else Ok tt

-- the final frame has the bytes held
unfoldable pub sealing_finished : SealingValue → SealingValue
sealing_finished v =
    if v.stopped then record v { out = [] }
    else record v { stopped = true; out = final_frame (under_of v) (v.handed + 1) (held v) }

-- ---- memory

-- no want of memory
abbrev pub IsNotMemory : SealError → Type 0
IsNotMemory (errors.Refusal refusal) = ⊤
IsNotMemory errors.Stopped = ⊤
IsNotMemory errors.Memory = ⊥
