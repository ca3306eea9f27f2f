-- Bytes that come slice by slice: what is found in a front of them is found in all of them.
use Rattle.std.proofs.Common.{◌≡◌, ℕ, ◌≤◌, List, ◌++◌, length, take, drop, Ok, Err, sym, ap, subst, ◌∙◌, append_assoc}
use Rattle.std.specs.Prelude.{Result}
use Rattle.std.proofs.lemmas.List.{take-append-le, take-append-drop}
use Rattle.esdk_fields.specs.declared.stops.Stop.{Stop}
use Rattle.esdk_fields.specs.declared.stops.Stop.TheVariants as stops
use Rattle.esdk_fields.specs.Place.{Place, followed}
use Rattle.esdk_fields.proofs.Fronts.{fault_stays, value_stays}
use Rattle.header_codec.specs.declared.found.Found.{Found}
use Rattle.header_codec.specs.declared.settings.Settings.{Settings}
use Rattle.header_codec.specs.Found.{FindsHeader}
use Rattle.header_codec.specs.Header.{HeaderValue}
use Rattle.header_codec.specs.Table.{header, BeginsWith}
use Rattle.header_codec.proofs.Order.{IsSequential-header}
use Rattle.header_codec.proofs.Whole.{size_within}

abbrev value : HeaderValue → HeaderValue
value h = h

-- bytes that begin with a header begin with it whatever follows
begins_still : (settings : Settings) (bytes more : List ℕ) (h : HeaderValue) (end : Place) → BeginsWith settings bytes h end → BeginsWith settings (bytes ++ more) h (followed end more)
begins_still settings bytes more h end begins =
    let p = begins.parts in
    let within : p.size ≤ length bytes = size_within settings bytes p end begins.read in
    record {
      parts = p;
      read = value_stays (header settings) bytes more p end (IsSequential-header settings) begins.read;
      stored = begins.stored;
      is = begins.is ∙ ap (λ (raw : List ℕ). value (record { suite = p.opening.suite; message_id = p.opening.id; stored = h.stored; entries = p.entries; content = p.content; commitment = p.commitment; raw = raw; iv = p.iv; tag = p.tag })) (sym (take-append-le p.size bytes more within));
    }

-- more bytes don't change it: a header, a fault, or want of memory
abbrev pub IsEnd : Result Found Stop → Type 0
IsEnd (Ok found) = Unit {0}
IsEnd (Err (stops.Fault fault at)) = Unit {0}
IsEnd (Err stops.Memory) = Unit {0}
IsEnd (Err stops.Wanting) = ⊥

found_still : (settings : Settings) (bytes more : List ℕ) (result : Result Found Stop) → IsEnd result → FindsHeader settings bytes result → FindsHeader settings (bytes ++ more) result
found_still settings bytes more (Ok found) end finds = (finds.0 ++ more, begins_still settings bytes more found.header (record { at = found.end; left = finds.0 }) finds.1)
found_still settings bytes more (Err (stops.Fault fault at)) end finds = fault_stays (header settings) bytes more fault at (IsSequential-header settings) finds
found_still settings bytes more (Err stops.Memory) end finds = tt
found_still settings bytes more (Err stops.Wanting) end finds = absurd end

-- what is found with one slice of the bytes that came is found with all of them
pub found_sliced : (settings given : Settings) (taken slice others rest bytes : List ℕ) (n : ℕ) (result : Result Found Stop) → settings ≡ given → slice ≡ take n rest → others ≡ drop n rest
    → taken ++ rest ≡ bytes → IsEnd result → FindsHeader settings (taken ++ slice) result → FindsHeader given bytes result
found_sliced settings given taken slice others rest bytes n result same front back whole end finds =
    let parts : slice ++ others ≡ rest = ap (λ (t : List ℕ). t ++ others) front ∙ ap (λ (t : List ℕ). take n rest ++ t) back ∙ take-append-drop n rest in
    let all : (taken ++ slice) ++ others ≡ bytes = append_assoc taken slice others ∙ ap (λ (t : List ℕ). taken ++ t) parts ∙ whole in
    subst (λ (s : Settings). FindsHeader s bytes result) same
    (subst (λ (b : List ℕ). FindsHeader settings b result) all (found_still settings (taken ++ slice) others result end finds))
