-- Going on with a header at an offset, as if it were read from its first byte.
use Rattle.std.proofs.Common.{◌≡◌, ℕ, suc, ◌+◌, ◌-◌, ◌≤◌, Bool, true, false, List, [], ◌∷◌, ◌++◌, length, drop, refl, sym, ap, subst, ◌∙◌, append_assoc, arith}
use Rattle.std.specs.Prelude.{◌==◌, Option}
use Rattle.std.specs.Int.{w16}
use Rattle.std.proofs.lemmas.List.{append-nil, drop-append-le, drop-drop, length-drop, length-append}
use Rattle.esdk_fields.specs.declared.contents.Content.{Content}
use Rattle.esdk_fields.specs.declared.faults.Fault.{Fault}
use Rattle.esdk_fields.specs.declared.faults.Fault.TheVariants.{NoDataKeys, TooManyDataKeys}
use Rattle.esdk_fields.specs.declared.stops.Stop.{Stop}
use Rattle.esdk_fields.specs.declared.stops.Stop.TheVariants as stops
use Rattle.esdk_fields.specs.Place.{Place, start, followed}
use Rattle.esdk_fields.specs.Reading.{Reading, Read, Refused, Wanting, FieldReader, then_read, ◌>>=◌, ◌>>◌, done, bytes, number, here, refuse_if, repeat}
use Rattle.esdk_fields.specs.Gives.{StopsAt}
use Rattle.esdk_fields.specs.Sequential.{IsSequential}
use Rattle.esdk_fields.proofs.Fronts.{value_stays_at, read_within_at, left_is, onward_from}
use Rattle.esdk_fields.proofs.Sequential.{IsSequential-bind, IsSequential-then, IsSequential-number, IsSequential-done, IsSequential-refuse_if}
use Rattle.suite_table.specs.Suites.{data_length}
use Rattle.edk_codec.specs.Entry.{Entry}
use Rattle.header_codec.specs.declared.settings.Settings.{Settings}
use Rattle.header_codec.specs.Header.{Opening}
use Rattle.esdk_fields.specs.Limits.{is_over}
use Rattle.header_codec.specs.Table.{HeaderFields, opening, entry, data_keys, content_field, header_iv, header}
use Rattle.header_codec.specs.Rest.{Ending, ending, keys_count, fields_with, after_all_keys, after_some_keys, after_front, place_past, Resumes}
use Rattle.header_codec.proofs.Steps.{after_count, after_content, after_commitment, after_iv, after_keys, after_context, after_opening}

-- ---- readers that read the same

then_then : {A B C : Type 0} (r : Reading A) (f : A → FieldReader B) (g : B → FieldReader C) → then_read (then_read r f) g ≡ then_read r (λ x. f x >>= g)
then_then (Read x next) f g = refl
then_then (Refused fault at) f g = refl
then_then Wanting f g = refl

then_same : {A B : Type 0} (r : Reading A) (f g : A → FieldReader B) → ((x : A) (p : Place) → f x p ≡ g x p) → then_read r f ≡ then_read r g
then_same (Read x next) f g same = same x next
then_same (Refused fault at) f g same = refl
then_same Wanting f g same = refl

-- ---- passing a reader

-- nothing was read
pub resumes_first : (settings : Settings) (bytes : List ℕ) → Resumes settings bytes 0 (header settings)
resumes_first settings bytes = record { reads = λ more. refl; inside = omega arith }

-- more bytes came
pub resumes_more : (settings : Settings) (bytes piece : List ℕ) (at : ℕ) (rest : FieldReader HeaderFields) → Resumes settings bytes at rest → Resumes settings (bytes ++ piece) at rest
resumes_more settings bytes piece at rest r = record {
  reads = λ more. ap (λ (b : List ℕ). header settings (start b)) (append_assoc bytes piece more) ∙ r.reads (piece ++ more) ∙ ap (λ (b : List ℕ). rest (place_past at b)) (sym (append_assoc bytes piece more));
  inside = omega (arith, r.inside, length-append bytes piece);
}

-- the rest, read by another reader that reads the same
pub resumes_as : (settings : Settings) (bytes : List ℕ) (at : ℕ) (rest other : FieldReader HeaderFields) → ((p : Place) → rest p ≡ other p) → Resumes settings bytes at rest → Resumes settings bytes at other
resumes_as settings bytes at rest other same r = record { reads = λ more. r.reads more ∙ same (place_past at (bytes ++ more)); inside = r.inside }

-- what is judged now
pub reads_now : (settings : Settings) (bytes : List ℕ) (at : ℕ) (rest : FieldReader HeaderFields) → Resumes settings bytes at rest → header settings (start bytes) ≡ rest (place_past at bytes)
reads_now settings bytes at rest r =
    let e : bytes ++ [] ≡ bytes = append-nil bytes in
    subst (λ (b : List ℕ). header settings (start b) ≡ rest (place_past at b)) e (r.reads [])

-- the next reader has stopped
pub stops_now : {A : Type 0} (settings : Settings) (bytes : List ℕ) (at : ℕ) (m : FieldReader A) (f : A → FieldReader HeaderFields) (stop : Stop) → Resumes settings bytes at (m >>= f)
    → StopsAt stop (m (place_past at bytes)) → StopsAt stop (header settings (start bytes))
stops_now settings bytes at m f stops.Wanting r e = reads_now settings bytes at (m >>= f) r ∙ ap (λ q. then_read q f) e
stops_now settings bytes at m f (stops.Fault fault end) r e = reads_now settings bytes at (m >>= f) r ∙ ap (λ q. then_read q f) e
stops_now settings bytes at m f stops.Memory r e = tt

place_is : (p : Place) (at : ℕ) (left : List ℕ) → p.at ≡ at → p.left ≡ left → p ≡ record { at = at; left = left }
place_is p at left e f = ap (λ (k : ℕ). record { at = k; left = p.left }) e ∙ ap (λ (b : List ℕ). record { at = at; left = b }) f

-- what a reader leaves of the bytes from an offset on
left_behind : {A : Type 0} (bytes : List ℕ) (at : ℕ) (m : FieldReader A) (x : A) (next : Place) → IsSequential m → m (place_past at bytes) ≡ Read x next → next.left ≡ drop next.at bytes
left_behind bytes at m x next s e =
    let forth : at ≤ next.at = onward_from m (place_past at bytes) x next s e in
    let sum : at + (next.at - at) ≡ next.at = omega arith in
    left_is m (place_past at bytes) x next s e ∙ drop-drop (next.at - at) at bytes ∙ ap (λ (n : ℕ). drop n bytes) sum

-- the place behind it is known by its offset
pub place_behind : {A : Type 0} (bytes : List ℕ) (at : ℕ) (m : FieldReader A) (x : A) (next : Place) → IsSequential m → m (place_past at bytes) ≡ Read x next → next ≡ place_past next.at bytes
place_behind bytes at m x next s e = place_is next next.at (drop next.at bytes) refl (left_behind bytes at m x next s e)

-- the next reader has read its value, and the rest is read behind it
pub passes : {A : Type 0} (settings : Settings) (bytes : List ℕ) (at : ℕ) (m : FieldReader A) (f : A → FieldReader HeaderFields) (x : A) (next : Place) → IsSequential m → Resumes settings bytes at (m >>= f)
    → m (place_past at bytes) ≡ Read x next → Resumes settings bytes next.at (f x)
passes settings bytes at m f x next s r e =
    let within : next.at ≤ at + length (drop at bytes) = read_within_at m (place_past at bytes) x next s e in
    let inside : next.at ≤ length bytes = omega (arith, within, r.inside, length-drop at bytes) in
    record {
      reads = λ more.
          let more_left : place_past at (bytes ++ more) ≡ followed (place_past at bytes) more = ap (λ (b : List ℕ). record { at = at; left = b }) (drop-append-le at bytes more r.inside) in
          let read : m (place_past at (bytes ++ more)) ≡ Read x (followed next more) = ap m more_left ∙ value_stays_at m (place_past at bytes) more x next s e in
          r.reads more ∙ ap (λ q. then_read q f) read
          ∙ ap (f x) (place_is (followed next more) next.at (drop next.at (bytes ++ more)) refl
          (ap (λ (b : List ℕ). b ++ more) (left_behind bytes at m x next s e) ∙ sym (drop-append-le next.at bytes more inside)));
      inside = inside;
    }

-- ---- the parts of a header

abbrev count_again : Option ℕ → ℕ → FieldReader ℕ
count_again max_keys count = do
  refuse_if (count == 0) NoDataKeys
  refuse_if (is_over max_keys count) (TooManyDataKeys count)
  done count

pub IsSequential-keys_count : (max_keys : Option ℕ) → IsSequential (keys_count max_keys)
unfolding keys_count
IsSequential-keys_count max_keys =
    IsSequential-bind (number w16) (count_again max_keys) (IsSequential-number w16)
    (λ count. IsSequential-then (refuse_if (count == 0) NoDataKeys) (refuse_if (is_over max_keys count) (TooManyDataKeys count) >> done count) (IsSequential-refuse_if (count == 0) NoDataKeys)
    (IsSequential-then (refuse_if (is_over max_keys count) (TooManyDataKeys count)) (done count) (IsSequential-refuse_if (is_over max_keys count) (TooManyDataKeys count)) (IsSequential-done count)))

-- all of a header is its opening and what follows it
pub resumes_opening : (settings : Settings) (bytes : List ℕ) (at : ℕ) → Resumes settings bytes at (header settings) → Resumes settings bytes at (opening settings.uncommitted >>= after_opening settings)
unfolding header
resumes_opening settings bytes at r = record { reads = r.reads; inside = r.inside }

-- after the encrypted data keys the ending is read
all_keys_same : (settings : Settings) (o : Opening) (context : List ℕ) (entries : List Entry) (p : Place) → after_all_keys settings o context entries p ≡ after_keys settings o context entries p
unfolding ending
all_keys_same settings o context entries p =
    then_then (content_field o.suite settings.max_unit p) ending_content made
    ∙ then_same (content_field o.suite settings.max_unit p) (λ kind. ending_content kind >>= made) (after_content o context entries) (λ kind q.
    then_then (bytes (data_length o.suite) q) (ending_size kind) made
    ∙ then_same (bytes (data_length o.suite) q) (λ commitment. ending_size kind commitment >>= made) (after_commitment o context entries kind) (λ commitment r.
    then_then (header_iv o.suite r) (ending_iv kind commitment r.at) made
    ∙ then_same (header_iv o.suite r) (λ iv. ending_iv kind commitment r.at iv >>= made) (after_iv o context entries kind commitment r.at) (λ iv s.
    then_then (bytes 16 s) (ending_tag kind commitment r.at iv) made)))
  where
    made : Ending → FieldReader HeaderFields
    made e = done (fields_with o context entries e)

    ending_tag : Content → List ℕ → ℕ → List ℕ → List ℕ → FieldReader Ending
    ending_tag kind commitment size iv tag = done (record { content = kind; commitment = commitment; size = size; iv = iv; tag = tag })

    ending_iv : Content → List ℕ → ℕ → List ℕ → FieldReader Ending
    ending_iv kind commitment size iv = bytes 16 >>= ending_tag kind commitment size iv

    ending_size : Content → List ℕ → FieldReader Ending
    ending_size kind commitment = here >>= λ size. header_iv o.suite >>= ending_iv kind commitment size

    ending_content : Content → FieldReader Ending
    ending_content kind = bytes (data_length o.suite) >>= ending_size kind

-- two tests, and then that many of something
two_tests : {A C : Type 0} (b c : Bool) (first second : Fault) (count : ℕ) (m : ℕ → FieldReader A) (g : A → FieldReader C) (p : Place)
    → ((refuse_if b first >> (refuse_if c second >> m count)) >>= g) p ≡ ((refuse_if b first >> (refuse_if c second >> done count)) >>= λ n. m n >>= g) p
two_tests true c first second count m g p = refl
two_tests false true first second count m g p = refl
two_tests false false first second count m g p = refl

-- after the context, the count of the encrypted data keys is read, and then so many
front_same : (settings : Settings) (o : Opening) (context : List ℕ) (p : Place) → after_context settings o context p ≡ after_front settings o context p
unfolding data_keys keys_count
front_same settings o context p =
    then_then (number w16 p) (after_count settings.max_keys) (after_keys settings o context)
    ∙ then_same (number w16 p) (λ n. after_count settings.max_keys n >>= after_keys settings o context) (λ n. count_again settings.max_keys n >>= λ k. repeat entry k >>= after_keys settings o context)
    (λ n q. two_tests (n == 0) (is_over settings.max_keys n) NoDataKeys (TooManyDataKeys n) n (repeat entry) (after_keys settings o context) q)
    ∙ sym (then_then (number w16 p) (count_again settings.max_keys) (λ k. repeat entry k >>= after_keys settings o context))
    ∙ then_same (keys_count settings.max_keys p) (λ k. repeat entry k >>= after_keys settings o context) (after_some_keys settings o context [])
    (λ k q. then_same (repeat entry k q) (after_keys settings o context) (after_all_keys settings o context) (λ entries r. sym (all_keys_same settings o context entries r)))

-- opening and context were read
pub resumes_front : (settings : Settings) (bytes : List ℕ) (at : ℕ) (o : Opening) (context : List ℕ) → Resumes settings bytes at (after_context settings o context) → Resumes settings bytes at (after_front settings o context)
resumes_front settings bytes at o context = resumes_as settings bytes at (after_context settings o context) (after_front settings o context) (front_same settings o context)

-- one entry, and what follows it
abbrev pub after_entry : Settings → Opening → List ℕ → List Entry → ℕ → Entry → FieldReader HeaderFields
after_entry settings o context entries left x = after_some_keys settings o context (entries ++ x ∷ []) left

entry_same : (settings : Settings) (o : Opening) (context : List ℕ) (entries : List Entry) (n : ℕ) (p : Place)
    → after_some_keys settings o context entries (suc n) p ≡ (entry >>= after_entry settings o context entries n) p
unfolding repeat
entry_same settings o context entries n p =
    then_then (entry p) (λ first. repeat entry n >>= λ others. done (first ∷ others)) (λ all. after_all_keys settings o context (entries ++ all))
    ∙ then_same (entry p) (λ first. (repeat entry n >>= λ others. done (first ∷ others)) >>= λ all. after_all_keys settings o context (entries ++ all)) (after_entry settings o context entries n) (λ x q.
    then_then (repeat entry n q) (λ others. done (x ∷ others)) (λ all. after_all_keys settings o context (entries ++ all))
    ∙ then_same (repeat entry n q) (λ others. done (x ∷ others) >>= λ all. after_all_keys settings o context (entries ++ all)) (λ others. after_all_keys settings o context ((entries ++ x ∷ []) ++ others))
    (λ others r. ap (λ (all : List Entry). after_all_keys settings o context all r) (sym (append_assoc entries (x ∷ []) others))))

pub resumes_entry : (settings : Settings) (bytes : List ℕ) (at : ℕ) (o : Opening) (context : List ℕ) (entries : List Entry) (left : ℕ) → 1 ≤ left
    → Resumes settings bytes at (after_some_keys settings o context entries left) → Resumes settings bytes at (entry >>= after_entry settings o context entries (left - 1))
resumes_entry settings bytes at o context entries left some r =
    let k : left ≡ suc (left - 1) = omega arith in
    resumes_as settings bytes at (after_some_keys settings o context entries (suc (left - 1))) (entry >>= after_entry settings o context entries (left - 1)) (entry_same settings o context entries (left - 1))
    (subst (λ (n : ℕ). Resumes settings bytes at (after_some_keys settings o context entries n)) k r)

-- all entries were read
none_left : (settings : Settings) (o : Opening) (context : List ℕ) (entries : List Entry) (p : Place) → after_some_keys settings o context entries 0 p ≡ after_all_keys settings o context entries p
unfolding repeat
none_left settings o context entries p = ap (λ (all : List Entry). after_all_keys settings o context all p) (append-nil entries)

pub resumes_ending : (settings : Settings) (bytes : List ℕ) (at : ℕ) (o : Opening) (context : List ℕ) (entries : List Entry)
    → Resumes settings bytes at (after_some_keys settings o context entries 0) → Resumes settings bytes at (after_all_keys settings o context entries)
resumes_ending settings bytes at o context entries =
    resumes_as settings bytes at (after_some_keys settings o context entries 0) (after_all_keys settings o context entries) (none_left settings o context entries)
