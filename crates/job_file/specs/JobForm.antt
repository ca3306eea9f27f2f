-- The forms of a job file and of its jobs. They are this library's. A member that stands twice
-- counts as it stands last.
use Rattle.std.specs.Prelude.{ℕ, ◌+◌, ◌-◌, ◌^◌, ◌&&◌, ◌==◌, not, nat_le, List, [], length, codes}
use Rattle.std.specs.Prelude.{Option, Some, None, is_some, option_map, if◌then◌else◌}
use Rattle.std.specs.BTreeMap.{insert_entry}
use Rattle.std.specs.Ordering.{nat_cmp}
use Rattle.std.specs.Cmp.Lexicographic.{slice_cmp}
use Rattle.std.specs.Str.{bytes_eq}
use Rattle.serde_json.specs.Data.{Data, Items, no_items, item, Members, no_members, member}
use Rattle.serde_json.specs.Find.{get, as_str, as_array, as_object}
use Rattle.cmm_caching.specs.Limits.{LimitsValue}
use Rattle.context_codec.specs.Context.{KeyValue}
use Rattle.context_codec.specs.Insert.{refusal_of}
use Rattle.context_codec.specs.KeySet.{has, with_key}
use Rattle.context_codec.specs.Parts.{holds}
use Rattle.json_values.specs.Values.{◌>>=◌, ◌>>◌, provided, member_count, member_number, present}
use Rattle.json_values.specs.Values.{text_at}
use Rattle.job_file.specs.declared.job.Job.{Job}
use Rattle.job_file.specs.declared.job.Work.{Work}
use Rattle.job_file.specs.declared.job.Work.TheVariants.{Encrypt, Decrypt}

-- ---- members

-- where the member is absent, this; else what it is read as
abbrev pub unless_absent : {A : Type 0} → Option Data → A → Option A → Option A
unless_absent None absent found = Some absent
unless_absent (Some d) absent found = found

-- the number, where it lies between these
abbrev pub number_within : ℕ → ℕ → ℕ → Option ℕ
number_within least most n = if nat_le least n && nat_le n most then Some n else None

-- the number that the member of this name is, which lies between these
unfoldable pub number_from : ℕ → ℕ → List ℕ → Data → Option ℕ
number_from least most name d = member_number name d >>= number_within least most

-- the same, or another number where the member is absent
unfoldable pub member_number_or : ℕ → ℕ → ℕ → List ℕ → Data → Option ℕ
member_number_or least most absent name d =
    unless_absent (get name d) absent (number_from least most name d)

-- ---- the file's own members

-- {"capacity":N,"age":N,"messages":N,"bytes":N}
unfoldable pub cache_limits : Data → Option LimitsValue
cache_limits d = do
  provided (member_count d == 4)
  capacity ← number_from 1 65536 (codes "capacity") d
  age ← number_from 1 (2 ^ 64 - 1) (codes "age") d
  messages ← number_from 1 (2 ^ 32) (codes "messages") d
  bytes ← number_from 0 (2 ^ 63 - 1) (codes "bytes") d
  Some (record { capacity = capacity; age = age; messages = messages; bytes = bytes })

-- the cache's limits; a file without them has no cache
unfoldable pub cache_at : Data → Option (Option LimitsValue)
cache_at d =
    unless_absent (get (codes "cache") d) None
    (option_map Some (get (codes "cache") d >>= cache_limits))

abbrev pub length_of_items : Items → ℕ
length_of_items no_items = 0
length_of_items (item d ds) = length_of_items ds + 1

-- items, of which there are 1 to 1,000
abbrev pub some_items : Items → Option Items
some_items ds =
    if nat_le 1 (length_of_items ds) && nat_le (length_of_items ds) 1000 then Some ds else None

-- the list of 1 to 1,000 that the member of this name is
unfoldable pub items_at : List ℕ → Data → Option Items
items_at name d = get name d >>= as_array >>= some_items

-- What a file says of itself, and its jobs, of which nothing is read yet.
pub record JobFileHead : Type 0 where
  pub keyring : List ℕ
  pub width : ℕ
  pub piece : ℕ
  pub cache : Option LimitsValue
  pub jobs : Items

-- {"version":1,"keyring":TEXT,"width":N,"piece":N,"cache":{..},"jobs":[..]}, where the width is 4,
-- the piece 65,536 bytes and the cache off where they are absent
unfoldable pub job_file_head : Data → Option JobFileHead
job_file_head d = do
  provided
      (member_count d
      == 3 + present (codes "width") d + present (codes "piece") d + present (codes "cache") d)
  version ← number_from 1 1 (codes "version") d
  keyring ← text_at (codes "keyring") d
  width ← member_number_or 1 64 4 (codes "width") d
  piece ← member_number_or 1 65536 65536 (codes "piece") d
  cache ← cache_at d
  jobs ← items_at (codes "jobs") d
  Some (record { keyring = keyring; width = width; piece = piece; cache = cache; jobs = jobs })

-- ---- a job's members

-- the context with one more pair, where the value is a text and the context's own text isn't too
-- long then, over 65,535 bytes
unfoldable pub with_pair : List KeyValue → List ℕ → Data → Option (List KeyValue)
with_pair context key d = do
  value ← as_str d
  provided (not (is_some (refusal_of context (key, value))))
  Some (insert_entry (slice_cmp nat_cmp) context key value)

-- the context with these members as pairs, one after another
unfoldable pub member_pairs : List KeyValue → Members → Option (List KeyValue)
member_pairs context no_members = Some context
member_pairs context (member key d members) = do
  grown ← with_pair context key d
  member_pairs grown members

-- {KEY:VALUE, ..}; no pairs, where the member is absent
unfoldable pub context_at : List ℕ → Data → Option (List KeyValue)
context_at name d = unless_absent (get name d) [] (get name d >>= as_object >>= member_pairs [])

-- the keys with one more, where it is a text, a key of the context and none of the keys so far
unfoldable pub with_required : List KeyValue → List (List ℕ) → Data → Option (List (List ℕ))
with_required context keys d = do
  key ← as_str d
  provided (not (has keys key) && holds context key)
  Some (with_key keys key)

-- the keys with these beside them, one after another
unfoldable pub keys_in : List KeyValue → List (List ℕ) → Items → Option (List (List ℕ))
keys_in context keys no_items = Some keys
keys_in context keys (item d ds) = do
  more ← with_required context keys d
  keys_in context more ds

-- [KEY, ..]; no keys, where the member is absent
unfoldable pub required_at : List KeyValue → Data → Option (List (List ℕ))
required_at context d =
    unless_absent (get (codes "required") d) []
    (get (codes "required") d >>= as_array >>= keys_in context [])

-- the length of what is encrypted, where it is declared
unfoldable pub length_at : Data → Option (Option ℕ)
length_at d =
    unless_absent (get (codes "length") d) None
    (option_map Some (number_from 0 (2 ^ 63 - 1) (codes "length") d))

-- what stands in an encrypt job beside its names
unfoldable pub encryption_of : Data → Option Work
encryption_of d = do
  provided
      (member_count d
      == 3 + present (codes "length") d + present (codes "frame") d + present (codes "context") d
      + present (codes "required") d)
  length ← length_at d
  frame ← member_number_or 1 (2 ^ 32 - 1) 4096 (codes "frame") d
  context ← context_at (codes "context") d
  required ← required_at context d
  Some (Encrypt length frame context required)

-- what stands in a decrypt job beside its names
unfoldable pub decryption_of : Data → Option Work
decryption_of d = do
  provided (member_count d == 3 + present (codes "given") d + present (codes "required") d)
  given ← context_at (codes "given") d
  required ← required_at given d
  Some (Decrypt given required)

abbrev pub work_named : List ℕ → Data → Option Work
work_named name d =
    if bytes_eq name (codes "encrypt") then encryption_of d
    else if bytes_eq name (codes "decrypt") then decryption_of d
    else None

-- {"do":"encrypt","from":TEXT,"to":TEXT,"length":N,"frame":N,"context":{..},"required":[..]} or
-- {"do":"decrypt","from":TEXT,"to":TEXT,"given":{..},"required":[..]}
unfoldable pub job_of : Data → Option Job
job_of d = do
  work ← text_at (codes "do") d >>= (λ name. work_named name d)
  source ← text_at (codes "from") d
  target ← text_at (codes "to") d
  Some (record { work = work; from = source; to = target })
