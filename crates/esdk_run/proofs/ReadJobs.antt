-- What a job file keeps that is read: the keys that a decrypt job requires are keys of its pairs, and no job writes what one reads.
use Rattle.std.proofs.Common.{◌≡◌, ℕ, ◌+◌, ◌-◌, Bool, true, false, List, [], None, Some, Ok, Err, refl, subst}
use Rattle.std.specs.Prelude.{All, IfOk, IfSome, ◌&&◌, ◌==◌, ◌^◌, codes, if◌then◌else◌, not, option_and_then, ⊤}
use Rattle.std.specs.declared.option.Option.{Option}
use Rattle.std.specs.declared.result.Result.{Result}
use Rattle.std.specs.List.{list_all}
use Rattle.std.specs.Str.{bytes_eq}
use Rattle.std.proofs.lemmas.List.Elements.{All-cons, All-nil}
use Rattle.serde_json.specs.Data.{Data, Items, no_items, item}
use Rattle.serde_json.specs.Find.{as_array, as_str, get}
use Rattle.esdk_fields.specs.declared.refusals.FileRefusal.{FileRefusal}
use Rattle.esdk_fields.specs.declared.refusals.FileRefusal.TheVariants.{BadShape, NotJson}
use Rattle.context_codec.specs.Context.{KeyValue}
use Rattle.context_codec.specs.KeySet.{has, with_key}
use Rattle.context_codec.specs.Parts.{holds}
use Rattle.job_file.specs.declared.job.Job.{Job}
use Rattle.job_file.specs.declared.job.Work.{Work}
use Rattle.job_file.specs.declared.job.Work.TheVariants.{Encrypt, Decrypt}
use Rattle.job_file.specs.JobFile.{JobFile, is_written}
use Rattle.job_file.specs.JobForm.{JobFileHead, context_at, decryption_of, encryption_of, job_file_head, job_of, keys_in, length_at, member_number_or, required_at, unless_absent, with_required, work_named}
use Rattle.job_file.specs.Jobs.{clash_among, each_from, job_file_of, jobs_from, jobs_of, or_refuse, read_names, then_made, unless_clash}
use Rattle.job_file.proofs.Apart.{reads_apart}
use Rattle.job_file.proofs.Held.{one_more_passes}
use Rattle.json_values.specs.Values.{◌>>=◌, ◌>>◌, member_count, present, provided, text_at, json_value}
use Rattle.esdk_run.specs.Batch.{jobs_in}

-- ---- what is so of whatever is found

if_found : {A B : Type 0} (Q : A → Type 0) (P : B → Type 0) (found : Option A) (next : A → Option B) → IfSome found Q → ((a : A) → Q a → IfSome (next a) P)
    → IfSome (option_and_then next found) P
if_found Q P None next is each = tt
if_found Q P (Some a) next is each = each a is

if_provided : {B : Type 0} (P : B → Type 0) (test : Bool) (next : Option B) → (test ≡ true → IfSome next P) → IfSome (option_and_then (λ _. next) (provided test)) P
if_provided P true next so = so refl
if_provided P false next so = tt

any_found : {A : Type 0} (found : Option A) → IfSome found (λ _. ⊤)
any_found None = tt
any_found (Some a) = tt

if_read : {A B : Type 0} (Q : A → Type 0) (P : B → Type 0) (found : Result A FileRefusal) (next : A → Result B FileRefusal) → IfOk found Q → ((a : A) → Q a → IfOk (next a) P)
    → IfOk (then_made found next) P
if_read Q P (Ok a) next is each = each a is
if_read Q P (Err refusal) next is each = tt

or_refused : {A : Type 0} (Q : A → Type 0) (refusal : FileRefusal) (found : Option A) → IfSome found Q → IfOk (or_refuse refusal found) Q
or_refused Q refusal None is = tt
or_refused Q refusal (Some a) is = is

-- ---- a job

-- the keys that a decrypt job requires are keys of the pairs that it gives
abbrev pub RequiresGiven : Work → Type 0
RequiresGiven (Encrypt length frame context required) = ⊤
RequiresGiven (Decrypt given required) = list_all (holds given) required ≡ true

abbrev AreHeld : List KeyValue → List (List ℕ) → Type 0
AreHeld context keys = list_all (holds context) keys ≡ true

second : (a b : Bool) → (a && b) ≡ true → b ≡ true
second true b e = e
second false b e = absurd cc

one_more_held : (context : List KeyValue) (keys : List (List ℕ)) (d : Data) → AreHeld context keys → IfSome (with_required context keys d) (AreHeld context)
unfolding with_required
one_more_held context keys d held =
    if_found (λ _. ⊤) (AreHeld context) (as_str d) _ (any_found (as_str d))
    (λ key any. if_provided (AreHeld context) (not (has keys key) && holds context key) (Some (with_key keys key))
    (λ fits. one_more_passes (holds context) keys key held (second (not (has keys key)) (holds context key) fits)))

keys_held : (context : List KeyValue) (keys : List (List ℕ)) (items : Items) → AreHeld context keys → IfSome (keys_in context keys items) (AreHeld context)
unfolding keys_in
keys_held context keys no_items held = held
keys_held context keys (item d ds) held =
    if_found (AreHeld context) (AreHeld context) (with_required context keys d) (λ more. keys_in context more ds) (one_more_held context keys d held)
    (λ more is. keys_held context more ds is)

listed_held : (context : List KeyValue) (found : Option Data) → IfSome (unless_absent found [] (option_and_then (keys_in context []) (option_and_then as_array found))) (AreHeld context)
listed_held context None = refl
listed_held context (Some d) = if_found (λ _. ⊤) (AreHeld context) (as_array d) (keys_in context []) (any_found (as_array d)) (λ items any. keys_held context [] items refl)

required_held : (context : List KeyValue) (d : Data) → IfSome (required_at context d) (AreHeld context)
unfolding required_at
required_held context d = listed_held context (get (codes "required") d)

required_found : (length : Option ℕ) (frame : ℕ) (context : List KeyValue) (required : Option (List (List ℕ)))
    → IfSome (required >>= (λ keys. Some (Encrypt length frame context keys))) RequiresGiven
required_found length frame context None = tt
required_found length frame context (Some keys) = tt

encrypts : (counted : Bool) (length : Option (Option ℕ)) (frame : Option ℕ) (context : Option (List KeyValue)) (required : List KeyValue → Option (List (List ℕ)))
    → IfSome (provided counted >> (length >>= (λ l. frame >>= (λ f. context >>= (λ c. required c >>= (λ keys. Some (Encrypt l f c keys))))))) RequiresGiven
encrypts false length frame context required = tt
encrypts true None frame context required = tt
encrypts true (Some l) None context required = tt
encrypts true (Some l) (Some f) None required = tt
encrypts true (Some l) (Some f) (Some c) required = required_found l f c (required c)

encryption_keeps : (d : Data) → IfSome (encryption_of d) RequiresGiven
unfolding encryption_of
encryption_keeps d =
    encrypts (member_count d == 3 + present (codes "length") d + present (codes "frame") d + present (codes "context") d + present (codes "required") d)
    (length_at d) (member_number_or 1 (2 ^ 32 - 1) 4096 (codes "frame") d) (context_at (codes "context") d) (λ context. required_at context d)

decrypts : (counted : Bool) (given : Option (List KeyValue)) (required : List KeyValue → Option (List (List ℕ))) → ((pairs : List KeyValue) → IfSome (required pairs) (AreHeld pairs))
    → IfSome (provided counted >> (given >>= (λ pairs. required pairs >>= (λ keys. Some (Decrypt pairs keys))))) RequiresGiven
decrypts false given required held = tt
decrypts true None required held = tt
decrypts true (Some pairs) required held = if_found (AreHeld pairs) RequiresGiven (required pairs) (λ keys. Some (Decrypt pairs keys)) (held pairs) (λ keys is. is)

decryption_keeps : (d : Data) → IfSome (decryption_of d) RequiresGiven
unfolding decryption_of
decryption_keeps d =
    decrypts (member_count d == 3 + present (codes "given") d + present (codes "required") d) (context_at (codes "given") d) (λ given. required_at given d) (λ given. required_held given d)

either_keeps : (d : Data) (encrypts decrypts : Bool) → IfSome (if encrypts then encryption_of d else if decrypts then decryption_of d else None) RequiresGiven
either_keeps d true decrypts = encryption_keeps d
either_keeps d false true = decryption_keeps d
either_keeps d false false = tt

work_keeps : (d : Data) (name : Option (List ℕ)) → IfSome (name >>= (λ n. work_named n d)) RequiresGiven
work_keeps d None = tt
work_keeps d (Some name) = either_keeps d (bytes_eq name (codes "encrypt")) (bytes_eq name (codes "decrypt"))

makes_job : (work : Option Work) (source target : Option (List ℕ)) → IfSome work RequiresGiven
    → IfSome (work >>= (λ w. source >>= (λ s. target >>= (λ t. Some (record { work = w; from = s; to = t }))))) (λ (job : Job). RequiresGiven job.work)
makes_job None source target kept = tt
makes_job (Some work) None target kept = tt
makes_job (Some work) (Some source) None kept = tt
makes_job (Some work) (Some source) (Some target) kept = kept

job_keeps : (d : Data) → IfSome (job_of d) (λ job. RequiresGiven job.work)
unfolding job_of
job_keeps d =
    makes_job (text_at (codes "do") d >>= (λ name. work_named name d)) (text_at (codes "from") d) (text_at (codes "to") d) (work_keeps d (text_at (codes "do") d))

-- ---- the jobs

jobs_keep : (number : ℕ) (items : Items) → IfOk (jobs_from number items) (λ jobs. All (λ job. RequiresGiven job.work) jobs)
unfolding each_from
jobs_keep number no_items = All-nil (λ (job : Job). RequiresGiven job.work)
jobs_keep number (item d ds) =
    if_read (λ job. RequiresGiven job.work) (λ jobs. All (λ job. RequiresGiven job.work) jobs) (or_refuse (BadShape number) (job_of d)) _
    (or_refused (λ job. RequiresGiven job.work) (BadShape number) (job_of d) (job_keeps d))
    (λ job kept. if_read (λ jobs. All (λ job. RequiresGiven job.work) jobs) (λ jobs. All (λ job. RequiresGiven job.work) jobs) (jobs_from (number + 1) ds) _ (jobs_keep (number + 1) ds)
    (λ jobs all. All-cons (λ job. RequiresGiven job.work) job jobs kept all))

-- What is so of jobs that are read.
pub record KeepsJobs (jobs : List Job) : Type 0 where
  pub given : All (λ job. RequiresGiven job.work) jobs
  pub unread : All (λ job. is_written jobs job.from ≡ false) jobs

unless_clash_keeps : (own_name : List ℕ) (head : JobFileHead) (jobs : List Job) (clash : Option (List ℕ)) → clash_among (read_names own_name head.keyring jobs) [] jobs ≡ clash
    → All (λ job. RequiresGiven job.work) jobs → IfOk (unless_clash clash (job_file_of head jobs)) (λ file. KeepsJobs file.jobs)
unless_clash_keeps own_name head jobs None none given = record { given = given; unread = reads_apart own_name head.keyring jobs none }
unless_clash_keeps own_name head jobs (Some name) clash given = tt

file_keeps : (bytes own_name : List ℕ) → IfOk (jobs_of bytes own_name) (λ file. KeepsJobs file.jobs)
unfolding jobs_of
file_keeps bytes own_name =
    if_read (λ _. ⊤) (λ (file : JobFile). KeepsJobs file.jobs) (or_refuse NotJson (json_value bytes)) _ (or_refused (λ _. ⊤) NotJson (json_value bytes) (any_found (json_value bytes)))
    (λ value any. if_read (λ _. ⊤) (λ (file : JobFile). KeepsJobs file.jobs) (or_refuse (BadShape 0) (job_file_head value)) _
    (or_refused (λ _. ⊤) (BadShape 0) (job_file_head value) (any_found (job_file_head value)))
    (λ head any. if_read (λ jobs. All (λ job. RequiresGiven job.work) jobs) (λ (file : JobFile). KeepsJobs file.jobs) (jobs_from 1 head.jobs) _ (jobs_keep 1 head.jobs)
    (λ jobs given. unless_clash_keeps own_name head jobs (clash_among (read_names own_name head.keyring jobs) [] jobs) refl given)))

pub read_jobs_keep : (name bytes : List ℕ) (file : JobFile) → jobs_in name bytes ≡ Ok file → KeepsJobs file.jobs
read_jobs_keep name bytes file is = subst (λ (read : Result JobFile FileRefusal). IfOk read (λ f. KeepsJobs f.jobs)) is (file_keeps bytes name)
