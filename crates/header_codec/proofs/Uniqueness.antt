-- Bytes that the table reads to its end begin with a header, and with one only.
use Rattle.std.proofs.Common.{◌≡◌, ℕ, List, None, refl, sym, ap, subst, ◌∙◌}
use Rattle.std.specs.Prelude.{option_map}
use Rattle.std.specs.Int.{w16}
use Rattle.esdk_fields.specs.declared.faults.Fault.TheVariants.{BadContext}
use Rattle.esdk_fields.specs.Place.{Place, start}
use Rattle.esdk_fields.specs.Reading.{Read, ◌>>◌, done, bytes, number, judge}
use Rattle.esdk_fields.proofs.Inverse.{read_same, then_is_read}
use Rattle.context_codec.specs.Context.{KeyValue}
use Rattle.context_codec.specs.Split.{context_fault, SpellsContext}
use Rattle.context_codec.proofs.OneContext.{one_context}
use Rattle.context_codec.proofs.Sorting.{spells_some}
use Rattle.header_codec.specs.declared.settings.Settings.{Settings}
use Rattle.header_codec.specs.Header.{HeaderValue}
use Rattle.header_codec.specs.Table.{HeaderFields, context_field, header, made_of, BeginsWith}
use Rattle.header_codec.proofs.Steps.{after_context_length, header_is_read}
use Rattle.header_codec.proofs.Readings.{judge_read}
use Rattle.header_codec.proofs.Fronts.{option_map_none}

pub one_header : (settings : Settings) (b : List ℕ) (h k : HeaderValue) (end other : Place) → BeginsWith settings b h end → BeginsWith settings b k other → (h ≡ k) × (end ≡ other)
one_header settings b h k end other first second =
    let same = read_same first.parts second.parts end other (sym first.read ∙ second.read) in
    let spelled : SpellsContext second.parts.context h.stored = subst (λ (p : HeaderFields). SpellsContext p.context h.stored) same.0 first.stored in
    let stored : h.stored ≡ k.stored = one_context second.parts.context h.stored k.stored spelled second.stored in
    (first.is ∙ ap (λ (p : HeaderFields). made_of b p h.stored) same.0 ∙ ap (λ (s : List KeyValue). made_of b second.parts s) stored ∙ sym second.is, same.1)

-- a context that was read has no fault
context_good : (p : Place) (context : List ℕ) (q : Place) → context_field p ≡ Read context q → context_fault context ≡ None
unfolding context_field
context_good p context q e =
    let a = then_is_read (number w16 p) after_context_length context q e in
    let b = then_is_read (bytes a.value a.next) (λ read. judge (option_map BadContext (context_fault read)) >> done read) context q a.second in
    let c = judge_read (option_map BadContext (context_fault b.value)) (done b.value) b.next context q b.second in
    let same = read_same b.value context b.next q c.1 in
    subst (λ (x : List ℕ). context_fault x ≡ None) same.0 (option_map_none BadContext (context_fault b.value) c.0)

pub some_header : (settings : Settings) (b : List ℕ) (parts : HeaderFields) (end : Place) → header settings (start b) ≡ Read parts end → (h : HeaderValue) × BeginsWith settings b h end
some_header settings b parts end read =
    let h = header_is_read settings (start b) parts end read in
    let stored = spells_some parts.context (context_good h.after_id parts.context h.after_context h.context) in
    (made_of b parts stored.0, record { parts = parts; read = read; stored = stored.1; is = refl })
