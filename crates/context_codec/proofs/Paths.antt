-- What reading found on its way.
use Rattle.std.proofs.Common.{◌≡◌, ℕ, true, false, List, Option, Some, None, sym, ap, ◌∙◌}
use Rattle.std.specs.Prelude.{option_map}
use Rattle.std.specs.Global.{Vec}
use Rattle.esdk_fields.specs.declared.faults.ContextFault.{ContextFault}
use Rattle.esdk_fields.specs.declared.faults.Fault.TheVariants.{BadContext}
use Rattle.context_codec.specs.Context.{KeyValue, are_texts}
use Rattle.context_codec.specs.Split.{context_fault}
use Rattle.context_codec.specs.Found.{FindsPairs, FindsTexts}
use Rattle.context_codec.specs.Read.{ReadRefusesAs, refusal}

pub refuses : (bytes : List ℕ) (fault : ContextFault) → context_fault bytes ≡ Some fault → ReadRefusesAs (refusal fault) (context_fault bytes)
refuses bytes fault e = ap (option_map BadContext) e

split_cases : (o : Option (Vec KeyValue)) (pairs : Option (List KeyValue)) → FindsPairs o pairs → pairs ≡ option_map (λ v. v.items) o
split_cases None pairs h = h
split_cases (Some v) pairs h = h

pub split_none : (o : Option (Vec KeyValue)) (pairs : Option (List KeyValue)) → FindsPairs o pairs → o ≡ None → pairs ≡ None
split_none o pairs h e = split_cases o pairs h ∙ ap (option_map (λ v. v.items)) e

pub split_some : (o : Option (Vec KeyValue)) (v : Vec KeyValue) (pairs : Option (List KeyValue)) → FindsPairs o pairs → o ≡ Some v → pairs ≡ Some v.items
split_some o v pairs h e = split_cases o pairs h ∙ ap (option_map (λ w. w.items)) e

pub texts_none : (o : Option (Vec KeyValue)) (raw : List KeyValue) → FindsTexts o raw → o ≡ None → are_texts raw ≡ false
texts_none None raw h e = h
texts_none (Some v) raw h e = absurd cc

pub texts_some : (o : Option (Vec KeyValue)) (v : Vec KeyValue) (raw : List KeyValue) → FindsTexts o raw → o ≡ Some v → (are_texts raw ≡ true) × (v.items ≡ raw)
texts_some None v raw h e = absurd cc
texts_some (Some w) v raw h e = (h.0, let same : w ≡ v = cc in ap (λ (x : Vec KeyValue). x.items) (sym same) ∙ h.1)
