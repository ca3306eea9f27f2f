-- What the steps of the default materials manager answer.
use Rattle.std.specs.Prelude.{◌≡◌, List, [], ⊤, Some, None}
use Rattle.esdk_fields.specs.Counts.{Rose}
use Rattle.esdk_fields.specs.declared.faults.Fault.TheVariants.{NoKeyOpens}
use Rattle.context_codec.specs.Context.{KeyValue}
use Rattle.edk_codec.specs.Entry.{Entry}
use Rattle.keyring_trait.specs.declared.manager_errors.ManagerError.{ManagerError}
use Rattle.keyring_trait.specs.declared.manager_errors.ManagerError.TheVariants as errors
use Rattle.keyring_trait.specs.Keyring.{KeyringMeaning, WrappedValue, Opens}
use Rattle.keyring_trait.specs.Materials.{EncMaterialsValue}
use Rattle.keyring_trait.specs.Requests.{EncRequestValue}
use Rattle.keyring_trait.specs.Unlocking.{pair_offence}
use Rattle.keyring_trait.specs.declared.served.Served.TheVariants.{Direct}

-- the materials of a request, where the keyring made these entries of a data key
abbrev pub wrapped_materials : EncRequestValue → WrappedValue → EncMaterialsValue
wrapped_materials request wrapped = record {
  context = request.context;
  required = request.required;
  key = wrapped.key;
  entries = wrapped.entries;
  served = Direct;
}

-- Why nothing is wrapped, where nothing is refused: a failure that was counted, or want of memory.
abbrev pub WrapsNot : KeyringMeaning → KeyringMeaning → ManagerError → Type 0
WrapsNot old new (errors.Fault fault) = ⊥
WrapsNot old new (errors.Refusal refusal) = ⊥
WrapsNot old new errors.KeyringFault = Rose old.faults new.faults
WrapsNot old new errors.Memory = ⊤

-- Why the stored and the given pairs aren't joined: what is wrong with them, or want of memory.
abbrev pub JoinsNot : List KeyValue → List KeyValue → ManagerError → Type 0
JoinsNot stored given (errors.Fault fault) = pair_offence stored given [] ≡ Some fault
JoinsNot stored given (errors.Refusal refusal) = ⊥
JoinsNot stored given errors.KeyringFault = ⊥
JoinsNot stored given errors.Memory = ⊤

-- Why there is no data key: M15, as nothing opens an entry; or a failure that was counted; or want
-- of memory.
abbrev pub OpensNot : KeyringMeaning → KeyringMeaning → List KeyValue → List Entry → ManagerError
    → Type 0
OpensNot old new c entries (errors.Fault fault) =
    (fault ≡ NoKeyOpens) × Opens old new c entries None
OpensNot old new c entries (errors.Refusal refusal) = ⊥
OpensNot old new c entries errors.KeyringFault = Rose old.faults new.faults
OpensNot old new c entries errors.Memory = ⊤
