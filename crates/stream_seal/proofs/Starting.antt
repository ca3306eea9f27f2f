-- The start of a message.
use Rattle.std.proofs.Common.{◌≡◌, ◌^◌, ◌<◌, ℕ, List, length, Option, None, arith}
use Rattle.context_codec.specs.Parts.{stored_of}
use Rattle.header_codec.proofs.CommittingHeaders.{length-committing, limits_kept}
use Rattle.keyring_trait.specs.Materials.{EncMaterialsValue}
use Rattle.suite_table.specs.Keys.{commitment}
use Rattle.suite_table.proofs.KeyLemmas.{length-commitment}
use Rattle.message_format.specs.Message.{header_body}
use Rattle.stream_seal.specs.Start.{start_refusal}

-- a header body that isn't refused is short
pub short_body : (m : EncMaterialsValue) (size : ℕ) (max_keys : Option ℕ) (id : List ℕ) → start_refusal m max_keys id ≡ None
    → length (header_body m.context m.required size m.key m.entries id) < 2 ^ 25
unfolding header_body
short_body m size max_keys id taken =
    let stored = stored_of m.required m.context in
    omega (arith, (limits_kept id stored m.entries max_keys taken).end, length-committing id stored m.entries size (commitment m.key id) (length-commitment m.key id))
