use Rattle.keyring_file.proofs.RawNodes.{file_retires}
use Rattle.keyring_file.proofs.laws.migration_retires_raw_keys.Goals as goal

pub returns : goal.returns
returns c = λ number bytes. file_retires number bytes
