use Rattle.client_files.proofs.Exact.{restored-is-stored}
use Rattle.client_files.proofs.laws.restored_bytes_are_stored.Goals as goal

pub returns : goal.returns
returns c w actor old new s before after events f r sized = restored-is-stored w actor old new s before after events f r sized
