use Rattle.inventory_bytes.specs.VersionForms.{copy_row}
use Rattle.kinds.proofs.Joins.{three}
use Rattle.inventory_bytes.proofs.version_codecs.CopyBytesSecondCodecCopyRow.put.Goals as goal

pub returns : goal.returns
unfolding copy_row
returns c = three _ _ _ _ _ _ _ c.in_ok-put_u32.ensures.ok c.in_ok-put_u64.ensures.ok c.in_ok-write_to.ensures
