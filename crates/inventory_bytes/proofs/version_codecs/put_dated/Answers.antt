use Rattle.kinds.proofs.Joins.{seven}
use Rattle.inventory_bytes.specs.VersionForms.{dated_fields}
use Rattle.inventory_bytes.proofs.version_codecs.put_dated.Goals as goal

pub returns : goal.returns
unfolding dated_fields
returns c =
    seven _ _ _ _ _ _ _ _ _ _ _ _ _ _ _ c.in_ok-put_u64.ensures.ok c.in_ok-write_to.ensures c.in_ok-put_u64-2.ensures.ok c.in_ok-write_to-2.ensures c.in_ok-write_to-3.ensures c.in_ok-write_to-4.ensures c.in_ok-put_copies.ensures
