use Rattle.volume_rows.specs.Held.{held_of}
use Rattle.pool_tables.specs.RowChanges.{put, take as take_of}
use Rattle.pool_rows.specs.PoolRows.{is_sequential_at}
use Rattle.space_index.proofs.Listings.{changed_at}
use Rattle.space_index.proofs.Volumes.{row_comes, row_changes, row_goes}
use Rattle.space_index.proofs.laws.rows_change_at.Goals as goal

pub returns-clause-comes : goal.returns-clause-comes
returns-clause-comes c = row_comes

pub returns-clause-changes : goal.returns-clause-changes
returns-clause-changes c = row_changes

pub returns-clause-goes : goal.returns-clause-goes
returns-clause-goes c = row_goes

pub returns-clause-put : goal.returns-clause-put
returns-clause-put c = λ s t object x made. changed_at s t x.file (put (is_sequential_at x.file s) (held_of object x)) made

pub returns-clause-taken : goal.returns-clause-taken
returns-clause-taken c = λ s t object today x made. changed_at s t x.file (take_of (is_sequential_at x.file s) (held_of object x) today) made
