use Rattle.std.proofs.Common.{◌≡◌, ◌<◌, ◌^◌, ◌+◌, ◌∙◌, true, arith}
use Rattle.inventory_rows.specs.State.{inv_of}
use Rattle.inventory_rules.specs.Held.{IsTied}
use Rattle.inventory_rules.specs.Valid.{is_valid}
use Rattle.db_restore.proofs.Leaving.{leaves_made, left_few, left_valid}
use Rattle.db_restore.proofs.restoring.leave.Goals as goal

pub restore-requires : goal.restore-requires
restore-requires c = (let below = c.requires.possible.1 in omega (arith, below))

pub read_back-requires-clause-valid : goal.read_back-requires-clause-valid
read_back-requires-clause-valid c =
    (left_valid c.args.losses.now c.args.file c.args.day c.args.backup.now (inv_of c.tables-tables.result.now) (inv_of c.in_ok-left.left) c.tables-tables.ensures.value c.in_ok-left.ensures c.tables-tables.ensures.valid c.tables-tables.ensures.tied c.requires.later c.requires.bounded c.requires.possible).0

pub read_back-requires-clause-tied : goal.read_back-requires-clause-tied
read_back-requires-clause-tied c =
    (left_valid c.args.losses.now c.args.file c.args.day c.args.backup.now (inv_of c.tables-tables.result.now) (inv_of c.in_ok-left.left) c.tables-tables.ensures.value c.in_ok-left.ensures c.tables-tables.ensures.valid c.tables-tables.ensures.tied c.requires.later c.requires.bounded c.requires.possible).1

pub count_copies-copies-requires : goal.count_copies-copies-requires
count_copies-copies-requires c =
    left_few (inv_of c.in_ok-left.left)
    (left_valid c.args.losses.now c.args.file c.args.day c.args.backup.now (inv_of c.tables-tables.result.now) (inv_of c.in_ok-left.left) c.tables-tables.ensures.value c.in_ok-left.ensures c.tables-tables.ensures.valid c.tables-tables.ensures.tied c.requires.later c.requires.bounded c.requires.possible).0

pub returns-clause-left : goal.returns-clause-left
returns-clause-left c =
    leaves_made c.args.losses.now c.args.file c.args.day c.args.backup.now (inv_of c.tables-tables.result.now) (inv_of c.in_ok-left.left) c.in_ok-inventory.inventory _ c.tables-tables.ensures.value c.in_ok-left.ensures c.in_ok-inventory.ensures c.count-versions.ensures c.count_copies-copies.ensures c.in_ok-lost.ensures
