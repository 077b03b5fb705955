use Rattle.std.proofs.Common.{◌+◌, Some}
use Rattle.std.specs.Prelude.{vec_len}
use Rattle.crew.specs.Ran.{began}
use Rattle.crew.proofs.block.run_block.Given as goal

-- the cell, the hall that the block begins with, and its actors
abbrev pub ghosts-in_block : goal.ghosts-in_block
ghosts-in_block g a = record { table = a.cell.table.shared.table_id; first = Some (began g.S.Store.told g.S.Store.moment_of g.S.Store.faults_of a.hall); least = a.first; most = a.first + vec_len a.jobs }
