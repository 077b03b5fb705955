use Rattle.std.proofs.Common.{length, sym, subst, arith}
use Rattle.store_api.specs.Disk.{write, Leaves, standing}
use Rattle.store_api.proofs.Standings.{standing_on}
use Rattle.store_api.proofs.Images.{write_leaves, write_left}
use Rattle.store_api.proofs.laws.after_write.Goals as goal

pub returns-clause-only : goal.returns-clause-only
returns-clause-only c h file = write_leaves h file

pub returns-clause-all : goal.returns-clause-all
returns-clause-all c h file at bytes before left leaves agrees =
    subst (λ s. Leaves s left) (sym (standing_on h file (write at (length bytes) bytes))) (write_left (standing h file) at (length bytes) bytes before left (omega arith) leaves agrees)
