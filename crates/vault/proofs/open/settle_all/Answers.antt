use Rattle.std.proofs.Common.{arith}
use Rattle.store_api.proofs.Runs.{told_then}
use Rattle.kinds.specs.declared.refusal.OpenRefused.{OpenRefused}
use Rattle.log_file.proofs.Told.{onward_then}
use Rattle.vault.proofs.Calming.{settled_more, not_settled, says_nothing}
use Rattle.vault.proofs.open.settle_all.Goals as goal

pub files-preserved : goal.files-preserved
files-preserved g c =
    let inv = c.files.invariant in
    record {
      told = told_then _ _ _ _ _ _ (λ h m n below settles. settled_more {T = Unit {0}} {E = OpenRefused} c.files.file c.in-Ok.field-0 h m n (omega arith) below settles) inv.told c.in-Ok.ensures.told;
      few = omega arith;
      onward = onward_then _ _ _ _ _ _ inv.onward c.settle.ensures.onward;
    }

pub returns-in-Err-clause-told : goal.returns-in-Err-clause-told
returns-in-Err-clause-told g c = told_then _ _ _ _ _ _ (λ h m n below settles. not_settled {T = Unit {0}} {E = OpenRefused} {F = OpenRefused} c.files.file c.in-Err.refused c.in-Err.refused h m n (omega arith) below settles) c.files.invariant.told c.in-Err.ensures.told

pub returns-in-Err-clause-device : goal.returns-in-Err-clause-device
returns-in-Err-clause-device g c = says_nothing c.files.file (g.S.Store.faults_of c.files.store) (g.S.Store.faults_of c.settle.new.store) (g.S.Store.moment_of c.settle.new.store) c.in-Err.refused c.in-Err.ensures.undamaged c.in-Err.ensures.refused
