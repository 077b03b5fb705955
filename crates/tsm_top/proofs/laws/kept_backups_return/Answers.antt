use Rattle.tsm_top.proofs.Returning.{kept_returns}
use Rattle.tsm_top.proofs.laws.kept_backups_return.Goals as goal

pub returns-clause-run : goal.returns-clause-run
returns-clause-run c =
    λ command contents told h opened journal stamps base ran sure had moment image from to here v recovers file b listed day skipped came old new same restored.
    kept_returns image v file b ((ran.backups contents sure had).always moment image from to here v recovers) listed day skipped came old new same restored

pub returns-clause-always : goal.returns-clause-always
returns-clause-always c =
    λ since h always moment image from to here v recovers file b listed day skipped came old new same restored.
    kept_returns image v file b (always moment image from to here v recovers) listed day skipped came old new same restored
