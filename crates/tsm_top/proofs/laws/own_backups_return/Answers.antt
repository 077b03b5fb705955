use Rattle.tsm_top.proofs.Returning.{own_returns}
use Rattle.tsm_top.proofs.laws.own_backups_return.Goals as goal

pub returns : goal.returns
returns c command contents told h opened journal stamps base ran sure had image here v recovers file b listed done from day skipped came old new same restored =
    own_returns command contents told h opened journal stamps base ran sure had image here v recovers file b listed done from day skipped came old new same restored
