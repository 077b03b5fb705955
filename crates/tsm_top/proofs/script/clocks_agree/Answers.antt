use Rattle.tsm_top.proofs.script.clocks_agree.Goals as goal

pub returns : goal.returns
returns g c = g.met.S.Store.clock
