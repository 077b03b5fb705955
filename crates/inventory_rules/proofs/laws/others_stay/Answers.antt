use Rattle.inventory_rules.proofs.Touched.{effect-clients, effect-stores, effect-data}
use Rattle.inventory_rules.proofs.laws.others_stay.Goals as goal

pub returns-clause-clients : goal.returns-clause-clients
returns-clause-clients c change v = effect-clients change v

pub returns-clause-stores : goal.returns-clause-stores
returns-clause-stores c change v = effect-stores change v

pub returns-clause-data : goal.returns-clause-data
returns-clause-data c change v h = effect-data change v h
