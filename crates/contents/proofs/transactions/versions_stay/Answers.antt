use Rattle.contents.proofs.Stayed.{day_same, caused_same, policy_same, stores_same}
use Rattle.contents.proofs.transactions.versions_stay.Goals as goal

pub returns-clause-day : goal.returns-clause-day
returns-clause-day c day v = day_same day v

pub returns-clause-policy : goal.returns-clause-policy
returns-clause-policy c change v = policy_same change v

pub returns-clause-clients : goal.returns-clause-clients
returns-clause-clients c j change v valid free = caused_same j change v valid free

pub returns-clause-stores : goal.returns-clause-stores
returns-clause-stores c change v = stores_same change v
