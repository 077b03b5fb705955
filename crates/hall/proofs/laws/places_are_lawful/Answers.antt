use Rattle.hall.proofs.Spots.{goes_where_aimed, refuses_elsewhere}
use Rattle.hall.proofs.laws.places_are_lawful.Goals as goal

pub returns-clause-elsewhere : goal.returns-clause-elsewhere
returns-clause-elsewhere c = λ v s actor size a prefer avoid e placed. refuses_elsewhere v s actor size a prefer avoid e placed

pub returns-clause-aimed : goal.returns-clause-aimed
returns-clause-aimed c = λ v s actor size a prefer avoid place placed. goes_where_aimed v s actor size a prefer avoid place placed
