use Rattle.std.proofs.Common.{IsTrue}
use Rattle.store_api.proofs.Runs.{goes_then, each_then}
use Rattle.store_api.proofs.Ranges.{wrote_then}
use Rattle.store_api.proofs.laws.runs_join.Goals as goal

pub returns-clause-goes : goal.returns-clause-goes
returns-clause-goes c mine old mid new a b = goes_then (λ f. IsTrue (mine f)) old mid new a b

pub returns-clause-each : goal.returns-clause-each
returns-clause-each c mine old mid new has goes before after = each_then (λ f. IsTrue (mine f)) old mid new (λ image. IsTrue (has image)) goes before after

pub returns-clause-within : goal.returns-clause-within
returns-clause-within c file at len old mid new a b = wrote_then file at len old mid new a b
