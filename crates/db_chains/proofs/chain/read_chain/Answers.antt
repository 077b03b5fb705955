use Rattle.store_api.proofs.Runs.{told_map}
use Rattle.db_chains.proofs.Walking.{chain_failed, chain_read, forward_refused}
use Rattle.db_chains.proofs.chain.read_chain.Goals as goal

pub returns-in-Err-clause-told : goal.returns-in-Err-clause-told
returns-in-Err-clause-told g c = told_map _ _ _ _ (λ old new back. chain_failed g.D.Database.meaning c.args.file c.go_back.new.links.items c.in-Err.refused old new back) c.in-Err.ensures.told

pub returns-clause-told : goal.returns-clause-told
returns-clause-told g c = told_map _ _ _ _ (λ old new back. chain_read g.D.Database.meaning c.args.file c.go_back.new.links.items c.in-Ok.database c.go_forward.result old new back c.go_forward.ensures) c.in-Ok.ensures.told

pub returns-clause-refused : goal.returns-clause-refused
returns-clause-refused g c = forward_refused g.D.Database.meaning c.go_back.new.links.items c.in-Ok.database _ _ _ c.go_forward.result c.go_forward.ensures
