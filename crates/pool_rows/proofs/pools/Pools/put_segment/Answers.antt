use Rattle.pool_rows.proofs.Changing.{undone_put, room}
use Rattle.pool_rows.proofs.pools.Pools.put_segment.Goals as goal

pub put-requires : goal.put-requires
put-requires c = λ v found. room c.new-held.result c.args.object c.args.segment.now (record { classes = c.self.inside.classes.entries; pools = c.self.inside.pools; volumes = c.self.inside.volumes }) c.args.self.now v c.self.view_is c.new-held.ensures c.requires found

pub returns-clause-undone : goal.returns-clause-undone
returns-clause-undone c =
    undone_put c.args.object c.args.segment.now (record { classes = c.self.inside.classes.entries; pools = c.self.inside.pools; volumes = c.self.inside.volumes }) c.args.self.now c.put.new.self c.is_sequential_at-sequential.result c.new-held.result c.put.result c.self.view_is c.is_sequential_at-sequential.ensures c.new-held.ensures c.put.ensures.put c.put.ensures.undone
