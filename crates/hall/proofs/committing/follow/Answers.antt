use Rattle.std.proofs.Common.{ap, ◌∙◌}
use Rattle.inventory_rows.specs.State.{Inv}
use Rattle.inventory_rows.specs.pool_tables.Rows.{row_at}
use Rattle.hall.proofs.Indexed.{followed_last}
use Rattle.hall.proofs.committing.follow.Goals as goal

pub returns-in-Some-get : goal.returns-in-Some-get
returns-in-Some-get c = λ old e count made legal named noted kept.
    followed_last old c.args.vault.now e c.in-Some-get.entry.now c.journal.result.now c.args.count c.in-Some.taken.now c.as_slice.result.now c.args.named c.tables.result.now.pools c.args.space.now c.args.index.now c.follow.new.self
    c.follow.ensures (made c.if-not-joined.false) count c.journal.ensures c.in-Some-get.ensures.lookup.1 c.as_slice.ensures (c.in-Some.ensures.value ∙ ap (row_at c.args.number) c.freed.ensures ∙ noted)
    (ap (λ (v : Inv). v.stores) (c.tables.ensures.value ∙ c.database.ensures)) legal named kept
