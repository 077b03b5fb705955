use Rattle.std.proofs.Common.{sym, subst}
use Rattle.space.specs.declared.turn.Turn.{Turn}
use Rattle.space_index.specs.Listed.{rooms_at}
use Rattle.space_index.specs.Sequential.{IsNextOrNone, behind, listed_by, own_rooms}
use Rattle.space_index.proofs.sequential.next_of.Goals as goal

pub returns-in-Filling : goal.returns-in-Filling
returns-in-Filling c =
    let l = c.args.tails.now.lists in
    subst (λ (t : Turn). IsNextOrNone (listed_by t l c.args.number c.args.actor) (behind c.args.last) c.earlier.result) (sym c.in-Filling.is)
    (c.earlier.ensures (rooms_at c.args.number l.filling.pools.entries) (own_rooms l c.args.number c.args.actor) (behind c.args.last) c.next_in.ensures c.next_own.ensures)
