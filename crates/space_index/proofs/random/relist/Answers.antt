use Rattle.std.proofs.Common.{ℕ, subst}
use Rattle.space_index.specs.Listed.{some_room, HasRoom}
use Rattle.space_index.proofs.Entries.{relisted, unlisted}
use Rattle.space_index.proofs.random.relist.Goals as goal

pub returns-in_ok-set_room-in-Some : goal.returns-in_ok-set_room-in-Some
returns-in_ok-set_room-in-Some c = λ before listed stays.
    relisted before c.args.files.now.entries c.args.pools.now.entries c.set_room.new.pools.entries c.args.file c.in-Some.standing.now stays c.in-Some.ensures.value listed
    (subst (λ (n : ℕ). HasRoom c.in-Some.standing.now.pool c.args.file (some_room n) c.args.pools.now.entries c.set_room.new.pools.entries) c.room.ensures c.in_ok-set_room-in-Some.ensures)

pub returns-in-None : goal.returns-in-None
returns-in-None c = λ before listed stays. unlisted before c.args.files.now.entries c.args.pools.now.entries c.args.file stays c.in-None.ensures.value listed
