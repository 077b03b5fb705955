use Rattle.std.proofs.Common.{◌∙◌, ap, arith, length, []}
use Rattle.mem_store.specs.Entries.{calls_onto}
use Rattle.mem_store.proofs.Told.{reads_now, agrees_none, room_none}
use Rattle.mem_store.proofs.mem.MemStore.new.Goals as goal

pub invariant_of-result : goal.invariant_of-result
invariant_of-result c = record {
  clock = omega (arith, ap (λ l. length (calls_onto [] l)) c.new-2.ensures.items);
  agrees = agrees_none c.new.result c.new-2.result.items c.new-2.ensures.items;
  has_room = room_none c.new.result c.new-2.result.items c.new-2.ensures.items;
}

pub returns-clause-empty : goal.returns-clause-empty
returns-clause-empty c file = reads_now c.new.result c.new-2.result.items 0 file (agrees_none c.new.result c.new-2.result.items c.new-2.ensures.items) ∙ c.new.ensures.empty file
