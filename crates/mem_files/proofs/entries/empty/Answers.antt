use Rattle.std.proofs.Common.{refl}
use Rattle.mem_store.specs.Mem.{history_of}
use Rattle.mem_files.proofs.Stores.{new_store}
use Rattle.mem_files.proofs.entries.empty.Goals as goal

pub returns : goal.returns
returns c = record {
  there = refl;
  empty = new_store (history_of c.new.result) c.new.ensures.no_calls (c.new.ensures.empty 0);
  unsure = refl;
  sound = refl;
}
