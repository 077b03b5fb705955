use Rattle.mem_files.specs.Mem.{stage_of}
use Rattle.mem_files.proofs.Calls.{stopped}
use Rattle.mem_files.proofs.mem.MemFilesStop.stop.Goals as goal

pub returns : goal.returns
returns c = record {
  told = stopped (stage_of c.args.self.at) c.args.self.moves.items c.clear.new.self.items c.args.self.entries.items c.undo_newest.new.entries.items c.stop_all.new.entries.items c.undo_newest.ensures
      c.stop_all.ensures.left c.stop_all.ensures.rest
      c.clear.ensures.items;
}
