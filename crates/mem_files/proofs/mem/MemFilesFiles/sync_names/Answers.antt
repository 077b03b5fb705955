use Rattle.mem_files.specs.Mem.{stage_of}
use Rattle.mem_files.proofs.Calls.{names_kept}
use Rattle.mem_files.proofs.mem.MemFilesFiles.sync_names.Goals as goal

pub returns : goal.returns
returns c = record {
  told = λ held. names_kept (stage_of c.args.self.now.at) c.args.self.now.moves.items c.clear.new.self.items c.args.self.now.entries.items c.make_all_sure.new.entries.items c.make_all_sure.ensures
      c.clear.ensures.items;
}
