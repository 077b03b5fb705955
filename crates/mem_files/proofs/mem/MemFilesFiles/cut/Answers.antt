use Rattle.mem_files.specs.Mem.{stage_of, labelled}
use Rattle.mem_files.proofs.Calls.{there, was_cut}
use Rattle.mem_files.proofs.mem.MemFilesFiles.cut.Goals as goal

pub returns-in-Some : goal.returns-in-Some
returns-in-Some c = record {
  told = was_cut (stage_of c.args.self.now.at) c.args.self.now.moves.items c.args.self.now.entries.items (labelled c.args.handle.now).name c.in-Some.at c.index_mut.result.now c.cut.new.entry
      (there c.deref-2.result.now c.args.self.now.entries.items c.as_str.result.now (labelled c.args.handle.now).name c.in-Some.at c.deref-2.ensures.value c.as_str.ensures.value
      c.in-Some.ensures.some) c.index_mut.ensures.value
      c.args.len c.cut.result c.cut.ensures.told;
}
