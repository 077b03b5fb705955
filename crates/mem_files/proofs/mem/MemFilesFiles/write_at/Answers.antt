use Rattle.std.proofs.Common.{refl, take}
use Rattle.mem_files.specs.Mem.{stage_of, labelled}
use Rattle.mem_files.proofs.Calls.{there, wrote}
use Rattle.mem_files.proofs.mem.MemFilesFiles.write_at.Goals as goal

pub returns-in-Some-clause-told : goal.returns-in-Some-clause-told
returns-in-Some-clause-told c = wrote (stage_of c.args.self.now.at) c.args.self.now.moves.items c.args.self.now.entries.items (labelled c.args.handle.now).name c.in-Some.at c.index_mut.result.now
    c.write.new.entry
    (there c.deref-2.result.now c.args.self.now.entries.items c.as_str.result.now (labelled c.args.handle.now).name c.in-Some.at c.deref-2.ensures.value c.as_str.ensures.value c.in-Some.ensures.some)
    c.index_mut.ensures.value
    c.args.offset c.min-count.result c.args.bytes.now (take c.min-count.result c.args.bytes.now) c.write.result refl c.write.ensures.bound c.write.ensures.told
