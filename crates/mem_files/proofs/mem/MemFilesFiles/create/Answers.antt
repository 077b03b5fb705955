use Rattle.std.proofs.Common.{inl, refl}
use Rattle.mem_files.specs.Mem.{stage_of}
use Rattle.mem_files.proofs.Calls.{nowhere, made, same_folder}
use Rattle.mem_files.proofs.mem.MemFilesFiles.create.Goals as goal

pub returns-in-Ok-place-clause-told : goal.returns-in-Ok-place-clause-told
returns-in-Ok-place-clause-told c = λ held. made (stage_of c.args.self.now.at) c.args.self.now.moves.items c.args.self.now.entries.items c.place.new.entries.items c.put.new.entries.items
    c.args.name.now c.in-Ok-place.at c.empty.result
    (nowhere c.deref-2.result.now c.args.self.now.entries.items c.args.name.now c.args.name.now c.deref-2.ensures.value refl c.in-None.ensures.none) c.place.ensures.same c.in-Ok-place.ensures.first
    c.empty.ensures c.put.ensures.puts

pub returns-in-Err-place-clause-told : goal.returns-in-Err-place-clause-told
returns-in-Err-place-clause-told c = λ held. inl (same_folder (stage_of c.args.self.now.at) c.args.self.now.moves.items c.args.self.now.entries.items c.place.new.entries.items c.place.ensures.same)
