use Rattle.std.proofs.Common.{refl}
use Rattle.mem_files.specs.Mem.{stage_of}
use Rattle.mem_files.proofs.Calls.{there}
use Rattle.mem_files.proofs.Moving.{removed}
use Rattle.mem_files.proofs.mem.MemFiles.remove_file.Goals as goal

pub returns-in-Ok : goal.returns-in-Ok
returns-in-Ok c =
    λ held. removed (stage_of c.args.self.now.at) c.args.self.now.moves.items c.remove.new.moves.items c.args.self.now.entries.items c.remove.new.entries.items c.args.name.now c.in-Some.at
    (there c.deref.result.now c.args.self.now.entries.items c.args.name.now c.args.name.now c.in-Some.at c.deref.ensures.value refl c.in-Some.ensures.some) c.in-Ok.ensures.done
