use Rattle.std.proofs.Common.{List, ℕ, subst}
use Rattle.files_api.specs.Calls.{Reads}
use Rattle.mem_files.specs.Mem.{stage_of, labelled}
use Rattle.mem_files.proofs.Calls.{there, nowhere, read_none, read_here}
use Rattle.mem_files.proofs.mem.MemFilesFiles.read_at.Goals as goal

pub returns-in-Some-clause-bytes : goal.returns-in-Some-clause-bytes
returns-in-Some-clause-bytes c = read_here (stage_of c.args.self.now.at) c.args.self.now.moves.items c.args.self.now.entries.items (labelled c.args.handle.now).name c.in-Some.at c.index.result.now
    c.index.result.now
    (there c.deref-2.result.now c.args.self.now.entries.items c.as_str.result.now (labelled c.args.handle.now).name c.in-Some.at c.deref-2.ensures.value c.as_str.ensures.value c.in-Some.ensures.some)
    c.index.ensures
    c.args.offset c.copy_from.new.into c.copy_from.result (subst (λ (bytes : List ℕ). Reads bytes c.args.offset c.copy_from.new.into c.copy_from.result) c.bytes.ensures c.copy_from.ensures.reads)

pub returns-in-None-clause-bytes : goal.returns-in-None-clause-bytes
returns-in-None-clause-bytes c = read_none (stage_of c.args.self.now.at) c.args.self.now.moves.items c.args.self.now.entries.items (labelled c.args.handle.now).name
    (nowhere c.deref-2.result.now c.args.self.now.entries.items c.as_str.result.now (labelled c.args.handle.now).name c.deref-2.ensures.value c.as_str.ensures.value c.in-None.ensures.none)
    c.args.offset c.args.into.now
