use Rattle.std.proofs.Common.{◌∙◌, sym, ap, length}
use Rattle.files_api.specs.Folder.{File}
use Rattle.mem_files.specs.Mem.{stage_of, labelled}
use Rattle.mem_files.proofs.Calls.{there, nowhere, nothing, file_is}
use Rattle.mem_files.proofs.mem.MemFilesFiles.len.Goals as goal

pub returns-in-Some-clause-length : goal.returns-in-Some-clause-length
returns-in-Some-clause-length c = λ usable.
    ap length c.bytes.ensures
    ∙ sym (ap (λ (file : File). length file.standing.bytes) (file_is (stage_of c.args.self.now.at) c.args.self.now.moves.items c.args.self.now.entries.items (labelled c.args.handle.now).name
    c.in-Some.at c.index.result.now c.index.result.now
    (there c.deref-2.result.now c.args.self.now.entries.items c.as_str.result.now (labelled c.args.handle.now).name c.in-Some.at c.deref-2.ensures.value c.as_str.ensures.value c.in-Some.ensures.some)
    c.index.ensures))

pub returns-in-None-clause-length : goal.returns-in-None-clause-length
returns-in-None-clause-length c = λ usable. ap length (sym (nothing c.args.self.now.entries.items (labelled c.args.handle.now).name
    (nowhere c.deref-2.result.now c.args.self.now.entries.items c.as_str.result.now (labelled c.args.handle.now).name c.deref-2.ensures.value c.as_str.ensures.value c.in-None.ensures.none)))
