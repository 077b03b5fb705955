use Rattle.std.proofs.Common.{refl}
use Rattle.mem_files.proofs.Calls.{there, nowhere, missing, is_here}
use Rattle.mem_files.proofs.mem.MemFilesFiles.open.Goals as goal

pub returns-in-None-clause-found : goal.returns-in-None-clause-found
returns-in-None-clause-found c = λ held. missing c.args.self.now.entries.items c.args.name.now
    (nowhere c.deref-2.result.now c.args.self.now.entries.items c.args.name.now c.args.name.now c.deref-2.ensures.value refl c.in-None.ensures.none)

pub returns-in-Ok-clause-found : goal.returns-in-Ok-clause-found
returns-in-Ok-clause-found c = λ held. (
  is_here c.args.self.now.entries.items c.args.name.now c.in-Some.field-0
      (there c.deref-2.result.now c.args.self.now.entries.items c.args.name.now c.args.name.now c.in-Some.field-0 c.deref-2.ensures.value refl c.in-Some.ensures.some),
  c.in-Ok.ensures,
)
