use Rattle.std.proofs.Common.{sym, ◌∙◌}
use Rattle.mem_store.proofs.Told.{reads_now}
use Rattle.mem_store.proofs.mem.MemStore.bytes.Goals as goal

pub returns : goal.returns
returns c =
    let m = c.args.self.now in c.bytes.ensures ∙ sym (reads_now m.files m.entries.items m.idles c.args.file m.agrees)
