use Rattle.backup_payloads.proofs.Encoding.{grown}
use Rattle.backup_payloads.proofs.encode.put_entries.Goals as goal

pub entries-preserved : goal.entries-preserved
entries-preserved c =
    let more = grown c.args.made.now c.entries.one-index c.one-item.result c.args.out.now.items c.entries.out.items c.put_entry.new.out.items c.entries-test.true c.one-item.is c.entries.invariant.put c.entries.invariant.short c.in-Ok.ensures.put c.in-Ok.ensures.short in
    record { put = more.0; short = more.1 }
