use Rattle.std.proofs.Common.{◌≡◌, ◌-◌}
use Rattle.backup_payloads.specs.Increments.{behind_records}
use Rattle.backup_payloads.proofs.records.take_records.Given as goal

abbrev pub invariant-records : goal.invariant-records
invariant-records l = behind_records (l.count - l.counter) l.reader.rest ≡ behind_records l.count l.fn.reader.rest
