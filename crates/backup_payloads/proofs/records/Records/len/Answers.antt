use Rattle.std.proofs.Common.{sym, ap, ◌∙◌, length, List, ℕ}
use Rattle.backup_payloads.proofs.Reading.{length_records}
use Rattle.backup_payloads.proofs.records.Records.len.Goals as goal

pub returns : goal.returns
returns c = sym (length_records c.self.inside.count c.self.inside.bytes.now c.self.invariant) ∙ ap (λ (all : List (List ℕ)). length all) c.self.view_is
