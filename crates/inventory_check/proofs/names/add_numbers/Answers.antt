use Rattle.std.proofs.Common.{ℕ, List, subst, sym, ◌∙◌}
use Rattle.std.specs.Cmp.{nat_cmp_total}
use Rattle.std.specs.Map.{lookup}
use Rattle.std.specs.Ordering.{nat_cmp}
use Rattle.inventory_rows.specs.object_rows.Filespaces.{at_number}
use Rattle.inventory_rows.proofs.of_object_rows.Builds.{Progress, step_one, stop_one}
use Rattle.inventory_rows.proofs.of_object_rows.Kept.{none_from}
use Rattle.inventory_rows.specs.declared.backup.Backup.{Backup}
use Rattle.inventory_check.specs.Rows.{numbered}
use Rattle.inventory_check.proofs.names.add_numbers.Goals as goal

pub returns-then-contains_key : goal.returns-then-contains_key
returns-then-contains_key c =
    stop_one nat_cmp_total (c.in-Some.backup.now.number, c.in-Some.file.now) c.args.numbers.now.entries c.backups.numbers.entries (numbered c.args.backups.now.entries) (numbered c.next.new.self)
    (subst (λ (left : List (ℕ × Backup)). Progress nat_cmp c.args.numbers.now.entries c.backups.numbers.entries (numbered c.args.backups.now.entries) (numbered left)) c.in-Some.ensures.steps c.backups.invariant)
    (sym c.contains_key.ensures ∙ c.if-contains_key.true)

pub backups-preserved : goal.backups-preserved
backups-preserved c =
    step_one nat_cmp_total (c.in-Some.backup.now.number, c.in-Some.file.now) c.args.numbers.now.entries c.backups.numbers.entries c.insert.new.self.entries (numbered c.args.backups.now.entries) (numbered c.next.new.self)
    (subst (λ (left : List (ℕ × Backup)). Progress nat_cmp c.args.numbers.now.entries c.backups.numbers.entries (numbered c.args.backups.now.entries) (numbered left)) c.in-Some.ensures.steps c.backups.invariant)
    (none_from (lookup (at_number c.in-Some.backup.now.number) c.backups.numbers.entries) (sym c.contains_key.ensures ∙ c.if-contains_key.false))
    c.in_ok-insert.ensures.updates.0
    c.in_ok-insert.field-0 c.in_ok-insert.ensures.old c.in_ok-insert.ensures.len
