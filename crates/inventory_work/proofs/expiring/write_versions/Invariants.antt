use Rattle.std.proofs.Common.{◌≡◌, ◌++◌, drop}
use Rattle.inventory_work.specs.Lists.{flat_from}
use Rattle.inventory_work.specs.Expiring.{unretained_lines}
use Rattle.inventory_work.proofs.expiring.write_versions.Given as goal

abbrev pub invariant-versions : goal.invariant-versions
invariant-versions l =
    l.lines.items ++ flat_from (unretained_lines l.filespace l.path l.rule l.active l.today) l.place (drop l.place l.versions)
    ≡ l.fn.lines.items ++ flat_from (unretained_lines l.filespace l.path l.rule l.active l.today) 0 l.versions
