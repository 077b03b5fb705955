use Rattle.std.proofs.Common.{◌≡◌, ◌++◌, drop}
use Rattle.inventory_answers.specs.Clients.{version_line_at, lines_from, group_versions}
use Rattle.inventory_answers.proofs.clients.write_group.Given as goal

abbrev pub invariant-versions : goal.invariant-versions
invariant-versions l =
    l.lines.items ++ lines_from (version_line_at l.rule l.today l.path l.group) l.place (drop l.place l.group.versions) ≡ l.initial.lines.items ++ group_versions l.rule l.today l.path l.group
