use Rattle.std.proofs.Common.{◌∙◌, [], ap, length, subst}
use Rattle.inventory_rows.specs.Search.{versions}
use Rattle.inventory_rows.specs.State.{inv_of}
use Rattle.inventory_rows.proofs.of_version_groups.Lists.{version_of-object}
use Rattle.machine.specs.Causes.{read_refused}
use Rattle.machine.specs.Pieces.{RoseAt}
use Rattle.hall.specs.Held.{Held}
use Rattle.hall.specs.Reading.{EndsRead, seen_by_all}
use Rattle.hall.proofs.PieceReads.{found_own, object_ends}
use Rattle.hall.proofs.parts.Parts.read.Goals as goal

pub read_version-requires-clause-there : goal.read_version-requires-clause-there
read_version-requires-clause-there g c =
    found_own c.args.self.now.vault.database (inv_of c.tables-tables.result.now) c.args.object c.in-Ok.version.now
    (c.tables-tables.ensures.value ∙ c.database.ensures ∙ ap (λ (h : Held). h.vault.database) c.self.view_is) c.in-Ok.ensures.found

pub returns-in-Ok-clause-ends : goal.returns-in-Ok-clause-ends
returns-in-Ok-clause-ends g c =
    let v = c.args.self.now.vault.database in
    let rose = RoseAt (g.S.Store.faults_of c.args.store.now) (g.S.Store.faults_of c.read_version.new.store) in
    object_ends rose (read_refused c.args.object c.args.kept.now c.args.from c.args.offset (length c.args.into.now) (seen_by_all c.args.self.now)) v c.args.object c.in-Ok.version.now.object c.args.from
    c.args.offset (length c.args.into.now) c.read_version.result c.in-Ok.ensures.free (version_of-object c.args.object (versions v) c.in-Ok.version.now c.in-Ok.ensures.found)
    (subst (λ x. EndsRead rose [] x c.in-Ok.version.now.object c.args.from c.args.offset (length c.args.into.now) c.read_version.result)
    (c.tables-tables.ensures.value ∙ c.database.ensures ∙ ap (λ (h : Held). h.vault.database) c.self.view_is) c.read_version.ensures.ends)
