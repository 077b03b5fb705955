use Rattle.std.proofs.Common.{[], List, Option, subst}
use Rattle.std.specs.Bool.{IsTrue}
use Rattle.std.specs.Option.{option_map_or}
use Rattle.version_groups.specs.Copies.{takes_free_pool, Alters}
use Rattle.version_groups.specs.declared.versions.Version.{Version}
use Rattle.version_groups.proofs.Altered.{altered-place, altered-missing}
use Rattle.version_groups.proofs.versions.alter.Goals as goal

pub alter_at-requires-clause-free : goal.alter_at-requires-clause-free
alter_at-requires-clause-free c = subst (λ (o : Option Version). IsTrue (takes_free_pool c.args.change (option_map_or (λ (v : Version). v.copies) o []))) c.in-Some.ensures.found c.requires.free

pub returns-in-None : goal.returns-in-None
returns-in-None c = altered-missing _ c.args.object c.args.change c.args.versions.now c.in-None.ensures.none

pub returns-in-Some : goal.returns-in-Some
returns-in-Some c =
    subst (Alters c.args.change c.alter_at.result c.args.versions.now c.alter_at.new.versions)
    (altered-place c.args.object c.args.change c.args.versions.now c.in-Some.i c.requires.distinct c.in-Some.ensures.within c.in-Some.ensures.found)
    c.alter_at.ensures
