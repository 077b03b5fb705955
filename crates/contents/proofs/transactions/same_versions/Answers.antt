use Rattle.std.proofs.Common.{List, subst, sym}
use Rattle.inventory_laws.specs.inventory_rows.version_groups.declared.versions.Version.{Version}
use Rattle.contents.specs.Contents.{HaveAll, InImage, InStore}
use Rattle.contents.proofs.transactions.same_versions.Goals as goal

pub returns-clause-kept : goal.returns-clause-kept
returns-clause-kept c contents h v w same kept = subst (λ (l : List Version). HaveAll (InStore h) contents l) (sym same) kept

pub returns-clause-held : goal.returns-clause-held
returns-clause-held c contents image v w same held = subst (λ (l : List Version). HaveAll (InImage image) contents l) (sym same) held
