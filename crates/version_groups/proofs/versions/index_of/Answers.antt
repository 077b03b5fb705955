use Rattle.version_groups.proofs.Lists.{version_of-here, version_of-further, version_of-end}
use Rattle.version_groups.proofs.versions.index_of.Goals as goal

pub versions-preserved : goal.versions-preserved
versions-preserved c = version_of-further _ _ _ c.index-versions-i.result c.versions-test.true c.if-versions-i.false c.versions.invariant

pub returns-then-versions-i-clause-found : goal.returns-then-versions-i-clause-found
returns-then-versions-i-clause-found c = version_of-here _ _ _ c.index-versions-i.result c.versions-test.true c.if-versions-i.true c.versions.invariant

pub returns-clause-none : goal.returns-clause-none
returns-clause-none c = version_of-end _ _ _ c.versions-test.false c.versions.invariant
