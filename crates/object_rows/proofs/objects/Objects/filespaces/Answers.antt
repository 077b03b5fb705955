use Rattle.std.proofs.Common.{subst}
use Rattle.object_rows.specs.Rows.{IsSound}
use Rattle.object_rows.proofs.Full.{full_from}
use Rattle.object_rows.proofs.KeptLaws.{kept-distinct}
use Rattle.object_rows.proofs.Stands.{distinct-listed}
use Rattle.object_rows.proofs.objects.Objects.filespaces.Goals as goal

pub returns-clause-sound : goal.returns-clause-sound
returns-clause-sound c =
    subst IsSound c.self.view_is
    (record {
      names = c.self.invariant.0.index.distinct;
      spaces = λ node. (c.self.invariant.3.index node).distinct;
      objects = kept-distinct (record { nodes = c.self.inside.nodes.entries; filespaces = c.self.inside.filespaces.entries; held = c.self.inside.held }) c.self.invariant.4 c.self.invariant.5
          (distinct-listed c.self.inside.filespaces.entries c.self.invariant.1.index.distinct);
      full = full_from c.self.inside.filespaces.entries c.self.invariant.1.orderly;
      held = c.self.invariant.4.numbered;
    })
