use Rattle.std.specs.Map.{lookup}
use Rattle.object_rows.specs.Filespaces.{at_number}
use Rattle.object_rows.specs.Places.{listed}
use Rattle.object_rows.specs.Rows.{filespaces_cleared}
use Rattle.object_rows.proofs.Answered.{made}
use Rattle.object_rows.proofs.Apart.{apart_cleared, apart_taken}
use Rattle.object_rows.proofs.NamedSpaces.{spaces_cleared}
use Rattle.object_rows.proofs.objects.Objects.discard.Goals as goal

pub invariant_of-self : goal.invariant_of-self
invariant_of-self c = (
  c.self.invariant.0,
  c.self.invariant.1,
  c.self.invariant.2,
  c.self.invariant.3,
  c.take.ensures.held,
  apart_taken c.args.object c.self.inside.filespaces.entries c.self.inside.held c.take.new.self c.take.ensures.value c.self.invariant.5,
)

pub invariant_of-self-2 : goal.invariant_of-self-2
invariant_of-self-2 c = (
  c.self.invariant.0,
  c.discard.ensures.indexed,
  c.discard.ensures.counted,
  spaces_cleared c.self.inside.spaces.entries c.args.object (lookup (at_number c.args.object) (listed c.self.inside.filespaces.entries)) c.self.inside.filespaces.entries c.discard.new.filespaces.entries
      (made c.discard.result c.self.inside.filespaces.entries c.discard.new.filespaces.entries (filespaces_cleared c.args.object (lookup (at_number c.args.object) (listed c.self.inside.filespaces.entries)) c.self.inside.filespaces.entries) c.discard.ensures.value) c.self.invariant.3,
  c.self.invariant.4,
  apart_cleared c.args.object (lookup (at_number c.args.object) (listed c.self.inside.filespaces.entries)) c.self.inside.filespaces.entries c.discard.new.filespaces.entries c.self.inside.held
      (made c.discard.result c.self.inside.filespaces.entries c.discard.new.filespaces.entries (filespaces_cleared c.args.object (lookup (at_number c.args.object) (listed c.self.inside.filespaces.entries)) c.self.inside.filespaces.entries) c.discard.ensures.value) c.self.invariant.5,
)
