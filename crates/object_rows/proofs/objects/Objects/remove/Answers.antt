use Rattle.version_groups.specs.declared.group.GroupChange.TheVariants.{Remove}
use Rattle.object_rows.specs.Filespaces.{filespaces_after}
use Rattle.object_rows.proofs.Answered.{made}
use Rattle.object_rows.proofs.Apart.{apart_after, apart_taken}
use Rattle.object_rows.proofs.NamedSpaces.{spaces_after}
use Rattle.object_rows.proofs.objects.Objects.remove.Goals as goal

pub invariant_of-self : goal.invariant_of-self
invariant_of-self c = (
  c.self.invariant.0,
  c.self.invariant.1,
  c.self.invariant.2,
  c.self.invariant.3,
  c.take.ensures.held,
  apart_taken c.args.object c.self.inside.filespaces.entries c.self.inside.held c.take.new.self c.take.ensures.value c.self.invariant.5,
)

pub invariant_of-self-2 : goal.invariant_of-self-2
invariant_of-self-2 c = (
  c.self.invariant.0,
  c.remove.ensures.indexed,
  c.remove.ensures.counted,
  spaces_after c.self.inside.spaces.entries c.args.filespace c.args.path.now (Remove c.args.object) c.self.inside.filespaces.entries c.remove.new.filespaces.entries
      (made c.remove.result c.self.inside.filespaces.entries c.remove.new.filespaces.entries (filespaces_after c.args.filespace c.args.path.now (Remove c.args.object) c.self.inside.filespaces.entries) c.remove.ensures.value) c.self.invariant.3,
  c.self.invariant.4,
  apart_after c.args.filespace c.args.path.now (Remove c.args.object) c.self.inside.filespaces.entries c.remove.new.filespaces.entries c.self.inside.held
      (made c.remove.result c.self.inside.filespaces.entries c.remove.new.filespaces.entries (filespaces_after c.args.filespace c.args.path.now (Remove c.args.object) c.self.inside.filespaces.entries) c.remove.ensures.value) c.self.invariant.5,
)
