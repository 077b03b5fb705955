use Rattle.version_groups.specs.declared.group.GroupChange.TheVariants.{Gone}
use Rattle.object_rows.specs.Filespaces.{filespaces_after}
use Rattle.object_rows.proofs.Answered.{made}
use Rattle.object_rows.proofs.Apart.{apart_places}
use Rattle.object_rows.proofs.NamedSpaces.{spaces_after}
use Rattle.object_rows.proofs.objects.Objects.mark_gone.Goals as goal

pub invariant_of-self : goal.invariant_of-self
invariant_of-self c = (
  c.self.invariant.0,
  c.retire.ensures.indexed,
  c.retire.ensures.counted c.self.inside.tally c.self.invariant.2,
  spaces_after c.self.inside.spaces.entries c.args.filespace c.args.path.now (Gone c.args.object c.args.today) c.self.inside.filespaces.entries c.retire.new.filespaces.entries
      (made c.retire.result c.self.inside.filespaces.entries c.retire.new.filespaces.entries (filespaces_after c.args.filespace c.args.path.now (Gone c.args.object c.args.today) c.self.inside.filespaces.entries) c.retire.ensures.value) c.self.invariant.3,
  c.self.invariant.4,
  apart_places c.self.inside.places.entries c.self.inside.filespaces.entries c.retire.new.filespaces.entries c.self.inside.held c.self.invariant.1 c.retire.ensures.indexed c.self.invariant.5,
)
