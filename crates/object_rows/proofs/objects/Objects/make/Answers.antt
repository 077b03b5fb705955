use Rattle.object_rows.proofs.Apart.{apart_places}
use Rattle.object_rows.proofs.objects.Objects.make.Goals as goal

pub invariant_of-self-in-Filespace-Define-default-default-default : goal.invariant_of-self-in-Filespace-Define-default-default-default
invariant_of-self-in-Filespace-Define-default-default-default c = (
  c.self.invariant.0,
  c.define-in-Filespace-Define-default-default-default.ensures.indexed,
  c.define-in-Filespace-Define-default-default-default.ensures.counted c.self.inside.tally c.self.invariant.2,
  c.define-in-Filespace-Define-default-default-default.ensures.named,
  c.self.invariant.4,
  apart_places c.self.inside.places.entries c.self.inside.filespaces.entries c.define-in-Filespace-Define-default-default-default.new.filespaces.entries c.self.inside.held c.self.invariant.1 c.define-in-Filespace-Define-default-default-default.ensures.indexed c.self.invariant.5,
)

pub invariant_of-self-in-Filespace-Delete-default-default-default : goal.invariant_of-self-in-Filespace-Delete-default-default-default
invariant_of-self-in-Filespace-Delete-default-default-default c = (
  c.self.invariant.0,
  c.delete-in-Filespace-Delete-default-default-default.ensures.indexed,
  c.delete-in-Filespace-Delete-default-default-default.ensures.counted c.self.inside.tally c.self.invariant.2,
  c.delete-in-Filespace-Delete-default-default-default.ensures.named,
  c.self.invariant.4,
  apart_places c.self.inside.places.entries c.self.inside.filespaces.entries c.delete-in-Filespace-Delete-default-default-default.new.filespaces.entries c.self.inside.held c.self.invariant.1 c.delete-in-Filespace-Delete-default-default-default.ensures.indexed c.self.invariant.5,
)
