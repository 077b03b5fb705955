use Rattle.std.proofs.Common.{inr}
use Rattle.version_groups.specs.declared.group.GroupChange.TheVariants.{Undo}
use Rattle.object_rows.proofs.Apart.{apart_after}
use Rattle.object_rows.proofs.NamedSpaces.{spaces_after}
use Rattle.object_rows.proofs.objects.Objects.undo_insert.Goals as goal

pub invariant_of-self : goal.invariant_of-self
invariant_of-self c = (
  c.self.invariant.0,
  c.undo.ensures.indexed,
  c.undo.ensures.counted,
  spaces_after c.self.inside.spaces.entries c.args.filespace c.args.path.now (Undo c.args.class c.args.active) c.self.inside.filespaces.entries c.undo.new.filespaces.entries (inr c.undo.ensures.value) c.self.invariant.3,
  c.self.invariant.4,
  apart_after c.args.filespace c.args.path.now (Undo c.args.class c.args.active) c.self.inside.filespaces.entries c.undo.new.filespaces.entries c.self.inside.held (inr c.undo.ensures.value) c.self.invariant.5,
)
