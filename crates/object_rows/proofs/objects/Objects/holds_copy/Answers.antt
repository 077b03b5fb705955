use Rattle.std.proofs.Common.{◌||◌, sym, ap, ◌∙◌}
use Rattle.object_rows.specs.Held.{held_hold, holds_copy}
use Rattle.object_rows.proofs.HeldCopies.{kept}
use Rattle.object_rows.proofs.objects.Objects.holds_copy.Goals as goal

pub returns-then-holds_copy : goal.returns-then-holds_copy
returns-then-holds_copy c =
    c.if-holds_copy.true
    ∙ sym (ap (λ b. b || held_hold c.args.pool c.self.inside.held) (sym c.holds_copy.ensures ∙ c.if-holds_copy.true))
    ∙ kept c.args.pool (record { nodes = c.self.inside.nodes.entries; filespaces = c.self.inside.filespaces.entries; held = c.self.inside.held })
    ∙ ap (holds_copy c.args.pool) c.self.view_is

pub returns-else-holds_copy : goal.returns-else-holds_copy
returns-else-holds_copy c =
    c.holds_copy-else-holds_copy.ensures
    ∙ sym (ap (λ b. b || held_hold c.args.pool c.self.inside.held) (sym c.holds_copy.ensures ∙ c.if-holds_copy.false))
    ∙ kept c.args.pool (record { nodes = c.self.inside.nodes.entries; filespaces = c.self.inside.filespaces.entries; held = c.self.inside.held })
    ∙ ap (holds_copy c.args.pool) c.self.view_is
