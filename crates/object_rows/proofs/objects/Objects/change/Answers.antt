use Rattle.std.proofs.Common.{sym, ◌∙◌}
use Rattle.object_rows.proofs.Made.{changes_refused}
use Rattle.object_rows.proofs.objects.Objects.change.Goals as goal

pub make-requires-clause-fine : goal.make-requires-clause-fine
make-requires-clause-fine c = sym (c.refusal.ensures c.args.number) ∙ c.in-None.is

pub returns-in-Some : goal.returns-in-Some
returns-in-Some c = changes_refused _ c.args.change.now _ c.args.self.now _ (sym c.in-Some.is ∙ c.refusal.ensures c.args.number)
