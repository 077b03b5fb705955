use Rattle.std.proofs.Common.{ℕ, ◌+◌, List, length, cond, Option, sym, subst, ap, ◌∙◌}
use Rattle.std.specs.Option.{is_some}
use Rattle.object_rows.specs.SpaceNames.{NameTaken}
use Rattle.object_rows.proofs.space_names.SpaceNames.take.Goals as goal

pub returns : goal.returns
returns c =
    subst (λ (old : List (List ℕ × ℕ)). NameTaken c.args.name.now old c.remove.new.self.entries) c.self.view_is
    (record {
      found = λ q. c.remove.ensures.updates.0 q;
      count = ap (λ (o : Option ℕ). length c.remove.new.self.entries + cond (is_some o) 1 0) (sym c.remove.ensures.value) ∙ c.remove.ensures.len;
    })
