use Rattle.std.proofs.Common.{ℕ, ◌+◌, List, length, cond, Option, subst, ap, ◌∙◌}
use Rattle.std.specs.Option.{is_some}
use Rattle.object_rows.specs.SpaceNames.{NamePut}
use Rattle.object_rows.proofs.space_names.SpaceNames.put.Goals as goal

pub returns-clause-put : goal.returns-clause-put
returns-clause-put c =
    subst (λ (old : List (List ℕ × ℕ)). NamePut c.args.name c.args.number old c.insert.new.self.entries) c.self.view_is
    (record {
      found = λ q. c.in_ok-insert.ensures.updates.0 q;
      count = c.in_ok-insert.ensures.len ∙ ap (λ (o : Option ℕ). length c.self.inside.map.entries + cond (is_some o) 0 1) c.in_ok-insert.ensures.old;
    })
