use Rattle.std.proofs.Common.{sym, ap, ◌∙◌}
use Rattle.std.proofs.lemmas.Map.Steps.{set_value_same}
use Rattle.std.specs.Map.{set_value}
use Rattle.object_rows.specs.Filespaces.{at_number}
use Rattle.object_rows.proofs.NamedSpaces.{kept_so}
use Rattle.object_rows.proofs.space_names.put_at.Goals as goal

pub returns-in-Some-clause-kept : goal.returns-in-Some-clause-kept
returns-in-Some-clause-kept c =
    kept_so c.put.result c.in-Some.names.now c.put.new.self c.args.spaces.now.entries (c.get_mut.follows.lender c.put.new.self).entries
    (λ same. (c.get_mut.follows.holds c.put.new.self).0 ∙ ap (set_value (at_number c.args.node) c.args.spaces.now.entries) same ∙ set_value_same (at_number c.args.node) c.args.spaces.now.entries c.in-Some.names.now (sym c.in-Some.ensures.value))
    c.put.ensures.kept
