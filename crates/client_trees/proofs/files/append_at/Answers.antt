use Rattle.std.proofs.Common.{ap, sym, ◌∙◌}
use Rattle.std.proofs.lemmas.Map.Steps.{set_value_same}
use Rattle.std.specs.BTreeMap.{is_at}
use Rattle.std.specs.Cmp.Lexicographic.{slice_cmp}
use Rattle.std.specs.Map.{set_value}
use Rattle.std.specs.Ordering.{nat_cmp}
use Rattle.client_trees.proofs.files.append_at.Goals as goal

pub returns-in-Err-clause-kept : goal.returns-in-Err-clause-kept
returns-in-Err-clause-kept c =
    (c.get_mut.follows.holds c.append.new.self).0
    ∙ ap (set_value (is_at (slice_cmp nat_cmp c.args.path.now)) c.args.files.now.entries) c.in-Err.ensures.kept
    ∙ set_value_same (is_at (slice_cmp nat_cmp c.args.path.now)) c.args.files.now.entries c.in-Some.file.now (sym c.in-Some.ensures.value)
