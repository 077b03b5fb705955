use Rattle.std.proofs.Common.{nat_le, ℕ, ◌&&◌, sym, ◌∙◌}
use Rattle.std.specs.Prelude.{nat_lt}
use Rattle.std.proofs.lemmas.List.Folds.{list_all-map}
use Rattle.inventory_rows.specs.version_groups.declared.versions.Version.{Version}
use Rattle.inventory_rows.specs.Search.{versions}
use Rattle.inventory_rows.specs.State.{inv_of}
use Rattle.inventory_check.proofs.versions.objects_drawn.Goals as goal

pub returns : goal.returns
returns c =
    c.all_versions.ensures
    ∙ sym (list_all-map (λ (n : ℕ). nat_le 1 n && nat_lt n c.args.tables.now.next_object) (λ (version : Version). version.object) (versions (inv_of c.args.tables.now)))
