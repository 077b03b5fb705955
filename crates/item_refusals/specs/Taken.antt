-- A pool in which a copy lies already.
use Rattle.std.specs.Prelude.{ℕ, not, is_some, List}
use Rattle.kinds.specs.declared.refusal.Refusal.{Refusal}
use Rattle.inventory_rules.specs.inventory_rows.version_groups.declared.versions.Version.{Version}
use Rattle.inventory_rules.specs.inventory_rows.Search.{copy_in}
use Rattle.inventory_rules.specs.Journal.{Journal}
use Rattle.kinds.specs.Refusals.{unless}
use Rattle.inventory_rules.specs.Copies.{stale_copy}

-- a copy of the version lies in the pool
abbrev pub taken_refused : Journal → ℕ → ℕ → Version → List Refusal
taken_refused j object pool version = unless (not (is_some (copy_in pool version))) (stale_copy (j.copy_changed object pool) (copy_in pool version))
