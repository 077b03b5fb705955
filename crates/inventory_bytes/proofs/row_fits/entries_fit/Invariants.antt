use Rattle.std.specs.List.{AllByRecursion}
use Rattle.inventory_bytes.proofs.row_fits.entries_fit.Given as goal

abbrev pub invariant-entries : goal.invariant-entries
invariant-entries g l =
    record {
      passed : AllByRecursion (λ e. g.K.Formed.form.Fits e.0 × g.R.FittingRow.spelled e.1) l.key-iterator
          → AllByRecursion (λ e. g.K.Formed.form.Fits e.0 × g.R.FittingRow.spelled e.1) l.map.entries;
      within : AllByRecursion (λ e. g.R.FittingRow.within e.1) l.key-iterator;
    }
