-- Tables of rows under numbers: a table is the list of its rows in ascending order of numbers.
use Rattle.std.specs.Prelude.{ℕ, Bool, cond, nat_eq, Option, Some, None, Result, Ok, Err, List, [], ◌∷◌}
use Rattle.std.specs.Map.{lookup, set_value, remove_entry}
use Rattle.std.specs.BTreeMap.{insert_entry, is_at}
use Rattle.std.specs.Cmp.Lexicographic.{pointwise, slice_cmp}
use Rattle.std.specs.Ordering.{nat_cmp}
use Rattle.volume_rows.specs.kinds.Names.{is_same_name}
use Rattle.volume_rows.specs.kinds.declared.refusal.Refusal.{Refusal}
use Rattle.volume_rows.specs.kinds.declared.refusal.Refusal.TheVariants.{NotFound}

-- what stands under this name
abbrev pub named : {V : Type 0} → List ℕ → List (List ℕ × V) → Option V
named name rows = lookup (is_at (slice_cmp nat_cmp name)) rows

-- the row with this number
abbrev pub row_at : {V : Type 0} → ℕ → List (ℕ × V) → Option V
row_at number rows = lookup (is_at (nat_cmp number)) rows

-- the rows, with this one at its place
abbrev pub with_row : {V : Type 0} → ℕ → V → List (ℕ × V) → List (ℕ × V)
with_row number row rows = insert_entry nat_cmp rows number row

-- the rows, without the one with this number
abbrev pub without_row : {V : Type 0} → ℕ → List (ℕ × V) → List (ℕ × V)
without_row number rows = remove_entry (is_at (nat_cmp number)) rows

-- the rows, with this one in place of the one with its number
abbrev pub set_row : {V : Type 0} → ℕ → V → List (ℕ × V) → List (ℕ × V)
set_row number row rows = set_value (is_at (nat_cmp number)) rows row

abbrev pub edited : {V : Type 0} → ℕ → (V → V) → List (ℕ × V) → Option V → List (ℕ × V)
edited number edit rows None = rows
edited number edit rows (Some row) = set_row number (edit row) rows

-- the rows, with the one with this number edited, where it is there
abbrev pub edit_row : {V : Type 0} → ℕ → (V → V) → List (ℕ × V) → List (ℕ × V)
edit_row number edit rows = edited number edit rows (row_at number rows)

abbrev pub row_set : {V : Type 0} → ℕ → List (ℕ × V) → Result V Refusal → Result (List (ℕ × V)) Refusal
row_set number rows (Ok row) = Ok (set_row number row rows)
row_set number rows (Err e) = Err e

abbrev pub changed : {V : Type 0} → ℕ → (V → Result V Refusal) → List (ℕ × V) → Option V → Result (List (ℕ × V)) Refusal
changed number change rows None = Err NotFound
changed number change rows (Some row) = row_set number rows (change row)

-- the rows, with the one with this number changed, or the change's refusal; `NotFound` where there is none
abbrev pub change_row : {V : Type 0} → ℕ → (V → Result V Refusal) → List (ℕ × V) → Result (List (ℕ × V)) Refusal
change_row number change rows = changed number change rows (row_at number rows)

-- the least number of a row that passes
abbrev pub number_where : {V : Type 0} → (V → Bool) → List (ℕ × V) → Option ℕ
number_where test [] = None
number_where test (e ∷ rows) = cond (test e.1) (Some e.0) (number_where test rows)
