-- Names of rows: each row's is its own, and an index leads from it to the row's number.
use Rattle.std.specs.Prelude.{◌≡◌, ℕ, Bool, true, is_none, ◌&&◌, Option, List, [], ◌∷◌}
use Rattle.pool_tables.specs.declared.pool.Pool.{Pool}
use Rattle.volume_rows.specs.kinds.Names.{is_same_name}
use Rattle.pool_tables.specs.Rows.{named, number_where}

abbrev pub pool_name : Pool → List ℕ
pool_name pool = pool.name

-- the least number of a row with this name
abbrev pub row_named : {V : Type 0} → (V → List ℕ) → List ℕ → List (ℕ × V) → Option ℕ
row_named name_of name rows = number_where (λ row. is_same_name (name_of row) name) rows

-- no row has the name of another
abbrev pub are_apart : {V : Type 0} → (V → List ℕ) → List (ℕ × V) → Bool
are_apart name_of [] = true
are_apart name_of (e ∷ rows) = is_none (row_named name_of (name_of e.1) rows) && are_apart name_of rows

-- under each name that a row has the names have that row's number, and under no other name any
pub record IsIndex {V : Type 0} (name_of : V → List ℕ) (names : List (List ℕ × ℕ)) (rows : List (ℕ × V)) : Type 0 where
  pub finds : (name : List ℕ) → named name names ≡ row_named name_of name rows
  pub apart : are_apart name_of rows ≡ true
