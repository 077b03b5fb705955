-- What a name or a number leads to.
use Rattle.std.specs.Prelude.{ℕ, ◌==◌, List, [], ◌∷◌, Bool, true, Option, Some, None, option_and_then, Result, Ok}
use Rattle.std.specs.Map.{lookup}
use Rattle.std.specs.Option.{option_map, option_map_or}
use Rattle.kinds.specs.declared.refusal.Refusal.{Refusal}
use Rattle.inventory_work.specs.inventory_rows.policy_domains.Rows.{SetRow, DomainRow, row_of}
use Rattle.inventory_work.specs.inventory_rows.version_groups.Entries.{if_found}
use Rattle.inventory_work.specs.inventory_rows.object_rows.Filespaces.{at_number}
use Rattle.inventory_work.specs.inventory_rows.object_rows.Names.{node_named}
use Rattle.inventory_work.specs.inventory_rows.object_rows.Rows.{Rows}
use Rattle.inventory_work.specs.inventory_rows.pool_tables.Rows.{row_at}
use Rattle.inventory_work.specs.inventory_rows.pool_rows.PoolRows.{PoolRows, pool_named, volume_named}

-- the set of a domain, where both are there
abbrev pub set_row : List ℕ → List ℕ → List (List ℕ × DomainRow) → Result SetRow Refusal
set_row domain set domains = if_found (row_of domain domains) (λ row. if_found (row_of set row.sets) Ok)

-- the name of the pool with this number
abbrev pub name_of_pool : ℕ → PoolRows → Option (List ℕ)
name_of_pool pool s = option_map (λ p. p.name) (row_at pool s.pools)

-- the name of the next pool, where there is one
abbrev pub next_name : Option ℕ → PoolRows → Option (List ℕ)
next_name next s = option_and_then (λ pool. name_of_pool pool s) next

-- the name of the node with this number
abbrev pub name_of_node : ℕ → Rows → Option (List ℕ)
name_of_node node rows = option_map (λ n. n.name) (lookup (at_number node) rows.nodes)

-- the number under a name that is asked for, which has to be there; none where no name is
abbrev pub asked : (List ℕ → Option ℕ) → Option (List ℕ) → Result (Option ℕ) Refusal
asked find None = Ok None
asked find (Some name) = if_found (find name) (λ number. Ok (Some number))

abbrev pub node_asked : Option (List ℕ) → Rows → Result (Option ℕ) Refusal
node_asked name rows = asked (λ n. node_named n rows.nodes) name

abbrev pub pool_asked : Option (List ℕ) → PoolRows → Result (Option ℕ) Refusal
pool_asked name s = asked (λ n. pool_named n s) name

abbrev pub volume_asked : Option (List ℕ) → PoolRows → Result (Option ℕ) Refusal
volume_asked name s = asked (λ n. volume_named n s) name

-- all rows, or the one with the number that is asked for
abbrev pub chosen : {V : Type 0} → Option ℕ → List (ℕ × V) → List (ℕ × V)
chosen None rows = rows
chosen (Some number) rows = option_map_or (λ row. (number, row) ∷ []) (row_at number rows) []

-- it is the number that is asked for, where one is
abbrev pub is_asked : Option ℕ → ℕ → Bool
is_asked None number = true
is_asked (Some n) number = number == n
