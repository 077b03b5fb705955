-- What the rules of all groups of changes are made of.
use Rattle.std.specs.List.{list_all}
use Rattle.std.specs.Prelude.{ℕ, ◌+◌, nat_lt, List, ◌-◌, ◌^◌, max, Bool, ◌&&◌, nat_le, is_none, not, ◌==◌, Result, Ok, Err, [], ◌∷◌, ⊤, true, false}
use Rattle.kinds.specs.Refusals.{unless, bad_value}
use Rattle.kinds.specs.declared.refusal.Refusal.{Refusal}
use Rattle.kinds.specs.declared.refusal.Refusal.TheVariants as refusal
use Rattle.inventory_rows.specs.version_groups.Entries.{all_later}
use Rattle.inventory_rows.specs.version_groups.declared.groups.Filespace.{Filespace}
use Rattle.inventory_rows.specs.pool_tables.Rows.{row_at}
use Rattle.inventory_rows.specs.pool_rows.PoolRows.{PoolRows}
use Rattle.inventory_rows.specs.object_rows.Rows.{Rows}
use Rattle.inventory_rows.specs.State.{Inv}

-- ---- refusals

-- the next number would reach its bound
abbrev pub full_at : ℕ → ℕ → List Refusal
full_at next bound = unless (nat_lt (next + 1) bound) refusal.InventoryFull

-- ---- numbers of files

abbrev pub file_bound : ℕ → Inv → List Refusal
file_bound file v = unless (nat_lt (max v.next_file (file + 1)) (2 ^ 32 - 1)) refusal.InventoryFull

-- new files have numbers from 4 on that no volume and no listed backup has, each its own
abbrev pub is_free_file : Inv → ℕ → Bool
is_free_file v file = nat_le 4 file && (is_none (row_at file v.stores.volumes) && is_none (row_at file v.backups))

abbrev pub files_refused : List ℕ → Inv → List Refusal
files_refused files v = unless (list_all (is_free_file v) files && all_later (λ a b. not (a == b)) files) bad_value

-- ---- effects

-- what a change gives, or what was there where it is refused
abbrev pub or_same : {S : Type 0} → S → Result S Refusal → S
or_same old (Ok new) = new
or_same old (Err refusal) = old

-- the effects of items one after the other
abbrev pub each : {X : Type 0} → (X → Inv → Inv) → List X → Inv → Inv
each step [] v = v
each step (x ∷ xs) v = each step xs (step x v)

-- the number of the transaction whose effect this is
abbrev pub this : Inv → ℕ
this v = v.number + 1

abbrev pub with_filespaces : List (ℕ × Filespace) → Inv → Inv
with_filespaces filespaces v = record v { clients = record v.clients { filespaces = filespaces } }

abbrev pub with_clients : Rows → Inv → Inv
with_clients clients v = record v { clients = clients }

abbrev pub with_stores : PoolRows → Inv → Inv
with_stores stores v = record v { stores = stores }

-- the next file number lies behind a number that was drawn
abbrev pub draw_file : ℕ → Inv → Inv
draw_file file v = record v { next_file = max v.next_file (file + 1) }

-- ---- what a step needs

-- each item's step can be made where those before it have been made
abbrev pub CanEach : {X S : Type 0} → (X → S → Type 0) → (X → S → S) → List X → S → Type 0
CanEach Can step [] s = ⊤
CanEach Can step (x ∷ xs) s = Can x s × CanEach Can step xs (step x s)

-- ---- items

abbrev pub one_if : Bool → ℕ
one_if true = 1
one_if false = 0
