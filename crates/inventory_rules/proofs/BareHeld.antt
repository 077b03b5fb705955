-- Held objects without their copies: they stand under the same numbers and paths, and go and come alike.
use Rattle.std.proofs.Common.{◌≡◌, ℕ, false, List, [], ◌∷◌, Option, Some, None, is_some, refl, ap, ◌∙◌}
use Rattle.std.specs.Prelude.{◌==◌, if◌then◌else◌}
use Rattle.std.specs.Option.{option_map, option_map_or}
use Rattle.std.proofs.lemmas.Map.Made.{lookup-map_values}
use Rattle.inventory_rows.specs.object_rows.declared.held_object.HeldRow.{HeldRow}
use Rattle.inventory_rows.specs.object_rows.Changes.{numbers_in}
use Rattle.inventory_rows.specs.object_rows.Filespaces.{at_number}
use Rattle.inventory_rows.specs.object_rows.HeldRows.{has_row, has_under, held_at, is_under}
use Rattle.inventory_rules.specs.Kept.{bare_held, bare_row}

pub held_at-bare : (object : ℕ) (held : List (ℕ × HeldRow)) → held_at object (bare_held held) ≡ option_map bare_row (held_at object held)
held_at-bare object held = lookup-map_values bare_row (at_number object) held

pub has_row-bare : (object : ℕ) (held : List (ℕ × HeldRow)) → has_row object (bare_held held) ≡ has_row object held
has_row-bare object held = ap is_some (held_at-bare object held) ∙ some (held_at object held) where
  some : (o : Option HeldRow) → is_some (option_map bare_row o) ≡ is_some o
  some None = refl
  some (Some row) = refl

pub has_under-bare : (n : ℕ) (path : List ℕ) (object : ℕ) (held : List (ℕ × HeldRow)) → has_under n path object (bare_held held) ≡ has_under n path object held
has_under-bare n path object held = ap (λ o. option_map_or (is_under n path) o false) (held_at-bare object held) ∙ under (held_at object held) where
  under : (o : Option HeldRow) → option_map_or (is_under n path) (option_map bare_row o) false ≡ option_map_or (is_under n path) o false
  under None = refl
  under (Some row) = refl

pub numbers_in-bare : (n : ℕ) (held : List (ℕ × HeldRow)) → numbers_in n (bare_held held) ≡ numbers_in n held
numbers_in-bare n [] = refl
numbers_in-bare n (h ∷ held) = ap (λ z. if h.1.filespace == n then h.0 ∷ z else z) (numbers_in-bare n held)
