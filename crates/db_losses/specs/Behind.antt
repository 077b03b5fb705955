-- A key that stands behind all keys of a map.
use Rattle.std.specs.Prelude.{◌≡◌, List}
use Rattle.std.specs.List.{AllByRecursion}
use Rattle.std.specs.Map.{keys_of}
use Rattle.std.specs.declared.cmp.Ordering.{Ordering}
use Rattle.std.specs.declared.cmp.Ordering.TheVariants.{Greater}

abbrev pub IsBehind : {K V : Type 0} → (K → K → Ordering) → K → List (K × V) → Type 0
IsBehind cmp key entries = AllByRecursion (λ k. cmp key k ≡ Greater) (keys_of entries)
