-- Which lists and ordered maps have a spelling.
use Rattle.std.specs.Prelude.{◌^◌, ◌<◌, ◌≤◌, Bool, true, List, [], ◌∷◌, length, None, IsTrue}
use Rattle.std.specs.List.{AllByRecursion}
use Rattle.std.specs.declared.cmp.Ordering.{Ordering}
use Rattle.fields.specs.Forms.{is_ascending}
use Rattle.inventory_rows.specs.version_groups.declared.versions.Version.{Version}
use Rattle.inventory_rules.specs.Valid.{are_all_inactive}

-- the list is no longer than its length field tells, and each of its values has a spelling
abbrev pub FitAll : {A : Type 0} → (A → Type 0) → List A → Type 0
FitAll {A} Fits xs = (length xs ≤ 4294967295) × (length xs < 2 ^ 32) × AllByRecursion Fits xs

-- the same of the entries of a map, whose keys ascend
abbrev pub FitTable : {K V : Type 0} → (K → K → Ordering) → (K → Type 0) → (V → Type 0) → List (K × V) → Type 0
FitTable {K} {V} cmp KeyFits ValueFits es = FitAll (λ (e : K × V). KeyFits e.0 × ValueFits e.1) es × IsTrue (is_ascending cmp None es)

-- of the versions of a path, the newest first, only the newest may be active
abbrev pub are_older_inactive : List Version → Bool
are_older_inactive [] = true
are_older_inactive (newest ∷ older) = are_all_inactive older
