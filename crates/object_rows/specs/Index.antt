-- A map that finds what a search of a list of pairs finds.
use Rattle.std.specs.Prelude.{◌≡◌, ⊤, List, [], ◌∷◌, length, None}
use Rattle.std.specs.BTreeMap.{is_at}
use Rattle.std.specs.Map.{lookup}
use Rattle.std.specs.declared.cmp.Ordering.{Ordering}

module _ {K V : Type 0} (R : K → K → Ordering) where
  -- no two of the pairs have one key
  abbrev pub AreDistinct : List (K × V) → Type 0
  AreDistinct [] = ⊤
  AreDistinct (e ∷ es) = (lookup (is_at (R e.0)) es ≡ None) × AreDistinct es

  -- the index finds what a search of the pairs finds, each key stands once among them, and the index has no other key
  pub record IsIndex (index pairs : List (K × V)) : Type 0 where
    pub found : (k : K) → lookup (is_at (R k)) index ≡ lookup (is_at (R k)) pairs
    pub distinct : AreDistinct pairs
    pub count : length index ≡ length pairs
