-- What the journal of a run tells of versions and copies that are not as a caller named them.
use Rattle.std.specs.Prelude.{ℕ, List, Option, None}

-- The last transactions of the journal that removed an object's version; that changed or removed it; that changed or removed its copy in
-- a pool; and that removed the last version of a path of a filespace.
pub record Journal : Type 0 where
  pub removed : ℕ → Option ℕ
  pub changed : ℕ → Option ℕ
  pub copy_changed : ℕ → ℕ → Option ℕ
  pub path_emptied : ℕ → List ℕ → Option ℕ

-- the journal without entries
abbrev pub no_journal : Journal
no_journal = record { removed = λ _. None; changed = λ _. None; copy_changed = λ _ _. None; path_emptied = λ _ _. None }
