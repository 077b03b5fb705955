-- Values by number, and what one change of them leaves.
use Rattle.std.specs.Prelude.{◌≡◌, ◌≢◌, ℕ, ◌==◌, Option, Some, None, List, [], unwrap_or, if◌then◌else◌}
use Rattle.pool_tables.specs.Rows.{row_at}

-- under one number stands this or nothing now, and under each other what stood there
pub record IsSetAt {V : Type 0} (number : ℕ) (row : Option V) (old new : List (ℕ × V)) : Type 0 where
  pub here : row_at number new ≡ row
  pub others : (q : ℕ) → q ≢ number → row_at q new ≡ row_at q old

-- what stood there has changed in this way; where nothing stood, nothing stands
abbrev pub EditedBy : {V : Type 0} → (V → V → Type 0) → Option V → Option V → Type 0
EditedBy edit None None = Unit {0}
EditedBy edit None (Some b) = ⊥
EditedBy edit (Some a) None = ⊥
EditedBy edit (Some a) (Some b) = edit a b

-- what stands under one number has changed in this way, and under each other stands what stood there
pub record IsEditedAt {V : Type 0} (number : ℕ) (edit : V → V → Type 0) (old new : List (ℕ × V)) : Type 0 where
  pub here : EditedBy edit (row_at number old) (row_at number new)
  pub others : (q : ℕ) → q ≢ number → row_at q new ≡ row_at q old

-- a room, where it is one
abbrev pub some_room : ℕ → Option ℕ
some_room room = if room == 0 then None else Some room

-- the volumes of a pool that have room, each with its room
abbrev pub rooms_at : ℕ → List (ℕ × List (ℕ × ℕ)) → List (ℕ × ℕ)
rooms_at pool pools = unwrap_or (row_at pool pools) []

-- a volume of a pool has this room now, and each other volume of each pool what it had
pub record HasRoom (pool file : ℕ) (room : Option ℕ) (old new : List (ℕ × List (ℕ × ℕ))) : Type 0 where
  pub here : row_at file (rooms_at pool new) ≡ room
  pub files : (q : ℕ) → q ≢ file → row_at q (rooms_at pool new) ≡ row_at q (rooms_at pool old)
  pub pools : (p : ℕ) → p ≢ pool → rooms_at p new ≡ rooms_at p old

-- what a list gives under a number
unfoldable pub given_at : {V A : Type 0} → (ℕ × V → List A) → ℕ → Option V → List A
given_at g q None = []
given_at g q (Some v) = g (q, v)
