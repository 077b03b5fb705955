use Rattle.std.specs.Prelude.{◌≡◌, ℕ, ◌+◌, Bool, true, false, not, ◌==◌, nat_lt, List, [], ◌∷◌, filter, Result, Ok, Err, if◌then◌else◌}
use Rattle.std.specs.List.{list_any}
use Rattle.version_groups.specs.Entries.{all_later}
use Rattle.kinds.specs.Answers.{Becomes, Makes}
use Rattle.kinds.specs.declared.refusal.Refusal.{Refusal}
use Rattle.kinds.specs.declared.refusal.Refusal.TheVariants.{NotFound}
use Rattle.version_groups.specs.declared.copies.CopyRow.{CopyRow}
use Rattle.version_groups.specs.declared.copies.CopyChange.{CopyChange}
use Rattle.version_groups.specs.declared.copies.CopyChange.TheVariants.{Add, Replace, Drop}

-- one of the copies lies in the pool
abbrev pub has_copy : ℕ → List CopyRow → Bool
has_copy pool copies = list_any (λ c. c.pool == pool) copies

-- the copies stand in ascending order of their pools, at most one in each
abbrev pub are_by_pool : List CopyRow → Bool
are_by_pool copies = all_later (λ c d. nat_lt c.pool d.pool) copies

-- the copies but the one in the pool
abbrev pub without_copy : ℕ → List CopyRow → List CopyRow
without_copy pool copies = filter (λ c. not (c.pool == pool)) copies

-- the copies and one more, which stands before the first copy in a pool of a higher number
abbrev pub with_copy : CopyRow → List CopyRow → List CopyRow
with_copy copy [] = copy ∷ []
with_copy copy (c ∷ copies) = if nat_lt copy.pool c.pool then copy ∷ c ∷ copies else c ∷ with_copy copy copies

-- how many copies stand before the first one in a pool of a higher number
abbrev pub place_of : ℕ → List CopyRow → ℕ
place_of pool [] = 0
place_of pool (c ∷ copies) = if nat_lt pool c.pool then 0 else place_of pool copies + 1

-- the copies of a version after a change; a copy that is to be replaced or dropped has to be there
abbrev pub copies_after : CopyChange → List CopyRow → Result (List CopyRow) Refusal
copies_after (Add copy) copies = Ok (with_copy copy copies)
copies_after (Replace from copy) copies = if has_copy from copies then Ok (with_copy copy (without_copy from copies)) else Err NotFound
copies_after (Drop pool) copies = if has_copy pool copies then Ok (without_copy pool copies) else Err NotFound

-- what a change of copies asks: no copy but the one that is replaced lies in the new copy's pool
abbrev pub takes_free_pool : CopyChange → List CopyRow → Bool
takes_free_pool (Add copy) copies = not (has_copy copy.pool copies)
takes_free_pool (Replace from copy) copies = not (has_copy copy.pool (without_copy from copies))
takes_free_pool (Drop pool) copies = true

-- a change of copies makes of the old value what is said; only one that adds a copy takes memory
abbrev pub Alters : {A S : Type 0} → CopyChange → Result A Refusal → S → S → Result S Refusal → Type 0
Alters (Add _) result old new said = Becomes result old new said
Alters (Replace _ _) result old new said = Makes result old new said
Alters (Drop _) result old new said = Makes result old new said
