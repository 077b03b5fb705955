-- An increment as bytes: it follows the backup in file 9, whose last transaction has the number 41, and holds one transaction, by which day 5 begins.
use Rattle.std.specs.Prelude.{◌≡◌, ℕ, List, [], ◌∷◌, ◌++◌, Some, refl}
use Rattle.fields.specs.Forms.{times_at}
use Rattle.entries.specs.ChangeForm.{change, change_body}
use Rattle.entries.specs.EntryForm.{entry_in}
use Rattle.entries.specs.declared.change.Change.TheVariants.{Day}
use Rattle.backup_payloads.specs.Increments.{increment}
use Rattle.backup_payloads.specs.Holding.{holding}

-- the spelling of the transaction
abbrev day_5 : List ℕ
day_5 = 0 ∷ 0 ∷ 0 ∷ 0 ∷ 1 ∷ 0 ∷ 0 ∷ 0 ∷ 5 ∷ []

abbrev worked : List ℕ
worked = 3 ∷ 0 ∷ 0 ∷ 0 ∷ 9 ∷ 0 ∷ 0 ∷ 0 ∷ 0 ∷ 0 ∷ 0 ∷ 0 ∷ 41 ∷ 0 ∷ 0 ∷ 0 ∷ 1 ∷ 0 ∷ 0 ∷ 0 ∷ 9 ∷ 0 ∷ 0 ∷ 0 ∷ 0 ∷ 1 ∷ 0 ∷ 0 ∷ 0 ∷ 5 ∷ []

spelled : increment.spell (holding 9 41 (record { actor = 0; change = Day 5 } ∷ [])) ≡ worked
unfolding increment entry_in change change_body
spelled = refl

read : increment.read (worked ++ 7 ∷ []) ≡ Some (record { after = 9; number = 41; records = day_5 ∷ [] }, 7 ∷ [])
unfolding increment times_at
read = refl
