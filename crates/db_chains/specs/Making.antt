-- What making the transactions of an increment comes to, one after the other, by whether each may be made.
use Rattle.std.specs.Prelude.{◌≡◌, ℕ, Bool, true, false, List}
use Rattle.entries.specs.declared.entry.Entry.{Entry}
use Rattle.entries.specs.EntryForm.{Spells}
use Rattle.entries.specs.Meaning.{Meaning, IsLegal}
use Rattle.db_chains.specs.Chains.{Makes, Fails, IsUnfit}

-- a transaction was made, or it isn't legal
abbrev pub MakesEntry : {D : Type 0} → Meaning D → Entry → D → D → Bool → Type 0
MakesEntry m e old new true = IsLegal m old e × (new ≡ m.after old e)
MakesEntry m e old new false = IsLegal m old e → ⊥

-- the transaction that a record is was made, or it is none that may be made
abbrev pub MakesOne : {D : Type 0} → Meaning D → List ℕ → D → D → Bool → Type 0
MakesOne m bytes old new true = (e : Entry) × Spells bytes e × IsLegal m old e × (new ≡ m.after old e)
MakesOne m bytes old new false = IsUnfit m old bytes

-- the transactions that the records are were made, or one of the records is none that may be made
abbrev pub MakesAll : {D : Type 0} → Meaning D → List (List ℕ) → D → D → Bool → Type 0
MakesAll m records old new true = Makes m old records new
MakesAll m records old new false = Fails m old records
