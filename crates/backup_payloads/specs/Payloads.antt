-- What a database backup holds, as bytes.
use Rattle.std.specs.Prelude.{◌≡◌, ℕ, List, [], ◌++◌}
use Rattle.fields.specs.Editions.{Edition}
use Rattle.entries.specs.Meaning.{Meaning}
use Rattle.entries.specs.Meaning as database
use Rattle.backup_payloads.specs.Increments.{IsIncrement}
use Rattle.backup_payloads.specs.declared.payload.Payload.{Payload}
use Rattle.backup_payloads.specs.declared.payload.Payload.TheVariants.{Whole, Since}

-- The bytes are the spelling of what a backup holds: a whole database, in either of its forms, or an increment.
abbrev pub IsPayload : {D : Type 0} → Meaning D → List ℕ → Payload D → Type 0
IsPayload m bytes (Whole d) = (form : Edition) × database.Spells m form bytes d
IsPayload m bytes (Since i) = IsIncrement bytes i

-- The bytes spell nothing else; and where they are an increment's, no other spelling begins with them.
abbrev pub IsOnly : {D : Type 0} → Meaning D → List ℕ → Payload D → Type 0
IsOnly {D} m bytes (Whole d) = (other : Payload D) → IsPayload m bytes other → other ≡ Whole d
IsOnly {D} m bytes (Since i) = (other : Payload D) (rest : List ℕ) → IsPayload m (bytes ++ rest) other → (other ≡ Since i) × (rest ≡ [])
