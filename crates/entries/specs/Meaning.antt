-- What a database means to those that keep it. They know neither its rows nor its bytes.
use Rattle.std.specs.Prelude.{◌≡◌, ℕ, ◌+◌, ◌<◌, ◌^◌, List, ◌∷◌, length, Option, None, Some, Result, Ok, Err}
use Rattle.fields.specs.Editions.{Edition, first_form, second_form}
use Rattle.kinds.specs.declared.refusal.Refusal.{Refusal}
use Rattle.entries.specs.declared.entry.Entry.{Entry}

-- The number of the last transaction; why a transaction may not be made, where it may not; the database after one; its
-- spelling in a form, as the payload of an image; and which values are databases with a spelling in it.
pub record Meaning (D : Type 0) : Type 1 where
  pub number : D → ℕ
  pub refused : D → Entry → Option Refusal
  pub after : D → Entry → D
  pub spelled : Edition → D → List ℕ
  pub Valid : Edition → D → Type 0

-- the transaction may be made
abbrev pub IsLegal : {D : Type 0} → Meaning D → D → Entry → Type 0
IsLegal m d e = m.refused d e ≡ None

-- the bytes are the spelling of this database in this form
abbrev pub Spells : {D : Type 0} → Meaning D → Edition → List ℕ → D → Type 0
Spells m form bytes d = m.Valid form d × (bytes ≡ m.spelled form d)

-- the byte with which each spelling in the form begins
abbrev pub form_byte : Edition → ℕ
form_byte first_form = 1
form_byte second_form = 2

-- what is answered where this is the refusal, or where there is none
abbrev pub said : Option Refusal → Result (Unit {0}) Refusal
said None = Ok tt
said (Some refusal) = Err refusal

-- The laws of a database. A transaction makes a database with the next number. Bytes are the spelling of one database at most, and their first tells
-- in which form. A payload of the form that is written is shorter than 2^36 bytes, and a number below 2^62.
pub record IsMeaning {D : Type 0} (m : Meaning D) : Type 0 where
  pub next : (d : D) (e : Entry) → m.number (m.after d e) ≡ m.number d + 1
  pub one : (form : Edition) (d other : D) → m.Valid form d → m.Valid form other → m.spelled form d ≡ m.spelled form other → d ≡ other
  pub begins : (form : Edition) (d : D) → m.Valid form d → (rest : List ℕ) × (m.spelled form d ≡ form_byte form ∷ rest)
  pub short : (d : D) → m.Valid second_form d → length (m.spelled second_form d) < 2 ^ 36
  pub few : (d : D) → m.Valid second_form d → m.number d < 2 ^ 62
