-- The two forms in which values are spelled: the second is written and read, the first, which was written before, is only read.
use Rattle.std.specs.Prelude.{ℕ, Bool, true, false}
use Rattle.std.specs.Int.{w32, w64}
use Rattle.fields.specs.Forms.{Form, IsForm, number, fixed, nothing, choose}
use Rattle.fields.specs.FieldLaws.{number_form, wide32, wide64}
use Rattle.fields.specs.FormLaws.{IsRow, IsTable, choose_form, fixed_form, no_more_table}

pub data Edition : Type 0 where
  first_form : Edition
  second_form : Edition

abbrev pub is_second : Edition → Bool
is_second first_form = false
is_second second_form = true

-- a count of bytes: a number of four bytes in the first, and of eight in the second
abbrev pub byte_count : Edition → Form ℕ
byte_count e = choose (is_second e) (number w64) (number w32)

-- a value that the second adds: in the first nothing is spelled, and this one is read
abbrev pub added : {X : Type 0} → Edition → X → Form X → Form X
added e before f = choose (is_second e) f (fixed before)

-- the rows of a table of tags that the second adds: in the first no value has them
abbrev pub added_rows : {X : Type 0} → Edition → (ℕ → Form X) → ℕ → Form X
added_rows e body tag = choose (is_second e) (body tag) nothing

-- ---- laws

pub byte_count_form : (e : Edition) → IsForm (byte_count e)
byte_count_form e = choose_form (is_second e) (number_form w64 wide64) (number_form w32 wide32)

pub added_form : {X : Type 0} {f : Form X} (e : Edition) (before : X) → IsForm f → IsForm (added e before f)
added_form e before law = choose_form (is_second e) law (fixed_form before)

pub added_rows_table : {X : Type 0} {tag_of : X → ℕ} {body : ℕ → Form X} (e : Edition) → IsTable tag_of body → IsTable tag_of (added_rows e body)
added_rows_table {X} {tag_of} {body} e table = record { at = λ tag. at tag (is_second e) } where
  at : (tag : ℕ) (b : Bool) → IsRow tag_of tag (choose b (body tag) nothing)
  at tag true = table.at tag
  at tag false = (no_more_table tag_of).at tag
