-- A calendar as a database: what it is, which transactions are legal, and its bytes.
use Rattle.std.specs.Prelude.{◌≡◌, ℕ, ◌+◌, ◌^◌, ◌≤◌, Bool, nat_lt, List, [], ◌++◌, length, Option, Some, None, if◌then◌else◌, refl}
use Rattle.std.proofs.Common.{sym, ap, ◌∙◌, append_assoc, arith}
use Rattle.std.specs.Int.{w32, w64, to_be_bytes}
use Rattle.std.proofs.lemmas.Bool.{ltb-false, le-ltb}
use Rattle.fields.specs.Editions.{Edition, first_form, second_form, added, added_form}
use Rattle.fields.specs.Reading.{◌>>=◌, number_at, bytes_at}
use Rattle.fields.specs.Forms.{Form, IsBytes, IsTaken, IsForm, number, only, pair, viewed, marked}
use Rattle.fields.specs.FieldLaws.{bind_some, stopped_if, IsBytes-rest, number_form, block_form, wide32, wide64}
use Rattle.fields.specs.FormLaws.{only_form, pair_form, viewed_form, marked_form}
use Rattle.kinds.specs.declared.refusal.Refusal.{Refusal}
use Rattle.kinds.specs.declared.refusal.Refusal.TheVariants.{DayBack, InventoryFull, NotFound}
use Rattle.kinds.specs.ValueForms.{day, day_form}
use Rattle.entries.specs.declared.change.Change.{Change}
use Rattle.entries.specs.declared.change.Change.TheVariants as change
use Rattle.entries.specs.Meaning.{Meaning, form_byte}

-- the number of the last transaction, the day, and a memo of bytes
pub record Dated : Type 0 where
  pub number : ℕ
  pub today : ℕ
  pub memo : List ℕ

-- the day that a transaction brings; another change than a new day leaves the day
abbrev pub day_after : Change → ℕ → ℕ
day_after (change.Day new) today = new
day_after _ today = today

-- A new day isn't before today, and there is a number for the transaction. No other change is legal.
abbrev pub day_refused : Change → Dated → Option Refusal
day_refused (change.Day new) d = if nat_lt new d.today then Some (DayBack d.today new) else (if nat_lt (d.number + 1) (2 ^ 62) then None else Some InventoryFull)
day_refused _ d = Some NotFound

abbrev pub dated_with : ℕ × (ℕ × List ℕ) → Dated
dated_with f = record { number = f.0; today = f.1.0; memo = f.1.1 }

abbrev pub dated_fields : Dated → ℕ × (ℕ × List ℕ)
dated_fields d = (d.number, (d.today, d.memo))

-- the day before the number
abbrev pub with_day_first : ℕ × (ℕ × List ℕ) → Dated
with_day_first f = record { number = f.1.0; today = f.0; memo = f.1.1 }

abbrev pub day_first_fields : Dated → ℕ × (ℕ × List ℕ)
day_first_fields d = (d.today, (d.number, d.memo))

-- a memo of at most 2^20 bytes: its length in four bytes, and its bytes
abbrev pub memo_bytes : Form (List ℕ)
memo_bytes = record {
  spell = λ bytes. to_be_bytes w32 (length bytes) ++ bytes;
  read = λ bytes. number_at w32 bytes >>= λ n. if nat_lt (2 ^ 20) n.0 then None else bytes_at n.0 n.1;
  Fits = λ bytes. length bytes ≤ 2 ^ 20;
}

-- the number in eight bytes, the day in four, and the memo; in the first form the day stands in front, and there is no memo
abbrev pub unmarked : Edition → Form Dated
unmarked first_form = viewed with_day_first day_first_fields (pair day (pair (number w64) (added first_form [] memo_bytes)))
unmarked second_form = viewed dated_with dated_fields (pair (number w64) (pair day (added second_form [] memo_bytes)))

-- a number below 2^62
abbrev pub is_numbered : Dated → Bool
is_numbered d = nat_lt d.number (2 ^ 62)

-- the form's byte, and what stands behind it
abbrev pub dated : Edition → Form Dated
dated form = marked (form_byte form) (only is_numbered (unmarked form))

memo_bytes_form : IsForm memo_bytes
memo_bytes_form = record { takes = taken; again = again } where
  taken : (bytes : List ℕ) (read : List ℕ × List ℕ) → IsBytes bytes → memo_bytes.read bytes ≡ Some read → IsTaken memo_bytes bytes read
  taken bytes read h e =
      let a = bind_some (number_at w32 bytes) (λ n. if nat_lt (2 ^ 20) n.0 then None else bytes_at n.0 n.1) read e in
      let g = stopped_if (nat_lt (2 ^ 20) a.0.0) (bytes_at a.0.0 a.0.1) read a.2 in
      let few : a.0.0 ≤ 2 ^ 20 = ltb-false _ _ g.0 in
      let n = (number_form w32 wide32).takes bytes a.0 h a.1 in
      let t = (block_form a.0.0).takes a.0.1 read (IsBytes-rest bytes (to_be_bytes w32 a.0.0) a.0.1 n.parts h) g.1 in
      let parts : bytes ≡ to_be_bytes w32 a.0.0 ++ (read.0 ++ read.1) = n.parts ∙ ap (λ (r : List ℕ). to_be_bytes w32 a.0.0 ++ r) t.parts in
      record {
        parts = parts ∙ ap (λ (k : ℕ). to_be_bytes w32 k ++ (read.0 ++ read.1)) (sym t.fits) ∙ sym (append_assoc (to_be_bytes w32 (length read.0)) read.0 read.1);
        fits = omega (arith, few, t.fits);
      }

  again : (x rest : List ℕ) → length x ≤ 2 ^ 20 → memo_bytes.read (memo_bytes.spell x ++ rest) ≡ Some (x, rest)
  again x rest few =
      ap memo_bytes.read (append_assoc (to_be_bytes w32 (length x)) x rest)
      ∙ rw ((number_form w32 wide32).again (length x) (x ++ rest) (omega arith), le-ltb (2 ^ 20) (length x) few) ((block_form (length x)).again x rest refl)

unmarked_form : (form : Edition) → IsForm (unmarked form)
unmarked_form first_form = viewed_form with_day_first day_first_fields (λ _. refl) (λ _. refl) (pair_form day_form (pair_form (number_form w64 wide64) (added_form first_form [] memo_bytes_form)))
unmarked_form second_form = viewed_form dated_with dated_fields (λ _. refl) (λ _. refl) (pair_form (number_form w64 wide64) (pair_form day_form (added_form second_form [] memo_bytes_form)))

pub dated_form : (form : Edition) → IsForm (dated form)
dated_form form = marked_form (form_byte form) (only_form is_numbered (unmarked_form form))

-- a calendar as a database
abbrev pub meaning : Meaning Dated
meaning = record {
  number = λ d. d.number;
  refused = λ d e. day_refused e.change d;
  after = λ d e. record { number = d.number + 1; today = day_after e.change d.today; memo = d.memo };
  spelled = λ form. (dated form).spell;
  Valid = λ form. (dated form).Fits;
}
