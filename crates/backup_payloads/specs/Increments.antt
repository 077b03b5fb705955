-- The bytes of what a database backup holds that follows another one: which one it follows, and the records of the transactions since.
use Rattle.std.specs.Prelude.{◌≡◌, ℕ, ◌+◌, ◌-◌, ◌^◌, ◌<◌, Bool, nat_lt, List, [], ◌++◌, length, Option, Some, None, refl}
use Rattle.std.specs.Int.{w32, w64, to_be_bytes}
use Rattle.std.proofs.Common.{sym, ap, ◌∙◌, append_assoc, arith}
use Rattle.fields.specs.Reading.{◌>>=◌, number_at, bytes_at}
use Rattle.fields.specs.Forms.{Form, IsBytes, IsTaken, IsForm, number, only, pair, viewed, marked, items, times_at}
use Rattle.fields.specs.FieldLaws.{bind_some, IsBytes-rest, number_form, block_form, wide32, wide64}
use Rattle.fields.specs.FormLaws.{only_form, pair_form, viewed_form, marked_form}
use Rattle.fields.specs.ListLaws.{items_form}

-- What a backup holds that follows another: the file of the one that it follows, the number of that one's last transaction, and a
-- record of each transaction since, in their order. The first has the next number, and so on.
pub record Increment : Type 0 where
  pub after : ℕ
  pub number : ℕ
  pub records : List (List ℕ)

-- a record: its length in four bytes, and its bytes
abbrev pub record_bytes : Form (List ℕ)
record_bytes = record {
  spell = λ bytes. to_be_bytes w32 (length bytes) ++ bytes;
  read = λ bytes. number_at w32 bytes >>= λ n. bytes_at n.0 n.1;
  Fits = λ bytes. length bytes < 2 ^ 32;
}

abbrev pub increment_with : ℕ × (ℕ × List (List ℕ)) → Increment
increment_with f = record { after = f.0; number = f.1.0; records = f.1.1 }

abbrev pub increment_fields : Increment → ℕ × (ℕ × List (List ℕ))
increment_fields i = (i.after, (i.number, i.records))

-- the number of the last transaction
abbrev pub last_number : Increment → ℕ
last_number i = i.number + length i.records

-- each transaction has a number below 2^62
abbrev pub is_numbered : Increment → Bool
is_numbered i = nat_lt (last_number i) (2 ^ 62)

-- A byte 3; the file in four bytes and the number in eight; and the list of the records.
unfoldable pub increment : Form Increment
increment = marked 3 (only is_numbered (viewed increment_with increment_fields (pair (number w32) (pair (number w64) (items (2 ^ 32 - 1) record_bytes)))))

-- the bytes are the spelling of this increment, and its values are in their ranges
abbrev pub IsIncrement : List ℕ → Increment → Type 0
IsIncrement bytes i = increment.Fits i × (bytes ≡ increment.spell i)

-- no increment's spelling begins with the bytes but that of this one, and nothing follows there
abbrev pub IsAlone : List ℕ → Increment → Type 0
IsAlone bytes i = (other : Increment) (rest : List ℕ) → increment.Fits other → bytes ++ rest ≡ increment.spell other → (other ≡ i) × (rest ≡ [])

-- What a function that takes a value from a reader returned and left is what reading gives.
abbrev pub Takes : {X Y : Type 0} → (Y → X) → Option Y → List ℕ → Option (X × List ℕ) → Type 0
Takes view (Some y) rest read = read ≡ Some (view y, rest)
Takes view None rest read = read ≡ None

-- the records with which some bytes begin, so many; none where the bytes begin with fewer
abbrev pub records_of : Option (List (List ℕ) × List ℕ) → List (List ℕ)
records_of None = []
records_of (Some read) = read.0

abbrev pub records_at : ℕ → List ℕ → List (List ℕ)
records_at count bytes = records_of (times_at record_bytes.read count bytes)

-- the bytes behind them, where there are so many
abbrev pub behind_of : Option (List (List ℕ) × List ℕ) → Option (List ℕ)
behind_of None = None
behind_of (Some read) = Some read.1

unfoldable pub behind_records : ℕ → List ℕ → Option (List ℕ)
behind_records count bytes = behind_of (times_at record_bytes.read count bytes)

-- ---- laws

pub record_bytes_form : IsForm record_bytes
record_bytes_form = record { takes = taken; again = again } where
  taken : (bytes : List ℕ) (read : List ℕ × List ℕ) → IsBytes bytes → record_bytes.read bytes ≡ Some read → IsTaken record_bytes bytes read
  taken bytes read h e =
      let a = bind_some (number_at w32 bytes) (λ n. bytes_at n.0 n.1) read e in
      let n = (number_form w32 wide32).takes bytes a.0 h a.1 in
      let t = (block_form a.0.0).takes a.0.1 read (IsBytes-rest bytes (to_be_bytes w32 a.0.0) a.0.1 n.parts h) a.2 in
      let parts : bytes ≡ to_be_bytes w32 a.0.0 ++ (read.0 ++ read.1) = n.parts ∙ ap (λ (r : List ℕ). to_be_bytes w32 a.0.0 ++ r) t.parts in
      record {
        parts = parts ∙ ap (λ (k : ℕ). to_be_bytes w32 k ++ (read.0 ++ read.1)) (sym t.fits) ∙ sym (append_assoc (to_be_bytes w32 (length read.0)) read.0 read.1);
        fits = omega (arith, n.fits, t.fits);
      }

  again : (x rest : List ℕ) → length x < 2 ^ 32 → record_bytes.read (record_bytes.spell x ++ rest) ≡ Some (x, rest)
  again x rest few =
      ap record_bytes.read (append_assoc (to_be_bytes w32 (length x)) x rest)
      ∙ rw ((number_form w32 wide32).again (length x) (x ++ rest) few) ((block_form (length x)).again x rest refl)

pub increment_form : IsForm increment
unfolding increment
increment_form = marked_form 3 (only_form is_numbered (viewed_form increment_with increment_fields (λ _. refl) (λ _. refl) (pair_form (number_form w32 wide32) (pair_form (number_form w64 wide64) (items_form (2 ^ 32 - 1) record_bytes_form)))))
