-- Reading so many records, one after the other.
use Rattle.std.proofs.Common.{◌≡◌, ℕ, suc, ◌-◌, ◌+◌, ◌≤◌, ◌<◌, List, [], ◌∷◌, length, Option, Some, None, refl, sym, ap, ◌∙◌, arith}
use Rattle.std.specs.Prelude.{IsTrue}
use Rattle.std.proofs.lemmas.Bool.{false≢true}
use Rattle.std.specs.Option.{is_some}
use Rattle.fields.specs.Reading.{◌>>=◌}
use Rattle.fields.specs.Forms.{times_at}
use Rattle.fields.proofs.Times.{length-times_at}
use Rattle.backup_payloads.specs.Increments.{record_bytes, records_of, records_at, behind_of, behind_records}

-- ---- how many there are

found : (o : Option (List (List ℕ) × List ℕ)) → IsTrue (is_some o) → (read : List (List ℕ) × List ℕ) × (o ≡ Some read)
found (Some read) some = (read, refl)
found None some = absurd cc

pub length_records : (count : ℕ) (bytes : List ℕ) → IsTrue (is_some (times_at record_bytes.read count bytes)) → length (records_at count bytes) ≡ count
length_records count bytes some =
    let f = found (times_at record_bytes.read count bytes) some in
    rw f.1 (length-times_at record_bytes.read count bytes f.0 f.1)

-- ---- the first of them

abbrev with_first : List ℕ → Option (List (List ℕ) × List ℕ) → Option (List (List ℕ) × List ℕ)
with_first r o = o >>= λ xs. Some (r ∷ xs.0, xs.1)

first_of : (r : List ℕ) (o : Option (List (List ℕ) × List ℕ)) → IsTrue (is_some (with_first r o)) → IsTrue (is_some o) × (records_of (with_first r o) ≡ r ∷ records_of o)
first_of r (Some xs) some = (refl, refl)
first_of r None some = absurd cc

pub first_record : (n : ℕ) (bytes r rest : List ℕ) → record_bytes.read bytes ≡ Some (r, rest) → IsTrue (is_some (times_at record_bytes.read (suc n) bytes))
    → IsTrue (is_some (times_at record_bytes.read n rest)) × (records_at (suc n) bytes ≡ r ∷ records_at n rest)
unfolding times_at
first_record n bytes r rest e some = rw e (first_of r (times_at record_bytes.read n rest) (rw e at some))

pub no_record : (n : ℕ) (bytes : List ℕ) → record_bytes.read bytes ≡ None → IsTrue (is_some (times_at record_bytes.read (suc n) bytes)) → ⊥
unfolding times_at
no_record n bytes e some = false≢true (rw e at some)

-- ---- what stands behind them

behind_of-cons : (r : List ℕ) (o : Option (List (List ℕ) × List ℕ)) → behind_of (o >>= λ xs. Some (r ∷ xs.0, xs.1)) ≡ behind_of o
behind_of-cons r (Some xs) = refl
behind_of-cons r None = refl

from_behind : (o : Option (List (List ℕ) × List ℕ)) (rest : List ℕ) → behind_of o ≡ Some rest → o ≡ Some (records_of o, rest)
from_behind (Some read) rest e = ap (λ (b : Option (List ℕ)). b >>= λ left. Some (read.0, left)) e
from_behind None rest e = absurd cc

none_behind : (o : Option (List (List ℕ) × List ℕ)) → behind_of o ≡ None → o ≡ None
none_behind (Some read) e = absurd cc
none_behind None e = refl

module _ (count i : ℕ) (bytes all : List ℕ) where
  pub goes_on : (r rest : List ℕ) → i < count → record_bytes.read bytes ≡ Some (r, rest) → behind_records (count - i) bytes ≡ behind_records count all → behind_records (count - (i + 1)) rest ≡ behind_records count all
  unfolding times_at behind_records
  goes_on r rest lt e so_far =
      let k : count - i ≡ suc (count - (i + 1)) = omega arith in
      let one : behind_records (count - i) bytes ≡ behind_records (count - (i + 1)) rest = rw (k, e) (behind_of-cons r (times_at record_bytes.read (count - (i + 1)) rest)) in
      sym one ∙ so_far

  pub ends : i < count → record_bytes.read bytes ≡ None → behind_records (count - i) bytes ≡ behind_records count all → times_at record_bytes.read count all ≡ None
  unfolding times_at behind_records
  ends lt e so_far =
      let k : count - i ≡ suc (count - (i + 1)) = omega arith in
      let one : behind_records (count - i) bytes ≡ None = rw (k, e) refl in
      none_behind (times_at record_bytes.read count all) (sym so_far ∙ one)

  pub done : count ≤ i → behind_records (count - i) bytes ≡ behind_records count all → times_at record_bytes.read count all ≡ Some (records_at count all, bytes)
  unfolding times_at behind_records
  done le so_far =
      let k : count - i ≡ 0 = omega arith in
      let one : behind_records (count - i) bytes ≡ Some bytes = rw k refl in
      from_behind (times_at record_bytes.read count all) bytes (sym so_far ∙ one)

pub some_read : (o : Option (List (List ℕ) × List ℕ)) (read : List (List ℕ) × List ℕ) → o ≡ Some read → IsTrue (is_some o)
some_read o read e = rw e refl

-- no records stand at the front of any bytes
pub no_records : (count : ℕ) (bytes : List ℕ) → count ≡ 0 → records_at count bytes ≡ []
unfolding times_at
no_records count bytes e = rw e refl
