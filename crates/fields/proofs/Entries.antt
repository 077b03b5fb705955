-- Entries that are added to a map in ascending order of their keys, and reading so many of them as a loop does.
use Rattle.std.proofs.Common.{◌≡◌, ℕ, zero, suc, length, true, ◌-◌, ◌+◌, ◌≤◌, ◌<◌, List, [], ◌∷◌, ◌++◌, Option, Some, None, refl, sym, ap, ◌∙◌, arith, All}
use Rattle.std.specs.Prelude.{slice_get, IfSome}
use Rattle.std.specs.List.{AllByRecursion}
use Rattle.std.specs.List.Sorted.{IsStrictlySortedBy}
use Rattle.std.proofs.lemmas.Option.{same_Some}
use Rattle.fields.specs.FieldLaws.{bind_some}
use Rattle.std.specs.Map.{keys_of}
use Rattle.std.specs.BTreeMap.{insert_entry}
use Rattle.std.specs.declared.cmp.Ordering.{Ordering}
use Rattle.std.specs.declared.cmp.Ordering.TheVariants.{Less, Greater}
use Rattle.std.proofs.lemmas.List.{append-nil, length-append}
use Rattle.std.proofs.lemmas.List.Elements.{All-head, All-tail}
use Rattle.fields.specs.declared.errors.Fault.{Fault}
use Rattle.fields.specs.declared.errors.Fault.TheVariants.{Malformed, Memory}
use Rattle.fields.specs.Reading.{◌>>=◌}
use Rattle.fields.specs.Forms.{entry_at, ascending_at, is_ascending, last_key}
use Rattle.fields.specs.Gives.{Fails}
use Rattle.fields.proofs.Times.{with_front, with_front-cons}

-- a key above all others goes to the end
pub insert_entry-last : {K V : Type 0} (cmp : K → K → Ordering) (es : List (K × V)) (k : K) (v : V) → All (λ q. cmp k q ≡ Greater) (keys_of es) → insert_entry cmp es k v ≡ es ++ (k, v) ∷ []
insert_entry-last cmp [] k v above = refl
insert_entry-last {K} {V} cmp (e ∷ es) k v above =
    rw (All-head (λ q. cmp k q ≡ Greater) e.0 (keys_of es) above)
    (ap (λ (rest : List (K × V)). e ∷ rest) (insert_entry-last cmp es k v (All-tail (λ q. cmp k q ≡ Greater) e.0 (keys_of es) above)))

slice_get-last : {A : Type 0} (xs : List A) (x : A) → slice_get (xs ++ x ∷ []) (length xs) ≡ Some x
slice_get-last [] x = refl
slice_get-last (y ∷ xs) x = slice_get-last xs x

-- the key that was added is the last
pub last_key-append : {K V : Type 0} (es : List (K × V)) (e : K × V) → last_key (es ++ e ∷ []) ≡ Some e.0
last_key-append {K} {V} es e =
    let n : length (es ++ e ∷ []) - 1 ≡ length es = omega (arith, length-append es (e ∷ [])) in
    rw (n, slice_get-last es e) refl

-- so many entries are read
pub length-ascending_at : {K V : Type 0} (cmp : K → K → Ordering) (read : List ℕ → Option ((K × V) × List ℕ)) (last : Option K) (n : ℕ) (bytes : List ℕ) (es : List (K × V) × List ℕ) → ascending_at cmp read last n bytes ≡ Some es → length es.0 ≡ n
unfolding ascending_at
length-ascending_at {K} {V} cmp read last zero bytes es e = ap (λ (x : List (K × V) × List ℕ). length x.0) (sym (same_Some ([], bytes) es e))
length-ascending_at {K} {V} cmp read last (suc n) bytes es e =
    let a = bind_some (entry_at cmp read last bytes) (λ x. ascending_at cmp read (Some x.0.0) n x.1 >>= λ others. Some (x.0 ∷ others.0, others.1)) es e in
    let b = bind_some (ascending_at cmp read (Some a.0.0.0) n a.0.1) (λ others. Some (a.0.0 ∷ others.0, others.1)) es a.2 in
    let made : List (K × V) × List ℕ = (a.0.0 ∷ b.0.0, b.0.1) in
    sym (ap (λ (x : List (K × V) × List ℕ). length x.0) {x = made} (same_Some made es b.2)) ∙ ap suc (length-ascending_at cmp read (Some a.0.0.0) n a.0.1 b.0 b.1)

-- the entries of a map ascend
pub sorted_ascends : {K V : Type 0} (cmp : K → K → Ordering) (last : Option K) (es : List (K × V)) → IfSome last (λ l. AllByRecursion (λ q. cmp l q ≡ Less) (keys_of es)) → IsStrictlySortedBy cmp (keys_of es) → is_ascending cmp last es ≡ true
unfolding IsStrictlySortedBy
sorted_ascends cmp last [] above sorted = refl
sorted_ascends cmp None (e ∷ es) above sorted = sorted_ascends cmp (Some e.0) es sorted.0 sorted.1
sorted_ascends cmp (Some l) (e ∷ es) above sorted = rw (above.0, sorted_ascends cmp (Some e.0) es sorted.0 sorted.1) refl

module _ {K V : Type 0} (cmp : K → K → Ordering) (read : List ℕ → Option ((K × V) × List ℕ)) (front : List (K × V)) (count i : ℕ) (bytes : List ℕ) (total : Option (List (K × V) × List ℕ)) where
  pub ascending_go_on : (e : K × V) (after : List ℕ) (all : List (K × V)) → all ≡ front ++ e ∷ [] → i < count → entry_at cmp read (last_key front) bytes ≡ Some (e, after)
      → with_front front (ascending_at cmp read (last_key front) (count - i) bytes) ≡ total → with_front all (ascending_at cmp read (last_key all) (count - (i + 1)) after) ≡ total
  unfolding ascending_at
  ascending_go_on e after all all-is lt h so_far =
      let k : count - i ≡ suc (count - (i + 1)) = omega arith in
      let one : with_front front (ascending_at cmp read (last_key front) (count - i) bytes) ≡ with_front (front ++ e ∷ []) (ascending_at cmp read (Some e.0) (count - (i + 1)) after) = rw (k, h) (with_front-cons front e (ascending_at cmp read (Some e.0) (count - (i + 1)) after)) in
      rw (all-is, last_key-append front e) (sym one ∙ so_far)

  pub ascending_end : (fault : Fault) → i < count → Fails fault (entry_at cmp read (last_key front) bytes) → with_front front (ascending_at cmp read (last_key front) (count - i) bytes) ≡ total → Fails fault total
  unfolding ascending_at
  ascending_end Memory lt h so_far = tt
  ascending_end Malformed lt h so_far =
      let k : count - i ≡ suc (count - (i + 1)) = omega arith in
      let one : with_front front (ascending_at cmp read (last_key front) (count - i) bytes) ≡ None = rw (k, h) refl in
      sym so_far ∙ one

  pub ascending_done : count ≤ i → with_front front (ascending_at cmp read (last_key front) (count - i) bytes) ≡ total → total ≡ Some (front, bytes)
  unfolding ascending_at
  ascending_done le so_far =
      let k : count - i ≡ 0 = omega arith in
      let one : with_front front (ascending_at cmp read (last_key front) (count - i) bytes) ≡ Some (front, bytes) = rw k (ap (λ (all : List (K × V)). Some (all, bytes)) (append-nil front)) in
      sym so_far ∙ one
