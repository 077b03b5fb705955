-- The rows of the volumes, after one came, changed or went, as changes at one volume.
use Rattle.std.proofs.Common.{◌≡◌, ℕ, ◌+◌, Bool, true, false, cond, List, [], ◌∷◌, Option, Some, None, refl, sym, ap, ◌∙◌, arith}
use Rattle.std.specs.Prelude.{◌≢◌}
use Rattle.std.specs.List.Sorted.{IsStrictlySortedBy}
use Rattle.std.specs.Map.{keys_of}
use Rattle.std.specs.BTreeMap.{is_at}
use Rattle.std.specs.Ordering.{nat_cmp, match_ordering}
use Rattle.std.specs.declared.cmp.Ordering.TheVariants.{Less, Equal, Greater}
use Rattle.std.proofs.lemmas.Map.Lookups.{exact_unsigned}
use Rattle.volume_rows.specs.declared.volume.Volume.{Volume}
use Rattle.volume_rows.proofs.Entries.{lookup-inserted}
use Rattle.pool_tables.specs.Rows.{row_at, with_row, without_row, set_row, edited, edit_row}
use Rattle.pool_tables.proofs.Counting.{at_is, apart_at, row_at-set_other}
use Rattle.pool_tables.proofs.Tables.{lookup-set}
use Rattle.pool_rows.specs.PoolRows.{PoolRows}
use Rattle.space_index.specs.Updates.{ChangesAt, rows_with}
use Rattle.space_index.proofs.Numbers.{Ascends, ascends_sorted, ascends_rest, none_below}

first_apart : (q k : ℕ) (v : Volume) (rest : Option Volume) → q ≢ k → cond (is_at (nat_cmp q) k) (Some v) rest ≡ rest
first_apart q k v rest apart = ap (λ (b : Bool). cond b (Some v) rest) (apart_at q k apart)

pub inserted_other : (k q : ℕ) (v : Volume) (rows : List (ℕ × Volume)) → q ≢ k → row_at q (with_row k v rows) ≡ row_at q rows
inserted_other k q v [] apart = first_apart q k v None apart
inserted_other k q v (e ∷ rows) apart =
    elim (nat_cmp k e.0) as (λ o. nat_cmp k e.0 ≡ o → row_at q (match_ordering o ((k, v) ∷ e ∷ rows) ((e.0, v) ∷ rows) (e ∷ with_row k v rows)) ≡ row_at q (e ∷ rows)) [
      | Less ↦ λ h. first_apart q k v (row_at q (e ∷ rows)) apart
      | Equal ↦ λ h.
          let other : q ≢ e.0 = λ same. apart (same ∙ sym (exact_unsigned k e.0 h)) in
          first_apart q e.0 v (row_at q rows) other ∙ sym (first_apart q e.0 e.1 (row_at q rows) other)
      | Greater ↦ λ h. ap (λ (o : Option Volume). cond (is_at (nat_cmp q) e.0) (Some e.1) o) (inserted_other k q v rows apart)
    ] refl

itself : (n : ℕ) → nat_cmp n n ≡ Equal
itself n = grind arith

removed_other : (k q : ℕ) (rows : List (ℕ × Volume)) → q ≢ k → row_at q (without_row k rows) ≡ row_at q rows
removed_other k q [] apart = refl
removed_other k q (e ∷ rows) apart =
    elim (is_at (nat_cmp k) e.0) as (λ b. is_at (nat_cmp k) e.0 ≡ b → row_at q (cond b rows (e ∷ without_row k rows)) ≡ row_at q (e ∷ rows)) [
      | true ↦ λ same. sym (first_apart q e.0 e.1 (row_at q rows) (λ h. apart (h ∙ sym (at_is k e.0 same))))
      | false ↦ λ other. ap (λ (o : Option Volume). cond (is_at (nat_cmp q) e.0) (Some e.1) o) (removed_other k q rows apart)
    ] refl

removed_here : (k low : ℕ) (rows : List (ℕ × Volume)) → Ascends low rows → row_at k (without_row k rows) ≡ None
removed_here k low [] is = refl
removed_here k low (e ∷ rows) is =
    elim (is_at (nat_cmp k) e.0) as (λ b. is_at (nat_cmp k) e.0 ≡ b → row_at k (cond b rows (e ∷ without_row k rows)) ≡ None) [
      | true ↦ λ same. none_below (e.0 + 1) k rows (ascends_rest low e rows is) (omega (arith, at_is k e.0 same))
      | false ↦ λ other. ap (λ (b : Bool). cond b (Some e.1) (row_at k (without_row k rows))) other ∙ removed_here k (e.0 + 1) rows (ascends_rest low e rows is)
    ] refl

pub row_comes : (s : PoolRows) (file : ℕ) (v : Volume) → row_at file s.volumes ≡ None → ChangesAt file s (rows_with s (with_row file v s.volumes)) × (row_at file (with_row file v s.volumes) ≡ Some v)
row_comes s file v absent = (
  record { others = λ q apart. inserted_other file q v s.volumes apart; kinds = λ pool. refl },
  lookup-inserted nat_cmp itself s.volumes file v absent,
)

pub row_changes : (s : PoolRows) (file : ℕ) (edit : Volume → Volume) (v : Volume) → row_at file s.volumes ≡ Some v → ChangesAt file s (rows_with s (edit_row file edit s.volumes)) × (row_at file (edit_row file edit s.volumes) ≡ Some (edit v))
row_changes s file edit v there =
    let is : edit_row file edit s.volumes ≡ set_row file (edit v) s.volumes = ap (edited file edit s.volumes) there in (
      record { others = λ q apart. ap (row_at q) is ∙ row_at-set_other file q (edit v) s.volumes (λ h. apart (sym h)); kinds = λ pool. refl },
      ap (row_at file) is ∙ lookup-set (is_at (nat_cmp file)) v (edit v) s.volumes there,
    )

pub row_goes : (s : PoolRows) (file : ℕ) → IsStrictlySortedBy nat_cmp (keys_of s.volumes) → ChangesAt file s (rows_with s (without_row file s.volumes)) × (row_at file (without_row file s.volumes) ≡ None)
row_goes s file sorted = (
  record { others = λ q apart. removed_other file q s.volumes apart; kinds = λ pool. refl },
  removed_here file 0 s.volumes (ascends_sorted s.volumes sorted),
)
