-- Whether a pool is sequential, by its device class.
use Rattle.std.proofs.Common.{◌≡◌, ℕ, ◌==◌, ◌&&◌, not, cond, Bool, true, false, is_none, is_some, List, [], ◌∷◌, map, Option, Some, None, refl, sym, ap, ◌∙◌, if◌then◌else◌}
use Rattle.std.proofs.lemmas.Bool.{false≢true}
use Rattle.std.specs.BTreeMap.{is_at}
use Rattle.std.specs.Cmp.Lexicographic.{slice_cmp}
use Rattle.std.specs.List.{find, list_all}
use Rattle.std.specs.Ordering.{nat_cmp}
use Rattle.kinds.specs.Names.{is_same_name}
use Rattle.inventory_rows.proofs.of_object_rows.Stands.{at-eqb}
use Rattle.inventory_rows.proofs.of_pool_tables.Names.{at_name, same_is}
use Rattle.inventory_rows.specs.pool_tables.declared.pool.Pool.{Pool}
use Rattle.inventory_rows.specs.pool_tables.Rows.{named, row_at}
use Rattle.inventory_rows.specs.pool_rows.PoolRows.{PoolRows, capacity_there, is_sequential, pool_class_capacity}
use Rattle.inventory_rows.specs.State.{Inv}
use Rattle.inventory_rules.specs.Valid.{disk, is_class, is_valid, next_is_there}
use Rattle.inventory_laws.proofs.Facts.{facts_of, first, rest}
use Rattle.inventory_laws.proofs.Names.{names_swap}
use Rattle.inventory_laws.proofs.RowsKept.{passes-lookup}
use Rattle.inventory_answers.specs.Stores.{pool_line, pool_lines}
use Rattle.inventory_answers.specs.declared.lines.PoolLine.{PoolLine}
use Rattle.reclamation.specs.Reclaiming.{is_disk, is_sequential_in, is_sequential_line}

-- ---- a class that is there

by-capacity : (b : Bool) (x : Option ℕ) → (if b then is_none x else is_some x) ≡ true → not b ≡ is_some x
by-capacity true None h = refl
by-capacity true (Some n) h = absurd (false≢true h)
by-capacity false None h = absurd (false≢true h)
by-capacity false (Some n) h = refl

class-sequential : (class : List ℕ) (x : Option ℕ) (classes : List (List ℕ × Option ℕ)) → list_all is_class classes ≡ true → named class classes ≡ Some x → not (is_disk class) ≡ is_some x
class-sequential class x classes all there =
    let k = passes-lookup is_class (is_at (slice_cmp nat_cmp class)) classes x all there in
    let same : class ≡ k.0 = same_is class k.0 (sym (at_name class k.0) ∙ k.1) in
    ap not (names_swap class disk ∙ ap (λ (n : List ℕ). is_same_name disk n) same) ∙ by-capacity (is_same_name disk k.0) x k.2

named-sequential : (class : List ℕ) (classes : List (List ℕ × Option ℕ)) → list_all is_class classes ≡ true → (o : Option (Option ℕ)) → named class classes ≡ o → is_some o ≡ true
    → not (is_disk class) ≡ is_some (capacity_there o)
named-sequential class classes all None is there = absurd (false≢true there)
named-sequential class classes all (Some x) is there = class-sequential class x classes all is

-- ---- a pool

abbrev is_sequential_row : Option Pool → Bool
is_sequential_row None = false
is_sequential_row (Some p) = not (is_disk p.class)

row-sequential : (pool : ℕ) (v : Inv) → is_valid v ≡ true → (o : Option Pool) → row_at pool v.stores.pools ≡ o → is_sequential_row o ≡ is_some (pool_class_capacity v.stores o)
row-sequential pool v valid None is = refl
row-sequential pool v valid (Some p) is =
    let facts = facts_of v valid in
    let k = passes-lookup (λ (e : ℕ × Pool). is_some (named e.1.class v.stores.classes) && next_is_there e.1.settings.next v) (is_at (nat_cmp pool)) v.stores.pools p facts.pools_cite is in
    named-sequential p.class v.stores.classes (rest (is_some (named disk v.stores.classes)) (list_all is_class v.stores.classes) facts.classes_are) (named p.class v.stores.classes) refl
    (first (is_some (named p.class v.stores.classes)) (next_is_there p.settings.next v) k.2)

line-sequential : (s : PoolRows) (pool : ℕ) (pools : List (ℕ × Pool)) → is_sequential_line (find (λ (l : PoolLine). l.number == pool) (map (pool_line s) pools)) ≡ is_sequential_row (row_at pool pools)
line-sequential s pool [] = refl
line-sequential s pool (p ∷ pools) =
    elim (p.0 == pool) as (λ b. is_sequential_line (cond b (Some (pool_line s p)) (find (λ (l : PoolLine). l.number == pool) (map (pool_line s) pools))) ≡ is_sequential_row (cond b (Some p.1) (row_at pool pools))) [
      | true ↦ refl
      | false ↦ line-sequential s pool pools
    ]
    ∙ ap (λ b. is_sequential_row (cond b (Some p.1) (row_at pool pools))) (sym (at-eqb pool p.0))

-- as the pools are listed, so it is
pub sequential-is : (pool : ℕ) (v : Inv) (lines : List PoolLine) → is_valid v ≡ true → lines ≡ pool_lines None v.stores → is_sequential_in pool lines ≡ is_sequential pool v.stores
sequential-is pool v lines valid h =
    ap (is_sequential_in pool) h ∙ line-sequential v.stores pool v.stores.pools ∙ row-sequential pool v valid (row_at pool v.stores.pools) refl
