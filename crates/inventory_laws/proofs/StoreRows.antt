-- Rows by number, after one came, went or changed.
use Rattle.std.proofs.Common.{◌≡◌, ℕ, Bool, true, false, cond, not, List, [], ◌∷◌, map, Option, Some, None, is_some, refl, sym, ap, subst, ◌∙◌, arith}
use Rattle.std.specs.List.{list_all, AllByRecursion}
use Rattle.std.specs.BTreeMap.{is_at}
use Rattle.std.specs.Ordering.{nat_cmp}
use Rattle.std.proofs.lemmas.Bool.{and_from, false≢true, not_from_false}
use Rattle.std.proofs.lemmas.Option.{same_Some}
use Rattle.inventory_rules.specs.Reordered.{Picks}
use Rattle.kinds.specs.Names.{is_same_name}
use Rattle.inventory_rules.specs.inventory_rows.pool_tables.Rows.{row_at, with_row, without_row, set_row, number_where}
use Rattle.inventory_rules.proofs.of_inventory_rows.of_pool_tables.Counting.{at_is, apart_at, each_set, each_there}
use Rattle.inventory_rules.proofs.of_inventory_rows.of_pool_tables.Names.{same_flips}
use Rattle.inventory_laws.proofs.Lists.{all_of, all_from, came, went, lookup_left}

pub row_came : {V : Type 0} (k : ℕ) (v : V) (rows : List (ℕ × V)) → row_at k rows ≡ None → Picks (k, v) (with_row k v rows) rows
row_came k v rows absent = came nat_cmp k v rows absent

pub row_went : {V : Type 0} (k : ℕ) (v : V) (rows : List (ℕ × V)) → row_at k rows ≡ Some v → Picks (k, v) rows (without_row k rows)
row_went {V} k v rows there =
    let w = went (is_at (nat_cmp k)) rows v there in subst (λ (n : ℕ). Picks (n, v) rows (without_row k rows)) (sym (at_is k w.0 w.1)) w.2

-- the rows under other numbers stay
pub other_row : {V : Type 0} (k q : ℕ) (v : V) (old new : List (ℕ × V)) → Picks (k, v) old new → (q ≡ k → ⊥) → row_at q old ≡ row_at q new
other_row k q v old new p ne = lookup_left (is_at (nat_cmp q)) (k, v) old new p (apart_at q k ne)

-- a number under which a row is found is none that is free
pub found_apart : {V : Type 0} (k q : ℕ) (rows : List (ℕ × V)) → row_at k rows ≡ None → is_some (row_at q rows) ≡ true → q ≡ k → ⊥
found_apart {V} k q rows absent there same = false≢true (sym (ap is_some absent) ∙ subst (λ (n : ℕ). is_some (row_at n rows) ≡ true) same there)

pub nat_itself : (n : ℕ) → is_at (nat_cmp n) n ≡ true
nat_itself n = grind arith

some_first : {V : Type 0} (n : ℕ) (v : V) (o : Option V) → is_some (cond (is_at (nat_cmp n) n) (Some v) o) ≡ true
some_first n v o = ap (λ b. is_some (cond b (Some v) o)) (nat_itself n)

some_either : {V : Type 0} (b : Bool) (v : V) (o : Option V) → is_some o ≡ true → is_some (cond b (Some v) o) ≡ true
some_either true v o h = refl
some_either false v o h = h

-- what is found, where something is
pub some_from : {A : Type 0} (o : Option A) → is_some o ≡ true → (x : A) × (o ≡ Some x)
some_from None h = absurd (false≢true h)
some_from (Some x) h = (x, refl)

-- a number that a search gives is a row's
pub number_there : {V : Type 0} (p : V → Bool) (n : ℕ) (rows : List (ℕ × V)) → number_where p rows ≡ Some n → is_some (row_at n rows) ≡ true
number_there p n [] h = absurd cc
number_there {V} p n (e ∷ rows) h =
    elim (p e.1) as (λ b. cond b (Some e.0) (number_where p rows) ≡ Some n → is_some (row_at n (e ∷ rows)) ≡ true) [
      | true ↦ λ t. subst (λ (m : ℕ). is_some (row_at m (e ∷ rows)) ≡ true) (same_Some e.0 n t) (some_first e.0 e.1 (row_at e.0 rows))
      | false ↦ λ t. some_either (is_at (nat_cmp n) e.0) e.1 (row_at n rows) (number_there p n rows t)
    ] h

pub none_where : {V : Type 0} (p : V → Bool) (rows : List (ℕ × V)) → number_where p rows ≡ None → AllByRecursion (λ (e : ℕ × V). p e.1 ≡ false) rows
none_where p [] h = tt
none_where {V} p (e ∷ rows) h =
    elim (p e.1) as (λ b. p e.1 ≡ b → cond b (Some e.0) (number_where p rows) ≡ None → AllByRecursion (λ (e : ℕ × V). p e.1 ≡ false) (e ∷ rows)) [
      | true ↦ λ _ t. absurd cc
      | false ↦ λ no t. (no, none_where p rows t)
    ] refl h

-- a name that no row has differs from each row's
pub name_free : {V : Type 0} (name_of : V → List ℕ) (name : List ℕ) (rows : List (ℕ × V)) → number_where (λ row. is_same_name (name_of row) name) rows ≡ None → list_all (λ other. not (is_same_name name other)) (map (λ e. name_of e.1) rows) ≡ true
name_free {V} name_of name rows h = go rows (none_where (λ row. is_same_name (name_of row) name) rows h) where
  go : (rows : List (ℕ × V)) → AllByRecursion (λ (e : ℕ × V). is_same_name (name_of e.1) name ≡ false) rows → list_all (λ other. not (is_same_name name other)) (map (λ e. name_of e.1) rows) ≡ true
  go [] t = refl
  go (e ∷ rows) t =
      and_from (not (is_same_name name (name_of e.1))) (list_all (λ other. not (is_same_name name other)) (map (λ e. name_of e.1) rows))
      (not_from_false (is_same_name name (name_of e.1)) (same_flips name (name_of e.1) ∙ t.0)) (go rows t.1)

-- ---- a row changes

either : {V Y : Type 0} (F : Option V → Y) (b : Bool) (w v : V) (o : Option V) → F (Some w) ≡ F (Some v) → F (cond b (Some w) o) ≡ F (cond b (Some v) o)
either F true w v o h = h
either F false w v o h = refl

otherwise : {V Y : Type 0} (F : Option V → Y) (b : Bool) (v : V) (o p : Option V) → F o ≡ F p → F (cond b (Some v) o) ≡ F (cond b (Some v) p)
otherwise F true v o p h = refl
otherwise F false v o p h = h

-- what doesn't see the change is the same of each row
pub seen_same : {V Y : Type 0} (F : Option V → Y) (k q : ℕ) (v w : V) (rows : List (ℕ × V)) → row_at k rows ≡ Some v → F (Some w) ≡ F (Some v) → F (row_at q (set_row k w rows)) ≡ F (row_at q rows)
seen_same F k q v w [] there same = absurd cc
seen_same {V} {Y} F k q v w (e ∷ rows) there same =
    elim (is_at (nat_cmp k) e.0) as (λ b. cond b (Some e.1) (row_at k rows) ≡ Some v → F (row_at q (cond b ((e.0, w) ∷ rows) (e ∷ set_row k w rows))) ≡ F (row_at q (e ∷ rows))) [
      | true ↦ λ s. either F (is_at (nat_cmp q) e.0) w e.1 (row_at q rows) (same ∙ ap (λ (x : V). F (Some x)) (sym (same_Some e.1 v s)))
      | false ↦ λ s. otherwise F (is_at (nat_cmp q) e.0) e.1 (row_at q (set_row k w rows)) (row_at q rows) (seen_same F k q v w rows s same)
    ] there

-- and what is read of all rows
pub map_same : {V Y : Type 0} (g : ℕ × V → Y) (k : ℕ) (v w : V) (rows : List (ℕ × V)) → row_at k rows ≡ Some v → ((q : ℕ) → g (q, w) ≡ g (q, v)) → map g (set_row k w rows) ≡ map g rows
map_same g k v w [] there same = absurd cc
map_same {V} {Y} g k v w (e ∷ rows) there same =
    elim (is_at (nat_cmp k) e.0) as (λ b. cond b (Some e.1) (row_at k rows) ≡ Some v → map g (cond b ((e.0, w) ∷ rows) (e ∷ set_row k w rows)) ≡ map g (e ∷ rows)) [
      | true ↦ λ s. ap (λ (y : Y). y ∷ map g rows) (same e.0 ∙ ap (λ (x : V). g (e.0, x)) (sym (same_Some e.1 v s)))
      | false ↦ λ s. ap (λ (l : List Y). g e ∷ l) (map_same g k v w rows s same)
    ] there

pub all_set : {V : Type 0} (p : ℕ × V → Bool) (k : ℕ) (w : V) (rows : List (ℕ × V)) → p (k, w) ≡ true → list_all p rows ≡ true → list_all p (set_row k w rows) ≡ true
all_set p k w rows at h = all_from p (set_row k w rows) (each_set (λ e. p e ≡ true) k w rows at (all_of p rows h))

pub all_there : {V : Type 0} (p : ℕ × V → Bool) (k : ℕ) (v : V) (rows : List (ℕ × V)) → row_at k rows ≡ Some v → list_all p rows ≡ true → p (k, v) ≡ true
all_there p k v rows there h = each_there (λ e. p e ≡ true) k v rows there (all_of p rows h)
