-- A hall whose transaction wanted memory, and so wasn't made: it is as good as it was.
use Rattle.std.proofs.Common.{◌≡◌, ◌⊎◌, inl, inr, ℕ, ◌+◌, ◌<◌, ◌≤◌, true, false, cond, List, [], ◌∷◌, length, refl, sym, ap, subst, ◌∙◌, arith}
use Rattle.std.specs.Prelude.{nat_le}
use Rattle.std.specs.BTreeMap.{is_at}
use Rattle.std.specs.List.{AllByRecursion, Contains}
use Rattle.std.specs.Ordering.{is_eq, match_ordering, nat_cmp}
use Rattle.std.specs.declared.cmp.Ordering.TheVariants.{Less, Equal, Greater}
use Rattle.kinds.specs.declared.segment.Segment.{Segment}
use Rattle.inventory_rows.specs.version_groups.Entries.{all_later}
use Rattle.inventory_rows.specs.pool_tables.Rows.{with_row, without_row}
use Rattle.inventory_rows.specs.State.{Inv}
use Rattle.inventory_rules.specs.Reordered.{Picks}
use Rattle.inventory_laws.proofs.Lists.{each_also, each_joined, each_left, later_left}
use Rattle.inventory_laws.proofs.Orders.{picks_later}
use Rattle.inventory_laws.proofs.Origins.{contained_holds, each_contained}
use Rattle.space.specs.declared.places.Placed.{Placed}
use Rattle.machine.specs.Machine.{durable, freed}
use Rattle.machine.specs.State.{Core, inventory, unforced}
use Rattle.hall.specs.Placed.{IsNoted}
use Rattle.hall.proofs.Databases.{after_parts}
use Rattle.hall.proofs.JoinedFreed.{freed_before}
use Rattle.hall.proofs.Pairs.{each_appended}

-- ---- a row that comes and goes

module _ {V : Type 0} (k : ℕ) (new : V) where
  abbrev pub again : List (ℕ × V) → List (ℕ × V)
  again rows = without_row k (with_row k new rows)

  at_itself : is_at (nat_cmp k) k ≡ true
  at_itself = let e : nat_cmp k k ≡ Equal = grind arith in ap is_eq e

  equal_is : (n : ℕ) → nat_cmp k n ≡ Equal → k ≡ n
  equal_is n h = grind arith

  -- the rows are as they were, but for one with that number
  pub undone : (rows : List (ℕ × V)) → (again rows ≡ rows) ⊎ ((v : V) × Picks (k, v) rows (again rows))
  undone [] = inl (ap (λ b. cond {A = List (ℕ × V)} b [] ((k, new) ∷ [])) at_itself)
  undone (e ∷ rows) =
      elim (nat_cmp k e.0) as
      (λ o. nat_cmp k e.0 ≡ o → (without_row k (match_ordering o ((k, new) ∷ e ∷ rows) ((e.0, new) ∷ rows) (e ∷ with_row k new rows)) ≡ e ∷ rows)
      ⊎ ((v : V) × Picks (k, v) (e ∷ rows) (without_row k (match_ordering o ((k, new) ∷ e ∷ rows) ((e.0, new) ∷ rows) (e ∷ with_row k new rows))))) [
        | Less ↦ λ _. inl (ap (λ b. cond {A = List (ℕ × V)} b (e ∷ rows) ((k, new) ∷ without_row k (e ∷ rows))) at_itself)
        | Equal ↦ λ is. inr (
          e.1,
          record {
            before = [];
            after = rows;
            was = ap (λ n. (n, e.1) ∷ rows) (sym (equal_is e.0 is));
            becomes = ap (λ b. cond {A = List (ℕ × V)} b rows ((e.0, new) ∷ without_row k rows)) (ap is_eq is);
          },
        )
        | Greater ↦ λ is. behind e rows (ap is_eq is) (undone rows)
      ] refl
    where
      behind : (e : ℕ × V) (rows : List (ℕ × V)) → is_at (nat_cmp k) e.0 ≡ false → (again rows ≡ rows) ⊎ ((v : V) × Picks (k, v) rows (again rows))
          → (without_row k (e ∷ with_row k new rows) ≡ e ∷ rows) ⊎ ((v : V) × Picks (k, v) (e ∷ rows) (without_row k (e ∷ with_row k new rows)))
      behind e rows off (inl same) = inl (ap (λ b. cond {A = List (ℕ × V)} b (with_row k new rows) (e ∷ again rows)) off ∙ ap (λ (l : List (ℕ × V)). e ∷ l) same)
      behind e rows off (inr (v, picks)) =
          inr (v, subst (Picks (k, v) (e ∷ rows)) (sym (ap (λ b. cond {A = List (ℕ × V)} b (with_row k new rows) (e ∷ again rows)) off)) (picks_later e (k, v) rows (again rows) picks))

-- what isn't picked stays
picks_stay : {A : Type 0} (x : A) (old new : List A) → Picks x old new → AllByRecursion (λ e. (e ≡ x → ⊥) → Contains new e) old
picks_stay {A} x old new p =
    let parts = each_joined (Contains new) p.before p.after (subst (AllByRecursion (Contains new)) p.becomes (each_contained new)) in
    subst (AllByRecursion (λ (e : A). (e ≡ x → ⊥) → Contains new e)) (sym p.was)
    (each_appended (λ (e : A). (e ≡ x → ⊥) → Contains new e) p.before (x ∷ p.after) (each_also (Contains new) (λ (e : A). (e ≡ x → ⊥) → Contains new e) p.before (λ e there _. there) parts.0)
    ((λ other. absurd (other refl)), each_also (Contains new) (λ (e : A). (e ≡ x → ⊥) → Contains new e) p.after (λ e there _. there) parts.1))

module _ (v : Inv) (list : List (ℕ × Segment)) (k : ℕ) (places : List Placed) (rows : List (ℕ × List Placed)) (before : AllByRecursion (λ (a : ℕ × Segment). a.0 < k) list) where
  abbrev rows_now : List (ℕ × List Placed)
  rows_now = without_row k (with_row k places rows)

  pub still_noted : (number : ℕ) (s : Segment) → Contains list (number, s) → IsNoted rows number s → IsNoted rows_now number s
  still_noted number s there (ps, p, in_rows, in_places, is) = go (undone k places rows) where
    go : (rows_now ≡ rows) ⊎ ((old : List Placed) × Picks (k, old) rows rows_now) → IsNoted rows_now number s
    go (inl same) = (ps, p, subst (λ l. Contains l (number, ps)) (sym same) in_rows, in_places, is)
    go (inr (old, picks)) = (
      ps,
      p,
      contained_holds (λ (e : ℕ × List Placed). (e ≡ (k, old) → ⊥) → Contains rows_now e) rows (number, ps) in_rows (picks_stay (k, old) rows rows_now picks)
          (λ same. let lt : number < k = contained_holds (λ (a : ℕ × Segment). a.0 < k) list (number, s) there before in let n : number ≡ k = ap (λ (e : ℕ × List Placed). e.0) same in omega (arith, lt, n)),
      in_places,
      is,
    )

  pub none_new : (number : ℕ) (ps : List Placed) → Contains rows_now (number, ps) → Contains rows (number, ps)
  none_new number ps there = contained_holds (Contains rows) rows_now (number, ps) there (go (undone k places rows)) where
    go : (rows_now ≡ rows) ⊎ ((old : List Placed) × Picks (k, old) rows rows_now) → AllByRecursion (Contains rows) rows_now
    go (inl same) = subst (AllByRecursion (Contains rows)) (sym same) (each_contained rows)
    go (inr (old, picks)) = each_left (Contains rows) (k, old) rows rows_now picks (each_contained rows)

  pub still_ascending : all_later (λ (a b : ℕ × List Placed). nat_le (a.0 + 1) b.0) rows ≡ true → all_later (λ (a b : ℕ × List Placed). nat_le (a.0 + 1) b.0) rows_now ≡ true
  still_ascending h = go (undone k places rows) where
    go : (rows_now ≡ rows) ⊎ ((old : List Placed) × Picks (k, old) rows rows_now) → all_later (λ (a b : ℕ × List Placed). nat_le (a.0 + 1) b.0) rows_now ≡ true
    go (inl same) = ap (all_later (λ (a b : ℕ × List Placed). nat_le (a.0 + 1) b.0)) same ∙ h
    go (inr (old, picks)) = later_left (λ (a b : ℕ × List Placed). nat_le (a.0 + 1) b.0) (k, old) rows rows_now picks h

-- the numbers of what is freed are none behind the database's
pub freed_below : (c : Core) → AllByRecursion (λ (a : ℕ × Segment). a.0 < (inventory c).number + 1) (freed (durable c) (unforced c))
freed_below c =
    each_also (λ (a : ℕ × Segment). a.0 ≤ (inventory c).number) (λ (a : ℕ × Segment). a.0 < (inventory c).number + 1) (freed (durable c) (unforced c)) (λ a le. omega (arith, le))
    (subst (λ (v : Inv). AllByRecursion (λ (a : ℕ × Segment). a.0 ≤ v.number) (freed (durable c) (unforced c))) (after_parts (length c.stamps) c.base c.journal) (freed_before (durable c) (unforced c)))
