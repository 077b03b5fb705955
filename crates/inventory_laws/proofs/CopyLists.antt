-- The copies of a version after one comes, goes, or takes the place of another.
use Rattle.std.proofs.Common.{◌≡◌, ℕ, ◌+◌, ◌<◌, ◌≤◌, Bool, true, false, cond, eqb, not, ◌&&◌, ◌||◌, List, [], ◌∷◌, length, Option, Some, refl, sym, ap, ◌∙◌, arith}
use Rattle.std.specs.Prelude.{nat_lt, nat_le}
use Rattle.std.proofs.lemmas.Bool.{false≢true, and_parts, and_from, leb-true, le-leb, ltb-true, ne_eqb, eqb-true}
use Rattle.std.specs.List.{list_all, filter, find, sum_by}
use Rattle.std.specs.Option.{is_some}
use Rattle.inventory_rules.specs.inventory_rows.version_groups.declared.copies.CopyRow.{CopyRow}
use Rattle.inventory_rules.specs.inventory_rows.version_groups.Copies.{are_by_pool, has_copy, with_copy, without_copy}
use Rattle.inventory_rules.specs.inventory_rows.version_groups.Entries.{is_nil}
use Rattle.inventory_rules.proofs.of_inventory_rows.of_version_groups.Lists.{by_pool-with_copy, by_pool-without_copy}
use Rattle.inventory_rules.proofs.of_inventory_rows.of_object_rows.Splices.{Splices, splice_behind}
use Rattle.inventory_laws.proofs.Spliced.{all_come, splice_filter, splice_length}

-- the copy in a pool
abbrev pub in_pool : ℕ → List CopyRow → Option CopyRow
in_pool pool cs = find (λ (c : CopyRow). eqb c.pool pool) cs

pub has-in_pool : (pool : ℕ) (cs : List CopyRow) → has_copy pool cs ≡ is_some (in_pool pool cs)
has-in_pool pool [] = refl
has-in_pool pool (c ∷ cs) = elim (eqb c.pool pool) as (λ b. (b || has_copy pool cs) ≡ is_some (cond b (Some c) (in_pool pool cs))) [ true ↦ refl | false ↦ has-in_pool pool cs ]

-- nothing goes where all lie in pools of higher numbers
all_higher : (pool : ℕ) (cs : List CopyRow) → list_all (λ (d : CopyRow). nat_lt pool d.pool) cs ≡ true → without_copy pool cs ≡ cs
all_higher pool [] h = refl
all_higher pool (c ∷ cs) h =
    let hs : (nat_lt pool c.pool ≡ true) × (list_all (λ (d : CopyRow). nat_lt pool d.pool) cs ≡ true) = and_parts (nat_lt pool c.pool) (list_all (λ (d : CopyRow). nat_lt pool d.pool) cs) h in
    let above : pool < c.pool = ltb-true pool c.pool hs.0 in
    let other : eqb c.pool pool ≡ false = ne_eqb c.pool pool (λ e. omega (arith, e, above)) in
    ap (λ b. cond (not b) (c ∷ without_copy pool cs) (without_copy pool cs)) other ∙ ap (λ t. c ∷ t) (all_higher pool cs hs.1)

-- one copy goes
pub copy_goes : (pool : ℕ) (cs : List CopyRow) (old : CopyRow) → are_by_pool cs ≡ true → in_pool pool cs ≡ Some old → Splices (old ∷ []) [] cs (without_copy pool cs)
copy_goes pool [] old s h = absurd (cc)
copy_goes pool (c ∷ cs) old s h =
    let ss : (list_all (λ (d : CopyRow). nat_lt c.pool d.pool) cs ≡ true) × (are_by_pool cs ≡ true) = and_parts (list_all (λ (d : CopyRow). nat_lt c.pool d.pool) cs) (are_by_pool cs) s in
    elim (eqb c.pool pool) as (λ b. eqb c.pool pool ≡ b → cond b (Some c) (in_pool pool cs) ≡ Some old → Splices (old ∷ []) [] (c ∷ cs) (cond (not b) (c ∷ without_copy pool cs) (without_copy pool cs))) [
      | true ↦ λ e t.
          let same : c ≡ old = cc in
          record {
            before = [];
            after = cs;
            was = ap (λ z. z ∷ cs) same;
            becomes = all_higher pool cs (ap (λ p. list_all (λ (d : CopyRow). nat_lt p d.pool) cs) (sym (eqb-true c.pool pool e)) ∙ ss.0);
          }
      | false ↦ λ _ t. splice_behind (c ∷ []) (copy_goes pool cs old ss.1 t)
    ] refl h

-- one copy comes
pub copy_comes : (copy : CopyRow) (cs : List CopyRow) → Splices [] (copy ∷ []) cs (with_copy copy cs)
copy_comes copy [] = record { before = []; after = []; was = refl; becomes = refl }
copy_comes copy (c ∷ cs) =
    elim (nat_lt copy.pool c.pool) as (λ b. Splices [] (copy ∷ []) (c ∷ cs) (cond b (copy ∷ c ∷ cs) (c ∷ with_copy copy cs))) [
      | true ↦ record { before = []; after = c ∷ cs; was = refl; becomes = refl }
      | false ↦ splice_behind (c ∷ []) (copy_comes copy cs)
    ]

-- ---- what is asked of the copies of a version
module _ (primary : CopyRow → Bool) (size : ℕ) where
  abbrev pub has_size : CopyRow → Bool
  has_size c = eqb (sum_by (λ s. s.len) c.segments) size

  abbrev pub are_sound : List CopyRow → Bool
  are_sound cs = not (is_nil cs) && (nat_le (length (filter primary cs)) 1 && (are_by_pool cs && list_all has_size cs))

  record Sound (cs : List CopyRow) : Type 0 where
    pub some : not (is_nil cs) ≡ true
    pub one : nat_le (length (filter primary cs)) 1 ≡ true
    pub by_pool : are_by_pool cs ≡ true
    pub sized : list_all has_size cs ≡ true

  sound_parts : (cs : List CopyRow) → are_sound cs ≡ true → Sound cs
  sound_parts cs h =
      let a : (not (is_nil cs) ≡ true) × ((nat_le (length (filter primary cs)) 1 && (are_by_pool cs && list_all has_size cs)) ≡ true) = and_parts (not (is_nil cs)) (nat_le (length (filter primary cs)) 1 && (are_by_pool cs && list_all has_size cs)) h in
      let b : (nat_le (length (filter primary cs)) 1 ≡ true) × ((are_by_pool cs && list_all has_size cs) ≡ true) = and_parts (nat_le (length (filter primary cs)) 1) (are_by_pool cs && list_all has_size cs) a.1 in
      let c : (are_by_pool cs ≡ true) × (list_all has_size cs ≡ true) = and_parts (are_by_pool cs) (list_all has_size cs) b.1 in
      record { some = a.0; one = b.0; by_pool = c.0; sized = c.1 }

  sound_from : (cs : List CopyRow) → Sound cs → are_sound cs ≡ true
  sound_from cs s =
      and_from (not (is_nil cs)) (nat_le (length (filter primary cs)) 1 && (are_by_pool cs && list_all has_size cs)) s.some
      (and_from (nat_le (length (filter primary cs)) 1) (are_by_pool cs && list_all has_size cs) s.one (and_from (are_by_pool cs) (list_all has_size cs) s.by_pool s.sized))

  pub sound_by_pool : (cs : List CopyRow) → are_sound cs ≡ true → are_by_pool cs ≡ true
  sound_by_pool cs h = (sound_parts cs h).by_pool

  some_left : (cs : List CopyRow) → 1 ≤ length cs → not (is_nil cs) ≡ true
  some_left [] h = absurd (omega arith)
  some_left (c ∷ cs) h = refl

  -- one of two copies or more goes
  pub sound_dropped : (pool : ℕ) (cs : List CopyRow) (old : CopyRow) → in_pool pool cs ≡ Some old → nat_le 2 (length cs) ≡ true → are_sound cs ≡ true → are_sound (without_copy pool cs) ≡ true
  sound_dropped pool cs old h two a =
      let p : Sound cs = sound_parts cs a in
      let s : Splices (old ∷ []) [] cs (without_copy pool cs) = copy_goes pool cs old p.by_pool h in
      let long : length (without_copy pool cs) + length (old ∷ []) ≡ length cs + length {A = CopyRow} [] = splice_length s in
      let least : 2 ≤ length cs = leb-true 2 (length cs) two in
      let left : length (filter primary (without_copy pool cs)) + length (filter primary (old ∷ [])) ≡ length (filter primary cs) + length {A = CopyRow} [] = splice_length (splice_filter primary s) in
      let most : length (filter primary cs) ≤ 1 = leb-true (length (filter primary cs)) 1 p.one in
      sound_from (without_copy pool cs) (record {
        some = some_left (without_copy pool cs) (omega (arith, long, least));
        one = le-leb (length (filter primary (without_copy pool cs))) 1 (omega (arith, left, most));
        by_pool = by_pool-without_copy pool cs p.by_pool;
        sized = all_come has_size s p.sized refl;
      })

  some_with : (copy : CopyRow) (cs : List CopyRow) → not (is_nil (with_copy copy cs)) ≡ true
  some_with copy [] = refl
  some_with copy (c ∷ cs) = elim (nat_lt copy.pool c.pool) as (λ b. not (is_nil (cond b (copy ∷ c ∷ cs) (c ∷ with_copy copy cs))) ≡ true) [ true ↦ refl | false ↦ refl ]

  none_long : (cs : List CopyRow) → is_nil cs ≡ true → length cs ≡ 0
  none_long [] h = refl
  none_long (c ∷ cs) h = absurd (false≢true h)

  -- a primary copy comes only where no other is
  one_primary : (copy : CopyRow) (n m : ℕ) (none : Bool) → n ≡ m + length (filter primary (copy ∷ [])) → m ≤ 1 → (not (primary copy) || none) ≡ true → (none ≡ true → m ≡ 0) → n ≤ 1
  one_primary copy n m none e most free zero_there =
      elim (primary copy) as (λ b. n ≡ m + length (cond b (copy ∷ []) []) → (not b || none) ≡ true → n ≤ 1) [
        | true ↦ λ u t. let z : m ≡ 0 = zero_there t in let v : n ≡ m + 1 = u in omega (arith, z, v)
        | false ↦ λ u t. let v : n ≡ m + 0 = u in omega (arith, v, most)
      ] e free

  -- a copy comes beside others, none of which lies in its pool
  pub sound_added : (copy : CopyRow) (cs : List CopyRow) → has_copy copy.pool cs ≡ false → has_size copy ≡ true → (not (primary copy) || is_nil (filter primary cs)) ≡ true → nat_le (length (filter primary cs)) 1 ≡ true → are_by_pool cs ≡ true → list_all has_size cs ≡ true
      → are_sound (with_copy copy cs) ≡ true
  sound_added copy cs free full alone one by_pool sized =
      let s : Splices [] (copy ∷ []) cs (with_copy copy cs) = copy_comes copy cs in
      let left : length (filter primary (with_copy copy cs)) + length {A = CopyRow} [] ≡ length (filter primary cs) + length (filter primary (copy ∷ [])) = splice_length (splice_filter primary s) in
      let even : length (filter primary (with_copy copy cs)) ≡ length (filter primary cs) + length (filter primary (copy ∷ [])) = omega (arith, left) in
      let most : length (filter primary cs) ≤ 1 = leb-true (length (filter primary cs)) 1 one in
      sound_from (with_copy copy cs) (record {
        some = some_with copy cs;
        one = le-leb (length (filter primary (with_copy copy cs))) 1 (one_primary copy (length (filter primary (with_copy copy cs))) (length (filter primary cs)) (is_nil (filter primary cs)) even most alone (none_long (filter primary cs)));
        by_pool = by_pool-with_copy copy cs free by_pool;
        sized = all_come has_size s sized (and_from (has_size copy) true full refl);
      })

  pub sound_more : (copy : CopyRow) (cs : List CopyRow) → are_sound cs ≡ true → has_copy copy.pool cs ≡ false → has_size copy ≡ true → (not (primary copy) || is_nil (filter primary cs)) ≡ true → are_sound (with_copy copy cs) ≡ true
  sound_more copy cs a free full alone =
      let p : Sound cs = sound_parts cs a in
      sound_added copy cs free full alone p.one p.by_pool p.sized

  -- where all primary copies lie in one pool, none is left without that pool
  none_elsewhere : (pool : ℕ) (cs : List CopyRow) → list_all (λ (c : CopyRow). eqb c.pool pool) (filter primary cs) ≡ true → is_nil (filter primary (without_copy pool cs)) ≡ true
  none_elsewhere pool [] h = refl
  none_elsewhere pool (c ∷ cs) h =
      elim (primary c) as (λ b. primary c ≡ b → list_all (λ (c : CopyRow). eqb c.pool pool) (cond b (c ∷ filter primary cs) (filter primary cs)) ≡ true → is_nil (filter primary (cond (not (eqb c.pool pool)) (c ∷ without_copy pool cs) (without_copy pool cs))) ≡ true) [
        | true ↦ λ _ t.
            let hs : (eqb c.pool pool ≡ true) × (list_all (λ (c : CopyRow). eqb c.pool pool) (filter primary cs) ≡ true) = and_parts (eqb c.pool pool) (list_all (λ (c : CopyRow). eqb c.pool pool) (filter primary cs)) t in
            ap (λ b. is_nil (filter primary (cond (not b) (c ∷ without_copy pool cs) (without_copy pool cs)))) hs.0 ∙ none_elsewhere pool cs hs.1
        | false ↦ λ no t.
            elim (eqb c.pool pool) as (λ b. is_nil (filter primary (cond (not b) (c ∷ without_copy pool cs) (without_copy pool cs))) ≡ true) [
              | true ↦ none_elsewhere pool cs t
              | false ↦ ap (λ b. is_nil (cond b (c ∷ filter primary (without_copy pool cs)) (filter primary (without_copy pool cs)))) no ∙ none_elsewhere pool cs t
            ]
      ] refl h

  either : (b none more : Bool) → (not b || none) ≡ true → (none ≡ true → more ≡ true) → (not b || more) ≡ true
  either true none more h f = f h
  either false none more h f = refl

  -- a copy takes the place of another
  pub sound_replaced : (pool : ℕ) (copy : CopyRow) (cs : List CopyRow) (old : CopyRow) → in_pool pool cs ≡ Some old → has_copy copy.pool (without_copy pool cs) ≡ false → has_size copy ≡ true
      → (not (primary copy) || list_all (λ (c : CopyRow). eqb c.pool pool) (filter primary cs)) ≡ true → are_sound cs ≡ true → are_sound (with_copy copy (without_copy pool cs)) ≡ true
  sound_replaced pool copy cs old h free full alone a =
      let p : Sound cs = sound_parts cs a in
      let s : Splices (old ∷ []) [] cs (without_copy pool cs) = copy_goes pool cs old p.by_pool h in
      let left : length (filter primary (without_copy pool cs)) + length (filter primary (old ∷ [])) ≡ length (filter primary cs) + length {A = CopyRow} [] = splice_length (splice_filter primary s) in
      let most : length (filter primary cs) ≤ 1 = leb-true (length (filter primary cs)) 1 p.one in
      sound_added copy (without_copy pool cs) free full
      (either (primary copy) (list_all (λ (c : CopyRow). eqb c.pool pool) (filter primary cs)) (is_nil (filter primary (without_copy pool cs))) alone (none_elsewhere pool cs))
      (le-leb (length (filter primary (without_copy pool cs))) 1 (omega (arith, left, most)))
      (by_pool-without_copy pool cs p.by_pool)
      (all_come has_size s p.sized refl)
