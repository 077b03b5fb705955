-- The counts that are kept, after each change.
use Rattle.std.proofs.Common.{◌≡◌, ℕ, ◌+◌, Bool, true, List, [], ◌∷◌, length, Option, Some, None, sum_by, refl, sym, ap, subst, ◌∙◌, arith}
use Rattle.std.proofs.lemmas.List.Sums.{sum_by-cons}
use Rattle.std.specs.Map.{values_of}
use Rattle.version_groups.specs.declared.group.Group.{Group}
use Rattle.version_groups.specs.declared.group.GroupChange.TheVariants.{Remove, Undo}
use Rattle.version_groups.specs.declared.groups.Filespace.{Filespace}
use Rattle.version_groups.specs.Groups.{versions_after}
use Rattle.version_groups.specs.Versions.{are_distinct}
use Rattle.object_rows.specs.declared.tally.Tally.{Tally}
use Rattle.object_rows.specs.declared.place.Place.{Place}
use Rattle.object_rows.specs.Filespaces.{group_at, versions_at}
use Rattle.object_rows.specs.Items.{items_of_filespace, items_of_filespaces, items_of_group, items_of_version, items_with}
use Rattle.object_rows.specs.Places.{Indexed}
use Rattle.object_rows.specs.Rows.{NewestIs}
use Rattle.object_rows.specs.Tally.{Counts, CountsEach, Exchanges, ExchangesAt, IsCounted, Owes, OwesEach, WeighsTheSame, kept_at, placed_in, weigh_at, weigh_filespaces, weigh_group, weigh_groups}
use Rattle.object_rows.proofs.Kept.{distinct_at}
use Rattle.object_rows.proofs.Stands.{distinct-listed}
use Rattle.object_rows.proofs.Weights.{exchange_remove, exchange_undo}

-- ---- items as a weight

each_more : (a b n l w s : ℕ) → a ≡ n + b → b ≡ l + s → w ≡ n + s → a ≡ l + w
each_more a b n l w s h i e = omega (arith, h, i, e)

with_length : {X : Type 0} (f : X → ℕ) (xs : List X) → sum_by (λ x. 1 + f x) xs ≡ length xs + sum_by f xs
with_length f [] = refl
with_length f (x ∷ xs) =
    let rest : sum_by (λ y. 1 + f y) xs ≡ length xs + sum_by f xs = with_length f xs in
    omega (arith, rest, sum_by-cons (λ y. 1 + f y) x xs, sum_by-cons f x xs)

pub at_values : {K X : Type 0} (f : X → ℕ) (es : List (K × X)) → sum_by f (values_of es) ≡ sum_by (λ e. f e.1) es
at_values f [] = refl
at_values {K} {X} f (e ∷ es) = sum_by-cons f e.1 (values_of es) ∙ ap (λ n. f e.1 + n) (at_values f es) ∙ sym (sum_by-cons (λ (x : K × X). f x.1) e es)

sum_alike : {X : Type 0} (f g : X → ℕ) → ((x : X) → f x ≡ g x) → (xs : List X) → sum_by f xs ≡ sum_by g xs
sum_alike f g same [] = refl
sum_alike f g same (x ∷ xs) = sum_by-cons f x xs ∙ ap (λ n. n + sum_by f xs) (same x) ∙ ap (λ n. g x + n) (sum_alike f g same xs) ∙ sym (sum_by-cons g x xs)

group_items : (g : Group) → weigh_group 1 items_with g ≡ 1 + items_of_group g
group_items g = ap (λ n. 1 + n) (with_length items_of_version g.versions)

groups_items : (f : Filespace) → weigh_groups 1 items_with f.groups ≡ items_of_filespace f
groups_items f =
    at_values (weigh_group 1 items_with) f.groups
    ∙ sum_alike (λ (e : List ℕ × Group). weigh_group 1 items_with e.1) (λ (e : List ℕ × Group). 1 + items_of_group e.1) (λ e. group_items e.1) f.groups
    ∙ with_length (λ (e : List ℕ × Group). items_of_group e.1) f.groups

pub all_items : (fs : List (ℕ × Filespace)) → weigh_filespaces 1 items_with fs ≡ items_of_filespaces fs
all_items fs =
    at_values (λ (f : Filespace). weigh_groups 1 items_with f.groups) fs
    ∙ sum_alike (λ (e : ℕ × Filespace). weigh_groups 1 items_with e.1.groups) (λ (e : ℕ × Filespace). items_of_filespace e.1) (λ e. groups_items e.1) fs

-- ---- what left and what came

pub settled : (kept : Option ℕ) (new old was now : ℕ) → new + was ≡ old + now → Owes was (old + now) kept → Counts new kept
settled None new old was now e h = tt
settled (Some n) new old was now e h = omega (arith, e, h)

pub settled_each : (kept : Option (List (ℕ × ℕ))) (new old was now : ℕ → ℕ) → ((pool : ℕ) → new pool + was pool ≡ old pool + now pool) → OwesEach was (λ pool. old pool + now pool) kept → CountsEach new kept
settled_each None new old was now e h = tt
settled_each (Some counts) new old was now e h = λ pool. settled_one (kept_at pool counts) (new pool) (old pool) (was pool) (now pool) (e pool) (h pool) where
  settled_one : (n a b c d : ℕ) → a + c ≡ b + d → n + c ≡ b + d → n ≡ a
  settled_one n a b c d h i = omega (arith, h, i)

pub counted_after : (k n : ℕ) (path : List ℕ) (fs new : List (ℕ × Filespace)) (was left now : Tally) → ExchangesAt n path k fs new
    → ((total : ℕ) → Counts total was.items → Owes (weigh_at 1 items_with k (group_at n path fs)) total left.items)
    → ((owed total : ℕ) → Owes owed total left.items → Owes owed (total + weigh_at 1 items_with k (group_at n path new)) now.items)
    → ((total : ℕ → ℕ) → CountsEach total was.pools → OwesEach (λ pool. weigh_at 0 (placed_in pool) k (group_at n path fs)) total left.pools)
    → ((owed total : ℕ → ℕ) → OwesEach owed total left.pools → OwesEach owed (λ pool. total pool + weigh_at 0 (placed_in pool) k (group_at n path new)) now.pools)
    → IsCounted was fs → IsCounted now new
counted_after k n path fs new was left now e leaves enters leaves_each enters_each i = record {
  items =
      let out : ℕ = weigh_at 1 items_with k (group_at n path fs) in
      let in_ : ℕ = weigh_at 1 items_with k (group_at n path new) in
      settled now.items (items_of_filespaces new) (items_of_filespaces fs) out in_
      (ap (λ m. m + out) (sym (all_items new)) ∙ e 1 items_with ∙ ap (λ m. m + in_) (all_items fs))
      (enters out (items_of_filespaces fs) (leaves (items_of_filespaces fs) i.items));
  pools =
      let out : ℕ → ℕ = λ pool. weigh_at 0 (placed_in pool) k (group_at n path fs) in
      let in_ : ℕ → ℕ = λ pool. weigh_at 0 (placed_in pool) k (group_at n path new) in
      let before : ℕ → ℕ = λ pool. weigh_filespaces 0 (placed_in pool) fs in
      settled_each now.pools (λ pool. weigh_filespaces 0 (placed_in pool) new) before out in_ (λ pool. e 0 (placed_in pool)) (enters_each out before (leaves_each before i.pools));
}

same_each : (kept : Option (List (ℕ × ℕ))) (old new : ℕ → ℕ) → ((pool : ℕ) → new pool ≡ old pool) → CountsEach old kept → CountsEach new kept
same_each None old new e h = tt
same_each (Some counts) old new e h = λ pool. h pool ∙ sym (e pool)

pub counted_same : (tally : Tally) (fs new : List (ℕ × Filespace)) → WeighsTheSame fs new → IsCounted tally fs → IsCounted tally new
counted_same tally fs new e i = record {
  items = subst (λ n. Counts n tally.items) (sym (sym (all_items new) ∙ e 1 items_with ∙ all_items fs)) i.items;
  pools = same_each tally.pools (λ pool. weigh_filespaces 0 (placed_in pool) fs) (λ pool. weigh_filespaces 0 (placed_in pool) new) (λ pool. e 0 (placed_in pool)) i.pools;
}

pub same_stays : (tally : Tally) (fs new : List (ℕ × Filespace)) → new ≡ fs → IsCounted tally fs → IsCounted tally new
same_stays tally fs new same i = subst (IsCounted tally) (sym same) i

pub nothing_exchanged : (k n : ℕ) (path : List ℕ) (fs new : List (ℕ × Filespace)) → new ≡ fs → ExchangesAt n path k fs new
nothing_exchanged k n path fs new same = subst (ExchangesAt n path k fs) (sym same) (λ one of. refl)

-- ---- what a change of one object asks of the versions of its path

pub distinct_there : (places : List (ℕ × Place)) (n : ℕ) (path : List ℕ) (fs : List (ℕ × Filespace)) → Indexed places fs → are_distinct (versions_at n path fs) ≡ true
distinct_there places n path fs i = distinct_at n path fs (distinct-listed fs i.index.distinct)

pub remove_exchanges : (places : List (ℕ × Place)) (k n : ℕ) (path : List ℕ) (fs : List (ℕ × Filespace)) → Indexed places fs → Exchanges k (versions_at n path fs) (versions_after (Remove k) (versions_at n path fs))
remove_exchanges places k n path fs i = exchange_remove k (versions_at n path fs) (distinct_there places n path fs i)

pub undo_exchanges : (places : List (ℕ × Place)) (k n : ℕ) (path class : List ℕ) (active : Bool) (fs : List (ℕ × Filespace)) → Indexed places fs → NewestIs (Some k) (versions_at n path fs)
    → Exchanges k (versions_at n path fs) (versions_after (Undo class active) (versions_at n path fs))
undo_exchanges places k n path class active fs i w = exchange_undo k active (versions_at n path fs) (distinct_there places n path fs i) w
