-- Every transaction, kind by kind.
use Rattle.std.proofs.Common.{◌≡◌, ℕ, ◌+◌, ◌≤◌, Bool, true, false, [], ◌∷◌, ◌++◌, refl, sym, ap, ◌∙◌, arith}
use Rattle.std.specs.Prelude.{nat_le}
use Rattle.std.proofs.lemmas.Bool.{le-leb, leb-false, leb-true, lt-leb}
use Rattle.std.specs.Map.{keys_of}
use Rattle.kinds.specs.declared.change.DefineOrDelete.TheVariants as two
use Rattle.kinds.specs.declared.change.PolicyChange.{PolicyChange}
use Rattle.kinds.specs.declared.change.PolicyChange.TheVariants as policy
use Rattle.kinds.specs.declared.change.Verb.TheVariants as verb
use Rattle.inventory_rules.specs.entries.declared.change.Change.{Change}
use Rattle.inventory_rules.specs.entries.declared.change.Change.TheVariants as change
use Rattle.inventory_rules.specs.inventory_rows.Items.{count_items, most_items}
use Rattle.inventory_rules.specs.inventory_rows.State.{Inv}
use Rattle.inventory_rules.specs.inventory_rows.object_rows.Places.{AreAllOrderly}
use Rattle.inventory_rules.specs.Transactions.{effect, causes, brings_items, items_added, items_gone, AreRowsOrdered, IsOrderedFor, CanChange, CanMake, parts_fit, sizes_refused, IsDayOf}
use Rattle.inventory_rules.specs.Journal.{Journal}
use Rattle.inventory_rules.specs.Backups.{after_refused}
use Rattle.inventory_rules.specs.Valid.{is_valid, are_apart}
use Rattle.inventory_rules.specs.Facts.{Facts}
use Rattle.inventory_rules.specs.Common.{one_if, file_bound, files_refused}
use Rattle.inventory_rules.specs.Policy.{is_new_policy, policy_added, policy_gone, IsPolicyOrdered}
use Rattle.inventory_rules.specs.Held.{IsTied}
use Rattle.inventory_rules.specs.Ordered.{IsOrdered}
use Rattle.inventory_laws.proofs.Facts.{facts_of}
use Rattle.inventory_laws.proofs.BackupCounts.{begin_counted, delete_takes, end_takes}
use Rattle.inventory_laws.proofs.ClientCounts.{clients_counted, clients_take}
use Rattle.inventory_laws.proofs.CopyCounts.{copies_counted, drops_take}
use Rattle.inventory_laws.proofs.Removals.{discard_all_takes, discard_valid, drop_valid, expire_takes, expire_valid}
use Rattle.inventory_laws.proofs.MoveCounts.{moves_counted}
use Rattle.inventory_laws.proofs.PolicyCounts.{policy_effect}
use Rattle.inventory_laws.proofs.PolicyTakes.{policy_takes}
use Rattle.inventory_laws.proofs.StoreCounts.{reuse_takes, stores_counted, stores_take}
use Rattle.inventory_laws.proofs.VersionCounts.{held_counted, versions_counted}
use Rattle.inventory_laws.proofs.Rewrites.{gone_takes, gone_valid, rebind_takes, rebind_valid}
use Rattle.inventory_laws.proofs.Causes.{back_nil, file_below}
use Rattle.inventory_laws.proofs.Data.{can_backup, can_copy, can_gone, can_hold, can_move, next_number}
use Rattle.inventory_laws.proofs.MadeRows.{can_clients, can_policy, can_reuse, can_stores}
use Rattle.inventory_laws.proofs.VersionArrivals.{held_come, versions_come}
use Rattle.inventory_laws.proofs.CopyArrivals.{copies_come}
use Rattle.inventory_laws.proofs.Moves.{copies_move}
use Rattle.inventory_laws.proofs.BackupRows.{begin_stays, delete_stays, end_stays}
use Rattle.inventory_laws.proofs.Clients.{object_stays}
use Rattle.inventory_laws.proofs.DayChanges.{day_stays}
use Rattle.inventory_laws.proofs.Policy.{policy_stays}
use Rattle.inventory_laws.proofs.Joined.{rings_stay, stores_change}
use Rattle.inventory_laws.proofs.VolumeLaws.{volume_reused}

-- ---- what it leaves

pub stays : (j : Journal) (c : Change) (v : Inv) → is_valid v ≡ true → IsTied v → IsOrdered v → are_apart (keys_of v.stores.pools) ≡ true → IsDayOf c → causes j c v ≡ [] → sizes_refused c v ≡ [] → parts_fit c v ≡ true → (is_valid (effect c v) ≡ true) × IsTied (effect c v)
stays j (change.Day day) v valid tied rows apart days cause sizes fit = day_stays j day v days valid tied cause sizes
stays j (change.Policy c) v valid tied rows apart days cause sizes fit = policy_stays j c v valid tied cause sizes
stays j (change.Object c) v valid tied rows apart days cause sizes fit = object_stays j c v valid tied cause sizes
stays j (change.Pool c) v valid tied rows apart days cause sizes fit =
    let w = stores_change j c v valid tied cause sizes fit in
    (w.0 ∙ rings_stay j c v valid tied cause sizes fit apart, w.1)
stays j (change.Backup c) v valid tied rows apart days cause sizes fit = versions_come j c v valid tied rows cause sizes fit
stays j (change.Hold c) v valid tied rows apart days cause sizes fit = held_come j c v valid tied cause sizes fit
stays j (change.Rebind c) v valid tied rows apart days cause sizes fit = rebind_valid c v valid tied sizes
stays j (change.Gone c) v valid tied rows apart days cause sizes fit = gone_valid c v valid tied sizes
stays j (change.Move c) v valid tied rows apart days cause sizes fit = copies_move j c v valid tied cause sizes fit
stays j (change.Copy c) v valid tied rows apart days cause sizes fit = copies_come j c v valid tied cause sizes fit
stays j (change.DropCopies c) v valid tied rows apart days cause sizes fit = drop_valid j c v valid tied cause sizes
stays j (change.Expire c) v valid tied rows apart days cause sizes fit = expire_valid j c v valid tied rows cause sizes
stays j (change.Discard c) v valid tied rows apart days cause sizes fit = discard_valid j c v valid tied rows cause sizes
stays j (change.Reuse file) v valid tied rows apart days cause sizes fit = volume_reused j file v valid tied cause sizes
stays j (change.DbBegin file after) v valid tied rows apart days cause sizes fit = begin_stays j file after v valid tied cause sizes
stays j (change.DbEnd file) v valid tied rows apart days cause sizes fit = end_stays j file v valid tied cause sizes
stays j (change.DbDelete file) v valid tied rows apart days cause sizes fit = delete_stays j file v valid tied cause sizes

-- ---- that it can be made

can_change : (j : Journal) (c : Change) (v : Inv) → Facts v → AreAllOrderly v.clients.filespaces → causes j c v ≡ [] → parts_fit c v ≡ true → CanChange c v
can_change j (change.Day day) v f orderly h fit = tt
can_change j (change.Policy c) v f orderly h fit = can_policy c v h
can_change j (change.Object c) v f orderly h fit = can_clients c v f h
can_change j (change.Pool c) v f orderly h fit = can_stores c v f h fit
can_change j (change.Backup c) v f orderly h fit = can_backup j c v f orderly h fit
can_change j (change.Hold c) v f orderly h fit = can_hold j c v f h fit
can_change j (change.Rebind c) v f orderly h fit = tt
can_change j (change.Gone c) v f orderly h fit = can_gone j c v h
can_change j (change.Move c) v f orderly h fit = can_move j c v f h fit
can_change j (change.Copy c) v f orderly h fit = can_copy j c v f h fit
can_change j (change.DropCopies c) v f orderly h fit = tt
can_change j (change.Expire c) v f orderly h fit = tt
can_change j (change.Discard c) v f orderly h fit = tt
can_change j (change.Reuse file) v f orderly h fit = can_reuse file v f h
can_change j (change.DbBegin file after) v f orderly h fit = file_below file v (back_nil (files_refused (file ∷ []) v) (file_bound file v) (back_nil (after_refused after v) (files_refused (file ∷ []) v ++ file_bound file v) h))
can_change j (change.DbEnd file) v f orderly h fit = tt
can_change j (change.DbDelete file) v f orderly h fit = tt

pub can_make : (j : Journal) (c : Change) (v : Inv) → Facts v → AreAllOrderly v.clients.filespaces → causes j c v ≡ [] → parts_fit c v ≡ true → CanMake c v
can_make j c v f orderly h fit = record { number = next_number v f; change = can_change j c v f orderly h fit }

-- ---- how many items it brings

pub adds : (j : Journal) (c : Change) (v : Inv) → is_valid v ≡ true → IsOrderedFor c v → causes j c v ≡ [] → brings_items c ≡ true → count_items (effect c v) + items_gone c v ≡ count_items v + items_added c v
adds j (change.Day day) v valid o h b = absurd cc
adds j (change.Policy c) v valid o h b = policy_effect c v b o h
adds j (change.Object c) v valid o h b = clients_counted c v (facts_of v valid) h b
adds j (change.Pool c) v valid o h b = stores_counted c v (facts_of v valid) h b
adds j (change.Backup c) v valid o h b = versions_counted c v o h
adds j (change.Hold c) v valid o h b = held_counted c v (facts_of v valid) h
adds j (change.Rebind c) v valid o h b = absurd cc
adds j (change.Gone c) v valid o h b = absurd cc
adds j (change.Move c) v valid o h b = moves_counted j c v (facts_of v valid).objects_apart (facts_of v valid).versions_copied h
adds j (change.Copy c) v valid o h b = copies_counted j c v (facts_of v valid).objects_apart h
adds j (change.DropCopies c) v valid o h b = absurd cc
adds j (change.Expire c) v valid o h b = absurd cc
adds j (change.Discard c) v valid o h b = absurd cc
adds j (change.Reuse file) v valid o h b = absurd cc
adds j (change.DbBegin file after) v valid o h b = begin_counted file after v h
adds j (change.DbEnd file) v valid o h b = absurd cc
adds j (change.DbDelete file) v valid o h b = absurd cc

day_takes : (day : ℕ) (v : Inv) → count_items (effect (change.Day day) v) ≤ count_items v
unfolding effect
day_takes day v = omega arith

pub others : (c : Change) (v : Inv) → is_valid v ≡ true → brings_items c ≡ false → count_items (effect c v) ≤ count_items v
others (change.Day day) v valid b = day_takes day v
others (change.Policy c) v valid b = policy_takes c v b
others (change.Object c) v valid b = clients_take c v b
others (change.Pool c) v valid b = stores_take c v b
others (change.Backup c) v valid b = absurd cc
others (change.Hold c) v valid b = absurd cc
others (change.Rebind c) v valid b = rebind_takes c v
others (change.Gone c) v valid b = gone_takes c v
others (change.Move c) v valid b = absurd cc
others (change.Copy c) v valid b = absurd cc
others (change.DropCopies c) v valid b = drops_take c v (facts_of v valid).objects_apart
others (change.Expire c) v valid b = expire_takes c v
others (change.Discard c) v valid b = discard_all_takes c v
others (change.Reuse file) v valid b = reuse_takes file v
others (change.DbBegin file after) v valid b = absurd cc
others (change.DbEnd file) v valid b = end_takes file v
others (change.DbDelete file) v valid b = delete_takes file v

-- ---- what is asked of the order of rows

policy_ordered : (c : PolicyChange) (v : Inv) → AreRowsOrdered v → IsPolicyOrdered c v.domains
policy_ordered (policy.Activate domain set) v o = o.0
policy_ordered _ v o = tt

pub ordered_for : (c : Change) (v : Inv) → AreRowsOrdered v → IsOrderedFor c v
ordered_for (change.Day day) v o = tt
ordered_for (change.Policy c) v o = policy_ordered c v o
ordered_for (change.Object c) v o = tt
ordered_for (change.Pool c) v o = tt
ordered_for (change.Backup c) v o = o.1
ordered_for (change.Hold c) v o = tt
ordered_for (change.Rebind c) v o = tt
ordered_for (change.Gone c) v o = tt
ordered_for (change.Move c) v o = tt
ordered_for (change.Copy c) v o = tt
ordered_for (change.DropCopies c) v o = tt
ordered_for (change.Expire c) v o = tt
ordered_for (change.Discard c) v o = tt
ordered_for (change.Reuse file) v o = tt
ordered_for (change.DbBegin file after) v o = tt
ordered_for (change.DbEnd file) v o = tt
ordered_for (change.DbDelete file) v o = tt

-- ---- whether a database would be too large

-- what brings nothing isn't counted
no_policy : (c : PolicyChange) (v : Inv) → is_new_policy c ≡ false → (policy_added c v.domains ≡ 0) × (policy_gone c v.domains ≡ 0)
no_policy (policy.Domain verb.Define domain days) v b = absurd cc
no_policy (policy.Set two.Define domain set) v b = absurd cc
no_policy (policy.Class two.Define domain set class) v b = absurd cc
no_policy (policy.Activate domain set) v b = absurd cc
no_policy _ v b = (refl, refl)

nothing_counted : (c : Change) (v : Inv) → brings_items c ≡ false → (items_added c v ≡ 0) × (items_gone c v ≡ 0)
nothing_counted (change.Day day) v b = (refl, refl)
nothing_counted (change.Policy c) v b = no_policy c v b
nothing_counted (change.Object c) v b = (ap one_if b, refl)
nothing_counted (change.Pool c) v b = (ap one_if b, refl)
nothing_counted (change.Backup c) v b = absurd cc
nothing_counted (change.Hold c) v b = absurd cc
nothing_counted (change.Rebind c) v b = (refl, refl)
nothing_counted (change.Gone c) v b = (refl, refl)
nothing_counted (change.Move c) v b = absurd cc
nothing_counted (change.Copy c) v b = absurd cc
nothing_counted (change.DropCopies c) v b = (refl, refl)
nothing_counted (change.Expire c) v b = (refl, refl)
nothing_counted (change.Discard c) v b = (refl, refl)
nothing_counted (change.Reuse file) v b = (refl, refl)
nothing_counted (change.DbBegin file after) v b = absurd cc
nothing_counted (change.DbEnd file) v b = (refl, refl)
nothing_counted (change.DbDelete file) v b = (refl, refl)

as_many : (w g k a m : ℕ) → w + g ≡ k + a → nat_le w m ≡ nat_le (k + a) (m + g)
as_many w g k a m h = go (nat_le w m) refl where
  go : (b : Bool) → nat_le w m ≡ b → b ≡ nat_le (k + a) (m + g)
  go true e = sym (le-leb (k + a) (m + g) (omega (arith, h, leb-true w m e)))
  go false e = sym (lt-leb (k + a) (m + g) (omega (arith, h, leb-false w m e)))

no_more : (w g k a m : ℕ) → w ≤ k → nat_le k m ≡ true → a ≡ 0 → g ≡ 0 → nat_le w m ≡ nat_le (k + a) (m + g)
no_more w g k a m h few none gone =
    le-leb w m (omega (arith, h, leb-true k m few)) ∙ sym (le-leb (k + a) (m + g) (omega (arith, none, gone, leb-true k m few)))

pub fits : (j : Journal) (c : Change) (v : Inv) → is_valid v ≡ true → IsOrderedFor c v → causes j c v ≡ [] → nat_le (count_items (effect c v)) most_items ≡ nat_le (count_items v + items_added c v) (most_items + items_gone c v)
fits j c v valid o h = go (brings_items c) refl where
  go : (b : Bool) → brings_items c ≡ b → nat_le (count_items (effect c v)) most_items ≡ nat_le (count_items v + items_added c v) (most_items + items_gone c v)
  go true b = as_many (count_items (effect c v)) (items_gone c v) (count_items v) (items_added c v) most_items (adds j c v valid o h b)
  go false b =
      let none : (items_added c v ≡ 0) × (items_gone c v ≡ 0) = nothing_counted c v b in
      let f : Facts v = facts_of v valid in
      no_more (count_items (effect c v)) (items_gone c v) (count_items v) (items_added c v) most_items (others c v valid b) f.few_items none.0 none.1
