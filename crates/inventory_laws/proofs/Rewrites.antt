-- Paths that are bound to other classes, and versions that become inactive: no copy comes or goes.
use Rattle.std.proofs.Common.{◌≡◌, ℕ, ◌+◌, true, List, [], refl, sym, ap, subst, ◌≤◌}
use Rattle.inventory_rules.specs.entries.change_items.declared.items.NamedVersion.{NamedVersion}
use Rattle.inventory_rules.specs.entries.change_items.declared.lists.NamedVersions.{NamedVersions}
use Rattle.inventory_rules.specs.entries.change_items.declared.items.Rebinding.{Rebinding}
use Rattle.inventory_rules.specs.entries.change_items.declared.lists.Rebindings.{Rebindings}
use Rattle.inventory_rules.specs.entries.declared.change.Change.TheVariants.{Gone, Rebind}
use Rattle.inventory_rules.specs.inventory_rows.version_groups.declared.copies.CopyRow.{CopyRow}
use Rattle.inventory_rules.specs.inventory_rows.version_groups.declared.group.GroupChange.{GroupChange}
use Rattle.inventory_rules.specs.inventory_rows.version_groups.declared.group.GroupChange.TheVariants as group
use Rattle.inventory_rules.specs.inventory_rows.Search.{copies}
use Rattle.inventory_rules.specs.inventory_rows.State.{Inv}
use Rattle.inventory_rules.specs.inventory_rows.Items.{count_items}
use Rattle.inventory_rules.specs.Transactions.{effect, sizes_refused}
use Rattle.inventory_rules.specs.Versions.{change_group, mark_gone, rebind}
use Rattle.inventory_rules.specs.Held.{IsTied}
use Rattle.inventory_rules.specs.Valid.{is_valid}
use Rattle.inventory_rules.specs.Halfway.{VersionFacts}
use Rattle.inventory_rules.specs.Reordered.{IsReordered}
use Rattle.inventory_rules.proofs.Touched.{effect-data}
use Rattle.inventory_laws.proofs.GroupSteps as steps
use Rattle.inventory_laws.proofs.Kept.{copies_in}
use Rattle.inventory_laws.proofs.Cited.{cite_swapped}
use Rattle.inventory_laws.proofs.Orders.{reordered_itself}
use Rattle.inventory_laws.proofs.Swapping.{facts_swapped}
use Rattle.inventory_laws.proofs.DataEnds.{begins, ends}
use Rattle.inventory_laws.proofs.RemovedItems.{Holds, each_holds}
use Rattle.inventory_laws.proofs.Stays.{data_less, each_less}
use Rattle.inventory_laws.proofs.GroupTakes.{group_takes}

-- a path's versions change, and no copy
same_copies : (n filespace : ℕ) (path : List ℕ) (step : GroupChange) (v : Inv) → Holds n v → VersionFacts n (change_group filespace path step v) → copies (change_group filespace path step v) ≡ copies v
    → Holds n (change_group filespace path step v)
same_copies n filespace path step v h f same =
    let w : Inv = change_group filespace path step v in
    let r : IsReordered (copies v) (copies w) = subst (λ (l : List (ℕ × CopyRow)). IsReordered (copies v) l) (sym same) (reordered_itself (copies v)) in
    record { steady = record { versions = f; volumes = facts_swapped [] [] [] v w refl refl refl refl r h.steady.volumes; cite = (cite_swapped [] [] v w refl r refl h.steady.cite).1 } }

rebind_holds : (n filespace : ℕ) (item : Rebinding) (v : Inv) → Holds n v → Holds n (rebind filespace item v)
rebind_holds n filespace item v h =
    let r = steps.rebound n filespace item.path item.class v h.steady.versions in
    same_copies n filespace item.path (group.Rebind item.class) v h r.0 (ap copies_in r.1)

gone_holds : (n filespace : ℕ) (item : NamedVersion) (v : Inv) → Holds n v → Holds n (mark_gone filespace item v)
gone_holds n filespace item v h =
    let g = steps.gone n filespace item.object item.path v h.steady.versions in
    same_copies n filespace item.path (group.Gone item.object v.today) v h g.0 g.1

pub rebind_valid : (c : Rebindings) (v : Inv) → is_valid v ≡ true → IsTied v → sizes_refused (Rebind c) v ≡ [] → (is_valid (effect (Rebind c) v) ≡ true) × IsTied (effect (Rebind c) v)
rebind_valid c v valid tied sizes =
    ends (Rebind c) v refl valid sizes (each_holds (v.number + 1) (rebind c.filespace) (rebind_holds (v.number + 1) c.filespace) c.items v (begins v valid tied))

pub gone_valid : (c : NamedVersions) (v : Inv) → is_valid v ≡ true → IsTied v → sizes_refused (Gone c) v ≡ [] → (is_valid (effect (Gone c) v) ≡ true) × IsTied (effect (Gone c) v)
gone_valid c v valid tied sizes =
    ends (Gone c) v refl valid sizes (each_holds (v.number + 1) (mark_gone c.filespace) (gone_holds (v.number + 1) c.filespace) c.items v (begins v valid tied))

-- ---- no more items

pub rebind_takes : (c : Rebindings) (v : Inv) → count_items (effect (Rebind c) v) ≤ count_items v
unfolding effect
rebind_takes c v = data_less v (effect (Rebind c) v) (effect-data (Rebind c) v refl) (each_less (rebind c.filespace) (λ i w. group_takes c.filespace i.path (group.Rebind i.class) w) c.items v)

pub gone_takes : (c : NamedVersions) (v : Inv) → count_items (effect (Gone c) v) ≤ count_items v
unfolding effect
gone_takes c v = data_less v (effect (Gone c) v) (effect-data (Gone c) v refl) (each_less (mark_gone c.filespace) (λ i w. group_takes c.filespace i.path (group.Gone i.object w.today) w) c.items v)
