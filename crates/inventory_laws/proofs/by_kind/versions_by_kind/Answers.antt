use Rattle.std.proofs.Common.{ℕ, ◌+◌, [], refl}
use Rattle.inventory_rules.specs.entries.change_items.declared.items.NewHeldObject.{NewHeldObject}
use Rattle.inventory_rules.specs.entries.change_items.declared.items.NewVersion.{NewVersion}
use Rattle.inventory_rules.specs.entries.declared.change.Change.TheVariants as change
use Rattle.inventory_rules.specs.inventory_rows.version_groups.declared.group.GroupChange.TheVariants as group
use Rattle.inventory_rules.specs.inventory_rows.object_rows.Rows.{rows_cleared, rows_without}
use Rattle.inventory_rules.specs.inventory_rows.State.{Inv}
use Rattle.inventory_rules.specs.Common.{each}
use Rattle.inventory_rules.specs.Segments.{make_scratch}
use Rattle.inventory_rules.specs.Versions.{back_up, discard, expire, hold, mark_gone, rebind}
use Rattle.inventory_laws.specs.Chains.{Discards, Expires, Holds, Rewrites, Stores}
use Rattle.inventory_laws.proofs.Chains as chains
use Rattle.inventory_laws.proofs.Coming.{new_held_come, new_versions_come}
use Rattle.inventory_laws.proofs.Data.{can_backup, can_gone, can_hold}
use Rattle.inventory_laws.proofs.DataEnds.{data_ends}
use Rattle.inventory_laws.proofs.Facts.{facts_of}
use Rattle.inventory_laws.proofs.InOrder as in_order
use Rattle.inventory_laws.proofs.Ordered.{ordered_change}
use Rattle.inventory_laws.proofs.Removals as removals
use Rattle.inventory_laws.proofs.Rewrites as rewrites
use Rattle.inventory_laws.proofs.Steady.{back_up_steady, hold_steady, scratch_steady}
use Rattle.inventory_laws.proofs.VersionArrivals as arrivals
use Rattle.inventory_laws.proofs.VersionCounts.{held_counted, versions_counted}
use Rattle.inventory_laws.proofs.by_kind.versions_by_kind.Goals as goal

pub returns-clause-backup_stays : goal.returns-clause-backup_stays
returns-clause-backup_stays c j x v valid tied ordered legal sizes fit = arrivals.versions_come j x v valid tied ordered legal sizes fit

pub returns-clause-hold_stays : goal.returns-clause-hold_stays
returns-clause-hold_stays c j x v valid tied legal sizes fit = arrivals.held_come j x v valid tied legal sizes fit

pub returns-clause-rebind_stays : goal.returns-clause-rebind_stays
returns-clause-rebind_stays c j x v valid tied legal sizes = rewrites.rebind_valid x v valid tied sizes

pub returns-clause-gone_stays : goal.returns-clause-gone_stays
returns-clause-gone_stays c j x v valid tied legal sizes = rewrites.gone_valid x v valid tied sizes

pub returns-clause-expire_stays : goal.returns-clause-expire_stays
returns-clause-expire_stays c j x v valid tied ordered legal sizes = removals.expire_valid j x v valid tied ordered legal sizes

pub returns-clause-discard_stays : goal.returns-clause-discard_stays
returns-clause-discard_stays c j x v valid tied ordered legal sizes = removals.discard_valid j x v valid tied ordered legal sizes

pub returns-clause-backup_found : goal.returns-clause-backup_found
returns-clause-backup_found c x v facts tied free fit can sizes =
    let n : ℕ = v.number + 1 in
    let parts = arrivals.parts_of x v fit in
    let w : Inv = each make_scratch x.scratch v in
    data_ends (change.Backup x) v refl facts
    (chains.each_comes n (λ (i : NewVersion). i.pool) (λ i. i.segments) (Stores n x.filespace) (back_up x.filespace) (λ i u rest a m s. back_up_steady n [] x.filespace i u rest m a.lies a.facts a.order s.volumes s.cite) x.items w can
    (new_versions_come x.items w parts.1) (scratch_steady n x.scratch v free parts.0 (chains.start v facts tied))) sizes

pub returns-clause-hold_found : goal.returns-clause-hold_found
returns-clause-hold_found c x v facts tied free fit can sizes =
    let n : ℕ = v.number + 1 in
    let parts = arrivals.held_parts_of x v fit in
    let w : Inv = each make_scratch x.scratch v in
    data_ends (change.Hold x) v refl facts
    (chains.each_comes n (λ (i : NewHeldObject). i.pool) (λ i. i.segments) (Holds n x.filespace) (hold x.filespace) (λ i u rest a m s. hold_steady n [] x.filespace i u rest m a.lies a.facts a.order s.volumes s.cite) x.items w can
    (new_held_come x.items w parts.1) (scratch_steady n x.scratch v free parts.0 (chains.start v facts tied))) sizes

pub returns-clause-rebind_found : goal.returns-clause-rebind_found
returns-clause-rebind_found c x v facts tied can sizes =
    let n : ℕ = v.number + 1 in
    data_ends (change.Rebind x) v refl facts
    (chains.each_steady n (λ i w. Rewrites n w (rebind x.filespace i w)) (rebind x.filespace) (λ i w r s. chains.rewrite_one n x.filespace i.path (group.Rebind i.class) w r s) x.items v can (chains.start v facts tied)) sizes

pub returns-clause-gone_found : goal.returns-clause-gone_found
returns-clause-gone_found c x v facts tied can sizes =
    let n : ℕ = v.number + 1 in
    data_ends (change.Gone x) v refl facts
    (chains.each_steady n (λ i w. Rewrites n w (mark_gone x.filespace i w)) (mark_gone x.filespace) (λ i w r s. chains.rewrite_one n x.filespace i.path (group.Gone i.object w.today) w r s) x.items v can (chains.start v facts tied)) sizes

pub returns-clause-expire_found : goal.returns-clause-expire_found
returns-clause-expire_found c x v facts tied can sizes =
    let n : ℕ = v.number + 1 in
    data_ends (change.Expire x) v refl facts
    (chains.each_steady n (Expires n x.filespace) (expire x.filespace) (λ i w d s. chains.remove_one n (rows_cleared x.filespace i.path i.object) i.object w d s) x.items v can (chains.start v facts tied)) sizes

pub returns-clause-discard_found : goal.returns-clause-discard_found
returns-clause-discard_found c x v facts tied can sizes =
    let n : ℕ = v.number + 1 in
    data_ends (change.Discard x) v refl facts (chains.each_steady n (Discards n) discard (λ i w d s. chains.remove_one n (rows_without i.object) i.object w d s) x.items v can (chains.start v facts tied)) sizes

pub returns-clause-rebind_order : goal.returns-clause-rebind_order
returns-clause-rebind_order c x v ordered =
    in_order.counted (change.Rebind x) v (in_order.each_ordered (rebind x.filespace) (λ i w h. ordered_change x.filespace i.path (group.Rebind i.class) w h) x.items v ordered)

pub returns-clause-gone_order : goal.returns-clause-gone_order
returns-clause-gone_order c x v ordered =
    in_order.counted (change.Gone x) v (in_order.each_ordered (mark_gone x.filespace) (λ i w h. ordered_change x.filespace i.path (group.Gone i.object w.today) w h) x.items v ordered)

pub returns-clause-expire_order : goal.returns-clause-expire_order
returns-clause-expire_order c x v ordered =
    in_order.counted (change.Expire x) v (in_order.each_ordered (expire x.filespace) (in_order.expire_ordered x.filespace) x.items v ordered)

pub returns-clause-discard_order : goal.returns-clause-discard_order
returns-clause-discard_order c x v ordered =
    in_order.counted (change.Discard x) v (in_order.each_ordered discard in_order.discard_ordered x.items v ordered)

pub returns-clause-backup_counted : goal.returns-clause-backup_counted
returns-clause-backup_counted c j x v ordered legal = versions_counted x v ordered legal

pub returns-clause-hold_counted : goal.returns-clause-hold_counted
returns-clause-hold_counted c j x v valid legal = held_counted x v (facts_of v valid) legal

pub returns-clause-rebind_less : goal.returns-clause-rebind_less
returns-clause-rebind_less c x v = rewrites.rebind_takes x v

pub returns-clause-gone_less : goal.returns-clause-gone_less
returns-clause-gone_less c x v = rewrites.gone_takes x v

pub returns-clause-expire_less : goal.returns-clause-expire_less
returns-clause-expire_less c x v = removals.expire_takes x v

pub returns-clause-discard_less : goal.returns-clause-discard_less
returns-clause-discard_less c x v = removals.discard_all_takes x v

pub returns-clause-backup_made : goal.returns-clause-backup_made
returns-clause-backup_made c j x v facts orderly legal fit = can_backup j x v facts orderly legal fit

pub returns-clause-hold_made : goal.returns-clause-hold_made
returns-clause-hold_made c j x v facts legal fit = can_hold j x v facts legal fit

pub returns-clause-gone_made : goal.returns-clause-gone_made
returns-clause-gone_made c j x v legal = can_gone j x v legal
