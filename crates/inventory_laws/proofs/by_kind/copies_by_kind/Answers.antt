use Rattle.std.proofs.Common.{ℕ, ◌+◌, [], refl}
use Rattle.inventory_rules.specs.entries.change_items.declared.items.NewCopy.{NewCopy}
use Rattle.inventory_rules.specs.entries.declared.change.Change.TheVariants as change
use Rattle.inventory_rules.specs.inventory_rows.State.{Inv}
use Rattle.inventory_rules.specs.Common.{each}
use Rattle.inventory_rules.specs.Copies.{add_copy, drop_copy, put_moved}
use Rattle.inventory_rules.specs.Segments.{make_scratch}
use Rattle.inventory_laws.specs.Chains.{Adds, Drops}
use Rattle.inventory_laws.specs.Steady.{IsSteady}
use Rattle.inventory_laws.proofs.Chains as chains
use Rattle.inventory_laws.proofs.Coming.{moved_copies_come, new_copies_come}
use Rattle.inventory_laws.proofs.CopyArrivals as arrivals
use Rattle.inventory_laws.proofs.CopyCounts.{copies_counted, drops_take}
use Rattle.inventory_laws.proofs.Data.{can_copy, can_move}
use Rattle.inventory_laws.proofs.DataEnds.{data_ends}
use Rattle.inventory_laws.proofs.Facts.{facts_of}
use Rattle.inventory_laws.proofs.InOrder as in_order
use Rattle.inventory_laws.proofs.MoveCounts.{moves_counted}
use Rattle.inventory_laws.proofs.Moves as moves
use Rattle.inventory_laws.proofs.Removals.{drop_valid}
use Rattle.inventory_laws.proofs.Steady.{add_steady, drop_steady, puts_steady, scratch_steady}
use Rattle.inventory_laws.proofs.by_kind.copies_by_kind.Goals as goal

pub returns-clause-move_stays : goal.returns-clause-move_stays
returns-clause-move_stays c j x v valid tied legal sizes fit = moves.copies_move j x v valid tied legal sizes fit

pub returns-clause-copy_stays : goal.returns-clause-copy_stays
returns-clause-copy_stays c j x v valid tied legal sizes fit = arrivals.copies_come j x v valid tied legal sizes fit

pub returns-clause-drop_stays : goal.returns-clause-drop_stays
returns-clause-drop_stays c j x v valid tied legal sizes = drop_valid j x v valid tied legal sizes

pub returns-clause-move_found : goal.returns-clause-move_found
returns-clause-move_found c x v facts tied free scratch fit can sizes =
    let n : ℕ = v.number + 1 in
    let w : Inv = each make_scratch x.scratch v in
    let s : IsSteady n [] w = scratch_steady n x.scratch v free scratch (chains.start v facts tied) in
    data_ends (change.Move x) v refl facts
    (chains.each_moves n x.items (each put_moved x.items w) can (chains.they_lie x.items w fit) (puts_steady n x.items w s (moved_copies_come x.items w fit))) sizes

pub returns-clause-copy_found : goal.returns-clause-copy_found
returns-clause-copy_found c x v facts tied free fit can sizes =
    let n : ℕ = v.number + 1 in
    let parts = arrivals.parts_of x v fit in
    let w : Inv = each make_scratch x.scratch v in
    data_ends (change.Copy x) v refl facts
    (chains.each_comes n (λ (i : NewCopy). i.pool) (λ i. i.segments) (Adds n) add_copy (λ i u rest a m s. add_steady n [] i u rest m a.lies a.facts a.order s.volumes s.cite) x.items w can
    (new_copies_come x.items w parts.1) (scratch_steady n x.scratch v free parts.0 (chains.start v facts tied))) sizes

pub returns-clause-drop_found : goal.returns-clause-drop_found
returns-clause-drop_found c x v facts tied can sizes =
    let n : ℕ = v.number + 1 in
    data_ends (change.DropCopies x) v refl facts
    (chains.each_steady n (Drops n) drop_copy (λ i w d s. drop_steady n [] i w d.old d.copy d.found d.there d.facts d.order s.volumes s.cite) x.items v can (chains.start v facts tied)) sizes

pub returns-clause-drop_order : goal.returns-clause-drop_order
returns-clause-drop_order c x v ordered = in_order.counted (change.DropCopies x) v (in_order.each_ordered drop_copy in_order.drop_ordered x.items v ordered)

pub returns-clause-move_counted : goal.returns-clause-move_counted
returns-clause-move_counted c j x v valid legal = let f = facts_of v valid in moves_counted j x v f.objects_apart f.versions_copied legal

pub returns-clause-copy_counted : goal.returns-clause-copy_counted
returns-clause-copy_counted c j x v valid legal = copies_counted j x v (facts_of v valid).objects_apart legal

pub returns-clause-drop_less : goal.returns-clause-drop_less
returns-clause-drop_less c x v valid = drops_take x v (facts_of v valid).objects_apart

pub returns-clause-move_made : goal.returns-clause-move_made
returns-clause-move_made c j x v facts legal fit = can_move j x v facts legal fit

pub returns-clause-copy_made : goal.returns-clause-copy_made
returns-clause-copy_made c j x v facts legal fit = can_copy j x v facts legal fit
