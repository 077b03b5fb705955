use Rattle.std.proofs.Common.{ℕ, map}
use Rattle.inventory_rules.specs.inventory_rows.version_groups.declared.copies.CopyRow.{CopyRow}
use Rattle.inventory_laws.proofs.Holding.{holding-reordered}
use Rattle.inventory_laws.proofs.Orders.{reordered_itself, reordered_back, reordered_then, reordered_before, reordered_behind, reordered_swap, reordered-flat_map}
use Rattle.inventory_laws.proofs.Volume.{disjoint-reordered}
use Rattle.inventory_laws.proofs.volume_steps.order_is_free.Goals as goal

pub returns-clause-itself : goal.returns-clause-itself
returns-clause-itself c xs = reordered_itself xs

pub returns-clause-back : goal.returns-clause-back
returns-clause-back c xs ys r = reordered_back xs ys r

pub returns-clause-then : goal.returns-clause-then
returns-clause-then c xs ys zs r s = reordered_then xs ys zs r s

pub returns-clause-behind : goal.returns-clause-behind
returns-clause-behind c xs ys zs r = reordered_behind zs xs ys r

pub returns-clause-before : goal.returns-clause-before
returns-clause-before c xs ys zs r = reordered_before xs ys zs r

pub returns-clause-swap : goal.returns-clause-swap
returns-clause-swap c xs ys = reordered_swap xs ys

pub returns-clause-segments : goal.returns-clause-segments
returns-clause-segments c a b r = reordered-flat_map (λ (e : ℕ × CopyRow). map (λ s. (e.0, s)) e.1.segments) a b r

pub returns-clause-disjoint : goal.returns-clause-disjoint
returns-clause-disjoint c sequential xs ys r = disjoint-reordered sequential xs ys r

pub returns-clause-held : goal.returns-clause-held
returns-clause-held c xs ys r = holding-reordered xs ys r
