use Rattle.std.proofs.Common.{nat_lt, ◌≡◌, sym, refl, ◌∙◌}
use Rattle.version_groups.specs.declared.copies.CopyRow.{CopyRow}
use Rattle.version_groups.proofs.Lists.{all_later-more, all_later-stop, all_later-all}
use Rattle.version_groups.proofs.copies.are_by_pool.Goals as goal

pub copies-init : goal.copies-init
copies-init c = refl

pub copies-preserved : goal.copies-preserved
copies-preserved c = c.copies.invariant ∙ all_later-more (λ (a b : CopyRow). nat_lt a.pool b.pool) _ _ c.index-copies-i.result c.copies-test.true (sym c.is_below.ensures ∙ c.if-not-is_below.false)

pub returns-then-not-is_below : goal.returns-then-not-is_below
returns-then-not-is_below c = sym (c.copies.invariant ∙ all_later-stop (λ (a b : CopyRow). nat_lt a.pool b.pool) _ _ c.index-copies-i.result c.copies-test.true (sym c.is_below.ensures ∙ c.if-not-is_below.true))

pub returns : goal.returns
returns c = sym (c.copies.invariant ∙ all_later-all (λ (a b : CopyRow). nat_lt a.pool b.pool) _ _ c.copies-test.false)
