use Rattle.std.proofs.Common.{subst, sym, ap, ◌∙◌}
use Rattle.entries.specs.declared.change.Change.{Change}
use Rattle.inventory_rules.specs.Transactions.{effect}
use Rattle.kept_index.specs.Steps.{IsLegalOn, named_by}
use Rattle.kept_index.proofs.Effects.{on_ok_then}
use Rattle.kept_index.proofs.Taken.{elsewhere_index, leaves, left}
use Rattle.kept_index.proofs.following.follow.Goals as goal

pub returns-then-is_elsewhere : goal.returns-then-is_elsewhere
returns-then-is_elsewhere c = λ v is legal named taken made.
    elsewhere_index c.args.index.now c.args.change.now v c.args.space.now c.args.pools.now (sym c.is_elsewhere.ensures ∙ c.if-is_elsewhere.true) made is

pub returns-then-only_takes : goal.returns-then-only_takes
returns-then-only_takes c = λ v is legal named taken made.
    let start = leaves c.args.index.now c.args.change.now v c.args.space.now c.args.pools.now (sym c.only_takes.ensures ∙ c.if-only_takes.true) legal made is in
    on_ok_then c.take_all.result (left c.take_all.new.index c.args.space.now v.today c.args.pools.now) (c.take_all.ensures c.args.space.now v.today start.all (start.segments ∙ sym taken) start.leaving)

pub returns-in-Pool : goal.returns-in-Pool
returns-in-Pool c = λ v is legal named taken made.
    c.follow_stores.ensures v is (subst (λ (k : Change). IsLegalOn k v) c.in-Pool.is legal) (named ∙ ap (λ (k : Change). named_by k v.stores) c.in-Pool.is) (made ∙ ap (λ (k : Change). (effect k v).stores) c.in-Pool.is)

pub returns-in-Reuse : goal.returns-in-Reuse
returns-in-Reuse c = λ v is legal named taken made.
    c.follow_reused.ensures v c.args.space.now is (subst (λ (k : Change). IsLegalOn k v) c.in-Reuse.is legal) (made ∙ ap (λ (k : Change). (effect k v).stores) c.in-Reuse.is)
