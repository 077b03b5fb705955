use Rattle.std.proofs.Common.{◌≡◌, subst, sym, ap, ◌∙◌}
use Rattle.kinds.specs.declared.change.PoolChange.{PoolChange}
use Rattle.kinds.specs.declared.change.Verb.TheVariants.{Update}
use Rattle.entries.specs.declared.change.Change.TheVariants.{Pool}
use Rattle.inventory_rules.specs.Transactions.{effect}
use Rattle.space_index.specs.declared.index.Index.{Index}
use Rattle.space_index.specs.Tails.{IsIndexOf}
use Rattle.kept_index.specs.Steps.{IsLegalOn, named_in}
use Rattle.kept_index.proofs.Effects.{on_ok_then}
use Rattle.kept_index.proofs.Stores.{classes_index, pools_index, unheld_or}
use Rattle.kept_index.proofs.following.follow_stores.Goals as goal

pub returns-in-DevClass : goal.returns-in-DevClass
returns-in-DevClass c = λ v is legal named made.
    let x = c.in-DevClass in
    classes_index c.args.index.now c.args.space.now x.verb x.class x.capacity v c.args.pools.now (subst (λ (k : PoolChange). IsLegalOn (Pool k) v) x.is legal) (made ∙ ap (λ (k : PoolChange). (effect (Pool k) v).stores) x.is) is

pub returns-in-Pool : goal.returns-in-Pool
returns-in-Pool c = λ v is legal named made.
    let x = c.in-Pool in
    on_ok_then c.follow_pool.result (λ held.
    subst (λ (i : Index). IsIndexOf i c.args.pools.now c.args.space.now) (sym c.follow_pool.ensures.index)
    (pools_index c.args.index.now c.args.space.now x.verb x.pool x.class x.kind x.settings v c.args.pools.now (subst (λ (k : PoolChange). IsLegalOn (Pool k) v) x.is legal) (made ∙ ap (λ (k : PoolChange). (effect (Pool k) v).stores) x.is)
    (unheld_or (x.verb ≡ Update) c.args.index.now v.stores c.args.space.now is held) is)) c.follow_pool.ensures.held

pub returns-in-Volume : goal.returns-in-Volume
returns-in-Volume c = λ v is legal named made.
    let x = c.in-Volume in
    c.follow_volume.ensures x.volume x.pool x.capacity v is (subst (λ (k : PoolChange). IsLegalOn (Pool k) v) x.is legal) (named ∙ ap (λ (k : PoolChange). named_in k v.stores) x.is) (made ∙ ap (λ (k : PoolChange). (effect (Pool k) v).stores) x.is)
