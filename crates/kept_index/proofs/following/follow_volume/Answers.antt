use Rattle.std.proofs.Common.{subst, ap, ◌∙◌}
use Rattle.kinds.specs.declared.change.Verb.{Verb}
use Rattle.kinds.specs.declared.change.PoolChange.TheVariants.{Volume}
use Rattle.entries.specs.declared.change.Change.TheVariants.{Pool}
use Rattle.inventory_rules.specs.Transactions.{effect}
use Rattle.kept_index.specs.Steps.{IsLegalOn, named_in}
use Rattle.kept_index.proofs.Stores.{access_changes, defined_comes, deleted_goes}
use Rattle.kept_index.proofs.following.follow_volume.Goals as goal

pub returns-in-Define : goal.returns-in-Define
returns-in-Define c = λ name pool capacity v is legal named made.
    let file = c.args.file in
    let access = c.args.access.now in
    let comes = defined_comes name pool file capacity access v c.args.pools.now (subst (λ (w : Verb). IsLegalOn (Pool (Volume w name pool file capacity access)) v) c.in-Define.is legal)
    (made ∙ ap (λ (w : Verb). (effect (Pool (Volume w name pool file capacity access)) v).stores) c.in-Define.is) in
    c.define_volume.ensures v.stores is comes.changes comes.free

pub returns-in-Update : goal.returns-in-Update
returns-in-Update c = λ name pool capacity v is legal named made.
    let file = c.args.file in
    let access = c.args.access.now in
    let new = access_changes name pool file capacity access v c.args.pools.now c.args.named (subst (λ (w : Verb). IsLegalOn (Pool (Volume w name pool file capacity access)) v) c.in-Update.is legal)
    (named ∙ ap (λ (w : Verb). named_in (Volume w name pool file capacity access) v.stores) c.in-Update.is)
    (made ∙ ap (λ (w : Verb). (effect (Pool (Volume w name pool file capacity access)) v).stores) c.in-Update.is) in
    c.set_access.ensures v.stores c.args.space.now new.file new.is is new.has.changes new.has.row

pub returns-in-Delete : goal.returns-in-Delete
returns-in-Delete c = λ name pool capacity v is legal named made.
    let file = c.args.file in
    let access = c.args.access.now in
    let goes = deleted_goes name pool file capacity access v c.args.pools.now c.args.named (subst (λ (w : Verb). IsLegalOn (Pool (Volume w name pool file capacity access)) v) c.in-Delete.is legal)
    (named ∙ ap (λ (w : Verb). named_in (Volume w name pool file capacity access) v.stores) c.in-Delete.is)
    (made ∙ ap (λ (w : Verb). (effect (Pool (Volume w name pool file capacity access)) v).stores) c.in-Delete.is) in
    c.delete_volume.ensures v.stores c.args.space.now goes.file goes.is is goes.has.changes goes.has.gone
