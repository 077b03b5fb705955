use Rattle.std.proofs.Common.{◌∙◌, sym, ap}
use Rattle.inventory_rows.specs.State.{Inv}
use Rattle.hall.specs.Held.{Held}
use Rattle.hall.proofs.Spots.{first_pool, found_pool, some_pool}
use Rattle.hall.proofs.parts.Parts.pool_of.Goals as goal

pub returns-in-Some-clause-ok : goal.returns-in-Some-clause-ok
returns-in-Some-clause-ok c = first_pool c.args.request.now c.args.self.now.vault.database.stores c.args.self.now.claims c.args.places.now c.in-Some.first.now c.requires (sym c.in-Some.ensures.value)

pub unreachable-requires : goal.unreachable-requires
unreachable-requires c =
    let rows = ap (λ (v : Inv). v.stores) (c.tables.ensures.value ∙ c.database.ensures ∙ ap (λ (h : Held). h.vault.database) c.self.view_is) in
    some_pool c.args.request.now c.args.self.now.vault.database.stores c.args.self.now.claims c.args.places.now c.requires
    (sym c.in-None.is
    ∙ found_pool c.args.request.now c.args.self.now.vault.database.stores c.tables.result.now.pools c.args.self.now.claims c.args.places.now c.as_slice.result.now c.first_to_take.result rows c.requires
    c.in_default.ensures.value c.first_to_take.ensures (c.as_slice.ensures.value ∙ c.in_ok-numbers.ensures))

pub returns-clause-ok : goal.returns-clause-ok
returns-clause-ok c =
    let rows = ap (λ (v : Inv). v.stores) (c.tables.ensures.value ∙ c.database.ensures ∙ ap (λ (h : Held). h.vault.database) c.self.view_is) in
    sym
    (found_pool c.args.request.now c.args.self.now.vault.database.stores c.tables.result.now.pools c.args.self.now.claims c.args.places.now c.as_slice.result.now c.first_to_take.result rows c.requires
    c.in_default.ensures.value c.first_to_take.ensures (c.as_slice.ensures.value ∙ c.in_ok-numbers.ensures))
    ∙ c.in-Some-first_to_take.is
