use Rattle.std.proofs.Common.{◌≡◌, ◌+◌, ℕ, Bool, not, List, ◌++◌, nat_le, length, map, ap, sym, ◌∙◌}
use Rattle.std.specs.Prelude.{◌==◌}
use Rattle.std.proofs.lemmas.List.{length-map}
use Rattle.kinds.specs.declared.refusal.Refusal.{Refusal}
use Rattle.kinds.specs.declared.refusal.Refusal.TheVariants.{InventoryFull}
use Rattle.kinds.specs.Refusals.{foremost, sooner_of, unless, bad_value}
use Rattle.inventory_rules.specs.inventory_rows.version_groups.Entries.{all_later}
use Rattle.inventory_rules.specs.inventory_rows.object_rows.Rows.{most_kept}
use Rattle.inventory_rules.specs.inventory_rows.Search.{versions}
use Rattle.inventory_rules.specs.inventory_rows.State.{inv_of}
use Rattle.inventory_rules.specs.Versions.{name_once, filespace_there}
use Rattle.item_refusals.proofs.Foremost.{foremost_append, foremost_joined}
use Rattle.item_refusals.proofs.Lists.{apart_by}
use Rattle.item_refusals.proofs.arrivals.new_refused.Goals as goal

pub returns : goal.returns
returns g c =
    let objects : List ℕ = map g.T.Arrival.number c.args.items.now in
    let once : Bool = name_once objects in
    let there : List Refusal = filespace_there c.args.filespace (inv_of c.args.tables.now) in
    let room : List Refusal = unless (nat_le (length (versions (inv_of c.args.tables.now)) + length objects) most_kept) InventoryFull in
    let rest : c.sooner_of.result ≡ foremost (unless once bad_value ++ room) =
    foremost_joined (all_later g.T.Apart.differs c.args.items.now) once room c.once-once.result c.unless-room.result c.sooner_of.result
    (apart_by g.T.Apart.differs (λ a b. not (a == b)) g.T.Arrival.number g.met.T.Arrival.by_number c.args.items.now) c.once-once.ensures
    (c.unless-room.ensures ∙ ap (λ b. foremost (unless b InventoryFull)) (c.has_room.ensures
    ∙ ap (λ n. nat_le (length (versions (inv_of c.args.tables.now)) + n) most_kept) (sym (length-map c.args.items.now g.T.Arrival.number)))) c.sooner_of.ensures in
    c.sooner_of-2.ensures
    ∙ ap (λ o. sooner_of o c.sooner_of.result) c.filespace_there-there.ensures
    ∙ ap (sooner_of (foremost there)) rest
    ∙ sym (foremost_append there (unless once bad_value ++ room))
