use Rattle.std.proofs.Common.{◌∙◌, sym, rules}
use Rattle.space_index.specs.Sequential.{view}
use Rattle.space_index.proofs.Looked.{more_none, near_known, row_noted}
use Rattle.space_index.proofs.near.note_seen.Goals as goal

pub returns-then-is_some : goal.returns-then-is_some
returns-then-is_some c =
    let see = view c.args.pools.now c.args.tails.now.held.entries c.args.number c.args.request.now.actor in
    record { more = more_none see c.args.near.now.entries; known = near_known see c.args.near.now.entries c.args.file (search rules) }

pub returns-in_ok-insert-in-Some : goal.returns-in_ok-insert-in-Some
returns-in_ok-insert-in-Some c =
    let see = view c.args.pools.now c.args.tails.now.held.entries c.args.number c.args.request.now.actor in
    row_noted see c.args.near.now.entries c.insert.new.self.entries c.args.file c.in-Some.site (search rules) (sym c.seen.ensures ∙ c.in-Some.is) c.in_ok-insert-in-Some.ensures.entries

pub returns-in-None : goal.returns-in-None
returns-in-None c =
    let see = view c.args.pools.now c.args.tails.now.held.entries c.args.number c.args.request.now.actor in
    record { more = more_none see c.args.near.now.entries; known = λ none. sym c.seen.ensures ∙ c.in-None.is }
