use Rattle.space_index.specs.Sequential.{view}
use Rattle.space_index.proofs.Looked.{both_near}
use Rattle.space_index.proofs.near.near_sites.Goals as goal

pub returns : goal.returns
returns c =
    let r = c.args.request.now in
    both_near (view c.args.pools.now c.args.tails.now.held.entries c.args.number r.actor) r.prefer r.avoid c.new-near.result.entries c.note_seen.new.near.entries c.note_seen-2.new.near.entries c.new-near.ensures.empty c.in_ok-note_seen.ensures c.in_ok-note_seen-2.ensures
