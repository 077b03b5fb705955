use Rattle.space_index.specs.Index.{segment_on}
use Rattle.space_index.proofs.Counting.{so_often, often_more}
use Rattle.space_index.proofs.updates.put_repeats.Goals as goal

pub returns : goal.returns
returns c = λ count had are.
    let s = segment_on c.args.file c.args.held.now in
    often_more c.put.new.self s c.args.repeats count had (c.in_ok-put.ensures count (so_often had s c.args.repeats) (c.in_ok-put_times.ensures count had are))
