use Rattle.kept_index.proofs.Stores.{reused_stays}
use Rattle.kept_index.proofs.following.follow_reused.Goals as goal

pub returns : goal.returns
returns c = λ v claims is legal made.
    let aside = reused_stays c.args.file v c.args.pools.now legal made in
    c.in_ok-set_sequential_volume.ensures v.stores claims is aside.changes aside.before aside.after
