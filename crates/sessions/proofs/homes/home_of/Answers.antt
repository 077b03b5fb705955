use Rattle.sessions.proofs.Homed.{home-by}
use Rattle.sessions.proofs.homes.home_of.Goals as goal

pub returns : goal.returns
returns c =
    home-by c.args.node c.args.rules c.new-classes.result c.args.binder.now c.args.path.now c.home_in-home.result c.is_left_out.result c.is_left_out.ensures c.if-is_left_out.false c.new-classes.ensures
    c.home_in-home.ensures
