use Rattle.std.proofs.Common.{rules}
use Rattle.pool_restores.proofs.Known.{known-more}
use Rattle.pool_restores.proofs.listing.add_new.Goals as goal

pub returns-clause-known : goal.returns-clause-known
returns-clause-known c =
    known-more c.args.known.now.keys c.insert.new.self.keys c.args.wanted.now.items c.push.new.self.items c.args.line.now c.in_ok-insert.ensures.updates.0 (search rules) c.requires
