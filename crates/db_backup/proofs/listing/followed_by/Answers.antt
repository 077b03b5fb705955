use Rattle.std.proofs.Common.{ap, sym, ◌∙◌}
use Rattle.db_backup.specs.Listing.{followed_by_line}
use Rattle.db_backup.proofs.listing.followed_by.Goals as goal

pub returns-in-Some : goal.returns-in-Some
returns-in-Some c = ap (λ o. followed_by_line o) c.in-Some.ensures

pub returns-in-None : goal.returns-in-None
returns-in-None c = ap (λ o. followed_by_line o) c.in-None.ensures
