use Rattle.vault.proofs.Goodness.{good_image, whole_image}
use Rattle.vault.proofs.laws.good_is_left.Goals as goal

pub returns : goal.returns
returns g c = record { database = good_image g.D.Database.meaning; whole = whole_image g.D.Database.meaning }
