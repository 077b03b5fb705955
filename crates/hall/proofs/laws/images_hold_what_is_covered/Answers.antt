use Rattle.hall.proofs.Covering.{images_hold}
use Rattle.hall.proofs.laws.images_hold_what_is_covered.Goals as goal

pub returns : goal.returns
returns c = λ m held h image kept here. images_hold m.contents h m.core image kept.firm here
