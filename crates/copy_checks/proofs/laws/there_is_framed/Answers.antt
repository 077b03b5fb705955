use Rattle.copy_checks.proofs.Framing.{means_there, there_means}
use Rattle.copy_checks.proofs.laws.there_is_framed.Goals as goal

pub returns : goal.returns
returns c = λ image object size digest segments. (there_means image object size digest segments, λ h. means_there image object size digest segments h.0 h.1 h.2)
