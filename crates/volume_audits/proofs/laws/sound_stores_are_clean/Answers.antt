use Rattle.volume_audits.proofs.Clean.{clean}
use Rattle.volume_audits.proofs.laws.sound_stores_are_clean.Goals as goal

pub returns : goal.returns
returns c w actor old new fix file lines events a stored f h = clean w actor old new fix file lines events a stored f h
