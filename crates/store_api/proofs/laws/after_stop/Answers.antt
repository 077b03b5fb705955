use Rattle.store_api.proofs.Images.{stop_image, stop_settled}
use Rattle.store_api.proofs.laws.after_stop.Goals as goal

pub returns-clause-image : goal.returns-clause-image
returns-clause-image c before after stops = stop_image before after stops

pub returns-clause-settled : goal.returns-clause-settled
returns-clause-settled c before after file stops = stop_settled before after file stops
