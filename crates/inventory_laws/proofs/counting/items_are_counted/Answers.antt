use Rattle.inventory_laws.proofs.Every.{adds, fits, ordered_for, others}
use Rattle.inventory_laws.proofs.counting.items_are_counted.Goals as goal

pub returns-clause-adds : goal.returns-clause-adds
returns-clause-adds c j x v valid o h b = adds j x v valid o h b

pub returns-clause-others : goal.returns-clause-others
returns-clause-others c x v valid b = others x v valid b

pub returns-clause-fits : goal.returns-clause-fits
returns-clause-fits c j x v valid o h = fits j x v valid o h

pub returns-clause-ordered : goal.returns-clause-ordered
returns-clause-ordered c x v o = ordered_for x v o
