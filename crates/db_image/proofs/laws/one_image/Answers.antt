use Rattle.db_image.proofs.One.{one, opened, not_damaged, damaged_open, one_place}
use Rattle.db_image.proofs.laws.one_image.Goals as goal

pub returns-clause-one : goal.returns-clause-one
returns-clause-one c = one

pub returns-clause-open : goal.returns-clause-open
returns-clause-open c = opened

pub returns-clause-damaged : goal.returns-clause-damaged
returns-clause-damaged c = not_damaged

pub returns-clause-behind : goal.returns-clause-behind
returns-clause-behind c = damaged_open

pub returns-clause-place : goal.returns-clause-place
returns-clause-place c = one_place
