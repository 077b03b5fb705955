use Rattle.inventory_check.proofs.Distinct.{numbers_answer}
use Rattle.inventory_check.proofs.names.backups_apart.Goals as goal

pub returns : goal.returns
returns c = numbers_answer c.add_numbers.result c.new-numbers.result.entries c.add_numbers.new.numbers.entries c.args.backups.now.entries c.add_numbers.ensures c.new-numbers.ensures.empty
