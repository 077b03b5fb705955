use Rattle.inventory_laws.proofs.Swapping.{facts_swapped}
use Rattle.inventory_laws.proofs.volume_steps.copies_come_and_go.Goals as goal

pub returns : goal.returns
returns c a b p v w stores backups next today r f = facts_swapped a b p v w stores backups next today r f
