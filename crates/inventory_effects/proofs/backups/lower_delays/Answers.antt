use Rattle.std.proofs.Common.{rules}
use Rattle.std.proofs.lemmas.Map.Made.{map_same_pairs}
use Rattle.inventory_rows.specs.declared.backup.Backup.{Backup}
use Rattle.inventory_rows.specs.Delays.{lowered}
use Rattle.inventory_effects.proofs.backups.lower_delays.Goals as goal

pub returns : goal.returns
returns c =
    map_same_pairs _ (λ (b : Backup). record b { delays = lowered c.args.pool c.args.delay b.delays }) _ (λ k v b w f' t. search rules) _ _ c.retain.ensures.filtered
