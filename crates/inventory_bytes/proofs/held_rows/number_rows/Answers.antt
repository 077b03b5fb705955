use Rattle.std.proofs.Common.{rules}
use Rattle.inventory_bytes.specs.Payload.{with_number}
use Rattle.inventory_bytes.proofs.Retained.{map_pairs}
use Rattle.inventory_bytes.proofs.held_rows.number_rows.Goals as goal

pub returns : goal.returns
returns c = map_pairs _ with_number _ (λ k v b w f' t. search rules) _ _ c.retain.ensures.filtered
