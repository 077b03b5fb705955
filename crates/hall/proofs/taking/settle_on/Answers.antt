use Rattle.std.proofs.Common.{rules}
use Rattle.std.proofs.lemmas.Map.Made.{map_same_pairs}
use Rattle.hall.specs.declared.seat.Seat.{Seat}
use Rattle.hall.specs.Taken.{made_firm}
use Rattle.hall.proofs.taking.settle_on.Goals as goal

pub returns : goal.returns
returns c = map_same_pairs _ (λ (s : Seat). made_firm c.args.file s) _ (λ k v b w f' t. search rules) _ _ c.retain.ensures.filtered
