use Rattle.db_losses.proofs.Losing.{all_listed}
use Rattle.db_losses.proofs.lost.list_lost.Goals as goal

pub returns : goal.returns
returns c =
    all_listed c.args.losses.now c.args.objects.now _ _ _ _ _ _ _ _ c.nodes.ensures c.nodes-2.ensures c.filespaces.ensures.value c.filespaces-2.ensures.value c.held.ensures.value c.new-map.ensures.empty c.in_ok-put_filespaces.ensures.put c.in_ok-put_all_held.ensures.put
