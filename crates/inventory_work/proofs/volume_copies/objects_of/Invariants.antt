use Rattle.std.proofs.Common.{◌≡◌, []}
use Rattle.inventory_work.specs.OnVolume.{objects_of}
use Rattle.inventory_work.proofs.volume_copies.objects_of.Given as goal

abbrev pub invariant-held : goal.invariant-held
invariant-held l = objects_of l.objects.keys l.segment-iterator ≡ objects_of [] l.held.entries
