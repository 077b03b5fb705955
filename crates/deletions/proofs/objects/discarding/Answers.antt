use Rattle.std.proofs.Common.{◌≡◌, ◌≤◌, ◌<◌, ℕ, List, length, map, take, ap, ◌∙◌, arith}
use Rattle.std.proofs.lemmas.List.{length-map, length-take}
use Rattle.entries.specs.change_items.declared.items.DiscardedVersion.{DiscardedVersion}
use Rattle.deletions.specs.declared.objects.Doomed.{Doomed}
use Rattle.deletions.specs.Discarding.{discarded}
use Rattle.deletions.proofs.objects.discarding.Goals as goal

-- there is room for one more
few-items : (items : List DiscardedVersion) (objects : List Doomed) (i : ℕ) → items ≡ map discarded (take i objects) → i < length objects → length objects ≤ 256 → length items < 256
few-items items objects i h l r =
    let m : length items ≡ length (take i objects) = ap length h ∙ length-map (take i objects) discarded in
    omega (arith, length-take i objects)

pub push-requires : goal.push-requires
push-requires c = (omega arith, few-items c.objects.items c.args.objects.now c.objects.it-index c.objects.invariant (omega arith) c.requires)
