use Rattle.std.proofs.Common.{◌≡◌, ◌≤◌, ◌<◌, ℕ, List, length, map, take, ap, ◌∙◌, arith}
use Rattle.std.proofs.lemmas.List.{length-map, length-take}
use Rattle.entries.specs.change_items.declared.items.DroppedCopy.{DroppedCopy}
use Rattle.inventory_work.specs.declared.lines.CopyLine.{CopyLine}
use Rattle.deletions.specs.Dropping.{dropped}
use Rattle.deletions.proofs.copies.dropping.Goals as goal

-- there is room for one more
few-items : (items : List DroppedCopy) (lines : List CopyLine) (i : ℕ) → items ≡ map dropped (take i lines) → i < length lines → length lines ≤ 256 → length items < 256
few-items items lines i h l r =
    let m : length items ≡ length (take i lines) = ap length h ∙ length-map (take i lines) dropped in
    omega (arith, length-take i lines)

pub push-requires : goal.push-requires
push-requires c = (omega arith, few-items c.lines.items c.args.lines.now c.lines.line-index c.lines.invariant (omega arith) c.requires)
