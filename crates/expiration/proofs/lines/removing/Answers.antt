use Rattle.std.proofs.Common.{◌≡◌, ◌≤◌, ◌<◌, ℕ, List, length, map, take, ap, ◌∙◌, arith}
use Rattle.std.proofs.lemmas.List.{length-map, length-take}
use Rattle.entries.specs.change_items.declared.items.NamedVersion.{NamedVersion}
use Rattle.inventory_work.specs.declared.lines.UnretainedLine.{UnretainedLine}
use Rattle.expiration.specs.Expiring.{named}
use Rattle.expiration.proofs.lines.removing.Goals as goal

-- there is room for one more
few-named : (items : List NamedVersion) (lines : List UnretainedLine) (i : ℕ) → items ≡ map named (take i lines) → i < length lines → length lines ≤ 256 → length items < 256
few-named items lines i h l r =
    let m : length items ≡ length (take i lines) = ap length h ∙ length-map (take i lines) named in
    omega (arith, length-take i lines)

pub push-requires : goal.push-requires
push-requires c = (omega arith, few-named c.lines.items c.args.lines.now c.lines.line-index c.lines.invariant (omega arith) c.requires)
