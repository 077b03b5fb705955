-- Which copies were tried: each is known by its object, its pool, and the transaction that placed it.
use Rattle.std.specs.Prelude.{ℕ, Bool, not, List, [], ◌∷◌, ◌++◌}
use Rattle.std.specs.BTreeMap.{is_at}
use Rattle.std.specs.BTreeSet.{insert_key}
use Rattle.std.specs.List.{list_any}
use Rattle.std.specs.Ordering.{nat_cmp, ordering_then}
use Rattle.std.specs.declared.cmp.Ordering.{Ordering}
use Rattle.inventory_work.specs.declared.lines.CopyLine.{CopyLine}
use Rattle.inventory_work.specs.Lists.{only}

abbrev pub Key : Type 0
Key = ℕ × ℕ × ℕ

abbrev pub key_of : CopyLine → Key
key_of line = (line.object, line.pool, line.placed)

-- they come by objects, of one object by pools, and then by transactions
abbrev pub key_cmp : Key → Key → Ordering
key_cmp a b = ordering_then (ordering_then (nat_cmp a.0 b.0) (nat_cmp a.1 b.1)) (nat_cmp a.2 b.2)

-- the copy is one of those that were tried
abbrev pub is_tried : List Key → CopyLine → Bool
is_tried tried line = list_any (is_at (key_cmp (key_of line))) tried

-- those, with this one
abbrev pub with_tried : List Key → CopyLine → List Key
with_tried tried line = insert_key key_cmp tried (key_of line)

-- the copies that weren't tried, each once
abbrev pub fresh : List Key → List CopyLine → List CopyLine
fresh tried [] = []
fresh tried (line ∷ lines) = only (not (is_tried tried line)) line ++ fresh (with_tried tried line) lines

-- those that were tried, behind these
abbrev pub seen : List Key → List CopyLine → List Key
seen tried [] = tried
seen tried (line ∷ lines) = seen (with_tried tried line) lines
