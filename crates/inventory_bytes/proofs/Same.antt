-- A database whose volumes hold the segments of its copies, and whose held objects stand under their numbers, is told by what stands there without these.
use Rattle.std.proofs.Common.{◌≡◌, ℕ, true, List, [], ◌∷◌, refl, sym, ap, ◌∙◌}
use Rattle.std.specs.List.{AllByRecursion}
use Rattle.inventory_rows.specs.object_rows.declared.held_object.HeldRow.{HeldRow}
use Rattle.inventory_rows.specs.object_rows.HeldRows.{are_held_rows}
use Rattle.inventory_rows.specs.volume_rows.declared.held.HeldSegment.{HeldSegment}
use Rattle.inventory_rows.specs.volume_rows.declared.volume.Volume.{Volume}
use Rattle.inventory_rows.specs.Search.{segments_on}
use Rattle.inventory_rows.specs.State.{Inv}
use Rattle.inventory_rules.specs.Held.{holding, IsTied}
use Rattle.inventory_bytes.specs.Payload.{unheld, unheld_volumes, numbered}
use Rattle.inventory_bytes.specs.Segments.{with_held, with_volumes}
use Rattle.inventory_bytes.proofs.Spelled.{numbered-back}

refilled-same : (held : ℕ → List (HeldSegment × ℕ)) (vs : List (ℕ × Volume)) → AllByRecursion (λ f. f.1.segments ≡ held f.0) vs → with_held (λ n _. held n) (unheld_volumes vs) ≡ vs
refilled-same held [] tied = refl
refilled-same held (v ∷ vs) tied =
    ap (λ (s : List (HeldSegment × ℕ)). (v.0, record v.1 { segments = s }) ∷ with_held (λ n _. held n) (unheld_volumes vs)) (sym tied.0)
    ∙ ap (λ (l : List (ℕ × Volume)). v ∷ l) (refilled-same held vs tied.1)

abbrev having : List (ℕ × HeldRow) → Inv → Inv
having hs v = record v { clients = record v.clients { held = hs } }

-- the segments of the copies on volumes that hold none
abbrev tying : Inv → Inv
tying v = with_volumes (with_held (λ n _. holding (segments_on n v)) v.stores.volumes) v

-- the same once the held objects have their numbers
abbrev refilled : Inv → Inv
refilled v = tying (having (numbered v.clients.held) v)

refilled_is : (v : Inv) → are_held_rows v.clients.held ≡ true → IsTied v → refilled (unheld v) ≡ v
refilled_is v held tied =
    ap (λ (hs : List (ℕ × HeldRow)). tying (having hs (with_volumes (unheld_volumes v.stores.volumes) v))) (numbered-back v.clients.held held)
    ∙ ap (λ (vs : List (ℕ × Volume)). with_volumes vs v) (refilled-same (λ n. holding (segments_on n v)) v.stores.volumes tied)

pub tied_same : (v w : Inv) → are_held_rows v.clients.held ≡ true → IsTied v → are_held_rows w.clients.held ≡ true → IsTied w → unheld v ≡ unheld w → v ≡ w
tied_same v w held tied other_held other same = sym (refilled_is v held tied) ∙ ap refilled same ∙ refilled_is w other_held other
