-- A volume's row holds segments of the objects that have one there, and of no others.
use Rattle.std.proofs.Common.{◌≡◌, ℕ, List, [], ◌∷◌, eqb, not, ap, ◌∙◌}
use Rattle.std.specs.List.{AllByRecursion, list_all}
use Rattle.inventory_check.proofs.Lying.{holding_all}
use Rattle.inventory_rows.specs.Search.{segments_on}
use Rattle.inventory_rows.specs.State.{Inv}
use Rattle.inventory_rows.specs.volume_rows.declared.held.HeldSegment.{HeldSegment}
use Rattle.inventory_rows.specs.volume_rows.declared.volume.Volume.{Volume}
use Rattle.inventory_rules.specs.Held.{IsTied, holding}

abbrev pub HoldsObjects : Inv → List (ℕ × Volume) → Type 0
HoldsObjects v fs = AllByRecursion (λ f. (object : ℕ) → list_all (λ e. not (eqb e.0.object object)) f.1.segments ≡ list_all (λ s. not (eqb s.0 object)) (segments_on f.0 v)) fs

pub rows_hold : (v : Inv) → IsTied v → HoldsObjects v v.stores.volumes
rows_hold v tied = each v.stores.volumes tied where
  each : (fs : List (ℕ × Volume)) → AllByRecursion (λ f. f.1.segments ≡ holding (segments_on f.0 v)) fs → HoldsObjects v fs
  each [] h = tt
  each (f ∷ fs) h = (λ object. ap (list_all (λ (e : HeldSegment × ℕ). not (eqb e.0.object object))) h.0 ∙ holding_all (λ s. not (eqb s.object object)) (segments_on f.0 v), each fs h.1)
