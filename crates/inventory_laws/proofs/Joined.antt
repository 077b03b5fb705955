-- A legal change of the stores, whatever it is.
use Rattle.std.proofs.Common.{◌≡◌, true, [], sym, ◌∙◌}
use Rattle.std.specs.Map.{keys_of}
use Rattle.kinds.specs.declared.change.DefineOrDelete.TheVariants as two
use Rattle.kinds.specs.declared.change.PoolChange.{PoolChange}
use Rattle.kinds.specs.declared.change.PoolChange.TheVariants as store
use Rattle.kinds.specs.declared.change.Verb.TheVariants as verb
use Rattle.inventory_rules.specs.entries.declared.change.Change.TheVariants as change
use Rattle.inventory_rules.specs.inventory_rows.State.{Inv}
use Rattle.inventory_rules.specs.Transactions.{effect, causes, sizes_refused, parts_fit}
use Rattle.inventory_rules.specs.Held.{IsTied}
use Rattle.inventory_rules.specs.Journal.{Journal}
use Rattle.inventory_rules.specs.Valid.{are_apart, is_valid, no_ring}
use Rattle.inventory_laws.proofs.Facts.{facts_of}
use Rattle.inventory_laws.proofs.Stored.{Stands}
use Rattle.inventory_laws.proofs.ClassLaws.{class_defined, class_deleted}
use Rattle.inventory_laws.proofs.PoolLaws.{pool_defined, pool_deleted}
use Rattle.inventory_laws.proofs.UpdateLaws.{OrRing, pool_updated, pool_updated_rings}
use Rattle.inventory_laws.proofs.VolumeLaws.{volume_defined, volume_deleted, volume_updated}

ring_of : (w : Inv) → Stands w → no_ring w ≡ true
ring_of w h = (facts_of w h.0).no_ring

or_ring : (w : Inv) → Stands w → OrRing w
or_ring w h = (h.0 ∙ sym (ring_of w h), h.1)

pub stores_change : (j : Journal) (c : PoolChange) (v : Inv) → is_valid v ≡ true → IsTied v → causes j (change.Pool c) v ≡ [] → sizes_refused (change.Pool c) v ≡ [] → parts_fit (change.Pool c) v ≡ true → OrRing (effect (change.Pool c) v)
stores_change j (store.DevClass two.Define class capacity) v valid tied legal sizes fit = or_ring (effect (change.Pool (store.DevClass two.Define class capacity)) v) (class_defined j class capacity v valid tied legal sizes)
stores_change j (store.DevClass two.Delete class capacity) v valid tied legal sizes fit = or_ring (effect (change.Pool (store.DevClass two.Delete class capacity)) v) (class_deleted j class capacity v valid tied legal sizes)
stores_change j (store.Pool verb.Define name class kind rule) v valid tied legal sizes fit = or_ring (effect (change.Pool (store.Pool verb.Define name class kind rule)) v) (pool_defined j name class kind rule v valid tied legal sizes)
stores_change j (store.Pool verb.Update name class kind rule) v valid tied legal sizes fit = pool_updated j name class kind rule v valid tied legal sizes
stores_change j (store.Pool verb.Delete name class kind rule) v valid tied legal sizes fit = or_ring (effect (change.Pool (store.Pool verb.Delete name class kind rule)) v) (pool_deleted j name class kind rule v valid tied legal sizes fit)
stores_change j (store.Volume verb.Define name number file capacity access) v valid tied legal sizes fit =
    or_ring (effect (change.Pool (store.Volume verb.Define name number file capacity access)) v) (volume_defined j name number file capacity access v valid tied legal sizes fit)
stores_change j (store.Volume verb.Update name number file capacity access) v valid tied legal sizes fit =
    or_ring (effect (change.Pool (store.Volume verb.Update name number file capacity access)) v) (volume_updated j name number file capacity access v valid tied legal sizes)
stores_change j (store.Volume verb.Delete name number file capacity access) v valid tied legal sizes fit =
    or_ring (effect (change.Pool (store.Volume verb.Delete name number file capacity access)) v) (volume_deleted j name number file capacity access v valid tied legal sizes)

pub rings_stay : (j : Journal) (c : PoolChange) (v : Inv) → is_valid v ≡ true → IsTied v → causes j (change.Pool c) v ≡ [] → sizes_refused (change.Pool c) v ≡ [] → parts_fit (change.Pool c) v ≡ true → are_apart (keys_of v.stores.pools) ≡ true
    → no_ring (effect (change.Pool c) v) ≡ true
rings_stay j (store.DevClass two.Define class capacity) v valid tied legal sizes fit apart = ring_of (effect (change.Pool (store.DevClass two.Define class capacity)) v) (class_defined j class capacity v valid tied legal sizes)
rings_stay j (store.DevClass two.Delete class capacity) v valid tied legal sizes fit apart = ring_of (effect (change.Pool (store.DevClass two.Delete class capacity)) v) (class_deleted j class capacity v valid tied legal sizes)
rings_stay j (store.Pool verb.Define name class kind rule) v valid tied legal sizes fit apart = ring_of (effect (change.Pool (store.Pool verb.Define name class kind rule)) v) (pool_defined j name class kind rule v valid tied legal sizes)
rings_stay j (store.Pool verb.Update name class kind rule) v valid tied legal sizes fit apart = pool_updated_rings j name class kind rule v valid legal apart
rings_stay j (store.Pool verb.Delete name class kind rule) v valid tied legal sizes fit apart = ring_of (effect (change.Pool (store.Pool verb.Delete name class kind rule)) v) (pool_deleted j name class kind rule v valid tied legal sizes fit)
rings_stay j (store.Volume verb.Define name number file capacity access) v valid tied legal sizes fit apart =
    ring_of (effect (change.Pool (store.Volume verb.Define name number file capacity access)) v) (volume_defined j name number file capacity access v valid tied legal sizes fit)
rings_stay j (store.Volume verb.Update name number file capacity access) v valid tied legal sizes fit apart =
    ring_of (effect (change.Pool (store.Volume verb.Update name number file capacity access)) v) (volume_updated j name number file capacity access v valid tied legal sizes)
rings_stay j (store.Volume verb.Delete name number file capacity access) v valid tied legal sizes fit apart =
    ring_of (effect (change.Pool (store.Volume verb.Delete name number file capacity access)) v) (volume_deleted j name number file capacity access v valid tied legal sizes)
