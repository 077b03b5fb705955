-- The tables that are made of rows once the segments of the copies are on the volumes.
use Rattle.std.proofs.Common.{◌≡◌, ℕ, Bool, true, false, cond, ◌&&◌, List, Option, Some, None, refl, sym, ap, ◌∙◌}
use Rattle.std.specs.Prelude.{IfSome, IfNone}
use Rattle.std.proofs.lemmas.Bool.{false≢true}
use Rattle.std.proofs.lemmas.Option.{same_Some}
use Rattle.inventory_rows.specs.object_rows.declared.held_object.HeldRow.{HeldRow}
use Rattle.inventory_rows.specs.version_groups.declared.groups.Filespace.{Filespace}
use Rattle.inventory_rows.specs.volume_rows.declared.volume.Volume.{Volume}
use Rattle.inventory_rows.specs.pool_tables.declared.pool.Pool.{Pool}
use Rattle.inventory_rows.specs.pool_tables.Counted.{are_sound}
use Rattle.inventory_rows.specs.pool_tables.Names.{pool_name, are_apart}
use Rattle.inventory_rows.specs.pool_rows.PoolRows.{PoolRows, with_rows}
use Rattle.inventory_rows.specs.State.{Inv}
use Rattle.inventory_bytes.specs.Payload.{AreSound}
use Rattle.inventory_bytes.specs.Segments.{all_lie, are_there, filled, of_kept, AreFilled, IsFilled}
use Rattle.inventory_bytes.proofs.Filling.{all_put, filled-held}
use Rattle.inventory_bytes.proofs.Holding.{gathered}
use Rattle.inventory_bytes.proofs.Listed.{listed_lie}
use Rattle.inventory_bytes.proofs.Spelled.{sound-held}

pub is_made : {X : Type 0} (b : Bool) (x y : X) → cond b (Some x) None ≡ Some y → b ≡ true
is_made true x y h = refl
is_made false x y h = absurd (cc)

not_made : {X : Type 0} (b : Bool) (x : X) → None ≡ cond b (Some x) None → b ≡ false
not_made true x h = absurd (cc)
not_made false x h = refl

-- the tables of sound volumes are made whatever the volumes hold
pub always_made : (cs : List (List ℕ × Option ℕ)) (ps : List (ℕ × Pool)) (vs ws : List (ℕ × Volume)) (s : PoolRows) → are_sound ws ≡ are_sound vs → with_rows cs ps vs ≡ Some s → None ≡ with_rows cs ps ws → ⊥
always_made cs ps vs ws s same made none =
    false≢true (
    sym (not_made {X = PoolRows} (are_apart pool_name ps && are_sound ws) (record { classes = cs; pools = ps; volumes = ws }) none)
    ∙ ap (λ b. are_apart pool_name ps && b) same
    ∙ is_made {X = PoolRows} (are_apart pool_name ps && are_sound vs) (record { classes = cs; pools = ps; volumes = vs }) s made
    )

made_is : (b : Bool) (x s : PoolRows) → Some s ≡ cond b (Some x) None → s ≡ x
made_is true x s h = same_Some s x h
made_is false x s h = absurd (cc)

-- the pools that were made
pub are_filled : (filespaces : List (ℕ × Filespace)) (held : List (ℕ × HeldRow)) (s : PoolRows) (ws : List (ℕ × Volume)) (o : Option PoolRows) → filled (of_kept filespaces held) s.volumes ≡ Some ws → o ≡ with_rows s.classes s.pools ws
    → IfSome o (AreFilled filespaces held s)
are_filled filespaces held s ws None put made = tt
are_filled filespaces held s ws (Some t) put made =
    let is : t ≡ record s { volumes = ws } = made_is (are_apart pool_name s.pools && are_sound ws) (record s { volumes = ws }) t made in
    record { filled = put ∙ ap Some (sym (ap (λ (r : PoolRows). r.volumes) is)); only = is ∙ ap (λ (vs : List (ℕ × Volume)). record s { volumes = vs }) (sym (ap (λ (r : PoolRows). r.volumes) is)) }

pub none_filled : (filespaces : List (ℕ × Filespace)) (held : List (ℕ × HeldRow)) (s : PoolRows) (ws : List (ℕ × Volume)) (o : Option PoolRows) → filled (of_kept filespaces held) s.volumes ≡ Some ws → o ≡ with_rows s.classes s.pools ws
    → IfNone o (with_rows s.classes s.pools s.volumes ≡ Some s → are_there filespaces held s.volumes ≡ true → ⊥)
none_filled filespaces held s ws None put made = λ sound there.
    always_made s.classes s.pools s.volumes ws s
    (ap are_sound (filled-held (of_kept filespaces held) s.volumes ws put) ∙ sound-held (gathered (of_kept filespaces held)) s.volumes) sound made
none_filled filespaces held s ws (Some t) put made = tt

pub not_there : (filespaces : List (ℕ × Filespace)) (held : List (ℕ × HeldRow)) (volumes : List (ℕ × Volume)) → filled (of_kept filespaces held) volumes ≡ None → are_there filespaces held volumes ≡ true → ⊥
not_there filespaces held volumes none there = all_put (of_kept filespaces held) volumes there none

-- the whole database
pub is_filled : (v w : Inv) → AreFilled v.clients.filespaces v.clients.held v.stores w.stores → record w { stores = v.stores } ≡ v → IsFilled v w
is_filled v w f same = record {
  filled = f.filled;
  only = ap (λ (s : PoolRows). record w { stores = s }) f.only ∙ ap (λ (x : Inv). record x { stores = record v.stores { volumes = w.stores.volumes } }) same;
}

pub none_there : (v : Inv) → (with_rows v.stores.classes v.stores.pools v.stores.volumes ≡ Some v.stores → are_there v.clients.filespaces v.clients.held v.stores.volumes ≡ true → ⊥) → AreSound v → all_lie v ≡ true → ⊥
none_there v none sound lie = none sound.stores (listed_lie v ∙ lie)
