-- One volume by itself, with what lies on it, as a segment comes or goes.
use Rattle.std.proofs.Common.{◌≡◌, ℕ, ◌+◌, ◌%◌, Bool, true, ◌&&◌, ◌||◌, List, ◌∷◌, Some, sym, subst}
use Rattle.std.specs.Prelude.{◌==◌, nat_le}
use Rattle.std.specs.List.{list_all}
use Rattle.std.proofs.lemmas.Bool.{and_parts}
use Rattle.kinds.specs.declared.segment.Segment.{Segment}
use Rattle.inventory_rules.specs.inventory_rows.volume_rows.declared.volume.Volume.{Volume}
use Rattle.inventory_rules.specs.inventory_rows.volume_rows.Held.{held_of}
use Rattle.inventory_rules.specs.inventory_rows.volume_rows.Volumes.{put_on, take_from}
use Rattle.inventory_rules.proofs.of_inventory_rows.of_pool_tables.Sound.{Keeps, put_keeps}
use Rattle.inventory_rules.specs.inventory_rows.pool_rows.PoolRows.{is_sequential, pool_capacity}
use Rattle.inventory_rules.specs.inventory_rows.State.{Inv}
use Rattle.inventory_rules.specs.Held.{holding}
use Rattle.inventory_rules.specs.Halfway.{is_volume_with}
use Rattle.inventory_rules.specs.Segments.{are_clear, lies_rightly}
use Rattle.inventory_laws.proofs.VolumeFacts.{fits_of, of_fits, primary_at}
use Rattle.inventory_laws.proofs.Volume.{Fits, put_fits, take_fits}

pub put_volume : (v : Inv) (there : List (ℕ × Segment)) (f : ℕ × Volume) (object : ℕ) (s : Segment) → is_volume_with v there f ≡ true → lies_rightly (is_sequential f.1.pool v.stores) f.1.pool s (Some f.1) ≡ true
    → list_all (λ e. are_clear (is_sequential f.1.pool v.stores) s e.1) there ≡ true → is_volume_with v ((object, s) ∷ there) (f.0, put_on (is_sequential f.1.pool v.stores) (held_of object s) f.1) ≡ true
put_volume v there f object s is lies clear =
    let b : Bool = is_sequential f.1.pool v.stores in
    let new : Volume = put_on b (held_of object s) f.1 in
    let keeps : Keeps f.1 new = put_keeps b (held_of object s) f.1 in
    let one = and_parts (f.1.pool == f.1.pool) (nat_le (s.offset + 32 + s.len) f.1.capacity && (b || s.offset % 4096 == 0)) lies in
    let two = and_parts (nat_le (s.offset + 32 + s.len) f.1.capacity) (b || s.offset % 4096 == 0) one.1 in
    of_fits v ((object, s) ∷ there) (f.0, new)
    (subst (λ n. Fits (is_sequential n v.stores) (pool_capacity n v.stores) (primary_at n v.stores) ((object, s) ∷ there) new) (sym keeps.pool)
    (put_fits b (pool_capacity f.1.pool v.stores) (primary_at f.1.pool v.stores) there object s f.1 two.0 two.1 clear (fits_of v there f is)))

pub take_volume : (v : Inv) (there : List (ℕ × Segment)) (f : ℕ × Volume) (object : ℕ) (s : Segment) (today : ℕ) → is_volume_with v ((object, s) ∷ there) f ≡ true → f.1.segments ≡ holding ((object, s) ∷ there)
    → is_volume_with v there (f.0, take_from (is_sequential f.1.pool v.stores) (held_of object s) today f.1) ≡ true
take_volume v there f object s today is held =
    of_fits v there (f.0, take_from (is_sequential f.1.pool v.stores) (held_of object s) today f.1)
    (take_fits (is_sequential f.1.pool v.stores) (pool_capacity f.1.pool v.stores) (primary_at f.1.pool v.stores) there object s today f.1 held (fits_of v ((object, s) ∷ there) f is))
