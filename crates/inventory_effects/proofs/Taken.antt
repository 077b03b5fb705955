-- What goes from the volumes as a change of the storage pools' rows is what goes from them as a change of the database.
use Rattle.std.proofs.Common.{◌≡◌, ℕ, List, [], ◌∷◌, Option, Some, refl, ap, ◌∙◌}
use Rattle.std.specs.Option.{option_map_or}
use Rattle.kinds.specs.declared.segment.Segment.{Segment}
use Rattle.inventory_rows.specs.version_groups.declared.copies.CopyRow.{CopyRow}
use Rattle.inventory_rows.specs.version_groups.declared.versions.Version.{Version}
use Rattle.inventory_rows.specs.pool_rows.PoolRows.{PoolRows}
use Rattle.inventory_rows.specs.pool_rows.Segments.{take_segment}
use Rattle.inventory_rows.specs.Search.{version, copy_in}
use Rattle.inventory_rows.specs.State.{Inv}
use Rattle.inventory_rules.specs.Common.{or_same, with_stores}
use Rattle.inventory_rules.specs.Copies.{segments_in, version_at}
use Rattle.inventory_rules.specs.Segments.{take_away, take_all}
use Rattle.inventory_rules.specs.Versions.{take_versions, copies_of}
use Rattle.inventory_effects.specs.Volumes.{taken, all_taken}

pub taken_away : (object : ℕ) (segments : List Segment) (v : Inv) → with_stores (taken object segments v.today v.stores) v ≡ take_away object segments v
taken_away object [] v = refl
taken_away object (x ∷ segments) v = taken_away object segments (with_stores (or_same v.stores (take_segment object x v.today v.stores)) v)

pub taken_all : (object : ℕ) (copies : List CopyRow) (v : Inv) → with_stores (all_taken object copies v.today v.stores) v ≡ take_all object copies v
taken_all object [] v = refl
taken_all object (c ∷ copies) v =
    taken_all object copies (with_stores (taken object c.segments v.today v.stores) v) ∙ ap (take_all object copies) (taken_away object c.segments v)

-- the copies of the version that was found go
pub taken_versions : (object : ℕ) (v : Inv) (w : Version) (stores : PoolRows) → Some w ≡ version object v → stores ≡ all_taken object w.copies v.today v.stores → with_stores stores v ≡ take_versions object v
taken_versions object v w stores found made =
    ap (λ (s : PoolRows). with_stores s v) made ∙ taken_all object w.copies v ∙ ap (λ (o : Option Version). take_all object (copies_of o) v) found

-- the segments of the copy that was found go
pub taken_copy : (object pool : ℕ) (v : Inv) (w : Version) (copy : CopyRow) (stores : PoolRows) → Some w ≡ version object v → Some copy ≡ copy_in pool w → stores ≡ taken object copy.segments v.today v.stores → with_stores stores v ≡ take_away object (segments_in pool (version_at object v)) v
taken_copy object pool v w copy stores found there made =
    ap (λ (s : PoolRows). with_stores s v) made ∙ taken_away object copy.segments v
    ∙ ap (λ (o : Option CopyRow). take_away object (option_map_or (λ (c : CopyRow). c.segments) o []) v) there
    ∙ ap (λ (o : Option Version). take_away object (segments_in pool o) v) found
