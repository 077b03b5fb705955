-- What is kept of the covered copies, database by database.
use Rattle.std.proofs.Common.{ℕ, List, [], ◌∷◌, ◌++◌}
use Rattle.std.specs.List.{AllByRecursion, flat_map}
use Rattle.store_api.specs.Disk.{History, now, ImageAt}
use Rattle.inventory_rows.specs.version_groups.declared.versions.Version.{Version}
use Rattle.inventory_rows.specs.Search.{versions}
use Rattle.inventory_rows.specs.State.{Inv}
use Rattle.inventory_laws.proofs.Lists.{each_also}
use Rattle.contents.specs.Contents.{HasAll, HaveAll, HasVersion, Holds, InStore, IsKept}
use Rattle.contents.proofs.Kept.{kept_left}
use Rattle.hall.specs.Covered.{covered, left_open}
use Rattle.machine.specs.State.{Core}

each_parted : {X : Type 0} (P : X → Type 0) (xs ys : List X) → AllByRecursion P (xs ++ ys) → AllByRecursion P xs × AllByRecursion P ys
each_parted P [] ys h = (tt, h)
each_parted P (x ∷ xs) ys h = let t = each_parted P xs ys h.1 in ((h.0, t.0), t.1)

module _ (P : ℕ → ℕ → List ℕ → Type 0) (contents : ℕ → List ℕ) where
  abbrev Has : Version → Type 0
  Has w = HasVersion P (contents w.object) w

  pub all_each : (list : List Inv) → HaveAll P contents (flat_map versions list) → AllByRecursion (HasAll P contents) list
  all_each [] h = tt
  all_each (v ∷ list) h = let t = each_parted Has (versions v) (flat_map versions list) h in (t.0, all_each list t.1)

pub images_hold : (contents : ℕ → List ℕ) (h : History) (c : Core) (image : ℕ → List ℕ) → HaveAll (InStore h) contents (covered c) → ImageAt h (now h) image
    → AllByRecursion (Holds contents image) (left_open c)
images_hold contents h c image kept here =
    each_also (IsKept contents h) (Holds contents image) (left_open c) (λ v k. kept_left contents h v image k here) (all_each (InStore h) contents (left_open c) kept)
