-- Copies are looked for, one after the other, and those that are missing are put with the lost ones.
use Rattle.std.proofs.Common.{◌≡◌, ℕ, Bool, true, false, ◌||◌, not, List, [], ◌∷◌, ◌++◌, Option, Result, Ok, Err, refl, sym, ap, ◌∙◌}
use Rattle.std.specs.List.{list_any}
use Rattle.std.specs.Prelude.{◌==◌, ◌&&◌}
use Rattle.store_api.specs.Disk.{History}
use Rattle.store_api.specs.Told.{Told}
use Rattle.kinds.specs.declared.refusal.OpenRefused.{OpenRefused}
use Rattle.copy_checks.specs.Copies.{is_there}
use Rattle.copy_checks.specs.Looks.{Looks, Saw}
use Rattle.copy_checks.proofs.Seeing.{saw_none, saw_so, saw_then}
use Rattle.inventory_rows.specs.version_groups.declared.copies.CopyRow.{CopyRow}
use Rattle.inventory_rows.specs.version_groups.declared.group.Group.{Group}
use Rattle.inventory_rows.specs.version_groups.declared.groups.Filespace.{Filespace}
use Rattle.inventory_rows.specs.version_groups.declared.versions.Version.{Version}
use Rattle.inventory_rows.specs.object_rows.declared.held_object.HeldRow.{HeldRow}
use Rattle.inventory_rows.specs.object_rows.Filespaces.{versions_in, versions_of}
use Rattle.inventory_rows.specs.object_rows.HeldRows.{held_versions}
use Rattle.inventory_rows.specs.object_rows.Rows.{Rows, kept_of}
use Rattle.db_losses.specs.Losses.{Losses, is_lost}
use Rattle.db_restore.specs.Missing.{FindsLost, copies_miss, is_missing, is_skipped, filespaces_miss, groups_miss, held_miss, versions_miss}

or_assoc : (a b c : Bool) → ((a || b) || c) ≡ (a || (b || c))
or_assoc true b c = refl
or_assoc false b c = refl

or_false : (a : Bool) → (a || false) ≡ a
or_false true = refl
or_false false = refl

-- what is found with what is left to be looked for is what is to be found
abbrev pub IsUnderway : (rest all : ℕ → ℕ → Bool) (old now : Losses) → Type 0
IsUnderway rest all old now = (object pool : ℕ) → (is_lost now object pool || rest object pool) ≡ (is_lost old object pool || all object pool)

underway_next : (m after rest all : ℕ → ℕ → Bool) (old now new : Losses) → ((object pool : ℕ) → rest object pool ≡ (m object pool || after object pool)) → IsUnderway rest all old now → FindsLost m now new → IsUnderway after all old new
underway_next m after rest all old now new first u found = λ object pool.
    ap (λ (b : Bool). b || after object pool) (found object pool) ∙ or_assoc (is_lost now object pool) (m object pool) (after object pool)
    ∙ ap (λ (b : Bool). is_lost now object pool || b) (sym (first object pool)) ∙ u object pool

underway_done : (rest all : ℕ → ℕ → Bool) (old now : Losses) → ((object pool : ℕ) → rest object pool ≡ false) → IsUnderway rest all old now → FindsLost all old now
underway_done rest all old now none u = λ object pool.
    sym (or_false (is_lost now object pool)) ∙ ap (λ (b : Bool). is_lost now object pool || b) (sym (none object pool)) ∙ u object pool

-- ---- what a store tells

module _ (m after rest all : (ℕ → List ℕ) → ℕ → ℕ → Bool) where
  pub look_more : (x y z : Option History) (old now new : Losses) → ((image : ℕ → List ℕ) (object pool : ℕ) → rest image object pool ≡ (m image object pool || after image object pool))
      → Told x y (Saw (λ image. IsUnderway (rest image) (all image) old now)) → (let result : Result (Unit {0}) OpenRefused = Ok tt in Told y z (Looks (λ image done. FindsLost (m image) now new) result)) → Told x z (Saw (λ image. IsUnderway (after image) (all image) old new))
  look_more x y z old now new first a b =
      saw_then x y z (λ image. IsUnderway (rest image) (all image) old now) (λ image. FindsLost (m image) now new) (λ image. IsUnderway (after image) (all image) old new)
      (λ image u found. underway_next (m image) (after image) (rest image) (all image) old now new (first image) u found) a b

pub look_none : (x : Option History) (all : (ℕ → List ℕ) → ℕ → ℕ → Bool) (old : Losses) → Told x x (Saw (λ image. IsUnderway (all image) (all image) old old))
look_none x all old = saw_none x (λ image. IsUnderway (all image) (all image) old old) (λ image object pool. refl)

pub look_done : (x y : Option History) (rest all : (ℕ → List ℕ) → ℕ → ℕ → Bool) (old now : Losses) → ((image : ℕ → List ℕ) (object pool : ℕ) → rest image object pool ≡ false)
    → Told x y (Saw (λ image. IsUnderway (rest image) (all image) old now)) → (let result : Result (Unit {0}) OpenRefused = Ok tt in Told x y (Looks (λ image done. FindsLost (all image) old now) result))
look_done x y rest all old now none a =
    saw_so x y (λ image. IsUnderway (rest image) (all image) old now) (λ image. FindsLost (all image) old now) (λ image u. underway_done (rest image) (all image) old now (none image) u) a

-- of both together
pub found_both : (first second all : ℕ → ℕ → Bool) (old mid new : Losses) → ((object pool : ℕ) → all object pool ≡ (first object pool || second object pool)) → FindsLost first old mid → FindsLost second mid new → FindsLost all old new
found_both first second all old mid new whole f g = λ object pool.
    g object pool ∙ ap (λ (c : Bool). c || second object pool) (f object pool) ∙ or_assoc (is_lost old object pool) (first object pool) (second object pool) ∙ ap (λ (c : Bool). is_lost old object pool || c) (sym (whole object pool))

-- ---- items

any_first : (a b : Bool) → (a || b) ≡ ((a || false) || b)
any_first a b = ap (λ (c : Bool). c || b) (sym (or_false a))

module _ (image : ℕ → List ℕ) (skipped : List ℕ) (object pool : ℕ) where
  pub next_copy : (w : Version) (left : List CopyRow) (x : CopyRow) (rest : List CopyRow) → left ≡ x ∷ rest → copies_miss image skipped w left object pool ≡ (copies_miss image skipped w (x ∷ []) object pool || copies_miss image skipped w rest object pool)
  next_copy w left x rest is =
      ap (λ (l : List CopyRow). copies_miss image skipped w l object pool) is ∙ any_first ((object == w.object && pool == x.pool) && is_missing image skipped w x) (copies_miss image skipped w rest object pool)

  pub no_copy : (w : Version) (left : List CopyRow) → left ≡ [] → copies_miss image skipped w left object pool ≡ false
  no_copy w left is = ap (λ (l : List CopyRow). copies_miss image skipped w l object pool) is

  pub next_version : (left : List Version) (x : Version) (rest : List Version) (cs : List CopyRow) → left ≡ x ∷ rest → cs ≡ x.copies → versions_miss image skipped left object pool ≡ (copies_miss image skipped x cs object pool || versions_miss image skipped rest object pool)
  next_version left x rest cs is same =
      ap (λ (l : List Version). versions_miss image skipped l object pool) is ∙ ap (λ (l : List CopyRow). copies_miss image skipped x l object pool || versions_miss image skipped rest object pool) (sym same)

  pub no_version : (left : List Version) → left ≡ [] → versions_miss image skipped left object pool ≡ false
  no_version left is = ap (λ (l : List Version). versions_miss image skipped l object pool) is

-- ---- all that is kept

any_joined : {X : Type 0} (f : X → Bool) (xs ys : List X) → list_any f (xs ++ ys) ≡ (list_any f xs || list_any f ys)
any_joined f [] ys = refl
any_joined f (x ∷ xs) ys = ap (λ (b : Bool). f x || b) (any_joined f xs ys) ∙ sym (or_assoc (f x) (list_any f xs) (list_any f ys))

module _ (image : ℕ → List ℕ) (skipped : List ℕ) (object pool : ℕ) where
  abbrev misses : Version → Bool
  misses w = copies_miss image skipped w w.copies object pool

  in_groups : (gs : List (List ℕ × Group)) → versions_miss image skipped (versions_in gs) object pool ≡ groups_miss image skipped gs object pool
  in_groups [] = refl
  in_groups (g ∷ gs) = any_joined misses g.1.versions (versions_in gs) ∙ ap (λ (b : Bool). versions_miss image skipped g.1.versions object pool || b) (in_groups gs)

  in_filespaces : (fs : List (ℕ × Filespace)) → versions_miss image skipped (versions_of fs) object pool ≡ filespaces_miss image skipped fs object pool
  in_filespaces [] = refl
  in_filespaces (f ∷ fs) =
      any_joined misses (versions_in f.1.groups) (versions_of fs) ∙ ap (λ (b : Bool). b || versions_miss image skipped (versions_of fs) object pool) (in_groups f.1.groups)
      ∙ ap (λ (b : Bool). groups_miss image skipped f.1.groups object pool || b) (in_filespaces fs)

  in_held : (hs : List (ℕ × HeldRow)) → versions_miss image skipped (held_versions hs) object pool ≡ held_miss image skipped hs object pool
  in_held [] = refl
  in_held (h ∷ hs) = ap (λ (b : Bool). copies_miss image skipped h.1.held.version h.1.held.version.copies object pool || b) (in_held hs)

  pub in_all : (rows : Rows) → versions_miss image skipped (kept_of rows) object pool ≡ (filespaces_miss image skipped rows.filespaces object pool || held_miss image skipped rows.held object pool)
  in_all rows =
      any_joined misses (versions_of rows.filespaces) (held_versions rows.held) ∙ ap (λ (b : Bool). b || versions_miss image skipped (held_versions rows.held) object pool) (in_filespaces rows.filespaces)
      ∙ ap (λ (b : Bool). filespaces_miss image skipped rows.filespaces object pool || b) (in_held rows.held)

-- ---- one copy

module _ (skipped : List ℕ) (w : Version) (c : CopyRow) where
  abbrev IsFound : (ℕ → List ℕ) → Bool → Type 0
  IsFound image found = found ≡ is_missing image skipped w c

  abbrev Finds : (old new : Losses) → (ℕ → List ℕ) → Type 0
  Finds old new image = FindsLost (copies_miss image skipped w (c ∷ [])) old new

  pub skipped_missing : (x : Option History) → is_skipped skipped c.segments ≡ true → (let result : Result Bool OpenRefused = Ok true in Told x x (Looks IsFound result))
  skipped_missing x is = saw_none x (λ image. IsFound image true) (λ image. sym (ap (λ (b : Bool). b || not (is_there image w.object w.size w.digest.0 c.segments)) is))

  pub looked_missing : (x y : Option History) (there : Bool) (size : ℕ) → is_skipped skipped c.segments ≡ false → size ≡ w.size → (let result : Result Bool OpenRefused = Ok there in Told x y (Looks (λ image found. found ≡ is_there image w.object size w.digest.0 c.segments) result))
      → (let result : Result Bool OpenRefused = Ok (not there) in Told x y (Looks IsFound result))
  looked_missing x y there size free same a =
      saw_so x y (λ image. there ≡ is_there image w.object size w.digest.0 c.segments) (λ image. IsFound image (not there))
      (λ image is. ap not (is ∙ ap (λ (n : ℕ). is_there image w.object n w.digest.0 c.segments) same) ∙ sym (ap (λ (b : Bool). b || not (is_there image w.object w.size w.digest.0 c.segments)) free)) a

  one_miss : (image : ℕ → List ℕ) (object pool : ℕ) (found : Bool) → IsFound image found → copies_miss image skipped w (c ∷ []) object pool ≡ (((object == w.object) && (pool == c.pool)) && found)
  one_miss image object pool found is = or_false (((object == w.object) && (pool == c.pool)) && is_missing image skipped w c) ∙ ap (λ (b : Bool). ((object == w.object) && (pool == c.pool)) && b) (sym is)

  and_true : (b : Bool) → (b && true) ≡ b
  and_true true = refl
  and_true false = refl

  and_false : (b : Bool) → (b && false) ≡ false
  and_false true = refl
  and_false false = refl

  -- a copy that isn't missing isn't lost by it
  pub none_lost : (x y : Option History) (found : Bool) (losses : Losses) → found ≡ false → (let result : Result Bool OpenRefused = Ok found in Told x y (Looks IsFound result)) → (let result : Result (Unit {0}) OpenRefused = Ok tt in Told x y (Looks (λ image done. Finds losses losses image) result))
  none_lost x y found losses isnt a =
      saw_so x y (λ image. IsFound image found) (Finds losses losses)
      (λ image is object pool.
      sym (ap (λ (b : Bool). is_lost losses object pool || b) (one_miss image object pool found is ∙ ap (λ (b : Bool). ((object == w.object) && (pool == c.pool)) && b) isnt ∙ and_false ((object == w.object) && (pool == c.pool))) ∙ or_false (is_lost losses object pool))) a

  -- one that is missing is
  pub one_lost : (x y : Option History) (found : Bool) (old new : Losses) → found ≡ true → ((object pool : ℕ) → is_lost new object pool ≡ (is_lost old object pool || ((object == w.object) && (pool == c.pool))))
      → (let result : Result Bool OpenRefused = Ok found in Told x y (Looks IsFound result)) → (let result : Result (Unit {0}) OpenRefused = Ok tt in Told x y (Looks (λ image done. Finds old new image) result))
  one_lost x y found old new so added a =
      saw_so x y (λ image. IsFound image found) (Finds old new)
      (λ image is object pool.
      added object pool
      ∙ ap (λ (b : Bool). is_lost old object pool || b) (sym (one_miss image object pool found is ∙ ap (λ (b : Bool). ((object == w.object) && (pool == c.pool)) && b) so ∙ and_true ((object == w.object) && (pool == c.pool))))) a

-- what was found isn't told of where another step failed
pub look_dropped : {T U : Type 0} (x y : Option History) (R : (ℕ → List ℕ) → T → Type 0) (S : (ℕ → List ℕ) → U → Type 0) (result : Result T OpenRefused) (why : OpenRefused) → Told x y (Looks R result) → (let failed : Result U OpenRefused = Err why in Told x y (Looks S failed))
look_dropped x y R S (Ok found) why a = saw_so x y (λ image. R image found) (λ image. Unit {0}) (λ image p. tt) a
look_dropped x y R S (Err other) why a = a
