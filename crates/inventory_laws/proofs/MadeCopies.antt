-- Copies are made, and copies move, one after the other.
use Rattle.std.proofs.Common.{◌≡◌, ℕ, ◌+◌, ◌^◌, ◌<◌, Bool, true, false, not, List, [], ◌∷◌, Option, Some, None, refl, sym, ap, subst, ◌∙◌}
use Rattle.std.specs.Prelude.{IsTrue, is_some, ◌==◌}
use Rattle.std.specs.List.{list_all}
use Rattle.std.specs.Option.{option_map_or}
use Rattle.std.proofs.lemmas.Bool.{eqb-false, ne_eqb}
use Rattle.inventory_rules.specs.entries.change_items.declared.items.MovedCopy.{MovedCopy}
use Rattle.inventory_rules.specs.entries.change_items.declared.items.NewCopy.{NewCopy}
use Rattle.inventory_rules.specs.inventory_rows.version_groups.declared.copies.CopyChange.{CopyChange}
use Rattle.inventory_rules.specs.inventory_rows.version_groups.declared.versions.Version.{Version}
use Rattle.inventory_rules.specs.inventory_rows.version_groups.Copies.{has_copy, without_copy}
use Rattle.inventory_rules.specs.inventory_rows.version_groups.Entries.{all_later}
use Rattle.inventory_rules.specs.inventory_rows.version_groups.Versions.{version_of}
use Rattle.inventory_rules.specs.inventory_rows.object_rows.Rows.{Rows, kept_of, rows_altered}
use Rattle.inventory_rules.specs.inventory_rows.Search.{version}
use Rattle.inventory_rules.specs.inventory_rows.State.{Inv}
use Rattle.inventory_rules.specs.Common.{each, or_same, CanEach}
use Rattle.inventory_rules.specs.Copies.{add_copy, added, change_copy, move_copy, moved, put_moved, segments_in, take_moved, version_at, CanCopy, CanMove, CanPutMoved}
use Rattle.inventory_laws.specs.Volumes.{OnlyVolumes}
use Rattle.inventory_laws.proofs.Facts.{first, rest}
use Rattle.inventory_laws.proofs.MadeItems.{others_hold}
use Rattle.inventory_laws.proofs.MadeVolumes.{all_roomy, can_put_all, roomy_items, roomy_puts}
use Rattle.inventory_laws.proofs.Others.{other_copied}
use Rattle.inventory_laws.proofs.VersionVolumes.{put_only, taken_only, then}

-- what holds of other objects holds once the copies of one have changed
module _ {X : Type 0} (number : X → ℕ) (test : X → Option Version → Bool) where
  -- the test holds of each item and what is kept of its object
  abbrev pub all_versions : List X → Rows → Bool
  all_versions xs rows = list_all (λ x. test x (version_of (number x) (kept_of rows))) xs

  pub others_tested : (k : ℕ) (change : CopyChange) (xs : List X) (v : Inv) → list_all (λ b. not (k == number b)) xs ≡ true → all_versions xs v.clients ≡ true → all_versions xs (change_copy k change v).clients ≡ true
  others_tested k change xs v apart h =
      others_hold number k (λ x. test x (version (number x) v)) (λ x. test x (version (number x) (change_copy k change v)))
      (λ x away t. ap (test x) (other_copied k (number x) change v (ne_eqb (number x) k (λ e. eqb-false k (number x) away (sym e)))) ∙ t) xs apart h

-- ---- copies that are made

-- the version is there, and no copy of it lies in the pool
abbrev pub takes_copy : NewCopy → Option Version → Bool
takes_copy item o = option_map_or (λ w. not (has_copy item.pool w.copies)) o false

there_taken : (item : NewCopy) (o : Option Version) → takes_copy item o ≡ true → is_some o ≡ true
there_taken item None h = absurd cc
there_taken item (Some w) h = refl

free_taken : (item : NewCopy) (o : Option Version) → takes_copy item o ≡ true → IsTrue (not (has_copy item.pool (option_map_or (λ w. w.copies) o [])))
free_taken item None h = absurd cc
free_taken item (Some w) h = h

-- the versions of the items, each its own, take a copy, and the segments have room
pub record TakeCopies (items : List NewCopy) (v : Inv) : Type 0 where
  pub take : all_versions (λ (i : NewCopy). i.object) takes_copy items v.clients ≡ true
  pub apart : all_later (λ a b. not (a.object == b.object)) items ≡ true
  pub number : v.number + 1 < 2 ^ 64
  pub roomy : list_all (λ i. all_roomy i.object i.segments v) items ≡ true

behind_copy : (item : NewCopy) (items : List NewCopy) (v : Inv) → TakeCopies (item ∷ items) v → TakeCopies items (add_copy item v)
behind_copy item items v n =
    let w : Inv = change_copy item.object (added item v) v in
    let only : OnlyVolumes w (add_copy item v) = put_only item.object item.segments w in
    let apart : list_all (λ b. not (item.object == b.object)) items ≡ true = first (list_all (λ b. not (item.object == b.object)) items) (all_later (λ a b. not (a.object == b.object)) items) n.apart in
    record {
      take = ap (all_versions (λ (i : NewCopy). i.object) takes_copy items) only.clients
          ∙ others_tested (λ (i : NewCopy). i.object) takes_copy item.object (added item v) items v apart (rest (takes_copy item (version item.object v)) (all_versions (λ (i : NewCopy). i.object) takes_copy items v.clients) n.take);
      apart = rest (list_all (λ b. not (item.object == b.object)) items) (all_later (λ a b. not (a.object == b.object)) items) n.apart;
      number = subst (λ (k : ℕ). k + 1 < 2 ^ 64) (sym only.number) n.number;
      roomy = roomy_items (λ i. i.object) (λ i. i.segments) items v (add_copy item v) (roomy_puts item.object item.segments w)
          (rest (all_roomy item.object item.segments v) (list_all (λ i. all_roomy i.object i.segments v) items) n.roomy);
    }

pub can_copy_all : (items : List NewCopy) (v : Inv) → TakeCopies items v → CanEach CanCopy add_copy items v
can_copy_all [] v n = tt
can_copy_all (item ∷ items) v n =
    let takes : takes_copy item (version item.object v) ≡ true =
    first (takes_copy item (version item.object v)) (all_versions (λ (i : NewCopy). i.object) takes_copy items v.clients) n.take in (
      record {
        place = record {
          there = there_taken item (version item.object v) takes;
          free = free_taken item (version item.object v) takes;
          number = n.number;
        };
        segments = can_put_all item.object item.segments (change_copy item.object (added item v) v) (first (all_roomy item.object item.segments v) (list_all (λ i. all_roomy i.object i.segments v) items) n.roomy);
      },
      can_copy_all items (add_copy item v) (behind_copy item items v n),
    )

-- ---- copies that move

-- the new segments of all come
pub can_put_moved_all : (items : List MovedCopy) (v : Inv) → list_all (λ i. all_roomy i.object i.segments v) items ≡ true → CanEach CanPutMoved put_moved items v
can_put_moved_all [] v h = tt
can_put_moved_all (item ∷ items) v h = (
  can_put_all item.object item.segments v (first (all_roomy item.object item.segments v) (list_all (λ i. all_roomy i.object i.segments v) items) h),
  can_put_moved_all items (put_moved item v)
      (roomy_items (λ i. i.object) (λ i. i.segments) items v (put_moved item v) (roomy_puts item.object item.segments v) (rest (all_roomy item.object item.segments v) (list_all (λ i. all_roomy i.object i.segments v) items) h)),
)

pub only_moved : (items : List MovedCopy) (v : Inv) → OnlyVolumes v (each put_moved items v)
only_moved [] v = put_only 0 [] v
only_moved (item ∷ items) v = then (put_only item.object item.segments v) (only_moved items (put_moved item v))

-- no copy of the version but the one that moves lies in the pool
abbrev pub takes_moved : MovedCopy → Option Version → Bool
takes_moved item o = option_map_or (λ w. not (has_copy item.pool (without_copy item.from w.copies))) o false

free_moved : (item : MovedCopy) (o : Option Version) → takes_moved item o ≡ true → IsTrue (not (has_copy item.pool (without_copy item.from (option_map_or (λ w. w.copies) o []))))
free_moved item None h = absurd cc
free_moved item (Some w) h = h

pub can_move_all : (items : List MovedCopy) (v : Inv) → all_later (λ a b. not (a.object == b.object)) items ≡ true → all_versions (λ (i : MovedCopy). i.object) takes_moved items v.clients ≡ true → CanEach CanMove move_copy items v
can_move_all [] v once h = tt
can_move_all (item ∷ items) v once h =
    let only : OnlyVolumes v (take_moved item v) = taken_only item.object (segments_in item.from (version_at item.object v)) v in
    let is : (move_copy item v).clients ≡ (change_copy item.object (moved item v) v).clients = ap (λ (r : Rows). or_same r (rows_altered item.object (moved item v) r)) only.clients in
    let apart : list_all (λ b. not (item.object == b.object)) items ≡ true = first (list_all (λ b. not (item.object == b.object)) items) (all_later (λ a b. not (a.object == b.object)) items) once in
    let others : all_versions (λ (i : MovedCopy). i.object) takes_moved items v.clients ≡ true = rest (takes_moved item (version item.object v)) (all_versions (λ (i : MovedCopy). i.object) takes_moved items v.clients) h in (
      free_moved item (version item.object v) (first (takes_moved item (version item.object v)) (all_versions (λ (i : MovedCopy). i.object) takes_moved items v.clients) h),
      can_move_all items (move_copy item v) (rest (list_all (λ b. not (item.object == b.object)) items) (all_later (λ a b. not (a.object == b.object)) items) once)
          (ap (all_versions (λ (i : MovedCopy). i.object) takes_moved items) is ∙ others_tested (λ (i : MovedCopy). i.object) takes_moved item.object (moved item v) items v apart others),
    )
