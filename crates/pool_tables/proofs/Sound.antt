-- What is kept beside the volumes, after a volume came, changed or went.
use Rattle.std.proofs.Common.{◌≡◌, ℕ, ◌*◌, ◌≤◌, ◌<◌, ◌^◌, Bool, true, false, cond, not, List, [], ◌∷◌, length, Option, Some, None, IsSome, Result, Ok, Err, refl, sym, ap, subst, ◌∙◌, arith}
use Rattle.std.specs.List.{AllByRecursion}
use Rattle.std.specs.List.Sorted.{IsStrictlySortedBy}
use Rattle.std.specs.BTreeMap.{is_at}
use Rattle.std.specs.Cmp.Lexicographic.{slice_cmp}
use Rattle.std.specs.Map.{keys_of}
use Rattle.std.specs.Ordering.{nat_cmp}
use Rattle.volume_rows.specs.kinds.declared.refusal.Refusal.{Refusal}
use Rattle.volume_rows.specs.kinds.declared.refusal.Refusal.TheVariants.{NotFound}
use Rattle.volume_rows.specs.declared.volume.Volume.{Volume}
use Rattle.volume_rows.specs.declared.held.HeldSegment.{HeldSegment}
use Rattle.volume_rows.specs.Holdings.{is_held}
use Rattle.volume_rows.specs.Volumes.{put_on, take_from, undo_on}
use Rattle.pool_tables.specs.declared.totals.Totals.{Totals}
use Rattle.volume_rows.specs.kinds.Names.{is_same_name}
use Rattle.pool_tables.specs.Rows.{named, row_at, with_row, without_row, set_row, edit_row, edited, row_set, changed, change_row}
use Rattle.pool_tables.specs.Names.{row_named}
use Rattle.pool_tables.specs.Scratch.{volume_name, scratch_name, is_scratch_name, is_rightly_named}
use Rattle.pool_tables.specs.Sums.{used_blocks_on, blocks_of_volume, live_bytes_on, defined_one, scratch_one, total_of}
use Rattle.pool_tables.specs.Counted.{no_totals, totals_at, totals_of_volume, totals_of_row, moved, AreWithin, AreAtMost, IsSound, AreCounted}
use Rattle.pool_tables.specs.RowChanges.{put, take}
use Rattle.pool_tables.proofs.Tables.{lookup-set}
use Rattle.pool_tables.proofs.Names.{index_insert, index_set, index_remove, index_undone}
use Rattle.pool_tables.proofs.Counting.{each_insert, each_set, each_remove, each_there, part_within, totals_set, totals_same, totals_insert, totals_remove, total_within, count_within, defined_once, scratch_once}

-- what a change of a volume leaves as it was
pub record Keeps (v w : Volume) : Type 0 where
  pub name : w.name ≡ v.name
  pub pool : w.pool ≡ v.pool
  pub scratch : w.scratch ≡ v.scratch

pub put_keeps : (sequential : Bool) (segment : HeldSegment) (v : Volume) → Keeps v (put_on sequential segment v)
put_keeps true segment v = record { name = refl; pool = refl; scratch = refl }
put_keeps false segment v = record { name = refl; pool = refl; scratch = refl }

pub take_keeps : (sequential : Bool) (segment : HeldSegment) (today : ℕ) (v : Volume) → Keeps v (take_from sequential segment today v)
take_keeps sequential segment today v = record { name = refl; pool = refl; scratch = refl }

pub undo_keeps : (sequential : Bool) (segment : HeldSegment) (end : ℕ) (emptied : Option ℕ) (v : Volume) → Keeps v (undo_on sequential segment end emptied v)
undo_keeps true segment end emptied v = record { name = refl; pool = refl; scratch = refl }
undo_keeps false segment end emptied v = record { name = refl; pool = refl; scratch = refl }

same_Ok : {A : Type 0} (x y : A) → (let a : Result A Refusal = Ok x in let b : Result A Refusal = Ok y in a ≡ b) → x ≡ y
same_Ok x y h = cc

pub put_change_keeps : (sequential : Bool) (segment : HeldSegment) (v w : Volume) → put sequential segment v ≡ Ok w → Keeps v w
put_change_keeps sequential segment v w h = subst (Keeps v) (same_Ok (put_on sequential segment v) w h) (put_keeps sequential segment v)

pub take_change_keeps : (sequential : Bool) (segment : HeldSegment) (today : ℕ) (v w : Volume) → take sequential segment today v ≡ Ok w → Keeps v w
take_change_keeps sequential segment today v w h =
    elim (is_held segment v.segments) as (λ b. cond {A = Result Volume Refusal} b (Ok (take_from sequential segment today v)) (Err NotFound) ≡ Ok w → Keeps v w) [
      | true ↦ λ t. subst (Keeps v) (same_Ok (take_from sequential segment today v) w t) (take_keeps sequential segment today v)
      | false ↦ λ t. absurd (cc)
    ] h

still_named : (file : ℕ) (v w : Volume) → Keeps v w → is_rightly_named file w ≡ is_rightly_named file v
still_named file v w k =
    ap (λ b. cond b (is_same_name w.name (scratch_name file)) (not (is_scratch_name w.name))) k.scratch
    ∙ ap (λ n. cond v.scratch (is_same_name n (scratch_name file)) (not (is_scratch_name n))) k.name

-- ---- a volume changed

counted_set : (names : List (List ℕ × ℕ)) (totals : List (ℕ × Totals)) (rows : List (ℕ × Volume)) (k : ℕ) (v w : Volume) → row_at k rows ≡ Some v → Keeps v w → AreWithin (totals_of_volume w) (2 ^ 56) → AreCounted names totals rows
    → AreCounted names (edit_row v.pool (moved (totals_of_volume v) (totals_of_volume w)) totals) (set_row k w rows)
counted_set names totals rows k v w there keeps few h = record {
  index = index_set volume_name names k v w rows there keeps.name h.index;
  counted = totals_set totals rows k v w there keeps.pool h.counted;
  each = let old : IsSound k v = each_there (λ (e : ℕ × Volume). IsSound e.0 e.1) k v rows there h.each in
      each_set (λ (e : ℕ × Volume). IsSound e.0 e.1) k w rows (record { small = old.small; few = few; named = still_named k v w keeps ∙ old.named }) h.each;
}

-- by a change that may be refused
pub counted_change : (names : List (List ℕ × ℕ)) (totals after : List (ℕ × Totals)) (rows new : List (ℕ × Volume)) (k : ℕ) (f : Volume → Result Volume Refusal) (v : Volume) (less more : Totals)
    → Some v ≡ row_at k rows → change_row k f rows ≡ Ok new → ((w : Volume) → f v ≡ Ok w → Keeps v w) → less ≡ totals_of_volume v → more ≡ totals_of_row (row_at k new) → AreWithin more (2 ^ 56)
    → after ≡ edit_row v.pool (moved less more) totals → AreCounted names totals rows → AreCounted names after new
counted_change names totals after rows new k f v less more found done keeps before behind few moved_so h =
    elim (f v) as (λ r. f v ≡ r → row_set k rows r ≡ Ok new → AreCounted names after new) [
      | Ok w ↦ λ made t.
          let set : set_row k w rows ≡ new = same_Ok (set_row k w rows) new t in
          let there : row_at k new ≡ Some w = ap (row_at k) (sym set) ∙ lookup-set (is_at (nat_cmp k)) v w rows (sym found) in
          let of_w : more ≡ totals_of_volume w = behind ∙ ap totals_of_row there in
          let so : after ≡ edit_row v.pool (moved (totals_of_volume v) (totals_of_volume w)) totals = moved_so ∙ ap (λ (t : Totals). edit_row v.pool (moved t more) totals) before ∙ ap (λ (t : Totals). edit_row v.pool (moved (totals_of_volume v) t) totals) of_w in
          subst (λ (a : List (ℕ × Totals)). AreCounted names a new) (sym so)
          (subst (λ (n : List (ℕ × Volume)). AreCounted names (edit_row v.pool (moved (totals_of_volume v) (totals_of_volume w)) totals) n) set
          (counted_set names totals rows k v w (sym found) (keeps w made) (subst (λ (t : Totals). AreWithin t (2 ^ 56)) of_w few) h))
      | Err e ↦ λ _ t. absurd (cc)
    ] refl (ap (changed k f rows) found ∙ done)

-- a change that is never refused
abbrev kept_by : (Volume → Volume) → Volume → Result Volume Refusal
kept_by f v = Ok (f v)

-- by an edit
pub counted_edit : (names : List (List ℕ × ℕ)) (totals after : List (ℕ × Totals)) (rows new : List (ℕ × Volume)) (k : ℕ) (f : Volume → Volume) (v : Volume) (less more : Totals)
    → Some v ≡ row_at k rows → new ≡ edit_row k f rows → Keeps v (f v) → less ≡ totals_of_volume v → more ≡ totals_of_row (row_at k new) → AreWithin more (2 ^ 56)
    → after ≡ edit_row v.pool (moved less more) totals → AreCounted names totals rows → AreCounted names after new
counted_edit names totals after rows new k f v less more found done keeps before behind few moved_so h =
    counted_change names totals after rows new k (kept_by f) v less more found
    (ap (changed k (kept_by f) rows) (sym found) ∙ ap Ok (sym (done ∙ ap (edited k f rows) (sym found))))
    (λ w t. subst (Keeps v) (same_Ok (f v) w t) keeps) before behind few moved_so h

-- by an edit of what is not counted
pub counted_kept : (names : List (List ℕ × ℕ)) (totals : List (ℕ × Totals)) (rows new : List (ℕ × Volume)) (k : ℕ) (f : Volume → Volume)
    → new ≡ edit_row k f rows → ((v : Volume) → Keeps v (f v)) → ((v : Volume) → totals_of_volume (f v) ≡ totals_of_volume v) → AreCounted names totals rows → AreCounted names totals new
counted_kept names totals rows new k f done keeps same h =
    subst (λ (n : List (ℕ × Volume)). AreCounted names totals n) (sym done)
    (elim (row_at k rows) as (λ o. row_at k rows ≡ o → AreCounted names totals (edited k f rows o)) [
      | None ↦ λ _. h
      | Some v ↦ λ there.
          let old : IsSound k v = each_there (λ (e : ℕ × Volume). IsSound e.0 e.1) k v rows there h.each in
          record {
            index = index_set volume_name names k v (f v) rows there (keeps v).name h.index;
            counted = totals_same totals rows k v (f v) there (keeps v).pool (same v) h.counted;
            each = each_set (λ (e : ℕ × Volume). IsSound e.0 e.1) k (f v) rows (record { small = old.small; few = subst (λ (t : Totals). AreWithin t (2 ^ 56)) (sym (same v)) old.few; named = still_named k v (f v) (keeps v) ∙ old.named }) h.each;
          }
    ] refl)

-- ---- a volume came, or went

some_of : {A : Type 0} (o : Option A) → IsSome o → (x : A) × (o ≡ Some x)
some_of None h = absurd (cc)
some_of (Some x) h = (x, refl)

pub counted_insert : (names more : List (List ℕ × ℕ)) (totals room after : List (ℕ × Totals)) (rows new : List (ℕ × Volume)) (k : ℕ) (v : Volume) (less of_v : Totals)
    → IsStrictlySortedBy nat_cmp (keys_of rows) → row_at k rows ≡ None → row_named volume_name (volume_name v) rows ≡ None → IsSound k v
    → ((name : List ℕ) → named name more ≡ cond (is_at (slice_cmp nat_cmp (volume_name v)) name) (Some k) (named name names))
    → ((q : ℕ) → totals_at q room ≡ totals_at q totals) → IsSome (row_at v.pool room) → less ≡ no_totals → of_v ≡ totals_of_volume v
    → after ≡ edit_row v.pool (moved less of_v) room → new ≡ with_row k v rows → AreCounted names totals rows → AreCounted more after new
counted_insert names more totals room after rows new k v less of_v sorted absent free sound put same there nothing value moved_so came h =
    let kept = some_of (row_at v.pool room) there in
    let so : after ≡ edit_row v.pool (moved no_totals (totals_of_volume v)) room = moved_so ∙ ap (λ (x : Totals). edit_row v.pool (moved x of_v) room) nothing ∙ ap (λ (x : Totals). edit_row v.pool (moved no_totals x) room) value in
    subst (λ (a : List (ℕ × Totals)). AreCounted more a new) (sym so)
    (subst (λ (n : List (ℕ × Volume)). AreCounted more (edit_row v.pool (moved no_totals (totals_of_volume v)) room) n) (sym came)
    (record {
      index = index_insert volume_name names more k v rows absent free put h.index;
      counted = totals_insert room rows k v kept.0 sorted absent kept.1 (λ q. same q ∙ h.counted q);
      each = each_insert (λ (e : ℕ × Volume). IsSound e.0 e.1) k v rows absent sound h.each;
    }))

pub counted_remove : (names less : List (List ℕ × ℕ)) (totals after : List (ℕ × Totals)) (rows new : List (ℕ × Volume)) (k : ℕ) (v : Volume) (of_v none : Totals)
    → row_at k rows ≡ Some v → ((name : List ℕ) → named name less ≡ cond (is_at (slice_cmp nat_cmp (volume_name v)) name) None (named name names))
    → of_v ≡ totals_of_volume v → none ≡ no_totals → after ≡ edit_row v.pool (moved of_v none) totals → new ≡ without_row k rows → AreCounted names totals rows → AreCounted less after new
counted_remove names less totals after rows new k v of_v none there took value nothing moved_so went h =
    let so : after ≡ edit_row v.pool (moved (totals_of_volume v) no_totals) totals = moved_so ∙ ap (λ (x : Totals). edit_row v.pool (moved x none) totals) value ∙ ap (λ (x : Totals). edit_row v.pool (moved (totals_of_volume v) x) totals) nothing in
    subst (λ (a : List (ℕ × Totals)). AreCounted less a new) (sym so)
    (subst (λ (n : List (ℕ × Volume)). AreCounted less (edit_row v.pool (moved (totals_of_volume v) no_totals) totals) n) (sym went)
    (record {
      index = index_remove volume_name names less k v rows there took h.index;
      counted = totals_remove totals rows k v there h.counted;
      each = each_remove (λ (e : ℕ × Volume). IsSound e.0 e.1) k rows h.each;
    }))

-- room was made for a pool's totals, and a name came and went again
pub counted_undone : (names more less : List (List ℕ × ℕ)) (totals room : List (ℕ × Totals)) (rows new : List (ℕ × Volume)) (name : List ℕ) (k : ℕ) → row_named volume_name name rows ≡ None
    → ((q : List ℕ) → named q more ≡ cond (is_at (slice_cmp nat_cmp name) q) (Some k) (named q names)) → ((q : List ℕ) → named q less ≡ cond (is_at (slice_cmp nat_cmp name) q) None (named q more))
    → ((q : ℕ) → totals_at q room ≡ totals_at q totals) → new ≡ rows → AreCounted names totals rows → AreCounted less room new
counted_undone names more less totals room rows new name k free put took same stays h =
    subst (λ (n : List (ℕ × Volume)). AreCounted less room n) (sym stays)
    (record {
      index = index_undone volume_name name k names more less rows free put took h.index;
      counted = λ q. same q ∙ h.counted q;
      each = h.each;
    })

-- ---- bounds

-- a pool has what each of its volumes comes to
pub most_there : (names : List (List ℕ × ℕ)) (totals : List (ℕ × Totals)) (rows : List (ℕ × Volume)) (k : ℕ) (v : Volume) (less : Totals) → Some v ≡ row_at k rows → less ≡ totals_of_volume v → AreCounted names totals rows → AreAtMost less (totals_at v.pool totals)
most_there names totals rows k v less found value h =
    subst (λ (t : Totals). AreAtMost t (totals_at v.pool totals)) (sym value)
    (subst (λ (t : Totals). AreAtMost (totals_of_volume v) t) (sym (h.counted v.pool))
    (record {
      used_blocks = part_within used_blocks_on k v rows (sym found);
      blocks = part_within blocks_of_volume k v rows (sym found);
      live_bytes = part_within live_bytes_on k v rows (sym found);
      defined = part_within defined_one k v rows (sym found);
      scratch = part_within scratch_one k v rows (sym found);
    }))

pub each_within : (m : Volume → ℕ) → ((file : ℕ) (v : Volume) → IsSound file v → m v ≤ 2 ^ 56) → (rows : List (ℕ × Volume)) → AllByRecursion (λ (e : ℕ × Volume). IsSound e.0 e.1) rows → AllByRecursion (λ (e : ℕ × Volume). m e.1 ≤ 2 ^ 56) rows
each_within m f [] all = tt
each_within m f (e ∷ rows) all = (f e.0 e.1 all.0, each_within m f rows all.1)

-- a total of fewer than 2^63 volumes
little : (m : Volume → ℕ) → ((file : ℕ) (v : Volume) → IsSound file v → m v ≤ 2 ^ 56) → (pool : ℕ) (rows : List (ℕ × Volume)) → AllByRecursion (λ (e : ℕ × Volume). IsSound e.0 e.1) rows → length rows < 2 ^ 63 → total_of m pool rows ≤ 2 ^ 119
little m f pool rows all few =
    let sum : total_of m pool rows ≤ (2 ^ 56) * length rows = total_within m pool (2 ^ 56) rows (each_within m f rows all) in omega arith

pub totals_little : (names : List (List ℕ × ℕ)) (totals : List (ℕ × Totals)) (rows : List (ℕ × Volume)) (pool : ℕ) → length rows < 2 ^ 63 → AreCounted names totals rows → AreWithin (totals_at pool totals) (2 ^ 119)
totals_little names totals rows pool few h =
    subst (λ (t : Totals). AreWithin t (2 ^ 119)) (sym (h.counted pool))
    (record {
      used_blocks = little used_blocks_on (λ _ v s. s.few.used_blocks) pool rows h.each few;
      blocks = little blocks_of_volume (λ _ v s. s.few.blocks) pool rows h.each few;
      live_bytes = little live_bytes_on (λ _ v s. s.few.live_bytes) pool rows h.each few;
      defined = little defined_one (λ _ v s. s.few.defined) pool rows h.each few;
      scratch = little scratch_one (λ _ v s. s.few.scratch) pool rows h.each few;
    })

-- a pool has fewer than 2^63 volumes
pub counts_little : (names : List (List ℕ × ℕ)) (totals : List (ℕ × Totals)) (rows : List (ℕ × Volume)) (pool : ℕ) → length rows < 2 ^ 63 → AreCounted names totals rows → ((totals_at pool totals).defined < 2 ^ 63) × ((totals_at pool totals).scratch < 2 ^ 63)
counts_little names totals rows pool few h =
    let defined : (totals_at pool totals).defined ≡ total_of defined_one pool rows = ap (λ (t : Totals). t.defined) (h.counted pool) in
    let scratch : (totals_at pool totals).scratch ≡ total_of scratch_one pool rows = ap (λ (t : Totals). t.scratch) (h.counted pool) in
    let most_defined : total_of defined_one pool rows ≤ length rows = count_within defined_one pool rows defined_once in
    let most_scratch : total_of scratch_one pool rows ≤ length rows = count_within scratch_one pool rows scratch_once in
    (omega arith, omega arith)
