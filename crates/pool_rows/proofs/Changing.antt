-- What is done to the volumes is done to the whole.
use Rattle.std.proofs.Common.{◌≡◌, ◌⊎◌, inl, inr, ℕ, Bool, true, false, List, Some, None, Result, Ok, Err, refl, sym, ap, ◌∙◌, ◌≤◌}
use Rattle.std.specs.Result.{OnOk}
use Rattle.std.specs.BTreeMap.{is_at}
use Rattle.std.specs.Ordering.{nat_cmp}
use Rattle.pool_tables.specs.kinds.declared.refusal.Refusal.{Refusal}
use Rattle.pool_tables.specs.kinds.declared.refusal.Refusal.TheVariants.{Memory}
use Rattle.pool_tables.specs.kinds.declared.segment.Segment.{Segment}
use Rattle.pool_tables.specs.kinds.Answers.{Becomes, Makes}
use Rattle.pool_tables.specs.volume_rows.declared.volume.Volume.{Volume}
use Rattle.pool_tables.specs.volume_rows.declared.held.HeldSegment.{HeldSegment}
use Rattle.std.proofs.lemmas.Bool.{leb-true}
use Rattle.pool_tables.specs.volume_rows.Held.{held_of, end_of}
use Rattle.pool_tables.specs.volume_rows.Volumes.{put_on, undo_on}
use Rattle.pool_tables.specs.Rows.{row_at, set_row, edit_row, changed, change_row}
use Rattle.pool_rows.specs.PoolRows.{PoolRows, is_sequential, is_sequential_row, is_sequential_at}
use Rattle.pool_tables.specs.RowChanges.{put, end_of_row, emptied_of_row}
use Rattle.pool_rows.specs.Segments.{with_volumes, undo_segment, end_at, emptied_at, fits}
use Rattle.pool_tables.proofs.Tables.{lookup-set}

-- the state with these volumes
abbrev pub volumes_become : PoolRows → List (ℕ × Volume) → PoolRows
volumes_become s volumes = record s { volumes = volumes }

pub becomes_volumes : {A : Type 0} (s : PoolRows) (volumes : List (ℕ × Volume)) (said : Result (List (ℕ × Volume)) Refusal) (result : Result A Refusal)
    → Becomes result s.volumes volumes said → Becomes result s (volumes_become s volumes) (with_volumes s said)
becomes_volumes s volumes said (Ok a) h = ap (with_volumes s) h
becomes_volumes s volumes said (Err e) h = (ap (volumes_become s) h.0, said_or_memory h.1) where
  said_or_memory : (e ≡ Memory) ⊎ (said ≡ Err e) → (e ≡ Memory) ⊎ (with_volumes s said ≡ Err e)
  said_or_memory (inl m) = inl m
  said_or_memory (inr t) = inr (ap (with_volumes s) t)

pub makes_volumes : {A : Type 0} (s : PoolRows) (volumes : List (ℕ × Volume)) (said : Result (List (ℕ × Volume)) Refusal) (result : Result A Refusal)
    → Makes result s.volumes volumes said → Makes result s (volumes_become s volumes) (with_volumes s said)
makes_volumes s volumes said (Ok a) h = ap (with_volumes s) h
makes_volumes s volumes said (Err e) h = (ap (volumes_become s) h.0, ap (with_volumes s) h.1)

-- a segment that is put on a volume leaves it in its pool
pool_kept : (sequential : Bool) (segment : HeldSegment) (v : Volume) → (put_on sequential segment v).pool ≡ v.pool
pool_kept true segment v = refl
pool_kept false segment v = refl

same_Ok : {A : Type 0} (x y : A) → (let a : Result A Refusal = Ok x in let b : Result A Refusal = Ok y in a ≡ b) → x ≡ y
same_Ok x y h = cc

kept : (s : PoolRows) (file : ℕ) (sequential : Bool) (segment : HeldSegment) (volumes : List (ℕ × Volume)) → change_row file (put sequential segment) s.volumes ≡ Ok volumes
    → is_sequential_at file (volumes_become s volumes) ≡ is_sequential_at file s
kept s file sequential segment volumes h =
    elim (row_at file s.volumes) as (λ o. row_at file s.volumes ≡ o → changed file (put sequential segment) s.volumes o ≡ Ok volumes → is_sequential_row s (row_at file volumes) ≡ is_sequential_row s o) [
      | None ↦ λ _ t. absurd (cc)
      | Some v ↦ λ found t.
          let set : set_row file (put_on sequential segment v) s.volumes ≡ volumes = same_Ok (set_row file (put_on sequential segment v) s.volumes) volumes t in
          let there : row_at file volumes ≡ Some (put_on sequential segment v) = ap (row_at file) (sym set) ∙ lookup-set (is_at (nat_cmp file)) v (put_on sequential segment v) s.volumes found in
          ap (is_sequential_row s) there ∙ ap (λ n. is_sequential n s) (pool_kept sequential segment v)
    ] refl h

-- a segment that was put and is undone with the volume's end and day leaves what was
pub undone_put : {A : Type 0} (object : ℕ) (segment : Segment) (s now : PoolRows) (volumes : List (ℕ × Volume)) (sequential : Bool) (held : HeldSegment) (result : Result A Refusal)
    → s ≡ now → sequential ≡ is_sequential_at segment.file now → held ≡ held_of object segment
    → Becomes result s.volumes volumes (change_row segment.file (put sequential held) s.volumes)
    → OnOk result (edit_row segment.file (undo_on sequential held (end_of_row (row_at segment.file s.volumes)) (emptied_of_row (row_at segment.file s.volumes))) volumes ≡ s.volumes)
    → OnOk result (undo_segment object segment (end_at segment.file now) (emptied_at segment.file now) (volumes_become s volumes) ≡ now)
undone_put object segment s now volumes sequential held (Ok a) view q is done back =
    ap (λ (n : PoolRows). undo_segment object segment (end_at segment.file n) (emptied_at segment.file n) (volumes_become s volumes)) (sym view)
    ∙ ap (λ b. volumes_become s (edit_row segment.file (undo_on b (held_of object segment) (end_at segment.file s) (emptied_at segment.file s)) volumes))
    (kept s segment.file sequential held volumes done ∙ ap (is_sequential_at segment.file) view ∙ sym q)
    ∙ ap (λ h. volumes_become s (edit_row segment.file (undo_on sequential h (end_at segment.file s) (emptied_at segment.file s)) volumes)) (sym is)
    ∙ ap (volumes_become s) back ∙ view
undone_put object segment s now volumes sequential held (Err e) view q is done back = tt

-- a segment that fits ends within its volume's capacity
pub room : (held : HeldSegment) (object : ℕ) (segment : Segment) (s now : PoolRows) (v : Volume) → s ≡ now → held ≡ held_of object segment → fits (held_of object segment) (row_at segment.file now.volumes) ≡ true → row_at segment.file s.volumes ≡ Some v → end_of held ≤ v.capacity
room held object segment s now v view is within found =
    leb-true (end_of held) v.capacity
    (ap (λ (h : HeldSegment). fits h (Some v)) is
    ∙ ap (fits (held_of object segment)) (sym (sym (ap (λ (n : PoolRows). row_at segment.file n.volumes) view) ∙ found))
    ∙ within)
