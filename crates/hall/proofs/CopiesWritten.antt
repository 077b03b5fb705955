-- The copies of the present database are covered: no stop takes them away, and each segment of one on a sequential volume was written since that was emptied.
use Rattle.std.proofs.Common.{◌≡◌, ◌⊎◌, inl, inr, ℕ, ◌+◌, ◌<◌, ◌≤◌, Bool, true, false, cond, not, ◌&&◌, ◌||◌, List, [], ◌∷◌, ◌++◌, filter, Option, None, Some, is_some, refl, sym, ap, subst, ◌∙◌, arith}
use Rattle.std.specs.Prelude.{◌==◌, if◌then◌else◌}
use Rattle.std.specs.List.{AllByRecursion, Contains, list_any}
use Rattle.std.specs.Map.{keys_of}
use Rattle.std.proofs.lemmas.Bool.{and_parts, eq-eqb, eqb-true, false≢true}
use Rattle.kinds.specs.declared.segment.Segment.{Segment}
use Rattle.contents.specs.Contents.{FramesHave, HasVersion, HaveAll}
use Rattle.entries.specs.declared.change.Change.{Change}
use Rattle.entries.specs.declared.change.Change.TheVariants as change
use Rattle.entries.specs.declared.entry.Entry.{Entry}
use Rattle.inventory_rows.specs.version_groups.declared.copies.CopyRow.{CopyRow}
use Rattle.inventory_rows.specs.version_groups.declared.versions.Version.{Version}
use Rattle.inventory_rows.specs.volume_rows.Volumes.{reset}
use Rattle.inventory_rows.specs.volume_rows.declared.volume.Volume.{Volume}
use Rattle.inventory_rows.specs.pool_tables.RowChanges.{is_scratch_row, reuse_volume}
use Rattle.inventory_rows.specs.pool_tables.Rows.{edit_row, edited, row_at, without_row}
use Rattle.inventory_rows.specs.pool_rows.PoolRows.{is_sequential}
use Rattle.inventory_rows.specs.Search.{copies, segments_on, versions}
use Rattle.inventory_rows.specs.State.{Inv}
use Rattle.inventory_rules.specs.Transactions.{effect}
use Rattle.inventory_rules.specs.Valid.{is_valid}
use Rattle.inventory_laws.specs.Rising.{is_reuse}
use Rattle.inventory_laws.proofs.Changing.{apart_front}
use Rattle.inventory_laws.proofs.Facts.{facts_of}
use Rattle.inventory_laws.proofs.Lists.{each_also, each_both}
use Rattle.inventory_laws.proofs.Origins.{contained_holds, each_contained}
use Rattle.inventory_laws.proofs.Rising.{all_below, row_gone}
use Rattle.machine.specs.Machine.{all_segments, is_same_segment, left_by}
use Rattle.machine.specs.State.{Core, after, inventory}
use Rattle.hall.specs.Covered.{Written, came, written, written_before, written_over}
use Rattle.hall.specs.Covered.{NoneComesBack}
use Rattle.hall.specs.Good.{IsLawful}
use Rattle.hall.specs.Protected.{EachSequential, HasCopy, IsWritten}
use Rattle.hall.proofs.Along.{Along, IsSame, IsStep, IsWriting, Lower, all_from_volume, end_at, end_found, kept_to_end, none_lies, run_steps, volume_from_all, writing_there}
use Rattle.hall.proofs.BackedUp.{Lies, each_copy, lies, on_file}
use Rattle.hall.proofs.Delaying.{row_set_own}
use Rattle.hall.proofs.JoinedFreed.{contains_back, contains_front}

-- ---- lists

-- what is in a list and passes is in the list of those that pass
each_passes : {A : Type 0} (q : A → Bool) (xs : List A) → AllByRecursion (λ x. q x ≡ true → Contains (filter q xs) x) xs
each_passes q [] = tt
each_passes {A} q (x ∷ xs) = elim (q x) as (λ b. q x ≡ b → AllByRecursion (λ y. q y ≡ true → Contains (cond b (x ∷ filter q xs) (filter q xs)) y) (x ∷ xs)) [
  | true ↦ λ is. (
    λ _. contains_front (x ∷ []) (filter q xs) x (contained_holds (Contains (x ∷ [])) (x ∷ []) x (0, omega arith, refl) (each_contained (x ∷ []))),
    each_also (λ y. q y ≡ true → Contains (filter q xs) y) (λ y. q y ≡ true → Contains (x ∷ filter q xs) y) xs (λ y h passes. contains_back (x ∷ []) (filter q xs) y (h passes)) (each_passes q xs),
  )
  | false ↦ λ isnt. ((λ passes. absurd (false≢true (sym isnt ∙ passes))), each_passes q xs)
] refl

passes : {A : Type 0} (q : A → Bool) (xs : List A) (x : A) → Contains xs x → q x ≡ true → Contains (filter q xs) x
passes q xs x there is = contained_holds (λ y. q y ≡ true → Contains (filter q xs) y) xs x there (each_passes q xs) is

any_there : {A : Type 0} (P : A → Type 0) (p : A → Bool) (Q : Type 0) (xs : List A) → ((x : A) → P x → p x ≡ true → Q) → AllByRecursion P xs → list_any p xs ≡ true → Q
any_there P p Q [] f all any = absurd (false≢true any)
any_there {A} P p Q (x ∷ xs) f all any = elim (p x) as (λ b. p x ≡ b → (b || list_any p xs) ≡ true → Q) [
  | true ↦ λ is _. f x all.0 is
  | false ↦ λ _ rest. any_there P p Q xs f all.1 rest
] refl any

-- two segments that are the same in all that they are
same_segment : (a b : Segment) → is_same_segment a b ≡ true → a ≡ b
same_segment a b h =
    let first = and_parts (a.file == b.file) (a.offset == b.offset && a.len == b.len) h in
    let second = and_parts (a.offset == b.offset) (a.len == b.len) first.1 in
    let file : a.file ≡ b.file = eqb-true a.file b.file first.0 in
    let offset : a.offset ≡ b.offset = eqb-true a.offset b.offset second.0 in
    let len : a.len ≡ b.len = eqb-true a.len b.len second.1 in
    ap (λ n. let s : Segment = record { file = n; offset = a.offset; len = a.len } in s) file
    ∙ ap (λ n. let s : Segment = record { file = b.file; offset = n; len = a.len } in s) offset
    ∙ ap (λ n. let s : Segment = record { file = b.file; offset = b.offset; len = n } in s) len

-- ---- a volume that is reused

none_some : {A : Type 0} {x : A} → None ≡ Some x → ⊥
none_some e = absurd cc

abbrev end_of : Option Volume → ℕ
end_of None = 0
end_of (Some v) = v.end

reset_row : (file : ℕ) (rows : List (ℕ × Volume)) (y : Volume) (o : Option Volume) → row_at file rows ≡ o → row_at file (edited file reset rows o) ≡ Some y → y.end ≡ 0
reset_row file rows y None at there = absurd (none_some (sym at ∙ there))
reset_row file rows y (Some x) at there = ap end_of (sym there ∙ row_set_own file x (reset x) rows at)

reused_rows : (file : ℕ) (rows : List (ℕ × Volume)) (y : Volume) → row_at file (without_row file rows) ≡ None → row_at file (reuse_volume file rows) ≡ Some y → y.end ≡ 0
reused_rows file rows y gone there = go (is_scratch_row (row_at file rows)) there where
  go : (b : Bool) → row_at file (cond b (without_row file rows) (edit_row file reset rows)) ≡ Some y → y.end ≡ 0
  go true there = absurd (none_some (sym gone ∙ there))
  go false there = reset_row file rows y (row_at file rows) refl there

reused_end : (file : ℕ) (v : Inv) (y : Volume) → is_valid v ≡ true → row_at file (effect (change.Reuse file) v).stores.volumes ≡ Some y → y.end ≡ 0
unfolding effect
reused_end file v y valid there =
    reused_rows file v.stores.volumes y (row_gone file v.stores.volumes (apart_front (keys_of v.stores.volumes) (keys_of v.backups) (facts_of v valid).files_apart)) there

-- ---- what was written

-- each segment on the volume was
abbrev Covers : ℕ → Inv → Written → Type 0
Covers file v w = AllByRecursion (λ e. IsWritten w e.1) (segments_on file v)

module _ (file : ℕ) where
  grows : (w : Written) (more : List Segment) (s : Segment) → IsWritten w s → IsWritten (record { floor = w.floor; segments = w.segments ++ more }) s
  grows w more s (inl below) = inl below
  grows w more s (inr there) = inr (contains_front w.segments more s there)

  came_too : (v next : Inv) (w : Written) → Covers file v w → (s : Segment) → Contains (all_segments next) s → s.file ≡ file → (b : Bool) → list_any (is_same_segment s) (all_segments v) ≡ b
      → IsWritten (record { floor = w.floor; segments = w.segments ++ came file v next }) s
  came_too v next w h s there here true is =
      any_there (λ x. x.file ≡ file → IsWritten w x) (is_same_segment s) (IsWritten (record { floor = w.floor; segments = w.segments ++ came file v next }) s) (all_segments v)
      (λ x was same. grows w (came file v next) s (subst (IsWritten w) (sym (same_segment s x same)) (was (sym (ap (λ (q : Segment). q.file) (same_segment s x same)) ∙ here)))) (all_from_volume (IsWritten w) file v h) is
  came_too v next w h s there here false isnt =
      inr (contains_back w.segments (came file v next) s
      (passes (λ (x : Segment). x.file == file) (left_by next v) s (passes (λ (x : Segment). not (list_any (is_same_segment x) (all_segments v))) (all_segments next) s there (ap not isnt)) (eq-eqb s.file file here)))

  -- what is there behind a transaction was there, or came
  covers_came : (v next : Inv) (w : Written) → Covers file v w → Covers file next (record { floor = w.floor; segments = w.segments ++ came file v next })
  covers_came v next w h =
      volume_from_all (IsWritten (record { floor = w.floor; segments = w.segments ++ came file v next })) file next
      (each_also (Contains (all_segments next)) (λ s. s.file ≡ file → IsWritten (record { floor = w.floor; segments = w.segments ++ came file v next }) s) (all_segments next)
      (λ s there here. came_too v next w h s there here (list_any (is_same_segment s) (all_segments v)) refl) (each_contained (all_segments next)))

  -- a volume that was reused has none, or one that would end at its start
  covers_reused : (v : Inv) (e : Entry) → IsStep file v e → IsWriting file v e → is_reuse file e.change ≡ true → Covers file (effect e.change v) (record { floor = 0; segments = [] })
  covers_reused v e step writes is = by_row (row_at file (effect e.change v).stores.volumes) refl where
    of_reuse : (c : Change) → is_reuse file c ≡ true → c ≡ change.Reuse file
    of_reuse (change.Reuse k) is = ap change.Reuse (sym (eqb-true file k is))
    of_reuse (change.Day day) is = absurd (false≢true is)
    of_reuse (change.Policy x) is = absurd (false≢true is)
    of_reuse (change.Object x) is = absurd (false≢true is)
    of_reuse (change.Pool x) is = absurd (false≢true is)
    of_reuse (change.Backup x) is = absurd (false≢true is)
    of_reuse (change.Hold x) is = absurd (false≢true is)
    of_reuse (change.Rebind x) is = absurd (false≢true is)
    of_reuse (change.Gone x) is = absurd (false≢true is)
    of_reuse (change.Move x) is = absurd (false≢true is)
    of_reuse (change.Copy x) is = absurd (false≢true is)
    of_reuse (change.DropCopies x) is = absurd (false≢true is)
    of_reuse (change.Expire x) is = absurd (false≢true is)
    of_reuse (change.Discard x) is = absurd (false≢true is)
    of_reuse (change.DbBegin k after) is = absurd (false≢true is)
    of_reuse (change.DbEnd k) is = absurd (false≢true is)
    of_reuse (change.DbDelete k) is = absurd (false≢true is)

    by_row : (o : Option Volume) → row_at file (effect e.change v).stores.volumes ≡ o → Covers file (effect e.change v) (record { floor = 0; segments = [] })
    by_row None at = none_lies (IsWritten (record { floor = 0; segments = [] })) file (effect e.change v) step.left at
    by_row (Some y) at =
        let none : y.end ≡ 0 = reused_end file v y step.valid (subst (λ (c : Change). row_at file (effect c v).stores.volumes ≡ Some y) (of_reuse e.change is) at) in
        let end : end_at file (effect e.change v) ≡ y.end = end_found file (effect e.change v) y at in
        each_also (λ (x : ℕ × Segment). Lower (end_at file (effect e.change v)) x.1) (λ (x : ℕ × Segment). IsWritten (record { floor = 0; segments = [] }) x.1) (segments_on file (effect e.change v))
        (λ x low. inl (omega (arith, low, none, end))) writes.below

  covers_along : (v : Inv) (es : List Entry) (w : Written) → Along (IsStep file) v es → Along (IsWriting file) v es → Covers file v w → Covers file (after v es) (written_over file w v es)
  covers_along v [] w steps writes h = h
  covers_along v (e ∷ es) w steps writes h =
      covers_along (effect e.change v) es (if is_reuse file e.change then (record { floor = 0; segments = [] }) else (record { floor = w.floor; segments = w.segments ++ came file v (effect e.change v) })) steps.1 writes.1
      (one (is_reuse file e.change) refl)
    where
      one : (b : Bool) → is_reuse file e.change ≡ b
          → Covers file (effect e.change v) (if b then (record { floor = 0; segments = [] }) else (record { floor = w.floor; segments = w.segments ++ came file v (effect e.change v) }))
      one true is = covers_reused v e steps.0 writes.0 is
      one false isnt = covers_came v (effect e.change v) w h

  covers_base : (v : Inv) (es : List Entry) → is_valid v ≡ true → Along (IsStep file) v es → (new : Volume) → row_at file (after v es).stores.volumes ≡ Some new → is_sequential new.pool (after v es).stores ≡ true
      → Covers file v (written_before file v)
  covers_base v es valid steps new there sequential = by_row (row_at file v.stores.volumes) refl where
    by_row : (o : Option Volume) → row_at file v.stores.volumes ≡ o → Covers file v (written_before file v)
    by_row None at = none_lies (IsWritten (written_before file v)) file v valid at
    by_row (Some old) at =
        let same : IsSame v (after v es) old new = kept_to_end file v es steps old new at there in
        let kind : is_sequential old.pool v.stores ≡ true = sym same.sequential ∙ ap (λ (n : ℕ). is_sequential n (after v es).stores) (sym same.pool) ∙ sequential in
        let end : end_at file v ≡ old.end = end_found file v old at in
        each_also (λ (x : ℕ × Segment). x.1.offset + 32 + x.1.len ≤ old.end) (λ (x : ℕ × Segment). IsWritten (written_before file v) x.1) (segments_on file v) (λ x low. inl (omega (arith, low, end))) (all_below v file old valid at kind)

-- each segment on a sequential volume of the present database was written since that was emptied
pub written_now : (c : Core) (file : ℕ) (new : Volume) → IsLawful c → NoneComesBack c → row_at file (inventory c).stores.volumes ≡ Some new → is_sequential new.pool (inventory c).stores ≡ true
    → AllByRecursion (λ e. IsWritten (written file c) e.1) (segments_on file (inventory c))
written_now c file new l none there sequential =
    let steps = run_steps c file l none (ap is_some there) in
    covers_along file c.base c.journal (written_before file c.base) steps (writing_there file c.base c.journal steps new there sequential) (covers_base file c.base c.journal l.valid steps new there sequential)

-- so was each of a copy in a sequential pool
pub copies_written : (c : Core) → IsLawful c → NoneComesBack c → is_valid (inventory c) ≡ true → EachSequential (λ w r. AllByRecursion (λ s. IsWritten (written s.file c) s) r.segments) (inventory c)
copies_written c l none valid =
    each_also (λ (w : Version). AllByRecursion (λ (r : CopyRow). Contains (copies (inventory c)) (w.object, r)) w.copies)
    (λ (w : Version). AllByRecursion (λ (r : CopyRow). is_sequential r.pool (inventory c).stores ≡ true → AllByRecursion (λ s. IsWritten (written s.file c) s) r.segments) w.copies) (versions (inventory c))
    (λ w all. each_also (λ (r : CopyRow). Contains (copies (inventory c)) (w.object, r)) (λ (r : CopyRow). is_sequential r.pool (inventory c).stores ≡ true → AllByRecursion (λ s. IsWritten (written s.file c) s) r.segments) w.copies
    (λ r there sequential. of_copy w.object r there sequential) all) (each_copy (inventory c) valid)
  where
    here : (s : Segment) → (s.file == s.file) ≡ true
    here s = eq-eqb s.file s.file refl

    of_copy : (object : ℕ) (r : CopyRow) → Contains (copies (inventory c)) (object, r) → is_sequential r.pool (inventory c).stores ≡ true → AllByRecursion (λ s. IsWritten (written s.file c) s) r.segments
    of_copy object r there sequential =
        each_also (λ s. Contains r.segments s × Lies (inventory c) r.pool s) (λ s. IsWritten (written s.file c) s) r.segments
        (λ s (in_r, l_s). contained_holds (λ (t : Segment). (t.file == s.file) ≡ true → IsWritten (written s.file c) t) r.segments s in_r
        (on_file (inventory c) valid (λ e. IsWritten (written s.file c) e.1) s.file object r there
        (written_now c s.file l_s.volume l none l_s.there (subst (λ (n : ℕ). is_sequential n (inventory c).stores ≡ true) (sym l_s.in_pool) sequential))) (here s))
        (each_both (Contains r.segments) (Lies (inventory c) r.pool) (λ s. Contains r.segments s × Lies (inventory c) r.pool s) r.segments (λ s a b. (a, b)) (each_contained r.segments) (lies (inventory c) valid object r there sequential))

-- ---- no stop takes them

-- a version whose copies all stand has each that does
pub each_firm : (P : ℕ → ℕ → List ℕ → Type 0) (contents : ℕ → List ℕ) (v : Inv) → HaveAll P contents (versions v) → EachSequential (λ w r. HasCopy P (contents w.object) w r) v
each_firm P contents v all =
    each_also (λ (w : Version). HasVersion P (contents w.object) w) (λ (w : Version). AllByRecursion (λ (r : CopyRow). is_sequential r.pool v.stores ≡ true → HasCopy P (contents w.object) w r) w.copies) (versions v)
    (λ w has. each_also (λ (r : CopyRow). FramesHave P w.object 0 r.segments (contents w.object)) (λ (r : CopyRow). is_sequential r.pool v.stores ≡ true → HasCopy P (contents w.object) w r) w.copies
    (λ r frames sequential. record { size = has.size; digest = has.digest; frames = frames }) has.copies) all
