-- The space of tickets spares what backups need: a segment of a ticket lies in another file, or beside each segment that is covered.
use Rattle.std.proofs.Common.{◌≡◌, ◌⊎◌, inl, inr, ℕ, ◌+◌, ◌<◌, ◌≤◌, eqb, Bool, true, false, is_none, ◌&&◌, ◌||◌, length, Option, None, Some, is_some, refl, sym, ap, subst, ◌∙◌, arith}
use Rattle.std.specs.Prelude.{IfSome, nat_le}
use Rattle.std.specs.List.{AllByRecursion, Contains, list_all}
use Rattle.std.proofs.lemmas.Bool.{and_parts, eqb-false, eqb-true, false≢true, leb-true}
use Rattle.kinds.specs.declared.segment.Segment.{Segment}
use Rattle.inventory_rows.specs.volume_rows.declared.volume.Volume.{Volume}
use Rattle.inventory_rows.specs.pool_rows.PoolRows.{is_sequential}
use Rattle.inventory_rows.specs.pool_tables.Rows.{row_at}
use Rattle.inventory_rows.specs.State.{Inv}
use Rattle.inventory_rules.specs.Backups.{backup_at, is_done}
use Rattle.inventory_rules.specs.Segments.{are_clear}
use Rattle.inventory_laws.proofs.Lists.{all_of}
use Rattle.inventory_laws.proofs.Origins.{contained_holds}
use Rattle.machine.specs.State.{Core, Ticket, inventory}
use Rattle.hall.specs.Covered.{IsClear, IsInPool, IsNewFile, IsVolume, LiesIn, NeverBackup, NumbersAreDrawn, SpaceIsClear, inv_at, is_unwritten, written}
use Rattle.hall.specs.Protected.{IsFiled, IsLaid, IsWritten, IsWrittenOn, WasDone}
use Rattle.hall.proofs.Joining.{all_of_it}

-- the one ends where the other begins or before
abbrev pub AreApart : Segment → Segment → Type 0
AreApart a b = (a.offset + 32 + a.len ≤ b.offset) ⊎ (b.offset + 32 + b.len ≤ a.offset)

clear_parts : (a b : Bool) → (a || b) ≡ true → (a ≡ true) ⊎ (b ≡ true)
clear_parts true b h = inl refl
clear_parts false b h = inr h

-- two frames on a sequential volume that don't overlap
clear_apart : (a b : Segment) → are_clear true a b ≡ true → AreApart b a
clear_apart a b h = go (clear_parts (nat_le (a.offset + 32 + a.len) b.offset) (nat_le (b.offset + 32 + b.len) a.offset) h) where
  go : (nat_le (a.offset + 32 + a.len) b.offset ≡ true) ⊎ (nat_le (b.offset + 32 + b.len) a.offset ≡ true) → AreApart b a
  go (inl before) = inr (leb-true (a.offset + 32 + a.len) b.offset before)
  go (inr behind) = inl (leb-true (b.offset + 32 + b.len) a.offset behind)

module _ (c : Core) (n : NumbersAreDrawn c) (space : SpaceIsClear c) (t : Ticket) (there : Contains c.tickets t) (u : Segment) (one : Contains t.place.segments u) where
  volume : IsVolume c u.file
  volume = contained_holds (λ (s : Segment). IsVolume c s.file) t.place.segments u one (contained_holds (λ (t : Ticket). AllByRecursion (λ (s : Segment). IsVolume c s.file) t.place.segments) c.tickets t there n.files)

  clear : IsClear c t.place.pool u
  clear = contained_holds (IsClear c t.place.pool) t.place.segments u one (contained_holds (λ (t : Ticket). AllByRecursion (IsClear c t.place.pool) t.place.segments) c.tickets t there space.clear)

  lying : LiesIn c t.place.pool u.file
  lying = contained_holds (λ (s : Segment). LiesIn c t.place.pool s.file) t.place.segments u one (contained_holds (λ (t : Ticket). AllByRecursion (λ (s : Segment). LiesIn c t.place.pool s.file) t.place.segments) c.tickets t there n.lying)

  -- a scratch volume's file that no database of the run has had is none of a segment that a backup needs
  new_file : (s : Segment) → s.file ≡ u.file → row_at u.file (inventory c).stores.volumes ≡ None → IsLaid c s → ⊥
  new_file s same absent (from, laid) = go laid where
    new : (c.base.next_file ≤ u.file) × IsNewFile c u.file × NeverBackup c u.file
    new = volume.3 (ap is_none absent)

    go : (s.file < c.base.next_file) ⊎ ((count : ℕ) × (is_some (row_at s.file (inv_at count c).stores.volumes) ≡ true)) → ⊥
    go (inl old) = let high = new.0 in omega (arith, old, same, high)
    go (inr (count, was)) = false≢true (sym (ap is_some (ap (λ f. row_at f (inv_at count c).stores.volumes) same ∙ new.1 count)) ∙ was)

  -- on a volume that is there
  on_volume : (s : Segment) → (x : Volume) → row_at u.file (inventory c).stores.volumes ≡ Some x → is_sequential x.pool (inventory c).stores ≡ true → IsWritten (written u.file c) s → AreApart s u
  on_volume s x at sequential is = go is where
    in_pool : x.pool ≡ t.place.pool
    in_pool = subst (IsInPool c t.place.pool u.file) at lying

    unwritten : (nat_le (written u.file c).floor u.offset ≡ true) × (list_all (are_clear true u) (written u.file c).segments ≡ true)
    unwritten = and_parts (nat_le (written u.file c).floor u.offset) (list_all (are_clear true u) (written u.file c).segments) (clear.1 (subst (λ k. is_sequential k (inventory c).stores ≡ true) in_pool sequential))

    go : IsWritten (written u.file c) s → AreApart s u
    go (inl low) = let floor = leb-true (written u.file c).floor u.offset unwritten.0 in inl (omega (arith, low, floor))
    go (inr came) = clear_apart u s (contained_holds (λ q. are_clear true u q ≡ true) (written u.file c).segments s came (all_of (are_clear true u) (written u.file c).segments unwritten.1))

  none_some : {A : Type 0} {o : Option A} {a : A} → o ≡ None → o ≡ Some a → ⊥
  none_some none some = false≢true (sym (ap is_some none) ∙ ap is_some some)

  -- a segment that is covered lies in another file, or beside the ticket's
  pub ticket_spares : (s : Segment) → IsLaid c s → IsWrittenOn c s → (s.file ≡ u.file → ⊥) ⊎ ((s.file ≡ u.file) × AreApart s u)
  ticket_spares s laid on = by (eqb s.file u.file) refl where
    here : s.file ≡ u.file → (o : Option Volume) → row_at u.file (inventory c).stores.volumes ≡ o → (IsWritten (written s.file c) s × IfSome o (λ x. is_sequential x.pool (inventory c).stores ≡ true)) ⊎ IsNewFile c s.file → AreApart s u
    here same None at on = absurd (new_file s same at laid)
    here same (Some x) at (inl (is, sequential)) = on_volume s x at sequential (subst (λ f. IsWritten (written f c) s) same is)
    here same (Some x) at (inr unmade) =
        absurd (none_some (ap (λ (v : Inv). row_at u.file v.stores.volumes) (sym (all_of_it c (length c.journal) (omega arith))) ∙ subst (λ f. row_at f (inv_at (length c.journal) c).stores.volumes ≡ None) same (unmade (length c.journal))) at)

    so : s.file ≡ u.file → (o : Option Volume) → row_at u.file (inventory c).stores.volumes ≡ o → IsWrittenOn c s → (IsWritten (written s.file c) s × IfSome o (λ x. is_sequential x.pool (inventory c).stores ≡ true)) ⊎ IsNewFile c s.file
    so same o at (inr unmade) = inr unmade
    so same o at (inl (is, sequential)) =
        inl (is, subst (λ q. IfSome q (λ (x : Volume). is_sequential x.pool (inventory c).stores ≡ true)) (ap (λ f. row_at f (inventory c).stores.volumes) same ∙ at) sequential)

    by : (b : Bool) → eqb s.file u.file ≡ b → (s.file ≡ u.file → ⊥) ⊎ ((s.file ≡ u.file) × AreApart s u)
    by false other = inl (eqb-false s.file u.file other)
    by true is =
        let same : s.file ≡ u.file = eqb-true s.file u.file is in
        let o : Option Volume = row_at u.file (inventory c).stores.volumes in
        inr (same, here same o refl (so same o refl on))

  none_is : {A : Type 0} (o : Option A) → o ≡ None → is_none o ≡ true
  none_is o at = ap is_none at

  -- no backup's file is the ticket's
  pub ticket_files : (n : ℕ) → IsFiled c n → n ≡ u.file → ⊥
  ticket_files n ((from, low, unmade), since) same = by since where
    absent : row_at u.file (inventory c).stores.volumes ≡ None
    absent = ap (λ (v : Inv). row_at u.file v.stores.volumes) (sym (all_of_it c (length c.journal) (omega arith))) ∙ subst (λ f. row_at f (inv_at (length c.journal) c).stores.volumes ≡ None) same (unmade (length c.journal))

    new : (c.base.next_file ≤ u.file) × IsNewFile c u.file × NeverBackup c u.file
    new = volume.3 (none_is (row_at u.file (inventory c).stores.volumes) absent)

    by : (n < c.base.next_file) ⊎ WasDone c n → ⊥
    by (inl old) = let high = new.0 in omega (arith, old, same, high)
    by (inr (count, was)) = false≢true (sym (ap is_done (ap (λ f. backup_at f (inv_at count c)) same ∙ new.2 count)) ∙ was)
