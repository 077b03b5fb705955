-- The transactions of a backup's begin and of its end may join.
use Rattle.std.proofs.Common.{◌≡◌, ℕ, ◌+◌, ◌-◌, ◌<◌, ◌≤◌, ◌^◌, max, true, List, [], ◌∷◌, ◌++◌, length, Option, None, Some, is_some, refl, sym, ap, subst, ◌∙◌, arith}
use Rattle.std.specs.Prelude.{IfSome, nat_lt}
use Rattle.std.specs.Int.{to_be_bytes, w32}
use Rattle.std.specs.List.{AllByRecursion}
use Rattle.std.proofs.lemmas.Bool.{false≢true, ltb-true}
use Rattle.kinds.specs.declared.refusal.Refusal.TheVariants as refusal
use Rattle.kinds.specs.declared.segment.Segment.{Segment}
use Rattle.entries.specs.ChangeForm.{change as change_form, change_body, database_body}
use Rattle.entries.specs.EntryForm.{entry as entry_form, entry_in}
use Rattle.entries.specs.declared.change.Change.{Change}
use Rattle.entries.specs.declared.change.Change.TheVariants as change
use Rattle.inventory.proofs.Nothing.{is_free}
use Rattle.inventory_rows.specs.Search.{copies}
use Rattle.inventory_rows.specs.State.{Inv}
use Rattle.inventory_rules.specs.Backups.{after_refused, backup_at, is_unfinished}
use Rattle.inventory_rules.specs.Common.{file_bound, files_refused}
use Rattle.inventory_rules.specs.Run.{journal_of}
use Rattle.inventory_rules.specs.Transactions.{causes, effect, refused}
use Rattle.inventory_laws.proofs.Causes.{back_nil}
use Rattle.inventory_laws.proofs.Lists.{each_also, each_any}
use Rattle.inventory_laws.proofs.Origins.{each_contained}
use Rattle.inventory_laws.proofs.Tests.{unless_holds}
use Rattle.machine.specs.State.{Core, Image, Ticket, inventory}
use Rattle.hall.specs.Covered.{IsVolume, NumbersAreDrawn}
use Rattle.hall.proofs.DrawnNext.{KeepsBackup}
use Rattle.hall.proofs.JoinedFreed.{TakesAway}
use Rattle.hall.proofs.Joining.{Joins}
use Rattle.hall.proofs.PoolsStay.{KeepsPool}
use Rattle.hall.proofs.Takes.{quiet}
use Rattle.hall.proofs.VolumesStay.{KeepsVolume}

-- ---- records

begin_bytes : (actor file : ℕ) → entry_form.spell (record { actor = actor; change = change.DbBegin file None }) ≡ to_be_bytes w32 actor ++ (21 ∷ (to_be_bytes w32 file ++ (0 ∷ [])))
unfolding entry_in change_form change_body database_body
begin_bytes actor file = refl

follow_bytes : (actor file other : ℕ) → entry_form.spell (record { actor = actor; change = change.DbBegin file (Some other) }) ≡ to_be_bytes w32 actor ++ (21 ∷ (to_be_bytes w32 file ++ (1 ∷ to_be_bytes w32 other)))
unfolding entry_in change_form change_body database_body
follow_bytes actor file other = refl

end_bytes : (actor file : ℕ) → entry_form.spell (record { actor = actor; change = change.DbEnd file }) ≡ to_be_bytes w32 actor ++ (22 ∷ to_be_bytes w32 file)
unfolding entry_in change_form change_body database_body
end_bytes actor file = refl

pub short_begin : (actor file : ℕ) (after : Option ℕ) → length (entry_form.spell (record { actor = actor; change = change.DbBegin file after })) ≤ 2 ^ 24
short_begin actor file None =
    let bytes : length (entry_form.spell (record { actor = actor; change = change.DbBegin file None })) ≡ length (to_be_bytes w32 actor ++ (21 ∷ (to_be_bytes w32 file ++ (0 ∷ [])))) = ap length (begin_bytes actor file) in
    let long : length (to_be_bytes w32 actor ++ (21 ∷ (to_be_bytes w32 file ++ (0 ∷ [])))) ≡ 10 = refl in
    omega (arith, bytes, long)
short_begin actor file (Some other) =
    let bytes : length (entry_form.spell (record { actor = actor; change = change.DbBegin file (Some other) })) ≡ length (to_be_bytes w32 actor ++ (21 ∷ (to_be_bytes w32 file ++ (1 ∷ to_be_bytes w32 other)))) = ap length (follow_bytes actor file other) in
    let long : length (to_be_bytes w32 actor ++ (21 ∷ (to_be_bytes w32 file ++ (1 ∷ to_be_bytes w32 other)))) ≡ 14 = refl in
    omega (arith, bytes, long)

pub short_end : (actor file : ℕ) → length (entry_form.spell (record { actor = actor; change = change.DbEnd file })) ≤ 2 ^ 24
short_end actor file =
    let bytes : length (entry_form.spell (record { actor = actor; change = change.DbEnd file })) ≡ length (to_be_bytes w32 actor ++ (22 ∷ to_be_bytes w32 file)) = ap length (end_bytes actor file) in
    let long : length (to_be_bytes w32 actor ++ (22 ∷ to_be_bytes w32 file)) ≡ 9 = refl in
    omega (arith, bytes, long)

-- ---- nothing goes

pub begin_takes : (file : ℕ) (after : Option ℕ) (v : Inv) → TakesAway (change.DbBegin file after) v
unfolding effect
begin_takes file after v = quiet (change.DbBegin file after) v refl (each_contained (copies v))

pub end_takes : (file : ℕ) (v : Inv) → TakesAway (change.DbEnd file) v
unfolding effect
end_takes file v = quiet (change.DbEnd file) v refl (each_contained (copies v))

-- ---- they may join

pub begin_bound : (file : ℕ) (after : Option ℕ) (v : Inv) → after_refused after v ++ (files_refused (file ∷ []) v ++ file_bound file v) ≡ [] → max file (file + 1) < 2 ^ 32
begin_bound file after v cause =
    let bound = back_nil (files_refused (file ∷ []) v) (file_bound file v) (back_nil (after_refused after v) (files_refused (file ∷ []) v ++ file_bound file v) cause) in
    let low : max v.next_file (file + 1) < 2 ^ 32 - 1 = ltb-true (max v.next_file (file + 1)) (2 ^ 32 - 1) (unless_holds (nat_lt (max v.next_file (file + 1)) (2 ^ 32 - 1)) refusal.InventoryFull bound) in
    omega (arith, low)

pub begin_possible : (file : ℕ) (after : Option ℕ) (v : Inv) → after_refused after v ++ (files_refused (file ∷ []) v ++ file_bound file v) ≡ [] → file + 2 < 2 ^ 32
begin_possible file after v cause =
    let bound = back_nil (files_refused (file ∷ []) v) (file_bound file v) (back_nil (after_refused after v) (files_refused (file ∷ []) v ++ file_bound file v) cause) in
    let low : max v.next_file (file + 1) < 2 ^ 32 - 1 = ltb-true (max v.next_file (file + 1)) (2 ^ 32 - 1) (unless_holds (nat_lt (max v.next_file (file + 1)) (2 ^ 32 - 1)) refusal.InventoryFull bound) in
    omega (arith, low)

-- no image is in progress
pub no_image_kept : (i : Option Image) (x : Change) → i ≡ None → IfSome i (λ j. KeepsBackup j.file x)
no_image_kept None x none = tt
no_image_kept (Some i) x none = absurd cc

module _ (actor : ℕ) (c : Core) (n : NumbersAreDrawn c) (none : c.image ≡ None) where
  pub begin_joins : (after : Option ℕ) → refused (journal_of c.base c.journal) (change.DbBegin c.next_file after) (inventory c) ≡ None → Joins actor (change.DbBegin c.next_file after) [] c
  begin_joins after legal = record {
    legal = legal;
    once = refl;
    there = tt;
    spends = tt;
    objects = tt;
    places = tt;
    pools = each_any (λ (t : Ticket). KeepsPool t.place.pool (change.DbBegin c.next_file after) (inventory c)) c.tickets (λ t. tt);
    volumes = each_also (λ (t : Ticket). AllByRecursion (λ (s : Segment). IsVolume c s.file) t.place.segments)
        (λ (t : Ticket). AllByRecursion (λ (s : Segment). KeepsVolume s.file (change.DbBegin c.next_file after) (inventory c) × KeepsBackup s.file (change.DbBegin c.next_file after)) t.place.segments) c.tickets
        (λ t each. each_also (λ (s : Segment). IsVolume c s.file) (λ (s : Segment). KeepsVolume s.file (change.DbBegin c.next_file after) (inventory c) × KeepsBackup s.file (change.DbBegin c.next_file after)) t.place.segments
        (λ s v. (tt, λ same. let below = v.1 in omega (arith, below, same))) each) n.files;
    image = no_image_kept c.image (change.DbBegin c.next_file after) none;
    files = λ file pool no. absurd no;
    draws = omega arith;
    bound = begin_bound c.next_file after (inventory c) (is_free (journal_of c.base c.journal) (change.DbBegin c.next_file after) (inventory c) legal).causes;
    further = omega arith;
    short = short_begin actor c.next_file after;
  }

  pub end_joins : (file : ℕ) → is_unfinished (backup_at file (inventory c)) ≡ true → refused (journal_of c.base c.journal) (change.DbEnd file) (inventory c) ≡ None → Joins actor (change.DbEnd file) [] c
  end_joins file listed legal = record {
    legal = legal;
    once = refl;
    there = tt;
    spends = tt;
    objects = tt;
    places = tt;
    pools = each_any (λ (t : Ticket). KeepsPool t.place.pool (change.DbEnd file) (inventory c)) c.tickets (λ t. tt);
    volumes = each_also (λ (t : Ticket). AllByRecursion (λ (s : Segment). IsVolume c s.file) t.place.segments)
        (λ (t : Ticket). AllByRecursion (λ (s : Segment). KeepsVolume s.file (change.DbEnd file) (inventory c) × KeepsBackup s.file (change.DbEnd file)) t.place.segments) c.tickets
        (λ t each. each_also (λ (s : Segment). IsVolume c s.file) (λ (s : Segment). KeepsVolume s.file (change.DbEnd file) (inventory c) × KeepsBackup s.file (change.DbEnd file)) t.place.segments
        (λ s v. (tt, λ same. false≢true (sym (ap is_unfinished (subst (λ k. backup_at k (inventory c) ≡ None) (sym same) v.2)) ∙ listed))) each) n.files;
    image = no_image_kept c.image (change.DbEnd file) none;
    files = λ k pool no. absurd no;
    draws = tt;
    bound = n.bounds.0;
    further = omega arith;
    short = short_end actor file;
  }
