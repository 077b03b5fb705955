-- What the hall holds is the machine's state, behind a transaction that joined.
use Rattle.std.proofs.Common.{◌≡◌, ℕ, ◌+◌, ◌≤◌, true, List, [], ◌∷◌, ◌++◌, length, Option, None, Some, is_none, refl, sym, ap, subst, ◌∙◌}
use Rattle.std.specs.Prelude.{IfSome, nat_le}
use Rattle.std.specs.List.{AllByRecursion, Contains}
use Rattle.std.proofs.lemmas.Bool.{false≢true}
use Rattle.kinds.specs.declared.change.PoolChange.TheVariants as store
use Rattle.kinds.specs.declared.change.Verb.TheVariants as verb
use Rattle.kinds.specs.declared.segment.Segment.{Segment}
use Rattle.entries.specs.declared.change.Change.{Change}
use Rattle.entries.specs.declared.change.Change.TheVariants as change
use Rattle.entries.specs.declared.entry.Entry.{Entry}
use Rattle.inventory.specs.Meant.{meaning}
use Rattle.inventory_rows.specs.version_groups.Entries.{all_later}
use Rattle.inventory_rows.specs.volume_rows.declared.volume.Volume.{Volume}
use Rattle.inventory_rows.specs.pool_tables.Rows.{row_at, with_row}
use Rattle.inventory_rows.specs.State.{Inv}
use Rattle.inventory_rules.specs.Run.{journal_of}
use Rattle.inventory_rules.specs.Transactions.{effect}
use Rattle.space.specs.declared.places.Placed.{Placed}
use Rattle.vault.specs.Vaults.{State, in_doubt, with_waiting}
use Rattle.machine.specs.Machine.{durable, file_drawn, freed, halting, record_length, space}
use Rattle.machine.specs.State.{Core, after, inventory, unforced, without}
use Rattle.hall.specs.Covered.{NumbersAreDrawn}
use Rattle.hall.specs.Good.{IsLawful}
use Rattle.hall.specs.Held.{AreSeatsOf, Held, IsCore}
use Rattle.hall.specs.Joined.{drawn_by, joined_held, next_behind, taken_by, taken_noted, with_drawn}
use Rattle.hall.specs.Placed.{IsFreed, IsNoted, IsSpace}
use Rattle.hall.proofs.Along.{pool_stays}
use Rattle.hall.proofs.Databases.{after_parts}
use Rattle.hall.proofs.JoinedFreed.{TakesAway, all_freed, all_noted, freed_before, rows_rise}
use Rattle.hall.proofs.Joining.{Joins, behind, durable_last, entry_of, free_of, inventory_last, last, unforced_last, valid_now}
use Rattle.hall.proofs.Runs.{freed_by, freed_end}
use Rattle.hall.proofs.Spending.{AreMine, all_claims_gone, all_seats_gone, freed_stay, mine_of, next_stays, seats_only}

-- the file number that is drawn next is the same in both
pub next_is : (x : Change) (n : ℕ) → next_behind (drawn_by x) n ≡ file_drawn x n
next_is (change.Pool (store.Volume verb.Define name pool file capacity access)) n = refl
next_is (change.Pool (store.Volume verb.Update name pool file capacity access)) n = refl
next_is (change.Pool (store.Volume verb.Delete name pool file capacity access)) n = refl
next_is (change.Pool (store.Pool what name class kind rule)) n = refl
next_is (change.Pool (store.DevClass what class capacity)) n = refl
next_is (change.Day day) n = refl
next_is (change.Policy c) n = refl
next_is (change.Object c) n = refl
next_is (change.Backup c) n = refl
next_is (change.Hold c) n = refl
next_is (change.Rebind c) n = refl
next_is (change.Gone c) n = refl
next_is (change.Move c) n = refl
next_is (change.Copy c) n = refl
next_is (change.DropCopies c) n = refl
next_is (change.Expire c) n = refl
next_is (change.Discard c) n = refl
next_is (change.Reuse k) n = refl
next_is (change.DbBegin k after) n = refl
next_is (change.DbEnd k) n = refl
next_is (change.DbDelete k) n = refl

module _ (actor : ℕ) (x : Change) (numbers : List ℕ) (held : Held) (c : Core) (is : IsCore held c) (l : IsLawful c) (j : Joins actor x numbers c) (n : NumbersAreDrawn c) (few : length c.stamps ≤ length c.journal) where
  abbrev now : Inv
  now = inventory c

  abbrev before : State Inv → Held
  before vault = record held { vault = vault; claims = with_drawn x (taken_noted x held) }

  abbrev all : State Inv → Held
  all vault = joined_held x numbers vault held

  -- only the vault, the tickets and the space differ
  pub joined_form : (vault : State Inv) → all vault ≡ record held { vault = vault; seats = (all vault).seats; claims = (all vault).claims }
  joined_form vault = seats_only numbers (before vault)

  mine : AreMine actor numbers held.seats
  mine = mine_of actor numbers held c.tickets is.tickets n.tickets j.there

  seats_joined : (vault : State Inv) → AreSeatsOf (all vault).seats (without actor numbers c.tickets)
  seats_joined vault = all_seats_gone actor numbers (before vault) c.tickets is.tickets n.tickets j.once mine

  -- ---- space

  -- a volume that was there and is there still lies in its pool
  still : (file : ℕ) (volume : Volume) → row_at file now.stores.volumes ≡ Some volume → IfSome (row_at file (behind actor x numbers c).stores.volumes) (λ new. volume.pool ≡ new.pool)
  still file volume there = go (row_at file (behind actor x numbers c).stores.volumes) refl where
    go : (o : Option Volume) → row_at file (behind actor x numbers c).stores.volumes ≡ o → IfSome o (λ new. volume.pool ≡ new.pool)
    go None at = tt
    go (Some new) at = sym (pool_stays file (journal_of c.base c.journal) x now volume new (valid_now c l) (free_of actor x numbers c l j).causes there at)

  -- the files on which what was freed lay are no new ones
  module _ (takes : TakesAway x now) (old_files : (number : ℕ) (s : Segment) → Contains (freed (durable c) (unforced c)) (number, s) → is_none (row_at s.file now.stores.volumes) ≡ true
      → is_none (row_at s.file (behind actor x numbers c).stores.volumes) ≡ true) where
    stays : (file pool number : ℕ) (s : Segment) → Contains (freed (durable c) (unforced c)) (number, s) → s.file ≡ file → IfSome (row_at file now.stores.volumes) (λ volume. pool ≡ volume.pool)
        → IfSome (row_at file (behind actor x numbers c).stores.volumes) (λ volume. pool ≡ volume.pool)
    stays file pool number s there on was = go (row_at file now.stores.volumes) refl was where
      go : (o : Option Volume) → row_at file now.stores.volumes ≡ o → IfSome o (λ volume. pool ≡ volume.pool) → IfSome (row_at file (behind actor x numbers c).stores.volumes) (λ volume. pool ≡ volume.pool)
      go None at was = none (row_at file (behind actor x numbers c).stores.volumes) (subst (λ k. is_none (row_at k (behind actor x numbers c).stores.volumes) ≡ true) on
          (old_files number s there (subst (λ k. is_none (row_at k now.stores.volumes) ≡ true) (sym on) (ap is_none at)))) where
            none : (o : Option Volume) → is_none o ≡ true → IfSome o (λ volume. pool ≡ volume.pool)
            none None h = tt
            none (Some v) h = absurd (false≢true h)
      go (Some volume) at was = subst (λ k. IfSome (row_at file (behind actor x numbers c).stores.volumes) (λ new. k ≡ new.pool)) (sym was) (still file volume at)

    abbrev old : List (ℕ × Segment)
    old = freed (durable c) (unforced c)

    -- what the transactions free that aren't forced yet
    freed_last : freed (durable (last actor x numbers c)) (unforced (last actor x numbers c)) ≡ old ++ freed_by now (entry_of actor x numbers c)
    freed_last =
        ap (λ v. freed v (unforced (last actor x numbers c))) (durable_last actor x numbers c few)
        ∙ ap (freed (durable c)) (unforced_last actor x numbers c few)
        ∙ freed_end (durable c) (unforced c) (entry_of actor x numbers c)
        ∙ ap (λ v. old ++ freed_by v (entry_of actor x numbers c)) (after_parts (length c.stamps) c.base c.journal)

    below : AllByRecursion (λ (a : ℕ × Segment). a.0 ≤ now.number) old
    below = subst (λ v. AllByRecursion (λ (a : ℕ × Segment). a.0 ≤ v.number) old) (after_parts (length c.stamps) c.base c.journal) (freed_before (durable c) (unforced c))

    rows_of : (vault : State Inv) → (all vault).claims.freed ≡ (taken_noted x held).freed
    rows_of vault = freed_stay numbers (before vault)

    -- what is noted, over the machine's database
    noted_is : (taken_noted x held).freed ≡ with_row (now.number + 1) (taken_by x now) held.claims.freed
    noted_is = ap (λ (v : Inv). with_row (v.number + 1) (taken_by x v) held.claims.freed) is.database

    pub space_is : (vault : State Inv) → IsSpace (inventory (last actor x numbers c)) (space (last actor x numbers c)) (all vault).claims
    space_is vault = record {
      tickets = all_claims_gone actor numbers (before vault) c.tickets is.tickets n.tickets j.once mine is.space.tickets;
      noted = λ number s there.
          subst (λ rows. IsNoted rows number s) (sym (rows_of vault ∙ noted_is))
          (all_noted x now takes old held.claims.freed below (λ file pool k s there on was. stays file pool k s there on was) still is.space.noted number s (subst (λ list. Contains list (number, s)) freed_last there));
      freed = λ number places p there within.
          subst (λ list. IsFreed (inventory (last actor x numbers c)) list number p) (sym freed_last)
          (subst (λ v. IsFreed v (old ++ freed_by now (entry_of actor x numbers c)) number p) (sym (inventory_last actor x numbers c))
          (all_freed x now takes old held.claims.freed below (λ file pool k s there on was. stays file pool k s there on was) still is.space.freed number places p
          (subst (λ rows. Contains rows (number, places)) (rows_of vault ∙ noted_is) there) within));
      ascending = subst (λ rows. all_later (λ (a b : ℕ × List Placed). nat_le (a.0 + 1) b.0) rows ≡ true) (sym (rows_of vault ∙ noted_is))
          (rows_rise (now.number + 1) (taken_by x now) held.claims.freed is.space.ascending);
      next_file = next_stays numbers (before vault) ∙ (ap (next_behind (drawn_by x)) is.space.next_file ∙ next_is x c.next_file);
    }

    -- ---- it waits for a force

    abbrev e : Entry
    e = entry_of actor x numbers c

    database_is : effect x held.vault.database ≡ inventory (last actor x numbers c)
    database_is = ap (effect x) is.database ∙ sym (inventory_last actor x numbers c)

    pub core_waiting : held.vault.fault ≡ None → IsCore (all (with_waiting meaning held.vault e)) (last actor x numbers c)
    core_waiting none =
        let vault = with_waiting meaning held.vault e in
        subst (λ h. IsCore h (last actor x numbers c)) (sym (joined_form vault)) (record {
          base = is.base;
          journal = ap (λ (es : List Entry). es ++ (e ∷ [])) is.journal;
          database = database_is;
          stamps = is.stamps;
          forced = λ _. is.forced none;
          tickets = seats_joined vault;
          space = space_is vault;
          next_object = is.next_object;
          next_ticket = is.next_ticket;
          image = is.image;
          is_image = λ _. is.is_image none;
          generation = is.generation;
          log_length = λ _. ap (λ k. k + record_length e) (is.log_length none);
          fault = is.fault ∙ none;
        })

    -- ---- it is in doubt

    pub core_doubted : (end file count : ℕ) → IsCore (all (in_doubt meaning held.vault e end file count)) (halting file count (last actor x numbers c))
    core_doubted end file count =
        let vault = in_doubt meaning held.vault e end file count in
        subst (λ h. IsCore h (halting file count (last actor x numbers c))) (sym (joined_form vault)) (record {
          base = is.base;
          journal = ap (λ (es : List Entry). es ++ (e ∷ [])) is.journal;
          database = database_is;
          stamps = is.stamps;
          forced = λ none. absurd (no_fault none);
          tickets = seats_joined vault;
          space = record { tickets = (space_is vault).tickets; noted = (space_is vault).noted; freed = (space_is vault).freed; ascending = (space_is vault).ascending; next_file = (space_is vault).next_file };
          next_object = is.next_object;
          next_ticket = is.next_ticket;
          image = is.image;
          is_image = λ none. absurd (no_fault none);
          generation = is.generation;
          log_length = λ none. absurd (no_fault none);
          fault = refl;
        })
      where
        no_fault : {A : Type 0} {a : A} → Some a ≡ None → ⊥
        no_fault e = absurd cc
