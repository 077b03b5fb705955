-- The hall behind a transaction that was made, and waits for a force or is in doubt.
use Rattle.std.proofs.Common.{◌≡◌, inr, ℕ, ◌+◌, ◌<◌, ◌≤◌, false, List, [], ◌++◌, length, Option, Some, None, Result, Ok, Err, refl, sym, ap, subst, ◌∙◌, arith}
use Rattle.std.specs.Prelude.{IfSome}
use Rattle.store_api.specs.Disk.{History, now}
use Rattle.store_api.specs.Told.{Told}
use Rattle.kinds.specs.declared.refusal.Refusal.{Refusal}
use Rattle.entries.specs.declared.change.Change.{Change}
use Rattle.entries.specs.declared.entry.Entry.{Entry}
use Rattle.inventory.specs.Meant.{meaning}
use Rattle.inventory_rows.specs.State.{Inv}
use Rattle.vault.specs.Vaults.{State, Waits, in_doubt, with_waiting}
use Rattle.machine.specs.Machine.{durable, halting, storing_contents}
use Rattle.machine.specs.State.{Core, Machine, inventory}
use Rattle.hall.specs.Covered.{is_any_reuse}
use Rattle.hall.specs.Good.{Is, IsKept, IsStamped, WasSound}
use Rattle.hall.specs.Held.{Hall, Held, IsImage}
use Rattle.hall.specs.Joined.{joined_held}
use Rattle.hall.proofs.Calling.{sound_before}
use Rattle.hall.proofs.Forcing.{ours_alone}
use Rattle.hall.proofs.FreedFiles.{none_new}
use Rattle.hall.proofs.JoinedBytes.{bytes_joined}
use Rattle.hall.proofs.JoinedCore.{core_doubted, core_waiting, joined_form}
use Rattle.hall.proofs.JoinedFreed.{TakesAway}
use Rattle.hall.proofs.FirmSeats.{firm_joined}
use Rattle.hall.proofs.JoinedKept.{doubted_kept, lawful_joined, listed_joined, stamped_joined, waiting_kept}
use Rattle.hall.proofs.JoinedNumbers.{numbers_joined}
use Rattle.hall.proofs.JoinedSpace.{space_joined}
use Rattle.hall.proofs.Joining.{Joins, last, spent}
use Rattle.hall.specs.Protected.{HadBackups, KeepsAllBackups}

module _ {S : Type 0} (told : S → Option History) (moment : S → ℕ) (faults : S → ℕ → ℕ) (clock : (s : S) → IfSome (told s) (λ h. now h ≡ moment s)) (actor : ℕ) (x : Change) (numbers : List ℕ) (hall : Hall S) (store : S)
    (none : hall.held.vault.fault ≡ None) (since : moment hall.store ≤ moment store) (m : Machine) (is : Is told moment faults hall m) (joins : Joins actor x numbers m.core) (takes : TakesAway x (inventory m.core)) (plain : is_any_reuse x ≡ false) where
  abbrev e : Entry
  e = record { actor = actor; change = x }

  abbrev later_core : Core
  later_core = last actor x numbers m.core

  abbrev later_contents : ℕ → List ℕ
  later_contents = storing_contents (spent actor numbers m.core) m.contents

  few : length m.core.stamps ≤ length m.core.journal
  few = is.good.stamped.few

  -- what is kept of backups behind the transaction, before the calls
  abbrev pub Joined : Option History → Type 0
  Joined o = IfSome o (λ h. WasSound hall.held.base hall.held.opened h → HadBackups hall.held.base hall.held.opened h → KeepsAllBackups later_core hall.held.opened h hall.held.job)

  -- ---- it waits for a force

  abbrev pub waiting_at : Machine
  waiting_at = record { core = later_core; contents = later_contents; moment = moment store; counts = faults store }

  abbrev pub waiting_held : Held
  waiting_held = joined_held x numbers (with_waiting meaning hall.held.vault e) hall.held

  good_waiting : Joined (told hall.store) → (number : ℕ)
      → (let result : Result ℕ Refusal = Ok number in Told (told hall.store) (told store) (Waits meaning hall.held.vault e result (with_waiting meaning hall.held.vault e)))
      → IfSome (told store) (λ h. WasSound hall.held.base hall.held.opened h → IsKept waiting_at waiting_held h)
  good_waiting joined number did = kept_both (told hall.store) (told store) did (clock hall.store) is.good.kept joined
    where
      kept_both : (o n : Option History) → (let result : Result ℕ Refusal = Ok number in Told o n (Waits meaning hall.held.vault e result (with_waiting meaning hall.held.vault e)))
          → IfSome o (λ h. now h ≡ moment hall.store) → IfSome o (λ h. WasSound hall.held.base hall.held.opened h → IsKept m hall.held h) → Joined o
          → IfSome n (λ h. WasSound hall.held.base hall.held.opened h → IsKept waiting_at waiting_held h)
      kept_both None None r at kept joined = tt
      kept_both None (Some new) r at kept joined = absurd r
      kept_both (Some h) None r at kept joined = absurd r
      kept_both (Some h) (Some new) r at kept joined = λ sound.
          let before = sound_before told moment faults hall store m h new is at (ours_alone hall.held.vault.generation h new r.goes) sound in
          let vault = with_waiting meaning hall.held.vault e in
          let goes = ours_alone hall.held.vault.generation h new r.goes in
          let k = kept before in
          let held = k.sure (is.core.fault ∙ none) in
          let image : IsImage m.core.base.number hall.held.vault.generation hall.held.vault.pending hall.held.job m.core.image = is.core.is_image none in
          subst (λ hl. IsKept waiting_at hl new) (sym (joined_form actor x numbers hall.held m.core is.core is.good.lawful joins is.good.numbers is.good.stamped.few vault))
          (waiting_kept actor x numbers m hall.held h new goes is.core k is.good.lawful is.good.stamped.few is.good.numbers is.good.space is.good.bytes joins (r.since (durable m.core) held) (joined before)
          vault (r.held (durable m.core) held) r.pends image waiting_held.seats (firm_joined x numbers vault hall.held) waiting_held.claims (is.core.fault ∙ none) (faults store) (moment store) (r.left (durable m.core) held))

  pub waiting_is : Joined (told hall.store) → (number : ℕ) → (let result : Result ℕ Refusal = Ok number in Told (told hall.store) (told store) (Waits meaning hall.held.vault e result (with_waiting meaning hall.held.vault e)))
      → Is told moment faults (record { store = store; held = waiting_held }) waiting_at
  waiting_is joined number did =
      let form = joined_form actor x numbers hall.held m.core is.core is.good.lawful joins is.good.numbers few (with_waiting meaning hall.held.vault e) in
      record {
        core = core_waiting actor x numbers hall.held m.core is.core is.good.lawful joins is.good.numbers few takes (none_new m.core actor x numbers is.good.lawful joins is.good.numbers) none;
        clock = refl;
        counts = refl;
        good = record {
          lawful = lawful_joined actor x numbers m.core is.good.lawful joins;
          stamped = subst (λ o. IsStamped o (moment store) later_core) (sym (ap (λ (h : Held). h.opened) form))
              (stamped_joined actor x numbers m.core is.good.lawful joins plain hall.held.opened m.moment (moment store) (omega (arith, is.clock, since)) is.good.stamped);
          space = space_joined actor x numbers m.core is.good.lawful joins is.good.numbers is.good.space few;
          numbers = numbers_joined actor x numbers m.core is.good.lawful joins is.good.numbers is.good.space;
          bytes = bytes_joined actor x numbers m.core m.contents is.good.lawful joins is.good.numbers is.good.space is.good.bytes;
          listed = λ none. listed_joined actor x numbers m.core is.good.lawful joins few (is.good.listed none);
          kept =
              subst (λ (b : Inv). IfSome (told store) (λ h. WasSound b waiting_held.opened h → IsKept waiting_at waiting_held h)) (sym (ap (λ (h : Held). h.base) form))
              (subst (λ (o : ℕ). IfSome (told store) (λ h. WasSound hall.held.base o h → IsKept waiting_at waiting_held h)) (sym (ap (λ (h : Held). h.opened) form)) (good_waiting joined number did));
        };
      }

  -- ---- the call on the log failed

  module _ (end file count : ℕ) where
    abbrev pub doubted_at : Machine
    doubted_at = record { core = halting file count later_core; contents = later_contents; moment = moment store; counts = faults store }

    abbrev pub doubted_vault : State Inv
    doubted_vault = in_doubt meaning hall.held.vault e end file count

    abbrev pub doubted_held : Held
    doubted_held = joined_held x numbers doubted_vault hall.held

    form_of : doubted_held ≡ record hall.held { vault = doubted_vault; seats = doubted_held.seats; claims = doubted_held.claims }
    form_of = joined_form actor x numbers hall.held m.core is.core is.good.lawful joins is.good.numbers is.good.stamped.few doubted_vault

    good_doubted : Joined (told hall.store) → (why : Refusal)
        → (let result : Result ℕ Refusal = Err why in Told (told hall.store) (told store) (Waits meaning hall.held.vault e result doubted_vault))
        → IfSome (told store) (λ h. WasSound hall.held.base hall.held.opened h → IsKept doubted_at doubted_held h)
    good_doubted joined why did = kept_both (told hall.store) (told store) did (clock hall.store) is.good.kept joined
      where
        kept_both : (o n : Option History) → (let result : Result ℕ Refusal = Err why in Told o n (Waits meaning hall.held.vault e result doubted_vault))
            → IfSome o (λ h. now h ≡ moment hall.store) → IfSome o (λ h. WasSound hall.held.base hall.held.opened h → IsKept m hall.held h) → Joined o
            → IfSome n (λ h. WasSound hall.held.base hall.held.opened h → IsKept doubted_at doubted_held h)
        kept_both None None r at kept joined = tt
        kept_both None (Some new) r at kept joined = absurd r
        kept_both (Some h) None r at kept joined = absurd r
        kept_both (Some h) (Some new) r at kept joined = λ sound.
            let goes = ours_alone hall.held.vault.generation h new r.goes in
            let before = sound_before told moment faults hall store m h new is at goes sound in
            let k = kept before in
            let held = k.sure (is.core.fault ∙ none) in
            subst (λ hl. IsKept doubted_at hl new) (sym form_of)
            (doubted_kept actor x numbers m hall.held h new goes is.core k is.good.lawful is.good.stamped.few is.good.numbers is.good.space is.good.bytes joins (r.since (durable m.core) held) (joined before)
            file count doubted_vault doubted_held.seats (firm_joined x numbers doubted_vault hall.held) doubted_held.claims (faults store) (moment store) (r.left (durable m.core) held))

    pub doubted_is : Joined (told hall.store) → (why : Refusal) → (let result : Result ℕ Refusal = Err why in Told (told hall.store) (told store) (Waits meaning hall.held.vault e result doubted_vault))
        → Is told moment faults (record { store = store; held = doubted_held }) doubted_at
    doubted_is joined why did =
        record {
          core = core_doubted actor x numbers hall.held m.core is.core is.good.lawful joins is.good.numbers few takes (none_new m.core actor x numbers is.good.lawful joins is.good.numbers) end file count;
          clock = refl;
          counts = refl;
          good = record {
            lawful = (let g = lawful_joined actor x numbers m.core is.good.lawful joins in record { valid = g.valid; tied = g.tied; legal = g.legal; short = g.short });
            stamped = subst (λ o. IsStamped o (moment store) (halting file count later_core)) (sym (ap (λ (h : Held). h.opened) form_of))
                (let g = stamped_joined actor x numbers m.core is.good.lawful joins plain hall.held.opened m.moment (moment store) (omega (arith, is.clock, since)) is.good.stamped in
                record { few = g.few; rise = g.rise; waiting = λ no. absurd (no_fault no) });
            space = (let g = space_joined actor x numbers m.core is.good.lawful joins is.good.numbers is.good.space few in record { filled = g.filled; clear = g.clear; apart = g.apart });
            numbers = (let g = numbers_joined actor x numbers m.core is.good.lawful joins is.good.numbers is.good.space in
                record { tickets = g.tickets; below = g.below; objects = g.objects; apart = g.apart; pools = g.pools; files = g.files; lying = g.lying; none_back = g.none_back; next_file = g.next_file; next_object = g.next_object; bounds = g.bounds });
            bytes = (let g = bytes_joined actor x numbers m.core m.contents is.good.lawful joins is.good.numbers is.good.space is.good.bytes in record { sized = g.sized; fronts = g.fronts });
            listed = λ no. absurd (no_fault no);
            kept =
                subst (λ (b : Inv). IfSome (told store) (λ h. WasSound b doubted_held.opened h → IsKept doubted_at doubted_held h)) (sym (ap (λ (h : Held). h.base) form_of))
                (subst (λ (o : ℕ). IfSome (told store) (λ h. WasSound hall.held.base o h → IsKept doubted_at doubted_held h)) (sym (ap (λ (h : Held). h.opened) form_of)) (good_doubted joined why did));
          };
        }
      where
        no_fault : {A : Type 0} {a : A} → Some a ≡ None → ⊥
        no_fault e = absurd cc
