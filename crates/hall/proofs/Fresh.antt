-- A hall that was opened is a new one, in a state of the machine.
use Rattle.std.proofs.Common.{◌≡◌, ℕ, ◌-◌, ◌<◌, ◌^◌, ◌&&◌, true, nat_le, nat_lt, List, [], ◌∷◌, length, Option, Some, None, Result, Ok, refl, sym, subst, ◌∙◌, arith, zero, suc, take, ap}
use Rattle.std.specs.Prelude.{Contains, IfSome}
use Rattle.std.specs.List.{AllByRecursion, flat_map}
use Rattle.std.proofs.lemmas.Bool.{ltb-true}
use Rattle.store_api.specs.Disk.{History, ImageAt, now, reads}
use Rattle.store_api.specs.Told.{Told}
use Rattle.store_api.proofs.Pieces.{image_reads}
use Rattle.kinds.specs.declared.refusal.OpenRefused.{OpenRefused}
use Rattle.entries.specs.declared.entry.Entry.{Entry}
use Rattle.contents.specs.Contents.{HasVersion, Holds, InImage}
use Rattle.db_image.specs.Steps.{Job}
use Rattle.inventory.specs.Meant.{meaning}
use Rattle.inventory_laws.proofs.Facts.{facts_of, first, rest}
use Rattle.inventory_laws.proofs.Lists.{each_also}
use Rattle.inventory_rows.specs.Search.{versions}
use Rattle.inventory_rows.specs.pool_tables.Rows.{row_at}
use Rattle.inventory_rows.specs.State.{Inv}
use Rattle.inventory_rules.specs.Held.{IsTied}
use Rattle.inventory_rules.specs.Valid.{is_valid, lie_in}
use Rattle.space.specs.Claims.{Claims}
use Rattle.vault.specs.Openings.{Opened}
use Rattle.vault.specs.Openings as vault
use Rattle.vault.specs.Pieces.{Pending}
use Rattle.vault.specs.Recovery.{RecoversWithin}
use Rattle.vault.specs.Vaults.{IsGood as IsGoodVault, IsHeld, IsLeft, State}
use Rattle.vault.proofs.Committing.{good_held}
use Rattle.vault.proofs.Leaving.{good_is}
use Rattle.machine.specs.Machine.{space}
use Rattle.machine.specs.State.{Core, Image, Machine, after}
use Rattle.hall.specs.declared.seat.Seat.{Seat}
use Rattle.hall.specs.Covered.{NumbersAreDrawn}
use Rattle.hall.specs.Good.{AlwaysSafe, Is, IsKept, IsSoundWith, RecoversToOne, WasSound}
use Rattle.hall.specs.Held.{AreSeatsOf, Hall, Held, IsCore, IsImage}
use Rattle.hall.specs.Opening.{IsNewHall, IsSound, IsWith, Opens, OpensFiles}
use Rattle.hall.specs.Placed.{IsSpace}
use Rattle.hall.proofs.Chosen.{chosen, chosen_sized, chosen_sound}
use Rattle.hall.proofs.Databases.{each_covered}
use Rattle.hall.proofs.Firm.{all_firm}
use Rattle.hall.proofs.Sound.{sound_behind, told_opened}
use Rattle.hall.specs.Protected.{HadBackups, KeepsAllBackups}
use Rattle.hall.proofs.BackupsOpened.{opened_keeps}

-- ---- the machine's state when a hall is opened

abbrev new_core : Held → Core
new_core held = record {
  base = held.base;
  journal = [];
  stamps = [];
  tickets = [];
  next_file = held.base.next_file;
  next_object = held.base.next_object;
  next_ticket = 1;
  image = None;
  generation = held.vault.generation;
  log_length = held.vault.end;
  fault = None;
}

-- nothing is in progress
no_image : (first generation : ℕ) (pending : Option Pending) (job : Option Job) (image : Option Image) → pending ≡ None → job ≡ None → image ≡ None → IsImage first generation pending job image
no_image first generation None None None p j i = tt
no_image first generation None None (Some x) p j i = absurd cc
no_image first generation None (Some x) image p j i = absurd cc
no_image first generation (Some x) job image p j i = absurd cc

none_contained : {X : Type 0} (x : X) → Contains [] x → ⊥
none_contained x c = omega (arith, c.1)

-- ---- what a new hall holds is a new state of the machine

module _ (moment : ℕ) (held : Held) (fresh : IsNewHall moment held) where
  new_space : IsSpace held.base (space (new_core held)) held.claims
  new_space = subst (λ (s : Claims). IsSpace held.base (space (new_core held)) s) (sym fresh.claims) (record {
    tickets = refl;
    noted = λ number s there. absurd (none_contained (number, s) there);
    freed = λ number places p there within. absurd (none_contained (number, places) there);
    ascending = refl;
    next_file = refl;
  })

  new_is : IsCore held (new_core held)
  new_is = record {
    base = refl;
    journal = sym fresh.vault.0;
    database = sym fresh.base;
    stamps = sym fresh.stamps;
    forced = λ running. fresh.vault.1;
    tickets = subst (λ (seats : List (ℕ × Seat)). AreSeatsOf seats []) (sym fresh.seats) tt;
    space = new_space;
    next_object = sym fresh.next_object;
    next_ticket = sym fresh.next_ticket;
    image = sym fresh.image;
    is_image = λ running. no_image held.base.number held.vault.generation held.vault.pending held.job None fresh.vault.3 fresh.job refl;
    generation = refl;
    log_length = λ running. refl;
    fault = sym fresh.vault.2;
  }

-- its numbers are those of the base, each below its bound
below : (least bound n : ℕ) → lie_in least bound (n ∷ []) ≡ true → n < bound
below least bound n h = ltb-true n bound (rest (nat_le least n) (nat_lt n bound) (first (nat_le least n && nat_lt n bound) true h))

none_taken : (n : ℕ) → take {A = Entry} n [] ≡ []
none_taken zero = refl
none_taken (suc n) = refl

new_numbers : (held : Held) → is_valid held.base ≡ true → NumbersAreDrawn (new_core held)
new_numbers held valid =
    let facts = facts_of held.base valid in
    let file : held.base.next_file < 2 ^ 32 - 1 = below 4 (2 ^ 32 - 1) held.base.next_file facts.files_bounded in
    let object : held.base.next_object < 2 ^ 62 = below 1 (2 ^ 62) held.base.next_object facts.objects_bounded in
    record {
      tickets = refl;
      below = tt;
      objects = tt;
      apart = refl;
      pools = tt;
      files = tt;
      lying = tt;
      none_back = λ file i j k low high there gone. subst (λ (l : List Entry). row_at file (after held.base l).stores.volumes ≡ None) (none_taken j ∙ sym (none_taken k)) gone;
      next_file = (omega arith, omega arith);
      next_object = (omega arith, omega arith);
      bounds = (omega (arith, file), object, omega arith);
    }

-- ---- what no stop takes from it

module _ (contents : ℕ → List ℕ) (counts : ℕ → ℕ) (held : Held) (h : History) where
  abbrev new_machine : (moment : ℕ) → Machine
  new_machine moment = record { core = new_core held; contents = contents; moment = moment; counts = counts }

  module _ (moment : ℕ) (fresh : IsNewHall moment held) (at : now h ≡ held.opened) (good : IsGoodVault meaning held.vault h) (sound : IsSoundWith contents held.base held.opened h) where
    each_now : (image : ℕ → List ℕ) → ImageAt h (now h) image → RecoversWithin meaning image held.base × Holds contents image held.base
    each_now image here = sound image (subst (λ n. ImageAt h n image) at here)

    safe_since : AlwaysSafe contents (new_core held) held.opened h
    safe_since moment image from to here =
        let same : moment ≡ held.opened = omega (arith, from, to, at) in
        let one = sound image (subst (λ n. ImageAt h n image) same here) in
        record { last = 0; durable = omega arith; made = omega arith; recovers = one.0; holds = one.1 }

    left_now : IsLeft (RecoversToOne (new_core held)) h
    left_now files left = (0, omega arith, omega arith, subst (λ v. RecoversWithin meaning files v) (sym fresh.base) (good_is meaning held.vault h good files left))

    pub new_kept : IsKept (new_machine moment) held h
    new_kept = record {
      since = omega (arith, at);
      first = sound;
      always = safe_since;
      left = left_now;
      sure = λ running. subst (λ v. IsHeld meaning held.vault v h) (sym fresh.base) (good_held meaning held.vault h good);
      firm = all_firm h contents (flat_map versions (held.base ∷ [])) (λ image here. each_covered (λ w. HasVersion (InImage image) (contents w.object) w) (held.base ∷ []) ((each_now image here).1, tt));
      tickets = tt;
      image = λ running. tt;
      backups = λ had. subst (λ (n : ℕ). KeepsAllBackups (new_core held) n h held.job) at
          (subst (λ (j : Option Job). KeepsAllBackups (new_core held) (now h) h j) (sym fresh.job)
          (opened_keeps held.base h (subst (λ (n : ℕ). HadBackups held.base n h) (sym at) had) (new_core held) refl refl (λ count. ap (after held.base) (none_taken count)) (λ file. refl) refl (λ image here. (each_now image here).0)));
    }

-- ---- a new hall

module _ {S : Type 0} (told : S → Option History) (moment : S → ℕ) (faults : S → ℕ → ℕ) (clock : (s : S) → IfSome (told s) (λ h. now h ≡ moment s)) where
  module _ (hall : Hall S) (fresh : IsNewHall (moment hall.store) hall.held) (valid : is_valid hall.held.base ≡ true) (tied : IsTied hall.held.base) where
    -- the machine, where its objects have these bytes
    abbrev machine_with : (contents : ℕ → List ℕ) → Machine
    machine_with contents = record { core = new_core hall.held; contents = contents; moment = moment hall.store; counts = faults hall.store }

    is_with : (contents : ℕ → List ℕ) → AllByRecursion (λ w. length (contents w.object) ≡ w.size) (versions hall.held.base)
        → IfSome (told hall.store) (λ h. WasSound hall.held.base hall.held.opened h → IsKept (machine_with contents) hall.held h) → Is told moment faults hall (machine_with contents)
    is_with contents sized kept = record {
      core = new_is (moment hall.store) hall.held fresh;
      clock = refl;
      counts = refl;
      good = record {
        lawful = record { valid = valid; tied = tied; legal = λ i e at. absurd cc; short = tt };
        stamped = record { few = omega arith; rise = omega (arith, fresh.opened); waiting = λ running. tt };
        space = record { filled = tt; clear = tt; apart = refl };
        numbers = new_numbers hall.held valid;
        bytes = record { sized = sized; fronts = tt };
        listed = λ none. tt;
        kept = kept;
      };
    }

    -- where the store tells, its moment is that of the opening
    opened_at : (h : History) → now h ≡ moment hall.store → now h ≡ hall.held.opened
    opened_at h at = at ∙ sym fresh.opened

    good_at : (contents : ℕ → List ℕ) (h : History) → now h ≡ moment hall.store → (vault.IsSound meaning h → IsGoodVault meaning hall.held.vault h) → IsSoundWith contents hall.held.base hall.held.opened h
        → IsGoodVault meaning hall.held.vault h
    good_at contents h at good sound = good (λ files here. (hall.held.base, (sound files (subst (λ n. ImageAt h n files) (opened_at h at) here)).0))

    kept_at : (contents : ℕ → List ℕ) (h : History) → now h ≡ moment hall.store → (vault.IsSound meaning h → IsGoodVault meaning hall.held.vault h) → IsSoundWith contents hall.held.base hall.held.opened h
        → IsKept (machine_with contents) hall.held h
    kept_at contents h at good sound = new_kept contents (faults hall.store) hall.held h (moment hall.store) fresh (opened_at h at) (good_at contents h at good sound) sound

    read_at : (contents : ℕ → List ℕ) (h : History) → now h ≡ moment hall.store → IsSoundWith contents hall.held.base hall.held.opened h → Holds contents (reads h) hall.held.base
    read_at contents h at sound = (sound (reads h) (subst (λ n. ImageAt h n (reads h)) (opened_at h at) (image_reads h))).1

    chosen_kept : (o : Option History) → IfSome o (λ h. now h ≡ moment hall.store) → IfSome o (λ h. vault.IsSound meaning h → IsGoodVault meaning hall.held.vault h)
        → IfSome o (λ h. WasSound hall.held.base hall.held.opened h → IsKept (machine_with (chosen o hall.held.base)) hall.held h)
    chosen_kept None at good = tt
    chosen_kept (Some h) at good = λ was.
        kept_at (chosen (Some h) hall.held.base) h at good (chosen_sound h was.0 hall.held.base valid (read_at was.0 h at was.1) hall.held.opened was.1)

    -- whatever the store tells
    begins : IfSome (told hall.store) (λ h. vault.IsSound meaning h → IsGoodVault meaning hall.held.vault h) → (m : Machine) × Is told moment faults hall m
    begins good =
        let contents : ℕ → List ℕ = chosen (told hall.store) hall.held.base in
        (machine_with contents, is_with contents (chosen_sized (told hall.store) hall.held.base valid) (chosen_kept (told hall.store) (clock hall.store) good))

    -- over a store that was sound before
    with_kept : (contents : ℕ → List ℕ) (o : Option History) → IfSome o (λ h. now h ≡ moment hall.store) → IfSome o (λ h. vault.IsSound meaning h → IsGoodVault meaning hall.held.vault h)
        → IfSome o (IsSoundWith contents hall.held.base hall.held.opened) → IfSome o (λ h. WasSound hall.held.base hall.held.opened h → IsKept (machine_with contents) hall.held h)
    with_kept contents None at good sound = tt
    with_kept contents (Some h) at good sound = λ was. kept_at contents h at good sound

    begins_with : (contents : ℕ → List ℕ) → AllByRecursion (λ w. length (contents w.object) ≡ w.size) (versions hall.held.base)
        → IfSome (told hall.store) (λ h. vault.IsSound meaning h → IsGoodVault meaning hall.held.vault h) → IfSome (told hall.store) (IsSoundWith contents hall.held.base hall.held.opened)
        → IsWith told moment faults contents hall
    begins_with contents sized good sound =
        (machine_with contents, refl, is_with contents sized (with_kept contents (told hall.store) (clock hall.store) good sound), sound)

    -- ---- behind the vault's opening

    sound_at : (contents : ℕ → List ℕ) (before after : History) → now after ≡ moment hall.store → (let result : Result (State Inv) OpenRefused = Ok hall.held.vault in Opened meaning result before after)
        → IsSound contents before → IsSoundWith contents hall.held.base hall.held.opened after
    sound_at contents before after at opened sound image here =
        let one = sound_behind contents before after sound hall.held.vault opened image (subst (λ n. ImageAt after n image) (sym (opened_at after at)) here) in
        (subst (λ v. RecoversWithin meaning image v) (sym fresh.base) one.0, subst (λ v. Holds contents image v) (sym fresh.base) one.1)

    opens_over : (b a : Option History) → IfSome a (λ h. now h ≡ moment hall.store) → (let result : Result (State Inv) OpenRefused = Ok hall.held.vault in Told b a (Opened meaning result))
        → IfSome b (λ h. (contents : ℕ → List ℕ) → IsSound contents h
        → AllByRecursion (λ w. length (contents w.object) ≡ w.size) (versions hall.held.base) × IfSome a (IsSoundWith contents hall.held.base hall.held.opened))
    opens_over None a at files = tt
    opens_over (Some before) None at files = absurd files
    opens_over (Some before) (Some after) at files = λ contents sound.
        let is : IsSoundWith contents hall.held.base hall.held.opened after = sound_at contents before after at files sound in
        (each_also (λ w. HasVersion (InImage (reads after)) (contents w.object) w) (λ w. length (contents w.object) ≡ w.size) (versions hall.held.base) (λ w has. has.size) (read_at contents after at is), is)

    opens_with : (o : Option History) → IfSome (told hall.store) (λ h. vault.IsSound meaning h → IsGoodVault meaning hall.held.vault h)
        → IfSome o (λ h. (contents : ℕ → List ℕ) → IsSound contents h
        → AllByRecursion (λ w. length (contents w.object) ≡ w.size) (versions hall.held.base) × IfSome (told hall.store) (IsSoundWith contents hall.held.base hall.held.opened))
        → IfSome o (λ h. (contents : ℕ → List ℕ) → IsSound contents h → IsWith told moment faults contents hall)
    opens_with None good over = tt
    opens_with (Some h) good over = λ contents sound. let both = over contents sound in begins_with contents both.0 good both.1

    good_now : (b a : Option History) → (let result : Result (State Inv) OpenRefused = Ok hall.held.vault in Told b a (Opened meaning result)) → IfSome a (λ h. vault.IsSound meaning h
        → IsGoodVault meaning hall.held.vault h)
    good_now None None files = tt
    good_now None (Some after) files = absurd files
    good_now (Some before) None files = absurd files
    good_now (Some before) (Some after) files = files.good_now

    module _ (store : S) (files : (let result : Result (State Inv) OpenRefused = Ok hall.held.vault in Told (told store) (told hall.store) (Opened meaning result))) where
      pub is_opened : (m : Machine) × Is told moment faults hall m
      is_opened = begins (good_now (told store) (told hall.store) files)

      pub is_new : (let result : Result (Hall S) (S × OpenRefused) = Ok hall in Opens told moment faults store result)
      is_new = (fresh, is_opened, opens_with (told store) (good_now (told store) (told hall.store) files) (opens_over (told store) (told hall.store) (clock hall.store) files))

  -- ---- as the hall's parts say it

  module _ (store left : S) (held : Held) (at : ℕ) (found : State Inv) (is : at ≡ moment left) (fresh : IsNewHall at held) (same : held.vault ≡ found) (valid : is_valid held.base ≡ true) (tied : IsTied held.base)
      (files : (let result : Result (State Inv) OpenRefused = Ok found in Told (told store) (told left) (Opened meaning result))) where
    abbrev hall_of : Hall S
    hall_of = record { store = left; held = held }

    begun_files : (let result : Result (State Inv) OpenRefused = Ok held.vault in Told (told store) (told left) (Opened meaning result))
    begun_files = subst (λ (v : State Inv). let result : Result (State Inv) OpenRefused = Ok v in Told (told store) (told left) (Opened meaning result)) (sym same) files

    begun_new : IsNewHall (moment left) held
    begun_new = subst (λ n. IsNewHall n held) is fresh

    pub begun_good : (m : Machine) × Is told moment faults hall_of m
    begun_good = is_opened hall_of begun_new valid tied store begun_files

    pub begun_opens : (let result : Result (Hall S) (S × OpenRefused) = Ok hall_of in Opens told moment faults store result)
    begun_opens = is_new hall_of begun_new valid tied store begun_files

    pub begun_told : (let result : Result (State Inv) OpenRefused = Ok held.vault in Told (told store) (told left) (OpensFiles result))
    begun_told = let result : Result (State Inv) OpenRefused = Ok held.vault in told_opened result (told store) (told left) begun_files
