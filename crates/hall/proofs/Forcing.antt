-- Every transaction is forced, and has a stamp; or the log failed, and the hall halts.
use Rattle.std.proofs.Common.{◌≡◌, inl, inr, ℕ, ◌+◌, ◌-◌, ◌≤◌, List, [], ◌∷◌, ◌++◌, length, take, replicate, Option, Some, None, refl, sym, ap, subst, ◌∙◌, arith}
use Rattle.std.specs.List.{AllByRecursion, flat_map}
use Rattle.std.proofs.lemmas.Bool.{cases_lt}
use Rattle.std.proofs.lemmas.List.{length-append, length-drop, length-replicate, take_all}
use Rattle.store_api.specs.Disk.{History, ImageAt, now, standing}
use Rattle.store_api.specs.Runs.{EachImage, Firm, GoesOn, Stands}
use Rattle.store_api.proofs.Runs.{goes_image_before, goes_later, goes_standing, goes_weaker}
use Rattle.contents.specs.Contents.{HasAll, HasVersion, HaveAll, Holds, InImage, InStore}
use Rattle.db_image.specs.declared.phase.Phase.{Phase}
use Rattle.db_image.specs.declared.phase.Phase.TheVariants.{Begun, Written, Durable, Open, Failed}
use Rattle.db_image.specs.Images.{head_bytes, body_bytes, image_bytes}
use Rattle.db_image.specs.Steps.{CanShut, FirmShut, Job, UnderwayAs}
use Rattle.inventory.specs.Meant.{meaning}
use Rattle.inventory_rows.specs.Search.{versions}
use Rattle.inventory_rows.specs.State.{Inv}
use Rattle.inventory_laws.proofs.Lists.{each_also}
use Rattle.log_file.specs.Safety.{acknowledged}
use Rattle.vault.specs.Files.{IsOurs, log_file}
use Rattle.vault.specs.Recovery.{RecoversWithin}
use Rattle.vault.specs.Vaults.{IsGood, IsHeld, IsLeft, IsPending, RecoversToEither, State, all_forced}
use Rattle.vault.proofs.Committing.{good_held}
use Rattle.vault.proofs.Goodness.{good_image, log_ours}
use Rattle.vault.proofs.Leaving.{good_is}
use Rattle.machine.specs.Machine.{durable, halting, stamped}
use Rattle.machine.specs.State.{Core, Image, Machine, after, inventory, unforced}
use Rattle.hall.specs.Covered.{IsVolume, NumbersAreDrawn, covered, inv_at, left_open}
use Rattle.hall.specs.Good.{AllInProgress, HasTaken, IsKept, IsLawful, IsSafe, IsSoundWith, RecoversToOne, StandsOn}
use Rattle.hall.specs.Held.{BegunImage, Held, IsCore}
use Rattle.hall.specs.Protected.{HadBackups, KeepsAllBackups}
use Rattle.hall.specs.Seats.{all_stamped, with_vault}
use Rattle.hall.proofs.BackupsAlike.{halted_keeps, same_keeps, stamped_keeps}
use Rattle.hall.proofs.BackupsSpared.{had_before, open_either, vault_keeps}
use Rattle.hall.proofs.Beside.{all_taken_beside, covered_beside, covered_since}
use Rattle.hall.proofs.Covering.{all_each}
use Rattle.hall.proofs.Databases.{all_durable, each_covered, first_left, last_left, left_alone, left_lawful}
use Rattle.hall.proofs.Stamping.{acknowledged_before, few_acknowledged}

-- ---- numbers of stamps

pub all_have_stamps : (moment : ℕ) (c : Core) → length c.stamps ≤ length c.journal → length (stamped moment c).stamps ≡ length (stamped moment c).journal
all_have_stamps moment c few =
    let more : length (replicate (length (unforced c)) moment) ≡ length (unforced c) = length-replicate (length (unforced c)) moment in
    let left : length (unforced c) ≡ length c.journal - length c.stamps = length-drop (length c.stamps) c.journal in
    let all : length (c.stamps ++ replicate (length (unforced c)) moment) ≡ length c.stamps + length (replicate (length (unforced c)) moment) = length-append c.stamps
    (replicate (length (unforced c)) moment) in
    omega (arith, more, left, all, few)

-- ---- files of tickets

pub files_from : (c : Core) → NumbersAreDrawn c → AllByRecursion (λ t. AllByRecursion (λ s. 4 ≤ s.file) t.place.segments) c.tickets
files_from c n =
    each_also (λ t. AllByRecursion (λ s. IsVolume c s.file) t.place.segments) (λ t. AllByRecursion (λ s. 4 ≤ s.file) t.place.segments) c.tickets
    (λ t all. each_also (λ s. IsVolume c s.file) (λ s. 4 ≤ s.file) t.place.segments (λ s v. v.0) all) n.files

-- ---- what is kept over the run

-- a vault's own file is one of its files
pub ours_alone : (generation : ℕ) (h new : History) → GoesOn (λ file. file ≡ log_file generation) h new → GoesOn IsOurs h new
ours_alone generation h new goes = goes_weaker (λ file. file ≡ log_file generation) IsOurs h new (λ file e. subst IsOurs (sym e) (log_ours generation)) goes

-- ---- images

whole_at : (c : Core) → inv_at (length c.journal) c ≡ inventory c
whole_at c = ap (after c.base) (take_all (length c.journal) c.journal (omega arith))

whole_safe : (contents : ℕ → List ℕ) (c : Core) (count : ℕ) (image : ℕ → List ℕ) → count ≤ length c.journal → RecoversWithin meaning image (inventory c) → Holds contents image (inventory c)
    → IsSafe contents c count image
whole_safe contents c count image low r holds = record {
  last = length c.journal;
  durable = low;
  made = omega arith;
  recovers = subst (λ v. RecoversWithin meaning image v) (sym (whole_at c)) r;
  holds = subst (λ v. Holds contents image v) (sym (whole_at c)) holds;
}

-- an image that has what was durable, or all that was committed
either_safe : (contents : ℕ → List ℕ) (c : Core) (database : Inv) (count : ℕ) (image : ℕ → List ℕ) → database ≡ inventory c → length c.stamps ≤ length c.journal → count ≤ length c.stamps
    → AllByRecursion (HasAll (InImage image) contents) (left_open c) → RecoversToEither meaning (durable c) database image → IsSafe contents c count image
either_safe contents c database count image is few low holds (inl r) = record {
  last = length c.stamps;
  durable = low;
  made = few;
  recovers = r;
  holds = first_left (HasAll (InImage image) contents) c holds;
}
either_safe contents c database count image is few low holds (inr r) =
    whole_safe contents c count image (omega (arith, low, few)) (subst (λ v. RecoversWithin meaning image v) is r) (last_left (HasAll (InImage image) contents) c holds)

either_one : (c : Core) (database : Inv) (files : ℕ → List ℕ) → database ≡ inventory c → length c.stamps ≤ length c.journal → RecoversToEither meaning (durable c) database files
    → RecoversToOne c files
either_one c database files is few (inl r) = (length c.stamps, omega arith, few, r)
either_one c database files is few (inr r) = (length c.journal, few, omega arith, subst (λ v. RecoversWithin meaning files v) (is ∙ sym (whole_at c)) r)

safe_stamped : (t : ℕ) (contents : ℕ → List ℕ) (c : Core) (count : ℕ) (image : ℕ → List ℕ) → IsSafe contents c count image → IsSafe contents (stamped t c) count image
safe_stamped t contents c count image s = record { last = s.last; durable = s.durable; made = s.made; recovers = s.recovers; holds = s.holds }

-- the state with this image in progress, this generation, and a log of this length
abbrev pub imaged : Option Image → (generation long : ℕ) → Core → Core
imaged i generation long c = record c { image = i; generation = generation; log_length = long }

safe_imaged : (i : Option Image) (generation long : ℕ) (contents : ℕ → List ℕ) (c : Core) (count : ℕ) (image : ℕ → List ℕ) → IsSafe contents c count image
    → IsSafe contents (imaged i generation long c) count image
safe_imaged i generation long contents c count image s = record { last = s.last; durable = s.durable; made = s.made; recovers = s.recovers; holds = s.holds }

safe_halting : (file faults : ℕ) (contents : ℕ → List ℕ) (c : Core) (count : ℕ) (image : ℕ → List ℕ) → IsSafe contents c count image → IsSafe contents (halting file faults c) count image
safe_halting file faults contents c count image s = record { last = s.last; durable = s.durable; made = s.made; recovers = s.recovers; holds = s.holds }

-- ---- images in progress

pub underway_same : (phase : Phase) (job : Job) (h new : History) → standing new job.file ≡ standing h job.file → UnderwayAs phase job h → UnderwayAs phase job new
underway_same Begun job h new same u = subst (λ s. CanShut s) (sym same) u
underway_same (Written done) job h new same u = subst (λ s. FirmShut s × Stands s.bytes 1 (head_bytes job.mark job.number (length job.payload) ++ take done job.payload)) (sym same) u
underway_same Durable job h new same u = subst (λ s. FirmShut s × Firm s 1 (body_bytes job.mark job.number job.payload)) (sym same) u
underway_same Open job h new same u = subst (λ s. Firm s 0 (image_bytes job.mark job.number job.payload)) (sym same) u
underway_same Failed job h new same u = tt

some_none : {A : Type 0} {x : A} → Some x ≡ None → ⊥
some_none h = absurd cc

-- ---- what is kept over the run

module _ (m : Machine) (held : Held) (h new : History) (goes : GoesOn IsOurs h new) (is : IsCore held m.core) (k : IsKept m held h)
    (lawful : IsLawful m.core) (few : length m.core.stamps ≤ length m.core.journal) (numbers : NumbersAreDrawn m.core)
    (since : EachImage (now h) new (RecoversToEither meaning (durable m.core) held.vault.database)) where
  first_over : IsSoundWith m.contents m.core.base held.opened new
  first_over image at = k.first image (goes_image_before IsOurs h new held.opened image goes k.since at)

  later : held.opened ≤ now new
  later = let after : now h ≤ now new = goes_later IsOurs h new goes in omega (arith, k.since, after)

  -- the backups of the base, before the run
  had_over : HadBackups held.base held.opened new → HadBackups held.base held.opened h
  had_over had = had_before IsOurs held.base held.opened h new goes k.since had

  -- all backups are kept over the run
  backups_over : HadBackups held.base held.opened new → KeepsAllBackups m.core held.opened new held.job
  backups_over had = vault_keeps h new m.core held.opened (open_either m.core held.vault.database (now h) new is.database since) goes held.job (k.backups (had_over had))

  held_since : EachImage (now h) new (λ image. AllByRecursion (HasAll (InImage image) m.contents) (left_open m.core))
  held_since = covered_since h new goes m.contents (left_open m.core) (left_lawful m.core lawful) k.firm

  covered_over : HaveAll (InStore new) m.contents (covered m.core)
  covered_over = covered_beside h new goes m.contents (left_open m.core) (left_lawful m.core lawful) k.firm

  taken_over : AllByRecursion (HasTaken held.seats new) m.core.tickets
  taken_over = all_taken_beside h new goes held.seats m.core.tickets (files_from m.core numbers) k.tickets

  -- at every moment of the run, and before it
  safe_over : (moment : ℕ) (image : ℕ → List ℕ) → held.opened ≤ moment → moment ≤ now new → ImageAt new moment image → IsSafe m.contents m.core (acknowledged moment m.core.stamps) image
  safe_over moment image a b at = elim (cases_lt moment (now h)) as (λ _. IsSafe m.contents m.core (acknowledged moment m.core.stamps) image) [
    | inl l ↦ let le : moment ≤ now h = omega (arith, l) in k.always moment image a le (goes_image_before IsOurs h new moment image goes le at)
    | inr g ↦ either_safe m.contents m.core held.vault.database (acknowledged moment m.core.stamps) image is.database few (few_acknowledged moment m.core.stamps) (held_since moment image g b at)
        (since moment image g b at)
  ]

  -- a fault of the log halted the hall
  pub halted_kept : (file count : ℕ) (vault : State Inv) (counts : ℕ → ℕ) (moment : ℕ) → IsLeft (RecoversToEither meaning (durable m.core) held.vault.database) new
      → IsKept (record m { core = halting file count m.core; moment = moment; counts = counts }) (with_vault vault held) new
  halted_kept file count vault counts moment left = record {
    since = later;
    first = first_over;
    always = λ at image a b it. safe_halting file count m.contents m.core (acknowledged at m.core.stamps) image (safe_over at image a b it);
    left = λ files l. either_one m.core held.vault.database files is.database few (left files l);
    sure = λ none. absurd (some_none none);
    firm = covered_over;
    tickets = taken_over;
    image = λ none. absurd (some_none none);
    backups = λ had. halted_keeps new m.core file count held.opened held.job (backups_over had);
  }

  -- a checkpoint goes on, and nothing more is durable
  pub further_kept : (next : State Inv) (i : Option Image) (generation long : ℕ) (counts : ℕ → ℕ) (moment : ℕ) → IsLeft (RecoversToEither meaning (durable m.core) held.vault.database) new
      → IsHeld meaning next (durable m.core) new
      → AllInProgress (imaged i generation long m.core) (with_vault next held) i new
      → IsKept (record m { core = imaged i generation long m.core; moment = moment; counts = counts }) (with_vault next held) new
  further_kept next i generation long counts moment left sure progress = record {
    since = later;
    first = first_over;
    always = λ at image a b it. safe_imaged i generation long m.contents m.core (acknowledged at m.core.stamps) image (safe_over at image a b it);
    left = λ files l. either_one m.core held.vault.database files is.database few (left files l);
    sure = λ none. sure;
    firm = covered_over;
    tickets = taken_over;
    image = λ none. progress;
    backups = λ had. same_keeps new m.core m.core.tickets m.core.next_file m.core.next_object m.core.next_ticket i generation long held.opened held.job (backups_over had);
  }

  -- all is forced, and has the stamp of the moment that is now
  module _ (t : ℕ) (is_now : now new ≡ t) (next : State Inv) (same : next.database ≡ held.vault.database) (good : IsGood meaning next new) where
    last_firm : HasAll (InStore new) m.contents (inventory m.core)
    last_firm = last_left (HasAll (InStore new) m.contents) m.core (all_each (InStore new) m.contents (left_open m.core) covered_over)

    at_last : (moment : ℕ) (image : ℕ → List ℕ) → moment ≡ now new → ImageAt new moment image → IsSafe m.contents (stamped t m.core) (acknowledged moment (stamped t m.core).stamps) image
    at_last moment image e at =
        let here : ImageAt new (now new) image = subst (λ n. ImageAt new n image) e at in
        let counted : acknowledged moment (stamped t m.core).stamps ≤ length (stamped t m.core).stamps = few_acknowledged moment (stamped t m.core).stamps in
        let from : now h ≤ moment = let after : now h ≤ now new = goes_later IsOurs h new goes in omega (arith, after, e) in
        let full = all_have_stamps t m.core few in
        whole_safe m.contents (stamped t m.core) (acknowledged moment (stamped t m.core).stamps) image (omega (arith, counted, full))
        (subst (λ v. RecoversWithin meaning image v) (same ∙ is.database) (good_image meaning next new image good here))
        (last_left (HasAll (InImage image) m.contents) m.core (held_since moment image from (omega (arith, e)) at))

    always_over : (moment : ℕ) (image : ℕ → List ℕ) → held.opened ≤ moment → moment ≤ now new → ImageAt new moment image
        → IsSafe m.contents (stamped t m.core) (acknowledged moment (stamped t m.core).stamps) image
    always_over moment image a b at = elim (cases_lt moment (now new)) as (λ _. IsSafe m.contents (stamped t m.core) (acknowledged moment (stamped t m.core).stamps) image) [
      | inl l ↦ subst (λ n. IsSafe m.contents (stamped t m.core) n image) (sym (acknowledged_before (length (unforced m.core)) moment t m.core.stamps (omega (arith, l, is_now))))
          (safe_stamped t m.contents m.core (acknowledged moment m.core.stamps) image (safe_over moment image a b at))
      | inr g ↦ at_last moment image (omega (arith, b, g)) at
    ]

    -- whatever image is in progress then
    pub stamped_kept : (i : Option Image) (generation long : ℕ) (b : Option BegunImage) (counts : ℕ → ℕ)
        → (m.core.fault ≡ None → AllInProgress (imaged i generation long (stamped t m.core)) (record (all_stamped t (with_vault next held)) { image = b }) i new)
        → IsKept (record m { core = imaged i generation long (stamped t m.core); moment = t; counts = counts }) (record (all_stamped t (with_vault next held)) { image = b }) new
    stamped_kept i generation long b counts progress = record {
      since = later;
      first = first_over;
      always = λ at image from to it. safe_imaged i generation long m.contents (stamped t m.core) (acknowledged at (stamped t m.core).stamps) image (always_over at image from to it);
      left = λ files l. (
        length m.core.journal,
        (let full = all_have_stamps t m.core few in omega (arith, full)),
        omega arith,
        subst (λ v. RecoversWithin meaning files v) (same ∙ is.database ∙ sym (whole_at m.core)) (good_is meaning next new good files l),
      );
      sure = λ none. subst (λ v. IsHeld meaning next v new) (same ∙ is.database ∙ sym (all_durable (stamped t m.core) (all_have_stamps t m.core few))) (good_held meaning next new good);
      firm = subst (λ (l : List Inv). HaveAll (InStore new) m.contents (flat_map versions l)) (sym (left_alone (stamped t m.core) (all_have_stamps t m.core few)))
          (each_covered (λ w. HasVersion (InStore new) (m.contents w.object) w) (inventory m.core ∷ []) (last_firm, tt));
      tickets = taken_over;
      image = progress;
      backups = λ had. stamped_keeps new t m.core i generation long (all_have_stamps t m.core few) held.opened held.job (backups_over had);
    }

  -- all is forced, and the image in progress is the one before
  module _ (t : ℕ) (is_now : now new ≡ t) (good : IsGood meaning (all_forced held.vault) new)
      (pends : (snapshot : Inv) → IsPending meaning held.vault snapshot h → IsPending meaning (all_forced held.vault) snapshot new) where
    stands_over : (job : Option Job) (i : Image) → StandsOn m.core held.vault job i h → StandsOn (stamped t m.core) (all_forced held.vault) job i new
    stands_over None i s = pends (inv_at (i.seq - m.core.base.number) m.core) s
    stands_over (Some job) i s = (s.0, s.1, underway_same job.phase job h new (goes_standing IsOurs h new job.file (λ ours. omega (arith, s.0, ours)) goes) s.2, s.3)

    progress_over : (i : Option Image) → AllInProgress m.core held i h → AllInProgress (stamped t m.core) (all_stamped t (with_vault (all_forced held.vault) held)) i new
    progress_over None p = tt
    progress_over (Some i) p = record {
      since = p.since;
      durable = let all = all_have_stamps t m.core few in omega (arith, p.durable, all, few);
      stands = stands_over held.job i p.stands;
    }

    pub forced_kept : (counts : ℕ → ℕ) → IsKept (record m { core = stamped t m.core; moment = t; counts = counts }) (all_stamped t (with_vault (all_forced held.vault) held)) new
    forced_kept counts =
        stamped_kept t is_now (all_forced held.vault) refl good m.core.image m.core.generation m.core.log_length held.image counts
        (λ none. progress_over m.core.image (k.image none))
