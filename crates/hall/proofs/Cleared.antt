-- What is kept while a file is cut on which nothing lies, and where transactions have later stamps.
use Rattle.std.proofs.Common.{◌≡◌, inl, inr, ℕ, ◌+◌, ◌-◌, ◌≤◌, suc, zero, Bool, true, false, List, [], ◌∷◌, ◌++◌, is_some, length, take, drop, replicate, Option, Some, None, Result, Ok, Err, refl, sym, ap, subst, ◌∙◌, if◌then◌else◌, nat_le, arith}
use Rattle.std.specs.List.{AllByRecursion, flat_map}
use Rattle.std.proofs.lemmas.Bool.{cases_lt, false≢true, le-leb, leb-true}
use Rattle.kinds.specs.declared.refusal.Refusal.{Refusal}
use Rattle.kinds.specs.declared.segment.Segment.{Segment}
use Rattle.store_api.specs.Disk.{Call, History, ImageAt, Leaves, now, reads}
use Rattle.store_api.specs.Runs.{EachImage, GoesOn, OnlyOn, Stands}
use Rattle.store_api.specs.Told.{Adds, MayCut, Told}
use Rattle.store_api.specs.declared.store.Failed.{Failed}
use Rattle.store_api.proofs.Pieces.{firm_beside}
use Rattle.store_api.proofs.Runs.{goes_image_before, goes_later, goes_none, goes_standing, told_map, told_then}
use Rattle.volume_frames.specs.Frames.{frame_header}
use Rattle.contents.specs.Contents.{HasAll, HaveAll, Holds, InImage, InStore, TookHave}
use Rattle.contents.proofs.Kept.{beside, beside_since}
use Rattle.contents.proofs.Segments.{Carries, EachSegment, frames_carried}
use Rattle.db_image.specs.Steps.{Job}
use Rattle.inventory.specs.Meant.{meaning}
use Rattle.inventory_laws.proofs.Lists.{each_also}
use Rattle.inventory_rows.specs.volume_rows.declared.volume.Volume.{Volume}
use Rattle.inventory_rows.specs.pool_tables.Rows.{row_at}
use Rattle.inventory_rows.specs.Search.{versions}
use Rattle.inventory_rows.specs.State.{Inv}
use Rattle.inventory_rules.specs.Backups.{backup_at}
use Rattle.log_file.specs.Safety.{acknowledged}
use Rattle.vault.specs.Files.{IsOurs}
use Rattle.vault.specs.Recovery.{RecoversWithin}
use Rattle.vault.specs.Vaults.{Forces, IsHeld, IsPending, State, all_forced}
use Rattle.vault.proofs.Goodness.{held_beside, held_since}
use Rattle.machine.specs.Machine.{durable}
use Rattle.machine.specs.State.{Core, Image, Machine, Ticket, after, inventory, object_of}
use Rattle.hall.specs.Covered.{covered, databases, inv_at, left_open}
use Rattle.hall.specs.Good.{AllInProgress, HasTaken, IsKept, IsSafe, RecoversToOne, StandsOn}
use Rattle.hall.specs.Held.{Held}
use Rattle.hall.specs.Protected.{HadBackups, KeepsAllBackups}
use Rattle.hall.specs.Reusing.{Clears, Empties}
use Rattle.hall.proofs.BackupsAlike.{restamped_keeps}
use Rattle.hall.proofs.Covering.{all_each}
use Rattle.hall.proofs.Databases.{first_left}
use Rattle.hall.proofs.Forcing.{underway_same}
use Rattle.hall.proofs.Stamping.{few_acknowledged}

-- ---- calls

-- a file, where its volume is gone
abbrev pub IsCleared : (file : ℕ) → Option Volume → ℕ → Type 0
IsCleared file o other = (other ≡ file) × (o ≡ None)

one_cut : (file : ℕ) (result : Result (Unit {0}) Failed) (call : Call) → MayCut file 0 result call → OnlyOn (IsCleared file None) (call ∷ [])
one_cut file (Ok done) call is = subst (λ c. OnlyOn (IsCleared file None) (c ∷ [])) (sym is) ((refl, refl), tt)
one_cut file (Err failed) call (inl is) = subst (λ c. OnlyOn (IsCleared file None) (c ∷ [])) (sym is) tt
one_cut file (Err failed) call (inr cut) = subst (λ c. OnlyOn (IsCleared file None) (c ∷ [])) (sym cut.2) ((refl, refl), tt)

-- clearing a file changes that alone, and only where its volume is gone
pub clears_goes : (file : ℕ) (o : Option Volume) (old new : History) → Clears file o old new → GoesOn (IsCleared file o) old new
clears_goes file (Some volume) old new same = subst (GoesOn (IsCleared file (Some volume)) old) (sym same) (goes_none (IsCleared file (Some volume)) old)
clears_goes file None old new (result, (call, may, grew)) = record { calls = call ∷ []; grew = grew; only = one_cut file result call may }

-- the volume is there
pub there_stays : (told : Option History) (file : ℕ) (o : Option Volume) (r : Bool) → r ≡ is_some o → r ≡ true → Told told told (Clears file o)
there_stays None file o r is there = tt
there_stays (Some h) file None r is there = absurd (false≢true (sym is ∙ there))
there_stays (Some h) file (Some volume) r is there = refl

-- it is gone
pub gone_cut : (old new : Option History) (file : ℕ) (o : Option Volume) (r : Bool) → r ≡ is_some o → r ≡ false → (result : Result (Unit {0}) Failed) → Told old new (Adds (MayCut file 0 result)) → Told old new (Clears file o)
gone_cut old new file None r is gone result did = told_map old new (Adds (MayCut file 0 result)) (Clears file None) (λ h n adds. (result, adds)) did
gone_cut old new file (Some volume) r is gone result did = absurd (false≢true (sym gone ∙ is))

-- all was forced, and then the file cleared
pub force_told : (file : ℕ) (vault next last : State Inv) (number : ℕ) (a b c : Option History) → Told a b (Forces {T = ℕ} {E = Refusal} meaning vault (Ok number) next) → next ≡ all_forced vault → last ≡ next → (o : Option Volume)
    → o ≡ row_at file next.database.stores.volumes → Told b c (Clears file o) → Told a c (Empties file (Ok number) vault last)
force_told file vault next last number a b c forced is same o row cleared =
    told_then a b c (Forces {T = ℕ} {E = Refusal} meaning vault (Ok number) next) (Clears file o) (Empties file (Ok number) vault last)
    (λ h m n f clears. (
      m,
      subst (λ (v : State Inv). Forces {T = ℕ} {E = Refusal} meaning vault (Ok number) v h m) (sym same) f,
      subst (λ (o : Option Volume). Clears file o m n) (row ∙ ap (λ (v : State Inv). row_at file v.database.stores.volumes) is) clears,
    )) forced cleared

-- ---- other files were changed than those on which anything lies

module _ (m : Machine) (held : Held) (h new : History) (theirs : ℕ → Type 0) (goes : GoesOn theirs h new) (k : IsKept m held h)
    (not_ours : (file : ℕ) → IsOurs file → ¬ theirs file)
    (copies : EachSegment (λ s. ¬ theirs s.file) (covered m.core))
    (tickets : AllByRecursion (λ t. AllByRecursion (λ s. ¬ theirs s.file) t.place.segments) m.core.tickets)
    (backups : (file : ℕ) → is_some (backup_at file (inventory m.core)) ≡ true → ¬ theirs file)
    (running : m.core.fault ≡ None) (few : length m.core.stamps ≤ length m.core.journal)
    (pends : (snapshot : Inv) → IsPending meaning held.vault snapshot h → IsPending meaning held.vault snapshot new)
    (backed : HadBackups held.base held.opened new → KeepsAllBackups m.core held.opened new held.job) where
  holds_since : EachImage (now h) new (λ image. Holds m.contents image (durable m.core))
  holds_since moment image from to at =
      first_left (HasAll (InImage image) m.contents) m.core (all_each (InImage image) m.contents (left_open m.core) (beside_since theirs m.contents h new (covered m.core) copies goes k.firm moment image from to at))

  recovers_since : EachImage (now h) new (λ files. RecoversWithin meaning files (durable m.core))
  recovers_since = held_since meaning theirs held.vault (durable m.core) h new not_ours goes (k.sure running)

  always_kept : (moment : ℕ) (image : ℕ → List ℕ) → held.opened ≤ moment → moment ≤ now new → ImageAt new moment image → IsSafe m.contents m.core (acknowledged moment m.core.stamps) image
  always_kept moment image from to at = elim (cases_lt moment (now h)) as (λ _. IsSafe m.contents m.core (acknowledged moment m.core.stamps) image) [
    | inl l ↦ let le : moment ≤ now h = omega (arith, l) in k.always moment image from le (goes_image_before theirs h new moment image goes le at)
    | inr g ↦ record {
      last = length m.core.stamps;
      durable = few_acknowledged moment m.core.stamps;
      made = few;
      recovers = recovers_since moment image g to at;
      holds = holds_since moment image g to at;
    }
  ]

  -- ---- tickets

  took_over : (object n : ℕ) (segments : List Segment) (bytes : List ℕ) → AllByRecursion (λ s. ¬ theirs s.file) segments
      → TookHave (InImage (reads h)) object n segments bytes → TookHave (InImage (reads new)) object n segments bytes
  took_over object n [] bytes apart t = t
  took_over object n (s ∷ segments) [] apart t = tt
  took_over object n (s ∷ segments) (byte ∷ bytes) apart t = (
    subst (λ f. Stands f.bytes s.offset (frame_header object n s.len ++ take s.len (byte ∷ bytes))) (sym (goes_standing theirs h new s.file apart.0 goes)) t.0,
    took_over object (suc n) segments (drop s.len (byte ∷ bytes)) apart.1 t.1,
  )

  taken_over : (t : Ticket) → AllByRecursion (λ s. ¬ theirs s.file) t.place.segments → HasTaken held.seats h t → HasTaken held.seats new t
  taken_over t apart taken = record {
    stands = took_over (object_of t.purpose) 0 t.place.segments t.bytes apart taken.stands;
    firm = λ is_sealed. frames_carried (InStore h) (InStore new) (object_of t.purpose) 0 t.place.segments t.bytes
        (each_also (λ s. ¬ theirs s.file) (Carries (InStore h) (InStore new)) t.place.segments (λ s one piece long f. firm_beside theirs h new s.file s.offset piece one goes f) apart)
        (taken.firm is_sealed);
  }

  all_over : (ts : List Ticket) → AllByRecursion (λ t. AllByRecursion (λ s. ¬ theirs s.file) t.place.segments) ts → AllByRecursion (HasTaken held.seats h) ts → AllByRecursion (HasTaken held.seats new) ts
  all_over [] apart taken = tt
  all_over (t ∷ ts) apart taken = (taken_over t apart.0 taken.0, all_over ts apart.1 taken.1)

  -- ---- an image in progress

  stands_over : (job : Option Job) (i : Image) → StandsOn m.core held.vault job i h → StandsOn m.core held.vault job i new
  stands_over None i p = pends (inv_at (i.seq - m.core.base.number) m.core) p
  stands_over (Some job) i p = (p.0, p.1, underway_same job.phase job h new (goes_standing theirs h new job.file (backups job.file p.1) goes) p.2, p.3)

  image_over : (i : Option Image) → AllInProgress m.core held i h → AllInProgress m.core held i new
  image_over None p = tt
  image_over (Some i) p = record { since = p.since; durable = p.durable; stands = stands_over held.job i p.stands }

  pub cleared_kept : IsKept m held new
  cleared_kept = record {
    since = (let later : now h ≤ now new = goes_later theirs h new goes in omega (arith, k.since, later));
    first = λ image at. k.first image (goes_image_before theirs h new held.opened image goes k.since at);
    always = always_kept;
    left = λ files l. k.left files (λ file ours. subst (λ f. Leaves f (files file)) (goes_standing theirs h new file (not_ours file ours) goes) (l file ours));
    sure = λ none. held_beside meaning theirs held.vault (durable m.core) h new not_ours goes (k.sure none);
    firm = beside theirs m.contents h new (covered m.core) copies goes k.firm;
    tickets = all_over m.core.tickets tickets k.tickets;
    image = λ none. image_over m.core.image (k.image none);
    backups = backed;
  }

-- ---- later stamps

fewer_in : (n moment first second : ℕ) → first ≤ second → acknowledged moment (replicate n second) ≤ acknowledged moment (replicate n first)
fewer_in zero moment first second le = omega arith
fewer_in (suc n) moment first second le =
    let rest : acknowledged moment (replicate n second) ≤ acknowledged moment (replicate n first) = fewer_in n moment first second le in
    let one : (if nat_le second moment then 1 else 0) ≤ (if nat_le first moment then 1 else 0) = no_more in
    omega (arith, rest, one)
  where
    no_more : (if nat_le second moment then 1 else 0) ≤ (if nat_le first moment then 1 else 0)
    no_more = elim (nat_le second moment) as (λ b. nat_le second moment ≡ b → (if b then 1 else 0) ≤ (if nat_le first moment then 1 else 0)) [
      | false ↦ λ is. omega arith
      | true ↦ λ is.
          let low : second ≤ moment = leb-true second moment is in
          let counted : nat_le first moment ≡ true = le-leb first moment (omega (arith, low, le)) in
          subst (λ b. 1 ≤ (if b then 1 else 0)) (sym counted) (omega arith)
    ] refl

-- of stamps that end later no moment has reached more
pub fewer_reached : (n moment first second : ℕ) (stamps : List ℕ) → first ≤ second → acknowledged moment (stamps ++ replicate n second) ≤ acknowledged moment (stamps ++ replicate n first)
fewer_reached n moment first second [] le = fewer_in n moment first second le
fewer_reached n moment first second (s ∷ stamps) le =
    let rest : acknowledged moment (stamps ++ replicate n second) ≤ acknowledged moment (stamps ++ replicate n first) = fewer_reached n moment first second stamps le in omega (arith, rest)

module _ (m : Machine) (held : Held) (h : History) (k : IsKept m held h) (stamps own : List ℕ) (same : length m.core.stamps ≡ length stamps)
    (fewer : (moment : ℕ) → acknowledged moment stamps ≤ acknowledged moment m.core.stamps) where
  abbrev next : Core
  next = record m.core { stamps = stamps }

  durable_same : durable m.core ≡ durable next
  durable_same = ap (λ n. after m.core.base (take n m.core.journal)) same

  covered_same : covered m.core ≡ covered next
  covered_same = ap (λ n. flat_map versions (databases (after m.core.base (take n m.core.journal)) (drop n m.core.journal))) same

  safe_same : (moment : ℕ) (image : ℕ → List ℕ) → IsSafe m.contents m.core (acknowledged moment m.core.stamps) image → IsSafe m.contents next (acknowledged moment stamps) image
  safe_same moment image s = record {
    last = s.last;
    durable = (let less = fewer moment in let more = s.durable in omega (arith, less, more));
    made = s.made;
    recovers = s.recovers;
    holds = s.holds;
  }

  image_same : (i : Option Image) → AllInProgress m.core held i h → AllInProgress next (record held { stamps = own }) i h
  image_same None p = tt
  image_same (Some i) p = record { since = p.since; durable = omega (arith, p.durable, same); stands = stands_same held.job p.stands } where
    stands_same : (job : Option Job) → StandsOn m.core held.vault job i h → StandsOn next held.vault job i h
    stands_same None s = s
    stands_same (Some job) s = s

  pub later_stamps : (moment : ℕ) (counts : ℕ → ℕ) → IsKept (record m { core = next; moment = moment; counts = counts }) (record held { stamps = own }) h
  later_stamps moment counts = record {
    since = k.since;
    first = k.first;
    always = λ at image from to it. safe_same at image (k.always at image from to it);
    left = λ files l. (let one : RecoversToOne m.core files = k.left files l in (one.0, omega (arith, one.1, same), one.2, one.3));
    sure = λ none. subst (λ v. IsHeld meaning held.vault v h) durable_same (k.sure none);
    firm = subst (HaveAll (InStore h) m.contents) covered_same k.firm;
    tickets = k.tickets;
    image = λ none. image_same m.core.image (k.image none);
    backups = λ had. restamped_keeps h m.core stamps same held.opened held.job (k.backups had);
  }
