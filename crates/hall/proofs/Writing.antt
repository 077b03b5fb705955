-- A ticket's frame is written: all that no stop may take away is kept, and what every other ticket took.
use Rattle.std.proofs.Common.{◌≡◌, ◌≢◌, inl, inr, ℕ, ◌+◌, ◌-◌, ◌≤◌, suc, zero, Bool, true, List, [], ◌∷◌, ◌++◌, is_some, length, take, drop, replicate, Option, Some, None, sym, ap, subst, ◌∙◌, arith}
use Rattle.std.specs.List.{AllByRecursion}
use Rattle.std.specs.Prelude.{◌==◌}
use Rattle.std.proofs.lemmas.Bool.{cases_eq, cases_lt, eq-eqb, eqb-true}
use Rattle.std.proofs.lemmas.List.{length-append, length-replicate}
use Rattle.kinds.specs.declared.segment.Segment.{Segment}
use Rattle.store_api.specs.Disk.{History, ImageAt, Leaves, now, reads}
use Rattle.store_api.specs.Runs.{EachImage, GoesOn, IsOutside, Stands, WroteWithin}
use Rattle.store_api.proofs.Runs.{goes_image_before, goes_later, goes_standing, goes_weaker}
use Rattle.volume_frames.specs.Frames.{frame_header}
use Rattle.volume_frames.proofs.Copies.{length-frame_header}
use Rattle.contents.specs.Contents.{HasVersion, HaveAll, Holds, InImage, InStore, IsKept as IsKeptBy, TookHave}
use Rattle.contents.proofs.Kept.{beside_kept, firm_clear, written_since}
use Rattle.contents.proofs.Segments.{Carries, clear_outside, frames_carried}
use Rattle.db_image.specs.Steps.{Job}
use Rattle.inventory.specs.Meant.{meaning}
use Rattle.inventory_laws.proofs.Lists.{each_also, each_both}
use Rattle.inventory_rows.specs.State.{Inv}
use Rattle.inventory_rows.specs.pool_rows.PoolRows.{is_sequential}
use Rattle.inventory_rules.specs.Backups.{backup_at}
use Rattle.inventory_rules.specs.Segments.{are_clear}
use Rattle.log_file.specs.Safety.{acknowledged}
use Rattle.vault.specs.Files.{IsOurs}
use Rattle.vault.specs.Recovery.{RecoversWithin}
use Rattle.vault.specs.Vaults.{IsPending, State}
use Rattle.vault.proofs.Goodness.{held_beside, held_since}
use Rattle.machine.specs.Machine.{durable}
use Rattle.machine.specs.State.{Image, Machine, Ticket, inventory, object_of}
use Rattle.hall.specs.Beside.{IsApart, IsBeside, IsKeptBut}
use Rattle.hall.specs.Covered.{is_beside, covered, inv_at, left_open}
use Rattle.hall.specs.Good.{AllInProgress, HasTaken, IsKept, IsSafe, StandsOn}
use Rattle.hall.specs.Held.{Held}
use Rattle.hall.proofs.Covering.{all_each}
use Rattle.hall.proofs.Databases.{each_covered, first_left}
use Rattle.hall.proofs.Forcing.{underway_same}
use Rattle.hall.proofs.Stamping.{few_acknowledged}

-- what is shorter than the piece is outside the range where the piece is
outside_shorter : (at len place : ℕ) (long short : List ℕ) → length short ≤ length long → IsOutside at len place long → IsOutside at len place short
outside_shorter at len place long short l (inl o) = inl (omega (arith, l, o))
outside_shorter at len place long short l (inr o) = inr o

take_short : (n : ℕ) (l : List ℕ) → length (take n l) ≤ n
take_short zero l = omega arith
take_short (suc n) [] = omega arith
take_short (suc n) (x ∷ l) = let rest : length (take n l) ≤ n = take_short n l in omega (arith, rest)

some_or_none : {A : Type 0} (o : Option A) → is_some o ≡ true → o ≡ None → ⊥
some_or_none None h none = absurd cc
some_or_none (Some x) h none = absurd cc

module _ (m : Machine) (held : Held) (h new : History) (pool number : ℕ) (s : Segment) (k : IsKept m held h) (b : IsBeside m.core pool number s)
    (w : WroteWithin s.file s.offset (32 + s.len) h new)
    (running : m.core.fault ≡ None) (few : length m.core.stamps ≤ length m.core.journal)
    (pends : (snapshot : Inv) → IsPending meaning held.vault snapshot h → IsPending meaning held.vault snapshot new) where
  not_theirs : (file : ℕ) → IsOurs file → ¬ (file ≡ s.file)
  not_theirs file ours same = omega (arith, ours, same, b.volume.0)

  -- ---- copies

  each_kept : AllByRecursion (IsKeptBy m.contents h) (left_open m.core)
  each_kept = all_each (InStore h) m.contents (left_open m.core) k.firm

  still_kept : AllByRecursion (IsKeptBy m.contents new) (left_open m.core)
  still_kept = each_both (IsKeptBy m.contents h) (λ v. is_beside pool s v ≡ true) (IsKeptBy m.contents new) (left_open m.core)
      (λ v kept clear. beside_kept m.contents h new v (is_sequential pool v.stores) s w clear kept) each_kept b.copies

  covered_kept : HaveAll (InStore new) m.contents (covered m.core)
  covered_kept = each_covered (λ x. HasVersion (InStore new) (m.contents x.object) x) (left_open m.core) still_kept

  holds_since : EachImage (now h) new (λ image. Holds m.contents image (durable m.core))
  holds_since = written_since m.contents h new (durable m.core) (is_sequential pool (durable m.core).stores) s w
      (first_left (λ v. is_beside pool s v ≡ true) m.core b.copies) (first_left (IsKeptBy m.contents h) m.core each_kept)

  recovers_since : EachImage (now h) new (λ files. RecoversWithin meaning files (durable m.core))
  recovers_since = held_since meaning (λ file. file ≡ s.file) held.vault (durable m.core) h new not_theirs w.goes (k.sure running)

  always_kept : (moment : ℕ) (image : ℕ → List ℕ) → held.opened ≤ moment → moment ≤ now new → ImageAt new moment image → IsSafe m.contents m.core (acknowledged moment m.core.stamps) image
  always_kept moment image from to at = elim (cases_lt moment (now h)) as (λ _. IsSafe m.contents m.core (acknowledged moment m.core.stamps) image) [
    | inl l ↦ let le : moment ≤ now h = omega (arith, l) in k.always moment image from le (goes_image_before (λ file. file ≡ s.file) h new moment image w.goes le at)
    | inr g ↦ record {
      last = length m.core.stamps;
      durable = few_acknowledged moment m.core.stamps;
      made = few;
      recovers = recovers_since moment image g to at;
      holds = holds_since moment image g to at;
    }
  ]

  -- ---- other tickets

  clear_piece : (r : Segment) (piece : List ℕ) → length piece ≤ 32 + r.len → are_clear (is_sequential pool (inventory m.core).stores) s r ≡ true → IsOutside s.offset (32 + s.len) r.offset piece
  clear_piece r piece short clear =
      let whole : List ℕ = replicate (32 + r.len) 0 in
      let long : length whole ≡ 32 + r.len = length-replicate (32 + r.len) 0 in
      outside_shorter s.offset (32 + s.len) r.offset whole piece (omega (arith, long, short)) (clear_outside (is_sequential pool (inventory m.core).stores) s r whole clear long)

  piece_stays : (r : Segment) (piece : List ℕ) → length piece ≤ 32 + r.len → (r.file ≡ s.file → are_clear (is_sequential pool (inventory m.core).stores) s r ≡ true)
      → Stands (reads h r.file) r.offset piece
      → Stands (reads new r.file) r.offset piece
  piece_stays r piece short clear stands = elim (cases_eq r.file s.file) as (λ _. Stands (reads new r.file) r.offset piece) [
    | inl same ↦ subst (λ n. Stands (reads new n) r.offset piece) (sym same)
        (w.stands r.offset piece (clear_piece r piece short (clear same)) (subst (λ n. Stands (reads h n) r.offset piece) same stands))
    | inr other ↦ subst (λ f. Stands f.bytes r.offset piece) (sym (goes_standing (λ file. file ≡ s.file) h new r.file other w.goes)) stands
  ]

  took_stays : (object n : ℕ) (segments : List Segment) (bytes : List ℕ) → AllByRecursion (IsApart (is_sequential pool (inventory m.core).stores) s) segments
      → TookHave (InImage (reads h)) object n segments bytes → TookHave (InImage (reads new)) object n segments bytes
  took_stays object n [] bytes clear t = t
  took_stays object n (r ∷ segments) [] clear t = tt
  took_stays object n (r ∷ segments) (byte ∷ bytes) clear t =
      let part : List ℕ = take r.len (byte ∷ bytes) in
      let header : List ℕ = frame_header object n r.len in
      let head : length header ≡ 32 = length-frame_header object n r.len in
      let some : length part ≤ r.len = take_short r.len (byte ∷ bytes) in
      let all : length (header ++ part) ≡ length header + length part = length-append header part in
      (piece_stays r (header ++ part) (omega (arith, head, some, all)) clear.0 t.0, took_stays object (suc n) segments (drop r.len (byte ∷ bytes)) clear.1 t.1)

  taken_stays : (t : Ticket) → AllByRecursion (IsApart (is_sequential pool (inventory m.core).stores) s) t.place.segments → HasTaken held.seats h t → HasTaken held.seats new t
  taken_stays t clear taken = record {
    stands = took_stays (object_of t.purpose) 0 t.place.segments t.bytes clear taken.stands;
    firm = λ is_sealed. frames_carried (InStore h) (InStore new) (object_of t.purpose) 0 t.place.segments t.bytes
        (each_also (IsApart (is_sequential pool (inventory m.core).stores) s) (Carries (InStore h) (InStore new)) t.place.segments
        (λ r one. firm_clear (is_sequential pool (inventory m.core).stores) s r h new w one) clear)
        (taken.firm is_sealed);
  }

  others_stay : AllByRecursion (λ t. t.number ≢ number → HasTaken held.seats new t) m.core.tickets
  others_stay = each_both (HasTaken held.seats h) (λ t. t.number ≢ number → AllByRecursion (IsApart (is_sequential pool (inventory m.core).stores) s) t.place.segments)
      (λ t. t.number ≢ number → HasTaken held.seats new t) m.core.tickets
      (λ t taken clear other. taken_stays t (clear other) taken) k.tickets b.others

  -- ---- an image in progress

  other_file : (file : ℕ) → is_some (backup_at file (inventory m.core)) ≡ true → ¬ (file ≡ s.file)
  other_file file listed same = some_or_none (backup_at file (inventory m.core)) listed (ap (λ n. backup_at n (inventory m.core)) same ∙ b.volume.2)

  stands_stays : (job : Option Job) (i : Image) → StandsOn m.core held.vault job i h → StandsOn m.core held.vault job i new
  stands_stays None i p = pends (inv_at (i.seq - m.core.base.number) m.core) p
  stands_stays (Some job) i p = (p.0, p.1, underway_same job.phase job h new (goes_standing (λ file. file ≡ s.file) h new job.file (other_file job.file p.1) w.goes) p.2, p.3)

  image_stays : (i : Option Image) → AllInProgress m.core held i h → AllInProgress m.core held i new
  image_stays None p = tt
  image_stays (Some i) p = record { since = p.since; durable = p.durable; stands = stands_stays held.job i p.stands }

  pub written_beside : IsKeptBut number m held new
  written_beside = record {
    since = (let after : now h ≤ now new = goes_later (λ file. file ≡ s.file) h new w.goes in omega (arith, k.since, after));
    first = λ image at. k.first image (goes_image_before (λ file. file ≡ s.file) h new held.opened image w.goes k.since at);
    always = always_kept;
    left = λ files l. k.left files (λ file ours. subst (λ f. Leaves f (files file)) (goes_standing (λ n. n ≡ s.file) h new file (not_theirs file ours) w.goes) (l file ours));
    sure = λ none. held_beside meaning (λ file. file ≡ s.file) held.vault (durable m.core) h new not_theirs w.goes (k.sure none);
    firm = covered_kept;
    others = others_stay;
    image = λ none. image_stays m.core.image (k.image none);
  }

-- a checkpoint goes on, as the vault says of runs on other files
pub pends_by : (vault : State Inv) (file at len : ℕ) (h new : History) → 4 ≤ file → WroteWithin file at len h new
    → ((theirs : ℕ → Bool) (vault : State Inv) (snapshot : Inv) (old new : History) → ((n : ℕ) → theirs n ≡ true → 4 ≤ n) → GoesOn (λ n. theirs n ≡ true) old new
    → IsPending meaning vault snapshot old → IsPending meaning vault snapshot new)
    → (snapshot : Inv) → IsPending meaning vault snapshot h → IsPending meaning vault snapshot new
pends_by vault file at len h new from w stays snapshot p =
    stays (λ n. n == file) vault snapshot h new (λ n e. subst (λ k. 4 ≤ k) (sym (eqb-true n file e)) from)
    (goes_weaker (λ n. n ≡ file) (λ n. (n == file) ≡ true) h new (λ n e. eq-eqb n file e) w.goes) p
