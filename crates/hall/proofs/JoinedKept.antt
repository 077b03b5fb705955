-- What no stop takes away, behind a transaction that joined and waits for a force, or is in doubt.
use Rattle.std.proofs.Common.{◌≡◌, ◌⊎◌, inl, inr, ℕ, ◌+◌, ◌-◌, ◌<◌, ◌≤◌, ◌^◌, suc, zero, true, false, not, List, [], ◌∷◌, ◌++◌, length, take, drop, Option, Some, None, is_some, refl, sym, ap, subst, ◌∙◌, arith}
use Rattle.std.specs.Prelude.{IfSome}
use Rattle.std.specs.List.{AllByRecursion, flat_map, slice_get, Contains}
use Rattle.std.proofs.lemmas.Bool.{cases_lt}
use Rattle.std.proofs.lemmas.List.{drop-append-le, length-drop, take-append-le, take_all}
use Rattle.store_api.specs.Disk.{History, ImageAt, now}
use Rattle.store_api.specs.Runs.{EachImage, GoesOn}
use Rattle.store_api.proofs.Runs.{goes_image_before, goes_later, goes_standing}
use Rattle.entries.specs.EntryForm.{entry as entry_form}
use Rattle.entries.specs.declared.change.Change.{Change}
use Rattle.entries.specs.declared.entry.Entry.{Entry}
use Rattle.contents.specs.Contents.{HasAll, HasVersion, HaveAll, Holds, InImage, InStore}
use Rattle.contents.proofs.Brought.{have_after, have_same}
use Rattle.backup_payloads.specs.Holding.{holding}
use Rattle.entries.specs.Meaning.{Spells}
use Rattle.backup_payloads.specs.Increments.{IsIncrement}
use Rattle.db_image.specs.Steps.{Job}
use Rattle.fields.specs.Editions.{second_form}
use Rattle.inventory.specs.Meant.{meaning}
use Rattle.inventory_rows.specs.version_groups.declared.versions.Version.{Version}
use Rattle.inventory_rows.specs.Search.{version, versions}
use Rattle.inventory_rows.specs.State.{Inv}
use Rattle.inventory_rules.specs.Backups.{backup_at, is_unfinished}
use Rattle.inventory_rules.specs.Run.{journal_of}
use Rattle.inventory_rules.specs.Transactions.{effect, refused}
use Rattle.inventory_laws.proofs.Lists.{each_also}
use Rattle.log_file.specs.Safety.{acknowledged}
use Rattle.space.specs.Claims.{Claims}
use Rattle.vault.specs.Files.{IsOurs}
use Rattle.vault.specs.Pieces.{Pending}
use Rattle.vault.specs.Recovery.{RecoversWithin}
use Rattle.vault.specs.Vaults.{IsHeld, IsLeft, IsPending, State}
use Rattle.machine.specs.Machine.{durable, halting, storing_contents}
use Rattle.machine.specs.State.{Core, Image, Machine, after, inventory, is_among, unforced, without}
use Rattle.hall.specs.declared.seat.Seat.{Seat}
use Rattle.hall.specs.Covered.{NumbersAreDrawn, SpaceIsClear, covered, databases, inv_at, is_any_reuse, left_open}
use Rattle.hall.specs.Good.{AllInProgress, HasBytes, HasTaken, IsKept, IsLawful, IsListed, IsPayload, IsSafe, IsSoundWith, IsStamped, RecoversToOne, StandsOn, between, is_firm_at}
use Rattle.hall.specs.Held.{Held, IsCore, IsImage}
use Rattle.hall.specs.Protected.{HadBackups, KeepsAllBackups}
use Rattle.hall.proofs.BackupsAlike.{halted_keeps}
use Rattle.hall.proofs.BackupsSpared.{durable_there, had_before, open_of, vault_keeps}
use Rattle.hall.proofs.FirmSeats.{all_less}
use Rattle.hall.proofs.Beside.{all_taken_beside, covered_beside, covered_since}
use Rattle.hall.proofs.ComeFrom.{each_found}
use Rattle.hall.proofs.Covering.{all_each}
use Rattle.hall.proofs.Databases.{each_covered, first_left, last_left, left_lawful}
use Rattle.hall.proofs.DrawnNext.{KeepsBackup, backup_so, unfinished_so}
use Rattle.hall.proofs.Forcing.{files_from, underway_same}
use Rattle.hall.proofs.JoinedBytes.{brings, same_bytes}
use Rattle.hall.proofs.Joining.{Joins, behind, entry_of, inv_before, inventory_last, last, left_last, long, durable_last, spent, unforced_last}
use Rattle.hall.proofs.Lists.{each_kept}
use Rattle.hall.proofs.Pairs.{each_appended, each_two}
use Rattle.hall.proofs.Runs.{at_end}
use Rattle.hall.proofs.Stamping.{few_acknowledged, rise_later}

-- ---- each database that a stop may bring back is one of the run

indexed : (base : Inv) (n : ℕ) (journal : List Entry) → AllByRecursion (λ v. (k : ℕ) × (v ≡ after base (take k journal))) (databases (after base (take n journal)) (drop n journal))
indexed base zero [] = ((0, refl), tt)
indexed base zero (e ∷ journal) = (
  (0, refl),
  each_also (λ v. (k : ℕ) × (v ≡ after (effect e.change base) (take k journal))) (λ v. (k : ℕ) × (v ≡ after base (take k (e ∷ journal)))) (databases (effect e.change base) journal)
      (λ v h. (suc h.0, h.1)) (indexed (effect e.change base) zero journal),
)
indexed base (suc n) [] = ((0, refl), tt)
indexed base (suc n) (e ∷ journal) =
    each_also (λ v. (k : ℕ) × (v ≡ after (effect e.change base) (take k journal))) (λ v. (k : ℕ) × (v ≡ after base (take k (e ∷ journal))))
    (databases (after (effect e.change base) (take n journal)) (drop n journal)) (λ v h. (suc h.0, h.1)) (indexed (effect e.change base) n journal)

pub left_indexed : (c : Core) → AllByRecursion (λ v. (k : ℕ) × (v ≡ inv_at k c)) (left_open c)
left_indexed c = indexed c.base (length c.stamps) c.journal

-- ---- transactions and stamps

module _ (actor : ℕ) (x : Change) (numbers : List ℕ) (c : Core) (l : IsLawful c) (j : Joins actor x numbers c) where
  pub lawful_joined : IsLawful (last actor x numbers c)
  lawful_joined = record {
    valid = l.valid;
    tied = l.tied;
    legal = λ i e at. legal i e (at_end c.journal (entry_of actor x numbers c) i e at);
    short = each_appended (λ (e : Entry). length (entry_form.spell e) ≤ 2 ^ 24) c.journal (entry_of actor x numbers c ∷ []) l.short (j.short, tt);
  }
    where
      legal : (i : ℕ) (e : Entry) → ((slice_get c.journal i ≡ Some e) × (i < length c.journal)) ⊎ ((e ≡ entry_of actor x numbers c) × (i ≡ length c.journal))
          → refused (journal_of c.base (take i (last actor x numbers c).journal)) e.change (after c.base (take i (last actor x numbers c).journal)) ≡ None
      legal i e (inl was) =
          subst (λ es. refused (journal_of c.base es) e.change (after c.base es) ≡ None) (sym (take-append-le i c.journal (entry_of actor x numbers c ∷ []) (omega (arith, was.1)))) (l.legal i e was.0)
      legal i e (inr is) =
          subst (λ es. refused (journal_of c.base es) e.change (after c.base es) ≡ None)
          (sym (ap (λ n. take n (last actor x numbers c).journal) is.1 ∙ (take-append-le (length c.journal) c.journal (entry_of actor x numbers c ∷ []) (omega arith) ∙ take_all (length c.journal) c.journal (omega arith))))
          (subst (λ (y : Entry). refused (journal_of c.base c.journal) y.change (inventory c) ≡ None) (sym is.0) j.legal)

  pub stamped_joined : is_any_reuse x ≡ false → (opened moment later : ℕ) → moment ≤ later → IsStamped opened moment c → IsStamped opened later (last actor x numbers c)
  stamped_joined plain opened moment later le s = record {
    few = let more = long actor x numbers c in omega (arith, more, s.few);
    rise = rise_later opened moment later c.stamps s.rise le;
    waiting = λ none. subst (λ es. AllByRecursion (λ (e : Entry). is_any_reuse e.change ≡ false) es) (sym (unforced_last actor x numbers c s.few))
        (each_appended (λ (e : Entry). is_any_reuse e.change ≡ false) (unforced c) (entry_of actor x numbers c ∷ []) (s.waiting none) (plain, tt));
  }

  -- a backup in progress is listed behind it
  pub listed_joined : length c.stamps ≤ length c.journal → IsListed (left_open c) c.image → IsListed (left_open (last actor x numbers c)) c.image
  listed_joined few was = go c.image j.image was where
    go : (i : Option Image) → IfSome i (λ i. KeepsBackup i.file x) → IsListed (left_open c) i → IsListed (left_open (last actor x numbers c)) i
    go None keeps was = tt
    go (Some i) keeps was = λ is.
        let now = was is in (
          now.0,
          subst (AllByRecursion (λ v. is_unfinished (backup_at i.file v) ≡ true)) (sym (left_last actor x numbers c few))
              (each_appended (λ v. is_unfinished (backup_at i.file v) ≡ true) (left_open c) (behind actor x numbers c ∷ []) now.1
              (unfinished_so i.file x (inventory c) keeps ∙ last_left (λ v. is_unfinished (backup_at i.file v) ≡ true) c now.1, tt)),
        )

-- ---- what is kept over the run

module _ (actor : ℕ) (x : Change) (numbers : List ℕ) (m : Machine) (held : Held) (h new : History) (goes : GoesOn IsOurs h new) (is : IsCore held m.core) (k : IsKept m held h)
    (l : IsLawful m.core) (few : length m.core.stamps ≤ length m.core.journal) (n : NumbersAreDrawn m.core) (space : SpaceIsClear m.core) (g : HasBytes m.contents m.core) (j : Joins actor x numbers m.core)
    (since : EachImage (now h) new (λ files. RecoversWithin meaning files (durable m.core)))
    (joined : HadBackups held.base held.opened h → KeepsAllBackups (last actor x numbers m.core) held.opened h held.job) where
  abbrev c : Core
  c = m.core

  abbrev next : Core
  next = last actor x numbers c

  abbrev contents : ℕ → List ℕ
  contents = storing_contents (spent actor numbers c) m.contents

  -- the databases of the run have the same bytes
  others : (P : ℕ → ℕ → List ℕ → Type 0) (at : ℕ) → HasAll P m.contents (inv_at at c) → HasAll P contents (inv_at at c)
  others P at h =
      have_same P m.contents contents (versions (inv_at at c))
      (each_also (λ (w : Version). is_some (version w.object (inv_at at c)) ≡ true) (λ (w : Version). contents w.object ≡ m.contents w.object) (versions (inv_at at c))
      (λ w there. same_bytes actor x numbers c m.contents l j n space g w.object at there) (each_found (inv_at at c))) h

  others_left : (P : ℕ → ℕ → List ℕ → Type 0) → AllByRecursion (HasAll P m.contents) (left_open c) → AllByRecursion (HasAll P contents) (left_open c)
  others_left P h =
      each_also (λ v. HasAll P m.contents v × ((k : ℕ) × (v ≡ inv_at k c))) (HasAll P contents) (left_open c)
      (λ v both. subst (HasAll P contents) (sym both.1.1) (others P both.1.0 (subst (HasAll P m.contents) both.1.1 both.0)))
      (each_two (HasAll P m.contents) (λ v. (k : ℕ) × (v ≡ inv_at k c)) (left_open c) h (left_indexed c))

  first_over : IsSoundWith contents c.base held.opened new
  first_over image at =
      let was = k.first image (goes_image_before IsOurs h new held.opened image goes k.since at) in
      (was.0, others (InImage image) 0 was.1)

  later : held.opened ≤ now new
  later = let after : now h ≤ now new = goes_later IsOurs h new goes in omega (arith, k.since, after)

  taken_over : AllByRecursion (HasTaken held.seats new) c.tickets
  taken_over = all_taken_beside h new goes held.seats c.tickets (files_from c n) k.tickets

  left_over : AllByRecursion (HasAll (InStore new) contents) (left_open c)
  left_over = others_left (InStore new) (all_each (InStore new) m.contents (left_open c) (covered_beside h new goes m.contents (left_open c) (left_lawful c l) k.firm))

  behind_over : HasAll (InStore new) contents (behind actor x numbers c)
  behind_over =
      have_after (InStore new) contents x (inventory c) (brings actor x numbers c m.contents l j n space g new held.seats taken_over)
      (last_left (HasAll (InStore new) contents) c left_over)

  firm_over : HaveAll (InStore new) contents (covered next)
  firm_over =
      subst (λ (list : List Inv). HaveAll (InStore new) contents (flat_map versions list)) (sym (left_last actor x numbers c few))
      (each_covered (λ w. HasVersion (InStore new) (contents w.object) w) (left_open c ++ (behind actor x numbers c ∷ []))
      (each_appended (HasAll (InStore new) contents) (left_open c) (behind actor x numbers c ∷ []) left_over (behind_over, tt)))

  -- an image that was safe
  safe_before : (count : ℕ) (image : ℕ → List ℕ) → IsSafe m.contents c count image → IsSafe contents next count image
  safe_before count image s = record {
    last = s.last;
    durable = s.durable;
    made = let more = long actor x numbers c in omega (arith, more, s.made);
    recovers = subst (λ v. RecoversWithin meaning image v) (sym (inv_before actor x numbers c s.last s.made)) s.recovers;
    holds = subst (λ v. Holds contents image v) (sym (inv_before actor x numbers c s.last s.made)) (others (InImage image) s.last s.holds);
  }

  -- nothing that waits is there yet
  safe_since : (moment : ℕ) (image : ℕ → List ℕ) → now h ≤ moment → moment ≤ now new → ImageAt new moment image → IsSafe contents next (acknowledged moment c.stamps) image
  safe_since moment image from to at = record {
    last = length c.stamps;
    durable = few_acknowledged moment c.stamps;
    made = let more = long actor x numbers c in omega (arith, more, few);
    recovers = subst (λ v. RecoversWithin meaning image v) (sym (inv_before actor x numbers c (length c.stamps) few)) (since moment image from to at);
    holds = subst (λ v. Holds contents image v) (sym (inv_before actor x numbers c (length c.stamps) few))
        (others (InImage image) (length c.stamps)
        (first_left (HasAll (InImage image) m.contents) c (covered_since h new goes m.contents (left_open c) (left_lawful c l) k.firm moment image from to at)));
  }

  always_over : (moment : ℕ) (image : ℕ → List ℕ) → held.opened ≤ moment → moment ≤ now new → ImageAt new moment image → IsSafe contents next (acknowledged moment c.stamps) image
  always_over moment image a b at = elim (cases_lt moment (now h)) as (λ _. IsSafe contents next (acknowledged moment c.stamps) image) [
    | inl lt ↦ let le : moment ≤ now h = omega (arith, lt) in safe_before (acknowledged moment c.stamps) image (k.always moment image a le (goes_image_before IsOurs h new moment image goes le at))
    | inr ge ↦ safe_since moment image ge b at
  ]

  one_over : IsLeft (λ files. RecoversWithin meaning files (durable c)) new → IsLeft (RecoversToOne next) new
  one_over left files at =
      (length c.stamps, omega arith, (let more = long actor x numbers c in omega (arith, more, few)), subst (λ v. RecoversWithin meaning files v) (sym (inv_before actor x numbers c (length c.stamps) few)) (left files at))

  -- all backups are kept behind the transaction over the run
  backups_over : HadBackups held.base held.opened new → KeepsAllBackups next held.opened new held.job
  backups_over had =
      vault_keeps h new next held.opened (open_of next (durable c) (now h) new (subst (Contains (left_open next)) (durable_last actor x numbers c few) (durable_there next)) since) goes held.job
      (joined (had_before IsOurs held.base held.opened h new goes k.since had))

  -- no more of those that stay are firm
  abbrev pub AreLess : List (ℕ × Seat) → Type 0
  AreLess seats = (n : ℕ) → is_firm_at n seats ≡ true → is_firm_at n held.seats ≡ true

  tickets_over : (seats : List (ℕ × Seat)) → AreLess seats → AllByRecursion (HasTaken seats new) (without actor numbers c.tickets)
  tickets_over seats less =
      all_less held.seats seats new (without actor numbers c.tickets) less (each_kept (HasTaken held.seats new) (λ t. not (is_among actor numbers t)) c.tickets taken_over)

  -- ---- the call on the log failed

  halted_safe : (file faults : ℕ) (count : ℕ) (image : ℕ → List ℕ) → IsSafe contents next count image → IsSafe contents (halting file faults next) count image
  halted_safe file faults count image s = record { last = s.last; durable = s.durable; made = s.made; recovers = s.recovers; holds = s.holds }

  pub doubted_kept : (file count : ℕ) (vault : State Inv) (seats : List (ℕ × Seat)) (less : AreLess seats) (claims : Claims) (counts : ℕ → ℕ) (moment : ℕ) → IsLeft (λ files. RecoversWithin meaning files (durable c)) new
      → IsKept (record { core = halting file count next; contents = contents; moment = moment; counts = counts }) (record held { vault = vault; seats = seats; claims = claims }) new
  doubted_kept file count vault seats less claims counts moment left = record {
    since = later;
    first = first_over;
    always = λ at image a b it. halted_safe file count (acknowledged at c.stamps) image (always_over at image a b it);
    left = one_over left;
    sure = λ none. absurd (no_fault none);
    firm = firm_over;
    tickets = tickets_over seats less;
    image = λ none. absurd (no_fault none);
    backups = λ had. halted_keeps new next file count held.opened held.job (backups_over had);
  }
    where
      no_fault : {A : Type 0} {a : A} → Some a ≡ None → ⊥
      no_fault e = absurd cc

  -- ---- it waits for a force

  module _ (vault : State Inv) (held_next : IsHeld meaning vault (durable c) new) (pends : (snapshot : Inv) → IsPending meaning held.vault snapshot h → IsPending meaning vault snapshot new)
      (is_image : IsImage c.base.number held.vault.generation held.vault.pending held.job c.image) (seats : List (ℕ × Seat)) (less : AreLess seats) (claims : Claims) where
    abbrev then_held : Held
    then_held = record held { vault = vault; seats = seats; claims = claims }

    module _ (i : Image) (from : c.base.number ≤ i.seq) (to : i.seq ≤ c.base.number + length c.stamps) where
      at_seq : inv_at (i.seq - c.base.number) next ≡ inv_at (i.seq - c.base.number) c
      at_seq = inv_before actor x numbers c (i.seq - c.base.number) (omega (arith, from, to, few))

      same_between : (number : ℕ) → c.base.number ≤ number → number ≤ i.seq → between number i.seq next ≡ between number i.seq c
      same_between number low high =
          let n = number - c.base.number in
          let room : length (drop n c.journal) ≡ length c.journal - n = length-drop n c.journal in
          ap (take (i.seq - number)) (drop-append-le n c.journal (entry_of actor x numbers c ∷ []) (omega (arith, low, high, to, few)))
          ∙ take-append-le (i.seq - number) (drop n c.journal) (entry_of actor x numbers c ∷ []) (omega (arith, room, low, high, to, few))

      payload_over : (payload : List ℕ) → IsPayload c i.seq payload → IsPayload next i.seq payload
      payload_over payload (inl whole) = inl (subst (Spells meaning second_form payload) (sym at_seq) whole)
      payload_over payload (inr p) =
          inr (p.0, p.1, p.2, p.3, subst (λ (es : List Entry). IsIncrement payload (holding p.0 p.1 es)) (sym (same_between p.1 p.2 p.3)) p.4)

      stands_over : (job : Option Job) → IfSome job (λ b. KeepsBackup b.file x) → StandsOn c held.vault job i h → StandsOn next vault job i new
      stands_over None keeps s = subst (λ v. IsPending meaning vault v new) (sym at_seq) (pends (inv_at (i.seq - c.base.number) c) s)
      stands_over (Some job) keeps s = (
        s.0,
        subst (λ v. is_some (backup_at job.file v) ≡ true) (sym (inventory_last actor x numbers c)) (backup_so job.file x (inventory c) keeps ∙ s.1),
        underway_same job.phase job h new (goes_standing IsOurs h new job.file (λ ours. omega (arith, s.0, ours)) goes) s.2,
        payload_over job.payload s.3,
      )

    keeps_of : (pending : Option Pending) (job : Option Job) (i : Image) → IsImage c.base.number held.vault.generation pending job (Some i) → KeepsBackup i.file x → IfSome job (λ b. KeepsBackup b.file x)
    keeps_of pending None i is keeps = tt
    keeps_of None (Some job) i is keeps = subst (λ f. KeepsBackup f x) is.file keeps
    keeps_of (Some p) (Some job) i is keeps = absurd is

    progress_over : (i : Option Image) → IsImage c.base.number held.vault.generation held.vault.pending held.job i → IfSome i (λ i. KeepsBackup i.file x) → AllInProgress c held i h → AllInProgress next then_held i new
    progress_over None is keeps p = tt
    progress_over (Some i) is keeps p = record {
      since = p.since;
      durable = p.durable;
      stands = stands_over i p.since p.durable held.job (keeps_of held.vault.pending held.job i is keeps) p.stands;
    }

    pub waiting_kept : (none : c.fault ≡ None) (counts : ℕ → ℕ) (moment : ℕ) → IsLeft (λ files. RecoversWithin meaning files (durable c)) new
        → IsKept (record { core = next; contents = contents; moment = moment; counts = counts }) then_held new
    waiting_kept none counts moment left = record {
      since = later;
      first = first_over;
      always = always_over;
      left = one_over left;
      sure = λ _. subst (λ v. IsHeld meaning vault v new) (sym (durable_last actor x numbers c few)) held_next;
      firm = firm_over;
      tickets = tickets_over seats less;
      image = λ _. progress_over c.image is_image j.image (k.image none);
      backups = backups_over;
    }
