-- What the calls of a database backup's steps ask, and what comes of them in their order.
use Rattle.std.proofs.Common.{◌≡◌, ◌⊎◌, inl, inr, ℕ, ◌+◌, ◌<◌, ◌≤◌, ◌^◌, max, Bool, true, false, List, [], ◌∷◌, ◌++◌, length, Option, None, Some, Result, Ok, Err, is_some, refl, sym, ap, subst, ◌∙◌, arith}
use Rattle.std.specs.Prelude.{IfErr, IfOk, IfSome, OnErr, OnOk, is_ok, Vec}
use Rattle.std.proofs.lemmas.List.{length-append}
use Rattle.store_api.specs.Cause.{NoneFell, Rose}
use Rattle.store_api.specs.Disk.{History, now, standing}
use Rattle.store_api.specs.Runs.{GoesOn, Synced}
use Rattle.store_api.specs.Told.{Told}
use Rattle.store_api.proofs.Runs.{goes_then, goes_weaker, told_map, told_then}
use Rattle.store_api.specs.declared.store.Failed.{Failed}
use Rattle.kinds.specs.Refusals.{foremost, unless}
use Rattle.kinds.specs.declared.refusal.Refusal.{Refusal}
use Rattle.kinds.specs.declared.refusal.Refusal.TheVariants as refusal
use Rattle.entries.specs.Meaning.{Spells}
use Rattle.entries.specs.declared.change.Change.{Change}
use Rattle.entries.specs.declared.change.Change.TheVariants as change
use Rattle.entries.specs.declared.entry.Entry.{Entry}
use Rattle.db_image.specs.Steps.{CanShut}
use Rattle.inventory.proofs.Nothing.{is_free}
use Rattle.fields.specs.Editions.{second_form}
use Rattle.inventory.specs.Meaningful.{begins}
use Rattle.inventory.specs.Meant.{meaning}
use Rattle.inventory_rows.specs.State.{Inv}
use Rattle.inventory_rules.specs.Journal.{no_journal}
use Rattle.inventory_rules.specs.Run.{journal_of}
use Rattle.inventory_rules.specs.Transactions.{refused}
use Rattle.inventory_rules.proofs.Journals.{not_refused}
use Rattle.steps.specs.Events.{Deed, is_listed}
use Rattle.steps.specs.Events.Deed.{Image as TakeImage}
use Rattle.steps.specs.declared.image.ImageKind.{ImageKind}
use Rattle.steps.specs.declared.image.ImageReply.{ImageReply}
use Rattle.steps.specs.declared.image.ImageReply.TheVariants as reply
use Rattle.vault.specs.Files.{IsOurs, log_file}
use Rattle.vault.specs.Vaults.{Doubts, Forces, RefusesForce, State, Waits, all_forced, with_waiting}
use Rattle.machine.specs.Machine.{last_moment}
use Rattle.machine.specs.State.{Machine}
use Rattle.hall.specs.Backing.{IsHolding, Seats, backup_begun, backup_by, backup_refused, begin_entry, begin_of, begun_forced, begun_waiting, job_by, kind_of, with_job}
use Rattle.hall.specs.Good.{Is}
use Rattle.hall.specs.Held.{Hall, Held}
use Rattle.hall.specs.Joined.{RefusesJoin, drawn_by, joined_held}
use Rattle.hall.specs.Seats.{all_stamped, ended_at, with_vault}
use Rattle.hall.specs.Steps.{Steps}
use Rattle.hall.proofs.Backed.{begins_from, legal_of, may_back, shut_then}
use Rattle.hall.proofs.BackupBegins.{backup_begins, backup_unforced, backup_unjoined, backup_unsynced}
use Rattle.hall.proofs.BackupJoins.{begin_bound}
use Rattle.hall.proofs.Ended.{none_halted, not_over}
use Rattle.hall.proofs.Forcing.{ours_alone}
use Rattle.std.specs.declared.alloc.Global.{Global}

-- ---- what the calls of its begin ask

module _ (actor moment : ℕ) (after : Option ℕ) (h : Held) (free : foremost (backup_refused actor moment after h) ≡ None) where
  pub not_ended : foremost (ended_at moment h) ≡ None
  not_ended = (may_back actor moment after h free).free

  pub time_to_back : moment + 5 ≤ 2 ^ 62
  time_to_back = let l : moment < last_moment = not_over moment h not_ended in omega (arith, l)

  pub time_to_sync : moment + 1 ≤ 2 ^ 62
  time_to_sync = omega (arith, time_to_back)

  pub time_behind : (synced : ℕ) → synced ≤ moment + 1 → synced + 1 ≤ 2 ^ 62
  time_behind synced le = omega (arith, time_to_back, le)

  pub time_to_force : (synced joined : ℕ) → synced ≤ moment + 1 → joined ≤ synced + 1 → joined + 3 ≤ 2 ^ 62
  time_to_force synced joined le more = omega (arith, time_to_back, le, more)

  its_legal : refused (journal_of h.base h.vault.journal) (begin_of after h) h.vault.database ≡ None
  its_legal = legal_of actor after h (may_back actor moment after h free).causes

  pub legal_to_join : refused no_journal (begin_of after h) h.vault.database ≡ None
  legal_to_join = not_refused (journal_of h.base h.vault.journal) no_journal (begin_of after h) h.vault.database its_legal

  pub drawn_to_join : IfSome (drawn_by (begin_of after h)) (λ file. file + 1 < 2 ^ 32)
  drawn_to_join =
      let k : ℕ = h.claims.next_file in
      let bound : max k (k + 1) < 2 ^ 32 = begin_bound k after h.vault.database (is_free (journal_of h.base h.vault.journal) (begin_of after h) h.vault.database its_legal).causes in
      omega (arith, bound)

  pub file_from : 4 ≤ h.claims.next_file
  file_from = begins_from (journal_of h.base h.vault.journal) h.claims.next_file after h.vault.database its_legal

-- the same of the file that was drawn
pub legal_in : (actor moment : ℕ) (after : Option ℕ) (h : Held) → foremost (backup_refused actor moment after h) ≡ None → (file : ℕ) → file ≡ h.claims.next_file → refused no_journal (change.DbBegin file after) h.vault.database ≡ None
legal_in actor moment after h free file is = subst (λ n. refused no_journal (change.DbBegin n after) h.vault.database ≡ None) (sym is) (legal_to_join actor moment after h free)

pub drawn_in : (actor moment : ℕ) (after : Option ℕ) (h : Held) → foremost (backup_refused actor moment after h) ≡ None → (file : ℕ) → file ≡ h.claims.next_file → file + 1 < 2 ^ 32
drawn_in actor moment after h free file is = subst (λ n. n + 1 < 2 ^ 32) (sym is) (drawn_to_join actor moment after h free)

-- a database isn't spelled by nothing
pub some_bytes : (bytes : List ℕ) (v : Inv) → Spells meaning second_form bytes v → 0 < length bytes
some_bytes bytes v is = let first = begins second_form v in subst (λ (l : List ℕ). 0 < length l) (sym (is.1 ∙ first.1)) (omega arith)

-- all of the journal has at most as many stamps
pub few_stamps : {S : Type 0} (told : S → Option History) (moment : S → ℕ) (faults : S → ℕ → ℕ) (hall : Hall S) → ((m : Machine) × Is told moment faults hall m) → length hall.held.stamps ≤ length hall.held.vault.journal
few_stamps told moment faults hall (m, is) =
    subst (λ (l : List ℕ). length l ≤ length hall.held.vault.journal) is.core.stamps (subst (λ (l : List Entry). length m.core.stamps ≤ length l) is.core.journal is.good.stamped.few)

pub few_joined : (h held : Held) (x : Change) (e : Entry) (numbers : List ℕ) → length h.stamps ≤ length h.vault.journal → held.stamps ≡ h.stamps → held.vault.journal ≡ h.vault.journal ++ e ∷ [] → length held.stamps ≤ length held.vault.journal
few_joined h held x e numbers few stamps journal =
    let longer : length (h.vault.journal ++ (e ∷ [])) ≡ length h.vault.journal + 1 = length-append h.vault.journal (e ∷ []) in
    let same : length held.vault.journal ≡ length (h.vault.journal ++ (e ∷ [])) = ap (λ (l : List Entry). length l) journal in
    let as_many : length held.stamps ≡ length h.stamps = ap (λ (l : List ℕ). length l) stamps in
    omega (arith, few, longer, same, as_many)

-- ---- what came of the calls of its begin

module _ {S : Type 0} (told : S → Option History) (moment : S → ℕ) (faults : S → ℕ → ℕ) (clock : (s : S) → IfSome (told s) (λ h. now h ≡ moment s)) (actor : ℕ) (after : Option ℕ) (hall : Hall S)
    (free : foremost (backup_refused actor (moment hall.store) after hall.held) ≡ None) (synced : S) (sync : Result (Unit {0}) Failed) (t1 : moment hall.store ≤ moment synced) (c1 : NoneFell (faults hall.store) (faults synced))
    (s1 : moment synced ≤ moment hall.store + 1) (sync_told : Told (told hall.store) (told synced) (Synced hall.held.claims.next_file sync))
    (cause : OnErr sync (Rose (faults hall.store hall.held.claims.next_file) (faults synced hall.held.claims.next_file)))
    (joined : S) (t2 : moment synced ≤ moment joined) (c2 : NoneFell (faults synced) (faults joined)) (s2 : moment joined ≤ moment synced + 1) (held : Held) (result : Result ℕ Refusal)
    (waits : (result ≡ Err refusal.Memory → ⊥) → Told (told synced) (told joined) (Waits meaning hall.held.vault (begin_entry actor after hall.held) result held.vault))
    (ok : OnOk result (held ≡ begun_waiting actor after hall.held)) (number : IfOk result (λ number. number ≡ hall.held.vault.database.number + 1))
    (err : IfErr result (λ why. RefusesJoin hall.held (begin_entry actor after hall.held) [] (faults synced) (faults joined) why held (joined ≡ synced))) where
  abbrev k : ℕ
  k = hall.held.claims.next_file

  abbrev e : Entry
  e = begin_entry actor after hall.held

  goes : Told (told hall.store) (told synced) (GoesOn (λ n. n ≡ k))
  goes = told_map (told hall.store) (told synced) (Synced k sync) (GoesOn (λ n. n ≡ k)) (λ h n r. r.within.goes) sync_told

  err_is : {A : Type 0} {a b : Refusal} → (let r : Result A Refusal = Err a in r ≡ Err b) → a ≡ b
  err_is e = cc

  ok_is_none : {A : Type 0} {a : A} {b : Refusal} → (let r : Result A Refusal = Ok a in r ≡ Err b) → ⊥
  ok_is_none e = absurd cc

  pub unjoined_all : (why : Refusal) → result ≡ Err why → Steps told moment faults actor (TakeImage (kind_of after) (Err why)) hall (record { store = joined; held = held })
  unjoined_all why at =
      backup_unjoined told moment faults clock actor after hall synced t1 c1 s1 free goes joined t2 c2 s2 why held
      (λ other. subst (λ r. Told (told synced) (told joined) (Waits meaning hall.held.vault e r held.vault)) at (waits (λ same. other (err_is (sym at ∙ same)))))
      (subst (λ r. IfErr r (λ why. RefusesJoin hall.held e [] (faults synced) (faults joined) why held (joined ≡ synced))) at err)

  module _ (seq : ℕ) (at : result ≡ Ok seq) where
    form : held ≡ begun_waiting actor after hall.held
    form = subst (λ r. OnOk r (held ≡ begun_waiting actor after hall.held)) at ok

    seq_is : seq ≡ hall.held.vault.database.number + 1
    seq_is = subst (λ r. IfOk r (λ number. number ≡ hall.held.vault.database.number + 1)) at number

    waited : Told (told synced) (told joined) (Waits {T = ℕ} {E = Refusal} meaning hall.held.vault e (Ok seq) (with_waiting meaning hall.held.vault e))
    waited =
        subst (λ (v : State Inv). Told (told synced) (told joined) (Waits {T = ℕ} {E = Refusal} meaning hall.held.vault e (Ok seq) v)) (ap (λ (h : Held). h.vault) form)
        (subst (λ r. Told (told synced) (told joined) (Waits meaning hall.held.vault e r held.vault)) at (waits (λ no. ok_is_none (sym at ∙ no))))

    joined_goes : Told (told synced) (told joined) (GoesOn IsOurs)
    joined_goes =
        told_map (told synced) (told joined) (Waits {T = ℕ} {E = Refusal} meaning hall.held.vault e (Ok seq) (with_waiting meaning hall.held.vault e)) (GoesOn IsOurs) (λ h n r. ours_alone hall.held.vault.generation h n r.goes) waited

    module _ (forced : S) (t3 : moment joined ≤ moment forced) (c3 : NoneFell (faults joined) (faults forced)) (s3 : moment forced ≤ moment joined + 3) where
      -- whatever came of forcing what the hall holds then
      abbrev pub Forced : Held → Type 0
      Forced held =
          (new : Held) (answer : Result ℕ Refusal) → Told (told joined) (told forced) (Forces meaning held.vault answer new.vault)
          → OnOk answer (new ≡ all_stamped (moment forced) (with_vault (all_forced held.vault) held)) → OnErr answer (new ≡ with_vault new.vault held)
          → IfErr answer (λ why. RefusesForce held.vault (faults joined) (faults forced) why new.vault (forced ≡ joined))
          → (bytes : List ℕ) → IsHolding actor after hall.held bytes → 0 < length bytes → length bytes < 2 ^ 64
          → ((why : Refusal) → answer ≡ Err why → Steps told moment faults actor (TakeImage (kind_of after) (Err why)) hall (record { store = forced; held = new }))
          × ((flag : Bool) → flag ≡ is_ok sync → (n : ℕ) → answer ≡ Ok n → (last : Held) (told_so : Result ImageReply Refusal) → Seats actor k seq bytes flag new last told_so
          → Steps told moment faults actor (TakeImage (kind_of after) told_so) hall (record { store = forced; held = last }))

      shut : sync ≡ Ok tt → Told (told joined) (told forced) (GoesOn IsOurs) → IfSome (told forced) (λ h. CanShut (standing h k))
      shut whole did =
          shut_then k (told hall.store) (told synced) (told joined) (told forced) (file_from actor (moment hall.store) after hall.held free)
          (subst (λ r. Told (told hall.store) (told synced) (Synced k r)) whole sync_told) joined_goes did

      ok_sync : (r : Result (Unit {0}) Failed) → true ≡ is_ok r → r ≡ Ok tt
      ok_sync (Ok x) e = refl
      ok_sync (Err x) e = absurd cc

      rose_sync : (r : Result (Unit {0}) Failed) → false ≡ is_ok r → OnErr r (Rose (faults hall.store k) (faults synced k)) → Rose (faults hall.store k) (faults synced k)
      rose_sync (Ok x) e rose = absurd cc
      rose_sync (Err x) e rose = rose

      abbrev w : State Inv
      w = with_waiting meaning hall.held.vault e

      seated : (new : Held) (n : ℕ) → Told (told joined) (told forced) (Forces {T = ℕ} {E = Refusal} meaning w (Ok n) (all_forced w)) → new ≡ begun_forced actor after (moment forced) hall.held
          → (bytes : List ℕ) → IsHolding actor after hall.held bytes → 0 < length bytes → length bytes < 2 ^ 64
          → (flag : Bool) → flag ≡ is_ok sync → (last : Held) (told_so : Result ImageReply Refusal) → Seats actor k seq bytes flag new last told_so
          → Steps told moment faults actor (TakeImage (kind_of after) told_so) hall (record { store = forced; held = last })
      seated new n did is bytes holds some small true flag last told_so (answer, left) =
          let begins = backup_begins told moment faults clock actor after hall synced t1 c1 s1 free goes joined t2 c2 s2 forced t3 c3 s3 seq waited n did bytes
          (shut (ok_sync sync flag) (told_map (told joined) (told forced) (Forces {T = ℕ} {E = Refusal} meaning w (Ok n) (all_forced w)) (GoesOn IsOurs) (λ h n r. ours_alone hall.held.vault.generation h n r.goes) did)) holds some small in
          let held_is : last ≡ backup_begun actor after bytes (moment forced) hall.held =
          left ∙ ap (λ (m : ℕ). with_job (Some (backup_by actor k m)) (Some (job_by k m bytes)) new) seq_is
          ∙ ap (with_job (Some (backup_by actor k (hall.held.vault.database.number + 1))) (Some (job_by k (hall.held.vault.database.number + 1) bytes))) is in
          subst (λ r. Steps told moment faults actor (TakeImage (kind_of after) r) hall (record { store = forced; held = last })) (ap (λ m. Ok (reply.Begun k m)) (sym seq_is) ∙ sym answer)
          (subst (λ h. Steps told moment faults actor (TakeImage (kind_of after) (Ok (reply.Begun k (hall.held.vault.database.number + 1)))) hall (record { store = forced; held = h })) (sym held_is) begins)
      seated new n did is bytes holds some small false flag last told_so (answer, left) =
          subst (λ r. Steps told moment faults actor (TakeImage (kind_of after) r) hall (record { store = forced; held = last })) (sym answer)
          (subst (λ h. Steps told moment faults actor (TakeImage (kind_of after) (Err (refusal.WriteFault k))) hall (record { store = forced; held = h })) (sym (left ∙ is))
          (backup_unsynced told moment faults clock actor after hall synced t1 c1 s1 free goes joined t2 c2 s2 forced t3 c3 s3 seq waited n did (rose_sync sync flag cause)))

      forced_waiting : Forced (begun_waiting actor after hall.held)
      forced_waiting new (Ok n) did ok same err bytes holds some small = (
        λ why no. absurd (ok_is_none no),
        λ flag is x at last told_so seats. seated new n (subst (λ (v : State Inv). Told (told joined) (told forced) (Forces {T = ℕ} {E = Refusal} meaning w (Ok n) v)) (ap (λ (h : Held). h.vault) ok) did) ok bytes holds some small flag is
            last told_so seats,
      )
      forced_waiting new (Err why) did ok same err bytes holds some small = (
        λ other at.
            subst (λ r. Steps told moment faults actor (TakeImage (kind_of after) (Err r)) hall (record { store = forced; held = new })) (err_is at)
            (subst (λ h. Steps told moment faults actor (TakeImage (kind_of after) (Err why)) hall (record { store = forced; held = h })) (sym same)
            (backup_unforced told moment faults clock actor after hall synced t1 c1 s1 free goes joined t2 c2 s2 forced t3 c3 s3 seq waited why new.vault err did)),
        λ flag is n no. absurd (ok_is_none (sym no)),
      )

      pub forced_all : Forced held
      forced_all = subst Forced (sym form) forced_waiting

-- a vector has fewer than 2^64 elements
pub vec_small : (v : Vec ℕ Global) → length v.items < 2 ^ 64
vec_small v = let held = v.ok.0 in let within = v.ok.1 in let few = v.small in omega (arith, held, within, few)

-- ---- the same of the file that was drawn

module _ {S : Type 0} (told : S → Option History) (moment : S → ℕ) (faults : S → ℕ → ℕ) (clock : (s : S) → IfSome (told s) (λ h. now h ≡ moment s)) (actor : ℕ) (after : Option ℕ) (hall : Hall S)
    (free : foremost (backup_refused actor (moment hall.store) after hall.held) ≡ None) (synced : S) (sync : Result (Unit {0}) Failed) (t1 : moment hall.store ≤ moment synced) (c1 : NoneFell (faults hall.store) (faults synced))
    (s1 : moment synced ≤ moment hall.store + 1) (joined : S) (t2 : moment synced ≤ moment joined) (c2 : NoneFell (faults synced) (faults joined)) (s2 : moment joined ≤ moment synced + 1) (held : Held) (result : Result ℕ Refusal)
    (number : IfOk result (λ number. number ≡ hall.held.vault.database.number + 1)) where
  abbrev entry_in_file : ℕ → Entry
  entry_in_file file = record { actor = actor; change = change.DbBegin file after }

  -- what the first calls left, of a backup in this file
  abbrev pub Joins : ℕ → Type 0
  Joins file =
      Told (told hall.store) (told synced) (Synced file sync)
      × OnErr sync (Rose (faults hall.store file) (faults synced file))
      × ((result ≡ Err refusal.Memory → ⊥) → Told (told synced) (told joined) (Waits meaning hall.held.vault (entry_in_file file) result held.vault))
      × OnOk result (held ≡ joined_held (change.DbBegin file after) [] (with_waiting meaning hall.held.vault (entry_in_file file)) hall.held)
      × IfErr result (λ why. RefusesJoin hall.held (entry_in_file file) [] (faults synced) (faults joined) why held (joined ≡ synced))

  module _ (file : ℕ) (is : file ≡ hall.held.claims.next_file) (joins : Joins file) where
    at : Joins hall.held.claims.next_file
    at = subst Joins is joins

    pub begin_unjoined : (why : Refusal) → result ≡ Err why → Steps told moment faults actor (TakeImage (kind_of after) (Err why)) hall (record { store = joined; held = held })
    begin_unjoined = unjoined_all told moment faults clock actor after hall free synced sync t1 c1 s1 at.0 at.1 joined t2 c2 s2 held result at.2 at.3 number at.4

    module _ (seq : ℕ) (whole : result ≡ Ok seq) (forced : S) (t3 : moment joined ≤ moment forced) (c3 : NoneFell (faults joined) (faults forced)) (s3 : moment forced ≤ moment joined + 3) (new : Held) (answer : Result ℕ Refusal)
        (did : Told (told joined) (told forced) (Forces meaning held.vault answer new.vault)) (ok : OnOk answer (new ≡ all_stamped (moment forced) (with_vault (all_forced held.vault) held)))
        (same : OnErr answer (new ≡ with_vault new.vault held)) (err : IfErr answer (λ why. RefusesForce held.vault (faults joined) (faults forced) why new.vault (forced ≡ joined)))
        (bytes : List ℕ) (holds : IsHolding actor after hall.held bytes) (some : 0 < length bytes) (small : length bytes < 2 ^ 64) where
      came : ((why : Refusal) → answer ≡ Err why → Steps told moment faults actor (TakeImage (kind_of after) (Err why)) hall (record { store = forced; held = new }))
          × ((flag : Bool) → flag ≡ is_ok sync → (n : ℕ) → answer ≡ Ok n → (last : Held) (told_so : Result ImageReply Refusal) → Seats actor hall.held.claims.next_file seq bytes flag new last told_so
          → Steps told moment faults actor (TakeImage (kind_of after) told_so) hall (record { store = forced; held = last }))
      came = forced_all told moment faults clock actor after hall free synced sync t1 c1 s1 at.0 at.1 joined t2 c2 s2 held result at.2 at.3 number at.4 seq whole forced t3 c3 s3 new answer did ok same err bytes holds some small

      pub begin_unforced : (why : Refusal) → answer ≡ Err why → Steps told moment faults actor (TakeImage (kind_of after) (Err why)) hall (record { store = forced; held = new })
      begin_unforced = came.0

      pub begin_seated : (flag : Bool) → flag ≡ is_ok sync → (n : ℕ) → answer ≡ Ok n → (last : Held) (told_so : Result ImageReply Refusal) → Seats actor file seq bytes flag new last told_so
          → Steps told moment faults actor (TakeImage (kind_of after) told_so) hall (record { store = forced; held = last })
      begin_seated flag so n is_n last told_so seats = came.1 flag so n is_n last told_so (subst (λ k. Seats actor k seq bytes flag new last told_so) is seats)

-- ---- they are on the closed list

pub fault_listed : (k : ImageKind) (e : Refusal) (file count : ℕ) → e ≡ refusal.LogFault file count → is_listed (TakeImage k (Err e)) ≡ true
unfolding is_listed
fault_listed k e file count is = ap (λ x. is_listed (TakeImage k (Err x))) is

pub memory_listed : (k : ImageKind) (e : Refusal) → e ≡ refusal.Memory → is_listed (TakeImage k (Err e)) ≡ true
unfolding is_listed
memory_listed k e is = ap (λ x. is_listed (TakeImage k (Err x))) is

pub write_listed : (k : ImageKind) (file : ℕ) → is_listed (TakeImage k (Err (refusal.WriteFault file))) ≡ true
unfolding is_listed
write_listed k file = refl

pub full_listed : (k : ImageKind) (e : Refusal) → e ≡ refusal.InventoryFull → is_listed (TakeImage k (Err e)) ≡ true
unfolding is_listed
full_listed k e is = ap (λ x. is_listed (TakeImage k (Err x))) is

pub reply_listed : (k : ImageKind) (r : ImageReply) → is_listed (TakeImage k (Ok r)) ≡ true
unfolding is_listed
reply_listed k r = refl

pub join_listed : (k : ImageKind) (held : Held) (entry : Entry) (numbers : List ℕ) (before after : ℕ → ℕ) (new : Held) (same : Type 0) (result : Result ℕ Refusal) (why : Refusal) → result ≡ Err why
    → IfErr result (λ why. RefusesJoin held entry numbers before after why new same) → is_listed (TakeImage k (Err why)) ≡ true
join_listed k held entry numbers before after new same result why at err = go (subst (λ r. IfErr r (λ why. RefusesJoin held entry numbers before after why new same)) at err) where
  go : RefusesJoin held entry numbers before after why new same → is_listed (TakeImage k (Err why)) ≡ true
  go (inl h) = memory_listed k why h.0
  go (inr h) = fault_listed k why (log_file held.vault.generation) (after (log_file held.vault.generation)) h.0.1

pub force_listed : (k : ImageKind) (vault next : State Inv) (before after : ℕ → ℕ) (same : Type 0) (result : Result ℕ Refusal) (why : Refusal) → result ≡ Err why
    → IfErr result (λ why. RefusesForce vault before after why next same) → is_listed (TakeImage k (Err why)) ≡ true
force_listed k vault next before after same result why at err = go (subst (λ r. IfErr r (λ why. RefusesForce vault before after why next same)) at err) where
  go : RefusesForce vault before after why next same → is_listed (TakeImage k (Err why)) ≡ true
  go (inl h) = fault_listed k why h.0.0 h.0.1 h.0.3
  go (inr h) = fault_listed k why (log_file vault.generation) (after (log_file vault.generation)) h.1

pub seats_listed : (k : ImageKind) (actor file seq : ℕ) (bytes : List ℕ) (flag : Bool) (old new : Held) (answer : Result ImageReply Refusal) → Seats actor file seq bytes flag old new answer → is_listed (TakeImage k answer) ≡ true
seats_listed k actor file seq bytes true old new answer s = ap (λ (r : Result ImageReply Refusal). is_listed (TakeImage k r)) s.0 ∙ reply_listed k (reply.Begun file seq)
seats_listed k actor file seq bytes false old new answer s = ap (λ (r : Result ImageReply Refusal). is_listed (TakeImage k r)) s.0 ∙ write_listed k file

-- ---- the files that changed, and what stays

module _ (mine : ℕ → Type 0) where
  abbrev OursOr : ℕ → Type 0
  OursOr n = IsOurs n ⊎ mine n

  pub ours_or : (old new : Option History) → Told old new (GoesOn IsOurs) → Told old new (GoesOn OursOr)
  ours_or old new did = told_map old new (GoesOn IsOurs) (GoesOn OursOr) (λ h n r. goes_weaker IsOurs OursOr h n (λ n own. inl own) r) did

  pub first_files : (old mid : Option History) → Told old mid (GoesOn mine) → Told old mid (GoesOn OursOr)
  first_files old mid did = told_map old mid (GoesOn mine) (GoesOn OursOr) (λ h n r. goes_weaker mine OursOr h n (λ n own. inr own) r) did

  pub then_files : (old mid new : Option History) → Told old mid (GoesOn OursOr) → Told mid new (GoesOn IsOurs) → Told old new (GoesOn OursOr)
  then_files old mid new first second =
      told_then old mid new (GoesOn OursOr) (GoesOn IsOurs) (GoesOn OursOr) (λ h m n a b. goes_then OursOr h m n a (goes_weaker IsOurs OursOr m n (λ n own. inl own) b)) first second

pub synced_files : (file : ℕ) (sync : Result (Unit {0}) Failed) (old mid : Option History) → Told old mid (Synced file sync) → Told old mid (GoesOn (λ n. n ≡ file))
synced_files file sync old mid did = told_map old mid (Synced file sync) (GoesOn (λ n. n ≡ file)) (λ h n r. r.within.goes) did

pub forced_stays : (old new : Held) (moment : ℕ) (result : Result ℕ Refusal) → OnOk result (new ≡ all_stamped moment (with_vault (all_forced old.vault) old)) → OnErr result (new ≡ with_vault new.vault old)
    → (new.base ≡ old.base) × (new.opened ≡ old.opened)
forced_stays old new moment (Ok n) ok same = (ap (λ (h : Held). h.base) ok, ap (λ (h : Held). h.opened) ok)
forced_stays old new moment (Err e) ok same = (ap (λ (h : Held). h.base) same, ap (λ (h : Held). h.opened) same)

pub seats_stay : (actor file seq : ℕ) (bytes : List ℕ) (flag : Bool) (old new : Held) (answer : Result ImageReply Refusal) → Seats actor file seq bytes flag old new answer → (new.base ≡ old.base) × (new.opened ≡ old.opened)
seats_stay actor file seq bytes true old new answer s = (ap (λ (h : Held). h.base) s.1, ap (λ (h : Held). h.opened) s.1)
seats_stay actor file seq bytes false old new answer s = (ap (λ (h : Held). h.base) s.1, ap (λ (h : Held). h.opened) s.1)
