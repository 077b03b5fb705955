-- An entry is committed, and what waits is forced.
use Rattle.std.proofs.Common.{◌≡◌, ⊎_elim, inl, inr, ℕ, ◌+◌, ◌≤◌, List, [], ◌∷◌, ◌++◌, length, reverse, Option, None, Some, Result, Ok, Err, refl, sym, ◌∙◌, ap, subst, arith, length-append, append_assoc}
use Rattle.std.proofs.lemmas.List.{append-nil, drop_all}
use Rattle.store_api.specs.Cause.{Rose}
use Rattle.store_api.specs.Disk.{History, now}
use Rattle.store_api.specs.Runs.{GoesOn, EachImage}
use Rattle.store_api.proofs.Runs.{goes_none, goes_then, goes_weaker, goes_images, each_then, each_weaker}
use Rattle.store_api.specs.Told.{Told}
use Rattle.kinds.specs.declared.refusal.Refusal.{Refusal}
use Rattle.kinds.specs.declared.refusal.Refusal.TheVariants.{LogFault}
use Rattle.log_file.specs.Blocks.{LogEnds}
use Rattle.log_file.specs.Steps.{Appended, Forced}
use Rattle.log_file.specs.Sure.{IsSure, HasWaiting}
use Rattle.log_file.proofs.Appending.{sure_waits}
use Rattle.entries.specs.declared.entry.Entry.{Entry}
use Rattle.entries.specs.EntryForm.{entry}
use Rattle.fields.specs.Editions.{second_form}
use Rattle.entries.specs.Meaning.{Meaning, IsLegal}
use Rattle.vault.specs.Files.{image_file, log_file, IsOurs}
use Rattle.vault.specs.Recovery.{Newest, records_of, after_all, AllLegal, RecoversWithin}
use Rattle.vault.specs.Vaults.{State, Holds, IsGood, IsHeld, IsPending, with_waiting, all_forced, in_doubt, with_fault, RefusesCommit, RefusesForce, RecoversToEither, IsLeft, Waits, Forces, Committed}
use Rattle.vault.specs.Pieces.{Pending}
use Rattle.vault.proofs.Leaving.{one_after, either_after}
use Rattle.vault.proofs.Piecing.{behind_more, pending_waiting, pending_forced, shut_log}
use Rattle.vault.proofs.Goodness.{image_log, log_ours, image_beside, older_beside, older_left, newest_left, held_since, held_is}

-- entries behind entries
pub after_join : {D : Type 0} (m : Meaning D) (base : D) (more entries : List Entry) → after_all m base (more ++ entries) ≡ after_all m (after_all m base entries) more
after_join m base [] entries = refl
after_join m base (e ∷ more) entries = ap (λ d. m.after d e) (after_join m base more entries)

pub legal_join : {D : Type 0} (m : Meaning D) (base : D) (more entries : List Entry) → AllLegal m base entries → AllLegal m (after_all m base entries) more → AllLegal m base (more ++ entries)
legal_join m base [] entries a b = a
legal_join m base (e ∷ more) entries a b = (b.0, subst (λ d. IsLegal m d e) (sym (after_join m base more entries)) b.1, legal_join m base more entries a b.2)

pub records_join : (more entries : List Entry) → records_of (more ++ entries) ≡ records_of entries ++ records_of more
records_join [] entries = sym (append-nil (records_of entries))
records_join (e ∷ more) entries = ap (λ (l : List (List ℕ)). l ++ entry.spell e ∷ []) (records_join more entries) ∙ append_assoc (records_of entries) (records_of more) (entry.spell e ∷ [])

-- nothing waits in a good vault
pub good_held : {D : Type 0} (m : Meaning D) (vault : State D) (h : History) → IsGood m vault h → IsHeld m vault vault.database h
good_held m vault h good = record {
  base = good.base;
  entries = good.entries;
  waiting = [];
  holds = subst (λ (n : ℕ). Holds m vault.generation good.base good.entries n h) (sym good.none) good.holds;
  gives = good.gives;
  log = subst (λ (n : ℕ). HasWaiting h (log_file vault.generation) (records_of good.entries) [] n vault.end) (sym good.none) (sure_waits h (log_file vault.generation) (records_of good.entries) vault.end good.holds.log);
  legal = tt;
  all = refl;
  are = ap (λ (l : List Entry). reverse l) (sym (drop_all vault.forced vault.journal (omega (arith, good.all))));
  within = omega (arith, good.all);
}

-- ---- nothing was done

pub not_waiting : {D T E : Type 0} (m : Meaning D) (vault next : State D) (e : Entry) (why : E) (h : History) → (let result : Result T E = Err why in Waits m vault e result next h h)
not_waiting m vault next e why h = record {
  goes = goes_none (λ other. other ≡ log_file vault.generation) h;
  held = tt;
  pends = tt;
  shut = shut_log m vault h h (goes_none (λ other. other ≡ log_file vault.generation) h);
  since = λ durable held. held_since m (λ file. ⊥) vault durable h h (λ file ours no. no) (goes_none (λ file. ⊥) h) held;
  left = λ durable held. held_is m vault durable h held;
}

pub none_forced : {D T E : Type 0} (m : Meaning D) (vault next : State D) (why : E) (h : History) → (let result : Result T E = Err why in Forces m vault result next h h)
none_forced m vault next why h = record {
  goes = goes_none (λ other. other ≡ log_file vault.generation) h;
  good = tt;
  pends = tt;
  shut = shut_log m vault h h (goes_none (λ other. other ≡ log_file vault.generation) h);
  since = λ durable held. each_weaker (now h) h _ _ (λ files recovers. inl recovers) (held_since m (λ file. ⊥) vault durable h h (λ file ours no. no) (goes_none (λ file. ⊥) h) held);
  left = λ durable held files left. inl (held_is m vault durable h held files left);
}

pub told_not_waiting : {D : Type 0} (x : Option History) (m : Meaning D) (vault next : State D) (e : Entry) (why : Refusal) → Told x x (λ old new. let result : Result ℕ Refusal = Err why in Waits m vault e result next old new)
told_not_waiting None m vault next e why = tt
told_not_waiting (Some h) m vault next e why = not_waiting m vault next e why h

pub told_none_forced : {D : Type 0} (x : Option History) (m : Meaning D) (vault next : State D) (why : Refusal) → Told x x (λ old new. let result : Result ℕ Refusal = Err why in Forces m vault result next old new)
told_none_forced None m vault next why = tt
told_none_forced (Some h) m vault next why = none_forced m vault next why h

-- ---- calls on the log leave the images alone

module _ {D : Type 0} (m : Meaning D) (vault : State D) (old new : History) (file : ℕ) (is_log : file ≡ log_file vault.generation) (goes : GoesOn (λ other. other ≡ file) old new) where
  goes_log : GoesOn (λ other. other ≡ log_file vault.generation) old new
  goes_log = subst (λ (n : ℕ). GoesOn (λ other. other ≡ n) old new) is_log goes

  goes_ours : GoesOn IsOurs old new
  goes_ours = goes_weaker (λ other. other ≡ log_file vault.generation) IsOurs old new (λ other here. subst IsOurs (sym here) (log_ours vault.generation)) goes_log

  module _ (durable : D) (held : IsHeld m vault durable old) where
    newest_since : EachImage (now old) new (λ files. Newest files vault.generation (m.spelled second_form held.base))
    newest_since moment files from to here =
        newest_left m vault.generation held.base held.entries vault.sure old files held.holds
        (goes_images (λ other. other ≡ log_file vault.generation) old new (image_file vault.generation) (image_log vault.generation vault.generation) goes_log moment files from to here)
        (older_left vault.generation (image_file (vault.generation + 1)) old (files (image_file (vault.generation + 1))) held.holds.other
        (goes_images (λ other. other ≡ log_file vault.generation) old new (image_file (vault.generation + 1)) (image_log (vault.generation + 1) vault.generation) goes_log moment files from to here))

    recovers_with : (files : ℕ → List ℕ) (entries : List Entry) → Newest files vault.generation (m.spelled second_form held.base) → LogEnds (files (log_file vault.generation)) (records_of entries) → AllLegal m held.base entries → RecoversWithin m files (after_all m held.base entries)
    recovers_with files entries newest log legal = record { form = second_form; generation = vault.generation; base = held.base; entries = entries; valid = held.holds.valid; newest = newest; log = log; legal = legal; gives = refl }

    -- the forced entries alone
    recovers_forced : (files : ℕ → List ℕ) → Newest files vault.generation (m.spelled second_form held.base) → LogEnds (files file) (records_of held.entries) → RecoversWithin m files durable
    recovers_forced files newest log = subst (RecoversWithin m files) (sym held.gives) (recovers_with files held.entries newest (subst (λ (n : ℕ). LogEnds (files n) (records_of held.entries)) is_log log) held.holds.legal)

    all_legal : AllLegal m held.base (held.waiting ++ held.entries)
    all_legal = legal_join m held.base held.waiting held.entries held.holds.legal (subst (λ (d : D). AllLegal m d held.waiting) held.gives held.legal)

    all_gives : vault.database ≡ after_all m held.base (held.waiting ++ held.entries)
    all_gives = held.all ∙ ap (λ (d : D). after_all m d held.waiting) held.gives ∙ sym (after_join m held.base held.waiting held.entries)

    -- and all of them
    recovers_all : (files : ℕ → List ℕ) → Newest files vault.generation (m.spelled second_form held.base) → LogEnds (files file) (records_of held.entries ++ records_of held.waiting) → RecoversWithin m files vault.database
    recovers_all files newest log =
        subst (RecoversWithin m files) (sym all_gives)
        (recovers_with files (held.waiting ++ held.entries) newest
        (subst (λ (n : ℕ). LogEnds (files n) (records_of (held.waiting ++ held.entries))) is_log (subst (LogEnds (files file)) (sym (records_join held.waiting held.entries)) log)) all_legal)

    -- the log under its other name
    waiting_there : HasWaiting old file (records_of held.entries) (records_of held.waiting) vault.sure vault.end
    waiting_there = subst (λ (n : ℕ). HasWaiting old n (records_of held.entries) (records_of held.waiting) vault.sure vault.end) (sym is_log) held.log

    holds_new : (entries : List Entry) (end : ℕ) → IsSure new file (records_of entries) end → AllLegal m held.base entries → Holds m vault.generation held.base entries end new
    holds_new entries end sure legal = record {
      image = image_beside (λ other. other ≡ log_file vault.generation) old new goes_log (image_file vault.generation) vault.generation (m.spelled second_form held.base) (image_log vault.generation vault.generation) held.holds.image;
      other = older_beside (λ other. other ≡ log_file vault.generation) old new goes_log vault.generation (image_file (vault.generation + 1)) (image_log (vault.generation + 1) vault.generation) held.holds.other;
      log = subst (λ (n : ℕ). IsSure new n (records_of entries) end) is_log sure;
      valid = held.holds.valid;
      legal = legal;
    }

-- ---- an entry is appended

module _ {D : Type 0} (m : Meaning D) (vault : State D) (e : Entry) (fits : entry.Fits e) (legal : IsLegal m vault.database e) (old new : History) (file : ℕ) (is_log : file ≡ log_file vault.generation) (payload : List ℕ) (spelled : payload ≡ entry.spell e) where
  module _ {E : Type 0} (result : Result (Unit {0}) E) (appended : Appended file vault.sure vault.end payload result old new) where
    since_append : (durable : D) → IsHeld m vault durable old → EachImage (now old) new (λ files. RecoversWithin m files durable)
    since_append durable held moment files from to here =
        recovers_forced m vault old new file is_log appended.goes durable held files (newest_since m vault old new file is_log appended.goes durable held moment files from to here)
        (appended.since (records_of held.entries) (records_of held.waiting) (waiting_there m vault old new file is_log appended.goes durable held) moment files from to here)

  pub not_appended : {T E F : Type 0} (failed : E) (why : F) (next : State D) → (let result : Result (Unit {0}) E = Err failed in Appended file vault.sure vault.end payload result old new) → (let result : Result T F = Err why in Waits m vault e result next old new)
  not_appended failed why next appended = record {
    goes = goes_log m vault old new file is_log appended.goes;
    held = tt;
    pends = tt;
    shut = shut_log m vault old new (goes_log m vault old new file is_log appended.goes);
    since = since_append (Err failed) appended;
    left = λ durable held. one_after m IsOurs durable old new (goes_ours m vault old new file is_log appended.goes) (since_append (Err failed) appended durable held);
  }

  pub is_appended : {T E F : Type 0} (number : T) (next : State D) → next ≡ with_waiting m vault e → (let result : Result (Unit {0}) E = Ok tt in Appended file vault.sure vault.end payload result old new) → (let result : Result T F = Ok number in Waits m vault e result next old new)
  is_appended {T} {E} number next is appended = record {
    goes = goes_log m vault old new file is_log appended.goes;
    held = λ durable held. subst (λ (v : State D). IsHeld m v durable new) (sym is) (held_next durable held);
    pends = λ snapshot pending. subst (λ (v : State D). IsPending m v snapshot new) (sym is) (pending_waiting m vault old new (goes_log m vault old new file is_log appended.goes) e fits legal snapshot pending);
    shut = shut_log m vault old new (goes_log m vault old new file is_log appended.goes);
    since = since_append {E = E} (Ok tt) appended;
    left = λ durable held. one_after m IsOurs durable old new (goes_ours m vault old new file is_log appended.goes) (since_append {E = E} (Ok tt) appended durable held);
  }
    where
      held_next : (durable : D) → IsHeld m vault durable old → IsHeld m (with_waiting m vault e) durable new
      held_next durable held =
          let there = waiting_there m vault old new file is_log appended.goes durable held in
          let more : HasWaiting new file (records_of held.entries) (records_of held.waiting ++ payload ∷ []) vault.sure (vault.end + (5 + length payload)) = appended.waits (records_of held.entries) (records_of held.waiting) there in
          record {
            base = held.base;
            entries = held.entries;
            waiting = e ∷ held.waiting;
            holds = holds_new m vault old new file is_log appended.goes durable held held.entries vault.sure more.durable held.holds.legal;
            gives = held.gives;
            log = subst (λ (n : ℕ). HasWaiting new n (records_of held.entries) (records_of (e ∷ held.waiting)) vault.sure (vault.end + (5 + length (entry.spell e)))) is_log
                (subst (λ (p : List ℕ). HasWaiting new file (records_of held.entries) (records_of held.waiting ++ p ∷ []) vault.sure (vault.end + (5 + length p))) spelled more);
            legal = (fits, subst (λ (d : D). IsLegal m d e) held.all legal, held.legal);
            all = ap (λ (d : D). m.after d e) held.all;
            are = ap (λ (l : List Entry). e ∷ l) held.are ∙ sym (behind_more vault.forced vault.journal e held.within);
            within = omega (arith, held.within, length-append vault.journal (e ∷ []));
          }

-- ---- what waits is forced

module _ {D : Type 0} (m : Meaning D) (vault : State D) (old new : History) (file : ℕ) (is_log : file ≡ log_file vault.generation) where
  module _ {E : Type 0} (result : Result (Unit {0}) E) (forced : Forced file vault.sure vault.end result old new) where
    since_force : (durable : D) → IsHeld m vault durable old → EachImage (now old) new (RecoversToEither m durable vault.database)
    since_force durable held moment files from to here =
        let newest = newest_since m vault old new file is_log forced.goes durable held moment files from to here in
        ⊎_elim
        (λ none. inl (recovers_forced m vault old new file is_log forced.goes durable held files newest none))
        (λ all. inr (recovers_all m vault old new file is_log forced.goes durable held files newest all))
        (forced.since (records_of held.entries) (records_of held.waiting) (waiting_there m vault old new file is_log forced.goes durable held) moment files from to here)

  pub not_forced : {T E F : Type 0} (failed : E) (why : F) (next : State D) → (let result : Result (Unit {0}) E = Err failed in Forced file vault.sure vault.end result old new) → (let result : Result T F = Err why in Forces m vault result next old new)
  not_forced failed why next forced = record {
    goes = goes_log m vault old new file is_log forced.goes;
    good = tt;
    pends = tt;
    shut = shut_log m vault old new (goes_log m vault old new file is_log forced.goes);
    since = since_force (Err failed) forced;
    left = λ durable held. either_after m IsOurs durable vault.database old new (goes_ours m vault old new file is_log forced.goes) (since_force (Err failed) forced durable held);
  }

  pub is_forced : {T E F : Type 0} (number : T) (next : State D) → next ≡ all_forced vault → (let result : Result (Unit {0}) E = Ok tt in Forced file vault.sure vault.end result old new) → (let result : Result T F = Ok number in Forces m vault result next old new)
  is_forced {T} {E} number next is forced = record {
    goes = goes_log m vault old new file is_log forced.goes;
    good = λ durable held. subst (λ (v : State D). IsGood m v new) (sym is) (good_next durable held);
    pends = λ snapshot pending. subst (λ (v : State D). IsPending m v snapshot new) (sym is) (pending_forced m vault old new (goes_log m vault old new file is_log forced.goes) snapshot pending);
    shut = shut_log m vault old new (goes_log m vault old new file is_log forced.goes);
    since = since_force {E = E} (Ok tt) forced;
    left = λ durable held. either_after m IsOurs durable vault.database old new (goes_ours m vault old new file is_log forced.goes) (since_force {E = E} (Ok tt) forced durable held);
  }
    where
      good_next : (durable : D) → IsHeld m vault durable old → IsGood m (all_forced vault) new
      good_next durable held = record {
        base = held.base;
        entries = held.waiting ++ held.entries;
        holds = holds_new m vault old new file is_log forced.goes durable held (held.waiting ++ held.entries) vault.end
            (subst (λ (l : List (List ℕ)). IsSure new file l vault.end) (sym (records_join held.waiting held.entries)) (forced.durable (records_of held.entries) (records_of held.waiting) (waiting_there m vault old new file is_log forced.goes durable held)))
            (all_legal m vault old new file is_log forced.goes durable held);
        gives = all_gives m vault old new file is_log forced.goes durable held;
        none = refl;
        all = refl;
      }

-- ---- an entry is committed and forced

-- calls on a log are on the vault's files
pub log_goes : (generation : ℕ) (old new : History) → GoesOn (λ file. file ≡ log_file generation) old new → GoesOn IsOurs old new
log_goes generation old new goes = goes_weaker (λ file. file ≡ log_file generation) IsOurs old new (λ file here. subst IsOurs (sym here) (log_ours generation)) goes

module _ {D : Type 0} (m : Meaning D) (vault : State D) (e : Entry) where
  -- it was refused before, or by the append
  pub not_committed : {T E : Type 0} (why : E) (next : State D) (old new : History) → (let result : Result T E = Err why in Waits m vault e result next old new) → (let result : Result T E = Err why in Committed m vault e result next old new)
  not_committed why next old new waits = record {
    goes = log_goes vault.generation old new waits.goes;
    good = tt;
    since = λ good. each_weaker (now old) new _ _ (λ files recovers. inl recovers) (waits.since vault.database (good_held m vault old good));
    left = λ good files left. inl (waits.left vault.database (good_held m vault old good) files left);
  }

  module _ (mid : State D) (is_mid : mid ≡ with_waiting m vault e) (old then new : History) {T F : Type 0} (number : T) (waits : (let result : Result T F = Ok number in Waits m vault e result mid old then)) where
    held_mid : IsGood m vault old → IsHeld m mid vault.database then
    held_mid good = waits.held vault.database (good_held m vault old good)

    database_mid : mid.database ≡ m.after vault.database e
    database_mid = ap (λ (v : State D). v.database) is_mid

    module _ {E : Type 0} (result : Result T E) (next : State D) (forces : Forces m mid result next then new) where
      since_both : IsGood m vault old → EachImage (now old) new (RecoversToEither m vault.database (m.after vault.database e))
      since_both good =
          each_then IsOurs old then new (RecoversToEither m vault.database (m.after vault.database e)) (log_goes mid.generation then new forces.goes)
          (each_weaker (now old) then _ _ (λ files recovers. inl recovers) (waits.since vault.database (good_held m vault old good)))
          (subst (λ (d : D). EachImage (now then) new (RecoversToEither m vault.database d)) database_mid (forces.since vault.database (held_mid good)))

      left_both : IsGood m vault old → IsLeft (RecoversToEither m vault.database (m.after vault.database e)) new
      left_both good = subst (λ (d : D). IsLeft (RecoversToEither m vault.database d) new) database_mid (forces.left vault.database (held_mid good))

    pub is_committed : {E : Type 0} (also : T) (next : State D) → (let result : Result T E = Ok also in Forces m mid result next then new) → (let result : Result T E = Ok number in Committed m vault e result next old new)
    is_committed also next forces = record {
      goes = goes_then IsOurs old then new (log_goes vault.generation old then waits.goes) (log_goes mid.generation then new forces.goes);
      good = λ good. forces.good vault.database (held_mid good);
      since = since_both (Ok also) next forces;
      left = left_both (Ok also) next forces;
    }

    pub in_doubt_then : {E : Type 0} (why : E) (next : State D) → (let result : Result T E = Err why in Forces m mid result next then new) → (let result : Result T E = Err why in Committed m vault e result next old new)
    in_doubt_then why next forces = record {
      goes = goes_then IsOurs old then new (log_goes vault.generation old then waits.goes) (log_goes mid.generation then new forces.goes);
      good = tt;
      since = since_both (Err why) next forces;
      left = left_both (Err why) next forces;
    }

  -- why it was refused by the force
  pub refused_then : (mid next : State D) → mid ≡ with_waiting m vault e → vault.fault ≡ None → (before between after : ℕ → ℕ) → ((file : ℕ) → before file ≤ between file) → (refusal : Refusal) (same same_all : Type 0) → RefusesForce mid between after refusal next same → RefusesCommit m vault e before after refusal next same_all
  refused_then mid next is none before between after fell refusal same same_all refuses =
      ⊎_elim
      (λ halted. absurd (let gone : None ≡ Some (halted.0.0, halted.0.1) = sym (ap (λ (v : State D). v.fault) is) ∙ halted.0.2 in cc))
      (λ failed.
      let at : mid.generation ≡ vault.generation = ap (λ (v : State D). v.generation) is in
      let refusal_is : refusal ≡ LogFault (log_file vault.generation) (after (log_file vault.generation)) = subst (λ (n : ℕ). refusal ≡ LogFault (log_file n) (after (log_file n))) at failed.1 in
      let rose : Rose (between (log_file vault.generation)) (after (log_file vault.generation)) = subst (λ (n : ℕ). Rose (between (log_file n)) (after (log_file n))) at failed.2 in
      let next_is : next ≡ with_fault mid (log_file vault.generation) (after (log_file vault.generation)) = subst (λ (n : ℕ). next ≡ with_fault mid (log_file n) (after (log_file n))) at failed.3 in
      inr (none, refusal_is, omega (arith, rose, fell (log_file vault.generation)), (vault.end + (5 + length (entry.spell e)), next_is ∙ ap (λ (v : State D). with_fault v (log_file vault.generation) (after (log_file vault.generation))) is)))
      refuses

-- the vault with an entry that waits, from its parts
pub waiting_is : {D : Type 0} (m : Meaning D) (generation forced sure new_sure end new_end : ℕ) (database next : D) (journal entries : List Entry) (fault now_fault : Option (ℕ × ℕ)) (pending now_pending : Option Pending) (e : Entry) (framed : List ℕ) (vault : State D)
    → record { generation = generation; database = database; journal = journal; forced = forced; sure = sure; end = end; fault = fault; pending = pending } ≡ vault → next ≡ m.after database e → entries ≡ journal ++ e ∷ [] → framed ≡ entry.spell e → new_sure ≡ sure → new_end ≡ end + (5 + length framed) → now_fault ≡ None → now_pending ≡ pending
    → record { generation = generation; database = next; journal = entries; forced = forced; sure = new_sure; end = new_end; fault = now_fault; pending = now_pending } ≡ with_waiting m vault e
waiting_is {D} m generation forced sure new_sure end new_end database next journal entries fault now_fault pending now_pending e framed vault view d j spelled s ends none same =
    subst (λ (v : State D). record { generation = generation; database = next; journal = entries; forced = forced; sure = new_sure; end = new_end; fault = now_fault; pending = now_pending } ≡ with_waiting m v e) view
    (rw (d, j, s, ends, spelled, none, same) refl)

-- the vault where nothing waits, from its parts
pub forced_is : {D : Type 0} (generation forced now_forced sure new_sure end new_end : ℕ) (database : D) (journal : List Entry) (fault now_fault : Option (ℕ × ℕ)) (pending now_pending : Option Pending) (vault : State D)
    → record { generation = generation; database = database; journal = journal; forced = forced; sure = sure; end = end; fault = fault; pending = pending } ≡ vault → now_forced ≡ length journal → new_sure ≡ end → new_end ≡ end → now_fault ≡ None → now_pending ≡ pending
    → record { generation = generation; database = database; journal = journal; forced = now_forced; sure = new_sure; end = new_end; fault = now_fault; pending = now_pending } ≡ all_forced vault
forced_is {D} generation forced now_forced sure new_sure end new_end database journal fault now_fault pending now_pending vault view f s ends none same =
    subst (λ (v : State D). record { generation = generation; database = database; journal = journal; forced = now_forced; sure = new_sure; end = new_end; fault = now_fault; pending = now_pending } ≡ all_forced v) view
    (rw (f, s, ends, none, same) refl)

-- the vault with an entry in doubt, from its parts
pub doubted_is : {D : Type 0} (m : Meaning D) (generation forced sure new_sure end new_end : ℕ) (database next : D) (journal entries : List Entry) (fault : Option (ℕ × ℕ)) (pending : Option Pending) (file count : ℕ) (e : Entry) (vault : State D)
    → record { generation = generation; database = database; journal = journal; forced = forced; sure = sure; end = end; fault = fault; pending = pending } ≡ vault → next ≡ m.after database e → entries ≡ journal ++ e ∷ [] → new_sure ≡ sure
    → record { generation = generation; database = next; journal = entries; forced = forced; sure = new_sure; end = new_end; fault = Some (file, count); pending = None } ≡ in_doubt m vault e new_end file count
doubted_is {D} m generation forced sure new_sure end new_end database next journal entries fault pending file count e vault view d j s =
    subst (λ (v : State D). record { generation = generation; database = next; journal = entries; forced = forced; sure = new_sure; end = new_end; fault = Some (file, count); pending = None } ≡ in_doubt m v e new_end file count) view (rw (d, j, s) refl)
