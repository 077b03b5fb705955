-- An object for which a filespace isn't deleted in a block was brought there by a step among its line's turns, behind the one that listed what is there: what was listed was discarded, or was there no more, and what wasn't listed wasn't there.
use Rattle.std.proofs.Common.{◌≡◌, ◌⊎◌, inl, inr, ℕ, ◌+◌, ◌^◌, nat_le, nat_lt, is_some, if◌then◌else◌, Bool, true, false, eqb, ◌||◌, List, [], ◌∷◌, ◌++◌, map, Option, None, Some, Result, Ok, Err, refl, sym, ap, subst, ◌∙◌, append_assoc}
use Rattle.std.proofs.lemmas.Bool.{eqb-true, false≢true}
use Rattle.std.proofs.lemmas.List.{append-nil}
use Rattle.std.proofs.lemmas.Option.{same_Some}
use Rattle.std.specs.List.{AllByRecursion, list_any}
use Rattle.kinds.specs.Refusals.{unless}
use Rattle.kinds.specs.declared.refusal.By.TheVariants as by
use Rattle.kinds.specs.declared.refusal.Refusal.{Refusal}
use Rattle.kinds.specs.declared.refusal.Refusal.TheVariants as refused
use Rattle.entries.specs.change_items.declared.lists.DiscardedVersions.{DiscardedVersions}
use Rattle.entries.specs.change_items.declared.reasons.DiscardReason.TheVariants as because
use Rattle.entries.specs.declared.change.Change.{Change}
use Rattle.entries.specs.declared.change.Change.TheVariants as change
use Rattle.entries.specs.declared.entry.Entry.{Entry}
use Rattle.inventory_rows.specs.Items.{count_items, most_items}
use Rattle.inventory_rows.specs.Search.{filespace_of}
use Rattle.inventory_rows.specs.State.{Inv}
use Rattle.inventory_rules.specs.Common.{full_at}
use Rattle.inventory_rules.specs.Journal.{Journal}
use Rattle.inventory_rules.specs.Transactions.{causes, effect, refused as refused_by, sizes_refused}
use Rattle.inventory_laws.proofs.Facts.{facts_of}
use Rattle.inventory_laws.proofs.VersionsWhole.{begins}
use Rattle.inventory_rows.specs.object_rows.Filespaces.{filespace_at, groups_in}
use Rattle.inventory_rows.specs.version_groups.Entries.{on_ok}
use Rattle.inventory_rows.specs.version_groups.declared.groups.Filespace.{Filespace}
use Rattle.inventory_answers.specs.Answered.{rows_of}
use Rattle.inventory_answers.specs.Clients.{versions_at}
use Rattle.inventory_answers.specs.Held.{held_lines}
use Rattle.inventory_answers.specs.declared.lines.HeldLine.{HeldLine}
use Rattle.inventory_answers.specs.declared.lines.VersionLine.{VersionLine}
use Rattle.inventory_answers.specs.declared.query.Query.{Query}
use Rattle.inventory_answers.specs.declared.query.Query.TheVariants as query
use Rattle.inventory_answers.specs.declared.reply.Answer.{Answer}
use Rattle.inventory_answers.specs.declared.reply.Rows.{Rows}
use Rattle.inventory_answers.specs.declared.reply.Rows.TheVariants as rows
use Rattle.steps.specs.Calls.{Then}
use Rattle.steps.specs.Events.{Deed, Event, refusal}
use Rattle.steps.specs.Events.Deed.{Ask, Commit}
use Rattle.machine.specs.Alone.{Moves, with_contents}
use Rattle.machine.specs.Causes.{change_illegal, change_refused}
use Rattle.machine.specs.Machine.{Case, Commits, Places, answer_with, ended, last_moment}
use Rattle.machine.specs.State.{Core, Machine, after, inventory, sight}
use Rattle.machine.specs.Turns.{Turn, events_of}
use Rattle.machine.proofs.Elsewhere.{append-all, ended-all, foremost-all, none-held, unless-all}
use Rattle.machine.proofs.Histories.{after-append}
use Rattle.crew.specs.Ran.{Turned}
use Rattle.line_results.specs.command_steps.Answers.{halt_by}
use Rattle.line_results.specs.copy_attempts.Attempts.{is_passed}
use Rattle.line_results.specs.copy_attempts.Outcomes.{MetBy}
use Rattle.line_results.specs.deletions.Discarding.{Handles, discarded, discarding}
use Rattle.line_results.specs.deletions.Filespaces.{Found, IsKept, deleting, is_kept_by, of_held, of_version}
use Rattle.line_results.specs.Resting.{database}
use Rattle.line_results.specs.Sound.{HasSoundRows}
use Rattle.line_results.proofs.Bounds.{listed-all, refused-all}
use Rattle.line_results.proofs.Discarded.{discarded-left}
use Rattle.line_results.proofs.Emptied.{any-discarded, any-split, legal-causes}
use Rattle.line_results.proofs.Listed.{IsBare, IsDoomed, IsHeldLine, IsLine, alone_of, any-left, any-map, any-right, is-legal}
use Rattle.line_results.proofs.SoundRows.{sound-one}
use Rattle.line_results.proofs.Types.{Doomed}
use Rattle.block_results.specs.Filled.{IsBroughtIn, IsLeastIn, IsListing, is_held_in, is_version_in}
use Rattle.block_results.specs.Legal.{BringsTo, Passes}
use Rattle.block_results.specs.Processes.{IsFilespace, MayEmpty}
use Rattle.block_results.specs.Refusing.{Failed, IsRefusedFor, Meets}
use Rattle.block_results.proofs.BySteps.{core-left}
use Rattle.block_results.proofs.Fitting.{met-first, met-next}
use Rattle.block_results.proofs.InOrder.{Split, Stood, passes-before, split, stood, stood-within}
use Rattle.block_results.proofs.Inside.{held-kept, held-listed, least-inside, version-kept, versions-shown}
use Rattle.block_results.proofs.Reasons.{moved-for}
use Rattle.block_results.proofs.Removing.{IsUsed, row-used}
use Rattle.block_results.proofs.Rows.{rows-told}
use Rattle.block_results.proofs.Sounding.{AreSound, asked-free, halted-none, legal-commit, met-sound, turned-sound}
use Rattle.block_results.proofs.Turned.{turned-join}

-- ---- what came

module _ (trusted : Type 0) (places : Places) where
  -- a step of these turns met a state at which this wasn't there, and left one at which it was
  abbrev pub Comes : (Inv → Bool) → List Turn → (old new : Machine) → Type 0
  Comes p turns old new = (t : Turn) × (m : Meets trusted places turns old new t) × (p (database m.before) ≡ false) × (p (database m.after) ≡ true)

  more : (p : Inv → Bool) (t : Turn) (turns : List Turn) (old next new : Machine) → Moves trusted places t.actor t.did old next → Comes p turns next new → Comes p (t ∷ turns) old new
  more p t turns old next new made (b, m, none, some) = (
    b,
    record { front = t ∷ m.front; back = m.back; parts = ap (λ (l : List Turn). t ∷ l) m.parts; before = m.before; after = m.after; led = (next, made, m.led); made = m.made; leads = m.leads },
    none,
    some,
  )

  widen : (p : Inv → Bool) (xs ys : List Turn) (old mid new : Machine) → Turned trusted places xs old mid → Comes p ys mid new → Comes p (xs ++ ys) old new
  widen p [] ys old mid new is c = subst (λ (m : Machine). Comes p ys m new) is c
  widen p (x ∷ xs) ys old mid new (next, made, rest) c = more p x (xs ++ ys) old next new made (widen p xs ys next mid new rest c)

  -- what isn't there before the turns, and is behind them, came
  pub rises : (p : Inv → Bool) (turns : List Turn) (old new : Machine) → Turned trusted places turns old new → p (database old) ≡ false → p (database new) ≡ true → Comes p turns old new
  rises p [] old new is none some = absurd (false≢true (sym none ∙ sym (ap (λ (m : Machine). p (database m)) is) ∙ some))
  rises p (t ∷ turns) old new (next, made, rest) none some = elim (p (database next)) as (λ b. p (database next) ≡ b → Comes p (t ∷ turns) old new) [
    | true ↦ λ now. (t, record { front = []; back = turns; parts = refl; before = old; after = next; led = refl; made = made; leads = rest }, none, now)
    | false ↦ λ still. more p t turns old next new made (rises p turns next new rest still some)
  ] refl

-- ---- what was listed

module _ (filespace k : ℕ) where
  abbrev those : List Doomed → DiscardedVersions
  those run = record { reason = because.Filespace filespace; items = map discarded run }

  -- a step discarded it with others, or found it alone to be gone, or not as it was listed
  abbrev pub IsHandling : Deed → Type 0
  IsHandling d =
      ((run : List Doomed) × (number : ℕ) × (list_any (IsDoomed k) run ≡ true) × (d ≡ Commit (discarding (because.Filespace filespace) run) [] (Ok number)))
      ⊎ ((it : Doomed) × (why : Refusal) × (eqb it.object k ≡ true) × (is_passed why ≡ true) × (d ≡ Commit (discarding (because.Filespace filespace) (it ∷ [])) [] (Err why)))

  handled-met : (events : List Event) (objects : List Doomed) → Handles (because.Filespace filespace) objects events → list_any (IsDoomed k) objects ≡ true → MetBy IsHandling events
  handled-met [] objects none h = absurd (false≢true (ap (list_any (IsDoomed k)) (sym none) ∙ h))
  handled-met (e ∷ events) objects (inl (run, rest, is, (n, number, few, same), others)) h = elim (list_any (IsDoomed k) run) as (λ b. list_any (IsDoomed k) run ≡ b → IsHandling e.deed ⊎ MetBy IsHandling events) [
    | true ↦ λ among. inl (inl (run, number, among, ap (λ (x : Event). x.deed) same))
    | false ↦ λ other. inr (handled-met events rest others (any-split k run rest (ap (list_any (IsDoomed k)) (sym is) ∙ h) other))
  ] refl
  handled-met (e ∷ events) objects (inr (inl (it, rest, is, (n, why, passed, same), others))) h = elim (eqb it.object k) as (λ b. eqb it.object k ≡ b → IsHandling e.deed ⊎ MetBy IsHandling events) [
    | true ↦ λ it_is. inl (inr (it, why, it_is, passed, ap (λ (x : Event). x.deed) same))
    | false ↦ λ other. inr (handled-met events rest others (ap (λ (b : Bool). b || list_any (IsDoomed k) rest) (sym other) ∙ ap (list_any (IsDoomed k)) (sym is) ∙ h))
  ] refl
  handled-met (e ∷ events) objects (inr (inr (refuses, others))) h = inr (handled-met events objects others h)

  -- behind its discard it isn't kept there
  discards-leave : (actor : ℕ) (run : List Doomed) (number : ℕ) (old next : Machine) → AreSound old.core → list_any (IsDoomed k) run ≡ true → Commits actor (discarding (because.Filespace filespace) run) [] old next (Ok number)
      → HasSoundRows (inventory next.core) × (filespace_of k (inventory next.core) ≡ Some filespace → ⊥)
  discards-leave actor run number old next sounds among h =
      let c : DiscardedVersions = those run in
      let w : Change = change.Discard c in
      let v : Inv = inventory old.core in
      let j : Journal = (sight actor old.core).journal in
      let same : h.1.0 ≡ w = sym (same_Some w h.1.0 h.1.1) in
      let legal : refused_by j w v ≡ None =
      subst (λ (x : Change). refused_by j x v ≡ None) same (legal-commit actor (discarding (because.Filespace filespace) run) [] _ old h.1.0 h.1.1 h.0) in
      let is : inventory next.core ≡ effect w v =
      ap (λ (x : Inv). after x next.core.journal) (ap (λ (d : Core). d.base) h.1.3.0) ∙ ap (λ (l : List Entry). after old.core.base l) (ap (λ (d : Core). d.journal) h.1.3.0)
      ∙ after-append old.core.base old.core.journal (record { actor = actor; change = h.1.0 } ∷ []) ∙ ap (λ (x : Change). effect x v) same in
      let sound : HasSoundRows v = sounds (halted-none (nat_lt old.moment last_moment) old.core.fault _ (none-held _ h.0)) in (
        subst HasSoundRows (sym is) (sound-one j w v sound legal),
        λ kept.
            (let was = discarded-left filespace j c v sound.valid sound.rows (legal-causes j w v legal) k (sym (ap (filespace_of k) is) ∙ kept) in
            false≢true (sym (sym (any-discarded k run) ∙ was.1) ∙ among)),
      )

  -- and it is passed over only where it isn't kept there
  failed-not : (actor : ℕ) (d : Deed) (before after_it : Machine) (e : Refusal) → is_passed e ≡ true → Failed actor d before after_it e → ⊥
  failed-not actor d before after_it (refused.WriteFault file) passed h = absurd cc
  failed-not actor d before after_it (refused.LogFault file count) passed h = absurd cc
  failed-not actor d before after_it refused.Unavailable passed h = absurd cc
  failed-not actor d before after_it refused.InventoryFull passed h = absurd cc
  failed-not actor d before after_it e passed h = absurd h

  not-passed : (places : Places) (actor : ℕ) (it : Doomed) (why : Refusal) (before after_it : Machine) → HasSoundRows (database before) → filespace_of it.object (database before) ≡ Some filespace → is_passed why ≡ true
      → IsRefusedFor places actor (Commit (discarding (because.Filespace filespace) (it ∷ [])) [] (Err why)) before after_it why → ⊥
  not-passed places actor it why before after_it sound kept passed for = by for where
    v : Inv
    v = database before

    w : Change
    w = alone_of filespace it

    cause : causes (sight actor before.core).journal w v ≡ []
    cause = is-legal filespace v.number (sight actor before.core).journal it v (begins v (facts_of v sound.valid)) sound.rows kept

    sizes : AllByRecursion IsBare (sizes_refused w v)
    sizes =
        append-all IsBare (unless (nat_le (count_items (effect w v)) most_items) refused.InventoryFull) (full_at v.number (2 ^ 62))
        (unless-all IsBare (nat_le (count_items (effect w v)) most_items) refused.InventoryFull (λ is. cc)) (unless-all IsBare (nat_lt (v.number + 1) (2 ^ 62)) refused.InventoryFull (λ is. cc))

    own : AllByRecursion IsBare (change_refused actor (Some w) (sight actor before.core))
    own =
        append-all IsBare (change_illegal w (sight actor before.core)) _
        (listed-all IsBare (refused_by (sight actor before.core).journal w v)
        (λ y is. refused-all IsBare (sight actor before.core).journal w v y (λ is. cc) (subst (λ (l : List Refusal). AllByRecursion IsBare l) (sym cause) tt) sizes is)) (unless-all IsBare _ refused.RecordFull (λ is. cc))

    by : IsRefusedFor places actor (Commit (discarding (because.Filespace filespace) (it ∷ [])) [] (Err why)) before after_it why → ⊥
    by (inl h) = foremost-all IsBare (change_refused actor (Some w) (sight actor before.core)) own why h passed
    by (inr (inl h)) = h
    by (inr (inr (inl h))) = absurd cc
    by (inr (inr (inr (inl h)))) = absurd cc
    by (inr (inr (inr (inr (inl h))))) = foremost-all IsBare (ended before) (ended-all IsBare (λ is. cc) (λ file count is. cc) before) why h passed
    by (inr (inr (inr (inr (inr (inl h)))))) = failed-not actor (Commit (discarding (because.Filespace filespace) (it ∷ [])) [] (Err why)) before after_it why passed h
    by (inr (inr (inr (inr (inr (inr h)))))) = (let odd : is_passed refused.Memory ≡ true = subst (λ (x : Refusal). is_passed x ≡ true) h passed in absurd cc)

passed-mild : (e : Refusal) → is_passed e ≡ true → halt_by e ≡ None
passed-mild (refused.LogFault file count) h = absurd cc
passed-mild refused.RunFull h = absurd cc
passed-mild refused.Memory h = absurd cc
passed-mild e h = refl

-- ---- a run

module _ (trusted : Type 0) (places : Places) (actor filespace k : ℕ) (p : Inv → Bool) (kept : (v : Inv) → HasSoundRows v → p v ≡ true → filespace_of k v ≡ Some filespace)
    (mine rest : List Turn) (mid last m : Machine) (ran : Turned trusted places rest last m) (some : p (database m) ≡ true) where
  none-in : (v : Inv) → HasSoundRows v → (filespace_of k v ≡ Some filespace → ⊥) → p v ≡ false
  none-in v sound gone = go (p v) refl where
    go : (b : Bool) → p v ≡ b → b ≡ false
    go true h = absurd (gone (kept v sound h))
    go false h = refl

  -- where it wasn't there behind one of these steps, or before it
  behind-it : (Q : Deed → Type 0) (z : Stood trusted places actor Q mine mid last) → Comes trusted places p (z.turn ∷ (z.meets.back ++ rest)) z.meets.before m → Comes trusted places p (mine ++ rest) mid m
  behind-it Q z c =
      subst (λ (l : List Turn). Comes trusted places p l mid m) (sym (append_assoc z.meets.front (z.turn ∷ z.meets.back) rest) ∙ ap (λ (l : List Turn). l ++ rest) (sym z.meets.parts))
      (widen trusted places p z.meets.front (z.turn ∷ (z.meets.back ++ rest)) mid z.meets.before m z.meets.led c)

  tail : (Q : Deed → Type 0) (z : Stood trusted places actor Q mine mid last) → Turned trusted places (z.meets.back ++ rest) z.meets.after m
  tail Q z = turned-join trusted places z.meets.back rest z.meets.after last m z.meets.leads ran

  pub from-after : (Q : Deed → Type 0) (z : Stood trusted places actor Q mine mid last) → p (database z.meets.after) ≡ false → Comes trusted places p (mine ++ rest) mid m
  from-after Q z none =
      behind-it Q z (more trusted places p z.turn (z.meets.back ++ rest) z.meets.before z.meets.after m z.meets.made (rises trusted places p (z.meets.back ++ rest) z.meets.after m (tail Q z) none some))

  from-before : (Q : Deed → Type 0) (z : Stood trusted places actor Q mine mid last) → p (database z.meets.before) ≡ false → Comes trusted places p (mine ++ rest) mid m
  from-before Q z none = behind-it Q z (rises trusted places p (z.turn ∷ (z.meets.back ++ rest)) z.meets.before m (z.meets.after, z.meets.made, tail Q z) none some)

  -- what was handled came then
  pub from-handled : AreSound mid.core → Stood trusted places actor (IsHandling filespace k) mine mid last → Comes trusted places p (mine ++ rest) mid m
  from-handled sounds z = by z.is where
    mine-made : Moves trusted places actor z.turn.did z.meets.before z.meets.after
    mine-made = subst (λ (a : ℕ). Moves trusted places a z.turn.did z.meets.before z.meets.after) z.mine z.meets.made

    sound-there : AreSound z.meets.before.core
    sound-there = turned-sound trusted places z.meets.front mid z.meets.before z.meets.led sounds

    by : IsHandling filespace k z.turn.did.deed → Comes trusted places p (mine ++ rest) mid m
    by (inl (run, number, among, is)) =
        let made = mine-made in
        let step : Commits actor (discarding (because.Filespace filespace) run) [] (with_contents made.seen z.meets.before) made.next (Ok number) = subst (λ (d : Deed). Case places actor d (with_contents made.seen z.meets.before) made.next) is made.made.step in
        let left = discards-leave filespace k actor run number (with_contents made.seen z.meets.before) made.next sound-there among step in
        let same : database z.meets.after ≡ inventory made.next.core = ap inventory (ap (λ (x : Machine). x.core) made.left ∙ core-left z.turn.did.deed z.meets.before.contents made.next) in
        from-after (IsHandling filespace k) z (ap p same ∙ none-in (inventory made.next.core) left.0 left.1)
    by (inr (it, why, it_is, passed, is)) =
        let made = mine-made in
        let refuses : refusal z.turn.did.deed ≡ Some why = ap refusal is in
        let sound : HasSoundRows (database z.meets.before) = met-sound trusted places actor z.turn.did why z.meets.before z.meets.after (passed-mild why passed) refuses made sound-there in
        let for = subst (λ (d : Deed). IsRefusedFor places actor d z.meets.before z.meets.after why) is (moved-for trusted places actor z.turn.did z.meets.before z.meets.after why made refuses) in
        from-before (IsHandling filespace k) z
        (none-in (database z.meets.before) sound
        (λ in_it. not-passed filespace k places actor it why z.meets.before z.meets.after sound (ap (λ (n : ℕ). filespace_of n (database z.meets.before)) (eqb-true it.object k it_is) ∙ in_it) passed for))

-- ---- the whole

regroup : (front a v h x w back : List Event) → front ++ ((a ++ (((v ++ h) ++ x) ++ w)) ++ back) ≡ (front ++ (a ++ v)) ++ ((h ++ x) ++ (w ++ back))
regroup front a v h x w back =
    ap (λ (l : List Event). front ++ l)
    (append_assoc a (((v ++ h) ++ x) ++ w) back
    ∙ ap (λ (l : List Event). a ++ l) (append_assoc ((v ++ h) ++ x) w back ∙ ap (λ (l : List Event). l ++ (w ++ back)) (append_assoc v h x) ∙ append_assoc v (h ++ x) (w ++ back)) ∙ sym (append_assoc a v ((h ++ x) ++ (w ++ back))))
    ∙ sym (append_assoc front (a ++ v) ((h ++ x) ++ (w ++ back)))

-- a question that was answered changed nothing, and showed the database's rows
asked-so : (trusted : Type 0) (places : Places) (actor : ℕ) (q : Query) (a : Answer) (did : Event) (old new : Machine) → ((n : ℕ) (x : Answer) → answer_with n q x ≡ x) → Moves trusted places actor did old new → did.deed ≡ Ask q (Ok a)
    → (new.core ≡ old.core) × (rows_of q (database old) ≡ Ok a.rows) × (old.core.fault ≡ None)
asked-so trusted places actor q a did old new plain m is =
    let g : Case places actor (Ask q (Ok a)) (with_contents m.seen old) m.next = subst (λ (d : Deed). Case places actor d (with_contents m.seen old) m.next) is m.made.step in (
      ap (λ (x : Machine). x.core) m.left ∙ core-left did.deed old.contents m.next ∙ g.1.1.core,
      (rows-told (rows_of q (database old)) (database old).number (database old).today a (g.1.0.1 ∙ ap (λ (x : Answer). Ok x) (sym (g.1.0.2 ∙ plain old.core.log_length g.1.0.0)))).0,
      asked-free places actor q a (with_contents m.seen old) m.next g,
    )

versions-same : (xs ys : List VersionLine) → ◌≡◌ {A = Result Rows Refusal} (Ok (rows.Versions xs)) (Ok (rows.Versions ys)) → xs ≡ ys
versions-same xs ys h = cc

held-same : (xs ys : List HeldLine) → ◌≡◌ {A = Result Rows Refusal} (Ok (rows.Held xs)) (Ok (rows.Held ys)) → xs ≡ ys
held-same xs ys h = cc

module _ (trusted : Type 0) (places : Places) (actor filespace : ℕ) (turns : List Turn) (old new : Machine) (ran : Turned trusted places turns old new) (sounds : AreSound old.core) where
  abbrev Is : Machine → Type 0
  Is m = Passes trusted places turns old new m

  abbrev pub IsStillKept : Refusal → Type 0
  IsStillKept e = (object : ℕ) × (e ≡ refused.InUse (by.Object object)) × ((m : Machine) × Is m × IsLeastIn filespace object (database m) × IsBroughtIn (BringsTo trusted places actor turns old new) filespace object m)

  pub kept-brought : (may : MayEmpty Is filespace) (front did back : List Event) (e : Refusal) → events_of actor turns ≡ front ++ (did ++ back) → is_kept_by e ≡ true
      → Then (λ l. Found filespace l (record { node = may.0; name = may.1 })) (λ l. IsKept filespace (record { node = may.0; name = may.1 }) l e) did → IsStillKept e
  kept-brought may front did back e cut kept
      (a, b, apart, found, (count, (c, w, apart_row, (objects, (o, x, apart_each, (versions, held, are, (v, h, apart_lists, (first, (n_first, one_first), shown_first), (next, (n_next, one_next), shown_next))), handled)), (n, name, one)))) =
      (k, used.1, (m, here, used.2, brought))
    where
      First : Deed → Type 0
      First d = d ≡ Ask (query.Versions may.0 may.1) (Ok first)

      Next : Deed → Type 0
      Next d = d ≡ Ask (query.Held filespace) (Ok next)

      Row : Deed → Type 0
      Row d = d ≡ Commit (deleting name filespace) [] (Err e)

      s : Split trusted places actor (front ++ (a ++ v)) ((h ++ x) ++ (w ++ back)) turns old new
      s =
          split trusted places actor (front ++ (a ++ v)) ((h ++ x) ++ (w ++ back)) turns old new
          (cut
          ∙ ap (λ (l : List Event). front ++ (l ++ back)) (apart ∙ ap (λ (l : List Event). a ++ l) (apart_row ∙ ap (λ (l : List Event). l ++ w) (apart_each ∙ ap (λ (l : List Event). l ++ x) apart_lists)))
          ∙ regroup front a v h x w back) ran

      t : Split trusted places actor (h ++ x) (w ++ back) s.others s.mid new
      t = split trusted places actor (h ++ x) (w ++ back) s.others s.mid new s.rest s.leads

      q : Stood trusted places actor First s.mine old s.mid
      q =
          stood trusted places actor First s.mine old s.mid s.led
          (subst (λ (l : List Event). MetBy First l) (sym s.own) (met-next front (a ++ v) First (met-next a v First (subst (λ (l : List Event). MetBy First l) (sym one_first) (inl refl)))))

      z : Stood trusted places actor Next t.mine s.mid t.mid
      z = stood trusted places actor Next t.mine s.mid t.mid t.led (subst (λ (l : List Event). MetBy Next l) (sym t.own) (met-first h x Next (subst (λ (l : List Event). MetBy Next l) (sym one_next) (inl refl))))

      r : Stood trusted places actor Row t.others t.mid new
      r = stood trusted places actor Row t.others t.mid new t.leads (subst (λ (l : List Event). MetBy Row l) (sym t.rest) (met-first w back Row (subst (λ (l : List Event). MetBy Row l) (sym one) (inl refl))))

      m : Machine
      m = r.meets.before

      mid-sound : AreSound s.mid.core
      mid-sound = turned-sound trusted places s.mine old s.mid s.led sounds

      -- where each stands among all
      q-all : Stood trusted places actor First turns old new
      q-all = stood-within trusted places actor First [] s.mine s.others turns old old s.mid new s.parts refl s.leads q

      within : (Q : Deed → Type 0) → Stood trusted places actor Q s.others s.mid new → Stood trusted places actor Q turns old new
      within Q it = stood-within trusted places actor Q s.mine s.others [] turns old s.mid new new (s.parts ∙ ap (λ (l : List Turn). s.mine ++ l) (sym (append-nil s.others))) s.led refl it

      z-all : Stood trusted places actor Next turns old new
      z-all = within Next (stood-within trusted places actor Next [] t.mine t.others s.others s.mid s.mid t.mid new t.parts refl t.leads z)

      r-all : Stood trusted places actor Row turns old new
      r-all = within Row (stood-within trusted places actor Row t.mine t.others [] s.others s.mid t.mid new new (t.parts ∙ ap (λ (l : List Turn). t.mine ++ l) (sym (append-nil t.others))) t.led refl r)

      here : Is m
      here = passes-before trusted places actor Row turns old new r-all

      made-by : (Q : Deed → Type 0) (l : List Turn) (from to : Machine) (it : Stood trusted places actor Q l from to) → Moves trusted places actor it.turn.did it.meets.before it.meets.after
      made-by Q l from to it = subst (λ (i : ℕ). Moves trusted places i it.turn.did it.meets.before it.meets.after) it.mine it.meets.made

      used : IsUsed (λ object. IsLeastIn filespace object (database m)) e
      used =
          row-used places actor m r.meets.after name filespace (may.2 m here).0.0 e (may.2 m here).0.1 kept
          (subst (λ (d : Deed). IsRefusedFor places actor d m r.meets.after e) r.is (moved-for trusted places actor r.turn.did m r.meets.after e (made-by Row t.others t.mid new r) (ap refusal r.is)))

      k : ℕ
      k = used.0

      V : Inv → Bool
      V u = is_version_in filespace k u

      H : Inv → Bool
      H u = is_held_in filespace k u

      region : List Turn
      region = q.meets.back ++ (t.mine ++ r.meets.front)

      to-row : Turned trusted places (t.mine ++ r.meets.front) s.mid m
      to-row = turned-join trusted places t.mine r.meets.front s.mid t.mid m t.led r.meets.led

      wide : (p : Inv → Bool) → Comes trusted places p (t.mine ++ r.meets.front) s.mid m → Comes trusted places p region q.meets.after m
      wide p it = widen trusted places p q.meets.back (t.mine ++ r.meets.front) q.meets.after s.mid m q.meets.leads it

      listed : (p : Inv → Bool) → ((u : Inv) → HasSoundRows u → p u ≡ true → filespace_of k u ≡ Some filespace) → p (database m) ≡ true → list_any (IsDoomed k) objects ≡ true → Comes trusted places p region q.meets.after m
      listed p kept_so some among =
          wide p
          (from-handled trusted places actor filespace k p kept_so t.mine r.meets.front s.mid t.mid m r.meets.led some mid-sound
          (stood trusted places actor (IsHandling filespace k) t.mine s.mid t.mid t.led
          (subst (λ (l : List Event). MetBy (IsHandling filespace k) l) (sym t.own) (met-next h x (IsHandling filespace k) (handled-met filespace k x objects handled.each among)))))

      first-asked : (q.meets.after.core ≡ q.meets.before.core) × (rows_of (query.Versions may.0 may.1) (database q.meets.before) ≡ Ok first.rows) × (q.meets.before.core.fault ≡ None)
      first-asked = asked-so trusted places actor (query.Versions may.0 may.1) first q.turn.did q.meets.before q.meets.after (λ n it. refl) (made-by First s.mine old s.mid q) q.is

      next-asked : (z.meets.after.core ≡ z.meets.before.core) × (rows_of (query.Held filespace) (database z.meets.before) ≡ Ok next.rows) × (z.meets.before.core.fault ≡ None)
      next-asked = asked-so trusted places actor (query.Held filespace) next z.turn.did z.meets.before z.meets.after (λ n it. refl) (made-by Next t.mine s.mid t.mid z) z.is

      q-there : IsFilespace filespace may.0 may.1 (database q.meets.before)
      q-there = (may.2 q.meets.before (passes-before trusted places actor First turns old new q-all)).0

      z-there : IsFilespace filespace may.0 may.1 (database z.meets.before)
      z-there = (may.2 z.meets.before (passes-before trusted places actor Next turns old new z-all)).0

      all-versions : versions ≡ versions_at filespace (database q.meets.before)
      all-versions =
          versions-same versions (versions_at filespace (database q.meets.before))
          (sym (first-asked.1 ∙ ap (λ (y : Rows). Ok y) shown_first) ∙ ap (λ (y : Result ℕ Refusal). on_ok rows.Versions (on_ok (λ i. versions_at i (database q.meets.before)) y)) q-there.4)

      all-held : held ≡ held_lines (database z.meets.before).today filespace (database z.meets.before).clients.held
      all-held =
          held-same held (held_lines (database z.meets.before).today filespace (database z.meets.before).clients.held)
          (sym (next-asked.1 ∙ ap (λ (y : Rows). Ok y) shown_next)
          ∙ ap (λ (y : Option Filespace). on_ok rows.Held (if is_some y then Ok (held_lines (database z.meets.before).today filespace (database z.meets.before).clients.held) else Err refused.NotFound)) z-there.1)

      z-sound : HasSoundRows (database z.meets.before)
      z-sound = turned-sound trusted places z.meets.front s.mid z.meets.before z.meets.led mid-sound next-asked.2

      version-among : V (database q.meets.after) ≡ true → list_any (IsDoomed k) objects ≡ true
      version-among there =
          ap (list_any (IsDoomed k)) are
          ∙ any-left (IsDoomed k) (map of_version versions) (map of_held held)
          (any-map of_version (IsDoomed k) versions
          (ap (list_any (IsLine k)) all-versions
          ∙ versions-shown filespace k (database q.meets.before) (groups_in (filespace_at filespace (database q.meets.before).clients.filespaces)) (sym (ap (λ (y : Core). V (inventory y)) first-asked.0) ∙ there)))

      held-among : H (database z.meets.after) ≡ true → list_any (IsDoomed k) objects ≡ true
      held-among there =
          ap (list_any (IsDoomed k)) are
          ∙ any-right (IsDoomed k) (map of_version versions) (map of_held held)
          (any-map of_held (IsDoomed k) held
          (ap (list_any (IsHeldLine k)) all-held ∙ held-listed filespace k (database z.meets.before) z-sound (sym (ap (λ (y : Core). H (inventory y)) next-asked.0) ∙ there)))

      version-came : V (database m) ≡ true → (b : Bool) → V (database q.meets.after) ≡ b → Comes trusted places V region q.meets.after m
      version-came some true there = listed V (version-kept filespace k) some (version-among there)
      version-came some false none =
          rises trusted places V region q.meets.after m (turned-join trusted places q.meets.back (t.mine ++ r.meets.front) q.meets.after s.mid m q.meets.leads to-row) none some

      held-came : H (database m) ≡ true → (b : Bool) → H (database z.meets.after) ≡ b → Comes trusted places H region q.meets.after m
      held-came some true there = listed H (held-kept filespace k) some (held-among there)
      held-came some false none = wide H (from-after trusted places actor filespace k H (held-kept filespace k) t.mine r.meets.front s.mid t.mid m r.meets.led some Next z none)

      behind-all : q-all.meets.back ≡ region ++ (r.turn ∷ r.meets.back)
      behind-all =
          ap (λ (l : List Turn). q.meets.back ++ l) (t.parts ∙ ap (λ (l : List Turn). t.mine ++ l) r.meets.parts ∙ sym (append_assoc t.mine r.meets.front (r.turn ∷ r.meets.back)))
          ∙ sym (append_assoc q.meets.back (t.mine ++ r.meets.front) (r.turn ∷ r.meets.back))

      brings : (p : Inv → Bool) → Comes trusted places p region q.meets.after m → BringsTo trusted places actor turns old new IsListing p m
      brings p it = (q.turn, q-all.meets, q.mine, (may.0, may.1, first, q.is), region, r.turn ∷ r.meets.back, behind-all, (r.meets.after, r.meets.made, r.meets.leads), it.0, it.1, it.2, it.3)

      brought : IsBroughtIn (BringsTo trusted places actor turns old new) filespace k m
      brought = elim (least-inside filespace k (database m) used.2) as (λ _. IsBroughtIn (BringsTo trusted places actor turns old new) filespace k m) [
        | inl some ↦ inl (brings V (version-came some (V (database q.meets.after)) refl))
        | inr some ↦ inr (brings H (held-came some (H (database z.meets.after)) refl))
      ]
