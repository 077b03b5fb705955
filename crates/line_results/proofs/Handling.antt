-- Objects that are handled in turn, discarded or passed over, and copies that are dropped or whose objects are discarded, where one actor has the machine alone: what each step of it keeps, all of them keep. And nothing is held behind them that wasn't before.
use Rattle.std.proofs.Common.{◌≡◌, inl, inr, ℕ, Bool, ◌||◌, true, false, List, [], ◌∷◌, ◌++◌, None, Result, Ok, Err, refl, sym, ap, subst, ◌∙◌}
use Rattle.std.proofs.lemmas.Bool.{false≢true}
use Rattle.kinds.specs.declared.refusal.Refusal.{Refusal}
use Rattle.kinds.specs.declared.refusal.Refusal.TheVariants as refused
use Rattle.entries.specs.change_items.declared.reasons.DiscardReason.{DiscardReason}
use Rattle.inventory_work.specs.declared.lines.CopyLine.{CopyLine}
use Rattle.steps.specs.declared.asked.Asked.{Asked}
use Rattle.steps.specs.Events.{Deed, Event, event}
use Rattle.steps.specs.Events.Deed.{Commit}
use Rattle.command_steps.specs.copy_attempts.Attempts.{is_passed}
use Rattle.command_steps.specs.deletions.Discarding.{Handles, discarding, is_long}
use Rattle.command_steps.specs.deletions.Dropping.{Empties, doomed, dropping, for_volume}
use Rattle.machine.specs.Alone.{Alone, Moves, with_contents}
use Rattle.machine.specs.Machine.{Case, Commits, Places, halting, made}
use Rattle.machine.specs.State.{Core, Machine}
use Rattle.line_results.proofs.Meeting.{passes}
use Rattle.line_results.proofs.Walking.{spent-same}
use Rattle.line_results.proofs.Types.{Doomed}

-- nothing is held
abbrev pub IsFree : Core → Type 0
IsFree c = (c.tickets ≡ []) × (c.image ≡ None)

free-as : (c d : Core) → d.tickets ≡ c.tickets → d.image ≡ c.image → IsFree c → IsFree d
free-as c d tickets image h = (tickets ∙ h.0, image ∙ h.1)

pub same-free : (c d e : Core) → e ≡ d → d.tickets ≡ c.tickets → d.image ≡ c.image → IsFree c → IsFree e
same-free c d e is tickets image h = subst IsFree (sym is) (free-as c d tickets image h)

pub commit-free : (asked : Asked) (answer : Result ℕ Refusal) (m next : Machine) → Commits 0 asked [] m next answer → IsFree m.core → IsFree next.core
commit-free asked (Ok number) m next (none, (c, is, numbered, joins)) free = same-free m.core (made 0 c m.core) next.core (joins.0 ∙ spent-same c m.core free.0) refl refl free
commit-free asked (Err x) m next (inl h) free = same-free m.core m.core next.core h.1.core refl refl free
commit-free asked (Err x) m next (inr (none, (c, file, count, is, why, fault, joins))) free =
    same-free m.core (halting file count (made 0 c m.core)) next.core (joins.0 ∙ ap (λ (k : Core). halting file count k) (spent-same c m.core free.0)) refl refl free

-- ---- refusals

-- what was refused so changed nothing
pub refused-same : (asked : Asked) (m next : Machine) (why : Refusal) → ((file count : ℕ) → why ≡ refused.LogFault file count → ⊥) → Commits 0 asked [] m next (Err why) → next.core ≡ m.core
refused-same asked m next why other (inl h) = h.1.core
refused-same asked m next why other (inr (none, (c, file, count, is, fault, rose, joins))) = absurd (other file count fault)

not-fault : (why : Refusal) → (is_passed why || is_long why) ≡ true → (file count : ℕ) → why ≡ refused.LogFault file count → ⊥
not-fault why h file count is = false≢true (sym (ap (λ (e : Refusal). is_passed e || is_long e) is) ∙ h)

pub passed-same : (asked : Asked) (m next : Machine) (why : Refusal) → is_passed why ≡ true → Commits 0 asked [] m next (Err why) → next.core ≡ m.core
passed-same asked m next why passed step = refused-same asked m next why (λ file count is. false≢true (sym (ap is_passed is) ∙ passed)) step

-- ---- all of them

step-as : (trusted : Type 0) (places : Places) (e : Event) (d : Deed) (n : ℕ) (m next : Machine) → e ≡ event n d → (moved : Moves trusted places 0 e m next) → Case places 0 d (with_contents moved.seen m) moved.next
step-as trusted places e d n m next is moved = subst (λ (x : Deed). Case places 0 x (with_contents moved.seen m) moved.next) (ap (λ (x : Event). x.deed) is) moved.made.step

module _ (trusted : Type 0) (places : Places) (reason : DiscardReason) (G : List Doomed → Core → Type 0)
    (removes : (run rest : List Doomed) (m next : Machine) (number : ℕ) → G (run ++ rest) m.core → Commits 0 (discarding reason run) [] m next (Ok number) → G rest next.core)
    (skips : (it : Doomed) (rest : List Doomed) (m next : Machine) (why : Refusal) → G (it ∷ rest) m.core → is_passed why ≡ true → Commits 0 (discarding reason (it ∷ [])) [] m next (Err why) → G rest next.core) where
  same-going : (rest : List Doomed) (c d : Core) → d ≡ c → G rest c → G rest d
  same-going rest c d same g = subst (G rest) (sym same) g

  pub handled-by : (events : List Event) (rest : List Doomed) (m new : Machine) → Handles reason rest events → G rest m.core → Alone trusted places 0 events m new → G [] new.core
  handled-by [] rest m new none g same = same-going [] m.core new.core (ap (λ (x : Machine). x.core) same) (subst (λ (l : List Doomed). G l m.core) none g)
  handled-by (e ∷ events) rest m new (inl (run, left, is, (n, number, few, same), others)) g (next, moved, more) =
      let p = passes trusted places e m next moved in
      let step = step-as trusted places e (Commit (discarding reason run) [] (Ok number)) n m next same moved in
      let after : G left moved.next.core = removes run left (with_contents moved.seen m) moved.next number (subst (λ (l : List Doomed). G l m.core) is g) step in
      handled-by events left next new others (same-going left moved.next.core next.core p.core after) more
  handled-by (e ∷ events) rest m new (inr (inl (it, left, is, (n, why, passed, same), others))) g (next, moved, more) =
      let p = passes trusted places e m next moved in
      let step = step-as trusted places e (Commit (discarding reason (it ∷ [])) [] (Err why)) n m next same moved in
      let after : G left moved.next.core = skips it left (with_contents moved.seen m) moved.next why (subst (λ (l : List Doomed). G l m.core) is g) passed step in
      handled-by events left next new others (same-going left moved.next.core next.core p.core after) more
  handled-by (e ∷ events) rest m new (inr (inr ((n, why, objects, refuses, same), others))) g (next, moved, more) =
      let p = passes trusted places e m next moved in
      let step = step-as trusted places e (Commit (discarding reason objects) [] (Err why)) n m next same moved in
      let still : moved.next.core ≡ m.core = refused-same (discarding reason objects) (with_contents moved.seen m) moved.next why (not-fault why refuses) step in
      handled-by events rest next new others (same-going rest m.core next.core (p.core ∙ still) g) more

-- ---- copies, where a copy's object that is due is to be discarded

module _ (trusted : Type 0) (places : Places) (file : ℕ) (G : Bool → List CopyLine → Core → Type 0)
    (drops : (run rest : List CopyLine) (m next : Machine) (number : ℕ) → G false (run ++ rest) m.core → Commits 0 (dropping file run) [] m next (Ok number) → G false rest next.core)
    (keeps : (line : CopyLine) (rest : List CopyLine) (m next : Machine) (why : Refusal) → G false (line ∷ rest) m.core → is_passed why ≡ true → Commits 0 (dropping file (line ∷ [])) [] m next (Err why) → G true (line ∷ rest) next.core)
    (removes : (line : CopyLine) (rest : List CopyLine) (m next : Machine) (number : ℕ) → G true (line ∷ rest) m.core → Commits 0 (discarding (for_volume file) (doomed line ∷ [])) [] m next (Ok number) → G false rest next.core)
    (skips : (line : CopyLine) (rest : List CopyLine) (m next : Machine) (why : Refusal) → G true (line ∷ rest) m.core → is_passed why ≡ true → Commits 0 (discarding (for_volume file) (doomed line ∷ [])) [] m next (Err why) → G false rest next.core) where
  same-emptying : (due : Bool) (rest : List CopyLine) (c d : Core) → d ≡ c → G due rest c → G due rest d
  same-emptying due rest c d same g = subst (G due rest) (sym same) g

  pub emptied-by : (due : Bool) (events : List Event) (rest : List CopyLine) (m new : Machine) → Empties due file rest events → G due rest m.core → Alone trusted places 0 events m new → G false [] new.core
  emptied-by due [] rest m new (done, none) g same =
      same-emptying false [] m.core new.core (ap (λ (x : Machine). x.core) same) (subst (λ (l : List CopyLine). G false l m.core) none (subst (λ (b : Bool). G b rest m.core) done g))
  emptied-by true (e ∷ events) [] m new empties g f = absurd empties
  emptied-by true (e ∷ events) (line ∷ rest) m new (inl (n, number, few, same), others) g (next, moved, more) =
      let p = passes trusted places e m next moved in
      let step = step-as trusted places e (Commit (discarding (for_volume file) (doomed line ∷ [])) [] (Ok number)) n m next same moved in
      let after : G false rest moved.next.core = removes line rest (with_contents moved.seen m) moved.next number g step in
      emptied-by false events rest next new others (same-emptying false rest moved.next.core next.core p.core after) more
  emptied-by true (e ∷ events) (line ∷ rest) m new (inr (n, why, passed, same), others) g (next, moved, more) =
      let p = passes trusted places e m next moved in
      let step = step-as trusted places e (Commit (discarding (for_volume file) (doomed line ∷ [])) [] (Err why)) n m next same moved in
      let after : G false rest moved.next.core = skips line rest (with_contents moved.seen m) moved.next why g passed step in
      emptied-by false events rest next new others (same-emptying false rest moved.next.core next.core p.core after) more
  emptied-by false (e ∷ events) rest m new (inl (run, left, is, (n, number, few, same), others)) g (next, moved, more) =
      let p = passes trusted places e m next moved in
      let step = step-as trusted places e (Commit (dropping file run) [] (Ok number)) n m next same moved in
      let after : G false left moved.next.core = drops run left (with_contents moved.seen m) moved.next number (subst (λ (l : List CopyLine). G false l m.core) is g) step in
      emptied-by false events left next new others (same-emptying false left moved.next.core next.core p.core after) more
  emptied-by false (e ∷ events) rest m new (inr (inl (line, left, is, (n, why, passed, same), others))) g (next, moved, more) =
      let p = passes trusted places e m next moved in
      let step = step-as trusted places e (Commit (dropping file (line ∷ [])) [] (Err why)) n m next same moved in
      let after : G true (line ∷ left) moved.next.core = keeps line left (with_contents moved.seen m) moved.next why (subst (λ (l : List CopyLine). G false l m.core) is g) passed step in
      emptied-by true events (line ∷ left) next new (subst (λ (l : List CopyLine). Empties true file l events) is others) (same-emptying true (line ∷ left) moved.next.core next.core p.core after) more
  emptied-by false (e ∷ events) rest m new (inr (inr ((n, why, lines, refuses, same), others))) g (next, moved, more) =
      let p = passes trusted places e m next moved in
      let step = step-as trusted places e (Commit (dropping file lines) [] (Err why)) n m next same moved in
      let still : moved.next.core ≡ m.core = refused-same (dropping file lines) (with_contents moved.seen m) moved.next why (not-fault why refuses) step in
      emptied-by false events rest next new others (same-emptying false rest m.core next.core (p.core ∙ still) g) more
