-- A backup of the database is refused as something isn't there only where its beginning was, or a force.
use Rattle.std.proofs.Common.{◌≡◌, ◌⊎◌, inl, inr, ℕ, ◌==◌, Bool, true, false, if◌then◌else◌, List, [], ◌∷◌, length, Option, None, Some, Result, Ok, Err, refl, sym, subst, ◌∙◌}
use Rattle.kinds.specs.Refusals.{number_of}
use Rattle.kinds.specs.declared.refusal.Holder.{Holder}
use Rattle.kinds.specs.declared.refusal.Holder.TheVariants as holder
use Rattle.kinds.specs.declared.refusal.Refusal.{Refusal}
use Rattle.kinds.specs.declared.refusal.Refusal.TheVariants as refused
use Rattle.steps.specs.declared.image.ImageKind.{ImageKind}
use Rattle.steps.specs.Calls.{Made}
use Rattle.steps.specs.Events.{Deed, Event, has_number, refusal}
use Rattle.steps.specs.Events.Deed.{Force, Image}
use Rattle.line_results.specs.copy_attempts.Attempts.{Awaits, is_stopping, stopping}
use Rattle.line_results.specs.copy_attempts.Outcomes.{MetBy}
use Rattle.line_results.specs.db_backup.Taking.{Backs, Begins, BreaksOff, Completes, GivesUp, Opens, begun_file, failed_file, numbers, unwritten}
use Rattle.line_results.specs.db_backup.declared.taking.Taken.{Taken}
use Rattle.line_results.specs.sessions.Waiting.{Ends}
use Rattle.block_results.proofs.Fitting.{met-first, met-next}

-- what is among these is answered as it is
missing-is : (among : Bool) (w : Refusal) → refused.NotFound ≡ (if among then w else refused.Memory) → w ≡ refused.NotFound
missing-is true w is = sym is
missing-is false w is = absurd cc

-- it isn't among these
missing-not : (list : List ℕ) (w : Refusal) → has_number list refused.NotFound ≡ false → (among : Bool) → has_number list w ≡ among → refused.NotFound ≡ (if among then w else refused.Memory) → ⊥
missing-not list w none true h is = (let odd : true ≡ false = sym h ∙ subst (λ (x : Refusal). has_number list x ≡ false) is none in absurd cc)
missing-not list w none false h is = cc

not-stopping : (w : Refusal) → refused.NotFound ≡ stopping w → ⊥
not-stopping w is = missing-not (21 ∷ 31 ∷ 40 ∷ 41 ∷ 50 ∷ []) w refl (is_stopping w) refl is

not-unwritten : (w : Refusal) → refused.NotFound ≡ unwritten w → ⊥
not-unwritten w is = missing-not (25 ∷ 31 ∷ 40 ∷ 41 ∷ 50 ∷ []) w refl (has_number (25 ∷ 31 ∷ 40 ∷ 41 ∷ 50 ∷ []) w) refl is

not-gone : (gone : Bool) (w : Refusal) → ◌≡◌ {A = Result (Unit {0}) Refusal} (Err refused.NotFound) (if gone then Ok tt else Err (stopping w)) → ⊥
not-gone true w is = cc
not-gone false w is = not-stopping w cc

given-up : (file : Option ℕ) (why : Refusal) (events : List Event) → GivesUp file why events refused.NotFound → why ≡ refused.NotFound
given-up None why events (none, is) = sym is
given-up (Some file) why events (inl (off, is)) = sym is
given-up (Some file) why events (inr (inl (number, changing, is))) = absurd cc
given-up (Some file) why events (inr (inr (w, changing, is))) = absurd (not-gone (number_of w == 10) w is)

module _ (kind : ImageKind) where
  -- the beginning, or a force, was refused so
  abbrev pub IsUnfound : Deed → Type 0
  IsUnfound d = (d ≡ Image kind (Err refused.NotFound)) ⊎ (d ≡ Force (Err refused.NotFound))

  made-met : (d : Deed) (events : List Event) → IsUnfound d → refusal d ≡ Some refused.NotFound → Made d events → MetBy IsUnfound events
  made-met d events so is (inl (n, one, listed)) = subst (λ (l : List Event). MetBy IsUnfound l) (sym one) (inl so)
  made-met d events so is (inr (memory, none)) = (let odd : Some refused.Memory ≡ Some refused.NotFound = sym memory ∙ is in absurd cc)

  begun : (events : List Event) → Begins kind (Err refused.NotFound) events → MetBy IsUnfound events
  begun events (inl (why, is, made)) =
      let same : why ≡ refused.NotFound = missing-is (has_number (numbers kind) why) why is in
      made-met (Image kind (Err refused.NotFound)) events (inl refl) refl (subst (λ (x : Refusal). Made (Image kind (Err x)) events) same made)
  begun events (inr (told, is, made)) = absurd cc

  awaited : (h : Holder) (events : List Event) → Awaits h events (Err refused.NotFound) → MetBy IsUnfound events
  awaited (holder.Unforced number) events (Ok last, is, made) = absurd cc
  awaited (holder.Unforced number) events (Err w, is, made) =
      let same : w ≡ refused.NotFound = cc in
      made-met (Force (Err refused.NotFound)) events (inr refl) refl (subst (λ (x : Refusal). Made (Force (Err x)) events) same made)
  awaited (holder.Ticket number) events (none, inl is) = absurd cc
  awaited (holder.Ticket number) events (none, inr (inl is)) = absurd cc
  awaited (holder.Ticket number) events (none, inr (inr is)) = absurd cc
  awaited (holder.Image actor) events (none, inl is) = absurd cc
  awaited (holder.Image actor) events (none, inr (inl is)) = absurd cc
  awaited (holder.Image actor) events (none, inr (inr is)) = absurd cc

  last-try : (number : ℕ) (events : List Event) → Ends (Begins kind) number events (Err refused.NotFound) → MetBy IsUnfound events
  last-try number events (inl (none, begins)) = begun events begins
  last-try number events (inr (inl (x, (h, (xs, ys, cut, tried, awaits)), is))) =
      let same : x ≡ refused.NotFound = cc in
      subst (λ (l : List Event). MetBy IsUnfound l) (sym cut) (met-next xs ys IsUnfound (awaited h ys (subst (λ (w : Refusal). Awaits h ys (Err w)) same awaits)))
  last-try number events (inr (inr (many, none, is))) = absurd cc

  opened : (events : List Event) → Opens kind events (Err refused.NotFound) → MetBy IsUnfound events
  opened events (number, (xs, ys, cut, waited, ends)) = subst (λ (l : List Event). MetBy IsUnfound l) (sym cut) (met-next xs ys IsUnfound (last-try number ys ends))

  broken-off : (count : ℕ) (events : List Event) → BreaksOff count refused.NotFound events → ⊥
  broken-off count events (inl (w, is, made)) = not-unwritten w is
  broken-off count events (inr (inl (file, seq, is, made))) = cc
  broken-off count events (inr (inr (many, is, none))) = cc

  completed : (t : Taken) (events : List Event) → Completes t events (Err refused.NotFound) → ⊥
  completed t events (inl (why, (xs, ys, cut, (us, (vs, ws, apart, more, breaks)), gives))) =
      let same : why ≡ refused.NotFound = given-up (begun_file t.file why) why ys gives in
      broken-off (length us) ws (subst (λ (x : Refusal). BreaksOff (length us) x ws) same breaks)
  completed t events (inr (seq, why, is, parts)) = not-stopping why is

  pub backs-missing : (events : List Event) → Backs kind events (Err refused.NotFound) → MetBy IsUnfound events
  backs-missing events (inl (f, (why, (xs, ys, cut, opens, gives)), is)) =
      let one : f ≡ refused.NotFound = cc in
      let same : why ≡ refused.NotFound = given-up (failed_file why) why ys (subst (λ (x : Refusal). GivesUp (failed_file why) why ys x) one gives) in
      subst (λ (l : List Event). MetBy IsUnfound l) (sym cut) (met-first xs ys IsUnfound (opened xs (subst (λ (x : Refusal). Opens kind xs (Err x)) same opens)))
  backs-missing events (inr (t, (xs, ys, cut, starts, completes))) = absurd (completed t ys completes)
