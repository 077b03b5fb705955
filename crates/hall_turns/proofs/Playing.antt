-- Turns that are played: they join, and over a sound store an opening finds neither damage nor a store that isn't formatted.
use Rattle.std.proofs.Common.{◌≡◌, ℕ, ◌+◌, ◌<◌, ◌≤◌, List, [], ◌∷◌, ◌++◌, length, get_or, take, Option, Some, None, Result, Ok, Err, refl, sym, ap, subst, ◌∙◌, arith}
use Rattle.std.specs.Prelude.{IfErr, IfOk, IfSome}
use Rattle.std.proofs.lemmas.List.{append-nil, take_all, take_more}
use Rattle.store_api.specs.Cause.{NoneFell}
use Rattle.store_api.specs.Disk.{History, now, reads}
use Rattle.store_api.specs.Told.{StopsAs, Told}
use Rattle.store_api.proofs.Images.{stop_image}
use Rattle.store_api.proofs.Pieces.{image_reads}
use Rattle.kinds.specs.declared.refusal.OpenRefused.{OpenRefused}
use Rattle.kinds.specs.declared.refusal.OpenRefused.TheVariants as refused
use Rattle.inventory.specs.Meaningful.{is_meaning}
use Rattle.inventory.specs.Meant.{meaning}
use Rattle.inventory_rows.specs.State.{Inv}
use Rattle.vault.specs.Openings.{SaysNothing, SaysWhy}
use Rattle.vault.specs.Recovery.{Recovers}
use Rattle.vault.specs.Vaults.{State}
use Rattle.vault.proofs.Sounding.{within_recovers}
use Rattle.vault.proofs.Unique.{is_formatted, not_damaged_there}
use Rattle.steps.specs.declared.step.Reply.{Reply}
use Rattle.steps.specs.declared.step.Step.{Step}
use Rattle.machine.specs.State.{Machine}
use Rattle.hall.specs.declared.turn.Turn.{Turn}
use Rattle.hall.specs.declared.turn.Turn.TheVariants.{Do, Stop}
use Rattle.hall.specs.Covered.{inv_at}
use Rattle.hall.specs.Good.{Is, IsKept, IsSoundWith, WasSound}
use Rattle.hall.specs.Held.{Hall}
use Rattle.hall.specs.Opening.{IsSound, IsWith, Opens, OpensFiles, store_of, vault_of}
use Rattle.hall.specs.Plays.{Plays, Reopens, RunsTurns, Stopped}
use Rattle.hall.specs.Steps.{Answers, IsTrusted}
use Rattle.hall_turns.specs.Runs.{AreSafe, HadOwnBackups, HasOwnBackups, IsSafeHall, PlaysFrom, RunsFrom}
use Rattle.hall_turns.proofs.Backups.{had_played, opened_had}

-- ---- why a sound store isn't opened

says_nothing : (files : ℕ → List ℕ) (v : Inv) (e : OpenRefused) → Recovers meaning files v → SaysWhy meaning files e → SaysNothing e
says_nothing files v (refused.Damaged file at) is why = absurd (not_damaged_there meaning is_meaning files v is file at why)
says_nothing files v refused.NotFormatted is why = absurd (is_formatted meaning is_meaning files v is why)
says_nothing files v (refused.ReadFault file) is why = tt
says_nothing files v refused.RunFull is why = tt
says_nothing files v refused.Memory is why = tt

-- over what the store tells
told_sound : (contents : ℕ → List ℕ) (h : History) (after : Option History) (e : OpenRefused) → IsSound contents h
    → (let result : Result (State Inv) OpenRefused = Err e in Told (Some h) after (OpensFiles result)) → SaysNothing e
told_sound contents h None e sound files = absurd files
told_sound contents h (Some n) e sound files =
    let back = sound.each (reads h) (image_reads h) in says_nothing (reads h) back.0 e (within_recovers meaning (reads h) back.0 back.1.0) files.vault.says

module _ {S : Type 0} (told : S → Option History) (moment : S → ℕ) (faults : S → ℕ → ℕ) where
  -- ---- turns join

  pub more_turns : (turns more : List Turn) (replies next : List Reply) (old mid new : Hall S) → Plays told moment faults turns replies old mid → Plays told moment faults more next mid new
      → Plays told moment faults (turns ++ more) (replies ++ next) old new
  more_turns [] more replies next old mid new p q =
      subst (λ (l : List Reply). Plays told moment faults more (l ++ next) old new) (sym p.0) (subst (λ (h : Hall S). Plays told moment faults more next h new) p.1 q)
  more_turns (Do actor step ∷ turns) more [] next old mid new p q = absurd p
  more_turns (Do actor step ∷ turns) more (reply ∷ replies) next old mid new p q = (p.0, p.1, more_turns turns more replies next p.0 mid new p.2 q)
  more_turns (Stop choice ∷ turns) more replies next old mid new p q = (p.0, p.1, p.2, p.3, more_turns turns more replies next p.1 mid new p.4 q)

  -- turns are cut anywhere into two parts
  cut_turns : (front back : List Turn) (replies : List Reply) (old new : Hall S) → Plays told moment faults (front ++ back) replies old new
      → (mid : Hall S) × (said : List Reply) × (rest : List Reply) × (replies ≡ said ++ rest) × Plays told moment faults front said old mid × Plays told moment faults back rest mid new
  cut_turns [] back replies old new p = (old, [], replies, refl, (refl, refl), p)
  cut_turns (Do actor step ∷ front) back [] old new p = absurd p
  cut_turns (Do actor step ∷ front) back (reply ∷ replies) old new p =
      let r = cut_turns front back replies p.0 new p.2 in (r.0, reply ∷ r.1, r.2, ap (λ (l : List Reply). reply ∷ l) r.3, (p.0, p.1, r.4), r.5)
  cut_turns (Stop choice ∷ front) back replies old new p = let r = cut_turns front back replies p.1 new p.4 in (r.0, r.1, r.2, r.3, (p.0, p.1, p.2, p.3, r.4), r.5)

  -- a turn was a step
  pub made_turn : {E : Type 0} (turn : Turn) (actor : ℕ) (step : Step) (hall : Hall S) (replies all : List Reply) (result : Result (Hall S) E) → turn ≡ Do actor step
      → IfOk result (λ next. (reply : Reply) × (all ≡ replies ++ reply ∷ []) × Answers told moment faults actor step reply hall next)
      → IfOk result (λ next. (more : List Reply) × (all ≡ replies ++ more) × Plays told moment faults (turn ∷ []) more hall next)
  made_turn turn actor step hall replies all (Ok next) is made =
      (made.0 ∷ [], made.1, subst (λ (t : Turn). Plays told moment faults (t ∷ []) (made.0 ∷ []) hall next) (sym is) (next, made.2, (refl, refl)))
  made_turn turn actor step hall replies all (Err e) is made = tt

  -- or a stop with an opening behind it
  pub stopped_turn : (turn : Turn) (choice : ℕ) (hall : Hall S) (replies : List Reply) (store left : S) (result : Result (Hall S) (S × OpenRefused)) → turn ≡ Stop choice → store ≡ hall.store
      → Told (told store) (told left) StopsAs → moment left ≡ moment store → NoneFell (faults store) (faults left)
      → Opens told moment faults left result → Told (told left) (told (store_of result)) (OpensFiles (vault_of result)) → moment left ≤ moment (store_of result) → NoneFell (faults left) (faults (store_of result))
      → IfOk result (λ next. (more : List Reply) × (replies ≡ replies ++ more) × Plays told moment faults (turn ∷ []) more hall next)
  stopped_turn turn choice hall replies store left (Ok next) is same stops time counts opens files later none = (
    [],
    sym (append-nil replies),
    subst (λ (t : Turn). Plays told moment faults (t ∷ []) [] hall next) (sym is) (
      left,
      next,
      subst (λ (s : S). Stopped told moment faults s left) same (record { files = stops; clock = time; counts = counts }),
      record { opens = opens; files = files; later = later; counts = none },
      (refl, refl),
    ),
  )
  stopped_turn turn choice hall replies store left (Err e) is same stops time counts opens files later none = tt

  -- ---- all turns

  pub none_played : (store : S) (first : Hall S) (turns : List Turn) (replies : List Reply) → replies ≡ [] → Reopens told moment faults store first → PlaysFrom told moment faults store (take 0 turns) replies first
  none_played store first turns replies none opened = (first, opened, (none, refl))

  pub next_played : (store : S) (hall next : Hall S) (turns : List Turn) (i : ℕ) (turn : Turn) (replies all : List Reply) → i < length turns → turn ≡ get_or turns i turn
      → PlaysFrom told moment faults store (take i turns) replies hall → ((more : List Reply) × (all ≡ replies ++ more) × Plays told moment faults (turn ∷ []) more hall next)
      → PlaysFrom told moment faults store (take (i + 1) turns) all next
  next_played store hall next turns i turn replies all low at from made =
      let longer : take (i + 1) turns ≡ take i turns ++ turn ∷ [] = take_more turns i turn low ∙ ap (λ (t : Turn). take i turns ++ t ∷ []) (sym at) in (
        from.0,
        from.1,
        subst (λ (ts : List Turn). Plays told moment faults ts all from.0 next) (sym longer)
            (subst (λ (rs : List Reply). Plays told moment faults (take i turns ++ turn ∷ []) rs from.0 next) (sym made.1)
            (more_turns (take i turns) (turn ∷ []) replies made.0 from.0 hall next from.2 made.2)),
      )

  pub all_played : (store : S) (hall : Hall S) (turns : List Turn) (i : ℕ) (replies : List Reply) → length turns ≤ i → PlaysFrom told moment faults store (take i turns) replies hall
      → PlaysFrom told moment faults store turns replies hall
  all_played store hall turns i replies high from = subst (λ (ts : List Turn). PlaysFrom told moment faults store ts replies hall) (take_all i turns high) from

  -- ---- over a sound store

  pub never_damaged : (contents : ℕ → List ℕ) (store : S) (h : History) (result : Result (Hall S) (S × OpenRefused)) → told store ≡ Some h → IsSound contents h
      → Told (told store) (told (store_of result)) (OpensFiles (vault_of result)) → IfErr result (λ e. SaysNothing e.1)
  never_damaged contents store h (Ok hall) tells sound files = tt
  never_damaged contents store h (Err e) tells sound files =
      told_sound contents h (told e.0) e.1 sound (subst (λ (o : Option History). let result : Result (State Inv) OpenRefused = Err e.1 in Told o (told e.0) (OpensFiles result)) tells files)

  -- a hall that was opened over one is trusted
  trusted : (contents : ℕ → List ℕ) (hall : Hall S) (h : History) (after : Option History) → Told (Some h) after (OpensFiles (Ok hall.held.vault)) → IfSome after (IsSoundWith contents hall.held.base hall.held.opened)
      → IsTrusted after hall.held
  trusted contents hall h None files sound = absurd files
  trusted contents hall h (Some n) files sound = (contents, sound)

  opens_sound : (contents : ℕ → List ℕ) (store : S) (h : History) (hall : Hall S) → told store ≡ Some h → IsSound contents h → Reopens told moment faults store hall
      → (m : Machine) × (m.contents ≡ contents) × Is told moment faults hall m × IsTrusted (told hall.store) hall.held
  opens_sound contents store h hall tells sound opened =
      let with = (subst (λ o. IfSome o (λ g. (bytes : ℕ → List ℕ) → IsSound bytes g → IsWith told moment faults bytes hall)) tells opened.opens.2) contents sound in
      (with.0, with.1, with.2, trusted contents hall h (told hall.store) (subst (λ (o : Option History). Told o (told hall.store) (OpensFiles (Ok hall.held.vault))) tells opened.files) with.3)

  -- the laws of the hall
  abbrev RunsExactly : Type 0
  RunsExactly = (turns : List Turn) (replies : List Reply) (old new : Hall S) (m : Machine) → IsTrusted (told old.store) old.held → Is told moment faults old m
      → Plays told moment faults turns replies old new → (last : Machine) × RunsTurns turns replies m last × Is told moment faults new last × IsTrusted (told new.store) new.held

  abbrev KeepsSafe : Type 0
  KeepsSafe = (hall : Hall S) (m : Machine) (h : History) → told hall.store ≡ Some h → Is told moment faults hall m → WasSound hall.held.base hall.held.opened h → IsKept m hall.held h

  -- what holds over each sound store
  over_sound : (store : S) (o : Option History) (Q : History → (ℕ → List ℕ) → Type 0) → told store ≡ o → ((contents : ℕ → List ℕ) (h : History) → told store ≡ Some h → IsSound contents h → Q h contents)
      → IfSome o (λ h. (contents : ℕ → List ℕ) → IsSound contents h → Q h contents)
  over_sound store None Q tells each = tt
  over_sound store (Some h) Q tells each = λ contents sound. each contents h tells sound

  -- the first opening was refused
  pub not_opened : (store left : S) (e : OpenRefused) → (let result : Result (Hall S) (S × OpenRefused) = Err (left, e) in Told (told store) (told left) (OpensFiles (vault_of result)))
      → IfSome (told store) (λ h. (contents : ℕ → List ℕ) → IsSound contents h → SaysNothing e)
  not_opened store left e files = over_sound store (told store) (λ h contents. SaysNothing e) refl (λ contents h tells sound. never_damaged contents store h (Err (left, e)) tells sound files)

  -- the opening behind a stop was
  stopped_told : KeepsSafe → (hall : Hall S) (m : Machine) (o n l : Option History) (e : OpenRefused) → told hall.store ≡ o → Is told moment faults hall m → IsTrusted o hall.held → Told o n StopsAs
      → (let result : Result (State Inv) OpenRefused = Err e in Told n l (OpensFiles result)) → SaysNothing e
  stopped_told keeps hall m None n l e tells is trusted stops files = absurd trusted
  stopped_told keeps hall m (Some h) None l e tells is trusted stops files = absurd stops
  stopped_told keeps hall m (Some h) (Some after) None e tells is trusted stops files = absurd files
  stopped_told keeps hall m (Some h) (Some after) (Some l) e tells is trusted stops files =
      let k = keeps hall m h tells is trusted in
      let own = k.always (now h) (reads after) k.since (omega arith) (stop_image h after stops) in
      says_nothing (reads after) (inv_at own.last m.core) e (within_recovers meaning (reads after) (inv_at own.last m.core) own.recovers) files.vault.says

  pub stopped_says : KeepsSafe → (hall : Hall S) (store left : S) (result : Result (Hall S) (S × OpenRefused)) → store ≡ hall.store → Told (told store) (told left) StopsAs
      → Told (told left) (told (store_of result)) (OpensFiles (vault_of result))
      → IfErr result (λ e. (m : Machine) → Is told moment faults hall m → IsTrusted (told hall.store) hall.held → SaysNothing e.1)
  stopped_says keeps hall store left (Ok next) same stops files = tt
  stopped_says keeps hall store left (Err e) same stops files = λ m is trusted.
      stopped_told keeps hall m (told hall.store) (told left) (told e.0) e.1 refl is trusted (subst (λ (s : S). Told (told s) (told left) StopsAs) same stops) files

  -- one of the turns wasn't played
  pub turn_not_played : RunsExactly → (store : S) (hall : Hall S) (turns : List Turn) (replies : List Reply) (e : OpenRefused) → PlaysFrom told moment faults store turns replies hall
      → ((m : Machine) → Is told moment faults hall m → IsTrusted (told hall.store) hall.held → SaysNothing e)
      → IfSome (told store) (λ h. (contents : ℕ → List ℕ) → IsSound contents h → SaysNothing e)
  turn_not_played runs store hall turns replies e from says = over_sound store (told store) (λ h contents. SaysNothing e) refl (λ contents h tells sound.
      let first = opens_sound contents store h from.0 tells sound from.1 in
      let last = runs turns replies from.0 hall first.0 first.3 first.2 from.2 in
      says last.0 last.2 last.3)

  -- the turns were a run of the machine
  ran_from : RunsExactly → (store : S) (hall : Hall S) (turns : List Turn) (replies : List Reply) → PlaysFrom told moment faults store turns replies hall
      → (contents : ℕ → List ℕ) (h : History) → told store ≡ Some h → IsSound contents h → RunsFrom told moment faults store contents turns replies hall
  ran_from runs store hall turns replies from contents h tells sound =
      let first = opens_sound contents store h from.0 tells sound from.1 in
      let last = runs turns replies from.0 hall first.0 first.3 first.2 from.2 in
      (from.0, first.0, last.0, from.1, first.2, first.1, last.1, last.2)

  safe_hall : KeepsSafe → (has : Type 0) (hall : Hall S) (m : Machine) (o : Option History) → told hall.store ≡ o → Is told moment faults hall m → IsTrusted o hall.held → (has → HadOwnBackups told hall) → IsSafeHall told moment faults has hall
  safe_hall keeps has hall m None tells is trusted had = absurd trusted
  safe_hall keeps has hall m (Some h) tells is trusted had = (m, h, tells, is, keeps hall m h tells is trusted, had)

  -- and between any two of them the hall is safe
  are_safe : ((s : S) → IfSome (told s) (λ h. now h ≡ moment s)) → RunsExactly → KeepsSafe → (store : S) (last : Hall S) (turns : List Turn) (replies : List Reply) → PlaysFrom told moment faults store turns replies last
      → (contents : ℕ → List ℕ) (h : History) → told store ≡ Some h → IsSound contents h → AreSafe told moment faults (HasOwnBackups h) store turns replies last
  are_safe clock runs keeps store last turns replies from contents h tells sound = λ front back is.
      let cut = cut_turns front back replies from.0 last (subst (λ (ts : List Turn). Plays told moment faults ts replies from.0 last) is from.2) in
      let first = opens_sound contents store h from.0 tells sound from.1 in
      let mid = runs front cut.1 from.0 cut.0 first.0 first.3 first.2 cut.4 in (
        cut.0,
        cut.1,
        cut.2,
        cut.3,
        (from.0, from.1, cut.4),
        cut.5,
        safe_hall keeps (HasOwnBackups h) cut.0 mid.0 (told cut.0.store) refl mid.2 mid.3 (λ has.
            had_played told moment faults clock runs keeps front cut.1 from.0 cut.0 first.0 first.3 first.2 cut.4
            (opened_had told moment faults clock store from.0 from.1 (subst (λ (o : Option History). IfSome o HasOwnBackups) (sym tells) has))),
      )

  pub played_exactly : ((s : S) → IfSome (told s) (λ h. now h ≡ moment s)) → RunsExactly → KeepsSafe → (store left : S) (hall : Hall S) (turns : List Turn) (replies : List Reply) → PlaysFrom told moment faults store turns replies hall → left ≡ hall.store
      → IfSome (told store) (λ h. (contents : ℕ → List ℕ) → IsSound contents h
      → (last : Hall S) × RunsFrom told moment faults store contents turns replies last × AreSafe told moment faults (HasOwnBackups h) store turns replies last × (left ≡ last.store))
  played_exactly clock runs keeps store left hall turns replies from same =
      over_sound store (told store)
      (λ h contents. (last : Hall S) × RunsFrom told moment faults store contents turns replies last × AreSafe told moment faults (HasOwnBackups h) store turns replies last × (left ≡ last.store)) refl
      (λ contents h tells sound. (
        hall,
        ran_from runs store hall turns replies from contents h tells sound,
        are_safe clock runs keeps store hall turns replies from contents h tells sound,
        same,
      ))
