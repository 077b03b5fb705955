-- A script's run on a hall and the clients' trees is a run of the machine beside them, line by line.
use Rattle.std.proofs.Common.{◌≡◌, ◌⊎◌, inl, inr, ℕ, ◌+◌, Bool, true, false, Option, None, Some, List, [], ◌∷◌, ◌++◌, length, take, Ok, Err, refl, sym, ap, subst, ◌∙◌, arith}
use Rattle.std.specs.Prelude.{IfSome, ◌≤◌}
use Rattle.std.specs.List.{AllByRecursion}
use Rattle.store_api.specs.Disk.{History, ImageAt, now}
use Rattle.store_api.specs.Runs.{GoesOn}
use Rattle.store_api.specs.Told.{Told}
use Rattle.kinds.specs.declared.refusal.Refusal.{Refusal}
use Rattle.choosers.specs.declared.rule.Rule.{Rule}
use Rattle.client_trees.specs.Files.{Files}
use Rattle.inventory_rows.specs.Ascending.{AreAscending}
use Rattle.inventory_rows.specs.State.{Inv}
use Rattle.inventory_rules.specs.Run.{journal_of}
use Rattle.inventory_rules.specs.Valid.{is_valid}
use Rattle.script_loop.specs.Reply.{Answer}
use Rattle.script_loop.specs.Runs.{Allows, Answers, Halts, Prints, Runs, Says}
use Rattle.script_loop.specs.declared.tally.Tally.{Tally}
use Rattle.script_loop.specs.declared.ends.Halt.{Halt}
use Rattle.script_loop.specs.declared.ends.Halt.TheVariants.{Memory}
use Rattle.script_loop.specs.declared.ends.End.{End}
use Rattle.script_loop.specs.declared.ends.End.TheVariants.{Done, SourceFault, SinkFault, Halted, TooLong}
use Rattle.steps.specs.Events.{Event}
use Rattle.machine.specs.Alone.{Alone}
use Rattle.machine.specs.Stamps.{KeepsStamps}
use Rattle.machine.specs.State.{Machine, inventory}
use Rattle.machine.specs.Turns.{Turn, own_in}
use Rattle.hall.specs.Alone.{Ran as RanOn}
use Rattle.hall.specs.Good.{Is, Rise, WasSound}
use Rattle.hall.specs.Held.{Hall}
use Rattle.hall.specs.Placed.{hall_places}
use Rattle.hall.specs.Steps.{IsTrusted}
use Rattle.hall.proofs.Databases.{valid_at}
use Rattle.hall.proofs.Spots.{goes_where_aimed}
use Rattle.hall_turns.specs.Left.{GivesState}
use Rattle.hall_turns.proofs.Lefts.{inv_at_all}
use Rattle.block_results.specs.command_steps.Answering.{AnswersLine}
use Rattle.block_results.specs.command_steps.Answers.{nothing}
use Rattle.block_results.specs.command_steps.Clients.{Client, Known, all_seen, client}
use Rattle.block_results.specs.command_steps.Lines.{Line, line_of}
use Rattle.block_results.specs.line_results.Clauses.{Holds}
use Rattle.block_results.specs.line_results.Lines.{Halts as EndsLine, Replies}
use Rattle.block_results.specs.line_results.Resting.{HasSizes, IsAtRest, Onward, database}
use Rattle.block_results.specs.line_results.Sound.{HasSoundRows}
use Rattle.blocks.specs.Parts.{begins, part}
use Rattle.blocks.specs.Shapes.{Gathered, begun, is_end, with_line}
use Rattle.crew.specs.Ran.{EachFits, RanFrom, Turned, began}
use Rattle.block_results.specs.line_jobs.Ran.{EndsLines, IsEnding, Worked, ending, shared}
use Rattle.block_results.specs.line_jobs.Shares.{Came, with_said}
use Rattle.block_results.specs.line_jobs.declared.job.Said.{Said}
use Rattle.block_results.proofs.of_line_results.SoundRows.{sound-along}
use Rattle.block_results.proofs.BySteps.{steps-of}
use Rattle.block_results.proofs.Jobs.{block-held}
use Rattle.block_results.proofs.JobsComplete.{jobs-complete}
use Rattle.block_results.proofs.Sized.{block-sized}
use Rattle.block_results.proofs.Stored.{have-bytes}
use Rattle.block_results.proofs.Turned.{further, have-causes, here, turned_on}
use Rattle.block_results.proofs.Unfailed.{jobs-unfailed}
use Rattle.tsm_top.specs.InBlock.{BlockEnds, BlockHalted, BlockRan, IsCause, JobsRan}
use Rattle.tsm_top.specs.Notes.{note_of, notes_of, number_in, with_note}
use Rattle.tsm_top.specs.Servers.{EndsBlock, EndsOutside, HaltsBy, HaltsHere, HaltsIn, HaltsInside, Keeps, Serves as ServesBy, ServesBlock, ServesHere, ServesIn, ServesInside, ServesOutside, Stays}
use Rattle.tsm_top.specs.Sessions.{HaltsLine, ServesLine, number_of}
use Rattle.tsm_top.specs.Sites.{IsInOrder, IsTimely, RepliesAt, Site, StopsAt, between, site}
use Rattle.tsm_top.specs.Stands.{AnswersAt, AnswersBlock, AnswersHere, AnswersIn, AnswersInside, EndsAt, EndsHere, EndsIn, EndsInBlock, EndsInside, JobsTurned, RunsBlock, Stand, left_by}
use Rattle.tsm_top.specs.declared.note.Note.{Note}
use Rattle.tsm_top.specs.declared.server.Server.{Server}
use Rattle.tsm_top.specs.declared.session.Session.{Session}
use Rattle.tsm_top.proofs.Resting.{at_rest}
use Rattle.tsm_top.proofs.There.{there}
use Rattle.tsm_top.proofs.Treed.{ChangeTheirTree, leaves_file}
use Rattle.tsm_top.proofs.Turning.{jobs_add}

-- ---- the laws that a run stands on

-- what one actor did on a hall is a run of the machine
abbrev pub AreAlone : {S : Type 0} → (trusted : Type 0) → (told : S → Option History) → (moment : S → ℕ) → (faults : S → ℕ → ℕ) → Type 0
AreAlone {S} trusted told moment faults =
    (actor : ℕ) (events : List Event) (old new : Hall S) (m : Machine) → Is told moment faults old m → (trusted → IsTrusted (told old.store) old.held)
    → RanOn told moment faults actor events old new
    → (last : Machine) × Alone trusted hall_places actor events m last × Is told moment faults new last × (trusted → IsTrusted (told new.store) new.held) × KeepsStamps m.core last.core

-- what several actors did in a block is one
abbrev pub AreTurned : {S : Type 0} → (trusted : Type 0) → (told : S → Option History) → (moment : S → ℕ) → (faults : S → ℕ → ℕ) → Type 0
AreTurned {S} trusted told moment faults =
    (turns : List Turn) (old new : Hall S) (m : Machine) → Is told moment faults old m → (trusted → IsTrusted (told old.store) old.held)
    → RanFrom told moment faults (Some (began told moment faults old)) turns new
    → (last : Machine) × Turned trusted hall_places turns m last × Is told moment faults new last × (trusted → IsTrusted (told new.store) new.held) × KeepsStamps m.core last.core × (trusted → EachFits turns m last)

-- and the store goes on meanwhile
abbrev pub BlocksGo : {S : Type 0} → (told : S → Option History) → (moment : S → ℕ) → (faults : S → ℕ → ℕ) → Type 0
BlocksGo {S} told moment faults =
    (turns : List Turn) (old new : Hall S) → RanFrom told moment faults (Some (began told moment faults old)) turns new
    → (new.held.base ≡ old.held.base) × (new.held.opened ≡ old.held.opened) × Told (told old.store) (told new.store) (GoesOn (λ file. Unit {0}))

-- so it does behind one actor's steps
abbrev pub GoOn : {S : Type 0} → (told : S → Option History) → (moment : S → ℕ) → (faults : S → ℕ → ℕ) → Type 0
GoOn {S} told moment faults =
    (actor : ℕ) (events : List Event) (old new : Hall S) → RanOn told moment faults actor events old new
    → (new.held.base ≡ old.held.base) × (new.held.opened ≡ old.held.opened) × Told (told old.store) (told new.store) (GoesOn (λ file. Unit {0}))

-- a hall at rest is given back by each image
abbrev pub AreThere : {S : Type 0} → (told : S → Option History) → (moment : S → ℕ) → (faults : S → ℕ → ℕ) → Type 0
AreThere {S} told moment faults =
    (hall : Hall S) (m : Machine) (h : History) (image : ℕ → List ℕ) → told hall.store ≡ Some h → Is told moment faults hall m → WasSound hall.held.base hall.held.opened h
    → m.core.fault ≡ None → length m.core.stamps ≡ length m.core.journal → ImageAt h (now h) image → GivesState m image

-- a line's steps come to what it says, or end the run
abbrev pub Come : Type 0 → Type 0
Come trusted =
    (k : Client) (n : ℕ) (line : Line) (events : List Event) (answer : Answer) (why : Option Refusal) (old new : Machine) → IsAtRest old.core → HasSizes old → HasSoundRows (database old)
    → AnswersLine k n line events (Ok (answer, why)) → Alone trusted hall_places 0 events old new → Replies trusted hall_places k n line old answer why new

abbrev pub End_ : Type 0 → Type 0
End_ trusted =
    (k : Client) (n : ℕ) (line : Line) (events : List Event) (how : Halt) (old new : Machine) → IsAtRest old.core → HasSizes old → HasSoundRows (database old)
    → AnswersLine k n line events (Err how) → Alone trusted hall_places 0 events old new → EndsLine trusted hall_places k n line old how new

-- and then it has what the headline says of each line
abbrev pub Hold : Type 0 → Type 0
Hold trusted =
    (k : Client) (n : ℕ) (line : Line) (answer : Answer) (why : Option Refusal) (old new : Machine) → (r : Replies trusted hall_places k n line old answer why new)
    → Holds trusted hall_places k n line old r.mid answer r.added

-- stamps that rise to a moment are at most that
over : (first last : ℕ) (stamps : List ℕ) → Rise first last stamps → first ≤ last
over first last [] rise = rise
over first last (stamp ∷ stamps) rise = (let one = rise.0 in let rest = over stamp last stamps rise.1 in omega (arith, one, rest))

come : (first last : ℕ) (stamps : List ℕ) → Rise first last stamps → AllByRecursion (λ stamp. stamp ≤ last) stamps
come first last [] rise = tt
come first last (stamp ∷ stamps) rise = (over stamp last stamps rise.1, come stamp last stamps rise.1)

timely : {S : Type 0} (told : S → Option History) (moment : S → ℕ) (faults : S → ℕ → ℕ) (hall : Hall S) (old new : Machine) → Is told moment faults hall new → KeepsStamps old.core new.core → IsTimely old new
timely told moment faults hall old new is keeps = record { keeps = keeps; come = come hall.held.opened new.moment new.core.stamps is.good.stamped.rise }

in_order : {S : Type 0} (told : S → Option History) (moment : S → ℕ) (faults : S → ℕ → ℕ) (hall : Hall S) (m : Machine) → Is told moment faults hall m → IsInOrder m
in_order told moment faults hall m is = record {
  valid = subst (λ (v : Inv). is_valid v ≡ true) (inv_at_all m.core) (valid_at m.core is.good.lawful (length m.core.journal));
  next_file = is.good.numbers.next_file.1;
  next_object = is.good.numbers.next_object.1;
}

-- the rows of the database are sound, as those of each database of a lawful run are that began with rows as tables hold them
sound_rows : {S : Type 0} (told : S → Option History) (moment : S → ℕ) (faults : S → ℕ → ℕ) (hall : Hall S) (m : Machine) → Is told moment faults hall m → AreAscending hall.held.base → HasSoundRows (database m)
sound_rows told moment faults hall m is ascends =
    let first : AreAscending m.core.base = subst AreAscending (sym is.core.base) ascends in
    sound-along m.core.base m.core.journal (record { valid = is.good.lawful.valid; pools = first.pools; rows = record { by_number = first.filespaces; by_path = first.paths }; tied = is.good.lawful.tied })
    (λ i e at. (journal_of m.core.base (take i m.core.journal), is.good.lawful.legal i e at))

module _ {S T : Type 0} (told : S → Option History) (moment : S → ℕ) (faults : S → ℕ → ℕ) (files : T → Option Files) (tree_faults : T → ℕ) (clock : (s : S) → IfSome (told s) (λ h. now h ≡ moment s))
    (changes : ChangeTheirTree) (steps_go : GoOn told moment faults) (gives : AreThere told moment faults)
    (goes_then : (x y z : Option History) → Told x y (GoesOn (λ file. Unit {0})) → Told y z (GoesOn (λ file. Unit {0})) → Told x z (GoesOn (λ file. Unit {0}))) (goes_here : (x : Option History) → Told x x (GoesOn (λ file. Unit {0})))
    (trusted : Type 0) (alone : AreAlone trusted told moment faults) (comes : Come trusted) (ends : End_ trusted) (hold : Hold trusted) (choice : List Rule) where
  -- a session is in this state of the machine, and at rest; and the rows of the database that its hall was opened with ascend
  pub record At (s : Session S T) (m : Machine) : Type 0 where
    pub is : Is told moment faults s.hall m
    pub ascends : AreAscending s.hall.held.base
    pub known : trusted → IsTrusted (told s.hall.store) s.hall.held
    pub rests : IsAtRest m.core
    pub binder : s.binder ≡ choice

  -- the store of the one goes on from the other's
  abbrev pub Goes : Session S T → Session S T → Type 0
  Goes old new = (new.hall.held.base ≡ old.hall.held.base) × (new.hall.held.opened ≡ old.hall.held.opened) × Told (told old.hall.store) (told new.hall.store) (GoesOn (λ file. Unit {0}))

  then_goes : (a b c : Session S T) → Goes a b → Goes b c → Goes a c
  then_goes a b c first second = (second.0 ∙ first.0, second.1 ∙ first.1, goes_then (told a.hall.store) (told b.hall.store) (told c.hall.store) first.2 second.2)

  here_goes : (a : Session S T) → Goes a a
  here_goes a = (refl, refl, goes_here (told a.hall.store))

  abbrev pub Machined : Session S T → Site → ℕ → List ℕ → Answer → Site → Type 0
  Machined last = RepliesAt trusted choice (told last.hall.store)

  abbrev pub Ending : Session S T → Site → ℕ → List ℕ → Halt → Site → Type 0
  Ending last = StopsAt trusted choice (told last.hall.store)

  abbrev pub Serves : Session S T → ℕ → List ℕ → Answer → Session S T → Type 0
  Serves = ServesLine told moment faults files tree_faults

  abbrev pub Stops : Session S T → ℕ → List ℕ → Halt → Session S T → Type 0
  Stops = HaltsLine told moment faults files tree_faults

  -- the site of a session in this state
  abbrev pub of : Session S T → Machine → Site
  of s m = site m (all_seen files tree_faults s.trees.items) s.notes.items

  numbered : (hall : Hall S) (m : Machine) → Is told moment faults hall m → number_of hall ≡ number_in m
  numbered hall m is = ap (λ (v : Inv). v.number) is.core.database

  noted : (line : Line) (n : ℕ) (why : Option Refusal) (notes : List Note) (f g b c x y : ℕ) → f ≡ g → b ≡ c → x ≡ y → with_note line (note_of n f b x why) notes ≡ with_note line (note_of n g c y why) notes
  noted line n why notes f g b c x y first before after =
      ap (λ (k : ℕ). with_note line (note_of n k b x why) notes) first ∙ ap (λ (k : ℕ). with_note line (note_of n g k x why) notes) before ∙ ap (λ (k : ℕ). with_note line (note_of n g c k why) notes) after

  -- ---- a line

  pub record Stepped (old new : Session S T) (n : ℕ) (line : List ℕ) (answer : Answer) (m : Machine) : Type 0 where
    pub next : Machine
    pub at : At new next
    pub goes : Goes old new
    pub onward : Onward m next
    pub same : next.core.base ≡ m.core.base
    pub run : (last : Session S T) → Goes new last → Machined last (of old m) n line answer (of new next)

  pub step : (old new : Session S T) (n : ℕ) (line : List ℕ) (answer : Answer) (m : Machine) → At old m → Serves old n line answer new → Stepped old new n line answer m
  step old new n line answer m at (why, (events, ran, did), binder, notes) =
      let run = alone 0 events old.hall new.hall m at.is at.known ran in
      let on = steps_go 0 events old.hall new.hall ran in
      let k = between choice (of old m) (of new run.0) in
      let said : AnswersLine k n (line_of line) events (Ok (answer, why)) = subst (λ (rules : List Rule). AnswersLine (client files tree_faults rules old.trees.items new.trees.items) n (line_of line) events (Ok (answer, why))) at.binder did in
      let r = comes k n (line_of line) events answer why m run.0 at.rests at.is.good.bytes.sized (sound_rows told moment faults old.hall m at.is at.ascends) said run.1 in
      record {
        next = run.0;
        at = record { is = run.2; ascends = subst AreAscending (sym on.0) at.ascends; known = run.3; rests = r.rests; binder = binder ∙ at.binder };
        goes = on;
        onward = further m r.mid run.0 r.first r.behind;
        same = run.2.core.base ∙ on.0 ∙ sym at.is.core.base;
        run = λ last more. (
          why,
          r,
          hold k n (line_of line) answer why m run.0 r,
          leaves_file changes k n (line_of line) events answer why said,
          (λ t. there told moment faults clock gives new.hall run.0 (told last.hall.store) run.2 r.rests.fault r.rests.durable (run.3 t) more.2),
          timely told moment faults new.hall m run.0 run.2 run.4,
          in_order told moment faults new.hall run.0 run.2,
          notes
              ∙ noted (line_of line) n why old.notes.items old.hall.held.base.number m.core.base.number (number_of old.hall) (number_in m) (number_of new.hall) (number_in run.0)
              (ap (λ (v : Inv). v.number) (sym at.is.core.base)) (numbered old.hall m at.is) (numbered new.hall run.0 run.2),
        );
      }

  pub record Halting (old new : Session S T) (n : ℕ) (line : List ℕ) (how : Halt) (m : Machine) : Type 0 where
    pub next : Machine
    pub is : Is told moment faults new.hall next
    pub known : trusted → IsTrusted (told new.hall.store) new.hall.held
    pub goes : Goes old new
    pub onward : Onward m next
    pub same : next.core.base ≡ m.core.base
    pub run : Ending new (of old m) n line how (of new next)

  pub halt : (old new : Session S T) (n : ℕ) (line : List ℕ) (how : Halt) (m : Machine) → At old m → Stops old n line how new → Halting old new n line how m
  halt old new n line how m at ((events, ran, did), binder, notes) =
      let run = alone 0 events old.hall new.hall m at.is at.known ran in
      let on = steps_go 0 events old.hall new.hall ran in
      let k = between choice (of old m) (of new run.0) in
      let said : AnswersLine k n (line_of line) events (Err how) = subst (λ (rules : List Rule). AnswersLine (client files tree_faults rules old.trees.items new.trees.items) n (line_of line) events (Err how)) at.binder did in
      let r = ends k n (line_of line) events how m run.0 at.rests at.is.good.bytes.sized (sound_rows told moment faults old.hall m at.is at.ascends) said run.1 in
      record {
        next = run.0;
        is = run.2;
        known = run.3;
        goes = on;
        onward = r.onward;
        same = run.2.core.base ∙ on.0 ∙ sym at.is.core.base;
        run = (r, changes.only k n (line_of line) events (Err how) said, timely told moment faults new.hall m run.0 run.2 run.4, in_order told moment faults new.hall run.0 run.2, (λ t free durable. there told moment faults clock gives new.hall run.0 (told new.hall.store) run.2 free durable (run.3 t) (goes_here (told new.hall.store))), notes);
      }

  -- ---- where a session comes to

  -- A session was led to another one, at rest in a state of the machine, and this holds of that state, by what the store tells in the end.
  pub record Led (old new : Session S T) (m : Machine) (P : Option History → Machine → Type 0) : Type 0 where
    pub next : Machine
    pub at : At new next
    pub goes : Goes old new
    pub onward : Onward m next
    pub same : next.core.base ≡ m.core.base
    pub run : (last : Session S T) → Goes new last → P (told last.hall.store) next

  -- or the run ended with this one
  pub record Ended (old new : Session S T) (m : Machine) (P : Option History → Machine → Type 0) : Type 0 where
    pub next : Machine
    pub is : Is told moment faults new.hall next
    pub known : trusted → IsTrusted (told new.hall.store) new.hall.held
    pub goes : Goes old new
    pub onward : Onward m next
    pub same : next.core.base ≡ m.core.base
    pub run : P (told new.hall.store) next

  led_by : (old new : Session S T) (n : ℕ) (line : List ℕ) (answer : Answer) (m : Machine) → At old m → Serves old n line answer new → Led old new m (λ y next. RepliesAt trusted choice y (of old m) n line answer (of new next))
  led_by old new n line answer m at served =
      let s = step old new n line answer m at served in
      record { next = s.next; at = s.at; goes = s.goes; onward = s.onward; same = s.same; run = s.run }

  ended_by : (old new : Session S T) (n : ℕ) (line : List ℕ) (how : Halt) (m : Machine) → At old m → Stops old n line how new → Ended old new m (λ y next. StopsAt trusted choice y (of old m) n line how (of new next))
  ended_by old new n line how m at stopped =
      let s = halt old new n line how m at stopped in
      record { next = s.next; is = s.is; known = s.known; goes = s.goes; onward = s.onward; same = s.same; run = s.run }

  map_led : (old new : Session S T) (m : Machine) (P Q : Option History → Machine → Type 0) → ((y : Option History) (next : Machine) → P y next → Q y next) → Led old new m P → Led old new m Q
  map_led old new m P Q leads s = record { next = s.next; at = s.at; goes = s.goes; onward = s.onward; same = s.same; run = λ last more. leads (told last.hall.store) s.next (s.run last more) }

  map_ended : (old new : Session S T) (m : Machine) (P Q : Option History → Machine → Type 0) → ((y : Option History) (next : Machine) → P y next → Q y next) → Ended old new m P → Ended old new m Q
  map_ended old new m P Q leads s = record { next = s.next; is = s.is; known = s.known; goes = s.goes; onward = s.onward; same = s.same; run = leads (told new.hall.store) s.next s.run }

  -- nothing was done
  stays_led : (x : Session S T) (m : Machine) (P : Option History → Machine → Type 0) → At x m → ((y : Option History) → P y m) → Led x x m P
  stays_led x m P at run = record { next = m; at = at; goes = here_goes x; onward = here m; same = refl; run = λ last more. run (told last.hall.store) }

  -- at the end of all
  led_ended : (old new : Session S T) (m : Machine) (P : Option History → Machine → Type 0) → Led old new m P → Ended old new m P
  led_ended old new m P s = record { next = s.next; is = s.at.is; known = s.at.known; goes = s.goes; onward = s.onward; same = s.same; run = s.run new (here_goes new) }

  with_parts : (P : List Known → List Note → List Known → List Note → Type 0) (a b : List Known) (c d : List Note) (e f : List Known) (g h : List Note) → a ≡ b → c ≡ d → e ≡ f → g ≡ h → P a c e g → P b d f h
  with_parts P a b c d e f g h one two three four p =
      subst (λ (l : List Note). P b d f l) four (subst (λ (l : List Known). P b d l g) three (subst (λ (l : List Note). P b l e g) two (subst (λ (l : List Known). P l c e g) one p)))

  module _ (blocks_go : BlocksGo told moment faults) (turned : AreTurned trusted told moment faults) where
    abbrev pub knows : List T → List Known
    knows trees = all_seen files tree_faults trees

    -- ---- a block

    pub record Blocked (old mid : Session S T) (b : Gathered) (first : ℕ) (came : List Came) (m : Machine) : Type 0 where
      pub next : Machine
      pub is : Is told moment faults mid.hall next
      pub known : trusted → IsTrusted (told mid.hall.store) mid.hall.held
      pub goes : Goes old mid
      pub same : next.core.base ≡ m.core.base
      pub ran : JobsTurned trusted choice b first m next (knows old.trees.items) came

    jobs : (old mid : Session S T) (b : Gathered) (first : ℕ) (came : List Came) (m : Machine) → At old m → Worked told moment faults old.binder b.lines (b.job + 1) first old.hall mid.hall (knows old.trees.items) came
        → Blocked old mid b first came m
    jobs old mid b first came m at worked_so =
        let worked : Worked told moment faults choice b.lines (b.job + 1) first old.hall mid.hall (knows old.trees.items) came =
        subst (λ (rules : List Rule). Worked told moment faults rules b.lines (b.job + 1) first old.hall mid.hall (knows old.trees.items) came) at.binder worked_so in
        let run = turned worked.turns old.hall mid.hall m at.is at.known worked.ran in
        let on = blocks_go worked.turns old.hall mid.hall worked.ran in
        let joined = jobs_add trusted first (first + (b.job + 1)) worked.turns m run.0 run.1 worked.nobody in
        record {
          next = run.0;
          is = run.2;
          known = run.3;
          goes = on;
          same = run.2.core.base ∙ on.0 ∙ sym at.is.core.base;
          ran = record {
            turns = worked.turns;
            turned = run.1;
            nobody = worked.nobody;
            done = worked.done;
            fits = run.5;
            hold = λ sure w goes.
                block-held w choice b.lines first (inventory m.core).number m.core worked.turns (shared b.lines (b.job + 1) (knows old.trees.items)) came at.rests.tickets at.rests.image
                (λ actor. (let fits = run.5 sure w goes actor (inventory m.core).number (omega arith) in (own_in actor fits.0 run.0.core, fits.2))) worked.done;
            sizes = λ sure w goes.
                block-sized trusted hall_places w choice b.lines first (inventory m.core).number worked.turns m run.0 (shared b.lines (b.job + 1) (knows old.trees.items)) came run.1 at.rests.tickets at.rests.image
                (λ actor. (let fits = run.5 sure w goes actor (inventory m.core).number (omega arith) in (own_in actor fits.0 run.0.core, fits.2))) worked.done;
            causes = have-causes trusted hall_places worked.turns m run.0 run.1;
            complete = jobs-complete trusted hall_places choice b.lines 0 first worked.turns m run.0 (shared b.lines (b.job + 1) (knows old.trees.items)) came (sound_rows told moment faults old.hall m at.is at.ascends) run.1 worked.done;
            none_fails = jobs-unfailed trusted hall_places choice b.lines 0 first worked.turns m run.0 (shared b.lines (b.job + 1) (knows old.trees.items)) came run.1 worked.done;
            added = joined.0;
            adds = joined.1;
            by_jobs = joined.2;
            by_steps = steps-of trusted hall_places goes_where_aimed worked.turns m run.0 joined.0 run.1 joined.1;
            items = have-bytes trusted hall_places worked.turns m run.0 joined.0 at.rests.tickets run.1 joined.1;
            onward = turned_on trusted hall_places worked.turns m run.0 run.1;
            timely = timely told moment faults mid.hall m run.0 run.2 run.4;
            in_order = in_order told moment faults mid.hall run.0 run.2;
          };
        }

    block : (old new : Session S T) (b : Gathered) (first n : ℕ) (answer : Answer) (m : Machine) → At old m → BlockRan told moment faults files tree_faults b first n old answer new
        → Led old new m (λ y next. RunsBlock trusted choice y b first (of old m) n answer (of new next))
    block old new b first n answer m at (mid, said, jobs_ran, (rests, done)) =
        let lines = jobs_ran.ran in
        let came = lines.0 in
        let middle = jobs old mid b first came m at lines.1 in
        let place : At mid middle.next = record { is = middle.is; ascends = subst AreAscending (sym middle.goes.0) at.ascends; known = middle.known; rests = at_rest told moment faults mid.hall middle.next middle.is rests; binder = jobs_ran.binder ∙ at.binder } in
        let behind = led_by mid done.behind n [] done.follow middle.next place done.follows in
        let further_on : Goes mid new =
        subst (λ (h : Hall S). (h.held.base ≡ mid.hall.held.base) × (h.held.opened ≡ mid.hall.held.opened) × Told (told mid.hall.store) (told h.store) (GoesOn (λ file. Unit {0}))) (sym done.hall) behind.goes in
        let still_noted : done.behind.notes.items ≡ mid.notes.items = done.follows.3 in
        record {
          next = behind.next;
          at = record {
            is = subst (λ (h : Hall S). Is told moment faults h behind.next) (sym done.hall) behind.at.is;
            ascends = subst (λ (h : Hall S). AreAscending h.held.base) (sym done.hall) behind.at.ascends;
            known = subst (λ (h : Hall S). trusted → IsTrusted (told h.store) h.held) (sym done.hall) behind.at.known;
            rests = behind.at.rests;
            binder = done.binder ∙ behind.at.binder;
          };
          goes = then_goes old mid new middle.goes further_on;
          onward = further m middle.next behind.next middle.ran.onward behind.onward;
          same = behind.same ∙ middle.same;
          run = λ last more. record {
            mid = middle.next;
            came = came;
            ran = middle.ran;
            ended = lines.2;
            rests = place.rests;
            answered = done.answered ∙ ap (λ (s : List Said). with_said nothing s) lines.3;
            follow = done.follow;
            follows =
                with_parts (λ k l v w. RepliesAt trusted choice (told last.hall.store) (site middle.next k l) n [] done.follow (site behind.next v w)) (knows mid.trees.items) (left_by b (knows old.trees.items) came) mid.notes.items old.notes.items
                (knows done.behind.trees.items) (knows new.trees.items) done.behind.notes.items old.notes.items lines.4 jobs_ran.notes (sym (ap (λ (l : List T). knows l) done.trees)) (still_noted ∙ jobs_ran.notes)
                (behind.run last (subst (λ (h : Hall S). (last.hall.held.base ≡ h.held.base) × (last.hall.held.opened ≡ h.held.opened) × Told (told h.store) (told last.hall.store) (GoesOn (λ file. Unit {0}))) done.hall more));
            noted =
                done.notes ∙ ap (λ (l : List Note). l ++ notes_of first (number_of old.hall) (number_of mid.hall) said) jobs_ran.notes
                ∙ ap (λ (k : ℕ). old.notes.items ++ notes_of first k (number_of mid.hall) said) (numbered old.hall m at.is)
                ∙ ap (λ (k : ℕ). old.notes.items ++ notes_of first (number_in m) k said) (numbered mid.hall middle.next middle.is)
                ∙ ap (λ (s : List Said). old.notes.items ++ notes_of first (number_in m) (number_in middle.next) s) lines.3;
          };
        }

    caused : (old new : Hall S) (m next : Machine) (how : Halt) → Is told moment faults old m → Is told moment faults new next → IsCause (faults old.store) (faults new.store) (moment new.store) how → IsCause m.counts next.counts next.moment how
    caused old new m next how is after cause =
        subst (λ (f : ℕ → ℕ). IsCause f next.counts next.moment how) (sym is.counts)
        (subst (λ (f : ℕ → ℕ). IsCause (faults old.store) f next.moment how) (sym after.counts) (subst (λ (t : ℕ). IsCause (faults old.store) (faults new.store) t how) (sym after.clock) cause))

    memory_so : (said how : Halt) → said ≡ Memory → (how ≡ said) ⊎ (how ≡ Memory) → how ≡ Memory
    memory_so said how wanted (inl is) = is ∙ wanted
    memory_so said how wanted (inr is) = is

    ended_so : (said how : Halt) (x : Option Halt) (P : Type 0) → (IsEnding x said × P) ⊎ (said ≡ Memory) → (how ≡ said) ⊎ (how ≡ Memory) → (IsEnding x how × P) ⊎ (how ≡ Memory)
    ended_so said how x P (inl (ends, p)) (inl is) = inl (subst (λ (h : Halt). IsEnding x h) (sym is) ends, p)
    ended_so said how x P (inl (ends, p)) (inr is) = inr is
    ended_so said how x P (inr wanted) same = inr (memory_so said how wanted same)

    memory_cause : (old new : ℕ → ℕ) (t : ℕ) (how : Halt) → how ≡ Memory → IsCause old new t how
    memory_cause old new t how is = subst (λ (h : Halt). IsCause old new t h) (sym is) tt

    -- the block ended the run
    abbrev pub BlockStops : (old new : Session S T) → Gathered → (first n : ℕ) → Halt → Machine → Type 0
    BlockStops old new b first n how m = Ended old new m (λ y next. EndsInBlock trusted choice y b first (of old m) n how (of new next))

    jobs_stop : (old new : Session S T) (b : Gathered) (first n : ℕ) (how : Halt) (m : Machine) (came : List Came) → At old m → Worked told moment faults old.binder b.lines (b.job + 1) first old.hall new.hall (knows old.trees.items) came
        → IsCause (faults old.hall.store) (faults new.hall.store) (moment new.hall.store) how → (IsEnding (ending came) how × (knows new.trees.items ≡ left_by b (knows old.trees.items) came)) ⊎ (how ≡ Memory)
        → new.notes.items ≡ old.notes.items → BlockStops old new b first n how m
    jobs_stop old new b first n how m came at worked cause ended notes =
        let middle = jobs old new b first came m at worked in
        record {
          next = middle.next;
          is = middle.is;
          known = middle.known;
          goes = middle.goes;
          onward = middle.ran.onward;
          same = middle.same;
          run = inl (record { came = came; ran = middle.ran; cause = caused old.hall new.hall m middle.next how at.is middle.is cause; ended = ended; noted = notes });
        }

    none_ran : (old new : Session S T) (b : Gathered) (first n : ℕ) (how : Halt) (m : Machine) → At old m → new.hall ≡ old.hall → how ≡ Memory → new.notes.items ≡ old.notes.items → BlockStops old new b first n how m
    none_ran old new b first n how m at same wanted notes = record {
      next = m;
      is = subst (λ (h : Hall S). Is told moment faults h m) (sym same) at.is;
      known = subst (λ (h : Hall S). trusted → IsTrusted (told h.store) h.held) (sym same) at.known;
      goes = subst (λ (h : Hall S). (h.held.base ≡ old.hall.held.base) × (h.held.opened ≡ old.hall.held.opened) × Told (told old.hall.store) (told h.store) (GoesOn (λ file. Unit {0}))) (sym same) (here_goes old);
      onward = here m;
      same = refl;
      run = inr (inl (refl, wanted, notes));
    }

    by_jobs : (old new : Session S T) (b : Gathered) (first n : ℕ) (how said : Halt) (m : Machine) → At old m
        → EndsLines told moment faults old.binder b.lines (b.job + 1) first old.hall new.hall (knows old.trees.items) said (knows new.trees.items) → (how ≡ said) ⊎ (how ≡ Memory)
        → IsCause (faults old.hall.store) (faults new.hall.store) (moment new.hall.store) how → new.notes.items ≡ old.notes.items → BlockStops old new b first n how m
    by_jobs old new b first n how said m at (inl (came, worked, ended)) same cause notes =
        jobs_stop old new b first n how m came at worked cause (ended_so said how (ending came) (knows new.trees.items ≡ left_by b (knows old.trees.items) came) ended same) notes
    by_jobs old new b first n how said m at (inr (unchanged, wanted)) same cause notes = none_ran old new b first n how m at unchanged (memory_so said how wanted same) notes

    behind_jobs : (old new : Session S T) (b : Gathered) (first n : ℕ) (how : Halt) (m : Machine) (mid : Session S T) (said : List Said) → At old m → JobsRan told moment faults files tree_faults b first old said mid
        → BlockHalted told moment faults files tree_faults mid n how new → BlockStops old new b first n how m
    behind_jobs old new b first n how m mid said at ran (inl (same, wanted)) =
        subst (λ (s : Session S T). BlockStops old s b first n how m) (sym same)
        (jobs_stop old mid b first n how m ran.ran.0 at ran.ran.1 (memory_cause (faults old.hall.store) (faults mid.hall.store) (moment mid.hall.store) how wanted) (inr wanted) ran.notes)
    behind_jobs old new b first n how m mid said at ran (inr (rests, stopped)) =
        let lines = ran.ran in
        let middle = jobs old mid b first lines.0 m at lines.1 in
        let place : At mid middle.next = record { is = middle.is; ascends = subst AreAscending (sym middle.goes.0) at.ascends; known = middle.known; rests = at_rest told moment faults mid.hall middle.next middle.is rests; binder = ran.binder ∙ at.binder } in
        let behind = ended_by mid new n [] how middle.next place stopped in
        record {
          next = behind.next;
          is = behind.is;
          known = behind.known;
          goes = then_goes old mid new middle.goes behind.goes;
          onward = further m middle.next behind.next middle.ran.onward behind.onward;
          same = behind.same ∙ middle.same;
          run = inr (inr (
            middle.next,
            lines.0,
            middle.ran,
            lines.2,
            place.rests,
            with_parts (λ k l v w. StopsAt trusted choice (told new.hall.store) (site middle.next k l) n [] how (site behind.next v w)) (knows mid.trees.items) (left_by b (knows old.trees.items) lines.0) mid.notes.items old.notes.items
                (knows new.trees.items) (knows new.trees.items) new.notes.items new.notes.items lines.4 ran.notes refl refl behind.run,
          ));
        }

    block_stops : (old new : Session S T) (b : Gathered) (first n : ℕ) (how : Halt) (m : Machine) → At old m → BlockEnds told moment faults files tree_faults b first n old how new → BlockStops old new b first n how m
    block_stops old new b first n how m at (inl e) = by_jobs old new b first n how e.said m at e.ended e.answered e.cause e.notes
    block_stops old new b first n how m at (inr (mid, said, ran, halted)) = behind_jobs old new b first n how m mid said at ran halted

    -- ---- what is given to a server

    abbrev pub stand_of : Site → Option Gathered → ℕ → Stand
    stand_of w b j = record { site = w; block = b; jobs = j }

    -- where a server with this session stands
    abbrev pub stand : Server S T → Session S T → Machine → Stand
    stand s x m = stand_of (of x m) s.block s.jobs

    abbrev pub Gives : Server S T → ℕ → Option (List ℕ) → Answer → Server S T → Type 0
    Gives = ServesBy told moment faults files tree_faults

    abbrev pub Halts_ : Server S T → ℕ → Option (List ℕ) → Halt → Server S T → Type 0
    Halts_ = HaltsBy told moment faults files tree_faults

    -- A session was led to that of this server, and this holds of where it stands.
    pub record Comes (old : Session S T) (new : Server S T) (m : Machine) (P : Option History → Stand → Type 0) : Type 0 where
      pub session : Session S T
      pub there : new.session ≡ session
      pub led : Led old session m (λ y next. P y (stand new session next))

    -- or the run ended there
    pub record Stopped (old : Session S T) (new : Server S T) (m : Machine) (P : Option History → Stand → Type 0) : Type 0 where
      pub session : Session S T
      pub there : new.session ≡ session
      pub ended : Ended old session m (λ y next. P y (stand new session next))

    same_block : (s : Server S T) (a b : Gathered) → s.block ≡ Some a → s.block ≡ Some b → a ≡ b
    same_block s a b one other = (let both : ◌≡◌ {A = Option Gathered} (Some a) (Some b) = sym one ∙ other in cc)

    worked : (old new : Server S T) (x : Session S T) (Of : Session S T → Session S T → Type 0) → old.session ≡ x → Of old.session new.session → (b : Session S T) × (new.session ≡ b) × Of x b
    worked old new x Of at did = (new.session, refl, subst (λ (a : Session S T). Of a new.session) at did)

    outside : (old new : Server S T) (x : Session S T) (n : ℕ) (l : List ℕ) (answer : Answer) (m : Machine) → old.session ≡ x → At x m → old.block ≡ None → ServesOutside told moment faults files tree_faults old n l answer new
        → Comes x new m (λ y s. AnswersHere trusted choice y false (stand old x m) n l answer s)
    outside old new x n l answer m there_is at none (works, (still_open, as_many)) =
        let w = worked old new x (λ a b. ServesLine told moment faults files tree_faults a n l answer b) there_is works in
        record {
          session = w.0;
          there = w.1;
          led = map_led x w.0 m (λ y next. RepliesAt trusted choice y (of x m) n l answer (of w.0 next)) (λ y next. AnswersHere trusted choice y false (stand old x m) n l answer (stand new w.0 next)) (λ y next r. (r, still_open ∙ none, as_many))
              (led_by x w.0 n l answer m at w.2);
        }

    run_block : (old new : Server S T) (x : Session S T) (b : Gathered) (n : ℕ) (answer : Answer) (m : Machine) → old.session ≡ x → At x m → old.block ≡ Some b → ServesBlock told moment faults files tree_faults old n answer new
        → Comes x new m (λ y s. AnswersBlock trusted choice y b (stand old x m) n answer s)
    run_block old new x b n answer m there_is at was_open (c, is_open, works, closed, counted) =
        let same = same_block old c b is_open was_open in
        let w = worked old new x (λ p q. BlockRan told moment faults files tree_faults c (old.jobs + 1) n p answer q) there_is works in
        record {
          session = w.0;
          there = w.1;
          led = map_led x w.0 m (λ y next. RunsBlock trusted choice y b (old.jobs + 1) (of x m) n answer (of w.0 next)) (λ y next. AnswersBlock trusted choice y b (stand old x m) n answer (stand new w.0 next))
              (λ y next r. (r, closed, counted ∙ ap (λ (g : Gathered). old.jobs + (g.job + 1)) same))
              (block x w.0 b (old.jobs + 1) n answer m at (subst (λ (g : Gathered). BlockRan told moment faults files tree_faults g (old.jobs + 1) n x answer w.0) same w.2));
        }

    -- the session stays, and so the block and the jobs are then
    unmoved : (new : Server S T) (x : Session S T) (m : Machine) (P : Option History → Stand → Type 0) (block : Option Gathered) (many : ℕ) → At x m → new.session ≡ x → new.block ≡ block → new.jobs ≡ many
        → ((y : Option History) → P y (stand_of (of x m) block many)) → Comes x new m P
    unmoved new x m P block many at there_is is_open counted run = record {
      session = x;
      there = there_is;
      led = stays_led x m (λ y next. P y (stand new x next)) at (λ y. subst (λ (j : ℕ). P y (stand_of (of x m) new.block j)) (sym counted) (subst (λ (b : Option Gathered). P y (stand_of (of x m) b many)) (sym is_open) (run y)));
    }

    keeps_line : (old new : Server S T) (x : Session S T) (b : Gathered) (answer : Answer) (m : Machine) → old.session ≡ x → At x m → (answer ≡ nothing) × Keeps b old new
        → Comes x new m (λ y s. (answer ≡ nothing) × (s ≡ stand_of (of x m) (Some b) old.jobs))
    keeps_line old new x b answer m there_is at (none, (kept, opened, counted)) =
        unmoved new x m (λ y s. (answer ≡ nothing) × (s ≡ stand_of (of x m) (Some b) old.jobs)) (Some b) old.jobs at (kept ∙ there_is) opened counted (λ y. (none, refl))

    at_rest_still : (old new : Server S T) (x : Session S T) (answer : Answer) (m : Machine) → old.session ≡ x → At x m → (answer ≡ nothing) × Stays old new → Comes x new m (λ y s. (answer ≡ nothing) × (s ≡ stand old x m))
    at_rest_still old new x answer m there_is at (none, (kept, (opened, counted))) =
        unmoved new x m (λ y s. (answer ≡ nothing) × (s ≡ stand old x m)) old.block old.jobs at (kept ∙ there_is) opened counted (λ y. (none, refl))

    here_step : (b : Bool) (old new : Server S T) (x : Session S T) (n : ℕ) (l : List ℕ) (answer : Answer) (m : Machine) → old.session ≡ x → At x m → old.block ≡ None
        → ServesHere told moment faults files tree_faults b old n l answer new → Comes x new m (λ y s. AnswersHere trusted choice y b (stand old x m) n l answer s)
    here_step true old new x n l answer m there_is at none served = keeps_line old new x begun answer m there_is at served
    here_step false old new x n l answer m there_is at none served = outside old new x n l answer m there_is at none served

    inside_step : (b : Bool) (g : Gathered) (old new : Server S T) (x : Session S T) (n : ℕ) (l : List ℕ) (answer : Answer) (m : Machine) → old.session ≡ x → At x m → old.block ≡ Some g
        → ServesInside told moment faults files tree_faults b g old n l answer new → Comes x new m (λ y s. AnswersInside trusted choice y b g (stand old x m) n l answer s)
    inside_step true g old new x n l answer m there_is at is served = run_block old new x g n answer m there_is at is served
    inside_step false g old new x n l answer m there_is at is served = keeps_line old new x (with_line g n l) answer m there_is at served

    step_in : (o : Option Gathered) (old new : Server S T) (x : Session S T) (n : ℕ) (given : Option (List ℕ)) (answer : Answer) (m : Machine) → old.session ≡ x → At x m → old.block ≡ o
        → ServesIn told moment faults files tree_faults o old n given answer new → Comes x new m (λ y s. AnswersIn trusted choice y o (stand old x m) n given answer s)
    step_in None old new x n (Some l) answer m there_is at is served = here_step (begins l) old new x n l answer m there_is at is served
    step_in (Some g) old new x n (Some l) answer m there_is at is served = inside_step (is_end (part l)) g old new x n l answer m there_is at is served
    step_in None old new x n None answer m there_is at is served = at_rest_still old new x answer m there_is at served
    step_in (Some g) old new x n None answer m there_is at is served = run_block old new x g n answer m there_is at is served

    given_step : (old new : Server S T) (x : Session S T) (n : ℕ) (given : Option (List ℕ)) (answer : Answer) (m : Machine) → old.session ≡ x → At x m → Gives old n given answer new
        → Comes x new m (λ y s. AnswersAt trusted choice y (stand old x m) n given answer s)
    given_step old new x n given answer m there_is at served = step_in old.block old new x n given answer m there_is at refl served

    -- ---- what ends the run

    outside_stops : (old new : Server S T) (x : Session S T) (n : ℕ) (l : List ℕ) (how : Halt) (m : Machine) → old.session ≡ x → At x m → EndsOutside told moment faults files tree_faults old n l how new
        → Stopped x new m (λ y s. StopsAt trusted choice y (of x m) n l how s.site)
    outside_stops old new x n l how m there_is at (works, still_open) =
        let w = worked old new x (λ a b. HaltsLine told moment faults files tree_faults a n l how b) there_is works in
        record { session = w.0; there = w.1; ended = ended_by x w.0 n l how m at w.2 }

    block_halts : (old new : Server S T) (x : Session S T) (b : Gathered) (n : ℕ) (how : Halt) (m : Machine) → old.session ≡ x → At x m → old.block ≡ Some b → EndsBlock told moment faults files tree_faults old n how new
        → Stopped x new m (λ y s. EndsInBlock trusted choice y b (old.jobs + 1) (of x m) n how s.site)
    block_halts old new x b n how m there_is at was_open (c, is_open, works) =
        let same = same_block old c b is_open was_open in
        let w = worked old new x (λ p q. BlockEnds told moment faults files tree_faults c (old.jobs + 1) n p how q) there_is works in
        record { session = w.0; there = w.1; ended = block_stops x w.0 b (old.jobs + 1) n how m at (subst (λ (g : Gathered). BlockEnds told moment faults files tree_faults g (old.jobs + 1) n x how w.0) same w.2) }

    comes_ended : (old : Session S T) (new : Server S T) (m : Machine) (P : Option History → Stand → Type 0) → Comes old new m P → Stopped old new m P
    comes_ended old new m P c = record { session = c.session; there = c.there; ended = led_ended old c.session m (λ y next. P y (stand new c.session next)) c.led }

    map_stopped : (old : Session S T) (new : Server S T) (m : Machine) (P Q : Option History → Stand → Type 0) → ((y : Option History) (s : Stand) → P y s → Q y s) → Stopped old new m P → Stopped old new m Q
    map_stopped old new m P Q leads e = record {
      session = e.session;
      there = e.there;
      ended = map_ended old e.session m (λ y next. P y (stand new e.session next)) (λ y next. Q y (stand new e.session next)) (λ y next r. leads y (stand new e.session next) r) e.ended;
    }

    wants : (old new : Server S T) (x : Session S T) (how : Halt) (m : Machine) → old.session ≡ x → At x m → (how ≡ Memory) × Stays old new → Stopped x new m (λ y s. (how ≡ Memory) × (s ≡ stand old x m))
    wants old new x how m there_is at (wanted, (kept, (opened, counted))) =
        comes_ended x new m (λ y s. (how ≡ Memory) × (s ≡ stand old x m)) (unmoved new x m (λ y s. (how ≡ Memory) × (s ≡ stand old x m)) old.block old.jobs at (kept ∙ there_is) opened counted (λ y. (wanted, refl)))

    here_stops : (b : Bool) (old new : Server S T) (x : Session S T) (n : ℕ) (l : List ℕ) (how : Halt) (m : Machine) → old.session ≡ x → At x m → HaltsHere told moment faults files tree_faults b old n l how new
        → Stopped x new m (λ y s. EndsHere trusted choice y b (stand old x m) n l how s)
    here_stops true old new x n l how m there_is at none = absurd none
    here_stops false old new x n l how m there_is at stops = outside_stops old new x n l how m there_is at stops

    inside_stops : (b : Bool) (g : Gathered) (old new : Server S T) (x : Session S T) (n : ℕ) (how : Halt) (m : Machine) → old.session ≡ x → At x m → old.block ≡ Some g
        → HaltsInside told moment faults files tree_faults b old n how new → Stopped x new m (λ y s. EndsInside trusted choice y b g (stand old x m) n how s)
    inside_stops true g old new x n how m there_is at is stops = block_halts old new x g n how m there_is at is stops
    inside_stops false g old new x n how m there_is at is none = absurd none

    stop_in : (o : Option Gathered) (old new : Server S T) (x : Session S T) (n : ℕ) (given : Option (List ℕ)) (how : Halt) (m : Machine) → old.session ≡ x → At x m → old.block ≡ o
        → HaltsIn told moment faults files tree_faults o old n given how new → Stopped x new m (λ y s. EndsIn trusted choice y o (stand old x m) n given how s)
    stop_in None old new x n (Some l) how m there_is at is (inl stops) =
        map_stopped x new m (λ y s. EndsHere trusted choice y (begins l) (stand old x m) n l how s) (λ y s. EndsIn trusted choice y None (stand old x m) n (Some l) how s) (λ y s r. inl r)
        (here_stops (begins l) old new x n l how m there_is at stops)
    stop_in None old new x n (Some l) how m there_is at is (inr wanted) =
        map_stopped x new m (λ y s. (how ≡ Memory) × (s ≡ stand old x m)) (λ y s. EndsIn trusted choice y None (stand old x m) n (Some l) how s) (λ y s r. inr r) (wants old new x how m there_is at wanted)
    stop_in (Some g) old new x n (Some l) how m there_is at is (inl stops) =
        map_stopped x new m (λ y s. EndsInside trusted choice y (is_end (part l)) g (stand old x m) n how s) (λ y s. EndsIn trusted choice y (Some g) (stand old x m) n (Some l) how s) (λ y s r. inl r)
        (inside_stops (is_end (part l)) g old new x n how m there_is at is stops)
    stop_in (Some g) old new x n (Some l) how m there_is at is (inr wanted) =
        map_stopped x new m (λ y s. (how ≡ Memory) × (s ≡ stand old x m)) (λ y s. EndsIn trusted choice y (Some g) (stand old x m) n (Some l) how s) (λ y s r. inr r) (wants old new x how m there_is at wanted)
    stop_in None old new x n None how m there_is at is none = absurd none
    stop_in (Some g) old new x n None how m there_is at is stops = block_halts old new x g n how m there_is at is stops

    given_halt : (old new : Server S T) (x : Session S T) (n : ℕ) (given : Option (List ℕ)) (how : Halt) (m : Machine) → old.session ≡ x → At x m → Halts_ old n given how new
        → Stopped x new m (λ y s. EndsAt trusted choice y (stand old x m) n given how s)
    given_halt old new x n given how m there_is at stops = stop_in old.block old new x n given how m there_is at refl stops

    -- ---- lines

    runs : (lines : List (List ℕ)) (n : ℕ) (old new : Server S T) (x : Session S T) (text : List ℕ) (tally : Tally) (m : Machine) → old.session ≡ x → At x m → Runs Gives n old lines text tally new
        → Comes x new m (λ y s. Runs (AnswersAt trusted choice y) n (stand old x m) lines text tally s)
    runs [] n old new x text tally m there_is at (none, zero_tally, same) =
        unmoved new x m (λ y s. Runs (AnswersAt trusted choice y) n (stand old x m) [] text tally s) old.block old.jobs at (ap (λ (s : Server S T). s.session) same ∙ there_is) (ap (λ (s : Server S T). s.block) same)
        (ap (λ (s : Server S T). s.jobs) same) (λ y. (none, zero_tally, refl))
    runs (l ∷ more) n old new x text tally m there_is at (answer, mid, rest, others, serves, is, counts, run) =
        let one = given_step old mid x n (Some l) answer m there_is at serves in
        let next = runs more (n + 1) mid new one.session rest others one.led.next one.there one.led.at run in
        record {
          session = next.session;
          there = next.there;
          led = record {
            next = next.led.next;
            at = next.led.at;
            goes = then_goes x one.session next.session one.led.goes next.led.goes;
            onward = further m one.led.next next.led.next one.led.onward next.led.onward;
            same = next.led.same ∙ one.led.same;
            run = λ last on. (answer, stand mid one.session one.led.next, rest, others, one.led.run last (then_goes one.session next.session last next.led.goes on), is, counts, next.led.run last on);
          };
        }

    -- ---- how a run ended

    -- some lines, and then what ended the run
    then_ends : (old : Session S T) (mid new : Server S T) (m : Machine) (A B C : Option History → Stand → Type 0) → (first : Comes old mid m A) → Stopped first.session new first.led.next B
        → ((y : Option History) (s : Stand) → A y (stand mid first.session first.led.next) → B y s → C y s) → Stopped old new m C
    then_ends old mid new m A B C first last leads =
        let on = last.ended in
        record {
          session = last.session;
          there = last.there;
          ended = record {
            next = on.next;
            is = on.is;
            known = on.known;
            goes = then_goes old first.session last.session first.led.goes on.goes;
            onward = further m first.led.next on.next first.led.onward on.onward;
            same = on.same ∙ first.led.same;
            run = leads (told last.session.hall.store) (stand new last.session on.next) (first.led.run last.session on.goes) on.run;
          };
        }

    halts : (script : Option (List ℕ)) (taken : List (List ℕ)) (tally : Tally) (text : List ℕ) (old mid new : Server S T) (how : Halt) (x : Session S T) (m : Machine)
        → Comes x mid m (λ y s. Runs (AnswersAt trusted choice y) 1 (stand old x m) taken text tally s) → Halts Halts_ script taken mid how new
        → Stopped x new m (λ y s. Answers (AnswersAt trusted choice y) (EndsAt trusted choice y) (stand old x m) script (Halted how) text s)
    halts script taken tally text old mid new how x m ran (inl (l, front, stops)) =
        then_ends x mid new m (λ y s. Runs (AnswersAt trusted choice y) 1 (stand old x m) taken text tally s)
        (λ y s. EndsAt trusted choice y (stand mid ran.session ran.led.next) (length taken + 1) (Some l) how s) (λ y s. Answers (AnswersAt trusted choice y) (EndsAt trusted choice y) (stand old x m) script (Halted how) text s) ran
        (given_halt mid new ran.session (length taken + 1) (Some l) how ran.led.next ran.there ran.led.at stops) (λ y s a b. (taken, tally, stand mid ran.session ran.led.next, a, inl (l, front, b)))
    halts script taken tally text old mid new how x m ran (inr (inl (whole, stops))) =
        then_ends x mid new m (λ y s. Runs (AnswersAt trusted choice y) 1 (stand old x m) taken text tally s)
        (λ y s. EndsAt trusted choice y (stand mid ran.session ran.led.next) (length taken + 1) None how s) (λ y s. Answers (AnswersAt trusted choice y) (EndsAt trusted choice y) (stand old x m) script (Halted how) text s) ran
        (given_halt mid new ran.session (length taken + 1) None how ran.led.next ran.there ran.led.at stops) (λ y s a b. (taken, tally, stand mid ran.session ran.led.next, a, inr (inl (whole, b))))
    halts script taken tally text old mid new how x m ran (inr (inr (is, none, same))) =
        then_ends x mid new m (λ y s. Runs (AnswersAt trusted choice y) 1 (stand old x m) taken text tally s) (λ y s. s ≡ stand mid ran.session ran.led.next)
        (λ y s. Answers (AnswersAt trusted choice y) (EndsAt trusted choice y) (stand old x m) script (Halted how) text s) ran
        (comes_ended ran.session new ran.led.next (λ y s. s ≡ stand mid ran.session ran.led.next)
        (unmoved new ran.session ran.led.next (λ y s. s ≡ stand mid ran.session ran.led.next) mid.block mid.jobs ran.led.at (ap (λ (s : Server S T). s.session) same ∙ ran.there) (ap (λ (s : Server S T). s.block) same)
        (ap (λ (s : Server S T). s.jobs) same) (λ y. refl))) (λ y s a b. (taken, tally, stand mid ran.session ran.led.next, a, inr (inr (is, none, b))))

    answers : (end : End) (script : Option (List ℕ)) (text : List ℕ) (old new : Server S T) (x : Session S T) (m : Machine) → old.session ≡ x → At x m → Answers Gives Halts_ old script end text new
        → Stopped x new m (λ y s. Answers (AnswersAt trusted choice y) (EndsAt trusted choice y) (stand old x m) script end text s)
    answers (Done tally) script text old new x m there_is at (taken, (front, others, mid, reply, run, last, text_is, tally_is), whole) =
        let ran = runs taken 1 old mid x front others m there_is at run in
        then_ends x mid new m (λ y s. Runs (AnswersAt trusted choice y) 1 (stand old x m) taken front others s) (λ y s. AnswersAt trusted choice y (stand mid ran.session ran.led.next) (length taken + 1) None reply s)
        (λ y s. Answers (AnswersAt trusted choice y) (EndsAt trusted choice y) (stand old x m) script (Done tally) text s) ran
        (comes_ended ran.session new ran.led.next (λ y s. AnswersAt trusted choice y (stand mid ran.session ran.led.next) (length taken + 1) None reply s)
        (given_step mid new ran.session (length taken + 1) None reply ran.led.next ran.there ran.led.at last))
        (λ y s a b. (taken, (front, others, stand mid ran.session ran.led.next, reply, a, b, text_is, tally_is), whole))
    answers SourceFault script text old new x m there_is at (taken, tally, run, front) =
        map_stopped x new m (λ y s. Runs (AnswersAt trusted choice y) 1 (stand old x m) taken text tally s) (λ y s. Answers (AnswersAt trusted choice y) (EndsAt trusted choice y) (stand old x m) script SourceFault text s) (λ y s r. (taken, tally, r, front))
        (comes_ended x new m (λ y s. Runs (AnswersAt trusted choice y) 1 (stand old x m) taken text tally s) (runs taken 1 old new x text tally m there_is at run))
    answers SinkFault script text old new x m there_is at none = absurd none
    answers (Halted how) script text old new x m there_is at (taken, tally, mid, run, is) = halts script taken tally text old mid new how x m (runs taken 1 old mid x text tally m there_is at run) is
    answers (TooLong n) script text old new x m there_is at (taken, tally, run, exceeds) =
        map_stopped x new m (λ y s. Runs (AnswersAt trusted choice y) 1 (stand old x m) taken text tally s) (λ y s. Answers (AnswersAt trusted choice y) (EndsAt trusted choice y) (stand old x m) script (TooLong n) text s) (λ y s r. (taken, tally, r, exceeds))
        (comes_ended x new m (λ y s. Runs (AnswersAt trusted choice y) 1 (stand old x m) taken text tally s) (runs taken 1 old new x text tally m there_is at run))

    allows : (end : End) (script : Option (List ℕ)) (whole : List ℕ) (old new : Server S T) (x : Session S T) (m : Machine) → old.session ≡ x → At x m → Allows Gives Halts_ old script end whole new
        → Stopped x new m (λ y s. Allows (AnswersAt trusted choice y) (EndsAt trusted choice y) (stand old x m) script end whole s)
    allows end script whole old new x m there_is at (text, is, run) =
        map_stopped x new m (λ y s. Answers (AnswersAt trusted choice y) (EndsAt trusted choice y) (stand old x m) script end text s) (λ y s. Allows (AnswersAt trusted choice y) (EndsAt trusted choice y) (stand old x m) script end whole s) (λ y s a. (text, is, a))
        (answers end script text old new x m there_is at run)

    prints : (end : End) (script : Option (List ℕ)) (put : List ℕ) (old new : Server S T) (x : Session S T) (m : Machine) → old.session ≡ x → At x m → Prints Gives Halts_ old script end put new
        → Stopped x new m (λ y s. Prints (AnswersAt trusted choice y) (EndsAt trusted choice y) (stand old x m) script end put s)
    prints (Done tally) script put old new x m there_is at run = allows (Done tally) script put old new x m there_is at run
    prints SourceFault script put old new x m there_is at run = allows SourceFault script put old new x m there_is at run
    prints SinkFault script put old new x m there_is at (other, whole, run, front) =
        map_stopped x new m (λ y s. Allows (AnswersAt trusted choice y) (EndsAt trusted choice y) (stand old x m) script other whole s) (λ y s. Prints (AnswersAt trusted choice y) (EndsAt trusted choice y) (stand old x m) script SinkFault put s) (λ y s a. (other, whole, a, front))
        (allows other script whole old new x m there_is at run)
    prints (Halted how) script put old new x m there_is at run = allows (Halted how) script put old new x m there_is at run
    prints (TooLong n) script put old new x m there_is at run = allows (TooLong n) script put old new x m there_is at run

    -- what the server's run says, the machine's says
    pub says : (end : End) (script before after : Option (List ℕ)) (old new : Server S T) (x : Session S T) (m : Machine) → old.session ≡ x → At x m → Says Gives Halts_ old new script before after end
        → Stopped x new m (λ y s. Says (AnswersAt trusted choice y) (EndsAt trusted choice y) (stand old x m) s script before after end)
    says end script before after old new x m there_is at (put, appends, run) =
        map_stopped x new m (λ y s. Prints (AnswersAt trusted choice y) (EndsAt trusted choice y) (stand old x m) script end put s) (λ y s. Says (AnswersAt trusted choice y) (EndsAt trusted choice y) (stand old x m) s script before after end) (λ y s a. (put, appends, a))
        (prints end script put old new x m there_is at run)
