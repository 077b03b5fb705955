-- A script is run on a hall that was opened, over what the store holds or over a database that was just put there.
use Rattle.std.proofs.Common.{◌≡◌, ℕ, Option, None, Some, List, [], length, Ok, Err, Result, refl, sym, ◌∙◌, ap, subst, arith, true}
use Rattle.std.specs.Prelude.{IfSome}
use Rattle.store_api.specs.Disk.{History, now, reads}
use Rattle.store_api.specs.Told.{Told}
use Rattle.store_api.specs.Runs.{GoesOn}
use Rattle.store_api.proofs.Runs.{goes_none, goes_then, told_map, told_then}
use Rattle.vault.proofs.of_log_file.Told.{told_same}
use Rattle.kinds.specs.declared.refusal.OpenRefused.{OpenRefused}
use Rattle.kinds.specs.declared.refusal.OpenRefused.TheVariants as refused
use Rattle.client_trees.specs.Files.{Files}
use Rattle.entries.specs.declared.entry.Entry.{Entry}
use Rattle.inventory.specs.Meant.{meaning}
use Rattle.inventory_rows.specs.Ascending.{AreAscending}
use Rattle.inventory_rows.specs.State.{Inv}
use Rattle.inventory_rules.specs.Valid.{is_valid}
use Rattle.script_loop.specs.Runs.{Says}
use Rattle.script_loop.specs.Ends.{DoneAtEnd, status_of}
use Rattle.script_loop.specs.declared.ends.End.{End}
use Rattle.vault.specs.Openings.{MayRefuseOpening, Opened}
use Rattle.vault.specs.Recovery.{Recovers}
use Rattle.vault.specs.Vaults.{State}
use Rattle.machine.specs.State.{Machine}
use Rattle.hall.specs.Good.{AlwaysSafe, Is, IsSoundWith, Rise}
use Rattle.hall.specs.Held.{Hall, Held}
use Rattle.hall.specs.Opening.{IsNewHall, IsSound, IsWith, Opens, OpensFiles}
use Rattle.hall.specs.Steps.{IsTrusted}
use Rattle.hall.proofs.Imaging.{no_image}
use Rattle.hall_turns.proofs.Openings.{opened_backed}
use Rattle.block_results.specs.command_steps.Clients.{Client}
use Rattle.blocks.specs.Shapes.{Gathered}
use Rattle.tsm_top.specs.declared.note.Note.{Note}
use Rattle.tsm_top.specs.declared.server.Server.{Server}
use Rattle.tsm_top.specs.declared.session.Session.{Session}
use Rattle.tsm_top.specs.Serve.{Begins, IsNone, IsOurFile, Later, OpensNot, Ran, RanFrom, RanScript, RoseBetween, RunsOver, SparesAll, StartsAt, Sure, run}
use Rattle.tsm_top.specs.Servers.{HaltsBy, Serves}
use Rattle.tsm_top.specs.Sessions.{clients}
use Rattle.tsm_top.specs.Sites.{Site, site}
use Rattle.tsm_top.specs.Stands.{AnswersAt, EndsAt, Stand, standing}
use Rattle.tsm_top.proofs.Backing.{had_opened, run_keeps}
use Rattle.tsm_top.proofs.Resting.{no_seats}
use Rattle.tsm_top.proofs.Running.{AreAlone, AreThere, AreTurned, At, BlocksGo, Come, End_, GoOn, Hold, Stopped, says}
use Rattle.tsm_top.proofs.There.{AreKept, LeaveSound, left_sound, safe_since, there}
use Rattle.tsm_top.proofs.Treed.{ChangeTheirTree}

-- a store's history goes on, and goes on from there
pub goes_further : (x y z : Option History) → Told x y (GoesOn (λ file. Unit {0})) → Told y z (GoesOn (λ file. Unit {0})) → Told x z (GoesOn (λ file. Unit {0}))
goes_further x y z first second =
    told_then x y z (GoesOn (λ file. Unit {0})) (GoesOn (λ file. Unit {0})) (GoesOn (λ file. Unit {0})) (λ a b c one two. goes_then (λ file. Unit {0}) a b c one two) first second

pub goes_no_further : (x : Option History) → Told x x (GoesOn (λ file. Unit {0}))
goes_no_further x = told_same x (GoesOn (λ file. Unit {0})) (goes_none (λ file. Unit {0}))

abbrev stand_at : Site → Option Gathered → ℕ → Stand
stand_at w b j = record { site = w; block = b; jobs = j }

module _ {S : Type 0} (told : S → Option History) (moment : S → ℕ) (faults : S → ℕ → ℕ) (clock : (s : S) → IfSome (told s) (λ h. now h ≡ moment s)) where
  module _ (hall : Hall S) (fresh : IsNewHall (moment hall.store) hall.held) (ascends : AreAscending hall.held.base) where
    begins : (m : Machine) → Is told moment faults hall m → Begins hall.held.base (moment hall.store) (faults hall.store) m
    begins m is =
        let no_tickets : m.core.tickets ≡ [] = no_seats hall.held.seats m.core.tickets fresh.seats is.core.tickets in
        let no_journal : m.core.journal ≡ [] = is.core.journal ∙ fresh.vault.0 in
        let no_stamps : m.core.stamps ≡ [] = is.core.stamps ∙ fresh.stamps in
        record {
          database = is.core.base;
          valid = subst (λ (v : Inv). is_valid v ≡ true) is.core.base is.good.lawful.valid;
          journal = no_journal;
          stamps = no_stamps;
          rests = record {
            tickets = no_tickets;
            image = no_image m.core.image (is.core.image ∙ fresh.image);
            durable = ap (λ (l : List ℕ). length l) no_stamps ∙ sym (ap (λ (l : List Entry). length l) no_journal);
            fault = is.core.fault ∙ fresh.vault.2;
          };
          next_file = sym is.core.space.next_file ∙ ap (λ c. c.next_file) fresh.claims;
          next_object = is.core.next_object ∙ fresh.next_object;
          next_ticket = is.core.next_ticket ∙ fresh.next_ticket;
          clock = is.clock;
          faults = is.counts;
        }

    -- a session on this hall, at the beginning of the script
    module _ {T : Type 0} (files : T → Option Files) (tree_faults : T → ℕ) (changes : ChangeTheirTree) (goes : GoOn told moment faults) (gives : AreThere told moment faults) (first : Session S T) (begun : first.hall ≡ hall) where
      begun_at : (trusted : Type 0) (alone : AreAlone trusted told moment faults) (come : Come trusted) (ends : End_ trusted) (hold : Hold trusted) (m : Machine) → Is told moment faults hall m
          → (trusted → IsTrusted (told hall.store) hall.held) → At told moment faults files tree_faults clock changes goes gives goes_further goes_no_further trusted alone come ends hold first.binder first m
      begun_at trusted alone come ends hold m in_it known = record {
        is = subst (λ (h : Hall S). Is told moment faults h m) (sym begun) in_it;
        ascends = subst (λ (h : Hall S). AreAscending h.held.base) (sym begun) ascends;
        known = subst (λ (h : Hall S). trusted → IsTrusted (told h.store) h.held) (sym begun) known;
        rests = (begins m in_it).rests;
        binder = refl;
      }

      module _ (blocks_go : BlocksGo told moment faults) (old new : Server S T) (has : old.session ≡ first) (end : End) (script was is : Option (List ℕ))
          (said : Says (λ a n given answer b. Serves told moment faults files tree_faults a n given answer b) (λ a n given how b. HaltsBy told moment faults files tree_faults a n given how b) old new script was is end) where
        -- what the run comes to, whatever is known of the store
        abbrev pub Comes : (trusted : Type 0) → AreAlone trusted told moment faults → AreTurned trusted told moment faults → Come trusted → End_ trusted → Hold trusted → Machine → Type 0
        Comes trusted alone turned come ends hold m =
            Stopped told moment faults files tree_faults clock changes goes gives goes_further goes_no_further trusted alone come ends hold first.binder blocks_go turned first new m
            (λ y s. Says (AnswersAt trusted first.binder y) (EndsAt trusted first.binder y) (stand_at (site m (clients files tree_faults first first).old first.notes.items) old.block old.jobs) s script was is end)

        all : (trusted : Type 0) (alone : AreAlone trusted told moment faults) (turned : AreTurned trusted told moment faults) (come : Come trusted) (ends : End_ trusted) (hold : Hold trusted) (m : Machine) → Is told moment faults hall m
            → (trusted → IsTrusted (told hall.store) hall.held) → Comes trusted alone turned come ends hold m
        all trusted alone turned come ends hold m in_it known =
            says told moment faults files tree_faults clock changes goes gives goes_further goes_no_further trusted alone come ends hold first.binder blocks_go turned end script was is old new first m has
            (begun_at trusted alone come ends hold m in_it known) said

        module _ (last : Session S T) (left_it : new.session ≡ last) (unnoted : first.notes.items ≡ []) (closed : old.block ≡ None) (unrun : old.jobs ≡ 0) where
          -- the clients between the two
          abbrev served : Client
          served = clients files tree_faults first last

          module _ (trusted : Type 0) (alone : AreAlone trusted told moment faults) (turned : AreTurned trusted told moment faults) (come : Come trusted) (ends : End_ trusted) (hold : Hold trusted) (m : Machine)
              (in_it : Is told moment faults hall m) (known : trusted → IsTrusted (told hall.store) hall.held) where
            it : Comes trusted alone turned come ends hold m
            it = all trusted alone turned come ends hold m in_it known

            same_last : it.session ≡ last
            same_last = sym it.there ∙ left_it

            abbrev final : Machine
            final = it.ended.next

            is_final : Is told moment faults last.hall final
            is_final = subst (λ (s : Session S T). Is told moment faults s.hall final) same_last it.ended.is

            known_final : trusted → IsTrusted (told last.hall.store) last.hall.held
            known_final = subst (λ (s : Session S T). trusted → IsTrusted (told s.hall.store) s.hall.held) same_last it.ended.known

            on : (last.hall.held.base ≡ hall.held.base) × (last.hall.held.opened ≡ hall.held.opened) × Told (told hall.store) (told last.hall.store) (GoesOn (λ file. Unit {0}))
            on =
                subst (λ (h : Hall S). (last.hall.held.base ≡ h.held.base) × (last.hall.held.opened ≡ h.held.opened) × Told (told h.store) (told last.hall.store) (GoesOn (λ file. Unit {0}))) begun
                (subst (λ (s : Session S T). (s.hall.held.base ≡ first.hall.held.base) × (s.hall.held.opened ≡ first.hall.held.opened) × Told (told first.hall.store) (told s.hall.store) (GoesOn (λ file. Unit {0}))) same_last it.ended.goes)

            abbrev Run : List Note → Option Gathered → ℕ → Session S T → List Note → Type 0
            Run l b j s k =
                Says (AnswersAt trusted first.binder (told s.hall.store)) (EndsAt trusted first.binder (told s.hall.store)) (stand_at (site m served.old l) b j) (stand_at (site final (clients files tree_faults first s).new k) new.block new.jobs) script was is end

            -- nothing was noted at the beginning, no block was open, and no job was run
            from_start : (notes : List Note) → notes ≡ last.notes.items
                → Says (AnswersAt trusted first.binder (told last.hall.store)) (EndsAt trusted first.binder (told last.hall.store)) (standing (site m served.old [])) (stand_at (site final served.new notes) new.block new.jobs) script was is end
            from_start notes notes_are =
                subst (λ (k : List Note). Run [] None 0 last k) (sym notes_are)
                (subst (λ (j : ℕ). Run [] None j last last.notes.items) unrun
                (subst (λ (b : Option Gathered). Run [] b old.jobs last last.notes.items) closed
                (subst (λ (l : List Note). Run l old.block old.jobs last last.notes.items) unnoted (subst (λ (s : Session S T). Run first.notes.items old.block old.jobs s s.notes.items) same_last it.ended.run))))

            pub ran : (journal : List Entry) (stamps : List ℕ) (notes : List Note) (generation : ℕ) → journal ≡ last.hall.held.vault.journal → stamps ≡ last.hall.held.stamps → notes ≡ last.notes.items → generation ≡ last.hall.held.vault.generation
                → (kept : AreKept told moment faults) (leave : LeaveSound told moment faults)
                → Ran trusted served hall.held.base (told last.hall.store) (faults hall.store) (faults last.hall.store) (moment hall.store) (moment last.hall.store) end journal stamps notes generation script was is m
            ran journal stamps notes generation journal_is stamps_are notes_are generation_is kept leave = record {
              begins = begins m in_it;
              there = λ t. there told moment faults clock gives hall m (told last.hall.store) in_it (begins m in_it).rests.fault (begins m in_it).rests.durable (known t) on.2;
              final = final;
              left_open = new.block;
              jobs = new.jobs;
              says = from_start notes notes_are;
              onward = it.ended.onward;
              base_stays = it.ended.same ∙ in_it.core.base;
              journal_is = journal_is ∙ sym is_final.core.journal;
              stamps_are = stamps_are ∙ sym is_final.core.stamps;
              generation_is = generation_is ∙ sym is_final.core.generation;
              clock = is_final.clock;
              faults = is_final.counts;
              images = λ t.
                  subst (λ (n : ℕ). IfSome (told last.hall.store) (AlwaysSafe final.contents final.core n)) (on.1 ∙ fresh.opened)
                  (safe_since told moment faults kept last.hall final (told last.hall.store) refl is_final (known_final t));
              left = λ t. left_sound told moment faults leave last.hall final (told last.hall.store) refl is_final (known_final t);
            }

            -- what the whole run leaves, whatever is known of the store
            pub leaves : (stamps : List ℕ) → stamps ≡ last.hall.held.stamps → Rise (moment hall.store) (moment last.hall.store) stamps × Later moment faults hall.store last.hall.store
            leaves stamps stamps_are = (
              subst (λ (n : ℕ). Rise n (moment last.hall.store) stamps) (on.1 ∙ fresh.opened)
                  (subst (λ (n : ℕ). Rise last.hall.held.opened n stamps) is_final.clock (subst (λ (l : List ℕ). Rise last.hall.held.opened final.moment l) (sym (stamps_are ∙ sym is_final.core.stamps)) is_final.good.stamped.rise)),
              record {
                counts = λ file.
                    let up = it.ended.onward.counts file in
                    let one = ap (λ (counts : ℕ → ℕ). counts file) in_it.counts in
                    let after = ap (λ (counts : ℕ → ℕ). counts file) is_final.counts in
                    omega (arith, up, one, after);
                time = (let up = it.ended.onward.since in let one = in_it.clock in let after = is_final.clock in omega (arith, up, one, after));
              },
            )

          -- all that is said of it, and what stays of the hall
          pub from : AreKept told moment faults → LeaveSound told moment faults → AreAlone ⊥ told moment faults → AreAlone (Unit {0}) told moment faults → AreTurned ⊥ told moment faults → AreTurned (Unit {0}) told moment faults → Come ⊥ → Come (Unit {0})
              → End_ ⊥ → End_ (Unit {0}) → Hold ⊥ → Hold (Unit {0}) → (m : Machine) → Is told moment faults hall m
              → (left_store : S) (status : ℕ) (journal : List Entry) (stamps : List ℕ) (notes : List Note) (generation : ℕ) (left : Option (List ℕ)) → left_store ≡ last.hall.store → status ≡ status_of end → DoneAtEnd end left
              → journal ≡ last.hall.held.vault.journal → stamps ≡ last.hall.held.stamps → notes ≡ last.notes.items → generation ≡ last.hall.held.vault.generation
              → RanFrom told moment faults hall served left_store end status journal stamps notes generation script left was is × (last.hall.held.base ≡ hall.held.base) × (last.hall.held.opened ≡ hall.held.opened)
          from kept leave alone_unknown alone turned_unknown turned come_unknown come ends_unknown ends hold_unknown hold m in_it left_store status journal stamps notes generation left store_is code rest journal_is stamps_are notes_are generation_is =
              let stays = on ⊥ alone_unknown turned_unknown come_unknown ends_unknown hold_unknown m in_it (λ f. absurd f) in
              let all_left = leaves ⊥ alone_unknown turned_unknown come_unknown ends_unknown hold_unknown m in_it (λ f. absurd f) stamps stamps_are in
              let whole : RanFrom told moment faults hall served last.hall.store end status journal stamps notes generation script left was is = record {
                code = code;
                rest = rest;
                rise = all_left.0;
                later = all_left.1;
                goes = stays.2;
                whole = λ n it. ran ⊥ alone_unknown turned_unknown come_unknown ends_unknown hold_unknown n it (λ f. absurd f) journal stamps notes generation journal_is stamps_are notes_are generation_is kept leave;
                sound = λ n it trusted. ran (Unit {0}) alone turned come ends hold n it (λ t. trusted) journal stamps notes generation journal_is stamps_are notes_are generation_is kept leave;
                backups = λ n it trusted had.
                    run_keeps told moment faults clock kept hall last.hall fresh.opened (on (Unit {0}) alone turned come ends hold n it (λ t. trusted)) (final (Unit {0}) alone turned come ends hold n it (λ t. trusted))
                    (is_final (Unit {0}) alone turned come ends hold n it (λ t. trusted)) (known_final (Unit {0}) alone turned come ends hold n it (λ t. trusted) tt) journal (journal_is ∙ sym (is_final (Unit {0}) alone turned come ends hold n it (λ t. trusted)).core.journal) had;
              } in
              (subst (λ (s : S). RanFrom told moment faults hall served s end status journal stamps notes generation script left was is) (sym store_is) whole, stays.0, stays.1)

-- ---- why nothing is opened

says_none : (x y : Option History) (refusal : OpenRefused) → (let result : Result (State Inv) OpenRefused = Err refusal in Told x y (OpensFiles result)) → IsNone x refusal
says_none None y refusal opened = tt
says_none (Some a) (Some b) refusal opened = opened.vault.says
says_none (Some a) None refusal opened = absurd opened

-- opening takes nothing away
pub opened_spared : (x y : Option History) (result : Result (State Inv) OpenRefused) → Told x y (OpensFiles result) → Told x y SparesAll
opened_spared x y result opened =
    told_map x y (OpensFiles result) SparesAll (λ a b done. record { files = done.vault.spared; backups = λ contents sound backed. opened_backed contents a b sound done.vault.spared backed }) opened

-- why a database isn't opened
pub opens_not : (x y : Option History) (refusal : OpenRefused) (last : ℕ) (before after : ℕ → ℕ) → (let result : Result (State Inv) OpenRefused = Err refusal in Told x y (OpensFiles result))
    → MayRefuseOpening before after last refusal → OpensNot run x last (RoseBetween before after) refusal
opens_not x y (refused.ReadFault file) last before after opened may = may
opens_not x y (refused.Damaged file at) last before after opened may = (may, says_none x y (refused.Damaged file at) opened)
opens_not x y refused.NotFormatted last before after opened may = says_none x y refused.NotFormatted opened
opens_not x y refused.RunFull last before after opened may = may
opens_not x y refused.Memory last before after opened may = tt

pub our_file : (refusal : OpenRefused) (before after : ℕ → ℕ) (moment : ℕ) → MayRefuseOpening before after moment refusal → IsOurFile refusal
our_file (refused.ReadFault file) before after moment may = tt
our_file (refused.Damaged file at) before after moment may = may
our_file refused.NotFormatted before after moment may = tt
our_file refused.RunFull before after moment may = tt
our_file refused.Memory before after moment may = tt

-- ---- a script over what the store held

module _ {S : Type 0} (told : S → Option History) (moment : S → ℕ) (faults : S → ℕ → ℕ) (store : S) (hall : Hall S) (opens : Opens told moment faults store (Ok hall))
    (opened : (let result : Result (State Inv) OpenRefused = Ok hall.held.vault in Told (told store) (told hall.store) (OpensFiles result))) where
  runs_over : (x y : Option History) → (let result : Result (State Inv) OpenRefused = Ok hall.held.vault in Told x y (OpensFiles result)) → RunsOver run x hall.held.base
  runs_over None y is = tt
  runs_over (Some a) (Some b) is = subst (λ (v : Inv). Recovers meaning (reads a) v) (sym opens.0.base) is.vault.opens.0
  runs_over (Some a) None is = absurd is

  starts_at : (x y : Option History) → (let result : Result (State Inv) OpenRefused = Ok hall.held.vault in Told x y (OpensFiles result)) → StartsAt run x hall.held.vault.generation
  starts_at None y is = tt
  starts_at (Some a) (Some b) is = (hall.held.vault.database, is.vault.opens)
  starts_at (Some a) None is = absurd is

  -- over a sound store the hall is in a state in which the objects have these bytes, and the store is trusted
  known_over : (contents : ℕ → List ℕ) (x y : Option History) → told store ≡ x → told hall.store ≡ y → Sure run contents x → Told x y (OpensFiles (let result : Result (State Inv) OpenRefused = Ok hall.held.vault in result))
      → (m : Machine) × (m.contents ≡ contents) × Is told moment faults hall m × IsTrusted (told hall.store) hall.held
  known_over contents None y tells left sure is = absurd sure
  known_over contents (Some a) None tells left sure is = absurd is
  known_over contents (Some a) (Some b) tells left sure is =
      let with = (subst (λ (o : Option History). IfSome o (λ h. (contents : ℕ → List ℕ) → IsSound contents h → IsWith told moment faults contents hall)) tells opens.2) contents sure in
      let was : IfSome (Some b) (IsSoundWith contents hall.held.base hall.held.opened) = subst (λ (o : Option History). IfSome o (IsSoundWith contents hall.held.base hall.held.opened)) left with.3 in
      (with.0, with.1, with.2, subst (λ (o : Option History). IsTrusted o hall.held) (sym left) (contents, was))

  pub script : (left_store : S) (k : Client) (end : End) (status : ℕ) (journal : List Entry) (stamps : List ℕ) (notes : List Note) (base : Option Inv) (generation : ℕ) (text left was is : Option (List ℕ)) → base ≡ Some hall.held.base
      → RanFrom told moment faults hall k left_store end status journal stamps notes generation text left was is
      → RanScript run k (told store) (told left_store) (faults hall.store) (faults left_store) (moment hall.store) (moment left_store) end status journal stamps notes base generation text left was is
  script left_store k end status journal stamps notes base generation text left was is base_is from = record {
    code = from.code;
    database = hall.held.base;
    base_is = base_is;
    over = runs_over (told store) (told hall.store) opened;
    rest = from.rest;
    rise = from.rise;
    start = hall.held.vault.generation;
    starts = starts_at (told store) (told hall.store) opened;
    whole = (opens.1.0, opens.1.1.core.generation, from.whole opens.1.0 opens.1.1);
    sound = λ contents sure.
        let it = known_over contents (told store) (told hall.store) refl refl sure opened in
        (it.0, it.1, it.2.core.generation, from.sound it.0 it.2 it.3);
    backups = λ contents sure had.
        let it = known_over contents (told store) (told hall.store) refl refl sure opened in
        from.backups it.0 it.2 it.3 (had_opened hall.held.base hall.held.vault (told store) (told hall.store) opens.0.base opened had);
  }
