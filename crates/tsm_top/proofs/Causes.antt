-- A run that a fault of an image or a log halted: the count of that file's faults rose.
use Rattle.std.proofs.Common.{◌≡◌, ⊎_elim, inl, inr, ℕ, ◌+◌, ◌<◌, Bool, true, false, if◌then◌else◌, Option, None, Some, List, [], ◌∷◌, length, sym, ap, ◌∙◌, subst, arith}
use Rattle.store_api.specs.Cause.{NoneFell, Rose}
use Rattle.store_api.specs.Disk.{History}
use Rattle.kinds.specs.declared.refusal.OpenRefused.TheVariants as opening
use Rattle.choosers.specs.declared.rule.Rule.{Rule}
use Rattle.block_results.specs.command_steps.Clients.{Client}
use Rattle.entries.specs.declared.entry.Entry.{Entry}
use Rattle.inventory_rows.specs.State.{Inv}
use Rattle.script_loop.specs.Ends.{status_of}
use Rattle.script_loop.specs.Runs.{Halts, Prints, Runs}
use Rattle.script_loop.specs.declared.tally.Tally.{Tally}
use Rattle.script_loop.specs.declared.ends.Halt.TheVariants as halt
use Rattle.script_loop.specs.declared.ends.End.{End}
use Rattle.script_loop.specs.declared.ends.End.TheVariants.{Done, SourceFault, SinkFault, Halted, TooLong}
use Rattle.tsm_top.specs.declared.note.Note.{Note}
use Rattle.tsm_top.specs.Serve.{Closing, Command, RanScript, Shuts, closing_status, exists, formatted, no_command, refused_opening, restored, unread, untold}
use Rattle.tsm_top.specs.Sites.{RepliesAt, Site, site}
use Rattle.tsm_top.specs.Stands.{AnswersAt, AnswersHere, AnswersIn, AnswersInside, EndsAt, EndsHere, EndsIn, EndsInBlock, EndsInside, RunsBlock, Stand, left_by}
use Rattle.blocks.specs.Parts.{begins, part}
use Rattle.blocks.specs.Shapes.{Gathered, begun, is_end, with_line}
use Rattle.machine.specs.State.{Machine}
use Rattle.script_loop.specs.Reply.{Answer}
use Rattle.tsm_top.proofs.Recovering.{told_other}

-- the count of some image's or log's file rose
abbrev pub RoseSince : Machine → Machine → Type 0
RoseSince old new = (file : ℕ) × (file < 4) × Rose (old.counts file) (new.counts file)

module _ (trusted : Type 0) (choice : List Rule) (told : Option History) where
  still : (old new : Stand) → new ≡ old → NoneFell old.site.machine.counts new.site.machine.counts
  still old new same = subst (λ (s : Stand). NoneFell old.site.machine.counts s.site.machine.counts) (sym same) (λ file. omega arith)

  -- counts don't fall in a line, nor in a block, nor over lines
  pub line_counts : (old new : Site) (n : ℕ) (line : List ℕ) (answer : Answer) → RepliesAt trusted choice told old n line answer new → NoneFell old.machine.counts new.machine.counts
  line_counts old new n line answer is =
      let first : NoneFell old.machine.counts is.1.mid.counts = is.1.first.counts in
      let later : NoneFell is.1.mid.counts new.machine.counts = is.1.behind.counts in
      λ file. omega (arith, first file, later file)

  block_counts : (b : Gathered) (first : ℕ) (old new : Site) (n : ℕ) (answer : Answer) → RunsBlock trusted choice told b first old n answer new → NoneFell old.machine.counts new.machine.counts
  block_counts b first old new n answer is =
      let by_jobs : NoneFell old.machine.counts is.mid.counts = is.ran.onward.counts in
      let later : NoneFell is.mid.counts new.machine.counts = line_counts (site is.mid (left_by b old.trees is.came) old.notes) (site new.machine new.trees old.notes) n [] is.follow is.follows in
      λ file. omega (arith, by_jobs file, later file)

  -- nothing but what is open changes
  kept_counts : (old new : Stand) (b : Option Gathered) → new ≡ record { site = old.site; block = b; jobs = old.jobs } → NoneFell old.site.machine.counts new.site.machine.counts
  kept_counts old new b same = subst (λ (s : Site). NoneFell old.site.machine.counts s.machine.counts) (sym (ap (λ (s : Stand). s.site) same)) (λ file. omega arith)

  here_counts : (b : Bool) (old new : Stand) (n : ℕ) (line : List ℕ) (answer : Answer) → AnswersHere trusted choice told b old n line answer new → NoneFell old.site.machine.counts new.site.machine.counts
  here_counts true old new n line answer is = kept_counts old new (Some begun) is.1
  here_counts false old new n line answer is = line_counts old.site new.site n line answer is.0

  inside_counts : (b : Bool) (g : Gathered) (old new : Stand) (n : ℕ) (line : List ℕ) (answer : Answer) → AnswersInside trusted choice told b g old n line answer new → NoneFell old.site.machine.counts new.site.machine.counts
  inside_counts true g old new n line answer is = block_counts g (old.jobs + 1) old.site new.site n answer is.0
  inside_counts false g old new n line answer is = kept_counts old new (Some (with_line g n line)) is.1

  pub counts_in : (x : Option Gathered) (old new : Stand) (n : ℕ) (given : Option (List ℕ)) (answer : Answer) → AnswersIn trusted choice told x old n given answer new → NoneFell old.site.machine.counts new.site.machine.counts
  counts_in None old new n (Some line) answer is = here_counts (begins line) old new n line answer is
  counts_in (Some g) old new n (Some line) answer is = inside_counts (is_end (part line)) g old new n line answer is
  counts_in None old new n None answer is = still old new is.1
  counts_in (Some g) old new n None answer is = block_counts g (old.jobs + 1) old.site new.site n answer is.0

  pub runs_counts : (lines : List (List ℕ)) (n : ℕ) (old new : Stand) (text : List ℕ) (tally : Tally) → Runs (AnswersAt trusted choice told) n old lines text tally new → NoneFell old.site.machine.counts new.site.machine.counts
  runs_counts [] n old new text tally run = still old new run.2
  runs_counts (line ∷ more) n old new text tally (answer, mid, rest, others, is, text_is, tally_is, run) =
      let first : NoneFell old.site.machine.counts mid.site.machine.counts = counts_in old.block old mid n (Some line) answer is in
      let after : NoneFell mid.site.machine.counts new.site.machine.counts = runs_counts more (n + 1) mid new rest others run in
      λ file. omega (arith, first file, after file)

  module _ (file : ℕ) where
    -- a block that the fault of this file ended
    block_rose : (b : Gathered) (first : ℕ) (old new : Site) (n : ℕ) → EndsInBlock trusted choice told b first old n (halt.LogFault file) new → RoseSince old.machine new.machine
    block_rose b first old new n (inl ended) = (file, ended.cause.0, ended.cause.1)
    block_rose b first old new n (inr (inl (same, memory, notes))) = absurd (cc memory)
    block_rose b first old new n (inr (inr (mid, came, ran, ended, rests, stops))) =
        let before = ran.onward.counts file in
        (file, stops.0.cause.0, (let rose = stops.0.cause.1 in omega (arith, before, rose)))

    here_rose : (b : Bool) (old new : Stand) (n : ℕ) (line : List ℕ) → EndsHere trusted choice told b old n line (halt.LogFault file) new → RoseSince old.site.machine new.site.machine
    here_rose true old new n line is = absurd is
    here_rose false old new n line is = (file, is.0.cause.0, is.0.cause.1)

    inside_rose : (b : Bool) (g : Gathered) (old new : Stand) (n : ℕ) → EndsInside trusted choice told b g old n (halt.LogFault file) new → RoseSince old.site.machine new.site.machine
    inside_rose true g old new n is = block_rose g (old.jobs + 1) old.site new.site n is
    inside_rose false g old new n is = absurd is

    rose_in : (x : Option Gathered) (old new : Stand) (n : ℕ) (given : Option (List ℕ)) → EndsIn trusted choice told x old n given (halt.LogFault file) new → RoseSince old.site.machine new.site.machine
    rose_in None old new n (Some line) (inl is) = here_rose (begins line) old new n line is
    rose_in None old new n (Some line) (inr memory) = absurd (cc (memory.0))
    rose_in (Some g) old new n (Some line) (inl is) = inside_rose (is_end (part line)) g old new n is
    rose_in (Some g) old new n (Some line) (inr memory) = absurd (cc (memory.0))
    rose_in None old new n None is = absurd is
    rose_in (Some g) old new n None is = block_rose g (old.jobs + 1) old.site new.site n is

    halts_rose : (script : Option (List ℕ)) (taken : List (List ℕ)) (mid new : Stand) → Halts (EndsAt trusted choice told) script taken mid (halt.LogFault file) new → RoseSince mid.site.machine new.site.machine
    halts_rose script taken mid new (inl (line, front, stops)) = rose_in mid.block mid new (length taken + 1) (Some line) stops
    halts_rose script taken mid new (inr (inl (whole, ended))) = rose_in mid.block mid new (length taken + 1) None ended
    halts_rose script taken mid new (inr (inr memory)) = absurd (cc (memory.0))

    pub prints_rose : (old new : Stand) (script : Option (List ℕ)) (put : List ℕ) → Prints (AnswersAt trusted choice told) (EndsAt trusted choice told) old script (Halted (halt.LogFault file)) put new → RoseSince old.site.machine new.site.machine
    prints_rose old new script printed (text, whole, (taken, tally, mid, run, halts)) =
        let rose = halts_rose script taken mid new halts in
        let before = runs_counts taken 1 old mid text tally run in
        (rose.0, rose.1, omega (arith, before rose.0, rose.2))

  done_not : (b : Bool) → ◌≡◌ {A = ℕ} (if b then 0 else 1) 6 → ⊥
  done_not true is = absurd (omega (arith, is))
  done_not false is = absurd (omega (arith, is))

  -- a status of 6 is that of a halt by the fault of a file
  status_fault : (old new : Stand) (script : Option (List ℕ)) (end : End) (put : List ℕ) → status_of end ≡ 6 → Prints (AnswersAt trusted choice told) (EndsAt trusted choice told) old script end put new → RoseSince old.site.machine new.site.machine
  status_fault old new script (Done tally) printed is run = absurd (done_not _ is)
  status_fault old new script SourceFault printed is run = absurd (omega (arith, is))
  status_fault old new script SinkFault printed is run = absurd (omega (arith, is))
  status_fault old new script (Halted (halt.LogFault file)) printed is run = prints_rose file old new script printed run
  status_fault old new script (Halted halt.RunFull) printed is run = absurd (omega (arith, is))
  status_fault old new script (Halted halt.Memory) printed is run = absurd (omega (arith, is))
  status_fault old new script (TooLong n) printed is run = absurd (omega (arith, is))

-- a script's run that ended with that status had a fault since the call began
pub ran_fault : (command : Command) (k : Client) (told left_told : Option History) (before mid after : ℕ → ℕ) (opened last : ℕ) (end : End) (status : ℕ) (journal : List Entry) (stamps : List ℕ) (notes : List Note) (base : Option Inv) (generation : ℕ) (script left was is : Option (List ℕ)) → NoneFell before mid →
    RanScript command k told left_told mid after opened last end status journal stamps notes base generation script left was is → status ≡ 6 → (file : ℕ) × (file < 4) × Rose (before file) (after file)
ran_fault command k told left_told before mid after opened last end status journal stamps notes base generation script left was is none ran six =
    let over = ran.whole.2 in
    let rose = status_fault ⊥ k.choice left_told _ _ script end over.says.0 (sym ran.code ∙ six) over.says.2 in
    let risen = subst (λ (f : ℕ → ℕ). Rose (f rose.0) (over.final.counts rose.0)) over.begins.faults rose.2 in
    let risen_last = subst (λ (f : ℕ → ℕ). Rose (mid rose.0) (f rose.0)) over.faults risen in
    (rose.0, rose.1, omega (arith, none rose.0, risen_last))

not_six : (why : Closing) → closing_status why ≡ 6 → ⊥
not_six no_command is = absurd (omega (arith, is))
not_six formatted is = absurd (omega (arith, is))
not_six exists is = absurd (omega (arith, is))
not_six (refused_opening (opening.ReadFault file)) is = absurd (omega (arith, is))
not_six (refused_opening (opening.Damaged file at)) is = absurd (omega (arith, is))
not_six (refused_opening opening.NotFormatted) is = absurd (omega (arith, is))
not_six (refused_opening opening.RunFull) is = absurd (omega (arith, is))
not_six (refused_opening opening.Memory) is = absurd (omega (arith, is))
not_six (restored file came) is = told_other came 6 (omega arith) (omega arith) (λ five. omega (arith, five)) is
not_six (untold file came) is = absurd (omega (arith, is))
not_six unread is = absurd (omega (arith, is))

-- a call that ran no script has another status
pub shut_other : (why : Closing) (before after : Option (List ℕ)) (sink_rose : Type 0) (status : ℕ) (journal : List Entry) (stamps : List ℕ) (notes : List Note) (base : Option Inv) (generation opened last : ℕ) → Shuts why before after sink_rose status journal stamps notes base generation opened last → status ≡ 6 → ⊥
shut_other why before after sink_rose status journal stamps notes base generation opened last shut six =
    ⊎_elim (λ own. not_six why (sym own.0 ∙ six)) (λ sink. absurd (omega (arith, sink.0, six))) shut.line
