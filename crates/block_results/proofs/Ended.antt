-- Each transaction by a step that was answered of a line of a job at which the run ended is one that the line orders.
use Rattle.std.proofs.Common.{◌≡◌, inl, inr, ℕ, List, [], ◌++◌, Option, None, Some, Result, Ok, Err, sym, ap, subst, ◌∙◌}
use Rattle.std.proofs.lemmas.List.{append-nil}
use Rattle.kinds.specs.declared.refusal.Refusal.{Refusal}
use Rattle.admin_words.specs.declared.command.Command.{Command}
use Rattle.admin_commands.specs.Orders.{needs, work_of}
use Rattle.admin_commands.specs.declared.work.Work.{Work}
use Rattle.script_loop.specs.declared.ends.Halt.{Halt}
use Rattle.steps.specs.Events.{Event}
use Rattle.machine.proofs.Runs.{fits-rises}
use Rattle.machine.specs.Fits.{Fits, History, Own as Holding}
use Rattle.line_results.specs.incrementals.Orders.{AreQuestions}
use Rattle.line_results.specs.command_steps.Clients.{Client}
use Rattle.line_results.specs.command_steps.Doing.{DoesWork, Doing}
use Rattle.line_results.specs.command_steps.Jobs.{AnswersInJob, DoesInJob}
use Rattle.line_results.specs.command_steps.Lines.{Line, asks, comment, refused}
use Rattle.block_results.specs.Ended.{CommandEnded, LineEnded}
use Rattle.block_results.specs.Standing.{WorkAt}
use Rattle.block_results.proofs.Came.{Said}
use Rattle.block_results.proofs.Fitting.{fits-parts}
use Rattle.block_results.proofs.Journal.{command-entered}
use Rattle.block_results.proofs.Leaving.{looks-none}
use Rattle.block_results.proofs.Lines.{looks-questions, questions-unmade, withheld-questions}
use Rattle.block_results.proofs.Looking.{work-found}

-- ---- a command

-- nothing came behind the look-ups
only-looks : (events looks works : List Event) → events ≡ looks ++ works → works ≡ [] → AreQuestions looks → AreQuestions events
only-looks events looks works cut none questions = subst AreQuestions (sym (cut ∙ ap (λ (l : List Event). looks ++ l) none ∙ append-nil looks)) questions

module _ (w : History) (actor : ℕ) (k : Client) (c : Command) (old new : Holding) where
  works-ended : (looks ys events : List Event) (work : Result Work Refusal) (said : Said) (mid : Holding) → mid.tickets ≡ [] → AreQuestions looks → events ≡ looks ++ ys → WorkAt w old.reached mid.reached c work → Fits w actor old looks mid
      → Fits w actor mid ys new → DoesWork k c work ys said → CommandEnded w actor k c old events new
  works-ended looks ys events (Err why) said mid free questions cut found f g (kept, none, is) = inl (only-looks events looks ys cut none questions)
  works-ended looks ys events (Ok work) said mid free questions cut found f g (came, (us, vs, apart, does, ends)) =
      let parts = fits-parts w actor mid new ys us vs apart g in
      inr (record {
        looks = looks;
        works = ys;
        parts = cut;
        asked = mid;
        looked = f;
        worked = g;
        work = work;
        found = found;
        journal = command-entered w actor k c work new.reached events looks us vs came said mid parts.0 new (fits-rises w actor parts.0 new vs parts.2) (cut ∙ ap (λ (l : List Event). looks ++ l) apart) (questions-unmade looks questions) free does ends parts.1 parts.2;
      })

  command-ended : (events : List Event) (said : Said) → old.tickets ≡ [] → Doing k c events said → Fits w actor old events new → CommandEnded w actor k c old events new
  command-ended events said free (inl (e, kept, looks, is)) f = inl (looks-questions (needs c) events (Err e) looks)
  command-ended events said free (inr (answers, (xs, ys, cut, looks, inl works))) f =
      let parts = fits-parts w actor old new events xs ys cut f in
      let questions = looks-questions (needs c) xs (Ok answers) looks in
      works-ended xs ys events (work_of c answers) said parts.0 (looks-none w actor xs old parts.0 free questions parts.1) questions cut (work-found w actor c answers xs old parts.0 looks parts.1) parts.1 parts.2 works
  command-ended events said free (inr (answers, (xs, ys, cut, looks, inr (kept, none, is)))) f = inl (only-looks events xs ys cut none (looks-questions (needs c) xs (Ok answers) looks))

-- ---- a line

module _ (w : History) (actor : ℕ) (k : Client) (n : ℕ) (events : List Event) (how : Halt) (old new : Holding) (free : old.tickets ≡ []) (f : Fits w actor old events new) where
  in-job-ended : (in_use : Option ℕ) (line : Line) → DoesInJob k in_use n line events (Err how) → LineEnded in_use w actor k line old events new
  in-job-ended None comment h = h.1
  in-job-ended (Some number) comment h = h.1
  in-job-ended None (refused given) h = h.1
  in-job-ended (Some number) (refused given) h = h.1
  in-job-ended None (asks c) (said, doing, ends) = command-ended w actor k c old new events said free doing f
  in-job-ended (Some number) (asks c) (said, withholds, ends) = withheld-questions k number c events said withholds

  -- memory was wanted before it was known what the line is
  wanted-ended : (in_use : Option ℕ) (line : Line) → events ≡ [] → LineEnded in_use w actor k line old events new
  wanted-ended in_use comment none = none
  wanted-ended in_use (refused given) none = none
  wanted-ended None (asks c) none = inl (subst AreQuestions (sym none) tt)
  wanted-ended (Some number) (asks c) none = subst AreQuestions (sym none) tt

pub line-ended : (w : History) (actor : ℕ) (k : Client) (in_use : Option ℕ) (n : ℕ) (line : Line) (events : List Event) (how : Halt) (old new : Holding) → old.tickets ≡ [] → Fits w actor old events new
    → AnswersInJob k in_use n line events (Err how) → LineEnded in_use w actor k line old events new
line-ended w actor k in_use n line events how old new free f (inl h) = in-job-ended w actor k n events how old new free f in_use line h
line-ended w actor k in_use n line events how old new free f (inr (kept, none, is)) = wanted-ended w actor k n events how old new free f in_use line none
