-- What a session makes of a block, from what its calls say.
use Rattle.std.proofs.Common.{◌≡◌, ◌⊎◌, ◌∙◌, inl, inr, ℕ, ◌+◌, Option, List, [], ◌++◌, Ok, Err, Result, refl, ap, subst}
use Rattle.std.specs.Prelude.{IfErr, IfOk}
use Rattle.store_api.specs.Disk.{History}
use Rattle.client_trees.specs.Files.{Files}
use Rattle.kinds.specs.declared.refusal.Refusal.{Refusal}
use Rattle.script_loop.specs.Reply.{Answer}
use Rattle.script_loop.specs.declared.ends.Halt.{Halt}
use Rattle.script_loop.specs.declared.ends.Halt.TheVariants.{Memory}
use Rattle.hall_turns.specs.Runs.{CameTo}
use Rattle.block_results.specs.command_steps.Answering.{AnswersLine}
use Rattle.block_results.specs.command_steps.Answers.{nothing}
use Rattle.block_results.specs.command_steps.Clients.{all_seen, client}
use Rattle.block_results.specs.command_steps.Lines.{line_of}
use Rattle.blocks.specs.Shapes.{Gathered, Placed}
use Rattle.block_results.specs.line_jobs.Ran.{EndsLines, RanLines}
use Rattle.block_results.specs.line_jobs.Shares.{with_said}
use Rattle.block_results.specs.line_jobs.declared.job.Said.{Said}
use Rattle.tsm_top.specs.InBlock.{BlockAnswered, BlockEnds, BlockHalted, BlockRan, IsAnswered, IsCause, JobsRan}
use Rattle.tsm_top.specs.Notes.{notes_of}
use Rattle.tsm_top.specs.Sessions.{number_of}
use Rattle.tsm_top.specs.declared.note.Note.{Note}
use Rattle.tsm_top.specs.declared.session.Session.{Session}
use Rattle.block_results.proofs.of_line_jobs.Together.{map_err, map_ok}

pub ok_of : {A E : Type 0} (P : A → Type 0) (r : Result A E) (x : A) → r ≡ Ok x → IfOk r P → P x
ok_of {A} {E} P r x is p = subst (λ (y : Result A E). IfOk y P) is p

pub err_of : {A E : Type 0} (P : E → Type 0) (r : Result A E) (e : E) → r ≡ Err e → IfErr r P → P e
err_of {A} {E} P r e is p = subst (λ (y : Result A E). IfErr y P) is p

module _ {S T : Type 0} (told : S → Option History) (moment : S → ℕ) (faults : S → ℕ → ℕ) (files : T → Option Files) (tree_faults : T → ℕ) where
  -- ---- behind the jobs

  -- what was said of the lines was printed and noted, and what follows a line without words was done
  pub is_answered : (mid new : Session S T) (said : List Said) (first before after n : ℕ) (answer follow : Answer) (why : Option Refusal) → answer ≡ with_said nothing said
      → CameTo told moment faults 0 (λ events. AnswersLine (client files tree_faults mid.binder mid.trees.items new.trees.items) n (line_of []) events (Ok (follow, why))) mid.hall new.hall → new.binder ≡ mid.binder → after ≡ number_of mid.hall
      → new.notes.items ≡ mid.notes.items ++ notes_of first before after said → IsAnswered told moment faults files tree_faults mid said first before n answer new
  is_answered mid new said first before after n answer follow why said_is came binder is noted = record {
    answered = said_is;
    behind = record { hall = new.hall; trees = new.trees; binder = new.binder; buffer = new.buffer; notes = mid.notes };
    follow = follow;
    follows = (why, came, binder, refl);
    hall = refl;
    trees = refl;
    binder = refl;
    notes = noted ∙ ap (λ (k : ℕ). mid.notes.items ++ notes_of first before k said) is;
  }

  -- ---- the whole block

  -- the lines and the jobs are the block's
  pub ran_block : (old mid : Session S T) (b : Gathered) (first : ℕ) (lines : List Placed) (jobs : ℕ) (said : List Said) → lines ≡ b.lines → jobs ≡ b.job + 1
      → RanLines told moment faults old.binder lines jobs first old.hall mid.hall (all_seen files tree_faults old.trees.items) said (all_seen files tree_faults mid.trees.items) → mid.binder ≡ old.binder → mid.notes.items ≡ old.notes.items
      → JobsRan told moment faults files tree_faults b first old said mid
  ran_block old mid b first lines jobs said lines_are jobs_are ran binder notes = record {
    ran =
        subst (λ (l : List Placed). RanLines told moment faults old.binder l (b.job + 1) first old.hall mid.hall (all_seen files tree_faults old.trees.items) said (all_seen files tree_faults mid.trees.items)) lines_are
        (subst (λ (j : ℕ). RanLines told moment faults old.binder lines j first old.hall mid.hall (all_seen files tree_faults old.trees.items) said (all_seen files tree_faults mid.trees.items)) jobs_are ran);
    binder = binder;
    notes = notes;
  }

  pub block_ran : (old mid new : Session S T) (b : Gathered) (first before n : ℕ) (said : List Said) (result : Result Answer Halt) → before ≡ number_of old.hall → JobsRan told moment faults files tree_faults b first old said mid
      → IfOk result (λ answer. BlockAnswered told moment faults files tree_faults mid said first before n answer new) → IfOk result (λ answer. BlockRan told moment faults files tree_faults b first n old answer new)
  block_ran old mid new b first before n said result is ran ok =
      map_ok (λ answer. BlockAnswered told moment faults files tree_faults mid said first before n answer new) (λ answer. BlockRan told moment faults files tree_faults b first n old answer new) result
      (λ answer a. (mid, said, ran, subst (λ (k : ℕ). BlockAnswered told moment faults files tree_faults mid said first k n answer new) is a)) ok

  pub block_ends : (old mid new : Session S T) (b : Gathered) (first n : ℕ) (said : List Said) (result : Result Answer Halt) → JobsRan told moment faults files tree_faults b first old said mid
      → IfErr result (λ how. BlockHalted told moment faults files tree_faults mid n how new) → IfErr result (λ how. BlockEnds told moment faults files tree_faults b first n old how new)
  block_ends old mid new b first n said result ran err =
      map_err (λ how. BlockHalted told moment faults files tree_faults mid n how new) (λ how. BlockEnds told moment faults files tree_faults b first n old how new) result (λ how h. inr (mid, said, ran, h)) err

  pub jobs_end : (old new : Session S T) (b : Gathered) (first n : ℕ) (lines : List Placed) (jobs : ℕ) (said how : Halt) → lines ≡ b.lines → jobs ≡ b.job + 1
      → EndsLines told moment faults old.binder lines jobs first old.hall new.hall (all_seen files tree_faults old.trees.items) said (all_seen files tree_faults new.trees.items) → (how ≡ said) ⊎ (how ≡ Memory)
      → IsCause (faults old.hall.store) (faults new.hall.store) (moment new.hall.store) how → new.binder ≡ old.binder → new.notes.items ≡ old.notes.items → BlockEnds told moment faults files tree_faults b first n old how new
  jobs_end old new b first n lines jobs said how lines_are jobs_are ended answered cause binder notes = inl (record {
    said = said;
    ended =
        subst (λ (l : List Placed). EndsLines told moment faults old.binder l (b.job + 1) first old.hall new.hall (all_seen files tree_faults old.trees.items) said (all_seen files tree_faults new.trees.items)) lines_are
        (subst (λ (j : ℕ). EndsLines told moment faults old.binder lines j first old.hall new.hall (all_seen files tree_faults old.trees.items) said (all_seen files tree_faults new.trees.items)) jobs_are ended);
    answered = answered;
    cause = cause;
    binder = binder;
    notes = notes;
  })
