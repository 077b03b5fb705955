-- A line of a job whose tree is withheld.
use Rattle.std.proofs.Common.{◌≡◌, ◌⊎◌, inl, inr, ℕ, List, [], length, Option, None, Some, Result, Ok, Err, refl, sym, subst}
use Rattle.kinds.specs.declared.refusal.Refusal.{Refusal}
use Rattle.kinds.specs.declared.refusal.Refusal.TheVariants.{Memory}
use Rattle.inventory_answers.specs.declared.reply.Answer as rows
use Rattle.admin_words.specs.declared.command.Command.{Command}
use Rattle.admin_commands.specs.Orders.{needs, work_of}
use Rattle.script_loop.specs.Reply.{Answer}
use Rattle.script_loop.specs.declared.ends.Halt.{Halt}
use Rattle.script_loop.specs.declared.ends.Halt.TheVariants as halt
use Rattle.sessions.specs.InTurn.{OrMemory}
use Rattle.steps.proofs.Joining.{call_of_none, so_call}
use Rattle.steps.specs.Calls.{Call}
use Rattle.steps.specs.Events.{Event}
use Rattle.command_steps.specs.Answers.{Ends, IsRefused, nothing}
use Rattle.command_steps.specs.Clients.{Client, IsKept}
use Rattle.command_steps.specs.Doing.{AsksAll}
use Rattle.command_steps.specs.Jobs.{AnswersInJob, Withholds, refused_for}
use Rattle.command_steps.specs.Lines.{Line, asks, comment, refused}

module _ {S : Type 0} (did : S → List Event → S → Type 0) (k : Client) (kept : IsKept k) where
  -- ---- the command

  pub not-asked : (p q : S) (number : ℕ) (c : Command) (e : Refusal) → Call did p q (λ events. OrMemory (AsksAll (needs c)) events (Err e)) → Call did p q (λ events. Withholds k number c events (Err e))
  not-asked p q number c e a = so_call did (λ events. OrMemory (AsksAll (needs c)) events (Err e)) (λ events. Withholds k number c events (Err e)) p q a (λ xs f. (e, kept, refl, inl f))

  pub asked : (p q : S) (count number : ℕ) (c : Command) (answers : List rows.Answer) (e : Refusal) → length k.old ≡ count → Call did p q (λ events. OrMemory (AsksAll (needs c)) events (Ok answers))
      → (e ≡ Memory) ⊎ (e ≡ refused_for count number (work_of c answers)) → Call did p q (λ events. Withholds k number c events (Err e))
  asked p q count number c answers e many a why =
      so_call did (λ events. OrMemory (AsksAll (needs c)) events (Ok answers)) (λ events. Withholds k number c events (Err e)) p q a
      (λ xs f. (e, kept, refl, inr (answers, f, subst (λ (n : ℕ). (e ≡ Memory) ⊎ (e ≡ refused_for n number (work_of c answers))) (sym many) why)))

  -- ---- the line

  pub comments : (p : S) (tree n : ℕ) (line : Line) (result : Result (Answer × Option Refusal) Halt) → did p [] p → comment ≡ line → result ≡ Ok (nothing, None) → Call did p p (λ events. AnswersInJob k (Some tree) n line events result)
  comments p tree n line result stays is said =
      subst (λ (it : Line). Call did p p (λ events. AnswersInJob k (Some tree) n it events result)) is (call_of_none did (λ events. AnswersInJob k (Some tree) n comment events result) p p stays (inl (kept, refl, said)))

  pub refuses : (p : S) (tree n : ℕ) (line : Line) (why : Refusal) (result : Result (Answer × Option Refusal) Halt) → did p [] p → refused why ≡ line → IsRefused n why result
      → Call did p p (λ events. AnswersInJob k (Some tree) n line events result)
  refuses p tree n line why result stays is said =
      subst (λ (it : Line). Call did p p (λ events. AnswersInJob k (Some tree) n it events result)) is (call_of_none did (λ events. AnswersInJob k (Some tree) n (refused why) events result) p p stays (inl (kept, refl, said)))

  pub withholds : (p q : S) (tree n : ℕ) (line : Line) (c : Command) (why : Refusal) (result : Result (Answer × Option Refusal) Halt) → asks c ≡ line → Call did p q (λ events. Withholds k tree c events (Err why)) → Ends n (Err why) result
      → Call did p q (λ events. AnswersInJob k (Some tree) n line events result)
  withholds p q tree n line c why result is a ends =
      subst (λ (it : Line). Call did p q (λ events. AnswersInJob k (Some tree) n it events result)) is
      (so_call did (λ events. Withholds k tree c events (Err why)) (λ events. AnswersInJob k (Some tree) n (asks c) events result) p q a (λ xs f. inl (Err why, f, ends)))

  pub wants : (p : S) (tree n : ℕ) (line : Line) → did p [] p → Call did p p (λ events. AnswersInJob k (Some tree) n line events (Err halt.Memory))
  wants p tree n line stays = call_of_none did (λ events. AnswersInJob k (Some tree) n line events (Err halt.Memory)) p p stays (inr (kept, refl, refl))
