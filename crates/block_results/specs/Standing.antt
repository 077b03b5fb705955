-- Where a line of a job stands in a history: the numbers that it reaches, what its look-ups are answered there, its refused steps, and the transactions that join by it. Other actors may make transactions between
-- any two of its steps.
use Rattle.std.specs.Prelude.{◌≡◌, ◌⊎◌, ℕ, ◌-◌, ◌≤◌, Contains, List, [], ◌∷◌, Some, Result, Ok, Err}
use Rattle.std.specs.List.{slice_get}
use Rattle.kinds.specs.declared.refusal.Refusal.{Refusal}
use Rattle.entries.specs.declared.change.Change.{Change}
use Rattle.inventory_rows.specs.version_groups.Entries.{on_ok}
use Rattle.inventory_answers.specs.Answered.{answered}
use Rattle.inventory_answers.specs.declared.query.Query.{Query}
use Rattle.inventory_answers.specs.declared.reply.Answer as rows
use Rattle.command_words.specs.Reading.{◌>>=◌}
use Rattle.admin_words.specs.declared.command.Command.{Command}
use Rattle.admin_commands.specs.Orders.{needs, work_of}
use Rattle.admin_commands.specs.declared.work.Work.{Work}
use Rattle.machine.specs.Fits.{History, Own, inv, sight_at}
use Rattle.machine.specs.Says.{Says}
use Rattle.steps.specs.Events.{Event, refusal}

-- ---- numbers

-- At a number of the history from the one on, and up to the other, this holds of it.
abbrev pub At : (since until : ℕ) → (ℕ → Type 0) → Type 0
At since until Q = (n : ℕ) × (since ≤ n) × (n ≤ until) × Q n

-- ---- look-ups

-- These look-ups were asked one after the other, at numbers that don't fall, and this is what the database of each number answers to its own; or the first refusal among these.
abbrev pub AnswersTo : History → (since until : ℕ) → List Query → Result (List rows.Answer) Refusal → Type 0
AnswersTo w since until [] result = result ≡ Ok []
AnswersTo w since until (q ∷ queries) result =
    At since until (λ n. ((why : Refusal) × (answered q (inv w n) ≡ Err why) × (result ≡ Err why))
    ⊎ ((first : rows.Answer) × (others : Result (List rows.Answer) Refusal) × (answered q (inv w n) ≡ Ok first) × AnswersTo w n until queries others × (result ≡ on_ok (λ l. first ∷ l) others)))

-- what a command asks for by such answers: a change, rows, or work of its own; or why it is refused
abbrev pub WorkAt : History → (since until : ℕ) → Command → Result Work Refusal → Type 0
WorkAt w since until c work = (answers : Result (List rows.Answer) Refusal) × AnswersTo w since until (needs c) answers × (work ≡ (answers >>= work_of c))

-- ---- refused steps

-- One of these steps of the actor was refused so. What it was answered holds of the database of its number: the first of the reasons that this database, the actor's own tickets and its own image give against the step;
-- or it is a cause elsewhere (`Says` of machine): want of room or of memory, room that others hold, copies and volumes that fail, numbers at their bounds, a halted hall, a full run.
pub record IsRefusedAt (w : History) (actor since until : ℕ) (events : List Event) (why : Refusal) : Type 0 where
  pub step : Event
  pub made : Contains events step
  pub refused : refusal step.deed ≡ Some why
  pub after : since ≤ step.n
  pub before : step.n ≤ until
  pub own : Own
  pub next_file : ℕ
  pub says : Says actor w.contents (sight_at w own step.n next_file) step.deed

-- ---- transactions

-- The transaction that joined by the step stands in the history behind the step's number, as the actor's, and this holds of the number and of it.
abbrev pub IsEntered : History → (actor : ℕ) → (ℕ → Change → Type 0) → Event → Type 0
IsEntered w actor Q e = (c : Change) × (slice_get w.journal (e.n - w.base.number) ≡ Some (record { actor = actor; change = c })) × Q e.n c
