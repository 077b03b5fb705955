-- What an incremental backup does.
use Rattle.std.specs.Prelude.{◌≡◌, ◌⊎◌, ℕ, ◌==◌, ◌&&◌, Bool, true, false, List, [], length, nat_lt, Option, IfOk, Result, Ok, Err}
use Rattle.kinds.specs.Answers.{AnswersBy}
use Rattle.kinds.specs.declared.refusal.Refusal.{Refusal}
use Rattle.kinds.specs.declared.refusal.Refusal.TheVariants as refused
use Rattle.choosers.specs.declared.rule.Rule.{Rule}
use Rattle.client_files.specs.Sending.{stopping}
use Rattle.client_plan.specs.Plans.{Lists}
use Rattle.client_trees.specs.Files.{Files}
use Rattle.steps.specs.Calls.{Made, Then}
use Rattle.steps.specs.Events.{Event}
use Rattle.steps.specs.Events.Deed.{Force}
use Rattle.steps.specs.Receipts.{receipts}
use Rattle.incrementals.specs.declared.answering.Outs.{Outs}
use Rattle.incrementals.specs.declared.answering.Sent.{Sent}
use Rattle.incrementals.specs.declared.planning.Begun.{Begun}
use Rattle.incrementals.specs.Answering.{sent_of}
use Rattle.client_batches.specs.Tickets.{is_lasting}
use Rattle.steps.specs.Spent.{AreSettled}
use Rattle.incrementals.specs.Orders.{AreOfBackup, AreQuestions}
use Rattle.incrementals.specs.Filespaces.{HasFilespace}
use Rattle.client_batches.specs.Items.{ended_by, items_in, rebound_by, stored_by}
use Rattle.incrementals.specs.Items.{IsWhole}
use Rattle.incrementals.specs.Planning.{Begins}
use Rattle.client_batches.specs.Handling.{BindsPaths, EndsVersions, SendsFiles}

-- the plan has files to be sent
abbrev pub is_sending : Lists → Bool
is_sending plan = nat_lt 0 (length plan.send)

-- it has nothing that is to be committed
abbrev pub is_idle : Lists → Bool
is_idle plan = (length plan.send == 0) && (length plan.rebind == 0) && (length plan.gone == 0)

-- First the paths that are bound anew, and then the versions that are ended, behind files of which this came.
abbrev pub CommitsLists : (filespace : ℕ) → Lists → (sent : List (Option Refusal)) → List Event → Result Outs Refusal → Type 0
CommitsLists filespace plan sent events (Ok o) =
    (o.sent ≡ sent) × Then (λ xs. BindsPaths filespace plan.rebind xs (Ok o.rebound)) (λ ys. EndsVersions filespace plan.gone ys (Ok o.gone)) events
CommitsLists filespace plan sent events (Err e) =
    BindsPaths filespace plan.rebind events (Err e)
    ⊎ ((outs : List (Option Refusal)) × Then (λ xs. BindsPaths filespace plan.rebind xs (Ok outs)) (λ ys. EndsVersions filespace plan.gone ys (Err e)) events)

-- First the files, and then these.
abbrev pub CarriesOut : (filespace : ℕ) → Begun → Option Files → (before after : ℕ) → List Event → Result Outs Refusal → Type 0
CarriesOut filespace b told before after events result =
    ((sent : List (Option Refusal)) × Then (λ xs. SendsFiles b.classes told filespace b.plan.send before after xs (Ok sent)) (λ ys. CommitsLists filespace b.plan sent ys result) events)
    ⊎ ((e : Refusal) × SendsFiles b.classes told filespace b.plan.send before after events (Err e) × (result ≡ Err e))

abbrev pub no_outs : Outs
no_outs = record { sent = []; rebound = []; gone = [] }

-- The plan has nothing to be committed; or the filespace was looked up or defined, and the plan carried out.
abbrev pub Works : (node filespace : List ℕ) → Begun → Option Files → (before after : ℕ) → List Event → Result Outs Refusal → Type 0
Works node filespace b told before after events result =
    ((is_idle b.plan ≡ true) × (events ≡ []) × (after ≡ before) × (result ≡ Ok no_outs))
    ⊎ ((is_idle b.plan ≡ false) × (number : ℕ)
    × Then (λ xs. HasFilespace node b.node filespace (is_sending b.plan) xs (Ok number)) (λ ys. CarriesOut number b told before after ys result) events)
    ⊎ ((is_idle b.plan ≡ false) × (e : Refusal) × HasFilespace node b.node filespace (is_sending b.plan) events (Err e) × (after ≡ before) × (result ≡ Err e))

abbrev pub forced_as : Result ℕ Refusal → Result (Unit {0}) Refusal
forced_as (Ok number) = Ok tt
forced_as (Err e) = Err (stopping e)

-- all was made durable, or a force was refused
abbrev pub Forces : List Event → Result (Unit {0}) Refusal → Type 0
Forces events result = (answer : Result ℕ Refusal) × Made (Force answer) events × (result ≡ forced_as answer)

-- the plan was carried out, and then all was made durable
abbrev pub Finishes : (node filespace : List ℕ) → Begun → Option Files → (before after : ℕ) → List Event → Result Outs Refusal → Type 0
Finishes node filespace b told before after events (Ok o) = Then (λ xs. Works node filespace b told before after xs (Ok o)) (λ ys. Forces ys (Ok tt)) events
Finishes node filespace b told before after events (Err e) =
    Works node filespace b told before after events (Err e)
    ⊎ ((o : Outs) × Then (λ xs. Works node filespace b told before after xs (Ok o)) (λ ys. Forces ys (Err e)) events)

-- An incremental backup begins, carries its plan out and makes all durable, and then answers what came of it.
abbrev pub Increments : (node filespace : List ℕ) → List Rule → Option Files → (before after : ℕ) → List Event → Result Sent Refusal → Type 0
Increments node filespace choice told before after events result =
    ((e : Refusal) × Begins node filespace choice told before after events (Err e) × (result ≡ Err e))
    ⊎ ((b : Begun) × (count : ℕ) × (e : Refusal)
    × Then (λ xs. Begins node filespace choice told before count xs (Ok b)) (λ ys. Finishes node filespace b told count after ys (Err e)) events × (result ≡ Err e))
    ⊎ ((b : Begun) × (count : ℕ) × (o : Outs)
    × Then (λ xs. Begins node filespace choice told before count xs (Ok b)) (λ ys. Finishes node filespace b told count after ys (Ok o)) events × AnswersBy (λ s. s) result (sent_of b.plan o))

-- ---- what it came to

-- it counts the items of its acknowledged transactions
pub record Counts (s : Sent) (events : List Event) : Type 0 where
  pub sent : s.sent ≡ length (items_in stored_by (receipts events))
  pub rebound : s.rebound ≡ length (items_in rebound_by (receipts events))
  pub gone : s.gone ≡ length (items_in ended_by (receipts events))

-- Where it answers, its acknowledged transactions have exactly the lines of its plan but those that failed, which it names, and it counts them.
pub record Done (node filespace : List ℕ) (choice : List Rule) (told : Option Files) (before after : ℕ) (s : Sent) (events : List Event) : Type 0 where
  pub begun : Begun
  pub outs : Outs
  pub count : ℕ
  pub answer : s ≡ sent_of begun.plan outs
  pub steps : Then (λ xs. Begins node filespace choice told before count xs (Ok begun)) (λ ys. Finishes node filespace begun told count after ys (Ok outs)) events
  pub exact : IsWhole begun.plan outs events
  pub counts : Counts s events

-- It only asked; or it began with a plan, and behind that made the steps of a backup alone, and no transaction but what the plan orders.
abbrev pub Only : (node filespace : List ℕ) → List Rule → Option Files → (before : ℕ) → List Event → Type 0
Only node filespace choice told before events =
    AreQuestions events ⊎ ((b : Begun) × (count : ℕ) × Then (λ xs. Begins node filespace choice told before count xs (Ok b) × AreQuestions xs) (λ ys. AreOfBackup told filespace b ys) events)

-- the hall is halted, or the run is full: nobody can give a ticket back any more
abbrev pub may_leave : Result Sent Refusal → Bool
may_leave (Ok s) = false
may_leave (Err e) = is_lasting e

-- What an incremental backup did: its steps came in their order, it did what it answers, it made no other steps and transactions than its own, and it left no ticket, unless none could be given back.
pub record Incremental (node filespace : List ℕ) (choice : List Rule) (told : Option Files) (before after : ℕ) (events : List Event) (result : Result Sent Refusal) : Type 0 where
  pub order : Increments node filespace choice told before after events result
  pub done : IfOk result (λ s. Done node filespace choice told before after s events)
  pub only : Only node filespace choice told before events
  pub settled : may_leave result ≡ false → AreSettled events
