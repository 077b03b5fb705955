-- The filespace of an incremental backup: found by its name, or defined.
use Rattle.std.specs.Prelude.{◌≡◌, ◌⊎◌, ℕ, ◌==◌, Bool, true, false, List, [], ◌∷◌, if◌then◌else◌, Option, None, Some, Result, Ok, Err}
use Rattle.std.specs.List.{find}
use Rattle.std.specs.Option.{option_map}
use Rattle.std.specs.Str.{bytes_eq}
use Rattle.kinds.specs.Refusals.{number_of}
use Rattle.kinds.specs.declared.change.DefineOrDelete.TheVariants as two
use Rattle.kinds.specs.declared.change.ObjectChange.TheVariants as client
use Rattle.kinds.specs.declared.refusal.Refusal.{Refusal}
use Rattle.kinds.specs.declared.refusal.Refusal.TheVariants as refused
use Rattle.client_files.specs.Sending.{stopping}
use Rattle.entries.specs.declared.change.Change.TheVariants as change
use Rattle.inventory_answers.specs.declared.lines.FilespaceLine.{FilespaceLine}
use Rattle.inventory_answers.specs.declared.query.Query.TheVariants as query
use Rattle.steps.specs.declared.asked.Asked.{Asked}
use Rattle.steps.specs.declared.asked.Asked.TheVariants as asked
use Rattle.steps.specs.Calls.{Made, Then}
use Rattle.steps.specs.Events.{Event, has_number}
use Rattle.steps.specs.Events.Deed.{Commit}
use Rattle.incrementals.specs.Asking.{AsksFor, HasFilespaces}

-- the filespace with this name, among these, and its number
abbrev pub line_in : List ℕ → List FilespaceLine → Option FilespaceLine
line_in name lines = find (λ l. bytes_eq l.name name) lines

abbrev pub number_in : List ℕ → List FilespaceLine → Option ℕ
number_in name lines = option_map (λ l. l.number) (line_in name lines)

-- the number of a node's filespace was looked up, which may not be there
abbrev pub FindsOne : (node filespace : List ℕ) → List Event → Result (Option ℕ) Refusal → Type 0
FindsOne node filespace events (Ok found) =
    (lines : List FilespaceLine) × AsksFor (query.Filespaces (Some node)) HasFilespaces events (Ok lines) × (found ≡ number_in filespace lines)
FindsOne node filespace events (Err e) = AsksFor {A = List FilespaceLine} (query.Filespaces (Some node)) HasFilespaces events (Err e)

-- ---- a filespace that isn't there

-- the transaction that defines it; its own number is filled in
abbrev pub defining : (node : ℕ) → List ℕ → Asked
defining node filespace = asked.Plain (change.Object (client.Filespace two.Define node filespace 0))

-- the node isn't there, or a bound of the database's
abbrev pub undefined : Refusal → Refusal
undefined e = if has_number (10 ∷ 31 ∷ []) e then e else stopping e

-- it is there, also where somebody else has defined it
abbrev pub defined : Result ℕ Refusal → Result (Unit {0}) Refusal
defined (Ok number) = Ok tt
defined (Err e) = if number_of e == 11 then Ok tt else Err (undefined e)

-- one transaction was tried that defines it, or memory was wanted before it
abbrev pub DefinesOne : (node : ℕ) → (filespace : List ℕ) → List Event → Result (Unit {0}) Refusal → Type 0
DefinesOne node filespace events result =
    ((events ≡ []) × (result ≡ Err refused.Memory))
    ⊎ ((answer : Result ℕ Refusal) × Made (Commit (defining node filespace) [] answer) events × (result ≡ defined answer))

abbrev pub there : Option ℕ → Result ℕ Refusal
there (Some number) = Ok number
there None = Err refused.NotFound

-- It was defined, and then its number looked up, where it has to be there.
abbrev pub DefinesAndFinds : (node : List ℕ) → (number : ℕ) → (filespace : List ℕ) → List Event → Result ℕ Refusal → Type 0
DefinesAndFinds node number filespace events result =
    ((found : Option ℕ) × Then (λ xs. DefinesOne number filespace xs (Ok tt)) (λ ys. FindsOne node filespace ys (Ok found)) events × (result ≡ there found))
    ⊎ ((e : Refusal) × Then (λ xs. DefinesOne number filespace xs (Ok tt)) (λ ys. FindsOne node filespace ys (Err e)) events × (result ≡ Err e))
    ⊎ ((e : Refusal) × DefinesOne number filespace events (Err e) × (result ≡ Err e))

-- ---- all of it

-- The filespace's number was looked up; where it isn't there it was defined, if there are files to be sent.
abbrev pub HasFilespace : (node : List ℕ) → (number : ℕ) → (filespace : List ℕ) → (sends : Bool) → List Event → Result ℕ Refusal → Type 0
HasFilespace node number filespace sends events result =
    ((found : ℕ) × FindsOne node filespace events (Ok (Some found)) × (result ≡ Ok found))
    ⊎ ((e : Refusal) × FindsOne node filespace events (Err e) × (result ≡ Err e))
    ⊎ ((sends ≡ false) × FindsOne node filespace events (Ok None) × (result ≡ Err refused.NotFound))
    ⊎ ((sends ≡ true) × Then (λ xs. FindsOne node filespace xs (Ok None)) (λ ys. DefinesAndFinds node number filespace ys result) events)
