-- What is done with the copies of a pool, one after the other.
use Rattle.std.specs.Prelude.{◌≡◌, ◌⊎◌, ℕ, nat_lt, Bool, true, false, List, [], ◌∷◌, Option, None, Some, Result, Ok, Err}
use Rattle.std.specs.List.{flat_map, remove, slice_get}
use Rattle.kinds.specs.declared.refusal.Refusal.{Refusal}
use Rattle.choosers.specs.declared.candidate.Candidate.{Candidate}
use Rattle.inventory_answers.specs.declared.query.Query.TheVariants as query
use Rattle.inventory_answers.specs.declared.reply.Answer.{Answer}
use Rattle.inventory_answers.specs.declared.reply.Rows.TheVariants as rows
use Rattle.inventory_work.specs.declared.lines.CopyLine.{CopyLine}
use Rattle.inventory_work.specs.Lists.{only}
use Rattle.inventory_rows.specs.version_groups.Entries.{is_nil}
use Rattle.space.specs.declared.aim.Aim.TheVariants as aim
use Rattle.steps.specs.Calls.{Then}
use Rattle.steps.specs.Events.{Event, event}
use Rattle.steps.specs.Events.Deed.{Ask}
use Rattle.copy_runs.specs.declared.wanted.Moved.{Moved}
use Rattle.copy_runs.specs.declared.wanted.Wanted.{Wanted}
use Rattle.copy_runs.specs.Ends.{AreAsking, IsUnlisted}
use Rattle.copy_runs.specs.Runs.{Run}
use Rattle.migration.specs.declared.left.Left.{Left}
use Rattle.migration.specs.Marks.{Looked}

-- the places in a list that whoever chooses may answer
abbrev pub Picks : Type 1
Picks = List Candidate → ℕ → Type 0

-- ---- what is left

-- The copies of the last list that weren't tried yet, in ascending order of their objects, with the numbers of the transactions that placed them; and behind which transaction the list was asked
-- for, where one was.
pub record Rest : Type 0 where
  pub candidates : List Candidate
  pub placed : List ℕ
  pub seen : Option ℕ

abbrev pub rest_of : Left → Rest
rest_of l = record { candidates = l.candidates.items; placed = l.placed.items; seen = l.seen }

-- no list was asked for yet
abbrev pub unasked : Rest
unasked = record { candidates = []; placed = []; seen = None }

-- ---- a list

-- The copy wasn't tried yet: the lists before were tried whole, so it is one that was placed behind the last of them.
abbrev pub is_fresh : Option ℕ → CopyLine → Bool
is_fresh None line = true
is_fresh (Some seen) line = nat_lt seen line.placed

abbrev pub candidate : CopyLine → Candidate
candidate line = record { object = line.object; size = line.size; stored = line.stored; node = line.node }

abbrev pub candidates_of : Option ℕ → CopyLine → List Candidate
candidates_of seen line = only (is_fresh seen line) (candidate line)

abbrev pub placings_of : Option ℕ → CopyLine → List ℕ
placings_of seen line = only (is_fresh seen line) line.placed

-- what is left of a list that was just asked for, behind this transaction
abbrev pub listed : (number : ℕ) → Option ℕ → List CopyLine → Rest
listed number seen lines = record { candidates = flat_map (candidates_of seen) lines; placed = flat_map (placings_of seen) lines; seen = Some number }

-- the copies in the pool were asked for
abbrev pub Listed : (pool : ℕ) → List Event → Answer → Type 0
Listed pool events answer = (n : ℕ) × (events ≡ event n (Ask (query.OnPool pool) (Ok answer)) ∷ [])

abbrev pub AsksPool : (pool : ℕ) → List Event → Result Answer Refusal → Type 0
AsksPool pool events (Ok answer) = Listed pool events answer
AsksPool pool events (Err e) = IsUnlisted (query.OnPool pool) events e × AreAsking events

-- what is left of the list that was answered
abbrev pub FilledFrom : (pool : ℕ) → Option ℕ → List Event → Rest → Type 0
FilledFrom pool seen events q = (answer : Answer) × (lines : List CopyLine) × Listed pool events answer × (answer.rows ≡ rows.OnPool lines) × (q ≡ listed answer.n seen lines)

abbrev pub FillsFrom : (pool : ℕ) → Option ℕ → List Event → Result Left Refusal → Type 0
FillsFrom pool seen events (Ok l) = FilledFrom pool seen events (rest_of l)
FillsFrom pool seen events (Err e) = IsUnlisted (query.OnPool pool) events e × AreAsking events

-- where none is left of the last list, another one was asked for
abbrev pub Filled : (empty : Bool) → (pool : ℕ) → Rest → List Event → Rest → Type 0
Filled false pool r events q = (events ≡ []) × (q ≡ r)
Filled true pool r events q = FilledFrom pool r.seen events q

abbrev pub Fills : (empty : Bool) → (pool : ℕ) → Rest → List Event → Rest → Result (Unit {0}) Refusal → Type 0
Fills empty pool r events q (Ok done) = Filled empty pool r events q
Fills empty pool r events q (Err e) = IsUnlisted (query.OnPool pool) events e × AreAsking events

-- ---- one copy

-- the move that is wanted of a copy
abbrev pub moving : (pool to : ℕ) → Candidate → (placed : ℕ) → Wanted
moving pool to c placed = record { object = c.object; aim = aim.Move pool placed to true; size = c.size }

-- without the copy at this place
abbrev pub without : ℕ → Rest → Rest
without place r = record { candidates = remove r.candidates place; placed = remove r.placed place; seen = r.seen }

-- a copy of what was left was picked, and this move of it is wanted
abbrev pub IsPicked : Picks → (pool to : ℕ) → (q s : Rest) → Wanted → Type 0
IsPicked picks pool to q s x =
    (place : ℕ) × (c : Candidate) × (placed : ℕ) × picks q.candidates place × (slice_get q.candidates place ≡ Some c) × (slice_get q.placed place ≡ Some placed)
    × (s ≡ without place q) × (x ≡ moving pool to c placed)

-- The pools were asked for, and more of this one is used than the mark; then, where no copy was left, for the copies in it; one was picked, and it was tried to move it.
abbrev pub Turned : Picks → (pool low : ℕ) → (r s : Rest) → Wanted → Moved → List Event → Type 0
Turned picks pool low r s x m events =
    (to : ℕ) × (q : Rest) × IsPicked picks pool to q s x
    × Then (λ xs. Looked pool low xs (Ok (Some to))) (λ ys. Then (λ us. Filled (is_nil r.candidates) pool r us q) (λ vs. Run (x ∷ []) 0 vs (Ok m)) ys) events

-- so it was with these, one after the other
abbrev pub Turns : Picks → (pool low : ℕ) → (r s : Rest) → List Wanted → List Event → Type 0
Turns picks pool low r s [] events = (events ≡ []) × (s ≡ r)
Turns picks pool low r s (x ∷ xs) events =
    (q : Rest) × (m : Moved) × Then (λ us. Turned picks pool low r q x m us) (λ vs. Turns picks pool low q s xs vs) events

-- ---- the end of a pool

-- at most the mark is used
abbrev pub IsLow : (pool low : ℕ) → List Event → Type 0
IsLow pool low events = Looked pool low events (Ok None)

-- more is used, but no copy is left that wasn't tried
abbrev pub AreTried : (pool low : ℕ) → Rest → List Event → Type 0
AreTried pool low r events =
    (to : ℕ) × (q : Rest) × (is_nil r.candidates ≡ true) × (is_nil q.candidates ≡ true)
    × Then (λ xs. Looked pool low xs (Ok (Some to))) (λ ys. FilledFrom pool r.seen ys q) events

abbrev pub IsOver : (pool low : ℕ) → Rest → List Event → Type 0
IsOver pool low r events = IsLow pool low events ⊎ AreTried pool low r events

-- these were tried in their turn, and then it was over
abbrev pub Lowered : Picks → (pool low : ℕ) → List Wanted → List Event → Type 0
Lowered picks pool low wanted events = (left : Rest) × Then (λ xs. Turns picks pool low unasked left wanted xs) (λ ys. IsOver pool low left ys) events
