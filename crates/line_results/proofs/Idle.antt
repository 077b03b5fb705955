-- Steps that have to do with tickets begin no image and leave the one in progress, if there is one.
use Rattle.std.proofs.Common.{◌≡◌, inl, inr, ℕ, List, [], ◌∷◌, Result, Ok, Err, refl, ap, ◌∙◌}
use Rattle.std.specs.List.{AllByRecursion}
use Rattle.kinds.specs.declared.refusal.Refusal.{Refusal}
use Rattle.inventory_answers.specs.declared.query.Query.{Query}
use Rattle.inventory_answers.specs.declared.reply.Answer.{Answer}
use Rattle.space.specs.declared.aim.Aim.{Aim}
use Rattle.steps.specs.declared.asked.Asked.{Asked}
use Rattle.steps.specs.Events.{Deed, Event}
use Rattle.steps.specs.Events.Deed.{Ask, Commit, CopyPiece, DropTicket, Force, OpenCopy, OpenNew, Seal, WritePiece}
use Rattle.machine.specs.Alone.{Alone}
use Rattle.machine.specs.Machine.{Asks, Case, Commits, CopiesPiece, Drops, OpensCopy, OpensNew, Places, Seals, WritesPiece}
use Rattle.machine.specs.State.{Core, Machine}
use Rattle.line_results.proofs.Spent.{HasTickets, ticket-step}
use Rattle.line_results.proofs.Walking.{force-image}

-- the same image is in progress, or none
abbrev pub IsSameIn : (m next : Machine) → Type 0
IsSameIn m next = next.core.image ≡ m.core.image

module _ (places : Places) (m next : Machine) where
  by-core : (c : Core) → c.image ≡ m.core.image → next.core ≡ c → IsSameIn m next
  by-core c same is = ap (λ (k : Core). k.image) is ∙ same

  ask-idle : (query : Query) (answer : Result Answer Refusal) → Asks 0 query m next answer → IsSameIn m next
  ask-idle query (Ok told) h = by-core m.core refl h.1.1.core
  ask-idle query (Err e) (inl h) = by-core m.core refl h.1.core
  ask-idle query (Err e) (inr h) = absurd h.1

  new-idle : (pool size prefer : ℕ) (answer : Result ℕ Refusal) → OpensNew places 0 pool size prefer m next answer → IsSameIn m next
  new-idle pool size prefer (Ok number) (placed, at, (none, (place, is, numbered, becomes))) = by-core _ refl becomes.core
  new-idle pool size prefer (Err e) (placed, at, inl h) = by-core m.core refl h.1.core
  new-idle pool size prefer (Err e) (placed, at, inr h) = absurd h.1

  open-idle : (object : ℕ) (a : Aim) (avoid : ℕ) (answer : Result ℕ Refusal) → OpensCopy places 0 object a avoid m next answer → IsSameIn m next
  open-idle object a avoid (Ok number) (placed, at, (none, (place, is, numbered, becomes))) = by-core _ refl becomes.core
  open-idle object a avoid (Err e) (placed, at, inl h) = by-core m.core refl h.1.core
  open-idle object a avoid (Err e) (placed, at, inr h) = absurd h.1

  write-idle : (number : ℕ) (bytes : List ℕ) (answer : Result ℕ Refusal) → WritesPiece 0 number bytes m next answer → IsSameIn m next
  write-idle number bytes (Ok count) (none, (t, is, counted, becomes)) = by-core _ refl becomes.core
  write-idle number bytes (Err e) (inl h) = by-core m.core refl h.1.core
  write-idle number bytes (Err e) (inr (none, (t, file, is, has, why, rose, becomes))) = by-core _ refl becomes.core

  piece-idle : (number : ℕ) (answer : Result ℕ Refusal) → CopiesPiece 0 number m next answer → IsSameIn m next
  piece-idle number (Ok count) (none, (t, is, counted, takes)) = by-core _ refl takes.1.core
  piece-idle number (Err e) (inl h) = by-core m.core refl h.1.core
  piece-idle number (Err e) (inr (none, inl (t, is, why, cant, stays))) = by-core m.core refl stays.core
  piece-idle number (Err e) (inr (none, inr (t, file, is, has, why, rose, becomes))) = by-core _ refl becomes.core

  seal-idle : (number : ℕ) (answer : Result (Unit {0}) Refusal) → Seals 0 number m next answer → IsSameIn m next
  seal-idle number (Ok done) h = by-core _ refl h.1.core
  seal-idle number (Err e) (inl h) = by-core m.core refl h.1.core
  seal-idle number (Err e) (inr (none, (t, file, is, has, why, rose, becomes))) = by-core _ refl becomes.core

  drop-idle : (number : ℕ) (answer : Result (Unit {0}) Refusal) → Drops 0 number m next answer → IsSameIn m next
  drop-idle number (Ok done) h = by-core _ refl h.1.core
  drop-idle number (Err e) (inl h) = by-core m.core refl h.1.core
  drop-idle number (Err e) (inr h) = absurd h.1

  commit-idle : (asked : Asked) (tickets : List ℕ) (answer : Result ℕ Refusal) → Commits 0 asked tickets m next answer → IsSameIn m next
  commit-idle asked tickets (Ok number) (none, (c, is, numbered, joins)) = by-core _ refl joins.0
  commit-idle asked tickets (Err e) (inl h) = by-core m.core refl h.1.core
  commit-idle asked tickets (Err e) (inr (none, (c, file, count, is, why, fault, joins))) = by-core _ refl joins.0

  deed-idle : (d : Deed) → HasTickets d → Case places 0 d m next → IsSameIn m next
  deed-idle (Ask query answer) so h = ask-idle query answer h
  deed-idle (Force answer) so h = force-image m next answer h
  deed-idle (OpenNew pool size prefer answer) so h = new-idle pool size prefer answer h
  deed-idle (OpenCopy object a avoid answer) so h = open-idle object a avoid answer h
  deed-idle (WritePiece number bytes answer) so h = write-idle number bytes answer h
  deed-idle (CopyPiece number answer) so h = piece-idle number answer h
  deed-idle (Seal number answer) so h = seal-idle number answer h
  deed-idle (DropTicket number answer) so h = drop-idle number answer h
  deed-idle (Commit asked tickets answer) so h = commit-idle asked tickets answer h
  deed-idle d so h = absurd so

module _ (trusted : Type 0) (places : Places) (Is : Deed → Type 0) (has : (d : Deed) → Is d → HasTickets d) where
  pub still-idle : (events : List Event) (m new : Machine) → AllByRecursion (λ e. Is e.deed) events → Alone trusted places 0 events m new → IsSameIn m new
  still-idle [] m new all same = ap (λ (x : Machine). x.core.image) same
  still-idle (e ∷ events) m new all (next, moved, rest) =
      let s = ticket-step trusted places e m next (has e.deed all.0) moved in
      still-idle events next new all.1 rest ∙ deed-idle places m next e.deed (has e.deed all.0) s.1
