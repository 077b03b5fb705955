-- In a run of several actors' turns each ticket is opened with a number that none had before.
use Rattle.std.proofs.Common.{◌≡◌, ◌∙◌, inl, inr, ℕ, ◌+◌, ◌≤◌, ◌==◌, if◌then◌else◌, true, false, Ok, Err, List, [], ◌∷◌, sym, ap, subst, arith}
use Rattle.steps.specs.declared.image.ImageKind.TheVariants as image
use Rattle.steps.specs.declared.image.ImageReply.TheVariants as reply
use Rattle.steps.specs.Events.{Deed, Event}
use Rattle.steps.specs.Events.Deed.{OpenNew, OpenCopy, WritePiece, CopyPiece, Seal, Commit, DropTicket, ReadPiece, Ask, Image, Reuse, Force}
use Rattle.machine.specs.Alone.{Moves, with_contents}
use Rattle.machine.specs.Machine.{Case, DropsTicket, Places, Stays, begun, checkpointed, committed, dropping, ending, halting, made, opened, opened_new, size_of, stamped, with_image, with_tickets}
use Rattle.entries.specs.declared.change.Change.TheVariants as change
use Rattle.machine.specs.State.{Core, Machine, copying, inventory, sealing, taking}
use Rattle.machine.specs.Turns.{Turn, events_of}
use Rattle.crew.specs.Ran.{Turned}
use Rattle.line_results.proofs.Sending.{IsOpening, WasOpened}
use Rattle.block_results.proofs.BySteps.{core-left}

-- ---- one step

module _ (places : Places) (actor : ℕ) (m next : Machine) where
  abbrev Rises : Type 0
  Rises = m.core.next_ticket ≤ next.core.next_ticket

  by-core : (c : Core) → next.core ≡ c → m.core.next_ticket ≤ c.next_ticket → Rises
  by-core c is low = subst (λ (x : Core). m.core.next_ticket ≤ x.next_ticket) (sym is) low

  stays : Stays m next → Rises
  stays h = by-core m.core h.core (omega arith)

  drops : (number : ℕ) (e : _) → DropsTicket actor number m e next → Rises
  drops number e (t, file, is, has, why, rose, becomes) = by-core (dropping actor number m.core) becomes.core (omega arith)

  -- the number that is drawn next never falls
  rises : (d : Deed) → Case places actor d m next → Rises
  rises (OpenNew pool size prefer (Ok number)) (placed, at, (none, (place, is, numbered, becomes))) = by-core (opened_new actor size place m.core) becomes.core (omega arith)
  rises (OpenNew pool size prefer (Err e)) (placed, at, inl h) = stays h.1
  rises (OpenNew pool size prefer (Err e)) (placed, at, inr h) = absurd h.1
  rises (OpenCopy object a avoid (Ok number)) (placed, at, (none, (place, is, numbered, becomes))) = by-core (opened actor (size_of object (inventory m.core)) (copying object a) place m.core) becomes.core (omega arith)
  rises (OpenCopy object a avoid (Err e)) (placed, at, inl h) = stays h.1
  rises (OpenCopy object a avoid (Err e)) (placed, at, inr h) = absurd h.1
  rises (WritePiece number bytes (Ok count)) (none, (t, is, counted, becomes)) = by-core (with_tickets (taking actor number bytes m.core.tickets) m.core) becomes.core (omega arith)
  rises (WritePiece number bytes (Err e)) (inl h) = stays h.1
  rises (WritePiece number bytes (Err e)) (inr (none, h)) = drops number e h
  rises (CopyPiece number (Ok count)) (none, (t, is, counted, (read, becomes))) = by-core (with_tickets _ m.core) becomes.core (omega arith)
  rises (CopyPiece number (Err e)) (inl h) = stays h.1
  rises (CopyPiece number (Err e)) (inr (none, inl (t, is, why, cant, still))) = stays still
  rises (CopyPiece number (Err e)) (inr (none, inr h)) = drops number e h
  rises (Seal number (Ok done)) h = by-core (with_tickets (sealing actor number m.core.tickets) m.core) h.1.core (omega arith)
  rises (Seal number (Err e)) (inl h) = stays h.1
  rises (Seal number (Err e)) (inr (none, h)) = drops number e h
  rises (Commit asked numbers (Ok n)) (none, (c, is, numbered, joins)) = by-core (committed actor c numbers m.core) joins.0 (omega arith)
  rises (Commit asked numbers (Err e)) (inl h) = stays h.1
  rises (Commit asked numbers (Err e)) (inr (none, (c, file, count, is, why, fault, joins))) = by-core (halting file count (committed actor c numbers m.core)) joins.0 (omega arith)
  rises (DropTicket number (Ok done)) h = by-core (dropping actor number m.core) h.1.core (omega arith)
  rises (DropTicket number (Err e)) (inl h) = stays h.1
  rises (DropTicket number (Err e)) (inr h) = absurd h.1
  rises (ReadPiece object kept from offset wanted (Ok bytes)) (none, (is, read, still)) = stays still
  rises (ReadPiece object kept from offset wanted (Err e)) (inl h) = stays h.1
  rises (ReadPiece object kept from offset wanted (Err e)) (inr (none, (why, cant, still))) = stays still
  rises (Ask query (Ok told)) h = stays h.1.1
  rises (Ask query (Err e)) (inl h) = stays h.1
  rises (Ask query (Err e)) (inr h) = absurd h.1
  rises (Image image.Checkpoint (Ok told)) (none, (unwritten, is, becomes)) = by-core (with_image _ (stamped next.moment m.core)) becomes.core (omega arith)
  rises (Image image.Checkpoint (Err e)) (inl h) = stays h.1
  rises (Image image.Checkpoint (Err e)) (inr (none, (file, count, moment, left, why, fault, inl is, becomes))) =
      by-core (halting file count left) becomes.core (subst (λ (c : Core). m.core.next_ticket ≤ c.next_ticket) (sym is) (omega arith))
  rises (Image image.Checkpoint (Err e)) (inr (none, (file, count, moment, left, why, fault, inr is, becomes))) =
      by-core (halting file count left) becomes.core (subst (λ (c : Core). m.core.next_ticket ≤ c.next_ticket) (sym is) (omega arith))
  rises (Image image.Backup (Ok told)) (none, (unwritten, is, becomes)) = by-core (with_image _ (stamped next.moment (begun actor _ m.core))) becomes.core (omega arith)
  rises (Image image.Backup (Err e)) (inl h) = stays h.1
  rises (Image image.Backup (Err e)) (inr (none, inl (file, count, why, fault, becomes))) = by-core (halting file count (begun actor _ m.core)) becomes.core (omega arith)
  rises (Image image.Backup (Err e)) (inr (none, inr (moment, why, rose, becomes))) = by-core (stamped moment (begun actor _ m.core)) becomes.core (omega arith)
  rises (Image (image.Since after) (Ok told)) (none, (unwritten, is, becomes)) = by-core (with_image _ (stamped next.moment (begun actor _ m.core))) becomes.core (omega arith)
  rises (Image (image.Since after) (Err e)) (inl h) = stays h.1
  rises (Image (image.Since after) (Err e)) (inr (none, inl (file, count, why, fault, becomes))) = by-core (halting file count (begun actor _ m.core)) becomes.core (omega arith)
  rises (Image (image.Since after) (Err e)) (inr (none, inr (moment, why, rose, becomes))) = by-core (stamped moment (begun actor _ m.core)) becomes.core (omega arith)
  rises (Image image.Next (Ok reply.More)) (none, (i, j, is, wrote, becomes)) = by-core (with_image _ m.core) becomes.core (omega arith)
  rises (Image image.Next (Ok (reply.Done seq))) (none, (i, is, same, whole, inl (picture, copied, becomes))) = by-core (checkpointed next.moment i m.core) becomes.core (omega arith)
  rises (Image image.Next (Ok (reply.Done seq))) (none, (i, is, same, whole, inr (picture, legal, becomes))) = by-core (with_image _ (ending actor i m.core)) becomes.core (omega arith)
  rises (Image image.Next (Ok (reply.Begun file seq))) (none, h) = absurd h
  rises (Image image.Next (Err e)) (inl h) = stays h.1
  rises (Image image.Next (Err e)) (inr (none, (i, is, inl (picture, why, rose, becomes)))) = by-core (with_image _ m.core) becomes.core (omega arith)
  rises (Image image.Next (Err e)) (inr (none, (i, is, inr (inl (picture, whole, why, bound, becomes))))) = by-core (with_image _ m.core) becomes.core (omega arith)
  rises (Image image.Next (Err e)) (inr (none, (i, is, inr (inr (file, count, moment, core, why, fault, inl same, becomes))))) =
      by-core (halting file count core) becomes.core (subst (λ (c : Core). m.core.next_ticket ≤ c.next_ticket) (sym same) (omega arith))
  rises (Image image.Next (Err e)) (inr (none, (i, is, inr (inr (file, count, moment, core, why, fault, inr (inl same), becomes))))) =
      by-core (halting file count core) becomes.core (subst (λ (c : Core). m.core.next_ticket ≤ c.next_ticket) (sym same) (omega arith))
  rises (Image image.Next (Err e)) (inr (none, (i, is, inr (inr (file, count, moment, core, why, fault, inr (inr (picture, same)), becomes))))) =
      by-core (halting file count core) becomes.core (subst (λ (c : Core). m.core.next_ticket ≤ c.next_ticket) (sym same) (omega arith))
  rises (Reuse file (Ok number)) (none, (numbered, becomes)) = by-core (stamped next.moment (made actor (change.Reuse file) m.core)) becomes.core (omega arith)
  rises (Reuse file (Err e)) (inl h) = stays h.1
  rises (Reuse file (Err e)) (inr (none, (log, count, why, fault, becomes))) = by-core (halting log count (made actor (change.Reuse file) m.core)) becomes.core (omega arith)
  rises (Force (Ok number)) h = by-core (stamped next.moment m.core) h.1.1.core (omega arith)
  rises (Force (Err e)) (inl h) = stays h.1
  rises (Force (Err e)) (inr (none, (file, count, why, fault, becomes))) = by-core (halting file count m.core) becomes.core (omega arith)

  -- the ticket that is opened has the number that was drawn next, and the one behind it is drawn then
  opens : (number size : ℕ) (d : Deed) → Case places actor d m next → IsOpening number size d → (number ≡ m.core.next_ticket) × (next.core.next_ticket ≡ m.core.next_ticket + 1)
  opens number size (OpenNew pool bytes prefer (Ok ticket)) (placed, at, (none, (place, is, numbered, becomes))) (same, long) = (sym same ∙ numbered, ap (λ (c : Core). c.next_ticket) becomes.core)
  opens number size d h opening = absurd opening

module _ (trusted : Type 0) (places : Places) where
  next-left : (actor : ℕ) (e : Event) (old new : Machine) (m : Moves trusted places actor e old new) → new.core.next_ticket ≡ m.next.core.next_ticket
  next-left actor e old new m = ap (λ (x : Machine). x.core.next_ticket) m.left ∙ ap (λ (c : Core). c.next_ticket) (core-left e.deed old.contents m.next)

  moves-rises : (actor : ℕ) (e : Event) (old new : Machine) → Moves trusted places actor e old new → old.core.next_ticket ≤ new.core.next_ticket
  moves-rises actor e old new m =
      let left : new.core.next_ticket ≡ m.next.core.next_ticket = next-left actor e old new m in
      let low : old.core.next_ticket ≤ m.next.core.next_ticket = rises places actor (with_contents m.seen old) m.next e.deed m.made.step in
      omega (arith, left, low)

  moves-opens : (actor : ℕ) (e : Event) (old new : Machine) → Moves trusted places actor e old new → (number size : ℕ) → IsOpening number size e.deed
      → (number ≡ old.core.next_ticket) × (new.core.next_ticket ≡ old.core.next_ticket + 1)
  moves-opens actor e old new m number size opening =
      let o = opens places actor (with_contents m.seen old) m.next number size e.deed m.made.step opening in
      (o.0, next-left actor e old new m ∙ o.1)

  -- ---- a run

  -- a ticket that one of these steps opened has no number that was drawn before them
  above : (actor : ℕ) (turns : List Turn) (old new : Machine) → Turned trusted places turns old new → (number size : ℕ) → WasOpened number size (events_of actor turns) → old.core.next_ticket ≤ number
  above actor [] old new is number size was = absurd was
  above actor (t ∷ turns) old new (next, moved, rest) number size was =
      let low : old.core.next_ticket ≤ next.core.next_ticket = moves-rises t.actor t.did old next moved in
      let behind : WasOpened number size (events_of actor turns) → old.core.next_ticket ≤ number =
      λ later. (let high : next.core.next_ticket ≤ number = above actor turns next new rest number size later in omega (arith, low, high)) in
      elim (t.actor == actor) as (λ b. WasOpened number size (if b then t.did ∷ events_of actor turns else events_of actor turns) → old.core.next_ticket ≤ number) [
        | true ↦ λ h.
            elim h as (λ _. old.core.next_ticket ≤ number) [
              | inl opening ↦ (let here : number ≡ old.core.next_ticket = (moves-opens t.actor t.did old next moved number size opening).0 in omega (arith, here))
              | inr later ↦ behind later
            ]
        | false ↦ behind
      ] was

  one-size : (number first second : ℕ) (d : Deed) → IsOpening number first d → IsOpening number second d → first ≡ second
  one-size number first second (OpenNew pool bytes prefer (Ok ticket)) h k = sym h.1 ∙ k.1
  one-size number first second d h k = absurd h

  -- one that was opened first has none that is drawn behind it
  apart : (actor : ℕ) (t : Turn) (turns : List Turn) (old next new : Machine) → Moves trusted places t.actor t.did old next → Turned trusted places turns next new
      → (number first second : ℕ) → IsOpening number first t.did.deed → WasOpened number second (events_of actor turns) → ⊥
  apart actor t turns old next new moved rest number first second opening later =
      let o = moves-opens t.actor t.did old next moved number first opening in
      let here : number ≡ old.core.next_ticket = o.0 in
      let drawn : next.core.next_ticket ≡ old.core.next_ticket + 1 = o.1 in
      let high : next.core.next_ticket ≤ number = above actor turns next new rest number second later in
      absurd (omega (arith, here, drawn, high))

  -- so an actor's ticket with a number was opened for one size
  pub opened-once : (actor : ℕ) (turns : List Turn) (old new : Machine) → Turned trusted places turns old new
      → (number first second : ℕ) → WasOpened number first (events_of actor turns) → WasOpened number second (events_of actor turns) → first ≡ second
  opened-once actor [] old new is number first second h k = absurd h
  opened-once actor (t ∷ turns) old new (next, moved, rest) number first second h k =
      elim (t.actor == actor) as (λ b. WasOpened number first (if b then t.did ∷ events_of actor turns else events_of actor turns)
      → WasOpened number second (if b then t.did ∷ events_of actor turns else events_of actor turns) → first ≡ second) [
        | true ↦ λ x y.
            elim x as (λ _. first ≡ second) [
              | inl one ↦ elim y as (λ _. first ≡ second) [
                | inl two ↦ one-size number first second t.did.deed one two
                | inr two ↦ absurd (apart actor t turns old next new moved rest number first second one two)
              ]
              | inr one ↦ elim y as (λ _. first ≡ second) [
                | inl two ↦ absurd (apart actor t turns old next new moved rest number second first two one)
                | inr two ↦ opened-once actor turns next new rest number first second one two
              ]
            ]
        | false ↦ opened-once actor turns next new rest number first second
      ] h k
