-- A step leaves the bytes of the objects that a database of the run had.
use Rattle.std.proofs.Common.{◌≡◌, ◌⊎◌, ⊎_elim, inl, inr, ℕ, ◌≤◌, true, false, cond, is_some, List, [], ◌∷◌, ◌++◌, length, take, Option, Some, None, Result, Ok, Err, refl, sym, ap, subst, ◌∙◌, arith}
use Rattle.std.specs.Prelude.{◌==◌}
use Rattle.std.specs.List.{AllByRecursion, find}
use Rattle.std.specs.Option.{option_map_or}
use Rattle.std.proofs.lemmas.Bool.{and_parts, cases_lt, eqb-true}
use Rattle.std.proofs.lemmas.List.{take-append-le, take_all}
use Rattle.entries.specs.declared.entry.Entry.{Entry}
use Rattle.inventory_laws.proofs.Origins.{each_appended, each_found}
use Rattle.inventory_rows.specs.Search.{version}
use Rattle.inventory_rows.specs.State.{Inv}
use Rattle.inventory_rows.specs.version_groups.declared.versions.Version.{Version}
use Rattle.inventory_answers.specs.declared.query.Query.{Query}
use Rattle.inventory_answers.specs.declared.reply.Answer.{Answer}
use Rattle.kinds.specs.declared.refusal.Refusal.{Refusal}
use Rattle.space.specs.declared.aim.Aim.{Aim}
use Rattle.steps.specs.Events.{Deed}
use Rattle.steps.specs.Events.Deed.{OpenNew, OpenCopy, WritePiece, CopyPiece, Seal, Commit, DropTicket, ReadPiece, Ask, Image, Reuse, Force}
use Rattle.steps.specs.declared.asked.Asked.{Asked}
use Rattle.steps.specs.declared.image.ImageKind.{ImageKind}
use Rattle.steps.specs.declared.image.ImageKind.TheVariants as image
use Rattle.steps.specs.declared.image.ImageReply.{ImageReply}
use Rattle.steps.specs.declared.image.ImageReply.TheVariants as reply
use Rattle.machine.specs.Changes.{all_tickets}
use Rattle.machine.specs.Causes.{image_refused}
use Rattle.machine.specs.Machine.{Asks, BeginsBackup, BeginsCheckpoint, Case, Commits, Continues, CopiesPiece, Drops, DropsTicket, Finishes, Forces, GoesOn, Images, OpensCopy, OpensNew, Places, Reuses, Seals, Stays, StopsShort, WritesPiece, stored_by, storing_contents}
use Rattle.machine.specs.State.{Core, Image as Picture, Machine, Purpose, Sight, Ticket, after, copying, inventory, is_storing, object_of, own_tickets, sight, storing, ticket}
use Rattle.hall.specs.Covered.{IsDrawn, IsObject, NumbersAreDrawn, WasThere, inv_at}
use Rattle.hall.proofs.Exact.{read_contents}

-- ---- databases of the run are those of a longer one

module _ (c d : Core) (base : d.base ≡ c.base) (more : List Entry) (journal : d.journal ≡ c.journal ++ more) where
  -- up to its last transaction a run is the front of a longer one
  front_at : (count : ℕ) → count ≤ length c.journal → inv_at count d ≡ inv_at count c
  front_at count low = ap (λ (v : Inv). after v (take count d.journal)) base ∙ ap (λ (j : List Entry). after c.base (take count j)) journal ∙ ap (after c.base) (take-append-le count c.journal more low)

  last_at : (count : ℕ) → length c.journal ≤ count → inv_at count c ≡ inv_at (length c.journal) c
  last_at count high = ap (after c.base) (take_all count c.journal high) ∙ ap (after c.base) (sym (take_all (length c.journal) c.journal (omega arith)))

  pub had_before : (object : ℕ) → WasThere c object → WasThere d object
  had_before object had = elim (cases_lt (length c.journal) had.0) [
    | inl behind ↦ (length c.journal, ap (λ (v : Inv). is_some (version object v)) (front_at (length c.journal) (omega arith) ∙ sym (last_at had.0 (omega (arith, behind)))) ∙ had.1)
    | inr within ↦ (had.0, ap (λ (v : Inv). is_some (version object v)) (front_at had.0 within) ∙ had.1)
  ]

pub had_now : (c : Core) (object : ℕ) → is_some (version object (inventory c)) ≡ true → WasThere c object
had_now c object there = (length c.journal, ap (λ (j : List Entry). is_some (version object (after c.base j))) (take_all (length c.journal) c.journal (omega arith)) ∙ there)

-- ---- tickets bring objects that no database of the run had

is_none_some : (o : Option Version) → o ≡ None → is_some o ≡ true → ⊥
is_none_some None none some = absurd cc
is_none_some (Some w) none some = absurd cc

module _ (c : Core) (object : ℕ) (had : WasThere c object) where
  abbrev BringsOther : Ticket → Type 0
  BringsOther t = stored_by object t ≡ false

  not_stored : (t : Ticket) → (is_storing t.purpose ≡ true → IsDrawn c (object_of t.purpose)) → BringsOther t
  not_stored t drawn = elim (stored_by object t) as (λ b. stored_by object t ≡ b → b ≡ false) [
    | true ↦ λ is.
        let parts = and_parts (is_storing t.purpose) (object_of t.purpose == object) is in
        let same : object_of t.purpose ≡ object = eqb-true (object_of t.purpose) object parts.1 in
        absurd (is_none_some (version object (inv_at had.0 c)) (subst (λ n. version n (inv_at had.0 c) ≡ None) same ((drawn parts.0).2 had.0)) had.1)
    | false ↦ λ is. refl
  ] refl

  none_stored : (tickets : List Ticket) → AllByRecursion BringsOther tickets → find (stored_by object) tickets ≡ None
  none_stored [] all = refl
  none_stored (t ∷ tickets) all = ap (λ b. cond {A = Option Ticket} b (Some t) (find (stored_by object) tickets)) all.0 ∙ none_stored tickets all.1

  drawn_of : (p : Purpose) → IsObject c p → is_storing p ≡ true → IsDrawn c (object_of p)
  drawn_of (storing drawn) is stores = is
  drawn_of (copying copied aim) is stores = absurd cc

  own_other : (actor : ℕ) (tickets : List Ticket) → AllByRecursion (λ t. IsObject c t.purpose) tickets → AllByRecursion BringsOther (own_tickets actor tickets)
  own_other actor [] drawn = tt
  own_other actor (t ∷ tickets) drawn =
      elim (t.actor == actor) as (λ b. AllByRecursion BringsOther (cond {A = List Ticket} b (t ∷ own_tickets actor tickets) (own_tickets actor tickets))) [
        | true ↦ (not_stored t (drawn_of t.purpose drawn.0), own_other actor tickets drawn.1)
        | false ↦ own_other actor tickets drawn.1
      ]

  one_other : (s : Sight) → AllByRecursion BringsOther s.tickets → (o : Option Ticket) (number : ℕ) → ticket number s.tickets ≡ o → AllByRecursion BringsOther (option_map_or (λ (t : Ticket). t ∷ []) o [])
  one_other s all None number is = tt
  one_other s all (Some t) number is = ((each_found BringsOther (λ (x : Ticket). x.number == number) s.tickets t all is).0, tt)

  all_other : (numbers : List ℕ) (s : Sight) → AllByRecursion BringsOther s.tickets → AllByRecursion BringsOther (all_tickets numbers s)
  all_other [] s all = tt
  all_other (number ∷ numbers) s all =
      each_appended BringsOther (option_map_or (λ (t : Ticket). t ∷ []) (ticket number s.tickets) []) (all_tickets numbers s) (one_other s all (ticket number s.tickets) number refl) (all_other numbers s all)

  pub stored_elsewhere : (actor : ℕ) (numbers : List ℕ) (contents : ℕ → List ℕ) → NumbersAreDrawn c → storing_contents (all_tickets numbers (sight actor c)) contents object ≡ contents object
  stored_elsewhere actor numbers contents drawn =
      ap (λ (o : Option Ticket). option_map_or (λ (t : Ticket). t.bytes) o (contents object))
      (none_stored (all_tickets numbers (sight actor c)) (all_other numbers (sight actor c) (own_other actor c.tickets drawn.objects)))

-- ---- steps

module _ (old new : Machine) where
  abbrev Same : Type 0
  Same = new.contents ≡ old.contents

  -- a refused step changed nothing, or what it left says so
  refused_same : {X Y F : Type 0} → (F → Same) → (X × Stays old new) ⊎ (Y × F) → Same
  refused_same fails (inl h) = h.1.contents
  refused_same fails (inr h) = fails h.1

  drops_same : (actor number : ℕ) (e : Refusal) → DropsTicket actor number old e new → Same
  drops_same actor number e h = h.6.contents

  new_same : (places : Places) (actor number size prefer : ℕ) (answer : Result ℕ Refusal) → OpensNew places actor number size prefer old new answer → Same
  new_same places actor number size prefer (Ok x) h = h.2.1.3.contents
  new_same places actor number size prefer (Err e) h = refused_same (λ none. absurd none) h.2

  copy_same : (places : Places) (actor object : ℕ) (a : Aim) (avoid : ℕ) (answer : Result ℕ Refusal) → OpensCopy places actor object a avoid old new answer → Same
  copy_same places actor object a avoid (Ok x) h = h.2.1.3.contents
  copy_same places actor object a avoid (Err e) h = refused_same (λ none. absurd none) h.2

  write_same : (actor number : ℕ) (bytes : List ℕ) (answer : Result ℕ Refusal) → WritesPiece actor number bytes old new answer → Same
  write_same actor number bytes (Ok x) h = h.1.3.contents
  write_same actor number bytes (Err e) h = refused_same (drops_same actor number e) h

  copying_same : (actor number : ℕ) (answer : Result ℕ Refusal) → CopiesPiece actor number old new answer → Same
  copying_same actor number (Ok x) h = h.1.3.1.contents
  copying_same actor number (Err e) h = refused_same (λ fails. ⊎_elim (λ lost. lost.4.contents) (drops_same actor number e) fails) h

  seal_same : (actor number : ℕ) (answer : Result (Unit {0}) Refusal) → Seals actor number old new answer → Same
  seal_same actor number (Ok x) h = h.1.contents
  seal_same actor number (Err e) h = refused_same (drops_same actor number e) h

  drop_same : (actor number : ℕ) (answer : Result (Unit {0}) Refusal) → Drops actor number old new answer → Same
  drop_same actor number (Ok x) h = h.1.contents
  drop_same actor number (Err e) h = refused_same (λ none. absurd none) h

  ask_same : (actor : ℕ) (query : Query) (answer : Result Answer Refusal) → Asks actor query old new answer → Same
  ask_same actor query (Ok x) h = h.1.1.contents
  ask_same actor query (Err e) h = refused_same (λ none. absurd none) h

  checkpoint_same : (actor : ℕ) (answer : Result ImageReply Refusal) → BeginsCheckpoint actor old new answer → Same
  checkpoint_same actor (Ok x) h = h.1.2.contents
  checkpoint_same actor (Err e) h = refused_same (λ fails. fails.7.contents) h

  backup_same : (actor : ℕ) (after : Option ℕ) (held : List Refusal) (answer : Result ImageReply Refusal) → BeginsBackup actor after held old new answer → Same
  backup_same actor after held (Ok x) h = h.1.2.contents
  backup_same actor after held (Err e) h = refused_same (λ fails. ⊎_elim (λ log. log.4.contents) (λ file. file.3.contents) fails) h

  finish_same : (actor : ℕ) (i : Picture) → Finishes actor i old new → Same
  finish_same actor i (inl h) = h.2.contents
  finish_same actor i (inr h) = h.2.contents

  more_same : (actor : ℕ) (told : ImageReply) → GoesOn actor old told new → Same
  more_same actor reply.More h = h.4.contents
  more_same actor (reply.Done seq) h = finish_same actor h.0 h.4
  more_same actor (reply.Begun file seq) h = absurd h

  short_same : (actor : ℕ) (e : Refusal) → StopsShort actor old e new → Same
  short_same actor e h = ⊎_elim (λ file. file.3.contents) (λ others. ⊎_elim (λ full. full.4.contents) (λ log. log.7.contents) others) h.2

  next_same : (actor : ℕ) (answer : Result ImageReply Refusal) → Continues actor old new answer → Same
  next_same actor (Ok told) h = more_same actor told h.1
  next_same actor (Err e) h = refused_same (short_same actor e) h

  image_same : (actor : ℕ) (kind : ImageKind) (answer : Result ImageReply Refusal) → Images actor kind old new answer → Same
  image_same actor image.Checkpoint answer h = checkpoint_same actor answer h
  image_same actor image.Backup answer h = backup_same actor None (image_refused image.Backup (sight actor old.core)) answer h
  image_same actor (image.Since after) answer h = backup_same actor (Some after) (image_refused (image.Since after) (sight actor old.core)) answer h
  image_same actor image.Next answer h = next_same actor answer h

  reuse_same : (actor file : ℕ) (answer : Result ℕ Refusal) → Reuses actor file old new answer → Same
  reuse_same actor file (Ok x) h = h.1.1.contents
  reuse_same actor file (Err e) h = refused_same (λ fails. fails.4.contents) h

  force_same : (actor : ℕ) (answer : Result ℕ Refusal) → Forces actor old new answer → Same
  force_same actor (Ok x) h = h.1.1.contents
  force_same actor (Err e) h = refused_same (λ fails. fails.4.contents) h

  -- a commit stores what its tickets took
  module _ (object : ℕ) (had : WasThere old.core object) (drawn : NumbersAreDrawn old.core) where
    abbrev Stays_at : Type 0
    Stays_at = new.contents object ≡ old.contents object

    joins_stay : (actor : ℕ) (numbers : List ℕ) → new.contents ≡ storing_contents (all_tickets numbers (sight actor old.core)) old.contents → Stays_at
    joins_stay actor numbers is = ap (λ (f : ℕ → List ℕ). f object) is ∙ stored_elsewhere old.core object had actor numbers old.contents drawn

    commit_stays : (actor : ℕ) (asked : Asked) (numbers : List ℕ) (answer : Result ℕ Refusal) → Commits actor asked numbers old new answer → Stays_at
    commit_stays actor asked numbers (Ok x) h = joins_stay actor numbers h.1.3.1
    commit_stays actor asked numbers (Err e) (inl h) = ap (λ (f : ℕ → List ℕ). f object) h.1.contents
    commit_stays actor asked numbers (Err e) (inr h) = joins_stay actor numbers h.1.6.1

    pub bytes_stay : (places : Places) (actor : ℕ) (deed : Deed) → Case places actor deed old new → Stays_at
    bytes_stay places actor (OpenNew number size prefer answer) h = ap (λ (f : ℕ → List ℕ). f object) (new_same places actor number size prefer answer h)
    bytes_stay places actor (OpenCopy it a avoid answer) h = ap (λ (f : ℕ → List ℕ). f object) (copy_same places actor it a avoid answer h)
    bytes_stay places actor (WritePiece number bytes answer) h = ap (λ (f : ℕ → List ℕ). f object) (write_same actor number bytes answer h)
    bytes_stay places actor (CopyPiece number answer) h = ap (λ (f : ℕ → List ℕ). f object) (copying_same actor number answer h)
    bytes_stay places actor (Seal number answer) h = ap (λ (f : ℕ → List ℕ). f object) (seal_same actor number answer h)
    bytes_stay places actor (Commit asked numbers answer) h = commit_stays actor asked numbers answer h
    bytes_stay places actor (DropTicket number answer) h = ap (λ (f : ℕ → List ℕ). f object) (drop_same actor number answer h)
    bytes_stay places actor (ReadPiece it kept from offset wanted answer) h = ap (λ (f : ℕ → List ℕ). f object) (read_contents actor it kept from offset wanted old new answer h)
    bytes_stay places actor (Ask query answer) h = ap (λ (f : ℕ → List ℕ). f object) (ask_same actor query answer h)
    bytes_stay places actor (Image kind answer) h = ap (λ (f : ℕ → List ℕ). f object) (image_same actor kind answer h)
    bytes_stay places actor (Reuse file answer) h = ap (λ (f : ℕ → List ℕ). f object) (reuse_same actor file answer h)
    bytes_stay places actor (Force answer) h = ap (λ (f : ℕ → List ℕ). f object) (force_same actor answer h)
