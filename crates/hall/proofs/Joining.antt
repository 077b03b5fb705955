-- A transaction that may join: what the step's refusals rule out, and where what it brings comes from.
use Rattle.std.proofs.Common.{◌≡◌, ◌⊎◌, ℕ, ◌+◌, ◌<◌, ◌≤◌, ◌^◌, suc, zero, true, List, [], ◌∷◌, ◌++◌, length, take, drop, None, is_some, refl, ap, ◌∙◌, arith}
use Rattle.std.specs.Prelude.{IfSome}
use Rattle.std.specs.List.{AllByRecursion, Contains}
use Rattle.std.proofs.lemmas.List.{drop-append-le, length-append, take-append-le, take_all}
use Rattle.sha2.specs.Sha256.{sha256}
use Rattle.kinds.specs.declared.segment.Segment.{Segment}
use Rattle.entries.specs.EntryForm.{entry as entry_form}
use Rattle.entries.specs.declared.change.Change.{Change}
use Rattle.entries.specs.declared.entry.Entry.{Entry}
use Rattle.inventory.proofs.Nothing.{IsFree, is_free}
use Rattle.inventory_rows.specs.Search.{version}
use Rattle.inventory_rows.specs.State.{Inv}
use Rattle.inventory_rules.specs.Run.{journal_of}
use Rattle.inventory_rules.specs.Transactions.{effect, refused}
use Rattle.inventory_rules.specs.Valid.{is_valid}
use Rattle.inventory_rules.specs.Versions.{name_once}
use Rattle.inventory_laws.specs.Origins.{Known, new_objects, placed_segments}
use Rattle.machine.specs.Changes.{all_tickets}
use Rattle.machine.specs.Machine.{committed, durable, file_drawn}
use Rattle.machine.specs.State.{Core, Ticket, after, inventory, is_among, is_storing, object_of, own_tickets, sight, ticket, unforced}
use Rattle.hall.specs.Covered.{databases, inv_at, left_open}
use Rattle.hall.specs.Good.{IsLawful}
use Rattle.hall.proofs.Databases.{last_left, left_lawful}
use Rattle.hall.proofs.DrawnNext.{DrawsBelow, KeepsBackup}
use Rattle.hall.proofs.PoolsStay.{KeepsPool}
use Rattle.hall.proofs.Runs.{after_end, databases_end}
use Rattle.hall.proofs.VolumesStay.{BringsVolume, KeepsVolume}

-- the tickets that are spent
abbrev pub spent : (actor : ℕ) → List ℕ → Core → List Ticket
spent actor numbers c = all_tickets numbers (sight actor c)

-- a new object is a ticket's: its number, its bytes, and their digest
pub record IsStored (t : Ticket) (o : Known) : Type 0 where
  pub is_new : is_storing t.purpose ≡ true
  pub object : object_of t.purpose ≡ o.object
  pub size : t.size ≡ o.size
  pub digest : o.digest.0 ≡ sha256 t.bytes

-- a copy that is placed is a ticket's, of a new object or of one that is kept
pub record IsPlacedBy (c : Core) (t : Ticket) (e : ℕ × List Segment) : Type 0 where
  pub object : object_of t.purpose ≡ e.0
  pub segments : t.place.segments ≡ e.1
  pub kept : (is_storing t.purpose ≡ true) ⊎ (is_some (version e.0 (inventory c)) ≡ true)

-- one of the spent tickets, which is sealed
pub record Spent (actor : ℕ) (numbers : List ℕ) (c : Core) (t : Ticket) : Type 0 where
  pub one : Contains (spent actor numbers c) t
  pub there : Contains c.tickets t
  pub among : is_among actor numbers t ≡ true
  pub is_sealed : t.is_sealed ≡ true

-- the file of a volume that comes is one that is drawn next, or a spent ticket's in its pool
abbrev pub IsDrawnFile : (actor : ℕ) → List ℕ → Core → (file pool : ℕ) → Type 0
IsDrawnFile actor numbers c file pool = (c.next_file ≤ file) ⊎ ((t : Ticket) × Spent actor numbers c t × (s : Segment) × Contains t.place.segments s × (s.file ≡ file) × (t.place.pool ≡ pool))

pub record Joins (actor : ℕ) (x : Change) (numbers : List ℕ) (c : Core) : Type 0 where
  pub legal : refused (journal_of c.base c.journal) x (inventory c) ≡ None
  pub once : name_once numbers ≡ true
  pub there : AllByRecursion (λ k. is_some (ticket k (own_tickets actor c.tickets)) ≡ true) numbers
  pub spends : AllByRecursion (Spent actor numbers c) (spent actor numbers c)
  pub objects : AllByRecursion (λ o. (t : Ticket) × Spent actor numbers c t × IsStored t o) (new_objects x)
  pub places : AllByRecursion (λ e. (t : Ticket) × Spent actor numbers c t × IsPlacedBy c t e) (placed_segments x)
  pub pools : AllByRecursion (λ t. KeepsPool t.place.pool x (inventory c)) c.tickets
  pub volumes : AllByRecursion (λ t. AllByRecursion (λ s. KeepsVolume s.file x (inventory c) × KeepsBackup s.file x) t.place.segments) c.tickets
  pub image : IfSome c.image (λ i. KeepsBackup i.file x)
  pub files : (file pool : ℕ) → BringsVolume file pool x → IsDrawnFile actor numbers c file pool
  pub draws : DrawsBelow (file_drawn x c.next_file) c.next_object x
  pub bound : file_drawn x c.next_file < 2 ^ 32
  pub further : c.next_file ≤ file_drawn x c.next_file
  pub short : length (entry_form.spell (record { actor = actor; change = x })) ≤ 2 ^ 24

module _ (actor : ℕ) (x : Change) (numbers : List ℕ) (c : Core) where
  -- the database behind it, and the state
  abbrev pub behind : Inv
  behind = effect x (inventory c)

  abbrev pub last : Core
  last = committed actor x numbers c

  abbrev pub entry_of : Entry
  entry_of = record { actor = actor; change = x }

  -- ---- the run

  pub inventory_last : inventory last ≡ behind
  inventory_last = after_end c.base c.journal entry_of

  pub long : length last.journal ≡ length c.journal + 1
  long = length-append c.journal (entry_of ∷ [])

  pub inv_before : (k : ℕ) → k ≤ length c.journal → inv_at k last ≡ inv_at k c
  inv_before k le = ap (after c.base) (take-append-le k c.journal (entry_of ∷ []) le)

  pub inv_behind : (k : ℕ) → length c.journal < k → inv_at k last ≡ behind
  inv_behind k lt = ap (after c.base) (take_all k last.journal (omega (arith, lt, long))) ∙ inventory_last

  module _ (few : length c.stamps ≤ length c.journal) where
    pub durable_last : durable last ≡ durable c
    durable_last = inv_before (length c.stamps) few

    pub unforced_last : unforced last ≡ unforced c ++ (entry_of ∷ [])
    unforced_last = drop-append-le (length c.stamps) c.journal (entry_of ∷ []) few

    pub left_last : left_open last ≡ left_open c ++ (behind ∷ [])
    left_last =
        ap (λ (v : Inv). databases v (unforced last)) durable_last
        ∙ ap (databases (durable c)) unforced_last
        ∙ databases_end (durable c) (unforced c) entry_of
        ∙ ap (λ (v : Inv). left_open c ++ (effect x v ∷ [])) (parts (length c.stamps) c.base c.journal)
      where
        parts : (n : ℕ) (v : Inv) (es : List Entry) → after (after v (take n es)) (drop n es) ≡ after v es
        parts zero v es = refl
        parts (suc n) v [] = refl
        parts (suc n) v (e ∷ es) = parts n (effect e.change v) es

  -- ---- the database as it is

  pub free_of : IsLawful c → Joins actor x numbers c → IsFree (journal_of c.base c.journal) x (inventory c)
  free_of l j = is_free (journal_of c.base c.journal) x (inventory c) j.legal

  pub whole_at : inv_at (length c.journal) c ≡ inventory c
  whole_at = ap (after c.base) (take_all (length c.journal) c.journal (omega arith))

-- behind the last transaction there is the database as it is
pub all_of_it : (c : Core) (k : ℕ) → length c.journal ≤ k → inv_at k c ≡ inventory c
all_of_it c k le = ap (after c.base) (take_all k c.journal le)

pub valid_now : (c : Core) → IsLawful c → is_valid (inventory c) ≡ true
valid_now c l = last_left (λ v. is_valid v ≡ true) c (left_lawful c l)
