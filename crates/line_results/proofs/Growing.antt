-- Transactions that were made stay: each step leaves those that were there, in front of those that it makes. Where it begins or ends no image, what it makes is legal where it joins.
use Rattle.std.proofs.Common.{◌≡◌, ◌⊎◌, inl, inr, ℕ, ◌+◌, ◌≤◌, List, [], ◌∷◌, ◌++◌, length, Option, Some, None, Result, Ok, Err, refl, sym, ap, subst, ◌∙◌, append_assoc, arith}
use Rattle.std.proofs.lemmas.List.{append-nil}
use Rattle.kinds.specs.Refusals.{foremost}
use Rattle.kinds.specs.declared.refusal.Refusal.{Refusal}
use Rattle.kinds.specs.declared.segment.Digest.{Digest}
use Rattle.entries.specs.declared.change.Change.{Change}
use Rattle.entries.specs.declared.change.Change.TheVariants as change
use Rattle.entries.specs.declared.entry.Entry.{Entry}
use Rattle.inventory_answers.specs.declared.query.Query.{Query}
use Rattle.inventory_answers.specs.declared.reply.Answer.{Answer}
use Rattle.inventory_rules.specs.Transactions.{effect, refused}
use Rattle.inventory_rows.specs.State.{Inv}
use Rattle.space.specs.declared.aim.Aim.{Aim}
use Rattle.steps.specs.declared.asked.Asked.{Asked}
use Rattle.steps.specs.declared.image.ImageKind.{ImageKind}
use Rattle.steps.specs.declared.image.ImageKind.TheVariants as image
use Rattle.steps.specs.declared.image.ImageReply.{ImageReply}
use Rattle.steps.specs.declared.image.ImageReply.TheVariants as reply
use Rattle.steps.specs.Events.{Deed}
use Rattle.steps.specs.Events.Deed.{Ask, Commit, CopyPiece, DropTicket, Force, Image, OpenCopy, OpenNew, ReadPiece, Reuse, Seal, WritePiece}
use Rattle.machine.specs.Causes.{commit_refused, listed, reuse_refused}
use Rattle.machine.specs.Machine.{Asks, Becomes, BeginsBackup, BeginsCheckpoint, Case, Commits, Continues, CopiesPiece, Drops, DropsTicket, Forces, GoesOn, Images, OpensCopy, OpensNew, Places, Reads, Reuses, Seals, Stays, StopsShort, WritesPiece, asked_change, begun_change, ended, stamped}
use Rattle.machine.specs.State.{Core, Machine, after, inventory, sight}
use Rattle.machine.proofs.Elsewhere.{append-none, none-held}
use Rattle.machine.proofs.Histories.{after-append, after-number}
use Rattle.machine.proofs.Legality.{commit-legal}

-- ---- the journal

-- these transactions came behind those that were there
abbrev pub Grows : Core → Core → Type 0
Grows c d = (more : List Entry) × (d.base ≡ c.base) × (d.journal ≡ c.journal ++ more)

pub grows-then : (a b c : Core) → Grows a b → Grows b c → Grows a c
grows-then a b c (more, base, journal) (others, on, further) = (
  more ++ others,
  on ∙ base,
  further ∙ ap (λ (l : List Entry). l ++ others) journal ∙ append_assoc a.journal more others,
)

pub grows-none : (c d : Core) → d.base ≡ c.base → d.journal ≡ c.journal → Grows c d
grows-none c d base journal = ([], base, journal ∙ sym (append-nil c.journal))

becomes : (left : Core) (old new : Machine) → Becomes left old new → Grows old.core left → Grows old.core new.core
becomes left old new h g = subst (λ (c : Core). Grows old.core c) (sym h.core) g

same : (left : Core) (old new : Machine) → Becomes left old new → left.base ≡ old.core.base → left.journal ≡ old.core.journal → Grows old.core new.core
same left old new h base journal = becomes left old new h (grows-none old.core left base journal)

stays : (old new : Machine) → Stays old new → Grows old.core new.core
stays old new h = subst (λ (c : Core). Grows old.core c) (sym h.core) (grows-none old.core old.core refl refl)

drops-ticket : (number : ℕ) (old new : Machine) (e : Refusal) → DropsTicket 0 number old e new → Grows old.core new.core
drops-ticket number old new e h = same _ old new h.6 refl refl

opens-new : (places : Places) (number size prefer : ℕ) (old new : Machine) (answer : Result ℕ Refusal) → OpensNew places 0 number size prefer old new answer → Grows old.core new.core
opens-new places number size prefer old new (Ok it) h = same _ old new h.2.1.3 refl refl
opens-new places number size prefer old new (Err e) h = elim h.2 [
  | inl s ↦ stays old new s.1
  | inr f ↦ absurd f.1
]

opens-copy : (places : Places) (object : ℕ) (a : Aim) (avoid : ℕ) (old new : Machine) (answer : Result ℕ Refusal) → OpensCopy places 0 object a avoid old new answer → Grows old.core new.core
opens-copy places object a avoid old new (Ok it) h = same _ old new h.2.1.3 refl refl
opens-copy places object a avoid old new (Err e) h = elim h.2 [
  | inl s ↦ stays old new s.1
  | inr f ↦ absurd f.1
]

writes : (number : ℕ) (bytes : List ℕ) (old new : Machine) (answer : Result ℕ Refusal) → WritesPiece 0 number bytes old new answer → Grows old.core new.core
writes number bytes old new (Ok it) h = same _ old new h.1.3 refl refl
writes number bytes old new (Err e) h = elim h [
  | inl s ↦ stays old new s.1
  | inr f ↦ drops-ticket number old new e f.1
]

copies : (number : ℕ) (old new : Machine) (answer : Result ℕ Refusal) → CopiesPiece 0 number old new answer → Grows old.core new.core
copies number old new (Ok it) h = same _ old new h.1.3.1 refl refl
copies number old new (Err e) h = elim h [
  | inl s ↦ stays old new s.1
  | inr f ↦ elim f.1 [
    | inl t ↦ stays old new t.4
    | inr t ↦ drops-ticket number old new e t
  ]
]

seals : (number : ℕ) (old new : Machine) (answer : Result (Unit {0}) Refusal) → Seals 0 number old new answer → Grows old.core new.core
seals number old new (Ok it) h = same _ old new h.1 refl refl
seals number old new (Err e) h = elim h [
  | inl s ↦ stays old new s.1
  | inr f ↦ drops-ticket number old new e f.1
]

commits : (asked : Asked) (numbers : List ℕ) (old new : Machine) (answer : Result ℕ Refusal) → Commits 0 asked numbers old new answer → Grows old.core new.core
commits asked numbers old new (Ok it) h = subst (λ (c : Core). Grows old.core c) (sym h.1.3.0) (record { actor = 0; change = h.1.0 } ∷ [], refl, refl)
commits asked numbers old new (Err e) h = elim h [
  | inl s ↦ stays old new s.1
  | inr f ↦ subst (λ (c : Core). Grows old.core c) (sym f.1.6.0) (record { actor = 0; change = f.1.0 } ∷ [], refl, refl)
]

drops : (number : ℕ) (old new : Machine) (answer : Result (Unit {0}) Refusal) → Drops 0 number old new answer → Grows old.core new.core
drops number old new (Ok it) h = same _ old new h.1 refl refl
drops number old new (Err e) h = elim h [
  | inl s ↦ stays old new s.1
  | inr f ↦ absurd f.1
]

reads : (object : ℕ) (kept : Digest) (from offset wanted : ℕ) (old new : Machine) (answer : Result (List ℕ) Refusal) → Reads 0 object kept from offset wanted old new answer → Grows old.core new.core
reads object kept from offset wanted old new (Ok it) h = stays old new h.1.2
reads object kept from offset wanted old new (Err e) h = elim h [
  | inl s ↦ stays old new s.1
  | inr f ↦ stays old new f.1.2
]

asks : (query : Query) (old new : Machine) (answer : Result Answer Refusal) → Asks 0 query old new answer → Grows old.core new.core
asks query old new (Ok it) h = stays old new h.1.1
asks query old new (Err e) h = elim h [
  | inl s ↦ stays old new s.1
  | inr f ↦ absurd f.1
]

or-same : (core left : Core) (old new : Machine) → Becomes left old new → left.base ≡ core.base → left.journal ≡ core.journal → Grows old.core core → Grows old.core new.core
or-same core left old new h base journal g = becomes left old new h (grows-then old.core core left g (grows-none core left base journal))

stamped-or : (moment : ℕ) (core : Core) (old : Machine) → (core ≡ old.core) ⊎ (core ≡ stamped moment old.core) → Grows old.core core
stamped-or moment core old (inl s) = grows-none old.core core (ap (λ (c : Core). c.base) s) (ap (λ (c : Core). c.journal) s)
stamped-or moment core old (inr s) = grows-none old.core core (ap (λ (c : Core). c.base) s) (ap (λ (c : Core). c.journal) s)

begins-checkpoint : (old new : Machine) (answer : Result ImageReply Refusal) → BeginsCheckpoint 0 old new answer → Grows old.core new.core
begins-checkpoint old new (Ok told) h = same _ old new h.1.2 refl refl
begins-checkpoint old new (Err e) h = elim h [
  | inl s ↦ stays old new s.1
  | inr f ↦ (let d = f.1 in or-same d.3 _ old new d.7 refl refl (stamped-or d.2 d.3 old d.6))
]

begins-backup : (after : Option ℕ) (held : List Refusal) (old new : Machine) (answer : Result ImageReply Refusal) → BeginsBackup 0 after held old new answer → Grows old.core new.core
begins-backup after held old new (Ok told) h = becomes _ old new h.1.2 (record { actor = 0; change = begun_change after old.core } ∷ [], refl, refl)
begins-backup after held old new (Err e) h = elim h [
  | inl s ↦ stays old new s.1
  | inr f ↦ elim f.1 [
    | inl d ↦ becomes _ old new d.4 (record { actor = 0; change = begun_change after old.core } ∷ [], refl, refl)
    | inr d ↦ becomes _ old new d.3 (record { actor = 0; change = begun_change after old.core } ∷ [], refl, refl)
  ]
]

goes-on : (old new : Machine) (told : ImageReply) → GoesOn 0 old told new → Grows old.core new.core
goes-on old new (reply.Begun file seq) h = absurd h
goes-on old new reply.More h = same _ old new h.4 refl refl
goes-on old new (reply.Done seq) h = elim h.4 [
  | inl f ↦ same _ old new f.2 refl refl
  | inr f ↦ becomes _ old new f.2 (record { actor = 0; change = change.DbEnd h.0.file } ∷ [], refl, refl)
]

stops-short : (e : Refusal) (old new : Machine) → StopsShort 0 old e new → Grows old.core new.core
stops-short e old new h = elim h.2 [
  | inl d ↦ same _ old new d.3 refl refl
  | inr rest ↦ elim rest [
    | inl d ↦ same _ old new d.4 refl refl
    | inr d ↦ elim d.6 [
      | inl s ↦ or-same d.3 _ old new d.7 refl refl (stamped-or d.2 d.3 old (inl s))
      | inr more ↦ elim more [
        | inl s ↦ or-same d.3 _ old new d.7 refl refl (stamped-or d.2 d.3 old (inr s))
        | inr s ↦ or-same d.3 _ old new d.7 refl refl (subst (λ (c : Core). Grows old.core c) (sym s.1) (record { actor = 0; change = change.DbEnd h.0.file } ∷ [], refl, refl))
      ]
    ]
  ]
]

continues : (old new : Machine) (answer : Result ImageReply Refusal) → Continues 0 old new answer → Grows old.core new.core
continues old new (Ok told) h = goes-on old new told h.1
continues old new (Err e) h = elim h [
  | inl s ↦ stays old new s.1
  | inr f ↦ stops-short e old new f.1
]

images : (kind : ImageKind) (old new : Machine) (answer : Result ImageReply Refusal) → Images 0 kind old new answer → Grows old.core new.core
images image.Checkpoint old new answer h = begins-checkpoint old new answer h
images image.Backup old new answer h = begins-backup None _ old new answer h
images (image.Since after) old new answer h = begins-backup (Some after) _ old new answer h
images image.Next old new answer h = continues old new answer h

reuses : (file : ℕ) (old new : Machine) (answer : Result ℕ Refusal) → Reuses 0 file old new answer → Grows old.core new.core
reuses file old new (Ok number) h = becomes _ old new h.1.1 (record { actor = 0; change = change.Reuse file } ∷ [], refl, refl)
reuses file old new (Err e) h = elim h [
  | inl s ↦ stays old new s.1
  | inr f ↦ becomes _ old new f.1.4 (record { actor = 0; change = change.Reuse file } ∷ [], refl, refl)
]

forces : (old new : Machine) (answer : Result ℕ Refusal) → Forces 0 old new answer → Grows old.core new.core
forces old new (Ok number) h = same _ old new h.1.1 refl refl
forces old new (Err e) h = elim h [
  | inl s ↦ stays old new s.1
  | inr f ↦ same _ old new f.1.4 refl refl
]

-- every step leaves them
pub step-grows : (places : Places) (deed : Deed) (old new : Machine) → Case places 0 deed old new → Grows old.core new.core
step-grows places (OpenNew number size prefer answer) old new h = opens-new places number size prefer old new answer h
step-grows places (OpenCopy object a avoid answer) old new h = opens-copy places object a avoid old new answer h
step-grows places (WritePiece number bytes answer) old new h = writes number bytes old new answer h
step-grows places (CopyPiece number answer) old new h = copies number old new answer h
step-grows places (Seal number answer) old new h = seals number old new answer h
step-grows places (Commit asked numbers answer) old new h = commits asked numbers old new answer h
step-grows places (DropTicket number answer) old new h = drops number old new answer h
step-grows places (ReadPiece object kept from offset wanted answer) old new h = reads object kept from offset wanted old new answer h
step-grows places (Ask query answer) old new h = asks query old new answer h
step-grows places (Image kind answer) old new h = images kind old new answer h
step-grows places (Reuse file answer) old new h = reuses file old new answer h
step-grows places (Force answer) old new h = forces old new answer h

-- so the number of the last one doesn't fall
pub grown-number : (c d : Core) → Grows c d → (inventory c).number ≤ (inventory d).number
grown-number c d (more, base, journal) =
    let is : inventory d ≡ after (inventory c) more = ap (λ (v : Inv). after v d.journal) base ∙ ap (λ (l : List Entry). after c.base l) journal ∙ after-append c.base c.journal more in
    let number : (inventory d).number ≡ (after (inventory c) more).number = ap (λ (v : Inv). v.number) is in
    let more_than : (after (inventory c) more).number ≡ (inventory c).number + length more = after-number (inventory c) more in
    omega (arith, number, more_than)

-- ---- what joins

-- the database is as it was, or such a transaction was made, which is legal there
abbrev pub Goes : (P : Change → Type 0) → Core → Core → Type 0
Goes P c d = (inventory d ≡ inventory c) ⊎ ((w : Change) × P w × (refused (sight 0 c).journal w (inventory c) ≡ None) × (inventory d ≡ effect w (inventory c)))

-- of each change that joins by it P holds; and it begins no image, and goes on with none
abbrev pub Makes : (P : Change → Type 0) → Deed → Type 0
Makes P (Commit asked numbers answer) = (c : Change) (core : Core) → asked_change 0 asked numbers core ≡ Some c → P c
Makes P (Reuse file answer) = P (change.Reuse file)
Makes P (Image kind answer) = ⊥
Makes P deed = Unit {0}

-- where none joined the database is as it was
quiet : (P : Change → Type 0) (c d : Core) → d.base ≡ c.base → d.journal ≡ c.journal → Goes P c d
quiet P c d base journal = inl (ap (λ (v : Inv). after v d.journal) base ∙ ap (λ (l : List Entry). after c.base l) journal)

becomes-quiet : (P : Change → Type 0) (left : Core) (old new : Machine) → Becomes left old new → left.base ≡ old.core.base → left.journal ≡ old.core.journal → Goes P old.core new.core
becomes-quiet P left old new h base journal = subst (λ (c : Core). Goes P old.core c) (sym h.core) (quiet P old.core left base journal)

stays-quiet : (P : Change → Type 0) (old new : Machine) → Stays old new → Goes P old.core new.core
stays-quiet P old new h = inl (ap inventory h.core)

drops-quiet : (P : Change → Type 0) (number : ℕ) (old new : Machine) (e : Refusal) → DropsTicket 0 number old e new → Goes P old.core new.core
drops-quiet P number old new e h = becomes-quiet P _ old new h.6 refl refl

-- one more was made
joined-goes : (P : Change → Type 0) (w : Change) (c d : Core) → P w → refused (sight 0 c).journal w (inventory c) ≡ None → d.base ≡ c.base → d.journal ≡ c.journal ++ record { actor = 0; change = w } ∷ [] → Goes P c d
joined-goes P w c d so legal base journal =
    inr (w, so, legal, ap (λ (v : Inv). after v d.journal) base ∙ ap (λ (l : List Entry). after c.base l) journal ∙ after-append c.base c.journal (record { actor = 0; change = w } ∷ []))

none-first : (first own : List Refusal) → foremost (first ++ own) ≡ None → foremost own ≡ None
none-first first own h = ap foremost (append-none first own (none-held (first ++ own) h)).1

-- a commit that wasn't refused is legal
legal-commit : (asked : Asked) (numbers : List ℕ) (others : List Refusal) (m : Machine) (w : Change) → asked_change 0 asked numbers m.core ≡ Some w
    → foremost (ended m ++ (commit_refused 0 asked numbers (sight 0 m.core) ++ others)) ≡ None → refused (sight 0 m.core).journal w (inventory m.core) ≡ None
legal-commit asked numbers others m w is none =
    let own : List Refusal = commit_refused 0 asked numbers (sight 0 m.core) in
    let both = append-none own others (none-held (own ++ others) (none-first (ended m) (own ++ others) none)) in
    commit-legal 0 asked numbers (sight 0 m.core) w is (ap foremost both.0)

-- one that was answered was made
pub commit-made : (P : Change → Type 0) (asked : Asked) (numbers : List ℕ) (old new : Machine) (number : ℕ) → ((c : Change) (core : Core) → asked_change 0 asked numbers core ≡ Some c → P c) → Commits 0 asked numbers old new (Ok number)
    → (w : Change) × P w × (refused (sight 0 old.core).journal w (inventory old.core) ≡ None) × (inventory new.core ≡ effect w (inventory old.core))
commit-made P asked numbers old new number so h = (
  h.1.0,
  so h.1.0 old.core h.1.1,
  legal-commit asked numbers _ old h.1.0 h.1.1 h.0,
  ap (λ (v : Inv). after v new.core.journal) (ap (λ (c : Core). c.base) h.1.3.0) ∙ ap (λ (l : List Entry). after old.core.base l) (ap (λ (c : Core). c.journal) h.1.3.0)
      ∙ after-append old.core.base old.core.journal (record { actor = 0; change = h.1.0 } ∷ []),
)

commit-goes : (P : Change → Type 0) (asked : Asked) (numbers : List ℕ) (old new : Machine) (answer : Result ℕ Refusal) → ((c : Change) (core : Core) → asked_change 0 asked numbers core ≡ Some c → P c)
    → Commits 0 asked numbers old new answer → Goes P old.core new.core
commit-goes P asked numbers old new (Ok it) so h =
    joined-goes P h.1.0 old.core new.core (so h.1.0 old.core h.1.1) (legal-commit asked numbers _ old h.1.0 h.1.1 h.0) (ap (λ (c : Core). c.base) h.1.3.0) (ap (λ (c : Core). c.journal) h.1.3.0)
commit-goes P asked numbers old new (Err e) so h = elim h [
  | inl s ↦ stays-quiet P old new s.1
  | inr f ↦ joined-goes P f.1.0 old.core new.core (so f.1.0 old.core f.1.3) (legal-commit asked numbers _ old f.1.0 f.1.3 f.0) (ap (λ (c : Core). c.base) f.1.6.0) (ap (λ (c : Core). c.journal) f.1.6.0)
]

pub listed-none : {A : Type 0} (o : Option A) → listed o ≡ [] → o ≡ None
listed-none None h = refl
listed-none (Some x) h = absurd cc

legal-reuse : (file : ℕ) (others : List Refusal) (m : Machine) → foremost (ended m ++ (reuse_refused file (sight 0 m.core) ++ others)) ≡ None
    → refused (sight 0 m.core).journal (change.Reuse file) (inventory m.core) ≡ None
legal-reuse file others m none =
    let own : List Refusal = reuse_refused file (sight 0 m.core) in
    listed-none (refused (sight 0 m.core).journal (change.Reuse file) (inventory m.core))
    (append-none own others (none-held (own ++ others) (none-first (ended m) (own ++ others) none))).0

reuse-goes : (P : Change → Type 0) (file : ℕ) (old new : Machine) (answer : Result ℕ Refusal) → P (change.Reuse file) → Reuses 0 file old new answer → Goes P old.core new.core
reuse-goes P file old new (Ok number) so h =
    joined-goes P (change.Reuse file) old.core new.core so (legal-reuse file _ old h.0) (ap (λ (c : Core). c.base) h.1.1.core) (ap (λ (c : Core). c.journal) h.1.1.core)
reuse-goes P file old new (Err e) so h = elim h [
  | inl s ↦ stays-quiet P old new s.1
  | inr f ↦ joined-goes P (change.Reuse file) old.core new.core so (legal-reuse file _ old f.0) (ap (λ (c : Core). c.base) f.1.4.core) (ap (λ (c : Core). c.journal) f.1.4.core)
]

-- every such step goes so
pub step-goes : (P : Change → Type 0) (places : Places) (deed : Deed) (old new : Machine) → Makes P deed → Case places 0 deed old new → Goes P old.core new.core
step-goes P places (OpenNew number size prefer (Ok it)) old new so h = becomes-quiet P _ old new h.2.1.3 refl refl
step-goes P places (OpenNew number size prefer (Err e)) old new so h = elim h.2 [
  | inl s ↦ stays-quiet P old new s.1
  | inr f ↦ absurd f.1
]
step-goes P places (OpenCopy object a avoid (Ok it)) old new so h = becomes-quiet P _ old new h.2.1.3 refl refl
step-goes P places (OpenCopy object a avoid (Err e)) old new so h = elim h.2 [
  | inl s ↦ stays-quiet P old new s.1
  | inr f ↦ absurd f.1
]
step-goes P places (WritePiece number bytes (Ok it)) old new so h = becomes-quiet P _ old new h.1.3 refl refl
step-goes P places (WritePiece number bytes (Err e)) old new so h = elim h [
  | inl s ↦ stays-quiet P old new s.1
  | inr f ↦ drops-quiet P number old new e f.1
]
step-goes P places (CopyPiece number (Ok it)) old new so h = becomes-quiet P _ old new h.1.3.1 refl refl
step-goes P places (CopyPiece number (Err e)) old new so h = elim h [
  | inl s ↦ stays-quiet P old new s.1
  | inr f ↦ elim f.1 [
    | inl t ↦ stays-quiet P old new t.4
    | inr t ↦ drops-quiet P number old new e t
  ]
]
step-goes P places (Seal number (Ok it)) old new so h = becomes-quiet P _ old new h.1 refl refl
step-goes P places (Seal number (Err e)) old new so h = elim h [
  | inl s ↦ stays-quiet P old new s.1
  | inr f ↦ drops-quiet P number old new e f.1
]
step-goes P places (Commit asked numbers answer) old new so h = commit-goes P asked numbers old new answer so h
step-goes P places (DropTicket number (Ok it)) old new so h = becomes-quiet P _ old new h.1 refl refl
step-goes P places (DropTicket number (Err e)) old new so h = elim h [
  | inl s ↦ stays-quiet P old new s.1
  | inr f ↦ absurd f.1
]
step-goes P places (ReadPiece object kept from offset wanted (Ok it)) old new so h = stays-quiet P old new h.1.2
step-goes P places (ReadPiece object kept from offset wanted (Err e)) old new so h = elim h [
  | inl s ↦ stays-quiet P old new s.1
  | inr f ↦ stays-quiet P old new f.1.2
]
step-goes P places (Ask query (Ok it)) old new so h = stays-quiet P old new h.1.1
step-goes P places (Ask query (Err e)) old new so h = elim h [
  | inl s ↦ stays-quiet P old new s.1
  | inr f ↦ absurd f.1
]
step-goes P places (Image kind answer) old new so h = absurd so
step-goes P places (Reuse file answer) old new so h = reuse-goes P file old new answer so h
step-goes P places (Force (Ok number)) old new so h = becomes-quiet P _ old new h.1.1 refl refl
step-goes P places (Force (Err e)) old new so h = elim h [
  | inl s ↦ stays-quiet P old new s.1
  | inr f ↦ becomes-quiet P _ old new f.1.4 refl refl
]
