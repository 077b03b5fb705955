-- No step takes a stamp away: those that are there stay, in front of those that are added.
use Rattle.std.proofs.Common.{◌≡◌, ◌⊎◌, inl, inr, ℕ, List, [], ◌∷◌, ◌++◌, length, Option, Some, None, Result, Ok, Err, refl, sym, ap, ◌∙◌, append_assoc}
use Rattle.std.proofs.lemmas.List.{append-nil}
use Rattle.std.specs.Prelude.{replicate}
use Rattle.kinds.specs.declared.refusal.Refusal.{Refusal}
use Rattle.kinds.specs.declared.segment.Digest.{Digest}
use Rattle.steps.specs.entries.declared.change.Change.TheVariants as change
use Rattle.steps.specs.inventory_answers.declared.query.Query.{Query}
use Rattle.steps.specs.inventory_answers.declared.reply.Answer.{Answer}
use Rattle.steps.specs.space.declared.aim.Aim.{Aim}
use Rattle.steps.specs.declared.asked.Asked.{Asked}
use Rattle.steps.specs.declared.image.ImageKind.{ImageKind}
use Rattle.steps.specs.declared.image.ImageKind.TheVariants as image
use Rattle.steps.specs.declared.image.ImageReply.{ImageReply}
use Rattle.steps.specs.declared.image.ImageReply.TheVariants as reply
use Rattle.steps.specs.Events.{Deed, Event}
use Rattle.steps.specs.Events.Deed.{Ask, Commit, CopyPiece, DropTicket, Force, Image, OpenCopy, OpenNew, ReadPiece, Reuse, Seal, WritePiece}
use Rattle.machine.specs.Alone.{Alone, Moves, behind, with_contents}
use Rattle.machine.specs.Machine.{Asks, Becomes, BeginsBackup, BeginsCheckpoint, Case, Commits, Continues, CopiesPiece, Drops, DropsTicket, Forces, GoesOn, Images, OpensCopy, OpensNew, Places, Reads, Reuses, Seals, Stays, StopsShort, WritesPiece, begun, made, stamped}
use Rattle.machine.specs.Stamps.{KeepsStamps}
use Rattle.machine.specs.State.{Core, Machine, unforced}

same : (old new : Core) → new.stamps ≡ old.stamps → KeepsStamps old new
same old new is = ([], is ∙ sym (append-nil old.stamps))

becomes : (left : Core) (old new : Machine) → Becomes left old new → left.stamps ≡ old.core.stamps → KeepsStamps old.core new.core
becomes left old new h is = same old.core new.core (ap (λ (c : Core). c.stamps) h.core ∙ is)

stays : (old new : Machine) → Stays old new → KeepsStamps old.core new.core
stays old new h = same old.core new.core (ap (λ (c : Core). c.stamps) h.core)

-- a core in which all transactions have stamps
stamped-by : (moment : ℕ) (c left : Core) (old new : Machine) → Becomes left old new → left.stamps ≡ c.stamps ++ replicate (length (unforced c)) moment → c.stamps ≡ old.core.stamps → KeepsStamps old.core new.core
stamped-by moment c left old new h is from =
    (replicate (length (unforced c)) moment, ap (λ (x : Core). x.stamps) h.core ∙ is ∙ ap (λ (l : List ℕ). l ++ replicate (length (unforced c)) moment) from)

-- the same, whether or not the stamps came
or-stamped : (moment : ℕ) (core left : Core) (old new : Machine) → Becomes left old new → left.stamps ≡ core.stamps → (core ≡ old.core) ⊎ (core ≡ stamped moment old.core) → KeepsStamps old.core new.core
or-stamped moment core left old new h is (inl s) = becomes left old new h (is ∙ ap (λ (c : Core). c.stamps) s)
or-stamped moment core left old new h is (inr s) = stamped-by moment old.core left old new h (is ∙ ap (λ (c : Core). c.stamps) s) refl

drops-ticket : (actor number : ℕ) (old new : Machine) (e : Refusal) → DropsTicket actor number old e new → KeepsStamps old.core new.core
drops-ticket actor number old new e h = becomes _ old new h.6 refl

opens-new : (places : Places) (actor number size prefer : ℕ) (old new : Machine) (answer : Result ℕ Refusal) → OpensNew places actor number size prefer old new answer → KeepsStamps old.core new.core
opens-new places actor number size prefer old new (Ok it) h = becomes _ old new h.2.1.3 refl
opens-new places actor number size prefer old new (Err e) h = elim h.2 [
  | inl s ↦ stays old new s.1
  | inr f ↦ absurd f.1
]

opens-copy : (places : Places) (actor object : ℕ) (a : Aim) (avoid : ℕ) (old new : Machine) (answer : Result ℕ Refusal) → OpensCopy places actor object a avoid old new answer → KeepsStamps old.core new.core
opens-copy places actor object a avoid old new (Ok it) h = becomes _ old new h.2.1.3 refl
opens-copy places actor object a avoid old new (Err e) h = elim h.2 [
  | inl s ↦ stays old new s.1
  | inr f ↦ absurd f.1
]

writes : (actor number : ℕ) (bytes : List ℕ) (old new : Machine) (answer : Result ℕ Refusal) → WritesPiece actor number bytes old new answer → KeepsStamps old.core new.core
writes actor number bytes old new (Ok it) h = becomes _ old new h.1.3 refl
writes actor number bytes old new (Err e) h = elim h [
  | inl s ↦ stays old new s.1
  | inr f ↦ drops-ticket actor number old new e f.1
]

copies : (actor number : ℕ) (old new : Machine) (answer : Result ℕ Refusal) → CopiesPiece actor number old new answer → KeepsStamps old.core new.core
copies actor number old new (Ok it) h = becomes _ old new h.1.3.1 refl
copies actor number old new (Err e) h = elim h [
  | inl s ↦ stays old new s.1
  | inr f ↦ elim f.1 [
    | inl t ↦ stays old new t.4
    | inr t ↦ drops-ticket actor number old new e t
  ]
]

seals : (actor number : ℕ) (old new : Machine) (answer : Result (Unit {0}) Refusal) → Seals actor number old new answer → KeepsStamps old.core new.core
seals actor number old new (Ok it) h = becomes _ old new h.1 refl
seals actor number old new (Err e) h = elim h [
  | inl s ↦ stays old new s.1
  | inr f ↦ drops-ticket actor number old new e f.1
]

commits : (actor : ℕ) (asked : Asked) (numbers : List ℕ) (old new : Machine) (answer : Result ℕ Refusal) → Commits actor asked numbers old new answer → KeepsStamps old.core new.core
commits actor asked numbers old new (Ok it) h = same old.core new.core (ap (λ (c : Core). c.stamps) h.1.3.0)
commits actor asked numbers old new (Err e) h = elim h [
  | inl s ↦ stays old new s.1
  | inr f ↦ same old.core new.core (ap (λ (c : Core). c.stamps) f.1.6.0)
]

drops : (actor number : ℕ) (old new : Machine) (answer : Result (Unit {0}) Refusal) → Drops actor number old new answer → KeepsStamps old.core new.core
drops actor number old new (Ok it) h = becomes _ old new h.1 refl
drops actor number old new (Err e) h = elim h [
  | inl s ↦ stays old new s.1
  | inr f ↦ absurd f.1
]

reads : (actor object : ℕ) (kept : Digest) (from offset wanted : ℕ) (old new : Machine) (answer : Result (List ℕ) Refusal) → Reads actor object kept from offset wanted old new answer → KeepsStamps old.core new.core
reads actor object kept from offset wanted old new (Ok it) h = stays old new h.1.2
reads actor object kept from offset wanted old new (Err e) h = elim h [
  | inl s ↦ stays old new s.1
  | inr f ↦ stays old new f.1.2
]

asks : (actor : ℕ) (query : Query) (old new : Machine) (answer : Result Answer Refusal) → Asks actor query old new answer → KeepsStamps old.core new.core
asks actor query old new (Ok it) h = stays old new h.1.1
asks actor query old new (Err e) h = elim h [
  | inl s ↦ stays old new s.1
  | inr f ↦ absurd f.1
]

begins-checkpoint : (actor : ℕ) (old new : Machine) (answer : Result ImageReply Refusal) → BeginsCheckpoint actor old new answer → KeepsStamps old.core new.core
begins-checkpoint actor old new (Ok told) h = stamped-by new.moment old.core _ old new h.1.2 refl refl
begins-checkpoint actor old new (Err e) h = elim h [
  | inl s ↦ stays old new s.1
  | inr f ↦ (let d = f.1 in or-stamped d.2 d.3 _ old new d.7 refl d.6)
]

begins-backup : (actor : ℕ) (after : Option ℕ) (held : List Refusal) (old new : Machine) (answer : Result ImageReply Refusal) → BeginsBackup actor after held old new answer → KeepsStamps old.core new.core
begins-backup actor after held old new (Ok told) h = stamped-by new.moment (begun actor after old.core) _ old new h.1.2 refl refl
begins-backup actor after held old new (Err e) h = elim h [
  | inl s ↦ stays old new s.1
  | inr f ↦ elim f.1 [
    | inl d ↦ becomes _ old new d.4 refl
    | inr d ↦ stamped-by d.0 (begun actor after old.core) _ old new d.3 refl refl
  ]
]

goes-on : (actor : ℕ) (old new : Machine) (told : ImageReply) → GoesOn actor old told new → KeepsStamps old.core new.core
goes-on actor old new (reply.Begun file seq) h = absurd h
goes-on actor old new reply.More h = becomes _ old new h.4 refl
goes-on actor old new (reply.Done seq) h = elim h.4 [
  | inl f ↦ stamped-by new.moment old.core _ old new f.2 refl refl
  | inr f ↦ becomes _ old new f.2 refl
]

stops-short : (actor : ℕ) (e : Refusal) (old new : Machine) → StopsShort actor old e new → KeepsStamps old.core new.core
stops-short actor e old new h = elim h.2 [
  | inl d ↦ becomes _ old new d.3 refl
  | inr rest ↦ elim rest [
    | inl d ↦ becomes _ old new d.4 refl
    | inr d ↦ elim d.6 [
      | inl s ↦ or-stamped d.2 d.3 _ old new d.7 refl (inl s)
      | inr more ↦ elim more [
        | inl s ↦ or-stamped d.2 d.3 _ old new d.7 refl (inr s)
        | inr s ↦ becomes _ old new d.7 (ap (λ (c : Core). c.stamps) s.1)
      ]
    ]
  ]
]

continues : (actor : ℕ) (old new : Machine) (answer : Result ImageReply Refusal) → Continues actor old new answer → KeepsStamps old.core new.core
continues actor old new (Ok told) h = goes-on actor old new told h.1
continues actor old new (Err e) h = elim h [
  | inl s ↦ stays old new s.1
  | inr f ↦ stops-short actor e old new f.1
]

images : (actor : ℕ) (kind : ImageKind) (old new : Machine) (answer : Result ImageReply Refusal) → Images actor kind old new answer → KeepsStamps old.core new.core
images actor image.Checkpoint old new answer h = begins-checkpoint actor old new answer h
images actor image.Backup old new answer h = begins-backup actor None _ old new answer h
images actor (image.Since after) old new answer h = begins-backup actor (Some after) _ old new answer h
images actor image.Next old new answer h = continues actor old new answer h

reuses : (actor file : ℕ) (old new : Machine) (answer : Result ℕ Refusal) → Reuses actor file old new answer → KeepsStamps old.core new.core
reuses actor file old new (Ok number) h = stamped-by new.moment (made actor (change.Reuse file) old.core) _ old new h.1.1 refl refl
reuses actor file old new (Err e) h = elim h [
  | inl s ↦ stays old new s.1
  | inr f ↦ becomes _ old new f.1.4 refl
]

forces : (actor : ℕ) (old new : Machine) (answer : Result ℕ Refusal) → Forces actor old new answer → KeepsStamps old.core new.core
forces actor old new (Ok number) h = stamped-by new.moment old.core _ old new h.1.1 refl refl
forces actor old new (Err e) h = elim h [
  | inl s ↦ stays old new s.1
  | inr f ↦ becomes _ old new f.1.4 refl
]

-- every step does
pub step-stamps : (places : Places) (actor : ℕ) (deed : Deed) (old new : Machine) → Case places actor deed old new → KeepsStamps old.core new.core
step-stamps places actor (OpenNew number size prefer answer) old new h = opens-new places actor number size prefer old new answer h
step-stamps places actor (OpenCopy object a avoid answer) old new h = opens-copy places actor object a avoid old new answer h
step-stamps places actor (WritePiece number bytes answer) old new h = writes actor number bytes old new answer h
step-stamps places actor (CopyPiece number answer) old new h = copies actor number old new answer h
step-stamps places actor (Seal number answer) old new h = seals actor number old new answer h
step-stamps places actor (Commit asked numbers answer) old new h = commits actor asked numbers old new answer h
step-stamps places actor (DropTicket number answer) old new h = drops actor number old new answer h
step-stamps places actor (ReadPiece object kept from offset wanted answer) old new h = reads actor object kept from offset wanted old new answer h
step-stamps places actor (Ask query answer) old new h = asks actor query old new answer h
step-stamps places actor (Image kind answer) old new h = images actor kind old new answer h
step-stamps places actor (Reuse file answer) old new h = reuses actor file old new answer h
step-stamps places actor (Force answer) old new h = forces actor old new answer h

-- ---- one actor alone

behind-core : (deed : Deed) (contents : ℕ → List ℕ) (m : Machine) → (behind deed contents m).core ≡ m.core
behind-core (OpenNew number size prefer answer) contents m = refl
behind-core (OpenCopy object a avoid answer) contents m = refl
behind-core (WritePiece number bytes answer) contents m = refl
behind-core (CopyPiece number answer) contents m = refl
behind-core (Seal number answer) contents m = refl
behind-core (Commit asked numbers answer) contents m = refl
behind-core (DropTicket number answer) contents m = refl
behind-core (ReadPiece object kept from offset wanted answer) contents m = refl
behind-core (Ask query answer) contents m = refl
behind-core (Image kind answer) contents m = refl
behind-core (Reuse file answer) contents m = refl
behind-core (Force answer) contents m = refl

then-keeps : (a b c : Core) → KeepsStamps a b → KeepsStamps b c → KeepsStamps a c
then-keeps a b c first second = (first.0 ++ second.0, second.1 ∙ ap (λ (l : List ℕ). l ++ second.0) first.1 ∙ append_assoc a.stamps first.0 second.0)

pub alone-stamps : (trusted : Type 0) (places : Places) (actor : ℕ) (events : List Event) (old new : Machine) → Alone trusted places actor events old new → KeepsStamps old.core new.core
alone-stamps trusted places actor [] old new is = same old.core new.core (ap (λ (m : Machine). m.core.stamps) is)
alone-stamps trusted places actor (e ∷ events) old new (next, moves, rest) =
    let one : KeepsStamps old.core moves.next.core = step-stamps places actor e.deed (with_contents moves.seen old) moves.next moves.made.step in
    let here : next.core ≡ moves.next.core = ap (λ (m : Machine). m.core) moves.left ∙ behind-core e.deed old.contents moves.next in
    then-keeps old.core next.core new.core (one.0, ap (λ (c : Core). c.stamps) here ∙ one.1) (alone-stamps trusted places actor events next new rest)
