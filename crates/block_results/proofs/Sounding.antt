-- The rows of the database stay sound along a run of several actors' turns, and a step that is refused by something else than what ends the run met a state with sound rows.
use Rattle.std.proofs.Common.{◌≡◌, ◌⊎◌, inl, inr, ℕ, ◌+◌, ◌<◌, Bool, true, false, nat_lt, if◌then◌else◌, List, [], ◌∷◌, ◌++◌, Option, None, Some, Result, Ok, Err, refl, sym, ap, subst, ◌∙◌, arith}
use Rattle.std.proofs.lemmas.Bool.{ltb-true}
use Rattle.std.proofs.lemmas.List.{append-nil}
use Rattle.std.proofs.lemmas.Option.{same_Some}
use Rattle.kinds.specs.Refusals.{foremost, place_of, sooner_of, unless}
use Rattle.kinds.specs.declared.refusal.Refusal.{Refusal}
use Rattle.kinds.specs.declared.refusal.Refusal.TheVariants as refused
use Rattle.entries.specs.declared.change.Change.{Change}
use Rattle.entries.specs.declared.change.Change.TheVariants as change
use Rattle.entries.specs.declared.entry.Entry.{Entry}
use Rattle.inventory_rows.specs.State.{Inv}
use Rattle.inventory_rules.specs.Transactions.{effect, refused as refused_by}
use Rattle.inventory_answers.specs.declared.query.Query.{Query}
use Rattle.inventory_answers.specs.declared.reply.Answer.{Answer}
use Rattle.steps.specs.declared.asked.Asked.{Asked}
use Rattle.steps.specs.declared.image.ImageKind.{ImageKind}
use Rattle.steps.specs.declared.image.ImageKind.TheVariants as image
use Rattle.steps.specs.declared.image.ImageReply.{ImageReply}
use Rattle.steps.specs.declared.image.ImageReply.TheVariants as reply
use Rattle.steps.specs.Events.{Deed, Event, refusal}
use Rattle.steps.specs.Events.Deed.{OpenNew, OpenCopy, WritePiece, CopyPiece, Seal, Commit, DropTicket, ReadPiece, Ask, Image, Reuse, Force}
use Rattle.machine.proofs.Elsewhere.{append-none, none-held}
use Rattle.machine.proofs.Histories.{after-append}
use Rattle.machine.proofs.Legality.{commit-legal}
use Rattle.machine.specs.Alone.{Moves, with_contents}
use Rattle.machine.specs.Causes.{change_illegal, commit_refused, image_refused, listed, reuse_refused, since_refused}
use Rattle.machine.specs.Machine.{BackupBegun, BackupFails, Becomes, BeginsBackup, Case, Commits, DropsTicket, Finishes, ForceFails, Forces, GoesOn, Places, Reuses, Stays, StopsShort, asked_change, begun_change, ended, halted, halting, in_progress, last_moment}
use Rattle.machine.specs.State.{Core, Image as Picture, Machine, after, inventory, sight}
use Rattle.machine.specs.Turns.{Turn}
use Rattle.crew.specs.Ran.{Turned}
use Rattle.line_results.proofs.Growing.{listed-none}
use Rattle.line_results.proofs.SoundRows.{sound-one}
use Rattle.line_results.specs.Resting.{database}
use Rattle.line_results.specs.Sound.{HasSoundRows}
use Rattle.line_results.specs.command_steps.Answers.{halt_by}
use Rattle.block_results.proofs.BySteps.{core-left}
use Rattle.block_results.proofs.Mild.{not-memory}

-- where no fault has halted the hall the rows of its database are sound
abbrev pub AreSound : Core → Type 0
AreSound c = c.fault ≡ None → HasSoundRows (inventory c)

-- ---- one step

same-sound : (c d : Core) → d ≡ c → AreSound c → AreSound d
same-sound c d is s = subst AreSound (sym is) s

stays-sound : (old new : Machine) → Stays old new → AreSound old.core → AreSound new.core
stays-sound old new h s = same-sound old.core new.core h.core s

-- what leaves the transactions as they were
becomes-sound : (left : Core) (old new : Machine) → Becomes left old new → left.base ≡ old.core.base → left.journal ≡ old.core.journal → left.fault ≡ old.core.fault → AreSound old.core → AreSound new.core
becomes-sound left old new h base journal fault s =
    same-sound left new.core h.core
    (λ free. subst HasSoundRows (sym (ap (λ (v : Inv). after v left.journal) base ∙ ap (λ (l : List Entry). after old.core.base l) journal)) (s (sym fault ∙ free)))

-- a fault halts the hall
halted-sound : (file count : ℕ) (new : Core) → new.fault ≡ Some (file, count) → AreSound new
halted-sound file count new is = λ free. absurd (let odd : None ≡ Some (file, count) = sym free ∙ is in cc)

dropped-sound : (actor number : ℕ) (old new : Machine) (e : Refusal) → DropsTicket actor number old e new → AreSound old.core → AreSound new.core
dropped-sound actor number old new e h s = becomes-sound _ old new h.6 refl refl refl s

-- one more was made, which was legal
joined-sound : (actor : ℕ) (w : Change) (c d : Core) → refused_by (sight actor c).journal w (inventory c) ≡ None → d.base ≡ c.base → d.journal ≡ c.journal ++ record { actor = actor; change = w } ∷ [] → d.fault ≡ c.fault → AreSound c → AreSound d
joined-sound actor w c d legal base journal fault s =
    λ free. subst HasSoundRows
    (sym (ap (λ (v : Inv). after v d.journal) base ∙ ap (λ (l : List Entry). after c.base l) journal ∙ after-append c.base c.journal (record { actor = actor; change = w } ∷ [])))
    (sound-one (sight actor c).journal w (inventory c) (s (sym fault ∙ free)) legal)

none-first : (first own : List Refusal) → foremost (first ++ own) ≡ None → foremost own ≡ None
none-first first own h = ap foremost (append-none first own (none-held (first ++ own) h)).1

-- a transaction that wasn't refused is legal
pub legal-commit : (actor : ℕ) (asked : Asked) (numbers : List ℕ) (others : List Refusal) (m : Machine) (w : Change) → asked_change actor asked numbers m.core ≡ Some w
    → foremost (ended m ++ (commit_refused actor asked numbers (sight actor m.core) ++ others)) ≡ None → refused_by (sight actor m.core).journal w (inventory m.core) ≡ None
legal-commit actor asked numbers others m w is none =
    let own : List Refusal = commit_refused actor asked numbers (sight actor m.core) in
    let both = append-none own others (none-held (own ++ others) (none-first (ended m) (own ++ others) none)) in
    commit-legal actor asked numbers (sight actor m.core) w is (ap foremost both.0)

legal-listed : (actor : ℕ) (w : Change) (others : List Refusal) (m : Machine) → foremost (ended m ++ (change_illegal w (sight actor m.core) ++ others)) ≡ None → refused_by (sight actor m.core).journal w (inventory m.core) ≡ None
legal-listed actor w others m none =
    let own : List Refusal = change_illegal w (sight actor m.core) in
    listed-none (refused_by (sight actor m.core).journal w (inventory m.core)) (append-none own others (none-held (own ++ others) (none-first (ended m) (own ++ others) none))).0

commit-sound : (actor : ℕ) (asked : Asked) (numbers : List ℕ) (old new : Machine) (answer : Result ℕ Refusal) → Commits actor asked numbers old new answer → AreSound old.core → AreSound new.core
commit-sound actor asked numbers old new (Ok it) h s =
    joined-sound actor h.1.0 old.core new.core (legal-commit actor asked numbers _ old h.1.0 h.1.1 h.0) (ap (λ (c : Core). c.base) h.1.3.0) (ap (λ (c : Core). c.journal) h.1.3.0) (ap (λ (c : Core). c.fault) h.1.3.0) s
commit-sound actor asked numbers old new (Err e) h s = elim h as (λ _. AreSound new.core) [
  | inl t ↦ stays-sound old new t.1 s
  | inr f ↦ halted-sound f.1.1 f.1.2 new.core (ap (λ (c : Core). c.fault) f.1.6.0)
]

reuse-sound : (actor file : ℕ) (old new : Machine) (answer : Result ℕ Refusal) → Reuses actor file old new answer → AreSound old.core → AreSound new.core
reuse-sound actor file old new (Ok number) h s =
    joined-sound actor (change.Reuse file) old.core new.core (legal-listed actor (change.Reuse file) _ old h.0) (ap (λ (c : Core). c.base) h.1.1.core) (ap (λ (c : Core). c.journal) h.1.1.core) (ap (λ (c : Core). c.fault) h.1.1.core) s
reuse-sound actor file old new (Err e) h s = elim h as (λ _. AreSound new.core) [
  | inl t ↦ stays-sound old new t.1 s
  | inr f ↦ halted-sound f.1.0 f.1.1 new.core (ap (λ (c : Core). c.fault) f.1.4.core)
]

-- ---- an image

-- the transaction by which a backup begins
begun-left : (actor : ℕ) (from : Option ℕ) (old new : Machine) (left : Core) → refused_by (sight actor old.core).journal (begun_change from old.core) (inventory old.core) ≡ None → new.core ≡ left → left.base ≡ old.core.base
    → left.journal ≡ old.core.journal ++ record { actor = actor; change = begun_change from old.core } ∷ [] → left.fault ≡ old.core.fault → AreSound old.core → AreSound new.core
begun-left actor from old new left legal is base journal fault s = same-sound left new.core is (joined-sound actor (begun_change from old.core) old.core left legal base journal fault s)

begins-sound : (actor : ℕ) (from : Option ℕ) (held : List Refusal) (old new : Machine) (answer : Result ImageReply Refusal)
    → (foremost (ended old ++ (held ++ in_progress old.core.image)) ≡ None → refused_by (sight actor old.core).journal (begun_change from old.core) (inventory old.core) ≡ None) → BeginsBackup actor from held old new answer → AreSound old.core
    → AreSound new.core
begins-sound actor from held old new (Ok told) legal h s = begun-left actor from old new _ (legal h.0) h.1.2.core refl refl refl s
begins-sound actor from held old new (Err e) legal h s = elim h as (λ _. AreSound new.core) [
  | inl t ↦ stays-sound old new t.1 s
  | inr f ↦ elim f.1 as (λ _. AreSound new.core) [
    | inl g ↦ halted-sound g.0 g.1 new.core (ap (λ (c : Core). c.fault) g.4.core)
    | inr g ↦ begun-left actor from old new _ (legal f.0) g.3.core refl refl refl s
  ]
]

finishes-sound : (actor : ℕ) (i : Picture) (old new : Machine) → Finishes actor i old new → AreSound old.core → AreSound new.core
finishes-sound actor i old new (inl (is, copied, becomes)) s = becomes-sound _ old new becomes refl refl refl s
finishes-sound actor i old new (inr (is, legal, becomes)) s =
    joined-sound actor (change.DbEnd i.file) old.core new.core legal (ap (λ (c : Core). c.base) becomes.core) (ap (λ (c : Core). c.journal) becomes.core) (ap (λ (c : Core). c.fault) becomes.core) s

goes-sound : (actor : ℕ) (old new : Machine) (told : ImageReply) → GoesOn actor old told new → AreSound old.core → AreSound new.core
goes-sound actor old new reply.More (i, j, mine, more, becomes) s = becomes-sound _ old new becomes refl refl refl s
goes-sound actor old new (reply.Done seq) (i, mine, is, whole, finishes) s = finishes-sound actor i old new finishes s
goes-sound actor old new (reply.Begun file seq) h s = absurd h

stops-sound : (actor : ℕ) (old new : Machine) (e : Refusal) → StopsShort actor old e new → AreSound old.core → AreSound new.core
stops-sound actor old new e (i, mine, inl (is, why, rose, becomes)) s = becomes-sound _ old new becomes refl refl refl s
stops-sound actor old new e (i, mine, inr (inl (is, whole, why, full, becomes))) s = becomes-sound _ old new becomes refl refl refl s
stops-sound actor old new e (i, mine, inr (inr (file, count, moment, core, why, fault, left, becomes))) s = halted-sound file count new.core (ap (λ (c : Core). c.fault) becomes.core)

image-sound : (places : Places) (actor : ℕ) (kind : ImageKind) (answer : Result ImageReply Refusal) (old new : Machine) → Case places actor (Image kind answer) old new → AreSound old.core → AreSound new.core
image-sound places actor image.Checkpoint (Ok told) old new h s = becomes-sound _ old new h.1.2 refl refl refl s
image-sound places actor image.Checkpoint (Err e) old new h s = elim h as (λ _. AreSound new.core) [
  | inl t ↦ stays-sound old new t.1 s
  | inr f ↦ halted-sound f.1.0 f.1.1 new.core (ap (λ (c : Core). c.fault) f.1.7.core)
]
image-sound places actor image.Backup answer old new h s =
    begins-sound actor None (image_refused image.Backup (sight actor old.core)) old new answer (λ none. legal-listed actor (change.DbBegin old.core.next_file None) (in_progress old.core.image) old none) h s
image-sound places actor (image.Since file) answer old new h s =
    begins-sound actor (Some file) (image_refused (image.Since file) (sight actor old.core)) old new answer (λ none. begins-since none) h s
  where
    begins-since : foremost (ended old ++ (image_refused (image.Since file) (sight actor old.core) ++ in_progress old.core.image)) ≡ None
        → refused_by (sight actor old.core).journal (begun_change (Some file) old.core) (inventory old.core) ≡ None
    begins-since none =
        let first : List Refusal = since_refused file (sight actor old.core) in
        let own : List Refusal = change_illegal (change.DbBegin old.core.next_file (Some file)) (sight actor old.core) in
        let all = append-none (first ++ own) (in_progress old.core.image) (none-held ((first ++ own) ++ in_progress old.core.image) (none-first (ended old) ((first ++ own) ++ in_progress old.core.image) none)) in
        listed-none (refused_by (sight actor old.core).journal (begun_change (Some file) old.core) (inventory old.core)) (append-none first own all.0).1
image-sound places actor image.Next (Ok told) old new h s = goes-sound actor old new told h.1 s
image-sound places actor image.Next (Err e) old new h s = elim h as (λ _. AreSound new.core) [
  | inl t ↦ stays-sound old new t.1 s
  | inr f ↦ stops-sound actor old new e f.1 s
]

-- ---- every step

case-sound : (places : Places) (actor : ℕ) (deed : Deed) (old new : Machine) → Case places actor deed old new → AreSound old.core → AreSound new.core
case-sound places actor (OpenNew number size prefer (Ok it)) old new h s = becomes-sound _ old new h.2.1.3 refl refl refl s
case-sound places actor (OpenNew number size prefer (Err e)) old new h s = elim h.2 as (λ _. AreSound new.core) [
  | inl t ↦ stays-sound old new t.1 s
  | inr f ↦ absurd f.1
]
case-sound places actor (OpenCopy object a avoid (Ok it)) old new h s = becomes-sound _ old new h.2.1.3 refl refl refl s
case-sound places actor (OpenCopy object a avoid (Err e)) old new h s = elim h.2 as (λ _. AreSound new.core) [
  | inl t ↦ stays-sound old new t.1 s
  | inr f ↦ absurd f.1
]
case-sound places actor (WritePiece number bytes (Ok it)) old new h s = becomes-sound _ old new h.1.3 refl refl refl s
case-sound places actor (WritePiece number bytes (Err e)) old new h s = elim h as (λ _. AreSound new.core) [
  | inl t ↦ stays-sound old new t.1 s
  | inr f ↦ dropped-sound actor number old new e f.1 s
]
case-sound places actor (CopyPiece number (Ok it)) old new h s = becomes-sound _ old new h.1.3.1 refl refl refl s
case-sound places actor (CopyPiece number (Err e)) old new h s = elim h as (λ _. AreSound new.core) [
  | inl t ↦ stays-sound old new t.1 s
  | inr f ↦ elim f.1 as (λ _. AreSound new.core) [
    | inl t ↦ stays-sound old new t.4 s
    | inr t ↦ dropped-sound actor number old new e t s
  ]
]
case-sound places actor (Seal number (Ok it)) old new h s = becomes-sound _ old new h.1 refl refl refl s
case-sound places actor (Seal number (Err e)) old new h s = elim h as (λ _. AreSound new.core) [
  | inl t ↦ stays-sound old new t.1 s
  | inr f ↦ dropped-sound actor number old new e f.1 s
]
case-sound places actor (Commit asked numbers answer) old new h s = commit-sound actor asked numbers old new answer h s
case-sound places actor (DropTicket number (Ok it)) old new h s = becomes-sound _ old new h.1 refl refl refl s
case-sound places actor (DropTicket number (Err e)) old new h s = elim h as (λ _. AreSound new.core) [
  | inl t ↦ stays-sound old new t.1 s
  | inr f ↦ absurd f.1
]
case-sound places actor (ReadPiece object kept from offset wanted (Ok it)) old new h s = stays-sound old new h.1.2 s
case-sound places actor (ReadPiece object kept from offset wanted (Err e)) old new h s = elim h as (λ _. AreSound new.core) [
  | inl t ↦ stays-sound old new t.1 s
  | inr f ↦ stays-sound old new f.1.2 s
]
case-sound places actor (Ask query (Ok it)) old new h s = stays-sound old new h.1.1 s
case-sound places actor (Ask query (Err e)) old new h s = elim h as (λ _. AreSound new.core) [
  | inl t ↦ stays-sound old new t.1 s
  | inr f ↦ absurd f.1
]
case-sound places actor (Image kind answer) old new h s = image-sound places actor kind answer old new h s
case-sound places actor (Reuse file answer) old new h s = reuse-sound actor file old new answer h s
case-sound places actor (Force (Ok number)) old new h s = becomes-sound _ old new h.1.1 refl refl refl s
case-sound places actor (Force (Err e)) old new h s = elim h as (λ _. AreSound new.core) [
  | inl t ↦ stays-sound old new t.1 s
  | inr f ↦ halted-sound f.1.0 f.1.1 new.core (ap (λ (c : Core). c.fault) f.1.4.core)
]

-- ---- among others

module _ (trusted : Type 0) (places : Places) where
  moved-sound : (actor : ℕ) (e : Event) (old new : Machine) → Moves trusted places actor e old new → AreSound old.core → AreSound new.core
  moved-sound actor e old new m s =
      same-sound m.next.core new.core (ap (λ (x : Machine). x.core) m.left ∙ core-left e.deed old.contents m.next) (case-sound places actor e.deed (with_contents m.seen old) m.next m.made.step s)

  -- each transaction was legal where it was made
  pub turned-sound : (turns : List Turn) (old new : Machine) → Turned trusted places turns old new → AreSound old.core → AreSound new.core
  turned-sound [] old new is s = same-sound old.core new.core (ap (λ (m : Machine). m.core) is) s
  turned-sound (t ∷ turns) old new (next, made, rest) s = turned-sound turns next new rest (moved-sound t.actor t.did old next made s)

-- ---- a step that was refused

-- what ends the run
ends-run : (x : Refusal) → nat_lt (place_of x) 1 ≡ true → halt_by x ≡ None → ⊥
ends-run refused.RunFull less none = cc
ends-run x less none = cc

none-before : (n : ℕ) → nat_lt n 0 ≡ true → ⊥
none-before n less = (let below : n < 0 = ltb-true n 0 less in omega (arith, below))

-- a full run is answered, and then that a fault has halted the hall
not-log : (file count : ℕ) (e : Refusal) → Some (refused.LogFault file count) ≡ Some e → halt_by e ≡ None → ⊥
not-log file count e is mild = (let same : refused.LogFault file count ≡ e = cc in let odd : halt_by (refused.LogFault file count) ≡ None = subst (λ (x : Refusal). halt_by x ≡ None) (sym same) mild in cc)

log-first : (file count : ℕ) (o : Option Refusal) (e : Refusal) → sooner_of (Some (refused.LogFault file count)) o ≡ Some e → halt_by e ≡ None → ⊥
log-first file count None e is mild = not-log file count e is mild
log-first file count (Some b) e is mild =
    elim (nat_lt (place_of b) 1) as (λ t. nat_lt (place_of b) 1 ≡ t → Some (if t then b else refused.LogFault file count) ≡ Some e → ⊥) [
      | true ↦ λ less same. ends-run b less (subst (λ (x : Refusal). halt_by x ≡ None) (sym (same_Some b e same)) mild)
      | false ↦ λ less same. not-log file count e same mild
    ] refl is

not-full : (e : Refusal) → Some refused.RunFull ≡ Some e → halt_by e ≡ None → ⊥
not-full e is mild = (let same : refused.RunFull ≡ e = cc in let odd : halt_by refused.RunFull ≡ None = subst (λ (x : Refusal). halt_by x ≡ None) (sym same) mild in cc)

full-first : (o : Option Refusal) (e : Refusal) → sooner_of (Some refused.RunFull) o ≡ Some e → halt_by e ≡ None → ⊥
full-first None e is mild = not-full e is mild
full-first (Some b) e is mild =
    elim (nat_lt (place_of b) 0) as (λ t. nat_lt (place_of b) 0 ≡ t → Some (if t then b else refused.RunFull) ≡ Some e → ⊥) [
      | true ↦ λ less same. none-before (place_of b) less
      | false ↦ λ less same. not-full e same mild
    ] refl is

halted-first : (b : Bool) (file count : ℕ) (others : List Refusal) (e : Refusal) → foremost ((unless b refused.RunFull ++ (refused.LogFault file count ∷ [])) ++ others) ≡ Some e → halt_by e ≡ None → ⊥
halted-first true file count others e is mild = log-first file count (foremost others) e is mild
halted-first false file count others e is mild = full-first (foremost (refused.LogFault file count ∷ others)) e is mild

pub halted-none : (b : Bool) (o : Option (ℕ × ℕ)) (others : List Refusal) → (unless b refused.RunFull ++ halted o) ++ others ≡ [] → o ≡ None
halted-none b None others h = refl
halted-none true (Some f) others h = absurd cc
halted-none false (Some f) others h = absurd cc

-- where something else was answered no fault has halted the hall
free-refused : (b : Bool) (o : Option (ℕ × ℕ)) (others : List Refusal) (e : Refusal) → foremost ((unless b refused.RunFull ++ halted o) ++ others) ≡ Some e → halt_by e ≡ None → o ≡ None
free-refused b None others e is mild = refl
free-refused b (Some f) others e is mild = absurd (halted-first b f.0 f.1 others e is mild)

module _ (m : Machine) (e : Refusal) (mild : halt_by e ≡ None) where
  ends-free : (others : List Refusal) (S F : Type 0) → (((foremost (ended m ++ others) ≡ Some e) ⊎ (e ≡ refused.Memory)) × S) ⊎ ((foremost (ended m ++ others) ≡ None) × F) → m.core.fault ≡ None
  ends-free others S F (inl (inl h, s)) = free-refused (nat_lt m.moment last_moment) m.core.fault others e h mild
  ends-free others S F (inl (inr memory, s)) = absurd (not-memory e mild memory)
  ends-free others S F (inr (none, f)) = halted-none (nat_lt m.moment last_moment) m.core.fault others (none-held (ended m ++ others) none)

  image-free : (places : Places) (actor : ℕ) (kind : ImageKind) (new : Machine) → Case places actor (Image kind (Err e)) m new → m.core.fault ≡ None
  image-free places actor image.Checkpoint new h = ends-free _ _ _ h
  image-free places actor image.Backup new h = ends-free _ _ _ h
  image-free places actor (image.Since file) new h = ends-free _ _ _ h
  image-free places actor image.Next new h = ends-free _ _ _ h

  force-free : (actor : ℕ) (new : Machine) → Forces actor m new (Err e) → m.core.fault ≡ None
  force-free actor new h =
      ends-free [] (Stays m new) (ForceFails m e new)
      (subst (λ (l : List Refusal). (((foremost l ≡ Some e) ⊎ (e ≡ refused.Memory)) × Stays m new) ⊎ ((foremost l ≡ None) × ForceFails m e new)) (sym (append-nil (ended m))) h)

mild-as : (f e : Refusal) → halt_by e ≡ None → Some f ≡ Some e → halt_by f ≡ None
mild-as f e mild is = subst (λ (x : Refusal). halt_by x ≡ None) (sym (same_Some f e is)) mild

case-free : (places : Places) (actor : ℕ) (deed : Deed) (e : Refusal) (old new : Machine) → halt_by e ≡ None → refusal deed ≡ Some e → Case places actor deed old new → old.core.fault ≡ None
case-free places actor (OpenNew number size prefer (Ok x)) e old new mild is h = absurd cc
case-free places actor (OpenNew number size prefer (Err f)) e old new mild is h = ends-free old f (mild-as f e mild is) _ _ _ h.2
case-free places actor (OpenCopy object a avoid (Ok x)) e old new mild is h = absurd cc
case-free places actor (OpenCopy object a avoid (Err f)) e old new mild is h = ends-free old f (mild-as f e mild is) _ _ _ h.2
case-free places actor (WritePiece number bytes (Ok x)) e old new mild is h = absurd cc
case-free places actor (WritePiece number bytes (Err f)) e old new mild is h = ends-free old f (mild-as f e mild is) _ _ _ h
case-free places actor (CopyPiece number (Ok x)) e old new mild is h = absurd cc
case-free places actor (CopyPiece number (Err f)) e old new mild is h = ends-free old f (mild-as f e mild is) _ _ _ h
case-free places actor (Seal number (Ok x)) e old new mild is h = absurd cc
case-free places actor (Seal number (Err f)) e old new mild is h = ends-free old f (mild-as f e mild is) _ _ _ h
case-free places actor (Commit asked numbers (Ok x)) e old new mild is h = absurd cc
case-free places actor (Commit asked numbers (Err f)) e old new mild is h = ends-free old f (mild-as f e mild is) _ _ _ h
case-free places actor (DropTicket number (Ok x)) e old new mild is h = absurd cc
case-free places actor (DropTicket number (Err f)) e old new mild is h = ends-free old f (mild-as f e mild is) _ _ ⊥ h
case-free places actor (ReadPiece object kept from offset wanted (Ok x)) e old new mild is h = absurd cc
case-free places actor (ReadPiece object kept from offset wanted (Err f)) e old new mild is h = ends-free old f (mild-as f e mild is) _ _ _ h
case-free places actor (Ask query (Ok x)) e old new mild is h = absurd cc
case-free places actor (Ask query (Err f)) e old new mild is h = ends-free old f (mild-as f e mild is) _ _ ⊥ h
case-free places actor (Image kind (Ok x)) e old new mild is h = absurd cc
case-free places actor (Image kind (Err f)) e old new mild is h = image-free old f (mild-as f e mild is) places actor kind new h
case-free places actor (Reuse file (Ok x)) e old new mild is h = absurd cc
case-free places actor (Reuse file (Err f)) e old new mild is h = ends-free old f (mild-as f e mild is) _ _ _ h
case-free places actor (Force (Ok x)) e old new mild is h = absurd cc
case-free places actor (Force (Err f)) e old new mild is h = force-free old f (mild-as f e mild is) actor new h

-- nor was it halted where a question was answered
pub asked-free : (places : Places) (actor : ℕ) (q : Query) (a : Answer) (m new : Machine) → Case places actor (Ask q (Ok a)) m new → m.core.fault ≡ None
asked-free places actor q a m new h = halted-none (nat_lt m.moment last_moment) m.core.fault _ (none-held _ h.0)

-- a step that was refused, by which no run ends, met a state with sound rows
pub met-sound : (trusted : Type 0) (places : Places) (actor : ℕ) (did : Event) (e : Refusal) (old new : Machine) → halt_by e ≡ None → refusal did.deed ≡ Some e → Moves trusted places actor did old new → AreSound old.core → HasSoundRows (database old)
met-sound trusted places actor did e old new mild is m sound = sound (case-free places actor did.deed e (with_contents m.seen old) m.next mild is m.made.step)
