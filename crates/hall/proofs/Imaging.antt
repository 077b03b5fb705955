-- How an image in progress is held, and how far a checkpoint goes by one step.
use Rattle.std.proofs.Common.{◌≡◌, ℕ, ◌+◌, ◌-◌, ◌<◌, ◌≤◌, ◌^◌, Bool, true, false, nat_le, nat_lt, is_some, List, ◌∷◌, ◌++◌, Option, Some, None, Result, Ok, Err, refl, sym, ap, subst, ◌∙◌, if◌then◌else◌, arith}
use Rattle.std.specs.Prelude.{◌==◌, IsSome}
use Rattle.std.specs.List.{AllByRecursion}
use Rattle.std.proofs.lemmas.Bool.{leb-false, ltb-true}
use Rattle.store_api.specs.Disk.{History}
use Rattle.store_api.specs.Told.{Told}
use Rattle.store_api.proofs.Runs.{told_map}
use Rattle.kinds.specs.Refusals.{foremost, place_of, sooner_of, unless}
use Rattle.kinds.specs.declared.refusal.Holder.TheVariants as holder
use Rattle.kinds.specs.declared.refusal.Refusal.{Refusal}
use Rattle.kinds.specs.declared.refusal.Refusal.TheVariants as refusal
use Rattle.item_refusals.proofs.Foremost.{foremost_append}
use Rattle.db_image.specs.declared.phase.Phase.{Phase}
use Rattle.db_image.specs.declared.phase.Phase.TheVariants.{Begun, Written, Durable, Open, Failed}
use Rattle.db_image.specs.Steps.{IsWithin, Job, further, written_to}
use Rattle.inventory.specs.Meant.{meaning}
use Rattle.inventory_rows.specs.State.{Inv}
use Rattle.vault.specs.Pieces.{IsGoing, Pending}
use Rattle.vault.specs.Vaults.{Begins, State}
use Rattle.machine.specs.Causes.{image_refused}
use Rattle.machine.specs.Machine.{ended, in_progress, last_moment}
use Rattle.machine.specs.State.{Core, Image, Machine, own_image, sight}
use Rattle.steps.specs.declared.image.ImageKind.TheVariants as image
use Rattle.steps.specs.declared.image.ImageReply.{ImageReply}
use Rattle.hall.specs.Good.{Is}
use Rattle.hall.specs.Held.{BegunImage, Hall, Held, IsCheckpoint, IsCore, IsImage, begun_of, unwritten_at}
use Rattle.hall.specs.Imaging.{checkpoint_refused, image_held, own_begun}
use Rattle.hall.specs.Seats.{ended_at}
use Rattle.hall.proofs.Ended.{ended_first, ended_is, next_answers, none_halted, not_over}

-- ---- refusals

pub held_alike : (i : Option Image) → in_progress i ≡ image_held (begun_of i)
held_alike None = refl
held_alike (Some i) = refl

-- the refusals that hold, as the hall tells them
pub begin_is : (actor moment : ℕ) (h : Held) (m : Machine) → IsCore h m.core → m.moment ≡ moment
    → ended m ++ (image_refused image.Checkpoint (sight actor m.core) ++ (in_progress m.core.image ++ unless (nat_lt (m.core.generation + 1) (2 ^ 62)) refusal.InventoryFull)) ≡ checkpoint_refused moment h
begin_is actor moment h m is at =
    ap (λ (l : List Refusal). l ++ (in_progress m.core.image ++ unless (nat_lt (m.core.generation + 1) (2 ^ 62)) refusal.InventoryFull)) (ended_is moment h m is at)
    ∙ ap (λ (l : List Refusal). ended_at moment h ++ (l ++ unless (nat_lt (m.core.generation + 1) (2 ^ 62)) refusal.InventoryFull)) (held_alike m.core.image ∙ ap image_held is.image)
    ∙ ap (λ n. ended_at moment h ++ (image_held h.image ++ unless (nat_lt (n + 1) (2 ^ 62)) refusal.InventoryFull)) is.generation

behind_ended : (i : Option BegunImage) (b : Bool) → AllByRecursion (λ y. 1 ≤ place_of y) (image_held i ++ unless b refusal.InventoryFull)
behind_ended None true = tt
behind_ended None false = (omega arith, tt)
behind_ended (Some i) true = (omega arith, tt)
behind_ended (Some i) false = (omega arith, (omega arith, tt))

-- a full run, or a fault
pub begin_ended : (moment : ℕ) (h : Held) (e : Refusal) → foremost (ended_at moment h) ≡ Some e → foremost (checkpoint_refused moment h) ≡ Some e
begin_ended moment h e is =
    ended_first moment h (image_held h.image ++ unless (nat_lt (h.vault.generation + 1) (2 ^ 62)) refusal.InventoryFull) e is (behind_ended h.image (nat_lt (h.vault.generation + 1) (2 ^ 62)))

busy_first : (b : Bool) (actor : ℕ) → foremost (refusal.Busy (holder.Image actor) ∷ unless b refusal.InventoryFull) ≡ Some (refusal.Busy (holder.Image actor))
busy_first true actor = refl
busy_first false actor = refl

-- another image
pub begin_busy : (moment : ℕ) (h : Held) (i : BegunImage) → foremost (ended_at moment h) ≡ None → h.image ≡ Some i → foremost (checkpoint_refused moment h) ≡ Some (refusal.Busy (holder.Image i.actor))
begin_busy moment h i free there =
    next_answers (ended_at moment h) (image_held h.image ++ unless (nat_lt (h.vault.generation + 1) (2 ^ 62)) refusal.InventoryFull) free
    ∙ ap (λ (o : Option BegunImage). foremost (image_held o ++ unless (nat_lt (h.vault.generation + 1) (2 ^ 62)) refusal.InventoryFull)) there
    ∙ busy_first (nat_lt (h.vault.generation + 1) (2 ^ 62)) i.actor

-- the generation's bound, or nothing
pub begin_last : (moment : ℕ) (h : Held) (b : Bool) → foremost (ended_at moment h) ≡ None → h.image ≡ None → nat_lt (h.vault.generation + 1) (2 ^ 62) ≡ b
    → foremost (checkpoint_refused moment h) ≡ foremost (unless b refusal.InventoryFull)
begin_last moment h b free none few =
    next_answers (ended_at moment h) (image_held h.image ++ unless (nat_lt (h.vault.generation + 1) (2 ^ 62)) refusal.InventoryFull) free
    ∙ ap (λ (o : Option BegunImage). foremost (image_held o ++ unless (nat_lt (h.vault.generation + 1) (2 ^ 62)) refusal.InventoryFull)) none
    ∙ ap (λ x. foremost (unless x refusal.InventoryFull)) few

-- where it may begin

both_none : (a b : Option Refusal) → sooner_of a b ≡ None → (a ≡ None) × (b ≡ None)
both_none None b h = (refl, h)
both_none (Some x) None h = absurd cc
both_none (Some x) (Some y) h = absurd cc

pub parts_none : (xs ys : List Refusal) → foremost (xs ++ ys) ≡ None → (foremost xs ≡ None) × (foremost ys ≡ None)
parts_none xs ys h = both_none (foremost xs) (foremost ys) (sym (foremost_append xs ys) ∙ h)

pub none_held : (i : Option BegunImage) → foremost (image_held i) ≡ None → i ≡ None
none_held None h = refl
none_held (Some i) h = absurd cc

not_full : (b : Bool) → foremost (unless b refusal.InventoryFull) ≡ None → b ≡ true
not_full true h = refl
not_full false h = absurd cc

pub record MayBegin (moment : ℕ) (h : Held) : Type 0 where
  pub free : foremost (ended_at moment h) ≡ None
  pub none : h.image ≡ None
  pub few : h.vault.generation + 1 < 2 ^ 62

pub may_begin : (moment : ℕ) (h : Held) → foremost (checkpoint_refused moment h) ≡ None → MayBegin moment h
may_begin moment h none =
    let a = parts_none (ended_at moment h) (image_held h.image ++ unless (nat_lt (h.vault.generation + 1) (2 ^ 62)) refusal.InventoryFull) none in
    let b = parts_none (image_held h.image) (unless (nat_lt (h.vault.generation + 1) (2 ^ 62)) refusal.InventoryFull) a.1 in
    record {
      free = a.0;
      none = none_held h.image b.0;
      few = ltb-true (h.vault.generation + 1) (2 ^ 62) (not_full (nat_lt (h.vault.generation + 1) (2 ^ 62)) b.1);
    }

-- there is time for its calls
pub time_to_begin : (moment : ℕ) (h : Held) → foremost (checkpoint_refused moment h) ≡ None → moment + 11 ≤ 2 ^ 62
time_to_begin moment h none = let l : moment < last_moment = not_over moment h (may_begin moment h none).free in omega (arith, l)

pub time_to_go : (moment : ℕ) (h : Held) → foremost (ended_at moment h) ≡ None → moment + 10 ≤ 2 ^ 62
time_to_go moment h free = let l : moment < last_moment = not_over moment h free in omega (arith, l)

-- the same of what a reader answered
pub said_to_begin : (at moment : ℕ) (h : Held) (r o : Option Refusal) → at ≡ moment → r ≡ foremost (checkpoint_refused at h) → r ≡ o → foremost (checkpoint_refused moment h) ≡ o
said_to_begin at moment h r o same is answer = ap (λ n. foremost (checkpoint_refused n h)) (sym same) ∙ sym is ∙ answer

-- ---- as it is held

pub no_image : (i : Option Image) → begun_of i ≡ None → i ≡ None
no_image None h = refl
no_image (Some i) h = absurd cc

-- where no image is in progress none is written
pub nothing_pends : (first generation : ℕ) (pending : Option Pending) (job : Option Job) → IsImage first generation pending job None → (pending ≡ None) × (job ≡ None)
nothing_pends first generation None None is = (refl, refl)
nothing_pends first generation None (Some job) is = absurd is
nothing_pends first generation (Some pending) None is = absurd is
nothing_pends first generation (Some pending) (Some job) is = absurd is

abbrev begun : Image → BegunImage
begun x = record { actor = x.actor; picture = x.picture; file = x.file; seq = x.seq }

pub own_is : (actor : ℕ) (x : Image) → is_some (own_begun actor (begun_of (Some x))) ≡ true → own_image actor (Some x) ≡ Some x
own_is actor x mine = elim (x.actor == actor) as (λ b. is_some (if b then Some (begun x) else None) ≡ true
    → (if b then Some x else None) ≡ Some x) [
      | true ↦ λ _. refl
      | false ↦ λ h. absurd cc
    ] mine

-- The actor's image is a checkpoint that the vault writes.
pub record OwnCheckpoint (actor first generation : ℕ) (pending : Option Pending) (i : Option Image) : Type 0 where
  pub its : Image
  pub last : Pending
  pub there : i ≡ Some its
  pub mine : own_image actor i ≡ Some its
  pub pends : pending ≡ Some last
  pub is : IsCheckpoint first generation last its

pub own_checkpoint : (actor first generation : ℕ) (pending : Option Pending) (job : Option Job) (i : Option Image) → job ≡ None → is_some (own_begun actor (begun_of i)) ≡ true
    → IsImage first generation pending job i → OwnCheckpoint actor first generation pending i
own_checkpoint actor first generation pending (Some job) i none mine is = absurd cc
own_checkpoint actor first generation pending None None none mine is = absurd cc
own_checkpoint actor first generation None None (Some x) none mine is = absurd is
own_checkpoint actor first generation (Some p) None (Some x) none mine is = record { its = x; last = p; there = refl; mine = own_is actor x mine; pends = refl; is = is }

pub mine_is : (actor : ℕ) (i : Option Image) (x : Image) → own_image actor i ≡ Some x → is_some (own_image actor i) ≡ true
mine_is actor i x h = ap (λ (o : Option Image). is_some o) h

-- the vault may go on with it
pub has_its_image : (actor : ℕ) (i : Option BegunImage) → is_some (own_begun actor i) ≡ true → IsSome i
has_its_image actor None mine = absurd cc
has_its_image actor (Some i) mine = refl

module _ {S : Type 0} (told : S → Option History) (moment : S → ℕ) (faults : S → ℕ → ℕ) (actor : ℕ) (hall : Hall S) (free : foremost (ended_at (moment hall.store) hall.held) ≡ None)
    (mine : is_some (own_begun actor hall.held.image) ≡ true) (no_job : hall.held.job ≡ None) {m : Machine} (is : Is told moment faults hall m) where
  pub its_own : OwnCheckpoint actor m.core.base.number hall.held.vault.generation hall.held.vault.pending m.core.image
  its_own =
      own_checkpoint actor m.core.base.number hall.held.vault.generation hall.held.vault.pending hall.held.job m.core.image no_job
      (subst (λ (o : Option BegunImage). is_some (own_begun actor o) ≡ true) (sym is.core.image) mine) (is.core.is_image (none_halted (moment hall.store) hall.held free))

  pub its_room : hall.held.vault.generation + 1 < 2 ^ 62
  its_room = its_own.is.few

  pub its_pends : IsSome hall.held.vault.pending
  its_pends = subst (λ (o : Option Pending). IsSome o) (sym its_own.pends) refl

absent_alike : (actor : ℕ) (i : Option Image) → is_some (own_begun actor (begun_of i)) ≡ is_some (own_image actor i)
absent_alike actor None = refl
absent_alike actor (Some x) = elim (x.actor == actor) as (λ b. is_some (if b then Some (begun x) else None)
    ≡ is_some (if b then Some x else None)) [
      | true ↦ refl
      | false ↦ refl
    ]

-- the actor's image is there exactly where it is held
pub image_alike : (actor : ℕ) (h : Held) (c : Core) → IsCore h c → is_some (own_begun actor h.image) ≡ is_some (sight actor c).image
image_alike actor h c is = ap (λ (o : Option BegunImage). is_some (own_begun actor o)) (sym is.image) ∙ absent_alike actor c.image

-- ---- how far it goes

-- less is left of the payload
pub record IsLess (old new : ℕ) (phase : Phase) (len : ℕ) : Type 0 where
  pub less : new < old
  pub going : IsGoing phase
  pub within : IsWithin phase len

less_at : (n done len : ℕ) → done < n → done < len → IsLess (len - done) (unwritten_at (written_to n len) len) (written_to n len) len
less_at n done len a b = elim (nat_le len n) as (λ t. nat_le len n ≡ t → IsLess (len - done) (unwritten_at (if t then Durable else Written n) len) (if t then Durable else Written n) len) [
  | true ↦ λ e. record { less = omega (arith, b); going = tt; within = tt }
  | false ↦ λ e. let more : n < len = leb-false len n e in record { less = omega (arith, a, b, more); going = tt; within = more }
] refl

pub goes_less : (phase : Phase) (len : ℕ) → IsGoing phase → IsWithin phase len → (phase ≡ Durable → ⊥)
    → IsLess (unwritten_at phase len) (unwritten_at (further phase len) len) (further phase len) len
goes_less Begun len going within not = absurd going
goes_less (Written done) len going within not = less_at (done + 65536) done len (omega arith) within
goes_less Durable len going within not = absurd (not refl)
goes_less Open len going within not = absurd going
goes_less Failed len going within not = absurd going

-- the first piece of the payload is written
pub first_going : (n len : ℕ) → IsGoing (written_to n len) × IsWithin (written_to n len) len
first_going n len = elim (nat_le len n) as (λ t. nat_le len n ≡ t → IsGoing (if t then Durable else Written n) × IsWithin (if t then Durable else Written n) len) [
  | true ↦ λ e. (tt, tt)
  | false ↦ λ e. (tt, leb-false len n e)
] refl

-- ---- what the vault did

-- it began a checkpoint, whatever is answered
pub begins_told : (o n : Option History) (was vault after next : State Inv) (begun : ℕ × ℕ) (answer : ImageReply) → was ≡ vault → next ≡ after
    → (let r : Result (ℕ × ℕ) Refusal = Ok begun in Told o n (Begins meaning was r after)) → (let r : Result ImageReply Refusal = Ok answer in Told o n (Begins meaning vault r next))
begins_told o n was vault after next begun answer is_was is_next t =
    subst (λ (v : State Inv). let r : Result ImageReply Refusal = Ok answer in Told o n (Begins meaning v r next)) is_was
    (subst (λ (v : State Inv). let r : Result ImageReply Refusal = Ok answer in Told o n (Begins meaning was r v)) (sym is_next)
    (told_map o n (let r : Result (ℕ × ℕ) Refusal = Ok begun in Begins meaning was r after) (let r : Result ImageReply Refusal = Ok answer in Begins meaning was r after)
    (λ h k r. record { goes = r.goes; begun = r.begun; since = r.since; left = r.left }) t))

-- or it refused to
pub refused_told : (o n : Option History) (was vault next : State Inv) (e : Refusal) → was ≡ vault
    → (let r : Result (ℕ × ℕ) Refusal = Err e in Told o n (Begins meaning was r next)) → (let r : Result ImageReply Refusal = Err e in Told o n (Begins meaning vault r next))
refused_told o n was vault next e is_was t =
    subst (λ (v : State Inv). let r : Result ImageReply Refusal = Err e in Told o n (Begins meaning v r next)) is_was
    (told_map o n (let r : Result (ℕ × ℕ) Refusal = Err e in Begins meaning was r next) (let r : Result ImageReply Refusal = Err e in Begins meaning was r next)
    (λ h k r. record { goes = r.goes; begun = tt; since = r.since; left = r.left }) t)

-- where none is in progress nothing is written
pub no_job : {S : Type 0} (told : S → Option History) (moment : S → ℕ) (faults : S → ℕ → ℕ) (hall : Hall S) → ((m : Machine) × Is told moment faults hall m) → foremost (ended_at (moment hall.store) hall.held) ≡ None
    → hall.held.image ≡ None → hall.held.job ≡ None
no_job told moment faults hall (m, is) free none =
    (nothing_pends m.core.base.number hall.held.vault.generation hall.held.vault.pending hall.held.job
    (subst (λ (i : Option Image). IsImage m.core.base.number hall.held.vault.generation hall.held.vault.pending hall.held.job i) (no_image m.core.image (is.core.image ∙ none))
    (is.core.is_image (none_halted (moment hall.store) hall.held free)))).1

pub no_writer : (o : Option Job) → is_some o ≡ false → o ≡ None
no_writer None h = refl
no_writer (Some job) h = absurd cc
