-- A process of a job that makes further copies of objects, or moves copies, and that has room for these and can read them: no step of it is refused as that of an object that can't be copied.
use Rattle.std.proofs.Common.{◌≡◌, ◌∙◌, inl, inr, ℕ, ◌+◌, ◌^◌, ◌==◌, nat_lt, if◌then◌else◌, Bool, true, false, List, [], ◌∷◌, ◌++◌, Some, Result, Ok, Err, refl, ap, subst}
use Rattle.std.proofs.lemmas.Bool.{eqb-true}
use Rattle.std.specs.List.{AllByRecursion}
use Rattle.kinds.specs.declared.refusal.Refusal.{Refusal}
use Rattle.kinds.specs.declared.refusal.Refusal.TheVariants as refused
use Rattle.entries.specs.declared.change.Change.{Change}
use Rattle.inventory_rows.specs.Search.{version}
use Rattle.steps.specs.declared.asked.Asked.{Asked}
use Rattle.steps.specs.declared.asked.Asked.TheVariants as asked
use Rattle.steps.specs.Events.{Deed, Event, refusal}
use Rattle.steps.specs.Events.Deed.{Ask, Commit, CopyPiece, DropTicket, Force, OpenCopy, Seal}
use Rattle.machine.specs.Machine.{Places, asked_change, ended}
use Rattle.machine.specs.Pieces.{RoseAt}
use Rattle.machine.specs.State.{Core, Machine, inventory, object_of, sight}
use Rattle.machine.specs.Turns.{Turn, events_of}
use Rattle.crew.specs.Ran.{Turned}
use Rattle.line_results.specs.copy_runs.Runs.{failing_in, is_failing}
use Rattle.line_results.specs.Resting.{RoseFrom}
use Rattle.line_results.proofs.Copyable.{NoneFailing, none-counted}
use Rattle.line_results.proofs.Copying.{AllCopy, Copies}
use Rattle.line_results.proofs.Harmless.{AreHarmless, IsGentle, IsHarmless, h-answered, h-as, h-asking, h-commit, h-copying, h-dropping, h-ended, h-opening, h-others, h-sealing, h-unless, joined-gentle, read-never}
use Rattle.block_results.specs.Refusing.{Failed, HasNoPlace, HasRisen, IsRefusedFor, IsUnread, Meets, bounds, held_reasons, own_reasons}
use Rattle.block_results.specs.Room.{HasRoomForCopies}
use Rattle.block_results.proofs.Turned.{have-causes, rose-within, turned_on}

-- ---- what a step is refused for

-- a change without tickets is the same whoever asks for it
asked-as : (actor : ℕ) (a : Asked) (c : Core) → asked_change 0 a [] c ≡ asked_change actor a [] c
asked-as actor (asked.Plain x) c = refl
asked-as actor (asked.Backup filespace items) c = refl
asked-as actor (asked.Hold filespace items) c = refl
asked-as actor asked.Placed c = refl

failed-harmless : (actor : ℕ) (d : Deed) (before after : Machine) (e : Refusal) → ((file : ℕ) → RoseAt before.counts after.counts file → ⊥) → (IsUnread actor d before after → ⊥) → Failed actor d before after e → IsHarmless e
failed-harmless actor d before after (refused.WriteFault file) never unread h = absurd (never file h)
failed-harmless actor d before after (refused.LogFault file count) never unread h = refl
failed-harmless actor d before after refused.Unavailable never unread h = absurd (unread h)
failed-harmless actor d before after refused.InventoryFull never unread h = refl
failed-harmless actor d before after e never unread h = absurd h

for-harmless : (places : Places) (actor : ℕ) (d : Deed) (before after : Machine) (e : Refusal) → AreHarmless (own_reasons actor d (sight actor before.core)) → (HasNoPlace places actor d before e → IsHarmless e)
    → AreHarmless (held_reasons actor d before.core) → AreHarmless (bounds d before.core) → ((file : ℕ) → RoseAt before.counts after.counts file → ⊥) → (IsUnread actor d before after → ⊥) → IsRefusedFor places actor d before after e → IsHarmless e
for-harmless places actor d before after e own place held bound never unread (inl h) = h-answered (own_reasons actor d (sight actor before.core)) e own h
for-harmless places actor d before after e own place held bound never unread (inr (inl h)) = place h
for-harmless places actor d before after e own place held bound never unread (inr (inr (inl h))) = h-answered (held_reasons actor d before.core) e held h
for-harmless places actor d before after e own place held bound never unread (inr (inr (inr (inl h)))) = h-answered (bounds d before.core) e bound h
for-harmless places actor d before after e own place held bound never unread (inr (inr (inr (inr (inl h))))) = h-answered (ended before) e (h-ended before) h
for-harmless places actor d before after e own place held bound never unread (inr (inr (inr (inr (inr (inl h)))))) = failed-harmless actor d before after e never unread h
for-harmless places actor d before after e own place held bound never unread (inr (inr (inr (inr (inr (inr h)))))) = h-as e refused.Memory refl h

-- ---- some of the steps

all-front : {A : Type 0} (P : A → Type 0) (xs ys : List A) → AllByRecursion P (xs ++ ys) → AllByRecursion P xs
all-front P [] ys h = tt
all-front P (x ∷ xs) ys h = (h.0, all-front P xs ys h.1)

all-back : {A : Type 0} (P : A → Type 0) (xs ys : List A) → AllByRecursion P (xs ++ ys) → AllByRecursion P ys
all-back P [] ys h = h
all-back P (x ∷ xs) ys h = all-back P xs ys h.1

all-then : {A : Type 0} (P Q : A → Type 0) (xs : List A) → AllByRecursion (λ x. P x → Q x) xs → AllByRecursion P xs → AllByRecursion Q xs
all-then P Q [] so h = tt
all-then P Q (x ∷ xs) so h = (so.0 h.0, all-then P Q xs so.1 h.1)

-- ---- a process

module _ (trusted : Type 0) (places : Places) (actor : ℕ) (turns : List Turn) (old new : Machine) (ran : Turned trusted places turns old new) (room : HasRoomForCopies trusted places actor turns old new)
    (sound : (file : ℕ) → RoseFrom old new file → ⊥) (moving : Bool) (P : Change → Type 0) (gentle : (c : Change) → P c → IsGentle c) where
  -- no count rose in a step of them
  never-rose : (t : Turn) (m : Meets trusted places turns old new t) (file : ℕ) → RoseAt m.before.counts m.after.counts file → ⊥
  never-rose t m file rose = sound file (rose-within old m.before m.after new file (turned_on trusted places m.front old m.before m.led) rose (turned_on trusted places m.back m.after new m.leads))

  gentle-by : (a : Asked) (tickets : List ℕ) (answer : Result ℕ Refusal) (k : Core) → Copies moving P (Commit a tickets answer) → (c : Change) → asked_change actor a tickets k ≡ Some c → IsGentle c
  gentle-by a tickets answer k (inl (number, is, one)) c joins = joined-gentle actor tickets c k (subst (λ (x : Asked). asked_change actor x tickets k ≡ Some c) is joins)
  gentle-by a tickets answer k (inr (none, so)) c joins = gentle c (so c k (asked-as actor a k ∙ subst (λ (ts : List ℕ). asked_change actor a ts k ≡ Some c) none joins))

  abbrev Caused : Turn → Type 0
  Caused t = (why : Refusal) → refusal t.did.deed ≡ Some why → (m : Meets trusted places turns old new t) × IsRefusedFor places t.actor t.did.deed m.before m.after why × HasRisen t.did.deed why old new

  module _ (t : Turn) (mine : t.actor ≡ actor) (caused : Caused t) where
    abbrev For : Deed → Refusal → Type 0
    For d e = (m : Meets trusted places turns old new t) × IsRefusedFor places actor d m.before m.after e

    cause-of : (d : Deed) (e : Refusal) → t.did.deed ≡ d → refusal d ≡ Some e → For d e
    cause-of d e is so =
        let c = caused e (ap refusal is ∙ so) in
        (c.0, subst (λ (a : ℕ). IsRefusedFor places a d c.0.before c.0.after e) mine (subst (λ (x : Deed). IsRefusedFor places t.actor x c.0.before c.0.after e) is c.1))

    none-unread : (d : Deed) (e : Refusal) (f : For d e) → AreHarmless (own_reasons actor d (sight actor f.0.before.core)) → (HasNoPlace places actor d f.0.before e → IsHarmless e) → AreHarmless (held_reasons actor d f.0.before.core)
        → AreHarmless (bounds d f.0.before.core) → (IsUnread actor d f.0.before f.0.after → ⊥) → IsHarmless e
    none-unread d e f own place held bound unread = for-harmless places actor d f.0.before f.0.after e own place held bound (never-rose t f.0) unread f.1

    deed-harmless : (d : Deed) → t.did.deed ≡ d → Copies moving P d → is_failing d ≡ false
    deed-harmless (Ask query (Ok answer)) is kind = refl
    deed-harmless (Ask query (Err e)) is kind = (let f = cause-of (Ask query (Err e)) e is refl in none-unread (Ask query (Err e)) e f (h-asking query (inventory f.0.before.core)) (λ h. absurd h) tt tt (λ h. h))
    deed-harmless (Force (Ok number)) is kind = refl
    deed-harmless (Force (Err e)) is kind = (let f = cause-of (Force (Err e)) e is refl in none-unread (Force (Err e)) e f tt (λ h. absurd h) tt tt (λ h. h))
    deed-harmless (OpenCopy object a avoid (Ok number)) is kind = refl
    deed-harmless (OpenCopy object a avoid (Err e)) is kind =
        let f = cause-of (OpenCopy object a avoid (Err e)) e is refl in
        none-unread (OpenCopy object a avoid (Err e)) e f (h-opening object a (sight actor f.0.before.core)) (λ h. room.placed t f.0 mine object a avoid (Err e) is e h) tt
        (h-unless (nat_lt (f.0.before.core.next_ticket + 1) (2 ^ 62)) refused.InventoryFull refl) (λ h. h)
    deed-harmless (CopyPiece number (Ok count)) is kind = refl
    deed-harmless (CopyPiece number (Err e)) is kind =
        let f = cause-of (CopyPiece number (Err e)) e is refl in
        none-unread (CopyPiece number (Err e)) e f (h-copying number (sight actor f.0.before.core)) (λ h. absurd h) tt tt
        (λ h. read-never f.0.before f.0.after h.0 (room.read t f.0 mine number (Err e) h.0 is h.1) (never-rose t f.0) (version (object_of h.0.purpose) (inventory f.0.before.core)) refl h.2)
    deed-harmless (Seal number (Ok done)) is kind = refl
    deed-harmless (Seal number (Err e)) is kind =
        (let f = cause-of (Seal number (Err e)) e is refl in none-unread (Seal number (Err e)) e f (h-sealing number (sight actor f.0.before.core)) (λ h. absurd h) tt tt (λ h. h))
    deed-harmless (DropTicket number (Ok done)) is kind = refl
    deed-harmless (DropTicket number (Err e)) is kind =
        (let f = cause-of (DropTicket number (Err e)) e is refl in none-unread (DropTicket number (Err e)) e f (h-dropping number (sight actor f.0.before.core)) (λ h. absurd h) tt tt (λ h. h))
    deed-harmless (Commit a tickets (Ok number)) is kind = refl
    deed-harmless (Commit a tickets (Err e)) is kind =
        let f = cause-of (Commit a tickets (Err e)) e is refl in
        let k : Core = f.0.before.core in
        let gentle_here : (c : Change) → asked_change actor a tickets k ≡ Some c → IsGentle c = gentle-by a tickets (Err e) k kind in
        none-unread (Commit a tickets (Err e)) e f (h-commit actor a tickets (sight actor k) gentle_here (λ c joins. room.short t f.0 mine a tickets (Err e) c is joins)) (λ h. absurd h)
        (h-others (asked_change actor a tickets k) k gentle_here) tt (λ h. h)
    deed-harmless d is kind = absurd kind

  abbrev IsCalmly : Event → Type 0
  IsCalmly e = Copies moving P e.deed → is_failing e.deed ≡ false

  all-harmless : (some : List Turn) → AllByRecursion Caused some → AllByRecursion IsCalmly (events_of actor some)
  all-harmless [] h = tt
  all-harmless (t ∷ some) h = elim (t.actor == actor) as (λ b. (t.actor == actor) ≡ b → AllByRecursion IsCalmly (if b then t.did ∷ events_of actor some else events_of actor some)) [
    | true ↦ λ is. (deed-harmless t (eqb-true t.actor actor is) h.0 t.did.deed refl, all-harmless some h.1)
    | false ↦ λ is. all-harmless some h.1
  ] refl

  -- none of the process's steps was refused so, where these are among its actor's
  pub refuses-none : (front events back : List Event) → events_of actor turns ≡ front ++ (events ++ back) → AllCopy moving P events → failing_in events ≡ 0
  refuses-none front events back cut all =
      let calm : AllByRecursion IsCalmly (front ++ (events ++ back)) = subst (λ (l : List Event). AllByRecursion IsCalmly l) cut (all-harmless turns (have-causes trusted places turns old new ran)) in
      let own : AllByRecursion IsCalmly events = all-front IsCalmly events back (all-back IsCalmly front (events ++ back) calm) in
      let harmless : NoneFailing events = all-then (λ (e : Event). Copies moving P e.deed) (λ (e : Event). is_failing e.deed ≡ false) events own all in
      none-counted events harmless
