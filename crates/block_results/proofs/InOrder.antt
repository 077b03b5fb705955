-- Where an actor's steps stand among the turns of several, one after the other; and that the number of the database doesn't fall.
use Rattle.std.proofs.Common.{◌≡◌, ◌∙◌, inl, inr, ℕ, ◌+◌, ◌≤◌, ◌==◌, Bool, true, false, if◌then◌else◌, Result, Ok, Err, List, [], ◌∷◌, ◌++◌, length, refl, sym, ap, subst, append_assoc, arith}
use Rattle.std.proofs.lemmas.Bool.{eqb-true}
use Rattle.std.proofs.lemmas.List.{append-nil, length-append}
use Rattle.entries.specs.declared.entry.Entry.{Entry}
use Rattle.kinds.specs.declared.refusal.Refusal.{Refusal}
use Rattle.line_results.specs.copy_attempts.Outcomes.{MetBy}
use Rattle.line_results.specs.Resting.{database}
use Rattle.steps.specs.Events.{Deed, Event}
use Rattle.steps.specs.Events.Deed.{OpenNew, OpenCopy, WritePiece, CopyPiece, Seal, Commit, DropTicket, ReadPiece, Ask, Image, Reuse, Force}
use Rattle.machine.proofs.Histories.{after-number}
use Rattle.machine.proofs.Moves.{Moved, entries_of, moves}
use Rattle.machine.specs.Alone.{Moves, with_contents}
use Rattle.machine.specs.Laws.{GoesWhereAimed}
use Rattle.machine.specs.Machine.{Case, OpensCopy, OpensNew, Places}
use Rattle.machine.specs.State.{Core, Machine, inventory}
use Rattle.machine.specs.Turns.{Turn, events_of}
use Rattle.space.specs.declared.aim.Aim.{Aim}
use Rattle.crew.specs.Ran.{Turned}
use Rattle.block_results.specs.Legal.{Passes}
use Rattle.block_results.specs.Refusing.{Meets}
use Rattle.block_results.proofs.BySteps.{core-left}
use Rattle.block_results.proofs.Turned.{turned-join, turned-more}

-- ---- the number of the database

-- transactions join behind those that were there, or none does
abbrev pub Grows : (old new : Core) → Type 0
Grows old new = (new.base ≡ old.base) × (more : List Entry) × (new.journal ≡ old.journal ++ more)

grows-none : (old new : Core) → new ≡ old → Grows old new
grows-none old new is = (ap (λ (c : Core). c.base) is, [], ap (λ (c : Core). c.journal) is ∙ sym (append-nil old.journal))

-- a step that asks for no place doesn't depend on placing
abbrev pub nowhere : Places
nowhere v s actor size a prefer avoid placed = ⊥

pub nowhere-aimed : GoesWhereAimed nowhere
nowhere-aimed v s actor size a prefer avoid place h = absurd h

grows-placed : (actor : ℕ) (d : Deed) (old new : Machine) → Case nowhere actor d old new → Grows old.core new.core
grows-placed actor d old new h = (let it : Moved actor old.contents d old.core new.core = moves nowhere nowhere-aimed actor d old new h in (it.base, entries_of actor it.joined, it.journal))

opens-new : (places : Places) (actor pool size prefer : ℕ) (old new : Machine) (answer : Result ℕ Refusal) → OpensNew places actor pool size prefer old new answer → Grows old.core new.core
opens-new places actor pool size prefer old new (Ok number) h =
    let is = h.2.1.3.core in (ap (λ (c : Core). c.base) is, [], ap (λ (c : Core). c.journal) is ∙ sym (append-nil old.core.journal))
opens-new places actor pool size prefer old new (Err e) h = elim h.2 as (λ _. Grows old.core new.core) [
  | inl s ↦ grows-none old.core new.core s.1.core
  | inr f ↦ absurd f.1
]

opens-copy : (places : Places) (actor object : ℕ) (a : Aim) (avoid : ℕ) (old new : Machine) (answer : Result ℕ Refusal) → OpensCopy places actor object a avoid old new answer → Grows old.core new.core
opens-copy places actor object a avoid old new (Ok number) h =
    let is = h.2.1.3.core in (ap (λ (c : Core). c.base) is, [], ap (λ (c : Core). c.journal) is ∙ sym (append-nil old.core.journal))
opens-copy places actor object a avoid old new (Err e) h = elim h.2 as (λ _. Grows old.core new.core) [
  | inl s ↦ grows-none old.core new.core s.1.core
  | inr f ↦ absurd f.1
]

grows : (places : Places) (actor : ℕ) (d : Deed) (old new : Machine) → Case places actor d old new → Grows old.core new.core
grows places actor (OpenNew pool size prefer answer) old new h = opens-new places actor pool size prefer old new answer h
grows places actor (OpenCopy object a avoid answer) old new h = opens-copy places actor object a avoid old new answer h
grows places actor (WritePiece number bytes answer) old new h = grows-placed actor (WritePiece number bytes answer) old new h
grows places actor (CopyPiece number answer) old new h = grows-placed actor (CopyPiece number answer) old new h
grows places actor (Seal number answer) old new h = grows-placed actor (Seal number answer) old new h
grows places actor (Commit asked numbers answer) old new h = grows-placed actor (Commit asked numbers answer) old new h
grows places actor (DropTicket number answer) old new h = grows-placed actor (DropTicket number answer) old new h
grows places actor (ReadPiece object kept from offset wanted answer) old new h = grows-placed actor (ReadPiece object kept from offset wanted answer) old new h
grows places actor (Ask query answer) old new h = grows-placed actor (Ask query answer) old new h
grows places actor (Image kind answer) old new h = grows-placed actor (Image kind answer) old new h
grows places actor (Reuse file answer) old new h = grows-placed actor (Reuse file answer) old new h
grows places actor (Force answer) old new h = grows-placed actor (Force answer) old new h

grows-then : (a b c : Core) → Grows a b → Grows b c → Grows a c
grows-then a b c (base, more, journal) (on, others, further) = (on ∙ base, more ++ others, further ∙ ap (λ (l : List Entry). l ++ others) journal ∙ append_assoc a.journal more others)

number-grows : (old new : Core) → Grows old new → (inventory old).number ≤ (inventory new).number
number-grows old new (base, more, journal) =
    let a : (inventory old).number ≡ old.base.number + length old.journal = after-number old.base old.journal in
    let b : (inventory new).number ≡ new.base.number + length new.journal = after-number new.base new.journal in
    let f : new.base.number ≡ old.base.number = ap (λ v. v.number) base in
    let l : length new.journal ≡ length old.journal + length more = ap length journal ∙ length-append old.journal more in
    omega (arith, a, b, f, l)

pub moved-number : (trusted : Type 0) (places : Places) (actor : ℕ) (e : Event) (old new : Machine) → Moves trusted places actor e old new → (database old).number ≤ (database new).number
moved-number trusted places actor e old new m =
    let core : new.core ≡ m.next.core = ap (λ (x : Machine). x.core) m.left ∙ core-left e.deed old.contents m.next in
    subst (λ (c : Core). (database old).number ≤ (inventory c).number) (sym core) (number-grows old.core m.next.core (grows places actor e.deed (with_contents m.seen old) m.next m.made.step))

-- transactions that were made stay
pub turned-grows : (trusted : Type 0) (places : Places) (turns : List Turn) (old new : Machine) → Turned trusted places turns old new → Grows old.core new.core
turned-grows trusted places [] old new is = grows-none old.core new.core (ap (λ (m : Machine). m.core) is)
turned-grows trusted places (t ∷ turns) old new (next, made, rest) =
    let core : next.core ≡ made.next.core = ap (λ (x : Machine). x.core) made.left ∙ core-left t.did.deed old.contents made.next in
    let one : Grows old.core made.next.core = grows places t.actor t.did.deed (with_contents made.seen old) made.next made.made.step in
    grows-then old.core next.core new.core (subst (λ (c : Core). Grows old.core c) (sym core) one) (turned-grows trusted places turns next new rest)

pub turned-number : (trusted : Type 0) (places : Places) (turns : List Turn) (old new : Machine) → Turned trusted places turns old new → (database old).number ≤ (database new).number
turned-number trusted places [] old new is = (let same : (database new).number ≡ (database old).number = ap (λ (m : Machine). (database m).number) is in omega (arith, same))
turned-number trusted places (t ∷ turns) old new (next, made, rest) =
    let one = moved-number trusted places t.actor t.did old next made in
    let more = turned-number trusted places turns next new rest in
    omega (arith, one, more)

-- ---- steps among the turns

module _ (trusted : Type 0) (places : Places) (actor : ℕ) where
  -- a step of the actor, and where it stands
  pub record Stood (Is : Deed → Type 0) (turns : List Turn) (old new : Machine) : Type 0 where
    pub turn : Turn
    pub mine : turn.actor ≡ actor
    pub is : Is turn.did.deed
    pub meets : Meets trusted places turns old new turn

  -- it is among all of these, with others around it
  abbrev meets-within : (first turns last all : List Turn) (start old new end : Machine) (t : Turn) → all ≡ first ++ (turns ++ last) → Turned trusted places first start old → Turned trusted places last new end
      → Meets trusted places turns old new t → Meets trusted places all start end t
  meets-within first turns last all start old new end t is led leads m = record {
    front = first ++ m.front;
    back = m.back ++ last;
    parts = is ∙ ap (λ (l : List Turn). first ++ (l ++ last)) m.parts ∙ ap (λ (l : List Turn). first ++ l) (append_assoc m.front (t ∷ m.back) last) ∙ sym (append_assoc first m.front ((t ∷ m.back) ++ last));
    before = m.before;
    after = m.after;
    led = turned-join trusted places first m.front start old m.before led m.led;
    made = m.made;
    leads = turned-join trusted places m.back last m.after new end m.leads leads;
  }

  abbrev pub stood-within : (Is : Deed → Type 0) (first turns last all : List Turn) (start old new end : Machine) → all ≡ first ++ (turns ++ last) → Turned trusted places first start old → Turned trusted places last new end
      → Stood Is turns old new → Stood Is all start end
  stood-within Is first turns last all start old new end is led leads s =
      record { turn = s.turn; mine = s.mine; is = s.is; meets = meets-within first turns last all start old new end s.turn is led leads s.meets }

  pub stood : (Is : Deed → Type 0) (turns : List Turn) (old new : Machine) → Turned trusted places turns old new → MetBy Is (events_of actor turns) → Stood Is turns old new
  stood Is [] old new h met = absurd met
  stood Is (t ∷ turns) old new (next, made, rest) met =
      elim (t.actor == actor) as (λ b. (t.actor == actor) ≡ b → MetBy Is (if b then t.did ∷ events_of actor turns else events_of actor turns) → Stood Is (t ∷ turns) old new) [
        | true ↦ λ e m. elim m as (λ _. Stood Is (t ∷ turns) old new) [
          | inl is ↦ record { turn = t; mine = eqb-true t.actor actor e; is = is; meets = record { front = []; back = turns; parts = refl; before = old; after = next; led = refl; made = made; leads = rest } }
          | inr later ↦ behind (stood Is turns next new rest later)
        ]
        | false ↦ λ e m. behind (stood Is turns next new rest m)
      ] refl met
    where
      behind : Stood Is turns next new → Stood Is (t ∷ turns) old new
      behind s = stood-within Is (t ∷ []) turns [] (t ∷ turns) old next new new (ap (λ (l : List Turn). t ∷ l) (sym (append-nil turns))) (next, made, refl) refl s

  -- the states that it met and left are passed
  pub passes-before : (Is : Deed → Type 0) (turns : List Turn) (old new : Machine) (s : Stood Is turns old new) → Passes trusted places turns old new s.meets.before
  passes-before Is turns old new s = (s.meets.front, s.turn ∷ s.meets.back, s.meets.parts, s.meets.led, (s.meets.after, s.meets.made, s.meets.leads))

  pub passes-after : (Is : Deed → Type 0) (turns : List Turn) (old new : Machine) (s : Stood Is turns old new) → Passes trusted places turns old new s.meets.after
  passes-after Is turns old new s = (
    s.meets.front ++ (s.turn ∷ []),
    s.meets.back,
    s.meets.parts ∙ sym (append_assoc s.meets.front (s.turn ∷ []) s.meets.back),
    turned-more trusted places s.meets.front s.turn old s.meets.before s.meets.after s.meets.led s.meets.made,
    s.meets.leads,
  )

  -- two steps, the one behind the other
  pub record Two (P Q : Deed → Type 0) (turns : List Turn) (old new : Machine) : Type 0 where
    pub one : Stood P turns old new
    pub two : Stood Q turns old new
    pub rises : (database one.meets.after).number ≤ (database two.meets.before).number

  -- the turns of some of the actor's steps, and those behind them
  pub record Split (xs ys : List Event) (turns : List Turn) (old new : Machine) : Type 0 where
    pub mine : List Turn
    pub others : List Turn
    pub mid : Machine
    pub parts : turns ≡ mine ++ others
    pub own : events_of actor mine ≡ xs
    pub rest : events_of actor others ≡ ys
    pub led : Turned trusted places mine old mid
    pub leads : Turned trusted places others mid new

  -- one more turn in front
  split-more : (t : Turn) (turns : List Turn) (xs ys zs : List Event) (old next new : Machine) → Moves trusted places t.actor t.did old next → ((mine : List Turn) → events_of actor mine ≡ xs → events_of actor (t ∷ mine) ≡ zs)
      → Split xs ys turns next new → Split zs ys (t ∷ turns) old new
  split-more t turns xs ys zs old next new made own s = record {
    mine = t ∷ s.mine;
    others = s.others;
    mid = s.mid;
    parts = ap (λ (l : List Turn). t ∷ l) s.parts;
    own = own s.mine s.own;
    rest = s.rest;
    led = (next, made, s.led);
    leads = s.leads;
  }

  own-turn : (t : Turn) (x : Event) (xs : List Event) → (t.actor == actor) ≡ true → t.did ≡ x → (mine : List Turn) → events_of actor mine ≡ xs → events_of actor (t ∷ mine) ≡ x ∷ xs
  own-turn t x xs is same mine h = ap (λ (b : Bool). if b then t.did ∷ events_of actor mine else events_of actor mine) is ∙ ap (λ (e : Event). e ∷ events_of actor mine) same ∙ ap (λ (l : List Event). x ∷ l) h

  other-turn : (t : Turn) (xs : List Event) → (t.actor == actor) ≡ false → (mine : List Turn) → events_of actor mine ≡ xs → events_of actor (t ∷ mine) ≡ xs
  other-turn t xs is mine h = ap (λ (b : Bool). if b then t.did ∷ events_of actor mine else events_of actor mine) is ∙ h

  head-same : (a b : Event) (xs ys : List Event) → a ∷ xs ≡ b ∷ ys → a ≡ b
  head-same a b xs ys h = cc

  tail-same : (a b : Event) (xs ys : List Event) → a ∷ xs ≡ b ∷ ys → xs ≡ ys
  tail-same a b xs ys h = cc

  pub split : (xs ys : List Event) (turns : List Turn) (old new : Machine) → events_of actor turns ≡ xs ++ ys → Turned trusted places turns old new → Split xs ys turns old new
  split [] ys turns old new is h = record { mine = []; others = turns; mid = old; parts = refl; own = refl; rest = is; led = refl; leads = h }
  split (x ∷ xs) ys [] old new is h = absurd cc
  split (x ∷ xs) ys (t ∷ turns) old new is (next, made, rest) =
      elim (t.actor == actor) as (λ b. (t.actor == actor) ≡ b → (if b then t.did ∷ events_of actor turns else events_of actor turns) ≡ x ∷ (xs ++ ys) → Split (x ∷ xs) ys (t ∷ turns) old new) [
        | true ↦ λ e same.
            split-more t turns xs ys (x ∷ xs) old next new made (own-turn t x xs e (head-same t.did x (events_of actor turns) (xs ++ ys) same))
            (split xs ys turns next new (tail-same t.did x (events_of actor turns) (xs ++ ys) same) rest)
        | false ↦ λ e same. split-more t turns (x ∷ xs) ys (x ∷ xs) old next new made (other-turn t (x ∷ xs) e) (split (x ∷ xs) ys turns next new same rest)
      ] refl is
