-- The tickets of the script, for new objects, one after the other: each has a number and an object of its own; so the objects that were stored by some of them have these tickets' bytes, and
-- keep them whatever comes of the others.
use Rattle.std.proofs.Common.{◌≡◌, ◌⊎◌, inl, inr, ℕ, ◌+◌, ◌==◌, ◌<◌, ◌&&◌, ◌||◌, not, Bool, true, false, if◌then◌else◌, find, List, [], ◌∷◌, ◌++◌, length, map, nat_le, is_some, Option, None, Some, refl, sym, ap, subst, ◌∙◌, arith}
use Rattle.std.proofs.lemmas.Bool.{and_parts, eq-eqb, eqb-true, false≢true, ne_eqb}
use Rattle.std.proofs.lemmas.Option.{same_Some}
use Rattle.std.specs.Cmp.Lexicographic.{same_text}
use Rattle.std.specs.List.{AllByRecursion, flat_map, list_any}
use Rattle.std.specs.Option.{option_map_or}
use Rattle.sha2.specs.Sha256.{sha256}
use Rattle.kinds.specs.Names.{is_same_name}
use Rattle.kinds.specs.Refusals.{bad_value, foremost, unless}
use Rattle.kinds.specs.ValueForms.{digest_with}
use Rattle.kinds.specs.declared.refusal.Refusal.{Refusal}
use Rattle.kinds.specs.declared.refusal.Refusal.TheVariants as refused
use Rattle.kinds.specs.declared.segment.Digest.{Digest}
use Rattle.entries.specs.change_items.declared.items.NewVersion.{NewVersion}
use Rattle.entries.specs.declared.change.Change.{Change}
use Rattle.entries.specs.declared.change.Change.TheVariants as change
use Rattle.entries.specs.declared.entry.Entry.{Entry}
use Rattle.inventory_rules.specs.Versions.{name_once}
use Rattle.steps.specs.declared.asked.Asked.{Asked}
use Rattle.steps.specs.declared.asked.Asked.TheVariants as asked
use Rattle.steps.specs.declared.asked.Item.{Item}
use Rattle.machine.specs.Causes.{are_there, asked_refused, commit_refused, digest_refused, digests_refused, most_bytes, of_ticket, of_tickets, seal_refused, ticket_in_use, write_refused}
use Rattle.machine.specs.Changes.{all_tickets, are_so_many, paired, scratch_of, version_from}
use Rattle.machine.specs.Machine.{asked_change, stored_by, storing_contents}
use Rattle.machine.specs.State.{Core, Place, Sight, Ticket, digest_of, inventory, is_among, is_storing, is_ticket, object_of, own_tickets, sealed, sight, storing, ticket, took, without}
use Rattle.machine.proofs.Elsewhere.{append-none, none-held}
use Rattle.line_results.specs.Resting.{entry}
use Rattle.line_results.specs.Trees.{new_versions}
use Rattle.line_results.proofs.Spent.{all-map, all-push, all-same, all-without, not-among}

-- ---- lists of tickets

-- it is one of these
abbrev pub Has : Ticket → List Ticket → Type 0
Has t [] = ⊥
Has t (x ∷ tickets) = (x ≡ t) ⊎ Has t tickets

pub all-has : (P : Ticket → Type 0) (tickets : List Ticket) → AllByRecursion P tickets → (t : Ticket) → Has t tickets → P t
all-has P [] all t h = absurd h
all-has P (x ∷ tickets) all t (inl is) = subst (λ (y : Ticket). P y) is all.0
all-has P (x ∷ tickets) all t (inr h) = all-has P tickets all.1 t h

pub all-from : (P Q : Ticket → Type 0) (tickets : List Ticket) → ((t : Ticket) → Has t tickets → P t → Q t) → AllByRecursion P tickets → AllByRecursion Q tickets
all-from P Q [] so all = tt
all-from P Q (x ∷ tickets) so all = (so x (inl refl) all.0, all-from P Q tickets (λ t h p. so t (inr h) p) all.1)

all-in : (tickets : List Ticket) → AllByRecursion (λ t. Has t tickets) tickets
all-in [] = tt
all-in (x ∷ tickets) = (inl refl, all-from (λ t. Has t tickets) (λ t. Has t (x ∷ tickets)) tickets (λ t h k. inr k) (all-in tickets))

-- two tickets for other objects, with other numbers
abbrev pub IsApart : Ticket → Ticket → Type 0
IsApart t u = ((object_of t.purpose == object_of u.purpose) ≡ false) × ((t.number == u.number) ≡ false)

-- each two of them are
abbrev pub AreApart : List Ticket → Type 0
AreApart [] = Unit {0}
AreApart (t ∷ tickets) = AllByRecursion (IsApart t) tickets × AreApart tickets

not-same : (a b : ℕ) → (a == b) ≡ false → a ≡ b → ⊥
not-same a b other same = absurd (false≢true (sym other ∙ eq-eqb a b same))

-- those with one number are one, and so are those for one object
pub one-number : (tickets : List Ticket) → AreApart tickets → (t u : Ticket) → Has t tickets → Has u tickets → t.number ≡ u.number → t ≡ u
one-number [] a t u h k same = absurd h
one-number (x ∷ tickets) a t u (inl p) (inl q) same = sym p ∙ q
one-number (x ∷ tickets) a t u (inl p) (inr k) same = absurd (not-same x.number u.number (all-has (IsApart x) tickets a.0 u k).1 (ap (λ (y : Ticket). y.number) p ∙ same))
one-number (x ∷ tickets) a t u (inr h) (inl q) same = absurd (not-same x.number t.number (all-has (IsApart x) tickets a.0 t h).1 (ap (λ (y : Ticket). y.number) q ∙ sym same))
one-number (x ∷ tickets) a t u (inr h) (inr k) same = one-number tickets a.1 t u h k same

pub one-object : (tickets : List Ticket) → AreApart tickets → (t u : Ticket) → Has t tickets → Has u tickets → object_of t.purpose ≡ object_of u.purpose → t ≡ u
one-object [] a t u h k same = absurd h
one-object (x ∷ tickets) a t u (inl p) (inl q) same = sym p ∙ q
one-object (x ∷ tickets) a t u (inl p) (inr k) same = absurd (not-same (object_of x.purpose) (object_of u.purpose) (all-has (IsApart x) tickets a.0 u k).0 (ap (λ (y : Ticket). object_of y.purpose) p ∙ same))
one-object (x ∷ tickets) a t u (inr h) (inl q) same = absurd (not-same (object_of x.purpose) (object_of t.purpose) (all-has (IsApart x) tickets a.0 t h).0 (ap (λ (y : Ticket). object_of y.purpose) q ∙ sym same))
one-object (x ∷ tickets) a t u (inr h) (inr k) same = one-object tickets a.1 t u h k same

apart-push : (tickets : List Ticket) (t : Ticket) → AreApart tickets → AllByRecursion (λ x. IsApart x t) tickets → AreApart (tickets ++ t ∷ [])
apart-push [] t a h = (tt, tt)
apart-push (x ∷ tickets) t a h = (all-push (IsApart x) tickets t a.0 h.0, apart-push tickets t a.1 h.1)

-- numbers and objects stay
abbrev IsAs : Ticket → Ticket → Type 0
IsAs t u = (u.number ≡ t.number) × (u.purpose ≡ t.purpose)

apart-as : (x t y u : Ticket) → IsAs x y → IsAs t u → IsApart x t → IsApart y u
apart-as x t y u a b h = (
  ap (λ p. object_of p == object_of u.purpose) a.1 ∙ ap (λ p. object_of x.purpose == object_of p) b.1 ∙ h.0,
  ap (λ n. n == u.number) a.0 ∙ ap (λ n. x.number == n) b.0 ∙ h.1,
)

apart-map : (f : Ticket → Ticket) → ((t : Ticket) → IsAs t (f t)) → (tickets : List Ticket) → AreApart tickets → AreApart (map f tickets)
apart-map f like [] a = tt
apart-map f like (x ∷ tickets) a = (all-map (IsApart x) (IsApart (f x)) f (λ t h. apart-as x t (f x) (f t) (like x) (like t) h) tickets a.0, apart-map f like tickets a.1)

apart-without : (numbers : List ℕ) (tickets : List Ticket) → AreApart tickets → AreApart (without 0 numbers tickets)
apart-without numbers [] a = tt
apart-without numbers (x ∷ tickets) a = elim (is_among 0 numbers x) as (λ b. AreApart (if not b then x ∷ without 0 numbers tickets else without 0 numbers tickets)) [
  | true ↦ apart-without numbers tickets a.1
  | false ↦ (all-without (IsApart x) (IsApart x) numbers (λ t so among. so) tickets a.0, apart-without numbers tickets a.1)
]

-- the one that is found is among them, with its number
pub found-has : (number : ℕ) (tickets : List Ticket) (t : Ticket) → ticket number (own_tickets 0 tickets) ≡ Some t → Has t tickets × (t.number ≡ number)
found-has number [] t is = absurd cc
found-has number (x ∷ tickets) t is =
    elim (x.actor == 0) as (λ b. ticket number (if b then x ∷ own_tickets 0 tickets else own_tickets 0 tickets) ≡ Some t → Has t (x ∷ tickets) × (t.number ≡ number)) [
      | true ↦ λ h.
          elim (x.number == number) as (λ b. (x.number == number) ≡ b → (if b then Some x else ticket number (own_tickets 0 tickets)) ≡ Some t → Has t (x ∷ tickets) × (t.number ≡ number)) [
            | true ↦ λ yes s. (let same : x ≡ t = same_Some x t s in (inl same, ap (λ (y : Ticket). y.number) (sym same) ∙ eqb-true x.number number yes))
            | false ↦ λ no s. (let r = found-has number tickets t s in (inr r.0, r.1))
          ] refl h
      | false ↦ λ h. (let r = found-has number tickets t h in (inr r.0, r.1))
    ] is

-- ---- what is known of tickets and of stored objects

-- The script's, for an object and with a number that were drawn already; where it is sealed it is full.
abbrev pub IsFull : (objects numbers : ℕ) → Ticket → Type 0
IsFull objects numbers t = (t.actor ≡ 0) × (is_storing t.purpose ≡ true) × (object_of t.purpose < objects) × (t.number < numbers) × (t.is_sealed ≡ true → length t.bytes ≡ t.size)

-- these bytes are as many as the item says, with its digest
abbrev pub Says : (ℕ → List ℕ) → NewVersion → Type 0
Says contents i = (i.size ≡ length (contents i.object)) × (i.digest ≡ digest_with (sha256 (contents i.object)))

-- so is its object, which was drawn already, and no ticket is for it
abbrev pub IsStored : (contents : ℕ → List ℕ) → (tickets : List Ticket) → (objects : ℕ) → NewVersion → Type 0
IsStored contents tickets objects i = Says contents i × (i.object < objects) × AllByRecursion (λ t. stored_by i.object t ≡ false) tickets

abbrev pub EachItem : (NewVersion → Type 0) → List Entry → Type 0
EachItem P entries = AllByRecursion (λ e. AllByRecursion P (new_versions e.change)) entries

items-same : (P Q : NewVersion → Type 0) → ((i : NewVersion) → P i → Q i) → (items : List NewVersion) → AllByRecursion P items → AllByRecursion Q items
items-same P Q so [] all = tt
items-same P Q so (i ∷ items) all = (so i all.0, items-same P Q so items all.1)

pub each-same : (P Q : NewVersion → Type 0) → ((i : NewVersion) → P i → Q i) → (entries : List Entry) → EachItem P entries → EachItem Q entries
each-same P Q so [] all = tt
each-same P Q so (e ∷ entries) all = (items-same P Q so (new_versions e.change) all.0, each-same P Q so entries all.1)

each-more : (P : NewVersion → Type 0) (entries : List Entry) (c : Change) → EachItem P entries → AllByRecursion P (new_versions c) → EachItem P (entries ++ entry c ∷ [])
each-more P [] c all more = (more, tt)
each-more P (e ∷ entries) c all more = (all.0, each-more P entries c all.1 more)

-- What these transactions stored has its bytes, and the tickets are such, and apart.
abbrev pub Kept : (later : List Entry) → (tickets : List Ticket) → (objects numbers : ℕ) → (contents : ℕ → List ℕ) → Type 0
Kept later tickets objects numbers contents = EachItem (IsStored contents tickets objects) later × AllByRecursion (IsFull objects numbers) tickets × AreApart tickets

pub kept-as : (later : List Entry) (tickets : List Ticket) (objects numbers : ℕ) (contents other : ℕ → List ℕ) → other ≡ contents → Kept later tickets objects numbers contents → Kept later tickets objects numbers other
kept-as later tickets objects numbers contents other same k = subst (λ (f : ℕ → List ℕ). Kept later tickets objects numbers f) (sym same) k

-- ---- steps

-- some go
pub kept-without : (numbers : List ℕ) (later : List Entry) (tickets : List Ticket) (objects drawn : ℕ) (contents : ℕ → List ℕ) → Kept later tickets objects drawn contents → Kept later (without 0 numbers tickets) objects drawn contents
kept-without numbers later tickets objects drawn contents (stored, full, apart) = (
  each-same (IsStored contents tickets objects) (IsStored contents (without 0 numbers tickets) objects)
      (λ i h. (h.0, h.1, all-without (λ t. stored_by i.object t ≡ false) (λ t. stored_by i.object t ≡ false) numbers (λ t so among. so) tickets h.2)) later stored,
  all-without (IsFull objects drawn) (IsFull objects drawn) numbers (λ t so among. so) tickets full,
  apart-without numbers tickets apart,
)

by-purpose : (object : ℕ) (t u : Ticket) → u.purpose ≡ t.purpose → stored_by object t ≡ false → stored_by object u ≡ false
by-purpose object t u same h = ap (λ p. is_storing p && object_of p == object) same ∙ h

-- each becomes another with the same number and for the same object
pub kept-map : (f : Ticket → Ticket) → ((t : Ticket) → IsAs t (f t)) → (later : List Entry) (tickets : List Ticket) (objects drawn : ℕ) (contents : ℕ → List ℕ)
    → ((t : Ticket) → Has t tickets → IsFull objects drawn t → IsFull objects drawn (f t)) → Kept later tickets objects drawn contents → Kept later (map f tickets) objects drawn contents
kept-map f like later tickets objects drawn contents so (stored, full, apart) = (
  each-same (IsStored contents tickets objects) (IsStored contents (map f tickets) objects)
      (λ i h. (h.0, h.1, all-map (λ t. stored_by i.object t ≡ false) (λ t. stored_by i.object t ≡ false) f (λ t k. by-purpose i.object t (f t) (like t).1 k) tickets h.2)) later stored,
  full-map tickets (λ t h. so t h) full,
  apart-map f like tickets apart,
) where
  full-map : (ts : List Ticket) → ((t : Ticket) → Has t ts → IsFull objects drawn t → IsFull objects drawn (f t)) → AllByRecursion (IsFull objects drawn) ts → AllByRecursion (IsFull objects drawn) (map f ts)
  full-map [] each all = tt
  full-map (t ∷ ts) each all = (each t (inl refl) all.0, full-map ts (λ u h. each u (inr h)) all.1)

-- one comes, with the next number and for the next object
pub kept-push : (size : ℕ) (place : Place) (later : List Entry) (tickets : List Ticket) (objects drawn : ℕ) (contents : ℕ → List ℕ) → Kept later tickets objects drawn contents
    → Kept later (tickets ++ (record { number = drawn; actor = 0; purpose = storing objects; size = size; place = place; bytes = []; is_sealed = false }) ∷ []) (objects + 1) (drawn + 1) contents
kept-push size place later tickets objects drawn contents (stored, full, apart) =
    let t : Ticket = record { number = drawn; actor = 0; purpose = storing objects; size = size; place = place; bytes = []; is_sealed = false } in (
      each-same (IsStored contents tickets objects) (IsStored contents (tickets ++ t ∷ []) (objects + 1))
          (λ i h. (let low : i.object < objects = h.1 in (h.0, omega (arith, low), all-push (λ x. stored_by i.object x ≡ false) tickets t h.2 (ne_eqb objects i.object (λ same. absurd (omega (arith, same, low))))))) later stored,
      all-push (IsFull (objects + 1) (drawn + 1)) tickets t
          (all-same (IsFull objects drawn) (IsFull (objects + 1) (drawn + 1)) (λ x h. (let low : object_of x.purpose < objects = h.2 in let less : x.number < drawn = h.3 in (h.0, h.1, omega (arith, low), omega (arith, less), h.4))) tickets full)
          (refl, refl, omega arith, omega arith, λ is. absurd (false≢true is)),
      apart-push tickets t apart
          (all-same (IsFull objects drawn) (λ x. IsApart x t)
          (λ x h. (let low : object_of x.purpose < objects = h.2 in let less : x.number < drawn = h.3 in
          (ne_eqb (object_of x.purpose) objects (λ same. absurd (omega (arith, same, low))), ne_eqb x.number drawn (λ same. absurd (omega (arith, same, less)))))) tickets full),
    )

-- ---- one ticket that changes

is-number : (number : ℕ) (u : Ticket) → is_ticket 0 number u ≡ true → u.number ≡ number
is-number number u h = eqb-true u.number number (and_parts (u.actor == 0) (u.number == number) h).1

abbrev pub change_one : (number : ℕ) → (Ticket → Ticket) → Ticket → Ticket
change_one number f t = if is_ticket 0 number t then f t else t

one-as : (number : ℕ) (f : Ticket → Ticket) → ((t : Ticket) → IsAs t (f t)) → (t : Ticket) → IsAs t (change_one number f t)
one-as number f like t = elim (is_ticket 0 number t) as (λ b. IsAs t (if b then f t else t)) [
  | true ↦ like t
  | false ↦ (refl, refl)
]

-- the ticket with a number is changed
pub kept-one : (number : ℕ) (f : Ticket → Ticket) → ((t : Ticket) → IsAs t (f t)) → (later : List Entry) (tickets : List Ticket) (objects drawn : ℕ) (contents : ℕ → List ℕ) (t : Ticket)
    → ticket number (own_tickets 0 tickets) ≡ Some t → (IsFull objects drawn t → IsFull objects drawn (f t)) → Kept later tickets objects drawn contents → Kept later (map (change_one number f) tickets) objects drawn contents
kept-one number f like later tickets objects drawn contents t is so k =
    let found = found-has number tickets t is in
    kept-map (change_one number f) (one-as number f like) later tickets objects drawn contents
    (λ u among full.
    elim (is_ticket 0 number u) as (λ b. is_ticket 0 number u ≡ b → IsFull objects drawn (if b then f u else u)) [
      | true ↦ λ yes. (let same : t ≡ u = one-number tickets k.2 t u found.0 among (found.1 ∙ sym (is-number number u yes)) in subst (λ (x : Ticket). IsFull objects drawn x → IsFull objects drawn (f x)) same so full)
      | false ↦ λ no. full
    ] refl) k

-- it takes more bytes, where it isn't sealed
pub kept-took : (number : ℕ) (bytes : List ℕ) (later : List Entry) (tickets : List Ticket) (objects drawn : ℕ) (contents : ℕ → List ℕ) (t : Ticket) → ticket number (own_tickets 0 tickets) ≡ Some t → t.is_sealed ≡ false
    → Kept later tickets objects drawn contents → Kept later (map (λ x. if is_ticket 0 number x then took bytes x else x) tickets) objects drawn contents
kept-took number bytes later tickets objects drawn contents t is unsealed k =
    kept-one number (took bytes) (λ x. (refl, refl)) later tickets objects drawn contents t is (λ h. (h.0, h.1, h.2, h.3, λ yes. absurd (false≢true (sym unsealed ∙ yes)))) k

-- it is sealed, where it is full
pub kept-sealed : (number : ℕ) (later : List Entry) (tickets : List Ticket) (objects drawn : ℕ) (contents : ℕ → List ℕ) (t : Ticket) → ticket number (own_tickets 0 tickets) ≡ Some t → length t.bytes ≡ t.size
    → Kept later tickets objects drawn contents → Kept later (map (λ x. if is_ticket 0 number x then sealed x else x) tickets) objects drawn contents
kept-sealed number later tickets objects drawn contents t is full k =
    kept-one number sealed (λ x. (refl, refl)) later tickets objects drawn contents t is (λ h. (h.0, h.1, h.2, h.3, λ yes. full)) k

-- ---- tickets that are committed

-- those with these numbers
abbrev pub chosen : List ℕ → List Ticket → List Ticket
chosen numbers tickets = flat_map (λ number. option_map_or (λ t. t ∷ []) (ticket number (own_tickets 0 tickets)) []) numbers

or-second : (a b : Bool) → b ≡ true → (a || b) ≡ true
or-second true b h = refl
or-second false b h = h

-- it is one of those tickets, with one of these numbers
abbrev pub IsChosen : (numbers : List ℕ) → (tickets : List Ticket) → Ticket → Type 0
IsChosen numbers tickets t = Has t tickets × (list_any (λ n. n == t.number) numbers ≡ true)

all-append : (P : Ticket → Type 0) (xs ys : List Ticket) → AllByRecursion P xs → AllByRecursion P ys → AllByRecursion P (xs ++ ys)
all-append P [] ys h k = k
all-append P (x ∷ xs) ys h k = (h.0, all-append P xs ys h.1 k)

first-any : (number : ℕ) (numbers : List ℕ) (t : Ticket) → t.number ≡ number → list_any (λ n. n == t.number) (number ∷ numbers) ≡ true
first-any number numbers t same = ap (λ b. b || list_any (λ n. n == t.number) numbers) (eq-eqb number t.number (sym same))

all-chosen : (numbers : List ℕ) (tickets : List Ticket) → AllByRecursion (IsChosen numbers tickets) (chosen numbers tickets)
all-chosen [] tickets = tt
all-chosen (number ∷ numbers) tickets =
    all-append (IsChosen (number ∷ numbers) tickets) (option_map_or (λ t. t ∷ []) (ticket number (own_tickets 0 tickets)) []) (chosen numbers tickets)
    (elim (ticket number (own_tickets 0 tickets)) as (λ o. ticket number (own_tickets 0 tickets) ≡ o → AllByRecursion (IsChosen (number ∷ numbers) tickets) (option_map_or (λ t. t ∷ []) o [])) [
      | None ↦ λ is. tt
      | Some t ↦ λ is. (let f = found-has number tickets t is in ((f.0, first-any number numbers t f.1), tt))
    ] refl)
    (all-same (IsChosen numbers tickets) (IsChosen (number ∷ numbers) tickets) (λ t h. (h.0, or-second (number == t.number) (list_any (λ n. n == t.number) numbers) h.1)) (chosen numbers tickets) (all-chosen numbers tickets))

-- The version is from one of them, which is sealed, and its digest is that of its bytes.
abbrev pub IsFrom : (whole : List ℕ) → (spent tickets : List Ticket) → NewVersion → Type 0
IsFrom whole spent tickets i =
    (t : Ticket) × Has t spent × IsChosen whole tickets t × (t.is_sealed ≡ true) × (i.object ≡ object_of t.purpose) × (i.size ≡ t.size) × (i.digest ≡ digest_of t)

unless-holds : (b : Bool) (e : Refusal) → unless b e ≡ [] → b ≡ true
unless-holds true e h = refl
unless-holds false e h = absurd cc

digest-is : (given : Digest) (t : Ticket) → digest_refused given (Some t) ≡ [] → given ≡ digest_of t
digest-is given t h = ap digest_with (sym (same_text (digest_of t).0 given.0 (sym (unless-holds (is_same_name (digest_of t).0 given.0) (refused.DigestDiffers (digest_of t) given) h))))

from-more : (whole : List ℕ) (x : Ticket) (spent tickets : List Ticket) (i : NewVersion) → IsFrom whole spent tickets i → IsFrom whole (x ∷ spent) tickets i
from-more whole x spent tickets i (t, h, among, is_sealed, object, size, digest) = (t, inr h, among, is_sealed, object, size, digest)

-- the versions that come from tickets, one after the other, with the digests that were given and looked at
pub versions-from : (s : Sight) (tickets : List Ticket) → s.tickets ≡ own_tickets 0 tickets → (whole : List ℕ) (items : List Item) (numbers : List ℕ)
    → ((n : ℕ) → list_any (λ k. k == n) numbers ≡ true → list_any (λ k. k == n) whole ≡ true) → are_there numbers s ≡ [] → digests_refused (map (λ i. i.digest) items) numbers s ≡ []
    → of_tickets (λ t. unless t.is_sealed (ticket_in_use t.number)) numbers s ≡ [] → AllByRecursion (IsFrom whole (chosen numbers tickets) tickets) (paired version_from items (chosen numbers tickets))
versions-from s tickets same whole [] numbers so there digests full = tt
versions-from s tickets same whole (i ∷ items) [] so there digests full = tt
versions-from s tickets same whole (i ∷ items) (number ∷ numbers) so there digests full =
    let seen : ticket number s.tickets ≡ ticket number (own_tickets 0 tickets) = ap (ticket number) same in
    elim (ticket number (own_tickets 0 tickets)) as (λ o. ticket number (own_tickets 0 tickets) ≡ o → AllByRecursion (IsFrom whole (option_map_or (λ t. t ∷ []) o [] ++ chosen numbers tickets) tickets)
    (paired version_from (i ∷ items) (option_map_or (λ t. t ∷ []) o [] ++ chosen numbers tickets))) [
      | None ↦ λ is.
          (let none : unless (is_some (ticket number s.tickets)) refused.NotFound ≡ [] = (append-none (unless (is_some (ticket number s.tickets)) refused.NotFound) (are_there numbers s) there).0 in
          absurd (false≢true (sym (ap is_some (seen ∙ is)) ∙ unless-holds (is_some (ticket number s.tickets)) refused.NotFound none)))
      | Some t ↦ λ is.
          (let at : ticket number s.tickets ≡ Some t = seen ∙ is in
          let found = found-has number tickets t is in
          let d = append-none (digest_refused i.digest (ticket number s.tickets)) (digests_refused (map (λ x. x.digest) items) numbers s) digests in
          let f = append-none (option_map_or (λ x. unless x.is_sealed (ticket_in_use x.number)) (ticket number s.tickets) []) (of_tickets (λ x. unless x.is_sealed (ticket_in_use x.number)) numbers s) full in
          let mine : digest_refused i.digest (Some t) ≡ [] = subst (λ (o : Option Ticket). digest_refused i.digest o ≡ []) at d.0 in
          let whole_one : unless t.is_sealed (ticket_in_use t.number) ≡ [] = subst (λ (o : Option Ticket). option_map_or (λ x. unless x.is_sealed (ticket_in_use x.number)) o [] ≡ []) at f.0 in
          let rest = versions-from s tickets same whole items numbers (λ n h. so n (or-second (number == n) (list_any (λ k. k == n) numbers) h)) (append-none (unless (is_some (ticket number s.tickets)) refused.NotFound) (are_there numbers s) there).1 d.1 f.1 in (
            (t, inl refl, (found.0, so t.number (first-any number numbers t found.1)), unless-holds t.is_sealed (ticket_in_use t.number) whole_one, refl, refl, digest-is i.digest t mine),
            items-same (IsFrom whole (chosen numbers tickets) tickets) (IsFrom whole (t ∷ chosen numbers tickets) tickets) (from-more whole t (chosen numbers tickets) tickets) (paired version_from items (chosen numbers tickets)) rest,
          ))
    ] refl

-- ---- what is asked to be committed

-- versions of files from tickets, or what brings none
abbrev pub BringsVersions : Asked → Type 0
BringsVersions given = ((filespace : ℕ) × (items : List Item) × (given ≡ asked.Backup filespace items)) ⊎ ((numbers : List ℕ) (core : Core) (c : Change) → asked_change 0 given numbers core ≡ Some c → new_versions c ≡ [])

brought-items : (filespace : ℕ) (items : List Item) (numbers : List ℕ) (core : Core) (c : Change) → asked_change 0 (asked.Backup filespace items) numbers core ≡ Some c
    → foremost (commit_refused 0 (asked.Backup filespace items) numbers (sight 0 core)) ≡ None → AllByRecursion (IsFrom numbers (chosen numbers core.tickets) core.tickets) (new_versions c)
brought-items filespace items numbers core c is free =
    let s : Sight = sight 0 core in
    let a = append-none (are_there numbers s) _ (none-held (commit_refused 0 (asked.Backup filespace items) numbers s) free) in
    let b = append-none (unless (name_once numbers && nat_le (length numbers) 256) bad_value) _ a.1 in
    let d = append-none (asked_refused (asked.Backup filespace items) numbers s) _ b.1 in
    let e = append-none (of_tickets (λ t. unless t.is_sealed (ticket_in_use t.number)) numbers s) _ d.1 in
    let f = append-none (unless (length (map (λ (i : Item). i.digest) items) == length numbers) bad_value) _ d.0 in
    let g = append-none (of_tickets (λ t. unless (is_storing t.purpose) bad_value) numbers s) _ f.1 in
    let new : Change = change.Backup (record { filespace = filespace; scratch = scratch_of s.inventory (all_tickets numbers s); items = paired version_from items (all_tickets numbers s) }) in
    elim (are_so_many (length items) numbers s) as (λ b. (if b then Some new else None) ≡ Some c → AllByRecursion (IsFrom numbers (chosen numbers core.tickets) core.tickets) (new_versions c)) [
      | true ↦ λ same.
          subst (λ (x : Change). AllByRecursion (IsFrom numbers (chosen numbers core.tickets) core.tickets) (new_versions x)) (same_Some new c same) (versions-from s core.tickets refl numbers items numbers (λ n h. h) a.0 g.1 e.0)
      | false ↦ λ odd. absurd cc
    ] is

pub brought : (given : Asked) (numbers : List ℕ) (core : Core) (c : Change) → BringsVersions given → asked_change 0 given numbers core ≡ Some c → foremost (commit_refused 0 given numbers (sight 0 core)) ≡ None
    → AllByRecursion (IsFrom numbers (chosen numbers core.tickets) core.tickets) (new_versions c)
brought given numbers core c (inl (filespace, items, same)) is free =
    brought-items filespace items numbers core c (subst (λ (x : Asked). asked_change 0 x numbers core ≡ Some c) same is) (subst (λ (x : Asked). foremost (commit_refused 0 x numbers (sight 0 core)) ≡ None) same free)
brought given numbers core c (inr none) is free = subst (λ (l : List NewVersion). AllByRecursion (IsFrom numbers (chosen numbers core.tickets) core.tickets) l) (sym (none numbers core c is)) tt

-- ---- what isn't refused

by-not : (b : Bool) → not b ≡ true → b ≡ false
by-not true h = absurd (false≢true h)
by-not false h = refl

-- a ticket that took a piece isn't sealed
pub not-sealed : (number count : ℕ) (s : Sight) (t : Ticket) → ticket number s.tickets ≡ Some t → write_refused number count s ≡ [] → t.is_sealed ≡ false
not-sealed number count s t is none =
    let rest = (append-none (unless (nat_le 1 count && nat_le count most_bytes) bad_value) _ none).1 in
    let mine = subst (λ (o : Option Ticket). of_ticket (λ x. unless (is_storing x.purpose && not x.is_sealed) (ticket_in_use number) ++ unless (nat_le (length x.bytes + count) x.size) (refused.Changed x.size (length x.bytes + count))) o ≡ []) is rest in
    let free : unless (is_storing t.purpose && not t.is_sealed) (ticket_in_use number) ≡ [] = (append-none (unless (is_storing t.purpose && not t.is_sealed) (ticket_in_use number)) _ mine).0 in
    by-not t.is_sealed (and_parts (is_storing t.purpose) (not t.is_sealed) (unless-holds (is_storing t.purpose && not t.is_sealed) (ticket_in_use number) free)).1

-- one that was sealed was full
pub sealed-full : (number : ℕ) (s : Sight) → seal_refused number s ≡ [] → (t : Ticket) × (ticket number s.tickets ≡ Some t) × (length t.bytes ≡ t.size)
sealed-full number s none =
    elim (ticket number s.tickets) as (λ o. ticket number s.tickets ≡ o → of_ticket (λ x. unless (length x.bytes == x.size) (refused.Changed x.size (length x.bytes))) o ≡ [] → (t : Ticket) × (ticket number s.tickets ≡ Some t) × (length t.bytes ≡ t.size)) [
      | None ↦ λ is h. absurd cc
      | Some t ↦ λ is h. (t, is, eqb-true (length t.bytes) t.size (unless-holds (length t.bytes == t.size) (refused.Changed t.size (length t.bytes)) h))
    ] refl none

-- ---- their bytes

-- the one that stores an object is found among them
stored-one : (object : ℕ) (other : List ℕ) (t : Ticket) (spent : List Ticket) → stored_by object t ≡ true → ((u : Ticket) → Has u spent → stored_by object u ≡ true → u ≡ t) → Has t spent
    → option_map_or (λ (x : Ticket). x.bytes) (find (stored_by object) spent) other ≡ t.bytes
stored-one object other t [] its so h = absurd h
stored-one object other t (x ∷ spent) its so h =
    elim (stored_by object x) as (λ b. stored_by object x ≡ b → option_map_or (λ (y : Ticket). y.bytes) (if b then Some x else find (stored_by object) spent) other ≡ t.bytes) [
      | true ↦ λ is. ap (λ (y : Ticket). y.bytes) (so x (inl refl) is)
      | false ↦ λ is. stored-one object other t spent its (λ u k. so u (inr k)) (among h is)
    ] refl where
      among : Has t (x ∷ spent) → stored_by object x ≡ false → Has t spent
      among (inl same) is = absurd (false≢true (sym is ∙ ap (stored_by object) same ∙ its))
      among (inr k) is = k

-- none of them stores the object
stored-none : (object : ℕ) (contents : ℕ → List ℕ) (spent : List Ticket) → AllByRecursion (λ t. stored_by object t ≡ false) spent → storing_contents spent contents object ≡ contents object
stored-none object contents [] h = refl
stored-none object contents (x ∷ spent) h =
    ap (λ (b : Bool). option_map_or (λ (t : Ticket). t.bytes) (if b then Some x else find (stored_by object) spent) (contents object)) h.0 ∙ stored-none object contents spent h.1

by-object : (object : ℕ) (t : Ticket) → stored_by object t ≡ true → object_of t.purpose ≡ object
by-object object t h = eqb-true (object_of t.purpose) object (and_parts (is_storing t.purpose) (object_of t.purpose == object) h).1

stores-own : (t : Ticket) → is_storing t.purpose ≡ true → stored_by (object_of t.purpose) t ≡ true
stores-own t is = ap (λ b. b && object_of t.purpose == object_of t.purpose) is ∙ eq-eqb (object_of t.purpose) (object_of t.purpose) refl

module _ (numbers : List ℕ) (later : List Entry) (tickets : List Ticket) (objects drawn : ℕ) (contents : ℕ → List ℕ) (k : Kept later tickets objects drawn contents) where
  abbrev spent : List Ticket
  spent = chosen numbers tickets

  abbrev left : List Ticket
  left = without 0 numbers tickets

  abbrev stored : ℕ → List ℕ
  stored = storing_contents spent contents

  spent-chosen : (u : Ticket) → Has u spent → IsChosen numbers tickets u
  spent-chosen u h = all-has (IsChosen numbers tickets) spent (all-chosen numbers tickets) u h

  -- what was stored already
  older : (i : NewVersion) → IsStored contents tickets objects i → IsStored stored left objects i
  older i h =
      let same : stored i.object ≡ contents i.object =
      stored-none i.object contents spent (all-same (IsChosen numbers tickets) (λ t. stored_by i.object t ≡ false) (λ t c. all-has (λ u. stored_by i.object u ≡ false) tickets h.2 t c.0) spent (all-chosen numbers tickets)) in (
        (h.0.0 ∙ ap length (sym same), h.0.1 ∙ ap (λ (l : List ℕ). digest_with (sha256 l)) (sym same)),
        h.1,
        all-without (λ t. stored_by i.object t ≡ false) (λ t. stored_by i.object t ≡ false) numbers (λ t so among. so) tickets h.2,
      )

  -- those that are left are for other objects
  elsewhere : (t : Ticket) → IsChosen numbers tickets t → (u : Ticket) → Has u tickets × (u.actor ≡ 0) → is_among 0 numbers u ≡ false → (object : ℕ) → object ≡ object_of t.purpose → stored_by object u ≡ false
  elsewhere t c u has out object is = elim (stored_by object u) as (λ b. stored_by object u ≡ b → b ≡ false) [
    | true ↦ λ yes.
        (let same : t ≡ u = one-object tickets k.2 t u c.0 has.0 (sym is ∙ sym (by-object object u yes)) in
        absurd (false≢true (sym (not-among numbers u has.1 out) ∙ subst (λ (x : Ticket). list_any (λ n. n == x.number) numbers ≡ true) same c.1)))
    | false ↦ λ no. refl
  ] refl

  -- what is stored now
  newer : (i : NewVersion) → IsFrom numbers spent tickets i → IsStored stored left objects i
  newer i (t, h, c, whole, object, size, digest) =
      let full : IsFull objects drawn t = all-has (IsFull objects drawn) tickets k.1 t c.0 in
      let bytes : stored i.object ≡ t.bytes =
      stored-one i.object (contents i.object) t spent (ap (λ (o : ℕ). stored_by o t) object ∙ stores-own t full.1)
      (λ u among yes. sym (one-object tickets k.2 t u c.0 (spent-chosen u among).0 (sym object ∙ sym (by-object i.object u yes)))) h in
      let low : object_of t.purpose < objects = full.2 in (
        (size ∙ sym (full.4 whole) ∙ ap length (sym bytes), digest ∙ ap (λ (l : List ℕ). digest_with (sha256 l)) (sym bytes)),
        omega (arith, object, low),
        all-without (λ u. Has u tickets × (u.actor ≡ 0)) (λ u. stored_by i.object u ≡ false) numbers (λ u has out. elsewhere t c u has out i.object object) tickets
            (all-from (λ u. Has u tickets) (λ u. Has u tickets × (u.actor ≡ 0)) tickets (λ u among has. (has, (all-has (IsFull objects drawn) tickets k.1 u among).0)) (all-in tickets)),
      )

  -- a transaction joins that has versions from these tickets, or none
  pub kept-joined : (c : Change) → AllByRecursion (IsFrom numbers spent tickets) (new_versions c) → Kept (later ++ entry c ∷ []) left objects drawn stored
  kept-joined c from = (
    each-more (IsStored stored left objects) later c (each-same (IsStored contents tickets objects) (IsStored stored left objects) older later k.0)
        (items-same (IsFrom numbers spent tickets) (IsStored stored left objects) newer (new_versions c) from),
    (kept-without numbers later tickets objects drawn contents k).1,
    apart-without numbers tickets k.2,
  )
