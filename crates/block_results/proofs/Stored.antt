-- The tickets of all actors in a run of turns: each has a number of its own, and each that stores an object an object of its own; so what some of them stored has their bytes, and keeps them whatever comes of the others.
use Rattle.std.proofs.Common.{◌≡◌, ◌⊎◌, ◌∙◌, inl, inr, ℕ, ◌+◌, ◌≤◌, ◌<◌, ◌==◌, ◌&&◌, ◌||◌, not, if◌then◌else◌, Bool, true, false, find, is_some, nat_le, List, [], ◌∷◌, ◌++◌, length, map, Option, None, Some, Ok, Err, refl, sym, ap, subst, append_assoc, append-nil, arith}
use Rattle.std.proofs.lemmas.Bool.{and_parts, eq-eqb, eqb-true, false≢true}
use Rattle.std.proofs.lemmas.Option.{same_Some}
use Rattle.std.specs.Cmp.Lexicographic.{same_text}
use Rattle.std.specs.List.{AllByRecursion, list_all, list_any}
use Rattle.std.specs.Option.{option_map_or}
use Rattle.sha2.specs.Sha256.{sha256}
use Rattle.kinds.specs.Names.{is_same_name}
use Rattle.kinds.specs.Refusals.{bad_value, foremost, unless}
use Rattle.kinds.specs.ValueForms.{digest_with}
use Rattle.kinds.specs.declared.change.PoolChange.TheVariants as store
use Rattle.kinds.specs.declared.change.Verb.TheVariants as verb
use Rattle.kinds.specs.declared.change.DefineOrDelete.TheVariants as two
use Rattle.kinds.specs.declared.change.ObjectChange.TheVariants as client
use Rattle.kinds.specs.declared.refusal.Refusal.{Refusal}
use Rattle.kinds.specs.declared.refusal.Refusal.TheVariants as refused
use Rattle.kinds.specs.declared.segment.Digest.{Digest}
use Rattle.entries.specs.change_items.declared.lists.MovedCopies.{MovedCopies}
use Rattle.entries.specs.change_items.declared.lists.NewCopies.{NewCopies}
use Rattle.entries.specs.change_items.declared.items.NewVersion.{NewVersion}
use Rattle.entries.specs.declared.change.Change.{Change}
use Rattle.entries.specs.declared.change.Change.TheVariants as change
use Rattle.entries.specs.declared.entry.Entry.{Entry}
use Rattle.inventory_rules.specs.Versions.{name_once}
use Rattle.inventory_rows.specs.State.{Inv}
use Rattle.inventory_rows.specs.version_groups.Entries.{is_nil}
use Rattle.steps.specs.declared.asked.Asked.{Asked}
use Rattle.steps.specs.declared.asked.Asked.TheVariants as asked
use Rattle.steps.specs.declared.asked.Item.{Item}
use Rattle.steps.specs.declared.image.ImageKind.TheVariants as image
use Rattle.steps.specs.declared.image.ImageReply.TheVariants as told
use Rattle.steps.specs.Events.{Deed, Event}
use Rattle.steps.specs.Events.Deed.{OpenNew, OpenCopy, WritePiece, CopyPiece, Seal, Commit, DropTicket, ReadPiece, Ask, Image, Reuse, Force}
use Rattle.machine.proofs.Elsewhere.{append-none, none-held}
use Rattle.machine.specs.Alone.{AreBytes, Moves, behind, with_contents}
use Rattle.machine.specs.Causes.{are_there, asked_refused, commit_refused, copying_refused, digest_refused, digests_refused, is_plain, object_gone, of_ticket, of_tickets, seal_refused, ticket_in_use, write_refused}
use Rattle.machine.specs.Changes.{all_tickets, are_so_many, change_of, filled, is_moved, paired, placed_change, scratch_of, version_from}
use Rattle.machine.specs.Machine.{Case, DropsTicket, Places, Stays, asked_change, begun, checkpointed, committed, dropping, ended, ending, halting, made, opened, opened_new, size_of, stamped, stored_by, storing_contents, with_image, with_tickets}
use Rattle.machine.specs.State.{Core, Machine, Purpose, Sight, Ticket, copying, digest_of, inventory, is_among, is_storing, is_ticket, object_of, own_tickets, sealed, sealing, sight, taking, ticket, took, without}
use Rattle.machine.specs.Turns.{Turn}
use Rattle.crew.specs.Ran.{Turned}
use Rattle.line_results.proofs.Keeping.{EachItem, Has, each-same, not-sealed, sealed-full}
use Rattle.line_results.specs.Resting.{Adds}
use Rattle.line_results.specs.Trees.{HaveBytes, new_versions}

-- ---- lists of tickets

has-push : (tickets : List Ticket) (t u : Ticket) → Has u (tickets ++ t ∷ []) → Has u tickets ⊎ (t ≡ u)
has-push [] t u (inl is) = inr is
has-push [] t u (inr h) = absurd h
has-push (x ∷ tickets) t u (inl is) = inl (inl is)
has-push (x ∷ tickets) t u (inr h) = elim (has-push tickets t u h) as (λ _. Has u (x ∷ tickets) ⊎ (t ≡ u)) [
  | inl k ↦ inl (inr k)
  | inr is ↦ inr is
]

has-map : (f : Ticket → Ticket) (tickets : List Ticket) (u : Ticket) → Has u (map f tickets) → (t : Ticket) × Has t tickets × (f t ≡ u)
has-map f [] u h = absurd h
has-map f (x ∷ tickets) u (inl is) = (x, inl refl, is)
has-map f (x ∷ tickets) u (inr h) = (let r = has-map f tickets u h in (r.0, inr r.1, r.2))

has-without : (actor : ℕ) (numbers : List ℕ) (tickets : List Ticket) (u : Ticket) → Has u (without actor numbers tickets) → Has u tickets × (is_among actor numbers u ≡ false)
has-without actor numbers [] u h = absurd h
has-without actor numbers (x ∷ tickets) u h =
    elim (is_among actor numbers x) as (λ b. is_among actor numbers x ≡ b → Has u (if not b then x ∷ without actor numbers tickets else without actor numbers tickets) → Has u (x ∷ tickets) × (is_among actor numbers u ≡ false)) [
      | true ↦ λ gone k. (let r = has-without actor numbers tickets u k in (inr r.0, r.1))
      | false ↦ λ stays k. elim k as (λ _. Has u (x ∷ tickets) × (is_among actor numbers u ≡ false)) [
        | inl is ↦ (inl is, subst (λ (y : Ticket). is_among actor numbers y ≡ false) is stays)
        | inr later ↦ (let r = has-without actor numbers tickets u later in (inr r.0, r.1))
      ]
    ] refl h

-- the one that is found is the actor's, with the number
found-own : (actor number : ℕ) (tickets : List Ticket) (t : Ticket) → ticket number (own_tickets actor tickets) ≡ Some t → Has t tickets × (t.actor ≡ actor) × (t.number ≡ number)
found-own actor number [] t is = absurd cc
found-own actor number (x ∷ tickets) t is =
    elim (x.actor == actor) as (λ b. (x.actor == actor) ≡ b → ticket number (if b then x ∷ own_tickets actor tickets else own_tickets actor tickets) ≡ Some t → Has t (x ∷ tickets) × (t.actor ≡ actor) × (t.number ≡ number)) [
      | true ↦ λ mine h.
          elim (x.number == number) as (λ b. (x.number == number) ≡ b → (if b then Some x else ticket number (own_tickets actor tickets)) ≡ Some t → Has t (x ∷ tickets) × (t.actor ≡ actor) × (t.number ≡ number)) [
            | true ↦ λ yes s.
                (let same : x ≡ t = same_Some x t s in
                (inl same, ap (λ (y : Ticket). y.actor) (sym same) ∙ eqb-true x.actor actor mine, ap (λ (y : Ticket). y.number) (sym same) ∙ eqb-true x.number number yes))
            | false ↦ λ no s. (let r = found-own actor number tickets t s in (inr r.0, r.1, r.2))
          ] refl h
      | false ↦ λ other h. (let r = found-own actor number tickets t h in (inr r.0, r.1, r.2))
    ] refl is

-- ---- what is known of tickets and of stored objects

-- one that stores an object is full where it is sealed
abbrev IsFull : Ticket → Type 0
IsFull t = is_storing t.purpose ≡ true → t.is_sealed ≡ true → length t.bytes ≡ t.size

-- Their numbers and objects were drawn already; no two have one number, nor do two store one object; and those that store one are full where they are sealed.
record AreHeld (tickets : List Ticket) (objects numbers : ℕ) : Type 0 where
  pub number : (t : Ticket) → Has t tickets → t.number < numbers
  pub object : (t : Ticket) → Has t tickets → is_storing t.purpose ≡ true → object_of t.purpose < objects
  pub full : (t : Ticket) → Has t tickets → IsFull t
  pub once : (t u : Ticket) → Has t tickets → Has u tickets → t.number ≡ u.number → t ≡ u
  pub own : (t u : Ticket) → Has t tickets → Has u tickets → is_storing t.purpose ≡ true → is_storing u.purpose ≡ true → object_of t.purpose ≡ object_of u.purpose → t ≡ u

-- its object has as many bytes as the version says, with its digest; its number was drawn already, and no ticket is for it
abbrev IsStored : (contents : ℕ → List ℕ) → (tickets : List Ticket) → (objects : ℕ) → NewVersion → Type 0
IsStored contents tickets objects i =
    (i.size ≡ length (contents i.object)) × (i.digest ≡ digest_with (sha256 (contents i.object))) × (i.object < objects) × ((t : Ticket) → Has t tickets → stored_by i.object t ≡ false)

abbrev Kept : (later : List Entry) → (tickets : List Ticket) → (objects numbers : ℕ) → (contents : ℕ → List ℕ) → Type 0
Kept later tickets objects numbers contents = EachItem (IsStored contents tickets objects) later × AreHeld tickets objects numbers

abbrev KeptBy : List Entry → Machine → Type 0
KeptBy later m = Kept later m.core.tickets m.core.next_object m.core.next_ticket m.contents

each-append : (P : NewVersion → Type 0) (xs ys : List Entry) → EachItem P xs → EachItem P ys → EachItem P (xs ++ ys)
each-append P [] ys h k = k
each-append P (x ∷ xs) ys h k = (h.0, each-append P xs ys h.1 k)

by-purpose : (object : ℕ) (t u : Ticket) → u.purpose ≡ t.purpose → stored_by object t ≡ false → stored_by object u ≡ false
by-purpose object t u same h = ap (λ (p : Purpose). is_storing p && object_of p == object) same ∙ h

-- ---- some go

fewer-kept : (later : List Entry) (tickets fewer : List Ticket) (objects numbers more further : ℕ) (contents : ℕ → List ℕ) → ((t : Ticket) → Has t fewer → Has t tickets) → objects ≤ more → numbers ≤ further → Kept later tickets objects numbers contents
    → Kept later fewer more further contents
fewer-kept later tickets fewer objects numbers more further contents so high next k = (
  each-same (IsStored contents tickets objects) (IsStored contents fewer more) (λ i h. (let low : i.object < objects = h.2 in (h.0, h.1, omega (arith, low, high), λ t has. h.3 t (so t has)))) later k.0,
  record {
    number = λ t has. (let low : t.number < numbers = k.1.number t (so t has) in omega (arith, low, next));
    object = λ t has is. (let low : object_of t.purpose < objects = k.1.object t (so t has) is in omega (arith, low, high));
    full = λ t has. k.1.full t (so t has);
    once = λ t u has also. k.1.once t u (so t has) (so u also);
    own = λ t u has also. k.1.own t u (so t has) (so u also);
  },
)

-- ---- each becomes another with the same number and for the same object

abbrev IsAs : Ticket → Ticket → Type 0
IsAs t u = (u.number ≡ t.number) × (u.purpose ≡ t.purpose)

map-kept : (f : Ticket → Ticket) → ((t : Ticket) → IsAs t (f t)) → (later : List Entry) (tickets : List Ticket) (objects numbers : ℕ) (contents : ℕ → List ℕ) → ((t : Ticket) → Has t tickets → IsFull t → IsFull (f t))
    → Kept later tickets objects numbers contents → Kept later (map f tickets) objects numbers contents
map-kept f like later tickets objects numbers contents so k = (
  each-same (IsStored contents tickets objects) (IsStored contents (map f tickets) objects)
      (λ i h. (h.0, h.1, h.2, λ u has. (let r = has-map f tickets u has in subst (λ (x : Ticket). stored_by i.object x ≡ false) r.2 (by-purpose i.object r.0 (f r.0) (like r.0).1 (h.3 r.0 r.1))))) later k.0,
  record {
    number = λ u has. (let r = has-map f tickets u has in subst (λ (x : Ticket). x.number < numbers) r.2 (subst (λ (n : ℕ). n < numbers) (sym (like r.0).0) (k.1.number r.0 r.1)));
    object = λ u has.
        (let r = has-map f tickets u has in
        subst (λ (x : Ticket). is_storing x.purpose ≡ true → object_of x.purpose < objects) r.2
        (subst (λ (p : Purpose). is_storing p ≡ true → object_of p < objects) (sym (like r.0).1) (k.1.object r.0 r.1)));
    full = λ u has. (let r = has-map f tickets u has in subst IsFull r.2 (so r.0 r.1 (k.1.full r.0 r.1)));
    once = λ u v has also same.
        (let r = has-map f tickets u has in
        let s = has-map f tickets v also in
        let one : r.0 ≡ s.0 = k.1.once r.0 s.0 r.1 s.1 (sym (like r.0).0 ∙ ap (λ (x : Ticket). x.number) r.2 ∙ same ∙ ap (λ (x : Ticket). x.number) (sym s.2) ∙ (like s.0).0) in
        sym r.2 ∙ ap f one ∙ s.2);
    own = λ u v has also stores also_stores same.
        (let r = has-map f tickets u has in
        let s = has-map f tickets v also in
        let p : r.0.purpose ≡ u.purpose = sym (like r.0).1 ∙ ap (λ (x : Ticket). x.purpose) r.2 in
        let q : s.0.purpose ≡ v.purpose = sym (like s.0).1 ∙ ap (λ (x : Ticket). x.purpose) s.2 in
        let one : r.0 ≡ s.0 = k.1.own r.0 s.0 r.1 s.1 (ap is_storing p ∙ stores) (ap is_storing q ∙ also_stores) (ap object_of p ∙ same ∙ ap object_of (sym q)) in
        sym r.2 ∙ ap f one ∙ s.2);
  },
)

-- the actor's ticket with a number is changed
one-kept : (actor number : ℕ) (f : Ticket → Ticket) → ((t : Ticket) → IsAs t (f t)) → (later : List Entry) (tickets : List Ticket) (objects numbers : ℕ) (contents : ℕ → List ℕ) (t : Ticket)
    → ticket number (own_tickets actor tickets) ≡ Some t → (IsFull t → IsFull (f t)) → Kept later tickets objects numbers contents → Kept later (map (λ x. if is_ticket actor number x then f x else x) tickets) objects numbers contents
one-kept actor number f like later tickets objects numbers contents t is so k =
    let found = found-own actor number tickets t is in
    map-kept (λ x. if is_ticket actor number x then f x else x)
    (λ x. elim (is_ticket actor number x) as (λ b. IsAs x (if b then f x else x)) [ true ↦ like x | false ↦ (refl, refl) ]) later tickets objects numbers contents
    (λ u has full.
    elim (is_ticket actor number u) as (λ b. is_ticket actor number u ≡ b → IsFull (if b then f u else u)) [
      | true ↦ λ yes.
          (let same : t ≡ u = k.1.once t u found.0 has (found.2 ∙ sym (eqb-true u.number number (and_parts (u.actor == actor) (u.number == number) yes).1)) in
          subst (λ (x : Ticket). IsFull x → IsFull (f x)) same so full)
      | false ↦ λ no. full
    ] refl) k

-- ---- one comes

push-kept : (later : List Entry) (tickets : List Ticket) (objects numbers more : ℕ) (contents : ℕ → List ℕ) (t : Ticket) → t.number ≡ numbers → t.is_sealed ≡ false → objects ≤ more
    → (is_storing t.purpose ≡ true → (object_of t.purpose ≡ objects) × (more ≡ objects + 1)) → Kept later tickets objects numbers contents → Kept later (tickets ++ t ∷ []) more (numbers + 1) contents
push-kept later tickets objects numbers more contents t drawn unsealed high new k = (
  each-same (IsStored contents tickets objects) (IsStored contents (tickets ++ t ∷ []) more)
      (λ i h.
      (let low : i.object < objects = h.2 in (
        h.0,
        h.1,
        omega (arith, low, high),
        λ u has. elim (has-push tickets t u has) as (λ _. stored_by i.object u ≡ false) [
          | inl was ↦ h.3 u was
          | inr is ↦ subst (λ (x : Ticket). stored_by i.object x ≡ false) is (not-yet i.object low)
        ],
      ))) later k.0,
  record {
    number = λ u has. elim (has-push tickets t u has) as (λ _. u.number < numbers + 1) [
      | inl was ↦ (let low : u.number < numbers = k.1.number u was in omega (arith, low))
      | inr is ↦ subst (λ (x : Ticket). x.number < numbers + 1) is (omega (arith, drawn))
    ];
    object = λ u has. elim (has-push tickets t u has) as (λ _. is_storing u.purpose ≡ true → object_of u.purpose < more) [
      | inl was ↦ λ stores. (let low : object_of u.purpose < objects = k.1.object u was stores in omega (arith, low, high))
      | inr is ↦ subst (λ (x : Ticket). is_storing x.purpose ≡ true → object_of x.purpose < more) is (λ stores. (let one : object_of t.purpose ≡ objects = (new stores).0 in let two_more : more ≡ objects + 1 = (new stores).1 in omega (arith, one, two_more)))
    ];
    full = λ u has. elim (has-push tickets t u has) as (λ _. IsFull u) [
      | inl was ↦ k.1.full u was
      | inr is ↦ subst IsFull is (λ stores yes. absurd (false≢true (sym unsealed ∙ yes)))
    ];
    once = λ u v has also same. elim (has-push tickets t u has) as (λ _. u ≡ v) [
      | inl was ↦ elim (has-push tickets t v also) as (λ _. u ≡ v) [
        | inl too ↦ k.1.once u v was too same
        | inr is ↦ absurd (never-number u was (same ∙ ap (λ (x : Ticket). x.number) (sym is)))
      ]
      | inr is ↦ elim (has-push tickets t v also) as (λ _. u ≡ v) [
        | inl too ↦ absurd (never-number v too (sym same ∙ ap (λ (x : Ticket). x.number) (sym is)))
        | inr too ↦ sym is ∙ too
      ]
    ];
    own = λ u v has also stores also_stores same. elim (has-push tickets t u has) as (λ _. u ≡ v) [
      | inl was ↦ elim (has-push tickets t v also) as (λ _. u ≡ v) [
        | inl too ↦ k.1.own u v was too stores also_stores same
        | inr is ↦ absurd (never-object u was stores (ap (λ (x : Ticket). is_storing x.purpose) is ∙ also_stores) (same ∙ ap (λ (x : Ticket). object_of x.purpose) (sym is)))
      ]
      | inr is ↦ elim (has-push tickets t v also) as (λ _. u ≡ v) [
        | inl too ↦ absurd (never-object v too also_stores (ap (λ (x : Ticket). is_storing x.purpose) is ∙ stores) (sym same ∙ ap (λ (x : Ticket). object_of x.purpose) (sym is)))
        | inr too ↦ sym is ∙ too
      ]
    ];
  },
) where
  never-number : (u : Ticket) → Has u tickets → u.number ≡ t.number → ⊥
  never-number u was same = (let low : u.number < numbers = k.1.number u was in absurd (omega (arith, low, same, drawn)))

  never-object : (u : Ticket) → Has u tickets → is_storing u.purpose ≡ true → is_storing t.purpose ≡ true → object_of u.purpose ≡ object_of t.purpose → ⊥
  never-object u was stores also same = (let low : object_of u.purpose < objects = k.1.object u was stores in let one : object_of t.purpose ≡ objects = (new also).0 in absurd (omega (arith, low, same, one)))

  not-yet : (object : ℕ) → object < objects → stored_by object t ≡ false
  not-yet object low = elim (stored_by object t) as (λ b. stored_by object t ≡ b → b ≡ false) [
    | true ↦ λ yes.
        (let parts = and_parts (is_storing t.purpose) (object_of t.purpose == object) yes in
        let one : object_of t.purpose ≡ objects = (new parts.0).0 in
        let same : object_of t.purpose ≡ object = eqb-true (object_of t.purpose) object parts.1 in
        absurd (omega (arith, low, one, same)))
    | false ↦ λ no. refl
  ] refl

-- ---- tickets that are committed

-- the actor's ticket with one of these numbers
abbrev IsChosen : (actor : ℕ) → (numbers : List ℕ) → (tickets : List Ticket) → Ticket → Type 0
IsChosen actor numbers tickets t = Has t tickets × (is_among actor numbers t ≡ true)

unless-holds : (b : Bool) (e : Refusal) → unless b e ≡ [] → b ≡ true
unless-holds true e h = refl
unless-holds false e h = absurd cc

or-second : (a b : Bool) → b ≡ true → (a || b) ≡ true
or-second true b h = refl
or-second false b h = h

among-first : (actor number : ℕ) (numbers : List ℕ) (t : Ticket) → t.actor ≡ actor → t.number ≡ number → is_among actor (number ∷ numbers) t ≡ true
among-first actor number numbers t mine same = ap (λ (b : Bool). b && (number == t.number || list_any (λ n. n == t.number) numbers)) (eq-eqb t.actor actor mine) ∙ ap (λ (b : Bool). b || list_any (λ n. n == t.number) numbers) (eq-eqb number t.number (sym same))

among-more : (actor number : ℕ) (numbers : List ℕ) (t : Ticket) → is_among actor numbers t ≡ true → is_among actor (number ∷ numbers) t ≡ true
among-more actor number numbers t h =
    let parts = and_parts (t.actor == actor) (list_any (λ n. n == t.number) numbers) h in
    ap (λ (b : Bool). b && (number == t.number || list_any (λ n. n == t.number) numbers)) parts.0 ∙ or-second (number == t.number) (list_any (λ n. n == t.number) numbers) parts.1

-- so are all that are committed
has-spent : (actor : ℕ) (c : Core) (numbers : List ℕ) (u : Ticket) → Has u (all_tickets numbers (sight actor c)) → IsChosen actor numbers c.tickets u
has-spent actor c [] u h = absurd h
has-spent actor c (number ∷ numbers) u h =
    elim (ticket number (own_tickets actor c.tickets)) as (λ o. ticket number (own_tickets actor c.tickets) ≡ o → Has u (option_map_or (λ t. t ∷ []) o [] ++ all_tickets numbers (sight actor c)) → IsChosen actor (number ∷ numbers) c.tickets u) [
      | None ↦ λ is k. (let r = has-spent actor c numbers u k in (r.0, among-more actor number numbers u r.1))
      | Some t ↦ λ is k. elim k as (λ _. IsChosen actor (number ∷ numbers) c.tickets u) [
        | inl same ↦
            (let f = found-own actor number c.tickets t is in
            subst (λ (x : Ticket). IsChosen actor (number ∷ numbers) c.tickets x) same (f.0, among-first actor number numbers t f.1 f.2))
        | inr later ↦ (let r = has-spent actor c numbers u later in (r.0, among-more actor number numbers u r.1))
      ]
    ] refl h

-- The version is from one of them, which stores an object and is sealed, and its digest is that of its bytes.
abbrev IsFrom : (spent : List Ticket) → NewVersion → Type 0
IsFrom spent i = (t : Ticket) × Has t spent × (t.is_sealed ≡ true) × (is_storing t.purpose ≡ true) × (i.object ≡ object_of t.purpose) × (i.size ≡ t.size) × (i.digest ≡ digest_of t)

digest-is : (given : Digest) (t : Ticket) → digest_refused given (Some t) ≡ [] → given ≡ digest_of t
digest-is given t h = ap digest_with (sym (same_text (digest_of t).0 given.0 (sym (unless-holds (is_same_name (digest_of t).0 given.0) (refused.DigestDiffers (digest_of t) given) h))))

items-so : (P Q : NewVersion → Type 0) → ((i : NewVersion) → P i → Q i) → (items : List NewVersion) → AllByRecursion P items → AllByRecursion Q items
items-so P Q so [] all = tt
items-so P Q so (i ∷ items) all = (so i all.0, items-so P Q so items all.1)

versions-from : (s : Sight) (items : List Item) (numbers : List ℕ) → are_there numbers s ≡ [] → digests_refused (map (λ i. i.digest) items) numbers s ≡ [] → of_tickets (λ t. unless (is_storing t.purpose) bad_value) numbers s ≡ []
    → of_tickets (λ t. unless t.is_sealed (ticket_in_use t.number)) numbers s ≡ [] → AllByRecursion (IsFrom (all_tickets numbers s)) (paired version_from items (all_tickets numbers s))
versions-from s [] numbers there digests stores full = tt
versions-from s (i ∷ items) [] there digests stores full = tt
versions-from s (i ∷ items) (number ∷ numbers) there digests stores full =
    elim (ticket number s.tickets) as (λ o. ticket number s.tickets ≡ o → AllByRecursion (IsFrom (option_map_or (λ t. t ∷ []) o [] ++ all_tickets numbers s)) (paired version_from (i ∷ items) (option_map_or (λ t. t ∷ []) o [] ++ all_tickets numbers s))) [
      | None ↦ λ is.
          (let none : unless (is_some (ticket number s.tickets)) refused.NotFound ≡ [] = (append-none (unless (is_some (ticket number s.tickets)) refused.NotFound) (are_there numbers s) there).0 in
          absurd (false≢true (sym (ap is_some is) ∙ unless-holds (is_some (ticket number s.tickets)) refused.NotFound none)))
      | Some t ↦ λ is.
          (let d = append-none (digest_refused i.digest (ticket number s.tickets)) (digests_refused (map (λ x. x.digest) items) numbers s) digests in
          let f = append-none (option_map_or (λ x. unless x.is_sealed (ticket_in_use x.number)) (ticket number s.tickets) []) (of_tickets (λ x. unless x.is_sealed (ticket_in_use x.number)) numbers s) full in
          let g = append-none (option_map_or (λ (x : Ticket). unless (is_storing x.purpose) bad_value) (ticket number s.tickets) []) (of_tickets (λ x. unless (is_storing x.purpose) bad_value) numbers s) stores in
          let mine : digest_refused i.digest (Some t) ≡ [] = subst (λ (o : Option Ticket). digest_refused i.digest o ≡ []) is d.0 in
          let whole : unless t.is_sealed (ticket_in_use t.number) ≡ [] = subst (λ (o : Option Ticket). option_map_or (λ x. unless x.is_sealed (ticket_in_use x.number)) o [] ≡ []) is f.0 in
          let new : unless (is_storing t.purpose) bad_value ≡ [] = subst (λ (o : Option Ticket). option_map_or (λ (x : Ticket). unless (is_storing x.purpose) bad_value) o [] ≡ []) is g.0 in
          let rest = versions-from s items numbers (append-none (unless (is_some (ticket number s.tickets)) refused.NotFound) (are_there numbers s) there).1 d.1 g.1 f.1 in (
            (t, inl refl, unless-holds t.is_sealed (ticket_in_use t.number) whole, unless-holds (is_storing t.purpose) bad_value new, refl, refl, digest-is i.digest t mine),
            items-so (IsFrom (all_tickets numbers s)) (IsFrom (t ∷ all_tickets numbers s)) (λ j h. (h.0, inr h.1, h.2, h.3, h.4, h.5, h.6)) (paired version_from items (all_tickets numbers s)) rest,
          ))
    ] refl

-- ---- what a commit brings

plain-none : (next : ℕ) (v : Inv) (w : Change) → is_plain w ≡ true → new_versions (filled next v w) ≡ []
plain-none next v (change.Backup c) h = absurd (false≢true h)
plain-none next v (change.Pool (store.Volume verb.Define name pool file capacity access)) h = refl
plain-none next v (change.Object (client.Filespace two.Define node name filespace)) h = refl
plain-none next v w h = refl

placed-of : (b : Bool) (x : MovedCopies) (y : NewCopies) → new_versions (if b then change.Move x else change.Copy y) ≡ []
placed-of true x y = refl
placed-of false x y = refl

abbrev IsSomeOf : (b : Bool) → Change → Change → Type 0
IsSomeOf b x c = (if b then Some x else None) ≡ Some c

some-same : (b : Bool) (x c : Change) → IsSomeOf b x c → x ≡ c
some-same true x c h = same_Some x c h
some-same false x c h = absurd cc

none-brought : (spent : List Ticket) (x c : Change) → x ≡ c → new_versions x ≡ [] → AllByRecursion (IsFrom spent) (new_versions c)
none-brought spent x c same none = subst (λ (l : List NewVersion). AllByRecursion (IsFrom spent) l) (sym (ap new_versions (sym same) ∙ none)) tt

-- the versions that a commit brings come from its tickets
brought : (actor : ℕ) (given : Asked) (numbers : List ℕ) (s : Sight) (c : Change) → change_of given numbers s ≡ Some c → commit_refused actor given numbers s ≡ [] → AllByRecursion (IsFrom (all_tickets numbers s)) (new_versions c)
brought actor (asked.Plain w) numbers s c is free =
    let a = append-none (are_there numbers s) _ free in
    let b = append-none (unless (name_once numbers && nat_le (length numbers) 256) bad_value) _ a.1 in
    let d = append-none (asked_refused (asked.Plain w) numbers s) _ b.1 in
    let plain = and_parts (is_nil numbers) (is_plain w) (unless-holds (is_nil numbers && is_plain w) bad_value d.0) in
    none-brought (all_tickets numbers s) (filled s.next_file s.inventory w) c (same_Some (filled s.next_file s.inventory w) c is) (plain-none s.next_file s.inventory w plain.1)
brought actor (asked.Backup filespace items) numbers s c is free =
    let a = append-none (are_there numbers s) _ free in
    let b = append-none (unless (name_once numbers && nat_le (length numbers) 256) bad_value) _ a.1 in
    let d = append-none (asked_refused (asked.Backup filespace items) numbers s) _ b.1 in
    let e = append-none (of_tickets (λ t. unless t.is_sealed (ticket_in_use t.number)) numbers s) _ d.1 in
    let f = append-none (unless (length (map (λ (i : Item). i.digest) items) == length numbers) bad_value) _ d.0 in
    let g = append-none (of_tickets (λ t. unless (is_storing t.purpose) bad_value) numbers s) _ f.1 in
    let new : Change = change.Backup (record { filespace = filespace; scratch = scratch_of s.inventory (all_tickets numbers s); items = paired version_from items (all_tickets numbers s) }) in
    subst (λ (x : Change). AllByRecursion (IsFrom (all_tickets numbers s)) (new_versions x)) (some-same (are_so_many (length items) numbers s) new c is) (versions-from s items numbers a.0 g.1 g.0 e.0)
brought actor (asked.Hold filespace items) numbers s c is free = none-brought (all_tickets numbers s) _ c (some-same (are_so_many (length items) numbers s) _ c is) refl
brought actor asked.Placed numbers s c is free =
    none-brought (all_tickets numbers s) (placed_change s.inventory (all_tickets numbers s)) c (some-same (are_so_many (length numbers) numbers s && not (is_nil numbers)) (placed_change s.inventory (all_tickets numbers s)) c is)
    (placed-of (list_all is_moved (all_tickets numbers s)) _ _)

-- ---- their bytes

-- the one that stores an object is found among them
stored-one : (object : ℕ) (other : List ℕ) (t : Ticket) (spent : List Ticket) → stored_by object t ≡ true → ((u : Ticket) → Has u spent → stored_by object u ≡ true → u ≡ t) → Has t spent
    → option_map_or (λ (x : Ticket). x.bytes) (find (stored_by object) spent) other ≡ t.bytes
stored-one object other t [] its so h = absurd h
stored-one object other t (x ∷ spent) its so h =
    elim (stored_by object x) as (λ b. stored_by object x ≡ b → option_map_or (λ (y : Ticket). y.bytes) (if b then Some x else find (stored_by object) spent) other ≡ t.bytes) [
      | true ↦ λ is. ap (λ (y : Ticket). y.bytes) (so x (inl refl) is)
      | false ↦ λ is. stored-one object other t spent its (λ u k. so u (inr k)) (among h is)
    ] refl where
      among : Has t (x ∷ spent) → stored_by object x ≡ false → Has t spent
      among (inl same) is = absurd (false≢true (sym is ∙ ap (stored_by object) same ∙ its))
      among (inr k) is = k

-- none of them stores the object
stored-none : (object : ℕ) (contents : ℕ → List ℕ) (spent : List Ticket) → ((t : Ticket) → Has t spent → stored_by object t ≡ false) → storing_contents spent contents object ≡ contents object
stored-none object contents [] h = refl
stored-none object contents (x ∷ spent) h =
    ap (λ (b : Bool). option_map_or (λ (t : Ticket). t.bytes) (if b then Some x else find (stored_by object) spent) (contents object)) (h x (inl refl)) ∙ stored-none object contents spent (λ t k. h t (inr k))

stores-own : (t : Ticket) → is_storing t.purpose ≡ true → stored_by (object_of t.purpose) t ≡ true
stores-own t is = ap (λ b. b && object_of t.purpose == object_of t.purpose) is ∙ eq-eqb (object_of t.purpose) (object_of t.purpose) refl

stores-so : (object : ℕ) (t : Ticket) → stored_by object t ≡ true → (is_storing t.purpose ≡ true) × (object_of t.purpose ≡ object)
stores-so object t h = (let parts = and_parts (is_storing t.purpose) (object_of t.purpose == object) h in (parts.0, eqb-true (object_of t.purpose) object parts.1))

module _ (actor : ℕ) (numbers : List ℕ) (later : List Entry) (c : Core) (contents : ℕ → List ℕ) (k : Kept later c.tickets c.next_object c.next_ticket contents) where
  abbrev spent : List Ticket
  spent = all_tickets numbers (sight actor c)

  abbrev left : List Ticket
  left = without actor numbers c.tickets

  abbrev stored : ℕ → List ℕ
  stored = storing_contents spent contents

  -- what was stored already
  older : (i : NewVersion) → IsStored contents c.tickets c.next_object i → IsStored stored left c.next_object i
  older i h =
      let same : stored i.object ≡ contents i.object = stored-none i.object contents spent (λ t has. h.3 t (has-spent actor c numbers t has).0) in (
        h.0 ∙ ap length (sym same),
        h.1 ∙ ap (λ (l : List ℕ). digest_with (sha256 l)) (sym same),
        h.2,
        λ u has. h.3 u (has-without actor numbers c.tickets u has).0,
      )

  -- what is stored now
  newer : (i : NewVersion) → IsFrom spent i → IsStored stored left c.next_object i
  newer i (t, has, whole, stores, object, size, digest) =
      let chosen = has-spent actor c numbers t has in
      let full : length t.bytes ≡ t.size = k.1.full t chosen.0 stores whole in
      let low : object_of t.purpose < c.next_object = k.1.object t chosen.0 stores in
      let bytes : stored i.object ≡ t.bytes =
      stored-one i.object (contents i.object) t spent (ap (λ (o : ℕ). stored_by o t) object ∙ stores-own t stores)
      (λ u among yes. (let so = stores-so i.object u yes in k.1.own u t (has-spent actor c numbers u among).0 chosen.0 so.0 stores (so.1 ∙ object))) has in (
        size ∙ sym full ∙ ap length (sym bytes),
        digest ∙ ap (λ (l : List ℕ). digest_with (sha256 l)) (sym bytes),
        omega (arith, object, low),
        λ u left_so. elsewhere u (has-without actor numbers c.tickets u left_so) chosen,
      )
    where
      elsewhere : (u : Ticket) → Has u c.tickets × (is_among actor numbers u ≡ false) → IsChosen actor numbers c.tickets t → stored_by i.object u ≡ false
      elsewhere u out chosen = elim (stored_by i.object u) as (λ b. stored_by i.object u ≡ b → b ≡ false) [
        | true ↦ λ yes.
            (let so = stores-so i.object u yes in
            let same : t ≡ u = k.1.own t u chosen.0 out.0 stores so.0 (sym object ∙ sym so.1) in
            absurd (false≢true (sym out.1 ∙ subst (λ (x : Ticket). is_among actor numbers x ≡ true) same chosen.1)))
        | false ↦ λ no. refl
      ] refl

  -- a transaction joins that has versions from these tickets, or none
  joined-kept : (e : Entry) → AllByRecursion (IsFrom spent) (new_versions e.change) → Kept (later ++ e ∷ []) left c.next_object c.next_ticket stored
  joined-kept e from = (
    each-append (IsStored stored left c.next_object) later (e ∷ []) (each-same (IsStored contents c.tickets c.next_object) (IsStored stored left c.next_object) older later k.0) (items-so (IsFrom spent) (IsStored stored left c.next_object) newer (new_versions e.change) from, tt),
    (fewer-kept later c.tickets left c.next_object c.next_ticket c.next_object c.next_ticket contents (λ t h. (has-without actor numbers c.tickets t h).0) (omega arith) (omega arith) k).1,
  )

-- ---- one step

-- what a step that copies has isn't for a new object
copies-one : (number : ℕ) (s : Sight) (t : Ticket) → ticket number s.tickets ≡ Some t → copying_refused number s ≡ [] → is_storing t.purpose ≡ false
copies-one number s t is none =
    let mine = subst (λ (o : Option Ticket). of_ticket (λ x. if is_storing x.purpose then ticket_in_use number ∷ [] else unless (not x.is_sealed) (ticket_in_use number) ++ object_gone (object_of x.purpose) s) o ≡ []) is none in
    elim (is_storing t.purpose) as (λ b. (if b then ticket_in_use number ∷ [] else unless (not t.is_sealed) (ticket_in_use number) ++ object_gone (object_of t.purpose) s) ≡ [] → b ≡ false) [
      | true ↦ λ odd. absurd cc
      | false ↦ λ ok. refl
    ] mine

-- some transactions joined, and what was stored has its bytes
abbrev Went : (later : List Entry) → (m next : Machine) → Type 0
Went later m next = (entries : List Entry) × (next.core.journal ≡ m.core.journal ++ entries) × KeptBy (later ++ entries) next

module _ (places : Places) (actor : ℕ) (later : List Entry) (m next : Machine) (k : KeptBy later m) where
  core-kept : (c : Core) (contents : ℕ → List ℕ) (entries : List Entry) → next.core ≡ c → next.contents ≡ contents → c.journal ≡ m.core.journal ++ entries → Kept (later ++ entries) c.tickets c.next_object c.next_ticket contents → Went later m next
  core-kept c contents entries is same journal kept = (
    entries,
    ap (λ (x : Core). x.journal) is ∙ journal,
    subst (λ (f : ℕ → List ℕ). Kept (later ++ entries) next.core.tickets next.core.next_object next.core.next_ticket f) (sym same)
        (subst (λ (x : Core). Kept (later ++ entries) x.tickets x.next_object x.next_ticket contents) (sym is) kept),
  )

  -- nothing joined
  quiet : (c : Core) → next.core ≡ c → next.contents ≡ m.contents → c.journal ≡ m.core.journal → Kept later c.tickets c.next_object c.next_ticket m.contents → Went later m next
  quiet c is same journal kept =
      core-kept c m.contents [] is same (journal ∙ sym (append-nil m.core.journal)) (subst (λ (l : List Entry). Kept l c.tickets c.next_object c.next_ticket m.contents) (sym (append-nil later)) kept)

  -- a transaction joined that brings no version
  enters : (c : Core) (e : Entry) → next.core ≡ c → next.contents ≡ m.contents → c.journal ≡ m.core.journal ++ e ∷ [] → new_versions e.change ≡ [] → Kept later c.tickets c.next_object c.next_ticket m.contents → Went later m next
  enters c e is same journal none kept =
      core-kept c m.contents (e ∷ []) is same journal
      (each-append (IsStored m.contents c.tickets c.next_object) later (e ∷ []) kept.0 (subst (λ (l : List NewVersion). AllByRecursion (IsStored m.contents c.tickets c.next_object) l) (sym none) tt, tt), kept.1)

  stays : Stays m next → Went later m next
  stays h = quiet m.core h.core h.contents refl k

  gone-kept : (numbers : List ℕ) → Kept later (without actor numbers m.core.tickets) m.core.next_object m.core.next_ticket m.contents
  gone-kept numbers =
      fewer-kept later m.core.tickets (without actor numbers m.core.tickets) m.core.next_object m.core.next_ticket m.core.next_object m.core.next_ticket m.contents (λ t h. (has-without actor numbers m.core.tickets t h).0) (omega arith) (omega arith) k

  drops : (number : ℕ) (e : Refusal) → DropsTicket actor number m e next → Went later m next
  drops number e (t, file, is, has, why, rose, becomes) = quiet (dropping actor number m.core) becomes.core becomes.contents refl (gone-kept (number ∷ []))

  commit-went : (given : Asked) (numbers : List ℕ) (c : Change) (core : Core) → asked_change actor given numbers m.core ≡ Some c → commit_refused actor given numbers (sight actor m.core) ≡ [] → core.journal ≡ m.core.journal ++ (record { actor = actor; change = c }) ∷ []
      → core.tickets ≡ without actor numbers m.core.tickets → core.next_object ≡ m.core.next_object → core.next_ticket ≡ m.core.next_ticket → next.core ≡ core → next.contents ≡ storing_contents (all_tickets numbers (sight actor m.core)) m.contents → Went later m next
  commit-went given numbers c core is free journal tickets objects drawn left_so same =
      let e : Entry = record { actor = actor; change = c } in
      let all = joined-kept actor numbers later m.core m.contents k e (brought actor given numbers (sight actor m.core) c is free) in
      core-kept core (storing_contents (all_tickets numbers (sight actor m.core)) m.contents) (e ∷ []) left_so same journal
      (subst (λ (ts : List Ticket). Kept (later ++ e ∷ []) ts core.next_object core.next_ticket (storing_contents (all_tickets numbers (sight actor m.core)) m.contents)) (sym tickets)
      (subst (λ (n : ℕ). Kept (later ++ e ∷ []) (without actor numbers m.core.tickets) n core.next_ticket (storing_contents (all_tickets numbers (sight actor m.core)) m.contents)) (sym objects)
      (subst (λ (n : ℕ). Kept (later ++ e ∷ []) (without actor numbers m.core.tickets) m.core.next_object n (storing_contents (all_tickets numbers (sight actor m.core)) m.contents)) (sym drawn) all)))

  own-none : (ends own others : List Refusal) → foremost (ends ++ (own ++ others)) ≡ None → own ≡ []
  own-none ends own others h = (append-none own others (append-none ends (own ++ others) (none-held (ends ++ (own ++ others)) h)).1).0

  last-none : (ends own : List Refusal) → foremost (ends ++ own) ≡ None → own ≡ []
  last-none ends own h = (append-none ends own (none-held (ends ++ own) h)).1

  deed-kept : (d : Deed) → Case places actor d m next → Went later m next
  deed-kept (OpenNew pool size prefer (Ok number)) (placed, at, (none, (place, is, numbered, becomes))) =
      quiet (opened_new actor size place m.core) becomes.core becomes.contents refl
      (push-kept later m.core.tickets m.core.next_object m.core.next_ticket (m.core.next_object + 1) m.contents _ refl refl (omega arith) (λ stores. (refl, refl)) k)
  deed-kept (OpenNew pool size prefer (Err e)) (placed, at, inl h) = stays h.1
  deed-kept (OpenNew pool size prefer (Err e)) (placed, at, inr h) = absurd h.1
  deed-kept (OpenCopy object a avoid (Ok number)) (placed, at, (none, (place, is, numbered, becomes))) =
      quiet (opened actor (size_of object (inventory m.core)) (copying object a) place m.core) becomes.core becomes.contents refl
      (push-kept later m.core.tickets m.core.next_object m.core.next_ticket m.core.next_object m.contents _ refl refl (omega arith) (λ stores. absurd (false≢true stores)) k)
  deed-kept (OpenCopy object a avoid (Err e)) (placed, at, inl h) = stays h.1
  deed-kept (OpenCopy object a avoid (Err e)) (placed, at, inr h) = absurd h.1
  deed-kept (WritePiece number bytes (Ok count)) (none, (t, is, counted, becomes)) =
      let unsealed : t.is_sealed ≡ false = not-sealed number (length bytes) (sight actor m.core) t is (last-none (ended m) (write_refused number (length bytes) (sight actor m.core)) none) in
      quiet (with_tickets (taking actor number bytes m.core.tickets) m.core) becomes.core becomes.contents refl
      (one-kept actor number (took bytes) (λ x. (refl, refl)) later m.core.tickets m.core.next_object m.core.next_ticket m.contents t is (λ full stores yes. absurd (false≢true (sym unsealed ∙ yes))) k)
  deed-kept (WritePiece number bytes (Err e)) (inl h) = stays h.1
  deed-kept (WritePiece number bytes (Err e)) (inr (none, h)) = drops number e h
  deed-kept (CopyPiece number (Ok count)) (none, (t, is, counted, (read, becomes))) =
      let copies : is_storing t.purpose ≡ false = copies-one number (sight actor m.core) t is (last-none (ended m) (copying_refused number (sight actor m.core)) none) in
      quiet (with_tickets _ m.core) becomes.core becomes.contents refl
      (one-kept actor number (took _) (λ x. (refl, refl)) later m.core.tickets m.core.next_object m.core.next_ticket m.contents t is (λ full stores yes. absurd (false≢true (sym copies ∙ stores))) k)
  deed-kept (CopyPiece number (Err e)) (inl h) = stays h.1
  deed-kept (CopyPiece number (Err e)) (inr (none, inl (t, is, why, cant, still))) = stays still
  deed-kept (CopyPiece number (Err e)) (inr (none, inr h)) = drops number e h
  deed-kept (Seal number (Ok done)) (none, becomes) =
      let full = sealed-full number (sight actor m.core) (last-none (ended m) (seal_refused number (sight actor m.core)) none) in
      quiet (with_tickets (sealing actor number m.core.tickets) m.core) becomes.core becomes.contents refl
      (one-kept actor number sealed (λ x. (refl, refl)) later m.core.tickets m.core.next_object m.core.next_ticket m.contents full.0 full.1 (λ was stores yes. full.2) k)
  deed-kept (Seal number (Err e)) (inl h) = stays h.1
  deed-kept (Seal number (Err e)) (inr (none, h)) = drops number e h
  deed-kept (Commit given numbers (Ok n)) (none, (c, is, numbered, joins)) =
      commit-went given numbers c (committed actor c numbers m.core) is (own-none (ended m) (commit_refused actor given numbers (sight actor m.core)) _ none) refl refl refl refl joins.0 joins.1
  deed-kept (Commit given numbers (Err e)) (inl h) = stays h.1
  deed-kept (Commit given numbers (Err e)) (inr (none, (c, file, count, is, why, fault, joins))) =
      commit-went given numbers c (halting file count (committed actor c numbers m.core)) is (own-none (ended m) (commit_refused actor given numbers (sight actor m.core)) _ none) refl refl refl refl joins.0 joins.1
  deed-kept (DropTicket number (Ok done)) (none, becomes) = quiet (dropping actor number m.core) becomes.core becomes.contents refl (gone-kept (number ∷ []))
  deed-kept (DropTicket number (Err e)) (inl h) = stays h.1
  deed-kept (DropTicket number (Err e)) (inr h) = absurd h.1
  deed-kept (ReadPiece object kept from offset wanted (Ok bytes)) (none, (is, read, still)) = stays still
  deed-kept (ReadPiece object kept from offset wanted (Err e)) (inl h) = stays h.1
  deed-kept (ReadPiece object kept from offset wanted (Err e)) (inr (none, (why, cant, still))) = stays still
  deed-kept (Ask query (Ok answer)) h = stays h.1.1
  deed-kept (Ask query (Err e)) (inl h) = stays h.1
  deed-kept (Ask query (Err e)) (inr h) = absurd h.1
  deed-kept (Image image.Checkpoint (Ok reply)) (none, (unwritten, is, becomes)) = quiet (with_image _ (stamped next.moment m.core)) becomes.core becomes.contents refl k
  deed-kept (Image image.Checkpoint (Err e)) (inl h) = stays h.1
  deed-kept (Image image.Checkpoint (Err e)) (inr (none, (file, count, moment, core, why, fault, inl is, becomes))) = quiet (halting file count m.core) (becomes.core ∙ ap (halting file count) is) becomes.contents refl k
  deed-kept (Image image.Checkpoint (Err e)) (inr (none, (file, count, moment, core, why, fault, inr is, becomes))) = quiet (halting file count (stamped moment m.core)) (becomes.core ∙ ap (halting file count) is) becomes.contents refl k
  deed-kept (Image image.Backup (Ok reply)) (none, (unwritten, is, becomes)) = enters (with_image _ (stamped next.moment (begun actor None m.core))) _ becomes.core becomes.contents refl refl k
  deed-kept (Image image.Backup (Err e)) (inl h) = stays h.1
  deed-kept (Image image.Backup (Err e)) (inr (none, inl (file, count, why, fault, becomes))) = enters (halting file count (begun actor None m.core)) _ becomes.core becomes.contents refl refl k
  deed-kept (Image image.Backup (Err e)) (inr (none, inr (moment, why, rose, becomes))) = enters (stamped moment (begun actor None m.core)) _ becomes.core becomes.contents refl refl k
  deed-kept (Image (image.Since after) (Ok reply)) (none, (unwritten, is, becomes)) = enters (with_image _ (stamped next.moment (begun actor (Some after) m.core))) _ becomes.core becomes.contents refl refl k
  deed-kept (Image (image.Since after) (Err e)) (inl h) = stays h.1
  deed-kept (Image (image.Since after) (Err e)) (inr (none, inl (file, count, why, fault, becomes))) = enters (halting file count (begun actor (Some after) m.core)) _ becomes.core becomes.contents refl refl k
  deed-kept (Image (image.Since after) (Err e)) (inr (none, inr (moment, why, rose, becomes))) = enters (stamped moment (begun actor (Some after) m.core)) _ becomes.core becomes.contents refl refl k
  deed-kept (Image image.Next (Ok told.More)) (none, (i, j, is, wrote, becomes)) = quiet (with_image _ m.core) becomes.core becomes.contents refl k
  deed-kept (Image image.Next (Ok (told.Done seq))) (none, (i, is, same, whole, inl (picture, copied, becomes))) = quiet (checkpointed next.moment i m.core) becomes.core becomes.contents refl k
  deed-kept (Image image.Next (Ok (told.Done seq))) (none, (i, is, same, whole, inr (picture, legal, becomes))) = enters (with_image _ (ending actor i m.core)) _ becomes.core becomes.contents refl refl k
  deed-kept (Image image.Next (Ok (told.Begun file seq))) (none, h) = absurd h
  deed-kept (Image image.Next (Err e)) (inl h) = stays h.1
  deed-kept (Image image.Next (Err e)) (inr (none, (i, is, inl (picture, why, rose, becomes)))) = quiet (with_image _ m.core) becomes.core becomes.contents refl k
  deed-kept (Image image.Next (Err e)) (inr (none, (i, is, inr (inl (picture, whole, why, bound, becomes))))) = quiet (with_image _ m.core) becomes.core becomes.contents refl k
  deed-kept (Image image.Next (Err e)) (inr (none, (i, is, inr (inr (file, count, moment, core, why, fault, inl same, becomes))))) = quiet (halting file count m.core) (becomes.core ∙ ap (halting file count) same) becomes.contents refl k
  deed-kept (Image image.Next (Err e)) (inr (none, (i, is, inr (inr (file, count, moment, core, why, fault, inr (inl same), becomes))))) =
      quiet (halting file count (stamped moment m.core)) (becomes.core ∙ ap (halting file count) same) becomes.contents refl k
  deed-kept (Image image.Next (Err e)) (inr (none, (i, is, inr (inr (file, count, moment, core, why, fault, inr (inr (picture, same)), becomes))))) =
      enters (halting file count (ending actor i m.core)) _ (becomes.core ∙ ap (halting file count) same) becomes.contents refl refl k
  deed-kept (Reuse file (Ok number)) (none, (numbered, becomes)) = enters (stamped next.moment (made actor (change.Reuse file) m.core)) _ becomes.core becomes.contents refl refl k
  deed-kept (Reuse file (Err e)) (inl h) = stays h.1
  deed-kept (Reuse file (Err e)) (inr (none, (log, count, why, fault, becomes))) = enters (halting log count (made actor (change.Reuse file) m.core)) _ becomes.core becomes.contents refl refl k
  deed-kept (Force (Ok number)) (none, (numbered, becomes)) = quiet (stamped next.moment m.core) becomes.core becomes.contents refl k
  deed-kept (Force (Err e)) (inl h) = stays h.1
  deed-kept (Force (Err e)) (inr (none, (file, count, why, fault, becomes))) = quiet (halting file count m.core) becomes.core becomes.contents refl k

-- ---- a run

module _ (trusted : Type 0) (places : Places) (actor : ℕ) (later : List Entry) (old next : Machine) (seen : ℕ → List ℕ) (k : KeptBy later old) where
  -- what a step but a read saw is what there was
  other-kept : (d : Deed) → seen ≡ old.contents → Case places actor d (with_contents seen old) next → Went later old next
  other-kept d same step = deed-kept places actor later (with_contents seen old) next (subst (λ (f : ℕ → List ℕ). Kept later old.core.tickets old.core.next_object old.core.next_ticket f) (sym same) k) d step

  read-kept : Stays (with_contents seen old) next → Went later old (with_contents old.contents next)
  read-kept still = quiet places actor later old (with_contents old.contents next) k old.core still.core refl refl k

  left-kept : (d : Deed) → AreBytes trusted d old.contents seen → Case places actor d (with_contents seen old) next → Went later old (behind d old.contents next)
  left-kept (ReadPiece object kept from offset wanted (Ok bytes)) same (none, (is, read, still)) = read-kept still
  left-kept (ReadPiece object kept from offset wanted (Err e)) same (inl h) = read-kept h.1
  left-kept (ReadPiece object kept from offset wanted (Err e)) same (inr (none, (why, cant, still))) = read-kept still
  left-kept (OpenNew pool size prefer answer) same step = other-kept (OpenNew pool size prefer answer) same step
  left-kept (OpenCopy object a avoid answer) same step = other-kept (OpenCopy object a avoid answer) same step
  left-kept (WritePiece number bytes answer) same step = other-kept (WritePiece number bytes answer) same step
  left-kept (CopyPiece number answer) same step = other-kept (CopyPiece number answer) same step
  left-kept (Seal number answer) same step = other-kept (Seal number answer) same step
  left-kept (Commit given numbers answer) same step = other-kept (Commit given numbers answer) same step
  left-kept (DropTicket number answer) same step = other-kept (DropTicket number answer) same step
  left-kept (Ask query answer) same step = other-kept (Ask query answer) same step
  left-kept (Image kind answer) same step = other-kept (Image kind answer) same step
  left-kept (Reuse file answer) same step = other-kept (Reuse file answer) same step
  left-kept (Force answer) same step = other-kept (Force answer) same step

same-rest : (xs ys zs : List Entry) → xs ++ ys ≡ xs ++ zs → ys ≡ zs
same-rest [] ys zs h = h
same-rest (x ∷ xs) ys zs h = same-rest xs ys zs cc

module _ (trusted : Type 0) (places : Places) where
  moves-kept : (actor : ℕ) (later : List Entry) (e : Event) (old new : Machine) → KeptBy later old → Moves trusted places actor e old new → Went later old new
  moves-kept actor later e old new k m = subst (λ (x : Machine). Went later old x) (sym m.left) (left-kept trusted places actor later old m.next m.seen k e.deed m.bytes m.made.step)

  turned-kept : (turns : List Turn) (later : List Entry) (old last : Machine) → KeptBy later old → Turned trusted places turns old last → Went later old last
  turned-kept [] later old last k is =
      subst (λ (x : Machine). Went later old x) (sym is) ([], sym (append-nil old.core.journal), subst (λ (l : List Entry). KeptBy l old) (sym (append-nil later)) k)
  turned-kept (t ∷ turns) later old last k (next, made, rest) =
      let one = moves-kept t.actor later t.did old next k made in
      let more = turned-kept turns (later ++ one.0) next last one.2 rest in (
        one.0 ++ more.0,
        more.1 ∙ ap (λ (l : List Entry). l ++ more.0) one.1 ∙ append_assoc old.core.journal one.0 more.0,
        subst (λ (l : List Entry). KeptBy l last) (append_assoc later one.0 more.0) more.2,
      )

  none-kept : (old : Machine) → old.core.tickets ≡ [] → KeptBy [] old
  none-kept old none = (
    tt,
    subst (λ (ts : List Ticket). AreHeld ts old.core.next_object old.core.next_ticket) (sym none) (record {
      number = λ t has. absurd has;
      object = λ t has. absurd has;
      full = λ t has. absurd has;
      once = λ t u has. absurd has;
      own = λ t u has. absurd has;
    }),
  )

  -- what a run stored that began without a ticket has its bytes behind it
  pub have-bytes : (turns : List Turn) (old last : Machine) (added : List Entry) → old.core.tickets ≡ [] → Turned trusted places turns old last → Adds added old last → HaveBytes last added
  have-bytes turns old last added none ran adds =
      let all = turned-kept turns [] old last (none-kept old none) ran in
      let same : all.0 ≡ added = same-rest old.core.journal all.0 added (sym all.1 ∙ adds.journal) in
      each-same (IsStored last.contents last.core.tickets last.core.next_object) (λ (i : NewVersion). (i.size ≡ length (last.contents i.object)) × (i.digest ≡ digest_with (sha256 (last.contents i.object)))) (λ i h. (h.0, h.1)) added
      (subst (λ (l : List Entry). EachItem (IsStored last.contents last.core.tickets last.core.next_object) l) same all.2.0)
