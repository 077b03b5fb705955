-- What an actor sees of what the hall holds is what it sees of the machine, but for the bytes of its tickets; and what doesn't look at these is the same of both.
use Rattle.std.proofs.Common.{◌≡◌, ℕ, suc, Bool, true, false, cond, ◌&&◌, ◌||◌, not, nat_le, is_some, List, [], ◌∷◌, ◌++◌, map, length, Option, Some, None, refl, sym, ap, ◌∙◌, if◌then◌else◌}
use Rattle.std.specs.Prelude.{◌==◌}
use Rattle.std.specs.List.{flat_map, list_all}
use Rattle.std.specs.Option.{option_map_or}
use Rattle.kinds.specs.declared.segment.Segment.{Segment}
use Rattle.kinds.specs.declared.refusal.Refusal.{Refusal}
use Rattle.kinds.specs.declared.refusal.Refusal.TheVariants as refusal
use Rattle.kinds.specs.Refusals.{bad_value, unless}
use Rattle.entries.specs.declared.change.Change.{Change}
use Rattle.entries.specs.declared.change.Change.TheVariants as change
use Rattle.inventory_rows.specs.version_groups.Entries.{is_nil}
use Rattle.inventory_rows.specs.State.{Inv}
use Rattle.inventory_rules.specs.Run.{journal_of}
use Rattle.inventory_rules.specs.Versions.{name_once}
use Rattle.space.specs.declared.aim.Aim.TheVariants as aim
use Rattle.space.specs.declared.places.Placed.{Placed}
use Rattle.steps.specs.declared.asked.Asked.{Asked}
use Rattle.steps.specs.declared.asked.Asked.TheVariants as asked
use Rattle.machine.specs.Causes.{are_there, change_refused, of_tickets}
use Rattle.machine.specs.Changes.{all_tickets, are_so_many, change_of, copy_from, held_from, is_copied, is_moved, move_from, new_files, once, paired, placed_change, scratch_of, version_from}
use Rattle.machine.specs.State.{Core, Purpose, Sight, Ticket, copying, is_storing, own_tickets, sight, storing, ticket}
use Rattle.hall.specs.declared.seat.Seat.{Seat}
use Rattle.hall.specs.Commits.{all_are, asked_unfit, new_unfit, unfit}
use Rattle.hall.specs.Held.{AreSeatsOf, Held, IsCore, IsSeatOf}
use Rattle.hall.specs.Sights.{sight_of, ticket_of, tickets_of}

-- ---- tickets without their bytes

abbrev pub forget : Ticket → Ticket
forget t = record { number = t.number; actor = t.actor; purpose = t.purpose; size = t.size; place = t.place; bytes = []; is_sealed = t.is_sealed }

abbrev pub forgot : Option Ticket → Option Ticket
forgot None = None
forgot (Some t) = Some (forget t)

abbrev pub forgetting : Sight → Sight
forgetting s = record { first = s.first; next_file = s.next_file; journal = s.journal; inventory = s.inventory; tickets = map forget s.tickets; image = None }

abbrev in_pool : ℕ → Segment → Placed
in_pool pool s = record { pool = pool; segment = s }

places_back : (pool : ℕ) (segments : List Segment) → map (λ (p : Placed). p.segment) (map (in_pool pool) segments) ≡ segments
places_back pool [] = refl
places_back pool (s ∷ segments) = ap (λ (l : List Segment). s ∷ l) (places_back pool segments)

-- a ticket of the machine, without its bytes, is the one that is held
pub forget_is : (key : ℕ) (s : Seat) (t : Ticket) → IsSeatOf key s t → forget t ≡ ticket_of key s
forget_is key s t is =
    let segments : t.place.segments ≡ map (λ (p : Placed). p.segment) s.places = sym (places_back t.place.pool t.place.segments) ∙ ap (map (λ (p : Placed). p.segment)) is.places in
    λ i. record {
      number = is.number i;
      actor = is.actor i;
      purpose = is.purpose i;
      size = is.size i;
      place = record { pool = is.pool i; segments = segments i };
      bytes = [];
      is_sealed = is.is_sealed i;
    }

pub tickets_are : (seats : List (ℕ × Seat)) (ts : List Ticket) → AreSeatsOf seats ts → tickets_of seats ≡ map forget ts
tickets_are [] [] are = refl
tickets_are [] (t ∷ ts) are = absurd are
tickets_are (e ∷ seats) [] are = absurd are
tickets_are (e ∷ seats) (t ∷ ts) are = λ i. sym (forget_is e.0 e.1 t are.0) i ∷ tickets_are seats ts are.1 i

own_forgot : (actor : ℕ) (ts : List Ticket) → own_tickets actor (map forget ts) ≡ map forget (own_tickets actor ts)
own_forgot actor [] = refl
own_forgot actor (t ∷ ts) =
    elim (t.actor == actor) as (λ b. cond b (forget t ∷ own_tickets actor (map forget ts)) (own_tickets actor (map forget ts)) ≡ map forget (cond b (t ∷ own_tickets actor ts) (own_tickets actor ts))) [
      | true ↦ ap (λ (l : List Ticket). forget t ∷ l) (own_forgot actor ts)
      | false ↦ own_forgot actor ts
    ]

-- what an actor sees of what is held is what it sees of the machine, without bytes
pub sight_is : (actor : ℕ) (h : Held) (c : Core) → IsCore h c → sight_of actor h ≡ forgetting (sight actor c)
sight_is actor h c is =
    let tickets : own_tickets actor (tickets_of h.seats) ≡ map forget (own_tickets actor c.tickets) = ap (own_tickets actor) (tickets_are h.seats c.tickets is.tickets) ∙ own_forgot actor c.tickets in
    let base : h.base ≡ c.base = sym is.base in
    let journal : h.vault.journal ≡ c.journal = sym is.journal in
    λ i. record {
      first = (base i).number;
      next_file = is.space.next_file i;
      journal = journal_of (base i) (journal i);
      inventory = is.database i;
      tickets = tickets i;
      image = None;
    }

-- ---- the ticket with a number

ticket_forgot : (number : ℕ) (ts : List Ticket) → ticket number (map forget ts) ≡ forgot (ticket number ts)
ticket_forgot number [] = refl
ticket_forgot number (t ∷ ts) = elim (t.number == number) as (λ b. cond b (Some (forget t)) (ticket number (map forget ts)) ≡ forgot (cond b (Some t) (ticket number ts))) [
  | true ↦ refl
  | false ↦ ticket_forgot number ts
]

flat_map_same : {A B : Type 0} (f g : A → List B) → ((x : A) → f x ≡ g x) → (xs : List A) → flat_map f xs ≡ flat_map g xs
flat_map_same f g same [] = refl
flat_map_same f g same (x ∷ xs) = λ i. same x i ++ flat_map_same f g same xs i

is_some_forgot : (o : Option Ticket) → is_some (forgot o) ≡ is_some o
is_some_forgot None = refl
is_some_forgot (Some t) = refl

rule_forgot : {A : Type 0} (rule : Ticket → List A) → ((t : Ticket) → rule (forget t) ≡ rule t) → (o : Option Ticket) → option_map_or rule (forgot o) [] ≡ option_map_or rule o []
rule_forgot rule same None = refl
rule_forgot rule same (Some t) = same t

one_forgot : (o : Option Ticket) → option_map_or (λ t. t ∷ []) (forgot o) [] ≡ map forget (option_map_or (λ t. t ∷ []) o [])
one_forgot None = refl
one_forgot (Some t) = refl

map_joined : (xs ys : List Ticket) → map forget xs ++ map forget ys ≡ map forget (xs ++ ys)
map_joined [] ys = refl
map_joined (x ∷ xs) ys = ap (λ (l : List Ticket). forget x ∷ l) (map_joined xs ys)

pub there_forgot : (numbers : List ℕ) (s : Sight) → are_there numbers (forgetting s) ≡ are_there numbers s
there_forgot numbers s =
    flat_map_same (λ number. unless (is_some (ticket number (map forget s.tickets))) refusal.NotFound) (λ number. unless (is_some (ticket number s.tickets)) refusal.NotFound)
    (λ number. ap (λ (b : Bool). unless b refusal.NotFound) (ap (λ (o : Option Ticket). is_some o) (ticket_forgot number s.tickets) ∙ is_some_forgot (ticket number s.tickets))) numbers

pub of_forgot : (rule : Ticket → List Refusal) → ((t : Ticket) → rule (forget t) ≡ rule t) → (numbers : List ℕ) (s : Sight) → of_tickets rule numbers (forgetting s) ≡ of_tickets rule numbers s
of_forgot rule same numbers s =
    flat_map_same (λ number. option_map_or rule (ticket number (map forget s.tickets)) []) (λ number. option_map_or rule (ticket number s.tickets) [])
    (λ number. ap (λ (o : Option Ticket). option_map_or rule o []) (ticket_forgot number s.tickets) ∙ rule_forgot rule same (ticket number s.tickets)) numbers

pub all_forgot : (numbers : List ℕ) (s : Sight) → all_tickets numbers (forgetting s) ≡ map forget (all_tickets numbers s)
all_forgot [] s = refl
all_forgot (number ∷ numbers) s =
    let one : option_map_or (λ t. t ∷ []) (ticket number (map forget s.tickets)) [] ≡ map forget (option_map_or (λ t. t ∷ []) (ticket number s.tickets) []) =
    ap (λ (o : Option Ticket). option_map_or (λ t. t ∷ []) o []) (ticket_forgot number s.tickets) ∙ one_forgot (ticket number s.tickets) in
    (λ i. one i ++ all_forgot numbers s i) ∙ map_joined (option_map_or (λ t. t ∷ []) (ticket number s.tickets) []) (all_tickets numbers s)

-- ---- lists of tickets without their bytes

length_forgot : (ts : List Ticket) → length (map forget ts) ≡ length ts
length_forgot [] = refl
length_forgot (t ∷ ts) = ap (λ n. suc n) (length_forgot ts)

all_pass_forgot : (test : Ticket → Bool) → ((t : Ticket) → test (forget t) ≡ test t) → (ts : List Ticket) → list_all test (map forget ts) ≡ list_all test ts
all_pass_forgot test same [] = refl
all_pass_forgot test same (t ∷ ts) = λ i. same t i && all_pass_forgot test same ts i

each_forgot : {A : Type 0} (f : Ticket → List A) → ((t : Ticket) → f (forget t) ≡ f t) → (ts : List Ticket) → flat_map f (map forget ts) ≡ flat_map f ts
each_forgot f same [] = refl
each_forgot f same (t ∷ ts) = λ i. same t i ++ each_forgot f same ts i

mapped_forgot : {A : Type 0} (f : Ticket → A) → ((t : Ticket) → f (forget t) ≡ f t) → (ts : List Ticket) → map f (map forget ts) ≡ map f ts
mapped_forgot f same [] = refl
mapped_forgot f same (t ∷ ts) = λ i. same t i ∷ mapped_forgot f same ts i

paired_forgot : {A B : Type 0} (f : A → Ticket → B) → ((x : A) (t : Ticket) → f x (forget t) ≡ f x t) → (xs : List A) (ts : List Ticket) → paired f xs (map forget ts) ≡ paired f xs ts
paired_forgot f same [] ts = refl
paired_forgot f same (x ∷ xs) [] = refl
paired_forgot f same (x ∷ xs) (t ∷ ts) = λ i. same x t i ∷ paired_forgot f same xs ts i

scratch_forgot : (v : Inv) (ts : List Ticket) → scratch_of v (map forget ts) ≡ scratch_of v ts
scratch_forgot v ts = ap (once []) (each_forgot (new_files v) (λ t. refl) ts)

move_forgot : (t : Ticket) (purpose : Purpose) → move_from (forget t) purpose ≡ move_from t purpose
move_forgot t (storing object) = refl
move_forgot t (copying object (aim.New number)) = refl
move_forgot t (copying object (aim.Move from placed to along)) = refl
move_forgot t (copying object (aim.Copy to)) = refl

placed_forgot : (v : Inv) (ts : List Ticket) → placed_change v (map forget ts) ≡ placed_change v ts
placed_forgot v ts =
    let moved : list_all is_moved (map forget ts) ≡ list_all is_moved ts = all_pass_forgot is_moved (λ t. refl) ts in
    let scratch : scratch_of v (map forget ts) ≡ scratch_of v ts = scratch_forgot v ts in
    let moves : flat_map (λ t. move_from t t.purpose) (map forget ts) ≡ flat_map (λ t. move_from t t.purpose) ts = each_forgot (λ t. move_from t t.purpose) (λ t. move_forgot t t.purpose) ts in
    let copies : map copy_from (map forget ts) ≡ map copy_from ts = mapped_forgot copy_from (λ t. refl) ts in
    λ i. if moved i then change.Move (record { scratch = scratch i; items = moves i }) else change.Copy (record { scratch = scratch i; items = copies i })

-- ---- what is asked

so_many_forgot : (count : ℕ) (numbers : List ℕ) (s : Sight) → are_so_many count numbers (forgetting s) ≡ are_so_many count numbers s
so_many_forgot count numbers s = ap (λ (n : ℕ). n == count && length numbers == count) (ap (λ (l : List Ticket). length l) (all_forgot numbers s) ∙ length_forgot (all_tickets numbers s))

pub change_forgot : (a : Asked) (numbers : List ℕ) (s : Sight) → change_of a numbers (forgetting s) ≡ change_of a numbers s
change_forgot (asked.Plain c) numbers s = refl
change_forgot (asked.Backup filespace items) numbers s =
    let many : are_so_many (length items) numbers (forgetting s) ≡ are_so_many (length items) numbers s = so_many_forgot (length items) numbers s in
    let scratch : scratch_of s.inventory (all_tickets numbers (forgetting s)) ≡ scratch_of s.inventory (all_tickets numbers s) = ap (scratch_of s.inventory) (all_forgot numbers s)
    ∙ scratch_forgot s.inventory (all_tickets numbers s) in
    let versions : paired version_from items (all_tickets numbers (forgetting s)) ≡ paired version_from items (all_tickets numbers s) = ap (paired version_from items) (all_forgot numbers s)
    ∙ paired_forgot version_from (λ x t. refl) items (all_tickets numbers s) in
    λ i. if many i then Some (change.Backup (record { filespace = filespace; scratch = scratch i; items = versions i })) else None
change_forgot (asked.Hold filespace items) numbers s =
    let many : are_so_many (length items) numbers (forgetting s) ≡ are_so_many (length items) numbers s = so_many_forgot (length items) numbers s in
    let scratch : scratch_of s.inventory (all_tickets numbers (forgetting s)) ≡ scratch_of s.inventory (all_tickets numbers s) = ap (scratch_of s.inventory) (all_forgot numbers s)
    ∙ scratch_forgot s.inventory (all_tickets numbers s) in
    let objects : paired held_from items (all_tickets numbers (forgetting s)) ≡ paired held_from items (all_tickets numbers s) = ap (paired held_from items) (all_forgot numbers s)
    ∙ paired_forgot held_from (λ x t. refl) items (all_tickets numbers s) in
    λ i. if many i then Some (change.Hold (record { filespace = filespace; scratch = scratch i; items = objects i })) else None
change_forgot asked.Placed numbers s =
    let many : are_so_many (length numbers) numbers (forgetting s) ≡ are_so_many (length numbers) numbers s = so_many_forgot (length numbers) numbers s in
    let placed : placed_change s.inventory (all_tickets numbers (forgetting s)) ≡ placed_change s.inventory (all_tickets numbers s) = ap (placed_change s.inventory) (all_forgot numbers s)
    ∙ placed_forgot s.inventory (all_tickets numbers s) in
    λ i. if many i && not (is_nil numbers) then Some (placed i) else None

-- ---- what refuses it

all_are_forgot : (moving : Bool) (numbers : List ℕ) (s : Sight) → all_are moving (all_tickets numbers (forgetting s)) ≡ all_are moving (all_tickets numbers s)
all_are_forgot true numbers s = ap (list_all is_moved) (all_forgot numbers s) ∙ all_pass_forgot is_moved (λ t. refl) (all_tickets numbers s)
all_are_forgot false numbers s = ap (list_all is_copied) (all_forgot numbers s) ∙ all_pass_forgot is_copied (λ t. refl) (all_tickets numbers s)

new_forgot : (count : ℕ) (numbers : List ℕ) (s : Sight) → new_unfit count numbers (forgetting s) ≡ new_unfit count numbers s
new_forgot count numbers s = ap (λ (l : List Refusal). unless (count == length numbers) bad_value ++ l) (of_forgot (λ t. unless (is_storing t.purpose) bad_value) (λ t. refl) numbers s)

asked_forgot : (a : Asked) (numbers : List ℕ) (s : Sight) → asked_unfit a numbers (forgetting s) ≡ asked_unfit a numbers s
asked_forgot (asked.Plain c) numbers s = refl
asked_forgot (asked.Backup filespace items) numbers s = new_forgot (length items) numbers s
asked_forgot (asked.Hold filespace items) numbers s = new_forgot (length items) numbers s
asked_forgot asked.Placed numbers s =
    let moved : all_are true (all_tickets numbers (forgetting s)) ≡ all_are true (all_tickets numbers s) = all_are_forgot true numbers s in
    let copied : all_are false (all_tickets numbers (forgetting s)) ≡ all_are false (all_tickets numbers s) = all_are_forgot false numbers s in
    λ i. unless (not (is_nil numbers)) bad_value ++ unless (moved i || copied i) bad_value

pub unfit_forgot : (a : Asked) (numbers : List ℕ) (s : Sight) → unfit a numbers (forgetting s) ≡ unfit a numbers s
unfit_forgot a numbers s = λ i. there_forgot numbers s i ++ (unless (name_once numbers && nat_le (length numbers) 256) bad_value ++ asked_forgot a numbers s i)

pub refused_forgot : (actor : ℕ) (made : Option Change) (s : Sight) → change_refused actor made (forgetting s) ≡ change_refused actor made s
refused_forgot actor None s = refl
refused_forgot actor (Some c) s = refl
