-- Why an object goes nowhere in the hall: where all tickets are the actor's own, nothing has to be waited for but a transaction that isn't forced yet; and no run ends by it.
use Rattle.std.specs.Prelude.{◌≡◌, ℕ, ◌+◌, ◌<◌, ◌&&◌, Bool, true, false, not, suc, Contains, if◌then◌else◌, is_some, List, [], ◌∷◌, map, length, Option, None, Some, Result, Ok, Err, refl}
use Rattle.std.proofs.Common.{sym, ap, subst, ◌∙◌, arith}
use Rattle.std.proofs.lemmas.Bool.{eq-eqb}
use Rattle.std.specs.List.{AllByRecursion, find, list_any}
use Rattle.std.specs.Option.{option_map}
use Rattle.kinds.specs.declared.refusal.Holder.{Holder}
use Rattle.kinds.specs.declared.refusal.Holder.TheVariants.{Ticket, Unforced}
use Rattle.kinds.specs.declared.refusal.Refusal.{Refusal}
use Rattle.kinds.specs.declared.refusal.Refusal.TheVariants.{Busy, InventoryFull, NoSpace}
use Rattle.steps.specs.Events.{has_number}
use Rattle.inventory_rows.specs.State.{Inv}
use Rattle.space.specs.declared.aim.Aim.{Aim}
use Rattle.space.specs.declared.claims.Claim.{Claim}
use Rattle.space.specs.declared.places.Placed.{Placed}
use Rattle.space.specs.declared.request.Request.{Request}
use Rattle.space.specs.Claims.{Claims, counted, own_alone, without_others}
use Rattle.space.specs.Placing.{busy_or_full, choose, goes_to, holds_in, lies_in, no_place, placed_in, placed_or_refused, pool_for, random_among, ticket_in, unforced_in, walked}
use Rattle.machine.specs.Machine.{Space}
use Rattle.machine.specs.Says.{is_elsewhere}
use Rattle.machine.specs.State.{Ticket as MachineTicket}
use Rattle.hall.specs.Placed.{IsChosen, IsSpace, claim_of, hall_places, request}

-- a refusal is no Busy
abbrev IsFree : Refusal → Type 0
IsFree e = (h : Holder) → e ≡ Busy h → ⊥

free_space : (pool : ℕ) → IsFree (NoSpace pool)
free_space pool h is = absurd cc

-- each list of places is empty
abbrev AreEmpty : List (ℕ × List Placed) → Type 0
AreEmpty freed = (number : ℕ) (places : List Placed) (p : Placed) → Contains freed (number, places) → Contains places p → ⊥

-- a refusal that is Busy names a transaction that isn't forced yet, and then one of these lists isn't empty
abbrev NamesUnforced : List (ℕ × List Placed) → Refusal → Type 0
NamesUnforced freed e = (h : Holder) → e ≡ Busy h → ((number : ℕ) × (h ≡ Unforced number)) × (AreEmpty freed → ⊥)

free_names : (freed : List (ℕ × List Placed)) (e : Refusal) → IsFree e → NamesUnforced freed e
free_names freed e free h is = absurd (free h is)

further : {A : Type 0} (x y : A) (xs : List A) → Contains xs x → Contains (y ∷ xs) x
further x y xs h = (suc h.0, omega (arith, h.1), h.2)

none_unforced : (pools : List ℕ) (freed : List (ℕ × List Placed)) → AreEmpty freed → find (λ f. list_any (lies_in pools) f.1) freed ≡ None
none_unforced pools [] none = refl
none_unforced pools ((number, []) ∷ freed) none = none_unforced pools freed (λ n places p there within. none n places p (further (n, places) (number, []) freed there) within)
none_unforced pools ((number, p ∷ places) ∷ freed) none = absurd (none number (p ∷ places) p (0, omega arith, refl) (0, omega arith, refl))

free_unforced : (start : ℕ) (pools : List ℕ) (claims : Claims) → AreEmpty claims.freed → IsFree (busy_or_full start Unforced (unforced_in pools claims))
free_unforced start pools claims none h is =
    free_space start h (subst (λ (found : Option (ℕ × List Placed)). busy_or_full start Unforced (option_map (λ f. f.0) found) ≡ Busy h) (none_unforced pools claims.freed none) is)

unforced_named : (start : ℕ) (found : Option ℕ) (h : Holder) → busy_or_full start Unforced found ≡ Busy h → (number : ℕ) × (h ≡ Unforced number)
unforced_named start None h is = absurd cc
unforced_named start (Some number) h is = (number, (let same : Busy (Unforced number) ≡ Busy h = is in cc))

names_unforced : (start : ℕ) (pools : List ℕ) (claims : Claims) → NamesUnforced claims.freed (busy_or_full start Unforced (unforced_in pools claims))
names_unforced start pools claims h is = (unforced_named start (unforced_in pools claims) h is, λ none. free_unforced start pools claims none h is)

-- no ticket is another actor's
abbrev NoOther : (actor : ℕ) → Claims → Type 0
NoOther actor claims = (pools : List ℕ) → find (λ t. holds_in pools actor t.1) claims.tickets ≡ None

own_found : (pools : List ℕ) (actor : ℕ) (tickets : List MachineTicket) → AllByRecursion (λ t. t.actor ≡ actor) tickets → find (λ t. holds_in pools actor t.1) (map claim_of tickets) ≡ None
own_found pools actor [] own = refl
own_found pools actor (t ∷ tickets) own =
    ap (λ (b : Bool). if not b && list_any (lies_in pools) (claim_of t).1.places then Some (claim_of t) else find (λ c. holds_in pools actor c.1) (map claim_of tickets)) (eq-eqb t.actor actor own.0)
    ∙ own_found pools actor tickets own.1

free_ticket : (start actor : ℕ) (pools : List ℕ) (claims : Claims) → NoOther actor claims → IsFree (busy_or_full start Ticket (ticket_in pools actor claims))
free_ticket start actor pools claims none h is = free_space start h (subst (λ (found : Option (ℕ × Claim)). busy_or_full start Ticket (option_map (λ t. t.0) found) ≡ Busy h) (none pools) is)

of_three : (P : Refusal → Type 0) (first second : Bool) (a b c : Refusal) → P a → P b → P c → P (if first then a else if second then b else c)
of_three P true second a b c x y z = x
of_three P false true a b c x y z = y
of_three P false false a b c x y z = z

names_place : (r : Request) (v : Inv) (claims : Claims) → NoOther r.actor claims → NamesUnforced claims.freed (no_place r v.stores claims)
names_place r v claims none =
    of_three (NamesUnforced claims.freed) (is_some (pool_for r claims.next_file (without_others (counted r.actor claims)) v.stores)) (is_some (pool_for r claims.next_file (own_alone (counted r.actor claims)) v.stores))
    (busy_or_full (goes_to r.aim) Ticket (ticket_in (walked r.aim v.stores) r.actor claims)) (busy_or_full (goes_to r.aim) Unforced (unforced_in (random_among (walked r.aim v.stores) v.stores) claims)) (NoSpace (goes_to r.aim))
    (free_names claims.freed (busy_or_full (goes_to r.aim) Ticket (ticket_in (walked r.aim v.stores) r.actor claims)) (free_ticket (goes_to r.aim) r.actor (walked r.aim v.stores) claims none))
    (names_unforced (goes_to r.aim) (random_among (walked r.aim v.stores) v.stores) claims) (free_names claims.freed (NoSpace (goes_to r.aim)) (free_space (goes_to r.aim)))

chosen_names : (freed : List (ℕ × List Placed)) (pool : Option ℕ) (chosen : Result (List Placed) Refusal) (h : Holder) → ((e : Refusal) → chosen ≡ Err e → NamesUnforced freed e) → IsChosen pool chosen (Err (Busy h))
    → ((number : ℕ) × (h ≡ Unforced number)) × (AreEmpty freed → ⊥)
chosen_names freed pool (Ok places) h names is = absurd is
chosen_names freed pool (Err e) h names is = names e refl h (sym cc)

some_full : (full : Bool) (places : List Placed) (e : Refusal) → (let r : Result (List Placed) Refusal = if full then Err InventoryFull else Ok places in r ≡ Err e) → IsFree e
some_full true places e is h busy = absurd cc
some_full false places e is h busy = absurd cc

refused_names : (r : Request) (v : Inv) (claims : Claims) (found : Option ℕ) → NoOther r.actor claims → (e : Refusal) → placed_or_refused r v.stores claims found ≡ Err e → NamesUnforced claims.freed e
refused_names r v claims None none e is = (let same : no_place r v.stores claims ≡ e = cc in subst (NamesUnforced claims.freed) same (names_place r v claims none))
refused_names r v claims (Some number) none e is = free_names claims.freed e (some_full _ _ e is)

nothing_freed : {A : Type 0} (list : List A) → list ≡ [] → (x : A) → Contains list x → ⊥
nothing_freed [] is x h = absurd (omega (arith, h.1))
nothing_freed (y ∷ list) is x h = absurd cc

pub nobody_holds : (v : Inv) (s : Space) (actor size : ℕ) (a : Aim) (prefer avoid : ℕ) (h : Holder) → AllByRecursion (λ t. t.actor ≡ actor) s.tickets → hall_places v s actor size a prefer avoid (Err (Busy h))
    → ((number : ℕ) × (h ≡ Unforced number)) × (s.freed ≡ [] → ⊥)
nobody_holds v s actor size a prefer avoid h own (claims, space, placed) =
    let r = request actor size a prefer avoid in
    let none : NoOther actor claims = (λ pools. subst (λ (l : List (ℕ × Claim)). find (λ t. holds_in pools actor t.1) l ≡ None) (sym space.tickets) (own_found pools actor s.tickets own)) in
    let names = chosen_names claims.freed (pool_for r claims.next_file (counted actor claims) v.stores) (choose r v.stores claims) h
    (λ e is. refused_names r v claims (pool_for r claims.next_file (counted actor claims) v.stores) none e is) placed in
    (names.0, λ free. names.1 (λ number places p there within. nothing_freed s.freed free (number, p.segment) (space.freed number places p there within).0))

-- ---- no run ends by it; it is so for want of room, for room that others hold, or for numbers at their bounds

-- a refusal that ends no run, and that speaks neither of the database nor of the actor's own
abbrev IsMild : Refusal → Type 0
IsMild e = (has_number (40 ∷ 41 ∷ 50 ∷ []) e ≡ false) × (is_elsewhere e ≡ true)

mild_busy : (start : ℕ) (holder : ℕ → Holder) (found : Option ℕ) → IsMild (busy_or_full start holder found)
mild_busy start holder None = (refl, refl)
mild_busy start holder (Some number) = (refl, refl)

mild_place : (r : Request) (v : Inv) (claims : Claims) → IsMild (no_place r v.stores claims)
mild_place r v claims =
    of_three IsMild (is_some (pool_for r claims.next_file (without_others (counted r.actor claims)) v.stores)) (is_some (pool_for r claims.next_file (own_alone (counted r.actor claims)) v.stores))
    (busy_or_full (goes_to r.aim) Ticket (ticket_in (walked r.aim v.stores) r.actor claims)) (busy_or_full (goes_to r.aim) Unforced (unforced_in (random_among (walked r.aim v.stores) v.stores) claims)) (NoSpace (goes_to r.aim))
    (mild_busy (goes_to r.aim) Ticket (ticket_in (walked r.aim v.stores) r.actor claims)) (mild_busy (goes_to r.aim) Unforced (unforced_in (random_among (walked r.aim v.stores) v.stores) claims)) (refl, refl)

full_mild : (full : Bool) (places : List Placed) (e : Refusal) → (let r : Result (List Placed) Refusal = if full then Err InventoryFull else Ok places in r ≡ Err e) → IsMild e
full_mild true places e is = subst IsMild (let same : InventoryFull ≡ e = cc in same) (refl, refl)
full_mild false places e is = absurd cc

chosen_mild : (r : Request) (v : Inv) (claims : Claims) (found : Option ℕ) (e : Refusal) → placed_or_refused r v.stores claims found ≡ Err e → IsMild e
chosen_mild r v claims None e is = subst IsMild (let same : no_place r v.stores claims ≡ e = cc in same) (mild_place r v claims)
chosen_mild r v claims (Some number) e is = full_mild _ _ e is

refused_mild : (pool : Option ℕ) (chosen : Result (List Placed) Refusal) (e : Refusal) → ((f : Refusal) → chosen ≡ Err f → IsMild f) → IsChosen pool chosen (Err e) → IsMild e
refused_mild pool (Ok places) e mild is = absurd is
refused_mild pool (Err f) e mild is = subst IsMild (let same : f ≡ e = cc in same) (mild f refl)

hall_refuses : (v : Inv) (s : Space) (actor size : ℕ) (a : Aim) (prefer avoid : ℕ) (e : Refusal) → hall_places v s actor size a prefer avoid (Err e) → IsMild e
hall_refuses v s actor size a prefer avoid e (claims, space, placed) =
    let r = request actor size a prefer avoid in
    refused_mild (pool_for r claims.next_file (counted actor claims) v.stores) (choose r v.stores claims) e (λ f is. chosen_mild r v claims (pool_for r claims.next_file (counted actor claims) v.stores) f is) placed

pub hall_goes_on : (v : Inv) (s : Space) (actor size : ℕ) (a : Aim) (prefer avoid : ℕ) (e : Refusal) → hall_places v s actor size a prefer avoid (Err e) → has_number (40 ∷ 41 ∷ 50 ∷ []) e ≡ false
hall_goes_on v s actor size a prefer avoid e placed = (hall_refuses v s actor size a prefer avoid e placed).0

pub hall_is_lawful : (v : Inv) (s : Space) (actor size : ℕ) (a : Aim) (prefer avoid : ℕ) (e : Refusal) → hall_places v s actor size a prefer avoid (Err e) → is_elsewhere e ≡ true
hall_is_lawful v s actor size a prefer avoid e placed = (hall_refuses v s actor size a prefer avoid e placed).1
