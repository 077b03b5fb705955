-- The laws of the loops over what is asked and over tickets.
use Rattle.std.proofs.Common.{◌≡◌, ℕ, ◌+◌, ◌<◌, ◌≤◌, Bool, true, false, cond, ◌&&◌, ◌||◌, not, is_none, is_some, List, [], ◌∷◌, ◌++◌, map, drop, get_or, length, Option, Some, None, refl, sym, ap, subst, ◌∙◌, if◌then◌else◌, append_assoc, append-nil, length-append, arith}
use Rattle.std.specs.Prelude.{◌==◌}
use Rattle.std.specs.BTreeMap.{is_at}
use Rattle.std.specs.Map.{keys_of}
use Rattle.std.specs.List.{AllByRecursion, flat_map, list_any}
use Rattle.std.specs.List.Sorted.{IsStrictlySortedBy}
use Rattle.std.specs.Option.{option_map_or}
use Rattle.std.specs.Ordering.{nat_cmp}
use Rattle.std.specs.declared.cmp.Ordering.TheVariants.{Less}
use Rattle.std.proofs.lemmas.Bool.{eqb-true}
use Rattle.std.proofs.lemmas.Bool.Decides.{nat_tests}
use Rattle.std.proofs.lemmas.Map.Keys.{sorted_head, sorted_tail}
use Rattle.kinds.specs.declared.refusal.Refusal.{Refusal}
use Rattle.kinds.specs.declared.segment.Digest.{Digest}
use Rattle.kinds.specs.declared.segment.Segment.{Segment}
use Rattle.kinds.specs.Refusals.{foremost, sooner_of}
use Rattle.kinds.proofs.Order.{sooner_of-assoc}
use Rattle.item_refusals.proofs.Foremost.{foremost_append}
use Rattle.entries.specs.change_items.declared.items.MovedCopy.{MovedCopy}
use Rattle.entries.specs.change_items.declared.items.ScratchVolume.{ScratchVolume}
use Rattle.inventory_rows.specs.pool_tables.Rows.{row_at}
use Rattle.inventory_rows.specs.State.{Inv}
use Rattle.inventory_rows.proofs.of_version_groups.Lists.{drop_at}
use Rattle.space.specs.declared.places.Placed.{Placed}
use Rattle.space.specs.declared.aim.Aim.TheVariants as aim
use Rattle.machine.specs.Changes.{all_tickets, move_from, once}
use Rattle.machine.specs.State.{Purpose, Sight, Ticket, copying, own_tickets, storing, ticket}
use Rattle.hall.specs.declared.seat.Seat.{Seat}
use Rattle.hall.specs.Commits.{all_are, differ, differs, digest_at, is_such, new_file, scratch_more}
use Rattle.hall.specs.Held.{Held}
use Rattle.hall.specs.Seats.{own, own_seat}
use Rattle.hall.specs.Sights.{seen, ticket_of, tickets_of}
use Rattle.hall.proofs.Lists.{same_number}

-- the files of these places that no volume of the database has, each with the pool
abbrev pub files_from : Inv → (pool : ℕ) → List Placed → List ScratchVolume
files_from v pool places = flat_map (λ (s : Segment). new_file v pool s.file) (map (λ (p : Placed). p.segment) places)

-- ---- the ticket with a number

apart : (x y : ℕ) → nat_cmp x y ≡ Less → (y == x) ≡ false
apart x y h = grind (arith, nat_tests)

none_in : (actor number : ℕ) (seats : List (ℕ × Seat)) → AllByRecursion (λ k. nat_cmp number k ≡ Less) (keys_of seats) → ticket number (own_tickets actor (tickets_of seats)) ≡ None
none_in actor number [] h = refl
none_in actor number (e ∷ seats) h =
    let mine : List Ticket = own_tickets actor (tickets_of seats) in
    let rest : ticket number mine ≡ None = none_in actor number seats h.1 in
    elim (e.1.actor == actor) as (λ b. ticket number (cond b (ticket_of e.0 e.1 ∷ mine) mine) ≡ None) [
      | true ↦ ap (λ b. cond b (Some (ticket_of e.0 e.1)) (ticket number mine)) (apart number e.0 h.0) ∙ rest
      | false ↦ rest
    ]

number_is : (k n : ℕ) → (k == n) ≡ true → n ≡ k
number_is k n h = sym (eqb-true k n h)

turned : (k n : ℕ) (b : Bool) → (k == n) ≡ b → (n == k) ≡ b
turned k n b h = grind (arith, nat_tests)

-- the ticket that an actor sees is the one that is held for it
pub own_is : (actor number : ℕ) (seats : List (ℕ × Seat)) → IsStrictlySortedBy nat_cmp (keys_of seats) → ticket number (own_tickets actor (tickets_of seats)) ≡ seen number (own actor (row_at number seats))
own_is actor number [] h = refl
own_is actor number (e ∷ seats) h =
    let mine : List Ticket = own_tickets actor (tickets_of seats) in
    let t : Ticket = ticket_of e.0 e.1 in
    let rest : ticket number mine ≡ seen number (own actor (row_at number seats)) = own_is actor number seats (sorted_tail nat_cmp e.0 (keys_of seats) h) in
    elim (is_at (nat_cmp number) e.0) as (λ b. is_at (nat_cmp number) e.0 ≡ b → ticket number (cond (e.1.actor == actor) (t ∷ mine) mine) ≡ seen number (own actor (cond b (Some e.1) (row_at number seats)))) [
      | true ↦ λ at.
          let same : (number == e.0) ≡ true = sym (same_number number e.0) ∙ at in
          let is : e.0 ≡ number = number_is number e.0 same in
          elim (e.1.actor == actor) as (λ b. ticket number (cond b (t ∷ mine) mine) ≡ seen number (if b then Some e.1 else None)) [
            | true ↦ ap (λ b. cond b (Some t) (ticket number mine)) (turned number e.0 true same) ∙ ap (λ k. Some (ticket_of k e.1)) is
            | false ↦ none_in actor number seats (subst (λ k. AllByRecursion (λ y. nat_cmp k y ≡ Less) (keys_of seats)) is (sorted_head nat_cmp e.0 (keys_of seats) h))
          ]
      | false ↦ λ at.
          let other : (number == e.0) ≡ false = sym (same_number number e.0) ∙ at in
          elim (e.1.actor == actor) as (λ b. ticket number (cond b (t ∷ mine) mine) ≡ seen number (own actor (row_at number seats))) [
            | true ↦ ap (λ b. cond b (Some t) (ticket number mine)) (turned number e.0 false other) ∙ rest
            | false ↦ rest
          ]
    ] refl

-- ---- scratch volumes

abbrev files : List ScratchVolume → List ℕ
files volumes = map (λ (v : ScratchVolume). v.file) volumes

once_alike : (seen others : List ℕ) → ((file : ℕ) → list_any (λ x. x == file) seen ≡ list_any (λ x. x == file) others) → (volumes : List ScratchVolume) → once seen volumes ≡ once others volumes
once_alike seen others same [] = refl
once_alike seen others same (v ∷ volumes) =
    ap (λ b. if b then once seen volumes else v ∷ once (v.file ∷ seen) volumes) (same v.file)
    ∙ elim (list_any (λ x. x == v.file) others) as (λ b. (if b then once seen volumes else v ∷ once (v.file ∷ seen) volumes) ≡ (if b then once others volumes else v ∷ once (v.file ∷ others) volumes)) [
      | true ↦ once_alike seen others same volumes
      | false ↦ ap (λ (l : List ScratchVolume). v ∷ l) (once_alike (v.file ∷ seen) (v.file ∷ others) (λ file. ap (λ b. v.file == file || b) (same file)) volumes)
    ]

or_swapped : (a b c : Bool) → (a || (b || c)) ≡ (b || (a || c))
or_swapped true true c = refl
or_swapped true false c = refl
or_swapped false true c = refl
or_swapped false false c = refl

any_end : (file x : ℕ) (xs : List ℕ) → list_any (λ y. y == file) (x ∷ xs) ≡ list_any (λ y. y == file) (xs ++ x ∷ [])
any_end file x [] = refl
any_end file x (y ∷ xs) = or_swapped (x == file) (y == file) (list_any (λ z. z == file) xs) ∙ ap (λ b. y == file || b) (any_end file x xs)

files_end : (out : List ScratchVolume) (v : ScratchVolume) → files out ++ v.file ∷ [] ≡ files (out ++ v ∷ [])
files_end [] v = refl
files_end (x ∷ out) v = ap (λ (l : List ℕ). x.file ∷ l) (files_end out v)

any_file : (file : ℕ) (out : List ScratchVolume) → list_any (λ (v : ScratchVolume). v.file == file) out ≡ list_any (λ x. x == file) (files out)
any_file file [] = refl
any_file file (v ∷ out) = ap (λ b. v.file == file || b) (any_file file out)

more_seen : (v : ScratchVolume) (volumes out : List ScratchVolume) → list_any (λ x. x == v.file) (files out) ≡ true → scratch_more (v ∷ volumes) out ≡ scratch_more volumes out
more_seen v volumes out h = ap (λ b. out ++ (if b then once (files out) volumes else v ∷ once (v.file ∷ files out) volumes)) h

more_new : (v : ScratchVolume) (volumes out : List ScratchVolume) → list_any (λ x. x == v.file) (files out) ≡ false → scratch_more (v ∷ volumes) out ≡ scratch_more volumes (out ++ v ∷ [])
more_new v volumes out h =
    let same : once (v.file ∷ files out) volumes ≡ once (files (out ++ v ∷ [])) volumes =
    once_alike (v.file ∷ files out) (files (out ++ v ∷ [])) (λ file. any_end file v.file (files out) ∙ ap (list_any (λ x. x == file)) (files_end out v)) volumes in
    ap (λ b. out ++ (if b then once (files out) volumes else v ∷ once (v.file ∷ files out) volumes)) h
    ∙ ap (λ (l : List ScratchVolume). out ++ (v ∷ l)) same
    ∙ sym (append_assoc out (v ∷ []) (once (files (out ++ v ∷ [])) volumes))

-- first these and then those
pub more_joined : (first second out : List ScratchVolume) → scratch_more (first ++ second) out ≡ scratch_more second (scratch_more first out)
more_joined [] second out = ap (scratch_more second) (sym (append-nil out))
more_joined (v ∷ first) second out = go (list_any (λ x. x == v.file) (files out)) refl (more_joined first second out) (more_joined first second (out ++ v ∷ [])) where
  go : (b : Bool) → list_any (λ x. x == v.file) (files out) ≡ b → scratch_more (first ++ second) out ≡ scratch_more second (scratch_more first out)
      → scratch_more (first ++ second) (out ++ v ∷ []) ≡ scratch_more second (scratch_more first (out ++ v ∷ [])) → scratch_more (v ∷ (first ++ second)) out ≡ scratch_more second (scratch_more (v ∷ first) out)
  go true h one two = more_seen v (first ++ second) out h ∙ one ∙ ap (scratch_more second) (sym (more_seen v first out h))
  go false h one two = more_new v (first ++ second) out h ∙ two ∙ ap (scratch_more second) (sym (more_new v first out h))

-- no volume comes where the database has one with the file number
pub there_stays : (v : Inv) (pool file : ℕ) (out : List ScratchVolume) → is_none (row_at file v.stores.volumes) ≡ false → out ≡ scratch_more (new_file v pool file) out
there_stays v pool file out h = sym (append-nil out) ∙ ap (λ (b : Bool). scratch_more (if b then (let one : ScratchVolume = record { pool = pool; file = file } in one ∷ []) else []) out) (sym h)

-- nor where it is among them
pub among_stays : (v : Inv) (pool file : ℕ) (out : List ScratchVolume) → list_any (λ (x : ScratchVolume). x.file == file) out ≡ true → out ≡ scratch_more (new_file v pool file) out
among_stays v pool file out h = go (is_none (row_at file v.stores.volumes)) where
  go : (b : Bool) → out ≡ scratch_more (if b then (let x : ScratchVolume = record { pool = pool; file = file } in x ∷ []) else []) out
  go false = sym (append-nil out)
  go true = sym (append-nil out) ∙ sym (more_seen (record { pool = pool; file = file }) [] out (sym (any_file file out) ∙ h))

is_absent : {A : Type 0} (o : Option A) → is_some o ≡ false → is_none o ≡ true
is_absent None h = refl
is_absent (Some x) h = absurd cc

pub new_comes : (v : Inv) (pool file : ℕ) (out : List ScratchVolume) → is_some (row_at file v.stores.volumes) ≡ false → list_any (λ (x : ScratchVolume). x.file == file) out ≡ false
    → (let x : ScratchVolume = record { pool = pool; file = file } in out ++ x ∷ []) ≡ scratch_more (new_file v pool file) out
new_comes v pool file out free h =
    let one : ScratchVolume = record { pool = pool; file = file } in
    sym (append-nil (out ++ one ∷ []))
    ∙ sym (more_new one [] out (sym (any_file file out) ∙ h))
    ∙ ap (λ (b : Bool). scratch_more (if b then one ∷ [] else []) out) (sym (is_absent (row_at file v.stores.volumes) free))

-- ---- lists of tickets

-- the tickets from a number on are its ticket, where that is there, and those from the next number on
pub tickets_next : (numbers : List ℕ) (i d : ℕ) (s : Sight) (found : Option Ticket) → i < length numbers → ticket (get_or numbers i d) s.tickets ≡ found
    → all_tickets (drop i numbers) s ≡ option_map_or (λ t. t ∷ []) found [] ++ all_tickets (drop (i + 1) numbers) s
tickets_next numbers i d s found l is =
    ap (λ (ns : List ℕ). all_tickets ns s) (drop_at numbers i d l) ∙ ap (λ (o : Option Ticket). option_map_or (λ t. t ∷ []) o [] ++ all_tickets (drop (i + 1) numbers) s) is

-- the ticket that is held is the one that is seen
pub found_is : (number : ℕ) (found : Option Ticket) (o : Option Seat) (s : Seat) → found ≡ seen number o → Some s ≡ o → found ≡ Some (ticket_of number s)
found_is number found o s h is = h ∙ ap (seen number) (sym is)

pub none_is : (number : ℕ) (found : Option Ticket) (o : Option Seat) → found ≡ seen number o → None ≡ o → found ≡ None
none_is number found o h is = h ∙ ap (seen number) (sym is)

are_more : (moving : Bool) (t : Ticket) (ts : List Ticket) → all_are moving (t ∷ ts) ≡ (is_such moving t.purpose && all_are moving ts)
are_more true t ts = refl
are_more false t ts = refl

-- this ticket isn't such a one
pub are_stop : (moving : Bool) (t : Ticket) (ts rest whole : List Ticket) → ts ≡ t ∷ rest → is_such moving t.purpose ≡ false → all_are moving whole ≡ all_are moving ts → false ≡ all_are moving whole
are_stop moving t ts rest whole at not h = sym (h ∙ ap (all_are moving) at ∙ are_more moving t rest ∙ ap (λ b. b && all_are moving rest) not)

-- this one is
pub are_next : (moving : Bool) (t : Ticket) (ts rest whole : List Ticket) → ts ≡ t ∷ rest → is_such moving t.purpose ≡ true → all_are moving whole ≡ all_are moving ts → all_are moving whole ≡ all_are moving rest
are_next moving t ts rest whole at such h = h ∙ ap (all_are moving) at ∙ are_more moving t rest ∙ ap (λ b. b && all_are moving rest) such

-- a list that grows by what comes of the next ticket
pub mapped_next : {B : Type 0} (f : Ticket → B) (t : Ticket) (ts rest : List Ticket) (out new whole : List B) → ts ≡ t ∷ rest → out ++ map f ts ≡ whole → new ≡ out ++ f t ∷ [] → new ++ map f rest ≡ whole
mapped_next f t ts rest out new whole at h more = ap (λ l. l ++ map f rest) more ∙ append_assoc out (f t ∷ []) (map f rest) ∙ ap (λ (l : List Ticket). out ++ map f l) (sym at) ∙ h

pub each_next : {B : Type 0} (f : Ticket → List B) (t : Ticket) (ts rest : List Ticket) (out new whole : List B) → ts ≡ t ∷ rest → out ++ flat_map f ts ≡ whole → new ≡ out ++ f t → new ++ flat_map f rest ≡ whole
each_next f t ts rest out new whole at h more = ap (λ l. l ++ flat_map f rest) more ∙ append_assoc out (f t) (flat_map f rest) ∙ ap (λ (l : List Ticket). out ++ flat_map f l) (sym at) ∙ h

-- ---- digests

pub differ_next : {X : Type 0} (digest : X → Digest) (items : List X) (numbers : List ℕ) (i : ℕ) (item : X) (number actor : ℕ) (h : Held) (found new whole : Option Refusal) → i < length items → item ≡ get_or items i item
    → i < length numbers → number ≡ get_or numbers i number → new ≡ sooner_of found (foremost (differs (digest item) (digest_at (own_seat actor number h))))
    → sooner_of found (foremost (differ (map digest (drop i items)) actor (drop i numbers) h)) ≡ whole → sooner_of new (foremost (differ (map digest (drop (i + 1) items)) actor (drop (i + 1) numbers) h)) ≡ whole
differ_next {X} digest items numbers i item number actor h found new whole l is k at more so =
    let rest : List Refusal = differ (map digest (drop (i + 1) items)) actor (drop (i + 1) numbers) h in
    let one : List Refusal = differs (digest item) (digest_at (own_seat actor number h)) in
    let mine : drop i items ≡ item ∷ drop (i + 1) items = drop_at items i item l ∙ ap (λ x. x ∷ drop (i + 1) items) (sym is) in
    let theirs : drop i numbers ≡ number ∷ drop (i + 1) numbers = drop_at numbers i number k ∙ ap (λ n. n ∷ drop (i + 1) numbers) (sym at) in
    ap (λ o. sooner_of o (foremost rest)) more
    ∙ sooner_of-assoc found (foremost one) (foremost rest)
    ∙ ap (sooner_of found) (sym (foremost_append one rest))
    ∙ (λ j. sooner_of found (foremost (differ (map digest (sym mine j)) actor (sym theirs j) h)))
    ∙ so

-- ---- places

pub files_next : (v : Inv) (pool : ℕ) (places : List Placed) (i : ℕ) (d : Placed) → i < length places
    → files_from v pool (drop i places) ≡ new_file v pool (get_or places i d).segment.file ++ files_from v pool (drop (i + 1) places)
files_next v pool places i d l = ap (files_from v pool) (drop_at places i d l)

pub places_next : (v : Inv) (pool : ℕ) (places : List Placed) (i : ℕ) (d : Placed) (out new whole : List ScratchVolume) → i < length places → new ≡ scratch_more (new_file v pool (get_or places i d).segment.file) out
    → scratch_more (files_from v pool (drop i places)) out ≡ whole → scratch_more (files_from v pool (drop (i + 1) places)) new ≡ whole
places_next v pool places i d out new whole l more h =
    ap (scratch_more (files_from v pool (drop (i + 1) places))) more
    ∙ sym (more_joined (new_file v pool (get_or places i d).segment.file) (files_from v pool (drop (i + 1) places)) out)
    ∙ ap (λ (volumes : List ScratchVolume). scratch_more volumes out) (sym (files_next v pool places i d l))
    ∙ h

-- the files of one ticket, and then those of the others
pub scratch_next : (f : Ticket → List ScratchVolume) (t : Ticket) (ts rest : List Ticket) (out new whole : List ScratchVolume) → ts ≡ t ∷ rest → new ≡ scratch_more (f t) out → scratch_more (flat_map f ts) out ≡ whole
    → scratch_more (flat_map f rest) new ≡ whole
scratch_next f t ts rest out new whole at more h =
    ap (scratch_more (flat_map f rest)) more ∙ sym (more_joined (f t) (flat_map f rest) out) ∙ ap (λ (l : List Ticket). scratch_more (flat_map f l) out) (sym at) ∙ h

-- ---- where a ticket's space lies

pub on_file : (file : ℕ) (places : List Placed) → list_any (λ (p : Placed). p.segment.file == file) places ≡ list_any (λ (s : Segment). s.file == file) (map (λ (p : Placed). p.segment) places)
on_file file [] = refl
on_file file (p ∷ places) = ap (λ b. p.segment.file == file || b) (on_file file places)

-- ---- lengths

pub grows : {B : Type 0} (out new : List B) (x : B) (i : ℕ) → new ≡ out ++ x ∷ [] → length out ≤ i → length new ≤ i + 1
grows out new x i more l =
    let n : length new ≡ length out + 1 = ap (λ ys. length ys) more ∙ length-append out (x ∷ []) in
    omega (arith, n, l)

pub still_few : {B : Type 0} (out new : List B) (i : ℕ) → new ≡ out → length out ≤ i → length new ≤ i + 1
still_few out new i same l = let n : length new ≡ length out = ap (λ ys. length ys) same in omega (arith, n, l)

-- no ticket is there, and nothing comes of it
pub skipped : {B : Type 0} (f : List Ticket → List B) (ts rest : List Ticket) (out new whole : List B) → ts ≡ rest → out ++ f ts ≡ whole → new ≡ out → new ++ f rest ≡ whole
skipped f ts rest out new whole at h same = ap (λ l. l ++ f rest) same ∙ ap (λ (l : List Ticket). out ++ f l) (sym at) ∙ h

moved_few : (t : Ticket) (purpose : Purpose) → length (move_from t purpose) ≤ 1
moved_few t (storing object) = omega arith
moved_few t (copying object (aim.New number)) = omega arith
moved_few t (copying object (aim.Move from placed to along)) = omega arith
moved_few t (copying object (aim.Copy to)) = omega arith

pub grows_by_move : (t : Ticket) (purpose : Purpose) (out new : List MovedCopy) (i : ℕ) → new ≡ out ++ move_from t purpose → length out ≤ i → length new ≤ i + 1
grows_by_move t purpose out new i more l =
    let n : length new ≡ length out + length (move_from t purpose) = ap (λ ys. length ys) more ∙ length-append out (move_from t purpose) in
    let few = moved_few t purpose in
    omega (arith, n, few, l)
