-- A ticket is drawn for a copy, or isn't.
use Rattle.std.proofs.Common.{◌≡◌, ◌⊎◌, inl, inr, ℕ, ◌+◌, ◌<◌, ◌≤◌, ◌^◌, Bool, true, false, not, ◌&&◌, is_some, List, [], ◌∷◌, ◌++◌, length, map, take, Option, Some, None, Result, Ok, Err, refl, sym, ap, subst, ◌∙◌, append-nil, append_assoc, arith}
use Rattle.std.specs.Prelude.{◌==◌, IfErr, IfOk, IfSome, OnErr, nat_lt}
use Rattle.std.specs.List.{AllByRecursion}
use Rattle.std.specs.Option.{option_map_or}
use Rattle.std.proofs.lemmas.Bool.{and_parts, ltb-true}
use Rattle.std.proofs.lemmas.List.{take_all}
use Rattle.std.proofs.lemmas.Option.{same_Some}
use Rattle.store_api.specs.Disk.{History}
use Rattle.kinds.specs.Refusals.{bad_value, foremost, place_of, refusal_of, sooner_of, unless}
use Rattle.kinds.specs.declared.refusal.Holder.{Holder}
use Rattle.kinds.specs.declared.refusal.Refusal.{Refusal}
use Rattle.kinds.specs.declared.refusal.Refusal.TheVariants as refusal
use Rattle.entries.specs.change_items.declared.items.MovedCopy.{MovedCopy}
use Rattle.item_refusals.proofs.Foremost.{foremost_append}
use Rattle.inventory_rows.specs.version_groups.declared.copies.CopyRow.{CopyRow}
use Rattle.inventory_rows.specs.version_groups.declared.versions.Version.{Version}
use Rattle.inventory_rows.specs.pool_tables.declared.pool.Pool.{Pool}
use Rattle.inventory_rows.specs.Search.{copy_in, is_primary_kind, pool, version}
use Rattle.inventory_rows.specs.State.{Inv}
use Rattle.inventory_rules.specs.Copies.{copy_refused, move_refused, moved_refused, placed_by, stale_copy}
use Rattle.inventory_rules.specs.Held.{IsTied}
use Rattle.inventory_rules.specs.Journal.{Journal}
use Rattle.inventory_rules.specs.Run.{journal_of}
use Rattle.inventory_rules.specs.Versions.{gone_or_unknown, of_version}
use Rattle.inventory_laws.proofs.Lists.{each_any}
use Rattle.space.specs.declared.aim.Aim.{Aim}
use Rattle.space.specs.declared.aim.Aim.TheVariants as aim
use Rattle.space.specs.declared.places.Placed.{Placed}
use Rattle.space.specs.declared.request.Request.{Request}
use Rattle.space.specs.Claims.{counted}
use Rattle.space.specs.Placing.{choose, goes_to, pool_for}
use Rattle.steps.specs.Events.{event, is_listed}
use Rattle.steps.specs.Events.Deed.{OpenCopy}
use Rattle.machine.specs.Causes.{copied_already, copy_refused_by, is_copy_pool}
use Rattle.machine.specs.Machine.{Made, aimed_at, can_place_copy, ended, is_for_copies, opened, placing_refused, size_of, space}
use Rattle.machine.specs.State.{Core, Machine, after, Place, Sight, Ticket, copying, inventory, is_storing, object_of, sight}
use Rattle.machine.proofs.Elsewhere.{append-all, append-none, foremost-all, none-held, sooner-one, unless-all}
use Rattle.hall.specs.declared.seat.Hashed.TheVariants.{Unhashed}
use Rattle.hall.specs.declared.seat.Purpose.TheVariants.{Copying}
use Rattle.hall.specs.declared.seat.Seat.{Seat}
use Rattle.hall.specs.Covered.{WasThere, bring_others, inv_at}
use Rattle.hall.specs.Drawn.{AreRoomy, IsOpenedCopy, IsSpot, NotOpenedCopy, WhyNoCopySeat, copy_refusal, copy_request, new_seat, ticket_left, with_seat}
use Rattle.hall.specs.Reading.{seen_by_all}
use Rattle.hall.specs.Good.{Is, IsFront}
use Rattle.hall.specs.Held.{Hall, Held, IsSeatOf}
use Rattle.hall.specs.Placed.{hall_places, request}
use Rattle.hall.specs.Seats.{ended_at}
use Rattle.machine.specs.Alone.{behind, with_contents, AreBytes}
use Rattle.hall.specs.Steps.{IsTrusted, Steps}
use Rattle.hall.proofs.Dropping.{no_later}
use Rattle.hall.proofs.Ended.{ended_first, ended_has, ended_is, first_answers, next_answers, none_halted}
use Rattle.hall.proofs.MoreTickets.{fresh_ticket, opened_firm}
use Rattle.hall.proofs.OpensNew.{core_joins, good_joins, least_file, no_unless, none_then, placed_ok, placing_all}
use Rattle.hall.proofs.Spots.{choose_has, is_placed, place_by, place_if, spot_back}
use Rattle.hall.proofs.Stepping.{still_good}

-- ---- what is read

-- one copy that moves
pub one_moves : (j k : Journal) (v w : Inv) (item : MovedCopy) → j ≡ k → v ≡ w → foremost (move_refused j (item ∷ []) v) ≡ foremost (of_version k item.object (copy_refused k item.object item.from item.placed) (version item.object w))
one_moves j k v w item same rows =
    ap foremost (append-nil (moved_refused j v item)) ∙ ap (λ (x : Journal). foremost (moved_refused x v item)) same ∙ ap (λ (x : Inv). foremost (moved_refused k x item)) rows

pub aimed_is : (a : Aim) → goes_to a ≡ aimed_at a
aimed_is (aim.New number) = refl
aimed_is (aim.Move from placed to along) = refl
aimed_is (aim.Copy to) = refl

-- what the actor sees of it is what all see
seen_alike : (object : ℕ) (a : Aim) (s t : Sight) → s.journal ≡ t.journal → s.inventory ≡ t.inventory → copy_refused_by object a s ≡ copy_refused_by object a t
seen_alike object (aim.New number) s t j v = refl
seen_alike object (aim.Move from placed to along) s t j v =
    ap (λ (x : Journal). unless (is_some (pool to s.inventory)) refusal.NotFound ++ of_version x object (copy_refused x object from placed) (version object s.inventory)) j
    ∙ ap (λ (x : Inv). unless (is_some (pool to x)) refusal.NotFound ++ of_version t.journal object (copy_refused t.journal object from placed) (version object x)) v
seen_alike object (aim.Copy to) s t j v =
    ap (λ (x : Journal). unless (is_copy_pool to s) refusal.NotFound ++ of_version x object (λ w. copied_already (copy_in to w)) (version object s.inventory)) j
    ∙ ap (λ (x : Inv). unless (option_map_or (λ p. not (is_primary_kind p.kind)) (pool to x) false) refusal.NotFound ++ of_version t.journal object (λ w. copied_already (copy_in to w)) (version object x)) v

-- ---- where it can't be placed

some_first : (a b : List Refusal) → foremost (a ++ b) ≡ None → (foremost a ≡ None) × (foremost b ≡ None)
some_first a b h = let none = append-none a b (none-held (a ++ b) h) in (ap foremost none.0, ap foremost none.1)

version_there : (j : Journal) (object : ℕ) (rule : Version → List Refusal) (o : Option Version) → foremost (of_version j object rule o) ≡ None → is_some o ≡ true
version_there j object rule None h = absurd cc
version_there j object rule (Some w) h = refl

unless_there : (b : Bool) (e : Refusal) → foremost (unless b e) ≡ None → b ≡ true
unless_there true e h = refl
unless_there false e h = absurd cc

kind_there : (o : Option Pool) → option_map_or (λ p. not (is_primary_kind p.kind)) o false ≡ true → is_some o ≡ true
kind_there None h = h
kind_there (Some p) h = refl

both_true : (a b : Bool) → a ≡ true → b ≡ true → (a && b) ≡ true
both_true true true x y = refl
both_true true false x y = y
both_true false b x y = x

-- what has no refusal of its own can be placed
pub can_where_free : (object : ℕ) (a : Aim) (s : Sight) → foremost (copy_refused_by object a s) ≡ None → can_place_copy object a s.inventory ≡ true
can_where_free object (aim.New number) s h = absurd cc
can_where_free object (aim.Move from placed to along) s h =
    let t = some_first (unless (is_some (pool to s.inventory)) refusal.NotFound) _ h in
    both_true (is_some (version object s.inventory)) (is_some (pool to s.inventory)) (version_there s.journal object _ (version object s.inventory) t.1) (unless_there (is_some (pool to s.inventory)) refusal.NotFound t.0)
can_where_free object (aim.Copy to) s h =
    let t = some_first (unless (is_copy_pool to s) refusal.NotFound) _ h in
    both_true (is_some (version object s.inventory)) (is_some (pool to s.inventory)) (version_there s.journal object _ (version object s.inventory) t.1)
    (kind_there (pool to s.inventory) (unless_there (is_copy_pool to s) refusal.NotFound t.0))

-- ---- its refusals

gone_all : (P : Refusal → Type 0) → P refusal.NotFound → ((n : ℕ) → P (refusal.Gone n)) → (o : Option ℕ) → P (gone_or_unknown o)
gone_all P none gone None = none
gone_all P none gone (Some n) = gone n

stale_all : (P : Refusal → Type 0) → P refusal.NotFound → ((n : ℕ) → P (refusal.Stale n)) → (o : Option ℕ) (copy : Option CopyRow) → P (stale_copy o copy)
stale_all P none stale (Some n) copy = stale n
stale_all P none stale None None = none
stale_all P none stale None (Some copy) = stale copy.placed

version_all : (P : Refusal → Type 0) (j : Journal) (object : ℕ) (rule : Version → List Refusal) → P refusal.NotFound → ((n : ℕ) → P (refusal.Gone n)) → ((w : Version) → AllByRecursion P (rule w)) → (o : Option Version)
    → AllByRecursion P (of_version j object rule o)
version_all P j object rule none gone each None = (gone_all P none gone (j.removed object), tt)
version_all P j object rule none gone each (Some w) = each w

already_all : (P : Refusal → Type 0) → ((n : ℕ) → P (refusal.Stale n)) → (o : Option CopyRow) → AllByRecursion P (copied_already o)
already_all P stale None = tt
already_all P stale (Some copy) = (stale copy.placed, tt)

-- what holds of each of these holds of all
pub copy_all : (P : Refusal → Type 0) → P bad_value → P refusal.NotFound → ((n : ℕ) → P (refusal.Gone n)) → ((n : ℕ) → P (refusal.Stale n)) → (object : ℕ) (a : Aim) (s : Sight) → AllByRecursion P (copy_refused_by object a s)
copy_all P bad none gone stale object (aim.New number) s = (bad, tt)
copy_all P bad none gone stale object (aim.Move from placed to along) s =
    append-all P (unless (is_some (pool to s.inventory)) refusal.NotFound) _ (unless-all P (is_some (pool to s.inventory)) refusal.NotFound none)
    (version_all P s.journal object (copy_refused s.journal object from placed) none gone
    (λ w. unless-all P (placed_by placed (copy_in from w)) (stale_copy (s.journal.copy_changed object from) (copy_in from w)) (stale_all P none stale (s.journal.copy_changed object from) (copy_in from w))) (version object s.inventory))
copy_all P bad none gone stale object (aim.Copy to) s =
    append-all P (unless (is_copy_pool to s) refusal.NotFound) _ (unless-all P (is_copy_pool to s) refusal.NotFound none)
    (version_all P s.journal object (λ w. copied_already (copy_in to w)) none gone (λ w. already_all P stale (copy_in to w)) (version object s.inventory))

-- ---- the step

inventory_at : (c : Core) → inv_at (length c.journal) c ≡ inventory c
inventory_at c = ap (after c.base) (take_all (length c.journal) c.journal (omega arith))

version_front : (contents : ℕ → List ℕ) (object : ℕ) (a : Aim) (v : Inv) → IsFront contents v (copying object a) (size_of object v) []
version_front contents object a v = go (version object v) refl where
  go : (o : Option Version) → version object v ≡ o → IfSome o (λ w. (size_of object v ≡ w.size) × ([] ≡ take (length {A = ℕ} []) (contents object)))
  go None at = tt
  go (Some w) at = (ap (λ (o : Option Version). option_map_or (λ x. x.size) o 0) at, refl)

copies_bring : (key actor size : ℕ) (object : ℕ) (a : Aim) (place : Place) (u : Ticket) → bring_others u (fresh_ticket key actor size (copying object a) place) ≡ true
copies_bring key actor size object a place u = go (is_storing u.purpose) where
  go : (b : Bool) → not (b && (false && object_of u.purpose == object)) ≡ true
  go true = refl
  go false = refl

module _ {S : Type 0} (told : S → Option History) (moment : S → ℕ) (faults : S → ℕ → ℕ) (actor object : ℕ) (a : Aim) (avoid : ℕ) (hall : Hall S) where
  module _ (m : Machine) (is : Is told moment faults hall m) where
    abbrev asked : Request
    asked = copy_request actor object a avoid (inventory m.core)

    abbrev can : Bool
    can = can_place_copy object a (inventory m.core)

    abbrev own_list : List Refusal
    own_list = copy_refused_by object a (sight actor m.core)

    abbrev placing : List Refusal
    placing = placing_refused can (place_if can asked (inventory m.core) hall.held.claims)

    abbrev full_list : List Refusal
    full_list = unless (nat_lt (m.core.next_ticket + 1) (2 ^ 62)) refusal.InventoryFull

    abbrev all_list : List Refusal
    all_list = ended m ++ (own_list ++ (placing ++ full_list))

    own_is : copy_refusal object a hall.held ≡ foremost own_list
    own_is =
        ap foremost
        (seen_alike object a (seen_by_all hall.held) (sight actor m.core) (ap (λ (b : Inv). journal_of b hall.held.vault.journal) (sym is.core.base) ∙ ap (journal_of m.core.base) (sym is.core.journal)) is.core.database)

    refused_with : (e : Refusal) → (foremost all_list ≡ Some e) ⊎ (e ≡ refusal.Memory)
        → (seen : ℕ → List ℕ) × (next : Machine) × AreBytes (IsTrusted (told hall.store) hall.held) (OpenCopy object a avoid (Err e)) m.contents seen
        × Made hall_places actor (event (inventory m.core).number (OpenCopy object a avoid (Err e))) (with_contents seen m) next × Is told moment faults hall (behind (OpenCopy object a avoid (Err e)) m.contents next)
    refused_with e held = (
      m.contents,
      m,
      refl,
      record {
        number = refl;
        later = no_later m m.contents m refl refl;
        step = (
          place_if can asked (inventory m.core) hall.held.claims,
          is_placed can (inventory m.core) (space m.core) hall.held.claims actor (size_of object (inventory m.core)) a 0 avoid is.core.space,
          inl (held, record { core = refl; contents = refl }),
        );
      },
      is,
    )

    own_all : (P : Refusal → Type 0) → P bad_value → P refusal.NotFound → ((n : ℕ) → P (refusal.Gone n)) → ((n : ℕ) → P (refusal.Stale n)) → AllByRecursion P own_list
    own_all P bad none gone stale = copy_all P bad none gone stale object a (sight actor m.core)

    later_all : (P : Refusal → Type 0) → P refusal.NotFound → ((n : ℕ) → P (refusal.NoSpace n)) → ((h : Holder) → P (refusal.Busy h)) → P refusal.InventoryFull → AllByRecursion P (placing ++ full_list)
    later_all P absent full busy over =
        append-all P placing full_list (placing_all P full busy over absent can asked (inventory m.core) hall.held.claims) (unless-all P (nat_lt (m.core.next_ticket + 1) (2 ^ 62)) refusal.InventoryFull over)

    first_is : (e : Refusal) → foremost (ended_at (moment hall.store) hall.held) ≡ Some e → foremost all_list ≡ Some e
    first_is e full =
        ap (λ (l : List Refusal). foremost (l ++ (own_list ++ (placing ++ full_list)))) (ended_is (moment hall.store) hall.held m is.core is.clock)
        ∙ ended_first (moment hall.store) hall.held (own_list ++ (placing ++ full_list)) e full
        (append-all (λ y. 1 ≤ place_of y) own_list (placing ++ full_list) (own_all (λ y. 1 ≤ place_of y) (omega arith) (omega arith) (λ n. omega arith) (λ n. omega arith))
        (later_all (λ y. 1 ≤ place_of y) (omega arith) (λ n. omega arith) (λ h. omega arith) (omega arith)))

    module _ (free : foremost (ended_at (moment hall.store) hall.held) ≡ None) where
      behind_ended : foremost all_list ≡ foremost (own_list ++ (placing ++ full_list))
      behind_ended = next_answers (ended m) (own_list ++ (placing ++ full_list)) (ap foremost (ended_is (moment hall.store) hall.held m is.core is.clock) ∙ free)

      -- each of the copy's own comes before want of numbers
      own_low : (e : Refusal) → foremost own_list ≡ Some e → place_of e ≤ 33
      own_low e own = foremost-all (λ x. place_of x ≤ 33) own_list (own_all (λ x. place_of x ≤ 33) (omega arith) (omega arith) (λ n. omega arith) (λ n. omega arith)) e own

      full_later : (e : Refusal) → place_of e ≤ 33 → AllByRecursion (λ y. place_of e ≤ place_of y) full_list
      full_later e low = unless-all (λ y. place_of e ≤ place_of y) (nat_lt (m.core.next_ticket + 1) (2 ^ 62)) refusal.InventoryFull (omega (arith, low))

      not_placed : can ≡ false → (e : Refusal) → foremost own_list ≡ Some e → foremost all_list ≡ Some e
      not_placed none e own =
          behind_ended
          ∙ ap (λ (b : Bool). foremost (own_list ++ (placing_refused b (place_if b asked (inventory m.core) hall.held.claims) ++ full_list))) none
          ∙ first_answers own_list full_list e own (full_later e (own_low e own))

      module _ (one : can ≡ true) where
        placed_as : (r : Result (List Placed) Refusal) → choose asked (inventory m.core).stores hall.held.claims ≡ r
            → foremost placing ≡ foremost (refusal_of (place_by (pool_for asked hall.held.claims.next_file (counted actor hall.held.claims) (inventory m.core).stores) r))
        placed_as r is_ =
            ap (λ (b : Bool). foremost (placing_refused b (place_if b asked (inventory m.core) hall.held.claims))) one
            ∙ ap (λ (x : Result (List Placed) Refusal). foremost (refusal_of (place_by (pool_for asked hall.held.claims.next_file (counted actor hall.held.claims) (inventory m.core).stores) x))) is_

        both_first : foremost (own_list ++ (placing ++ full_list)) ≡ sooner_of (sooner_of (foremost own_list) (foremost placing)) (foremost full_list)
        both_first =
            ap foremost (sym (append_assoc own_list placing full_list)) ∙ foremost_append (own_list ++ placing) full_list ∙ ap (λ (o : Option Refusal). sooner_of o (foremost full_list)) (foremost_append own_list placing)

        nowhere : (x e : Refusal) → choose asked (inventory m.core).stores hall.held.claims ≡ Err x → sooner_of (foremost own_list) (Some x) ≡ Some e → foremost all_list ≡ Some e
        nowhere x e none first =
            let mine : foremost (own_list ++ placing) ≡ Some e = foremost_append own_list placing ∙ ap (sooner_of (foremost own_list)) (placed_as (Err x) none) ∙ first in
            let all : AllByRecursion (λ y. place_of y ≤ 33) (own_list ++ placing) =
            append-all (λ y. place_of y ≤ 33) own_list placing (own_all (λ y. place_of y ≤ 33) (omega arith) (omega arith) (λ n. omega arith) (λ n. omega arith))
            (placing_all (λ y. place_of y ≤ 33) (λ n. omega arith) (λ h. omega arith) (omega arith) (omega arith) can asked (inventory m.core) hall.held.claims) in
            behind_ended ∙ ap foremost (sym (append_assoc own_list placing full_list))
            ∙ first_answers (own_list ++ placing) full_list e mine (full_later e (foremost-all (λ y. place_of y ≤ 33) (own_list ++ placing) all e mine))

        module _ (spot : ℕ × List Placed) (at : IsSpot asked (inventory m.core) hall.held.claims spot) where
          none_placing : foremost placing ≡ None
          none_placing =
              ap (λ (b : Bool). foremost (placing_refused b (place_if b asked (inventory m.core) hall.held.claims))) one
              ∙ ap (λ (r : Result Place Refusal). foremost (refusal_of r)) (placed_ok asked (inventory m.core) hall.held.claims spot at)

          own_first : (e : Refusal) → foremost own_list ≡ Some e → foremost all_list ≡ Some e
          own_first e own =
              let mine : foremost (own_list ++ placing) ≡ Some e = foremost_append own_list placing ∙ ap (sooner_of (foremost own_list)) none_placing ∙ ap (λ (o : Option Refusal). sooner_of o None) own in
              behind_ended ∙ ap foremost (sym (append_assoc own_list placing full_list)) ∙ first_answers (own_list ++ placing) full_list e mine (full_later e (own_low e own))

          full_first : foremost own_list ≡ None → ticket_left hall.held ≡ false → foremost all_list ≡ Some refusal.InventoryFull
          full_first own none =
              behind_ended ∙ next_answers own_list (placing ++ full_list) own ∙ next_answers placing full_list none_placing
              ∙ ap (λ (b : Bool). foremost (unless b refusal.InventoryFull)) (ap (λ (n : ℕ). nat_lt (n + 1) (2 ^ 62)) is.core.next_ticket ∙ none)

      not_opened : (v : Inv) (own : Option Refusal) (e : Refusal) → v ≡ inventory m.core → own ≡ foremost own_list
          → ((can_place_copy object a v ≡ false) × (own ≡ Some e))
          ⊎ ((can_place_copy object a v ≡ true)
          × (((x : Refusal) × (choose (copy_request actor object a avoid v) v.stores hall.held.claims ≡ Err x) × (sooner_of own (Some x) ≡ Some e))
          ⊎ ((((spot : ℕ × List Placed) × IsSpot (copy_request actor object a avoid v) v hall.held.claims spot) × (own ≡ Some e))
          ⊎ (((spot : ℕ × List Placed) × IsSpot (copy_request actor object a avoid v) v hall.held.claims spot) × (own ≡ None) × (ticket_left hall.held ≡ false) × (e ≡ refusal.InventoryFull)))))
          → foremost all_list ≡ Some e
      not_opened v own e same mine (inl h) = not_placed (subst (λ (x : Inv). can_place_copy object a x ≡ false) same h.0) e (sym mine ∙ h.1)
      not_opened v own e same mine (inr h) = rest (subst (λ (x : Inv). can_place_copy object a x ≡ true) same h.0) h.1 where
        rest : can ≡ true
            → ((x : Refusal) × (choose (copy_request actor object a avoid v) v.stores hall.held.claims ≡ Err x) × (sooner_of own (Some x) ≡ Some e))
            ⊎ ((((spot : ℕ × List Placed) × IsSpot (copy_request actor object a avoid v) v hall.held.claims spot) × (own ≡ Some e))
            ⊎ (((spot : ℕ × List Placed) × IsSpot (copy_request actor object a avoid v) v hall.held.claims spot) × (own ≡ None) × (ticket_left hall.held ≡ false) × (e ≡ refusal.InventoryFull)))
            → foremost all_list ≡ Some e
        rest one (inl none) =
            nowhere one none.0 e (subst (λ (x : Inv). choose (copy_request actor object a avoid x) x.stores hall.held.claims ≡ Err none.0) same none.1) (ap (λ (o : Option Refusal). sooner_of o (Some none.0)) (sym mine) ∙ none.2)
        rest one (inr (inl some)) =
            own_first one some.0.0 (subst (λ (x : Inv). IsSpot (copy_request actor object a avoid x) x hall.held.claims some.0.0) same some.0.1) e (sym mine ∙ some.1)
        rest one (inr (inr full)) =
            full_first one full.0.0 (subst (λ (x : Inv). IsSpot (copy_request actor object a avoid x) x hall.held.claims full.0.0) same full.0.1) (sym mine ∙ full.1) full.2 ∙ ap (λ (x : Refusal). Some x) (sym full.3)

  pub not_drawn_ended : (e : Refusal) → foremost (ended_at (moment hall.store) hall.held) ≡ Some e → Steps told moment faults actor (OpenCopy object a avoid (Err e)) hall hall
  not_drawn_ended e full = λ m is. refused_with m is e (inl (first_is m is e full))

  pub not_drawn : foremost (ended_at (moment hall.store) hall.held) ≡ None → (e : Refusal) → NotOpenedCopy actor object a avoid hall.held e ⊎ (e ≡ refusal.Memory)
      → Steps told moment faults actor (OpenCopy object a avoid (Err e)) hall hall
  not_drawn free e (inl why) = λ m is. refused_with m is e (inl (not_opened m is free hall.held.vault.database (copy_refusal object a hall.held) e is.core.database (own_is m is) why))
  not_drawn free e (inr memory) = λ m is. refused_with m is e (inr memory)

  module _ (free : foremost (ended_at (moment hall.store) hall.held) ≡ None) (ticket : ℕ) (new : Held) (o : IsOpenedCopy actor object a avoid hall.held new ticket) where
    abbrev place : Place
    place = record { pool = o.spot.0; segments = map (λ p. p.segment) o.spot.1 }

    abbrev seated : Inv → Seat
    seated v = new_seat actor (size_of object v) (Copying object a) Unhashed o.spot

    opens : Steps told moment faults actor (OpenCopy object a avoid (Ok ticket)) hall (record hall { held = with_seat (seated hall.held.vault.database) hall.held })
    opens = λ m is.
        let c : Core = m.core in
        let v : Inv = inventory c in
        let r : Request = copy_request actor object a avoid v in
        let same : hall.held.vault.database ≡ v = is.core.database in
        let allowed : foremost (copy_refused_by object a (sight actor c)) ≡ None = sym (own_is m is) ∙ o.allowed in
        let one : can_place_copy object a v ≡ true = subst (λ (x : Inv). can_place_copy object a x ≡ true) same o.can in
        let at : IsSpot r v hall.held.claims o.spot = subst (λ (x : Inv). IsSpot (copy_request actor object a avoid x) x hall.held.claims o.spot) same o.is_spot in
        let roomy : AreRoomy o.spot.0 v.stores = subst (λ (x : Inv). AreRoomy o.spot.0 x.stores) same o.roomy in
        let tied : IsTied v = subst IsTied same o.tied in
        let small : size_of object v < 2 ^ 44 = subst (λ (x : Inv). size_of object x < 2 ^ 44) same o.small in
        let tickets : nat_lt (c.next_ticket + 1) (2 ^ 62) ≡ true = ap (λ (n : ℕ). nat_lt (n + 1) (2 ^ 62)) is.core.next_ticket ∙ o.left in
        let found : place_if (can_place_copy object a v) r v hall.held.claims ≡ Ok place = ap (λ (b : Bool). place_if b r v hall.held.claims) one ∙ placed_ok r v hall.held.claims o.spot at in
        let none : foremost (ended m ++ (copy_refused_by object a (sight actor c) ++ (placing_refused (can_place_copy object a v) (place_if (can_place_copy object a v) r v hall.held.claims)
        ++ unless (nat_lt (c.next_ticket + 1) (2 ^ 62)) refusal.InventoryFull))) ≡ None =
        none_then (ended m) _ (ap foremost (ended_is (moment hall.store) hall.held m is.core is.clock) ∙ free)
        (none_then (copy_refused_by object a (sight actor c)) _ allowed
        (none_then (placing_refused (can_place_copy object a v) (place_if (can_place_copy object a v) r v hall.held.claims)) _ (none_placing m is free one o.spot at)
        (no_unless (nat_lt (c.next_ticket + 1) (2 ^ 62)) refusal.InventoryFull tickets))) in
        let next : Machine = record m { core = opened actor (size_of object v) (copying object a) place c } in
        let fault : c.fault ≡ None = is.core.fault ∙ none_halted (moment hall.store) hall.held free in
        let below_ticket : c.next_ticket + 1 < 2 ^ 62 = ltb-true (c.next_ticket + 1) (2 ^ 62) tickets in
        let seat : IsSeatOf hall.held.next_ticket (seated hall.held.vault.database) (fresh_ticket c.next_ticket actor (size_of object v) (copying object a) place) = record {
          number = is.core.next_ticket;
          actor = refl;
          purpose = refl;
          size = ap (size_of object) (sym same);
          pool = refl;
          places = spot_back r v.stores hall.held.claims o.spot.1 o.spot.0 at.0 at.1;
          count = refl;
          is_sealed = refl;
          hashed = tt;
        } in
        let there : WasThere c object = (length c.journal, ap (λ (x : Inv). is_some (version object x)) (inventory_at c) ∙ (and_parts (is_some (version object v)) (is_some (pool (aimed_at a) v)) (and_parts (is_for_copies a) _ one).1).0) in
        let held : Held = with_seat (seated hall.held.vault.database) hall.held in (
          m.contents,
          next,
          refl,
          record {
            number = refl;
            later = no_later m m.contents next refl refl;
            step = (
              place_if (can_place_copy object a v) r v hall.held.claims,
              is_placed (can_place_copy object a v) v (space c) hall.held.claims actor (size_of object v) a 0 avoid is.core.space,
              (none, (place, found, o.numbered ∙ sym is.core.next_ticket, record { core = refl; contents = refl })),
            );
          },
          record {
            core = core_joins hall.held c (seated hall.held.vault.database) (fresh_ticket c.next_ticket actor (size_of object v) (copying object a) place) c.next_object hall.held.next_object is.core is.good.numbers.below
                (let least = least_file (told hall.store) m hall.held is.good fault is.core in omega (arith, least)) seat refl is.core.next_object;
            clock = is.clock;
            counts = is.counts;
            good = good_joins (told hall.store) m hall.held is.good fault is.core actor (size_of object v) (copying object a) a 0 avoid o.spot held.seats
                (opened_firm hall.held.next_ticket c.next_ticket (seated hall.held.vault.database) hall.held.seats c.tickets is.core.tickets is.good.numbers.below is.core.next_ticket refl) held.claims c.next_object held.next_object held.next_ticket tied roomy at
                small o.few below_ticket (omega arith) (let low = is.good.numbers.bounds.1 in omega (arith, low)) there
                (each_any (λ u. bring_others u (fresh_ticket c.next_ticket actor (size_of object v) (copying object a) place) ≡ true) c.tickets (λ u. copies_bring c.next_ticket actor (size_of object v) object a place u))
                (version_front m.contents object a v);
          },
        )

    pub opens_copy : Steps told moment faults actor (OpenCopy object a avoid (Ok ticket)) hall (record { store = hall.store; held = new })
    opens_copy = subst (λ h. Steps told moment faults actor (OpenCopy object a avoid (Ok ticket)) hall (record { store = hall.store; held = h })) (sym o.becomes) opens

-- ---- as the hall's parts say it

module _ {S : Type 0} (told : S → Option History) (moment : S → ℕ) (faults : S → ℕ → ℕ) (actor object : ℕ) (a : Aim) (avoid : ℕ) (hall : Hall S) (free : foremost (ended_at (moment hall.store) hall.held) ≡ None) where
  pub copy_step : (result : Result ℕ Refusal) (new : Held) → IfOk result (λ ticket. IsOpenedCopy actor object a avoid hall.held new ticket) → OnErr result (new ≡ hall.held)
      → IfErr result (λ e. NotOpenedCopy actor object a avoid hall.held e ⊎ (e ≡ refusal.Memory)) → Steps told moment faults actor (OpenCopy object a avoid result) hall (record { store = hall.store; held = new })
  copy_step (Ok ticket) new ok same err = opens_copy told moment faults actor object a avoid hall free ticket new ok
  copy_step (Err e) new ok same err =
      subst (λ h. Steps told moment faults actor (OpenCopy object a avoid (Err e)) hall (record { store = hall.store; held = h })) (sym same) (not_drawn told moment faults actor object a avoid hall free e err)

  pub copy_good : (result : Result ℕ Refusal) (new : Held) → IfOk result (λ ticket. IsOpenedCopy actor object a avoid hall.held new ticket) → OnErr result (new ≡ hall.held)
      → IfErr result (λ e. NotOpenedCopy actor object a avoid hall.held e ⊎ (e ≡ refusal.Memory)) → ((m : Machine) × Is told moment faults hall m)
      → (m : Machine) × Is told moment faults (record { store = hall.store; held = new }) m
  copy_good result new ok same err good =
      still_good told moment faults actor (OpenCopy object a avoid result) hall (record { store = hall.store; held = new }) (copy_step result new ok same err) good

pub copy_ended_listed : (moment : ℕ) (h : Held) (object : ℕ) (a : Aim) (avoid : ℕ) (e : Refusal) → foremost (ended_at moment h) ≡ Some e → is_listed (OpenCopy object a avoid (Err e)) ≡ true
unfolding is_listed
copy_ended_listed moment h object a avoid e is = ended_has (λ x. is_listed (OpenCopy object a avoid (Err x)) ≡ true) refl (λ file count. refl) moment h e is

pub copy_listed : (actor object : ℕ) (a : Aim) (avoid : ℕ) (h : Held) (e : Refusal) → NotOpenedCopy actor object a avoid h e ⊎ (e ≡ refusal.Memory) → is_listed (OpenCopy object a avoid (Err e)) ≡ true
unfolding is_listed
copy_listed actor object a avoid h e (inr memory) = ap (λ (x : Refusal). is_listed (OpenCopy object a avoid (Err x))) memory
copy_listed actor object a avoid h e (inl why) = of_why why where
  own : (x : Refusal) → copy_refusal object a h ≡ Some x → is_listed (OpenCopy object a avoid (Err x)) ≡ true
  own x is =
      foremost-all (λ y. is_listed (OpenCopy object a avoid (Err y)) ≡ true) (copy_refused_by object a (seen_by_all h))
      (copy_all (λ y. is_listed (OpenCopy object a avoid (Err y)) ≡ true) refl refl (λ n. refl) (λ n. refl) object a (seen_by_all h)) x is

  first : (o : Option Refusal) (x : Refusal) → ((y : Refusal) → o ≡ Some y → is_listed (OpenCopy object a avoid (Err y)) ≡ true) → is_listed (OpenCopy object a avoid (Err x)) ≡ true → sooner_of o (Some x) ≡ Some e
      → is_listed (OpenCopy object a avoid (Err e)) ≡ true
  first o x mine placed is = elim (sooner-one o (Some x) e is) as (λ _. is_listed (OpenCopy object a avoid (Err e)) ≡ true) [
    | inl it ↦ mine e it
    | inr it ↦ ap (λ (y : Refusal). is_listed (OpenCopy object a avoid (Err y))) (same_Some e x (sym it)) ∙ placed
  ]

  of_why : NotOpenedCopy actor object a avoid h e → is_listed (OpenCopy object a avoid (Err e)) ≡ true
  of_why (inl none) = own e none.1
  of_why (inr (inl_)) = of_place inl_.1 where
    of_place : WhyNoCopySeat (copy_refusal object a h) (copy_request actor object a avoid h.vault.database) h e → is_listed (OpenCopy object a avoid (Err e)) ≡ true
    of_place (inl none) =
        first (copy_refusal object a h) none.0 own
        (choose_has (λ x. is_listed (OpenCopy object a avoid (Err x)) ≡ true) (λ n. refl) (λ w. refl) refl (copy_request actor object a avoid h.vault.database) h.vault.database.stores h.claims none.0 none.1) none.2
    of_place (inr (inl some)) = own e some.1
    of_place (inr (inr full)) = ap (λ (x : Refusal). is_listed (OpenCopy object a avoid (Err x))) full.3

pub copied_listed : (object : ℕ) (a : Aim) (avoid ticket : ℕ) → is_listed (OpenCopy object a avoid (Ok ticket)) ≡ true
unfolding is_listed
copied_listed object a avoid ticket = refl

pub copy_result_listed : (actor object : ℕ) (a : Aim) (avoid : ℕ) (h : Held) (result : Result ℕ Refusal) → IfErr result (λ e. NotOpenedCopy actor object a avoid h e ⊎ (e ≡ refusal.Memory))
    → is_listed (OpenCopy object a avoid result) ≡ true
copy_result_listed actor object a avoid h (Ok ticket) err = copied_listed object a avoid ticket
copy_result_listed actor object a avoid h (Err e) err = copy_listed actor object a avoid h e err

module _ (actor object : ℕ) (a : Aim) (avoid : ℕ) (old : Held) (size : ℕ) (spot : ℕ × List Placed) (are : size ≡ size_of object old.vault.database) where
  pub spot_asked : IsSpot (request actor size a 0 avoid) old.vault.database old.claims spot → IsSpot (copy_request actor object a avoid old.vault.database) old.vault.database old.claims spot
  spot_asked at = subst (λ (n : ℕ). IsSpot (request actor n a 0 avoid) old.vault.database old.claims spot) are at

  pub copy_opened : (new : Held) (result : Result ℕ Refusal) → size < 2 ^ 44 → copy_refusal object a old ≡ None → can_place_copy object a old.vault.database ≡ true → IsSpot (request actor size a 0 avoid) old.vault.database old.claims spot
      → AreRoomy spot.0 old.vault.database.stores → IsTied old.vault.database → length spot.1 ≤ 2 ^ 23 → ticket_left old ≡ true
      → IfOk result (λ n. (n ≡ old.next_ticket) × (new ≡ with_seat (new_seat actor size (Copying object a) Unhashed spot) old)) → IfOk result (λ n. IsOpenedCopy actor object a avoid old new n)
  copy_opened new (Err e) small allowed able at roomy tied few left made = tt
  copy_opened new (Ok n) small allowed able at roomy tied few left made = record {
    spot = spot;
    allowed = allowed;
    can = able;
    is_spot = spot_asked at;
    roomy = roomy;
    tied = tied;
    few = few;
    small = subst (λ (x : ℕ). x < 2 ^ 44) are small;
    left = left;
    numbered = made.0;
    becomes = made.1 ∙ ap (λ (x : ℕ). with_seat (new_seat actor x (Copying object a) Unhashed spot) old) are;
  }
