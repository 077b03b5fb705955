-- Two tickets with space on one file are in one pool.
use Rattle.std.proofs.Common.{◌≡◌, inl, inr, ◌&&◌, ◌||◌, Bool, true, false, not, sym, ap}
use Rattle.std.specs.Prelude.{◌==◌}
use Rattle.std.specs.List.{AllByRecursion, Contains}
use Rattle.std.proofs.lemmas.Bool.{and_parts, eq-eqb, eqb-true, false≢true}
use Rattle.kinds.specs.declared.segment.Segment.{Segment}
use Rattle.inventory_rows.specs.pool_rows.PoolRows.{is_sequential}
use Rattle.inventory_rows.specs.State.{Inv}
use Rattle.inventory_rules.specs.Segments.{are_clear}
use Rattle.inventory_laws.proofs.Lists.{each_also, each_within}
use Rattle.inventory_laws.proofs.Origins.{contained_holds}
use Rattle.machine.specs.State.{Core, Ticket, inventory}
use Rattle.hall.specs.Covered.{SpaceIsClear, all_space, are_apart_in}
use Rattle.hall.proofs.Pairs.{Pair, pairs}

if_same : (same rest : Bool) → (not same || rest) ≡ true → same ≡ true → rest ≡ true
if_same true rest h is = h
if_same false rest h is = absurd (false≢true is)

-- two segments of tickets on one file are of one pool and clear of one another
pub apart_parts : (v : Inv) (t u : Ticket) (s r : Segment) → are_apart_in v (t, s) (u, r) ≡ true → s.file ≡ r.file
    → (t.place.pool ≡ u.place.pool) × (are_clear (is_sequential t.place.pool v.stores) s r ≡ true)
apart_parts v t u s r h same =
    let q = is_sequential t.place.pool v.stores in
    let rest = if_same (s.file == r.file) (t.place.pool == u.place.pool && (are_clear q s r && (not q || t.actor == u.actor))) h (eq-eqb s.file r.file same) in
    let parts = and_parts (t.place.pool == u.place.pool) (are_clear q s r && (not q || t.actor == u.actor)) rest in
    (eqb-true t.place.pool u.place.pool parts.0, (and_parts (are_clear q s r) (not q || t.actor == u.actor) parts.1).0)

-- each segment of a ticket, with each of each
pub space_pairs : (c : Core) → SpaceIsClear c
    → AllByRecursion (λ t. AllByRecursion (λ s. AllByRecursion (λ u. AllByRecursion (λ r. Pair (are_apart_in (inventory c)) (t, s) (u, r)) u.place.segments) c.tickets) t.place.segments) c.tickets
space_pairs c space =
    each_within (λ (a : Ticket × Segment). AllByRecursion (λ u. AllByRecursion (λ r. Pair (are_apart_in (inventory c)) a (u, r)) u.place.segments) c.tickets)
    (λ (t : Ticket) (s : Segment). (t, s)) (λ (t : Ticket). t.place.segments) c.tickets
    (each_also (λ a. AllByRecursion (Pair (are_apart_in (inventory c)) a) (all_space c.tickets))
    (λ (a : Ticket × Segment). AllByRecursion (λ u. AllByRecursion (λ r. Pair (are_apart_in (inventory c)) a (u, r)) u.place.segments) c.tickets) (all_space c.tickets)
    (λ a all. each_within (Pair (are_apart_in (inventory c)) a) (λ (u : Ticket) (r : Segment). (u, r)) (λ (u : Ticket). u.place.segments) c.tickets all)
    (pairs (are_apart_in (inventory c)) (all_space c.tickets) space.apart))

pub same_pool : (c : Core) → SpaceIsClear c → (u : Ticket) → Contains c.tickets u → (t : Ticket) → Contains c.tickets t → (t ≡ u → ⊥) → (r : Segment) → Contains u.place.segments r → (s : Segment)
    → Contains t.place.segments s → s.file ≡ r.file → t.place.pool ≡ u.place.pool
same_pool c space u here t there other r within s inside same =
    let v = inventory c in
    let all = contained_holds (λ s. AllByRecursion (λ u. AllByRecursion (λ r. Pair (are_apart_in v) (t, s) (u, r)) u.place.segments) c.tickets) t.place.segments s inside
    (contained_holds (λ t. AllByRecursion (λ s. AllByRecursion (λ u. AllByRecursion (λ r. Pair (are_apart_in v) (t, s) (u, r)) u.place.segments) c.tickets) t.place.segments) c.tickets t there (space_pairs c space)) in
    go (contained_holds (λ r. Pair (are_apart_in v) (t, s) (u, r)) u.place.segments r within
    (contained_holds (λ u. AllByRecursion (λ r. Pair (are_apart_in v) (t, s) (u, r)) u.place.segments) c.tickets u here all))
  where
    go : Pair (are_apart_in (inventory c)) (t, s) (u, r) → t.place.pool ≡ u.place.pool
    go (inl e) = absurd (other (ap (λ (a : Ticket × Segment). a.0) e))
    go (inr (inl h)) = (apart_parts (inventory c) t u s r h same).0
    go (inr (inr h)) = sym (apart_parts (inventory c) u t r s h (sym same)).0
