-- The bytes of objects, behind a transaction that joined.
use Rattle.std.proofs.Common.{◌≡◌, ◌⊎◌, inl, inr, ℕ, ◌&&◌, Bool, true, false, not, List, length, take, Option, None, Some, is_some, refl, sym, ap, subst, ◌∙◌, arith}
use Rattle.std.specs.Prelude.{◌==◌, IfSome}
use Rattle.std.specs.List.{AllByRecursion, Contains, find}
use Rattle.std.specs.Option.{option_map_or}
use Rattle.std.proofs.lemmas.Bool.{and_parts, eq-eqb, eqb-true, false≢true}
use Rattle.std.proofs.lemmas.List.{take_all}
use Rattle.sha2.specs.Sha256.{sha256}
use Rattle.store_api.specs.Disk.{History}
use Rattle.kinds.specs.declared.segment.Segment.{Segment}
use Rattle.entries.specs.declared.change.Change.{Change}
use Rattle.contents.specs.Contents.{BringsHave, FramesHave, InStore}
use Rattle.inventory_rows.specs.version_groups.declared.versions.Version.{Version}
use Rattle.inventory_rows.specs.version_groups.Versions.{are_distinct}
use Rattle.inventory_rows.specs.Search.{version, versions}
use Rattle.inventory_rows.specs.State.{Inv}
use Rattle.inventory_laws.specs.Origins.{Known, new_objects, placed_segments}
use Rattle.inventory_laws.proofs.Facts.{facts_of}
use Rattle.inventory_laws.proofs.Lists.{each_also}
use Rattle.inventory_laws.proofs.Origins.{contained_holds, each_contained}
use Rattle.machine.specs.Machine.{storing_contents, stored_by}
use Rattle.machine.specs.State.{Core, Purpose, Ticket, copying, inventory, is_among, is_storing, object_of, storing}
use Rattle.hall.specs.Covered.{IsDrawn, IsFilled, IsObject, NumbersAreDrawn, SpaceIsClear, WasThere, bring_others, inv_at}
use Rattle.hall.specs.declared.seat.Seat.{Seat}
use Rattle.hall.specs.Good.{HasBytes, HasTaken, IsFront, IsLawful}
use Rattle.hall.proofs.ComeFrom.{each_found, objects_behind}
use Rattle.hall.proofs.Joining.{IsPlacedBy, IsStored, Joins, Spent, behind, inventory_last, last, spent, valid_now, whole_at}
use Rattle.hall.proofs.Lists.{each_kept}
use Rattle.hall.proofs.Pairs.{Pair, each_two, found_passes, none_found, pair_of, some_or_none}

-- two tickets that bring the same object
same_stored : (a b : Ticket) → is_storing a.purpose ≡ true → is_storing b.purpose ≡ true → object_of a.purpose ≡ object_of b.purpose → bring_others a b ≡ true → ⊥
same_stored a b sa sb e h =
    let clash : bring_others a b ≡ false =
    ap (λ p. not (p && (is_storing b.purpose && object_of a.purpose == object_of b.purpose))) sa
    ∙ ap (λ p. not (true && (p && object_of a.purpose == object_of b.purpose))) sb
    ∙ ap (λ p. not (true && (true && p))) (eq-eqb (object_of a.purpose) (object_of b.purpose) e) in
    false≢true (sym clash ∙ h)

drawn_of : (c : Core) (p : Purpose) → IsObject c p → is_storing p ≡ true → IsDrawn c (object_of p)
drawn_of c (storing object) d is = d
drawn_of c (copying object aim) d is = absurd (false≢true is)

-- what is kept of an object is what is found of it
pub found_is : (v : Inv) (w u : Version) (object : ℕ) → are_distinct (versions v) ≡ true → Contains (versions v) w → w.object ≡ object → version object v ≡ Some u → w ≡ u
found_is v w u object apart there named at =
    let f = found_passes (Contains (versions v)) (λ (y : Version). y.object == object) (versions v) u at (each_contained (versions v)) in
    go (pair_of (λ (a b : Version). not (b.object == a.object)) (versions v) w u apart there f.0) (eqb-true u.object object f.1)
  where
    differ : (a b : Version) → a.object ≡ b.object → not (b.object == a.object) ≡ true → ⊥
    differ a b e h = false≢true (sym (ap not (eq-eqb b.object a.object (sym e))) ∙ h)

    go : Pair (λ (a b : Version). not (b.object == a.object)) w u → u.object ≡ object → w ≡ u
    go (inl e) is = e
    go (inr (inl h)) is = absurd (differ w u (named ∙ sym is) h)
    go (inr (inr h)) is = absurd (differ u w (is ∙ sym named) h)

module _ (actor : ℕ) (x : Change) (numbers : List ℕ) (c : Core) (contents : ℕ → List ℕ) (l : IsLawful c) (j : Joins actor x numbers c) (n : NumbersAreDrawn c) (space : SpaceIsClear c) (g : HasBytes contents c) where
  abbrev now : Inv
  now = inventory c

  abbrev pub next_contents : ℕ → List ℕ
  next_contents = storing_contents (spent actor numbers c) contents

  drawn_spent : (t : Ticket) → Contains c.tickets t → is_storing t.purpose ≡ true → IsDrawn c (object_of t.purpose)
  drawn_spent t there is = drawn_of c t.purpose (contained_holds (λ t. IsObject c t.purpose) c.tickets t there n.objects) is

  is_whole : (t : Ticket) → Spent actor numbers c t → length t.bytes ≡ t.size
  is_whole t s = (contained_holds IsFilled c.tickets t s.there space.filled).whole s.is_sealed

  -- ---- a spent ticket's new object has its bytes

  stored_parts : (object : ℕ) (t : Ticket) → stored_by object t ≡ true → (is_storing t.purpose ≡ true) × (object_of t.purpose ≡ object)
  stored_parts object t h = let p = and_parts (is_storing t.purpose) (object_of t.purpose == object) h in (p.0, eqb-true (object_of t.purpose) object p.1)

  pub stored_bytes : (t : Ticket) → Spent actor numbers c t → is_storing t.purpose ≡ true → next_contents (object_of t.purpose) ≡ t.bytes
  stored_bytes t s is = go (some_or_none (find (stored_by (object_of t.purpose)) (spent actor numbers c))) where
    same : (u : Ticket) → Spent actor numbers c u → stored_by (object_of t.purpose) u ≡ true → u ≡ t
    same u su h = let p = stored_parts (object_of t.purpose) u h in pick (pair_of bring_others c.tickets u t n.apart su.there s.there) p where
      pick : Pair bring_others u t → (is_storing u.purpose ≡ true) × (object_of u.purpose ≡ object_of t.purpose) → u ≡ t
      pick (inl e) p = e
      pick (inr (inl h)) p = absurd (same_stored u t p.0 is p.1 h)
      pick (inr (inr h)) p = absurd (same_stored t u is p.0 (sym p.1) h)

    passes : stored_by (object_of t.purpose) t ≡ true
    passes = ap (λ b. b && object_of t.purpose == object_of t.purpose) is ∙ eq-eqb (object_of t.purpose) (object_of t.purpose) refl

    go : ((u : Ticket) × (find (stored_by (object_of t.purpose)) (spent actor numbers c) ≡ Some u)) ⊎ (find (stored_by (object_of t.purpose)) (spent actor numbers c) ≡ None) → next_contents (object_of t.purpose) ≡ t.bytes
    go (inl found) =
        let f = found_passes (Spent actor numbers c) (stored_by (object_of t.purpose)) (spent actor numbers c) found.0 found.1 j.spends in
        ap (λ (o : Option Ticket). option_map_or (λ (u : Ticket). u.bytes) o (contents (object_of t.purpose))) found.1 ∙ ap (λ (u : Ticket). u.bytes) (same found.0 f.0 f.1)
    go (inr none) =
        absurd (false≢true (sym (contained_holds (λ u. stored_by (object_of t.purpose) u ≡ false) (spent actor numbers c) t s.one
        (none_found (stored_by (object_of t.purpose)) (spent actor numbers c) none)) ∙ passes))

  -- ---- what a database of the run has keeps its bytes

  pub same_bytes : (object k : ℕ) → is_some (version object (inv_at k c)) ≡ true → next_contents object ≡ contents object
  same_bytes object k there = go (some_or_none (find (stored_by object) (spent actor numbers c))) where
    go : ((u : Ticket) × (find (stored_by object) (spent actor numbers c) ≡ Some u)) ⊎ (find (stored_by object) (spent actor numbers c) ≡ None) → next_contents object ≡ contents object
    go (inl found) =
        let f = found_passes (Spent actor numbers c) (stored_by object) (spent actor numbers c) found.0 found.1 j.spends in
        let p = stored_parts object found.0 f.1 in
        let new = (drawn_spent found.0 f.0.there p.0).2 k in
        absurd (false≢true (sym (ap is_some (subst (λ o. version o (inv_at k c) ≡ None) p.1 new)) ∙ there))
    go (inr none) = ap (λ (o : Option Ticket). option_map_or (λ (u : Ticket). u.bytes) o (contents object)) none

  pub same_now : (object : ℕ) → is_some (version object now) ≡ true → next_contents object ≡ contents object
  same_now object there = same_bytes object (length c.journal) (subst (λ v. is_some (version object v) ≡ true) (sym (whole_at actor x numbers c)) there)

  -- ---- sizes

  sized_before : AllByRecursion (λ (w : Version). length (next_contents w.object) ≡ w.size) (versions now)
  sized_before =
      each_also (λ (w : Version). (length (contents w.object) ≡ w.size) × (is_some (version w.object now) ≡ true)) (λ (w : Version). length (next_contents w.object) ≡ w.size) (versions now)
      (λ w h. ap length (same_now w.object h.1) ∙ h.0)
      (each_two (λ (w : Version). length (contents w.object) ≡ w.size) (λ (w : Version). is_some (version w.object now) ≡ true) (versions now) g.sized (each_found now))

  bytes_of : (o : Known) (t : Ticket) → Spent actor numbers c t → IsStored t o → next_contents o.object ≡ t.bytes
  bytes_of o t s is = ap next_contents (sym is.object) ∙ stored_bytes t s is.is_new

  sized_new : AllByRecursion (λ (o : Known). length (next_contents o.object) ≡ o.size) (new_objects x)
  sized_new =
      each_also (λ (o : Known). (t : Ticket) × Spent actor numbers c t × IsStored t o) (λ (o : Known). length (next_contents o.object) ≡ o.size) (new_objects x)
      (λ o from. ap length (bytes_of o from.0 from.1 from.2) ∙ (is_whole from.0 from.1 ∙ from.2.size)) j.objects

  sized_behind : AllByRecursion (λ (w : Version). length (next_contents w.object) ≡ w.size) (versions (behind actor x numbers c))
  sized_behind = objects_behind (λ object size digest. length (next_contents object) ≡ size) x now sized_before sized_new

  -- ---- what tickets copied

  -- an object with this size fits, where it is the ticket's
  abbrev FitsOf : (object size : ℕ) → List ℕ → ℕ → ℕ → Type 0
  FitsOf object size bytes o s = o ≡ object → (size ≡ s) × (bytes ≡ take (length bytes) (next_contents object))

  front_kept : (object size : ℕ) (bytes : List ℕ) → WasThere c object → IfSome (version object now) (λ w. (size ≡ w.size) × (bytes ≡ take (length bytes) (contents object)))
      → IfSome (version object (behind actor x numbers c)) (λ w. (size ≡ w.size) × (bytes ≡ take (length bytes) (next_contents object)))
  front_kept object size bytes was front = go (some_or_none (version object (behind actor x numbers c))) where
    before : AllByRecursion (λ (w : Version). FitsOf object size bytes w.object w.size) (versions now)
    before = each_also (Contains (versions now)) (λ (w : Version). FitsOf object size bytes w.object w.size) (versions now) (λ w there named. fits w there named (some_or_none (version object now))) (each_contained (versions now)) where
      fits : (w : Version) → Contains (versions now) w → w.object ≡ object → ((u : Version) × (version object now ≡ Some u)) ⊎ (version object now ≡ None) → (size ≡ w.size) × (bytes ≡ take (length bytes) (next_contents object))
      fits w there named (inl found) =
          let is : (size ≡ found.0.size) × (bytes ≡ take (length bytes) (contents object)) = subst (λ o. IfSome o (λ w. (size ≡ w.size) × (bytes ≡ take (length bytes) (contents object)))) found.1 front in
          let one : w ≡ found.0 = found_is now w found.0 object (facts_of now (valid_now c l)).objects_apart there named found.1 in (
            is.0 ∙ ap (λ (y : Version). y.size) (sym one),
            is.1 ∙ ap (take (length bytes)) (sym (same_now object (ap is_some found.1))),
          )
      fits w there named (inr none) =
          absurd (false≢true (sym (ap is_some none) ∙ subst (λ o. is_some (version o now) ≡ true) named (contained_holds (λ (y : Version). is_some (version y.object now) ≡ true) (versions now) w there (each_found now))))

    new : AllByRecursion (λ (o : Known). FitsOf object size bytes o.object o.size) (new_objects x)
    new = each_also (λ (o : Known). (t : Ticket) × Spent actor numbers c t × IsStored t o) (λ (o : Known). FitsOf object size bytes o.object o.size) (new_objects x)
        (λ o from named.
        absurd (false≢true (sym (ap is_some (subst (λ q. version q (inv_at was.0 c) ≡ None) (from.2.object ∙ named) ((drawn_spent from.0 from.1.there from.2.is_new).2 was.0))) ∙ was.1))) j.objects

    all : AllByRecursion (λ (w : Version). FitsOf object size bytes w.object w.size) (versions (behind actor x numbers c))
    all = objects_behind (λ o s digest. FitsOf object size bytes o s) x now before new

    go : ((w : Version) × (version object (behind actor x numbers c) ≡ Some w)) ⊎ (version object (behind actor x numbers c) ≡ None)
        → IfSome (version object (behind actor x numbers c)) (λ w. (size ≡ w.size) × (bytes ≡ take (length bytes) (next_contents object)))
    go (inl found) =
        let f = found_passes (λ (w : Version). FitsOf object size bytes w.object w.size) (λ (w : Version). w.object == object) (versions (behind actor x numbers c)) found.0 found.1 all in
        subst (λ o. IfSome o (λ w. (size ≡ w.size) × (bytes ≡ take (length bytes) (next_contents object)))) (sym found.1) (f.0 (eqb-true found.0.object object f.1))
    go (inr none) = subst (λ o. IfSome o (λ w. (size ≡ w.size) × (bytes ≡ take (length bytes) (next_contents object)))) (sym none) tt

  fronts_kept : (p : Purpose) (size : ℕ) (bytes : List ℕ) → IsObject c p → IsFront contents now p size bytes → IsFront next_contents (behind actor x numbers c) p size bytes
  fronts_kept (storing object) size bytes is front = tt
  fronts_kept (copying object aim) size bytes is front = front_kept object size bytes is front

  pub bytes_joined : HasBytes next_contents (last actor x numbers c)
  bytes_joined = record {
    sized = subst (λ v. AllByRecursion (λ (w : Version). length (next_contents w.object) ≡ w.size) (versions v)) (sym (inventory_last actor x numbers c)) sized_behind;
    fronts =
        each_kept (λ t. IsFront next_contents (inventory (last actor x numbers c)) t.purpose t.size t.bytes) (λ t. not (is_among actor numbers t)) c.tickets
        (each_also (λ (t : Ticket). IsObject c t.purpose × IsFront contents now t.purpose t.size t.bytes) (λ t. IsFront next_contents (inventory (last actor x numbers c)) t.purpose t.size t.bytes) c.tickets
        (λ t h. subst (λ v. IsFront next_contents v t.purpose t.size t.bytes) (sym (inventory_last actor x numbers c)) (fronts_kept t.purpose t.size t.bytes h.0 h.1))
        (each_two (λ t. IsObject c t.purpose) (λ t. IsFront contents now t.purpose t.size t.bytes) c.tickets n.objects g.fronts));
  }

  -- ---- what is brought

  -- a copy's ticket has all of its object's bytes
  copied_bytes : (t : Ticket) (p : Purpose) → t.purpose ≡ p → is_storing p ≡ false → Spent actor numbers c t → is_some (version (object_of p) now) ≡ true → t.bytes ≡ next_contents (object_of p)
  copied_bytes t (storing object) is_p isnt s there = absurd (false≢true (sym isnt))
  copied_bytes t (copying object aim) is_p isnt s there = go (some_or_none (version object now)) where
    front : IfSome (version object now) (λ w. (t.size ≡ w.size) × (t.bytes ≡ take (length t.bytes) (contents object)))
    front = subst (λ p. IsFront contents now p t.size t.bytes) is_p (contained_holds (λ t. IsFront contents now t.purpose t.size t.bytes) c.tickets t s.there g.fronts)

    go : ((w : Version) × (version object now ≡ Some w)) ⊎ (version object now ≡ None) → t.bytes ≡ next_contents object
    go (inl found) =
        let is : (t.size ≡ found.0.size) × (t.bytes ≡ take (length t.bytes) (contents object)) = subst (λ o. IfSome o (λ w. (t.size ≡ w.size) × (t.bytes ≡ take (length t.bytes) (contents object)))) found.1 front in
        let f = found_passes (λ (w : Version). length (contents w.object) ≡ w.size) (λ (w : Version). w.object == object) (versions now) found.0 found.1 g.sized in
        let len : length (contents object) ≡ found.0.size = ap (λ o. length (contents o)) (sym (eqb-true found.0.object object f.1)) ∙ f.0 in
        let whole = is_whole t s in
        is.1 ∙ take_all (length t.bytes) (contents object) (omega (arith, whole, len, is.0)) ∙ sym (same_now object there)
    go (inr none) = absurd (false≢true (sym (ap is_some none) ∙ there))

  placed_bytes : (e : ℕ × List Segment) (t : Ticket) → Spent actor numbers c t → IsPlacedBy c t e → t.bytes ≡ next_contents e.0
  placed_bytes e t s is = go (is_storing t.purpose) refl is.kept where
    of_new : is_storing t.purpose ≡ true → t.bytes ≡ next_contents e.0
    of_new new = sym (stored_bytes t s new) ∙ ap next_contents is.object

    go : (b : Bool) → is_storing t.purpose ≡ b → (is_storing t.purpose ≡ true) ⊎ (is_some (version e.0 now) ≡ true) → t.bytes ≡ next_contents e.0
    go true new kept = of_new new
    go false old (inl new) = of_new new
    go false old (inr there) = copied_bytes t t.purpose refl old s (subst (λ o. is_some (version o now) ≡ true) (sym is.object) there) ∙ ap next_contents is.object

  pub brings : (h : History) (seats : List (ℕ × Seat)) → AllByRecursion (HasTaken seats h) c.tickets → BringsHave (InStore h) next_contents x
  brings h seats taken = record {
    objects =
        each_also (λ (o : Known). (t : Ticket) × Spent actor numbers c t × IsStored t o) (λ (o : Known). (length (next_contents o.object) ≡ o.size) × (o.digest.0 ≡ sha256 (next_contents o.object))) (new_objects x)
        (λ o from. (
          ap length (bytes_of o from.0 from.1 from.2) ∙ (is_whole from.0 from.1 ∙ from.2.size),
          from.2.digest ∙ ap sha256 (sym (bytes_of o from.0 from.1 from.2)),
        )) j.objects;
    copies =
        each_also (λ (e : ℕ × List Segment). (t : Ticket) × Spent actor numbers c t × IsPlacedBy c t e) (λ (e : ℕ × List Segment). FramesHave (InStore h) e.0 0 e.1 (next_contents e.0)) (placed_segments x)
        (λ e from.
        let t = from.0 in
        let firm : FramesHave (InStore h) (object_of t.purpose) 0 t.place.segments t.bytes = (contained_holds (HasTaken seats h) c.tickets t from.1.there taken).firm (inl from.1.is_sealed) in
        subst (λ o. FramesHave (InStore h) o 0 e.1 (next_contents e.0)) from.2.object
        (subst (λ s. FramesHave (InStore h) (object_of t.purpose) 0 s (next_contents e.0)) from.2.segments
        (subst (λ b. FramesHave (InStore h) (object_of t.purpose) 0 t.place.segments b) (placed_bytes e t from.1 from.2) firm))) j.places;
  }
