-- What is asked of a commit that nothing refuses may join.
use Rattle.std.proofs.Common.{◌≡◌, ◌⊎◌, inl, inr, ℕ, ◌<◌, ◌≤◌, ◌^◌, ◌&&◌, ◌||◌, Bool, true, false, List, [], ◌∷◌, ◌++◌, length, map, Option, None, Some, is_none, is_some, refl, sym, ap, subst, ◌∙◌, if◌then◌else◌, arith}
use Rattle.std.specs.Prelude.{◌==◌, nat_le}
use Rattle.std.specs.List.{AllByRecursion, Contains, flat_map, list_all, list_any}
use Rattle.std.specs.Option.{option_map_or}
use Rattle.std.proofs.lemmas.Bool.{and_from, and_parts, eq-eqb, eqb-true, false≢true, leb-true}
use Rattle.std.proofs.lemmas.Option.{same_Some}
use Rattle.sha2.specs.Sha256.{sha256}
use Rattle.kinds.specs.Names.{is_same_name}
use Rattle.kinds.specs.Refusals.{bad_value, unless}
use Rattle.kinds.specs.declared.refusal.Refusal.TheVariants as refusal
use Rattle.kinds.specs.declared.segment.Digest.{Digest}
use Rattle.kinds.specs.declared.segment.Segment.{Segment}
use Rattle.entries.specs.change_items.declared.items.MovedCopy.{MovedCopy}
use Rattle.entries.specs.change_items.declared.items.NewCopy.{NewCopy}
use Rattle.entries.specs.change_items.declared.items.NewHeldObject.{NewHeldObject}
use Rattle.entries.specs.change_items.declared.items.NewVersion.{NewVersion}
use Rattle.entries.specs.change_items.declared.items.ScratchVolume.{ScratchVolume}
use Rattle.entries.specs.EntryForm.{entry as entry_form}
use Rattle.entries.specs.declared.change.Change.{Change}
use Rattle.entries.specs.declared.change.Change.TheVariants as change
use Rattle.inventory.proofs.Nothing.{IsFree, is_free}
use Rattle.inventory_rows.specs.version_groups.Entries.{is_nil}
use Rattle.inventory_rows.specs.pool_tables.Rows.{row_at}
use Rattle.inventory_rows.specs.Search.{version}
use Rattle.inventory_rows.specs.State.{Inv}
use Rattle.inventory_rules.specs.Copies.{copied_refused, copy_list_refused, move_refused, moved_refused}
use Rattle.inventory_rules.specs.Journal.{Journal}
use Rattle.inventory_rules.specs.Run.{journal_of}
use Rattle.inventory_rules.specs.Segments.{scratch_refused}
use Rattle.inventory_rules.specs.Transactions.{causes, refused}
use Rattle.inventory_rules.specs.Versions.{name_once}
use Rattle.inventory_laws.specs.Origins.{Known, new_objects, placed_segments}
use Rattle.inventory_laws.proofs.Lists.{each_also}
use Rattle.inventory_laws.proofs.Origins.{contained_holds, each_contained}
use Rattle.inventory_laws.proofs.Removals.{version_there}
use Rattle.inventory_laws.proofs.Tests.{both_none, unless_holds}
use Rattle.steps.specs.declared.asked.Asked.{Asked}
use Rattle.steps.specs.declared.asked.Asked.TheVariants as asked
use Rattle.steps.specs.declared.asked.HeldItem.{HeldItem}
use Rattle.steps.specs.declared.asked.Item.{Item}
use Rattle.space.specs.declared.aim.Aim.TheVariants as aim
use Rattle.machine.specs.Causes.{are_there, asked_refused, change_refused, commit_refused, digest_refused, digests_refused, is_plain, listed, of_tickets, ticket_in_use}
use Rattle.machine.specs.Changes.{all_tickets, are_so_many, change_of, copy_from, filled, held_from, is_moved, move_from, new_files, once, paired, placed_change, scratch_of, version_from}
use Rattle.machine.specs.Machine.{asked_change, file_drawn, held_refused}
use Rattle.machine.specs.State.{Core, Purpose, Sight, Ticket, copying, digest_of, inventory, is_among, is_storing, object_of, own_tickets, sight, storing, ticket}
use Rattle.hall.specs.Covered.{IsDrawn, IsObject, IsVolume, NumbersAreDrawn, is_any_reuse}
use Rattle.hall.proofs.DrawnNext.{DrawsBelow}
use Rattle.hall.proofs.Joining.{IsDrawnFile, IsPlacedBy, IsStored, Joins, Spent, spent}
use Rattle.hall.proofs.Keeping.{is_ordinary, keeps_image, keeps_pools, keeps_volumes, plain_from}
use Rattle.hall.proofs.Pairs.{each_flat, each_map, each_passing, each_two, found_passes, some_or_none}
use Rattle.hall.proofs.VolumesStay.{BringsVolume, IsScratch}

-- ---- lists of causes

none_of_each : {X A : Type 0} (f : X → List A) (xs : List X) → flat_map f xs ≡ [] → AllByRecursion (λ x. f x ≡ []) xs
none_of_each f [] h = tt
none_of_each {X} {A} f (x ∷ xs) h = let p = both_nil (f x) (flat_map f xs) h in (p.0, none_of_each f xs p.1) where
  both_nil : (a b : List A) → a ++ b ≡ [] → (a ≡ []) × (b ≡ [])
  both_nil [] b h = (refl, h)
  both_nil (y ∷ a) b h = absurd cc

is_in : {X : Type 0} (p : X → Bool) (xs : List X) (x : X) → Contains xs x → p x ≡ true → list_any p xs ≡ true
is_in p xs x there is = contained_holds (λ y. p y ≡ true → list_any p xs ≡ true) xs x there (go p xs) is where
  go : {X : Type 0} (p : X → Bool) (xs : List X) → AllByRecursion (λ y. p y ≡ true → list_any p xs ≡ true) xs
  go p [] = tt
  go p (y ∷ xs) = ((λ is. ap (λ b. b || list_any p xs) is), each_also (λ z. p z ≡ true → list_any p xs ≡ true) (λ z. p z ≡ true → (p y || list_any p xs) ≡ true) xs (λ z f is. or_later (p y) (f is)) (go p xs)) where
    or_later : (b : Bool) {c : Bool} → c ≡ true → (b || c) ≡ true
    or_later true h = refl
    or_later false h = h

-- equal names
names_equal : (a b : List ℕ) → is_same_name a b ≡ true → a ≡ b
names_equal [] [] h = refl
names_equal [] (y ∷ b) h = absurd cc
names_equal (x ∷ a) [] h = absurd cc
names_equal (x ∷ a) (y ∷ b) h = let p = and_parts (x == y) (is_same_name a b) h in ap (λ n. n ∷ a) (eqb-true x y p.0) ∙ ap (λ l. y ∷ l) (names_equal a b p.1)

module _ (actor : ℕ) (numbers : List ℕ) (c : Core) where
  abbrev s : Sight
  s = sight actor c

  -- the actor's ticket with a number
  record IsOne (k : ℕ) (t : Ticket) : Type 0 where
    pub found : ticket k s.tickets ≡ Some t
    pub there : Contains c.tickets t
    pub among : is_among actor numbers t ≡ true
    pub is_sealed : t.is_sealed ≡ true

  one_of : (k : ℕ) → Contains numbers k → is_some (ticket k s.tickets) ≡ true → option_map_or (λ (t : Ticket). unless t.is_sealed (ticket_in_use t.number)) (ticket k s.tickets) [] ≡ [] → (t : Ticket) × IsOne k t
  one_of k within there sealed = go (some_or_none (ticket k s.tickets)) where
    go : ((t : Ticket) × (ticket k s.tickets ≡ Some t)) ⊎ (ticket k s.tickets ≡ None) → (t : Ticket) × IsOne k t
    go (inl found) =
        let f = found_passes (λ (t : Ticket). Contains c.tickets t × ((t.actor == actor) ≡ true)) (λ (t : Ticket). t.number == k) s.tickets found.0 found.1
        (each_passing (Contains c.tickets) (λ (t : Ticket). t.actor == actor) c.tickets (each_contained c.tickets)) in (
          found.0,
          record {
            found = found.1;
            there = f.0.0;
            among = and_from (found.0.actor == actor) (list_any (λ n. n == found.0.number) numbers) f.0.1
                (is_in (λ n. n == found.0.number) numbers k within (eq-eqb k found.0.number (sym (eqb-true found.0.number k f.1))));
            is_sealed = unless_holds found.0.is_sealed (ticket_in_use found.0.number) (subst (λ o. option_map_or (λ (t : Ticket). unless t.is_sealed (ticket_in_use t.number)) o [] ≡ []) found.1 sealed);
          },
        )
    go (inr none) = absurd (false≢true (sym (ap is_some none) ∙ there))

  abbrev Ones : List ℕ → Type 0
  Ones ks = AllByRecursion (λ k. (t : Ticket) × IsOne k t) ks

  all_ones : are_there numbers s ≡ [] → of_tickets (λ (t : Ticket). unless t.is_sealed (ticket_in_use t.number)) numbers s ≡ [] → Ones numbers
  all_ones there sealed =
      each_also (λ k. Contains numbers k × ((is_some (ticket k s.tickets) ≡ true) × (option_map_or (λ (t : Ticket). unless t.is_sealed (ticket_in_use t.number)) (ticket k s.tickets) [] ≡ []))) (λ k. (t : Ticket) × IsOne k t) numbers
      (λ k h. one_of k h.0 h.1.0 h.1.1)
      (each_two (Contains numbers) (λ k. (is_some (ticket k s.tickets) ≡ true) × (option_map_or (λ (t : Ticket). unless t.is_sealed (ticket_in_use t.number)) (ticket k s.tickets) [] ≡ [])) numbers (each_contained numbers)
      (each_two (λ k. is_some (ticket k s.tickets) ≡ true) (λ k. option_map_or (λ (t : Ticket). unless t.is_sealed (ticket_in_use t.number)) (ticket k s.tickets) [] ≡ []) numbers
      (each_also (λ k. unless (is_some (ticket k s.tickets)) refusal.NotFound ≡ []) (λ k. is_some (ticket k s.tickets) ≡ true) numbers (λ k h. unless_holds (is_some (ticket k s.tickets)) refusal.NotFound h)
      (none_of_each (λ k. unless (is_some (ticket k s.tickets)) refusal.NotFound) numbers there))
      (none_of_each (λ k. option_map_or (λ (t : Ticket). unless t.is_sealed (ticket_in_use t.number)) (ticket k s.tickets) []) numbers sealed)))

  -- the tickets are those
  tickets_are : (k : ℕ) (ks : List ℕ) (t : Ticket) → IsOne k t → all_tickets (k ∷ ks) s ≡ t ∷ all_tickets ks s
  tickets_are k ks t one = ap (λ o. option_map_or (λ (t : Ticket). t ∷ []) o [] ++ all_tickets ks s) one.found

  each_ticket : (ks : List ℕ) → Ones ks → AllByRecursion (λ t. (Contains c.tickets t × (is_among actor numbers t ≡ true)) × (t.is_sealed ≡ true)) (all_tickets ks s)
  each_ticket [] ones = tt
  each_ticket (k ∷ ks) ones =
      subst (AllByRecursion (λ t. (Contains c.tickets t × (is_among actor numbers t ≡ true)) × (t.is_sealed ≡ true))) (sym (tickets_are k ks ones.0.0 ones.0.1))
      (((ones.0.1.there, ones.0.1.among), ones.0.1.is_sealed), each_ticket ks ones.1)

  abbrev SpentOne : Ticket → Type 0
  SpentOne t = Spent actor numbers c t

  all_spent : Ones numbers → AllByRecursion SpentOne (spent actor numbers c)
  all_spent ones =
      each_also (λ t. Contains (spent actor numbers c) t × ((Contains c.tickets t × (is_among actor numbers t ≡ true)) × (t.is_sealed ≡ true))) SpentOne (spent actor numbers c)
      (λ t h. record { one = h.0; there = h.1.0.0; among = h.1.0.1; is_sealed = h.1.1 })
      (each_two (Contains (spent actor numbers c)) (λ t. (Contains c.tickets t × (is_among actor numbers t ≡ true)) × (t.is_sealed ≡ true)) (spent actor numbers c) (each_contained (spent actor numbers c)) (each_ticket numbers ones))

  -- ---- what comes of items and tickets

  module _ {A B : Type 0} (f : A → Ticket → B) (digest : A → Digest) (Q : B → Type 0)
      (makes : (i : A) (t : Ticket) → SpentOne t → is_storing t.purpose ≡ true → (digest i).0 ≡ sha256 t.bytes → Q (f i t)) where
    each_paired : (items : List A) (ks : List ℕ) → Ones ks → AllByRecursion SpentOne (all_tickets ks s) → digests_refused (map digest items) ks s ≡ []
        → of_tickets (λ (t : Ticket). unless (is_storing t.purpose) bad_value) ks s ≡ [] → AllByRecursion Q (paired f items (all_tickets ks s))
    each_paired [] ks ones spends digests new = tt
    each_paired (i ∷ items) [] ones spends digests new = tt
    each_paired (i ∷ items) (k ∷ ks) ones spends digests new =
        let t = ones.0.0 in
        let one = ones.0.1 in
        let d = both_none (digest_refused (digest i) (ticket k s.tickets)) (digests_refused (map digest items) ks s) digests in
        let p = both_none (option_map_or (λ (t : Ticket). unless (is_storing t.purpose) bad_value) (ticket k s.tickets) []) (of_tickets (λ (t : Ticket). unless (is_storing t.purpose) bad_value) ks s) new in
        let mine : AllByRecursion SpentOne (t ∷ all_tickets ks s) = subst (AllByRecursion SpentOne) (tickets_are k ks t one) spends in
        let stores : is_storing t.purpose ≡ true = unless_holds (is_storing t.purpose) bad_value (subst (λ o. option_map_or (λ (t : Ticket). unless (is_storing t.purpose) bad_value) o [] ≡ []) one.found p.0) in
        let same : is_same_name (digest_of t).0 (digest i).0 ≡ true = unless_holds (is_same_name (digest_of t).0 (digest i).0) (refusal.DigestDiffers (digest_of t) (digest i))
        (subst (λ o. digest_refused (digest i) o ≡ []) one.found d.0) in
        subst (λ l. AllByRecursion Q (paired f (i ∷ items) l)) (sym (tickets_are k ks t one))
        (makes i t mine.0 stores (sym (names_equal (digest_of t).0 (digest i).0 same)), each_paired items ks ones.1 mine.1 d.1 p.1)

  -- ---- scratch volumes

  abbrev IsOfTicket : ScratchVolume → Type 0
  IsOfTicket v = (t : Ticket) × SpentOne t × (r : Segment) × Contains t.place.segments r × (r.file ≡ v.file) × (t.place.pool ≡ v.pool)

  each_once : (seen : List ℕ) (volumes : List ScratchVolume) → AllByRecursion IsOfTicket volumes → AllByRecursion IsOfTicket (once seen volumes)
  each_once seen [] h = tt
  each_once seen (v ∷ volumes) h = elim (list_any (λ file. file == v.file) seen) as (λ b. AllByRecursion IsOfTicket (if b then once seen volumes else v ∷ once (v.file ∷ seen) volumes)) [
    | true ↦ each_once seen volumes h.1
    | false ↦ (h.0, each_once (v.file ∷ seen) volumes h.1)
  ]

  each_new_file : (v : Inv) (t : Ticket) → SpentOne t → AllByRecursion IsOfTicket (new_files v t)
  each_new_file v t spends =
      each_flat IsOfTicket (λ (r : Segment). if is_none (row_at r.file v.stores.volumes) then record { pool = t.place.pool; file = r.file } ∷ [] else []) t.place.segments
      (each_also (Contains t.place.segments) (λ (r : Segment). AllByRecursion IsOfTicket (if is_none (row_at r.file v.stores.volumes) then record { pool = t.place.pool; file = r.file } ∷ [] else [])) t.place.segments
      (λ r within. elim (is_none (row_at r.file v.stores.volumes)) as (λ b. AllByRecursion IsOfTicket (if b then record { pool = t.place.pool; file = r.file } ∷ [] else [])) [
        | true ↦ ((t, spends, r, within, refl, refl), tt)
        | false ↦ tt
      ]) (each_contained t.place.segments))

  each_scratch : (v : Inv) → AllByRecursion SpentOne (spent actor numbers c) → AllByRecursion IsOfTicket (scratch_of v (spent actor numbers c))
  each_scratch v spends = each_once [] (flat_map (new_files v) (spent actor numbers c)) (each_flat IsOfTicket (new_files v) (spent actor numbers c) (each_also SpentOne (λ t. AllByRecursion IsOfTicket (new_files v t)) (spent actor numbers c) (each_new_file v) spends))

  of_scratch : (scratch : List ScratchVolume) → AllByRecursion IsOfTicket scratch → (file pool : ℕ) → IsScratch file pool scratch → IsDrawnFile actor numbers c file pool
  of_scratch [] all file pool is = absurd is
  of_scratch (v ∷ scratch) all file pool (inl is) = inr (all.0.0, all.0.1, all.0.2, all.0.3, all.0.4 ∙ is.0, all.0.5 ∙ is.1)
  of_scratch (v ∷ scratch) all file pool (inr is) = of_scratch scratch all.1 file pool is

  scratch_below : NumbersAreDrawn c → (scratch : List ScratchVolume) → AllByRecursion IsOfTicket scratch → AllByRecursion (λ (v : ScratchVolume). v.file < c.next_file) scratch
  scratch_below n scratch all =
      each_also IsOfTicket (λ (v : ScratchVolume). v.file < c.next_file) scratch
      (λ v from. subst (λ f. f < c.next_file) from.4 (contained_holds (λ r. IsVolume c r.file) from.0.place.segments from.2 from.3
      (contained_holds (λ t. AllByRecursion (λ r. IsVolume c r.file) t.place.segments) c.tickets from.0 from.1.there n.files)).1) all

  drawn_of : (p : Purpose) → IsObject c p → is_storing p ≡ true → IsDrawn c (object_of p)
  drawn_of (storing object) d is = d
  drawn_of (copying object aim) d is = absurd (false≢true is)

  object_below : NumbersAreDrawn c → (t : Ticket) → SpentOne t → is_storing t.purpose ≡ true → object_of t.purpose < c.next_object
  object_below n t spends is = (drawn_of t.purpose (contained_holds (λ t. IsObject c t.purpose) c.tickets t spends.there n.objects) is).1

  -- ---- the pieces of a transaction, by kind

  -- what has to be known beside what the tests of a commit say
  record Pieces (x : Change) : Type 0 where
    pub plain : is_any_reuse x ≡ false
    pub ordinary : is_ordinary x ≡ true
    pub objects : AllByRecursion (λ o. (t : Ticket) × SpentOne t × IsStored t o) (new_objects x)
    pub places : AllByRecursion (λ e. (t : Ticket) × SpentOne t × IsPlacedBy c t e) (placed_segments x)
    pub files : (file pool : ℕ) → BringsVolume file pool x → IsDrawnFile actor numbers c file pool
    pub draws : DrawsBelow (file_drawn x c.next_file) c.next_object x
    pub further : c.next_file ≤ file_drawn x c.next_file
    pub bound : file_drawn x c.next_file < 2 ^ 32

  abbrev NewOf : NewVersion → Type 0
  NewOf i = (t : Ticket) × SpentOne t × IsStored t (record { object = i.object; size = i.size; digest = i.digest }) × IsPlacedBy c t (i.object, i.segments) × (i.object < c.next_object)

  abbrev HeldOf : NewHeldObject → Type 0
  HeldOf i = (t : Ticket) × SpentOne t × IsStored t (record { object = i.object; size = i.size; digest = i.digest }) × IsPlacedBy c t (i.object, i.segments) × (i.object < c.next_object)

  module _ (n : NumbersAreDrawn c) (spends : AllByRecursion SpentOne (spent actor numbers c)) where
    of_backup : (filespace : ℕ) (scratch : List ScratchVolume) (items : List NewVersion) → AllByRecursion IsOfTicket scratch → AllByRecursion NewOf items
        → Pieces (change.Backup (record { filespace = filespace; scratch = scratch; items = items }))
    of_backup filespace scratch items volumes new = record {
      plain = refl;
      ordinary = refl;
      objects = each_map (λ (o : Known). (t : Ticket) × SpentOne t × IsStored t o) (λ (i : NewVersion). record { object = i.object; size = i.size; digest = i.digest }) items
          (each_also NewOf (λ (i : NewVersion). (t : Ticket) × SpentOne t × IsStored t (record { object = i.object; size = i.size; digest = i.digest })) items (λ i h. (h.0, h.1, h.2)) new);
      places = each_map (λ (e : ℕ × List Segment). (t : Ticket) × SpentOne t × IsPlacedBy c t e) (λ (i : NewVersion). (i.object, i.segments)) items
          (each_also NewOf (λ (i : NewVersion). (t : Ticket) × SpentOne t × IsPlacedBy c t (i.object, i.segments)) items (λ i h. (h.0, h.1, h.3)) new);
      files = of_scratch scratch volumes;
      draws = (scratch_below n scratch volumes, each_also NewOf (λ (i : NewVersion). i.object < c.next_object) items (λ i h. h.4) new);
      further = omega arith;
      bound = n.bounds.0;
    }

    of_hold : (filespace : ℕ) (scratch : List ScratchVolume) (items : List NewHeldObject) → AllByRecursion IsOfTicket scratch → AllByRecursion HeldOf items
        → Pieces (change.Hold (record { filespace = filespace; scratch = scratch; items = items }))
    of_hold filespace scratch items volumes new = record {
      plain = refl;
      ordinary = refl;
      objects = each_map (λ (o : Known). (t : Ticket) × SpentOne t × IsStored t o) (λ (i : NewHeldObject). record { object = i.object; size = i.size; digest = i.digest }) items
          (each_also HeldOf (λ (i : NewHeldObject). (t : Ticket) × SpentOne t × IsStored t (record { object = i.object; size = i.size; digest = i.digest })) items (λ i h. (h.0, h.1, h.2)) new);
      places = each_map (λ (e : ℕ × List Segment). (t : Ticket) × SpentOne t × IsPlacedBy c t e) (λ (i : NewHeldObject). (i.object, i.segments)) items
          (each_also HeldOf (λ (i : NewHeldObject). (t : Ticket) × SpentOne t × IsPlacedBy c t (i.object, i.segments)) items (λ i h. (h.0, h.1, h.3)) new);
      files = of_scratch scratch volumes;
      draws = (scratch_below n scratch volumes, each_also HeldOf (λ (i : NewHeldObject). i.object < c.next_object) items (λ i h. h.4) new);
      further = omega arith;
      bound = n.bounds.0;
    }

    -- a copy is of an object that is there
    abbrev CopyOf : (object : ℕ) → List Segment → Type 0
    CopyOf object segments = (t : Ticket) × SpentOne t × (object_of t.purpose ≡ object) × (t.place.segments ≡ segments)

    of_placed : (object : ℕ) (segments : List Segment) → CopyOf object segments → is_some (version object (inventory c)) ≡ true → (t : Ticket) × SpentOne t × IsPlacedBy c t (object, segments)
    of_placed object segments from there = (from.0, from.1, record { object = from.2; segments = from.3; kept = inr there })

    of_move : (j : Journal) (scratch : List ScratchVolume) (items : List MovedCopy) → AllByRecursion IsOfTicket scratch → AllByRecursion (λ (i : MovedCopy). CopyOf i.object i.segments) items
        → causes j (change.Move (record { scratch = scratch; items = items })) (inventory c) ≡ [] → Pieces (change.Move (record { scratch = scratch; items = items }))
    of_move j scratch items volumes from cause = record {
      plain = refl;
      ordinary = refl;
      objects = tt;
      places = each_map (λ (e : ℕ × List Segment). (t : Ticket) × SpentOne t × IsPlacedBy c t e) (λ (i : MovedCopy). (i.object, i.segments)) items
          (each_also (λ (i : MovedCopy). CopyOf i.object i.segments × (moved_refused j (inventory c) i ≡ [])) (λ (i : MovedCopy). (t : Ticket) × SpentOne t × IsPlacedBy c t (i.object, i.segments)) items
          (λ i h. of_placed i.object i.segments h.0 (ap is_some (version_there j i.object _ (inventory c) (version i.object (inventory c)) refl h.1).1))
          (each_two (λ (i : MovedCopy). CopyOf i.object i.segments) (λ (i : MovedCopy). moved_refused j (inventory c) i ≡ []) items from
          (none_of_each (moved_refused j (inventory c)) items (both_none (unless (name_once (map (λ (i : MovedCopy). i.object) items)) bad_value) _ (both_none (move_refused j items (inventory c)) (scratch_refused scratch (inventory c)) cause).0).1)));
      files = of_scratch scratch volumes;
      draws = scratch_below n scratch volumes;
      further = omega arith;
      bound = n.bounds.0;
    }

    of_copy : (j : Journal) (scratch : List ScratchVolume) (items : List NewCopy) → AllByRecursion IsOfTicket scratch → AllByRecursion (λ (i : NewCopy). CopyOf i.object i.segments) items
        → causes j (change.Copy (record { scratch = scratch; items = items })) (inventory c) ≡ [] → Pieces (change.Copy (record { scratch = scratch; items = items }))
    of_copy j scratch items volumes from cause = record {
      plain = refl;
      ordinary = refl;
      objects = tt;
      places = each_map (λ (e : ℕ × List Segment). (t : Ticket) × SpentOne t × IsPlacedBy c t e) (λ (i : NewCopy). (i.object, i.segments)) items
          (each_also (λ (i : NewCopy). CopyOf i.object i.segments × (copied_refused j (inventory c) i ≡ [])) (λ (i : NewCopy). (t : Ticket) × SpentOne t × IsPlacedBy c t (i.object, i.segments)) items
          (λ i h. of_placed i.object i.segments h.0 (ap is_some (version_there j i.object _ (inventory c) (version i.object (inventory c)) refl h.1).1))
          (each_two (λ (i : NewCopy). CopyOf i.object i.segments) (λ (i : NewCopy). copied_refused j (inventory c) i ≡ []) items from
          (none_of_each (copied_refused j (inventory c)) items (both_none (unless (name_once (map (λ (i : NewCopy). i.object) items)) bad_value) _ (both_none (copy_list_refused j items (inventory c)) (scratch_refused scratch (inventory c)) cause).0).1)));
      files = of_scratch scratch volumes;
      draws = scratch_below n scratch volumes;
      further = omega arith;
      bound = n.bounds.0;
    }

    moved_item : (t : Ticket) → SpentOne t → (p : Purpose) → t.purpose ≡ p → AllByRecursion (λ (i : MovedCopy). CopyOf i.object i.segments) (move_from t p)
    moved_item t one (storing object) is = tt
    moved_item t one (copying object (aim.New pool)) is = tt
    moved_item t one (copying object (aim.Copy pool)) is = tt
    moved_item t one (copying object (aim.Move from placed to along)) is = ((t, one, ap object_of is, refl), tt)

    -- ---- by what is asked

    as_placed : (j : Journal) (x : Change) → x ≡ placed_change (inventory c) (spent actor numbers c) → causes j x (inventory c) ≡ [] → Pieces x
    as_placed j x is cause =
        let scratch = scratch_of (inventory c) (spent actor numbers c) in
        let volumes = each_scratch (inventory c) spends in
        subst Pieces (sym is)
        (elim (list_all is_moved (spent actor numbers c)) as
        (λ b. causes j (if b then change.Move (record { scratch = scratch; items = flat_map (λ t. move_from t t.purpose) (spent actor numbers c) }) else change.Copy (record { scratch = scratch; items = map copy_from (spent actor numbers c) })) (inventory c) ≡ []
        → Pieces (if b then change.Move (record { scratch = scratch; items = flat_map (λ t. move_from t t.purpose) (spent actor numbers c) }) else change.Copy (record { scratch = scratch; items = map copy_from (spent actor numbers c) }))) [
          | true ↦ λ cause. of_move j scratch (flat_map (λ t. move_from t t.purpose) (spent actor numbers c)) volumes
              (each_flat (λ (i : MovedCopy). CopyOf i.object i.segments) (λ t. move_from t t.purpose) (spent actor numbers c)
              (each_also SpentOne (λ t. AllByRecursion (λ (i : MovedCopy). CopyOf i.object i.segments) (move_from t t.purpose)) (spent actor numbers c) (λ t one. moved_item t one t.purpose refl) spends)) cause
          | false ↦ λ cause. of_copy j scratch (map copy_from (spent actor numbers c)) volumes
              (each_map (λ (i : NewCopy). CopyOf i.object i.segments) copy_from (spent actor numbers c) (each_also SpentOne (λ t. CopyOf (object_of t.purpose) t.place.segments) (spent actor numbers c) (λ t one. (t, one, refl, refl)) spends)) cause
        ] (subst (λ y. causes j y (inventory c) ≡ []) is cause))

    -- where a test has to hold for there to be a change
    if_some_is : {A : Type 0} (b : Bool) (y x : A) → (if b then Some y else None) ≡ Some x → x ≡ y
    if_some_is true y x h = sym (same_Some y x h)
    if_some_is false y x h = absurd cc

    pieces : (asked : Asked) (x : Change) (j : Journal) → Ones numbers → change_of asked numbers s ≡ Some x → asked_refused asked numbers s ≡ [] → causes j x (inventory c) ≡ [] → Pieces x
    pieces (asked.Plain ch) x j ones is fits cause =
        let p = plain_from c.next_file (inventory c) ch (and_parts (is_nil numbers) (is_plain ch) (unless_holds (is_nil numbers && is_plain ch) bad_value fits)).1 in
        let same : filled c.next_file (inventory c) ch ≡ x = same_Some (filled c.next_file (inventory c) ch) x is in
        subst Pieces same (record {
          plain = p.reuse;
          ordinary = p.ordinary;
          objects = subst (λ l. AllByRecursion (λ o. (t : Ticket) × SpentOne t × IsStored t o) l) (sym p.objects) tt;
          places = subst (λ l. AllByRecursion (λ e. (t : Ticket) × SpentOne t × IsPlacedBy c t e) l) (sym p.places) tt;
          files = λ file pool brings. inl (p.files file pool brings);
          draws = p.draws c.next_object;
          further = p.further;
          bound = p.bound j (subst (λ y. causes j y (inventory c) ≡ []) (sym same) cause) n.bounds.0;
        })
    pieces (asked.Backup filespace items) x j ones is fits cause =
        let parts = both_none (unless (length (map (λ (i : Item). i.digest) items) == length numbers) bad_value) _ fits in
        let rest = both_none (of_tickets (λ (t : Ticket). unless (is_storing t.purpose) bad_value) numbers s) (digests_refused (map (λ (i : Item). i.digest) items) numbers s) parts.1 in
        subst Pieces (sym (if_some_is (are_so_many (length items) numbers s) _ x is))
        (of_backup filespace (scratch_of (inventory c) (spent actor numbers c)) (paired version_from items (spent actor numbers c)) (each_scratch (inventory c) spends)
        (each_paired version_from (λ (i : Item). i.digest) NewOf
        (λ i t one stores same. (
          t,
          one,
          record { is_new = stores; object = refl; size = refl; digest = same },
          record { object = refl; segments = refl; kept = inl stores },
          object_below n t one stores,
        )) items numbers ones spends rest.1 rest.0))
    pieces (asked.Hold filespace items) x j ones is fits cause =
        let parts = both_none (unless (length (map (λ (i : HeldItem). i.digest) items) == length numbers) bad_value) _ fits in
        let rest = both_none (of_tickets (λ (t : Ticket). unless (is_storing t.purpose) bad_value) numbers s) (digests_refused (map (λ (i : HeldItem). i.digest) items) numbers s) parts.1 in
        subst Pieces (sym (if_some_is (are_so_many (length items) numbers s) _ x is))
        (of_hold filespace (scratch_of (inventory c) (spent actor numbers c)) (paired held_from items (spent actor numbers c)) (each_scratch (inventory c) spends)
        (each_paired held_from (λ (i : HeldItem). i.digest) HeldOf
        (λ i t one stores same. (
          t,
          one,
          record { is_new = stores; object = refl; size = refl; digest = same },
          record { object = refl; segments = refl; kept = inl stores },
          object_below n t one stores,
        )) items numbers ones spends rest.1 rest.0))
    pieces asked.Placed x j ones is fits cause = as_placed j x (if_some_is _ (placed_change (inventory c) (spent actor numbers c)) x is) cause

  -- what is asked and isn't refused joins
  pub joins_of : (asked : Asked) (x : Change) → NumbersAreDrawn c → asked_change actor asked numbers c ≡ Some x → commit_refused actor asked numbers s ≡ [] → held_refused x c ≡ [] → Joins actor x numbers c × (is_any_reuse x ≡ false) × (is_ordinary x ≡ true)
  joins_of asked x n is fits held =
      let one = both_none (are_there numbers s) _ fits in
      let two = both_none (unless (name_once numbers && nat_le (length numbers) 256) bad_value) _ one.1 in
      let three = both_none (asked_refused asked numbers s) _ two.1 in
      let four = both_none (of_tickets (λ (t : Ticket). unless t.is_sealed (ticket_in_use t.number)) numbers s) (change_refused actor (change_of asked numbers s) s) three.1 in
      let legal : refused (journal_of c.base c.journal) x (inventory c) ≡ None = legal_of x (subst (λ o. change_refused actor o s ≡ []) is four.1) in
      let free : IsFree (journal_of c.base c.journal) x (inventory c) = is_free (journal_of c.base c.journal) x (inventory c) legal in
      let ones = all_ones one.0 four.0 in
      let spends = all_spent ones in
      let p = pieces n spends asked x (journal_of c.base c.journal) ones is three.0 free.causes in (
        record {
          legal = legal;
          once = (and_parts (name_once numbers) (nat_le (length numbers) 256) (unless_holds (name_once numbers && nat_le (length numbers) 256) bad_value two.0)).0;
          there = each_also (λ k. (t : Ticket) × IsOne k t) (λ k. is_some (ticket k (own_tickets actor c.tickets)) ≡ true) numbers (λ k h. ap is_some h.1.found) ones;
          spends = spends;
          objects = p.objects;
          places = p.places;
          pools = keeps_pools c x held;
          volumes = keeps_volumes c (journal_of c.base c.journal) x held free.causes p.ordinary n.files;
          image = keeps_image c x held p.ordinary;
          files = p.files;
          draws = p.draws;
          bound = p.bound;
          further = p.further;
          short = short_of x (subst (λ o. change_refused actor o s ≡ []) is four.1);
        },
        p.plain,
        p.ordinary,
      )
    where
      none_listed : {A : Type 0} (o : Option A) (rest : List A) → listed o ++ rest ≡ [] → o ≡ None
      none_listed None rest h = refl
      none_listed (Some e) rest h = absurd cc

      legal_of : (x : Change) → change_refused actor (Some x) s ≡ [] → refused (journal_of c.base c.journal) x (inventory c) ≡ None
      legal_of x h = none_listed (refused (journal_of c.base c.journal) x (inventory c)) _ h

      short_of : (x : Change) → change_refused actor (Some x) s ≡ [] → length (entry_form.spell (record { actor = actor; change = x })) ≤ 2 ^ 24
      short_of x h =
          let long : ℕ = length (entry_form.spell (record { actor = actor; change = x })) in
          leb-true long (2 ^ 24) (unless_holds (nat_le long (2 ^ 24)) refusal.RecordFull (both_none (listed (refused (journal_of c.base c.journal) x (inventory c))) (unless (nat_le long (2 ^ 24)) refusal.RecordFull) h).1)
