-- Numbers, behind a transaction that joined.
use Rattle.std.proofs.Common.{◌≡◌, inl, inr, ℕ, ◌<◌, ◌≤◌, ◌&&◌, Bool, true, false, not, List, [], length, Option, None, Some, is_none, is_some, refl, sym, ap, subst, ◌∙◌, arith}
use Rattle.std.specs.Prelude.{◌==◌}
use Rattle.std.specs.List.{AllByRecursion, Contains}
use Rattle.std.specs.Option.{option_map}
use Rattle.std.proofs.lemmas.Bool.{cases_lt, eq-eqb, false≢true}
use Rattle.std.proofs.lemmas.Option.{same_Some}
use Rattle.kinds.specs.declared.segment.Segment.{Segment}
use Rattle.entries.specs.declared.change.Change.{Change}
use Rattle.inventory_rows.specs.volume_rows.declared.volume.Volume.{Volume}
use Rattle.inventory_rows.specs.pool_tables.Rows.{row_at}
use Rattle.inventory_rows.specs.Search.{pool, version}
use Rattle.inventory_rows.specs.State.{Inv}
use Rattle.inventory_rules.specs.Backups.{backup_at}
use Rattle.inventory_rules.specs.Facts.{Facts}
use Rattle.inventory_rules.specs.Run.{journal_of}
use Rattle.inventory_rules.specs.Transactions.{causes}
use Rattle.inventory_laws.specs.Origins.{Known, new_objects}
use Rattle.inventory_laws.specs.Rising.{DrawsOn}
use Rattle.inventory_laws.proofs.Absent.{none_is as is_nothing}
use Rattle.inventory_laws.proofs.Facts.{facts_of}
use Rattle.inventory_laws.proofs.Lists.{each_also}
use Rattle.inventory_laws.proofs.Origins.{each_contained}
use Rattle.inventory_laws.proofs.Rising.{draws_on}
use Rattle.machine.specs.Machine.{file_drawn}
use Rattle.machine.specs.State.{Core, Purpose, Ticket, copying, inventory, is_among, is_storing, object_of, storing, without}
use Rattle.hall.specs.Covered.{IsDrawn, IsInPool, IsNew, IsNewFile, IsObject, IsVolume, LiesIn, NoneComesBack, NeverBackup, NumbersAreDrawn, SpaceIsClear, WasThere, bring_others, inv_at, is_later}
use Rattle.hall.specs.Good.{IsLawful}
use Rattle.hall.proofs.Brought.{not_again}
use Rattle.hall.proofs.ComeFrom.{no_version, objects_behind, version_none}
use Rattle.hall.proofs.DrawnNext.{KeepsBackup, backup_so, draws_below}
use Rattle.hall.proofs.Joining.{IsDrawnFile, IsStored, Joins, Spent, all_of_it, behind, free_of, inv_before, inv_behind, inventory_last, last, valid_now, whole_at}
use Rattle.hall.proofs.Lists.{each_kept, later_kept}
use Rattle.hall.proofs.Pairs.{Pair, each_passing, each_two, none_is, pair_of}
use Rattle.hall.proofs.PoolsStay.{KeepsPool, pool_alike}
use Rattle.hall.proofs.SamePool.{same_pool}
use Rattle.hall.proofs.VolumesStay.{KeepsVolume, in_inv, volume_new, volume_stays}

module _ (actor : ℕ) (x : Change) (numbers : List ℕ) (c : Core) (l : IsLawful c) (j : Joins actor x numbers c) (n : NumbersAreDrawn c) (space : SpaceIsClear c) where
  abbrev now : Inv
  now = inventory c

  facts : Facts now
  facts = facts_of now (valid_now c l)

  abbrev stays : Ticket → Bool
  stays t = not (is_among actor numbers t)

  abbrev kept : List Ticket
  kept = without actor numbers c.tickets

  -- ---- all databases of the run

  pub each_inv : (P : Inv → Type 0) → ((k : ℕ) → P (inv_at k c)) → P (behind actor x numbers c) → (k : ℕ) → P (inv_at k (last actor x numbers c))
  each_inv P all new k = elim (cases_lt (length c.journal) k) as (λ _. P (inv_at k (last actor x numbers c))) [
    | inl lt ↦ subst P (sym (inv_behind actor x numbers c k lt)) new
    | inr le ↦ subst P (sym (inv_before actor x numbers c k le)) (all k)
  ]

  was_there : (object : ℕ) → WasThere c object → WasThere (last actor x numbers c) object
  was_there object w = elim (cases_lt (length c.journal) w.0) as (λ _. WasThere (last actor x numbers c) object) [
    | inl lt ↦ (length c.journal, subst (λ v. is_some (version object v) ≡ true) (late lt ∙ sym (inv_before actor x numbers c (length c.journal) (omega arith))) w.1)
    | inr le ↦ (w.0, subst (λ v. is_some (version object v) ≡ true) (sym (inv_before actor x numbers c w.0 le)) w.1)
  ]
    where
      late : length c.journal < w.0 → inv_at w.0 c ≡ inv_at (length c.journal) c
      late lt = all_of_it c w.0 (omega (arith, lt)) ∙ sym (whole_at actor x numbers c)

  -- ---- objects

  -- a ticket that is kept and one that is spent bring different objects
  others : (u t : Ticket) → Contains c.tickets u → is_among actor numbers u ≡ false → Spent actor numbers c t → is_storing u.purpose ≡ true → is_storing t.purpose ≡ true
      → object_of u.purpose ≡ object_of t.purpose → ⊥
  others u t there isnt s new_u new_t same = go (pair_of bring_others c.tickets u t n.apart there s.there) where
    differ : (a b : Ticket) → is_storing a.purpose ≡ true → is_storing b.purpose ≡ true → object_of a.purpose ≡ object_of b.purpose → bring_others a b ≡ true → ⊥
    differ a b sa sb e h =
        let clash : bring_others a b ≡ false =
        ap (λ p. not (p && (is_storing b.purpose && object_of a.purpose == object_of b.purpose))) sa
        ∙ ap (λ p. not (true && (p && object_of a.purpose == object_of b.purpose))) sb
        ∙ ap (λ p. not (true && (true && p))) (eq-eqb (object_of a.purpose) (object_of b.purpose) e) in
        false≢true (sym clash ∙ h)

    go : Pair bring_others u t → ⊥
    go (inl e) = false≢true (sym isnt ∙ (ap (is_among actor numbers) e ∙ s.among))
    go (inr (inl h)) = differ u t new_u new_t same h
    go (inr (inr h)) = differ t u new_t new_u (sym same) h

  -- what no database of the run has and no spent ticket brings isn't behind it
  pub still_new : (object : ℕ) → IsNew c object → AllByRecursion (λ (o : Known). o.object ≡ object → ⊥) (new_objects x) → version object (behind actor x numbers c) ≡ None
  still_new object none brings =
      version_none object (behind actor x numbers c)
      (objects_behind (λ o size digest. o ≡ object → ⊥) x now
      (no_version object now (subst (λ v. version object v ≡ None) (whole_at actor x numbers c) (none (length c.journal)))) brings)

  drawn_kept : (u : Ticket) (object : ℕ) → u.purpose ≡ storing object → Contains c.tickets u → is_among actor numbers u ≡ false → IsDrawn c object → IsDrawn (last actor x numbers c) object
  drawn_kept u object is there isnt d =
      let new_u : is_storing u.purpose ≡ true = ap is_storing is in (
        d.0,
        d.1,
        each_inv (λ v. version object v ≡ None) d.2
            (still_new object d.2
            (each_also (λ (o : Known). (t : Ticket) × Spent actor numbers c t × IsStored t o) (λ (o : Known). o.object ≡ object → ⊥) (new_objects x)
            (λ o from same. others u from.0 there isnt from.1 new_u from.2.is_new (ap object_of is ∙ sym (from.2.object ∙ same))) j.objects)),
      )

  object_kept : (u : Ticket) (p : Purpose) → u.purpose ≡ p → Contains c.tickets u → is_among actor numbers u ≡ false → IsObject c p → IsObject (last actor x numbers c) p
  object_kept u (storing object) is there isnt d = drawn_kept u object is there isnt d
  object_kept u (copying object aim) is there isnt d = was_there object d

  -- ---- files

  free : causes (journal_of c.base c.journal) x now ≡ []
  free = (free_of actor x numbers c l j).causes

  backup_kept : (file : ℕ) → KeepsBackup file x → backup_at file now ≡ None → backup_at file (behind actor x numbers c) ≡ None
  backup_kept file keeps none = none_is (backup_at file (behind actor x numbers c)) (backup_so file x now keeps ∙ ap is_some none)

  new_kept : (file : ℕ) → KeepsVolume file x now → KeepsBackup file x → backup_at file now ≡ None → (is_none (row_at file now.stores.volumes) ≡ true → (c.base.next_file ≤ file) × IsNewFile c file × NeverBackup c file)
      → is_none (row_at file (behind actor x numbers c).stores.volumes) ≡ true → (c.base.next_file ≤ file) × IsNewFile (last actor x numbers c) file × NeverBackup (last actor x numbers c) file
  new_kept file keeps spares unlisted was none = go (row_at file now.stores.volumes) refl where
    gone : row_at file (behind actor x numbers c).stores.volumes ≡ None
    gone = is_nothing (row_at file (behind actor x numbers c).stores.volumes) none

    go : (o : Option Volume) → row_at file now.stores.volumes ≡ o → (c.base.next_file ≤ file) × IsNewFile (last actor x numbers c) file × NeverBackup (last actor x numbers c) file
    go None at =
        let old = was (ap is_none at) in
        (old.0, each_inv (λ v. row_at file v.stores.volumes ≡ None) old.1 gone, each_inv (λ v. backup_at file v ≡ None) old.2 (backup_kept file spares unlisted))
    go (Some volume) at =
        let there : in_inv file now ≡ Some volume.pool = ap (λ (o : Option Volume). option_map (λ (w : Volume). w.pool) o) at in
        let still : in_inv file (behind actor x numbers c) ≡ Some volume.pool = volume_stays file (journal_of c.base c.journal) x now free keeps (ap is_some there) ∙ there in
        absurd (false≢true (sym (ap (λ (o : Option Volume). is_some (option_map (λ (w : Volume). w.pool) o)) gone) ∙ ap is_some still))

  -- a kept ticket's volumes lie in its pool
  lying_kept : (u : Ticket) → Contains c.tickets u → is_among actor numbers u ≡ false → (r : Segment) → Contains u.place.segments r → KeepsVolume r.file x now → IsVolume c r.file
      → LiesIn c u.place.pool r.file → LiesIn (last actor x numbers c) u.place.pool r.file
  lying_kept u here isnt r within keeps volume lies = subst (λ v. IsInPool (last actor x numbers c) u.place.pool r.file (row_at r.file v.stores.volumes)) (sym (inventory_last actor x numbers c))
      (go (row_at r.file now.stores.volumes) (row_at r.file (behind actor x numbers c).stores.volumes) refl refl lies) where
        -- of a file on which a spent ticket lies
        of_spent : (pool : ℕ) → IsDrawnFile actor numbers c r.file pool → pool ≡ u.place.pool
        of_spent pool (inl high) = let low = volume.1 in absurd (omega (arith, high, low))
        of_spent pool (inr own) = sym own.5 ∙ same_pool c space u here own.0 own.1.there (λ e. false≢true (sym isnt ∙ (ap (is_among actor numbers) (sym e) ∙ own.1.among))) r within own.2 own.3 own.4

        go : (o p : Option Volume) → row_at r.file now.stores.volumes ≡ o → row_at r.file (behind actor x numbers c).stores.volumes ≡ p → IsInPool c u.place.pool r.file o → IsInPool (last actor x numbers c) u.place.pool r.file p
        go None None at to lies = each_inv (λ v. row_at r.file v.stores.volumes ≡ None) lies to
        go None (Some new) at to lies =
            of_spent new.pool (j.files r.file new.pool (volume_new r.file x now new.pool (ap (λ (o : Option Volume). is_some (option_map (λ (w : Volume). w.pool) o)) at)
            (ap (λ (o : Option Volume). option_map (λ (w : Volume). w.pool) o) to)))
        go (Some old) None at to lies =
            let there : in_inv r.file now ≡ Some old.pool = ap (λ (o : Option Volume). option_map (λ (w : Volume). w.pool) o) at in
            let still : in_inv r.file (behind actor x numbers c) ≡ Some old.pool = volume_stays r.file (journal_of c.base c.journal) x now free keeps (ap is_some there) ∙ there in
            absurd (false≢true (sym (ap (λ (o : Option Volume). is_some (option_map (λ (w : Volume). w.pool) o)) to) ∙ ap is_some still))
        go (Some old) (Some new) at to lies =
            let there : in_inv r.file now ≡ Some old.pool = ap (λ (o : Option Volume). option_map (λ (w : Volume). w.pool) o) at in
            let still : in_inv r.file (behind actor x numbers c) ≡ Some old.pool = volume_stays r.file (journal_of c.base c.journal) x now free keeps (ap is_some there) ∙ there in
            same_Some new.pool old.pool (sym (ap (λ (o : Option Volume). option_map (λ (w : Volume). w.pool) o) to) ∙ still) ∙ lies

  -- no number comes back
  none_back : NoneComesBack (last actor x numbers c)
  none_back file a b k ab bk was gone = elim (cases_lt (length c.journal) k) as (λ _. row_at file (inv_at k (last actor x numbers c)).stores.volumes ≡ None) [
    | inr le ↦ subst (λ v. row_at file v.stores.volumes ≡ None) (sym (inv_before actor x numbers c k le))
        (n.none_back file a b k ab bk (subst (λ v. is_some (row_at file v.stores.volumes) ≡ true) (inv_before actor x numbers c a (omega (arith, ab, bk, le))) was)
        (subst (λ v. row_at file v.stores.volumes ≡ None) (inv_before actor x numbers c b (omega (arith, bk, le))) gone))
    | inl lt ↦ elim (cases_lt (length c.journal) b) as (λ _. row_at file (inv_at k (last actor x numbers c)).stores.volumes ≡ None) [
      | inl later ↦ subst (λ v. row_at file v.stores.volumes ≡ None) (inv_behind actor x numbers c b later ∙ sym (inv_behind actor x numbers c k lt)) gone
      | inr le ↦
          let a_at : is_some (row_at file (inv_at a c).stores.volumes) ≡ true = subst (λ v. is_some (row_at file v.stores.volumes) ≡ true) (inv_before actor x numbers c a (omega (arith, ab, le))) was in
          let b_at : row_at file (inv_at b c).stores.volumes ≡ None = subst (λ v. row_at file v.stores.volumes ≡ None) (inv_before actor x numbers c b le) gone in
          let end : row_at file now.stores.volumes ≡ None = subst (λ v. row_at file v.stores.volumes ≡ None) (whole_at actor x numbers c) (n.none_back file a b (length c.journal) ab le a_at b_at) in
          subst (λ v. row_at file v.stores.volumes ≡ None) (sym (inv_behind actor x numbers c k lt))
          (is_nothing (row_at file (behind actor x numbers c).stores.volumes) (not_again c l actor x numbers j n a file a_at (ap is_none end)))
    ]
  ]

  volume_kept : (file : ℕ) → KeepsVolume file x now × KeepsBackup file x → IsVolume c file → IsVolume (last actor x numbers c) file
  volume_kept file keeps v =
      let below = j.further in (
        v.0,
        omega (arith, v.1, below),
        subst (λ d. backup_at file d ≡ None) (sym (inventory_last actor x numbers c)) (backup_kept file keeps.1 v.2),
        subst (λ d. is_none (row_at file d.stores.volumes) ≡ true → (c.base.next_file ≤ file) × IsNewFile (last actor x numbers c) file × NeverBackup (last actor x numbers c) file) (sym (inventory_last actor x numbers c))
            (new_kept file keeps.0 keeps.1 v.2 v.3),
      )

  -- ---- pools

  pool_kept : (t : Ticket) → KeepsPool t.place.pool x now → is_some (pool t.place.pool now) ≡ true → is_some (pool t.place.pool (inventory (last actor x numbers c))) ≡ true
  pool_kept t keeps there =
      subst (λ d. is_some (pool t.place.pool d) ≡ true) (sym (inventory_last actor x numbers c)) ((pool_alike now facts t.place.pool there x keeps).there ∙ there)

  -- ---- all

  rises : DrawsOn now (behind actor x numbers c)
  rises = draws_on x now

  below : ((behind actor x numbers c).next_file ≤ file_drawn x c.next_file) × ((behind actor x numbers c).next_object ≤ c.next_object)
  below = let f = n.next_file.1 in let g = j.further in draws_below (file_drawn x c.next_file) c.next_object x now j.draws (omega (arith, f, g)) n.next_object.1

  pub numbers_joined : NumbersAreDrawn (last actor x numbers c)
  numbers_joined = record {
    tickets = later_kept is_later stays c.tickets n.tickets;
    below = each_kept _ stays c.tickets n.below;
    objects =
        each_also (λ (t : Ticket). (Contains c.tickets t × IsObject c t.purpose) × (stays t ≡ true)) (λ t. IsObject (last actor x numbers c) t.purpose) kept
        (λ t h. object_kept t t.purpose refl h.0.0 (not_true_is t h.1) h.0.1)
        (each_passing (λ (t : Ticket). Contains c.tickets t × IsObject c t.purpose) stays c.tickets (each_two (Contains c.tickets) (λ t. IsObject c t.purpose) c.tickets (each_contained c.tickets) n.objects));
    apart = later_kept bring_others stays c.tickets n.apart;
    pools =
        each_kept (λ t. is_some (pool t.place.pool (inventory (last actor x numbers c))) ≡ true) stays c.tickets
        (each_also (λ (t : Ticket). KeepsPool t.place.pool x now × (is_some (pool t.place.pool now) ≡ true)) (λ t. is_some (pool t.place.pool (inventory (last actor x numbers c))) ≡ true) c.tickets
        (λ t h. pool_kept t h.0 h.1) (each_two (λ t. KeepsPool t.place.pool x now) (λ t. is_some (pool t.place.pool now) ≡ true) c.tickets j.pools n.pools));
    files =
        each_kept (λ t. AllByRecursion (λ s. IsVolume (last actor x numbers c) s.file) t.place.segments) stays c.tickets
        (each_also (λ (t : Ticket). AllByRecursion (λ s. KeepsVolume s.file x now × KeepsBackup s.file x) t.place.segments × AllByRecursion (λ s. IsVolume c s.file) t.place.segments)
        (λ t. AllByRecursion (λ s. IsVolume (last actor x numbers c) s.file) t.place.segments) c.tickets
        (λ t h. each_also (λ (s : Segment). (KeepsVolume s.file x now × KeepsBackup s.file x) × IsVolume c s.file) (λ s. IsVolume (last actor x numbers c) s.file) t.place.segments
        (λ s both. volume_kept s.file both.0 both.1)
        (each_two (λ (s : Segment). KeepsVolume s.file x now × KeepsBackup s.file x) (λ s. IsVolume c s.file) t.place.segments h.0 h.1))
        (each_two (λ (t : Ticket). AllByRecursion (λ s. KeepsVolume s.file x now × KeepsBackup s.file x) t.place.segments) (λ t. AllByRecursion (λ s. IsVolume c s.file) t.place.segments) c.tickets
        j.volumes n.files));
    lying =
        each_also (λ (t : Ticket). ((Contains c.tickets t × AllByRecursion (λ s. KeepsVolume s.file x now × KeepsBackup s.file x) t.place.segments)
        × (AllByRecursion (λ s. IsVolume c s.file) t.place.segments × AllByRecursion (λ s. LiesIn c t.place.pool s.file) t.place.segments)) × (stays t ≡ true))
        (λ t. AllByRecursion (λ s. LiesIn (last actor x numbers c) t.place.pool s.file) t.place.segments) kept
        (λ t h. lies_of t h.0.0.0 (not_true_is t h.1) h.0.0.1 h.0.1.0 h.0.1.1)
        (each_passing (λ (t : Ticket). (Contains c.tickets t × AllByRecursion (λ s. KeepsVolume s.file x now × KeepsBackup s.file x) t.place.segments)
        × (AllByRecursion (λ s. IsVolume c s.file) t.place.segments × AllByRecursion (λ s. LiesIn c t.place.pool s.file) t.place.segments)) stays c.tickets
        (each_two (λ t. Contains c.tickets t × AllByRecursion (λ s. KeepsVolume s.file x now × KeepsBackup s.file x) t.place.segments)
        (λ t. AllByRecursion (λ s. IsVolume c s.file) t.place.segments × AllByRecursion (λ s. LiesIn c t.place.pool s.file) t.place.segments) c.tickets
        (each_two (Contains c.tickets) (λ t. AllByRecursion (λ s. KeepsVolume s.file x now × KeepsBackup s.file x) t.place.segments) c.tickets (each_contained c.tickets) j.volumes)
        (each_two (λ t. AllByRecursion (λ s. IsVolume c s.file) t.place.segments) (λ t. AllByRecursion (λ s. LiesIn c t.place.pool s.file) t.place.segments) c.tickets n.files n.lying)));
    none_back = none_back;
    next_file = subst (λ d. (c.base.next_file ≤ d.next_file) × (d.next_file ≤ file_drawn x c.next_file)) (sym (inventory_last actor x numbers c))
        (let up = rises.file in let old = n.next_file.0 in omega (arith, up, old), below.0);
    next_object = subst (λ d. (c.base.next_object ≤ d.next_object) × (d.next_object ≤ c.next_object)) (sym (inventory_last actor x numbers c))
        (let up = rises.object in let old = n.next_object.0 in omega (arith, up, old), below.1);
    bounds = (j.bound, n.bounds.1, n.bounds.2);
  }
    where
      lies_of : (t : Ticket) → Contains c.tickets t → is_among actor numbers t ≡ false → AllByRecursion (λ s. KeepsVolume s.file x now × KeepsBackup s.file x) t.place.segments
          → AllByRecursion (λ s. IsVolume c s.file) t.place.segments → AllByRecursion (λ s. LiesIn c t.place.pool s.file) t.place.segments
          → AllByRecursion (λ s. LiesIn (last actor x numbers c) t.place.pool s.file) t.place.segments
      lies_of t there isnt keeps volumes lies =
          each_also (λ (s : Segment). (Contains t.place.segments s × (KeepsVolume s.file x now × KeepsBackup s.file x)) × (IsVolume c s.file × LiesIn c t.place.pool s.file))
          (λ s. LiesIn (last actor x numbers c) t.place.pool s.file) t.place.segments
          (λ s h. lying_kept t there isnt s h.0.0 h.0.1.0 h.1.0 h.1.1)
          (each_two (λ (s : Segment). Contains t.place.segments s × (KeepsVolume s.file x now × KeepsBackup s.file x)) (λ s. IsVolume c s.file × LiesIn c t.place.pool s.file) t.place.segments
          (each_two (Contains t.place.segments) (λ s. KeepsVolume s.file x now × KeepsBackup s.file x) t.place.segments (each_contained t.place.segments) keeps)
          (each_two (λ s. IsVolume c s.file) (λ s. LiesIn c t.place.pool s.file) t.place.segments volumes lies))

      not_true_is : (t : Ticket) → stays t ≡ true → is_among actor numbers t ≡ false
      not_true_is t h = elim (is_among actor numbers t) as (λ b. not b ≡ true → b ≡ false) [ true ↦ λ no. absurd (false≢true no) | false ↦ λ _. refl ] h
