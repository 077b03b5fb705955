-- A copy that isn't there any more, as a transaction placed it, doesn't come back: what is there at a number of a history of valid databases was there at each number before, from its own on.
use Rattle.std.proofs.Common.{◌≡◌, inl, inr, ℕ, zero, suc, ◌+◌, ◌-◌, ◌≤◌, ◌<◌, eqb, not, cond, Bool, true, false, List, [], ◌∷◌, length, map, take, Option, Some, None, refl, sym, ap, subst, ◌∙◌, arith}
use Rattle.std.specs.Prelude.{nat_le, nat_lt}
use Rattle.std.specs.List.{AllByRecursion, find, list_all, slice_get}
use Rattle.std.specs.Option.{option_map_or}
use Rattle.std.proofs.lemmas.Bool.{eq-eqb, eqb-true, false≢true, leb-true, ltb-true, ne_eqb}
use Rattle.std.proofs.lemmas.List.{length-take}
use Rattle.entries.specs.declared.change.Change.{Change}
use Rattle.entries.specs.declared.entry.Entry.{Entry}
use Rattle.inventory_rows.specs.version_groups.declared.copies.CopyRow.{CopyRow}
use Rattle.inventory_rows.specs.version_groups.declared.versions.Version.{Version}
use Rattle.inventory_rows.specs.version_groups.Copies.{are_by_pool}
use Rattle.inventory_rows.specs.version_groups.Versions.{are_distinct, version_of}
use Rattle.inventory_rows.specs.Search.{copies, copy_in, version, versions}
use Rattle.inventory_rows.specs.State.{Inv}
use Rattle.inventory_rules.specs.Copies.{placed_by}
use Rattle.inventory_rules.specs.Transactions.{effect}
use Rattle.inventory_rules.specs.Valid.{is_copied, is_valid}
use Rattle.inventory_laws.specs.Origins.{HasOldOrNew, IsOldOrNew}
use Rattle.inventory_laws.proofs.Facts.{facts_of, first, rest}
use Rattle.inventory_laws.proofs.Lists.{all_of, each_also, each_both, each_within}
use Rattle.inventory_laws.proofs.Origins.{contained_holds, each_flat, each_found, old_or_new}
use Rattle.space.specs.declared.aim.Aim.TheVariants as aim
use Rattle.machine.specs.Fits.{History, entries_to, inv, last}
use Rattle.machine.proofs.Histories.{after-number, inv-next}
use Rattle.copy_runs.specs.Returning.{AreValid, Holds, is_kept}
use Rattle.copy_runs.specs.Wanting.{is_open_for, is_wanted}

-- ---- what is looked up is the only one

turned : (a b : ℕ) → not (eqb a b) ≡ true → eqb b a ≡ false
turned a b h = ne_eqb b a (λ e. false≢true (sym (ap not (eq-eqb a b (sym e))) ∙ h))

less-apart : (a b : ℕ) → nat_lt a b ≡ true → eqb a b ≡ false
less-apart a b h = ne_eqb a b (λ e. let l : a < b = ltb-true a b h in omega arith)

abbrev IsItsOwn : List Version → Version → Type 0
IsItsOwn vs w = version_of w.object vs ≡ Some w

own-versions : (vs : List Version) → are_distinct vs ≡ true → AllByRecursion (IsItsOwn vs) vs
own-versions [] d = tt
own-versions (u ∷ vs) d =
    let others = first (list_all (λ (w : Version). not (eqb w.object u.object)) vs) (are_distinct vs) d in
    let more = own-versions vs (rest (list_all (λ (w : Version). not (eqb w.object u.object)) vs) (are_distinct vs) d) in (
      ap (λ b. cond b (Some u) (version_of u.object vs)) (eq-eqb u.object u.object refl),
      each_both (λ (w : Version). not (eqb w.object u.object) ≡ true) (IsItsOwn vs) (IsItsOwn (u ∷ vs)) vs
          (λ w other own. ap (λ b. cond b (Some u) (version_of w.object vs)) (turned w.object u.object other) ∙ own)
          (all_of (λ (w : Version). not (eqb w.object u.object)) vs others) more,
    )

abbrev IsInItsPool : List CopyRow → CopyRow → Type 0
IsInItsPool cs c = find (λ (x : CopyRow). eqb x.pool c.pool) cs ≡ Some c

own-copies : (cs : List CopyRow) → are_by_pool cs ≡ true → AllByRecursion (IsInItsPool cs) cs
own-copies [] d = tt
own-copies (u ∷ cs) d =
    let others = first (list_all (λ (c : CopyRow). nat_lt u.pool c.pool) cs) (are_by_pool cs) d in
    let more = own-copies cs (rest (list_all (λ (c : CopyRow). nat_lt u.pool c.pool) cs) (are_by_pool cs) d) in (
      ap (λ b. cond b (Some u) (find (λ (x : CopyRow). eqb x.pool u.pool) cs)) (eq-eqb u.pool u.pool refl),
      each_both (λ (c : CopyRow). nat_lt u.pool c.pool ≡ true) (IsInItsPool cs) (IsInItsPool (u ∷ cs)) cs
          (λ c other own. ap (λ b. cond b (Some u) (find (λ (x : CopyRow). eqb x.pool c.pool) cs)) (less-apart u.pool c.pool other) ∙ own)
          (all_of (λ (c : CopyRow). nat_lt u.pool c.pool) cs others) more,
    )

each-map : {A B : Type 0} (P : B → Type 0) (f : A → B) (xs : List A) → AllByRecursion (λ x. P (f x)) xs → AllByRecursion P (map f xs)
each-map P f [] h = tt
each-map P f (x ∷ xs) h = (h.0, each-map P f xs h.1)

copied-by-pool : (v : Inv) (w : Version) → is_copied v w ≡ true → are_by_pool w.copies ≡ true
copied-by-pool v w t = first (are_by_pool w.copies) _ (rest _ _ (rest _ _ t))

-- each copy of a valid database is that of its object in its pool
abbrev pub IsHeld : Inv → ℕ × CopyRow → Type 0
IsHeld v e = Holds e.0 e.1 v

pub all-held : (v : Inv) → is_valid v ≡ true → AllByRecursion (IsHeld v) (copies v)
all-held v valid =
    let facts = facts_of v valid in
    each_flat (IsHeld v) (λ (w : Version). map (λ (c : CopyRow). (w.object, c)) w.copies) (versions v)
    (each_both (λ (w : Version). is_copied v w ≡ true) (IsItsOwn (versions v)) (λ (w : Version). AllByRecursion (IsHeld v) (map (λ (c : CopyRow). (w.object, c)) w.copies)) (versions v)
    (λ w copied own. each-map (IsHeld v) (λ (c : CopyRow). (w.object, c)) w.copies
    (each_also (IsInItsPool w.copies) (λ (c : CopyRow). IsHeld v (w.object, c)) w.copies (λ c there. (w, own, there)) (own-copies w.copies (copied-by-pool v w copied))))
    (all_of (is_copied v) (versions v) facts.versions_copied) (own-versions (versions v) facts.objects_apart))

-- ---- one transaction

pub was-held : (object : ℕ) (copy : CopyRow) (c : Change) (v : Inv) → is_valid v ≡ true → copy.placed ≤ v.number → Holds object copy (effect c v) → Holds object copy v
was-held object copy c v valid past h =
    let w = each_found (HasOldOrNew v) (λ (y : Version). eqb y.object object) (versions (effect c v)) h.0 (old_or_new c v) h.1 in
    let k = each_found (IsOldOrNew v h.0.object) (λ (y : CopyRow). eqb y.pool copy.pool) h.0.copies copy w.0 h.2 in
    let is : h.0.object ≡ object = eqb-true h.0.object object w.1 in
    elim k.0 as (λ _. Holds object copy v) [
      | inl old ↦ subst (λ (n : ℕ). Holds n copy v) is (contained_holds (IsHeld v) (copies v) (h.0.object, copy) old (all-held v valid))
      | inr new ↦ absurd (let next : copy.placed ≡ v.number + 1 = new in omega arith)
    ]

-- ---- several

entry-at : (journal : List Entry) (k : ℕ) → k < length journal → (e : Entry) × (slice_get journal k ≡ Some e)
entry-at [] k l = absurd (omega (arith, l))
entry-at (e ∷ journal) zero l = (e, refl)
entry-at (e ∷ journal) (suc k) l = entry-at journal k (omega (arith, l))

length-take-all : (k : ℕ) (xs : List Entry) → k ≤ length xs → length (take k xs) ≡ k
length-take-all k xs h = omega (arith, h, length-take k xs)

pub inv-number : (w : History) (n : ℕ) → w.base.number ≤ n → n ≤ last w → (inv w n).number ≡ n
unfolding inv
inv-number w n low high =
    let after : (inv w n).number ≡ w.base.number + length (entries_to w n) = after-number w.base (entries_to w n) in
    let long : length (entries_to w n) ≡ n - w.base.number = length-take-all (n - w.base.number) w.journal (omega arith) in
    omega arith

one-back : (w : History) (object : ℕ) (copy : CopyRow) (n : ℕ) → AreValid w → w.base.number ≤ n → n + 1 ≤ last w → copy.placed ≤ n → Holds object copy (inv w (n + 1)) → Holds object copy (inv w n)
one-back w object copy n valid low high past h =
    let inside : n - w.base.number < length w.journal = omega arith in
    let e = entry-at w.journal (n - w.base.number) inside in
    let up : n ≤ last w = omega arith in
    let number : (inv w n).number ≡ n = inv-number w n low up in
    let past_then : copy.placed ≤ (inv w n).number = omega arith in
    was-held object copy e.0.change (inv w n) (valid n low up) past_then (subst (λ (v : Inv). Holds object copy v) (inv-next w n e.0 low e.1) h)

back : (w : History) (object : ℕ) (copy : CopyRow) (n more : ℕ) → AreValid w → w.base.number ≤ n → n + more ≤ last w → copy.placed ≤ n → Holds object copy (inv w (n + more)) → Holds object copy (inv w n)
back w object copy n zero valid low high past h = subst (λ (m : ℕ). Holds object copy (inv w m)) (none n) h where
  none : (k : ℕ) → k + 0 ≡ k
  none k = omega arith
back w object copy n (suc more) valid low high past h =
    let same : n + suc more ≡ (n + more) + 1 = omega arith in
    let under : w.base.number ≤ n + more = omega arith in
    let above : (n + more) + 1 ≤ last w = omega (arith, high) in
    let still : copy.placed ≤ n + more = omega arith in
    back w object copy n more valid low (omega (arith, high)) past
    (one-back w object copy (n + more) valid under above still (subst (λ (m : ℕ). Holds object copy (inv w m)) same h))

pub held-before : (w : History) (object : ℕ) (copy : CopyRow) (n m : ℕ) → AreValid w → w.base.number ≤ n → copy.placed ≤ n → n ≤ m → m ≤ last w → Holds object copy (inv w m) → Holds object copy (inv w n)
held-before w object copy n m valid low past up high h =
    let more : n + (m - n) ≡ m = omega arith in
    back w object copy n (m - n) valid low (omega arith) past (subst (λ (k : ℕ). Holds object copy (inv w k)) (sym more) h)

-- ---- the copy as it is wanted

-- a copy of a valid database was placed by a transaction up to its number
pub placed-past : (w : History) (n object : ℕ) (copy : CopyRow) → AreValid w → w.base.number ≤ n → n ≤ last w → Holds object copy (inv w n) → copy.placed ≤ n
placed-past w n object copy valid low high h =
    let v : Inv = inv w n in
    let all = all_of (λ (e : ℕ × CopyRow). nat_le e.1.placed v.number) (copies v) (facts_of v (valid n low high)).copies_past in
    let of_versions = each_within (λ (e : ℕ × CopyRow). nat_le e.1.placed v.number ≡ true) (λ (x : Version) (c : CopyRow). (x.object, c)) (λ (x : Version). x.copies) (versions v) all in
    let one = each_found (λ (y : Version). AllByRecursion (λ (c : CopyRow). nat_le c.placed v.number ≡ true) y.copies) (λ (y : Version). eqb y.object object) (versions v) h.0 of_versions h.1 in
    let c = each_found (λ (y : CopyRow). nat_le y.placed v.number ≡ true) (λ (y : CopyRow). eqb y.pool copy.pool) h.0.copies copy one.0 h.2 in
    let number : v.number ≡ n = inv-number w n low high in
    let le : copy.placed ≤ v.number = leb-true copy.placed v.number c.0 in
    omega arith

pub held-wanted : (object : ℕ) (copy : CopyRow) (v : Inv) (to : ℕ) (along : Bool) → Holds object copy v → is_wanted (aim.Move copy.pool copy.placed to along) object v ≡ true
held-wanted object copy v to along h =
    ap (λ (o : Option Version). option_map_or (is_open_for (aim.Move copy.pool copy.placed to along)) o false) h.1 ∙ ap (placed_by copy.placed) h.2 ∙ eq-eqb copy.placed copy.placed refl

-- a copy that is found where one is kept
record Found (object : ℕ) (copy : CopyRow) (v : Inv) : Type 0 where
  pub it : CopyRow
  pub there : Holds object it v
  pub pool : it.pool ≡ copy.pool
  pub placed : it.placed ≡ copy.placed

found-copy : (object : ℕ) (copy : CopyRow) (v : Inv) (x : Version) → version object v ≡ Some x → placed_by copy.placed (copy_in copy.pool x) ≡ true → Found object copy v
found-copy object copy v x there h = go (copy_in copy.pool x) refl h where
  go : (o : Option CopyRow) → copy_in copy.pool x ≡ o → placed_by copy.placed o ≡ true → Found object copy v
  go None e s = absurd (false≢true s)
  go (Some c) e s =
      let in_pool : c.pool ≡ copy.pool = eqb-true c.pool copy.pool (found-passes (λ (y : CopyRow). eqb y.pool copy.pool) x.copies c e) in
      record {
        it = c;
        there = (x, there, ap (λ (n : ℕ). copy_in n x) in_pool ∙ e);
        pool = in_pool;
        placed = eqb-true c.placed copy.placed s;
      }
    where
      found-passes : (test : CopyRow → Bool) (cs : List CopyRow) (d : CopyRow) → find test cs ≡ Some d → test d ≡ true
      found-passes test cs d found = (each_found (λ (y : CopyRow). Unit {0}) test cs d (units cs) found).1 where
        units : (ds : List CopyRow) → AllByRecursion (λ (y : CopyRow). Unit {0}) ds
        units [] = tt
        units (d ∷ ds) = (tt, units ds)

kept-found : (object : ℕ) (copy : CopyRow) (v : Inv) → is_kept object copy v ≡ true → Found object copy v
kept-found object copy v h = go (version object v) refl h where
  go : (o : Option Version) → version object v ≡ o → option_map_or (is_open_for (aim.Move copy.pool copy.placed 0 false)) o false ≡ true → Found object copy v
  go None e s = absurd (false≢true s)
  go (Some x) e s = found-copy object copy v x e s

same-copy : (object : ℕ) (v : Inv) (c d : CopyRow) → Holds object c v → Holds object d v → c.pool ≡ d.pool → c ≡ d
same-copy object v c d h k pools =
    let one : Some h.0 ≡ Some k.0 = sym h.1 ∙ k.1 in
    let version_is : h.0 ≡ k.0 = cc in
    let both : Some c ≡ Some d = sym h.2 ∙ ap (λ (x : Version). copy_in c.pool x) version_is ∙ ap (λ (n : ℕ). copy_in n k.0) pools ∙ k.2 in
    cc

-- A copy that is there at one number, and still kept at a later one, is there at each between them, as it is.
pub held-all-along : (w : History) (object : ℕ) (copy : CopyRow) (n m : ℕ) → AreValid w → w.base.number ≤ n → n ≤ m → m ≤ last w → Holds object copy (inv w n) → is_kept object copy (inv w m) ≡ true
    → (k : ℕ) → n ≤ k → k ≤ m → Holds object copy (inv w k)
held-all-along w object copy n m valid low up high then kept k from upto =
    let within : n ≤ last w = omega arith in
    let f : Found object copy (inv w m) = kept-found object copy (inv w m) kept in
    let past : copy.placed ≤ n = placed-past w n object copy valid low within then in
    let placed_same : f.it.placed ≡ copy.placed = f.placed in
    let past_it : f.it.placed ≤ n = omega arith in
    let is : f.it ≡ copy = same-copy object (inv w n) f.it copy (held-before w object f.it n m valid low past_it up high f.there) then f.pool in
    let low_then : w.base.number ≤ k = omega arith in
    let past_then : copy.placed ≤ k = omega arith in
    held-before w object copy k m valid low_then past_then upto high (subst (λ (c : CopyRow). Holds object c (inv w m)) is f.there)
