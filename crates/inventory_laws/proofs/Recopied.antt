-- Versions whose copies change one after the other: what is said of all versions afterwards was said of each changed one.
use Rattle.std.proofs.Common.{◌≡◌, ℕ, Bool, true, eqb, not, List, [], ◌∷◌, ◌++◌, map, Option, Some, Ok, refl, sym, ap, subst, ◌∙◌, append_assoc}
use Rattle.std.specs.List.{AllByRecursion, flat_map, list_all}
use Rattle.std.specs.Option.{option_map_or}
use Rattle.std.proofs.lemmas.Bool.{and_parts, and_from}
use Rattle.inventory_rules.specs.inventory_rows.version_groups.declared.copies.CopyChange.{CopyChange}
use Rattle.inventory_rules.specs.inventory_rows.version_groups.declared.copies.CopyRow.{CopyRow}
use Rattle.inventory_rules.specs.inventory_rows.version_groups.declared.versions.Version.{Version}
use Rattle.inventory_rules.specs.inventory_rows.version_groups.Copies.{copies_after}
use Rattle.inventory_rules.specs.inventory_rows.version_groups.Entries.{all_later}
use Rattle.inventory_rules.specs.inventory_rows.version_groups.Versions.{are_distinct}
use Rattle.inventory_rules.proofs.of_inventory_rows.of_version_groups.Lists.{version_of-object}
use Rattle.inventory_rules.proofs.of_inventory_rows.of_object_rows.Splices.{Splices}
use Rattle.inventory_rules.proofs.of_inventory_rows.of_version_groups.Lists.{distinct-with_copies}
use Rattle.inventory_rules.specs.inventory_rows.Search.{copies, version, versions}
use Rattle.inventory_rules.specs.inventory_rows.State.{Inv}
use Rattle.inventory_rules.specs.Common.{each}
use Rattle.inventory_rules.specs.Copies.{change_copy}
use Rattle.inventory_rules.specs.Reordered.{IsReordered}
use Rattle.inventory_rules.proofs.CopiedLists.{kept_of-copied}
use Rattle.inventory_laws.specs.Kept.{OnlyVolumes}
use Rattle.inventory_laws.proofs.Copied.{altered, copies_spliced, version_altered}
use Rattle.inventory_laws.proofs.Orders.{reordered_back, reordered_behind, reordered_first, reordered_front, reordered_itself, reordered_then}
use Rattle.inventory_laws.proofs.Others.{other_copied}
use Rattle.inventory_laws.proofs.Reordered.{splice_reordered}
use Rattle.inventory_laws.proofs.Spliced.{all_come, all_gone, turned}
use Rattle.inventory_laws.proofs.Tests.{other_number}

-- ---- one version changes

record Recopied (k : ℕ) (x : Version) (cs : List CopyRow) (v w : Inv) : Type 0 where
  all : Splices (x ∷ []) (record x { copies = cs } ∷ []) (versions v) (versions w)
  rows : Splices (map (λ (c : CopyRow). (x.object, c)) x.copies) (map (λ (c : CopyRow). (x.object, c)) cs) (copies v) (copies w)
  distinct : are_distinct (versions w) ≡ true
  number : w.number ≡ v.number

recopied : (k : ℕ) (step : CopyChange) (v : Inv) (x : Version) (cs : List CopyRow) → are_distinct (versions v) ≡ true → version k v ≡ Some x → copies_after step x.copies ≡ Ok cs → Recopied k x cs v (change_copy k step v)
recopied k step v x cs d there said =
    subst (Recopied k x cs v) (altered k step v x cs there said)
    (record {
      all = subst (Splices (x ∷ []) (record x { copies = cs } ∷ []) (versions v)) (sym (kept_of-copied k cs v.clients)) (version_altered k cs (versions v) x d there);
      rows = copies_spliced k v x cs d there;
      distinct = ap are_distinct (kept_of-copied k cs v.clients) ∙ distinct-with_copies k cs (versions v) ∙ d;
      number = refl;
    })

-- ---- items, each of which changes the copies of its object

module _ {X : Type 0} (object : X → ℕ) (step : ℕ → X → CopyChange) (does : X → Inv → Inv) (row : ℕ → X → CopyRow) (left : X → Version → List (ℕ × CopyRow)) (after : ℕ → X → Version → List CopyRow) (Has : X → Version → Type 0)
    (said : (n : ℕ) (i : X) (x : Version) → Has i x → copies_after (step n i) x.copies ≡ Ok (after n i x))
    (order : (n : ℕ) (i : X) (x : Version) → Has i x → x.object ≡ object i → IsReordered {A = ℕ × CopyRow} ((object i, row n i) ∷ map (λ (c : CopyRow). (x.object, c)) x.copies) (left i x ++ map (λ (c : CopyRow). (x.object, c)) (after n i x)))
    (kept : (i : X) (v : Inv) → OnlyVolumes (change_copy (object i) (step v.number i) v) (does i v))
    (test : Version → Bool) where
  -- what an item finds
  pub record Finds (v : Inv) (i : X) : Type 0 where
    pub old : Version
    pub there : version (object i) v ≡ Some old
    pub has : Has i old
    pub passes : test old ≡ true

  abbrev pub news : ℕ → List X → List (ℕ × CopyRow)
  news n items = map (λ (i : X). (object i, row n i)) items

  abbrev pub olds : Inv → List X → List (ℕ × CopyRow)
  olds v items = flat_map (λ (i : X). option_map_or (left i) (version (object i) v) []) items

  -- an item whose version passes with its copies changed
  pub record Passes (n : ℕ) (v : Inv) (i : X) : Type 0 where
    pub old : Version
    pub there : version (object i) v ≡ Some old
    pub has : Has i old
    pub now : test (record old { copies = after n i old }) ≡ true

  pub record AllBack (items : List X) (v w : Inv) : Type 0 where
    pub each : AllByRecursion (Passes v.number v) items
    pub all : list_all test (versions v) ≡ true
    pub rows : IsReordered (news v.number items ++ copies v) (olds v items ++ copies w)

  on_volumes : (k : ℕ) (x : Version) (cs : List CopyRow) (v u w : Inv) → OnlyVolumes u w → Recopied k x cs v u → Recopied k x cs v w
  on_volumes k x cs v u w only r = subst (Recopied k x cs v) (sym only.only) (record { all = r.all; rows = r.rows; distinct = r.distinct; number = r.number })

  first_does : (i : X) (v : Inv) (f : Finds v i) → are_distinct (versions v) ≡ true → Recopied (object i) f.old (after v.number i f.old) v (does i v)
  first_does i v f d =
      on_volumes (object i) f.old (after v.number i f.old) v (change_copy (object i) (step v.number i) v) (does i v) (kept i v)
      (recopied (object i) (step v.number i) v f.old (after v.number i f.old) d f.there (said v.number i f.old f.has))

  other_still : (i j : X) (v : Inv) → not (eqb (object i) (object j)) ≡ true → version (object j) (does i v) ≡ version (object j) v
  other_still i j v ne = ap (λ (x : Inv). version (object j) x) (kept i v).only ∙ other_copied (object i) (object j) (step v.number i) v (other_number (object i) (object j) ne)

  finds_still : (i : X) (v : Inv) (items : List X) → list_all (λ j. not (eqb (object i) (object j))) items ≡ true → AllByRecursion (Finds v) items → AllByRecursion (Finds (does i v)) items
  finds_still i v [] ne h = tt
  finds_still i v (j ∷ items) ne h =
      let parts = and_parts (not (eqb (object i) (object j))) (list_all (λ j. not (eqb (object i) (object j))) items) ne in
      (record { old = h.0.old; there = other_still i j v parts.0 ∙ h.0.there; has = h.0.has; passes = h.0.passes }, finds_still i v items parts.1 h.1)

  passes_back : (n : ℕ) (i : X) (v : Inv) (items : List X) → list_all (λ j. not (eqb (object i) (object j))) items ≡ true → AllByRecursion (Passes n (does i v)) items → AllByRecursion (Passes n v) items
  passes_back n i v [] ne h = tt
  passes_back n i v (j ∷ items) ne h =
      let parts = and_parts (not (eqb (object i) (object j))) (list_all (λ j. not (eqb (object i) (object j))) items) ne in
      (record { old = h.0.old; there = sym (other_still i j v parts.0) ∙ h.0.there; has = h.0.has; now = h.0.now }, passes_back n i v items parts.1 h.1)

  olds_still : (i : X) (v : Inv) (items : List X) → list_all (λ j. not (eqb (object i) (object j))) items ≡ true → olds (does i v) items ≡ olds v items
  olds_still i v [] ne = refl
  olds_still i v (j ∷ items) ne =
      let parts = and_parts (not (eqb (object i) (object j))) (list_all (λ j. not (eqb (object i) (object j))) items) ne in
      ap (λ (o : Option Version). option_map_or (left j) o [] ++ olds (does i v) items) (other_still i j v parts.0) ∙ ap (λ (l : List (ℕ × CopyRow)). option_map_or (left j) (version (object j) v) [] ++ l) (olds_still i v items parts.1)

  joined : {A : Type 0} (new : A) (lefts news olds before between end : List A) → IsReordered (new ∷ before) (lefts ++ between) → IsReordered (news ++ between) (olds ++ end) → IsReordered (new ∷ (news ++ before)) ((lefts ++ olds) ++ end)
  joined {A} new lefts news olds before between end one more =
      subst (IsReordered (new ∷ (news ++ before))) (sym (append_assoc lefts olds end))
      (reordered_then (new ∷ (news ++ before)) (news ++ new ∷ before) (lefts ++ (olds ++ end)) (reordered_back (news ++ new ∷ before) (new ∷ (news ++ before)) (reordered_front news new before))
      (reordered_then (news ++ new ∷ before) (news ++ (lefts ++ between)) (lefts ++ (olds ++ end)) (reordered_behind news (new ∷ before) (lefts ++ between) one)
      (reordered_then (news ++ (lefts ++ between)) (lefts ++ (news ++ between)) (lefts ++ (olds ++ end)) (reordered_first news lefts between) (reordered_behind lefts (news ++ between) (olds ++ end) more))))

  pub all_back : (items : List X) (v : Inv) → are_distinct (versions v) ≡ true → all_later (λ i j. not (eqb (object i) (object j))) items ≡ true → AllByRecursion (Finds v) items → list_all test (versions (each does items v)) ≡ true → AllBack items v (each does items v)
  all_back [] v d once finds h = record { each = tt; all = h; rows = reordered_itself (copies v) }
  all_back (i ∷ items) v d once finds h =
      let parts = and_parts (list_all (λ j. not (eqb (object i) (object j))) items) (all_later (λ i j. not (eqb (object i) (object j))) items) once in
      let x : Version = finds.0.old in
      let n : ℕ = v.number in
      let w : Inv = each does items (does i v) in
      let r : Recopied (object i) x (after n i x) v (does i v) = first_does i v finds.0 d in
      let b : AllBack items (does i v) w = all_back items (does i v) r.distinct parts.1 (finds_still i v items parts.0 finds.1) h in
      let now : list_all test (record x { copies = after n i x } ∷ []) ≡ true = all_gone test (turned r.all) b.all in
      let named : x.object ≡ object i = version_of-object (object i) (versions v) x finds.0.there in
      let one : IsReordered {A = ℕ × CopyRow} ((object i, row n i) ∷ copies v) (left i x ++ copies (does i v)) = splice_reordered ((object i, row n i) ∷ []) (left i x) r.rows (order n i x finds.0.has named) in
      let more : IsReordered (news n items ++ copies (does i v)) (olds v items ++ copies w) =
      subst (λ (k : ℕ). IsReordered (news k items ++ copies (does i v)) (olds v items ++ copies w)) r.number
      (subst (λ (l : List (ℕ × CopyRow)). IsReordered (news (does i v).number items ++ copies (does i v)) (l ++ copies w)) (olds_still i v items parts.0) b.rows) in
      let whole : IsReordered ((object i, row n i) ∷ (news n items ++ copies v)) ((left i x ++ olds v items) ++ copies w) =
      joined (object i, row n i) (left i x) (news n items) (olds v items) (copies v) (copies (does i v)) (copies w) one more in
      record {
        each = (record { old = x; there = finds.0.there; has = finds.0.has; now = (and_parts (test (record x { copies = after n i x })) true now).0 }, passes_back n i v items parts.0 (subst (λ (k : ℕ). AllByRecursion (Passes k (does i v)) items) r.number b.each));
        all = all_come test (turned r.all) b.all (and_from (test x) true finds.0.passes refl);
        rows = subst (λ (o : Option Version). IsReordered (news n (i ∷ items) ++ copies v) ((option_map_or (left i) o [] ++ olds v items) ++ copies w)) (sym finds.0.there) whole;
      }
