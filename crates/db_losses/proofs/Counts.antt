-- What is left has no more items.
use Rattle.std.proofs.Common.{◌≡◌, ℕ, ◌+◌, ◌<◌, ◌≤◌, ◌^◌, true, not, List, [], ◌∷◌, ◌++◌, length, map, refl, ap, length-append, arith}
use Rattle.std.proofs.lemmas.Bool.{leb-true}
use Rattle.inventory_rows.specs.version_groups.declared.copies.CopyRow.{CopyRow}
use Rattle.inventory_rows.specs.version_groups.declared.group.Group.{Group}
use Rattle.inventory_rows.specs.version_groups.declared.groups.Filespace.{Filespace}
use Rattle.inventory_rows.specs.version_groups.declared.versions.Version.{Version}
use Rattle.inventory_rows.specs.object_rows.Rows.{Rows, kept_of}
use Rattle.inventory_rows.specs.Items.{count_items, items_of_version, most_items}
use Rattle.inventory_rows.specs.Search.{versions}
use Rattle.inventory_rows.specs.State.{Inv}
use Rattle.inventory_rules.specs.Facts.{Facts}
use Rattle.inventory_rules.specs.Valid.{is_valid}
use Rattle.inventory_laws.proofs.Facts.{facts_of}
use Rattle.inventory_laws.proofs.Flat.{in_kept, in_rows}
use Rattle.inventory_laws.proofs.Weights.{weigh, weigh-cons, weigh-filter, rows, rows-cons}
use Rattle.db_losses.specs.Losses.{Losses, copies_in, is_lost, version_left, has_copies, versions_left, group_left, has_versions, groups_left, filespace_left, rows_left}
use Rattle.db_losses.proofs.Flat.{kept_left}
use Rattle.db_losses.proofs.Kept.{shorter}

-- how many groups a filespace has
abbrev groups_of : Filespace → ℕ
groups_of f = length f.groups

module _ (losses : Losses) where
  version_less : (w : Version) → items_of_version (version_left losses w) ≤ items_of_version w
  version_less w = weigh-filter (λ (c : CopyRow). length c.segments) (λ c. not (is_lost losses w.object c.pool)) w.copies

  less_more : (a b c d n m : ℕ) → a ≡ 1 + (n + b) → c ≡ 1 + (m + d) → n ≤ m → b ≤ d → a ≤ c
  less_more a b c d n m h g less below = omega (arith, h, g, less, below)

  versions_less : (vs : List Version) → weigh items_of_version (map (version_left losses) vs) ≤ weigh items_of_version vs
  versions_less [] = omega arith
  versions_less (w ∷ vs) =
      less_more (weigh items_of_version (map (version_left losses) (w ∷ vs))) (weigh items_of_version (map (version_left losses) vs)) (weigh items_of_version (w ∷ vs)) (weigh items_of_version vs) (items_of_version (version_left losses w)) (items_of_version w)
      (weigh-cons items_of_version (version_left losses w) (map (version_left losses) vs)) (weigh-cons items_of_version w vs) (version_less w) (versions_less vs)

  left_less : (vs : List Version) → weigh items_of_version (versions_left losses vs) ≤ weigh items_of_version vs
  left_less vs = (let a = weigh-filter items_of_version has_copies (map (version_left losses) vs) in let b = versions_less vs in omega (arith, a, b))

  mapped_length : (gs : List (List ℕ × Group)) → length (map (group_left losses) gs) ≡ length gs
  mapped_length [] = refl
  mapped_length (g ∷ gs) = (let below = mapped_length gs in omega (arith, below))

  groups_less : (gs : List (List ℕ × Group)) → length (groups_left losses gs) ≤ length gs
  groups_less gs = (let a = shorter has_versions (map (group_left losses) gs) in let b = mapped_length gs in omega (arith, a, b))

  spaces_less : (fs : List (ℕ × Filespace)) → rows groups_of (map (filespace_left losses) fs) ≤ rows groups_of fs
  spaces_less [] = omega arith
  spaces_less (f ∷ fs) =
      less_more (rows groups_of (map (filespace_left losses) (f ∷ fs))) (rows groups_of (map (filespace_left losses) fs)) (rows groups_of (f ∷ fs)) (rows groups_of fs) (length (groups_left losses f.1.groups)) (length f.1.groups)
      (rows-cons groups_of (filespace_left losses f) (map (filespace_left losses) fs)) (rows-cons groups_of f fs) (groups_less f.1.groups) (spaces_less fs)

  pub rows_less : (r : Rows) → in_rows (rows_left losses r) ≤ in_rows r
  rows_less r =
      let a = in_kept (rows_left losses r) in
      let b = in_kept r in
      let c = spaces_less r.filespaces in
      let d = left_less (kept_of r) in
      let e : weigh items_of_version (kept_of (rows_left losses r)) ≡ weigh items_of_version (versions_left losses (kept_of r)) = ap (weigh items_of_version) (kept_left losses r) in
      omega (arith, a, b, c, d, e)

-- ---- copies are items

length-with : (object : ℕ) (cs : List CopyRow) → length {A = ℕ × CopyRow} (map (λ (c : CopyRow). (object, c)) cs) ≡ length cs
length-with object [] = refl
length-with object (c ∷ cs) = (let below = length-with object cs in omega (arith, below))

copies_are_items : (vs : List Version) → length (copies_in vs) ≤ weigh items_of_version vs
copies_are_items [] = omega arith
copies_are_items (w ∷ vs) =
    let below = copies_are_items vs in
    let here = length-with w.object w.copies in
    let joined = length-append (map (λ (c : CopyRow). (w.object, c)) w.copies) (copies_in vs) in
    let more = weigh-cons items_of_version w vs in
    omega (arith, below, here, joined, more)

pub copies_joined : (xs ys : List Version) → length (copies_in (xs ++ ys)) ≡ length (copies_in xs) + length (copies_in ys)
copies_joined [] ys = omega arith
copies_joined (x ∷ xs) ys =
    let below = copies_joined xs ys in
    let one = length-append (map (λ (c : CopyRow). (x.object, c)) x.copies) (copies_in (xs ++ ys)) in
    let two = length-append (map (λ (c : CopyRow). (x.object, c)) x.copies) (copies_in xs) in
    omega (arith, below, one, two)

-- a valid database has no more copies than items
pub few_copies : (v : Inv) → is_valid v ≡ true → length (copies_in (versions v)) < 2 ^ 64
few_copies v valid =
    let f : Facts v = facts_of v valid in
    let few : count_items v ≤ most_items = leb-true (count_items v) most_items f.few_items in
    let all = copies_are_items (versions v) in
    let kept = in_kept v.clients in
    omega (arith, few, all, kept)
