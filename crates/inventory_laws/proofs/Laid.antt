-- What a valid database says of copies that came: their segments lie rightly, clear of one another and of what lies there.
use Rattle.std.proofs.Common.{◌≡◌, ℕ, ◌+◌, ◌%◌, ◌≤◌, Bool, true, false, cond, eqb, not, ◌&&◌, ◌||◌, List, [], ◌∷◌, ◌++◌, map, Option, Some, None, is_some, refl, sym, ap, subst, ◌∙◌, arith}
use Rattle.std.specs.Prelude.{◌==◌, nat_le}
use Rattle.std.specs.List.{filter, list_all}
use Rattle.std.specs.Option.{option_map_or}
use Rattle.std.proofs.lemmas.Bool.{and_parts, and_from, eq-eqb, eqb-false, eqb-true, leb-true, le-leb, ne_eqb}
use Rattle.std.proofs.lemmas.List.{map-append}
use Rattle.std.proofs.lemmas.List.Concat.{flat_map-append}
use Rattle.kinds.specs.declared.segment.Segment.{Segment}
use Rattle.inventory_rules.specs.inventory_rows.version_groups.declared.copies.CopyRow.{CopyRow}
use Rattle.inventory_rules.specs.inventory_rows.version_groups.Entries.{all_later}
use Rattle.inventory_rules.specs.inventory_rows.volume_rows.declared.volume.Volume.{Volume}
use Rattle.inventory_rules.specs.inventory_rows.pool_tables.Rows.{row_at}
use Rattle.inventory_rules.proofs.of_inventory_rows.of_pool_tables.Counting.{each_there}
use Rattle.inventory_rules.specs.inventory_rows.pool_rows.PoolRows.{PoolRows, is_sequential, is_sequential_at, is_sequential_row, pool_capacity}
use Rattle.inventory_rules.specs.inventory_rows.Search.{copies, is_primary_kind, pool, segments_on}
use Rattle.inventory_rules.specs.inventory_rows.State.{Inv}
use Rattle.inventory_rules.specs.Common.{with_clients, with_stores}
use Rattle.inventory_rules.specs.Halfway.{pending_on, segments_of}
use Rattle.inventory_rules.specs.Reordered.{IsReordered}
use Rattle.inventory_rules.specs.Segments.{are_clear, lies_rightly}
use Rattle.inventory_rules.specs.Valid.{are_disjoint, copies_cite, is_emptied_rightly, is_of_pool, is_placed, is_sized, is_volume, may_have, volumes_are}
use Rattle.inventory_laws.specs.Coming.{in_pool, in_pools, is_clear_of, is_clear_there, MayCome, of_object}
use Rattle.inventory_laws.specs.Kept.{is_cited, nothing, OnlyVolumes, shape_of}
use Rattle.inventory_laws.proofs.Coming.{map-in_pool}
use Rattle.inventory_laws.proofs.Keeping.{clear_kept, lies_kept, sequential_kept}
use Rattle.inventory_laws.proofs.Orders.{filter-append, list_all-reordered, reordered-flat_map}
use Rattle.inventory_laws.proofs.Swapping.{on_file, pending-segments_of}
use Rattle.inventory_laws.proofs.Volume.{disjoint-reordered}
use Rattle.inventory_laws.proofs.VolumeRows.{all_later-same, all_same, each_of_all, list_all-append, list_all-parts}

-- ---- what is said of the segments on a volume

pub record IsLaid (q : Bool) (w : Inv) (volume : Volume) (segments : List (ℕ × Segment)) : Type 0 where
  pub sized : is_sized q w volume ≡ true
  pub placed : list_all (λ e. is_placed q volume e.1) segments ≡ true
  pub apart : are_disjoint q segments ≡ true

-- and on each
abbrev pub AreLaid : Inv → List (ℕ × Segment) → Type 0
AreLaid w there = (file : ℕ) (volume : Volume) → row_at file w.stores.volumes ≡ Some volume → IsLaid (is_sequential volume.pool w.stores) w volume (pending_on file there)

-- but for the first
laid_behind : (w : Inv) (x : ℕ × Segment) (there : List (ℕ × Segment)) → AreLaid w (x ∷ there) → AreLaid w there
laid_behind w x there h file volume found = go (x.1.file == file) (h file volume found) where
  go : (b : Bool) → IsLaid (is_sequential volume.pool w.stores) w volume (cond {A = List (ℕ × Segment)} b (x ∷ pending_on file there) (pending_on file there)) → IsLaid (is_sequential volume.pool w.stores) w volume (pending_on file there)
  go true l = record {
    sized = l.sized;
    placed = (and_parts (is_placed (is_sequential volume.pool w.stores) volume x.1) (list_all (λ e. is_placed (is_sequential volume.pool w.stores) volume e.1) (pending_on file there)) l.placed).1;
    apart = (and_parts (list_all (λ e. are_clear (is_sequential volume.pool w.stores) x.1 e.1) (pending_on file there)) (are_disjoint (is_sequential volume.pool w.stores) (pending_on file there)) l.apart).1;
  }
  go false l = l

-- a segment that is placed on a volume within its capacity lies rightly
lies_so : (q : Bool) (w : Inv) (volume : Volume) (n : ℕ) (s : Segment) → is_sized q w volume ≡ true → (volume.pool == n) ≡ true → is_placed q volume s ≡ true → lies_rightly q n s (Some volume) ≡ true
lies_so true w volume n s sized of placed =
    let end : ℕ = s.offset + 32 + s.len in
    let parts = and_parts (nat_le end volume.end) true placed in
    let within = and_parts (option_map_or (λ capacity. volume.capacity == capacity) (pool_capacity volume.pool w.stores) false) (nat_le volume.end volume.capacity) sized in
    let one : end ≤ volume.end = leb-true end volume.end parts.0 in
    let two : volume.end ≤ volume.capacity = leb-true volume.end volume.capacity within.1 in
    and_from (volume.pool == n) (nat_le end volume.capacity && true) of (and_from (nat_le end volume.capacity) true (le-leb end volume.capacity (omega (arith, one, two))) refl)
lies_so false w volume n s sized of placed = and_from (volume.pool == n) (nat_le (s.offset + 32 + s.len) volume.capacity && (s.offset % 4096 == 0)) of placed

swaps : (a b : ℕ) → eqb a b ≡ eqb b a
swaps a b = elim (eqb a b) as (λ t. eqb a b ≡ t → t ≡ eqb b a) [ true ↦ λ h. sym (eq-eqb b a (sym (eqb-true a b h))) | false ↦ λ h. sym (ne_eqb b a (λ e. eqb-false a b h (sym e))) ] refl

-- of all those behind it, a segment is clear of those on its volume
clear_behind : (q : Bool) (s : Segment) (rest : List (ℕ × Segment)) → list_all (λ e. are_clear q s e.1) (pending_on s.file rest) ≡ true → list_all (λ b. not (s.file == b.1.file) || are_clear q s b.1) rest ≡ true
clear_behind q s [] h = refl
clear_behind q s (b ∷ rest) h =
    let flips : (b.1.file == s.file) ≡ (s.file == b.1.file) = swaps b.1.file s.file in
    elim (b.1.file == s.file) as (λ t. (b.1.file == s.file) ≡ t → list_all (λ e. are_clear q s e.1) (cond {A = List (ℕ × Segment)} t (b ∷ pending_on s.file rest) (pending_on s.file rest)) ≡ true
    → ((not (s.file == b.1.file) || are_clear q s b.1) && list_all (λ b. not (s.file == b.1.file) || are_clear q s b.1) rest) ≡ true) [
      | true ↦ λ on t.
          let parts = and_parts (are_clear q s b.1) (list_all (λ e. are_clear q s e.1) (pending_on s.file rest)) t in
          and_from (not (s.file == b.1.file) || are_clear q s b.1) (list_all (λ b. not (s.file == b.1.file) || are_clear q s b.1) rest)
          (ap (λ c. not c || are_clear q s b.1) (sym flips ∙ on) ∙ parts.0) (clear_behind q s rest parts.1)
      | false ↦ λ off t.
          and_from (not (s.file == b.1.file) || are_clear q s b.1) (list_all (λ b. not (s.file == b.1.file) || are_clear q s b.1) rest)
          (ap (λ c. not c || are_clear q s b.1) (sym flips ∙ off)) (clear_behind q s rest t)
    ] refl h

-- ---- one segment

record HasCome (w : Inv) (x : ℕ × Segment) (rest others : List (ℕ × Segment)) : Type 0 where
  lie : lies_rightly (is_sequential_at x.1.file w.stores) x.0 x.1 (row_at x.1.file w.stores.volumes) ≡ true
  clear : is_clear_there others (with_clients nothing w) x.1 ≡ true
  apart : list_all (λ b. is_clear_of w x.1 b.1) rest ≡ true

first_there : (x : ℕ × Segment) (there : List (ℕ × Segment)) → pending_on x.1.file (x ∷ there) ≡ x ∷ pending_on x.1.file there
first_there x there = ap (λ c. cond {A = List (ℕ × Segment)} c (x ∷ pending_on x.1.file there) (pending_on x.1.file there)) (eq-eqb x.1.file x.1.file refl)

one_came : (w : Inv) (x : ℕ × Segment) (rest others : List (ℕ × Segment)) → AreLaid w (x ∷ (rest ++ others)) → is_of_pool x.0 (row_at x.1.file w.stores.volumes) ≡ true → HasCome w x rest others
one_came w x rest others h of = go (row_at x.1.file w.stores.volumes) refl of where
  go : (o : Option Volume) → row_at x.1.file w.stores.volumes ≡ o → is_of_pool x.0 o ≡ true → HasCome w x rest others
  go None found t = absurd cc
  go (Some volume) found t =
      let q : Bool = is_sequential volume.pool w.stores in
      let kind : is_sequential_at x.1.file w.stores ≡ q = ap (is_sequential_row w.stores) found in
      let both : pending_on x.1.file (x ∷ (rest ++ others)) ≡ x ∷ (pending_on x.1.file rest ++ pending_on x.1.file others) =
      first_there x (rest ++ others) ∙ ap (λ (l : List (ℕ × Segment)). x ∷ l) (filter-append (λ (e : ℕ × Segment). e.1.file == x.1.file) rest others) in
      let laid : IsLaid q w volume (x ∷ (pending_on x.1.file rest ++ pending_on x.1.file others)) = subst (IsLaid q w volume) both (h x.1.file volume found) in
      let placed = and_parts (is_placed q volume x.1) (list_all (λ e. is_placed q volume e.1) (pending_on x.1.file rest ++ pending_on x.1.file others)) laid.placed in
      let apart = and_parts (list_all (λ e. are_clear q x.1 e.1) (pending_on x.1.file rest ++ pending_on x.1.file others)) (are_disjoint q (pending_on x.1.file rest ++ pending_on x.1.file others)) laid.apart in
      let sides = list_all-parts (λ (e : ℕ × Segment). are_clear q x.1 e.1) (pending_on x.1.file rest) (pending_on x.1.file others) apart.0 in
      record {
        lie = ap (λ b. lies_rightly b x.0 x.1 (row_at x.1.file w.stores.volumes)) kind ∙ ap (lies_rightly q x.0 x.1) found ∙ lies_so q w volume x.0 x.1 laid.sized t placed.0;
        clear = ap (λ b. list_all (λ (e : ℕ × Segment). are_clear b x.1 e.1) (pending_on x.1.file others)) kind ∙ sides.1;
        apart = ap (λ c. list_all (λ (b : ℕ × Segment). not (x.1.file == b.1.file) || are_clear c x.1 b.1) rest) kind ∙ clear_behind q x.1 rest sides.0;
      }

-- ---- all

all_came : (w : Inv) (coming others : List (ℕ × Segment)) → AreLaid w (coming ++ others) → list_all (λ e. is_of_pool e.0 (row_at e.1.file w.stores.volumes)) coming ≡ true → MayCome others (with_clients nothing w) coming
all_came w [] others h of = record { lie = refl; clear = refl; apart = refl }
all_came w (x ∷ coming) others h of =
    let parts = and_parts (is_of_pool x.0 (row_at x.1.file w.stores.volumes)) (list_all (λ e. is_of_pool e.0 (row_at e.1.file w.stores.volumes)) coming) of in
    let one : HasCome w x coming others = one_came w x coming others h parts.0 in
    let more : MayCome others (with_clients nothing w) coming = all_came w coming others (laid_behind w x (coming ++ others) h) parts.1 in
    record {
      lie = and_from (lies_rightly (is_sequential_at x.1.file w.stores) x.0 x.1 (row_at x.1.file w.stores.volumes)) (list_all (λ e. lies_rightly (is_sequential_at e.1.file w.stores) e.0 e.1 (row_at e.1.file w.stores.volumes)) coming) one.lie more.lie;
      clear = and_from (is_clear_there others (with_clients nothing w) x.1) (list_all (λ e. is_clear_there others (with_clients nothing w) e.1) coming) one.clear more.clear;
      apart = and_from (list_all (λ b. is_clear_of w x.1 b.1) coming) (all_later (λ a b. is_clear_of w a.1 b.1) coming) one.apart more.apart;
    }

-- ---- what is said of segments doesn't look at what stands with them

bare : List (ℕ × Segment) → List Segment
bare xs = map (λ (e : ℕ × Segment). e.1) xs

all_bare : (t : Segment → Bool) (file : ℕ) (xs : List (ℕ × Segment)) → list_all (λ e. t e.1) (pending_on file xs) ≡ list_all t (filter (λ s. s.file == file) (bare xs))
unfolding bare
all_bare t file [] = refl
all_bare t file (x ∷ xs) =
    elim (x.1.file == file) as (λ b. list_all (λ (e : ℕ × Segment). t e.1) (cond {A = List (ℕ × Segment)} b (x ∷ pending_on file xs) (pending_on file xs)) ≡ list_all t (cond {A = List Segment} b (x.1 ∷ filter (λ s. s.file == file) (bare xs)) (filter (λ s. s.file == file) (bare xs)))) [
      | true ↦ ap (λ b. t x.1 && b) (all_bare t file xs)
      | false ↦ all_bare t file xs
    ]

later_bare : (q : Bool) (file : ℕ) (xs : List (ℕ × Segment)) → are_disjoint q (pending_on file xs) ≡ all_later (λ a b. are_clear q a b) (filter (λ s. s.file == file) (bare xs))
unfolding bare
later_bare q file [] = refl
later_bare q file (x ∷ xs) =
    elim (x.1.file == file) as (λ b. are_disjoint q (cond {A = List (ℕ × Segment)} b (x ∷ pending_on file xs) (pending_on file xs)) ≡ all_later (λ a b. are_clear q a b) (cond {A = List Segment} b (x.1 ∷ filter (λ s. s.file == file) (bare xs)) (filter (λ s. s.file == file) (bare xs)))) [
      | true ↦ ap (λ b. b && are_disjoint q (pending_on file xs)) (all_bare (are_clear q x.1) file xs) ∙ ap (λ b. list_all (are_clear q x.1) (filter (λ s. s.file == file) (bare xs)) && b) (later_bare q file xs)
      | false ↦ later_bare q file xs
    ]

laid_bare : (w : Inv) (xs ys : List (ℕ × Segment)) → bare xs ≡ bare ys → AreLaid w xs → AreLaid w ys
laid_bare w xs ys same h file volume found =
    let q : Bool = is_sequential volume.pool w.stores in
    let l : IsLaid q w volume (pending_on file xs) = h file volume found in
    record {
      sized = l.sized;
      placed = all_bare (is_placed q volume) file ys ∙ ap (λ (ss : List Segment). list_all (is_placed q volume) (filter (λ s. s.file == file) ss)) (sym same) ∙ sym (all_bare (is_placed q volume) file xs) ∙ l.placed;
      apart = later_bare q file ys ∙ ap (λ (ss : List Segment). all_later (λ a b. are_clear q a b) (filter (λ s. s.file == file) ss)) (sym same) ∙ sym (later_bare q file xs) ∙ l.apart;
    }

-- the segments of some copies, each with its pool
abbrev pub by_pool : List (ℕ × CopyRow) → List (ℕ × Segment)
by_pool rows = in_pools (λ (e : ℕ × CopyRow). e.1.pool) (λ e. e.1.segments) rows

bare_object : (object : ℕ) (ss : List Segment) → bare (of_object object ss) ≡ ss
unfolding bare
bare_object object [] = refl
bare_object object (s ∷ ss) = ap (λ (l : List Segment). s ∷ l) (bare_object object ss)

bare_rows : (rows : List (ℕ × CopyRow)) → bare (by_pool rows) ≡ bare (segments_of rows)
unfolding bare
bare_rows [] = refl
bare_rows (e ∷ rows) =
    map-append (λ (x : ℕ × Segment). x.1) (in_pool e.1.pool e.1.segments) (by_pool rows)
    ∙ ap (λ (l : List Segment). l ++ bare (by_pool rows)) (map-in_pool e.1.pool e.1.segments ∙ sym (bare_object e.0 e.1.segments))
    ∙ ap (λ (l : List Segment). bare (of_object e.0 e.1.segments) ++ l) (bare_rows rows)
    ∙ sym (map-append (λ (x : ℕ × Segment). x.1) (of_object e.0 e.1.segments) (segments_of rows))

bare_both : (xs ys : List (ℕ × Segment)) → bare (xs ++ ys) ≡ bare xs ++ bare ys
unfolding bare
bare_both xs ys = map-append (λ (x : ℕ × Segment). x.1) xs ys

segments_both : (a b : List (ℕ × CopyRow)) → segments_of (a ++ b) ≡ segments_of a ++ segments_of b
segments_both a b = flat_map-append (λ (e : ℕ × CopyRow). map (λ s. (e.0, s)) e.1.segments) a b

-- ---- a valid database

laid_rows : (w : Inv) (rows : List (ℕ × CopyRow)) → volumes_are w ≡ true → IsReordered (copies w) rows → AreLaid w (segments_of rows)
laid_rows w rows are order file volume found =
    let q : Bool = is_sequential volume.pool w.stores in
    let here : is_volume w (file, volume) ≡ true = each_there (λ (f : ℕ × Volume). is_volume w f ≡ true) file volume w.stores.volumes found (each_of_all (is_volume w) w.stores.volumes are) in
    let there : List (ℕ × Segment) = segments_on file w in
    let access : Bool = may_have volume.access (option_map_or (λ p. is_primary_kind p.kind) (pool volume.pool w) false) in
    let one = and_parts (is_sized q w volume) (access && (are_disjoint q there && (list_all (λ e. is_placed q volume e.1) there && is_emptied_rightly q volume there))) here in
    let two = and_parts access (are_disjoint q there && (list_all (λ e. is_placed q volume e.1) there && is_emptied_rightly q volume there)) one.1 in
    let three = and_parts (are_disjoint q there) (list_all (λ e. is_placed q volume e.1) there && is_emptied_rightly q volume there) two.1 in
    let four = and_parts (list_all (λ e. is_placed q volume e.1) there) (is_emptied_rightly q volume there) three.1 in
    let same : IsReordered there (on_file file rows) = reordered-flat_map (λ (e : ℕ × CopyRow). map (λ s. (e.0, s)) (filter (λ s. s.file == file) e.1.segments)) (copies w) rows order in
    record {
      sized = one.0;
      placed = ap (list_all (λ e. is_placed q volume e.1)) (pending-segments_of file rows) ∙ sym (list_all-reordered (λ (e : ℕ × Segment). is_placed q volume e.1) there (on_file file rows) same) ∙ four.0;
      apart = ap (are_disjoint q) (pending-segments_of file rows) ∙ sym (disjoint-reordered q there (on_file file rows) same) ∙ three.0;
    }

cited_rows : (w : Inv) (rows : List (ℕ × CopyRow)) → list_all (is_cited w) rows ≡ true → list_all (λ e. is_of_pool e.0 (row_at e.1.file w.stores.volumes)) (by_pool rows) ≡ true
cited_rows w [] h = refl
cited_rows w (e ∷ rows) h =
    let parts = and_parts (is_cited w e) (list_all (is_cited w) rows) h in
    let its = and_parts (is_some (pool e.1.pool w)) (list_all (λ s. is_of_pool e.1.pool (row_at s.file w.stores.volumes)) e.1.segments) parts.0 in
    list_all-append (λ (x : ℕ × Segment). is_of_pool x.0 (row_at x.1.file w.stores.volumes)) (in_pool e.1.pool e.1.segments) (by_pool rows) (in_one e.1.segments its.1) (cited_rows w rows parts.1)
  where
    in_one : (ss : List Segment) → list_all (λ s. is_of_pool e.1.pool (row_at s.file w.stores.volumes)) ss ≡ true → list_all (λ (x : ℕ × Segment). is_of_pool x.0 (row_at x.1.file w.stores.volumes)) (in_pool e.1.pool ss) ≡ true
    in_one [] t = refl
    in_one (s ∷ ss) t =
        let two = and_parts (is_of_pool e.1.pool (row_at s.file w.stores.volumes)) (list_all (λ s. is_of_pool e.1.pool (row_at s.file w.stores.volumes)) ss) t in
        and_from (is_of_pool e.1.pool (row_at s.file w.stores.volumes)) (list_all (λ (x : ℕ × Segment). is_of_pool x.0 (row_at x.1.file w.stores.volumes)) (in_pool e.1.pool ss)) two.0 (in_one ss two.1)

-- the volumes are those that were there, with their pools and capacities; all else of the stores is as it was
pub record SameShapes (u w : Inv) : Type 0 where
  pub stores : w.stores ≡ record u.stores { volumes = w.stores.volumes }
  pub shapes : (file : ℕ) → shape_of (row_at file w.stores.volumes) ≡ shape_of (row_at file u.stores.volumes)

-- copies that came to a database which is valid with them could come
pub rows_came : (u w : Inv) (news stay : List (ℕ × CopyRow)) → SameShapes u w → copies_cite w ≡ true → volumes_are w ≡ true → IsReordered (copies w) (news ++ stay) → MayCome (segments_of stay) (with_clients nothing u) (by_pool news)
rows_came u w news stay same cite are order =
    let whole : AreLaid w (segments_of (news ++ stay)) = laid_rows w (news ++ stay) are order in
    let tags : bare (segments_of (news ++ stay)) ≡ bare (by_pool news ++ segments_of stay) =
    ap bare (segments_both news stay) ∙ bare_both (segments_of news) (segments_of stay) ∙ ap (λ (l : List Segment). l ++ bare (segments_of stay)) (sym (bare_rows news)) ∙ sym (bare_both (by_pool news) (segments_of stay)) in
    let laid : AreLaid w (by_pool news ++ segments_of stay) = laid_bare w (segments_of (news ++ stay)) (by_pool news ++ segments_of stay) tags whole in
    let all : list_all (is_cited w) (news ++ stay) ≡ true = sym (list_all-reordered (is_cited w) (copies w) (news ++ stay) order) ∙ cite in
    let came : MayCome (segments_of stay) (with_clients nothing w) (by_pool news) = all_came w (by_pool news) (segments_of stay) laid (cited_rows w news (list_all-parts (is_cited w) news stay all).0) in
    let v : Inv = with_clients nothing u in
    let x : Inv = with_stores w.stores v in
    let k : OnlyVolumes v x = record { only = ap (λ (s : PoolRows). with_stores s v) same.stores; shapes = same.shapes } in
    record {
      lie = sym (all_same (λ e. lies_rightly (is_sequential_at e.1.file x.stores) e.0 e.1 (row_at e.1.file x.stores.volumes)) (λ e. lies_rightly (is_sequential_at e.1.file v.stores) e.0 e.1 (row_at e.1.file v.stores.volumes)) (λ e. lies_kept v x k e.0 e.1) (by_pool news)) ∙ came.lie;
      clear = sym (all_same (λ e. is_clear_there (segments_of stay) x e.1) (λ e. is_clear_there (segments_of stay) v e.1) (λ e. clear_kept v x k (segments_of stay) e.1) (by_pool news)) ∙ came.clear;
      apart = sym (all_later-same (λ a b. is_clear_of x a.1 b.1) (λ a b. is_clear_of v a.1 b.1) (λ a b. ap (λ c. not (a.1.file == b.1.file) || are_clear c a.1 b.1) (sequential_kept v x k a.1.file)) (by_pool news)) ∙ came.apart;
    }
