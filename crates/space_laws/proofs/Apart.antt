-- The places of one object have nothing in common.
use Rattle.std.proofs.Common.{◌≡◌, ℕ, ◌+◌, ◌-◌, ◌<◌, ◌≤◌, Bool, true, false, List, [], ◌∷◌, ◌++◌, map, Option, Some, None, zero, suc, refl, sym, ap, subst, ◌∙◌, arith, inl, inr, ◌⊎◌}
use Rattle.std.specs.Prelude.{◌≢◌, ◌==◌, ◌&&◌, ◌||◌, not, nat_le, if◌then◌else◌}
use Rattle.std.specs.List.{AllByRecursion, flat_map}
use Rattle.std.specs.List.Sorted.{IsStrictlySortedBy}
use Rattle.std.specs.Map.{keys_of}
use Rattle.std.specs.Ordering.{nat_cmp}
use Rattle.std.specs.declared.cmp.Ordering.TheVariants.{Less}
use Rattle.std.proofs.lemmas.Bool.{cases_eq, eq-eqb, ne_eqb}
use Rattle.std.proofs.lemmas.Map.Keys.{sorted_head, sorted_tail}
use Rattle.volume_rows.specs.declared.volume.Volume.{Volume}
use Rattle.extent_map.specs.declared.extents.Run.{Run}
use Rattle.extent_map.specs.Blocks.{end_of, free_runs, Ascend}
use Rattle.extent_map.proofs.FreeRuns.{Ascend-weaker, Ascend-free_runs, HaveBlocks, HaveBlocks-free_runs}
use Rattle.inventory_rows.specs.pool_rows.PoolRows.{PoolRows, pool_capacity}
use Rattle.space.specs.declared.counted.Counted.{Counted}
use Rattle.space.specs.declared.piece.Piece.{Piece}
use Rattle.space.specs.declared.places.Placed.{Placed}
use Rattle.space.specs.declared.request.Request.{Request}
use Rattle.space.specs.Claims.{Claims, counted}
use Rattle.space.specs.declared.site.Site.{Site}
use Rattle.space.specs.declared.turn.Turn.{Turn}
use Rattle.space.specs.declared.turn.Turn.TheVariants.{Preferred, Filling, Empty}
use Rattle.space.specs.Volumes.{site_of, sites, has_tail, is_filling, is_empty, is_held, is_open}
use Rattle.space.specs.Pieces.{run_piece, used_on, free_pieces, open_pieces, preferred_pieces, other_pieces, random_pieces, tail_piece, is_in_turn, tail_in, tails_in, tails, scratch_pieces, scratch_left, sequential_pieces, pieces_by, pieces, cut, filled}
use Rattle.space.specs.Placing.{placed}
use Rattle.space_laws.specs.Apart.{IsBefore, AllApart}
use Rattle.space_laws.specs.Chosen.{IsWhole}

-- a piece lies on another volume than a later one, or before it
abbrev PieceBefore : Piece → Piece → Type 0
PieceBefore p q = (p.file ≢ q.file) ⊎ (p.offset + 32 + p.room ≤ q.offset)

abbrev PiecesApart : List Piece → Type 0
PiecesApart [] = Unit {0}
PiecesApart (p ∷ ps) = AllByRecursion (PieceBefore p) ps × PiecesApart ps

all_append : (P : Piece → Type 0) (xs ys : List Piece) → AllByRecursion P xs → AllByRecursion P ys → AllByRecursion P (xs ++ ys)
all_append P [] ys all rest = rest
all_append P (p ∷ xs) ys all rest = (all.0, all_append P xs ys all.1 rest)

all_weaker : (P Q : Piece → Type 0) → ((p : Piece) → P p → Q p) → (xs : List Piece) → AllByRecursion P xs → AllByRecursion Q xs
all_weaker P Q f [] all = tt
all_weaker P Q f (p ∷ xs) all = (f p all.0, all_weaker P Q f xs all.1)

-- pieces of some volumes, and then of others
apart_append : (P Q : ℕ → Type 0) → ((a b : ℕ) → P a → Q b → a ≢ b) → (xs ys : List Piece) → AllByRecursion (λ p. P p.file) xs → AllByRecursion (λ p. Q p.file) ys → PiecesApart xs → PiecesApart ys → PiecesApart (xs ++ ys)
apart_append P Q other [] ys on-x on-y apart-x apart-y = apart-y
apart_append P Q other (p ∷ xs) ys on-x on-y apart-x apart-y = (
  all_append (PieceBefore p) xs ys apart-x.0 (all_weaker (λ q. Q q.file) (PieceBefore p) (λ q is. inl (other p.file q.file on-x.0 is)) ys on-y),
  apart_append P Q other xs ys on-x.1 on-y apart-x.1 apart-y,
)

-- ---- the free runs of a volume

runs_from : (at : ℕ) (runs : List Run) → Ascend at runs → AllByRecursion (λ r. at ≤ r.first) runs
runs_from at [] ascend = tt
runs_from at (r ∷ runs) ascend = (ascend.0, runs_from at runs (Ascend-weaker at (end_of r) runs (omega (arith, ascend.0)) ascend.1))

run_before : (file : ℕ) (r : Run) → 0 < r.blocks → (runs : List Run) → AllByRecursion (λ q. end_of r ≤ q.first) runs → AllByRecursion (PieceBefore (run_piece file r)) (map (run_piece file) runs)
run_before file r some [] all = tt
run_before file r some (q ∷ runs) all = (inr (omega (arith, some, all.0)), run_before file r some runs all.1)

runs_apart : (file at : ℕ) (runs : List Run) → Ascend at runs → HaveBlocks runs → PiecesApart (map (run_piece file) runs)
runs_apart file at [] ascend have = tt
runs_apart file at (r ∷ runs) ascend have = (run_before file r have.0 runs (runs_from (end_of r) runs ascend.1), runs_apart file (end_of r) runs ascend.1 have.1)

runs_on : (file : ℕ) (runs : List Run) → AllByRecursion (λ p. p.file ≡ file) (map (run_piece file) runs)
runs_on file [] = tt
runs_on file (r ∷ runs) = (refl, runs_on file runs)

-- the pieces of a volume lie on it, and apart
record AreOn (file : ℕ) (ps : List Piece) : Type 0 where
  on : AllByRecursion (λ p. p.file ≡ file) ps
  apart : PiecesApart ps

none_on : (file : ℕ) → AreOn file []
none_on file = record { on = tt; apart = tt }

if_on : (b : Bool) (file : ℕ) (ps : List Piece) → AreOn file ps → AreOn file (if b then ps else [])
if_on true file ps are = are
if_on false file ps are = none_on file

unless_on : (b : Bool) (file : ℕ) (ps : List Piece) → AreOn file ps → AreOn file (if b then [] else ps)
unless_on true file ps are = none_on file
unless_on false file ps are = are

free_on : (c : Counted) (f : ℕ × Volume) → AreOn f.0 (free_pieces c f)
free_on c f = record {
  on = runs_on f.0 (free_runs (used_on c f));
  apart = runs_apart f.0 0 (free_runs (used_on c f)) (Ascend-free_runs 0 (used_on c f)) (HaveBlocks-free_runs 0 (used_on c f));
}

open_on : (number avoid : ℕ) (c : Counted) (f : ℕ × Volume) → AreOn f.0 (open_pieces number avoid c f)
open_on number avoid c f = if_on (is_open number avoid (f.0, site_of f.1)) f.0 (free_pieces c f) (free_on c f)

-- ---- the volumes of a pool

module _ {V : Type 0} (g : ℕ × V → List Piece) (on : (f : ℕ × V) → AreOn f.0 (g f)) where
  files_of : (P : ℕ → Type 0) (volumes : List (ℕ × V)) → AllByRecursion P (keys_of volumes) → AllByRecursion (λ p. P p.file) (flat_map g volumes)
  files_of P [] all = tt
  files_of P (f ∷ volumes) all =
      all_append (λ p. P p.file) (g f) (flat_map g volumes) (all_weaker (λ p. p.file ≡ f.0) (λ p. P p.file) (λ p e. subst P (sym e) all.0) (g f) (on f).on) (files_of P volumes all.1)

  volumes_apart : (volumes : List (ℕ × V)) → IsStrictlySortedBy nat_cmp (keys_of volumes) → PiecesApart (flat_map g volumes)
  volumes_apart [] sorted = tt
  volumes_apart (f ∷ volumes) sorted =
      apart_append (λ a. a ≡ f.0) (λ b. nat_cmp f.0 b ≡ Less) (λ a b is above same. less_apart f.0 b above (sym is ∙ same)) (g f) (flat_map g volumes) (on f).on
      (files_of (λ b. nat_cmp f.0 b ≡ Less) volumes (sorted_head nat_cmp f.0 (keys_of volumes) sorted)) (on f).apart (volumes_apart volumes (sorted_tail nat_cmp f.0 (keys_of volumes) sorted)) where
        less_apart : (a b : ℕ) → nat_cmp a b ≡ Less → a ≡ b → ⊥
        less_apart a b less same = grind (arith, less, same)

module _ (number prefer avoid : ℕ) (c : Counted) (s : PoolRows) where
  preferred_files : (volumes : List (ℕ × Volume)) → AllByRecursion (λ p. p.file ≡ prefer) (flat_map (preferred_pieces number prefer avoid c) volumes)
  preferred_files [] = tt
  preferred_files (f ∷ volumes) = all_append (λ p. p.file ≡ prefer) (preferred_pieces number prefer avoid c f) (flat_map (preferred_pieces number prefer avoid c) volumes) (here (cases_eq f.0 prefer)) (preferred_files volumes) where
    here : (f.0 ≡ prefer) ⊎ (f.0 ≡ prefer → ⊥) → AllByRecursion (λ p. p.file ≡ prefer) (preferred_pieces number prefer avoid c f)
    here (inl same) = all_weaker (λ p. p.file ≡ f.0) (λ p. p.file ≡ prefer) (λ p e. e ∙ same) (preferred_pieces number prefer avoid c f) (if_on (f.0 == prefer) f.0 (open_pieces number avoid c f) (open_on number avoid c f)).on
    here (inr other) = subst (λ (b : Bool). AllByRecursion (λ p. p.file ≡ prefer) (if b then open_pieces number avoid c f else [])) (sym (ne_eqb f.0 prefer other)) tt

  other_files : (volumes : List (ℕ × Volume)) → AllByRecursion (λ p. p.file ≢ prefer) (flat_map (other_pieces number prefer avoid c) volumes)
  other_files [] = tt
  other_files (f ∷ volumes) = all_append (λ p. p.file ≢ prefer) (other_pieces number prefer avoid c f) (flat_map (other_pieces number prefer avoid c) volumes) (here (cases_eq f.0 prefer)) (other_files volumes) where
    here : (f.0 ≡ prefer) ⊎ (f.0 ≡ prefer → ⊥) → AllByRecursion (λ p. p.file ≢ prefer) (other_pieces number prefer avoid c f)
    here (inr other) = all_weaker (λ p. p.file ≡ f.0) (λ p. p.file ≢ prefer) (λ p e same. other (sym e ∙ same)) (other_pieces number prefer avoid c f) (unless_on (f.0 == prefer) f.0 (open_pieces number avoid c f) (open_on number avoid c f)).on
    here (inl same) = subst (λ (b : Bool). AllByRecursion (λ p. p.file ≢ prefer) (if b then [] else open_pieces number avoid c f)) (sym (eq-eqb f.0 prefer same)) tt

  random_apart : IsStrictlySortedBy nat_cmp (keys_of s.volumes) → PiecesApart (random_pieces number prefer avoid c s)
  random_apart sorted =
      apart_append (λ a. a ≡ prefer) (λ b. b ≢ prefer) (λ a b is other same. other (sym same ∙ is)) (flat_map (preferred_pieces number prefer avoid c) s.volumes) (flat_map (other_pieces number prefer avoid c) s.volumes)
      (preferred_files s.volumes) (other_files s.volumes)
      (volumes_apart (preferred_pieces number prefer avoid c) (λ f. if_on (f.0 == prefer) f.0 (open_pieces number avoid c f) (open_on number avoid c f)) s.volumes sorted)
      (volumes_apart (other_pieces number prefer avoid c) (λ f. unless_on (f.0 == prefer) f.0 (open_pieces number avoid c f) (open_on number avoid c f)) s.volumes sorted)

-- ---- sequential volumes

record AreOff (p : Piece) (ps : List Piece) : Type 0 where
  off : AllByRecursion (λ q. p.file ≢ q.file) ps

apart_off : (xs ys : List Piece) → AllByRecursion (λ p. AreOff p ys) xs → PiecesApart xs → PiecesApart ys → PiecesApart (xs ++ ys)
apart_off [] ys off apart-x apart-y = apart-y
apart_off (p ∷ xs) ys off apart-x apart-y = (
  all_append (PieceBefore p) xs ys apart-x.0 (all_weaker (λ q. p.file ≢ q.file) (PieceBefore p) (λ q ne. inl ne) ys off.0.off),
  apart_off xs ys off.1 apart-x.1 apart-y,
)

less_is : (a b : ℕ) → nat_cmp a b ≡ Less → a ≡ b → ⊥
less_is a b less same = grind (arith, less, same)

-- of two kinds of volumes, of which each is of one at most
module _ {V : Type 0} (g h : ℕ × V → List Piece) (on-g : (f : ℕ × V) → AreOn f.0 (g f)) (on-h : (f : ℕ × V) → AreOn f.0 (h f)) (one : (f : ℕ × V) → (g f ≡ []) ⊎ (h f ≡ [])) where
  off_here : (f : ℕ × V) → AllByRecursion (λ p. AreOff p (h f)) (g f)
  off_here f = elim (one f) [
    | inl none ↦ subst (λ (l : List Piece). AllByRecursion (λ p. AreOff p (h f)) l) (sym none) tt
    | inr none ↦ all_weaker (λ p. p.file ≡ f.0) (λ p. AreOff p (h f)) (λ p e. record { off = subst (λ (l : List Piece). AllByRecursion (λ q. p.file ≢ q.file) l) (sym none) tt }) (g f) (on-g f).on
  ]

  join_off : (p : Piece) (xs ys : List Piece) → AreOff p xs → AreOff p ys → AreOff p (xs ++ ys)
  join_off p xs ys a b = record { off = all_append (λ q. p.file ≢ q.file) xs ys a.off b.off }

  both_off : (xs ys zs : List Piece) → AllByRecursion (λ p. AreOff p ys) xs → AllByRecursion (λ p. AreOff p zs) xs → AllByRecursion (λ p. AreOff p (ys ++ zs)) xs
  both_off [] ys zs a b = tt
  both_off (p ∷ xs) ys zs a b = (join_off p ys zs a.0 b.0, both_off xs ys zs a.1 b.1)

  kinds_off : (volumes : List (ℕ × V)) → IsStrictlySortedBy nat_cmp (keys_of volumes) → AllByRecursion (λ p. AreOff p (flat_map h volumes)) (flat_map g volumes)
  kinds_off [] sorted = tt
  kinds_off (f ∷ volumes) sorted =
      let above = sorted_head nat_cmp f.0 (keys_of volumes) sorted in
      let later-h = files_of h on-h (λ b. nat_cmp f.0 b ≡ Less) volumes above in
      let later-g = files_of g on-g (λ b. nat_cmp f.0 b ≡ Less) volumes above in
      all_append (λ p. AreOff p (h f ++ flat_map h volumes)) (g f) (flat_map g volumes)
      (both_off (g f) (h f) (flat_map h volumes) (off_here f)
      (all_weaker (λ p. p.file ≡ f.0) (λ p. AreOff p (flat_map h volumes)) (λ p e. record {
        off = all_weaker (λ q. nat_cmp f.0 q.file ≡ Less) (λ q. p.file ≢ q.file) (λ q less same. less_is f.0 q.file less (sym e ∙ same)) (flat_map h volumes) later-h;
      }) (g f) (on-g f).on))
      (both_off (flat_map g volumes) (h f) (flat_map h volumes)
      (all_weaker (λ p. nat_cmp f.0 p.file ≡ Less) (λ p. AreOff p (h f)) (λ p less. record {
        off = all_weaker (λ q. q.file ≡ f.0) (λ q. p.file ≢ q.file) (λ q e same. less_is f.0 p.file less (sym (same ∙ e))) (h f) (on-h f).on;
      }) (flat_map g volumes) later-g)
      (kinds_off volumes (sorted_tail nat_cmp f.0 (keys_of volumes) sorted)))

tail_on : (turn : Turn) (number prefer avoid : ℕ) (others : List Placed) (f : ℕ × Site) → AreOn f.0 (tail_in turn number prefer avoid others f)
tail_on turn number prefer avoid others f =
    if_on (is_open number avoid f && (not (is_held f.0 others) && (is_in_turn turn prefer f && has_tail f.1))) f.0 (tail_piece f ∷ []) (record { on = (refl, tt); apart = (tt, tt) })

-- in two turns no volume comes
never : (turn : Turn) (number prefer avoid : ℕ) (others : List Placed) (f : ℕ × Site) → is_in_turn turn prefer f ≡ false → tail_in turn number prefer avoid others f ≡ []
never turn number prefer avoid others f no_turn =
    ap (λ (b : Bool). if is_open number avoid f && (not (is_held f.0 others) && (b && has_tail f.1)) then tail_piece f ∷ [] else []) no_turn
    ∙ closed (is_open number avoid f) (not (is_held f.0 others)) (tail_piece f ∷ []) where
      closed : (a b : Bool) (l : List Piece) → (if a && (b && false) then l else []) ≡ []
      closed true true l = refl
      closed true false l = refl
      closed false b l = refl

preferred_or_not : (prefer : ℕ) (f : ℕ × Site) → (is_in_turn Preferred prefer f ≡ false) ⊎ ((is_in_turn Filling prefer f ≡ false) × (is_in_turn Empty prefer f ≡ false))
preferred_or_not prefer f =
    elim (f.0 == prefer) as (λ b. ((b && (is_filling f.1 || is_empty f.1)) ≡ false) ⊎ (((not b && is_filling f.1) ≡ false) × ((not b && is_empty f.1) ≡ false))) [
      | true ↦ inr (refl, refl)
      | false ↦ inl refl
    ]

filling_or_not : (prefer : ℕ) (f : ℕ × Site) → (is_in_turn Filling prefer f ≡ false) ⊎ (is_in_turn Empty prefer f ≡ false)
filling_or_not prefer f =
    elim f.1.is_bare as (λ b. ((not (f.0 == prefer) && not b) ≡ false) ⊎ ((not (f.0 == prefer) && (b && f.1.end == 0)) ≡ false)) [
      | true ↦ inl (none (not (f.0 == prefer)))
      | false ↦ inr (none (not (f.0 == prefer)))
    ] where
      none : (a : Bool) → (a && false) ≡ false
      none true = refl
      none false = refl

module _ (number prefer avoid : ℕ) (others : List Placed) (volumes : List (ℕ × Site)) (sorted : IsStrictlySortedBy nat_cmp (keys_of volumes)) where
  turn : Turn → ℕ × Site → List Piece
  turn t f = tail_in t number prefer avoid others f

  apart_in : (t : Turn) → PiecesApart (tails_in t number prefer avoid others volumes)
  apart_in t = volumes_apart (tail_in t number prefer avoid others) (tail_on t number prefer avoid others) volumes sorted

  off_in : (t u : Turn) → ((f : ℕ × Site) → (is_in_turn t prefer f ≡ false) ⊎ (is_in_turn u prefer f ≡ false)) → AllByRecursion (λ p. AreOff p (tails_in u number prefer avoid others volumes)) (tails_in t number prefer avoid others volumes)
  off_in t u one = kinds_off (tail_in t number prefer avoid others) (tail_in u number prefer avoid others) (tail_on t number prefer avoid others) (tail_on u number prefer avoid others)
      (λ f. elim (one f) [ inl no_t ↦ inl (never t number prefer avoid others f no_t) | inr no_u ↦ inr (never u number prefer avoid others f no_u) ]) volumes sorted

  first_two : (f : ℕ × Site) → (is_in_turn Preferred prefer f ≡ false) ⊎ (is_in_turn Filling prefer f ≡ false)
  first_two f = elim (preferred_or_not prefer f) [ inl first ↦ inl first | inr later ↦ inr later.0 ]

  first_last : (f : ℕ × Site) → (is_in_turn Preferred prefer f ≡ false) ⊎ (is_in_turn Empty prefer f ≡ false)
  first_last f = elim (preferred_or_not prefer f) [ inl first ↦ inl first | inr later ↦ inr later.1 ]

  tails_apart : PiecesApart (tails number prefer avoid others volumes)
  tails_apart =
      let ps : List Piece = tails_in Preferred number prefer avoid others volumes in
      let fs : List Piece = tails_in Filling number prefer avoid others volumes in
      let es : List Piece = tails_in Empty number prefer avoid others volumes in
      apart_off (ps ++ fs) es (all_append (λ p. AreOff p es) ps fs (off_in Preferred Empty first_last) (off_in Filling Empty (filling_or_not prefer)))
      (apart_off ps fs (off_in Preferred Filling first_two) (apart_in Preferred) (apart_in Filling)) (apart_in Empty)

  tails_below : (high : ℕ) → AllByRecursion (λ k. k < high) (keys_of volumes) → AllByRecursion (λ p. p.file < high) (tails number prefer avoid others volumes)
  tails_below high below =
      let all : (t : Turn) → AllByRecursion (λ p. p.file < high) (tails_in t number prefer avoid others volumes) = λ t. files_of (tail_in t number prefer avoid others) (tail_on t number prefer avoid others) (λ k. k < high) volumes below in
      all_append (λ p. p.file < high) (tails_in Preferred number prefer avoid others volumes ++ tails_in Filling number prefer avoid others volumes) (tails_in Empty number prefer avoid others volumes)
      (all_append (λ p. p.file < high) (tails_in Preferred number prefer avoid others volumes) (tails_in Filling number prefer avoid others volumes) (all Preferred) (all Filling)) (all Empty)

scratch_from : (capacity count file : ℕ) → AllByRecursion (λ p. file ≤ p.file) (scratch_pieces capacity count file)
scratch_from capacity zero file = tt
scratch_from capacity (suc count) file =
    (omega arith, all_weaker (λ p. file + 1 ≤ p.file) (λ p. file ≤ p.file) (λ p le. omega (arith, le)) (scratch_pieces capacity count (file + 1)) (scratch_from capacity count (file + 1)))

scratch_apart : (capacity count file : ℕ) → PiecesApart (scratch_pieces capacity count file)
scratch_apart capacity zero file = tt
scratch_apart capacity (suc count) file = (
  all_weaker (λ q. file + 1 ≤ q.file) (PieceBefore (record { file = file; offset = 0; room = capacity - 32 })) (λ q le. inl (λ same. omega (arith, le, same))) (scratch_pieces capacity count (file + 1)) (scratch_from capacity count (file + 1)),
  scratch_apart capacity count (file + 1),
)

sequential_apart : (number capacity prefer avoid next_file : ℕ) (c : Counted) (s : PoolRows) → IsStrictlySortedBy nat_cmp (keys_of (sites s c)) → AllByRecursion (λ k. k < next_file) (keys_of (sites s c)) → PiecesApart (sequential_pieces number capacity prefer avoid next_file c s)
sequential_apart number capacity prefer avoid next_file c s sorted below =
    apart_append (λ a. a < next_file) (λ b. next_file ≤ b) (λ a b lt le same. omega (arith, lt, le, same)) (tails number prefer avoid c.others (sites s c)) (scratch_pieces capacity (scratch_left number s (sites s c)) next_file)
    (tails_below number prefer avoid c.others (sites s c) sorted next_file below) (scratch_from capacity (scratch_left number s (sites s c)) next_file)
    (tails_apart number prefer avoid c.others (sites s c) sorted) (scratch_apart capacity (scratch_left number s (sites s c)) next_file)

pieces_apart : (o : Option ℕ) (number prefer avoid next_file : ℕ) (c : Counted) (s : PoolRows) → IsStrictlySortedBy nat_cmp (keys_of s.volumes) → IsStrictlySortedBy nat_cmp (keys_of (sites s c)) → AllByRecursion (λ k. k < next_file) (keys_of (sites s c))
    → PiecesApart (pieces_by o number prefer avoid next_file c s)
pieces_apart None number prefer avoid next_file c s volumes seen below = random_apart number prefer avoid c s volumes
pieces_apart (Some capacity) number prefer avoid next_file c s volumes seen below = sequential_apart number capacity prefer avoid next_file c s seen below

-- ---- what is filled

filled_before : (p : Piece) (free : List Piece) (size : ℕ) → AllByRecursion (PieceBefore p) free → AllByRecursion (PieceBefore p) (filled size free)
filled_before p [] size all = tt
filled_before p (q ∷ free) size all =
    elim (size == 0) as (λ b. AllByRecursion (PieceBefore p) (if b then [] else if nat_le size q.room then cut q size ∷ [] else q ∷ filled (size - q.room) free)) [
      | true ↦ tt
      | false ↦ elim (nat_le size q.room) as (λ b. AllByRecursion (PieceBefore p) (if b then cut q size ∷ [] else q ∷ filled (size - q.room) free)) [
        | true ↦ (all.0, tt)
        | false ↦ (all.0, filled_before p free (size - q.room) all.1)
      ]
    ]

filled_apart : (free : List Piece) (size : ℕ) → PiecesApart free → PiecesApart (filled size free)
filled_apart [] size apart = tt
filled_apart (p ∷ free) size apart =
    elim (size == 0) as (λ b. PiecesApart (if b then [] else if nat_le size p.room then cut p size ∷ [] else p ∷ filled (size - p.room) free)) [
      | true ↦ tt
      | false ↦ elim (nat_le size p.room) as (λ b. PiecesApart (if b then cut p size ∷ [] else p ∷ filled (size - p.room) free)) [
        | true ↦ (tt, tt)
        | false ↦ (filled_before p free (size - p.room) apart.0, filled_apart free (size - p.room) apart.1)
      ]
    ]

placed_before : (number : ℕ) (p : Piece) (ps : List Piece) → AllByRecursion (PieceBefore p) ps → AllByRecursion (IsBefore (placed number p)) (map (placed number) ps)
placed_before number p [] all = tt
placed_before number p (q ∷ ps) all = (all.0, placed_before number p ps all.1)

placed_apart : (number : ℕ) (ps : List Piece) → PiecesApart ps → AllApart (map (placed number) ps)
placed_apart number [] apart = tt
placed_apart number (p ∷ ps) apart = (placed_before number p ps apart.0, placed_apart number ps apart.1)

-- the places that an object gets
pub chosen_apart : (r : Request) (s : PoolRows) (claims : Claims) (places : List Placed) → IsWhole r s claims places → IsStrictlySortedBy nat_cmp (keys_of s.volumes) → IsStrictlySortedBy nat_cmp (keys_of (sites s (counted r.actor claims)))
    → AllByRecursion (λ k. k < claims.next_file) (keys_of (sites s (counted r.actor claims))) → AllApart places
chosen_apart r s claims places whole volumes seen below =
    let c : Counted = counted r.actor claims in
    let n : ℕ = whole.number in
    subst (λ (l : List Placed). AllApart l) (sym whole.are)
    (placed_apart n (filled r.size (pieces n r.prefer r.avoid claims.next_file c s)) (filled_apart (pieces n r.prefer r.avoid claims.next_file c s) r.size (pieces_apart (pool_capacity n s) n r.prefer r.avoid claims.next_file c s volumes seen below)))
