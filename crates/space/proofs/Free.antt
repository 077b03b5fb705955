-- The free space of a volume of random access, and what is filled of free space.
use Rattle.std.proofs.Common.{◌≡◌, ℕ, ◌+◌, ◌-◌, ◌/◌, ◌<◌, ◌≤◌, Bool, true, false, List, [], ◌∷◌, length, get_or, map, Some, zero, suc, refl, sym, ap, subst, ◌∙◌, arith, inl, inr}
use Rattle.std.specs.Prelude.{if◌then◌else◌, ◌==◌, ◌||◌, nat_le, slice_get, max}
use Rattle.std.specs.List.{AllByRecursion, list_any}
use Rattle.std.proofs.lemmas.Option.{slice_get-get_or, slice_get_within, get_or_from_slice_get}
use Rattle.std.proofs.lemmas.Bool.{cases_lt, eqb-true, leb-true, leb-false}
use Rattle.std.proofs.lemmas.Bool.{false≢true}
use Rattle.kinds.specs.declared.segment.Segment.{Segment}
use Rattle.pool_rows.specs.volume_rows.declared.volume.Volume.{Volume}
use Rattle.extent_map.specs.declared.extents.Run.{Run}
use Rattle.extent_map.specs.Bits.{is_between}
use Rattle.extent_map.specs.Blocks.{end_of, room_in, total_room, free_runs, first_of, marked, AllAre, AreFree}
use Rattle.extent_map.proofs.FreeRuns.{AllAre-fits}
use Rattle.extent_map.proofs.Members.{get_or-marked_from}
use Rattle.extent_map.proofs.Marking.{length-marked}
use Rattle.extent_map.proofs.Taking.{taken_free, all_runs}
use Rattle.extent_map.proofs.Words.{between_inside}
use Rattle.space.specs.declared.counted.Counted.{Counted}
use Rattle.space.specs.declared.piece.Piece.{Piece}
use Rattle.space.specs.Pieces.{covers, blocks_used, segments_on, used_on, run_piece, free_pieces, room, cut, filled}
use Rattle.space.specs.Lawful.{first_block, end_block, AreApart, segment_in, IsFree, IsFrontOf}
use Rattle.space.proofs.Used.{length-blocks_used, block_at}

-- ---- runs of free blocks

abbrev IsFreeRun : List Bool → Run → Type 0
IsFreeRun used r = (0 < r.blocks) × AllAre false r used

-- a block that is free although a run was marked was free before
unmarked : (r : Run) (used : List Bool) (k : ℕ) → end_of r ≤ length used → slice_get (marked true r used) k ≡ Some false → slice_get used k ≡ Some false
unmarked r used k fits free =
    let lt : k < length used = omega (arith, slice_get_within (marked true r used) k false free, length-marked true r used fits) in
    let read : (if is_between r.first (end_of r) k then true else get_or used k true) ≡ false =
    sym (get_or-marked_from true r.first r.blocks used k true fits) ∙ get_or_from_slice_get (marked true r used) k false true free in
    let value : get_or used k true ≡ false =
    elim (is_between r.first (end_of r) k) as (λ b. (if b then true else get_or used k true) ≡ false → get_or used k true ≡ false) [ true ↦ λ h. absurd (false≢true (sym h)) | false ↦ λ h. h ] read in
    slice_get-get_or used k true lt ∙ ap (λ (b : Bool). Some b) value

all_unmarked : (r : Run) (used : List Bool) (runs : List Run) → end_of r ≤ length used → AllByRecursion (IsFreeRun (marked true r used)) runs → AllByRecursion (IsFreeRun used) runs
all_unmarked r used [] fits free = tt
all_unmarked r used (next ∷ runs) fits free =
    ((free.0.0, λ k low high. unmarked r used k fits (free.0.1 k low high)), all_unmarked r used runs fits free.1)

each_free : (runs : List Run) (used : List Bool) → AreFree runs used → AllByRecursion (IsFreeRun used) runs
each_free [] used free = tt
each_free (r ∷ runs) used free =
    ((free.0, free.1.0), all_unmarked r used runs (AllAre-fits false r used free.0 free.1.0) (each_free runs (marked true r used) free.1.1))

runs_free : (used : List Bool) → AllByRecursion (IsFreeRun used) (free_runs used)
runs_free used =
    subst (λ (runs : List Run). AllByRecursion (IsFreeRun used) runs) (all_runs used) (each_free (first_of (total_room (free_runs used)) (free_runs used)) used (taken_free (total_room (free_runs used)) used))

-- ---- segments in them

-- a block that no segment uses
pub none_covers : (k : ℕ) (segments : List Segment) → list_any (covers k) segments ≡ false → AllByRecursion (λ x. covers k x ≡ false) segments
none_covers k [] none = tt
none_covers k (x ∷ segments) none =
    elim (covers k x) as (λ b. (b || list_any (covers k) segments) ≡ false → (b ≡ false) × AllByRecursion (λ y. covers k y ≡ false) segments) [
      | true ↦ λ h. absurd (false≢true (sym h))
      | false ↦ λ h. (refl, none_covers k segments h)
    ] none

pub frame_ends : (offset len : ℕ) → offset / 4096 < (offset + 32 + len + 4095) / 4096
frame_ends offset len = omega arith

-- a segment that is covered by no block of another's has none in common with it
apart_from : (a x : Segment) → ((k : ℕ) → first_block a ≤ k → k < end_block a → covers k x ≡ false) → AreApart a x
apart_from a x none =
    elim (cases_lt (first_block x) (end_block a)) [
      | inr le ↦ inl le
      | inl under ↦ elim (cases_lt (first_block a) (end_block x)) [
        | inr le ↦ inr le
        | inl over ↦
            let k : ℕ = max (first_block a) (first_block x) in
            let ends-a : first_block a < end_block a = frame_ends a.offset a.len in
            let ends-x : first_block x < end_block x = frame_ends x.offset x.len in
            let clear : covers k x ≡ false = none k (omega arith) (omega arith) in
            let used : covers k x ≡ true = between_inside (first_block x) (end_block x) k (omega arith) (omega arith) in
            absurd (false≢true (sym clear ∙ used))
      ]
    ]

all_apart : (a : Segment) (segments : List Segment) → ((k : ℕ) → first_block a ≤ k → k < end_block a → list_any (covers k) segments ≡ false) → AllByRecursion (AreApart a) segments
all_apart a [] none = tt
all_apart a (x ∷ segments) none = (
  apart_from a x (λ k low high. (none_covers k (x ∷ segments) (none k low high)).0),
  all_apart a segments (λ k low high. rest_none k x segments (none k low high)),
)
  where
    rest_none : (k : ℕ) (x : Segment) (segments : List Segment) → list_any (covers k) (x ∷ segments) ≡ false → list_any (covers k) segments ≡ false
    rest_none k x segments h =
        elim (covers k x) as (λ b. (b || list_any (covers k) segments) ≡ false → list_any (covers k) segments ≡ false) [ true ↦ λ e. absurd (false≢true (sym e)) | false ↦ λ e. e ] h

-- a segment in a run that is free
run_apart : (count file : ℕ) (segments : List Segment) (r : Run) (len : ℕ) → IsFreeRun (blocks_used count segments) r → len ≤ room_in r → AllByRecursion (AreApart (segment_in (run_piece file r) len)) segments
run_apart count file segments r len free fits =
    let a : Segment = segment_in (run_piece file r) len in
    let whole : length (blocks_used count segments) ≡ count = length-blocks_used count segments in
    let within : end_of r ≤ length (blocks_used count segments) = AllAre-fits false r (blocks_used count segments) free.0 free.1 in
    let first : first_block a ≡ r.first = omega arith in
    let last : end_block a ≤ end_of r = omega (arith, fits, free.0) in
    all_apart a segments (λ k low high.
    let lt : k < count = omega arith in
    sym (block_at count segments k false lt) ∙ get_or_from_slice_get (blocks_used count segments) k false false (free.1 k (omega arith) (omega arith)))

run_free : (c : Counted) (f : ℕ × Volume) (r : Run) → IsFreeRun (used_on c f) r → IsFree c f (run_piece f.0 r)
run_free c f r free =
    let whole : length (used_on c f) ≡ f.1.capacity / 4096 = length-blocks_used (f.1.capacity / 4096) (segments_on c f) in
    let within : end_of r ≤ length (used_on c f) = AllAre-fits false r (used_on c f) free.0 free.1 in
    record {
      on = refl;
      block = (r.first, refl);
      within = omega (arith, whole, within, free.0);
      apart = λ len fits. run_apart (f.1.capacity / 4096) f.0 (segments_on c f) r len free fits;
    }

runs_are_free : (c : Counted) (f : ℕ × Volume) (runs : List Run) → AllByRecursion (IsFreeRun (used_on c f)) runs → AllByRecursion (IsFree c f) (map (run_piece f.0) runs)
runs_are_free c f [] free = tt
runs_are_free c f (r ∷ runs) free = (run_free c f r free.0, runs_are_free c f runs free.1)

pub pieces_free : (c : Counted) (f : ℕ × Volume) → AllByRecursion (IsFree c f) (free_pieces c f)
pieces_free c f = runs_are_free c f (free_runs (used_on c f)) (runs_free (used_on c f))

-- ---- what is filled

abbrev last_or_more : Bool → ℕ → Piece → List Piece → List Piece
last_or_more b size p free = if b then cut p size ∷ [] else p ∷ filled (size - p.room) free

abbrev none_or : Bool → ℕ → Piece → List Piece → List Piece
none_or b size p free = if b then [] else last_or_more (nat_le size p.room) size p free

pub filled_whole : (size : ℕ) (free : List Piece) → size ≤ room free → room (filled size free) ≡ size
filled_whole size [] fits = omega (arith, fits)
filled_whole size (p ∷ free) fits =
    elim (size == 0) as (λ b. (size == 0) ≡ b → room (none_or b size p free) ≡ size) [
      | true ↦ λ e. sym (eqb-true size 0 e)
      | false ↦ λ e.
          elim (nat_le size p.room) as (λ b. nat_le size p.room ≡ b → room (last_or_more b size p free) ≡ size) [
            | true ↦ λ e. omega arith
            | false ↦ λ e.
                let large : p.room < size = leb-false size p.room e in
                let rest : room (filled (size - p.room) free) ≡ size - p.room = filled_whole (size - p.room) free (omega (arith, fits, large)) in
                omega (arith, rest, large)
          ] refl
    ] refl

front_later : (p : Piece) (free used : List Piece) → AllByRecursion (IsFrontOf free) used → AllByRecursion (IsFrontOf (p ∷ free)) used
front_later p free [] fronts = tt
front_later p free (q ∷ used) fronts = ((suc fronts.0.0, fronts.0.1, fronts.0.2, fronts.0.3, fronts.0.4), front_later p free used fronts.1)

pub filled_fronts : (size : ℕ) (free : List Piece) → AllByRecursion (IsFrontOf free) (filled size free)
filled_fronts size [] = tt
filled_fronts size (p ∷ free) =
    elim (size == 0) as (λ b. AllByRecursion (IsFrontOf (p ∷ free)) (none_or b size p free)) [
      | true ↦ tt
      | false ↦ elim (nat_le size p.room) as (λ b. nat_le size p.room ≡ b → AllByRecursion (IsFrontOf (p ∷ free)) (last_or_more b size p free)) [
        | true ↦ λ e. ((zero, p, refl, refl, leb-true size p.room e), tt)
        | false ↦ λ e. ((zero, p, refl, refl, omega arith), front_later p free (filled (size - p.room) free) (filled_fronts (size - p.room) free))
      ] refl
    ]
