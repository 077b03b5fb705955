-- What is filled of free runs, of which only those were asked for that are needed.
use Rattle.std.proofs.Common.{◌≡◌, ℕ, ◌+◌, ◌-◌, ◌<◌, ◌≤◌, Bool, List, [], ◌∷◌, ◌++◌, map, refl, sym, ap, ◌∙◌, arith, inl, inr, append_assoc}
use Rattle.std.specs.Prelude.{nat_le, min, if◌then◌else◌}
use Rattle.std.proofs.lemmas.Bool.{cases_eq, cases_lt, eq-eqb, ne_eqb, le-leb, lt-leb}
use Rattle.std.proofs.lemmas.List.{append-nil}
use Rattle.extent_map.specs.declared.extents.Run.{Run}
use Rattle.extent_map.specs.Blocks.{run, room_in, total_room, free_runs, first_of, blocks_for}
use Rattle.extent_map.proofs.FreeRuns.{total_room-cons}
use Rattle.extent_map.proofs.Taking.{first_of_last, first_of_more, blocks_for_enough, total_room-first_of, all_runs}
use Rattle.space.specs.declared.piece.Piece.{Piece}
use Rattle.space.specs.Pieces.{run_piece, room, cut, filled}

pub filled_none : (free : List Piece) (rest : ℕ) → rest ≡ 0 → filled rest free ≡ []
filled_none [] rest none = refl
filled_none (p ∷ free) rest none = ap (λ (b : Bool). if b then [] else if nat_le rest p.room then cut p rest ∷ [] else p ∷ filled (rest - p.room) free) (eq-eqb rest 0 none)

pub filled_last : (rest : ℕ) (p : Piece) (free : List Piece) → (rest ≡ 0 → ⊥) → rest ≤ p.room → filled rest (p ∷ free) ≡ cut p rest ∷ []
filled_last rest p free some fits =
    ap (λ (b : Bool). if b then [] else if nat_le rest p.room then cut p rest ∷ [] else p ∷ filled (rest - p.room) free) (ne_eqb rest 0 some)
    ∙ ap (λ (b : Bool). if b then cut p rest ∷ [] else p ∷ filled (rest - p.room) free) (le-leb rest p.room fits)

pub filled_more : (rest : ℕ) (p : Piece) (free : List Piece) → (rest ≡ 0 → ⊥) → p.room < rest → filled rest (p ∷ free) ≡ p ∷ filled (rest - p.room) free
filled_more rest p free some large =
    ap (λ (b : Bool). if b then [] else if nat_le rest p.room then cut p rest ∷ [] else p ∷ filled (rest - p.room) free) (ne_eqb rest 0 some)
    ∙ ap (λ (b : Bool). if b then cut p rest ∷ [] else p ∷ filled (rest - p.room) free) (lt-leb rest p.room large)

-- what is filled of pieces and then of further ones
pub filled-append : (xs ys : List Piece) (rest : ℕ) → filled rest (xs ++ ys) ≡ filled rest xs ++ filled (rest - room xs) ys
filled-append [] ys rest =
    let e : rest ≡ rest - 0 = omega arith in
    ap (λ (n : ℕ). filled n ys) e
filled-append (p ∷ xs) ys rest =
    elim (cases_eq rest 0) [
      | inl none ↦
          let left : rest - room (p ∷ xs) ≡ 0 = omega (arith, none) in
          filled_none (p ∷ (xs ++ ys)) rest none ∙ sym (ap (λ (l : List Piece). l ++ filled (rest - room (p ∷ xs)) ys) (filled_none (p ∷ xs) rest none) ∙ filled_none ys (rest - room (p ∷ xs)) left)
      | inr some ↦ elim (cases_lt p.room rest) [
        | inr fits ↦
            let left : rest - room (p ∷ xs) ≡ 0 = omega (arith, fits) in
            filled_last rest p (xs ++ ys) some fits ∙ sym (ap (λ (l : List Piece). l ++ filled (rest - room (p ∷ xs)) ys) (filled_last rest p xs some fits) ∙ ap (λ (l : List Piece). cut p rest ∷ l) (filled_none ys (rest - room (p ∷ xs)) left))
        | inl large ↦
            let less : rest - p.room - room xs ≡ rest - room (p ∷ xs) = omega arith in
            filled_more rest p (xs ++ ys) some large
            ∙ ap (λ (l : List Piece). p ∷ l) (filled-append xs ys (rest - p.room))
            ∙ ap (λ (n : ℕ). (p ∷ filled (rest - p.room) xs) ++ filled n ys) less
            ∙ ap (λ (l : List Piece). l ++ filled (rest - room (p ∷ xs)) ys) (sym (filled_more rest p xs some large))
      ]
    ]

pub room-runs : (file : ℕ) (runs : List Run) → room (map (run_piece file) runs) ≡ total_room runs
room-runs file [] = refl
room-runs file (r ∷ runs) = ap (λ (n : ℕ). room_in r + n) (room-runs file runs) ∙ sym (total_room-cons r runs)

-- of the runs that are taken for so many bytes as much is filled as of all of them
filled_first : (file : ℕ) (runs : List Run) (rest : ℕ) → filled rest (map (run_piece file) (first_of rest runs)) ≡ filled rest (map (run_piece file) runs)
filled_first file [] rest = refl
filled_first file (r ∷ runs) rest =
    elim (cases_eq rest 0) [
      | inl none ↦ filled_none (map (run_piece file) (first_of rest (r ∷ runs))) rest none ∙ sym (filled_none (map (run_piece file) (r ∷ runs)) rest none)
      | inr some ↦ elim (cases_lt (room_in r) rest) [
        | inr fits ↦
            let last : Run = run r.first (blocks_for rest) in
            let enough : rest ≤ room_in last = omega (arith, blocks_for_enough rest) in
            ap (λ (l : List Run). filled rest (map (run_piece file) l)) (first_of_last rest r runs (positive some) fits)
            ∙ filled_last rest (run_piece file last) [] some enough
            ∙ sym (filled_last rest (run_piece file r) (map (run_piece file) runs) some fits)
        | inl large ↦
            ap (λ (l : List Run). filled rest (map (run_piece file) l)) (first_of_more rest r runs (positive some) large)
            ∙ filled_more rest (run_piece file r) (map (run_piece file) (first_of (rest - room_in r) runs)) some large
            ∙ ap (λ (l : List Piece). run_piece file r ∷ l) (filled_first file runs (rest - room_in r))
            ∙ sym (filled_more rest (run_piece file r) (map (run_piece file) runs) some large)
      ]
    ] where
      positive : (rest ≡ 0 → ⊥) → 0 < rest
      positive some = grind (arith, some)

abbrev asked : ℕ → List Bool → List Run
asked rest used = first_of (min rest (total_room (free_runs used))) (free_runs used)

pub filled_asked : (file rest : ℕ) (used : List Bool) → filled rest (map (run_piece file) (asked rest used)) ≡ filled rest (map (run_piece file) (free_runs used))
filled_asked file rest used =
    elim (cases_lt rest (total_room (free_runs used))) [
      | inl less ↦
          let e : min rest (total_room (free_runs used)) ≡ rest = omega (arith, less) in
          ap (λ (n : ℕ). filled rest (map (run_piece file) (first_of n (free_runs used)))) e ∙ filled_first file (free_runs used) rest
      | inr all ↦
          let e : min rest (total_room (free_runs used)) ≡ total_room (free_runs used) = omega (arith, all) in
          ap (λ (n : ℕ). filled rest (map (run_piece file) (first_of n (free_runs used)))) e ∙ ap (λ (l : List Run). filled rest (map (run_piece file) l)) (all_runs used)
    ]

-- and as much is left
pub left_asked : (file rest : ℕ) (used : List Bool) → rest - room (map (run_piece file) (asked rest used)) ≡ rest - room (map (run_piece file) (free_runs used))
left_asked file rest used =
    let whole : room (map (run_piece file) (free_runs used)) ≡ total_room (free_runs used) = room-runs file (free_runs used) in
    let part : room (map (run_piece file) (asked rest used)) ≡ total_room (asked rest used) = room-runs file (asked rest used) in
    elim (cases_lt rest (total_room (free_runs used))) [
      | inl less ↦
          let enough : min rest (total_room (free_runs used)) ≤ total_room (asked rest used) = total_room-first_of (min rest (total_room (free_runs used))) (free_runs used) (omega arith) in
          omega (arith, whole, part, enough, less)
      | inr all ↦
          let e : min rest (total_room (free_runs used)) ≡ total_room (free_runs used) = omega (arith, all) in
          let same : total_room (asked rest used) ≡ total_room (free_runs used) = ap (λ (n : ℕ). total_room (first_of n (free_runs used))) e ∙ ap total_room (all_runs used) in
          omega (arith, whole, part, same)
    ]

-- ---- pieces one after the other

pub fill_step : (rest : ℕ) (out new here behind whole : List Piece) → new ≡ out ++ filled rest here → out ++ filled rest (here ++ behind) ≡ whole → new ++ filled (rest - room here) behind ≡ whole
fill_step rest out new here behind whole is so_far =
    ap (λ (l : List Piece). l ++ filled (rest - room here) behind) is
    ∙ append_assoc out (filled rest here) (filled (rest - room here) behind)
    ∙ ap (λ (l : List Piece). out ++ l) (sym (filled-append here behind rest))
    ∙ so_far

pub fill_begin : (size rest : ℕ) (none out here behind : List Piece) → none ≡ [] → out ≡ none ++ filled size here → rest ≡ size - room here → out ++ filled rest behind ≡ filled size (here ++ behind)
fill_begin size rest none out here behind empty is left =
    ap (λ (n : ℕ). out ++ filled n behind) left
    ∙ ap (λ (l : List Piece). l ++ filled (size - room here) behind) (is ∙ ap (λ (l : List Piece). l ++ filled size here) empty)
    ∙ sym (filled-append here behind size)

pub fill_end : (rest : ℕ) (out free whole : List Piece) → rest ≡ 0 → out ++ filled rest free ≡ whole → out ≡ whole
fill_end rest out free whole none so_far = sym (append-nil out) ∙ ap (λ (l : List Piece). out ++ l) (sym (filled_none free rest none)) ∙ so_far
