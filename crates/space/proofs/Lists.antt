-- Pieces that are listed one after the other.
use Rattle.std.proofs.Common.{◌≡◌, ℕ, ◌+◌, ◌-◌, ◌<◌, ◌≤◌, Bool, false, List, [], ◌∷◌, ◌++◌, zero, suc, map, drop, length, get_or, Option, Some, None, Result, Ok, Err, refl, sym, ap, ◌∙◌, arith, append_assoc}
use Rattle.std.specs.Prelude.{if◌then◌else◌, nat_le, ◌||◌}
use Rattle.std.specs.List.{list_any, find}
use Rattle.std.proofs.lemmas.List.{append-nil, drop_more}
use Rattle.std.proofs.lemmas.Bool.{eq-eqb, ne_eqb, le-leb, lt-leb}
use Rattle.kinds.specs.declared.refusal.Refusal.{Refusal}
use Rattle.kinds.specs.declared.refusal.Refusal.TheVariants.{InventoryFull}
use Rattle.pool_rows.specs.pool_tables.declared.pool.Pool.{Pool}
use Rattle.pool_rows.specs.pool_tables.Rows.{row_at}
use Rattle.pool_rows.specs.Hierarchy.{next_in, chain}
use Rattle.pool_rows.specs.PoolRows.{PoolRows}
use Rattle.space.specs.declared.piece.Piece.{Piece}
use Rattle.space.specs.declared.places.Placed.{Placed}
use Rattle.space.specs.Pieces.{scratch_pieces, cut, filled}
use Rattle.space.specs.Placing.{is_last, placed, if_random, random_among}

abbrev pub piece_at : ℕ → ℕ → Piece
piece_at file room = record { file = file; offset = 0; room = room }

abbrev pub new_piece : ℕ → ℕ → Piece
new_piece capacity file = piece_at file (capacity - 32)

-- one scratch volume more of so many
pub scratch_next : (capacity count i file : ℕ) (out new whole : List Piece) (p : Piece) → i < count → p ≡ new_piece capacity (file + i) → new ≡ out ++ p ∷ [] → out ++ scratch_pieces capacity (count - i) (file + i) ≡ whole
    → new ++ scratch_pieces capacity (count - (i + 1)) (file + (i + 1)) ≡ whole
scratch_next capacity count i file out new whole p lt p-is pushed so_far =
    let more : count - i ≡ suc (count - (i + 1)) = omega arith in
    let at : file + i + 1 ≡ file + (i + 1) = omega arith in
    let step : scratch_pieces capacity (count - i) (file + i) ≡ new_piece capacity (file + i) ∷ scratch_pieces capacity (count - (i + 1)) (file + (i + 1)) =
    ap (λ (n : ℕ). scratch_pieces capacity n (file + i)) more ∙ ap (λ (n : ℕ). new_piece capacity (file + i) ∷ scratch_pieces capacity (count - (i + 1)) n) at in
    ap (λ (l : List Piece). l ++ scratch_pieces capacity (count - (i + 1)) (file + (i + 1))) (pushed ∙ ap (λ (q : Piece). out ++ q ∷ []) p-is)
    ∙ append_assoc out (new_piece capacity (file + i) ∷ []) (scratch_pieces capacity (count - (i + 1)) (file + (i + 1)))
    ∙ ap (λ (l : List Piece). out ++ l) (sym step)
    ∙ so_far

pub scratch_end : (capacity n file : ℕ) (out whole : List Piece) → n ≡ 0 → out ++ scratch_pieces capacity n file ≡ whole → out ≡ whole
scratch_end capacity n file out whole none so_far =
    sym (append-nil out) ∙ ap (λ (m : ℕ). out ++ scratch_pieces capacity m file) (sym none) ∙ so_far

-- ---- what is filled

abbrev fill_or : Bool → ℕ → Piece → List Piece → List Piece
fill_or b rest p free = if b then cut p rest ∷ [] else p ∷ filled (rest - p.room) free

abbrev fill_by : Bool → ℕ → Piece → List Piece → List Piece
fill_by b rest p free = if b then [] else fill_or (nat_le rest p.room) rest p free

pub fill_zero : (rest : ℕ) (out whole : List Piece) (p : Piece) (free : List Piece) → rest ≡ 0 → out ++ filled rest (p ∷ free) ≡ whole → out ≡ whole
fill_zero rest out whole p free none so_far =
    sym (append-nil out) ∙ ap (λ (b : Bool). out ++ fill_by b rest p free) (sym (eq-eqb rest 0 none)) ∙ so_far

pub fill_last : (rest : ℕ) (out new whole : List Piece) (p : Piece) (free : List Piece) → (rest ≡ 0 → ⊥) → rest ≤ p.room → new ≡ out ++ cut p rest ∷ [] → out ++ filled rest (p ∷ free) ≡ whole → new ≡ whole
fill_last rest out new whole p free some fits pushed so_far =
    pushed ∙ ap (λ (b : Bool). out ++ fill_or b rest p free) (sym (le-leb rest p.room fits)) ∙ ap (λ (b : Bool). out ++ fill_by b rest p free) (sym (ne_eqb rest 0 some)) ∙ so_far

pub fill_more : (rest : ℕ) (out new whole : List Piece) (p : Piece) (free : List Piece) → (rest ≡ 0 → ⊥) → p.room < rest → new ≡ out ++ cut p p.room ∷ [] → out ++ filled rest (p ∷ free) ≡ whole → new ++ filled (rest - p.room) free ≡ whole
fill_more rest out new whole p free some large pushed so_far =
    ap (λ (l : List Piece). l ++ filled (rest - p.room) free) pushed
    ∙ append_assoc out (p ∷ []) (filled (rest - p.room) free)
    ∙ ap (λ (b : Bool). out ++ fill_or b rest p free) (sym (lt-leb rest p.room large)) ∙ ap (λ (b : Bool). out ++ fill_by b rest p free) (sym (ne_eqb rest 0 some)) ∙ so_far

-- ---- what is placed

abbrev pub full_or : Bool → List Placed → Result (List Placed) Refusal
full_or full places = if full then Err InventoryFull else Ok places

-- the places so far and those that some pieces become
abbrev pub placed_after : ℕ → List Placed → List Piece → Result (List Placed) Refusal
placed_after number out used = full_or (list_any is_last used) (out ++ map (placed number) used)

pub placed_more : (number : ℕ) (out new : List Placed) (p : Piece) (used : List Piece) (whole : Result (List Placed) Refusal) → is_last p ≡ false → new ≡ out ++ placed number p ∷ [] → placed_after number out (p ∷ used) ≡ whole → placed_after number new used ≡ whole
placed_more number out new p used whole last pushed so_far =
    ap (λ (l : List Placed). placed_after number l used) pushed
    ∙ ap (λ (l : List Placed). full_or (list_any is_last used) l) (append_assoc out (placed number p ∷ []) (map (placed number) used))
    ∙ ap (λ (b : Bool). full_or (b || list_any is_last used) (out ++ map (placed number) (p ∷ used))) (sym last)
    ∙ so_far

-- ---- pools

pub find_more : (test : ℕ → Bool) (xs : List ℕ) (i : ℕ) (whole : Option ℕ) → i < length xs → test (get_or xs i 0) ≡ false → find test (drop i xs) ≡ whole → find test (drop (i + 1) xs) ≡ whole
find_more test xs i whole lt passes so_far =
    sym (ap (λ (b : Bool). if b then Some (get_or xs i 0) else find test (drop (i + 1) xs)) passes) ∙ ap (find test) (sym (drop_more xs i 0 lt)) ∙ so_far

pub random_more : (s : PoolRows) (xs : List ℕ) (i : ℕ) (out new whole : List ℕ) → i < length xs → new ≡ out ++ if_random s (get_or xs i 0) → out ++ random_among (drop i xs) s ≡ whole → new ++ random_among (drop (i + 1) xs) s ≡ whole
random_more s xs i out new whole lt pushed so_far =
    ap (λ (l : List ℕ). l ++ random_among (drop (i + 1) xs) s) pushed
    ∙ append_assoc out (if_random s (get_or xs i 0)) (random_among (drop (i + 1) xs) s)
    ∙ ap (λ (l : List ℕ). out ++ random_among l s) (sym (drop_more xs i 0 lt))
    ∙ so_far

-- ---- a hierarchy

pub chain_none : (n : ℕ) (pools : List (ℕ × Pool)) → chain n None pools ≡ []
chain_none zero pools = refl
chain_none (suc n) pools = refl

pub chain_more : (n i pool : ℕ) (next behind : Option ℕ) (pools : List (ℕ × Pool)) (out new whole : List ℕ) → i < n → next ≡ Some pool → behind ≡ next_in (row_at pool pools) → new ≡ out ++ pool ∷ [] → out ++ chain (n - i) next pools ≡ whole → new ++ chain (n - (i + 1)) behind pools ≡ whole
chain_more n i pool next behind pools out new whole lt is behind-is pushed so_far =
    let more : n - i ≡ suc (n - (i + 1)) = omega arith in
    ap (λ (l : List ℕ). l ++ chain (n - (i + 1)) behind pools) pushed
    ∙ append_assoc out (pool ∷ []) (chain (n - (i + 1)) behind pools)
    ∙ ap (λ (o : Option ℕ). out ++ pool ∷ chain (n - (i + 1)) o pools) behind-is
    ∙ ap (λ (o : Option ℕ). out ++ chain (suc (n - (i + 1))) o pools) (sym is)
    ∙ ap (λ (m : ℕ). out ++ chain m next pools) (sym more)
    ∙ so_far

pub chain_ended : (n : ℕ) (next : Option ℕ) (pools : List (ℕ × Pool)) (out whole : List ℕ) → next ≡ None → out ++ chain n next pools ≡ whole → out ≡ whole
chain_ended n next pools out whole none so_far =
    sym (append-nil out) ∙ ap (λ (l : List ℕ). out ++ l) (sym (chain_none n pools)) ∙ ap (λ (o : Option ℕ). out ++ chain n o pools) (sym none) ∙ so_far
