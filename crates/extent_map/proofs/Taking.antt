-- What is taken of free runs: enough, free, and apart.
use Rattle.std.proofs.Common.{◌≡◌, ℕ, ◌+◌, ◌-◌, ◌*◌, ◌<◌, ◌≤◌, suc, Bool, true, false, List, [], ◌∷◌, ◌++◌, length, get_or, refl, sym, ap, ◌∙◌, arith, inl, inr, Some, None, map, not}
use Rattle.std.specs.Prelude.{if◌then◌else◌, ◌==◌, nat_le, slice_get}
use Rattle.std.proofs.lemmas.Option.{slice_get-get_or, slice_get_past, get_or_from_slice_get}
use Rattle.std.proofs.lemmas.List.{append-nil, append_assoc, length-map}
use Rattle.std.proofs.lemmas.Grind.{div_ceil_times}
use Rattle.std.proofs.lemmas.Bool.{cases_lt, cases_eq, eqb-true, eqb-false, leb-true, leb-false, ne_eqb, le-leb, lt-leb, false≢true}
use Rattle.extent_map.specs.declared.extents.Run.{Run}
use Rattle.extent_map.specs.Blocks.{run, end_of, room_in, total_room, blocks_for, with_block, free_runs_from, free_runs, first_of, taken, marked, AllAre, AreFree, Ascend}
use Rattle.extent_map.proofs.Words.{between_outside}
use Rattle.extent_map.proofs.Members.{length-marked_from, get_or-marked_from}
use Rattle.extent_map.proofs.FreeRuns.{total_room-cons, Ascend-free_runs, HaveBlocks, HaveBlocks-free_runs, AllAre-fits, used_at, free_at}

-- ---- a step of the walk over the free runs

pub first_of_none : (runs : List Run) → first_of 0 runs ≡ []
first_of_none [] = refl
first_of_none (r ∷ rs) = refl

abbrev last_or_more : Bool → ℕ → Run → List Run → List Run
last_or_more b bytes r rs = if b then run r.first (blocks_for bytes) ∷ [] else r ∷ first_of (bytes - room_in r) rs

abbrev none_or : Bool → ℕ → Run → List Run → List Run
none_or b bytes r rs = if b then [] else last_or_more (nat_le bytes (room_in r)) bytes r rs

first_of_some : (bytes : ℕ) (r : Run) (rs : List Run) → 0 < bytes → first_of bytes (r ∷ rs) ≡ last_or_more (nat_le bytes (room_in r)) bytes r rs
first_of_some bytes r rs some = ap (λ (b : Bool). none_or b bytes r rs) (ne_eqb bytes 0 (λ e. absurd (omega (arith, some, e))))

pub first_of_last : (bytes : ℕ) (r : Run) (rs : List Run) → 0 < bytes → bytes ≤ room_in r → first_of bytes (r ∷ rs) ≡ run r.first (blocks_for bytes) ∷ []
first_of_last bytes r rs some le = first_of_some bytes r rs some ∙ ap (λ (b : Bool). last_or_more b bytes r rs) (le-leb bytes (room_in r) le)

pub first_of_more : (bytes : ℕ) (r : Run) (rs : List Run) → 0 < bytes → room_in r < bytes → first_of bytes (r ∷ rs) ≡ r ∷ first_of (bytes - room_in r) rs
first_of_more bytes r rs some lt = first_of_some bytes r rs some ∙ ap (λ (b : Bool). last_or_more b bytes r rs) (lt-leb bytes (room_in r) lt)

-- ---- the blocks for so many bytes

pub blocks_for_enough : (bytes : ℕ) → bytes + 32 ≤ 4096 * blocks_for bytes
blocks_for_enough bytes = let t = div_ceil_times (bytes + 32) 4096 (omega arith) in omega (arith, t.0)

pub blocks_for_within : (bytes : ℕ) (r : Run) → 0 < r.blocks → bytes ≤ room_in r → blocks_for bytes ≤ r.blocks
blocks_for_within bytes r some le = let t = div_ceil_times (bytes + 32) 4096 (omega arith) in omega (arith, t.1)

-- ---- cases of a step

of_cases : (P : List Run → Type 0) (bytes : ℕ) (r : Run) (rs : List Run) → (bytes ≡ 0 → P []) → (0 < bytes → bytes ≤ room_in r → P (run r.first (blocks_for bytes) ∷ [])) → (0 < bytes → room_in r < bytes → P (r ∷ first_of (bytes - room_in r) rs)) → P (first_of bytes (r ∷ rs))
of_cases P bytes r rs none last more =
    elim (bytes == 0) as (λ b. (bytes == 0) ≡ b → P (none_or b bytes r rs)) [
      | true ↦ λ e. none (eqb-true bytes 0 e)
      | false ↦ λ e.
          let ne = eqb-false bytes 0 e in
          let some : 0 < bytes = elim (cases_lt 0 bytes) [ inl lt ↦ lt | inr le ↦ absurd (ne (omega arith)) ] in
          elim (nat_le bytes (room_in r)) as (λ b. nat_le bytes (room_in r) ≡ b → P (last_or_more b bytes r rs)) [
            | true ↦ λ e. last some (leb-true bytes (room_in r) e)
            | false ↦ λ e. more some (leb-false bytes (room_in r) e)
          ] refl
    ] refl

-- ---- enough room

pub total_room-first_of : (bytes : ℕ) (runs : List Run) → bytes ≤ total_room runs → bytes ≤ total_room (first_of bytes runs)
total_room-first_of bytes [] le = le
total_room-first_of bytes (r ∷ rs) le =
    let whole : total_room (r ∷ rs) ≡ room_in r + total_room rs = total_room-cons r rs in
    of_cases (λ l. bytes ≤ total_room l) bytes r rs
    (λ e. omega (arith, e))
    (λ some small.
    let one : total_room (run r.first (blocks_for bytes) ∷ []) ≡ room_in (run r.first (blocks_for bytes)) + 0 = total_room-cons (run r.first (blocks_for bytes)) [] in
    omega (arith, one, blocks_for_enough bytes))
    (λ some large.
    let rest : bytes - room_in r ≤ total_room rs = omega (arith, le, whole) in
    let sum : total_room (r ∷ first_of (bytes - room_in r) rs) ≡ room_in r + total_room (first_of (bytes - room_in r) rs) = total_room-cons r (first_of (bytes - room_in r) rs) in
    omega (arith, sum, total_room-first_of (bytes - room_in r) rs rest))

-- ---- ascending

pub Ascend-first_of : (bytes at : ℕ) (runs : List Run) → Ascend at runs → Ascend at (first_of bytes runs)
Ascend-first_of bytes at [] a = tt
Ascend-first_of bytes at (r ∷ rs) a =
    of_cases (λ l. Ascend at l) bytes r rs (λ _. tt) (λ _ _. (a.0, tt)) (λ _ _. (a.0, Ascend-first_of (bytes - room_in r) (end_of r) rs a.1))

-- ---- free

abbrev EachFree : List Bool → List Run → Type 0
EachFree used [] = Unit {0}
EachFree used (r ∷ rs) = (0 < r.blocks) × (AllAre false r used × EachFree used rs)

EachFree-with_block : (at : ℕ) (runs : List Run) (used : List Bool) → slice_get used at ≡ Some false → EachFree used runs → EachFree used (with_block at runs)
EachFree-with_block at [] used here f =
    (omega arith, ((λ k low high. let same : k ≡ at = omega (arith, low, high) in ap (slice_get used) same ∙ here), tt))
EachFree-with_block at (r ∷ rs) used here f =
    elim (r.first == at + 1) as (λ b. (r.first == at + 1) ≡ b → EachFree used (if b then run at (r.blocks + 1) ∷ rs else run at 1 ∷ r ∷ rs)) [
      | true ↦ λ e.
          let first : r.first ≡ at + 1 = eqb-true r.first (at + 1) e in
          let are = f.1.0 in (
            omega arith,
            (
              (λ k low high. elim (cases_eq k at) [
                | inl same ↦ ap (slice_get used) same ∙ here
                | inr other ↦
                    let from : r.first ≤ k = elim (cases_lt at k) [ inl lt ↦ omega (arith, lt, first) | inr le ↦ absurd (other (omega (arith, le, low))) ] in
                    are k from (omega (arith, high, first))
              ]),
              f.1.1,
            ),
          )
      | false ↦ λ e.
          (omega arith, ((λ k low high. let same : k ≡ at = omega (arith, low, high) in ap (slice_get used) same ∙ here), f))
    ] refl

EachFree-free_runs : (at : ℕ) (part used : List Bool) → ((k : ℕ) → slice_get used (at + k) ≡ slice_get part k) → EachFree used (free_runs_from at part)
EachFree-free_runs at [] used same = tt
EachFree-free_runs at (true ∷ part) used same =
    EachFree-free_runs (at + 1) part used (λ k. let sum : at + 1 + k ≡ at + suc k = omega arith in ap (slice_get used) sum ∙ same (suc k))
EachFree-free_runs at (false ∷ part) used same =
    let zero-sum : at ≡ at + 0 = omega arith in
    EachFree-with_block at (free_runs_from (at + 1) part) used (ap (slice_get used) zero-sum ∙ same 0) (EachFree-free_runs (at + 1) part used (λ k. let sum : at + 1 + k ≡ at + suc k = omega arith in ap (slice_get used) sum ∙ same (suc k)))

EachFree-first_of : (bytes : ℕ) (runs : List Run) (used : List Bool) → EachFree used runs → EachFree used (first_of bytes runs)
EachFree-first_of bytes [] used f = tt
EachFree-first_of bytes (r ∷ rs) used f =
    let are = f.1.0 in
    of_cases (λ l. EachFree used l) bytes r rs
    (λ _. tt)
    (λ some small.
    let less : blocks_for bytes ≤ r.blocks = blocks_for_within bytes r f.0 small in
    (omega (arith, blocks_for_enough bytes), ((λ k low high. are k low (omega (arith, high, less))), tt)))
    (λ some large. (f.0, (are, EachFree-first_of (bytes - room_in r) rs used f.1.1)))

slice_get-marked_after : (r : Run) (used : List Bool) (k : ℕ) → end_of r ≤ length used → end_of r ≤ k → slice_get (marked true r used) k ≡ slice_get used k
slice_get-marked_after r used k fits after =
    let len : length (marked true r used) ≡ length used = length-marked_from true r.first r.blocks used fits in
    elim (cases_lt k (length used)) [
      | inl lt ↦
          let lt' : k < length (marked true r used) = omega arith in
          slice_get-get_or (marked true r used) k true lt' ∙ ap (λ (b : Bool). Some b) (get_or-marked_from true r.first r.blocks used k true fits ∙ ap (λ (b : Bool). if b then true else get_or used k true) (between_outside r.first (end_of r) k (inr after))) ∙ sym (slice_get-get_or used k true lt)
      | inr le ↦
          let le' : length (marked true r used) ≤ k = omega arith in
          slice_get_past (marked true r used) k le' ∙ sym (slice_get_past used k le)
    ]

AreFree-from : (runs : List Run) (at : ℕ) (used now : List Bool) → ((k : ℕ) → at ≤ k → slice_get now k ≡ slice_get used k) → Ascend at runs → EachFree used runs → AreFree runs now
AreFree-from [] at used now same a f = tt
AreFree-from (r ∷ rs) at used now same a f =
    let first : at ≤ r.first = a.0 in
    let some : 0 < r.blocks = f.0 in
    let are : AllAre false r used = f.1.0 in
    let free : AllAre false r now = λ k low high. same k (omega (arith, low, first)) ∙ are k low high in
    let fits : end_of r ≤ length now = AllAre-fits false r now some free in
    (some, (free, AreFree-from rs (end_of r) used (marked true r now) (λ k after. slice_get-marked_after r now k fits after ∙ same k (omega (arith, after, first))) a.1 f.1.1))

pub taken_free : (bytes : ℕ) (used : List Bool) → AreFree (first_of bytes (free_runs used)) used
taken_free bytes used =
    AreFree-from (first_of bytes (free_runs used)) 0 used used (λ k le. refl) (Ascend-first_of bytes 0 (free_runs used) (Ascend-free_runs 0 used)) (EachFree-first_of bytes (free_runs used) used (EachFree-free_runs 0 used used (λ k. let sum : 0 + k ≡ k = omega arith in ap (slice_get used) sum)))

-- ---- the answer

pub taken_none : (bytes : ℕ) (used : List Bool) → total_room (free_runs used) < bytes → taken bytes used ≡ None
taken_none bytes used lt = ap (λ (b : Bool). if b then Some (first_of bytes (free_runs used)) else None) (lt-leb bytes (total_room (free_runs used)) lt)

pub taken_some : (bytes : ℕ) (used : List Bool) → bytes ≤ total_room (free_runs used) → taken bytes used ≡ Some (first_of bytes (free_runs used))
taken_some bytes used le = ap (λ (b : Bool). if b then Some (first_of bytes (free_runs used)) else None) (le-leb bytes (total_room (free_runs used)) le)

-- ---- the loop that plans the runs

pub plan_last : (items free rest-free all : List Run) (rest : ℕ) (r : Run) → free ≡ r ∷ rest-free → items ++ first_of rest free ≡ all → 0 < rest → rest ≤ room_in r → (items ++ run r.first (blocks_for rest) ∷ []) ++ first_of 0 rest-free ≡ all
plan_last items free rest-free all rest r e so-far some le =
    ap (λ (l : List Run). (items ++ run r.first (blocks_for rest) ∷ []) ++ l) (first_of_none rest-free)
    ∙ append-nil (items ++ run r.first (blocks_for rest) ∷ [])
    ∙ ap (λ (l : List Run). items ++ l) (sym (first_of_last rest r rest-free some le) ∙ ap (first_of rest) (sym e))
    ∙ so-far

pub plan_more : (items free rest-free all : List Run) (rest : ℕ) (r : Run) → free ≡ r ∷ rest-free → items ++ first_of rest free ≡ all → 0 < rest → room_in r < rest → (items ++ r ∷ []) ++ first_of (rest - room_in r) rest-free ≡ all
plan_more items free rest-free all rest r e so-far some lt =
    append_assoc items (r ∷ []) (first_of (rest - room_in r) rest-free)
    ∙ ap (λ (l : List Run). items ++ l) (sym (first_of_more rest r rest-free some lt) ∙ ap (first_of rest) (sym e))
    ∙ so-far

pub plan_enough : (free rest-free : List Run) (rest : ℕ) (r : Run) → free ≡ r ∷ rest-free → rest ≤ total_room free → rest ≤ room_in r + total_room rest-free
plan_enough free rest-free rest r e le =
    let whole : total_room free ≡ room_in r + total_room rest-free = ap total_room e ∙ total_room-cons r rest-free in
    omega (arith, whole, le)

pub plan_done : (items free all : List Run) (rest : ℕ) → rest ≤ 0 → items ++ first_of rest free ≡ all → items ≡ all
plan_done items free all rest none so-far =
    let zero-left : rest ≡ 0 = omega (arith, none) in
    sym (append-nil items) ∙ ap (λ (l : List Run). items ++ l) (sym (first_of_none free)) ∙ ap (λ (n : ℕ). items ++ first_of n free) (sym zero-left) ∙ so-far

-- ---- are all blocks of a run in use?

pub used_until : (first end next : ℕ) (used free now : List Bool) → used ≡ now → free ≡ map not used → end ≤ length free → ((k : ℕ) → first ≤ k → k < next → get_or free k false ≡ false) → end ≤ next → (k : ℕ) → first ≤ k → k < end → slice_get now k ≡ Some true
used_until first end next used free now e not-used fits before le k low high =
    let len' : length free ≡ length used = ap length not-used ∙ length-map used not in
    let lt : k < length used = omega (arith, high) in
    let under : k < next = omega (arith, high) in
    ap (λ (u : List Bool). slice_get u k) (sym e) ∙ slice_get-get_or used k true lt ∙ ap (λ (b : Bool). Some b) (used_at free used k not-used lt (before k low under))

pub next_behind : (first end next : ℕ) (used free now : List Bool) → used ≡ now → free ≡ map not used → end ≤ length free → first ≤ next → (next < length free → get_or free next false ≡ true) → ((k : ℕ) → first ≤ k → k < end → slice_get now k ≡ Some true) → end ≤ next
next_behind first end next used free now e not-used fits low here are =
    elim (cases_lt next end) [
      | inl lt ↦
          let len' : length free ≡ length used = ap length not-used ∙ length-map used not in
          let inside : next < length used = omega (arith, lt) in
          let inside' : next < length free = omega arith in
          let is-used : get_or used next true ≡ true = get_or_from_slice_get used next true true (ap (λ (u : List Bool). slice_get u next) e ∙ are next low lt) in
          absurd (false≢true (sym (free_at free used next not-used inside (here inside')) ∙ is-used))
      | inr le ↦ le
    ]

-- ---- all the free runs

blocks_for_run : (r : Run) → 0 < r.blocks → run r.first (blocks_for (room_in r)) ≡ r
blocks_for_run r some =
    let t = div_ceil_times (room_in r + 32) 4096 (omega arith) in
    let blocks : blocks_for (room_in r) ≡ r.blocks = omega (arith, t.0, t.1) in
    ap (λ (n : ℕ). run r.first n) blocks

-- for the bytes of all of their room all runs are taken
first_of-whole : (runs : List Run) → HaveBlocks runs → first_of (total_room runs) runs ≡ runs
first_of-whole [] some = refl
first_of-whole (r ∷ []) some =
    let whole : total_room (r ∷ []) ≡ room_in r + 0 = total_room-cons r [] in
    first_of_last (total_room (r ∷ [])) r [] (omega (arith, whole, some.0)) (omega (arith, whole))
    ∙ ap (λ (n : ℕ). run r.first (blocks_for n) ∷ []) (omega (arith, whole))
    ∙ ap (λ (one : Run). one ∷ []) (blocks_for_run r some.0)
first_of-whole (r ∷ next ∷ rs) some =
    let whole : total_room (r ∷ next ∷ rs) ≡ room_in r + total_room (next ∷ rs) = total_room-cons r (next ∷ rs) in
    let rest : total_room (next ∷ rs) ≡ room_in next + total_room rs = total_room-cons next rs in
    let left : total_room (r ∷ next ∷ rs) - room_in r ≡ total_room (next ∷ rs) = omega (arith, whole) in
    first_of_more (total_room (r ∷ next ∷ rs)) r (next ∷ rs) (omega (arith, whole, some.0)) (omega (arith, whole, rest, some.1.0))
    ∙ ap (λ (n : ℕ). r ∷ first_of n (next ∷ rs)) left
    ∙ ap (λ (l : List Run). r ∷ l) (first_of-whole (next ∷ rs) some.1)

pub all_runs : (used : List Bool) → first_of (total_room (free_runs used)) (free_runs used) ≡ free_runs used
all_runs used = first_of-whole (free_runs used) (HaveBlocks-free_runs 0 used)
