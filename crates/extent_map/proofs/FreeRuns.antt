-- The maximal free runs of a list of blocks: the next of them, their room, and what marking a run makes of that room.
use Rattle.std.proofs.Common.{◌≡◌, ℕ, ◌+◌, ◌-◌, ◌*◌, ◌<◌, ◌≤◌, zero, suc, Bool, true, false, not, ◌&&◌, List, [], ◌∷◌, ◌++◌, length, get_or, take, drop, replicate, map, refl, sym, ap, subst, ◌∙◌, arith, inl, inr, add-one}
use Rattle.std.specs.Prelude.{if◌then◌else◌, ◌==◌, nat_lt}
use Rattle.std.proofs.lemmas.List.{ext_get_or, length-replicate, get_or_past, drop_more, drop_all, take_more, append-nil, map-append, take-map, drop-map, get_or-map, get_or_default, length-map}
use Rattle.std.proofs.lemmas.List.Sums.{sum_by-cons}
use Rattle.std.proofs.lemmas.Option.{slice_get_within, get_or_from_slice_get}
use Rattle.std.proofs.lemmas.Bool.{cases_lt, eqb-true, eq-eqb, ne_eqb, lt-ltb, not-true, not-false, false≢true}
use Rattle.extent_map.specs.declared.extents.Run.{Run}
use Rattle.extent_map.specs.Blocks.{run, end_of, room_in, total_room, with_block, free_runs_from, free_runs, marked_from, marked, AllAre, Ascend, is_free, header_if, joined}
use Rattle.extent_map.proofs.Words.{between_inside, between_outside}
use Rattle.extent_map.proofs.Members.{length-marked_from, get_or-marked_from}

pub total_room-cons : (r : Run) (rs : List Run) → total_room (r ∷ rs) ≡ room_in r + total_room rs
total_room-cons r rs = sum_by-cons room_in r rs

-- whether the first block of a list is there and is free
abbrev pub begins_free : List Bool → Bool
begins_free [] = false
begins_free (b ∷ bs) = not b

abbrev starts_at : ℕ → List Run → Bool
starts_at at [] = false
starts_at at (r ∷ rs) = r.first == at

abbrev joined_or : Bool → ℕ → Run → List Run → List Run
joined_or b at r rs = if b then run at (r.blocks + 1) ∷ rs else run at 1 ∷ r ∷ rs

with_block_apart : (at : ℕ) (runs : List Run) → starts_at (at + 1) runs ≡ false → with_block at runs ≡ run at 1 ∷ runs
with_block_apart at [] e = refl
with_block_apart at (r ∷ rs) e = ap (λ (b : Bool). joined_or b at r rs) e

with_block_joined : (at : ℕ) (r : Run) (rs : List Run) → (r.first == at + 1) ≡ true → with_block at (r ∷ rs) ≡ run at (r.blocks + 1) ∷ rs
with_block_joined at r rs e = ap (λ (b : Bool). joined_or b at r rs) e

-- ---- ascending, and with blocks

pub Ascend-weaker : (low high : ℕ) (runs : List Run) → low ≤ high → Ascend high runs → Ascend low runs
Ascend-weaker low high [] le a = tt
Ascend-weaker low high (r ∷ rs) le a = (omega (arith, le, a.0), a.1)

Ascend-with_block : (at : ℕ) (runs : List Run) → Ascend (at + 1) runs → Ascend at (with_block at runs)
Ascend-with_block at [] a = (omega arith, tt)
Ascend-with_block at (r ∷ rs) a =
    elim (r.first == at + 1) as (λ b. (r.first == at + 1) ≡ b → Ascend at (joined_or b at r rs)) [
      | true ↦ λ e. let first : r.first ≡ at + 1 = eqb-true r.first (at + 1) e in
          (omega arith, Ascend-weaker (at + (r.blocks + 1)) (end_of r) rs (omega arith) a.1)
      | false ↦ λ e. (omega arith, a)
    ] refl

pub Ascend-free_runs : (at : ℕ) (used : List Bool) → Ascend at (free_runs_from at used)
Ascend-free_runs at [] = tt
Ascend-free_runs at (true ∷ used) = Ascend-weaker at (at + 1) (free_runs_from (at + 1) used) (omega arith) (Ascend-free_runs (at + 1) used)
Ascend-free_runs at (false ∷ used) = Ascend-with_block at (free_runs_from (at + 1) used) (Ascend-free_runs (at + 1) used)

abbrev pub HaveBlocks : List Run → Type 0
HaveBlocks [] = Unit {0}
HaveBlocks (r ∷ rs) = (0 < r.blocks) × HaveBlocks rs

HaveBlocks-with_block : (at : ℕ) (runs : List Run) → HaveBlocks runs → HaveBlocks (with_block at runs)
HaveBlocks-with_block at [] f = (omega arith, tt)
HaveBlocks-with_block at (r ∷ rs) f =
    elim (r.first == at + 1) as (λ b. HaveBlocks (joined_or b at r rs)) [ true ↦ (omega arith, f.1) | false ↦ (omega arith, f) ]

pub HaveBlocks-free_runs : (at : ℕ) (used : List Bool) → HaveBlocks (free_runs_from at used)
HaveBlocks-free_runs at [] = tt
HaveBlocks-free_runs at (true ∷ used) = HaveBlocks-free_runs (at + 1) used
HaveBlocks-free_runs at (false ∷ used) = HaveBlocks-with_block at (free_runs_from (at + 1) used) (HaveBlocks-free_runs (at + 1) used)

-- ---- where the first run starts

not_started : (at high : ℕ) (runs : List Run) → at < high → Ascend high runs → starts_at at runs ≡ false
not_started at high [] lt a = refl
not_started at high (r ∷ rs) lt a = ne_eqb r.first at (λ e. absurd (omega (arith, lt, e, a.0)))

with_block_starts : (at : ℕ) (runs : List Run) → starts_at at (with_block at runs) ≡ true
with_block_starts at [] = eq-eqb at at refl
with_block_starts at (r ∷ rs) = elim (r.first == at + 1) as (λ b. starts_at at (joined_or b at r rs) ≡ true) [ true ↦ eq-eqb at at refl | false ↦ eq-eqb at at refl ]

starts_is : (at : ℕ) (used : List Bool) → starts_at at (free_runs_from at used) ≡ begins_free used
starts_is at [] = refl
starts_is at (true ∷ used) = not_started at (at + 1) (free_runs_from (at + 1) used) (omega arith) (Ascend-free_runs (at + 1) used)
starts_is at (false ∷ used) = with_block_starts at (free_runs_from (at + 1) used)

-- ---- the next run

-- the free runs of the blocks from `at` on
abbrev pub runs_at : ℕ → List Bool → List Run
runs_at at used = free_runs_from at (drop at used)

runs_at-used : (at : ℕ) (used : List Bool) → at < length used → get_or used at true ≡ true → runs_at at used ≡ runs_at (at + 1) used
runs_at-used at used lt e = ap (free_runs_from at) (drop_more used at true lt ∙ ap (λ (b : Bool). b ∷ drop (at + 1) used) e)

runs_at-free : (at : ℕ) (used : List Bool) → at < length used → get_or used at true ≡ false → runs_at at used ≡ with_block at (runs_at (at + 1) used)
runs_at-free at used lt e = ap (free_runs_from at) (drop_more used at true lt ∙ ap (λ (b : Bool). b ∷ drop (at + 1) used) e)

skip_used : (n at first : ℕ) (used : List Bool) → at + n ≡ first → first ≤ length used → ((k : ℕ) → at ≤ k → k < first → get_or used k true ≡ true) → runs_at at used ≡ runs_at first used
skip_used zero at first used e fits are = let same : at ≡ first = omega (arith, e) in ap (λ (k : ℕ). runs_at k used) same
skip_used (suc n) at first used e fits are =
    let lt : at < length used = omega (arith, e, fits) in
    let before : at < first = omega (arith, e) in
    let here : at ≤ at = omega arith in
    let next : at + 1 + n ≡ first = omega (arith, e) in
    runs_at-used at used lt (are at here before) ∙ skip_used n (at + 1) first used next fits (λ k low high. are k (omega (arith, low)) high)

run_grows : (n at end : ℕ) (used : List Bool) → at + n + 1 ≡ end → end ≤ length used → ((k : ℕ) → at ≤ k → k < end → get_or used k true ≡ false) → begins_free (drop end used) ≡ false → runs_at at used ≡ run at (n + 1) ∷ runs_at end used
run_grows zero at end used e fits are stop =
    let lt : at < length used = omega (arith, e, fits) in
    let before : at < end = omega (arith, e) in
    let here : at ≤ at = omega arith in
    let next : at + 1 ≡ end = omega (arith, e) in
    let one : 1 ≡ zero + 1 = omega arith in
    runs_at-free at used lt (are at here before)
    ∙ with_block_apart at (runs_at (at + 1) used) (starts_is (at + 1) (drop (at + 1) used) ∙ ap (λ (k : ℕ). begins_free (drop k used)) next ∙ stop)
    ∙ ap (λ (k : ℕ). run at 1 ∷ runs_at k used) next
    ∙ ap (λ (k : ℕ). run at k ∷ runs_at end used) one
run_grows (suc n) at end used e fits are stop =
    let lt : at < length used = omega (arith, e, fits) in
    let before : at < end = omega (arith, e) in
    let here : at ≤ at = omega arith in
    let next : at + 1 + n + 1 ≡ end = omega (arith, e) in
    let more : n + 1 + 1 ≡ suc n + 1 = omega arith in
    runs_at-free at used lt (are at here before)
    ∙ ap (with_block at) (run_grows n (at + 1) end used next fits (λ k low high. are k (omega (arith, low)) high) stop)
    ∙ with_block_joined at (run (at + 1) (n + 1)) (runs_at end used) (eq-eqb (at + 1) (at + 1) refl)
    ∙ ap (λ (k : ℕ). run at k ∷ runs_at end used) more

pub next_run : (at first end : ℕ) (used : List Bool) → at ≤ first → first < end → end ≤ length used → ((k : ℕ) → at ≤ k → k < first → get_or used k true ≡ true) → ((k : ℕ) → first ≤ k → k < end → get_or used k true ≡ false) → begins_free (drop end used) ≡ false → runs_at at used ≡ run first (end - first) ∷ runs_at (first + (end - first)) used
next_run at first end used low some fits before free stop =
    let fits' : first ≤ length used = omega arith in
    let gap : at + (first - at) ≡ first = omega arith in
    let size : first + (end - first - 1) + 1 ≡ end = omega arith in
    let blocks : end - first - 1 + 1 ≡ end - first = omega arith in
    let behind : end ≡ first + (end - first) = omega arith in
    skip_used (first - at) at first used gap fits' before
    ∙ run_grows (end - first - 1) first end used size fits free stop
    ∙ ap (λ (k : ℕ). run first k ∷ runs_at end used) blocks
    ∙ ap (λ (k : ℕ). run first (end - first) ∷ runs_at k used) behind

pub none_left : (at : ℕ) (used : List Bool) → at ≤ length used → ((k : ℕ) → at ≤ k → k < length used → get_or used k true ≡ true) → runs_at at used ≡ []
none_left at used le are =
    let gap : at + (length used - at) ≡ length used = omega arith in
    let all : length used ≤ length used = omega arith in
    skip_used (length used - at) at (length used) used gap all are ∙ ap (free_runs_from (length used)) (drop_all (length used) used all)

-- ---- the room, block by block

abbrev front_room : Bool → ℕ
front_room true = 4096
front_room false = 4064

abbrev room_along : List Bool → ℕ
room_along [] = 0
room_along (true ∷ used) = room_along used
room_along (false ∷ used) = front_room (begins_free used) + room_along used

total_room-with_block : (at : ℕ) (runs : List Run) → HaveBlocks runs → total_room (with_block at runs) ≡ front_room (starts_at (at + 1) runs) + total_room runs
total_room-with_block at [] f = total_room-cons (run at 1) []
total_room-with_block at (r ∷ rs) f =
    let whole : total_room (r ∷ rs) ≡ room_in r + total_room rs = total_room-cons r rs in
    elim (r.first == at + 1) as (λ b. total_room (joined_or b at r rs) ≡ front_room b + total_room (r ∷ rs)) [
      | true ↦ total_room-cons (run at (r.blocks + 1)) rs ∙ omega (arith, whole, f.0)
      | false ↦ total_room-cons (run at 1) (r ∷ rs)
    ]

room_is : (at : ℕ) (used : List Bool) → total_room (free_runs_from at used) ≡ room_along used
room_is at [] = refl
room_is at (true ∷ used) = room_is (at + 1) used
room_is at (false ∷ used) =
    total_room-with_block at (free_runs_from (at + 1) used) (HaveBlocks-free_runs (at + 1) used)
    ∙ ap (λ (b : Bool). front_room b + total_room (free_runs_from (at + 1) used)) (starts_is (at + 1) used)
    ∙ ap (λ (n : ℕ). front_room (begins_free used) + n) (room_is (at + 1) used)

abbrev ends_free : List Bool → Bool
ends_free [] = false
ends_free (b ∷ []) = not b
ends_free (b ∷ c ∷ bs) = ends_free (c ∷ bs)

room_along-append : (a x : List Bool) → room_along (a ++ x) ≡ room_along a + room_along x + header_if (ends_free a && begins_free x)
room_along-append [] x = omega arith
room_along-append (true ∷ []) x = omega arith
room_along-append (false ∷ []) x =
    elim (begins_free x) as (λ b. front_room b + room_along x ≡ front_room false + 0 + room_along x + header_if (true && b)) [ true ↦ omega arith | false ↦ omega arith ]
room_along-append (true ∷ c ∷ a) x = room_along-append (c ∷ a) x
room_along-append (false ∷ c ∷ a) x =
    let rest : room_along ((c ∷ a) ++ x) ≡ room_along (c ∷ a) + room_along x + header_if (ends_free (c ∷ a) && begins_free x) = room_along-append (c ∷ a) x in
    omega (arith, rest)

ends_free-append : (a : List Bool) (b : Bool) (bs : List Bool) → ends_free (a ++ b ∷ bs) ≡ ends_free (b ∷ bs)
ends_free-append [] b bs = refl
ends_free-append (x ∷ []) b bs = refl
ends_free-append (x ∷ y ∷ a) b bs = ends_free-append (y ∷ a) b bs

room_along-used : (n : ℕ) → room_along (replicate n true) ≡ 0
room_along-used zero = refl
room_along-used (suc n) = room_along-used n

room_along-free : (n : ℕ) → room_along (replicate (suc n) false) + 32 ≡ 4096 * suc n
room_along-free zero = omega arith
room_along-free (suc n) =
    let rest : room_along (replicate (suc n) false) + 32 ≡ 4096 * suc n = room_along-free n in
    omega (arith, rest)

ends_free-replicate : (b : Bool) (n : ℕ) → ends_free (replicate (suc n) b) ≡ not b
ends_free-replicate b zero = refl
ends_free-replicate b (suc n) = ends_free-replicate b n

and_true : (b : Bool) → (b && true) ≡ b
and_true true = refl
and_true false = refl

and_false : (b : Bool) → (b && false) ≡ false
and_false true = refl
and_false false = refl

three_parts : (v : Bool) (a c : List Bool) (m : ℕ) → room_along (a ++ replicate (suc m) v ++ c) ≡ room_along a + room_along (replicate (suc m) v) + header_if (ends_free a && not v) + room_along c + header_if (not v && begins_free c)
three_parts v a c m =
    let ends : ends_free (a ++ replicate (suc m) v) ≡ not v = ends_free-append a v (replicate m v) ∙ ends_free-replicate v m in
    let front : room_along (a ++ replicate (suc m) v) ≡ room_along a + room_along (replicate (suc m) v) + header_if (ends_free a && not v) = room_along-append a (replicate (suc m) v) in
    room_along-append (a ++ replicate (suc m) v) c
    ∙ ap (λ (b : Bool). room_along (a ++ replicate (suc m) v) + room_along c + header_if (b && begins_free c)) ends
    ∙ ap (λ (n : ℕ). n + room_along c + header_if (not v && begins_free c)) front

joined_parts : (a c : List Bool) (n : ℕ) → 0 < n → room_along (a ++ replicate n false ++ c) + 32 ≡ room_along (a ++ replicate n true ++ c) + (4096 * n + header_if (ends_free a) + header_if (begins_free c))
joined_parts a c zero some = absurd (omega arith)
joined_parts a c (suc m) some =
    let free : room_along (a ++ replicate (suc m) false ++ c) ≡ room_along a + room_along (replicate (suc m) false) + header_if (ends_free a && true) + room_along c + header_if (begins_free c) = three_parts false a c m in
    let used : room_along (a ++ replicate (suc m) true ++ c) ≡ room_along a + room_along (replicate (suc m) true) + header_if (ends_free a && false) + room_along c + 0 = three_parts true a c m in
    let left : header_if (ends_free a && true) ≡ header_if (ends_free a) = ap header_if (and_true (ends_free a)) in
    let none : header_if (ends_free a && false) ≡ 0 = ap header_if (and_false (ends_free a)) in
    let size : room_along (replicate (suc m) false) + 32 ≡ 4096 * suc m = room_along-free m in
    let zero-size : room_along (replicate (suc m) true) ≡ 0 = room_along-used (suc m) in
    omega (arith, free, used, left, none, size, zero-size)

ends_take : (first : ℕ) (used : List Bool) → first ≤ length used → ends_free (take first used) ≡ (nat_lt 0 first && is_free used (first - 1))
ends_take zero used le = refl
ends_take (suc k) used le =
    let lt : k < length used = omega (arith, le) in
    let some : 0 < suc k = omega arith in
    let back : k ≡ suc k - 1 = omega arith in
    ap (λ (n : ℕ). ends_free (take n used)) (sym (add-one k))
    ∙ ap ends_free (take_more used k true lt)
    ∙ ends_free-append (take k used) (get_or used k true) []
    ∙ ap (λ (n : ℕ). is_free used n) back
    ∙ ap (λ (b : Bool). b && is_free used (suc k - 1)) (sym (lt-ltb 0 (suc k) some))

pub begins_drop : (end : ℕ) (used : List Bool) → begins_free (drop end used) ≡ is_free used end
begins_drop end used =
    elim (cases_lt end (length used)) [
      | inl lt ↦ ap begins_free (drop_more used end true lt)
      | inr le ↦ ap begins_free (drop_all end used le) ∙ sym (ap not (get_or_past used end true le))
    ]

-- a run that becomes free adds its blocks' bytes, less one header, and a header for each free neighbour that it joins
pub total_room-marked : (r : Run) (used : List Bool) → 0 < r.blocks → end_of r ≤ length used → total_room (free_runs (marked false r used)) + 32 ≡ total_room (free_runs (marked true r used)) + joined r used
total_room-marked r used some fits =
    let left : header_if (ends_free (take r.first used)) ≡ header_if (nat_lt 0 r.first && is_free used (r.first - 1)) = ap header_if (ends_take r.first used (omega arith)) in
    let right : header_if (begins_free (drop (end_of r) used)) ≡ header_if (is_free used (end_of r)) = ap header_if (begins_drop (end_of r) used) in
    let free : total_room (free_runs (marked false r used)) ≡ room_along (marked false r used) = room_is 0 (marked false r used) in
    let taken : total_room (free_runs (marked true r used)) ≡ room_along (marked true r used) = room_is 0 (marked true r used) in
    let parts : room_along (marked false r used) + 32 ≡ room_along (marked true r used) + (4096 * r.blocks + header_if (ends_free (take r.first used)) + header_if (begins_free (drop (end_of r) used))) = joined_parts (take r.first used) (drop (end_of r) used) r.blocks some in
    omega (arith, left, right, free, taken, parts)

pub total_room-all_free : (n : ℕ) → total_room (free_runs (replicate n false)) ≡ 4096 * n - 32
total_room-all_free zero = refl
total_room-all_free (suc m) =
    let size : room_along (replicate (suc m) false) + 32 ≡ 4096 * suc m = room_along-free m in
    room_is 0 (replicate (suc m) false) ∙ omega (arith, size)

room_along-bound : (used : List Bool) → room_along used ≤ 4096 * length used
room_along-bound [] = omega arith
room_along-bound (true ∷ used) = omega (arith, room_along-bound used)
room_along-bound (false ∷ used) =
    let rest : room_along used ≤ 4096 * length used = room_along-bound used in
    elim (begins_free used) as (λ b. front_room b + room_along used ≤ 4096 * suc (length used)) [ true ↦ omega (arith, rest) | false ↦ omega (arith, rest) ]

pub total_room-bound : (used : List Bool) → total_room (free_runs used) ≤ 4096 * length used
total_room-bound used = omega (arith, room_is 0 used, room_along-bound used)

-- ---- a run that is marked as it was

pub AllAre-fits : (v : Bool) (r : Run) (used : List Bool) → 0 < r.blocks → AllAre v r used → end_of r ≤ length used
AllAre-fits v r used some are =
    let low : r.first ≤ end_of r - 1 = omega arith in
    let high : end_of r - 1 < end_of r = omega arith in
    let last : end_of r - 1 < length used = slice_get_within used (end_of r - 1) v (are (end_of r - 1) low high) in
    omega arith

pub marked_same : (v : Bool) (r : Run) (used : List Bool) → 0 < r.blocks → AllAre v r used → marked v r used ≡ used
marked_same v r used some are =
    let fits : end_of r ≤ length used = AllAre-fits v r used some are in
    ext_get_or v (marked v r used) used (length-marked_from v r.first r.blocks used fits) (λ k lt.
    get_or-marked_from v r.first r.blocks used k v fits
    ∙ elim (cases_lt k r.first) [
      | inl before ↦ ap (λ (b : Bool). if b then v else get_or used k v) (between_outside r.first (end_of r) k (inl before))
      | inr from ↦ elim (cases_lt k (end_of r)) [
        | inl under ↦ ap (λ (b : Bool). if b then v else get_or used k v) (between_inside r.first (end_of r) k from under) ∙ sym (get_or_from_slice_get used k v v (are k from under))
        | inr over ↦ ap (λ (b : Bool). if b then v else get_or used k v) (between_outside r.first (end_of r) k (inr over))
      ]
    ])

-- a run that is given back, and one that is taken
pub total_room-given : (r : Run) (used : List Bool) → 0 < r.blocks → AllAre true r used → total_room (free_runs (marked false r used)) + 32 ≡ total_room (free_runs used) + joined r used
total_room-given r used some are =
    total_room-marked r used some (AllAre-fits true r used some are) ∙ ap (λ (l : List Bool). total_room (free_runs l) + joined r used) (marked_same true r used some are)

pub total_room-taken : (r : Run) (used : List Bool) → 0 < r.blocks → AllAre false r used → total_room (free_runs used) + 32 ≡ total_room (free_runs (marked true r used)) + joined r used
total_room-taken r used some are =
    ap (λ (l : List Bool). total_room (free_runs l) + 32) (sym (marked_same false r used some are)) ∙ total_room-marked r used some (AllAre-fits false r used some are)

-- ---- the free blocks are those that aren't in use

pub used_at : (free used : List Bool) (k : ℕ) → free ≡ map not used → k < length used → get_or free k false ≡ false → get_or used k true ≡ true
used_at free used k e lt clear =
    not-false (get_or used k true) (sym (get_or-map not used k true false lt) ∙ ap (λ (l : List Bool). get_or l k false) (sym e) ∙ clear)

pub free_at : (free used : List Bool) (k : ℕ) → free ≡ map not used → k < length used → get_or free k false ≡ true → get_or used k true ≡ false
free_at free used k e lt set =
    not-true (get_or used k true) (sym (get_or-map not used k true false lt) ∙ ap (λ (l : List Bool). get_or l k false) (sym e) ∙ set)

-- the next free block and the next block in use behind it bound the next free run
pub found_run : (at first end : ℕ) (used free now : List Bool) → used ≡ now → free ≡ map not used → at ≤ length now → 0 < total_room (runs_at at now) → at ≤ first → first ≤ length free → ((k : ℕ) → at ≤ k → k < first → get_or free k false ≡ false) → (first < length free → get_or free first false ≡ true) → first ≤ end → end ≤ length used → ((k : ℕ) → first ≤ k → k < end → get_or used k false ≡ false) → (end < length used → get_or used end false ≡ true) → (first < end) × (runs_at at now ≡ run first (end - first) ∷ runs_at (first + (end - first)) now)
found_run at first end used free now e not-used within some low high before here low' high' before' here' =
    let len : length used ≡ length now = ap length e in
    let len' : length free ≡ length used = ap length not-used ∙ length-map used not in
    let some' : 0 < total_room (runs_at at used) = subst (λ (u : List Bool). 0 < total_room (runs_at at u)) (sym e) some in
    let within' : at ≤ length used = omega arith in
    let before-used : (k : ℕ) → at ≤ k → k < first → get_or used k true ≡ true = λ k le lt. used_at free used k not-used (omega (arith, lt)) (before k le lt) in
    let inside : first < length used = elim (cases_lt first (length used)) [
      | inl lt ↦ lt
      | inr le ↦
          let none : runs_at at used ≡ [] = none_left at used within' (λ k from under. before-used k from (omega (arith, under, le))) in
          let no-room : total_room (runs_at at used) ≡ 0 = ap total_room none in
          absurd (omega (arith, no-room, some'))
    ] in
    let inside' : first < length free = omega arith in
    let free-first : get_or used first true ≡ false = free_at free used first not-used inside (here inside') in
    let more : first < end = elim (cases_lt first end) [
      | inl lt ↦ lt
      | inr le ↦
          let same : end ≡ first = omega (arith, le, low') in
          let end-inside : end < length used = omega (arith, same) in
          absurd (false≢true (sym free-first ∙ sym (get_or_default used first false true inside) ∙ ap (λ (k : ℕ). get_or used k false) (sym same) ∙ here' end-inside))
    ] in
    let stop : begins_free (drop end used) ≡ false = begins_drop end used ∙ elim (cases_lt end (length used)) [
      | inl lt ↦ ap not (sym (get_or_default used end false true lt) ∙ here' lt)
      | inr le ↦ ap not (get_or_past used end true le)
    ] in (
      more,
      subst (λ (u : List Bool). runs_at at u ≡ run first (end - first) ∷ runs_at (first + (end - first)) u) e (next_run at first end used low more high' before-used (λ k from under. sym (get_or_default used k false true (omega (arith, under))) ∙ before' k from under) stop),
    )

map-replicate : (b : Bool) (n : ℕ) → map not (replicate n b) ≡ replicate n (not b)
map-replicate b zero = refl
map-replicate b (suc n) = ap (λ (l : List Bool). not b ∷ l) (map-replicate b n)

pub map-marked : (v : Bool) (first count : ℕ) (used : List Bool) → map not (marked_from v first count used) ≡ marked_from (not v) first count (map not used)
map-marked v first count used =
    map-append not (take first used ++ replicate count v) (drop (first + count) used)
    ∙ ap (λ (l : List Bool). l ++ map not (drop (first + count) used)) (map-append not (take first used) (replicate count v))
    ∙ ap (λ (l : List Bool). l ++ map not (replicate count v) ++ map not (drop (first + count) used)) (sym (take-map not first used))
    ∙ ap (λ (l : List Bool). take first (map not used) ++ l ++ map not (drop (first + count) used)) (map-replicate v count)
    ∙ ap (λ (l : List Bool). take first (map not used) ++ replicate count (not v) ++ l) (sym (drop-map not (first + count) used))

pub all_free : (n : ℕ) → marked_from true 0 n (replicate n false) ≡ map not (replicate n false)
all_free n =
    let sum : 0 + n ≡ n = omega arith in
    let fits : length (replicate n false) ≤ 0 + n = omega (arith, length-replicate n false) in
    ap (λ (l : List Bool). replicate n true ++ l) (drop_all (0 + n) (replicate n false) fits) ∙ append-nil (replicate n true) ∙ sym (map-replicate false n)
