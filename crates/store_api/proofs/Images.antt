-- What a stop may leave after a call, by what it might have left before it.
use Rattle.std.proofs.Common.{◌≡◌, ◌⊎◌, inl, inr, ⊎_elim, cond, ltb, ℕ, ◌+◌, ◌<◌, ◌≤◌, min, List, ◌∷◌, length, get_or, take, map, Result, Ok, Err, refl, sym, ◌∙◌, ap, subst, arith}
use Rattle.std.specs.List.{range_with_len}
use Rattle.std.proofs.lemmas.Bool.{cases_lt, lt-ltb, le-ltb, cond-true, cond-false}
use Rattle.std.proofs.lemmas.List.{length-take-le, get_or-take, ext_get_or}
use Rattle.std.proofs.lemmas.List.FromFn.{length-map-range_with_len, get_or-map-range_with_len}
use Rattle.store_api.specs.declared.store.Failed.{Failed}
use Rattle.store_api.specs.Disk.{Standing, IsLoose, Leaves, write, cut, settle, settled, changed, overwritten, Call, on, History, standing, reads, now, with_call, ImageAt}
use Rattle.store_api.specs.Runs.{AgreesOutside}
use Rattle.store_api.specs.Told.{MayWrite, MayCut, StopsAs}
use Rattle.store_api.proofs.Bytes.{overwritten_outside}
use Rattle.store_api.proofs.Standings.{leaves_settled, standing_on}
use Rattle.store_api.proofs.Runs.{image_now}

-- of some length, with the bytes of `inside` in the range and those of `outside` elsewhere
mixed : ℕ → ℕ → ℕ → List ℕ → List ℕ → List ℕ
mixed len from to inside outside = map (λ k. cond (ltb k from) (get_or outside k 0) (cond (ltb k to) (get_or inside k 0) (get_or outside k 0))) (range_with_len 0 len)

length-mixed : (len from to : ℕ) (inside outside : List ℕ) → length (mixed len from to inside outside) ≡ len
unfolding mixed
length-mixed len from to inside outside = length-map-range_with_len _ 0 len

mixed_inside : (len from to : ℕ) (inside outside : List ℕ) (k : ℕ) → k < len → from ≤ k → k < to → get_or (mixed len from to inside outside) k 0 ≡ get_or inside k 0
unfolding mixed
mixed_inside len from to inside outside k lt low high =
    get_or-map-range_with_len _ 0 len k k 0 lt (omega arith) ∙ cond-false _ _ _ (le-ltb k from low) ∙ cond-true _ _ _ (lt-ltb k to high)

mixed_before : (len from to : ℕ) (inside outside : List ℕ) (k : ℕ) → k < len → k < from → get_or (mixed len from to inside outside) k 0 ≡ get_or outside k 0
unfolding mixed
mixed_before len from to inside outside k lt low = get_or-map-range_with_len _ 0 len k k 0 lt (omega arith) ∙ cond-true _ _ _ (lt-ltb k from low)

mixed_behind : (len from to : ℕ) (inside outside : List ℕ) (k : ℕ) → k < len → from ≤ k → to ≤ k → get_or (mixed len from to inside outside) k 0 ≡ get_or outside k 0
unfolding mixed
mixed_behind len from to inside outside k lt low high =
    get_or-map-range_with_len _ 0 len k k 0 lt (omega arith) ∙ cond-false _ _ _ (le-ltb k from low) ∙ cond-false _ _ _ (le-ltb k to high)

-- a file that agrees with itself
pub agrees_same : (at len stable : ℕ) (left : List ℕ) → stable ≤ length left → AgreesOutside at len stable left left
agrees_same at len stable left long = record { long = long; same = λ place lt out. refl }

-- after a write
pub left_write : (file : Standing) (at span : ℕ) (written left : List ℕ) → length written ≤ span → Leaves (changed (write at span written) file) left → (before : List ℕ) × Leaves file before × AgreesOutside at span file.stable before left
unfolding changed
left_write file at span written left le leaves = (
  before,
  record {
    long = omega (arith, leaves.long, length-mixed (length left) at (at + span) file.bytes left);
    same = λ place lt clear. same place lt clear;
  },
  record { long = leaves.long; same = λ place lt out. agree place lt out },
)
  where
    before : List ℕ
    before = mixed (length left) at (at + span) file.bytes left

    off : (place : ℕ) → place < file.stable → (place < at) ⊎ (at + span ≤ place) → get_or before place 0 ≡ get_or left place 0
    off place lt (inl low) = mixed_before (length left) at (at + span) file.bytes left place (omega (arith, lt, leaves.long)) low
    off place lt (inr high) = mixed_behind (length left) at (at + span) file.bytes left place (omega (arith, lt, leaves.long)) (omega arith) high

    agree : (place : ℕ) → place < file.stable → (place < at) ⊎ (at + span ≤ place) → get_or left place 0 ≡ get_or before place 0
    agree place lt out = sym (off place lt out)

    unwritten : (place : ℕ) → place < file.stable → ¬ IsLoose file.loose place → (place < at) ⊎ (at + span ≤ place) → get_or before place 0 ≡ get_or file.bytes place 0
    unwritten place lt clear out =
        off place lt out
        ∙ leaves.same place lt (λ loose. ⊎_elim (λ (here : (at ≤ place) × (place < at + span)). ⊎_elim (λ (low : place < at). absurd (omega arith)) (λ (high : at + span ≤ place). absurd (omega arith)) out) clear loose)
        ∙ overwritten_outside file.bytes at written place (⊎_elim (λ low. inl low) (λ high. inr (omega arith)) out)

    same : (place : ℕ) → place < file.stable → ¬ IsLoose file.loose place → get_or before place 0 ≡ get_or file.bytes place 0
    same place lt clear = elim (cases_lt place at) [
      | inl low ↦ unwritten place lt clear (inl low)
      | inr from ↦ elim (cases_lt place (at + span)) [
        | inl to ↦ mixed_inside (length left) at (at + span) file.bytes left place (omega (arith, lt, leaves.long)) from to
        | inr high ↦ unwritten place lt clear (inr high)
      ]
    ]

-- and all of that
pub write_left : (file : Standing) (at span : ℕ) (written before left : List ℕ) → length written ≤ span → Leaves file before → AgreesOutside at span file.stable before left → Leaves (changed (write at span written) file) left
unfolding changed
write_left file at span written before left le leaves agrees = record { long = agrees.long; same = λ place lt clear. same place lt clear }
  where
    off : (place : ℕ) → place < file.stable → ¬ IsLoose ((at, span) ∷ file.loose) place → (place < at) ⊎ (at + span ≤ place) → get_or left place 0 ≡ get_or (overwritten file.bytes at written) place 0
    off place lt clear out =
        agrees.same place lt out ∙ leaves.same place lt (λ loose. clear (inr loose)) ∙ sym (overwritten_outside file.bytes at written place (⊎_elim (λ low. inl low) (λ high. inr (omega arith)) out))

    same : (place : ℕ) → place < file.stable → ¬ IsLoose ((at, span) ∷ file.loose) place → get_or left place 0 ≡ get_or (overwritten file.bytes at written) place 0
    same place lt clear = elim (cases_lt place at) [
      | inl low ↦ off place lt clear (inl low)
      | inr from ↦ elim (cases_lt place (at + span)) [ inl to ↦ absurd (clear (inl (from, to))) | inr high ↦ off place lt clear (inr high) ]
    ]

-- after a cut
pub left_cut : (file : Standing) (asked kept : ℕ) (left : List ℕ) → asked ≤ kept → Leaves (changed (cut asked kept) file) left → (before : List ℕ) × Leaves file before × AgreesOutside 0 0 (min asked file.stable) before left
unfolding changed
left_cut file asked kept left le leaves = (
  before,
  record { long = omega (arith, length-mixed (length left + file.stable) 0 asked left file.bytes); same = λ place lt clear. same place lt clear },
  record { long = omega (arith, leaves.long); same = λ place lt out. sym (mixed_inside (length left + file.stable) 0 asked left file.bytes place (omega arith) (omega arith) (omega arith)) },
)
  where
    before : List ℕ
    before = mixed (length left + file.stable) 0 asked left file.bytes

    same : (place : ℕ) → place < file.stable → ¬ IsLoose file.loose place → get_or before place 0 ≡ get_or file.bytes place 0
    same place lt clear = elim (cases_lt place asked) [
      | inl low ↦
          mixed_inside (length left + file.stable) 0 asked left file.bytes place (omega arith) (omega arith) low ∙ leaves.same place (omega arith) clear ∙ get_or-take kept file.bytes place 0 (omega arith)
      | inr high ↦ mixed_behind (length left + file.stable) 0 asked left file.bytes place (omega arith) (omega arith) high
    ]

module _ (h : History) (file : ℕ) where
  -- what a write that may have failed lets a stop leave
  pub write_leaves : (at : ℕ) (bytes : List ℕ) (result : Result (Unit {0}) Failed) (call : Call) (left : List ℕ) → MayWrite file at bytes result call → Leaves (standing (with_call call h) file) left
      → (before : List ℕ) × Leaves (standing h file) before × AgreesOutside at (length bytes) (standing h file).stable before left
  write_leaves at bytes (Ok done) call left is leaves =
      left_write (standing h file) at (length bytes) bytes left (omega arith) (subst (λ s. Leaves s left) (standing_on h file (write at (length bytes) bytes)) (subst (λ c. Leaves (standing (with_call c h) file) left) is leaves))
  write_leaves at bytes (Err failed) call left (inl is) leaves =
      let same : Leaves (standing h file) left = subst (λ c. Leaves (standing (with_call c h) file) left) is leaves in (left, same, agrees_same at (length bytes) (standing h file).stable left same.long)
  write_leaves at bytes (Err failed) call left (inr part) leaves =
      let was = left_write (standing h file) part.0 part.1 part.2 left part.5 (subst (λ s. Leaves s left) (standing_on h file (write part.0 part.1 part.2)) (subst (λ c. Leaves (standing (with_call c h) file) left) part.6 leaves)) in
      (was.0, was.1, record { long = was.2.long; same = λ place lt out. was.2.same place lt (⊎_elim (λ low. inl (omega (arith, low, part.3))) (λ high. inr (omega (arith, high, part.4))) out) })

  -- a cut that may have failed
  pub cut_leaves : (len : ℕ) (result : Result (Unit {0}) Failed) (call : Call) (left : List ℕ) → MayCut file len result call → Leaves (standing (with_call call h) file) left
      → (before : List ℕ) × Leaves (standing h file) before × AgreesOutside 0 0 (min len (standing h file).stable) before left
  cut_leaves len (Ok done) call left is leaves =
      left_cut (standing h file) len len left (omega arith) (subst (λ s. Leaves s left) (standing_on h file (cut len len)) (subst (λ c. Leaves (standing (with_call c h) file) left) is leaves))
  cut_leaves len (Err failed) call left (inl is) leaves =
      let same : Leaves (standing h file) left = subst (λ c. Leaves (standing (with_call c h) file) left) is leaves in (left, same, agrees_same 0 0 (min len (standing h file).stable) left (omega (arith, same.long)))
  cut_leaves len (Err failed) call left (inr part) leaves =
      left_cut (standing h file) len part.0 left part.1 (subst (λ s. Leaves s left) (standing_on h file (cut len part.0)) (subst (λ c. Leaves (standing (with_call c h) file) left) part.2 leaves))

  -- a sync that succeeded
  pub settle_leaves : (left : List ℕ) → Leaves (standing (with_call (on file settle) h) file) left → take (length (reads h file)) left ≡ reads h file
  unfolding changed settled
  settle_leaves left leaves =
      let now : Leaves (settled (reads h file)) left = subst (λ s. Leaves s left) (standing_on h file settle) leaves in
      let long : length (take (length (reads h file)) left) ≡ length (reads h file) = length-take-le (length (reads h file)) left now.long in
      ext_get_or 0 (take (length (reads h file)) left) (reads h file) long (λ i lt.
      let here : i < length (reads h file) = omega (arith, lt, long) in
      get_or-take (length (reads h file)) left i 0 here ∙ leaves_settled (reads h file) left now i here)

-- a stop leaves one of the images of its moment
pub stop_image : (before after : History) → StopsAs before after → ImageAt before (now before) (reads after)
unfolding settled
stop_image before after stops = image_now before (reads after) (λ file. subst (λ cs. Leaves (standing before file) (reads (let r : History = record { first = after.first; began = after.began; calls = cs } in r) file)) (sym stops.nothing_pending) (stops.left file))

-- all of it on the disk
pub stop_settled : (before after : History) (file : ℕ) → StopsAs before after → standing after file ≡ settled (reads after file)
unfolding settled
stop_settled before after file stops =
    let P : List Call → Type 0 = λ cs. let r : History = record { first = after.first; began = after.began; calls = cs } in standing r file ≡ settled (reads r file) in subst P (sym stops.nothing_pending) refl

-- at its moment
pub stop_now : (before after : History) → StopsAs before after → now after ≡ now before
stop_now before after stops = omega (arith, stops.same_moment, ap length stops.nothing_pending)
