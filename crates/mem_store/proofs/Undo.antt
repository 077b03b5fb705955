-- A call that is undone leaves the file as it was.
use Rattle.std.proofs.Common.{◌≡◌, ◌⊎◌, inl, inr, ⊎_elim, ℕ, ◌+◌, ◌-◌, ◌<◌, ◌≤◌, min, List, length, get_or, take, drop, sym, ◌∙◌, ap, arith}
use Rattle.std.proofs.lemmas.Bool.{cases_lt}
use Rattle.std.proofs.lemmas.List.{length-take, length-drop, length-take-le, get_or-take, get_or-drop, ext_get_or, take_all}
use Rattle.store_api.specs.Disk.{overwritten}
use Rattle.store_api.proofs.Bytes.{overwritten_inside, overwritten_outside, overwritten_no_shorter, length-overwritten}
use Rattle.mem_store.specs.declared.entry.Kind.{Kind}
use Rattle.mem_store.specs.declared.entry.Kind.TheVariants.{Write, FailedWrite, Cut, Sync}
use Rattle.mem_store.specs.Entries.{applied, taken_of}

-- a file that differs in a range alone is the same again once what was there is written back
restored : (file other : List ℕ) (at span : ℕ) → length file ≤ length (overwritten other at (take span (drop at file)))
    → ((k : ℕ) → k < length file → (k < at) ⊎ (at + span ≤ k) → get_or other k 0 ≡ get_or file k 0) → take (length file) (overwritten other at (take span (drop at file))) ≡ file
restored file other at span long same = ext_get_or 0 (take (length file) back) file whole (λ i lt.
    let here : i < length file = omega (arith, lt, whole) in
    get_or-take (length file) back i 0 here ∙ place i here)
  where
    back : List ℕ
    back = overwritten other at (take span (drop at file))

    whole : length (take (length file) back) ≡ length file
    whole = length-take-le (length file) back long

    size : length (take span (drop at file)) ≡ min span (length file - at)
    size = length-take span (drop at file) ∙ ap (min span) (length-drop at file)

    off : (i : ℕ) → i < length file → (i < at) ⊎ (at + span ≤ i) → get_or back i 0 ≡ get_or file i 0
    off i lt out = overwritten_outside other at (take span (drop at file)) i (⊎_elim (λ low. inl low) (λ high. inr (omega (arith, size, high))) out) ∙ same i lt out

    place : (i : ℕ) → i < length file → get_or back i 0 ≡ get_or file i 0
    place i lt = elim (cases_lt i at) [
      | inl low ↦ off i lt (inl low)
      | inr from ↦ elim (cases_lt i (at + span)) [
        | inl to ↦
            let e : at + (i - at) ≡ i = omega arith in
            ap (λ n. get_or back n 0) (sym e) ∙ overwritten_inside other at (take span (drop at file)) (i - at) (omega (arith, size, lt, from, to))
            ∙ get_or-take span (drop at file) (i - at) 0 (omega arith) ∙ get_or-drop at file (i - at) 0 ∙ ap (λ n. get_or file n 0) e
        | inr high ↦ off i lt (inr high)
      ]
    ]

-- whatever the call was
pub undo_applied : (kind : Kind) (at : ℕ) (bytes file : List ℕ) → take (length file) (overwritten (applied kind at bytes file) at (taken_of kind at bytes file)) ≡ file
undo_applied Write at bytes file =
    restored file (overwritten file at bytes) at (length bytes) (omega (arith, overwritten_no_shorter file at bytes, overwritten_no_shorter (overwritten file at bytes) at (take (length bytes) (drop at file))))
    (λ k lt out. overwritten_outside file at bytes k out)
undo_applied FailedWrite at bytes file = take_all (length file) file (omega arith)
undo_applied Cut at bytes file = restored file (take at file) at (length file) (long (cases_lt at (length file))) (λ k lt out. ⊎_elim (λ (low : k < at). get_or-take at file k 0 low) (λ (high : at + length file ≤ k). absurd (omega arith)) out)
  where
    size : length (take (length file) (drop at file)) ≡ length file - at
    size = length-take (length file) (drop at file) ∙ ap (min (length file)) (length-drop at file) ∙ omega arith

    long : (at < length file) ⊎ (length file ≤ at) → length file ≤ length (overwritten (take at file) at (take (length file) (drop at file)))
    long (inl short) = omega (arith, size, length-overwritten (take at file) at (take (length file) (drop at file)) (omega (arith, size)))
    long (inr past) = omega (arith, overwritten_no_shorter (take at file) at (take (length file) (drop at file)), length-take at file)
undo_applied Sync at bytes file = take_all (length file) file (omega arith)
