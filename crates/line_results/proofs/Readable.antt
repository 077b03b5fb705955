-- A copy that may be read isn't lost where no count of faults rises.
use Rattle.std.proofs.Common.{◌≡◌, inl, inr, ℕ, zero, suc, ◌+◌, ◌<◌, ◌&&◌, nat_lt, true, false, if◌then◌else◌, Contains, slice_index_or, List, [], ◌∷◌, ◌++◌, length, sym, subst, ◌∙◌, arith}
use Rattle.std.proofs.lemmas.Bool.{and_parts, false≢true}
use Rattle.std.specs.List.{AllByRecursion, list_all}
use Rattle.kinds.specs.declared.segment.Segment.{Segment}
use Rattle.inventory_rows.specs.version_groups.declared.copies.CopyRow.{CopyRow}
use Rattle.inventory_rows.specs.State.{Inv}
use Rattle.contents.specs.Reading.{segments_in}
use Rattle.placing.specs.Placing.{can_read, is_readable}
use Rattle.machine.specs.Pieces.{IsCopyLost}

-- each segment of a copy that may be read lies on a volume that may be read
readable-in : (v : Inv) (start offset count : ℕ) (segments : List Segment) → list_all (λ s. is_readable s.file v) segments ≡ true
    → AllByRecursion (λ s. is_readable s.file v ≡ true) (segments_in start offset count segments)
readable-in v start offset count [] all = tt
readable-in v start offset count (s ∷ segments) all =
    let parts = and_parts (is_readable s.file v) (list_all (λ x. is_readable x.file v) segments) all in
    elim (nat_lt start (offset + count) && nat_lt offset (start + s.len)) as (λ b. AllByRecursion (λ x. is_readable x.file v ≡ true) ((if b then s ∷ [] else []) ++ segments_in (start + s.len) offset count segments)) [
      | true ↦ (parts.0, readable-in v (start + s.len) offset count segments parts.1)
      | false ↦ readable-in v (start + s.len) offset count segments parts.1
    ]

holds_at : {X : Type 0} (P : X → Type 0) (xs : List X) (k : ℕ) (x : X) → k < length xs → slice_index_or xs k x ≡ x → AllByRecursion P xs → P x
holds_at P [] k x lt is h = absurd (omega (arith, lt))
holds_at P (y ∷ xs) zero x lt is h = subst P is h.0
holds_at P (y ∷ xs) (suc k) x lt is h = holds_at P xs k x (omega (arith, lt)) is h.1

pub contained_holds : {X : Type 0} (P : X → Type 0) (xs : List X) (x : X) → Contains xs x → AllByRecursion P xs → P x
contained_holds P xs x c h = holds_at P xs c.0 x c.1 c.2 h

pub not-lost : (rose : ℕ → Type 0) (v : Inv) (offset count : ℕ) (copy : CopyRow) → ((file : ℕ) → rose file → ⊥) → can_read copy v ≡ true → IsCopyLost rose v offset count copy → ⊥
not-lost rose v offset count copy none readable (s, has, inl unreadable) =
    false≢true (sym unreadable ∙ contained_holds (λ (x : Segment). is_readable x.file v ≡ true) (segments_in 0 offset count copy.segments) s has (readable-in v 0 offset count copy.segments readable))
not-lost rose v offset count copy none readable (s, has, inr rises) = none s.file rises
