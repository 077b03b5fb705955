-- What a volume's row holds doesn't depend on the order in which its segments are put.
use Rattle.std.proofs.Common.{◌≡◌, ℕ, Bool, true, false, cond, List, [], ◌∷◌, refl, ap, ◌∙◌, filter}
use Rattle.std.specs.Prelude.{◌==◌}
use Rattle.kinds.specs.declared.segment.Segment.{Segment}
use Rattle.inventory_rows.specs.volume_rows.declared.held.HeldSegment.{HeldSegment}
use Rattle.inventory_rows.specs.volume_rows.Held.{held_of}
use Rattle.inventory_rows.specs.volume_rows.Holdings.{with_segment}
use Rattle.inventory_rules.specs.Held.{holding}
use Rattle.inventory_rules.proofs.HeldTurns.{with_segment-turns}
use Rattle.inventory_bytes.specs.Segments.{held_with}

-- ---- segments that are put one after the other, each where it lies on this volume

abbrev pub gathered : List (ℕ × Segment) → ℕ → List (HeldSegment × ℕ) → List (HeldSegment × ℕ)
gathered [] file held = held
gathered (s ∷ segments) file held = gathered segments file (held_with s file held)

abbrev pub lies : ℕ → ℕ × Segment → Bool
lies file s = s.1.file == file

held_with-turns : (a : HeldSegment) (s : ℕ × Segment) (file : ℕ) (held : List (HeldSegment × ℕ)) → held_with s file (with_segment a held) ≡ with_segment a (held_with s file held)
held_with-turns a s file held =
    elim (s.1.file == file) as (λ b. cond b (with_segment (held_of s.0 s.1) (with_segment a held)) (with_segment a held) ≡ with_segment a (cond b (with_segment (held_of s.0 s.1) held) held)) [
      | true ↦ with_segment-turns (held_of s.0 s.1) a held
      | false ↦ refl
    ]

gathered-turns : (a : HeldSegment) (segments : List (ℕ × Segment)) (file : ℕ) (held : List (HeldSegment × ℕ)) → gathered segments file (with_segment a held) ≡ with_segment a (gathered segments file held)
gathered-turns a [] file held = refl
gathered-turns a (s ∷ segments) file held =
    ap (gathered segments file) (held_with-turns a s file held) ∙ gathered-turns a segments file (held_with s file held)

pub gathered-holding : (segments : List (ℕ × Segment)) (file : ℕ) → gathered segments file [] ≡ holding (filter (lies file) segments)
gathered-holding [] file = refl
gathered-holding (s ∷ segments) file =
    elim (s.1.file == file) as (λ b. gathered segments file (cond b (with_segment (held_of s.0 s.1) []) []) ≡ holding (cond b (s ∷ filter (lies file) segments) (filter (lies file) segments))) [
      | true ↦ gathered-turns (held_of s.0 s.1) segments file [] ∙ ap (with_segment (held_of s.0 s.1)) (gathered-holding segments file)
      | false ↦ gathered-holding segments file
    ]
