use Rattle.std.proofs.Common.{◌≡◌, ℕ, List, drop, map}
use Rattle.kinds.specs.declared.segment.Segment.{Segment}
use Rattle.space.specs.Claims.{Claims}
use Rattle.kept_index.specs.Following.{AreLeaving}
use Rattle.kept_index.proofs.following.take_all.Given as goal

abbrev pub invariant-taken : goal.invariant-taken
invariant-taken l =
    (c : Claims) (today : ℕ) (es : List (ℕ × Segment)) → map (λ (e : ℕ × Segment). e.1) es ≡ map (λ p. p.segment) l.taken → AreLeaving l.initial.index c today es l.pools
    → (rest : List (ℕ × Segment)) × ((map (λ (e : ℕ × Segment). e.1) rest ≡ map (λ p. p.segment) (drop l.place-index l.taken)) × AreLeaving l.index c today rest l.pools)
