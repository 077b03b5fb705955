use Rattle.std.proofs.Common.{◌≡◌, ◌∙◌, ℕ, Bool, true, false, List, [], ◌∷◌, Option, Some, None, length, subst, sym, ap, refl, arith}
use Rattle.std.specs.Prelude.{◌≢◌, ◌==◌}
use Rattle.std.proofs.lemmas.Bool.{ne_eqb}
use Rattle.kinds.specs.declared.segment.Segment.{Segment}
use Rattle.pool_tables.specs.Rows.{row_at}
use Rattle.space.specs.declared.claims.Claim.{Claim}
use Rattle.space.specs.declared.places.Placed.{Placed}
use Rattle.space_index.specs.declared.held.Held.{Held}
use Rattle.space_index.specs.Claimed.{IsHeldAt, IsOneMore, AreHeld}
use Rattle.space_index.proofs.Claiming.{held_gone, held_reset}
use Rattle.space_index.proofs.held.take_place.Goals as goal

-- of a place with this segment
reset : (actor : ℕ) (p : Placed) (x : Segment) (less more : List (ℕ × Claim)) (old new : List (ℕ × Held)) (o : Option Held) → p.segment ≡ x → IsOneMore actor p less more → AreHeld old more → ((q : ℕ) → q ≢ x.file → row_at q new ≡ row_at q old) → row_at x.file new ≡ o
    → IsHeldAt x.file less o → AreHeld new less
reset actor p x less more old new o same one are others at is =
    subst (λ (y : Segment). ((q : ℕ) → q ≢ y.file → row_at q new ≡ row_at q old) → row_at y.file new ≡ o → IsHeldAt y.file less o → AreHeld new less) same
    (λ a b c. held_reset actor p less more old new o one are a b c) others at is

empty : (l : List (ℕ × ℕ)) (b : Bool) → b ≡ (length l == 0) → b ≡ true → l ≡ []
empty [] b is h = refl
empty (e ∷ l) b is h = absurd (false_true (sym (ne_eqb (length (e ∷ l)) 0 (λ none. omega (arith, none))) ∙ sym is ∙ h)) where
  false_true : (let a : Bool = false in a ≡ true) → ⊥
  false_true k = cc

some : (l : List (ℕ × ℕ)) (b : Bool) → b ≡ (length l == 0) → b ≡ false → l ≢ []
some l b is h none = false_true (sym h ∙ is ∙ ap (λ (k : List (ℕ × ℕ)). length k == 0) none) where
  false_true : (let a : Bool = false in a ≡ true) → ⊥
  false_true e = cc

pub returns-then-is_empty-clause-counts : goal.returns-then-is_empty-clause-counts
returns-then-is_empty-clause-counts c = λ place less more same are one.
    let was = (subst (λ (o : Option Held). IsHeldAt c.args.segment.now.file more o) (sym c.take_out.ensures.was ∙ c.in-Some.is) (are c.args.segment.now.file)).0 in
    reset c.args.actor place c.args.segment.now less more c.args.held.now.entries c.take_out.new.held.entries None same one are c.take_out.ensures.gone.others c.take_out.ensures.gone.here
    (held_gone c.args.segment.now.file less c.take.new.self (c.in_ok-take.ensures place less more same was one) (empty c.take.new.self.actors c.is_empty.result c.is_empty.ensures c.if-is_empty.true))

pub returns-clause-counts : goal.returns-clause-counts
returns-clause-counts c = λ place less more same are one.
    let was = (subst (λ (o : Option Held). IsHeldAt c.args.segment.now.file more o) (sym c.take_out.ensures.was ∙ c.in-Some.is) (are c.args.segment.now.file)).0 in
    reset c.args.actor place c.args.segment.now less more c.args.held.now.entries c.keep.new.held.entries (Some c.take.new.self) same one are (λ q apart. c.in_ok-keep.ensures.others q apart ∙ c.take_out.ensures.gone.others q apart) c.in_ok-keep.ensures.here
    (c.in_ok-take.ensures place less more same was one, some c.take.new.self.actors c.is_empty.result c.is_empty.ensures c.if-is_empty.false)
