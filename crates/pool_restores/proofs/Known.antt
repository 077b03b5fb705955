-- What is known of the copies that are wanted.
use Rattle.std.proofs.Common.{◌≡◌, ℕ, ◌==◌, ◌&&◌, ◌||◌, not, Bool, true, false, cond, List, [], ◌∷◌, ◌++◌, refl, sym, ap, ◌∙◌}
use Rattle.std.proofs.lemmas.Cmp.{nat_cmp_total}
use Rattle.std.specs.Cmp.{eq_by_cmp_equiv}
use Rattle.std.specs.List.{list_any}
use Rattle.std.specs.Ordering.{is_eq, nat_cmp, ordering_then}
use Rattle.std.specs.declared.cmp.Ordering.{Ordering}
use Rattle.std.specs.declared.cmp.Ordering.TheVariants.{Less, Equal, Greater}
use Rattle.inventory_rows.proofs.of_object_rows.Stands.{at-eqb}
use Rattle.inventory_work.specs.declared.lines.CopyLine.{CopyLine}
use Rattle.copy_runs.specs.declared.wanted.Wanted.{Wanted}
use Rattle.pool_restores.specs.Listing.{AreWanted, is_known, is_that, is_wanted_of, restoring}

abbrev Key : Type 0
Key = ℕ × ℕ × ℕ

abbrev key_cmp : Key → Key → Ordering
key_cmp a b = ordering_then (ordering_then (nat_cmp a.0 b.0) (nat_cmp a.1 b.1)) (nat_cmp a.2 b.2)

abbrev key_of : CopyLine → Key
key_of line = (line.object, line.pool, line.placed)

-- ---- two copies

both : (x y : Ordering) → is_eq (ordering_then x y) ≡ (is_eq x && is_eq y)
both Less y = refl
both Equal y = refl
both Greater y = refl

and-assoc : (a b c : Bool) → ((a && b) && c) ≡ (a && (b && c))
and-assoc true b c = refl
and-assoc false b c = refl

same-number : (a b : ℕ) → is_eq (nat_cmp a b) ≡ (a == b)
same-number a b = (eq_by_cmp_equiv nat_cmp_total).symm a b ∙ at-eqb b a

-- both are of one copy
same-copy : (line q : CopyLine) → is_eq (key_cmp (key_of line) (key_of q)) ≡ (line.object == q.object && (line.pool == q.pool && line.placed == q.placed))
same-copy line q =
    both (ordering_then (nat_cmp line.object q.object) (nat_cmp line.pool q.pool)) (nat_cmp line.placed q.placed)
    ∙ ap (λ b. b && is_eq (nat_cmp line.placed q.placed)) (both (nat_cmp line.object q.object) (nat_cmp line.pool q.pool))
    ∙ and-assoc (is_eq (nat_cmp line.object q.object)) (is_eq (nat_cmp line.pool q.pool)) (is_eq (nat_cmp line.placed q.placed))
    ∙ ap (λ b. b && (is_eq (nat_cmp line.pool q.pool) && is_eq (nat_cmp line.placed q.placed))) (same-number line.object q.object)
    ∙ ap (λ b. line.object == q.object && (b && is_eq (nat_cmp line.placed q.placed))) (same-number line.pool q.pool)
    ∙ ap (λ b. line.object == q.object && (line.pool == q.pool && b)) (same-number line.placed q.placed)

-- ---- one more

any-append : {A : Type 0} (p : A → Bool) (xs : List A) (y : A) → list_any p (xs ++ y ∷ []) ≡ cond (p y) true (list_any p xs)
any-append p [] y = end (p y) where
  end : (b : Bool) → (b || false) ≡ cond b true false
  end true = refl
  end false = refl
any-append p (x ∷ xs) y = ap (λ b. p x || b) (any-append p xs y) ∙ turned (p x) (p y) (list_any p xs) where
  turned : (a b c : Bool) → (a || cond b true c) ≡ cond b true (a || c)
  turned true true c = refl
  turned true false c = refl
  turned false b c = refl

pub none-known : AreWanted [] []
none-known line = refl

-- the copy was wanted, and nothing is added
pub known-before : (known new : List Key) (wanted items : List Wanted) → new ≡ known → items ≡ wanted → AreWanted known wanted → AreWanted new items
known-before known new wanted items k w h q = ap (λ (ks : List Key). is_known ks q) k ∙ h q ∙ ap (is_wanted_of q) (sym w)

-- the copy wasn't, and is added
pub known-more : (known new : List Key) (wanted items : List Wanted) (line : CopyLine)
    → ((k : Key) → list_any (λ x. is_eq (key_cmp k x)) new ≡ cond (is_eq (key_cmp (key_of line) k)) true (list_any (λ x. is_eq (key_cmp k x)) known)) → items ≡ wanted ++ restoring line ∷ [] → AreWanted known wanted
    → AreWanted new items
known-more known new wanted items line more w h q =
    more (key_of q)
    ∙ ap (λ b. cond b true (is_known known q)) (same-copy line q)
    ∙ ap (cond (line.object == q.object && (line.pool == q.pool && line.placed == q.placed)) true) (h q)
    ∙ sym (any-append (λ (x : Wanted). x.object == q.object && is_that q.pool q.placed x.aim) wanted (restoring line))
    ∙ ap (is_wanted_of q) (sym w)
