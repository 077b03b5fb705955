-- The way back through the steps that were made.
use Rattle.std.proofs.Common.{◌≡◌, List, [], ◌∷◌, Option, Some, None, Result, Ok, Err, refl, sym, ap, subst, ◌∙◌}
use Rattle.std.specs.Option.{MatchOption}
use Rattle.kinds.specs.declared.refusal.Refusal.{Refusal}
use Rattle.inventory_rows.specs.State.{Inv}
use Rattle.inventory_effects.specs.Undoing.{undone, CanUndo, all_undone, CanUndoAll, KeepsWay, Goes}
use Rattle.inventory_effects.specs.declared.undo.Undo.{Undo}
use Rattle.inventory_effects.proofs.Loops.{Underway, behind}

pub same_Ok : {A : Type 0} (x y : A) → (let a : Result A Refusal = Ok x in let b : Result A Refusal = Ok y in a ≡ b) → x ≡ y
same_Ok x y h = cc

-- nothing happened
pub keeps_same : (log : List Undo) (v : Inv) → KeepsWay log v log v
keeps_same log v = record { can = λ known. known; leads = refl }

-- nothing is left of a step that failed
pub keeps_back : (log less : List Undo) (v w : Inv) → less ≡ log → w ≡ v → KeepsWay log v less w
keeps_back log less v w l h = record {
  can = λ known. subst (λ (x : List Undo). CanUndoAll x w) (sym l) (subst (CanUndoAll log) (sym h) known);
  leads = ap (λ (x : List Undo). all_undone x w) l ∙ ap (all_undone log) h;
}

-- what was put into the log last and is taken out again leaves it as it was
pub popped : (r : Option Undo) (u : Undo) (log more less : List Undo) → (let a : Result (List Undo) Refusal = Ok (u ∷ log) in a ≡ Ok more) → MatchOption r ((more ≡ []) × (less ≡ [])) (λ step. more ≡ step ∷ less) → less ≡ log
popped None u log more less h p = let is : u ∷ log ≡ more = same_Ok (u ∷ log) more h in let none : u ∷ log ≡ [] = is ∙ p.0 in absurd (cc)
popped (Some step) u log more less h p = let is : u ∷ log ≡ step ∷ less = same_Ok (u ∷ log) more h ∙ p in cc

-- one step, of which the log says how it is undone
pub keeps_step : (u : Undo) (log more : List Undo) (v w : Inv) → (let a : Result (List Undo) Refusal = Ok (u ∷ log) in a ≡ Ok more) → CanUndo u w → undone u w ≡ v → KeepsWay log v more w
keeps_step u log more v w h can back =
    let is : u ∷ log ≡ more = same_Ok (u ∷ log) more h in
    record {
      can = λ known. subst (λ (l : List Undo). CanUndoAll l w) is (can, subst (CanUndoAll log) (sym back) known);
      leads = ap (λ (l : List Undo). all_undone l w) (sym is) ∙ ap (all_undone log) back;
    }

-- steps after steps
pub keeps_then : {a b c : List Undo} {u v w : Inv} → KeepsWay a u b v → KeepsWay b v c w → KeepsWay a u c w
keeps_then s t = record { can = λ known. t.can (s.can known); leads = t.leads ∙ s.leads }

-- what goes after steps that were made goes from before them
pub goes_then : {A : Type 0} (result : Result A Refusal) (a b c : List Undo) (u v w said whole : Inv) → KeepsWay a u b v → said ≡ whole → Goes result b v c w said → Goes result a u c w whole
goes_then (Ok x) a b c u v w said whole s same g = (g.0 ∙ same, keeps_then s g.1)
goes_then (Err e) a b c u v w said whole s same g = (g.0, keeps_then s g.1)

module _ {X : Type 0} (Can : X → Inv → Type 0) (step : X → Inv → Inv) (all : List X → Inv → Inv) where
  -- A loop that makes a step for each item: what is left leads to the whole, and what was made can be undone.
  pub record Along (start : List Undo) (from : Inv) (left : List X) (log : List Undo) (now whole : Inv) : Type 0 where
    pub under : Underway Can step all left now whole
    pub way : KeepsWay start from log now

  pub along_next : ((x : X) (xs : List X) (s : Inv) → all (x ∷ xs) s ≡ all xs (step x s)) → (start : List Undo) (from : Inv) (left rest : List X) (x : X) (log more : List Undo) (now new whole : Inv) → left ≡ x ∷ rest
      → (new ≡ step x now) × KeepsWay log now more new → Along start from left log now whole → Along start from rest more new whole
  along_next unfolds start from left rest x log more now new whole split made a = record {
    under = behind Can step all unfolds left rest x now new whole split made.0 a.under;
    way = keeps_then a.way made.1;
  }
