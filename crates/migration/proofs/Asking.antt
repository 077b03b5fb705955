-- The questions of a migration.
use Rattle.std.proofs.Common.{◌≡◌, ◌⊎◌, inl, inr, ℕ, ◌<◌, zero, suc, Bool, true, false, List, [], ◌∷◌, ◌++◌, length, Option, Some, None, Result, Ok, Err, IfOk, IfErr, refl, sym, ap, ap₂, subst, ◌∙◌, arith, get_or}
use Rattle.std.specs.List.{flat_map, slice_get}
use Rattle.kinds.specs.Answers.{AnswersBy}
use Rattle.kinds.specs.declared.refusal.Refusal.{Refusal}
use Rattle.kinds.specs.declared.refusal.Refusal.TheVariants as refused
use Rattle.choosers.specs.declared.candidate.Candidate.{Candidate}
use Rattle.inventory_answers.specs.declared.lines.PoolLine.{PoolLine}
use Rattle.inventory_answers.specs.declared.query.Query.TheVariants as query
use Rattle.inventory_answers.specs.declared.reply.Answer.{Answer}
use Rattle.inventory_answers.specs.declared.reply.Rows.TheVariants as rows
use Rattle.inventory_work.specs.declared.lines.CopyLine.{CopyLine}
use Rattle.inventory_work.specs.Lists.{only}
use Rattle.inventory_rows.specs.version_groups.Entries.{is_nil}
use Rattle.steps.proofs.Joining.{GoesOn, does_alone}
use Rattle.steps.specs.Calls.{Call, Does}
use Rattle.steps.specs.Events.{Event}
use Rattle.steps.specs.Events.Deed.{Ask}
use Rattle.copy_runs.specs.Ends.{AreAsking, AsksPools}
use Rattle.migration.specs.declared.left.Left.{Left}
use Rattle.migration.specs.Marks.{Looks, target}
use Rattle.migration.specs.Turns.{AsksPool, Fills, FillsFrom, Listed, Rest, candidate, candidates_of, is_fresh, listed, placings_of, rest_of}

-- ---- the pools

looked-so : (pool low : ℕ) (lines those : List PoolLine) (is : Result (Option ℕ) Refusal) (events : List Event) → those ≡ lines → is ≡ target pool low those → AsksPools events (Ok lines) → Looks pool low events is
looked-so pool low lines those (Ok to) events same h a = (lines, a, ap (target pool low) (sym same) ∙ sym h)
looked-so pool low lines those (Err e) events same h a = inr (lines, a, ap (target pool low) (sym same) ∙ sym h)

pub looked : {S : Type 0} (did : S → List Event → S → Type 0) (p q : S) (pool low : ℕ) (lines those : List PoolLine) (is : Result (Option ℕ) Refusal) → those ≡ lines → is ≡ target pool low those
    → Call did p q (λ events. AsksPools events (Ok lines)) → Call did p q (λ events. Looks pool low events is)
looked did p q pool low lines those is same h a = (a.0, a.1, looked-so pool low lines those is a.0 same h a.2)

pub unlooked : {S : Type 0} (did : S → List Event → S → Type 0) (p q : S) (pool low : ℕ) (e : Refusal) → Call did p q (λ events. AsksPools events (Err e)) → Call did p q (λ events. Looks pool low events (Err e))
unlooked did p q pool low e a = (a.0, a.1, inl a.2)

-- ---- the copies

pub pool-asked : {S : Type 0} (did : S → List Event → S → Type 0) (p q : S) (pool : ℕ) (answer : Answer) → Does did p q (Ask (query.OnPool pool) (Ok answer)) → Call did p q (λ events. AsksPool pool events (Ok answer))
pool-asked did p q pool answer d = does_alone did (λ events. AsksPool pool events (Ok answer)) p q (Ask (query.OnPool pool) (Ok answer)) d (λ n listed. (n, refl)) (λ m. absurd cc)

asking-one : (pool : ℕ) (answer : Answer) (events : List Event) → Listed pool events answer → AreAsking events
asking-one pool answer events h = subst AreAsking (sym h.1) ((query.OnPool pool, Ok answer, refl), tt)

fills-by : (pool number : ℕ) (seen : Option ℕ) (answer : Answer) (lines those : List CopyLine) (result : Result Left Refusal) (events : List Event) → number ≡ answer.n → answer.rows ≡ rows.OnPool lines → those ≡ lines
    → AnswersBy rest_of result (listed number seen those) → Listed pool events answer → FillsFrom pool seen events result
fills-by pool number seen answer lines those (Ok l) events same is alike said a = (answer, lines, a, is, said ∙ ap₂ (λ (n : ℕ) (ls : List CopyLine). listed n seen ls) same alike)
fills-by pool number seen answer lines those (Err e) events same is alike said a = (inl (inl said), asking-one pool answer events a)

pub fills : {S : Type 0} (did : S → List Event → S → Type 0) (p q : S) (pool number : ℕ) (seen : Option ℕ) (answer : Answer) (lines those : List CopyLine) (result : Result Left Refusal)
    → number ≡ answer.n → answer.rows ≡ rows.OnPool lines → those ≡ lines → AnswersBy rest_of result (listed number seen those)
    → Call did p q (λ events. AsksPool pool events (Ok answer)) → Call did p q (λ events. FillsFrom pool seen events result)
fills did p q pool number seen answer lines those result same is alike said a = (a.0, a.1, fills-by pool number seen answer lines those result a.0 same is alike said a.2)

pub no-copies : {S : Type 0} (did : S → List Event → S → Type 0) (p q : S) (pool : ℕ) (seen : Option ℕ) (answer : Answer) (e : Refusal) → e ≡ refused.Memory
    → Call did p q (λ events. AsksPool pool events (Ok answer)) → Call did p q (λ events. FillsFrom pool seen events (Err e))
no-copies did p q pool seen answer e is a = (a.0, a.1, (inl (inl is), asking-one pool answer a.0 a.2))

pub pool-unasked : {S : Type 0} (did : S → List Event → S → Type 0) (p q : S) (pool : ℕ) (seen : Option ℕ) (e : Refusal) → Call did p q (λ events. AsksPool pool events (Err e))
    → Call did p q (λ events. FillsFrom pool seen events (Err e))
pool-unasked did p q pool seen e a = (a.0, a.1, a.2)

-- ---- what is left

nil-of : (A : Type 0) (xs : List A) → length xs ≡ 0 → is_nil xs ≡ true
nil-of A [] h = refl
nil-of A (x ∷ xs) h = absurd cc

fills-so : (pool : ℕ) (r : Rest) (empty : Bool) (l : Left) (events : List Event) → empty ≡ true → FillsFrom pool r.seen events (Ok l) → Fills empty pool r events (rest_of l) (Ok tt)
fills-so pool r true l events is h = h
fills-so pool r false l events is h = absurd cc

pub filled : {S : Type 0} (did : S → List Event → S → Type 0) (p q : S) (pool : ℕ) (r : Rest) (l : Left) → is_nil r.candidates ≡ true
    → Call did p q (λ events. FillsFrom pool r.seen events (Ok l)) → Call did p q (λ events. Fills (is_nil r.candidates) pool r events (rest_of l) (Ok tt))
filled did p q pool r l is a = (a.0, a.1, fills-so pool r (is_nil r.candidates) l a.0 is a.2)

still-so : (pool : ℕ) (r : Rest) (empty : Bool) → empty ≡ false → Fills empty pool r [] r (Ok tt)
still-so pool r true is = absurd cc
still-so pool r false is = (refl, refl)

pub still-filled : {S : Type 0} (did : S → List Event → S → Type 0) → ((p : S) → did p [] p) → (p : S) (pool : ℕ) (r : Rest) → is_nil r.candidates ≡ false
    → Call did p p (λ events. Fills (is_nil r.candidates) pool r events r (Ok tt))
still-filled did stays p pool r is = ([], stays p, still-so pool r (is_nil r.candidates) is)

-- as many transactions as copies
pub as-many : (seen : Option ℕ) (lines : List CopyLine) → length (flat_map (placings_of seen) lines) ≡ length (flat_map (candidates_of seen) lines)
as-many seen [] = refl
as-many seen (l ∷ lines) = elim (is_fresh seen l) as (λ b. length (only b l.placed ++ flat_map (placings_of seen) lines) ≡ length (only b (candidate l) ++ flat_map (candidates_of seen) lines)) [
  | true ↦ ap (λ n. suc n) (as-many seen lines)
  | false ↦ as-many seen lines
]

pub got : {A : Type 0} (xs : List A) (place : ℕ) (x : A) → place < length xs → x ≡ get_or xs place x → slice_get xs place ≡ Some x
got [] place x l h = absurd (omega (arith, l))
got (y ∷ ys) zero x l h = ap Some (sym h)
got (y ∷ ys) (suc place) x l h = got ys place x (omega (arith, l)) h
