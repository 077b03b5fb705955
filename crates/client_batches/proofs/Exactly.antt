-- Lists that were handled whole: the transactions have exactly the lines that are committed.
use Rattle.std.proofs.Common.{◌≡◌, ℕ, List, [], ◌∷◌, map, Option, IfOk, Result, Ok, Err, refl, ap, ◌∙◌}
use Rattle.std.specs.List.{flat_map}
use Rattle.kinds.specs.declared.refusal.Refusal.{Refusal}
use Rattle.client_plan.specs.declared.lines.GoneLine.{GoneLine}
use Rattle.client_plan.specs.declared.lines.RebindLine.{RebindLine}
use Rattle.client_plan.specs.declared.lines.SendLine.{SendLine}
use Rattle.client_trees.specs.Files.{Files}
use Rattle.inventory_work.specs.declared.lines.Rules.{Rules}
use Rattle.steps.proofs.Joining.{so_call}
use Rattle.steps.specs.declared.asked.Item.{Item}
use Rattle.steps.specs.Calls.{Call}
use Rattle.steps.specs.Events.{Event}
use Rattle.client_batches.specs.declared.listing.SealedLine.{SealedLine}
use Rattle.client_batches.specs.Handling.{BindsPaths, EndsVersions, SendsFiles, file_in}
use Rattle.client_batches.specs.Items.{IsExact, ended_by, kept, rebound_by, stored_by}
use Rattle.client_batches.specs.Listings.{ending, named, rebinding, rebound, stored}
use Rattle.client_batches.specs.Rounds.{InRuns, SendsAll}
use Rattle.client_batches.proofs.Exact.{kept_nothing, nothing}
use Rattle.client_batches.proofs.Handled.{runs_whole, sends_whole}

flat_nothing : {L X : Type 0} (lines : List L) → [] ≡ flat_map (nothing {L = L} {X = X}) lines
flat_nothing [] = refl
flat_nothing (l ∷ lines) = flat_nothing lines

flat_single : {A B C : Type 0} (f : B → C) (g : A → B) (xs : List A) → map f (map g xs) ≡ flat_map (λ x. f (g x) ∷ []) xs
flat_single f g [] = refl
flat_single {A} {B} {C} f g (x ∷ xs) = ap (λ (ys : List C). f (g x) ∷ ys) (flat_single f g xs)

flat_one : {A B : Type 0} (g : A → B) (xs : List A) → map g xs ≡ flat_map (λ x. g x ∷ []) xs
flat_one g [] = refl
flat_one {A} {B} g (x ∷ xs) = ap (λ (ys : List B). g x ∷ ys) (flat_one g xs)

-- ---- files

sent_exact : (rules : Rules) (told : Option Files) (filespace : ℕ) (lines : List SendLine) (before after : ℕ) (events : List Event) (result : Result (List (Option Refusal)) Refusal)
    → SendsAll rules told filespace lines before after events result → IfOk result (λ outs. IsExact lines outs (kept (λ l. file_in l ∷ []) lines outs) [] [] events)
sent_exact rules told filespace lines before after events (Ok outs) h =
    let files = sends_whole stored_by (λ (r : SealedLine). (r.path, r.class, r.mtime) ∷ []) (λ (l : SendLine). file_in l ∷ []) (λ l d. refl) (λ space rows. flat_single (λ (i : Item). (i.path, i.class, i.mtime)) stored rows)
    rules told filespace lines outs before after events h in
    let paths = sends_whole rebound_by nothing nothing (λ l d. refl) (λ space rows. flat_nothing rows) rules told filespace lines outs before after events h in
    let versions = sends_whole ended_by nothing nothing (λ l d. refl) (λ space rows. flat_nothing rows) rules told filespace lines outs before after events h in
    record {
      each = files.long;
      stored = files.has;
      rebound = paths.has ∙ kept_nothing lines outs;
      ended = versions.has ∙ kept_nothing lines outs;
    }
sent_exact rules told filespace lines before after events (Err e) h = tt

pub files-sent : {S : Type 0} (did : S → List Event → S → Type 0) (p q : S) (rules : Rules) (told : Option Files) (filespace : ℕ) (lines : List SendLine) (before after : ℕ) (result : Result (List (Option Refusal)) Refusal)
    → Call did p q (λ events. SendsAll rules told filespace lines before after events result) → Call did p q (λ events. SendsFiles rules told filespace lines before after events result)
files-sent did p q rules told filespace lines before after result a =
    so_call did (λ events. SendsAll rules told filespace lines before after events result) (λ events. SendsFiles rules told filespace lines before after events result) p q a
    (λ xs f. record { order = f; exact = sent_exact rules told filespace lines before after xs result f })

-- ---- paths

bound_exact : (filespace : ℕ) (lines : List RebindLine) (events : List Event) (result : Result (List (Option Refusal)) Refusal) → InRuns (rebinding filespace) lines events result
    → IfOk result (λ outs. IsExact lines outs [] (kept (λ l. rebound l ∷ []) lines outs) [] events)
bound_exact filespace lines events (Ok outs) h =
    let files = runs_whole stored_by (rebinding filespace) nothing (λ ls. flat_nothing ls) lines outs events h in
    let paths = runs_whole rebound_by (rebinding filespace) (λ (l : RebindLine). rebound l ∷ []) (λ ls. flat_one rebound ls) lines outs events h in
    let versions = runs_whole ended_by (rebinding filespace) nothing (λ ls. flat_nothing ls) lines outs events h in
    record {
      each = paths.long;
      stored = files.has ∙ kept_nothing lines outs;
      rebound = paths.has;
      ended = versions.has ∙ kept_nothing lines outs;
    }
bound_exact filespace lines events (Err e) h = tt

pub paths-bound : {S : Type 0} (did : S → List Event → S → Type 0) (p q : S) (filespace : ℕ) (lines : List RebindLine) (result : Result (List (Option Refusal)) Refusal)
    → Call did p q (λ events. InRuns (rebinding filespace) lines events result) → Call did p q (λ events. BindsPaths filespace lines events result)
paths-bound did p q filespace lines result a =
    so_call did (λ events. InRuns (rebinding filespace) lines events result) (λ events. BindsPaths filespace lines events result) p q a
    (λ xs f. record { order = f; exact = bound_exact filespace lines xs result f })

-- ---- versions

ended_exact : (filespace : ℕ) (lines : List GoneLine) (events : List Event) (result : Result (List (Option Refusal)) Refusal) → InRuns (ending filespace) lines events result
    → IfOk result (λ outs. IsExact lines outs [] [] (kept (λ l. named l ∷ []) lines outs) events)
ended_exact filespace lines events (Ok outs) h =
    let files = runs_whole stored_by (ending filespace) nothing (λ ls. flat_nothing ls) lines outs events h in
    let paths = runs_whole rebound_by (ending filespace) nothing (λ ls. flat_nothing ls) lines outs events h in
    let versions = runs_whole ended_by (ending filespace) (λ (l : GoneLine). named l ∷ []) (λ ls. flat_one named ls) lines outs events h in
    record {
      each = versions.long;
      stored = files.has ∙ kept_nothing lines outs;
      rebound = paths.has ∙ kept_nothing lines outs;
      ended = versions.has;
    }
ended_exact filespace lines events (Err e) h = tt

pub versions-ended : {S : Type 0} (did : S → List Event → S → Type 0) (p q : S) (filespace : ℕ) (lines : List GoneLine) (result : Result (List (Option Refusal)) Refusal)
    → Call did p q (λ events. InRuns (ending filespace) lines events result) → Call did p q (λ events. EndsVersions filespace lines events result)
versions-ended did p q filespace lines result a =
    so_call did (λ events. InRuns (ending filespace) lines events result) (λ events. EndsVersions filespace lines events result) p q a
    (λ xs f. record { order = f; exact = ended_exact filespace lines xs result f })
