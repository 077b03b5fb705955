-- A batch is written, sealed, and then committed.
use Rattle.std.proofs.Common.{◌≡◌, inl, inr, ℕ, suc, ◌≤◌, List, [], ◌∷◌, ◌++◌, length, Option, Result, Ok, Err, refl, sym, ap, subst, ◌∙◌, arith}
use Rattle.kinds.specs.declared.refusal.Refusal.{Refusal}
use Rattle.kinds.specs.declared.refusal.Refusal.TheVariants as refused
use Rattle.client_files.specs.declared.outcome.Came.{Came}
use Rattle.client_files.specs.declared.outcome.Came.TheVariants as came
use Rattle.client_plan.specs.declared.lines.SendLine.{SendLine}
use Rattle.client_trees.specs.Files.{Files}
use Rattle.inventory_work.specs.declared.lines.Rules.{Rules}
use Rattle.steps.proofs.Joining.{GoesOn, call_of_none, so_call, then_call}
use Rattle.steps.specs.Calls.{Call, Then}
use Rattle.steps.specs.Events.{Event}
use Rattle.client_batches.specs.declared.batch.Batch.{Batch}
use Rattle.client_batches.specs.declared.listing.SealedLine.{SealedLine}
use Rattle.client_batches.specs.Batches.{Batches, SealsAndStores, Stores, sealed_lines, sealed_row}
use Rattle.client_batches.specs.Commits.{Commits}
use Rattle.client_batches.specs.Listings.{storing}
use Rattle.client_batches.specs.Seals.{Seals}
use Rattle.client_batches.specs.Sends.{Fills, Sent, tickets_in}
use Rattle.client_batches.specs.Tickets.{GivesBack}

-- one that is written has a ticket
row_long : (l : SendLine) (c : Came) (rows : List SealedLine) (all : List Came) → length rows ≤ length (tickets_in all) → length (sealed_row l c ++ rows) ≤ length (tickets_in (c ∷ all))
row_long l (came.Written ticket digest) rows all h = let more : suc (length rows) ≤ suc (length (tickets_in all)) = omega (arith, h) in more
row_long l (came.Failed e) rows all h = h
row_long l (came.Held holder) rows all h = h

pub few_rows : (lines : List SendLine) (all : List Came) → length (sealed_lines lines all) ≤ length (tickets_in all)
few_rows [] all = let none : 0 ≤ length (tickets_in all) = omega arith in none
few_rows (l ∷ lines) [] = let none : 0 ≤ 0 = omega arith in none
few_rows (l ∷ lines) (c ∷ all) = row_long l c (sealed_lines lines all) all (few_rows lines all)

pub most_rows : (lines : List SendLine) (all : List Came) (held : List ℕ) (rows : List SealedLine) → held ≡ tickets_in all → rows ≡ sealed_lines lines all → length held ≤ 32 → length rows ≤ 256
most_rows lines all held rows of is few =
    let same : length rows ≡ length (sealed_lines lines all) = ap length is in
    let long : length held ≡ length (tickets_in all) = ap length of in
    let less = few_rows lines all in
    omega (arith, same, long, less, few)

-- ---- what is committed

pub stores-none : {S : Type 0} (did : S → List Event → S → Type 0) (p : S) (filespace : ℕ) (lines : List SendLine) (all : List Came) (held : List ℕ) → did p [] p → held ≡ []
    → Call did p p (λ events. Stores filespace lines all held events (Ok []))
stores-none did p filespace lines all held stays none = call_of_none did (λ events. Stores filespace lines all held events (Ok [])) p p stays (inl (none, refl, refl))

pub stores-wanting : {S : Type 0} (did : S → List Event → S → Type 0) (p q : S) (filespace : ℕ) (lines : List SendLine) (all : List Came) (held : List ℕ) (why e : Refusal) → why ≡ refused.Memory
    → Call did p q (λ events. GivesBack held why events e) → Call did p q (λ events. Stores filespace lines all held events (Err e))
stores-wanting did p q filespace lines all held why e is a =
    so_call did (λ events. GivesBack held why events e) (λ events. Stores filespace lines all held events (Err e)) p q a
    (λ xs f. inr (inl (e, subst (λ (w : Refusal). GivesBack held w xs e) is f, refl)))

pub stores-committed : {S : Type 0} (did : S → List Event → S → Type 0) (p q : S) (filespace : ℕ) (lines : List SendLine) (all : List Came) (held : List ℕ) (rows : List SealedLine)
    (result : Result (List (Option Refusal)) Refusal) → rows ≡ sealed_lines lines all → Call did p q (λ events. Commits (storing filespace) rows held events result)
    → Call did p q (λ events. Stores filespace lines all held events result)
stores-committed did p q filespace lines all held rows result is a =
    so_call did (λ events. Commits (storing filespace) rows held events result) (λ events. Stores filespace lines all held events result) p q a
    (λ xs f. inr (inr (subst (λ (ls : List SealedLine). Commits (storing filespace) ls held xs result) is f)))

-- ---- what is sealed and committed

pub stored-unsealed : {S : Type 0} (did : S → List Event → S → Type 0) (p q : S) (filespace : ℕ) (lines : List SendLine) (all sealed : List Came) (e : Refusal)
    → Call did p q (λ events. Seals all sealed events (Err e)) → Call did p q (λ events. SealsAndStores filespace lines all sealed events (Err e))
stored-unsealed did p q filespace lines all sealed e a =
    so_call did (λ events. Seals all sealed events (Err e)) (λ events. SealsAndStores filespace lines all sealed events (Err e)) p q a (λ xs f. inl (e, f, refl))

pub stored-sealed : {S : Type 0} (did : S → List Event → S → Type 0) → GoesOn did → (p q r : S) (filespace : ℕ) (lines : List SendLine) (all sealed seen : List Came) (held kept : List ℕ) (result : Result (List (Option Refusal)) Refusal)
    → seen ≡ sealed → kept ≡ held → held ≡ tickets_in sealed → Call did p q (λ events. Seals all sealed events (Ok tt)) → Call did q r (λ events. Stores filespace lines seen kept events result)
    → Call did p r (λ events. SealsAndStores filespace lines all sealed events result)
stored-sealed did goes p q r filespace lines all sealed seen held kept result alike same of a b =
    so_call did (λ events. Then (λ xs. Seals all sealed xs (Ok tt)) (λ ys. Stores filespace lines seen kept ys result) events) (λ events. SealsAndStores filespace lines all sealed events result) p r
    (then_call did goes (λ events. Seals all sealed events (Ok tt)) (λ events. Stores filespace lines seen kept events result) p q r a b)
    (λ xs f. inr (subst (λ (cs : List Came). Then (λ xs. Seals all sealed xs (Ok tt)) (λ ys. Stores filespace lines cs (tickets_in sealed) ys result) xs) alike
    (subst (λ (ts : List ℕ). Then (λ xs. Seals all sealed xs (Ok tt)) (λ ys. Stores filespace lines seen ts ys result) xs) (same ∙ of) f)))

-- ---- a batch

pub batch-ended : {S : Type 0} (did : S → List Event → S → Type 0) (p q : S) (rules : Rules) (told : Option Files) (filespace : ℕ) (lines : List SendLine) (all : List Came) (before after : ℕ) (e : Refusal)
    → Call did p q (λ events. Fills rules told lines before after all events (Err e)) → Call did p q (λ events. Batches rules told filespace lines before after events (Err e))
batch-ended did p q rules told filespace lines all before after e a =
    so_call did (λ events. Fills rules told lines before after all events (Err e)) (λ events. Batches rules told filespace lines before after events (Err e)) p q a (λ xs f. inl (all, f))

pub batch-made : {S : Type 0} (did : S → List Event → S → Type 0) → GoesOn did → (p q r : S) (rules : Rules) (told : Option Files) (filespace : ℕ) (lines : List SendLine) (all seen sealed : List Came) (b : Batch)
    (before after : ℕ) → seen ≡ all → b.came ≡ all → b.sealed ≡ sealed → Call did p q (λ events. Fills rules told lines before after all events (Ok tt))
    → Call did q r (λ events. SealsAndStores filespace lines seen sealed events (Ok b.outs)) → Call did p r (λ events. Batches rules told filespace lines before after events (Ok b))
batch-made did goes p q r rules told filespace lines all seen sealed b before after alike came_is sealed_is a c =
    subst (λ (cs : List Came). Call did p r (λ events. Then (λ xs. Sent rules told lines before after cs xs) (λ ys. SealsAndStores filespace lines cs b.sealed ys (Ok b.outs)) events)) (sym came_is)
    (subst (λ (ss : List Came). Call did p r (λ events. Then (λ xs. Sent rules told lines before after all xs) (λ ys. SealsAndStores filespace lines all ss ys (Ok b.outs)) events)) (sym sealed_is)
    (then_call did goes (λ events. Sent rules told lines before after all events) (λ events. SealsAndStores filespace lines all sealed events (Ok b.outs)) p q r a
    (subst (λ (cs : List Came). Call did q r (λ events. SealsAndStores filespace lines cs sealed events (Ok b.outs))) alike c)))

pub batch-unstored : {S : Type 0} (did : S → List Event → S → Type 0) → GoesOn did → (p q r : S) (rules : Rules) (told : Option Files) (filespace : ℕ) (lines : List SendLine) (all seen sealed : List Came)
    (e : Refusal) (before after : ℕ) → seen ≡ all → Call did p q (λ events. Fills rules told lines before after all events (Ok tt))
    → Call did q r (λ events. SealsAndStores filespace lines seen sealed events (Err e)) → Call did p r (λ events. Batches rules told filespace lines before after events (Err e))
batch-unstored did goes p q r rules told filespace lines all seen sealed e before after alike a c =
    so_call did (λ events. Then (λ xs. Sent rules told lines before after all xs) (λ ys. SealsAndStores filespace lines all sealed ys (Err e)) events)
    (λ events. Batches rules told filespace lines before after events (Err e)) p r
    (then_call did goes (λ events. Sent rules told lines before after all events) (λ events. SealsAndStores filespace lines all sealed events (Err e)) p q r a
    (subst (λ (cs : List Came). Call did q r (λ events. SealsAndStores filespace lines cs sealed events (Err e))) alike c)) (λ xs f. inr (all, sealed, f))
