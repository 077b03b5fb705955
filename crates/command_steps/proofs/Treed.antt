-- Work on a client's tree, part by part.
use Rattle.std.proofs.Common.{◌≡◌, ◌⊎◌, inl, inr, ℕ, zero, suc, ◌+◌, ◌<◌, ◌≤◌, List, [], ◌∷◌, ◌++◌, length, map, take, drop, get_or, set, Option, Result, Ok, Err, refl, sym, ap, subst, ◌∙◌, arith}
use Rattle.std.proofs.lemmas.List.{length-map, length-take-le, map-append}
use Rattle.kinds.specs.declared.refusal.Refusal.{Refusal}
use Rattle.kinds.specs.declared.refusal.Refusal.TheVariants.{Memory, NotFound}
use Rattle.choosers.specs.declared.rule.Rule.{Rule}
use Rattle.client_trees.specs.Files.{Files}
use Rattle.admin_words.specs.declared.files.FilesRestore.{FilesRestore}
use Rattle.admin_words.specs.declared.files.IncrementalBackup.{IncrementalBackup}
use Rattle.incrementals.specs.Process.{Incremental}
use Rattle.incrementals.specs.declared.answering.Sent.{Sent}
use Rattle.restores.specs.Restores.{Restores}
use Rattle.restores.specs.declared.choosing.Which.{Which}
use Rattle.restores.specs.declared.process.Restored.{Restored}
use Rattle.steps.proofs.Joining.{call_of_none, so_call}
use Rattle.steps.specs.Calls.{Call}
use Rattle.steps.specs.Events.{Event}
use Rattle.command_steps.specs.Clients.{Client, IsKept, IsNone, Known, Turns, client, seen}
use Rattle.command_steps.specs.Owns.{OnTree, tree_of}
use Rattle.command_steps.specs.Trees.{BacksUp, DoesOn, DoesThere, GivesBack, GivesWanted, ShowsSent, given_by, which_of}
use Rattle.command_steps.specs.declared.outcome.Outcome.{Outcome}

-- ---- one of the trees

set-parts : {A : Type 0} (xs : List A) (i : ℕ) (y : A) → i < length xs → set xs i y ≡ take i xs ++ (y ∷ drop (suc i) xs)
set-parts [] i y within = absurd (omega (arith, within))
set-parts (x ∷ xs) zero y within = refl
set-parts (x ∷ xs) (suc i) y within = ap (λ l. x ∷ l) (set-parts xs i y (omega (arith, within)))

own-parts : {A : Type 0} (xs : List A) (i : ℕ) (d : A) → i < length xs → xs ≡ take i xs ++ (get_or xs i d ∷ drop (suc i) xs)
own-parts [] i d within = absurd (omega (arith, within))
own-parts (x ∷ xs) zero d within = refl
own-parts (x ∷ xs) (suc i) d within = ap (λ l. x ∷ l) (own-parts xs i d (omega (arith, within)))

pub turned : {T : Type 0} (files : T → Option Files) (faults : T → ℕ) (choice : List Rule) (trees : List T) (number : ℕ) (d new : T) → number < length trees
    → Turns number (seen files faults (get_or trees number d)) (seen files faults new) (client files faults choice trees (set trees number new))
turned {T} files faults choice trees number d new within =
    let front : List T = take number trees in
    let back : List T = drop (suc number) trees in
    let look : T → Known = seen files faults in (
      map look front,
      map look back,
      length-map front look ∙ length-take-le number trees (omega (arith, within)),
      ap (map look) (own-parts trees number d within) ∙ map-append look front (get_or trees number d ∷ back),
      ap (map look) (set-parts trees number new within) ∙ map-append look front (new ∷ back),
    )

pub none-of : {T : Type 0} (files : T → Option Files) (faults : T → ℕ) (choice : List Rule) (trees new : List T) (number : ℕ) → length trees ≤ number → IsNone number (client files faults choice trees new)
none-of files faults choice trees new number h = subst (λ (n : ℕ). n ≤ number) (sym (length-map trees (seen files faults))) h

pub does-there : {S : Type 0} (did : S → List Event → S → Type 0) (p q : S) (k : Client) (work : OnTree) (number : ℕ) (before after : Known) (result : Result Outcome Refusal) → number ≡ tree_of work → Turns number before after k
    → Call did p q (λ events. DoesOn k.choice work before after events result) → Call did p q (λ events. DoesThere k work events result)
does-there did p q k work number before after result is turns a =
    so_call did (λ events. DoesOn k.choice work before after events result) (λ events. DoesThere k work events result) p q a
    (λ xs f. inl (before, after, subst (λ (n : ℕ). Turns n before after k) is turns, f))

pub none-there : {S : Type 0} (did : S → List Event → S → Type 0) (p : S) (k : Client) (work : OnTree) (number : ℕ) → did p [] p → number ≡ tree_of work → IsNone number k → IsKept k
    → Call did p p (λ events. DoesThere k work events (Err NotFound))
none-there did p k work number stays is none kept =
    call_of_none did (λ events. DoesThere k work events (Err NotFound)) p p stays (inr (subst (λ (n : ℕ). IsNone n k) is none, kept, refl, refl))

-- ---- what is done on it

pub does-on : {S : Type 0} (did : S → List Event → S → Type 0) (p q : S) (choice : List Rule) (work said : OnTree) (before after : Known) (result : Result Outcome Refusal) → said ≡ work
    → Call did p q (λ events. DoesOn choice work before after events result) → Call did p q (λ events. DoesOn choice said before after events result)
does-on did p q choice work said before after result is a = subst (λ (w : OnTree). Call did p q (λ events. DoesOn choice w before after events result)) (sym is) a

-- without a step
pub done-on : {S : Type 0} (did : S → List Event → S → Type 0) (p : S) (choice : List Rule) (work said : OnTree) (before after : Known) (result : Result Outcome Refusal) → did p [] p → said ≡ work
    → DoesOn choice work before after [] result → Call did p p (λ events. DoesOn choice said before after events result)
done-on did p choice work said before after result stays is h =
    does-on did p p choice work said before after result is (call_of_none did (λ events. DoesOn choice work before after events result) p p stays h)

-- ---- a backup

pub backs-up : {S : Type 0} (did : S → List Event → S → Type 0) (p q : S) (choice : List Rule) (i : IncrementalBackup) (before after : Known) (answer : Result Sent Refusal) (result : Result Outcome Refusal)
    → Call did p q (λ events. Incremental i.node i.filespace choice before.files before.faults after.faults events answer) → after.files ≡ before.files → ShowsSent answer result
    → Call did p q (λ events. BacksUp choice i before after events result)
backs-up did p q choice i before after answer result a kept shows =
    so_call did (λ events. Incremental i.node i.filespace choice before.files before.faults after.faults events answer) (λ events. BacksUp choice i before after events result) p q a (λ xs f. (answer, f, kept, shows))

-- ---- a restore

pub gives-back : {S : Type 0} (did : S → List Event → S → Type 0) (p q : S) (r : FilesRestore) (node filespace : List ℕ) (versions : Which) (before after : Known) (answer : Result Restored Refusal) (result : Result Outcome Refusal)
    → node ≡ r.node → filespace ≡ r.filespace
    → Call did p q (λ events. Restores node filespace versions before.faults after.faults before.files after.files events answer) → result ≡ given_by r.wanted answer
    → Call did p q (λ events. GivesBack r versions before after events result)
gives-back did p q r node filespace versions before after answer result named in_ a is =
    so_call did (λ events. Restores node filespace versions before.faults after.faults before.files after.files events answer) (λ events. GivesBack r versions before after events result) p q a
    (λ xs f. (
      answer,
      subst (λ (n : List ℕ). Restores n r.filespace versions before.faults after.faults before.files after.files xs answer) named
          (subst (λ (s : List ℕ). Restores node s versions before.faults after.faults before.files after.files xs answer) in_ f),
      is,
    ))

pub gives-wanted : {S : Type 0} (did : S → List Event → S → Type 0) (p q : S) (r : FilesRestore) (versions : Which) (before after : Known) (result : Result Outcome Refusal) → which_of r.wanted ≡ Ok versions
    → Call did p q (λ events. GivesBack r versions before after events result) → Call did p q (λ events. GivesWanted r before after events result)
gives-wanted did p q r versions before after result is a =
    so_call did (λ events. GivesBack r versions before after events result) (λ events. GivesWanted r before after events result) p q a (λ xs f. inl (versions, is, f))

pub gives-none : {S : Type 0} (did : S → List Event → S → Type 0) (p : S) (r : FilesRestore) (tree : Known) (e : Refusal) → did p [] p → (e ≡ Memory) ⊎ (which_of r.wanted ≡ Err e)
    → Call did p p (λ events. GivesWanted r tree tree events (Err e))
gives-none did p r tree e stays why = call_of_none did (λ events. GivesWanted r tree tree events (Err e)) p p stays (inr (e, why, refl, refl, refl))
