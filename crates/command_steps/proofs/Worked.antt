-- A command's work, part by part.
use Rattle.std.proofs.Common.{◌≡◌, ◌⊎◌, inl, inr, ℕ, List, [], ◌++◌, Option, Some, Result, Ok, Err, refl, sym, ap, subst, ◌∙◌}
use Rattle.kinds.specs.Answers.{Answers}
use Rattle.kinds.specs.declared.refusal.Refusal.{Refusal}
use Rattle.kinds.specs.declared.refusal.Refusal.TheVariants.{Memory, TreeFault}
use Rattle.choosers.specs.declared.rule.Rule.{Rule}
use Rattle.client_files.specs.Reading.{file_of}
use Rattle.client_trees.proofs.Calls.{at-appended, at-created, at-finished}
use Rattle.client_trees.specs.Files.{ClientFile, Files, appended, created, file_at, finished}
use Rattle.client_trees.specs.declared.tree.FileRow.{FileRow}
use Rattle.inventory_answers.specs.declared.query.Query.TheVariants as query
use Rattle.inventory_answers.specs.declared.reply.Answer.{Answer}
use Rattle.inventory_rows.specs.version_groups.Entries.{on_ok}
use Rattle.admin_words.specs.declared.command.Command.{Command}
use Rattle.admin_words.specs.declared.files.FilePut.{FilePut}
use Rattle.admin_words.specs.declared.policy.NamedSet.{NamedSet}
use Rattle.admin_commands.specs.Orders.{needs, work_of}
use Rattle.admin_commands.specs.declared.work.Work.{Work}
use Rattle.entries.specs.declared.change.Change.{Change}
use Rattle.reports.specs.declared.shown.Shown.{Shown}
use Rattle.reuse_delay.specs.Reusing.{VolumeReuse}
use Rattle.sessions.specs.Changing.{Changing}
use Rattle.sessions.specs.InTurn.{OrMemory}
use Rattle.sessions.specs.Putting.{Puts}
use Rattle.steps.proofs.Joining.{GoesOn, call_of_none, does_made, so_call, then_call}
use Rattle.steps.specs.Calls.{Call, Does as DoesStep, Made, Then}
use Rattle.steps.specs.Events.{Event}
use Rattle.steps.specs.Events.Deed.{Ask, Force}
use Rattle.command_steps.specs.Behind.{Behind, behind, forces, no_more, reuses, with_reused}
use Rattle.command_steps.specs.Clients.{Client, IsKept}
use Rattle.command_steps.specs.Doing.{AsksAll, Does, DoesAlone, DoesOwn, DoesWork, Doing, EndsWork, Forcing, Gives, PutsText, Reusing, Told, Validates, WorksOrWants, behind_force, validated_by, within_memory}
use Rattle.command_steps.specs.Owns.{Own, file_put, last_of, on_tree, row_put}
use Rattle.command_steps.specs.declared.outcome.Outcome.{Outcome}
use Rattle.command_steps.specs.declared.outcome.Outcome.TheVariants.{Said}

-- an answer that becomes an outcome
pub given : {S A : Type 0} (did : S → List Event → S → Type 0) (p q : S) (Calls : List Event → Result A Refusal → Type 0) (shape : A → Outcome) (answer : Result A Refusal) (result : Result Outcome Refusal)
    → Call did p q (λ events. Calls events answer) → result ≡ on_ok shape answer → Call did p q (λ events. Gives Calls shape events result)
given did p q Calls shape answer result a is = so_call did (λ events. Calls events answer) (λ events. Gives Calls shape events result) p q a (λ xs f. (answer, f, is))

pub gives-ok : {S A : Type 0} (did : S → List Event → S → Type 0) (p q : S) (Calls : List Event → Result A Refusal → Type 0) (shape : A → Outcome) (x : A) → Call did p q (λ events. Calls events (Ok x))
    → Call did p q (λ events. Gives Calls shape events (Ok (shape x)))
gives-ok did p q Calls shape x a = given did p q Calls shape (Ok x) (Ok (shape x)) a refl

pub gives-err : {S A : Type 0} (did : S → List Event → S → Type 0) (p q : S) (Calls : List Event → Result A Refusal → Type 0) (shape : A → Outcome) (e : Refusal) → Call did p q (λ events. Calls events (Err e))
    → Call did p q (λ events. Gives Calls shape events (Err e))
gives-err did p q Calls shape e a = given did p q Calls shape (Err e) (Err e) a refl

pub made : {S : Type 0} (did : S → List Event → S → Type 0) (p q : S) (change : Change) (number : ℕ) (line : Shown) → line ≡ last_of change → Call did p q (λ events. Changing change events (Ok number))
    → Call did p q (λ events. Gives (Changing change) (λ seq. Said (last_of change)) events (Ok (Said line)))
made did p q change number line is a = given did p q (Changing change) (λ seq. Said (last_of change)) (Ok number) (Ok (Said line)) a (ap (λ (l : Shown). Ok (Said l)) is)

pub validates : {S : Type 0} (did : S → List Event → S → Type 0) (p q : S) (set : NamedSet) (answer : Result Answer Refusal) (result : Result Outcome Refusal)
    → Call did p q (λ events. OrMemory (Told (query.Validated set.domain set.set)) events answer) → result ≡ validated_by answer → Call did p q (λ events. Validates set events result)
validates did p q set answer result a is =
    so_call did (λ events. OrMemory (Told (query.Validated set.domain set.set)) events answer) (λ events. Validates set events result) p q a (λ xs f. (answer, f, is))

-- the one file of a tree that was made for it
pub file-of : (put : FilePut) (first second third : Files) → first ≡ created put.path [] → second ≡ appended put.path put.text first → third ≡ finished put.path put.mtime second
    → file_at put.path third ≡ Some (file_put put)
file-of put first second third made more time =
    let empty : ClientFile = record { bytes = []; mtime = 0 } in
    let text : ClientFile = record { bytes = put.text; mtime = 0 } in
    let one : file_at put.path first ≡ Some empty = ap (file_at put.path) made ∙ at-created put.path empty [] in
    let two : file_at put.path second ≡ Some text = ap (file_at put.path) more ∙ at-appended put.path put.text first empty one in
    ap (file_at put.path) time ∙ at-finished put.path put.mtime second text two

-- a fault of the tree isn't answered
within-said : (answer result : Result ℕ Refusal) → result ≡ within_memory answer → ((result ≡ answer) × (result ≡ Err TreeFault → ⊥)) ⊎ ((answer ≡ Err TreeFault) × (result ≡ Err Memory))
within-said (Ok number) result is = inl (is, λ fault. cc)
within-said (Err TreeFault) result is = inr (refl, is)
within-said (Err e) result is = inl (is, λ fault. cc)

-- the text of a PUT that was put as that file
puts-as : (choice : List Rule) (put : FilePut) (row : FileRow) (files : Files) (events : List Event) (answer said : Result ℕ Refusal) → row ≡ row_put put → file_at put.path files ≡ Some (file_put put) → answer ≡ said
    → Puts put.node put.filespace choice (file_of (Some files) row.path) row events answer → Puts put.node put.filespace choice (Some (file_put put)) (row_put put) events said
puts-as choice put row files events answer said is there same h =
    subst (λ (it : Result ℕ Refusal). Puts put.node put.filespace choice (Some (file_put put)) (row_put put) events it) same
    (subst (λ (it : Option ClientFile). Puts put.node put.filespace choice it (row_put put) events answer) there
    (subst (λ (r : FileRow). Puts put.node put.filespace choice (file_of (Some files) r.path) r events answer) is h))

text-put : (choice : List Rule) (put : FilePut) (row : FileRow) (files : Files) (events : List Event) (answer result : Result ℕ Refusal) → row ≡ row_put put → file_at put.path files ≡ Some (file_put put)
    → ((result ≡ answer) × (result ≡ Err TreeFault → ⊥)) ⊎ ((answer ≡ Err TreeFault) × (result ≡ Err Memory))
    → Puts put.node put.filespace choice (file_of (Some files) row.path) row events answer → PutsText choice put events result
text-put choice put row files events answer result is there (inl said) h = inl (puts-as choice put row files events answer result is there (sym said.0) h, said.1)
text-put choice put row files events answer result is there (inr said) h = inr (puts-as choice put row files events answer (Err TreeFault) is there said.0 h, said.1)

pub puts-text : {S : Type 0} (did : S → List Event → S → Type 0) (p q : S) (choice : List Rule) (put : FilePut) (row : FileRow) (files : Files) (answer result : Result ℕ Refusal) → row ≡ row_put put
    → file_at put.path files ≡ Some (file_put put) → result ≡ within_memory answer → Call did p q (λ events. Puts put.node put.filespace choice (file_of (Some files) row.path) row events answer)
    → Call did p q (λ events. PutsText choice put events result)
puts-text did p q choice put row files answer result is there said a =
    so_call did (λ events. Puts put.node put.filespace choice (file_of (Some files) row.path) row events answer) (λ events. PutsText choice put events result) p q a
    (λ xs f. text-put choice put row files xs answer result is there (within-said answer result said) f)

-- ---- what comes behind work

pub reused : {S : Type 0} (did : S → List Event → S → Type 0) (p q : S) (it : Outcome) (number : ℕ) (line : Outcome) → line ≡ with_reused number it → Call did p q (λ events. VolumeReuse events (Ok number))
    → Call did p q (λ events. Reusing (Ok it) events (Ok line))
reused did p q it number line is a = given did p q VolumeReuse (λ n. with_reused n it) (Ok number) (Ok line) a (ap (λ (o : Outcome). Ok o) is)

pub reused-not : {S : Type 0} (did : S → List Event → S → Type 0) (p q : S) (it : Outcome) (e : Refusal) → Call did p q (λ events. VolumeReuse events (Err e)) → Call did p q (λ events. Reusing (Ok it) events (Err e))
reused-not did p q it e a = gives-err did p q VolumeReuse (λ n. with_reused n it) e a

pub reuses-none : {S : Type 0} (did : S → List Event → S → Type 0) (p : S) (e : Refusal) → did p [] p → Call did p p (λ events. Reusing (Err e) events (Err e))
reuses-none did p e stays = call_of_none did (λ events. Reusing (Err e) events (Err e)) p p stays (refl, refl)

pub forced : {S : Type 0} (did : S → List Event → S → Type 0) (p q : S) (said result : Result Outcome Refusal) (answer : Result ℕ Refusal) → DoesStep did p q (Force answer) → result ≡ behind_force said answer
    → Call did p q (λ events. Forcing said events result)
forced did p q said result answer d is =
    so_call did (λ events. Made (Force answer) events) (λ events. Forcing said events result) p q (does_made did p q (Force answer) d) (λ xs f. (answer, f, is))

pub ends-none : {S : Type 0} (did : S → List Event → S → Type 0) (p : S) (said : Result Outcome Refusal) → did p [] p → Call did p p (λ events. EndsWork no_more said events said)
ends-none did p said stays = call_of_none did (λ events. EndsWork no_more said events said) p p stays (refl, refl)

pub ends-forced : {S : Type 0} (did : S → List Event → S → Type 0) (p q : S) (said result : Result Outcome Refusal) → Call did p q (λ events. Forcing said events result)
    → Call did p q (λ events. EndsWork forces said events result)
ends-forced did p q said result a = so_call did (λ events. Forcing said events result) (λ events. EndsWork forces said events result) p q a (λ xs f. f)

pub ends-reused : {S : Type 0} (did : S → List Event → S → Type 0) → GoesOn did → (p q r : S) (said came result : Result Outcome Refusal) → Call did p q (λ events. Reusing said events came)
    → Call did q r (λ events. Forcing came events result) → Call did p r (λ events. EndsWork reuses said events result)
ends-reused did goes p q r said came result a b =
    so_call did (λ events. Then (λ xs. Reusing said xs came) (λ ys. Forcing came ys result) events) (λ events. EndsWork reuses said events result) p r
    (then_call did goes (λ events. Reusing said events came) (λ events. Forcing came events result) p q r a b) (λ xs f. (came, f))

-- ---- work that is done, or refused before it begins

-- what holds of any steps holds of these too
pub also : {S : Type 0} (did : S → List Event → S → Type 0) (p q : S) (K : Type 0) (Q : List Event → Type 0) → K → Call did p q Q → Call did p q (λ events. K × Q events)
also did p q K Q k a = so_call did Q (λ events. K × Q events) p q a (λ xs f. (k, f))

pub done-with : {S : Type 0} (did : S → List Event → S → Type 0) → GoesOn did → (p q r : S) (k : Client) (c : Command) (work : Work) (kind : Behind) (said result : Result Outcome Refusal) → kind ≡ behind c
    → Call did p q (λ events. Does k c work events said) → Call did q r (λ events. EndsWork kind said events result) → Call did p r (λ events. DoesWork k c (Ok work) events result)
done-with did goes p q r k c work kind said result is a b =
    so_call did (λ events. Then (λ xs. Does k c work xs said) (λ ys. EndsWork (behind c) said ys result) events) (λ events. DoesWork k c (Ok work) events result) p r
    (then_call did goes (λ events. Does k c work events said) (λ events. EndsWork (behind c) said events result) p q r a
    (subst (λ (it : Behind). Call did q r (λ events. EndsWork it said events result)) is b)) (λ xs f. (said, f))

pub owned : {S : Type 0} (did : S → List Event → S → Type 0) (p q : S) (k : Client) (own said : Own) (numbers : List ℕ) (result : Result Outcome Refusal) → own ≡ said
    → Call did p q (λ events. DoesOwn k own numbers events result) → Call did p q (λ events. DoesOwn k said numbers events result)
owned did p q k own said numbers result is a = subst (λ (it : Own). Call did p q (λ events. DoesOwn k it numbers events result)) is a

-- work that has nothing to do with trees
alone : (k : Client) (own : Own) (numbers : List ℕ) (result : Result Outcome Refusal) (events : List Event) → IsKept k → DoesAlone k.choice own numbers events result → DoesOwn k own numbers events result
alone k (on_tree work) numbers result events kept h = absurd h
alone k own numbers result events kept h = (kept, h)

pub owned-alone : {S : Type 0} (did : S → List Event → S → Type 0) (p q : S) (k : Client) (own said : Own) (numbers : List ℕ) (result : Result Outcome Refusal) → own ≡ said → IsKept k
    → Call did p q (λ events. DoesAlone k.choice own numbers events result) → Call did p q (λ events. DoesOwn k said numbers events result)
owned-alone did p q k own said numbers result is kept a =
    owned did p q k own said numbers result is
    (so_call did (λ events. DoesAlone k.choice own numbers events result) (λ events. DoesOwn k own numbers events result) p q a (λ xs f. alone k own numbers result xs kept f))

pub worked : {S : Type 0} (did : S → List Event → S → Type 0) (p q : S) (k : Client) (c : Command) (work : Work) (said : Result Work Refusal) (result : Result Outcome Refusal) → said ≡ Ok work
    → Call did p q (λ events. DoesWork k c (Ok work) events result) → Call did p q (λ events. WorksOrWants k c said events result)
worked did p q k c work said result is a =
    subst (λ (it : Result Work Refusal). Call did p q (λ events. WorksOrWants k c it events result)) (sym is)
    (so_call did (λ events. DoesWork k c (Ok work) events result) (λ events. WorksOrWants k c (Ok work) events result) p q a (λ xs f. inl f))

pub declined : {S : Type 0} (did : S → List Event → S → Type 0) (p : S) (k : Client) (c : Command) (said : Result Work Refusal) (e : Refusal) → did p [] p → IsKept k → (e ≡ Memory) ⊎ (said ≡ Err e)
    → Call did p p (λ events. WorksOrWants k c said events (Err e))
declined did p k c said e stays kept (inl memory) = call_of_none did (λ events. WorksOrWants k c said events (Err e)) p p stays (inr (kept, refl, ap Err memory))
declined did p k c said e stays kept (inr is) =
    subst (λ (it : Result Work Refusal). Call did p p (λ events. WorksOrWants k c it events (Err e))) (sym is)
    (call_of_none did (λ events. WorksOrWants k c (Err e) events (Err e)) p p stays (inl (kept, refl, refl)))

-- ---- a command

pub doing-refused : {S : Type 0} (did : S → List Event → S → Type 0) (p q : S) (k : Client) (c : Command) (e : Refusal) → IsKept k → Call did p q (λ events. OrMemory (AsksAll (needs c)) events (Err e))
    → Call did p q (λ events. Doing k c events (Err e))
doing-refused did p q k c e kept a =
    so_call did (λ events. OrMemory (AsksAll (needs c)) events (Err e)) (λ events. Doing k c events (Err e)) p q a (λ xs f. inl (e, kept, f, refl))

pub doing-asked : {S : Type 0} (did : S → List Event → S → Type 0) → GoesOn did → (p q r : S) (k : Client) (c : Command) (answers : List Answer) (result : Result Outcome Refusal)
    → Call did p q (λ events. OrMemory (AsksAll (needs c)) events (Ok answers)) → Call did q r (λ events. WorksOrWants k c (work_of c answers) events result) → Call did p r (λ events. Doing k c events result)
doing-asked did goes p q r k c answers result a b =
    so_call did (λ events. Then (λ xs. OrMemory (AsksAll (needs c)) xs (Ok answers)) (λ ys. WorksOrWants k c (work_of c answers) ys result) events) (λ events. Doing k c events result) p r
    (then_call did goes (λ events. OrMemory (AsksAll (needs c)) events (Ok answers)) (λ events. WorksOrWants k c (work_of c answers) events result) p q r a b) (λ xs f. inr (answers, f))
