-- What a line leaves of the clients' trees, by its steps.
use Rattle.std.proofs.Common.{◌≡◌, inl, inr, ℕ, List, Option, None, Some, Result, Ok, Err, refl, sym, ap, ◌∙◌}
use Rattle.kinds.specs.declared.refusal.Refusal.{Refusal}
use Rattle.kinds.specs.declared.refusal.Refusal.TheVariants.{Memory as NoMemory, NotFound}
use Rattle.client_files.specs.Restoring.{HasFile, Leads}
use Rattle.inventory_rows.specs.version_groups.Entries.{on_ok}
use Rattle.admin_commands.specs.declared.work.Work.{Work}
use Rattle.admin_commands.specs.declared.work.Work.TheVariants.{Commit, Run, Show}
use Rattle.admin_words.specs.declared.command.Command.{Command}
use Rattle.admin_words.specs.declared.command.Command.TheVariants.{File}
use Rattle.admin_words.specs.declared.command.FileCommand.TheVariants.{Erase, Write}
use Rattle.admin_words.specs.declared.files.FileErase.{FileErase}
use Rattle.admin_words.specs.declared.files.FileWrite.{FileWrite}
use Rattle.reports.specs.declared.shown.Shown.TheVariants.{Done}
use Rattle.script_loop.specs.Reply.{Answer}
use Rattle.script_loop.specs.declared.ends.Halt.{Halt}
use Rattle.script_loop.specs.declared.ends.Halt.TheVariants as halt
use Rattle.steps.specs.Events.{Event}
use Rattle.command_steps.specs.Answering.{AnswersLine, DoesOrWants}
use Rattle.command_steps.specs.Answers.{Ends}
use Rattle.command_steps.specs.Clients.{Client, IsKept, Known}
use Rattle.command_steps.specs.Doing.{Does, DoesOwn, Doing, WorksOrWants}
use Rattle.command_steps.specs.Leaving.{ChangesOnly, TreeHas, named_by, tree_named}
use Rattle.command_steps.specs.Lines.{Line, asks, comment, refused}
use Rattle.command_steps.specs.Owns.{Own, erase, on_tree, own_of, write}
use Rattle.command_steps.specs.Trees.{DoesThere}
use Rattle.command_steps.specs.Writing.{Erases, IsWithout, Writes, bytes_of}
use Rattle.command_steps.specs.declared.outcome.Outcome.{Outcome}
use Rattle.command_steps.specs.declared.outcome.Outcome.TheVariants.{Said}

-- ---- no other tree changes

kept-only : (named : Option ℕ) (k : Client) → IsKept k → ChangesOnly named k
kept-only None k kept = kept
kept-only (Some number) k kept = inl kept

own-only : (k : Client) (own : Own) (numbers : List ℕ) (events : List Event) (result : Result Outcome Refusal) → DoesOwn k own numbers events result → ChangesOnly (named_by own) k
own-only k (on_tree work) numbers events result (inl (before, after, turns, does)) = inr (before, after, turns)
own-only k (on_tree work) numbers events result (inr (none, kept, steps, is)) = inl kept
own-only k own numbers events result h = h.0

does-only : (k : Client) (c : Command) (work : Work) (events : List Event) (result : Result Outcome Refusal) → Does k c work events result → ChangesOnly (named_by (own_of c)) k
does-only k c (Commit change) events result h = kept-only (named_by (own_of c)) k h.0
does-only k c (Show query) events result h = kept-only (named_by (own_of c)) k h.0
does-only k c (Run numbers) events result h = own-only k (own_of c) numbers events result h

work-only : (k : Client) (c : Command) (w : Result Work Refusal) (events : List Event) (result : Result Outcome Refusal) → WorksOrWants k c w events result → ChangesOnly (named_by (own_of c)) k
work-only k c (Ok work) events result (inl (said, (xs, ys, cut, does, ends))) = does-only k c work xs said does
work-only k c (Err why) events result (inl h) = kept-only (named_by (own_of c)) k h.0
work-only k c w events result (inr h) = kept-only (named_by (own_of c)) k h.0

doing-only : (k : Client) (c : Command) (events : List Event) (result : Result Outcome Refusal) → Doing k c events result → ChangesOnly (named_by (own_of c)) k
doing-only k c events result (inl (e, kept, looks, is)) = kept-only (named_by (own_of c)) k kept
doing-only k c events result (inr (answers, (xs, ys, cut, looks, works))) = work-only k c _ ys result works

line-only : (k : Client) (n : ℕ) (line : Line) (events : List Event) (result : Result (Answer × Option Refusal) Halt) → DoesOrWants k n line events result → ChangesOnly (tree_named line) k
line-only k n comment events result (inl h) = h.0
line-only k n (refused why) events result (inl h) = h.0
line-only k n (asks c) events result (inl (said, doing, ends)) = doing-only k c events said doing
line-only k n line events result (inr h) = kept-only (tree_named line) k h.0

pub changes-only : (k : Client) (n : ℕ) (line : Line) (events : List Event) (result : Result (Answer × Option Refusal) Halt) → AnswersLine k n line events result → ChangesOnly (tree_named line) k
changes-only k n line events (Ok reply) (xs, ys, cut, does, follows) = line-only k n line xs (Ok reply) does
changes-only k n line events (Err how) (inl does) = line-only k n line events (Err how) does
changes-only k n line events (Err how) (inr (reply, (xs, ys, cut, does, follows))) = line-only k n line xs (Ok reply) does

-- ---- a line on a tree that was answered

none-some : {A : Type 0} (e : Refusal) → ◌≡◌ {A = Option Refusal} None (Some e) → A
none-some e h = absurd cc

-- it isn't refused
answered-ok : (n : ℕ) (said : Result Outcome Refusal) (answer : Answer) (reply : Answer × Option Refusal) → reply ≡ (answer, None) → Ends n said (Ok reply) → (it : Outcome) × (said ≡ Ok it)
answered-ok n (Ok it) answer reply is h = (it, refl)
answered-ok n (Err e) answer reply is h = none-some e (ap (λ (p : Answer × Option Refusal). p.1) (sym is ∙ h.1))

clash : {A : Type 0} (said : Result Outcome Refusal) (it : Outcome) (e : Refusal) → said ≡ Ok it → said ≡ Err e → A
clash said it e ok is = absurd (ok-err it e (sym ok ∙ is))
  where
    ok-err : (it : Outcome) (e : Refusal) → ◌≡◌ {A = Result Outcome Refusal} (Ok it) (Err e) → ⊥
    ok-err it e h = cc

-- what was done on its tree
write-reached : (k : Client) (w : FileWrite) (events : List Event) (said : Result Outcome Refusal) (it : Outcome) → said ≡ Ok it → Doing k (File (Write w)) events said
    → (xs : List Event) × (result : Result Outcome Refusal) × DoesThere k (write w) xs result × (result ≡ Ok it)
write-reached k w events said it ok (inl (e, kept, looks, is)) = clash said it e ok is
write-reached k w events said it ok (inr (answers, (xs, ys, cut, looks, inl (result, (us, vs, parts, does, (none, same)))))) = (us, result, does, sym same ∙ ok)
write-reached k w events said it ok (inr (answers, (xs, ys, cut, looks, inr (kept, none, is)))) = clash said it NoMemory ok is

erase-reached : (k : Client) (e : FileErase) (events : List Event) (said : Result Outcome Refusal) (it : Outcome) → said ≡ Ok it → Doing k (File (Erase e)) events said
    → (xs : List Event) × (result : Result Outcome Refusal) × DoesThere k (erase e) xs result × (result ≡ Ok it)
erase-reached k e events said it ok (inl (why, kept, looks, is)) = clash said it why ok is
erase-reached k e events said it ok (inr (answers, (xs, ys, cut, looks, inl (result, (us, vs, parts, does, (none, same)))))) = (us, result, does, sym same ∙ ok)
erase-reached k e events said it ok (inr (answers, (xs, ys, cut, looks, inr (kept, none, is)))) = clash said it NoMemory ok is

wrote : (w : FileWrite) (before after : Known) (answer : Result (Unit {0}) Refusal) (result : Result Outcome Refusal) (it : Outcome) → result ≡ Ok it → result ≡ on_ok (λ done. Said Done) answer
    → Writes w.path (bytes_of w.contents) w.mtime before after answer → Leads (HasFile w.path (bytes_of w.contents) w.mtime) before.files after.files
wrote w before after (Ok done) result it ok is h = h
wrote w before after (Err e) result it ok is h = clash result it e ok is

erased : (path : List ℕ) (before after : Known) (answer : Result (Unit {0}) Refusal) (result : Result Outcome Refusal) (it : Outcome) → result ≡ Ok it → result ≡ on_ok (λ done. Said Done) answer
    → Erases path before after answer → Leads (IsWithout path) before.files after.files
erased path before after (Ok done) result it ok is h = h
erased path before after (Err e) result it ok is h = clash result it e ok is

write-there : (k : Client) (w : FileWrite) (xs : List Event) (result : Result Outcome Refusal) (it : Outcome) → result ≡ Ok it → DoesThere k (write w) xs result → TreeHas w.tree (HasFile w.path (bytes_of w.contents) w.mtime) k
write-there k w xs result it ok (inl (before, after, turns, (steps, (answer, writes, is)))) = (before, after, turns, wrote w before after answer result it ok is writes)
write-there k w xs result it ok (inr (none, kept, steps, is)) = clash result it NotFound ok is

erase-there : (k : Client) (e : FileErase) (xs : List Event) (result : Result Outcome Refusal) (it : Outcome) → result ≡ Ok it → DoesThere k (erase e) xs result → TreeHas e.tree (IsWithout e.path) k
erase-there k e xs result it ok (inl (before, after, turns, (steps, (answer, erases, is)))) = (before, after, turns, erased e.path before after answer result it ok is erases)
erase-there k e xs result it ok (inr (none, kept, steps, is)) = clash result it NotFound ok is

not-halted : {A : Type 0} (reply : Answer × Option Refusal) (how : Halt) → ◌≡◌ {A = Result (Answer × Option Refusal) Halt} (Ok reply) (Err how) → A
not-halted reply how h = absurd cc

pub written-there : (k : Client) (n : ℕ) (w : FileWrite) (events : List Event) (answer : Answer) (reply : Answer × Option Refusal) → reply ≡ (answer, None) → AnswersLine k n (asks (File (Write w))) events (Ok reply)
    → TreeHas w.tree (HasFile w.path (bytes_of w.contents) w.mtime) k
written-there k n w events answer reply is (xs, ys, cut, inl (said, doing, ends), follows) =
    let it = answered-ok n said answer reply is ends in
    let r = write-reached k w xs said it.0 it.1 doing in
    write-there k w r.0 r.1 it.0 r.3 r.2
written-there k n w events answer reply is (xs, ys, cut, inr (kept, none, halted), follows) = not-halted reply halt.Memory halted

pub erased-there : (k : Client) (n : ℕ) (e : FileErase) (events : List Event) (answer : Answer) (reply : Answer × Option Refusal) → reply ≡ (answer, None) → AnswersLine k n (asks (File (Erase e))) events (Ok reply)
    → TreeHas e.tree (IsWithout e.path) k
erased-there k n e events answer reply is (xs, ys, cut, inl (said, doing, ends), follows) =
    let it = answered-ok n said answer reply is ends in
    let r = erase-reached k e xs said it.0 it.1 doing in
    erase-there k e r.0 r.1 it.0 r.3 r.2
erased-there k n e events answer reply is (xs, ys, cut, inr (kept, none, halted), follows) = not-halted reply halt.Memory halted
