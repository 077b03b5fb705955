-- What the steps of a command come to, put together: its look-ups, and then its work.
use Rattle.std.proofs.Common.{◌≡◌, ◌⊎◌, inl, inr, ℕ, ◌+◌, ◌≤◌, max, true, List, [], length, Result, Ok, Err, refl, sym, ap, subst, ◌∙◌, arith}
use Rattle.std.proofs.lemmas.Bool.{and_parts}
use Rattle.std.specs.Result.{result_err}
use Rattle.kinds.specs.declared.change.PolicyChange.TheVariants as policy
use Rattle.kinds.specs.declared.refusal.Refusal.{Refusal}
use Rattle.kinds.specs.declared.refusal.Refusal.TheVariants as refused
use Rattle.choosers.specs.declared.rule.Rule.{Rule}
use Rattle.entries.specs.declared.entry.Entry.{Entry}
use Rattle.inventory_rows.specs.policy_domains.Changes.{after}
use Rattle.inventory_rows.specs.version_groups.Entries.{on_ok}
use Rattle.inventory_answers.specs.Answered.{answered}
use Rattle.inventory_answers.specs.declared.query.Query.{Query}
use Rattle.inventory_answers.specs.declared.query.Query.TheVariants as query
use Rattle.inventory_answers.specs.declared.reply.Answer as rows
use Rattle.inventory_answers.specs.declared.reply.Rows.TheVariants as kind
use Rattle.command_words.specs.Reading.{◌>>=◌}
use Rattle.admin_words.specs.declared.command.Command.{Command}
use Rattle.admin_words.specs.declared.files.FileGet.{FileGet}
use Rattle.admin_words.specs.declared.files.FilePut.{FilePut}
use Rattle.admin_words.specs.declared.policy.NamedSet.{NamedSet}
use Rattle.admin_commands.specs.Orders.{needs, work_of}
use Rattle.admin_commands.specs.declared.work.Work.{Work}
use Rattle.admin_commands.specs.declared.work.Work.TheVariants.{Commit, Show, Run}
use Rattle.reports.specs.declared.shown.Shown.TheVariants.{Done, Stored}
use Rattle.command_steps.specs.sessions.Getting.{Gets as GetsBy}
use Rattle.command_steps.specs.sessions.InTurn.{OrMemory}
use Rattle.command_steps.specs.sessions.declared.getting.FileRead.{FileRead}
use Rattle.steps.specs.Events.{Event}
use Rattle.machine.specs.Alone.{Alone}
use Rattle.machine.specs.Causes.{is_plain}
use Rattle.machine.specs.Laws.{RefusesElsewhere}
use Rattle.machine.specs.Machine.{Places}
use Rattle.machine.specs.State.{Core, Machine, inventory}
use Rattle.command_steps.specs.Behind.{Behind, behind, forces, no_more, reuses}
use Rattle.command_steps.specs.Doing.{Does as DoesBy, DoesOwn as DoesOwnBy, DoesWork, Doing, EndsWork, PutsText, Validates, validated_by, validity}
use Rattle.command_steps.specs.Clients.{Client, IsKept}
use Rattle.command_steps.specs.Owns.{Own, checkpoint, empty_filespace, empty_volume, expire, get, last_of as last_line, none_but_reuse, none_yet, on_tree, own_of, put, validate}
use Rattle.command_steps.specs.declared.outcome.Outcome.{Outcome}
use Rattle.command_steps.specs.declared.outcome.Outcome.TheVariants.{Read, Rows, Said}
use Rattle.line_results.specs.Commands.{Comes, Does, DoesOwn, IsFull, IsRefusedAsRead, IsStopped, Tells, Works, WorksWith, answers_to, is_stepless, validated, work_over}
use Rattle.line_results.specs.Files.{Gets, Puts}
use Rattle.line_results.specs.Lines.{in_doubt}
use Rattle.line_results.specs.Resting.{HasSizes, IsAtRest, IsLate, IsNearlyDurable, Leaves, NobodyHolds, SameImage, database}
use Rattle.line_results.specs.Sound.{HasSoundRows}
use Rattle.line_results.proofs.Asked.{EndsBy, Looked, asked-step, last-of, looked, unstopped}
use Rattle.line_results.proofs.Changed.{changes}
use Rattle.line_results.proofs.Checkpointed.{checkpoints}
use Rattle.line_results.proofs.Earlier.{works-since}
use Rattle.line_results.proofs.Processing.{IsPlainOwn, IsProcess, IsRowless, Kind, kind}
use Rattle.line_results.proofs.Leaving.{Left, left-of, rest-as, sizes-as, still-leaves}
use Rattle.line_results.proofs.Mild.{is_common}
use Rattle.line_results.proofs.Needs.{IsPlainWork, looks_up, needs-unlogged, own-asks, work-plain}
use Rattle.line_results.proofs.Runs.{AreLast, Became, alone-none, alone-parts, became-same, late-on}
use Rattle.line_results.proofs.Processed.{Processed, processed}
use Rattle.line_results.proofs.Since.{left-since}
use Rattle.line_results.proofs.Treed.{there-did, tree-late}

-- ---- what a PUT and a GET come to, as it stands elsewhere

abbrev pub PutsAs : (trusted : Type 0) → Places → List Rule → Type 0
PutsAs trusted places choice =
    (p : FilePut) (old new : Machine) (events : List Event) (answer : Result ℕ Refusal) → IsAtRest old.core → HasSizes old → OrMemory (PutsText choice p) events answer → Alone trusted places 0 events old new
    → (added : List Entry) × Puts places choice p old new answer added × SameImage old new × Leaves answer added old new

abbrev pub GetsAs : (trusted : Type 0) → Places → Type 0
GetsAs trusted places =
    (g : FileGet) (old new : Machine) (events : List Event) (answer : Result FileRead Refusal) → IsAtRest old.core → HasSizes old → OrMemory (GetsBy g.node g.filespace g.path) events answer → Alone trusted places 0 events old new
    → Gets trusted g old new answer × Became old.core old new × (IsLate old → IsStopped answer)

-- ---- results by a function of an answer

leaves-through : (A B : Type 0) (f : A → B) (answer : Result A Refusal) (added : List Entry) (old new : Machine) → Leaves answer added old new → Leaves (on_ok f answer) added old new
leaves-through A B f (Ok x) added old new l = record { adds = l.adds; onward = l.onward; log = l.log; nearly = l.nearly; rests = l.rests; durable = l.durable }
leaves-through A B f (Err e) added old new l = record { adds = l.adds; onward = l.onward; log = l.log; nearly = l.nearly; rests = l.rests; durable = l.durable }

leaves-on : (A B : Type 0) (f : A → B) (answer : Result A Refusal) (result : Result B Refusal) (added : List Entry) (old new : Machine) → result ≡ on_ok f answer → Leaves answer added old new
    → Leaves result added old new
leaves-on A B f answer result added old new is l = subst (λ (r : Result B Refusal). Leaves r added old new) (sym is) (leaves-through A B f answer added old new l)

stopped-as : (B : Type 0) (e : Refusal) (result : Result B Refusal) → result ≡ Err e → AreLast e → IsStopped result
stopped-as B e result is (inl h) = inl (is ∙ ap Err h)
stopped-as B e result is (inr h) = inr (is ∙ ap Err h)

stopped-on : (A B : Type 0) (f : A → B) (answer : Result A Refusal) (result : Result B Refusal) → result ≡ on_ok f answer → IsStopped answer → IsStopped result
stopped-on A B f (Ok x) result is s = absurd (unstopped A x s)
stopped-on A B f (Err e) result is s = stopped-as B e result is (last-of A e s)

tells : (told result : Result Outcome Refusal) (old new : Machine) → (result ≡ told) ⊎ EndsBy old new result → Became old.core old new → Tells told old new result []
tells told result old new h b = (h, refl, ap (λ (x : Core). x.generation) b.core, b.contents)

-- ---- work of a command's own

pub record OwnDid (trusted : Type 0) (places : Places) (k : Client) (numbers : List ℕ) (own : Own) (old new : Machine) (result : Result Outcome Refusal) : Type 0 where
  pub added : List Entry
  pub does : DoesOwn trusted places k numbers own old new result added
  pub leaves : Leaves result added old new
  pub late : IsLate old → IsStopped result ⊎ (((own ≡ none_yet) × (result ≡ Err (refused.UnknownWord 1))) ⊎ ((looks_up own ≡ true) ⊎ (is_stepless own ≡ true)))

validity-is : {X : Type 0} (r : Result X Refusal) → validity (kind.Validated (result_err r)) ≡ on_ok (λ done. Said Done) (on_ok (λ (x : X). tt {0}) r)
validity-is (Ok x) = refl
validity-is (Err e) = refl

validated-ends : (answer : Result rows.Answer Refusal) (result : Result Outcome Refusal) (old new : Machine) → result ≡ validated_by answer → EndsBy old new answer → EndsBy old new result
validated-ends answer result old new is (e, same, ends) = (e, is ∙ ap validated_by same, ends)

validated-stopped : (answer : Result rows.Answer Refusal) (result : Result Outcome Refusal) → result ≡ validated_by answer → IsStopped answer → IsStopped result
validated-stopped (Ok a) result is s = absurd (unstopped rows.Answer a s)
validated-stopped (Err e) result is s = stopped-as Outcome e result is (last-of rows.Answer e s)

validated-told : (set : NamedSet) (answer : Result rows.Answer Refusal) (result : Result Outcome Refusal) (old new : Machine) → result ≡ validated_by answer
    → (answer ≡ answered (query.Validated set.domain set.set) (database old)) ⊎ EndsBy old new answer → (result ≡ on_ok (λ done. Said Done) (validated set (database old))) ⊎ EndsBy old new result
validated-told set answer result old new is (inl same) = inl (is ∙ ap validated_by same ∙ validity-is (after (policy.Activate set.domain set.set) (database old).domains))
validated-told set answer result old new is (inr ends) = inr (validated-ends answer result old new is ends)

wanted-ends : (B : Type 0) (result : Result B Refusal) (old new : Machine) → result ≡ Err refused.Memory → EndsBy old new result
wanted-ends B result old new is = (refused.Memory, is, tt)

module _ (trusted : Type 0) (places : Places) (k : Client) (puts : PutsAs trusted places k.choice) (gets : GetsAs trusted places) where
  validate-did : (numbers : List ℕ) (set : NamedSet) (events : List Event) (result : Result Outcome Refusal) (old new : Machine) → IsKept k → IsAtRest old.core → Validates set events result → Alone trusted places 0 events old new
      → OwnDid trusted places k numbers (validate set) old new result
  validate-did numbers set events result old new kept rest (answer, inl made, is) f =
      let t = asked-step trusted places (query.Validated set.domain set.set) answer events old new refl rest made f in
      record {
        added = [];
        does = (kept, tells (on_ok (λ done. Said Done) (validated set (database old))) result old new (validated-told set answer result old new is t.told) t.still);
        leaves = still-leaves result old new rest t.still;
        late = λ l. inl (validated-stopped answer result is (t.late l));
      }
  validate-did numbers set events result old new kept rest (answer, inr (none, wanted), is) f =
      let b = became-same old new (alone-none trusted places 0 events old new none f) in
      let stop : result ≡ Err refused.Memory = is ∙ ap validated_by wanted in
      record {
        added = [];
        does = (kept, tells (on_ok (λ done. Said Done) (validated set (database old))) result old new (inr (wanted-ends Outcome result old new stop)) b);
        leaves = still-leaves result old new rest b;
        late = λ l. inl (inr stop);
      }

  own-did : (own : Own) (numbers : List ℕ) (events : List Event) (result : Result Outcome Refusal) (old new : Machine) → IsPlainOwn own → IsAtRest old.core → HasSizes old → DoesOwnBy k own numbers events result
      → Alone trusted places 0 events old new → OwnDid trusted places k numbers own old new result
  own-did (validate set) numbers events result old new so rest sizes (kept, h) f = validate-did numbers set events result old new kept rest h f
  own-did (put p) numbers events result old new so rest sizes (kept, (answer, called, is)) f =
      let r = puts p old new events answer rest sizes called f in
      record {
        added = r.0;
        does = (kept, (answer, r.1, is, r.2));
        leaves = leaves-on ℕ Outcome (λ object. Said (Stored object)) answer result r.0 old new is r.3;
        late = λ l. inr (inr (inl refl));
      }
  own-did (get g) numbers events result old new so rest sizes (kept, (answer, called, is)) f =
      let r = gets g old new events answer rest sizes called f in
      record {
        added = [];
        does = (kept, (answer, r.0, is, refl, ap (λ (x : Core). x.generation) r.1.core, r.1.contents));
        leaves = still-leaves result old new rest r.1;
        late = λ l. inl (stopped-on FileRead Outcome Read answer result is (r.2 l));
      }
  own-did checkpoint numbers events result old new so rest sizes (kept, (answer, called, is)) f =
      let r = checkpoints trusted places events answer old new rest called.order f in
      record {
        added = [];
        does = (kept, (answer, r.came, is, refl, r.bytes));
        leaves = leaves-on ℕ Outcome (λ seq. Said Done) answer result [] old new is r.leaves;
        late = λ l. inl (stopped-on ℕ Outcome (λ seq. Said Done) answer result is (r.late l));
      }
  own-did none_yet numbers events result old new so rest sizes (kept, (none, is)) f =
      let b = became-same old new (alone-none trusted places 0 events old new none f) in
      record {
        added = [];
        does = (kept, tells (Err (refused.UnknownWord 1)) result old new (inl is) b);
        leaves = still-leaves result old new rest b;
        late = λ l. inr (inl (refl, is));
      }
  own-did (on_tree work) numbers events result old new so rest sizes h f =
      let r = there-did trusted places k work events result old new so rest h f in
      record { added = []; does = r.0; leaves = still-leaves result old new rest r.1; late = λ l. inr (inr (tree-late work so)) }
  own-did own numbers events result old new so rest sizes h f = absurd so

-- ---- work

-- it is refused without a step
abbrev IsUndone : Command → Result Work Refusal → Result Outcome Refusal → Type 0
IsUndone c w result =
    ((why : Refusal) × (w ≡ Err why) × (result ≡ Err why))
    ⊎ ((numbers : List ℕ) × (w ≡ Ok (Run numbers)) × (own_of c ≡ none_yet) × (result ≡ Err (refused.UnknownWord 1)))

-- work behind which nothing comes
pub record PlainDid (trusted : Type 0) (places : Places) (k : Client) (c : Command) (w : Work) (old new : Machine) (result : Result Outcome Refusal) : Type 0 where
  pub added : List Entry
  pub does : Does trusted places k c (Ok w) old new result added
  pub leaves : Leaves result added old new
  pub late : IsLate old → needs c ≡ [] → IsStopped result ⊎ (IsUndone c (Ok w) result ⊎ (is_stepless (own_of c) ≡ true))

-- work with what comes behind it
pub record WorkDid (trusted : Type 0) (places : Places) (k : Client) (c : Command) (w : Result Work Refusal) (b : Behind) (old new : Machine) (result : Result Outcome Refusal) : Type 0 where
  pub added : List Entry
  pub works : Works trusted places k c w b old new result added
  pub left : Left result added old new
  pub doubt : length new.core.journal ≤ length new.core.stamps + in_doubt b added
  pub late : IsLate old → needs c ≡ [] → IsStopped result ⊎ (IsUndone c w result ⊎ (is_stepless (own_of c) ≡ true))

own-late : (c : Command) (numbers : List ℕ) (result : Result Outcome Refusal) → needs c ≡ []
    → IsStopped result ⊎ (((own_of c ≡ none_yet) × (result ≡ Err (refused.UnknownWord 1))) ⊎ ((looks_up (own_of c) ≡ true) ⊎ (is_stepless (own_of c) ≡ true)))
    → IsStopped result ⊎ (IsUndone c (Ok (Run numbers)) result ⊎ (is_stepless (own_of c) ≡ true))
own-late c numbers result none (inl s) = inl s
own-late c numbers result none (inr (inl (own, is))) = inr (inl (inr (numbers, refl, own, is)))
own-late c numbers result none (inr (inr (inl asks))) = absurd (own-asks c asks none)
own-late c numbers result none (inr (inr (inr stepless))) = inr (inr stepless)

shown-told : (q : Query) (answer : Result rows.Answer Refusal) (result : Result Outcome Refusal) (old new : Machine) → result ≡ on_ok Rows answer → (answer ≡ answered q (database old)) ⊎ EndsBy old new answer
    → (result ≡ on_ok Rows (answered q (database old))) ⊎ EndsBy old new result
shown-told q answer result old new is (inl same) = inl (is ∙ ap (λ (r : Result rows.Answer Refusal). on_ok Rows r) same)
shown-told q answer result old new is (inr (e, same, ends)) = inr (e, is ∙ ap (λ (r : Result rows.Answer Refusal). on_ok Rows r) same, ends)

module _ (trusted : Type 0) (places : Places) (k : Client) (puts : PutsAs trusted places k.choice) (gets : GetsAs trusted places) where
  plain-did : (c : Command) (w : Work) (events : List Event) (result : Result Outcome Refusal) (old new : Machine) → IsPlainWork (Ok w) → IsPlainOwn (own_of c) → IsAtRest old.core → HasSizes old → DoesBy k c w events result
      → Alone trusted places 0 events old new → PlainDid trusted places k c w old new result
  plain-did c (Commit what) events result old new plain so rest sizes (kept, (answer, called, is)) f =
      let r = changes trusted places what events answer old new (and_parts (is_plain what) (is_common what) plain).0 rest called.order f in
      record {
        added = r.added;
        does = (kept, answer, r.commits, is, r.image, r.bytes);
        leaves = leaves-on ℕ Outcome (λ number. Said (last_line what)) answer result r.added old new is r.leaves;
        late = λ l n. inl (stopped-on ℕ Outcome (λ number. Said (last_line what)) answer result is (r.late l));
      }
  plain-did c (Show q) events result old new plain so rest sizes (kept, (answer, made, is)) f =
      let t = asked-step trusted places q answer events old new plain rest made f in
      record {
        added = [];
        does = (kept, tells (on_ok Rows (answered q (database old))) result old new (shown-told q answer result old new is t.told) t.still);
        leaves = still-leaves result old new rest t.still;
        late = λ l n. inl (stopped-on rows.Answer Outcome Rows answer result is (t.late l));
      }
  plain-did c (Run numbers) events result old new plain so rest sizes h f =
      let r = own-did trusted places k puts gets (own_of c) numbers events result old new so rest sizes h f in
      record { added = r.added; does = r.does; leaves = r.leaves; late = λ l n. own-late c numbers result n (r.late l) }

-- what may be in doubt, where that is the newest transaction at most, and where it is those that were added
pub newest-doubt : (b : Behind) (added : List Entry) (new : Machine) → IsNearlyDurable new.core → length new.core.journal ≤ length new.core.stamps + in_doubt b added
newest-doubt no_more added new nearly = nearly
newest-doubt forces added new nearly = (let most : length new.core.journal ≤ length new.core.stamps + 1 = nearly in omega (arith, most))
newest-doubt reuses added new nearly = (let most : length new.core.journal ≤ length new.core.stamps + 1 = nearly in omega (arith, most))

added-doubt : (b : Behind) (added : List Entry) (new : Machine) → (b ≡ no_more → ⊥) → length new.core.journal ≤ length new.core.stamps + length added → length new.core.journal ≤ length new.core.stamps + in_doubt b added
added-doubt no_more added new some most = absurd (some refl)
added-doubt forces added new some most = omega (arith, most)
added-doubt reuses added new some most = omega (arith, most)

module _ (trusted : Type 0) (places : Places) (k : Client) (c : Command) where
  refused-works : (why : Refusal) (b : Behind) (old new : Machine) (result : Result Outcome Refusal) → IsKept k → Tells (Err why) old new result [] → Works trusted places k c (Err why) b old new result []
  refused-works why no_more old new result kept h = (kept, h)
  refused-works why forces old new result kept h = (kept, h)
  refused-works why reuses old new result kept h = (kept, h)

  process-works : (w : Work) (b : Behind) (old new : Machine) (result : Result Outcome Refusal) (added : List Entry) → (b ≡ no_more → ⊥) → WorksWith trusted places k c (Ok w) b old new result added
      → Works trusted places k c (Ok w) b old new result added
  process-works w no_more old new result added some h = absurd (some refl)
  process-works w forces old new result added some h = h
  process-works w reuses old new result added some h = h

  refused-did : (why : Refusal) (b : Behind) (old mid new : Machine) (result : Result Outcome Refusal) → IsKept k → IsAtRest old.core → result ≡ Err why → Became old.core old new → WorkDid trusted places k c (Err why) b old new result
  refused-did why b old mid new result kept rest is still = record {
    added = [];
    works = refused-works why b old new result kept (tells (Err why) result old new (inl is) still);
    left = left-of result [] old new (still-leaves result old new rest still);
    doubt = newest-doubt b [] new (still-leaves result old new rest still).nearly;
    late = λ l n. inr (inl (inl (why, refl, is)));
  }

  plain-work : (w : Work) (old new : Machine) (result : Result Outcome Refusal) → PlainDid trusted places k c w old new result → WorkDid trusted places k c (Ok w) no_more old new result
  plain-work w old new result h = record { added = h.added; works = h.does; left = left-of result h.added old new h.leaves; doubt = newest-doubt no_more h.added new h.leaves.nearly; late = h.late }

  process-work : (w : Work) (b : Behind) (old new : Machine) (result : Result Outcome Refusal) → (b ≡ no_more → ⊥) → Processed trusted places k c w b old new result → WorkDid trusted places k c (Ok w) b old new result
  process-work w b old new result some h = record {
    added = h.added;
    works = process-works w b old new result h.added some h.works;
    left = h.left;
    doubt = added-doubt b h.added new some h.doubt;
    late = λ l n. inl (h.late l);
  }

-- nothing came behind it
ends-so : (b : Behind) (said result : Result Outcome Refusal) (events : List Event) → b ≡ no_more → EndsWork b said events result → (events ≡ []) × (result ≡ said)
ends-so no_more said result events is h = h
ends-so forces said result events is h = absurd cc
ends-so reuses said result events is h = absurd cc

module _ (trusted : Type 0) (places : Places) (nobody : NobodyHolds places) (lawful : RefusesElsewhere places) (k : Client) (puts : PutsAs trusted places k.choice) (gets : GetsAs trusted places) where
  done-work : (c : Command) (w : Work) (events : List Event) (result : Result Outcome Refusal) (old new : Machine) → IsPlainWork (Ok w) → behind c ≡ no_more → IsPlainOwn (own_of c) → IsAtRest old.core → HasSizes old
      → DoesWork k c (Ok w) events result → Alone trusted places 0 events old new → WorkDid trusted places k c (Ok w) (behind c) old new result
  done-work c w events result old new plain is so rest sizes (said, (xs, ys, cut, does, ends)) f =
      let parts = alone-parts trusted places 0 events xs ys old new cut f in
      let none = ends-so (behind c) said result ys is ends in
      let same : new ≡ parts.0 = alone-none trusted places 0 ys parts.0 new none.0 parts.2 in
      subst (λ (b : Behind). WorkDid trusted places k c (Ok w) b old new result) (sym is)
      (subst (λ (r : Result Outcome Refusal). WorkDid trusted places k c (Ok w) no_more old new r) (sym none.1)
      (plain-work trusted places k c w old new said
      (plain-did trusted places k puts gets c w xs said old new plain so rest sizes does (subst (λ (m : Machine). Alone trusted places 0 xs old m) (sym same) parts.1))))

  work-did : (c : Command) (w : Result Work Refusal) (events : List Event) (result : Result Outcome Refusal) (old new : Machine) → IsPlainWork w → (IsProcess c → IsRowless w) → IsAtRest old.core → HasSizes old → HasSoundRows (database old)
      → DoesWork k c w events result → Alone trusted places 0 events old new → WorkDid trusted places k c w (behind c) old new result
  work-did c (Err why) events result old new plain rowless rest sizes sound (kept, none, is) f =
      refused-did trusted places k c why (behind c) old old new result kept rest is (became-same old new (alone-none trusted places 0 events old new none f))
  work-did c (Ok w) events result old new plain rowless rest sizes sound h f = elim (kind c) as (λ _. WorkDid trusted places k c (Ok w) (behind c) old new result) [
    | inl it ↦ done-work c w events result old new plain it.0 it.1 rest sizes h f
    | inr it ↦ process-work trusted places k c w (behind c) old new result it.some (processed trusted places nobody lawful k c w result events old new it (rowless it) plain rest sound h f)
  ]

-- ---- a command

pub record CommandDid (trusted : Type 0) (places : Places) (k : Client) (c : Command) (old new : Machine) (result : Result Outcome Refusal) : Type 0 where
  pub added : List Entry
  pub comes : Comes trusted places k c old new result added
  pub left : Left result added old new
  pub doubt : length new.core.journal ≤ length new.core.stamps + in_doubt (behind c) added

-- the run ended before its work was known
begins-not : (trusted : Type 0) (places : Places) (k : Client) (c : Command) (old new : Machine) (result : Result Outcome Refusal) → IsKept k → IsAtRest old.core → EndsBy old new result → Became old.core old new
    → IsFull c old result → CommandDid trusted places k c old new result
begins-not trusted places k c old new result kept rest (e, is, ends) b full = record {
  added = [];
  comes = (inl (kept, e, is, ends, refl, ap (λ (x : Core). x.generation) b.core, b.contents), full);
  left = left-of result [] old new (still-leaves result old new rest b);
  doubt = newest-doubt (behind c) [] new (still-leaves result old new rest b).nearly;
}

abbrev refused_list : Refusal → Result (List rows.Answer) Refusal
refused_list e = Err e

abbrev error_in : Result (List rows.Answer) Refusal → Refusal
error_in (Ok x) = refused.Memory
error_in (Err e) = e

same-err : (e f : Refusal) → refused_list e ≡ refused_list f → e ≡ f
same-err e f h = ap error_in h

-- a look-up is refused
not-looked : (trusted : Type 0) (places : Places) (k : Client) (c : Command) (old new : Machine) (e : Refusal) (result : Result Outcome Refusal) → IsKept k → IsAtRest old.core → result ≡ Err e
    → Looked (needs c) old new (Err e) → CommandDid trusted places k c old new result
not-looked trusted places k c old new e result kept rest is h =
    let full : IsFull c old result = λ l. inl (elim (h.late l) as (λ _. IsStopped result) [
      | inl s ↦ stopped-as Outcome e result is (last-of (List rows.Answer) e s)
      | inr n ↦ (let odd : Err e ≡ Ok [] = n.1 in absurd cc)
    ]) in
    elim h.told as (λ _. CommandDid trusted places k c old new result) [
      | inl same ↦ (let w : work_over c (database old) ≡ Err e = ap (λ (r : Result (List rows.Answer) Refusal). r >>= λ answers. work_of c answers) (sym same) in
          record {
            added = [];
            comes = (inr (subst (λ (r : Result Work Refusal). Works trusted places k c r (behind c) old new result []) (sym w) (refused-works trusted places k c e (behind c) old new result kept (tells (Err e) result old new (inl is) h.still))), full);
            left = left-of result [] old new (still-leaves result old new rest h.still);
            doubt = newest-doubt (behind c) [] new (still-leaves result old new rest h.still).nearly;
          })
      | inr ends ↦ (let f : Refusal = ends.0 in let same : e ≡ f = same-err e f ends.1 in
          begins-not trusted places k c old new result kept rest (f, is ∙ ap Err same, ends.2) h.still full)
    ]

-- the look-ups were answered
answers-are : (queries : List Query) (answers : List rows.Answer) (old mid : Machine) → (Ok answers ≡ answers_to queries (database old)) ⊎ EndsBy old mid (Ok answers) → Ok answers ≡ answers_to queries (database old)
answers-are queries answers old mid (inl h) = h
answers-are queries answers old mid (inr (e, h, r)) = absurd cc

abbrev as_list : List rows.Answer → Result (List rows.Answer) Refusal
as_list answers = Ok answers

abbrev list_in : Result (List rows.Answer) Refusal → List rows.Answer
list_in (Ok answers) = answers
list_in (Err e) = []

late-answers : (c : Command) (answers : List rows.Answer) → IsStopped (as_list answers) ⊎ ((needs c ≡ []) × (as_list answers ≡ as_list [])) → (needs c ≡ []) × (answers ≡ [])
late-answers c answers (inl s) = absurd (unstopped (List rows.Answer) answers s)
late-answers c answers (inr (none, is)) = (none, ap list_in is)

undone-read : (c : Command) (answers : List rows.Answer) (result : Result Outcome Refusal) → needs c ≡ [] → answers ≡ [] → IsStopped result ⊎ (IsUndone c (work_of c answers) result ⊎ (is_stepless (own_of c) ≡ true))
    → IsStopped result ⊎ (IsRefusedAsRead c result ⊎ (is_stepless (own_of c) ≡ true))
undone-read c answers result none is (inl s) = inl s
undone-read c answers result none is (inr (inl (inl (why, w, said)))) = inr (inl (none, inl (why, subst (λ (all : List rows.Answer). work_of c all ≡ Err why) is w, said)))
undone-read c answers result none is (inr (inl (inr (numbers, w, own, said)))) = inr (inl (none, inr (numbers, subst (λ (all : List rows.Answer). work_of c all ≡ Ok (Run numbers)) is w, own, said)))
undone-read c answers result none is (inr (inr stepless)) = inr (inr stepless)

was-done : (trusted : Type 0) (places : Places) (k : Client) (c : Command) (answers : List rows.Answer) (old mid new : Machine) (result : Result Outcome Refusal) → Looked (needs c) old mid (Ok answers)
    → WorkDid trusted places k c (work_of c answers) (behind c) mid new result → CommandDid trusted places k c old new result
was-done trusted places k c answers old mid new result h w =
    let same : Ok answers ≡ answers_to (needs c) (database old) = answers-are (needs c) answers old mid h.told in
    let work : work_of c answers ≡ work_over c (database old) = ap (λ (r : Result (List rows.Answer) Refusal). r >>= λ answers. work_of c answers) same in
    let full : IsFull c old result = λ l. (let n = late-answers c answers (h.late l) in undone-read c answers result n.0 n.1 (w.late (late-on old mid h.still.onward l) n.0)) in
    record {
      added = w.added;
      comes = (
        inr (subst (λ (r : Result Work Refusal). Works trusted places k c r (behind c) old new result w.added) work (works-since trusted places k result w.added old mid new h.still c (work_of c answers) (behind c) w.works)),
        full,
      );
      left = left-since result w.added old mid new h.still w.left;
      doubt = w.doubt;
    }

module _ (trusted : Type 0) (places : Places) (nobody : NobodyHolds places) (lawful : RefusesElsewhere places) (k : Client) (puts : PutsAs trusted places k.choice) (gets : GetsAs trusted places) where
  pub command-did : (c : Command) (events : List Event) (result : Result Outcome Refusal) (old new : Machine) → IsAtRest old.core → HasSizes old → HasSoundRows (database old) → Doing k c events result → Alone trusted places 0 events old new
      → CommandDid trusted places k c old new result
  command-did c events result old new rest sizes sound (inl (e, kept, inl asked, is)) f =
      not-looked trusted places k c old new e result kept rest is (looked trusted places (needs c) events (Err e) old new (needs-unlogged c) rest asked f)
  command-did c events result old new rest sizes sound (inl (e, kept, inr (none, wanted), is)) f =
      let stop : result ≡ Err refused.Memory = is ∙ ap Err (same-err e refused.Memory wanted) in
      begins-not trusted places k c old new result kept rest (wanted-ends Outcome result old new stop) (became-same old new (alone-none trusted places 0 events old new none f)) (λ l. inl (inr stop))
  command-did c events result old new rest sizes sound (inr (answers, (xs, ys, cut, inr (none, wanted), next))) f = absurd cc
  command-did c events result old new rest sizes sound (inr (answers, (xs, ys, cut, inl asked, inl work))) f =
      let parts = alone-parts trusted places 0 events xs ys old new cut f in
      let h = looked trusted places (needs c) xs (Ok answers) old parts.0 (needs-unlogged c) rest asked parts.1 in
      was-done trusted places k c answers old parts.0 new result h
      (work-did trusted places nobody lawful k puts gets c (work_of c answers) ys result parts.0 new (work-plain c answers) (λ it. it.rowless answers) (rest-as parts.0.core old.core h.still.core rest) (sizes-as old parts.0 h.still sizes) (subst (λ (x : Core). HasSoundRows (inventory x)) (sym h.still.core) sound) work parts.2)
  command-did c events result old new rest sizes sound (inr (answers, (xs, ys, cut, inl asked, inr (kept, none, wanted)))) f =
      let parts = alone-parts trusted places 0 events xs ys old new cut f in
      let h = looked trusted places (needs c) xs (Ok answers) old parts.0 (needs-unlogged c) rest asked parts.1 in
      let same : new ≡ parts.0 = alone-none trusted places 0 ys parts.0 new none parts.2 in
      begins-not trusted places k c old new result kept rest (wanted-ends Outcome result old new wanted) (subst (λ (m : Machine). Became old.core old m) (sym same) h.still) (λ l. inl (inr wanted))
