-- The acknowledged transactions of an incremental backup.
use Rattle.std.proofs.Common.{◌≡◌, inl, inr, ℕ, suc, ◌+◌, ◌==◌, ◌&&◌, Bool, true, false, true≢false, if◌then◌else◌, List, [], ◌∷◌, ◌++◌, length, Option, None, Some, is_some, IfOk, Result, Ok, Err, refl, sym, ap, subst, ◌∙◌, append-nil, append_assoc, arith}
use Rattle.std.proofs.lemmas.Bool.{eqb-true}
use Rattle.std.proofs.lemmas.Grind.{flat_map-append}
use Rattle.kinds.specs.Answers.{AnswersBy}
use Rattle.kinds.specs.declared.refusal.Refusal.{Refusal}
use Rattle.kinds.specs.declared.refusal.Refusal.TheVariants as refused
use Rattle.choosers.specs.declared.rule.Rule.{Rule}
use Rattle.client_files.specs.Sending.{stopping}
use Rattle.client_plan.specs.Plans.{Lists}
use Rattle.client_trees.specs.Files.{Files}
use Rattle.client_batches.specs.Handling.{file_in}
use Rattle.client_batches.specs.Items.{Stored, ended_by, items_in, kept, made_by, rebound_by, stored_by}
use Rattle.client_batches.specs.Listings.{named, rebound}
use Rattle.entries.specs.change_items.declared.items.NamedVersion.{NamedVersion}
use Rattle.entries.specs.change_items.declared.items.Rebinding.{Rebinding}
use Rattle.steps.proofs.Acknowledged.{receipts-behind}
use Rattle.steps.proofs.Joining.{so_call}
use Rattle.steps.specs.declared.asked.Asked.{Asked}
use Rattle.steps.specs.Calls.{Call, Made, Then}
use Rattle.steps.specs.Events.{Deed, Event}
use Rattle.steps.specs.Events.Deed.{OpenNew, OpenCopy, WritePiece, CopyPiece, Seal, Commit, DropTicket, ReadPiece, Ask, Image, Reuse, Force}
use Rattle.steps.specs.Receipts.{is_forced, is_made, made, receipts}
use Rattle.inventory_answers.specs.declared.lines.FilespaceLine.{FilespaceLine}
use Rattle.inventory_answers.specs.declared.lines.VersionLine.{VersionLine}
use Rattle.inventory_answers.specs.declared.query.Query.{Query}
use Rattle.inventory_answers.specs.declared.query.Query.TheVariants as query
use Rattle.inventory_answers.specs.declared.reply.Answer.{Answer}
use Rattle.inventory_work.specs.declared.search.Named.TheVariants as thing
use Rattle.incrementals.specs.declared.answering.Outs.{Outs}
use Rattle.incrementals.specs.declared.answering.Sent.{Sent}
use Rattle.incrementals.specs.declared.asking.Basis.{Basis}
use Rattle.incrementals.specs.declared.asking.Ruled.{Ruled}
use Rattle.incrementals.specs.declared.planning.Begun.{Begun}
use Rattle.incrementals.specs.Answering.{committed, sent_of}
use Rattle.incrementals.specs.Asking.{AsksAll, AsksFor, AsksNode, AsksNodeRules, AsksRules, AsksVersions, HasFilespaces, HasNumber, HasRules, Unanswered}
use Rattle.incrementals.specs.Filespaces.{DefinesAndFinds, DefinesOne, FindsOne, HasFilespace, defining}
use Rattle.incrementals.specs.Items.{IsWhole}
use Rattle.incrementals.specs.Planning.{Begins}
use Rattle.incrementals.proofs.Ordering.{own-increments}
use Rattle.incrementals.proofs.Spending.{increments-settled}
use Rattle.incrementals.specs.Process.{CarriesOut, Done, Finishes, Forces, Incremental, Increments, Works, forced_as, is_idle, is_sending, no_outs}

-- ---- items

-- these transactions have these files, paths and versions
pub record Has (files : List Stored) (paths : List Rebinding) (versions : List NamedVersion) (events : List Event) : Type 0 where
  pub stored : items_in stored_by events ≡ files
  pub rebound : items_in rebound_by events ≡ paths
  pub ended : items_in ended_by events ≡ versions

pub items_behind : {X : Type 0} (items : Asked → List X) (xs ys : List Event) → items_in items (xs ++ ys) ≡ items_in items xs ++ items_in items ys
items_behind items xs ys = flat_map-append (λ e. made_by items e.deed) xs ys

-- first these, and then those
both_items : {X : Type 0} (items : Asked → List X) (first next : List X) (events xs ys : List Event) → events ≡ xs ++ ys → items_in items xs ≡ first → items_in items ys ≡ next → items_in items events ≡ first ++ next
both_items {X} items first next events xs ys joined a b =
    ap (items_in items) joined ∙ items_behind items xs ys ∙ ap (λ (zs : List X). zs ++ items_in items ys) a ∙ ap (λ (zs : List X). first ++ zs) b

has_then : (files more : List Stored) (paths others : List Rebinding) (versions rest : List NamedVersion) (events xs ys : List Event) → events ≡ xs ++ ys → Has files paths versions xs → Has more others rest ys
    → Has (files ++ more) (paths ++ others) (versions ++ rest) events
has_then files more paths others versions rest events xs ys joined a b = record {
  stored = both_items stored_by files more events xs ys joined a.stored b.stored;
  rebound = both_items rebound_by paths others events xs ys joined a.rebound b.rebound;
  ended = both_items ended_by versions rest events xs ys joined a.ended b.ended;
}

has_none : (events : List Event) → events ≡ [] → Has [] [] [] events
has_none events none = record {
  stored = ap (items_in stored_by) none;
  rebound = ap (items_in rebound_by) none;
  ended = ap (items_in ended_by) none;
}

-- ---- questions

asked_none : (q : Query) (answer : Result Answer Refusal) (events : List Event) → Made (Ask q answer) events → Has [] [] [] events
asked_none q answer events (inl step) = record {
  stored = ap (items_in stored_by) step.1;
  rebound = ap (items_in rebound_by) step.1;
  ended = ap (items_in ended_by) step.1;
}
asked_none q answer events (inr wanting) = has_none events wanting.1

unanswered_none : (q : Query) (events : List Event) (e : Refusal) → Unanswered q events e → Has [] [] [] events
unanswered_none q events e (inl h) = has_none events h.1
unanswered_none q events e (inr (inl h)) = asked_none q (Ok h.0) events h.2
unanswered_none q events e (inr (inr h)) = asked_none q (Err h.0) events h.2

asks_none : {A : Type 0} (q : Query) (Is : A → Answer → Type 0) (events : List Event) (result : Result A Refusal) → AsksFor q Is events result → Has [] [] [] events
asks_none q Is events (Ok x) h = asked_none q (Ok h.0) events h.2
asks_none q Is events (Err e) h = unanswered_none q events e h

none_then : (Q R : List Event → Type 0) (events : List Event) → Then Q R events → ((xs : List Event) → Q xs → Has [] [] [] xs) → ((ys : List Event) → R ys → Has [] [] [] ys) → Has [] [] [] events
none_then Q R events h q r = has_then [] [] [] [] [] [] events h.0 h.1 h.2 (q h.0 h.3) (r h.1 h.4)

versions_none : (node filespace : List ℕ) (events : List Event) (result : Result (List VersionLine) Refusal) → AsksVersions node filespace events result → Has [] [] [] events
versions_none node filespace events (Ok lines) (inl h) = asked_none (query.Versions node filespace) (Ok h.0) events h.2
versions_none node filespace events (Ok lines) (inr h) = asked_none (query.Versions node filespace) (Err h.1) events h.3
versions_none node filespace events (Err e) h = unanswered_none (query.Versions node filespace) events e h.1

node_none : (node : List ℕ) (events : List Event) (result : Result ℕ Refusal) → AsksNode node events result → Has [] [] [] events
node_none node events result h = asks_none (query.Lookup (thing.Node node)) HasNumber events result h

rules_none : (number : ℕ) (events : List Event) (result : Result Ruled Refusal) → AsksRules number events result → Has [] [] [] events
rules_none number events result h = asks_none (query.Rules number) (HasRules number) events result h

node_rules_none : (node : List ℕ) (events : List Event) (result : Result Ruled Refusal) → AsksNodeRules node events result → Has [] [] [] events
node_rules_none node events result (inl h) = none_then _ _ events h.1 (λ xs a. node_none node xs (Ok h.0) a) (λ ys b. rules_none h.0 ys result b)
node_rules_none node events result (inr h) = node_none node events (Err h.0) h.1

all_none : (node filespace : List ℕ) (events : List Event) (result : Result Basis Refusal) → AsksAll node filespace events result → Has [] [] [] events
all_none node filespace events (Ok b) h = none_then _ _ events h (λ xs a. versions_none node filespace xs (Ok b.versions) a) (λ ys c. node_rules_none node ys (Ok b.ruled) c)
all_none node filespace events (Err e) (inl h) = versions_none node filespace events (Err e) h
all_none node filespace events (Err e) (inr h) = none_then _ _ events h.1 (λ xs a. versions_none node filespace xs (Ok h.0) a) (λ ys c. node_rules_none node ys (Err e) c)

finds_nothing : (node filespace : List ℕ) (events : List Event) (result : Result (Option ℕ) Refusal) → FindsOne node filespace events result → Has [] [] [] events
finds_nothing node filespace events (Ok found) h = asks_none (query.Filespaces (Some node)) HasFilespaces events (Ok h.0) h.1
finds_nothing node filespace events (Err e) h = asks_none {A = List FilespaceLine} (query.Filespaces (Some node)) HasFilespaces events (Err e) h

-- ---- a filespace

-- its definition has no items
defined_none : (node : ℕ) (filespace : List ℕ) (events : List Event) (answer : Result ℕ Refusal) → Made (Commit (defining node filespace) [] answer) events → Has [] [] [] events
defined_none node filespace events (Ok number) (inl step) = record {
  stored = ap (items_in stored_by) step.1;
  rebound = ap (items_in rebound_by) step.1;
  ended = ap (items_in ended_by) step.1;
}
defined_none node filespace events (Ok number) (inr wanting) = has_none events wanting.1
defined_none node filespace events (Err e) (inl step) = record {
  stored = ap (items_in stored_by) step.1;
  rebound = ap (items_in rebound_by) step.1;
  ended = ap (items_in ended_by) step.1;
}
defined_none node filespace events (Err e) (inr wanting) = has_none events wanting.1

defines_none : (node : ℕ) (filespace : List ℕ) (events : List Event) (result : Result (Unit {0}) Refusal) → DefinesOne node filespace events result → Has [] [] [] events
defines_none node filespace events result (inl h) = has_none events h.0
defines_none node filespace events result (inr h) = defined_none node filespace events h.0 h.1

defines_and_finds_none : (node : List ℕ) (number : ℕ) (filespace : List ℕ) (events : List Event) (result : Result ℕ Refusal) → DefinesAndFinds node number filespace events result → Has [] [] [] events
defines_and_finds_none node number filespace events result (inl h) =
    none_then _ _ events h.1 (λ xs d. defines_none number filespace xs (Ok tt) d) (λ ys f. finds_nothing node filespace ys (Ok h.0) f)
defines_and_finds_none node number filespace events result (inr (inl h)) =
    none_then _ _ events h.1 (λ xs d. defines_none number filespace xs (Ok tt) d) (λ ys f. finds_nothing node filespace ys (Err h.0) f)
defines_and_finds_none node number filespace events result (inr (inr h)) = defines_none number filespace events (Err h.0) h.1

filespace_none : (node : List ℕ) (number : ℕ) (filespace : List ℕ) (sends : Bool) (events : List Event) (result : Result ℕ Refusal) → HasFilespace node number filespace sends events result → Has [] [] [] events
filespace_none node number filespace sends events result (inl h) = finds_nothing node filespace events (Ok (Some h.0)) h.1
filespace_none node number filespace sends events result (inr (inl h)) = finds_nothing node filespace events (Err h.0) h.1
filespace_none node number filespace sends events result (inr (inr (inl h))) = finds_nothing node filespace events (Ok None) h.1
filespace_none node number filespace sends events result (inr (inr (inr h))) =
    none_then _ _ events h.1 (λ xs f. finds_nothing node filespace xs (Ok None) f) (λ ys d. defines_and_finds_none node number filespace ys result d)

-- ---- the plan

-- the plan's lines that are committed, and no others
pub record Carried (plan : Lists) (o : Outs) (events : List Event) : Type 0 where
  pub has : Has (kept (λ l. file_in l ∷ []) plan.send o.sent) (kept (λ l. rebound l ∷ []) plan.rebind o.rebound) (kept (λ l. named l ∷ []) plan.gone o.gone) events
  pub each_sent : length o.sent ≡ length plan.send
  pub each_rebound : length o.rebound ≡ length plan.rebind
  pub each_gone : length o.gone ≡ length plan.gone

abbrev is_ok_of : {A B : Type 0} → Result A B → Bool
is_ok_of (Ok x) = true
is_ok_of (Err e) = false

ok_err : {A B : Type 0} (x : A) (e : B) → ◌≡◌ {A = Result A B} (Ok x) (Err e) → ⊥
ok_err {A} {B} x e h = true≢false (ap (λ (r : Result A B). is_ok_of r) h)

carries_out : (filespace : ℕ) (b : Begun) (told : Option Files) (before after : ℕ) (events : List Event) (o : Outs) → CarriesOut filespace b told before after events (Ok o) → Carried b.plan o events
carries_out filespace b told before after events o (inl h) =
    let sent = h.1.3.exact in
    let bound = h.1.4.1.3.exact in
    let ended = h.1.4.1.4.exact in
    let same : kept (λ l. file_in l ∷ []) b.plan.send h.0 ≡ kept (λ l. file_in l ∷ []) b.plan.send o.sent = ap (λ (os : List (Option Refusal)). kept (λ l. file_in l ∷ []) b.plan.send os) (sym h.1.4.0) in
    record {
      has = record {
        stored = both_items stored_by _ [] events h.1.0 h.1.1 h.1.2 (sent.stored ∙ same) (both_items stored_by [] [] h.1.1 h.1.4.1.0 h.1.4.1.1 h.1.4.1.2 bound.stored ended.stored) ∙ append-nil (kept (λ l. file_in l ∷ []) b.plan.send o.sent);
        rebound = both_items rebound_by [] _ events h.1.0 h.1.1 h.1.2 sent.rebound (both_items rebound_by _ [] h.1.1 h.1.4.1.0 h.1.4.1.1 h.1.4.1.2 bound.rebound ended.rebound) ∙ append-nil (kept (λ l. rebound l ∷ []) b.plan.rebind o.rebound);
        ended = both_items ended_by [] _ events h.1.0 h.1.1 h.1.2 sent.ended (both_items ended_by [] _ h.1.1 h.1.4.1.0 h.1.4.1.1 h.1.4.1.2 bound.ended ended.ended);
      };
      each_sent = ap length h.1.4.0 ∙ sent.each;
      each_rebound = bound.each;
      each_gone = ended.each;
    }
carries_out filespace b told before after events o (inr h) = absurd (ok_err o h.0 h.2)

both_true : (a b : Bool) → (a && b) ≡ true → (a ≡ true) × (b ≡ true)
both_true true b h = (refl, h)
both_true false b h = absurd (true≢false (sym h))

abbrev outs_in : Result Outs Refusal → Outs
outs_in (Ok o) = o
outs_in (Err e) = no_outs

same_outs : (o : Outs) → ◌≡◌ {A = Result Outs Refusal} (Ok o) (Ok no_outs) → o ≡ no_outs
same_outs o h = ap outs_in h

no_kept : {L X : Type 0} (give : L → List X) (lines : List L) → kept give lines [] ≡ []
no_kept give [] = refl
no_kept give (l ∷ lines) = refl

idle_carried : (plan : Lists) (o : Outs) (events : List Event) → is_idle plan ≡ true → o ≡ no_outs → events ≡ [] → Carried plan o events
idle_carried plan o events idle is none =
    let first = both_true (length plan.send == 0 && length plan.rebind == 0) (length plan.gone == 0) idle in
    let second = both_true (length plan.send == 0) (length plan.rebind == 0) first.0 in
    let no_send : length plan.send ≡ 0 = eqb-true (length plan.send) 0 second.0 in
    let no_rebind : length plan.rebind ≡ 0 = eqb-true (length plan.rebind) 0 second.1 in
    let no_gone : length plan.gone ≡ 0 = eqb-true (length plan.gone) 0 first.1 in
    let quiet = has_none events none in
    record {
      has = record {
        stored = quiet.stored ∙ sym (ap (λ (outs : Outs). kept (λ l. file_in l ∷ []) plan.send outs.sent) is ∙ no_kept (λ l. file_in l ∷ []) plan.send);
        rebound = quiet.rebound ∙ sym (ap (λ (outs : Outs). kept (λ l. rebound l ∷ []) plan.rebind outs.rebound) is ∙ no_kept (λ l. rebound l ∷ []) plan.rebind);
        ended = quiet.ended ∙ sym (ap (λ (outs : Outs). kept (λ l. named l ∷ []) plan.gone outs.gone) is ∙ no_kept (λ l. named l ∷ []) plan.gone);
      };
      each_sent = ap (λ (outs : Outs). length outs.sent) is ∙ sym no_send;
      each_rebound = ap (λ (outs : Outs). length outs.rebound) is ∙ sym no_rebind;
      each_gone = ap (λ (outs : Outs). length outs.gone) is ∙ sym no_gone;
    }

behind_none : (plan : Lists) (o : Outs) (events xs ys : List Event) → events ≡ xs ++ ys → Has [] [] [] xs → Carried plan o ys → Carried plan o events
behind_none plan o events xs ys joined none h = record {
  has = has_then [] _ [] _ [] _ events xs ys joined none h.has;
  each_sent = h.each_sent;
  each_rebound = h.each_rebound;
  each_gone = h.each_gone;
}

works_carried : (node filespace : List ℕ) (b : Begun) (told : Option Files) (before after : ℕ) (events : List Event) (o : Outs) → Works node filespace b told before after events (Ok o) → Carried b.plan o events
works_carried node filespace b told before after events o (inl h) = idle_carried b.plan o events h.0 (same_outs o h.3) h.1
works_carried node filespace b told before after events o (inr (inl h)) =
    behind_none b.plan o events h.2.0 h.2.1 h.2.2 (filespace_none node b.node filespace (is_sending b.plan) h.2.0 (Ok h.1) h.2.3) (carries_out h.1 b told before after h.2.1 o h.2.4)
works_carried node filespace b told before after events o (inr (inr h)) = absurd (ok_err o h.1 h.4)

-- ---- receipts

unmade : {X : Type 0} (items : Asked → List X) (d : Deed) → is_made d ≡ false → made_by items d ≡ []
unmade items (OpenNew pool size prefer answer) h = refl
unmade items (OpenCopy object aim avoid answer) h = refl
unmade items (WritePiece ticket bytes answer) h = refl
unmade items (CopyPiece ticket answer) h = refl
unmade items (Seal ticket answer) h = refl
unmade items (Commit asked tickets (Ok number)) h = absurd (true≢false h)
unmade items (Commit asked tickets (Err e)) h = refl
unmade items (DropTicket ticket answer) h = refl
unmade items (ReadPiece object kept from offset wanted answer) h = refl
unmade items (Ask query answer) h = refl
unmade items (Image kind answer) h = refl
unmade items (Reuse file answer) h = refl
unmade items (Force answer) h = refl

by_made : {X : Type 0} (items : Asked → List X) (b : Bool) (e : Event) (rest : List Event) → (b ≡ false → made_by items e.deed ≡ []) → items_in items (if b then e ∷ rest else rest) ≡ made_by items e.deed ++ items_in items rest
by_made items true e rest none = refl
by_made {X} items false e rest none = sym (ap (λ (xs : List X). xs ++ items_in items rest) (none refl))

made_same : {X : Type 0} (items : Asked → List X) (events : List Event) → items_in items (made events) ≡ items_in items events
made_same items [] = refl
made_same {X} items (e ∷ events) = by_made items (is_made e.deed) e (made events) (unmade items e.deed) ∙ ap (λ (xs : List X). made_by items e.deed ++ xs) (made_same items events)

-- the close: all was made durable, and nothing else
pub record IsEnd (events : List Event) : Type 0 where
  pub forced : is_forced events ≡ true
  pub none : receipts events ≡ []

unit_err : (e : Refusal) → ◌≡◌ {A = Result (Unit {0}) Refusal} (Ok tt) (Err e) → ⊥
unit_err e h = ok_err tt e h

none_some : (e : Refusal) → None ≡ Some e → ⊥
none_some e h = true≢false (sym (ap is_some h))

force_made : (events : List Event) (answer : Result ℕ Refusal) → Made (Force answer) events → Ok tt ≡ forced_as answer → IsEnd events
force_made events (Ok number) (inl step) is = record { forced = ap is_forced step.1; none = ap receipts step.1 }
force_made events (Ok number) (inr wanting) is = absurd (none_some refused.Memory wanting.0)
force_made events (Err e) h is = absurd (unit_err (stopping e) is)

force_end : (events : List Event) → Forces events (Ok tt) → IsEnd events
force_end events h = force_made events h.0 h.1 h.2

receipts_items : {X : Type 0} (items : Asked → List X) (events xs ys us vs : List Event) → events ≡ xs ++ ys → ys ≡ us ++ vs → IsEnd vs → items_in items xs ≡ [] → items_in items (receipts events) ≡ items_in items us
receipts_items {X} items events xs ys us vs joined cut last none =
    ap (λ (es : List Event). items_in items (receipts es)) (joined ∙ ap (λ (zs : List Event). xs ++ zs) cut ∙ sym (append_assoc xs us vs))
    ∙ ap (items_in items) (receipts-behind (xs ++ us) vs last.forced ∙ ap (λ (r : List Event). made (xs ++ us) ++ r) last.none ∙ append-nil (made (xs ++ us)))
    ∙ made_same items (xs ++ us) ∙ items_behind items xs us ∙ ap (λ (zs : List X). zs ++ items_in items us) none

-- The acknowledged transactions have exactly the lines that are committed.
whole : (node filespace : List ℕ) (choice : List Rule) (told : Option Files) (before count after : ℕ) (events : List Event) (b : Begun) (o : Outs)
    → Then (λ xs. Begins node filespace choice told before count xs (Ok b)) (λ ys. Finishes node filespace b told count after ys (Ok o)) events → IsWhole b.plan o events
whole node filespace choice told before count after events b o h =
    let none = all_none node filespace h.0 (Ok h.3.0) h.3.1 in
    let last = force_end h.4.1 h.4.4 in
    let work = works_carried node filespace b told count after h.4.0 o h.4.3 in
    record {
      sent = receipts_items stored_by events h.0 h.1 h.4.0 h.4.1 h.2 h.4.2 last none.stored ∙ work.has.stored;
      rebound = receipts_items rebound_by events h.0 h.1 h.4.0 h.4.1 h.2 h.4.2 last none.rebound ∙ work.has.rebound;
      gone = receipts_items ended_by events h.0 h.1 h.4.0 h.4.1 h.2 h.4.2 last none.ended ∙ work.has.ended;
      each_sent = work.each_sent;
      each_rebound = work.each_rebound;
      each_gone = work.each_gone;
    }

-- ---- what is answered

kept_long : {L X : Type 0} (f : L → X) (lines : List L) (outs : List (Option Refusal)) → length outs ≡ length lines → committed outs ≡ length (kept (λ (l : L). f l ∷ []) lines outs)
kept_long f [] [] long = refl
kept_long f [] (o ∷ outs) long = absurd (omega (arith, long))
kept_long f (l ∷ lines) [] long = absurd (omega (arith, long))
kept_long f (l ∷ lines) (None ∷ outs) long =
    let rest = kept_long f lines outs (omega (arith, long)) in
    let more : 1 + committed outs ≡ suc (length (kept (λ l. f l ∷ []) lines outs)) = omega (arith, rest) in
    more
kept_long f (l ∷ lines) (Some e ∷ outs) long =
    let rest = kept_long f lines outs (omega (arith, long)) in
    omega (arith, rest)

done_of : (node filespace : List ℕ) (choice : List Rule) (told : Option Files) (before count after : ℕ) (events : List Event) (b : Begun) (o : Outs) (s : Sent)
    → Then (λ xs. Begins node filespace choice told before count xs (Ok b)) (λ ys. Finishes node filespace b told count after ys (Ok o)) events → s ≡ sent_of b.plan o → Done node filespace choice told before after s events
done_of node filespace choice told before count after events b o s h is =
    let all = whole node filespace choice told before count after events b o h in
    record {
      begun = b;
      outs = o;
      count = count;
      answer = is;
      steps = h;
      exact = all;
      counts = record {
        sent = ap (λ (t : Sent). t.sent) is ∙ kept_long file_in b.plan.send o.sent all.each_sent ∙ sym (ap length all.sent);
        rebound = ap (λ (t : Sent). t.rebound) is ∙ kept_long rebound b.plan.rebind o.rebound all.each_rebound ∙ sym (ap length all.rebound);
        gone = ap (λ (t : Sent). t.gone) is ∙ kept_long named b.plan.gone o.gone all.each_gone ∙ sym (ap length all.gone);
      };
    }

done_where : (node filespace : List ℕ) (choice : List Rule) (told : Option Files) (before count after : ℕ) (events : List Event) (b : Begun) (o : Outs) (result : Result Sent Refusal)
    → Then (λ xs. Begins node filespace choice told before count xs (Ok b)) (λ ys. Finishes node filespace b told count after ys (Ok o)) events → AnswersBy (λ s. s) result (sent_of b.plan o)
    → IfOk result (λ s. Done node filespace choice told before after s events)
done_where node filespace choice told before count after events b o (Ok s) h is = done_of node filespace choice told before count after events b o s h is
done_where node filespace choice told before count after events b o (Err e) h is = tt

none_done : (node filespace : List ℕ) (choice : List Rule) (told : Option Files) (before after : ℕ) (events : List Event) (result : Result Sent Refusal) (e : Refusal) → result ≡ Err e
    → IfOk result (λ s. Done node filespace choice told before after s events)
none_done node filespace choice told before after events result e is = subst (λ (r : Result Sent Refusal). IfOk r (λ s. Done node filespace choice told before after s events)) (sym is) tt

done_so : (node filespace : List ℕ) (choice : List Rule) (told : Option Files) (before after : ℕ) (events : List Event) (result : Result Sent Refusal) → Increments node filespace choice told before after events result
    → IfOk result (λ s. Done node filespace choice told before after s events)
done_so node filespace choice told before after events result (inl h) = none_done node filespace choice told before after events result h.0 h.2
done_so node filespace choice told before after events result (inr (inl h)) = none_done node filespace choice told before after events result h.2 h.4
done_so node filespace choice told before after events result (inr (inr h)) = done_where node filespace choice told before h.1 after events h.0 h.2 result h.3 h.4

-- What was done in this order is an incremental backup.
pub incremental-of : {S : Type 0} (did : S → List Event → S → Type 0) (p q : S) (node filespace : List ℕ) (choice : List Rule) (told : Option Files) (before after : ℕ) (result : Result Sent Refusal)
    → Call did p q (λ events. Increments node filespace choice told before after events result) → Call did p q (λ events. Incremental node filespace choice told before after events result)
incremental-of did p q node filespace choice told before after result a =
    so_call did (λ events. Increments node filespace choice told before after events result) (λ events. Incremental node filespace choice told before after events result) p q a
    (λ xs f. record {
      order = f;
      done = done_so node filespace choice told before after xs result f;
      only = own-increments node filespace choice told before after xs result f;
      settled = increments-settled node filespace choice told before after xs result f;
    })
