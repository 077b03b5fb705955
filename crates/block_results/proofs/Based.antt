-- What the steps of a line were answered is what the database of a state has that its turns pass.
use Rattle.std.proofs.Common.{◌≡◌, ◌∙◌, ◌==◌, inl, inr, ℕ, false, List, ◌++◌, Some, Result, Ok, Err, refl, sym, ap, subst, append_assoc}
use Rattle.kinds.specs.Refusals.{foremost, number_of, refusal_of}
use Rattle.kinds.specs.declared.refusal.Refusal.{Refusal}
use Rattle.kinds.specs.declared.refusal.Refusal.TheVariants as refused
use Rattle.inventory_rows.specs.object_rows.Names.{node_named}
use Rattle.inventory_rows.specs.version_groups.Entries.{on_ok}
use Rattle.inventory_work.specs.Rules.{rules_of}
use Rattle.inventory_work.specs.declared.search.Named.TheVariants as thing
use Rattle.inventory_answers.specs.Answered.{answered, rows_of}
use Rattle.inventory_answers.specs.Clients.{versions_of}
use Rattle.inventory_answers.specs.declared.lines.VersionLine.{VersionLine}
use Rattle.inventory_answers.specs.declared.query.Query.{Query}
use Rattle.inventory_answers.specs.declared.query.Query.TheVariants as query
use Rattle.inventory_answers.specs.declared.reply.Answer as rows
use Rattle.inventory_answers.specs.declared.reply.Rows as reply
use Rattle.inventory_answers.specs.declared.reply.Rows.TheVariants as replies
use Rattle.admin_words.specs.declared.files.IncrementalBackup.{IncrementalBackup}
use Rattle.line_results.specs.copy_attempts.Outcomes.{MetBy}
use Rattle.line_results.specs.incrementals.Asking.{AsksAll, AsksNode, AsksNodeRules, AsksRules, AsksVersions}
use Rattle.line_results.specs.incrementals.declared.asking.Basis.{Basis}
use Rattle.line_results.specs.incrementals.declared.asking.Ruled.{Ruled}
use Rattle.steps.specs.Calls.{Made}
use Rattle.steps.specs.Events.{Deed, Event, refusal}
use Rattle.steps.specs.Events.Deed.{Ask}
use Rattle.machine.proofs.Elsewhere.{ended-all, foremost-all}
use Rattle.machine.specs.Alone.{with_contents}
use Rattle.machine.specs.Machine.{Case, Places, ended}
use Rattle.machine.specs.State.{Machine}
use Rattle.machine.specs.Turns.{Turn, events_of}
use Rattle.crew.specs.Ran.{Turned}
use Rattle.line_results.proofs.Asked.{is_log}
use Rattle.line_results.proofs.Planned.{versions_in}
use Rattle.line_results.proofs.PutHomes.{err-of, node-of, ok-of, rules-told}
use Rattle.line_results.specs.Resting.{database}
use Rattle.line_results.specs.Trees.{HasVersions}
use Rattle.block_results.specs.Legal.{Passes}
use Rattle.block_results.specs.Refusing.{IsRefusedFor}
use Rattle.block_results.specs.Room.{IsBasisOf}
use Rattle.block_results.proofs.Completing.{stands}
use Rattle.block_results.proofs.Fitting.{met-first, met-next}
use Rattle.block_results.proofs.Looking.{told-as}
use Rattle.block_results.proofs.Reasons.{moved-for}
use Rattle.block_results.proofs.Rows.{rows-told as rows-of-told}
use Rattle.block_results.proofs.Treed.{found-is, not-there}

-- of some of the actor's steps among all
pub among-all : (actor : ℕ) (turns : List Turn) (Q : Deed → Type 0) (front own back : List Event) → events_of actor turns ≡ front ++ (own ++ back) → MetBy Q own → MetBy Q (events_of actor turns)
among-all actor turns Q front own back is met = subst (λ (l : List Event). MetBy Q l) (sym is) (met-next front (own ++ back) Q (met-first own back Q met))

told-none : (r : Result reply.Rows Refusal) (f : reply.Rows → rows.Answer) (why : Refusal) → foremost (refusal_of (on_ok f r)) ≡ Some why → r ≡ Err why
told-none (Ok x) f why h = absurd cc
told-none (Err e) f why h = (let same : e ≡ why = cc in ap (λ (y : Refusal). Err y) same)

module _ (trusted : Type 0) (places : Places) (actor : ℕ) (turns : List Turn) (old new : Machine) (ran : Turned trusted places turns old new) where
  abbrev Is : Machine → Type 0
  Is m = Passes trusted places turns old new m

  -- the rows that a question was answered
  pub rows-in : (q : Query) (a : rows.Answer) (front xs back : List Event) → events_of actor turns ≡ front ++ (xs ++ back) → is_log q ≡ false → Made (Ask q (Ok a)) xs
      → (m : Machine) × Is m × (rows_of q (database m) ≡ Ok a.rows) × (a.today ≡ (database m).today)
  rows-in q a front xs back cut un (inr (memory, none)) = absurd cc
  rows-in q a front xs back cut un (inl (n, one, listed)) =
      let met : MetBy (λ d. d ≡ Ask q (Ok a)) (events_of actor turns) = among-all actor turns (λ d. d ≡ Ask q (Ok a)) front xs back cut (subst (λ (es : List Event). MetBy (λ d. d ≡ Ask q (Ok a)) es) (sym one) (inl refl)) in
      let st = stands trusted places actor (λ d. d ≡ Ask q (Ok a)) turns old new ran met in
      let g : Case places actor (Ask q (Ok a)) (with_contents st.made.seen st.before) st.made.next = subst (λ (d : Deed). Case places actor d (with_contents st.made.seen st.before) st.made.next) st.is st.made.made.step in
      let v = database st.before in
      let told : answered q v ≡ Ok a = told-as st.before.core.log_length q v a un g.1.0 in
      let both = rows-of-told (rows_of q v) v.number v.today a told in
      (st.before, st.passes, both.0, both.1)

  -- a question that was refused since what it names isn't there
  not-in : (q : Query) (m after : Machine) → IsRefusedFor places actor (Ask q (Err refused.NotFound)) m after refused.NotFound → rows_of q (database m) ≡ Err refused.NotFound
  not-in q m after (inl own) = told-none (rows_of q (database m)) (λ (x : reply.Rows). record { n = (database m).number; today = (database m).today; rows = x }) refused.NotFound own
  not-in q m after (inr (inl none)) = absurd none
  not-in q m after (inr (inr (inl held))) = absurd cc
  not-in q m after (inr (inr (inr (inl bound)))) = absurd cc
  not-in q m after (inr (inr (inr (inr (inl over))))) =
      (let odd : (number_of refused.NotFound == 10) ≡ false = foremost-all (λ e. (number_of e == 10) ≡ false) (ended m) (ended-all (λ e. (number_of e == 10) ≡ false) refl (λ file count. refl) m) refused.NotFound over in absurd cc)
  not-in q m after (inr (inr (inr (inr (inr (inl failed)))))) = absurd failed
  not-in q m after (inr (inr (inr (inr (inr (inr memory)))))) = absurd cc

  unrows-in : (q : Query) (front xs back : List Event) → events_of actor turns ≡ front ++ (xs ++ back) → Made (Ask q (Err refused.NotFound)) xs → (m : Machine) × Is m × (rows_of q (database m) ≡ Err refused.NotFound)
  unrows-in q front xs back cut (inr (memory, none)) = absurd cc
  unrows-in q front xs back cut (inl (n, one, listed)) =
      let met : MetBy (λ d. d ≡ Ask q (Err refused.NotFound)) (events_of actor turns) =
      among-all actor turns (λ d. d ≡ Ask q (Err refused.NotFound)) front xs back cut (subst (λ (es : List Event). MetBy (λ d. d ≡ Ask q (Err refused.NotFound)) es) (sym one) (inl refl)) in
      let st = stands trusted places actor (λ d. d ≡ Ask q (Err refused.NotFound)) turns old new ran met in
      let for : IsRefusedFor places actor st.did.deed st.before st.after refused.NotFound = moved-for trusted places actor st.did st.before st.after refused.NotFound st.made (ap refusal st.is) in
      (st.before, st.passes, not-in q st.before st.after (subst (λ (d : Deed). IsRefusedFor places actor d st.before st.after refused.NotFound) st.is for))

  -- ---- what a backup of a tree asks

  module _ (i : IncrementalBackup) where
    versions-in : (lines : List VersionLine) (front xs back : List Event) → events_of actor turns ≡ front ++ (xs ++ back) → AsksVersions i.node i.filespace xs (Ok lines) → (m : Machine) × Is m × HasVersions i.node i.filespace (database m) lines
    versions-in lines front xs back cut (inl (answer, has, made)) =
        let at = rows-in (query.Versions i.node i.filespace) answer front xs back cut refl made in
        (at.0, at.1, inl (ok-of replies.Versions versions_in (λ y. refl) (versions_of i.node i.filespace (database at.0)) lines (at.2 ∙ ap (λ (y : reply.Rows). Ok y) has)))
    versions-in lines front xs back cut (inr (none, why, ten, made)) =
        let at = unrows-in (query.Versions i.node i.filespace) front xs back cut (subst (λ (e : Refusal). Made (Ask (query.Versions i.node i.filespace) (Err e)) xs) (not-there why ten) made) in
        (at.0, at.1, inr (err-of replies.Versions (versions_of i.node i.filespace (database at.0)) refused.NotFound at.2, none))

    node-in : (number : ℕ) (front xs back : List Event) → events_of actor turns ≡ front ++ (xs ++ back) → AsksNode i.node xs (Ok number) → (m : Machine) × Is m × (node_named i.node (database m).clients.nodes ≡ Some number)
    node-in number front xs back cut (answer, (x, has, numbered), made) =
        let at = rows-in (query.Lookup (thing.Node i.node)) answer front xs back cut refl made in
        (at.0, at.1, node-of i.node number (database at.0) (at.2 ∙ ap (λ (y : reply.Rows). Ok y) (has ∙ ap replies.Lookup (found-is x number numbered))))

    rules-in : (number : ℕ) (r : Ruled) (front xs back : List Event) → events_of actor turns ≡ front ++ (xs ++ back) → AsksRules number xs (Ok r)
        → ((m : Machine) × Is m × (rules_of number (database m) ≡ Ok r.rules) × (r.today ≡ (database m).today)) × (r.node ≡ number)
    rules-in number r front xs back cut (answer, (has, today, node), made) =
        let at = rows-in (query.Rules number) answer front xs back cut refl made in
        ((at.0, at.1, rules-told number r.rules (database at.0) (at.2 ∙ ap (λ (y : reply.Rows). Ok y) has), today ∙ at.3), node)

    abbrev Ruling : Ruled → Type 0
    Ruling r = ((m : Machine) × Is m × (node_named i.node (database m).clients.nodes ≡ Some r.node)) × ((m : Machine) × Is m × (rules_of r.node (database m) ≡ Ok r.rules) × (r.today ≡ (database m).today))

    node-rules-in : (r : Ruled) (front xs back : List Event) → events_of actor turns ≡ front ++ (xs ++ back) → AsksNodeRules i.node xs (Ok r) → Ruling r
    node-rules-in r front xs back cut (inl (number, (us, vs, apart, first, next))) =
        let whole : events_of actor turns ≡ front ++ (us ++ (vs ++ back)) = cut ∙ ap (λ (es : List Event). front ++ (es ++ back)) apart ∙ ap (λ (es : List Event). front ++ es) (append_assoc us vs back) in
        let n = node-in number front us (vs ++ back) whole first in
        let k = rules-in number r (front ++ us) vs back (whole ∙ sym (append_assoc front us (vs ++ back))) next in (
          (n.0, n.1, n.2 ∙ ap (λ (x : ℕ). Some x) (sym k.1)),
          subst (λ (x : ℕ). (m : Machine) × Is m × (rules_of x (database m) ≡ Ok r.rules) × (r.today ≡ (database m).today)) (sym k.1) k.0,
        )
    node-rules-in r front xs back cut (inr (e, refuses, is)) = absurd cc

    pub basis-in : (basis : Basis) (front xs back : List Event) → events_of actor turns ≡ front ++ (xs ++ back) → AsksAll i.node i.filespace xs (Ok basis) → IsBasisOf Is i basis
    basis-in basis front xs back cut (us, vs, apart, first, next) =
        let whole : events_of actor turns ≡ front ++ (us ++ (vs ++ back)) = cut ∙ ap (λ (es : List Event). front ++ (es ++ back)) apart ∙ ap (λ (es : List Event). front ++ es) (append_assoc us vs back) in
        let ruling = node-rules-in basis.ruled (front ++ us) vs back (whole ∙ sym (append_assoc front us (vs ++ back))) next in
        (versions-in basis.versions front us (vs ++ back) whole first, ruling.0, ruling.1)
