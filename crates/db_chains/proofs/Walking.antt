-- The way back through the files of a chain, and forward again.
use Rattle.std.proofs.Common.{Bool, true, false, cond, ◌≡◌, ◌≢◌, ◌⊎◌, inl, inr, ℕ, ◌<◌, ◌≤◌, List, [], ◌∷◌, ◌++◌, Option, None, Some, Result, Ok, Err, IfOk, IfErr, OnOk, refl, sym, ◌∙◌, ap, subst, arith}
use Rattle.std.proofs.Math.Path.{fun_ext}
use Rattle.std.proofs.lemmas.List.{append-nil}
use Rattle.std.specs.Prelude.{◌==◌, Vec}
use Rattle.std.specs.declared.alloc.Global.{Global}
use Rattle.std.proofs.lemmas.Bool.{eqb-true}
use Rattle.std.specs.List.{AllByRecursion}
use Rattle.store_api.specs.Disk.{History, standing, reads, settled}
use Rattle.store_api.specs.Runs.{GoesOn}
use Rattle.entries.specs.Meaning.{Meaning, IsMeaning}
use Rattle.backup_payloads.specs.Increments.{Increment, IsIncrement}
use Rattle.backup_payloads.specs.declared.payload.Payload.{Payload}
use Rattle.backup_payloads.specs.declared.payload.Payload.TheVariants.{Whole, Since}
use Rattle.backup_payloads.proofs.OnePayload.{only_since}
use Rattle.backup_payloads.proofs.Wholes.{alone}
use Rattle.db_chains.specs.declared.refused.ChainRefused.{ChainRefused}
use Rattle.db_chains.specs.declared.refused.ChainRefused.TheVariants as refused
use Rattle.db_chains.specs.declared.backup.Found.{Found}
use Rattle.db_chains.specs.declared.backup.Kind.{Kind}
use Rattle.db_chains.specs.declared.backup.Kind.TheVariants as kinds
use Rattle.db_chains.specs.declared.back.Link.{Link}
use Rattle.db_chains.specs.declared.back.Step.{Step}
use Rattle.db_chains.specs.declared.back.Step.TheVariants.{Base, Back}
use Rattle.db_chains.specs.Chains.{IsBackupFile, IsBackup, NoBackup, Makes, Fails, Gives, Follows, IsEnd, EndsAt, FailsAt, IsBrokenAt}
use Rattle.db_chains.specs.Looks.{IsOfKind, Looks}
use Rattle.db_chains.specs.Making.{MakesAll}
use Rattle.db_chains.specs.Reads.{OnlySettles, AreSettled, SaysBroken, IsReadFrom, ReadChain, MayRefuseChain}
use Rattle.db_chains.specs.Walks.{strayed, TakenAs, Leads, LeadsOn, Names, IsAsked, IsLast, IsOther, SaysStray, StepsTo, StepsBack, IsLinkSettled, GoesBack, LeadsTo, WentBack, IsAhead, Comes, GoesForward}
use Rattle.db_chains.proofs.Settling.{settles_none, settles_then, settles_file, stays_settled, same_all}
use Rattle.db_chains.proofs.Unique.{one_backup, gives_backup, fails_backup}

-- what the last link is of
pub record Last {D : Type 0} (m : Meaning D) (files : ℕ → List ℕ) (file at : ℕ) (rest : List Link) (l : Link) : Type 0 where
  pub increment : Increment
  pub payload : IsIncrement l.payload.items increment
  pub follows : Follows m files l.file increment
  pub is_at : at ≡ increment.after
  pub leads : Leads m files file rest l.file

module _ {D : Type 0} {m : Meaning D} (files : ℕ → List ℕ) where
  -- one link more at the end
  leads_more : (front : List Link) (file follower at : ℕ) (l : Link) (i : Increment) → Leads m files file front follower → l.file ≡ follower → IsIncrement l.payload.items i → Follows m files follower i → i.after ≡ at → Leads m files file (front ++ l ∷ []) at
  leads_more [] file follower at l i leads is payload follows after =
      (is ∙ leads, (i, payload, subst (λ (n : ℕ). Follows m files n i) leads follows, sym after))
  leads_more (k ∷ front) file follower at l i leads is payload follows after =
      (leads.0, (leads.1.0, leads.1.1, leads.1.2, leads_more front leads.1.0.after follower at l i leads.1.3 is payload follows after))

  pub last_of_leads : (rest : List Link) (file at : ℕ) (l : Link) → Leads m files file (rest ++ l ∷ []) at → Last m files file at rest l
  last_of_leads [] file at l leads = record { increment = leads.1.0; payload = leads.1.1; follows = subst (λ (n : ℕ). Follows m files n leads.1.0) (sym leads.0) leads.1.2; is_at = leads.1.3; leads = leads.0 }
  last_of_leads (k ∷ rest) file at l leads =
      let below = last_of_leads rest leads.1.0.after at l leads.1.3 in
      record { increment = below.increment; payload = below.payload; follows = below.follows; is_at = below.is_at; leads = (leads.0, (leads.1.0, leads.1.1, leads.1.2, below.leads)) }

  -- links that lead to an end
  pub leads_to_end : (links : List Link) (file at : ℕ) → Leads m files file links at → IsEnd m files at → (increments : List Increment) × EndsAt m files file increments at
  leads_to_end [] file at leads end = ([], (leads, subst (IsEnd m files) leads end))
  leads_to_end (l ∷ links) file at leads end =
      let below = leads_to_end links leads.1.0.after at leads.1.3 end in
      (leads.1.0 ∷ below.0, (leads.1.2, below.1))

  -- links that lead to a backup of a chain that fails
  pub leads_to_failure : (links : List Link) (file at number which : ℕ) (increments : List Increment) → Leads m files file links at → FailsAt m files at number increments which → (other : ℕ) × (more : List Increment) × FailsAt m files file other more which
  leads_to_failure [] file at number which increments leads fails = (number, increments, subst (λ (n : ℕ). FailsAt m files n number increments which) leads fails)
  leads_to_failure (l ∷ links) file at number which increments leads fails =
      let i = leads.1.0 in
      let follows = leads.1.2 in
      let below = leads_to_failure links i.after at number which increments leads.1.3 fails in
      let backup = fails_backup {m = m} files below.1 i.after below.0 which below.2 in
      let known : below.0 ≡ i.number = follows.known below.0 backup.0 backup.1 in
      (follows.number, i ∷ below.1, (follows.backup, follows.before, inl (subst (λ (n : ℕ). FailsAt m files i.after n below.1 which) known below.2)))

  -- ---- forward

  -- nothing was gone forward yet
  pub none_ahead : (file : ℕ) (links : List Link) (from number : ℕ) (passed : List Increment) (base : D) → Leads m files file links from → Gives m files from number passed base → IsAhead m files file links from passed links base
  none_ahead file links from number passed base leads gives = record { at = from; number = number; increments = passed; leads = leads; gives = gives; settled = λ h all there. (all, there) }

all_front : (P : Link → Type 0) (rest : List Link) (l : Link) → AllByRecursion P (rest ++ l ∷ []) → AllByRecursion P rest × P l
all_front P [] l all = (tt, all.0)
all_front P (k ∷ rest) l all = (let below = all_front P rest l all.1 in ((all.0, below.0), below.1))

all_more : (P : Link → Type 0) (rest : List Link) (l : Link) → AllByRecursion P rest → P l → AllByRecursion P (rest ++ l ∷ [])
all_more P [] l all one = (one, tt)
all_more P (k ∷ rest) l all one = (all.0, all_more P rest l all.1 one)

module _ {D : Type 0} {m : Meaning D} where
  -- the transactions of the last link were made
  pub one_ahead : (files : ℕ → List ℕ) (file : ℕ) (links : List Link) (from : ℕ) (passed : List Increment) (rest : List Link) (l : Link) (d next : D) →
      IsAhead m files file links from passed (rest ++ l ∷ []) d → ((i : Increment) → IsIncrement l.payload.items i → Makes m d i.records next) → IsAhead m files file links from passed rest next
  one_ahead files file links from passed rest l d next ahead makes =
      let last = last_of_leads {m = m} files rest file ahead.at l ahead.leads in
      let i = last.increment in
      let follows = last.follows in
      let backup = gives_backup {m = m} files ahead.increments ahead.at ahead.number d ahead.gives in
      let here : Gives m files i.after ahead.number ahead.increments d = subst (λ (n : ℕ). Gives m files n ahead.number ahead.increments d) last.is_at ahead.gives in
      let known : ahead.number ≡ i.number = follows.known ahead.number backup.0 (subst (λ (n : ℕ). IsBackup m files n ahead.number backup.0) last.is_at backup.1) in
      record {
        at = l.file;
        number = follows.number;
        increments = i ∷ ahead.increments;
        leads = last.leads;
        gives = (follows.backup, follows.before, (d, subst (λ (n : ℕ). Gives m files i.after n ahead.increments d) known here, makes i last.payload));
        settled = λ h all there.
            (let before = ahead.settled h all there in
            let split = all_front (IsLinkSettled h) rest l before.0 in
            (split.0, (split.1, subst (λ (n : ℕ). AreSettled n ahead.increments h) last.is_at before.1)));
      }

  -- the last link has a record that is no transaction which may be made there
  pub fails_ahead : (files : ℕ → List ℕ) (file : ℕ) (links : List Link) (from : ℕ) (passed : List Increment) (rest : List Link) (l : Link) (d : D) →
      IsAhead m files file links from passed (rest ++ l ∷ []) d → ((i : Increment) → IsIncrement l.payload.items i → Fails m d i.records) → (other : ℕ) × (increments : List Increment) × FailsAt m files file other increments l.file
  fails_ahead files file links from passed rest l d ahead fails =
      let last = last_of_leads {m = m} files rest file ahead.at l ahead.leads in
      let i = last.increment in
      let follows = last.follows in
      let backup = gives_backup {m = m} files ahead.increments ahead.at ahead.number d ahead.gives in
      let here : Gives m files i.after ahead.number ahead.increments d = subst (λ (n : ℕ). Gives m files n ahead.number ahead.increments d) last.is_at ahead.gives in
      let known : ahead.number ≡ i.number = follows.known ahead.number backup.0 (subst (λ (n : ℕ). IsBackup m files n ahead.number backup.0) last.is_at backup.1) in
      let there : FailsAt m files l.file follows.number (i ∷ ahead.increments) l.file =
      (follows.backup, follows.before, inr (refl, (d, subst (λ (n : ℕ). Gives m files i.after n ahead.increments d) known here, fails i last.payload))) in
      leads_to_failure {m = m} files rest file l.file follows.number l.file (i ∷ ahead.increments) last.leads there

-- ---- back

module _ {D : Type 0} {m : Meaning D} (law : IsMeaning m) (files : ℕ → List ℕ) where
  -- what the last link says of the file that it names is so
  confirmed : (file : ℕ) (links : List Link) (at number : ℕ) (held : Payload D) (asked : Option (ℕ × ℕ)) → LeadsOn m files file links at asked → IsBackup m files at number held → IsAsked number asked → Leads m files file links at
  confirmed file links at number held None on backup is = subst (λ (l : List Link). Leads m files file l at) (sym on.0) on.1
  confirmed file links at number held (Some asked) on backup is =
      let names = on.4 in
      let i = names.increment in
      let follows : Follows m files asked.0 i = record {
        number = names.number;
        backup = names.backup;
        before = subst (λ (n : ℕ). n < asked.0) (sym names.is_after) names.before;
        known = λ other also there.
            (one_backup {m = m} law files at other number also held (subst (λ (n : ℕ). IsBackup m files n other also) names.is_after there) backup).0 ∙ is ∙ sym names.is_base;
      } in
      subst (λ (l : List Link). Leads m files file l at) (sym on.2) (leads_more {m = m} files on.0 file asked.0 at on.1 i on.3 names.file names.payload follows names.is_after)

  -- so it is where that file has no backup
  vacuous : (file : ℕ) (links : List Link) (at : ℕ) (asked : Option (ℕ × ℕ)) → LeadsOn m files file links at asked → NoBackup m files at → Leads m files file links at
  vacuous file links at None on none = subst (λ (l : List Link). Leads m files file l at) (sym on.0) on.1
  vacuous file links at (Some asked) on none =
      let names = on.4 in
      let i = names.increment in
      let follows : Follows m files asked.0 i = record {
        number = names.number;
        backup = names.backup;
        before = subst (λ (n : ℕ). n < asked.0) (sym names.is_after) names.before;
        known = λ other also there. absurd (none other also (subst (λ (n : ℕ). IsBackup m files n other also) names.is_after there));
      } in
      subst (λ (l : List Link). Leads m files file l at) (sym on.2) (leads_more {m = m} files on.0 file asked.0 at on.1 i on.3 names.file names.payload follows names.is_after)

  broken_by : (file : ℕ) (links : List Link) (at which : ℕ) → Leads m files file links at → which ≡ at → IsEnd m files at → IsBrokenAt m files file which
  broken_by file links at which leads is end = (let ends = leads_to_end {m = m} files links file at leads end in inl (ends.0, subst (λ (n : ℕ). EndsAt m files file ends.0 n) (sym is) ends.1))

  last_breaks : (file : ℕ) (links : List Link) (at which : ℕ) (asked : Option (ℕ × ℕ)) → LeadsOn m files file links at asked → which ≡ at → IsLast m files at asked → IsBrokenAt m files file which
  last_breaks file links at which asked on is (inl none) = broken_by file links at which (vacuous file links at asked on none) is (inl none)
  last_breaks file links at which asked on is (inr x) =
      broken_by file links at which (confirmed file links at x.0 (Since x.1) asked on x.2 x.3) is (inr (x.0, x.1, x.2, inl x.4))

  other_breaks : (file : ℕ) (links : List Link) (at which : ℕ) (asked : Option (ℕ × ℕ)) → LeadsOn m files file links at asked → IsOther m files at asked which → IsBrokenAt m files file which
  other_breaks file links at which None on other = absurd other
  other_breaks file links at which (Some asked) on other =
      let names = on.4 in
      let i = names.increment in
      broken_by file on.0 asked.0 which on.3 other.0
      (inr (names.number, i, names.backup, inr (other.1.0, other.1.1, subst (λ (n : ℕ). IsBackup m files n other.1.0 other.1.1) (sym names.is_after) other.1.2, λ same. other.1.3 (same ∙ names.is_base))))

  -- a file that isn't what it has to be, or that isn't the one that is asked for, breaks the chain
  stray : (file : ℕ) (links : List Link) (at which : ℕ) (asked : Option (ℕ × ℕ)) → LeadsOn m files file links at asked → ((which ≡ at) × IsLast m files at asked) ⊎ IsOther m files at asked which → IsBrokenAt m files file which
  stray file links at which asked on (inl last) = last_breaks file links at which asked on last.0 last.1
  stray file links at which asked on (inr other) = other_breaks file links at which asked on other

  says_broken : (file : ℕ) (links : List Link) (at : ℕ) (asked : Option (ℕ × ℕ)) (why : ChainRefused) → LeadsOn m files file links at asked → SaysStray m files at asked why → SaysBroken m files file why
  says_broken file links at asked (refused.NotABackup which) on says = stray file links at which asked on says
  says_broken file links at asked (refused.ReadFault which) on says = tt
  says_broken file links at asked refused.RunFull on says = tt
  says_broken file links at asked refused.Memory on says = tt

-- a file that was looked at became a step
not_strayed : (asked : Option (ℕ × ℕ)) (number : ℕ) → None ≡ strayed asked number → IsAsked number asked
not_strayed None number is = tt
not_strayed (Some asked) number is = go (number == asked.1) refl is
  where
    go : (b : Bool) → (number == asked.1) ≡ b → None ≡ cond b None (Some asked.0) → number ≡ asked.1
    go true same is = eqb-true number asked.1 same
    go false apart is = absurd (cc)

module _ {D : Type 0} (m : Meaning D) (at : ℕ) (asked : Option (ℕ × ℕ)) (links : List Link) where
  steps_to : (files : ℕ → List ℕ) (next : List Link) (number : ℕ) (kind : Kind D) (payload : Vec ℕ Global) (step : Step D) → IsAsked number asked → IsOfKind m files at number payload.items kind
      → (let result : Result (Step D) ChainRefused = Ok step in TakenAs at kind payload links next result) → StepsTo m files at asked links step next
  steps_to files next number (kinds.Whole d) payload step is of taken = subst (λ (s : Step D). StepsTo m files at asked links s next) (let e : step ≡ Base d = (let whole : (let a : Result (Step D) ChainRefused = Ok step in a ≡ Ok (Base d)) = taken.0 in cc) in sym e) (number, of, is, taken.1)
  steps_to files next number (kinds.Since after base) payload step is of taken =
      let l : Link = record { file = at; payload = payload } in
      let named : Names m files l at after base = record { increment = of.0; number = number; file = refl; payload = of.2; backup = of.1; before = taken.1; is_after = sym of.3; is_base = sym of.4 } in
      subst (λ (s : Step D). StepsTo m files at asked links s next) (sym taken.0) (l, named, is, taken.2)

  strays : (files : ℕ → List ℕ) (next : List Link) (number : ℕ) (kind : Kind D) (payload : Vec ℕ Global) (why : ChainRefused) → IsAsked number asked → IsOfKind m files at number payload.items kind
      → (let result : Result (Step D) ChainRefused = Err why in TakenAs at kind payload links next result) → SaysStray m files at asked why
  strays files next number (kinds.Whole d) payload why is of taken = absurd (let whole : (let a : Result (Step D) ChainRefused = Err why in a ≡ Ok (Base d)) = taken.0 in cc)
  strays files next number (kinds.Since after base) payload why is of (inl late) =
      subst (SaysStray m files at asked) (sym late.0) (inl (refl, inr (number, of.0, of.1, is, subst (λ (n : ℕ). at ≤ n) of.3 late.1)))
  strays files next number (kinds.Since after base) payload why is of (inr memory) = subst (SaysStray m files at asked) (sym memory) tt

  pub step_taken : (next : List Link) (found : Found D) (result : Result (Step D) ChainRefused) (old new : History) → None ≡ strayed asked found.number → TakenAs at found.kind found.payload links next result
      → (let looked : Result (Option (Found D)) ChainRefused = Ok (Some found) in Looks m at looked old new) → StepsBack m at asked links next result old new
  step_taken next found (Ok step) old new is taken looks = record {
    goes = looks.goes;
    settles = looks.settles;
    durable = looks.durable;
    steps = steps_to (reads old) next found.number found.kind found.payload step (not_strayed asked found.number is) looks.finds taken;
    says = tt;
  }
  step_taken next found (Err why) old new is taken looks = record {
    goes = looks.goes;
    settles = looks.settles;
    durable = tt;
    steps = tt;
    says = strays (reads old) next found.number found.kind found.payload why (not_strayed asked found.number is) looks.finds taken;
  }

-- the files of links that are on the disk stay so over calls on one file
all_stay : (file : ℕ) (links : List Link) (old new : History) → GoesOn (λ f. f ≡ file) old new → reads new file ≡ reads old file → standing new file ≡ settled (reads old file) → AllByRecursion (IsLinkSettled old) links → AllByRecursion (IsLinkSettled new) links
all_stay file [] old new goes same durable all = tt
all_stay file (l ∷ links) old new goes same durable all = (stays_settled file l.file old new goes same durable all.0, all_stay file links old new goes same durable all.1)

begun : {D : Type 0} (m : Meaning D) (file : ℕ) (links : List Link) (h : History) → links ≡ [] → GoesBack m file links file None h h
begun m file links h none = record { settles = settles_none h; leads = (none, refl); settled = subst (AllByRecursion (IsLinkSettled h)) (sym none) tt }

module _ {D : Type 0} {m : Meaning D} (law : IsMeaning m) (file : ℕ) where
  -- a link more
  pub back_more : (links next : List Link) (at after base : ℕ) (asked : Option (ℕ × ℕ)) (old mid new : History) → GoesBack m file links at asked old mid
      → (let result : Result (Step D) ChainRefused = Ok (Back after base) in StepsBack m at asked links next result mid new) → GoesBack m file next after (Some (at, base)) old new
  back_more links next at after base asked old mid new on step =
      let reads_same : reads mid ≡ reads old = fun_ext on.settles.same in
      let steps : StepsTo m (reads old) at asked links (Back after base) next = subst (λ (f : ℕ → List ℕ). StepsTo m f at asked links (Back after base) next) reads_same step.steps in
      let l = steps.0 in
      let named = steps.1 in
      let leads = confirmed {m = m} law (reads old) file links at named.number (Since named.increment) asked on.leads named.backup steps.2 in
      record {
        settles = settles_then old mid new on.settles step.settles;
        leads = (links, l, steps.3, leads, named);
        settled = subst (AllByRecursion (IsLinkSettled new)) (sym steps.3)
            (all_more (IsLinkSettled new) links l (all_stay at links mid new step.goes (step.settles.same at) step.durable on.settled)
            (subst (λ (n : ℕ). standing new n ≡ settled (reads new n)) (sym named.file) (step.durable ∙ ap settled (sym (step.settles.same at)))));
      }

  -- the whole database
  pub back_done : (links next : List Link) (at : ℕ) (asked : Option (ℕ × ℕ)) (d : D) (old mid new : History) → GoesBack m file links at asked old mid
      → (let result : Result (Step D) ChainRefused = Ok (Base d) in StepsBack m at asked links next result mid new) → (let result : Result D ChainRefused = Ok d in WentBack m file next result old new)
  back_done links next at asked d old mid new on step =
      let reads_same : reads mid ≡ reads old = fun_ext on.settles.same in
      let steps : StepsTo m (reads old) at asked links (Base d) next = subst (λ (f : ℕ → List ℕ). StepsTo m f at asked links (Base d) next) reads_same step.steps in
      let leads = confirmed {m = m} law (reads old) file links at steps.0 (Whole d) asked on.leads steps.1 steps.2 in
      record {
        settles = settles_then old mid new on.settles step.settles;
        leads = record {
          at = at;
          number = steps.0;
          increments = [];
          leads = subst (λ (l : List Link). Leads m (reads old) file l at) (sym steps.3) leads;
          links_settled = subst (AllByRecursion (IsLinkSettled new)) (sym steps.3) (all_stay at links mid new step.goes (step.settles.same at) step.durable on.settled);
          gives = steps.1;
          settled = step.durable ∙ ap settled (sym (step.settles.same at));
        };
        says = tt;
      }

  pub back_failed : (links next : List Link) (at : ℕ) (asked : Option (ℕ × ℕ)) (why : ChainRefused) (old mid new : History) → GoesBack m file links at asked old mid
      → (let result : Result (Step D) ChainRefused = Err why in StepsBack m at asked links next result mid new) → (let result : Result D ChainRefused = Err why in WentBack m file next result old new)
  back_failed links next at asked why old mid new on step =
      let reads_same : reads mid ≡ reads old = fun_ext on.settles.same in
      record {
        settles = settles_then old mid new on.settles step.settles;
        leads = tt;
        says = says_broken {m = m} law (reads old) file links at asked why on.leads (subst (λ (f : ℕ → List ℕ). SaysStray m f at asked why) reads_same step.says);
      }

-- ---- the chain

module _ {D : Type 0} (m : Meaning D) (file : ℕ) where
  pub chain_failed : (links : List Link) (why : ChainRefused) (old new : History) → (let result : Result D ChainRefused = Err why in WentBack m file links result old new) → (let result : Result D ChainRefused = Err why in ReadChain m file result old new)
  chain_failed links why old new back = record { settles = back.settles; gives = tt; says = back.says }

  given : (links : List Link) (base d : D) (old new : History) → LeadsTo m file links base old new → Comes m links base [] d → IsReadFrom m file d old new
  given links base d old new to comes =
      let ahead = comes (reads old) file to.at to.number to.increments to.leads to.gives in
      let settled = ahead.settled new to.links_settled to.settled in
      record {
        given = record { number = ahead.number; increments = ahead.increments; gives = subst (λ (n : ℕ). Gives m (reads old) n ahead.number ahead.increments d) ahead.leads ahead.gives };
        settled = subst (λ (n : ℕ). AreSettled n ahead.increments new) ahead.leads settled.1;
      }

  says_where : (links : List Link) (base : D) (why : ChainRefused) (old new : History) → LeadsTo m file links base old new → (let result : Result D ChainRefused = Err why in GoesForward m links base result) → SaysBroken m (reads old) file why
  says_where links base (refused.NotABackup which) old new to forward =
      (let fails = forward (reads old) file to.at to.number to.increments to.leads to.gives in inr (fails.0, fails.1, fails.2))
  says_where links base (refused.ReadFault which) old new to forward = tt
  says_where links base refused.RunFull old new to forward = tt
  says_where links base refused.Memory old new to forward = tt

  pub chain_read : (links : List Link) (base : D) (result : Result D ChainRefused) (old new : History) → (let back : Result D ChainRefused = Ok base in WentBack m file links back old new) → GoesForward m links base result → ReadChain m file result old new
  chain_read links base (Ok d) old new back forward = record { settles = back.settles; gives = given links base d old new back.leads forward; says = tt }
  chain_read links base (Err why) old new back forward = record { settles = back.settles; gives = tt; says = says_where links base why old new back.leads forward }

-- why going forward may be refused
pub forward_refused : {D : Type 0} (m : Meaning D) (links : List Link) (base : D) (before after : ℕ → ℕ) (moment : ℕ) (result : Result D ChainRefused) → GoesForward m links base result → IfErr result (MayRefuseChain before after moment)
forward_refused m links base before after moment (Ok d) forward = tt
forward_refused m links base before after moment (Err (refused.NotABackup which)) forward = tt
forward_refused m links base before after moment (Err (refused.ReadFault which)) forward = absurd forward
forward_refused m links base before after moment (Err refused.RunFull) forward = absurd forward
forward_refused m links base before after moment (Err refused.Memory) forward = tt
