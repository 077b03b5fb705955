-- What a migration leaves in the pool where it began.
use Rattle.std.proofs.Common.{◌≡◌, ◌⊎◌, inl, inr, ℕ, ◌+◌, ◌≤◌, ◌==◌, zero, suc, Bool, true, false, List, [], ◌∷◌, ◌++◌, filter, Option, Some, None, Result, Ok, Err, refl, sym, ap, ap₂, subst, ◌∙◌, arith, append_assoc, if◌then◌else◌}
use Rattle.std.proofs.lemmas.Bool.{eq-eqb, false≢true}
use Rattle.std.proofs.lemmas.List.{append-nil}
use Rattle.std.proofs.lemmas.List.Elements.{filter-append}
use Rattle.std.specs.List.{AllByRecursion, flat_map, remove, slice_get}
use Rattle.kinds.specs.declared.refusal.Refusal.{Refusal}
use Rattle.kinds.specs.declared.refusal.Refusal.TheVariants as refused
use Rattle.choosers.specs.declared.candidate.Candidate.{Candidate}
use Rattle.inventory_answers.specs.Stores.{pool_lines}
use Rattle.inventory_answers.specs.declared.query.Query.{Query}
use Rattle.inventory_answers.specs.declared.query.Query.TheVariants as query
use Rattle.inventory_answers.specs.declared.reply.Answer.{Answer}
use Rattle.inventory_answers.specs.declared.reply.Rows.{Rows}
use Rattle.inventory_answers.specs.declared.reply.Rows.TheVariants as rows
use Rattle.inventory_work.specs.declared.lines.CopyLine.{CopyLine}
use Rattle.inventory_work.specs.Copies.{has_pool}
use Rattle.inventory_rows.specs.pool_rows.Shares.{percent_at_most}
use Rattle.inventory_rows.specs.version_groups.declared.copies.CopyRow.{CopyRow}
use Rattle.inventory_rows.specs.version_groups.Entries.{is_nil, on_ok}
use Rattle.inventory_rows.specs.State.{Inv}
use Rattle.space.specs.declared.aim.Aim.{Aim}
use Rattle.space.specs.declared.aim.Aim.TheVariants as aim
use Rattle.steps.specs.Events.{Event, event}
use Rattle.steps.specs.Events.Deed.{Ask, Force}
use Rattle.entries.specs.declared.change.Change.{Change}
use Rattle.machine.specs.Fits.{Fits, History, Nothing, Own, Step, inv, last, number_after}
use Rattle.machine.specs.Machine.{IsAnswer}
use Rattle.machine.specs.Says.{Says}
use Rattle.machine.proofs.Runs.{fits-cut, fits-first, fits-one, fits-rises, fits-step, fits-within}
use Rattle.copy_pools.proofs.Missing.{asked-pools}
use Rattle.copy_runs.specs.declared.wanted.Moved.{Moved}
use Rattle.copy_runs.specs.declared.wanted.Wanted.{Wanted}
use Rattle.copy_runs.specs.Ends.{first_of, last_of}
use Rattle.copy_runs.specs.Parts.{Part}
use Rattle.copy_runs.specs.Returning.{AreValid, Holds, is_kept}
use Rattle.copy_runs.specs.Runs.{IsDone, Run, is_among}
use Rattle.copy_runs.specs.Wanting.{IsIn, IsPast, is_wanted}
use Rattle.copy_runs.proofs.Listing.{HasLine, copy-listed, lines_of_copies}
use Rattle.copy_runs.proofs.Returning.{held-all-along, held-wanted, placed-past}
use Rattle.copy_runs.proofs.Told.{reaches}
use Rattle.migration.specs.Marks.{Looked}
use Rattle.migration.specs.Migrating.{IsForced, IsMigrated, asked_last, is_question}
use Rattle.migration.specs.Turns.{AreTried, Filled, FilledFrom, IsLow, IsOver, IsPicked, Lowered, Picks, Rest, Turned, Turns, candidate, candidates_of, listed, moving, placings_of, unasked, without}
use Rattle.migration.proofs.Marking.{low-by}

-- ---- the numbers

-- the actor as it is where its first step is made
abbrev from_number : ℕ → Own → Own
from_number n a = record { reached = n; tickets = a.tickets; image = a.image }

step-from : (w : History) (actor : ℕ) (a b : Own) (e : Event) → Step w actor a e b → Step w actor (from_number e.n a) e b
step-from w actor a b e s = record {
  since = omega arith;
  begun = s.begun;
  within = s.within;
  next_file = s.next_file;
  says = s.says;
  joined = s.joined;
  joins = s.joins;
  joins_at = s.joins_at;
  stored = s.stored;
  has = s.has;
}

fits-from : (w : History) (actor : ℕ) (a b : Own) (e : Event) (events : List Event) → Fits w actor a (e ∷ events) b → Fits w actor (from_number e.n a) (e ∷ events) b
fits-from w actor a b e events f = let r = fits-first w actor a b e events f in fits-step w actor (from_number e.n a) r.0 b e events (step-from w actor a r.0 e r.1) r.2

-- a question joins nothing
asked-reached : (w : History) (actor : ℕ) (a b : Own) (n : ℕ) (q : Query) (answer : Result Answer Refusal) → Step w actor a (event n (Ask q answer)) b → b.reached ≡ n
asked-reached w actor a b n q answer s = s.has.reached ∙ ap (number_after n) (nothing s.joined s.joins) where
  nothing : (o : Option Change) → Nothing o → o ≡ None
  nothing None h = refl
  nothing (Some c) h = absurd h

last-one : (xs : List Event) (y : Event) → last_of (xs ++ y ∷ []) ≡ y.n
last-one [] y = refl
last-one (x ∷ []) y = refl
last-one (x ∷ k ∷ xs) y = last-one (k ∷ xs) y

-- the last question before the force
asked-before : (xs : List Event) (n m number : ℕ) (q : Query) (answer : Result Answer Refusal) → asked_last (xs ++ (event n (Ask q answer) ∷ event m (Force (Ok number)) ∷ [])) ≡ n
asked-before xs n m number q answer =
    ap last_of (filter-append (λ (e : Event). is_question e.deed) xs (event n (Ask q answer) ∷ event m (Force (Ok number)) ∷ []))
    ∙ last-one (filter (λ (e : Event). is_question e.deed) xs) (event n (Ask q answer))

-- ---- what was answered

abbrev rows_told : Result Answer Refusal → Rows
rows_told (Ok a) = a.rows
rows_told (Err e) = rows.Today

abbrev answer_of : Inv → Result (List CopyLine) Refusal → Result Answer Refusal
answer_of v r = on_ok (λ (x : Rows). record { n = v.number; today = v.today; rows = x }) (on_ok rows.OnPool r)

told-copies : (v : Inv) (b : Bool) (xs : List CopyLine) (told : Answer) → answer_of v (if b then Ok xs else Err refused.NotFound) ≡ Ok told → told.rows ≡ rows.OnPool xs
told-copies v true xs told h = sym (ap rows_told h)
told-copies v false xs told h = absurd cc

abbrev in_pool : ℕ → CopyRow → Bool
in_pool pool c = c.pool == pool

told-in : (log_length pool : ℕ) (v : Inv) (answer : Answer) (lines : List CopyLine) → IsAnswer log_length (query.OnPool pool) v answer → answer.rows ≡ rows.OnPool lines → lines ≡ lines_of_copies (in_pool pool) v
told-in log_length pool v answer lines h is =
    let told : h.0.rows ≡ rows.OnPool (lines_of_copies (in_pool pool) v) = told-copies v (has_pool pool v) (lines_of_copies (in_pool pool) v) h.0 h.1 in
    let both : rows.OnPool lines ≡ rows.OnPool (lines_of_copies (in_pool pool) v) = sym is ∙ ap (λ (x : Answer). x.rows) h.2 ∙ told in
    cc

pub asked-pool : (w : History) (actor : ℕ) (a b : Own) (n pool : ℕ) (answer : Answer) (lines : List CopyLine) → Step w actor a (event n (Ask (query.OnPool pool) (Ok answer))) b
    → answer.rows ≡ rows.OnPool lines → lines ≡ lines_of_copies (in_pool pool) (inv w n)
unfolding Says
asked-pool w actor a b n pool answer lines s is = told-in s.says.1.0 pool (inv w n) answer lines s.says.1.1 is

-- ---- a copy that is left to be tried

-- it is at one of the places
abbrev IsLeft : (object placed : ℕ) → Rest → Type 0
IsLeft object placed r = (place : ℕ) × (c : Candidate) × (c.object ≡ object) × (slice_get r.candidates place ≡ Some c) × (slice_get r.placed place ≡ Some placed)

line-left : (lines : List CopyLine) (l : CopyLine) → IsIn l lines
    → (place : ℕ) × (slice_get (flat_map (candidates_of None) lines) place ≡ Some (candidate l)) × (slice_get (flat_map (placings_of None) lines) place ≡ Some l.placed)
line-left [] l h = absurd h
line-left (k ∷ lines) l (inl is) = (zero, ap (λ (x : CopyLine). Some (candidate x)) is, ap (λ (x : CopyLine). Some x.placed) is)
line-left (k ∷ lines) l (inr h) = let r = line-left lines l h in (suc r.0, r.1, r.2)

listed-left : (object number : ℕ) (copy : CopyRow) (lines : List CopyLine) → HasLine object copy lines → IsLeft object copy.placed (listed number None lines)
listed-left object number copy lines h =
    let r = line-left lines h.0 h.2 in
    (r.0, candidate h.0, h.1.0, r.1, r.2 ∙ ap Some h.1.2)

-- an element behind the removal of one: it was that one, or it has a place again, as the one of the other list at its place has
kept : {A B : Type 0} (cs : List A) (ps : List B) (i j : ℕ) (c : A) (p : B) → slice_get cs i ≡ Some c → slice_get ps i ≡ Some p
    → (i ≡ j) ⊎ ((k : ℕ) × (slice_get (remove cs j) k ≡ Some c) × (slice_get (remove ps j) k ≡ Some p))
kept [] ps i j c p h g = absurd cc
kept (d ∷ cs) [] i j c p h g = absurd cc
kept (d ∷ cs) (q ∷ ps) zero zero c p h g = inl refl
kept (d ∷ cs) (q ∷ ps) zero (suc j) c p h g = inr (zero, h, g)
kept (d ∷ cs) (q ∷ ps) (suc i) zero c p h g = inr (i, h, g)
kept {A} {B} (d ∷ cs) (q ∷ ps) (suc i) (suc j) c p h g =
    elim (kept cs ps i j c p h g) as (λ _. (suc i ≡ suc j) ⊎ ((k : ℕ) × (slice_get (remove (d ∷ cs) (suc j)) k ≡ Some c) × (slice_get (remove (q ∷ ps) (suc j)) k ≡ Some p))) [
      | inl same ↦ inl (ap suc same)
      | inr r ↦ inr (suc r.0, r.1, r.2)
    ]

some-same : {A : Type 0} (x y : A) → Some x ≡ Some y → x ≡ y
some-same x y h = cc

-- the move of this copy
abbrev IsMoveOf : (pool object placed : ℕ) → Wanted → Type 0
IsMoveOf pool object placed x = (to : ℕ) × (x.object ≡ object) × (x.aim ≡ aim.Move pool placed to true)

picked-or-left : (picks : Picks) (pool to object placed : ℕ) (q s : Rest) (x : Wanted) → IsLeft object placed q → IsPicked picks pool to q s x → IsMoveOf pool object placed x ⊎ IsLeft object placed s
picked-or-left picks pool to object placed q s x l h =
    elim (kept q.candidates q.placed l.0 h.0 l.1 placed l.3 l.4) as (λ _. IsMoveOf pool object placed x ⊎ IsLeft object placed s) [
      | inl same ↦ (
          let c_is : l.1 ≡ h.1 = some-same l.1 h.1 (sym l.3 ∙ ap (slice_get q.candidates) same ∙ h.4) in
          let p_is : placed ≡ h.2 = some-same placed h.2 (sym l.4 ∙ ap (slice_get q.placed) same ∙ h.5) in
          inl (to, ap (λ (y : Wanted). y.object) h.7 ∙ ap (λ (c : Candidate). c.object) (sym c_is) ∙ l.2, ap (λ (y : Wanted). y.aim) h.7 ∙ ap (λ (n : ℕ). aim.Move pool n to true) (sym p_is)))
      | inr r ↦ inr (subst (IsLeft object placed) (sym h.6) (r.0, l.1, l.2, r.1, r.2))
    ]

not-none : (object placed : ℕ) (r : Rest) → IsLeft object placed r → is_nil r.candidates ≡ false
not-none object placed r l = go r.candidates l.3 where
  go : (cs : List Candidate) → slice_get cs l.0 ≡ Some l.1 → is_nil cs ≡ false
  go [] h = absurd cc
  go (c ∷ cs) h = refl

-- what was left of the last list stays where some is
still-there : (pool : ℕ) (r q : Rest) (empty : Bool) (events : List Event) → empty ≡ false → Filled empty pool r events q → q ≡ r
still-there pool r q true events h f = absurd cc
still-there pool r q false events h f = f.1

-- where none is left in the end, each that was left was tried
tried-of : (picks : Picks) (pool low object placed : ℕ) (r s : Rest) (wanted : List Wanted) (events : List Event) → IsLeft object placed r → Turns picks pool low r s wanted events → is_nil s.candidates ≡ true
    → (x : Wanted) × IsIn x wanted × IsMoveOf pool object placed x
tried-of picks pool low object placed r s [] events l h none =
    absurd (false≢true (sym (not-none object placed r l) ∙ ap (λ (k : Rest). is_nil k.candidates) (sym h.1) ∙ none))
tried-of picks pool low object placed r s (y ∷ wanted) events l h none =
    let t = h.2.3 in
    let same : t.1 ≡ r = still-there pool r t.1 (is_nil r.candidates) t.3.4.0 (not-none object placed r l) t.3.4.3 in
    elim (picked-or-left picks pool t.0 object placed t.1 h.0 y (subst (IsLeft object placed) (sym same) l) t.2) as (λ _. (x : Wanted) × IsIn x (y ∷ wanted) × IsMoveOf pool object placed x) [
      | inl is ↦ (y, inl refl, is)
      | inr left ↦ (let k = tried-of picks pool low object placed h.0 s wanted h.2.1 left h.2.4 none in (k.0, inr k.1, k.2))
    ]

-- ---- the row

no-nil : (xs ys : List Event) (y : Event) → [] ≡ xs ++ (ys ++ y ∷ []) → ⊥
no-nil [] [] y h = cc
no-nil [] (k ∷ ys) y h = cc
no-nil (x ∷ xs) ys y h = cc

-- the copy is still there where the copies in its pool are asked for, and so it is left to be tried
asked-left : (w : History) (actor : ℕ) (a b : Own) (pool object : ℕ) (copy : CopyRow) (events : List Event) (q : Rest) → copy.pool ≡ pool → (f : FilledFrom pool None events q) → Fits w actor a events b
    → Holds object copy (inv w f.2.0) → IsLeft object copy.placed q
asked-left w actor a b pool object copy events q in_it f fits there =
    let s : Step w actor a (event f.2.0 (Ask (query.OnPool pool) (Ok f.0))) b =
    fits-one w actor a b (event f.2.0 (Ask (query.OnPool pool) (Ok f.0))) (subst (λ (es : List Event). Fits w actor a es b) f.2.1 fits) in
    let lines : f.1 ≡ lines_of_copies (in_pool pool) (inv w f.2.0) = asked-pool w actor a b f.2.0 pool f.0 f.1 s f.3 in
    subst (IsLeft object copy.placed) (sym f.4)
    (listed-left object f.0.n copy f.1
    (subst (λ (ls : List CopyLine). HasLine object copy ls) (sym lines) (copy-listed (in_pool pool) object copy (inv w f.2.0) there (eq-eqb copy.pool pool in_it))))

asked-within : (w : History) (actor : ℕ) (a b : Own) (pool : ℕ) (events : List Event) (q : Rest) (seen : Option ℕ) → (f : FilledFrom pool seen events q) → Fits w actor a events b
    → (a.reached ≤ f.2.0) × (f.2.0 ≤ b.reached)
asked-within w actor a b pool events q seen f fits =
    let s : Step w actor a (event f.2.0 (Ask (query.OnPool pool) (Ok f.0))) b =
    fits-one w actor a b (event f.2.0 (Ask (query.OnPool pool) (Ok f.0))) (subst (λ (es : List Event). Fits w actor a es b) f.2.1 fits) in
    (s.since, reaches w actor a b (event f.2.0 (Ask (query.OnPool pool) (Ok f.0))) s)

-- a copy that is held at each number that is reached, and left in the end, was tried
tried-at-last : (w : History) (actor : ℕ) (a b : Own) (picks : Picks) (pool low object : ℕ) (copy : CopyRow) (left : Rest) (wanted : List Wanted) (us ys : List Event) → copy.pool ≡ pool
    → Turns picks pool low unasked left wanted us → AreTried pool low left ys → Fits w actor a (us ++ ys) b → ((n : ℕ) → a.reached ≤ n → n ≤ b.reached → Holds object copy (inv w n))
    → (x : Wanted) × IsIn x wanted × IsMoveOf pool object copy.placed x
tried-at-last w actor a b picks pool low object copy left [] us ys in_it h t f held =
    let r = fits-cut w actor a b us ys f in
    let k = fits-cut w actor r.0 b t.4.0 t.4.1 (subst (λ (es : List Event). Fits w actor r.0 es b) t.4.2 r.2) in
    let one : FilledFrom pool None t.4.1 t.1 = subst (λ (l : Rest). FilledFrom pool l.seen t.4.1 t.1) h.1 t.4.4 in
    let within = asked-within w actor k.0 b pool t.4.1 t.1 None one k.2 in
    let first : a.reached ≤ r.0.reached = fits-rises w actor a r.0 us r.1 in
    let next : r.0.reached ≤ k.0.reached = fits-rises w actor r.0 k.0 t.4.0 k.1 in
    let low_then : k.0.reached ≤ one.2.0 = within.0 in
    let l : IsLeft object copy.placed t.1 = asked-left w actor k.0 b pool object copy t.4.1 t.1 in_it one k.2 (held one.2.0 (omega arith) within.1) in
    absurd (false≢true (sym (not-none object copy.placed t.1 l) ∙ t.3))
tried-at-last w actor a b picks pool low object copy left (y ∷ wanted) us ys in_it h t f held =
    let r = fits-cut w actor a b us ys f in
    let g = h.2.3 in
    let c = fits-cut w actor a r.0 h.2.0 h.2.1 (subst (λ (es : List Event). Fits w actor a es r.0) h.2.2 r.1) in
    let d = fits-cut w actor a c.0 g.3.0 g.3.1 (subst (λ (es : List Event). Fits w actor a es c.0) g.3.2 c.1) in
    let e = fits-cut w actor d.0 c.0 g.3.4.0 g.3.4.1 (subst (λ (es : List Event). Fits w actor d.0 es c.0) g.3.4.2 d.2) in
    let within = asked-within w actor d.0 e.0 pool g.3.4.0 g.1 None g.3.4.3 e.1 in
    let one : a.reached ≤ d.0.reached = fits-rises w actor a d.0 g.3.0 d.1 in
    let two : e.0.reached ≤ c.0.reached = fits-rises w actor e.0 c.0 g.3.4.1 e.2 in
    let three : c.0.reached ≤ r.0.reached = fits-rises w actor c.0 r.0 h.2.1 c.2 in
    let four : r.0.reached ≤ b.reached = fits-rises w actor r.0 b ys r.2 in
    let low_then : d.0.reached ≤ g.3.4.3.2.0 = within.0 in
    let high_then : g.3.4.3.2.0 ≤ e.0.reached = within.1 in
    let l : IsLeft object copy.placed g.1 = asked-left w actor d.0 e.0 pool object copy g.3.4.0 g.1 in_it g.3.4.3 e.1 (held g.3.4.3.2.0 (omega arith) (omega arith)) in
    elim (picked-or-left picks pool g.0 object copy.placed g.1 h.0 y l g.2) as (λ _. (x : Wanted) × IsIn x (y ∷ wanted) × IsMoveOf pool object copy.placed x) [
      | inl is ↦ (y, inl refl, is)
      | inr still ↦ (let k = tried-of picks pool low object copy.placed h.0 left wanted h.2.1 still h.2.4 t.2 in (k.0, inr k.1, k.2))
    ]

-- the copy's object is counted as failed, where the copy is held at each number that is reached
failed-of : (w : History) (actor : ℕ) (a b : Own) (picks : Picks) (pool low object : ℕ) (copy : CopyRow) (left : Rest) (wanted : List Wanted) (m : Moved) (xs us ys : List Event) → xs ≡ us ++ ys
    → copy.pool ≡ pool → copy.placed ≤ a.reached → a.tickets ≡ [] → Turns picks pool low unasked left wanted us → AreTried pool low left ys → (p : Part wanted 0 xs m) → Fits w actor a xs b
    → ((n : ℕ) → a.reached ≤ n → n ≤ b.reached → Holds object copy (inv w n)) → is_among object p.done.failed ≡ true
failed-of w actor a b picks pool low object copy left wanted m xs us ys is in_it past none h t p f held =
    let x = tried-at-last w actor a b picks pool low object copy left wanted us ys in_it h t (subst (λ (es : List Event). Fits w actor a es b) is f) held in
    subst (λ (n : ℕ). is_among n p.done.failed ≡ true) x.2.1
    (p.done.done w actor a b none f x.0 x.1 (subst (IsPast a.reached) (sym x.2.2) past)
    (λ n low_then high. ap₂ (λ (to : Aim) (k : ℕ). is_wanted to k (inv w n)) x.2.2 x.2.1
    ∙ ap (λ (k : ℕ). is_wanted (aim.Move k copy.placed x.2.0 true) object (inv w n)) (sym in_it) ∙ held-wanted object copy (inv w n) x.2.0 true (held n low_then high)))

-- nothing comes behind the last question, or all was forced
abbrev pub IsTail : List Event → Type 0
IsTail zs = (zs ≡ []) ⊎ IsForced zs

-- the number of the last question
last-question : (us ys zs ks : List Event) (n : ℕ) (q : Query) (answer : Result Answer Refusal) → ys ≡ ks ++ event n (Ask q answer) ∷ [] → IsTail zs → asked_last ((us ++ ys) ++ zs) ≡ n
last-question us ys zs ks n q answer is (inl none) =
    ap asked_last (ap₂ (λ (es fs : List Event). (us ++ es) ++ fs) is none ∙ append-nil (us ++ (ks ++ event n (Ask q answer) ∷ [])) ∙ sym (append_assoc us ks (event n (Ask q answer) ∷ [])))
    ∙ ap last_of (filter-append (λ (e : Event). is_question e.deed) (us ++ ks) (event n (Ask q answer) ∷ []))
    ∙ last-one (filter (λ (e : Event). is_question e.deed) (us ++ ks)) (event n (Ask q answer))
last-question us ys zs ks n q answer is (inr forced) =
    ap asked_last
    (ap₂ (λ (es fs : List Event). (us ++ es) ++ fs) is forced.2
    ∙ append_assoc us (ks ++ event n (Ask q answer) ∷ []) (event forced.0 (Force (Ok forced.1)) ∷ [])
    ∙ ap (λ (es : List Event). us ++ es) (append_assoc ks (event n (Ask q answer) ∷ []) (event forced.0 (Force (Ok forced.1)) ∷ []))
    ∙ sym (append_assoc us ks (event n (Ask q answer) ∷ event forced.0 (Force (Ok forced.1)) ∷ [])))
    ∙ asked-before (us ++ ks) n forced.0 forced.1 q answer

low-row : (w : History) (actor : ℕ) (a b : Own) (pool low : ℕ) (ys : List Event) → (h : IsLow pool low ys) → Fits w actor a ys b → percent_at_most pool low (inv w h.1.0).stores ≡ true
low-row w actor a b pool low ys h f =
    let s : Step w actor a (event h.1.0 (Ask (query.Pools None) (Ok h.1.1))) b =
    fits-one w actor a b (event h.1.0 (Ask (query.Pools None) (Ok h.1.1))) (subst (λ (es : List Event). Fits w actor a es b) h.1.2 f) in
    low-by pool low (inv w h.1.0).stores h.0 (asked-pools w actor a b h.1.0 h.1.1 h.0 s h.1.3) h.2

abbrev Leaves : History → (pool low : ℕ) → (failed : List ℕ) → (first last : ℕ) → Type 0
Leaves w pool low failed first last =
    (percent_at_most pool low (inv w last).stores ≡ true)
    ⊎ ((object : ℕ) (copy : CopyRow) → Holds object copy (inv w first) → copy.pool ≡ pool → (is_among object failed ≡ true) ⊎ (is_kept object copy (inv w last) ≡ false))

over-row : (w : History) (actor : ℕ) (a b : Own) (picks : Picks) (pool low : ℕ) (left : Rest) (wanted : List Wanted) (m : Moved) (xs us ys zs : List Event) → xs ≡ us ++ ys → AreValid w → a.tickets ≡ []
    → w.base.number ≤ a.reached → b.reached ≤ last w → Turns picks pool low unasked left wanted us → (p : Part wanted 0 xs m) → Fits w actor a xs b → IsTail zs → IsOver pool low left ys
    → Leaves w pool low p.done.failed a.reached (asked_last (xs ++ zs))
over-row w actor a b picks pool low left wanted m xs us ys zs same valid none begun within h p f forced (inl o) =
    let r = fits-cut w actor a b us ys (subst (λ (es : List Event). Fits w actor a es b) same f) in
    let is : asked_last (xs ++ zs) ≡ o.1.0 = ap (λ (es : List Event). asked_last (es ++ zs)) same ∙ last-question us ys zs [] o.1.0 (query.Pools None) (Ok o.1.1) o.1.2 forced in
    inl (subst (λ (n : ℕ). percent_at_most pool low (inv w n).stores ≡ true) (sym is) (low-row w actor r.0 b pool low ys o r.2))
over-row w actor a b picks pool low left wanted m xs us ys zs same valid none begun within h p f forced (inr t) =
    let n : ℕ = t.4.4.2.0 in
    let is : asked_last (xs ++ zs) ≡ n =
    ap (λ (es : List Event). asked_last (es ++ zs)) same
    ∙ last-question us ys zs t.4.0 n (query.OnPool pool) (Ok t.4.4.0) (t.4.2 ∙ ap (λ (es : List Event). t.4.0 ++ es) t.4.4.2.1) forced in
    let r = fits-cut w actor a b us ys (subst (λ (es : List Event). Fits w actor a es b) same f) in
    let k = fits-cut w actor r.0 b t.4.0 t.4.1 (subst (λ (es : List Event). Fits w actor r.0 es b) t.4.2 r.2) in
    let s : Step w actor k.0 (event n (Ask (query.OnPool pool) (Ok t.4.4.0))) b =
    fits-one w actor k.0 b (event n (Ask (query.OnPool pool) (Ok t.4.4.0))) (subst (λ (es : List Event). Fits w actor k.0 es b) t.4.4.2.1 k.2) in
    let at : b.reached ≡ n = asked-reached w actor k.0 b n (query.OnPool pool) (Ok t.4.4.0) s in
    let rise : a.reached ≤ b.reached = fits-rises w actor a b xs f in
    let upto : a.reached ≤ n = omega arith in
    let high : n ≤ last w = omega arith in
    let low_then : a.reached ≤ last w = omega arith in
    inr (λ object copy there in_it. subst (λ (l : ℕ). (is_among object p.done.failed ≡ true) ⊎ (is_kept object copy (inv w l) ≡ false)) (sym is)
    (elim (is_kept object copy (inv w n)) as (λ b0. is_kept object copy (inv w n) ≡ b0 → (is_among object p.done.failed ≡ true) ⊎ (b0 ≡ false)) [
      | false ↦ λ gone. inr refl
      | true ↦ λ still. inl (failed-of w actor a b picks pool low object copy left wanted m xs us ys same in_it (placed-past w a.reached object copy valid begun low_then there) none h t p f
          (λ i low_i high_i. held-all-along w object copy a.reached n valid begun upto high there still i low_i (subst (λ (e : ℕ). i ≤ e) at high_i)))
    ] refl))

one-last : (pool low : ℕ) (left : Rest) (ys : List Event) → IsOver pool low left ys → (ks : List Event) × (y : Event) × (ys ≡ ks ++ y ∷ [])
one-last pool low left ys (inl o) = ([], event o.1.0 (Ask (query.Pools None) (Ok o.1.1)), o.1.2)
one-last pool low left ys (inr t) = (t.4.0, event t.4.4.2.0 (Ask (query.OnPool pool) (Ok t.4.4.0)), t.4.2 ∙ ap (λ (es : List Event). t.4.0 ++ es) t.4.4.2.1)

pub row-of : (picks : Picks) (pool low : ℕ) (wanted : List Wanted) (m : Moved) (xs zs : List Event) → Lowered picks pool low wanted xs → (p : Part wanted 0 xs m) → IsTail zs
    → IsMigrated pool low p.done.failed (xs ++ zs)
row-of picks pool low wanted m [] zs o p tail w actor a b valid none f =
    let e = one-last pool low o.0 o.1.1 o.1.4 in
    absurd (no-nil o.1.0 e.0 e.1 (o.1.2 ∙ ap (λ (es : List Event). o.1.0 ++ es) e.2))
row-of picks pool low wanted m (x ∷ xs) zs o p tail w actor a b valid none f =
    let g = fits-from w actor a b x (xs ++ zs) f in
    let r = fits-cut w actor (from_number x.n a) b (x ∷ xs) zs g in
    let s = fits-first w actor a b x (xs ++ zs) f in
    over-row w actor (from_number x.n a) r.0 picks pool low o.0 wanted m (x ∷ xs) o.1.0 o.1.1 zs o.1.2 valid none s.1.begun (fits-within w actor (from_number x.n a) r.0 (x ∷ xs) s.1.within r.1) o.1.3 p r.1
    tail o.1.4
