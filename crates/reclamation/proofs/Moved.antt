-- What a move came to.
use Rattle.std.proofs.Common.{◌≡◌, ◌⊎◌, inl, inr, ℕ, ◌+◌, ◌-◌, ◌^◌, ◌≤◌, ◌==◌, Bool, true, false, List, [], ◌∷◌, ◌++◌, map, None, Result, Ok, Err, IfOk, refl, sym, ap, ap₂, subst, ◌∙◌, arith, Option, Some, if◌then◌else◌}
use Rattle.std.proofs.lemmas.List.{append-nil}
use Rattle.kinds.specs.Refusals.{number_of}
use Rattle.kinds.specs.declared.pool.PoolKind.{PoolKind}
use Rattle.kinds.specs.declared.pool.PoolKind.TheVariants as kind
use Rattle.kinds.specs.declared.refusal.Holder.{Holder}
use Rattle.kinds.specs.declared.refusal.Refusal.{Refusal}
use Rattle.kinds.specs.declared.refusal.Refusal.TheVariants as refused
use Rattle.inventory_answers.specs.declared.lines.PoolLine.{PoolLine}
use Rattle.inventory_answers.specs.declared.lines.VolumeLine.{VolumeLine}
use Rattle.inventory_answers.specs.declared.query.Query.TheVariants as query
use Rattle.inventory_answers.specs.declared.reply.Answer.{Answer}
use Rattle.inventory_answers.specs.declared.reply.Rows.TheVariants as rows
use Rattle.inventory_answers.specs.Stores.{pool_lines, volume_lines}
use Rattle.inventory_rows.specs.Search.{lies_on}
use Rattle.inventory_work.specs.declared.lines.CopyLine.{CopyLine}
use Rattle.space.specs.declared.aim.Aim.TheVariants as aim
use Rattle.steps.proofs.Joining.{GoesOn, call_then}
use Rattle.steps.specs.Calls.{Call, risen}
use Rattle.steps.specs.Events.{Event, event, Deed}
use Rattle.steps.specs.Events.Deed.{Ask}
use Rattle.machine.specs.Fits.{Step, inv, last}
use Rattle.machine.proofs.Runs.{fits-first}
use Rattle.copy_attempts.proofs.Facts.{all-append, met-before, met-behind}
use Rattle.copy_attempts.specs.Outcomes.{MetBy}
use Rattle.copy_pools.specs.Backups.{kind_of}
use Rattle.copy_runs.specs.declared.wanted.Moved.{Moved}
use Rattle.copy_runs.specs.declared.wanted.Wanted.{Wanted}
use Rattle.copy_runs.specs.Ends.{AreAsking, IsStopped, last_of, IsUnheld}
use Rattle.copy_runs.specs.Processes.{Completes, Ended, IsDoneAllAlong, Process}
use Rattle.copy_runs.specs.Returning.{is_kept}
use Rattle.copy_runs.specs.Runs.{IsCausedByOne, is_among}
use Rattle.copy_runs.specs.Tickets.{ListsCopy}
use Rattle.copy_runs.specs.Wanting.{IsIn, is_wanted}
use Rattle.copy_runs.proofs.Entries.{enters-append, unmade-enters}
use Rattle.copy_runs.proofs.Listing.{copy-listed}
use Rattle.copy_runs.proofs.Returning.{held-all-along, held-wanted, placed-past}
use Rattle.copy_runs.proofs.Risen.{call-rises}
use Rattle.copy_runs.proofs.Tickets.{AreListed, lists-all}
use Rattle.copy_runs.proofs.Told.{reaches}
use Rattle.copy_runs.proofs.Unheld.{asking-unheld, other-unheld}
use Rattle.copy_runs.proofs.Whole.{IsBegun, Told as ToldOfRun, asks-begun, asks-unmade, process-told}
use Rattle.copy_pools.proofs.Missing.{asked-pools}
use Rattle.reclamation.specs.Moving.{Allows, Begins, DataMove, GoesSo, IsAllowed, IsBarred, IsMovedOff, IsMoving, IsRefused, Listed, Told, goes, into, moving, TellsSo, both_primary, goes_from, home_of}
use Rattle.reclamation.proofs.Beginning.{begins-asks}
use Rattle.reclamation.proofs.Listing.{asked-copies, asked-volumes, copies_on}
use Rattle.reclamation.proofs.Moves.{AreMoves, all-moves, asking-moving, caused, each-failed, entries-off, first-is, last-later, last-within, moving-in, only-moving}

-- ---- the row

by-end : (b : Bool) (failed : Bool) → (b ≡ true → failed ≡ true) → (failed ≡ true) ⊎ (b ≡ false)
by-end true failed h = inl (h refl)
by-end false failed h = inr refl

row-of : (file to : ℕ) (x : Event) (rest : List Event) (lines : List CopyLine) (failed : List ℕ) → Listed file (x ∷ []) lines → IsDoneAllAlong (map (moving to) lines) failed (x ∷ rest)
    → IsMovedOff file failed (x ∷ rest)
row-of file to x rest lines failed h done w actor a b valid none f object copy holds lies =
    by-end (is_kept object copy (inv w (last_of (x ∷ rest)))) (is_among object failed) (λ kept.
    let r = fits-first w actor a b x rest f in
    let begun : w.base.number ≤ x.n = r.1.begun in
    let within : x.n ≤ last w = r.1.within in
    let high : x.n ≤ last_of (x ∷ rest) = last-later w actor a b x rest f in
    let end : last_of (x ∷ rest) ≤ last w = last-within w actor a b x rest f in
    let m = copy-listed (lies_on file) object copy (inv w x.n) holds lies in
    let same : x ≡ event h.0 (Ask (query.OnVolume file) (Ok h.1)) = first-is x h.0 (Ask (query.OnVolume file) (Ok h.1)) h.2 in
    let s : Step w actor a (event h.0 (Ask (query.OnVolume file) (Ok h.1))) r.0 = subst (λ (e : Event). Step w actor a e r.0) same r.1 in
    let at : x.n ≡ h.0 = ap (λ (e : Event). e.n) same in
    let told : lines ≡ copies_on file (inv w h.0) = asked-copies w actor a r.0 h.0 file h.1 lines s h.3 in
    let among : IsIn m.0 lines = subst (λ (ls : List CopyLine). IsIn m.0 ls) (sym (told ∙ ap (λ (n : ℕ). copies_on file (inv w n)) (sym at))) m.2 in
    let past : copy.placed ≤ x.n = placed-past w x.n object copy valid begun within holds in
    subst (λ (k : ℕ). is_among k failed ≡ true) m.1.0
    (done w actor a b none f (moving to m.0) (moving-in to lines m.0 among) (subst (λ (n : ℕ). n ≤ x.n) (sym m.1.2) past)
    (λ n low up.
    ap (λ (k : ℕ). is_wanted (aim.Move m.0.pool m.0.placed (into to m.0.pool) false) k (inv w n)) m.1.0
    ∙ ap (λ (k : ℕ). is_wanted (aim.Move k m.0.placed (into to m.0.pool) false) object (inv w n)) m.1.1
    ∙ ap (λ (k : ℕ). is_wanted (aim.Move copy.pool k (into to m.0.pool) false) object (inv w n)) m.1.2
    ∙ held-wanted object copy (inv w n) (into to m.0.pool) false (held-all-along w object copy x.n (last_of (x ∷ rest)) valid begun high end holds kept n low up))))

-- ---- where it goes

goes-by : (file to : ℕ) (is : Result (Unit {0}) Refusal) (x : Event) (n m : ℕ) (told asked : Answer) (volumes : List VolumeLine) (pools : List PoolLine) (rest : List Event)
    → goes file to volumes pools ≡ is → told.rows ≡ rows.Volumes volumes → asked.rows ≡ rows.Pools pools
    → GoesSo file to (x ∷ event n (Ask (query.Volumes None None) (Ok told)) ∷ event m (Ask (query.Pools None) (Ok asked)) ∷ rest) is
goes-by file to is x n m told asked volumes pools rest so volumes_are pools_are w actor a b f =
    let y : Event = event n (Ask (query.Volumes None None) (Ok told)) in
    let z : Event = event m (Ask (query.Pools None) (Ok asked)) in
    let r = fits-first w actor a b x (y ∷ z ∷ rest) f in
    let s = fits-first w actor r.0 b y (z ∷ rest) r.2 in
    let t = fits-first w actor s.0 b z rest s.2 in
    let low : x.n ≤ r.0.reached = reaches w actor a r.0 x r.1 in
    let since : r.0.reached ≤ n = s.1.since in
    let up : n ≤ s.0.reached = reaches w actor r.0 s.0 y s.1 in
    let then_since : s.0.reached ≤ m = t.1.since in
    let high : m ≤ last_of (z ∷ rest) = last-later w actor s.0 b z rest s.2 in
    let one : volumes ≡ volume_lines None None (inv w n).stores = asked-volumes w actor r.0 s.0 n told volumes s.1 volumes_are in
    let two : pools ≡ pool_lines None (inv w m).stores = asked-pools w actor s.0 t.0 m asked pools t.1 pools_are in
    (n, m, omega arith, omega arith, high, ap₂ (goes file to) (sym one) (sym two) ∙ so)

goes-so : (file to : ℕ) (is : Result (Unit {0}) Refusal) (x : Event) (ys rest : List Event) → Told file to ys is → GoesSo file to (x ∷ (ys ++ rest)) is
goes-so file to is x ys rest (volumes, pools, so, (us, vs, same, a, b)) =
    let y : Event = event a.0 (Ask (query.Volumes None None) (Ok a.1)) in
    let z : Event = event b.0 (Ask (query.Pools None) (Ok b.1)) in
    let those : ys ≡ y ∷ z ∷ [] = same ∙ ap₂ (λ (p q : List Event). p ++ q) a.2 b.2 in
    subst (λ (es : List Event). GoesSo file to (x ∷ (es ++ rest)) is) (sym those) (goes-by file to is x a.0 b.0 a.1 b.1 volumes pools rest so a.3 b.3)

allowed : (own : Bool) (file to : ℕ) (x : Event) (ys rest : List Event) → Allows own file to ys (Ok tt) → IsAllowed own file to (x ∷ (ys ++ rest))
allowed true file to x ys rest h = tt
allowed false file to x ys rest h = goes-so file to (Ok tt) x ys rest h

-- ---- the whole

came-of : (file to : ℕ) (x : Event) (xs zs : List Event) (lines : List CopyLine) (result : Result Moved Refusal) → Listed file (x ∷ []) lines → Allows (to == 0) file to xs (Ok tt) → AreAsking (x ∷ xs)
    → Completes (map (moving to) lines) file zs result → ToldOfRun (map (moving to) lines) file (x ∷ xs) zs result → DataMove file to ((x ∷ xs) ++ zs) result
came-of file to x xs zs lines (Ok m) h allows asks g t =
    let p : Process (map (moving to) lines) file ((x ∷ xs) ++ zs) m = t.answers in
    let all : AreMoves to (map (moving to) lines) = all-moves to lines in
    record {
      came = record {
        failed = p.failed;
        wanted = map (moving to) lines;
        order = (x ∷ xs, zs, refl, (lines, refl, (x ∷ [], xs, refl, h, allows)), g);
        moved = p.moved;
        number = p.number;
        risen = p.risen;
        each = each-failed file to (map (moving to) lines) ((x ∷ xs) ++ zs) p.failed all p.each;
        row = row-of file to x (xs ++ zs) lines p.failed h p.done;
        allowed = allowed (to == 0) file to x xs zs allows;
        settled = p.settled;
        none_left = p.none_left;
      };
      only = all-append (λ e. IsMoving file to e.deed) (x ∷ xs) zs (asking-moving file to (x ∷ xs) asks) (only-moving file to (map (moving to) lines) zs all t.only);
      entries = entries-off to (map (moving to) lines) ((x ∷ xs) ++ zs) all
          (enters-append (map (moving to) lines) (x ∷ xs) zs (unmade-enters (map (moving to) lines) (x ∷ xs) (asks-unmade (x ∷ xs) asks)) (asks-begun (x ∷ xs) asks).none_left t.entries);
    }
came-of file to x xs zs lines (Err e) h allows asks g t =
    let p : Ended (map (moving to) lines) file ((x ∷ xs) ++ zs) e = t.answers in
    let all : AreMoves to (map (moving to) lines) = all-moves to lines in
    record {
      came = record { cause = cause-of file to lines (x ∷ xs) zs e asks (λ l i. met-before (ListsCopy l.object l.pool) (x ∷ []) xs (lists-all file (x ∷ []) lines h l i)) p.cause; unheld = p.unheld; settled = p.settled; none_left = p.none_left };
      only = all-append (λ e. IsMoving file to e.deed) (x ∷ xs) zs (asking-moving file to (x ∷ xs) asks) (only-moving file to (map (moving to) lines) zs all t.only);
      entries = entries-off to (map (moving to) lines) ((x ∷ xs) ++ zs) all
          (enters-append (map (moving to) lines) (x ∷ xs) zs (unmade-enters (map (moving to) lines) (x ∷ xs) (asks-unmade (x ∷ xs) asks)) (asks-begun (x ∷ xs) asks).none_left t.entries);
    }
  where
    cause-of : (file to : ℕ) (lines : List CopyLine) (us vs : List Event) (e : Refusal) → AreAsking us → AreListed lines us → IsStopped (us ++ vs) e ⊎ IsCausedByOne (map (moving to) lines) file (us ++ vs) e
        → IsStopped (us ++ vs) e ⊎ IsBarred file to (us ++ vs) e
    cause-of file to lines us vs e asks listed (inl h) = inl h
    cause-of file to lines us vs e asks listed (inr h) = elim (caused file to lines us vs e asks listed h) as (λ _. IsStopped (us ++ vs) e ⊎ IsBarred file to (us ++ vs) e) [
      | inl stopped ↦ inl stopped
      | inr gone ↦ inr (inr (inr gone))
    ]

-- what began with questions and was completed
began : (file to : ℕ) (wanted : List Wanted) (xs ys : List Event) (result : Result Moved Refusal) → AreAsking xs → Begins file to xs (Ok wanted) → Completes wanted file ys result
    → DataMove file to (xs ++ ys) result
began file to wanted xs ys result asks (lines, is, (us, vs, same, a, t)) g =
    let x : Event = event a.0 (Ask (query.OnVolume file) (Ok a.1)) in
    let those : xs ≡ x ∷ vs = same ∙ ap (λ (es : List Event). es ++ vs) a.2 in
    let asking : AreAsking (x ∷ vs) = subst AreAsking those asks in
    let done : Completes (map (moving to) lines) file ys result = subst (λ (ws : List Wanted). Completes ws file ys result) is g in
    subst (λ (es : List Event). DataMove file to (es ++ ys) result) (sym those)
    (came-of file to x vs ys lines result (a.0, a.1, refl, a.3) t asking done (process-told (map (moving to) lines) file x vs ys result (asks-begun (x ∷ vs) asking) done))

tells-so : (file to : ℕ) (e : Refusal) (events us vs : List Event) → AreAsking events → events ≡ us ++ vs → Told file to vs (Err e) → TellsSo file to events (Err e)
tells-so file to e events us vs asks same (volumes, pools, so, (ps, qs, both, a, b)) =
    let Volumes : Deed → Type 0 = (λ d. (answer : Answer) × (d ≡ Ask (query.Volumes None None) (Ok answer)) × (answer.rows ≡ rows.Volumes volumes)) in
    let Pools : Deed → Type 0 = (λ d. (answer : Answer) × (d ≡ Ask (query.Pools None) (Ok answer)) × (answer.rows ≡ rows.Pools pools)) in
    let one : MetBy Volumes ps = subst (λ (es : List Event). MetBy Volumes es) (sym a.2) (inl (a.1, refl, a.3)) in
    let two : MetBy Pools qs = subst (λ (es : List Event). MetBy Pools es) (sym b.2) (inl (b.1, refl, b.3)) in (
      asks,
      volumes,
      pools,
      so,
      subst (λ (es : List Event). MetBy Volumes es) (sym same) (met-behind Volumes us vs (subst (λ (es : List Event). MetBy Volumes es) (sym both) (met-before Volumes ps qs one))),
      subst (λ (es : List Event). MetBy Pools es) (sym same) (met-behind Pools us vs (subst (λ (es : List Event). MetBy Pools es) (sym both) (met-behind Pools ps qs two))),
    )

not-there : (file to : ℕ) (events : List Event) (e : Refusal) → AreAsking events → IsRefused file to events e → IsStopped events e ⊎ IsBarred file to events e
not-there file to events e asks (inl (inl h)) = inl h
not-there file to events e asks (inl (inr h)) = inr (inl (h.0, h.1, asks))
not-there file to events e asks (inr (other, lines, (us, vs, same, a, t))) =
    let x : Event = event a.0 (Ask (query.OnVolume file) (Ok a.1)) in
    let those : events ≡ x ∷ (vs ++ []) = same ∙ ap (λ (es : List Event). es ++ vs) a.2 ∙ ap (λ (es : List Event). x ∷ es) (sym (append-nil vs)) in
    inr (inr (inl (other, subst (λ (es : List Event). GoesSo file to es (Err e)) (sym those) (goes-so file to (Err e) x vs [] t), tells-so file to e events us vs asks same t)))

-- what is named holds nothing
abbrev IsFine : Result (Unit {0}) Refusal → Type 0
IsFine (Ok done) = Unit {0}
IsFine (Err e) = (h : Holder) → e ≡ refused.Busy h → ⊥

both-fine : (from : PoolKind) (o : Option PoolKind) → IsFine (both_primary from o)
both-fine from None = λ h is. absurd cc
both-fine kind.Primary (Some kind.Primary) = tt
both-fine kind.Copy (Some kind.Primary) = λ h is. absurd cc
both-fine kind.Primary (Some kind.Copy) = λ h is. absurd cc
both-fine kind.Copy (Some kind.Copy) = λ h is. absurd cc

from-fine : (to : ℕ) (home : Option (ℕ × PoolKind)) (pools : List PoolLine) → IsFine (goes_from to home pools)
from-fine to None pools = λ h is. absurd cc
from-fine to (Some home) pools = elim (home.0 == to) as (λ b. IsFine (if b then Ok tt else both_primary home.1 (kind_of to pools))) [
  | true ↦ tt
  | false ↦ both-fine home.1 (kind_of to pools)
]

ten-fine : (e : Refusal) → (number_of e == 10) ≡ true → (h : Holder) → e ≡ refused.Busy h → ⊥
ten-fine e ten h busy = (let odd : (number_of (refused.Busy h) == 10) ≡ true = subst (λ (x : Refusal). (number_of x == 10) ≡ true) busy ten in cc)

begin-unheld : (file to : ℕ) (events : List Event) (e : Refusal) → AreAsking events → IsRefused file to events e → IsUnheld events e
begin-unheld file to events e asks (inl (inl stopped)) = asking-unheld events e asks stopped
begin-unheld file to events e asks (inl (inr h)) = other-unheld events e (ten-fine e h.0)
begin-unheld file to events e asks (inr (other, lines, (us, vs, same, a, (volumes, pools, so, parts)))) =
    other-unheld events e (subst (λ (r : Result (Unit {0}) Refusal). IsFine r) so (from-fine to (home_of file volumes pools) pools))

refused-move : (file to : ℕ) (events : List Event) (e : Refusal) → Begins file to events (Err e) → DataMove file to events (Err e)
refused-move file to events e h =
    let b : IsBegun events = asks-begun events h.1 in
    record {
      came = record { cause = not-there file to events e h.1 h.0; unheld = begin-unheld file to events e h.1 h.0; settled = λ _. b.settled; none_left = λ _. b.none_left };
      only = asking-moving file to events h.1;
      entries = entries-off to [] events (λ x i. absurd i) (unmade-enters [] events (asks-unmade events h.1));
    }

pub moves-off : {S : Type 0} (did : S → List Event → S → Type 0) → GoesOn did → (p q r : S) (file to : ℕ) (wanted those : List Wanted) (result : Result Moved Refusal) → those ≡ wanted
    → Call did p q (λ events. Begins file to events (Ok wanted)) → Call did q r (λ events. Completes those file events result) → Call did p r (λ events. DataMove file to events result)
moves-off did on p q r file to wanted those result same a b =
    call_then did on (λ events. Begins file to events (Ok wanted)) (λ events. Completes wanted file events result) (λ events. DataMove file to events result) p q r a
    (subst (λ (ws : List Wanted). Call did q r (λ events. Completes ws file events result)) same b)
    (λ xs ys f g. began file to wanted xs ys result (begins-asks file to xs wanted f) f g)

pub move-refused : {S : Type 0} (did : S → List Event → S → Type 0) (p q : S) (file to : ℕ) (e : Refusal) → Call did p q (λ events. Begins file to events (Err e))
    → Call did p q (λ events. DataMove file to events (Err e))
move-refused did p q file to e a = (a.0, a.1, refused-move file to a.0 e a.2)

-- its failed objects are no more than the count of refused steps rose by, unless that is at its last value
pub move-rises : {S : Type 0} (did : S → List Event → S → Type 0) (refused_of : S → ℕ) → ((p q : S) (xs : List Event) → did p xs q → refused_of q ≡ risen (refused_of p) xs)
    → (p q : S) (file to : ℕ) (result : Result Moved Refusal)
    → Call did p q (λ events. DataMove file to events result) → IfOk result (λ m. (refused_of p + m.failed ≤ refused_of q) ⊎ (2 ^ 64 - 1 ≤ refused_of q))
move-rises did refused_of counts p q file to (Ok m) a = call-rises did refused_of counts (λ events. DataMove file to events (Ok m)) p q m.failed a (λ events h. h.came.risen)
move-rises did refused_of counts p q file to (Err e) a = tt
