-- Of lists of any length the transactions have exactly the lines that are committed.
use Rattle.std.proofs.Common.{◌≡◌, ◌⊎◌, inl, inr, ℕ, zero, suc, ◌+◌, ◌≤◌, ◌||◌, nat_lt, Bool, true, false, true≢false, List, [], ◌∷◌, ◌++◌, length, take, if◌then◌else◌, Option, None, Some, Result, Ok, Err, refl, sym, ap, subst, ◌∙◌, append-nil, append_assoc, length-append, arith}
use Rattle.std.proofs.lemmas.Bool.{lt-ltb}
use Rattle.std.proofs.lemmas.List.{length-take, take-append-drop}
use Rattle.std.specs.List.{flat_map}
use Rattle.kinds.specs.declared.refusal.Refusal.{Refusal}
use Rattle.kinds.specs.declared.segment.Digest.{Digest}
use Rattle.client_files.specs.declared.outcome.Came.{Came}
use Rattle.client_files.specs.declared.outcome.Came.TheVariants as came
use Rattle.client_plan.specs.declared.lines.SendLine.{SendLine}
use Rattle.client_trees.specs.Files.{Files}
use Rattle.inventory_work.specs.declared.lines.Rules.{Rules}
use Rattle.steps.specs.declared.asked.Asked.{Asked}
use Rattle.steps.specs.Events.{Event}
use Rattle.client_batches.specs.declared.batch.Batch.{Batch}
use Rattle.client_batches.specs.declared.listing.SealedLine.{SealedLine}
use Rattle.client_batches.specs.Batches.{Batches, SealsAndStores, Stores, sealed_line, sealed_lines}
use Rattle.client_batches.specs.Items.{items_in, kept}
use Rattle.client_batches.specs.Listings.{storing}
use Rattle.client_batches.specs.Rounds.{CommitsSome, InRuns, Round, Rounds, SendsAll, SendsSome}
use Rattle.client_batches.specs.Sends.{EndsSo, NonePauses, SendsEach, pauses, tickets_in}
use Rattle.client_batches.specs.Verdicts.{has_ticket, left_behind, verdict, verdicts, waiting, waits}
use Rattle.client_batches.proofs.Exact.{commits_items, commits_long, items_behind, kept_behind, none_items, ok_err, quiet_items, then_items}
use Rattle.client_batches.proofs.Batched.{few_rows}
use Rattle.client_batches.proofs.Filled.{tickets_long}
use Rattle.client_batches.proofs.Quiet.{each_quiet, seals_quiet, waits_quiet}
use Rattle.client_batches.proofs.Sealed.{AreBehind, IsBehind, behind-each}

-- ---- rounds

-- The first lines were handled, and the transactions have those of them that are committed.
pub record Handled {L X : Type 0} (items : Asked → List X) (give : L → List X) (lines rest : List L) (outs : List (Option Refusal)) (events : List Event) : Type 0 where
  pub front : List L
  pub lined : lines ≡ front ++ rest
  pub long : length outs ≡ length front
  pub has : items_in items events ≡ kept give front outs

handled_none : {L X : Type 0} (items : Asked → List X) (give : L → List X) (lines rest : List L) (outs : List (Option Refusal)) (events : List Event) → rest ≡ lines → outs ≡ [] → events ≡ [] → Handled items give lines rest outs events
handled_none items give lines rest outs events same none quiet = record {
  front = [];
  lined = sym same;
  long = ap length none;
  has = none_items items events quiet;
}

handled_next : {L X : Type 0} (items : Asked → List X) (give : L → List X) (lines left rest : List L) (outs first next : List (Option Refusal)) (events xs ys : List Event) → outs ≡ first ++ next → events ≡ xs ++ ys
    → Handled items give lines left first xs → Handled items give left rest next ys → Handled items give lines rest outs events
handled_next {L} {X} items give lines left rest outs first next events xs ys put made a b =
    let of_all : length outs ≡ length first + length next = ap length put ∙ length-append first next in
    let of_front : length (a.front ++ b.front) ≡ length a.front + length b.front = length-append a.front b.front in
    let of_first : length first ≡ length a.front = a.long in
    let of_next : length next ≡ length b.front = b.long in
    record {
      front = a.front ++ b.front;
      lined = a.lined ∙ ap (λ (ls : List L). a.front ++ ls) b.lined ∙ sym (append_assoc a.front b.front rest);
      long = omega (arith, of_all, of_front, of_first, of_next);
      has = ap (items_in items) made ∙ items_behind items xs ys ∙ ap (λ (zs : List X). zs ++ items_in items ys) a.has ∙ ap (λ (zs : List X). kept give a.front first ++ zs) b.has
          ∙ sym (kept_behind give a.front b.front first next a.long) ∙ ap (λ (os : List (Option Refusal)). kept give (a.front ++ b.front) os) (sym put);
    }

rounds_handled : {L X : Type 0} (items : Asked → List X) (give : L → List X) (One : Round L)
    → ((lines rest : List L) (outs : List (Option Refusal)) (before after : ℕ) (events : List Event) → One lines rest outs before after events → Handled items give lines rest outs events)
    → (number : ℕ) (lines rest : List L) (outs : List (Option Refusal)) (before after : ℕ) (events : List Event) → Rounds One number lines rest outs before after events → Handled items give lines rest outs events
rounds_handled items give One each zero lines rest outs before after events h = handled_none items give lines rest outs events h.0 h.1 h.3
rounds_handled items give One each (suc number) lines rest outs before after events h =
    handled_next items give lines h.0 rest outs h.1 h.2 events h.5.0 h.5.1 h.4 h.5.2 (rounds_handled items give One each number lines h.0 h.1 before h.3 h.5.0 h.5.3)
    (each h.0 rest h.2 h.3 after h.5.1 h.5.4)

-- all of them were
pub record Whole {L X : Type 0} (items : Asked → List X) (give : L → List X) (lines : List L) (outs : List (Option Refusal)) (events : List Event) : Type 0 where
  pub long : length outs ≡ length lines
  pub has : items_in items events ≡ kept give lines outs

whole_of : {L X : Type 0} (items : Asked → List X) (give : L → List X) (lines : List L) (outs : List (Option Refusal)) (events : List Event) → Handled items give lines [] outs events → Whole items give lines outs events
whole_of {L} items give lines outs events h =
    let all : h.front ≡ lines = sym (h.lined ∙ append-nil h.front) in
    record {
      long = h.long ∙ ap length all;
      has = h.has ∙ ap (λ (ls : List L). kept give ls outs) all;
    }

-- ---- lines without tickets

some_handled : {L X : Type 0} (items : Asked → List X) (asking : List L → Asked) (give : L → List X) → ((lines : List L) → items (asking lines) ≡ flat_map give lines)
    → (lines rest : List L) (outs : List (Option Refusal)) (before after : ℕ) (events : List Event) → CommitsSome asking lines rest outs before after events → Handled items give lines rest outs events
some_handled items asking give reads lines rest outs before after events h = record {
  front = h.0;
  lined = h.1;
  long = commits_long asking h.0 [] outs events h.4;
  has = commits_items items asking give reads h.0 [] outs events h.4;
}

pub runs_whole : {L X : Type 0} (items : Asked → List X) (asking : List L → Asked) (give : L → List X) → ((lines : List L) → items (asking lines) ≡ flat_map give lines)
    → (lines : List L) (outs : List (Option Refusal)) (events : List Event) → InRuns asking lines events (Ok outs) → Whole items give lines outs events
runs_whole items asking give reads lines outs events h =
    whole_of items give lines outs events (rounds_handled items give (CommitsSome asking) (some_handled items asking give reads) h.0 lines [] outs 0 0 events h.1)

-- ---- a batch

-- the first file of a batch that is to be sent again is its last
abbrev WaitsLast : (some : Bool) → List Came → Type 0
WaitsLast some [] = Unit {0}
WaitsLast some (c ∷ all) = ((waits some c ≡ true) × (all ≡ [])) ⊎ ((waits some c ≡ false) × WaitsLast (some || has_ticket c) all)

waits_as : (held : ℕ) (c : Came) → waits (nat_lt 0 held) c ≡ pauses held c
waits_as held (came.Written ticket digest) = refl
waits_as held (came.Failed e) = refl
waits_as held (came.Held holder) = refl

or_false : (b : Bool) → (b || false) ≡ b
or_false true = refl
or_false false = refl

or_true : (b : Bool) → (b || true) ≡ true
or_true true = refl
or_true false = refl

positive : (held : ℕ) → nat_lt 0 (held + 1) ≡ true
positive held = lt-ltb 0 (held + 1) (omega arith)

plus_none : (held : ℕ) → held ≡ held + 0
plus_none held = omega arith

plus_none_back : (held : ℕ) → held + 0 ≡ held
plus_none_back held = omega arith

none_plus : (held : ℕ) → held ≡ 0 + held
none_plus held = omega arith

tickets_sum : (held : ℕ) (c : Came) (first : List Came) → held + length (tickets_in (c ∷ first)) ≡ held + length (tickets_in (c ∷ [])) + length (tickets_in first)
tickets_sum held c first = let long = tickets_long c first in omega (arith, long)

some_as : (held : ℕ) (c : Came) → (nat_lt 0 held || has_ticket c) ≡ nat_lt 0 (held + length (tickets_in (c ∷ [])))
some_as held (came.Written ticket digest) = or_true (nat_lt 0 held) ∙ sym (positive held)
some_as held (came.Failed e) = or_false (nat_lt 0 held) ∙ ap (nat_lt 0) (plus_none held)
some_as held (came.Held holder) = or_false (nat_lt 0 held) ∙ ap (nat_lt 0) (plus_none held)

none_waits : (held : ℕ) (all : List Came) → NonePauses held all → WaitsLast (nat_lt 0 held) all
none_waits held [] h = tt
none_waits held (c ∷ all) h =
    inr (waits_as held c ∙ h.0, subst (λ b. WaitsLast b all) (sym (some_as held c)) (none_waits (held + length (tickets_in (c ∷ []))) all h.1))

last_waits : (held : ℕ) (first : List Came) (last : Came) → NonePauses held first → pauses (held + length (tickets_in first)) last ≡ true → WaitsLast (nat_lt 0 held) (first ++ last ∷ [])
last_waits held [] last h stop = inl (waits_as held last ∙ subst (λ k. pauses k last ≡ true) (plus_none_back held) stop, refl)
last_waits held (c ∷ first) last h stop =
    inr (
      waits_as held c ∙ h.0,
      subst (λ b. WaitsLast b (first ++ last ∷ [])) (sym (some_as held c))
          (last_waits (held + length (tickets_in (c ∷ []))) first last h.1 (subst (λ k. pauses k last ≡ true) (tickets_sum held c first) stop)),
    )

ends_waits : (back : List SendLine) (all : List Came) → EndsSo back all → WaitsLast false all
ends_waits back all (inl h) = none_waits 0 all h.0
ends_waits back all (inr h) =
    subst (λ (cs : List Came). WaitsLast false cs) (sym h.2) (last_waits 0 h.0 h.1 h.3 (subst (λ k. pauses k h.1 ≡ true) (none_plus (length (tickets_in h.0))) h.4))

-- the files that are sealed and committed are those of the lines that are
none_kept : {L X : Type 0} (give : L → List X) (lines : List L) → kept give lines [] ≡ []
none_kept give [] = refl
none_kept give (l ∷ lines) = refl

no_rows : (lines : List SendLine) → sealed_lines lines [] ≡ []
no_rows [] = refl
no_rows (l ∷ lines) = refl

module _ {X : Type 0} (row_of : SealedLine → List X) (give : SendLine → List X) (alike : (l : SendLine) (d : Digest) → row_of (sealed_line l d) ≡ give l) where
  nothing_last : (lines : List SendLine) (all sealed : List Came) (outs : List (Option Refusal)) → all ≡ [] → AreBehind all sealed → kept row_of (sealed_lines lines sealed) outs ≡ []
  nothing_last lines all [] outs none are = ap (λ (rows : List SealedLine). kept row_of rows outs) (no_rows lines)
  nothing_last lines [] (s ∷ sealed) outs none are = absurd are
  nothing_last lines (c ∷ all) (s ∷ sealed) outs none are = absurd cc

  -- one that failed, or whose seal did
  failed_kept : (some : Bool) (l : SendLine) (lines : List SendLine) (c : Came) (e : Refusal) (all sealed : List Came) (outs : List (Option Refusal)) → AreBehind all sealed
      → (WaitsLast (some || has_ticket c) all → kept row_of (sealed_lines lines sealed) outs ≡ kept give lines (verdicts (some || has_ticket c) all sealed outs)) → WaitsLast some (c ∷ all)
      → kept row_of (sealed_lines lines sealed) outs ≡ kept give (l ∷ lines) (verdicts some (c ∷ all) (came.Failed e ∷ sealed) outs)
  failed_kept some l lines c e all sealed outs are rest (inl h) =
      nothing_last lines all sealed outs h.1 are ∙ ap (λ b. kept give (l ∷ lines) (if b then [] else Some e ∷ verdicts (some || has_ticket c) all sealed outs)) (sym h.0)
  failed_kept some l lines c e all sealed outs are rest (inr h) =
      rest h.1 ∙ ap (λ b. kept give (l ∷ lines) (if b then [] else Some e ∷ verdicts (some || has_ticket c) all sealed outs)) (sym h.0)

  batch_kept : (some : Bool) (lines : List SendLine) (all sealed : List Came) (outs : List (Option Refusal)) → length outs ≡ length (sealed_lines lines sealed) → AreBehind all sealed → WaitsLast some all
      → kept row_of (sealed_lines lines sealed) outs ≡ kept give lines (verdicts some all sealed outs)
  batch_kept some [] all sealed outs long are h = refl
  batch_kept some (l ∷ lines) [] [] outs long are h = refl
  batch_kept some (l ∷ lines) [] (s ∷ sealed) outs long are h = absurd are
  batch_kept some (l ∷ lines) (c ∷ all) [] outs long are h = absurd are
  batch_kept some (l ∷ lines) (came.Written ticket digest ∷ all) (came.Written t d ∷ sealed) [] long are h = absurd (omega (arith, long))
  batch_kept some (l ∷ lines) (came.Written ticket digest ∷ all) (came.Written t d ∷ sealed) (o ∷ outs) long are (inl h) = absurd (true≢false (sym h.0))
  batch_kept some (l ∷ lines) (came.Written ticket digest ∷ all) (came.Written t d ∷ sealed) (None ∷ outs) long are (inr h) =
      ap (λ (xs : List X). xs ++ kept row_of (sealed_lines lines sealed) outs) (alike l d) ∙ ap (λ (xs : List X). give l ++ xs) (batch_kept (some || true) lines all sealed outs (omega (arith, long)) are.1 h.1)
  batch_kept some (l ∷ lines) (came.Written ticket digest ∷ all) (came.Written t d ∷ sealed) (Some e ∷ outs) long are (inr h) = batch_kept (some || true) lines all sealed outs (omega (arith, long)) are.1 h.1
  batch_kept some (l ∷ lines) (came.Failed why ∷ all) (came.Written t d ∷ sealed) outs long are h = absurd (never_ticket are.0) where
    never_ticket : IsBehind (came.Failed why) (came.Written t d) → ⊥
    never_ticket (inl is) = absurd cc
    never_ticket (inr is) = true≢false (sym is.0)
  batch_kept some (l ∷ lines) (came.Held holder ∷ all) (came.Written t d ∷ sealed) outs long are h = absurd (never_ticket are.0) where
    never_ticket : IsBehind (came.Held holder) (came.Written t d) → ⊥
    never_ticket (inl is) = absurd cc
    never_ticket (inr is) = true≢false (sym is.0)
  batch_kept some (l ∷ lines) (c ∷ all) (came.Failed e ∷ sealed) outs long are h =
      failed_kept some l lines c e all sealed outs are.1 (λ w. batch_kept (some || has_ticket c) lines all sealed outs long are.1 w) h
  batch_kept some (l ∷ lines) (c ∷ all) (came.Held holder ∷ sealed) outs long are h = held_last c are.0 h where
    held_last : (c : Came) → IsBehind c (came.Held holder) → WaitsLast some (c ∷ all) → kept row_of (sealed_lines lines sealed) outs ≡ kept give (l ∷ lines) (verdicts some (c ∷ all) (came.Held holder ∷ sealed) outs)
    held_last (came.Held other) is (inl w) = nothing_last lines all sealed outs w.1 are.1
    held_last (came.Held other) is (inr w) = absurd (true≢false w.0)
    held_last (came.Written ticket digest) (inl is) w = absurd cc
    held_last (came.Written ticket digest) (inr is) w = absurd cc
    held_last (came.Failed why) (inl is) w = absurd cc
    held_last (came.Failed why) (inr is) w = absurd cc

-- ---- how many

few_or_none : (b : Bool) (v : Option Refusal) (vs : List (Option Refusal)) (all : List Came) → length vs ≤ length all → length (if b then [] else v ∷ vs) ≤ suc (length all)
few_or_none true v vs all few = let none : 0 ≤ suc (length all) = omega arith in none
few_or_none false v vs all few = let more : suc (length vs) ≤ suc (length all) = omega (arith, few) in more

verdicts_few : (some : Bool) (all sealed : List Came) (outs : List (Option Refusal)) → length (verdicts some all sealed outs) ≤ length all
verdicts_few some [] sealed outs = let none : 0 ≤ 0 = omega arith in none
verdicts_few some (c ∷ all) [] outs = let none : 0 ≤ suc (length all) = omega arith in none
verdicts_few some (c ∷ all) (s ∷ sealed) outs =
    few_or_none (waits some c) (verdict s outs) (verdicts (some || has_ticket c) all sealed (left_behind s outs)) all (verdicts_few (some || has_ticket c) all sealed (left_behind s outs))

each_long : (rules : Rules) (told : Option Files) (lines : List SendLine) (all : List Came) (before after : ℕ) (events : List Event) → SendsEach rules told lines all before after events → length all ≡ length lines
each_long rules told [] [] before after events h = refl
each_long rules told [] (c ∷ all) before after events h = absurd h
each_long rules told (l ∷ lines) [] before after events h = absurd h
each_long rules told (l ∷ lines) (c ∷ all) before after events h = ap suc (each_long rules told lines all h.0 after h.1.1 h.1.4)

kept_take : {L X : Type 0} (give : L → List X) (lines : List L) (outs : List (Option Refusal)) → kept give (take (length outs) lines) outs ≡ kept give lines outs
kept_take give lines [] = none_kept give (take 0 lines) ∙ sym (none_kept give lines)
kept_take give [] (o ∷ outs) = refl
kept_take {L} {X} give (l ∷ lines) (None ∷ outs) = ap (λ (xs : List X). give l ++ xs) (kept_take give lines outs)
kept_take give (l ∷ lines) (Some e ∷ outs) = kept_take give lines outs

-- ---- files

abbrev outs_of : Result (List (Option Refusal)) Refusal → List (Option Refusal)
outs_of (Ok outs) = outs
outs_of (Err e) = []

ok_same : (xs ys : List (Option Refusal)) → ◌≡◌ {A = Result (List (Option Refusal)) Refusal} (Ok xs) (Ok ys) → xs ≡ ys
ok_same xs ys h = ap outs_of h

no_length : {A : Type 0} (xs : List A) → length xs ≤ 0 → xs ≡ []
no_length [] h = refl
no_length (x ∷ xs) h = absurd (omega (arith, h))

rows_none : (lines : List SendLine) (all : List Came) → tickets_in all ≡ [] → sealed_lines lines all ≡ []
rows_none lines all none =
    let long : length (tickets_in all) ≡ 0 = ap length none in
    let few = few_rows lines all in
    no_length (sealed_lines lines all) (omega (arith, long, few))

module _ {X : Type 0} (items : Asked → List X) (row_of : SealedLine → List X) (give : SendLine → List X) (alike : (l : SendLine) (d : Digest) → row_of (sealed_line l d) ≡ give l)
    (reads : (filespace : ℕ) (rows : List SealedLine) → items (storing filespace rows) ≡ flat_map row_of rows) where
  stores_whole : (filespace : ℕ) (lines : List SendLine) (all : List Came) (events : List Event) (outs : List (Option Refusal)) → Stores filespace lines all (tickets_in all) events (Ok outs)
      → Whole items row_of (sealed_lines lines all) outs events
  stores_whole filespace lines all events outs (inl h) =
      let none : sealed_lines lines all ≡ [] = rows_none lines all h.0 in
      let empty : outs ≡ [] = ok_same outs [] h.2 in
      record {
        long = ap length empty ∙ sym (ap length none);
        has = none_items items events h.1 ∙ sym (ap (λ (rows : List SealedLine). kept row_of rows outs) none);
      }
  stores_whole filespace lines all events outs (inr (inl h)) = absurd (ok_err outs h.0 h.2)
  stores_whole filespace lines all events outs (inr (inr h)) = record {
    long = commits_long (storing filespace) (sealed_lines lines all) (tickets_in all) outs events h;
    has = commits_items items (storing filespace) row_of (reads filespace) (sealed_lines lines all) (tickets_in all) outs events h;
  }

  seals_whole : (filespace : ℕ) (lines : List SendLine) (all sealed : List Came) (back : List SendLine) (events : List Event) (outs : List (Option Refusal)) → EndsSo back all → SealsAndStores filespace lines all sealed events (Ok outs)
      → items_in items events ≡ kept give lines (verdicts false all sealed outs)
  seals_whole filespace lines all sealed back events outs ends (inl (e, seals, is)) = absurd (ok_err outs e is)
  seals_whole filespace lines all sealed back events outs ends (inr (xs, ys, cut, seals, stores)) =
      let whole = stores_whole filespace lines sealed ys outs stores in
      ap (items_in items) cut ∙ items_behind items xs ys ∙ ap (λ (zs : List X). zs ++ items_in items ys) (quiet_items items xs (seals_quiet all sealed xs seals))
      ∙ whole.has ∙ batch_kept row_of give alike false lines all sealed outs whole.long (behind-each all sealed xs seals) (ends_waits back all ends)

  batch_items : (rules : Rules) (told : Option Files) (filespace : ℕ) (lines : List SendLine) (before after : ℕ) (events : List Event) (b : Batch) → Batches rules told filespace lines before after events (Ok b)
      → items_in items events ≡ kept give lines (verdicts false b.came b.sealed b.outs)
  batch_items rules told filespace lines before after events b h =
      ap (items_in items) h.2 ∙ items_behind items h.0 h.1 ∙ ap (λ (xs : List X). xs ++ items_in items h.1) (quiet_items items h.0 (each_quiet rules told h.3.front b.came before after h.0 h.3.sends))
      ∙ seals_whole filespace lines b.came b.sealed h.3.back h.1 b.outs h.3.ends h.4

  batch_few : (rules : Rules) (told : Option Files) (filespace : ℕ) (lines : List SendLine) (before after : ℕ) (events : List Event) (b : Batch) → Batches rules told filespace lines before after events (Ok b)
      → length (verdicts false b.came b.sealed b.outs) ≤ length lines
  batch_few rules told filespace lines before after events b h =
      let few = verdicts_few false b.came b.sealed b.outs in
      let each : length b.came ≡ length h.3.front = each_long rules told h.3.front b.came before after h.0 h.3.sends in
      let lined : length lines ≡ length h.3.front + length h.3.back = ap length h.3.lined ∙ length-append h.3.front h.3.back in
      omega (arith, few, each, lined)

  some_sent : (rules : Rules) (told : Option Files) (filespace : ℕ) (lines rest : List SendLine) (outs : List (Option Refusal)) (before after : ℕ) (events : List Event) → SendsSome rules told filespace lines rest outs before after events
      → Handled items give lines rest outs events
  some_sent rules told filespace lines rest outs before after events h =
      let few : length (verdicts false h.0.came h.0.sealed h.0.outs) ≤ length lines = batch_few rules told filespace lines before after h.3.0 h.0 h.3.3 in
      let same : length outs ≡ length (verdicts false h.0.came h.0.sealed h.0.outs) = ap length h.1 in
      record {
        front = take (length outs) lines;
        lined = sym (take-append-drop (length outs) lines) ∙ ap (λ (ls : List SendLine). take (length outs) lines ++ ls) (sym h.2);
        long = omega (arith, few, same, length-take (length outs) lines);
        has = then_items items _ _ (kept give lines (verdicts false h.0.came h.0.sealed h.0.outs)) [] events h.3 (λ xs a. batch_items rules told filespace lines before after xs h.0 a) (λ ys w. quiet_items items ys (waits_quiet (waiting false h.0.came) ys (Ok tt) w))
            ∙ append-nil (kept give lines (verdicts false h.0.came h.0.sealed h.0.outs)) ∙ ap (λ (os : List (Option Refusal)). kept give lines os) (sym h.1) ∙ sym (kept_take give lines outs);
      }

  pub sends_whole : (rules : Rules) (told : Option Files) (filespace : ℕ) (lines : List SendLine) (outs : List (Option Refusal)) (before after : ℕ) (events : List Event) → SendsAll rules told filespace lines before after events (Ok outs)
      → Whole items give lines outs events
  sends_whole rules told filespace lines outs before after events h =
      whole_of items give lines outs events (rounds_handled items give (SendsSome rules told filespace) (some_sent rules told filespace) h.0 lines [] outs before after events h.1)
