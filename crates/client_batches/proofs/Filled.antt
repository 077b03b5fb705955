-- Files are written, one after the other.
use Rattle.std.proofs.Common.{◌≡◌, inl, inr, ℕ, ◌+◌, ◌<◌, ◌≤◌, nat_le, true, false, true≢false, List, [], ◌∷◌, ◌++◌, length, take, drop, get_or, Option, Ok, Err, refl, sym, ap, subst, ◌∙◌, append-nil, append_assoc, length-append, arith}
use Rattle.std.proofs.lemmas.Bool.{leb-true}
use Rattle.std.proofs.lemmas.Bool.Decides.{leb_tells}
use Rattle.std.proofs.lemmas.Grind.{flat_map-append}
use Rattle.std.proofs.lemmas.List.{take-append-drop, take_all}
use Rattle.std.specs.Option.{option_map_or}
use Rattle.kinds.specs.declared.refusal.Refusal.{Refusal}
use Rattle.kinds.specs.declared.refusal.Refusal.TheVariants as refused
use Rattle.client_files.specs.declared.outcome.Came.{Came}
use Rattle.client_files.specs.declared.outcome.Came.TheVariants as came
use Rattle.client_plan.specs.declared.lines.SendLine.{SendLine}
use Rattle.client_trees.specs.Files.{Files}
use Rattle.inventory_work.specs.declared.lines.Rules.{Rules}
use Rattle.steps.proofs.Joining.{GoesOn, call_then, so_call, then_call}
use Rattle.steps.specs.Calls.{Call, Then}
use Rattle.steps.specs.Events.{Event}
use Rattle.client_batches.proofs.Dropping.{parted_at, taken_with}
use Rattle.client_batches.specs.Sends.{Fills, NonePauses, Sends, SendsEach, SendsOne, Stops, pauses, tickets_in, ticket_of}
use Rattle.client_batches.specs.Tickets.{GivesBack}

-- ---- what came of them

pub tickets_more : (all : List Came) (c : Came) → tickets_in (all ++ c ∷ []) ≡ tickets_in all ++ tickets_in (c ∷ [])
tickets_more all c = flat_map-append (λ d. option_map_or (λ ticket. ticket ∷ []) (ticket_of d) []) all (c ∷ [])

pub one_ticket : (c : Came) → length (tickets_in (c ∷ [])) ≤ 1
one_ticket (came.Written ticket digest) = let one : 1 ≤ 1 = omega arith in one
one_ticket (came.Failed e) = let none : 0 ≤ 1 = omega arith in none
one_ticket (came.Held holder) = let none : 0 ≤ 1 = omega arith in none

pub tickets_long : (c : Came) (all : List Came) → length (tickets_in (c ∷ all)) ≡ length (tickets_in (c ∷ [])) + length (tickets_in all)
tickets_long c all = ap length (flat_map-append (λ d. option_map_or (λ ticket. ticket ∷ []) (ticket_of d) []) (c ∷ []) all) ∙ length-append (tickets_in (c ∷ [])) (tickets_in all)

none_more : (held : ℕ) (all : List Came) (c : Came) → NonePauses held all → pauses (held + length (tickets_in all)) c ≡ false → NonePauses held (all ++ c ∷ [])
none_more held [] c h q = let same : held + 0 ≡ held = omega arith in (subst (λ k. pauses k c ≡ false) same q, tt)
none_more held (d ∷ all) c h q =
    let long = tickets_long d all in
    let same : held + length (tickets_in (d ∷ all)) ≡ held + length (tickets_in (d ∷ [])) + length (tickets_in all) = omega (arith, long) in
    (h.0, none_more (held + length (tickets_in (d ∷ []))) all c h.1 (subst (λ k. pauses k c ≡ false) same q))

pub none_then : (all : List Came) (held : List ℕ) (c : Came) → NonePauses 0 all → held ≡ tickets_in all → pauses (length held) c ≡ false → NonePauses 0 (all ++ c ∷ [])
none_then all held c h is q =
    let alike : length held ≡ length (tickets_in all) = ap length is in
    let same : length held ≡ 0 + length (tickets_in all) = omega (arith, alike) in
    none_more 0 all c h (subst (λ k. pauses k c ≡ false) same q)

-- ---- one more

sends_one : (rules : Rules) (told : Option Files) (l : SendLine) (c : Came) (first before after : ℕ) (xs ys : List Event) → xs ≡ [] → before ≡ first → SendsOne rules told l before after ys (Ok c)
    → SendsEach rules told (l ∷ []) (c ∷ []) first after (xs ++ ys)
sends_one rules told l c first before after xs ys none same h = (
  after,
  (ys, [], ap (λ (zs : List Event). zs ++ ys) none ∙ sym (append-nil ys), subst (λ k. SendsOne rules told l k after ys (Ok c)) same h, (refl, refl)),
)

sends_more : (rules : Rules) (told : Option Files) (front : List SendLine) (all : List Came) (l : SendLine) (c : Came) (first before after : ℕ) (xs ys : List Event)
    → SendsEach rules told front all first before xs → SendsOne rules told l before after ys (Ok c) → SendsEach rules told (front ++ l ∷ []) (all ++ c ∷ []) first after (xs ++ ys)
sends_more rules told [] [] l c first before after xs ys a h = sends_one rules told l c first before after xs ys a.0 a.1 h
sends_more rules told [] (d ∷ all) l c first before after xs ys a h = elim a [ ]
sends_more rules told (f ∷ front) [] l c first before after xs ys a h = elim a [ ]
sends_more rules told (f ∷ front) (d ∷ all) l c first before after xs ys a h = (
  a.0,
  (a.1.0, a.1.1 ++ ys, ap (λ (zs : List Event). zs ++ ys) a.1.2 ∙ append_assoc a.1.0 a.1.1 ys, a.1.3, sends_more rules told front all l c a.0 before after a.1.1 ys a.1.4 h),
)

pub sends-next : {S : Type 0} (did : S → List Event → S → Type 0) → GoesOn did → (p q r : S) (rules : Rules) (told now : Option Files) (lines : List SendLine) (place : ℕ) (x : SendLine) (all got : List Came) (c : Came)
    (first before after : ℕ) → place < length lines → x ≡ get_or lines place x → now ≡ told → got ≡ all ++ c ∷ []
    → Call did p q (λ events. SendsEach rules told (take place lines) all first before events) → Call did q r (λ events. SendsOne rules now x before after events (Ok c))
    → Call did p r (λ events. SendsEach rules told (take (place + 1) lines) got first after events)
sends-next did goes p q r rules told now lines place x all got c first before after within is same more a b =
    call_then did goes (λ events. SendsEach rules told (take place lines) all first before events) (λ events. SendsOne rules now x before after events (Ok c))
    (λ events. SendsEach rules told (take (place + 1) lines) got first after events) p q r a b
    (λ xs ys f h. subst (λ (cs : List Came). SendsEach rules told (take (place + 1) lines) cs first after (xs ++ ys)) (sym more)
    (subst (λ (ls : List SendLine). SendsEach rules told ls (all ++ c ∷ []) first after (xs ++ ys)) (sym (taken_with lines place x within is))
    (sends_more rules told (take place lines) all x c first before after xs ys f (subst (λ (o : Option Files). SendsOne rules o x before after ys (Ok c)) same h))))

-- ---- ends

-- the tickets that are held behind one more, and where none came
pub held_more : (all got : List Came) (held kept new : List ℕ) (c : Came) → got ≡ all ++ c ∷ [] → held ≡ tickets_in all → kept ≡ held → new ≡ kept ++ tickets_in (c ∷ []) → new ≡ tickets_in got
held_more all got held kept new c more is same put =
    put ∙ ap (λ (ts : List ℕ). ts ++ tickets_in (c ∷ [])) (same ∙ is) ∙ sym (tickets_more all c) ∙ ap tickets_in (sym more)

pub held_same : (all got : List Came) (held kept : List ℕ) → got ≡ all → held ≡ tickets_in all → kept ≡ held → kept ≡ tickets_in got
held_same all got held kept more is same = same ∙ is ∙ ap tickets_in (sym more)

pub most_same : (held kept : List ℕ) → kept ≡ held → length held ≤ 32 → length kept ≤ 32
most_same held kept same few = subst (λ (ts : List ℕ). length ts ≤ 32) (sym same) few

-- fewer, where there aren't so many
below : (count : ℕ) → nat_le 32 count ≡ false → count < 32
below count h = elim (leb_tells 32 count) [ inl y ↦ absurd (true≢false (sym y.0 ∙ h)) | inr n ↦ n.1 ]

pub most_more : (held kept new : List ℕ) (c : Came) → kept ≡ held → nat_le 32 (length held) ≡ false → new ≡ kept ++ tickets_in (c ∷ []) → length new ≤ 32
most_more held kept new c same free put =
    let long : length new ≡ length kept + length (tickets_in (c ∷ [])) = ap length put ∙ length-append kept (tickets_in (c ∷ [])) in
    let one = one_ticket c in
    let alike : length kept ≡ length held = ap length same in
    let fewer : length held < 32 = below (length held) free in
    omega (arith, long, one, alike, fewer)

pub none_next : (all got : List Came) (held kept : List ℕ) (c : Came) → NonePauses 0 all → held ≡ tickets_in all → kept ≡ held → got ≡ all ++ c ∷ [] → pauses (length kept) c ≡ false → NonePauses 0 got
none_next all got held kept c free is same more go = subst (λ (cs : List Came). NonePauses 0 cs) (sym more) (none_then all kept c free (same ∙ is) go)

pub full_of : (held : List ℕ) → nat_le 32 (length held) ≡ true → 32 ≤ length held
full_of held h = leb-true 32 (length held) h

pub sends-full : {S : Type 0} (did : S → List Event → S → Type 0) (p q : S) (rules : Rules) (told : Option Files) (lines : List SendLine) (place : ℕ) (all : List Came) (held : List ℕ) (before after : ℕ)
    → NonePauses 0 all → held ≡ tickets_in all → 32 ≤ length held → Call did p q (λ events. SendsEach rules told (take place lines) all before after events)
    → Call did p q (λ events. Sends rules told lines before after all events (Ok tt))
sends-full did p q rules told lines place all held before after free is full a =
    so_call did (λ events. SendsEach rules told (take place lines) all before after events) (λ events. Sends rules told lines before after all events (Ok tt)) p q a
    (λ xs f. record {
      front = take place lines;
      back = drop place lines;
      lined = sym (take-append-drop place lines);
      sends = f;
      ends = inl (free, inr (subst (λ (ts : List ℕ). 32 ≤ length ts) is full));
    })

pub sends-last : {S : Type 0} (did : S → List Event → S → Type 0) (p q : S) (rules : Rules) (told : Option Files) (lines : List SendLine) (all : List Came) (before after : ℕ)
    → NonePauses 0 all → Call did p q (λ events. SendsEach rules told (take (length lines) lines) all before after events)
    → Call did p q (λ events. Sends rules told lines before after all events (Ok tt))
sends-last did p q rules told lines all before after free a =
    so_call did (λ events. SendsEach rules told (take (length lines) lines) all before after events) (λ events. Sends rules told lines before after all events (Ok tt)) p q a
    (λ xs f. record {
      front = lines;
      back = [];
      lined = sym (append-nil lines);
      sends = subst (λ (ls : List SendLine). SendsEach rules told ls all before after xs) (take_all (length lines) lines (omega arith)) f;
      ends = inl (free, inl refl);
    })

pub sends-paused : {S : Type 0} (did : S → List Event → S → Type 0) (p q : S) (rules : Rules) (told : Option Files) (lines : List SendLine) (place : ℕ) (all got : List Came) (c : Came) (held : List ℕ) (before after : ℕ)
    → NonePauses 0 all → held ≡ tickets_in all → pauses (length held) c ≡ true → got ≡ all ++ c ∷ []
    → Call did p q (λ events. SendsEach rules told (take place lines) (all ++ c ∷ []) before after events) → Call did p q (λ events. Sends rules told lines before after got events (Ok tt))
sends-paused did p q rules told lines place all got c held before after free is stop more a =
    so_call did (λ events. SendsEach rules told (take place lines) (all ++ c ∷ []) before after events) (λ events. Sends rules told lines before after got events (Ok tt)) p q a
    (λ xs f. record {
      front = take place lines;
      back = drop place lines;
      lined = sym (take-append-drop place lines);
      sends = subst (λ (cs : List Came). SendsEach rules told (take place lines) cs before after xs) (sym more) f;
      ends = inr (all, c, more, free, subst (λ (ts : List ℕ). pauses (length ts) c ≡ true) is stop);
    })

pub sends-wanting : {S : Type 0} (did : S → List Event → S → Type 0) (p q : S) (rules : Rules) (told : Option Files) (lines : List SendLine) (place : ℕ) (all got : List Came) (e : Refusal) (before after : ℕ)
    → e ≡ refused.Memory → got ≡ all → Call did p q (λ events. SendsEach rules told (take place lines) all before after events)
    → Call did p q (λ events. Sends rules told lines before after got events (Err e))
sends-wanting did p q rules told lines place all got e before after is same a =
    so_call did (λ events. SendsEach rules told (take place lines) all before after events) (λ events. Sends rules told lines before after got events (Err e)) p q a
    (λ xs f. record {
      front = take place lines;
      back = drop place lines;
      count = after;
      xs = xs;
      ys = [];
      lined = sym (take-append-drop place lines);
      made = sym (append-nil xs);
      sends = subst (λ (cs : List Came). SendsEach rules told (take place lines) cs before after xs) (sym same) f;
      ends = inl (is, refl, refl);
    })

pub sends-ended : {S : Type 0} (did : S → List Event → S → Type 0) → GoesOn did → (p q r : S) (rules : Rules) (told now : Option Files) (lines : List SendLine) (place : ℕ) (x : SendLine) (all got : List Came) (e : Refusal)
    (first before after : ℕ) → place < length lines → x ≡ get_or lines place x → now ≡ told → got ≡ all → Call did p q (λ events. SendsEach rules told (take place lines) all first before events)
    → Call did q r (λ events. SendsOne rules now x before after events (Err e)) → Call did p r (λ events. Sends rules told lines first after got events (Err e))
sends-ended did goes p q r rules told now lines place x all got e first before after within is same of a b =
    call_then did goes (λ events. SendsEach rules told (take place lines) all first before events) (λ events. SendsOne rules now x before after events (Err e))
    (λ events. Sends rules told lines first after got events (Err e)) p q r a b
    (λ xs ys f h. record {
      front = take place lines;
      back = x ∷ drop (place + 1) lines;
      count = before;
      xs = xs;
      ys = ys;
      lined = parted_at lines place x within is;
      made = refl;
      sends = subst (λ (cs : List Came). SendsEach rules told (take place lines) cs first before xs) (sym of) f;
      ends = inr (x, drop (place + 1) lines, refl, subst (λ (o : Option Files). SendsOne rules o x before after ys (Err e)) same h);
    })

pub fills-ended : {S : Type 0} (did : S → List Event → S → Type 0) → GoesOn did → (p q r : S) (rules : Rules) (told : Option Files) (lines : List SendLine) (all : List Came) (held : List ℕ) (why e : Refusal) (before after : ℕ)
    → held ≡ tickets_in all → Call did p q (λ events. Sends rules told lines before after all events (Err why)) → Call did q r (λ events. GivesBack held why events e)
    → Call did p r (λ events. Fills rules told lines before after all events (Err e))
fills-ended did goes p q r rules told lines all held why e before after is a b =
    so_call did (λ events. Then (λ xs. Stops rules told lines before after all why xs) (λ ys. GivesBack held why ys e) events) (λ events. Fills rules told lines before after all events (Err e)) p r
    (then_call did goes (λ events. Stops rules told lines before after all why events) (λ events. GivesBack held why events e) p q r a b)
    (λ xs f. (why, subst (λ (ts : List ℕ). Then (λ xs. Stops rules told lines before after all why xs) (λ ys. GivesBack ts why ys e) xs) is f))
