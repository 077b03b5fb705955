use Rattle.std.proofs.Common.{◌≡◌, ◌⊎◌, ℕ, zero, suc, ◌+◌, Bool, true, false, not, ◌==◌, ◌&&◌, ◌||◌, List, [], ◌∷◌, ◌++◌, length, take, drop, map, refl, sym, ap, subst, ◌∙◌, Option, Some, None, Result, Ok, Err, inl, inr, arith, zero-add, is_some}
use Rattle.std.specs.Prelude.{slice_get, IfSome, IsTrue, if◌then◌else◌}
use Rattle.std.proofs.lemmas.Bool.{eqb-true, eq-eqb, ne_eqb, or_parts, or_cases, and_parts}
use Rattle.kinds.specs.declared.refusal.Refusal.{Refusal}
use Rattle.kinds.specs.declared.refusal.Refusal.TheVariants.{Syntax}
use Rattle.command_words.specs.declared.row.Need.{Need}
use Rattle.command_words.specs.declared.row.Need.TheVariants.{Optional, Required, OneSide, AnySide}
use Rattle.command_words.specs.Choice.{choose}
use Rattle.command_words.specs.Reading.{◌>>=◌}
use Rattle.command_words.specs.Values.{unquoted, valued}
use Rattle.command_words.specs.Words.{Word}
use Rattle.command_words.specs.Rows.{Slot, Given, text_at, equals_at, side_of, are_apart, are_opposed, settles, is_settled, is_needed, is_complete, chosen_value, key_value, keyword_at, keyword, keywords_from}
use Rattle.command_words.specs.Fit.{is_value, is_fit, is_required, are_apart_given, KeywordsFit, SidesApart}
use Rattle.command_words.proofs.Fitting.{valued_fits, text_at-other}

-- ---- one keyword

-- a keyword of the row, its value, and that nothing settled it before
pub record Chosen (slots : List Slot) (given : List Given) (g : Given) : Type 0 where
  pub slot : Slot
  pub found : slice_get slots g.0 ≡ Some slot
  pub fit : is_value slot.kind slot.words g.1 ≡ true
  pub free : is_settled slot.need g.0 given 0 slots ≡ false

valued_chosen : (slots : List Slot) (given : List Given) (column : ℕ) (value : List ℕ) (at : ℕ) (s : Slot) (g : Given) (r : Result (List ℕ) Refusal) → slice_get slots at ≡ Some s → is_settled s.need at given 0 slots ≡ false → valued s.kind s.words column value ≡ r → (r >>= λ text. Ok (at, text)) ≡ Ok g → Chosen slots given g
valued_chosen slots given column value at s g (Ok text) found free e h =
    let same : (at, text) ≡ g = cc in
    subst (λ x. Chosen slots given x) same (record { slot = s; found = found; fit = valued_fits s.kind s.words column value text e; free = free })
valued_chosen slots given column value at s g (Err x) found free e h = absurd (cc)

slot_chosen : (slots : List Slot) (given : List Given) (column : ℕ) (value : List ℕ) (at : ℕ) (s : Slot) (g : Given) (b : Bool) → slice_get slots at ≡ Some s → is_settled s.need at given 0 slots ≡ b → (if b then Err (Syntax column) else (valued s.kind s.words column value >>= λ text. Ok (at, text))) ≡ Ok g → Chosen slots given g
slot_chosen slots given column value at s g true found e h = absurd (cc)
slot_chosen slots given column value at s g false found e h = valued_chosen slots given column value at s g (valued s.kind s.words column value) found e refl h

found_chosen : (slots : List Slot) (given : List Given) (column : ℕ) (value : List ℕ) (at : ℕ) (g : Given) (o : Option Slot) → slice_get slots at ≡ o → chosen_value slots given column value at o ≡ Ok g → Chosen slots given g
found_chosen slots given column value at g None e h = absurd (cc)
found_chosen slots given column value at g (Some s) e h = slot_chosen slots given column value at s g (is_settled s.need at given 0 slots) e refl h

named_chosen : (slots : List Slot) (given : List Given) (column : ℕ) (value : List ℕ) (g : Given) (r : Result ℕ Refusal) → (r >>= λ at. chosen_value slots given column value at (slice_get slots at)) ≡ Ok g → Chosen slots given g
named_chosen slots given column value g (Ok at) h = found_chosen slots given column value at g (slice_get slots at) refl h
named_chosen slots given column value g (Err x) h = absurd (cc)

key_chosen : (slots : List Slot) (given : List Given) (column : ℕ) (key value : List ℕ) (g : Given) → key_value slots given column key value ≡ Ok g → Chosen slots given g
key_chosen slots given column key value g h =
    elim (length key == 0) as (λ b. (if b then Err (Syntax column) else (choose column key (map (λ (s : Slot). s.key) slots) >>= λ at. chosen_value slots given column value at (slice_get slots at))) ≡ Ok g → Chosen slots given g) [
      | true ↦ λ e. absurd (cc)
      | false ↦ λ e. named_chosen slots given column value g (choose column key (map (λ (s : Slot). s.key) slots)) e
    ] h

at_chosen : (slots : List Slot) (given : List Given) (w : Word) (g : Given) (o : Option ℕ) → keyword_at slots given w o ≡ Ok g → Chosen slots given g
at_chosen slots given w g None h = absurd (cc)
at_chosen slots given w g (Some at) h = key_chosen slots given w.column (take at w.text) (unquoted (drop (at + 1) w.text)) g h

-- ---- all keywords

-- a value that was given for a keyword fits it
pub Fitting : List Slot → List Given → Type 0
Fitting slots given = (at : ℕ) (s : Slot) (x : List ℕ) → slice_get slots at ≡ Some s → text_at at given ≡ Some x → is_value s.kind s.words x ≡ true

text_at-cases : (at n : ℕ) (t x : List ℕ) (given : List Given) → text_at at (given ++ (n, t) ∷ []) ≡ Some x → (text_at at given ≡ Some x) ⊎ ((n ≡ at) × (t ≡ x))
text_at-cases at n t x [] h =
    elim (n == at) as (λ b. (n == at) ≡ b → (if b then Some t else None) ≡ Some x → (text_at at [] ≡ Some x) ⊎ ((n ≡ at) × (t ≡ x))) [
      | true ↦ λ e k. inr (eqb-true n at e, cc)
      | false ↦ λ e k. absurd (cc)
    ] refl h
text_at-cases at n t x (g ∷ gs) h =
    elim (g.0 == at) as (λ b. (if b then Some g.1 else text_at at (gs ++ (n, t) ∷ [])) ≡ Some x → ((if b then Some g.1 else text_at at gs) ≡ Some x) ⊎ ((n ≡ at) × (t ≡ x))) [
      | true ↦ λ e. inl e
      | false ↦ λ e. text_at-cases at n t x gs e
    ] h

more_fitting : (slots : List Slot) (given : List Given) (g : Given) → Fitting slots given → Chosen slots given g → Fitting slots (given ++ g ∷ [])
unfolding Fitting
more_fitting slots given g all one at s x found there =
    elim (text_at-cases at g.0 g.1 x given there) [
      | inl e ↦ all at s x found e
      | inr e ↦ let same : one.slot ≡ s = cc in let t : g.1 ≡ x = e.1 in rw (← same, ← t) one.fit
    ]

-- the keywords that were given settle no keyword of another side
pub Apart : List Slot → List Given → Type 0
Apart slots given = (i j : ℕ) (s t : Slot) → slice_get slots i ≡ Some s → slice_get slots j ≡ Some t → is_some (text_at i given) ≡ true → is_some (text_at j given) ≡ true → are_opposed s.need t.need ≡ false

unsettled_rest : (need : Need) (key : ℕ) (given : List Given) (n : ℕ) (x : Slot) (ss : List Slot) → is_settled need key given n (x ∷ ss) ≡ false → is_settled need key given (n + 1) ss ≡ false
unsettled_rest need key given n x ss free = (or_parts (settles need key given n x) (is_settled need key given (n + 1) ss) free).1

unsettled_first : (need : Need) (key : ℕ) (given : List Given) (n : ℕ) (x : Slot) (ss : List Slot) → is_some (text_at n given) ≡ true → is_settled need key given n (x ∷ ss) ≡ false → are_opposed need x.need ≡ false
unsettled_first need key given n x ss there free =
    let settled : settles need key given n x ≡ false = (or_parts (settles need key given n x) (is_settled need key given (n + 1) ss) free).0 in
    let either : (n == key || are_opposed need x.need) ≡ false = rw there at settled in
    (or_parts (n == key) (are_opposed need x.need) either).1

-- a keyword that was not settled stands on no other side than one that was given
unsettled_at : (need : Need) (key : ℕ) (given : List Given) (n : ℕ) (ss : List Slot) (k : ℕ) (s : Slot) → slice_get ss k ≡ Some s → is_settled need key given n ss ≡ false → is_some (text_at (n + k) given) ≡ true → are_opposed need s.need ≡ false
unsettled_at need key given n [] k s found free there = absurd (cc)
unsettled_at need key given n (x ∷ ss) zero s found free there =
    let same : x ≡ s = cc in
    let e : n + 0 ≡ n = omega arith in
    let h : is_some (text_at n given) ≡ true = rw (← e) there in
    rw (← same) (unsettled_first need key given n x ss h free)
unsettled_at need key given n (x ∷ ss) (suc k) s found free there =
    let e : n + suc k ≡ (n + 1) + k = omega arith in
    let h : is_some (text_at ((n + 1) + k) given) ≡ true = rw (← e) there in
    unsettled_at need key given (n + 1) ss k s found (unsettled_rest need key given n x ss free) h

eqb_sym : (m n : ℕ) → (m == n) ≡ (n == m)
eqb_sym m n =
    elim (n == m) as (λ b. (n == m) ≡ b → (m == n) ≡ b) [
      | true ↦ λ e. eq-eqb m n (sym (eqb-true n m e))
      | false ↦ λ e. ne_eqb m n (λ k. let same : (n == m) ≡ true = eq-eqb n m (sym k) in cc)
    ] refl

apart_sym : (a b : Option ℕ) → are_apart a b ≡ are_apart b a
apart_sym (Some m) (Some n) = ap not (eqb_sym m n)
apart_sym (Some m) None = refl
apart_sym None (Some n) = refl
apart_sym None None = refl

apart_self : (a : Option ℕ) → are_apart a a ≡ false
apart_self (Some m) = ap not (eq-eqb m m refl)
apart_self None = refl

given_cases : (i : ℕ) (given : List Given) (g : Given) → is_some (text_at i (given ++ g ∷ [])) ≡ true → (is_some (text_at i given) ≡ true) ⊎ (g.0 ≡ i)
given_cases i given g h =
    elim (g.0 == i) as (λ b. (g.0 == i) ≡ b → (is_some (text_at i given) ≡ true) ⊎ (g.0 ≡ i)) [
      | true ↦ λ e. inr (eqb-true g.0 i e)
      | false ↦ λ e. inl (ap is_some (sym (text_at-other i g.0 g.1 given e)) ∙ h)
    ] refl

at_zero : (i : ℕ) (given : List Given) → is_some (text_at i given) ≡ true → is_some (text_at (0 + i) given) ≡ true
at_zero i given h = ap (λ k. is_some (text_at k given)) (zero-add i) ∙ h

more_apart : (slots : List Slot) (given : List Given) (g : Given) → Apart slots given → Chosen slots given g → Apart slots (given ++ g ∷ [])
unfolding Apart
more_apart slots given g all one i j s t si tj gi gj =
    elim (given_cases i given g gi) [
      | inl a ↦ elim (given_cases j given g gj) [
        | inl b ↦ all i j s t si tj a b
        | inr b ↦
            let same : one.slot ≡ t = cc in
            apart_sym (side_of s.need) (side_of t.need) ∙ ap (λ (x : Slot). are_opposed x.need s.need) (sym same) ∙ unsettled_at one.slot.need g.0 given 0 slots i s si one.free (at_zero i given a)
      ]
      | inr a ↦
          let same : one.slot ≡ s = cc in
          ap (λ (x : Slot). are_opposed x.need t.need) (sym same) ∙ elim (given_cases j given g gj) [
            | inl b ↦ unsettled_at one.slot.need g.0 given 0 slots j t tj one.free (at_zero j given b)
            | inr b ↦ let too : one.slot ≡ t = cc in ap (λ (x : Slot). are_opposed one.slot.need x.need) (sym too) ∙ apart_self (side_of one.slot.need)
          ]
    ]

-- what is sure once the keywords were read
pub record Sure (slots : List Slot) (given : List Given) : Type 0 where
  pub fitting : Fitting slots given
  pub apart : Apart slots given
  pub complete : is_complete slots given 0 slots ≡ true

all_sure : (slots : List Slot) (end : ℕ) (given : List Given) (ws : List Word) (r : List Given) → Fitting slots given → Apart slots given → keywords_from slots end given ws ≡ Ok r → Sure slots r
all_sure slots end given [] r fitting apart h =
    elim (is_complete slots given 0 slots) as (λ b. is_complete slots given 0 slots ≡ b → (if b then Ok given else Err (Syntax end)) ≡ Ok r → Sure slots r) [
      | true ↦ λ e k. let same : given ≡ r = cc in subst (λ x. Sure slots x) same (record { fitting = fitting; apart = apart; complete = e })
      | false ↦ λ e k. absurd (cc)
    ] refl h
all_sure slots end given (w ∷ ws) r fitting apart h =
    elim (keyword slots given w) as (λ g. keyword slots given w ≡ g → (g >>= λ x. keywords_from slots end (given ++ x ∷ []) ws) ≡ Ok r → Sure slots r) [
      | Ok g ↦ λ e k.
          let one = at_chosen slots given w g (equals_at w.text) e in
          all_sure slots end (given ++ g ∷ []) ws r (more_fitting slots given g fitting one) (more_apart slots given g apart one) k
      | Err x ↦ λ e k. absurd (cc)
    ] refl h

none_fitting : (slots : List Slot) → Fitting slots []
unfolding Fitting
none_fitting slots at s x found there = absurd (cc)

none_apart : (slots : List Slot) → Apart slots []
unfolding Apart
none_apart slots i j s t si tj gi gj = absurd (cc)

pub sure : (slots : List Slot) (end : ℕ) (ws : List Word) (r : List Given) → keywords_from slots end [] ws ≡ Ok r → Sure slots r
sure slots end ws r h = all_sure slots end [] ws r (none_fitting slots) (none_apart slots) h

-- ---- what the clauses say

settled_given : (key : ℕ) (given : List Given) (n : ℕ) (ss : List Slot) → is_settled Required key given n ss ≡ true → is_some (text_at key given) ≡ true
settled_given key given n [] h = absurd (cc)
settled_given key given n (s ∷ ss) h =
    elim (or_cases (settles Required key given n s) (is_settled Required key given (n + 1) ss) h) [
      | inl e ↦ elim (or_cases (n == key) (are_opposed Required s.need) ((and_parts (is_some (text_at n given)) (n == key || are_opposed Required s.need) e).1)) [
        | inl same ↦ ap (λ k. is_some (text_at k given)) (sym (eqb-true n key same)) ∙ (and_parts (is_some (text_at n given)) (n == key || are_opposed Required s.need) e).0
        | inr other ↦ absurd (cc)
      ]
      | inr e ↦ settled_given key given (n + 1) ss e
    ]

complete_at : (all : List Slot) (given : List Given) (n : ℕ) (ss : List Slot) (k : ℕ) (s : Slot) → slice_get ss k ≡ Some s → is_complete all given n ss ≡ true → is_needed s.need ≡ true → is_settled s.need (n + k) given 0 all ≡ true
complete_at all given n [] k s found h needed = absurd (cc)
complete_at all given n (x ∷ ss) zero s found h needed =
    let same : x ≡ s = cc in
    let e : n + 0 ≡ n = omega arith in
    let first : (not (is_needed x.need) || is_settled x.need n given 0 all) ≡ true = (and_parts (not (is_needed x.need) || is_settled x.need n given 0 all) (is_complete all given (n + 1) ss) h).0 in
    let need : is_needed x.need ≡ true = rw same needed in
    let settled : is_settled x.need n given 0 all ≡ true = rw need at first in
    rw (e, ← same) settled
complete_at all given n (x ∷ ss) (suc k) s found h needed =
    let e : n + suc k ≡ (n + 1) + k = omega arith in
    rw (e) (complete_at all given (n + 1) ss k s found ((and_parts (not (is_needed x.need) || is_settled x.need n given 0 all) (is_complete all given (n + 1) ss) h).1) needed)

required_given : (slots : List Slot) (given : List Given) (k : ℕ) (s : Slot) → slice_get slots k ≡ Some s → is_complete slots given 0 slots ≡ true → s.need ≡ Required → is_some (text_at k given) ≡ true
required_given slots given k s found h required =
    let needed : is_needed s.need ≡ true = ap is_needed required in
    let settled : is_settled s.need k given 0 slots ≡ true = ap (λ n. is_settled s.need n given 0 slots) (sym (zero-add k)) ∙ complete_at slots given 0 slots k s found h needed in
    settled_given k given 0 slots (ap (λ need. is_settled need k given 0 slots) (sym required) ∙ settled)

required_is : (need : Need) → is_required need ≡ true → need ≡ Required
required_is Required h = refl
required_is Optional h = absurd (cc)
required_is (OneSide n) h = absurd (cc)
required_is (AnySide n) h = absurd (cc)

is_fit_given : (s : Slot) (k : ℕ) (slots : List Slot) (given : List Given) (o : Option (List ℕ)) → Sure slots given → slice_get slots k ≡ Some s → text_at k given ≡ o → is_fit s.kind s.words (is_required s.need) o ≡ true
unfolding Fitting
is_fit_given s k slots given (Some x) one found there = one.fitting k s x found there
is_fit_given s k slots given None one found there =
    elim (is_required s.need) as (λ b. is_required s.need ≡ b → not b ≡ true) [
      | true ↦ λ e. let given_too = required_given slots given k s found one.complete (required_is s.need e) in absurd (cc)
      | false ↦ λ e. refl
    ] refl

pub keywords_fit : (slots : List Slot) (end : ℕ) (ws : List Word) (r : List Given) → keywords_from slots end [] ws ≡ Ok r → KeywordsFit slots r
keywords_fit slots end ws r h at =
    elim (slice_get slots at) as (λ o. slice_get slots at ≡ o → IfSome o (λ s. IsTrue (is_fit s.kind s.words (is_required s.need) (text_at at r)))) [
      | Some s ↦ λ e. is_fit_given s at slots r (text_at at r) (sure slots end ws r h) e refl
      | None ↦ λ e. tt
    ] refl

apart_said : (o a b : Bool) → (a ≡ true → b ≡ true → o ≡ false) → not (o && a && b) ≡ true
apart_said false a b h = refl
apart_said true false b h = refl
apart_said true true false h = refl
apart_said true true true h = let e = h refl refl in absurd (cc)

pub sides_apart : (slots : List Slot) (end : ℕ) (ws : List Word) (r : List Given) → keywords_from slots end [] ws ≡ Ok r → SidesApart slots r
unfolding Apart
sides_apart slots end ws r h i j =
    elim (slice_get slots i) as (λ o. slice_get slots i ≡ o → IfSome o (λ s. IfSome (slice_get slots j) (λ t. IsTrue (are_apart_given s t (text_at i r) (text_at j r))))) [
      | Some s ↦ λ e. elim (slice_get slots j) as (λ o. slice_get slots j ≡ o → IfSome o (λ t. IsTrue (are_apart_given s t (text_at i r) (text_at j r)))) [
        | Some t ↦ λ k. apart_said (are_opposed s.need t.need) (is_some (text_at i r)) (is_some (text_at j r)) ((sure slots end ws r h).apart i j s t e k)
        | None ↦ λ k. tt
      ] refl
      | None ↦ λ e. tt
    ] refl
