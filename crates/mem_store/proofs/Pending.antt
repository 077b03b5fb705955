-- Which calls are pending, as a list of calls grows at its end.
use Rattle.std.proofs.Common.{◌≡◌, cond, eqb, not, Bool, true, false, ◌&&◌, ◌||◌, ℕ, zero, ◌+◌, ◌≤◌, List, [], ◌∷◌, ◌++◌, refl, sym, ◌∙◌, ap, arith, inl, inr}
use Rattle.std.proofs.lemmas.Bool.{cases_Bool, cond-true, cond-false, cond_both, and_from, and_left, and_right}
use Rattle.mem_store.specs.declared.entry.Kind.{Kind}
use Rattle.mem_store.specs.declared.entry.Kind.TheVariants.{Write, FailedWrite, Cut, Sync}
use Rattle.mem_store.specs.declared.entry.Entry.{Entry}
use Rattle.mem_store.specs.Stops.{is_sync, is_write, has_sync, pending_writes, pending_after, pending_next}

-- a sync of the file at the end
has_sync_end : (es : List Entry) (e : Entry) (file : ℕ) → (is_sync e.kind && eqb e.file file) ≡ true → has_sync (es ++ e ∷ []) file ≡ true
has_sync_end [] e file is = ap (λ b. b || false) is
has_sync_end (x ∷ es) e file is = ap (λ b. (is_sync x.kind && eqb x.file file) || b) (has_sync_end es e file is) ∙ or_true (is_sync x.kind && eqb x.file file)
  where
    or_true : (b : Bool) → (b || true) ≡ true
    or_true true = refl
    or_true false = refl

-- anything else at the end
has_sync_same : (es : List Entry) (e : Entry) (file : ℕ) → (is_sync e.kind && eqb e.file file) ≡ false → has_sync (es ++ e ∷ []) file ≡ has_sync es file
has_sync_same [] e file is = ap (λ b. b || false) is
has_sync_same (x ∷ es) e file is = ap (λ b. (is_sync x.kind && eqb x.file file) || b) (has_sync_same es e file is)

one : Bool → ℕ
one b = cond b 1 0

nothing : (w a : Bool) → one (w && (a && not true)) ≡ zero
unfolding one
nothing true true = refl
nothing true false = refl
nothing false a = refl

-- after a sync of the file none is pending
pending_sync : (es : List Entry) (e : Entry) (file : ℕ) → is_sync e.kind ≡ true → eqb e.file file ≡ true → pending_writes (es ++ e ∷ []) file ≡ zero
unfolding one
pending_sync [] e file sync here =
    alone (is_write e.kind) (eqb e.file file) (is_sync e.kind) sync
  where
    alone : (w a s : Bool) → s ≡ true → one (w && ((a && not s) && not false)) + zero ≡ zero
    alone true true true h = refl
    alone true true false h = cc
    alone true false s h = refl
    alone false a s h = refl
pending_sync (x ∷ es) e file sync here =
    ap (λ b. one (is_write x.kind && (eqb x.file file && not (is_sync x.kind) && not b)) + pending_writes (es ++ e ∷ []) file) (has_sync_end es e file (and_from (is_sync e.kind) (eqb e.file file) sync here))
    ∙ omega (arith, nothing (is_write x.kind) (eqb x.file file && not (is_sync x.kind)), pending_sync es e file sync here)

-- after another call those that were, and the call itself where it is a write of the file
pending_more : (es : List Entry) (e : Entry) (file : ℕ) → (is_sync e.kind && eqb e.file file) ≡ false
    → pending_writes (es ++ e ∷ []) file ≡ pending_writes es file + one (is_write e.kind && (eqb e.file file && not (is_sync e.kind)))
unfolding one
pending_more [] e file is = alone (is_write e.kind) (eqb e.file file && not (is_sync e.kind))
  where
    alone : (w a : Bool) → one (w && (a && not false)) + zero ≡ zero + one (w && a)
    alone true true = refl
    alone true false = refl
    alone false a = refl
pending_more (x ∷ es) e file is =
    ap (λ b. one (is_write x.kind && (eqb x.file file && not (is_sync x.kind) && not b)) + pending_writes (es ++ e ∷ []) file) (has_sync_same es e file is)
    ∙ omega (arith, pending_more es e file is)

-- one more call
pub pending_step : (es : List Entry) (e : Entry) (file : ℕ) → pending_writes (es ++ e ∷ []) file ≡ pending_next e file (pending_writes es file)
unfolding one
pending_step es e file = elim (cases_Bool (eqb e.file file)) [
  | inl here ↦ by_kind e.kind refl here ∙ sym (cond-true _ _ _ here)
  | inr apart ↦ pending_more es e file (and_right (is_sync e.kind) (eqb e.file file) apart) ∙ off (is_write e.kind) (eqb e.file file) (is_sync e.kind) apart (pending_writes es file) ∙ sym (cond-false _ _ _ apart)
]
  where
    off : (w a s : Bool) → a ≡ false → (n : ℕ) → n + one (w && (a && not s)) ≡ n
    off true true s h n = cc
    off true false s h n = omega arith
    off false a s h n = omega arith

    more : (k : Kind) → e.kind ≡ k → is_sync k ≡ false → eqb e.file file ≡ true → pending_writes (es ++ e ∷ []) file ≡ pending_writes es file + one (is_write k && (true && not (is_sync k)))
    more k is not_sync here =
        pending_more es e file (and_left (is_sync e.kind) (eqb e.file file) (ap is_sync is ∙ not_sync))
        ∙ ap (λ b. pending_writes es file + one (is_write e.kind && (b && not (is_sync e.kind)))) here ∙ ap (λ x. pending_writes es file + one (is_write x && (true && not (is_sync x)))) is

    by_kind : (k : Kind) → e.kind ≡ k → eqb e.file file ≡ true → pending_writes (es ++ e ∷ []) file ≡ pending_after e.kind (pending_writes es file)
    by_kind Write is here = more Write is refl here ∙ sym (ap (λ k. pending_after k (pending_writes es file)) is)
    by_kind FailedWrite is here = more FailedWrite is refl here ∙ sym (ap (λ k. pending_after k (pending_writes es file)) is)
    by_kind Cut is here = let none : pending_writes es file + zero ≡ pending_writes es file = omega arith in more Cut is refl here ∙ none ∙ sym (ap (λ k. pending_after k (pending_writes es file)) is)
    by_kind Sync is here = pending_sync es e file (ap is_sync is) here ∙ sym (ap (λ k. pending_after k (pending_writes es file)) is)

pub pending_next_few : (e : Entry) (file count : ℕ) → pending_next e file count ≤ count + 1
pending_next_few e file count = cond_both (eqb e.file file) (pending_after e.kind count) count (λ n. n ≤ count + 1) (λ here. few e.kind) (λ apart. omega arith)
  where
    few : (k : Kind) → pending_after k count ≤ count + 1
    few Write = omega arith
    few FailedWrite = omega arith
    few Cut = omega arith
    few Sync = omega arith
