-- What came of the files of a batch, one after the other.
use Rattle.std.proofs.Common.{◌≡◌, suc, Bool, true, false, ◌||◌, List, [], ◌∷◌, ◌++◌, length, if◌then◌else◌, Option, refl, sym, ap, ◌∙◌, append-nil, append_assoc, arith}
use Rattle.kinds.specs.declared.refusal.Holder.{Holder}
use Rattle.kinds.specs.declared.refusal.Refusal.{Refusal}
use Rattle.client_files.specs.declared.outcome.Came.{Came}
use Rattle.client_batches.specs.Verdicts.{holder_of, has_ticket, left_behind, verdict, verdicts, waiting, waits}

-- what came of those so far, and then of those that are left, is all; and so it is of who is waited for
pub record Settled (settled : List (Option Refusal)) (some : Bool) (left sealed : List Came) (outs : List (Option Refusal)) (all : List (Option Refusal)) (holder : Option Holder) : Type 0 where
  pub whole : settled ++ verdicts some left sealed outs ≡ all
  pub held : waiting some left ≡ holder
  pub each : length sealed ≡ length left

pub settled-next : (settled new : List (Option Refusal)) (some now : Bool) (left more sealed behind : List Came) (it s : Came) (outs others all : List (Option Refusal)) (holder : Option Holder) → left ≡ it ∷ more → sealed ≡ s ∷ behind
    → waits some it ≡ false → new ≡ settled ++ verdict s outs ∷ [] → others ≡ left_behind s outs → now ≡ (some || has_ticket it) → Settled settled some left sealed outs all holder
    → Settled new now more behind others all holder
settled-next settled new some now left more sealed behind it s outs others all holder cut parts go put rest is h = record {
  whole = ap (λ (os : List (Option Refusal)). new ++ verdicts now more behind os) rest ∙ ap (λ b. new ++ verdicts b more behind (left_behind s outs)) is
      ∙ ap (λ (os : List (Option Refusal)). os ++ verdicts (some || has_ticket it) more behind (left_behind s outs)) put
      ∙ append_assoc settled (verdict s outs ∷ []) (verdicts (some || has_ticket it) more behind (left_behind s outs))
      ∙ ap (λ b. settled ++ (if b then [] else verdict s outs ∷ verdicts (some || has_ticket it) more behind (left_behind s outs))) (sym go)
      ∙ ap (λ (ss : List Came). settled ++ verdicts some (it ∷ more) ss outs) (sym parts) ∙ ap (λ (cs : List Came). settled ++ verdicts some cs sealed outs) (sym cut) ∙ h.whole;
  held = ap (λ b. waiting b more) is ∙ ap (λ b. if b then holder_of it else waiting (some || has_ticket it) more) (sym go) ∙ ap (λ (cs : List Came). waiting some cs) (sym cut) ∙ h.held;
  each = let long : length sealed ≡ suc (length behind) = ap length parts in
      let whole : length left ≡ suc (length more) = ap length cut in
      let same = h.each in
      omega (arith, long, whole, same);
}

-- none of them is left where all are handled
settled_none : (some b : Bool) (more sealed : List Came) (it : Came) (outs : List (Option Refusal)) → waits some it ≡ b → b ≡ true → verdicts some (it ∷ more) sealed outs ≡ []
settled_none some b more [] it outs is stop = refl
settled_none some b more (s ∷ sealed) it outs is stop = ap (λ c. if c then [] else verdict s outs ∷ verdicts (some || has_ticket it) more sealed (left_behind s outs)) (is ∙ stop)

pub settled-whole : (settled : List (Option Refusal)) (some : Bool) (left more sealed : List Came) (it : Came) (outs all : List (Option Refusal)) (holder : Option Holder) → left ≡ it ∷ more → waits some it ≡ true
    → Settled settled some left sealed outs all holder → settled ≡ all
settled-whole settled some left more sealed it outs all holder cut stop h =
    sym (append-nil settled) ∙ ap (λ (os : List (Option Refusal)). settled ++ os) (sym (settled_none some (waits some it) more sealed it outs refl stop))
    ∙ ap (λ (cs : List Came). settled ++ verdicts some cs sealed outs) (sym cut) ∙ h.whole

pub settled-held : (settled : List (Option Refusal)) (some : Bool) (left more sealed : List Came) (it : Came) (outs all : List (Option Refusal)) (holder : Option Holder) → left ≡ it ∷ more → waits some it ≡ true
    → Settled settled some left sealed outs all holder → holder_of it ≡ holder
settled-held settled some left more sealed it outs all holder cut stop h =
    ap (λ b. if b then holder_of it else waiting (some || has_ticket it) more) (sym stop) ∙ ap (λ (cs : List Came). waiting some cs) (sym cut) ∙ h.held

-- as many are left of both
pub settled-never : (settled : List (Option Refusal)) (some : Bool) (left more sealed : List Came) (it : Came) (outs all : List (Option Refusal)) (holder : Option Holder) → left ≡ it ∷ more → length sealed ≡ 0
    → Settled settled some left sealed outs all holder → ⊥
settled-never settled some left more sealed it outs all holder cut none h =
    let whole : length left ≡ suc (length more) = ap length cut in
    let same = h.each in
    omega (arith, none, whole, same)
