-- What files recover to in the first form is written in the second, as the next generation, and so a vault is opened.
use Rattle.std.proofs.Common.{◌≡◌, ⊎_elim, inl, inr, ℕ, ◌+◌, ◌<◌, ◌^◌, true, false, List, [], length, Option, None, Some, Bool, Result, Ok, Err, IfOk, IfErr, sym, ◌∙◌, ap, subst, arith}
use Rattle.store_api.specs.Disk.{History, reads, now}
use Rattle.store_api.specs.Runs.{GoesOn, EachImage}
use Rattle.store_api.specs.Told.{Told}
use Rattle.store_api.proofs.Runs.{goes_none, goes_then, goes_weaker, goes_later, each_then}
use Rattle.store_api.proofs.Pieces.{image_reads}
use Rattle.kinds.specs.declared.refusal.OpenRefused.{OpenRefused}
use Rattle.kinds.specs.declared.refusal.OpenRefused.TheVariants.{ReadFault, NotFormatted, Damaged, RunFull, Memory}
use Rattle.db_image.specs.declared.mark.Mark.TheVariants.{Server}
use Rattle.db_image.specs.Images.{NeverSpent}
use Rattle.fields.specs.Editions.{Edition, first_form, second_form}
use Rattle.entries.specs.Meaning.{Meaning, IsMeaning}
use Rattle.vault.specs.Files.{IsOurs, IsOf}
use Rattle.vault.specs.Recovery.{RecoversWithin}
use Rattle.vault.specs.Images.{Replaced}
use Rattle.vault.specs.Vaults.{State, Holds, IsGoodIn, IsGood}
use Rattle.vault.specs.Openings.{SaysWhy, OpenedAs, Recovered, Rewritten, HadOne, Spared, Opened, MayRefuseFormatting}
use Rattle.vault.proofs.Checkpointing.{of_ours, replaced_since, replaced_holds, images_stay, holds_behind, written_unspent}
use Rattle.vault.proofs.Goodness.{good_image, good_since}
use Rattle.vault.proofs.Sounding.{had_one}

module _ {D : Type 0} (m : Meaning D) (vault : State D) where
  -- nothing was done
  pub none_rewritten : (why : OpenRefused) (h : History) → (let result : Result (State D) OpenRefused = Err why in Rewritten m vault result h h)
  none_rewritten why h = record {
    goes = goes_none IsOurs h;
    since = λ form good moment files from to here. good_since m (λ file. ⊥) vault h h (λ file ours no. no)
        (goes_none (λ file. ⊥) h) good moment files from to here;
    good = tt;
    good_now = tt;
  }

  pub told_none_rewritten : (x : Option History) (why : OpenRefused) → Told x x (λ old new. let result : Result (State D) OpenRefused = Err why in Rewritten m vault result old new)
  told_none_rewritten None why = tt
  told_none_rewritten (Some h) why = none_rewritten why h

  module _ (law : IsMeaning m) (payload : List ℕ) (valid : m.Valid second_form vault.database) (spelled : payload ≡ m.spelled second_form vault.database) (old new : History) where
    unspent : NeverSpent Server (vault.generation + 1) payload
    unspent = written_unspent m law (vault.generation + 1) payload vault.database valid spelled

    since : {U V : Type 0} (put : Result U V) → Replaced (vault.generation + 1) payload put old new → (form : Edition) → IsGoodIn form m vault old → EachImage (now old) new (λ files. RecoversWithin m files vault.database)
    since put replaced form good moment files from to here =
        ⊎_elim (λ before. subst (RecoversWithin m files) (sym good.gives) before) (λ after. after)
        (replaced_since m vault.generation good.base good.entries vault.end vault.database valid payload spelled unspent old new form good.holds put replaced moment files from to here)

    ours : {U V : Type 0} (put : Result U V) → Replaced (vault.generation + 1) payload put old new → GoesOn IsOurs old new
    ours put replaced = goes_weaker (IsOf (vault.generation + 1)) IsOurs old new (of_ours (vault.generation + 1)) replaced.goes

    pub not_rewritten : {U V : Type 0} (why : OpenRefused) (failed : V) → (let put : Result U V = Err failed in Replaced (vault.generation + 1) payload put old new) → (let result : Result (State D) OpenRefused = Err why in Rewritten m vault result old new)
    not_rewritten why failed replaced = record { goes = ours (Err failed) replaced; since = since (Err failed) replaced; good = tt; good_now = tt }

    pub is_rewritten : {U V : Type 0} (next : State D) (log : U) → vault.generation + 1 < 2 ^ 62 → next.generation ≡ vault.generation + 1 → next.database ≡ vault.database → next.end ≡ 0
        → next.sure ≡ next.end → next.forced ≡ length next.journal → (let put : Result U V = Ok log in Replaced (vault.generation + 1) payload put old new)
        → (let result : Result (State D) OpenRefused = Ok next in Rewritten m vault result old new)
    is_rewritten {U} {V} next log few at has ends none all replaced = record {
      goes = ours (Ok log) replaced;
      since = since (Ok log) replaced;
      good = λ form good. good_with (replaced_holds m vault.generation good.base good.entries vault.end vault.database valid payload spelled unspent old new form good.holds log replaced);
      good_now = λ start are. (let stay = images_stay vault.generation start old few are in
          good_with (holds_behind {T = U} {E = V} m vault.generation are.payload vault.database valid payload spelled unspent old new stay.0 stay.1 log replaced));
    }
      where
        good_with : Holds m (vault.generation + 1) vault.database [] 0 new → IsGood m next new
        good_with holds = record {
          base = vault.database;
          entries = [];
          holds = subst (λ (k : ℕ). Holds m k vault.database [] next.end new) (sym at) (subst (λ (e : ℕ). Holds m (vault.generation + 1) vault.database [] e new) (sym ends) holds);
          gives = has;
          none = none;
          all = all;
        }

module _ {D : Type 0} (m : Meaning D) (old mid new : History) where
  -- it couldn't be read
  pub opened_not : (refusal : OpenRefused) → (let found : Result (State D × Bool) OpenRefused = Err refusal in Recovered m found old new) → (let result : Result (State D) OpenRefused = Err refusal in Opened m result old new)
  opened_not refusal recovered = record {
    spared = record { goes = recovered.calm.goes; calm = λ written. recovered.calm; since = had_one m old new recovered.calm };
    opens = tt;
    says = recovered.says;
    good = λ sound. tt;
    good_now = λ sound. tt;
  }

  -- it is in the form that is written
  pub opened_same : (vault : State D) (first : Bool) → first ≡ false → (let found : Result (State D × Bool) OpenRefused = Ok (vault, first) in Recovered m found old new) → (let result : Result (State D) OpenRefused = Ok vault in Opened m result old new)
  opened_same vault first not given =
      let recovered : (let found : Result (State D × Bool) OpenRefused = Ok (vault, false) in Recovered m found old new) = subst (λ (b : Bool). let found : Result (State D × Bool) OpenRefused = Ok (vault, b) in Recovered m found old new) not given in
      record {
        spared = record { goes = recovered.calm.goes; calm = λ written. recovered.calm; since = had_one m old new recovered.calm };
        opens = (recovered.recovers.0, inl (recovered.recovers.1, sym recovered.recovers.2));
        says = tt;
        good = recovered.good;
        good_now = recovered.good_now;
      }

  -- it was in the first
  module _ (vault : State D) (first : Bool) (is_first : first ≡ true) (given : (let found : Result (State D × Bool) OpenRefused = Ok (vault, first) in Recovered m found old mid)) where
    recovered : (let found : Result (State D × Bool) OpenRefused = Ok (vault, true) in Recovered m found old mid)
    recovered = subst (λ (b : Bool). let found : Result (State D × Bool) OpenRefused = Ok (vault, b) in Recovered m found old mid) is_first given

    module _ (result : Result (State D) OpenRefused) (rewritten : Rewritten m vault result mid new) where
      spared : Spared m old new
      spared = record {
        goes = goes_then IsOurs old mid new recovered.calm.goes rewritten.goes;
        calm = λ written. absurd (let none : first_form ≡ second_form = sym recovered.recovers.1 ∙ written vault.database recovered.recovers.0 in cc);
        since = λ sound.
            each_then IsOurs old mid new (HadOne m old) rewritten.goes (had_one m old mid recovered.calm sound)
            (λ moment files from to here. record {
              database = vault.database;
              recovers = rewritten.since first_form (recovered.good sound) moment files from to here;
              start = reads mid;
              left = recovered.calm.images (now mid) (reads mid) (goes_later IsOurs old mid recovered.calm.goes) (omega arith) (image_reads mid);
              same = good_image m vault mid (reads mid) (recovered.good sound) (image_reads mid);
            });
      }

    pub opened_anew : (result : Result (State D) OpenRefused) → IfOk result (λ next. (next.generation ≡ vault.generation + 1) × (next.database ≡ vault.database)) → (before after : ℕ → ℕ) (moment : ℕ) → IfErr result (MayRefuseFormatting before after moment) → Rewritten m vault result mid new → Opened m result old new
    opened_anew (Ok next) same before after moment may rewritten = record {
      spared = spared (Ok next) rewritten;
      opens = subst (λ (d : D). OpenedAs m (reads old) d next.generation) (sym same.1) (recovered.recovers.0, inr (recovered.recovers.1, same.0 ∙ ap (λ (n : ℕ). n + 1) (sym recovered.recovers.2)));
      says = tt;
      good = λ sound. rewritten.good first_form (recovered.good sound);
      good_now = λ sound. rewritten.good_now old recovered.images;
    }
    opened_anew (Err refusal) same before after moment may rewritten = record {
      spared = spared (Err refusal) rewritten;
      opens = tt;
      says = why refusal may;
      good = λ sound. tt;
      good_now =
          λ sound. tt;
    }
      where
        why : (refusal : OpenRefused) → MayRefuseFormatting before after moment refusal → SaysWhy m (reads old) refusal
        why (ReadFault file) may = tt
        why NotFormatted may = absurd may
        why (Damaged file at) may = absurd may
        why RunFull may = tt
        why Memory may = tt
