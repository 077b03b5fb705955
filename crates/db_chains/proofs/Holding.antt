-- A backup is read for the whole database that it holds.
use Rattle.std.proofs.Common.{◌≡◌, ℕ, List, Option, None, Some, Result, Ok, Err, refl, sym, ◌∙◌, ap, subst}
use Rattle.store_api.specs.Disk.{History, reads, settled}
use Rattle.entries.specs.Meaning.{Meaning, IsMeaning}
use Rattle.backup_payloads.specs.declared.payload.Payload.TheVariants as payload
use Rattle.db_chains.specs.declared.refused.ChainRefused.{ChainRefused}
use Rattle.db_chains.specs.declared.refused.ChainRefused.TheVariants as refused
use Rattle.db_chains.specs.declared.backup.Found.{Found}
use Rattle.db_chains.specs.declared.backup.Kind.{Kind}
use Rattle.db_chains.specs.declared.backup.Kind.TheVariants.{Whole, Since}
use Rattle.db_chains.specs.Chains.{IsBackup}
use Rattle.db_chains.specs.Looks.{IsLasting, IsOfKind, Looks, whole_of}
use Rattle.db_chains.specs.Reads.{NoWhole, ReadWhole, SaysNoWhole}
use Rattle.db_chains.proofs.Unique.{not_both, one_backup}

says_nothing : {D : Type 0} (m : Meaning D) (files : ℕ → List ℕ) (file : ℕ) (why : ChainRefused) → IsLasting why → SaysNoWhole m files file why
says_nothing m files file (refused.NotABackup at) lasting = absurd lasting
says_nothing m files file (refused.ReadFault at) lasting = tt
says_nothing m files file refused.RunFull lasting = tt
says_nothing m files file refused.Memory lasting = tt

module _ {D : Type 0} {m : Meaning D} (law : IsMeaning m) (file : ℕ) where
  -- the file couldn't be read
  pub whole_failed : (why : ChainRefused) (old new : History) → IsLasting why → (let result : Result (Option (Found D)) ChainRefused = Err why in Looks m file result old new) → (let result : Result D ChainRefused = Err why in ReadWhole m file result old new)
  whole_failed why old new lasting l = record { settles = l.settles; gives = tt; says = says_nothing m (reads old) file why lasting }

  -- it has no backup
  pub whole_none : (old new : History) → (let result : Result (Option (Found D)) ChainRefused = Ok None in Looks m file result old new) → (let result : Result D ChainRefused = Err (refused.NotABackup file) in ReadWhole m file result old new)
  whole_none old new l = record { settles = l.settles; gives = tt; says = (refl, λ number d is. l.finds number (payload.Whole d) is) }

  held_whole : (files : ℕ → List ℕ) (number : ℕ) (bytes : List ℕ) (kind : Kind D) (d : D) → Some d ≡ whole_of kind → IsOfKind m files file number bytes kind → IsBackup m files file number (payload.Whole d)
  held_whole files number bytes (Whole e) d is held = subst (λ (x : D). IsBackup m files file number (payload.Whole x)) (let same : e ≡ d = (let both : Some d ≡ Some e = is in cc) in same) held
  held_whole files number bytes (Since after base) d is held = absurd (let none : Some d ≡ None = is in cc)

  -- its backup holds a database
  pub whole_read : (found : Found D) (d : D) (old new : History) → Some d ≡ whole_of found.kind → (let result : Result (Option (Found D)) ChainRefused = Ok (Some found) in Looks m file result old new) → (let result : Result D ChainRefused = Ok d in ReadWhole m file result old new)
  whole_read found d old new is l = record {
    settles = l.settles;
    gives = record {
      number = found.number;
      backup = held_whole (reads old) found.number found.payload.items found.kind d is l.finds;
      settled = l.durable ∙ ap settled (sym (l.settles.same file));
    };
    says = tt;
  }

  held_since : (files : ℕ → List ℕ) (number : ℕ) (bytes : List ℕ) (kind : Kind D) → None ≡ whole_of kind → IsOfKind m files file number bytes kind → NoWhole m files file
  held_since files number bytes (Whole e) is held = absurd (let none : None ≡ Some e = is in cc)
  held_since files number bytes (Since after base) is held = λ other d backup.
      not_both d held.0 (one_backup {m = m} law files file other number (payload.Whole d) (payload.Since held.0) backup held.1).1

  -- its backup holds the transactions behind another one
  pub whole_since : (found : Found D) (old new : History) → None ≡ whole_of found.kind → (let result : Result (Option (Found D)) ChainRefused = Ok (Some found) in Looks m file result old new) → (let result : Result D ChainRefused = Err (refused.NotABackup file) in ReadWhole m file result old new)
  whole_since found old new is l = record { settles = l.settles; gives = tt; says = (refl, held_since (reads old) found.number found.payload.items found.kind is l.finds) }
