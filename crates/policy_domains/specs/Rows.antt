-- Policy domains as they are seen: rows by name, in ascending order of the names' bytes; a name is the list of its bytes.
use Rattle.std.specs.Prelude.{ℕ, Bool, List, Option, Some, None, is_some, Result, Ok, Err, if◌then◌else◌, codes, nat_eq}
use Rattle.std.specs.Ordering.{nat_cmp}
use Rattle.std.specs.Cmp.Lexicographic.{slice_cmp, pointwise}
use Rattle.std.specs.Map.{lookup, set_value, remove_entry}
use Rattle.std.specs.BTreeMap.{insert_entry, is_at}
use Rattle.kinds.specs.Names.{is_same_name}
use Rattle.kinds.specs.declared.refusal.Refusal.{Refusal}
use Rattle.kinds.specs.declared.refusal.Refusal.TheVariants.{NotFound, Exists}
use Rattle.policy_domains.specs.declared.classes.ManagementClass.{ManagementClass}

-- a policy set: its default management class, where it has one, and its classes, each with the rules of its copy groups
pub record SetRow : Type 0 where
  pub default_class : Option (List ℕ)
  pub classes : List (List ℕ × ManagementClass)

-- a policy domain: BACKRETENTION, in days, and its policy sets
pub record DomainRow : Type 0 where
  pub back_retention : ℕ
  pub sets : List (List ℕ × SetRow)

-- the policy set that binds clients
abbrev pub active_set : List ℕ
active_set = codes "ACTIVE"

module _ {V : Type 0} where
  -- the row with this name, where there is one
  abbrev pub row_of : List ℕ → List (List ℕ × V) → Option V
  row_of name rows = lookup (is_at (slice_cmp nat_cmp name)) rows

  -- the rows with this one, which takes the place of one with its name
  abbrev pub with_row : List ℕ → V → List (List ℕ × V) → List (List ℕ × V)
  with_row name v rows = insert_entry (slice_cmp nat_cmp) rows name v

  -- the rows after the one with this name has changed to v
  abbrev pub with_value : List ℕ → V → List (List ℕ × V) → List (List ℕ × V)
  with_value name v rows = set_value (is_at (slice_cmp nat_cmp name)) rows v

  -- the rows but the one with this name
  abbrev pub without_row : List ℕ → List (List ℕ × V) → List (List ℕ × V)
  without_row name rows = remove_entry (is_at (slice_cmp nat_cmp name)) rows

-- what became of a part, put in its place
abbrev pub within : {A B : Type 0} → (A → B) → Result A Refusal → Result B Refusal
within place (Ok a) = Ok (place a)
within place (Err e) = Err e

module _ {V : Type 0} where
  -- a row is defined; a name that is taken is refused
  abbrev pub defined : List ℕ → V → List (List ℕ × V) → Result (List (List ℕ × V)) Refusal
  defined name v rows = if is_some (row_of name rows) then Err Exists else Ok (with_row name v rows)

  -- a row is deleted; one that isn't there is refused
  abbrev pub deleted : List ℕ → List (List ℕ × V) → Result (List (List ℕ × V)) Refusal
  deleted name rows = if is_some (row_of name rows) then Ok (without_row name rows) else Err NotFound

  -- the row that was found is changed by a step
  abbrev pub changed_row : List ℕ → (V → Result V Refusal) → List (List ℕ × V) → Option V → Result (List (List ℕ × V)) Refusal
  changed_row name step rows None = Err NotFound
  changed_row name step rows (Some v) = within (λ w. with_value name w rows) (step v)

  -- the row with this name is changed by a step; one that isn't there is refused
  abbrev pub changed : List ℕ → (V → Result V Refusal) → List (List ℕ × V) → Result (List (List ℕ × V)) Refusal
  changed name step rows = changed_row name step rows (row_of name rows)
