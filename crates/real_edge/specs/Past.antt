-- What a store in a folder tells of its past. No memory holds it: only proofs read it.
use Rattle.std.specs.Prelude.{◌+◌, ◌≡◌, ◌⊎◌, ℕ, max, if◌then◌else◌, ◌&&◌, List, [], ◌∷◌, ◌++◌, zero, suc, ◌^◌, length, get_or, take, drop, Bool, true, false, Option, None, Some}
use Rattle.std.specs.Coded.{Coded, code_by, coded_ℕ, coded_list, coded×, coded⊎, coded_option}
use mathlib.Core.Path.{refl}
use mathlib.Core.Logic.{inl, inr}
use base.Stored.{coded_unit}
use Rattle.store_api.specs.Disk.{Change, write, cut, settle, Call, on, idle, History}
use Rattle.files_api.specs.Folder.{Stage, away, made, kept, held, spoiled, Folder}
use Rattle.real_edge.specs.Names.{file_name}
use Rattle.real_edge.specs.declared.past.Step.{Step}
use Rattle.real_edge.specs.declared.past.Event.{Event}
use Rattle.real_edge.specs.declared.past.Event.TheVariants.{Called, Stopped}
use Rattle.real_edge.specs.declared.past.Step.TheVariants.{Look, Write, Cut, FailedCut, Sync}

-- What the files from 0 on had at the start, the moment then, and the calls since, newest first.
pub record Told : Type 0 where
  pub first : List (List ℕ)
  pub began : ℕ
  pub calls : List Call

abbrev change_parts : Change → (ℕ × (ℕ × List ℕ)) ⊎ ((ℕ × ℕ) ⊎ Unit {0})
change_parts (write at span bytes) = inl (at, (span, bytes))
change_parts (cut asked left) = inr (inl (asked, left))
change_parts settle = inr (inr tt)

abbrev change_of : (ℕ × (ℕ × List ℕ)) ⊎ ((ℕ × ℕ) ⊎ Unit {0}) → Change
change_of (inl (at, (span, bytes))) = write at span bytes
change_of (inr (inl (asked, left))) = cut asked left
change_of (inr (inr _)) = settle

pub change_back : (change : Change) → change_of (change_parts change) ≡ change
change_back (write at span bytes) = refl
change_back (cut asked left) = refl
change_back settle = refl

abbrev change_code : Coded Change
change_code = code_by ((ℕ × (ℕ × List ℕ)) ⊎ ((ℕ × ℕ) ⊎ Unit {0})) (coded⊎ (coded× coded_ℕ (coded× coded_ℕ (coded_list coded_ℕ))) (coded⊎ (coded× coded_ℕ coded_ℕ) coded_unit)) change_parts change_of change_back

abbrev call_parts : Call → (ℕ × Change) ⊎ Unit {0}
call_parts (on file change) = inl (file, change)
call_parts idle = inr tt

abbrev call_back_of : (ℕ × Change) ⊎ Unit {0} → Call
call_back_of (inl (file, change)) = on file change
call_back_of (inr _) = idle

pub call_back : (call : Call) → call_back_of (call_parts call) ≡ call
call_back (on file change) = refl
call_back idle = refl

abbrev call_code : Coded Call
call_code = code_by ((ℕ × Change) ⊎ Unit {0}) (coded⊎ (coded× coded_ℕ change_code) coded_unit) call_parts call_back_of call_back

abbrev told_code : Coded Told
told_code = code_by (List (List ℕ) × (ℕ × List Call)) (coded× (coded_list (coded_list coded_ℕ)) (coded× coded_ℕ (coded_list call_code))) (λ t. (t.first, (t.began, t.calls))) (λ p. record { first = p.0; began = p.1.0; calls = p.1.1 }) (λ _. refl)

abbrev pub past_code : Coded (Option Told)
past_code = coded_option told_code

-- the history that it stands for
abbrev pub history : Told → History
history told = record { first = λ file. get_or told.first file []; began = told.began; calls = told.calls }

abbrev pub history_of : Option Told → Option History
history_of None = None
history_of (Some told) = Some (history told)

-- what the files below a number have
unfoldable pub contents_below : ℕ → (ℕ → List ℕ) → List (List ℕ)
contents_below zero contents = []
contents_below (suc n) contents = contents_below n contents ++ (contents n ∷ [])

-- the bytes that a file of the folder reads as
abbrev pub bytes_in : Folder → ℕ → List ℕ
bytes_in folder file = (folder.files (file_name file)).standing.bytes

abbrev pub is_away : Stage → Bool
is_away away = true
is_away made = false
is_away kept = false
is_away held = false
is_away spoiled = false

-- What a store tells that begins at a moment over files of which all is on the disk. Over others it tells nothing.
abbrev pub first_past : ℕ → Option Folder → Option Told
first_past began None = None
first_past began (Some folder) = if folder.is_settled && is_away folder.stage then Some (record { first = contents_below (2 ^ 32) (bytes_in folder); began = began; calls = [] }) else None

-- what a call of the store did, after which the folder is so
abbrev pub call_of : Step → Folder → Call
call_of Look folder = idle
call_of (Write file at len) folder = on file (write at len (take len (drop at (bytes_in folder file))))
call_of (Cut file len) folder = on file (cut len len)
call_of (FailedCut file len) folder = on file (cut len (max len (length (bytes_in folder file))))
call_of (Sync file) folder = on file settle

-- the past with one more event, after which the folder is so
abbrev pub next_told : Event → Folder → Told → Told
next_told (Called step) folder told = record { first = told.first; began = told.began; calls = call_of step folder ∷ told.calls }
next_told Stopped folder told = record { first = contents_below (2 ^ 32) (bytes_in folder); began = told.began + length told.calls; calls = [] }

abbrev pub next_past : Event → Option Folder → Option Told → Option Told
next_past event (Some folder) (Some told) = Some (next_told event folder told)
next_past event None (Some told) = None
next_past event (Some folder) None = None
next_past event None None = None
