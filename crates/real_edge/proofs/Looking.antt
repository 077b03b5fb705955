-- Calls of the store that only look.
use Rattle.std.proofs.Common.{◌≡◌, ℕ, ◌<◌, ◌^◌, List, [], length, IsTrue, true, Option, None, Some, IfSome, Ok, refl, sym, ◌∙◌, ap, subst, arith}
use Rattle.store_api.specs.Disk.{Standing}
use Rattle.store_api.specs.Told.{Told, ReadsFrom}
use Rattle.store_api.specs.declared.store.Failed.{Failed}
use Rattle.files_api.specs.Folder.{Folder, Label}
use Rattle.files_api.specs.Calls.{Looks, IsUsable}
use Rattle.real_edge.specs.Ledger.{Faults, is_lost}
use Rattle.real_edge.specs.Names.{file_label}
use Rattle.real_edge.specs.Pool.{AreNamed}
use Rattle.real_edge.specs.Holds.{Holds, Desk, has}
use Rattle.real_edge.specs.Desks.{desk_of, LooksFor}
use Rattle.real_edge.specs.declared.folder.Folder.{Folder as Run}
use Rattle.real_edge.proofs.Keeps.{usable}
use Rattle.real_edge.proofs.OpenFiles.{told_joined}
use Rattle.real_edge.proofs.Tellings.{known_of, known_from}
use Rattle.real_edge.proofs.Ends.{holds_desk, none_seen, got_there, got_none}

-- the file was reached, looked at, and stays open
pub keeps_open : {F H : Type 0} (label_of : H → Label) (file : ℕ) (found : Option H) (handle : H) (run mid : Run F H) (desk : Desk H) (faults faults' : Faults) (x y z : Option Folder) → (desk_of mid).is_synced ≡ desk.is_synced → (desk_of mid).changed ≡ desk.changed
    → (AreNamed label_of mid.pool → label_of handle ≡ file_label file → AreNamed label_of desk.pool)
    → found ≡ Some handle → Told x y (LooksFor {E = Failed} label_of file (Ok found) run faults mid faults') → Told y z Looks
    → Told x z (λ old new. (seen : ℕ → Standing) → Holds label_of true (desk_of run) faults old seen → Holds label_of true desk faults' new seen)
keeps_open label_of file found handle run mid desk faults faults' x y z synced marks named is reached looks = told_joined x y z reached looks (λ old it last reaches same seen holds.
    let there = reaches seen holds in
    subst (λ (folder : Folder). Holds label_of true desk faults' folder seen) (sym same)
    (holds_desk (named there.holds.named (got_there Failed label_of file found handle it is there.got)) (λ all. subst IsTrue (sym synced) all) (λ other marked. subst (λ (files : List ℕ). IsTrue (has files other)) marks marked) there.holds))

-- the length that was looked up is the store's
pub length_reached : {F H : Type 0} (label_of : H → Label) (file : ℕ) (found : Option H) (handle : H) (run mid : Run F H) (faults faults' : Faults) (len : ℕ) (x y : Option Folder) → file < 2 ^ 32 → ¬ IsTrue (is_lost faults' file)
    → found ≡ Some handle → Told x y (LooksFor {E = Failed} label_of file (Ok found) run faults mid faults')
    → IfSome y (λ d. IsUsable d (label_of handle) → len ≡ length (d.files (label_of handle).name).standing.bytes)
    → IfSome x (λ old. (seen : ℕ → Standing) → Holds label_of true (desk_of run) faults old seen → len ≡ length (seen file).bytes)
length_reached label_of file found handle run mid faults faults' len x y fits used is reached known = known_of x y reached known (λ old it reaches knows seen holds.
    let there = reaches seen holds in
    let tells = subst (λ (label : Label). IsUsable it label → len ≡ length (it.files label.name).standing.bytes) (got_there Failed label_of file found handle it is there.got) knows in
    tells (usable label_of (desk_of mid) faults' it seen file fits used there.holds) ∙ ap length (sym (there.holds.each file fits).tied.same))

-- what was read is what the store's file reads as
pub read_reached : {F H : Type 0} (label_of : H → Label) (file : ℕ) (found : Option H) (handle : H) (run mid : Run F H) (faults faults' : Faults) (offset : ℕ) (into : List ℕ) (count : ℕ) (x y : Option Folder) → file < 2 ^ 32 → ¬ IsTrue (is_lost faults' file)
    → found ≡ Some handle → Told x y (LooksFor {E = Failed} label_of file (Ok found) run faults mid faults')
    → IfSome y (λ d. IsUsable d (label_of handle) → ReadsFrom (d.files (label_of handle).name).standing.bytes offset into count)
    → IfSome x (λ old. (seen : ℕ → Standing) → Holds label_of true (desk_of run) faults old seen → ReadsFrom (seen file).bytes offset into count)
read_reached label_of file found handle run mid faults faults' offset into count x y fits used is reached known = known_of x y reached known (λ old it reaches knows seen holds.
    let there = reaches seen holds in
    let tells = subst (λ (label : Label). IsUsable it label → ReadsFrom (it.files label.name).standing.bytes offset into count) (got_there Failed label_of file found handle it is there.got) knows in
    subst (λ (bytes : List ℕ). ReadsFrom bytes offset into count) (sym (there.holds.each file fits).tied.same) (tells (usable label_of (desk_of mid) faults' it seen file fits used there.holds)))

-- the file is missing
pub none_reached : {F H : Type 0} (label_of : H → Label) (file : ℕ) (found : Option H) (run mid : Run F H) (faults faults' : Faults) (x y : Option Folder) → file < 2 ^ 32
    → found ≡ None → Told x y (LooksFor {E = Failed} label_of file (Ok found) run faults mid faults')
    → IfSome x (λ old. (seen : ℕ → Standing) → Holds label_of true (desk_of run) faults old seen → (seen file).bytes ≡ [])
none_reached label_of file found run mid faults faults' x y fits is reached = known_from x y reached (λ old it reaches seen holds.
    let there = reaches seen holds in
    none_seen label_of (desk_of mid) faults' it file seen fits there.holds (got_none Failed label_of file found it is there.got))

pub none_read : (bytes into : List ℕ) (offset : ℕ) → bytes ≡ [] → ReadsFrom bytes offset into 0
none_read bytes into offset none = record { many = omega (arith, ap length none); same = refl }
