-- The history that a store in memory tells.
use Rattle.std.proofs.Common.{◌≡◌, ℕ, List, [], ◌++◌, length, take, drop, replicate, sym, ◌∙◌, ap, subst, arith}
use Rattle.std.proofs.lemmas.List.{take_all, drop_all}
use Rattle.store_api.specs.Disk.{Standing, settled, Call, idle, History, standing_after}
use Rattle.mem_store.specs.declared.entry.Entry.{Entry}
use Rattle.mem_store.specs.declared.files.Files.{Files}
use Rattle.mem_store.specs.Files.{content_of}
use Rattle.mem_store.specs.Entries.{undone, first_of, calls_onto, Agrees, HasRoom}
use Rattle.mem_store.proofs.Added.{standing_idles}

-- a file reads as its bytes
pub reads_now : (files : Files) (entries : List Entry) (idles file : ℕ) → Agrees files entries → (standing_after (first_of files entries) (replicate idles idle ++ calls_onto [] entries) file).bytes ≡ content_of files file
reads_now files entries idles file agrees =
    ap (λ (s : Standing). s.bytes) (standing_idles (first_of files entries) idles (calls_onto [] entries) file)
    ∙ ap (λ l. (standing_after (first_of files entries) (calls_onto [] l) file).bytes) (sym (take_all (length entries) entries (omega arith)))
    ∙ agrees (length entries) file ∙ ap (λ l. undone l file (content_of files file)) (drop_all (length entries) entries (omega arith))

-- with no calls
pub agrees_none : (files : Files) (entries : List Entry) → entries ≡ [] → Agrees files entries
unfolding settled
agrees_none files entries none = subst (Agrees files) (sym none) (λ k file. here k file)
  where
    here : (k file : ℕ) → (standing_after (first_of files []) (calls_onto [] (take k [])) file).bytes ≡ undone (drop k []) file (content_of files file)
    here k file =
        ap (λ l. (standing_after (first_of files []) (calls_onto [] l) file).bytes) (take_all k [] (omega arith)) ∙ ap (λ l. undone l file (content_of files file)) (sym (drop_all k [] (omega arith)))

pub room_none : (files : Files) (entries : List Entry) → entries ≡ [] → HasRoom files entries
room_none files entries none k d lt = absurd (omega (arith, lt, ap length none))

-- histories with the same start and calls
pub same_history : (first other : ℕ → List ℕ) (began : ℕ) (calls more : List Call) → ((file : ℕ) → first file ≡ other file) → calls ≡ more
    → (let a : History = record { first = first; began = began; calls = calls } in let b : History = record { first = other; began = began; calls = more } in a ≡ b)
same_history first other began calls more starts same = λ i. record { first = λ file. starts file i; began = began; calls = same i }
