-- Files that are renamed and removed in memory, and what a stop undoes of that.
use Rattle.std.proofs.Common.{◌≡◌, inl, inr, ℕ, List, [], ◌∷◌, ◌++◌, get_or, Bool, true, false, None, Some, String, string_bytes, refl, sym, ◌∙◌, ap, subst, arith}
use Rattle.std.specs.declared.alloc.Global.{Global}
use Rattle.std.proofs.lemmas.Bool.{cond-true, cond-false}
use Rattle.std.proofs.lemmas.List.Elements.{All-nil}
use Rattle.std.proofs.Math.Path.{fun_ext}
use Rattle.files_api.specs.Folder.{Stage, File, no_file, renaming, removal, Move as Moved, put, AreApart, Undoes}
use Rattle.files_api.specs.Calls.{Renamed, Removed}
use Rattle.mem_files.specs.declared.entries.Body.{Body}
use Rattle.mem_files.specs.declared.entries.Entry.{Entry}
use Rattle.mem_files.specs.declared.moves.Move.{Move}
use Rattle.mem_files.specs.Entries.{present, file_of, file_in, IsFirst, IsFile, SameFiles, Puts}
use Rattle.mem_files.specs.Moves.{move_of, pending_of, HasRenamed, HasRemoved, Undid, UndidSome}
use Rattle.mem_files.proofs.Lists.{present_is, absent_is, first_file, own_name, other_name}
use Rattle.mem_files.proofs.Calls.{told, same_folder, file_at, is_here}

pending_push : (moves : List Move) (it : Move) → pending_of (moves ++ (it ∷ [])) ≡ move_of it ∷ pending_of moves
pending_push [] it = refl
pending_push (m ∷ moves) it = ap (λ (l : List Moved). l ++ (move_of m ∷ [])) (pending_push moves it)

-- what stands under the name itself, and under another
put_here : (name : List ℕ) (file : File) (files : List ℕ → File) → put name file files name ≡ file
put_here name file files = cond-true _ _ _ (own_name name name refl)

put_beside : (name : List ℕ) (file : File) (files : List ℕ → File) (other : List ℕ) → (other ≡ name → ⊥) → put name file files other ≡ files other
put_beside name file files other apart = cond-false _ _ _ (other_name name other (λ is. apart (sym is)))

-- the file of a name, with another knowledge of its name
file_sure : (entries : List Entry) (name : List ℕ) (at : ℕ) (b : Body) (sure : Bool) → IsFile entries name at → ((other : Entry) → b ≡ (get_or entries at other).body)
    → file_of (record b { is_sure = sure }) ≡ record (file_in entries name) { is_sure = sure }
file_sure [] name at b sure file was = absurd (none_there file)
  where
    none_there : IsFile [] name at → ⊥
    none_there it = omega (arith, it.first.within)
file_sure (e ∷ entries) name at b sure file was =
    present_is (record b { is_sure = sure }) (ap (λ (body : Body). body.is_there) (was e) ∙ file.there e)
    ∙ ap (λ (f : File). record f { is_sure = sure }) (ap present (was e) ∙ sym (file_at (e ∷ entries) name at e file))

module _ (from to : List ℕ) (at there : ℕ) (old mid new : List Entry) where
  -- what stood under one name came to stand under the other, and nothing stands under the first
  pub has_renamed : (moves room moves' : List Move) (nothing b replaced : Body) (former name : String Global) (was_sure : Bool) → (from ≡ to → ⊥) → IsFile old from at → IsFirst old to there
      → nothing.is_there ≡ false → Puts at (file_of nothing) old mid → ((other : Entry) → b ≡ (get_or old at other).body)
      → Puts there (file_of (record b { is_sure = true })) mid new → ((other : Entry) → replaced ≡ (get_or mid there other).body)
      → string_bytes former ≡ from → string_bytes name ≡ to → was_sure ≡ b.is_sure → moves' ≡ room ++ (record { from = Some former; name = name; was_sure = was_sure; body = replaced } ∷ [])
      → room ≡ moves
      → HasRenamed from to old moves new moves'
  has_renamed moves room moves' nothing b replaced former name was_sure apart file first absent puts was puts' was' is_from is_to is_sure more none = record {
    files = λ other. puts'.files to (puts.firsts to there first) other ∙ ap (λ (f : File). put to f (file_in mid) other) (file_sure old from at b true file was)
        ∙ ap (λ (files : List ℕ → File). put to (record (file_in old from) { is_sure = true }) files other) (fun_ext vacated);
    kept = ap pending_of more ∙ pending_push room _ ∙ ap (λ (it : Moved). it ∷ pending_of room) same_move ∙ ap
        (λ (l : List Move). renaming from to (file_in old from).is_sure (file_in old to) ∷ pending_of l) none;
  }
    where
      vacated : (other : List ℕ) → file_in mid other ≡ put from no_file (file_in old) other
      vacated other = puts.files from file.first other ∙ ap (λ (f : File). put from f (file_in old) other) (absent_is nothing absent)

      former_of : (entries : List Entry) → entries ≡ old → was_sure ≡ (file_in old from).is_sure
      former_of [] is = absurd (none_there (subst (λ (es : List Entry). IsFile es from at) (sym is) file))
        where
          none_there : IsFile [] from at → ⊥
          none_there it = omega (arith, it.first.within)
      former_of (e ∷ entries) is = is_sure ∙ ap (λ (body : Body). body.is_sure) (was e) ∙ sym (ap (λ (f : File). f.is_sure) (file_at old from at e file))

      before : (entries : List Entry) → entries ≡ mid → file_of replaced ≡ file_in old to
      before [] is = absurd (none_first (subst (λ (es : List Entry). IsFirst es to there) (sym is) (puts.firsts to there first)))
        where
          none_first : IsFirst [] to there → ⊥
          none_first it = omega (arith, it.within)
      before (e ∷ entries) is = ap file_of (was' e) ∙ sym (first_file mid to there e (puts.firsts to there first)) ∙ vacated to ∙ put_beside from no_file (file_in old) to (λ same. apart (sym same))

      same_move : renaming (string_bytes former) (string_bytes name) was_sure (file_of replaced) ≡ renaming from to (file_in old from).is_sure (file_in old to)
      same_move = ap (λ (n : List ℕ). renaming n (string_bytes name) was_sure (file_of replaced)) is_from ∙ ap (λ (n : List ℕ). renaming from n was_sure (file_of replaced)) is_to
          ∙ ap (λ (sure : Bool). renaming from to sure (file_of replaced)) (former_of old refl) ∙ ap (λ (f : File). renaming from to (file_in old from).is_sure f) (before mid refl)

  -- the two names have what they had before
  pub undid_renaming : (replaced b : Body) (was_sure : Bool) → IsFirst old from at → IsFile old to there → Puts there (file_of replaced) old mid → ((other : Entry) → b ≡ (get_or old there other).body)
      → Puts at (file_of (record b { is_sure = was_sure })) mid new → Undid (renaming from to was_sure (file_of replaced)) true old new
  undid_renaming replaced b was_sure first file puts was puts' other =
      puts'.files from (puts.firsts from at first) other ∙ ap (λ (f : File). put from f (file_in mid) other) (file_sure old to there b was_sure file was)
      ∙ ap (λ (files : List ℕ → File). put from (record (file_in old to) { is_sure = was_sure }) files other) (fun_ext (puts.files to file.first))

-- nothing stands under the name any more
pub has_removed : (name : List ℕ) (at : ℕ) (old new : List Entry) (moves room moves' : List Move) (nothing b : Body) (text : String Global) → IsFile old name at → nothing.is_there ≡ false
    → Puts at (file_of nothing) old new → ((other : Entry) → b ≡ (get_or old at other).body)
    → string_bytes text ≡ name → moves' ≡ room ++ (record { from = None; name = text; was_sure = true; body = b } ∷ []) → room ≡ moves → HasRemoved name old moves new moves'
has_removed name at [] new moves room moves' nothing b text file absent puts was is more none = absurd (none_there file)
  where
    none_there : IsFile [] name at → ⊥
    none_there it = omega (arith, it.first.within)
has_removed name at (e ∷ entries) new moves room moves' nothing b text file absent puts was is more none = record {
  files = λ other. puts.files name file.first other ∙ ap (λ (f : File). put name f (file_in (e ∷ entries)) other) (absent_is nothing absent);
  kept = ap pending_of more ∙ pending_push room _ ∙ ap (λ (it : Moved). it ∷ pending_of room)
      (ap (λ (n : List ℕ). removal n (file_of b)) is ∙ ap (removal name) (ap file_of (was e) ∙ sym (first_file (e ∷ entries) name at e file.first)))
      ∙ ap (λ (l : List Move). removal name (file_in (e ∷ entries) name) ∷ pending_of l) none;
}

-- the same of the folder
pub renamed : (stage : Stage) (moves moves' : List Move) (old mid new : List Entry) (from to : List ℕ) (at : ℕ) → (from ≡ to → ⊥) → IsFile mid from at → SameFiles old mid
    → HasRenamed from to mid moves new moves'
    → Renamed from to (told stage moves old) (told stage moves' new)
renamed stage moves moves' old mid new from to at apart file same has = subst (λ folder. Renamed from to folder (told stage moves' new)) (same_folder stage moves old mid same) (record {
  apart = apart;
  there = is_here mid from at file;
  same_stage = refl;
  gives = has.files to ∙ put_here to (record (file_in mid from) { is_sure = true }) (put from no_file (file_in mid));
  leaves = has.files from ∙ put_beside to (record (file_in mid from) { is_sure = true }) (put from no_file (file_in mid)) from apart ∙ put_here from no_file (file_in mid);
  others = λ other one two. has.files other ∙ put_beside to (record (file_in mid from) { is_sure = true }) (put from no_file (file_in mid)) other two ∙ put_beside from no_file (file_in mid) other one;
  pending = has.kept;
  turns = λ other one two. refl;
})

pub removed : (stage : Stage) (moves moves' : List Move) (old new : List Entry) (name : List ℕ) (at : ℕ) → IsFile old name at → HasRemoved name old moves new moves'
    → Removed name (told stage moves old) (told stage moves' new)
removed stage moves moves' old new name at file has = record {
  there = is_here old name at file;
  same_stage = refl;
  leaves = has.files name ∙ put_here name no_file (file_in old);
  others = λ other apart. has.files other ∙ put_beside name no_file (file_in old) other apart;
  pending = has.kept;
  turns = λ other apart. refl;
}

-- all moves stay
all_stay : (staying moves : List Moved) (files : List ℕ → File) → Undoes staying moves files files
all_stay staying [] files = λ name. refl
all_stay staying (it ∷ moves) files = inl (all_stay (it ∷ staying) moves files)

pub stays : (moves : List Move) (entries : List Entry) → UndidSome moves entries entries
stays moves entries = all_stay [] (pending_of moves) (file_in entries)

-- the newest was undone, and then what a stop may undo of the others
pub undid_more : (all moves : List Move) (it : Move) (old mid : List Entry) (left : List ℕ → File) → all ≡ moves ++ (it ∷ []) → Undid (move_of it) true old mid
    → Undoes [] (pending_of moves) (file_in mid) left → Undoes [] (pending_of all) (file_in old) left
undid_more all moves it old mid left last undid rest =
    subst (λ (pending : List Moved). Undoes [] pending (file_in old) left) (sym (ap pending_of last ∙ pending_push moves it))
    (inr (All-nil (AreApart (move_of it)), subst (λ (files : List ℕ → File). Undoes [] (pending_of moves) files left) (fun_ext undid) rest))
