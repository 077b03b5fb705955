-- What the list of entries has under a name, before and after a change.
use Rattle.std.proofs.Common.{◌≡◌, inl, inr, ℕ, zero, suc, ◌+◌, ◌<◌, ◌≤◌, ◌&&◌, ◌||◌, not, if◌then◌else◌, Bool, true, false, List, [], ◌∷◌, ◌++◌, length, get_or, set, string_bytes, refl, sym, ◌∙◌, ap, subst, arith}
use Rattle.std.specs.List.{list_any}
use Rattle.std.specs.Str.{bytes_eq}
use Rattle.std.proofs.lemmas.Bool.{cases_eq, cond-true, cond-false, false_from_ne_true}
use Rattle.std.proofs.lemmas.List.{length-append, length-set, get_or-set_same, get_or-set_other, get_or_default, get_or_push, get_or_append_left}
use Rattle.std.proofs.lemmas.List.Folds.{list_all-append}
use Rattle.std.proofs.lemmas.Slice.Eq.{bytes_eq-Decides}
use Rattle.files_api.specs.Folder.{File, no_file, Stage, Moves}
use Rattle.files_api.specs.Calls.{Becomes}
use Rattle.mem_files.specs.declared.entries.Body.{Body}
use Rattle.mem_files.specs.declared.entries.Entry.{Entry}
use Rattle.mem_files.specs.Entries.{present, file_of, file_in, has_name, IsFirst, IsFree, is_at_rest, all_at_rest, SameFiles, Puts, changes, Turned, Same, Pairs}
use Rattle.mem_store.specs.Mem.{history_of}

-- the file of a body that is one
pub present_is : (b : Body) → b.is_there ≡ true → file_of b ≡ present b
present_is b there = cond-true _ _ _ there

-- nothing stands there
pub absent_is : (b : Body) → b.is_there ≡ false → file_of b ≡ no_file
absent_is b absent = cond-false _ _ _ absent

pub free_file : (entries : List Entry) (name : List ℕ) → IsFree entries name → file_in entries name ≡ no_file
free_file [] name free = refl
free_file (e ∷ entries) name free = cond-false _ _ _ (free 0 e (omega arith)) ∙ free_file entries name (λ k other lt. free (suc k) other (omega (arith, lt)))

pub first_file : (entries : List Entry) (name : List ℕ) (at : ℕ) (other : Entry) → IsFirst entries name at → file_in entries name ≡ file_of (get_or entries at other).body
first_file [] name at other first = absurd (omega (arith, first.within))
first_file (e ∷ entries) name zero other first = cond-true _ _ _ (first.here other)
first_file (e ∷ entries) name (suc at) other first =
    cond-false _ _ _ (first.before 0 other (omega arith))
    ∙ first_file entries name at other (record { within = omega (arith, first.within); here = λ d. first.here d; before = λ k d lt. first.before (suc k) d (omega (arith, lt)) })

both_ways : (R : File → File → Type 0) (b c : Bool) (x y x' y' : File) → c ≡ b → (b ≡ true → R x y) → R x' y' → R (if b then x else x') (if c then y else y')
both_ways R true c x y x' y' same here rest = subst (λ (d : Bool). R x (if d then y else y')) (sym same) (here refl)
both_ways R false c x y x' y' same here rest = subst (λ (d : Bool). R x' (if d then y else y')) (sym same) rest

-- a relation of each two entries is one of the two files of a name
pub pairs_file : (R : File → File → Type 0) → R no_file no_file → (old new : List Entry) (name : List ℕ) → length new ≡ length old
    → ((k : ℕ) (other : Entry) → k < length old → (get_or new k other).name ≡ (get_or old k other).name)
    → ((k : ℕ) (other : Entry) → k < length old → has_name name (get_or old k other) ≡ true → R (file_of (get_or old k other).body) (file_of (get_or new k other).body))
    → R (file_in old name) (file_in new name)
pairs_file R nones [] [] name long names each = nones
pairs_file R nones [] (f ∷ new) name long names each = absurd (omega (arith, long))
pairs_file R nones (e ∷ old) [] name long names each = absurd (omega (arith, long))
pairs_file R nones (e ∷ old) (f ∷ new) name long names each =
    both_ways R (has_name name e) (has_name name f) (file_of e.body) (file_of f.body) (file_in old name) (file_in new name) (ap (λ n. bytes_eq (string_bytes n) name) (names 0 e (omega arith)))
    (λ yes. each 0 e (omega arith) yes)
    (pairs_file R nones old new name (omega (arith, long)) (λ k other lt. names (suc k) other (omega (arith, lt))) (λ k other lt yes. each (suc k) other (omega (arith, lt)) yes))

pub get_or_any : (entries : List Entry) (at : ℕ) (d e : Entry) → at < length entries → get_or entries at d ≡ get_or entries at e
get_or_any entries at d e within = get_or_default entries at d e within

-- one entry was changed, under its name
set_names : (entries : List Entry) (at : ℕ) (e : Entry) → e.name ≡ (get_or entries at e).name → at < length entries → (k : ℕ) (other : Entry) → k < length entries
    → (get_or (set entries at e) k other).name ≡ (get_or entries k other).name
set_names entries at e same within k other lt = elim (cases_eq k at) [
  | inl here ↦ subst (λ (i : ℕ). (get_or (set entries at e) i other).name ≡ (get_or entries i other).name) (sym here)
      (ap (λ (f : Entry). f.name) (get_or-set_same entries at e other within) ∙ same ∙ ap (λ (f : Entry). f.name) (get_or_any entries at e other within))
  | inr apart ↦ ap (λ (f : Entry). f.name) (get_or-set_other entries at k e other apart)
]

-- where each name stands first stays
firsts_of : (old new : List Entry) → length new ≡ length old → ((k : ℕ) (other : Entry) → k < length old → (get_or new k other).name ≡ (get_or old k other).name) → (name : List ℕ) (at : ℕ)
    → IsFirst old name at → IsFirst new name at
firsts_of old new long names name at first = record {
  within = omega (arith, first.within, long);
  here = λ other. ap (λ n. bytes_eq (string_bytes n) name) (names at other first.within) ∙ first.here other;
  before = λ k other lt. ap (λ n. bytes_eq (string_bytes n) name) (names k other (omega (arith, lt, first.within))) ∙ first.before k other lt;
}

IsYes : Bool → Type 0
IsYes true = Unit {0}
IsYes false = ⊥

pub never : true ≡ false → ⊥
unfolding IsYes
never is = subst IsYes is tt

pub same_bytes : (x y : List ℕ) → bytes_eq x y ≡ true → x ≡ y
same_bytes x y is = (bytes_eq-Decides x y).0 is

-- where they don't test alike
pub bytes_apart : (x y : List ℕ) → bytes_eq x y ≡ false → x ≡ y → ⊥
bytes_apart x y is same = never (sym ((bytes_eq-Decides x y).1 same) ∙ is)

pub own_name : (x y : List ℕ) → x ≡ y → bytes_eq x y ≡ true
own_name x y is = (bytes_eq-Decides x y).1 is

pub other_name : (x y : List ℕ) → (x ≡ y → ⊥) → bytes_eq x y ≡ false
other_name x y apart = false_from_ne_true (bytes_eq x y) (λ yes. apart (same_bytes x y yes))

-- two names of one entry
one_name : (x q name : List ℕ) → bytes_eq x q ≡ true → bytes_eq x name ≡ true → q ≡ name
one_name x q name is is' = sym (same_bytes x q is) ∙ same_bytes x name is'

set_others : (entries : List Entry) (name : List ℕ) (at : ℕ) (e : Entry) → e.name ≡ (get_or entries at e).name → IsFirst entries name at → (q : List ℕ) → (q ≡ name → ⊥)
    → file_in (set entries at e) q ≡ file_in entries q
set_others entries name at e same first q apart = pairs_file (λ old new. new ≡ old) refl entries (set entries at e) q (length-set entries at e) (set_names entries at e same first.within)
    (λ k other lt yes. elim (cases_eq k at) [
      | inl here ↦ absurd (apart (one_name (string_bytes (get_or entries at other).name) q name (subst (λ (i : ℕ). has_name q (get_or entries i other) ≡ true) here yes) (first.here other)))
      | inr beside ↦ ap (λ (f : Entry). file_of f.body) (get_or-set_other entries at k e other beside)
    ])

-- what stands first under the name is the entry that was put there
set_first : (entries : List Entry) (name : List ℕ) (at : ℕ) (e : Entry) → e.name ≡ (get_or entries at e).name → IsFirst entries name at → file_in (set entries at e) name ≡ file_of e.body
set_first entries name at e same first =
    first_file (set entries at e) name at e (firsts_of entries (set entries at e) (length-set entries at e) (set_names entries at e same first.within) name at first) ∙ ap
    (λ (f : Entry). file_of f.body) (get_or-set_same entries at e e first.within)

-- one body was put in the place of another
pub puts_set : (entries : List Entry) (at : ℕ) (e : Entry) → at < length entries → e.name ≡ (get_or entries at e).name → Puts at (file_of e.body) entries (set entries at e)
puts_set entries at e within same = record {
  files = λ name first other. go name first other (bytes_eq name other) refl;
  firsts = λ name k first. firsts_of entries (set entries at e) (length-set entries at e) (set_names entries at e same within) name k first;
}
  where
    go : (name : List ℕ) → IsFirst entries name at → (other : List ℕ) (b : Bool) → bytes_eq name other ≡ b → file_in (set entries at e) other ≡ (if b then file_of e.body else file_in entries other)
    go name first other true is = ap (file_in (set entries at e)) (sym (same_bytes name other is)) ∙ set_first entries name at e same first
    go name first other false is = set_others entries name at e same first other (λ here. never (sym (own_name name other (sym here)) ∙ is))

-- the file of the first entry became another
pub becomes_set : (stage : Stage) (moves : Moves) (b b' : Bool) (entries : List Entry) (name : List ℕ) (at : ℕ) (e : Entry) (file : File) → IsFirst entries name at
    → (get_or entries at e).body.is_there ≡ true → Turned file (get_or entries at e) e
    → Becomes name file (record { stage = stage; is_settled = b; files = file_in entries; moves = moves })
    (record { stage = stage; is_settled = b'; files = file_in (set entries at e); moves = moves })
becomes_set stage moves b b' entries name at e file first there turned = record {
  only = record { same_stage = refl; same_moves = refl; others = λ q apart. set_others entries name at e turned.name first q apart };
  gives = set_first entries name at e turned.name first ∙ present_is e.body (turned.there ∙ there) ∙ turned.file_is;
}

rest_set : (entries : List Entry) (at : ℕ) (e : Entry) → at < length entries → is_at_rest e.body ≡ is_at_rest (get_or entries at e).body → all_at_rest (set entries at e) ≡ all_at_rest entries
rest_set [] at e within same = refl
rest_set (f ∷ entries) zero e within same = ap (λ (b : Bool). b && all_at_rest entries) same
rest_set (f ∷ entries) (suc at) e within same = ap (λ (b : Bool). is_at_rest f.body && b) (rest_set entries at e (omega (arith, within)) same)

-- the entry has what it had
pub same_set : (entries : List Entry) (at : ℕ) (e : Entry) → at < length entries → (get_or entries at e).body.is_there ≡ true → Same (get_or entries at e) e → SameFiles entries (set entries at e)
same_set entries at e within there same = record {
  files = λ name. pairs_file (λ old new. new ≡ old) refl entries (set entries at e) name (length-set entries at e) (set_names entries at e same.turned.name within)
      (λ k other lt yes. elim (cases_eq k at) [
        | inl here ↦ subst (λ (i : ℕ). file_of (get_or (set entries at e) i other).body ≡ file_of (get_or entries i other).body) (sym here)
            (ap (λ (f : Entry). file_of f.body) (get_or-set_same entries at e other within) ∙ was ∙ ap (λ (f : Entry). file_of f.body) (get_or_any entries at e other within))
        | inr beside ↦ ap (λ (f : Entry). file_of f.body) (get_or-set_other entries at k e other beside)
      ]);
  rest = rest_set entries at e within same.rest;
}
  where
    was : file_of e.body ≡ file_of (get_or entries at e).body
    was = present_is e.body (same.turned.there ∙ there) ∙ same.turned.file_is ∙ sym (present_is (get_or entries at e).body there)

-- an entry with nothing in it was put behind the others, whose name none of them has
pushed_files : (entries : List Entry) (e : Entry) → file_of e.body ≡ no_file → (name : List ℕ) → file_in (entries ++ (e ∷ [])) name ≡ file_in entries name
pushed_files [] e none name = go (has_name name e)
  where
    go : (b : Bool) → (if b then file_of e.body else no_file) ≡ no_file
    go true = none
    go false = refl
pushed_files (f ∷ entries) e none name = ap (λ (file : File). if has_name name f then file_of f.body else file) (pushed_files entries e none name)

and_last : (b c : Bool) → c ≡ true → (b && (c && true)) ≡ b
and_last true c is = ap (λ (d : Bool). d && true) is
and_last false c is = refl

pub same_pushed : (entries : List Entry) (e : Entry) → e.body.is_there ≡ false → SameFiles entries (entries ++ (e ∷ []))
same_pushed entries e absent = record {
  files = pushed_files entries e (absent_is e.body absent);
  rest = list_all-append (λ (f : Entry). is_at_rest f.body) entries (e ∷ []) ∙ and_last (all_at_rest entries) (is_at_rest e.body)
      (ap (λ (b : Bool). not b || (not (list_any changes (history_of e.body.store).calls) && e.body.is_sure && e.body.is_sound)) absent);
}

pub same_none : (entries : List Entry) → SameFiles entries entries
same_none entries = record { files = λ name. refl; rest = refl }

-- and it stands first of its name
pub first_pushed : (entries : List Entry) (e : Entry) (name : List ℕ) (at : ℕ) → IsFree entries name → string_bytes e.name ≡ name → at ≡ length entries → IsFirst (entries ++ (e ∷ [])) name at
first_pushed entries e name at free is last = record {
  within = omega (arith, last, length-append entries (e ∷ []));
  here = λ other. ap (has_name name) (get_or_push entries e other at (sym last)) ∙ own_name (string_bytes e.name) name is;
  before = λ k other lt. ap (has_name name) (get_or_append_left entries (e ∷ []) other k (omega (arith, lt, last))) ∙ free k other (omega (arith, lt, last));
}

-- The first entries were gone over: the file of each stands in a relation to what it was, and the others are as they were.
pub record PairsUpTo (R : File → File → Type 0) (at : ℕ) (old new : List Entry) : Type 0 where
  pub same_length : length new ≡ length old
  pub done : (k : ℕ) (other : Entry) → k < length old → k < at → ((get_or new k other).name ≡ (get_or old k other).name) × R (file_of (get_or old k other).body) (file_of (get_or new k other).body)
  pub others : (k : ℕ) (other : Entry) → k < length old → at ≤ k → get_or new k other ≡ get_or old k other

pub up_to_none : (R : File → File → Type 0) (entries : List Entry) → PairsUpTo R 0 entries entries
up_to_none R entries = record { same_length = refl; done = λ k other lt before. absurd (omega (arith, before)); others = λ k other lt behind. refl }

pub up_to_more : (R : File → File → Type 0) (at : ℕ) (old mid : List Entry) (e : Entry) → at < length old → e.name ≡ (get_or mid at e).name → R (file_of (get_or mid at e).body) (file_of e.body)
    → PairsUpTo R at old mid → PairsUpTo R (at + 1) old (set mid at e)
up_to_more R at old mid e within same related p = record {
  same_length = omega (arith, length-set mid at e, p.same_length);
  done = λ k other lt before. elim (cases_eq k at) [
    | inl here ↦ subst (λ (i : ℕ). ((get_or (set mid at e) i other).name ≡ (get_or old i other).name) × R (file_of (get_or old i other).body) (file_of (get_or (set mid at e) i other).body)) (sym here)
        (subst (λ (f : Entry). (f.name ≡ (get_or old at other).name) × R (file_of (get_or old at other).body) (file_of f.body))
        (sym (get_or-set_same mid at e other (omega (arith, within, p.same_length))))
        (subst (λ (f : Entry). (e.name ≡ f.name) × R (file_of f.body) (file_of e.body)) (get_or_any mid at e other (omega (arith, within, p.same_length)) ∙ p.others at other within (omega arith))
        (same, related)))
    | inr apart ↦ subst (λ (f : Entry). (f.name ≡ (get_or old k other).name) × R (file_of (get_or old k other).body) (file_of f.body)) (sym (get_or-set_other mid at k e other apart))
        (p.done k other lt (omega (arith, before, apart)))
  ];
  others = λ k other lt behind. get_or-set_other mid at k e other (λ is. omega (arith, is, behind)) ∙ p.others k other lt (omega (arith, behind));
}

pub up_to_all : (R : File → File → Type 0) (at : ℕ) (old new : List Entry) → length old ≤ at → PairsUpTo R at old new → Pairs R old new
up_to_all R at old new all p = record {
  same_length = p.same_length;
  same_name = λ k other lt. (p.done k other lt (omega (arith, lt, all))).0;
  each = λ k other lt. (p.done k other lt (omega (arith, lt, all))).1;
}

-- and so are the files of each name
pub pairs_name : (R : File → File → Type 0) → R no_file no_file → (old new : List Entry) → Pairs R old new → (name : List ℕ) → R (file_in old name) (file_in new name)
pairs_name R nones old new p name = pairs_file R nones old new name p.same_length p.same_name (λ k other lt yes. p.each k other lt)
