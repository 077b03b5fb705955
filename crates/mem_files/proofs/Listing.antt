-- The names of the files in memory, entry by entry.
use Rattle.std.proofs.Common.{◌≡◌, inl, inr, ⊎_elim, ℕ, zero, suc, ◌+◌, ◌<◌, ◌≤◌, if◌then◌else◌, List, [], ◌∷◌, ◌++◌, length, get_or, Bool, true, false, IsTrue, string_bytes, Contains, refl, sym, ◌∙◌, ap, subst, arith}
use Rattle.std.specs.List.{IsDistinct, list_any}
use Rattle.std.specs.Str.{bytes_eq}
use Rattle.std.proofs.lemmas.Bool.{cases_lt, false_from_ne_true}
use Rattle.std.proofs.lemmas.Cmp.{nat_list_eq_equiv}
use Rattle.std.proofs.lemmas.List.Elements.{Contains-append_left, Contains-push, Contains-push_cases}
use Rattle.std.proofs.lemmas.Map.Keys.{IsDistinct-push}
use Rattle.std.proofs.lemmas.Map.Views.{Contains-from_any}
use Rattle.files_api.specs.Folder.{File, no_file}
use Rattle.files_api.specs.Calls.{Lists}
use Rattle.mem_files.specs.declared.entries.Entry.{Entry}
use Rattle.mem_files.specs.Entries.{present, file_of, file_in, has_name, IsFirst, IsFile}
use Rattle.mem_files.specs.Lists.{IsFileAt, Listed}
use Rattle.mem_files.proofs.Lists.{never, same_bytes}
use Rattle.mem_files.proofs.Calls.{is_here}

-- a name stands first at one place alone
one_place : (entries : List Entry) (name : List ℕ) (i k : ℕ) → IsFirst entries name i → IsFirst entries name k → i ≡ k
one_place [] name i k a b = absurd (omega (arith, a.within))
one_place (e ∷ entries) name i k a b = elim (cases_lt i k) [
  | inl less ↦ absurd (never (sym (a.here e) ∙ b.before i e less))
  | inr most ↦ elim (cases_lt k i) [
    | inl more ↦ absurd (never (sym (b.here e) ∙ a.before k e more))
    | inr least ↦ omega (arith, most, least)
  ]
]

-- the name of the entry that stands at a place
its_name : (entries : List Entry) (name : List ℕ) (at : ℕ) (other : Entry) → IsFirst entries name at → string_bytes (get_or entries at other).name ≡ name
its_name entries name at other first = same_bytes (string_bytes (get_or entries at other).name) name (first.here other)

-- the file of an entry's name stands there, or no file stands there
pub is_file_at : (entries : List Entry) (name : List ℕ) (at : ℕ) → ((other : Entry) → string_bytes (get_or entries at other).name ≡ name) → IsFile entries name at → IsFileAt true entries at
is_file_at entries name at is file = λ other. subst (λ (n : List ℕ). IsFile entries n at) (sym (is other)) file

pub no_file_at : (entries : List Entry) (name : List ℕ) (at first : ℕ) → ((other : Entry) → string_bytes (get_or entries at other).name ≡ name) → IsFile entries name first → (first ≡ at → ⊥)
    → IsFileAt false entries at
no_file_at [] name at first is file apart = λ n other. omega (arith, other.first.within)
no_file_at (e ∷ entries) name at first is file apart = λ n other. apart
    (one_place (e ∷ entries) name first at file.first (subst (λ (m : List ℕ). IsFirst (e ∷ entries) m at) (sym (its_name (e ∷ entries) n at e other.first) ∙ is e) other.first))

pub nothing_at : (entries : List Entry) (name : List ℕ) (at : ℕ) → ((other : Entry) → string_bytes (get_or entries at other).name ≡ name) → file_in entries name ≡ no_file → IsFileAt false entries at
nothing_at [] name at is none = λ n other. omega (arith, other.first.within)
nothing_at (e ∷ entries) name at is none = λ n other.
    never (sym (is_here (e ∷ entries) name at (subst (λ (m : List ℕ). IsFile (e ∷ entries) m at) (sym (its_name (e ∷ entries) n at e other.first) ∙ is e) other)) ∙ ap (λ (f : File). f.is_there) none)

pub listed_none : (entries : List Entry) → Listed 0 entries []
unfolding IsDistinct
listed_none entries = record {
  there = λ name has. absurd (omega (arith, has.1));
  all = λ name k lt file. absurd (omega (arith, lt));
  once = tt;
}

pub listed_same : (at : ℕ) (entries : List Entry) (names : List (List ℕ)) → IsFileAt false entries at → Listed at entries names → Listed (at + 1) entries names
listed_same at entries names none listed = record {
  there = λ name has. let it = listed.there name has in (it.0, omega (arith, it.1), it.2);
  all = λ name k lt file. elim (cases_lt k at) [
    | inl before ↦ listed.all name k before file
    | inr last ↦ absurd (none name (subst (IsFile entries name) (omega (arith, lt, last)) file))
  ];
  once = listed.once;
}

pub listed_more : (at : ℕ) (entries : List Entry) (names : List (List ℕ)) (name : List ℕ) → IsFile entries name at → Listed at entries names → Listed (at + 1) entries (names ++ (name ∷ []))
listed_more at entries names name here listed = record {
  there = λ n has. ⊎_elim
      (λ before. let it = listed.there n before in (it.0, omega (arith, it.1), it.2))
      (λ same. (at, omega arith, subst (λ (m : List ℕ). IsFile entries m at) same here))
      (Contains-push_cases names name n has);
  all = λ n k lt file. elim (cases_lt k at) [
    | inl before ↦ Contains-append_left names (name ∷ []) n (listed.all n k before file)
    | inr last ↦ subst (λ (m : List ℕ). Contains (names ++ (name ∷ [])) m) (one_name n k (omega (arith, lt, last)) file) (Contains-push names name)
  ];
  once = IsDistinct-push nat_list_eq_equiv names name listed.once (false_from_ne_true (list_any (bytes_eq name) names) (λ is. twice (Contains-from_any same_bytes name names is)));
}
  where
    one_name : (n : List ℕ) (k : ℕ) → k ≡ at → IsFile entries n k → name ≡ n
    one_name n k is file = go entries refl
      where
        go : (es : List Entry) → es ≡ entries → name ≡ n
        go [] same = absurd (none_there (subst (λ (l : List Entry). IsFile l name at) (sym same) here))
          where
            none_there : IsFile [] name at → ⊥
            none_there it = omega (arith, it.first.within)
        go (e ∷ es) same = sym (its_name entries name at e here.first) ∙ its_name entries n at e (subst (λ (i : ℕ). IsFile entries n i) is file).first

    twice : Contains names name → ⊥
    twice has = let it = listed.there name has in omega (arith, it.1, one_place entries name it.0 at it.2.first here.first)

-- a file that is there stands somewhere
stands : (entries : List Entry) (name : List ℕ) → IsTrue (file_in entries name).is_there → (k : ℕ) × IsFile entries name k
stands [] name is = absurd (never (sym is))
stands (e ∷ entries) name is = go (has_name name e) refl (stands entries name)
  where
    go : (b : Bool) → has_name name e ≡ b → (IsTrue (file_in entries name).is_there → (k : ℕ) × IsFile entries name k) → (k : ℕ) × IsFile (e ∷ entries) name k
    go true has behind = (
      0,
      record {
        first = record { within = omega arith; here = λ other. has; before = λ k other lt. absurd (omega (arith, lt)) };
        there = λ other. here_there e.body.is_there refl (subst (λ (b : Bool). IsTrue (if b then file_of e.body else file_in entries name).is_there) has is);
      },
    )
      where
        here_there : (b : Bool) → e.body.is_there ≡ b → IsTrue (file_of e.body).is_there → e.body.is_there ≡ true
        here_there true same there = same
        here_there false same there = absurd (never (sym (subst (λ (b : Bool). IsTrue (if b then present e.body else no_file).is_there) same there)))
    go false has behind =
        let it = behind (subst (λ (b : Bool). IsTrue (if b then file_of e.body else file_in entries name).is_there) has is) in (
          suc it.0,
          record {
            first = record {
              within = omega (arith, it.1.first.within);
              here = λ other. it.1.first.here other;
              before = λ k other lt. before k other it.0 lt it.1.first;
            };
            there = λ other. it.1.there other;
          },
        )
      where
        before : (k : ℕ) (other : Entry) → (at : ℕ) → k < suc at → IsFirst entries name at → has_name name (get_or (e ∷ entries) k other) ≡ false
        before zero other at lt first = has
        before (suc k) other at lt first = first.before k other (omega (arith, lt))

pub listed_all : (at : ℕ) (entries : List Entry) (names : List (List ℕ)) → length entries ≤ at → Listed at entries names → Lists names (file_in entries)
listed_all at entries names end listed = record {
  there = λ name has. let it = listed.there name has in is_here entries name it.0 it.2;
  all = λ name is. let it = stands entries name is in listed.all name it.0 (omega (arith, end, it.1.first.within)) it.1;
  once = listed.once;
}
