-- Forms of bytes as values: how a value is spelled, how it is read from the front of some bytes, and which values have a spelling.
use Rattle.std.specs.Prelude.{◌≡◌, ℕ, slice_index, zero, suc, ◌-◌, ◌^◌, ◌<◌, ◌≤◌, List, [], ◌∷◌, ◌++◌, length, Bool, true, false, ◌&&◌, Option, Some, None, IfSome, IsTrue, nat_lt, ◌==◌, if◌then◌else◌, unwrap_or, slice_get}
use Rattle.std.specs.Int.{Width, w16, w32, byte_len, to_be_bytes}
use Rattle.std.specs.List.{flat_map, AllByRecursion}
use Rattle.std.specs.Option.{option_map}
use Rattle.std.specs.Ordering.{is_lt}
use Rattle.std.specs.declared.cmp.Ordering.{Ordering}
use Rattle.fields.specs.Reading.{◌>>=◌, u8_at, bytes_at, number_at, text_at}

-- how a value is spelled, what is read from the front of some bytes with the bytes after it, and which values have a spelling
pub record Form (X : Type 0) : Type 1 where
  pub spell : X → List ℕ
  pub read : List ℕ → Option (X × List ℕ)
  pub Fits : X → Type 0

-- each is a byte
abbrev pub IsBytes : List ℕ → Type 0
IsBytes bytes = (i : ℕ) → slice_index bytes i < 256

-- what was read of the bytes is a value that fits, and they are its spelling and what follows
pub record IsTaken {X : Type 0} (f : Form X) (bytes : List ℕ) (read : X × List ℕ) : Type 0 where
  pub parts : bytes ≡ f.spell read.0 ++ read.1
  pub fits : f.Fits read.0

-- what is read is spelled so, and fits; what fits is read again, whatever follows
pub record IsForm {X : Type 0} (f : Form X) : Type 0 where
  pub takes : (bytes : List ℕ) (read : X × List ℕ) → IsBytes bytes → f.read bytes ≡ Some read → IsTaken f bytes read
  pub again : (x : X) (rest : List ℕ) → f.Fits x → f.read (f.spell x ++ rest) ≡ Some (x, rest)

-- one byte
abbrev pub byte : Form ℕ
byte = record { spell = λ n. n ∷ []; read = u8_at; Fits = λ n. n < 2 ^ 8 }

-- a number of a width, its highest byte first
abbrev pub number : Width → Form ℕ
number w = record { spell = to_be_bytes w; read = number_at w; Fits = λ n. n < 256 ^ byte_len w }

-- so many bytes, as a digest's 32
abbrev pub block : ℕ → Form (List ℕ)
block n = record { spell = λ bytes. bytes; read = bytes_at n; Fits = λ bytes. length bytes ≡ n }

-- a length of two bytes, and that many bytes
abbrev pub text : Form (List ℕ)
text = record { spell = λ bytes. to_be_bytes w16 (length bytes) ++ bytes; read = text_at; Fits = λ bytes. length bytes < 2 ^ 16 }

-- nothing is spelled, and this value is read
abbrev pub fixed : {X : Type 0} → X → Form X
fixed x = record { spell = λ _. []; read = λ bytes. Some (x, bytes); Fits = λ y. y ≡ x }

-- no value has a form
abbrev pub nothing : {X : Type 0} → Form X
nothing = record { spell = λ _. []; read = λ _. None; Fits = λ _. ⊥ }

-- one after the other
abbrev pub pair : {A B : Type 0} → Form A → Form B → Form (A × B)
pair {A} {B} f g = record {
  spell = λ (p : A × B). f.spell p.0 ++ g.spell p.1;
  read = λ bytes. f.read bytes >>= λ x. g.read x.1 >>= λ y. Some ((x.0, y.0), y.1);
  Fits = λ (p : A × B). f.Fits p.0 × g.Fits p.1;
}

-- another value of the same bytes, as a record of the nested pairs of its fields
abbrev pub viewed : {A B : Type 0} → (A → B) → (B → A) → Form A → Form B
viewed to from f = record {
  spell = λ b. f.spell (from b);
  read = λ bytes. f.read bytes >>= λ x. Some (to x.0, x.1);
  Fits = λ b. f.Fits (from b);
}

-- the same where only some of the values stand for one, as the numbers of an enum
abbrev pub partly : {A B : Type 0} → (A → Option B) → (B → A) → Form A → Form B
partly to from f = record {
  spell = λ b. f.spell (from b);
  read = λ bytes. f.read bytes >>= λ x. to x.0 >>= λ b. Some (b, x.1);
  Fits = λ b. f.Fits (from b) × (to (from b) ≡ Some b);
}

-- how a part is spelled, where there is one
abbrev pub spell_part : {A : Type 0} → Form A → Option A → List ℕ
spell_part f None = []
spell_part f (Some a) = f.spell a

-- there is a part, and it has a spelling
abbrev pub FitsPart : {A : Type 0} → Form A → Option A → Type 0
FitsPart f None = ⊥
FitsPart f (Some a) = f.Fits a

-- the same where only some values of the new kind are made of one, as a variant of an enum
abbrev pub variant : {A B : Type 0} → (A → B) → (B → Option A) → Form A → Form B
variant inject project f = record {
  spell = λ b. spell_part f (project b);
  read = λ bytes. f.read bytes >>= λ x. Some (inject x.0, x.1);
  Fits = λ b. FitsPart f (project b);
}

-- only where a test holds
abbrev pub only : {X : Type 0} → (X → Bool) → Form X → Form X
only test f = record {
  spell = f.spell;
  read = λ bytes. f.read bytes >>= λ x. if test x.0 then Some x else None;
  Fits = λ x. f.Fits x × IsTrue (test x);
}

-- a fixed byte in front
abbrev pub marked : {X : Type 0} → ℕ → Form X → Form X
marked mark f = record {
  spell = λ x. mark ∷ f.spell x;
  read = λ bytes. u8_at bytes >>= λ b. if b.0 == mark then f.read b.1 else None;
  Fits = λ x. (mark < 2 ^ 8) × f.Fits x;
}

-- a byte that tells which form follows
abbrev pub tagged : {X : Type 0} → (X → ℕ) → (ℕ → Form X) → Form X
tagged {X} tag_of body = record {
  spell = λ x. tag_of x ∷ (body (tag_of x)).spell x;
  read = λ bytes. u8_at bytes >>= λ tag. (body tag.0).read tag.1;
  Fits = λ x. (tag_of x < 2 ^ 8) × (body (tag_of x)).Fits x;
}

-- one of two forms
abbrev pub choose : {X : Type 0} → Bool → Form X → Form X → Form X
choose true f g = f
choose false f g = g

-- a row of a table of tags: this form at the tag, and else what the other rows say
abbrev pub row : {X : Type 0} → ℕ → Form X → (ℕ → Form X) → ℕ → Form X
row k f others tag = choose (tag == k) f (others tag)

-- a table's end: no other tag has a form
abbrev pub no_more : {X : Type 0} → ℕ → Form X
no_more tag = nothing

-- the number in front of an option
abbrev pub option_tag : {A : Type 0} → Option A → ℕ
option_tag None = 0
option_tag (Some a) = 1

-- what follows the number in front
abbrev pub option_body : {A : Type 0} → Form A → ℕ → Form (Option A)
option_body f = row 0 (fixed None) (row 1 (variant Some (λ o. o) f) no_more)

-- 0 for none, or 1 and the value
abbrev pub option : {A : Type 0} → Form A → Form (Option A)
option f = tagged option_tag (option_body f)

-- the value of a number, among these
abbrev pub value_of : {X : Type 0} → (X → ℕ) → List X → ℕ → Option X
value_of number_of [] n = None
value_of number_of (x ∷ xs) n = if n == number_of x then Some x else value_of number_of xs n

-- one of these values, as its number in a byte
abbrev pub coded : {X : Type 0} → (X → ℕ) → List X → Form X
coded number_of xs = record {
  spell = λ x. number_of x ∷ [];
  read = λ bytes. u8_at bytes >>= λ n. value_of number_of xs n.0 >>= λ x. Some (x, n.1);
  Fits = λ _. Unit {0};
}

-- 0 or 1
abbrev pub flag : Form Bool
flag = coded (λ b. if b then 1 else 0) (false ∷ true ∷ [])

-- a number with no limit as all ones
abbrev pub limit : Width → Form (Option ℕ)
limit w = record {
  spell = λ o. to_be_bytes w (unwrap_or o (256 ^ byte_len w - 1));
  read = λ bytes. number_at w bytes >>= λ n. Some ((if n.0 == 256 ^ byte_len w - 1 then None else Some n.0), n.1);
  Fits = λ o. IfSome o (λ n. n < 256 ^ byte_len w - 1);
}

-- so many values, one after the other
unfoldable pub times_at : {A : Type 0} → (List ℕ → Option (A × List ℕ)) → ℕ → List ℕ → Option (List A × List ℕ)
times_at read zero bytes = Some ([], bytes)
times_at read (suc n) bytes = do
  x ← read bytes
  xs ← times_at read n x.1
  Some (x.0 ∷ xs.0, xs.1)

-- their number in four bytes, at most so many, and the values
abbrev pub items : {A : Type 0} → ℕ → Form A → Form (List A)
items {A} most f = record {
  spell = λ (xs : List A). to_be_bytes w32 (length xs) ++ flat_map f.spell xs;
  read = λ bytes. number_at w32 bytes >>= λ n. if nat_lt most n.0 then None else times_at f.read n.0 n.1;
  Fits = λ (xs : List A). (length xs ≤ most) × (length xs < 2 ^ 32) × AllByRecursion f.Fits xs;
}

-- the key comes behind the one before it, if there is one
abbrev pub is_behind : {K : Type 0} → (K → K → Ordering) → Option K → K → Bool
is_behind cmp None k = true
is_behind cmp (Some last) k = is_lt (cmp last k)

-- a key with its value, the key behind the one before it
abbrev pub entry_at : {K V : Type 0} → (K → K → Ordering) → (List ℕ → Option ((K × V) × List ℕ)) → Option K → List ℕ → Option ((K × V) × List ℕ)
entry_at cmp read last bytes = read bytes >>= λ e. if is_behind cmp last e.0.0 then Some e else None

-- so many keys with their values, each key behind the one before it
unfoldable pub ascending_at : {K V : Type 0} → (K → K → Ordering) → (List ℕ → Option ((K × V) × List ℕ)) → Option K → ℕ → List ℕ → Option (List (K × V) × List ℕ)
ascending_at cmp read last zero bytes = Some ([], bytes)
ascending_at cmp read last (suc n) bytes = do
  e ← entry_at cmp read last bytes
  es ← ascending_at cmp read (Some e.0.0) n e.1
  Some (e.0 ∷ es.0, es.1)

-- each key is behind the one before it, the first behind `last`
abbrev pub is_ascending : {K V : Type 0} → (K → K → Ordering) → Option K → List (K × V) → Bool
is_ascending cmp last [] = true
is_ascending cmp last (e ∷ es) = is_behind cmp last e.0 && is_ascending cmp (Some e.0) es

-- a list of keys with their values, in strictly ascending order of the keys
abbrev pub ascending : {K V : Type 0} → (K → K → Ordering) → ℕ → Form K → Form V → Form (List (K × V))
ascending {K} {V} cmp most k v = record {
  spell = (items most (pair k v)).spell;
  read = λ bytes. number_at w32 bytes >>= λ n. if nat_lt most n.0 then None else ascending_at cmp (pair k v).read None n.0 n.1;
  Fits = λ (es : List (K × V)). (items most (pair k v)).Fits es × IsTrue (is_ascending cmp None es);
}

-- the last key, if there is one
abbrev pub last_key : {K V : Type 0} → List (K × V) → Option K
last_key es = option_map (λ e. e.0) (slice_get es (length es - 1))
