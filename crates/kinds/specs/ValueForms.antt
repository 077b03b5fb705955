-- The bytes of names, paths, texts, days, sizes, digests and segments, and that they are forms.
use Rattle.std.specs.Prelude.{◌≡◌, ℕ, ◌==◌, Bool, true, false, List, Option, Some, None, if◌then◌else◌, unwrap_or, refl}
use Rattle.std.proofs.Common.{sym, ◌∙◌, ap}
use Rattle.std.specs.Int.{w16, w32, w64}
use Rattle.std.proofs.lemmas.Bool.{eqb-true}
use Rattle.std.proofs.lemmas.Option.{same_Some}
use Rattle.fields.specs.Forms.{Form, IsForm, number, block, text, pair, viewed, partly, only, items}
use Rattle.fields.specs.FieldLaws.{number_form, block_form, text_form, wide16, wide32, wide64}
use Rattle.fields.specs.FormLaws.{pair_form, viewed_form, partly_form, only_form}
use Rattle.fields.specs.ListLaws.{items_form}
use Rattle.fields.specs.Editions.{Edition, byte_count, byte_count_form}
use Rattle.kinds.specs.Days.{is_day, is_days}
use Rattle.kinds.specs.Names.{is_name}
use Rattle.kinds.specs.Paths.{is_path}
use Rattle.kinds.specs.Pools.{is_capacity}
use Rattle.kinds.specs.Sizes.{is_size}
use Rattle.kinds.specs.Texts.{is_text}
use Rattle.kinds.specs.declared.segment.Digest.{Digest}
use Rattle.kinds.specs.declared.segment.Segment.{Segment}

-- a name: a text that is one as it stands
abbrev pub name : ℕ → Form (List ℕ)
name most = only (is_name most) text

-- a path: a text that is one
abbrev pub path : ℕ → Form (List ℕ)
path most = only (is_path most) text

-- what a client says of an object that it archives
abbrev pub description : Form (List ℕ)
description = only is_text text

-- a day: a number of four bytes that the calendar has
abbrev pub day : Form ℕ
day = only is_day (number w32)

-- a span of days: a number of two bytes
abbrev pub days : Form ℕ
days = only is_days (number w16)

-- how many bytes a volume has: a number of eight bytes
abbrev pub capacity : Form ℕ
capacity = only is_capacity (number w64)

-- how many bytes an object has
abbrev pub size : Edition → Form ℕ
size e = only is_size (byte_count e)

-- none for 0, and else the number
abbrev pub unless_zero : ℕ → Option ℕ
unless_zero n = if n == 0 then None else Some n

-- a number from 1 on, or 0 for none
abbrev pub or_zero : Form ℕ → Form (Option ℕ)
or_zero f = partly (λ n. Some (unless_zero n)) (λ o. unwrap_or o 0) f

-- a digest: its 32 bytes
abbrev pub digest_with : List ℕ → Digest
digest_with bytes = record { 0 = bytes }

abbrev pub digest : Form Digest
digest = viewed digest_with (λ (d : Digest). d.0) (block 32)

-- a segment: its volume's file number, where its frame begins, and the length of its data
abbrev pub segment_with : ℕ × (ℕ × ℕ) → Segment
segment_with f = record { file = f.0; offset = f.1.0; len = f.1.1 }

abbrev pub segment_fields : Segment → ℕ × (ℕ × ℕ)
segment_fields s = (s.file, (s.offset, s.len))

abbrev pub segment : Edition → Form Segment
segment e = viewed segment_with segment_fields (pair (number w32) (pair (number w64) (byte_count e)))

-- the segments of a copy: their number in four bytes, and the segments
abbrev pub segments : Edition → Form (List Segment)
segments e = items 4294967295 (segment e)

-- ---- laws

pub name_form : (most : ℕ) → IsForm (name most)
name_form most = only_form (is_name most) text_form

pub path_form : (most : ℕ) → IsForm (path most)
path_form most = only_form (is_path most) text_form

pub description_form : IsForm description
description_form = only_form is_text text_form

pub day_form : IsForm day
day_form = only_form is_day (number_form w32 wide32)

pub days_form : IsForm days
days_form = only_form is_days (number_form w16 wide16)

pub capacity_form : IsForm capacity
capacity_form = only_form is_capacity (number_form w64 wide64)

pub size_form : (e : Edition) → IsForm (size e)
size_form e = only_form is_size (byte_count_form e)

unless_zero-back : (n : ℕ) (b : Bool) → (n == 0) ≡ b → unwrap_or (if b then None else Some n) 0 ≡ n
unless_zero-back n true e = sym (eqb-true n 0 e)
unless_zero-back n false e = refl

pub or_zero_form : {f : Form ℕ} → IsForm f → IsForm (or_zero f)
or_zero_form {f} law = partly_form (λ n. Some (unless_zero n)) (λ o. unwrap_or o 0) back law where
  back : (n : ℕ) (o : Option ℕ) → Some (unless_zero n) ≡ Some o → unwrap_or o 0 ≡ n
  back n o e = ap (λ (p : Option ℕ). unwrap_or p 0) (sym (same_Some (unless_zero n) o e)) ∙ unless_zero-back n (n == 0) refl

pub digest_form : IsForm digest
digest_form = viewed_form digest_with (λ (d : Digest). d.0) (λ _. refl) (λ _. refl) (block_form 32)

pub segment_form : (e : Edition) → IsForm (segment e)
segment_form e = viewed_form segment_with segment_fields (λ _. refl) (λ _. refl) (pair_form (number_form w32 wide32) (pair_form (number_form w64 wide64) (byte_count_form e)))

pub segments_form : (e : Edition) → IsForm (segments e)
segments_form e = items_form 4294967295 (segment_form e)
