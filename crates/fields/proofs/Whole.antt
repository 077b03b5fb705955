-- A value that the bytes begin with, and bytes that are a value's whole spelling.
use Rattle.std.proofs.Common.{◌≡◌, ℕ, List, [], ◌++◌, Option, Some, None, sym, ap, ◌∙◌}
use Rattle.std.specs.Prelude.{IfSome, IfNone}
use Rattle.std.proofs.lemmas.List.{append-nil}
use Rattle.fields.specs.Forms.{Form, IsForm}
use Rattle.fields.specs.ListLaws.{one_value}

-- where no value's spelling begins the bytes, none is all of them
pub none_whole : {X : Type 0} (f : Form X) (o : Option X) (bytes : List ℕ) → IfNone o ((x : X) (rest : List ℕ) → f.Fits x → bytes ≡ f.spell x ++ rest → ⊥) → IfNone o ((x : X) → f.Fits x → bytes ≡ f.spell x → ⊥)
none_whole f None bytes h = λ x fits e. h x [] fits (e ∙ sym (append-nil (f.spell x)))
none_whole f (Some y) bytes h = tt

-- where bytes are left behind the one value that they begin with, or there is none, they are no value's spelling
pub none_longer : {X : Type 0} {f : Form X} (law : IsForm f) (o : Option X) (bytes rest : List ℕ) → (rest ≡ [] → ⊥) → IfSome o (λ x. f.Fits x × (bytes ≡ f.spell x ++ rest)) → IfNone o ((x : X) (rest : List ℕ) → f.Fits x → bytes ≡ f.spell x ++ rest → ⊥) → (x : X) → f.Fits x → bytes ≡ f.spell x → ⊥
none_longer {X} {f} law None bytes rest more found none x fits e = none x [] fits (e ∙ sym (append-nil (f.spell x)))
none_longer {X} {f} law (Some y) bytes rest more found none x fits e = more (one_value law y x rest found.0 fits (sym found.1 ∙ e)).1

-- where no bytes are left behind the value that they begin with, no other value's spelling begins with them
pub alone_whole : {X : Type 0} {f : Form X} (law : IsForm f) (o : Option X) (bytes left : List ℕ) → left ≡ [] → IfSome o (λ x. f.Fits x × (bytes ≡ f.spell x ++ left))
    → IfSome o (λ x. (y : X) (rest : List ℕ) → f.Fits y → bytes ++ rest ≡ f.spell y → (y ≡ x) × (rest ≡ []))
alone_whole {X} {f} law None bytes left end found = tt
alone_whole {X} {f} law (Some x) bytes left end found = λ y rest fits e.
    let whole : bytes ≡ f.spell x = found.1 ∙ ap (λ (r : List ℕ). f.spell x ++ r) end ∙ append-nil (f.spell x) in
    one_value law x y rest found.0 fits (ap (λ (b : List ℕ). b ++ rest) (sym whole) ∙ e)
