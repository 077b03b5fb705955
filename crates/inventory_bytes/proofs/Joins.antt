-- Fields that were put one after the other are together at the end.
use Rattle.std.proofs.Common.{◌≡◌, ℕ, List, ◌++◌, append_assoc}

pub two : (old a b n1 n2 : List ℕ) → n1 ≡ old ++ a → n2 ≡ n1 ++ b → n2 ≡ old ++ (a ++ b)
two old a b n1 n2 e1 e2 = rw (e2, e1) (simp append_assoc)

pub four : (old a b c d n1 n2 n3 n4 : List ℕ) → n1 ≡ old ++ a → n2 ≡ n1 ++ b → n3 ≡ n2 ++ c → n4 ≡ n3 ++ d → n4 ≡ old ++ (a ++ (b ++ (c ++ d)))
four old a b c d n1 n2 n3 n4 e1 e2 e3 e4 = rw (e4, e3, e2, e1) (simp append_assoc)

pub five : (old a b c d e n1 n2 n3 n4 n5 : List ℕ) → n1 ≡ old ++ a → n2 ≡ n1 ++ b → n3 ≡ n2 ++ c → n4 ≡ n3 ++ d → n5 ≡ n4 ++ e → n5 ≡ old ++ (a ++ (b ++ (c ++ (d ++ e))))
five old a b c d e n1 n2 n3 n4 n5 e1 e2 e3 e4 e5 = rw (e5, e4, e3, e2, e1) (simp append_assoc)
