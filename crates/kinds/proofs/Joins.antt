-- Fields that were put one after the other are together at the end.
use Rattle.std.proofs.Common.{◌≡◌, ℕ, List, ◌++◌, append_assoc}

pub seven : (old a b c d e f g n1 n2 n3 n4 n5 n6 n7 : List ℕ)
    → n1 ≡ old ++ a → n2 ≡ n1 ++ b → n3 ≡ n2 ++ c → n4 ≡ n3 ++ d → n5 ≡ n4 ++ e → n6 ≡ n5 ++ f → n7 ≡ n6 ++ g
    → n7 ≡ old ++ (a ++ (b ++ (c ++ (d ++ (e ++ (f ++ g))))))
seven old a b c d e f g n1 n2 n3 n4 n5 n6 n7 e1 e2 e3 e4 e5 e6 e7 =
    rw (e7, e6, e5, e4, e3, e2, e1) (simp append_assoc)

pub eight : (old a b c d e f g h n1 n2 n3 n4 n5 n6 n7 n8 : List ℕ)
    → n1 ≡ old ++ a → n2 ≡ n1 ++ b → n3 ≡ n2 ++ c → n4 ≡ n3 ++ d → n5 ≡ n4 ++ e → n6 ≡ n5 ++ f → n7 ≡ n6 ++ g → n8 ≡ n7 ++ h
    → n8 ≡ old ++ (a ++ (b ++ (c ++ (d ++ (e ++ (f ++ (g ++ h)))))))
eight old a b c d e f g h n1 n2 n3 n4 n5 n6 n7 n8 e1 e2 e3 e4 e5 e6 e7 e8 =
    rw (e8, e7, e6, e5, e4, e3, e2, e1) (simp append_assoc)

pub nine : (old a b c d e f g h i n1 n2 n3 n4 n5 n6 n7 n8 n9 : List ℕ)
    → n1 ≡ old ++ a → n2 ≡ n1 ++ b → n3 ≡ n2 ++ c → n4 ≡ n3 ++ d → n5 ≡ n4 ++ e → n6 ≡ n5 ++ f → n7 ≡ n6 ++ g → n8 ≡ n7 ++ h → n9 ≡ n8 ++ i
    → n9 ≡ old ++ (a ++ (b ++ (c ++ (d ++ (e ++ (f ++ (g ++ (h ++ i))))))))
nine old a b c d e f g h i n1 n2 n3 n4 n5 n6 n7 n8 n9 e1 e2 e3 e4 e5 e6 e7 e8 e9 =
    rw (e9, e8, e7, e6, e5, e4, e3, e2, e1) (simp append_assoc)

pub three : (old a b c n1 n2 n3 : List ℕ) → n1 ≡ old ++ a → n2 ≡ n1 ++ b → n3 ≡ n2 ++ c → n3 ≡ old ++ (a ++ (b ++ c))
three old a b c n1 n2 n3 e1 e2 e3 = rw (e3, e2, e1) (simp append_assoc)
