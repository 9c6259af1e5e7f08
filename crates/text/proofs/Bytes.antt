-- What a byte's class says of the byte. Assumes nothing.
use Rattle.std.proofs.Common.{◌≡◌, ℕ, Bool, true, false, cond, eqb, sym, refl, subst, true-eqb}
use Rattle.text.specs.declared.reader.Class.{Class}
use Rattle.text.specs.declared.reader.Class.TheVariants.{Bar, Star, Open, Shut, Dot, Range, Right, Escape, Plain}
use Rattle.text.specs.Classes.{class_of}

abbrev pub Byte : Class → ℕ → Type 0
Byte Bar c = c ≡ 124
Byte Star c = c ≡ 42
Byte Open c = c ≡ 40
Byte Shut c = c ≡ 41
Byte Dot c = c ≡ 46
Byte Range c = c ≡ 91
Byte Right c = c ≡ 93
Byte Escape c = c ≡ 92
Byte Plain c = Unit {0}

chosen : (c n : ℕ) (k rest : Class) → (c ≡ n → Byte k c) → Byte rest c → Byte (cond (eqb c n) k rest) c
chosen c n k rest here past = go (eqb c n) refl
  where
    go : (b : Bool) → eqb c n ≡ b → Byte (cond b k rest) c
    go true e = here (true-eqb c n (sym e))
    go false e = past

byte_of_class : (c : ℕ) → Byte (class_of c) c
byte_of_class c =
    chosen c 124 Bar _ (λ e. e)
    (chosen c 42 Star _ (λ e. e)
    (chosen c 40 Open _ (λ e. e)
    (chosen c 41 Shut _ (λ e. e)
    (chosen c 46 Dot _ (λ e. e)
    (chosen c 91 Range _ (λ e. e)
    (chosen c 93 Right _ (λ e. e)
    (chosen c 92 Escape Plain (λ e. e) tt)))))))

pub byte_is : (c : ℕ) (k : Class) → class_of c ≡ k → Byte k c
byte_is c k e = subst (λ x. Byte x c) e (byte_of_class c)
