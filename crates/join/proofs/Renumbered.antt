-- Gates on other wires: what they make, which operands they have, and two renumberings in a row.
use Prim.Native.Nat.{ℕ}
use mathlib.Core.Path.{◌≡◌, refl, ap₂}
use mathlib.Core.Bool.{Bool}
use mathlib.Core.List.{List, [], ◌∷◌, map}
use lib.Dec.{T}
use Rattle.netlist.specs.declared.Gate.{Gate}
use Rattle.netlist.specs.declared.Gate.TheVariants.{Xor, And, Inv, Eqw, Eq}
use Rattle.netlist.specs.Netlist.{result}
use Rattle.netlist.specs.Eval.{made}
use Rattle.netlist.specs.Read.{operands_given}
use Rattle.netlist.proofs.Tests.{both, pair, empty, each}
use Rattle.netlist.proofs.Models.{Models}
use Rattle.join.specs.Join.{renumbered}

pub result-renumbered : (f : ℕ → ℕ) (g : Gate) → result (renumbered f g) ≡ f (result g)
result-renumbered f (Xor a b c) = refl
result-renumbered f (And a b c) = refl
result-renumbered f (Inv a c) = refl
result-renumbered f (Eqw a c) = refl
result-renumbered f (Eq v c) = refl

pub operands-renumbered : (has has' : ℕ → Bool) (f : ℕ → ℕ) (g : Gate) → ((a : ℕ) → T (has a) → T (has' (f a)))
    → T (operands_given has g)
    → T (operands_given has' (renumbered f g))
operands-renumbered has has' f (Xor a b c) h t = let p = both (has a) (has b) t in pair (has' (f a)) (has' (f b))
    (h a p.0) (h b p.1)
operands-renumbered has has' f (And a b c) h t = let p = both (has a) (has b) t in pair (has' (f a)) (has' (f b))
    (h a p.0) (h b p.1)
operands-renumbered has has' f (Inv a c) h t = h a t
operands-renumbered has has' f (Eqw a c) h t = h a t
operands-renumbered has has' f (Eq v c) h t = t

-- bits that satisfy the renumbered gates satisfy the gates, read where the wires went
satisfied : (u : ℕ → Bool) (f : ℕ → ℕ) (g : Gate) → u (result (renumbered f g)) ≡ made u (renumbered f g)
    → u (f (result g)) ≡ made (λ w. u (f w)) g
satisfied u f (Xor a b c) h = h
satisfied u f (And a b c) h = h
satisfied u f (Inv a c) h = h
satisfied u f (Eqw a c) h = h
satisfied u f (Eq v c) h = h

pub models-renumbered : (u : ℕ → Bool) (f : ℕ → ℕ) (gs : List Gate) → Models u (map (renumbered f) gs)
    → Models (λ w. u (f w)) gs
models-renumbered u f [] m = empty
models-renumbered u f (g ∷ gs) (each p ps) = each (satisfied u f g p) (models-renumbered u f gs ps)

-- one renumbering after another
renumbered-twice : (f g h : ℕ → ℕ) → ((w : ℕ) → f (g w) ≡ h w) → (e : Gate) → renumbered f (renumbered g e)
    ≡ renumbered h e
renumbered-twice f g h p (Xor a b c) = cc (p a, p b, p c)
renumbered-twice f g h p (And a b c) = cc (p a, p b, p c)
renumbered-twice f g h p (Inv a c) = cc (p a, p c)
renumbered-twice f g h p (Eqw a c) = cc (p a, p c)
renumbered-twice f g h p (Eq v c) = cc (p c)

pub gates-twice : (f g h : ℕ → ℕ) → ((w : ℕ) → f (g w) ≡ h w) → (gs : List Gate)
    → map (renumbered f) (map (renumbered g) gs) ≡ map (renumbered h) gs
gates-twice f g h p [] = refl
gates-twice f g h p (e ∷ es) = ap₂ (λ (x : Gate) (xs : List Gate). x ∷ xs) (renumbered-twice f g h p e)
    (gates-twice f g h p es)
