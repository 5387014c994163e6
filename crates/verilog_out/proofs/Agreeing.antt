-- Bits that satisfy the gates of a well-formed netlist are those that it computes.
use Rattle.std.proofs.Common.{◌≡◌, ℕ, ◌<◌, Bool, true, false, cond, ◌||◌, List, [], ◌∷◌, refl, sym, subst, ◌∙◌}
use Rattle.std.specs.List.{All}
use Rattle.std.proofs.lemmas.List.Elements.{All-nil, All-cons, All-head, All-tail}
use lib.Dec.{T, eqb, ltb, ltb→lt}
use borrow.Author.Tests.{eqb-true}
use Rattle.netlist.specs.declared.Gate.{Gate}
use Rattle.netlist.specs.declared.Gate.TheVariants.{Xor, And, Inv, Eqw, Eq}
use Rattle.netlist.specs.Lists.{empty, each, member}
use Rattle.netlist.specs.Netlist.{Netlist, input_bits, result}
use Rattle.netlist.specs.Eval.{made, bits_at, wire_bits}
use Rattle.netlist.specs.Read.{is_given, gates_good, WellFormed}
use Rattle.netlist.proofs.Tests.{on_bool, either}
use Rattle.netlist.proofs.GoodGates.{GoodGate, good_gate}
use Rattle.netlist.proofs.Models.{Models, made-same, bits-satisfy, bits-inputs}
use Rattle.verilog_out.specs.Assigns.{low, high, value_bit, assign_of, Allows, AllowsGates, Computes, HasInputs}

const_bit : (bit : List ℕ → Bool) (b : Bool) → value_bit bit (cond b high low) ≡ b
const_bit bit true = refl
const_bit bit false = refl

-- an assignment that is allowed is a gate that is satisfied
satisfied : (bit : List ℕ → Bool) (spell : ℕ → List ℕ) (g : Gate) → Allows bit (assign_of spell g)
    → bit (spell (result g)) ≡ made (λ w. bit (spell w)) g
satisfied bit spell (Xor a b c) p = p
satisfied bit spell (And a b c) p = p
satisfied bit spell (Inv a c) p = p
satisfied bit spell (Eqw a c) p = p
satisfied bit spell (Eq v c) p = p ∙ const_bit bit (eqb v 1)

models : (bit : List ℕ → Bool) (spell : ℕ → List ℕ) (gs : List Gate) → AllowsGates bit spell gs → Models (λ w. bit (spell w)) gs
models bit spell [] all = empty
models bit spell (g ∷ gs) all =
    let P : Gate → Type 0 = λ h. Allows bit (assign_of spell h) in
    each (satisfied bit spell g (All-head P g gs all)) (models bit spell gs (All-tail P g gs all))

-- a wire that is given after a gate, and is not the gate's, was given before
other : (n r w : ℕ) (rs : List ℕ) → T (is_given n (r ∷ rs) w) → eqb w r ≡ false → T (is_given n rs w)
other n r w rs h e = subst (λ (b : Bool). T (ltb w n || (b || member w rs))) e h

-- two choices of bits that satisfy the gates, and agree on what is given, agree on the gates' wires
agree : (n W : ℕ) (rs : List ℕ) (gs : List Gate) (u v : ℕ → Bool) → T (gates_good n W rs gs) → Models u gs → Models v gs
    → ((w : ℕ) → T (is_given n rs w) → u w ≡ v w) → All (λ g. u (result g) ≡ v (result g)) gs
agree n W rs [] u v t ps qs same = All-nil (λ g. u (result g) ≡ v (result g))
agree n W rs (g ∷ gs) u v t (each p ps) (each q qs) same =
    let G : GoodGate n W rs g gs = good_gate t in
    let here : u (result g) ≡ v (result g) = p ∙ made-same (is_given n rs) u v g G.operands same ∙ sym q in
    All-cons (λ h. u (result h) ≡ v (result h)) g gs here
    (agree n W (result g ∷ rs) gs u v G.rest ps qs
    (λ w h. on_bool (eqb w (result g))
    (λ e. subst (λ (x : ℕ). u x ≡ v x) (sym (eqb-true w (result g) e)) here)
    (λ e. same w (other n (result g) w rs h e))))

pub computes : (N : Netlist) (spell : ℕ → List ℕ) (bit : List ℕ → Bool) (ins : List Bool) → WellFormed N
    → HasInputs bit spell N ins → AllowsGates bit spell N.gates → Computes bit spell N ins
computes N spell bit ins F has all =
    agree (input_bits N) N.wires [] N.gates (λ w. bit (spell w)) (bits_at (wire_bits N ins)) F.good
    (models bit spell N.gates all) (bits-satisfy F ins)
    (λ w h. either (ltb w (input_bits N)) false
    (λ t. let l : w < input_bits N = ltb→lt w (input_bits N) t in has.1 w l ∙ sym (bits-inputs F ins has.0 w l))
    (λ f. absurd f) h)
