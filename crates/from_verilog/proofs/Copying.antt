-- Outputs copied one after another.
use Prim.Native.Nat.{ℕ, ◌+◌, ◌≤◌}
use mathlib.Core.Path.{◌≡◌, refl, sym, ap, ◌∙◌}
use mathlib.Core.Bool.{Bool, false, cond}
use mathlib.Core.List.{List, [], ◌∷◌, map}
use mathlib.Core.Option.{some}
use native.Mathlib.Omega.{arith}
use lib.Dec.{eqb}
use lib.ListN.{length, drop}
use borrow.Author.Tests.{eqb-true, eqb-false}
use Rattle.netlist.specs.declared.Gate.{Gate}
use Rattle.netlist.specs.declared.Gate.TheVariants.{Eqw}
use Rattle.netlist.specs.Table.{Tables, tables}
use Rattle.netlist.proofs.Tests.{on_bool}
use Rattle.verilog.specs.Tokens.{Token, tokens}
use Rattle.verilog.specs.Equations.{chosen}
use Rattle.verilog.specs.Made.{copies}
use Rattle.from_verilog.specs.Next.{between, TokenAt}
use Rattle.from_verilog.specs.Puts.{put_gate, put_gates}
use Rattle.from_verilog.specs.Wires.{wire_of}
use Rattle.from_verilog.specs.Ports.{ports_left}
use Rattle.from_verilog.proofs.Seating.{port-here, port-next, port-none}
use Rattle.from_verilog.specs.Copies.{CopyIs, output_copies, CopiesIs}

-- ---- all of them

puts_none : (n : ℕ) (T : Tables) → put_gates n T [] ≡ T
unfolding put_gates
puts_none n T = refl

puts-more : (n : ℕ) (T : Tables) (g : Gate) (gs : List Gate) → put_gates n T (g ∷ gs) ≡ put_gates n (put_gate n T g) gs
unfolding put_gates
puts-more n T g gs = refl

pub record Ahead (t words st ws : List ℕ) (count n c : ℕ) (T₀ T : Tables) (free place : ℕ) (ps : List (List ℕ))
    (rest : List Token) : Type 0 where
  pub more : List (List ℕ)
  pub left : tokens (drop place t) ≡ some (ports_left more rest)
  pub same : put_gates n T₀ (output_copies t words st ws count c ps)
      ≡ put_gates n T (output_copies t words st ws count free more)

pub record Copying (t words st ws : List ℕ) (count n at c : ℕ) (o₀ r₀ o r : List ℕ) (code from to free : ℕ) : Type 0
  where
    pub place : ℕ
    pub token : TokenAt t place code from to
    pub operands : length o ≡ length o₀
    pub results : length r ≡ length r₀
    pub first : n ≤ free
    pub few : free ≤ c + place
    pub gives : (ps : List (List ℕ)) (rest : List Token) → tokens (drop at t) ≡ some (ports_left ps rest)
        → Ahead t words st ws count n c (tables o₀ r₀)
        (tables o r) free place ps rest

module _ {t words st ws : List ℕ} {count n at c : ℕ} {o₀ r₀ : List ℕ} where
  module _ {o r : List ℕ} {code from to free : ℕ} (C : Copying t words st ws count n at c o₀ r₀ o r code from to free)
    where
      pub copies-end : (code ≡ 15 → ⊥) → CopiesIs t words st ws count n at c (tables o₀ r₀) (tables o r)
      copies-end h = record {
        gives = λ ps rest e. let A = C.gives ps rest e in sym (A.same
            ∙ ap (λ (us : List (List ℕ)). put_gates n (tables o r)
            (output_copies t words st ws count free us)) (port-none C.token h A.more rest A.left)
            ∙ puts_none n (tables o r));
      }

      pub copies-on : code ≡ 15 → {o' r' : List ℕ} {free' : ℕ} → CopyIs t words st ws count n (between t from to) free
          (tables o r) (tables o' r') free' → length
          o' ≡ length o → length r' ≡ length r
          → {cc fc tc code' from' to' : ℕ} → TokenAt t to cc fc tc → TokenAt t tc code' from' to'
          → Copying t words st ws count n at c o₀ r₀ o' r' code' from' to' free'
      copies-on five {o'} {r'} {free'} K lo lr {cc} {fc} {tc} X A = record {
        place = tc;
        token = A;
        operands = lo ∙ C.operands;
        results = lr ∙ C.results;
        first = on_bool (eqb (wire_of t words st count w) 6)
            (λ e. let k = (K.is_output (eqb-true (wire_of t words st count w) 6 e)).0 in omega (arith, k, C.first))
            (λ e. let k = (K.is_other (eqb-false (wire_of t words st count w) 6 e)).0 in omega (arith, k, C.first));
        few = let z : eqb code 0 ≡ false = ap (λ (c : ℕ). eqb c 0) five in on_bool (eqb (wire_of t words st count w) 6)
            (λ e. let k = (K.is_output (eqb-true (wire_of t words st count w) 6 e)).0
            in omega (arith, k, C.few, C.token.start, C.token.on z, X.start, X.onward))
            (λ e. let k = (K.is_other (eqb-false (wire_of t words st count w) 6 e)).0
            in omega (arith, k, C.few, C.token.start, C.token.on z, X.start, X.onward));
        gives = λ ps rest e.
            let H = C.gives ps rest e in
            let T = port-here C.token five H.more rest H.left in
            record {
              more = T.0;
              left = port-next X T.0 rest T.2;
              same = H.same ∙ ap (λ (us : List (List ℕ)). put_gates n (tables o r)
                  (output_copies t words st ws count free us)) T.1 ∙ one T.0;
            };
      }
        where
          w : List ℕ
          w = between t from to

          p : List ℕ → Bool
          p v = eqb (wire_of t words st count v) 6

          one : (us : List (List ℕ)) → put_gates n (tables o r) (output_copies t words st ws count free (w ∷ us))
              ≡ put_gates n (tables o' r')
              (output_copies t words st ws count free' us)
          one us = on_bool (p w)
              (λ e. let k = K.is_output (eqb-true (wire_of t words st count w) 6 e) in
              let gs = copies (free + 1) (map (wire_of t words ws count) (chosen p us)) in
              ap (λ (b : Bool). put_gates n (tables o r) (copies free
              (map (wire_of t words ws count) (cond b (w ∷ chosen p us) (chosen p us))))) e
              ∙ puts-more n (tables o r) (Eqw (wire_of t words ws count w) free) gs
              ∙ (λ i. put_gates n (sym k.1 i) (copies (sym k.0 i) (map (wire_of t words ws count) (chosen p us)))))
              (λ e. let k = K.is_other (eqb-false (wire_of t words st count w) 6 e) in
              ap (λ (b : Bool). put_gates n (tables o r) (copies free
              (map (wire_of t words ws count) (cond b (w ∷ chosen p us) (chosen p us))))) e
              ∙ (λ i. put_gates n (sym k.1 i) (copies (sym k.0 i) (map (wire_of t words ws count) (chosen p us)))))
