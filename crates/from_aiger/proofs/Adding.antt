-- Gates added after others: those of an operand, of an AND line, of an output.
use Prim.Native.Nat.{ℕ, ◌+◌, ◌-◌, ◌/◌, ◌%◌, ◌<◌, ◌≤◌}
use mathlib.Core.Path.{◌≡◌, refl, sym, ◌∙◌, subst}
use mathlib.Core.Bool.{true}
use mathlib.Core.List.{List, [], ◌∷◌, ◌++◌, append-nil, append_assoc}
use native.Mathlib.Omega.{arith}
use lib.Dec.{eqb, ltb}
use lib.ListN.{length, get_or, length-append}
use Rattle.netlist.specs.declared.Gate.{Gate}
use Rattle.netlist.specs.declared.Gate.TheVariants.{And, Inv, Eqw, Eq}
use Rattle.netlist.specs.Lists.{member}
use Rattle.netlist.specs.Table.{Tables, Wired, Named}
use Rattle.netlist.specs.Eval.{bit}
use borrow.Author.Tests.{eqb-true, eqb-false, ltb-true, ltb-false}
use Rattle.netlist.proofs.Tests.{true-T, on_bool}
use Rattle.gates.specs.Numbers.{Names}
use Rattle.aiger.specs.File.{literal}
use Rattle.aiger.specs.Rules.{readable}
use Rattle.aiger.specs.Made.{wire_at, operand}
use Rattle.from_aiger.specs.Places.{Holding, Keeps, Keeping, Standing, Added, OperandIs, AndIs, OutIs}
use Rattle.aiger.proofs.MadeGates.{InOrder, order-next, operand-order}
use Rattle.from_aiger.proofs.Placing.{literal-low, literal-even, literal-odd, literal-readable, place-wire}

keeps-later : {t : Tables} {c d : ℕ} {gs : List Gate} → c ≤ d → Keeps t c gs → Keeps t d gs
keeps-later {t} {c} {d} {gs} l k a b =
    let H : Holding t c gs = k a b in
    let w : Wired t c (length gs) = H.wired in
    record {
      gates = H.gates;
      wired = record {
        operands = w.operands;
        results = w.results;
        each = λ i h.
            let e : Named c _ _ = w.each i h in
            record {
              kind = e.kind;
              left = omega (arith, e.left);
              right = omega (arith, e.right);
              result
                  = omega (arith, e.result);
            };
      };
    }

module _ {table : List ℕ} {t : Tables} {n count : ℕ} {given wires : List ℕ} {gs : List Gate}
    (S : Standing table t n count given wires gs) where
  -- one more gate, on the next wire
  pub standing-more : {u : Tables} (g : Gate) → Names (n + count + 1) g → Keeping t u count g
      → Standing table u n (count + 1) given wires (gs ++ (g ∷ []))
  standing-more {u} g m k =
      let z : n + (count + 1) ≡ n + count + 1 = omega arith in
      record {
        places = S.places;
        located = λ v h. let p = S.located v h in omega arith;
        size = sym (length-append gs (g ∷ []) ∙ omega (arith, S.size));
        keeps = rw z (k (n + count + 1) gs S.size m (keeps-later (omega arith) S.keeps));
      }

  -- the wire of a given variable
  pub standing-wire : (v : ℕ) → member v given ≡ true → (get_or table v 0 ≡ wire_at wires v + 1)
      × (wire_at wires v < n + count)
  standing-wire v e = (place-wire S.places v e, S.located v (true-T (member v given) e))

bit-of : (x : ℕ) → x < 2 → bit (eqb x 1) ≡ x
bit-of x h = on_bool (eqb x 0)
    (λ e. let z : x ≡ 0 = eqb-true x 0 e in rw z)
    (λ e. let d : x ≡ 0 → ⊥ = eqb-false x 0 e in let z : x ≡ 1 = omega arith in rw z)

module _ (table : List ℕ) (t : Tables) (n count x c : ℕ) (same : c ≡ n + count) where
  -- the gate of an output is that of an operand, but for a variable's own wire
  pub operand-out : (u : Tables) → (2 ≤ x → x % 2 ≡ 0 → ⊥) → OutIs table t u n count x → OperandIs table t u n count x c
      (count + 1)
  operand-out u e o given wires gs S r =
      let s = o given wires gs S r in
      on_bool (ltb x 2)
      (λ b. let l = literal-low x (ltb-true x 2 b) in rw l (same, record { next = omega arith; standing = rw l at s }))
      (λ b. let high = ltb-false x 2 b in
      let l = literal-odd x high (e high) in
      rw l (same, record { next = omega arith; standing = rw l at s }))

  module _ (w : ℕ) (high : 2 ≤ x) (at : w ≡ get_or table (x / 2) 0 - 1) where
    wire-of : {given wires : List ℕ} {gs : List Gate} → Standing table t n count given wires gs
        → readable given (literal x) ≡ true
        → (w ≡ wire_at wires (x / 2)) × (w < n + count)
    wire-of {given} S r =
        let p = standing-wire S (x / 2) (sym (literal-readable x high given) ∙ r) in
        let q = p.0 in
        let l = p.1 in
        (omega arith, omega arith)

    pub operand-plain : x % 2 ≡ 0 → OperandIs table t t n count x w count
    operand-plain e given wires gs S r =
        let p = wire-of S r in
        rw (literal-even x high e) (
          p.0,
          record {
            next = refl;
            standing = subst (Standing table t n count given wires)
                (sym (append-nil gs)) S;
          },
        )

-- ---- an AND line

regroup : (a b c d : List Gate) → ((a ++ b) ++ c) ++ d ≡ a ++ ((b ++ c) ++ d)
regroup a b c d = simp append_assoc

module _ {table : List ℕ} {t u₁ u₂ u₃ : Tables} {n count : ℕ} (x y : ℕ) {l₁ c₁ l₂ c₂ : ℕ} where
  pub and-added : OperandIs table t u₁ n count x l₁ c₁ → OperandIs table u₁ u₂ n c₁ y l₂ c₂
      → Keeping u₂ u₃ c₂ (And l₁ l₂ (n + c₂))
      → AndIs table t u₃ n count x y (n + c₂) (c₂ + 1)
  and-added p q k given wires gs S r s v =
      let at = wire_at wires in
      let L = operand at (literal x) (n + count) in
      let R = operand at (literal y) L.next in
      let a = p given wires gs S r in
      let A : Added table u₁ n c₁ given wires gs L = a.1 in
      let z : n + c₁ ≡ L.next = A.next in
      let b = rw z at (q given wires (gs ++ L.gates) A.standing s) in
      let B : Added table u₂ n c₂ given wires (gs ++ L.gates) R = b.1 in
      let y' : n + c₂ ≡ R.next = B.next in
      let o : InOrder (n + count) L = operand-order at given (literal x) (n + count) S.located (true-T _ r) in
      let o₂ : InOrder L.next R = operand-order at given (literal y) L.next (rw z at A.standing.located) (true-T _ s) in
      let f : l₁ < n + c₂ + 1 = omega (arith, a.0, o.wire, order-next o₂) in
      let g : l₂ < n + c₂ + 1 = omega (arith, b.0, o₂.wire) in
      let m : Names (n + c₂ + 1) (And l₁ l₂ (n + c₂)) = (f, g, omega arith) in
      let T' : Standing table u₃ n (c₂ + 1) given wires (((gs ++ L.gates) ++ R.gates) ++ (And l₁ l₂ (n + c₂) ∷ []))
      = standing-more B.standing _ m k in
      let e : And l₁ l₂ (n + c₂) ≡ And L.wire R.wire R.next = rw (a.0, b.0, y') in (
        y',
        record {
          next = omega arith;
          standing = rw (regroup gs L.gates R.gates (And L.wire R.wire R.next ∷ [])) at (rw e at T');
        },
      )

-- ---- an output

module _ (table : List ℕ) (t u : Tables) (n count x c : ℕ) (same : c ≡ n + count) where
  pub out-constant : x < 2 → Keeping t u count (Eq x c) → OutIs table t u n count x
  out-constant h k given wires gs S r =
      let m : Names (n + count + 1) (Eq x c) = (h, omega arith) in
      let s : Standing table u n (count + 1) given wires (gs ++ (Eq x c ∷ [])) = standing-more S (Eq x c) m k in
      let e : Eq x c ≡ Eq (bit (eqb x 1)) (n + count) = rw (bit-of x h, same) in
      rw (literal-low x h) (rw e at s)

  module _ (w : ℕ) (high : 2 ≤ x) (at : w ≡ get_or table (x / 2) 0 - 1) where
    pub out-plain : x % 2 ≡ 0 → Keeping t u count (Eqw w c) → OutIs table t u n count x
    out-plain e k given wires gs S r =
        let p = wire-of table t n count x c same w high at S r in
        let m : Names (n + count + 1) (Eqw w c) = (omega (arith, p.1), omega arith) in
        let s : Standing table u n (count + 1) given wires (gs ++ (Eqw w c ∷ [])) = standing-more S (Eqw w c) m k in
        let g : Eqw w c ≡ Eqw (wire_at wires (x / 2)) (n + count) = rw (p.0, same) in
        rw (literal-even x high e) (rw g at s)

    pub out-inverse : (x % 2 ≡ 0 → ⊥) → Keeping t u count (Inv w c) → OutIs table t u n count x
    out-inverse e k given wires gs S r =
        let p = wire-of table t n count x c same w high at S r in
        let m : Names (n + count + 1) (Inv w c) = (omega (arith, p.1), omega arith) in
        let s : Standing table u n (count + 1) given wires (gs ++ (Inv w c ∷ [])) = standing-more S (Inv w c) m k in
        let g : Inv w c ≡ Inv (wire_at wires (x / 2)) (n + count) = rw (p.0, same) in
        rw (literal-odd x high e) (rw g at s)
