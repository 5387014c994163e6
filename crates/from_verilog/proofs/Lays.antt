-- The gates of assignments: from a table of wires, and from a list of entries.
use Prim.Native.Nat.{ℕ, ◌≤◌, ◌<◌}
use mathlib.Core.Path.{◌≡◌, refl, sym, ap, ◌∙◌}
use mathlib.Core.Bool.{cond}
use mathlib.Core.List.{List, [], ◌∷◌, ◌++◌, append_assoc, append-nil}
use native.Mathlib.Omega.{arith}
use lib.Dec.{T}
use lib.ListN.{length}
use Rattle.netlist.specs.declared.Gate.{Gate}
use Rattle.netlist.specs.Lists.{same_bytes}
use Rattle.netlist.proofs.Tests.{both}
use Rattle.verilog.specs.Tokens.{elem}
use Rattle.verilog.specs.Syntax.{Assign}
use Rattle.verilog.specs.EachName.{targets_among}
use Rattle.verilog.specs.Equations.{Entry, entry, look}
use Rattle.verilog.specs.Made.{Made, expr_made, Built, build}
use Rattle.from_verilog.specs.Names.{found}
use Rattle.from_verilog.specs.Wires.{wire_of, given}
use Rattle.from_verilog.specs.Equations.{Laid, lay_all}
use Rattle.from_verilog.proofs.Entries.{wire-given, length-given}

module _ (t words : List ℕ) (n : ℕ) (targets : List (List ℕ)) (declared : (w : List ℕ) → T (elem w targets)
    → 0 < found t words w n) where
  pub record Laid' (B : Laid) (gates : List Gate) (M : Built) : Type 0 where
    pub made : B.gates ≡ gates ++ M.gates
    pub next : B.next ≡ M.next
    pub wired : n ≤ length B.wires
    pub wires : (v : List ℕ) → wire_of t words B.wires n v ≡ look 0 M.names v

  pub lay-build : (xs : List Assign) (gates : List Gate) (ws : List ℕ) (c : ℕ) (es : List (Entry ℕ)) → n ≤ length ws →
      ((v : List ℕ) → wire_of t words ws n v ≡ look 0 es v)
      → T (targets_among targets xs) → Laid' (lay_all t words n (record { gates = gates; wires = ws; next = c }) xs)
      gates (build es c xs)
  lay-build [] gates ws c es l h d = record { made = sym (append-nil gates); next = refl; wired = l; wires = h }
  lay-build (a ∷ xs) gates ws c es l h d =
      let w = a.target in
      let b = both (elem w targets) (targets_among targets xs) d in
      let at : wire_of t words ws n ≡ look 0 es = λ i v. h v i in
      let M = expr_made a.value (wire_of t words ws n) c in
      let N = expr_made a.value (look 0 es) c in
      let q : M ≡ N = ap (λ (g : List ℕ → ℕ). expr_made a.value g c) at in
      let ws' = given t words ws n w M.wire in
      let R = lay-build xs (gates ++ M.gates) ws' M.next (entry w M.wire ∷ es)
      (omega (arith, l, length-given t words ws n w M.wire))
      (λ v. wire-given t words n w (declared w b.0) M.wire ws l v ∙ ap (λ (x : ℕ). cond (same_bytes v w) M.wire x)
      (h v)) b.1 in
      let s : build (entry w M.wire ∷ es) M.next xs ≡ build (entry w N.wire ∷ es) N.next xs = ap
      (λ (X : Made). build (entry w X.wire ∷ es) X.next xs) q in
      record {
        made = R.made ∙ append_assoc gates M.gates (build (entry w M.wire ∷ es) M.next xs).gates
            ∙ ap (λ (gs : List Gate). gates ++ gs)
            (ap (λ (X : Made). X.gates ++ (build (entry w X.wire ∷ es) X.next xs).gates) q);
        next = R.next ∙ ap (λ (B : Built). B.next) s;
        wired = R.wired;
        wires = λ v. R.wires v ∙ ap (λ (B : Built). look 0 B.names v) s;
      }
