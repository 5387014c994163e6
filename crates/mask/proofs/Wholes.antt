-- Header and gates put together to the whole text, and question 14.
use Rattle.std.specs.Prelude.{Ok}
use Prim.Native.Nat.{ℕ, ◌+◌, ◌*◌, ◌≤◌, ◌<◌}
use mathlib.Core.Path.{◌≡◌, refl, sym, ap, ◌∙◌}
use mathlib.Core.Bool.{true}
use mathlib.Core.List.{List, [], ◌∷◌, ◌++◌}
use native.Mathlib.Nat.{lt_of_le_of_lt}
use native.Mathlib.Omega.{arith}
use lib.Dec.{leb, lit<}
use lib.ListN.{length, take}
use borrow.Author.Tests.{le-leb, leb-true}
use Rattle.netlist.specs.Netlist.{Netlist}
use Rattle.netlist.specs.Table.{Tables, gates_of, Holds}
use Rattle.masking.specs.Mask.{Masked, mask_netlist}
use Rattle.netlist.specs.Outcome.{done}
use Rattle.netlist.specs.Read.{WellFormed}
use Rattle.netlist.specs.Write.{write_netlist, gate_text}
use Rattle.masking.specs.Calls.{masked_text, deliver_outcome}
use Rattle.netlist.proofs.Answering.{take-sets}
use Rattle.netlist.proofs.Size.{formed-lines}
use Rattle.writer.specs.Wrote.{Wrote, top}
use Rattle.write_netlist.specs.Header.{header_text}
use Rattle.writer.proofs.Writing.{wrote_then, wrote_as}
use Rattle.writer.specs.Room.{longest_line}
use Rattle.writer.proofs.Delivering.{ample-holds}
use Rattle.write_netlist.proofs.Headers.{header-gates}
use Rattle.mask.specs.Pass.{WrotePass, Counted}
use Rattle.mask.specs.Whole.{Source, Numbers, WroteText, Filled, MaskAnswers}

text-made : (M : Netlist) (g w : ℕ) (ins outs : List ℕ) → g ≡ length M.gates → w ≡ M.wires → ins ≡ M.inputs → outs
    ≡ M.outputs
    → header_text g w ins outs ++ gate_text M.gates ≡ write_netlist M
text-made M g w ins outs a b c d = (λ i. header_text (a i) (b i) (c i) (d i) ++ gate_text M.gates) ∙ header-gates M

masked-inputs : (N : Netlist) (cs vs : List ℕ) → N.inputs ++ (2 ∷ []) ≡ (mask_netlist N cs vs).netlist.inputs
unfolding mask_netlist
masked-inputs N cs vs = refl

masked-outputs : (N : Netlist) (cs vs : List ℕ) → N.outputs ≡ (mask_netlist N cs vs).netlist.outputs
unfolding mask_netlist
masked-outputs N cs vs = refl

module _ {t : Tables} {count W n m : ℕ} {ins outs : List ℕ} {N : Netlist} (h : Source t count W n m ins outs N)
    (cs vs : List ℕ) where
  masked-text : (g w : ℕ) → g ≡ length (mask_netlist N cs vs).netlist.gates → w ≡ (mask_netlist N cs vs).netlist.wires
      → header_text g w ins outs ++ gate_text (mask_netlist N cs vs).netlist.gates
      ≡ write_netlist (mask_netlist N cs vs).netlist
  masked-text g w a b =
      text-made (mask_netlist N cs vs).netlist g w ins outs a b (h.inputs ∙ masked-inputs N cs vs)
      (h.outputs ∙ masked-outputs N cs vs)

  pub write-made : {e y x es : List ℕ} {g w a : ℕ} {R : ℕ × ℕ} → Numbers (mask_netlist N cs vs) (length vs) g w
      → Wrote e 0 (header_text g w ins outs) y a →
      WrotePass y a (mask_netlist N cs vs) n vs x R es → WroteText e (mask_netlist N cs vs) vs x es R.0
  write-made {g = g} {w = w} z a b =
      record { wrote = wrote_as (masked-text g w z.gates z.wires) (wrote_then a b.wrote.wrote); codes = b.codes }

  -- question 14 without measuring: no line is longer than the longest
  pub text-ample : {e x : List ℕ} {g w header room : ℕ} → Numbers (mask_netlist N cs vs) (length vs) g w
      → WellFormed (mask_netlist N cs vs).netlist → w ≤ top → Wrote e 0 (header_text g w ins outs) x header → room < top
      → leb (header + g * longest_line w) room ≡ true → leb (length (write_netlist (mask_netlist N cs vs).netlist)) room
      ≡ true
  text-ample {g = g} {w = w} z F small h k t =
      let M : Netlist = (mask_netlist N cs vs).netlist in
      let l = rw (sym z.gates) at (formed-lines {W = w} (lt_of_le_of_lt small (lit< tt)) F (sym z.wires)) in
      rw (masked-text g w z.gates z.wires) at (ample-holds {h = header_text g w ins outs} (gate_text M.gates) h l k t)

-- the tables' netlist of one input and one output value
bare : Tables → ℕ → ℕ → ℕ → ℕ → Netlist
bare t count W n m = record { wires = W; inputs = n ∷ []; outputs = m ∷ []; gates = gates_of t count }

-- the tables hold some netlist, so there are no fewer wires than the inputs and the masks have
pub least-counted : (cs vs : List ℕ) {t : Tables} {count W n m w : ℕ}
    → ((N : Netlist) → Holds t count W n m N → Counted (mask_netlist N cs vs) n m w) → n + 2 ≤ w
unfolding bare
least-counted cs vs {t = t} {count = count} {W = W} {n = n} {m = m} h =
    let p = h (bare t count W n m) (record { gates = refl; wires = refl; ins = omega arith; outs = omega arith }) in
    omega (arith, p.count, p.wires)

-- question 14
module _ (M : Masked) {e f : List ℕ} where
  pub delivered : {x y : List ℕ} {s : ℕ} → leb (length (write_netlist M.netlist)) (length e) ≡ true → length e < top
      → length M.codes ≤ length f
      → Filled M e x f y s → MaskAnswers (deliver_outcome (length e) (length f) (masked_text M)) e x f y (Ok s)
  delivered {s = s} t small l d =
      let fits = leb-true (length (write_netlist M.netlist)) (length e) t in
      let n : s ≡ length (write_netlist M.netlist) = omega (arith, d.wrote.next) in
      let u = le-leb (length M.codes) (length f) l in
      record {
        text = rw (t, u, n) (record {
          answer = refl;
          outcome = ap done (ap (take (length (write_netlist M.netlist))) d.wrote.list
              ∙ take-sets (write_netlist M.netlist) e fits);
          buffer = d.wrote.list;
        });
        codes = rw (t, u) d.codes;
      }

pub source-same : {t : Tables} {count W W' n m : ℕ} {ins outs : List ℕ} {N : Netlist} → W' ≡ W
    → Source t count W n m ins outs N
    → Source t count W' n m ins outs N
source-same e h = rw e h
