-- The header written in steps.
use Prim.Native.Nat.{ℕ, ◌+◌, ◌≤◌, ◌<◌}
use mathlib.Core.Path.{◌≡◌, refl, sym, ap, ◌∙◌}
use mathlib.Core.List.{List, [], ◌∷◌, ◌++◌, append_assoc, append-nil}
use native.Mathlib.Numerals.{add-one}
use native.Mathlib.Omega.{arith}
use lib.ListN.{length, take, get_or}
use lib.Seq.{take-suc, take_all}
use Rattle.netlist.specs.Number.{decimal}
use Rattle.netlist.specs.Netlist.{Netlist}
use Rattle.netlist.specs.Text.{space, lf}
use Rattle.netlist.specs.Write.{line, decimals, gate_text, write_netlist}
use Rattle.writer.specs.Wrote.{Wrote}
use Rattle.dialect.specs.OldWrite.{party_bits, write_old}
use Rattle.write_netlist.specs.Header.{spaced, header_text, old_header_text}
use Rattle.writer.proofs.Writing.{wrote_then, wrote_as}

regroup : (a b c d e : List ℕ) → (a ++ (b ++ (c ++ d))) ++ e ≡ a ++ (b ++ (c ++ (d ++ e)))
regroup a b c d e = simp append_assoc

-- the whole text is the header and the gates' lines
pub header-gates : (N : Netlist) → header_text (length N.gates) N.wires N.inputs N.outputs ++ gate_text N.gates
    ≡ write_netlist N
unfolding write_netlist
header-gates N =
    regroup (line (decimals (length N.gates ∷ N.wires ∷ []))) (line (decimals (length N.inputs ∷ N.inputs)))
    (line (decimals (length N.outputs ∷ N.outputs))) (lf ∷ []) (gate_text N.gates)

pub old-header-gates : (N : Netlist) → old_header_text (length N.gates) N.wires N.inputs N.outputs ++ gate_text N.gates
    ≡ write_old N
unfolding write_old
old-header-gates N =
    append_assoc (line (decimals (length N.gates ∷ N.wires ∷ []))) (line (decimals (party_bits N.inputs N.outputs))
    ++ (lf ∷ [])) (gate_text N.gates)
    ∙ ap (λ (l : List ℕ). line (decimals (length N.gates ∷ N.wires ∷ [])) ++ l)
    (append_assoc (line (decimals (party_bits N.inputs N.outputs))) (lf ∷ []) (gate_text N.gates))

pub line-spaced : (x : ℕ) (xs : List ℕ) → decimal x ++ (spaced xs ++ (lf ∷ [])) ≡ line (decimals (x ∷ xs))
line-spaced x [] = refl
line-spaced x (y ∷ ys) = ap (λ (l : List ℕ). decimal x ++ space ∷ l) (append_assoc (decimal y) (spaced ys) (lf ∷ [])
    ∙ line-spaced y ys)

spaced-append : (xs ys : List ℕ) → spaced (xs ++ ys) ≡ spaced xs ++ spaced ys
spaced-append [] ys = refl
spaced-append (x ∷ xs) ys =
    ap (λ (l : List ℕ). space ∷ (decimal x ++ l)) (spaced-append xs ys) ∙ ap (λ (l : List ℕ). space ∷ l)
    (sym (append_assoc (decimal x) (spaced xs) (spaced ys)))

-- the first i numbers were written
pub record Spaced (e : List ℕ) (at : ℕ) (s x : List ℕ) (r i : ℕ) : Type 0 where
  pub passed : i ≤ length s
  pub wrote : Wrote e at (spaced (take i s)) x r

pub spaced-more : {e m x s : List ℕ} {at r t i : ℕ} → Spaced e at s m r i → i < length s
    → Wrote m r (spaced (get_or s i 0 ∷ [])) x t → Spaced e at s x t (i + 1)
spaced-more {s = s} {i = i} a h b = record {
  passed = omega arith;
  wrote = rw (add-one, take-suc s i 0, spaced-append (take i s) (get_or s i 0 ∷ [])) (wrote_then a.wrote b);
}

pub spaced-all : {e x s : List ℕ} {at r i : ℕ} → Spaced e at s x r i → length s ≤ i → Wrote e at (spaced s) x r
spaced-all {s = s} {i = i} w h = rw (take_all i s h) at w.wrote

pub wrote-width : {e x : List ℕ} {at r : ℕ} (w : ℕ) → Wrote e at (space ∷ decimal w) x r → Wrote e at (spaced (w ∷ []))
    x r
wrote-width w a = wrote_as (ap (λ (l : List ℕ). space ∷ l) (sym (append-nil (decimal w)))) a

-- line two of the older dialect
pub wrote-parties : {e x : List ℕ} {at r : ℕ} (ins outs : List ℕ) {a b o : ℕ} → a ≡ get_or ins 0 0 → b ≡ get_or ins 1 0
    → o ≡ get_or outs 0 0
    → Wrote e at (line (decimals (a ∷ b ∷ o ∷ []))) x r → Wrote e at (line (decimals (party_bits ins outs))) x r
wrote-parties {e} {x} {at} {r} ins outs {a} {b} {o} p q s w =
    let k : a ∷ b ∷ o ∷ [] ≡ party_bits ins outs = rw (p, q, s) in wrote_as (ap (λ (ns : List ℕ). line (decimals ns)) k)
    w
