-- The gates from one on, in tables: one gate by its kind, one gate more, and what the whole is worth.
use Prim.Native.Nat.{ℕ, zero, suc, ◌+◌, ◌-◌, ◌^◌, ◌≤◌, ◌<◌}
use mathlib.Core.Path.{◌≡◌, sym, ap, ap₂, ◌∙◌}
use mathlib.Core.Bool.{Bool, true, false}
use mathlib.Core.List.{List, [], ◌∷◌}
use native.Mathlib.Omega.{arith}
use lib.Dec.{eqb}
use borrow.Author.Tests.{eqb-true, eqb-false}
use lib.ListN.{length, get_or, set, drop, length-set, get_or-append}
use Rattle.std.proofs.lemmas.List.{get_or-drop}
use lib.Seq.{get_or_at, get_or-set_same, get_or-set_other, drop-cons}
use Rattle.netlist.specs.declared.Gate.{Gate}
use Rattle.netlist.specs.declared.Gate.TheVariants.{Xor, And, Inv, Eqw, Eq}
use Rattle.netlist.specs.Netlist.{Netlist, input_bits}
use Rattle.netlist.specs.Read.{WellFormed}
use Rattle.netlist.specs.Table.{Tables, gate_at, gates_of}
use Rattle.netlist.specs.Eval.{bit}
use Rattle.netlist.proofs.Tests.{on_bool}
use Rattle.netlist.proofs.Puts.{length-gates}
use Rattle.fewest.specs.Choice.{Choice, chosen_gate}
use Rattle.fewest.specs.Fewest.{twice, twices}
use Rattle.fewest.specs.Codes.{code_at, gate_change, coded, least_before}
use Rattle.fewest.specs.Walk.{added_change, Stepped, codes_to, added_to, Done, Walked}
use Rattle.fewest.proofs.TwicesLaws.{way-change, twice-change}
use Rattle.fewest.proofs.Retried.{Ready, ready-next}

-- ---- one gate, by its kind

pub bit-most : (b : Bool) → bit b ≤ 1
bit-most true = omega arith
bit-most false = omega arith

pub change-most : (u : ℕ → ℕ) (g : Gate) → gate_change u g ≤ 1
change-most u (Xor a b c) = bit-most (eqb (u a) (u b))
change-most u (And a b c) = bit-most (eqb (u a) (u b))
change-most u (Inv a c) = omega arith
change-most u (Eqw a c) = omega arith
change-most u (Eq v c) = omega arith

-- a gate's change is the added one, and one where it names one wire twice
added-change : (u : ℕ → ℕ) (g : Gate) → added_change u g + bit (twice g) ≡ gate_change u g
added-change u g =
    let m = change-most u g in
    let h = twice-change u g in
    on_bool (twice g) (λ e. let k : 1 ≤ gate_change u g = rw e at h in rw e (omega arith)) (λ e. rw e (omega arith))

pub stepped-small : {u v : List ℕ} {d : ℕ} {g : Gate} {r : ℕ} → Stepped u d g v r → r ≤ 1
stepped-small {u} {g = g} S = let c = S.added in let m = change-most (code_at u) g in let e = added-change (code_at u) g
    in omega arith

pub added-most : (t : Tables) (way : List ℕ) (from : ℕ) (u : List ℕ) (k : ℕ) → added_to t way from u k ≤ k
added-most t way from u zero = omega arith
added-most t way from u (suc k) =
    let v = codes_to t way from u k in
    omega (
      arith,
      added-most t way from u k,
      change-most (code_at v) (gate_at t (from + k)),
      added-change (code_at v)
          (gate_at t (from + k)),
    )

-- the least changes before the last gate that is done
pub walked-most : {t : Tables} {count : ℕ} {way : List ℕ} {from bound : ℕ} {u₀ b₀ u b : List ℕ} {r : ℕ}
    → Walked t count way from bound u₀ b₀ u b r
    → get_or b r 0 ≤ get_or b₀ from 0 + count
walked-most {t} {count} {way} {from} {bound} {u₀} {b₀} {u} {b} {r} W =
    let l = W.low in
    let h = W.high in
    let z : from + (r - from) ≡ r = omega arith in
    let e : get_or b r 0 ≡ get_or b₀ from 0 + added_to t way from u₀ (r - from) = ap (λ (k : ℕ). get_or b k 0) (sym z)
    ∙ W.done.lows (r - from) (omega arith) in
    let m = added-most t way from u₀ (r - from) in
    omega arith

-- ---- one gate more

done_more : {t : Tables} {i : ℕ} {way : List ℕ} {from : ℕ} {u₀ b₀ u b v : List ℕ} {r : ℕ} → Done t i way from u₀ b₀ u b
    → from ≤ i
    → suc i < length b → Stepped u (get_or way i 0) (gate_at t i) v r → Done t (i + 1) way from u₀ b₀ v
    (set b (i + 1) (get_or b i 0 + r))
done_more {t} {i} {way} {from} {u₀} {b₀} {u} {b} {v} {r} R l h S =
    let k₀ = i - from in
    let e : i + 1 - from ≡ suc (i - from) = omega arith in
    let f : from + (i - from) ≡ i = omega arith in
    let last : v ≡ coded (codes_to t way from u₀ k₀) (chosen_gate (get_or way (from + k₀) 0) (gate_at t (from + k₀))) =
    S.codes ∙ ap₂ (λ (w : List ℕ) (j : ℕ). coded w (chosen_gate (get_or way j 0) (gate_at t j))) R.codes (sym f) in
    let s : get_or b i 0 ≡ get_or b₀ from 0 + added_to t way from u₀ k₀ = ap (λ (j : ℕ). get_or b j 0) (sym f)
    ∙ R.lows k₀ (omega arith) in
    let c : r ≡ added_change (code_at (codes_to t way from u₀ k₀)) (gate_at t (from + k₀)) =
    S.added ∙ ap₂ (λ (w : List ℕ) (j : ℕ). added_change (code_at w) (gate_at t j)) R.codes (sym f) in
    record {
      codes = rw e last;
      lows = λ k m.
          on_bool (eqb k (suc k₀))
          (λ z. let q : k ≡ suc k₀ = eqb-true k (suc k₀) z in
          let at : from + k ≡ i + 1 = omega arith in
          ap (λ (j : ℕ). get_or (set b (i + 1) (get_or b i 0 + r)) j 0) at
          ∙ get_or-set_same b (i + 1) (get_or b i 0 + r) 0 (omega arith)
          ∙ omega arith ∙ ap (λ (j : ℕ). get_or b₀ from 0 + added_to t way from u₀ j) (sym q))
          (λ z. let q : k ≡ suc k₀ → ⊥ = eqb-false k (suc k₀) z in
          get_or-set_other b (i + 1) (from + k) (get_or b i 0 + r) 0 (λ g. omega arith) ∙ R.lows k (omega arith));
      kept = λ k m. get_or-set_other b (i + 1) k (get_or b i 0 + r) 0 (λ g. omega arith) ∙ R.kept k m;
      code_length = ap length S.codes ∙ length-set u _ _ ∙ R.code_length;
      low_length = length-set b _ _ ∙ R.low_length;
    }

-- ---- the loop: gates from one on up to i, of count gates; the least changes so far

pub record Walking (t : Tables) (count : ℕ) (way : List ℕ) (from : ℕ) (u₀ b₀ u b : List ℕ) (i low : ℕ) : Type 0 where
  pub so : Done t i way from u₀ b₀ u b
  pub after : from ≤ i
  pub entry : low ≡ get_or b i 0
  pub room : low + (count - i) < 2 ^ 32

pub walking-more : {t : Tables} {count : ℕ} {way : List ℕ} {from : ℕ} {u₀ b₀ u b v : List ℕ} {i low r : ℕ}
    → Walking t count way from u₀ b₀ u b i low
    → i < count → count < length b₀ → Stepped u (get_or way i 0) (gate_at t i) v r
    → Walking t count way from u₀ b₀ v (set b (i + 1) (low + r)) (i + 1) (low + r)
walking-more {t} {count} {way} {from} {u₀} {b₀} {u} {b} {v} {i} {low} {r} I h l S =
    let lb = I.so.low_length in
    let m = stepped-small S in
    let room = I.room in
    let low' = I.after in
    record {
      so = rw I.entry (done_more I.so low' (omega arith) S);
      after = omega arith;
      entry = sym (get_or-set_same b (i + 1) (low + r) 0 (omega arith));
      room = omega arith;
    }

-- the bound is reached
pub walked-cut : {t : Tables} {count : ℕ} {way : List ℕ} {from bound : ℕ} {u₀ b₀ u b : List ℕ} {i low : ℕ}
    → Walking t count way from u₀ b₀ u b i low
    → from < i → i ≤ count → bound ≤ low → Walked t count way from bound u₀ b₀ u b i
walked-cut I f k h = let e = I.entry in record {
  done = I.so;
  on = λ k. f;
  low = I.after;
  high = k;
  cut
      = λ k. omega arith;
}

-- ---- what the codes and the least changes are worth: ready for the gates after

pub gate-at : (t : Tables) (m i : ℕ) (z : Gate) → i < m → get_or (gates_of t m) i z ≡ gate_at t i
gate-at t zero i z h = absurd (omega arith)
gate-at t (suc m) i z h =
    on_bool (eqb i m)
    (λ e. let q = eqb-true i m e in let l = length-gates t m in rw q (get_or_at (gates_of t m) (gate_at t m) [] z m l))
    (λ e. let n : i ≡ m → ⊥ = eqb-false i m e in
    let l = length-gates t m in
    get_or-append (gates_of t m) (gate_at t m ∷ []) z i (omega arith) ∙ gate-at t m i z (omega arith))

module _ {N : Netlist} (F : WellFormed N) (codes : List ℕ) (l : length codes ≡ input_bits N) (t : Tables) (m : ℕ)
    (held : N.gates ≡ gates_of t m) (way : List ℕ) where
  abbrev d : Choice
  d p = get_or way p 0

  pub ready_walked : (from : ℕ) (u : List ℕ) → Ready N codes d from u → (k : ℕ) → from + k ≤ m
      → Ready N codes d (from + k) (codes_to t (drop (input_bits N) way) from u k)
      × (least_before N codes d (from + k) ≡ least_before N codes d from + added_to t (drop (input_bits N) way) from u
      k)
  ready_walked from u R zero h = let z : from + 0 ≡ from = omega arith in (rw z R, rw z (omega arith))
  ready_walked from u R (suc k) h =
      let i = from + k in
      let z : from + suc k ≡ suc (from + k) = omega arith in
      let ih = ready_walked from u R k (omega arith) in
      let no_gate : Gate = Eq 0 0 in
      let v = codes_to t (drop (input_bits N) way) from u k in
      let g : get_or N.gates i no_gate ≡ gate_at t i = ap (λ (gs : List Gate). get_or gs i no_gate) held
      ∙ gate-at t m i no_gate (omega arith) in
      let lg : length N.gates ≡ m = ap length held ∙ length-gates t m in
      let s = ready-next F codes l d i v no_gate (omega arith) ih.0 in
      let s' = rw g at s in
      let w = way-change (code_at v) (d (input_bits N + i)) (gate_at t i) in
      let a = added-change (code_at v) (gate_at t i) in
      let c : twices (drop i N.gates) ≡ bit (twice (gate_at t i)) + twices (drop (suc i) N.gates) =
      ap twices (drop-cons N.gates i no_gate (omega arith)) ∙
      ap (λ (x : Gate). bit (twice x) + twices (drop (suc i) N.gates)) g in
      let e = ih.1 in
      let f = s'.1 in
      let q : get_or (drop (input_bits N) way) i 0 ≡ d (input_bits N + i) = get_or-drop (input_bits N) way i 0 in
      (rw (z, q) s'.0, rw z (omega arith))
