-- Gates in order, put into tables that have room for them: the tables hold them.
use Prim.Native.Nat.{ℕ, zero, suc, ◌+◌, ◌-◌, ◌*◌, ◌≤◌, ◌<◌}
use mathlib.Core.Path.{◌≡◌, refl, sym, ap, ap₂, subst, ◌∙◌}
use mathlib.Core.List.{List, [], ◌∷◌, ◌++◌, append_assoc, append-nil}
use native.Mathlib.Omega.{arith}
use lib.Dec.{T, ltb, ltb→lt}
use lib.ListN.{length, length-set}
use Rattle.netlist.specs.declared.Gate.{Gate}
use Rattle.netlist.specs.declared.Gate.TheVariants.{Xor, And, Inv, Eqw, Eq}
use Rattle.netlist.specs.Netlist.{result}
use Rattle.netlist.specs.Read.{operands_given}
use Rattle.netlist.specs.Table.{Tables, half, gate_of, gate_in, gates_of, put_entry, Named, Wired}
use Rattle.netlist.proofs.Tests.{both}
use Rattle.netlist.proofs.Order.{Ordered, end, step}
use Rattle.netlist.proofs.Puts.{entry-low, entry-high, Room, gates-put, wired-put, wired-none}
use Rattle.from_verilog.specs.Puts.{packed, put_gate, put_gates}

-- the two entries of a gate
record Entries (g : Gate) (W c n : ℕ) (T : Tables) : Type 0 where
  operands : ℕ
  results : ℕ
  put : put_gate n T g ≡ put_entry T (c - n) operands results
  gate : gate_in operands results ≡ g
  named : Named W operands results

module _ (W c n : ℕ) (below : c < W) (short : W ≤ half) (tabs : Tables) where
  two : (k a b : ℕ) (g : Gate) → k < 8 → a < W → b < W → gate_of k a b c ≡ g → put_gate n tabs g ≡ packed n tabs k a b c
      → Entries g W c n tabs
  two k a b g h la lb e p = record {
    operands = a + b * half;
    results = c + k * half;
    put = p;
    gate = (λ i. gate_of (entry-high c k (omega (arith, below, short)) i) (entry-low a b (omega (arith, la, short)) i)
        (entry-high a b (omega (arith, la, short)) i) (entry-low c k (omega (arith, below, short)) i)) ∙ e;
    named = record {
      kind = rw (entry-high c k (omega (arith, below, short))) h;
      left = rw (entry-low a b (omega (arith, la, short))) la;
      right = rw (entry-high a b (omega (arith, la, short))) lb;
      result = rw (entry-low c k (omega (arith, below, short))) below;
    };
  }

  entered : (g : Gate) → result g ≡ c → T (operands_given (λ w. ltb w c) g) → Entries g W c n tabs
  entered (Xor a b d) r o =
      let p = both (ltb a c) (ltb b c) o in
      let la = ltb→lt a c p.0 in
      let lb = ltb→lt b c p.1 in
      two 1 a b (Xor a b d) (omega arith) (omega (arith, la, below)) (omega (arith, lb, below)) (ap (Xor a b) (sym r))
      (ap (packed n tabs 1 a b) r)
  entered (And a b d) r o =
      let p = both (ltb a c) (ltb b c) o in
      let la = ltb→lt a c p.0 in
      let lb = ltb→lt b c p.1 in
      two 2 a b (And a b d) (omega arith) (omega (arith, la, below)) (omega (arith, lb, below)) (ap (And a b) (sym r))
      (ap (packed n tabs 2 a b) r)
  entered (Inv a d) r o =
      let la = ltb→lt a c o in
      two 3 a a (Inv a d) (omega arith) (omega (arith, la, below)) (omega (arith, la, below)) (ap (Inv a) (sym r))
      (ap (packed n tabs 3 a a) r)
  entered (Eqw a d) r o =
      let la = ltb→lt a c o in
      two 4 a a (Eqw a d) (omega arith) (omega (arith, la, below)) (omega (arith, la, below)) (ap (Eqw a) (sym r))
      (ap (packed n tabs 4 a a) r)
  entered (Eq zero d) r o = two 5 0 0 (Eq 0 d) (omega arith) (omega (arith, below)) (omega (arith, below))
      (ap (Eq 0) (sym r)) (ap (packed n tabs 5 0 0) r)
  entered (Eq (suc zero) d) r o = two 6 0 0 (Eq 1 d) (omega arith) (omega (arith, below)) (omega (arith, below))
      (ap (Eq 1) (sym r)) (ap (packed n tabs 6 0 0) r)
  entered (Eq (suc (suc v)) d) r o = let z = ltb→lt (suc (suc v)) 2 o in absurd (omega (arith, z))

puts_none : (n : ℕ) (T : Tables) → put_gates n T [] ≡ T
unfolding put_gates
puts_none n T = refl

puts-more : (n : ℕ) (T : Tables) (g : Gate) (gs : List Gate) → put_gates n T (g ∷ gs) ≡ put_gates n (put_gate n T g) gs
unfolding put_gates
puts-more n T g gs = refl

pub record Holding (T : Tables) (W : ℕ) (gs : List Gate) : Type 0 where
  pub gates : gates_of T (length gs) ≡ gs
  pub wired : Wired T W (length gs)

holding-more : (n W c d : ℕ) (hs gs : List Gate) (tabs : Tables) → n + length hs ≡ c → Ordered c gs d → d ≤ W → W ≤ half
    → d ≤ n + length tabs.operands → d ≤
    n + length tabs.results
    → Holding tabs W hs → Holding (put_gates n tabs gs) W (hs ++ gs)
holding-more n W c d hs [] tabs e O l s lo lr H =
    subst (λ (X : Tables). Holding X W (hs ++ [])) (sym (puts_none n tabs))
    (subst (Holding tabs W) (sym (append-nil hs)) H)
holding-more n W c d hs (g ∷ gs) tabs e (step r o O) l s lo lr H =
    let b = ordered-below O in
    let E = entered W c n (omega (arith, b, l)) s tabs g r o in
    let k : c - n ≡ length hs = omega (arith, e) in
    let tabs' = put_entry tabs (length hs) E.operands E.results in
    let p : put_gate n tabs g ≡ tabs' = E.put ∙ ap (λ (j : ℕ). put_entry tabs j E.operands E.results) k in
    let room : Room tabs (length hs) = record { operands = omega (arith, e, b, lo); results = omega (arith, e, b, lr) }
    in
    let q : length (hs ++ g ∷ []) ≡ length hs + 1 = snoc hs in
    let H' : Holding tabs' W (hs ++ g ∷ []) = record {
      gates = ap (gates_of tabs') q ∙ gates-put tabs (length hs) E.operands E.results room
          ∙ ap₂ (λ (xs : List Gate) (x : Gate). xs ++ (x ∷ [])) H.gates
          E.gate;
      wired = subst (Wired tabs' W) (sym q) (wired-put tabs (length hs) E.operands E.results room W H.wired E.named);
    } in
    let a = length-set tabs.operands (length hs) E.operands in
    let z = length-set tabs.results (length hs) E.results in
    let R = holding-more n W (c + 1) d (hs ++ g ∷ []) gs tabs' (omega (arith, e, q)) O l s (omega (arith, lo, a))
    (omega (arith, lr, z)) H' in
    subst (λ (X : Tables). Holding X W (hs ++ g ∷ gs))
    (sym (puts-more n tabs g gs ∙ ap (λ (X : Tables). put_gates n X gs) p))
    (subst (Holding (put_gates n tabs' gs) W) (append_assoc hs (g ∷ []) gs) R)
  where
    ordered-below : {c d : ℕ} {gs : List Gate} → Ordered c gs d → c ≤ d
    ordered-below end = omega arith
    ordered-below (step r o O) = let h = ordered-below O in omega (arith, h)

    snoc : (hs : List Gate) → length (hs ++ g ∷ []) ≡ length hs + 1
    snoc [] = refl
    snoc (h ∷ hs) = let q = snoc hs in omega (arith, q)

-- all gates of a netlist, from its first wire after the inputs on
pub held : (n W : ℕ) (gs : List Gate) (tabs : Tables) → Ordered n gs W → W ≤ half → W ≤ n + length tabs.operands
    → W ≤ n + length tabs.results → Holding
    (put_gates n tabs gs) W gs
held n W gs tabs O s lo lr = holding-more n W n W [] gs tabs (omega arith) O (omega arith) s lo lr
    (record { gates = refl; wired = wired-none tabs W })
