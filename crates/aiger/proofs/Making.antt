-- The netlist made of a file that keeps the rules is well formed, and its outputs are the file's.
use Prim.Native.Nat.{ℕ, suc, ◌+◌, ◌-◌, ◌≤◌, ◌<◌}
use mathlib.Core.Path.{◌≡◌, refl, sym, ap, ◌∙◌}
use mathlib.Core.Bool.{Bool, true, false, not, ◌&&◌}
use mathlib.Core.List.{List, [], ◌∷◌, map}
use native.Mathlib.Omega.{arith}
use lib.Dec.{T, eqb, leb, leb→le, le→leb}
use lib.ListN.{length, get_or, set, length-set, length-map, length-replicate}
use lib.Seq.{get_or-set_same, get_or-set_other, ext_get_or}
use borrow.Author.Tests.{eqb-true, eqb-false}
use Rattle.netlist.specs.Lists.{every, member}
use Rattle.netlist.specs.Netlist.{input_bits}
use Rattle.netlist.specs.Read.{WellFormed}
use Rattle.netlist.specs.Eval.{bits_at, wire_bits, outputs_of}
use Rattle.netlist.proofs.Tests.{on_bool, both, pair, all_split}
use Rattle.netlist.proofs.Models.{Models, bits-satisfy, bits-inputs, length-outputs_of, output-bit}
use Rattle.netlist.proofs.Order.{Ordered, end, ordered-append, ordered-length, ordered-good}
use Rattle.aiger.specs.File.{AndLine, File}
use Rattle.aiger.specs.Rules.{readable, fresh, giving, fresh_all, and_good, ands_good, inputs_given, all_given}
use Rattle.aiger.specs.Rules.{rules_kept}
use Rattle.aiger.specs.Outputs.{literal_bit, enter, blank, run_ands, variable_bits, file_outputs}
use Rattle.aiger.specs.Made.{and_made, wire_at, Built, build, built, out_gates, up_from, netlist_made, Located}
use Rattle.aiger.proofs.MadeGates.{InOrder, order-next, and-order, outs-order, Carry, and-bit, outs-bit}

-- ---- the rules taken apart

fresh-low : (M : ℕ) (given : List ℕ) (v : ℕ) → T (fresh M given v) → v ≤ M
fresh-low M given v t = leb→le v M (both (leb v M) (not (member v given)) t).0

pub record GoodAnd (M : ℕ) (given : List ℕ) (a : AndLine) (rest : List AndLine) : Type 0 where
  pub first : T (readable given a.first)
  pub second : T (readable given a.second)
  pub low : a.left ≤ M
  pub after : T (ands_good M (a.left ∷ given) rest)

pub good_and : (M : ℕ) (given : List ℕ) (a : AndLine) (rest : List AndLine) → T (ands_good M given (a ∷ rest))
    → GoodAnd M given a rest
good_and M given a rest t =
    let r = readable given a.first in
    let s = readable given a.second in
    let f = fresh M given a.left in
    let p = both (and_good M given a) (ands_good M (a.left ∷ given) rest) t in
    let q = both (r && s) f p.0 in
    let k = both r s q.0 in
    record { first = k.0; second = k.1; low = fresh-low M given a.left q.1; after = p.1 }

-- a file that keeps the rules and has inputs and outputs
pub record Kept (F : File) : Type 0 where
  pub inputs : T (fresh_all F.most [] F.inputs)
  pub ands : T (ands_good F.most (inputs_given F) F.ands)
  pub outputs : T (every (readable (all_given F)) F.outputs)
  pub some_input : 1 ≤ length F.inputs
  pub some_output : 1 ≤ length F.outputs

pub kept : (F : File) → T (rules_kept F) → 1 ≤ length F.inputs → 1 ≤ length F.outputs → Kept F
kept F t i o =
    let f = fresh_all F.most [] F.inputs in
    let a = ands_good F.most (inputs_given F) F.ands in
    let p = both (f && a) (every (readable (all_given F)) F.outputs) t in
    let q = both f a p.0 in
    record { inputs = q.0; ands = q.1; outputs = p.1; some_input = i; some_output = o }

-- ---- one more variable

-- what holds of the entries of the given variables, and of a new one
entered : {A : Type 0} (P : ℕ → A → Type 0) (d : A) (given : List ℕ) (table : List A) (v : ℕ) (x : A) → v < length table
    → P v x
    → ((y : ℕ) → T (member y given) → (eqb y v ≡ false) → P y (get_or table y d)) → (y : ℕ) → T (member y (v ∷ given))
    → P y (get_or (set table v x) y d)
entered P d given table v x l p h y t =
    on_bool (eqb y v)
    (λ e. rw (eqb-true y v e, get_or-set_same table v x d l) p)
    (λ e. rw (get_or-set_other table v y x d (eqb-false y v e)) (h y (rw e at t) e))

pub located-more : {c d : ℕ} (given table : List ℕ) (v x : ℕ) → v < length table → c ≤ d → x < d
    → Located (wire_at table) c given
    → Located (wire_at (set table v x)) d (v ∷ given)
located-more {c} {d} given table v x l e p h = entered (λ y z. z < d) 0 given table v x l p
    (λ y t n. let k = h y t in omega arith)

carry-more : (w : ℕ → Bool) (given table : List ℕ) (bits : List Bool) (v x : ℕ) (b : Bool) → v < length table
    → v < length bits → w x ≡ b
    → Carry w (wire_at table) (bits_at bits) given → Carry w (wire_at (set table v x)) (bits_at (set bits v b))
    (v ∷ given)
carry-more w given table bits v x b l m p h =
    entered (λ y z. w z ≡ get_or (set bits v b) y false) 0 given table v x l
    (p ∙ sym (get_or-set_same bits v b false m))
    (λ y t n. h y t ∙ sym (get_or-set_other bits v y b false (eqb-false y v n)))

pub length-enter : {A : Type 0} (table : List A) (vs : List ℕ) (xs : List A) → length (enter table vs xs) ≡ length table
length-enter table [] xs = refl
length-enter table (v ∷ vs) [] = refl
length-enter table (v ∷ vs) (x ∷ xs) = length-enter (set table v x) vs xs ∙ length-set table v x

-- ---- order

pub inputs-located : (M : ℕ) (vs given table : List ℕ) (k : ℕ) → length table ≡ M + 1 → Located (wire_at table) k given
    → T (fresh_all M given vs)
    → Located (wire_at (enter table vs (up_from k (length vs)))) (k + length vs) (giving given vs)
inputs-located M [] given table k l h t = let z : k + 0 ≡ k = omega arith in rw z h
inputs-located M (v ∷ vs) given table k l h t =
    let p = both (fresh M given v) (fresh_all M (v ∷ given) vs) t in
    let m = fresh-low M given v p.0 in
    let z : k + suc (length vs) ≡ k + 1 + length vs = omega arith in
    rw z (inputs-located M vs (v ∷ given) (set table v k) (k + 1) (length-set table v k ∙ l)
    (located-more given table v k (omega arith) (omega arith) (omega arith) h) p.1)

-- gates in order from wire c on, and a wire for every variable that is given
record BuiltWell (c : ℕ) (given : List ℕ) (B : Built) : Type 0 where
  gates : Ordered c B.gates B.next
  located : Located (wire_at B.table) B.next given

build-well : (M : ℕ) (rest : List AndLine) (given table : List ℕ) (c : ℕ) → length table ≡ M + 1
    → Located (wire_at table) c given → T (ands_good M given rest) → BuiltWell c (giving given (map (λ a. a.left) rest))
    (build table c rest)
build-well M [] given table c l h t = record { gates = end; located = h }
build-well M (a ∷ rest) given table c l h t =
    let G : GoodAnd M given a rest = good_and M given a rest t in
    let m : a.left ≤ M = G.low in
    let N = and_made (wire_at table) a c in
    let o : InOrder c N = and-order (wire_at table) given a c h G.first G.second in
    let W = build-well M rest (a.left ∷ given) (set table a.left N.wire) N.next (length-set table a.left N.wire ∙ l)
    (located-more given table a.left N.wire (omega arith) (order-next o) o.wire h) G.after in
    record { gates = ordered-append o.gates W.gates; located = W.located }

module _ {F : File} (K : Kept F) where
  -- the table of the inputs' wires
  blank-length : length (enter (blank 0 F) F.inputs (up_from 0 (length F.inputs))) ≡ F.most + 1
  blank-length = length-enter (blank 0 F) F.inputs (up_from 0 (length F.inputs)) ∙ length-replicate (F.most + 1) 0

  built-well : BuiltWell (length F.inputs) (all_given F) (built F)
  built-well =
      let z : 0 + length F.inputs ≡ length F.inputs = omega arith in
      build-well F.most F.ands (inputs_given F) _ (length F.inputs) blank-length
      (rw z at (inputs-located F.most F.inputs [] (blank 0 F) 0 (length-replicate (F.most + 1) 0) (λ v t. absurd t)
      K.inputs)) K.ands

  made-ordered : Ordered (length F.inputs) (netlist_made F).gates (netlist_made F).wires
  unfolding netlist_made
  made-ordered =
      let B = built F in
      let W = built-well in
      ordered-append W.gates (outs-order (wire_at B.table) (all_given F) F.outputs B.next B.next (omega arith) W.located
      K.outputs)

  pub made-well_formed : WellFormed (netlist_made F)
  unfolding netlist_made
  made-well_formed =
      let n = length F.inputs in
      let N = netlist_made F in
      let i : 1 ≤ n = K.some_input in
      let o : 1 ≤ length F.outputs = K.some_output in
      let z : input_bits N ≡ n = omega arith in
      let b = ordered-length built-well.gates in
      let l = ordered-length made-ordered in
      record {
        some_input = omega arith;
        inputs_positive = pair (leb 1 n) true (le→leb 1 n i) tt;
        some_output = omega arith;
        outputs_positive = pair (leb 1 (length F.outputs)) true (le→leb 1 (length F.outputs) o) tt;
        inputs_fit = omega arith;
        outputs_fit = omega arith;
        gate_count = omega arith;
        good = rw z (ordered-good n N.wires N.gates made-ordered);
      }

-- ---- bits

module _ (w : ℕ → Bool) where
  inputs-carry : (M : ℕ) (vs given table : List ℕ) (bits ins : List Bool) (k : ℕ) → length table ≡ M + 1 → length bits
      ≡ M + 1
      → length ins ≡ length vs → ((i : ℕ) → i < length vs → w (k + i) ≡ get_or ins i false)
      → Carry w (wire_at table) (bits_at bits) given
      → T (fresh_all M given vs) → Carry w (wire_at (enter table vs (up_from k (length vs))))
      (bits_at (enter bits vs ins)) (giving given vs)
  inputs-carry M [] given table bits ins k l m e f h t = h
  inputs-carry M (v ∷ vs) given table bits [] k l m e f h t = absurd (omega arith)
  inputs-carry M (v ∷ vs) given table bits (b ∷ ins) k l m e f h t =
      let p = both (fresh M given v) (fresh_all M (v ∷ given) vs) t in
      let q = fresh-low M given v p.0 in
      let z : k + 0 ≡ k = omega arith in
      let first : w k ≡ b = rw z at (f 0 (omega arith)) in
      inputs-carry M vs (v ∷ given) (set table v k) (set bits v b) ins (k + 1) (length-set table v k ∙ l)
      (length-set bits v b ∙ m) (omega arith)
      (λ i s. let y : k + 1 + i ≡ k + suc i = omega arith in rw y (f (suc i) (omega arith)))
      (carry-more w given table bits v k b (omega arith) (omega arith) first h) p.1

  build-carry : (M : ℕ) (rest : List AndLine) (given table : List ℕ) (bits : List Bool) (c : ℕ)
      → length table ≡ M + 1 → length bits ≡ M + 1 → Carry w (wire_at table) (bits_at bits) given
      → T (ands_good M given rest)
      → Models w (build table c rest).gates
      → Carry w (wire_at (build table c rest).table) (bits_at (run_ands bits rest))
      (giving given (map (λ a. a.left) rest))
  build-carry M [] given table bits c l k h t ms = h
  build-carry M (a ∷ rest) given table bits c l k h t ms =
      let G : GoodAnd M given a rest = good_and M given a rest t in
      let m : a.left ≤ M = G.low in
      let N = and_made (wire_at table) a c in
      let p = all_split N.gates ms in
      let b = literal_bit (bits_at bits) a.first && literal_bit (bits_at bits) a.second in
      let e : w N.wire ≡ b = and-bit w (wire_at table) (bits_at bits) given h a c G.first G.second p.0 in
      build-carry M rest (a.left ∷ given) (set table a.left N.wire) (set bits a.left b) N.next
      (length-set table a.left N.wire ∙ l) (length-set bits a.left b ∙ k)
      (carry-more w given table bits a.left N.wire b (omega arith) (omega arith) e h) G.after p.1

module _ {F : File} (K : Kept F) (ins : List Bool) (l : length ins ≡ length F.inputs) where
  w : ℕ → Bool
  w = bits_at (wire_bits (netlist_made F) ins)

  models : Models w (built F).gates × Models w (out_gates (wire_at (built F).table) (built F).next F.outputs)
  unfolding w netlist_made
  models = all_split (built F).gates (bits-satisfy (made-well_formed K) ins)

  carried : Carry w (wire_at (built F).table) (bits_at (variable_bits F ins)) (all_given F)
  unfolding w netlist_made
  carried =
      let y : length (blank false F) ≡ F.most + 1 = length-replicate (F.most + 1) false in
      build-carry w F.most F.ands (inputs_given F) _ _ (length F.inputs) (blank-length K)
      (length-enter (blank false F) F.inputs ins ∙ y)
      (inputs-carry w F.most F.inputs [] (blank 0 F) (blank false F) ins 0 (length-replicate (F.most + 1) 0) y l
      (λ i h. let z : 0 + i ≡ i = omega arith in rw z (bits-inputs (made-well_formed K) ins (omega arith) i
      (omega arith)))
      (λ v t. absurd t) K.inputs) K.ands models.0

  -- the netlist computes the file's outputs
  pub made-computes : outputs_of (netlist_made F) ins ≡ file_outputs F ins
  unfolding w netlist_made file_outputs
  made-computes =
      let outs = F.outputs in
      let c = (built F).next in
      let u = bits_at (variable_bits F ins) in
      let W = made-well_formed K in
      let o : length (outputs_of (netlist_made F) ins) ≡ length outs + 0 = length-outputs_of W ins (omega arith) in
      ext_get_or false (outputs_of (netlist_made F) ins) (map (literal_bit u) outs) (rw length-map (omega arith))
      (λ i h.
      let y : c + length outs - (length outs + 0) + i ≡ c + i = omega arith in
      output-bit (netlist_made F) ins i
      ∙ ap w y
      ∙ outs-bit w (wire_at (built F).table) u (all_given F) carried outs c K.outputs models.1 i (omega arith))
