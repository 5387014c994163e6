-- Netlists that came about by masking: gates that owe what the pass leaves of them have every wire clean, whatever
-- their wires are numbered.
use mathlib.Core.Path.{◌≡◌, refl, sym, ap, ◌∙◌, subst}
use mathlib.Core.Bool.{Bool, true, false, ◌&&◌}
use mathlib.Core.List.{List, [], ◌∷◌, ◌++◌, map}
use Prim.Native.Nat.{ℕ, ◌+◌, ◌-◌, ◌≤◌, ◌<◌}
use native.Mathlib.Omega.{arith}
use lib.Dec.{T, eqb, ltb, ltb→lt, lt→ltb, eqb→eq}
use lib.ListN.{length, get_or}
use Rattle.std.specs.Prelude.{Some}
use Rattle.netlist.specs.declared.Gate.{Gate}
use Rattle.netlist.specs.declared.Gate.TheVariants.{Xor, And, Inv, Eqw, Eq}
use Rattle.netlist.specs.Lists.{every, sum as sum_of}
use Rattle.netlist.specs.Netlist.{Netlist, input_bits, output_bits}
use Rattle.masking.specs.Mask.{is_code, is_input_code, is_public, mask_wire, mask_gates, public_gates, emit_all}
use Rattle.masking.specs.Mask.{out_gates, start, finish, out_twins, mask_netlist}
use Rattle.netlist.proofs.Tests.{clash, both, or_left, every-at, All, empty, each, all_head, all_tail, all_split}
use Rattle.netlist.proofs.Tests.{all_append}
use Rattle.masking.proofs.CodeLaws.{on_code}
use Rattle.netlist.proofs.GoodGates.{given-none, every-wire-given}
use Rattle.netlist.proofs.Order.{Ordered, end, step, ordered-append, ordered-length, AllWires}
use Rattle.masking.proofs.MaskInputs.{MaskInputs}
use Rattle.masking.proofs.GateCount.{gate-count}
use Rattle.masking.proofs.Masking.{output-codes-length, output-codes-good}
use Rattle.masking.proofs.Shape.{start-twin, start-placed, out-twin, outs-placed, length-out_twins, masked-ordered}
use Rattle.masking.proofs.Shape.{masked-input_bits, masked-outputs}
use Rattle.join.specs.Join.{joined_wire, renumbered, join}
use Rattle.join.proofs.Wires.{seam-wire, pair-wire, further-wire, on-wire}
use Rattle.join.proofs.Renumbered.{result-renumbered, operands-renumbered}
use Rattle.certify_records.specs.declared.Record.{Record}
use Rattle.certify_records.specs.Record.{no_atom, over}
use Rattle.certify_records.proofs.Drawn.{Drawn, is_nowhere, few', leaf_table, mask', product', or', made', fine}
use Rattle.certify_records.proofs.Drawn.{is_table, mask-wires}
use Rattle.certify_records.proofs.Placing.{at, real}
use Rattle.certify.proofs.Frames.{View, LitOf}
use Rattle.certify.proofs.Leads.{seated-kept}
use Rattle.certify.proofs.Seats.{Owed, Model}
use Rattle.certify.proofs.Bears.{Bears, stays-real, nowhere-is}
use Rattle.certify.proofs.MaskedGates.{Borne, MaskSlots, paid}
use Rattle.certify.proofs.Walked.{Inputs, walk-inputs, Walked, walk-gates, Outs, walk-outs}

-- the places of the mask wires, of which no atom matters
abbrev at_none : Drawn → Record
at_none = real 0 1 (omega arith) (omega arith)

-- a gate on mask wires
module _ (s : View) (k a b c : ℕ) (x y z : Drawn) where
  table-gate : T (fine k x y && is_table (made' k x y) z) → s.slot_of a ≡ Some (at_none x) → s.slot_of b
      ≡ Some (at_none y) → Owed s k a b c
      → (s.slot_of c ≡ Some (over z.table no_atom)) × LitOf s c
  table-gate t ea eb m =
      let v = made' k x y in
      let p = both (fine k x y) (is_table v z) t in
      let q = both (few' v) (is_nowhere v.first && eqb v.table z.table) p.1 in
      let u = both (is_nowhere v.first) (eqb v.table z.table) q.1 in
      let f = both (is_nowhere v.fourth) (is_nowhere v.third && is_nowhere v.second) q.0 in
      let g = both (is_nowhere v.third) (is_nowhere v.second) f.1 in
      let less : 0 < 1 = omega arith in
      let most : 1 < no_atom = omega arith in
      let d = paid s 0 1 less most k a b c x y p.0 ea eb m in
      let e = stays-real 0 1 less most s c v d.seated (or_left (few' v) _ q.0) in (
        e ∙ (λ i. Some (record {
          table = eqb→eq v.table z.table u.1 i;
          first = at 0 1 less most (nowhere-is 0 1 less most v.first u.0 i);
          second = at 0 1 less most (nowhere-is 0 1 less most v.second g.1 i);
          third = at 0 1 less most (nowhere-is 0 1 less most v.third g.0 i);
          fourth = at 0 1 less most (nowhere-is 0 1 less most v.fourth f.0 i);
        })),
        d.lit,
      )

-- what arrives at the input wires
pub record Arrives (v : View) (codes : List ℕ) : Type 0 where
  pub secret : (i : ℕ) → i < length codes → is_public (get_or codes i 0) ≡ false → Bears v (get_or codes i 0) i
  pub public : (i : ℕ) → i < length codes → is_public (get_or codes i 0) ≡ true → (d : ℕ)
      → Model v (Xor i (length codes) d) → Borne v 1 d
  pub first : v.slot_of (length codes) ≡ Some (over (leaf_table 1 false false) no_atom)
  pub second : v.slot_of (length codes + 1) ≡ Some (over (leaf_table 2 false false) no_atom)

-- what comes of it: all gates' wires are clean, and the outputs bear masked bits
pub record Ran (v : View) (N : Netlist) (out_codes : List ℕ) : Type 0 where
  pub clean : AllWires (LitOf v) N.gates
  pub bears : (i : ℕ) → i < output_bits N → Bears v (get_or out_codes i 0) (N.wires - output_bits N + i)

pub record Sound (N : Netlist) (codes out_codes : List ℕ) : Type 0 where
  pub ordered : Ordered (length codes + 2) N.gates N.wires
  pub inputs : input_bits N ≡ length codes + 2
  pub codes_good : T (every is_input_code codes)
  pub outputs : length out_codes ≡ output_bits N
  pub last : output_bits N ≤ length N.gates
  pub outs_good : T (every is_code out_codes)
  pub run : (v : View) → Arrives v codes → All (Model v) N.gates → Ran v N out_codes

-- the netlist of the masking steps
module _ {N : Netlist} {codes wanted : List ℕ} (C : MaskInputs N codes wanted) where
  abbrev M : Netlist
  M = (mask_netlist N codes wanted).netlist

  abbrev n : ℕ
  n = input_bits N

  module _ (v : View) (A : Arrives v codes) (owed : All (Model v) M.gates) where
    -- the gates: of the masks, of the public bits, of the source gates, of the outputs
    abbrev opening : List Gate
    opening = mask_gates n ++ public_gates n (n + 5) 0 codes

    sourcing : All (Model v) (opening ++ emit_all n (start N codes) N.gates)
    unfolding mask_netlist
    sourcing = (all_split (opening ++ emit_all n (start N codes) N.gates) owed).0

    outing : All (Model v) (out_gates n (finish N codes).next (out_twins N codes) wanted)
    unfolding mask_netlist
    outing = (all_split (opening ++ emit_all n (start N codes) N.gates) owed).1

    masking : All (Model v) (mask_gates n)
    masking = (all_split (mask_gates n) (all_split opening sourcing).0).0

    publishing : All (Model v) (public_gates n (n + 5) 0 codes)
    publishing = (all_split (mask_gates n) (all_split opening sourcing).0).1

    emitting : All (Model v) (emit_all n (start N codes) N.gates)
    emitting = (all_split opening sourcing).1

    first : v.slot_of n ≡ Some (over (leaf_table 1 false false) no_atom)
    first = ap v.slot_of (sym C.codes_length) ∙ A.first

    second : v.slot_of (n + 1) ≡ Some (over (leaf_table 2 false false) no_atom)
    second = ap (λ (k : ℕ). v.slot_of (k + 1)) (sym C.codes_length) ∙ A.second

    abbrev sum_test : Bool
    sum_test = fine 1 (mask' 1) (mask' 2) && is_table (made' 1 (mask' 1) (mask' 2)) (mask' 3)

    abbrev product_test : Bool
    product_test = fine 2 (mask' 1) (mask' 2) && is_table (made' 2 (mask' 1) (mask' 2)) product'

    abbrev or_test : Bool
    or_test = fine 1 (mask' 3) product' && is_table (made' 1 (mask' 3) product') or'

    sum : (v.slot_of (n + 2) ≡ Some (over (leaf_table 3 false false) no_atom)) × LitOf v (n + 2)
    sum = table-gate v 1 n (n + 1) (n + 2) (mask' 1) (mask' 2) (mask' 3)
        (both sum_test (product_test && or_test) mask-wires).0 first second (all_head masking)

    product : (v.slot_of (n + 3) ≡ Some (over product'.table no_atom)) × LitOf v (n + 3)
    product =
        table-gate v 2 n (n + 1) (n + 3) (mask' 1) (mask' 2) product'
        (both product_test or_test (both sum_test (product_test && or_test) mask-wires).1).0 first
        second (all_head (all_tail masking))

    or : (v.slot_of (n + 4) ≡ Some (over or'.table no_atom)) × LitOf v (n + 4)
    or =
        table-gate v 1 (n + 2) (n + 3) (n + 4) (mask' 3) product' or'
        (both product_test or_test (both sum_test (product_test && or_test) mask-wires).1).1 sum.0
        product.0 (all_head (all_tail (all_tail masking)))

    masks : MaskSlots v n
    masks = record {
      wire = on_code (λ e. v.slot_of (mask_wire n e) ≡ Some (over (leaf_table e false false) no_atom))
          (let z : n ≡ n + 0 = omega arith in subst (λ (k : ℕ). v.slot_of k
          ≡ Some (over (leaf_table 1 false false) no_atom)) z first) second sum.0;
      or = or.0;
    }

    inputs : Inputs masks (n + 5) 0 codes
    inputs =
        let l : length codes ≡ n = C.codes_length in
        let z : (w : ℕ) → w ≡ 0 + w = λ w. omega arith in
        walk-inputs masks (n + 5) 0 codes
        (λ w h p. subst (Bears v (get_or codes w 0)) (z w) (A.secret w h p))
        (λ w h p d m. A.public w h p d (subst (λ (k : ℕ). Model v (Xor w k d)) (sym l)
        (subst (λ (k : ℕ). Model v (Xor k n d)) (sym (z w)) m)))
        publishing

    walked : Walked masks [] (start N codes) N.gates
    walked =
        let l : length codes ≡ n = C.codes_length in
        walk-gates masks N.wires [] (start N codes) N.gates C.source.good (start-placed C)
        (λ w t. let h = given-none n w t in rw (start-twin N codes w (omega arith)) (inputs.carries w (omega arith)))
        emitting

    outs : Outs masks (finish N codes).next (out_twins N codes) wanted
    outs =
        let f : output_bits N ≤ N.wires = C.source.outputs_fit in
        let l = length-out_twins C in
        walk-outs masks (finish N codes).next (out_twins N codes) wanted (C.wanted_length ∙ sym l) C.wanted_good
        (outs-placed C)
        (λ i h. rw (out-twin N codes i) (walked.twins (N.wires - output_bits N + i)
        (every-wire-given C.source (N.wires - output_bits N + i) (omega arith))))
        outing

    clean : AllWires (LitOf v) M.gates
    unfolding mask_netlist
    clean = all_append (all_append (all_append (each sum.1 (each product.1 (each or.1 empty))) inputs.clean)
        walked.clean) outs.clean

    ran : Ran v M (mask_netlist N codes wanted).codes
    unfolding mask_netlist
    ran =
        let c = (finish N codes).next in
        let l = length-out_twins C in
        record {
          clean = clean;
          bears = λ i h. let z : c + i ≡ c + output_bits N - output_bits N + i = omega arith in
              subst (Bears v (get_or (mask_netlist N codes wanted).codes i 0)) z (outs.bears i (omega arith));
        }

  pub masked-sound : Sound M codes (mask_netlist N codes wanted).codes
  masked-sound =
      let l : length codes ≡ n = C.codes_length in
      let o : output_bits M ≡ output_bits N = ap sum_of (masked-outputs C) in
      record {
        ordered = subst (λ (k : ℕ). Ordered (k + 2) M.gates M.wires) (sym l) (masked-ordered C);
        inputs = omega (arith, masked-input_bits C);
        codes_good = C.codes_good;
        outputs = output-codes-length C ∙ sym o;
        last = omega (arith, gate-count C);
        outs_good = output-codes-good C;
        run = ran;
      }

-- seen through another numbering of the wires
abbrev moved : (ℕ → ℕ) → View → View
moved f v = record { slot_of = λ w. v.slot_of (f w); marked = λ w. v.marked (f w) }

module _ (f : ℕ → ℕ) (v : View) where
  owed-moved : (k a b c : ℕ) → Owed v k (f a) (f b) (f c) → Owed (moved f v) k a b c
  owed-moved k a b c m = λ x y r ea eb er S. seated-kept refl (λ l. l) (m x y r ea eb er S)

  model-moved : (g : Gate) → Model v (renumbered f g) → Model (moved f v) g
  model-moved (Xor a b c) m = owed-moved 1 a b c m
  model-moved (And a b c) m = owed-moved 2 a b c m
  model-moved (Inv a c) m = owed-moved 3 a a c m
  model-moved (Eqw a c) m = owed-moved 4 a a c m
  model-moved (Eq x c) m = tt

  models-moved : (gs : List Gate) → All (Model v) (map (renumbered f) gs) → All (Model (moved f v)) gs
  models-moved [] m = empty
  models-moved (g ∷ gs) m = each (model-moved g (all_head m)) (models-moved gs (all_tail m))

  clean-moved : (gs : List Gate) → AllWires (LitOf (moved f v)) gs → AllWires (LitOf v) (map (renumbered f) gs)
  clean-moved [] m = empty
  clean-moved (g ∷ gs) m = each (subst (LitOf v) (sym (result-renumbered f g)) (all_head m))
      (clean-moved gs (all_tail m))

  bears-moved : (e w : ℕ) → Bears (moved f v) e w → Bears v e (f w)
  bears-moved e w B = record { record_there = B.record_there; leaf = B.leaf; stands = B.stands }

  moved-bears : (e w : ℕ) → Bears v e (f w) → Bears (moved f v) e w
  moved-bears e w B = record { record_there = B.record_there; leaf = B.leaf; stands = B.stands }

code-secret : (e : ℕ) → T (is_code e) → is_public e ≡ false
code-secret e c = on_code (λ e. is_public e ≡ false) refl refl refl e c

module _ {A B : Netlist} {codes middle out_codes : List ℕ} (K : Sound A codes middle) (L : Sound B middle out_codes)
  where
    abbrev f : ℕ → ℕ
    f = joined_wire A B

    first-long : length codes + 2 + length A.gates ≡ A.wires
    first-long = ordered-length K.ordered

    second-long : length middle + 2 + length B.gates ≡ B.wires
    second-long = ordered-length L.ordered

    -- the second's wires below one of its own go below where that goes
    goes-below : (c a : ℕ) → input_bits B ≤ c → a < c → f a < A.wires + c - input_bits B
    goes-below c a l h =
        let p = K.inputs in
        let q = L.inputs in
        let o = K.outputs in
        let s = first-long in
        let z = K.last in
        on-wire (input_bits B) a
        (λ i. rw (seam-wire A B a i) (omega arith))
        (λ i j. rw (pair-wire A B a i j) (omega arith))
        (λ i. rw (further-wire A B a i) (omega arith))

    goes-on : {c d : ℕ} {gs : List Gate} → input_bits B ≤ c → Ordered c gs d
        → Ordered (A.wires + c - input_bits B) (map (renumbered f) gs) (A.wires + d - input_bits B)
    goes-on l end = end
    goes-on {c} {d} l (step {g = g} {gs = gs} r o p) =
        let e : A.wires + (c + 1) - input_bits B ≡ A.wires + c - input_bits B + 1 = omega arith in
        step (result-renumbered f g ∙ ap f r ∙ further-wire A B c l)
        (operands-renumbered (λ w. ltb w c) (λ w. ltb w (A.wires + c - input_bits B)) f g
        (λ a t. lt→ltb (f a) (A.wires + c - input_bits B) (goes-below c a l (ltb→lt a c t))) o)
        (subst (λ (k : ℕ). Ordered k (map (renumbered f) gs) (A.wires + d - input_bits B)) e (goes-on (omega arith) p))

    joined-ordered : Ordered (length codes + 2) (join A B).gates (join A B).wires
    joined-ordered =
        let q = L.inputs in
        let e : A.wires + (length middle + 2) - input_bits B ≡ A.wires = omega arith in
        ordered-append K.ordered
        (subst (λ (k : ℕ). Ordered k (map (renumbered f) B.gates) (join A B).wires) e (goes-on (omega arith) L.ordered))

    joined-run : (v : View) → Arrives v codes → All (Model v) (join A B).gates → Ran v (join A B) out_codes
    joined-run v arr owed =
        let p = K.inputs in
        let q = L.inputs in
        let o = K.outputs in
        let s = second-long in
        let z = L.last in
        let m = all_split A.gates owed in
        let R = K.run v arr m.0 in
        let u = moved f v in
        let n = length middle in
        let c0 : f n ≡ length codes = pair-wire A B n (omega arith) (omega arith) ∙ omega arith in
        let c1 : f (n + 1) ≡ length codes + 1 = pair-wire A B (n + 1) (omega arith) (omega arith) ∙ omega arith in
        let secret : (i : ℕ) → i < n → is_public (get_or middle i 0) ≡ false =
        λ i h. code-secret (get_or middle i 0) (every-at is_code middle K.outs_good i h) in
        let arr' : Arrives u middle = record {
          secret = λ i h d.
              moved-bears f v (get_or middle i 0) i
              (subst (Bears v (get_or middle i 0)) (sym (seam-wire A B i (omega arith))) (R.bears i (omega arith)));
          public = λ i h d. let e = sym (secret i h) ∙ d in clash (cc);
          first = ap v.slot_of c0 ∙ arr.first;
          second = ap v.slot_of c1 ∙ arr.second;
        } in
        let S = L.run u arr' (models-moved f v B.gates m.1) in
        record {
          clean = all_append R.clean (clean-moved f v B.gates S.clean);
          bears = λ i h.
              let w = B.wires - output_bits B + i in
              let e : f w ≡ (join A B).wires - output_bits B + i = further-wire A B w (omega arith) ∙ omega arith in
              subst (Bears v (get_or out_codes i 0)) e (bears-moved f v (get_or out_codes i 0) w (S.bears i h));
        }

    pub joined-sound : Sound (join A B) codes out_codes
    joined-sound = record {
      ordered = joined-ordered;
      inputs = K.inputs;
      codes_good = K.codes_good;
      outputs = L.outputs;
      last = let h = ordered-length joined-ordered in let s = first-long in let t = second-long in let z = L.last in let q
          = L.inputs in omega arith;
      outs_good = L.outs_good;
      run = joined-run;
    }
