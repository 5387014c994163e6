-- Masked blocks: what Mask gives is one, and two of them joined are one, of the second's function after the first's.
use Prim.Native.Nat.{ℕ, ◌+◌, ◌-◌, ◌≤◌, ◌<◌}
use mathlib.Core.Path.{◌≡◌, sym, ap, ◌∙◌}
use mathlib.Core.Bool.{Bool}
use mathlib.Core.List.{List, ◌++◌}
use native.Mathlib.Omega.{arith}
use lib.Dec.{T, ltb}
use borrow.Author.Tests.{ltb-true, ltb-false}
use lib.ListN.{length, drop, length-append, length-map}
use Rattle.netlist.specs.Lists.{every, sum}
use Rattle.netlist.specs.Netlist.{Netlist, input_bits, output_bits}
use Rattle.netlist.specs.Eval.{bits_at, wire_bits, outputs_of}
use Rattle.masking.specs.Mask.{Masked, mask_netlist}
use Rattle.masking.specs.Leak.{masked, count, Clean}
use Rattle.masking.specs.Unmask.{unmasked}
use Rattle.netlist.proofs.Tests.{on_bool}
use Rattle.masking.proofs.MaskedBits.{count_of-same, length-masked}
use Rattle.netlist.proofs.Models.{length-outputs_of}
use Rattle.masking.proofs.MaskInputs.{MaskInputs}
use Rattle.masking.proofs.Shape.{masked-input_bits, masked-outputs, masked-well_formed}
use Rattle.masking.proofs.GateCount.{gate-count}
use Rattle.masking.proofs.Masking.{output-codes-length, output-codes-good, outputs-unmask, counts-equal}
use Rattle.join.specs.Join.{joined_wire, join}
use Rattle.join.specs.Call.{is_secret}
use Rattle.join.specs.Block.{Block}
use Rattle.join.specs.Delivered.{seam_bits}
use Rattle.join.proofs.SeamLaws.{Seam}
use Rattle.join.proofs.Wires.{further-wire}
use Rattle.join.proofs.Formed.{joined-formed}
use Rattle.join.proofs.Runs.{first-bits, second-bits, joined-outputs}
use Rattle.join.proofs.Three.{join-three}
use Rattle.join.proofs.SeamBits.{length-unmasked, masked_again, mask-pair, codes-secret, all-agree}

-- a masked netlist is a block of what its source computes
pub masked-block : {N : Netlist} {codes wanted : List ℕ} → MaskInputs N codes wanted
    → Block (outputs_of N) codes (mask_netlist N codes wanted).netlist (mask_netlist N codes wanted).codes
masked-block {N} {codes} {wanted} C =
    let M = (mask_netlist N codes wanted).netlist in
    let l : length codes ≡ input_bits N = C.codes_length in
    let o : output_bits M ≡ output_bits N = ap sum (masked-outputs C) in
    record {
      formed = masked-well_formed C;
      inputs = omega (arith, masked-input_bits C);
      outputs = output-codes-length C ∙ sym o;
      gates = omega (arith, gate-count C);
      computes = outputs-unmask C;
      clean = counts-equal C;
    }

module _ {f : List Bool → List Bool} {codes : List ℕ} {A : Netlist} {out_codes : List ℕ} (K : Block f codes A out_codes)
  where
    put-out : (m0 m1 : Bool) (x : List Bool) → length (outputs_of A (masked m0 m1 codes x)) ≡ length out_codes
    put-out m0 m1 x =
        let i : length codes + 2 ≡ input_bits A = K.inputs in
        length-outputs_of K.formed (masked m0 m1 codes x) (length-masked m0 m1 codes x ∙ i) ∙ sym K.outputs

    -- the function gives a bit for each output bit
    pub length-computed : (x : List Bool) → length x ≡ length codes → length (f x) ≡ length out_codes
    length-computed x l =
        let m = Bool.false in
        ap length (sym (K.computes m m x l)) ∙ length-unmasked m m out_codes (outputs_of A (masked m m codes x))
        (put-out m m x)

    -- what goes over the seam: the function's bits, masked by the output codes, and the mask pair
    pub seam-masked : (m0 m1 : Bool) (x : List Bool) → length x ≡ length codes → seam_bits A (masked m0 m1 codes x)
        ≡ masked m0 m1 out_codes (f x)
    seam-masked m0 m1 x l =
        let i : length codes + 2 ≡ input_bits A = K.inputs in
        let ins = masked m0 m1 codes x in
        let z : input_bits A - 2 ≡ length codes = omega arith in
        ap (λ (p : List Bool). outputs_of A ins ++ p) (ap (λ (k : ℕ). drop k ins) z ∙ mask-pair m0 m1 codes x)
        ∙ sym (masked_again m0 m1 out_codes (outputs_of A ins) (put-out m0 m1 x))
        ∙ ap (masked m0 m1 out_codes) (K.computes m0 m1 x l)

module _ {f g : List Bool → List Bool} {codes middle out_codes : List ℕ} {A B : Netlist} (K : Block f codes A middle)
    (L : Block g middle B out_codes) where
  pub blocks-meet : Seam A B
  blocks-meet =
      let i : length codes + 2 ≡ input_bits A = K.inputs in
      let o : length middle ≡ output_bits A = K.outputs in
      let j : length middle + 2 ≡ input_bits B = L.inputs in
      record { first = K.formed; second = L.formed; pair = omega arith; meets = omega arith; gates = L.gates }

  fits : (m0 m1 : Bool) (x : List Bool) → length (masked m0 m1 codes x) ≡ input_bits A
  fits m0 m1 x = length-masked m0 m1 codes x ∙ K.inputs

  -- the counts of the first's wires, and of the second's
  first_count : (w : ℕ) → w < A.wires → (x : List Bool) → count (join A B) codes w x ≡ count A codes w x
  unfolding count
  first_count w h x =
      count_of-same (λ m0 m1. bits_at (wire_bits (join A B) (masked m0 m1 codes x)) w)
      (λ m0 m1. bits_at (wire_bits A (masked m0 m1 codes x)) w)
      (λ m0 m1. first-bits blocks-meet (masked m0 m1 codes x) (fits m0 m1 x) w h)

  second-count : (w : ℕ) → w < B.wires → (x : List Bool) → length x ≡ length codes
      → count (join A B) codes (joined_wire A B w) x ≡ count B middle w (f x)
  unfolding count
  second-count w h x l =
      count_of-same (λ m0 m1. bits_at (wire_bits (join A B) (masked m0 m1 codes x)) (joined_wire A B w))
      (λ m0 m1. bits_at (wire_bits B (masked m0 m1 middle (f x))) w)
      (λ m0 m1. second-bits blocks-meet (masked m0 m1 codes x) (fits m0 m1 x) w h
      ∙ ap (λ (ins : List Bool). bits_at (wire_bits B ins) w) (seam-masked K m0 m1 x l))

  -- the joined wires: the first's, and the second's after its inputs
  on-joined : {P : Type 0} (w : ℕ) → w < (join A B).wires → (w < A.wires → P)
      → ((v : ℕ) → v < B.wires → w ≡ joined_wire A B v → P) → P
  on-joined w h p q =
      let i : input_bits B ≤ B.wires = L.formed.inputs_fit in
      on_bool (ltb w A.wires) (λ e. p (ltb-true w A.wires e))
      (λ e. let l : A.wires ≤ w = ltb-false w A.wires e in
      let v = w - A.wires + input_bits B in
      q v (omega arith) (sym (rw (further-wire A B v (omega arith)) (omega arith))))

  module _ (secret : T (every is_secret middle)) where
    joined-clean : Clean (join A B) codes
    joined-clean w h x y a =
        on-joined w h
        (λ b. first_count w b x ∙ K.clean w b x y a ∙ sym (first_count w b y))
        (λ v b e. rw e
        (second-count v b x a.first
        ∙ L.clean v b (f x) (f y) (record {
          first = length-computed K x a.first;
          second = length-computed K y a.second;
          public = all-agree middle secret (f x) (f y);
        })
        ∙ sym (second-count v b y a.second)))

    -- two blocks joined over secret bits
    pub joined-block : Block (λ x. g (f x)) codes (join A B) out_codes
    joined-block = record {
      formed = joined-formed blocks-meet;
      inputs = K.inputs;
      outputs = L.outputs;
      gates = let k : output_bits B ≤ length B.gates = L.gates in simp (length-append, length-map) (omega arith);
      computes = λ m0 m1 x l.
          ap (unmasked m0 m1 out_codes) (joined-outputs blocks-meet (masked m0 m1 codes x) (fits m0 m1 x)
          ∙ ap (outputs_of B) (seam-masked K m0 m1 x l))
          ∙ L.computes m0 m1 (f x) (length-computed K x l);
      clean = joined-clean;
    }

-- what Mask gives, joined: the second source after the first, and equal counts on every wire. The second's input codes
-- are the first's output codes, none of which is 0
module _ (N N' : Netlist) (codes wanted wanted' : List ℕ) where
  abbrev M : Masked
  M = mask_netlist N codes wanted

  abbrev M' : Masked
  M' = mask_netlist N' M.codes wanted'

  pub masked-join : MaskInputs N codes wanted → MaskInputs N' M.codes wanted'
      → Block (λ x. outputs_of N' (outputs_of N x)) codes (join M.netlist M'.netlist) M'.codes
  masked-join C D = joined-block (masked-block C) (masked-block D) (codes-secret M.codes (output-codes-good C))

-- three blocks: one netlist, which is a block of the third function after the second after the first
module _ {f g h : List Bool → List Bool} {codes first second out_codes : List ℕ} {A B C : Netlist}
    (K : Block f codes A first) (L : Block g first B second) (M : Block h second C out_codes) where
  pub three-joined : join (join A B) C ≡ join A (join B C)
  three-joined = join-three (blocks-meet K L) (blocks-meet L M)

  pub three-block : T (every is_secret first) → T (every is_secret second) → Block (λ x. h (g (f x))) codes
      (join (join A B) C) out_codes
  three-block s t = joined-block (joined-block K L s) M t
