-- The source under a choice: a netlist that questions 4 to 9 admit and that computes the same, and codes that question
-- 11 of Mask admits. So all that holds of Mask holds of it, with the source's outputs.
use Prim.Native.Nat.{ℕ, zero, suc, ◌+◌, ◌<◌}
use mathlib.Core.Path.{◌≡◌, refl, ap, ap₂, ◌∙◌}
use mathlib.Core.Bool.{Bool, true, false, ◌&&◌}
use mathlib.Core.List.{List, [], ◌∷◌}
use native.Mathlib.Omega.{arith}
use lib.Dec.{T, eqb, leb→le, le→leb}
use borrow.Author.Tests.{eqb-false}
use lib.ListN.{length, get_or, set, length-append, length-map}
use Rattle.netlist.specs.declared.Gate.{Gate}
use Rattle.netlist.specs.declared.Gate.TheVariants.{Xor, And, Inv, Eqw, Eq}
use Rattle.netlist.specs.Lists.{every}
use Rattle.netlist.specs.Netlist.{Netlist, input_bits, output_bits, result}
use Rattle.netlist.specs.Eval.{differs, made, bits_at, run_gates, wire_bits, outputs_of}
use Rattle.netlist.specs.Read.{operands_given, is_given, result_good, gates_good, WellFormed, Within}
use Rattle.masking.specs.Mask.{is_input_code, is_wanted, no_twin, finish}
use Rattle.masking.specs.Unmask.{Unmasks}
use Rattle.masking.specs.Leak.{mask_of, Clean}
use Rattle.masking.specs.Twins.{Twins}
use Rattle.netlist.proofs.Tests.{both, pair, on_bool}
use Rattle.masking.proofs.Carried.{twins-carried}
use Rattle.masking.proofs.MaskInputs.{MaskInputs}
use Rattle.masking.proofs.Masking.{outputs-unmask, counts-equal}
use Rattle.fewest.specs.Choice.{Choice, is_call_code, is_free, input_ways, ways, chosen_code, chosen_codes, chosen_gate}
use Rattle.fewest.specs.Choice.{chosen_gates, chosen_source, chosen_inputs, Takes}
use Rattle.fewest.specs.Fewest.{masked_under}

-- what a call is handed: as Mask, with free codes
pub record CallInputs (N : Netlist) (codes wanted : List ℕ) : Type 0 where
  pub source : WellFormed N
  pub codes_length : length codes ≡ input_bits N
  pub codes_good : T (every is_call_code codes)
  pub wanted_length : length wanted ≡ output_bits N
  pub wanted_good : T (every is_wanted wanted)

-- ---- an AND computes the same with its operands swapped

pub on-way : (P : Gate → Type 0) (d a b c : ℕ) → P (And b a c) → P (And a b c) → P (chosen_gate d (And a b c))
on-way P d a b c s w = on_bool (eqb d 1) (λ e. rw e s) (λ e. rw e w)

pub chosen-result : (d : ℕ) (g : Gate) → result (chosen_gate d g) ≡ result g
chosen-result d (Xor a b c) = refl
chosen-result d (And a b c) = on-way (λ g. result g ≡ c) d a b c refl refl
chosen-result d (Inv a c) = refl
chosen-result d (Eqw a c) = refl
chosen-result d (Eq v c) = refl

and-swap : (a b : Bool) → (a && b) ≡ (b && a)
and-swap true true = refl
and-swap true false = refl
and-swap false true = refl
and-swap false false = refl

chosen-made : (u : ℕ → Bool) (d : ℕ) (g : Gate) → made u (chosen_gate d g) ≡ made u g
chosen-made u d (Xor a b c) = refl
chosen-made u d (And a b c) = on-way (λ g. made u g ≡ (u a && u b)) d a b c (and-swap (u b) (u a)) refl
chosen-made u d (Inv a c) = refl
chosen-made u d (Eqw a c) = refl
chosen-made u d (Eq v c) = refl

pub chosen-given : (has : ℕ → Bool) (d : ℕ) (g : Gate) → operands_given has (chosen_gate d g) ≡ operands_given has g
chosen-given has d (Xor a b c) = refl
chosen-given has d (And a b c) = on-way (λ g. operands_given has g ≡ (has a && has b)) d a b c
    (and-swap (has b) (has a)) refl
chosen-given has d (Inv a c) = refl
chosen-given has d (Eqw a c) = refl
chosen-given has d (Eq v c) = refl

pub length-chosen_gates : (d : Choice) (p : ℕ) (gs : List Gate) → length (chosen_gates d p gs) ≡ length gs
length-chosen_gates d p [] = refl
length-chosen_gates d p (g ∷ gs) = ap suc (length-chosen_gates d (suc p) gs)

chosen-run : (d : Choice) (p : ℕ) (gs : List Gate) (v : List Bool) → run_gates v (chosen_gates d p gs) ≡ run_gates v gs
chosen-run d p [] v = refl
chosen-run d p (g ∷ gs) v =
    ap₂ (λ (r : ℕ) (b : Bool). run_gates (set v r b) (chosen_gates d (suc p) gs)) (chosen-result (d p) g)
    (chosen-made (bits_at v) (d p) g)
    ∙ chosen-run d (suc p) gs (set v (result g) (made (bits_at v) g))

pub chosen-good : (d : Choice) (p n W : ℕ) (rs : List ℕ) (gs : List Gate) → gates_good n W rs (chosen_gates d p gs)
    ≡ gates_good n W rs gs
chosen-good d p n W rs [] = refl
chosen-good d p n W rs (g ∷ gs) =
    rw (chosen-given (is_given n rs) (d p) g, chosen-result (d p) g)
    (ap (λ (t : Bool). operands_given (is_given n rs) g && result_good n W rs g && t)
    (chosen-good d (suc p) n W (result g ∷ rs) gs))

module _ (N : Netlist) (d : Choice) where
  pub chosen-wires : (x : List Bool) → wire_bits (chosen_source N d) x ≡ wire_bits N x
  unfolding wire_bits
  chosen-wires x = chosen-run d (input_bits N) N.gates _

  pub chosen-outputs : (x : List Bool) → outputs_of (chosen_source N d) x ≡ outputs_of N x
  unfolding outputs_of
  chosen-outputs x = rw (chosen-wires x)

  pub chosen-formed : WellFormed N → WellFormed (chosen_source N d)
  chosen-formed F = record {
    some_input = F.some_input;
    inputs_positive = F.inputs_positive;
    some_output = F.some_output;
    outputs_positive = F.outputs_positive;
    inputs_fit = F.inputs_fit;
    outputs_fit = F.outputs_fit;
    gate_count = length-chosen_gates d (input_bits N) N.gates ∙ F.gate_count;
    good = rw (chosen-good d (input_bits N) (input_bits N) N.wires [] N.gates) F.good;
  }

-- ---- codes

pub length-chosen_codes : (d : Choice) (p : ℕ) (es : List ℕ) → length (chosen_codes d p es) ≡ length es
length-chosen_codes d p [] = refl
length-chosen_codes d p (e ∷ es) = ap suc (length-chosen_codes d (suc p) es)

-- a way of an input makes it a code that Mask admits
chosen-code : (d e : ℕ) → T (is_call_code e) → d < input_ways e → T (is_input_code (chosen_code d e))
chosen-code d e t h =
    on_bool (is_free e)
    (λ z. let l : d < 3 = rw z at h in rw z (le→leb (d + 1) 3 (omega arith)))
    (λ z. let m = leb→le e 4 t in let n : e ≡ 4 → ⊥ = eqb-false e 4 z in rw z (le→leb e 3 (omega arith)))

chosen-codes : (d : Choice) (p : ℕ) (es : List ℕ) → T (every is_call_code es)
    → ((i : ℕ) → i < length es → d (p + i) < input_ways (get_or es i 0))
    → T (every is_input_code (chosen_codes d p es))
chosen-codes d p [] t h = tt
chosen-codes d p (e ∷ es) t h =
    let s = both (is_call_code e) (every is_call_code es) t in
    let z : p + 0 ≡ p = omega arith in
    pair (is_input_code (chosen_code (d p) e)) (every is_input_code (chosen_codes d (suc p) es))
    (chosen-code (d p) e s.0 (rw z at (h 0 (omega arith))))
    (chosen-codes d (suc p) es s.1 (λ i l. let y : p + suc i ≡ suc p + i = omega arith
    in rw y at (h (suc i) (omega arith))))

-- the ways of a choice's first places are those of the inputs
pub input-ways : (es : List ℕ) (gs : List Gate) (i : ℕ) → i < length es → get_or (ways es gs) i 0
    ≡ input_ways (get_or es i 0)
input-ways [] gs i h = absurd (omega arith)
input-ways (e ∷ es) gs zero h = refl
input-ways (e ∷ es) gs (suc i) h = input-ways es gs i (omega arith)

module _ {N : Netlist} {codes wanted : List ℕ} (C : CallInputs N codes wanted) (d : Choice)
    (t : Takes (ways codes N.gates) d) where
  -- Mask admits the source and the codes under a choice
  pub chosen-inputs : MaskInputs (chosen_source N d) (chosen_inputs codes d) wanted
  chosen-inputs = record {
    source = chosen-formed N d C.source;
    codes_length = length-chosen_codes d 0 codes ∙ C.codes_length;
    codes_good = chosen-codes d 0 codes C.codes_good (λ i h. let z : 0 + i ≡ i = omega arith
        in rw z (rw (input-ways codes N.gates i h) at (t i (long i h))));
    wanted_length = C.wanted_length;
    wanted_good = C.wanted_good;
  }
    where
      long : (i : ℕ) → i < length codes → i < length (ways codes N.gates)
      long i h = rw length-append (let l = length-map codes input_ways in omega arith)

  -- with the masks taken off its outputs are the source's
  pub chosen-unmask : Unmasks N (chosen_inputs codes d) (masked_under N codes wanted d).netlist
      (masked_under N codes wanted d).codes
  chosen-unmask m0 m1 x l = outputs-unmask chosen-inputs m0 m1 x l ∙ chosen-outputs N d x

  -- and each wire's count is the same for all input settings that agree in their public bits
  pub chosen-clean : Clean (masked_under N codes wanted d).netlist (chosen_inputs codes d)
  chosen-clean = counts-equal chosen-inputs

  -- each source wire has the twin that the masking steps leave under the choice
  pub chosen-twins : Twins N (chosen_inputs codes d) (masked_under N codes wanted d).netlist
      (finish (chosen_source N d) (chosen_inputs codes d)).twins
  chosen-twins =
      let T = twins-carried chosen-inputs in
      record {
        many = T.many;
        each = λ w l.
            let A = T.each w l in
            record {
              wire = A.wire;
              code = A.code;
              carries = λ m0 m1 x k. A.carries m0 m1 x k
                  ∙ ap (λ (v : List Bool). differs (bits_at v w)
                  (mask_of m0 m1 (get_or (finish (chosen_source N d) (chosen_inputs codes d)).twins w no_twin).code))
                  (chosen-wires N d x);
            };
      }

  pub chosen-within : {L : _} → Within L N → Within L (chosen_source N d)
  chosen-within H = record { wires = H.wires; inputs = H.inputs; outputs = H.outputs }
