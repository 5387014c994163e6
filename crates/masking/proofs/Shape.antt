-- The masked netlist: its gates stand in order, its values are the source's and the mask pair, and it is well formed.
use Prim.Native.Nat.{ℕ, ◌+◌, ◌-◌, ◌≤◌, ◌<◌}
use mathlib.Core.Path.{◌≡◌, refl, sym, ◌∙◌}
use mathlib.Core.Bool.{Bool, true}
use mathlib.Core.List.{List, [], ◌∷◌, ◌++◌}
use native.Mathlib.Omega.{arith}
use lib.Dec.{T, leb}
use lib.ListN.{length, get_or, length-append, length-drop, length-replicate, get_or-append}
use lib.Seq.{get_or-drop}
use Rattle.netlist.specs.Lists.{every, sum}
use Rattle.netlist.specs.Netlist.{Netlist, input_bits, output_bits}
use Rattle.netlist.specs.Read.{WellFormed, gates_good}
use Rattle.masking.specs.Mask.{twin, no_twin, input_twins, mask_gates, start, finish, out_twins, mask_netlist}
use Rattle.netlist.proofs.Tests.{sum-snoc, both, pair, All, all_from}
use Rattle.netlist.proofs.GoodGates.{given-none, results, every-wire-given}
use Rattle.netlist.proofs.Order.{Ordered, end, step, ordered-append, ordered-length, ordered-good, two-below}
use Rattle.masking.proofs.Placed.{Placed, AllPlaced, place-all, emit-ordered}
use Rattle.masking.proofs.PublicGates.{length-input_twins, past-within, publics-ordered, inputs-placed}
use Rattle.masking.proofs.OutputGates.{outs-ordered}
use Rattle.masking.proofs.MaskInputs.{MaskInputs}

-- an input's twin
pub start-twin : (N : Netlist) (codes : List ℕ) (w : ℕ) → w < length codes
    → twin (start N codes) w ≡ get_or (input_twins (input_bits N + 5) 0 codes) w no_twin
start-twin N codes w h = get_or-append (input_twins (input_bits N + 5) 0 codes) _ no_twin w (rw length-input_twins h)

-- the three gates of the masks
mask-ordered : (n : ℕ) → Ordered (n + 2) (mask_gates n) (n + 5)
mask-ordered n =
    let product : n + 3 ≡ n + 2 + 1 = omega arith in
    let or : n + 4 ≡ n + 2 + 1 + 1 = omega arith in
    let five : n + 2 + 1 + 1 + 1 ≡ n + 5 = omega arith in
    let three : Ordered (n + 2) (mask_gates n) (n + 2 + 1 + 1 + 1) =
    step refl (two-below n (n + 1) (n + 2) (omega arith) (omega arith))
    (step product (two-below n (n + 1) (n + 2 + 1) (omega arith) (omega arith))
    (step or (two-below (n + 2) (n + 3) (n + 2 + 1 + 1) (omega arith) (omega arith)) end)) in
    rw five at three

every-snoc : (p : ℕ → Bool) (xs : List ℕ) (x : ℕ) → T (every p xs) → T (p x) → T (every p (xs ++ (x ∷ [])))
every-snoc p [] x s t = pair (p x) true t tt
every-snoc p (y ∷ ys) x s t = let q = both (p y) (every p ys) s in pair (p y) (every p (ys ++ (x ∷ []))) q.0
    (every-snoc p ys x q.1 t)

-- an output's twin is that of its source wire
pub out-twin : (N : Netlist) (codes : List ℕ) (i : ℕ) → get_or (out_twins N codes) i no_twin
    ≡ twin (finish N codes) (N.wires - output_bits N + i)
out-twin N codes i = get_or-drop (N.wires - output_bits N) (finish N codes).twins i no_twin

module _ {N : Netlist} {codes wanted : List ℕ} (C : MaskInputs N codes wanted) where
  -- the state after the three gates, and after all source gates
  pub start-placed : AllPlaced (input_bits N) N.wires [] (start N codes)
  start-placed =
      let l : length codes ≡ input_bits N = C.codes_length in
      let f : input_bits N ≤ N.wires = C.source.inputs_fit in
      let p = past-within (input_bits N + 5) codes in
      record {
        size = simp (length-append, length-input_twins, length-replicate) (omega arith);
        room = omega arith;
        placed = λ w t.
            let h : w < input_bits N = given-none (input_bits N) w t in
            rw (start-twin N codes w (omega arith))
            (inputs-placed (input_bits N) (input_bits N + 5) 0 codes (omega arith) (omega arith) C.codes_good w
            (omega arith));
      }

  finish-placed : AllPlaced (input_bits N) N.wires (results [] N.gates) (finish N codes)
  finish-placed = place-all N.gates C.source.good start-placed

  -- every source wire has a twin
  pub wire-placed : (w : ℕ) → w < N.wires → Placed (finish N codes).next (twin (finish N codes) w)
  wire-placed w h = finish-placed.placed w (every-wire-given C.source w h)

  -- so has every output
  pub length-out_twins : length (out_twins N codes) ≡ output_bits N
  length-out_twins =
      let f : output_bits N ≤ N.wires = C.source.outputs_fit in
      let s : length (finish N codes).twins ≡ N.wires = finish-placed.size in
      rw length-drop (omega arith)

  pub outs-placed : All (Placed (finish N codes).next) (out_twins N codes)
  outs-placed =
      let f : output_bits N ≤ N.wires = C.source.outputs_fit in
      let l = length-out_twins in
      all_from (out_twins N codes) no_twin (λ i h. rw (out-twin N codes i)
      (wire-placed (N.wires - output_bits N + i) (omega arith)))

  -- the gates give the wires after the mask pair, in order
  pub masked-ordered : Ordered (input_bits N + 2) (mask_netlist N codes wanted).netlist.gates
      (mask_netlist N codes wanted).netlist.wires
  unfolding mask_netlist
  masked-ordered =
      let n = input_bits N in
      let c = (finish N codes).next in
      let l = length-out_twins in
      let r : n + 5 ≤ c = finish-placed.room in
      let len : c + length (out_twins N codes) ≡ c + output_bits N = omega arith in
      let k : length codes ≡ n = C.codes_length in
      ordered-append (ordered-append (ordered-append (mask-ordered n)
      (publics-ordered n (n + 5) 0 codes (omega arith) (omega arith)))
      (emit-ordered N.gates C.source.good start-placed))
      (rw len at (outs-ordered n c (out_twins N codes) wanted r outs-placed (C.wanted_length ∙ sym l) C.wanted_good))

  -- the mask pair is two input bits more, and one input value more
  pub masked-input_bits : input_bits (mask_netlist N codes wanted).netlist ≡ input_bits N + 2
  unfolding mask_netlist
  masked-input_bits = sum-snoc N.inputs 2

  pub masked-inputs : length (mask_netlist N codes wanted).netlist.inputs ≡ length N.inputs + 1
  unfolding mask_netlist
  masked-inputs = length-append N.inputs (2 ∷ [])

  pub masked-outputs : (mask_netlist N codes wanted).netlist.outputs ≡ N.outputs
  unfolding mask_netlist
  masked-outputs = refl

  -- its gates pass questions 8 and 9
  masked-good : T (gates_good (input_bits (mask_netlist N codes wanted).netlist)
      (mask_netlist N codes wanted).netlist.wires []
      (mask_netlist N codes wanted).netlist.gates)
  masked-good =
      let M = (mask_netlist N codes wanted).netlist in
      rw masked-input_bits (ordered-good (input_bits N + 2) M.wires M.gates masked-ordered)

  -- the masked netlist is one that questions 4 to 9 admit
  pub masked-well_formed : WellFormed (mask_netlist N codes wanted).netlist
  unfolding mask_netlist
  masked-well_formed =
      let F = C.source in
      let M = (mask_netlist N codes wanted).netlist in
      let r : input_bits N + 5 ≤ (finish N codes).next = finish-placed.room in
      let i : input_bits M ≡ input_bits N + 2 = masked-input_bits in
      let l = ordered-length masked-ordered in
      record {
        some_input = rw length-append (omega arith);
        inputs_positive = every-snoc (leb 1) N.inputs 2 F.inputs_positive tt;
        some_output = F.some_output;
        outputs_positive = F.outputs_positive;
        inputs_fit = omega arith;
        outputs_fit = omega arith;
        gate_count = omega arith;
        good = masked-good;
      }
