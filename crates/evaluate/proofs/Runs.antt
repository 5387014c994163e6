-- A run from its input wires' words to its output wires' words, lane by lane.
use mathlib.Core.Path.{◌≡◌, refl, sym, ap, ap₂, ◌∙◌}
use mathlib.Core.Bool.{Bool, false}
use mathlib.Core.List.{List, [], ◌∷◌, ◌++◌, append-nil, map}
use Prim.Native.Nat.{ℕ, zero, suc, ◌+◌, ◌-◌, ◌^◌, ◌≤◌, ◌<◌}
use native.Mathlib.Omega.{arith}
use lib.ListN.{length, get_or, take, drop, replicate, length-map, length-drop, drop_of_length-le}
use lib.Seq.{sets, length-sets, length-take-le, take_all, get_or-drop}
use borrow.Rule.Slice.PartMut.{put_mid, mid_of, mid_len, Post-is}
use Rattle.netlist.specs.Netlist.{Netlist}
use Rattle.netlist.specs.Eval.{run_gates, wire_bits, outputs_of, bit}
use Rattle.netlist.specs.Services.{is_one, bools, output_list}
use Rattle.netlist.specs.Table.{Tables, gates_of, Holds}
use Rattle.netlist.proofs.Answering.{take-sets}
use Rattle.evaluate.specs.Lane.{lane, lanes, output_words}
use Rattle.evaluate.specs.Bare.{bare}
use Rattle.evaluate.proofs.Lanes.{lane-zero, lane-bit}
use Rattle.evaluate.proofs.Fronts.{bits-long}
use Rattle.evaluate.proofs.Words.{words-known}

lanes-zeros : (j : ℕ) (ws : List ℕ) (k : ℕ) → lanes j (ws ++ replicate k 0) ≡ lanes j ws ++ replicate k false
lanes-zeros j [] zero = refl
lanes-zeros j [] (suc k) = ap₂ (λ (b : Bool) (l : List Bool). b ∷ l) (lane-zero j) (lanes-zeros j [] k)
lanes-zeros j (w ∷ ws) k = ap (λ (l : List Bool). lane j w ∷ l) (lanes-zeros j ws k)

lanes-drop : (j n : ℕ) (ws : List ℕ) → lanes j (drop n ws) ≡ drop n (lanes j ws)
lanes-drop j zero ws = refl
lanes-drop j (suc n) [] = refl
lanes-drop j (suc n) (w ∷ ws) = lanes-drop j n ws

lanes-bits : (bs : List Bool) → lanes 0 (map bit bs) ≡ bs
lanes-bits [] = refl
lanes-bits (b ∷ bs) = ap₂ (λ (x : Bool) (l : List Bool). x ∷ l) (lane-bit b) (lanes-bits bs)

-- the words after the inputs are set to zero, and the gates run
module _ (t : Tables) (n ins : ℕ) (ws zs us : List ℕ) (room : ins ≤ length ws)
    (cleared : zs ≡ replicate (length (mid_of ins (length ws - ins) ws)) 0)
  where
    start : put_mid ins (length ws - ins) ws zs ≡ take ins ws ++ replicate (length ws - ins) 0
    start =
        let e : drop (length ws) ws ≡ [] = drop_of_length-le ws {i = length ws} (omega arith) in
        let m = mid_len ins (length ws) ws (omega arith) in
        ap₂ (λ (z r : List ℕ). take ins ws ++ (z ++ r)) (cleared ∙ ap (λ (k : ℕ). replicate k 0) m)
        (Post-is ins (length ws) ws room ∙ e)
        ∙ ap (λ (z : List ℕ). take ins ws ++ z) (append-nil (replicate (length ws - ins) 0))

    pub wires-law : (j : ℕ) → lanes j us ≡ run_gates (lanes j (put_mid ins (length ws - ins) ws zs)) (gates_of t n)
        → lanes j us ≡ wire_bits (bare t n (length ws)) (lanes j (take ins ws))
    unfolding wire_bits
    wires-law j ran =
        let long : length (lanes j (take ins ws)) ≡ ins = length-map (take ins ws) (lane j) ∙ length-take-le ins ws room
        in
        rw long (ran ∙ ap (λ (v : List Bool). run_gates v (gates_of t n))
        (ap (lanes j) start ∙ lanes-zeros j (take ins ws) (length ws - ins)))

-- the header of a netlist does not matter to its wires
pub bare-wires : {t : Tables} {m W n o : ℕ} {N : Netlist} → Holds t m W n o N → (x : List Bool)
    → wire_bits (bare t m W) x ≡ wire_bits N x
unfolding wire_bits
bare-wires h x = rw (h.gates, h.wires)

-- the words of the last o wires, as a part of all words
abbrev last : ℕ → List ℕ → List ℕ
last o us = mid_of (length us - o) (length us - (length us - o)) us

-- a list laid over the words, and the run
module _ (ws list laid us : List ℕ) {t : Tables} {n m o : ℕ} {N : Netlist} (h : Holds t n (length ws) m o N)
    (front : laid ≡ sets ws 0 list) (fits : length list ≤ length ws) (long : length us ≡ length ws)
    (room : o ≤ length ws) where
  last-long : length (last o us) ≡ o
  last-long = mid_len (length us - o) (length us) us (omega arith) ∙ omega arith

  last-drop : last o us ≡ drop (length us - o) us
  last-drop =
      let l = length-drop (length us - o) us in
      take_all (length us - (length us - o)) (drop (length us - o) us) (omega arith)

  outputs-law : (j : ℕ) → lanes j us ≡ wire_bits (bare t n (length laid)) (lanes j (take (length list) laid))
      → lanes j (last o us) ≡ outputs_of N (lanes j list)
  unfolding outputs_of
  outputs-law j ran =
      let in_all : wire_bits (bare t n (length laid)) (lanes j (take (length list) laid))
      ≡ wire_bits (bare t n (length ws)) (lanes j list) =
      ap₂ (λ (k : ℕ) (x : List ℕ). wire_bits (bare t n k) (lanes j x)) (ap length front ∙ length-sets ws 0 list)
      (ap (take (length list)) front ∙ take-sets list ws fits) in
      let out : drop (length ws - o) (wire_bits N (lanes j list)) ≡ outputs_of N (lanes j list)
      = rw (h.wires, h.outs) in
      ap (lanes j) last-drop ∙ lanes-drop j (length us - o) us
      ∙ ap₂ (λ (k : ℕ) (v : List Bool). drop (k - o) v) long (ran ∙ in_all ∙ bare-wires h (lanes j list)) ∙ out

  -- sixty-four runs
  pub wide-law : (copied : List ℕ) → ((i : ℕ) → get_or us i 0 < 2 ^ 64)
      → ((j : ℕ) → j < 64 → lanes j us ≡ wire_bits (bare t n (length laid)) (lanes j (take (length list) laid)))
      → copied ≡ last o us → copied ≡ output_words N list
  wide-law copied fits ran e =
      e ∙ words-known N list (last o us) (last-long ∙ sym h.outs)
      (λ i l. rw (last-drop, get_or-drop (length us - o) us i 0) (fits (length us - o + i)))
      (λ j l. outputs-law j (ran j l))

-- one run, on the bits of a list, in lane 0
pub single-law : (ws bits laid us out : List ℕ) {t : Tables} {n m o : ℕ} {N : Netlist} → Holds t n (length ws) m o N
    → laid ≡ sets ws 0 (map bit (bools bits)) → length bits ≤ length ws → length us ≡ length ws → o ≤ length ws
    → lanes 0 us ≡ wire_bits (bare t n (length laid)) (lanes 0 (take (length bits) laid))
    → out ≡ map bit (lanes 0 (last o us)) → out ≡ output_list N bits
single-law ws bits laid us out {t} {n} {N = N} h front fits long room ran e =
    let k = bits-long is_one bits in
    let ran_bits : lanes 0 us ≡ wire_bits (bare t n (length laid)) (lanes 0 (take (length (map bit (bools bits))) laid))
    = rw k ran in
    e ∙ ap (map bit)
    (outputs-law ws (map bit (bools bits)) laid us h front (omega arith) long room 0 ran_bits
    ∙ ap (outputs_of N) (lanes-bits (bools bits)))
