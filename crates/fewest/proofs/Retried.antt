-- Trying the next choice: what stands before the first place that moved stays, and the gates from there on are done
-- again in the same table of codes.
use Prim.Native.Nat.{ℕ, zero, suc, ◌+◌, ◌-◌, ◌≤◌, ◌<◌}
use mathlib.Core.Path.{◌≡◌, refl, sym, ap, ap₂, ◌∙◌}
use mathlib.Core.Logic.{◌≢◌}
use mathlib.Core.List.{List, [], ◌∷◌, ◌++◌}
use native.Mathlib.Omega.{arith}
use lib.Dec.{T}
use lib.ListN.{length, get_or, set, take, drop, take-append-drop, length-append, length-map, length-drop, length-set}
use lib.ListN.{length-replicate}
use lib.Seq.{length-take-le, take-length, take-suc, drop-cons, get_or-set_same, get_or-set_other, get_or-take}
use lib.Seq.{get_or-drop, ext_get_or}
use Rattle.netlist.specs.declared.Gate.{Gate}
use Rattle.netlist.specs.declared.Gate.TheVariants.{Xor, And, Inv, Eqw, Eq}
use Rattle.netlist.specs.Netlist.{Netlist, input_bits, output_bits, result}
use Rattle.netlist.specs.Read.{operands_given, is_given, gates_good, WellFormed}
use Rattle.masking.specs.Mask.{third}
use Rattle.netlist.proofs.Tests.{both}
use Rattle.netlist.proofs.GoodGates.{GoodGate, good_gate, fresh-ne, given-none, given-more, given-cases, results}
use Rattle.netlist.proofs.GoodGates.{every-wire-given}
use Rattle.fewest.specs.Choice.{Choice, chosen_gate, chosen_gates, chosen_source, chosen_inputs, Agree}
use Rattle.fewest.specs.Fewest.{changes_under}
use Rattle.fewest.specs.Codes.{code_at, second_code, gate_code, gate_change, coded, coded_all, code_changes, input_code}
use Rattle.fewest.specs.Codes.{first_codes, end_changes, codes_before, changes_before, gates_from, least_before}
use Rattle.fewest.proofs.Chosen.{on-way, chosen-result, chosen-given, chosen-good, length-chosen_codes}
use Rattle.fewest.proofs.Same.{codes_same, gates-same, chosen-append}
use Rattle.fewest.proofs.OnlyCodes.{mask-changes}
use Rattle.fewest.proofs.TwicesLaws.{way-change, twices-changes}

-- ---- gates one after another

pub coded-append : (u : List ℕ) (xs ys : List Gate) → coded_all u (xs ++ ys) ≡ coded_all (coded_all u xs) ys
coded-append u [] ys = refl
coded-append u (x ∷ xs) ys = coded-append (coded u x) xs ys

pub changes-append : (u : List ℕ) (xs ys : List Gate) → code_changes u (xs ++ ys) ≡ code_changes u xs + code_changes
    (coded_all u xs) ys
changes-append u [] ys = omega arith
changes-append u (x ∷ xs) ys = let h = changes-append (coded u x) xs ys in omega arith

-- ---- two tables with the same codes of the given wires

abbrev pub SameGiven : ℕ → List ℕ → List ℕ → List ℕ → Type 0
SameGiven n rs u v = (w : ℕ) → T (is_given n rs w) → code_at u w ≡ code_at v w

-- a gate looks at its operands only
code-looks : (has : ℕ → _) (u v : ℕ → ℕ) (g : Gate) → T (operands_given has g) → ((a : ℕ) → T (has a) → u a ≡ v a)
    → gate_code u g ≡ gate_code v g
code-looks has u v (Xor a b c) t h =
    ap₂ (λ (x y : ℕ). third x (second_code x y)) (h a (both (has a) (has b) t).0) (h b (both (has a) (has b) t).1)
code-looks has u v (And a b c) t h = h a (both (has a) (has b) t).0
code-looks has u v (Inv a c) t h = h a t
code-looks has u v (Eqw a c) t h = h a t
code-looks has u v (Eq k c) t h = refl

change-looks : (has : ℕ → _) (u v : ℕ → ℕ) (g : Gate) → T (operands_given has g) → ((a : ℕ) → T (has a) → u a ≡ v a)
    → gate_change u g ≡ gate_change v g
change-looks has u v (Xor a b c) t h = rw (h a (both (has a) (has b) t).0, h b (both (has a) (has b) t).1)
change-looks has u v (And a b c) t h = rw (h a (both (has a) (has b) t).0, h b (both (has a) (has b) t).1)
change-looks has u v (Inv a c) t h = refl
change-looks has u v (Eqw a c) t h = refl
change-looks has u v (Eq k c) t h = refl

module _ (n W : ℕ) where
  -- each wire is given once: later gates leave the codes of given wires
  pub coded-keeps : (rs : List ℕ) (gs : List Gate) (u : List ℕ) → T (gates_good n W rs gs)
      → SameGiven n rs (coded_all u gs) u
  coded-keeps rs [] u t w h = refl
  coded-keeps rs (g ∷ gs) u t w h =
      let G : GoodGate n W rs g gs = good_gate t in
      coded-keeps (result g ∷ rs) gs (coded u g) G.rest w (given-more n rs (result g) w h)
      ∙ get_or-set_other u (result g) w (gate_code (code_at u) g) 0 (fresh-ne n rs w (result g) h G.low G.fresh)

  -- one gate done in both tables
  same-gate : (rs : List ℕ) (g : Gate) (gs : List Gate) (u v : List ℕ) → GoodGate n W rs g gs → W ≤ length u
      → W ≤ length v
      → SameGiven n rs u v → SameGiven n (result g ∷ rs) (coded u g) (coded v g)
  same-gate rs g gs u v G a b h w t =
      let x = gate_code (code_at u) g in
      let y = gate_code (code_at v) g in
      let r : result g < W = G.high in
      given-cases n rs (result g) w t
      (λ e. rw e (get_or-set_same u (result g) x 0 (omega arith)
      ∙ code-looks (is_given n rs) (code_at u) (code_at v) g G.operands h
      ∙ sym (get_or-set_same v (result g) y 0 (omega arith))))
      (λ ne o. get_or-set_other u (result g) w x 0 ne ∙ h w o ∙ sym (get_or-set_other v (result g) w y 0 ne))

  -- and all gates: the same changes, and the same codes after them
  pub same-changes : (rs : List ℕ) (gs : List Gate) (u v : List ℕ) → T (gates_good n W rs gs) → W ≤ length u
      → W ≤ length v → SameGiven n rs u v
      → code_changes u gs ≡ code_changes v gs
  same-changes rs [] u v t a b h = refl
  same-changes rs (g ∷ gs) u v t a b h =
      let G : GoodGate n W rs g gs = good_gate t in
      let a' : W ≤ length (coded u g) = rw length-set a in
      let b' : W ≤ length (coded v g) = rw length-set b in
      ap₂ (λ (x y : ℕ). x + y) (change-looks (is_given n rs) (code_at u) (code_at v) g G.operands h)
      (same-changes (result g ∷ rs) gs (coded u g) (coded v g) G.rest a' b' (same-gate rs g gs u v G a b h))

  pub same_codes : (rs : List ℕ) (gs : List Gate) (u v : List ℕ) → T (gates_good n W rs gs) → W ≤ length u
      → W ≤ length v → SameGiven n rs u v
      → SameGiven n (results rs gs) (coded_all u gs) (coded_all v gs)
  same_codes rs [] u v t a b h = h
  same_codes rs (g ∷ gs) u v t a b h =
      let G : GoodGate n W rs g gs = good_gate t in
      let a' : W ≤ length (coded u g) = rw length-set a in
      let b' : W ≤ length (coded v g) = rw length-set b in
      same_codes (result g ∷ rs) gs (coded u g) (coded v g) G.rest a' b' (same-gate rs g gs u v G a b h)

  -- the gates after the first i, with the results of those
  good-following : (rs : List ℕ) (i : ℕ) (gs : List Gate) → T (gates_good n W rs gs)
      → T (gates_good n W (results rs (take i gs)) (drop i gs))
  good-following rs zero gs t = t
  good-following rs (suc i) [] t = tt
  good-following rs (suc i) (g ∷ gs) t = let G : GoodGate n W rs g gs = good_gate t in good-following (result g ∷ rs) i
      gs G.rest

results-snoc : (rs : List ℕ) (gs : List Gate) (g : Gate) → results rs (gs ++ (g ∷ [])) ≡ result g ∷ results rs gs
results-snoc rs [] g = refl
results-snoc rs (x ∷ gs) g = results-snoc (result x ∷ rs) gs g

results-chosen : (d : Choice) (p : ℕ) (rs : List ℕ) (gs : List Gate) → results rs (chosen_gates d p gs) ≡ results rs gs
results-chosen d p rs [] = refl
results-chosen d p rs (g ∷ gs) =
    ap (λ (r : ℕ). results (r ∷ rs) (chosen_gates d (suc p) gs)) (chosen-result (d p) g)
    ∙ results-chosen d (suc p) (result g ∷ rs) gs

length-coded_all : (u : List ℕ) (gs : List Gate) → length (coded_all u gs) ≡ length u
length-coded_all u [] = refl
length-coded_all u (g ∷ gs) = length-coded_all (coded u g) gs ∙ length-set u (result g) (gate_code (code_at u) g)

-- ---- an AND whose operands have equal codes

abbrev pub Idle : (ℕ → ℕ) → Gate → Type 0
Idle u (Xor a b c) = Unit {0}
Idle u (And a b c) = u a ≡ u b
Idle u (Inv a c) = Unit {0}
Idle u (Eqw a c) = Unit {0}
Idle u (Eq v c) = Unit {0}

idle-looks : (has : ℕ → _) (u v : ℕ → ℕ) (g : Gate) → T (operands_given has g) → ((a : ℕ) → T (has a) → u a ≡ v a)
    → Idle u g → Idle v g
idle-looks has u v (Xor a b c) t h e = tt
idle-looks has u v (And a b c) t h e = sym (h a (both (has a) (has b) t).0) ∙ e ∙ h b (both (has a) (has b) t).1
idle-looks has u v (Inv a c) t h e = tt
idle-looks has u v (Eqw a c) t h e = tt
idle-looks has u v (Eq k c) t h e = tt

idle_code : (u : ℕ → ℕ) (d : ℕ) (g : Gate) → Idle u g → gate_code u (chosen_gate d g) ≡ gate_code u g
idle_code u d (Xor a b c) e = refl
idle_code u d (And a b c) e = on-way (λ g. gate_code u g ≡ u a) d a b c (sym e) refl
idle_code u d (Inv a c) e = refl
idle_code u d (Eqw a c) e = refl
idle_code u d (Eq v c) e = refl

-- ---- the law of trying again

-- a table that has the codes before gate i, of the wires given before it; what else it holds does not matter
pub record Ready (N : Netlist) (codes : List ℕ) (d : Choice) (i : ℕ) (u : List ℕ) : Type 0 where
  pub long : N.wires ≤ length u
  pub same : SameGiven (input_bits N) (results [] (take i N.gates)) u (codes_before N codes d i)

module _ {N : Netlist} (F : WellFormed N) (codes : List ℕ) (l : length codes ≡ input_bits N) where
  abbrev n : ℕ
  n = input_bits N

  abbrev before : Choice → ℕ → List Gate
  before d i = chosen_gates d n (take i N.gates)

  -- choices that agree before gate i's place: the codes before it are the same, and the changes up to it
  pub before_same : (d f : Choice) (i : ℕ) → i ≤ length N.gates → Agree (input_bits N + i) d f
      → (codes_before N codes d i ≡ codes_before N codes f i)
      × (changes_before N codes d i ≡ changes_before N codes f i)
  before_same d f i b h =
      let es = codes_same d f 0 codes (λ p k. h p (omega arith)) in
      let m = length-take-le i N.gates b in
      let gs = gates-same d f n (take i N.gates) (λ p j k. h p (omega arith)) in (
        ap₂ (λ (x : List ℕ) (y : List Gate). coded_all (first_codes N x) y) es gs,
        ap₂
            (λ (x : List ℕ) (y : List Gate). code_changes (first_codes N x) y) es gs,
      )

  split : (d : Choice) (i : ℕ) → i ≤ length N.gates → chosen_gates d n N.gates ≡ before d i ++ gates_from N d i
  split d i b =
      ap (chosen_gates d n) (sym (take-append-drop i N.gates))
      ∙ chosen-append d n (take i N.gates) (drop i N.gates)
      ∙ ap (λ (k : ℕ). before d i ++ chosen_gates d (n + k) (drop i N.gates)) (length-take-le i N.gates b)

  -- all codes and all changes, from those before gate i
  abbrev all_codes : Choice → List ℕ
  all_codes d = coded_all (first_codes N (chosen_inputs codes d)) (chosen_gates d n N.gates)

  abbrev all_changes : Choice → ℕ
  all_changes d = code_changes (first_codes N (chosen_inputs codes d)) (chosen_gates d n N.gates)

  codes-from : (d : Choice) (i : ℕ) → i ≤ length N.gates → all_codes d ≡ coded_all (codes_before N codes d i)
      (gates_from N d i)
  codes-from d i b = ap (coded_all (first_codes N (chosen_inputs codes d))) (split d i b) ∙ coded-append _ (before d i)
      (gates_from N d i)

  changes-from : (d : Choice) (i : ℕ) → i ≤ length N.gates → all_changes d ≡ changes_before N codes d i + code_changes
      (codes_before N codes d i) (gates_from N d i)
  changes-from d i b = ap (code_changes (first_codes N (chosen_inputs codes d))) (split d i b)
      ∙ changes-append _ (before d i) (gates_from N d i)

  -- gates from i on are good after the results of those before
  good-from : (d : Choice) (i : ℕ) → T (gates_good (input_bits N) N.wires (results [] (take i N.gates))
      (gates_from N d i))
  good-from d i =
      rw (chosen-good d (n + i) n N.wires (results [] (take i N.gates)) (drop i N.gates))
      (good-following n N.wires [] i N.gates F.good)

  length-first : (d : Choice) → length (first_codes N (chosen_inputs codes d)) ≡ N.wires
  length-first d =
      let i : input_bits N ≤ N.wires = F.inputs_fit in
      let m = length-map (chosen_inputs codes d) input_code in
      let k = length-chosen_codes d 0 codes in
      simp (length-append, length-replicate) (omega arith)

  -- one gate more
  before-next : (d : Choice) (i : ℕ) (z : Gate) → i < length N.gates → before d (suc i) ≡ before d i
      ++ (chosen_gate (d (input_bits N + i)) (get_or N.gates i z) ∷ [])
  before-next d i z b =
      ap (chosen_gates d n) (take-suc N.gates i z b) ∙ chosen-append d n (take i N.gates) (get_or N.gates i z ∷ [])
      ∙ ap (λ (k : ℕ). before d i ++ (chosen_gate (d (n + k)) (get_or N.gates i z) ∷ []))
      (length-take-le i N.gates (omega arith))

  pub codes-next : (d : Choice) (i : ℕ) (z : Gate) → i < length N.gates
      → codes_before N codes d (suc i) ≡ coded (codes_before N codes d i)
      (chosen_gate (d (input_bits N + i)) (get_or N.gates i z))
  codes-next d i z b = ap (coded_all (first_codes N (chosen_inputs codes d))) (before-next d i z b)
      ∙ coded-append _ (before d i) _

  pub changes-next : (d : Choice) (i : ℕ) (z : Gate) → i < length N.gates
      → changes_before N codes d (suc i) ≡ changes_before N codes d i +
      (gate_change (code_at (codes_before N codes d i))
      (chosen_gate (d (input_bits N + i)) (get_or N.gates i z)) + 0)
  changes-next d i z b = ap (code_changes (first_codes N (chosen_inputs codes d))) (before-next d i z b)
      ∙ changes-append _ (before d i) _

  -- gate i is good after the results of those before, and its result is given with them
  gate-good : (d : Choice) (i : ℕ) (z : Gate) → i < length N.gates
      → GoodGate n N.wires (results [] (take i N.gates)) (chosen_gate (d (input_bits N + i)) (get_or N.gates i z))
      (gates_from N d (suc i))
  gate-good d i z b =
      let s : input_bits N + suc i ≡ suc (input_bits N + i) = omega arith in
      let cons : gates_from N d i ≡ chosen_gate (d (n + i)) (get_or N.gates i z) ∷ gates_from N d (suc i) =
      ap (chosen_gates d (n + i)) (drop-cons N.gates i z b)
      ∙ ap (λ (p : ℕ). chosen_gate (d (n + i)) (get_or N.gates i z) ∷ chosen_gates d p (drop (suc i) N.gates)) (sym s)
      in
      good_gate (rw cons at (good-from d i))

  results_next : (d : Choice) (i : ℕ) (z : Gate) → i < length N.gates
      → results [] (take (suc i) N.gates) ≡ result (chosen_gate (d (input_bits N + i)) (get_or N.gates i z)) ∷ results
      [] (take i N.gates)
  results_next d i z b =
      ap (results []) (take-suc N.gates i z b) ∙ results-snoc [] (take i N.gates) (get_or N.gates i z)
      ∙ ap (λ (r : ℕ). r ∷ results [] (take i N.gates)) (sym (chosen-result (d (n + i)) (get_or N.gates i z)))

  -- a table with the inputs' codes is ready for the first gate
  pub ready-first : (d : Choice) (u : List ℕ) → N.wires ≤ length u
      → ((w : ℕ) → w < input_bits N → code_at u w ≡ code_at (first_codes N (chosen_inputs codes d)) w)
      → Ready N codes d 0 u
  ready-first d u b h = record { long = b; same = λ w t. h w (given-none n w t) }

  -- the place in the table is redone: one gate more
  pub ready-next : (d : Choice) (i : ℕ) (u : List ℕ) (z : Gate) → i < length N.gates → Ready N codes d i u
      → Ready N codes d (suc i) (coded u (chosen_gate (d (input_bits N + i)) (get_or N.gates i z)))
      × (changes_before N codes d (suc i) ≡ changes_before N codes d i + gate_change (code_at u)
      (chosen_gate (d (input_bits N + i)) (get_or N.gates i z)))
  ready-next d i u z b R =
      let g = chosen_gate (d (n + i)) (get_or N.gates i z) in
      let rs = results [] (take i N.gates) in
      let v = codes_before N codes d i in
      let lv : length v ≡ N.wires = length-coded_all (first_codes N (chosen_inputs codes d)) (before d i)
      ∙ length-first d in
      let G = gate-good d i z b in
      let changes' = changes-next d i z b in
      let same = change-looks (is_given n rs) (code_at u) (code_at v) g G.operands R.same in (
        record {
          long = rw length-set R.long;
          same = rw (results_next d i z b, codes-next d i z b)
              (same-gate n N.wires rs g (gates_from N d (suc i)) u v G R.long (omega arith) R.same);
        },
        omega arith,
      )

  -- whether a gate is idle can be told from the table
  pub ready-idle : (d : Choice) (i : ℕ) (u : List ℕ) (z : Gate) → i < length N.gates → Ready N codes d i u
      → Idle (code_at u) (get_or N.gates i z)
      → Idle (code_at (codes_before N codes d i)) (get_or N.gates i z)
  ready-idle d i u z b R e =
      let g = get_or N.gates i z in
      let G = gate-good d i z b in
      let has = is_given n (results [] (take i N.gates)) in
      idle-looks has (code_at u) (code_at (codes_before N codes d i)) g
      (rw (chosen-given has (d (n + i)) g) at G.operands) R.same e

  -- a table that is ready for a gate is ready for each one before it: each wire is given once
  ready-before : (d : Choice) (i e : ℕ) (u : List ℕ) → i + e ≤ length N.gates → Ready N codes d (i + e) u
      → Ready N codes d i u
  ready-before d i zero u b R = let z : i + 0 ≡ i = omega arith in rw z at R
  ready-before d i (suc e) u b R =
      let no_gate : Gate = Eq 0 0 in
      let k = i + e in
      let s : i + suc e ≡ suc (i + e) = omega arith in
      let rs = results [] (take k N.gates) in
      let g = chosen_gate (d (n + k)) (get_or N.gates k no_gate) in
      let v = codes_before N codes d k in
      let G = gate-good d k no_gate (omega arith) in
      let R' : Ready N codes d (suc k) u = rw s at R in
      ready-before d i e u (omega arith) (record {
        long = R.long;
        same = λ w t.
            R'.same w (rw (results_next d k no_gate (omega arith)) (given-more n rs (result g) w t))
            ∙ ap (λ (x : List ℕ). code_at x w) (codes-next d k no_gate (omega arith))
            ∙ get_or-set_other v (result g) w (gate_code (code_at v) g) 0 (fresh-ne n rs w (result g) t G.low G.fresh);
      })

  -- and so, from gate i on, for every choice that agrees before gate i's place
  pub ready-again : (d f : Choice) (i k : ℕ) (u : List ℕ) → i ≤ k → k ≤ length N.gates → Agree (input_bits N + i) d f
      → Ready N codes d k u → Ready N codes f i u
  ready-again d f i k u h b a R =
      let z : k ≡ i + (k - i) = omega arith in
      let R' = ready-before d i (k - i) u (omega arith) (rw z at R) in
      record {
        long = R.long;
        same = λ w t. R'.same w t ∙ ap (λ (v : List ℕ). code_at v w)
            (before_same d f i (omega arith) a).0;
      }

  -- then the changes up to the last gate and those of the outputs are the changes of the choice
  pub ready-changes : (wanted : List ℕ) (d : Choice) (u : List ℕ) → Ready N codes d (length N.gates) u
      → changes_under N codes wanted d
      ≡ changes_before N codes d (length N.gates) + end_changes
      (take (output_bits N) (drop (N.wires - output_bits N) u)) wanted
  ready-changes wanted d u R =
      let whole = take-length N.gates in
      let o : output_bits N ≤ N.wires = F.outputs_fit in
      let la : length (all_codes d) ≡ N.wires = length-coded_all (first_codes N (chosen_inputs codes d))
      (chosen_gates d n N.gates) ∙ length-first d in
      let lu : N.wires ≤ length u = R.long in
      let lw : output_bits N ≤ length (drop (N.wires - output_bits N) u) = rw length-drop (omega arith) in
      let ends : drop (N.wires - output_bits N) (all_codes d) ≡ take (output_bits N) (drop (N.wires - output_bits N) u)
      =
      ext_get_or 0 (drop (N.wires - output_bits N) (all_codes d))
      (take (output_bits N) (drop (N.wires - output_bits N) u))
      (length-drop (N.wires - output_bits N) (all_codes d) ∙
      omega (arith, length-take-le (output_bits N) (drop (N.wires - output_bits N) u) lw))
      (λ j h. at d u R j (rw length-drop at h)) in
      mask-changes (chosen_source N d) (chosen_inputs codes d) wanted
      ∙ ap₂ (λ (a : ℕ) (es : List ℕ). a + end_changes es wanted)
      (ap (λ (gs : List Gate). code_changes (first_codes N (chosen_inputs codes d)) (chosen_gates d n gs)) (sym whole))
      ends
    where
      at : (d : Choice) (u : List ℕ) → Ready N codes d (length N.gates) u → (j : ℕ) → j < length (all_codes d) -
          (N.wires - output_bits N)
          → get_or (drop (N.wires - output_bits N) (all_codes d)) j 0
          ≡ get_or (take (output_bits N) (drop (N.wires - output_bits N) u)) j 0
      at d u R j h =
          let k = N.wires - output_bits N in
          let o : output_bits N ≤ N.wires = F.outputs_fit in
          let la : length (all_codes d) ≡ N.wires = length-coded_all (first_codes N (chosen_inputs codes d))
          (chosen_gates d n N.gates) ∙ length-first d in
          let whole = take-length N.gates in
          get_or-drop k (all_codes d) j 0
          ∙ sym (R.same (k + j) (rw whole (every-wire-given F (k + j) (omega arith)))
          ∙ ap (λ (gs : List Gate). code_at (coded_all (first_codes N (chosen_inputs codes d)) (chosen_gates d n gs))
          (k + j)) whole)
          ∙ sym (get_or-take (output_bits N) (drop k u) j 0 (omega arith) ∙ get_or-drop k u j 0)

  -- ---- what need not be tried: choices that agree before gate i's place cost the changes up to it at least, and one
  -- for each gate from there on that names one wire twice
  pub up-to-least : (wanted : List ℕ) (d f : Choice) (i : ℕ) → i ≤ length N.gates → Agree (input_bits N + i) d f
      → least_before N codes d i ≤ changes_under N codes wanted f
  up-to-least wanted d f i b a =
      let s = (before_same d f i b a).1 in
      let m = mask-changes (chosen_source N f) (chosen_inputs codes f) wanted in
      let k = changes-from f i b in
      let t = twices-changes (codes_before N codes f i) f (n + i) (drop i N.gates) in
      omega arith

  -- and an AND whose operands have equal codes costs the same both ways
  pub idle-swap : (wanted : List ℕ) (d f : Choice) (i : ℕ) (z : Gate) → i < length N.gates
      → ((q : ℕ) → q ≢ input_bits N + i → d q ≡ f q)
      → Idle (code_at (codes_before N codes d i)) (get_or N.gates i z) → changes_under N codes wanted d
      ≡ changes_under N codes wanted f
  idle-swap wanted d f i z b a e =
      let g = get_or N.gates i z in
      let B = before_same d f i (omega arith) (λ p k. a p (λ q. omega arith)) in
      let v = codes_before N codes d i in
      let u : codes_before N codes d (suc i) ≡ codes_before N codes f (suc i) =
      codes-next d i z b
      ∙ ap₂ (λ (r c : ℕ). set v r c) (chosen-result (d (n + i)) g ∙ sym (chosen-result (f (n + i)) g))
      (idle_code (code_at v) (d (n + i)) g e ∙ sym (idle_code (code_at v) (f (n + i)) g e))
      ∙ ap (λ (v : List ℕ). coded v (chosen_gate (f (n + i)) g)) B.0 ∙ sym (codes-next f i z b) in
      let c : changes_before N codes d (suc i) ≡ changes_before N codes f (suc i) =
      changes-next d i z b
      ∙ ap₂ (λ (k m : ℕ). k + (m + 0)) B.1
      (way-change (code_at v) (d (n + i)) g ∙ sym (way-change (code_at v) (f (n + i)) g)
      ∙ ap (λ (v : List ℕ). gate_change (code_at v) (chosen_gate (f (n + i)) g)) B.0)
      ∙ sym (changes-next f i z b) in
      let gs : gates_from N d (suc i) ≡ gates_from N f (suc i) = gates-same d f (n + suc i) (drop (suc i) N.gates)
      (λ q k m. a q (λ e. omega arith)) in
      mask-changes (chosen_source N d) (chosen_inputs codes d) wanted
      ∙ ap₂ (λ (k : ℕ) (w : List ℕ). k + end_changes (drop (N.wires - output_bits N) w) wanted)
      (changes-from d (suc i) b ∙ ap₂ (λ (k m : ℕ). k + m) c (ap₂ code_changes u gs) ∙ sym (changes-from f (suc i) b))
      (codes-from d (suc i) b ∙ ap₂ coded_all u gs ∙ sym (codes-from f (suc i) b))
      ∙ sym (mask-changes (chosen_source N f) (chosen_inputs codes f) wanted)
