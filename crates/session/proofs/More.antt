-- Masking a list with one gate more: its masked gates follow, and the twin of its result.
use Prim.Native.Nat.{ℕ, ◌+◌, ◌*◌, ◌≤◌}
use mathlib.Core.Path.{◌≡◌, refl, sym, ap, ap₂, ◌∙◌}
use mathlib.Core.List.{List, [], ◌∷◌, ◌++◌, append_assoc}
use native.Mathlib.Omega.{arith}
use lib.Dec.{eqb}
use lib.ListN.{length, set, replicate, length-append, length-replicate, replicate-append-replicate}
use lib.Seq.{set_at}
use Rattle.netlist.specs.declared.Gate.{Gate}
use Rattle.netlist.specs.declared.Twin.{Twin}
use Rattle.netlist.specs.Netlist.{result}
use Rattle.masking.specs.Mask.{State, no_twin, input_twins, mask_gates, public_gates, past_publics, emit, result_twin}
use Rattle.masking.specs.Mask.{advance, emit_all, advance_all}
use Rattle.netlist.proofs.Tests.{on_bool}
use Rattle.masking.proofs.GateCount.{next-emit_all, next-most}
use Rattle.masking.proofs.PublicGates.{length-input_twins, past-within}
use Rattle.session.specs.Afresh.{open_gates, opened, afresh, following}
use Rattle.session.specs.Rows.{Rising}
use Rattle.session.proofs.Padded.{pad, pad-alike, emit-alike, twin-alike, advance_all-pad, emit_all-pad}
use Rattle.session.proofs.Padded.{length-advance_all}

emit_all-more : (n : ℕ) (S : State) (gs : List Gate) (g : Gate) → emit_all n S (gs ++ (g ∷ [])) ≡ emit_all n S gs
    ++ emit n (advance_all S gs) g
emit_all-more n S [] g = append-nil (emit n S g)
  where
    append-nil : (l : List Gate) → l ++ [] ≡ l
    append-nil [] = refl
    append-nil (x ∷ xs) = ap (λ (r : List Gate). x ∷ r) (append-nil xs)
emit_all-more n S (h ∷ gs) g = ap (λ (r : List Gate). emit n S h ++ r) (emit_all-more n (advance S h) gs g) ∙ sym
    (append_assoc (emit n S h) (emit_all n (advance S h) gs) (emit n (advance_all (advance S h) gs) g))

advance_all-more : (S : State) (gs : List Gate) (g : Gate) → advance_all S (gs ++ (g ∷ [])) ≡ advance (advance_all S gs)
    g
advance_all-more S [] g = refl
advance_all-more S (h ∷ gs) g = advance_all-more (advance S h) gs g

module _ (codes : List ℕ) where
  abbrev n : ℕ
  n = length codes

  pub length-opened : (m : ℕ) → length (opened codes m).twins ≡ n + m
  length-opened m = length-append (input_twins (n + 5) 0 codes) (replicate m no_twin)
      ∙ ap₂ (λ (x y : ℕ). x + y) (length-input_twins (n + 5) 0 codes)
      (length-replicate m no_twin)

  -- an entry for each wire
  pub length-following : (gs : List Gate) → length (following codes gs).twins ≡ n + length gs
  length-following gs = length-advance_all (opened codes (length gs)) gs ∙ length-opened (length gs)

  opened-more : (m : ℕ) → opened codes (m + 1) ≡ pad 1 (opened codes m)
  opened-more m =
      ap (λ (ts : List Twin). record { next = (opened codes m).next; twins = ts })
      (ap (λ (r : List Twin). input_twins (n + 5) 0 codes ++ r) (sym (replicate-append-replicate m 1 no_twin))
      ∙ sym (append_assoc (input_twins (n + 5) 0 codes) (replicate m no_twin) (replicate 1 no_twin)))

  module _ (gs : List Gate) (g : Gate) (r : Rising n gs) where
    opened_one : opened codes (length (gs ++ (g ∷ []))) ≡ pad 1 (opened codes (length gs))
    opened_one = ap (opened codes) (length-append gs (g ∷ [])) ∙ opened-more (length gs)

    fits : n + length gs ≤ length (opened codes (length gs)).twins
    fits = omega (arith, length-opened (length gs))

    -- the state in which the gate is masked
    at-gate : advance_all (opened codes (length (gs ++ (g ∷ [])))) gs ≡ pad 1 (following codes gs)
    at-gate = ap (λ (S : State). advance_all S gs) opened_one ∙ advance_all-pad 1 n (opened codes (length gs)) gs r fits

    pub afresh-more : afresh codes (gs ++ (g ∷ [])) ≡ afresh codes gs ++ emit n (following codes gs) g
    afresh-more =
        ap (λ (x : List Gate). open_gates codes ++ x)
        (emit_all-more n (opened codes (length (gs ++ (g ∷ [])))) gs g
        ∙ ap₂ (λ (x y : List Gate). x ++ y)
        (ap (λ (S : State). emit_all n S gs) opened_one ∙ emit_all-pad n 1 n (opened codes (length gs)) gs r fits)
        (ap (λ (S : State). emit n S g) at-gate ∙ emit-alike (pad 1 (following codes gs)) (following codes gs) refl n g
        (pad-alike 1 (following codes gs) g)))
        ∙ sym (append_assoc (open_gates codes) (emit_all n (opened codes (length gs)) gs)
        (emit n (following codes gs) g))

    pub after_more : result g ≡ n + length gs
        → following codes (gs ++ (g ∷ [])) ≡ record {
          next = (result_twin (following codes gs) g).wire + 1;
          twins = (following codes gs).twins ++
              (result_twin (following codes gs) g ∷ []);
        }
    after_more e =
        advance_all-more (opened codes (length (gs ++ (g ∷ [])))) gs g
        ∙ ap (λ (S : State). advance S g) at-gate
        ∙ ap (λ (t : Twin). record {
          next = t.wire + 1;
          twins = set ((following codes gs).twins ++ (no_twin ∷ []))
              (result g) t;
        })
        (twin-alike (pad 1 (following codes gs)) (following codes gs) refl g (pad-alike 1 (following codes gs) g))
        ∙ ap (λ (ts : List Twin). record { next = (result_twin (following codes gs) g).wire + 1; twins = ts })
        (set_at (following codes gs).twins no_twin [] (result_twin (following codes gs) g) (result g)
        (length-following gs ∙ sym e))

-- the wires after the public bits' gates
pub past-publics : (n c w : ℕ) (es : List ℕ) → past_publics c es ≡ c + length (public_gates n c w es)
past-publics n c w [] = omega arith
past-publics n c w (e ∷ es) = on_bool (eqb e 0)
    (λ t. rw t (omega (arith, past-publics n (c + 1) (w + 1) es)))
    (λ t. rw t (past-publics n c (w + 1) es))

module _ (codes : List ℕ) (gs : List Gate) where
  -- the next wire follows the masked gates
  pub next-following : (following codes gs).next ≡ length codes + (2 + length (afresh codes gs))
  next-following =
      let m = length codes in
      let p = public_gates m (m + 5) 0 codes in
      omega (
        arith,
        next-emit_all m (opened codes (length gs)) gs,
        past-publics m (m + 5) 0 codes,
        length-append (mask_gates m) p,
        length-append (open_gates codes) (emit_all m (opened codes (length gs)) gs),
      )

  -- there are at most eight for each gate, one for each input bit and three
  pub afresh-most : length (afresh codes gs) ≤ 3 + length codes + 8 * length gs
  afresh-most = omega (
    arith,
    next-following,
    next-most (opened codes (length gs)) gs,
    (past-within (length codes + 5) codes).1,
  )
