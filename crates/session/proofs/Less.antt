-- Taking off keeps what the lists hold.
use Prim.Native.Nat.{ℕ, ◌+◌, ◌-◌, ◌≤◌}
use mathlib.Core.Path.{◌≡◌, sym, ap, ◌∙◌}
use mathlib.Core.List.{List, [], ◌∷◌, ◌++◌, map}
use native.Mathlib.Omega.{arith}
use lib.ListN.{length, get_or, take, length-append, length-map}
use lib.Seq.{take-take, take-append_seam, take-append-le}
use Rattle.netlist.specs.declared.Gate.{Gate}
use Rattle.netlist.specs.declared.Sizes.{Sizes}
use Rattle.netlist.specs.Netlist.{result}
use Rattle.masking.specs.Mask.{State, emit, result_twin}
use Rattle.gates.specs.Records.{record_of, blank_source, gate_in}
use Rattle.session.specs.Afresh.{afresh, following}
use Rattle.session.specs.Lists.{Lists, lists_of, present, shorter}
use Rattle.session.specs.Rows.{Rising, Holds}
use Rattle.session.proofs.More.{afresh-more, after_more, length-following}
use Rattle.session.proofs.Keeps.{map_more, length_more}

-- the front of what stands in front
front_of : {A : Type 0} (k : ℕ) (l xs ys : List A) → length xs ≤ k → take k l ≡ xs ++ ys → take (length xs) l ≡ xs
front_of k l xs ys le e = sym (take-take (length xs) k l le) ∙ ap (take (length xs)) e ∙ take-append_seam xs ys

rising-less : (w : ℕ) (gs : List Gate) (g : Gate) → Rising w (gs ++ (g ∷ [])) → Rising w gs × (result g ≡ w + length gs)
rising-less w [] g r = (tt, omega (arith, r.0))
rising-less w (h ∷ gs) g r = let q = rising-less (w + 1) gs g r.1 in ((r.0, q.0), omega (arith, q.1))

-- a list has a last gate, or none
pub data Last : List Gate → Type 0 where
  nothing : Last []
  last : (gs : List Gate) (g : Gate) → Last (gs ++ (g ∷ []))

pub last_of : (gs : List Gate) → Last gs
last_of [] = nothing
last_of (g ∷ gs) = go g (last_of gs)
  where
    go : {gs : List Gate} (g : Gate) → Last gs → Last (g ∷ gs)
    go g nothing = last [] g
    go g (last hs k) = last (g ∷ hs) k

module _ (z : Sizes) (codes : List ℕ) (hs : List Gate) (g : Gate) (L : Lists) (h : Holds z codes (hs ++ (g ∷ [])) L)
  where
    abbrev n : ℕ
    n = length codes

    r : Rising n hs × (result g ≡ n + length hs)
    r = rising-less n hs g h.rising

    many : length (hs ++ (g ∷ [])) ≡ length hs + 1
    many = length_more hs g

    place : L.session.gates - 1 ≡ length hs
    place = omega (arith, h.gates, many)

    pub taken_off-holds : Holds z codes hs (lists_of (shorter L.session L.source) L.source L.masked)
    taken_off-holds = record {
      gates = place;
      masked =
          ap (λ (i : ℕ). (get_or L.source i blank_source).from) place
          ∙ h.froms (length hs) (omega (arith, many))
          ∙ ap (λ (gs : List Gate). length (afresh codes gs)) (take-append_seam hs (g ∷ []));
      sources = ap (λ (k : ℕ). take k (map gate_in L.source)) (sym (length-map hs record_of))
          ∙ front_of (length (hs ++ (g ∷ []))) (map gate_in L.source) (map record_of hs) (record_of g ∷ [])
          (omega (arith, many, length-map hs record_of))
          (h.sources ∙ map_more record_of hs (g ∷ []));
      maskeds =
          let e = afresh-more codes hs g r.0 in
          let s = emit n (following codes hs) g in
          ap (λ (k : ℕ). take k L.masked) (sym (length-map (afresh codes hs) record_of))
          ∙ front_of (length (afresh codes (hs ++ (g ∷ [])))) L.masked (map record_of (afresh codes hs))
          (map record_of s)
          (omega (arith, length-map (afresh codes hs) record_of, ap length e, length-append (afresh codes hs) s))
          (h.maskeds ∙ ap (map record_of) e ∙ map_more record_of (afresh codes hs) s);
      twins =
          let e = h.twins ∙ ap (λ (S : State). S.twins) (after_more codes hs g r.0 r.1) in
          ap (λ (k : ℕ). take k (present codes L).twins) (sym (length-following codes hs))
          ∙ front_of (n + length (hs ++ (g ∷ []))) (present codes L).twins (following codes hs).twins
          (result_twin (following codes hs) g ∷ [])
          (omega (arith, many, length-following codes hs)) e;
      froms = λ i l. h.froms i (omega (arith, l, many)) ∙ ap (λ (gs : List Gate). length (afresh codes gs))
          (take-append-le i hs (g ∷ []) (omega (arith, l)));
      rising = r.0;
      within = omega (arith, h.within, many);
    }
