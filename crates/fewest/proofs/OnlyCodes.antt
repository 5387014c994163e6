-- Only the codes decide the changes: the masker's state and its changes, told by codes alone.
use Prim.Native.Nat.{ℕ, zero, suc, ◌+◌, ◌-◌}
use mathlib.Core.Path.{◌≡◌, refl, sym, ap, ap₂, ◌∙◌}
use mathlib.Core.List.{List, [], ◌∷◌, ◌++◌, map}
use lib.Dec.{eqb}
use lib.ListN.{set, drop, replicate, get_or-map}
use Rattle.netlist.specs.declared.Gate.{Gate}
use Rattle.netlist.specs.declared.Gate.TheVariants.{Xor, And, Inv, Eqw, Eq}
use Rattle.netlist.specs.declared.Twin.{Twin}
use Rattle.netlist.specs.Netlist.{Netlist, input_bits, output_bits, result}
use Rattle.masking.specs.Mask.{is_public, input_twin, input_twins, past_public, no_twin, State, twin, result_twin}
use Rattle.masking.specs.Mask.{advance, advance_all, start, finish, out_twins, changed, third}
use Rattle.netlist.proofs.Tests.{on_bool}
use Rattle.masking.specs.Changes.{one_change, changed_operands, output_change, changed_outputs, mask_changes}
use Rattle.fewest.specs.Codes.{code_at, second_code, gate_code, gate_change, coded, coded_all, code_changes, input_code}
use Rattle.fewest.specs.Codes.{first_codes, end_changes}

abbrev pub code_of : Twin → ℕ
code_of t = t.code

-- the codes of the masker's state
abbrev pub codes_of : State → List ℕ
codes_of S = map code_of S.twins

code-at : (S : State) (w : ℕ) → code_at (codes_of S) w ≡ (twin S w).code
code-at S w = get_or-map code_of S.twins w no_twin

map-set : (f : Twin → ℕ) (ts : List Twin) (i : ℕ) (t : Twin) → map f (set ts i t) ≡ set (map f ts) i (f t)
map-set f [] i t = refl
map-set f (x ∷ ts) zero t = refl
map-set f (x ∷ ts) (suc i) t = ap (λ (l : List ℕ). f x ∷ l) (map-set f ts i t)

-- one gate
second-code : (c : ℕ) (A B : Twin) → (changed c A B).code ≡ second_code A.code B.code
second-code c A B = on_bool (eqb A.code B.code) (λ e. rw e refl) (λ e. rw e refl)

result-code : (S : State) (g : Gate) → (result_twin S g).code ≡ gate_code (λ w. (twin S w).code) g
result-code S (Xor a b c) = ap (third (twin S a).code) (second-code S.next (twin S a) (twin S b))
result-code S (And a b c) = refl
result-code S (Inv a c) = refl
result-code S (Eqw a c) = refl
result-code S (Eq v c) = refl

code_same : (u v : ℕ → ℕ) → ((w : ℕ) → u w ≡ v w) → (g : Gate) → gate_code u g ≡ gate_code v g
code_same u v h (Xor a b c) = ap₂ (λ (x y : ℕ). third x (second_code x y)) (h a) (h b)
code_same u v h (And a b c) = h a
code_same u v h (Inv a c) = h a
code_same u v h (Eqw a c) = h a
code_same u v h (Eq k c) = refl

state-code : (S : State) (g : Gate) → codes_of (advance S g) ≡ coded (codes_of S) g
state-code S g =
    map-set code_of S.twins (result g) (result_twin S g)
    ∙ ap (set (codes_of S) (result g)) (result-code S g ∙ sym
    (code_same (code_at (codes_of S)) (λ w. (twin S w).code) (code-at S) g))

state-change : (S : State) (g : Gate) → one_change S g ≡ gate_change (code_at (codes_of S)) g
state-change S (Xor a b c) = rw (code-at S a, code-at S b)
state-change S (And a b c) = rw (code-at S a, code-at S b)
state-change S (Inv a c) = refl
state-change S (Eqw a c) = refl
state-change S (Eq v c) = refl

-- all gates
pub state-codes : (S : State) (gs : List Gate) → codes_of (advance_all S gs) ≡ coded_all (codes_of S) gs
state-codes S [] = refl
state-codes S (g ∷ gs) = state-codes (advance S g) gs ∙ ap (λ (u : List ℕ). coded_all u gs) (state-code S g)

pub state-changes : (S : State) (gs : List Gate) → changed_operands S gs ≡ code_changes (codes_of S) gs
state-changes S [] = refl
state-changes S (g ∷ gs) =
    ap₂ (λ (a b : ℕ). a + b) (state-change S g) (state-changes (advance S g) gs ∙ ap (λ (u : List ℕ). code_changes u gs)
    (state-code S g))

-- the start and the outputs
input-code : (c w e : ℕ) → (input_twin c w e).code ≡ input_code e
input-code c w e = on_bool (is_public e) (λ z. rw z refl) (λ z. rw z refl)

input-codes : (c w : ℕ) (es : List ℕ) (ts : List Twin) → map code_of (input_twins c w es ++ ts) ≡ map input_code es
    ++ map code_of ts
input-codes c w [] ts = refl
input-codes c w (e ∷ es) ts = ap₂ (λ (x : ℕ) (l : List ℕ). x ∷ l) (input-code c w e)
    (input-codes (past_public c e) (w + 1) es ts)

map-replicate : (k : ℕ) → map code_of (replicate k no_twin) ≡ replicate k 0
map-replicate zero = refl
map-replicate (suc k) = ap (λ (l : List ℕ). 0 ∷ l) (map-replicate k)

start-codes : (N : Netlist) (codes : List ℕ) → codes_of (start N codes) ≡ first_codes N codes
start-codes N codes =
    input-codes (input_bits N + 5) 0 codes (replicate (N.wires - input_bits N) no_twin)
    ∙ ap (λ (l : List ℕ). map input_code codes ++ l) (map-replicate (N.wires - input_bits N))

end-changes : (ts : List Twin) (ws : List ℕ) → changed_outputs ts ws ≡ end_changes (map code_of ts) ws
end-changes [] ws = refl
end-changes (t ∷ ts) [] = refl
end-changes (t ∷ ts) (w ∷ ws) = ap (λ (k : ℕ). output_change t.code w + k) (end-changes ts ws)

map-drop : (k : ℕ) (ts : List Twin) → map code_of (drop k ts) ≡ drop k (map code_of ts)
map-drop zero ts = refl
map-drop (suc k) [] = refl
map-drop (suc k) (t ∷ ts) = map-drop k ts

-- the changes of a masking, by codes
pub mask-changes : (N : Netlist) (codes wanted : List ℕ)
    → mask_changes N codes wanted
    ≡ code_changes (first_codes N codes) N.gates + end_changes
    (drop (N.wires - output_bits N) (coded_all (first_codes N codes) N.gates)) wanted
unfolding mask_changes
mask-changes N codes wanted =
    let s = start-codes N codes in
    let k = N.wires - output_bits N in
    ap₂ (λ (a b : ℕ). a + b)
    (state-changes (start N codes) N.gates ∙ ap (λ (u : List ℕ). code_changes u N.gates) s)
    (end-changes (out_twins N codes) wanted
    ∙ ap (λ (u : List ℕ). end_changes u wanted)
    (map-drop k (finish N codes).twins ∙ ap (drop k) (state-codes (start N codes) N.gates
    ∙ ap (λ (u : List ℕ). coded_all u N.gates) s)))
