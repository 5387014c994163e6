-- The state before the first source gate and after the last, of any source that the tables hold.
use Prim.Native.Nat.{ℕ, ◌+◌, ◌-◌}
use mathlib.Core.Path.{◌≡◌, sym, ap, ap₂, ◌∙◌}
use mathlib.Core.List.{List, ◌++◌}
use lib.ListN.{length, replicate}
use Rattle.netlist.specs.Netlist.{Netlist}
use Rattle.netlist.specs.Table.{Tables, gates_of, Holds}
use Rattle.masking.specs.Mask.{past_publics, advance_all, start, finish, input_twins, no_twin}
use Rattle.mask_rule.specs.State.{twins_of, state_of, Started}
use Rattle.mask_rule.proofs.States.{state_with}

module _ (t : Tables) (count W : ℕ) {m : ℕ} (cs : List ℕ) (N : Netlist) (s : Holds t count W (length cs) m N) where
  -- the state before them
  pub begun : {c : ℕ} {ws es : List ℕ} → Started (length cs + 5) cs W c ws es → state_of c ws es ≡ start N cs
  begun {c} {ws} {es} h =
      let next : c ≡ (start N cs).next = h.next ∙ ap (λ (n : ℕ). past_publics (n + 5) cs) (sym s.ins) in
      let twins : twins_of ws es ≡ (start N cs).twins
      = h.twins ∙ ap₂ (λ (a b : ℕ). input_twins (b + 5) 0 cs ++ replicate (a - b) no_twin) (sym s.wires) (sym s.ins) in
      λ i. state_with (next i) (twins i)

  -- the state after all source gates
  pub finished : {c₁ c : ℕ} {ws₁ es₁ : List ℕ} (ws es : List ℕ) → Started (length cs + 5) cs W c₁ ws₁ es₁
      → state_of c ws es ≡ advance_all (state_of c₁ ws₁ es₁) (gates_of t count) → state_of c ws es ≡ finish N cs
  finished ws es h a = a ∙ ap₂ advance_all (begun h) (sym s.gates)
