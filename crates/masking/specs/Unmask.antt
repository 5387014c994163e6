-- What a masked netlist computes: with the masks taken off, what its source computes.
use Rattle.std.specs.Prelude.{ℕ, Bool, List, [], ◌∷◌, ◌≡◌, length}
use Rattle.netlist.specs.Netlist.{Netlist}
use Rattle.netlist.specs.Eval.{differs, outputs_of}
use Rattle.masking.specs.Leak.{mask_of, masked}

-- bits with the masks of their codes taken off: each bit XOR the mask of its code
abbrev pub unmasked : Bool → Bool → List ℕ → List Bool → List Bool
unmasked m0 m1 [] bits = []
unmasked m0 m1 (e ∷ es) [] = []
unmasked m0 m1 (e ∷ es) (b ∷ bits) = differs b (mask_of m0 m1 e) ∷ unmasked m0 m1 es bits

-- M, with codes for its input bits and others for its output bits, computes what N does: for all input settings and all
-- four mask settings its unmasked outputs are N's
abbrev pub Unmasks : Netlist → List ℕ → Netlist → List ℕ → Type 0
Unmasks N codes M out_codes =
    (m0 m1 : Bool) (x : List Bool) → length x ≡ length codes
    → unmasked m0 m1 out_codes (outputs_of M (masked m0 m1 codes x)) ≡ outputs_of N x
