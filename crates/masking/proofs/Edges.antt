-- Both sides of the limits on W, and the largest masked netlist, by computation.
use Prim.Native.Nat.{ℕ, ◌+◌, ◌*◌}
use mathlib.Core.Path.{◌≡◌, refl}
use mathlib.Core.List.{List, [], ◌∷◌, map}
use Rattle.netlist.specs.declared.Gate.TheVariants.{And}
use Rattle.netlist.specs.declared.Limits.{Limits}
use Rattle.netlist.specs.declared.Sizes.TheVariants.{Standard, Whole}
use Rattle.netlist.specs.Lists.{ascii}
use Rattle.netlist.specs.Text.{words, word_lines}
use Rattle.netlist.specs.Number.{number}
use Rattle.netlist.specs.Netlist.{Netlist, source_limits, masked_limits}
use Rattle.netlist.specs.Outcome.{Outcome, refused, done}
use Rattle.netlist.specs.GateLine.{gate_line}
use Rattle.netlist.specs.Read.{opening, read_netlist}
use Rattle.masking.specs.Mask.{mask_netlist}
use Rattle.netlist.proofs.Size.{length_bound}

-- W inputs and no gate
abbrev pub inputs_only : ℕ → Netlist
inputs_only W = record { wires = W; inputs = W ∷ []; outputs = 1 ∷ []; gates = [] }

pub record Edge : Type 0 where
  pub limits : Limits
  pub text : List ℕ
  pub read : Outcome Netlist

abbrev pub edge : Limits → List ℕ → Outcome Netlist → Edge
edge L t r = record { limits = L; text = t; read = r }

-- six digits are a number under either choice, and seven under none
abbrev pub edges : List Edge
edges =
    edge (source_limits Standard) (ascii "0 2048\n1 2048\n1 1\n") (done (inputs_only 2048))
    ∷ edge (source_limits Standard) (ascii "0 100000\n1 100000\n1 1\n") (refused 5)
    ∷ edge (masked_limits Standard) (ascii "0 18431\n1 18431\n1 1\n") (done (inputs_only 18431))
    ∷ edge (masked_limits Standard) (ascii "0 18432\n1 18432\n1 1\n") (refused 5)
    ∷ edge (source_limits Whole) (ascii "0 100000\n1 100000\n1 1\n") (done (inputs_only 100000))
    ∷ edge (source_limits Whole) (ascii "0 100001\n1 100001\n1 1\n") (refused 5)
    ∷ edge (masked_limits Whole) (ascii "0 899999\n1 899999\n1 1\n") (done (inputs_only 899999))
    ∷ edge (masked_limits Whole) (ascii "0 900000\n1 900000\n1 1\n") (refused 5)
    ∷ edge (masked_limits Whole) (ascii "0 1000000\n1 1\n1 1\n") (refused 4)
    ∷ edge (masked_limits Standard) (ascii "1 2\n1 1\n1 1\n1 1 100000 1 INV\n") (refused 8)
    ∷ edge (masked_limits Standard) (ascii "1 2\n1 1\n1 1\n1 1 1000000 1 INV\n") (refused 7)
    ∷ []

pub edges-read : map (λ e. read_netlist e.limits e.text) edges ≡ map (λ e. e.read) edges
unfolding words word_lines number gate_line opening read_netlist
edges-read = refl

-- the bound on a masked netlist's wires is reached: a public bit, ANDs of it alone, and every wire an output
abbrev pub and_only : Netlist
and_only = record { wires = 3; inputs = 1 ∷ []; outputs = 3 ∷ []; gates = And 0 0 1 ∷ And 1 1 2 ∷ [] }

pub nine-times : (mask_netlist and_only (0 ∷ []) (0 ∷ 0 ∷ 0 ∷ [])).netlist.wires + 1 ≡ 9 * 3
unfolding mask_netlist
nine-times = refl

-- the longest texts that the whole limits have to hold: 899,769 and 99,747 bytes are to spare
pub whole-texts : (length_bound 6 899999 17 16 ≡ 26100231) × (length_bound 6 100000 16 16 ≡ 2900253)
whole-texts = (refl, refl)
