-- What a pass over the gates keeps.
use Rattle.std.specs.Prelude.{T, ℕ, ◌+◌, ◌<◌, true, false, List, ◌≡◌, length, get_or, Option, Some, None, IfSome}
use Rattle.evaluate.specs.Lane.{lane}
use Rattle.netlist.specs.Netlist.{Netlist, input_bits, output_bits}
use Rattle.masking.specs.Mask.{is_input_code, is_wanted, mask_netlist}
use Rattle.netlist.specs.Services.{list_good}
use Rattle.join.specs.Join.{join}
use Rattle.netlist.specs.Read.{WellFormed}
use Rattle.masking.specs.Leak.{EqualCounts}
use Rattle.gates.specs.declared.Parts.{Parts}
use Rattle.certify_records.specs.declared.Record.{Record}
use Rattle.certify.specs.Known.{Known, Open, Makes}
use Rattle.certify.specs.Store.{Recorded, Marked}
use Rattle.certify.specs.declared.gate.Shown.{Shown}
use Rattle.certify.specs.declared.gate.Shown.TheVariants.{Clean, Public}

-- the byte of a mark
abbrev pub byte_of : Shown → ℕ
byte_of Clean = 1
byte_of Public = 3

-- what a mark says of a wire
abbrev pub Shows : Netlist → List ℕ → ℕ → Shown → Type 0
Shows N codes w Clean = EqualCounts N codes w
Shows N codes w Public = Open N codes w

-- both tables hold what is true of a netlist
pub record Holding (N : Netlist) (codes records marks : List ℕ) : Type 0 where
  pub known : Recorded N codes records
  pub marked : Marked N codes marks

-- how many of the wires are shown to be clean: those below the lowest that is not, or all
abbrev pub sure : ℕ → Option ℕ → ℕ
sure wires (Some w) = w
sure wires None = wires

-- of wires below W, the lowest that the marks do not say to be clean, if there is one
pub record LowestUnmarked (marks : List ℕ) (W : ℕ) (found : Option ℕ) : Type 0 where
  pub lower : (w : ℕ) → w < sure W found → lane 0 (get_or marks w 0) ≡ true
  pub unmarked : IfSome found (λ w. (w < W) × (lane 0 (get_or marks w 0) ≡ false))

-- a netlist under input codes, and the codes of its outputs, that came about by the masking steps, or by joining two
-- such
pub data Masking : Netlist → List ℕ → List ℕ → Type 0 where
  steps : (source : Netlist) (codes wanted : List ℕ) → WellFormed source
      → T (list_good is_input_code (input_bits source) codes)
      → T (list_good is_wanted (output_bits source) wanted)
      → Masking (mask_netlist source codes wanted).netlist codes (mask_netlist source codes wanted).codes
  joined : (A B : Netlist) (codes middle out_codes : List ℕ) → Masking A codes middle → Masking B middle out_codes
      → Masking (join A B) codes out_codes

-- more wires have no atoms of their own
abbrev pub most_wires : ℕ
most_wires = 268435456

-- a gate's result is what it makes of its operands
abbrev pub GateMakes : Netlist → List ℕ → Parts → Type 0
GateMakes N codes g = Makes N codes g.kind g.left g.right g.result

-- what is true of a netlist stays so, after a step on its gate g
pub record GateStep (g : Parts) (r m r' m' : List ℕ) : Type 0 where
  pub holds : (N : Netlist) (codes : List ℕ) → GateMakes N codes g → Holding N codes r m → Holding N codes r' m'

-- what is true of a netlist stays so, after a step on its gate g with record x of the left operand
pub record PairStep (g : Parts) (x : Record) (r m r' m' : List ℕ) : Type 0 where
  pub holds : (N : Netlist) (codes : List ℕ) → GateMakes N codes g → Known N codes g.left x → Holding N codes r m
      → Holding N codes r' m'

-- a well-formed netlist whose last two input bits are the mask pair, with a code for each other
pub record Masked (N : Netlist) (codes : List ℕ) : Type 0 where
  pub formed : WellFormed N
  pub ins : input_bits N ≡ length codes + 2

-- what is true of a netlist stays so, after a step on its input wire i
pub record InputStep (i code : ℕ) (r m r' m' : List ℕ) : Type 0 where
  pub holds : (N : Netlist) (codes : List ℕ) → Masked N codes → i < length codes → get_or codes i 0 ≡ code
      → Holding N codes r m → Holding N codes r' m'
