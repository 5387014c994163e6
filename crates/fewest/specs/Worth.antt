-- What the result of a call that is accepted is worth.
use Rattle.std.specs.Prelude.{ℕ, ◌-◌, ◌≤◌, min, ◌≡◌, List, length, get_or}
use Rattle.netlist.specs.declared.Sizes.{Sizes}
use Rattle.netlist.specs.Netlist.{Netlist, source_limits, masked_limits}
use Rattle.netlist.specs.Outcome.{done}
use Rattle.netlist.specs.Read.{read_netlist}
use Rattle.masking.specs.Mask.{finish}
use Rattle.masking.specs.GateCount.{gate_count}
use Rattle.masking.specs.Twins.{Twins}
use Rattle.masking.specs.Unmask.{Unmasks}
use Rattle.masking.specs.Leak.{Clean}
use Rattle.fewest.specs.Choice.{Choice, Takes, ways, choices, choice, chosen_source, chosen_inputs}
use Rattle.fewest.specs.Fewest.{FirstLeast, masked_under, changes_under, changes_at}
use Rattle.fewest.specs.Call.{Result}

pub record Worth (s : Sizes) (text codes wanted : List ℕ) (budget : ℕ) (R : Result) : Type 0 where
  -- the source, and the number of the choice that is given: the first of the fewest among as many as the budget allows
  pub source : Netlist
  pub read : read_netlist (source_limits s) text ≡ done source
  pub number : ℕ
  pub first : FirstLeast (changes_at source codes wanted) (min budget (choices source codes)) number
  pub inputs : R.inputs ≡ chosen_inputs codes (choice source codes number)
  pub changes : get_or R.tally 0 0 ≡ changes_at source codes wanted number
  -- the netlist that the text reads as: gate for gate the one that the masking steps give under that choice
  pub netlist : Netlist
  pub back : read_netlist (masked_limits s) R.text ≡ done netlist
  pub steps : netlist ≡ (masked_under source codes wanted (choice source codes number)).netlist
  -- how many gates it has, as docs/RULES.md, Masking a source, counts them
  pub count : length netlist.gates ≡ gate_count (chosen_source source (choice source codes number)) R.inputs
  -- docs/RULES.md, Masking a source: for all inputs and all four mask settings its outputs with their masks off are the
  -- source's
  pub unmasks : Unmasks source R.inputs netlist R.outputs
  -- docs/RULES.md, Leaks: every wire has the same count under any two input settings that agree in their public bits
  pub equal_counts : Clean netlist R.inputs
  -- docs/RULES.md, Twins: every source wire has its twin, the wire and the code that the masking steps leave under that
  -- choice; for all inputs and all four mask settings the twin is the source wire's bit XOR the mask of that code
  pub twins : Twins source R.inputs netlist
      (finish (chosen_source source (choice source codes number)) R.inputs).twins
  -- no choice goes below the floor, and the distance from the best is at most the difference
  pub least : (d : Choice) → Takes (ways codes source.gates) d → get_or R.tally 1 0 ≤ changes_under source codes wanted
      d
  pub near : (d : Choice) → Takes (ways codes source.gates) d
      → get_or R.tally 0 0 - changes_under source codes wanted d ≤ get_or R.tally 0 0 - get_or R.tally 1 0
