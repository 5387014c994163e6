-- The masked gates before the output copies, of a list of source gates under input codes (docs/RULES.md, Masking a
-- source).
use Rattle.std.specs.Prelude.{ℕ, ◌+◌, List, ◌++◌, length, replicate}
use Rattle.netlist.specs.declared.Gate.{Gate}
use Rattle.masking.specs.Mask.{State, no_twin, mask_gates, public_gates, input_twins, past_publics, emit_all}
use Rattle.masking.specs.Mask.{advance_all}

-- the masked gates of an opening, with one code for each input bit
abbrev pub open_gates : List ℕ → List Gate
open_gates codes = mask_gates (length codes) ++ public_gates (length codes) (length codes + 5) 0 codes

-- the state after them, with an entry for each of m source gates
abbrev pub opened : List ℕ → ℕ → State
opened codes m = record {
  next = past_publics (length codes + 5) codes;
  twins = input_twins (length codes + 5) 0 codes
      ++ replicate m no_twin;
}

abbrev pub afresh : List ℕ → List Gate → List Gate
afresh codes gs = open_gates codes ++ emit_all (length codes) (opened codes (length gs)) gs

-- the state after them
abbrev pub following : List ℕ → List Gate → State
following codes gs = advance_all (opened codes (length gs)) gs
