-- What a source is masked by.
use Rattle.std.specs.Prelude.{ℕ, List, length}
use Rattle.netlist.specs.Netlist.{Netlist}
use Rattle.masking.specs.Mask.{Masked, mask_netlist}
use Rattle.gates.specs.Gates.{tables_of}
use Rattle.mask_rule.specs.Place.{Ready}
use Rattle.mask.specs.declared.masked_text.Job.{Job}
use Rattle.mask.specs.Whole.{Source, Numbers}

-- the tables ws and es are ready for a pass
abbrev pub ReadyFor : Job → List ℕ → List ℕ → Type 0
ReadyFor j ws es = Ready (tables_of j.source.gates) j.source.gates.count j.source.codes.now j.source.wanted.now ws es

-- the masked netlist of a source
abbrev pub masked : Job → Netlist → Masked
masked j N = mask_netlist N j.source.codes.now j.source.wanted.now

-- the source N of W wires is what the tables hold, and the numbers of line one are those of its masked netlist
abbrev pub SourceOf : Job → ℕ → Netlist → Type 0
SourceOf j W N =
    Source (tables_of j.source.gates) j.source.gates.count W (length j.source.codes.now) (length j.source.wanted.now)
    j.shape.ins.now j.shape.outs.now N

abbrev pub NumbersOf : Job → Netlist → Type 0
NumbersOf j N = Numbers (masked j N) (length j.source.wanted.now) j.shape.gates j.shape.wires
