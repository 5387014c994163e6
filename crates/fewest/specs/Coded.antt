-- The search's definitions, for a source's gates and codes.
use Rattle.std.specs.Prelude.{ℕ, List}
use Rattle.netlist.specs.Netlist.{Netlist}
use Rattle.gates.specs.Gates.{tables_of}
use Rattle.gates.specs.declared.coded.CodedGates.{CodedGates}
use Rattle.fewest.specs.declared.choice.Tried.{Tried}
use Rattle.fewest.specs.Try.{Fits, Entered, TriedIs}
use Rattle.fewest.specs.Search.{Source, Searchable, Begun}

abbrev pub FitsFor : CodedGates → List ℕ → List ℕ → List ℕ → List ℕ → Type 0
FitsFor g way best code lows = Fits (tables_of g.gates) g.gates.count g.codes.now g.wanted.now way best code lows

abbrev pub EnteredFor : CodedGates → List ℕ → ℕ → ℕ → List ℕ → List ℕ → List ℕ → List ℕ → ℕ → Type 0
EnteredFor g way place bound u₀ b₀ u b r = Entered (tables_of g.gates) g.gates.count g.codes.now way place bound u₀ b₀ u
    b r

abbrev pub TriedFor : CodedGates → List ℕ → ℕ → ℕ → List ℕ → List ℕ → List ℕ → List ℕ → List ℕ → List ℕ → Tried → Type 0
TriedFor g way place least best₀ u₀ b₀ best u b r =
    TriedIs (tables_of g.gates) g.gates.count g.codes.now g.wanted.now way place least best₀ u₀ b₀ best u b r

abbrev pub SourceFor : CodedGates → ℕ → Netlist → Type 0
SourceFor g W N = Source (tables_of g.gates) g.gates.count g.codes.now g.wanted.now W N

abbrev pub SearchableFor : CodedGates → List ℕ → List ℕ → List ℕ → List ℕ → List ℕ → Type 0
SearchableFor g way best code lows spans =
    Searchable (tables_of g.gates) g.gates.count g.codes.now g.wanted.now way best code lows spans

abbrev pub BegunFor : CodedGates → List ℕ → List ℕ → List ℕ → List ℕ → List ℕ → List ℕ → List ℕ → List ℕ → List ℕ → ℕ
    → Type 0
BegunFor g way₀ u₀ b₀ s₀ way best u b s c =
    Begun (tables_of g.gates) g.gates.count g.codes.now g.wanted.now way₀ u₀ b₀ s₀ way best u b s c
