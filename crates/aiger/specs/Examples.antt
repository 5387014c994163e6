-- AIGER files and the outcomes of their calls.
use Rattle.std.specs.Prelude.{ℕ, List, [], ◌∷◌, map, ◌≡◌}
use Prim.Native.String.{String}
use Rattle.netlist.specs.Lists.{ascii}
use Rattle.netlist.specs.declared.Sizes.TheVariants.{Standard}
use Rattle.netlist.specs.Netlist.{small_wires, small_text, source_limits}
use Rattle.netlist.specs.Outcome.{Outcome, refused, done}
use Rattle.aiger.specs.Call.{aiger_call}

pub record Example : Type 0 where
  pub text : String
  pub outcome : Outcome (List ℕ)

abbrev pub gives : String → String → Example
gives t r = record { text = t; outcome = done (ascii r) }

abbrev pub refuses : String → ℕ → Example
refuses t q = record { text = t; outcome = refused q }

-- every text has its outcome, with tables as short as question 1 admits and a result buffer as long as question 2's
-- longest text
abbrev pub Shown : List Example → Type 0
Shown es =
    map (λ e. aiger_call (source_limits Standard) (small_wires Standard ∷ small_wires Standard ∷ small_wires Standard ∷
    []) (ascii e.text) (small_text Standard)) es
    ≡ map (λ e. e.outcome) es

-- an AND; an OR by inverses, its input lines not in the order of their variables, with blank lines; constants; an
-- output that is an input and one that is its inverse; one variable inverse twice; what stands after; CR LF; then the
-- refusals
abbrev pub examples : List Example
examples =
    gives "aag 3 2 0 1 1\n2\n4\n6\n6 2 4\n" "2 4\n1 2\n1 1\n\n2 1 0 1 2 AND\n1 1 2 3 EQW\n"
    ∷ gives "aag 3 2 0 1 1\n\n 4\n2 \n \n7\n6   5 3"
    "4 6\n1 2\n1 1\n\n1 1 0 2 INV\n1 1 1 3 INV\n2 1 2 3 4 AND\n1 1 4 5 INV\n"
    ∷ gives "aag 2 1 0 3 1\n2\n4\n0\n1\n4 1 2\n"
    "5 6\n1 1\n1 3\n\n1 1 1 1 EQ\n2 1 1 0 2 AND\n1 1 2 3 EQW\n1 1 0 4 EQ\n1 1 1 5 EQ\n"
    ∷ gives "aag  1 1 0 2 0\n2\n2\n3\n" "2 3\n1 1\n1 2\n\n1 1 0 1 EQW\n1 1 0 2 INV\n"
    ∷ gives "aag 2 1 0 1 1\n2\n4\n4 3 3\n" "4 5\n1 1\n1 1\n\n1 1 0 1 INV\n1 1 0 2 INV\n2 1 1 2 3 AND\n1 1 3 4 EQW\n"
    ∷ gives "aag 1 1 0 1 0\n2\n2\ni0 x\no0 y\r\nc\nAny bytes\t\n6 6 6" "1 2\n1 1\n1 1\n\n1 1 0 1 EQW\n"
    ∷ gives "aag 1 1 0 1 0\r\n2 \r\n\r\n2\r\n" "1 2\n1 1\n1 1\n\n1 1 0 1 EQW\n"
    ∷ refuses "" 19
    ∷ refuses " aag 1 1 0 1 0\n2\n2\n" 19
    ∷ refuses "aig 1 1 0 1 0\n2\n2\n" 19
    ∷ refuses "aag \n1 1 0 1 0\n2\n2\n" 19
    ∷ refuses "aag 1 1 0 1 0 0\n2\n2\n" 19
    ∷ refuses "aag 1 0 0 1 0\n0\n" 19
    ∷ refuses "aag 1 1 0 0 0\n2\n" 19
    ∷ refuses "aag 2048 1 1 1 0\n" 19
    ∷ refuses "aag 2047 1 1 1 0\n" 20
    ∷ refuses "aag 3 2 0 1 1\n2\n4\n6\n" 19
    ∷ refuses "aag 1 1 0 1 0\n2 2\n2\n" 19
    ∷ refuses "aag 1 1 0 1 0\n3\n2\n" 19
    ∷ refuses "aag 1 1 0 1 0\n2\n2\t\n" 19
    ∷ refuses "aag 1 1 0 1 0\n2\n2\r" 19
    ∷ refuses "aag 1 1 0 1 0\n2\n\r \n2\n" 19
    ∷ refuses "aag 1 1 0 1 0\n2\n2\r\r\n" 19
    ∷ refuses "aag 1 1\r1 1 0\n" 19
    ∷ refuses "aag 1 1 1 1 0\n\r2" 20
    ∷ refuses "aag 1 1 0 1 0\n4\n0\n" 19
    ∷ refuses "aag 2 2 0 1 0\n2\n2\n2\n" 19
    ∷ refuses "aag 2 1 0 1 1\n2\n4\n4 4 2\n" 19
    ∷ refuses "aag 2 1 0 1 1\n2\n4\n2 2 2\n" 19
    ∷ refuses "aag 2 1 0 1 0\n2\n4\n" 19
    ∷ []
