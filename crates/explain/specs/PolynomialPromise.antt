-- What the polynomial of a wire promises of a call.
use Rattle.std.specs.Prelude.{Ok, Result, ℕ, ◌^◌, ◌<◌, ◌≡◌, true, List, [], ◌∷◌, ltb, length, take, get_or}
use Rattle.netlist.specs.declared.Limits.{Limits}
use Rattle.netlist.specs.declared.Refusal.{Refusal}
use Rattle.netlist.specs.declared.Sizes.{Sizes}
use Rattle.netlist.specs.Netlist.{Netlist, masked_limits}
use Rattle.netlist.specs.Outcome.{Outcome, done, ask, and_then}
use Rattle.netlist.specs.Read.{read_netlist}
use Rattle.netlist.specs.Services.{tables_long, delivered, is_one, Answers, Cleared}
use Rattle.causes.specs.Promise.{explained}
use Rattle.explain.specs.Polynomial.{value}
use Rattle.explain.specs.Wire.{wire_bit, variables, polynomial}

-- questions 10 to 12, 21 and 14 of a netlist
abbrev pub polynomial_outcome : List ℕ → ℕ → ℕ → Netlist → Outcome (List ℕ)
polynomial_outcome codes w room N = explained (ask 21 (ltb w N.wires) (delivered room (polynomial N codes w))) codes N

-- questions 1 to 12, 21 and 14
unfoldable pub polynomial_call : Limits → List ℕ → List ℕ → List ℕ → ℕ → ℕ → Outcome (List ℕ)
polynomial_call L tables text codes w room = ask 1 (tables_long L tables)
    (and_then (read_netlist L text) (polynomial_outcome codes w room))

-- the outcome of a call that is handed its sizes, a text, input codes, a wire, a result buffer, and tables of operands,
-- results, given wires and words
abbrev pub call : Sizes → List ℕ → List ℕ → ℕ → List ℕ → List ℕ → List ℕ → List ℕ → List ℕ → Outcome (List ℕ)
call s text codes wire out o r g w = polynomial_call (masked_limits s)
    (length o ∷ length r ∷ length g ∷ length w ∷ []) text codes wire (length out)

-- the sizes, the text, the input codes and the wire, then the result buffer and each table before and after the call
pub record Promise (s : Sizes) (text codes : List ℕ) (wire : ℕ) (out out' o o' r r' g g' w w' : List ℕ)
    (a : Result ℕ Refusal) : Type 0 where
  pub answers : Answers (call s text codes wire out o r g w) out out' a
  -- the polynomial is the wire's function: under every mask setting and input setting its value is the wire's bit
  pub function : (n : ℕ) (N : Netlist) → a ≡ Ok n → read_netlist (masked_limits s) text ≡ done N → (t : ℕ)
      → t < 2 ^ variables codes
      → value (variables codes) (λ m. is_one (get_or (take n out') m 0)) t ≡ wire_bit N true codes wire t
  pub operands : Cleared o o'
  pub results : Cleared r r'
  pub marks : Cleared g g'
  pub words : Cleared w w'
